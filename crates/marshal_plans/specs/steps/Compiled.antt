-- What each step of compiling adds, as plain functions.
use Rattle.std.specs.Prelude.{ℕ, suc, ◌+◌, Bool, if◌then◌else◌, List, [], ◌∷◌, ◌++◌, length, Option, Some, None, get_or}
use Rattle.aidl_base.specs.declared.constant.Const.{Const}
use Rattle.aidl_schema.specs.declared.schema.AidlType.{AidlType}
use Rattle.aidl_schema.specs.declared.schema.Arg.{Arg}
use Rattle.aidl_schema.specs.declared.schema.Base.{Base}
use Rattle.aidl_schema.specs.declared.schema.Base.TheVariants as base
use Rattle.aidl_schema.specs.declared.schema.Decl.{Decl}
use Rattle.aidl_schema.specs.declared.schema.Field.{Field}
use Rattle.aidl_schema.specs.declared.schema.Method.{Method}
use Rattle.aidl_schema.specs.Containment.{fields_of}
use Rattle.aidl_schema.specs.Names.{methods_of}
use Rattle.aidl_schema.specs.Types.{Form, form_of, is_one, is_raw, elem}
use Rattle.aidl_schema.specs.Types as form
use Rattle.marshal_plans.specs.declared.plans.PlanId.{PlanId}
use Rattle.marshal_plans.specs.declared.plans.PlanItem.{PlanItem}
use Rattle.marshal_plans.specs.declared.plans.PlanItem.TheVariants.{Word, Long, Text, Raw, Seq, Rec, Alt}
use Rattle.marshal_plans.specs.declared.plans.WordKind.TheVariants.{Truth, Byte, Char, Int}
use Rattle.marshal_plans.specs.declared.plans.Plans.{Plans}

-- where the entries of each declaration begin, when the first begin at k
abbrev pub firsts_from : ℕ → List Decl → List ℕ
firsts_from k [] = []
firsts_from k (d ∷ ds) = k ∷ firsts_from (k + length (fields_of d.kind)) ds

-- of what a base names
abbrev pub first_in : List ℕ → Base → ℕ
first_in firsts (base.Named n) = get_or firsts n 0
first_in firsts _ = 0

-- the item of a type of shape one
abbrev pub one_item : Bool → ℕ → Form → PlanItem
one_item nullable first form.truth = Word Truth
one_item nullable first form.byte = Word Byte
one_item nullable first form.char = Word Char
one_item nullable first form.int = Word Int
one_item nullable first form.long = Long
one_item nullable first form.text = Text nullable
one_item nullable first (form.parcelable fs) = Rec nullable first (length fs)
one_item nullable first (form.union fs) = Alt nullable first (length fs)
one_item nullable first form.nothing = Long

abbrev pub single : List Decl → List ℕ → AidlType → PlanItem
single S firsts t = one_item t.nullable (first_in firsts t.base) (form_of S t.base)

-- plans so far, and the id of the item that was added
pub record Added : Type 0 where
  pub plans : Plans
  pub id : PlanId

abbrev pub pushed : Plans → PlanItem → Added
pushed p i = record { plans = record p { items = p.items ++ i ∷ [] }; id = record { 0 = length p.items } }

-- a sequence after its element
abbrev pub sequence_after : Bool → Added → Added
sequence_after nullable a = pushed a.plans (Seq nullable a.id)

-- with the item of a type
abbrev pub added : List Decl → List ℕ → Plans → AidlType → Added
added S firsts p t = if is_one t.shape then pushed p (single S firsts t)
    else (if is_raw S t then pushed p (Raw t.nullable)
    else sequence_after t.nullable (pushed p (single S firsts (elem S t))))

-- with the entry of a field whose item was added
abbrev pub entered : Added → Option Const → Plans
entered a initial = record a.plans { fields = a.plans.fields ++ record { item = a.id; initial = initial } ∷ [] }

-- with those of these fields
abbrev pub with_fields : List Decl → List ℕ → Plans → List Field → Plans
with_fields S firsts p [] = p
with_fields S firsts p (f ∷ fs) = with_fields S firsts (entered (added S firsts p f.ty) f.initial) fs

-- with those of the fields of these declarations
abbrev pub with_decls : List Decl → List ℕ → Plans → List Decl → Plans
with_decls S firsts p [] = p
with_decls S firsts p (d ∷ ds) = with_decls S firsts (with_fields S firsts p (fields_of d.kind)) ds

-- with the start of an argument or result whose item was added
abbrev pub started : Added → ℕ → ℕ → Option ℕ → Plans
started a n m place = record a.plans {
  starts = a.plans.starts
      ++ record { interface = n; method = m; place = place; item = a.id } ∷ [];
}

-- with those of arguments from position k on
abbrev pub with_arguments : List Decl → List ℕ → ℕ → ℕ → ℕ → Plans → List Arg → Plans
with_arguments S firsts n m k p [] = p
with_arguments S firsts n m k p (a ∷ rest) =
    with_arguments S firsts n m (suc k) (started (added S firsts p a.ty) n m (Some k)) rest

-- with that of a result
abbrev pub with_result : List Decl → List ℕ → ℕ → ℕ → Plans → Option AidlType → Plans
with_result S firsts n m p None = p
with_result S firsts n m p (Some t) = started (added S firsts p t) n m None

abbrev pub with_method : List Decl → List ℕ → ℕ → ℕ → Plans → Method → Plans
with_method S firsts n m p w = with_result S firsts n m (with_arguments S firsts n m 0 p w.args) w.result

-- with those of methods from number m on
abbrev pub with_methods : List Decl → List ℕ → ℕ → ℕ → Plans → List Method → Plans
with_methods S firsts n m p [] = p
with_methods S firsts n m p (w ∷ ws) = with_methods S firsts n (suc m) (with_method S firsts n m p w) ws

-- with those of declarations from number n on
abbrev pub with_interfaces : List Decl → List ℕ → ℕ → Plans → List Decl → Plans
with_interfaces S firsts n p [] = p
with_interfaces S firsts n p (d ∷ ds) =
    with_interfaces S firsts (suc n) (with_methods S firsts n 0 p (methods_of d.kind)) ds

-- with the id of an extra type whose item was added
abbrev pub extended : Added → Plans
extended a = record a.plans { extras = a.plans.extras ++ a.id ∷ [] }

-- with those of extra types
abbrev pub with_extras : List Decl → List ℕ → Plans → List AidlType → Plans
with_extras S firsts p [] = p
with_extras S firsts p (t ∷ ts) = with_extras S firsts (extended (added S firsts p t)) ts
