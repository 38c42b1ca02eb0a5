-- The fields and methods of a declaration of the schema are those of its members in the trees.
use Rattle.std.proofs.Common.{◌≡◌, ◌≤◌, ◌<◌, ◌+◌, ℕ, Bool, true, ◌||◌, false, List, [], ◌∷◌, length, refl, arith}
use Rattle.std.specs.List.{list_all}
use Rattle.aidl_schema.specs.declared.schema.Field.{Field}
use Rattle.aidl_schema.specs.declared.schema.Method.{Method}
use Rattle.aidl_schema.specs.Containment.{fields_of}
use Rattle.aidl_schema.specs.Names.{methods_of}
use Rattle.aidl_syntax.specs.Trees as tree
use Rattle.aidl_syntax.specs.Trees.{Body}
use Rattle.aidl_syntax.specs.Trees.Body.{parcelable, union, enum, interface}
use Rattle.aidl_syntax.specs.Members.{Member, members, listed}
use Rattle.aidl_syntax.specs.Members.Member.{field, constant, method, enumerator, nested}
use Rattle.aidl_syntax.specs.Sources.{Source}
use Rattle.const_values.specs.declared.wanted.Wanted.{Wanted}
use Rattle.type_uses.specs.Ids.{id_of}
use Rattle.type_rules.specs.MethodRules.{is_oneway_body}
use Rattle.tree_schema.specs.Parts.{field_in, fields_in, method_in, methods_in}
use Rattle.tree_schema.specs.SchemaOf.{kind_of}
use Rattle.tree_schema.specs.Values.{Outcomes}
use Rattle.tree_schema.proofs.lemmas.walked.Placed.{Each}

module _ (files : List Source) (outcomes : Outcomes) (file scope : ℕ) (P : Member → Type 0) where
  module _ (q : Field → Bool) (each : (f : tree.Field) (later : Bool) → P (field f) → q (field_in files outcomes file scope later f) ≡ true) where
    fields_hold : (in_union later : Bool) (ms : List Member) → Each P ms → list_all q (fields_in files outcomes file scope in_union later ms) ≡ true
    fields_hold in_union later [] h = refl
    fields_hold in_union later (field f ∷ ms) h = rw (each f later h.0, fields_hold in_union (later || in_union) ms h.1) refl
    fields_hold in_union later (constant c ∷ ms) h = fields_hold in_union later ms h.1
    fields_hold in_union later (method m ∷ ms) h = fields_hold in_union later ms h.1
    fields_hold in_union later (enumerator e ∷ ms) h = fields_hold in_union later ms h.1
    fields_hold in_union later (nested d ∷ ms) h = fields_hold in_union later ms h.1

    -- a test that each field of a tree gives is passed by those of the schema
    pub fields-hold : (w : Wanted) (b : Body) → Each P (members b) → list_all q (fields_of (kind_of files outcomes file scope w b)) ≡ true
    fields-hold w (parcelable ms) h = fields_hold false false (listed ms) h
    fields-hold w (union ms) h = fields_hold true false (listed ms) h
    fields-hold w (enum es) h = refl
    fields-hold w (interface oneway ms) h = refl

  module _ (most : ℕ) (q : Method → Bool) (oneway : Bool)
      (each : (m : tree.Method) (before : ℕ) → before < most → P (method m) → q (method_in files file scope oneway (id_of before m) m) ≡ true) where
    methods_hold : (before : ℕ) (ms : List Member) → before + length ms ≤ most → Each P ms → list_all q (methods_in files file scope oneway before ms) ≡ true
    methods_hold before [] le h = refl
    methods_hold before (field f ∷ ms) le h = methods_hold before ms (omega arith) h.1
    methods_hold before (constant c ∷ ms) le h = methods_hold before ms (omega arith) h.1
    methods_hold before (method m ∷ ms) le h = rw (each m before (omega arith) h.0, methods_hold (before + 1) ms (omega arith) h.1) refl
    methods_hold before (enumerator e ∷ ms) le h = methods_hold before ms (omega arith) h.1
    methods_hold before (nested d ∷ ms) le h = methods_hold before ms (omega arith) h.1

  -- so it is with the methods, of which fewer than so many stand before each
  pub methods-hold : (most : ℕ) (q : Method → Bool) (w : Wanted) (b : Body)
      → ((m : tree.Method) (before : ℕ) → before < most → P (method m) → q (method_in files file scope (is_oneway_body b) (id_of before m) m) ≡ true)
      → length (members b) ≤ most → Each P (members b) → list_all q (methods_of (kind_of files outcomes file scope w b)) ≡ true
  methods-hold most q w (parcelable ms) each le h = refl
  methods-hold most q w (union ms) each le h = refl
  methods-hold most q w (enum es) each le h = refl
  methods-hold most q w (interface oneway ms) each le h = methods_hold most q oneway each 0 (listed ms) (omega arith) h
