-- What a valid schema gives, declaration by declaration (`law_valid`).
use Rattle.std.specs.Prelude.{◌≡◌, ℕ, ◌≤◌, true, false, List, length, Some, None, slice_get, IsTrue}
use Rattle.std.specs.List.{list_all}
use Rattle.aidl_schema.specs.declared.schema.Decl.{Decl}
use Rattle.aidl_schema.specs.declared.schema.AidlType.{AidlType}
use Rattle.aidl_schema.specs.Containment.{fields_of, holds_itself}
use Rattle.aidl_schema.specs.Methods.{is_field_type, has_method_types, has_way, is_in_way, last_id}
use Rattle.aidl_schema.specs.Names.{is_name, is_outer, are_ascending, are_identifiers, methods_of, enumerators_of}
use Rattle.aidl_schema.specs.Names.{field_names, method_names, enumerator_names, constant_names, argument_names}
use Rattle.aidl_schema.specs.Sizes.{default_depth, default_nodes}
use Rattle.aidl_schema.specs.Types.{elem, is_type}
use Rattle.aidl_schema.specs.Valid.{one_of, has_value, has_initializer_of, is_union_whole, is_enum_whole, may_be_fixed}

-- items at different places have different keys
abbrev pub AreApart : {X K : Type 0} → (X → K) → List X → Type 0
AreApart {X} {K} key xs = (j k : ℕ) (x y : X) → slice_get xs j ≡ Some x → slice_get xs k ≡ Some y
    → key x ≡ key y → j ≡ k

-- it holds of each of these
abbrev pub OfEach : {X : Type 0} → List X → (X → Type 0) → Type 0
OfEach {X} xs P = (k : ℕ) (x : X) → slice_get xs k ≡ Some x → P x

-- of the declaration d, whose number is n
pub record Holds (S : List Decl) (n : ℕ) (d : Decl) : Type 0 where
  -- the name, and that of the enclosing declaration
  pub name : IsTrue (is_name d.name.0)
  pub outer : IsTrue (is_outer S d.outer d.name.0)
  -- names of members are identifiers, and differ
  pub field_identifiers : IsTrue (are_identifiers (field_names d.kind))
  pub method_identifiers : IsTrue (are_identifiers (method_names d.kind))
  pub enumerator_identifiers : IsTrue (are_identifiers (enumerator_names d.kind))
  pub constant_identifiers : IsTrue (are_identifiers (constant_names d))
  pub fields : AreApart (λ f. f.name.0) (fields_of d.kind)
  pub methods : AreApart (λ m. m.name.0) (methods_of d.kind)
  pub enumerators : AreApart (λ e. e.name.0) (enumerators_of d.kind)
  pub constants : AreApart (λ c. c.name.0) d.constants
  pub sorted : IsTrue (are_ascending (constant_names d))
  pub argument_identifiers : OfEach (methods_of d.kind) (λ m. IsTrue (are_identifiers (argument_names m)))
  pub arguments : OfEach (methods_of d.kind) (λ m. AreApart (λ a. a.name.0) m.args)
  -- types of fields, results and arguments
  pub field_types : IsTrue (list_all (λ f. is_field_type S f) (fields_of d.kind))
  pub method_types : IsTrue (list_all (λ m. has_method_types S m) (methods_of d.kind))
  -- methods
  pub ids : AreApart (λ m. m.id) (methods_of d.kind)
  pub small_ids : OfEach (methods_of d.kind) (λ m. m.id ≤ last_id)
  pub ways : OfEach (methods_of d.kind) (λ m. IsTrue (list_all (λ a. has_way S a) m.args))
  pub oneway : OfEach (methods_of d.kind) (λ m. m.oneway ≡ true
      → (m.result ≡ None) × IsTrue (list_all (λ a. is_in_way a.way) m.args))
  -- constants, initializers and enumerators
  pub values : IsTrue (list_all (λ c. has_value S c) d.constants)
  pub initializers : IsTrue (list_all (λ f. has_initializer_of S f.ty f.initial) (fields_of d.kind))
  pub union : IsTrue (is_union_whole d.kind)
  pub enum : IsTrue (is_enum_whole d.kind)
  -- what it holds
  pub fixed : IsTrue (may_be_fixed S d)
  pub grounded : holds_itself S n ≡ false
  pub depth : default_depth S (one_of n) ≤ 32
  pub nodes : default_nodes S (one_of n) ≤ 512
  -- how much there is of it
  pub few_fields : length (fields_of d.kind) ≤ 4096
  pub few_methods : length (methods_of d.kind) ≤ 4096
  pub few_enumerators : length (enumerators_of d.kind) ≤ 4096
  pub few_constants : length d.constants ≤ 4096
  pub few_arguments : OfEach (methods_of d.kind) (λ m. length m.args ≤ 255)

-- of each declaration
abbrev pub AllHold : List Decl → Type 0
AllHold S = (n : ℕ) (d : Decl) → slice_get S n ≡ Some d → Holds S n d

-- the type of an element of a type of the schema is one of the schema
abbrev pub HasElements : List Decl → Type 0
HasElements S = (t : AidlType) → is_type S t ≡ true → is_type S (elem S t) ≡ true
