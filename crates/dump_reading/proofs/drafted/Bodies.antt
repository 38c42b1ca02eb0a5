-- The fields, the constants and the enumerators of a body, beside those of its declaration in the schema.
use Rattle.std.proofs.Common.{◌≡◌, ℕ, Bool, true, false, List, [], ◌∷◌, ◌++◌, map, refl, sym, ap, ◌∙◌}
use Rattle.std.specs.List.{list_all}
use Rattle.std.proofs.lemmas.Bool.{and_parts, and_from}
use Rattle.aidl_syntax.specs.Trees as tree
use Rattle.aidl_syntax.specs.Trees.Members.{none}
use Rattle.aidl_syntax.specs.Trees.Body.{enum, parcelable, union, interface}
use Rattle.aidl_syntax.specs.Members.{Member, listed, members}
use Rattle.aidl_syntax.specs.Members.Member.{field, constant, method, enumerator}
use Rattle.aidl_syntax.specs.Sources.{Source}
use Rattle.const_values.specs.declared.wanted.Wanted.{Wanted}
use Rattle.const_items.specs.Items.{Item, of_body}
use Rattle.tree_schema.specs.Parts.{listed_constants}
use Rattle.tree_schema.specs.SchemaOf.{kind_of}
use Rattle.tree_schema.specs.Values.{Outcomes}
use Rattle.tree_schema.proofs.lemmas.walked.Placed.{Each}
use Rattle.aidl_schema.specs.declared.schema.Decl.{Decl}
use Rattle.aidl_schema.specs.declared.schema.Field.{Field}
use Rattle.aidl_schema.specs.declared.schema.Constant.{Constant}
use Rattle.aidl_schema.specs.declared.schema.Kind.{Kind}
use Rattle.aidl_schema.specs.declared.schema.Kind.TheVariants.{Interface, Parcelable, Union, Enum}
use Rattle.aidl_schema.specs.Containment.{fields_of}
use Rattle.aidl_schema.specs.Methods.{is_field_type}
use Rattle.aidl_schema.specs.Names.{may_enclose}
use Rattle.aidl_schema.specs.Valid.{has_value, has_initializer_of, is_union_whole}
use Rattle.dump_reading.specs.Bare.{bare_body}
use Rattle.dump_reading.specs.DumpTrees.{body_tree, constants_before, field_tree, constant_tree, method_tree}
use Rattle.dump_reading.proofs.named.Members.{members_bare, members_written, all_mapped}
use Rattle.dump_reading.proofs.settled.Members.{free_fields, union_fields}
use Rattle.dump_reading.proofs.valued.WalkMembers.{is_no_field, is_no_constant, OfFields, OfConstants, enumerators_free, no_constants, fields_walk, constants_walk}

pub all_join : (test : Member → Bool) (xs ys : List Member) → list_all test xs ≡ true → list_all test ys ≡ true → list_all test (xs ++ ys) ≡ true
all_join test [] ys h k = k
all_join test (x ∷ xs) ys h k = let two = and_parts (test x) (list_all test xs) h in and_from (test x) (list_all test (xs ++ ys)) two.0 (all_join test xs ys two.1 k)

module _ (S : List Decl) (files : List Source) (outcomes : Outcomes) (file scope : ℕ) (P : Item → Type 0) (d : Decl) (last : tree.Members) (no_field : list_all is_no_field (listed last) ≡ true) (no_constant : list_all is_no_constant (listed last) ≡ true)
    (w : Wanted) where
  rest_free : list_all is_no_field (map (λ c. constant (constant_tree S c)) d.constants ++ listed last) ≡ true
  rest_free = all_join is_no_field (map (λ c. constant (constant_tree S c)) d.constants) (listed last) (all_mapped S is_no_field (λ c. constant (constant_tree S c)) d.constants (λ k c e. refl)) no_field

  pub fields_of_body : {X : Type 0} (g : Field → X) → OfFields S files outcomes file scope P g → (k : Kind) → (may_enclose k ≡ false → (d.constants ≡ []) × (last ≡ none))
      → list_all (λ f. is_field_type S f) (fields_of k) ≡ true → list_all (λ f. has_initializer_of S f.ty f.initial) (fields_of k) ≡ true → is_union_whole k ≡ true
      → (t : tree.Body) → bare_body t ≡ body_tree S k (constants_before S d last) → Each P (of_body files file scope w t) → map g (fields_of (kind_of files outcomes file scope w t)) ≡ map g (fields_of k)
  fields_of_body g one (Interface xs) bare ft fv un (interface oneway ms) e st = refl
  fields_of_body g one (Parcelable fs) bare ft fv un (parcelable ms) e st =
      fields_walk S files outcomes file scope P g one false false fs (free_fields S fs ft fv) _ rest_free (listed ms) (sym (members_bare (parcelable ms)) ∙ ap members e ∙ members_written S d (Parcelable fs) last bare) st
  fields_of_body g one (Union fs) bare ft fv un (union ms) e st =
      fields_walk S files outcomes file scope P g one true false fs (union_fields S fs ft fv un) _ rest_free (listed ms) (sym (members_bare (union ms)) ∙ ap members e ∙ members_written S d (Union fs) last bare) st
  fields_of_body g one (Enum b xs) bare ft fv un (enum ys) e st = refl
  fields_of_body g one (Enum b xs) bare ft fv un (parcelable ms) e st = cc
  fields_of_body g one (Enum b xs) bare ft fv un (union ms) e st = cc
  fields_of_body g one (Enum b xs) bare ft fv un (interface oneway ms) e st = cc
  fields_of_body g one (Interface xs) bare ft fv un (parcelable ms) e st = cc
  fields_of_body g one (Interface xs) bare ft fv un (union ms) e st = cc
  fields_of_body g one (Interface xs) bare ft fv un (enum ys) e st = cc
  fields_of_body g one (Parcelable fs) bare ft fv un (interface oneway ms) e st = cc
  fields_of_body g one (Parcelable fs) bare ft fv un (union ms) e st = cc
  fields_of_body g one (Parcelable fs) bare ft fv un (enum ys) e st = cc
  fields_of_body g one (Union fs) bare ft fv un (interface oneway ms) e st = cc
  fields_of_body g one (Union fs) bare ft fv un (parcelable ms) e st = cc
  fields_of_body g one (Union fs) bare ft fv un (enum ys) e st = cc

  pub constants_of_body : {X : Type 0} (g : Constant → X) → OfConstants S files outcomes file scope P g → (k : Kind) → (may_enclose k ≡ false → (d.constants ≡ []) × (last ≡ none)) → list_all (λ c. has_value S c) d.constants ≡ true
      → (t : tree.Body) → bare_body t ≡ body_tree S k (constants_before S d last) → Each P (of_body files file scope w t) → map g (listed_constants files outcomes file scope (members t)) ≡ map g d.constants
  constants_of_body g one (Interface xs) bare hv (interface oneway ms) e st =
      constants_walk S files outcomes file scope P g one false false (map (λ m. method (method_tree S m)) xs) (all_mapped S is_no_constant (λ m. method (method_tree S m)) xs (λ k x q. refl)) d.constants hv (listed last) no_constant (listed ms)
      (sym (members_bare (interface oneway ms)) ∙ ap members e ∙ members_written S d (Interface xs) last bare) st
  constants_of_body g one (Parcelable xs) bare hv (parcelable ms) e st =
      constants_walk S files outcomes file scope P g one false false (map (λ f. field (field_tree S f)) xs) (all_mapped S is_no_constant (λ f. field (field_tree S f)) xs (λ k x q. refl)) d.constants hv (listed last) no_constant (listed ms)
      (sym (members_bare (parcelable ms)) ∙ ap members e ∙ members_written S d (Parcelable xs) last bare) st
  constants_of_body g one (Union xs) bare hv (union ms) e st =
      constants_walk S files outcomes file scope P g one true false (map (λ f. field (field_tree S f)) xs) (all_mapped S is_no_constant (λ f. field (field_tree S f)) xs (λ k x q. refl)) d.constants hv (listed last) no_constant (listed ms)
      (sym (members_bare (union ms)) ∙ ap members e ∙ members_written S d (Union xs) last bare) st
  constants_of_body g one (Enum b xs) bare hv (enum ys) e st = ap (map g) (no_constants S files outcomes file scope P (map enumerator ys) (enumerators_free ys) ∙ sym (bare refl).0)
  constants_of_body g one (Enum b xs) bare hv (parcelable ms) e st = cc
  constants_of_body g one (Enum b xs) bare hv (union ms) e st = cc
  constants_of_body g one (Enum b xs) bare hv (interface oneway ms) e st = cc
  constants_of_body g one (Interface xs) bare hv (parcelable ms) e st = cc
  constants_of_body g one (Interface xs) bare hv (union ms) e st = cc
  constants_of_body g one (Interface xs) bare hv (enum ys) e st = cc
  constants_of_body g one (Parcelable fs) bare hv (interface oneway ms) e st = cc
  constants_of_body g one (Parcelable fs) bare hv (union ms) e st = cc
  constants_of_body g one (Parcelable fs) bare hv (enum ys) e st = cc
  constants_of_body g one (Union fs) bare hv (interface oneway ms) e st = cc
  constants_of_body g one (Union fs) bare hv (parcelable ms) e st = cc
  constants_of_body g one (Union fs) bare hv (enum ys) e st = cc
