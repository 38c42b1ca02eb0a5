use Rattle.std.proofs.Common.{◌≡◌, List, [], ◌∷◌, Some, None, false, refl, rules}
use Rattle.std.specs.Str.{chars}
use Rattle.aidl_base.specs.declared.constant.Const.{Const, Text, out-Const, the_lemmas}
use Rattle.aidl_base.specs.declared.constant.Const.TheOpen.{Const-F}
use Rattle.aidl_schema.specs.declared.schema.Decl.{Decl}
use Rattle.aidl_schema.specs.declared.schema.Field.{Field}
use Rattle.aidl_schema.specs.declared.schema.Kind.TheVariants.{Parcelable}
use Rattle.aidl_schema.specs.declared.schema.AidlType.{AidlType}
use Rattle.aidl_schema.specs.declared.schema.Base.{Base}
use Rattle.aidl_schema.specs.declared.schema.Base.TheVariants as base
use Rattle.aidl_schema.specs.declared.schema.Shape.TheVariants as shape
use Rattle.aidl_schema.specs.Containment.{reaches_within}
use Rattle.aidl_schema.specs.Sizes.{const_depth, const_nodes, depth_within, nodes_within}
use Rattle.aidl_base.specs.Reserved.{reserved_of}
use Rattle.aidl_schema.specs.Valid.{IsValid, has_names, has_members, has_types, has_methods, has_constants, has_initializers, has_enums, has_bounds, is_within_limits}
use Rattle.workspace_tests.proofs.values.decls.Goals as goal

abbrev plain : Base → AidlType
plain b = record { base = b; shape = shape.One; nullable = false; heap = false; utf8 = false }

abbrev fields : Const → List Field
fields c =
    record { name = record { 0 = 97 ∷ [] }; ty = plain base.Int; initial = None }
    ∷ record { name = record { 0 = 115 ∷ [] }; ty = plain base.Text; initial = Some c }
    ∷ []

abbrev example : Const → List Decl
example c = record { name = record { 0 = record { 0 = 80 ∷ [] } ∷ [] }; outer = None; kind = Parcelable (fields c); vintf = false; fixed = false; constants = [] } ∷ []

by_level : (c : Const) → out-Const c ≡ Const-F.Text (120 ∷ []) → const_depth c ≡ 0 → const_nodes c ≡ 2 → IsValid (example c)
unfolding has_names has_members has_types has_methods has_constants has_initializers has_enums has_bounds is_within_limits depth_within nodes_within reaches_within reserved_of
by_level c is depth nodes = record {
  names = refl;
  members = refl;
  types = refl;
  methods = refl;
  constants = refl;
  initializers = rw is refl;
  enums = refl;
  bounds = rw (depth, nodes) refl;
  limits = refl;
}

example_valid : IsValid (example (Text (120 ∷ [])))
example_valid = by_level (Text (120 ∷ [])) (search (rules, the_lemmas)) (search (rules, the_lemmas)) (search (rules, the_lemmas))

letter_a : chars (97 ∷ []) ≡ 97 ∷ []
unfolding chars
letter_a = refl

letter_s : chars (115 ∷ []) ≡ 115 ∷ []
unfolding chars
letter_s = refl

letter_x : chars (120 ∷ []) ≡ 120 ∷ []
unfolding chars
letter_x = refl

letter_p : chars (80 ∷ []) ≡ 80 ∷ []
unfolding chars
letter_p = refl

pub returns : goal.returns
returns c =
    rw (
      c.in_ok-push-3.ensures.ok,
      c.new-decls.ensures,
      c.one-3.ensures,
      c.in_ok-push-2.ensures.ok,
      c.in_ok-push.ensures.ok,
      c.new-fields.ensures,
      c.in_ok-text.ensures,
      c.in_ok-text-2.ensures,
      c.in_ok-text-3.ensures,
      c.in_ok-text-4.ensures,
      c.one.ensures,
      c.one-2.ensures,
      c.new.ensures,
      letter_p,
      letter_a,
      letter_s,
      letter_x,
    ) example_valid
