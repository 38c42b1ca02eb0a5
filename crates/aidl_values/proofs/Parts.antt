-- What a field of a parcelable starts with is smaller than the parcelable's default.
use Rattle.std.proofs.Common.{◌≡◌, ℕ, zero, suc, ◌≤◌, true, false, List, [], ◌∷◌, map, Option, Some, None, slice_get, refl, sym, ap, subst, arith}
use Rattle.std.specs.Prelude.{MatchOption, sum}
use Rattle.std.proofs.lemmas.List.Sums.{sum_by-cons}
use Rattle.aidl_base.specs.declared.constant.Const.{Const}
use Rattle.aidl_schema.specs.declared.schema.Decl.{Decl}
use Rattle.aidl_schema.specs.declared.schema.Field.{Field}
use Rattle.aidl_schema.specs.declared.schema.Base.{Base}
use Rattle.aidl_schema.specs.declared.schema.Shape.TheVariants as shape
use Rattle.aidl_schema.specs.declared.schema.AidlType.{AidlType}
use Rattle.aidl_schema.specs.Sizes.{AreSteady, greatest_of, const_depth, const_nodes, initial_size, field_size, depth_within, nodes_within}
use Rattle.aidl_schema.specs.Types.{is_type}
use Rattle.aidl_schema.specs.Holds.{AllHold}
use Rattle.aidl_schema.specs.Methods.{is_field_type}
use Rattle.aidl_schema.specs.Valid.{has_initializer_of}
use Rattle.aidl_base.proofs.lemmas.Tests.{all_at}
use Rattle.aidl_values.specs.Data.{Data, depth_of}
use Rattle.aidl_values.specs.Default.{IsZero, IsInitial, const_value}
use Rattle.aidl_values.specs.HasType.{HasType}
use Rattle.aidl_values.specs.Nodes.{nodes_of}
use Rattle.aidl_values.specs.Sound.{IsPartOf}
use Rattle.aidl_values.proofs.ConstValues.{sized}
use Rattle.aidl_values.proofs.lemmas.Levels.{depth_within-suc, nodes_within-suc}
use Rattle.aidl_values.proofs.Defaults.{parcelable_whole, field_type}
use Rattle.aidl_values.proofs.lemmas.Sounds.{small, default_there, one_default}
use Rattle.aidl_values.proofs.Typed.{typed}

pub record IsSmall (S : List Decl) (t : AidlType) (v : Data) : Type 0 where
  pub typed_as : HasType S t v
  pub shallow : depth_of v ≤ 31
  pub few : nodes_of v ≤ 511

at_most_greatest : (size : Field → ℕ) (fs : List Field) (k : ℕ) (f : Field) → slice_get fs k ≡ Some f → size f ≤ greatest_of (map size fs)
at_most_greatest size [] k f e = cc
at_most_greatest size (g ∷ fs) zero f e = let same : size g ≡ size f = ap size cc in omega arith
at_most_greatest size (g ∷ fs) (suc k) f e = let later = at_most_greatest size fs k f e in omega arith

at_most_sum : (size : Field → ℕ) (fs : List Field) (k : ℕ) (f : Field) → slice_get fs k ≡ Some f → size f ≤ sum (map size fs)
at_most_sum size [] k f e = cc
at_most_sum size (g ∷ fs) zero f e = let same : size g ≡ size f = ap size cc in omega (arith, sum_by-cons (λ x. x) (size g) (map size fs))
at_most_sum size (g ∷ fs) (suc k) f e = let later = at_most_sum size fs k f e in omega (arith, sum_by-cons (λ x. x) (size g) (map size fs))

-- one value of the parcelable
abbrev whole : Base → AidlType
whole b = record { base = b; shape = shape.One; nullable = false; heap = false; utf8 = false }

module _ (S : List Decl) (hold : AllHold S) (steady : AreSteady S) where
  of_type : (t : AidlType) (o : Option Const) (v : Data) → is_type S t ≡ true → has_initializer_of S t o ≡ true
      → initial_size const_depth (λ u. depth_within 32 S u) o t ≤ 31 → initial_size const_nodes (λ u. nodes_within 512 S u) o t ≤ 511
      → MatchOption o (IsZero S t v) (λ c. v ≡ const_value c) → IsSmall S t v
  of_type t (Some c) v is h shallow few same =
      let size = sized c in
      subst (λ x. IsSmall S t x) (sym same) (record { typed_as = typed S hold t c h; shallow = omega (arith, size.depth); few = omega (arith, size.nodes) })
  of_type t None v is h shallow few zero_of =
      let d = default_there S hold steady t is in
      let deep = steady.depth 32 33 t (omega arith) in
      let many = steady.nodes 512 513 t (omega arith) in
      subst (λ x. IsSmall S t x) (sym (one_default S hold steady t v is zero_of))
      (record { typed_as = d.typed_as; shallow = omega (arith, d.depth_is, deep); few = omega (arith, d.nodes_are, many) })

  pub initial_fits : (b : Base) (f : Field) (v : Data) → IsPartOf S b f → IsInitial S f v → IsSmall S f.ty v
  initial_fits b f v of start =
      let parts = parcelable_whole S hold b of.0 of.1 in
      let meant : is_type S (whole b) ≡ true = rw (of.1) refl in
      let bound = small S hold steady (whole b) meant in
      let depth : suc (greatest_of (map (λ g. field_size const_depth (λ u. depth_within 32 S u) g) of.0)) ≤ 32
      = rw (depth_within-suc 32 S (whole b), of.1) at bound.0 in
      let nodes : suc (sum (map (λ g. field_size const_nodes (λ u. nodes_within 512 S u) g) of.0)) ≤ 512
      = rw (nodes_within-suc 512 S (whole b), of.1) at bound.1 in
      let here = at_most_greatest (λ g. field_size const_depth (λ u. depth_within 32 S u) g) of.0 of.2 f of.3 in
      let among = at_most_sum (λ g. field_size const_nodes (λ u. nodes_within 512 S u) g) of.0 of.2 f of.3 in
      of_type f.ty f.initial v (field_type S hold f (all_at (λ g. is_field_type S g) of.0 of.2 f parts.0 of.3))
      (all_at (λ g. has_initializer_of S g.ty g.initial) of.0 of.2 f parts.1 of.3) (omega arith) (omega arith) start
