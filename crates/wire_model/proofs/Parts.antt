-- Reading by levels, without cases on their number.
use Rattle.std.proofs.Common.{◌≡◌, ℕ, zero, suc, ◌<◌, ◌-◌, Bool, true, false, List, Some, Ok, slice_get, refl, sym, ap, ◌∙◌, arith}
use Rattle.aidl_base.specs.declared.profile.Profile.{Profile}
use Rattle.aidl_schema.specs.declared.schema.Shape.TheVariants as shape
use Rattle.aidl_schema.specs.Types.{form_of, is_one, is_raw, elem}
use Rattle.aidl_schema.specs.declared.schema.Decl.{Decl}
use Rattle.aidl_schema.specs.declared.schema.Field.{Field}
use Rattle.aidl_schema.specs.declared.schema.AidlType.{AidlType}
use Rattle.aidl_values.specs.Data.{Data, alt}
use Rattle.aidl_values.specs.Sound.{initial_in}
use Rattle.wire_model.specs.ReadOf.{tag_at, tagged_at, marker_at, record_at, body_value_at, Read, one_at, each_at, elements_at, array_at, read_of, read_by}
use Rattle.wire_model.proofs.Steps.{then_seq, then_there, then_alternative, then_field, with_tag}
use Rattle.wire_model.specs.steps.Levels.{read_parts}
use Rattle.aidl_values.specs.steps.Levels.{is_level_left}

pub read_of-parts : (p : Profile) (S : List Decl) (d : ℕ) (t : AidlType) (inside : Bool) (b : List ℕ)
    → read_of p S d t inside b ≡ read_by p S (is_level_left d) (λ u j c. read_parts p S d u j c) t inside b
unfolding read_of
read_of-parts p S zero t inside b = refl
read_of-parts p S (suc d) t inside b = refl

pub read_parts-below : (p : Profile) (S : List Decl) (d : ℕ) (t : AidlType) (inside : Bool) (b : List ℕ) → 0 < d → read_parts p S d t inside b ≡ read_of p S (d - 1) t inside b
read_parts-below p S zero t inside b lt = absurd (omega arith)
read_parts-below p S (suc d) t inside b lt = ap (λ k. read_of p S k t inside b) (omega arith)

module _ (p : Profile) (S : List Decl) (d : ℕ) (t : AidlType) (inside : Bool) (b : List ℕ) where
  pub read_of-one : t.shape ≡ shape.One
      → one_at p (is_level_left d) (λ f. initial_in S f) (λ u j c. read_parts p S d u j c) t.nullable (form_of S t.base) inside b ≡ read_of p S d t inside b
  read_of-one is = sym (read_of-parts p S d t inside b ∙ rw is)

  pub read_of-sequence : is_one t.shape ≡ false
      → array_at p (is_level_left d) (is_raw S t) t.nullable (λ c. read_parts p S d (elem S t) inside c) inside b ≡ read_of p S d t inside b
  read_of-sequence is = sym (read_of-parts p S d t inside b ∙ rw is)

module _ (p : Profile) (left raw : Bool) (read : List ℕ → Read Data) (inside : Bool) (n : ℕ) (b : List ℕ) (has : left ≡ true) (apart : raw ≡ false) where
  -- what a sequence gives, from its elements
  pub elements_at-items : elements_at p left raw read inside (Some n) b ≡ then_seq (each_at read n b)
  unfolding elements_at
  elements_at-items = rw (has, apart)

-- a record whose marker says that it is there
pub record_at-there : (p : Profile) (left nullable : Bool) (initial : Field → Data) (read : Field → List ℕ → Read Data) (fs : List Field) (inside : Bool) (b c : List ℕ)
    → left ≡ true → marker_at p nullable inside b ≡ Ok (true, c)
    → record_at p left nullable initial read fs inside b ≡ body_value_at initial read fs inside c
unfolding record_at
record_at-there p left nullable initial read fs inside b c has there =
    ap (then_there left (λ e. body_value_at initial read fs inside e)) there ∙ rw has refl

-- a union whose tag names a field
pub tagged_at-field : (read : Field → List ℕ → Read Data) (fs : List Field) (inside : Bool) (b c after : List ℕ) (k : ℕ) (f : Field) (v : Data)
    → tag_at inside b ≡ Ok (k, c) → slice_get fs k ≡ Some f → read f c ≡ Ok (v, after)
    → tagged_at read fs inside b ≡ Ok (alt k v, after)
unfolding tagged_at
tagged_at-field read fs inside b c after k f v tag at h =
    ap (then_alternative read fs) tag
    ∙ ap (then_field read k c) at
    ∙ ap (with_tag k) h
