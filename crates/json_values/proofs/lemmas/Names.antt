-- In a valid schema a name finds the enumerator that it names.
use Rattle.std.proofs.Common.{◌≡◌, ℕ, zero, suc, Bool, true, false, List, [], ◌∷◌, Option, Some, None, slice_get, refl, subst, arith}
use Rattle.std.specs.Prelude.{◌==◌}
use Rattle.std.proofs.lemmas.Bool.Decides.{nat_tests}
use Rattle.std.proofs.lemmas.Slice.Eq.{bytes_eq-Decides}
use Rattle.aidl_schema.specs.declared.schema.Decl.{Decl}
use Rattle.aidl_schema.specs.declared.schema.Enumerator.{Enumerator}
use Rattle.aidl_schema.specs.declared.schema.Kind.{Kind}
use Rattle.aidl_schema.specs.declared.schema.Kind.TheVariants.{Interface, Parcelable, Union, Enum}
use Rattle.aidl_schema.specs.declared.schema.Base.{Base}
use Rattle.aidl_schema.specs.declared.schema.Base.TheVariants as base
use Rattle.aidl_schema.specs.Holds.{AreApart, AllHold}
use Rattle.aidl_schema.specs.Names.{enumerators_of as those_of}
use Rattle.aidl_schema.specs.Same.{same_text}
use Rattle.json_writing.specs.Named.{enumerators_of, enumerators_of_decl, enumerators_of_kind}

-- texts
nat_itself : (n : ℕ) → (n == n) ≡ true
nat_itself n = grind (arith, nat_tests)

pub text_itself : (x : List ℕ) → same_text x x ≡ true
text_itself [] = refl
text_itself (b ∷ x) = rw (nat_itself b, text_itself x) refl

pub text_is : (x y : List ℕ) → same_text x y ≡ true → x ≡ y
text_is x y h = (bytes_eq-Decides x y).0 h

pub text_apart : (x y : List ℕ) → (x ≡ y → ⊥) → same_text x y ≡ false
text_apart x y differs = by (same_text x y) refl
  where
    by : (b : Bool) → same_text x y ≡ b → b ≡ false
    by true e = absurd (differs (text_is x y e))
    by false e = refl

-- the items after the first are apart, and none has the key of the first
pub later_apart : {X K : Type 0} (key : X → K) (x : X) (xs : List X) → AreApart key (x ∷ xs) → AreApart key xs
later_apart key x xs apart j k y z p q e = let same : suc j ≡ suc k = apart (suc j) (suc k) y z p q e in omega arith

pub first_apart : {X K : Type 0} (key : X → K) (x : X) (xs : List X) → AreApart key (x ∷ xs) → (k : ℕ) (y : X) → slice_get xs k ≡ Some y → key y ≡ key x → ⊥
first_apart key x xs apart k y at e = let same : suc k ≡ zero = apart (suc k) zero y x at refl e in cc

-- enumerators
abbrev pub name_of_enumerator : Enumerator → List ℕ
name_of_enumerator e = e.name.0

-- what the base of a type is has names that differ
module _ (S : List Decl) (hold : AllHold S) where
  apart_of_kind : (k : Kind) (es : List Enumerator) → AreApart name_of_enumerator (those_of k) → enumerators_of_kind k ≡ Some es → AreApart name_of_enumerator es
  apart_of_kind (Enum b fs) es apart is = let same : fs ≡ es = cc in subst (λ xs. AreApart name_of_enumerator xs) same apart
  apart_of_kind (Interface ms) es apart is = cc
  apart_of_kind (Parcelable fs) es apart is = cc
  apart_of_kind (Union fs) es apart is = cc

  apart_of_decl : (n : ℕ) (o : Option Decl) (es : List Enumerator) → slice_get S n ≡ o → enumerators_of_decl o ≡ Some es → AreApart name_of_enumerator es
  apart_of_decl n None es at is = cc
  apart_of_decl n (Some d) es at is = apart_of_kind d.kind es (hold n d at).enumerators is

  pub enumerators_apart : (b : Base) (es : List Enumerator) → enumerators_of S b ≡ Some es → AreApart name_of_enumerator es
  enumerators_apart base.Boolean es is = cc
  enumerators_apart base.Byte es is = cc
  enumerators_apart base.Char es is = cc
  enumerators_apart base.Int es is = cc
  enumerators_apart base.Long es is = cc
  enumerators_apart base.Text es is = cc
  enumerators_apart (base.Named n) es is = apart_of_decl n (slice_get S n) es refl is
