-- Texts are the same by their bytes; what a name in UTF-8 finds is what the name finds.
use Rattle.std.proofs.Common.{◌≡◌, ℕ, ◌+◌, Bool, true, false, List, [], ◌∷◌, refl, sym, ap, ◌∙◌}
use Rattle.std.specs.List.{position, position_from}
use Rattle.std.specs.Str.{encode_utf8_all}
use Rattle.std.proofs.lemmas.Iterator.Adapters.{position_from-zero}
use Rattle.std.proofs.lemmas.Slice.Eq.{bytes_eq-Decides}
use Rattle.std.proofs.lemmas.Str.{encodes_same}
use Rattle.aidl_schema.specs.declared.schema.Decl.{Decl}
use Rattle.aidl_schema.specs.Find.{number_of_name}
use Rattle.aidl_schema.specs.Names.{name_of}
use Rattle.aidl_schema.specs.Same.{same_text}
use Rattle.wire_model.specs.Outcome.{declared_as}

same_from : {X : Type 0} (p q : X → Bool) → ((x : X) → p x ≡ q x) → (k : ℕ) (xs : List X) → position_from p k xs ≡ position_from q k xs
same_from p q same k [] = refl
same_from p q same k (x ∷ xs) = rw (same x, same_from p q same (k + 1) xs) refl

-- tests that agree find the same
pub same_position : {X : Type 0} (p q : X → Bool) → ((x : X) → p x ≡ q x) → (xs : List X) → position p xs ≡ position q xs
same_position p q same xs = position_from-zero p xs ∙ same_from p q same 0 xs ∙ sym (position_from-zero q xs)

-- tests that follow from one another agree
pub same_test : (b c : Bool) → (b ≡ true → c ≡ true) → (c ≡ true → b ≡ true) → b ≡ c
same_test true c f g = sym (f refl)
same_test false true f g = g refl
same_test false false f g = refl

-- texts are the same by their bytes, in either order
pub by_bytes : (x y : List ℕ) → same_text (encode_utf8_all y) (encode_utf8_all x) ≡ same_text x y
by_bytes x y = same_test (same_text (encode_utf8_all y) (encode_utf8_all x)) (same_text x y)
    (λ e. (bytes_eq-Decides x y).1 (sym (encodes_same y x ((bytes_eq-Decides (encode_utf8_all y) (encode_utf8_all x)).0 e))))
    (λ e. (bytes_eq-Decides (encode_utf8_all y) (encode_utf8_all x)).1 (ap encode_utf8_all (sym ((bytes_eq-Decides x y).0 e))))

pub turned : (x y : List ℕ) → same_text y x ≡ same_text x y
turned x y = same_test (same_text y x) (same_text x y)
    (λ e. (bytes_eq-Decides x y).1 (sym ((bytes_eq-Decides y x).0 e)))
    (λ e. (bytes_eq-Decides y x).1 (sym ((bytes_eq-Decides x y).0 e)))

-- the number of a name is that of the declaration of it
pub number_declared : (S : List Decl) (x : List ℕ) → number_of_name S (encode_utf8_all x) ≡ declared_as S x
number_declared S x = same_position (λ d. same_text (encode_utf8_all (name_of d)) (encode_utf8_all x)) (λ d. same_text x (name_of d)) (λ d. by_bytes x (name_of d)) S
