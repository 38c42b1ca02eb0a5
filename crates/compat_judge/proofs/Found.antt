-- What a look-up of a canonical name by its bytes finds.
use Rattle.std.proofs.Common.{◌≡◌, ℕ, List, [], ◌∷◌, Some, None, slice_get, refl, sym, ap, ◌∙◌, arith}
use Rattle.std.specs.Prelude.{◌==◌}
use Rattle.std.specs.List.{find}
use Rattle.std.specs.Str.{encode_utf8_all}
use Rattle.std.proofs.lemmas.Bool.Decides.{nat_tests}
use Rattle.std.proofs.lemmas.Iterator.Adapters.{position_from-zero}
use Rattle.aidl_schema.specs.declared.schema.Decl.{Decl}
use Rattle.aidl_schema.specs.Broken.{whole}
use Rattle.aidl_schema.specs.Find.{number_of_name}
use Rattle.aidl_schema.specs.Names.{name_of}
use Rattle.aidl_schema.specs.Same.{same_text}
use Rattle.compat_judge.specs.steps.Steps.{item_at}
use Rattle.compat_judge.proofs.Listing.{item_found, find-same}
use Rattle.compat_judge.proofs.Utf8Order.{same_encoded}

eq_sym : (m n : ℕ) → (m == n) ≡ (n == m)
eq_sym m n = grind (arith, nat_tests)

pub same_text_sym : (x y : List ℕ) → same_text x y ≡ same_text y x
same_text_sym [] [] = refl
same_text_sym [] (y ∷ ys) = refl
same_text_sym (x ∷ xs) [] = refl
same_text_sym (x ∷ xs) (y ∷ ys) = rw (eq_sym x y, same_text_sym xs ys) refl

module _ (S : List Decl) (text : List ℕ) (name : List ℕ) (is : name ≡ encode_utf8_all text) where
  named : (e : Decl) → same_text (encode_utf8_all (name_of e)) name ≡ same_text text (whole e)
  named e = ap (λ x. same_text (encode_utf8_all (name_of e)) x) is ∙ same_encoded (name_of e) text ∙ same_text_sym (name_of e) text

  at : item_at S (number_of_name S name) ≡ find (λ e. same_text text (whole e)) S
  at = ap (item_at S) (position_from-zero (λ e. same_text (encode_utf8_all (name_of e)) name) S) ∙ item_found (λ e. same_text (encode_utf8_all (name_of e)) name) S ∙ find-same (λ e. same_text (encode_utf8_all (name_of e)) name) (λ e. same_text text (whole e)) named S

  pub found_decl : (n : ℕ) → Some n ≡ number_of_name S name → slice_get S n ≡ find (λ e. same_text text (whole e)) S
  found_decl n e = ap (item_at S) e ∙ at

  pub found_none : None ≡ number_of_name S name → find (λ e. same_text text (whole e)) S ≡ None
  found_none e = sym at ∙ ap (item_at S) (sym e)
