-- The units of a canonical name, and the length of a token.
use Rattle.std.proofs.Common.{◌≡◌, ℕ, suc, ◌+◌, ◌*◌, ◌/◌, List, [], ◌∷◌, ◌++◌, length, refl, sym, ap, ◌∙◌, arith, length-append}
use Rattle.std.specs.Char.Escape.{encode_utf16}
use Rattle.std.proofs.lemmas.List.{append-nil}
use Rattle.std.proofs.lemmas.List.Concat.{flat_map-append}
use Rattle.aidl_base.specs.declared.name.Ident.{Ident}
use Rattle.aidl_base.specs.Names.{dotted}
use Rattle.aidl_base.specs.Words.{units}
use Rattle.aidl_base.proofs.lemmas.Spelled.{length-spell_text}
use Rattle.wire_model.specs.Requests.{token}
use Rattle.stub_dispatch.specs.steps.Names.{dots}

-- the units of a text after another
units-append : (x y : List ℕ) → length (units (x ++ y)) ≡ length (units x) + length (units y)
units-append x y = ap length (flat_map-append encode_utf16 x y) ∙ length-append (units x) (units y)

dotted_dots : (p : Ident) (ps : List Ident) → dotted (p ∷ ps) ≡ p.0 ++ dots ps
dotted_dots p [] = sym (append-nil p.0)
dotted_dots p (q ∷ qs) = ap (λ z. p.0 ++ 46 ∷ z) (dotted_dots q qs)

pub name_count : (p : Ident) (ps : List Ident) → length (units (dotted (p ∷ ps))) ≡ length (units p.0) + length (units (dots ps))
name_count p ps = ap (λ x. length (units x)) (dotted_dots p ps) ∙ units-append p.0 (dots ps)

pub dots_count : (p : Ident) (ps : List Ident) → length (units (dots (p ∷ ps))) ≡ 1 + (length (units p.0) + length (units (dots ps)))
dots_count p ps =
    let one : length (units (dots (p ∷ ps))) ≡ suc (length (units (p.0 ++ dots ps))) = refl in
    omega (arith, one, units-append p.0 (dots ps))

-- the length of a token
pub token_count : (name : List ℕ) → length (token name) ≡ 12 + 4 * (length (units name) / 2 + 2)
token_count name = omega (arith, length-spell_text name)
