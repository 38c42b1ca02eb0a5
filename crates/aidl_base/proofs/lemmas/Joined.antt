-- Texts joined by a mark, as bytes.
use Rattle.std.proofs.Common.{◌≡◌, ℕ, ◌<◌, Bool, true, false, ◌&&◌, List, [], ◌∷◌, ◌++◌, refl, sym, ap, ◌∙◌, arith, append_assoc}
use Rattle.std.specs.Str.{chars, all_scalars, encode_utf8_all}
use Rattle.std.proofs.lemmas.Bool.Decides.{nat_tests}
use Rattle.std.proofs.lemmas.Str.{chars-encodes, encodes-append, encode_ascii}
use lib.Utf8.{scalar}
use Rattle.aidl_base.specs.declared.name.Ident.{Ident}
use Rattle.aidl_base.specs.Names.{dotted}

-- the bytes spell the text
pub record Spells (spelling text : List ℕ) : Type 0 where
  pub bytes : spelling ≡ encode_utf8_all text
  pub scalars : all_scalars text ≡ true

pub and_true : (a b : Bool) → a ≡ true → b ≡ true → (a && b) ≡ true
and_true a b p q = rw (p, q) refl

and_left : (a b : Bool) → (a && b) ≡ true → a ≡ true
and_left true b e = refl
and_left false b e = cc

and_right : (a b : Bool) → (a && b) ≡ true → b ≡ true
and_right true b e = e
and_right false b e = cc

scalars-append : (x y : List ℕ) → all_scalars x ≡ true → all_scalars y ≡ true → all_scalars (x ++ y) ≡ true
scalars-append [] y p q = q
scalars-append (c ∷ x) y p q = and_true (scalar c) (all_scalars (x ++ y)) (and_left (scalar c) (all_scalars x) p) (scalars-append x y (and_right (scalar c) (all_scalars x) p) q)

pub ascii_scalar : (c : ℕ) → c < 128 → scalar c ≡ true
ascii_scalar c lt = grind (arith, nat_tests)

-- one text after another, with a mark between them
pub marked : (mark : ℕ) → mark < 128 → (bx x by y : List ℕ) → Spells bx x → Spells by y → Spells (bx ++ mark ∷ by) (x ++ mark ∷ y)
marked mark lt bx x by y p q = record {
  bytes = ap (λ z. z ++ mark ∷ by) p.bytes ∙ ap (λ z. encode_utf8_all x ++ mark ∷ z) q.bytes ∙ ap (λ z. encode_utf8_all x ++ (z ++ encode_utf8_all y)) (sym (encode_ascii mark lt)) ∙ sym (encodes-append x (mark ∷ y));
  scalars = scalars-append x (mark ∷ y) p.scalars (and_true (scalar mark) (all_scalars y) (ascii_scalar mark lt) q.scalars);
}

pub read_back : (bytes text : List ℕ) → Spells bytes text → chars bytes ≡ text
read_back bytes text s = ap chars s.bytes ∙ chars-encodes text s.scalars

-- a name with one more part
pub dotted_more : (i j : Ident) (is : List Ident) → dotted (i ∷ (is ++ j ∷ [])) ≡ dotted (i ∷ is) ++ 46 ∷ j.0
dotted_more i j [] = refl
dotted_more i j (k ∷ is) = ap (λ z. i.0 ++ 46 ∷ z) (dotted_more k j is) ∙ sym (append_assoc i.0 (46 ∷ dotted (k ∷ is)) (46 ∷ j.0))
