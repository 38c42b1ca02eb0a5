-- Places with a slash and without.
use Rattle.std.proofs.Common.{◌≡◌, ℕ, List, [], Option, Some, None, refl, sym, ap, ◌∙◌}
use Rattle.std.specs.Str.{encode_utf8_all}
use Rattle.aidl_schema.specs.declared.schema.Decl.{Decl}
use Rattle.compat_witness.specs.Places.{at_slash}
use Rattle.compat_witness.specs.Rows.{row_C6, row_C6_at, row_C7, row_C7_at}
use Rattle.compat_witness.specs.RowsByRule.{row_C6_both, row_C6_by}
use Rattle.witness_search.proofs.PlaceBytes.{halves, slashes_by_bytes}

-- what stands before the slash
abbrev front_of : Option (List ℕ × List ℕ) → List ℕ
front_of None = []
front_of (Some q) = q.0

half : (o : Option (List ℕ × List ℕ)) (m r : List ℕ) → halves o ≡ Some (m, r) → (q : List ℕ × List ℕ) × (o ≡ Some q) × (m ≡ encode_utf8_all q.0)
half None m r e = absurd cc
half (Some q) m r e = (q, refl, sym (ap front_of e))

no_half : (o : Option (List ℕ × List ℕ)) → halves o ≡ None → o ≡ None
no_half None e = refl
no_half (Some q) e = absurd cc

-- a place in UTF-8
pub without_slash : (p text : List ℕ) → text ≡ encode_utf8_all p → None ≡ at_slash text → at_slash p ≡ None
without_slash p text is e = no_half (at_slash p) (sym (slashes_by_bytes p) ∙ sym (ap at_slash is) ∙ sym e)

pub with_slash : (p text m r : List ℕ) → text ≡ encode_utf8_all p → Some (m, r) ≡ at_slash text → (q : List ℕ × List ℕ) × (at_slash p ≡ Some q) × (m ≡ encode_utf8_all q.0)
with_slash p text m r is e = half (at_slash p) m r (sym (slashes_by_bytes p) ∙ sym (ap at_slash is) ∙ sym e)

pub C6_whole : (old new : List Decl) (p : List ℕ) → at_slash p ≡ None → row_C6 old new p ≡ row_C6_both old new p
C6_whole old new p e = ap (λ o. row_C6_by o old new p) (sym e)

pub C6_part : (old new : List Decl) (p : List ℕ) (q : List ℕ × List ℕ) → at_slash p ≡ Some q → row_C6_at old new q.0 ≡ row_C6_both old new p
C6_part old new p q e = ap (λ o. row_C6_by o old new p) (sym e)

pub C7_part : (old new : List Decl) (p : List ℕ) (q : List ℕ × List ℕ) → at_slash p ≡ Some q → row_C7 old new q.0 ≡ row_C7_at old new p
C7_part old new p q e = rw e refl

pub C7_none : (old new : List Decl) (p : List ℕ) → at_slash p ≡ None → None ≡ row_C7_at old new p
C7_none old new p e = rw e refl
