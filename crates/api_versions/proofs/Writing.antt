-- Writes, one after another; and bytes as characters.
use Rattle.std.proofs.Common.{◌≡◌, ℕ, suc, ◌+◌, ◌<◌, true, List, [], ◌∷◌, ◌++◌, length, map, take, drop, drop-cons, add-one, get_or, Option, Some, None, Err, refl, ap, sym, subst, ◌∙◌, arith}
use Rattle.std.specs.FinMap.{insert}
use Rattle.std.specs.Str.{all_scalars, chars, encode_utf8_all}
use Rattle.std.proofs.lemmas.Bool.{lt-ltb}
use Rattle.std.proofs.lemmas.List.{map-append, take_more, take-append-drop}
use Rattle.std.proofs.lemmas.Str.{chars-encodes}
use Rattle.aidl_outside.specs.Files.{Files}
use Rattle.aidl_outside.specs.Writes.{Sets, Writes}
use Rattle.aidl_outside.specs.Faults.{FailedIn, IfStoreFailed, StoreFaults, writing}
use Rattle.aidl_outside.specs.declared.store.StoreFault.{StoreFault}
use Rattle.aidl_outside.specs.declared.store.StoreFault.TheVariants as store
use Rattle.aidl_outside.proofs.lemmas.Failing.{failed_as}
use Rattle.api_versions.specs.declared.writes.Write.{Write as HeldWrite}
use Rattle.api_versions.specs.Writes.{FailedAt, LeftAt, Write, Wrote, written}
use Rattle.api_versions.specs.Seen.{write_seen}

written_more : (ws : List Write) (w : Write) (files : Files) → written (ws ++ w ∷ []) files ≡ insert (written ws files) w.path w.bytes
written_more [] w files = refl
written_more (v ∷ ws) w files = written_more ws w (insert files v.path v.bytes)

pub wrote_more : (ws : List Write) (w : Write) (before middle now : Option Files) → Wrote ws before middle → Sets middle now w.path w.bytes → Wrote (ws ++ w ∷ []) before now
wrote_more ws w None middle now made h = subst (λ m. Sets m now w.path w.bytes) made h
wrote_more ws w (Some files) middle now made h =
    let is : now ≡ Some (insert (written ws files) w.path w.bytes) = subst (λ m. Sets m now w.path w.bytes) made h in
    is ∙ ap Some (sym (written_more ws w files))

module _ (ws : List HeldWrite) (i : ℕ) (d : HeldWrite) (lt : i < length ws) where
  pub writes_more : map write_seen (take (i + 1) ws) ≡ map write_seen (take i ws) ++ write_seen (get_or ws i d) ∷ []
  writes_more =
      let e : take (i + 1) ws ≡ take i ws ++ get_or ws i d ∷ [] = take_more ws i d lt in
      ap (map write_seen) e ∙ map-append write_seen (take i ws) (get_or ws i d ∷ [])

  pub writes_split : map write_seen ws ≡ map write_seen (take i ws) ++ write_seen (get_or ws i d) ∷ map write_seen (drop (i + 1) ws)
  writes_split =
      let e : drop i ws ≡ get_or ws i d ∷ drop (i + 1) ws = rw add-one (drop-cons ws i d lt) in
      sym (ap (map write_seen) (take-append-drop i ws)) ∙ map-append write_seen (take i ws) (drop i ws) ∙ ap (λ l. map write_seen (take i ws) ++ map write_seen l) e

-- a write gave nothing
pub left_at : (ws made rest : List Write) (w : Write) (before middle now : Option Files) (faults : StoreFaults) (e : StoreFault) → ws ≡ made ++ w ∷ rest → Wrote made before middle
    → Writes {T = Unit {0}} middle now w.path w.bytes (Err e) → IfStoreFailed {T = Unit {0}} (Err e) (FailedIn faults (λ call. call ≡ writing w.path)) → LeftAt ws before now faults e
left_at ws made rest w before middle now faults store.Failed split wrote changes failed =
    failed_as faults (λ call. call ≡ writing w.path) (FailedAt ws before now) (λ call is. (made, rest, w, middle, split, wrote, changes, is)) failed
left_at ws made rest w before middle now faults store.OutOfMemory split wrote same failed = (made, w ∷ rest, split, subst (Wrote made before) (sym same) wrote)

-- a byte is a character
byte_scalars : (bs : List ℕ) → ((i : ℕ) → get_or bs i 0 < 256) → all_scalars bs ≡ true
byte_scalars [] h = refl
byte_scalars (b ∷ bs) h = let lt : b < 256 = h 0 in let first = lt-ltb b 55296 (omega arith) in rw first (byte_scalars bs (λ i. h (suc i)))

pub bytes_are_text : (bs : List ℕ) → ((i : ℕ) → get_or bs i 0 < 256) → chars (encode_utf8_all bs) ≡ bs
bytes_are_text bs h = chars-encodes bs (byte_scalars bs h)
