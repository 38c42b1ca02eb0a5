-- Trials of calls one after the other, and when one method's trials are enough.
use Rattle.std.proofs.Common.{◌≡◌, ℕ, zero, suc, ◌+◌, ◌<◌, ◌≤◌, Bool, true, false, ◌&&◌, List, [], ◌∷◌, ◌++◌, length, get_or, drop, map, slice_get, Option, Some, None, inl, inr, refl, sym, ap, subst, arith}
use Rattle.std.specs.List.{flat_map}
use Rattle.std.proofs.lemmas.List.{drop_all}
use Rattle.aidl_schema.specs.declared.schema.Decl.{Decl}
use Rattle.aidl_schema.specs.Unbroken.{Has}
use Rattle.aidl_values.specs.View.{view}
use Rattle.aidl_values.specs.declared.value.Value.{Value}
use Rattle.compat_witness.specs.Alike.{AreAlike}
use Rattle.compat_witness.specs.Candidates.{Candidate, client_of, server_of}
use Rattle.compat_witness.specs.Reaching.{methods_reaching}
use Rattle.witness_calls.specs.Seen.{call_seen}
use Rattle.witness_calls.specs.Showing.{IsTried, Tries}
use Rattle.witness_calls.specs.declared.call.Call.{Call}
use Rattle.witness_calls.specs.declared.showing.Showing.{Showing}
use Rattle.witness_calls.specs.declared.showing.Tried.{Tried}
use Rattle.witness_search.specs.Asked.{method_seen}
use Rattle.witness_search.specs.steps.First.{IsFirst}
use Rattle.witness_search.specs.declared.candidates.Reach.{Reach}
use Rattle.witness_search.specs.declared.first.Trial.{Trial}
use Rattle.witness_search.specs.steps.Requests.{requests_of}
use Rattle.witness_search.specs.steps.Trials.{AllShort, AreShownAlike, IsFirstTrial}
use Rattle.witness_calls.proofs.lemmas.Drops.{drop_at}
use Rattle.witness_search.proofs.Firsts.{later}

-- One call

pub one_found : (old new : List Decl) (call : Call) (t : Tried) (showing : Showing) → IsTried old new (call_seen call) t → t.showing ≡ Some showing
    → IsFirstTrial old new (call_seen call ∷ []) (record { found = Some (record { call = call; showing = showing }); short = false })
one_found old new call t showing tried is =
    record { first = inl (refl, subst (λ o. Tries old new (call_seen call) o) is tried.tries); short = λ h. cc }

pub one_tried : (old new : List Decl) (c : Candidate) (t : Tried) → IsTried old new c t → t.showing ≡ None → IsFirstTrial old new (c ∷ []) (record { found = None; short = t.short })
one_tried old new c t tried is =
    record { first = inr (subst (λ o. Tries old new c o) is tried.tries, refl); short = λ h. (tried.short h, tt) }

-- One method

module _ (old new : List Decl) where
  all_there : (cs ds : List Candidate) → AllShort old new cs → AllShort old new ds → AllShort old new (cs ++ ds)
  all_there [] ds h k = k
  all_there (c ∷ cs) ds h k = (h.0, all_there cs ds h.1 k)

  module _ {X : Type 0} (F : X → List Candidate) (xs : List X) (j : ℕ) (x : X) (lt : j < length xs) (is : x ≡ get_or xs j x) where
    pub short_there : AllShort old new (F x) → AllShort old new (flat_map F (drop (j + 1) xs)) → AllShort old new (flat_map F (drop j xs))
    short_there h k = subst (λ ys. AllShort old new (flat_map F ys)) (sym (drop_at xs j x lt is)) (all_there (F x) (flat_map F (drop (j + 1) xs)) h k)

  pub all_short : {X : Type 0} (F : X → List Candidate) (xs : List X) (j : ℕ) → length xs ≤ j → AllShort old new (flat_map F (drop j xs))
  all_short F xs j h = subst (λ ys. AllShort old new (flat_map F ys)) (sym (drop_all j xs h)) tt

pub both_are : (a b : Bool) → (a && b) ≡ true → (a ≡ true) × (b ≡ true)
both_are true b e = (refl, e)
both_are false b e = cc

-- Where of one method's requests none is too long and none is shown, none of another one's is.

pub has_got : {X : Type 0} (xs : List X) (i : ℕ) (d : X) → i < length xs → Has xs (get_or xs i d)
has_got {X} xs i d lt = (i, there xs i lt)
  where
    there : (xs : List X) (i : ℕ) → i < length xs → slice_get xs i ≡ Some (get_or xs i d)
    there [] i lt = absurd (omega arith)
    there (x ∷ xs) zero lt = refl
    there (x ∷ xs) (suc i) lt = there xs i (omega arith)

module _ (old new : List Decl) (back : Bool) (rs : List Reach) (alike : AreShownAlike old new back rs) where
  none_too : (vs : List Value) (r s : Reach) → Has rs r → Has rs s → IsFirst old new (requests_of back vs r) None → AllShort old new (requests_of back vs r) → IsFirst old new (requests_of back vs s) None
  none_too [] r s hr hs none short = refl
  none_too (v ∷ vs) r s hr hs (inl h) short = absurd h
  none_too (v ∷ vs) r s hr hs (inr h) short = inr (λ shown. h.0 (alike r s hr hs (view v) short.0 shown), none_too vs r s hr hs h.1 short.1)

  none_of : (vs : List Value) (r : Reach) → Has rs r → IsFirst old new (requests_of back vs r) None → AllShort old new (requests_of back vs r) → (ss : List Reach) → ((s : Reach) → Has ss s → Has rs s)
      → IsFirst old new (flat_map (requests_of back vs) ss) None
  none_of vs r hr none short [] within = refl
  none_of vs r hr none short (s ∷ ss) within =
      later old new (requests_of back vs s) (flat_map (requests_of back vs) ss) (none_too vs r s hr (within s (0, refl)) none short) None
      (none_of vs r hr none short ss (λ z h. within z (suc h.0, h.1)))

  pub settled : (vs : List Value) (r : Reach) → Has rs r → (t : Trial) → IsFirstTrial old new (requests_of back vs r) t → t.found ≡ None → t.short ≡ true → IsFirst old new (flat_map (requests_of back vs) rs) None
  settled vs r hr t tried nothing short = none_of vs r hr (subst (λ o. IsFirst old new (requests_of back vs r) o) nothing tried.first) (tried.short short) rs (λ s h. h)

-- The methods that reach a declaration show alike.

has_seen : (rs : List Reach) (r : Reach) → Has rs r → Has (map method_seen rs) (method_seen r)
has_seen rs r h = (h.0, at rs h.0 h.1)
  where
    at : (rs : List Reach) (i : ℕ) → slice_get rs i ≡ Some r → slice_get (map method_seen rs) i ≡ Some (method_seen r)
    at [] i e = cc
    at (x ∷ rs) zero e = let is : x ≡ r = cc in ap (λ z. let o : Option (ℕ × ℕ) = Some (method_seen z) in o) is
    at (x ∷ rs) (suc i) e = at rs i e

pub shown_alike : (old new : List Decl) → AreAlike old new → AreAlike new old → (back : Bool) (k : ℕ) (rs : List Reach)
    → map method_seen rs ≡ methods_reaching (client_of back old new) k (server_of back old new) → AreShownAlike old new back rs
shown_alike old new forth hence false k rs is r s hr hs x short shown =
    let two = forth k (method_seen r) (method_seen s) (subst (λ ms. Has ms (method_seen r)) is (has_seen rs r hr)) (subst (λ ms. Has ms (method_seen s)) is (has_seen rs s hs))
    x short (record { fits = shown.counts.fits; small = shown.counts.small }) shown.differs in
    record { counts = record { fits = two.0.fits; small = two.0.small }; differs = two.1 }
shown_alike old new forth hence true k rs is r s hr hs x short shown =
    let two = hence k (method_seen r) (method_seen s) (subst (λ ms. Has ms (method_seen r)) is (has_seen rs r hr)) (subst (λ ms. Has ms (method_seen s)) is (has_seen rs s hs))
    x short (record { fits = shown.counts.fits; small = shown.counts.small }) shown.differs in
    record { counts = record { fits = two.0.fits; small = two.0.small }; differs = two.1 }
