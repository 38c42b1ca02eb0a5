-- The breaches of items that ascend are in order.
use Rattle.std.proofs.Common.{◌≡◌, ℕ, ◌+◌, ◌*◌, ◌<◌, ◌≤◌, List, [], ◌∷◌, ◌++◌, refl, ap, ◌∙◌, append_assoc, arith, rules}
use Rattle.std.specs.List.{All, cons_option, fold}
use Rattle.std.proofs.lemmas.List.Elements.{All-nil, All-head, All-tail, All-push, All-weaker}
use Rattle.std.proofs.lemmas.Bool.Decides.{nat_tests}
use Rattle.std.specs.declared.cmp.Ordering.TheVariants.{Greater}
use Rattle.std.specs.Ordering.{nat_cmp, ordering_then, match_ordering}
use Rattle.aidl_base.specs.declared.breach.Breach.{Breach}
use Rattle.aidl_names.specs.Breaches.{in_order, put}
use Rattle.const_eval.specs.declared.outcome.Outcome.{Outcome}
use Rattle.const_eval.specs.declared.outcome.Outcome.TheVariants.{Given, Fault, Unjudged}
use Rattle.const_eval.specs.Breaches.{breach_by, breaches, breaches_from}
use Rattle.const_items.specs.Items.{Item}
use Rattle.const_items.proofs.lemmas.Keys.{IsPlaced, Rises, key}

-- the place of a breach among all places
abbrev place : Breach → ℕ
place b = b.file * 262144 + b.offset

-- a breach before a place
record IsBefore (high : ℕ) (b : Breach) : Type 0 where
  pub offset : b.offset < 262144
  pub place : place b < high

greater_by : (a b c d p q : ℕ) → b < 262144 → d < 262144 → c * 262144 + d < a * 262144 + b → ordering_then (nat_cmp a c) (ordering_then (nat_cmp b d) (nat_cmp p q)) ≡ Greater
greater_by a b c d p q lt mt h = grind (arith, nat_tests)

put_last : (front : List Breach) (b : Breach) → b.offset < 262144 → All (IsBefore (place b)) front → put front b ≡ front ++ b ∷ []
put_last [] b lt all = refl
put_last (c ∷ more) b lt all =
    let first = All-head (IsBefore (place b)) c more all in
    ap (λ o. match_ordering o (b ∷ c ∷ more) (c ∷ more) (c ∷ put more b)) (greater_by b.file b.offset c.file c.offset b.rule c.rule lt first.offset first.place)
    ∙ ap (λ bs. c ∷ bs) (put_last more b lt (All-tail (IsBefore (place b)) c more all))

-- their places ascend from one on
abbrev Climbs : ℕ → List Breach → Type 0
Climbs low [] = Unit {0}
Climbs low (b ∷ bs) = (low ≤ place b) × (b.offset < 262144) × Climbs (place b + 1) bs

later : (high more : ℕ) → high ≤ more → (b : Breach) → IsBefore high b → IsBefore more b
later high more le b h = let lt = h.place in record { offset = h.offset; place = omega arith }

stays : (bs front : List Breach) (low : ℕ) → All (IsBefore low) front → Climbs low bs → fold put front bs ≡ front ++ bs
stays [] front low all climbs = search rules
stays (b ∷ bs) front low all climbs =
    let before : All (IsBefore (place b)) front = All-weaker (IsBefore low) (IsBefore (place b)) (later low (place b) climbs.0) front all in
    let next : All (IsBefore (place b + 1)) (front ++ b ∷ []) =
    All-push (IsBefore (place b + 1)) front b (All-weaker (IsBefore low) (IsBefore (place b + 1)) (later low (place b + 1) (omega (arith, climbs.0))) front all)
    (record { offset = climbs.1; place = omega arith }) in
    ap (λ xs. fold put xs bs) (put_last front b climbs.1 before) ∙ stays bs (front ++ b ∷ []) (place b + 1) next climbs.2 ∙ append_assoc front (b ∷ []) bs

lower : (bs : List Breach) (low high : ℕ) → low ≤ high → Climbs high bs → Climbs low bs
lower [] low high le climbs = tt
lower (b ∷ bs) low high le climbs = (omega (arith, climbs.0), climbs.1, climbs.2)

module _ (outcome : ℕ → Outcome) where
  climb : (xs : List Item) (n low : ℕ) → All IsPlaced xs → Rises low xs → Climbs low (breaches_from outcome n xs)
  climb [] n low all r = tt
  climb (x ∷ xs) n low all r = by_outcome (outcome n) (climb xs (n + 1) (key x + 1) (All-tail IsPlaced x xs all) r.1)
    where
      by_outcome : (o : Outcome) → Climbs (key x + 1) (breaches_from outcome (n + 1) xs) → Climbs low (cons_option (breach_by x o) (breaches_from outcome (n + 1) xs))
      by_outcome (Fault fault) rest = (r.0, (All-head IsPlaced x xs all).place, rest)
      by_outcome (Given c) rest = lower (breaches_from outcome (n + 1) xs) low (key x + 1) (omega (arith, r.0)) rest
      by_outcome Unjudged rest = lower (breaches_from outcome (n + 1) xs) low (key x + 1) (omega (arith, r.0)) rest

  pub breaches_in_order : (xs : List Item) → All IsPlaced xs → Rises 0 xs → in_order (breaches outcome xs) ≡ breaches outcome xs
  breaches_in_order xs all r = stays (breaches outcome xs) [] 0 (All-nil (IsBefore 0)) (climb xs 0 0 all r)
