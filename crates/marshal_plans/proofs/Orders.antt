-- The starts of a schema stand in the order by which they are found.
use Rattle.std.proofs.Common.{◌≡◌, ℕ, zero, suc, ◌+◌, ◌*◌, ◌<◌, ◌≤◌, List, [], ◌∷◌, ◌++◌, map, length, get_or, Option, Some, None, slice_get, Ordering, Less, Equal, Greater, nat_cmp, refl, sym, ap, ◌∙◌, subst, arith}
use Rattle.std.specs.Ordering.{ordering_then, ordering_index, MatchOrdering}
use Rattle.std.proofs.lemmas.Bool.Decides.{nat_tests}
use Rattle.std.proofs.lemmas.Cmp.{ranked}
use Rattle.std.proofs.lemmas.Option.{slice_get-get_or}
use Rattle.aidl_schema.specs.declared.schema.AidlType.{AidlType}
use Rattle.aidl_schema.specs.declared.schema.Arg.{Arg}
use Rattle.aidl_schema.specs.declared.schema.Decl.{Decl}
use Rattle.aidl_schema.specs.declared.schema.Method.{Method}
use Rattle.aidl_schema.specs.Holds.{AllHold}
use Rattle.aidl_schema.specs.Names.{methods_of}
use Rattle.marshal_plans.specs.declared.plans.PlanStart.{PlanStart}
use Rattle.marshal_plans.specs.declared.plans.PlanId.{PlanId}
use Rattle.marshal_plans.specs.Slots.{Slot, argument_slots, result_slots, method_slots, slots_from, slots}
use Rattle.marshal_plans.specs.Standing.{OneForOne, IsStartOf}
use Rattle.marshal_plans.specs.steps.Rising.{place_order, order_to, AreRising}
use Rattle.marshal_plans.proofs.lemmas.Matching.{matched_back}
use Rattle.marshal_plans.proofs.Places.{slot_small, IsSmallPlace}

same_numbers : (a b : ℕ) → a ≡ b → nat_cmp a b ≡ Equal
same_numbers a b h = grind (arith, nat_tests)

less_numbers : (a b : ℕ) → a < b → nat_cmp a b ≡ Less
less_numbers a b h = grind (arith, nat_tests)

more_numbers : (a b : ℕ) → b < a → nat_cmp a b ≡ Greater
more_numbers a b h = grind (arith, nat_tests)

-- a place as a number
abbrev position : Option ℕ → ℕ
position (Some k) = k
position None = 4294967296

abbrev key : ℕ → ℕ → ℕ → ℕ
key n m p = (n * 8589934592 + m) * 8589934592 + p

place_order-is : (j k : Option ℕ) → IsSmallPlace j → IsSmallPlace k → place_order j k ≡ nat_cmp (position j) (position k)
place_order-is (Some j) (Some k) h l = refl
place_order-is (Some j) None h l = sym (less_numbers j 4294967296 h)
place_order-is None (Some k) h l = sym (more_numbers 4294967296 k l)
place_order-is None None h l = refl

position_small : (j : Option ℕ) → IsSmallPlace j → position j < 8589934592
position_small (Some j) h = omega arith
position_small None h = omega arith

by_numbers : {P : Type 0} (a b : ℕ) → (a < b → P) → (a ≡ b → P) → (b < a → P) → P
by_numbers {P} a b f g h = by (nat_cmp a b) (ranked a b (nat_cmp a b) refl)
  where
    by : (o : Ordering) → MatchOrdering o (a < b) (a ≡ b) (b < a) → P
    by Less x = f x
    by Equal x = g x
    by Greater x = h x

-- comparing part by part is comparing keys
keys_compare : (n m p k l q : ℕ) → m < 8589934592 → p < 8589934592 → l < 8589934592 → q < 8589934592
    → ordering_then (nat_cmp n k) (ordering_then (nat_cmp m l) (nat_cmp p q)) ≡ nat_cmp (key n m p) (key k l q)
keys_compare n m p k l q a b c d = by_numbers n k
    (λ h. rw (less_numbers n k h) (sym (less_numbers (key n m p) (key k l q) (omega arith))))
    (λ h. rw (same_numbers n k h) (by_numbers m l
    (λ i. rw (less_numbers m l i) (sym (less_numbers (key n m p) (key k l q) (omega arith))))
    (λ i. rw (same_numbers m l i) (by_numbers p q
    (λ j. less_numbers p q j ∙ sym (less_numbers (key n m p) (key k l q) (omega arith)))
    (λ j. same_numbers p q j ∙ sym (same_numbers (key n m p) (key k l q) (omega arith)))
    (λ j. more_numbers p q j ∙ sym (more_numbers (key n m p) (key k l q) (omega arith)))))
    (λ i. rw (more_numbers m l i) (sym (more_numbers (key n m p) (key k l q) (omega arith))))))
    (λ h. rw (more_numbers n k h) (sym (more_numbers (key n m p) (key k l q) (omega arith))))

-- numbers that rise, from the first of a range to below its end
abbrev Rise : ℕ → ℕ → List ℕ → Type 0
Rise low high [] = low ≤ high
Rise low high (x ∷ xs) = (low ≤ x) × Rise (suc x) high xs

rise_lower : (l low high : ℕ) (xs : List ℕ) → l ≤ low → Rise low high xs → Rise l high xs
rise_lower l low high [] le h = omega arith
rise_lower l low high (x ∷ xs) le h = (omega (arith, h.0), h.1)

abbrev slot_key : Slot → ℕ
slot_key s = key s.interface s.method (position s.place)

rise_more : (low mid high : ℕ) (xs ys : List Slot) → Rise low mid (map slot_key xs) → Rise mid high (map slot_key ys) → Rise low high (map slot_key (xs ++ ys))
rise_more low mid high [] ys h k = rise_lower low mid high (map slot_key ys) h k
rise_more low mid high (x ∷ xs) ys h k = (h.0, rise_more (suc (slot_key x)) mid high xs ys h.1 k)

arguments_rise : (n m k : ℕ) (rest : List Arg) → k + length rest ≤ 4294967296 → Rise (key n m k) (key n m 4294967296) (map slot_key (argument_slots n m k rest))
arguments_rise n m k [] few = omega arith
arguments_rise n m k (a ∷ rest) few = (omega arith, rise_lower (suc (key n m k)) (key n m (suc k)) (key n m 4294967296) (map slot_key (argument_slots n m (suc k) rest)) (omega arith) (arguments_rise n m (suc k) rest (omega arith)))

result_rises : (n m : ℕ) (o : Option AidlType) → Rise (key n m 4294967296) (key n (suc m) 0) (map slot_key (result_slots n m o))
result_rises n m None = omega arith
result_rises n m (Some t) = (omega arith, omega arith)

methods_rise : (n m : ℕ) (ws : List Method) → m + length ws ≤ 4294967296 → ((k : ℕ) (w : Method) → slice_get ws k ≡ Some w → length w.args ≤ 255)
    → Rise (key n m 0) (key (suc n) 0 0) (map slot_key (method_slots n m ws))
methods_rise n m [] few short = omega arith
methods_rise n m (w ∷ ws) few short =
    let args = arguments_rise n m 0 w.args (let h = short zero w refl in omega (arith, h)) in
    let one = rise_more (key n m 0) (key n m 4294967296) (key n (suc m) 0) (argument_slots n m 0 w.args) (result_slots n m w.result) args (result_rises n m w.result) in
    rise_more (key n m 0) (key n (suc m) 0) (key (suc n) 0 0) (argument_slots n m 0 w.args ++ result_slots n m w.result) (method_slots n (suc m) ws) one
    (methods_rise n (suc m) ws (omega arith) (λ k v at. short (suc k) v at))

interfaces_rise : (n : ℕ) (S : List Decl) → ((k : ℕ) (d : Decl) → slice_get S k ≡ Some d → length (methods_of d.kind) ≤ 4096)
    → ((k : ℕ) (d : Decl) → slice_get S k ≡ Some d → (m : ℕ) (w : Method) → slice_get (methods_of d.kind) m ≡ Some w → length w.args ≤ 255)
    → Rise (key n 0 0) (key (n + length S) 0 0) (map slot_key (slots_from n S))
interfaces_rise n [] few short = omega arith
interfaces_rise n (d ∷ S) few short =
    let end : suc n + length S ≡ n + suc (length S) = omega arith in
    let one = methods_rise n 0 (methods_of d.kind) (let h = few zero d refl in omega (arith, h)) (short zero d refl) in
    subst (λ q. Rise (key n 0 0) (key q 0 0) (map slot_key (slots_from n (d ∷ S)))) end
    (rise_more (key n 0 0) (key (suc n) 0 0) (key (suc n + length S) 0 0) (method_slots n 0 (methods_of d.kind)) (slots_from (suc n) S) one
    (interfaces_rise (suc n) S (λ k e at. few (suc k) e at) (λ k e at. short (suc k) e at)))

at_least : (low high : ℕ) (xs : List Slot) (k : ℕ) (x : Slot) → Rise low high (map slot_key xs) → slice_get xs k ≡ Some x → low ≤ slot_key x
at_least low high [] k x h at = absurd cc
at_least low high (y ∷ xs) zero x h at = let same : y ≡ x = cc in subst (λ z. low ≤ slot_key z) same h.0
at_least low high (y ∷ xs) (suc k) x h at = let later = at_least (suc (slot_key y)) high xs k x h.1 at in omega (arith, later, h.0)

in_order : (low high : ℕ) (xs : List Slot) (i j : ℕ) (x y : Slot) → Rise low high (map slot_key xs) → slice_get xs i ≡ Some x → slice_get xs j ≡ Some y → i ≤ j → slot_key x ≤ slot_key y
in_order low high [] i j x y h at there le = absurd cc
in_order low high (z ∷ xs) zero zero x y h at there le = let same : x ≡ y = cc in subst (λ w. slot_key x ≤ slot_key w) same (omega arith)
in_order low high (z ∷ xs) zero (suc j) x y h at there le =
    let same : z ≡ x = cc in
    let later = at_least (suc (slot_key z)) high xs j y h.1 there in
    subst (λ w. slot_key w ≤ slot_key y) same (omega (arith, later))
in_order low high (z ∷ xs) (suc i) zero x y h at there le = absurd (omega arith)
in_order low high (z ∷ xs) (suc i) (suc j) x y h at there le = in_order (suc (slot_key z)) high xs i j x y h.1 at there (omega arith)

index_rises : (a b t : ℕ) → a ≤ b → ordering_index (nat_cmp a t) ≤ ordering_index (nat_cmp b t)
index_rises a b t le = by_numbers a t
    (λ h. rw (less_numbers a t h) (omega arith))
    (λ h. by_numbers b t (λ i. absurd (omega arith)) (λ i. rw (same_numbers a t h, same_numbers b t i) (omega arith)) (λ i. rw (same_numbers a t h, more_numbers b t i) (omega arith)))
    (λ h. by_numbers b t (λ i. absurd (omega arith)) (λ i. absurd (omega arith)) (λ i. rw (more_numbers a t h, more_numbers b t i) (omega arith)))

module _ (S : List Decl) (hold : AllHold S) (types : List AidlType) (starts : List PlanStart) (all : OneForOne (λ s start. IsStartOf types s start) (slots S) starts)
    (n m : ℕ) (place : Option ℕ) (small : m < 4294967296) (small_place : IsSmallPlace place) where
  target : ℕ
  target = key n m (position place)

  -- a start is compared by the key of its slot
  compared : (k : ℕ) (x : PlanStart) → slice_get starts k ≡ Some x → (s : Slot) × (slice_get (slots S) k ≡ Some s) × (order_to n m place x ≡ nat_cmp (slot_key s) target)
  unfolding target
  compared k x at =
      let h = matched_back (λ s start. IsStartOf types s start) (slots S) starts k x all at in
      let s = h.0 in
      let low = slot_small S hold s (k, h.1) in
      let parts = h.2 in
      let method : s.method < 8589934592 = omega (arith, low.0) in
      let wanted : m < 8589934592 = omega (arith, small) in
      let by_parts : order_to n m place x ≡ ordering_then (nat_cmp s.interface n) (ordering_then (nat_cmp s.method m) (place_order s.place place)) =
      ap (λ (q : ℕ). ordering_then (nat_cmp q n) (ordering_then (nat_cmp x.method m) (place_order x.place place))) parts.0
      ∙ ap (λ (q : ℕ). ordering_then (nat_cmp s.interface n) (ordering_then (nat_cmp q m) (place_order x.place place))) parts.1
      ∙ ap (λ (q : Option ℕ). ordering_then (nat_cmp s.interface n) (ordering_then (nat_cmp s.method m) (place_order q place))) parts.2 in (
        s,
        h.1,
        by_parts
            ∙ ap (λ (o : Ordering). ordering_then (nat_cmp s.interface n) (ordering_then (nat_cmp s.method m) o)) (place_order-is s.place place low.1 small_place)
            ∙ keys_compare s.interface s.method (position s.place) n m (position place) method (position_small s.place low.1) wanted (position_small place small_place),
      )

  pub are_rising : AreRising starts n m place
  are_rising i j d le lt =
      let x = compared i (get_or starts i d) (slice_get-get_or starts i d (omega arith)) in
      let y = compared j (get_or starts j d) (slice_get-get_or starts j d lt) in
      let rise = interfaces_rise 0 S (λ k e at. (hold k e at).few_methods) (λ k e at. (hold k e at).few_arguments) in
      let sorted = in_order (key 0 0 0) (key (0 + length S) 0 0) (slots S) i j x.0 y.0 rise x.1 y.1 le in
      rw (x.2, y.2) (index_rises (slot_key x.0) (slot_key y.0) target sorted)

-- a start that ties is one of the place, and the other way round
then_equal : (a b : Ordering) → ordering_then a b ≡ Equal → (a ≡ Equal) × (b ≡ Equal)
then_equal Less b e = absurd cc
then_equal Equal b e = (refl, e)
then_equal Greater b e = absurd cc

numbers_tie : (a b : ℕ) → nat_cmp a b ≡ Equal → a ≡ b
numbers_tie a b e = by_numbers a b (λ h. absurd (let f : Less ≡ Equal = sym (less_numbers a b h) ∙ e in cc)) (λ h. h) (λ h. absurd (let f : Greater ≡ Equal = sym (more_numbers a b h) ∙ e in cc))

places_tie : (j k : Option ℕ) → place_order j k ≡ Equal → j ≡ k
places_tie (Some j) (Some k) e = ap (λ (q : ℕ). Some q) (numbers_tie j k e)
places_tie (Some j) None e = absurd cc
places_tie None (Some k) e = absurd cc
places_tie None None e = refl

places_same : (j : Option ℕ) → place_order j j ≡ Equal
places_same (Some j) = same_numbers j j refl
places_same None = refl

pub tied : (n m : ℕ) (place : Option ℕ) (s : PlanStart) → order_to n m place s ≡ Equal → s ≡ record { interface = n; method = m; place = place; item = s.item }
tied n m place s e =
    let one = then_equal _ _ e in
    let two = then_equal _ _ one.1 in
    same (numbers_tie s.interface n one.0) (numbers_tie s.method m two.0) (places_tie s.place place two.1)
  where
    same : {a b c d : ℕ} {p q : Option ℕ} → a ≡ b → c ≡ d → p ≡ q → ◌≡◌ {A = PlanStart} (record { interface = a; method = c; place = p; item = s.item }) (record { interface = b; method = d; place = q; item = s.item })
    same f g h = rw (f, g, h) refl

pub ties : (n m : ℕ) (place : Option ℕ) (id : PlanId) → order_to n m place (record { interface = n; method = m; place = place; item = id }) ≡ Equal
ties n m place id = rw (same_numbers n n refl, same_numbers m m refl, places_same place) refl
