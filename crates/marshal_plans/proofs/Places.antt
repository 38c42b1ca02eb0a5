-- Which slots a schema has.
use Rattle.std.proofs.Common.{◌≡◌, ℕ, zero, suc, ◌+◌, ◌<◌, List, [], ◌∷◌, ◌++◌, Option, Some, None, slice_get, refl, sym, ap, ◌∙◌, subst, arith, ◌⊎◌, inl, inr}
use Rattle.std.proofs.lemmas.Option.{slice_get_within}
use Rattle.aidl_schema.specs.declared.schema.AidlType.{AidlType}
use Rattle.aidl_schema.specs.declared.schema.Arg.{Arg}
use Rattle.aidl_schema.specs.declared.schema.Decl.{Decl}
use Rattle.aidl_schema.specs.declared.schema.Method.{Method}
use Rattle.aidl_schema.specs.Holds.{AllHold}
use Rattle.aidl_schema.specs.Names.{methods_of}
use Rattle.aidl_schema.specs.Unbroken.{Has}
use Rattle.marshal_plans.specs.Slots.{Slot, argument_slots, result_slots, method_slots, slots_from, slots}

has_left : {X : Type 0} (xs ys : List X) (x : X) → Has xs x → Has (xs ++ ys) x
has_left [] ys x h = absurd (let e = h.1 in cc)
has_left (z ∷ xs) ys x (zero, at) = (zero, at)
has_left (z ∷ xs) ys x (suc i, at) = let h = has_left xs ys x (i, at) in (suc h.0, h.1)

has_right : {X : Type 0} (xs ys : List X) (x : X) → Has ys x → Has (xs ++ ys) x
has_right [] ys x h = h
has_right (z ∷ xs) ys x h = let k = has_right xs ys x h in (suc k.0, k.1)

has_either : {X : Type 0} (xs ys : List X) (x : X) → Has (xs ++ ys) x → Has xs x ⊎ Has ys x
has_either [] ys x h = inr h
has_either (z ∷ xs) ys x (zero, at) = inl (zero, at)
has_either {X} (z ∷ xs) ys x (suc i, at) = elim (has_either xs ys x (i, at)) as (λ _. Has (z ∷ xs) x ⊎ Has ys x) [ inl h ↦ inl (suc h.0, h.1) | inr h ↦ inr h ]

-- a method's argument at a position, or its result, has this type
abbrev pub IsPlaceOf : Method → Option ℕ → AidlType → Type 0
IsPlaceOf w (Some k) t = (a : Arg) × (slice_get w.args k ≡ Some a) × (a.ty ≡ t)
IsPlaceOf w None t = w.result ≡ Some t

abbrev pub slot_at : ℕ → ℕ → Option ℕ → AidlType → Slot
slot_at n m place t = record { interface = n; method = m; place = place; ty = t }

module _ (n m : ℕ) where
  has_argument : (k j : ℕ) (rest : List Arg) (a : Arg) → slice_get rest j ≡ Some a → Has (argument_slots n m k rest) (slot_at n m (Some (k + j)) a.ty)
  has_argument k j [] a at = absurd cc
  has_argument k zero (b ∷ rest) a at =
      let same : b ≡ a = cc in
      let here : k ≡ k + zero = omega arith in
      (zero, ap (λ (c : Arg). Some (slot_at n m (Some k) c.ty)) same ∙ ap (λ (q : ℕ). Some (slot_at n m (Some q) a.ty)) here)
  has_argument k (suc j) (b ∷ rest) a at =
      let h = has_argument (suc k) j rest a at in
      let here : suc k + j ≡ k + suc j = omega arith in
      (suc h.0, h.1 ∙ ap (λ (q : ℕ). Some (slot_at n m (Some q) a.ty)) here)

  argument_of : (k : ℕ) (rest : List Arg) (s : Slot) → Has (argument_slots n m k rest) s
      → (j : ℕ) × (a : Arg) × (slice_get rest j ≡ Some a) × (slot_at n m (Some (k + j)) a.ty ≡ s)
  argument_of k [] s h = absurd (let e = h.1 in cc)
  argument_of k (a ∷ rest) s (zero, at) =
      let same : slot_at n m (Some k) a.ty ≡ s = cc in
      let here : k + zero ≡ k = omega arith in
      (zero, a, refl, ap (λ (q : ℕ). slot_at n m (Some q) a.ty) here ∙ same)
  argument_of k (b ∷ rest) s (suc i, at) =
      let h = argument_of (suc k) rest s (i, at) in
      let here : k + suc h.0 ≡ suc k + h.0 = omega arith in
      (suc h.0, h.1, h.2, ap (λ (q : ℕ). slot_at n m (Some q) h.1.ty) here ∙ h.3)

  has_result : (o : Option AidlType) (t : AidlType) → o ≡ Some t → Has (result_slots n m o) (slot_at n m None t)
  has_result None t e = absurd cc
  has_result (Some u) t e = let same : u ≡ t = cc in (zero, ap (λ (v : AidlType). Some (slot_at n m None v)) same)

  result_of : (o : Option AidlType) (s : Slot) → Has (result_slots n m o) s → (t : AidlType) × (o ≡ Some t) × (slot_at n m None t ≡ s)
  result_of None s h = absurd (let e = h.1 in cc)
  result_of (Some u) s (zero, at) = let same : slot_at n m None u ≡ s = cc in (u, refl, same)
  result_of (Some u) s (suc i, at) = absurd cc

  -- the slots of one method
  abbrev of_method : Method → List Slot
  of_method w = argument_slots n m 0 w.args ++ result_slots n m w.result

  has_place : (w : Method) (place : Option ℕ) (t : AidlType) → IsPlaceOf w place t → Has (of_method w) (slot_at n m place t)
  has_place w (Some k) t h =
      let here : 0 + k ≡ k = omega arith in
      let there = has_argument 0 k w.args h.0 h.1 in
      has_left (argument_slots n m 0 w.args) (result_slots n m w.result) (slot_at n m (Some k) t)
      (there.0, there.1 ∙ ap (λ (q : ℕ). Some (slot_at n m (Some q) h.0.ty)) here ∙ ap (λ (u : AidlType). Some (slot_at n m (Some k) u)) h.2)
  has_place w None t h = has_right (argument_slots n m 0 w.args) (result_slots n m w.result) (slot_at n m None t) (has_result w.result t h)

  place_of : (w : Method) (s : Slot) → Has (of_method w) s → (place : Option ℕ) × (t : AidlType) × IsPlaceOf w place t × (slot_at n m place t ≡ s)
  place_of w s h = elim (has_either (argument_slots n m 0 w.args) (result_slots n m w.result) s h) as (λ _. (place : Option ℕ) × (t : AidlType) × IsPlaceOf w place t × (slot_at n m place t ≡ s)) [
    | inl k ↦ (let a = argument_of 0 w.args s k in let here : a.0 ≡ 0 + a.0 = omega arith in (Some a.0, a.1.ty, (a.1, a.2, refl), ap (λ (q : ℕ). slot_at n m (Some q) a.1.ty) here ∙ a.3))
    | inr k ↦ (let r = result_of w.result s k in (None, r.0, r.1, r.2))
  ]

module _ (n : ℕ) where
  has_method : (b m : ℕ) (ws : List Method) (w : Method) (place : Option ℕ) (t : AidlType) → slice_get ws m ≡ Some w → IsPlaceOf w place t
      → Has (method_slots n b ws) (slot_at n (b + m) place t)
  has_method b m [] w place t at h = absurd cc
  has_method b zero (v ∷ ws) w place t at h =
      let same : v ≡ w = cc in
      let here : b ≡ b + zero = omega arith in
      let k = has_place n b v place t (subst (λ u. IsPlaceOf u place t) (sym same) h) in
      subst (λ q. Has (method_slots n b (v ∷ ws)) (slot_at n q place t)) here (has_left (of_method n b v) (method_slots n (suc b) ws) (slot_at n b place t) k)
  has_method b (suc m) (v ∷ ws) w place t at h =
      let here : suc b + m ≡ b + suc m = omega arith in
      subst (λ q. Has (method_slots n b (v ∷ ws)) (slot_at n q place t)) here
      (has_right (of_method n b v) (method_slots n (suc b) ws) (slot_at n (suc b + m) place t) (has_method (suc b) m ws w place t at h))

  -- of which method, and where
  abbrev OfMethod : ℕ → List Method → Slot → Type 0
  OfMethod b ws s = (m : ℕ) × (w : Method) × (slice_get ws m ≡ Some w) × (place : Option ℕ) × (t : AidlType) × IsPlaceOf w place t × (slot_at n (b + m) place t ≡ s)

  method_of : (b : ℕ) (ws : List Method) (s : Slot) → Has (method_slots n b ws) s → OfMethod b ws s
  method_of b [] s h = absurd (let e = h.1 in cc)
  method_of b (w ∷ ws) s h = elim (has_either (of_method n b w) (method_slots n (suc b) ws) s h) as (λ _. OfMethod b (w ∷ ws) s) [
    | inl k ↦ (let p = place_of n b w s k in let here : b + zero ≡ b = omega arith in (zero, w, refl, p.0, p.1, p.2, ap (λ (q : ℕ). slot_at n q p.0 p.1) here ∙ p.3))
    | inr k ↦ (let p = method_of (suc b) ws s k in let here : b + suc p.0 ≡ suc b + p.0 = omega arith in (suc p.0, p.1, p.2, p.3, p.4, p.5, ap (λ (q : ℕ). slot_at n q p.3 p.4) here ∙ p.6))
  ]

has_interface : (b n m : ℕ) (S : List Decl) (d : Decl) (w : Method) (place : Option ℕ) (t : AidlType) → slice_get S n ≡ Some d → slice_get (methods_of d.kind) m ≡ Some w → IsPlaceOf w place t
    → Has (slots_from b S) (slot_at (b + n) m place t)
has_interface b n m [] d w place t at there h = absurd cc
has_interface b zero m (e ∷ S) d w place t at there h =
    let same : d ≡ e = cc in
    let here : b ≡ b + zero = omega arith in
    let first : 0 + m ≡ m = omega arith in
    let k = has_method b 0 m (methods_of e.kind) w place t (subst (λ x. slice_get (methods_of x.kind) m ≡ Some w) same there) h in
    subst (λ q. Has (slots_from b (e ∷ S)) (slot_at q m place t)) here
    (has_left (method_slots b 0 (methods_of e.kind)) (slots_from (suc b) S) (slot_at b m place t) (subst (λ q. Has (method_slots b 0 (methods_of e.kind)) (slot_at b q place t)) first k))
has_interface b (suc n) m (e ∷ S) d w place t at there h =
    let here : suc b + n ≡ b + suc n = omega arith in
    subst (λ q. Has (slots_from b (e ∷ S)) (slot_at q m place t)) here
    (has_right (method_slots b 0 (methods_of e.kind)) (slots_from (suc b) S) (slot_at (suc b + n) m place t) (has_interface (suc b) n m S d w place t at there h))

-- of which method of which interface, and where
abbrev OfInterface : ℕ → List Decl → Slot → Type 0
OfInterface b S s = (n : ℕ) × (d : Decl) × (slice_get S n ≡ Some d) × (m : ℕ) × (w : Method) × (slice_get (methods_of d.kind) m ≡ Some w)
    × (place : Option ℕ) × (t : AidlType) × IsPlaceOf w place t × (slot_at (b + n) m place t ≡ s)

interface_of : (b : ℕ) (S : List Decl) (s : Slot) → Has (slots_from b S) s → OfInterface b S s
interface_of b [] s h = absurd (let e = h.1 in cc)
interface_of b (d ∷ S) s h = elim (has_either (method_slots b 0 (methods_of d.kind)) (slots_from (suc b) S) s h) as (λ _. OfInterface b (d ∷ S) s) [
  | inl k ↦ (let p = method_of b 0 (methods_of d.kind) s k in
      let here : b + zero ≡ b = omega arith in
      let first : p.0 ≡ 0 + p.0 = omega arith in
      (zero, d, refl, p.0, p.1, p.2, p.3, p.4, p.5, ap (λ (q : ℕ). slot_at q p.0 p.3 p.4) here ∙ ap (λ (q : ℕ). slot_at b q p.3 p.4) first ∙ p.6))
  | inr k ↦ (let p = interface_of (suc b) S s k in
      let here : b + suc p.0 ≡ suc b + p.0 = omega arith in
      (suc p.0, p.1, p.2, p.3, p.4, p.5, p.6, p.7, p.8, ap (λ (q : ℕ). slot_at q p.3 p.6 p.7) here ∙ p.9))
]

-- what a slot of a schema is
pub record IsSlotOf (S : List Decl) (s : Slot) : Type 0 where
  pub decl : Decl
  pub decl_at : slice_get S s.interface ≡ Some decl
  pub method : Method
  pub method_at : slice_get (methods_of decl.kind) s.method ≡ Some method
  pub place_at : IsPlaceOf method s.place s.ty

pub slot_is : (S : List Decl) (s : Slot) → Has (slots S) s → IsSlotOf S s
slot_is S s h =
    let p = interface_of 0 S s h in
    let here : p.0 ≡ 0 + p.0 = omega arith in
    subst (λ x. IsSlotOf S x) (ap (λ (q : ℕ). slot_at q p.3 p.6 p.7) here ∙ p.9) (record { decl = p.1; decl_at = p.2; method = p.4; method_at = p.5; place_at = p.8 })

pub has_slot : (S : List Decl) (n m : ℕ) (d : Decl) (w : Method) (place : Option ℕ) (t : AidlType) → slice_get S n ≡ Some d → slice_get (methods_of d.kind) m ≡ Some w → IsPlaceOf w place t
    → Has (slots S) (slot_at n m place t)
has_slot S n m d w place t at there h =
    let here : 0 + n ≡ n = omega arith in
    subst (λ q. Has (slots S) (slot_at q m place t)) here (has_interface 0 n m S d w place t at there h)

-- positions of arguments are small
abbrev pub IsSmallPlace : Option ℕ → Type 0
IsSmallPlace (Some k) = k < 4294967296
IsSmallPlace None = Unit {0}

pub slot_small : (S : List Decl) → AllHold S → (s : Slot) → Has (slots S) s → (s.method < 4294967296) × IsSmallPlace s.place
slot_small S hold s h =
    let is = slot_is S s h in
    let holds = hold s.interface is.decl is.decl_at in
    let low = slice_get_within (methods_of is.decl.kind) s.method is.method is.method_at in
    (omega (arith, low, holds.few_methods), by_place s.place is.place_at)
  where
    by_place : (place : Option ℕ) → IsPlaceOf (slot_is S s h).method place s.ty → IsSmallPlace place
    by_place (Some k) p =
        let is = slot_is S s h in
        let within = slice_get_within is.method.args k p.0 p.1 in
        let few = (hold s.interface is.decl is.decl_at).few_arguments s.method is.method is.method_at in
        omega (arith, within, few)
    by_place None p = tt
