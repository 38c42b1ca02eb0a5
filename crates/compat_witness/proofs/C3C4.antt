-- A method that new lacks, and one whose id differs: a request without arguments shows it.
use Rattle.std.proofs.Common.{◌≡◌, ℕ, zero, suc, ◌+◌, ◌≤◌, ℤ, Bool, true, false, not, ◌==◌, List, [], ◌∷◌, length, Option, Some, None, slice_get, Result, Ok, Err, ◌⊎◌, inl, inr, ◌&&◌, find, refl, sym, ap, ◌∙◌, subst, arith}
use Rattle.std.specs.Prelude.{is_none}
use Rattle.std.specs.List.{position}
use Rattle.std.specs.Ordering.{int_eq}
use Rattle.std.proofs.lemmas.Bool.Decides.{nat_tests}
use Rattle.aidl_base.proofs.lemmas.Tests.{both}
use Rattle.aidl_base.specs.declared.profile.Profile.TheVariants.{Strict}
use Rattle.aidl_base.specs.Readings.{word_as, count_at, text_at}
use Rattle.aidl_schema.proofs.lemmas.Places.{are_both}
use Rattle.aidl_schema.proofs.lemmas.Sames.{eq_refl}
use Rattle.aidl_schema.specs.declared.schema.AidlType.{AidlType}
use Rattle.aidl_schema.specs.declared.schema.Arg.{Arg}
use Rattle.aidl_schema.specs.declared.schema.Decl.{Decl}
use Rattle.aidl_schema.specs.declared.schema.Method.{Method}
use Rattle.aidl_schema.specs.Broken.{Place, member, same_method, is_there_and, is_kept, in_both, C3, C4, broken}
use Rattle.aidl_schema.specs.Find.{methods_of_decl, methods_at, position_of_code}
use Rattle.aidl_schema.specs.Holds.{AreApart, AllHold}
use Rattle.aidl_schema.specs.Names.{name_of, methods_of}
use Rattle.aidl_schema.specs.Types.{Form, form_of, is_one, is_array, is_raw, elem}
use Rattle.aidl_schema.specs.Types as form
use Rattle.aidl_schema.specs.Unbroken.{Has}
use Rattle.aidl_values.specs.Data.{Data, Items, none, item}
use Rattle.aidl_values.specs.Sound.{initial_in}
use Rattle.wire_model.specs.Calls.{descriptor, arguments_of, arguments, code_at, code_of, is_out}
use Rattle.wire_model.specs.MethodOf.{method_of}
use Rattle.wire_model.specs.Outcome.{declared_as, method_like}
use Rattle.wire_model.specs.ReadOf.{Read, ◌>>=◌, one_at, array_at, marker_at, record_at, union_at, read_of}
use Rattle.wire_model.specs.Receiver.{Received, received, or_status, zero_in, length_at, array_opening_at, argument_at, arguments_at, opened_length}
use Rattle.wire_model.specs.Receiver as receiver
use Rattle.wire_model.specs.Requests.{ArgsFit, ArgumentsFit, argument_parts, request, sum_of_lengths}
use Rattle.wire_model.specs.Status.{bad_value, not_enough, unknown_transaction}
use Rattle.wire_model.proofs.lemmas.Lookups.{position_none, position_passes}
use Rattle.compat_witness.specs.Candidates.{Candidate, AreSmall, Shows}
use Rattle.compat_witness.specs.Candidates as candidate
use Rattle.compat_witness.specs.Places.{Spot, spot_of}
use Rattle.compat_witness.specs.Rows.{is_empty, decl_at, candidates_if, row_C3, row_C4}
use Rattle.compat_witness.specs.Sides.{transport, called, side_of, projected_arguments, read_request, projected_request}
use Rattle.compat_witness.proofs.Entries.{entry, in_places}
use Rattle.compat_witness.proofs.C16.{given_is}
use Rattle.compat_witness.proofs.Pairs.{other_decl, pair_is, in_both_is}
use Rattle.compat_witness.proofs.Numbers.{read_one, read_many}
use Rattle.compat_witness.proofs.Single.{mine, of_parts, read_found, read_nobody, projected_by}
use Rattle.compat_witness.proofs.Spots.{and_then_is, spot_is, IsLike}

pub empty_is : {X : Type 0} (xs : List X) → is_empty xs ≡ true → xs ≡ []
empty_is [] e = refl
empty_is (x ∷ xs) e = cc

-- none is found, so none passes
none_found : {X : Type 0} (test : X → Bool) (xs : List X) (k : ℕ) (x : X) → find test xs ≡ None → slice_get xs k ≡ Some x → test x ≡ false
none_found test [] k x e at = cc
none_found {X} test (y ∷ xs) k x e at = by (test y) refl k at (λ h j at. none_found test xs j x h at)
  where
    by : (b : Bool) → test y ≡ b → (k : ℕ) → slice_get (y ∷ xs) k ≡ Some x → (find test xs ≡ None → (j : ℕ) → slice_get xs j ≡ Some x → test x ≡ false) → test x ≡ false
    by true is k at later = let wrong : ◌≡◌ {A = Option X} (Some y) None = rw is at e in cc
    by false is zero at later = let one : y ≡ x = cc in subst (λ z. test z ≡ false) one is
    by false is (suc k) at later = later (rw is at e) k at

not_kept : {X : Type 0} (alike : X → X → Bool) (ys : List X) (x : X) → not (is_kept alike (λ x y. true) ys x) ≡ true → find (λ y. alike x y) ys ≡ None
not_kept {X} alike ys x h = by (find (λ y. alike x y) ys) refl h
  where
    by : (o : Option X) → find (λ y. alike x y) ys ≡ o → not (is_there_and (λ y. true) o) ≡ true → find (λ y. alike x y) ys ≡ None
    by None e h = e
    by (Some y) e h = cc

-- Without a byte to read there is too little, and never UNKNOWN_TRANSACTION.
abbrev pub IsShort : {A : Type 0} → Result A ℤ → Type 0
IsShort x = (x ≡ Err not_enough) ⊎ (x ≡ Err bad_value)

abbrev is_unknown : {A : Type 0} → Result A ℤ → Bool
is_unknown (Ok x) = false
is_unknown (Err s) = int_eq s unknown_transaction

other_status : {A : Type 0} (x : Result A ℤ) → IsShort x → x ≡ Err unknown_transaction → ⊥
other_status {A} x (inl h) e = let wrong : ◌≡◌ {A = Result A ℤ} (Err not_enough) (Err unknown_transaction) = sym h ∙ e in let clash : false ≡ true = ap is_unknown wrong in absurd cc
other_status {A} x (inr h) e = let wrong : ◌≡◌ {A = Result A ℤ} (Err bad_value) (Err unknown_transaction) = sym h ∙ e in let clash : false ≡ true = ap is_unknown wrong in absurd cc

module _ (S : List Decl) where
  one_short : (read : AidlType → Bool → List ℕ → Read Data) (nullable : Bool) (f : Form) → IsShort (one_at Strict true (λ g. initial_in S g) read nullable f false [])
  unfolding word_as count_at text_at record_at union_at marker_at
  one_short read nullable form.truth = inl refl
  one_short read nullable form.byte = inl refl
  one_short read nullable form.char = inl refl
  one_short read nullable form.int = inl refl
  one_short read nullable form.long = inl refl
  one_short read nullable form.text = inl refl
  one_short read nullable (form.parcelable fs) = inl refl
  one_short read nullable (form.union fs) = inl refl
  one_short read nullable form.nothing = inr refl

  pub value_short : (t : AidlType) (one : Bool) → is_one t.shape ≡ one → IsShort (read_of Strict S 64 t false [])
  unfolding array_at count_at
  value_short t true is = subst IsShort (sym (read_one S 63 t false (form_of S t.base) [] is refl)) (one_short (λ u j b. read_of Strict S 63 u j b) t.nullable (form_of S t.base))
  value_short t false is = subst IsShort (sym (read_many S 63 t false [] is)) (inl refl)

  argument_short : (sum : ℕ) (a : Arg) (out array : Bool) → is_out a.way ≡ out → is_array a.ty.shape ≡ array
      → IsShort (argument_at Strict S sum a []) ⊎ ((v : Data) × (argument_at Strict S sum a [] ≡ Ok (v, [])))
  unfolding array_opening_at length_at count_at
  argument_short sum a true true p q = rw (p, q) (inl (inl refl))
  argument_short sum a true false p q = rw (p, q) (inr (zero_in S a.ty, refl))
  argument_short sum a false array p q = rw p (inl (value_short a.ty (is_one a.ty.shape) refl))

  arguments_short : (xs : List Arg) (sum : ℕ) → arguments_at Strict S sum xs [] ≡ Err unknown_transaction → ⊥
  arguments_short [] sum e = cc
  arguments_short (a ∷ xs) sum e = by (argument_short sum a (is_out a.way) (is_array a.ty.shape) refl refl) (λ n h. arguments_short xs n h)
    where
      then_one : Read Data → Read Items
      then_one x = x >>= λ v. arguments_at Strict S (sum + opened_length a v.0) xs v.1 >>= λ vs. Ok (item v.0 vs.0, vs.1)

      others : (v : Data) (x : Read Items) → (x >>= λ vs. let y : Read Items = Ok (item v vs.0, vs.1) in y) ≡ Err unknown_transaction → x ≡ Err unknown_transaction
      others v (Ok y) h = cc
      others v (Err s) h = let is : s ≡ unknown_transaction = cc in ap (λ z. let x : Read Items = Err z in x) is

      first : (x : Read Data) → IsShort x → then_one x ≡ Err unknown_transaction → ⊥
      first (Ok y) (inl h) e = cc
      first (Ok y) (inr h) e = cc
      first (Err s) h e = let is : s ≡ unknown_transaction = cc in other_status (Err s) h (ap (λ z. let x : Read Data = Err z in x) is)

      by : IsShort (argument_at Strict S sum a []) ⊎ ((v : Data) × (argument_at Strict S sum a [] ≡ Ok (v, []))) → ((n : ℕ) → arguments_at Strict S n xs [] ≡ Err unknown_transaction → ⊥) → ⊥
      by (inl h) later = first (argument_at Strict S sum a []) h e
      by (inr h) later = later (sum + opened_length a h.0) (others h.0 (arguments_at Strict S (sum + opened_length a h.0) xs []) (ap then_one (sym h.1) ∙ e))

  -- A method whose code is known is called or refused, but not for its code.
  pub parts_known : (j n : ℕ) → side_of (of_parts S j n []) ≡ transport unknown_transaction → ⊥
  parts_known j n = by (arguments_at Strict S 0 (arguments (method_of S j n)) []) (arguments_short (arguments (method_of S j n)) 0)
    where
      by : (x : Read Items) → (x ≡ Err unknown_transaction → ⊥) → side_of (x >>= λ saw. Ok (received n saw.0 saw.1)) ≡ transport unknown_transaction → ⊥
      by (Err s) never e = let is : s ≡ unknown_transaction = cc in never (ap (λ z. let x : Read Items = Err z in x) is)
      by (Ok (saw, [])) never e = cc
      by (Ok (saw, c ∷ rest)) never e = cc

  -- It is that method, and no other, that is called.
  pub parts_called : (j n k : ℕ) (parts : List ℕ) (saw : Items) → side_of (of_parts S j n parts) ≡ called k saw → n ≡ k
  parts_called j n k parts saw = by (arguments_at Strict S 0 (arguments (method_of S j n)) parts)
    where
      by : (x : Read Items) → side_of (x >>= λ saw. Ok (received n saw.0 saw.1)) ≡ called k saw → n ≡ k
      by (Err s) e = cc
      by (Ok (y, [])) e = cc
      by (Ok (y, c ∷ rest)) e = cc

-- a request without arguments
module _ (A B : List Decl) (holds : AllHold B) (i m : ℕ) (d : Decl) (v : Method) (here : slice_get A i ≡ Some d) (at : slice_get (methods_of d.kind) m ≡ Some v) (bare : v.args ≡ [])
    (j : ℕ) (interface : declared_as B (descriptor A i) ≡ Some j) where
  no_arguments : arguments (method_of A i m) ≡ []
  no_arguments = ap arguments_of (mine A B holds i m d v here at j interface) ∙ bare

  pub bare_fits : ArgsFit (method_of A i m) none
  bare_fits = record { each = subst (λ xs. ArgumentsFit A xs none) (sym no_arguments) tt; few = subst (λ xs. sum_of_lengths xs none ≤ 65536) (sym no_arguments) (omega arith) }

  no_parts : argument_parts A (arguments (method_of A i m)) none ≡ []
  no_parts = ap (λ xs. argument_parts A xs none) no_arguments

  pub bare_found : (n : ℕ) → length (request (method_of A i m) none) ≤ 1048576 → position_of_code (methods_at B j) (code_at (method_of A i m)) ≡ Some n → read_request (method_of A i m) B (request (method_of A i m) none) ≡ side_of (of_parts B j n [])
  bare_found n small code = read_found A B holds i m d v here at j interface none small n code ∙ ap (λ b. side_of (of_parts B j n b)) no_parts

  pub code_is : code_at (method_of A i m) ≡ v.id + 1
  code_is = ap code_of (mine A B holds i m d v here at j interface)

module _ (old new : List Decl) (holds_old : AllHold old) (holds_new : AllHold new) (apart_old : AreApart name_of old) (apart_new : AreApart name_of new) (p : Place) (cs : List Candidate)
    (small : AreSmall old new cs) where
  -- One candidate of an entry of C3 that counts differs.
  pub c3 : Has (broken old new) (3, p) → row_C3 old new p ≡ Some cs → Shows old new cs
  c3 h row =
      let e = entry old new 3 p 0 C3 refl (λ q. absurd (omega (arith, q))) (λ q. absurd (omega (arith, q))) h in
      let x = in_places (λ (v : Method). member e.before v.name) (λ v. not (is_kept same_method (λ x y. true) (methods_of e.after.kind) v)) (methods_of e.before.kind) p e.places in
      let v = x.0 in
      let row' = subst (λ q. row_C3 old new q ≡ Some cs) x.3 row in
      let y = and_then_is (λ (s : Spot). decl_at new (descriptor old s.interface) (λ j. candidates_if (is_empty s.method.args && not (is_none (position_of_code (methods_at new j) (s.method.id + 1)))) (candidate.request false s.interface s.position none ∷ [])))
      (spot_of old (member e.before v.name)) cs row' in
      let s = y.0 in
      let spot = spot_is old holds_old apart_old e.before v s e.here x.1 y.1 in
      let z = and_then_is (λ j. candidates_if (is_empty s.method.args && not (is_none (position_of_code (methods_at new j) (s.method.id + 1)))) (candidate.request false s.interface s.position none ∷ []))
      (declared_as new (descriptor old s.interface)) cs y.2 in
      let j = z.0 in
      let met = given_is (is_empty s.method.args && not (is_none (position_of_code (methods_at new j) (s.method.id + 1)))) (candidate.request false s.interface s.position none ∷ []) cs z.2 in
      let two = both (is_empty s.method.args) (not (is_none (position_of_code (methods_at new j) (s.method.id + 1)))) met.0 in
      let bare : v.args ≡ [] = empty_is v.args (subst (λ (w : Method). is_empty w.args ≡ true) spot.method two.0) in
      let known = subst (λ (w : Method). not (is_none (position_of_code (methods_at new j) (w.id + 1))) ≡ true) spot.method two.1 in
      shown s.interface s.position e.before v spot.here spot.at bare j z.1
      (lacks e.after v j (other_decl old new holds_old holds_new apart_old apart_new s.interface j e.before e.after spot.here e.there z.1) (not_kept same_method (methods_of e.after.kind) v x.2))
      (position_of_code (methods_at new j) (v.id + 1)) refl known met.1
    where
      -- new has no method of its name
      lacks : (e : Decl) (v : Method) (j : ℕ) → slice_get new j ≡ Some e → find (λ w. same_method v w) (methods_of e.kind) ≡ None → method_like (Some v) (methods_at new j) ≡ None
      lacks e v j there lacking = ap (λ o. position (λ w. same_method v w) (methods_of_decl o)) there
          ∙ position_none (λ w. same_method v w) (methods_of e.kind) (λ k w at. none_found (λ w. same_method v w) (methods_of e.kind) k w lacking at)

      shown : (i m : ℕ) (d : Decl) (v : Method) → slice_get old i ≡ Some d → slice_get (methods_of d.kind) m ≡ Some v → v.args ≡ [] → (j : ℕ) → declared_as new (descriptor old i) ≡ Some j
          → method_like (Some v) (methods_at new j) ≡ None → (o : Option ℕ) → position_of_code (methods_at new j) (v.id + 1) ≡ o → not (is_none o) ≡ true → candidate.request false i m none ∷ [] ≡ cs → Shows old new cs
      shown i m d v here at bare j interface like None code known is = cc
      shown i m d v here at bare j interface like (Some n) code known is =
          let c = candidate.request false i m none in
          let there : Has cs c = subst (λ ds. Has ds c) is (0, refl) in
          let fits = bare_fits old new holds_new i m d v here at bare j interface in
          let few = small c there fits in
          let found : position_of_code (methods_at new j) (code_at (method_of old i m)) ≡ Some n = ap (position_of_code (methods_at new j)) (code_is old new holds_new i m d v here at bare j interface) ∙ code in
          let read = bare_found old new holds_new i m d v here at bare j interface n few found in
          let projected = projected_by old new holds_new i m d v here at j interface none None like in
          (c, there, record { fits = fits; small = few }, λ e. parts_known new j n (sym read ∙ e ∙ projected))

  -- One candidate of an entry of C4 that counts differs.
  pub c4 : Has (broken old new) (4, p) → row_C4 old new p ≡ Some cs → Shows old new cs
  c4 h row =
      let e = entry old new 4 p 1 C4 refl (λ q. absurd (omega (arith, q))) (λ q. absurd (omega (arith, q))) h in
      let x = in_places (λ (q : Method × Method). member e.before q.0.name) (λ (q : Method × Method). not (q.0.id == q.1.id)) (in_both same_method (methods_of e.before.kind) (methods_of e.after.kind)) p e.places in
      let v = x.0.0 in
      let w = x.0.1 in
      let pair = are_both same_method (methods_of e.before.kind) (methods_of e.after.kind) x.0 x.1 in
      let row' = subst (λ q. row_C4 old new q ≡ Some cs) x.3 row in
      let asks : Spot → Spot → Option (List Candidate) = λ s w. candidates_if (is_empty s.method.args && is_empty w.method.args) (candidate.request false s.interface s.position none ∷ []) in
      let y = in_both_is old new (member e.before v.name) asks cs row' in
      let s = y.s in
      let t = y.t in
      let q = pair_is old new holds_old holds_new apart_old apart_new e.before e.after v w s t e.here e.there pair y.found y.like in
      let met = given_is (is_empty s.method.args && is_empty t.method.args) (candidate.request false s.interface s.position none ∷ []) cs y.given in
      let two = both (is_empty s.method.args) (is_empty t.method.args) met.0 in
      let bare : v.args ≡ [] = empty_is v.args (subst (λ (u : Method). is_empty u.args ≡ true) q.spot.method two.0) in
      shown s.interface s.position e.before v q.spot.here q.spot.at bare t q.like (empty_is t.method.args two.1) (λ z. ids_differ v.id w.id x.2 (z ∙ ap (λ (u : Method). u.id) q.other)) met.1
    where
      ids_differ : (a b : ℕ) → not (a == b) ≡ true → a ≡ b → ⊥
      ids_differ a b h e = let wrong : not (b == b) ≡ true = subst (λ c. not (c == b) ≡ true) e h in let is = eq_refl b in let clash : not true ≡ true = subst (λ c. not c ≡ true) is wrong in absurd cc

      shown : (i m : ℕ) (d : Decl) (v : Method) → slice_get old i ≡ Some d → slice_get (methods_of d.kind) m ≡ Some v → v.args ≡ [] → (t : Spot) → IsLike old i v new t → t.method.args ≡ []
          → (v.id ≡ t.method.id → ⊥) → candidate.request false i m none ∷ [] ≡ cs → Shows old new cs
      shown i m d v here at bare t like bare_t differ is =
          let c = candidate.request false i m none in
          let there : Has cs c = subst (λ ds. Has ds c) is (0, refl) in
          let fits = bare_fits old new holds_new i m d v here at bare t.interface like.interface in
          let few = small c there fits in
          let arguments_t : arguments (method_of new t.interface t.position) ≡ [] = ap arguments_of (ap (λ o. slice_get (methods_of_decl o) t.position) like.spot.here ∙ like.spot.at) ∙ bare_t in
          let projected : projected_request (method_of old i m) new none ≡ called t.position none =
          projected_by old new holds_new i m d v here at t.interface like.interface none (Some t.position) like.like
          ∙ ap (λ ys. side_of (or_status bad_value (projected_arguments old (arguments (method_of old i m)) new ys none) >>= λ saw. Ok (receiver.called t.position saw))) arguments_t in
          (c, there, record { fits = fits; small = few }, λ e. by_code (position_of_code (methods_at new t.interface) (code_at (method_of old i m))) refl few (e ∙ projected))
        where
          by_code : (o : Option ℕ) → position_of_code (methods_at new t.interface) (code_at (method_of old i m)) ≡ o → length (request (method_of old i m) none) ≤ 1048576
              → read_request (method_of old i m) new (request (method_of old i m) none) ≡ called t.position none → ⊥
          by_code None code few e =
              let wrong : transport unknown_transaction ≡ called t.position none = sym (read_nobody old new holds_new i m d v here at t.interface like.interface none few code) ∙ e in cc
          by_code (Some n) code few e =
              let at_n : n ≡ t.position = parts_called new t.interface n t.position [] none (sym (bare_found old new holds_new i m d v here at bare t.interface like.interface n few code) ∙ e) in
              let x = position_passes (λ (u : Method). u.id + 1 == code_at (method_of old i m)) (methods_at new t.interface) n code in
              let at_t : slice_get (methods_at new t.interface) n ≡ Some t.method = ap (λ k. slice_get (methods_at new t.interface) k) at_n ∙ ap (λ o. slice_get (methods_of_decl o) t.position) like.spot.here ∙ like.spot.at in
              let same : ◌≡◌ {A = Option Method} (Some x.0) (Some t.method) = sym x.1 ∙ at_t in
              let is_t : x.0 ≡ t.method = cc in
              let id : (t.method.id + 1 == code_at (method_of old i m)) ≡ true = subst (λ (u : Method). (u.id + 1 == code_at (method_of old i m)) ≡ true) is_t x.2 in
              differ (ids t.method.id v.id (subst (λ k. (t.method.id + 1 == k) ≡ true) (code_is old new holds_new i m d v here at bare t.interface like.interface) id))
            where
              ids : (a b : ℕ) → (a + 1 == b + 1) ≡ true → b ≡ a
              ids a b e = grind (arith, nat_tests)
