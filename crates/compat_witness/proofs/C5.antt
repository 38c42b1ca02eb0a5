-- The results of a method differ: z0 or nothing shows it, one way or the other.
use Rattle.std.proofs.Common.{◌≡◌, ℕ, ℤ, pos, Bool, true, false, not, ◌&&◌, ◌||◌, cond, List, [], ◌∷◌, ◌++◌, Option, Some, None, Result, Ok, Err, ◌⊎◌, inl, inr, refl, sym, ap, ◌∙◌, subst, arith}
use Rattle.std.specs.Prelude.{option_map}
use Rattle.std.specs.Ordering.{int_eq}
use Rattle.std.proofs.lemmas.List.{append-nil}
use Rattle.aidl_base.proofs.lemmas.Tests.{both, neither}
use Rattle.aidl_base.proofs.lemmas.Words.{word_again, fits_pos}
use Rattle.aidl_base.specs.declared.profile.Profile.TheVariants.{Strict}
use Rattle.aidl_base.specs.Words.{word}
use Rattle.aidl_schema.proofs.lemmas.Places.{are_both}
use Rattle.aidl_schema.proofs.lemmas.Sames.{same_sym}
use Rattle.aidl_schema.specs.declared.schema.AidlType.{AidlType}
use Rattle.aidl_schema.specs.declared.schema.Decl.{Decl}
use Rattle.aidl_schema.specs.declared.schema.Method.{Method}
use Rattle.aidl_schema.specs.Broken.{Place, member, same_method, in_both, same_result, C5, broken}
use Rattle.aidl_schema.specs.Holds.{AreApart, AllHold}
use Rattle.aidl_schema.specs.Names.{name_of, methods_of}
use Rattle.aidl_schema.specs.Same.{same}
use Rattle.aidl_schema.specs.Unbroken.{Has}
use Rattle.aidl_values.specs.Data.{Data, Items, none}
use Rattle.wire_model.specs.Calls.{AnswerData, returned, method_at, arguments_of, arguments, result_of, result_type, outs_of, out_types, is_oneway, is_oneway_of}
use Rattle.wire_model.specs.MethodOf.{method_of}
use Rattle.wire_model.specs.ReadOf.{Read, ◌>>=◌, read_of}
use Rattle.wire_model.specs.Receiver.{or_status, zero_in, result_at, values_at, returned_at, status_at, whole}
use Rattle.wire_model.specs.Receiver as receiver
use Rattle.wire_model.specs.Requests.{ResultFits, EachFits, spell_result, spell_each}
use Rattle.wire_model.specs.Requests as wire
use Rattle.wire_model.specs.Spell.{spell}
use Rattle.wire_model.specs.Status.{bad_value, not_enough}
use Rattle.compat_witness.specs.Candidates.{Candidate, AreSmall, Shows, counterpart, IsAnswerAt, at_method, answer_bytes}
use Rattle.compat_witness.specs.Candidates as candidate
use Rattle.compat_witness.specs.Places.{Spot}
use Rattle.compat_witness.specs.Reaching.{plain_value}
use Rattle.compat_witness.specs.Rows.{is_empty, is_plain_result, low_result, row_C5}
use Rattle.compat_witness.specs.Rows as table
use Rattle.compat_witness.specs.Sides.{Side, client, no_reply, read_reply, projected_result, projected_outs, projected_answer, projected_reply}
use Rattle.compat_witness.proofs.C16.{given_is}
use Rattle.compat_witness.proofs.C3C4.{IsShort, value_short, empty_is}
use Rattle.compat_witness.proofs.Entries.{entry, in_places}
use Rattle.compat_witness.proofs.Low.{four, eight, low_bytes, low_spelled, four_or_eight, IsWhole, reads_four, reads_eight, no_view, not_same}
use Rattle.compat_witness.proofs.Pairs.{mine, his, named, like_back, pair_is, in_both_is}
use Rattle.compat_witness.proofs.Plain.{IsPlain, plain_is, plain_typed, flat_value}
use Rattle.aidl_schema.specs.Types.{is_one}

-- what a client without outs makes of what stands after the status
abbrev pub of_result : Read (Option Data) → Result AnswerData ℤ
of_result (Err s) = Err s
of_result (Ok (r, [])) = Ok (returned r none)
of_result (Ok (r, c ∷ rest)) = Err bad_value

abbrev of_view : Option (Option Data) → Result AnswerData ℤ
of_view o = or_status bad_value o >>= λ r. Ok (returned r none)

-- A reply of B's method w to A's client of v; neither has an argument.
module _ (A : List Decl) (i m : ℕ) (v : Method) (B : List Decl) (j n : ℕ) (w : Method) (at_v : method_at (method_of A i m) ≡ Some v) (at_w : method_at (method_of B j n) ≡ Some w) (bare_v : v.args ≡ []) (bare_w : w.args ≡ [])
    (two_way : w.oneway ≡ false) (found : counterpart (method_of A i m) B ≡ Some (method_of B j n)) (r : Option Data) where
  outs_a : out_types (method_of A i m) ≡ []
  outs_a = ap (λ o. outs_of (arguments_of o)) at_v ∙ ap outs_of bare_v

  outs_b : out_types (method_of B j n) ≡ []
  outs_b = ap (λ o. outs_of (arguments_of o)) at_w ∙ ap outs_of bare_w

  result_a : result_type (method_of A i m) ≡ v.result
  result_a = ap result_of at_v

  result_b : result_type (method_of B j n) ≡ w.result
  result_b = ap result_of at_w

  abbrev sent : List ℕ
  sent = spell_result B w.result r

  reply_is : wire.reply (method_of B j n) (returned r none) ≡ word (pos 0) ++ sent
  reply_is =
      ap (λ t. word (pos 0) ++ (spell_result B t r ++ spell_each B (out_types (method_of B j n)) none)) result_b
      ∙ ap (λ ts. word (pos 0) ++ (sent ++ spell_each B ts none)) outs_b ∙ ap (λ b. word (pos 0) ++ b) (append-nil sent)

  abbrev then_status : Read ℤ → Result AnswerData ℤ
  then_status x = x >>= λ status. status_at Strict A (result_type (method_of A i m)) (out_types (method_of A i m)) status.0 status.1 >>= λ a. whole a.0 a.1

  abbrev then_result : List AidlType → Read (Option Data) → Result AnswerData ℤ
  then_result ts x = (x >>= λ r. values_at Strict A ts r.1 >>= λ vs. let y : Read AnswerData = Ok (returned r.0 vs.0, vs.1) in y) >>= λ a. whole a.0 a.1

  by_result : (x : Read (Option Data)) → then_result [] x ≡ of_result x
  by_result (Err s) = refl
  by_result (Ok (y, [])) = refl
  by_result (Ok (y, c ∷ rest)) = refl

  client_is : receiver.client Strict (method_of A i m) (wire.reply (method_of B j n) (returned r none)) ≡ of_result (result_at Strict A v.result sent)
  unfolding receiver.client returned_at
  client_is =
      ap (λ b. receiver.client Strict (method_of A i m) b) reply_is
      ∙ ap then_status (word_again (pos 0) false sent (fits_pos 0 (omega arith)))
      ∙ ap (λ t. then_result (out_types (method_of A i m)) (result_at Strict A t sent)) result_a
      ∙ ap (λ ts. then_result ts (result_at Strict A v.result sent)) outs_a
      ∙ by_result (result_at Strict A v.result sent)

  abbrev answer : Option AnswerData
  answer = Some (returned r none)

  two_way_there : is_oneway (method_of B j n) ≡ false
  two_way_there = ap is_oneway_of at_w ∙ two_way

  read_is : at_method no_reply (λ b. read_reply (method_of A i m) b (answer_bytes b answer)) (counterpart (method_of A i m) B) ≡ client (of_result (result_at Strict A v.result sent))
  read_is =
      ap (at_method no_reply (λ b. read_reply (method_of A i m) b (answer_bytes b answer))) found
      ∙ ap (λ b. cond b no_reply (client (receiver.client Strict (method_of A i m) (wire.reply (method_of B j n) (returned r none))))) two_way_there ∙ ap client client_is

  abbrev then_outs : Option (Option Data) → Option Items → Side
  then_outs o os = client (or_status bad_value o >>= λ r. or_status bad_value os >>= λ vs. Ok (returned r vs))

  projected_is : at_method no_reply (λ b. projected_reply b (method_of A i m) answer) (counterpart (method_of A i m) B) ≡ client (of_view (projected_result B w.result A v.result r))
  unfolding projected_answer
  projected_is =
      ap (at_method no_reply (λ b. projected_reply b (method_of A i m) answer)) found
      ∙ ap (λ t. then_outs (projected_result B t A (result_type (method_of A i m)) r) (projected_outs B (arguments (method_of B j n)) A (arguments (method_of A i m)) none)) result_b
      ∙ ap (λ t. then_outs (projected_result B w.result A t r) (projected_outs B (arguments (method_of B j n)) A (arguments (method_of A i m)) none)) result_a
      ∙ ap (λ xs. then_outs (projected_result B w.result A v.result r) (projected_outs B (arguments (method_of B j n)) A xs none)) (ap arguments_of at_v ∙ bare_v)

  pub result_differs : (of_result (result_at Strict A v.result sent) ≡ of_view (projected_result B w.result A v.result r) → ⊥)
      → at_method no_reply (λ b. read_reply (method_of A i m) b (answer_bytes b answer)) (counterpart (method_of A i m) B) ≡ at_method no_reply (λ b. projected_reply b (method_of A i m) answer) (counterpart (method_of A i m) B) → ⊥
  result_differs differs e = differs (same (of_result (result_at Strict A v.result sent)) (of_view (projected_result B w.result A v.result r)) (sym read_is ∙ e ∙ projected_is))
    where
      same : (x y : Result AnswerData ℤ) → client x ≡ client y → x ≡ y
      same x y e = cc

  pub result_fits : ResultFits B w.result r → IsAnswerAt (counterpart (method_of A i m) B) answer
  result_fits fits =
      let each : EachFits B (out_types (method_of B j n)) none = subst (λ ts. EachFits B ts none) (sym outs_b) tt in
      subst (λ q. IsAnswerAt q answer) (sym found) (two_way_there, (subst (λ t. ResultFits B t r) (sym result_b) fits, each))

low_fits : (B : List Decl) (t : Option AidlType) → is_plain_result t ≡ true → ResultFits B t (low_result t)
low_fits B None h = tt
low_fits B (Some t) h =
    let p = plain_is t h in
    let typed = plain_typed B t false t.base refl p.one p.built_in in
    record { typed = typed; deep = omega (arith, flat_value B t (plain_value false t.base) p typed) }

-- what is read of z0 is no BAD_VALUE, and nothing is left over
whole_differs : (x : Read Data) → IsWhole x → of_result (x >>= λ v. Ok (Some v.0, v.1)) ≡ Err bad_value → ⊥
whole_differs x (inl h) e =
    let wrong : ◌≡◌ {A = Result AnswerData ℤ} (Ok (returned (Some h.0) none)) (Err bad_value) = ap (λ y. of_result (y >>= λ v. Ok (Some v.0, v.1))) (sym h.1) ∙ e in absurd cc
whole_differs x (inr h) e =
    let wrong : ◌≡◌ {A = Result AnswerData ℤ} (Err not_enough) (Err bad_value) = ap (λ y. of_result (y >>= λ v. Ok (Some v.0, v.1))) (sym h) ∙ e in
    let clash : false ≡ true = ap is_bad_answer wrong in absurd cc
  where
    is_bad_answer : Result AnswerData ℤ → Bool
    is_bad_answer (Ok a) = false
    is_bad_answer (Err s) = int_eq s bad_value

short_differs : (A : List Decl) (t : AidlType) (r : Option Data) → of_result (read_of Strict A 64 t false [] >>= λ v. Ok (Some v.0, v.1)) ≡ Ok (returned r none) → ⊥
short_differs A t r e = by (value_short A t (is_one t.shape) refl)
  where
    stops : (s : ℤ) → read_of Strict A 64 t false [] ≡ Err s → ⊥
    stops s h = let wrong : ◌≡◌ {A = Result AnswerData ℤ} (Err s) (Ok (returned r none)) = ap (λ y. of_result (y >>= λ v. Ok (Some v.0, v.1))) (sym h) ∙ e in absurd cc

    by : IsShort (read_of Strict A 64 t false []) → ⊥
    by (inl h) = stops not_enough h
    by (inr h) = stops bad_value h

-- Between a client with the result t and a server with u, both plain.
module _ (A B : List Decl) (t u : AidlType) (plain_t : IsPlain t) (plain_u : IsPlain u) (differ : same B u A t ≡ false) where
  abbrev reading : List ℕ → Result AnswerData ℤ
  reading b = of_result (read_of Strict A 64 t false b >>= λ v. Ok (Some v.0, v.1))

  unseen : of_view (projected_result B (Some u) A (Some t) (Some (plain_value false u.base))) ≡ Err bad_value
  unseen = ap (λ o. of_view (option_map (λ w. let x : Option Data = Some w in x) o)) (no_view B u A t (plain_value false u.base) (not_same B u A t differ))

  pub values_differ : (c : List ℕ) → low_bytes u.base ≡ c → IsWhole (read_of Strict A 64 t false c)
      → reading (spell B u (plain_value false u.base)) ≡ of_view (projected_result B (Some u) A (Some t) (Some (plain_value false u.base))) → ⊥
  values_differ c bytes h e =
      let spelled : spell B u (plain_value false u.base) ≡ c = low_spelled B u u.base refl plain_u.built_in ∙ bytes in
      whole_differs (read_of Strict A 64 t false c) h (ap reading (sym spelled) ∙ e ∙ unseen)

-- One way or the other it shows.
abbrev ShowsIn : List Decl → Option AidlType → List Decl → Option AidlType → Type 0
ShowsIn A t B u = of_result (result_at Strict A t (spell_result B u (low_result u))) ≡ of_view (projected_result B u A t (low_result u)) → ⊥

either_way : (A B : List Decl) (t u : Option AidlType) → is_plain_result t ≡ true → is_plain_result u ≡ true → same_result A t B u ≡ false → ShowsIn A t B u ⊎ ShowsIn B u A t
either_way A B None None p q differ = cc
either_way A B (Some t) None p q differ = inl (λ e. short_differs A t (Some (zero_in A t)) e)
either_way A B None (Some u) p q differ = inr (λ e. short_differs B u (Some (zero_in B u)) e)
either_way A B (Some t) (Some u) p q differ = by (four_or_eight u.base) (four_or_eight t.base)
  where
    turn : (b : Bool) → same B u A t ≡ b → same B u A t ≡ false
    turn true h = let wrong : true ≡ false = sym (same_sym B u A t h) ∙ differ in cc
    turn false h = h

    back : same B u A t ≡ false
    back = turn (same B u A t) refl

    plain_t : IsPlain t
    plain_t = plain_is t p

    plain_u : IsPlain u
    plain_u = plain_is u q

    by : (low_bytes u.base ≡ four) ⊎ (low_bytes u.base ≡ eight) → (low_bytes t.base ≡ four) ⊎ (low_bytes t.base ≡ eight) → ShowsIn A (Some t) B (Some u) ⊎ ShowsIn B (Some u) A (Some t)
    by (inl h) k = inl (values_differ A B t u plain_t plain_u back four h (reads_four A 63 t plain_t.one plain_t.built_in))
    by (inr h) (inr k) = inl (values_differ A B t u plain_t plain_u back eight h (reads_eight A 63 t plain_t.one plain_t.built_in k))
    by (inr h) (inl k) = inr (values_differ B A u t plain_u plain_t differ four k (reads_four B 63 u plain_u.one plain_u.built_in))

flipped : (b : Bool) → not b ≡ true → b ≡ false
flipped true h = cc
flipped false h = refl

module _ (old new : List Decl) (holds_old : AllHold old) (holds_new : AllHold new) (apart_old : AreApart name_of old) (apart_new : AreApart name_of new) (p : Place) (cs : List Candidate)
    (small : AreSmall old new cs) where
  -- One candidate of an entry of C5 that counts differs.
  pub c5 : Has (broken old new) (5, p) → row_C5 old new p ≡ Some cs → Shows old new cs
  c5 h row =
      let e = entry old new 5 p 2 C5 refl (λ q. absurd (omega (arith, q))) (λ q. absurd (omega (arith, q))) h in
      let x = in_places (λ (q : Method × Method). member e.before q.0.name) (λ (q : Method × Method). not (same_result old q.0.result new q.1.result)) (in_both same_method (methods_of e.before.kind) (methods_of e.after.kind)) p e.places in
      let pair = are_both same_method (methods_of e.before.kind) (methods_of e.after.kind) x.0 x.1 in
      let asks : Spot → Spot → Option (List Candidate) = λ s w. table.candidates_if
      ((is_empty s.method.args && is_empty w.method.args) && (not (s.method.oneway || w.method.oneway) && (is_plain_result s.method.result && is_plain_result w.method.result)))
      (table.low_replies s w) in
      let y = in_both_is old new (member e.before x.0.0.name) asks cs (subst (λ q. row_C5 old new q ≡ Some cs) x.3 row) in
      let s = y.s in
      let t = y.t in
      let q = pair_is old new holds_old holds_new apart_old apart_new e.before e.after x.0.0 x.0.1 s t e.here e.there pair y.found y.like in
      let differ : same_result old s.method.result new t.method.result ≡ false =
      flipped (same_result old s.method.result new t.method.result)
      (subst (λ (u : Method). not (same_result old u.result new t.method.result) ≡ true) (sym q.spot.method) (subst (λ (u : Method). not (same_result old x.0.0.result new u.result) ≡ true) (sym q.other) x.2)) in
      let met = given_is ((is_empty s.method.args && is_empty t.method.args) && (not (s.method.oneway || t.method.oneway) && (is_plain_result s.method.result && is_plain_result t.method.result)))
      (table.low_replies s t) cs y.given in
      let one = both (is_empty s.method.args && is_empty t.method.args) (not (s.method.oneway || t.method.oneway) && (is_plain_result s.method.result && is_plain_result t.method.result)) met.0 in
      let bare = both (is_empty s.method.args) (is_empty t.method.args) one.0 in
      let two = both (not (s.method.oneway || t.method.oneway)) (is_plain_result s.method.result && is_plain_result t.method.result) one.1 in
      let ways = neither s.method.oneway t.method.oneway (flipped (s.method.oneway || t.method.oneway) two.0) in
      let plain = both (is_plain_result s.method.result) (is_plain_result t.method.result) two.1 in
      let at_s = subst (λ (u : Method). method_at (method_of old s.interface s.position) ≡ Some u) (sym q.spot.method) (mine old new holds_old apart_old s.interface s.position e.before x.0.0 q.spot.here q.spot.at t q.like) in
      let at_t = his old new holds_old apart_old s.interface s.position e.before x.0.0 q.spot.here q.spot.at t q.like in
      let forth = named old new holds_old apart_old s.interface s.position e.before x.0.0 q.spot.here q.spot.at t q.like in
      let back = named new old holds_new apart_new t.interface t.position q.like.spot.decl t.method q.like.spot.here q.like.spot.at (record { interface = s.interface; position = s.position; method = x.0.0 })
      (like_back old new holds_old apart_old s.interface s.position e.before x.0.0 q.spot.here q.spot.at t q.like) in
      by s t at_s at_t (empty_is s.method.args bare.0) (empty_is t.method.args bare.1) ways.0 ways.1 plain.0 plain.1 forth back
      (either_way old new s.method.result t.method.result plain.0 plain.1 differ) met.1
    where
      by : (s t : Spot) → method_at (method_of old s.interface s.position) ≡ Some s.method → method_at (method_of new t.interface t.position) ≡ Some t.method → s.method.args ≡ [] → t.method.args ≡ [] → s.method.oneway ≡ false → t.method.oneway ≡ false
          → is_plain_result s.method.result ≡ true → is_plain_result t.method.result ≡ true
          → counterpart (method_of old s.interface s.position) new ≡ Some (method_of new t.interface t.position) → counterpart (method_of new t.interface t.position) old ≡ Some (method_of old s.interface s.position)
          → ShowsIn old s.method.result new t.method.result ⊎ ShowsIn new t.method.result old s.method.result
          → table.low_replies s t ≡ cs → Shows old new cs
      by s t at_s at_t bare_s bare_t two_s two_t plain_s plain_t forth back (inl shows) is =
          let c = candidate.reply false s.interface s.position (Some (returned (low_result t.method.result) none)) in
          let there : Has cs c = subst (λ ds. Has ds c) is (0, refl) in
          let fits = result_fits old s.interface s.position s.method new t.interface t.position t.method at_s at_t bare_s bare_t two_t forth (low_result t.method.result) (low_fits new t.method.result plain_t) in (
            c,
            there,
            record { fits = fits; small = small c there fits },
            result_differs old s.interface s.position s.method new t.interface t.position t.method at_s at_t bare_s bare_t two_t forth (low_result t.method.result) shows,
          )
      by s t at_s at_t bare_s bare_t two_s two_t plain_s plain_t forth back (inr shows) is =
          let c = candidate.reply true t.interface t.position (Some (returned (low_result s.method.result) none)) in
          let there : Has cs c = subst (λ ds. Has ds c) is (1, refl) in
          let fits = result_fits new t.interface t.position t.method old s.interface s.position s.method at_t at_s bare_t bare_s two_s back (low_result s.method.result) (low_fits old s.method.result plain_s) in (
            c,
            there,
            record { fits = fits; small = small c there fits },
            result_differs new t.interface t.position t.method old s.interface s.position s.method at_t at_s bare_t bare_s two_s back (low_result s.method.result) shows,
          )
