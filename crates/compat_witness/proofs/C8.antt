-- A method is oneway in one schema alone: that no reply comes shows it.
use Rattle.std.proofs.Common.{◌≡◌, ℕ, ◌≤◌, Bool, true, false, not, ◌&&◌, cond, List, [], ◌∷◌, length, Option, Some, None, slice_get, refl, sym, ap, ◌∙◌, subst, arith}
use Rattle.aidl_schema.proofs.lemmas.Places.{are_both}
use Rattle.aidl_schema.specs.declared.schema.Decl.{Decl}
use Rattle.aidl_schema.specs.declared.schema.Method.{Method}
use Rattle.aidl_schema.specs.Broken.{Place, member, same_method, in_both, C8, broken}
use Rattle.aidl_schema.specs.Find.{methods_of_decl}
use Rattle.aidl_schema.specs.Holds.{AreApart, AllHold}
use Rattle.aidl_schema.specs.Names.{name_of, methods_of}
use Rattle.aidl_schema.specs.Same.{same_bool}
use Rattle.aidl_schema.specs.Unbroken.{Has}
use Rattle.wire_model.specs.Calls.{is_oneway, is_oneway_of}
use Rattle.wire_model.specs.MethodOf.{method_of}
use Rattle.compat_witness.specs.Candidates.{Candidate, AreSmall, Shows, counterpart, read_side, projected_side, IsAnswerAt, at_method, answer_bytes}
use Rattle.compat_witness.specs.Candidates as candidate
use Rattle.compat_witness.specs.Places.{Spot}
use Rattle.compat_witness.specs.Rows.{is_empty, row_C8}
use Rattle.compat_witness.specs.Rows as table
use Rattle.compat_witness.specs.Sides.{client, no_reply, read_reply, projected_answer, projected_reply}
use Rattle.compat_witness.proofs.C16.{given_is}
use Rattle.compat_witness.proofs.Entries.{entry, in_places}
use Rattle.compat_witness.proofs.Pairs.{named, like_back, pair_is, in_both_is}

-- A reply of a oneway method to a client that waits for one.
module _ (A : List Decl) (i m : ℕ) (B : List Decl) (j n : ℕ) (found : counterpart (method_of A i m) B ≡ Some (method_of B j n)) where
  pub nothing_fits : is_oneway (method_of B j n) ≡ true → IsAnswerAt (counterpart (method_of A i m) B) None
  nothing_fits one = subst (λ q. IsAnswerAt q None) (sym found) one

  pub nothing_small : length (at_method [] (λ b. answer_bytes b None) (counterpart (method_of A i m) B)) ≤ 1048576
  nothing_small = subst (λ q. length (at_method [] (λ b. answer_bytes b None) q) ≤ 1048576) (sym found) (omega arith)

  no_reply_is : is_oneway (method_of B j n) ≡ true → at_method no_reply (λ b. read_reply (method_of A i m) b (answer_bytes b None)) (counterpart (method_of A i m) B) ≡ no_reply
  no_reply_is one = ap (at_method no_reply (λ b. read_reply (method_of A i m) b (answer_bytes b None))) found ∙ rw one refl

  awaited : at_method no_reply (λ b. projected_reply b (method_of A i m) None) (counterpart (method_of A i m) B) ≡ client (projected_answer (method_of B j n) (method_of A i m) None)
  awaited = ap (at_method no_reply (λ b. projected_reply b (method_of A i m) None)) found

  pub nothing_differs : is_oneway (method_of B j n) ≡ true
      → at_method no_reply (λ b. read_reply (method_of A i m) b (answer_bytes b None)) (counterpart (method_of A i m) B) ≡ at_method no_reply (λ b. projected_reply b (method_of A i m) None) (counterpart (method_of A i m) B) → ⊥
  nothing_differs one e = let wrong : no_reply ≡ client (projected_answer (method_of B j n) (method_of A i m) None) = sym (no_reply_is one) ∙ e ∙ awaited in absurd cc

one_alone : (a b : Bool) → not (same_bool a b) ≡ true → a ≡ false → b ≡ true
one_alone a true h e = refl
one_alone true false h e = cc
one_alone false false h e = cc

module _ (old new : List Decl) (holds_old : AllHold old) (holds_new : AllHold new) (apart_old : AreApart name_of old) (apart_new : AreApart name_of new) (p : Place) (cs : List Candidate)
    (small : AreSmall old new cs) where
  -- One candidate of an entry of C8 that counts differs.
  pub c8 : Has (broken old new) (8, p) → row_C8 old new p ≡ Some cs → Shows old new cs
  c8 h row =
      let e = entry old new 8 p 5 C8 refl (λ q. absurd (omega (arith, q))) (λ q. absurd (omega (arith, q))) h in
      let x = in_places (λ (q : Method × Method). member e.before q.0.name) (λ (q : Method × Method). not (same_bool q.0.oneway q.1.oneway)) (in_both same_method (methods_of e.before.kind) (methods_of e.after.kind)) p e.places in
      let v = x.0.0 in
      let w = x.0.1 in
      let pair = are_both same_method (methods_of e.before.kind) (methods_of e.after.kind) x.0 x.1 in
      let asks : Spot → Spot → Option (List Candidate) = λ s w. table.candidates_if (is_empty s.method.args && is_empty w.method.args) (cond s.method.oneway (candidate.reply true w.interface w.position None) (candidate.reply false s.interface s.position None) ∷ []) in
      let y = in_both_is old new (member e.before v.name) asks cs (subst (λ q. row_C8 old new q ≡ Some cs) x.3 row) in
      let s = y.s in
      let t = y.t in
      let q = pair_is old new holds_old holds_new apart_old apart_new e.before e.after v w s t e.here e.there pair y.found y.like in
      let met = given_is (is_empty s.method.args && is_empty t.method.args) (cond s.method.oneway (candidate.reply true t.interface t.position None) (candidate.reply false s.interface s.position None) ∷ []) cs y.given in
      let alone : not (same_bool s.method.oneway t.method.oneway) ≡ true = subst (λ (u : Method). not (same_bool u.oneway t.method.oneway) ≡ true) (sym q.spot.method) (subst (λ (u : Method). not (same_bool v.oneway u.oneway) ≡ true) (sym q.other) x.2) in
      let oneway_s : is_oneway (method_of old s.interface s.position) ≡ s.method.oneway =
      ap (λ o. is_oneway_of (slice_get (methods_of_decl o) s.position)) q.spot.here ∙ ap is_oneway_of q.spot.at ∙ ap (λ (u : Method). u.oneway) (sym q.spot.method) in
      let oneway_t : is_oneway (method_of new t.interface t.position) ≡ t.method.oneway = ap (λ o. is_oneway_of (slice_get (methods_of_decl o) t.position)) q.like.spot.here ∙ ap is_oneway_of q.like.spot.at in
      let forth = named old new holds_old apart_old s.interface s.position e.before v q.spot.here q.spot.at t q.like in
      let back = named new old holds_new apart_new t.interface t.position q.like.spot.decl t.method q.like.spot.here q.like.spot.at (record { interface = s.interface; position = s.position; method = v })
      (like_back old new holds_old apart_old s.interface s.position e.before v q.spot.here q.spot.at t q.like) in
      by s t s.method.oneway refl alone oneway_s oneway_t forth back met.1
    where
      by : (s t : Spot) (b : Bool) → s.method.oneway ≡ b → not (same_bool s.method.oneway t.method.oneway) ≡ true → is_oneway (method_of old s.interface s.position) ≡ s.method.oneway → is_oneway (method_of new t.interface t.position) ≡ t.method.oneway
          → counterpart (method_of old s.interface s.position) new ≡ Some (method_of new t.interface t.position) → counterpart (method_of new t.interface t.position) old ≡ Some (method_of old s.interface s.position)
          → cond s.method.oneway (candidate.reply true t.interface t.position None) (candidate.reply false s.interface s.position None) ∷ [] ≡ cs → Shows old new cs
      by s t true one alone oneway_s oneway_t forth back is =
          let c = candidate.reply true t.interface t.position None in
          let there : Has cs c = subst (λ ds. Has ds c) (subst (λ b. cond b (candidate.reply true t.interface t.position None) (candidate.reply false s.interface s.position None) ∷ [] ≡ cs) one is) (0, refl) in (
            c,
            there,
            record { fits = nothing_fits new t.interface t.position old s.interface s.position back (oneway_s ∙ one); small = nothing_small new t.interface t.position old s.interface s.position back },
            nothing_differs new t.interface t.position old s.interface s.position back (oneway_s ∙ one),
          )
      by s t false one alone oneway_s oneway_t forth back is =
          let c = candidate.reply false s.interface s.position None in
          let there : Has cs c = subst (λ ds. Has ds c) (subst (λ b. cond b (candidate.reply true t.interface t.position None) (candidate.reply false s.interface s.position None) ∷ [] ≡ cs) one is) (0, refl) in
          let two : t.method.oneway ≡ true = one_alone s.method.oneway t.method.oneway alone one in (
            c,
            there,
            record { fits = nothing_fits old s.interface s.position new t.interface t.position forth (oneway_t ∙ two); small = nothing_small old s.interface s.position new t.interface t.position forth },
            nothing_differs old s.interface s.position new t.interface t.position forth (oneway_t ∙ two),
          )
