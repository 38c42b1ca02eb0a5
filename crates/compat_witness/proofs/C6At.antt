-- The types of the one argument of a method differ: z0 shows it.
use Rattle.std.proofs.Common.{◌≡◌, ℕ, Bool, true, false, not, ◌&&◌, ◌==◌, List, [], ◌∷◌, ◌++◌, length, Option, Some, None, slice_get, Err, ◌⊎◌, inl, inr, refl, sym, ap, ◌∙◌, subst, arith}
use Rattle.std.specs.Fmt.{decimal}
use Rattle.aidl_base.proofs.lemmas.Tests.{both}
use Rattle.aidl_base.specs.declared.profile.Profile.TheVariants.{Strict}
use Rattle.aidl_schema.proofs.lemmas.Places.{are_both}
use Rattle.aidl_schema.specs.declared.schema.Arg.{Arg}
use Rattle.aidl_schema.specs.declared.schema.Decl.{Decl}
use Rattle.aidl_schema.specs.declared.schema.Method.{Method}
use Rattle.aidl_schema.specs.Broken.{Place, member, argument, same_method, in_both, at_methods, at_arguments, C6, broken}
use Rattle.aidl_schema.specs.Holds.{AreApart, AllHold}
use Rattle.aidl_schema.specs.Methods.{is_in_way}
use Rattle.aidl_schema.specs.Names.{name_of, methods_of}
use Rattle.aidl_schema.specs.Same.{same}
use Rattle.aidl_schema.specs.Unbroken.{Has}
use Rattle.aidl_values.specs.Data.{none, item}
use Rattle.wire_model.specs.ReadOf.{read_of}
use Rattle.wire_model.specs.Spell.{spell}
use Rattle.wire_model.specs.Status.{bad_value}
use Rattle.wire_model.specs.View.{view_of}
use Rattle.compat_witness.specs.Candidates.{Candidate, AreSmall, Shows}
use Rattle.compat_witness.specs.Candidates as candidate
use Rattle.compat_witness.specs.Places.{Spot, at_slash}
use Rattle.compat_witness.specs.Reaching.{is_plain, plain_value}
use Rattle.compat_witness.specs.Rows.{is_plain_in, row_C6_at}
use Rattle.compat_witness.specs.Rows as table
use Rattle.compat_witness.proofs.C16.{given_is}
use Rattle.compat_witness.proofs.Entries.{entry, in_places}
use Rattle.compat_witness.proofs.Lists.{in_parts}
use Rattle.compat_witness.proofs.Low.{is_bad, low_bytes, low_spelled, low_fine, no_view, not_same}
use Rattle.compat_witness.proofs.Pairs.{pair_is, with_one_is, only_at}
use Rattle.compat_witness.proofs.Plain.{IsPlain, plain_is, plain_typed, flat_value}
use Rattle.compat_witness.proofs.Single.{seen_whole, args_fit, differs_by}
use Rattle.compat_witness.proofs.Slashes.{AtArgument, in_arguments, method_place, argument_place}
use Rattle.compat_witness.proofs.Spots.{IsLike}

flipped : (b : Bool) → not b ≡ true → b ≡ false
flipped true h = cc
flipped false h = refl

-- what is broken at the place of an argument
pub at_argument : (old new : List Decl) (holds : AllHold old) (p : Place) (q : List ℕ × List ℕ) → at_slash p ≡ Some q → (breaks : Method → Method → Bool) (differs : Arg → Arg → Bool) (d e : Decl) → Has old d
    → Has (at_methods breaks d e ++ at_arguments differs d e) p → AtArgument differs d e p
at_argument old new holds p q slash breaks differs d e here h = by (in_parts (at_methods breaks d e) (at_arguments differs d e) p h)
  where
    by : Has (at_methods breaks d e) p ⊎ Has (at_arguments differs d e) p → AtArgument differs d e p
    by (inr h) = in_arguments differs d e p h
    by (inl h) =
        let x = in_places (λ (z : Method × Method). member d z.0.name) (λ (z : Method × Method). breaks z.0 z.1) (in_both same_method (methods_of d.kind) (methods_of e.kind)) p h in
        let pair = are_both same_method (methods_of d.kind) (methods_of e.kind) x.0 x.1 in
        let wrong : ◌≡◌ {A = Option (List ℕ × List ℕ)} None (Some q) = sym (method_place old holds d here x.0.0 pair.0) ∙ ap at_slash (sym x.3) ∙ slash in cc

-- the method behind a place of an argument
pub cut_place : (S : List Decl) (holds : AllHold S) (d : Decl) (here : Has S d) (v : Method) (at : Has (methods_of d.kind) v) (k : ℕ) (p : Place) (q : List ℕ × List ℕ) → p ≡ argument d v.name k → at_slash p ≡ Some q → q.0 ≡ member d v.name
cut_place S holds d here v at k p q e slash =
    let same : ◌≡◌ {A = Option (List ℕ × List ℕ)} (Some q) (Some (member d v.name, decimal k)) = sym slash ∙ ap at_slash e ∙ argument_place S holds d here v at k in
    let pair : ◌≡◌ {A = List ℕ × List ℕ} q (member d v.name, decimal k) = cc in
    ap (λ (z : List ℕ × List ℕ). z.0) pair

module _ (old new : List Decl) (holds_old : AllHold old) (holds_new : AllHold new) (apart_old : AreApart name_of old) (apart_new : AreApart name_of new) (p : Place) (cs : List Candidate)
    (small : AreSmall old new cs) where
  -- One candidate of an entry of C6 at an argument that counts differs.
  pub c6_at : (q : List ℕ × List ℕ) → at_slash p ≡ Some q → Has (broken old new) (6, p) → row_C6_at old new q.0 ≡ Some cs → Shows old new cs
  c6_at q slash h row =
      let e = entry old new 6 p 3 C6 refl (λ q. absurd (omega (arith, q))) (λ q. absurd (omega (arith, q))) h in
      let x = at_argument old new holds_old p q slash (λ m w. not (length m.args == length w.args)) (λ a b. not (same old a.ty new b.ty)) e.before e.after e.here e.places in
      let asks : Spot → Spot → Arg → Arg → Option (List Candidate) = λ s w a b. table.candidates_if (is_plain_in a && is_plain_in b) (candidate.request false s.interface s.position (item (plain_value false a.ty.base) none) ∷ []) in
      let y = with_one_is old new (member e.before x.v.name) asks cs (subst (λ n. row_C6_at old new n ≡ Some cs) (cut_place old holds_old e.before e.here x.v x.pair.0 x.k p q x.place slash) row) in
      let pair = pair_is old new holds_old holds_new apart_old apart_new e.before e.after x.v x.w y.s y.t e.here e.there x.pair y.found y.like in
      let met = given_is (is_plain_in y.a && is_plain_in y.b) (candidate.request false y.s.interface y.s.position (item (plain_value false y.a.ty.base) none) ∷ []) cs y.given in
      let two = both (is_plain_in y.a) (is_plain_in y.b) met.0 in
      let of_a = both (is_in_way y.a.way) (is_plain y.a.ty) two.0 in
      let of_b = both (is_in_way y.b.way) (is_plain y.b.ty) two.1 in
      let only_a : x.v.args ≡ y.a ∷ [] = ap (λ (u : Method). u.args) (sym pair.spot.method) ∙ y.only_a in
      let only_w : x.w.args ≡ y.b ∷ [] = ap (λ (u : Method). u.args) (sym pair.other) ∙ y.only_b in
      let is_a = only_at x.v.args y.a x.a x.k only_a x.at_a in
      let is_b = only_at x.w.args y.b x.b x.k only_w x.at_b in
      let differ : same old y.a.ty new y.b.ty ≡ false = flipped (same old y.a.ty new y.b.ty) (subst (λ (z : Arg). not (same old z.ty new y.b.ty) ≡ true) is_a (subst (λ (z : Arg). not (same old x.a.ty new z.ty) ≡ true) is_b x.broken)) in
      shown y.s.interface y.s.position e.before x.v pair.spot.here pair.spot.at y.t pair.like (ap (λ (u : Method). u.id) (sym pair.spot.method) ∙ y.id) y.a y.b only_a y.only_b of_a.0 of_b.0
      (plain_is y.a.ty of_a.1) (plain_is y.b.ty of_b.1) differ met.1
    where
      shown : (i m : ℕ) (d : Decl) (v : Method) (here : slice_get old i ≡ Some d) (at : slice_get (methods_of d.kind) m ≡ Some v) (t : Spot) (like : IsLike old i v new t) (id : v.id ≡ t.method.id) (a b : Arg)
          (only_a : v.args ≡ a ∷ []) (only_b : t.method.args ≡ b ∷ []) (in_a : is_in_way a.way ≡ true) (in_b : is_in_way b.way ≡ true) (plain_a : IsPlain a.ty) (plain_b : IsPlain b.ty) (differ : same old a.ty new b.ty ≡ false)
          → candidate.request false i m (item (plain_value false a.ty.base) none) ∷ [] ≡ cs → Shows old new cs
      shown i m d v here at t like id a b only_a only_b in_a in_b plain_a plain_b differ is =
          let value = plain_value false a.ty.base in
          let c = candidate.request false i m (item value none) in
          let there : Has cs c = subst (λ ds. Has ds c) is (0, refl) in
          let typed = plain_typed old a.ty false a.ty.base refl plain_a.one plain_a.built_in in
          let fits = args_fit old new holds_new i m d v here at t like id a b only_a only_b in_a in_b value (record { typed = typed; deep = omega (arith, flat_value old a.ty value plain_a typed) }) in
          let few = small c there fits in
          let view : view_of old a.ty new b.ty value ≡ None = no_view old a.ty new b.ty value (not_same old a.ty new b.ty differ) in
          let spelled : spell old a.ty value ≡ low_bytes a.ty.base = low_spelled old a.ty a.ty.base refl plain_a.built_in in (
            c,
            there,
            record { fits = fits; small = few },
            differs_by old new holds_new i m d v here at t like id a b only_a only_b in_a in_b value few (λ e.
                let stops : read_of Strict new 64 b.ty false (low_bytes a.ty.base) ≡ Err bad_value = ap (read_of Strict new 64 b.ty false) (sym spelled) ∙ e ∙ ap seen_whole view in
                let clash : false ≡ true = sym (low_fine new 63 b.ty plain_b.one a.ty.base plain_b.built_in) ∙ ap is_bad stops in absurd cc),
          )
