-- The counts of arguments differ: z0 everywhere, or nothing, shows it.
use Rattle.std.proofs.Common.{◌≡◌, ◌≢◌, ℕ, ◌+◌, ◌≤◌, ℤ, Bool, true, false, not, ◌&&◌, ◌||◌, ◌==◌, List, [], ◌∷◌, ◌++◌, length, Option, Some, None, slice_get, Ok, Err, ◌⊎◌, inl, inr, refl, sym, ap, ◌∙◌, subst, arith}
use Rattle.std.specs.Fmt.{decimal}
use Rattle.std.specs.List.{list_all}
use Rattle.aidl_base.proofs.lemmas.Tests.{both}
use Rattle.aidl_base.specs.declared.profile.Profile.TheVariants.{Strict}
use Rattle.aidl_schema.proofs.lemmas.Places.{are_both}
use Rattle.aidl_schema.proofs.lemmas.Sames.{eq_refl}
use Rattle.aidl_schema.specs.declared.schema.Arg.{Arg}
use Rattle.aidl_schema.specs.declared.schema.Decl.{Decl}
use Rattle.aidl_schema.specs.declared.schema.Method.{Method}
use Rattle.aidl_schema.specs.Broken.{Place, member, same_method, in_both, at_methods, at_arguments, C6, broken}
use Rattle.aidl_schema.specs.Find.{methods_at, position_of_code}
use Rattle.aidl_schema.specs.Holds.{AreApart, AllHold}
use Rattle.aidl_schema.specs.Methods.{is_in_way}
use Rattle.aidl_schema.specs.Names.{name_of, methods_of}
use Rattle.aidl_schema.specs.Same.{same}
use Rattle.aidl_schema.specs.Types.{is_one}
use Rattle.aidl_schema.specs.Unbroken.{Has}
use Rattle.aidl_values.specs.Data.{Data, Items, none, item}
use Rattle.wire_model.specs.Calls.{arguments_of, arguments, code_at}
use Rattle.wire_model.specs.MethodOf.{method_of}
use Rattle.wire_model.specs.ReadOf.{Read, ◌>>=◌, read_of}
use Rattle.wire_model.specs.Receiver.{Received, received, or_status, zero_in, argument_at, arguments_at, opened_length}
use Rattle.wire_model.specs.Receiver as receiver
use Rattle.wire_model.specs.Requests.{ArgsFit, ArgumentsFit, argument_parts, request, sum_of_lengths}
use Rattle.wire_model.specs.Spell.{spell}
use Rattle.wire_model.specs.Status.{bad_value, not_enough, unknown_transaction}
use Rattle.wire_model.specs.View.{item_first}
use Rattle.compat_witness.specs.Candidates.{Candidate, AreSmall, Shows}
use Rattle.compat_witness.specs.Candidates as candidate
use Rattle.compat_witness.specs.Places.{Spot, at_slash}
use Rattle.compat_witness.specs.Reaching.{is_plain, plain_value}
use Rattle.compat_witness.specs.Rows.{is_empty, is_plain_in, low_arguments, row_C6}
use Rattle.compat_witness.specs.Rows as table
use Rattle.compat_witness.specs.Sides.{Side, transport, called, side_of, projected_arguments, read_request, projected_request}
use Rattle.compat_witness.proofs.C16.{given_is}
use Rattle.compat_witness.proofs.C3C4.{IsShort, value_short, empty_is, parts_called}
use Rattle.compat_witness.proofs.Entries.{entry, in_places}
use Rattle.compat_witness.proofs.Lists.{in_parts}
use Rattle.compat_witness.proofs.Low.{four, eight, low_bytes, low_spelled, four_or_eight}
use Rattle.compat_witness.proofs.Pairs.{mine, his, pair_is, in_both_is}
use Rattle.compat_witness.proofs.Plain.{IsPlain, plain_is, plain_typed, flat_value}
use Rattle.compat_witness.proofs.Single.{of_parts, read_found, read_nobody, projected_by, in_is_no_out}
use Rattle.compat_witness.proofs.Slashes.{in_arguments, argument_place}
use Rattle.compat_witness.proofs.Spots.{IsLike}

-- what an `in` argument of a plain type is
pub record IsPlainIn (a : Arg) : Type 0 where
  pub way : is_in_way a.way ≡ true
  pub plain : IsPlain a.ty

pub plain_in : (a : Arg) → is_plain_in a ≡ true → IsPlainIn a
plain_in a h = let two = both (is_in_way a.way) (is_plain a.ty) h in record { way = two.0; plain = plain_is a.ty two.1 }

-- z0 for each of them fits
low_fit : (A : List Decl) (xs : List Arg) → list_all is_plain_in xs ≡ true → ArgumentsFit A xs (low_arguments xs)
low_fit A [] h = tt
low_fit A (a ∷ xs) h =
    let two = both (is_plain_in a) (list_all is_plain_in xs) h in
    let p = plain_in a two.0 in
    let typed = plain_typed A a.ty false a.ty.base refl p.plain.one p.plain.built_in in
    (rw (in_is_no_out a.way p.way) (record { typed = typed; deep = omega (arith, flat_value A a.ty (plain_value false a.ty.base) p.plain typed) }), low_fit A xs two.1)

low_sum : (xs : List Arg) → list_all is_plain_in xs ≡ true → sum_of_lengths xs (low_arguments xs) ≡ 0
low_sum [] h = refl
low_sum (a ∷ xs) h =
    let two = both (is_plain_in a) (list_all is_plain_in xs) h in
    let out = in_is_no_out a.way (plain_in a two.0).way in
    rw (out, low_sum xs two.1) refl

-- and there are bytes
some_bytes : (A : List Decl) (a : Arg) (xs : List Arg) → is_plain_in a ≡ true → argument_parts A (a ∷ xs) (low_arguments (a ∷ xs)) ≢ []
some_bytes A a xs h e =
    let p = plain_in a h in
    let rest = argument_parts A xs (low_arguments xs) in
    let out = in_is_no_out a.way p.way in
    let spelled : spell A a.ty (plain_value false a.ty.base) ++ rest ≡ [] = rw out at e in
    let low : low_bytes a.ty.base ++ rest ≡ [] = ap (λ b. b ++ rest) (sym (low_spelled A a.ty a.ty.base refl p.plain.built_in)) ∙ spelled in
    by rest (four_or_eight a.ty.base) low
  where
    by : (rest : List ℕ) → (low_bytes a.ty.base ≡ four) ⊎ (low_bytes a.ty.base ≡ eight) → low_bytes a.ty.base ++ rest ≡ [] → ⊥
    by rest (inl z) e = let wrong : four ++ rest ≡ [] = ap (λ b. b ++ rest) (sym z) ∙ e in absurd cc
    by rest (inr z) e = let wrong : eight ++ rest ≡ [] = ap (λ b. b ++ rest) (sym z) ∙ e in absurd cc

-- the defaults of all arguments
all_zero : (A B : List Decl) (ys : List Arg) → (zs : Items) × (projected_arguments A [] B ys none ≡ Some zs)
all_zero A B [] = (none, refl)
all_zero A B (b ∷ ys) = let r = all_zero A B ys in (item (zero_in B b.ty) r.0, ap (λ o. item_first (Some (zero_in B b.ty)) o) r.1)

-- An `in` argument is read of no bytes: nothing is called.
not_called : (B : List Decl) (b : Arg) (ys : List Arg) (n k : ℕ) (saw : Items) → is_in_way b.way ≡ true → side_of (arguments_at Strict B 0 (b ∷ ys) [] >>= λ x. Ok (received n x.0 x.1)) ≡ called k saw → ⊥
not_called B b ys n k saw way e = by (value_short B b.ty (is_one b.ty.shape) refl)
  where
    then_others : Read Data → Side
    then_others x = side_of ((x >>= λ v. arguments_at Strict B (0 + opened_length b v.0) ys v.1 >>= λ vs. let y : Read Items = Ok (item v.0 vs.0, vs.1) in y) >>= λ x. Ok (received n x.0 x.1))

    value : argument_at Strict B 0 b [] ≡ read_of Strict B 64 b.ty false []
    value = rw (in_is_no_out b.way way) refl

    stops : (s : ℤ) → read_of Strict B 64 b.ty false [] ≡ Err s → ⊥
    stops s h = let wrong : transport s ≡ called k saw = ap then_others (sym (value ∙ h)) ∙ e in absurd cc

    by : IsShort (read_of Strict B 64 b.ty false []) → ⊥
    by (inl h) = stops not_enough h
    by (inr h) = stops bad_value h

-- What is left over isn't called either.
left_over : (n k : ℕ) (parts : List ℕ) (saw : Items) → parts ≢ [] → side_of (Ok (received n none parts)) ≡ called k saw → ⊥
left_over n k [] saw some e = absurd (some refl)
left_over n k (c ∷ parts) saw some e = absurd cc

module _ (A B : List Decl) (holdsA : AllHold A) (holds : AllHold B) (apartA : AreApart name_of A) (i m : ℕ) (d : Decl) (v : Method) (here : slice_get A i ≡ Some d) (at : slice_get (methods_of d.kind) m ≡ Some v) (t : Spot) (like : IsLike A i v B t) (args : Items)
    (few : length (request (method_of A i m) args) ≤ 1048576) where
  -- The method of the name isn't called with the projected arguments.
  by_code : (saw : Items) → (side_of (of_parts B t.interface t.position (argument_parts A (arguments (method_of A i m)) args)) ≡ called t.position saw → ⊥)
      → (o : Option ℕ) → position_of_code (methods_at B t.interface) (code_at (method_of A i m)) ≡ o → read_request (method_of A i m) B (request (method_of A i m) args) ≡ called t.position saw → ⊥
  by_code saw never None code e =
      let wrong : transport unknown_transaction ≡ called t.position saw = sym (read_nobody A B holds i m d v here at t.interface like.interface args few code) ∙ e in absurd cc
  by_code saw never (Some n) code e =
      let parts = argument_parts A (arguments (method_of A i m)) args in
      let read : side_of (of_parts B t.interface n parts) ≡ called t.position saw = sym (read_found A B holds i m d v here at t.interface like.interface args few n code) ∙ e in
      let one : n ≡ t.position = parts_called B t.interface n t.position parts saw read in
      never (subst (λ k. side_of (of_parts B t.interface k parts) ≡ called t.position saw) one read)

  abbrev after : Option Items → Side
  after o = side_of (or_status bad_value o >>= λ saw. Ok (receiver.called t.position saw))

  pub count_differs : (xs ys : List Arg) → arguments (method_of A i m) ≡ xs → arguments (method_of B t.interface t.position) ≡ ys → (saw : Items) → projected_arguments A xs B ys args ≡ Some saw
      → (side_of (of_parts B t.interface t.position (argument_parts A xs args)) ≡ called t.position saw → ⊥)
      → read_request (method_of A i m) B (request (method_of A i m) args) ≡ projected_request (method_of A i m) B args → ⊥
  count_differs xs ys is_xs is_ys saw seen never e =
      let projected : projected_request (method_of A i m) B args ≡ called t.position saw =
      projected_by A B holds i m d v here at t.interface like.interface args (Some t.position) like.like
      ∙ ap (λ zs. after (projected_arguments A zs B (arguments (method_of B t.interface t.position)) args)) is_xs ∙ ap (λ zs. after (projected_arguments A xs B zs args)) is_ys ∙ ap after seen in
      by_code saw (λ q. never (ap (λ zs. side_of (of_parts B t.interface t.position (argument_parts A zs args))) (sym is_xs) ∙ q))
      (position_of_code (methods_at B t.interface) (code_at (method_of A i m))) refl (e ∙ projected)

counts_differ : (m n : ℕ) → not (m == n) ≡ true → m ≡ n → ⊥
counts_differ m n h e = let wrong : not (n == n) ≡ true = subst (λ k. not (k == n) ≡ true) e h in let clash : not true ≡ true = subst (λ b. not b ≡ true) (eq_refl n) wrong in absurd cc

either : (a b : Bool) → (a || b) ≡ true → (a ≡ true) ⊎ (b ≡ true)
either true b h = inl refl
either false b h = inr h

module _ (old new : List Decl) (holds_old : AllHold old) (holds_new : AllHold new) (apart_old : AreApart name_of old) (apart_new : AreApart name_of new) (p : Place) (cs : List Candidate)
    (small : AreSmall old new cs) where
  -- what is broken at the place of a method
  at_method : at_slash p ≡ None → (d e : Decl) → Has old d → (breaks : Method → Method → Bool) (differs : Arg → Arg → Bool) → Has (at_methods breaks d e ++ at_arguments differs d e) p → Has (at_methods breaks d e) p
  at_method slash d e here breaks differs h = by (in_parts (at_methods breaks d e) (at_arguments differs d e) p h)
    where
      by : Has (at_methods breaks d e) p ⊎ Has (at_arguments differs d e) p → Has (at_methods breaks d e) p
      by (inl h) = h
      by (inr h) =
          let x = in_arguments differs d e p h in
          let wrong : ◌≡◌ {A = Option (List ℕ × List ℕ)} None (Some (member d x.v.name, decimal x.k)) = sym slash ∙ ap at_slash x.place ∙ argument_place old holds_old d here x.v x.pair.0 x.k in cc

  -- One candidate of an entry of C6 at a method that counts differs.
  pub c6 : at_slash p ≡ None → Has (broken old new) (6, p) → row_C6 old new p ≡ Some cs → Shows old new cs
  c6 slash h row =
      let e = entry old new 6 p 3 C6 refl (λ q. absurd (omega (arith, q))) (λ q. absurd (omega (arith, q))) h in
      let h' = at_method slash e.before e.after e.here (λ m w. not (length m.args == length w.args)) (λ a b. not (same old a.ty new b.ty)) e.places in
      let x = in_places (λ (q : Method × Method). member e.before q.0.name) (λ (q : Method × Method). not (length q.0.args == length q.1.args)) (in_both same_method (methods_of e.before.kind) (methods_of e.after.kind)) p h' in
      let v = x.0.0 in
      let w = x.0.1 in
      let pair = are_both same_method (methods_of e.before.kind) (methods_of e.after.kind) x.0 x.1 in
      let test : Spot → Spot → Bool = λ s w. (is_empty s.method.args && list_all is_plain_in w.method.args) || (is_empty w.method.args && list_all is_plain_in s.method.args) in
      let asks : Spot → Spot → Option (List Candidate) = λ s w. table.candidates_if (test s w) (candidate.request false s.interface s.position (low_arguments s.method.args) ∷ []) in
      let y = in_both_is old new (member e.before v.name) asks cs (subst (λ q. row_C6 old new q ≡ Some cs) x.3 row) in
      let s = y.s in
      let t = y.t in
      let q = pair_is old new holds_old holds_new apart_old apart_new e.before e.after v w s t e.here e.there pair y.found y.like in
      let met = given_is (test s t) (candidate.request false s.interface s.position (low_arguments s.method.args) ∷ []) cs y.given in
      let is = subst (λ (u : Method). candidate.request false s.interface s.position (low_arguments u.args) ∷ [] ≡ cs) q.spot.method met.1 in
      let tested = subst (λ (u : Method). ((is_empty u.args && list_all is_plain_in t.method.args) || (is_empty t.method.args && list_all is_plain_in u.args)) ≡ true) q.spot.method met.0 in
      let differ : not (length v.args == length t.method.args) ≡ true = subst (λ (u : Method). not (length v.args == length u.args) ≡ true) (sym q.other) x.2 in
      by s.interface s.position e.before v q.spot.here q.spot.at t q.like (either (is_empty v.args && list_all is_plain_in t.method.args) (is_empty t.method.args && list_all is_plain_in v.args) tested) differ is
    where
      by : (i m : ℕ) (d : Decl) (v : Method) → slice_get old i ≡ Some d → slice_get (methods_of d.kind) m ≡ Some v → (t : Spot) → IsLike old i v new t
          → ((is_empty v.args && list_all is_plain_in t.method.args) ≡ true) ⊎ ((is_empty t.method.args && list_all is_plain_in v.args) ≡ true) → not (length v.args == length t.method.args) ≡ true
          → candidate.request false i m (low_arguments v.args) ∷ [] ≡ cs → Shows old new cs
      by i m d v here at t like test differ is = from test (fits test)
        where
          mine_is : arguments (method_of old i m) ≡ v.args
          mine_is = ap arguments_of (mine old new holds_old apart_old i m d v here at t like)

          his_is : arguments (method_of new t.interface t.position) ≡ t.method.args
          his_is = ap arguments_of (his old new holds_old apart_old i m d v here at t like)

          all_plain : ((is_empty v.args && list_all is_plain_in t.method.args) ≡ true) ⊎ ((is_empty t.method.args && list_all is_plain_in v.args) ≡ true) → list_all is_plain_in v.args ≡ true
          all_plain (inl h) = ap (list_all is_plain_in) (empty_is v.args (both (is_empty v.args) (list_all is_plain_in t.method.args) h).0)
          all_plain (inr h) = (both (is_empty t.method.args) (list_all is_plain_in v.args) h).1

          fits : ((is_empty v.args && list_all is_plain_in t.method.args) ≡ true) ⊎ ((is_empty t.method.args && list_all is_plain_in v.args) ≡ true) → ArgsFit (method_of old i m) (low_arguments v.args)
          fits h = record {
            each = subst (λ xs. ArgumentsFit old xs (low_arguments v.args)) (sym mine_is) (low_fit old v.args (all_plain h));
            few = subst (λ xs. sum_of_lengths xs (low_arguments v.args) ≤ 65536) (sym mine_is) (omega (arith, low_sum v.args (all_plain h)));
          }

          c : Candidate
          c = candidate.request false i m (low_arguments v.args)

          there : Has cs c
          there = subst (λ ds. Has ds (candidate.request false i m (low_arguments v.args))) is (0, refl)

          shows : (f : ArgsFit (method_of old i m) (low_arguments v.args)) → (read_request (method_of old i m) new (request (method_of old i m) (low_arguments v.args)) ≡ projected_request (method_of old i m) new (low_arguments v.args) → ⊥) → Shows old new cs
          shows f differs = (candidate.request false i m (low_arguments v.args), there, record { fits = f; small = small (candidate.request false i m (low_arguments v.args)) there f }, differs)

          from : ((is_empty v.args && list_all is_plain_in t.method.args) ≡ true) ⊎ ((is_empty t.method.args && list_all is_plain_in v.args) ≡ true) → ArgsFit (method_of old i m) (low_arguments v.args) → Shows old new cs
          from (inl h) f =
              let two = both (is_empty v.args) (list_all is_plain_in t.method.args) h in
              let bare = empty_is v.args two.0 in
              let few = small (candidate.request false i m (low_arguments v.args)) there f in
              let seen = all_zero old new t.method.args in
              let seen' : projected_arguments old [] new t.method.args (low_arguments v.args) ≡ Some seen.0 = subst (λ xs. projected_arguments old [] new t.method.args (low_arguments xs) ≡ Some seen.0) (sym bare) seen.1 in
              shows f (count_differs old new holds_old holds_new apart_old i m d v here at t like (low_arguments v.args) few [] t.method.args (mine_is ∙ bare) his_is seen.0 seen' (λ q.
              short t.method.args refl two.1 seen.0 (ap (λ ys. side_of (arguments_at Strict new 0 ys [] >>= λ x. Ok (received t.position x.0 x.1))) (sym his_is) ∙ q)))
            where
              short : (ys : List Arg) → t.method.args ≡ ys → list_all is_plain_in t.method.args ≡ true → (saw : Items) → side_of (arguments_at Strict new 0 t.method.args [] >>= λ x. Ok (received t.position x.0 x.1)) ≡ called t.position saw → ⊥
              short [] e plain saw q =
                  let lengths : length v.args ≡ length t.method.args = ap length (empty_is v.args (both (is_empty v.args) (list_all is_plain_in t.method.args) h).0) ∙ ap length (sym e) in
                  counts_differ (length v.args) (length t.method.args) differ lengths
              short (b ∷ ys) e plain saw q =
                  let of_b = both (is_plain_in b) (list_all is_plain_in ys) (subst (λ zs. list_all is_plain_in zs ≡ true) e plain) in
                  not_called new b ys t.position t.position saw (plain_in b of_b.0).way (ap (λ zs. side_of (arguments_at Strict new 0 zs [] >>= λ x. Ok (received t.position x.0 x.1))) (sym e) ∙ q)
          from (inr h) f =
              let two = both (is_empty t.method.args) (list_all is_plain_in v.args) h in
              let bare = empty_is t.method.args two.0 in
              let few = small (candidate.request false i m (low_arguments v.args)) there f in
              shows f (count_differs old new holds_old holds_new apart_old i m d v here at t like (low_arguments v.args) few v.args [] mine_is (his_is ∙ bare) none refl (λ q.
              left_over t.position t.position (argument_parts old v.args (low_arguments v.args)) none (some v.args refl)
              (ap (λ ys. side_of (arguments_at Strict new 0 ys (argument_parts old v.args (low_arguments v.args)) >>= λ x. Ok (received t.position x.0 x.1))) (sym (his_is ∙ bare)) ∙ q)))
            where
              some : (xs : List Arg) → v.args ≡ xs → argument_parts old v.args (low_arguments v.args) ≢ []
              some [] e q =
                  let lengths : length v.args ≡ length t.method.args = ap length e ∙ ap length (sym (empty_is t.method.args (both (is_empty t.method.args) (list_all is_plain_in v.args) h).0)) in
                  counts_differ (length v.args) (length t.method.args) differ lengths
              some (a ∷ xs) e q =
                  let all = (both (is_empty t.method.args) (list_all is_plain_in v.args) h).1 in
                  let of_a = both (is_plain_in a) (list_all is_plain_in xs) (subst (λ zs. list_all is_plain_in zs ≡ true) e all) in
                  some_bytes old a xs of_a.0 (ap (λ zs. argument_parts old zs (low_arguments zs)) (sym e) ∙ q)
