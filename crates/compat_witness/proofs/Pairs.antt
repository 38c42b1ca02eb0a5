-- The two methods of a place, in old and in new; and a method that is like another is so the other way round.
use Rattle.std.proofs.Common.{◌≡◌, ℕ, zero, suc, Bool, true, false, ◌==◌, cond, List, [], ◌∷◌, Option, Some, None, slice_get, find, refl, sym, ap, ◌∙◌, subst}
use Rattle.std.specs.Prelude.{option_and_then, option_map}
use Rattle.aidl_schema.proofs.lemmas.Sames.{same_text_is, same_text_refl, same_text_sym}
use Rattle.aidl_schema.specs.declared.schema.Arg.{Arg}
use Rattle.aidl_schema.specs.declared.schema.Decl.{Decl}
use Rattle.aidl_schema.specs.declared.schema.Method.{Method}
use Rattle.aidl_schema.specs.Broken.{member, same_name, same_method}
use Rattle.aidl_schema.specs.Find.{methods_of_decl, methods_at}
use Rattle.aidl_schema.specs.Holds.{AreApart, AllHold}
use Rattle.aidl_schema.specs.Names.{name_of, methods_of}
use Rattle.aidl_schema.specs.Same.{same_text}
use Rattle.aidl_schema.specs.Unbroken.{Has, AreBoth}
use Rattle.wire_model.specs.Calls.{descriptor, name_of_decl, method_at}
use Rattle.wire_model.specs.MethodOf.{method_of}
use Rattle.wire_model.specs.Outcome.{declared_as, method_like}
use Rattle.wire_model.proofs.lemmas.Lookups.{found_is, same_place, position_is, position_passes}
use Rattle.compat_witness.specs.Candidates.{Candidate, counterpart}
use Rattle.compat_witness.specs.Places.{Spot, spot_of, spot_like}
use Rattle.compat_witness.specs.Reaching.{only}
use Rattle.compat_witness.specs.Rows.{both_only, in_both, of_only, with_one}
use Rattle.compat_witness.proofs.C16.{found_decl}
use Rattle.compat_witness.proofs.Reached.{eq_is, only_is}
use Rattle.compat_witness.proofs.Spots.{and_then_is, map_is, IsSpotOf, spot_is, IsLike, like_is}

-- the method m of the interface i of A, like the spot s of B
module _ (A B : List Decl) (holdsA : AllHold A) (apartA : AreApart name_of A) (i m : ℕ) (d : Decl) (v : Method) (here : slice_get A i ≡ Some d) (at : slice_get (methods_of d.kind) m ≡ Some v)
    (s : Spot) (like : IsLike A i v B s) where
  pub mine : method_at (method_of A i m) ≡ Some v
  mine = ap (λ o. slice_get (methods_of_decl o) m) here ∙ at

  pub his : method_at (method_of B s.interface s.position) ≡ Some s.method
  his = ap (λ o. slice_get (methods_of_decl o) s.position) like.spot.here ∙ like.spot.at

  pub named : counterpart (method_of A i m) B ≡ Some (method_of B s.interface s.position)
  named =
      let found : method_like (method_at (method_of A i m)) (methods_at B s.interface) ≡ Some s.position = ap (λ o. method_like o (methods_at B s.interface)) mine ∙ like.like in
      rw (like.interface, found) refl

  pub back_interface : declared_as A (descriptor B s.interface) ≡ Some i
  back_interface =
      let e = like.spot.decl in
      let x = position_passes (λ (z : Decl). same_text (descriptor A i) (name_of z)) B s.interface like.interface in
      let two : ◌≡◌ {A = Option Decl} (Some x.0) (Some e) = sym x.1 ∙ like.spot.here in
      let same_e : x.0 ≡ e = cc in
      let called : name_of d ≡ name_of e = ap name_of_decl (sym here) ∙ same_text_is (descriptor A i) (name_of x.0) x.2 ∙ ap name_of same_e in
      let itself : same_text (name_of e) (name_of d) ≡ true = subst (λ n. same_text (name_of e) n ≡ true) (sym called) (same_text_refl (name_of e)) in
      let only_one : (n : ℕ) (z : Decl) → slice_get A n ≡ Some z → same_text (name_of e) (name_of z) ≡ true → n ≡ i =
      λ n z at q. apartA n i z d at here (sym (same_text_is (name_of e) (name_of z) q) ∙ sym called) in
      ap (λ o. declared_as A (name_of_decl o)) like.spot.here ∙ position_is (λ (z : Decl). same_text (name_of e) (name_of z)) A i d here itself only_one

  pub back_method : method_like (Some s.method) (methods_at A i) ≡ Some m
  back_method =
      let x = position_passes (λ (z : Method). same_method v z) (methods_at B s.interface) s.position like.like in
      let two : ◌≡◌ {A = Option Method} (Some x.0) (Some s.method) = sym x.1 ∙ his in
      let same_w : x.0 ≡ s.method = cc in
      let forth : same_method v s.method ≡ true = subst (λ z. same_method v z ≡ true) same_w x.2 in
      let back : same_method s.method v ≡ true = same_text_sym s.method.name.0 v.name.0 ∙ forth in
      let only_one : (n : ℕ) (z : Method) → slice_get (methods_of d.kind) n ≡ Some z → same_method s.method z ≡ true → n ≡ m =
      λ n z at' q. (holdsA i d here).methods n m z v at' at (sym (same_text_is s.method.name.0 z.name.0 q) ∙ same_text_is s.method.name.0 v.name.0 back) in
      ap (λ ws. method_like (Some s.method) ws) (ap methods_of_decl here)
      ∙ position_is (λ (z : Method). same_method s.method z) (methods_of d.kind) m v at back only_one

  -- It is like the method of A again.
  pub like_back : IsLike B s.interface s.method A (record { interface = i; position = m; method = v })
  like_back = record { interface = back_interface; like = back_method; spot = record { decl = d; here = here; at = at } }

-- v of d of old and w of e of new are the methods of a place
pub record IsPair (old new : List Decl) (d e : Decl) (v w : Method) (s t : Spot) : Type 0 where
  pub spot : IsSpotOf old d v s
  pub like : IsLike old s.interface v new t
  pub other : t.method ≡ w

module _ (old new : List Decl) (holds_old : AllHold old) (holds_new : AllHold new) (apart_old : AreApart name_of old) (apart_new : AreApart name_of new) where
  -- the declaration that the interface of a method of old has in new
  pub other_decl : (i j : ℕ) (d e : Decl) → slice_get old i ≡ Some d → find (λ z. same_name d z) new ≡ Some e → declared_as new (descriptor old i) ≡ Some j → slice_get new j ≡ Some e
  other_decl i j d e here there found =
      let x = found_is (λ z. same_name d z) new e there in
      let name : descriptor old i ≡ name_of e = ap name_of_decl here ∙ same_text_is (name_of d) (name_of e) x.1 in
      found_decl new apart_new (descriptor old i) j e x.0 name found

  pub pair_is : (d e : Decl) (v w : Method) (s t : Spot) → Has old d → find (λ z. same_name d z) new ≡ Some e → AreBoth same_method (methods_of d.kind) (methods_of e.kind) v w
      → spot_of old (member d v.name) ≡ Some s → spot_like old s.interface s.method new ≡ Some t → IsPair old new d e v w s t
  pair_is d e v w s t has there pair found found' =
      let spot = spot_is old holds_old apart_old d v s has pair.0 found in
      let like : IsLike old s.interface v new t = subst (λ u. IsLike old s.interface u new t) spot.method (like_is old s.interface s.method new t found') in
      let after_at = other_decl s.interface t.interface d e spot.here there like.interface in
      let same_decl : ◌≡◌ {A = Option Decl} (Some like.spot.decl) (Some e) = sym like.spot.here ∙ after_at in
      let decl_is : like.spot.decl ≡ e = cc in
      let at_t : slice_get (methods_of e.kind) t.position ≡ Some t.method = subst (λ (u : Decl). slice_get (methods_of u.kind) t.position ≡ Some t.method) decl_is like.spot.at in
      let named = position_passes (λ u. same_method v u) (methods_at new t.interface) t.position like.like in
      let at_t' : slice_get (methods_at new t.interface) t.position ≡ Some t.method = ap (λ o. slice_get (methods_of_decl o) t.position) after_at ∙ at_t in
      let same_t : ◌≡◌ {A = Option Method} (Some named.0) (Some t.method) = sym named.1 ∙ at_t' in
      let named_is : named.0 ≡ t.method = cc in
      let t_name : v.name.0 ≡ t.method.name.0 = same_text_is v.name.0 named.0.name.0 named.2 ∙ ap (λ (u : Method). u.name.0) named_is in
      let y = found_is (λ u. same_method v u) (methods_of e.kind) w pair.1 in
      let one : t.method ≡ w = same_place (λ (u : Method). u.name.0) (methods_of e.kind) (holds_new t.interface e after_at).methods t.method w (t.position, at_t) y.0
      (sym t_name ∙ same_text_is v.name.0 w.name.0 y.1) in
      record { spot = spot; like = like; other = one }

-- what a row of both methods says
pub record IsInBoth (old new : List Decl) (p : List ℕ) (F : Spot → Spot → Option (List Candidate)) (cs : List Candidate) : Type 0 where
  pub s : Spot
  pub t : Spot
  pub found : spot_of old p ≡ Some s
  pub like : spot_like old s.interface s.method new ≡ Some t
  pub given : F s t ≡ Some cs

pub in_both_is : (old new : List Decl) (p : List ℕ) (F : Spot → Spot → Option (List Candidate)) (cs : List Candidate) → in_both old new p F ≡ Some cs → IsInBoth old new p F cs
in_both_is old new p F cs e =
    let x = and_then_is (λ (s : Spot). option_and_then (F s) (spot_like old s.interface s.method new)) (spot_of old p) cs e in
    let y = and_then_is (F x.0) (spot_like old x.0.interface x.0.method new) cs x.2 in
    record { s = x.0; t = y.0; found = x.1; like = y.1; given = y.2 }

-- what a row of methods with one argument says
pub record IsWithOne (old new : List Decl) (p : List ℕ) (F : Spot → Spot → Arg → Arg → Option (List Candidate)) (cs : List Candidate) : Type 0 where
  pub s : Spot
  pub t : Spot
  pub a : Arg
  pub b : Arg
  pub found : spot_of old p ≡ Some s
  pub like : spot_like old s.interface s.method new ≡ Some t
  pub id : s.method.id ≡ t.method.id
  pub only_a : s.method.args ≡ a ∷ []
  pub only_b : t.method.args ≡ b ∷ []
  pub given : F s t a b ≡ Some cs

when_true : {X : Type 0} (b : Bool) (o : Option X) (x : X) → cond b o None ≡ Some x → (b ≡ true) × (o ≡ Some x)
when_true true o x e = (refl, e)
when_true false o x e = cc

pub with_one_is : (old new : List Decl) (p : List ℕ) (F : Spot → Spot → Arg → Arg → Option (List Candidate)) (cs : List Candidate) → with_one old new p F ≡ Some cs → IsWithOne old new p F cs
with_one_is old new p F cs e =
    let x = in_both_is old new p (of_only F) cs e in
    let q = and_then_is (λ (q : Arg × Arg). F x.s x.t q.0 q.1) (both_only x.s x.t) cs x.given in
    let y = when_true (x.s.method.id == x.t.method.id) (option_and_then (λ a. option_map {U = Arg × Arg} (λ b. (a, b)) (only x.t.method.args)) (only x.s.method.args)) q.0 q.1 in
    let a = and_then_is (λ a. option_map {U = Arg × Arg} (λ b. (a, b)) (only x.t.method.args)) (only x.s.method.args) q.0 y.1 in
    let b = map_is (λ b. let r : Arg × Arg = (a.0, b) in r) (only x.t.method.args) q.0 a.2 in
    record {
      s = x.s;
      t = x.t;
      a = a.0;
      b = b.0;
      found = x.found;
      like = x.like;
      id = eq_is x.s.method.id x.t.method.id y.0;
      only_a = only_is x.s.method.args a.0 a.1;
      only_b = only_is x.t.method.args b.0 b.1;
      given = subst (λ (r : Arg × Arg). F x.s x.t r.0 r.1 ≡ Some cs) (sym b.2) q.2;
    }

-- the one argument stands at each position
pub only_at : (xs : List Arg) (a x : Arg) (k : ℕ) → xs ≡ a ∷ [] → slice_get xs k ≡ Some x → x ≡ a
only_at xs a x k e at = by k (subst (λ ys. slice_get ys k ≡ Some x) e at)
  where
    by : (k : ℕ) → slice_get (a ∷ []) k ≡ Some x → x ≡ a
    by zero h = let is : a ≡ x = cc in sym is
    by (suc k) h = cc
