-- Where no evolution rule is broken from one of two schemas to the other, methods of one name take the same calls.
use Rattle.std.proofs.Common.{◌≡◌, ℕ, suc, Bool, true, false, ◌==◌, List, [], ◌∷◌, length, Option, Some, None, find, refl, sym, ◌∙◌, subst, arith, true≢false}
use Rattle.std.proofs.lemmas.Bool.Decides.{nat_tests}
use Rattle.aidl_schema.proofs.lemmas.Sames.{same_text_is, same_text_sym}
use Rattle.aidl_schema.specs.declared.schema.AidlType.{AidlType}
use Rattle.aidl_schema.specs.declared.schema.Arg.{Arg}
use Rattle.aidl_schema.specs.declared.schema.Decl.{Decl}
use Rattle.aidl_schema.specs.declared.schema.Direction.{Direction}
use Rattle.aidl_schema.specs.declared.schema.Direction.TheVariants.{In, Out, InOut}
use Rattle.aidl_schema.specs.declared.schema.Method.{Method}
use Rattle.aidl_schema.specs.Broken.{same_name, same_method, same_result, is_there_and, way_code}
use Rattle.aidl_schema.specs.Holds.{AreApart, AllHold}
use Rattle.aidl_schema.specs.Names.{name_of, methods_of}
use Rattle.aidl_schema.specs.Same.{same, same_bool}
use Rattle.aidl_schema.specs.Unbroken.{Has, AreBoth, AtEach, Follows, Unbroken}
use Rattle.wire_model.proofs.lemmas.Lookups.{found_is, same_place, both_of}
use Rattle.wire_model.specs.Outcome.{SameWays}
use Rattle.wire_model.specs.steps.CallsMeet.{ArgumentsAgree, MethodsAgree, CallsMeet}

eq_is : (m n : ℕ) → (m == n) ≡ true → m ≡ n
eq_is m n e = grind (arith, nat_tests)

ways : (v w : Direction) → (way_code v == way_code w) ≡ true → v ≡ w
ways In In e = refl
ways In Out e = cc
ways In InOut e = cc
ways Out In e = cc
ways Out Out e = refl
ways Out InOut e = cc
ways InOut In e = cc
ways InOut Out e = cc
ways InOut InOut e = refl

same_truth : (b c : Bool) → same_bool b c ≡ true → b ≡ c
same_truth true true e = refl
same_truth true false e = cc
same_truth false true e = cc
same_truth false false e = refl

-- one passes, so one is there
there_is : {X : Type 0} (test : X → Bool) (o : Option X) → is_there_and test o ≡ true → (x : X) × (o ≡ Some x)
there_is test None e = cc
there_is test (Some x) e = (x, refl)

arguments_agree : (A B : List Decl) (xs ys : List Arg) → length xs ≡ length ys → AtEach xs ys (λ a b. (way_code a.way == way_code b.way) ≡ true)
    → AtEach xs ys (λ a b. same A a.ty B b.ty ≡ true) → ArgumentsAgree A xs B ys
arguments_agree A B [] [] n way types = tt
arguments_agree A B [] (b ∷ ys) n way types = absurd (omega (arith, n))
arguments_agree A B (a ∷ xs) [] n way types = absurd (omega (arith, n))
arguments_agree A B (a ∷ xs) (b ∷ ys) n way types = (
  ways a.way b.way (way 0 a b refl refl),
  types 0 a b refl refl,
  arguments_agree A B xs ys (omega (arith, n)) (λ k x y p q. way (suc k) x y p q) (λ k x y p q. types (suc k) x y p q),
)

module _ (A B : List Decl) (back : (t u : AidlType) → same A t B u ≡ true → same B u A t ≡ true) where
  arguments_back : (xs ys : List Arg) → ArgumentsAgree A xs B ys → ArgumentsAgree B ys A xs
  arguments_back [] [] h = tt
  arguments_back [] (b ∷ ys) h = elim h [ ]
  arguments_back (a ∷ xs) [] h = elim h [ ]
  arguments_back (a ∷ xs) (b ∷ ys) h = (sym h.0, back a.ty b.ty h.1, arguments_back xs ys h.2)

  result_back : (o r : Option AidlType) → same_result A o B r ≡ true → same_result B r A o ≡ true
  result_back None None h = refl
  result_back None (Some u) h = cc
  result_back (Some t) None h = cc
  result_back (Some t) (Some u) h = back t u h

method_back : (v w : Method) → same_method v w ≡ true → same_method w v ≡ true
method_back v w h = same_text_sym w.name.0 v.name.0 ∙ h

module _ (old new : List Decl) (d e : Decl) (F : Follows old d new e) where
  -- methods that are in both by their names
  kept : (v w : Method) → AreBoth same_method (methods_of d.kind) (methods_of e.kind) v w → MethodsAgree old v new w
  kept v w both = record {
    id = eq_is v.id w.id (F.ids v w both);
    arguments = arguments_agree old new v.args w.args (eq_is (length v.args) (length w.args) (F.argument_counts v w both)) (F.ways v w both) (F.argument_types v w both);
    result = F.results v w both;
  }

  same_way : (v w : Method) → AreBoth same_method (methods_of d.kind) (methods_of e.kind) v w → v.oneway ≡ w.oneway
  same_way v w both = same_truth v.oneway w.oneway (F.oneway v w both)

  -- each method of the old interface is in the new one
  stays : (v : Method) → Has (methods_of d.kind) v → (w : Method) × AreBoth same_method (methods_of d.kind) (methods_of e.kind) v w
  stays v here = let w = there_is (λ y. true) (find (λ w. same_method v w) (methods_of e.kind)) (F.methods v here) in (w.0, (here, w.1))

module _ (old new : List Decl) (apart : AreApart name_of new) (new_holds : AllHold new) (U : Unbroken old new) where
  are_both : (d e : Decl) → Has old d → Has new e → same_name d e ≡ true → AreBoth same_name old new d e
  are_both d e here there is = both_of same_name name_of (λ x y h. same_text_is (name_of x) (name_of y) h) old new apart d e here there is

  methods_both : (d e : Decl) → Has new e → (v w : Method) → Has (methods_of d.kind) v → Has (methods_of e.kind) w → same_method v w ≡ true
      → AreBoth same_method (methods_of d.kind) (methods_of e.kind) v w
  methods_both d e there v w p q is = both_of same_method (λ (m : Method). m.name.0) (λ x y h. same_text_is x.name.0 y.name.0 h) (methods_of d.kind) (methods_of e.kind)
      (new_holds there.0 e there.1).methods v w p q is

  -- The older schema calls: it has no method that the newer one lacks.
  pub newer_receives : CallsMeet old new
  newer_receives d e here there is =
      let F = U.members d e (are_both d e here there is) in
      record {
        common = λ v w p q same. kept old new d e F v w (methods_both d e there v w p q same);
        lacking = λ v w p q none id.
            let x = stays old new d e F v p in
            let found = found_is (λ z. same_method v z) (methods_of e.kind) x.0 x.1.1 in
            let wrong : true ≡ false = sym found.1 ∙ none x.0 found.0 in
            absurd (true≢false wrong);
      }

  -- The newer schema calls.
  pub older_receives : ((t u : AidlType) → same old t new u ≡ true → same new u old t ≡ true) → CallsMeet new old
  older_receives back e d there here is =
      let F = U.members d e (are_both d e here there (same_text_sym (name_of d) (name_of e) ∙ is)) in
      record {
        common = λ v w p q same.
            let h = kept old new d e F w v (methods_both d e there w v q p (method_back v w same)) in
            record { id = sym h.id; arguments = arguments_back old new back w.args v.args h.arguments; result = result_back old new back w.result v.result h.result };
        lacking = λ v w p q none id.
            let x = stays old new d e F w q in
            let found = found_is (λ z. same_method w z) (methods_of e.kind) x.0 x.1.1 in
            let ids : v.id ≡ x.0.id = id ∙ (kept old new d e F w x.0 x.1).id in
            let one : v ≡ x.0 = same_place (λ (m : Method). m.id) (methods_of e.kind) (new_holds there.0 e there.1).ids v x.0 p found.0 ids in
            let alike : same_method v w ≡ true = method_back w v (subst (λ z. same_method w z ≡ true) (sym one) found.1) in
            let wrong : true ≡ false = sym alike ∙ none w q in
            absurd (true≢false wrong);
      }

  -- a method of one code is the same way in both
  pub newer_ways : SameWays old new
  newer_ways d e v w here there is p q id =
      let F = U.members d e (are_both d e here there is) in
      let x = stays old new d e F v p in
      let found = found_is (λ z. same_method v z) (methods_of e.kind) x.0 x.1.1 in
      let ids : x.0.id ≡ w.id = sym (kept old new d e F v x.0 x.1).id ∙ id in
      let one : x.0 ≡ w = same_place (λ (m : Method). m.id) (methods_of e.kind) (new_holds there.0 e there.1).ids x.0 w found.0 q ids in
      subst (λ (z : Method). v.oneway ≡ z.oneway) one (same_way old new d e F v x.0 x.1)

  pub older_ways : SameWays new old
  older_ways e d v w there here is q p id = sym (newer_ways d e w v here there (same_text_sym (name_of d) (name_of e) ∙ is) p q (sym id))
