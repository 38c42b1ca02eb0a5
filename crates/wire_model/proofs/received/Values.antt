-- Values that are read have the types that they are read by.
use Rattle.std.proofs.Common.{◌≡◌, ℕ, Bool, true, false, List, [], ◌∷◌, Option, Some, None, Ok, refl, ap, subst}
use Rattle.aidl_base.proofs.lemmas.Lists.{AreBytes, AreBytes-rest}
use Rattle.aidl_base.specs.declared.profile.Profile.{Profile}
use Rattle.aidl_base.specs.Readings.{Read, ◌>>=◌}
use Rattle.aidl_schema.specs.declared.schema.AidlType.{AidlType}
use Rattle.aidl_schema.specs.declared.schema.Arg.{Arg}
use Rattle.aidl_schema.specs.declared.schema.Decl.{Decl}
use Rattle.aidl_schema.specs.Methods.{is_in_way, is_result_type}
use Rattle.aidl_schema.specs.Types.{is_type}
use Rattle.aidl_values.specs.Data.{Data, Items, none, item}
use Rattle.aidl_values.specs.HasType.{HasType}
use Rattle.aidl_values.specs.Sound.{IsSound}
use Rattle.wire_model.specs.Calls.{outs_of}
use Rattle.wire_model.specs.ReadOf.{read_of}
use Rattle.wire_model.specs.Receiver.{values_at, result_at}
use Rattle.wire_model.specs.Typed.{EachHasType, IsResult}
use Rattle.wire_model.proofs.lemmas.Reading.{read_reads, read_typed}
use Rattle.wire_model.proofs.calls.Arguments.{HaveTypes}
use Rattle.wire_model.proofs.calls.Types.{passed}
use Rattle.wire_model.proofs.lemmas.received.Steps.{taken}

-- each of these is a type of the schema
abbrev pub AreTypesOf : List Decl → List AidlType → Type 0
AreTypesOf S [] = Unit {0}
AreTypesOf S (t ∷ ts) = (is_type S t ≡ true) × AreTypesOf S ts

pub outs_typed : (S : List Decl) (xs : List Arg) → HaveTypes S xs → AreTypesOf S (outs_of xs)
outs_typed S [] types = tt
outs_typed S (a ∷ xs) types = by_way (is_in_way a.way) refl (outs_typed S xs types.1)
  where
    by_way : (in_way : Bool) → is_in_way a.way ≡ in_way → AreTypesOf S (outs_of xs) → AreTypesOf S (outs_of (a ∷ xs))
    by_way true e later = rw e later
    by_way false e later = rw e (types.0, later)

module _ (p : Profile) (S : List Decl) (sound : IsSound S) where
  -- one value, and the bytes after it
  pub value_typed : (t : AidlType) (b : List ℕ) (x : Data × List ℕ) → is_type S t ≡ true → AreBytes b → read_of p S 64 t false b ≡ Ok x → HasType S t x.0 × AreBytes x.1
  value_typed t b x type bytes e =
      let h = read_reads p S sound 64 t type false b bytes x.0 x.1 e in
      (read_typed p S sound 64 t type false b bytes x.0 x.1 e, AreBytes-rest h.0 x.1 (subst AreBytes h.1 bytes))

  -- items that follow a first one
  pub joined : (t : AidlType) (ts : List AidlType) (v : Data) (vs : Items) (rest : List ℕ) (x : Items × List ℕ) → ◌≡◌ {A = Read Items} (Ok (item v vs, rest)) (Ok x)
      → HasType S t v → EachHasType S ts vs → EachHasType S (t ∷ ts) x.0
  joined t ts v vs rest x e h hs =
      let pair : ◌≡◌ {A = Items × List ℕ} (item v vs, rest) x = cc in
      subst (EachHasType S (t ∷ ts)) (ap (λ (q : Items × List ℕ). q.0) pair) (h, hs)

  pub values_typed : (ts : List AidlType) (b : List ℕ) (x : Items × List ℕ) → AreTypesOf S ts → AreBytes b → values_at p S ts b ≡ Ok x → EachHasType S ts x.0
  values_typed [] b x types bytes e = let pair : ◌≡◌ {A = Items × List ℕ} (none, b) x = cc in subst (EachHasType S []) (ap (λ (q : Items × List ℕ). q.0) pair) tt
  values_typed (t ∷ ts) b x types bytes e =
      let one = taken (read_of p S 64 t false b) (λ v. values_at p S ts v.1 >>= λ vs. let y : Read Items = Ok (item v.0 vs.0, vs.1) in y) x e in
      let two = taken (values_at p S ts one.0.1) (λ vs. let y : Read Items = Ok (item one.0.0 vs.0, vs.1) in y) x one.2 in
      let first = value_typed t b one.0 types.0 bytes one.1 in
      joined t ts one.0.0 two.0.0 two.0.1 x two.2 first.0 (values_typed ts one.0.1 two.0 types.1 first.1 two.1)

  pub result_typed : (t : Option AidlType) (b : List ℕ) (x : Option Data × List ℕ) → is_result_type S t ≡ true → AreBytes b → result_at p S t b ≡ Ok x → IsResult S t x.0 × AreBytes x.1
  result_typed None b x type bytes e =
      let pair : ◌≡◌ {A = Option Data × List ℕ} (None, b) x = cc in
      (subst (IsResult S None) (ap (λ (q : Option Data × List ℕ). q.0) pair) tt, subst AreBytes (ap (λ (q : Option Data × List ℕ). q.1) pair) bytes)
  result_typed (Some t) b x type bytes e =
      let one = taken (read_of p S 64 t false b) (λ v. let y : Read (Option Data) = Ok (Some v.0, v.1) in y) x e in
      let h = value_typed t b one.0 (passed S t type) bytes one.1 in
      let pair : ◌≡◌ {A = Option Data × List ℕ} (Some one.0.0, one.0.1) x = end one.0 one.2 in
      (subst (IsResult S (Some t)) (ap (λ (q : Option Data × List ℕ). q.0) pair) h.0, subst AreBytes (ap (λ (q : Option Data × List ℕ). q.1) pair) h.1)
    where
      end : (y : Data × List ℕ) → ◌≡◌ {A = Read (Option Data)} (Ok (Some y.0, y.1)) (Ok x) → ◌≡◌ {A = Option Data × List ℕ} (Some y.0, y.1) x
      end y e = cc
