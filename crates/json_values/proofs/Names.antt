-- In a valid schema a name finds the field that it names, and what an enumerator is written as is read as its value.
use Rattle.std.proofs.Common.{◌≡◌, ℕ, zero, suc, ◌+◌, ◌≤◌, ℤ, Bool, true, false, List, [], ◌∷◌, length, Option, Some, None, slice_get, Ok, Ordering, Less, Equal, Greater, refl, sym, ap, ◌∙◌, subst, arith}
use Rattle.std.specs.Prelude.{◌||◌, if◌then◌else◌}
use Rattle.std.specs.List.{list_any}
use Rattle.std.specs.Cmp.Lexicographic.{slice_cmp}
use Rattle.std.specs.Ordering.{int_eq, nat_cmp, match_ordering}
use Rattle.std.proofs.lemmas.Bool.Decides.{Decides-int_eq}
use Rattle.std.proofs.lemmas.Str.{encodes_same}
use Rattle.serde_json.specs.Data as json
use Rattle.serde_json.specs.Find.{as_integer, of_integer}
use Rattle.aidl_schema.specs.declared.schema.Decl.{Decl}
use Rattle.aidl_schema.specs.declared.schema.Enumerator.{Enumerator}
use Rattle.aidl_schema.specs.declared.schema.Field.{Field}
use Rattle.aidl_schema.specs.declared.schema.Base.{Base}
use Rattle.aidl_schema.specs.declared.schema.AidlType.{AidlType}
use Rattle.aidl_schema.specs.Constants.{in_range}
use Rattle.aidl_schema.specs.Holds.{AreApart, AllHold}
use Rattle.aidl_schema.specs.Same.{same_text}
use Rattle.aidl_schema.specs.Types.{Form, form_of}
use Rattle.aidl_values.specs.Data.{Data, number, alt}
use Rattle.aidl_values.specs.Sound.{IsSound}
use Rattle.json_values.specs.FromJson as from
use Rattle.json_writing.specs.Json.{json_among}
use Rattle.json_writing.specs.Named.{bytes_of, fields_in}
use Rattle.json_values.specs.Refusal.{Answer}
use Rattle.json_writing.proofs.lemmas.Whole.{of_base}
use Rattle.json_values.specs.Scalars.{whole_from, number_from}
use Rattle.json_values.proofs.lemmas.Names.{text_itself, text_apart, later_apart, first_apart, name_of_enumerator}

-- enumerators
among_later : (f : Form) (n : ℤ) (e : Enumerator) (es rest : List Enumerator) → ((k : ℕ) (x : Enumerator) → slice_get rest k ≡ Some x → same_text (bytes_of e.name) (bytes_of x.name) ≡ false)
    → number_from (Some (e ∷ es)) f (json_among rest n) ≡ number_from (Some es) f (json_among rest n)
among_later f n e es [] differs = refl
among_later f n e es (x ∷ rest) differs = by (int_eq x.value n) (differs zero x refl) (among_later f n e es rest (λ k y at. differs (suc k) y at))
  where
    by : (b : Bool) → same_text (bytes_of e.name) (bytes_of x.name) ≡ false → number_from (Some (e ∷ es)) f (json_among rest n) ≡ number_from (Some es) f (json_among rest n)
        → number_from (Some (e ∷ es)) f (if b then json.string (bytes_of x.name) else json_among rest n)
        ≡ number_from (Some es) f (if b then json.string (bytes_of x.name) else json_among rest n)
    by true other later = rw other refl
    by false other later = later

-- a number, written by the name of its first enumerator where it has one, is read as the number
pub among_back : (f : Form) (n : ℤ) (es : List Enumerator) → AreApart name_of_enumerator es → in_range f n ≡ true → whole_from f (as_integer (of_integer n)) ≡ Ok (number n)
    → number_from (Some es) f (json_among es n) ≡ Ok (number n)
among_back f n [] apart ranged whole = whole
among_back f n (e ∷ es) apart ranged whole = by (int_eq e.value n) refl (among_back f n es (later_apart name_of_enumerator e es apart) ranged whole)
    (among_later f n e es es (λ k x at. text_apart (bytes_of e.name) (bytes_of x.name) (λ same. first_apart name_of_enumerator e es apart k x at (sym (encodes_same e.name.0 x.name.0 same)))))
  where
    by : (b : Bool) → int_eq e.value n ≡ b → number_from (Some es) f (json_among es n) ≡ Ok (number n)
        → number_from (Some (e ∷ es)) f (json_among es n) ≡ number_from (Some es) f (json_among es n)
        → number_from (Some (e ∷ es)) f (if b then json.string (bytes_of e.name) else json_among es n) ≡ Ok (number n)
    by true is back later = rw (text_itself (bytes_of e.name)) (ap (λ m. Ok (number m)) ((Decides-int_eq e.value n).0 is))
    by false is back later = later ∙ back

-- it is not null
pub among_there : (n : ℤ) (es : List Enumerator) → from.is_null (json_among es n) ≡ false
among_there n [] = refl
among_there n (e ∷ es) = by (int_eq e.value n) (among_there n es)
  where
    by : (b : Bool) → from.is_null (json_among es n) ≡ false → from.is_null (if b then json.string (bytes_of e.name) else json_among es n) ≡ false
    by true later = refl
    by false later = later

-- fields
abbrev pub name_of_field : Field → List ℕ
name_of_field f = f.name.0

pub names_differ : (f : Field) (fs : List Field) → AreApart name_of_field (f ∷ fs) → (k : ℕ) (g : Field) → slice_get fs k ≡ Some g → bytes_of g.name ≡ bytes_of f.name → ⊥
names_differ f fs apart k g at same = first_apart name_of_field f fs apart k g at (encodes_same g.name.0 f.name.0 same)

pub later_fields : (f : Field) (fs : List Field) → AreApart name_of_field (f ∷ fs) → AreApart name_of_field fs
later_fields f fs apart = later_apart name_of_field f fs apart

-- a union's field is found by its name
pub alternative_back : (read : AidlType → json.Data → Answer Data) (j : json.Data) (v : Data) (n k : ℕ) (fs : List Field) (f : Field) → slice_get fs k ≡ Some f → AreApart name_of_field fs → read f.ty j ≡ Ok v
    → from.alternative_from read n fs (bytes_of f.name) j ≡ Ok (alt (n + k) v)
alternative_back read j v n k [] f at apart is = cc
alternative_back read j v n zero (g ∷ fs) f at apart is =
    let same : g ≡ f = cc in
    let here : from.has_name (bytes_of f.name) g ≡ true = ap (λ h. same_text (bytes_of h.name) (bytes_of f.name)) same ∙ text_itself (bytes_of f.name) in
    let reads : read g.ty j ≡ Ok v = ap (λ h. read h.ty j) same ∙ is in
    let at_n : n ≡ n + zero = omega arith in
    rw (here, reads) (ap (λ m. Ok (alt m v)) at_n)
alternative_back read j v n (suc k) (g ∷ fs) f at apart is =
    let other : from.has_name (bytes_of f.name) g ≡ false = text_apart (bytes_of g.name) (bytes_of f.name) (λ same. names_differ g fs apart k f at (sym same)) in
    let at_n : suc n + k ≡ n + suc k = omega arith in
    rw other (alternative_back read j v (suc n) k fs f at (later_fields g fs apart) is ∙ ap (λ m. Ok (alt m v)) at_n)

-- a field of these is one of the keys' names
pub among_fields : (fs : List Field) (k : ℕ) (f : Field) → slice_get fs k ≡ Some f → list_any (λ g. from.has_name (bytes_of f.name) g) fs ≡ true
among_fields [] k f at = cc
among_fields (g ∷ fs) zero f at =
    let same : g ≡ f = cc in
    let here : from.has_name (bytes_of f.name) g ≡ true = ap (λ h. same_text (bytes_of h.name) (bytes_of f.name)) same ∙ text_itself (bytes_of f.name) in
    rw here refl
among_fields (g ∷ fs) (suc k) f at = by (from.has_name (bytes_of f.name) g) (among_fields fs k f at)
  where
    by : (b : Bool) → list_any (λ h. from.has_name (bytes_of f.name) h) fs ≡ true → (b || list_any (λ h. from.has_name (bytes_of f.name) h) fs) ≡ true
    by true e = refl
    by false e = e

-- the keys of an object that was written are fields' names
known_first : (b : Bool) (l : List ℕ) (rest : Option (List ℕ)) → (if b then rest else Some l) ≡ None → (b ≡ true) × (rest ≡ None)
known_first true l rest e = (refl, e)
known_first false l rest e = cc

pub known_put : (all : List Field) (key : List ℕ) (j : json.Data) (ms : json.Members) → list_any (λ f. from.has_name key f) all ≡ true → from.unknown_in all ms ≡ None
    → from.unknown_in all (json.put key j ms) ≡ None
known_put all key j json.no_members known rest = rw known refl
known_put all key j (json.member l i ms) known rest =
    let two = known_first (list_any (λ f. from.has_name l f) all) l (from.unknown_in all ms) rest in
    by (slice_cmp nat_cmp key l) two.0 two.1 (known_put all key j ms known two.1)
  where
    by : (o : Ordering) → list_any (λ f. from.has_name l f) all ≡ true → from.unknown_in all ms ≡ None → from.unknown_in all (json.put key j ms) ≡ None
        → from.unknown_in all (match_ordering o (json.member key j (json.member l i ms)) (json.member l j ms) (json.member l i (json.put key j ms))) ≡ None
    by Less e others later = rw (known, e) others
    by Equal e others later = rw e others
    by Greater e others later = rw e later

-- what the base of a type is has names that differ
module _ (S : List Decl) (hold : AllHold S) where
  pub fields_apart : (b : Base) → AreApart name_of_field (fields_in (form_of S b))
  fields_apart b = of_base S (λ fs. AreApart name_of_field fs) (λ j k x y p q e. cc) (λ d at. (hold at.0 d at.1).fields) b

-- and few fields
pub few_in : (S : List Decl) → IsSound S → (b : Base) (f : Form) → form_of S b ≡ f → length (fields_in f) ≤ 4096
few_in S sound b f is = subst (λ g. length (fields_in g) ≤ 4096) is (of_base S (λ fs. length fs ≤ 4096) (omega arith) sound.few b)
