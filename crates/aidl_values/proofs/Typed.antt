-- In a valid schema an initializer, as a value, has its field's type.
use Rattle.std.proofs.Common.{◌≡◌, ℕ, ℤ, pos, negsuc, ◌≤◌, Bool, true, false, not, ◌&&◌, List, [], ◌∷◌, map, Option, Some, None, slice_get, refl, sym, subst, arith}
use Rattle.std.specs.Prelude.{nat_le, ◌==◌}
use Rattle.std.specs.List.{list_all, list_any}
use Rattle.std.specs.Ordering.{int_eq}
use Rattle.std.specs.Char.{IsScalar}
use Rattle.std.specs.Str.{all_scalars}
use Rattle.std.proofs.lemmas.Bool.Decides.{nat_tests, Decides-int_eq}
use Rattle.aidl_base.specs.declared.constant.Const.{Const, out-Const}
use Rattle.aidl_base.specs.declared.constant.Const.TheOpen.{Const-F}
use Rattle.aidl_schema.specs.declared.schema.Decl.{Decl}
use Rattle.aidl_schema.specs.declared.schema.Kind.{Kind}
use Rattle.aidl_schema.specs.declared.schema.Kind.TheVariants.{Interface, Parcelable, Union, Enum}
use Rattle.aidl_schema.specs.declared.schema.Enumerator.{Enumerator}
use Rattle.aidl_schema.specs.declared.schema.Base.{Base}
use Rattle.aidl_schema.specs.declared.schema.Base.TheVariants as base
use Rattle.aidl_schema.specs.declared.schema.AidlType.{AidlType}
use Rattle.aidl_base.specs.Ranges.{is_between}
use Rattle.aidl_schema.specs.Constants.{in_range, is_char_literal, is_string_character, is_enumerator, is_enumerator_of, is_number_of, is_boolean, is_string, is_single, is_constant_of, are_members, is_initializer_of}
use Rattle.aidl_schema.specs.Types.{form_of, form_of_kind, form_of_decl, is_one, elem}
use Rattle.aidl_schema.specs.Types as form
use Rattle.aidl_schema.specs.Holds.{AllHold}
use Rattle.aidl_schema.specs.Valid.{is_enum_whole}
use Rattle.aidl_base.proofs.lemmas.Tests.{both}
use Rattle.aidl_values.specs.Default.{const_value}
use Rattle.aidl_values.specs.HasType.{HasType, HaveType}
use Rattle.aidl_values.specs.View.{items_of}
use Rattle.aidl_values.proofs.ConstValues.{value_step, value_is}

-- what one of the enumerators is has what each has
found_first : (p : ℤ → Bool) (n : ℤ) (e : Enumerator) (es : List Enumerator) → (list_any (λ x. int_eq x.value n) es ≡ true → p n ≡ true)
    → (b : Bool) → int_eq e.value n ≡ b → p e.value ≡ true → list_any (λ x. int_eq x.value n) (e ∷ es) ≡ true → p n ≡ true
found_first p n e es later true is first any = subst (λ m. p m ≡ true) ((Decides-int_eq e.value n).0 is) first
found_first p n e es later false is first any = let others : list_any (λ x. int_eq x.value n) es ≡ true = rw is at any in later others

found : (p : ℤ → Bool) (n : ℤ) (es : List Enumerator) → list_any (λ e. int_eq e.value n) es ≡ true → list_all (λ e. p e.value) es ≡ true → p n ≡ true
found p n [] any all = cc
found p n (e ∷ es) any all =
    let two = both (p e.value) (list_all (λ x. p x.value) es) all in
    found_first p n e es (λ h. found p n es h two.1) (int_eq e.value n) refl two.0 any

-- an enumerator is inside the backing
enumerated : (k : Kind) (n : ℤ) → is_enum_whole k ≡ true → is_enumerator k n ≡ true → in_range (form_of_kind k) n ≡ true
enumerated (Enum b []) n whole h = cc
enumerated (Enum b (e ∷ es)) n whole h = found (λ m. in_range (form_of_kind (Enum b (e ∷ es))) m) n (e ∷ es) h whole
enumerated (Interface ms) n whole h = cc
enumerated (Parcelable fs) n whole h = cc
enumerated (Union fs) n whole h = cc

-- a character of a literal is one of the type
char_in_range : (n : ℤ) → is_char_literal n ≡ true → in_range form.char n ≡ true
char_in_range (pos n) h =
    let between = (both (is_between (pos 32) (pos 126) (pos n)) (not (int_eq (pos n) (pos 39)) && not (int_eq (pos n) (pos 92))) h).0 in
    grind (arith, nat_tests)
char_in_range (negsuc n) h = cc

scalars : (x : List ℕ) → list_all is_string_character x ≡ true → all_scalars x ≡ true
scalars [] h = refl
scalars (c ∷ cs) h =
    let two = both (is_string_character c) (list_all is_string_character cs) h in
    let low = both (nat_le 32 c) (nat_le c 126 && (not (c == 34) && not (c == 92))) two.0 in
    let high = both (nat_le c 126) (not (c == 34) && not (c == 92)) low.1 in
    let small : c ≤ 126 = grind (arith, nat_tests) in
    let one : IsScalar c = grind (arith, nat_tests) in
    rw one (scalars cs two.1)

module _ (S : List Decl) (hold : AllHold S) where
  number_of_decl : (o : Option Decl) (n : ℤ) → ((d : Decl) → o ≡ Some d → is_enum_whole d.kind ≡ true) → is_enumerator_of o n ≡ true → in_range (form_of_decl o) n ≡ true
  number_of_decl None n whole h = cc
  number_of_decl (Some d) n whole h = enumerated d.kind n (whole d refl) h

  number_in_range : (b : Base) (n : ℤ) → is_number_of S b n ≡ true → in_range (form_of S b) n ≡ true
  number_in_range base.Byte n h = h
  number_in_range base.Char n h = char_in_range n h
  number_in_range base.Int n h = h
  number_in_range base.Long n h = h
  number_in_range (base.Named k) n h = number_of_decl (slice_get S k) n (λ d is. (hold k d is).enum) h
  number_in_range base.Boolean n h = cc
  number_in_range base.Text n h = cc

  truth_base : (b : Base) → is_boolean b ≡ true → form_of S b ≡ form.truth
  truth_base base.Boolean h = refl
  truth_base base.Byte h = cc
  truth_base base.Char h = cc
  truth_base base.Int h = cc
  truth_base base.Long h = cc
  truth_base base.Text h = cc
  truth_base (base.Named n) h = cc

  text_base : (b : Base) → is_string b ≡ true → form_of S b ≡ form.text
  text_base base.Text h = refl
  text_base base.Byte h = cc
  text_base base.Char h = cc
  text_base base.Int h = cc
  text_base base.Long h = cc
  text_base base.Boolean h = cc
  text_base (base.Named n) h = cc

  level_typed : (t : AidlType) (o : Const-F Const) → is_one t.shape ≡ true → is_single S t.base o ≡ true → HasType S t (value_step o)
  level_typed t (Const-F.Truth x) one h = (one, truth_base t.base h)
  level_typed t (Const-F.Number n) one h = (one, number_in_range t.base n h)
  level_typed t (Const-F.Text x) one h = let two = both (is_string t.base) (list_all is_string_character x) h in (one, text_base t.base two.0, scalars x two.1)
  level_typed t (Const-F.Members cs) one h = cc

  single_typed : (t : AidlType) (c : Const) → is_one t.shape ≡ true → is_constant_of S t.base c ≡ true → HasType S t (const_value c)
  single_typed t c one h = subst (λ v. HasType S t v) (sym (value_is c)) (level_typed t (out-Const c) one h)

  members_typed : (t : AidlType) (cs : List Const) → list_all (λ m. is_constant_of S t.base m) cs ≡ true → HaveType S (elem S t) (items_of (map const_value cs))
  members_typed t [] h = tt
  members_typed t (c ∷ cs) h =
      let two = both (is_constant_of S t.base c) (list_all (λ m. is_constant_of S t.base m) cs) h in
      (single_typed (elem S t) c refl two.0, members_typed t cs two.1)

  list_typed : (t : AidlType) (o : Const-F Const) → is_one t.shape ≡ false → are_members (λ m. is_constant_of S t.base m) o ≡ true → HasType S t (value_step o)
  list_typed t (Const-F.Members cs) many h = (many, members_typed t cs h)
  list_typed t (Const-F.Truth x) many h = cc
  list_typed t (Const-F.Number n) many h = cc
  list_typed t (Const-F.Text x) many h = cc

  pub typed : (t : AidlType) (c : Const) → is_initializer_of S t c ≡ true → HasType S t (const_value c)
  typed t c h = by (is_one t.shape) refl
    where
      by : (one : Bool) → is_one t.shape ≡ one → HasType S t (const_value c)
      by true is = let k : is_constant_of S t.base c ≡ true = rw is at h in single_typed t c is k
      by false is =
          let k : are_members (λ m. is_constant_of S t.base m) (out-Const c) ≡ true = rw is at h in
          subst (λ v. HasType S t v) (sym (value_is c)) (list_typed t (out-Const c) is k)
