-- The values of a record as a list, field by field.
use Rattle.std.proofs.Common.{◌≡◌, ℕ, zero, suc, ◌+◌, ◌<◌, ◌==◌, Bool, true, false, List, [], ◌∷◌, ◌++◌, length, get_or, take, drop, min, leb, map, slice_get, Option, Some, None, ◌&&◌, ◌≢◌, ◌≤◌, ◌⊎◌, inl, inr, refl, sym, ap, ◌∙◌, arith}
use Rattle.std.proofs.lemmas.List.{drop_all}
use Rattle.std.proofs.lemmas.Bool.{ne_eqb}
use Rattle.std.proofs.lemmas.Bool.Decides.{nat_tests}
use Rattle.aidl_schema.specs.declared.schema.Decl.{Decl}
use Rattle.aidl_schema.specs.declared.schema.Field.{Field}
use Rattle.aidl_schema.specs.declared.schema.Arg.{Arg}
use Rattle.aidl_schema.specs.declared.schema.Kind.{Kind}
use Rattle.aidl_schema.specs.declared.schema.Kind.TheVariants.{Interface, Parcelable, Union, Enum}
use Rattle.aidl_schema.specs.Broken.{parcelable_fields, union_fields}
use Rattle.aidl_schema.specs.Containment.{fields_of}
use Rattle.aidl_schema.specs.Find.{fields_at, fields_of_decl}
use Rattle.aidl_schema.specs.Holds.{AllHold}
use Rattle.aidl_schema.specs.Same.{same_text}
use Rattle.aidl_values.specs.Data.{item}
use Rattle.aidl_values.specs.View.{items_of, view}
use Rattle.aidl_values.specs.declared.value.Value.{Value}
use Rattle.compat_witness.specs.Reaching.{initials, plain_value, with_value}
use Rattle.compat_witness.specs.Rows.{alternatives_in, alternatives_of_decl, fields_of_parcelable, is_last, low_arguments, names_agree, types_agree}
use Rattle.witness_calls.specs.Named.{field_named}
use Rattle.witness_search.specs.declared.fields.Members.{Members}
use Rattle.witness_search.specs.declared.fields.Members.TheVariants.{Fields, Alternatives}
use Rattle.witness_search.specs.steps.Records.{part, parts}
use Rattle.witness_search.specs.steps.Fields.{members_in}

module _ (S : List Decl) (high : Bool) where
  initials_are : (fs : List Field) → items_of (map (λ g. part S high false g) fs) ≡ initials S fs
  initials_are [] = refl
  initials_are (f ∷ fs) = ap (λ vs. item (part S high false f) vs) (initials_are fs)

  pub parts_are : (k : ℕ) (fs : List Field) → items_of (parts S high k fs) ≡ with_value S high k fs
  parts_are k [] = refl
  parts_are zero (f ∷ fs) = ap (λ vs. item (part S high true f) vs) (initials_are fs)
  parts_are (suc k) (f ∷ fs) = ap (λ vs. item (part S high false f) vs) (parts_are k fs)

  take_others : (i : ℕ) (fs : List Field) (f : Field) → i < length fs → f ≡ get_or fs i f
      → take (suc i) (map (λ g. part S high false g) fs) ≡ take i (map (λ g. part S high false g) fs) ++ part S high false f ∷ []
  take_others i [] f lt e = absurd (omega arith)
  take_others zero (g ∷ fs) f lt e = ap (λ h. part S high false h ∷ []) (sym e)
  take_others (suc i) (g ∷ fs) f lt e = ap (λ ds. part S high false g ∷ ds) (take_others i fs f (omega arith) e)

  take_next : (i k : ℕ) (fs : List Field) (f : Field) (here : Bool) → (i == k) ≡ here → i < length fs → f ≡ get_or fs i f
      → take (suc i) (parts S high k fs) ≡ take i (parts S high k fs) ++ part S high here f ∷ []
  take_next i k [] f here test lt e = absurd (omega arith)
  take_next zero zero (g ∷ fs) f true test lt e = ap (λ h. part S high true h ∷ []) (sym e)
  take_next zero zero (g ∷ fs) f false test lt e = absurd (grind (arith, nat_tests))
  take_next zero (suc k) (g ∷ fs) f true test lt e = absurd (grind (arith, nat_tests))
  take_next zero (suc k) (g ∷ fs) f false test lt e = ap (λ h. part S high false h ∷ []) (sym e)
  take_next (suc i) zero (g ∷ fs) f true test lt e = absurd (grind (arith, nat_tests))
  take_next (suc i) zero (g ∷ fs) f false test lt e = ap (λ ds. part S high true g ∷ ds) (take_others i fs f (omega arith) e)
  take_next (suc i) (suc k) (g ∷ fs) f true test lt e = let same : (i == k) ≡ true = grind (arith, nat_tests) in ap (λ ds. part S high false g ∷ ds) (take_next i k fs f true same (omega arith) e)
  take_next (suc i) (suc k) (g ∷ fs) f false test lt e = let same : (i == k) ≡ false = grind (arith, nat_tests) in ap (λ ds. part S high false g ∷ ds) (take_next i k fs f false same (omega arith) e)

  pub take_further : (i k : ℕ) (fs : List Field) (f : Field) → i < length fs → f ≡ get_or fs i f
      → take (i + 1) (parts S high k fs) ≡ take i (parts S high k fs) ++ part S high (i == k) f ∷ []
  take_further i k fs f lt e = let one : i + 1 ≡ suc i = omega arith in ap (λ n. take n (parts S high k fs)) one ∙ take_next i k fs f (i == k) refl lt e

  -- a value more
  mapped : (vs : List Value) (v : Value) → map view (vs ++ v ∷ []) ≡ map view vs ++ view v ∷ []
  mapped [] v = refl
  mapped (w ∷ vs) v = ap (λ ds. view w ∷ ds) (mapped vs v)

  pub one_more : (k i : ℕ) (fs : List Field) (f : Field) (vs ws : List Value) (v : Value) → i < length fs → f ≡ get_or fs i f → ws ≡ vs ++ v ∷ []
      → map view vs ≡ take i (parts S high k fs) → view v ≡ part S high (i == k) f → map view ws ≡ take (i + 1) (parts S high k fs)
  one_more k i fs f vs ws v lt is put before value =
      ap (map view) put ∙ mapped vs v ∙ ap (λ ds. ds ++ view v ∷ []) before ∙ ap (λ d. take i (parts S high k fs) ++ d ∷ []) value ∙ sym (take_further i k fs f lt is)

  pub length_parts : (k : ℕ) (fs : List Field) → length (parts S high k fs) ≡ length fs
  length_parts k [] = refl
  length_parts zero (f ∷ fs) = ap (λ n. suc n) (length_others fs)
    where
      length_others : (fs : List Field) → length (map (λ g. part S high false g) fs) ≡ length fs
      length_others [] = refl
      length_others (g ∷ fs) = ap (λ n. suc n) (length_others fs)
  length_parts (suc k) (f ∷ fs) = ap (λ n. suc n) (length_parts k fs)

-- fields that aren't as many differ somewhere in their names
pub uneven : (fs gs : List Field) → length fs ≢ length gs → false ≡ names_agree fs gs
uneven [] [] h = absurd (h refl)
uneven [] (g ∷ gs) h = refl
uneven (f ∷ fs) [] h = refl
uneven (f ∷ fs) (g ∷ gs) h = by (same_text f.name.0 g.name.0) (uneven fs gs (λ e. h (ap (λ n. suc n) e)))
  where
    by : (b : Bool) → false ≡ names_agree fs gs → false ≡ (b && names_agree fs gs)
    by true e = e
    by false e = refl

-- z0 for each argument
pub low_are : (xs : List Arg) → items_of (map (λ a. plain_value false a.ty.base) xs) ≡ low_arguments xs
low_are [] = refl
low_are (a ∷ xs) = ap (λ vs. item (plain_value false a.ty.base) vs) (low_are xs)

-- a union has at most 4096 fields
few_of_kind : (k : Kind) → length (fields_of k) ≤ 4096 → length (union_fields k) ≤ 4096
few_of_kind (Interface ms) h = omega arith
few_of_kind (Parcelable fs) h = omega arith
few_of_kind (Union fs) h = h
few_of_kind (Enum b es) h = omega arith

pub few_alternatives : (S : List Decl) → AllHold S → (k : ℕ) → length (alternatives_in S k) ≤ 4096
few_alternatives S hold k = by (slice_get S k) refl
  where
    by : (o : Option Decl) → slice_get S k ≡ o → length (alternatives_of_decl o) ≤ 4096
    by None e = omega arith
    by (Some d) e = few_of_kind d.kind (hold k d e).few_fields

-- where nothing is left of one, all types agree
pub agree_end : (old new : List Decl) (fs gs : List Field) (i : ℕ) → min (length fs) (length gs) ≤ i
    → types_agree old (drop i fs) new (drop i gs) ≡ types_agree old fs new gs → true ≡ types_agree old fs new gs
agree_end old new fs gs i le e = by (leb (length fs) i) refl
  where
    second : (xs : List Field) → types_agree old xs new [] ≡ true
    second [] = refl
    second (x ∷ xs) = refl

    by : (b : Bool) → leb (length fs) i ≡ b → true ≡ types_agree old fs new gs
    by true is = sym (ap (λ xs. types_agree old xs new (drop i gs)) (drop_all i fs (grind (arith, nat_tests)))) ∙ e
    by false is = sym (ap (λ ys. types_agree old (drop i fs) new ys) (drop_all i gs (grind (arith, nat_tests))) ∙ second (drop i fs)) ∙ e

-- the fields among which a row looks are all of the declaration's, or none

of_parcelable : (k : Kind) → (parcelable_fields k ≡ []) ⊎ (parcelable_fields k ≡ fields_of k)
of_parcelable (Interface ms) = inl refl
of_parcelable (Parcelable fs) = inr refl
of_parcelable (Union fs) = inl refl
of_parcelable (Enum b es) = inl refl

of_union : (k : Kind) → (union_fields k ≡ []) ⊎ (union_fields k ≡ fields_of k)
of_union (Interface ms) = inl refl
of_union (Parcelable fs) = inl refl
of_union (Union fs) = inr refl
of_union (Enum b es) = inl refl

some_or_none : (members : Members) (S : List Decl) (k : ℕ) → (members_in members S k ≡ []) ⊎ (members_in members S k ≡ fields_at S k)
some_or_none Fields S k = elim (slice_get S k) as (λ o. (fields_of_parcelable o ≡ []) ⊎ (fields_of_parcelable o ≡ fields_of_decl o)) [ None ↦ inl refl | Some d ↦ of_parcelable d.kind ]
some_or_none Alternatives S k = elim (slice_get S k) as (λ o. (alternatives_of_decl o ≡ []) ⊎ (alternatives_of_decl o ≡ fields_of_decl o)) [ None ↦ inl refl | Some d ↦ of_union d.kind ]

pub no_field : (members : Members) (S : List Decl) (k : ℕ) (q : List ℕ) (fs : List Field) → fs ≡ members_in members S k → length fs ≡ 0 → None ≡ field_named (members_in members S k) q
no_field members S k q [] is none = ap (λ gs. field_named gs q) is
no_field members S k q (f ∷ fs) is none = absurd (omega arith)

pub some_field : (members : Members) (S : List Decl) (k : ℕ) (q : List ℕ) (fs : List Field) (o : Option ℕ) → fs ≡ members_in members S k → length fs ≢ 0 → o ≡ field_named (fields_at S k) q
    → o ≡ field_named (members_in members S k) q
some_field members S k q fs o is some e = by (some_or_none members S k)
  where
    by : ((members_in members S k ≡ []) ⊎ (members_in members S k ≡ fields_at S k)) → o ≡ field_named (members_in members S k) q
    by (inl none) = absurd (some (ap length (is ∙ none)))
    by (inr all) = e ∙ ap (λ gs. field_named gs q) (sym all)

-- C11 asks first whether the position is the last

pub not_last : (x : ℕ) (fs : List Field) (p n t : Bool) → x + 1 ≢ length fs → false ≡ (p && (n && (is_last x fs && t)))
not_last x fs p n t h = by p n
  where
    by : (p n : Bool) → false ≡ (p && (n && (is_last x fs && t)))
    by false n = refl
    by true false = refl
    by true true = rw (ne_eqb (x + 1) (length fs) h) refl

pub at_last : (x : ℕ) (fs : List Field) (p n t : Bool) → x + 1 ≡ length fs → (p && (n && t)) ≡ (p && (n && (is_last x fs && t)))
at_last x fs p n t h = let test : is_last x fs ≡ true = grind (arith, nat_tests) in ap (λ l. p && (n && (l && t))) (sym test)
