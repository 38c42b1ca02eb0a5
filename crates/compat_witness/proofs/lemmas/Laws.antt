-- The laws of witnesses for declarations that are valid, rule by rule.
use Rattle.std.proofs.Common.{◌≡◌, ℕ, ◌==◌, Bool, true, false, List, [], ◌∷◌, Option, Some, None, cond, refl, subst}
use Rattle.std.specs.Prelude.{option_map}
use Rattle.std.specs.List.{find}
use Rattle.std.proofs.lemmas.Bool.{eqb-true}
use Rattle.aidl_schema.specs.declared.schema.Decl.{Decl}
use Rattle.aidl_schema.specs.Broken.{Place, broken}
use Rattle.aidl_schema.specs.Holds.{AllHold, AreApart}
use Rattle.aidl_schema.specs.Names.{name_of}
use Rattle.aidl_schema.specs.Sizes.{AreSteady}
use Rattle.aidl_schema.specs.Unbroken.{Has}
use Rattle.aidl_schema.specs.Valid.{IsValid}
use Rattle.aidl_schema.proofs.lemmas.Counts.{depth_steady, nodes_steady}
use Rattle.aidl_schema.proofs.lemmas.Valids.{all_hold, decls_apart}
use Rattle.aidl_values.specs.Sound.{IsSound}
use Rattle.aidl_values.proofs.lemmas.Sounds.{is_sound}
use Rattle.compat_witness.specs.Candidates.{AreSmall, Candidate, Shows}
use Rattle.compat_witness.specs.Places.{at_slash}
use Rattle.compat_witness.specs.Rows.{Row, row_C2, row_C3, row_C4, row_C5, row_C6, row_C6_at, row_C7_at, row_C8, row_C10, row_C11, row_C15, row_C16}
use Rattle.compat_witness.specs.RowsByRule.{row_C6_both, row_C6_by, row_of, table}
use Rattle.compat_witness.proofs.C10.{c10}
use Rattle.compat_witness.proofs.C11.{c11}
use Rattle.compat_witness.proofs.C15.{c15}
use Rattle.compat_witness.proofs.C16.{c16}
use Rattle.compat_witness.proofs.C2.{c2}
use Rattle.compat_witness.proofs.C3C4.{c3, c4}
use Rattle.compat_witness.proofs.C5.{c5}
use Rattle.compat_witness.proofs.C6.{c6}
use Rattle.compat_witness.proofs.C6At.{c6_at}
use Rattle.compat_witness.proofs.C7.{c7}
use Rattle.compat_witness.proofs.C8.{c8}

-- where a rule is broken at a place and the condition of its row is met, one of the row's candidates shows it
abbrev pub IsShownBy : List Decl → List Decl → ℕ → Row → Type 0
IsShownBy old new rule row =
    (p : Place) → Has (broken old new) (rule, p) → (cs : List Candidate) → row old new p ≡ Some cs → AreSmall old new cs → Shows old new cs

module _ (old new : List Decl) where
  -- the rows of a table
  abbrev AreShown : List (ℕ × Row) → Type 0
  AreShown [] = Unit {0}
  AreShown (x ∷ xs) = IsShownBy old new x.0 x.1 × AreShown xs

  shown_of : (xs : List (ℕ × Row)) → AreShown xs → (rule : ℕ) (row : Row) → option_map (λ x. x.1) (find (λ x. x.0 == rule) xs) ≡ Some row → IsShownBy old new rule row
  shown_of [] all rule row e = absurd cc
  shown_of (x ∷ xs) all rule row e = by (x.0 == rule) refl e (shown_of xs all.1 rule row)
    where
      by : (t : Bool) → (x.0 == rule) ≡ t → option_map (λ x. x.1) (cond t (Some x) (find (λ x. x.0 == rule) xs)) ≡ Some row
          → (option_map (λ x. x.1) (find (λ x. x.0 == rule) xs) ≡ Some row → IsShownBy old new rule row) → IsShownBy old new rule row
      by true is e later =
          let same : x.1 ≡ row = cc in
          subst (λ r. IsShownBy old new rule r) same (subst (λ k. IsShownBy old new k x.1) (eqb-true x.0 rule is) all.0)
      by false is e later = later e

  -- C6 at both kinds of places
  either_place : (p : List ℕ) (cs : List Candidate)
      → (at_slash p ≡ None → row_C6 old new p ≡ Some cs → AreSmall old new cs → Shows old new cs)
      → ((q : List ℕ × List ℕ) → at_slash p ≡ Some q → row_C6_at old new q.0 ≡ Some cs → AreSmall old new cs → Shows old new cs)
      → row_C6_both old new p ≡ Some cs → AreSmall old new cs → Shows old new cs
  either_place p cs whole part = by (at_slash p) refl
    where
      by : (o : Option (List ℕ × List ℕ)) → at_slash p ≡ o → row_C6_by o old new p ≡ Some cs → AreSmall old new cs → Shows old new cs
      by None e = whole e
      by (Some q) e = part q e

steady : (S : List Decl) → AreSteady S
steady S = record { depth = depth_steady S; nodes = nodes_steady S }

sound : (S : List Decl) → IsValid S → IsSound S
sound S valid = is_sound S (all_hold S valid) (steady S)

module _ (old new : List Decl) (valid_old : IsValid old) (valid_new : IsValid new) where
  abbrev hold_old : AllHold old
  hold_old = all_hold old valid_old

  abbrev hold_new : AllHold new
  hold_new = all_hold new valid_new

  abbrev apart_old : AreApart name_of old
  apart_old = decls_apart old valid_old

  abbrev apart_new : AreApart name_of new
  apart_new = decls_apart new valid_new

  shown_C2 : IsShownBy old new 2 row_C2
  shown_C2 p entry cs row small = c2 old new hold_old hold_new apart_old apart_new p cs small row

  shown_C3 : IsShownBy old new 3 row_C3
  shown_C3 p entry cs row small = c3 old new hold_old hold_new apart_old apart_new p cs small entry row

  shown_C4 : IsShownBy old new 4 row_C4
  shown_C4 p entry cs row small = c4 old new hold_old hold_new apart_old apart_new p cs small entry row

  shown_C5 : IsShownBy old new 5 row_C5
  shown_C5 p entry cs row small = c5 old new hold_old hold_new apart_old apart_new p cs small entry row

  -- at a method
  shown_C6 : (p : Place) → at_slash p ≡ None → Has (broken old new) (6, p) → (cs : List Candidate) → row_C6 old new p ≡ Some cs → AreSmall old new cs → Shows old new cs
  shown_C6 p slash entry cs row small = c6 old new hold_old hold_new apart_old apart_new p cs small slash entry row

  -- at an argument
  shown_C6_at : (p : Place) (q : List ℕ × List ℕ) → at_slash p ≡ Some q → Has (broken old new) (6, p) → (cs : List Candidate) → row_C6_at old new q.0 ≡ Some cs
      → AreSmall old new cs → Shows old new cs
  shown_C6_at p q slash entry cs row small = c6_at old new hold_old hold_new apart_old apart_new p cs small q slash entry row

  shown_C7 : IsShownBy old new 7 row_C7_at
  shown_C7 p entry cs row small = c7 old new hold_old hold_new apart_old apart_new (steady old) (steady new) p cs small entry row

  shown_C8 : IsShownBy old new 8 row_C8
  shown_C8 p entry cs row small = c8 old new hold_old hold_new apart_old apart_new p cs small entry row

  shown_C10 : IsShownBy old new 10 row_C10
  shown_C10 p entry cs row small = c10 old new (sound old valid_old) (sound new valid_new) hold_old hold_new apart_old apart_new p cs small entry row

  shown_C11 : IsShownBy old new 11 row_C11
  shown_C11 p entry cs row small = c11 old new (sound old valid_old) (sound new valid_new) hold_old hold_new apart_old apart_new p cs small entry row

  shown_C15 : IsShownBy old new 15 row_C15
  shown_C15 p entry cs row small = c15 old new hold_old hold_new apart_old apart_new p cs small row

  shown_C16 : IsShownBy old new 16 row_C16
  shown_C16 p entry cs row small = c16 old new hold_old hold_new apart_old apart_new p cs small entry row

  shown_C6_both : IsShownBy old new 6 row_C6_both
  shown_C6_both p entry cs = either_place old new p cs (λ slash. shown_C6 p slash entry cs) (λ q slash. shown_C6_at p q slash entry cs)

  all_shown : AreShown old new table
  all_shown =
      (shown_C2, (shown_C3, (shown_C4, (shown_C5, (shown_C6_both, (shown_C7, (shown_C8, (shown_C10, (shown_C11, (shown_C15, (shown_C16, tt)))))))))))

  -- of the rule's row, where it has one
  pub shown_by_rule : (rule : ℕ) (row : Row) → row_of rule ≡ Some row → IsShownBy old new rule row
  shown_by_rule rule row is = shown_of old new table all_shown rule row is
