-- One more entry behind others.
use Rattle.std.proofs.Common.{◌≡◌, ◌∙◌, ◌<◌, ℕ, zero, suc, List, [], ◌∷◌, ◌++◌, map, length, get_or, slice_get, Some, true, refl, sym, ap, subst, append_assoc, arith, Result, string_bytes}
use Rattle.std.proofs.lemmas.List.{append-nil}
use Rattle.growing.specs.Grows.{Grows}
use Rattle.growing.specs.declared.text.GrowingText.{GrowingText}
use Rattle.growing.proofs.lemmas.Chains.{both_grow}
use Rattle.aidl_schema.specs.Broken.{Break}
use Rattle.aidl_schema.specs.Unbroken.{Has}
use Rattle.aidl_schema.specs.declared.schema.Decl.{Decl}
use Rattle.compat_judge.specs.declared.judging.Broken.{Broken}
use Rattle.compat_judge.specs.Seen.{seen}
use Rattle.compat_witness.specs.Candidates.{Candidate}
use Rattle.tree_commands.specs.Judged.{break_line}
use Rattle.witness_search.specs.IsWitness.{IsAllowed, IsWitness}
use Rattle.witness_search.specs.declared.shown.NoCall.{NoCall}
use Rattle.witness_command.specs.Entries.{AreEntries, IsEntry, shown_lines}

module _ (A B : List Decl) where
  lines_more : (b : Break) (before : List Break) (old first : List ℕ) → AreEntries A B before old → IsEntry A B b first → AreEntries A B (before ++ b ∷ []) (old ++ first)
  lines_more b [] old first h is = (first, [], is, refl, ap (λ (z : List ℕ). z ++ first) h ∙ sym (append-nil first))
  lines_more b (d ∷ ds) old first h is = (h.0, h.1 ++ first, h.2, lines_more b ds h.1 first h.3 is, ap (λ (z : List ℕ). z ++ first) h.4 ∙ append_assoc h.0 h.1 first)

  -- the judge's line, and then what is shown
  pub shown_behind : (b : Break) (shown found : Result Candidate NoCall) (old named now : GrowingText) → shown ≡ found → Grows old named (break_line b) → Grows named now (shown_lines A B found)
      → Grows old now (break_line b ++ shown_lines A B shown)
  shown_behind b shown found old named now is one two =
      subst (λ (z : Result Candidate NoCall). Grows old now (break_line b ++ shown_lines A B z)) (sym is) (both_grow old named now (break_line b) (shown_lines A B found) one two)

  -- the lines of an entry
  pub entry_added : (b : Break) (before : List Break) (shown : Result Candidate NoCall) (old now : GrowingText) → IsWitness A B b shown → IsAllowed A B b shown
      → (old.is_whole ≡ true → AreEntries A B before (string_bytes old.text)) → Grows old now (break_line b ++ shown_lines A B shown)
      → now.is_whole ≡ true → AreEntries A B (before ++ b ∷ []) (string_bytes now.text)
  entry_added b before shown old now is allowed lines pushed whole =
      let grown = pushed whole in
      subst (AreEntries A B (before ++ b ∷ [])) (sym grown.1)
      (lines_more b before (string_bytes old.text) (break_line b ++ shown_lines A B shown) (lines grown.0) (shown, is, allowed, refl))

-- a row of the judge's is in its list
has_row : (rows : List Broken) (i : ℕ) (row : Broken) → i < length rows → slice_get (map seen rows) i ≡ Some (seen (get_or rows i row))
has_row [] i row lies = absurd (omega (arith, lies))
has_row (r ∷ rs) zero row lies = refl
has_row (r ∷ rs) (suc i) row lies = has_row rs i row (omega (arith, lies))

pub has : (bs : List Break) (rows : List Broken) (i : ℕ) (row : Broken) → map seen rows ≡ bs → i < length rows → row ≡ get_or rows i row → Has bs (seen row)
has bs rows i row are lies here =
    (i, ap (λ (z : List Break). slice_get z i) (sym are) ∙ has_row rows i row lies ∙ ap (λ (z : Broken). Some (seen z)) (sym here))
