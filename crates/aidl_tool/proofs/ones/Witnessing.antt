-- What `witness` prints is one answer at the most.
use Rattle.std.proofs.Common.{◌≡◌, ℕ, List, [], ◌∷◌, ◌++◌, Option, Some, None, Result, Ok, Err, inl, inr, refl, sym, ap, ◌∙◌}
use Rattle.aidl_outside.specs.Files.{Files}
use Rattle.aidl_schema.specs.Broken.{Break, broken}
use Rattle.aidl_schema.specs.declared.schema.Decl.{Decl}
use Rattle.witness_command.specs.Witnessed.{WitnessAnswers, IsWitnessed}
use Rattle.aidl_tool.proofs.ones.Answers.{in_both_one}
use Rattle.compat_witness.specs.Candidates.{Candidate}
use Rattle.compat_witness.specs.Rows.{Row}
use Rattle.tool_frame.specs.Answer.{Answer}
use Rattle.tree_commands.specs.Faults.{refused}
use Rattle.tree_commands.specs.Judged.{break_line}
use Rattle.witness_command.specs.Entries.{AreEntries, IsEntry, shown_lines}
use Rattle.witness_search.specs.IsWitness.{IsFirstShown, IsOf, IsOfRow, those_of}
use Rattle.compat_witness.specs.RowsByRule.{row_of}
use Rattle.witness_search.specs.declared.shown.NoCall.{NoCall}
use Rattle.witness_search.specs.declared.shown.NoCall.TheVariants.{OutsideWire, NoCandidate}

module _ (old new : List Decl) where
  -- the first candidate that is shown is one
  one_first : (cs : List Candidate) (o p : Option Candidate) → IsFirstShown old new cs o → IsFirstShown old new cs p → o ≡ p
  one_first [] o p h k = h ∙ sym k
  one_first (c ∷ cs) o p (inl h) (inl k) = h.0 ∙ sym k.0
  one_first (c ∷ cs) o p (inl h) (inr k) = absurd (k.0 h.1)
  one_first (c ∷ cs) o p (inr h) (inl k) = absurd (h.0 k.1)
  one_first (c ∷ cs) o p (inr h) (inr k) = one_first cs o p h.1 k.1

  one_of_row : (cs : List Candidate) (s t : Result Candidate NoCall) → IsOfRow old new cs s → IsOfRow old new cs t → s ≡ t
  one_of_row cs (Ok c) (Ok d) h k = let e = one_first cs (Some c) (Some d) h k in cc
  one_of_row cs (Ok c) (Err NoCandidate) h k = let e = one_first cs (Some c) None h k in absurd cc
  one_of_row cs (Err NoCandidate) (Ok d) h k = let e = one_first cs None (Some d) h k in absurd cc
  one_of_row cs (Err NoCandidate) (Err NoCandidate) h k = refl
  one_of_row cs (Err OutsideWire) t h k = absurd h
  one_of_row cs (Ok c) (Err OutsideWire) h k = absurd k
  one_of_row cs (Err NoCandidate) (Err OutsideWire) h k = absurd k

  one_of : (p : List ℕ) (row : Option Row) (s t : Result Candidate NoCall) → IsOf old new p row s → IsOf old new p row t → s ≡ t
  one_of p None s t h k = h ∙ sym k
  one_of p (Some row) s t h k = one_of_row (those_of (row old new p)) s t h k

  one_entry : (b : Break) (x y : List ℕ) → IsEntry old new b x → IsEntry old new b y → x ≡ y
  one_entry b x y (s, h, may, e) (t, k, might, d) = e ∙ ap (λ found. break_line b ++ shown_lines old new found) (one_of b.1 (row_of b.0) s t h k) ∙ sym d

  one_entries : (bs : List Break) (x y : List ℕ) → AreEntries old new bs x → AreEntries old new bs y → x ≡ y
  one_entries [] x y h k = h ∙ sym k
  one_entries (b ∷ bs) x y (f, r, h, hs, e) (g, s, k, ks, d) =
      e ∙ ap (λ text. text ++ r) (one_entry b f g h k) ∙ ap (λ text. g ++ text) (one_entries bs r s hs ks) ∙ sym d

  one_witnessed : (bs : List Break) (a b : Answer) → IsWitnessed old new bs a → IsWitnessed old new bs b → a ≡ b
  one_witnessed [] a b h k = h ∙ sym k
  one_witnessed (c ∷ cs) a b (x, h, e) (y, k, d) = e ∙ ap refused (one_entries (c ∷ cs) x y h k) ∙ sym d

-- `witness OLD NEW`
pub one_witness : (old new : List ℕ) (files : Files) (a b : Answer) → WitnessAnswers old new files a → WitnessAnswers old new files b → a ≡ b
one_witness old new = in_both_one (λ A B. IsWitnessed A B (broken A B)) (λ A B. one_witnessed A B (broken A B)) old new
