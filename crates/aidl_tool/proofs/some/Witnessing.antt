-- What `witness` prints is one answer at the least.
use Rattle.std.proofs.Common.{◌≢◌, ℕ, suc, ◌⊎◌, List, [], ◌∷◌, ◌++◌, inl, inr, refl}
use Rattle.std.specs.Prelude.{codes}
use Rattle.aidl_base.specs.declared.source_file.SourceFile.{SourceFile}
use Rattle.aidl_outside.specs.Files.{Files}
use Rattle.aidl_schema.specs.Broken.{Break, broken}
use Rattle.aidl_schema.specs.Unbroken.{Has}
use Rattle.aidl_schema.specs.Valid.{IsValid}
use Rattle.aidl_schema.specs.declared.schema.Decl.{Decl}
use Rattle.aidl_tool.specs.Meant.{meaning}
use Rattle.aidl_tool.specs.SomeMeaning.{MeansSome}
use Rattle.aidl_tool.proofs.some.ByTree.{fault_answered}
use Rattle.aidl_tool.proofs.some.Meanings.{some_over_both, some_reading}
use Rattle.tool_frame.specs.Answer.{Answer, AsAnswer, done}
use Rattle.tool_words.specs.Command.{witness}
use Rattle.tree_commands.specs.ByTree.{ByBoth, ByFiles}
use Rattle.tree_commands.specs.Faults.{refused}
use Rattle.tree_commands.specs.Judged.{break_line}
use Rattle.type_check.specs.Checked.{IsSchemaOf}
use Rattle.type_check.specs.Refusals.{IsRefusal}
use Rattle.type_check.specs.declared.fault.CheckFault.{CheckFault}
use Rattle.type_check.specs.declared.fault.CheckFault.TheVariants as fault
use Rattle.type_check.proofs.lemmas.SomeAnswer.{checked-or-refused}
use Rattle.type_check.proofs.lemmas.ValidOf.{schema_valid}
use Rattle.witness_command.specs.Entries.{AreEntries, IsEntry, shown_lines}
use Rattle.witness_command.specs.Witnessed.{IsWitnessed, WitnessAnswers}
use Rattle.witness_search.proofs.lemmas.SomeWitness.{some_witness}

-- Entries between valid schemas.
module _ (old new : List Decl) (valid_old : IsValid old) (valid_new : IsValid new) where
  some_entry : (b : Break) → Has (broken old new) b → (text : List ℕ) × IsEntry old new b text
  some_entry b h =
      let found = some_witness old new valid_old valid_new b h in
      (break_line b ++ shown_lines old new found.0, (found.0, found.1, found.2, refl))

  some_entries : (bs : List Break) → ((b : Break) → Has bs b → Has (broken old new) b) → (text : List ℕ) × AreEntries old new bs text
  some_entries [] within = ([], refl)
  some_entries (b ∷ bs) within =
      let first = some_entry b (within b (0, refl)) in
      let rest = some_entries bs (λ d h. within d (suc h.0, h.1)) in
      (first.0 ++ rest.0, (first.0, rest.0, first.1, rest.1, refl))

  some_witnessed : (bs : List Break) → ((b : Break) → Has bs b → Has (broken old new) b) → (a : Answer) × IsWitnessed old new bs a
  some_witnessed [] within = (done (codes "yes"), refl)
  some_witnessed (b ∷ bs) within = let lines = some_entries (b ∷ bs) within in (refused lines.0, (lines.0, lines.1, refl))

-- Trees, whose schemas are valid.
module _ (root : List ℕ) (files : List SourceFile) (next : List Decl → Answer → Type 0) (goes : (S : List Decl) → IsValid S → (a : Answer) × next S a) where
  by_valid : ((S : List Decl) × IsSchemaOf files S) ⊎ ((e : CheckFault) × (e ≢ fault.OutOfMemory) × IsRefusal files e) → (a : Answer) × ByFiles AsAnswer root files next a
  by_valid (inl h) = let a = goes h.0 (schema_valid files h.0 h.1) in (a.0, inr (h.0, h.1, a.1))
  by_valid (inr h) = let a = fault_answered root files h.0 h.1 h.2 in (a.0, inl (a.0, (h.0, h.2, a.1), refl))

  of_files : (a : Answer) × ByFiles AsAnswer root files next a
  of_files = by_valid (checked-or-refused files)

-- `witness OLD NEW`
module _ (old new : List ℕ) where
  some_witnesses : (files : Files) → (a : Answer) × WitnessAnswers old new files a
  some_witnesses files =
      some_over_both files old new (λ olds news. ByBoth AsAnswer old olds new news (λ A B. IsWitnessed A B (broken A B))) (λ olds news.
      of_files old olds (λ A. ByFiles AsAnswer new news (λ B. IsWitnessed A B (broken A B))) (λ A valid_old.
      of_files new news (λ B. IsWitnessed A B (broken A B)) (λ B valid_new.
      some_witnessed A B valid_old valid_new (broken A B) (λ b h. h))))

  pub means_witness : MeansSome (meaning (witness old new))
  means_witness = some_reading _ _ some_witnesses
