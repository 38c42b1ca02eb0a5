-- How a declaration of which a schema is made is seen.
use Rattle.std.specs.Prelude.{ℕ, List, map, refl}
use Rattle.std.specs.Coded.{Coded, code_by, coded×, coded_list, coded_ℕ}
use Rattle.aidl_syntax.specs.declared.tree.ParsedFile.{ParsedFile}
use Rattle.aidl_syntax.specs.Sources.{Source, source_of}
use Rattle.const_eval.specs.declared.outcome.Outcome.{Outcome}
use Rattle.const_eval.specs.Outcomes.{outcome_at}
use Rattle.tree_schema.specs.Values.{Outcomes}

-- a declaration by the numbers of its file and its own, with the files of its tree and the outcomes of their items
pub record TreeScope : Type 0 where
  pub files : List ParsedFile
  pub outcomes : List Outcome
  pub file : ℕ
  pub number : ℕ

abbrev pub scope_code : Coded ParsedFile → Coded Outcome → Coded TreeScope
scope_code file outcome =
    code_by ((List ParsedFile × List Outcome) × (ℕ × ℕ))
    (coded× (coded× (coded_list file) (coded_list outcome)) (coded× coded_ℕ coded_ℕ))
    (λ s. ((s.files, s.outcomes), (s.file, s.number)))
    (λ q. record { files = q.0.0; outcomes = q.0.1; file = q.1.0; number = q.1.1 }) (λ _. refl)

abbrev pub files_of : TreeScope → List Source
files_of s = map source_of s.files

abbrev pub outcomes_of : TreeScope → Outcomes
outcomes_of s = outcome_at s.outcomes
