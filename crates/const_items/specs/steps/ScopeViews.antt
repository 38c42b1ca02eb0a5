-- How a declaration in which names are looked up is seen.
use Rattle.std.specs.Prelude.{ℕ, List, refl}
use Rattle.std.specs.Coded.{Coded, code_by, coded×, coded_list, coded_ℕ}
use Rattle.aidl_syntax.specs.declared.tree.ParsedFile.{ParsedFile}

-- a declaration by the numbers of its file and its own, with the files
pub record InFiles : Type 0 where
  pub files : List ParsedFile
  pub file : ℕ
  pub number : ℕ

abbrev pub scope_code : Coded ParsedFile → Coded InFiles
scope_code file =
    code_by (List ParsedFile × (ℕ × ℕ)) (coded× (coded_list file) (coded× coded_ℕ coded_ℕ))
    (λ s. (s.files, (s.file, s.number))) (λ q. record { files = q.0; file = q.1.0; number = q.1.1 }) (λ _. refl)
