-- What `ask` answers, step by step.
use Rattle.std.proofs.Common.{◌≡◌, ℕ, List, Ok, Err, refl, sym, subst, inl, inr}
use Rattle.std.specs.Prelude.{Result}
use Rattle.aidl_base.specs.declared.limit.LimitName.TheVariants.{TextBytes}
use Rattle.aidl_base.specs.declared.source_file.SourceFile.{SourceFile}
use Rattle.aidl_outside.specs.Files.{Files}
use Rattle.aidl_schema.specs.declared.schema.Decl.{Decl}
use Rattle.ask_command.specs.Asked.{AskAnswers, AsksFile, AsksHash, AsksOver, AsksParcel, AsksVersion, Words}
use Rattle.tree_commands.specs.InTree.{BySchema, Checked}
use Rattle.ask_command.specs.steps.Asking.{AreAsked, IsUnasked, all_of}
use Rattle.tree_commands.proofs.lemmas.Reading.{then_found, then_refused}
use Rattle.api_versions.specs.declared.version.Version.{Version}
use Rattle.api_versions.specs.Versions.{versions_at}
use Rattle.ask_command.specs.Versions.{version_found, whole_found}
use Rattle.parcel_commands.specs.Refusals.{parcel_of}
use Rattle.tool_frame.specs.declared.printed.Early.{Early}
use Rattle.tool_frame.specs.declared.printed.Early.TheVariants.{Answered, OutOfMemory}
use Rattle.tool_frame.specs.declared.printed.Printed.{Printed}
use Rattle.tool_frame.specs.Answer.{Answer, Found, Then}
use Rattle.tool_frame.specs.Refusals.{file_at, there}
use Rattle.tool_frame.specs.Results.{Gives, GivesOne, printed}
use Rattle.tool_frame.proofs.lemmas.EarlyEnds.{then_goes}
use Rattle.tree_commands.specs.Faults.{IsFaultAnswer}
use Rattle.tree_commands.specs.Results.{EndsBy}
use Rattle.type_check.specs.Checked.{IsSchemaOf}

module _ (w : Words) (path : List ℕ) (files : Files) (a : Answer) where
  abbrev Over : Found (List ℕ) → Answer → Type 0
  Over file = AsksOver w file (versions_at files w.api)

  pub no_file : there path (file_at TextBytes files path) ≡ Err a → AskAnswers w path files a
  no_file gone = then_refused (there path (file_at TextBytes files path)) Over a gone

  module _ (held : Found (List ℕ)) (is_there : there path (file_at TextBytes files path) ≡ Ok held) where
    over : AsksOver w held (versions_at files w.api) a → AskAnswers w path files a
    over h = then_found (there path (file_at TextBytes files path)) held Over a is_there h

    pub no_versions : IsUnasked w.api files a → AskAnswers w path files a
    no_versions (limit, same, is) = over (subst (λ vs. AsksOver w held vs a) (sym same) is)

    pub answers : (given : Result (List Version) ℕ) → AreAsked w.api files given → AsksFile w held (all_of given) a → AskAnswers w path files a
    answers (Ok vs) same h = over (subst (λ given. AsksOver w held given a) (sym same) h)
    answers (Err missing) same h = over (subst (λ given. AsksOver w held given a) (sym same) h)

-- by the schema of files
pub checked_ends : (root : List ℕ) (files : List SourceFile) (next : BySchema) (early : Early) → EndsBy (IsFaultAnswer root files) early → GivesOne (Err early) (Checked root files next)
checked_ends root files next (Answered p) h = inl (printed p, h, refl)
checked_ends root files next OutOfMemory h = tt

pub checked_goes : (root : List ℕ) (files : List SourceFile) (given : Result Printed Early) (S : List Decl) (answer : List Decl → Answer) → IsSchemaOf files S → Gives given (answer S)
    → GivesOne given (Checked root files (λ T a. a ≡ answer T))
checked_goes root files (Ok p) S answer is h = inr (S, is, h)
checked_goes root files (Err (Answered p)) S answer is h = inr (S, is, h)
checked_goes root files (Err OutOfMemory) S answer is h = tt

-- what is given once the parcel and the versions are found
module _ (w : Words) (file : Found (List ℕ)) (versions : Found (List Version)) (r : Result Printed Early) (parcel : List ℕ) (read : parcel_of file ≡ Ok parcel) where
  pub by_parcel : GivesOne r (AsksParcel w versions parcel) → GivesOne r (AsksFile w file versions)
  by_parcel h = then_goes r (parcel_of file) parcel (AsksParcel w versions) read h

  pub by_versions : (vs : List Version) → versions ≡ Ok vs → GivesOne r (AsksVersion w parcel vs) → GivesOne r (AsksFile w file versions)
  by_versions vs all h = by_parcel (then_goes r versions vs (AsksVersion w parcel) all h)

-- and once the version and its hash are found
module _ (w : Words) (parcel : List ℕ) (versions : List Version) (r : Result Printed Early) (v : Version) (found : version_found w.version versions ≡ Ok v) where
  pub by_version : GivesOne r (Then (whole_found v) (AsksHash w parcel v)) → GivesOne r (AsksVersion w parcel versions)
  by_version h = then_goes r (version_found w.version versions) v (λ v. Then (whole_found v) (AsksHash w parcel v)) found h

  pub by_hash : (hash : List ℕ) → whole_found v ≡ Ok hash → GivesOne r (AsksHash w parcel v hash) → GivesOne r (AsksVersion w parcel versions)
  by_hash hash whole h = by_version (then_goes r (whole_found v) hash (AsksHash w parcel v) whole h)
