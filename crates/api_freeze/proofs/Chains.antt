-- Why a schema that follows the last of a chain of versions follows each of them.
use Rattle.std.proofs.Common.{◌≡◌, ℕ, List, [], ◌∷◌, ◌++◌, Option, Some, None, Result, Ok, Err, refl, subst, ◌∙◌}
use Rattle.std.specs.List.{All, AllZip}
use Rattle.std.specs.Result.{IfOk, OnOk}
use Rattle.std.proofs.lemmas.List.Elements.{All-nil, All-cons, All-head}
use Rattle.aidl_outside.specs.Faults.{StoreFaults}
use Rattle.aidl_outside.specs.Files.{Files}
use Rattle.aidl_outside.specs.Told.{Tells}
use Rattle.aidl_schema.specs.declared.schema.Decl.{Decl}
use Rattle.aidl_schema.specs.Broken.{broken}
use Rattle.aidl_schema.specs.Valid.{IsValid}
use Rattle.aidl_schema.proofs.lemmas.BrokenChain.{chain}
use Rattle.aidl_schema.proofs.lemmas.BrokenSelf.{distinct_names}
use Rattle.aidl_schema.proofs.lemmas.Valids.{all_hold, decls_apart}
use Rattle.type_check.specs.Checked.{IsSchemaOf}
use Rattle.type_check.proofs.lemmas.ValidOf.{schema_valid}
use Rattle.api_freeze.specs.declared.fault.FreezeFault.{FreezeFault}
use Rattle.api_versions.specs.declared.fault.VersionsFault.{VersionsFault}
use Rattle.api_versions.specs.declared.version.Version.{Version}
use Rattle.api_freeze.specs.declared.freezing.Frozen.{Frozen}
use Rattle.api_freeze.specs.Chains.{FollowsEach, FollowsEachAt, IsChain, IsItsSchema}
use Rattle.api_freeze.specs.Freeze.{FreezesAt, latest}
use Rattle.api_freeze.specs.steps.Following.{Compares, FollowsOne}

-- what follows one schema of a version follows each, since its files have one
pub follows_one : (v : Version) (old new : List Decl) (r : Result (Unit {0}) FreezeFault)
    → ((first second : List Decl) → IsSchemaOf v.files first → IsSchemaOf v.files second → first ≡ second)
    → IsSchemaOf v.files old → Compares v.number old new r → OnOk r (FollowsOne v new)
follows_one v old new (Ok x) one is compared = λ other its. subst (λ (S : List Decl). broken S new ≡ []) (one old other is its) compared.1
follows_one v old new (Err e) one is compared = tt

module _ (new : List Decl) (valid : IsValid new) where
  abbrev IsFollowed : List Decl → Type 0
  IsFollowed S = broken S new ≡ []

  along : (first next : List Decl) → IsValid next → broken first next ≡ [] → IsFollowed next → IsFollowed first
  along first next is step rest = chain first next new (all_hold next is) (distinct_names new (decls_apart new valid)) step rest

  follows_each : (vs : List Version) → ((v : Version) → latest vs ≡ Some v → FollowsOne v new)
      → (schemas : List (List Decl)) → AllZip IsItsSchema vs schemas → IsChain schemas → All IsFollowed schemas
  follows_each [] last [] theirs links = All-nil IsFollowed
  follows_each [] last (S ∷ rest) theirs links = absurd theirs
  follows_each (v ∷ vs) last [] theirs links = absurd theirs
  follows_each (v ∷ []) last (S ∷ []) theirs links = All-cons IsFollowed S [] (last v refl S theirs.0) (All-nil IsFollowed)
  follows_each (v ∷ []) last (S ∷ T ∷ rest) theirs links = absurd theirs.1
  follows_each (v ∷ w ∷ vs) last (S ∷ []) theirs links = absurd theirs.1
  follows_each (v ∷ w ∷ vs) last (S ∷ T ∷ rest) theirs links =
      let behind = follows_each (w ∷ vs) last (T ∷ rest) theirs.1 links.1 in
      All-cons IsFollowed S (T ∷ rest) (along S T (schema_valid w.files T theirs.1.0) links.0 (All-head IsFollowed T rest behind)) behind

  -- the latest of some versions is the only one of that place
  latest_behind : (earlier : List Version) (v : Version) (run : List Version) → latest (earlier ++ v ∷ run) ≡ latest (v ∷ run)
  latest_behind [] v run = refl
  latest_behind (e ∷ []) v run = refl
  latest_behind (e ∷ f ∷ earlier) v run = latest_behind (f ∷ earlier) v run

  latest_of : (vs earlier run : List Version) → earlier ++ run ≡ vs → (w : Version) → latest run ≡ Some w → latest vs ≡ Some w
  latest_of vs earlier [] split w at = absurd (cc)
  latest_of vs earlier (v ∷ run) split w at = subst (λ us. latest us ≡ Some w) split (latest_behind earlier v run ∙ at)

  pub each_by_latest : (vs : List Version) (v : Version) (r : Result (Unit {0}) FreezeFault) → latest vs ≡ Some v → OnOk r (FollowsOne v new)
      → OnOk r (FollowsEach vs new)
  each_by_latest vs v (Ok x) is one = λ earlier run split.
      follows_each run (λ w on. let at : latest vs ≡ Some w = latest_of vs earlier run split w on in let same : v ≡ w = cc in subst (λ (u : Version). FollowsOne u new) same one)
  each_by_latest vs v (Err e) is one = tt

  -- where there is none, no run has a schema
  pub each_of_none : (vs : List Version) → latest vs ≡ None → FollowsEach vs new
  each_of_none vs none = λ earlier run split.
      follows_each run (λ w on. let at : latest vs ≡ Some w = latest_of vs earlier run split w on in absurd (cc))

-- what is frozen follows each of the versions that are told
follows_at : (api : List ℕ) (S : List Decl) (before now : Option Files) (faults : StoreFaults) (d : Result (List Version) VersionsFault) (r : Result Frozen FreezeFault)
    → FreezesAt api d S before now faults r → IfOk r (λ x. FollowsEachAt d S)
follows_at api S before now faults (Ok vs) (Ok x) (files, ready, version, hash, wrote) = ready.each
follows_at api S before now faults (Err e) (Ok x) h = h
follows_at api S before now faults d (Err e) h = tt

pub follows_told : (api : List ℕ) (kept : Option Files) (defined : Files → Result (List Version) VersionsFault) (S : List Decl) (now : Option Files) (faults : StoreFaults)
    (r : Result Frozen FreezeFault) → Tells kept (λ files. FreezesAt api (defined files) S (Some files) now faults r)
    → Tells kept (λ files. IfOk r (λ x. FollowsEachAt (defined files) S))
follows_told api None defined S now faults r h = tt
follows_told api (Some files) defined S now faults r h = follows_at api S (Some files) now faults (defined files) r h
