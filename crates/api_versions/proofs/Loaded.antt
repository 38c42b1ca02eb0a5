-- What is read of a file, up to the limit.
use Rattle.std.proofs.Common.{◌≡◌, ℕ, nat_lt, List, length, Option, Some, None, Vec, Global, refl, ap, ◌∙◌, Result, Ok, Err, option_map}
use Rattle.aidl_base.specs.declared.limit.LimitName.TheVariants as limit
use Rattle.aidl_outside.specs.Files.{IsRead}
use Rattle.aidl_outside.proofs.lemmas.Fronts.{same_front}
use Rattle.api_versions.specs.declared.fault.VersionsFault.{VersionsFault}
use Rattle.api_versions.specs.declared.fault.VersionsFault.TheVariants as fault
use Rattle.api_versions.specs.Answers.{Gives, Refuses}
use Rattle.api_versions.specs.Versions.{passed, within}

-- what is read of a file is the file, up to the limit
pub within_read : (o : Option (List ℕ)) (r : Option (Vec ℕ Global)) → IsRead 262144 o r → within (option_map {U = List ℕ} (λ bytes. bytes.items) r) ≡ within o
within_read None None h = refl
within_read None (Some v) h = absurd h
within_read (Some file) None h = absurd h
within_read (Some file) (Some v) h =
    ap (λ f. within (Some f)) h
    ∙ same_front 262144 file {A = Result (Option (List ℕ)) VersionsFault} (Err (passed limit.FileBytes)) (λ f. Ok (Some f)) (nat_lt 262144 (length file)) refl

-- where one answer is another, its refusals are those of the other
pub refuses_as : {A B : Type 0} (d : Result A VersionsFault) (t : Result B VersionsFault) (e : VersionsFault) → (d ≡ Err e → t ≡ Err e) → Refuses d e → Refuses t e
refuses_as d t (fault.BadVersions missing) f h = f h
refuses_as d t (fault.Limit l) f h = f h
refuses_as d t fault.ReadFault f h = tt
refuses_as d t fault.OutOfMemory f h = tt

-- an answer that is the defined one
pub refuses_same : {A : Type 0} (d : Result A VersionsFault) (e : VersionsFault) → d ≡ Err e → Refuses d e
refuses_same d (fault.BadVersions missing) h = h
refuses_same d (fault.Limit l) h = h
refuses_same d fault.ReadFault h = tt
refuses_same d fault.OutOfMemory h = tt

pub gives_same : {A : Type 0} (d r : Result A VersionsFault) → d ≡ r → Gives d r
gives_same d (Ok x) h = h
gives_same d (Err e) h = refuses_same d e h
