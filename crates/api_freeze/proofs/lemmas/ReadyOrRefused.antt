-- A valid schema is frozen as the next of some versions, or refused.
use Rattle.std.proofs.Common.{◌≡◌, ◌≢◌, ◌≤◌, ◌⊎◌, Bool, true, false, List, [], ◌∷◌, map, Option, Some, None, Ok, inl, inr, refl, sym, ap, subst, ◌∙◌, arith}
use Rattle.std.specs.Prelude.{nat_lt}
use Rattle.std.proofs.lemmas.Bool.Decides.{nat_tests}
use Rattle.aidl_base.specs.declared.limit.Limit.{Limit}
use Rattle.aidl_base.specs.declared.limit.LimitName.TheVariants as limit
use Rattle.aidl_base.specs.declared.source_file.SourceFile.{SourceFile}
use Rattle.aidl_schema.specs.declared.schema.Decl.{Decl}
use Rattle.aidl_schema.specs.Broken.{Break, broken}
use Rattle.aidl_schema.specs.Valid.{IsValid}
use Rattle.api_dump.specs.Dump.{dump_text}
use Rattle.api_versions.specs.declared.version.Version.{Version}
use Rattle.api_versions.specs.declared.whole.Torn.{Torn}
use Rattle.api_versions.specs.Whole.{first_torn}
use Rattle.compat_judge.specs.declared.judging.Broken.{Broken}
use Rattle.compat_judge.specs.Seen.{seen as break_of}
use Rattle.dump_reading.proofs.lemmas.ReadBack.{back_or_limit}
use Rattle.dump_reading.proofs.lemmas.Written.{written}
use Rattle.tree_files.proofs.lemmas.OneAnswer as parsing
use Rattle.type_check.specs.declared.fault.CheckFault.{CheckFault}
use Rattle.type_check.specs.declared.fault.CheckFault.TheVariants as check
use Rattle.type_check.specs.Checked.{IsSchemaOf}
use Rattle.type_check.specs.Refusals.{IsRefusal}
use Rattle.type_check.proofs.lemmas.OneAnswer as checking
use Rattle.type_check.proofs.lemmas.SomeAnswer.{checked-or-refused}
use Rattle.api_freeze.specs.declared.fault.FreezeFault.{FreezeFault}
use Rattle.api_freeze.specs.declared.fault.FreezeFault.TheVariants as fault
use Rattle.api_freeze.specs.Chains.{FollowsEach}
use Rattle.api_freeze.specs.Freeze.{Forbids, MayFollow, PassesLimit, Ready, RefusedAs, latest, next}
use Rattle.api_freeze.specs.steps.Following.{FollowsOne, are_same}
use Rattle.api_freeze.proofs.Chains.{each_by_latest, each_of_none}
use Rattle.api_freeze.proofs.Files.{other_dumps, refused_whole, same_dumps}

one_schema : (files : List SourceFile) (S T : List Decl) → IsSchemaOf files S → IsSchemaOf files T → S ≡ T
one_schema files = checking.one_schema files (λ ps qs h k. parsing.one-trees files ps qs h.trees k.trees) (parsing.one-refusal files) (parsing.never files)

-- rows with the numbers and the places of breaks
abbrev row : Break → Broken
row b = record { rule = b.0; place = b.1 }

seen_back : (bs : List Break) → map break_of (map row bs) ≡ bs
seen_back [] = refl
seen_back (b ∷ bs) = ap (λ rest. b ∷ rest) (seen_back bs)

module _ (S : List Decl) (valid : IsValid S) (vs : List Version) where
  abbrev pub IsReadyOrRefused : Type 0
  IsReadyOrRefused = ((files : List SourceFile) × Ready vs S files) ⊎ ((e : FreezeFault) × (e ≢ fault.OutOfMemory) × RefusedAs vs S e)

  -- each version is whole
  module _ (whole : first_torn vs ≡ None) where
    limited : MayFollow (latest vs) S → (l : Limit) → PassesLimit vs S l → IsReadyOrRefused
    limited follows l passed = inr (fault.Limit l, (λ e. cc), (whole, inr (follows, passed)))

    by_dump : MayFollow (latest vs) S → FollowsEach vs S → next vs ≤ 9999 → IsReadyOrRefused
    by_dump follows each few = by_reading (back_or_limit S valid (written S).0 (written S).1)
      where
        by_reading : IsSchemaOf (written S).0 S ⊎ ((l : Limit) × IsRefusal (written S).0 (check.Limit l)) → IsReadyOrRefused
        by_reading (inl back) = inl ((written S).0, record { whole = whole; follows = follows; each = each; few = few; dump = (written S).1; reads_back = back })
        by_reading (inr h) = limited follows h.0 (inr (few, ((written S).0, (written S).1, h.1)))

    by_number : MayFollow (latest vs) S → FollowsEach vs S → (b : Bool) → nat_lt 9999 (next vs) ≡ b → IsReadyOrRefused
    by_number follows each true e = limited follows (record { which = limit.Versions }) (inl (grind (arith, nat_tests), refl))
    by_number follows each false e = by_dump follows each (grind (arith, nat_tests))

    followed : MayFollow (latest vs) S → FollowsEach vs S → IsReadyOrRefused
    followed follows each = by_number follows each (nat_lt 9999 (next vs)) refl

    -- there is a latest version
    module _ (v : Version) (at : latest vs ≡ Some v) where
      forbidden : (e : FreezeFault) → e ≢ fault.OutOfMemory → Forbids (Some v) S e → IsReadyOrRefused
      forbidden e differs h = inr (e, differs, refused_whole vs S e whole (subst (λ (o : Option Version). Forbids o S e) (sym at) h))

      unread : (cause : CheckFault) → cause ≢ check.OutOfMemory → IsRefusal v.files cause → IsReadyOrRefused
      unread (check.Limit l) differs h = forbidden (fault.Limit l) (λ e. cc) h
      unread (check.Lex rows) differs h = forbidden (fault.Unreadable v.number v.files (check.Lex rows)) (λ e. cc) (refl, refl, h)
      unread (check.Syntax rows) differs h = forbidden (fault.Unreadable v.number v.files (check.Syntax rows)) (λ e. cc) (refl, refl, h)
      unread (check.Breaches rows) differs h = forbidden (fault.Unreadable v.number v.files (check.Breaches rows)) (λ e. cc) (refl, refl, h)
      unread check.OutOfMemory differs h = absurd (differs refl)

      -- its schema
      module _ (old : List Decl) (is : IsSchemaOf v.files old) where
        follows_one : broken old S ≡ [] → FollowsOne v S
        follows_one none = λ other its. subst (λ (D : List Decl). broken D S ≡ []) (one_schema v.files old other is its) none

        by_broken : dump_text old ≢ dump_text S → (bs : List Break) → broken old S ≡ bs → IsReadyOrRefused
        by_broken other [] none =
            followed (subst (λ (o : Option Version). MayFollow o S) (sym at) (old, is, other, none)) (each_by_latest S valid vs v (Ok tt) at (follows_one none))
        by_broken other (b ∷ bs) some = forbidden (fault.Incompatible (map row (b ∷ bs))) (λ e. cc) (old, is, other, seen_back (b ∷ bs) ∙ sym some, (λ e. cc))

        by_same : (b : Bool) → are_same (written old).0 (written S).0 ≡ b → IsReadyOrRefused
        by_same true same =
            forbidden (fault.Unchanged v.number) (λ e. cc) (refl, (old, is, same_dumps (written old).0 (written S).0 old S true (written old).1 (written S).1 (sym same) refl))
        by_same false differs =
            by_broken (other_dumps (written old).0 (written S).0 old S false (written old).1 (written S).1 (sym differs) refl) (broken old S) refl

      by_schema : ((schema : List Decl) × IsSchemaOf v.files schema) ⊎ ((cause : CheckFault) × (cause ≢ check.OutOfMemory) × IsRefusal v.files cause) → IsReadyOrRefused
      by_schema (inl h) = by_same h.0 h.1 (are_same (written h.0).0 (written S).0) refl
      by_schema (inr h) = unread h.0 h.1 h.2

    by_latest : (o : Option Version) → latest vs ≡ o → IsReadyOrRefused
    by_latest None none = followed (subst (λ (o : Option Version). MayFollow o S) (sym none) tt) (each_of_none S valid vs none)
    by_latest (Some v) at = by_schema v at (checked-or-refused v.files)

  by_whole : (o : Option Torn) → first_torn vs ≡ o → IsReadyOrRefused
  by_whole (Some torn) is = inr (fault.Torn torn, (λ e. cc), is)
  by_whole None whole = by_latest whole (latest vs) refl

  pub ready_or_refused : IsReadyOrRefused
  ready_or_refused = by_whole (first_torn vs) refl
