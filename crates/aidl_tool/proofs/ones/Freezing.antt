-- A schema is frozen in one way or refused for one reason, and never both.
use Rattle.std.proofs.Common.{◌≡◌, ◌≢◌, ℕ, List, [], ◌∷◌, ◌++◌, map, Option, Some, None, Ok, Err, inl, inr, refl, sym, ap, ◌∙◌, subst, arith}
use Rattle.std.specs.Prelude.{◌⊎◌, Result}
use Rattle.aidl_base.specs.declared.limit.Limit.{Limit}
use Rattle.aidl_base.specs.declared.source_file.SourceFile.{SourceFile}
use Rattle.aidl_outside.specs.Writes.{Write}
use Rattle.aidl_schema.specs.declared.schema.Decl.{Decl}
use Rattle.aidl_schema.specs.Broken.{broken}
use Rattle.api_dump.specs.Dump.{File, dump_text, seen}
use Rattle.api_freeze.specs.Freeze.{Forbids, IsDump, MayFollow, PassesLimit, Ready, RefusedAs, hash_digits, latest, next, version_writes}
use Rattle.api_freeze.specs.declared.fault.FreezeFault.{FreezeFault}
use Rattle.api_freeze.specs.declared.fault.FreezeFault.TheVariants as fault
use Rattle.api_versions.specs.declared.fault.VersionsFault.{VersionsFault}
use Rattle.api_versions.specs.declared.whole.Torn.{Torn}
use Rattle.api_versions.specs.declared.version.Version.{Version}
use Rattle.api_versions.specs.Versions.{version_folder}
use Rattle.api_versions.specs.Whole.{first_torn}
use Rattle.compat_judge.specs.declared.judging.Broken.{Broken}
use Rattle.compat_judge.specs.Seen.{seen as break_of}
use Rattle.std.specs.Fmt.{decimal}
use Rattle.std.specs.List.{flat_map}
use Rattle.std.specs.Prelude.{codes}
use Rattle.tool_frame.specs.Answer.{Answer, after_text, line}
use Rattle.tree_commands.specs.Faults.{refused}
use Rattle.tree_commands.specs.Judged.{break_line}
use Rattle.tree_commands.proofs.lemmas.OneAnswer.{never_both, one_fault_answer, one_refusal, one_schema}
use Rattle.tree_commands.proofs.lemmas.OneByTree.{same_files}
use Rattle.type_check.specs.declared.fault.CheckFault.{CheckFault}
use Rattle.type_check.specs.declared.fault.CheckFault.TheVariants as check
use Rattle.type_check.specs.Checked.{IsSchemaOf}
use Rattle.type_check.specs.Refusals.{IsRefusal}
use Rattle.aidl_tool.proofs.ones.Unread.{one_unread}
use Rattle.version_commands.specs.Frozen.{Freezes, FreezesNext, IsUnfrozen, RefusesNext, frozen}

-- The dump of a schema is one list of files.

one_dumped : (S : List Decl) (fs gs : List SourceFile) → IsDump S fs → IsDump S gs → fs ≡ gs
one_dumped S fs gs d e = same_files seen (λ f g e. (ap (λ (p : File). p.0) e, ap (λ (p : File). p.1) e)) fs gs (d ∙ sym e)

-- What is printed of one refusal is one answer.

one_unfrozen : (api : List ℕ) (e : FreezeFault) (a b : Answer) → IsUnfrozen api e a → IsUnfrozen api e b → a ≡ b
one_unfrozen api (fault.Versions e) a b h k = one_unread e a b h k
one_unfrozen api (fault.Torn torn) a b h k = h ∙ sym k
one_unfrozen api (fault.Unreadable version files cause) a b h k =
    h.2 ∙ ap (after_text (line (codes "unreadable " ++ decimal version))) (one_fault_answer (version_folder api version) files h.0 k.0 h.1 k.1) ∙ sym k.2
one_unfrozen api (fault.Unchanged version) a b h k = h ∙ sym k
one_unfrozen api (fault.Incompatible rows) a b h k = h ∙ sym k
one_unfrozen api (fault.Limit limit) a b h k = h ∙ sym k
one_unfrozen api (fault.Write e) a b h k = absurd h
one_unfrozen api fault.OutOfMemory a b h k = absurd h

-- an answer of equal refusals
same_unfrozen : (api : List ℕ) (e f : FreezeFault) (a b : Answer) → e ≡ f → IsUnfrozen api e a → IsUnfrozen api f b → a ≡ b
same_unfrozen api e f a b same h k = one_unfrozen api f a b (subst (λ (x : FreezeFault). IsUnfrozen api x a) same h) k

-- By the latest version.
module _ (api : List ℕ) (v : Version) (S : List Decl) where
  -- what refuses its files, as the refusal to freeze
  abbrev as_fault : CheckFault → FreezeFault
  as_fault (check.Limit l) = fault.Limit l
  as_fault (check.Lex rows) = fault.Unreadable v.number v.files (check.Lex rows)
  as_fault (check.Syntax rows) = fault.Unreadable v.number v.files (check.Syntax rows)
  as_fault (check.Breaches rows) = fault.Unreadable v.number v.files (check.Breaches rows)
  as_fault check.OutOfMemory = fault.OutOfMemory

  -- its files are refused
  abbrev IsRefused : FreezeFault → Type 0
  IsRefused e = (cause : CheckFault) × (cause ≢ check.OutOfMemory) × IsRefusal v.files cause × (e ≡ as_fault cause)

  -- its schema isn't to be followed
  abbrev IsFollowed : List Decl → FreezeFault → Type 0
  IsFollowed old e = (e ≡ fault.Unchanged v.number × (dump_text old ≡ dump_text S))
      ⊎ ((rows : List Broken) × (e ≡ fault.Incompatible rows) × (dump_text old ≢ dump_text S) × (map break_of rows ≡ broken old S) × (rows ≢ []))

  abbrev IsForbidden : FreezeFault → Type 0
  IsForbidden e = IsRefused e ⊎ ((old : List Decl) × IsSchemaOf v.files old × IsFollowed old e)

  forbidden : (e : FreezeFault) (a : Answer) → Forbids (Some v) S e → IsUnfrozen api e a → IsForbidden e
  forbidden (fault.Limit l) a h k = inl (check.Limit l, (λ e. cc), h, refl)
  forbidden (fault.Unreadable version files (check.Limit l)) a h k = absurd h
  forbidden (fault.Unreadable version files check.OutOfMemory) a h k = absurd h
  forbidden (fault.Unreadable version files (check.Lex rows)) a (n, fs, h) k =
      inl (check.Lex rows, (λ e. cc), h, ap (λ m. fault.Unreadable m files (check.Lex rows)) n ∙ ap (λ gs. fault.Unreadable v.number gs (check.Lex rows)) fs)
  forbidden (fault.Unreadable version files (check.Syntax rows)) a (n, fs, h) k =
      inl (check.Syntax rows, (λ e. cc), h, ap (λ m. fault.Unreadable m files (check.Syntax rows)) n ∙ ap (λ gs. fault.Unreadable v.number gs (check.Syntax rows)) fs)
  forbidden (fault.Unreadable version files (check.Breaches rows)) a (n, fs, h) k =
      inl (check.Breaches rows, (λ e. cc), h, ap (λ m. fault.Unreadable m files (check.Breaches rows)) n ∙ ap (λ gs. fault.Unreadable v.number gs (check.Breaches rows)) fs)
  forbidden (fault.Unchanged version) a (n, (old, is, same)) k = inr (old, is, inl (ap fault.Unchanged n, same))
  forbidden (fault.Incompatible rows) a (old, is, other, broken, some) k = inr (old, is, inr (rows, refl, other, broken, some))
  forbidden fault.OutOfMemory a h k = absurd k
  forbidden (fault.Versions e) a h k = absurd h
  forbidden (fault.Torn torn) a h k = absurd h
  forbidden (fault.Write e) a h k = absurd h

  -- one schema has one reason not to be followed
  followed_one : (old : List Decl) (e f : FreezeFault) (a b : Answer) → IsFollowed old e → IsFollowed old f → IsUnfrozen api e a → IsUnfrozen api f b → a ≡ b
  followed_one old e f a b (inl p) (inl q) h k = same_unfrozen api e f a b (p.0 ∙ sym q.0) h k
  followed_one old e f a b (inl p) (inr q) h k = absurd (q.2 p.1)
  followed_one old e f a b (inr p) (inl q) h k = absurd (p.2 q.1)
  followed_one old e f a b (inr p) (inr q) h k =
      let first : a ≡ refused (flat_map break_line (map break_of p.0)) = subst (λ (x : FreezeFault). IsUnfrozen api x a) p.1 h in
      let second : b ≡ refused (flat_map break_line (map break_of q.0)) = subst (λ (x : FreezeFault). IsUnfrozen api x b) q.1 k in
      first ∙ ap (λ rows. refused (flat_map break_line rows)) (p.3 ∙ sym q.3) ∙ sym second

  forbidden_one : (e f : FreezeFault) (a b : Answer) → IsForbidden e → IsForbidden f → IsUnfrozen api e a → IsUnfrozen api f b → a ≡ b
  forbidden_one e f a b (inl p) (inl q) h k =
      same_unfrozen api e f a b (p.3 ∙ ap as_fault (one_refusal v.files p.0 q.0 p.1 q.1 p.2 q.2) ∙ sym q.3) h k
  forbidden_one e f a b (inl p) (inr q) h k = absurd (never_both v.files q.0 p.0 p.1 q.1 p.2)
  forbidden_one e f a b (inr p) (inl q) h k = absurd (never_both v.files p.0 q.0 q.1 p.1 q.2)
  forbidden_one e f a b (inr p) (inr q) h k =
      followed_one q.0 e f a b (subst (λ (old : List Decl). IsFollowed old e) (one_schema v.files p.0 q.0 p.1 q.1) p.2) q.2 h k

  no_rows : (rows : List Broken) → map break_of rows ≡ [] → rows ≡ []
  no_rows [] e = refl
  no_rows (r ∷ rows) e = absurd (cc)

  -- what may be followed isn't forbidden
  never_followed : (old : List Decl) (e : FreezeFault) → dump_text old ≢ dump_text S → broken old S ≡ [] → IsFollowed old e → ⊥
  never_followed old e other none (inl p) = other p.1
  never_followed old e other none (inr p) = p.4 (no_rows p.0 (p.3 ∙ none))

  never_forbidden : (e : FreezeFault) → MayFollow (Some v) S → IsForbidden e → ⊥
  never_forbidden e (old, is, other, none) (inl p) = never_both v.files old p.0 p.1 is p.2
  never_forbidden e (old, is, other, none) (inr p) =
      never_followed old e other none (subst (λ (D : List Decl). IsFollowed D e) (one_schema v.files p.0 old p.1 is) p.2)

forbids_one : (api : List ℕ) (o : Option Version) (S : List Decl) (e f : FreezeFault) (a b : Answer)
    → Forbids o S e → Forbids o S f → IsUnfrozen api e a → IsUnfrozen api f b → a ≡ b
forbids_one api None S e f a b p q h k = same_unfrozen api e f a b (p ∙ sym q) h k
forbids_one api (Some v) S e f a b p q h k = forbidden_one api v S e f a b (forbidden api v S e a p h) (forbidden api v S f b q k) h k

never_forbids : (api : List ℕ) (o : Option Version) (S : List Decl) (e : FreezeFault) (a : Answer) → MayFollow o S → Forbids o S e → IsUnfrozen api e a → ⊥
never_forbids api None S e a may p h = subst (λ (x : FreezeFault). IsUnfrozen api x a) p h
never_forbids api (Some v) S e a may p h = never_forbidden api v S e may (forbidden api v S e a p h)

-- The steps in their order: a version isn't whole; the latest one forbids it; a limit is passed.
module _ (api : List ℕ) (vs : List Version) (S : List Decl) where
  abbrev IsLate : FreezeFault → Type 0
  IsLate e = MayFollow (latest vs) S × ((l : Limit) × (e ≡ fault.Limit l) × PassesLimit vs S l)

  abbrev IsStep : FreezeFault → Type 0
  IsStep e = ((torn : Torn) × (first_torn vs ≡ Some torn) × (e ≡ fault.Torn torn)) ⊎ ((first_torn vs ≡ None) × (Forbids (latest vs) S e ⊎ IsLate e))

  step_of : (e : FreezeFault) (a : Answer) → RefusedAs vs S e → IsUnfrozen api e a → IsStep e
  step_of (fault.Torn torn) a h k = inl (torn, h, refl)
  step_of (fault.Unreadable version files cause) a h k = inr (h.0, inl h.1)
  step_of (fault.Unchanged version) a h k = inr (h.0, inl h.1)
  step_of (fault.Incompatible rows) a h k = inr (h.0, inl h.1)
  step_of (fault.Limit l) a (whole, inl h) k = inr (whole, inl h)
  step_of (fault.Limit l) a (whole, inr h) k = inr (whole, inr (h.0, (l, refl, h.1)))
  step_of (fault.Versions e) a h k = absurd h
  step_of (fault.Write e) a h k = absurd h
  step_of fault.OutOfMemory a h k = absurd k

  limit_is : (l m : Limit) → check.Limit l ≡ check.Limit m → l ≡ m
  limit_is l m e = cc

  no_memory : (l : Limit) → check.Limit l ≢ check.OutOfMemory
  no_memory l e = cc

  one_limit : (l m : Limit) → PassesLimit vs S l → PassesLimit vs S m → l ≡ m
  one_limit l m (inl p) (inl q) = p.1 ∙ sym q.1
  one_limit l m (inl p) (inr q) = absurd (omega (arith, p.0, q.0))
  one_limit l m (inr p) (inl q) = absurd (omega (arith, p.0, q.0))
  one_limit l m (inr (few, (fs, d, r))) (inr (low, (gs, e, s))) =
      let files : fs ≡ gs = one_dumped S fs gs d e in
      limit_is l m (one_refusal gs (check.Limit l) (check.Limit m) (no_memory l) (no_memory m) (subst (λ (xs : List SourceFile). IsRefusal xs (check.Limit l)) files r) s)

  late_one : (e f : FreezeFault) (a b : Answer) → Forbids (latest vs) S e ⊎ IsLate e → Forbids (latest vs) S f ⊎ IsLate f → IsUnfrozen api e a → IsUnfrozen api f b → a ≡ b
  late_one e f a b (inl p) (inl q) h k = forbids_one api (latest vs) S e f a b p q h k
  late_one e f a b (inl p) (inr q) h k = absurd (never_forbids api (latest vs) S e a q.0 p h)
  late_one e f a b (inr p) (inl q) h k = absurd (never_forbids api (latest vs) S f b p.0 q k)
  late_one e f a b (inr p) (inr q) h k = same_unfrozen api e f a b (p.1.1 ∙ ap fault.Limit (one_limit p.1.0 q.1.0 p.1.2 q.1.2) ∙ sym q.1.1) h k

  torn_is : (t u : Torn) → first_torn vs ≡ Some t → first_torn vs ≡ Some u → t ≡ u
  torn_is t u h k = cc

  torn_or_whole : (t : Torn) → first_torn vs ≡ Some t → first_torn vs ≡ None → ⊥
  torn_or_whole t h k = cc

  step_one : (e f : FreezeFault) (a b : Answer) → IsStep e → IsStep f → IsUnfrozen api e a → IsUnfrozen api f b → a ≡ b
  step_one e f a b (inl p) (inl q) h k = same_unfrozen api e f a b (p.2 ∙ ap fault.Torn (torn_is p.0 q.0 p.1 q.1) ∙ sym q.2) h k
  step_one e f a b (inl p) (inr q) h k = absurd (torn_or_whole p.0 p.1 q.0)
  step_one e f a b (inr p) (inl q) h k = absurd (torn_or_whole q.0 q.1 p.0)
  step_one e f a b (inr p) (inr q) h k = late_one e f a b p.1 q.1 h k

  refused_one : (a b : Answer) → RefusesNext api vs S a → RefusesNext api vs S b → a ≡ b
  refused_one a b (e, p, h) (f, q, k) = step_one e f a b (step_of e a p h) (step_of f b q k) h k

  never_passes : (files : List SourceFile) (l : Limit) → Ready vs S files → PassesLimit vs S l → ⊥
  never_passes files l ready (inl p) = let few = ready.few in omega (arith, p.0, few)
  never_passes files l ready (inr (few, (gs, d, r))) =
      never_both files S (check.Limit l) (no_memory l) ready.reads_back (subst (λ (xs : List SourceFile). IsRefusal xs (check.Limit l)) (one_dumped S gs files d ready.dump) r)

  never_stopped : (files : List SourceFile) (e : FreezeFault) (a : Answer) → Ready vs S files → IsStep e → IsUnfrozen api e a → ⊥
  never_stopped files e a ready (inl p) h = torn_or_whole p.0 p.1 ready.whole
  never_stopped files e a ready (inr (whole, inl p)) h = never_forbids api (latest vs) S e a ready.follows p h
  never_stopped files e a ready (inr (whole, inr p)) h = never_passes files p.1.0 ready p.1.2

  never_refused : (v : List Write) (a b : Answer) → FreezesNext api vs S v a → RefusesNext api vs S b → ⊥
  never_refused v a b (files, ready, w, t) (e, p, h) = never_stopped files e b ready (step_of e b p h) h

  frozen_one : (v w : List Write) (a b : Answer) → FreezesNext api vs S v a → FreezesNext api vs S w b → (v ≡ w) × (a ≡ b)
  frozen_one v w a b (fs, p, e, h) (gs, q, d, k) =
      let files : fs ≡ gs = one_dumped S fs gs p.dump q.dump in
      (e ∙ ap (version_writes api (next vs)) files ∙ sym d, h ∙ ap (λ xs. frozen (next vs) (hash_digits xs (next vs))) files ∙ sym k)

pub freezes_one : (api : List ℕ) (versions : Result (List Version) VersionsFault) (S : List Decl) (v w : List Write) (a b : Answer)
    → Freezes api versions S v a → Freezes api versions S w b → (v ≡ w) × (a ≡ b)
freezes_one api (Ok vs) S v w a b (inl p) (inl q) = frozen_one api vs S v w a b p q
freezes_one api (Ok vs) S v w a b (inl p) (inr q) = absurd (never_refused api vs S v a b p q.1)
freezes_one api (Ok vs) S v w a b (inr p) (inl q) = absurd (never_refused api vs S w b a q p.1)
freezes_one api (Ok vs) S v w a b (inr p) (inr q) = (p.0 ∙ sym q.0, refused_one api vs S a b p.1 q.1)
freezes_one api (Err e) S v w a b p q = (p.0 ∙ sym q.0, one_unread e a b p.1 q.1)
