-- Writes one after another, and how `make` ends by them and by what was then done.
use Rattle.std.proofs.Common.{◌≡◌, ℕ, true, zero, suc, ◌+◌, ◌<◌, ◌≤◌, List, [], ◌∷◌, ◌++◌, length, get_or, drop, drop-cons, add-one, map, string_bytes, Option, Some, None, Result, Ok, Err, refl, sym, ap, subst, ◌∙◌, arith, inl, inr, append_assoc, append-nil}
use Rattle.std.specs.FinMap.{insert}
use Rattle.aidl_base.specs.declared.source_file.SourceFile.{SourceFile}
use Rattle.aidl_outside.specs.declared.store.StoreFault.{StoreFault}
use Rattle.aidl_outside.specs.declared.store.StoreFault.TheVariants.{Failed, OutOfMemory}
use Rattle.aidl_outside.specs.Asks.{AsksNothing}
use Rattle.aidl_outside.specs.Causes.{Rose}
use Rattle.aidl_outside.specs.Faults.{FailedIn, StoreCall, StoreFaults, WhereStoreFailed, writing}
use Rattle.aidl_outside.specs.Files.{Files}
use Rattle.aidl_outside.specs.Writes.{ChangesOnly, Sets, Write, Writes, written}
use Rattle.aidl_schema.specs.declared.schema.Decl.{Decl}
use Rattle.make_command.specs.declared.command.Laid.{Laid}
use Rattle.make_command.specs.Making.{MakeTakes, file_write, make_writes, new_root, old_root, make_course}
use Rattle.run_command.specs.Running.{Takes}
use Rattle.make_command.specs.steps.Laying.{IsLaid, TakesLaid, laid_writes}
use Rattle.run_command.specs.steps.Running.{RanSome, TakesEarly}
use Rattle.run_command.proofs.lemmas.CourseEnds.{alone}
use Rattle.run_command.proofs.lemmas.Takes.{early_both}
use Rattle.api_versions.specs.Writes.{Left, Wrote}
use Rattle.api_versions.specs.Writes as versions
use Rattle.tree_commands.specs.Both.{IsFaultOfOne}
use Rattle.tree_commands.specs.ByTree.{ByBoth}
use Rattle.tree_commands.specs.Results.{EndsBy}
use Rattle.type_check.specs.Checked.{IsSchemaOf}
use Rattle.tool_frame.specs.declared.printed.Early.{Early}
use Rattle.tool_frame.specs.Course.{AtOnce, Course}
use Rattle.tool_frame.specs.Ended.{Ended, FailedAt, WroteAll, WroteSome}
use Rattle.tool_frame.specs.Meaning.{does_by}
use Rattle.tool_frame.specs.Seen.{Seen}
use Rattle.aidl_outside.proofs.lemmas.Failing.{failed_as}
use Rattle.tool_frame.proofs.lemmas.Courses.{ended_before, ended_done, with_store}
use Rattle.tool_frame.proofs.lemmas.Endings.{told_always}
use Rattle.tree_make.specs.Made.{file_seen}

nothing_wrote : (kept : Option Files) → Wrote [] kept kept
nothing_wrote None = refl
nothing_wrote (Some files) = refl

-- one write more in front
wrote_next : (w : Write) (ws : List Write) (before middle now : Option Files) → Sets before middle w.path w.bytes → Wrote ws middle now → Wrote (w ∷ ws) before now
wrote_next w ws None middle now set wrote = subst (λ m. Wrote ws m now) set wrote
wrote_next w ws (Some files) middle now set wrote = subst (λ m. Wrote ws m now) set wrote

failed_behind : (w : Write) (ws : List Write) (before middle now : Option Files) (call : StoreCall) → Sets before middle w.path w.bytes → versions.FailedAt ws middle now call → versions.FailedAt (w ∷ ws) before now call
failed_behind w ws before middle now call set (made, rest, v, between, split, wrote, only, called) =
    (w ∷ made, rest, v, between, ap (λ l. w ∷ l) split, wrote_next w made before middle between set wrote, only, called)

pub left_next : (w : Write) (ws : List Write) (before middle now : Option Files) (faults : StoreFaults) (r : Result (Unit {0}) StoreFault) → Sets before middle w.path w.bytes → Left ws middle now faults r
    → Left (w ∷ ws) before now faults r
left_next w ws before middle now faults (Ok x) set wrote = wrote_next w ws before middle now set wrote
left_next w ws before middle now faults (Err Failed) set failed = failed_as faults _ _ (λ call next. failed_behind w ws before middle now call set next) failed
left_next w ws before middle now faults (Err OutOfMemory) set (made, rest, split, wrote) = (w ∷ made, rest, ap (λ l. w ∷ l) split, wrote_next w made before middle now set wrote)

-- a write that failed, or for which memory was wanted
pub left_stopped : (w : Write) (ws : List Write) (before now : Option Files) (faults : StoreFaults) (e : StoreFault) → Writes {T = Unit {0}} before now w.path w.bytes (Err e)
    → WhereStoreFailed e (FailedIn faults (λ call. call ≡ writing w.path)) → Left {A = Unit {0}} (w ∷ ws) before now faults (Err e)
left_stopped w ws before now faults Failed only failed = failed_as faults _ _ (λ call called. ([], ws, w, before, refl, nothing_wrote before, only, called)) failed
left_stopped w ws before now faults OutOfMemory same failed = ([], w ∷ ws, refl, subst (λ k. Wrote [] before k) (sym same) (nothing_wrote before))

-- memory was wanted before any
pub left_none : (ws : List Write) (kept : Option Files) (faults : StoreFaults) → Left {A = Unit {0}} ws kept kept faults (Err OutOfMemory)
left_none ws kept faults = ([], ws, refl, nothing_wrote kept)

written_on : (xs ys : List Write) (files : Files) → written (xs ++ ys) files ≡ written ys (written xs files)
written_on [] ys files = refl
written_on (x ∷ xs) ys files = written_on xs ys (insert files x.path x.bytes)

wrote_on : (xs ys : List Write) (before middle now : Option Files) → Wrote xs before middle → Wrote ys middle now → Wrote (xs ++ ys) before now
wrote_on xs ys None middle now first wrote = subst (λ m. Wrote ys m now) first wrote
wrote_on xs ys (Some files) middle now first wrote =
    let more : now ≡ Some (written ys (written xs files)) = subst (λ m. Wrote ys m now) first wrote in
    more ∙ ap Some (sym (written_on xs ys files))

-- some writes were made, and then others came
failed_on : (xs ys : List Write) (before middle now : Option Files) (call : StoreCall) → Wrote xs before middle → versions.FailedAt ys middle now call → versions.FailedAt (xs ++ ys) before now call
failed_on xs ys before middle now call first (made, rest, w, between, split, wrote, only, called) =
    (xs ++ made, rest, w, between, ap (λ l. xs ++ l) split ∙ sym (append_assoc xs made (w ∷ rest)), wrote_on xs made before middle between first wrote, only, called)

pub left_on : (xs ys : List Write) (before middle now : Option Files) (faults : StoreFaults) (r : Result (Unit {0}) StoreFault) → Wrote xs before middle → Left ys middle now faults r → Left (xs ++ ys) before now faults r
left_on xs ys before middle now faults (Ok x) first wrote = wrote_on xs ys before middle now first wrote
left_on xs ys before middle now faults (Err Failed) first failed = failed_as faults _ _ (λ call next. failed_on xs ys before middle now call first next) failed
left_on xs ys before middle now faults (Err OutOfMemory) first (made, rest, split, wrote) =
    (xs ++ made, rest, ap (λ l. xs ++ l) split ∙ sym (append_assoc xs made rest), wrote_on xs made before middle now first wrote)

-- the first of them ended early
failed_first : (xs ys : List Write) (before now : Option Files) (call : StoreCall) → versions.FailedAt xs before now call → versions.FailedAt (xs ++ ys) before now call
failed_first xs ys before now call (made, rest, w, between, split, wrote, only, called) =
    (made, rest ++ ys, w, between, ap (λ l. l ++ ys) split ∙ append_assoc made (w ∷ rest) ys, wrote, only, called)

pub left_first : (xs ys : List Write) (before now : Option Files) (faults : StoreFaults) (e : StoreFault) → Left {A = Unit {0}} xs before now faults (Err e) → Left {A = Unit {0}} (xs ++ ys) before now faults (Err e)
left_first xs ys before now faults Failed failed = failed_as faults _ _ (λ call next. failed_first xs ys before now call next) failed
left_first xs ys before now faults OutOfMemory (made, rest, split, wrote) = (made, rest ++ ys, ap (λ l. l ++ ys) split ∙ append_assoc made rest ys, wrote)

drop_past : {X : Type 0} (i : ℕ) (xs : List X) → length xs ≤ i → drop i xs ≡ []
drop_past zero [] h = refl
drop_past zero (x ∷ xs) h = absurd (omega arith)
drop_past (suc i) [] h = refl
drop_past (suc i) (x ∷ xs) h = drop_past i xs (omega arith)

-- The files of a tree, from the one at a place on.
module _ (root : List ℕ) (files : List SourceFile) where
  abbrev pub writes_from : ℕ → List Write
  writes_from k = map (file_write root) (map file_seen (drop k files))

  module _ (i : ℕ) (file : SourceFile) (lt : i < length files) (at : file ≡ get_or files i file) where
    abbrev first : Write
    first = file_write root (file_seen file)

    first_write : writes_from i ≡ first ∷ writes_from (i + 1)
    first_write =
        let e : drop i files ≡ get_or files i file ∷ drop (i + 1) files = rw add-one (drop-cons files i file lt) in
        ap (λ (fs : List SourceFile). map (file_write root) (map file_seen fs)) e ∙ ap (λ (f : SourceFile). file_write root (file_seen f) ∷ writes_from (i + 1)) (sym at)

    pub file_next : (here there later : Option Files) (faults : StoreFaults) (r : Result (Unit {0}) StoreFault) → Sets here there first.path first.bytes → Left (writes_from (i + 1)) there later faults r
        → Left (writes_from i) here later faults r
    file_next here there later faults r set left =
        subst (λ ws. Left ws here later faults r) (sym first_write) (left_next first (writes_from (i + 1)) here there later faults r set left)

    pub file_stopped : (here there : Option Files) (faults : StoreFaults) (e : StoreFault) → Writes {T = Unit {0}} here there first.path first.bytes (Err e)
        → WhereStoreFailed e (FailedIn faults (λ call. call ≡ writing first.path)) → Left {A = Unit {0}} (writes_from i) here there faults (Err e)
    file_stopped here there faults e stopped failed =
        subst (λ ws. Left {A = Unit {0}} ws here there faults (Err e)) (sym first_write) (left_stopped first (writes_from (i + 1)) here there faults e stopped failed)

  pub files_done : (i : ℕ) (kept : Option Files) (faults : StoreFaults) → length files ≤ i → Left {A = Unit {0}} (writes_from i) kept kept faults (Ok tt)
  files_done i kept faults past =
      subst (λ (fs : List SourceFile). Left {A = Unit {0}} (map (file_write root) (map file_seen fs)) kept kept faults (Ok tt)) (sym (drop_past i files past)) (nothing_wrote kept)

-- what was laid out is what is meant
module _ (n : ℕ) (out : List ℕ) (l : Laid) (is : IsLaid n out l) where
  pub same_writes : laid_writes l ≡ make_writes n out
  same_writes = rw (is.calls_path, is.calls, is.new_root, is.news, is.old_root, is.olds) refl

  pub takes_made : (course : Course) → TakesLaid l course → MakeTakes n out course
  takes_made course h = (
    l.news,
    l.olds,
    is.news,
    is.olds,
    subst (λ (t : List ℕ). ByBoth AtOnce (new_root out) l.news (old_root out) l.olds (λ B A c. c ≡ make_course A B t) course) is.calls
        (subst (λ (r : List ℕ). ByBoth AtOnce (new_root out) l.news r l.olds (λ B A c. c ≡ make_course A B l.calls) course) is.old_root
        (subst (λ (r : List ℕ). ByBoth AtOnce r l.news (string_bytes l.old_root) l.olds (λ B A c. c ≡ make_course A B l.calls) course) is.new_root h)),
  )

-- What is done of what was laid out.
module _ (l : Laid) where
  -- one of the trees isn't checked, whose roots are these
  pub one_ends : (early : Early) (newer older : List ℕ) → newer ≡ string_bytes l.new_root → older ≡ string_bytes l.old_root → EndsBy (IsFaultOfOne newer l.news older l.olds) early
      → (course : Course) → TakesEarly early course → TakesLaid l course
  one_ends early newer older new old is course e =
      early_both (string_bytes l.new_root) (string_bytes l.old_root) l.news l.olds (λ B A c. c ≡ make_course A B l.calls) early
      (subst (λ (r : List ℕ). EndsBy (IsFaultOfOne r l.news (string_bytes l.old_root) l.olds) early) new (subst (λ (r : List ℕ). EndsBy (IsFaultOfOne newer l.news r l.olds) early) old is)) course e

  -- both are
  pub both_ends : (A B : List Decl) → IsSchemaOf l.news B → IsSchemaOf l.olds A → (course : Course) → course ≡ make_course A B l.calls → TakesLaid l course
  both_ends A B b a course e = inr (B, b, inr (A, a, e))

-- How it ends, of writes that are meant whatever the files were.
module _ (ws : List Write) (takes : Takes) (before now : Seen) where
  abbrev are_these : Files → List Write → Type 0
  are_these files made = made ≡ ws

  abbrev may_take : Files → Takes
  may_take files = takes

  wrote_all : (kept after : Option Files) → Wrote ws kept after → WroteAll are_these kept after
  wrote_all None after wrote = wrote
  wrote_all (Some files) after wrote = (ws, refl, wrote)

  all_some : (kept after : Option Files) → Wrote ws kept after → WroteSome are_these kept after
  all_some None after wrote = wrote
  all_some (Some files) after wrote = inr (ws, [], append-nil ws, wrote)

  wrote_first : (kept after : Option Files) → versions.WroteSome ws kept after → WroteSome are_these kept after
  wrote_first None after (made, rest, split, wrote) = wrote
  wrote_first (Some files) after (made, rest, split, wrote) = inr (made, rest, sym split, wrote)

  failed_next : (kept after : Option Files) (call : StoreCall) → versions.FailedAt ws kept after call → FailedAt are_these kept after call
  failed_next None after call (made, rest, w, between, split, wrote, only, called) = ((w.path, called), subst (λ m. ChangesOnly m after w.path) wrote only)
  failed_next (Some files) after call (made, rest, w, between, split, wrote, only, called) =
      (made, rest, w, sym split, subst (λ m. ChangesOnly m after w.path) wrote only, called)

  -- All was written, and then a course ran, or memory was wanted before any.
  pub ended_made : (some : Takes) (exit : ℕ) → Wrote ws before.kept now.kept → now.store_faults ≡ before.store_faults → ((course : Course) → some course → takes course)
      → RanSome some (alone before) (alone now) exit → Ended (does_by AsksNothing are_these may_take) before now exit
  ended_made some exit wrote good also (inl (course, is, ran)) =
      ended_done true AsksNothing are_these may_take course now.kept before now exit (wrote_all before.kept now.kept wrote) (told_always before.kept (λ files. also course is))
      (with_store course (record before { kept = now.kept }) now exit refl good ran)
  ended_made some exit wrote good also (inr (five, same)) =
      ended_before true AsksNothing are_these may_take before now exit (inr five) (λ three. absurd (omega arith)) (λ other. good) (λ three. absurd (omega arith)) (λ e. all_some before.kept now.kept wrote)
      (ap (λ s. s.told) same) (ap (λ s. s.sink_faults) same) (ap (λ s. s.log) same) (ap (λ s. s.link_faults) same) (ap (λ s. s.is_faithful) same)

  -- A write failed.
  pub ended_failed : Left {A = Unit {0}} ws before.kept now.kept now.store_faults (Err Failed) → Rose before.store_faults now.store_faults → alone now ≡ alone before → Ended (does_by AsksNothing are_these may_take) before now 3
  ended_failed failed rose same =
      ended_before true AsksNothing are_these may_take before now 3 (inl refl) (λ three. rose) (λ other. absurd (other refl)) (λ three. failed_as now.store_faults _ _ (λ call next. inr (refl, failed_next before.kept now.kept call next)) failed) (λ five. absurd (omega arith))
      (ap (λ s. s.told) same) (ap (λ s. s.sink_faults) same) (ap (λ s. s.log) same) (ap (λ s. s.link_faults) same) (ap (λ s. s.is_faithful) same)

  -- Memory was wanted before the last write.
  pub ended_lost : Left {A = Unit {0}} ws before.kept now.kept now.store_faults (Err OutOfMemory) → now.store_faults ≡ before.store_faults → alone now ≡ alone before → Ended (does_by AsksNothing are_these may_take) before now 5
  ended_lost left good same =
      ended_before true AsksNothing are_these may_take before now 5 (inr refl) (λ three. absurd (omega arith)) (λ other. good) (λ three. absurd (omega arith)) (λ five. wrote_first before.kept now.kept left)
      (ap (λ s. s.told) same) (ap (λ s. s.sink_faults) same) (ap (λ s. s.log) same) (ap (λ s. s.link_faults) same) (ap (λ s. s.is_faithful) same)
