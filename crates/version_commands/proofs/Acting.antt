-- What the commands that write leave of a store, by what their steps did.
use Rattle.std.proofs.Common.{◌≡◌, ℕ, List, [], ◌∷◌, ◌++◌, length, Option, Some, None, Ok, Err, refl, sym, subst, ◌∙◌, inl, inr}
use Rattle.std.specs.Prelude.{◌⊎◌, Result}
use Rattle.std.proofs.lemmas.List.{append-nil}
use Rattle.aidl_base.specs.declared.source_file.SourceFile.{SourceFile}
use Rattle.aidl_outside.specs.declared.store.StoreFault.{StoreFault}
use Rattle.aidl_outside.specs.declared.store.StoreFault.TheVariants.{Failed, OutOfMemory as StoreMemory}
use Rattle.aidl_outside.specs.Asks.{Asks, IsWrite}
use Rattle.aidl_outside.specs.Causes.{StoreCause}
use Rattle.aidl_outside.specs.Faults.{FailedIn, StoreCall, StoreFaults, WhereStoreFailed}
use Rattle.aidl_outside.specs.Files.{Files}
use Rattle.aidl_outside.specs.Told.{Tells}
use Rattle.aidl_outside.specs.Writes.{ChangesOnly, Write}
use Rattle.aidl_schema.specs.declared.schema.Decl.{Decl}
use Rattle.aidl_schema.specs.declared.schema.Schema.{Schema}
use Rattle.version_commands.specs.Acting.{BySchema, RehashActs}
use Rattle.tree_commands.specs.Opens.{HasSchema}
use Rattle.tree_commands.specs.Opens.{IsOpened, IsUnchecked, Unchecked}
use Rattle.api_freeze.specs.declared.freezing.Frozen.{Frozen}
use Rattle.api_freeze.specs.Freeze as freeze
use Rattle.api_freeze.specs.Rehash.{GivesNumbers, Left, RefusesNumbers, hash_writes, numbers_or, rehash_at, rehash_by, rehash_writes, stale_numbers, writes_by, writes_or}
use Rattle.api_freeze.specs.Causes.{FaultCall, FaultCause, RehashFaultCall, RehashFaultCause, WriteCause}
use Rattle.api_freeze.specs.declared.fault.FreezeFault.{FreezeFault}
use Rattle.api_freeze.specs.declared.fault.FreezeFault.TheVariants as fault
use Rattle.api_freeze.specs.declared.fault.RehashFault.{RehashFault}
use Rattle.api_freeze.specs.declared.fault.RehashFault.TheVariants as rehash
use Rattle.api_versions.specs.declared.fault.VersionsFault.{VersionsFault}
use Rattle.api_versions.specs.declared.fault.VersionsFault.TheVariants as read
use Rattle.api_versions.specs.declared.version.Version.{Version}
use Rattle.api_versions.specs.declared.whole.Torn.{Torn}
use Rattle.api_versions.specs.Answers.{ReadFaultCause, Refuses}
use Rattle.api_versions.specs.Asks.{FaultCall as ReadFaultCall}
use Rattle.api_versions.specs.Versions.{versions_at}
use Rattle.api_versions.specs.Whole.{first_torn}
use Rattle.api_versions.specs.Writes.{LeftAt, Wrote}
use Rattle.api_versions.specs.Writes as versions
use Rattle.version_commands.specs.Frozen.{Freezes, IsUnfrozen, frozen}
use Rattle.tool_frame.specs.declared.halt.Halt.{Halt}
use Rattle.tool_frame.specs.declared.halt.Halt.TheVariants.{Answered, StoreFailed, OutOfMemory}
use Rattle.tool_frame.specs.declared.printed.Early.{Early}
use Rattle.tool_frame.specs.declared.printed.Early.TheVariants as early
use Rattle.tool_frame.specs.declared.printed.Printed.{Printed}
use Rattle.tool_frame.specs.Acts.{Acts, acts_by, writes_of}
use Rattle.tool_frame.specs.Answer.{Answer, Found}
use Rattle.tool_frame.specs.Ended.{FailedAt, StopsAtStore, WroteSome}
use Rattle.tool_frame.specs.steps.Acts.{Acted, ActsAs}
use Rattle.tool_frame.specs.Halts.{Gets, HaltCause, halt_by, halt_of}
use Rattle.tool_frame.specs.Results.{Gives, printed}
use Rattle.tool_frame.specs.Seen.{StoreSeen}
use Rattle.tool_frame.specs.Trees.{tree_at}
use Rattle.aidl_outside.proofs.lemmas.Failing.{failed_as}
use Rattle.aidl_outside.proofs.lemmas.Telling.{tells}
use Rattle.tool_frame.proofs.lemmas.Writings.{acts_more, ends_unwritten}
use Rattle.version_lines.specs.Lines.{IsUnread}
use Rattle.version_commands.specs.Ends.{EndsIn, FreezeEnds, RehashEnds, UnreadEnds}
use Rattle.version_commands.specs.Rehashed.{IsUnhashed, Rehashes, rehashed}

-- Why a step failed is why the whole did.
pub halt_cause : (T : Type 0) (before now : StoreFaults) (halt : Halt) → HaltCause {T = T} before now (Err halt) → HaltCause {T = Printed} before now (Err halt)
halt_cause T before now (Answered p) cause = cause
halt_cause T before now StoreFailed cause = cause
halt_cause T before now OutOfMemory cause = cause

pub fault_cause : (before now : StoreFaults) (e : StoreFault) → StoreCause {T = Unit {0}} before now (Err e) → HaltCause {T = Printed} before now (Err (halt_by e))
fault_cause before now Failed cause = cause
fault_cause before now StoreMemory cause = cause

pub early_cause : (before now : StoreFaults) (end : Early) → now ≡ before → HaltCause {T = Printed} before now (Err (halt_of end))
early_cause before now (early.Answered p) same = same
early_cause before now early.OutOfMemory same = same

-- A refusal that is answered is no fault of the store.
answered_cause : (Is : Answer → Type 0) (end : Halt) (before now : StoreFaults) → EndsIn Is end → now ≡ before → HaltCause {T = Printed} before now (Err end)
answered_cause Is (Answered p) before now ends same = same
answered_cause Is StoreFailed before now ends same = absurd ends
answered_cause Is OutOfMemory before now ends same = same

unread_cause : (Is : Answer → Type 0) (e : VersionsFault) (end : Halt) (before now : StoreFaults) → UnreadEnds Is e end → ReadFaultCause before now e → HaltCause {T = Printed} before now (Err end)
unread_cause Is (read.BadVersions missing) end before now ends cause = answered_cause Is end before now ends cause
unread_cause Is (read.Limit limit) end before now ends cause = answered_cause Is end before now ends cause
unread_cause Is read.ReadFault end before now ends cause = subst (λ h. HaltCause {T = Printed} before now (Err h)) (sym ends) cause
unread_cause Is read.OutOfMemory end before now ends cause = subst (λ h. HaltCause {T = Printed} before now (Err h)) (sym ends) cause

write_cause : (e : StoreFault) (end : Halt) (before now : StoreFaults) → end ≡ halt_by e → WriteCause before now e → HaltCause {T = Printed} before now (Err end)
write_cause Failed end before now ends cause = subst (λ h. HaltCause {T = Printed} before now (Err h)) (sym ends) cause
write_cause StoreMemory end before now ends cause = subst (λ h. HaltCause {T = Printed} before now (Err h)) (sym ends) cause

pub freeze_cause : (Is : FreezeFault → Answer → Type 0) (e : FreezeFault) (end : Halt) (before now : StoreFaults) → FreezeEnds Is e end → FaultCause before now e → HaltCause {T = Printed} before now (Err end)
freeze_cause Is (fault.Versions e) end before now ends cause = unread_cause (Is (fault.Versions e)) e end before now ends cause
freeze_cause Is (fault.Torn torn) end before now ends cause = answered_cause (Is (fault.Torn torn)) end before now ends cause
freeze_cause Is (fault.Unreadable version files why) end before now ends cause = answered_cause (Is (fault.Unreadable version files why)) end before now ends cause
freeze_cause Is (fault.Unchanged version) end before now ends cause = answered_cause (Is (fault.Unchanged version)) end before now ends cause
freeze_cause Is (fault.Incompatible rows) end before now ends cause = answered_cause (Is (fault.Incompatible rows)) end before now ends cause
freeze_cause Is (fault.Limit limit) end before now ends cause = answered_cause (Is (fault.Limit limit)) end before now ends cause
freeze_cause Is (fault.Write e) end before now ends cause = write_cause e end before now ends cause
freeze_cause Is fault.OutOfMemory end before now ends cause = subst (λ h. HaltCause {T = Printed} before now (Err h)) (sym ends) cause

pub rehash_cause : (Is : RehashFault → Answer → Type 0) (e : RehashFault) (end : Halt) (before now : StoreFaults) → RehashEnds Is e end → RehashFaultCause before now e → HaltCause {T = Printed} before now (Err end)
rehash_cause Is (rehash.Versions e) end before now ends cause = unread_cause (Is (rehash.Versions e)) e end before now ends cause
rehash_cause Is (rehash.Torn torn) end before now ends cause = answered_cause (Is (rehash.Torn torn)) end before now ends cause
rehash_cause Is (rehash.Write e) end before now ends cause = write_cause e end before now ends cause
rehash_cause Is rehash.OutOfMemory end before now ends cause = subst (λ h. HaltCause {T = Printed} before now (Err h)) (sym ends) cause

-- one of these calls, or a write
abbrev AskedOr : (StoreCall → Type 0) → StoreCall → Type 0
AskedOr Asked call = Asked call ⊎ IsWrite call

-- the call that failed, if one did
abbrev CalledOr : (StoreCall → Type 0) → StoreFaults → Halt → Type 0
CalledOr Asked faults (Answered p) = Unit {0}
CalledOr Asked faults StoreFailed = FailedIn faults (AskedOr Asked)
CalledOr Asked faults OutOfMemory = Unit {0}

answered_call : (Is : Answer → Type 0) (end : Halt) (faults : StoreFaults) (Asked : StoreCall → Type 0) → EndsIn Is end → CalledOr Asked faults end
answered_call Is (Answered p) faults Asked ends = tt
answered_call Is StoreFailed faults Asked ends = absurd ends
answered_call Is OutOfMemory faults Asked ends = tt

unread_call : (Is : Answer → Type 0) (e : VersionsFault) (end : Halt) (faults : StoreFaults) (Asked : StoreCall → Type 0) → UnreadEnds Is e end → ReadFaultCall Asked faults e → CalledOr Asked faults end
unread_call Is (read.BadVersions missing) end faults Asked ends call = answered_call Is end faults Asked ends
unread_call Is (read.Limit limit) end faults Asked ends call = answered_call Is end faults Asked ends
unread_call Is read.ReadFault end faults Asked ends call = subst (CalledOr Asked faults) (sym ends) (failed_as faults _ _ (λ c is. inl is) call)
unread_call Is read.OutOfMemory end faults Asked ends call = subst (CalledOr Asked faults) (sym ends) tt

write_call : (e : StoreFault) (end : Halt) (faults : StoreFaults) (Asked : StoreCall → Type 0) → end ≡ halt_by e → WhereStoreFailed e (FailedIn faults IsWrite) → CalledOr Asked faults end
write_call Failed end faults Asked ends call = subst (CalledOr Asked faults) (sym ends) (failed_as faults _ _ (λ c is. inr is) call)
write_call StoreMemory end faults Asked ends call = subst (CalledOr Asked faults) (sym ends) tt

freeze_call : (Is : FreezeFault → Answer → Type 0) (e : FreezeFault) (end : Halt) (faults : StoreFaults) (Asked : StoreCall → Type 0) → FreezeEnds Is e end → FaultCall Asked faults e → CalledOr Asked faults end
freeze_call Is (fault.Versions e) end faults Asked ends call = unread_call (Is (fault.Versions e)) e end faults Asked ends call
freeze_call Is (fault.Torn torn) end faults Asked ends call = answered_call (Is (fault.Torn torn)) end faults Asked ends
freeze_call Is (fault.Unreadable version files why) end faults Asked ends call = answered_call (Is (fault.Unreadable version files why)) end faults Asked ends
freeze_call Is (fault.Unchanged version) end faults Asked ends call = answered_call (Is (fault.Unchanged version)) end faults Asked ends
freeze_call Is (fault.Incompatible rows) end faults Asked ends call = answered_call (Is (fault.Incompatible rows)) end faults Asked ends
freeze_call Is (fault.Limit limit) end faults Asked ends call = answered_call (Is (fault.Limit limit)) end faults Asked ends
freeze_call Is (fault.Write e) end faults Asked ends call = write_call e end faults Asked ends call
freeze_call Is fault.OutOfMemory end faults Asked ends call = subst (CalledOr Asked faults) (sym ends) tt

rehash_call : (Is : RehashFault → Answer → Type 0) (e : RehashFault) (end : Halt) (faults : StoreFaults) (Asked : StoreCall → Type 0) → RehashEnds Is e end → RehashFaultCall Asked faults e → CalledOr Asked faults end
rehash_call Is (rehash.Versions e) end faults Asked ends call = unread_call (Is (rehash.Versions e)) e end faults Asked ends call
rehash_call Is (rehash.Torn torn) end faults Asked ends call = answered_call (Is (rehash.Torn torn)) end faults Asked ends
rehash_call Is (rehash.Write e) end faults Asked ends call = write_call e end faults Asked ends call
rehash_call Is rehash.OutOfMemory end faults Asked ends call = subst (CalledOr Asked faults) (sym ends) tt

-- By what is asked of the store, and its faults at the end.
module _ (asks : Asks) (faults : StoreFaults) where
  -- Writes that were made, of a list that goes with an answer.
  module _ (acts : Acts) (ws : List Write) (a : Answer) (is : acts ws a) where
    abbrev Same : Files → Acts
    Same files = acts

    wrote_all : (before now : Option Files) → Wrote ws before now → Acted Same before now a
    wrote_all None now e = e
    wrote_all (Some files) now e = (ws, is, e)

    wrote_first : (before now : Option Files) → versions.WroteSome ws before now → WroteSome (writes_of Same) before now
    wrote_first None now (made, rest, e, wrote) = wrote
    wrote_first (Some files) now (made, rest, e, wrote) = inr (made, rest, (a, subst (λ l. acts l a) e is), wrote)

    failed_next : (before now : Option Files) (call : StoreCall) → versions.FailedAt ws before now call → FailedAt (writes_of Same) before now call
    failed_next None now call (made, rest, w, middle, e, wrote, only, called) = ((w.path, called), subst (λ m. ChangesOnly m now w.path) wrote only)
    failed_next (Some files) now call (made, rest, w, middle, e, wrote, only, called) =
        (made, rest, w, (a, subst (λ l. acts l a) e is), subst (λ m. ChangesOnly m now w.path) wrote only, called)

  pub acts_wrote : (acts : Acts) (ws : List Write) (p : Printed) (before now : Option Files) → acts ws (printed p) → Wrote ws before now → ActsAs asks (λ files. acts) before now faults (Ok p)
  acts_wrote acts ws p before now is wrote = wrote_all acts ws (printed p) is before now wrote

  pub acts_left : (acts : Acts) (ws : List Write) (a : Answer) (e : StoreFault) (before now : Option Files) → acts ws a → LeftAt ws before now faults e
      → ActsAs asks (λ files. acts) before now faults (Err (halt_by e))
  acts_left acts ws a Failed before now is failed = failed_as faults _ _ (λ call next. inr (refl, failed_next acts ws a is before now call next)) failed
  acts_left acts ws a StoreMemory before now is some = wrote_first acts ws a is before now some

  -- what comes of a tree that isn't checked, and of one that is
  refused_by : (root : List ℕ) (tree : Found (List SourceFile)) (next : List Decl → Acts) (a : Answer) → Unchecked root tree a → BySchema root tree next [] a
  refused_by root (Ok sources) next a is = inl (a, is, (refl, refl))
  refused_by root (Err passed) next a e = (refl, e)

  done_by : (root : List ℕ) (tree : Found (List SourceFile)) (next : List Decl → Acts) (S : List Decl) (made : List Write) (a : Answer) → HasSchema tree S → next S made a → BySchema root tree next made a
  done_by root (Ok sources) next S made a is h = inr (S, is, h)
  done_by root (Err passed) next S made a never h = absurd never

  -- By the schema of a tree.
  module _ (root : List ℕ) (next : Files → List Decl → Acts) where
    abbrev Whole : Files → Acts
    Whole files = BySchema root (tree_at files root) (next files)

    -- a tree that isn't checked
    pub opened_ends : (some : Asks) (before now : StoreSeen) (halt : Halt) → ((call : StoreCall) → some before.kept call → asks before.kept call) → now.faults ≡ faults
        → Gets some (IsOpened root) (IsUnchecked root) before now (Err halt) → ActsAs asks Whole before.kept now.kept faults (Err halt)
    opened_ends some before now (Answered p) also same gets =
        ends_unwritten asks Whole before.kept now.kept faults (Answered p) gets.unchanged (tells before.kept _ _ (λ files h. refused_by root (tree_at files root) (next files) (printed p) h) gets.said)
    opened_ends some before now StoreFailed also same gets =
        ends_unwritten asks Whole before.kept now.kept faults StoreFailed gets.unchanged (subst (λ fs. FailedIn fs (asks before.kept)) same (failed_as now.faults _ _ also gets.failed))
    opened_ends some before now OutOfMemory also same gets = ends_unwritten asks Whole before.kept now.kept faults OutOfMemory gets.unchanged tt

    -- one that is
    pub opened_goes : (some : Asks) (before middle now : Option Files) (schema : Schema) (r : Result Printed Halt) → ((call : StoreCall) → some before call → asks before call)
        → middle ≡ before → Tells before (λ files. IsOpened root files schema) → ActsAs some (λ files. next files schema.decls) middle now faults r → ActsAs asks Whole before now faults r
    opened_goes some before middle now schema r also same told acted =
        acts_more some asks (λ files. next files schema.decls) Whole before now faults r also
        (tells before _ _ (λ files has made a h. done_by root (tree_at files root) (next files) schema.decls made a has h) told)
        (subst (λ m. ActsAs some (λ files. next files schema.decls) m now faults r) same acted)

  -- A store that tells nothing.
  untold_stop : (acts : Files → Acts) (now : Option Files) (call : StoreCall) → now ≡ None → AskedOr (asks None) call → StopsAtStore (acts_by asks acts) None now call
  untold_stop acts now call none (inl is) = inl (is, none)
  untold_stop acts now call none (inr is) = inr (refl, (is, none))

  untold_halt : (acts : Files → Acts) (now : Option Files) (end : Halt) → now ≡ None → CalledOr (asks None) faults end → ActsAs asks acts None now faults (Err end)
  untold_halt acts now (Answered p) none failed = none
  untold_halt acts now StoreFailed none failed = failed_as faults _ _ (λ call is. untold_stop acts now call none is) failed
  untold_halt acts now OutOfMemory none failed = none

  -- an answer that is given, or a want of memory after the writes
  abbrev pub given : Result Printed Early → Result Printed Halt
  given (Ok p) = Ok p
  given (Err early) = Err (halt_of early)

  untold_given : (acts : Files → Acts) (now : Option Files) (r : Result Printed Early) → now ≡ None → ActsAs asks acts None now faults (given r)
  untold_given acts now (Ok p) none = none
  untold_given acts now (Err (early.Answered p)) none = none
  untold_given acts now (Err early.OutOfMemory) none = none

  gives_told : (acts : Files → Acts) (files : Files) (now : Option Files) (r : Result Printed Early) (a : Answer) → Gives r a → Acted acts (Some files) now a → ActsAs asks acts (Some files) now faults (given r)
  gives_told acts files now (Ok p) a h acted = subst (Acted acts (Some files) now) (sym h) acted
  gives_told acts files now (Err (early.Answered p)) a h acted = subst (Acted acts (Some files) now) (sym h) acted
  gives_told acts files now (Err early.OutOfMemory) a h (made, is, e) = inr (made, [], (a, subst (λ l. acts files l a) (sym (append-nil made)) is), e)

  -- a refusal with nothing written
  module _ (acts : Files → Acts) (files : Files) (now : Option Files) (same : now ≡ Some files) where
    refused_unwritten : (Is : Answer → Type 0) (end : Halt) → ((a : Answer) → Is a → acts files [] a) → EndsIn Is end → ActsAs asks acts (Some files) now faults (Err end)
    refused_unwritten Is (Answered p) more is = ([], more (printed p) is, same)
    refused_unwritten Is StoreFailed more is = absurd is
    refused_unwritten Is OutOfMemory more is = inl same

    failed_unwritten : (end : Halt) → end ≡ StoreFailed → FailedIn faults (asks (Some files)) → ActsAs asks acts (Some files) now faults (Err end)
    failed_unwritten end e failed = subst (λ r. ActsAs asks acts (Some files) now faults (Err r)) (sym e) (failed_as faults _ _ (λ call is. inl (is, same)) failed)

    lost_unwritten : (end : Halt) → end ≡ OutOfMemory → ActsAs asks acts (Some files) now faults (Err end)
    lost_unwritten end e = subst (λ r. ActsAs asks acts (Some files) now faults (Err r)) (sym e) (inl same)

  -- The writes of a list that goes with an answer, of a store that tells its files.
  module _ (acts : Files → Acts) (files : Files) (ws : List Write) (a : Answer) (is : acts files ws a) (now : Option Files) where
    failed_next_of : (call : StoreCall) → versions.FailedAt ws (Some files) now call → FailedAt (writes_of acts) (Some files) now call
    failed_next_of call (made, rest, w, middle, split, wrote, only, called) =
        (made, rest, w, (a, subst (λ l. acts files l a) split is), subst (λ m. ChangesOnly m now w.path) wrote only, called)

    stopped_late : (e : StoreFault) (end : Halt) → end ≡ halt_by e → LeftAt ws (Some files) now faults e → ActsAs asks acts (Some files) now faults (Err end)
    stopped_late Failed end e failed =
        subst (λ r. ActsAs asks acts (Some files) now faults (Err r)) (sym e) (failed_as faults _ _ (λ call next. inr (refl, failed_next_of call next)) failed)
    stopped_late StoreMemory end e (made, rest, split, wrote) =
        subst (λ r. ActsAs asks acts (Some files) now faults (Err r)) (sym e) (inr (made, rest, (a, subst (λ l. acts files l a) split is), wrote))

  -- versions that aren't read
  unread_unwritten : (acts : Files → Acts) (files : Files) (now : Option Files) → now ≡ Some files → (defined : Result (List Version) VersionsFault) (Is : Answer → Type 0) (e : VersionsFault) (end : Halt)
      → ((a : Answer) → defined ≡ Err e → Is a → acts files [] a) → Refuses defined e → UnreadEnds Is e end → ReadFaultCall (asks (Some files)) faults e → ActsAs asks acts (Some files) now faults (Err end)
  unread_unwritten acts files now same defined Is (read.BadVersions missing) end meant is ends call = refused_unwritten acts files now same Is end (λ a h. meant a is h) ends
  unread_unwritten acts files now same defined Is (read.Limit limit) end meant is ends call = refused_unwritten acts files now same Is end (λ a h. meant a is h) ends
  unread_unwritten acts files now same defined Is read.ReadFault end meant is ends call = failed_unwritten acts files now same end ends call
  unread_unwritten acts files now same defined Is read.OutOfMemory end meant is ends call = lost_unwritten acts files now same end ends

  -- Freezing.
  module _ (api : List ℕ) (S : List Decl) where
    abbrev FreezesOf : Files → Acts
    FreezesOf files = Freezes api (versions_at files api) S

    module _ (files : Files) (now : Option Files) where
      -- what is found at the API
      abbrev IsFound : Result (List Version) VersionsFault → Type 0
      IsFound given = versions_at files api ≡ given

      carried : (given : Result (List Version) VersionsFault) (made : List Write) (a : Answer) → IsFound given → Freezes api given S made a → FreezesOf files made a
      carried given made a e h = subst (λ g. Freezes api g S made a) (sym e) h

      frozen_told : (given : Result (List Version) VersionsFault) (f : Frozen) → IsFound given → freeze.FreezesAt api given S (Some files) now faults (Ok f) → Acted FreezesOf (Some files) now (frozen f.version f.hash)
      frozen_told (Ok vs) f e (sources, ready, version, hash, wrote) =
          let same : frozen f.version f.hash ≡ frozen (freeze.next vs) (freeze.hash_digits sources (freeze.next vs)) = rw (version, hash) refl in
          (freeze.version_writes api (freeze.next vs) sources, carried (Ok vs) _ _ e (inl (sources, ready, refl, same)), wrote)
      frozen_told (Err r) f e h = absurd h

      -- a refusal of the versions that were read, or of what refuses these
      plain_read : (vs : List Version) (e : FreezeFault) (end : Halt) → IsFound (Ok vs) → now ≡ Some files → freeze.RefusedAs vs S e → EndsIn (IsUnfrozen api e) end → ActsAs asks FreezesOf (Some files) now faults (Err end)
      plain_read vs e end is same refused ends = refused_unwritten FreezesOf files now same (IsUnfrozen api e) end (λ a h. carried (Ok vs) [] a is (inr (refl, (e, refused, h)))) ends

      carried_unread : (given : Result (List Version) VersionsFault) (e : VersionsFault) (a : Answer) → IsFound given → given ≡ Err e → IsUnread e a → FreezesOf files [] a
      carried_unread given e a is one h = carried (Err e) [] a (is ∙ one) (refl, h)

      unread_told : (given : Result (List Version) VersionsFault) (e : VersionsFault) (end : Halt) → IsFound given → now ≡ Some files → Refuses given e → UnreadEnds (IsUnread e) e end
          → ReadFaultCall (asks (Some files)) faults e → ActsAs asks FreezesOf (Some files) now faults (Err end)
      unread_told given e end is same refused ends call = unread_unwritten FreezesOf files now same given (IsUnread e) e end (λ a one h. carried_unread given e a is one h) refused ends call

      refused_read : (vs : List Version) (e : FreezeFault) (end : Halt) → IsFound (Ok vs) → freeze.Freezes api vs S (Some files) now faults (Err e) → FreezeEnds (IsUnfrozen api) e end
          → FaultCall (asks (Some files)) faults e → ActsAs asks FreezesOf (Some files) now faults (Err end)
      refused_read vs (fault.Versions e) end is told ends call = unread_told (Ok vs) e end is told.0 told.1 ends call
      refused_read vs (fault.Torn torn) end is told ends call = plain_read vs (fault.Torn torn) end is told.0 told.1 ends
      refused_read vs (fault.Unreadable version sources why) end is told ends call = plain_read vs (fault.Unreadable version sources why) end is told.0 told.1 ends
      refused_read vs (fault.Unchanged version) end is told ends call = plain_read vs (fault.Unchanged version) end is told.0 told.1 ends
      refused_read vs (fault.Incompatible rows) end is told ends call = plain_read vs (fault.Incompatible rows) end is told.0 told.1 ends
      refused_read vs (fault.Limit limit) end is told ends call = plain_read vs (fault.Limit limit) end is told.0 told.1 ends
      refused_read vs (fault.Write e) end is (sources, ready, left) ends call =
          stopped_late FreezesOf files (freeze.version_writes api (freeze.next vs) sources) (frozen (freeze.next vs) (freeze.hash_digits sources (freeze.next vs)))
          (carried (Ok vs) _ _ is (inl (sources, ready, refl, refl))) now e end ends left
      refused_read vs fault.OutOfMemory end is same ends call = lost_unwritten FreezesOf files now same end ends

      refused_unread : (r : VersionsFault) (e : FreezeFault) (end : Halt) → IsFound (Err r) → freeze.Unread r (Some files) now (Err e) → FreezeEnds (IsUnfrozen api) e end
          → FaultCall (asks (Some files)) faults e → ActsAs asks FreezesOf (Some files) now faults (Err end)
      refused_unread r (fault.Versions e) end is told ends call = unread_told (Err r) e end is told.0 told.1 ends call
      refused_unread r (fault.Torn torn) end is told ends call = absurd told
      refused_unread r (fault.Unreadable version sources why) end is told ends call = absurd told
      refused_unread r (fault.Unchanged version) end is told ends call = absurd told
      refused_unread r (fault.Incompatible rows) end is told ends call = absurd told
      refused_unread r (fault.Limit limit) end is told ends call = absurd told
      refused_unread r (fault.Write e) end is told ends call = absurd told
      refused_unread r fault.OutOfMemory end is told ends call = absurd told

      refused_told : (given : Result (List Version) VersionsFault) (e : FreezeFault) (end : Halt) → IsFound given → freeze.FreezesAt api given S (Some files) now faults (Err e) → FreezeEnds (IsUnfrozen api) e end
          → FaultCall (asks (Some files)) faults e → ActsAs asks FreezesOf (Some files) now faults (Err end)
      refused_told (Ok vs) e end is told ends call = refused_read vs e end is told ends call
      refused_told (Err r) e end is told ends call = refused_unread r e end is told ends call

    pub freeze_done : (before now : Option Files) (f : Frozen) (r : Result Printed Early) → (before ≡ None → now ≡ None)
        → Tells before (λ files. freeze.FreezesAt api (versions_at files api) S (Some files) now faults (Ok f)) → Gives r (frozen f.version f.hash) → ActsAs asks FreezesOf before now faults (given r)
    freeze_done None now f r untold told gives = untold_given FreezesOf now r (untold refl)
    freeze_done (Some files) now f r untold told gives = gives_told FreezesOf files now r (frozen f.version f.hash) gives (frozen_told files now (versions_at files api) f refl told)

    pub freeze_refused : (before now : Option Files) (e : FreezeFault) (end : Halt) → (before ≡ None → now ≡ None)
        → Tells before (λ files. freeze.FreezesAt api (versions_at files api) S (Some files) now faults (Err e)) → FreezeEnds (IsUnfrozen api) e end → FaultCall (asks before) faults e
        → ActsAs asks FreezesOf before now faults (Err end)
    freeze_refused None now e end untold told ends call = untold_halt FreezesOf now end (untold refl) (freeze_call (IsUnfrozen api) e end faults (asks None) ends call)
    freeze_refused (Some files) now e end untold told ends call = refused_told files now (versions_at files api) e end refl told ends call

  -- Hashing again.
  no_next : (made rest : List Write) (w : Write) → [] ≡ made ++ w ∷ rest → ⊥
  no_next [] rest w e = absurd cc
  no_next (m ∷ made) rest w e = absurd cc

  no_first : (made rest : List Write) → [] ≡ made ++ rest → made ≡ []
  no_first [] rest e = refl
  no_first (m ∷ made) rest e = absurd cc

  -- where hashing is refused, no write is due
  by_torn : (torn : Option Torn) (numbers : List ℕ) (writes : List Write) (e : RehashFault) → numbers_or torn numbers ≡ Err e → writes_or torn writes ≡ []
  by_torn None numbers writes e h = absurd cc
  by_torn (Some torn) numbers writes e h = refl

  none_due : (api : List ℕ) (given : Result (List Version) VersionsFault) (e : RehashFault) → rehash_by given ≡ Err e → writes_by api given ≡ []
  none_due api (Ok vs) e h = by_torn (first_torn vs) (stale_numbers vs) (hash_writes api vs) e h
  none_due api (Err r) e h = refl

  module _ (api : List ℕ) (files : Files) (now : Option Files) where
    abbrev Hashes : Files → Acts
    Hashes = RehashActs api

    abbrev Numbers : Type 0
    Numbers = Result (List ℕ) RehashFault

    carried_hashes : (given : Numbers) (made : List Write) (a : Answer) → rehash_at files api ≡ given → Rehashes (rehash_writes files api) given made a → Hashes files made a
    carried_hashes given made a e h = subst (λ g. Rehashes (rehash_writes files api) g made a) (sym e) h

    unhashed : (e : RehashFault) (a : Answer) → rehash_at files api ≡ Err e → IsUnhashed e a → Hashes files [] a
    unhashed e a is h = carried_hashes (Err e) [] a is (refl, h)

    stopped_by : (given : Numbers) (e : StoreFault) (end : Halt) → rehash_at files api ≡ given → end ≡ halt_by e → LeftAt (rehash_writes files api) (Some files) now faults e → ActsAs asks Hashes (Some files) now faults (Err end)
    stopped_by (Ok numbers) e end is ends left =
        stopped_late Hashes files (rehash_writes files api) (rehashed (length numbers)) (carried_hashes (Ok numbers) _ _ is (refl, refl)) now e end ends left
    stopped_by (Err r) Failed end is ends (call, (made, rest, w, middle, split, wrote, only, called), told) =
        absurd (no_next made rest w (sym (none_due api (versions_at files api) r is) ∙ split))
    stopped_by (Err r) StoreMemory end is ends (made, rest, split, wrote) =
        let none : made ≡ [] = no_first made rest (sym (none_due api (versions_at files api) r is) ∙ split) in
        lost_unwritten Hashes files now (subst (λ ws. Wrote ws (Some files) now) none wrote) end ends

    unhashed_unread : (e : VersionsFault) (end : Halt) → now ≡ Some files → RefusesNumbers (rehash_at files api) (rehash.Versions e) → UnreadEnds (IsUnread e) e end
        → ReadFaultCall (asks (Some files)) faults e → ActsAs asks Hashes (Some files) now faults (Err end)
    unhashed_unread (read.BadVersions missing) end same is ends call = refused_unwritten Hashes files now same (IsUnread (read.BadVersions missing)) end (λ a h. unhashed (rehash.Versions (read.BadVersions missing)) a is h) ends
    unhashed_unread (read.Limit limit) end same is ends call = refused_unwritten Hashes files now same (IsUnread (read.Limit limit)) end (λ a h. unhashed (rehash.Versions (read.Limit limit)) a is h) ends
    unhashed_unread read.ReadFault end same is ends call = failed_unwritten Hashes files now same end ends call
    unhashed_unread read.OutOfMemory end same is ends call = lost_unwritten Hashes files now same end ends

    unhashed_told : (e : RehashFault) (end : Halt) → RefusesNumbers (rehash_at files api) e → Left (rehash_writes files api) (Some files) now faults (Err e) → RehashEnds IsUnhashed e end
        → RehashFaultCall (asks (Some files)) faults e → ActsAs asks Hashes (Some files) now faults (Err end)
    unhashed_told (rehash.Versions e) end is left ends call = unhashed_unread e end left is ends call
    unhashed_told (rehash.Torn torn) end is left ends call = refused_unwritten Hashes files now left (IsUnhashed (rehash.Torn torn)) end (λ a h. unhashed (rehash.Torn torn) a is h) ends
    unhashed_told (rehash.Write e) end is left ends call = stopped_by (rehash_at files api) e end refl ends left
    unhashed_told rehash.OutOfMemory end is left ends call = lost_unwritten Hashes files now left end ends

  module _ (api : List ℕ) where
    pub rehash_done : (before now : Option Files) (numbers : List ℕ) (r : Result Printed Early) → (before ≡ None → now ≡ None)
        → Tells before (λ files. GivesNumbers (rehash_at files api) (Ok numbers)) → Tells before (λ files. Left (rehash_writes files api) (Some files) now faults (Ok numbers))
        → Gives r (rehashed (length numbers)) → ActsAs asks (RehashActs api) before now faults (given r)
    rehash_done None now numbers r untold told wrote gives = untold_given (RehashActs api) now r (untold refl)
    rehash_done (Some files) now numbers r untold told wrote gives =
        gives_told (RehashActs api) files now r (rehashed (length numbers)) gives (rehash_writes files api, carried_hashes api files now (Ok numbers) _ _ told (refl, refl), wrote)

    pub rehash_refused : (before now : Option Files) (e : RehashFault) (end : Halt) → (before ≡ None → now ≡ None)
        → Tells before (λ files. GivesNumbers (rehash_at files api) (Err e)) → Tells before (λ files. Left (rehash_writes files api) (Some files) now faults (Err e))
        → RehashEnds IsUnhashed e end → RehashFaultCall (asks before) faults e → ActsAs asks (RehashActs api) before now faults (Err end)
    rehash_refused None now e end untold told wrote ends call = untold_halt (RehashActs api) now end (untold refl) (rehash_call IsUnhashed e end faults (asks None) ends call)
    rehash_refused (Some files) now e end untold told wrote ends call = unhashed_told api files now e end told wrote ends call
