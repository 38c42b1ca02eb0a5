-- `run` runs the one course of the schemas that both trees have.
use Rattle.std.proofs.Common.{◌≡◌, ℕ, Bool, List, Option, Some, None, Ok, Err, refl, sym, ap, ◌∙◌, subst, arith, inl, inr}
use Rattle.std.specs.Prelude.{◌≤◌}
use Rattle.aidl_base.specs.declared.limit.LimitName.TheVariants.{TextBytes}
use Rattle.aidl_base.specs.declared.profile.Profile.{Profile}
use Rattle.aidl_base.specs.declared.source_file.SourceFile.{SourceFile}
use Rattle.aidl_outside.specs.Files.{Files}
use Rattle.aidl_outside.specs.Asks.{Asks}
use Rattle.aidl_outside.specs.Faults.{StoreFaults}
use Rattle.aidl_outside.specs.Told.{Tells}
use Rattle.aidl_outside.proofs.lemmas.Telling.{tells}
use Rattle.aidl_schema.specs.declared.schema.Decl.{Decl}
use Rattle.tree_commands.specs.Opens.{HasSchema, IsChecked}
use Rattle.run_command.specs.Running.{IsCallsText, RunTakes, RunsLoaded, Takes, TakesThen, run_course}
use Rattle.run_command.specs.declared.command.Prepared.{Prepared}
use Rattle.tree_commands.specs.Both.{AreBoth, IsFaultOfOne, PassesOne}
use Rattle.tree_commands.specs.ByTree.{ByBoth, OverBoth}
use Rattle.run_command.specs.steps.Preparing.{IsPrepared, IsUnprepared}
use Rattle.run_command.specs.Tags.{EndsProjected, ProjectsChecked}
use Rattle.run_command.proofs.lemmas.CourseEnds.{alone}
use Rattle.tree_commands.proofs.lemmas.Reading.{both_faulty, both_found, both_long, has_schema}
use Rattle.run_command.specs.CallLines.{lines_held, lines_of, within_lines}
use Rattle.run_command.specs.Projected.{projected_text}
use Rattle.tool_frame.specs.declared.halt.Halt.{Halt}
use Rattle.tool_frame.specs.declared.halt.Halt.TheVariants.{Answered, StoreFailed, OutOfMemory}
use Rattle.tool_frame.specs.Answer.{Answer, Found, Then}
use Rattle.tool_frame.specs.Ends.{EndsRead}
use Rattle.tool_frame.specs.Halts.{Gets}
use Rattle.tool_frame.specs.Course.{AtOnce, Course, at_once}
use Rattle.tool_frame.specs.Refusals.{file_at, there}
use Rattle.tool_frame.specs.Seen.{Seen, StoreSeen}
use Rattle.tool_frame.specs.Trees.{tree_at}
use Rattle.tool_frame.proofs.lemmas.Endings.{not_verdict}
use Rattle.tool_frame.proofs.lemmas.Halts.{told_always}
use Rattle.tree_commands.proofs.lemmas.OneAnswer.{never_faulty, one_schema}
use Rattle.type_check.specs.Checked.{IsSchemaOf}

-- a schema of a tree is one of the files that were loaded of it
schema_of : (tree : Found (List SourceFile)) (files : List SourceFile) (S : List Decl) → tree ≡ Ok files → HasSchema tree S → IsSchemaOf files S
schema_of (Err passed) files S e h = absurd h
schema_of (Ok sources) files S e h = let same : sources ≡ files = cc in subst (λ fs. IsSchemaOf fs S) same h

one_checked : (tree : Found (List SourceFile)) (S T : List Decl) → HasSchema tree S → HasSchema tree T → S ≡ T
one_checked (Ok sources) S T s t = one_schema sources S T s t
one_checked (Err passed) S T s t = absurd s

one_text : (file : Option (Found (List ℕ))) (t u : List ℕ) → file ≡ Some (Ok t) → file ≡ Some (Ok u) → t ≡ u
one_text file t u h k = let same : ◌≡◌ {A = Option (Found (List ℕ))} (Some (Ok t)) (Some (Ok u)) = sym h ∙ k in cc

held_there : (path : List ℕ) (file : Option (Found (List ℕ))) (held : Found (List ℕ)) → there path file ≡ Ok held → file ≡ Some held
held_there path None held e = absurd cc
held_there path (Some x) held e = let same : x ≡ held = cc in ap Some same

-- a text of lines that passes no limit is the file's
text_held : (held : Found (List ℕ)) (text : List ℕ) → lines_held held ≡ Ok text → held ≡ Ok text
text_held (Ok bytes) text e = let same : bytes ≡ text = grind arith in ap (λ t. let h : Found (List ℕ) = Ok t in h) same
text_held (Err passed) text e = absurd cc

-- The course of a run, by the file of its calls and by two trees.
module _ (p : Profile) (trace : Bool) (client server calls : List ℕ) where
  abbrev RunsOver : Found (List SourceFile) → Found (List SourceFile) → Found (List ℕ) → Takes
  RunsOver first second held = OverBoth AtOnce first second (λ olds news. RunsLoaded p trace client olds server news held)

  abbrev Runs : Option (Found (List ℕ)) → Found (List SourceFile) → Found (List SourceFile) → Takes
  Runs file first second = TakesThen (there calls file) (RunsOver first second)

  unread : (file : Option (Found (List ℕ))) (first second : Found (List SourceFile)) (a : Answer) → there calls file ≡ Err a → Runs file first second (at_once a)
  unread file first second a e = subst (λ f. TakesThen f (RunsOver first second) (at_once a)) (sym e) refl

  read : (file : Option (Found (List ℕ))) (first second : Found (List SourceFile)) (held : Found (List ℕ)) (course : Course) → there calls file ≡ Ok held → RunsOver first second held course → Runs file first second course
  read file first second held course e h = subst (λ f. TakesThen f (RunsOver first second) course) (sym e) h

  passes : (first second : Found (List SourceFile)) (held : Found (List ℕ)) (a : Answer) → Then first (λ olds passed. second ≡ Err passed) a → RunsOver first second held (at_once a)
  passes first second held a h = both_long AtOnce (λ olds news. RunsLoaded p trace client olds server news held) (at_once a) a refl first second h

  loaded : (first second : Found (List SourceFile)) (held : Found (List ℕ)) (olds news : List SourceFile) (course : Course) → first ≡ Ok olds → second ≡ Ok news
      → RunsLoaded p trace client olds server news held course → RunsOver first second held course
  loaded first second held olds news course e f h = both_found AtOnce (λ olds news. RunsLoaded p trace client olds server news held) course first second olds news e f h

  module _ (olds news : List SourceFile) (held : Found (List ℕ)) where
    abbrev Checks : List ℕ → Takes
    Checks text = ByBoth AtOnce client olds server news (λ A B course. course ≡ run_course p A B trace text)

    long : (a : Answer) → lines_held held ≡ Err a → RunsLoaded p trace client olds server news held (at_once a)
    long a e = subst (λ t. TakesThen t Checks (at_once a)) (sym e) refl

    short : (text : List ℕ) (course : Course) → lines_held held ≡ Ok text → Checks text course → RunsLoaded p trace client olds server news held course
    short text course e h = subst (λ t. TakesThen t Checks course) (sym e) h

    one_faulty : (text : List ℕ) (a : Answer) → IsFaultOfOne client olds server news a → Checks text (at_once a)
    one_faulty text a is = both_faulty AtOnce client server (λ A B course. course ≡ run_course p A B trace text) (at_once a) olds news a refl is

  -- where both trees are checked and the text is there
  takes_by : (file : Option (Found (List ℕ))) (first second : Found (List SourceFile)) (A B : List Decl) (text : List ℕ) → HasSchema first A → HasSchema second B → file ≡ Some (Ok text) → within_lines text ≡ Ok text
      → Runs file first second (run_course p A B trace text)
  takes_by file (Ok olds) (Ok news) A B text a b e within =
      read file (Ok olds) (Ok news) (Ok text) (run_course p A B trace text) (ap (there calls) e)
      (short olds news (Ok text) text (run_course p A B trace text) within (inr (A, a, inr (B, b, refl))))
  takes_by file (Ok olds) (Err passed) A B text a b e within = absurd b
  takes_by file (Err passed) second A B text a b e within = absurd a

-- where both trees are checked and the text is there
pub checked_takes : (p : Profile) (trace : Bool) (client server calls : List ℕ) (files : Files) (A B : List Decl) (text : List ℕ) → IsChecked files client A → IsChecked files server B → IsCallsText files calls text
    → RunTakes p trace client server calls files (run_course p A B trace text)
checked_takes p trace client server calls files A B text a b t =
    takes_by p trace client server calls (file_at TextBytes files calls) (tree_at files client) (tree_at files server) A B text a b t.0 t.1

pub prepared_takes : (p : Profile) (trace : Bool) (client server calls : List ℕ) (files : Files) (r : Prepared) → IsPrepared client server calls files r
    → (course : Course) → course ≡ run_course p r.client.decls r.server.decls trace r.text.items → RunTakes p trace client server calls files course
prepared_takes p trace client server calls files r (a, b, t) course e =
    subst (RunTakes p trace client server calls files) (sym e) (checked_takes p trace client server calls files r.client.decls r.server.decls r.text.items a b t)

-- Why nothing is prepared.
module _ (client server calls : List ℕ) (files : Files) (a : Answer) where
  -- no file is there
  pub no_calls : there calls (file_at TextBytes files calls) ≡ Err a → IsUnprepared client server calls files a
  no_calls e = (
    λ p trace. unread p trace client server calls (file_at TextBytes files calls) (tree_at files client) (tree_at files server) a e,
    λ A B text is_a is_b t. let found : ◌≡◌ {A = Found (Found (List ℕ))} (there calls (Some (Ok text))) (Err a) = subst (λ f. there calls f ≡ Err a) t.0 e in absurd (cc),
  )

  module _ (held : Found (List ℕ)) (is_there : there calls (file_at TextBytes files calls) ≡ Ok held) where
    -- a tree passes a limit
    pub no_trees : PassesOne client server files a → IsUnprepared client server calls files a
    no_trees h = (
      λ p trace. read p trace client server calls (file_at TextBytes files calls) (tree_at files client) (tree_at files server) held (at_once a) is_there
          (passes p trace client server calls (tree_at files client) (tree_at files server) held a h),
      λ A B text is_a is_b t. never (tree_at files client) (tree_at files server) A B h is_a is_b,
    )
      where
        never : (first second : Found (List SourceFile)) (A B : List Decl) → Then first (λ olds passed. second ≡ Err passed) a → HasSchema first A → HasSchema second B → ⊥
        never (Ok olds) second A B e is_a is_b = subst (λ t. HasSchema t B) e is_b
        never (Err passed) second A B e is_a is_b = is_a

    module _ (olds news : List SourceFile) (both : AreBoth client server files (olds, news)) where
      taken : (p : Profile) (trace : Bool) (course : Course) → RunsLoaded p trace client olds server news held course → RunTakes p trace client server calls files course
      taken p trace course h =
          read p trace client server calls (file_at TextBytes files calls) (tree_at files client) (tree_at files server) held course is_there
          (loaded p trace client server calls (tree_at files client) (tree_at files server) held olds news course both.0 both.1 h)

      -- the text passes a limit
      pub no_text : lines_held held ≡ Err a → IsUnprepared client server calls files a
      no_text e = (
        λ p trace. taken p trace (at_once a) (long p trace client server calls olds news held a e),
        λ A B text is_a is_b t.
            let same : held ≡ Ok text = held_as text t.0 in
            let within : within_lines text ≡ Ok text = t.1 in
            let found : within_lines text ≡ Err a = subst (λ h. lines_held h ≡ Err a) same e in
            let never : ◌≡◌ {A = Found (List ℕ)} (Ok text) (Err a) = sym within ∙ found in absurd (cc),
      )
        where
          held_as : (text : List ℕ) → file_at TextBytes files calls ≡ Some (Ok text) → held ≡ Ok text
          held_as text is =
              let same : ◌≡◌ {A = Option (Found (List ℕ))} (Some held) (Some (Ok text)) = sym (held_there calls (file_at TextBytes files calls) held is_there) ∙ is in cc

      module _ (text : List ℕ) (within : lines_held held ≡ Ok text) where
        -- one of the trees isn't checked
        pub no_schemas : IsFaultOfOne client olds server news a → IsUnprepared client server calls files a
        no_schemas is = (
          λ p trace. taken p trace (at_once a) (short p trace client server calls olds news held text (at_once a) within (one_faulty p trace client server calls olds news held text a is)),
          λ A B t is_a is_b given. never A B (schema_of (tree_at files client) olds A both.0 is_a) (schema_of (tree_at files server) news B both.1 is_b) is,
        )
          where
            never : (A B : List Decl) → IsSchemaOf olds A → IsSchemaOf news B → IsFaultOfOne client olds server news a → ⊥
            never A B is_a is_b (inl (refusal, faulty, same)) = never_faulty client olds A refusal is_a faulty
            never A B is_a is_b (inr (S, schema, faulty)) = never_faulty server news B a is_b faulty

-- all is prepared
pub all_prepared : (client server calls : List ℕ) (files : Files) (r : Prepared) (held : Found (List ℕ)) (olds news : List SourceFile) → there calls (file_at TextBytes files calls) ≡ Ok held
    → AreBoth client server files (olds, news) → lines_held held ≡ Ok r.text.items → IsSchemaOf olds r.client.decls → IsSchemaOf news r.server.decls → IsPrepared client server calls files r
all_prepared client server calls files r held olds news is_there both within a b =
    let same : held ≡ Ok r.text.items = text_held held r.text.items within in (
      has_schema (tree_at files client) olds r.client.decls both.0 a,
      has_schema (tree_at files server) news r.server.decls both.1 b,
      (held_there calls (file_at TextBytes files calls) held is_there ∙ ap Some same, subst (λ h. lines_held h ≡ Ok r.text.items) same within),
    )

module _ (p : Profile) (trace : Bool) (client server calls : List ℕ) (before now : Seen) where
  -- a run that was stopped
  stopped : (exit : ℕ) → 2 ≤ exit → exit ≤ 6 → (files : Files) → ProjectsChecked p trace client server calls before now exit files
  stopped exit low high files A B text a b t one faithful verdict = absurd (not_verdict exit low high verdict)

  -- one of what was prepared
  pub prepared_projects : (exit : ℕ) (files : Files) (r : Prepared) → IsPrepared client server calls files r
      → EndsProjected r.client.decls r.server.decls (projected_text p r.client.decls r.server.decls trace 1 (lines_of r.text.items)) (alone before) (alone now) exit
      → ProjectsChecked p trace client server calls before now exit files
  prepared_projects exit files r is projects A B text a b t =
      subst (λ (S : List Decl). Said S B text) (one_checked (tree_at files client) r.client.decls A is.0 a)
      (subst (λ (S : List Decl). Said r.client.decls S text) (one_checked (tree_at files server) r.server.decls B is.1 b)
      (subst (λ (u : List ℕ). Said r.client.decls r.server.decls u) (one_text (file_at TextBytes files calls) r.text.items text is.2.0 t.0) projects))
    where
      Said : List Decl → List Decl → List ℕ → Type 0
      Said S T u = EndsProjected S T (projected_text p S T trace 1 (lines_of u)) before now exit

  -- one that halted
  pub halted_projects : (asks : Asks) (store : StoreSeen) (faults : StoreFaults) (exit : ℕ) (halt : Halt)
      → Gets {T = Prepared} asks (IsPrepared client server calls) (IsUnprepared client server calls) (record { kept = before.kept; faults = faults }) store (Err halt)
      → EndsRead (Err halt) before.told now.told before.sink_faults now.sink_faults exit → Tells before.kept (ProjectsChecked p trace client server calls before now exit)
  halted_projects asks store faults exit (Answered a) gets ends =
      tells before.kept _ _ (λ files never A B text is_a is_b t. absurd (never.1 A B text is_a is_b t)) gets.said
  halted_projects asks store faults exit StoreFailed gets ends = let three : exit ≡ 3 = ends.exits in told_always before.kept (stopped exit (omega arith) (omega arith))
  halted_projects asks store faults exit OutOfMemory gets ends = let five : exit ≡ 5 = ends.exits in told_always before.kept (stopped exit (omega arith) (omega arith))
