-- What a run between two schemas gives the headline: its projection, that tags alone hinder a view, and that calls fit.
use Rattle.std.specs.Prelude.{◌≡◌, ℕ, Bool, true, List}
use Rattle.aidl_base.specs.declared.profile.Profile.{Profile}
use Rattle.aidl_outside.specs.Files.{Files}
use Rattle.aidl_outside.specs.Told.{Adds}
use Rattle.aidl_schema.specs.declared.schema.Decl.{Decl}
use Rattle.call_scripts.specs.Script.{ScriptsFit}
use Rattle.run_command.specs.CallLines.{lines_of}
use Rattle.run_command.specs.Projected.{projected_text}
use Rattle.run_command.specs.Running.{IsCallsText}
use Rattle.tool_frame.specs.declared.exit.Exit.TheVariants.{Done}
use Rattle.tool_frame.specs.Exit.{number_of}
use Rattle.tool_frame.specs.Seen.{Seen}
use Rattle.tool_frame.specs.Verdict.{IsVerdict}
use Rattle.tree_commands.specs.Opens.{IsChecked}
use Rattle.wire_model.specs.MethodOf.{method_of}
use Rattle.wire_model.specs.Outcome.{OneFollows}
use Rattle.wire_model.specs.Unknown.{TagsHinderAnswered, TagsHinderSent}

-- Values of a call have no view exactly where a tag in them is unknown (`law_call_none` of `wire_model`); what
-- lines mean as calls fits (`law_script_fits` of `call_scripts`).
pub record SchemasGive (A B : List Decl) : Type 0 where
  pub sent : (i m j n : ℕ) → TagsHinderSent (method_of A i m) (method_of B j n)
  pub answered : (i m j n : ℕ) → TagsHinderAnswered (method_of A i m) (method_of B j n)
  pub fits : ScriptsFit A B

-- Where one of two trees may follow the other, and the link delivers what was sent, a run that ends with a verdict
-- is done, has put this text, and gives the above.
abbrev pub EndsProjected : List Decl → List Decl → List ℕ → Seen → Seen → ℕ → Type 0
EndsProjected A B text before now exit = OneFollows A B → before.is_faithful ≡ true → IsVerdict exit
    → (exit ≡ number_of Done) × Adds before.told now.told text × SchemasGive A B

-- the same of a run over files, of the schemas that both trees have and the text of the calls file
abbrev pub ProjectsChecked : Profile → Bool → List ℕ → List ℕ → List ℕ → Seen → Seen → ℕ → Files → Type 0
ProjectsChecked p trace client server calls before now exit files = (A B : List Decl) (text : List ℕ)
    → IsChecked files client A → IsChecked files server B → IsCallsText files calls text
    → EndsProjected A B (projected_text p A B trace 1 (lines_of text)) before now exit
