-- What `run` has prepared.
use Rattle.std.specs.Prelude.{ℕ, Bool, List}
use Rattle.aidl_base.specs.declared.profile.Profile.{Profile}
use Rattle.aidl_outside.specs.Files.{Files}
use Rattle.aidl_schema.specs.declared.schema.Decl.{Decl}
use Rattle.run_command.specs.declared.command.Prepared.{Prepared}
use Rattle.run_command.specs.Running.{IsCallsText, RunTakes}
use Rattle.tree_commands.specs.Opens.{IsChecked}
use Rattle.tool_frame.specs.Answer.{Answer}
use Rattle.tool_frame.specs.Course.{at_once}

-- both trees are checked, with these schemas, and this is the text of the calls file
abbrev pub IsPrepared : List ℕ → List ℕ → List ℕ → Files → Prepared → Type 0
IsPrepared client server calls files r = IsChecked files client r.client.decls
    × IsChecked files server r.server.decls × IsCallsText files calls r.text.items

-- by either profile, traced or not, this is printed at once; and not both trees are checked with a text of the
-- calls file
abbrev pub IsUnprepared : List ℕ → List ℕ → List ℕ → Files → Answer → Type 0
IsUnprepared client server calls files a =
    ((p : Profile) (trace : Bool) → RunTakes p trace client server calls files (at_once a))
    × ((A B : List Decl) (text : List ℕ) → IsChecked files client A → IsChecked files server B
    → IsCallsText files calls text → ⊥)
