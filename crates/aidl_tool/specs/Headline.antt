-- The headline (own). Wherever the judge accepts two checked trees, every well-typed call carried unaltered between
-- them, either way, prints the written projection: common fields unchanged, documented defaults for what the sender
-- lacks, UNKNOWN_TRANSACTION for a method that the receiver lacks, BAD_VALUE for a union tag unknown there outside
-- dropped fields. The judge refuses exactly where a written evolution rule is broken, listing every broken rule.
use Rattle.std.specs.Prelude.{◌≡◌, ◌≢◌, ℕ, Bool, true, List, [], Option, Some, Ok, Err}
use Rattle.aidl_outside.specs.Files.{Files}
use Rattle.aidl_outside.specs.Told.{Adds}
use Rattle.aidl_schema.specs.Broken.{broken}
use Rattle.aidl_schema.specs.declared.schema.Decl.{Decl}
use Rattle.aidl_values.specs.Data.{Data, Items}
use Rattle.run_command.specs.Running.{IsCallsText, neither}
use Rattle.tree_commands.specs.Opens.{IsChecked}
use Rattle.aidl_tool.specs.Between.{AnswerSeen, Answered, ArgumentsSeen, CallRun, HasSeen, IsKnownAnswered}
use Rattle.aidl_tool.specs.Between.{IsKnownSent, IsUnknownAnswered, IsUnknownSent, LacksMethod, Prints}
use Rattle.call_runner.specs.Lines.{transport, done}
use Rattle.call_runner.specs.Runs.{projected}
use Rattle.call_scripts.specs.Calls.{callee}
use Rattle.parcel_commands.specs.Decode.{profile_of}
use Rattle.run_command.specs.CallLines.{lines_of}
use Rattle.run_command.specs.Projected.{projected_text}
use Rattle.tool_frame.specs.declared.exit.Exit.TheVariants.{Done, Negative}
use Rattle.tool_frame.specs.Exit.{number_of}
use Rattle.tool_frame.specs.Seen.{Seen}
use Rattle.tool_frame.specs.Verdict.{IsVerdict}
use Rattle.tool_words.specs.Command.{Command, judge, run}
use Rattle.tree_commands.specs.Judged.{judged}
use Rattle.wire_model.specs.Calls.{returned}
use Rattle.wire_model.specs.MethodOf.{method_of}
use Rattle.wire_model.specs.Outcome.{OneFollows, Reaches}
use Rattle.wire_model.specs.Status.{bad_value, unknown_transaction}

-- of words, over a store that told these files: A is the schema of OLD or CLIENT, B that of NEW or SERVER
pub record Headline (words : Option Command) (before now : Seen) (exit : ℕ) (files : Files) : Type 0 where
  -- the judge accepts two checked trees
  pub accepts : (old new : List ℕ) (A B : List Decl) → words ≡ Some (judge old new) → IsChecked files old A
      → IsChecked files new B → broken A B ≡ [] → IsVerdict exit
      → (exit ≡ number_of Done) × Adds before.told now.told (judged []).text
  -- every well-typed call (each other line is its refusal), carried unaltered between them, either way, prints the
  -- written projection
  pub prints : (trace lenient : Bool) (client server calls text : List ℕ) (A B : List Decl)
      → words ≡ Some (run trace lenient client server calls)
      → IsChecked files client A → IsChecked files server B → IsCallsText files calls text
      → before.is_faithful ≡ true → OneFollows A B → IsVerdict exit
      → (exit ≡ number_of Done)
      × Adds before.told now.told (projected_text (profile_of lenient) A B trace 1 (lines_of text))
  pub prints_each : (x : CallRun words before exit files) → Prints x now (projected x.client x.server (Ok x.call))
  -- common fields unchanged, and documented defaults for what the sender lacks: in what the handler sees, and in
  -- what the client has, of the line that `prints_each` says is printed
  pub seen_sent : (x : CallRun words before exit files) (j n : ℕ)
      → Reaches (callee x.client x.call) (method_of x.server j n)
      → IsKnownSent x.client x.server x.call j n
      → (saw : Items) × ArgumentsSeen x.client x.server x.call j n saw
      × HasSeen (projected x.client x.server (Ok x.call)) saw
  pub seen_answered : (x : CallRun words before exit files) (j n : ℕ) (result : Option Data) (outs : Items)
      → Answered x.server x.call j n result outs
      → IsKnownSent x.client x.server x.call j n → IsKnownAnswered x.client x.server x.call j n result outs
      → (saw : Items) × (r : Option Data) × (vs : Items) × AnswerSeen x.client x.server x.call j n result outs r vs
      × (projected x.client x.server (Ok x.call) ≡ done (Some saw) (Ok (returned r vs)))
  -- UNKNOWN_TRANSACTION for a method that the receiver lacks
  pub unknown_transaction : (x : CallRun words before exit files) → LacksMethod x.client x.server x.call
      → Prints x now (transport unknown_transaction)
  -- BAD_VALUE for a union tag unknown there outside dropped fields: the transport's status, or the client's
  pub bad_value_sent : (x : CallRun words before exit files) (j n : ℕ)
      → Reaches (callee x.client x.call) (method_of x.server j n)
      → IsUnknownSent x.client x.server x.call j n
      → Prints x now (transport bad_value)
  pub bad_value_answered : (x : CallRun words before exit files) (j n : ℕ) (result : Option Data) (outs : Items)
      → Answered x.server x.call j n result outs
      → IsKnownSent x.client x.server x.call j n → IsUnknownAnswered x.client x.server x.call j n result outs
      → (saw : Items) × ArgumentsSeen x.client x.server x.call j n saw
      × (projected x.client x.server (Ok x.call) ≡ done (Some saw) (Err bad_value))
  -- the judge refuses exactly where a rule is broken, listing every broken rule
  pub refuses : (old new : List ℕ) (A B : List Decl) → words ≡ Some (judge old new) → IsChecked files old A
      → IsChecked files new B → broken A B ≢ [] → IsVerdict exit
      → (exit ≡ number_of Negative) × Adds before.told now.told (judged (broken A B)).text
  -- before a run, where neither may follow the other: every rule that is broken in each order
  pub refuses_both : (trace lenient : Bool) (client server calls text : List ℕ) (A B : List Decl)
      → words ≡ Some (run trace lenient client server calls)
      → IsChecked files client A → IsChecked files server B → IsCallsText files calls text → broken A B ≢ []
      → broken B A ≢ [] → IsVerdict exit
      → (exit ≡ number_of Negative) × Adds before.told now.told (neither (broken A B) (broken B A)).text
