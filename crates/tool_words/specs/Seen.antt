-- What the code's own types stand for.
use Rattle.std.specs.Prelude.{ℕ, Bool, true, false, List, Option}
use Rattle.std.specs.Option.{option_map}
use Rattle.std.specs.Borrow.{Bor}
use Rattle.aidl_base.specs.declared.profile.Profile.{Profile}
use Rattle.aidl_base.specs.declared.profile.Profile.TheVariants.{Strict, Lenient}
use Rattle.tool_words.specs.declared.command.Command.{Command}
use Rattle.tool_words.specs.declared.command.Command.TheVariants.{Decode, Encode, Check, Dump, Freeze, Verify}
use Rattle.tool_words.specs.declared.command.Command.TheVariants.{Rehash, Judge, Witness, Run, Make, Ask, Explain}
use Rattle.tool_words.specs.declared.command.Command.TheVariants.{Replay}
use Rattle.tool_words.specs.declared.entry.Entry as code
use Rattle.tool_words.specs.Command as command
use Rattle.tool_words.specs.Entries as entries

abbrev pub tree_seen : Option (Bor (List ℕ)) → Option (List ℕ)
tree_seen tree = option_map (λ path. path.now) tree

-- the option `--lenient` stands
abbrev pub is_lenient : Profile → Bool
is_lenient Strict = false
is_lenient Lenient = true

abbrev pub command_seen : Command → command.Command
command_seen (Decode profile f) = command.decode (is_lenient profile) (tree_seen f.tree) f.types.now f.path.now
command_seen (Encode f) = command.encode (tree_seen f.tree) f.types.now f.path.now
command_seen (Check tree) = command.check tree.now
command_seen (Dump tree out) = command.dump tree.now out.now
command_seen (Freeze tree api) = command.freeze tree.now api.now
command_seen (Verify api) = command.verify api.now
command_seen (Rehash api) = command.rehash api.now
command_seen (Judge old new) = command.judge old.now new.now
command_seen (Witness old new) = command.witness old.now new.now
command_seen (Run w) = command.run w.trace (is_lenient w.profile) w.client.now w.server.now w.calls.now
command_seen (Make count out) = command.make count out.now
command_seen (Ask w) = command.ask w.api.now w.version w.interface.now w.code w.path.now
command_seen (Explain f) = command.explain (tree_seen f.tree) f.types.now f.path.now
command_seen (Replay w) = command.replay w.server.now w.interface.now w.trace.now

abbrev pub entry_seen : code.Entry → entries.Entry
entry_seen entry = record { name = entry.name.now; form = entry.form; nullable = entry.nullable }
