use Rattle.std.proofs.Common.{◌≡◌, ◌&&◌, drop, take, true, string_bytes}
use Rattle.std.specs.List.{flat_map, list_all}
use Rattle.api_versions.specs.Whole.{is_whole}
use Rattle.version_lines.specs.Lines.{version_line}
use Rattle.version_commands.proofs.verifying.verify_answer.Given as goal

-- the lines of the first versions, and whether all so far are whole, with those that are left
abbrev pub invariant-loop-version : goal.invariant-loop-version
invariant-loop-version l = record {
  lines : l.text.is_whole ≡ true → string_bytes l.text.text ≡ flat_map version_line (take l.version-index l.versions);
  whole : (l.all_whole && list_all is_whole (drop l.version-index l.versions)) ≡ list_all is_whole l.versions;
}
