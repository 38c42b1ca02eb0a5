use Rattle.std.proofs.Common.{◌≡◌, map, drop, is_none, string_bytes}
use Rattle.std.specs.List.{fold, filter, enumerate_from}
use Rattle.api_dump.specs.Dump.{placed, file_of, dump_text}
use Rattle.api_dump.proofs.dumping.texts.Given as goal

-- the files so far, and those that are left
abbrev pub invariant-loop-i : goal.invariant-loop-i
invariant-loop-i l =
    fold placed (map (λ e. (string_bytes e.0, string_bytes e.1)) l.texts.entries) (map (file_of l.decls) (filter (λ x. is_none x.1.outer) (enumerate_from l.i (drop l.i l.decls)))) ≡ dump_text l.decls
