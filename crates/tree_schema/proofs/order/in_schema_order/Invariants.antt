use Rattle.std.proofs.Common.{◌≡◌, map, drop, []}
use Rattle.std.specs.Prelude.{string_bytes}
use Rattle.std.specs.List.{fold, enumerate_from}
use Rattle.declared_names.specs.Entries.{entry_of}
use Rattle.tree_schema.specs.Keyed.{IsKeyed}
use Rattle.tree_schema.specs.Numbers.{bytes_of, put}
use Rattle.tree_schema.specs.TreeViews.{numbered_of}
use Rattle.tree_schema.proofs.order.in_schema_order.Given as goal

-- each declaration so far stands at its name, and these are in order
abbrev pub invariant-loop-i : goal.invariant-loop-i
invariant-loop-i l =
    IsKeyed (λ t. string_bytes t) (λ p. bytes_of (numbered_of p).1) l.places.entries
    × (fold put (map (λ e. numbered_of e.1) l.places.entries) (enumerate_from l.i (map entry_of (drop l.i l.found))) ≡ fold put [] (enumerate_from 0 (map entry_of l.found)))
