use Rattle.std.proofs.Common.{◌≡◌, ◌+◌, ◌-◌, ◌<◌, length, ap, ◌∙◌, arith}
use Rattle.std.specs.Str.{bytes_eq}
use Rattle.std.proofs.lemmas.Map.Text.{hash_map_updates_str}
use Rattle.indexmap.specs.IndexMap.{get_by}
use Rattle.aidl_schema.specs.Names.{bytes_of}
use Rattle.name_tables.specs.Places.{has_name}
use Rattle.name_tables.proofs.lemmas.Tables.{entered}
use Rattle.name_tables.proofs.name_table.places_of.Goals as goal

pub loop-i-preserved : goal.loop-i-preserved
loop-i-preserved g c = λ q.
    let ms = c.args.members.now in
    let next : c.loop-i.i ≡ c.loop-i.i - 1 + 1 = omega arith in
    let lt : c.loop-i.i - 1 < length ms = omega arith in
    entered (λ m. has_name g.M.Called.called q m) ms c.loop-i.i (c.loop-i.i - 1) c.index-members-i.result (bytes_eq c.as_str.result.now q) _
    (get_by (λ k. bytes_eq q k.now) c.loop-i.table) next lt c.index-members-i.is
    (ap (λ bytes. bytes_eq bytes q) c.as_str.ensures.bytes ∙ ap (λ n. bytes_eq (bytes_of n) q) c.name.ensures)
    (hash_map_updates_str c.as_str.result.now c.loop-i.table c.insert.new.self _ c.in_ok-insert.ensures.updates q) (c.loop-i.invariant q)
