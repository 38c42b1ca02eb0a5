use Rattle.std.proofs.Common.{◌≡◌, ◌+◌, ◌-◌, ◌<◌, length, ap, ◌∙◌, arith}
use Rattle.std.specs.Str.{bytes_eq}
use Rattle.std.proofs.lemmas.Map.Text.{hash_map_updates_str}
use Rattle.indexmap.specs.IndexMap.{get_by}
use Rattle.aidl_syntax.specs.Trees.{map_option}
use Rattle.declared_names.specs.MemberViews.{seen_member}
use Rattle.declared_names.specs.Names.{text}
use Rattle.declared_names.proofs.lemmas.Named.{goes_before}
use Rattle.declared_names.proofs.members_named.by_name.Goals as goal

-- the member, or else what was there
pub loop-i-preserved : goal.loop-i-preserved
loop-i-preserved c = λ bytes.
    let ms = c.args.members.now in
    let x = c.index-members-i.result in
    let next : c.loop-i.i ≡ c.loop-i.i - 1 + 1 = omega arith in
    let lt : c.loop-i.i - 1 < length ms = omega arith in
    ap (map_option seen_member) (hash_map_updates_str c.as_str.result.now c.loop-i.table c.insert.new.self _ c.in_ok-insert.ensures.updates bytes)
    ∙ goes_before ms c.loop-i.i (c.loop-i.i - 1) x c.as_str.result.now bytes (get_by (λ k. bytes_eq bytes k.now) c.loop-i.table) next lt c.index-members-i.is
    (c.as_str.ensures.bytes ∙ ap (λ n. text n.name) c.name_of.ensures) (c.loop-i.invariant bytes)
