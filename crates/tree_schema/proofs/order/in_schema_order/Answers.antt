use Rattle.std.proofs.Common.{◌≡◌, refl, sym, arith, rules, map, ap, ◌∙◌}
use Rattle.std.specs.Prelude.{string_bytes}
use Rattle.std.specs.List.{fold, enumerate_from}
use Rattle.std.specs.Str.{encode_utf8_all}
use Rattle.std.proofs.lemmas.List.{at_drop_all}
use Rattle.std.proofs.lemmas.Simd.{map-map}
use Rattle.aidl_base.specs.Names.{dotted}
use Rattle.declared_names.specs.Entries.{entry_of}
use Rattle.tree_schema.specs.Keyed.{values_at}
use Rattle.tree_schema.specs.Numbers.{put, sorted}
use Rattle.tree_schema.specs.TreeViews.{numbered_of}
use Rattle.tree_schema.proofs.InOrder.{key, next_in}
use Rattle.tree_schema.proofs.Keyed.{went}
use Rattle.tree_schema.proofs.order.in_schema_order.Goals as goal

pub loop-i-preserved : goal.loop-i-preserved
loop-i-preserved c =
    let w =
    went (λ t. string_bytes t) numbered_of key _ (λ a b. refl) c.in_ok-text.text _ (c.in_ok-text.ensures.ok ∙ c.as_str.ensures.bytes ∙ ap encode_utf8_all (c.in_ok-name.ensures ∙ ap dotted c.as_slice.ensures)) c.loop-i.places.entries c.insert.new.self.entries
    c.in_ok-insert.ensures.entries c.loop-i.invariant.0 in (
      w.0,
      next_in (map (λ e. numbered_of e.1) c.loop-i.places.entries) (map (λ e. numbered_of e.1) c.insert.new.self.entries) _ c.args.found.now c.index-found-i.result c.loop-i.i _
          (omega arith) c.index-found-i.is refl w.1 c.loop-i.invariant.1,
    )

pub returns : goal.returns
unfolding sorted
returns c =
    let entries = c.loop-i.places.entries in
    let collected : c.in_ok-collect.field-0.items ≡ values_at entries = search rules in
    ap (map numbered_of) collected ∙ map-map numbered_of (λ e. e.1) entries
    ∙ sym (at_drop_all (λ fs. fold put (map (λ e. numbered_of e.1) entries) (enumerate_from c.loop-i.i (map entry_of fs))) c.args.found.now c.loop-i.i (omega arith)) ∙ c.loop-i.invariant.1
