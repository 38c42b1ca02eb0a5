use Rattle.std.proofs.Common.{◌≡◌, ◌+◌, ◌-◌, ◌<◌, length, sym, ap, ◌∙◌, subst, arith}
use Rattle.aidl_schema.specs.declared.schema.Field.{Field}
use Rattle.json_writing.specs.Named.{bytes_of}
use Rattle.json_writing.proofs.Rows.{ArePlacedFrom, entered}
use Rattle.json_writing.proofs.members.places_by_name.Goals as goal

pub loop-i-preserved : goal.loop-i-preserved
loop-i-preserved c =
    let fs = c.args.fields.now in
    let next : c.loop-i.i ≡ c.loop-i.i - 1 + 1 = omega arith in
    let lies : c.loop-i.i - 1 < length fs = omega arith in
    entered fs (c.loop-i.i - 1) c.index-fields-i.result c.as_str.result c.loop-i.places.entries c.insert.new.self.entries lies c.index-fields-i.is (c.as_str.ensures.bytes ∙ ap (λ (f : Field). bytes_of f.name) (sym c.index-fields-i.is)) c.in_ok-insert.ensures.entries
    (subst (λ j. ArePlacedFrom fs j c.loop-i.places.entries) next c.loop-i.invariant)
