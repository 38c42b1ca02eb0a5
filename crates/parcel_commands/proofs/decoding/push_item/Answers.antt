use Rattle.std.proofs.Common.{false, None, refl, rules, sym, ◌∙◌, subst}
use Rattle.wire_model.specs.ReadOf.{read_of}
use Rattle.parcel_commands.specs.steps.Items.{PrintsItem}
use Rattle.parcel_commands.proofs.Planned.{refused}
use Rattle.parcel_commands.proofs.decoding.push_item.Goals as goal

pub returns-in-Some : goal.returns-in-Some
returns-in-Some c =
    let S = c.args.decoder.now.schema.now.decls in
    let t = c.args.ty.now in
    let reading = read_of c.args.decoder.now.profile S 64 t false c.args.bytes.now in
    let is = refused c.in-Err.fault c.in-Some.status reading (sym c.status.ensures ∙ c.in-Some.is) (c.in-Err.ensures.exact S t c.requires) in
    subst (λ r. PrintsItem S t r c.args.text.now c.writeln.new.self None) (sym is) (search rules, λ whole. refl)
