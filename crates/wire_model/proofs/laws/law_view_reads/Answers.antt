use Rattle.std.proofs.Common.{◌≡◌, Option, subst}
use Rattle.aidl_values.specs.Data.{Data}
use Rattle.aidl_values.specs.View.{view}
use Rattle.wire_model.specs.Spell.{spell}
use Rattle.wire_model.specs.View.{view_of}
use Rattle.wire_model.proofs.told.All.{reads_type}
use Rattle.wire_model.proofs.viewed.Parts.{ReadsOrStops}
use Rattle.wire_model.proofs.viewed.Reads.{view_reads}
use Rattle.wire_model.proofs.laws.law_view_reads.Goals as goal

pub returns : goal.returns
returns c =
    let p = c.args.profile in
    let A = c.args.a.now.decls in
    let B = c.args.b.now.decls in
    let t = c.args.t.now in
    let u = c.args.u.now in
    let v = view c.args.value.now in
    let law = view_reads p A B (c.law_meets.ensures c.requires.unbroken) 64 t u v c.requires.same c.requires.fits.typed c.requires.fits.deep c.requires.small in
    let outcome : (o : Option Data) → view_of A t B u v ≡ o → ReadsOrStops p B 64 u (spell A t v) o = λ o e. subst (λ o. ReadsOrStops p B 64 u (spell A t v) o) e law in
    record {
      reads = λ w e. outcome _ e;
      typed = λ w e. reads_type p B 64 u (spell A t v) w (outcome _ e);
      stops = λ e. outcome _ e c.args.c.now c.args.inside;
    }
