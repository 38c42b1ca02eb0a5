use Rattle.std.proofs.Common.{sym, subst}
use Rattle.aidl_values.specs.View.{view}
use Rattle.aidl_values.proofs.lemmas.Sounds.{IsSizedDefault, one_default, default_fits}
use Rattle.aidl_values.proofs.laws.law_default_fits.Goals as goal

pub returns : goal.returns
returns c =
    let S = c.args.schema.now.decls in
    let t = c.args.ty.now in
    let same = one_default S c.law_valid.ensures.declarations c.law_valid.ensures.sizes t (view c.args.value.now) c.requires.of_schema c.requires.zero in
    let fits = subst (λ v. IsSizedDefault S t v) (sym same) (default_fits S c.law_valid.ensures.declarations c.law_valid.ensures.sizes t c.requires.of_schema) in
    record { typed = fits.typed_as; depth = fits.depth_is; nodes = fits.nodes_are; shallow = fits.shallow; small = fits.small }
