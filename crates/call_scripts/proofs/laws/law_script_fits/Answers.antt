use Rattle.call_scripts.proofs.LineFits.{script_fits}
use Rattle.call_scripts.proofs.laws.law_script_fits.Goals as goal

pub returns : goal.returns
returns c =
    script_fits c.args.client.now.decls c.args.server.now.decls c.law_valid.ensures.declarations c.law_valid-2.ensures.declarations c.law_sound.ensures c.law_sound-2.ensures
    c.law_valid.ensures.sizes c.law_valid-2.ensures.sizes
