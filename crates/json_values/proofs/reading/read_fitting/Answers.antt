use Rattle.std.proofs.Common.{List, subst}
use Rattle.serde_json.specs.View.{view as json_view}
use Rattle.aidl_schema.specs.declared.schema.Decl.{Decl}
use Rattle.aidl_values.specs.View.{view}
use Rattle.json_values.specs.FromJson.{from_json_of}
use Rattle.json_values.specs.steps.Gives.{Gives}
use Rattle.json_values.proofs.Fits.{given_fits}
use Rattle.json_values.proofs.Texts.{texts-view}
use Rattle.json_values.proofs.reading.read_fitting.Goals as goal

pub returns : goal.returns
returns c =
    let gives = subst (λ (S : List Decl). Gives view c.read_within.result (from_json_of S 64 c.args.ty (json_view c.args.json.now))) c.new-reader.ensures c.read_within.ensures.gives in
    let fits = given_fits c.args.schema.now.decls c.law_valid.ensures.declarations c.law_sound.ensures c.args.ty (json_view c.args.json.now) (texts-view c.args.json.now) c.read_within.result gives in
    record { gives = gives; fits = fits }
