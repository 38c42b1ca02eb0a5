use Rattle.aidl_schema.proofs.lemmas.Valids.{all_hold, decls_apart}
use Rattle.compat_witness.proofs.OneValue.{alike}
use Rattle.compat_witness.proofs.laws.law_alike.Goals as goal

pub returns : goal.returns
returns c =
    let server = c.args.server.now.decls in
    let valid = c.args.server.now.valid in
    alike c.args.client.now.decls server (all_hold server valid) (decls_apart server valid)
