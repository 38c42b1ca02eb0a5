use Rattle.aidl_schema.specs.Find.{methods_at}
use Rattle.witness_calls.proofs.Tables.{found_like}
use Rattle.witness_calls.proofs.version.Version.method_like.Goals as goal

pub returns-clause-is : goal.returns-clause-is
returns-clause-is c =
    found_like (methods_at c.args.self.now c.args.interface) c.args.method.now c.as_str.result.now c.method_named.result c.as_str.ensures.bytes c.method_named.ensures.is
