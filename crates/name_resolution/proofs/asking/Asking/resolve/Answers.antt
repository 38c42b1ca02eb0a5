use Rattle.std.proofs.Common.{map}
use Rattle.aidl_syntax.specs.Sources.{source_of}
use Rattle.declared_names.specs.Declarations.{declarations}
use Rattle.name_resolution.proofs.lemmas.Told.{is_right}
use Rattle.name_resolution.proofs.asking.Asking.resolve.Goals as goal

pub resolved-requires : goal.resolved-requires
resolved-requires c =
    let resolver = c.self.inside.resolver.now in
    record { known = is_right resolver.1 (declarations (map source_of resolver.0)) c.self.inside.asked c.args.file c.args.name.now c.known-known.result c.self.invariant c.known-known.ensures }
