use Rattle.std.proofs.Common.{◌≡◌, rules}
use Rattle.std.specs.Prelude.{IfOk}
use Rattle.ask_command.specs.Versions.{hash_of}
use Rattle.ask_command.proofs.Hashes.{whole_hash}
use Rattle.ask_command.proofs.version.hash_of.Goals as goal

pub returns-in-Some-clause-hash : goal.returns-in-Some-clause-hash
returns-in-Some-clause-hash c =
    let digits : IfOk c.text_of.result (λ hash. hash ≡ hash_of c.args.version.now.kept) = search rules in
    whole_hash c.args.version.now c.text_of.result c.requires digits
