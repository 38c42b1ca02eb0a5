use Rattle.tree_files.proofs.lemmas.OfBytes.{of-bytes}
use Rattle.tree_files.proofs.laws.law_of_bytes.Goals as goal

pub returns : goal.returns
returns c = of-bytes c.args.files.now
