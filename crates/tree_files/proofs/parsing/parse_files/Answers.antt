use Rattle.std.proofs.Common.{◌≡◌, sym, ◌∙◌, List, None, Result, Ok, Err, IfOk}
use Rattle.aidl_base.specs.declared.source_file.SourceFile.{SourceFile}
use Rattle.aidl_syntax.specs.declared.tree.ParsedFile.{ParsedFile}
use Rattle.aidl_syntax.specs.Sources.{AreOfBytes}
use Rattle.tree_files.specs.declared.fault.FilesFault.{FilesFault}
use Rattle.tree_files.specs.declared.found.Found.{Found}
use Rattle.tree_files.specs.Sizes.{oversized}
use Rattle.tree_files.specs.Parsed.{AreParsed}
use Rattle.tree_files.specs.steps.Standing.{Stands}
use Rattle.tree_files.proofs.lemmas.OfBytes.{of-bytes}
use Rattle.tree_files.proofs.parsing.parse_files.Goals as goal

answered : (r : Result (List ParsedFile) FilesFault) (fs : List SourceFile) (s : Found) → IfOk r (λ ps. (gs : List SourceFile) → oversized gs ≡ None → Stands gs s → AreParsed gs ps)
    → oversized fs ≡ None → Stands fs s → IfOk r AreOfBytes
answered (Ok ps) fs s h e st = of-bytes fs ps (h fs e st)
answered (Err x) fs s h e st = tt

pub returns-clause-of_bytes : goal.returns-clause-of_bytes
returns-clause-of_bytes c = answered c.answer.result c.args.files.now c.in_ok-found.field-0 c.answer.ensures.ok (sym c.oversized.ensures.limit ∙ c.in_default.is) c.in_ok-found.ensures
