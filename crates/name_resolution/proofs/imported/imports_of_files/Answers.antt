use Rattle.std.proofs.Common.{◌∙◌, ap, arith}
use Rattle.name_resolution.specs.Imports.{meant_through, meant_in}
use Rattle.aidl_syntax.specs.Sources.{source_of}
use Rattle.declared_names.proofs.lemmas.Named.{one_more}
use Rattle.name_resolution.proofs.imported.imports_of_files.Goals as goal

pub loop-file-preserved : goal.loop-file-preserved
loop-file-preserved c =
    one_more meant_through meant_in source_of c.args.files.now c.loop-file.file-index c.file-item.result c.in_ok-imports_of.field-0 c.loop-file.all.items c.push.new.self.items
    c.loop-file.invariant (omega arith) c.file-item.is (c.in_ok-imports_of.ensures ∙ ap meant_through c.as_slice.ensures) c.in_ok-push.ensures.items
