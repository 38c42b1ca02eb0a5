use Rattle.std.proofs.Common.{Bor, List, sym, ◌∙◌, ap}
use Rattle.aidl_base.specs.declared.name.Ident.{Ident}
use Rattle.aidl_syntax.specs.declared.tree.DottedTree.{DottedTree}
use Rattle.name_resolution.specs.steps.Copies.{is_at}
use Rattle.name_resolution.proofs.Copies.{left_out}
use Rattle.name_resolution.proofs.imported.keep.Goals as goal

-- a copy changes nothing
pub returns-else-not-is_at : goal.returns-else-not-is_at
returns-else-not-is_at c =
    left_out c.args.kept.now.items c.copied-place.result c.args.import.now
    (ap (λ (ks : List (Bor DottedTree)). is_at ks c.copied-place.result c.args.import.now.name.0) (sym c.as_slice.ensures.value)
    ∙ ap (λ (name : List Ident). is_at c.as_slice.result.now c.copied-place.result name) (sym c.as_slice-name.ensures) ∙ sym c.is_at.ensures ∙ c.if-not-is_at.false)
