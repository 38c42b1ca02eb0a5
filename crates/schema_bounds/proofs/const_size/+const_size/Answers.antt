use Rattle.std.proofs.Common.{◌≡◌, suc, ◌∙◌, ap, sym, map, arith}
use Rattle.schema_bounds.specs.steps.Measures.{const_size, total}
use Rattle.schema_bounds.proofs.Totals.{of_members}
use Rattle.schema_bounds.proofs.const_size.+const_size.Goals as goal

pub const_size-returns-in-Members : goal.const_size-returns-in-Members
const_size-returns-in-Members t c =
    let inside = c.members_size.ensures in
    let whole : const_size c.args.measure c.args.constant.now ≡ suc (total c.args.measure (map (λ x. const_size c.args.measure x) c.as_slice.result.now)) =
    ap (const_size c.args.measure) c.in-Members.is ∙ of_members c.args.measure c.in-Members.members ∙ ap (λ xs. suc (total c.args.measure (map (λ x. const_size c.args.measure x) xs))) (sym c.as_slice.ensures) in
    omega arith
