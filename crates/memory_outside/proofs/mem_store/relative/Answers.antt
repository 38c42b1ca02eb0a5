use Rattle.std.proofs.Common.{◌≡◌, ◌++◌, ap, sym, ◌∙◌}
use Rattle.aidl_outside.specs.Files.{below}
use Rattle.memory_outside.proofs.Below.{not_begun, begun, after_slash}
use Rattle.memory_outside.proofs.mem_store.relative.Goals as goal

pub returns-in-None : goal.returns-in-None
returns-in-None c = sym (not_begun c.args.root.now c.args.path.now c.in-None.ensures.cases)

pub returns-in-Some : goal.returns-in-Some
returns-in-Some c =
    let root = c.args.root.now in
    let rest = c.in-Some.rest.now in
    let stripped = c.in-Some.ensures.cases in
    let whole : c.args.path.now ≡ root ++ rest = stripped.1.1 ∙ ap (λ more. root ++ more) (sym stripped.2) in
    after_slash rest c.strip_prefix-in-Some.result c.strip_prefix-in-Some.ensures.cases ∙ sym (ap (below root) whole ∙ begun root rest)
