use Rattle.std.proofs.Common.{◌≡◌, ◌∙◌, true, map, ap, subst}
use Rattle.std.specs.Prelude.{IfOk}
use Rattle.std.proofs.lemmas.List.Filters.{dedup_is}
use Rattle.aidl_schema.specs.Broken.{sorted_once}
use Rattle.compat_judge.specs.Seen.{seen}
use Rattle.compat_judge.specs.steps.Adds.{finding, found_so_far}
use Rattle.compat_judge.proofs.Sorting.{beside_ok, equal, same, sorted_findings, tie}
use Rattle.compat_judge.proofs.findings.Findings.sorted_once.Goals as goal

pub returns : goal.returns
returns c =
    let is = dedup_is _ _ _ c.dedup.ensures.filtered in
    let all : map finding c.dedup.new.self.items ≡ sorted_once (map finding c.in_ok-rows.rows.items) =
    sorted_findings same equal tie c.in_ok-rows.rows.items c.sort_unstable.new.self.items c.dedup.new.self.items c.sort_unstable.ensures.permutation c.sort_unstable.ensures.sorted is in
    let given = c.in_ok-rows.ensures.list in
    beside_ok (c.args.self.list.is_whole ≡ true) (λ rows. map seen rows ≡ sorted_once (found_so_far c.args.self)) c.rows_of.result given.0
    (subst (λ zs. IfOk c.rows_of.result (λ rows. map seen rows ≡ zs)) (all ∙ ap (λ zs. sorted_once (map finding zs)) given.1) c.rows_of.ensures)
