use Rattle.std.proofs.Common.{◌≡◌, ◌∙◌, ◌+◌, ◌++◌, ◌∷◌, [], Err, ap, sym, subst, map, take, drop, string_bytes}
use Rattle.aidl_outside.specs.Faults.{FailedIn, IfStoreFailed, writing}
use Rattle.aidl_outside.specs.Writes.{Sets, Writes}
use Rattle.api_versions.specs.Writes.{Wrote}
use Rattle.api_versions.specs.Seen.{write_seen}
use Rattle.api_versions.proofs.Writing.{left_at, wrote_more, writes_more, writes_split}
use Rattle.api_versions.proofs.writes.write_all.Goals as goal

pub loop-write-preserved : goal.loop-write-preserved
loop-write-preserved g c =
    let kept = g.S.Store.kept in
    let ws = c.args.writes.now in
    let i = c.loop-write.write-index in
    let item = c.write-item.result in
    let old = kept c.args.store.now in
    let set = subst (λ b. Sets (kept c.loop-write.store) (kept c.write.new.self) (string_bytes item.path) b) c.as_slice.ensures
    (subst (λ p. Sets (kept c.loop-write.store) (kept c.write.new.self) p c.as_slice.result.now) c.as_str.ensures.value c.in-Ok.ensures.written) in
    let more = writes_more ws i item c.loop-write-test.true ∙ ap (λ w. map write_seen (take i ws) ++ write_seen w ∷ []) (sym c.write-item.is) in
    record {
      made = subst (λ l. Wrote l old (kept c.write.new.self)) (sym more) (wrote_more (map write_seen (take i ws)) (write_seen item) old (kept c.loop-write.store) (kept c.write.new.self) c.loop-write.invariant.made set);
      cause = c.in-Ok.ensures.cause ∙ c.loop-write.invariant.cause;
    }

pub returns-in-Err-clause-wrote : goal.returns-in-Err-clause-wrote
returns-in-Err-clause-wrote g c =
    let kept = g.S.Store.kept in
    let ws = c.args.writes.now in
    let i = c.loop-write.write-index in
    let item = c.write-item.result in
    let split = writes_split ws i item c.loop-write-test.true ∙ ap (λ w. map write_seen (take i ws) ++ write_seen w ∷ map write_seen (drop (i + 1) ws)) (sym c.write-item.is) in
    let written =
    subst (λ b. Writes {T = Unit {0}} (kept c.loop-write.store) (kept c.write.new.self) (string_bytes item.path) b (Err c.in-Err.fault)) c.as_slice.ensures
    (subst (λ p. Writes {T = Unit {0}} (kept c.loop-write.store) (kept c.write.new.self) p c.as_slice.result.now (Err c.in-Err.fault)) c.as_str.ensures.value c.in-Err.ensures.written) in
    let failed =
    subst (λ p. IfStoreFailed {T = Unit {0}} (Err c.in-Err.fault) (FailedIn (g.S.Store.fault_record c.write.new.self) (λ call. call ≡ writing p))) c.as_str.ensures.value c.in-Err.ensures.failed_call in
    left_at (map write_seen ws) (map write_seen (take i ws)) (map write_seen (drop (i + 1) ws)) (write_seen item) (kept c.args.store.now) (kept c.loop-write.store) (kept c.write.new.self)
    (g.S.Store.fault_record c.write.new.self) c.in-Err.fault split c.loop-write.invariant.made written failed
