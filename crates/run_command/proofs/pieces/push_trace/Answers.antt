use Rattle.std.proofs.Common.{◌≡◌, ◌+◌, List, [], ◌∷◌, ◌++◌, take, sym, ap, ◌∙◌, subst, append-nil, arith}
use Rattle.std.specs.List.{flat_map}
use Rattle.std.proofs.lemmas.List.{take_more}
use Rattle.std.proofs.lemmas.List.Concat.{flat_map-append}
use Rattle.aidl_outside.specs.declared.link.Carried.{Carried}
use Rattle.growing.specs.Grows.{Grows}
use Rattle.growing.proofs.lemmas.Chains.{both_grow}
use Rattle.run_command.specs.Trace.{trace_line}
use Rattle.run_command.proofs.pieces.push_trace.Goals as goal

pub loop-entry-preserved : goal.loop-entry-preserved
loop-entry-preserved c =
    let entries : List Carried = c.args.carried.now in
    let i = c.loop-entry.entry-index in
    let entry = c.entry-item.result in
    let more : flat_map trace_line (take i entries) ++ trace_line entry ≡ flat_map trace_line (take (i + 1) entries) = ap (λ front. flat_map trace_line (take i entries) ++ front) (sym (append-nil (trace_line entry))) ∙ sym (flat_map-append trace_line (take i entries) (entry ∷ [])) ∙ ap (flat_map trace_line) (search (arith, take_more)) in
    subst (λ piece. Grows c.args.text.now c.push_entry.new.text piece) more
    (both_grow c.args.text.now c.loop-entry.text c.push_entry.new.text (flat_map trace_line (take i entries)) (trace_line entry) c.loop-entry.invariant c.push_entry.ensures)
