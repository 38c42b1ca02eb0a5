use Rattle.std.proofs.Common.{ap, sym, ◌∙◌}
use Rattle.aidl_outside.specs.Entries.{entries, path_of, place_in}
use Rattle.memory_outside.proofs.Places.{put_found, put_gap}
use Rattle.memory_outside.proofs.mem_store.set_in.Goals as goal

pub returns-in-Ok-clause-ok : goal.returns-in-Ok-clause-ok
returns-in-Ok-clause-ok c =
    let place = ap (place_in (path_of c.args.file)) (ap entries (sym c.as_slice.ensures.value)) ∙ ap (λ path. place_in path (entries c.as_slice.result.now)) (sym c.as_str.ensures.bytes) ∙ sym c.in-Ok.ensures.place in
    put_found c.args.file c.args.files.now.items c.in-Ok.place place

pub returns-in_ok-insert-in-Err-clause-ok : goal.returns-in_ok-insert-in-Err-clause-ok
returns-in_ok-insert-in-Err-clause-ok c =
    let place = ap (place_in (path_of c.args.file)) (ap entries (sym c.as_slice.ensures.value)) ∙ ap (λ path. place_in path (entries c.as_slice.result.now)) (sym c.as_str.ensures.bytes) ∙ sym c.in-Err.ensures.place in
    ap entries c.in_ok-insert-in-Err.ensures.items ∙ put_gap c.args.file c.args.files.now.items c.in-Err.place place
