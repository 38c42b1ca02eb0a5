use Rattle.std.proofs.Common.{Some, sym, ap, ◌∙◌}
use Rattle.memory_outside.proofs.Places.{found_at, missed_between}
use Rattle.memory_outside.proofs.mem_store.find.Goals as goal

pub returns-in-Ok : goal.returns-in-Ok
returns-in-Ok c =
    ap (λ f. Some f.bytes) c.index-files-place.is
    ∙ sym (found_at c.args.path.now c.args.files.now c.in-Ok.place c.index-files-place.result c.requires (sym c.place_among.ensures.place ∙ c.in-Ok.is))

pub returns-in-Err : goal.returns-in-Err
returns-in-Err c = sym (missed_between c.args.path.now c.args.files.now c.in-Err.field-0 c.requires (sym c.place_among.ensures.place ∙ c.in-Err.is))
