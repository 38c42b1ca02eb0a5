use Rattle.std.proofs.Common.{Ok, sym, ap, ◌∙◌}
use Rattle.aidl_values.specs.Data.{Data, seq}
use Rattle.aidl_values.specs.View.{items_of}
use Rattle.aidl_values.proofs.lemmas.Views.{view_of_seq}
use Rattle.parcel_words.specs.Place.{left, is_inside}
use Rattle.parcel_read.proofs.SideBySide.{row_taken, row_refused}
use Rattle.parcel_read.proofs.rows.row_of.Goals as goal

pub returns-in-Ok-clause-taken : goal.returns-in-Ok-clause-taken
returns-in-Ok-clause-taken g c =
    let p = c.args.from.now in
    let rest = left c.take_items.new.from in
    row_taken g.W.Packed.seen (λ b. g.W.Wire.reading p.profile (is_inside p) b) c.args.count (left p) rest c.in-Ok.row c.in-Ok.ensures.taken
    ∙ ap (λ (v : Data). Ok (v, rest)) (sym (view_of_seq c.elements.result ∙ ap (λ ds. seq (items_of ds)) c.elements.ensures))

pub returns-in-Err-clause-taken : goal.returns-in-Err-clause-taken
returns-in-Err-clause-taken g c =
    let p = c.args.from.now in
    row_refused g.W.Packed.seen (λ b. g.W.Wire.reading p.profile (is_inside p) b) c.args.count (left p) c.in-Err.fault c.in-Err.ensures.taken
