use Rattle.std.proofs.Common.{map, ap, ◌∙◌}
use Rattle.std.specs.Int.{w8, cast_signed}
use Rattle.aidl_values.specs.Data.{number, seq}
use Rattle.aidl_values.specs.View.{items_of}
use Rattle.aidl_values.specs.declared.value.Elements.TheVariants.{Bytes}
use Rattle.aidl_values.proofs.lemmas.Views.{view_of_seq, datas_bytes}
use Rattle.json_values.proofs.SideBySide.{numbers_by}
use Rattle.json_values.proofs.side_by_side.U8Element.sequence.Goals as goal

pub returns : goal.returns
returns c = view_of_seq (Bytes c.from_vec.result) ∙ ap (λ ds. seq (items_of ds)) (datas_bytes c.from_vec.result)
    ∙ ap (λ bs. seq (items_of (map number (map (λ b. cast_signed w8 b) bs)))) c.from_vec.ensures ∙ ap seq (numbers_by (λ b. cast_signed w8 b) c.args.elements.items)
