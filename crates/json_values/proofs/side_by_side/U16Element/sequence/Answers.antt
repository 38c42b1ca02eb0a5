use Rattle.std.proofs.Common.{map, pos, ap, ◌∙◌}
use Rattle.aidl_values.specs.Data.{number, seq}
use Rattle.aidl_values.specs.View.{items_of}
use Rattle.aidl_values.specs.declared.value.Elements.TheVariants.{Chars}
use Rattle.aidl_values.proofs.lemmas.Views.{view_of_seq, datas_chars}
use Rattle.json_values.proofs.SideBySide.{numbers_by}
use Rattle.json_values.proofs.side_by_side.U16Element.sequence.Goals as goal

pub returns : goal.returns
returns c = view_of_seq (Chars c.from_vec.result) ∙ ap (λ ds. seq (items_of ds)) (datas_chars c.from_vec.result)
    ∙ ap (λ us. seq (items_of (map number (map pos us)))) c.from_vec.ensures ∙ ap seq (numbers_by pos c.args.elements.items)
