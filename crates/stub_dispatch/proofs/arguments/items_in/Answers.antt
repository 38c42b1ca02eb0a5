use Rattle.std.proofs.Common.{sym, ap, ◌∙◌}
use Rattle.aidl_values.specs.View.{datas, view}
use Rattle.aidl_values.proofs.lemmas.Views.{view_of_seq}
use Rattle.wire_model.specs.Receiver.{items_in}
use Rattle.stub_dispatch.proofs.Counts.{count_items}
use Rattle.stub_dispatch.proofs.arguments.items_in.Goals as goal

pub returns-in-Seq : goal.returns-in-Seq
returns-in-Seq c = c.len.ensures ∙ sym (count_items (datas c.in-Seq.elements)) ∙ ap items_in (sym (ap view c.in-Seq.is ∙ view_of_seq c.in-Seq.elements))
