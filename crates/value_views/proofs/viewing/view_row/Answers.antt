use Rattle.std.proofs.Common.{◌≡◌, Option, Some, sym, ap, ◌∙◌}
use Rattle.std.specs.Prelude.{option_map}
use Rattle.aidl_values.specs.Data.{Data, seq}
use Rattle.aidl_values.specs.View.{datas, items_of}
use Rattle.aidl_values.proofs.lemmas.Views.{view_of_seq}
use Rattle.wire_model.specs.View.{view_items}
use Rattle.value_views.proofs.SideBySide.{all_stay, none_is_seen, none_stay}
use Rattle.value_views.proofs.viewing.view_row.Goals as goal
use Rattle.value_views.proofs.viewing.view_row.Goals.{else-len-ne0-via-then-len-ne0+else-not-agree, else-len-ne0-via-else-len-ne0}

pub returns-then-not-agree : goal.returns-then-not-agree
returns-then-not-agree c =
    sym (ap (option_map seq) (none_is_seen c.args.sender.now c.args.t c.args.receiver.now c.args.u (sym c.agree.ensures ∙ c.if-not-agree.true) (datas c.args.elements.now) c.requires (λ e. c.if-len-ne0.true (c.len.ensures ∙ e))))

pub returns : goal.returns
returns c =
    let A = c.args.sender.now in
    let B = c.args.receiver.now in
    let ds = datas c.args.elements.now in
    let stay : view_items A c.args.t B c.args.u (items_of ds) ≡ Some (items_of ds) =
    elim c.else-len-ne0.branch [
      | else-len-ne0-via-then-len-ne0+else-not-agree w ↦ all_stay A c.args.t B c.args.u (sym w.agree.ensures ∙ w.if-not-agree.false) ds c.requires
      | else-len-ne0-via-else-len-ne0 w ↦ none_stay A c.args.t B c.args.u ds (sym c.len.ensures ∙ w.if-len-ne0.false)
    ] in
    ap (λ d. let o : Option Data = Some d in o) (view_of_seq c.in_ok-copied.copied ∙ ap (λ ds. seq (items_of ds)) c.in_ok-copied.ensures) ∙ sym (ap (option_map seq) stay)
