use Rattle.std.proofs.Common.{◌≡◌, sym, ap, ◌∙◌, subst, arith}
use Rattle.std.specs.Prelude.{Ok, Err, map, IfOk, IfErr, IfSome}
use Rattle.serde_json.specs.View.{view as json_view, items_view}
use Rattle.serde_json.proofs.Views.{view-Array}
use Rattle.aidl_values.specs.View.{view}
use Rattle.parcel_commands.specs.JsonFile.{unread_refusal, values_from, values_of}
use Rattle.parcel_commands.proofs.ReadValues.{values_of-same, values_of-other}
use Rattle.parcel_commands.proofs.json_file.values_of.Goals as goal

pub returns-then-types-len-clause-refused : goal.returns-then-types-len-clause-refused
returns-then-types-len-clause-refused c =
    let S = c.args.schema.now.decls in
    let ts = c.args.types.now in
    ap (λ j. values_of S ts j) (ap json_view c.in-Array.is ∙ view-Array c.in-Array.items)
    ∙ values_of-other S ts c.in-Array.items.items (λ same. absurd (omega (arith, same, c.len.ensures, c.if-types-len.true)))

pub returns-clause-ok : goal.returns-clause-ok
returns-clause-ok c =
    let S = c.args.schema.now.decls in
    let ts = c.args.types.now in
    let items = c.in-Array.items in
    let same = ap (λ j. values_of S ts j) (ap json_view c.in-Array.is ∙ view-Array items) ∙ values_of-same S ts items.items (omega (arith, c.len.ensures, c.if-types-len.false)) in
    subst (λ x. IfOk c.values_from.result (λ vs. x ≡ Ok (map view vs.items))) (ap (λ js. values_from S 0 ts (items_view js)) c.as_slice.ensures.value ∙ sym same) c.values_from.ensures.ok

pub returns-clause-refused : goal.returns-clause-refused
returns-clause-refused c =
    let S = c.args.schema.now.decls in
    let ts = c.args.types.now in
    let items = c.in-Array.items in
    let same = ap (λ j. values_of S ts j) (ap json_view c.in-Array.is ∙ view-Array items) ∙ values_of-same S ts items.items (omega (arith, c.len.ensures, c.if-types-len.false)) in
    subst (λ x. IfErr c.values_from.result (λ u. IfSome (unread_refusal u) (λ r. x ≡ Err r))) (ap (λ js. values_from S 0 ts (items_view js)) c.as_slice.ensures.value ∙ sym same) c.values_from.ensures.refused
