use Rattle.std.proofs.Common.{◌≡◌, [], ◌∷◌, ◌++◌, map, sym, ap, ◌∙◌, subst, arith}
use Rattle.std.proofs.lemmas.Grind.{common_steps}
use Rattle.aidl_values.specs.Given.{overlaid}
use Rattle.aidl_values.specs.View.{view}
use Rattle.json_values.specs.steps.Given.{filled, given_or}
use Rattle.json_values.proofs.Overlaid.{AreBelow, overlaid_more, overlaid_rest}
use Rattle.json_values.proofs.given.Given.put.Goals as goal

pub returns-in_ok-push-2-clause-filled : goal.returns-in_ok-push-2-clause-filled
returns-in_ok-push-2-clause-filled c = λ ds d many.
    let ps = c.args.self.now.places in
    let vs = map view c.args.self.now.values.items in
    let v = view c.in-Some.value in
    let values : map view c.push.new.self.items ≡ vs ++ v ∷ [] = grind (arith, common_steps) in
    ap (λ qs. overlaid qs (map view c.push.new.self.items) 0 (ds ++ d ∷ [])) c.in_ok-push-2.ensures.ok
    ∙ ap (λ us. overlaid (ps ++ c.args.i ∷ []) us 0 (ds ++ d ∷ [])) values
    ∙ overlaid_more ps vs ds c.args.i v d (sym many) (grind (arith, common_steps)) c.requires.given.0
    ∙ ap (λ o. filled c.args.self.now ds ++ given_or o d ∷ []) (sym c.in-Some.is)

pub returns-in_default-clause-filled : goal.returns-in_default-clause-filled
returns-in_default-clause-filled c = λ ds d many.
    overlaid_rest c.args.self.now.places (map view c.args.self.now.values.items) ds (d ∷ []) (subst (λ n. AreBelow n c.args.self.now.places) (sym many) c.requires.given.0)
    ∙ ap (λ o. filled c.args.self.now ds ++ given_or o d ∷ []) (sym c.in_default.is)
