use Rattle.std.proofs.Common.{rules, ◌≡◌, List, map, IfOk, sym, subst}
use Rattle.aidl_base.specs.declared.breach.Breach.{Breach}
use Rattle.aidl_syntax.specs.Sources.{source_of}
use Rattle.aidl_names.specs.Breaches.{in_order}
use Rattle.aidl_names.proofs.Spots.{spread}
use Rattle.aidl_names.proofs.names.breaches.Goals as goal

pub returns : goal.returns
returns c =
    let Listed : List Breach → Type 0 = λ bs. IfOk c.in_order.result (λ rows. rows ≡ in_order bs) in
    subst Listed (sym (spread (map source_of c.args.resolver.now.0))) (search rules)
