use Rattle.std.proofs.Common.{◌≡◌, Some, sym, ◌∙◌}
use Rattle.aidl_schema.specs.Find.{interface_named, methods_at}
use Rattle.aidl_schema.specs.Same.{same_text}
use Rattle.aidl_schema.specs.Names.{bytes_of}
use Rattle.call_scripts.specs.Names.{method_named}
use Rattle.aidl_base.proofs.lemmas.Lists.{position_within}
use Rattle.call_scripts.proofs.SameNames.{is_server, is_target, target_within}
use Rattle.call_scripts.proofs.names.named_by.Goals as goal

pub returns-clause-known : goal.returns-clause-known
returns-clause-known c =
    let A = c.args.client.now.decls in
    let B = c.args.server.now.decls in
    let name = c.args.interface.now in
    let i = c.in_ok-number.number in
    let m = c.in_ok-position.position in
    let is : interface_named A name ≡ Some i = sym c.interface_named.ensures ∙ c.in_ok-number.was in
    let at : method_named A i c.args.method.now ≡ Some m = sym c.method_named.ensures ∙ c.in_ok-position.was in
    rw (c.target_named.ensures, c.interface_named-other.ensures) (record {
      there = position_within (λ w. same_text (bytes_of w.name) c.args.method.now) (methods_at A i) m at;
      server = is_server A B name i is;
      target = is_target A B i m c.args.method.now (interface_named B name) at;
      within = target_within B (interface_named B name) c.args.method.now;
    })
