use Rattle.std.proofs.Common.{Some, sym, ap, ◌∙◌}
use Rattle.std.specs.List.{list_any}
use Rattle.aidl_schema.specs.Same.{same_text}
use Rattle.call_scripts.specs.Keys.{seen_keys}
use Rattle.call_scripts.proofs.Members.{Entry, unknown_in-known, unknown_in-first}
use Rattle.call_scripts.proofs.line.unknown_key.Goals as goal

pub loop-key-preserved : goal.loop-key-preserved
loop-key-preserved c =
    let e : Entry = (c.in-Some.key.now, c.in-Some.field-0-1.now) in
    let known = ap (λ key. list_any (λ k. same_text k key) (seen_keys c.args.known.now)) (sym c.as_str.ensures.value) ∙ sym c.is_known.ensures ∙ c.if-not-is_known.false in
    (tt, tt, unknown_in-known (seen_keys c.args.known.now) c.loop-key.key-iterator c.next.new.self e c.in-Some.ensures.steps known ∙ c.loop-key.invariant.2)

pub returns-then-not-is_known : goal.returns-then-not-is_known
returns-then-not-is_known c =
    let e : Entry = (c.in-Some.key.now, c.in-Some.field-0-1.now) in
    let unknown = ap (λ key. list_any (λ k. same_text k key) (seen_keys c.args.known.now)) (sym c.as_str.ensures.value) ∙ sym c.is_known.ensures ∙ c.if-not-is_known.true in
    ap Some c.as_str-then-not-is_known.ensures.value ∙ unknown_in-first (seen_keys c.args.known.now) c.loop-key.key-iterator c.next.new.self e c.in-Some.ensures.steps unknown ∙ c.loop-key.invariant.2
