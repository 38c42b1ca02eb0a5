use Rattle.std.proofs.Common.{◌≡◌, List, Some, sym, ap, subst, ◌∙◌}
use Rattle.std.specs.List.{list_any}
use Rattle.aidl_schema.specs.declared.schema.Decl.{Decl}
use Rattle.aidl_schema.specs.Types.{form_of}
use Rattle.json_writing.specs.Named.{fields_in}
use Rattle.json_values.specs.FromJson.{has_name}
use Rattle.json_values.proofs.Members.{Entry, unknown_in-known, unknown_in-first}
use Rattle.json_values.proofs.keys.unknown_key.Goals as goal

pub has_field-requires : goal.has_field-requires
has_field-requires c = record { declared = subst (λ (S : List Decl). c.args.fields.now ≡ fields_in (form_of S c.args.base)) (sym c.loop-key.invariant.2.same) c.requires.declared }

pub loop-key-preserved : goal.loop-key-preserved
loop-key-preserved c =
    let e : Entry = (c.in-Some.key.now, c.in-Some.field-0-1.now) in
    let known = ap (λ key. list_any (λ f. has_name key f) c.args.fields.now) (sym c.as_str-name.ensures.value) ∙ sym c.in_ok-has.ensures.has ∙ c.if-not-has.false in (
      tt,
      tt,
      record {
        same = c.has_field.ensures.same ∙ c.loop-key.invariant.2.same;
        left = unknown_in-known c.args.fields.now c.loop-key.key-iterator c.next.new.self e c.in-Some.ensures.steps known ∙ c.loop-key.invariant.2.left;
      },
    )

pub returns-then-not-has-clause-same : goal.returns-then-not-has-clause-same
returns-then-not-has-clause-same c = c.has_field.ensures.same ∙ c.loop-key.invariant.2.same

pub returns-clause-same : goal.returns-clause-same
returns-clause-same c = c.loop-key.invariant.2.same

pub returns-then-not-has-clause-key : goal.returns-then-not-has-clause-key
returns-then-not-has-clause-key c =
    let e : Entry = (c.in-Some.key.now, c.in-Some.field-0-1.now) in
    let unknown = ap (λ key. list_any (λ f. has_name key f) c.args.fields.now) (sym c.as_str-name.ensures.value) ∙ sym c.in_ok-has.ensures.has ∙ c.if-not-has.true in
    ap Some c.as_str-name.ensures.value ∙ unknown_in-first c.args.fields.now c.loop-key.key-iterator c.next.new.self e c.in-Some.ensures.steps unknown ∙ c.loop-key.invariant.2.left
