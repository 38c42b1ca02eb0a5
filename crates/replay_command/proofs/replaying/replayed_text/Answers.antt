use Rattle.std.proofs.Common.{◌≡◌, List, ℕ, ◌++◌, true, sym, ap, ◌∙◌, append-nil, string_bytes}
use Rattle.std.proofs.lemmas.Result.{IfOk-weaker}
use Rattle.aidl_schema.specs.declared.schema.Decl.{Decl}
use Rattle.run_command.specs.CallLines.{lines_of}
use Rattle.run_command.proofs.lemmas.Lines.{empty_list}
use Rattle.replay_command.specs.Replaying.{replayed_text}
use Rattle.replay_command.proofs.replaying.replayed_text.Goals as goal

pub returns : goal.returns
returns c =
    let S : List Decl = c.args.schema.now.decls in
    let put = c.loop-side.text in
    let left : List ℕ → List ℕ = λ rest. string_bytes put.text ++ replayed_text S c.args.interface c.loop-side.number (lines_of rest) in
    let none = empty_list c.loop-side.rest.now c.is_empty.result c.is_empty.ensures c.loop-side-test.false in
    IfOk-weaker c.into_string.result (λ text. (put.is_whole ≡ true) × (string_bytes text ≡ string_bytes put.text)) (λ text. string_bytes text ≡ replayed_text S c.args.interface 1 (lines_of c.args.trace.now))
    (λ text is. is.1 ∙ sym (append-nil (string_bytes put.text)) ∙ ap left (sym none) ∙ c.loop-side.invariant.all is.0) c.into_string.ensures.text
