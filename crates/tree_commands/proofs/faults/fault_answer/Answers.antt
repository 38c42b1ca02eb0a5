use Rattle.std.proofs.Common.{◌≡◌, ◌∙◌, ℕ, List, string_bytes, refl, ap, subst}
use Rattle.std.specs.List.{flat_map}
use Rattle.tool_frame.specs.Answer.{limit_passed}
use Rattle.type_check.specs.declared.fault.CheckFault.TheVariants as fault
use Rattle.type_check.specs.Refusals.{IsRefusal}
use Rattle.tree_commands.specs.Faults.{AreSyntaxLines, IsFaultAnswer, refused}
use Rattle.tree_commands.specs.Lines.{lex_line, breach_line}
use Rattle.tree_commands.proofs.Short.{all-short}
use Rattle.tree_commands.proofs.Results.{ends_as, ends_grown}
use Rattle.tree_commands.proofs.faults.fault_answer.Goals as goal

pub returns-in-Limit : goal.returns-in-Limit
returns-in-Limit c =
    let l = c.in-Limit.limit in
    ends_as (IsFaultAnswer c.args.root.now c.args.files.now) c.limit_passed.result (limit_passed l.which) c.limit_passed.ensures (fault.Limit l, subst (IsRefusal c.args.files.now) c.in-Limit.is c.requires, refl)

pub returns-in-Lex : goal.returns-in-Lex
returns-in-Lex c =
    let root = c.args.root.now in
    let files = c.args.files.now in
    let rows = c.in-Lex.rows in
    let given = c.as_slice.result.now in
    ends_grown (IsFaultAnswer root files) (λ (text : List ℕ). text ≡ flat_map (lex_line root files) given) c.lex_lines.result c.lex_lines.result.is_whole refl c.end_as.result c.end_as.ensures.answer c.lex_lines.ensures
    (λ text h. (fault.Lex rows, subst (IsRefusal files) c.in-Lex.is c.requires, ap refused (h ∙ ap (flat_map (lex_line root files)) c.as_slice.ensures)))

pub returns-in-Syntax : goal.returns-in-Syntax
returns-in-Syntax c =
    let root = c.args.root.now in
    let files = c.args.files.now in
    let rows = c.in-Syntax.rows in
    let given = c.as_slice-in-Syntax.result.now in
    ends_grown (IsFaultAnswer root files) (λ (text : List ℕ). AreSyntaxLines root files given text) c.syntax_lines.result c.syntax_lines.result.is_whole refl c.end_as-in-Syntax.result c.end_as-in-Syntax.ensures.answer c.syntax_lines.ensures
    (λ text h. (fault.Syntax rows, subst (IsRefusal files) c.in-Syntax.is c.requires, (text, subst (λ (ns : List ℕ). AreSyntaxLines root files ns text) c.as_slice-in-Syntax.ensures h, refl)))

pub returns-in-Breaches : goal.returns-in-Breaches
returns-in-Breaches c =
    let root = c.args.root.now in
    let files = c.args.files.now in
    let rows = c.in-Breaches.rows in
    let given = c.as_slice-in-Breaches.result.now in
    ends_grown (IsFaultAnswer root files) (λ (text : List ℕ). text ≡ flat_map (breach_line root files) given) c.breach_lines.result c.breach_lines.result.is_whole refl c.end_as-in-Breaches.result c.end_as-in-Breaches.ensures.answer c.breach_lines.ensures
    (λ text h. (fault.Breaches rows, subst (IsRefusal files) c.in-Breaches.is c.requires, ap refused (h ∙ ap (flat_map (breach_line root files)) c.as_slice-in-Breaches.ensures)))

pub syntax_lines-requires : goal.syntax_lines-requires
syntax_lines-requires c =
    let is : IsRefusal c.args.files.now (fault.Syntax c.in-Syntax.rows) = subst (IsRefusal c.args.files.now) c.in-Syntax.is c.requires in
    all-short c.args.files.now is.0
