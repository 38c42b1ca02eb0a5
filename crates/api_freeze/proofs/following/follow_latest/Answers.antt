use Rattle.std.proofs.Common.{◌≡◌, List, subst}
use Rattle.aidl_schema.specs.declared.schema.Decl.{Decl}
use Rattle.type_check.specs.Checked.{IsSchemaOf}
use Rattle.api_freeze.proofs.Chains.{follows_one}
use Rattle.api_freeze.proofs.following.follow_latest.Goals as goal

pub returns-in-Ok-clause-one : goal.returns-in-Ok-clause-one
returns-in-Ok-clause-one c =
    let old = c.in-Ok.old.decls in
    follows_one c.args.latest old c.args.schema.now.decls c.compare.result
    (subst (λ files. (first second : List Decl) → IsSchemaOf files first → IsSchemaOf files second → first ≡ second) c.as_slice-in-Ok.ensures c.law_one_schema.ensures)
    (subst (λ files. IsSchemaOf files old) c.as_slice.ensures c.in-Ok.ensures.ok)
    c.compare.ensures.answer

pub returns-in-Err-clause-answer : goal.returns-in-Err-clause-answer
returns-in-Err-clause-answer c = c.unread.ensures.answer c.args.schema.now.decls
