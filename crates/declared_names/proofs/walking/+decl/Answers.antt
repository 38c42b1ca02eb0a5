use Rattle.std.proofs.Common.{List, map, ap, ◌∙◌, arith}
use Rattle.std.proofs.lemmas.List.{length-map}
use Rattle.std.proofs.lemmas.Result.{err_from_is_err_and}
use Rattle.aidl_base.specs.declared.name.Ident.{Ident}
use Rattle.aidl_syntax.specs.Trees.{decl_of}
use Rattle.declared_names.specs.Entries.{entry_of}
use Rattle.declared_names.proofs.Walks.{decl_grows, added, first_full, nested_full, inside_is}
use Rattle.declared_names.proofs.walking.+decl.Goals as goal

pub add_decl-returns-then-number-clause-err : goal.add_decl-returns-then-number-clause-err
add_decl-returns-then-number-clause-err t c =
    let g = decl_grows c.args.file c.args.outer c.args.name.now (decl_of c.args.tree.now) (map entry_of c.args.found.now.items) in
    let l = length-map c.args.found.now.items entry_of in
    let limit = c.number.ensures in
    omega (arith, g, l)

-- The declaration is added, and then those inside its body.
pub add_decl-returns-clause-ok : goal.add_decl-returns-clause-ok
add_decl-returns-clause-ok t c =
    rw (added c.args.file c.args.outer c.args.name.now c.args.tree.now c.args.found.now.items c.push.new.self.items _ c.in_ok-push.ensures.items
    (ap (λ (n : List Ident). record { name = n; file = c.args.file; outer = c.args.outer; tree = decl_of c.args.tree.now }) (c.from_row.ensures ∙ c.from_vec.ensures ∙ c.in_ok-copy.ensures)))
    (rw (c.len-number.ensures, c.args.found.now.ok.0) at c.add_body.ensures.ok)

pub add_decl-returns-clause-err : goal.add_decl-returns-clause-err
add_decl-returns-clause-err t c =
    rw (added c.args.file c.args.outer c.args.name.now c.args.tree.now c.args.found.now.items c.push.new.self.items _ c.in_ok-push.ensures.items
    (ap (λ (n : List Ident). record { name = n; file = c.args.file; outer = c.args.outer; tree = decl_of c.args.tree.now }) (c.from_row.ensures ∙ c.from_vec.ensures ∙ c.in_ok-copy.ensures)))
    (rw (c.len-number.ensures, c.args.found.now.ok.0) at c.add_body.ensures.err)

pub add_members-returns-in_err-add_member-clause-err : goal.add_members-returns-in_err-add_member-clause-err
add_members-returns-in_err-add_member-clause-err t c =
    let p = err_from_is_err_and c.from_residual.result c.from_residual.ensures.1 in
    rw (p.1, p.2) (first_full c.args.file c.args.number c.args.name.now c.args.members.now c.as_slice-member-items.result.now c.loop-member.member-index c.member-item.result
    (map entry_of c.loop-member.found.items) _ c.in_err-add_member.field-0.0 c.as_slice-member-items.ensures (omega arith) c.member-item.is c.loop-member.invariant c.in_err-add_member.ensures.err)

pub add_member-returns-in_ok-inner-in-Nested-clause-err : goal.add_member-returns-in_ok-inner-in-Nested-clause-err
add_member-returns-in_ok-inner-in-Nested-clause-err t c =
    nested_full c.args.file c.args.number c.args.name.now c.as_slice.result.now c.args.member.now c.in-Nested.tree (map entry_of c.args.found.now.items) c.add_decl.result c.in-Nested.is
    (inside_is c.args.name.now _ c.in-Nested.tree (c.as_slice.ensures.value ∙ c.in_ok-inner-in-Nested.ensures)) c.add_decl.ensures.err
