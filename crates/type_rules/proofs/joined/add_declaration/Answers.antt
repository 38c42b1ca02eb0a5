use Rattle.std.proofs.Common.{◌≡◌, ◌++◌, map, OnOk, sym, ◌∙◌, ap, subst}
use Rattle.aidl_syntax.specs.Trees.{Body}
use Rattle.aidl_syntax.specs.Members.{members, body}
use Rattle.aidl_syntax.specs.Sources.{source_of}
use Rattle.declared_names.specs.Declarations.{declarations}
use Rattle.declared_names.specs.Entries.{entry_of}
use Rattle.declared_names.proofs.lemmas.Trees.{seen_decl}
use Rattle.type_shapes.specs.Types.{shape_in}
use Rattle.type_uses.specs.TypeUses.{of_members}
use Rattle.type_uses.specs.TypeUseViews.{seen_use}
use Rattle.type_rules.specs.Breaches.{broken_by, broken_in}
use Rattle.type_rules.proofs.joined.add_declaration.Goals as goal

pub returns : goal.returns
unfolding broken_in
returns c =
    let files = map source_of c.args.names.now in
    let e = entry_of c.args.found.now in
    subst (λ z. OnOk c.add_broken.result (c.add_broken.new.rows.items ≡ c.args.rows.now.items ++ z))
    (ap (λ entries. broken_by entries e (map seen_use c.as_slice.result.now)) c.requires.all
    ∙ ap (broken_by (declarations files) e) (ap (map seen_use) c.as_slice.ensures.value ∙ c.in_ok-uses.ensures
    ∙ ap (λ (b : Body). of_members (shape_in files c.args.found.now.file c.args.number) (members b)) (sym (ap body (seen_decl c.args.found.now.tree.now)))))
    c.add_broken.ensures
