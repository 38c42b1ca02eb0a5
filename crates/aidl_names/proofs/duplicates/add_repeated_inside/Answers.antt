use Rattle.std.proofs.Common.{◌++◌, Bor, map, ◌∙◌, ap}
use Rattle.std.specs.List.{flat_map}
use Rattle.aidl_syntax.specs.declared.tree.NameTree.{NameTree}
use Rattle.aidl_syntax.specs.Members.{member_name}
use Rattle.aidl_names.specs.Rules.{breaches_at, repeated, argument_names}
use Rattle.declared_names.specs.MemberViews.{seen_member}
use Rattle.declared_names.specs.Entries.{entry_of}
use Rattle.aidl_names.proofs.lemmas.Taken.{inside_added}
use Rattle.aidl_names.proofs.duplicates.add_repeated_inside.Goals as goal

pub returns : goal.returns
returns c =
    inside_added (entry_of c.args.found.now) c.args.rows.now.items c.add_repeated_names.new.rows.items c.add_repeated_arguments.new.rows.items
    (map (λ (n : Bor NameTree). n.now) c.in_ok-names.names.items) (map seen_member c.in_ok-all.all.items)
    c.in_ok-all.ensures
    (c.in_ok-names.ensures ∙ ap (λ ms. map member_name (map seen_member ms)) c.as_slice.ensures.value)
    (c.in_ok-add_repeated_names.ensures ∙ ap (λ ns. c.args.rows.now.items ++ breaches_at 2 (repeated c.args.found.now.file (map (λ (n : Bor NameTree). n.now) ns))) c.as_slice-2.ensures.value)
    (c.in_ok-add_repeated_arguments.ensures ∙ ap (λ ms. c.add_repeated_names.new.rows.items ++ breaches_at 2 (flat_map (λ m. repeated c.args.found.now.file (argument_names m)) (map seen_member ms))) c.as_slice-3.ensures.value)
