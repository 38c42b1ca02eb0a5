use Rattle.std.proofs.Common.{◌++◌, map, take, sym, ◌∙◌, ap, arith}
use Rattle.aidl_syntax.specs.declared.tree.NameTree.{NameTree}
use Rattle.aidl_syntax.specs.Members.{declared_name}
use Rattle.declared_names.specs.Declarations.{Entry}
use Rattle.aidl_names.specs.Rules.{breach, is_taken}
use Rattle.declared_names.specs.Entries.{entry_of}
use Rattle.declared_names.proofs.lemmas.Earlier.{goes_on, read-map, one_if}
use Rattle.name_resolution.proofs.lemmas.Places.{there}
use Rattle.aidl_names.proofs.Spots.{earlier_spot-next}
use Rattle.aidl_names.proofs.lemmas.Taken.{seen_name}
use Rattle.aidl_names.proofs.duplicates.add_taken.Goals as goal

pub loop-i-preserved : goal.loop-i-preserved
loop-i-preserved c =
    let w = there c.as_slice-found.result.now c.args.declarations.now c.loop-i.i c.index-found-i.result c.as_slice-found.ensures.same (omega arith) c.index-found-i.is in
    let rd = read-map entry_of c.args.declarations.now c.loop-i.i c.index-found-i.result w.0 w.1 in
    goes_on c.loop-i.rows.items c.add_if.new.rows.items _ _ _ _
    (c.in_ok-add_if.ensures ∙ ap (λ b. c.loop-i.rows.items ++ one_if b (breach 2 c.index-found-i.result.file c.index-found-i.result.tree.now.name.offset)) c.is_taken.ensures
    ∙ ap (λ (n : NameTree). c.loop-i.rows.items ++ one_if (is_taken (take c.loop-i.i (map entry_of c.args.declarations.now)) (entry_of c.index-found-i.result)) (breach 2 c.index-found-i.result.file n.offset))
    (sym (seen_name c.index-found-i.result.tree.now)))
    (earlier_spot-next 2 (λ (e : Entry). (e.file, (declared_name e.tree).offset)) is_taken (map entry_of c.args.declarations.now) c.loop-i.i (entry_of c.index-found-i.result) rd.0 rd.1)
    c.loop-i.invariant
