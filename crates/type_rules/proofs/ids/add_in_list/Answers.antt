use Rattle.std.proofs.Common.{nat_eq, ◌++◌, ◌||◌, Bor, map, take, sym, ◌∙◌, ap, arith}
use Rattle.indexmap.specs.IndexSet.{contains}
use Rattle.aidl_syntax.specs.declared.tree.MethodTree.{MethodTree}
use Rattle.aidl_syntax.specs.Trees.{Method, method_of}
use Rattle.aidl_names.specs.Rules.{breach}
use Rattle.declared_names.proofs.lemmas.Earlier.{goes_on, read-map, one_if}
use Rattle.type_rules.specs.IdRules.{has_value, is_bad_id, is_taken}
use Rattle.type_rules.proofs.Loops.{placed-next}
use Rattle.type_rules.proofs.MemberLoops.{token-same, taken-next}
use Rattle.type_rules.proofs.ids.add_in_list.Goals as goal

pub loop-method-preserved : goal.loop-method-preserved
loop-method-preserved c =
    let see = λ (m : Bor MethodTree). method_of m.now in
    let methods = map see c.args.methods.now in
    let i = c.loop-method.method-index in
    let m = see c.method-item.result in
    let some = c.has_ids-some.result in
    let rd = read-map see c.args.methods.now i c.method-item.result (omega arith) c.method-item.is in
    record {
      all = goes_on c.loop-method.rows.items c.add_if.new.rows.items _ _ _ _
          (c.in_ok-add_if.ensures ∙ ap (λ b. c.loop-method.rows.items ++ one_if b (breach 19 c.args.file m.name.offset))
          (c.in_ok-broken.ensures.broken ∙ token-same some (contains nat_eq c.loop-method.taken) (is_taken (take i methods)) c.loop-method.invariant.taken m.id))
          (placed-next 19 c.args.file (λ (x : Method). x.name.offset) (is_bad_id some) methods i m rd.0 rd.1)
          c.loop-method.invariant.all;
      taken = λ n. c.in_ok-broken.ensures.taken n ∙ ap (λ b. b || has_value n m.id) (c.loop-method.invariant.taken n) ∙ sym (taken-next methods i m rd.0 rd.1 n);
    }
