use Rattle.std.proofs.Common.{◌++◌, Bor, map, refl, ◌∙◌, ap, arith}
use Rattle.aidl_syntax.specs.declared.tree.NameTree.{NameTree}
use Rattle.aidl_names.specs.Rules.{breach, is_named_again}
use Rattle.declared_names.proofs.lemmas.Earlier.{goes_on, read-map, one_if}
use Rattle.aidl_names.proofs.Spots.{earlier_spot-next}
use Rattle.aidl_names.proofs.lemmas.Taken.{again-is, seen-more}
use Rattle.aidl_names.proofs.duplicates.add_repeated_names.Goals as goal

pub loop-n-preserved : goal.loop-n-preserved
loop-n-preserved c =
    let names = map (λ (n : Bor NameTree). n.now) c.args.names.now in
    let rd = read-map (λ (n : Bor NameTree). n.now) c.args.names.now c.loop-n.n-index c.n-item.result (omega arith) c.n-item.is in
    record {
      all = goes_on c.loop-n.rows.items c.add_if.new.rows.items _ _ _ _
          (c.in_ok-add_if.ensures ∙ ap (λ b. c.loop-n.rows.items ++ one_if b (breach 2 c.args.file c.n-item.result.now.offset))
          (again-is _ c.loop-n.seen.keys c.as_str.result _ c.n-item.result.now c.in_ok-added.added (λ k. refl) c.as_str.ensures.bytes c.in_ok-added.ensures.added c.loop-n.invariant.seen))
          (earlier_spot-next 2 (λ (n : NameTree). (c.args.file, n.offset)) is_named_again names c.loop-n.n-index c.n-item.result.now rd.0 rd.1)
          c.loop-n.invariant.all;
      seen = seen-more _ c.loop-n.seen.keys c.insert.new.self.keys c.as_str.result names c.loop-n.n-index c.n-item.result.now (λ k. refl) c.as_str.ensures.bytes c.in_ok-added.ensures.keys rd.0 rd.1 c.loop-n.invariant.seen;
    }
