use Rattle.std.proofs.Common.{◌∷◌, [], Option, IfSome, ap, subst, length, length-append, arith}
use Rattle.std.proofs.lemmas.List.Elements.{All-push, All-same}
use Rattle.aidl_syntax.specs.declared.tree.ParsedFile.{ParsedFile}
use Rattle.aidl_syntax.specs.Sources.{IsOfBytes}
use Rattle.case_sources.proofs.tree.parsed.Goals as goal

pub loop-file-preserved : goal.loop-file-preserved
loop-file-preserved c =
    let e = c.in_ok-push-in-Some.ensures.items in
    let l = ap length e in
    let n = length-append c.loop-file.trees.items (c.in-Some.tree ∷ []) in
    let P : Option ParsedFile → Type 0 = λ o. IfSome o IsOfBytes in
    let h = subst P c.in-Some.is c.in_ok-tree.ensures in
    record {
      count = omega (arith, l, n, c.loop-file.invariant.count);
      each = All-same IsOfBytes c.push.new.self.items _ e (All-push IsOfBytes c.loop-file.trees.items c.in-Some.tree c.loop-file.invariant.each h);
    }
