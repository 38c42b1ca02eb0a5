use Rattle.std.proofs.Common.{◌≡◌, ◌<◌, length, Ordering, Less, Equal, Greater, nat_cmp, subst, rules}
use Rattle.std.specs.Cmp.Lexicographic.{slice_cmp}
use Rattle.std.specs.List.{HoldsAt}
use Rattle.std.specs.List.Sorted.{IsNonDecreasingBy, IsPartitionPoint}
use Rattle.std.specs.Ordering.{ordering_index}
use Rattle.std.specs.Str.{encode_utf8_all}
use Rattle.std.proofs.lemmas.Fn.{always_returns_same}
use Rattle.aidl_schema.specs.declared.schema.Decl.{Decl}
use Rattle.aidl_schema.specs.Names.{name_of}
use Rattle.aidl_schema.proofs.Halving.{found_at, none_at, rises}
use Rattle.aidl_schema.proofs.finding.find.Goals as goal

pub returns-in-Ok : goal.returns-in-Ok
returns-in-Ok c =
    let order : Decl → Ordering = λ d. slice_cmp nat_cmp (encode_utf8_all (name_of d)) c.args.name.now in
    let tie = subst (λ ds. HoldsAt (λ d. order d ≡ Equal) ds c.in-Ok.i) c.as_slice-decls.ensures (c.in-Ok.ensures.position order (always_returns_same _ _ _ (λ a r g called. (search rules, search rules)))) in
    let within : c.in-Ok.i < length c.args.schema.now.decls = subst (λ ds. c.in-Ok.i < length ds) c.as_slice-decls.ensures c.in-Ok.ensures.bound in
    found_at c.args.schema.now.decls c.args.name.now c.law_valid.ensures.apart c.in-Ok.i within tie

pub returns-in-Err : goal.returns-in-Err
returns-in-Err c =
    let S = c.args.schema.now.decls in
    let name = c.args.name.now in
    let order : Decl → Ordering = λ d. slice_cmp nat_cmp (encode_utf8_all (name_of d)) name in
    let split = subst (λ ds. IsNonDecreasingBy (λ d. ordering_index (order d)) ds → IsPartitionPoint (λ d. order d ≡ Less) (λ d. order d ≡ Greater) ds c.in-Err.field-0)
    c.as_slice-decls.ensures (c.in-Err.ensures.position order (always_returns_same _ _ _ (λ a r g called. (search rules, search rules)))) in
    none_at S name c.law_valid.ensures.sorted c.law_valid.ensures.declarations c.in-Err.field-0 (split (rises S name c.law_valid.ensures.sorted c.law_valid.ensures.declarations))
