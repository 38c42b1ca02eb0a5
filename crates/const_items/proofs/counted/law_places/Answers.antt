use Rattle.std.proofs.Common.{◌<◌, ◌≤◌, ℕ, List, sym, subst, arith}
use Rattle.std.specs.List.{All}
use Rattle.std.proofs.lemmas.List.{take_all}
use Rattle.std.proofs.lemmas.List.Elements.{All-get_or, All-map, All-more, All-weaker}
use Rattle.aidl_syntax.specs.Trees.{file_of}
use Rattle.aidl_syntax.specs.Walks.{places_of}
use Rattle.aidl_syntax.specs.Sources.{IsOfBytes, source_of}
use Rattle.const_items.specs.SmallPlaces.{HasSmall, Small}
use Rattle.const_items.proofs.counted.law_places.Goals as goal

small : (places : List ℕ) (most : ℕ) → most ≤ 262144 → All (λ o. o < most) places → Small places
small places most le all = All-weaker (λ o. o < most) (λ o. o < 262144) (λ o lt. omega arith) places all

pub loop-file-preserved : goal.loop-file-preserved
loop-file-preserved c =
    let f = c.file-item.result in
    let is : IsOfBytes f = subst IsOfBytes (sym c.file-item.is) (All-get_or IsOfBytes c.args.files.now c.loop-file.file-index f (omega arith) c.requires.each) in
    All-more (λ g. HasSmall (source_of g)) c.args.files.now c.loop-file.file-index f (omega arith) c.loop-file.invariant
    (subst (λ g. HasSmall (source_of g)) c.file-item.is (small (places_of (file_of f.tree)) _ is.2 (c.law_tree.ensures.inside is.0 (is.1, is.3, is.4))))

pub returns : goal.returns
returns c =
    All-map HasSmall source_of c.args.files.now
    (subst (All (λ f. HasSmall (source_of f))) (take_all c.loop-file.file-index c.args.files.now (omega arith)) c.loop-file.invariant)
