-- There are no more items than places: 262,144 in each of 4,096 files.
use Rattle.std.proofs.Common.{◌≡◌, ℕ, ◌+◌, ◌*◌, ◌<◌, ◌≤◌, List, [], ◌∷◌, length, refl, sym, subst, arith}
use Rattle.std.specs.List.{All, fold}
use Rattle.std.proofs.lemmas.List.Elements.{All-nil, All-head, All-tail}
use Rattle.std.proofs.lemmas.Bool.Decides.{nat_tests}
use Rattle.std.specs.declared.cmp.Ordering.{Ordering}
use Rattle.std.specs.declared.cmp.Ordering.TheVariants.{Less, Equal, Greater}
use Rattle.std.specs.Ordering.{nat_cmp, ordering_then, match_ordering}
use Rattle.aidl_syntax.specs.Sources.{Source}
use Rattle.const_items.specs.Items.{Item, declared, items, order, put}
use Rattle.const_items.proofs.EachItem.{put_all, fold_all}

-- an item lies in one of 4,096 files, below a place of 262,144
pub record IsPlaced (x : Item) : Type 0 where
  pub file : x.file < 4096
  pub place : x.place < 262144

-- its place among all places
abbrev pub key : Item → ℕ
key x = x.file * 262144 + x.place

-- the order of two items is that of their keys
less_by : (a b c d : ℕ) → b < 262144 → d < 262144 → ordering_then (nat_cmp a c) (nat_cmp b d) ≡ Less → a * 262144 + b < c * 262144 + d
less_by a b c d lt mt e = grind (arith, nat_tests)

greater_by : (a b c d : ℕ) → b < 262144 → d < 262144 → ordering_then (nat_cmp a c) (nat_cmp b d) ≡ Greater → c * 262144 + d < a * 262144 + b
greater_by a b c d lt mt e = grind (arith, nat_tests)

equal_by : (a b c d : ℕ) → ordering_then (nat_cmp a c) (nat_cmp b d) ≡ Equal → a * 262144 + b ≡ c * 262144 + d
equal_by a b c d e = grind (arith, nat_tests)

-- the keys ascend from one on
abbrev pub Rises : ℕ → List Item → Type 0
Rises low [] = Unit {0}
Rises low (x ∷ xs) = (low ≤ key x) × Rises (key x + 1) xs

put_rises : (xs : List Item) (x : Item) (low : ℕ) → low ≤ key x → IsPlaced x → All IsPlaced xs → Rises low xs → Rises low (put xs x)
put_rises [] x low le p all r = (le, tt)
put_rises (y ∷ more) x low le p all r =
    by_order (order x y) refl (λ lt. put_rises more x (key y + 1) lt p (All-tail IsPlaced y more all) r.1)
  where
    py : IsPlaced y
    py = All-head IsPlaced y more all

    by_order : (o : Ordering) → order x y ≡ o → (key y + 1 ≤ key x → Rises (key y + 1) (put more x)) → Rises low (match_ordering o (x ∷ y ∷ more) (x ∷ more) (y ∷ put more x))
    by_order Less e rest = let lt : key x < key y = less_by x.file x.place y.file y.place p.place py.place e in (le, (omega arith, r.1))
    by_order Equal e rest = let same : key x ≡ key y = equal_by x.file x.place y.file y.place e in (le, subst (λ (n : ℕ). Rises (n + 1) more) (sym same) r.1)
    by_order Greater e rest =
        let lt : key y < key x = greater_by x.file x.place y.file y.place p.place py.place e in
        (r.0, rest (omega arith))

-- how many they are
few : (xs : List Item) (low : ℕ) → low ≤ 1073741824 → All IsPlaced xs → Rises low xs → length xs + low ≤ 1073741824
few [] low le all r = omega arith
few (x ∷ xs) low le all r =
    let p = All-head IsPlaced x xs all in
    let within : key x < 1073741824 = bounded x.file x.place p.file p.place in
    let rest : length xs + (key x + 1) ≤ 1073741824 = few xs (key x + 1) (omega arith) (All-tail IsPlaced x xs all) r.1 in
    let first = r.0 in
    omega arith
  where
    bounded : (a b : ℕ) → a < 4096 → b < 262144 → a * 262144 + b < 1073741824
    bounded a b lt mt = omega arith

fold_rises : (xs before : List Item) → All IsPlaced before → Rises 0 before → All IsPlaced xs → Rises 0 (fold put before xs)
fold_rises [] before placed r all = r
fold_rises (x ∷ xs) before placed r all =
    let p = All-head IsPlaced x xs all in
    fold_rises xs (put before x) (put_all IsPlaced before x p placed) (put_rises before x 0 (omega arith) p placed r) (All-tail IsPlaced x xs all)

pub items_placed : (files : List Source) → All IsPlaced (declared files) → All IsPlaced (items files)
unfolding items
items_placed files all = fold_all IsPlaced (declared files) [] (All-nil IsPlaced) all

pub items_rise : (files : List Source) → All IsPlaced (declared files) → Rises 0 (items files)
unfolding items
items_rise files all = fold_rises (declared files) [] (All-nil IsPlaced) tt all

pub few_items : (files : List Source) → All IsPlaced (declared files) → length (items files) ≤ 1073741824
few_items files all = let n = few (items files) 0 (omega arith) (items_placed files all) (items_rise files all) in omega arith
