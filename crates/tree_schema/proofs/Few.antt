-- A schema has at most as many declarations as a tree may have.
use Rattle.std.proofs.Common.{◌≡◌, ◌≤◌, ◌+◌, ◌∷◌, ℕ, suc, Bool, true, false, nat_lt, if◌then◌else◌, List, [], length, map, Some, None, refl, ap, arith}
use Rattle.std.specs.List.{list_any, fold, enumerate_from}
use Rattle.std.specs.Ordering.{match_ordering}
use Rattle.std.specs.declared.cmp.Ordering.{Ordering}
use Rattle.std.specs.declared.cmp.Ordering.TheVariants.{Less, Equal, Greater}
use Rattle.std.proofs.lemmas.Bool.Decides.{nat_tests}
use Rattle.std.proofs.lemmas.List.{length-map}
use Rattle.aidl_base.specs.declared.limit.LimitName.TheVariants as limit
use Rattle.declared_names.specs.declared.found.Found.{Found}
use Rattle.declared_names.specs.Declarations.{Entry, declarations}
use Rattle.aidl_names.specs.Limits.{passed, has_many_members, has_long_method}
use Rattle.declared_names.specs.Entries.{entry_of}
use Rattle.aidl_syntax.specs.Sources.{Source}
use Rattle.tree_schema.specs.declared.tree.Placed.{Placed}
use Rattle.tree_schema.specs.Numbers.{Numbered, order, put, sorted}
use Rattle.tree_schema.specs.TreeViews.{numbered_of}

few_declared : (entries : List Entry) → passed entries ≡ None → length entries ≤ 16384
few_declared entries e =
    let few = by (nat_lt 16384 (length entries)) (list_any has_many_members entries) (list_any has_long_method entries) e in
    grind (arith, nat_tests)
  where
    by : (a b c : Bool) → (if a then Some limit.Declarations else (if b then Some limit.Members else (if c then Some limit.Arguments else None))) ≡ None → a ≡ false
    by true b c h = cc
    by false b c h = refl

longer : (ys : List Numbered) (x : Numbered) → length (put ys x) ≤ length ys + 1
longer [] x = omega arith
longer (y ∷ ys) x = by (order x y) (longer ys x) where
  by : (o : Ordering) → length (put ys x) ≤ length ys + 1 → length (match_ordering o (x ∷ y ∷ ys) (x ∷ ys) (y ∷ put ys x)) ≤ suc (length ys) + 1
  by Less h = omega arith
  by Equal h = omega arith
  by Greater h = omega arith

folded : (ys : List Numbered) (k : ℕ) (xs : List Entry) → length (fold put ys (enumerate_from k xs)) ≤ length ys + length xs
folded ys k [] = omega arith
folded ys k (x ∷ xs) = omega (arith, folded (put ys (k, x)) (k + 1) xs, longer ys (k, x))

-- there are at most as many as are declared
few_sorted : (entries : List Entry) → length (sorted entries) ≤ length entries
unfolding sorted
few_sorted entries = omega (arith, folded [] 0 entries)

pub few_of : (all : List Placed) (found : List Found) (files : List Source) → map numbered_of all ≡ sorted (map entry_of found) → map entry_of found ≡ declarations files
    → passed (declarations files) ≡ None → length all ≤ 16384
few_of all found files e d p =
    omega (arith, length-map all numbered_of, ap length e, few_sorted (map entry_of found), ap length d, few_declared (declarations files) p)
