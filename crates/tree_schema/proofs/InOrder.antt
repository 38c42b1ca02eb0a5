-- A declaration and a constant go among others as they stand in the schema.
use Rattle.std.proofs.Common.{◌≡◌, ℕ, suc, ◌+◌, ◌<◌, List, [], ◌∷◌, map, length, get_or, drop, drop-cons, add-one, refl, sym, ap, ◌∙◌}
use Rattle.std.specs.List.{fold, enumerate_from}
use Rattle.std.specs.Ordering.{match_ordering}
use Rattle.aidl_syntax.specs.Trees.{Enumerator}
use Rattle.aidl_syntax.specs.Members.Member.{enumerator}
use Rattle.aidl_syntax.specs.Sources.{Source}
use Rattle.declared_names.specs.declared.found.Found.{Found}
use Rattle.declared_names.specs.Entries.{entry_of}
use Rattle.aidl_schema.specs.declared.schema.Constant.{Constant}
use Rattle.tree_schema.specs.Numbers.{Numbered, bytes_of, order, put}
use Rattle.tree_schema.specs.Values.{Outcomes}
use Rattle.tree_schema.specs.Parts as parts
use Rattle.tree_schema.proofs.lemmas.walked.Placed.{placed}

abbrev pub key : Numbered → List ℕ
key x = bytes_of x.1

put_is : (ys : List Numbered) (x : Numbered) → placed key ys x ≡ put ys x
put_is [] x = refl
put_is (y ∷ ys) x = ap (λ z. match_ordering (order x y) (x ∷ y ∷ ys) (x ∷ ys) (y ∷ z)) (put_is ys x)

-- one more declaration goes in
pub next_in : (old new : List Numbered) (x : Numbered) (found : List Found) (f : Found) (i : ℕ) (all : List Numbered) → i < length found → f ≡ get_or found i f → x ≡ (i, entry_of f)
    → new ≡ placed key old x → fold put old (enumerate_from i (map entry_of (drop i found))) ≡ all → fold put new (enumerate_from (i + 1) (map entry_of (drop (i + 1) found))) ≡ all
next_in old new x found f i all lt is at e invariant =
    ap (λ z. fold put z (enumerate_from (i + 1) (map entry_of (drop (i + 1) found)))) (e ∙ put_is old x)
    ∙ ap (λ y. fold put (put old y) (enumerate_from (i + 1) (map entry_of (drop (i + 1) found)))) at
    ∙ ap (λ (j : ℕ). fold put (put old (i, entry_of f)) (enumerate_from (i + 1) (map entry_of (drop j found)))) (add-one i)
    ∙ ap (λ g. fold put (put old (i, entry_of g)) (enumerate_from (i + 1) (map entry_of (drop (suc i) found)))) is
    ∙ ap (λ fs. fold put old (enumerate_from i (map entry_of fs))) (sym (drop-cons found i f lt)) ∙ invariant

pub constant_is : (ys : List Constant) (c : Constant) → placed parts.bytes_of ys c ≡ parts.put ys c
constant_is [] c = refl
constant_is (d ∷ ys) c = ap (λ z. match_ordering (parts.order c d) (c ∷ d ∷ ys) (c ∷ ys) (d ∷ z)) (constant_is ys c)

-- enumerators are no constants
pub no_constants : (files : List Source) (outcomes : Outcomes) (file scope : ℕ) (es : List Enumerator) → parts.listed_constants files outcomes file scope (map enumerator es) ≡ []
no_constants files outcomes file scope [] = refl
no_constants files outcomes file scope (e ∷ es) = no_constants files outcomes file scope es
