-- What follows where there are no breaches.
use Rattle.std.proofs.Common.{◌≡◌, ℕ, zero, suc, ◌+◌, List, [], ◌∷◌, ◌++◌, Some, refl, sym, ap, ◌∙◌, subst, arith}
use Rattle.std.specs.List.{flat_map, fold, slice_get}
use Rattle.std.specs.declared.cmp.Ordering.{Ordering}
use Rattle.std.specs.declared.cmp.Ordering.TheVariants.{Less, Equal, Greater}
use Rattle.std.specs.Ordering.{match_ordering}
use Rattle.aidl_base.specs.declared.breach.Breach.{Breach}
use Rattle.aidl_syntax.specs.Sources.{Source}
use Rattle.declared_names.specs.Declarations.{Entry, declarations}
use Rattle.declared_names.specs.Numbered.{in_each}
use Rattle.aidl_names.specs.Breaches.{in_order, order, put}
use Rattle.type_uses.specs.TypeUses.{TypeUse, type_uses}
use Rattle.type_rules.specs.Filters.{Rule, breaches_at}
use Rattle.type_rules.specs.Breaches.{broken_by, broken_in, rules, unsorted}
use Rattle.type_rules.specs.Unbroken.{AreUnbroken, IsUnbroken}

pub front_nil : {X : Type 0} (xs ys : List X) → xs ++ ys ≡ [] → xs ≡ []
front_nil [] ys e = refl
front_nil (x ∷ xs) ys e = cc

pub back_nil : {X : Type 0} (xs ys : List X) → xs ++ ys ≡ [] → ys ≡ []
back_nil [] ys e = e
back_nil (x ∷ xs) ys e = cc

-- what is put in order stays there
stays : (c : Breach) (cs bs : List Breach) → fold put (c ∷ cs) bs ≡ [] → ⊥
stays c cs [] e = cc
stays c cs (b ∷ bs) e = by (order b c) (stays b (c ∷ cs) bs) (stays c cs bs) (stays c (put cs b) bs) e
  where
    by : (o : Ordering) → (fold put (b ∷ c ∷ cs) bs ≡ [] → ⊥) → (fold put (c ∷ cs) bs ≡ [] → ⊥) → (fold put (c ∷ put cs b) bs ≡ [] → ⊥)
        → fold put (match_ordering o (b ∷ c ∷ cs) (c ∷ cs) (c ∷ put cs b)) bs ≡ [] → ⊥
    by Less h k l e = h e
    by Equal h k l e = k e
    by Greater h k l e = l e

pub none_in_order : (bs : List Breach) → in_order bs ≡ [] → bs ≡ []
none_in_order [] e = refl
none_in_order (b ∷ bs) e = absurd (stays b [] bs e)

none_in_each : {A B : Type 0} (find : ℕ → A → List B) (k : ℕ) (xs : List A) (n : ℕ) (x : A) → in_each find k xs ≡ [] → slice_get xs n ≡ Some x → find (k + n) x ≡ []
none_in_each find k [] n x e at = cc
none_in_each find k (y ∷ xs) zero x e at =
    let one : y ≡ x = cc in
    let here : k ≡ k + 0 = omega arith in
    subst (λ z. find (k + 0) z ≡ []) one (subst (λ (j : ℕ). find j y ≡ []) here (front_nil (find k y) (in_each find (k + 1) xs) e))
none_in_each find k (y ∷ xs) (suc n) x e at =
    let next : k + 1 + n ≡ k + suc n = omega arith in
    subst (λ (j : ℕ). find j x ≡ []) next (none_in_each find (k + 1) xs n x (back_nil (find k y) (in_each find (k + 1) xs) e) at)

-- the rules of a list have no place in a declaration
abbrev AreUnplaced : List Entry → Entry → List TypeUse → List (ℕ × Rule) → Type 0
AreUnplaced entries e uses [] = Unit {0}
AreUnplaced entries e uses (r ∷ rs) = (r.1 entries e uses ≡ []) × AreUnplaced entries e uses rs

unplaced : (rule file : ℕ) (places : List ℕ) → breaches_at rule file places ≡ [] → places ≡ []
unplaced rule file [] e = refl
unplaced rule file (p ∷ places) e = cc

all_unplaced : (entries : List Entry) (e : Entry) (uses : List TypeUse) (rs : List (ℕ × Rule)) → flat_map (λ r. breaches_at r.0 e.file (r.1 entries e uses)) rs ≡ [] → AreUnplaced entries e uses rs
all_unplaced entries e uses [] none = tt
all_unplaced entries e uses (r ∷ rs) none =
    let here = breaches_at r.0 e.file (r.1 entries e uses) in
    let others = flat_map (λ (r : ℕ × Rule). breaches_at r.0 e.file (r.1 entries e uses)) rs in
    (unplaced r.0 e.file (r.1 entries e uses) (front_nil here others none), all_unplaced entries e uses rs (back_nil here others none))

none_placed : (entries : List Entry) (e : Entry) (uses : List TypeUse) (rs : List (ℕ × Rule)) → AreUnplaced entries e uses rs → flat_map (λ r. breaches_at r.0 e.file (r.1 entries e uses)) rs ≡ []
none_placed entries e uses [] are = refl
none_placed entries e uses (r ∷ rs) are =
    ap (λ places. breaches_at r.0 e.file places ++ flat_map (λ (r : ℕ × Rule). breaches_at r.0 e.file (r.1 entries e uses)) rs) are.0 ∙ none_placed entries e uses rs are.1

unbroken_by : (entries : List Entry) (e : Entry) (uses : List TypeUse) → broken_by entries e uses ≡ [] → IsUnbroken entries e uses
unfolding broken_by
unbroken_by entries e uses none =
    let from13 = all_unplaced entries e uses rules none in
    let from16 = from13.1.1.1 in
    let from19 = from16.1.1.1 in
    record {
      annotations = from13.0;
      nullables = from13.1.0;
      backing = from13.1.1.0;
      shapes = from16.0;
      directions = from16.1.0;
      oneways = from16.1.1.0;
      ids = from19.0;
      constants = from19.1.0;
      fields = from19.1.1.0;
      fixed = from19.1.1.1.0;
    }

-- and where no rule has a place in it, it has no breach
pub none_by : (entries : List Entry) (e : Entry) (uses : List TypeUse) → IsUnbroken entries e uses → broken_by entries e uses ≡ []
unfolding broken_by
none_by entries e uses is = none_placed entries e uses rules (is.annotations, (is.nullables, (is.backing, (is.shapes, (is.directions, (is.oneways, (is.ids, (is.constants, (is.fields, (is.fixed, tt))))))))))

pub unbroken : (files : List Source) → unsorted files ≡ [] → AreUnbroken files
unfolding unsorted broken_in
unbroken files none n e at =
    let here : 0 + n ≡ n = omega arith in
    unbroken_by (declarations files) e (type_uses files n e) (subst (λ (j : ℕ). broken_in files j e ≡ []) here (none_in_each (broken_in files) 0 (declarations files) n e none at))
