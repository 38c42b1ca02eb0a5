-- Imports that have a last part in common.
use Rattle.std.proofs.Common.{◌≡◌, ◌<◌, ◌≤◌, ◌+◌, ℕ, zero, suc, Bool, true, false, not, ◌&&◌, ◌||◌, nat_eq, nat_lt, List, [], ◌∷◌, length, take, get_or, set, replicate, add-one, Some, refl, sym, ◌∙◌, ap, arith, eq-eqb}
use Rattle.std.specs.List.{list_any, position_from}
use Rattle.std.proofs.lemmas.List.{length-set, length-replicate, get_or-set_same, get_or-set_other}
use Rattle.std.proofs.lemmas.Bool.Decides.{nat_tests}
use Rattle.std.proofs.lemmas.List.Folds.{list_any-append}
use Rattle.aidl_base.specs.declared.name.Ident.{Ident}
use Rattle.aidl_syntax.specs.declared.tree.DottedTree.{DottedTree}
use Rattle.declared_names.specs.Names.{same, last}
use Rattle.aidl_names.specs.Rules.{is_other_import}
use Rattle.declared_names.specs.Marks.{mark_of, mark_of_last}
use Rattle.aidl_names.specs.Alike.{is_alike}
use Rattle.declared_names.proofs.lemmas.Earlier.{take-next}
use Rattle.declared_names.proofs.lemmas.Firsts.{found-passes, found-first, any-at, position-same}
use Rattle.declared_names.proofs.lemmas.SameNames.{same-self, same-right, same-turned}
use Rattle.name_resolution.proofs.lemmas.Tables.{same_marks}

-- imports with the same last part have the same mark
pub alike_marks : (name : List Ident) (i : DottedTree) → is_alike name i ≡ true → nat_eq (mark_of (last name)) (mark_of_last i) ≡ true
alike_marks name i h = eq-eqb (mark_of (last name)) (mark_of_last i) (sym (same_marks 0 (last i.name.0) (last name) h))

-- Whether an import is another than earlier ones with its last part.

any-alike : {X : Type 0} (p q : X → Bool) → ((x : X) → p x ≡ q x) → (xs : List X) → list_any p xs ≡ list_any q xs
any-alike p q h [] = refl
any-alike p q h (x ∷ xs) = rw (h x, any-alike p q h xs) refl

-- for imports that are the same and have the same last part the answer is the same
other-same : (before : List DottedTree) (f x : DottedTree) → is_alike x.name.0 f ≡ true → same f.name.0 x.name.0 ≡ true → is_other_import before f ≡ is_other_import before x
other-same before f x a e =
    any-alike _ _ (λ (d : DottedTree). ap (λ b. b && not (same d.name.0 f.name.0)) (same-right (last d.name.0) (last f.name.0) (last x.name.0) a)
    ∙ ap (λ b. same (last d.name.0) (last x.name.0) && not b) (same-right d.name.0 f.name.0 x.name.0 e)) before

same-place : {X : Type 0} (xs : List X) (i : ℕ) (x f : X) → i < length xs → x ≡ get_or xs i x → f ≡ get_or xs i f → f ≡ x
same-place [] i x f lt a b = absurd (omega arith)
same-place (y ∷ ys) zero x f lt a b = b ∙ sym a
same-place (y ∷ ys) (suc i) x f lt a b = same-place ys i x f (omega arith) a b

-- Beside the first import of each last part stands whether one so far with that last part differs from it.
pub record HasMemo (imports : List DottedTree) (differ : List Bool) (i : ℕ) : Type 0 where
  pub count : length differ ≡ length imports
  pub each : (x : DottedTree) (q : ℕ) (f : DottedTree) → position_from (is_alike x.name.0) 0 imports ≡ Some q → f ≡ get_or imports q f → get_or differ q false ≡ is_other_import (take i imports) f

none-yet : (n q : ℕ) → get_or (replicate n false) q false ≡ false
none-yet zero q = refl
none-yet (suc n) zero = refl
none-yet (suc n) (suc q) = none-yet n q

pub memo-begins : (imports : List DottedTree) (differ : List Bool) → differ ≡ replicate (length imports) false → HasMemo imports differ 0
memo-begins imports differ e = record {
  count = ap length e ∙ length-replicate (length imports) false;
  each = λ x q f p is. ap (λ (d : List Bool). get_or d q false) e ∙ none-yet (length imports) q;
}

-- the first place of a last part, from what a look-up answers
pub placed : (imports : List DottedTree) (i : ℕ) (x : DottedTree) → i < length imports → x ≡ get_or imports i x → (r : ℕ) × (position_from (is_alike x.name.0) 0 imports ≡ Some r) × (r ≤ i)
placed imports i x lt is =
    let w = found-first (is_alike x.name.0) 0 imports i x lt is (same-self (last x.name.0)) in
    (w.0, w.1, omega (arith, w.2))

passes : (imports : List DottedTree) (x : DottedTree) (p : ℕ) (f : DottedTree) → position_from (is_alike x.name.0) 0 imports ≡ Some p → f ≡ get_or imports p f → (p < length imports) × (is_alike x.name.0 f ≡ true)
passes imports x p f e is = let z : p ≡ 0 + p = omega arith in found-passes (is_alike x.name.0) 0 imports p f (e ∙ ap Some z) is

-- whether an import is another, by what stands beside the first one of its last part
pub other-is : (imports : List DottedTree) (differ : List Bool) (i p : ℕ) (x f : DottedTree) → i < length imports → x ≡ get_or imports i x → position_from (is_alike x.name.0) 0 imports ≡ Some p → p ≤ i
    → f ≡ get_or imports p f → HasMemo imports differ i → (get_or differ p false || not (same f.name.0 x.name.0)) ≡ is_other_import (take i imports) x
other-is imports differ i p x f lt is e le fs memo =
    ap (λ b. b || not (same f.name.0 x.name.0)) (memo.each x p f e fs) ∙ go (same f.name.0 x.name.0) refl where
      w : (p < length imports) × (is_alike x.name.0 f ≡ true)
      w = passes imports x p f e fs

      without : (b : Bool) → (b || false) ≡ b
      without true = refl
      without false = refl

      with : (b : Bool) → (b || true) ≡ true
      with true = refl
      with false = refl

      go : (s : Bool) → same f.name.0 x.name.0 ≡ s → (is_other_import (take i imports) f || not s) ≡ is_other_import (take i imports) x
      go true h = without (is_other_import (take i imports) f) ∙ other-same (take i imports) f x w.1 h
      go false h = with (is_other_import (take i imports) f) ∙ sym (before (nat_lt p i) refl) where
        test : DottedTree → Bool
        test d = same (last d.name.0) (last x.name.0) && not (same d.name.0 x.name.0)

        holds : test f ≡ true
        holds = ap (λ b. b && not (same f.name.0 x.name.0)) w.1 ∙ ap not h

        before : (b : Bool) → nat_lt p i ≡ b → is_other_import (take i imports) x ≡ true
        before true l = any-at test imports i p f (grind (arith, nat_tests, l)) w.0 fs holds
        before false l =
            let z : p ≡ i = grind (arith, nat_tests, l, le) in
            let g : f ≡ x = same-place imports i x f lt is (fs ∙ ap (λ (k : ℕ). get_or imports k f) z) in
            let t : same f.name.0 x.name.0 ≡ true = ap (λ (y : DottedTree). same y.name.0 x.name.0) g ∙ same-self x.name.0 in
            cc

-- what stands there after one more import
pub memo-next : (imports : List DottedTree) (differ : List Bool) (i p : ℕ) (x f : DottedTree) (other : Bool) → i < length imports → x ≡ get_or imports i x
    → position_from (is_alike x.name.0) 0 imports ≡ Some p → f ≡ get_or imports p f → HasMemo imports differ i → other ≡ (get_or differ p false || not (same f.name.0 x.name.0))
    → HasMemo imports (set differ p other) (i + 1)
memo-next imports differ i p x f other lt is e fs memo o = record {
  count = length-set differ p other ∙ memo.count;
  each = λ y q g found gs. go y q g found gs (nat_eq q p) refl;
} where
  w : (p < length imports) × (is_alike x.name.0 f ≡ true)
  w = passes imports x p f e fs

  differs : DottedTree → DottedTree → Bool
  differs g d = same (last d.name.0) (last g.name.0) && not (same d.name.0 g.name.0)

  more : (g : DottedTree) → is_other_import (take (i + 1) imports) g ≡ (is_other_import (take i imports) g || (differs g x || false))
  more g =
      ap (list_any (differs g)) (ap (λ (j : ℕ). take j imports) (add-one i) ∙ take-next imports i x lt is) ∙ list_any-append (differs g) (take i imports) (x ∷ [])

  adds : (a s n : Bool) → s ≡ true → (a || n) ≡ (a || ((s && n) || false))
  adds true s n h = refl
  adds false true true h = refl
  adds false true false h = refl
  adds false false n h = cc

  keeps : (a s n : Bool) → s ≡ false → a ≡ (a || ((s && n) || false))
  keeps true s n h = refl
  keeps false false n h = refl
  keeps false true n h = cc

  go : (y : DottedTree) (q : ℕ) (g : DottedTree) → position_from (is_alike y.name.0) 0 imports ≡ Some q → g ≡ get_or imports q g → (b : Bool) → nat_eq q p ≡ b
      → get_or (set differ p other) q false ≡ is_other_import (take (i + 1) imports) g
  go y q g found gs true b =
      let z : q ≡ p = grind (arith, nat_tests, b) in
      let h : g ≡ f = same-place imports p f g w.0 fs (gs ∙ ap (λ (k : ℕ). get_or imports k g) z) in
      let l : p < length differ = omega (arith, w.0, memo.count) in
      ap (λ (k : ℕ). get_or (set differ p other) k false) z ∙ get_or-set_same differ p other false l ∙ o
      ∙ ap (λ a. a || not (same f.name.0 x.name.0)) (memo.each x p f e fs)
      ∙ ap (λ n. is_other_import (take i imports) f || not n) (same-turned f.name.0 x.name.0)
      ∙ adds (is_other_import (take i imports) f) (same (last x.name.0) (last f.name.0)) (not (same x.name.0 f.name.0)) (same-turned (last x.name.0) (last f.name.0) ∙ w.1)
      ∙ sym (more f) ∙ ap (is_other_import (take (i + 1) imports)) (sym h)
  go y q g found gs false b =
      let n : q ≡ p → ⊥ = λ z. let t : nat_eq q p ≡ true = eq-eqb q p z in absurd (cc) in
      get_or-set_other differ p q other false n ∙ memo.each y q g found gs
      ∙ keeps (is_other_import (take i imports) g) (same (last x.name.0) (last g.name.0)) (not (same x.name.0 g.name.0)) (apart (same (last x.name.0) (last g.name.0)) refl) ∙ sym (more g) where
        v : (q < length imports) × (is_alike y.name.0 g ≡ true)
        v = passes imports y q g found gs

        apart : (s : Bool) → same (last x.name.0) (last g.name.0) ≡ s → s ≡ false
        apart false h = refl
        apart true h =
            let t : (d : DottedTree) → is_alike x.name.0 d ≡ is_alike y.name.0 d = λ d. same-right (last d.name.0) (last x.name.0) (last g.name.0) h ∙ same-right (last d.name.0) (last g.name.0) (last y.name.0) v.1 in
            let u = sym found ∙ sym (position-same (is_alike x.name.0) (is_alike y.name.0) t 0 imports) ∙ e in
            let z : q ≡ p = cc in
            let r : nat_eq q p ≡ true = eq-eqb q p z in
            cc
