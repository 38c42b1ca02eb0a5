-- Tests.
use Rattle.std.proofs.Common.{◌≡◌, ℕ, zero, suc, Bool, true, false, ◌&&◌, ◌||◌, not, List, [], ◌∷◌, Option, Some, None, is_some, refl}
use Rattle.std.specs.List.{list_all}
use Rattle.parse_places.specs.declared.terminal.Terminal.{Terminal}
use Rattle.parse_places.specs.declared.terminal.Terminal.TheVariants as terminal
use Rattle.parse_places.proofs.runs.Follows.{terminals}

pub and_parts : (a b : Bool) → (a && b) ≡ true → (a ≡ true) × (b ≡ true)
and_parts true b e = (refl, e)
and_parts false b e = cc

pub or_mono : (a k x y : Bool) → (x ≡ true → y ≡ true) → (a || (k && x)) ≡ true → (a || (k && y)) ≡ true
or_mono true k x y f e = refl
or_mono false true x y f e = f e
or_mono false false x y f e = e

pub or_left : (a b : Bool) → a ≡ true → (a || b) ≡ true
or_left true b e = refl
or_left false b e = cc

pub or_right : (a k x : Bool) → k ≡ true → x ≡ true → (a || (k && x)) ≡ true
or_right true k x e f = refl
or_right false true x e f = f
or_right false false x e f = cc

pub not_both : (a b : Bool) → not (a && b) ≡ true → b ≡ true → a ≡ false
not_both true b e f = absurd (no b e f) where
  no : (b : Bool) → not b ≡ true → b ≡ true → ⊥
  no true e f = cc
  no false e f = cc
not_both false b e f = refl

pub guarded : (k m r : Bool) → (not (k && m) || r) ≡ true → k ≡ true → r ≡ false → m ≡ false
guarded true true true e f g = cc
guarded true true false e f g = cc
guarded true false r e f g = refl
guarded false true r e f g = cc
guarded false false r e f g = refl

pub none_is : {A : Type 0} (o : Option A) → is_some o ≡ false → o ≡ None
none_is None e = refl
none_is (Some x) e = cc

nth : List Terminal → ℕ → Option Terminal
nth [] n = None
nth (c ∷ cs) zero = Some c
nth (c ∷ cs) (suc n) = nth cs n

all_nth : (f : Terminal → Bool) (cs : List Terminal) (n : ℕ) (c : Terminal) → list_all f cs ≡ true → nth cs n ≡ Some c → f c ≡ true
unfolding nth
all_nth f [] n c h e = cc
all_nth f (d ∷ cs) zero c h e = let p = and_parts (f d) (list_all f cs) h in let k : d ≡ c = cc in cc
all_nth f (d ∷ cs) (suc n) c h e = let p = and_parts (f d) (list_all f cs) h in all_nth f cs n c p.1 e

-- a test of each terminal holds of each
pub every : (f : Terminal → Bool) → list_all f terminals ≡ true → (c : Terminal) → f c ≡ true
unfolding nth
every f h terminal.Name = all_nth f terminals 0 terminal.Name h refl
every f h terminal.Number = all_nth f terminals 1 terminal.Number h refl
every f h terminal.Literal = all_nth f terminals 2 terminal.Literal h refl
every f h terminal.Package = all_nth f terminals 3 terminal.Package h refl
every f h terminal.Import = all_nth f terminals 4 terminal.Import h refl
every f h terminal.Interface = all_nth f terminals 5 terminal.Interface h refl
every f h terminal.Parcelable = all_nth f terminals 6 terminal.Parcelable h refl
every f h terminal.Union = all_nth f terminals 7 terminal.Union h refl
every f h terminal.Enum = all_nth f terminals 8 terminal.Enum h refl
every f h terminal.Const = all_nth f terminals 9 terminal.Const h refl
every f h terminal.Oneway = all_nth f terminals 10 terminal.Oneway h refl
every f h terminal.Way = all_nth f terminals 11 terminal.Way h refl
every f h terminal.Void = all_nth f terminals 12 terminal.Void h refl
every f h terminal.OpenBrace = all_nth f terminals 13 terminal.OpenBrace h refl
every f h terminal.CloseBrace = all_nth f terminals 14 terminal.CloseBrace h refl
every f h terminal.OpenParen = all_nth f terminals 15 terminal.OpenParen h refl
every f h terminal.CloseParen = all_nth f terminals 16 terminal.CloseParen h refl
every f h terminal.OpenBracket = all_nth f terminals 17 terminal.OpenBracket h refl
every f h terminal.CloseBracket = all_nth f terminals 18 terminal.CloseBracket h refl
every f h terminal.Less = all_nth f terminals 19 terminal.Less h refl
every f h terminal.Greater = all_nth f terminals 20 terminal.Greater h refl
every f h terminal.Comma = all_nth f terminals 21 terminal.Comma h refl
every f h terminal.Semicolon = all_nth f terminals 22 terminal.Semicolon h refl
every f h terminal.Equal = all_nth f terminals 23 terminal.Equal h refl
every f h terminal.Dot = all_nth f terminals 24 terminal.Dot h refl
every f h terminal.At = all_nth f terminals 25 terminal.At h refl
every f h terminal.Sign = all_nth f terminals 26 terminal.Sign h refl
every f h terminal.PlusOrMinus = all_nth f terminals 27 terminal.PlusOrMinus h refl
every f h terminal.Operator = all_nth f terminals 28 terminal.Operator h refl
