-- The code's stack and its loop over the tokens.
use Rattle.std.proofs.Common.{◌≡◌, ℕ, ◌+◌, ◌<◌, ◌≤◌, Bool, true, false, cond, ◌&&◌, List, [], ◌∷◌, ◌++◌, reverse, drop, length, get_or, Option, Some, None, refl, sym, ap, ◌∙◌, add-one, drop-cons}
use Rattle.std.specs.List.{list_all}
use Rattle.std.proofs.lemmas.List.{reverse-append, drop_all}
use Rattle.std.proofs.lemmas.List.Folds.{list_all-append}
use Rattle.aidl_syntax.specs.declared.token.Token.{Token}
use Rattle.parse_places.specs.declared.terminal.Terminal.{Terminal}
use Rattle.parse_places.specs.declared.expected.Expected.{Expected}
use Rattle.parse_places.specs.steps.Terminals.{terminal_of}
use Rattle.parse_places.specs.steps.Moves.{moves, skips, move_or_skip, step, ends}
use Rattle.parse_places.specs.steps.Places.{place_or, place_from}
use Rattle.parse_places.specs.steps.Seen.{Went, gone_on}

-- the top of the stack is taken
pub popped : (items before : List Expected) (e : Expected) (c : Terminal) → items ≡ before ++ e ∷ []
    → step (reverse items) c ≡ move_or_skip (moves e c) (skips e) (reverse before) (step (reverse before) c)
unfolding step
popped items before e c is = ap (λ s. step s c) (ap reverse is ∙ reverse-append before (e ∷ []))

pub went : (on : Bool) (o : Option (List Expected)) (before after : List Expected) (k : Bool) (r : Option (List Expected)) → Went on o before after → on ≡ true
    → Some (reverse after) ≡ move_or_skip o k (reverse before) r
went on None before after k r (off, same) e = cc
went on (Some es) before after k r (goes, is) e = ap Some is

pub stayed : (on : Bool) (o : Option (List Expected)) (before after : List Expected) → Went on o before after → on ≡ false → (o ≡ None) × (after ≡ before)
stayed on None before after (off, same) e = (refl, same)
stayed on (Some es) before after (goes, is) e = cc

-- The order doesn't count for what may be left out.

and_turned : (a b : Bool) → (a && b) ≡ (b && a)
and_turned true true = refl
and_turned true false = refl
and_turned false true = refl
and_turned false false = refl

pub ends_turned : (stack : List Expected) → ends (reverse stack) ≡ ends stack
unfolding ends
ends_turned [] = refl
ends_turned (e ∷ stack) =
    ap ends (reverse-append (e ∷ []) stack) ∙ list_all-append skips (reverse stack) (e ∷ []) ∙ and_turned (ends (reverse stack)) (list_all skips (e ∷ [])) ∙ one (skips e) (ends (reverse stack)) ∙ ap (λ b. skips e && b) (ends_turned stack) where
      one : (a b : Bool) → ((a && true) && b) ≡ (a && b)
      one true b = refl
      one false b = refl

-- the loop over the tokens

pub place_at : (tokens : List Token) (i : ℕ) (t : Token) (stack : List Expected) → i < length tokens → t ≡ get_or tokens i t
    → place_from i (drop i tokens) stack ≡ place_or i (step stack (terminal_of t.kind)) (place_from (i + 1) (drop (i + 1) tokens))
unfolding place_from
place_at tokens i t stack lt is = ap (λ ts. place_from i ts stack) (drop-cons tokens i t lt) ∙ rw (sym is, add-one) refl

pub place_after : (tokens : List Token) (i : ℕ) (stack : List Expected) → length tokens ≤ i → place_from i (drop i tokens) stack ≡ cond (ends stack) None (Some i)
unfolding place_from
place_after tokens i stack le = rw drop_all refl

pub refused : (on : Bool) (items : List Expected) (r : Option (List Expected)) → gone_on on items ≡ r → on ≡ false → r ≡ None
refused on items r e off = sym e ∙ ap (λ b. gone_on b items) off

pub accepted : (on : Bool) (items : List Expected) (r : Option (List Expected)) → gone_on on items ≡ r → on ≡ true → r ≡ Some (reverse items)
accepted on items r e goes = sym e ∙ ap (λ b. gone_on b items) goes
