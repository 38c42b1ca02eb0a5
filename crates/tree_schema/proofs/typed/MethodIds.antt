-- The ids of an interface that doesn't break E19: distinct, and at most the last one.
use Rattle.std.proofs.Common.{if◌then◌else◌, ◌≡◌, ◌≤◌, ◌<◌, ◌+◌, ℕ, Bool, true, false, not, ◌&&◌, ◌||◌, nat_eq, nat_le, List, [], ◌∷◌, ◌++◌, map, length, Option, Some, None, is_some, slice_get, refl, sym, ap, ◌∙◌, arith}
use Rattle.std.specs.List.{list_any, list_all}
use Rattle.std.proofs.lemmas.Bool.Decides.{nat_tests}
use Rattle.aidl_base.proofs.lemmas.Tests.{both, neither}
use Rattle.aidl_schema.specs.Methods.{last_id}
use Rattle.aidl_schema.specs.Names.{are_distinct}
use Rattle.aidl_syntax.specs.declared.token.Token.{Token}
use Rattle.aidl_syntax.specs.declared.token.TokenKind.{TokenKind}
use Rattle.aidl_syntax.specs.declared.token.TokenKind.TheVariants as token
use Rattle.aidl_syntax.specs.declared.tree.TypeTree.{TypeTree}
use Rattle.aidl_syntax.specs.Trees.{Method, Arg}
use Rattle.aidl_syntax.specs.Members.{Member}
use Rattle.aidl_syntax.specs.Members.Member.{field, constant, method, enumerator, nested}
use Rattle.declared_names.specs.Numbered.{after_earlier}
use Rattle.aidl_syntax.specs.Sources.{Source}
use Rattle.type_shapes.specs.declared.shape.Shape.{Shape}
use Rattle.type_uses.specs.Ids.{number_of_kind, number_of, is_id_kind, is_id, has_id, id_by, id_of, ids_from, ids}
use Rattle.type_uses.specs.TypeUses as uses
use Rattle.type_uses.specs.TypeUses.{TypeUse, of_arg, of_members}
use Rattle.type_rules.specs.IdRules.{has_value, is_taken, is_bad_token, is_bad_id}
use Rattle.tree_schema.specs.Parts.{kept_id, methods_in}
use Rattle.tree_schema.proofs.walked.Breaches.{none-earlier}
use Rattle.tree_schema.proofs.lemmas.walked.Lists.{there-kept, there-last}
use Rattle.tree_schema.proofs.typed.Uses.{any-at}

-- no method has an id: the ids are the positions

position_by : (p : ℕ) (o : Option Token) → is_some o ≡ false → id_by p o ≡ p
position_by p None h = refl
position_by p (Some t) h = cc

positions_within : (p : ℕ) (ms : List Method) → list_any has_id ms ≡ false → p + length ms ≤ last_id → list_all (λ i. nat_le i last_id) (ids_from p ms) ≡ true
positions_within p [] h le = refl
positions_within p (m ∷ ms) h le =
    let two = neither (has_id m) (list_any has_id ms) h in
    let is : id_of p m ≡ p = position_by p m.id two.0 in
    let within : nat_le p last_id ≡ true = grind (arith, nat_tests) in
    let here : nat_le (id_of p m) last_id ≡ true = ap (λ (i : ℕ). nat_le i last_id) is ∙ within in
    rw (here, positions_within (p + 1) ms two.1 (omega arith)) refl

positions_apart : (q p : ℕ) (ms : List Method) → list_any has_id ms ≡ false → q < p → list_any (λ j. nat_eq q j) (ids_from p ms) ≡ false
positions_apart q p [] h lt = refl
positions_apart q p (m ∷ ms) h lt =
    let two = neither (has_id m) (list_any has_id ms) h in
    let is : id_of p m ≡ p = position_by p m.id two.0 in
    let differs : nat_eq q p ≡ false = grind (arith, nat_tests) in
    let here : nat_eq q (id_of p m) ≡ false = ap (nat_eq q) is ∙ differs in
    rw (here, positions_apart q (p + 1) ms two.1 (omega arith)) refl

positions_distinct : (p : ℕ) (ms : List Method) → list_any has_id ms ≡ false → are_distinct nat_eq (ids_from p ms) ≡ true
positions_distinct p [] h = refl
positions_distinct p (m ∷ ms) h =
    let two = neither (has_id m) (list_any has_id ms) h in
    let is : id_of p m ≡ p = position_by p m.id two.0 in
    let apart : list_any (λ j. nat_eq (id_of p m) j) (ids_from (p + 1) ms) ≡ false =
    ap (λ (i : ℕ). list_any (λ j. nat_eq i j) (ids_from (p + 1) ms)) is ∙ positions_apart p (p + 1) ms two.1 (omega arith) in
    rw (apart, positions_distinct (p + 1) ms two.1) refl

-- each method has an id, and none that of an earlier one

id_within : (k : TokenKind) → is_id_kind k ≡ true → nat_le (number_of_kind k) last_id ≡ true
id_within (token.Number bits hexadecimal long) h = by hexadecimal long h where
  by : (a b : Bool) → (not a && not b && nat_le bits 16777114) ≡ true → nat_le bits last_id ≡ true
  by false false g = g
  by false true g = cc
  by true b g = cc
id_within (token.Name x) h = cc
id_within (token.Word w) h = cc
id_within (token.Character c) h = cc
id_within (token.Str x) h = cc
id_within (token.Mark s) h = cc

good_token : (taken : ℕ → Bool) (o : Option Token) → is_bad_token true taken o ≡ false → (t : Token) × (o ≡ Some t) × (nat_le (number_of t) last_id ≡ true) × (taken (number_of t) ≡ false)
good_token taken None h = cc
good_token taken (Some t) h = by (is_id t) refl h where
  by : (b : Bool) → is_id t ≡ b → (not b || taken (number_of t)) ≡ false → (s : Token) × (Some t ≡ Some s) × (nat_le (number_of s) last_id ≡ true) × (taken (number_of s) ≡ false)
  by true e g = (t, refl, id_within t.kind e, g)
  by false e g = cc

written_within : (before : List Method) (p : ℕ) (ms : List Method) → after_earlier (is_bad_id true) before ms ≡ [] → list_all (λ i. nat_le i last_id) (ids_from p ms) ≡ true
written_within before p [] h = refl
written_within before p (m ∷ ms) h =
    let two = none-earlier (is_bad_id true) before ms m h in
    let t = good_token (is_taken before) m.id two.0 in
    let here : nat_le (id_of p m) last_id ≡ true = ap (λ o. nat_le (id_by p o) last_id) t.1 ∙ t.2 in
    rw (here, written_within (before ++ m ∷ []) (p + 1) ms two.1) refl

later_apart : (before : List Method) (j : ℕ) (x : Method) (t : Token) (p : ℕ) (ms : List Method) → slice_get before j ≡ Some x → x.id ≡ Some t → after_earlier (is_bad_id true) before ms ≡ []
    → list_any (λ i. nat_eq (number_of t) i) (ids_from p ms) ≡ false
later_apart before j x t p [] at e h = refl
later_apart before j x t p (m ∷ ms) at e h =
    let two = none-earlier (is_bad_id true) before ms m h in
    let s = good_token (is_taken before) m.id two.0 in
    let other : has_value (number_of s.0) x.id ≡ false = any-at (λ (y : Method). has_value (number_of s.0) y.id) before j x s.3 at in
    let turned : nat_eq (number_of s.0) (number_of t) ≡ false = ap (has_value (number_of s.0)) (sym e) ∙ other in
    let differs : nat_eq (number_of t) (number_of s.0) ≡ false = grind (arith, nat_tests) in
    let here : nat_eq (number_of t) (id_of p m) ≡ false = ap (λ o. nat_eq (number_of t) (id_by p o)) s.1 ∙ differs in
    rw (here, later_apart (before ++ m ∷ []) j x t (p + 1) ms (there-kept before (m ∷ []) j x at) e two.1) refl

written_distinct : (before : List Method) (p : ℕ) (ms : List Method) → after_earlier (is_bad_id true) before ms ≡ [] → are_distinct nat_eq (ids_from p ms) ≡ true
written_distinct before p [] h = refl
written_distinct before p (m ∷ ms) h =
    let two = none-earlier (is_bad_id true) before ms m h in
    let t = good_token (is_taken before) m.id two.0 in
    let apart = later_apart (before ++ m ∷ []) (length before) m t.0 (p + 1) ms (there-last before m) t.1 two.1 in
    let here : list_any (λ i. nat_eq (id_of p m) i) (ids_from (p + 1) ms) ≡ false = ap (λ o. list_any (λ i. nat_eq (id_by p o) i) (ids_from (p + 1) ms)) t.1 ∙ apart in
    rw (here, written_distinct (before ++ m ∷ []) (p + 1) ms two.1) refl

-- in either case they are distinct and at most the last one
pub ids-hold : (ms : List Method) → length ms ≤ 4096 → after_earlier (is_bad_id (list_any has_id ms)) [] ms ≡ [] → (are_distinct nat_eq (ids ms) ≡ true) × (list_all (λ i. nat_le i last_id) (ids ms) ≡ true)
ids-hold ms le h = by (list_any has_id ms) refl h where
  by : (b : Bool) → list_any has_id ms ≡ b → after_earlier (is_bad_id b) [] ms ≡ [] → (are_distinct nat_eq (ids ms) ≡ true) × (list_all (λ i. nat_le i last_id) (ids ms) ≡ true)
  by true e g = (written_distinct [] 0 ms g, written_within [] 0 ms g)
  by false e g = let few : 0 + length ms ≤ last_id = omega arith in (positions_distinct 0 ms e, positions_within 0 ms e few)

-- the methods of a declaration, among its members and among its uses of types

args_none : (shape : TypeTree → Shape) (args : List Arg) (rest : List TypeUse) → uses.methods_in (map (of_arg shape) args ++ rest) ≡ uses.methods_in rest
args_none shape [] rest = refl
args_none shape (a ∷ args) rest = args_none shape args rest

kept : (id : ℕ) → nat_le id last_id ≡ true → kept_id id ≡ id
kept id h = ap (λ (b : Bool). if b then id else 0) h

pub methods-are : (files : List Source) (file scope : ℕ) (oneway : Bool) (shape : TypeTree → Shape) (before : ℕ) (ms : List Member)
    → list_all (λ i. nat_le i last_id) (ids_from before (uses.methods_in (of_members shape ms))) ≡ true
    → map (λ m. m.id) (methods_in files file scope oneway before ms) ≡ ids_from before (uses.methods_in (of_members shape ms))
methods-are files file scope oneway shape before [] h = refl
methods-are files file scope oneway shape before (field f ∷ ms) h = methods-are files file scope oneway shape before ms h
methods-are files file scope oneway shape before (constant c ∷ ms) h = methods-are files file scope oneway shape before ms h
methods-are files file scope oneway shape before (enumerator e ∷ ms) h = methods-are files file scope oneway shape before ms h
methods-are files file scope oneway shape before (nested d ∷ ms) h = methods-are files file scope oneway shape before ms h
methods-are files file scope oneway shape before (method m ∷ ms) h =
    let none = args_none shape m.args (of_members shape ms) in
    let are = λ (ts : List Method). list_all (λ i. nat_le i last_id) (ids_from (before + 1) ts) in
    let two = both (nat_le (id_of before m) last_id) (are (uses.methods_in (map (of_arg shape) m.args ++ of_members shape ms))) h in
    let rest = methods-are files file scope oneway shape (before + 1) ms (ap are (sym none) ∙ two.1) in
    ap (λ (i : ℕ). i ∷ map (λ m'. m'.id) (methods_in files file scope oneway (before + 1) ms)) (kept (id_of before m) two.0)
    ∙ ap (λ is. id_of before m ∷ is) (rest ∙ ap (ids_from (before + 1)) (sym none))

pub methods-few : (shape : TypeTree → Shape) (ms : List Member) → length (uses.methods_in (of_members shape ms)) ≤ length ms
methods-few shape [] = omega arith
methods-few shape (field f ∷ ms) = let h = methods-few shape ms in omega arith
methods-few shape (constant c ∷ ms) = let h = methods-few shape ms in omega arith
methods-few shape (enumerator e ∷ ms) = let h = methods-few shape ms in omega arith
methods-few shape (nested d ∷ ms) = let h = methods-few shape ms in omega arith
methods-few shape (method m ∷ ms) =
    let h = methods-few shape ms in
    let same = ap length (args_none shape m.args (of_members shape ms)) in
    omega arith
