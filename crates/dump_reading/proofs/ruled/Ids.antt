-- The ids of methods in a dump break no rule.
use Rattle.std.proofs.Common.{◌≡◌, ℕ, zero, suc, ◌≤◌, Bool, true, false, not, ◌||◌, nat_le, nat_eq, List, [], ◌∷◌, ◌++◌, map, take, Option, Some, None, slice_get, refl, sym, ap, ◌∙◌, arith, append-nil}
use Rattle.std.specs.List.{list_all, list_any, flat_map}
use Rattle.std.proofs.lemmas.Bool.Decides.{nat_tests}
use Rattle.aidl_syntax.specs.declared.token.Token.{Token}
use Rattle.aidl_syntax.specs.declared.token.TokenKind.TheVariants as kind
use Rattle.aidl_syntax.specs.declared.tree.TypeTree.{TypeTree}
use Rattle.aidl_syntax.specs.Trees as tree
use Rattle.aidl_syntax.specs.Trees.{map_option}
use Rattle.aidl_syntax.specs.Trees.Members.{none}
use Rattle.aidl_syntax.specs.Members.{Member, listed, members}
use Rattle.aidl_syntax.specs.Members.Member.{field, constant, method, enumerator, nested}
use Rattle.type_shapes.specs.declared.shape.Shape.{Shape}
use Rattle.type_uses.specs.Ids.{number_of, is_id, is_id_kind, number_of_kind, has_id}
use Rattle.type_uses.specs.TypeUses.{TypeUse, of_arg, of_members, methods_at, methods_in}
use Rattle.type_rules.specs.IdRules.{is_bad_id, is_bad_token, is_taken, has_value, bad_ids}
use Rattle.aidl_schema.specs.declared.schema.Decl.{Decl}
use Rattle.aidl_schema.specs.declared.schema.Method.{Method}
use Rattle.aidl_schema.specs.declared.schema.Kind.{Kind}
use Rattle.aidl_schema.specs.declared.schema.Kind.TheVariants.{Interface, Parcelable, Union, Enum}
use Rattle.aidl_schema.specs.Holds.{AreApart, OfEach}
use Rattle.aidl_schema.specs.Methods.{last_id}
use Rattle.aidl_schema.specs.Names.{may_enclose, methods_of}
use Rattle.dump_reading.specs.Bare.{bare_token, bare_body, bare_method}
use Rattle.dump_reading.specs.DumpTrees.{body_tree, constants_before, method_tree, constant_tree, field_tree, enumerator_tree}
use Rattle.dump_reading.proofs.named.Members.{bare_member, members_bare, members_written, Own}
use Rattle.dump_reading.proofs.named.Stand.{after_none, any_none, take_at}
use Rattle.dump_reading.proofs.settled.Members.{is_nested}

-- the methods among members
abbrev pub among : List Member → List tree.Method
among [] = []
among (method m ∷ ms) = m ∷ among ms
among (field f ∷ ms) = among ms
among (constant c ∷ ms) = among ms
among (enumerator e ∷ ms) = among ms
among (nested d ∷ ms) = among ms

args_pass : (sh : TypeTree → Shape) (args : List tree.Arg) (rest : List TypeUse) → flat_map methods_at (map (of_arg sh) args ++ rest) ≡ flat_map methods_at rest
args_pass sh [] rest = refl
args_pass sh (a ∷ args) rest = args_pass sh args rest

pub among_uses : (sh : TypeTree → Shape) (ms : List Member) → methods_in (of_members sh ms) ≡ among ms
among_uses sh [] = refl
among_uses sh (method m ∷ ms) = ap (λ xs. m ∷ xs) (args_pass sh m.args (of_members sh ms) ∙ among_uses sh ms)
among_uses sh (field f ∷ ms) = among_uses sh ms
among_uses sh (constant c ∷ ms) = among_uses sh ms
among_uses sh (enumerator e ∷ ms) = among_uses sh ms
among_uses sh (nested d ∷ ms) = among_uses sh ms

among_bare : (ms : List Member) → map bare_method (among ms) ≡ among (map bare_member ms)
among_bare [] = refl
among_bare (method m ∷ ms) = ap (λ xs. bare_method m ∷ xs) (among_bare ms)
among_bare (field f ∷ ms) = among_bare ms
among_bare (constant c ∷ ms) = among_bare ms
among_bare (enumerator e ∷ ms) = among_bare ms
among_bare (nested d ∷ ms) = among_bare ms

among_join : (xs ys : List Member) → among (xs ++ ys) ≡ among xs ++ among ys
among_join [] ys = refl
among_join (method m ∷ xs) ys = ap (λ zs. m ∷ zs) (among_join xs ys)
among_join (field f ∷ xs) ys = among_join xs ys
among_join (constant c ∷ xs) ys = among_join xs ys
among_join (enumerator e ∷ xs) ys = among_join xs ys
among_join (nested d ∷ xs) ys = among_join xs ys

among_nested : (xs : List Member) → list_all is_nested xs ≡ true → among xs ≡ []
among_nested [] h = refl
among_nested (nested d ∷ xs) h = among_nested xs h
among_nested (method m ∷ xs) h = cc
among_nested (field f ∷ xs) h = cc
among_nested (constant c ∷ xs) h = cc
among_nested (enumerator e ∷ xs) h = cc

module _ {X : Type 0} where
  among_methods : (g : X → tree.Method) (xs : List X) → among (map (λ x. method (g x)) xs) ≡ map g xs
  among_methods g [] = refl
  among_methods g (x ∷ xs) = ap (λ ys. g x ∷ ys) (among_methods g xs)

  among_fields : (g : X → tree.Field) (xs : List X) → among (map (λ x. field (g x)) xs) ≡ []
  among_fields g [] = refl
  among_fields g (x ∷ xs) = among_fields g xs

  among_constants : (g : X → tree.Constant) (xs : List X) → among (map (λ x. constant (g x)) xs) ≡ []
  among_constants g [] = refl
  among_constants g (x ∷ xs) = among_constants g xs

  among_enumerators : (g : X → tree.Enumerator) (xs : List X) → among (map (λ x. enumerator (g x)) xs) ≡ []
  among_enumerators g [] = refl
  among_enumerators g (x ∷ xs) = among_enumerators g xs

among_own : (S : List Decl) (k : Kind) → among (Own S k) ≡ map (λ m. method_tree S m) (methods_of k)
among_own S (Interface ms) = among_methods (λ m. method_tree S m) ms
among_own S (Parcelable fs) = among_fields (λ f. field_tree S f) fs
among_own S (Union fs) = among_fields (λ f. field_tree S f) fs
among_own S (Enum b es) = among_enumerators (λ e. enumerator_tree b e) es

-- the methods of a body are those of the schema
pub methods_written : (S : List Decl) (d : Decl) (last : tree.Members) → (may_enclose d.kind ≡ false → (d.constants ≡ []) × (last ≡ none)) → list_all is_nested (listed last) ≡ true
    → (t : tree.Body) → bare_body t ≡ body_tree S d.kind (constants_before S d last) → map bare_method (among (members t)) ≡ map (λ m. method_tree S m) (methods_of d.kind)
methods_written S d last bare inner t e =
    let cs = map (λ c. constant (constant_tree S c)) d.constants in
    among_bare (members t) ∙ ap among (sym (members_bare t) ∙ ap members e ∙ members_written S d d.kind last bare) ∙ among_join (Own S d.kind) (cs ++ listed last)
    ∙ ap (λ xs. xs ++ among (cs ++ listed last)) (among_own S d.kind)
    ∙ ap (λ xs. map (λ m. method_tree S m) (methods_of d.kind) ++ xs) (among_join cs (listed last) ∙ ap (λ xs. xs ++ among (listed last)) (among_constants (λ c. constant_tree S c) d.constants) ∙ among_nested (listed last) inner)
    ∙ append-nil (map (λ m. method_tree S m) (methods_of d.kind))

-- Ids.

-- the method of the schema at a place
pub beside : (S : List Decl) (ys : List tree.Method) (ms : List Method) → map bare_method ys ≡ map (λ m. method_tree S m) ms → (k : ℕ) (y : tree.Method) → slice_get ys k ≡ Some y → (m : Method) × (slice_get ms k ≡ Some m) × (bare_method y ≡ method_tree S m)
beside S [] ms e k y at = cc
beside S (z ∷ ys) [] e k y at = cc
beside S (z ∷ ys) (m ∷ ms) e zero y at = let is : z ≡ y = cc in let here : bare_method z ≡ method_tree S m = cc in (m, refl, ap bare_method (sym is) ∙ here)
beside S (z ∷ ys) (m ∷ ms) e (suc k) y at = let rest : map bare_method ys ≡ map (λ m. method_tree S m) ms = cc in beside S ys ms rest k y at

pub token_is : (o : Option Token) (n : ℕ) → map_option bare_token o ≡ Some (record { kind = kind.Number n false false; offset = 0 }) → (t : Token) × (o ≡ Some t) × (t.kind ≡ kind.Number n false false)
token_is None n e = cc
token_is (Some t) n e = (t, refl, let is : bare_token t ≡ record { kind = kind.Number n false false; offset = 0 } = cc in ap (λ x. x.kind) is)

small : (n : ℕ) → n ≤ 16777114 → nat_le n 16777114 ≡ true
small n le = grind (arith, nat_tests)

differ : (m n : ℕ) → (m ≡ n → ⊥) → nat_eq m n ≡ false
differ m n h = by (nat_eq m n) refl where
  by : (b : Bool) → nat_eq m n ≡ b → nat_eq m n ≡ false
  by false e = e
  by true e = absurd (h (grind (arith, nat_tests)))

pub ids_fine : (S : List Decl) (ys : List tree.Method) (ms : List Method) → map bare_method ys ≡ map (λ m. method_tree S m) ms → AreApart (λ m. m.id) ms → OfEach ms (λ m. m.id ≤ last_id) → bad_ids ys ≡ []
ids_fine S ys ms e apart few = ap (map (λ m. m.name.offset)) (after_none (is_bad_id (list_any has_id ys)) [] ys (λ k y at.
    let b = beside S ys ms e k y at in let m = b.0 in
    let t = token_is y.id m.id (ap (λ z. z.id) b.2) in
    let good : is_id t.0 ≡ true = ap is_id_kind t.2 ∙ small m.id (few k m b.1) in
    let number : number_of t.0 ≡ m.id = ap number_of_kind t.2 in
    let free : is_taken (take k ys) m.id ≡ false = any_none (λ z. has_value m.id z.id) (take k ys) (λ j z there.
    let a = take_at ys k j z there in let lt = a.0 in
    let c = beside S ys ms e j z a.1 in let u = token_is z.id c.0.id (ap (λ w. w.id) c.2) in
    ap (has_value m.id) u.1 ∙ ap (λ q. nat_eq m.id (number_of_kind q)) u.2 ∙ differ m.id c.0.id (λ same. let is : k ≡ j = apart k j m c.0 b.1 c.1 same in absurd (omega arith))) in
    ap (is_bad_token (list_any has_id ys) (is_taken (take k ys))) t.1 ∙ ap (λ q. not q || is_taken (take k ys) (number_of t.0)) good ∙ ap (is_taken (take k ys)) number ∙ free))
