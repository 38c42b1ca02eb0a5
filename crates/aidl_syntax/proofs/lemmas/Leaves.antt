-- The four walks: places ascend, names are identifiers, dotted names have parts, literals hold what their kind may hold.
use Rattle.std.proofs.Common.{◌≡◌, ℕ, ◌+◌, ◌<◌, true, List, [], ◌∷◌, ◌++◌, length, map, refl, ap, subst, ◌∙◌, arith}
use Rattle.std.proofs.lemmas.List.{map-append}
use Rattle.std.specs.List.{All}
use Rattle.std.specs.List.Sorted.{IsStrictlyIncreasing}
use Rattle.std.proofs.lemmas.List.Elements.{All-nil, All-cons, All-append, All-head, All-tail}
use Rattle.aidl_base.specs.declared.name.Ident.{Ident}
use Rattle.aidl_base.specs.Identifiers.{is_identifier}
use Rattle.aidl_syntax.specs.declared.token.Token.{Token}
use Rattle.aidl_syntax.specs.declared.token.TokenKind.TheVariants as kind
use Rattle.aidl_syntax.specs.declared.tree.DottedTree.{DottedTree}
use Rattle.aidl_syntax.specs.Parses.{Holds}
use Rattle.aidl_syntax.specs.Parts.{first}
use Rattle.aidl_syntax.specs.Productions.{AreNames, IsDotted, IsOf, IsFile}
use Rattle.aidl_syntax.specs.Tokens.{Tokens}
use Rattle.aidl_syntax.specs.Trees.{Expr, offset_of, File}
use Rattle.aidl_syntax.specs.Trees.Expr.{literal, name, group, unary, binary}
use Rattle.aidl_syntax.specs.Walks.{in_expr, placing, naming, joining, counting, places_of, names_of, dotted_of, literals_of}
use Rattle.aidl_syntax.proofs.Cutting.{rises, hold}
use Rattle.aidl_syntax.proofs.Rising.{Rises, bounded, apart, together, below, increasing}
use Rattle.aidl_syntax.proofs.Walking.{Kept, whole}

-- Places: between the same bounds as the tokens' offsets, they ascend as these do.

abbrev Placed : List ℕ → List Token → Type 0
Placed xs ts = (low high : ℕ) → Rises low (map (λ t. t.offset) ts) high → Rises low xs high

placed_append : (xs ys : List ℕ) (front back : List Token) → Placed xs front → Placed ys back → Placed (xs ++ ys) (front ++ back)
placed_append xs ys front back a b low high h =
    let split : Rises low (map (λ t. t.offset) front ++ map (λ t. t.offset) back) high = subst (λ os. Rises low os high) (map-append (λ t. t.offset) front back) h in
    let s = apart (map (λ t. t.offset) front) (map (λ t. t.offset) back) low high split in
    together xs ys low s.0 high (a low s.0 s.1) (b s.0 high s.2)

-- the place of the first token
placed_first : (o : ℕ) (t : Token) (us ts : List Token) → ts ≡ t ∷ us → o ≡ t.offset → Placed (o ∷ []) ts
placed_first o t us ts is e low high h =
    let k : Rises low (t.offset ∷ map (λ t. t.offset) us) high = subst (λ vs. Rises low (map (λ t. t.offset) vs) high) is h in
    let b = bounded (map (λ t. t.offset) us) (t.offset + 1) high k.1 in
    let le = k.0 in
    (omega arith, omega arith)

names_first : (is : List Ident) (ts : List Token) → AreNames ts is → (t : Token) × (us : List Token) × (ts ≡ t ∷ us)
names_first [] ts h = absurd h
names_first (i ∷ []) ts (t, e, k) = (t, [], e)
names_first (i ∷ j ∷ js) ts (t, dot, more, e, k, d, h) = (t, dot ∷ more, e)

-- an expression begins with a token, and stands at its offset
expr_first : (e : Expr) (least : ℕ) (ts : List Token) → IsOf least ts e → (t : Token) × (us : List Token) × (ts ≡ t ∷ us) × (offset_of e ≡ t.offset)
expr_first (literal o t) least ts (is, lit, e) = (t, [], is, e)
expr_first (name o d) least ts (h, e) = let s = names_first d.name.0 ts h.1 in (s.0, s.1, s.2, e ∙ ap first s.2)
expr_first (group o a) least ts (begin, close, inner, is, b, c, e, h) = (begin, inner ++ close ∷ [], is, e)
expr_first (unary o op a) least ts (sign, inner, is, s, p, e, h) = (sign, inner, is, e)
expr_first (binary o op a b) least ts (pos, le, left, right, sign, is, s, e, h, k) =
    let f = expr_first a _ left h in (f.0, f.1 ++ sign ∷ right, is ∙ ap (λ us. us ++ sign ∷ right) f.2, e ∙ f.3)

placed : Kept placing Placed
placed = record {
  nothing = λ ts low high h. bounded (map (λ t. t.offset) ts) low high h;
  append = placed_append;
  named = λ ts n p. placed_first n.offset p.0 [] ts p.1 p.3;
  dotted = λ ts d p. let s = names_first d.name.0 ts p.1 in placed_first d.offset s.0 s.1 ts s.2 (p.0 ∙ ap first s.2);
  valued = λ ts e p. let s = expr_first e 1 ts p in placed_first (offset_of e) s.0 s.1 ts s.2 s.3;
  numbered = λ ts t p. placed_first t.offset t [] ts p.0 refl;
  marked = λ ts o t is e. placed_first o t [] ts is e;
}

places_rise : (bytes : List ℕ) (ts : List Token) (f : File) → Tokens bytes ts → IsFile ts f → Rises 0 (places_of f) (length bytes)
unfolding places_of
places_rise bytes ts f cut file = whole placing Placed placed ts f file 0 (length bytes) (rises bytes ts cut)

pub ascend : (bytes : List ℕ) (ts : List Token) (f : File) → Tokens bytes ts → IsFile ts f → IsStrictlyIncreasing (places_of f)
ascend bytes ts f cut file = increasing (places_of f) 0 (length bytes) (places_rise bytes ts f cut file)

pub inside : (bytes : List ℕ) (ts : List Token) (f : File) → Tokens bytes ts → IsFile ts f → All (λ o. o < length bytes) (places_of f)
inside bytes ts f cut file = below (places_of f) 0 (length bytes) (places_rise bytes ts f cut file)

-- Of each of some leaves a fact holds, where each token holds what its kind may hold.

abbrev Hold : List Token → Type 0
Hold ts = All (λ t. Holds t.kind) ts

hold_front : (front back : List Token) → Hold (front ++ back) → Hold front
hold_front [] back h = All-nil (λ t. Holds t.kind)
hold_front (t ∷ front) back h =
    All-cons (λ t. Holds t.kind) t front (All-head (λ t. Holds t.kind) t (front ++ back) h) (hold_front front back (All-tail (λ t. Holds t.kind) t (front ++ back) h))

hold_back : (front back : List Token) → Hold (front ++ back) → Hold back
hold_back [] back h = h
hold_back (t ∷ front) back h = hold_back front back (All-tail (λ t. Holds t.kind) t (front ++ back) h)

hold_first : (t : Token) (us ts : List Token) → ts ≡ t ∷ us → Hold ts → Holds t.kind
hold_first t us ts is h = All-head (λ t. Holds t.kind) t us (subst Hold is h)

hold_rest : (t : Token) (us ts : List Token) → ts ≡ t ∷ us → Hold ts → Hold us
hold_rest t us ts is h = All-tail (λ t. Holds t.kind) t us (subst Hold is h)

abbrev Each : {A : Type 0} → (A → Type 0) → List A → List Token → Type 0
Each P xs ts = Hold ts → All P xs

module _ {A : Type 0} (P : A → Type 0) where
  each_nothing : (ts : List Token) → Each P [] ts
  each_nothing ts h = All-nil P

  each_append : (xs ys : List A) (front back : List Token) → Each P xs front → Each P ys back → Each P (xs ++ ys) (front ++ back)
  each_append xs ys front back a b h = All-append P xs ys (a (hold_front front back h)) (b (hold_back front back h))

  each_one : (x : A) (ts : List Token) → (Hold ts → P x) → Each P (x ∷ []) ts
  each_one x ts p h = All-cons P x [] (p h) (All-nil P)

  -- the leaves of an expression
  each_expr : (value : Token → List A) (dotted : DottedTree → List A)
      → ((ts : List Token) (t : Token) → ts ≡ t ∷ [] → Each P (value t) ts) → ((ts : List Token) (d : DottedTree) → IsDotted ts d → Each P (dotted d) ts)
      → (e : Expr) (least : ℕ) (ts : List Token) → IsOf least ts e → Each P (in_expr value dotted e) ts
  each_expr value dotted v d (literal o t) least ts (is, lit, e) h = v ts t is h
  each_expr value dotted v d (name o n) least ts (p, e) h = d ts n p h
  each_expr value dotted v d (group o a) least ts (begin, close, inner, is, b, c, e, p) h =
      each_expr value dotted v d a 1 inner p (hold_front inner (close ∷ []) (hold_rest begin (inner ++ close ∷ []) ts is h))
  each_expr value dotted v d (unary o op a) least ts (sign, inner, is, s, q, e, p) h =
      each_expr value dotted v d a 11 inner p (hold_rest sign inner ts is h)
  each_expr value dotted v d (binary o op a b) least ts (pos, le, left, right, sign, is, s, e, p, q) h =
      let k : Hold (left ++ sign ∷ right) = subst Hold is h in
      All-append P (in_expr value dotted a) (in_expr value dotted b)
      (each_expr value dotted v d a _ left p (hold_front left (sign ∷ right) k))
      (each_expr value dotted v d b _ right q (hold_rest sign right (sign ∷ right) refl (hold_back left (sign ∷ right) k)))

-- Names.

abbrev IsNamed : Ident → Type 0
IsNamed i = is_identifier i.0 ≡ true

name_holds : (i : Ident) (t : Token) (us ts : List Token) → ts ≡ t ∷ us → t.kind ≡ kind.Name i.0 → Hold ts → IsNamed i
name_holds i t us ts is k h = subst Holds k (hold_first t us ts is h)

parts_hold : (is : List Ident) (ts : List Token) → AreNames ts is → Each IsNamed is ts
parts_hold [] ts p h = absurd p
parts_hold (i ∷ []) ts (t, e, k) h = All-cons IsNamed i [] (name_holds i t [] ts e k h) (All-nil IsNamed)
parts_hold (i ∷ j ∷ js) ts (t, dot, more, e, k, d, p) h =
    All-cons IsNamed i (j ∷ js) (name_holds i t (dot ∷ more) ts e k h) (parts_hold (j ∷ js) more p (hold_rest dot more (dot ∷ more) refl (hold_rest t (dot ∷ more) ts e h)))

named : Kept naming (λ xs ts. Each IsNamed xs ts)
named = record {
  nothing = each_nothing IsNamed;
  append = each_append IsNamed;
  named = λ ts n p. each_one IsNamed n.name ts (λ h. name_holds n.name p.0 [] ts p.1 p.2 h);
  dotted = λ ts d p. parts_hold d.name.0 ts p.1;
  valued = λ ts e p. each_expr IsNamed (λ t. []) (λ d. d.name.0) (λ us t is. each_nothing IsNamed us) (λ us d q. parts_hold d.name.0 us q.1) e 1 ts p;
  numbered = λ ts t p. each_nothing IsNamed ts;
  marked = λ ts o t is e. each_nothing IsNamed ts;
}

pub names : (bytes : List ℕ) (ts : List Token) (f : File) → Tokens bytes ts → IsFile ts f → All (λ i. is_identifier i.0 ≡ true) (names_of f)
unfolding names_of
names bytes ts f cut file = whole naming (λ xs us. Each IsNamed xs us) named ts f file (hold bytes ts cut)

-- Dotted names.

abbrev HasPart : DottedTree → Type 0
HasPart d = 0 < length d.name.0

some_part : (is : List Ident) (ts : List Token) → AreNames ts is → 0 < length is
some_part [] ts p = absurd p
some_part (i ∷ is) ts p = omega arith

joined : Kept joining (λ xs ts. Each HasPart xs ts)
joined = record {
  nothing = each_nothing HasPart;
  append = each_append HasPart;
  named = λ ts n p. each_nothing HasPart ts;
  dotted = λ ts d p. each_one HasPart d ts (λ h. some_part d.name.0 ts p.1);
  valued = λ ts e p. each_expr HasPart (λ t. []) (λ d. d ∷ []) (λ us t is. each_nothing HasPart us) (λ us d q. each_one HasPart d us (λ h. some_part d.name.0 us q.1)) e 1 ts p;
  numbered = λ ts t p. each_nothing HasPart ts;
  marked = λ ts o t is e. each_nothing HasPart ts;
}

pub parts : (bytes : List ℕ) (ts : List Token) (f : File) → Tokens bytes ts → IsFile ts f → All (λ d. 0 < length d.name.0) (dotted_of f)
unfolding dotted_of
parts bytes ts f cut file = whole joining (λ xs us. Each HasPart xs us) joined ts f file (hold bytes ts cut)

-- Literals.

abbrev IsHeld : Token → Type 0
IsHeld t = Holds t.kind

counted : Kept counting (λ xs ts. Each IsHeld xs ts)
counted = record {
  nothing = each_nothing IsHeld;
  append = each_append IsHeld;
  named = λ ts n p. each_nothing IsHeld ts;
  dotted = λ ts d p. each_nothing IsHeld ts;
  valued = λ ts e p. each_expr IsHeld (λ t. t ∷ []) (λ d. []) (λ us t is. each_one IsHeld t us (λ h. hold_first t [] us is h)) (λ us d q. each_nothing IsHeld us) e 1 ts p;
  numbered = λ ts t p. each_one IsHeld t ts (λ h. hold_first t [] ts p.0 h);
  marked = λ ts o t is e. each_nothing IsHeld ts;
}

pub literals : (bytes : List ℕ) (ts : List Token) (f : File) → Tokens bytes ts → IsFile ts f → All (λ t. Holds t.kind) (literals_of f)
unfolding literals_of
literals bytes ts f cut file = whole counting (λ xs us. Each IsHeld xs us) counted ts f file (hold bytes ts cut)
