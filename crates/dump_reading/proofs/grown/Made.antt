-- Any tokens of the kinds of some pieces stand for a tree that is a given one but for its offsets.
use Rattle.std.proofs.Common.{◌≡◌, ℕ, List, [], ◌∷◌, ◌++◌, map, Some, None, zero, suc, refl, sym, ap, ◌∙◌, append-nil, append_assoc}
use Rattle.std.specs.List.{flat_map}
use Rattle.aidl_syntax.specs.declared.token.Symbol.{Symbol}
use Rattle.aidl_syntax.specs.declared.token.Symbol.TheVariants as mark
use Rattle.aidl_syntax.specs.declared.token.TokenKind.{TokenKind}
use Rattle.aidl_syntax.specs.declared.token.TokenKind.TheVariants as kind
use Rattle.aidl_syntax.specs.declared.token.Token.{Token}
use Rattle.aidl_syntax.specs.Parts.{Form, Then, Maybe, Many, Single, Behind, Before, Listed, Trailing}
use Rattle.aidl_syntax.specs.Trees.{map_option}
use Rattle.api_dump.specs.Pieces.{Piece}
use Rattle.dump_reading.proofs.spelled.Plain.{kinds_of, tokens_at, plain}
use Rattle.std.proofs.Common.{◌+◌, length}
use Rattle.api_dump.specs.Pieces.Piece.{space, newline, token}
use Rattle.api_dump.specs.Pieces.{sign, joined}
use Rattle.dump_reading.proofs.spelled.Fits.{Each}

abbrev pub kinds : List Token → List TokenKind
kinds ts = map (λ t. t.kind) ts

-- Tokens of the kinds of the pieces stand for a value that is `x` once `bare` takes the offsets away.
pub record Made {A : Type 0} (P : Form A) (bare : A → A) (ps : List Piece) (x : A) : Type 0 where
  pub at : (ts : List Token) → kinds ts ≡ kinds_of ps → (y : A) × P ts y × (bare y ≡ x)

abbrev pub both : {A B : Type 0} → (A → A) → (B → B) → A × B → A × B
both f g p = (f p.0, g p.1)

abbrev pub same : {A : Type 0} → A → A
same x = x

pub kinds_append : (ps qs : List Piece) → kinds_of (ps ++ qs) ≡ kinds_of ps ++ kinds_of qs
kinds_append [] qs = refl
kinds_append (space ∷ ps) qs = kinds_append ps qs
kinds_append (newline ∷ ps) qs = kinds_append ps qs
kinds_append (token k ∷ ps) qs = ap (λ ks. k ∷ ks) (kinds_append ps qs)

pub record Split (ts : List Token) (ks ls : List TokenKind) : Type 0 where
  pub front : List Token
  pub back : List Token
  pub is : ts ≡ front ++ back
  pub before : kinds front ≡ ks
  pub after : kinds back ≡ ls

head_is : (t : Token) (ts : List Token) (k : TokenKind) (ks : List TokenKind) → t.kind ∷ kinds ts ≡ k ∷ ks → (t.kind ≡ k) × (kinds ts ≡ ks)
head_is t ts k ks e = (cc, cc)

pub split : (ks ls : List TokenKind) (ts : List Token) → kinds ts ≡ ks ++ ls → Split ts ks ls
split [] ls ts e = record { front = []; back = ts; is = refl; before = refl; after = e }
split (k ∷ ks) ls [] e = cc
split (k ∷ ks) ls (t ∷ ts) e =
    let h = head_is t ts k (ks ++ ls) e in
    let s = split ks ls ts h.1 in
    record { front = t ∷ s.front; back = s.back; is = ap (λ us. t ∷ us) s.is; before = ap (λ x. x ∷ kinds s.front) h.0 ∙ ap (λ us. k ∷ us) s.before; after = s.after }

pub one_token : (k : TokenKind) (ts : List Token) → kinds ts ≡ k ∷ [] → (t : Token) × (ts ≡ t ∷ []) × (t.kind ≡ k)
one_token k [] e = cc
one_token k (t ∷ []) e = (t, refl, (head_is t [] k [] e).0)
one_token k (t ∷ u ∷ ts) e = cc

pub no_token : (ts : List Token) → kinds ts ≡ [] → ts ≡ []
no_token [] e = refl
no_token (t ∷ ts) e = cc

-- The signs of the productions.

-- only the tokens count
pub made_same : {A : Type 0} {P : Form A} {f : A → A} {x : A} (ps qs : List Piece) → kinds_of qs ≡ kinds_of ps → Made P f ps x → Made P f qs x
made_same ps qs h m = record { at = λ ts e. m.at ts (e ∙ h) }

pub then_made : {A B : Type 0} {P : Form A} {Q : Form B} {f : A → A} {g : B → B} {ps qs : List Piece} {x : A} {y : B}
    → Made P f ps x → Made Q g qs y → Made (Then P Q) (both f g) (ps ++ qs) (x, y)
then_made {g = g} {ps = ps} {qs = qs} {x = x} m n = record {
  at = λ ts e.
      let s = split (kinds_of ps) (kinds_of qs) ts (e ∙ kinds_append ps qs) in
      let a = m.at s.front s.before in let b = n.at s.back s.after in
      ((a.0, b.0), (s.front, s.back, s.is, a.1, b.1), ap (λ v. (v, g b.0)) a.2 ∙ ap (λ v. (x, v)) b.2);
}

pub single_made : (k : TokenKind) (ps : List Piece) → kinds_of ps ≡ k ∷ [] → Made (Single k) same ps tt
single_made k ps e = record { at = λ ts h. (tt, one_token k ts (h ∙ e), refl) }

pub none_made : {A : Type 0} {P : Form A} {f : A → A} → Made (Maybe P) (map_option f) [] None
none_made = record { at = λ ts e. (None, no_token ts e, refl) }

pub some_made : {A : Type 0} {P : Form A} {f : A → A} {ps : List Piece} {x : A} → Made P f ps x → Made (Maybe P) (map_option f) ps (Some x)
some_made m = record { at = λ ts e. let a = m.at ts e in (Some a.0, a.1, ap Some a.2) }

pub behind_made : {A : Type 0} {P : Form A} {f : A → A} {ps : List Piece} {x : A} (s : Symbol) (head : List Piece) → kinds_of head ≡ kind.Mark s ∷ [] → Made P f ps x → Made (Behind s P) f (head ++ ps) x
behind_made s head h m = record { at = λ ts e. let a = (then_made (single_made (kind.Mark s) head h) m).at ts e in (a.0.1, a.1, ap (λ p. p.1) a.2) }

pub before_made : {A : Type 0} {P : Form A} {f : A → A} {ps : List Piece} {x : A} (s : Symbol) (tail : List Piece) → kinds_of tail ≡ kind.Mark s ∷ [] → Made P f ps x → Made (Before P s) f (ps ++ tail) x
before_made s tail h m = record { at = λ ts e. let a = (then_made m (single_made (kind.Mark s) tail h)).at ts e in (a.0.0, a.1, ap (λ p. p.0) a.2) }

pub no_more_made : {A : Type 0} {P : Form A} {f : A → A} → Made (Many P) (map f) [] []
no_more_made = record { at = λ ts e. ([], no_token ts e, refl) }

pub one_more_made : {A : Type 0} {P : Form A} {f : A → A} {ps qs : List Piece} {x : A} {xs : List A} → Made P f ps x → Made (Many P) (map f) qs xs → Made (Many P) (map f) (ps ++ qs) (x ∷ xs)
one_more_made m n = record {
  at = λ ts e.
      let a = (then_made m n).at ts e in (a.0.0 ∷ a.0.1, a.1, ap (λ p. p.0 ∷ p.1) a.2);
}

pub many_made : {X A : Type 0} {P : Form A} {f : A → A} (piece : X → List Piece) (tree : X → A) (xs : List X) → Each (λ x. Made P f (piece x) (tree x)) xs → Made (Many P) (map f) (flat_map piece xs) (map tree xs)
many_made piece tree [] each = no_more_made
many_made piece tree (x ∷ xs) each = one_more_made (each zero x refl) (many_made piece tree xs (λ k y e. each (suc k) y e))

-- x {"," x}, as `joined` writes it
pub listed_made : {X A : Type 0} {P : Form A} {f : A → A} (piece : X → List Piece) (tree : X → A) (x : X) (xs : List X) → Each (λ y. Made P f (piece y) (tree y)) (x ∷ xs)
    → Made (Listed P) (map f) (joined piece (x ∷ xs)) (map tree (x ∷ xs))
listed_made {P = P} {f = f} piece tree x xs each = record {
  at = λ ts e.
      let a = (then_made (each zero x refl) (more xs (λ k y h. each (suc k) y h))).at ts e in (a.0.0 ∷ a.0.1, a.1, ap (λ p. p.0 ∷ p.1) a.2);
} where
  more : (ys : List _) → Each (λ y. Made P f (piece y) (tree y)) ys → Made (Many (Behind mark.Comma P)) (map f) (flat_map (λ y. sign mark.Comma ∷ space ∷ piece y) ys) (map tree ys)
  more ys every = many_made (λ y. sign mark.Comma ∷ space ∷ piece y) tree ys (λ k y h. behind_made mark.Comma (sign mark.Comma ∷ space ∷ []) refl (every k y h))

pub kinds_flat : {X : Type 0} (g h : X → List Piece) → ((x : X) → kinds_of (g x) ≡ kinds_of (h x)) → (xs : List X) → kinds_of (flat_map g xs) ≡ kinds_of (flat_map h xs)
kinds_flat g h same [] = refl
kinds_flat g h same (x ∷ xs) = kinds_append (g x) (flat_map g xs) ∙ ap (λ ks. ks ++ kinds_of (flat_map g xs)) (same x) ∙ ap (λ ks. kinds_of (h x) ++ ks) (kinds_flat g h same xs) ∙ sym (kinds_append (h x) (flat_map h xs))

abbrev pub comma : List Piece
comma = sign mark.Comma ∷ newline ∷ []

-- items each with its comma, and items joined by commas with one at the end
ended_kinds : {X : Type 0} (piece : X → List Piece) (x : X) (xs : List X) → kinds_of (flat_map (λ y. piece y ++ comma) (x ∷ xs)) ≡ kinds_of (joined piece (x ∷ xs) ++ comma)
ended_kinds piece x [] = ap kinds_of (append-nil (piece x ++ comma) ∙ ap (λ ps. ps ++ comma) (sym (append-nil (piece x))))
ended_kinds piece x (y ∷ ys) =
    let lines = flat_map (λ z. piece z ++ comma) (y ∷ ys) in let others = flat_map (λ z. sign mark.Comma ∷ space ∷ piece z) ys in
    ap kinds_of (append_assoc (piece x) comma lines) ∙ kinds_append (piece x) (comma ++ lines)
    ∙ ap (λ ks. kinds_of (piece x) ++ kind.Mark mark.Comma ∷ ks) (ended_kinds piece y ys)
    ∙ sym (ap kinds_of (append_assoc (piece x) (sign mark.Comma ∷ space ∷ (piece y ++ others)) comma) ∙ kinds_append (piece x) ((sign mark.Comma ∷ space ∷ (piece y ++ others)) ++ comma))

-- x {"," x} ",", each with its comma
pub ended_made : {X A : Type 0} {P : Form A} {f : A → A} (piece : X → List Piece) (tree : X → A) (x : X) (xs : List X) → Each (λ y. Made P f (piece y) (tree y)) (x ∷ xs)
    → Made (Trailing P) (map f) (flat_map (λ y. piece y ++ comma) (x ∷ xs)) (map tree (x ∷ xs))
ended_made piece tree x xs each = record {
  at = λ ts e.
      let a = (then_made (listed_made piece tree x xs each) (some_made (single_made (kind.Mark mark.Comma) comma refl))).at ts (e ∙ ended_kinds piece x xs) in
      (a.0.0, (a.0.1, a.1), ap (λ p. p.0) a.2);
}

-- the tokens of pieces have the pieces' kinds
pub kinds_at : (at : ℕ) (ps : List Piece) → kinds (tokens_at at ps) ≡ kinds_of ps
kinds_at at [] = refl
kinds_at at (space ∷ ps) = kinds_at (at + 1) ps
kinds_at at (newline ∷ ps) = kinds_at (at + 1) ps
kinds_at at (token k ∷ ps) = ap (λ ks. k ∷ ks) (kinds_at (at + length (plain k)) ps)
