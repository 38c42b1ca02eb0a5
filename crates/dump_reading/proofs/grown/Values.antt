-- Values, initializers and annotations of a dump have trees.
use Rattle.std.proofs.Common.{◌≡◌, ℕ, ℤ, pos, negsuc, Bool, true, false, cond, List, [], ◌∷◌, ◌++◌, map, Option, Some, None, codes, slice_get, refl, sym, ap, subst, ◌∙◌, append-nil}
use Rattle.std.specs.List.{flat_map, find}
use Rattle.std.specs.Ordering.{int_eq}
use Rattle.aidl_base.specs.declared.name.Ident.{Ident}
use Rattle.aidl_base.specs.declared.constant.Const.{Const, out-Const}
use Rattle.aidl_base.specs.declared.constant.Const.TheOpen.{Const-F}
use Rattle.aidl_base.specs.declared.reserved.Reserved.TheVariants as word
use Rattle.aidl_syntax.specs.declared.token.Symbol.TheVariants as mark
use Rattle.aidl_syntax.specs.declared.token.TokenKind.{TokenKind}
use Rattle.aidl_syntax.specs.declared.token.TokenKind.TheVariants as kind
use Rattle.aidl_syntax.specs.declared.token.Token.{Token}
use Rattle.aidl_syntax.specs.declared.tree.NameTree.{NameTree}
use Rattle.aidl_syntax.specs.Parts.{Form, Then, Maybe, Quoted, Behind, Before, Listed, MaybeListed, MaybeTrailing, first}
use Rattle.aidl_syntax.specs.Trees.{Expr, Init, Param, Annot, map_option}
use Rattle.aidl_syntax.specs.Trees.Expr.{literal, unary, name as expr_name}
use Rattle.aidl_syntax.specs.Trees.Init.{single, braces}
use Rattle.aidl_syntax.specs.Productions.{is_literal, IsOf, IsExpr, IsInit, IsIdent, IsParam, AreParams, listed, IsAnnot, AreAnnots}
use Rattle.aidl_schema.specs.declared.schema.Decl.{Decl}
use Rattle.aidl_schema.specs.declared.schema.Enumerator.{Enumerator}
use Rattle.aidl_schema.specs.declared.schema.Backing.{Backing}
use Rattle.aidl_schema.specs.declared.schema.Backing.TheVariants as backing
use Rattle.aidl_schema.specs.declared.schema.Base.{Base}
use Rattle.aidl_schema.specs.declared.schema.Base.TheVariants as base
use Rattle.aidl_schema.specs.declared.schema.AidlType.{AidlType}
use Rattle.aidl_schema.specs.Types.{is_one}
use Rattle.aidl_schema.specs.Holds.{AllHold}
use Rattle.aidl_schema.specs.Names.{enumerators_of}
use Rattle.aidl_schema.specs.Constants.{is_number_of, is_single, is_constant_of, are_members, is_initializer_of, is_enumerator_of}
use Rattle.aidl_schema.specs.Valid.{has_initializer_of}
use Rattle.api_dump.specs.Pieces.{Piece, sign, name, ident, dotted, joined}
use Rattle.api_dump.specs.Pieces.Piece.{space, token}
use Rattle.api_dump.specs.Types.{nullable, flag, marks}
use Rattle.api_dump.specs.Values.{decimal_of, long_of, of_backing, after_dot, named_value, number, single_value, value, braced, initial_value, initial}
use Rattle.api_dump.specs.Declarations.{backed, backing_text}
use Rattle.dump_reading.specs.Bare.{bare_name, bare_expr, bare_init, bare_param, bare_annot, bare_annots}
use Rattle.dump_reading.specs.DumpTrees.{name_tree, dotted_tree, token_tree, decimal_tree, long_tree, backing_tree, name_where, named_parts, number_tree, single_tree, value_tree, brace_trees, initial_tree, plain_tree, flag_trees, nullable_trees, mark_trees, backed_tree}
use Rattle.dump_reading.proofs.spelled.Plain.{kinds_of}
use Rattle.dump_reading.proofs.spelled.Fits.{Each, each_passes}
use Rattle.dump_reading.proofs.spelled.Values.{has_part, name_parts}
use Rattle.dump_reading.proofs.grown.Made.{Made, both, same, one_token, no_token, then_made, single_made, none_made, some_made, behind_made, before_made, no_more_made, one_more_made, listed_made}
use Rattle.dump_reading.proofs.grown.Parts.{name_made as ident_made, dotted_made}

literal_of : (k : TokenKind) (t : Token) → t.kind ≡ k → bare_expr (literal t.offset t) ≡ token_tree k
literal_of k t e = ap token_tree e

pub literal_made : (least : ℕ) (k : TokenKind) → is_literal k ≡ true → Made (IsOf least) bare_expr (token k ∷ []) (token_tree k)
literal_made least k e = record {
  at = λ ts h.
      let t = one_token k ts h in (literal t.0.offset t.0, (t.1, ap is_literal t.2 ∙ e, refl), literal_of k t.0 t.2);
}

minus_made : (k : TokenKind) → is_literal k ≡ true → Made IsExpr bare_expr (sign mark.Minus ∷ token k ∷ []) (unary 0 mark.Minus (token_tree k))
minus_made k e = record {
  at = λ ts h.
      let m : Made (Then (Quoted mark.Minus) (IsOf 11)) (both same bare_expr) ((sign mark.Minus ∷ []) ++ (token k ∷ [])) (tt, token_tree k) =
      then_made (single_made (kind.Mark mark.Minus) (sign mark.Minus ∷ []) refl) (literal_made 11 k e) in
      let a = m.at ts h in
      let front = a.1.0 in let back = a.1.1 in let t = a.1.3 in
      (unary t.0.offset mark.Minus a.0.1, (t.0, back, a.1.2 ∙ ap (λ us. us ++ back) t.1, t.2, refl, refl, a.1.4), ap (λ p. unary 0 mark.Minus p.1) a.2);
}

name_made : (i : Ident) (is : List Ident) → Made IsExpr bare_expr (dotted (i ∷ is)) (expr_name 0 (dotted_tree (i ∷ is)))
name_made i is = record { at = λ ts h. let d = (dotted_made i is).at ts h in (expr_name (first ts) d.0, (d.1, refl), ap (expr_name 0) d.2) }

-- Numbers.

decimal_made : (long : Bool) (n : ℤ) → Made IsExpr bare_expr (decimal_of long n) (decimal_tree long n)
decimal_made long (pos n) = literal_made 1 _ refl
decimal_made long (negsuc n) = minus_made _ refl

long_made : (n : ℤ) → Made IsExpr bare_expr (long_of n) (long_tree n)
long_made n = go (int_eq n (negsuc 9223372036854775807)) where
  go : (b : Bool) → Made IsExpr bare_expr (cond b (token (kind.Number 9223372036854775808 true false) ∷ []) (decimal_of true n)) (cond b (token_tree (kind.Number 9223372036854775808 true false)) (decimal_tree true n))
  go true = literal_made 1 _ refl
  go false = decimal_made true n

pub backing_made : (b : Backing) (n : ℤ) → Made IsExpr bare_expr (of_backing b n) (backing_tree b n)
backing_made backing.Byte n = decimal_made false n
backing_made backing.Int n = decimal_made false n
backing_made backing.Long n = long_made n

-- a name, and one more part behind a dot
behind_dot : (is : List Ident) (o : Option Enumerator) → flat_map (λ j. sign mark.Dot ∷ name j ∷ []) is ++ after_dot o ≡ flat_map (λ j. sign mark.Dot ∷ name j ∷ []) (is ++ name_where o)
behind_dot [] None = refl
behind_dot [] (Some e) = refl
behind_dot (i ∷ is) o = ap (λ ps. sign mark.Dot ∷ name i ∷ ps) (behind_dot is o)

named_made : (is : List Ident) (o : Option Enumerator) → has_part is ≡ true → Made IsExpr bare_expr (dotted is ++ after_dot o) (expr_name 0 (dotted_tree (is ++ name_where o)))
named_made [] o h = cc
named_made (i ∷ is) o h = subst (λ ps. Made IsExpr bare_expr ps (expr_name 0 (dotted_tree (i ∷ (is ++ name_where o))))) (ap (λ ps. name i ∷ ps) (sym (behind_dot is o))) (name_made i (is ++ name_where o))

-- Initializers.

pub single_init_made : {ps : List Piece} {x : Expr} → Made IsExpr bare_expr ps x → Made IsInit bare_init ps (single x)
single_init_made m = record { at = λ ts h. let a = m.at ts h in (single a.0, a.1, ap single a.2) }

braces_from : {ps : List Piece} {xs : List Expr} → Made (Behind mark.OpenBrace (Before (MaybeTrailing IsExpr) mark.CloseBrace)) (map bare_expr) ps xs → Made IsInit bare_init ps (braces 0 xs)
braces_from m = record { at = λ ts h. let a = m.at ts h in (braces (first ts) a.0, (a.1, refl), ap (braces 0) a.2) }

none_trailing : Made (MaybeTrailing IsExpr) (map bare_expr) [] []
none_trailing = record { at = λ ts h. ([], no_token ts h, refl) }

some_trailing : {ps : List Piece} {xs : List Expr} → Made (Listed IsExpr) (map bare_expr) ps xs → Made (MaybeTrailing IsExpr) (map bare_expr) ps xs
some_trailing {ps = ps} m = record {
  at = λ ts h.
      let a = (then_made {Q = Maybe (Quoted mark.Comma)} m (none_made {f = same})).at ts (h ∙ sym (ap kinds_of (append-nil ps))) in
      (a.0.0, known ts a.0.0 a.0.1 a.1, ap (λ p. p.0) a.2);
} where
  known : (ts : List _) (ys : List Expr) (comma : Option (Unit {0})) → Then (Listed IsExpr) (Maybe (Quoted mark.Comma)) ts (ys, comma) → MaybeTrailing IsExpr ts ys
  known ts [] comma h = absurd h.3
  known ts (y ∷ ys) comma h = (comma, h)

module _ (S : List Decl) (H : AllHold S) where
  by_name : (k : ℕ) (n : ℤ) (o : Option Decl) → slice_get S k ≡ o → is_enumerator_of o n ≡ true → Made IsExpr bare_expr (named_value o n) (expr_name 0 (dotted_tree (named_parts o n)))
  by_name k n None e h = cc
  by_name k n (Some d) e h = named_made d.name.0 (find (λ x. int_eq x.value n) (enumerators_of d.kind)) (name_parts d.name.0 (H k d e).name).0

  number_made : (b : Base) (n : ℤ) → is_number_of S b n ≡ true → Made IsExpr bare_expr (number S b n) (number_tree S b n)
  number_made base.Char n e = literal_made 1 _ refl
  number_made base.Long n e = long_made n
  number_made (base.Named k) n e = by_name k n (slice_get S k) refl e
  number_made base.Byte n e = decimal_made false n
  number_made base.Int n e = decimal_made false n
  number_made base.Boolean n e = cc
  number_made base.Text n e = cc

  single_value_made : (b : Base) (c : Const-F Const) → is_single S b c ≡ true → Made IsExpr bare_expr (single_value S b c) (single_tree S b c)
  single_value_made b (Const-F.Truth true) e = literal_made 1 _ refl
  single_value_made b (Const-F.Truth false) e = literal_made 1 _ refl
  single_value_made b (Const-F.Number n) e = number_made b n e
  single_value_made b (Const-F.Text x) e = literal_made 1 _ refl
  single_value_made b (Const-F.Members cs) e = cc

  pub value_made : (b : Base) (c : Const) → is_constant_of S b c ≡ true → Made IsExpr bare_expr (value S b c) (value_tree S b c)
  value_made b c e = single_value_made b (out-Const c) e

  members_made : (b : Base) (cs : List Const) → Each (λ c. is_constant_of S b c ≡ true) cs → Made (MaybeTrailing IsExpr) (map bare_expr) (joined (λ c. value S b c) cs) (map (λ c. value_tree S b c) cs)
  members_made b [] each = none_trailing
  members_made b (c ∷ cs) each = some_trailing (listed_made (λ c. value S b c) (λ c. value_tree S b c) c cs (λ k y e. value_made b y (each k y e)))

  braced_made : (b : Base) (c : Const-F Const) → are_members (λ m. is_constant_of S b m) c ≡ true → Made IsInit bare_init (braced S b c) (braces 0 (brace_trees S b c))
  braced_made b (Const-F.Members cs) e =
      braces_from (behind_made mark.OpenBrace (sign mark.OpenBrace ∷ []) refl (before_made mark.CloseBrace (sign mark.CloseBrace ∷ []) refl (members_made b cs (each_passes (λ m. is_constant_of S b m) cs e))))
  braced_made b (Const-F.Truth x) e = cc
  braced_made b (Const-F.Number n) e = cc
  braced_made b (Const-F.Text x) e = cc

  initial_value_made : (t : AidlType) (c : Const) → is_initializer_of S t c ≡ true → Made IsInit bare_init (initial_value S t c) (initial_tree S t c)
  initial_value_made t c e = go (is_one t.shape) e where
    go : (one : Bool) → cond one (is_constant_of S t.base c) (are_members (λ m. is_constant_of S t.base m) (out-Const c)) ≡ true
        → Made IsInit bare_init (cond one (value S t.base c) (braced S t.base (out-Const c))) (cond one (single (value_tree S t.base c)) (braces 0 (brace_trees S t.base (out-Const c))))
    go true e = single_init_made (value_made t.base c e)
    go false e = braced_made t.base (out-Const c) e

  pub initial_made : (t : AidlType) (o : Option Const) → has_initializer_of S t o ≡ true → Made (Maybe (Behind mark.Equal IsInit)) (map_option bare_init) (initial S t o) (map_option (λ c. initial_tree S t c) o)
  initial_made t None e = none_made
  initial_made t (Some c) e = some_made (behind_made mark.Equal (space ∷ sign mark.Equal ∷ space ∷ []) refl (initial_value_made t c e))

-- Annotations.

param_from_parts : {ps : List Piece} {x : Option NameTree × Init} → Made (Then (Maybe (Before IsIdent mark.Equal)) IsInit) (both (map_option bare_name) bare_init) ps x
    → Made IsParam bare_param ps (record { offset = 0; name = x.0; value = x.1 })
param_from_parts m = record {
  at = λ ts h. let a = m.at ts h in
      (record { offset = first ts; name = a.0.0; value = a.0.1 }, (a.1, refl), ap (λ p. record { offset = 0; name = p.0; value = p.1 }) a.2);
}

listed_map : (o : Option (List Param)) → map bare_param (listed o) ≡ listed (map_option (map bare_param) o)
listed_map None = refl
listed_map (Some ps) = refl

annot_from_parts : {ps : List Piece} {x : NameTree × Option (List Param)} → Made (Behind mark.At (Then IsIdent (Maybe AreParams))) (both bare_name (map_option (map bare_param))) ps x
    → Made IsAnnot bare_annot ps (record { offset = 0; name = x.0; params = listed x.1 })
annot_from_parts m = record {
  at = λ ts h. let a = m.at ts h in (
    record { offset = first ts; name = a.0.0; params = listed a.0.1 },
    (a.0.1, a.1, refl, refl),
    ap (λ l. record { offset = 0; name = bare_name a.0.0; params = l }) (listed_map a.0.1) ∙ ap (λ p. record { offset = 0; name = p.0; params = listed p.1 }) a.2,
  );
}

pub some_listed : {A : Type 0} {P : Form A} {f : A → A} {ps : List Piece} {xs : List A} → Made (Listed P) (map f) ps xs → Made (MaybeListed P) (map f) ps xs
some_listed {P = P} m = record { at = λ ts h. let a = m.at ts h in (a.0, known ts a.0 a.1, a.2) } where
  known : (ts : List _) (ys : List _) → Listed P ts ys → MaybeListed P ts ys
  known ts [] h = absurd h
  known ts (y ∷ ys) h = h

plain_annot_made : (text : List ℕ) → Made IsAnnot bare_annot (sign mark.At ∷ name (ident text) ∷ space ∷ []) (plain_tree text)
plain_annot_made text = annot_from_parts {x = (name_tree (ident text), None)} (behind_made mark.At (sign mark.At ∷ []) refl (then_made (ident_made (ident text) (name (ident text) ∷ space ∷ []) refl) none_made))

-- @LABEL(KEY=VALUE)
with_param : (label key : List ℕ) (k : TokenKind) → is_literal k ≡ true
    → Made IsAnnot bare_annot (sign mark.At ∷ name (ident label) ∷ sign mark.OpenParen ∷ name (ident key) ∷ sign mark.Equal ∷ token k ∷ sign mark.CloseParen ∷ space ∷ [])
    (record { offset = 0; name = name_tree (ident label); params = record { offset = 0; name = Some (name_tree (ident key)); value = single (token_tree k) } ∷ [] })
with_param label key k e = annot_from_parts {x = (name_tree (ident label), Some (record { offset = 0; name = Some (name_tree (ident key)); value = single (token_tree k) } ∷ []))}
    (behind_made mark.At (sign mark.At ∷ []) refl (then_made (ident_made (ident label) (name (ident label) ∷ []) refl)
    (some_made (behind_made mark.OpenParen (sign mark.OpenParen ∷ []) refl (before_made mark.CloseParen (sign mark.CloseParen ∷ space ∷ []) refl (some_listed
    (listed_made {X = Unit {0}} (λ u. name (ident key) ∷ sign mark.Equal ∷ token k ∷ []) (λ u. record { offset = 0; name = Some (name_tree (ident key)); value = single (token_tree k) }) (tt {0}) []
    (λ j u h. param_from_parts {x = (Some (name_tree (ident key)), single (token_tree k))}
    (then_made (some_made (before_made mark.Equal (sign mark.Equal ∷ []) refl (ident_made (ident key) (name (ident key) ∷ []) refl))) (single_init_made (literal_made 1 k e)))))))))))

pub backed_made : (b : Backing) → Made IsAnnot bare_annot (backed b) (backed_tree b)
backed_made b = with_param (codes "Backing") (codes "type") (kind.Str (backing_text b)) refl

-- `@NAME ` where it applies, before other annotations
pub flag_before : (text : List ℕ) (b : Bool) {ps : List Piece} {xs : List Annot} → Made AreAnnots bare_annots ps xs → Made AreAnnots bare_annots (flag text b ++ ps) (flag_trees text b ++ xs)
flag_before text false m = m
flag_before text true m = one_more_made (plain_annot_made text) m

pub flag_made : (text : List ℕ) (b : Bool) → Made AreAnnots bare_annots (flag text b) (flag_trees text b)
flag_made text false = no_more_made
flag_made text true = one_more_made (plain_annot_made text) no_more_made

pub marks_made : (t : AidlType) → Made AreAnnots bare_annots (marks t) (mark_trees t)
marks_made t = go t.nullable t.heap t.utf8 where
  go : (n h u : Bool) → Made AreAnnots bare_annots (nullable n h ++ flag (codes "utf8InCpp") u) (nullable_trees n h ++ flag_trees (codes "utf8InCpp") u)
  go false h u = flag_made (codes "utf8InCpp") u
  go true false u = one_more_made (plain_annot_made (codes "nullable")) (flag_made (codes "utf8InCpp") u)
  go true true u = one_more_made (with_param (codes "nullable") (codes "heap") (kind.Word word.True) refl) (flag_made (codes "utf8InCpp") u)
