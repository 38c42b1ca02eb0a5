-- The laws of fields, constants, enumerators and methods.
use Rattle.std.proofs.Common.{inl, inr, ◌≡◌, ℕ, List, [], ◌∷◌, ◌++◌, Option, refl}
use Rattle.aidl_base.specs.declared.reserved.Reserved.TheVariants as word
use Rattle.aidl_syntax.specs.declared.token.Symbol.TheVariants as mark
use Rattle.aidl_syntax.specs.declared.token.Token.{Token as Tok}
use Rattle.aidl_syntax.specs.declared.tree.NameTree.{NameTree}
use Rattle.aidl_syntax.specs.declared.tree.TypeTree.{TypeTree}
use Rattle.aidl_syntax.specs.Parts.{Form, Then, Maybe, Behind, Before}
use Rattle.parse_places.specs.declared.terminal.Terminal.{Terminal}
use Rattle.parse_places.specs.declared.terminal.Terminal.TheVariants as terminal
use Rattle.parse_places.specs.declared.expected.Part.{Part}
use Rattle.parse_places.specs.declared.expected.Part.TheVariants as part
use Rattle.parse_places.specs.declared.expected.Expected.{Expected}
use Rattle.parse_places.specs.declared.expected.Expected.TheVariants as expected
use Rattle.parse_places.specs.declared.expected.Expected.TheVariants.{Token, Once}
use Rattle.parse_places.specs.steps.Terminals.{terminal_of}
use Rattle.parse_places.specs.steps.Rows.{row}
use Rattle.parse_places.specs.steps.Moves.{moves, skips}
use Rattle.parse_places.proofs.Tokens.{kind_of, is_one}
use Rattle.parse_places.proofs.runs.Runs.{Goes, Run, run_append, run_split}
use Rattle.aidl_syntax.specs.Parts.{Worded}
use Rattle.aidl_syntax.specs.Trees.{Expr, Init, Annot, Field, Constant, Enumerator}
use Rattle.aidl_syntax.specs.Productions.{IsIdent, IsType, IsExpr, IsInit, AreAnnots, IsField, IsConstant, IsEnumerator}
use Rattle.parse_places.proofs.productions.Laws.{Law, both_law, single_law, behind_law, before_law, placed_law, Only, part_law, maybe_law}
use Rattle.parse_places.proofs.productions.TypeLaws.{ident_law, behind_name, type_tokens_law, type_law}
use Rattle.parse_places.proofs.productions.ExpressionLaws.{expr_law}
use Rattle.parse_places.proofs.productions.AnnotationLaws.{initial_law, value_law, annots_law}

-- field = annots type ident ["=" init] ";"

abbrev pub field_stack : List Expected
field_stack = Token terminal.Name ∷ expected.Many part.DotName ∷ expected.Maybe part.Element ∷ expected.Maybe part.Array ∷ Token terminal.Name ∷ expected.Maybe part.Initial ∷ Token terminal.Semicolon ∷ []

abbrev FieldRest : Form (TypeTree × (NameTree × Option Init))
FieldRest = Then IsType (Then IsIdent (Before (Maybe (Behind mark.Equal IsInit)) mark.Semicolon))

field_rest_law : (n : ℕ) → Law n field_stack FieldRest
unfolding kind_of is_one
field_rest_law n =
    both_law n (Token terminal.Name ∷ behind_name) (Token terminal.Name ∷ expected.Maybe part.Initial ∷ Token terminal.Semicolon ∷ []) IsType (Then IsIdent (Before (Maybe (Behind mark.Equal IsInit)) mark.Semicolon)) (type_tokens_law n)
    (both_law n (Token terminal.Name ∷ []) (expected.Maybe part.Initial ∷ Token terminal.Semicolon ∷ []) IsIdent (Before (Maybe (Behind mark.Equal IsInit)) mark.Semicolon) (ident_law n)
    (before_law n terminal.Semicolon (expected.Maybe part.Initial ∷ []) (Maybe (Behind mark.Equal IsInit)) refl (maybe_law n part.Initial (Behind mark.Equal IsInit) (initial_law n))))

field_made : ℕ → List Annot × (TypeTree × (NameTree × Option Init)) → Field
field_made o x = record { offset = o; annots = x.0; ty = x.1.0; name = x.1.1.0; initial = x.1.1.1 }

pub field_law : (n : ℕ) → Law n (expected.Many part.Annotation ∷ field_stack) IsField
unfolding field_made
field_law n =
    placed_law n (expected.Many part.Annotation ∷ field_stack) (Then AreAnnots FieldRest) field_made (λ f. (f.annots, (f.ty, (f.name, f.initial)))) (λ f. f.offset) (λ o x. refl) (λ o x. refl)
    (both_law n (expected.Many part.Annotation ∷ []) field_stack AreAnnots FieldRest (annots_law n) (field_rest_law n))

-- constant = annots "const" type ident "=" expr ";"

abbrev pub constant_stack : List Expected
constant_stack = Token terminal.Const ∷ Once part.Type ∷ Token terminal.Name ∷ Token terminal.Equal ∷ Once part.Expression ∷ Token terminal.Semicolon ∷ []

abbrev ConstantRest : Form (Unit {0} × (TypeTree × (NameTree × Expr)))
ConstantRest = Then (Worded word.Const) (Then IsType (Then IsIdent (Behind mark.Equal (Before IsExpr mark.Semicolon))))

constant_rest_law : (n : ℕ) → Law n constant_stack ConstantRest
unfolding kind_of is_one
constant_rest_law n =
    both_law n (Token terminal.Const ∷ []) (Once part.Type ∷ Token terminal.Name ∷ Token terminal.Equal ∷ Once part.Expression ∷ Token terminal.Semicolon ∷ []) (Worded word.Const)
    (Then IsType (Then IsIdent (Behind mark.Equal (Before IsExpr mark.Semicolon)))) (single_law n terminal.Const refl)
    (both_law n (Once part.Type ∷ []) (Token terminal.Name ∷ Token terminal.Equal ∷ Once part.Expression ∷ Token terminal.Semicolon ∷ []) IsType (Then IsIdent (Behind mark.Equal (Before IsExpr mark.Semicolon))) (type_law n)
    (both_law n (Token terminal.Name ∷ []) (Token terminal.Equal ∷ Once part.Expression ∷ Token terminal.Semicolon ∷ []) IsIdent (Behind mark.Equal (Before IsExpr mark.Semicolon)) (ident_law n)
    (behind_law n terminal.Equal (Once part.Expression ∷ Token terminal.Semicolon ∷ []) (Before IsExpr mark.Semicolon) refl (before_law n terminal.Semicolon (Once part.Expression ∷ []) IsExpr refl (expr_law n)))))

constant_made : ℕ → List Annot × (Unit {0} × (TypeTree × (NameTree × Expr))) → Constant
constant_made o x = record { offset = o; annots = x.0; ty = x.1.1.0; name = x.1.1.1.0; value = x.1.1.1.1 }

pub constant_law : (n : ℕ) → Law n (expected.Many part.Annotation ∷ constant_stack) IsConstant
unfolding constant_made
constant_law n =
    placed_law n (expected.Many part.Annotation ∷ constant_stack) (Then AreAnnots ConstantRest) constant_made (λ c. (c.annots, (tt, (c.ty, (c.name, c.value))))) (λ c. c.offset) (λ o x. refl) (λ o x. refl)
    (both_law n (expected.Many part.Annotation ∷ []) constant_stack AreAnnots ConstantRest (annots_law n) (constant_rest_law n))

-- enumerator = ident ["=" expr]

enumerator_only : Only part.Enumerator terminal.Name (expected.Maybe part.Value ∷ [])
unfolding row
enumerator_only terminal.Name es e = (refl, cc)
enumerator_only _ es e = cc

enumerator_made : ℕ → NameTree × Option Expr → Enumerator
enumerator_made o x = record { offset = o; name = x.0; value = x.1 }

pub enumerator_law : (n : ℕ) → Law n (Once part.Enumerator ∷ []) IsEnumerator
unfolding row enumerator_made
enumerator_law n =
    part_law n part.Enumerator terminal.Name (expected.Maybe part.Value ∷ []) IsEnumerator refl enumerator_only
    (placed_law n (Token terminal.Name ∷ expected.Maybe part.Value ∷ []) (Then IsIdent (Maybe (Behind mark.Equal IsExpr))) enumerator_made (λ e. (e.name, e.value)) (λ e. e.offset) (λ o x. refl) (λ o x. refl)
    (both_law n (Token terminal.Name ∷ []) (expected.Maybe part.Value ∷ []) IsIdent (Maybe (Behind mark.Equal IsExpr)) (ident_law n) (maybe_law n part.Value (Behind mark.Equal IsExpr) (value_law n))))

-- Parts behind annotations.

abbrev annotated : Part → List Expected
annotated rest = expected.Many part.Annotation ∷ Once rest ∷ []

argument_goes : (R : List Expected → Type 0) (d : Terminal) → Goes R d (annotated part.ArgumentRest) → Goes R d (Once part.Argument ∷ [])
unfolding moves skips row
argument_goes R terminal.At (inl h) = inl h
argument_goes R terminal.At (inr (k, inl h)) = absurd h
argument_goes R _ (inl h) = absurd h
argument_goes R _ (inr (k, inl h)) = inl h
argument_goes R _ (inr (k, inr (l, h))) = absurd h

goes_argument : (R : List Expected → Type 0) (d : Terminal) → Goes R d (Once part.Argument ∷ []) → Goes R d (annotated part.ArgumentRest)
unfolding moves skips row
goes_argument R terminal.At (inl h) = inl h
goes_argument R _ (inl h) = inr (refl, inl h)
goes_argument R _ (inr (k, h)) = absurd h

member_goes : (R : List Expected → Type 0) (d : Terminal) → Goes R d (annotated part.MemberRest) → Goes R d (Once part.Member ∷ [])
unfolding moves skips row
member_goes R terminal.At (inl h) = inl h
member_goes R terminal.At (inr (k, inl h)) = absurd h
member_goes R _ (inl h) = absurd h
member_goes R _ (inr (k, inl h)) = inl h
member_goes R _ (inr (k, inr (l, h))) = absurd h

goes_member : (R : List Expected → Type 0) (d : Terminal) → Goes R d (Once part.Member ∷ []) → Goes R d (annotated part.MemberRest)
unfolding moves skips row
goes_member R terminal.At (inl h) = inl h
goes_member R _ (inl h) = inr (refl, inl h)
goes_member R _ (inr (k, h)) = absurd h

interface_member_goes : (R : List Expected → Type 0) (d : Terminal) → Goes R d (annotated part.InterfaceMemberRest) → Goes R d (Once part.InterfaceMember ∷ [])
unfolding moves skips row
interface_member_goes R terminal.At (inl h) = inl h
interface_member_goes R terminal.At (inr (k, inl h)) = absurd h
interface_member_goes R _ (inl h) = absurd h
interface_member_goes R _ (inr (k, inl h)) = inl h
interface_member_goes R _ (inr (k, inr (l, h))) = absurd h

goes_interface_member : (R : List Expected → Type 0) (d : Terminal) → Goes R d (Once part.InterfaceMember ∷ []) → Goes R d (annotated part.InterfaceMemberRest)
unfolding moves skips row
goes_interface_member R terminal.At (inl h) = inl h
goes_interface_member R _ (inl h) = inr (refl, inl h)
goes_interface_member R _ (inr (k, h)) = absurd h

pub record Annotated (x rest : Part) : Type 0 where
  pub here : (ts : List Tok) → Run ts (annotated rest) → Run ts (Once x ∷ [])
  pub back : (ts : List Tok) → Run ts (Once x ∷ []) → Run ts (annotated rest)

made_annotated : (x rest : Part) → ((R : List Expected → Type 0) (d : Terminal) → Goes R d (annotated rest) → Goes R d (Once x ∷ []))
    → ((R : List Expected → Type 0) (d : Terminal) → Goes R d (Once x ∷ []) → Goes R d (annotated rest)) → Annotated x rest
unfolding skips
made_annotated x rest f g = record { here = here; back = back } where
  here : (ts : List Tok) → Run ts (annotated rest) → Run ts (Once x ∷ [])
  here [] (k, (l, n)) = cc
  here (t ∷ ts) h = f (Run ts) (terminal_of t.kind) h

  back : (ts : List Tok) → Run ts (Once x ∷ []) → Run ts (annotated rest)
  back [] (k, n) = cc
  back (t ∷ ts) h = g (Run ts) (terminal_of t.kind) h

pub argument_annotated : Annotated part.Argument part.ArgumentRest
argument_annotated = made_annotated part.Argument part.ArgumentRest argument_goes goes_argument

pub member_annotated : Annotated part.Member part.MemberRest
member_annotated = made_annotated part.Member part.MemberRest member_goes goes_member

pub interface_member_annotated : Annotated part.InterfaceMember part.InterfaceMemberRest
interface_member_annotated = made_annotated part.InterfaceMember part.InterfaceMemberRest interface_member_goes goes_interface_member

-- annotations, and the rest of the part
pub rest_run : (x rest : Part) → Annotated x rest → (front back : List Tok) → Run front (expected.Many part.Annotation ∷ []) → Run back (Once rest ∷ []) → Run (front ++ back) (Once x ∷ [])
rest_run x rest a front back r q = a.here (front ++ back) (run_append front back (expected.Many part.Annotation ∷ []) (Once rest ∷ []) r q)

pub run_rest : (x rest : Part) → Annotated x rest → (ts : List Tok) → Run ts (Once x ∷ []) → (front back : List Tok) × (ts ≡ front ++ back) × Run front (expected.Many part.Annotation ∷ []) × Run back (Once rest ∷ [])
run_rest x rest a ts r = run_split ts (expected.Many part.Annotation ∷ []) (Once rest ∷ []) (a.back ts r)
