-- The laws of arguments and methods.
use Rattle.std.proofs.Common.{◌⊎◌, inl, inr, ◌≡◌, ℕ, suc, ◌+◌, ◌≤◌, Bool, true, false, List, [], ◌∷◌, ◌++◌, length, Option, Some, None, refl, sym, ap, subst, ◌∙◌, append_assoc, length-append, arith}
use Rattle.aidl_base.specs.declared.reserved.Reserved.{Reserved}
use Rattle.aidl_base.specs.declared.reserved.Reserved.TheVariants as word
use Rattle.aidl_syntax.specs.declared.token.Symbol.{Symbol}
use Rattle.aidl_syntax.specs.declared.token.Symbol.TheVariants as mark
use Rattle.aidl_syntax.specs.declared.token.TokenKind.{TokenKind}
use Rattle.aidl_syntax.specs.declared.token.TokenKind.TheVariants as kind
use Rattle.aidl_syntax.specs.declared.token.Token.{Token as Tok}
use Rattle.aidl_syntax.specs.declared.tree.NameTree.{NameTree}
use Rattle.aidl_syntax.specs.declared.tree.TypeTree.{TypeTree}
use Rattle.aidl_syntax.specs.Parts.{Form, Then, Maybe, Behind, Before, MaybeListed, first}
use Rattle.parse_places.specs.declared.terminal.Terminal.{Terminal}
use Rattle.parse_places.specs.declared.terminal.Terminal.TheVariants as terminal
use Rattle.parse_places.specs.declared.expected.Part.TheVariants as part
use Rattle.parse_places.specs.declared.expected.Expected.{Expected}
use Rattle.parse_places.specs.declared.expected.Expected.TheVariants as expected
use Rattle.parse_places.specs.declared.expected.Expected.TheVariants.{Token, Once}
use Rattle.parse_places.specs.steps.Terminals.{terminal_of, word_terminal, symbol_terminal}
use Rattle.parse_places.specs.steps.Rows.{row}
use Rattle.parse_places.proofs.Tokens.{kind_of, is_one}
use Rattle.parse_places.proofs.runs.Runs.{After, Run}
use Rattle.aidl_syntax.specs.declared.tree.WayTree.{WayTree}
use Rattle.aidl_syntax.specs.declared.tree.WayTree.TheVariants as way
use Rattle.aidl_syntax.specs.Parts.{Worded}
use Rattle.aidl_syntax.specs.Trees.{Annot, Arg, Method}
use Rattle.aidl_syntax.specs.Productions.{IsIdent, IsType, AreAnnots, IsWay, IsArg, IsReturned, IsOneway, IsNumberToken, IsMethod}
use Rattle.parse_places.proofs.productions.Laws.{Law, both_law, token_run, run_token, run_nil, run_once, single_law, behind_law, before_law, enter, Only, part_law, maybe_law}
use Rattle.parse_places.proofs.productions.Lists.{maybe_listed_law}
use Rattle.parse_places.proofs.productions.TypeLaws.{ident_law, behind_name, type_tokens_law, type_law}
use Rattle.parse_places.proofs.productions.ExpressionLaws.{many_join}
use Rattle.parse_places.proofs.productions.AnnotationLaws.{annots_law}
use Rattle.parse_places.proofs.productions.MemberLaws.{argument_annotated, rest_run, run_rest}

-- "in" | "out" | "inout"

way_token : (w : WayTree) (ts : List Tok) → IsWay ts w → (t : Tok) × (ts ≡ t ∷ []) × (terminal_of t.kind ≡ terminal.Way)
way_token way.In ts (t, is, k) = (t, is, ap terminal_of k)
way_token way.Out ts (t, is, k) = (t, is, ap terminal_of k)
way_token way.InOut ts (t, is, k) = (t, is, ap terminal_of k)

way_word : (t : Tok) (w : Reserved) → t.kind ≡ kind.Word w → word_terminal w ≡ terminal.Way → (x : WayTree) × IsWay (t ∷ []) x
way_word t word.In k e = (way.In, (t, refl, k))
way_word t word.Out k e = (way.Out, (t, refl, k))
way_word t word.InOut k e = (way.InOut, (t, refl, k))
way_word t _ k e = cc

symbol_apart : (s : Symbol) → symbol_terminal s ≡ terminal.Way → ⊥
symbol_apart mark.OpenBrace e = cc
symbol_apart _ e = cc

token_way : (t : Tok) → terminal_of t.kind ≡ terminal.Way → (x : WayTree) × IsWay (t ∷ []) x
token_way t e = go t.kind refl e where
  go : (k : TokenKind) → t.kind ≡ k → terminal_of k ≡ terminal.Way → (x : WayTree) × IsWay (t ∷ []) x
  go (kind.Name text) k e = cc
  go (kind.Word w) k e = way_word t w k e
  go (kind.Number n h l) k e = cc
  go (kind.Character c) k e = cc
  go (kind.Str x) k e = cc
  go (kind.Mark s) k e = absurd (symbol_apart s e)

-- arg = annots ["in" | "out" | "inout"] annots type ident

abbrev TypedName : Form (TypeTree × NameTree)
TypedName = Then IsType IsIdent

abbrev typed_name_stack : List Expected
typed_name_stack = Token terminal.Name ∷ expected.Many part.DotName ∷ expected.Maybe part.Element ∷ expected.Maybe part.Array ∷ Token terminal.Name ∷ []

typed_name_law : (n : ℕ) → Law n typed_name_stack TypedName
typed_name_law n = both_law n (Token terminal.Name ∷ behind_name) (Token terminal.Name ∷ []) IsType IsIdent (type_tokens_law n) (ident_law n)

abbrev behind_way : List Expected
behind_way = expected.Many part.Annotation ∷ Once part.Type ∷ Token terminal.Name ∷ []

behind_way_law : (n : ℕ) → Law n behind_way (Then AreAnnots TypedName)
behind_way_law n =
    both_law n (expected.Many part.Annotation ∷ []) (Once part.Type ∷ Token terminal.Name ∷ []) AreAnnots TypedName (annots_law n)
    (both_law n (Once part.Type ∷ []) (Token terminal.Name ∷ []) IsType IsIdent (type_law n) (ident_law n))

abbrev RestParts : List Tok → Type 0
RestParts ts = Run ts (Token terminal.Way ∷ behind_way) ⊎ Run ts typed_name_stack

argument_rest_parts : (ts : List Tok) → Run ts (Once part.ArgumentRest ∷ []) → RestParts ts
unfolding row
argument_rest_parts ts r = let p = run_once ts part.ArgumentRest r in subst RestParts (sym p.2) (go p.0 p.1 (terminal_of p.0.kind) refl p.3) where
  go : (t : Tok) (us : List Tok) (d : Terminal) → terminal_of t.kind ≡ d → After (Run us) (row part.ArgumentRest d) → RestParts (t ∷ us)
  go t us terminal.Way e h = inl (token_run t us terminal.Way behind_way e h)
  go t us terminal.Name e h = inr (token_run t us terminal.Name (expected.Many part.DotName ∷ expected.Maybe part.Element ∷ expected.Maybe part.Array ∷ Token terminal.Name ∷ []) e h)
  go t us _ e h = absurd h

way_argument : (ts : List Tok) → Run ts (Token terminal.Way ∷ behind_way) → Run ts (Once part.ArgumentRest ∷ [])
unfolding row
way_argument ts r = enter ts part.ArgumentRest terminal.Way behind_way refl r

typed_argument : (ts : List Tok) → Run ts typed_name_stack → Run ts (Once part.ArgumentRest ∷ [])
unfolding row
typed_argument ts r = enter ts part.ArgumentRest terminal.Name (expected.Many part.DotName ∷ expected.Maybe part.Element ∷ expected.Maybe part.Array ∷ Token terminal.Name ∷ []) refl r

pub arg_law : (n : ℕ) → Law n (Once part.Argument ∷ []) IsArg
arg_law n = record { reads = reads; gives = gives } where
  reads : (ts : List Tok) (a : Arg) → IsArg ts a → Run ts (Once part.Argument ∷ [])
  reads ts a (before, after, j, (f0, b0, is0, as0, (f1, b1, is1, w, (f2, b2, is2, as2, x))), o) = go a.way w where
    go : (w : Option WayTree) → Maybe IsWay f1 w → Run ts (Once part.Argument ∷ [])
    go None e =
        let w : ts ≡ (f0 ++ f2) ++ b2 = is0 ∙ ap (λ us. f0 ++ us) (is1 ∙ ap (λ us. us ++ b1) e ∙ is2) ∙ sym (append_assoc f0 f2 b2) in
        subst (λ us. Run us (Once part.Argument ∷ [])) (sym w)
        (rest_run part.Argument part.ArgumentRest argument_annotated (f0 ++ f2) b2
        (many_join part.Annotation f0 f2 ((annots_law n).reads f0 before as0) ((annots_law n).reads f2 after as2))
        (typed_argument b2 ((typed_name_law n).reads b2 (a.ty, a.name) x)))
    go (Some y) e =
        let t = way_token y f1 e in
        let r : Run (t.0 ∷ b1) (Token terminal.Way ∷ behind_way) = token_run t.0 b1 terminal.Way behind_way t.2 ((behind_way_law n).reads b1 (after, (a.ty, a.name)) (f2, b2, is2, as2, x)) in
        let q : Run b0 (Once part.ArgumentRest ∷ []) = way_argument b0 (subst (λ us. Run us (Token terminal.Way ∷ behind_way)) (sym (is1 ∙ ap (λ us. us ++ b1) t.1)) r) in
        subst (λ us. Run us (Once part.Argument ∷ [])) (sym is0) (rest_run part.Argument part.ArgumentRest argument_annotated f0 b0 ((annots_law n).reads f0 before as0) q)

  made : (ts : List Tok) (before after : List Annot) (w : Option WayTree) (ty : TypeTree) (name : NameTree)
      → Then AreAnnots (Then (Maybe IsWay) (Then AreAnnots (Then IsType IsIdent))) ts (before, (w, (after, (ty, name)))) → (a : Arg) × IsArg ts a
  made ts before after w ty name h =
      let a : Arg = record { offset = first ts; annots = before ++ after; way = w; ty = ty; name = name } in
      (a, (before, after, refl, h, refl))

  gives_by : (ts front back : List Tok) → ts ≡ front ++ back → length front ≤ n → length back ≤ n → Run front (expected.Many part.Annotation ∷ []) → RestParts back → (a : Arg) × IsArg ts a
  gives_by ts front back is l m r (inl q) =
      let p = run_token back terminal.Way behind_way q in
      let before = (annots_law n).gives front l r in
      let w = token_way p.0 p.3 in
      let k : length back ≡ suc (length p.1) = ap length p.2 in
      let x = (behind_way_law n).gives p.1 (omega arith) p.4 in
      made ts before.0 x.0.0 (Some w.0) x.0.1.0 x.0.1.1 (front, back, is, before.1, (p.0 ∷ [], p.1, p.2, w.1, x.1))
  gives_by ts front back is l m r (inr q) =
      let before = (annots_law n).gives front l r in
      let x = (typed_name_law n).gives back m q in
      made ts before.0 [] None x.0.0 x.0.1 (front, back, is, before.1, ([], back, refl, refl, ([], back, refl, refl, x.1)))

  gives : (ts : List Tok) → length ts ≤ n → Run ts (Once part.Argument ∷ []) → (a : Arg) × IsArg ts a
  gives ts le r =
      let p = run_rest part.Argument part.ArgumentRest argument_annotated ts r in
      let l : length ts ≡ length p.0 + length p.1 = ap length p.2 ∙ length-append p.0 p.1 in
      gives_by ts p.0 p.1 p.2 (omega arith) (omega arith) p.3 (argument_rest_parts p.1 p.4)

-- "=" number

number_word : (w : Reserved) → word_terminal w ≡ terminal.Number → ⊥
number_word word.Package e = cc
number_word _ e = cc

number_symbol : (s : Symbol) → symbol_terminal s ≡ terminal.Number → ⊥
number_symbol mark.OpenBrace e = cc
number_symbol _ e = cc

abbrev IsNumberKind : TokenKind → Type 0
IsNumberKind k = (bits : ℕ) × (hexadecimal long : Bool) × (k ≡ kind.Number bits hexadecimal long)

number_kind : (k : TokenKind) → terminal_of k ≡ terminal.Number → IsNumberKind k
number_kind (kind.Name text) e = cc
number_kind (kind.Word w) e = absurd (number_word w e)
number_kind (kind.Number n h l) e = (n, h, l, refl)
number_kind (kind.Character c) e = cc
number_kind (kind.Str x) e = cc
number_kind (kind.Mark s) e = absurd (number_symbol s e)

number_law : (n : ℕ) → Law n (Token terminal.Number ∷ []) IsNumberToken
number_law n = record { reads = reads; gives = gives } where
  reads : (ts : List Tok) (t : Tok) → IsNumberToken ts t → Run ts (Token terminal.Number ∷ [])
  reads ts t (is, b, h, l, k) = subst (λ us. Run us (Token terminal.Number ∷ [])) (sym is) (token_run t [] terminal.Number [] (ap terminal_of k) tt)

  gives : (ts : List Tok) → length ts ≤ n → Run ts (Token terminal.Number ∷ []) → (t : Tok) × IsNumberToken ts t
  gives ts le r =
      let p = run_token ts terminal.Number [] r in
      let k = number_kind p.0.kind p.3 in
      (p.0, (p.2 ∙ ap (λ us. p.0 ∷ us) (run_nil p.1 p.4), k.0, k.1, k.2, k.3))

id_only : Only part.Id terminal.Equal (Token terminal.Number ∷ [])
unfolding row
id_only terminal.Equal es e = (refl, cc)
id_only _ es e = cc

id_law : (n : ℕ) → Law n (Once part.Id ∷ []) (Behind mark.Equal IsNumberToken)
unfolding row kind_of is_one
id_law n = part_law n part.Id terminal.Equal (Token terminal.Number ∷ []) (Behind mark.Equal IsNumberToken) refl id_only (behind_law n terminal.Equal (Token terminal.Number ∷ []) IsNumberToken refl (number_law n))

-- method = annots ["oneway"] (type | "void") ident "(" [arg {"," arg}] ")" ["=" number] ";"

abbrev MethodRest : Form (NameTree × (List Arg × Option Tok))
MethodRest = Then IsIdent (Then (Behind mark.OpenParen (Before (MaybeListed IsArg) mark.CloseParen)) (Before (Maybe (Behind mark.Equal IsNumberToken)) mark.Semicolon))

abbrev method_stack : List Expected
method_stack = Token terminal.Name ∷ Token terminal.OpenParen ∷ expected.MaybeListed part.Argument ∷ Token terminal.CloseParen ∷ expected.Maybe part.Id ∷ Token terminal.Semicolon ∷ []

method_rest_law : (n : ℕ) → Law n method_stack MethodRest
unfolding kind_of is_one
method_rest_law n =
    both_law n (Token terminal.Name ∷ []) (Token terminal.OpenParen ∷ expected.MaybeListed part.Argument ∷ Token terminal.CloseParen ∷ expected.Maybe part.Id ∷ Token terminal.Semicolon ∷ []) IsIdent
    (Then (Behind mark.OpenParen (Before (MaybeListed IsArg) mark.CloseParen)) (Before (Maybe (Behind mark.Equal IsNumberToken)) mark.Semicolon)) (ident_law n)
    (both_law n (Token terminal.OpenParen ∷ expected.MaybeListed part.Argument ∷ Token terminal.CloseParen ∷ []) (expected.Maybe part.Id ∷ Token terminal.Semicolon ∷ [])
    (Behind mark.OpenParen (Before (MaybeListed IsArg) mark.CloseParen)) (Before (Maybe (Behind mark.Equal IsNumberToken)) mark.Semicolon)
    (behind_law n terminal.OpenParen (expected.MaybeListed part.Argument ∷ Token terminal.CloseParen ∷ []) (Before (MaybeListed IsArg) mark.CloseParen) refl
    (before_law n terminal.CloseParen (expected.MaybeListed part.Argument ∷ []) (MaybeListed IsArg) refl (maybe_listed_law n part.Argument IsArg (arg_law n))))
    (before_law n terminal.Semicolon (expected.Maybe part.Id ∷ []) (Maybe (Behind mark.Equal IsNumberToken)) refl (maybe_law n part.Id (Behind mark.Equal IsNumberToken) (id_law n))))

abbrev void_stack : List Expected
void_stack = Token terminal.Void ∷ method_stack

abbrev behind_returned : List Expected
behind_returned = expected.Many part.DotName ∷ expected.Maybe part.Element ∷ expected.Maybe part.Array ∷ method_stack

abbrev Returning : Form (Option TypeTree × (NameTree × (List Arg × Option Tok)))
Returning = Then IsReturned MethodRest

-- what a method without "oneway" runs over
abbrev Returns : List Tok → Type 0
Returns ts = Run ts void_stack ⊎ Run ts (Token terminal.Name ∷ behind_returned)

void_law : (n : ℕ) → Law n void_stack (Then (Worded word.Void) MethodRest)
unfolding kind_of is_one
void_law n = both_law n (Token terminal.Void ∷ []) method_stack (Worded word.Void) MethodRest (single_law n terminal.Void refl) (method_rest_law n)

typed_law : (n : ℕ) → Law n (Token terminal.Name ∷ behind_returned) (Then IsType MethodRest)
typed_law n = both_law n (Token terminal.Name ∷ behind_name) method_stack IsType MethodRest (type_tokens_law n) (method_rest_law n)

returning_reads : (ts : List Tok) (x : Option TypeTree × (NameTree × (List Arg × Option Tok))) → Returning ts x → Returns ts
returning_reads ts (None, m) h = inl ((void_law 0).reads ts (tt, m) h)
returning_reads ts (Some t, m) h = inr ((typed_law 0).reads ts (t, m) h)

returning_gives : (n : ℕ) (ts : List Tok) → length ts ≤ n → Returns ts → (x : Option TypeTree × (NameTree × (List Arg × Option Tok))) × Returning ts x
returning_gives n ts le (inl r) = let x = (void_law n).gives ts le r in ((None, x.0.1), x.1)
returning_gives n ts le (inr r) = let x = (typed_law n).gives ts le r in ((Some x.0.0, x.0.1), x.1)

abbrev Onewaying : Form (Bool × (Option TypeTree × (NameTree × (List Arg × Option Tok))))
Onewaying = Then IsOneway Returning

-- what a method runs over
abbrev pub Methods : List Tok → Type 0
Methods ts = Returns ts ⊎ ((t : Tok) × (us : List Tok) × (ts ≡ t ∷ us) × (t.kind ≡ kind.Word word.Oneway) × Returns us)

onewaying_reads : (ts : List Tok) (x : Bool × (Option TypeTree × (NameTree × (List Arg × Option Tok)))) → Onewaying ts x → Methods ts
onewaying_reads ts (false, x) (front, back, is, e, h) = inl (subst Returns (sym (is ∙ ap (λ us. us ++ back) e)) (returning_reads back x h))
onewaying_reads ts (true, x) (front, back, is, (t, e, k), h) = inr (t, back, is ∙ ap (λ us. us ++ back) e, k, returning_reads back x h)

onewaying_gives : (n : ℕ) (ts : List Tok) → length ts ≤ n → Methods ts → (x : Bool × (Option TypeTree × (NameTree × (List Arg × Option Tok)))) × Onewaying ts x
onewaying_gives n ts le (inl r) = let x = returning_gives n ts le r in ((false, x.0), ([], ts, refl, refl, x.1))
onewaying_gives n ts le (inr (t, us, is, k, r)) =
    let l : length ts ≡ suc (length us) = ap length is in
    let x = returning_gives n us (omega arith) r in
    ((true, x.0), (t ∷ [], us, is, (t, refl, k), x.1))

method_made : ℕ → List Annot → Bool × (Option TypeTree × (NameTree × (List Arg × Option Tok))) → Method
method_made o annots x = record { offset = o; annots = annots; oneway = x.0; returned = x.1.0; name = x.1.1.0; args = x.1.1.1.0; id = x.1.1.1.1 }

pub method_reads : (ts : List Tok) (m : Method) → IsMethod ts m → (front back : List Tok) × (ts ≡ front ++ back) × Run front (expected.Many part.Annotation ∷ []) × Methods back
method_reads ts m ((front, back, is, annots, h), o) = (front, back, is, (annots_law 0).reads front m.annots annots, onewaying_reads back (m.oneway, (m.returned, (m.name, (m.args, m.id)))) h)

pub method_gives : (n : ℕ) (ts front back : List Tok) → ts ≡ front ++ back → length front ≤ n → length back ≤ n → Run front (expected.Many part.Annotation ∷ []) → Methods back → (m : Method) × IsMethod ts m
unfolding method_made
method_gives n ts front back is l k r q =
    let annots = (annots_law n).gives front l r in
    let x = onewaying_gives n back k q in
    (method_made (first ts) annots.0 x.0, ((front, back, is, annots.1, x.1), refl))
