-- The laws of initializers and annotations.
use Rattle.std.proofs.Common.{◌⊎◌, inl, inr, ◌≡◌, ℕ, ◌≤◌, List, [], ◌∷◌, ◌++◌, length, Option, Some, None, refl, sym, ap, subst, ◌∙◌}
use Rattle.aidl_syntax.specs.declared.token.Symbol.TheVariants as mark
use Rattle.aidl_syntax.specs.declared.token.Token.{Token as Tok}
use Rattle.aidl_syntax.specs.declared.tree.NameTree.{NameTree}
use Rattle.aidl_syntax.specs.Parts.{Form, Then, Maybe, Behind, Before, MaybeListed, MaybeTrailing, first}
use Rattle.parse_places.specs.declared.terminal.Terminal.{Terminal}
use Rattle.parse_places.specs.declared.terminal.Terminal.TheVariants as terminal
use Rattle.parse_places.specs.declared.expected.Part.TheVariants as part
use Rattle.parse_places.specs.declared.expected.Expected.{Expected}
use Rattle.parse_places.specs.declared.expected.Expected.TheVariants as expected
use Rattle.parse_places.specs.declared.expected.Expected.TheVariants.{Token, Once}
use Rattle.parse_places.specs.steps.Terminals.{terminal_of}
use Rattle.parse_places.specs.steps.Rows.{row}
use Rattle.parse_places.specs.steps.Moves.{moves, skips}
use Rattle.parse_places.proofs.Tokens.{kind_of, is_one}
use Rattle.parse_places.proofs.runs.Runs.{After, Goes, Run}
use Rattle.aidl_syntax.specs.Trees.{Expr, Init, Param, Annot}
use Rattle.aidl_syntax.specs.Trees.Init.{single, braces}
use Rattle.aidl_syntax.specs.Productions.{IsIdent, IsExpr, IsInit, IsParam, AreParams, listed, IsAnnot, AreAnnots}
use Rattle.parse_places.proofs.productions.Laws.{Law, both_law, token_run, run_token, run_once, once_run, behind_law, before_law, placed_law, enter, Only, part_law, maybe_law, maybe_run, run_maybe}
use Rattle.parse_places.proofs.productions.Lists.{many_law, maybe_listed_law, maybe_trailing_law}
use Rattle.parse_places.proofs.productions.TypeLaws.{ident_law}
use Rattle.parse_places.proofs.productions.ExpressionLaws.{expr_law}

-- init

abbrev InBraces : Form (List Expr)
InBraces = Behind mark.OpenBrace (Before (MaybeTrailing IsExpr) mark.CloseBrace)

braces_law : (n : ℕ) → Law n (Token terminal.OpenBrace ∷ expected.MaybeTrailing part.Expression ∷ Token terminal.CloseBrace ∷ []) InBraces
unfolding kind_of is_one
braces_law n =
    behind_law n terminal.OpenBrace (expected.MaybeTrailing part.Expression ∷ Token terminal.CloseBrace ∷ []) (Before (MaybeTrailing IsExpr) mark.CloseBrace) refl
    (before_law n terminal.CloseBrace (expected.MaybeTrailing part.Expression ∷ []) (MaybeTrailing IsExpr) refl (maybe_trailing_law n part.Expression IsExpr (expr_law n)))

initializer_row : (P : List Expected → Type 0) (d : Terminal) → After P (row part.Expression d) → After P (row part.Initializer d)
unfolding row
initializer_row P terminal.OpenBrace h = absurd h
initializer_row P _ h = h

expression_initializer : (ts : List Tok) → Run ts (Once part.Expression ∷ []) → Run ts (Once part.Initializer ∷ [])
expression_initializer ts r =
    let p = run_once ts part.Expression r in
    subst (λ us. Run us (Once part.Initializer ∷ [])) (sym p.2) (once_run p.0 p.1 part.Initializer (initializer_row (Run p.1) (terminal_of p.0.kind) p.3))

initializer_parts : (ts : List Tok) → Run ts (Once part.Initializer ∷ [])
    → Run ts (Token terminal.OpenBrace ∷ expected.MaybeTrailing part.Expression ∷ Token terminal.CloseBrace ∷ []) ⊎ Run ts (Once part.Expression ∷ [])
unfolding row
initializer_parts ts r =
    let p = run_once ts part.Initializer r in
    subst (λ us. Run us (Token terminal.OpenBrace ∷ expected.MaybeTrailing part.Expression ∷ Token terminal.CloseBrace ∷ []) ⊎ Run us (Once part.Expression ∷ [])) (sym p.2)
    (go p.0 p.1 (terminal_of p.0.kind) refl p.3) where
      go : (t : Tok) (us : List Tok) (d : Terminal) → terminal_of t.kind ≡ d → After (Run us) (row part.Initializer d)
          → Run (t ∷ us) (Token terminal.OpenBrace ∷ expected.MaybeTrailing part.Expression ∷ Token terminal.CloseBrace ∷ []) ⊎ Run (t ∷ us) (Once part.Expression ∷ [])
      go t us terminal.OpenBrace e h = inl (token_run t us terminal.OpenBrace (expected.MaybeTrailing part.Expression ∷ Token terminal.CloseBrace ∷ []) e h)
      go t us _ e h = inr (once_run t us part.Expression (subst (λ z. After (Run us) (row part.Expression z)) (sym e) h))

pub init_law : (n : ℕ) → Law n (Once part.Initializer ∷ []) IsInit
unfolding row
init_law n = record { reads = reads; gives = λ ts le r. gives ts le (initializer_parts ts r) } where
  reads : (ts : List Tok) (x : Init) → IsInit ts x → Run ts (Once part.Initializer ∷ [])
  reads ts (single e) h = expression_initializer ts ((expr_law n).reads ts e h)
  reads ts (braces o es) (h, k) = enter ts part.Initializer terminal.OpenBrace (expected.MaybeTrailing part.Expression ∷ Token terminal.CloseBrace ∷ []) refl ((braces_law n).reads ts es h)

  gives : (ts : List Tok) → length ts ≤ n → Run ts (Token terminal.OpenBrace ∷ expected.MaybeTrailing part.Expression ∷ Token terminal.CloseBrace ∷ []) ⊎ Run ts (Once part.Expression ∷ []) → (x : Init) × IsInit ts x
  gives ts le (inl r) = let es = (braces_law n).gives ts le r in (braces (first ts) es.0, (es.1, refl))
  gives ts le (inr r) = let e = (expr_law n).gives ts le r in (single e.0, e.1)

initial_only : Only part.Initial terminal.Equal (Once part.Initializer ∷ [])
unfolding row
initial_only terminal.Equal es e = (refl, cc)
initial_only _ es e = cc

-- "=" init
pub initial_law : (n : ℕ) → Law n (Once part.Initial ∷ []) (Behind mark.Equal IsInit)
unfolding row kind_of is_one
initial_law n =
    part_law n part.Initial terminal.Equal (Once part.Initializer ∷ []) (Behind mark.Equal IsInit) refl initial_only (behind_law n terminal.Equal (Once part.Initializer ∷ []) IsInit refl (init_law n))

value_only : Only part.Value terminal.Equal (Once part.Expression ∷ [])
unfolding row
value_only terminal.Equal es e = (refl, cc)
value_only _ es e = cc

-- "=" expr
pub value_law : (n : ℕ) → Law n (Once part.Value ∷ []) (Behind mark.Equal IsExpr)
unfolding row kind_of is_one
value_law n =
    part_law n part.Value terminal.Equal (Once part.Expression ∷ []) (Behind mark.Equal IsExpr) refl value_only (behind_law n terminal.Equal (Once part.Expression ∷ []) IsExpr refl (expr_law n))

-- param = [ident "="] init

abbrev named_stack : List Expected
named_stack = Token terminal.Name ∷ Token terminal.Equal ∷ Once part.Initializer ∷ []

named_law : (n : ℕ) → Law n named_stack (Then (Before IsIdent mark.Equal) IsInit)
unfolding kind_of is_one
named_law n =
    both_law n (Token terminal.Name ∷ Token terminal.Equal ∷ []) (Once part.Initializer ∷ []) (Before IsIdent mark.Equal) IsInit
    (before_law n terminal.Equal (Token terminal.Name ∷ []) IsIdent refl (ident_law n)) (init_law n)

-- the rest of an expression that begins with a name
abbrev name_rest : List Expected
name_rest = expected.Many part.DotName ∷ expected.Many part.Operation ∷ []

rest_goes : (R : List Expected → Type 0) (d : Terminal) → Goes R d name_rest → Goes R d (expected.Maybe part.ParameterRest ∷ [])
unfolding moves row
rest_goes R terminal.Dot (inl h) = inl h
rest_goes R terminal.Dot (inr (k, inl h)) = absurd h
rest_goes R terminal.Less (inl h) = absurd h
rest_goes R terminal.Less (inr (k, inl h)) = inl h
rest_goes R terminal.Greater (inl h) = absurd h
rest_goes R terminal.Greater (inr (k, inl h)) = inl h
rest_goes R terminal.PlusOrMinus (inl h) = absurd h
rest_goes R terminal.PlusOrMinus (inr (k, inl h)) = inl h
rest_goes R terminal.Operator (inl h) = absurd h
rest_goes R terminal.Operator (inr (k, inl h)) = inl h
rest_goes R _ (inl h) = absurd h
rest_goes R _ (inr (k, inl h)) = absurd h
rest_goes R _ (inr (k, inr (l, h))) = absurd h

rest_run : (us : List Tok) → Run us name_rest → Run us (expected.Maybe part.ParameterRest ∷ [])
unfolding skips
rest_run [] r = (refl, tt)
rest_run (t ∷ us) r = rest_goes (Run us) (terminal_of t.kind) r

abbrev EqualInit : List Tok → Type 0
EqualInit us = Run us (Token terminal.Equal ∷ Once part.Initializer ∷ [])

run_rest : (us : List Tok) → Run us (Once part.ParameterRest ∷ []) → EqualInit us ⊎ Run us name_rest
unfolding moves skips row
run_rest us r = let p = run_once us part.ParameterRest r in
    subst (λ vs. EqualInit vs ⊎ Run vs name_rest) (sym p.2) (go p.0 p.1 (terminal_of p.0.kind) refl p.3) where
      go : (t : Tok) (vs : List Tok) (d : Terminal) → terminal_of t.kind ≡ d → After (Run vs) (row part.ParameterRest d) → EqualInit (t ∷ vs) ⊎ Run (t ∷ vs) name_rest
      go t vs terminal.Equal e h = inl (token_run t vs terminal.Equal (Once part.Initializer ∷ []) e h)
      go t vs terminal.Dot e h = inr (subst (λ z. Goes (Run vs) z name_rest) (sym e) (inl h))
      go t vs terminal.Less e h = inr (subst (λ z. Goes (Run vs) z name_rest) (sym e) (inr (refl, inl h)))
      go t vs terminal.Greater e h = inr (subst (λ z. Goes (Run vs) z name_rest) (sym e) (inr (refl, inl h)))
      go t vs terminal.PlusOrMinus e h = inr (subst (λ z. Goes (Run vs) z name_rest) (sym e) (inr (refl, inl h)))
      go t vs terminal.Operator e h = inr (subst (λ z. Goes (Run vs) z name_rest) (sym e) (inr (refl, inl h)))
      go t vs _ e h = absurd h

parameter_row : (us : List Tok) (d : Terminal) → After (Run us) (row part.Initializer d) → After (Run us) (row part.Parameter d)
unfolding row
parameter_row us terminal.Name h = rest_run us h
parameter_row us _ h = h

init_parameter : (ts : List Tok) → Run ts (Once part.Initializer ∷ []) → Run ts (Once part.Parameter ∷ [])
init_parameter ts r =
    let p = run_once ts part.Initializer r in
    subst (λ us. Run us (Once part.Parameter ∷ [])) (sym p.2) (once_run p.0 p.1 part.Parameter (parameter_row p.1 (terminal_of p.0.kind) p.3))

named_parameter : (ts : List Tok) → Run ts named_stack → Run ts (Once part.Parameter ∷ [])
unfolding row
named_parameter ts r =
    let p = run_token ts terminal.Name (Token terminal.Equal ∷ Once part.Initializer ∷ []) r in
    let q = maybe_run p.1 part.ParameterRest (enter p.1 part.ParameterRest terminal.Equal (Once part.Initializer ∷ []) refl p.4) in
    enter ts part.Parameter terminal.Name (expected.Maybe part.ParameterRest ∷ []) refl (subst (λ us. Run us (Token terminal.Name ∷ expected.Maybe part.ParameterRest ∷ [])) (sym p.2) (token_run p.0 p.1 terminal.Name (expected.Maybe part.ParameterRest ∷ []) p.3 q))

abbrev ParameterParts : List Tok → Type 0
ParameterParts ts = Run ts named_stack ⊎ Run ts (Once part.Initializer ∷ [])

name_init : (t : Tok) (us : List Tok) → terminal_of t.kind ≡ terminal.Name → Run us name_rest → Run (t ∷ us) (Once part.Initializer ∷ [])
unfolding row
name_init t us e r = enter (t ∷ us) part.Initializer terminal.Name name_rest refl (token_run t us terminal.Name name_rest e r)

behind_parameter_name : (t : Tok) (us : List Tok) → terminal_of t.kind ≡ terminal.Name → (us ≡ []) ⊎ Run us (Once part.ParameterRest ∷ []) → ParameterParts (t ∷ us)
unfolding skips
behind_parameter_name t us e (inl is) = inr (name_init t us e (subst (λ vs. Run vs name_rest) (sym is) (refl, (refl, tt))))
behind_parameter_name t us e (inr r) = go (run_rest us r) where
  go : EqualInit us ⊎ Run us name_rest → ParameterParts (t ∷ us)
  go (inl h) = inl (token_run t us terminal.Name (Token terminal.Equal ∷ Once part.Initializer ∷ []) e h)
  go (inr h) = inr (name_init t us e h)

parameter_parts : (ts : List Tok) → Run ts (Once part.Parameter ∷ []) → ParameterParts ts
unfolding row
parameter_parts ts r = let p = run_once ts part.Parameter r in subst ParameterParts (sym p.2) (go p.0 p.1 (terminal_of p.0.kind) refl p.3) where
  go : (t : Tok) (us : List Tok) (d : Terminal) → terminal_of t.kind ≡ d → After (Run us) (row part.Parameter d) → ParameterParts (t ∷ us)
  go t us terminal.Name e h = behind_parameter_name t us e (run_maybe us part.ParameterRest h)
  go t us _ e h = inr (once_run t us part.Initializer (subst (λ z. After (Run us) (row part.Initializer z)) (sym e) h))

abbrev ParameterIs : Form (Option NameTree × Init)
ParameterIs = Then (Maybe (Before IsIdent mark.Equal)) IsInit

parameter_tokens_law : (n : ℕ) → Law n (Once part.Parameter ∷ []) ParameterIs
parameter_tokens_law n = record { reads = reads; gives = λ ts le r. gives ts le (parameter_parts ts r) } where
  reads : (ts : List Tok) (x : Option NameTree × Init) → ParameterIs ts x → Run ts (Once part.Parameter ∷ [])
  reads ts (None, i) (front, back, is, e, h) = subst (λ us. Run us (Once part.Parameter ∷ [])) (sym (is ∙ ap (λ us. us ++ back) e)) (init_parameter back ((init_law n).reads back i h))
  reads ts (Some x, i) (front, back, is, p, h) = named_parameter ts ((named_law n).reads ts (x, i) (front, back, is, p, h))

  gives : (ts : List Tok) → length ts ≤ n → ParameterParts ts → (x : Option NameTree × Init) × ParameterIs ts x
  gives ts le (inl r) = let x = (named_law n).gives ts le r in ((Some x.0.0, x.0.1), x.1)
  gives ts le (inr r) = let i = (init_law n).gives ts le r in ((None, i.0), ([], ts, refl, refl, i.1))

parameter_made : ℕ → Option NameTree × Init → Param
parameter_made o x = record { offset = o; name = x.0; value = x.1 }

param_law : (n : ℕ) → Law n (Once part.Parameter ∷ []) IsParam
unfolding parameter_made
param_law n = placed_law n (Once part.Parameter ∷ []) ParameterIs parameter_made (λ p. (p.name, p.value)) (λ p. p.offset) (λ o x. refl) (λ o x. refl) (parameter_tokens_law n)

-- annots = {"@" ident ["(" [param {"," param}] ")"]}

parameters_only : Only part.Parameters terminal.OpenParen (expected.MaybeListed part.Parameter ∷ Token terminal.CloseParen ∷ [])
unfolding row
parameters_only terminal.OpenParen es e = (refl, cc)
parameters_only _ es e = cc

params_law : (n : ℕ) → Law n (Once part.Parameters ∷ []) AreParams
unfolding row kind_of is_one
params_law n =
    part_law n part.Parameters terminal.OpenParen (expected.MaybeListed part.Parameter ∷ Token terminal.CloseParen ∷ []) AreParams refl parameters_only
    (behind_law n terminal.OpenParen (expected.MaybeListed part.Parameter ∷ Token terminal.CloseParen ∷ []) (Before (MaybeListed IsParam) mark.CloseParen) refl
    (before_law n terminal.CloseParen (expected.MaybeListed part.Parameter ∷ []) (MaybeListed IsParam) refl (maybe_listed_law n part.Parameter IsParam (param_law n))))

annotation_only : Only part.Annotation terminal.At (Token terminal.Name ∷ expected.Maybe part.Parameters ∷ [])
unfolding row
annotation_only terminal.At es e = (refl, cc)
annotation_only _ es e = cc

abbrev AnnotationIs : Form (NameTree × Option (List Param))
AnnotationIs = Behind mark.At (Then IsIdent (Maybe AreParams))

annotation_law : (n : ℕ) → Law n (Once part.Annotation ∷ []) AnnotationIs
unfolding row kind_of is_one
annotation_law n =
    part_law n part.Annotation terminal.At (Token terminal.Name ∷ expected.Maybe part.Parameters ∷ []) AnnotationIs refl annotation_only
    (behind_law n terminal.At (Token terminal.Name ∷ expected.Maybe part.Parameters ∷ []) (Then IsIdent (Maybe AreParams)) refl
    (both_law n (Token terminal.Name ∷ []) (expected.Maybe part.Parameters ∷ []) IsIdent (Maybe AreParams) (ident_law n) (maybe_law n part.Parameters AreParams (params_law n))))

annot_law : (n : ℕ) → Law n (Once part.Annotation ∷ []) IsAnnot
annot_law n = record { reads = λ ts a h. (annotation_law n).reads ts (a.name, h.0) h.1; gives = gives } where
  gives : (ts : List Tok) → length ts ≤ n → Run ts (Once part.Annotation ∷ []) → (a : Annot) × IsAnnot ts a
  gives ts le r =
      let x = (annotation_law n).gives ts le r in
      let a : Annot = record { offset = first ts; name = x.0.0; params = listed x.0.1 } in
      (a, (x.0.1, x.1, refl, refl))

pub annots_law : (n : ℕ) → Law n (expected.Many part.Annotation ∷ []) AreAnnots
annots_law n = many_law n part.Annotation IsAnnot (annot_law n)
