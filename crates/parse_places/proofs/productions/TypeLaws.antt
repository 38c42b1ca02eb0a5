-- The laws of names and types.
use Rattle.std.proofs.Common.{◌⊎◌, inl, inr, ◌≡◌, ℕ, zero, suc, ◌<◌, ◌≤◌, Bool, true, false, List, [], ◌∷◌, ◌++◌, length, Option, Some, None, refl, sym, ap, subst, ◌∙◌, arith}
use Rattle.aidl_base.specs.declared.name.Ident.{Ident}
use Rattle.aidl_base.specs.declared.reserved.Reserved.{Reserved}
use Rattle.aidl_base.specs.declared.reserved.Reserved.TheVariants as word
use Rattle.aidl_syntax.specs.declared.token.Symbol.{Symbol}
use Rattle.aidl_syntax.specs.declared.token.Symbol.TheVariants as mark
use Rattle.aidl_syntax.specs.declared.token.TokenKind.{TokenKind}
use Rattle.aidl_syntax.specs.declared.token.TokenKind.TheVariants as kind
use Rattle.aidl_syntax.specs.declared.token.Token.{Token as Tok}
use Rattle.aidl_syntax.specs.declared.tree.NameTree.{NameTree}
use Rattle.aidl_syntax.specs.declared.tree.DottedTree.{DottedTree}
use Rattle.aidl_syntax.specs.declared.tree.TypeTree.{TypeTree}
use Rattle.aidl_syntax.specs.Parts.{Then, Maybe, Quoted, Behind, Before, first}
use Rattle.parse_places.specs.declared.terminal.Terminal.{Terminal}
use Rattle.parse_places.specs.declared.terminal.Terminal.TheVariants as terminal
use Rattle.parse_places.specs.declared.expected.Part.TheVariants as part
use Rattle.parse_places.specs.declared.expected.Expected.{Expected}
use Rattle.parse_places.specs.declared.expected.Expected.TheVariants as expected
use Rattle.parse_places.specs.declared.expected.Expected.TheVariants.{Token, Once}
use Rattle.parse_places.specs.steps.Terminals.{terminal_of, word_terminal, symbol_terminal}
use Rattle.parse_places.specs.steps.Rows.{row}
use Rattle.parse_places.specs.steps.Moves.{moves, skips}
use Rattle.parse_places.proofs.Tokens.{kind_of, is_one, one_kind}
use Rattle.parse_places.proofs.runs.Runs.{After, Run, some_after}
use Rattle.aidl_syntax.specs.Productions.{IsIdent, AreNames, IsDotted, IsArray, IsType}
use Rattle.parse_places.proofs.productions.Laws.{Law, both_law, token_run, run_token, run_nil, behind_law, before_law, placed_law, single_law, Only, part_law, maybe_law}

-- ident

word_apart : (w : Reserved) → word_terminal w ≡ terminal.Name → ⊥
word_apart word.Package e = cc
word_apart _ e = cc

symbol_apart : (s : Symbol) → symbol_terminal s ≡ terminal.Name → ⊥
symbol_apart mark.OpenBrace e = cc
symbol_apart _ e = cc

pub name_kind : (k : TokenKind) → terminal_of k ≡ terminal.Name → (i : Ident) × (k ≡ kind.Name i.0)
name_kind (kind.Name text) e = (record { 0 = text }, refl)
name_kind (kind.Word w) e = absurd (word_apart w e)
name_kind (kind.Number n h l) e = cc
name_kind (kind.Character c) e = cc
name_kind (kind.Str x) e = cc
name_kind (kind.Mark s) e = absurd (symbol_apart s e)

pub ident_law : (n : ℕ) → Law n (Token terminal.Name ∷ []) IsIdent
ident_law n = record { reads = reads; gives = gives } where
  reads : (ts : List Tok) (x : NameTree) → IsIdent ts x → Run ts (Token terminal.Name ∷ [])
  reads ts x (t, is, k, o) = subst (λ us. Run us (Token terminal.Name ∷ [])) (sym is) (token_run t [] terminal.Name [] (ap terminal_of k) tt)

  gives : (ts : List Tok) → length ts ≤ n → Run ts (Token terminal.Name ∷ []) → (x : NameTree) × IsIdent ts x
  gives ts le r =
      let p = run_token ts terminal.Name [] r in
      let i = name_kind p.0.kind p.3 in
      let x : NameTree = record { offset = p.0.offset; name = i.0 } in
      (x, (p.0, p.2 ∙ ap (λ us. p.0 ∷ us) (run_nil p.1 p.4), i.1, refl))

-- dotted

abbrev pub dotted_stack : List Expected
dotted_stack = Token terminal.Name ∷ expected.Many part.DotName ∷ []

dot_kind : (t : Tok) → terminal_of t.kind ≡ terminal.Dot → t.kind ≡ kind.Mark mark.Dot
unfolding kind_of is_one
dot_kind t k = one_kind t.kind terminal.Dot k refl

dot_run : (t : Tok) (us : List Tok) → t.kind ≡ kind.Mark mark.Dot → Run us dotted_stack → Run (t ∷ us) (expected.Many part.DotName ∷ [])
unfolding moves row
dot_run t us k r = inl (some_after (λ es. Run us (es ++ [])) (moves (expected.Many part.DotName) (terminal_of t.kind)) dotted_stack (ap (λ d. moves (expected.Many part.DotName) (terminal_of d)) k) r)

run_dots : (us : List Tok) → Run us (expected.Many part.DotName ∷ []) → (us ≡ []) ⊎ ((t : Tok) × (vs : List Tok) × (us ≡ t ∷ vs) × (t.kind ≡ kind.Mark mark.Dot) × Run vs dotted_stack)
unfolding moves row
run_dots [] r = inl refl
run_dots (t ∷ us) (inl h) = go (terminal_of t.kind) refl h where
  go : (d : Terminal) → terminal_of t.kind ≡ d → After (λ es. Run us (es ++ [])) (moves (expected.Many part.DotName) d)
      → (t ∷ us ≡ []) ⊎ ((u : Tok) × (vs : List Tok) × (t ∷ us ≡ u ∷ vs) × (u.kind ≡ kind.Mark mark.Dot) × Run vs dotted_stack)
  go terminal.Dot e r = inr (t, us, refl, dot_kind t e, r)
  go _ e r = absurd r
run_dots (t ∷ us) (inr (k, h)) = absurd h

names_read : (is : List Ident) (ts : List Tok) → AreNames ts is → Run ts dotted_stack
unfolding skips
names_read [] ts h = absurd h
names_read (i ∷ []) ts (t, is, k) = subst (λ us. Run us dotted_stack) (sym is) (token_run t [] terminal.Name (expected.Many part.DotName ∷ []) (ap terminal_of k) (refl, tt))
names_read (i ∷ j ∷ js) ts (t, dot, us, is, k, l, h) =
    subst (λ us. Run us dotted_stack) (sym is) (token_run t (dot ∷ us) terminal.Name (expected.Many part.DotName ∷ []) (ap terminal_of k) (dot_run dot us l (names_read (j ∷ js) us h)))

abbrev NamesOf : List Tok → Type 0
NamesOf ts = (i : Ident) × (is : List Ident) × AreNames ts (i ∷ is)

names_by : (n : ℕ) → ((us : List Tok) → length us < n → Run us dotted_stack → NamesOf us) → (ts : List Tok) → length ts ≤ n → Run ts dotted_stack → NamesOf ts
names_by n ih ts le r =
    let p = run_token ts terminal.Name (expected.Many part.DotName ∷ []) r in
    let i = name_kind p.0.kind p.3 in
    go p.0 p.1 i.0 p.2 i.1 (run_dots p.1 p.4) where
      go : (t : Tok) (us : List Tok) (i : Ident) → ts ≡ t ∷ us → t.kind ≡ kind.Name i.0
          → (us ≡ []) ⊎ ((u : Tok) × (vs : List Tok) × (us ≡ u ∷ vs) × (u.kind ≡ kind.Mark mark.Dot) × Run vs dotted_stack) → NamesOf ts
      go t us i is k (inl e) = (i, [], (t, is ∙ ap (λ vs. t ∷ vs) e, k))
      go t us i is k (inr (dot, vs, e, l, q)) =
          let a : length ts ≡ suc (length us) = ap length is in
          let b : length us ≡ suc (length vs) = ap length e in
          let h = ih vs (omega arith) q in
          (i, h.0 ∷ h.1, (t, dot, vs, is ∙ ap (λ vs. t ∷ vs) e, k, l, h.2))

names_given : (n : ℕ) (ts : List Tok) → length ts ≤ n → Run ts dotted_stack → NamesOf ts
names_given zero ts le r = names_by zero (λ us l q. absurd (omega arith)) ts le r
names_given (suc n) ts le r = names_by (suc n) (λ us l q. names_given n us (omega arith) q) ts le r

pub dotted_law : (n : ℕ) → Law n dotted_stack IsDotted
dotted_law n = record { reads = λ ts d h. names_read d.name.0 ts h.1; gives = gives } where
  gives : (ts : List Tok) → length ts ≤ n → Run ts dotted_stack → (d : DottedTree) × IsDotted ts d
  gives ts le r =
      let h = names_given n ts le r in
      let d : DottedTree = record { offset = first ts; name = record { 0 = h.0 ∷ h.1 } } in
      (d, (refl, h.2))

-- type = dotted ["<" dotted ">"] ["[" "]"]

element_only : Only part.Element terminal.Less (Token terminal.Name ∷ expected.Many part.DotName ∷ Token terminal.Greater ∷ [])
unfolding row
element_only terminal.Less es e = (refl, cc)
element_only _ es e = cc

element_law : (n : ℕ) → Law n (Once part.Element ∷ []) (Behind mark.Less (Before IsDotted mark.Greater))
unfolding row kind_of is_one
element_law n =
    part_law n part.Element terminal.Less (Token terminal.Name ∷ expected.Many part.DotName ∷ Token terminal.Greater ∷ []) (Behind mark.Less (Before IsDotted mark.Greater)) refl element_only
    (behind_law n terminal.Less (Token terminal.Name ∷ expected.Many part.DotName ∷ Token terminal.Greater ∷ []) (Before IsDotted mark.Greater) refl
    (before_law n terminal.Greater dotted_stack IsDotted refl (dotted_law n)))

array_only : Only part.Array terminal.OpenBracket (Token terminal.CloseBracket ∷ [])
unfolding row
array_only terminal.OpenBracket es e = (refl, cc)
array_only _ es e = cc

brackets_law : (n : ℕ) → Law n (Once part.Array ∷ []) (Behind mark.OpenBracket (Quoted mark.CloseBracket))
unfolding row kind_of is_one
brackets_law n =
    part_law n part.Array terminal.OpenBracket (Token terminal.CloseBracket ∷ []) (Behind mark.OpenBracket (Quoted mark.CloseBracket)) refl array_only
    (behind_law n terminal.OpenBracket (Token terminal.CloseBracket ∷ []) (Quoted mark.CloseBracket) refl (single_law n terminal.CloseBracket refl))

array_law : (n : ℕ) → Law n (expected.Maybe part.Array ∷ []) IsArray
array_law n = record { reads = reads; gives = gives } where
  m : Law n (expected.Maybe part.Array ∷ []) (Maybe (Behind mark.OpenBracket (Quoted mark.CloseBracket)))
  m = maybe_law n part.Array (Behind mark.OpenBracket (Quoted mark.CloseBracket)) (brackets_law n)

  reads : (ts : List Tok) (b : Bool) → IsArray ts b → Run ts (expected.Maybe part.Array ∷ [])
  reads ts false h = m.reads ts None h
  reads ts true h = m.reads ts (Some tt) h

  seen : (ts : List Tok) (o : Option (Unit {0})) → Maybe (Behind mark.OpenBracket (Quoted mark.CloseBracket)) ts o → (b : Bool) × IsArray ts b
  seen ts None h = (false, h)
  seen ts (Some u) h = (true, h)

  gives : (ts : List Tok) → length ts ≤ n → Run ts (expected.Maybe part.Array ∷ []) → (b : Bool) × IsArray ts b
  gives ts le r = let o = m.gives ts le r in seen ts o.0 o.1

abbrev pub behind_name : List Expected
behind_name = expected.Many part.DotName ∷ expected.Maybe part.Element ∷ expected.Maybe part.Array ∷ []

typed : ℕ → DottedTree × (Option DottedTree × Bool) → TypeTree
typed o x = record { offset = o; name = x.0; element = x.1.0; array = x.1.1 }

pub type_tokens_law : (n : ℕ) → Law n (Token terminal.Name ∷ behind_name) IsType
unfolding typed
type_tokens_law n =
    placed_law n (Token terminal.Name ∷ behind_name) (Then IsDotted (Then (Maybe (Behind mark.Less (Before IsDotted mark.Greater))) IsArray)) typed (λ t. (t.name, (t.element, t.array))) (λ t. t.offset) (λ o x. refl) (λ o x. refl)
    (both_law n dotted_stack (expected.Maybe part.Element ∷ expected.Maybe part.Array ∷ []) IsDotted (Then (Maybe (Behind mark.Less (Before IsDotted mark.Greater))) IsArray) (dotted_law n)
    (both_law n (expected.Maybe part.Element ∷ []) (expected.Maybe part.Array ∷ []) (Maybe (Behind mark.Less (Before IsDotted mark.Greater))) IsArray
    (maybe_law n part.Element (Behind mark.Less (Before IsDotted mark.Greater)) (element_law n)) (array_law n)))

type_only : Only part.Type terminal.Name behind_name
unfolding row
type_only terminal.Name es e = (refl, cc)
type_only _ es e = cc

pub type_law : (n : ℕ) → Law n (Once part.Type ∷ []) IsType
unfolding row
type_law n = part_law n part.Type terminal.Name behind_name IsType refl type_only (type_tokens_law n)
