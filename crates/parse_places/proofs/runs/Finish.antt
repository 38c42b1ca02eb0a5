-- Each stack has tokens that it goes on with to its end: those of its shortest forms.
use Rattle.std.proofs.Common.{◌≡◌, Bool, true, false, List, [], ◌∷◌, ◌++◌, Option, Some, None, refl}
use Rattle.std.specs.List.{list_all}
use Rattle.aidl_syntax.specs.declared.token.Token.{Token}
use Rattle.parse_places.specs.declared.terminal.Terminal.{Terminal}
use Rattle.parse_places.specs.declared.terminal.Terminal.TheVariants as terminal
use Rattle.parse_places.specs.declared.expected.Part.{Part}
use Rattle.parse_places.specs.declared.expected.Part.TheVariants as part
use Rattle.parse_places.specs.declared.expected.Expected.{Expected}
use Rattle.parse_places.specs.declared.expected.Expected.TheVariants as expected
use Rattle.parse_places.specs.steps.Rows.{row}
use Rattle.parse_places.specs.steps.Terminals.{terminal_of}
use Rattle.parse_places.specs.steps.Moves.{same_terminal, moves, skips, step, ends}
use Rattle.parse_places.proofs.Tokens.{kind_of}
use Rattle.parse_places.proofs.runs.Runs.{Ends, Run, run_append}
use Rattle.parse_places.proofs.Bools.{and_parts}
use Rattle.parse_places.proofs.runs.Steps.{step_goes}

token_of : Terminal → Token
token_of c = record { kind = kind_of c; offset = 0 }

tokens_of : List Terminal → List Token
tokens_of [] = []
tokens_of (c ∷ cs) = token_of c ∷ tokens_of cs

accepts_by : Option (List Expected) → (List Expected → Bool) → Bool
accepts_by None go = false
accepts_by (Some s) go = go s

accepts : List Token → List Expected → Bool
accepts [] s = ends s
accepts (t ∷ ts) s = accepts_by (step s (terminal_of t.kind)) (accepts ts)

pub ends_are : (s : List Expected) → ends s ≡ true → Ends s
unfolding ends
ends_are [] e = tt
ends_are (x ∷ s) e = let p = and_parts (skips x) (list_all skips s) e in (p.0, ends_are s p.1)

accepts_run : (ts : List Token) (s : List Expected) → accepts ts s ≡ true → Run ts s
unfolding accepts accepts_by
accepts_run [] s e = ends_are s e
accepts_run (t ∷ ts) s e = go (step s (terminal_of t.kind)) refl e (λ u d. accepts_run ts u d) where
  go : (o : Option (List Expected)) → step s (terminal_of t.kind) ≡ o → accepts_by o (accepts ts) ≡ true → ((u : List Expected) → accepts ts u ≡ true → Run ts u) → Run (t ∷ ts) s
  go None m d f = cc
  go (Some u) m d f = step_goes (Run ts) (terminal_of t.kind) s u m (f u d)

part_terminals : Part → List Terminal
part_terminals part.Package = terminal.Package ∷ terminal.Name ∷ terminal.Semicolon ∷ []
part_terminals part.Import = terminal.Import ∷ terminal.Name ∷ terminal.Semicolon ∷ []
part_terminals part.DotName = terminal.Dot ∷ terminal.Name ∷ []
part_terminals part.Type = terminal.Name ∷ []
part_terminals part.Element = terminal.Less ∷ terminal.Name ∷ terminal.Greater ∷ []
part_terminals part.Array = terminal.OpenBracket ∷ terminal.CloseBracket ∷ []
part_terminals part.Operand = terminal.Name ∷ []
part_terminals part.Operation = terminal.Operator ∷ terminal.Name ∷ []
part_terminals part.Expression = terminal.Name ∷ []
part_terminals part.Initializer = terminal.Name ∷ []
part_terminals part.Initial = terminal.Equal ∷ terminal.Name ∷ []
part_terminals part.Value = terminal.Equal ∷ terminal.Name ∷ []
part_terminals part.Id = terminal.Equal ∷ terminal.Number ∷ []
part_terminals part.Annotation = terminal.At ∷ terminal.Name ∷ []
part_terminals part.Parameters = terminal.OpenParen ∷ terminal.CloseParen ∷ []
part_terminals part.Parameter = terminal.Name ∷ []
part_terminals part.ParameterRest = terminal.Equal ∷ terminal.Name ∷ []
part_terminals part.Enumerator = terminal.Name ∷ []
part_terminals part.Body = terminal.Parcelable ∷ terminal.Name ∷ terminal.OpenBrace ∷ terminal.CloseBrace ∷ []
part_terminals part.Member = terminal.Name ∷ terminal.Name ∷ terminal.Semicolon ∷ []
part_terminals part.MemberRest = terminal.Name ∷ terminal.Name ∷ terminal.Semicolon ∷ []
part_terminals part.InterfaceMember = terminal.Void ∷ terminal.Name ∷ terminal.OpenParen ∷ terminal.CloseParen ∷ terminal.Semicolon ∷ []
part_terminals part.InterfaceMemberRest = terminal.Void ∷ terminal.Name ∷ terminal.OpenParen ∷ terminal.CloseParen ∷ terminal.Semicolon ∷ []
part_terminals part.OnewayRest = terminal.Void ∷ terminal.Name ∷ terminal.OpenParen ∷ terminal.CloseParen ∷ terminal.Semicolon ∷ []
part_terminals part.Argument = terminal.Name ∷ terminal.Name ∷ []
part_terminals part.ArgumentRest = terminal.Name ∷ terminal.Name ∷ []

terminals_of : Expected → List Terminal
terminals_of (expected.Token c) = c ∷ []
terminals_of (expected.Once x) = part_terminals x
terminals_of _ = []

part_accepted : (x : Part) → accepts (tokens_of (part_terminals x)) (expected.Once x ∷ []) ≡ true
unfolding accepts accepts_by tokens_of token_of kind_of part_terminals step ends moves skips row same_terminal
part_accepted part.Package = refl
part_accepted _ = refl

token_accepted : (c : Terminal) → accepts (tokens_of (c ∷ [])) (expected.Token c ∷ []) ≡ true
unfolding accepts accepts_by tokens_of token_of kind_of step ends moves skips same_terminal
token_accepted terminal.Name = refl
token_accepted _ = refl

finished : (e : Expected) → Run (tokens_of (terminals_of e)) (e ∷ [])
unfolding terminals_of tokens_of skips
finished (expected.Token c) = accepts_run (tokens_of (c ∷ [])) (expected.Token c ∷ []) (token_accepted c)
finished (expected.Once x) = accepts_run (tokens_of (part_terminals x)) (expected.Once x ∷ []) (part_accepted x)
finished _ = (refl, tt)

pub finish : (s : List Expected) → (ts : List Token) × Run ts s
finish [] = ([], tt)
finish (e ∷ s) = let f = finish s in (tokens_of (terminals_of e) ++ f.0, run_append (tokens_of (terminals_of e)) f.0 (e ∷ []) s (finished e) f.1)
