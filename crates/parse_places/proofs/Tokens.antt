-- The tokens of a terminal.
use Rattle.std.proofs.Common.{◌≡◌, Bool, true, false, [], ◌∷◌, refl, ap, ◌∙◌}
use Rattle.aidl_base.specs.declared.reserved.Reserved.{Reserved}
use Rattle.aidl_base.specs.declared.reserved.Reserved.TheVariants as word
use Rattle.aidl_syntax.specs.declared.token.Symbol.{Symbol}
use Rattle.aidl_syntax.specs.declared.token.Symbol.TheVariants as mark
use Rattle.aidl_syntax.specs.declared.token.TokenKind.{TokenKind}
use Rattle.aidl_syntax.specs.declared.token.TokenKind.TheVariants as kind
use Rattle.parse_places.specs.declared.terminal.Terminal.{Terminal}
use Rattle.parse_places.specs.declared.terminal.Terminal.TheVariants as terminal
use Rattle.parse_places.specs.steps.Terminals.{word_terminal, symbol_terminal, terminal_of}

-- one token of the terminal
unfoldable pub kind_of : Terminal → TokenKind
kind_of terminal.Name = kind.Name (97 ∷ [])
kind_of terminal.Number = kind.Number 0 false false
kind_of terminal.Literal = kind.Word word.True
kind_of terminal.Package = kind.Word word.Package
kind_of terminal.Import = kind.Word word.Import
kind_of terminal.Interface = kind.Word word.Interface
kind_of terminal.Parcelable = kind.Word word.Parcelable
kind_of terminal.Union = kind.Word word.Union
kind_of terminal.Enum = kind.Word word.Enum
kind_of terminal.Const = kind.Word word.Const
kind_of terminal.Oneway = kind.Word word.Oneway
kind_of terminal.Way = kind.Word word.In
kind_of terminal.Void = kind.Word word.Void
kind_of terminal.OpenBrace = kind.Mark mark.OpenBrace
kind_of terminal.CloseBrace = kind.Mark mark.CloseBrace
kind_of terminal.OpenParen = kind.Mark mark.OpenParen
kind_of terminal.CloseParen = kind.Mark mark.CloseParen
kind_of terminal.OpenBracket = kind.Mark mark.OpenBracket
kind_of terminal.CloseBracket = kind.Mark mark.CloseBracket
kind_of terminal.Less = kind.Mark mark.Less
kind_of terminal.Greater = kind.Mark mark.Greater
kind_of terminal.Comma = kind.Mark mark.Comma
kind_of terminal.Semicolon = kind.Mark mark.Semicolon
kind_of terminal.Equal = kind.Mark mark.Equal
kind_of terminal.Dot = kind.Mark mark.Dot
kind_of terminal.At = kind.Mark mark.At
kind_of terminal.Sign = kind.Mark mark.Tilde
kind_of terminal.PlusOrMinus = kind.Mark mark.Plus
kind_of terminal.Operator = kind.Mark mark.Star

-- the terminal has one token only
unfoldable pub is_one : Terminal → Bool
is_one terminal.Name = false
is_one terminal.Number = false
is_one terminal.Literal = false
is_one terminal.Way = false
is_one terminal.Sign = false
is_one terminal.PlusOrMinus = false
is_one terminal.Operator = false
is_one _ = true

pub terminal_kind : (c : Terminal) → terminal_of (kind_of c) ≡ c
unfolding kind_of
terminal_kind terminal.Name = refl
terminal_kind _ = refl

one_word : (w : Reserved) → is_one (word_terminal w) ≡ true → kind.Word w ≡ kind_of (word_terminal w)
unfolding is_one kind_of
one_word word.In e = refl
one_word word.Out e = cc
one_word word.InOut e = cc
one_word word.True e = refl
one_word word.False e = cc
one_word _ e = refl

one_symbol : (s : Symbol) → is_one (symbol_terminal s) ≡ true → kind.Mark s ≡ kind_of (symbol_terminal s)
unfolding is_one kind_of
one_symbol mark.Plus e = cc
one_symbol mark.Minus e = cc
one_symbol mark.Tilde e = cc
one_symbol mark.Bang e = cc
one_symbol mark.Star e = cc
one_symbol mark.Slash e = cc
one_symbol mark.Percent e = cc
one_symbol mark.And e = cc
one_symbol mark.Or e = cc
one_symbol mark.Caret e = cc
one_symbol mark.ShiftLeft e = cc
one_symbol mark.ShiftRight e = cc
one_symbol mark.LessEqual e = cc
one_symbol mark.GreaterEqual e = cc
one_symbol mark.EqualEqual e = cc
one_symbol mark.NotEqual e = cc
one_symbol mark.AndAnd e = cc
one_symbol mark.OrOr e = cc
one_symbol _ e = refl

one_is : (k : TokenKind) → is_one (terminal_of k) ≡ true → k ≡ kind_of (terminal_of k)
unfolding is_one
one_is (kind.Name text) e = cc
one_is (kind.Word w) e = one_word w e
one_is (kind.Number n h l) e = cc
one_is (kind.Character c) e = cc
one_is (kind.Str x) e = cc
one_is (kind.Mark s) e = one_symbol s e

-- a token of such a terminal is that one
pub one_kind : (k : TokenKind) (c : Terminal) → terminal_of k ≡ c → is_one c ≡ true → k ≡ kind_of c
one_kind k c e o = one_is k (ap is_one e ∙ o) ∙ ap kind_of e
