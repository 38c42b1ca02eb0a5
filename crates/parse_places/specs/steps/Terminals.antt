-- The terminals of the productions: tokens that no production tells apart are one terminal.
use Rattle.aidl_base.specs.declared.reserved.Reserved.{Reserved}
use Rattle.aidl_base.specs.declared.reserved.Reserved.TheVariants as word
use Rattle.aidl_syntax.specs.declared.token.Symbol.{Symbol}
use Rattle.aidl_syntax.specs.declared.token.Symbol.TheVariants as mark
use Rattle.aidl_syntax.specs.declared.token.TokenKind.{TokenKind}
use Rattle.aidl_syntax.specs.declared.token.TokenKind.TheVariants as kind
use Rattle.parse_places.specs.declared.terminal.Terminal.{Terminal}
use Rattle.parse_places.specs.declared.terminal.Terminal.TheVariants as terminal

abbrev pub word_terminal : Reserved → Terminal
word_terminal word.Package = terminal.Package
word_terminal word.Import = terminal.Import
word_terminal word.Interface = terminal.Interface
word_terminal word.Parcelable = terminal.Parcelable
word_terminal word.Union = terminal.Union
word_terminal word.Enum = terminal.Enum
word_terminal word.Const = terminal.Const
word_terminal word.Oneway = terminal.Oneway
word_terminal word.In = terminal.Way
word_terminal word.Out = terminal.Way
word_terminal word.InOut = terminal.Way
word_terminal word.True = terminal.Literal
word_terminal word.False = terminal.Literal
word_terminal word.Void = terminal.Void

abbrev pub symbol_terminal : Symbol → Terminal
symbol_terminal mark.OpenBrace = terminal.OpenBrace
symbol_terminal mark.CloseBrace = terminal.CloseBrace
symbol_terminal mark.OpenParen = terminal.OpenParen
symbol_terminal mark.CloseParen = terminal.CloseParen
symbol_terminal mark.OpenBracket = terminal.OpenBracket
symbol_terminal mark.CloseBracket = terminal.CloseBracket
symbol_terminal mark.Less = terminal.Less
symbol_terminal mark.Greater = terminal.Greater
symbol_terminal mark.Comma = terminal.Comma
symbol_terminal mark.Semicolon = terminal.Semicolon
symbol_terminal mark.Equal = terminal.Equal
symbol_terminal mark.Dot = terminal.Dot
symbol_terminal mark.At = terminal.At
symbol_terminal mark.Plus = terminal.PlusOrMinus
symbol_terminal mark.Minus = terminal.PlusOrMinus
symbol_terminal mark.Tilde = terminal.Sign
symbol_terminal mark.Bang = terminal.Sign
symbol_terminal _ = terminal.Operator

-- the terminal that a token is
abbrev pub terminal_of : TokenKind → Terminal
terminal_of (kind.Name text) = terminal.Name
terminal_of (kind.Word word) = word_terminal word
terminal_of (kind.Number bits hexadecimal long) = terminal.Number
terminal_of (kind.Character c) = terminal.Literal
terminal_of (kind.Str text) = terminal.Literal
terminal_of (kind.Mark symbol) = symbol_terminal symbol
