-- What is measured of a file's tokens before they are parsed (own).
use Rattle.std.specs.Prelude.{ℕ, ◌+◌, ◌-◌, Bool, true, false, if◌then◌else◌, max, List, [], ◌∷◌}
use Rattle.aidl_syntax.specs.declared.token.Symbol.TheVariants as mark
use Rattle.aidl_syntax.specs.declared.token.TokenKind.{TokenKind}
use Rattle.aidl_syntax.specs.declared.token.TokenKind.TheVariants as kind
use Rattle.aidl_syntax.specs.declared.token.Token.{Token}

abbrev pub is_open_brace : TokenKind → Bool
is_open_brace (kind.Mark mark.OpenBrace) = true
is_open_brace _ = false

abbrev pub is_close_brace : TokenKind → Bool
is_close_brace (kind.Mark mark.CloseBrace) = true
is_close_brace _ = false

-- `;`, `,`, `{` or `}`
abbrev pub ends_run : TokenKind → Bool
ends_run (kind.Mark mark.Semicolon) = true
ends_run (kind.Mark mark.Comma) = true
ends_run (kind.Mark mark.OpenBrace) = true
ends_run (kind.Mark mark.CloseBrace) = true
ends_run _ = false

abbrev pub one_if : Bool → ℕ
one_if true = 1
one_if false = 0

-- the greatest number of `{` minus `}` at a token, behind so many of each
abbrev pub nesting_from : ℕ → ℕ → List Token → ℕ
nesting_from opened closed [] = 0
nesting_from opened closed (t ∷ ts) =
    max ((opened + one_if (is_open_brace t.kind)) - (closed + one_if (is_close_brace t.kind)))
    (nesting_from (opened + one_if (is_open_brace t.kind)) (closed + one_if (is_close_brace t.kind)) ts)

-- the greatest number of `{` minus `}` before or at a token
abbrev pub nesting : List Token → ℕ
nesting ts = nesting_from 0 0 ts

-- the greatest number of neighbouring tokens that end no run, behind so many of them
abbrev pub run_from : ℕ → List Token → ℕ
run_from n [] = n
run_from n (t ∷ ts) = if ends_run t.kind then max n (run_from 0 ts) else run_from (n + 1) ts

-- the greatest number of neighbouring tokens without `;`, `,`, `{` or `}`
abbrev pub run_length : List Token → ℕ
run_length ts = run_from 0 ts
