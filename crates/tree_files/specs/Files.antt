-- What a file's bytes have: tokens, a limit that these pass, a tree.
use Rattle.std.specs.Prelude.{◌≡◌, List, Option}
use Rattle.aidl_base.specs.declared.limit.LimitName.{LimitName}
use Rattle.aidl_base.specs.declared.source_file.SourceFile.{SourceFile}
use Rattle.aidl_syntax.specs.declared.token.Token.{Token}
use Rattle.aidl_syntax.specs.declared.tree.ParsedFile.{ParsedFile}
use Rattle.aidl_syntax.specs.Trees.{File}
use Rattle.aidl_syntax.specs.Tokens.{Tokens}
use Rattle.aidl_syntax.specs.Productions.{IsFile}
use Rattle.aidl_syntax.specs.Parses.{FileParse}
use Rattle.aidl_parser.specs.Limits.{passed}

-- the bytes have tokens
abbrev pub HasTokens : SourceFile → Type 0
HasTokens f = (tokens : List Token) × Tokens f.bytes tokens

-- the bytes have tokens, and this is the limit that the tokens pass, if any
abbrev pub HasLimit : Option LimitName → SourceFile → Type 0
HasLimit limit f = (tokens : List Token) × Tokens f.bytes tokens × (passed tokens ≡ limit)

-- the bytes have tokens, and a tree stands for the tokens
abbrev pub HasTree : SourceFile → Type 0
HasTree f = (tokens : List Token) × Tokens f.bytes tokens × (tree : File) × IsFile tokens tree

-- a file as it is parsed: its path, and the tree that stands for the tokens of its bytes
abbrev pub IsParsed : SourceFile → ParsedFile → Type 0
IsParsed f p = (p.path ≡ f.path) × FileParse f.bytes p.tree
