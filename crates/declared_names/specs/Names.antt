-- Dotted names as lists of their parts, and how they are compared.
use Rattle.std.specs.Prelude.{ℕ, Bool, true, false, ◌&&◌, List, [], ◌∷◌, Option, Some, None}
use Rattle.std.specs.Str.{bytes_eq, encode_utf8_all}
use Rattle.aidl_base.specs.declared.name.Ident.{Ident}
use Rattle.aidl_syntax.specs.declared.tree.DottedTree.{DottedTree}

-- the bytes of a part, in UTF-8
abbrev pub text : Ident → List ℕ
text part = encode_utf8_all part.0

-- two names are the same part by part
abbrev pub same : List Ident → List Ident → Bool
same [] [] = true
same [] (b ∷ bs) = false
same (a ∷ more) [] = false
same (a ∷ more) (b ∷ bs) = bytes_eq (text a) (text b) && same more bs

-- the last part of a name
abbrev pub last : List Ident → List Ident
last [] = []
last (a ∷ []) = a ∷ []
last (a ∷ b ∷ more) = last (b ∷ more)

-- the parts of a name that may be missing
abbrev pub parts_of : Option DottedTree → List Ident
parts_of None = []
parts_of (Some d) = d.name.0
