-- The backing of an enum, as constants see it (AOSP, "AIDL language", "Enums"; what stands for another word: own).
use Rattle.std.specs.Prelude.{ℕ, Bool, false, codes, if◌then◌else◌, List, Option, Some, None}
use Rattle.std.specs.List.{find}
use Rattle.std.specs.Str.{bytes_eq, encode_utf8_all}
use Rattle.aidl_syntax.specs.declared.token.TokenKind.{TokenKind}
use Rattle.aidl_syntax.specs.declared.token.TokenKind.TheVariants as token
use Rattle.aidl_syntax.specs.declared.tree.NameTree.{NameTree}
use Rattle.aidl_syntax.specs.Trees.{Expr, Init, Param, Annot, Decl}
use Rattle.aidl_syntax.specs.Trees.Expr.{literal}
use Rattle.aidl_syntax.specs.Trees.Init.{single, braces}
use Rattle.aidl_syntax.specs.Trees.Decl.{decl}
use Rattle.const_values.specs.declared.wanted.Wanted.{Wanted}
use Rattle.const_values.specs.declared.wanted.Wanted.TheVariants as wanted

-- what the words `int` and `long` say; `byte` and any other word say byte
abbrev pub backing_of_word : List ℕ → Wanted
backing_of_word word = if bytes_eq word (codes "int") then wanted.Int
    else (if bytes_eq word (codes "long") then wanted.Long else wanted.Byte)

abbrev pub backing_of_text : List ℕ → Wanted
backing_of_text text = backing_of_word (encode_utf8_all text)

abbrev pub backing_of_token : TokenKind → Wanted
backing_of_token (token.Str text) = backing_of_text text
backing_of_token _ = wanted.Byte

-- one string token says its word
abbrev pub backing_of_expr : Expr → Wanted
backing_of_expr (literal offset t) = backing_of_token t.kind
backing_of_expr _ = wanted.Byte

abbrev pub backing_of_init : Init → Wanted
backing_of_init (single e) = backing_of_expr e
backing_of_init (braces offset es) = wanted.Byte

abbrev pub is_type_name : Option NameTree → Bool
is_type_name None = false
is_type_name (Some n) = bytes_eq (encode_utf8_all n.name.0) (codes "type")

-- the parameter is called `type`
abbrev pub is_type : Param → Bool
is_type p = is_type_name p.name

abbrev pub backing_of_param : Option Param → Wanted
backing_of_param None = wanted.Byte
backing_of_param (Some p) = backing_of_init p.value

abbrev pub backing_of_annot : Annot → Wanted
backing_of_annot a = backing_of_param (find is_type a.params)

-- the annotation is `@Backing`
abbrev pub is_backing : Annot → Bool
is_backing a = bytes_eq (encode_utf8_all a.name.name.0) (codes "Backing")

abbrev pub backing_by : Option Annot → Wanted
backing_by None = wanted.Byte
backing_by (Some a) = backing_of_annot a

abbrev pub annots_of : Decl → List Annot
annots_of (decl offset annots n inner) = annots

-- byte, unless the first parameter `type` of the first `Backing` annotation is one of the string tokens "byte",
-- "int" and "long"
abbrev pub backing_of : Decl → Wanted
backing_of d = backing_by (find is_backing (annots_of d))
