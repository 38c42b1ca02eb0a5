-- What the parameters of an annotation say. A value counts where it is a single literal token alone: no
-- parentheses, no operator, no braces (own).
use Rattle.std.specs.Prelude.{ℕ, Bool, true, false, ◌&&◌, ◌||◌, codes, List, Option, Some, None}
use Rattle.std.specs.Str.{bytes_eq, encode_utf8_all}
use Rattle.aidl_base.specs.declared.reserved.Reserved.TheVariants as word
use Rattle.aidl_syntax.specs.declared.token.TokenKind.{TokenKind}
use Rattle.aidl_syntax.specs.declared.token.TokenKind.TheVariants as token
use Rattle.aidl_syntax.specs.declared.tree.NameTree.{NameTree}
use Rattle.aidl_syntax.specs.Trees.{Expr, Init, Param}
use Rattle.aidl_syntax.specs.Trees.Expr.{literal}
use Rattle.aidl_syntax.specs.Trees.Init.{single, braces}
use Rattle.declared_names.specs.Names.{text}
use Rattle.type_shapes.specs.Backing.{is_type}

-- the single literal that a value is
abbrev pub literal_in : Expr → Option TokenKind
literal_in (literal offset t) = Some t.kind
literal_in _ = None

abbrev pub literal_of : Init → Option TokenKind
literal_of (single e) = literal_in e
literal_of (braces offset es) = None

-- `true`
abbrev pub is_true_word : Option TokenKind → Bool
is_true_word (Some (token.Word word.True)) = true
is_true_word _ = false

-- `true` or `false`
abbrev pub is_truth_word : Option TokenKind → Bool
is_truth_word (Some (token.Word word.True)) = true
is_truth_word (Some (token.Word word.False)) = true
is_truth_word _ = false

-- a string
abbrev pub is_string : Option TokenKind → Bool
is_string (Some (token.Str s)) = true
is_string _ = false

-- one of the words that name a backing
abbrev pub is_backing_text : List ℕ → Bool
is_backing_text w = bytes_eq w (codes "byte") || bytes_eq w (codes "int") || bytes_eq w (codes "long")

-- one of the strings "byte", "int" and "long"
abbrev pub is_backing_word : Option TokenKind → Bool
is_backing_word (Some (token.Str s)) = is_backing_text (encode_utf8_all s)
is_backing_word _ = false

abbrev pub is_heap_name : Option NameTree → Bool
is_heap_name None = false
is_heap_name (Some n) = bytes_eq (text n.name) (codes "heap")

-- the parameter is `heap=true`
abbrev pub is_heap_true : Param → Bool
is_heap_true p = is_heap_name p.name && is_true_word (literal_of p.value)

-- the parameter is `heap=true` or `heap=false`
abbrev pub is_heap : Param → Bool
is_heap p = is_heap_name p.name && is_truth_word (literal_of p.value)

-- the parameter is `type` with a string
abbrev pub is_type_string : Param → Bool
is_type_string p = is_type p && is_string (literal_of p.value)
