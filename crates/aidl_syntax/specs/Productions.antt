-- The productions, each under its own name, as what tokens stand for (AOSP, "AIDL language", as far as the profile
-- goes).
use Rattle.std.specs.Prelude.{◌≡◌, ◌≤◌, ◌<◌, ◌+◌, ℕ, Bool, true, false, List, [], ◌∷◌, ◌++◌, Option, Some, None}
use Rattle.aidl_base.specs.declared.name.Ident.{Ident}
use Rattle.aidl_base.specs.declared.reserved.Reserved.{Reserved}
use Rattle.aidl_base.specs.declared.reserved.Reserved.TheVariants as word
use Rattle.aidl_syntax.specs.declared.token.Symbol.{Symbol}
use Rattle.aidl_syntax.specs.declared.token.Symbol.TheVariants as mark
use Rattle.aidl_syntax.specs.declared.token.TokenKind.{TokenKind}
use Rattle.aidl_syntax.specs.declared.token.TokenKind.TheVariants as kind
use Rattle.aidl_syntax.specs.declared.token.Token.{Token}
use Rattle.aidl_syntax.specs.declared.tree.NameTree.{NameTree}
use Rattle.aidl_syntax.specs.declared.tree.DottedTree.{DottedTree}
use Rattle.aidl_syntax.specs.declared.tree.TypeTree.{TypeTree}
use Rattle.aidl_syntax.specs.declared.tree.WayTree.{WayTree}
use Rattle.aidl_syntax.specs.declared.tree.WayTree.TheVariants as way
use Rattle.aidl_syntax.specs.declared.tree.FileTree.{FileTree}
use Rattle.aidl_syntax.specs.Parts.{Form, Then, Maybe, Many, Quoted, Worded, Behind, Before, MaybeListed, Trailing}
use Rattle.aidl_syntax.specs.Parts.{MaybeTrailing, first}
use Rattle.aidl_syntax.specs.Trees.{Expr, offset_of, Init, Param, Annot, Field, Constant, Enumerator, Arg, Method}
use Rattle.aidl_syntax.specs.Trees.{Decl, Body, Members, File, file_of}
use Rattle.aidl_syntax.specs.Trees.Expr.{literal, name, group, unary, binary}
use Rattle.aidl_syntax.specs.Trees.Init.{single, braces}
use Rattle.aidl_syntax.specs.Trees.Decl.{decl}
use Rattle.aidl_syntax.specs.Trees.Body.{parcelable, union, enum, interface}
use Rattle.aidl_syntax.specs.Trees.Members.{none, field, constant, method, nested}

-- ident
abbrev pub IsIdent : Form NameTree
IsIdent ts n = (t : Token) × (ts ≡ t ∷ []) × (t.kind ≡ kind.Name n.name.0) × (n.offset ≡ t.offset)

abbrev pub AreNames : List Token → List Ident → Type 0
AreNames ts [] = ⊥
AreNames ts (i ∷ []) = (t : Token) × (ts ≡ t ∷ []) × (t.kind ≡ kind.Name i.0)
AreNames ts (i ∷ j ∷ is) = (t dot : Token) × (rest : List Token) × (ts ≡ t ∷ dot ∷ rest) × (t.kind ≡ kind.Name i.0)
    × (dot.kind ≡ kind.Mark mark.Dot) × AreNames rest (j ∷ is)

-- dotted = ident {"." ident}
abbrev pub IsDotted : Form DottedTree
IsDotted ts d = (d.offset ≡ first ts) × AreNames ts d.name.0

-- Expressions.

-- number | character | string | "true" | "false"
abbrev pub is_literal : TokenKind → Bool
is_literal (kind.Name text) = false
is_literal (kind.Word word.True) = true
is_literal (kind.Word word.False) = true
is_literal (kind.Word _) = false
is_literal (kind.Number bits hexadecimal long) = true
is_literal (kind.Character c) = true
is_literal (kind.Str text) = true
is_literal (kind.Mark s) = false

-- "+" | "-" | "~" | "!"
abbrev pub is_sign : Symbol → Bool
is_sign mark.Plus = true
is_sign mark.Minus = true
is_sign mark.Tilde = true
is_sign mark.Bang = true
is_sign _ = false

-- the production of a binary operator, numbered from the one that binds least; 0 for another symbol
abbrev pub level : Symbol → ℕ
level mark.OrOr = 1  -- or
level mark.AndAnd = 2  -- and
level mark.Or = 3  -- bitor
level mark.Caret = 4  -- xor
level mark.And = 5  -- bitand
level mark.EqualEqual = 6  -- equal
level mark.NotEqual = 6
level mark.Less = 7  -- less
level mark.Greater = 7
level mark.LessEqual = 7
level mark.GreaterEqual = 7
level mark.ShiftLeft = 8  -- shift
level mark.ShiftRight = 8
level mark.Plus = 9  -- sum
level mark.Minus = 9
level mark.Star = 10  -- product
level mark.Slash = 10
level mark.Percent = 10
level _ = 0

-- The production of a number: `least` is that of the least operator that may stand outside parentheses, and 11 is
-- unary. A tree with an operator groups from the left: its left part is of the operator's production, its right
-- part of the next.
abbrev pub IsOf : ℕ → List Token → Expr → Type 0
IsOf least ts (literal o t) = (ts ≡ t ∷ []) × (is_literal t.kind ≡ true) × (o ≡ t.offset)
IsOf least ts (name o d) = IsDotted ts d × (o ≡ first ts)
IsOf least ts (group o a) = (begin close : Token) × (inner : List Token) × (ts ≡ begin ∷ (inner ++ close ∷ []))
    × (begin.kind ≡ kind.Mark mark.OpenParen) × (close.kind ≡ kind.Mark mark.CloseParen)
    × (o ≡ begin.offset) × IsOf 1 inner a
IsOf least ts (unary o op a) = (sign : Token) × (inner : List Token) × (ts ≡ sign ∷ inner)
    × (sign.kind ≡ kind.Mark op) × (is_sign op ≡ true) × (o ≡ sign.offset) × IsOf 11 inner a
IsOf least ts (binary o op a b) = (0 < level op) × (least ≤ level op) × (left right : List Token) × (sign : Token)
    × (ts ≡ left ++ sign ∷ right) × (sign.kind ≡ kind.Mark op)
    × (o ≡ offset_of a) × IsOf (level op) left a × IsOf (level op + 1) right b

-- expr = or
abbrev pub IsExpr : Form Expr
IsExpr ts e = IsOf 1 ts e

-- Types and initializers.

-- "[" "]"
abbrev pub IsArray : Form Bool
IsArray ts false = ts ≡ []
IsArray ts true = Then (Quoted mark.OpenBracket) (Quoted mark.CloseBracket) ts (tt, tt)

-- type = dotted ["<" dotted ">"] ["[" "]"]
abbrev pub IsType : Form TypeTree
IsType ts t = Then IsDotted (Then (Maybe (Behind mark.Less (Before IsDotted mark.Greater))) IsArray) ts
    (t.name, (t.element, t.array)) × (t.offset ≡ first ts)

-- init = expr | "{" [expr {"," expr} [","]] "}"
abbrev pub IsInit : Form Init
IsInit ts (single e) = IsExpr ts e
IsInit ts (braces o es) = Behind mark.OpenBrace (Before (MaybeTrailing IsExpr) mark.CloseBrace) ts es × (o ≡ first ts)

-- Annotations.

-- param = [ident "="] init
abbrev pub IsParam : Form Param
IsParam ts p = Then (Maybe (Before IsIdent mark.Equal)) IsInit ts (p.name, p.value) × (p.offset ≡ first ts)

-- "(" [param {"," param}] ")"
abbrev pub AreParams : Form (List Param)
AreParams = Behind mark.OpenParen (Before (MaybeListed IsParam) mark.CloseParen)

abbrev pub listed : {A : Type 0} → Option (List A) → List A
listed None = []
listed (Some xs) = xs

-- "@" ident ["(" [param {"," param}] ")"]
abbrev pub IsAnnot : Form Annot
IsAnnot ts a = (params : Option (List Param)) × Behind mark.At (Then IsIdent (Maybe AreParams)) ts (a.name, params)
    × (a.params ≡ listed params) × (a.offset ≡ first ts)

-- annots = {"@" ident ["(" [param {"," param}] ")"]}
abbrev pub AreAnnots : Form (List Annot)
AreAnnots = Many IsAnnot

-- Members.

-- field = annots type ident ["=" init] ";"
abbrev pub IsField : Form Field
IsField ts f =
    Then AreAnnots (Then IsType (Then IsIdent (Before (Maybe (Behind mark.Equal IsInit)) mark.Semicolon))) ts
    (f.annots, (f.ty, (f.name, f.initial))) × (f.offset ≡ first ts)

-- constant = annots "const" type ident "=" expr ";"
abbrev pub IsConstant : Form Constant
IsConstant ts c = Then AreAnnots
    (Then (Worded word.Const) (Then IsType (Then IsIdent (Behind mark.Equal (Before IsExpr mark.Semicolon))))) ts
    (c.annots, (tt, (c.ty, (c.name, c.value)))) × (c.offset ≡ first ts)

-- enumerator = ident ["=" expr]
abbrev pub IsEnumerator : Form Enumerator
IsEnumerator ts e = Then IsIdent (Maybe (Behind mark.Equal IsExpr)) ts (e.name, e.value) × (e.offset ≡ first ts)

-- "in" | "out" | "inout"
abbrev pub IsWay : Form WayTree
IsWay ts way.In = Worded word.In ts tt
IsWay ts way.Out = Worded word.Out ts tt
IsWay ts way.InOut = Worded word.InOut ts tt

-- arg = annots ["in" | "out" | "inout"] annots type ident; the two lists of annotations count as one
abbrev pub IsArg : Form Arg
IsArg ts a = (before after : List Annot) × (a.annots ≡ before ++ after)
    × Then AreAnnots (Then (Maybe IsWay) (Then AreAnnots (Then IsType IsIdent))) ts
    (before, (a.way, (after, (a.ty, a.name)))) × (a.offset ≡ first ts)

-- type | "void"
abbrev pub IsReturned : Form (Option TypeTree)
IsReturned ts None = Worded word.Void ts tt
IsReturned ts (Some t) = IsType ts t

-- ["oneway"]
abbrev pub IsOneway : Form Bool
IsOneway ts false = ts ≡ []
IsOneway ts true = Worded word.Oneway ts tt

-- number
abbrev pub IsNumberToken : Form Token
IsNumberToken ts t = (ts ≡ t ∷ []) × (bits : ℕ) × (hexadecimal long : Bool)
    × (t.kind ≡ kind.Number bits hexadecimal long)

-- method = annots ["oneway"] (type | "void") ident "(" [arg {"," arg}] ")" ["=" number] ";"
abbrev pub IsMethod : Form Method
IsMethod ts m = Then AreAnnots (Then IsOneway (Then IsReturned (Then IsIdent
    (Then (Behind mark.OpenParen (Before (MaybeListed IsArg) mark.CloseParen))
    (Before (Maybe (Behind mark.Equal IsNumberToken)) mark.Semicolon))))) ts
    (m.annots, (m.oneway, (m.returned, (m.name, (m.args, m.id))))) × (m.offset ≡ first ts)

-- Declarations.

-- "parcelable" ident "{" and the like
abbrev pub Opens : Form NameTree → Form NameTree
Opens P = Before P mark.OpenBrace

abbrev mutual
  -- decl = annots (parcelable | union | enum | interface)
  pub IsDecl : List Token → Decl → Type 0
  IsDecl ts (decl o annots n body) = (front back : List Token) × (ts ≡ front ++ back) × AreAnnots front annots
      × IsBody back n body × (o ≡ first ts)

  -- parcelable = "parcelable" ident "{" {member} "}"
  -- union = "union" ident "{" {member} "}"
  -- enum = "enum" ident "{" enumerator {"," enumerator} [","] "}"
  -- interface = ["oneway"] "interface" ident "{" {imember} "}"
  pub IsBody : List Token → NameTree → Body → Type 0
  IsBody ts n (parcelable ms) = (head inner tail : List Token) × (ts ≡ head ++ inner ++ tail)
      × Then (Worded word.Parcelable) (Opens IsIdent) head (tt, n) × AreMembers inner ms
      × Quoted mark.CloseBrace tail tt
  IsBody ts n (union ms) = (head inner tail : List Token) × (ts ≡ head ++ inner ++ tail)
      × Then (Worded word.Union) (Opens IsIdent) head (tt, n) × AreMembers inner ms × Quoted mark.CloseBrace tail tt
  IsBody ts n (enum es) = Then (Then (Worded word.Enum) (Opens IsIdent))
      (Before (Trailing IsEnumerator) mark.CloseBrace) ts ((tt, n), es)
  IsBody ts n (interface oneway ms) = (head inner tail : List Token) × (ts ≡ head ++ inner ++ tail)
      × Then IsOneway (Then (Worded word.Interface) (Opens IsIdent)) head (oneway, (tt, n))
      × AreInterfaceMembers inner ms × Quoted mark.CloseBrace tail tt

  -- {member}, where member = field | constant | decl
  pub AreMembers : List Token → Members → Type 0
  AreMembers ts none = ts ≡ []
  AreMembers ts (field f ms) = (front back : List Token) × (ts ≡ front ++ back) × IsField front f × AreMembers back ms
  AreMembers ts (constant c ms) = (front back : List Token) × (ts ≡ front ++ back) × IsConstant front c
      × AreMembers back ms
  AreMembers ts (method m ms) = ⊥
  AreMembers ts (nested d ms) = (front back : List Token) × (ts ≡ front ++ back) × IsDecl front d × AreMembers back ms

  -- {imember}, where imember = method | constant | decl
  pub AreInterfaceMembers : List Token → Members → Type 0
  AreInterfaceMembers ts none = ts ≡ []
  AreInterfaceMembers ts (field f ms) = ⊥
  AreInterfaceMembers ts (constant c ms) = (front back : List Token) × (ts ≡ front ++ back) × IsConstant front c
      × AreInterfaceMembers back ms
  AreInterfaceMembers ts (method m ms) = (front back : List Token) × (ts ≡ front ++ back) × IsMethod front m
      × AreInterfaceMembers back ms
  AreInterfaceMembers ts (nested d ms) = (front back : List Token) × (ts ≡ front ++ back) × IsDecl front d
      × AreInterfaceMembers back ms

-- a word, a dotted name and ";"
abbrev pub Named : Reserved → Form DottedTree
Named r ts d = Then (Worded r) (Before IsDotted mark.Semicolon) ts (tt, d)

-- file = ["package" dotted ";"] {"import" dotted ";"} decl
abbrev pub IsFile : Form File
IsFile ts f = Then (Maybe (Named word.Package)) (Then (Many (Named word.Import)) IsDecl) ts
    (f.package, (f.imports, f.declared)) × (f.offset ≡ first ts)

-- The tree that tokens stand for.
abbrev pub Tree : List Token → FileTree → Type 0
Tree ts tree = IsFile ts (file_of tree)
