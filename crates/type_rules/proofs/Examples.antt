-- The definitions on small trees; each place is that of a token.
use Rattle.std.proofs.Common.{◌≡◌, ◌+◌, ℕ, List, [], ◌∷◌, Option, Some, None, codes, refl, false, true}
use Rattle.aidl_base.specs.declared.reserved.Reserved.TheVariants as word
use Rattle.aidl_syntax.specs.declared.token.Token.{Token}
use Rattle.aidl_syntax.specs.declared.token.TokenKind.TheVariants as token
use Rattle.aidl_syntax.specs.declared.tree.NameTree.{NameTree}
use Rattle.aidl_syntax.specs.declared.tree.TypeTree.{TypeTree}
use Rattle.aidl_syntax.specs.declared.tree.WayTree.TheVariants as way
use Rattle.aidl_syntax.specs.Trees.{Annot, Arg, Decl, Field, Init, Method, Param}
use Rattle.aidl_syntax.specs.Trees.Expr.{literal, group}
use Rattle.aidl_syntax.specs.Trees.Init.{single}
use Rattle.aidl_syntax.specs.Trees.Decl.{decl}
use Rattle.aidl_syntax.specs.Trees.Body.{parcelable, union, enum, interface}
use Rattle.aidl_syntax.specs.Trees.Members.{none, field, method}
use Rattle.aidl_syntax.specs.Sources.{Source}
use Rattle.name_resolution.specs.Resolution.{meaning_of_word}
use Rattle.aidl_names.specs.Rules.{breach}
use Rattle.type_uses.specs.Annotations.{row_of_name}
use Rattle.type_rules.specs.Breaches.{breaches, broken_by, broken_in, unsorted}

abbrev named : ℕ → List ℕ → NameTree
named offset text = record { offset = offset; name = record { 0 = text } }

abbrev typed : ℕ → List ℕ → TypeTree
typed offset text = record { offset = offset; name = record { offset = offset; name = record { 0 = record { 0 = text } ∷ [] } }; element = None; array = false }

abbrev annot : ℕ → List ℕ → List Param → Annot
annot offset name params = record { offset = offset; name = named (offset + 1) name; params = params }

abbrev param : ℕ → List ℕ → Init → Param
param offset name value = record { offset = offset; name = Some (named offset name); value = value }

abbrev in_file : Decl → Source
in_file d = record { path = codes "R.aidl"; tree = record { offset = 0; «package» = None; imports = []; declared = d } }

abbrev field_of : List Annot → ℕ → List ℕ → ℕ → Option Init → Field
field_of annots offset ty at initial = record { offset = offset; annots = annots; ty = typed offset ty; name = named at (codes "a"); initial = initial }

abbrev number : Init
number = single (literal 0 (record { kind = token.Number 1 false false; offset = 0 }))

abbrev heap : Init
heap = single (literal 0 (record { kind = token.Word word.True; offset = 0 }))

-- @FixedSize parcelable R { @nullable(heap=true) int a; List a; R a = 1; String a; }
example_fields : breaches (in_file (decl 0 (annot 0 (codes "FixedSize") [] ∷ []) (named 22 (codes "R")) (parcelable
    (field (field_of (annot 26 (codes "nullable") (param 36 (codes "heap") heap ∷ []) ∷ []) 47 (codes "int") 51 None) (field (field_of [] 54 (codes "List") 59 None)
    (field (field_of [] 62 (codes "R") 64 (Some number)) (field (field_of [] 71 (codes "String") 78 None) none)))))) ∷ [])
    ≡ breach 14 0 26 ∷ breach 24 0 51 ∷ breach 16 0 54 ∷ breach 21 0 64 ∷ breach 24 0 78 ∷ []
unfolding meaning_of_word row_of_name broken_by broken_in unsorted lib.Utf8.encode
example_fields = refl

-- union R { }
example_union : breaches (in_file (decl 0 [] (named 6 (codes "R")) (union none)) ∷ []) ≡ breach 21 0 6 ∷ []
unfolding meaning_of_word row_of_name broken_by broken_in unsorted lib.Utf8.encode
example_union = refl

-- @Backing(type=("int")) enum R { }
example_backing : breaches (in_file (decl 0 (annot 0 (codes "Backing") (param 9 (codes "type") (single (group 14 (literal 15 (record { kind = token.Str (codes "int"); offset = 15 })))) ∷ []) ∷ [])
    (named 28 (codes "R")) (enum [])) ∷ [])
    ≡ breach 13 0 0 ∷ breach 15 0 0 ∷ []
unfolding meaning_of_word row_of_name broken_by broken_in unsorted lib.Utf8.encode
example_backing = refl

abbrev method_of : List Annot → ℕ → Option TypeTree → ℕ → List Arg → Option Token → Method
method_of annots offset returned at args id = record { offset = offset; annots = annots; oneway = false; returned = returned; name = named at (codes "f"); args = args; id = id }

abbrev one : Token
one = record { kind = token.Number 1 false false; offset = 0 }

abbrev hexadecimal_one : Token
hexadecimal_one = record { kind = token.Number 1 true false; offset = 0 }

-- oneway interface R { int f(out int a); void f() = 0x1; @utf8InCpp void f() = 1; }
example_methods : breaches (in_file (decl 0 [] (named 17 (codes "R")) (interface true
    (method (method_of [] 21 (Some (typed 21 (codes "int"))) 25 (record { offset = 27; annots = []; way = Some way.Out; ty = typed 31 (codes "int"); name = named 35 (codes "a") } ∷ []) None)
    (method (method_of [] 39 None 44 [] (Some hexadecimal_one)) (method (method_of (annot 55 (codes "utf8InCpp") [] ∷ []) 55 None 71 [] (Some one)) none))))) ∷ [])
    ≡ breach 18 0 25 ∷ breach 19 0 25 ∷ breach 17 0 35 ∷ breach 19 0 44 ∷ breach 13 0 55 ∷ breach 19 0 71 ∷ []
unfolding meaning_of_word row_of_name broken_by broken_in unsorted lib.Utf8.encode
example_methods = refl
