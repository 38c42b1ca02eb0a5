-- Places of small files, computed: the terminals of the tokens, and the place.
use Rattle.std.proofs.Common.{◌≡◌, ℕ, List, [], ◌∷◌, Option, Some, None, refl}
use Rattle.aidl_syntax.specs.declared.token.Token.{Token}
use Rattle.parse_places.specs.declared.terminal.Terminal.{Terminal}
use Rattle.parse_places.specs.declared.terminal.Terminal.TheVariants.{Name, Number, Literal, Package, Import, Interface, Parcelable, Union, Enum, Const, Oneway, Way, Void, OpenBrace, CloseBrace, OpenParen, CloseParen, OpenBracket, CloseBracket, Less, Greater, Comma, Semicolon, Equal, Dot, At, Sign, PlusOrMinus, Operator}
use Rattle.parse_places.specs.steps.Rows.{row}
use Rattle.parse_places.specs.steps.Moves.{same_terminal, moves, skips, step, ends}
use Rattle.parse_places.specs.steps.Places.{place_from, whole}
use Rattle.parse_places.proofs.Tokens.{kind_of}

tokens : List Terminal → List Token
tokens [] = []
tokens (c ∷ cs) = record { kind = kind_of c; offset = 0 } ∷ tokens cs

place : List Terminal → Option ℕ
place cs = place_from 0 (tokens cs) whole

-- empty: ``
empty : place ([]) ≡ Some 0
unfolding place tokens kind_of place_from step ends moves skips row same_terminal
empty = refl

-- a name in place of a declaration: `a`
a_name_in_place_of_a_declaration : place (Name ∷ []) ≡ Some 0
unfolding place tokens kind_of place_from step ends moves skips row same_terminal
a_name_in_place_of_a_declaration = refl

-- a field without a name: `package a; parcelable R { int = 3; }`
a_field_without_a_name : place (Package ∷ Name ∷ Semicolon ∷ Parcelable ∷ Name ∷ OpenBrace ∷ Name ∷ Equal ∷ Number ∷ Semicolon ∷ CloseBrace ∷ []) ≡ Some 7
unfolding place tokens kind_of place_from step ends moves skips row same_terminal
a_field_without_a_name = refl

-- a second declaration: `package a; enum E { A } enum F { B }`
a_second_declaration : place (Package ∷ Name ∷ Semicolon ∷ Enum ∷ Name ∷ OpenBrace ∷ Name ∷ CloseBrace ∷ Enum ∷ Name ∷ OpenBrace ∷ Name ∷ CloseBrace ∷ []) ≡ Some 8
unfolding place tokens kind_of place_from step ends moves skips row same_terminal
a_second_declaration = refl

-- no declaration: `package a;`
no_declaration : place (Package ∷ Name ∷ Semicolon ∷ []) ≡ Some 3
unfolding place tokens kind_of place_from step ends moves skips row same_terminal
no_declaration = refl

-- an import behind the declaration: `enum E { A } import a;`
an_import_behind_the_declaration : place (Enum ∷ Name ∷ OpenBrace ∷ Name ∷ CloseBrace ∷ Import ∷ Name ∷ Semicolon ∷ []) ≡ Some 5
unfolding place tokens kind_of place_from step ends moves skips row same_terminal
an_import_behind_the_declaration = refl

-- an enum without enumerators: `enum E { }`
an_enum_without_enumerators : place (Enum ∷ Name ∷ OpenBrace ∷ CloseBrace ∷ []) ≡ Some 3
unfolding place tokens kind_of place_from step ends moves skips row same_terminal
an_enum_without_enumerators = refl

-- a comma after the last enumerator: `enum E { A, B, }`
a_comma_after_the_last_enumerator : place (Enum ∷ Name ∷ OpenBrace ∷ Name ∷ Comma ∷ Name ∷ Comma ∷ CloseBrace ∷ []) ≡ None
unfolding place tokens kind_of place_from step ends moves skips row same_terminal
a_comma_after_the_last_enumerator = refl

-- two commas: `enum E { A,, }`
two_commas : place (Enum ∷ Name ∷ OpenBrace ∷ Name ∷ Comma ∷ Comma ∷ CloseBrace ∷ []) ≡ Some 5
unfolding place tokens kind_of place_from step ends moves skips row same_terminal
two_commas = refl

-- a comma after the last argument: `interface I { void f(int a, ); }`
a_comma_after_the_last_argument : place (Interface ∷ Name ∷ OpenBrace ∷ Void ∷ Name ∷ OpenParen ∷ Name ∷ Name ∷ Comma ∷ CloseParen ∷ Semicolon ∷ CloseBrace ∷ []) ≡ Some 9
unfolding place tokens kind_of place_from step ends moves skips row same_terminal
a_comma_after_the_last_argument = refl

-- annotations on both sides of the direction: `interface I { @A void f(@B in @C(x = 1) List<a.B> a) = 3; oneway void g(); oneway interface J { } }`
annotations_on_both_sides_of_the_direction : place (Interface ∷ Name ∷ OpenBrace ∷ At ∷ Name ∷ Void ∷ Name ∷ OpenParen ∷ At ∷ Name ∷ Way ∷ At ∷ Name ∷ OpenParen ∷ Name ∷ Equal ∷ Number ∷ CloseParen ∷ Name ∷ Less ∷ Name ∷ Dot ∷ Name ∷ Greater ∷ Name ∷ CloseParen ∷ Equal ∷ Number ∷ Semicolon ∷ Oneway ∷ Void ∷ Name ∷ OpenParen ∷ CloseParen ∷ Semicolon ∷ Oneway ∷ Interface ∷ Name ∷ OpenBrace ∷ CloseBrace ∷ CloseBrace ∷ []) ≡ None
unfolding place tokens kind_of place_from step ends moves skips row same_terminal
annotations_on_both_sides_of_the_direction = refl

-- a second element: `parcelable P { List<a><b> x; }`
a_second_element : place (Parcelable ∷ Name ∷ OpenBrace ∷ Name ∷ Less ∷ Name ∷ Greater ∷ Less ∷ Name ∷ Greater ∷ Name ∷ Semicolon ∷ CloseBrace ∷ []) ≡ Some 7
unfolding place tokens kind_of place_from step ends moves skips row same_terminal
a_second_element = refl

-- an array of arrays: `parcelable P { a[][] x; }`
an_array_of_arrays : place (Parcelable ∷ Name ∷ OpenBrace ∷ Name ∷ OpenBracket ∷ CloseBracket ∷ OpenBracket ∷ CloseBracket ∷ Name ∷ Semicolon ∷ CloseBrace ∷ []) ≡ Some 6
unfolding place tokens kind_of place_from step ends moves skips row same_terminal
an_array_of_arrays = refl

-- a constant without a semicolon: `parcelable P { const int A = 1 }`
a_constant_without_a_semicolon : place (Parcelable ∷ Name ∷ OpenBrace ∷ Const ∷ Name ∷ Name ∷ Equal ∷ Number ∷ CloseBrace ∷ []) ≡ Some 8
unfolding place tokens kind_of place_from step ends moves skips row same_terminal
a_constant_without_a_semicolon = refl

-- a constant: `parcelable P { const int A = -(1 + B.C) * ~2 << 3; }`
a_constant : place (Parcelable ∷ Name ∷ OpenBrace ∷ Const ∷ Name ∷ Name ∷ Equal ∷ PlusOrMinus ∷ OpenParen ∷ Number ∷ PlusOrMinus ∷ Name ∷ Dot ∷ Name ∷ CloseParen ∷ Operator ∷ Sign ∷ Number ∷ Operator ∷ Number ∷ Semicolon ∷ CloseBrace ∷ []) ≡ None
unfolding place tokens kind_of place_from step ends moves skips row same_terminal
a_constant = refl

-- an operator without an operand: `parcelable P { int a = 1 + ; }`
an_operator_without_an_operand : place (Parcelable ∷ Name ∷ OpenBrace ∷ Name ∷ Name ∷ Equal ∷ Number ∷ PlusOrMinus ∷ Semicolon ∷ CloseBrace ∷ []) ≡ Some 8
unfolding place tokens kind_of place_from step ends moves skips row same_terminal
an_operator_without_an_operand = refl

-- an initializer in braces: `parcelable P { @A(b, c = {1, 2,}, "d" + e.f) int[] a = {1, 2,}; int b = {}; }`
an_initializer_in_braces : place (Parcelable ∷ Name ∷ OpenBrace ∷ At ∷ Name ∷ OpenParen ∷ Name ∷ Comma ∷ Name ∷ Equal ∷ OpenBrace ∷ Number ∷ Comma ∷ Number ∷ Comma ∷ CloseBrace ∷ Comma ∷ Literal ∷ PlusOrMinus ∷ Name ∷ Dot ∷ Name ∷ CloseParen ∷ Name ∷ OpenBracket ∷ CloseBracket ∷ Name ∷ Equal ∷ OpenBrace ∷ Number ∷ Comma ∷ Number ∷ Comma ∷ CloseBrace ∷ Semicolon ∷ Name ∷ Name ∷ Equal ∷ OpenBrace ∷ CloseBrace ∷ Semicolon ∷ CloseBrace ∷ []) ≡ None
unfolding place tokens kind_of place_from step ends moves skips row same_terminal
an_initializer_in_braces = refl

-- a parameter with two names: `@A(b = c = 1) enum E { A }`
a_parameter_with_two_names : place (At ∷ Name ∷ OpenParen ∷ Name ∷ Equal ∷ Name ∷ Equal ∷ Number ∷ CloseParen ∷ Enum ∷ Name ∷ OpenBrace ∷ Name ∷ CloseBrace ∷ []) ≡ Some 6
unfolding place tokens kind_of place_from step ends moves skips row same_terminal
a_parameter_with_two_names = refl

-- a method in a parcelable: `parcelable P { void f(); }`
a_method_in_a_parcelable : place (Parcelable ∷ Name ∷ OpenBrace ∷ Void ∷ Name ∷ OpenParen ∷ CloseParen ∷ Semicolon ∷ CloseBrace ∷ []) ≡ Some 3
unfolding place tokens kind_of place_from step ends moves skips row same_terminal
a_method_in_a_parcelable = refl

-- a field in an interface: `interface I { int a; }`
a_field_in_an_interface : place (Interface ∷ Name ∷ OpenBrace ∷ Name ∷ Name ∷ Semicolon ∷ CloseBrace ∷ []) ≡ Some 5
unfolding place tokens kind_of place_from step ends moves skips row same_terminal
a_field_in_an_interface = refl

-- oneway before a constant: `interface I { oneway const int A = 1; }`
oneway_before_a_constant : place (Interface ∷ Name ∷ OpenBrace ∷ Oneway ∷ Const ∷ Name ∷ Name ∷ Equal ∷ Number ∷ Semicolon ∷ CloseBrace ∷ []) ≡ Some 4
unfolding place tokens kind_of place_from step ends moves skips row same_terminal
oneway_before_a_constant = refl

-- an id that is an expression: `interface I { void f() = -1; }`
an_id_that_is_an_expression : place (Interface ∷ Name ∷ OpenBrace ∷ Void ∷ Name ∷ OpenParen ∷ CloseParen ∷ Equal ∷ PlusOrMinus ∷ Number ∷ Semicolon ∷ CloseBrace ∷ []) ≡ Some 8
unfolding place tokens kind_of place_from step ends moves skips row same_terminal
an_id_that_is_an_expression = refl

-- a file that ends in a declaration: `package a; union U { int`
a_file_that_ends_in_a_declaration : place (Package ∷ Name ∷ Semicolon ∷ Union ∷ Name ∷ OpenBrace ∷ Name ∷ []) ≡ Some 7
unfolding place tokens kind_of place_from step ends moves skips row same_terminal
a_file_that_ends_in_a_declaration = refl
