-- What an expression of plain literals is: a character is one of a literal, and a text has characters of literals alone.
use Rattle.std.proofs.Common.{◌≡◌, ℕ, ℤ, pos, negsuc, Bool, true, false, ◌&&◌, if◌then◌else◌, List, Option, Some, None, Result, Ok, Err, Contains, refl, ◌∙◌, subst, arith}
use Rattle.std.specs.List.{list_all}
use Rattle.std.proofs.lemmas.List.Elements.{Contains-append_left, Contains-append_right}
use Rattle.std.proofs.lemmas.List.Folds.{list_all-append}
use Rattle.aidl_base.specs.Results.{◌>>=◌}
use Rattle.aidl_base.specs.declared.constant.Const.{Const, out-Const}
use Rattle.aidl_base.specs.declared.constant.Const.TheOpen.{Const-F}
use Rattle.aidl_base.specs.declared.constant.Const.TheVariants as value
use Rattle.aidl_base.specs.declared.range.Range.{Range}
use Rattle.aidl_base.specs.declared.range.Range.TheVariants as range
use Rattle.aidl_base.specs.Ranges.{is_in}
use Rattle.aidl_base.proofs.lemmas.Tests.{both}
use Rattle.aidl_schema.specs.Constants.{is_char_literal, is_string_character}
use Rattle.aidl_syntax.specs.declared.tree.DottedTree.{DottedTree}
use Rattle.aidl_syntax.specs.Trees.{Expr}
use Rattle.aidl_syntax.specs.Trees.Expr.{literal, name, group, unary, binary}
use Rattle.const_values.specs.declared.fault.ConstFault.{ConstFault}
use Rattle.const_values.specs.declared.fault.ConstFault.TheVariants as fault
use Rattle.const_values.specs.declared.operator.Arithmetic.{Arithmetic}
use Rattle.const_values.specs.declared.operator.Arithmetic.TheVariants.{Add, Subtract, Multiply, Divide, Remainder}
use Rattle.const_values.specs.declared.operator.BinaryOperator.{BinaryOperator}
use Rattle.const_values.specs.declared.operator.BinaryOperator.TheVariants as operator
use Rattle.const_values.specs.declared.operator.Shift.{Shift}
use Rattle.const_values.specs.declared.operator.Shift.TheVariants as shift
use Rattle.const_values.specs.declared.operator.UnaryOperator.{UnaryOperator}
use Rattle.const_values.specs.declared.operator.UnaryOperator.TheVariants.{Plus, Minus, Complement, Not}
use Rattle.const_values.specs.declared.width.Width.{Width}
use Rattle.const_values.specs.declared.wanted.Wanted.{Wanted}
use Rattle.const_values.specs.declared.wanted.Wanted.TheVariants as wanted
use Rattle.const_values.specs.Arithmetic.{arithmetic_of}
use Rattle.const_values.specs.Binary as two
use Rattle.const_values.specs.Evaluation.{evaluated, or_mismatch, before, between, then_right}
use Rattle.const_values.specs.Literals.{literal_of}
use Rattle.const_values.specs.Operands.{Operand, truth, number, character, text}
use Rattle.const_values.specs.Shifts.{shifted}
use Rattle.const_values.specs.Symbols.{unary_operator, binary_operator}
use Rattle.const_values.specs.Unary as one
use Rattle.const_values.specs.Wanted.{fitted, in_range, is_of_enum}
use Rattle.const_items.specs.Dependence.{names_of}
use Rattle.const_eval.specs.Outcomes.{of_level, of_number, of_code}

-- a character of a literal, or a text of such as a string may hold
abbrev pub is_plain : Operand → Bool
is_plain (truth b) = true
is_plain (number width z) = true
is_plain (character code) = is_char_literal (pos code)
is_plain (text x) = list_all is_string_character x

abbrev pub is_plain_option : Option Operand → Bool
is_plain_option None = true
is_plain_option (Some a) = is_plain a

-- each literal of the expression is one
abbrev pub is_plain_expr : Expr → Bool
is_plain_expr (literal offset t) = is_plain_option (literal_of t.kind)
is_plain_expr (name offset d) = true
is_plain_expr (group offset a) = is_plain_expr a
is_plain_expr (unary offset symbol a) = is_plain_expr a
is_plain_expr (binary offset symbol a b) = is_plain_expr a && is_plain_expr b

-- what a step gives is plain
abbrev GivesPlain : Result Operand ConstFault → Type 0
GivesPlain r = (a : Operand) → r ≡ Ok a → is_plain a ≡ true

gives : (a : Operand) → is_plain a ≡ true → GivesPlain (Ok a)
gives a h b e = let is : a ≡ b = cc in subst (λ x. is_plain x ≡ true) is h

fails : (f : ConstFault) → GivesPlain (Err f)
fails f a e = cc

if_gives : (b : Bool) (a : Operand) (f : ConstFault) → is_plain a ≡ true → GivesPlain (if b then Ok a else Err f)
if_gives true a f h = gives a h
if_gives false a f h = fails f

unless_gives : (b : Bool) (f : ConstFault) (r : Result Operand ConstFault) → GivesPlain r → GivesPlain (if b then Err f else r)
unless_gives true f r h = fails f
unless_gives false f r h = h

one_plain : (op : UnaryOperator) (a : Operand) → GivesPlain (one.value_of op a)
one_plain Plus (number width z) = gives (number width z) refl
one_plain Minus (number width z) = if_gives _ _ _ refl
one_plain Complement (number width z) = gives _ refl
one_plain Not (number width z) = fails _
one_plain Not (truth b) = gives _ refl
one_plain Plus (truth b) = fails _
one_plain Minus (truth b) = fails _
one_plain Complement (truth b) = fails _
one_plain op (character c) = fails _
one_plain op (text x) = fails _

arithmetic_plain : (op : Arithmetic) (width : Width) (a b : ℤ) → GivesPlain (arithmetic_of op width a b)
arithmetic_plain Add width a b = if_gives _ _ _ refl
arithmetic_plain Subtract width a b = if_gives _ _ _ refl
arithmetic_plain Multiply width a b = if_gives _ _ _ refl
arithmetic_plain Divide width a b = unless_gives _ _ _ (if_gives _ _ _ refl)
arithmetic_plain Remainder width a b = unless_gives _ _ _ (if_gives _ _ _ refl)

shifted_plain : (op : Shift) (width : Width) (a : ℤ) (places : ℕ) → is_plain (shifted op width a places) ≡ true
shifted_plain shift.Left width a places = refl
shifted_plain shift.Right width a places = refl

numbers_plain : (op : BinaryOperator) (left : Width) (a : ℤ) (right : Width) (b : ℤ) → GivesPlain (two.of_numbers op left a right b)
numbers_plain (operator.Arithmetic op) left a right b = arithmetic_plain op _ a b
numbers_plain (operator.Bitwise op) left a right b = gives _ refl
numbers_plain (operator.Shift op) left a right b = if_gives _ _ _ (shifted_plain op left a _)
numbers_plain (operator.Order op) left a right b = gives _ refl
numbers_plain (operator.Equality op) left a right b = gives _ refl
numbers_plain (operator.Connective op) left a right b = fails _

truths_plain : (op : BinaryOperator) (a b : Bool) → GivesPlain (two.of_truths op a b)
truths_plain (operator.Arithmetic op) a b = fails _
truths_plain (operator.Bitwise op) a b = fails _
truths_plain (operator.Shift op) a b = fails _
truths_plain (operator.Order op) a b = fails _
truths_plain (operator.Equality op) a b = gives _ refl
truths_plain (operator.Connective op) a b = gives _ refl

texts_plain : (op : BinaryOperator) (a b : List ℕ) → list_all is_string_character a ≡ true → list_all is_string_character b ≡ true → GivesPlain (two.of_texts op a b)
texts_plain (operator.Arithmetic Add) a b h k = if_gives _ _ _ (list_all-append is_string_character a b ∙ rw (h, k) refl)
texts_plain (operator.Arithmetic Subtract) a b h k = fails _
texts_plain (operator.Arithmetic Multiply) a b h k = fails _
texts_plain (operator.Arithmetic Divide) a b h k = fails _
texts_plain (operator.Arithmetic Remainder) a b h k = fails _
texts_plain (operator.Bitwise op) a b h k = fails _
texts_plain (operator.Shift op) a b h k = fails _
texts_plain (operator.Order op) a b h k = fails _
texts_plain (operator.Equality op) a b h k = fails _
texts_plain (operator.Connective op) a b h k = fails _

two_plain : (op : BinaryOperator) (a b : Operand) → is_plain a ≡ true → is_plain b ≡ true → GivesPlain (two.value_of op a b)
two_plain op (number left a) (number right b) h k = numbers_plain op left a right b
two_plain op (truth a) (truth b) h k = truths_plain op a b
two_plain op (text a) (text b) h k = texts_plain op a b h k
two_plain op (number w a) (truth b) h k = fails _
two_plain op (number w a) (character b) h k = fails _
two_plain op (number w a) (text b) h k = fails _
two_plain op (truth a) (number w b) h k = fails _
two_plain op (truth a) (character b) h k = fails _
two_plain op (truth a) (text b) h k = fails _
two_plain op (text a) (number w b) h k = fails _
two_plain op (text a) (truth b) h k = fails _
two_plain op (text a) (character b) h k = fails _
two_plain op (character a) (number w b) h k = fails _
two_plain op (character a) (truth b) h k = fails _
two_plain op (character a) (text b) h k = fails _
two_plain op (character a) (character b) h k = fails _

before_plain : (op : Option UnaryOperator) (a : Operand) → GivesPlain (before op a)
before_plain None a = fails _
before_plain (Some op) a = one_plain op a

between_plain : (op : Option BinaryOperator) (a b : Operand) → is_plain a ≡ true → is_plain b ≡ true → GivesPlain (between op a b)
between_plain None a b h k = fails _
between_plain (Some op) a b h k = two_plain op a b h k

then_plain : (r : Result Operand ConstFault) (f : Operand → Result Operand ConstFault) → GivesPlain r → ((a : Operand) → is_plain a ≡ true → GivesPlain (f a)) → GivesPlain (r >>= f)
then_plain (Ok a) f h k = k a (h a refl)
then_plain (Err e) f h k = fails e

literal_plain : (o : Option Operand) → is_plain_option o ≡ true → GivesPlain (or_mismatch o)
literal_plain None h = fails _
literal_plain (Some a) h = gives a h

-- an expression of plain literals, whose names mean what is plain
pub evaluated-plain : (meaning : DottedTree → Result Operand ConstFault) (e : Expr) → ((d : DottedTree) → Contains (names_of e) d → GivesPlain (meaning d)) → is_plain_expr e ≡ true → GivesPlain (evaluated meaning e)
evaluated-plain meaning (literal offset t) names h = literal_plain (literal_of t.kind) h
evaluated-plain meaning (name offset d) names h = names d (0, omega arith, refl)
evaluated-plain meaning (group offset a) names h = evaluated-plain meaning a names h
evaluated-plain meaning (unary offset symbol a) names h = then_plain (evaluated meaning a) (before (unary_operator symbol)) (evaluated-plain meaning a names h) (λ b k. before_plain (unary_operator symbol) b)
evaluated-plain meaning (binary offset symbol a b) names h =
    let parts = both (is_plain_expr a) (is_plain_expr b) h in
    let left = evaluated-plain meaning a (λ d there. names d (Contains-append_left (names_of a) (names_of b) d there)) parts.0 in
    let right = evaluated-plain meaning b (λ d there. names d (Contains-append_right (names_of a) (names_of b) d there)) parts.1 in
    then_plain (evaluated meaning a) (then_right (binary_operator symbol) (evaluated meaning b)) left
    (λ x k. then_plain (evaluated meaning b) (λ y. between (binary_operator symbol) x y) right (λ y j. between_plain (binary_operator symbol) x y k j))

-- one level of a value of a wanted type
abbrev pub fits : Wanted → Const-F Const → Bool
fits wanted.Boolean (Const-F.Truth b) = true
fits wanted.Byte (Const-F.Number z) = is_in range.Byte z
fits wanted.Int (Const-F.Number z) = is_in range.Int z
fits wanted.Long (Const-F.Number z) = is_in range.Long z
fits wanted.Character (Const-F.Number z) = is_char_literal z
fits (wanted.Enum k) (Const-F.Number z) = true
fits wanted.Text (Const-F.Text x) = list_all is_string_character x
fits _ _ = false

abbrev Fits : Wanted → Result Const ConstFault → Type 0
Fits w r = (c : Const) → r ≡ Ok c → fits w (out-Const c) ≡ true

fit_gives : (w : Wanted) (c : Const) → fits w (out-Const c) ≡ true → Fits w (Ok c)
fit_gives w c h d e = let is : c ≡ d = cc in subst (λ x. fits w (out-Const x) ≡ true) is h

fit_fails : (w : Wanted) (f : ConstFault) → Fits w (Err f)
fit_fails w f c e = cc

ranged : (w : Wanted) (r : Range) (z : ℤ) → (is_in r z ≡ true → fits w (out-Const (value.Number z)) ≡ true) → Fits w (in_range r z)
ranged w r z h = by (is_in r z) h where
  by : (b : Bool) → (b ≡ true → fits w (out-Const (value.Number z)) ≡ true) → Fits w (if b then Ok (value.Number z) else Err fault.DoesNotFit)
  by true g = fit_gives w (value.Number z) (g refl)
  by false g = fit_fails w fault.DoesNotFit

named_fits : (k : ℕ) (b : Bool) (z : ℤ) → Fits (wanted.Enum k) (if b then Ok (value.Number z) else Err fault.Mismatch)
unfolding out-Const denote.Hole.Carrier.out
named_fits k true z = fit_gives (wanted.Enum k) (value.Number z) refl
named_fits k false z = fit_fails (wanted.Enum k) fault.Mismatch

-- what a wanted type takes of a plain operand fits it
pub fitted-fits : (w : Wanted) (enum : Option ℕ) (a : Operand) → is_plain a ≡ true → Fits w (fitted w enum a)
unfolding out-Const denote.Hole.Carrier.out
fitted-fits wanted.Boolean enum (truth b) h = fit_gives wanted.Boolean (value.Truth b) refl
fitted-fits wanted.Byte enum (truth b) h = fit_fails wanted.Byte fault.Mismatch
fitted-fits wanted.Int enum (truth b) h = fit_fails wanted.Int fault.Mismatch
fitted-fits wanted.Long enum (truth b) h = fit_fails wanted.Long fault.Mismatch
fitted-fits wanted.Character enum (truth b) h = fit_fails wanted.Character fault.Mismatch
fitted-fits wanted.Text enum (truth b) h = fit_fails wanted.Text fault.Mismatch
fitted-fits (wanted.Enum k) enum (truth b) h = fit_fails (wanted.Enum k) fault.Mismatch
fitted-fits wanted.Nothing enum (truth b) h = fit_fails wanted.Nothing fault.Mismatch
fitted-fits wanted.Boolean enum (number width z) h = fit_fails wanted.Boolean fault.Mismatch
fitted-fits wanted.Byte enum (number width z) h = ranged wanted.Byte range.Byte z (λ e. e)
fitted-fits wanted.Int enum (number width z) h = ranged wanted.Int range.Int z (λ e. e)
fitted-fits wanted.Long enum (number width z) h = ranged wanted.Long range.Long z (λ e. e)
fitted-fits wanted.Character enum (number width z) h = fit_fails wanted.Character fault.Mismatch
fitted-fits wanted.Text enum (number width z) h = fit_fails wanted.Text fault.Mismatch
fitted-fits (wanted.Enum k) enum (number width z) h = named_fits k (is_of_enum k enum) z
fitted-fits wanted.Nothing enum (number width z) h = fit_fails wanted.Nothing fault.Mismatch
fitted-fits wanted.Boolean enum (character code) h = fit_fails wanted.Boolean fault.Mismatch
fitted-fits wanted.Byte enum (character code) h = fit_fails wanted.Byte fault.Mismatch
fitted-fits wanted.Int enum (character code) h = fit_fails wanted.Int fault.Mismatch
fitted-fits wanted.Long enum (character code) h = fit_fails wanted.Long fault.Mismatch
fitted-fits wanted.Character enum (character code) h = fit_gives wanted.Character (value.Number (pos code)) h
fitted-fits wanted.Text enum (character code) h = fit_fails wanted.Text fault.Mismatch
fitted-fits (wanted.Enum k) enum (character code) h = fit_fails (wanted.Enum k) fault.Mismatch
fitted-fits wanted.Nothing enum (character code) h = fit_fails wanted.Nothing fault.Mismatch
fitted-fits wanted.Boolean enum (text x) h = fit_fails wanted.Boolean fault.Mismatch
fitted-fits wanted.Byte enum (text x) h = fit_fails wanted.Byte fault.Mismatch
fitted-fits wanted.Int enum (text x) h = fit_fails wanted.Int fault.Mismatch
fitted-fits wanted.Long enum (text x) h = fit_fails wanted.Long fault.Mismatch
fitted-fits wanted.Character enum (text x) h = fit_fails wanted.Character fault.Mismatch
fitted-fits wanted.Text enum (text x) h = fit_gives wanted.Text (value.Text x) h
fitted-fits (wanted.Enum k) enum (text x) h = fit_fails (wanted.Enum k) fault.Mismatch
fitted-fits wanted.Nothing enum (text x) h = fit_fails wanted.Nothing fault.Mismatch

code_plain : (z : ℤ) → is_char_literal z ≡ true → GivesPlain (of_code z)
code_plain (pos code) h = gives (character code) h
code_plain (negsuc n) h = fails _

number_plain : (w : Wanted) (z : ℤ) → fits w (Const-F.Number z) ≡ true → GivesPlain (of_number w z)
number_plain wanted.Boolean z h = fails _
number_plain wanted.Byte z h = gives _ refl
number_plain wanted.Int z h = gives _ refl
number_plain wanted.Long z h = gives _ refl
number_plain wanted.Character z h = code_plain z h
number_plain wanted.Text z h = fails _
number_plain (wanted.Enum k) z h = fails _
number_plain wanted.Nothing z h = fails _

text_plain : (w : Wanted) (x : List ℕ) → fits w (Const-F.Text x) ≡ true → GivesPlain (of_level w (Const-F.Text x))
text_plain wanted.Text x h = gives (text x) h
text_plain wanted.Boolean x h = cc
text_plain wanted.Byte x h = cc
text_plain wanted.Int x h = cc
text_plain wanted.Long x h = cc
text_plain wanted.Character x h = cc
text_plain (wanted.Enum k) x h = cc
text_plain wanted.Nothing x h = cc

-- a value that fits its wanted type is a plain operand
pub level-plain : (w : Wanted) (level : Const-F Const) → fits w level ≡ true → GivesPlain (of_level w level)
level-plain w (Const-F.Truth b) h = gives _ refl
level-plain w (Const-F.Number z) h = number_plain w z h
level-plain w (Const-F.Text x) h = text_plain w x h
level-plain w (Const-F.Members cs) h = fails _
