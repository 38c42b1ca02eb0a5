-- A literal of a dump evaluates to the value that it is written for.
use Rattle.std.proofs.Common.{◌≡◌, ℕ, ℤ, pos, negsuc, suc, ◌≤◌, Bool, true, false, cond, not, ◌&&◌, nat_le, nat_lt, if◌then◌else◌, List, [], Option, Some, Result, Ok, Err, refl, sym, ap, subst, ◌∙◌, arith, w32, w64}
use Rattle.std.specs.Prelude.{int_le}
use Rattle.std.specs.Ordering.{int_eq}
use Rattle.std.proofs.lemmas.Bool.{and_parts}
use Rattle.std.proofs.lemmas.Bool.Decides.{nat_tests, Decides-int_eq}
use Rattle.std.proofs.lemmas.Int.{ints, to_z_pos}
use Rattle.aidl_base.specs.Results.{◌>>=◌}
use Rattle.aidl_base.specs.Ranges.{is_in, is_between}
use Rattle.aidl_base.specs.declared.range.Range.TheVariants as range
use Rattle.aidl_base.specs.declared.constant.Const.{Const, out-Const}
use Rattle.aidl_base.specs.declared.constant.Const.TheOpen.{Const-F}
use Rattle.aidl_base.specs.declared.constant.Const.TheVariants as constant
use Rattle.aidl_base.specs.declared.reserved.Reserved.TheVariants as word
use Rattle.aidl_syntax.specs.declared.token.Symbol.TheVariants as mark
use Rattle.aidl_syntax.specs.declared.token.TokenKind.{TokenKind}
use Rattle.aidl_syntax.specs.declared.token.TokenKind.TheVariants as kind
use Rattle.aidl_syntax.specs.declared.tree.DottedTree.{DottedTree}
use Rattle.aidl_syntax.specs.Trees.{Expr}
use Rattle.aidl_syntax.specs.Trees.Expr.{literal, group, unary, binary, name}
use Rattle.const_values.specs.declared.fault.ConstFault.{ConstFault}
use Rattle.const_values.specs.declared.fault.ConstFault.TheVariants as fault
use Rattle.const_values.specs.declared.operator.UnaryOperator.TheVariants.{Minus}
use Rattle.const_values.specs.declared.width.Width.{Width}
use Rattle.const_values.specs.declared.width.Width.TheVariants.{Narrow, Wide}
use Rattle.const_values.specs.declared.wanted.Wanted.{Wanted}
use Rattle.const_values.specs.declared.wanted.Wanted.TheVariants as wanted
use Rattle.const_values.specs.Evaluation.{evaluated, or_mismatch, before}
use Rattle.const_values.specs.Literals.{literal_of, number_of, of_bits}
use Rattle.const_values.specs.Operands as operand
use Rattle.const_values.specs.Operands.{Operand}
use Rattle.const_values.specs.Unary.{of_number}
use Rattle.const_values.specs.Wanted.{fitted, in_range}
use Rattle.const_values.specs.Widths.{is_within}
use Rattle.const_items.specs.Dependence.{names_of}
use Rattle.aidl_schema.specs.declared.schema.Decl.{Decl}
use Rattle.aidl_schema.specs.declared.schema.Base.{Base}
use Rattle.aidl_schema.specs.declared.schema.Base.TheVariants as base
use Rattle.aidl_schema.specs.declared.schema.Backing.{Backing}
use Rattle.aidl_schema.specs.declared.schema.Backing.TheVariants as backing
use Rattle.aidl_schema.specs.Constants.{is_single, is_constant_of, is_number_of, is_char_literal}
use Rattle.aidl_schema.specs.Same.{is_named}
use Rattle.api_dump.specs.Values.{character_of}
use Rattle.dump_reading.specs.Bare.{bare_expr}
use Rattle.dump_reading.specs.DumpTrees.{token_tree, decimal_tree, long_tree, backing_tree, single_tree, value_tree}
use Rattle.dump_reading.proofs.spelled.Values.{Small, byte_small, int_small, long_small, at_most}

-- It has no name, and is this operand whatever names mean.
pub record Gives (e : Expr) (a : Operand) : Type 0 where
  pub plain : names_of e ≡ []
  pub value : (meaning : DottedTree → Result Operand ConstFault) → evaluated meaning e ≡ Ok a

kind_in : TokenKind → Expr → TokenKind
kind_in k (literal o t) = t.kind
kind_in k _ = k

pub literal_gives : (k : TokenKind) (a : Operand) → literal_of k ≡ Some a → (e : Expr) → bare_expr e ≡ token_tree k → Gives e a
unfolding kind_in
literal_gives k a h (literal o t) e = record { plain = refl; value = λ meaning. ap (λ j. or_mismatch (literal_of j)) (ap (kind_in k) e) ∙ ap or_mismatch h }
literal_gives k a h (name o d) e = cc
literal_gives k a h (group o b) e = cc
literal_gives k a h (unary o s b) e = cc
literal_gives k a h (binary o s b c) e = cc

-- Numbers.

narrow_bits : (n : ℕ) → n ≤ 2147483647 → of_bits Narrow n ≡ operand.number Narrow (pos n)
narrow_bits n le = ap (operand.number Narrow) (to_z_pos w32 n (omega arith))

wide_bits : (n : ℕ) → n ≤ 9223372036854775807 → of_bits Wide n ≡ operand.number Wide (pos n)
wide_bits n le = ap (operand.number Wide) (to_z_pos w64 n (omega arith))

-- what a width holds of a number without sign
abbrev Holds : Width → ℕ → Type 0
Holds Narrow n = n ≤ 2147483647
Holds Wide n = n ≤ 9223372036854775807

literal_back : (long : Bool) (n : ℕ) → n ≤ 9223372036854775807 → (w : Width) × Holds w n × (number_of false long n ≡ operand.number w (pos n))
literal_back true n le = (Wide, le, wide_bits n le)
literal_back false n le = go (nat_le n 2147483647) refl where
  go : (b : Bool) → nat_le n 2147483647 ≡ b → (w : Width) × Holds w n × (of_bits (cond b Narrow Wide) n ≡ operand.number w (pos n))
  go true e = (Narrow, at_most n 2147483647 e, narrow_bits n (at_most n 2147483647 e))
  go false e = (Wide, le, wide_bits n le)

within : (w : Width) (n : ℕ) → Holds w (suc n) → is_within w (negsuc n) ≡ true
within Narrow n le = grind (arith, ints, nat_tests)
within Wide n le = grind (arith, ints, nat_tests)

minus_back : (w : Width) (n : ℕ) → Holds w (suc n) → of_number Minus w (pos (suc n)) ≡ Ok (operand.number w (negsuc n))
minus_back w n h = ap (λ b. cond b (Ok (operand.number w (negsuc n))) (Err fault.Overflow)) (within w n h)

minus_gives : (k : TokenKind) (w : Width) (n : ℕ) → Holds w (suc n) → literal_of k ≡ Some (operand.number w (pos (suc n))) → (e : Expr) → bare_expr e ≡ unary 0 mark.Minus (token_tree k) → Gives e (operand.number w (negsuc n))
minus_gives k w n le h (unary o mark.Minus b) e =
    let inner : bare_expr b ≡ token_tree k = cc in let g = literal_gives k (operand.number w (pos (suc n))) h b inner in
    record { plain = g.plain; value = λ meaning. ap (λ r. r >>= before (Some Minus)) (g.value meaning) ∙ minus_back w n le }
minus_gives k w n le h (unary o s b) e = cc
minus_gives k w n le h (literal o t) e = cc
minus_gives k w n le h (name o d) e = cc
minus_gives k w n le h (group o b) e = cc
minus_gives k w n le h (binary o s b c) e = cc

-- a number of some width
abbrev pub GivesNumber : Expr → ℤ → Type 0
GivesNumber e z = (w : Width) × Gives e (operand.number w z)

decimal_gives : (long : Bool) (z : ℤ) → Small z → (e : Expr) → bare_expr e ≡ decimal_tree long z → GivesNumber e z
decimal_gives long (pos n) s e h = let b = literal_back long n s in (b.0, literal_gives (kind.Number n false long) (operand.number b.0 (pos n)) (ap Some b.2) e h)
decimal_gives long (negsuc n) s e h = let b = literal_back long (suc n) s in (b.0, minus_gives (kind.Number (suc n) false long) b.0 n b.1 (ap Some b.2) e h)

least_is : literal_of (kind.Number 9223372036854775808 true false) ≡ Some (operand.number Wide (negsuc 9223372036854775807))
least_is = refl

long_gives : (z : ℤ) → is_in range.Long z ≡ true → (e : Expr) → bare_expr e ≡ long_tree z → GivesNumber e z
long_gives z r e h = go (int_eq z (negsuc 9223372036854775807)) refl h where
  go : (b : Bool) → int_eq z (negsuc 9223372036854775807) ≡ b → bare_expr e ≡ (if b then token_tree (kind.Number 9223372036854775808 true false) else decimal_tree true z) → GivesNumber e z
  go true q g = subst (λ y. GivesNumber e y) (sym ((Decides-int_eq z (negsuc 9223372036854775807)).0 q)) (Wide, literal_gives (kind.Number 9223372036854775808 true false) (operand.number Wide (negsuc 9223372036854775807)) least_is e g)
  go false q g = decimal_gives true z (long_small z r q) e g

-- what is wanted for a backing
abbrev pub wanted_backing : Backing → Wanted
wanted_backing backing.Byte = wanted.Byte
wanted_backing backing.Int = wanted.Int
wanted_backing backing.Long = wanted.Long

abbrev pub in_backing : Backing → ℤ → Bool
in_backing backing.Byte z = is_in range.Byte z
in_backing backing.Int z = is_in range.Int z
in_backing backing.Long z = is_in range.Long z

-- It is plain, and is the value as the wanted type takes it.
abbrev pub Fits : Wanted → Expr → Const-F Const → Type 0
Fits w e level = (a : Operand) × Gives e a × ((named : Option ℕ) → (c : Const) × (fitted w named a ≡ Ok c) × (out-Const c ≡ level))

ranged : (r : _) (z : ℤ) → is_in r z ≡ true → in_range r z ≡ Ok (constant.Number z)
ranged r z h = ap (λ b. if b then Ok (constant.Number z) else Err fault.DoesNotFit) h

pub backing_fits : (b : Backing) (z : ℤ) → in_backing b z ≡ true → (e : Expr) → bare_expr e ≡ backing_tree b z → Fits (wanted_backing b) e (Const-F.Number z)
unfolding out-Const denote.Hole.Carrier.out
backing_fits backing.Byte z r e h = let g = decimal_gives false z (byte_small z r) e h in (operand.number g.0 z, g.1, λ named. (constant.Number z, ranged range.Byte z r, refl))
backing_fits backing.Int z r e h = let g = decimal_gives false z (int_small z r) e h in (operand.number g.0 z, g.1, λ named. (constant.Number z, ranged range.Int z r, refl))
backing_fits backing.Long z r e h = let g = long_gives z r e h in (operand.number g.0 z, g.1, λ named. (constant.Number z, ranged range.Long z r, refl))

-- what is wanted for a base; of a declared one nothing here
abbrev pub wanted_base : Base → Wanted
wanted_base base.Boolean = wanted.Boolean
wanted_base base.Byte = wanted.Byte
wanted_base base.Char = wanted.Character
wanted_base base.Int = wanted.Int
wanted_base base.Long = wanted.Long
wanted_base base.Text = wanted.Text
wanted_base (base.Named n) = wanted.Nothing

code_is : (z : ℤ) → is_char_literal z ≡ true → pos (character_of z) ≡ z
code_is (negsuc n) h = cc
code_is (pos n) h =
    let a = and_parts (is_between (pos 32) (pos 126) (pos n)) (not (int_eq (pos n) (pos 39)) && not (int_eq (pos n) (pos 92))) h in
    let le = at_most n 126 (and_parts (int_le (pos 32) (pos n)) (int_le (pos n) (pos 126)) a.0).1 in
    ap (λ b. pos (if b then n else 63)) (below_128 n le) where
      below_128 : (n : ℕ) → n ≤ 126 → nat_lt n 128 ≡ true
      below_128 n le = grind (arith, nat_tests)

module _ (S : List Decl) where
  number_fits : (b : Base) (z : ℤ) → not (is_named b) ≡ true → is_number_of S b z ≡ true → (e : Expr) → bare_expr e ≡ single_tree S b (Const-F.Number z) → Fits (wanted_base b) e (Const-F.Number z)
  unfolding out-Const denote.Hole.Carrier.out
  number_fits base.Boolean z n h e g = cc
  number_fits base.Byte z n h e g = backing_fits backing.Byte z h e g
  number_fits base.Char z n h e g =
      let l = literal_gives (kind.Character (character_of z)) (operand.character (character_of z)) refl e g in
      (operand.character (character_of z), l, λ named. (constant.Number (pos (character_of z)), refl, ap Const-F.Number (code_is z h)))
  number_fits base.Int z n h e g = backing_fits backing.Int z h e g
  number_fits base.Long z n h e g = backing_fits backing.Long z h e g
  number_fits base.Text z n h e g = cc
  number_fits (base.Named k) z n h e g = cc

  single_fits : (b : Base) (c : Const-F Const) → not (is_named b) ≡ true → is_single S b c ≡ true → (e : Expr) → bare_expr e ≡ single_tree S b c → Fits (wanted_base b) e c
  unfolding out-Const denote.Hole.Carrier.out
  single_fits base.Boolean (Const-F.Truth true) n h e g = (operand.truth true, literal_gives (kind.Word word.True) (operand.truth true) refl e g, λ named. (constant.Truth true, refl, refl))
  single_fits base.Boolean (Const-F.Truth false) n h e g = (operand.truth false, literal_gives (kind.Word word.False) (operand.truth false) refl e g, λ named. (constant.Truth false, refl, refl))
  single_fits base.Byte (Const-F.Truth x) n h e g = cc
  single_fits base.Char (Const-F.Truth x) n h e g = cc
  single_fits base.Int (Const-F.Truth x) n h e g = cc
  single_fits base.Long (Const-F.Truth x) n h e g = cc
  single_fits base.Text (Const-F.Truth x) n h e g = cc
  single_fits (base.Named k) (Const-F.Truth x) n h e g = cc
  single_fits b (Const-F.Number z) n h e g = number_fits b z n h e g
  single_fits base.Text (Const-F.Text x) n h e g = (operand.text x, literal_gives (kind.Str x) (operand.text x) refl e g, λ named. (constant.Text x, refl, refl))
  single_fits base.Boolean (Const-F.Text x) n h e g = cc
  single_fits base.Byte (Const-F.Text x) n h e g = cc
  single_fits base.Char (Const-F.Text x) n h e g = cc
  single_fits base.Int (Const-F.Text x) n h e g = cc
  single_fits base.Long (Const-F.Text x) n h e g = cc
  single_fits (base.Named k) (Const-F.Text x) n h e g = cc
  single_fits b (Const-F.Members cs) n h e g = cc

  -- a value of a built-in type
  pub value_fits : (b : Base) (c : Const) → not (is_named b) ≡ true → is_constant_of S b c ≡ true → (e : Expr) → bare_expr e ≡ value_tree S b c → Fits (wanted_base b) e (out-Const c)
  value_fits b c n h e g = single_fits b (out-Const c) n h e g
