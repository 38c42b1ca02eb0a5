-- Names, types and values of a valid schema are laid.
use Rattle.std.proofs.Common.{◌≡◌, ℕ, zero, suc, ℤ, pos, negsuc, ◌≤◌, Bool, true, false, cond, not, ◌&&◌, ◌==◌, nat_le, nat_lt, if◌then◌else◌, List, [], ◌∷◌, ◌++◌, Option, Some, None, codes, slice_get, refl, sym, ap, ◌∙◌, arith}
use Rattle.std.specs.List.{flat_map, list_all, find}
use Rattle.std.specs.Ordering.{int_eq}
use Rattle.std.specs.Prelude.{int_le}
use Rattle.std.proofs.lemmas.Bool.{and_parts, and_from}
use Rattle.std.proofs.lemmas.Bool.Decides.{nat_tests}
use Rattle.aidl_base.specs.Identifiers.{is_identifier}
use Rattle.aidl_base.specs.Reserved.{reserved_of}
use Rattle.aidl_base.specs.Ranges.{is_in, is_between}
use Rattle.aidl_base.specs.declared.range.Range.TheVariants as range
use Rattle.aidl_base.specs.declared.name.Ident.{Ident}
use Rattle.aidl_base.specs.declared.constant.Const.{Const, out-Const}
use Rattle.aidl_base.specs.declared.constant.Const.TheOpen.{Const-F}
use Rattle.aidl_base.specs.declared.reserved.Reserved.TheVariants as word
use Rattle.aidl_syntax.specs.Bytes.{is_inside}
use Rattle.aidl_syntax.specs.declared.token.Symbol.TheVariants as mark
use Rattle.aidl_syntax.specs.declared.token.TokenKind.TheVariants as kind
use Rattle.aidl_schema.specs.declared.schema.Decl.{Decl}
use Rattle.aidl_schema.specs.declared.schema.Kind.TheVariants.{Enum}
use Rattle.aidl_schema.specs.declared.schema.Enumerator.{Enumerator}
use Rattle.aidl_schema.specs.declared.schema.Backing.{Backing}
use Rattle.aidl_schema.specs.declared.schema.Backing.TheVariants as backing
use Rattle.aidl_schema.specs.declared.schema.Base.{Base}
use Rattle.aidl_schema.specs.declared.schema.Base.TheVariants as base
use Rattle.aidl_schema.specs.declared.schema.Shape.{Shape}
use Rattle.aidl_schema.specs.declared.schema.Shape.TheVariants as shape
use Rattle.aidl_schema.specs.declared.schema.AidlType.{AidlType}
use Rattle.aidl_schema.specs.Types.{is_type, is_meant, is_well_shaped, form_of, form_of_kind, is_one}
use Rattle.std.proofs.lemmas.List.Folds.{find_at}
use Rattle.std.specs.List.{position_or_len}
use Rattle.std.proofs.Common.{map}
use Rattle.aidl_schema.specs.Holds.{AllHold}
use Rattle.aidl_schema.specs.Names as schema
use Rattle.aidl_schema.specs.Names.{is_name, is_type_word, last_part}
use Rattle.aidl_schema.specs.Types.{form_of_decl}
use Rattle.aidl_schema.specs.Valid.{has_initializer_of}
use Rattle.std.proofs.Common.{append_assoc}
use Rattle.aidl_schema.specs.Constants.{is_string, in_range, is_char_literal, is_string_character, is_number_of, is_single, is_constant_of, are_members, is_initializer_of, is_enumerator_of}
use Rattle.aidl_schema.specs.Names.{enumerators_of}
use Rattle.api_dump.specs.Pieces.{Piece, sign, name, dotted, joined}
use Rattle.api_dump.specs.Pieces.Piece.{space, token}
use Rattle.api_dump.specs.Types.{base_name, declared_name, shaped, nullable, flag, marks, plain_type}
use Rattle.api_dump.specs.Values.{decimal_of, long_of, of_backing, after_dot, named_value, character_of, number, single_value, value, braced, initial_value, initial}
use Rattle.dump_reading.proofs.spelled.Spelled.{is_equal}
use Rattle.dump_reading.proofs.spelled.Fits.{Fits, any, no_word, loose, none, and_then, free_then, words_loose, Each, all_fit, no_tail, mark_fits, one, one_word, blank, mark_blank, joined_fit, each_passes}

abbrev pub are_identifiers : List Ident → Bool
are_identifiers is = list_all (λ i. is_identifier i.0) is

abbrev pub has_part : List Ident → Bool
has_part [] = false
has_part (i ∷ is) = true

pub name_fits : (i : Ident) → is_identifier i.0 ≡ true → Fits no_word (name i ∷ [])
name_fits i e = one_word (kind.Name i.0) e refl refl

pub dotted_fits : (is : List Ident) → are_identifiers is ≡ true → Fits no_word (dotted is)
dotted_fits [] h = none
dotted_fits (i ∷ is) h =
    let two = and_parts (is_identifier i.0) (are_identifiers is) h in
    and_then (name_fits i two.0) (λ rest e. begins is rest e) (all_fit no_word (λ j. sign mark.Dot ∷ name j ∷ []) (λ j rest. refl) is (λ k j e. dot_fits j (each_passes (λ j. is_identifier j.0) is two.1 k j e))) where
      begins : (is : List Ident) (rest : List Piece) → no_word rest ≡ true → no_word (flat_map (λ j. sign mark.Dot ∷ name j ∷ []) is ++ rest) ≡ true
      begins [] rest e = e
      begins (j ∷ is) rest e = refl

      dot_fits : (j : Ident) → is_identifier j.0 ≡ true → Fits no_word (sign mark.Dot ∷ name j ∷ [])
      dot_fits j e = record { at = λ rest u r. (name_fits j e).at rest u r }

-- Types.

pub shaped_fits : (s : Shape) (is : List Ident) → has_part is ≡ true → are_identifiers is ≡ true → Fits loose (shaped s (dotted is))
unfolding reserved_of
shaped_fits s [] p h = cc
shaped_fits shape.One (i ∷ is) p h = words_loose (dotted_fits (i ∷ is) h)
shaped_fits shape.Array (i ∷ is) p h = and_then (words_loose (dotted_fits (i ∷ is) h)) (λ rest e. refl) (record { at = λ rest u r. (one (kind.Mark mark.CloseBracket) refl).at rest u r })
shaped_fits shape.List (i ∷ is) p h = record { at = λ rest u r. (and_then (dotted_fits (i ∷ is) h) (λ more e. refl) (one (kind.Mark mark.Greater) refl)).at rest u r }

pub nullable_fits : (n h : Bool) → Fits any (nullable n h)
unfolding reserved_of
nullable_fits false h = none
nullable_fits true false = record { at = λ rest u r. blank.at rest u r }
nullable_fits true true = record { at = λ rest u r. blank.at rest u r }

pub flag_fits : (text : List ℕ) → is_identifier text ≡ true → (b : Bool) → Fits any (flag text b)
flag_fits text e false = none
flag_fits text e true = record { at = λ rest u r. (mark_blank (kind.Name text) e).at rest u r }

pub marks_fit : (t : AidlType) → Fits any (marks t)
unfolding reserved_of
marks_fit t = free_then (nullable_fits t.nullable t.heap) (flag_fits (codes "utf8InCpp") refl t.utf8)

-- Numbers.

pub small_decimal : (n : ℕ) → n ≤ 9223372036854775807 → nat_le n 9223372036854775807 ≡ true
small_decimal n le = grind (arith, nat_tests)

abbrev pub Small : ℤ → Type 0
Small (pos n) = n ≤ 9223372036854775807
Small (negsuc n) = suc n ≤ 9223372036854775807

decimal_fits : (long : Bool) (n : ℤ) → Small n → Fits loose (decimal_of long n)
decimal_fits long (pos n) s = words_loose (one_word (kind.Number n false long) (small_decimal n s) refl refl)
decimal_fits long (negsuc n) s = record { at = λ rest u r. (words_loose (one_word (kind.Number (suc n) false long) (small_decimal (suc n) s) refl refl)).at rest u r }

pub at_most : (a b : ℕ) → nat_le a b ≡ true → a ≤ b
at_most a b e = grind (arith, nat_tests)

pub byte_small : (n : ℤ) → is_in range.Byte n ≡ true → Small n
byte_small (pos n) e = let h = at_most n 127 (and_parts (int_le (negsuc 127) (pos n)) (int_le (pos n) (pos 127)) e).1 in omega arith
byte_small (negsuc n) e = let h = at_most n 127 (and_parts (int_le (negsuc 127) (negsuc n)) (int_le (negsuc n) (pos 127)) e).0 in omega arith

pub int_small : (n : ℤ) → is_in range.Int n ≡ true → Small n
int_small (pos n) e = let h = at_most n 2147483647 (and_parts (int_le (negsuc 2147483647) (pos n)) (int_le (pos n) (pos 2147483647)) e).1 in omega arith
int_small (negsuc n) e = let h = at_most n 2147483647 (and_parts (int_le (negsuc 2147483647) (negsuc n)) (int_le (negsuc n) (pos 2147483647)) e).0 in omega arith

-- a number that is not equal to another as a signed one
differs : (f : ℕ → ℤ) (n m : ℕ) → int_eq (f m) (f m) ≡ true → int_eq (f n) (f m) ≡ false → (n == m) ≡ false
differs f n m same e = go (n == m) refl where
  go : (b : Bool) → (n == m) ≡ b → (n == m) ≡ false
  go true h = let k : n ≡ m = is_equal n m h in let x : int_eq (f n) (f m) ≡ true = ap (λ (j : ℕ). int_eq (f j) (f m)) k ∙ same in cc
  go false h = h

below : (n m : ℕ) → n ≤ m → (n == m) ≡ false → suc n ≤ m
below n m le e = grind (arith, nat_tests)

pub long_small : (n : ℤ) → is_in range.Long n ≡ true → int_eq n (negsuc 9223372036854775807) ≡ false → Small n
long_small (pos n) e f = at_most n 9223372036854775807 (and_parts (int_le (negsuc 9223372036854775807) (pos n)) (int_le (pos n) (pos 9223372036854775807)) e).1
long_small (negsuc n) e f =
    let h = at_most n 9223372036854775807 (and_parts (int_le (negsuc 9223372036854775807) (negsuc n)) (int_le (negsuc n) (pos 9223372036854775807)) e).0 in
    below n 9223372036854775807 h (differs negsuc n 9223372036854775807 refl f)

long_fits : (n : ℤ) → is_in range.Long n ≡ true → Fits loose (long_of n)
long_fits n e = go (int_eq n (negsuc 9223372036854775807)) refl where
  go : (b : Bool) → int_eq n (negsuc 9223372036854775807) ≡ b → Fits loose (cond b (token (kind.Number 9223372036854775808 true false) ∷ []) (decimal_of true n))
  go true h = words_loose (one_word (kind.Number 9223372036854775808 true false) refl refl refl)
  go false h = decimal_fits true n (long_small n e h)

pub backing_fits : (b : Backing) (n : ℤ) (es : List Enumerator) → in_range (form_of_kind (Enum b es)) n ≡ true → Fits loose (of_backing b n)
backing_fits backing.Byte n es e = decimal_fits false n (byte_small n e)
backing_fits backing.Int n es e = decimal_fits false n (int_small n e)
backing_fits backing.Long n es e = long_fits n e

-- Characters and texts.

pub not_false : (b : Bool) → not b ≡ true → b ≡ false
not_false true e = cc
not_false false e = refl

char_inside : (n : ℤ) → is_char_literal n ≡ true → is_inside 39 (character_of n) ≡ true
char_inside (negsuc n) e = cc
char_inside (pos n) e =
    let a = and_parts (is_between (pos 32) (pos 126) (pos n)) (not (int_eq (pos n) (pos 39)) && not (int_eq (pos n) (pos 92))) e in
    let r = and_parts (int_le (pos 32) (pos n)) (int_le (pos n) (pos 126)) a.0 in
    let d = and_parts (not (int_eq (pos n) (pos 39))) (not (int_eq (pos n) (pos 92))) a.1 in
    let no_quote = differs pos n 39 refl (not_false (int_eq (pos n) (pos 39)) d.0) in
    let no_slash = differs pos n 92 refl (not_false (int_eq (pos n) (pos 92)) d.1) in
    let small = at_most n 126 r.1 in
    ap (λ t. is_inside 39 (if t then n else 63)) (below_128 n small)
    ∙ and_from (nat_le 32 n && nat_le n 126 && not (n == 39)) (not (n == 92)) (and_from (nat_le 32 n && nat_le n 126) (not (n == 39)) (and_from (nat_le 32 n) (nat_le n 126) r.0 r.1) (ap not no_quote)) (ap not no_slash) where
      below_128 : (n : ℕ) → n ≤ 126 → nat_lt n 128 ≡ true
      below_128 n le = grind (arith, nat_tests)

regroup : (a b c d : Bool) → (a && (b && (c && d))) ≡ true → (a && b && c && d) ≡ true
regroup true true true d e = e
regroup true true false d e = cc
regroup true false c d e = cc
regroup false b c d e = cc

text_inside : (x : List ℕ) → list_all is_string_character x ≡ true → list_all (is_inside 34) x ≡ true
text_inside [] e = refl
text_inside (c ∷ x) e =
    let h = and_parts (is_string_character c) (list_all is_string_character x) e in
    and_from (is_inside 34 c) (list_all (is_inside 34) x) (regroup (nat_le 32 c) (nat_le c 126) (not (c == 34)) (not (c == 92)) h.0) (text_inside x h.1)

-- Names of a valid schema.

pub named_each : {X : Type 0} (f : X → List ℕ) (xs : List X) → list_all is_identifier (map f xs) ≡ true → Each (λ x. is_identifier (f x) ≡ true) xs
named_each f [] h k x e = cc
named_each f (y ∷ ys) h zero x e = let s : y ≡ x = cc in ap (λ z. is_identifier (f z)) (sym s) ∙ (and_parts (is_identifier (f y)) (list_all is_identifier (map f ys)) h).0
named_each f (y ∷ ys) h (suc k) x e = named_each f ys (and_parts (is_identifier (f y)) (list_all is_identifier (map f ys)) h).1 k x e

parts_named : (is : List Ident) → list_all is_identifier (map (λ i. i.0) is) ≡ true → are_identifiers is ≡ true
parts_named [] h = refl
parts_named (i ∷ is) h =
    let two = and_parts (is_identifier i.0) (list_all is_identifier (map (λ i. i.0) is)) h in
    and_from (is_identifier i.0) (are_identifiers is) two.0 (parts_named is two.1)

pub name_parts : (is : List Ident) → is_name is ≡ true → (has_part is ≡ true) × (are_identifiers is ≡ true)
name_parts [] h = cc
name_parts (i ∷ is) h = (refl, parts_named (i ∷ is) (and_parts (schema.are_identifiers (map (λ i. i.0) (i ∷ is))) (not (is_type_word (last_part (i ∷ is)))) h).0)

module _ (S : List Decl) (H : AllHold S) where
  named_base : (n : ℕ) (o : Option Decl) → slice_get S n ≡ o → is_meant (form_of_decl o) ≡ true → (has_part (declared_name o) ≡ true) × (are_identifiers (declared_name o) ≡ true)
  named_base n None e m = cc
  named_base n (Some d) e m = name_parts d.name.0 (H n d e).name

  pub base_named : (b : Base) → is_meant (form_of S b) ≡ true → (has_part (base_name S b) ≡ true) × (are_identifiers (base_name S b) ≡ true)
  unfolding reserved_of
  base_named base.Boolean m = (refl, refl)
  base_named base.Byte m = (refl, refl)
  base_named base.Char m = (refl, refl)
  base_named base.Int m = (refl, refl)
  base_named base.Long m = (refl, refl)
  base_named base.Text m = (refl, refl)
  base_named (base.Named n) m = named_base n (slice_get S n) refl m

  pub type_base : (t : AidlType) → is_type S t ≡ true → is_meant (form_of S t.base) ≡ true
  type_base t e = (and_parts (is_meant (form_of S t.base)) (is_well_shaped t.shape t.nullable (form_of S t.base)) e).0

  pub type_fits : (t : AidlType) → is_type S t ≡ true → Fits loose (plain_type S t)
  type_fits t e = let n = base_named t.base (type_base t e) in shaped_fits t.shape (base_name S t.base) n.0 n.1

  -- Values.

  after_fits : (o : Option Enumerator) → ((e : Enumerator) → o ≡ Some e → is_identifier e.name.0 ≡ true) → Fits no_word (after_dot o)
  after_fits None h = none
  after_fits (Some e) h = record { at = λ rest u r. (name_fits e.name (h e refl)).at rest u r }

  begins_after : (o : Option Enumerator) (rest : List Piece) → no_word rest ≡ true → no_word (after_dot o ++ rest) ≡ true
  begins_after None rest e = e
  begins_after (Some e) rest u = refl

  named_fits : (k : ℕ) (n : ℤ) (o : Option Decl) → slice_get S k ≡ o → Fits no_word (named_value o n)
  named_fits k n None e = none
  named_fits k n (Some d) e =
      let es = enumerators_of d.kind in let test = λ (x : Enumerator). int_eq x.value n in
      and_then (dotted_fits d.name.0 (name_parts d.name.0 (H k d e).name).1) (begins_after (find test es))
      (after_fits (find test es) (λ x f. named_each (λ x. x.name.0) es (H k d e).enumerator_identifiers (position_or_len test es) x (sym (find_at test es) ∙ f)))

  number_fits : (b : Base) (n : ℤ) → is_number_of S b n ≡ true → Fits loose (number S b n)
  number_fits base.Byte n e = decimal_fits false n (byte_small n e)
  number_fits base.Char n e = one (kind.Character (character_of n)) (char_inside n e)
  number_fits base.Int n e = decimal_fits false n (int_small n e)
  number_fits base.Long n e = long_fits n e
  number_fits (base.Named k) n e = words_loose (named_fits k n (slice_get S k) refl)
  number_fits base.Boolean n e = cc
  number_fits base.Text n e = cc

  single_fits : (b : Base) (c : Const-F Const) → is_single S b c ≡ true → Fits loose (single_value S b c)
  single_fits b (Const-F.Truth true) e = one (kind.Word word.True) refl
  single_fits b (Const-F.Truth false) e = one (kind.Word word.False) refl
  single_fits b (Const-F.Number n) e = number_fits b n e
  single_fits b (Const-F.Text x) e = one (kind.Str x) (text_inside x (and_parts (is_string b) (list_all is_string_character x) e).1)
  single_fits b (Const-F.Members cs) e = cc

  pub value_fits : (b : Base) (c : Const) → is_constant_of S b c ≡ true → Fits loose (value S b c)
  value_fits b c e = single_fits b (out-Const c) e

  -- what begins a value
  decimal_head : (long : Bool) (n : ℤ) (rest : List Piece) → no_tail (decimal_of long n ++ rest) ≡ true
  decimal_head long (pos n) rest = refl
  decimal_head long (negsuc n) rest = refl

  long_head : (n : ℤ) (rest : List Piece) → no_tail (long_of n ++ rest) ≡ true
  long_head n rest = go (int_eq n (negsuc 9223372036854775807)) where
    go : (b : Bool) → no_tail (cond b (token (kind.Number 9223372036854775808 true false) ∷ []) (decimal_of true n) ++ rest) ≡ true
    go true = refl
    go false = decimal_head true n rest

  dotted_head : (is : List Ident) (more : List Piece) → has_part is ≡ true → no_tail (dotted is ++ more) ≡ true
  dotted_head [] more h = cc
  dotted_head (i ∷ is) more h = refl

  named_head : (k : ℕ) (n : ℤ) (o : Option Decl) (rest : List Piece) → slice_get S k ≡ o → is_enumerator_of o n ≡ true → no_tail (named_value o n ++ rest) ≡ true
  named_head k n None rest e h = cc
  named_head k n (Some d) rest e h =
      let last = after_dot (find (λ x. int_eq x.value n) (enumerators_of d.kind)) in
      ap no_tail (append_assoc (dotted d.name.0) last rest) ∙ dotted_head d.name.0 (last ++ rest) (name_parts d.name.0 (H k d e).name).0

  number_head : (b : Base) (n : ℤ) (rest : List Piece) → is_number_of S b n ≡ true → no_tail (number S b n ++ rest) ≡ true
  number_head base.Byte n rest e = decimal_head false n rest
  number_head base.Char n rest e = refl
  number_head base.Int n rest e = decimal_head false n rest
  number_head base.Long n rest e = long_head n rest
  number_head (base.Named k) n rest e = named_head k n (slice_get S k) rest refl e
  number_head base.Boolean n rest e = cc
  number_head base.Text n rest e = cc

  single_head : (b : Base) (c : Const-F Const) (rest : List Piece) → is_single S b c ≡ true → no_tail (single_value S b c ++ rest) ≡ true
  single_head b (Const-F.Truth x) rest e = refl
  single_head b (Const-F.Number n) rest e = number_head b n rest e
  single_head b (Const-F.Text x) rest e = refl
  single_head b (Const-F.Members cs) rest e = cc

  joined_head : (b : Base) (cs : List Const) (rest : List Piece) → list_all (λ m. is_constant_of S b m) cs ≡ true → no_tail ((joined (λ m. value S b m) cs ++ (sign mark.CloseBrace ∷ [])) ++ rest) ≡ true
  joined_head b [] rest e = refl
  joined_head b (c ∷ cs) rest e =
      let more = flat_map (λ m. sign mark.Comma ∷ space ∷ value S b m) cs in let close = sign mark.CloseBrace ∷ [] in
      ap no_tail (append_assoc (value S b c ++ more) close rest ∙ append_assoc (value S b c) more (close ++ rest))
      ∙ single_head b (out-Const c) (more ++ (close ++ rest)) (and_parts (is_constant_of S b c) (list_all (λ m. is_constant_of S b m) cs) e).0

  braced_fits : (b : Base) (c : Const-F Const) → are_members (λ m. is_constant_of S b m) c ≡ true → Fits loose (braced S b c)
  braced_fits b (Const-F.Members cs) e =
      and_then {ps = sign mark.OpenBrace ∷ []} (mark_fits mark.OpenBrace) (λ rest u. joined_head b cs rest e)
      (and_then (joined_fit (λ m. value S b m) cs (λ k m f. value_fits b m (each_passes (λ m. is_constant_of S b m) cs e k m f))) (λ rest u. refl) (one (kind.Mark mark.CloseBrace) refl))
  braced_fits b (Const-F.Truth x) e = cc
  braced_fits b (Const-F.Number n) e = cc
  braced_fits b (Const-F.Text x) e = cc

  initial_value_fits : (t : AidlType) (c : Const) → is_initializer_of S t c ≡ true → Fits loose (initial_value S t c)
  initial_value_fits t c e = go (is_one t.shape) e where
    go : (b : Bool) → cond b (is_constant_of S t.base c) (are_members (λ m. is_constant_of S t.base m) (out-Const c)) ≡ true → Fits loose (cond b (value S t.base c) (braced S t.base (out-Const c)))
    go true e = value_fits t.base c e
    go false e = braced_fits t.base (out-Const c) e

  pub initial_fits : (t : AidlType) (o : Option Const) → has_initializer_of S t o ≡ true → Fits loose (initial S t o)
  initial_fits t None e = none
  initial_fits t (Some c) e = and_then {ps = space ∷ sign mark.Equal ∷ space ∷ []} (record { at = λ rest u r. (mark_blank (kind.Mark mark.Equal) refl).at rest u r }) (λ rest u. refl) (initial_value_fits t c e)
