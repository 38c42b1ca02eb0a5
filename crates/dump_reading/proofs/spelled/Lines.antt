-- The lines of members of a valid schema are laid.
use Rattle.std.proofs.Common.{◌≡◌, ℕ, ◌≤◌, Bool, true, false, not, ◌||◌, List, [], ◌∷◌, ◌++◌, Option, Some, None, refl, arith}
use Rattle.std.specs.List.{list_all}
use Rattle.std.proofs.lemmas.Bool.{and_parts}
use Rattle.aidl_base.specs.Identifiers.{is_identifier}
use Rattle.aidl_base.specs.declared.name.Ident.{Ident}
use Rattle.aidl_base.specs.declared.reserved.Reserved.TheVariants as word
use Rattle.aidl_syntax.specs.declared.token.Symbol.TheVariants as mark
use Rattle.aidl_syntax.specs.declared.token.TokenKind.TheVariants as kind
use Rattle.aidl_schema.specs.declared.schema.Decl.{Decl}
use Rattle.aidl_schema.specs.declared.schema.Field.{Field}
use Rattle.aidl_schema.specs.declared.schema.Constant.{Constant}
use Rattle.aidl_schema.specs.declared.schema.Method.{Method}
use Rattle.aidl_schema.specs.declared.schema.Arg.{Arg}
use Rattle.aidl_schema.specs.declared.schema.Enumerator.{Enumerator}
use Rattle.aidl_schema.specs.declared.schema.Kind.TheVariants.{Enum}
use Rattle.aidl_schema.specs.declared.schema.Backing.{Backing}
use Rattle.aidl_schema.specs.declared.schema.Base.{Base}
use Rattle.aidl_schema.specs.declared.schema.Base.TheVariants as base
use Rattle.aidl_schema.specs.declared.schema.AidlType.{AidlType}
use Rattle.aidl_schema.specs.Types.{is_type, form_of, is_meant, form_of_kind}
use Rattle.aidl_schema.specs.Same.{is_named}
use Rattle.aidl_schema.specs.Holds.{AllHold}
use Rattle.aidl_schema.specs.Methods.{is_field_type, is_whole_type, is_passed_type, has_method_types, is_result_type, may_be_on_heap, last_id}
use Rattle.aidl_schema.specs.Constants.{is_string, in_range, is_constant_of}
use Rattle.aidl_schema.specs.Valid.{has_initializer_of, has_value}
use Rattle.aidl_schema.specs.Names.{argument_names}
use Rattle.api_dump.specs.Pieces.{Piece, sign, name, reserved, joined}
use Rattle.api_dump.specs.Pieces.Piece.{space, newline}
use Rattle.api_dump.specs.Types.{base_name}
use Rattle.api_dump.specs.Values.{initial}
use Rattle.api_dump.specs.Lines.{field, constant, way, argument, oneway, returned, arguments, identity, method, enumerator}
use Rattle.dump_reading.proofs.spelled.Fits.{Fits, any, no_tail, loose, none, and_then, free_then, words_loose, one, blank, mark_blank, mark_end, mark_fits, joined_fit, each_passes}
use Rattle.dump_reading.proofs.spelled.Values.{name_fits, dotted_fits, marks_fit, backing_fits, named_each, base_named, type_fits, value_fits, initial_fits, small_decimal}

abbrev end : List Piece
end = sign mark.Semicolon ∷ newline ∷ []

end_fits : Fits any end
end_fits = mark_end (kind.Mark mark.Semicolon) refl

-- ` NAME`
spaced : (i : Ident) → is_identifier i.0 ≡ true → Fits loose (space ∷ name i ∷ [])
spaced i e = free_then {ps = space ∷ []} blank (words_loose (name_fits i e))

equals : Fits any (space ∷ sign mark.Equal ∷ space ∷ [])
equals = free_then {ps = space ∷ []} blank (mark_blank (kind.Mark mark.Equal) refl)

-- NAME = VALUE,
pub enumerator_fits : (b : Backing) (es : List Enumerator) (e : Enumerator) → is_identifier e.name.0 ≡ true → in_range (form_of_kind (Enum b es)) e.value ≡ true → Fits any (enumerator b e)
enumerator_fits b es e i h =
    and_then (words_loose (name_fits e.name i)) (λ rest u. refl) (free_then equals (and_then (backing_fits b e.value es h) (λ rest u. refl) (mark_end (kind.Mark mark.Comma) refl)))

module _ (S : List Decl) (H : AllHold S) where
  initial_begins : (t : AidlType) (f : Field) (rest : List Piece) → loose ((initial S t f.initial ++ end) ++ rest) ≡ true
  initial_begins t f rest = go f.initial where
    go : (o : Option _) → loose ((initial S t o ++ end) ++ rest) ≡ true
    go None = refl
    go (Some c) = refl

  -- TYPE NAME = VALUE;
  pub field_fits : (f : Field) → is_identifier f.name.0 ≡ true → is_field_type S f ≡ true → has_initializer_of S f.ty f.initial ≡ true → Fits any (field S f)
  field_fits f i t v =
      let whole = (and_parts (is_whole_type S f.ty) (not f.ty.heap || may_be_on_heap S f.ty) t).0 in
      let ty = (and_parts (is_type S f.ty) (not f.ty.utf8 || is_string f.ty.base) whole).0 in
      free_then (marks_fit f.ty) (and_then (type_fits S H f.ty ty) (λ rest u. refl) (and_then (spaced f.name i) (λ rest u. initial_begins f.ty f rest)
      (and_then (initial_fits S H f.ty f.initial v) (λ rest u. refl) end_fits)))

  pub plain_base : (b : Base) → not (is_named b) ≡ true → is_meant (form_of S b) ≡ true
  plain_base base.Boolean e = refl
  plain_base base.Byte e = refl
  plain_base base.Char e = refl
  plain_base base.Int e = refl
  plain_base base.Long e = refl
  plain_base base.Text e = refl
  plain_base (base.Named n) e = cc

  -- const TYPE NAME = VALUE;
  pub constant_fits : (c : Constant) → is_identifier c.name.0 ≡ true → has_value S c ≡ true → Fits any (constant S c)
  constant_fits c i v =
      let two = and_parts (not (is_named c.ty)) (is_constant_of S c.ty c.value) v in
      free_then (and_then (one (kind.Word word.Const) refl) (λ rest u. refl) blank)
      (and_then (words_loose (dotted_fits (base_name S c.ty) (base_named S H c.ty (plain_base c.ty two.0)).1)) (λ rest u. refl)
      (and_then (spaced c.name i) (λ rest u. refl) (free_then equals (and_then (value_fits S H c.ty c.value two.1) (λ rest u. refl) end_fits))))

  pub passed : (t : AidlType) → is_passed_type S t ≡ true → is_type S t ≡ true
  passed t e = (and_parts (is_type S t) (not t.utf8 || is_string t.base) (and_parts (is_whole_type S t) (not t.heap) e).0).0

  -- DIRECTION TYPE NAME
  argument_fits : (a : Arg) → is_identifier a.name.0 ≡ true → is_passed_type S a.ty ≡ true → Fits loose (argument S a)
  argument_fits a i t = free_then (and_then (one (kind.Word (way a.way)) refl) (λ rest u. refl) blank)
      (free_then (marks_fit a.ty) (and_then (type_fits S H a.ty (passed a.ty t)) (λ rest u. refl) (spaced a.name i)))

  arguments_begin : (args : List Arg) (rest : List Piece) → no_tail ((joined (λ a. argument S a) args ++ (sign mark.CloseParen ∷ [])) ++ rest) ≡ true
  arguments_begin [] rest = refl
  arguments_begin (a ∷ args) rest = refl

  arguments_fit : (m : Method) → list_all is_identifier (argument_names m) ≡ true → list_all (λ a. is_passed_type S a.ty) m.args ≡ true → Fits loose (arguments S m.args)
  arguments_fit m i t =
      and_then (mark_fits mark.OpenParen) (λ rest u. arguments_begin m.args rest)
      (and_then (joined_fit (λ a. argument S a) m.args (λ k a e. argument_fits a (named_each (λ a. a.name.0) m.args i k a e) (each_passes (λ a. is_passed_type S a.ty) m.args t k a e)))
      (λ rest u. refl) (one (kind.Mark mark.CloseParen) refl))

  oneway_fits : (b : Bool) → Fits any (oneway b)
  oneway_fits false = none
  oneway_fits true = and_then {ps = reserved word.Oneway ∷ []} (one (kind.Word word.Oneway) refl) (λ rest u. refl) blank

  returned_fits : (o : Option AidlType) → is_result_type S o ≡ true → Fits loose (returned S o)
  returned_fits None e = one (kind.Word word.Void) refl
  returned_fits (Some t) e = free_then (marks_fit t) (type_fits S H t (passed t e))

  identity_fits : (id : ℕ) → id ≤ last_id → Fits any (identity id)
  identity_fits id le = free_then equals (and_then (one (kind.Number id false false) (small_decimal id (omega arith))) (λ rest u. refl) end_fits)

  -- oneway TYPE NAME(ARGUMENT, ARGUMENT) = ID;
  pub method_fits : (m : Method) → is_identifier m.name.0 ≡ true → list_all is_identifier (argument_names m) ≡ true → has_method_types S m ≡ true → m.id ≤ last_id → Fits any (method S m)
  method_fits m i args t le =
      let two = and_parts (is_result_type S m.result) (list_all (λ a. is_passed_type S a.ty) m.args) t in
      free_then (oneway_fits m.oneway) (and_then (returned_fits m.result two.0) (λ rest u. refl) (and_then (spaced m.name i) (λ rest u. refl)
      (and_then (arguments_fit m args two.1) (λ rest u. refl) (identity_fits m.id le))))
