-- The files of a valid schema are laid.
use Rattle.std.proofs.Common.{◌≡◌, ℕ, zero, suc, ◌≤◌, true, List, [], ◌∷◌, ◌++◌, length, map, Option, Some, None, codes, slice_get, refl, sym, ap, ◌∙◌, append-nil}
use Rattle.std.specs.List.{flat_map, list_all}
use Rattle.std.proofs.lemmas.Bool.{and_parts, and_from}
use Rattle.aidl_base.specs.Identifiers.{is_identifier}
use Rattle.aidl_base.specs.Reserved.{reserved_of}
use Rattle.aidl_base.specs.declared.name.Ident.{Ident}
use Rattle.aidl_base.specs.declared.reserved.Reserved.TheVariants as word
use Rattle.aidl_syntax.specs.declared.token.Symbol.TheVariants as mark
use Rattle.aidl_syntax.specs.declared.token.TokenKind.TheVariants as kind
use Rattle.aidl_schema.specs.declared.schema.Decl.{Decl}
use Rattle.aidl_schema.specs.declared.schema.Kind.{Kind}
use Rattle.aidl_schema.specs.declared.schema.Kind.TheVariants.{Interface, Parcelable, Union, Enum}
use Rattle.aidl_schema.specs.declared.schema.Backing.{Backing}
use Rattle.aidl_schema.specs.declared.schema.Backing.TheVariants as backing
use Rattle.aidl_schema.specs.declared.schema.Enumerator.{Enumerator}
use Rattle.aidl_schema.specs.declared.schema.Field.{Field}
use Rattle.aidl_schema.specs.Types.{form_of_kind}
use Rattle.aidl_schema.specs.Holds.{AllHold, OfEach}
use Rattle.aidl_schema.specs.Containment.{fields_of}
use Rattle.aidl_schema.specs.Methods.{is_field_type, has_method_types, last_id}
use Rattle.aidl_schema.specs.Constants.{in_range}
use Rattle.aidl_schema.specs.Valid.{has_initializer_of, has_value, is_enum_whole}
use Rattle.aidl_schema.specs.Names.{last_part, without_last, methods_of, field_names, method_names, enumerator_names, argument_names}
use Rattle.api_dump.specs.Pieces.{Piece, ident, reserved}
use Rattle.api_dump.specs.Pieces.Piece.{space}
use Rattle.api_dump.specs.Lines.{field, constant, method, enumerator}
use Rattle.api_dump.specs.Declarations.{indent, backed, backing_mark, annotations, kind_word, heading, closing, member_lines, own_lines, wrapped_at, inside, nested_lines}
use Rattle.api_dump.specs.Dump.{package_line, file_pieces}
use Rattle.dump_reading.proofs.spelled.Plain.{laid}
use Rattle.dump_reading.proofs.spelled.Fits.{Fits, any, none, and_then, free_then, words_loose, lines_fit, one, blank, mark_blank, mark_end, each_passes}
use Rattle.dump_reading.proofs.spelled.Values.{are_identifiers, has_part, name_fits, dotted_fits, flag_fits, named_each, name_parts}
use Rattle.dump_reading.proofs.spelled.Lines.{field_fits, constant_fits, method_fits, enumerator_fits}

indent_fits : (depth : ℕ) → Fits any (indent depth)
indent_fits zero = none
indent_fits (suc depth) = free_then {ps = space ∷ []} blank (free_then {ps = space ∷ []} blank (indent_fits depth))

backed_fits : (b : Backing) → Fits any (backed b)
unfolding reserved_of
backed_fits backing.Byte = record { at = λ rest e r. (mark_blank (kind.Mark mark.CloseParen) refl).at rest e r }
backed_fits backing.Int = record { at = λ rest e r. (mark_blank (kind.Mark mark.CloseParen) refl).at rest e r }
backed_fits backing.Long = record { at = λ rest e r. (mark_blank (kind.Mark mark.CloseParen) refl).at rest e r }

backing_mark_fits : (k : Kind) → Fits any (backing_mark k)
backing_mark_fits (Enum b es) = backed_fits b
backing_mark_fits (Interface ms) = none
backing_mark_fits (Parcelable fs) = none
backing_mark_fits (Union fs) = none

annotations_fit : (d : Decl) → Fits any (annotations d)
unfolding reserved_of
annotations_fit d = free_then (backing_mark_fits d.kind) (free_then (flag_fits (codes "FixedSize") refl d.fixed) (flag_fits (codes "VintfStability") refl d.vintf))

pub last_named : (is : List Ident) → has_part is ≡ true → are_identifiers is ≡ true → is_identifier (last_part is) ≡ true
last_named [] p h = cc
last_named (i ∷ []) p h = (and_parts (is_identifier i.0) true h).0
last_named (i ∷ j ∷ is) p h = last_named (j ∷ is) refl (and_parts (is_identifier i.0) (are_identifiers (j ∷ is)) h).1

front_named : (is : List Ident) → are_identifiers is ≡ true → are_identifiers (without_last is) ≡ true
front_named [] h = refl
front_named (i ∷ []) h = refl
front_named (i ∷ j ∷ is) h =
    let two = and_parts (is_identifier i.0) (are_identifiers (j ∷ is)) h in and_from (is_identifier i.0) (are_identifiers (without_last (j ∷ is))) two.0 (front_named (j ∷ is) two.1)

heading_fits : (d : Decl) → is_identifier (last_part d.name.0) ≡ true → Fits any (heading d)
heading_fits d e =
    free_then (and_then {ps = reserved (kind_word d.kind) ∷ []} (one (kind.Word (kind_word d.kind)) refl) (λ rest u. refl) blank)
    (and_then (words_loose (name_fits (ident (last_part d.name.0)) e)) (λ rest u. refl) (free_then {ps = space ∷ []} blank (mark_end (kind.Mark mark.OpenBrace) refl)))

closing_fits : (depth : ℕ) → Fits any (closing depth)
closing_fits depth = free_then (indent_fits depth) (mark_end (kind.Mark mark.CloseBrace) refl)

package_fits : (is : List Ident) → are_identifiers is ≡ true → Fits any (package_line is)
package_fits [] h = none
package_fits (i ∷ is) h =
    free_then (and_then {ps = reserved word.Package ∷ []} (one (kind.Word word.Package) refl) (λ rest u. refl) blank)
    (and_then (words_loose (dotted_fits (i ∷ is) h)) (λ rest u. refl) (mark_end (kind.Mark mark.Semicolon) refl))

entries_inside : (b : Backing) (es : List Enumerator) → is_enum_whole (Enum b es) ≡ true → list_all (λ x. in_range (form_of_kind (Enum b es)) x.value) es ≡ true
entries_inside b [] e = cc
entries_inside b (x ∷ es) e = e

module _ (S : List Decl) (H : AllHold S) where
  fields_fit : (depth : ℕ) (fs : List Field) → list_all is_identifier (map (λ f. f.name.0) fs) ≡ true → list_all (λ f. is_field_type S f) fs ≡ true → list_all (λ f. has_initializer_of S f.ty f.initial) fs ≡ true
      → Fits any (flat_map (λ f. indent depth ++ field S f) fs)
  fields_fit depth fs i t v = lines_fit (λ f. indent depth ++ field S f) fs (λ k f e.
      free_then (indent_fits depth) (field_fits S H f (named_each (λ f. f.name.0) fs i k f e) (each_passes (λ f. is_field_type S f) fs t k f e) (each_passes (λ f. has_initializer_of S f.ty f.initial) fs v k f e)))

  members_fit : (depth : ℕ) (k : Kind) → list_all is_identifier (field_names k) ≡ true → list_all is_identifier (method_names k) ≡ true → list_all is_identifier (enumerator_names k) ≡ true
      → list_all (λ f. is_field_type S f) (fields_of k) ≡ true → list_all (λ f. has_initializer_of S f.ty f.initial) (fields_of k) ≡ true
      → OfEach (methods_of k) (λ m. list_all is_identifier (argument_names m) ≡ true) → list_all (λ m. has_method_types S m) (methods_of k) ≡ true → OfEach (methods_of k) (λ m. m.id ≤ last_id)
      → is_enum_whole k ≡ true → Fits any (member_lines S depth k)
  members_fit depth (Interface ms) fi mi ei ft fv ai mt ids en = lines_fit (λ m. indent depth ++ method S m) ms (λ j m e.
      free_then (indent_fits depth) (method_fits S H m (named_each (λ m. m.name.0) ms mi j m e) (ai j m e) (each_passes (λ m. has_method_types S m) ms mt j m e) (ids j m e)))
  members_fit depth (Parcelable fs) fi mi ei ft fv ai mt ids en = fields_fit depth fs fi ft fv
  members_fit depth (Union fs) fi mi ei ft fv ai mt ids en = fields_fit depth fs fi ft fv
  members_fit depth (Enum b es) fi mi ei ft fv ai mt ids en = lines_fit (λ x. indent depth ++ enumerator b x) es (λ j x e.
      free_then (indent_fits depth) (enumerator_fits b es x (named_each (λ x. x.name.0) es ei j x e) (each_passes (λ x. in_range (form_of_kind (Enum b es)) x.value) es (entries_inside b es en) j x e)))

  own_fits : (depth n : ℕ) (d : Decl) → slice_get S n ≡ Some d → Fits any (own_lines S depth d)
  own_fits depth n d e =
      let h = H n d e in
      free_then (members_fit depth d.kind h.field_identifiers h.method_identifiers h.enumerator_identifiers h.field_types h.initializers h.argument_identifiers h.method_types h.small_ids h.enum)
      (lines_fit (λ c. indent depth ++ constant S c) d.constants (λ k c f.
      free_then (indent_fits depth) (constant_fits S H c (named_each (λ c. c.name.0) d.constants h.constant_identifiers k c f) (each_passes (λ c. has_value S c) d.constants h.values k c f))))

  wrapped_fits : (depth n : ℕ) (o : Option Decl) (last : List Piece) → slice_get S n ≡ o → Fits any last → Fits any (wrapped_at S depth o last)
  wrapped_fits depth n None last e m = none
  wrapped_fits depth n (Some d) last e m =
      let named = name_parts d.name.0 (H n d e).name in
      free_then (free_then (indent_fits depth) (free_then (annotations_fit d) (free_then (heading_fits d (last_named d.name.0 named.0 named.1)) (own_fits (suc depth) n d e)))) (free_then m (closing_fits depth))

  nested_fits : (levels depth n : ℕ) → Fits any (nested_lines S levels depth n)
  nested_fits zero depth n = none
  nested_fits (suc levels) depth n = lines_fit (λ m. wrapped_at S depth (slice_get S m) (nested_lines S levels (suc depth) m)) (inside S n)
      (λ k m e. wrapped_fits depth m (slice_get S m) (nested_lines S levels (suc depth) m) refl (nested_fits levels (suc depth) m))

  -- the file of a declaration of the schema
  pub file_laid : (n : ℕ) (d : Decl) → slice_get S n ≡ Some d → laid (file_pieces S (n, d)) ≡ true
  file_laid n d e =
      let named = name_parts d.name.0 (H n d e).name in
      let m : Fits any (file_pieces S (n, d)) = free_then (package_fits (without_last d.name.0) (front_named d.name.0 named.1)) (wrapped_fits 0 n (slice_get S n) (nested_lines S (length S) 1 n) refl (nested_fits (length S) 1 n)) in
      sym (ap laid (append-nil (file_pieces S (n, d)))) ∙ m.at [] refl refl
