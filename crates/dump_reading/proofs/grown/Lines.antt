-- Lines of members have trees. Annotations stand before `oneway`, so a oneway method must be void for its text to be one.
use Rattle.std.proofs.Common.{◌≡◌, ℕ, Bool, true, false, not, ◌||◌, List, [], ◌∷◌, ◌++◌, map, Option, Some, None, refl, ap, ◌∙◌, append_assoc}
use Rattle.std.specs.List.{list_all}
use Rattle.std.proofs.lemmas.Bool.{and_parts}
use Rattle.aidl_base.specs.declared.name.Ident.{Ident}
use Rattle.aidl_base.specs.declared.reserved.Reserved.TheVariants as word
use Rattle.aidl_syntax.specs.declared.token.Token.{Token}
use Rattle.aidl_syntax.specs.declared.token.Symbol.TheVariants as mark
use Rattle.aidl_syntax.specs.declared.token.TokenKind.TheVariants as kind
use Rattle.aidl_syntax.specs.declared.tree.NameTree.{NameTree}
use Rattle.aidl_syntax.specs.declared.tree.TypeTree.{TypeTree}
use Rattle.aidl_syntax.specs.declared.tree.WayTree.{WayTree}
use Rattle.aidl_syntax.specs.declared.tree.WayTree.TheVariants as ways
use Rattle.aidl_syntax.specs.Parts.{Then, Maybe, Worded, Behind, Before, MaybeListed, first}
use Rattle.aidl_syntax.specs.Trees as tree
use Rattle.aidl_syntax.specs.Trees.{Expr, Init, Annot, map_option}
use Rattle.aidl_syntax.specs.Productions.{IsIdent, IsType, IsExpr, IsInit, AreAnnots, IsField, IsConstant, IsEnumerator, IsWay, IsArg, IsReturned, IsOneway, IsNumberToken, IsMethod}
use Rattle.aidl_schema.specs.declared.schema.Decl.{Decl}
use Rattle.aidl_schema.specs.declared.schema.Shape.{Shape}
use Rattle.aidl_schema.specs.declared.schema.Shape.TheVariants as shape
use Rattle.aidl_schema.specs.declared.schema.AidlType.{AidlType}
use Rattle.aidl_schema.specs.declared.schema.Field.{Field}
use Rattle.aidl_schema.specs.declared.schema.Constant.{Constant}
use Rattle.aidl_schema.specs.declared.schema.Enumerator.{Enumerator}
use Rattle.aidl_schema.specs.declared.schema.Backing.{Backing}
use Rattle.aidl_schema.specs.declared.schema.Arg.{Arg}
use Rattle.aidl_schema.specs.declared.schema.Method.{Method}
use Rattle.aidl_schema.specs.declared.schema.Direction.{Direction}
use Rattle.aidl_schema.specs.declared.schema.Direction.TheVariants as direction
use Rattle.aidl_schema.specs.Holds.{AllHold}
use Rattle.aidl_schema.specs.Same.{is_named}
use Rattle.aidl_schema.specs.Methods.{is_field_type, is_whole_type, is_passed_type, has_method_types, is_result_type, may_be_on_heap}
use Rattle.aidl_schema.specs.Types.{is_type}
use Rattle.aidl_schema.specs.Constants.{is_string, is_constant_of}
use Rattle.aidl_schema.specs.Valid.{has_initializer_of, has_value}
use Rattle.api_dump.specs.Pieces.{Piece, sign, reserved, name, dotted, joined}
use Rattle.api_dump.specs.Pieces.Piece.{space, newline, token}
use Rattle.api_dump.specs.Types.{base_name, shaped, marks, plain_type}
use Rattle.api_dump.specs.Values.{of_backing}
use Rattle.api_dump.specs.Lines.{field, constant, way, argument, oneway, returned, arguments, identity, method}
use Rattle.dump_reading.specs.Bare.{bare_name, bare_type, bare_expr, bare_init, bare_annots, bare_token, bare_field, bare_constant, bare_enumerator, bare_arg, bare_method}
use Rattle.dump_reading.specs.DumpTrees.{name_tree, type_tree, value_tree, backing_tree, field_tree, constant_tree, enumerator_tree, way_tree, arg_tree, returned_annots, returned_tree, method_tree}
use Rattle.dump_reading.proofs.spelled.Plain.{kinds_of}
use Rattle.dump_reading.proofs.spelled.Fits.{Each, each_passes}
use Rattle.dump_reading.proofs.spelled.Values.{has_part, base_named, type_base}
use Rattle.dump_reading.proofs.spelled.Lines.{plain_base, passed}
use Rattle.dump_reading.proofs.grown.Made.{Made, both, same, one_token, no_token, then_made, made_same, single_made, some_made, behind_made, before_made, no_more_made, listed_made}
use Rattle.dump_reading.proofs.grown.Parts.{name_made, type_made}
use Rattle.dump_reading.proofs.grown.Values.{value_made, initial_made, backing_made, marks_made, some_listed}

plain_type_made : (s : Shape) (is : List Ident) → has_part is ≡ true → Made IsType bare_type (shaped s (dotted is)) (type_tree s is)
plain_type_made s [] e = cc
plain_type_made s (i ∷ is) e = type_made s i is

field_from_parts : {ps : List Piece} {x : List Annot × (TypeTree × (NameTree × Option Init))}
    → Made (Then AreAnnots (Then IsType (Then IsIdent (Before (Maybe (Behind mark.Equal IsInit)) mark.Semicolon)))) (both bare_annots (both bare_type (both bare_name (map_option bare_init)))) ps x
    → Made IsField bare_field ps (record { offset = 0; annots = x.0; ty = x.1.0; name = x.1.1.0; initial = x.1.1.1 })
field_from_parts m = record {
  at = λ ts h. let a = m.at ts h in (
    record { offset = first ts; annots = a.0.0; ty = a.0.1.0; name = a.0.1.1.0; initial = a.0.1.1.1 },
    (a.1, refl),
    ap (λ p. record { offset = 0; annots = p.0; ty = p.1.0; name = p.1.1.0; initial = p.1.1.1 }) a.2,
  );
}

constant_from_parts : {ps : List Piece} {x : List Annot × (Unit {0} × (TypeTree × (NameTree × Expr)))}
    → Made (Then AreAnnots (Then (Worded word.Const) (Then IsType (Then IsIdent (Behind mark.Equal (Before IsExpr mark.Semicolon)))))) (both bare_annots (both same (both bare_type (both bare_name bare_expr)))) ps x
    → Made IsConstant bare_constant ps (record { offset = 0; annots = x.0; ty = x.1.1.0; name = x.1.1.1.0; value = x.1.1.1.1 })
constant_from_parts m = record {
  at = λ ts h. let a = m.at ts h in (
    record { offset = first ts; annots = a.0.0; ty = a.0.1.1.0; name = a.0.1.1.1.0; value = a.0.1.1.1.1 },
    (a.1, refl),
    ap (λ p. record { offset = 0; annots = p.0; ty = p.1.1.0; name = p.1.1.1.0; value = p.1.1.1.1 }) a.2,
  );
}

enumerator_from_parts : {ps : List Piece} {x : NameTree × Option Expr} → Made (Then IsIdent (Maybe (Behind mark.Equal IsExpr))) (both bare_name (map_option bare_expr)) ps x
    → Made IsEnumerator bare_enumerator ps (record { offset = 0; name = x.0; value = x.1 })
enumerator_from_parts m = record {
  at = λ ts h. let a = m.at ts h in
      (record { offset = first ts; name = a.0.0; value = a.0.1 }, (a.1, refl), ap (λ p. record { offset = 0; name = p.0; value = p.1 }) a.2);
}

-- an enumerator without its comma
abbrev pub entry : Backing → Enumerator → List Piece
entry b e = (name e.name ∷ []) ++ ((space ∷ sign mark.Equal ∷ space ∷ []) ++ of_backing b e.value)

pub entry_made : (b : Backing) (e : Enumerator) → Made IsEnumerator bare_enumerator (entry b e) (enumerator_tree b e)
entry_made b e = enumerator_from_parts {x = (name_tree e.name, Some (backing_tree b e.value))} (then_made (name_made e.name (name e.name ∷ []) refl)
    (some_made (behind_made mark.Equal (space ∷ sign mark.Equal ∷ space ∷ []) refl (backing_made b e.value))))

way_made : (d : Direction) → Made IsWay same (reserved (way d) ∷ space ∷ []) (way_tree d)
way_made direction.In = record { at = λ ts h. (ways.In, one_token (kind.Word word.In) ts h, refl) }
way_made direction.Out = record { at = λ ts h. (ways.Out, one_token (kind.Word word.Out) ts h, refl) }
way_made direction.InOut = record { at = λ ts h. (ways.InOut, one_token (kind.Word word.InOut) ts h, refl) }

arg_from_parts : {ps : List Piece} {w : Option WayTree} {xs : List Annot} {t : TypeTree} {n : NameTree}
    → Made (Then (Maybe IsWay) (Then AreAnnots (Then IsType IsIdent))) (both (map_option same) (both bare_annots (both bare_type bare_name))) ps (w, (xs, (t, n)))
    → Made IsArg bare_arg ps (record { offset = 0; annots = xs; way = w; ty = t; name = n })
arg_from_parts m = record {
  at = λ ts h. let a = m.at ts h in (
    record { offset = first ts; annots = a.0.1.0; way = a.0.0; ty = a.0.1.1.0; name = a.0.1.1.1 },
    ([], a.0.1.0, refl, ([], ts, refl, refl, a.1), refl),
    ap (λ w. record { offset = 0; annots = bare_annots a.0.1.0; way = w; ty = bare_type a.0.1.1.0; name = bare_name a.0.1.1.1 }) (same_option a.0.0)
        ∙ ap (λ p. record { offset = 0; annots = p.1.0; way = p.0; ty = p.1.1.0; name = p.1.1.1 }) a.2,
  );
} where
  same_option : (w : Option WayTree) → w ≡ map_option same w
  same_option None = refl
  same_option (Some w) = refl

id_made : (n : ℕ) → Made IsNumberToken bare_token (token (kind.Number n false false) ∷ []) (record { kind = kind.Number n false false; offset = 0 })
id_made n = record { at = λ ts h. let t = one_token (kind.Number n false false) ts h in (t.0, (t.1, n, false, false, t.2), ap (λ k. record { kind = k; offset = 0 }) t.2) }

method_from_parts : {ps : List Piece} {x : List Annot × (Bool × (Option TypeTree × (NameTree × (List tree.Arg × Option Token))))}
    → Made (Then AreAnnots (Then IsOneway (Then IsReturned (Then IsIdent (Then (Behind mark.OpenParen (Before (MaybeListed IsArg) mark.CloseParen)) (Before (Maybe (Behind mark.Equal IsNumberToken)) mark.Semicolon))))))
    (both bare_annots (both same (both (map_option bare_type) (both bare_name (both (map bare_arg) (map_option bare_token)))))) ps x
    → Made IsMethod bare_method ps (record { offset = 0; annots = x.0; oneway = x.1.0; returned = x.1.1.0; name = x.1.1.1.0; args = x.1.1.1.1.0; id = x.1.1.1.1.1 })
method_from_parts m = record {
  at = λ ts h. let a = m.at ts h in (
    record { offset = first ts; annots = a.0.0; oneway = a.0.1.0; returned = a.0.1.1.0; name = a.0.1.1.1.0; args = a.0.1.1.1.1.0; id = a.0.1.1.1.1.1 },
    (a.1, refl),
    ap (λ p. record { offset = 0; annots = p.0; oneway = p.1.0; returned = p.1.1.0; name = p.1.1.1.0; args = p.1.1.1.1.0; id = p.1.1.1.1.1 }) a.2,
  );
}

pub not_oneway : Made IsOneway same [] false
not_oneway = record { at = λ ts h. (false, no_token ts h, refl) }

is_oneway : Made IsOneway same (reserved word.Oneway ∷ space ∷ []) true
is_oneway = record { at = λ ts h. (true, one_token (kind.Word word.Oneway) ts h, refl) }

void_made : Made IsReturned (map_option bare_type) (reserved word.Void ∷ []) None
void_made = record { at = λ ts h. (None, one_token (kind.Word word.Void) ts h, refl) }

type_returned : {ps : List Piece} {t : TypeTree} → Made IsType bare_type ps t → Made IsReturned (map_option bare_type) ps (Some t)
type_returned m = record { at = λ ts h. let a = m.at ts h in (Some a.0, a.1, ap Some a.2) }

module _ (S : List Decl) (H : AllHold S) where
  of_type : (t : AidlType) → is_type S t ≡ true → Made IsType bare_type (plain_type S t) (type_tree t.shape (base_name S t.base))
  of_type t e = plain_type_made t.shape (base_name S t.base) (base_named S H t.base (type_base S H t e)).0

  pub field_made : (f : Field) → is_field_type S f ≡ true → has_initializer_of S f.ty f.initial ≡ true → Made IsField bare_field (field S f) (field_tree S f)
  field_made f t v =
      let whole = (and_parts (is_whole_type S f.ty) (not f.ty.heap || may_be_on_heap S f.ty) t).0 in
      let ty = (and_parts (is_type S f.ty) (not f.ty.utf8 || is_string f.ty.base) whole).0 in
      field_from_parts (then_made (marks_made f.ty) (then_made (of_type f.ty ty) (then_made (name_made f.name (space ∷ name f.name ∷ []) refl)
      (before_made mark.Semicolon (sign mark.Semicolon ∷ newline ∷ []) refl (initial_made S H f.ty f.initial v)))))

  pub constant_made : (c : Constant) → has_value S c ≡ true → Made IsConstant bare_constant (constant S c) (constant_tree S c)
  constant_made c v =
      let two = and_parts (not (is_named c.ty)) (is_constant_of S c.ty c.value) v in
      constant_from_parts {x = ([], (tt, (type_tree shape.One (base_name S c.ty), (name_tree c.name, value_tree S c.ty c.value))))}
      (then_made no_more_made (then_made (single_made (kind.Word word.Const) (reserved word.Const ∷ space ∷ []) refl) (then_made (plain_type_made shape.One (base_name S c.ty) (base_named S H c.ty (plain_base S H c.ty two.0)).0)
      (then_made (name_made c.name (space ∷ name c.name ∷ []) refl) (behind_made mark.Equal (space ∷ sign mark.Equal ∷ space ∷ []) refl (before_made mark.Semicolon (sign mark.Semicolon ∷ newline ∷ []) refl (value_made S H c.ty c.value two.1)))))))

  arg_made : (a : Arg) → is_passed_type S a.ty ≡ true → Made IsArg bare_arg (argument S a) (arg_tree S a)
  arg_made a t = arg_from_parts (then_made (some_made (way_made a.way)) (then_made (marks_made a.ty) (then_made (of_type a.ty (passed S H a.ty t)) (name_made a.name (space ∷ name a.name ∷ []) refl))))

  args_made : (args : List Arg) → Each (λ a. is_passed_type S a.ty ≡ true) args → Made (MaybeListed IsArg) (map bare_arg) (joined (λ a. argument S a) args) (map (λ a. arg_tree S a) args)
  args_made [] each = record { at = λ ts h. ([], no_token ts h, refl) }
  args_made (a ∷ args) each = some_listed (listed_made (λ a. argument S a) (λ a. arg_tree S a) a args (λ k y e. arg_made y (each k y e)))

  abbrev Rest : Method → List Piece → Type 0
  Rest m ps = Made (Then IsIdent (Then (Behind mark.OpenParen (Before (MaybeListed IsArg) mark.CloseParen)) (Before (Maybe (Behind mark.Equal IsNumberToken)) mark.Semicolon)))
      (both bare_name (both (map bare_arg) (map_option bare_token))) ps
      (name_tree m.name, (map (λ a. arg_tree S a) m.args, Some (record { kind = kind.Number m.id false false; offset = 0 })))

  rest_made : (m : Method) → Each (λ a. is_passed_type S a.ty ≡ true) m.args → Rest m ((space ∷ name m.name ∷ []) ++ (arguments S m.args ++ identity m.id))
  rest_made m e = then_made (name_made m.name (space ∷ name m.name ∷ []) refl)
      (then_made (behind_made mark.OpenParen (sign mark.OpenParen ∷ []) refl (before_made mark.CloseParen (sign mark.CloseParen ∷ []) refl (args_made m.args e)))
      (before_made mark.Semicolon (sign mark.Semicolon ∷ newline ∷ []) refl (some_made (behind_made mark.Equal (space ∷ sign mark.Equal ∷ space ∷ []) refl (id_made m.id)))))

  by_parts : (m : Method) (rest : List Piece) → Rest m rest → (way : Bool) (o : Option AidlType) → (way ≡ true → o ≡ None) → is_result_type S o ≡ true
      → Made IsMethod bare_method (oneway way ++ (returned S o ++ rest))
      (record { offset = 0; annots = returned_annots o; oneway = way; returned = returned_tree S o; name = name_tree m.name; args = map (λ a. arg_tree S a) m.args; id = Some (record { kind = kind.Number m.id false false; offset = 0 }) })
  by_parts m rest r true None e t = method_from_parts (then_made no_more_made (then_made is_oneway (then_made void_made r)))
  by_parts m rest r false None e t = method_from_parts (then_made no_more_made (then_made not_oneway (then_made void_made r)))
  by_parts m rest r true (Some ty) e t = let no : Some ty ≡ None = e refl in cc
  by_parts m rest r false (Some ty) e t = made_same (marks ty ++ ([] ++ (plain_type S ty ++ rest))) ((marks ty ++ plain_type S ty) ++ rest) (ap kinds_of (append_assoc (marks ty) (plain_type S ty) rest))
      (method_from_parts (then_made (marks_made ty) (then_made not_oneway (then_made (type_returned (of_type ty (passed S H ty t))) r))))

  pub method_made : (m : Method) → has_method_types S m ≡ true → (m.oneway ≡ true → m.result ≡ None) → Made IsMethod bare_method (method S m) (method_tree S m)
  method_made m t w =
      let two = and_parts (is_result_type S m.result) (list_all (λ a. is_passed_type S a.ty) m.args) t in
      by_parts m _ (rest_made m (each_passes (λ a. is_passed_type S a.ty) m.args two.1)) m.oneway m.result w two.0
