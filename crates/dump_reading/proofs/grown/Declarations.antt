-- The files of a dump have trees.
use Rattle.std.proofs.Common.{◌≡◌, ℕ, zero, suc, ◌+◌, Bool, true, false, cond, ◌==◌, List, [], ◌∷◌, ◌++◌, length, map, Option, Some, None, codes, slice_get, refl, sym, ap, subst, ◌∙◌, append-nil, append_assoc}
use Rattle.std.specs.List.{flat_map, filter, enumerate_from, list_all}
use Rattle.std.proofs.lemmas.Bool.{and_parts}
use Rattle.aidl_base.specs.declared.name.Ident.{Ident}
use Rattle.aidl_base.specs.declared.reserved.Reserved.TheVariants as word
use Rattle.aidl_syntax.specs.declared.token.Symbol.TheVariants as mark
use Rattle.aidl_syntax.specs.declared.token.TokenKind.TheVariants as kind
use Rattle.aidl_syntax.specs.declared.tree.NameTree.{NameTree}
use Rattle.aidl_syntax.specs.Parts.{Form, Then, Maybe, Many, Quoted, Worded, Before, Trailing, first}
use Rattle.aidl_syntax.specs.Trees as tree
use Rattle.aidl_syntax.specs.Trees.{Annot, Body, Members, map_option}
use Rattle.aidl_syntax.specs.Trees.Decl.{decl}
use Rattle.aidl_syntax.specs.Trees.Body.{enum, parcelable, union, interface}
use Rattle.aidl_syntax.specs.Trees.Members.{none, field as field_before, constant as constant_before, method as method_before, nested as nested_before}
use Rattle.aidl_syntax.specs.Productions.{IsIdent, AreAnnots, IsField, IsConstant, IsMethod, IsEnumerator, IsOneway, Opens, IsBody, IsDecl, AreMembers, AreInterfaceMembers, Named, IsFile}
use Rattle.aidl_schema.specs.declared.schema.Decl.{Decl}
use Rattle.aidl_schema.specs.declared.schema.Field.{Field}
use Rattle.aidl_schema.specs.declared.schema.Kind.{Kind}
use Rattle.aidl_schema.specs.declared.schema.Kind.TheVariants.{Interface, Parcelable, Union, Enum}
use Rattle.aidl_schema.specs.declared.schema.Backing.{Backing}
use Rattle.aidl_schema.specs.declared.schema.Enumerator.{Enumerator}
use Rattle.aidl_schema.specs.Holds.{AllHold, OfEach}
use Rattle.aidl_schema.specs.Containment.{fields_of}
use Rattle.aidl_schema.specs.Methods.{is_field_type, has_method_types}
use Rattle.aidl_schema.specs.Valid.{has_initializer_of, has_value, is_enum_whole, is_enum}
use Rattle.aidl_schema.specs.Names.{last_part, without_last, methods_of, is_inside, is_outer, encloses, may_enclose}
use Rattle.aidl_schema.specs.Same.{same_idents}
use Rattle.api_dump.specs.Pieces.{Piece, sign, name, ident, reserved}
use Rattle.api_dump.specs.Pieces.Piece.{space, newline}
use Rattle.api_dump.specs.Types.{flag}
use Rattle.api_dump.specs.Lines.{field, constant, method, enumerator}
use Rattle.api_dump.specs.Declarations.{indent, backing_mark, annotations, kind_word, heading, closing, member_lines, own_lines, wrapped, wrapped_at, inside, nested_lines}
use Rattle.api_dump.specs.Dump.{package_line, file_pieces}
use Rattle.dump_reading.specs.Bare.{bare_name, bare_dotted, bare_annots, bare_field, bare_constant, bare_method, bare_enumerator, bare_decl, bare_body, bare_members, bare_file}
use Rattle.dump_reading.specs.DumpTrees.{name_tree, flag_trees, backing_trees, field_tree, constant_tree, method_tree, enumerator_tree, each_before, constants_before, body_tree, decl_tree, decl_before, nested_trees, package_tree, file_tree}
use Rattle.dump_reading.proofs.spelled.Plain.{kinds_of}
use Rattle.dump_reading.proofs.spelled.Spelled.{is_equal}
use Rattle.dump_reading.proofs.spelled.Fits.{Each, each_passes}
use Rattle.dump_reading.proofs.grown.Made.{Made, both, same, no_token, then_made, made_same, single_made, none_made, some_made, before_made, no_more_made, one_more_made, ended_made, kinds_append, kinds_flat, comma}
use Rattle.dump_reading.proofs.grown.Parts.{name_made, dotted_made}
use Rattle.dump_reading.proofs.grown.Values.{backed_made, flag_before, flag_made}
use Rattle.dump_reading.proofs.grown.Lines.{field_made, constant_made, method_made, entry, entry_made, not_oneway}

made_eq : {A : Type 0} {P : Form A} {f : A → A} {x : A} {ps qs : List Piece} → ps ≡ qs → Made P f ps x → Made P f qs x
made_eq {P = P} {f = f} {x = x} e m = subst (λ rs. Made P f rs x) e m

indent_kinds : (k : ℕ) (ps : List Piece) → kinds_of (indent k ++ ps) ≡ kinds_of ps
indent_kinds zero ps = refl
indent_kinds (suc k) ps = indent_kinds k ps

indented : {A : Type 0} {P : Form A} {f : A → A} {x : A} {ps : List Piece} (k : ℕ) → Made P f ps x → Made P f (indent k ++ ps) x
indented {ps = ps} k m = made_same ps (indent k ++ ps) (indent_kinds k ps) m

-- Members, one before others.

record Step (P : Form Members) (ps : List Piece) (add : Members → Members) : Type 0 where
  at : (qs : List Piece) (ms : Members) → Made P bare_members qs ms → Made P bare_members (ps ++ qs) (add ms)

field_step : {ps : List Piece} {f : tree.Field} → Made IsField bare_field ps f → Step AreMembers ps (λ ms. field_before f ms)
field_step m = record { at = λ qs ms n. record { at = λ ts h. let a = (then_made m n).at ts h in (field_before a.0.0 a.0.1, a.1, ap (λ p. field_before p.0 p.1) a.2) } }

method_step : {ps : List Piece} {f : tree.Method} → Made IsMethod bare_method ps f → Step AreInterfaceMembers ps (λ ms. method_before f ms)
method_step m = record { at = λ qs ms n. record { at = λ ts h. let a = (then_made m n).at ts h in (method_before a.0.0 a.0.1, a.1, ap (λ p. method_before p.0 p.1) a.2) } }

constant_step : {ps : List Piece} {f : tree.Constant} → Made IsConstant bare_constant ps f → Step AreMembers ps (λ ms. constant_before f ms)
constant_step m = record { at = λ qs ms n. record { at = λ ts h. let a = (then_made m n).at ts h in (constant_before a.0.0 a.0.1, a.1, ap (λ p. constant_before p.0 p.1) a.2) } }

constant_among : {ps : List Piece} {f : tree.Constant} → Made IsConstant bare_constant ps f → Step AreInterfaceMembers ps (λ ms. constant_before f ms)
constant_among m = record { at = λ qs ms n. record { at = λ ts h. let a = (then_made m n).at ts h in (constant_before a.0.0 a.0.1, a.1, ap (λ p. constant_before p.0 p.1) a.2) } }

nested_step : {ps : List Piece} {f : tree.Decl} → Made IsDecl bare_decl ps f → Step AreMembers ps (λ ms. nested_before f ms)
nested_step m = record { at = λ qs ms n. record { at = λ ts h. let a = (then_made m n).at ts h in (nested_before a.0.0 a.0.1, a.1, ap (λ p. nested_before p.0 p.1) a.2) } }

nested_among : {ps : List Piece} {f : tree.Decl} → Made IsDecl bare_decl ps f → Step AreInterfaceMembers ps (λ ms. nested_before f ms)
nested_among m = record { at = λ qs ms n. record { at = λ ts h. let a = (then_made m n).at ts h in (nested_before a.0.0 a.0.1, a.1, ap (λ p. nested_before p.0 p.1) a.2) } }

steps : {X : Type 0} {P : Form Members} (g : X → List Piece) (add : X → Members → Members) (xs : List X) → Each (λ x. Step P (g x) (add x)) xs → (qs : List Piece) (ms : Members)
    → Made P bare_members qs ms → Made P bare_members (flat_map g xs ++ qs) (each_before add xs ms)
steps g add [] each qs ms m = m
steps g add (x ∷ xs) each qs ms m =
    made_eq (sym (append_assoc (g x) (flat_map g xs) qs)) ((each zero x refl).at (flat_map g xs ++ qs) (each_before add xs ms) (steps g add xs (λ k y e. each (suc k) y e) qs ms m))

no_members : Made AreMembers bare_members [] none
no_members = record { at = λ ts h. (none, no_token ts h, refl) }

none_among : Made AreInterfaceMembers bare_members [] none
none_among = record { at = λ ts h. (none, no_token ts h, refl) }

-- Bodies.

abbrev IsNamedBody : Form (NameTree × Body)
IsNamedBody ts x = IsBody ts x.0 x.1

abbrev opening : Kind → Ident → List Piece
opening k i = (reserved (kind_word k) ∷ space ∷ []) ++ ((name i ∷ []) ++ (space ∷ sign mark.OpenBrace ∷ newline ∷ []))

close_made : (depth : ℕ) → Made (Quoted mark.CloseBrace) same (closing depth) tt
close_made depth = indented depth (single_made (kind.Mark mark.CloseBrace) (sign mark.CloseBrace ∷ newline ∷ []) refl)

opened : (i : Ident) → Made (Opens IsIdent) bare_name ((name i ∷ []) ++ (space ∷ sign mark.OpenBrace ∷ newline ∷ [])) (name_tree i)
opened i = before_made mark.OpenBrace (space ∷ sign mark.OpenBrace ∷ newline ∷ []) refl (name_made i (name i ∷ []) refl)

parcelable_made : (depth : ℕ) (i : Ident) (fs : List Field) {qs : List Piece} {ms : Members} → Made AreMembers bare_members qs ms
    → Made IsNamedBody (both bare_name bare_body) ((opening (Parcelable fs) i ++ qs) ++ closing depth) (name_tree i, parcelable ms)
parcelable_made depth i fs m = record {
  at = λ ts h.
      let a = (then_made (then_made (then_made (single_made (kind.Word word.Parcelable) (reserved word.Parcelable ∷ space ∷ []) refl) (opened i)) m) (close_made depth)).at ts h in (
        (a.0.0.0.1, parcelable a.0.0.1),
        (a.1.3.0, a.1.3.1, a.1.1, a.1.2 ∙ ap (λ us. us ++ a.1.1) a.1.3.2, a.1.3.3, a.1.3.4, a.1.4),
        ap (λ p. (p.0.0.1, parcelable p.0.1)) a.2,
      );
}

union_made : (depth : ℕ) (i : Ident) (fs : List Field) {qs : List Piece} {ms : Members} → Made AreMembers bare_members qs ms
    → Made IsNamedBody (both bare_name bare_body) ((opening (Union fs) i ++ qs) ++ closing depth) (name_tree i, union ms)
union_made depth i fs m = record {
  at = λ ts h.
      let a = (then_made (then_made (then_made (single_made (kind.Word word.Union) (reserved word.Union ∷ space ∷ []) refl) (opened i)) m) (close_made depth)).at ts h in (
        (a.0.0.0.1, union a.0.0.1),
        (a.1.3.0, a.1.3.1, a.1.1, a.1.2 ∙ ap (λ us. us ++ a.1.1) a.1.3.2, a.1.3.3, a.1.3.4, a.1.4),
        ap (λ p. (p.0.0.1, union p.0.1)) a.2,
      );
}

interface_made : (depth : ℕ) (i : Ident) (fs : List _) {qs : List Piece} {ms : Members} → Made AreInterfaceMembers bare_members qs ms
    → Made IsNamedBody (both bare_name bare_body) ((opening (Interface fs) i ++ qs) ++ closing depth) (name_tree i, interface false ms)
interface_made depth i fs m = record {
  at = λ ts h.
      let head : Made (Then IsOneway (Then (Worded word.Interface) (Opens IsIdent))) (both same (both same bare_name)) (opening (Interface fs) i) (false, (tt, name_tree i)) =
      then_made not_oneway (then_made (single_made (kind.Word word.Interface) (reserved word.Interface ∷ space ∷ []) refl) (opened i)) in
      let a = (then_made (then_made head m) (close_made depth)).at ts h in (
        (a.0.0.0.1.1, interface a.0.0.0.0 a.0.0.1),
        (a.1.3.0, a.1.3.1, a.1.1, a.1.2 ∙ ap (λ us. us ++ a.1.1) a.1.3.2, a.1.3.3, a.1.3.4, a.1.4),
        ap (λ p. (p.0.0.1.1, interface p.0.0.0 p.0.1)) a.2,
      );
}

enum_from_parts : {ps : List Piece} {n : NameTree} {es : List tree.Enumerator}
    → Made (Then (Then (Worded word.Enum) (Opens IsIdent)) (Before (Trailing IsEnumerator) mark.CloseBrace)) (both (both same bare_name) (map bare_enumerator)) ps ((tt, n), es)
    → Made IsNamedBody (both bare_name bare_body) ps (n, enum es)
enum_from_parts m = record { at = λ ts h. let a = m.at ts h in ((a.0.0.1, enum a.0.1), a.1, ap (λ p. (p.0.1, enum p.1)) a.2) }

entry_kinds : (depth : ℕ) (b : Backing) (e : Enumerator) → kinds_of (indent depth ++ enumerator b e) ≡ kinds_of (entry b e ++ comma)
entry_kinds depth b e = indent_kinds depth (enumerator b e)

enum_made : (depth : ℕ) (i : Ident) (b : Backing) (es : List Enumerator) → is_enum_whole (Enum b es) ≡ true
    → Made IsNamedBody (both bare_name bare_body) ((opening (Enum b es) i ++ ((flat_map (λ e. indent (suc depth) ++ enumerator b e) es ++ []) ++ [])) ++ closing depth)
    (name_tree i, enum (map (λ e. enumerator_tree b e) es))
enum_made depth i b [] h = cc
enum_made depth i b (e ∷ es) h =
    let all = e ∷ es in
    let lines = flat_map (λ e. indent (suc depth) ++ enumerator b e) all in let entries = flat_map (λ e. entry b e ++ comma) all in
    let close = sign mark.CloseBrace ∷ newline ∷ [] in let open_so = opening (Enum b all) i in
    let same_kinds : kinds_of (open_so ++ (lines ++ closing depth)) ≡ kinds_of (open_so ++ (entries ++ close)) =
    kinds_append open_so (lines ++ closing depth) ∙ ap (λ ks. kinds_of open_so ++ ks) (kinds_append lines (closing depth)
    ∙ ap (λ ks. ks ++ kinds_of (closing depth)) (kinds_flat (λ e. indent (suc depth) ++ enumerator b e) (λ e. entry b e ++ comma) (entry_kinds (suc depth) b) all)
    ∙ ap (λ ks. kinds_of entries ++ ks) (indent_kinds depth close) ∙ sym (kinds_append entries close)) ∙ sym (kinds_append open_so (entries ++ close)) in
    made_eq (sym (ap (λ ps. (open_so ++ ps) ++ closing depth) (append-nil (lines ++ []) ∙ append-nil lines) ∙ append_assoc open_so lines (closing depth)))
    (made_same (open_so ++ (entries ++ close)) (open_so ++ (lines ++ closing depth)) same_kinds
    (enum_from_parts (then_made (then_made (single_made (kind.Word word.Enum) (reserved word.Enum ∷ space ∷ []) refl) (opened i))
    (before_made mark.CloseBrace close refl (ended_made (entry b) (λ e. enumerator_tree b e) e es (λ k x f. entry_made b x))))))

-- Declarations.

annotations_made : (k : Kind) (fixed vintf : Bool) → Made AreAnnots bare_annots (backing_mark k ++ (flag (codes "FixedSize") fixed ++ flag (codes "VintfStability") vintf))
    (backing_trees k ++ (flag_trees (codes "FixedSize") fixed ++ flag_trees (codes "VintfStability") vintf))
annotations_made (Enum b es) fixed vintf = one_more_made (backed_made b) (flag_before (codes "FixedSize") fixed (flag_made (codes "VintfStability") vintf))
annotations_made (Interface ms) fixed vintf = flag_before (codes "FixedSize") fixed (flag_made (codes "VintfStability") vintf)
annotations_made (Parcelable fs) fixed vintf = flag_before (codes "FixedSize") fixed (flag_made (codes "VintfStability") vintf)
annotations_made (Union fs) fixed vintf = flag_before (codes "FixedSize") fixed (flag_made (codes "VintfStability") vintf)

decl_from_parts : {ps qs : List Piece} {xs : List Annot} {n : NameTree} {body : Body} → Made AreAnnots bare_annots ps xs
    → Made IsNamedBody (both bare_name bare_body) qs (n, body) → Made IsDecl bare_decl (ps ++ qs) (decl 0 xs n body)
decl_from_parts m b = record {
  at = λ ts h. let a = (then_made m b).at ts h in
      (decl (first ts) a.0.0 a.0.1.0 a.0.1.1, (a.1.0, a.1.1, a.1.2, a.1.3, a.1.4, refl), ap (λ p. decl 0 p.0 p.1.0 p.1.1) a.2);
}

regroup : (ind ann head own last close : List Piece) → ind ++ (ann ++ ((head ++ (own ++ last)) ++ close)) ≡ (ind ++ (ann ++ (head ++ own))) ++ (last ++ close)
regroup ind ann head own last close = simp append_assoc

-- what both kinds of members say of the declarations that stand last
abbrev BothMade : List Piece → Members → Type 0
BothMade ps ms = Made AreMembers bare_members ps ms × Made AreInterfaceMembers bare_members ps ms

no_enclosing : (k : Kind) → is_enum k ≡ true → may_enclose k ≡ false
no_enclosing (Enum b es) e = refl
no_enclosing (Interface ms) e = cc
no_enclosing (Parcelable fs) e = cc
no_enclosing (Union fs) e = cc

module _ (S : List Decl) (H : AllHold S) (V : (n : ℕ) (d : Decl) → slice_get S n ≡ Some d → is_enum d.kind ≡ true → d.constants ≡ []) where
  -- Nothing stands inside an enum.
  not_inside : (n : ℕ) (d : Decl) → slice_get S n ≡ Some d → is_enum d.kind ≡ true → (o : Option ℕ) (parts : List Ident) → is_outer S o parts ≡ true → is_inside n o ≡ false
  not_inside n d e h None parts out = refl
  not_inside n d e h (Some m) parts out = go (m == n) refl where
    go : (b : Bool) → (m == n) ≡ b → (m == n) ≡ false
    go false f = f
    go true f =
        let there : slice_get S m ≡ Some d = ap (λ (k : ℕ). slice_get S k) (is_equal m n f) ∙ e in
        let may : encloses (Some d) parts ≡ true = ap (λ x. encloses x parts) (sym there) ∙ out in
        let yes : may_enclose d.kind ≡ true = (and_parts (may_enclose d.kind) (same_idents d.name.0 (without_last parts)) may).0 in
        let no : may_enclose d.kind ≡ false = no_enclosing d.kind h in cc

  none_pass : (n i : ℕ) (xs : List Decl) → ((k : ℕ) (e : Decl) → slice_get xs k ≡ Some e → is_inside n e.outer ≡ false) → map (λ x. x.0) (filter (λ x. is_inside n x.1.outer) (enumerate_from i xs)) ≡ []
  none_pass n i [] h = refl
  none_pass n i (d ∷ ds) h =
      let more = filter (λ x. is_inside n x.1.outer) (enumerate_from (i + 1) ds) in
      ap (λ t. map (λ x. x.0) (cond t ((i, d) ∷ more) more)) (h zero d refl) ∙ none_pass n (i + 1) ds (λ k e f. h (suc k) e f)

  none_inside : (n : ℕ) (d : Decl) → slice_get S n ≡ Some d → is_enum d.kind ≡ true → inside S n ≡ []
  none_inside n d e h = none_pass n 0 S (λ k x f. not_inside n d e h x.outer x.name.0 (H k x f).outer)

  none_nested : (levels depth n : ℕ) (d : Decl) → slice_get S n ≡ Some d → is_enum d.kind ≡ true → nested_lines S levels depth n ≡ []
  none_nested zero depth n d e h = refl
  none_nested (suc levels) depth n d e h = ap (flat_map (λ m. wrapped_at S depth (slice_get S m) (nested_lines S levels (suc depth) m))) (none_inside n d e h)

  fields_before : (depth : ℕ) (fs : List Field) → list_all (λ f. is_field_type S f) fs ≡ true → list_all (λ f. has_initializer_of S f.ty f.initial) fs ≡ true → {qs : List Piece} {ms : Members}
      → Made AreMembers bare_members qs ms → Made AreMembers bare_members (flat_map (λ f. indent depth ++ field S f) fs ++ qs) (each_before (λ f more. field_before (field_tree S f) more) fs ms)
  fields_before depth fs t v {qs} {ms} m = steps (λ f. indent depth ++ field S f) (λ f more. field_before (field_tree S f) more) fs
      (λ k f e. field_step (indented depth (field_made S H f (each_passes (λ f. is_field_type S f) fs t k f e) (each_passes (λ f. has_initializer_of S f.ty f.initial) fs v k f e)))) qs ms m

  constants_made : (depth : ℕ) (d : Decl) → list_all (λ c. has_value S c) d.constants ≡ true → {last : List Piece} {ms : Members} → BothMade last ms
      → BothMade (flat_map (λ c. indent depth ++ constant S c) d.constants ++ last) (constants_before S d ms)
  constants_made depth d v {last} {ms} m =
      let each = each_passes (λ c. has_value S c) d.constants v in (
        steps (λ c. indent depth ++ constant S c) (λ c more. constant_before (constant_tree S c) more) d.constants (λ k c e. constant_step (indented depth (constant_made S H c (each k c e)))) last ms m.0,
        steps (λ c. indent depth ++ constant S c) (λ c more. constant_before (constant_tree S c) more) d.constants (λ k c e. constant_among (indented depth (constant_made S H c (each k c e)))) last ms m.1,
      )

  body_made : (depth : ℕ) (d : Decl) (k : Kind) (i : Ident) → list_all (λ f. is_field_type S f) (fields_of k) ≡ true → list_all (λ f. has_initializer_of S f.ty f.initial) (fields_of k) ≡ true
      → list_all (λ m. has_method_types S m) (methods_of k) ≡ true → OfEach (methods_of k) (λ m. m.oneway ≡ true → m.result ≡ None) → list_all (λ c. has_value S c) d.constants ≡ true
      → is_enum_whole k ≡ true → (last : List Piece) (ms : Members) → BothMade last ms → (is_enum k ≡ true → d.constants ≡ []) → (is_enum k ≡ true → last ≡ [])
      → Made IsNamedBody (both bare_name bare_body) ((opening k i ++ ((member_lines S (suc depth) k ++ flat_map (λ c. indent (suc depth) ++ constant S c) d.constants) ++ last)) ++ closing depth)
      (name_tree i, body_tree S k (constants_before S d ms))
  body_made depth d (Parcelable fs) i ft fv mt mo cv en last ms m nc nl =
      let cs = flat_map (λ c. indent (suc depth) ++ constant S c) d.constants in
      parcelable_made depth i fs (made_eq (sym (append_assoc (member_lines S (suc depth) (Parcelable fs)) cs last)) (fields_before (suc depth) fs ft fv (constants_made (suc depth) d cv m).0))
  body_made depth d (Union fs) i ft fv mt mo cv en last ms m nc nl =
      let cs = flat_map (λ c. indent (suc depth) ++ constant S c) d.constants in
      union_made depth i fs (made_eq (sym (append_assoc (member_lines S (suc depth) (Union fs)) cs last)) (fields_before (suc depth) fs ft fv (constants_made (suc depth) d cv m).0))
  body_made depth d (Interface fs) i ft fv mt mo cv en last ms m nc nl =
      let cs = flat_map (λ c. indent (suc depth) ++ constant S c) d.constants in
      interface_made depth i fs (made_eq (sym (append_assoc (member_lines S (suc depth) (Interface fs)) cs last))
      (steps (λ f. indent (suc depth) ++ method S f) (λ f more. method_before (method_tree S f) more) fs
      (λ k f e. method_step (indented (suc depth) (method_made S H f (each_passes (λ f. has_method_types S f) fs mt k f e) (mo k f e)))) (cs ++ last) (constants_before S d ms) (constants_made (suc depth) d cv m).1))
  body_made depth d (Enum b es) i ft fv mt mo cv en last ms m nc nl =
      let lines = member_lines S (suc depth) (Enum b es) in
      made_eq (ap (λ ks. (opening (Enum b es) i ++ ((lines ++ flat_map (λ c. indent (suc depth) ++ constant S c) ks) ++ [])) ++ closing depth) (sym (nc refl))
      ∙ ap (λ ps. (opening (Enum b es) i ++ ((lines ++ flat_map (λ c. indent (suc depth) ++ constant S c) d.constants) ++ ps)) ++ closing depth) (sym (nl refl)))
      (enum_made depth i b es en)

  decl_made : (depth n : ℕ) (d : Decl) → slice_get S n ≡ Some d → (last : List Piece) (ms : Members) → BothMade last ms → (is_enum d.kind ≡ true → last ≡ [])
      → Made IsDecl bare_decl (wrapped S depth d last) (decl_tree S d ms)
  decl_made depth n d e last ms m nl =
      let h = H n d e in
      made_eq (regroup (indent depth) (annotations d) (heading d) (own_lines S (suc depth) d) last (closing depth))
      (indented depth (decl_from_parts (annotations_made d.kind d.fixed d.vintf)
      (body_made depth d d.kind (ident (last_part d.name.0)) h.field_types h.initializers h.method_types (λ k x f o. (h.oneway k x f o).0) h.values h.enum last ms m (V n d e) nl)))

  nested_made : (levels depth n : ℕ) → BothMade (nested_lines S levels depth n) (nested_trees S levels n)
  nested_made zero depth n = (no_members, none_among)
  nested_made (suc levels) depth n =
      let g = λ (m : ℕ). wrapped_at S depth (slice_get S m) (nested_lines S levels (suc depth) m) in
      let add = λ (m : ℕ) (ms : Members). decl_before S (slice_get S m) (nested_trees S levels m) ms in (
        made_eq (append-nil (flat_map g (inside S n))) (steps g add (inside S n) (λ k m e. one m (slice_get S m) refl (nested_made levels (suc depth) m)) [] none no_members),
        made_eq (append-nil (flat_map g (inside S n))) (steps g add (inside S n) (λ k m e. among m (slice_get S m) refl (nested_made levels (suc depth) m)) [] none none_among),
      ) where
        one : (m : ℕ) (o : Option Decl) → slice_get S m ≡ o → BothMade (nested_lines S levels (suc depth) m) (nested_trees S levels m)
            → Step AreMembers (wrapped_at S depth o (nested_lines S levels (suc depth) m)) (λ ms. decl_before S o (nested_trees S levels m) ms)
        one m None e b = record { at = λ qs ms x. x }
        one m (Some d) e b = nested_step (decl_made depth m d e (nested_lines S levels (suc depth) m) (nested_trees S levels m) b (none_nested levels (suc depth) m d e))

        among : (m : ℕ) (o : Option Decl) → slice_get S m ≡ o → BothMade (nested_lines S levels (suc depth) m) (nested_trees S levels m)
            → Step AreInterfaceMembers (wrapped_at S depth o (nested_lines S levels (suc depth) m)) (λ ms. decl_before S o (nested_trees S levels m) ms)
        among m None e b = record { at = λ qs ms x. x }
        among m (Some d) e b = nested_among (decl_made depth m d e (nested_lines S levels (suc depth) m) (nested_trees S levels m) b (none_nested levels (suc depth) m d e))

  package_made : (is : List Ident) → Made (Maybe (Named word.Package)) (map_option bare_dotted) (package_line is) (package_tree is)
  package_made [] = none_made
  package_made (i ∷ is) = some_made (record {
    at = λ ts h.
        let a = (then_made (single_made (kind.Word word.Package) (reserved word.Package ∷ space ∷ []) refl) (before_made mark.Semicolon (sign mark.Semicolon ∷ newline ∷ []) refl (dotted_made i is))).at ts h in
        (a.0.1, a.1, ap (λ p. p.1) a.2);
  })

  file_from_parts : {ps : List Piece} {d : tree.Decl} (is : List Ident) → Made IsDecl bare_decl ps d
      → Made IsFile bare_file (package_line is ++ ps) (record { offset = 0; «package» = package_tree is; imports = []; declared = d })
  file_from_parts is m = record {
    at = λ ts h. let a = (then_made (package_made is) (then_made {P = Many (Named word.Import)} {f = map bare_dotted} no_more_made m)).at ts h in
        (record { offset = first ts; «package» = a.0.0; imports = a.0.1.0; declared = a.0.1.1 }, (a.1, refl), ap (λ p. record { offset = 0; «package» = p.0; imports = p.1.0; declared = p.1.1 }) a.2);
  }

  -- the file of a declaration of the schema
  pub file_made : (n : ℕ) (d : Decl) → slice_get S n ≡ Some d → Made IsFile bare_file (file_pieces S (n, d)) (file_tree S (n, d))
  file_made n d e =
      let last = nested_lines S (length S) 1 n in
      made_eq (ap (λ o. package_line (without_last d.name.0) ++ wrapped_at S 0 o last) (sym e))
      (file_from_parts (without_last d.name.0) (decl_made 0 n d e last (nested_trees S (length S) n) (nested_made (length S) 1 n) (none_nested (length S) 1 n d e)))
