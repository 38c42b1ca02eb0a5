-- Names, types and annotations of the dump have trees.
use Rattle.std.proofs.Common.{◌≡◌, Bool, true, false, List, [], ◌∷◌, ◌++◌, Option, refl, sym, ap, ◌∙◌, append-nil}
use Rattle.std.specs.Prelude.{codes}
use Rattle.aidl_base.specs.declared.name.Ident.{Ident}
use Rattle.aidl_syntax.specs.declared.token.Symbol.TheVariants as mark
use Rattle.aidl_syntax.specs.declared.token.TokenKind.{TokenKind}
use Rattle.aidl_syntax.specs.declared.token.TokenKind.TheVariants as kind
use Rattle.aidl_syntax.specs.declared.token.Token.{Token}
use Rattle.aidl_syntax.specs.declared.tree.DottedTree.{DottedTree}
use Rattle.aidl_syntax.specs.declared.tree.TypeTree.{TypeTree}
use Rattle.aidl_syntax.specs.Parts.{Form, Then, Maybe, Behind, Before, first}
use Rattle.aidl_syntax.specs.Trees.{map_option}
use Rattle.aidl_syntax.specs.Productions.{IsIdent, AreNames, IsDotted, IsArray, IsType}
use Rattle.aidl_schema.specs.declared.schema.Shape.{Shape}
use Rattle.aidl_schema.specs.declared.schema.Shape.TheVariants as shape
use Rattle.api_dump.specs.Pieces.{Piece}
use Rattle.dump_reading.proofs.spelled.Plain.{kinds_of}
use Rattle.api_dump.specs.Pieces.{sign, name, ident, dotted}
use Rattle.api_dump.specs.Types.{shaped}
use Rattle.dump_reading.specs.Bare.{bare_name, bare_dotted, bare_type}
use Rattle.dump_reading.specs.DumpTrees.{name_tree, dotted_tree, type_tree}
use Rattle.dump_reading.proofs.grown.Made.{Made, kinds, both, same, one_token, no_token, then_made, single_made, made_same, none_made, some_made, behind_made, before_made}

-- Names.

pub name_made : (i : Ident) (ps : List Piece) → kinds_of ps ≡ kind.Name i.0 ∷ [] → Made IsIdent bare_name ps (name_tree i)
name_made i ps e = record {
  at = λ ts h.
      let t = one_token (kind.Name i.0) ts (h ∙ e) in
      (record { offset = t.0.offset; name = i }, (t.0, t.1, t.2, refl), refl);
}

head_kind : (t : Token) (ts : List Token) (k : TokenKind) (ks : List TokenKind) → t.kind ∷ kinds ts ≡ k ∷ ks → t.kind ≡ k
head_kind t ts k ks e = cc

tail_kinds : (t : Token) (ts : List Token) (k : TokenKind) (ks : List TokenKind) → t.kind ∷ kinds ts ≡ k ∷ ks → kinds ts ≡ ks
tail_kinds t ts k ks e = cc

names_stand : (i : Ident) (is : List Ident) (ts : List Token) → kinds ts ≡ kinds_of (dotted (i ∷ is)) → AreNames ts (i ∷ is)
names_stand i [] ts e = one_token (kind.Name i.0) ts e
names_stand i (j ∷ is) [] e = cc
names_stand i (j ∷ is) (t ∷ []) e = cc
names_stand i (j ∷ is) (t ∷ dot ∷ ts) e =
    let more = tail_kinds t (dot ∷ ts) _ _ e in
    (t, dot, ts, refl, head_kind t (dot ∷ ts) _ _ e, head_kind dot ts _ _ more, names_stand j is ts (tail_kinds dot ts _ _ more))

pub dotted_made : (i : Ident) (is : List Ident) → Made IsDotted bare_dotted (dotted (i ∷ is)) (dotted_tree (i ∷ is))
dotted_made i is = record { at = λ ts e. (record { offset = first ts; name = record { 0 = i ∷ is } }, (refl, names_stand i is ts e), refl) }

-- Types.

plain_made : Made IsArray same [] false
plain_made = record { at = λ ts e. (false, no_token ts e, refl) }

array_made : Made IsArray same (sign mark.OpenBracket ∷ sign mark.CloseBracket ∷ []) true
array_made = record {
  at = λ ts e.
      let a = (then_made (single_made (kind.Mark mark.OpenBracket) (sign mark.OpenBracket ∷ []) refl) (single_made (kind.Mark mark.CloseBracket) (sign mark.CloseBracket ∷ []) refl)).at ts e in (true, a.1, refl);
}

abbrev pub TypeParts : Type 0
TypeParts = DottedTree × (Option DottedTree × Bool)

abbrev pub IsTypeParts : Form TypeParts
IsTypeParts = Then IsDotted (Then (Maybe (Behind mark.Less (Before IsDotted mark.Greater))) IsArray)

abbrev pub bare_type_parts : TypeParts → TypeParts
bare_type_parts = both bare_dotted (both (map_option bare_dotted) same)

abbrev pub type_of_parts : TypeParts → TypeTree
type_of_parts x = record { offset = 0; name = x.0; element = x.1.0; array = x.1.1 }

type_from_parts : (ps : List Piece) (x : TypeParts) → Made IsTypeParts bare_type_parts ps x → Made IsType bare_type ps (type_of_parts x)
type_from_parts ps x m = record {
  at = λ ts e.
      let a = m.at ts e in
      (record { offset = first ts; name = a.0.0; element = a.0.1.0; array = a.0.1.1 }, (a.1, refl), ap type_of_parts a.2);
}

pub type_made : (s : Shape) (i : Ident) (is : List Ident) → Made IsType bare_type (shaped s (dotted (i ∷ is))) (type_tree s (i ∷ is))
type_made shape.One i is = made_same (dotted (i ∷ is) ++ []) (dotted (i ∷ is)) (sym (ap kinds_of (append-nil (dotted (i ∷ is)))))
    (type_from_parts _ _ (then_made (dotted_made i is) (then_made none_made plain_made)))
type_made shape.Array i is = type_from_parts _ _ (then_made (dotted_made i is) (then_made none_made array_made))
type_made shape.List i is = made_same (dotted (ident (codes "List") ∷ []) ++ (((sign mark.Less ∷ []) ++ (dotted (i ∷ is) ++ (sign mark.Greater ∷ []))) ++ [])) (shaped shape.List (dotted (i ∷ is)))
    (ap kinds_of (ap (λ ps. name (ident (codes "List")) ∷ sign mark.Less ∷ ps) (sym (append-nil (dotted (i ∷ is) ++ (sign mark.Greater ∷ []))))))
    (type_from_parts _ _ (then_made (dotted_made (ident (codes "List")) [])
    (then_made (some_made (behind_made mark.Less (sign mark.Less ∷ []) refl (before_made mark.Greater (sign mark.Greater ∷ []) refl (dotted_made i is)))) plain_made)))
