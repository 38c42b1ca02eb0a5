-- The laws of members and declarations.
use Rattle.std.proofs.Common.{◌≡◌, ℕ, suc, ◌+◌, ◌≤◌, Bool, true, false, cond, List, [], ◌∷◌, ◌++◌, length, Option, Some, None, refl, sym, ap, ◌∙◌, arith, append_assoc, length-append}
use Rattle.aidl_base.specs.declared.reserved.Reserved.TheVariants as word
use Rattle.aidl_syntax.specs.declared.token.Token.{Token}
use Rattle.aidl_syntax.specs.declared.tree.NameTree.{NameTree}
use Rattle.aidl_syntax.specs.declared.tree.TypeTree.{TypeTree}
use Rattle.aidl_syntax.specs.Parts.{Then, first}
use Rattle.aidl_syntax.specs.Trees.{Expr, Init, Annot, Field, Constant, Arg, Method, Decl, Body, Members}
use Rattle.aidl_syntax.specs.Trees.Decl.{decl}
use Rattle.aidl_syntax.specs.Trees.Body.{parcelable, union, enum, interface}
use Rattle.aidl_syntax.specs.Trees.Members.{field, constant, method, nested}
use Rattle.aidl_syntax.specs.Productions.{AreAnnots, IsField, IsConstant, IsReturned, IsMethod, IsDecl, IsBody, AreMembers, AreInterfaceMembers}
use Rattle.expr_parser.specs.Reading.{Read, ◌>>=◌}
use Rattle.aidl_parser.specs.steps.Parts.{same_word, begins_word, altered, alter}
use Rattle.aidl_parser.specs.steps.Inits.{annots_at}
use Rattle.aidl_parser.specs.steps.Members.{field_at, constant_at, method_at}
use Rattle.aidl_parser.specs.steps.Decls.{begins_decl, field_made, constant_made, method_made, nested_made, member_by, member_behind, member_with}
use Rattle.expr_parser.proofs.lemmas.Told.{bind_some, pair_some}
use Rattle.expr_parser.proofs.lemmas.Found.{starts_name}
use Rattle.aidl_parser.proofs.productions.Laws.{Law, any, word_self}
use Rattle.aidl_parser.proofs.productions.Annots.{annots_law, no_annot}
use Rattle.aidl_parser.proofs.productions.Fields.{FieldRest, ConstantRest, MethodRest, field_law, constant_law, method_law}

-- One member.

pub data Item : Type 0 where
  field_item : Field → Item
  constant_item : Constant → Item
  method_item : Method → Item
  nested_item : Decl → Item

-- a member before others
abbrev pub put : Item → Members → Members
put (field_item f) ms = field f ms
put (constant_item c) ms = constant c ms
put (method_item m) ms = method m ms
put (nested_item d) ms = nested d ms

-- of an interface, or not
abbrev pub IsItem : Bool → List Token → Item → Type 0
IsItem false ts (field_item f) = IsField ts f
IsItem true ts (field_item f) = ⊥
IsItem inside ts (constant_item c) = IsConstant ts c
IsItem false ts (method_item m) = ⊥
IsItem true ts (method_item m) = IsMethod ts m
IsItem inside ts (nested_item d) = IsDecl ts d

abbrev pub MembersOf : Bool → List Token → Members → Type 0
MembersOf false ts ms = AreMembers ts ms
MembersOf true ts ms = AreInterfaceMembers ts ms

-- a declaration behind its annotations
abbrev pub DeclRest : ℕ → List Annot → List Token → Decl → Type 0
DeclRest o annots ts d = (n : NameTree) × (body : Body) × (d ≡ decl o annots n body) × IsBody ts n body

abbrev pub Declare : Type 0
Declare = ℕ → List Annot → List Token → Read Decl

abbrev pub DeclareLaw : ℕ → Declare → Type 0
DeclareLaw k declare = (o : ℕ) (annots : List Annot) → Law k (declare o annots) (DeclRest o annots) any

pub some_first : (ts rest : List Token) → (t : Token) → (us : List Token) → ts ≡ t ∷ us → first (ts ++ rest) ≡ first ts
some_first ts rest t us e = rw e refl

pub join_starts : (f g : List Token) → (t : Token) × (us : List Token) × (g ≡ t ∷ us) → (t : Token) × (us : List Token) × (f ++ g ≡ t ∷ us)
join_starts [] g s = s
join_starts (t ∷ f) g s = (t, f ++ g, refl)

-- How the rests begin.

field_begun : (ts : List Token) (x : TypeTree × (NameTree × Option Init)) (rest : List Token) → FieldRest ts x
    → (no_annot (ts ++ rest) ≡ true) × (begins_word word.Const (ts ++ rest) ≡ false) × (begins_decl (ts ++ rest) ≡ false) × ((t : Token) × (us : List Token) × (ts ≡ t ∷ us))
field_begun ts x rest (front, back, is, ((f, g, js, d, r), o), q) =
    let s = starts_name x.0.name.name.0 f d.1 in
    (rw (is, js, s.3, s.4) refl, rw (is, js, s.3, s.4) refl, rw (is, js, s.3, s.4) refl, (s.0, (s.1 ++ g) ++ back, is ∙ ap (λ us. us ++ back) (js ∙ ap (λ us. us ++ g) s.3)))

constant_begun : (ts : List Token) (x : TypeTree × (NameTree × Expr)) (rest : List Token) → ConstantRest ts x
    → (no_annot (ts ++ rest) ≡ true) × (begins_word word.Const (ts ++ rest) ≡ true) × ((t : Token) × (us : List Token) × (ts ≡ t ∷ us))
constant_begun ts x rest (front, back, is, (t, js, k), q) = (rw (is, js, k) refl, rw (is, js, k, word_self word.Const) refl, (t, back, is ∙ ap (λ us. us ++ back) js))

returned_begun : (ts : List Token) (x : Option TypeTree) (rest : List Token) → IsReturned ts x
    → (no_annot (ts ++ rest) ≡ true) × (begins_word word.Const (ts ++ rest) ≡ false) × (begins_decl (ts ++ rest) ≡ false) × (begins_word word.Interface (ts ++ rest) ≡ false) × ((t : Token) × (us : List Token) × (ts ≡ t ∷ us))
unfolding same_word
returned_begun ts None rest (t, js, k) = (rw (js, k) refl, rw (js, k) refl, rw (js, k) refl, rw (js, k) refl, (t, [], js))
returned_begun ts (Some x) rest ((f, g, js, d, r), o) =
    let s = starts_name x.name.name.0 f d.1 in
    (rw (js, s.3, s.4) refl, rw (js, s.3, s.4) refl, rw (js, s.3, s.4) refl, rw (js, s.3, s.4) refl, (s.0, s.1 ++ g, js ∙ ap (λ us. us ++ g) s.3))

method_begun : (ts : List Token) (x : Bool × (Option TypeTree × (NameTree × (List Arg × Option Token)))) (rest : List Token) → MethodRest ts x
    → (no_annot (ts ++ rest) ≡ true) × (begins_word word.Const (ts ++ rest) ≡ false) × (begins_decl (ts ++ rest) ≡ false) × ((t : Token) × (us : List Token) × (ts ≡ t ∷ us))
unfolding same_word
method_begun ts (false, x) rest (front, back, is, e, (f, g, js, h, q)) =
    let b = returned_begun f x.0 (g ++ rest) h in
    let w : ts ≡ f ++ g = is ∙ ap (λ us. us ++ back) e ∙ js in
    let v : ts ++ rest ≡ f ++ (g ++ rest) = ap (λ us. us ++ rest) w ∙ append_assoc f g rest in
    (ap no_annot v ∙ b.0, ap (begins_word word.Const) v ∙ b.1, ap begins_decl v ∙ b.2, (b.4.0, b.4.1 ++ g, w ∙ ap (λ us. us ++ g) b.4.2))
method_begun ts (true, x) rest (front, back, is, (t, js, k), (f, g, ks, h, q)) =
    let b = returned_begun f x.0 (g ++ rest) h in
    let v : ts ++ rest ≡ t ∷ (f ++ (g ++ rest)) = ap (λ us. us ++ rest) (is ∙ ap (λ us. us ++ back) js ∙ ap (λ us. t ∷ us) ks) ∙ ap (λ us. t ∷ us) (append_assoc f g rest) in
    (ap no_annot v ∙ rw k refl, ap (begins_word word.Const) v ∙ rw k refl, ap begins_decl v ∙ rw k b.3, (t, back, is ∙ ap (λ us. us ++ back) js))

abbrev BodyBegun : List Token → Body → List Token → Type 0
BodyBegun ts b rest = (no_annot (ts ++ rest) ≡ true) × (begins_word word.Const (ts ++ rest) ≡ false) × (begins_decl (ts ++ rest) ≡ true) × ((t : Token) × (us : List Token) × (ts ≡ t ∷ us))

pub body_begun : (ts : List Token) (n : NameTree) (b : Body) (rest : List Token) → IsBody ts n b → BodyBegun ts b rest
unfolding same_word
body_begun ts n (parcelable ms) rest (head, inner, tail, is, (f, g, js, (t, ks, k), q), m, e) =
    let w : ts ≡ t ∷ ((g ++ inner) ++ tail) = is ∙ ap (λ us. (us ++ inner) ++ tail) (js ∙ ap (λ us. us ++ g) ks) in (rw (w, k) refl, rw (w, k) refl, rw (w, k) refl, (t, (g ++ inner) ++ tail, w))
body_begun ts n (union ms) rest (head, inner, tail, is, (f, g, js, (t, ks, k), q), m, e) =
    let w : ts ≡ t ∷ ((g ++ inner) ++ tail) = is ∙ ap (λ us. (us ++ inner) ++ tail) (js ∙ ap (λ us. us ++ g) ks) in (rw (w, k) refl, rw (w, k) refl, rw (w, k) refl, (t, (g ++ inner) ++ tail, w))
body_begun ts n (enum es) rest (front, back, is, (f, g, js, (t, ks, k), q), m) =
    let w : ts ≡ t ∷ (g ++ back) = is ∙ ap (λ us. us ++ back) (js ∙ ap (λ us. us ++ g) ks) in (rw (w, k) refl, rw (w, k) refl, rw (w, k) refl, (t, g ++ back, w))
body_begun ts n (interface false ms) rest (head, inner, tail, is, (o, h, hs, oe, (f, g, js, (t, ks, k), q)), m, e) =
    let w : ts ≡ t ∷ ((g ++ inner) ++ tail) = is ∙ ap (λ us. (us ++ inner) ++ tail) (hs ∙ ap (λ us. us ++ h) oe ∙ js ∙ ap (λ us. us ++ g) ks) in (rw (w, k) refl, rw (w, k) refl, rw (w, k) refl, (t, (g ++ inner) ++ tail, w))
body_begun ts n (interface true ms) rest (head, inner, tail, is, (o, h, hs, (s, os, l), (f, g, js, (t, ks, k), q)), m, e) =
    let w : ts ≡ s ∷ t ∷ ((g ++ inner) ++ tail) = is ∙ ap (λ us. (us ++ inner) ++ tail) (hs ∙ ap (λ us. us ++ h) os ∙ ap (λ us. s ∷ us) (js ∙ ap (λ us. us ++ g) ks)) in
    (rw (w, l) refl, rw (w, l) refl, rw (w, l, k) refl, (s, t ∷ ((g ++ inner) ++ tail), w))

-- What the reader of a member told, behind annotations.
abbrev RestTold : Bool → ℕ → List Annot → List Token → (Members → Members) → List Token → Type 0
RestTold inside o annots us m rest = (back : List Token) × (us ≡ back ++ rest) × ((t : Token) × (vs : List Token) × (back ≡ t ∷ vs))
    × ((f : List Token) → AreAnnots f annots → o ≡ first (f ++ back) → (i : Item) × IsItem inside (f ++ back) i × (put i ≡ m))

of_constant : (inside : Bool) (ts : List Token) (o : ℕ) (annots : List Annot) (x : TypeTree × (NameTree × Expr)) → Then AreAnnots ConstantRest ts (annots, x) → o ≡ first ts
    → IsItem inside ts (constant_item (record { offset = o; annots = annots; ty = x.0; name = x.1.0; value = x.1.1 }))
of_constant false ts o annots x h e = (h, e)
of_constant true ts o annots x h e = (h, e)

constant_told : (n : ℕ) (inside : Bool) (o : ℕ) (annots : List Annot) (us : List Token) (m : Members → Members) (rest : List Token)
    → alter (constant_made o annots) (constant_at (suc n)) us ≡ Some (m, rest) → RestTold inside o annots us m rest
constant_told n inside o annots us m rest e =
    let b = bind_some (constant_at (suc n) us) (altered (constant_made o annots)) (m, rest) e in
    let h = (constant_law n any).told us b.0.0 b.0.1 b.1 in
    let p = pair_some {A = Members → Members} (constant_made o annots b.0.0) m b.0.1 rest b.2 in
    let s = constant_begun h.0 b.0.0 [] h.2 in
    (h.0, h.1 ∙ ap (λ x. h.0 ++ x) p.1, s.2, λ f a first_is. (constant_item (record { offset = o; annots = annots; ty = b.0.0.0; name = b.0.0.1.0; value = b.0.0.1.1 }), of_constant inside (f ++ h.0) o annots b.0.0 (f, h.0, refl, a, h.2) first_is, p.0))

of_nested : (inside : Bool) (ts : List Token) (o : ℕ) (annots : List Annot) (n : NameTree) (body : Body) (f g : List Token) → ts ≡ f ++ g → AreAnnots f annots → IsBody g n body → o ≡ first ts → IsItem inside ts (nested_item (decl o annots n body))
of_nested false ts o annots n body f g is a h e = (f, g, is, a, h, e)
of_nested true ts o annots n body f g is a h e = (f, g, is, a, h, e)

nested_told : (k : ℕ) (declare : Declare) → DeclareLaw k declare → (inside : Bool) (o : ℕ) (annots : List Annot) (us : List Token) (m : Members → Members) (rest : List Token)
    → alter nested_made (declare o annots) us ≡ Some (m, rest) → RestTold inside o annots us m rest
nested_told k declare laws inside o annots us m rest e =
    let b = bind_some (declare o annots us) (altered nested_made) (m, rest) e in
    let h = (laws o annots).told us b.0.0 b.0.1 b.1 in
    let p = pair_some {A = Members → Members} (nested_made b.0.0) m b.0.1 rest b.2 in
    let d = h.2 in
    let s = body_begun h.0 d.0 d.1 [] d.3 in
    (h.0, h.1 ∙ ap (λ x. h.0 ++ x) p.1, s.3, λ f a first_is. (nested_item (decl o annots d.0 d.1), of_nested inside (f ++ h.0) o annots d.0 d.1 f h.0 refl a d.3 first_is, ap nested_made (sym d.2) ∙ p.0))

method_told : (n o : ℕ) (annots : List Annot) (us : List Token) (m : Members → Members) (rest : List Token)
    → alter (method_made o annots) (method_at (suc n)) us ≡ Some (m, rest) → RestTold true o annots us m rest
method_told n o annots us m rest e =
    let b = bind_some (method_at (suc n) us) (altered (method_made o annots)) (m, rest) e in
    let h = (method_law n any).told us b.0.0 b.0.1 b.1 in
    let p = pair_some {A = Members → Members} (method_made o annots b.0.0) m b.0.1 rest b.2 in
    let s = method_begun h.0 b.0.0 [] h.2 in (
      h.0,
      h.1 ∙ ap (λ x. h.0 ++ x) p.1,
      s.3,
      λ f a first_is.
          (method_item (record { offset = o; annots = annots; oneway = b.0.0.0; returned = b.0.0.1.0; name = b.0.0.1.1.0; args = b.0.0.1.1.1.0; id = b.0.0.1.1.1.1 }), ((f, h.0, refl, a, h.2), first_is), p.0),
    )

field_told : (n o : ℕ) (annots : List Annot) (us : List Token) (m : Members → Members) (rest : List Token)
    → alter (field_made o annots) (field_at (suc n)) us ≡ Some (m, rest) → RestTold false o annots us m rest
field_told n o annots us m rest e =
    let b = bind_some (field_at (suc n) us) (altered (field_made o annots)) (m, rest) e in
    let h = (field_law n any).told us b.0.0 b.0.1 b.1 in
    let p = pair_some {A = Members → Members} (field_made o annots b.0.0) m b.0.1 rest b.2 in
    let s = field_begun h.0 b.0.0 [] h.2 in
    (h.0, h.1 ∙ ap (λ x. h.0 ++ x) p.1, s.3, λ f a first_is. (field_item (record { offset = o; annots = annots; ty = b.0.0.0; name = b.0.0.1.0; initial = b.0.0.1.1 }), ((f, h.0, refl, a, h.2), first_is), p.0))

plain_told : (n : ℕ) (inside : Bool) (o : ℕ) (annots : List Annot) (us : List Token) (m : Members → Members) (rest : List Token)
    → cond inside (alter (method_made o annots) (method_at (suc n)) us) (alter (field_made o annots) (field_at (suc n)) us) ≡ Some (m, rest) → RestTold inside o annots us m rest
plain_told n true o annots us m rest e = method_told n o annots us m rest e
plain_told n false o annots us m rest e = field_told n o annots us m rest e

rest_told : (n : ℕ) (declare : Declare) (k : ℕ) → DeclareLaw k declare → (inside : Bool) (o : ℕ) (annots : List Annot) (us : List Token) (m : Members → Members) (rest : List Token)
    → member_by declare (suc n) inside o annots us ≡ Some (m, rest) → RestTold inside o annots us m rest
unfolding member_by
rest_told n declare k laws inside o annots us m rest e = go (begins_word word.Const us) (begins_decl us) e where
  go : (v w : Bool) → cond v (alter (constant_made o annots) (constant_at (suc n)) us) (cond w (alter nested_made (declare o annots) us) (cond inside (alter (method_made o annots) (method_at (suc n)) us) (alter (field_made o annots) (field_at (suc n)) us))) ≡ Some (m, rest)
      → RestTold inside o annots us m rest
  go true w e = constant_told n inside o annots us m rest e
  go false true e = nested_told k declare laws inside o annots us m rest e
  go false false e = plain_told n inside o annots us m rest e

abbrev ItemTold : Bool → List Token → (Members → Members) → List Token → Type 0
ItemTold inside ts m rest = (front : List Token) × (ts ≡ front ++ rest) × (i : Item) × IsItem inside front i × (put i ≡ m)

pub item_told : (n : ℕ) (declare : Declare) (k : ℕ) → DeclareLaw k declare → (inside : Bool) (ts : List Token) (m : Members → Members) (rest : List Token)
    → member_with declare (suc n) inside ts ≡ Some (m, rest) → ItemTold inside ts m rest
unfolding member_with
item_told n declare k laws inside ts m rest e =
    let a = bind_some (annots_at (suc n) ts) (member_behind declare (suc n) inside (first ts)) (m, rest) e in
    let f = (annots_law n).told ts a.0.0 a.0.1 a.1 in
    let r = rest_told n declare k laws inside (first ts) a.0.0 a.0.1 m rest a.2 in
    let is : ts ≡ (f.0 ++ r.0) ++ rest = f.1 ∙ ap (λ x. f.0 ++ x) r.1 ∙ sym (append_assoc f.0 r.0 rest) in
    let j = join_starts f.0 r.0 r.2 in
    let o : first ts ≡ first (f.0 ++ r.0) = ap first is ∙ some_first (f.0 ++ r.0) rest j.0 j.1 j.2 in
    let i = r.3 f.0 f.2 o in
    (f.0 ++ r.0, is, i.0, i.1, i.2)

-- What stands for a member is read.

member_steps : (n : ℕ) (declare : Declare) (inside : Bool) (ts us : List Token) (annots : List Annot) (r : Read (Members → Members)) → annots_at n ts ≡ Some (annots, us) → member_by declare n inside (first ts) annots us ≡ r
    → member_with declare n inside ts ≡ r
unfolding member_with
member_steps n declare inside ts us annots r e f = ap (λ z. z >>= member_behind declare n inside (first ts)) e ∙ f

abbrev ItemFound : ℕ → Declare → Bool → List Token → Item → List Token → Type 0
ItemFound n declare inside ts i rest = member_with declare n inside (ts ++ rest) ≡ Some (put i, rest)

constant_found : (n : ℕ) (declare : Declare) (inside : Bool) (ts : List Token) (c : Constant) (rest : List Token) → length ts ≤ n → IsConstant ts c → ItemFound (suc n) declare inside ts (constant_item c) rest
unfolding member_by
constant_found n declare inside ts c rest len ((f, g, is, a, h), o) =
    let l : length ts ≡ length f + length g = ap length is ∙ length-append f g in
    let b = constant_begun g (c.ty, (c.name, c.value)) rest h in
    let w : ts ++ rest ≡ f ++ (g ++ rest) = ap (λ us. us ++ rest) is ∙ append_assoc f g rest in
    let j = join_starts f g b.2 in
    let first_is : first (ts ++ rest) ≡ c.offset = some_first ts rest j.0 j.1 (is ∙ j.2) ∙ sym o in
    member_steps (suc n) declare inside (ts ++ rest) (g ++ rest) c.annots _ (ap (annots_at (suc n)) w ∙ (annots_law n).found f c.annots (g ++ rest) (omega arith) a b.0)
    (rw b.1 (ap (λ z. z >>= altered (constant_made (first (ts ++ rest)) c.annots)) ((constant_law n any).found g (c.ty, (c.name, c.value)) rest (omega arith) h refl)
    ∙ ap (λ k. Some (constant_made k c.annots (c.ty, (c.name, c.value)), rest)) first_is))

field_found : (n : ℕ) (declare : Declare) (ts : List Token) (c : Field) (rest : List Token) → length ts ≤ n → IsField ts c → ItemFound (suc n) declare false ts (field_item c) rest
unfolding member_by
field_found n declare ts c rest len ((f, g, is, a, h), o) =
    let l : length ts ≡ length f + length g = ap length is ∙ length-append f g in
    let b = field_begun g (c.ty, (c.name, c.initial)) rest h in
    let w : ts ++ rest ≡ f ++ (g ++ rest) = ap (λ us. us ++ rest) is ∙ append_assoc f g rest in
    let j = join_starts f g b.3 in
    let first_is : first (ts ++ rest) ≡ c.offset = some_first ts rest j.0 j.1 (is ∙ j.2) ∙ sym o in
    member_steps (suc n) declare false (ts ++ rest) (g ++ rest) c.annots _ (ap (annots_at (suc n)) w ∙ (annots_law n).found f c.annots (g ++ rest) (omega arith) a b.0)
    (rw (b.1, b.2) (ap (λ z. z >>= altered (field_made (first (ts ++ rest)) c.annots)) ((field_law n any).found g (c.ty, (c.name, c.initial)) rest (omega arith) h refl)
    ∙ ap (λ k. Some (field_made k c.annots (c.ty, (c.name, c.initial)), rest)) first_is))

method_found : (n : ℕ) (declare : Declare) (ts : List Token) (c : Method) (rest : List Token) → length ts ≤ n → IsMethod ts c → ItemFound (suc n) declare true ts (method_item c) rest
unfolding member_by
method_found n declare ts c rest len ((f, g, is, a, h), o) =
    let l : length ts ≡ length f + length g = ap length is ∙ length-append f g in
    let b = method_begun g (c.oneway, (c.returned, (c.name, (c.args, c.id)))) rest h in
    let w : ts ++ rest ≡ f ++ (g ++ rest) = ap (λ us. us ++ rest) is ∙ append_assoc f g rest in
    let j = join_starts f g b.3 in
    let first_is : first (ts ++ rest) ≡ c.offset = some_first ts rest j.0 j.1 (is ∙ j.2) ∙ sym o in
    member_steps (suc n) declare true (ts ++ rest) (g ++ rest) c.annots _ (ap (annots_at (suc n)) w ∙ (annots_law n).found f c.annots (g ++ rest) (omega arith) a b.0)
    (rw (b.1, b.2) (ap (λ z. z >>= altered (method_made (first (ts ++ rest)) c.annots)) ((method_law n any).found g (c.oneway, (c.returned, (c.name, (c.args, c.id)))) rest (omega arith) h refl)
    ∙ ap (λ k. Some (method_made k c.annots (c.oneway, (c.returned, (c.name, (c.args, c.id)))), rest)) first_is))

nested_found : (n : ℕ) (declare : Declare) (k : ℕ) → DeclareLaw k declare → (inside : Bool) (ts : List Token) (o : ℕ) (annots : List Annot) (nm : NameTree) (body : Body) (rest : List Token) → length ts ≤ n → length ts ≤ k → IsDecl ts (decl o annots nm body)
    → ItemFound (suc n) declare inside ts (nested_item (decl o annots nm body)) rest
unfolding member_by
nested_found n declare k laws inside ts o annots nm body rest len le (f, g, is, a, h, o_is) =
    let l : length ts ≡ length f + length g = ap length is ∙ length-append f g in
    let b = body_begun g nm body rest h in
    let w : ts ++ rest ≡ f ++ (g ++ rest) = ap (λ us. us ++ rest) is ∙ append_assoc f g rest in
    let j = join_starts f g b.3 in
    let first_is : first (ts ++ rest) ≡ o = some_first ts rest j.0 j.1 (is ∙ j.2) ∙ sym o_is in
    let d : declare o annots (g ++ rest) ≡ Some (decl o annots nm body, rest) = (laws o annots).found g (decl o annots nm body) rest (omega arith) (nm, body, refl, h) refl in
    member_steps (suc n) declare inside (ts ++ rest) (g ++ rest) annots _ (ap (annots_at (suc n)) w ∙ (annots_law n).found f annots (g ++ rest) (omega arith) a b.0)
    (rw (b.1, b.2) (ap (λ p. alter nested_made (declare p annots) (g ++ rest)) first_is ∙ ap (λ z. z >>= altered nested_made) d))

pub item_found : (n : ℕ) (declare : Declare) (k : ℕ) → DeclareLaw k declare → (inside : Bool) (ts : List Token) (i : Item) (rest : List Token) → length ts ≤ n → length ts ≤ k → IsItem inside ts i → ItemFound (suc n) declare inside ts i rest
item_found n declare k laws false ts (field_item f) rest len le h = field_found n declare ts f rest len h
item_found n declare k laws true ts (field_item f) rest len le h = absurd h
item_found n declare k laws false ts (constant_item c) rest len le h = constant_found n declare false ts c rest len h
item_found n declare k laws true ts (constant_item c) rest len le h = constant_found n declare true ts c rest len h
item_found n declare k laws false ts (method_item m) rest len le h = absurd h
item_found n declare k laws true ts (method_item m) rest len le h = method_found n declare ts m rest len h
item_found n declare k laws false ts (nested_item (decl o annots nm body)) rest len le h = nested_found n declare k laws false ts o annots nm body rest len le h
item_found n declare k laws true ts (nested_item (decl o annots nm body)) rest len le h = nested_found n declare k laws true ts o annots nm body rest len le h
