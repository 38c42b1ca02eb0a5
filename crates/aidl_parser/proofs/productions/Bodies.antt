-- The laws of members, declarations and files.
use Rattle.std.proofs.Common.{◌⊎◌, inl, inr, ◌≡◌, ℕ, zero, suc, ◌+◌, ◌-◌, ◌≤◌, ◌<◌, Bool, true, false, cond, List, [], ◌∷◌, ◌++◌, length, Option, Some, None, refl, sym, ap, subst, ◌∙◌, arith, append_assoc, length-append}
use Rattle.aidl_base.specs.declared.reserved.Reserved.{Reserved}
use Rattle.aidl_base.specs.declared.reserved.Reserved.TheVariants as word
use Rattle.aidl_syntax.specs.declared.token.Symbol.TheVariants as mark
use Rattle.aidl_syntax.specs.declared.token.TokenKind.TheVariants as kind
use Rattle.aidl_syntax.specs.declared.token.Token.{Token}
use Rattle.aidl_syntax.specs.declared.tree.NameTree.{NameTree}
use Rattle.aidl_syntax.specs.Parts.{Form, Then, Quoted, Worded, Before, Trailing}
use Rattle.aidl_syntax.specs.Trees.{Annot, Enumerator, Decl, Body, Members}
use Rattle.aidl_syntax.specs.Trees.Body.{parcelable, union, enum, interface}
use Rattle.aidl_syntax.specs.Trees.Members.{none, field, constant, method, nested}
use Rattle.aidl_syntax.specs.Productions.{IsIdent, IsEnumerator, IsOneway, IsBody}
use Rattle.expr_parser.specs.Reading.{Read, mark_of, names, dotted, ◌>>=◌}
use Rattle.aidl_parser.specs.steps.Parts.{same_symbol, same_word, begins, begins_word, quoted, worded, before, then_at, both, altered, alter, second, fore, upto}
use Rattle.aidl_parser.specs.steps.Types.{ident, type_at}
use Rattle.aidl_parser.specs.steps.Inits.{annots_at, trailing}
use Rattle.aidl_parser.specs.steps.Members.{field_at, method_at, oneway_at, returned_at}
use Rattle.aidl_parser.specs.steps.Items.{enumerator_at}
use Rattle.aidl_parser.specs.steps.Decls.{head_at, member_by, member_with, joined, members_behind, members_by, braced_at, as_parcelable, as_union, as_enum, as_interface, enum_at, body_by, declared, decl_at}
use Rattle.expr_parser.proofs.lemmas.Told.{bind_some, pair_some, chosen, is_mark}
use Rattle.aidl_parser.proofs.productions.Laws.{IsTold, IsFound, Law, MayFollow, any, both_law, alter_law, quoted_law, worded_law, upto_law, unless, same_self, word_self, symbol_is}
use Rattle.aidl_parser.proofs.productions.Types.{ident_law}
use Rattle.aidl_parser.proofs.productions.Fields.{oneway_law, enumerators_law}
use Rattle.aidl_parser.proofs.productions.Decls.{Item, put, IsItem, MembersOf, DeclRest, Declare, DeclareLaw, item_told, item_found, body_begun}
use Rattle.aidl_parser.proofs.productions.Decls.Item.{field_item, constant_item, method_item, nested_item}

-- No member begins at a closing brace or at the end.

close_none : (n : ℕ) (declare : Declare) (inside : Bool) (t : Token) (us : List Token) → t.kind ≡ kind.Mark mark.CloseBrace → member_with declare (suc n) inside (t ∷ us) ≡ None
unfolding member_with annots_at member_by method_at oneway_at returned_at field_at type_at dotted names same_symbol
close_none n declare true t us k = rw k refl
close_none n declare false t us k = rw k refl

empty_none : (n : ℕ) (declare : Declare) (inside : Bool) → member_with declare (suc n) inside [] ≡ None
unfolding member_with annots_at member_by method_at oneway_at returned_at field_at type_at dotted names
empty_none n declare true = refl
empty_none n declare false = refl

some_item : (n : ℕ) (declare : Declare) (inside : Bool) (ts : List Token) (i : Item) (rest : List Token) → member_with declare (suc n) inside (ts ++ rest) ≡ Some (put i, rest) → begins mark.CloseBrace (ts ++ rest) ≡ false
some_item n declare inside ts i rest e = go (ts ++ rest) e where
  go : (us : List Token) → member_with declare (suc n) inside us ≡ Some (put i, rest) → begins mark.CloseBrace us ≡ false
  go [] e = refl
  go (t ∷ us) e = by (begins mark.CloseBrace (t ∷ us)) refl where
    by : (v : Bool) → begins mark.CloseBrace (t ∷ us) ≡ v → begins mark.CloseBrace (t ∷ us) ≡ false
    by false b = b
    by true b = let c = close_none n declare inside t us (is_mark t.kind mark.CloseBrace (symbol_is mark.CloseBrace (mark_of t.kind) b)) in cc

item_size : (n : ℕ) (declare : Declare) (inside : Bool) (ts : List Token) (i : Item) → member_with declare (suc n) inside (ts ++ []) ≡ Some (put i, []) → 0 < length ts
item_size n declare inside [] i e = let c = empty_none n declare inside in cc
item_size n declare inside (t ∷ ts) i e = omega arith

-- Members.

of_none : (inside : Bool) → MembersOf inside [] none
of_none false = refl
of_none true = refl

of_put : (inside : Bool) (f g : List Token) (i : Item) (ms : Members) → IsItem inside f i → MembersOf inside g ms → MembersOf inside (f ++ g) (put i ms)
of_put false f g (field_item x) ms h m = (f, g, refl, h, m)
of_put true f g (field_item x) ms h m = absurd h
of_put false f g (constant_item x) ms h m = (f, g, refl, h, m)
of_put true f g (constant_item x) ms h m = (f, g, refl, h, m)
of_put false f g (method_item x) ms h m = absurd h
of_put true f g (method_item x) ms h m = (f, g, refl, h, m)
of_put false f g (nested_item x) ms h m = (f, g, refl, h, m)
of_put true f g (nested_item x) ms h m = (f, g, refl, h, m)

abbrev Parted : Bool → List Token → Members → Type 0
Parted inside ts ms = ((ts ≡ []) × (ms ≡ none)) ⊎ ((f g : List Token) × (i : Item) × (more : Members) × (ts ≡ f ++ g) × (ms ≡ put i more) × IsItem inside f i × MembersOf inside g more)

parted : (inside : Bool) (ts : List Token) (ms : Members) → MembersOf inside ts ms → Parted inside ts ms
parted false ts none h = inl (h, refl)
parted true ts none h = inl (h, refl)
parted false ts (field x ms) (f, g, is, h, m) = inr (f, g, field_item x, ms, is, refl, h, m)
parted true ts (field x ms) h = absurd h
parted false ts (constant x ms) (f, g, is, h, m) = inr (f, g, constant_item x, ms, is, refl, h, m)
parted true ts (constant x ms) (f, g, is, h, m) = inr (f, g, constant_item x, ms, is, refl, h, m)
parted false ts (method x ms) h = absurd h
parted true ts (method x ms) (f, g, is, h, m) = inr (f, g, method_item x, ms, is, refl, h, m)
parted false ts (nested x ms) (f, g, is, h, m) = inr (f, g, nested_item x, ms, is, refl, h, m)
parted true ts (nested x ms) (f, g, is, h, m) = inr (f, g, nested_item x, ms, is, refl, h, m)

-- the readers of members with so much fuel
abbrev members_in : ℕ → Declare → Bool → ℕ → List Token → Read Members
members_in n declare inside j ts = members_by (λ vs. member_with declare (suc n) inside vs) j ts

members_told : (n k : ℕ) (declare : Declare) → DeclareLaw k declare → (inside : Bool) (j : ℕ) → IsTold (members_in n declare inside j) (MembersOf inside)
members_told n k declare laws inside zero ts ms rest e = go (chosen (begins mark.CloseBrace ts) (Some (none, ts)) None (Some (ms, rest)) e) where
  go : ((begins mark.CloseBrace ts ≡ true) × (◌≡◌ {A = Read Members} (Some (none, ts)) (Some (ms, rest)))) ⊎ ((begins mark.CloseBrace ts ≡ false) × (◌≡◌ {A = Read Members} None (Some (ms, rest)))) → (front : List Token) × (ts ≡ front ++ rest) × MembersOf inside front ms
  go (inl (y, d)) = let p = pair_some {A = Members} none ms ts rest d in ([], p.1, subst (MembersOf inside []) p.0 (of_none inside))
  go (inr (y, d)) = cc
members_told n k declare laws inside (suc j) ts ms rest e = go (members_told n k declare laws inside j) (chosen (begins mark.CloseBrace ts) (Some (none, ts)) (member_with declare (suc n) inside ts >>= members_behind (members_in n declare inside j)) (Some (ms, rest)) e) where
  go : IsTold (members_in n declare inside j) (MembersOf inside)
      → ((begins mark.CloseBrace ts ≡ true) × (◌≡◌ {A = Read Members} (Some (none, ts)) (Some (ms, rest)))) ⊎ ((begins mark.CloseBrace ts ≡ false) × ((member_with declare (suc n) inside ts >>= members_behind (members_in n declare inside j)) ≡ Some (ms, rest)))
      → (front : List Token) × (ts ≡ front ++ rest) × MembersOf inside front ms
  go ih (inl (y, d)) = let p = pair_some {A = Members} none ms ts rest d in ([], p.1, subst (MembersOf inside []) p.0 (of_none inside))
  go ih (inr (y, d)) =
      let a = bind_some (member_with declare (suc n) inside ts) (members_behind (members_in n declare inside j)) (ms, rest) d in
      let b = bind_some (members_in n declare inside j a.0.1) (joined a.0.0) (ms, rest) a.2 in
      let f = item_told n declare k laws inside ts a.0.0 a.0.1 a.1 in
      let g = ih a.0.1 b.0.0 b.0.1 b.1 in
      let p = pair_some {A = Members} (a.0.0 b.0.0) ms b.0.1 rest b.2 in
      let h : MembersOf inside (f.0 ++ g.0) (put f.2 b.0.0) = of_put inside f.0 g.0 f.2 b.0.0 f.3 g.2 in
      (f.0 ++ g.0, f.1 ∙ ap (λ us. f.0 ++ us) (g.1 ∙ ap (λ us. g.0 ++ us) p.1) ∙ sym (append_assoc f.0 g.0 rest), subst (MembersOf inside (f.0 ++ g.0)) (ap (λ q. q b.0.0) f.4 ∙ p.0) h)

members_found : (n k : ℕ) (declare : Declare) → DeclareLaw k declare → (inside : Bool) (j : ℕ) (ts : List Token) (ms : Members) (rest : List Token) → length ts ≤ n → length ts ≤ k → length ts ≤ j → MembersOf inside ts ms
    → begins mark.CloseBrace rest ≡ true → members_in n declare inside j (ts ++ rest) ≡ Some (ms, rest)
members_found n k declare laws inside zero ts ms rest ln lk lj h ok = go (parted inside ts ms h) where
  go : Parted inside ts ms → members_in n declare inside zero (ts ++ rest) ≡ Some (ms, rest)
  go (inl (e, m)) = rw (e, m, ok) refl
  go (inr (f, g, i, more, is, m, hi, hm)) =
      let l : length ts ≡ length f + length g = ap length is ∙ length-append f g in
      let z = item_size n declare inside f i (item_found n declare k laws inside f i [] (omega arith) (omega arith) hi) in absurd (omega arith)
members_found n k declare laws inside (suc j) ts ms rest ln lk lj h ok = go (members_found n k declare laws inside j) (parted inside ts ms h) where
  go : ((ts : List Token) (ms : Members) (rest : List Token) → length ts ≤ n → length ts ≤ k → length ts ≤ j → MembersOf inside ts ms → begins mark.CloseBrace rest ≡ true → members_in n declare inside j (ts ++ rest) ≡ Some (ms, rest))
      → Parted inside ts ms → members_in n declare inside (suc j) (ts ++ rest) ≡ Some (ms, rest)
  go ih (inl (e, m)) = rw (e, m, ok) refl
  go ih (inr (f, g, i, more, is, m, hi, hm)) =
      let l : length ts ≡ length f + length g = ap length is ∙ length-append f g in
      let z = item_size n declare inside f i (item_found n declare k laws inside f i [] (omega arith) (omega arith) hi) in
      let w : ts ++ rest ≡ f ++ (g ++ rest) = ap (λ us. us ++ rest) is ∙ append_assoc f g rest in
      let a = item_found n declare k laws inside f i (g ++ rest) (omega arith) (omega arith) hi in
      let b = some_item n declare inside f i (g ++ rest) a in
      let c = ih g more rest (omega arith) (omega arith) (omega arith) hm ok in
      rw (w, b) (ap (λ q. q >>= members_behind (members_in n declare inside j)) a ∙ ap (λ q. q >>= joined (put i)) c ∙ ap (λ q. Some (q, rest)) (sym m))

-- Declarations.

abbrev Head : Reserved → Form NameTree
Head w ts n = Then (Worded w) (Before IsIdent mark.OpenBrace) ts (tt, n)

head_law : (n : ℕ) (w : Reserved) (F : List Token → Bool) → Law n (head_at w) (Head w) F
unfolding head_at
head_law n w F =
    alter_law n second (λ y. (tt, y)) (both (worded w) (upto ident mark.OpenBrace)) (Then (Worded w) (Before IsIdent mark.OpenBrace)) F (λ x. refl) (λ y. refl)
    (both_law n (worded w) (upto ident mark.OpenBrace) (Worded w) (Before IsIdent mark.OpenBrace) any F (worded_law n w any) (upto_law n ident mark.OpenBrace IsIdent any F (ident_law n any) (λ t us k. refl)) (λ ts y rest q ok. refl))

head_size : (w : Reserved) (ts : List Token) (n : NameTree) → Head w ts n → 0 < length ts
head_size w ts n (f, g, is, (t, js, k), q) = let e : length ts ≡ suc (length g) = ap length (is ∙ ap (λ us. us ++ g) js) in omega arith

-- the readers of members, each of fewer tokens than n
abbrev pub MembersLaw : ℕ → (Bool → List Token → Read Members) → Type 0
MembersLaw n mems = ((inside : Bool) → IsTold (mems inside) (MembersOf inside))
    × ((inside : Bool) (ts : List Token) (ms : Members) (rest : List Token) → suc (length ts) ≤ n → MembersOf inside ts ms → begins mark.CloseBrace rest ≡ true → mems inside (ts ++ rest) ≡ Some (ms, rest))

abbrev Braced : Reserved → Bool → Form (NameTree × Members)
Braced w inside ts x = (head inner tail : List Token) × (ts ≡ head ++ (inner ++ tail)) × Head w head x.0 × MembersOf inside inner x.1 × Quoted mark.CloseBrace tail tt

braced_told : (n : ℕ) (mems : Bool → List Token → Read Members) → MembersLaw n mems → (w : Reserved) (inside : Bool) → IsTold (braced_at mems w inside) (Braced w inside)
unfolding braced_at
braced_told n mems laws w inside ts x rest e =
    let a = bind_some (head_at w ts) (then_at (upto (mems inside) mark.CloseBrace)) (x, rest) e in
    let b = bind_some (upto (mems inside) mark.CloseBrace a.0.1) (before a.0.0) (x, rest) a.2 in
    let c = bind_some (both (mems inside) (quoted mark.CloseBrace) a.0.1) (altered fore) b.0 b.1 in
    let d = bind_some (mems inside a.0.1) (then_at (quoted mark.CloseBrace)) c.0 c.1 in
    let q = bind_some (quoted mark.CloseBrace d.0.1) (before d.0.0) c.0 d.2 in
    let f = (head_law n w any).told ts a.0.0 a.0.1 a.1 in
    let g = laws.0 inside a.0.1 d.0.0 d.0.1 d.1 in
    let h = (quoted_law n mark.CloseBrace any).told d.0.1 q.0.0 q.0.1 q.1 in
    let p = pair_some {A = Members × Unit {0}} (d.0.0, q.0.0) c.0.0 q.0.1 c.0.1 q.2 in
    let r = pair_some {A = Members} c.0.0.0 b.0.0 c.0.1 b.0.1 c.2 in
    let s = pair_some {A = NameTree × Members} (a.0.0, b.0.0) x b.0.1 rest b.2 in
    let ms : d.0.0 ≡ b.0.0 = ap (λ z. z.0) p.0 ∙ r.0 in
    let end : q.0.1 ≡ rest = p.1 ∙ r.1 ∙ s.1 in
    let is : ts ≡ (f.0 ++ (g.0 ++ h.0)) ++ q.0.1 = f.1 ∙ ap (λ us. f.0 ++ us) (g.1 ∙ ap (λ us. g.0 ++ us) h.1 ∙ sym (append_assoc g.0 h.0 q.0.1)) ∙ sym (append_assoc f.0 (g.0 ++ h.0) q.0.1) in
    let t : Braced w inside (f.0 ++ (g.0 ++ h.0)) (a.0.0, b.0.0) = (f.0, g.0, h.0, refl, f.2, subst (MembersOf inside g.0) ms g.2, h.2) in
    (f.0 ++ (g.0 ++ h.0), is ∙ ap (λ us. (f.0 ++ (g.0 ++ h.0)) ++ us) end, subst (Braced w inside (f.0 ++ (g.0 ++ h.0))) s.0 t)

braced_found : (n : ℕ) (mems : Bool → List Token → Read Members) → MembersLaw n mems → (w : Reserved) (inside : Bool) → IsFound n (braced_at mems w inside) (Braced w inside) any
unfolding braced_at
braced_found n mems laws w inside ts x rest len (head, inner, tail, is, h, m, (t, ks, k)) ok =
    let l : length ts ≡ length head + (length inner + length tail) = ap length is ∙ length-append head (inner ++ tail) ∙ ap (λ v. length head + v) (length-append inner tail) in
    let z = head_size w head x.0 h in
    let b : begins mark.CloseBrace (tail ++ rest) ≡ true = rw (ks, k, same_self mark.CloseBrace) refl in
    let q : quoted mark.CloseBrace (tail ++ rest) ≡ Some (tt, rest) = rw (ks, k, same_self mark.CloseBrace) refl in
    let s : ts ++ rest ≡ head ++ (inner ++ (tail ++ rest)) = ap (λ us. us ++ rest) is ∙ append_assoc head (inner ++ tail) rest ∙ ap (λ us. head ++ us) (append_assoc inner tail rest) in
    let a : head_at w (head ++ (inner ++ (tail ++ rest))) ≡ Some (x.0, inner ++ (tail ++ rest)) = (head_law n w any).found head x.0 (inner ++ (tail ++ rest)) (omega arith) h refl in
    let c : mems inside (inner ++ (tail ++ rest)) ≡ Some (x.1, tail ++ rest) = laws.1 inside inner x.1 (tail ++ rest) (omega arith) m b in
    ap (both (head_at w) (upto (mems inside) mark.CloseBrace)) s ∙ ap (λ v. v >>= then_at (upto (mems inside) mark.CloseBrace)) a
    ∙ ap (λ v. ((v >>= then_at (quoted mark.CloseBrace)) >>= altered fore) >>= before x.0) c
    ∙ ap (λ v. ((v >>= before x.1) >>= altered fore) >>= before x.0) q

braced_law : (n : ℕ) (mems : Bool → List Token → Read Members) → MembersLaw n mems → (w : Reserved) (inside : Bool) → Law n (braced_at mems w inside) (Braced w inside) any
braced_law n mems laws w inside = record { told = braced_told n mems laws w inside; found = braced_found n mems laws w inside }

abbrev Enumerated : Form (NameTree × List Enumerator)
Enumerated = Then (Head word.Enum) (Before (Trailing IsEnumerator) mark.CloseBrace)

enum_law : (n : ℕ) → Law n (enum_at (suc n)) Enumerated any
unfolding enum_at
enum_law n =
    both_law n (head_at word.Enum) (upto (trailing (suc n) (enumerator_at (suc n))) mark.CloseBrace) (Head word.Enum) (Before (Trailing IsEnumerator) mark.CloseBrace) any any (head_law n word.Enum any)
    (upto_law n (trailing (suc n) (enumerator_at (suc n))) mark.CloseBrace (Trailing IsEnumerator) (begins mark.CloseBrace) any (enumerators_law n) (λ t us k. rw (k, same_self mark.CloseBrace) refl))
    (λ ts y rest q ok. refl)

abbrev Interface : Form (Bool × (NameTree × Members))
Interface = Then IsOneway (Braced word.Interface true)

after_oneway : MayFollow (unless (begins_word word.Oneway) any) (Braced word.Interface true) any
unfolding same_word
after_oneway ts x rest (head, inner, tail, is, (f, g, js, (t, ks, k), q), m, e) ok = rw (is, js, ks, k) refl

interface_law : (n : ℕ) (mems : Bool → List Token → Read Members) → MembersLaw n mems → Law n (both oneway_at (braced_at mems word.Interface true)) Interface any
interface_law n mems laws =
    both_law n oneway_at (braced_at mems word.Interface true) IsOneway (Braced word.Interface true) (unless (begins_word word.Oneway) any) any (oneway_law n) (braced_law n mems laws word.Interface true) after_oneway

-- the body's own words
abbrev BodyIs : Form (NameTree × Body)
BodyIs ts x = IsBody ts x.0 x.1

assoc3 : (a b c : List Token) → a ++ (b ++ c) ≡ a ++ b ++ c
assoc3 a b c = sym (append_assoc a b c)

parcelable_of : (ts : List Token) (x : NameTree × Members) → Braced word.Parcelable false ts x → IsBody ts x.0 (parcelable x.1)
parcelable_of ts x (head, inner, tail, is, h, m, q) = (head, inner, tail, is ∙ assoc3 head inner tail, h, m, q)

union_of : (ts : List Token) (x : NameTree × Members) → Braced word.Union false ts x → IsBody ts x.0 (union x.1)
union_of ts x (head, inner, tail, is, h, m, q) = (head, inner, tail, is ∙ assoc3 head inner tail, h, m, q)

enum_of : (ts : List Token) (x : NameTree × List Enumerator) → Enumerated ts x → IsBody ts x.0 (enum x.1)
enum_of ts x (f, g, is, h, q) = (f, g, is, h, q)

interface_of : (ts : List Token) (x : Bool × (NameTree × Members)) → Interface ts x → IsBody ts x.1.0 (interface x.0 x.1.1)
interface_of ts x (o, back, is, w, (head, inner, tail, js, h, m, q)) =
    (o ++ head, inner, tail, is ∙ ap (λ us. o ++ us) js ∙ sym (append_assoc o head (inner ++ tail)) ∙ assoc3 (o ++ head) inner tail, (o, head, refl, w, h), m, q)

body_told : (n : ℕ) (mems : Bool → List Token → Read Members) → MembersLaw n mems → IsTold (body_by mems (suc n)) BodyIs
unfolding body_by
body_told n mems laws ts x rest e = go (begins_word word.Parcelable ts) (begins_word word.Union ts) (begins_word word.Enum ts) e where
  go : (u v w : Bool) → cond u (alter as_parcelable (braced_at mems word.Parcelable false) ts) (cond v (alter as_union (braced_at mems word.Union false) ts) (cond w (alter as_enum (enum_at (suc n)) ts) (alter as_interface (both oneway_at (braced_at mems word.Interface true)) ts))) ≡ Some (x, rest)
      → (front : List Token) × (ts ≡ front ++ rest) × BodyIs front x
  go true v w e =
      let b = bind_some (braced_at mems word.Parcelable false ts) (altered as_parcelable) (x, rest) e in
      let f = braced_told n mems laws word.Parcelable false ts b.0.0 b.0.1 b.1 in
      let p = pair_some {A = NameTree × Body} (as_parcelable b.0.0) x b.0.1 rest b.2 in
      let h : BodyIs f.0 (as_parcelable b.0.0) = parcelable_of f.0 b.0.0 f.2 in
      (f.0, f.1 ∙ ap (λ us. f.0 ++ us) p.1, subst (BodyIs f.0) p.0 h)
  go false true w e =
      let b = bind_some (braced_at mems word.Union false ts) (altered as_union) (x, rest) e in
      let f = braced_told n mems laws word.Union false ts b.0.0 b.0.1 b.1 in
      let p = pair_some {A = NameTree × Body} (as_union b.0.0) x b.0.1 rest b.2 in
      let h : BodyIs f.0 (as_union b.0.0) = union_of f.0 b.0.0 f.2 in
      (f.0, f.1 ∙ ap (λ us. f.0 ++ us) p.1, subst (BodyIs f.0) p.0 h)
  go false false true e =
      let b = bind_some (enum_at (suc n) ts) (altered as_enum) (x, rest) e in
      let f = (enum_law n).told ts b.0.0 b.0.1 b.1 in
      let p = pair_some {A = NameTree × Body} (as_enum b.0.0) x b.0.1 rest b.2 in
      let h : BodyIs f.0 (as_enum b.0.0) = enum_of f.0 b.0.0 f.2 in
      (f.0, f.1 ∙ ap (λ us. f.0 ++ us) p.1, subst (BodyIs f.0) p.0 h)
  go false false false e =
      let b = bind_some (both oneway_at (braced_at mems word.Interface true) ts) (altered as_interface) (x, rest) e in
      let f = (interface_law n mems laws).told ts b.0.0 b.0.1 b.1 in
      let p = pair_some {A = NameTree × Body} (as_interface b.0.0) x b.0.1 rest b.2 in
      let h : BodyIs f.0 (as_interface b.0.0) = interface_of f.0 b.0.0 f.2 in
      (f.0, f.1 ∙ ap (λ us. f.0 ++ us) p.1, subst (BodyIs f.0) p.0 h)

to_braced : (w : Reserved) (inside : Bool) (ts head inner tail : List Token) (n : NameTree) (ms : Members) → ts ≡ head ++ inner ++ tail → Head w head n → MembersOf inside inner ms → Quoted mark.CloseBrace tail tt → Braced w inside ts (n, ms)
to_braced w inside ts head inner tail n ms is h m q = (head, inner, tail, is ∙ append_assoc head inner tail, h, m, q)

word_first : (w v : Reserved) (ts us rest : List Token) (n : NameTree) → ts ≡ us → (head more : List Token) → us ≡ head ++ more → Head w head n → same_word w v ≡ false → begins_word v (ts ++ rest) ≡ false
word_first w v ts us rest n e head more is (f, g, js, (t, ks, k), q) apart = rw (e, is, js, ks, k, apart) refl

word_there : (w : Reserved) (ts rest : List Token) (n : NameTree) (head more : List Token) → ts ≡ head ++ more → Head w head n → begins_word w (ts ++ rest) ≡ true
word_there w ts rest n head more is (f, g, js, (t, ks, k), q) = rw (is, js, ks, k, word_self w) refl

body_found : (n : ℕ) (mems : Bool → List Token → Read Members) → MembersLaw n mems → IsFound n (body_by mems (suc n)) BodyIs any
unfolding body_by same_word
body_found n mems laws ts (nm, parcelable ms) rest len (head, inner, tail, is, h, m, q) ok =
    let b = to_braced word.Parcelable false ts head inner tail nm ms is h m q in
    rw (word_there word.Parcelable ts rest nm head (inner ++ tail) (is ∙ append_assoc head inner tail) h) (ap (λ z. z >>= altered as_parcelable) (braced_found n mems laws word.Parcelable false ts (nm, ms) rest len b refl))
body_found n mems laws ts (nm, union ms) rest len (head, inner, tail, is, h, m, q) ok =
    let b = to_braced word.Union false ts head inner tail nm ms is h m q in
    rw (word_first word.Union word.Parcelable ts ts rest nm refl head (inner ++ tail) (is ∙ append_assoc head inner tail) h refl, word_there word.Union ts rest nm head (inner ++ tail) (is ∙ append_assoc head inner tail) h)
    (ap (λ z. z >>= altered as_union) (braced_found n mems laws word.Union false ts (nm, ms) rest len b refl))
body_found n mems laws ts (nm, enum es) rest len (head, back, is, h, q) ok =
    rw (word_first word.Enum word.Parcelable ts ts rest nm refl head back is h refl, word_first word.Enum word.Union ts ts rest nm refl head back is h refl, word_there word.Enum ts rest nm head back is h)
    (ap (λ z. z >>= altered as_enum) ((enum_law n).found ts (nm, es) rest len (head, back, is, h, q) refl))
body_found n mems laws ts (nm, interface false ms) rest len (head, inner, tail, is, (o, hd, hs, w, h), m, q) ok =
    let b : Interface ts (false, (nm, ms)) = (o, hd ++ (inner ++ tail), is ∙ append_assoc head inner tail ∙ ap (λ us. us ++ (inner ++ tail)) hs ∙ append_assoc o hd (inner ++ tail), w, (hd, inner, tail, refl, h, m, q)) in
    let e : ts ≡ hd ++ (inner ++ tail) = is ∙ append_assoc head inner tail ∙ ap (λ us. us ++ (inner ++ tail)) hs ∙ append_assoc o hd (inner ++ tail) ∙ ap (λ us. us ++ (hd ++ (inner ++ tail))) w in
    rw (word_first word.Interface word.Parcelable ts ts rest nm refl hd (inner ++ tail) e h refl, word_first word.Interface word.Union ts ts rest nm refl hd (inner ++ tail) e h refl, word_first word.Interface word.Enum ts ts rest nm refl hd (inner ++ tail) e h refl)
    (ap (λ z. z >>= altered as_interface) ((interface_law n mems laws).found ts (false, (nm, ms)) rest len b refl))
body_found n mems laws ts (nm, interface true ms) rest len (head, inner, tail, is, (o, hd, hs, (t, os, k), h), m, q) ok =
    let b : Interface ts (true, (nm, ms)) = (o, hd ++ (inner ++ tail), is ∙ append_assoc head inner tail ∙ ap (λ us. us ++ (inner ++ tail)) hs ∙ append_assoc o hd (inner ++ tail), (t, os, k), (hd, inner, tail, refl, h, m, q)) in
    let e : ts ≡ t ∷ (hd ++ (inner ++ tail)) = is ∙ append_assoc head inner tail ∙ ap (λ us. us ++ (inner ++ tail)) hs ∙ append_assoc o hd (inner ++ tail) ∙ ap (λ us. us ++ (hd ++ (inner ++ tail))) os in
    let p : begins_word word.Parcelable (ts ++ rest) ≡ false = rw (e, k) refl in
    let u : begins_word word.Union (ts ++ rest) ≡ false = rw (e, k) refl in
    let v : begins_word word.Enum (ts ++ rest) ≡ false = rw (e, k) refl in
    rw (p, u, v) (ap (λ z. z >>= altered as_interface) ((interface_law n mems laws).found ts (true, (nm, ms)) rest len b refl))

body_law : (n : ℕ) (mems : Bool → List Token → Read Members) → MembersLaw n mems → Law n (body_by mems (suc n)) BodyIs any
body_law n mems laws = record { told = body_told n mems laws; found = body_found n mems laws }

-- declarations behind their annotations, one level after another
declared_law : (n : ℕ) (r : List Token → Read (NameTree × Body)) → Law n r BodyIs any → (o : ℕ) (annots : List Annot) → Law n (alter (declared o annots) r) (DeclRest o annots) any
declared_law n r law o annots = record { told = told; found = found } where
  told : IsTold (alter (declared o annots) r) (DeclRest o annots)
  told ts d rest e =
      let b = bind_some (r ts) (altered (declared o annots)) (d, rest) e in
      let f = law.told ts b.0.0 b.0.1 b.1 in
      let p = pair_some {A = Decl} (declared o annots b.0.0) d b.0.1 rest b.2 in
      (f.0, f.1 ∙ ap (λ us. f.0 ++ us) p.1, (b.0.0.0, b.0.0.1, sym p.0, f.2))

  found : IsFound n (alter (declared o annots) r) (DeclRest o annots) any
  found ts d rest len (nm, body, is, h) ok = ap (λ z. z >>= altered (declared o annots)) (law.found ts (nm, body) rest len h refl) ∙ ap (λ q. Some (q, rest)) (sym is)

none_some : {A : Type 0} (x : A) → ◌≡◌ {A = Option A} None (Some x) → ⊥
none_some x e = cc

empty_body : (ts : List Token) (n : NameTree) (b : Body) → length ts ≤ 0 → IsBody ts n b → ⊥
empty_body ts n b len h = let s = body_begun ts n b [] h in let l : length ts ≡ suc (length s.3.1) = ap length s.3.2 in absurd (omega arith)

no_decl : DeclareLaw 0 (λ o annots ts. decl_at 0 o annots ts)
unfolding decl_at
no_decl o annots = record {
  told = λ ts d rest e. absurd (none_some (d, rest) e);
  found = λ ts d rest len h ok. absurd (empty_body ts h.0 h.1 len h.3);
}

level_law : (n : ℕ) (declare : Declare) → DeclareLaw (n - 1) declare → MembersLaw n (λ inside us. members_in n declare inside (suc n) us)
level_law n declare laws = (λ inside. members_told n (n - 1) declare laws inside (suc n), λ inside ts ms rest len h ok. members_found n (n - 1) declare laws inside (suc n) ts ms rest (omega arith) (omega arith) (omega arith) h ok)

pub decl_laws : (n : ℕ) → DeclareLaw (n - 1) (λ o annots ts. decl_at n o annots ts)
unfolding decl_at
decl_laws zero = no_decl
decl_laws (suc n) = λ o annots.
    let e : n ≡ suc n - 1 = omega arith in
    subst (λ k. Law k (λ ts. decl_at (suc n) o annots ts) (DeclRest o annots) any) e (declared_law n _ (body_law n _ (level_law n (λ p as_ ws. decl_at n p as_ ws) (decl_laws n))) o annots)

pub decl_law : (n o : ℕ) (annots : List Annot) → Law n (λ ts. decl_at (suc n) o annots ts) (DeclRest o annots) any
decl_law n o annots = let e : suc n - 1 ≡ n = omega arith in subst (λ k. Law k (λ ts. decl_at (suc n) o annots ts) (DeclRest o annots) any) e (decl_laws (suc n) o annots)
