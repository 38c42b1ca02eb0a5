-- What it means that a method reaches a declaration, and that it then does so the other way round.
use Rattle.std.proofs.Common.{◌≡◌, ℕ, ◌+◌, Bool, true, false, not, ◌&&◌, ◌==◌, List, [], ◌∷◌, map, Option, Some, None, slice_get, refl, sym, ap, ◌∙◌, subst, arith}
use Rattle.std.specs.Prelude.{if◌then◌else◌, option_and_then}
use Rattle.std.specs.List.{filter, enumerate_from}
use Rattle.std.proofs.lemmas.Bool.Decides.{nat_tests}
use Rattle.aidl_base.proofs.lemmas.Tests.{both}
use Rattle.aidl_schema.proofs.lemmas.Sames.{eq_refl, same_text_is, same_text_refl, same_text_sym, same_idents_is, same_sym}
use Rattle.aidl_schema.specs.declared.schema.AidlType.{AidlType}
use Rattle.aidl_schema.specs.declared.schema.Arg.{Arg}
use Rattle.aidl_schema.specs.declared.schema.Base.{Base}
use Rattle.aidl_schema.specs.declared.schema.Base.TheVariants as base
use Rattle.aidl_schema.specs.declared.schema.Decl.{Decl}
use Rattle.aidl_schema.specs.declared.schema.Method.{Method}
use Rattle.aidl_schema.specs.Broken.{is_one_value, is_there_and, same_method}
use Rattle.aidl_schema.specs.Find.{methods_of_decl, methods_at}
use Rattle.aidl_schema.specs.Holds.{AreApart, AllHold}
use Rattle.aidl_schema.specs.Methods.{is_in_way}
use Rattle.aidl_schema.specs.Names.{methods_of, name_of}
use Rattle.aidl_schema.specs.Same.{same, same_base, same_decl, same_text, shape_code, same_bool}
use Rattle.aidl_schema.specs.declared.schema.Shape.{Shape}
use Rattle.aidl_schema.specs.declared.schema.Shape.TheVariants as shape
use Rattle.aidl_base.specs.Names.{dotted}
use Rattle.aidl_schema.specs.Types.{is_one}
use Rattle.aidl_schema.specs.Unbroken.{Has}
use Rattle.aidl_values.specs.Data.{Data, none, item}
use Rattle.wire_model.specs.Calls.{descriptor, name_of_decl, method_at}
use Rattle.wire_model.specs.MethodOf.{method_of}
use Rattle.wire_model.specs.Outcome.{declared_as, method_like}
use Rattle.wire_model.proofs.lemmas.Lookups.{position_is, position_passes}
use Rattle.compat_witness.specs.Candidates.{request}
use Rattle.compat_witness.specs.Places.{Spot, spot_like}
use Rattle.compat_witness.specs.Reaching.{only, number_of, are_alike, has_argument, declaration_reached, is_at, reaches, reaching_in, methods_reaching, asks}
use Rattle.compat_witness.proofs.Lists.{in_flat, flat_has, in_map, map_has, in_filter, filter_has, in_numbered, numbered_has}
use Rattle.compat_witness.proofs.Spots.{and_then_is, IsLike, like_is}

-- The method v at (i, m) of A, and that of its names in B, reach the declaration k of A.
pub record Reached (A : List Decl) (k : ℕ) (B : List Decl) (i m : ℕ) : Type 0 where
  pub decl : Decl
  pub method : Method
  pub other : Spot
  pub a : Arg
  pub b : Arg
  pub here : slice_get A i ≡ Some decl
  pub at : slice_get (methods_of decl.kind) m ≡ Some method
  pub like : IsLike A i method B other
  pub id : method.id ≡ other.method.id
  pub only_a : method.args ≡ a ∷ []
  pub only_b : other.method.args ≡ b ∷ []
  pub in_a : is_in_way a.way ≡ true
  pub in_b : is_in_way b.way ≡ true
  pub number : a.ty.base ≡ base.Named k
  pub one : is_one_value a.ty ≡ true
  pub same_type : same A a.ty B b.ty ≡ true

pub only_is : (xs : List Arg) (a : Arg) → only xs ≡ Some a → xs ≡ a ∷ []
only_is [] a e = cc
only_is (b ∷ []) a e = let is : b ≡ a = cc in ap (λ (x : Arg). x ∷ []) is
only_is (b ∷ c ∷ xs) a e = cc

there_and : {X : Type 0} (test : X → Bool) (o : Option X) → is_there_and test o ≡ true → (x : X) × (o ≡ Some x) × (test x ≡ true)
there_and test None e = cc
there_and test (Some x) e = (x, refl, e)

pub eq_is : (m n : ℕ) → (m == n) ≡ true → m ≡ n
eq_is m n e = grind (arith, nat_tests)

if_some : {X : Type 0} (b : Bool) (x y : X) → (if b then Some x else None) ≡ Some y → (b ≡ true) × (x ≡ y)
if_some true x y e = let is : x ≡ y = cc in (refl, is)
if_some false x y e = cc

named_by : (b : Base) (n : ℕ) → number_of b ≡ Some n → b ≡ base.Named n
named_by base.Boolean n e = cc
named_by base.Byte n e = cc
named_by base.Char n e = cc
named_by base.Int n e = cc
named_by base.Long n e = cc
named_by base.Text n e = cc
named_by (base.Named m) n e = let is : m ≡ n = cc in ap base.Named is

at_some : (k : ℕ) (o : Option ℕ) → is_at k o ≡ true → o ≡ Some k
at_some k None e = cc
at_some k (Some n) e = ap (λ m. let o : Option ℕ = Some m in o) (eq_is n k e)

module _ (A : List Decl) (k : ℕ) (B : List Decl) where
  of_parts : (i m : ℕ) (d : Decl) (v : Method) → slice_get A i ≡ Some d → slice_get (methods_of d.kind) m ≡ Some v → reaches A k B i v ≡ true → Reached A k B i m
  of_parts i m d v here at h =
      let x = and_then_is (λ (a : Arg). option_and_then (λ n. if has_argument A B i v a then Some n else None) (number_of a.ty.base)) (only v.args) k (at_some k (declaration_reached A B i v) h) in
      let a = x.0 in
      let y = and_then_is (λ n. if has_argument A B i v a then Some n else None) (number_of a.ty.base) k x.2 in
      let z = if_some (has_argument A B i v a) y.0 k y.2 in
      let s = there_and (λ (s : Spot). (v.id == s.method.id) && is_there_and (are_alike A B a) (only s.method.args)) (spot_like A i v B) z.0 in
      let t = both (v.id == s.0.method.id) (is_there_and (are_alike A B a) (only s.0.method.args)) s.2 in
      let b = there_and (are_alike A B a) (only s.0.method.args) t.1 in
      let one = both (is_in_way a.way && is_in_way b.0.way) (is_one_value a.ty && same A a.ty B b.0.ty) b.2 in
      let ways = both (is_in_way a.way) (is_in_way b.0.way) one.0 in
      let types = both (is_one_value a.ty) (same A a.ty B b.0.ty) one.1 in
      record {
        decl = d;
        method = v;
        other = s.0;
        a = a;
        b = b.0;
        here = here;
        at = at;
        like = like_is A i v B s.0 s.1;
        id = eq_is v.id s.0.method.id t.0;
        only_a = only_is v.args a x.1;
        only_b = only_is s.0.method.args b.0 b.1;
        in_a = ways.0;
        in_b = ways.1;
        number = named_by a.ty.base y.0 y.1 ∙ ap base.Named z.1;
        one = types.0;
        same_type = types.1;
      }

  pub reached : (i m : ℕ) → Has (methods_reaching A k B) (i, m) → Reached A k B i m
  reached i m h =
      let im : ℕ × ℕ = (i, m) in
      let x = in_flat (λ x. reaching_in A k B x) (enumerate_from 0 A) im h in
      let d = in_numbered 0 A x.0 x.1 in
      let y = in_map (λ (y : ℕ × Method). let q : ℕ × ℕ = (x.0.0, y.0) in q) (filter (λ (y : ℕ × Method). reaches A k B x.0.0 y.1) (enumerate_from 0 (methods_of x.0.1.kind))) im x.2 in
      let z = in_filter (λ (y : ℕ × Method). reaches A k B x.0.0 y.1) (enumerate_from 0 (methods_of x.0.1.kind)) y.0 y.1 in
      let v = in_numbered 0 (methods_of x.0.1.kind) y.0 z.0 in
      let is_i : x.0.0 ≡ i = ap (λ (q : ℕ × ℕ). q.0) y.2 in
      let is_m : y.0.0 ≡ m = ap (λ (q : ℕ × ℕ). q.1) y.2 in
      let at_i : d.0 ≡ i = omega (arith, d.1, is_i) in
      let at_m : v.0 ≡ m = omega (arith, v.1, is_m) in
      of_parts i m x.0.1 y.0.1 (subst (λ n. slice_get A n ≡ Some x.0.1) at_i d.2) (subst (λ n. slice_get (methods_of x.0.1.kind) n ≡ Some y.0.1) at_m v.2)
      (subst (λ n. reaches A k B n y.0.1 ≡ true) is_i z.1)

  -- one that reaches it is among those that do
  pub has_reaching : (i m : ℕ) (d : Decl) (v : Method) → slice_get A i ≡ Some d → slice_get (methods_of d.kind) m ≡ Some v → reaches A k B i v ≡ true → Has (methods_reaching A k B) (i, m)
  has_reaching i m d v here at h =
      let x : ℕ × Decl = (i, d) in
      let y : ℕ × Method = (m, v) in
      let zero_i : 0 + i ≡ i = omega arith in
      let zero_m : 0 + m ≡ m = omega arith in
      let in_a : Has (enumerate_from 0 A) x = subst (λ n. Has (enumerate_from 0 A) (n, d)) zero_i (numbered_has 0 A i d here) in
      let in_d : Has (enumerate_from 0 (methods_of d.kind)) y = subst (λ n. Has (enumerate_from 0 (methods_of d.kind)) (n, v)) zero_m (numbered_has 0 (methods_of d.kind) m v at) in
      flat_has (λ x. reaching_in A k B x) (enumerate_from 0 A) x (i, m) in_a
      (map_has (λ (y : ℕ × Method). let q : ℕ × ℕ = (i, y.0) in q) (filter (λ (y : ℕ × Method). reaches A k B i y.1) (enumerate_from 0 (methods_of d.kind))) y
      (filter_has (λ (y : ℕ × Method). reaches A k B i y.1) (enumerate_from 0 (methods_of d.kind)) y in_d h))

-- the first of these, where there is one
pub head_of : {X : Type 0} (xs : List X) → (empty : List X → Bool) → empty [] ≡ true → not (empty xs) ≡ true → (x : X) × Has xs x
head_of [] empty is h = let wrong : not true ≡ true = subst (λ b. not b ≡ true) is h in cc
head_of (x ∷ xs) empty is h = (x, (0, refl))

pub asked : (back : Bool) (ims : List (ℕ × ℕ)) (vs : List Data) (i m : ℕ) (v : Data) → Has ims (i, m) → Has vs v → Has (asks back ims vs) (request back i m (item v none))
asked back ims vs i m v h at =
    let im : ℕ × ℕ = (i, m) in
    flat_has (λ (im : ℕ × ℕ). map (λ v. request back im.0 im.1 (item v none)) vs) ims im (request back i m (item v none)) h (map_has (λ v. request back i m (item v none)) vs v at)

-- the declarations that a type of A and the same type of B name, where A's is the declaration k
pub record BaseOf (A : List Decl) (k : ℕ) (B : List Decl) (t u : AidlType) : Type 0 where
  pub mine : Decl
  pub his : Decl
  pub number : ℕ
  pub base_a : t.base ≡ base.Named k
  pub base_b : u.base ≡ base.Named number
  pub here : slice_get A k ≡ Some mine
  pub there : slice_get B number ≡ Some his
  pub names : name_of mine ≡ name_of his
  pub one_a : is_one_value t ≡ true
  pub one_b : is_one_value u ≡ true

one_too : (x y : Shape) → is_one x ≡ true → (shape_code x == shape_code y) ≡ true → is_one y ≡ true
one_too shape.One shape.One one e = refl
one_too shape.One shape.Array one e = cc
one_too shape.One shape.List one e = cc
one_too shape.Array y one e = cc
one_too shape.List y one e = cc

null_too : (x y : Bool) → not x ≡ true → same_bool x y ≡ true → not y ≡ true
null_too true y h e = cc
null_too false true h e = cc
null_too false false h e = refl

both_true : (a b : Bool) → a ≡ true → b ≡ true → (a && b) ≡ true
both_true a b p q = rw (p, q) refl

decls_of : (o r : Option Decl) → same_decl o r ≡ true → (d : Decl) × (e : Decl) × (o ≡ Some d) × (r ≡ Some e) × (name_of d ≡ name_of e)
decls_of None r e = cc
decls_of (Some d) None e = cc
decls_of (Some d) (Some c) e = (d, c, refl, refl, ap dotted (same_idents_is d.name.0 c.name.0 e))

module _ (A : List Decl) (k : ℕ) (B : List Decl) (t u : AidlType) (number : t.base ≡ base.Named k) (one : is_one_value t ≡ true) (is : same A t B u ≡ true) where
  by_base : (b : Base) → u.base ≡ b → same_base A (base.Named k) B b ≡ true → is_one_value u ≡ true → BaseOf A k B t u
  by_base base.Boolean e h one_u = cc
  by_base base.Byte e h one_u = cc
  by_base base.Char e h one_u = cc
  by_base base.Int e h one_u = cc
  by_base base.Long e h one_u = cc
  by_base base.Text e h one_u = cc
  by_base (base.Named n) e h one_u =
      let x = decls_of (slice_get A k) (slice_get B n) h in
      record { mine = x.0; his = x.1; number = n; base_a = number; base_b = e; here = x.2; there = x.3; names = x.4; one_a = one; one_b = one_u }

  pub base_of : BaseOf A k B t u
  base_of =
      let two = both (same_base A t.base B u.base) ((shape_code t.shape == shape_code u.shape) && same_bool t.nullable u.nullable) is in
      let three = both (shape_code t.shape == shape_code u.shape) (same_bool t.nullable u.nullable) two.1 in
      let values = both (is_one t.shape) (not t.nullable) one in
      by_base u.base refl (subst (λ b. same_base A b B u.base ≡ true) number two.0)
      (both_true (is_one u.shape) (not u.nullable) (one_too t.shape u.shape values.0 three.0) (null_too t.nullable u.nullable values.1 three.1))

-- what reaches a declaration reaches, the other way round, the one of that name

module _ (A B : List Decl) (k l : ℕ) (holdsA : AllHold A) (apartA : AreApart name_of A) (apartB : AreApart name_of B) (f : Decl) (g : Decl)
    (mine : slice_get A k ≡ Some f) (his : slice_get B l ≡ Some g) (names : name_of f ≡ name_of g) (i m : ℕ) (r : Reached A k B i m) where
  pub reached_base : BaseOf A k B r.a.ty r.b.ty
  reached_base = base_of A k B r.a.ty r.b.ty r.number r.one r.same_type

  -- the declaration of B that the type names is that of the name
  pub number_is : reached_base.number ≡ l
  number_is =
      let one : ◌≡◌ {A = Option Decl} (Some reached_base.mine) (Some f) = sym reached_base.here ∙ mine in
      let same_mine : reached_base.mine ≡ f = cc in
      apartB reached_base.number l reached_base.his g reached_base.there his (sym reached_base.names ∙ ap name_of same_mine ∙ names)

  back_interface : declared_as A (descriptor B r.other.interface) ≡ Some i
  back_interface =
      let e = r.like.spot.decl in
      let x = position_passes (λ (z : Decl). same_text (descriptor A i) (name_of z)) B r.other.interface r.like.interface in
      let two : ◌≡◌ {A = Option Decl} (Some x.0) (Some e) = sym x.1 ∙ r.like.spot.here in
      let same_e : x.0 ≡ e = cc in
      let called : name_of r.decl ≡ name_of e = ap name_of_decl (sym r.here) ∙ same_text_is (descriptor A i) (name_of x.0) x.2 ∙ ap name_of same_e in
      let itself : same_text (name_of e) (name_of r.decl) ≡ true = subst (λ n. same_text (name_of e) n ≡ true) (sym called) (same_text_refl (name_of e)) in
      let only_one : (n : ℕ) (z : Decl) → slice_get A n ≡ Some z → same_text (name_of e) (name_of z) ≡ true → n ≡ i =
      λ n z at q. apartA n i z r.decl at r.here (sym (same_text_is (name_of e) (name_of z) q) ∙ sym called) in
      ap (λ o. declared_as A (name_of_decl o)) r.like.spot.here ∙ position_is (λ (z : Decl). same_text (name_of e) (name_of z)) A i r.decl r.here itself only_one

  back_method : method_like (Some r.other.method) (methods_at A i) ≡ Some m
  back_method =
      let e = r.like.spot.decl in
      let x = position_passes (λ (z : Method). same_method r.method z) (methods_at B r.other.interface) r.other.position r.like.like in
      let at : slice_get (methods_at B r.other.interface) r.other.position ≡ Some r.other.method = ap (λ o. slice_get (methods_of_decl o) r.other.position) r.like.spot.here ∙ r.like.spot.at in
      let two : ◌≡◌ {A = Option Method} (Some x.0) (Some r.other.method) = sym x.1 ∙ at in
      let same_w : x.0 ≡ r.other.method = cc in
      let forth : same_method r.method r.other.method ≡ true = subst (λ z. same_method r.method z ≡ true) same_w x.2 in
      let back : same_method r.other.method r.method ≡ true = same_text_sym r.other.method.name.0 r.method.name.0 ∙ forth in
      let only_one : (n : ℕ) (z : Method) → slice_get (methods_of r.decl.kind) n ≡ Some z → same_method r.other.method z ≡ true → n ≡ m =
      λ n z at q. (holdsA i r.decl r.here).methods n m z r.method at r.at
      (sym (same_text_is r.other.method.name.0 z.name.0 q) ∙ same_text_is r.other.method.name.0 r.method.name.0 back) in
      ap (λ ws. method_like (Some r.other.method) ws) (ap methods_of_decl r.here)
      ∙ position_is (λ (z : Method). same_method r.other.method z) (methods_of r.decl.kind) m r.method r.at back only_one

  back_spot : spot_like B r.other.interface r.other.method A ≡ Some (record { interface = i; position = m; method = r.method })
  back_spot =
      let at : method_at (method_of A i m) ≡ Some r.method = ap (λ o. slice_get (methods_of_decl o) m) r.here ∙ r.at in
      rw (back_interface, back_method, at) refl

  pub back_reaches : reaches B l A r.other.interface r.other.method ≡ true
  back_reaches =
      let id : (r.other.method.id == r.method.id) ≡ true = subst (λ n. (n == r.method.id) ≡ true) r.id (eq_refl r.method.id) in
      let base_b : number_of r.b.ty.base ≡ Some l = ap number_of (reached_base.base_b ∙ ap base.Named number_is) in
      let type : same B r.b.ty A r.a.ty ≡ true = same_sym A r.a.ty B r.b.ty r.same_type in
      let alike : are_alike B A r.b r.a ≡ true = rw (r.in_b, r.in_a, reached_base.one_b, type) refl in
      let arguments : is_there_and (are_alike B A r.b) (only r.method.args) ≡ true = subst (λ xs. is_there_and (are_alike B A r.b) (only xs) ≡ true) (sym r.only_a) alike in
      let has : has_argument B A r.other.interface r.other.method r.b ≡ true = rw (back_spot, id) arguments in
      let number : declaration_reached B A r.other.interface r.other.method ≡ Some l =
      ap (λ xs. option_and_then (λ (a : Arg). option_and_then (λ n. if has_argument B A r.other.interface r.other.method a then Some n else None) (number_of a.ty.base)) (only xs)) r.only_b
      ∙ ap (λ o. option_and_then (λ n. if has_argument B A r.other.interface r.other.method r.b then Some n else None) o) base_b
      ∙ ap (λ t. if t then Some l else None) has in
      ap (is_at l) number ∙ eq_refl l

  pub back_has : Has (methods_reaching B l A) (r.other.interface, r.other.position)
  back_has = has_reaching B l A r.other.interface r.other.position r.like.spot.decl r.other.method r.like.spot.here r.like.spot.at back_reaches
