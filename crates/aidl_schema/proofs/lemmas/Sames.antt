-- *Same* is an equivalence: each type of a schema is the same as itself, both ways, and along a third.
use Rattle.std.proofs.Common.{◌≡◌, ℕ, Bool, true, false, ◌&&◌, ◌==◌, cond, List, [], ◌∷◌, Option, Some, None, slice_get, refl, sym, ap, ◌∙◌, subst, arith}
use Rattle.std.proofs.lemmas.Bool.Decides.{nat_tests}
use Rattle.aidl_base.specs.declared.name.Ident.{Ident}
use Rattle.aidl_schema.specs.declared.schema.Decl.{Decl}
use Rattle.aidl_schema.specs.declared.schema.Base.{Base}
use Rattle.aidl_schema.specs.declared.schema.Base.TheVariants as base
use Rattle.aidl_schema.specs.declared.schema.AidlType.{AidlType}
use Rattle.aidl_schema.specs.Same.{same_text, same_idents, same_decl, base_code, is_named, decl_of, same_base, shape_code, same_bool, same}
use Rattle.aidl_schema.specs.Types.{form_of, form_of_decl, is_meant, is_type, is_well_shaped}
use Rattle.aidl_base.proofs.lemmas.Tests.{both}

pub eq_refl : (m : ℕ) → (m == m) ≡ true
eq_refl m = grind (arith, nat_tests)

eq_sym : (m n : ℕ) → (m == n) ≡ (n == m)
eq_sym m n = grind (arith, nat_tests)

eq_is : (m n : ℕ) → (m == n) ≡ true → m ≡ n
eq_is m n e = grind (arith, nat_tests)

pub same_text_refl : (x : List ℕ) → same_text x x ≡ true
same_text_refl [] = refl
same_text_refl (x ∷ xs) = rw (eq_refl x, same_text_refl xs) refl

pub same_text_is : (x y : List ℕ) → same_text x y ≡ true → x ≡ y
same_text_is [] [] e = refl
same_text_is [] (y ∷ ys) e = cc
same_text_is (x ∷ xs) [] e = cc
same_text_is (x ∷ xs) (y ∷ ys) e =
    let two = both (x == y) (same_text xs ys) e in
    ap (λ z. z ∷ xs) (eq_is x y two.0) ∙ ap (λ zs. y ∷ zs) (same_text_is xs ys two.1)

pub same_text_sym : (x y : List ℕ) → same_text x y ≡ same_text y x
same_text_sym [] [] = refl
same_text_sym [] (y ∷ ys) = refl
same_text_sym (x ∷ xs) [] = refl
same_text_sym (x ∷ xs) (y ∷ ys) = rw (eq_sym x y, same_text_sym xs ys) refl

pub same_idents_refl : (x : List Ident) → same_idents x x ≡ true
same_idents_refl [] = refl
same_idents_refl (x ∷ xs) = rw (same_text_refl x.0, same_idents_refl xs) refl

pub same_idents_is : (x y : List Ident) → same_idents x y ≡ true → x ≡ y
same_idents_is [] [] e = refl
same_idents_is [] (y ∷ ys) e = cc
same_idents_is (x ∷ xs) [] e = cc
same_idents_is (x ∷ xs) (y ∷ ys) e =
    let two = both (same_text x.0 y.0) (same_idents xs ys) e in
    let head : x ≡ y = ap (λ t. let i : Ident = record { 0 = t } in i) (same_text_is x.0 y.0 two.0) in
    ap (λ z. z ∷ xs) head ∙ ap (λ zs. y ∷ zs) (same_idents_is xs ys two.1)

pub same_idents_sym : (x y : List Ident) → same_idents x y ≡ same_idents y x
same_idents_sym [] [] = refl
same_idents_sym [] (y ∷ ys) = refl
same_idents_sym (x ∷ xs) [] = refl
same_idents_sym (x ∷ xs) (y ∷ ys) = rw (same_text_sym x.0 y.0, same_idents_sym xs ys) refl

same_decl_sym : (o p : Option Decl) → same_decl o p ≡ same_decl p o
same_decl_sym None None = refl
same_decl_sym None (Some e) = refl
same_decl_sym (Some d) None = refl
same_decl_sym (Some d) (Some e) = same_idents_sym d.name.0 e.name.0

pub same_bool_refl : (a : Bool) → same_bool a a ≡ true
same_bool_refl true = refl
same_bool_refl false = refl

same_bool_sym : (a b : Bool) → same_bool a b ≡ same_bool b a
same_bool_sym true true = refl
same_bool_sym true false = refl
same_bool_sym false true = refl
same_bool_sym false false = refl

same_base_sym : (A : List Decl) (b : Base) (B : List Decl) (c : Base) → same_base A b B c ≡ true → same_base B c A b ≡ true
same_base_sym A b B c h =
    let two = both (base_code b == base_code c) (cond (is_named b) (same_decl (decl_of A b) (decl_of B c)) true) h in
    let code : base_code b ≡ base_code c = eq_is (base_code b) (base_code c) two.0 in
    let back : (base_code c == base_code b) ≡ true = eq_sym (base_code c) (base_code b) ∙ two.0 in
    let named : is_named c ≡ is_named b = ap (λ n. n == 6) (sym code) in
    rw (back, named, same_decl_sym (decl_of B c) (decl_of A b)) two.1

pub same_sym : (A : List Decl) (t : AidlType) (B : List Decl) (u : AidlType) → same A t B u ≡ true → same B u A t ≡ true
same_sym A t B u h =
    let one = both (same_base A t.base B u.base) ((shape_code t.shape == shape_code u.shape) && same_bool t.nullable u.nullable) h in
    let two = both (shape_code t.shape == shape_code u.shape) (same_bool t.nullable u.nullable) one.1 in
    let bases : same_base B u.base A t.base ≡ true = same_base_sym A t.base B u.base one.0 in
    let shapes : (shape_code u.shape == shape_code t.shape) ≡ true = eq_sym (shape_code u.shape) (shape_code t.shape) ∙ two.0 in
    let flags : same_bool u.nullable t.nullable ≡ true = same_bool_sym u.nullable t.nullable ∙ two.1 in
    rw (bases, shapes, flags) refl

same_decl_trans : (o p q : Option Decl) → same_decl o p ≡ true → same_decl p q ≡ true → same_decl o q ≡ true
same_decl_trans None p q h k = cc
same_decl_trans (Some d) None q h k = cc
same_decl_trans (Some d) (Some e) None h k = cc
same_decl_trans (Some d) (Some e) (Some f) h k = subst (λ n. same_idents d.name.0 n ≡ true) (same_idents_is e.name.0 f.name.0 k) h

same_bool_trans : (a b c : Bool) → same_bool a b ≡ true → same_bool b c ≡ true → same_bool a c ≡ true
same_bool_trans true b c h k = rw h at k
same_bool_trans false true c h k = cc
same_bool_trans false false c h k = k

same_base_trans : (A : List Decl) (b : Base) (B : List Decl) (c : Base) (C : List Decl) (d : Base)
    → same_base A b B c ≡ true → same_base B c C d ≡ true → same_base A b C d ≡ true
same_base_trans A b B c C d h k =
    let one = both (base_code b == base_code c) (cond (is_named b) (same_decl (decl_of A b) (decl_of B c)) true) h in
    let two = both (base_code c == base_code d) (cond (is_named c) (same_decl (decl_of B c) (decl_of C d)) true) k in
    let code : base_code b ≡ base_code c = eq_is (base_code b) (base_code c) one.0 in
    let last : (base_code b == base_code d) ≡ true = rw code two.0 in
    let named : is_named c ≡ is_named b = ap (λ n. n == 6) (sym code) in
    let second : cond (is_named b) (same_decl (decl_of B c) (decl_of C d)) true ≡ true = rw named at two.1 in
    rw last (by_name (is_named b) one.1 second)
  where
    by_name : (n : Bool) → cond n (same_decl (decl_of A b) (decl_of B c)) true ≡ true → cond n (same_decl (decl_of B c) (decl_of C d)) true ≡ true
        → cond n (same_decl (decl_of A b) (decl_of C d)) true ≡ true
    by_name true p q = same_decl_trans (decl_of A b) (decl_of B c) (decl_of C d) p q
    by_name false p q = refl

pub same_trans : (A : List Decl) (t : AidlType) (B : List Decl) (u : AidlType) (C : List Decl) (w : AidlType)
    → same A t B u ≡ true → same B u C w ≡ true → same A t C w ≡ true
same_trans A t B u C w h k =
    let one = both (same_base A t.base B u.base) ((shape_code t.shape == shape_code u.shape) && same_bool t.nullable u.nullable) h in
    let two = both (same_base B u.base C w.base) ((shape_code u.shape == shape_code w.shape) && same_bool u.nullable w.nullable) k in
    let three = both (shape_code t.shape == shape_code u.shape) (same_bool t.nullable u.nullable) one.1 in
    let four = both (shape_code u.shape == shape_code w.shape) (same_bool u.nullable w.nullable) two.1 in
    let shapes : (shape_code t.shape == shape_code w.shape) ≡ true = rw (eq_is (shape_code t.shape) (shape_code u.shape) three.0) four.0 in
    rw (same_base_trans A t.base B u.base C w.base one.0 two.0, shapes, same_bool_trans t.nullable u.nullable w.nullable three.1 four.1) refl

module _ (S : List Decl) where
  same_decl_refl : (o : Option Decl) → is_meant (form_of_decl o) ≡ true → same_decl o o ≡ true
  same_decl_refl None meant = cc
  same_decl_refl (Some d) meant = same_idents_refl d.name.0

  same_base_refl : (b : Base) → is_meant (form_of S b) ≡ true → same_base S b S b ≡ true
  same_base_refl base.Boolean meant = refl
  same_base_refl base.Byte meant = refl
  same_base_refl base.Char meant = refl
  same_base_refl base.Int meant = refl
  same_base_refl base.Long meant = refl
  same_base_refl base.Text meant = refl
  same_base_refl (base.Named n) meant = same_decl_refl (slice_get S n) meant

  pub same_refl : (t : AidlType) → is_type S t ≡ true → same S t S t ≡ true
  same_refl t is =
      let bases = same_base_refl t.base (both (is_meant (form_of S t.base)) (is_well_shaped t.shape t.nullable (form_of S t.base)) is).0 in
      rw (bases, eq_refl (shape_code t.shape), same_bool_refl t.nullable) refl
