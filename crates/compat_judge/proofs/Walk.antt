-- What one turn of a loop over members adds.
use Rattle.std.proofs.Common.{◌≡◌, ℕ, zero, suc, ◌+◌, ◌<◌, min, Bool, true, List, [], ◌∷◌, ◌++◌, map, length, take, get_or, Option, Some, None, refl, sym, ap, ◌∙◌, subst, arith, is_some}
use Rattle.std.specs.List.{flat_map, zip, enumerate_from, position_from}
use Rattle.std.specs.Borrow.{Bor}
use Rattle.std.specs.Fmt.{decimal}
use Rattle.std.specs.Option.{option_copied}
use Rattle.std.specs.Str.{encode_utf8_all}
use Rattle.std.proofs.lemmas.Iterator.Adapters.{position_from-zero}
use Rattle.aidl_base.specs.declared.name.Ident.{Ident}
use Rattle.aidl_schema.specs.declared.schema.Arg.{Arg}
use Rattle.aidl_schema.specs.declared.schema.Decl.{Decl}
use Rattle.aidl_schema.specs.declared.schema.Method.{Method}
use Rattle.aidl_schema.specs.Names.{methods_of}
use Rattle.aidl_schema.specs.Broken.{argument, is_there_and, member, of_rule, place_if, whole}
use Rattle.aidl_schema.specs.Same.{same_text}
use Rattle.name_tables.specs.Places.{has_name, place_in}
use Rattle.compat_judge.specs.declared.findings.Findings.{Findings}
use Rattle.compat_judge.specs.steps.Adds.{Adds}
use Rattle.compat_judge.specs.declared.sides.Pair.{Pair}
use Rattle.compat_judge.specs.steps.Steps.{AreBeside, all_named, break_if}
use Rattle.compat_judge.proofs.Adding.{adds_as}
use Rattle.compat_judge.proofs.Found.{same_text_sym}
use Rattle.aidl_base.proofs.lemmas.Lists.{take_further}
use Rattle.compat_judge.proofs.Listing.{added_more, place_of}
use Rattle.compat_judge.proofs.Utf8Order.{same_encoded}

module _ {X : Type 0} (rule : ℕ) (d : Decl) (ident : X → Ident) (breaks : X → Bool) (start : Findings) (xs : List X) where
  pub at_member : (now further : Findings) (i : ℕ) (x : X) (name : List ℕ) (b : Bool) → Adds start now (flat_map (break_if rule (λ x. member d (ident x)) breaks) (take i xs))
      → i < length xs → x ≡ get_or xs i x → name ≡ whole d → b ≡ breaks x → Adds now further (of_rule rule (place_if (name ++ 46 ∷ (ident x).0) b))
      → Adds start further (flat_map (break_if rule (λ x. member d (ident x)) breaks) (take (i + 1) xs))
  at_member now further i x name b h lt is named same more =
      added_more (break_if rule (λ x. member d (ident x)) breaks) start xs now further i x h lt is
      (adds_as (ap (λ n. of_rule rule (place_if (n ++ 46 ∷ (ident x).0) b)) named ∙ ap (λ c. of_rule rule (place_if (member d (ident x)) c)) same) more)

pub at_argument : (rule : ℕ) (d : Decl) (m : Ident) (breaks : ℕ × (Arg × Arg) → Bool) (start : Findings) (xs : List (ℕ × (Arg × Arg))) (now further : Findings) (i : ℕ) (x : ℕ × (Arg × Arg)) (name : List ℕ) (b : Bool)
    → Adds start now (flat_map (break_if rule (λ p. argument d m p.0) breaks) (take i xs)) → i < length xs → x ≡ get_or xs i x → name ≡ whole d → b ≡ breaks x
    → Adds now further (of_rule rule (place_if ((name ++ 46 ∷ m.0) ++ 47 ∷ decimal x.0) b)) → Adds start further (flat_map (break_if rule (λ p. argument d m p.0) breaks) (take (i + 1) xs))
at_argument rule d m breaks start xs now further i x name b h lt is named same more =
    added_more (break_if rule (λ p. argument d m p.0) breaks) start xs now further i x h lt is
    (adds_as (ap (λ n. of_rule rule (place_if ((n ++ 46 ∷ m.0) ++ 47 ∷ decimal x.0) b)) named ∙ ap (λ c. of_rule rule (place_if (argument d m x.0) c)) same) more)

-- items of lists made of others

pub get_mapped : {X Y : Type 0} (f : X → Y) (xs : List X) (i : ℕ) (x : X) → x ≡ get_or xs i x → f x ≡ get_or (map f xs) i (f x)
get_mapped f [] i x e = refl
get_mapped f (y ∷ xs) zero x e = ap f e
get_mapped f (y ∷ xs) (suc i) x e = get_mapped f xs i x e

pub get_mapped_any : {X Y : Type 0} (f : X → Y) (xs : List X) (i : ℕ) (x : X) (d : Y) → i < length xs → x ≡ get_or xs i x → get_or (map f xs) i d ≡ f x
get_mapped_any f [] i x d lt e = absurd (omega arith)
get_mapped_any f (y ∷ xs) zero x d lt e = ap f (sym e)
get_mapped_any f (y ∷ xs) (suc i) x d lt e = get_mapped_any f xs i x d (omega arith) e

pub zip_at : {X Y : Type 0} (xs : List X) (ys : List Y) (i : ℕ) (x : X) (y : Y) → i < length xs → i < length ys → x ≡ get_or xs i x → y ≡ get_or ys i y → (x, y) ≡ get_or (zip xs ys) i (x, y)
zip_at [] ys i x y l m e f = absurd (omega arith)
zip_at (x1 ∷ xs) [] i x y l m e f = absurd (omega arith)
zip_at (x1 ∷ xs) (y1 ∷ ys) zero x y l m e f = ap (λ z. (z, y)) e ∙ ap (λ z. (x1, z)) f
zip_at (x1 ∷ xs) (y1 ∷ ys) (suc i) x y l m e f = zip_at xs ys i x y (omega arith) (omega arith) e f

pub zip_length : {X Y : Type 0} (xs : List X) (ys : List Y) → length (zip xs ys) ≡ min (length xs) (length ys)
zip_length [] ys = omega arith
zip_length (x ∷ xs) [] = omega arith
zip_length (x ∷ xs) (y ∷ ys) = omega (arith, zip_length xs ys)

pub numbered_at : {X : Type 0} (k : ℕ) (xs : List X) (i : ℕ) (x : X) → i < length xs → x ≡ get_or xs i x → (k + i, x) ≡ get_or (enumerate_from k xs) i (k + i, x)
numbered_at k [] i x l e = absurd (omega arith)
numbered_at k (y ∷ xs) zero x l e = let same : k + 0 ≡ k = omega arith in ap (λ z. (z, x)) same ∙ ap (λ z. (k, z)) e
numbered_at k (y ∷ xs) (suc i) x l e =
    let same : k + suc i ≡ k + 1 + i = omega arith in
    subst (λ n. (n, x) ≡ get_or (enumerate_from (k + 1) xs) i (n, x)) (sym same) (numbered_at (k + 1) xs i x (omega arith) e)

pub numbered_length : {X : Type 0} (k : ℕ) (xs : List X) → length (enumerate_from k xs) ≡ length xs
numbered_length k [] = refl
numbered_length k (x ∷ xs) = ap suc (numbered_length (k + 1) xs)

-- what stands beside the item at a place
pub beside_at : {X Y Z : Type 0} (f : Y → Z) (g : X → Z) (ys : List Y) (xs : List X) (i : ℕ) (y : Y) (x : X) → map f ys ≡ map g xs → i < length xs → y ≡ get_or ys i y → x ≡ get_or xs i x → f y ≡ g x
beside_at f g ys xs i y x e lt is_y is_x = get_mapped f ys i y is_y ∙ ap (λ zs. get_or zs i (f y)) e ∙ get_mapped_any g xs i x (f y) lt is_x

-- the methods of a pair
pub are_beside : (p : Pair) (olds news : List Method) (afters : List (Option (Bor Method))) → olds ≡ methods_of p.before.now.kind → news ≡ methods_of p.after.now.kind
    → map option_copied afters ≡ all_named (λ m. m.name.0) olds news → AreBeside afters p
are_beside p olds news afters are be e =
    e ∙ ap (λ ms. all_named (λ (m : Method). m.name.0) ms news) are ∙ ap (λ ws. all_named (λ (m : Method). m.name.0) (methods_of p.before.now.kind) ws) be

pub there_is : {X : Type 0} (o : Option X) → is_there_and (λ y. true) o ≡ is_some o
there_is None = refl
there_is (Some x) = refl

pub copied_some : {X : Type 0} (o : Option (Bor X)) → is_some (option_copied o) ≡ is_some o
copied_some None = refl
copied_some (Some x) = refl

map-push : {X Y : Type 0} (f : X → Y) (xs : List X) (x : X) → map f (xs ++ x ∷ []) ≡ map f xs ++ f x ∷ []
map-push f [] x = refl
map-push f (y ∷ xs) x = ap (λ z. f y ∷ z) (map-push f xs x)

-- the place of a name by its bytes
place_by_name : {M : Type 0} (called : M → Ident) (k : ℕ) (ms : List M) (x : List ℕ)
    → position_from (λ m. has_name called (encode_utf8_all x) m) k ms ≡ position_from (λ y. same_text x y) k (map (λ m. (called m).0) ms)
place_by_name called k [] x = refl
place_by_name called k (m ∷ ms) x = rw (same_encoded ((called m).0) x, same_text_sym ((called m).0) x, place_by_name called (k + 1) ms x) refl

pub placed_by_name : {M : Type 0} (called : M → Ident) (ms : List M) (bytes x : List ℕ) → bytes ≡ encode_utf8_all x → place_in called bytes ms ≡ place_of (map (λ m. (called m).0) ms) x
placed_by_name called ms bytes x e =
    ap (λ q. place_in called q ms) e ∙ position_from-zero (λ m. has_name called (encode_utf8_all x) m) ms ∙ place_by_name called 0 ms x

mapped_more : {X Y : Type 0} (f : X → Y) (xs : List X) (i : ℕ) (x : X) (y : Y) (now further : List Y) → now ≡ map f (take i xs) → i < length xs → x ≡ get_or xs i x → y ≡ f x → further ≡ now ++ y ∷ [] → further ≡ map f (take (i + 1) xs)
mapped_more f xs i x y now further h lt is same e =
    e ∙ ap (λ z. z ++ y ∷ []) h ∙ ap (λ z. map f (take i xs) ++ z ∷ []) same ∙ sym (map-push f (take i xs) x) ∙ ap (map f) (sym (take_further xs i x lt is))

pub beside_more : {X Y : Type 0} (f : X → Option Y) (xs : List X) (i : ℕ) (x : X) (a : Option (Bor Y)) (now further : List (Option (Bor Y)))
    → map option_copied now ≡ map f (take i xs) → i < length xs → x ≡ get_or xs i x → option_copied a ≡ f x → further ≡ now ++ a ∷ [] → map option_copied further ≡ map f (take (i + 1) xs)
beside_more f xs i x a now further h lt is same e = mapped_more f xs i x (option_copied a) (map option_copied now) (map option_copied further) h lt is same (ap (map option_copied) e ∙ map-push option_copied now a)
