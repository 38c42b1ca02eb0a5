-- Where declared names lead that end in a name: to imports.
use Rattle.std.proofs.Common.{◌≡◌, ◌≤◌, ◌+◌, ◌-◌, ℕ, zero, suc, Bool, true, false, cond, nat_eq, is_some, Bor, List, [], ◌∷◌, ◌++◌, map, length, take, drop, length-append, Option, Some, None, refl, sym, ◌∙◌, ap, arith, eq-eqb}
use Rattle.std.specs.List.{fold, position_from, slice_get}
use Rattle.std.specs.Str.{bytes_eq}
use Rattle.std.proofs.lemmas.Bool.{and_parts}
use Rattle.std.proofs.lemmas.Option.{slice_get_within, get_or_from_slice_get}
use Rattle.std.proofs.lemmas.Slice.Eq.{bytes_eq-Decides}
use Rattle.aidl_base.specs.declared.name.Ident.{Ident}
use Rattle.aidl_syntax.specs.declared.tree.DottedTree.{DottedTree}
use Rattle.declared_names.specs.declared.ends.End.{End}
use Rattle.name_resolution.specs.declared.meaning.Resolved.{Resolved}
use Rattle.name_resolution.specs.declared.meaning.Resolved.TheVariants.{Declared}
use Rattle.declared_names.specs.Names.{text, same, last}
use Rattle.declared_names.specs.Marks.{with_byte, mark_of}
use Rattle.declared_names.specs.Declarations.{Entry}
use Rattle.name_resolution.specs.Resolution.{number_of, first_declared, imported, or_else}
use Rattle.declared_names.specs.Numbered.{in_each}
use Rattle.declared_names.specs.Ends.{mark_back, ends_in, ends_of, mark_of_import}
use Rattle.name_resolution.specs.steps.Behind.{through, through_at, place_of, without, if_through, led, led_by, first_through}
use Rattle.declared_names.proofs.lemmas.SameNames.{same-right, same-turned}
use Rattle.declared_names.proofs.lemmas.Firsts.{found-first}
use Rattle.declared_names.proofs.lemmas.Compared.{same-split}
use Rattle.name_resolution.proofs.Copies.{same_finds}
use Rattle.name_resolution.proofs.lemmas.Tables.{same_marks}
use Rattle.name_resolution.proofs.lemmas.Through.{searched, through_all}

-- an import has a whole name
abbrev pub has_name : List Ident → Bor DottedTree → Bool
has_name name i = same i.now.name.0 name

-- imports with the same whole name have the same mark
pub named_marks : (name : List Ident) (i : Bor DottedTree) → has_name name i ≡ true → nat_eq (mark_of name) (mark_of_import i.now) ≡ true
named_marks name i h = eq-eqb (mark_of name) (mark_of_import i.now) (sym (same_marks 0 i.now.name.0 name h))

-- what is found stands there and passes the test
found_at : {X : Type 0} (p : X → Bool) (k : ℕ) (xs : List X) (r : ℕ) → position_from p k xs ≡ Some r → (i : ℕ) × (x : X) × (r ≡ k + i) × (slice_get xs i ≡ Some x) × (p x ≡ true)
found_at p k [] r e = cc
found_at {X} p k (x ∷ xs) r e = go (p x) refl (found_at p (k + 1) xs r) e where
  go : (b : Bool) → p x ≡ b → (position_from p (k + 1) xs ≡ Some r → (i : ℕ) × (y : X) × (r ≡ k + 1 + i) × (slice_get xs i ≡ Some y) × (p y ≡ true)) → cond b (Some k) (position_from p (k + 1) xs) ≡ Some r
      → (i : ℕ) × (y : X) × (r ≡ k + i) × (slice_get (x ∷ xs) i ≡ Some y) × (p y ≡ true)
  go true q rec h = let s : k ≡ r = cc in (zero, x, omega (arith, s), refl, q)
  go false q rec h = let w = rec h in (suc w.0, w.1, omega (arith, w.2), w.3, w.4)

-- The ends of a name that is an import's with other parts behind it.

same_back : (a b : List Ident) → same a b ≡ true → mark_back a ≡ mark_back b
same_back [] [] e = refl
same_back [] (y ∷ ys) e = cc
same_back (x ∷ xs) [] e = cc
same_back (x ∷ xs) (y ∷ ys) e =
    let p = and_parts (bytes_eq (text x) (text y)) (same xs ys) e in
    let q : text x ≡ text y = (bytes_eq-Decides (text x) (text y)).0 p.0 in
    ap (λ (t : List ℕ). with_byte (fold with_byte (mark_back xs) t) 46) q ∙ ap (λ (m : ℕ). with_byte (fold with_byte m (text y)) 46) (same_back xs ys p.1)

same_length : (a b : List Ident) → same a b ≡ true → length a ≡ length b
same_length [] [] e = refl
same_length [] (y ∷ ys) e = cc
same_length (x ∷ xs) [] e = cc
same_length (x ∷ xs) (y ∷ ys) e = ap suc (same_length xs ys (and_parts (bytes_eq (text x) (text y)) (same xs ys) e).1)

in_front : {X : Type 0} (xs ys : List X) (i : ℕ) (x : X) → slice_get xs i ≡ Some x → slice_get (xs ++ ys) i ≡ Some x
in_front [] ys i x e = cc
in_front (y ∷ xs) ys zero x e = e
in_front (y ∷ xs) ys (suc i) x e = in_front xs ys i x e

in_back : {X : Type 0} (xs ys : List X) (i : ℕ) (x : X) → slice_get ys i ≡ Some x → (j : ℕ) × (slice_get (xs ++ ys) j ≡ Some x)
in_back [] ys i x e = (i, e)
in_back (y ∷ xs) ys i x e = let w = in_back xs ys i x e in (suc w.0, w.1)

-- what one of some things has is among what all have
in_each_has : {A B : Type 0} (f : ℕ → A → List B) (k : ℕ) (xs : List A) (n : ℕ) (x : A) (i : ℕ) (y : B) → slice_get xs n ≡ Some x → slice_get (f (k + n) x) i ≡ Some y
    → (q : ℕ) × (slice_get (in_each f k xs) q ≡ Some y)
in_each_has f k [] n x i y e h = cc
in_each_has f k (z ∷ xs) zero x i y e h =
    let s : z ≡ x = cc in
    let t : k + 0 ≡ k = omega arith in
    (i, in_front (f k z) (in_each f (k + 1) xs) i y (ap (λ w. slice_get (f k w) i) s ∙ ap (λ (m : ℕ). slice_get (f m x) i) (sym t) ∙ h))
in_each_has f k (z ∷ xs) (suc n) x i y e h =
    let t : k + 1 + n ≡ k + suc n = omega arith in
    let w = in_each_has f (k + 1) xs n x i y e (ap (λ (m : ℕ). slice_get (f m x) i) t ∙ h) in
    in_back (f k z) (in_each f (k + 1) xs) w.0 y w.1

in_all_has : {A B : Type 0} (f : ℕ → A → List B) (xs : List A) (n : ℕ) (x : A) (i : ℕ) (y : B) → slice_get xs n ≡ Some x → slice_get (f n x) i ≡ Some y → (q : ℕ) × (slice_get (in_each f 0 xs) q ≡ Some y)
in_all_has f xs n x i y e h = let t : 0 + n ≡ n = omega arith in in_each_has f 0 xs n x i y e (ap (λ (m : ℕ). slice_get (f m x) i) t ∙ h)

module _ (first : Ident) (rest : List Ident) where
  -- an end of the name
  abbrev pub end_of : ℕ → End
  end_of owner = record { owner = owner; mark = mark_back (first ∷ rest) }

  has_end : (owner : ℕ) (name front : List Ident) → same name (front ++ rest) ≡ true → same (last front) (first ∷ []) ≡ true → (i : ℕ) × (slice_get (ends_in owner name) i ≡ Some (end_of owner))
  has_end owner name [] e l = cc
  has_end owner [] (a ∷ more) e l = cc
  has_end owner (n ∷ ns) (a ∷ []) e l =
      let p = and_parts (bytes_eq (text n) (text a)) (same ns rest) e in
      let t : same (n ∷ ns) (first ∷ rest) ≡ true = begins p.0 p.1 in
      let m : mark_back (n ∷ ns) ≡ mark_back (first ∷ rest) = same_back (n ∷ ns) (first ∷ rest) t in
      let z : End = record { owner = owner; mark = mark_back (n ∷ ns) } in
      let g : Some z ≡ Some (end_of owner) = ap (λ (k : ℕ). let y : End = record { owner = owner; mark = k } in Some y) m in
      in_back (ends_in owner ns) (z ∷ []) 0 (end_of owner) g where
        begins : bytes_eq (text n) (text a) ≡ true → same ns rest ≡ true → same (n ∷ ns) (first ∷ rest) ≡ true
        begins b s =
            let q = and_parts (bytes_eq (text a) (text first)) true l in
            let u : text a ≡ text first = (bytes_eq-Decides (text a) (text first)).0 q.0 in
            let v : bytes_eq (text n) (text first) ≡ true = ap (bytes_eq (text n)) (sym u) ∙ b in
            rw (v, s) refl
  has_end owner (n ∷ ns) (a ∷ b ∷ more) e l =
      let p = and_parts (bytes_eq (text n) (text a)) (same ns (b ∷ more ++ rest)) e in
      let w = has_end owner ns (b ∷ more) p.1 l in
      (w.0, in_front (ends_in owner ns) (record { owner = owner; mark = mark_back (n ∷ ns) } ∷ []) w.0 (end_of owner) w.1)

-- what stands before the other parts
front_same : (name front rest : List Ident) → same name (front ++ rest) ≡ true → same (without name (length rest)) front ≡ true
front_same name front rest e =
    let l = same_length name (front ++ rest) e in
    let a = length-append front rest in
    let k : length name - length rest ≡ length front = omega (arith, l, a) in
    let le : length front ≤ length name = omega (arith, l, a) in
    let p = and_parts (same (take (length front) name) front) (same (drop (length front) name) rest) (same-split name front rest le ∙ e) in
    ap (λ (n : ℕ). same (take n name) front) k ∙ p.0

module _ (es : List Entry) (first : Ident) (rest : List Ident) where
  through_is : (x : DottedTree) → is_some (through es first rest x) ≡ true → (same (last x.name.0) (first ∷ []) ≡ true) × (n : ℕ) × (number_of es (x.name.0 ++ rest) ≡ Some n)
  through_is x e = go (same (last x.name.0) (first ∷ [])) refl e where
    numbered : (o : Option ℕ) → number_of es (x.name.0 ++ rest) ≡ o → is_some (elim o as (λ _. Option Resolved) [ None ↦ None | Some number ↦ Some (Declared number) ]) ≡ true
        → (n : ℕ) × (number_of es (x.name.0 ++ rest) ≡ Some n)
    numbered None q h = cc
    numbered (Some n) q h = (n, q)

    go : (b : Bool) → same (last x.name.0) (first ∷ []) ≡ b → is_some (first_declared es (map (λ (d : DottedTree). d.name.0 ++ rest) (cond b (x ∷ []) []))) ≡ true
        → (same (last x.name.0) (first ∷ []) ≡ true) × (n : ℕ) × (number_of es (x.name.0 ++ rest) ≡ Some n)
    go false q h = cc
    go true q h = let w = numbered (number_of es (x.name.0 ++ rest)) refl h in (q, w.0, w.1)

  module _ (imports : List (Bor DottedTree)) where
    -- the name means something through an import, or through the one at a place
    abbrev pub finds : Bor DottedTree → Bool
    finds i = is_some (through es first rest i.now)

    abbrev pub finds_at : ℕ → Bool
    finds_at j = is_some (through_at es first rest imports j)

    if_right : (o : Option ℕ) (j : ℕ) → if_through es first rest imports o ≡ Some j → finds_at j ≡ true
    if_right None j e = cc
    if_right (Some p) j e = go (finds_at p) refl e where
      go : (b : Bool) → finds_at p ≡ b → cond b (Some p) None ≡ Some j → finds_at j ≡ true
      go true q h = let s : p ≡ j = cc in ap finds_at (sym s) ∙ q
      go false q h = cc

    -- where a declaration leads the name means something
    pub led_right : (n j : ℕ) → led_by es first rest imports n ≡ Some j → finds_at j ≡ true
    led_right n j e = go (slice_get es n) e where
      go : (o : Option Entry) → elim o as (λ _. Option ℕ) [ None ↦ None | Some d ↦ led es first rest imports d.name ] ≡ Some j → finds_at j ≡ true
      go None h = cc
      go (Some d) h = if_right (place_of imports (without d.name (length rest))) j h

    pub import_there : (j : ℕ) → finds_at j ≡ true → (x : Bor DottedTree) × (slice_get imports j ≡ Some x) × (finds x ≡ true)
    import_there j e = go (slice_get imports j) refl e where
      go : (o : Option (Bor DottedTree)) → slice_get imports j ≡ o → is_some (elim o as (λ _. Option Resolved) [ None ↦ None | Some i ↦ through es first rest i.now ]) ≡ true
          → (x : Bor DottedTree) × (slice_get imports j ≡ Some x) × (finds x ≡ true)
      go None q h = cc
      go (Some x) q h = (x, q, h)

    -- a declared name that is an import's with the other parts leads there or before
    leads_there : (i : ℕ) (x : Bor DottedTree) (name : List Ident) → slice_get imports i ≡ Some x → finds x ≡ true → same name (x.now.name.0 ++ rest) ≡ true
        → (r : ℕ) × (led es first rest imports name ≡ Some r) × (r ≤ i)
    leads_there i x name is h e =
        let front = without name (length rest) in
        let s : same front x.now.name.0 ≡ true = front_same name x.now.name.0 rest e in
        let t : same x.now.name.0 front ≡ true = same-turned x.now.name.0 front ∙ s in
        let w = found-first (has_name front) 0 imports i x (slice_get_within imports i x is) (sym (get_or_from_slice_get imports i x x is)) t in
        let f = found_at (has_name front) 0 imports w.0 w.1 in
        let y : Bor DottedTree = f.1 in
        let u : same y.now.name.0 x.now.name.0 ≡ true = sym (same-right y.now.name.0 front x.now.name.0 s) ∙ f.4 in
        let k : w.0 ≡ f.0 = omega (arith, f.2) in
        let g : finds_at w.0 ≡ true =
        ap finds_at k ∙ ap (λ (o : Option (Bor DottedTree)). is_some (elim o as (λ _. Option Resolved) [ None ↦ None | Some i ↦ through es first rest i.now ])) f.3
        ∙ ap is_some (same_finds es first rest y.now x.now u) ∙ h in
        (w.0, ap (if_through es first rest imports) w.1 ∙ ap (λ b. cond b (Some w.0) None) g, omega (arith, w.2))

    -- where the name means something through an import, an end of a declared name leads there or before
    pub an_end_leads : (j : ℕ) → first_through es first rest imports ≡ Some j
        → (y : ℕ) × (e : End) × (slice_get (ends_of es) y ≡ Some e) × (e.mark ≡ mark_back (first ∷ rest)) × (r : ℕ) × (led_by es first rest imports e.owner ≡ Some r) × (r ≤ j)
    an_end_leads j e =
        let w = found_at finds 0 imports j e in
        let x : Bor DottedTree = w.1 in
        let t = through_is x.now w.4 in
        let d = found_at (λ (z : Entry). same z.name (x.now.name.0 ++ rest)) 0 es t.1 t.2 in
        let m : ℕ = d.0 in
        let entry : Entry = d.1 in
        let h = has_end first rest m entry.name x.now.name.0 d.4 t.0 in
        let q = in_all_has (λ (owner : ℕ) (z : Entry). ends_in owner z.name) es m entry h.0 (end_of first rest m) d.3 h.1 in
        let l = leads_there w.0 x entry.name w.3 w.4 d.4 in (
          q.0,
          end_of first rest m,
          q.1,
          refl,
          l.0,
          ap (λ (o : Option Entry). elim o as (λ _. Option ℕ) [ None ↦ None | Some d ↦ led es first rest imports d.name ]) d.3 ∙ l.1,
          omega (arith, l.2, w.2),
        )

  -- what the first import finds through which anything is found
  picked : (k : ℕ) (xs : List (Bor DottedTree)) (r : ℕ) → position_from (λ (i : Bor DottedTree). is_some (through es first rest i.now)) k xs ≡ Some r
      → (i : ℕ) × (x : Bor DottedTree) × (r ≡ k + i) × (slice_get xs i ≡ Some x) × (searched (through es first rest) (map (λ d. d.now) xs) ≡ through es first rest x.now)
  picked k [] r e = cc
  picked k (x ∷ xs) r e = go (through es first rest x.now) refl (picked (k + 1) xs r) e where
    others : Option Resolved
    others = searched (through es first rest) (map (λ (d : Bor DottedTree). d.now) xs)

    at : Option ℕ
    at = position_from (λ (i : Bor DottedTree). is_some (through es first rest i.now)) (k + 1) xs

    go : (o : Option Resolved) → through es first rest x.now ≡ o
        → (at ≡ Some r → (i : ℕ) × (y : Bor DottedTree) × (r ≡ k + 1 + i) × (slice_get xs i ≡ Some y) × (others ≡ through es first rest y.now)) → cond (is_some o) (Some k) at ≡ Some r
        → (i : ℕ) × (y : Bor DottedTree) × (r ≡ k + i) × (slice_get (x ∷ xs) i ≡ Some y) × (or_else (through es first rest x.now) others ≡ through es first rest y.now)
    go (Some v) q rec h = let s : k ≡ r = cc in (zero, x, omega (arith, s), refl, ap (λ o. or_else o others) q ∙ sym q)
    go None q rec h = let w = rec h in (suc w.0, w.1, omega (arith, w.2), w.3, ap (λ o. or_else o others) q ∙ w.4)

  none_picked : (k : ℕ) (xs : List (Bor DottedTree)) → position_from (λ (i : Bor DottedTree). is_some (through es first rest i.now)) k xs ≡ None → None ≡ searched (through es first rest) (map (λ d. d.now) xs)
  none_picked k [] e = refl
  none_picked k (x ∷ xs) e = go (through es first rest x.now) refl (none_picked (k + 1) xs) e where
    others : Option Resolved
    others = searched (through es first rest) (map (λ (d : Bor DottedTree). d.now) xs)

    at : Option ℕ
    at = position_from (λ (i : Bor DottedTree). is_some (through es first rest i.now)) (k + 1) xs

    go : (o : Option Resolved) → through es first rest x.now ≡ o → (at ≡ None → None ≡ others) → cond (is_some o) (Some k) at ≡ None → None ≡ or_else (through es first rest x.now) others
    go (Some v) q rec h = cc
    go None q rec h = rec h ∙ ap (λ o. or_else o others) (sym q)

  -- what the name means through imports is what it means through the first one through which it means anything
  pub means_at : (imports : List (Bor DottedTree)) (r : ℕ) → Some r ≡ first_through es first rest imports
      → through_at es first rest imports r ≡ first_declared es (imported (map (λ d. d.now) imports) (first ∷ rest))
  means_at imports r e =
      let w = picked 0 imports r (sym e) in
      let k : r ≡ w.0 = omega (arith, w.2) in
      ap (through_at es first rest imports) k
      ∙ ap (λ (o : Option (Bor DottedTree)). elim o as (λ _. Option Resolved) [ None ↦ None | Some i ↦ through es first rest i.now ]) w.3
      ∙ sym w.4 ∙ through_all es first rest (map (λ d. d.now) imports)

  pub means_nothing : (imports : List (Bor DottedTree)) → None ≡ first_through es first rest imports → None ≡ first_declared es (imported (map (λ d. d.now) imports) (first ∷ rest))
  means_nothing imports e = none_picked 0 imports (sym e) ∙ through_all es first rest (map (λ d. d.now) imports)
