-- The methods that reach a declaration, interface by interface and method by method, and the table of them.
use Rattle.std.proofs.Common.{◌≡◌, ℕ, zero, suc, ◌+◌, ◌<◌, ◌≤◌, ◌≢◌, Bool, true, false, not, ◌⊎◌, inl, inr, List, [], ◌∷◌, ◌++◌, length, take, drop, get_or, map, filter, Option, Some, None, slice_get, slice_set, refl, sym, ap, ◌∙◌, arith, append-nil, append_assoc}
use Rattle.std.specs.Prelude.{if◌then◌else◌, ◌&&◌, ◌==◌, option_and_then}
use Rattle.std.proofs.lemmas.Bool.Decides.{nat_tests}
use Rattle.std.proofs.Math.Seq.{take-append_seam}
use Rattle.std.proofs.lemmas.List.{drop_all}
use Rattle.std.specs.List.{enumerate_from, flat_map}
use Rattle.aidl_schema.specs.declared.schema.Decl.{Decl}
use Rattle.aidl_schema.specs.declared.schema.Method.{Method}
use Rattle.aidl_schema.specs.Broken.{is_there_and}
use Rattle.aidl_schema.specs.Find.{methods_of_decl}
use Rattle.aidl_schema.specs.Names.{methods_of}
use Rattle.aidl_schema.specs.declared.schema.Arg.{Arg}
use Rattle.aidl_schema.specs.declared.schema.Base.{Base}
use Rattle.aidl_schema.specs.declared.schema.Base.TheVariants as base
use Rattle.aidl_schema.specs.Broken.{is_one_value}
use Rattle.aidl_schema.specs.Methods.{is_in_way}
use Rattle.aidl_schema.specs.Same.{base_code, decl_of, same, same_base, same_bool, same_decl, shape_code}
use Rattle.compat_witness.specs.Candidates.{client_of, server_of}
use Rattle.compat_witness.specs.Places.{Spot, spot_like}
use Rattle.compat_witness.specs.Reaching.{are_alike, has_argument, is_at, methods_reaching, number_of, only, reaches, reaching_in}
use Rattle.witness_search.specs.Asked.{method_seen}
use Rattle.witness_search.specs.ReachTables.{AreReachTables, row_at, row_of}
use Rattle.witness_search.specs.declared.candidates.Reach.{Reach}
use Rattle.witness_search.specs.declared.pair.ReachTables.{ReachTables}
use Rattle.witness_search.specs.steps.Reached.{one_at, reached_from, reached_in}

-- what stands at a position, and what is left there
pub there : {X : Type 0} (xs : List X) (i : ℕ) → i < length xs → (x : X) × (slice_get xs i ≡ Some x) × (drop i xs ≡ x ∷ drop (suc i) xs)
there [] i lt = absurd (omega arith)
there (x ∷ xs) zero lt = (x, refl, refl)
there (x ∷ xs) (suc i) lt = there xs i (omega arith)

-- those that pass, with their positions
passing : (test : Method → Bool) (i m : ℕ) (vs : List Method) → map (λ y. (i, y.0)) (filter (λ y. test y.1) (enumerate_from m vs)) ≡ reached_from m test i vs
passing test i m [] = refl
passing test i m (v ∷ vs) = by (test v) refl (passing test i (m + 1) vs)
  where
    by : (b : Bool) → test v ≡ b → map (λ y. (i, y.0)) (filter (λ y. test y.1) (enumerate_from (m + 1) vs)) ≡ reached_from (m + 1) test i vs
        → map (λ y. (i, y.0)) (filter (λ y. test y.1) (enumerate_from m (v ∷ vs))) ≡ reached_from m test i (v ∷ vs)
    by true e rest = rw e (ap (λ xs. (i, m) ∷ xs) rest)
    by false e rest = rw e rest

module _ (A : List Decl) (k : ℕ) (B : List Decl) where
  interface_is : (i : ℕ) (d : Decl) → slice_get A i ≡ Some d → reaching_in A k B (i, d) ≡ reached_in A k B i
  interface_is i d at =
      passing (λ v. reaches A k B i v) i 0 (methods_of d.kind)
      ∙ ap (λ o. reached_from 0 (λ v. reaches A k B i v) i (methods_of_decl o)) (sym at)

  -- from the interface of a number on
  abbrev pub later_ones : ℕ → List (ℕ × ℕ)
  later_ones i = flat_map (λ x. reaching_in A k B x) (enumerate_from i (drop i A))

  pub one_more : (i : ℕ) (found : List (ℕ × ℕ)) → i < length A → (found ++ reached_in A k B i) ++ later_ones (i + 1) ≡ found ++ later_ones i
  one_more i found lt =
      let d = there A i lt in
      let one : suc i ≡ i + 1 = omega arith in
      let left : drop i A ≡ d.0 ∷ drop (i + 1) A = d.2 ∙ ap (λ n. d.0 ∷ drop n A) one in
      append_assoc found (reached_in A k B i) (later_ones (i + 1))
      ∙ ap (λ xs. found ++ xs) (ap (λ xs. xs ++ later_ones (i + 1)) (sym (interface_is i d.0 d.1))
      ∙ ap (λ ds. flat_map (λ x. reaching_in A k B x) (enumerate_from i ds)) (sym left))

  pub no_more : (i : ℕ) → length A ≤ i → later_ones i ≡ []
  no_more i le = ap (λ ds. flat_map (λ x. reaching_in A k B x) (enumerate_from i ds)) (drop_all i A le)

-- one method more
pub next_method : (test : Method → Bool) (i m : ℕ) (vs : List Method) (v : Method) (found : List (ℕ × ℕ)) → drop m vs ≡ v ∷ drop (m + 1) vs
    → (found ++ (if test v then (i, m) ∷ [] else [])) ++ reached_from (m + 1) test i (drop (m + 1) vs) ≡ found ++ reached_from m test i (drop m vs)
next_method test i m vs v found left =
    append_assoc found (if test v then (i, m) ∷ [] else []) (reached_from (m + 1) test i (drop (m + 1) vs))
    ∙ ap (λ xs. found ++ xs) (ap (λ ws. reached_from m test i ws) (sym left))

-- One method more in the rows

at_itself : (rows : List (List Reach)) (n : ℕ) (v : List Reach) → n < length rows → row_at (slice_set rows n v) n ≡ v
at_itself [] n v lt = absurd (omega arith)
at_itself (x ∷ xs) zero v lt = refl
at_itself (x ∷ xs) (suc n) v lt = at_itself xs n v (omega arith)

at_other : (rows : List (List Reach)) (n k : ℕ) (v : List Reach) → n ≢ k → row_at (slice_set rows n v) k ≡ row_at rows k
at_other [] zero k v ne = refl
at_other [] (suc n) k v ne = refl
at_other (x ∷ xs) zero zero v ne = absurd (ne refl)
at_other (x ∷ xs) zero (suc k) v ne = refl
at_other (x ∷ xs) (suc n) zero v ne = refl
at_other (x ∷ xs) (suc n) (suc k) v ne = at_other xs n k v (λ e. ne (ap suc e))

row_there : (rows : List (List Reach)) (n : ℕ) (d : List Reach) → n < length rows → get_or rows n d ≡ row_at rows n
row_there [] n d lt = absurd (omega arith)
row_there (x ∷ xs) zero d lt = refl
row_there (x ∷ xs) (suc n) d lt = row_there xs n d (omega arith)

pub put_at : (r : Reach) (rows : List (List Reach)) (n : ℕ) (d new : List Reach) → n < length rows → new ≡ get_or rows n d ++ r ∷ []
    → (k : ℕ) → row_at (slice_set rows n new) k ≡ row_at rows k ++ one_at r (Some n) k
put_at r rows n d new lt e k = by (n == k) refl
  where
    by : (t : Bool) → (n == k) ≡ t → row_at (slice_set rows n new) k ≡ row_at rows k ++ one_at r (Some n) k
    by true test =
        let one : n ≡ k = grind (arith, nat_tests) in
        ap (row_at (slice_set rows n new)) (sym one) ∙ at_itself rows n new lt ∙ e
        ∙ ap (λ z. z ++ r ∷ []) (row_there rows n d lt ∙ ap (row_at rows) one)
        ∙ sym (ap (λ t. row_at rows k ++ (if t then r ∷ [] else [])) test)
    by false test =
        let ne : n ≢ k = grind (arith, nat_tests) in
        at_other rows n k new ne ∙ sym (append-nil (row_at rows k)) ∙ sym (ap (λ t. row_at rows k ++ (if t then r ∷ [] else [])) test)

mapped : (r : Reach) (olds : List Reach) (b : Bool) → map method_seen (olds ++ (if b then r ∷ [] else [])) ≡ map method_seen olds ++ (if b then method_seen r ∷ [] else [])
mapped r [] true = refl
mapped r [] false = refl
mapped r (x ∷ xs) b = ap (λ z. method_seen x ∷ z) (mapped r xs b)

pub put_one : (olds news : List Reach) (r : Reach) (number : Option ℕ) (k : ℕ) (b : Bool) → news ≡ olds ++ one_at r number k → is_at k number ≡ b
    → map method_seen news ≡ map method_seen olds ++ (if b then method_seen r ∷ [] else [])
put_one olds news r number k b e is =
    ap (map method_seen) e ∙ mapped r olds (is_at k number) ∙ ap (λ t. map method_seen olds ++ (if t then method_seen r ∷ [] else [])) is

-- The row of a table to whose empty rows all methods are added

pub table_row : (A B : List Decl) (items slice new rest : List (List Reach)) (n k : ℕ) → slice ≡ items → n ≡ length new → ((j : ℕ) → row_at items j ≡ [])
    → map method_seen (row_at new k) ≡ map method_seen (row_at slice k) ++ methods_reaching A k B → map method_seen (row_at (take n (new ++ rest)) k) ≡ methods_reaching A k B
table_row A B items slice new rest n k same count empty added =
    ap (λ rows. map method_seen (row_at rows k)) (ap (λ m. take m (new ++ rest)) count ∙ take-append_seam new rest)
    ∙ added ∙ ap (λ row. map method_seen row ++ methods_reaching A k B) (ap (λ rows. row_at rows k) same ∙ empty k)

-- What there is no declaration of, no method reaches

nothing_at : {X : Type 0} (xs : List X) (k : ℕ) → length xs ≤ k → slice_get xs k ≡ None
nothing_at [] k le = refl
nothing_at (x ∷ xs) zero le = absurd (omega arith)
nothing_at (x ∷ xs) (suc k) le = nothing_at xs k (omega arith)

not_both : (c d : Bool) → d ≡ false → (c && d) ≡ false
not_both true d e = e
not_both false d e = refl

module _ (A : List Decl) (k : ℕ) (B : List Decl) (none : slice_get A k ≡ None) where
  not_alike : (a b : Arg) → a.ty.base ≡ base.Named k → are_alike A B a b ≡ false
  not_alike a b e =
      let named : same_base A (base.Named k) B b.ty.base ≡ false = not_both (base_code (base.Named k) == base_code b.ty.base) (same_decl (slice_get A k) (decl_of B b.ty.base)) (ap (λ o. same_decl o (decl_of B b.ty.base)) none) in
      let differ : same A a.ty B b.ty ≡ false =
      ap (λ z. same_base A z B b.ty.base && ((shape_code a.ty.shape == shape_code b.ty.shape) && same_bool a.ty.nullable b.ty.nullable)) e
      ∙ ap (λ z. z && ((shape_code a.ty.shape == shape_code b.ty.shape) && same_bool a.ty.nullable b.ty.nullable)) named in
      not_both (is_in_way a.way && is_in_way b.way) (is_one_value a.ty && same A a.ty B b.ty) (not_both (is_one_value a.ty) (same A a.ty B b.ty) differ)

  no_argument : (i : ℕ) (v : Method) (a : Arg) → a.ty.base ≡ base.Named k → has_argument A B i v a ≡ false
  no_argument i v a e = by (spot_like A i v B)
    where
      by_only : (o : Option Arg) → is_there_and (are_alike A B a) o ≡ false
      by_only None = refl
      by_only (Some b) = not_alike a b e

      by : (o : Option Spot) → is_there_and (λ s. (v.id == s.method.id) && is_there_and (are_alike A B a) (only s.method.args)) o ≡ false
      by None = refl
      by (Some s) = not_both (v.id == s.method.id) (is_there_and (are_alike A B a) (only s.method.args)) (by_only (only s.method.args))

  none_reaches : (i : ℕ) (v : Method) → reaches A k B i v ≡ false
  none_reaches i v = by (only v.args)
    where
      by_test : (a : Arg) (n : ℕ) (t : Bool) → (n == k) ≡ t → a.ty.base ≡ base.Named n → is_at k (if has_argument A B i v a then Some n else None) ≡ false
      by_test a n true test e =
          let one : n ≡ k = grind (arith, nat_tests) in
          ap (λ t. is_at k (if t then Some n else None)) (no_argument i v a (e ∙ ap base.Named one))
      by_test a n false test e = either (has_argument A B i v a)
        where
          either : (t : Bool) → is_at k (if t then Some n else None) ≡ false
          either true = test
          either false = refl

      by_base : (a : Arg) (c : Base) → a.ty.base ≡ c → is_at k (option_and_then (λ n. if has_argument A B i v a then Some n else None) (number_of c)) ≡ false
      by_base a (base.Named n) e = by_test a n (n == k) refl e
      by_base a base.Boolean e = refl
      by_base a base.Byte e = refl
      by_base a base.Char e = refl
      by_base a base.Int e = refl
      by_base a base.Long e = refl
      by_base a base.Text e = refl

      by : (o : Option Arg) → is_at k (option_and_then (λ a. option_and_then (λ n. if has_argument A B i v a then Some n else None) (number_of a.ty.base)) o) ≡ false
      by None = refl
      by (Some a) = by_base a a.ty.base refl

  none_in : (i m : ℕ) (vs : List Method) → filter (λ y. reaches A k B i y.1) (enumerate_from m vs) ≡ []
  none_in i m [] = refl
  none_in i m (v ∷ vs) = rw (none_reaches i v) (none_in i (m + 1) vs)

  none_from : (i : ℕ) (ds : List Decl) → flat_map (λ x. reaching_in A k B x) (enumerate_from i ds) ≡ []
  none_from i [] = refl
  none_from i (d ∷ ds) =
      ap (λ ys. map (λ y. (i, y.0)) ys ++ flat_map (λ x. reaching_in A k B x) (enumerate_from (i + 1) ds)) (none_in i 0 (methods_of d.kind)) ∙ none_from (i + 1) ds

beyond : (A : List Decl) (k : ℕ) (B : List Decl) → length A ≤ k → methods_reaching A k B ≡ []
beyond A k B le = none_from A k B (nothing_at A k le) 0 A

no_row : (rows : List (List Reach)) (k : ℕ) → length rows ≤ k → row_at rows k ≡ []
no_row rows k le = ap row_of (nothing_at rows k le)

below : (k n : ℕ) → (k < n) ⊎ (n ≤ k)
below zero zero = inr (omega arith)
below zero (suc n) = inl (omega arith)
below (suc k) zero = inr (omega arith)
below (suc k) (suc n) = by (below k n)
  where
    by : (k < n) ⊎ (n ≤ k) → (suc k < suc n) ⊎ (suc n ≤ suc k)
    by (inl lt) = inl (omega arith)
    by (inr le) = inr (omega arith)

-- the rows of all numbers
pub table_rows : (A B : List Decl) (items slice new rest : List (List Reach)) (n k : ℕ) → slice ≡ items → n ≡ length new → length new ≡ length A → ((j : ℕ) → row_at items j ≡ [])
    → (k < length A → map method_seen (row_at new k) ≡ map method_seen (row_at slice k) ++ methods_reaching A k B) → map method_seen (row_at (take n (new ++ rest)) k) ≡ methods_reaching A k B
table_rows A B items slice new rest n k same count whole empty added = by (below k (length A))
  where
    by : (k < length A) ⊎ (length A ≤ k) → map method_seen (row_at (take n (new ++ rest)) k) ≡ methods_reaching A k B
    by (inl lt) = table_row A B items slice new rest n k same count empty (added lt)
    by (inr le) =
        ap (λ rows. map method_seen (row_at rows k)) (ap (λ m. take m (new ++ rest)) count ∙ take-append_seam new rest)
        ∙ ap (map method_seen) (no_row new k (omega arith)) ∙ sym (beyond A k B le)

-- Of two versions

-- the methods that the tables have, of new and of old
pub reached_back : (old new : List Decl) (t : ReachTables) (back : Bool) (k : ℕ) (row : List Reach) → AreReachTables old new t → back ≡ true → row ≡ row_at t.back.items k
    → map method_seen row ≡ methods_reaching (client_of back old new) k (server_of back old new)
reached_back old new t true k row tables e is = ap (map method_seen) is ∙ tables.back k
reached_back old new t false k row tables e is = cc

pub reached_forth : (old new : List Decl) (t : ReachTables) (back : Bool) (k : ℕ) (row : List Reach) → AreReachTables old new t → back ≡ false → row ≡ row_at t.forth.items k
    → map method_seen row ≡ methods_reaching (client_of back old new) k (server_of back old new)
reached_forth old new t false k row tables e is = ap (map method_seen) is ∙ tables.forth k
reached_forth old new t true k row tables e is = cc
