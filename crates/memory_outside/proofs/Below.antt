-- A path below a root, by its parts.
use Rattle.std.proofs.Common.{◌≡◌, ℕ, ◌==◌, Bool, true, false, cond, List, [], ◌∷◌, ◌++◌, drop, Option, Some, None, refl, sym, ap, ◌∙◌, true≢false}
use Rattle.std.proofs.Common.{lit<, ◌+◌, ◌<◌, ◌&&◌, map, length, get_or, append_assoc}
use Rattle.std.specs.List.{filter_map, cons_option, list_all}
use Rattle.std.specs.Option.{option_to_list}
use Rattle.std.specs.declared.cmp.Ordering.TheVariants.{Equal}
use Rattle.std.specs.Ordering.{nat_cmp, ordering_then, is_lt}
use Rattle.std.specs.Cmp.{nat_cmp_is}
use Rattle.std.specs.Cmp.Lexicographic.{slice_cmp}
use Rattle.std.specs.FinMap.Entries.{is_sorted, below_all}
use Rattle.std.proofs.lemmas.List.{append-nil}
use Rattle.aidl_base.specs.declared.source_file.SourceFile.{SourceFile}
use Rattle.aidl_outside.specs.Entries.{entries, path_of}
use Rattle.memory_outside.proofs.Places.{next}
use Rattle.std.proofs.lemmas.Bool.{eqb-true, eq-eqb}
use Rattle.std.proofs.lemmas.Str.{encode_ascii}
use Rattle.std.specs.Option.{option_map}
use Rattle.std.specs.Prelude.{◌≢◌, MatchOption}
use Rattle.std.specs.Borrow.{Bor}
use Rattle.std.specs.Char.{encode_utf8}
use Rattle.std.specs.Str.Pattern.{StripsPrefix, FindsCharPrefix}
use Rattle.aidl_outside.specs.Files.{below, is_ascending}

both : (a b : Bool) → (a && b) ≡ true → (a ≡ true) × (b ≡ true)
both true true e = (refl, refl)
both true false e = absurd (true≢false (sym e))
both false b e = absurd (true≢false (sym e))

module _ (r p : ℕ) (root path : List ℕ) (apart : (rest : List ℕ) → p ∷ path ≡ r ∷ root ++ rest → ⊥) where
  by_first : (same : Bool) → (p == r) ≡ same → (((rest : List ℕ) → path ≡ root ++ rest → ⊥) → below root path ≡ None) → cond same (below root path) None ≡ None
  by_first true e ends = let one = eqb-true p r e in ends (λ rest h. apart rest (cc))
  by_first false e ends = refl

-- what does not begin with the root
pub not_begun : (root path : List ℕ) → ((rest : List ℕ) → path ≡ root ++ rest → ⊥) → below root path ≡ None
not_begun [] path apart = absurd (apart path refl)
not_begun (r ∷ root) [] apart = refl
not_begun (r ∷ root) (p ∷ path) apart = by_first r p root path apart (p == r) refl (λ h. not_begun root path h)

-- what begins with the root goes on without it
pub begun : (root rest : List ℕ) → below root (root ++ rest) ≡ below [] rest
begun [] rest = refl
begun (r ∷ root) rest = ap (λ b. cond b (below root (root ++ rest)) None) (eq-eqb r r refl) ∙ begun root rest

by_slash : (p : ℕ) (path : List ℕ) (same : Bool) → (p == 47) ≡ same → ((rest : List ℕ) → p ∷ path ≡ 47 ∷ rest → ⊥) → cond same (Some path) None ≡ None
by_slash p path true e apart = let one = eqb-true p 47 e in absurd (apart path (ap (λ n. n ∷ path) one))
by_slash p path false e apart = refl

pub no_slash : (rest : List ℕ) → ((more : List ℕ) → rest ≡ 47 ∷ more → ⊥) → below [] rest ≡ None
no_slash [] apart = refl
no_slash (p ∷ path) apart = by_slash p path (p == 47) refl apart

-- what is left after a slash, where one stands there
pub after_slash : (rest : List ℕ) (o : Option (Bor (List ℕ)))
    → MatchOption o ((more : List ℕ) → rest ≢ encode_utf8 47 ++ more) (λ x. StripsPrefix (FindsCharPrefix 47) rest x.now)
    → option_map (λ x. x.now) o ≡ below [] rest
after_slash rest None apart = sym (no_slash rest (λ more e. apart more (e ∙ ap (λ first. first ++ more) (sym (encode_ascii 47 (lit< tt))))))
after_slash rest (Some x) there =
    let whole : rest ≡ 47 ∷ x.now = there.1.split ∙ ap (λ first. first ++ drop there.0 rest) (encode_ascii 47 (lit< tt)) ∙ ap (λ more. 47 ∷ more) (sym there.2) in
    sym (ap (below []) whole)

-- one more path, or none
pub cons_option-append : (before : List (List ℕ)) (o : Option (List ℕ)) (rest : List (List ℕ)) → (before ++ option_to_list o) ++ rest ≡ before ++ cons_option o rest
cons_option-append before None rest = ap (λ front. front ++ rest) (append-nil before)
cons_option-append before (Some x) rest = append_assoc before (x ∷ []) rest

module _ (root : List ℕ) (fs : List SourceFile) (i : ℕ) (f : SourceFile) (lt : i < length fs) (is : f ≡ get_or fs i f) where
  -- the paths that were found, with that of the next file, and those that are left
  pub one_more : (before now : List (List ℕ)) → now ≡ before ++ option_to_list (below root (path_of f))
      → now ++ filter_map (below root) (map path_of (drop (i + 1) fs)) ≡ before ++ filter_map (below root) (map path_of (drop i fs))
  one_more before now e =
      ap (λ front. front ++ filter_map (below root) (map path_of (drop (i + 1) fs))) e
      ∙ cons_option-append before (below root (path_of f)) (filter_map (below root) (map path_of (drop (i + 1) fs)))
      ∙ ap (λ left. before ++ filter_map (below root) (map path_of left)) (sym (next fs i f lt is))

begins_by : (r p : ℕ) (root path x : List ℕ) (same : Bool) → (p == r) ≡ same → (below root path ≡ Some x → path ≡ root ++ 47 ∷ x) → cond same (below root path) None ≡ Some x → p ∷ path ≡ r ∷ root ++ 47 ∷ x
begins_by r p root path x true e rest h = let one = eqb-true p r e in ap (λ n. n ∷ path) one ∙ ap (λ left. r ∷ left) (rest h)
begins_by r p root path x false e rest h = absurd cc

slash_by : (p : ℕ) (path x : List ℕ) (same : Bool) → (p == 47) ≡ same → cond same (Some path) None ≡ Some x → p ∷ path ≡ 47 ∷ x
slash_by p path x true e h = let one = eqb-true p 47 e in let rest : path ≡ x = cc in ap (λ n. n ∷ path) one ∙ ap (λ left. 47 ∷ left) rest
slash_by p path x false e h = absurd cc

-- what is below a root begins with it
pub begins : (root path x : List ℕ) → below root path ≡ Some x → path ≡ root ++ 47 ∷ x
begins [] [] x e = absurd cc
begins [] (p ∷ path) x e = slash_by p path x (p == 47) refl e
begins (r ∷ root) [] x e = absurd cc
begins (r ∷ root) (p ∷ path) x e = begins_by r p root path x (p == r) refl (λ h. begins root path x h) e

-- a common front does not count in an order by bytes
pub slice_cmp-front : (front a b : List ℕ) → slice_cmp nat_cmp (front ++ a) (front ++ b) ≡ slice_cmp nat_cmp a b
slice_cmp-front [] a b = refl
slice_cmp-front (n ∷ front) a b = ap (λ o. ordering_then o (slice_cmp nat_cmp (front ++ a) (front ++ b))) (sym (nat_cmp_is n n Equal refl)) ∙ slice_cmp-front front a b

module _ (root : List ℕ) where
  abbrev found : List (List ℕ × List ℕ) → List (List ℕ)
  found es = filter_map (below root) (map (λ e. e.0) es)

  later_by : (path x : List ℕ) (e : List ℕ × List ℕ) (es : List (List ℕ × List ℕ)) (o : Option (List ℕ)) → below root path ≡ Some x → below root e.0 ≡ o → (is_lt (slice_cmp nat_cmp path e.0) && below_all (slice_cmp nat_cmp) path es) ≡ true
      → (below_all (slice_cmp nat_cmp) path es ≡ true → list_all (λ y. is_lt (slice_cmp nat_cmp x y)) (found es) ≡ true)
      → list_all (λ y. is_lt (slice_cmp nat_cmp x y)) (cons_option o (found es)) ≡ true
  later_by path x e es None there is h rest = rest (both _ _ h).1
  later_by path x e es (Some y) there is h rest =
      let order : slice_cmp nat_cmp path e.0 ≡ slice_cmp nat_cmp x y =
      ap (λ p. slice_cmp nat_cmp p e.0) (begins root path x there) ∙ ap (slice_cmp nat_cmp (root ++ 47 ∷ x)) (begins root e.0 y is) ∙ slice_cmp-front root (47 ∷ x) (47 ∷ y) ∙ slice_cmp-front (47 ∷ []) x y in
      rw (ap is_lt (sym order) ∙ (both _ _ h).0) (rest (both _ _ h).1)

  later : (path x : List ℕ) (es : List (List ℕ × List ℕ)) → below root path ≡ Some x → below_all (slice_cmp nat_cmp) path es ≡ true → list_all (λ y. is_lt (slice_cmp nat_cmp x y)) (found es) ≡ true
  later path x [] there h = refl
  later path x (e ∷ es) there h = later_by path x e es (below root e.0) there refl h (λ k. later path x es there k)

  ascending_by : (path : List ℕ) (es : List (List ℕ × List ℕ)) (o : Option (List ℕ)) → below root path ≡ o → below_all (slice_cmp nat_cmp) path es ≡ true → is_ascending (found es) ≡ true → is_ascending (cons_option o (found es)) ≡ true
  ascending_by path es None is h rest = rest
  ascending_by path es (Some x) is h rest = rw (later path x es is h) rest

  -- what is listed of sorted files is sorted
  pub ascending : (es : List (List ℕ × List ℕ)) → is_sorted (slice_cmp nat_cmp) es ≡ true → is_ascending (found es) ≡ true
  ascending [] h = refl
  ascending (e ∷ es) h = ascending_by e.0 es (below root e.0) refl (both _ _ h).0 (ascending es (both _ _ h).1)

-- the paths of files
pub paths_of : (fs : List SourceFile) → map (λ e. e.0) (entries fs) ≡ map path_of fs
paths_of [] = refl
paths_of (f ∷ fs) = ap (λ paths. path_of f ∷ paths) (paths_of fs)
