-- Adding one path to the folders, and then the others.
use Rattle.std.proofs.Common.{◌≡◌, ◌≢◌, ℕ, zero, suc, ◌+◌, ◌-◌, ◌<◌, ◌≤◌, ◌==◌, ◌++◌, ◌⊎◌, inl, inr, min, max, Bool, true, false, cond, List, [], ◌∷◌, length, map, get_or, slice_set, drop, drop-cons, add-one, String, Global, string_bytes, Option, Some, None, refl, ap, sym, ◌∙◌, arith, append_assoc, option_map}
use Rattle.std.specs.List.{cons_option, filter, range_with_len}
use Rattle.std.proofs.Math.Bool.{or-false, or-true}
use Rattle.std.proofs.lemmas.Bool.{eqb-true, eqb-false}
use Rattle.std.proofs.lemmas.List.{append-nil, drop_all, length-map}
use Rattle.api_versions.specs.Folders.{Folder, folder, highest, is_source, paths_in}
use Rattle.api_versions.specs.Places.{Place, bounded, place_of, places}
use Rattle.api_versions.specs.steps.Adding.{no_folder, number_or_zero, with_path, with_place, with_places}

numbers : List Folder → List ℕ
numbers fs = map (λ (f : Folder). f.number) fs

same_each : (fs : List Folder) → map (λ (f : Folder). f) fs ≡ fs
same_each [] = refl
same_each (f ∷ fs) = ap (λ l. f ∷ l) (same_each fs)

-- a path that belongs to no version changes nothing
pub none_stays : (o : Option Place) (fs : List Folder) → option_map bounded o ≡ None → map (with_place o) fs ≡ fs
none_stays None fs h = same_each fs
none_stays (Some p) fs h = absurd (cc)

-- nor does one whose number is that of none of these
other_stays : (p : Place) (f : Folder) (b : Bool) → (p.number == f.number) ≡ b → p.number ≢ f.number → with_place (Some p) f ≡ f
other_stays p f true e ne = absurd (ne (eqb-true p.number f.number e))
other_stays p f false e ne = rw e refl

pub others_stay : (p : Place) (a : ℕ) (fs : List Folder) → map (λ (f : Folder). f.number) fs ≡ range_with_len a (length fs) → ((p.number < a) ⊎ (a + length fs ≤ p.number)) → map (with_place (Some p)) fs ≡ fs
others_stay p a [] e far = refl
others_stay p a (f ∷ fs) e far =
    let first : f.number ≡ a = cc in
    let rest : map (λ (g : Folder). g.number) fs ≡ range_with_len (a + 1) (length fs) = cc in
    let ne : p.number ≢ f.number = λ same. elim far [ inl lt ↦ omega arith | inr le ↦ omega arith ] in
    let far_rest : ((p.number < a + 1) ⊎ (a + 1 + length fs ≤ p.number)) = elim far [ inl lt ↦ inl (omega arith) | inr le ↦ inr (omega arith) ] in
    rw (other_stays p f (p.number == f.number) refl ne) (ap (λ l. f ∷ l) (others_stay p (a + 1) fs rest far_rest))

-- the folder with its number is one file larger
here_changes : (p : Place) (f : Folder) (b : Bool) → (p.number == f.number) ≡ b → p.number ≡ f.number → with_place (Some p) f ≡ with_path p.path f
here_changes p f true e same = rw e refl
here_changes p f false e same = absurd (eqb-false p.number f.number e same)

pub one_changes : (p : Place) (a k : ℕ) (fs : List Folder) (d : Folder) → map (λ (f : Folder). f.number) fs ≡ range_with_len a (length fs) → p.number ≡ a + k → k < length fs
    → slice_set fs k (with_path p.path (get_or fs k d)) ≡ map (with_place (Some p)) fs
one_changes p a k [] d e is lt = absurd (omega arith)
one_changes p a zero (f ∷ fs) d e is lt =
    let first : f.number ≡ a = cc in
    let rest : map (λ (g : Folder). g.number) fs ≡ range_with_len (a + 1) (length fs) = cc in
    rw (here_changes p f (p.number == f.number) refl (omega arith)) (ap (λ l. with_path p.path f ∷ l) (sym (others_stay p (a + 1) fs rest (inl (omega arith)))))
one_changes p a (suc k) (f ∷ fs) d e is lt =
    let first : f.number ≡ a = cc in
    let rest : map (λ (g : Folder). g.number) fs ≡ range_with_len (a + 1) (length fs) = cc in
    rw (other_stays p f (p.number == f.number) refl (omega arith)) (ap (λ l. f ∷ l) (one_changes p (a + 1) k fs d rest (omega arith) (omega arith)))

-- of a place as the code holds it, whose number is at most 10,000
pub adds_none : (o : Option Place) (p : Place) (fs : List Folder) → Some p ≡ option_map bounded o → map (λ (f : Folder). f.number) fs ≡ range_with_len 1 (length fs) → length fs ≤ 9999
    → 0 < p.number → length fs ≤ p.number - 1 → map (with_place o) fs ≡ fs
adds_none None p fs e n few positive far = absurd (cc)
adds_none (Some q) p fs e n few positive far =
    let same : p ≡ bounded q = cc in
    let number : p.number ≡ min 10000 q.number = ap (λ (x : Place). x.number) same in
    others_stay q 1 fs n (inr (omega arith))

pub adds_one : (o : Option Place) (p : Place) (fs : List Folder) (new d : Folder) → Some p ≡ option_map bounded o → map (λ (f : Folder). f.number) fs ≡ range_with_len 1 (length fs) → length fs ≤ 9999
    → 0 < p.number → p.number - 1 < length fs → new ≡ with_path p.path (get_or fs (p.number - 1) d) → slice_set fs (p.number - 1) new ≡ map (with_place o) fs
adds_one None p fs new d e n few positive lt is = absurd (cc)
adds_one (Some q) p fs new d e n few positive lt is =
    let same : p ≡ bounded q = cc in
    let number : p.number ≡ min 10000 q.number = ap (λ (x : Place). x.number) same in
    let path : p.path ≡ q.path = ap (λ (x : Place). x.path) same in
    ap (slice_set fs (p.number - 1)) (is ∙ ap (λ w. with_path w (get_or fs (p.number - 1) d)) path) ∙ one_changes q 1 (p.number - 1) fs d n (omega arith) lt

-- numbers stay
number_stays : (o : Option Place) (f : Folder) → (with_place o f).number ≡ f.number
number_stays None f = refl
number_stays (Some p) f = by_test (p.number == f.number) where
  by_test : (b : Bool) → (cond b (with_path p.path f) f).number ≡ f.number
  by_test true = refl
  by_test false = refl

pub numbers_stay : (o : Option Place) (fs : List Folder) → map (λ (f : Folder). f.number) (map (with_place o) fs) ≡ map (λ (f : Folder). f.number) fs
numbers_stay o [] = refl
numbers_stay o (f ∷ fs) = rw (number_stays o f, numbers_stay o fs) refl

-- one path, and then the others
module _ (p : Place) (rest : List Place) (f : Folder) where
  kept_first : (b : Bool) (ys : List (List ℕ)) → (f.sources ++ cond b (p.path ∷ []) []) ++ ys ≡ f.sources ++ cond b (p.path ∷ ys) ys
  kept_first true ys = append_assoc f.sources (p.path ∷ []) ys
  kept_first false ys = rw (append-nil f.sources) refl

  first_added : (b : Bool) → (p.number == f.number) ≡ b → with_places rest (with_place (Some p) f) ≡ with_places (p ∷ rest) f
  first_added true e = rw (e, or-true f.is_there) (ap (λ s. record { number = f.number; is_there = true; sources = s }) (kept_first (is_source p.path) (filter is_source (paths_in f.number rest))))
  first_added false e = rw e refl

pub first_then : (o : Option Place) (rest : List Place) (fs : List Folder) → map (with_places rest) (map (with_place o) fs) ≡ map (with_places (cons_option o rest)) fs
first_then None rest fs = ap (map (with_places rest)) (same_each fs)
first_then (Some p) rest [] = refl
first_then (Some p) rest (f ∷ fs) = rw (first_added p rest f (p.number == f.number) refl) (ap (λ l. with_places (p ∷ rest) f ∷ l) (first_then (Some p) rest fs))

-- no path is left
pub none_left : (fs : List Folder) → map (with_places []) fs ≡ fs
none_left [] = refl
none_left (f ∷ fs) = rw (or-false f.is_there, append-nil f.sources) (ap (λ l. f ∷ l) (none_left fs))

-- all paths are left
pub all_left : (places : List Place) (ns : List ℕ) → map (with_places places) (map no_folder ns) ≡ map (folder places) ns
all_left places [] = refl
all_left places (n ∷ ns) = ap (λ l. folder places n ∷ l) (all_left places ns)

pub no_folders_numbered : (ns : List ℕ) → map (λ (f : Folder). f.number) (map no_folder ns) ≡ ns
no_folders_numbered [] = refl
no_folders_numbered (n ∷ ns) = ap (λ l. n ∷ l) (no_folders_numbered ns)

pub highest_more : (o : Option Place) (ps : List Place) → highest (cons_option o ps) ≡ max (number_or_zero o) (highest ps)
highest_more None ps = omega arith
highest_more (Some p) ps = refl

-- the places of the paths that are left
pub places_left : (paths : List (String Global)) (i : ℕ) (d : String Global) → i < length paths
    → places (map string_bytes (drop i paths)) ≡ cons_option (place_of (string_bytes (get_or paths i d))) (places (map string_bytes (drop (i + 1) paths)))
places_left paths i d lt = let e : drop i paths ≡ get_or paths i d ∷ drop (i + 1) paths = rw add-one (drop-cons paths i d lt) in ap (λ l. places (map string_bytes l)) e

pub no_places_left : (paths : List (String Global)) (i : ℕ) → length paths ≤ i → places (map string_bytes (drop i paths)) ≡ []
no_places_left paths i le = let e : drop i paths ≡ [] = drop_all i paths le in ap (λ l. places (map string_bytes l)) e

-- one more path was added
module _ (o : Option Place) (rest were : List Place) (before now all : List Folder) (were_is : were ≡ cons_option o rest) (went : now ≡ map (with_place o) before) where
  pub added_all : map (with_places were) before ≡ all → map (with_places rest) now ≡ all
  added_all h = ap (map (with_places rest)) went ∙ first_then o rest before ∙ ap (λ ps. map (with_places ps) before) (sym were_is) ∙ h

  pub added_numbers : (ns : List ℕ) → map (λ (f : Folder). f.number) before ≡ ns → map (λ (f : Folder). f.number) now ≡ ns
  added_numbers ns h = ap (map (λ (f : Folder). f.number)) went ∙ numbers_stay o before ∙ h

  pub added_count : length now ≡ length before
  added_count = ap length went ∙ length-map before (with_place o)
