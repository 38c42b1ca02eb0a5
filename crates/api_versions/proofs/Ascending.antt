-- Where the paths below an API ascend, so do those of each version.
use Rattle.std.proofs.Common.{◌≡◌, ℕ, zero, suc, ◌+◌, ◌<◌, ◌≤◌, ◌==◌, ◌^◌, ◌&&◌, ◌++◌, not, nat_lt, Bool, true, false, cond, List, [], ◌∷◌, length, map, get_or, Option, Some, None, Result, Ok, refl, ap, sym, subst, ◌∙◌, arith, option_map, nat_cmp}
use Rattle.std.specs.Char.{is_ascii_digit}
use Rattle.std.specs.Cmp.Lexicographic.{slice_cmp}
use Rattle.std.specs.Fmt.{decimal}
use Rattle.std.specs.List.{after_first, before_first, cons_option, filter, filter_map, list_all, position_or_len, range_with_len}
use Rattle.std.specs.Result.{IfOk}
use Rattle.std.specs.Ordering.{is_lt, ordering_then}
use Rattle.std.specs.Cmp.{nat_cmp_is}
use Rattle.std.specs.declared.cmp.Ordering.TheVariants.{Equal}
use Rattle.std.specs.Str.Parse.{AllDigits, digits_value}
use Rattle.std.proofs.lemmas.Bool.{and_parts, and_from, eqb-false, eqb-true, ltb-true, not-true}
use Rattle.std.proofs.lemmas.Fmt.{decimal-digits_value}
use Rattle.std.proofs.lemmas.List.Sums.{passes_at_first, split_at_first}
use Rattle.std.proofs.lemmas.Str.Parse.{numerals_by_value, tells_digits}
use Rattle.aidl_outside.specs.Files.{is_ascending}
use Rattle.api_versions.specs.Folders.{Folder, folder, highest, is_source, paths_in}
use Rattle.api_versions.specs.Places.{Place, is_number, number_of, place_of, places}
use Rattle.api_versions.specs.declared.fault.VersionsFault.{VersionsFault}
use Rattle.api_versions.specs.declared.version.Version.{Version}
use Rattle.api_versions.specs.Versions.{complete, folders_in, present}
use Rattle.api_versions.proofs.Gathered.{folders_found}
use Rattle.api_versions.proofs.Numbers.{all_digits}

-- a name of a version is its number in decimal
decimal_name : (name : List ℕ) → is_number name ≡ true → digits_value 10 name < 2 ^ 64 → decimal (digits_value 10 name) ≡ name
decimal_name [] h lt = absurd (cc)
decimal_name (b ∷ name) h lt =
    let parts = and_parts (not (b == 48)) (list_all is_ascii_digit (b ∷ name)) h in
    let no_zero : (b == 48) ≡ false = not-true (b == 48) parts.0 in
    decimal-digits_value (numerals_by_value (AllDigits 10) tells_digits) (b ∷ name) (all_digits (b ∷ name) parts.1) (omega arith) (λ e. absurd (eqb-false b 48 no_zero e)) lt

-- a path of a version is that number, `/` and the relative path
number_found : (name : List ℕ) (rest : List ℕ) (b : Bool) (q : Place) → is_number name ≡ b → option_map (λ n. record { number = n; path = rest }) (cond b (Some (digits_value 10 name)) None) ≡ Some q
    → (b ≡ true) × (digits_value 10 name ≡ q.number) × (rest ≡ q.path)
number_found name rest true q e h =
    let same : record { number = digits_value 10 name; path = rest } ≡ q = cc in
    (refl, ap (λ (p : Place). p.number) same, ap (λ (p : Place). p.path) same)
number_found name rest false q e h = absurd (cc)

parts_found : (path : List ℕ) (b : Bool) (q : Place) → nat_lt (position_or_len (λ b. b == 47) path) (length path) ≡ b
    → cond b (option_map (λ n. record { number = n; path = after_first (λ b. b == 47) path }) (number_of (before_first (λ b. b == 47) path))) None ≡ Some q
    → q.number < 2 ^ 64 → path ≡ decimal q.number ++ 47 ∷ q.path
parts_found path false q e h lt = absurd (cc)
parts_found path true q e h lt =
    let slash = λ (b : ℕ). b == 47 in
    let name = before_first slash path in
    let here : position_or_len slash path < length path = ltb-true (position_or_len slash path) (length path) e in
    let found = number_found name (after_first slash path) (is_number name) q refl h in
    let mark : get_or path (position_or_len slash path) 0 ≡ 47 = eqb-true (get_or path (position_or_len slash path) 0) 47 (passes_at_first slash path 0 here) in
    let named : decimal q.number ≡ name = ap decimal (sym found.1) ∙ decimal_name name found.0 (subst (λ n. n < 2 ^ 64) (sym found.1) lt) in
    split_at_first slash path 0 here ∙ ap (λ m. name ++ m ∷ after_first slash path) mark ∙ ap (λ r. name ++ 47 ∷ r) found.2 ∙ ap (λ n. n ++ 47 ∷ q.path) (sym named)

place_is : (path : List ℕ) (q : Place) → place_of path ≡ Some q → q.number < 2 ^ 64 → path ≡ decimal q.number ++ 47 ∷ q.path
place_is path q h lt = parts_found path (nat_lt (position_or_len (λ b. b == 47) path) (length path)) q refl h lt

-- a common front doesn't count
same_first : (c : ℕ) → nat_cmp c c ≡ Equal
same_first c = sym (nat_cmp_is c c Equal refl)

front_cmp : (front a b : List ℕ) → slice_cmp nat_cmp (front ++ a) (front ++ b) ≡ slice_cmp nat_cmp a b
front_cmp [] a b = refl
front_cmp (c ∷ front) a b = ap (λ o. ordering_then o (slice_cmp nat_cmp (front ++ a) (front ++ b))) (same_first c) ∙ front_cmp front a b

module _ (n : ℕ) (small : n < 2 ^ 64) where
  abbrev sources : List (List ℕ) → List (List ℕ)
  sources paths = filter is_source (paths_in n (places paths))

  is_after : (r path : List ℕ) (q : Place) → place_of path ≡ Some q → (q.number == n) ≡ true → is_lt (slice_cmp nat_cmp (decimal n ++ 47 ∷ r) path) ≡ true → is_lt (slice_cmp nat_cmp r q.path) ≡ true
  is_after r path q e is h =
      let same : q.number ≡ n = eqb-true q.number n is in
      let shape : path ≡ decimal n ++ 47 ∷ q.path = place_is path q e (subst (λ m. m < 2 ^ 64) (sym same) small) ∙ ap (λ m. decimal m ++ 47 ∷ q.path) same in
      sym (ap is_lt (front_cmp (decimal n) (47 ∷ r) (47 ∷ q.path))) ∙ sym (ap (λ p. is_lt (slice_cmp nat_cmp (decimal n ++ 47 ∷ r) p)) shape) ∙ h

  -- the sources of one place more
  abbrev more : Option Place → List (List ℕ) → List (List ℕ)
  more o paths = filter is_source (filter_map (λ (p : Place). cond (p.number == n) (Some p.path) None) (cons_option o (places paths)))

  abbrev more_by : Bool → Place → List (List ℕ) → List (List ℕ)
  more_by b q paths = filter is_source (cons_option (cond b (Some q.path) None) (paths_in n (places paths)))

  after_source : (s : Bool) (r : List ℕ) (q : Place) (rest : List (List ℕ)) → is_lt (slice_cmp nat_cmp r q.path) ≡ true → list_all (λ later. is_lt (slice_cmp nat_cmp r later)) rest ≡ true
      → list_all (λ later. is_lt (slice_cmp nat_cmp r later)) (cond s (q.path ∷ rest) rest) ≡ true
  after_source true r q rest first h = and_from (is_lt (slice_cmp nat_cmp r q.path)) (list_all (λ later. is_lt (slice_cmp nat_cmp r later)) rest) first h
  after_source false r q rest first h = h

  after_number : (b : Bool) (r path : List ℕ) (q : Place) (paths : List (List ℕ)) → (q.number == n) ≡ b → place_of path ≡ Some q → is_lt (slice_cmp nat_cmp (decimal n ++ 47 ∷ r) path) ≡ true
      → list_all (λ later. is_lt (slice_cmp nat_cmp r later)) (sources paths) ≡ true → list_all (λ later. is_lt (slice_cmp nat_cmp r later)) (more_by b q paths) ≡ true
  after_number true r path q paths is e first h = after_source (is_source q.path) r q (sources paths) (is_after r path q e is first) h
  after_number false r path q paths is e first h = h

  after_place : (r path : List ℕ) (paths : List (List ℕ)) (o : Option Place) → place_of path ≡ o → is_lt (slice_cmp nat_cmp (decimal n ++ 47 ∷ r) path) ≡ true
      → list_all (λ later. is_lt (slice_cmp nat_cmp r later)) (sources paths) ≡ true → list_all (λ later. is_lt (slice_cmp nat_cmp r later)) (more o paths) ≡ true
  after_place r path paths None e first h = h
  after_place r path paths (Some q) e first h = after_number (q.number == n) r path q paths refl e first h

  all_after : (r : List ℕ) (paths : List (List ℕ)) → list_all (λ later. is_lt (slice_cmp nat_cmp (decimal n ++ 47 ∷ r) later)) paths ≡ true
      → list_all (λ later. is_lt (slice_cmp nat_cmp r later)) (sources paths) ≡ true
  all_after r [] h = refl
  all_after r (path ∷ paths) h =
      let both = and_parts (is_lt (slice_cmp nat_cmp (decimal n ++ 47 ∷ r) path)) (list_all (λ later. is_lt (slice_cmp nat_cmp (decimal n ++ 47 ∷ r) later)) paths) h in
      after_place r path paths (place_of path) refl both.0 (all_after r paths both.1)

  ascend_source : (s : Bool) (q : Place) (rest : List (List ℕ)) → list_all (λ later. is_lt (slice_cmp nat_cmp q.path later)) rest ≡ true → is_ascending rest ≡ true → is_ascending (cond s (q.path ∷ rest) rest) ≡ true
  ascend_source true q rest first h = and_from (list_all (λ later. is_lt (slice_cmp nat_cmp q.path later)) rest) (is_ascending rest) first h
  ascend_source false q rest first h = h

  ascend_number : (b : Bool) (path : List ℕ) (q : Place) (paths : List (List ℕ)) → (q.number == n) ≡ b → place_of path ≡ Some q → list_all (λ later. is_lt (slice_cmp nat_cmp path later)) paths ≡ true
      → is_ascending (sources paths) ≡ true → is_ascending (more_by b q paths) ≡ true
  ascend_number true path q paths is e first h =
      let same : q.number ≡ n = eqb-true q.number n is in
      let shape : path ≡ decimal n ++ 47 ∷ q.path = place_is path q e (subst (λ m. m < 2 ^ 64) (sym same) small) ∙ ap (λ m. decimal m ++ 47 ∷ q.path) same in
      ascend_source (is_source q.path) q (sources paths) (all_after q.path paths (subst (λ p. list_all (λ later. is_lt (slice_cmp nat_cmp p later)) paths ≡ true) shape first)) h
  ascend_number false path q paths is e first h = h

  ascend_place : (path : List ℕ) (paths : List (List ℕ)) (o : Option Place) → place_of path ≡ o → list_all (λ later. is_lt (slice_cmp nat_cmp path later)) paths ≡ true
      → is_ascending (sources paths) ≡ true → is_ascending (more o paths) ≡ true
  ascend_place path paths None e first h = h
  ascend_place path paths (Some q) e first h = ascend_number (q.number == n) path q paths refl e first h

  pub sources_ascend : (paths : List (List ℕ)) → is_ascending paths ≡ true → is_ascending (sources paths) ≡ true
  sources_ascend [] h = refl
  sources_ascend (path ∷ paths) h =
      let both = and_parts (list_all (λ later. is_lt (slice_cmp nat_cmp path later)) paths) (is_ascending paths) h in
      ascend_place path paths (place_of path) refl both.0 (sources_ascend paths both.1)

-- so it is for all versions
folders_from : (paths : List (List ℕ)) → is_ascending paths ≡ true → (a k : ℕ) → a + k ≤ 10000 → list_all (λ (f : Folder). is_ascending f.sources) (map (folder (places paths)) (range_with_len a k)) ≡ true
folders_from paths h a zero few = refl
folders_from paths h a (suc k) few =
    and_from (is_ascending (folder (places paths) a).sources) (list_all (λ (f : Folder). is_ascending f.sources) (map (folder (places paths)) (range_with_len (a + 1) k)))
    (sources_ascend a (omega arith) paths h) (folders_from paths h (a + 1) k (omega arith))

pub folders_ascend : (paths : List (List ℕ)) (fs : List Folder) → is_ascending paths ≡ true → folders_in paths ≡ Ok fs → list_all (λ (f : Folder). is_ascending f.sources) fs ≡ true
folders_ascend paths fs h is =
    let found = folders_found paths fs is in
    subst (λ l. list_all (λ (f : Folder). is_ascending f.sources) l ≡ true) (sym found.1) (folders_from paths h 1 (highest (places paths)) (omega (arith, found.0)))

-- and for those that are there
kept_by : (q : Bool) (p : Folder → Bool) (f : Folder) (fs : List Folder) → (p f && list_all p fs) ≡ true → list_all p fs ≡ true → list_all p (cond q (f ∷ fs) fs) ≡ true
kept_by true p f fs h rest = h
kept_by false p f fs h rest = rest

pub present_all : (p : Folder → Bool) (fs : List Folder) → list_all p fs ≡ true → list_all p (present fs) ≡ true
present_all p [] h = refl
present_all p (f ∷ fs) h =
    let both = and_parts (p f) (list_all p fs) h in
    let rest = present_all p fs both.1 in
    kept_by f.is_there p f (present fs) (and_from (p f) (list_all p (present fs)) both.0 rest) rest

-- of versions, where no number is missing
pub complete_keeps : (P : List Version → Type 0) (m : Option ℕ) (vs : List Version) (r : Result (List Version) VersionsFault) → r ≡ complete m vs → P vs → IfOk r P
complete_keeps P None vs r is p = subst (λ x. IfOk x P) (sym is) p
complete_keeps P (Some n) vs r is p = subst (λ x. IfOk x P) (sym is) tt
