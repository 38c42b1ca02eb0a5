-- Versions, one after another.
use Rattle.std.proofs.Common.{◌≡◌, ℕ, Bool, true, false, List, [], ◌∷◌, ◌++◌, ◌≤◌, nat_lt, append_assoc, cond, length, map, Option, Some, None, Result, Ok, Err, refl, ap, sym, ◌∙◌, subst}
use Rattle.std.specs.List.{list_all, list_any, range_with_len}
use Rattle.std.specs.Result.{IfOk}
use Rattle.std.proofs.lemmas.Bool.{and_parts, and_from, ltb-false}
use Rattle.std.proofs.lemmas.List.{append-nil, length-map, map-append}
use Rattle.std.proofs.lemmas.List.FromFn.{length-map-range_with_len, length-range_with_len}
use Rattle.aidl_base.specs.Results.{◌>>=◌}
use Rattle.aidl_outside.specs.Entries.{path_of}
use Rattle.aidl_outside.specs.Files.{Files, is_ascending}
use Rattle.aidl_outside.specs.Told.{Tells}
use Rattle.api_versions.specs.declared.fault.VersionsFault.{VersionsFault}
use Rattle.api_versions.specs.declared.version.Version.{Version}
use Rattle.api_versions.specs.declared.folder.Folder.{Folder as HeldFolder}
use Rattle.api_versions.specs.Folders.{Folder, folder, folders, highest}
use Rattle.aidl_base.specs.declared.limit.LimitName.TheVariants as limit
use Rattle.api_versions.specs.Places.{Place, places}
use Rattle.api_versions.specs.Versions.{AreNumbered, are_ascending, complete, passed, folders_in, is_large, missing, present, version_at, versions_in}
use Rattle.api_versions.specs.steps.Onto.{onto}
use Rattle.api_versions.specs.Seen.{folder_seen}
use Rattle.api_versions.proofs.Collected.{onto_first, onto_none}
use Rattle.aidl_outside.proofs.lemmas.Telling.{tells, tells_both}

module _ (api : List ℕ) where
  first_version : (files : Files) (f : Folder) (left : List Folder) (before now : List Version) (v : Version) → now ≡ before ++ v ∷ []
      → version_at files api f ≡ Ok v → onto before (versions_in files api (f ∷ left)) ≡ onto now (versions_in files api left)
  first_version files f left before now v went is =
      ap (λ r. onto before (r >>= λ version. versions_in files api left >>= λ others. Ok (version ∷ others))) is
      ∙ onto_first before now (v ∷ []) (versions_in files api left) went

  -- one folder more
  pub version_more : (here kept : Option Files) (f : Folder) (were left all : List Folder) (before now : List Version) (v : Version)
      → here ≡ kept → were ≡ f ∷ left → now ≡ before ++ v ∷ []
      → Tells here (λ files. version_at files api f ≡ Ok v)
      → Tells kept (λ files. onto before (versions_in files api were) ≡ versions_in files api all)
      → Tells kept (λ files. onto now (versions_in files api left) ≡ versions_in files api all)
  version_more here kept f were left all before now v same is_first went told so_all =
      tells_both kept (λ files. version_at files api f ≡ Ok v) (λ files. onto before (versions_in files api were) ≡ versions_in files api all) _
      (λ files is others. sym (first_version files f left before now v went is) ∙ ap (λ l. onto before (versions_in files api l)) (sym is_first) ∙ others)
      (subst (λ k. Tells k (λ files. version_at files api f ≡ Ok v)) same told) so_all

  -- no folder is left
  pub versions_done : (kept : Option Files) (left : List HeldFolder) (all : List Folder) (now : List Version) → length left ≡ 0
      → Tells kept (λ files. onto now (versions_in files api (map folder_seen left)) ≡ versions_in files api all)
      → Tells kept (λ files. versions_in files api all ≡ Ok now)
  versions_done kept [] all now none so_all =
      tells kept (λ files. onto now (Ok []) ≡ versions_in files api all) _ (λ files same. sym same ∙ onto_none now) so_all
  versions_done kept (f ∷ left) all now none so_all = absurd (cc)

-- the number of one version more
pub number_more : (before now : List Version) (v : Version) (n : ℕ) (were left all : List ℕ) → now ≡ before ++ v ∷ [] → v.number ≡ n → were ≡ n ∷ left
    → map (λ (v : Version). v.number) before ++ were ≡ all → map (λ (v : Version). v.number) now ++ left ≡ all
number_more before now v n were left all went is first h =
    let numbers : map (λ (v : Version). v.number) now ≡ map (λ (v : Version). v.number) before ++ n ∷ [] =
    ap (map (λ (v : Version). v.number)) went ∙ map-append (λ (v : Version). v.number) before (v ∷ []) ∙ ap (λ m. map (λ (v : Version). v.number) before ++ m ∷ []) is in
    ap (λ l. l ++ left) numbers ∙ append_assoc (map (λ (v : Version). v.number) before) (n ∷ []) left ∙ ap (λ w. map (λ (v : Version). v.number) before ++ w) (sym first) ∙ h

pub numbers_done : (now : List Version) (left : List HeldFolder) (all : List ℕ) → length left ≡ 0
    → map (λ (v : Version). v.number) now ++ map (λ (f : Folder). f.number) (map folder_seen left) ≡ all → map (λ (v : Version). v.number) now ≡ all
numbers_done now [] all none h = sym (append-nil (map (λ (v : Version). v.number) now)) ∙ h
numbers_done now (f ∷ left) all none h = absurd (cc)

-- its paths
all_more : {X : Type 0} (p : X → Bool) (xs : List X) (x : X) → list_all p xs ≡ true → p x ≡ true → list_all p (xs ++ x ∷ []) ≡ true
all_more p [] x h is = and_from (p x) true is refl
all_more p (y ∷ xs) x h is = let both = and_parts (p y) (list_all p xs) h in and_from (p y) (list_all p (xs ++ x ∷ [])) both.0 (all_more p xs x both.1 is)

pub paths_more : (before now : List Version) (v : Version) (f : Folder) (were left : List Folder) → now ≡ before ++ v ∷ [] → were ≡ f ∷ left
    → (is_ascending f.sources ≡ true → is_ascending (map path_of v.files) ≡ true)
    → (are_ascending before ≡ true) × (list_all (λ (f : Folder). is_ascending f.sources) were ≡ true)
    → (are_ascending now ≡ true) × (list_all (λ (f : Folder). is_ascending f.sources) left ≡ true)
paths_more before now v f were left went first one h =
    let rest = and_parts (is_ascending f.sources) (list_all (λ (f : Folder). is_ascending f.sources) left) (subst (λ w. list_all (λ (f : Folder). is_ascending f.sources) w ≡ true) first h.1) in
    (subst (λ vs. are_ascending vs ≡ true) (sym went) (all_more (λ (v : Version). is_ascending (map path_of v.files)) before v h.0 (one rest.0)), rest.1)

-- where no number is missing, every folder is there
first_there : (b : Bool) (f : Folder) (m : Option ℕ) → cond b m (Some f.number) ≡ None → (b ≡ true) × (m ≡ None)
first_there true f m h = (refl, h)
first_there false f m h = absurd (cc)

kept_there : (b : Bool) (f : Folder) (fs : List Folder) → b ≡ true → cond b (f ∷ fs) fs ≡ f ∷ fs
kept_there true f fs h = refl
kept_there false f fs h = absurd (cc)

pub none_missing : (fs : List Folder) → missing fs ≡ None → present fs ≡ fs
none_missing [] h = refl
none_missing (f ∷ fs) h =
    let both = first_there f.is_there f (missing fs) h in
    kept_there f.is_there f (present fs) both.0 ∙ ap (λ l. f ∷ l) (none_missing fs both.1)

pub numbered_versions : (fs : List Folder) (vs : List Version) (count : ℕ) (r : Result (List Version) VersionsFault) → r ≡ complete (missing fs) vs
    → map (λ (v : Version). v.number) vs ≡ map (λ (f : Folder). f.number) (present fs) → map (λ (f : Folder). f.number) fs ≡ range_with_len 1 count → IfOk r AreNumbered
numbered_versions fs vs count r is same numbers = by_missing (missing fs) refl where
  by_missing : (m : Option ℕ) → missing fs ≡ m → IfOk r AreNumbered
  by_missing None e =
      let found : map (λ (v : Version). v.number) vs ≡ range_with_len 1 count = same ∙ ap (map (λ (f : Folder). f.number)) (none_missing fs e) ∙ numbers in
      let len : length vs ≡ count = sym (length-map vs (λ (v : Version). v.number)) ∙ ap length found ∙ length-range_with_len 1 count in
      subst (λ x. IfOk x AreNumbered) (sym (is ∙ ap (λ m. complete m vs) e)) (found ∙ ap (range_with_len 1) (sym len))
  by_missing (Some n) e = subst (λ x. IfOk x AreNumbered) (sym (is ∙ ap (λ m. complete m vs) e)) tt

-- the folders of an API are numbered from 1 on
numbers_of : (ps : List Place) (ns : List ℕ) → map (λ (f : Folder). f.number) (map (folder ps) ns) ≡ ns
numbers_of ps [] = refl
numbers_of ps (n ∷ ns) = ap (λ l. n ∷ l) (numbers_of ps ns)

by_large : (large : Bool) (d : VersionsFault) (fs gs : List Folder) → cond large (Err d) (Ok fs) ≡ Ok gs → gs ≡ fs
by_large true d fs gs h = absurd (cc)
by_large false d fs gs h = cc

by_limits : (a : Bool) (e d : VersionsFault) (fs gs : List Folder) → (cond a (Err e) (Ok fs) >>= λ all. cond (list_any is_large all) (Err d) (Ok all)) ≡ Ok gs → (a ≡ false) × (gs ≡ fs)
by_limits true e d fs gs h = absurd (cc)
by_limits false e d fs gs h = (refl, by_large (list_any is_large fs) d fs gs h)

-- where no limit is passed, they are the folders of the places, and no number is above 9,999
pub folders_found : (paths : List (List ℕ)) (fs : List Folder) → folders_in paths ≡ Ok fs → (highest (places paths) ≤ 9999) × (fs ≡ folders (places paths))
folders_found paths fs h =
    let found = by_limits (nat_lt 9999 (highest (places paths))) (passed limit.Versions) (passed limit.Files) (folders (places paths)) fs h in
    (ltb-false 9999 (highest (places paths)) found.0, found.1)

pub folders_numbered : (paths : List (List ℕ)) (held : List HeldFolder) → folders_in paths ≡ Ok (map folder_seen held) → map (λ (f : Folder). f.number) (map folder_seen held) ≡ range_with_len 1 (length held)
folders_numbered paths held h =
    let is : map folder_seen held ≡ folders (places paths) = (folders_found paths (map folder_seen held) h).1 in
    let n = highest (places paths) in
    let len : length held ≡ n = sym (length-map held folder_seen) ∙ ap length is ∙ length-map-range_with_len (folder (places paths)) 1 n in
    ap (map (λ (f : Folder). f.number)) is ∙ numbers_of (places paths) (range_with_len 1 n) ∙ ap (range_with_len 1) (sym len)
