-- Calls that are made in order: a call for some of the paths is one of those for all of them.
use Rattle.std.proofs.Common.{◌≡◌, ℕ, List, [], ◌∷◌, ◌++◌, append_assoc, map, Option, Some, None, sym, ◌∙◌, ap}
use Rattle.std.specs.FinMap.{get}
use Rattle.std.specs.Prelude.{◌≤◌, IfSome, length}
use Rattle.std.proofs.lemmas.List.{map-append}
use Rattle.std.proofs.lemmas.List.Elements.{All-append, All-push}
use Rattle.aidl_base.specs.declared.limit.LimitName.{LimitName}
use Rattle.aidl_base.specs.Limits.{limit_number}
use Rattle.aidl_outside.specs.Asks.{AreNoneLong, AsksFile, AsksInOrder}
use Rattle.aidl_outside.specs.Faults.{StoreCall}
use Rattle.aidl_outside.specs.Files.{Files, path_below}
use Rattle.aidl_outside.specs.Told.{Tells}
use Rattle.aidl_outside.proofs.lemmas.Telling.{tells_both}

module _ (which : LimitName) where
  -- the file at a path, if any, is no longer than the limit
  abbrev pub IsShort : List ℕ → Files → Type 0
  IsShort path files = IfSome (get files path) (λ bytes. length bytes ≤ limit_number which)

  -- those for some of the paths, where no file before them is too long
  pub asks_among : (front paths back : List (List ℕ)) (kept : Option Files) → Tells kept (AreNoneLong which front)
      → (call : StoreCall) → AsksInOrder which paths kept call → AsksInOrder which (front ++ (paths ++ back)) kept call
  asks_among front paths back kept told call is = (
    front ++ is.0,
    is.1 ++ back,
    is.2,
    ap (λ all. front ++ (all ++ back)) is.3 ∙ ap (λ all. front ++ all) (append_assoc is.0 (is.2 ∷ is.1) back) ∙ sym (append_assoc front is.0 (is.2 ∷ (is.1 ++ back))),
    is.4,
    tells_both kept (AreNoneLong which front) (AreNoneLong which is.0) (AreNoneLong which (front ++ is.0)) (λ files first more. All-append (λ path. IsShort path files) front is.0 first more) told is.5,
  )

  module _ (folder : List ℕ) where
    -- a call for what stands first of the paths below a folder that are left
    pub asks_next : (path : List ℕ) (paths done left others : List (List ℕ)) (here kept : Option Files) → paths ≡ done ++ left → left ≡ path ∷ others
        → Tells kept (AreNoneLong which (map (path_below folder) done))
        → (call : StoreCall) → AsksFile which (path_below folder path) here call → AsksInOrder which (map (path_below folder) paths) kept call
    asks_next path paths done left others here kept all first told call is = (
      map (path_below folder) done,
      map (path_below folder) others,
      path_below folder path,
      ap (map (path_below folder)) (all ∙ ap (λ ps. done ++ ps) first) ∙ map-append (path_below folder) done (path ∷ others),
      is,
      told,
    )

    -- one file more that isn't too long
    pub short_more : (path : List ℕ) (done : List (List ℕ)) (kept : Option Files) → Tells kept (IsShort (path_below folder path)) → Tells kept (AreNoneLong which (map (path_below folder) done))
        → Tells kept (AreNoneLong which (map (path_below folder) (done ++ path ∷ [])))
    short_more path done kept one told =
        tells_both kept (IsShort (path_below folder path)) (AreNoneLong which (map (path_below folder) done)) (AreNoneLong which (map (path_below folder) (done ++ path ∷ [])))
        (λ files short before.
        rw (map-append (path_below folder) done (path ∷ [])) (All-push (λ p. IsShort p files) (map (path_below folder) done) (path_below folder path) before short)) one told

-- where a fact holds of any files
pub told_of_any : {A : Type 0} {P : A → Type 0} (kept : Option A) → ((a : A) → P a) → Tells kept P
told_of_any None h = tt
told_of_any (Some a) h = h a
