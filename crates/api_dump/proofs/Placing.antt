-- A file goes into a table by its path as it goes among files in the order of their paths.
use Rattle.std.proofs.Common.{◌≡◌, ℕ, suc, ◌+◌, ◌<◌, Bool, true, false, List, [], ◌∷◌, map, length, get_or, drop, drop-cons, add-one, is_none, refl, sym, ap, ◌∙◌}
use Rattle.std.proofs.Common.{String, Global, string_bytes}
use Rattle.std.specs.Str.{chars, encode_utf8_all, IsUtf8}
use Rattle.std.proofs.lemmas.Str.{IsUtf8-had, chars-encodes}
use Rattle.std.specs.List.{fold, filter, enumerate_from}
use Rattle.std.specs.BTreeMap.{insert_entry}
use Rattle.std.specs.Cmp.Lexicographic.{slice_cmp}
use Rattle.std.specs.Ordering.{nat_cmp, match_ordering}
use Rattle.std.specs.declared.cmp.Ordering.{Ordering}
use Rattle.std.specs.declared.cmp.Ordering.TheVariants.{Less, Equal, Greater}
use Rattle.aidl_schema.specs.declared.schema.Decl.{Decl}
use Rattle.api_dump.specs.Dump.{File, file_of, placed}
use Rattle.api_dump.specs.steps.Tables.{with_file}

module _ {K X : Type 0} (key : K → List ℕ) (see : X → List ℕ) (cmp : K → K → Ordering) (by : (a b : K) → cmp a b ≡ slice_cmp nat_cmp (key a) (key b)) where
  abbrev pub both : K × X → File
  both e = (key e.0, see e.1)

  -- what goes into the table, seen as files
  pub inserted : (es : List (K × X)) (k : K) (x : X) → map both (insert_entry cmp es k x) ≡ placed (map both es) (key k, see x)
  inserted [] k x = refl
  inserted (e ∷ es) k x = by_order (cmp k e.0) (inserted es k x) ∙ ap (λ o. match_ordering o ((key k, see x) ∷ both e ∷ map both es) ((key e.0, see x) ∷ map both es) (both e ∷ placed (map both es) (key k, see x))) (by k e.0)
    where
      by_order : (o : Ordering) → map both (insert_entry cmp es k x) ≡ placed (map both es) (key k, see x)
          → map both (match_ordering o ((k, x) ∷ e ∷ es) ((e.0, x) ∷ es) (e ∷ insert_entry cmp es k x))
          ≡ match_ordering o ((key k, see x) ∷ both e ∷ map both es) ((key e.0, see x) ∷ map both es) (both e ∷ placed (map both es) (key k, see x))
      by_order Less h = refl
      by_order Equal h = refl
      by_order Greater h = ap (λ fs. both e ∷ fs) h

-- the items from one on
drop_next : {X : Type 0} (xs : List X) (i : ℕ) (x : X) → i < length xs → x ≡ get_or xs i x → drop i xs ≡ x ∷ drop (i + 1) xs
drop_next xs i x lt at = drop-cons xs i x lt ∙ ap (λ y. y ∷ drop (suc i) xs) (sym at) ∙ ap (λ (j : ℕ). x ∷ drop j xs) (sym (add-one i))

-- one more declaration is seen
pub next_file : (S : List Decl) (i : ℕ) (d : Decl) (files new all : List File) → i < length S → d ≡ get_or S i d → new ≡ with_file S (i, d) files
    → fold placed files (map (file_of S) (filter (λ x. is_none x.1.outer) (enumerate_from i (drop i S)))) ≡ all
    → fold placed new (map (file_of S) (filter (λ x. is_none x.1.outer) (enumerate_from (i + 1) (drop (i + 1) S)))) ≡ all
next_file S i d files new all lt at e inv =
    ap (λ fs. fold placed fs more) e ∙ by_test (is_none d.outer) refl
    ∙ ap (λ ys. fold placed files (map (file_of S) (filter (λ x. is_none x.1.outer) (enumerate_from i ys)))) (sym (drop_next S i d lt at)) ∙ inv
  where
    more : List File
    more = map (file_of S) (filter (λ x. is_none x.1.outer) (enumerate_from (i + 1) (drop (i + 1) S)))

    by_test : (t : Bool) → is_none d.outer ≡ t → fold placed (with_file S (i, d) files) more ≡ fold placed files (map (file_of S) (filter (λ x. is_none x.1.outer) ((i, d) ∷ enumerate_from (i + 1) (drop (i + 1) S))))
    by_test true h = rw h refl
    by_test false h = rw h refl

-- the bytes of a text are those of its characters
pub path_back : (s : String Global) → encode_utf8_all (chars (string_bytes s)) ≡ string_bytes s
path_back s =
    let u : IsUtf8 (string_bytes s) = IsUtf8-had (string_bytes s) s.ok in
    ap (λ bs. encode_utf8_all (chars bs)) (sym u.1.1) ∙ ap encode_utf8_all (chars-encodes u.0 u.1.0) ∙ u.1.1
