-- A file goes into a map by its path as it goes into the files in order.
use Rattle.std.proofs.Common.{◌≡◌, ℕ, ◌+◌, ◌<◌, List, [], ◌∷◌, map, length, get_or, drop, drop-cons, add-one, refl, sym, ap, ◌∙◌, subst, Bor}
use Rattle.std.specs.List.{fold}
use Rattle.std.specs.Cmp.Lexicographic.{slice_cmp}
use Rattle.std.specs.declared.cmp.Ordering.{Ordering}
use Rattle.std.specs.declared.cmp.Ordering.TheVariants.{Less, Equal, Greater}
use Rattle.std.specs.Ordering.{nat_cmp, match_ordering}
use Rattle.std.specs.FinMap.{slice_cmp-IsAntisymmetric, nat_cmp-IsAntisymmetric}
use Rattle.std.specs.BTreeMap.{insert_entry}
use Rattle.aidl_base.specs.declared.source_file.SourceFile.{SourceFile}
use Rattle.api_hash.specs.HashText.{path_of, put}

-- a path and a file, as the map holds them
abbrev pub Entry : Type 0
Entry = Bor (List ℕ) × Bor SourceFile

abbrev pub seen : Entry → SourceFile
seen e = e.1.now

-- each file stands at its path
abbrev pub IsKeyed : List Entry → Type 0
IsKeyed [] = Unit {0}
IsKeyed (e ∷ es) = (e.0.now ≡ path_of (seen e)) × IsKeyed es

module _ (cmp : Bor (List ℕ) → Bor (List ℕ) → Ordering) (by : (a b : Bor (List ℕ)) → cmp a b ≡ slice_cmp nat_cmp a.now b.now) where
  same_path : (a b : Bor (List ℕ)) → cmp a b ≡ Equal → a.now ≡ b.now
  same_path a b h = slice_cmp-IsAntisymmetric nat_cmp-IsAntisymmetric a.now b.now (sym (by a b) ∙ h)

  module _ (key : Bor (List ℕ)) (x : Bor SourceFile) (is : key.now ≡ path_of x.now) where
    -- a file has gone in, and each still stands at its path
    abbrev Went : List Entry → List SourceFile → Type 0
    Went new all = IsKeyed new × (map seen new ≡ all)

    inserted : (es : List Entry) → IsKeyed es → Went (insert_entry cmp es key x) (put (map seen es) x.now)
    inserted [] k = ((is, tt), refl)
    inserted (e ∷ es) k =
        let w = by_order (cmp key e.0) refl (inserted es k.1) in (
          w.0,
          w.1
              ∙ ap (λ o. match_ordering o (x.now ∷ seen e ∷ map seen es) (x.now ∷ map seen es) (seen e ∷ put (map seen es) x.now))
              (by key e.0 ∙ ap (λ p. slice_cmp nat_cmp p e.0.now) is ∙ ap (slice_cmp nat_cmp (path_of x.now)) k.0),
        )
      where
        by_order : (o : Ordering) → cmp key e.0 ≡ o → Went (insert_entry cmp es key x) (put (map seen es) x.now)
            → Went (match_ordering o ((key, x) ∷ e ∷ es) ((e.0, x) ∷ es) (e ∷ insert_entry cmp es key x))
            (match_ordering o (x.now ∷ seen e ∷ map seen es) (x.now ∷ map seen es) (seen e ∷ put (map seen es) x.now))
        by_order Less h more = ((is, k), refl)
        by_order Equal h more = ((sym (same_path key e.0 h) ∙ is, k.1), refl)
        by_order Greater h more = ((k.0, more.0), ap (λ z. seen e ∷ z) more.1)

    -- one more file goes in
    pub next_in : (es new : List Entry) (files all : List SourceFile) (i : ℕ) → new ≡ insert_entry cmp es key x → i < length files → x.now ≡ get_or files i x.now
        → IsKeyed es × (fold put (map seen es) (drop i files) ≡ all) → IsKeyed new × (fold put (map seen new) (drop (i + 1) files) ≡ all)
    next_in es new files all i e lt at invariant =
        let w = inserted es invariant.0 in (
          subst IsKeyed (sym e) w.0,
          ap (λ z. fold put (map seen z) (drop (i + 1) files)) e
              ∙ ap (λ z. fold put z (drop (i + 1) files)) w.1
              ∙ ap (λ y. fold put (put (map seen es) y) (drop (i + 1) files)) at
              ∙ ap (λ (j : ℕ). fold put (put (map seen es) (get_or files i x.now)) (drop j files)) (add-one i)
              ∙ ap (λ ys. fold put (map seen es) ys) (sym (drop-cons files i x.now lt)) ∙ invariant.1,
        )
