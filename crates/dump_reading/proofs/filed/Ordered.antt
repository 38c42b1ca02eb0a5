-- The files of a dump stand in the order of their declarations' numbers: paths rise as names do.
use Rattle.std.proofs.Common.{◌≡◌, ℕ, zero, suc, ◌+◌, ◌<◌, ◌==◌, Bool, true, false, cond, ◌||◌, if◌then◌else◌, List, [], ◌∷◌, ◌++◌, map, codes, Some, is_none, slice_get, refl, sym, ap, subst, ◌∙◌, arith, append-nil, append_assoc}
use Rattle.std.specs.List.{filter, fold, flat_map, list_all, enumerate_from}
use Rattle.std.specs.List.Sorted.{IsStrictlySortedBy}
use Rattle.std.specs.Cmp.Lexicographic.{slice_cmp}
use Rattle.std.specs.Ordering.{nat_cmp, match_ordering, ordering_then, ordering_reverse, MatchOrdering}
use Rattle.std.specs.declared.cmp.Ordering.{Ordering}
use Rattle.std.specs.declared.cmp.Ordering.TheVariants.{Less, Equal, Greater}
use Rattle.std.specs.Str.{encode_utf8_all}
use Rattle.std.proofs.lemmas.Cmp.{nat_list_cmp_total, ranked}
use Rattle.std.proofs.lemmas.Bool.{and_parts, and_from}
use Rattle.std.proofs.lemmas.Bool.Decides.{nat_tests}
use Rattle.aidl_base.specs.Identifiers.{is_identifier, is_word_byte}
use Rattle.aidl_base.specs.Names.{dotted}
use Rattle.aidl_base.specs.declared.name.Ident.{Ident}
use Rattle.aidl_schema.specs.declared.schema.Decl.{Decl}
use Rattle.aidl_schema.specs.Holds.{AllHold}
use Rattle.aidl_schema.specs.Names.{name_of}
use Rattle.api_dump.specs.Dump.{File, file_of, path_of, top_level, placed, dump_text}
use Rattle.tree_schema.proofs.lemmas.walked.Lists.{mapped-there}
use Rattle.dump_reading.proofs.spelled.Spelled.{name_spelled, is_equal}
use Rattle.dump_reading.proofs.spelled.Texts.{ascii_same, word_ascii}
use Rattle.dump_reading.proofs.spelled.Values.{are_identifiers, name_parts}
use Rattle.dump_reading.proofs.filed.Paths.{with_dots, joined_dots}
use Rattle.dump_reading.proofs.filed.Numbers.{sorted_at, declared_at, filter_at, numbered_at}

abbrev compare : List ℕ → List ℕ → Ordering
compare p q = slice_cmp nat_cmp p q

abbrev slash : ℕ → ℕ
slash b = if b == 46 then 47 else b

-- a byte of a dotted name
abbrev is_plain : ℕ → Bool
is_plain b = is_word_byte b || b == 46

abbrev ending : List ℕ
ending = codes ".aidl"

-- Bytes.

word_more : (b : ℕ) → is_word_byte b ≡ true → 47 < b
word_more b h = grind (arith, nat_tests)

no_dot : (b : ℕ) → is_word_byte b ≡ true → (b == 46) ≡ false
no_dot b h = grind (arith, nat_tests)

-- a dot, or a byte of a word
by_kind : (b : ℕ) → is_plain b ≡ true → (P : Type 0) → (b ≡ 46 → slash b ≡ 47 → P) → (47 < b → slash b ≡ b → P) → P
by_kind b h P dot word = go (is_word_byte b) refl h where
  go : (t : Bool) → is_word_byte b ≡ t → (t || b == 46) ≡ true → P
  go true e f = word (word_more b e) (ap (λ t. if t then 47 else b) (no_dot b e))
  go false e f = dot (is_equal b 46 f) (ap (λ t. if t then 47 else b) f)

less_is : (a b : ℕ) → a < b → nat_cmp a b ≡ Less
less_is a b lt = grind (arith, nat_tests)

slash_less : (a b : ℕ) → is_plain a ≡ true → is_plain b ≡ true → a < b → nat_cmp (slash a) (slash b) ≡ Less
slash_less a b p q lt = by_kind a p _
    (λ da ea. by_kind b q _ (λ db eb. absurd (omega arith)) (λ wb eb. less_is (slash a) (slash b) (let x : slash a ≡ 47 = ea in let y : slash b ≡ b = eb in omega arith)))
    (λ wa ea. by_kind b q _ (λ db eb. absurd (omega arith)) (λ wb eb. less_is (slash a) (slash b) (let x : slash a ≡ a = ea in let y : slash b ≡ b = eb in omega arith)))

slash_more : (b : ℕ) → is_plain b ≡ true → 46 < slash b
slash_more b p = by_kind b p _ (λ d e. let x : slash b ≡ 47 = e in omega arith) (λ w e. let x : slash b ≡ b = e in omega arith)

same_cmp : (a : ℕ) → nat_cmp a a ≡ Equal
same_cmp a = grind (arith, nat_tests)

paths_rise : (p q : List ℕ) → list_all is_plain p ≡ true → list_all is_plain q ≡ true → compare p q ≡ Less → compare (map slash p ++ ending) (map slash q ++ ending) ≡ Less
paths_rise [] [] h k e = cc
paths_rise [] (y ∷ q) h k e =
    let two = and_parts (is_plain y) (list_all is_plain q) k in
    ap (λ o. ordering_then o (compare (codes "aidl") (map slash q ++ ending))) (less_is 46 (slash y) (slash_more y two.0))
paths_rise (x ∷ p) [] h k e = cc
paths_rise (x ∷ p) (y ∷ q) h k e = go (nat_cmp x y) refl (ranked x y (nat_cmp x y) refl) e (paths_rise p q (and_parts (is_plain x) (list_all is_plain p) h).1 (and_parts (is_plain y) (list_all is_plain q) k).1) where
  go : (o : Ordering) → nat_cmp x y ≡ o → MatchOrdering o (x < y) (x ≡ y) (y < x) → ordering_then o (compare p q) ≡ Less → (compare p q ≡ Less → compare (map slash p ++ ending) (map slash q ++ ending) ≡ Less)
      → ordering_then (nat_cmp (slash x) (slash y)) (compare (map slash p ++ ending) (map slash q ++ ending)) ≡ Less
  go Less f lt g more = ap (λ o. ordering_then o (compare (map slash p ++ ending) (map slash q ++ ending))) (slash_less x y (and_parts (is_plain x) (list_all is_plain p) h).0 (and_parts (is_plain y) (list_all is_plain q) k).0 lt)
  go Equal f is g more =
      ap (λ (z : ℕ). ordering_then (nat_cmp (slash x) (slash z)) (compare (map slash p ++ ending) (map slash q ++ ending))) (sym is)
      ∙ ap (λ o. ordering_then o (compare (map slash p ++ ending) (map slash q ++ ending))) (same_cmp (slash x)) ∙ more g
  go Greater f gt g more = cc

-- A path is its name with slashes, and an ending.

word_stays : (w : List ℕ) → list_all is_word_byte w ≡ true → (map slash w ≡ w) × (list_all is_plain w ≡ true)
word_stays [] h = (refl, refl)
word_stays (b ∷ w) h =
    let two = and_parts (is_word_byte b) (list_all is_word_byte w) h in let rest = word_stays w two.1 in
    (ap (λ t. (if t then 47 else b) ∷ map slash w) (no_dot b two.0) ∙ ap (λ bs. b ∷ bs) rest.0, and_from (is_plain b) (list_all is_plain w) (ap (λ t. t || b == 46) two.0) rest.1)

map_append : (xs ys : List ℕ) → map slash (xs ++ ys) ≡ map slash xs ++ map slash ys
map_append [] ys = refl
map_append (x ∷ xs) ys = ap (λ zs. slash x ∷ zs) (map_append xs ys)

all_append : (xs ys : List ℕ) → list_all is_plain xs ≡ true → list_all is_plain ys ≡ true → list_all is_plain (xs ++ ys) ≡ true
all_append [] ys h k = k
all_append (x ∷ xs) ys h k = let two = and_parts (is_plain x) (list_all is_plain xs) h in and_from (is_plain x) (list_all is_plain (xs ++ ys)) two.0 (all_append xs ys two.1 k)

part_is : (i : Ident) → is_identifier i.0 ≡ true → (encode_utf8_all i.0 ≡ map slash i.0) × (list_all is_plain i.0 ≡ true)
part_is i h = let w = (name_spelled i.0 h).1 in let s = word_stays i.0 w in (ascii_same is_word_byte word_ascii i.0 w ∙ sym s.0, s.1)

dots_slashed : (is : List Ident) → are_identifiers is ≡ true → (flat_map (λ j. 47 ∷ encode_utf8_all j.0) is ≡ map slash (with_dots is)) × (list_all is_plain (with_dots is) ≡ true)
dots_slashed [] h = (refl, refl)
dots_slashed (j ∷ is) h =
    let two = and_parts (is_identifier j.0) (are_identifiers is) h in let here = part_is j two.0 in let rest = dots_slashed is two.1 in (
      ap (λ bs. 47 ∷ bs ++ flat_map (λ j. 47 ∷ encode_utf8_all j.0) is) here.0 ∙ ap (λ bs. 47 ∷ map slash j.0 ++ bs) rest.0 ∙ ap (λ bs. 47 ∷ bs) (sym (map_append j.0 (with_dots is))),
      all_append j.0 (with_dots is) here.1 rest.1,
    )

path_slashed : (is : List Ident) → are_identifiers is ≡ true → (path_of is ≡ map slash (dotted is) ++ ending) × (list_all is_plain (dotted is) ≡ true)
path_slashed [] h = (refl, refl)
path_slashed (i ∷ is) h =
    let two = and_parts (is_identifier i.0) (are_identifiers is) h in let here = part_is i two.0 in let rest = dots_slashed is two.1 in (
      ap (λ bs. bs ++ ending) (ap (λ bs. bs ++ flat_map (λ j. 47 ∷ encode_utf8_all j.0) is) here.0 ∙ ap (λ bs. map slash i.0 ++ bs) rest.0 ∙ sym (map_append i.0 (with_dots is)) ∙ ap (map slash) (sym (joined_dots i is))),
      ap (list_all is_plain) (joined_dots i is) ∙ all_append i.0 (with_dots is) here.1 rest.1,
    )

names_rise : (is js : List Ident) → are_identifiers is ≡ true → are_identifiers js ≡ true → compare (dotted is) (dotted js) ≡ Less → compare (path_of is) (path_of js) ≡ Less
names_rise is js h k e =
    let a = path_slashed is h in let b = path_slashed js k in
    ap (λ p. compare p (path_of js)) a.0 ∙ ap (compare (map slash (dotted is) ++ ending)) b.0 ∙ paths_rise (dotted is) (dotted js) a.1 b.1 e

-- Files that rise stay as they are.

-- each path is below the new one
abbrev AreBelow : List File → File → Type 0
AreBelow es f = (k : ℕ) (e : File) → slice_get es k ≡ Some e → compare f.0 e.0 ≡ Greater

placed_last : (es : List File) (f : File) → AreBelow es f → placed es f ≡ es ++ f ∷ []
placed_last [] f h = refl
placed_last (e ∷ es) f h =
    ap (λ o. match_ordering o ((f.0, f.1) ∷ e ∷ es) ((e.0, f.1) ∷ es) (e ∷ placed es f)) (h zero e refl) ∙ ap (λ zs. e ∷ zs) (placed_last es f (λ k g at. h (suc k) g at))

abbrev Rise : List File → Type 0
Rise fs = (j k : ℕ) (f g : File) → j < k → slice_get fs j ≡ Some f → slice_get fs k ≡ Some g → compare g.0 f.0 ≡ Greater

last_case : (es : List File) (f : File) (k : ℕ) (e : File) (P : Type 0) → slice_get (es ++ f ∷ []) k ≡ Some e → (slice_get es k ≡ Some e → P) → (f ≡ e → P) → P
last_case [] f zero e P at a b = b (cc)
last_case [] f (suc k) e P at a b = cc
last_case (z ∷ es) f zero e P at a b = a at
last_case (z ∷ es) f (suc k) e P at a b = last_case es f k e P at a b

fold_rises : (fs es : List File) → Rise fs → ((k : ℕ) (f : File) → slice_get fs k ≡ Some f → AreBelow es f) → fold placed es fs ≡ es ++ fs
fold_rises [] es rise low = sym (append-nil es)
fold_rises (f ∷ fs) es rise low =
    ap (λ zs. fold placed zs fs) (placed_last es f (low zero f refl))
    ∙ fold_rises fs (es ++ f ∷ []) (λ j k g h lt at there. rise (suc j) (suc k) g h (omega arith) at there)
    (λ k g at j e there. last_case es f j e (compare g.0 e.0 ≡ Greater) there (λ old. low (suc k) g at j e old)
    (λ same. subst (λ z. compare g.0 z.0 ≡ Greater) same (rise zero (suc k) f g (omega arith) refl at)))
    ∙ append_assoc es (f ∷ []) fs

module _ (S : List Decl) (H : AllHold S) (sorted : IsStrictlySortedBy (slice_cmp nat_cmp) (map name_of S)) where
  -- Numbers rise in what a filter keeps.
  abbrev Numbered : List (ℕ × Decl) → Type 0
  Numbered xs = (j k : ℕ) (x y : ℕ × Decl) → j < k → slice_get xs j ≡ Some x → slice_get xs k ≡ Some y → x.0 < y.0

  abbrev top : ℕ × Decl → Bool
  top x = is_none x.1.outer

  kept_rise : (i : ℕ) (ds : List Decl) → Numbered (filter top (enumerate_from i ds))
  kept_rise i [] j k x y lt e f = cc
  kept_rise i (d ∷ ds) j k x y lt e f = by (is_none d.outer) j k lt e f (λ j k lt e f. kept_rise (i + 1) ds j k x y lt e f) where
    by : (t : Bool) (j k : ℕ) → j < k → slice_get (cond t ((i, d) ∷ filter top (enumerate_from (i + 1) ds)) (filter top (enumerate_from (i + 1) ds))) j ≡ Some x
        → slice_get (cond t ((i, d) ∷ filter top (enumerate_from (i + 1) ds)) (filter top (enumerate_from (i + 1) ds))) k ≡ Some y
        → ((j k : ℕ) → j < k → slice_get (filter top (enumerate_from (i + 1) ds)) j ≡ Some x → slice_get (filter top (enumerate_from (i + 1) ds)) k ≡ Some y → x.0 < y.0) → x.0 < y.0
    by true zero zero lt e f later = absurd (omega arith)
    by true (suc j) zero lt e f later = absurd (omega arith)
    by true zero (suc k) lt e f later =
        let r = filter_at top (enumerate_from (i + 1) ds) k y f in let n = (numbered_at (i + 1) ds r.0 y r.1).0 in
        let s : (i, d) ≡ x = cc in let z : i ≡ x.0 = ap (λ w. w.0) s in omega arith
    by true (suc j) (suc k) lt e f later = later j k (omega arith) e f
    by false j k lt e f later = later j k lt e f

  pub top_at : (k : ℕ) (x : ℕ × Decl) → slice_get (top_level S) k ≡ Some x → (slice_get S x.0 ≡ Some x.1) × (is_none x.1.outer ≡ true)
  top_at k x e = let r = filter_at top (enumerate_from 0 S) k x e in (declared_at S r.0 x r.1, r.2)

  files_rise : (xs : List (ℕ × Decl)) → Numbered xs → ((k : ℕ) (x : ℕ × Decl) → slice_get xs k ≡ Some x → slice_get S x.0 ≡ Some x.1) → Rise (map (file_of S) xs)
  files_rise xs n at j k f g lt e h =
      let a = mapped_file xs j f e in let b = mapped_file xs k g h in
      let x = a.0 in let y = b.0 in
      let rise = n j k x y lt a.1 b.1 in
      let less : compare (path_of x.1.name.0) (path_of y.1.name.0) ≡ Less =
      names_rise x.1.name.0 y.1.name.0 (name_parts x.1.name.0 (H x.0 x.1 (at j x a.1)).name).1 (name_parts y.1.name.0 (H y.0 y.1 (at k y b.1)).name).1
      (sorted_at (slice_cmp nat_cmp) (map name_of S) sorted x.0 y.0 (name_of x.1) (name_of y.1) rise (mapped-there name_of S x.0 x.1 (at j x a.1)) (mapped-there name_of S y.0 y.1 (at k y b.1))) in
      let more : compare (path_of y.1.name.0) (path_of x.1.name.0) ≡ Greater = nat_list_cmp_total.antisymm (path_of y.1.name.0) (path_of x.1.name.0) ∙ ap ordering_reverse less in
      subst (λ z. compare z.0 f.0 ≡ Greater) b.2 (subst (λ z. compare (path_of y.1.name.0) z.0 ≡ Greater) a.2 more) where
        mapped_file : (xs : List (ℕ × Decl)) (k : ℕ) (f : File) → slice_get (map (file_of S) xs) k ≡ Some f → (x : ℕ × Decl) × (slice_get xs k ≡ Some x) × (file_of S x ≡ f)
        mapped_file [] k f e = cc
        mapped_file (x ∷ xs) zero f e = (x, refl, cc)
        mapped_file (x ∷ xs) (suc k) f e = mapped_file xs k f e

  -- the files of a dump, in the order of the numbers of their declarations
  pub files_are : dump_text S ≡ map (file_of S) (top_level S)
  files_are = fold_rises (map (file_of S) (top_level S)) [] (files_rise (top_level S) (kept_rise 0 S) (λ k x e. (top_at k x e).0)) (λ k f e j g there. cc)
