-- The declarations of the trees that a dump stands for are those of the schema.
use Rattle.std.proofs.Common.{◌≡◌, ℕ, zero, suc, ◌+◌, ◌≤◌, true, false, List, [], ◌∷◌, ◌++◌, map, length, Option, Some, None, is_none, slice_get, ◌⊎◌, inl, inr, refl, sym, ap, subst, ◌∙◌, arith, append-nil, append_assoc}
use Rattle.std.specs.List.{flat_map}
use Rattle.std.specs.List.Sorted.{IsStrictlySortedBy}
use Rattle.std.specs.Cmp.Lexicographic.{slice_cmp}
use Rattle.std.specs.Ordering.{nat_cmp}
use Rattle.aidl_base.specs.declared.name.Ident.{Ident}
use Rattle.aidl_syntax.specs.Trees as tree
use Rattle.aidl_syntax.specs.Trees.Decl.{decl}
use Rattle.aidl_syntax.specs.Trees.Body.{enum, parcelable, union, interface}
use Rattle.aidl_syntax.specs.Trees.Members.{none, field, constant, method, nested}
use Rattle.aidl_syntax.specs.Members.{declared_name, body}
use Rattle.declared_names.specs.Names.{parts_of}
use Rattle.aidl_syntax.specs.Sources.{Source}
use Rattle.declared_names.specs.Declarations as names
use Rattle.declared_names.specs.Declarations.{Entry, declarations, with_decl, with_body, with_members, with_file, with_files}
use Rattle.aidl_schema.specs.declared.schema.Decl.{Decl}
use Rattle.aidl_schema.specs.declared.schema.Kind.{Kind}
use Rattle.aidl_schema.specs.declared.schema.Kind.TheVariants.{Interface, Parcelable, Union, Enum}
use Rattle.aidl_schema.specs.Holds.{AllHold, AreApart}
use Rattle.aidl_schema.specs.Names.{name_of, last_part, without_last, may_enclose}
use Rattle.api_dump.specs.Pieces.{ident}
use Rattle.api_dump.specs.Declarations.{inside}
use Rattle.api_dump.specs.Dump.{File, file_of, top_level, dump_text}
use Rattle.dump_reading.specs.Bare.{bare_decl, bare_body, bare_members, bare_file}
use Rattle.dump_reading.specs.DumpTrees.{each_before, constants_before, body_tree, decl_tree, decl_before, nested_trees, file_tree, field_tree, constant_tree, method_tree}
use Rattle.dump_reading.specs.Dumped.{IsSourceOf, AreSources}
use Rattle.tree_schema.proofs.lemmas.walked.Lists.{there-kept, there-last, there-cases}
use Rattle.dump_reading.proofs.spelled.Values.{has_part, name_parts}
use Rattle.dump_reading.proofs.filed.Files.{none_is}
use Rattle.dump_reading.proofs.named.Files.{package_is, name_is}
use Rattle.dump_reading.proofs.filed.Paths.{one_name}
use Rattle.dump_reading.proofs.filed.Numbers.{walk, walks, none_of, inside_at, outer_is, is_after}
use Rattle.dump_reading.proofs.filed.Ordered.{files_are, top_at}

-- Names.

-- a name of its front and its last part
pub joined : (is : List Ident) → has_part is ≡ true → without_last is ++ ident (last_part is) ∷ [] ≡ is
joined [] h = cc
joined (i ∷ []) h = refl
joined (i ∷ j ∷ is) h = ap (λ js. i ∷ js) (joined (j ∷ is) refl)

name_of_bare : (t : tree.Decl) (i : Ident) (e : tree.Decl) → bare_decl t ≡ e → (declared_name e).name ≡ i → (declared_name t).name ≡ i
name_of_bare (decl o annots n b) i e h k = ap (λ d. (declared_name d).name) h ∙ k

-- Members that declare nothing are passed over.

-- what is left of members does the same
abbrev LeftOf : tree.Members → tree.Members → Type 0
LeftOf ms last = (rest : tree.Members) × (bare_members rest ≡ last) × ((file number : ℕ) (name : List Ident) (before : List Entry) → with_members file number name ms before ≡ with_members file number name rest before)

past_fields : {X : Type 0} (g : X → tree.Field) (xs : List X) (ms last : tree.Members) → bare_members ms ≡ each_before (λ x ms. field (g x) ms) xs last → LeftOf ms last
past_fields g [] ms last e = (ms, e, λ file number name before. refl)
past_fields g (x ∷ xs) none last e = cc
past_fields g (x ∷ xs) (field f ms) last e = let h : bare_members ms ≡ each_before (λ x ms. field (g x) ms) xs last = cc in past_fields g xs ms last h
past_fields g (x ∷ xs) (constant c ms) last e = cc
past_fields g (x ∷ xs) (method m ms) last e = cc
past_fields g (x ∷ xs) (nested d ms) last e = cc

past_constants : {X : Type 0} (g : X → tree.Constant) (xs : List X) (ms last : tree.Members) → bare_members ms ≡ each_before (λ x ms. constant (g x) ms) xs last → LeftOf ms last
past_constants g [] ms last e = (ms, e, λ file number name before. refl)
past_constants g (x ∷ xs) none last e = cc
past_constants g (x ∷ xs) (field f ms) last e = cc
past_constants g (x ∷ xs) (constant c ms) last e = let h : bare_members ms ≡ each_before (λ x ms. constant (g x) ms) xs last = cc in past_constants g xs ms last h
past_constants g (x ∷ xs) (method m ms) last e = cc
past_constants g (x ∷ xs) (nested d ms) last e = cc

past_methods : {X : Type 0} (g : X → tree.Method) (xs : List X) (ms last : tree.Members) → bare_members ms ≡ each_before (λ x ms. method (g x) ms) xs last → LeftOf ms last
past_methods g [] ms last e = (ms, e, λ file number name before. refl)
past_methods g (x ∷ xs) none last e = cc
past_methods g (x ∷ xs) (field f ms) last e = cc
past_methods g (x ∷ xs) (constant c ms) last e = cc
past_methods g (x ∷ xs) (method m ms) last e = let h : bare_members ms ≡ each_before (λ x ms. method (g x) ms) xs last = cc in past_methods g xs ms last h
past_methods g (x ∷ xs) (nested d ms) last e = cc

further : (ms last more : tree.Members) → LeftOf ms last → ((rest : tree.Members) → bare_members rest ≡ last → LeftOf rest more) → LeftOf ms more
further ms last more a h = let b = h a.0 a.1 in (b.0, b.1, λ file number name before. a.2 file number name before ∙ b.2 file number name before)

-- what is left of a body
abbrev LeftIn : tree.Body → tree.Members → Type 0
LeftIn b last = (rest : tree.Members) × (bare_members rest ≡ last) × ((file number : ℕ) (name : List Ident) (before : List Entry) → with_body file number name b before ≡ with_members file number name rest before)

module _ (S : List Decl) where
  past_own : (d : Decl) (k : Kind) (b : tree.Body) (last : tree.Members) → bare_body b ≡ body_tree S k (constants_before S d last) → (may_enclose k ≡ false → last ≡ none) → LeftIn b last
  past_own d (Interface xs) (interface oneway ms) last e n =
      let h : bare_members ms ≡ each_before (λ m ms. method (method_tree S m) ms) xs (constants_before S d last) = cc in
      further ms (constants_before S d last) last (past_methods (method_tree S) xs ms (constants_before S d last) h) (λ rest r. past_constants (constant_tree S) d.constants rest last r)
  past_own d (Interface xs) (parcelable ms) last e n = cc
  past_own d (Interface xs) (union ms) last e n = cc
  past_own d (Interface xs) (enum es) last e n = cc
  past_own d (Parcelable xs) (parcelable ms) last e n =
      let h : bare_members ms ≡ each_before (λ f ms. field (field_tree S f) ms) xs (constants_before S d last) = cc in
      further ms (constants_before S d last) last (past_fields (field_tree S) xs ms (constants_before S d last) h) (λ rest r. past_constants (constant_tree S) d.constants rest last r)
  past_own d (Parcelable xs) (interface oneway ms) last e n = cc
  past_own d (Parcelable xs) (union ms) last e n = cc
  past_own d (Parcelable xs) (enum es) last e n = cc
  past_own d (Union xs) (union ms) last e n =
      let h : bare_members ms ≡ each_before (λ f ms. field (field_tree S f) ms) xs (constants_before S d last) = cc in
      further ms (constants_before S d last) last (past_fields (field_tree S) xs ms (constants_before S d last) h) (λ rest r. past_constants (constant_tree S) d.constants rest last r)
  past_own d (Union xs) (interface oneway ms) last e n = cc
  past_own d (Union xs) (parcelable ms) last e n = cc
  past_own d (Union xs) (enum es) last e n = cc
  past_own d (Enum b xs) (enum es) last e n = (none, sym (n refl), λ file number name before. refl)
  past_own d (Enum b xs) (interface oneway ms) last e n = cc
  past_own d (Enum b xs) (parcelable ms) last e n = cc
  past_own d (Enum b xs) (union ms) last e n = cc

-- Entries beside numbers.

-- the number around, in both countings
abbrev pub IsOuterOf : List ℕ → Option ℕ → Option ℕ → Type 0
IsOuterOf ws None None = Unit {0}
IsOuterOf ws None (Some m) = ⊥
IsOuterOf ws (Some j) None = ⊥
IsOuterOf ws (Some j) (Some m) = slice_get ws j ≡ Some m

outer_kept : (ws vs : List ℕ) (o p : Option ℕ) → IsOuterOf ws o p → IsOuterOf (ws ++ vs) o p
outer_kept ws vs None None h = tt
outer_kept ws vs None (Some m) h = h
outer_kept ws vs (Some j) None h = h
outer_kept ws vs (Some j) (Some m) h = there-kept ws vs j m h

-- an entry is that of the declaration with a number
pub record IsEntry (S : List Decl) (files : List Source) (ws : List ℕ) (w : ℕ) (e : Entry) : Type 0 where
  pub source : Source
  pub placed : slice_get files e.file ≡ Some source
  pub declared : Decl
  pub at : slice_get S w ≡ Some declared
  pub named : e.name ≡ declared.name.0
  pub outer : IsOuterOf ws e.outer declared.outer
  pub levels : ℕ
  pub enough : length S ≤ levels + w
  pub written : bare_decl e.tree ≡ decl_tree S declared (nested_trees S levels w)

-- each entry is that of the declaration whose number stands at its place
pub record AreEntries (S : List Decl) (files : List Source) (ws : List ℕ) (es : List Entry) : Type 0 where
  pub count : length ws ≡ length es
  pub each : (j : ℕ) (e : Entry) → slice_get es j ≡ Some e → (w : ℕ) × (slice_get ws j ≡ Some w) × IsEntry S files ws w e

abbrev OneOf : List ℕ → ℕ → ℕ → Type 0
OneOf ws j w = slice_get ws j ≡ Some w

length_last : {X : Type 0} (xs : List X) (x : X) → length (xs ++ x ∷ []) ≡ length xs + 1
length_last [] x = refl
length_last (y ∷ xs) x = let h = length_last xs x in omega arith

module _ (S : List Decl) (files : List Source) where
  grown : (ws vs : List ℕ) (w : ℕ) (e : Entry) → IsEntry S files ws w e → IsEntry S files (ws ++ vs) w e
  grown ws vs w e h =
      record { source = h.source; placed = h.placed; declared = h.declared; at = h.at; named = h.named; outer = outer_kept ws vs e.outer h.declared.outer h.outer; levels = h.levels; enough = h.enough; written = h.written }

  one_more : (ws : List ℕ) (es : List Entry) (w : ℕ) (e : Entry) → AreEntries S files ws es → IsEntry S files ws w e → AreEntries S files (ws ++ w ∷ []) (es ++ e ∷ [])
  one_more ws es w e h here = record {
    count = let a = h.count in let b = length_last ws w in let c = length_last es e in omega arith;
    each = λ j f at. by j f (there-cases es e j f at);
  } where
    by : (j : ℕ) (f : Entry) → (slice_get es j ≡ Some f) ⊎ ((j ≡ length es) × (e ≡ f)) → (v : ℕ) × (slice_get (ws ++ w ∷ []) j ≡ Some v) × IsEntry S files (ws ++ w ∷ []) v f
    by j f (inl a) = let r = h.each j f a in (r.0, there-kept ws (w ∷ []) j r.0 r.1, grown ws (w ∷ []) r.0 f r.2)
    by j f (inr b) =
        let same : j ≡ length ws = b.0 ∙ sym h.count in
        (w, subst (λ (i : ℕ). slice_get (ws ++ w ∷ []) i ≡ Some w) (sym same) (there-last ws w), subst (λ g. IsEntry S files (ws ++ w ∷ []) w g) b.1 (grown ws (w ∷ []) w e here))

module _ (S : List Decl) (H : AllHold S) (sorted : IsStrictlySortedBy (slice_cmp nat_cmp) (map name_of S)) (A : AreApart name_of S) (files : List Source) where
  abbrev Are : List ℕ → List Entry → Type 0
  Are ws es = AreEntries S files ws es

  -- a walk over the tree of a declaration adds it, and those inside it
  abbrev Walked : ℕ → Type 0
  Walked levels = (n : ℕ) (d : Decl) (file : ℕ) (s : Source) (outer : Option ℕ) (t : tree.Decl) (ws : List ℕ) (es : List Entry) → Are ws es → slice_get files file ≡ Some s → slice_get S n ≡ Some d
      → length S ≤ levels + n → bare_decl t ≡ decl_tree S d (nested_trees S levels n) → IsOuterOf ws outer d.outer → Are (ws ++ walk S levels n) (with_decl file outer d.name.0 t es)

  last_named : (m n : ℕ) (d e : Decl) → slice_get S m ≡ Some d → d.outer ≡ Some n → slice_get S n ≡ Some e → e.name.0 ++ ident (last_part d.name.0) ∷ [] ≡ d.name.0
  last_named m n d e at o there =
      let r = outer_is S H sorted m n d at o in
      let same : Some r.0 ≡ Some e = sym r.1 ∙ there in
      let is : r.0 ≡ e = cc in
      ap (λ x. x.name.0 ++ ident (last_part d.name.0) ∷ []) (sym is) ∙ ap (λ is. is ++ ident (last_part d.name.0) ∷ []) r.3 ∙ joined d.name.0 (name_parts d.name.0 (H m d at).name).0

  abbrev Inner : ℕ → List ℕ → tree.Members
  Inner levels ms = each_before (λ m ms. decl_before S (slice_get S m) (nested_trees S levels m) ms) ms none

  members_walked : (levels : ℕ) → Walked levels → (n : ℕ) (d : Decl) (file : ℕ) (s : Source) (number : ℕ) → slice_get files file ≡ Some s → slice_get S n ≡ Some d → length S ≤ suc levels + n
      → (ms : List ℕ) → ((k m : ℕ) → slice_get ms k ≡ Some m → (c : Decl) × (slice_get S m ≡ Some c) × (c.outer ≡ Some n))
      → (t : tree.Members) (ws : List ℕ) (es : List Entry) → bare_members t ≡ Inner levels ms → Are ws es → OneOf ws number n
      → Are (ws ++ flat_map (λ m. walk S levels m) ms) (with_members file number d.name.0 t es)
  members_walked levels walked n d file s number in_file at enough [] child none ws es e are there = subst (λ vs. Are vs es) (sym (append-nil ws)) are
  members_walked levels walked n d file s number in_file at enough [] child (field f ms) ws es e are there = cc
  members_walked levels walked n d file s number in_file at enough [] child (constant c ms) ws es e are there = cc
  members_walked levels walked n d file s number in_file at enough [] child (method m ms) ws es e are there = cc
  members_walked levels walked n d file s number in_file at enough [] child (nested c ms) ws es e are there = cc
  members_walked levels walked n d file s number in_file at enough (m ∷ ms) child t ws es e are there =
      let c = child zero m refl in
      let f : bare_members t ≡ nested (decl_tree S c.0 (nested_trees S levels m)) (Inner levels ms) = e ∙ ap (λ o. decl_before S o (nested_trees S levels m) (Inner levels ms)) c.1 in
      by c.0 c.1 c.2 t f (λ t ws es e are there. members_walked levels walked n d file s number in_file at enough ms (λ k x g. child (suc k) x g) t ws es e are there) where
        by : (c : Decl) → slice_get S m ≡ Some c → c.outer ≡ Some n → (t : tree.Members) → bare_members t ≡ nested (decl_tree S c (nested_trees S levels m)) (Inner levels ms)
            → ((t : tree.Members) (ws : List ℕ) (es : List Entry) → bare_members t ≡ Inner levels ms → Are ws es → OneOf ws number n → Are (ws ++ flat_map (λ m. walk S levels m) ms) (with_members file number d.name.0 t es))
            → Are (ws ++ (walk S levels m ++ flat_map (λ m. walk S levels m) ms)) (with_members file number d.name.0 t es)
        by c g o none f later = cc
        by c g o (field x more) f later = cc
        by c g o (constant x more) f later = cc
        by c g o (method x more) f later = cc
        by c g o (nested x more) f later =
            let tree_is : bare_decl x ≡ decl_tree S c (nested_trees S levels m) = cc in
            let rest_is : bare_members more ≡ Inner levels ms = cc in
            let after = is_after S H sorted m n c g o in
            let named : names.name_inside d.name.0 x ≡ c.name.0 =
            ap (λ i. d.name.0 ++ i ∷ []) (name_of_bare x (ident (last_part c.name.0)) (decl_tree S c (nested_trees S levels m)) tree_is refl) ∙ last_named m n c d g o at in
            let out : IsOuterOf ws (Some number) c.outer = subst (λ p. IsOuterOf ws (Some number) p) (sym o) there in
            let one : Are (ws ++ walk S levels m) (with_decl file (Some number) c.name.0 x es) = walked m c file s (Some number) x ws es are in_file g (omega arith) tree_is out in
            subst (λ vs. Are vs (with_members file number d.name.0 more (with_decl file (Some number) (names.name_inside d.name.0 x) x es))) (append_assoc ws (walk S levels m) (flat_map (λ m. walk S levels m) ms))
            (subst (λ name. Are ((ws ++ walk S levels m) ++ flat_map (λ m. walk S levels m) ms) (with_members file number d.name.0 more (with_decl file (Some number) name x es))) (sym named)
            (later more (ws ++ walk S levels m) (with_decl file (Some number) c.name.0 x es) rest_is one (there-kept ws (walk S levels m) number n there)))

  -- what stands inside a declaration that holds none
  pub none_inside : (n : ℕ) (d : Decl) → slice_get S n ≡ Some d → may_enclose d.kind ≡ false → inside S n ≡ []
  none_inside n d at closed = none_of (inside S n) (λ k m e.
      let c = inside_at S n k m e in
      let r = outer_is S H sorted m n c.0 c.1 c.2 in
      let same : Some r.0 ≡ Some d = sym r.1 ∙ at in
      let is : r.0 ≡ d = cc in
      let open_so : may_enclose d.kind ≡ true = ap (λ x. may_enclose x.kind) (sym is) ∙ r.2 in
      cc)

  pub no_nested : (levels n : ℕ) → inside S n ≡ [] → nested_trees S levels n ≡ none
  no_nested zero n e = refl
  no_nested (suc levels) n e = ap (Inner levels) e

  front_walked : (levels n : ℕ) (d : Decl) (file : ℕ) (s : Source) (outer : Option ℕ) (o : ℕ) (annots : List tree.Annot) (nt : _) (b : tree.Body) (ws : List ℕ) (es : List Entry) → Are ws es → slice_get files file ≡ Some s → slice_get S n ≡ Some d
      → length S ≤ levels + n → bare_decl (decl o annots nt b) ≡ decl_tree S d (nested_trees S levels n) → IsOuterOf ws outer d.outer
      → ((rest : tree.Members) → bare_members rest ≡ nested_trees S levels n → (es : List Entry) → Are (ws ++ n ∷ []) es → (number : ℕ) → OneOf (ws ++ n ∷ []) number n → Are (ws ++ walk S levels n) (with_members file number d.name.0 rest es))
      → Are (ws ++ walk S levels n) (with_decl file outer d.name.0 (decl o annots nt b) es)
  front_walked levels n d file s outer o annots nt b ws es are in_file at enough e out more =
      let e0 : Entry = record { name = d.name.0; file = file; outer = outer; tree = decl o annots nt b } in
      let here : IsEntry S files ws n e0 = record { source = s; placed = in_file; declared = d; at = at; named = refl; outer = out; levels = levels; enough = enough; written = e } in
      let now : Are (ws ++ n ∷ []) (es ++ e0 ∷ []) = one_more S files ws es n e0 are here in
      let left : LeftIn b (nested_trees S levels n) = past_own S d d.kind b (nested_trees S levels n) (ap body e) (λ closed. no_nested levels n (none_inside n d at closed)) in
      let place : OneOf (ws ++ n ∷ []) (length es) n = subst (λ (j : ℕ). slice_get (ws ++ n ∷ []) j ≡ Some n) are.count (there-last ws n) in
      subst (λ es. Are (ws ++ walk S levels n) es) (sym (left.2 file (length es) d.name.0 (es ++ e0 ∷ []))) (more left.0 left.1 (es ++ e0 ∷ []) now (length es) place)

  walked : (levels : ℕ) → Walked levels
  walked zero n d file s outer (decl o annots nt b) ws es are in_file at enough e out =
      front_walked zero n d file s outer o annots nt b ws es are in_file at enough e out (λ rest r es are number there. only rest r es are number) where
        only : (rest : tree.Members) → bare_members rest ≡ none → (es : List Entry) → Are (ws ++ n ∷ []) es → (number : ℕ) → Are (ws ++ n ∷ []) (with_members file number d.name.0 rest es)
        only none r es are number = are
        only (field f ms) r es are number = cc
        only (constant c ms) r es are number = cc
        only (method m ms) r es are number = cc
        only (nested c ms) r es are number = cc
  walked (suc levels) n d file s outer (decl o annots nt b) ws es are in_file at enough e out =
      front_walked (suc levels) n d file s outer o annots nt b ws es are in_file at enough e out
      (λ rest r es are number there.
      subst (λ vs. Are vs (with_members file number d.name.0 rest es)) (append_assoc ws (n ∷ []) (flat_map (λ m. walk S levels m) (inside S n)))
      (members_walked levels (walked levels) n d file s number in_file at enough (inside S n) (λ k m g. inside_at S n k m g) rest (ws ++ n ∷ []) es r are there))

  -- Files.

  -- a source is that of a declaration that stands in no other
  abbrev Stands : ℕ × Decl → Source → Type 0
  Stands x s = bare_file s.tree ≡ file_tree S x

  abbrev Stand : List (ℕ × Decl) → List Source → Type 0
  Stand [] [] = Unit {0}
  Stand [] (s ∷ ss) = ⊥
  Stand (x ∷ xs) [] = ⊥
  Stand (x ∷ xs) (s ∷ ss) = Stands x s × Stand xs ss

  abbrev AreTop : List (ℕ × Decl) → Type 0
  AreTop xs = (k : ℕ) (x : ℕ × Decl) → slice_get xs k ≡ Some x → (slice_get S x.0 ≡ Some x.1) × (is_none x.1.outer ≡ true)

  one_top : (x : ℕ × Decl) → slice_get S x.0 ≡ Some x.1 → (f : File) (s : Source) → file_of S x ≡ f → IsSourceOf S f s → Stands x s
  one_top x at f s same h =
      let y = h.1 in
      let e = ap (λ g. g.0) (same ∙ h.3) in
      let name : name_of x.1 ≡ name_of y.1 = one_name x.1.name.0 y.1.name.0 (name_parts x.1.name.0 (H x.0 x.1 at).name).1 (name_parts y.1.name.0 (H y.0 y.1 h.2.0).name).1 e in
      let number : x.0 ≡ y.0 = A x.0 y.0 x.1 y.1 at h.2.0 name in
      let two : Some x.1 ≡ Some y.1 = sym at ∙ ap (λ (j : ℕ). slice_get S j) number ∙ h.2.0 in
      let decl_is : x.1 ≡ y.1 = cc in
      let is : y ≡ x = ap (λ (j : ℕ). (j, y.1)) (sym number) ∙ ap (λ z. (x.0, z)) (sym decl_is) in
      subst (λ z. bare_file s.tree ≡ file_tree S z) is h.4

  stand : (xs : List (ℕ × Decl)) → AreTop xs → (ss : List Source) → AreSources S (map (file_of S) xs) ss → Stand xs ss
  stand [] top [] h = tt
  stand [] top (s ∷ ss) h = h
  stand (x ∷ xs) top [] h = h
  stand (x ∷ xs) top (s ∷ ss) h = (one_top x (top zero x refl).0 (file_of S x) s refl h.0, stand xs (λ k y e. top (suc k) y e) ss h.1)

  files_walked : (i : ℕ) (xs : List (ℕ × Decl)) (ss : List Source) → AreTop xs → Stand xs ss → ((k : ℕ) (s : Source) → slice_get ss k ≡ Some s → slice_get files (i + k) ≡ Some s)
      → (ws : List ℕ) (es : List Entry) → Are ws es → Are (ws ++ flat_map (λ x. walk S (length S) x.0) xs) (with_files i ss es)
  files_walked i [] [] top h at ws es are = subst (λ vs. Are vs es) (sym (append-nil ws)) are
  files_walked i [] (s ∷ ss) top h at ws es are = absurd h
  files_walked i (x ∷ xs) [] top h at ws es are = absurd h
  files_walked i (x ∷ xs) (s ∷ ss) top h at ws es are =
      let t = top zero x refl in
      let in_file : slice_get files i ≡ Some s = subst (λ (j : ℕ). slice_get files j ≡ Some s) (omega arith) (at zero s refl) in
      let named : names.name_inside (parts_of s.tree.«package») s.tree.declared ≡ x.1.name.0 =
      ap (λ is. is ++ (declared_name s.tree.declared).name ∷ []) (package_is S x s.tree h.0) ∙ ap (λ i. without_last x.1.name.0 ++ i ∷ []) (name_is S x s.tree h.0)
      ∙ joined x.1.name.0 (name_parts x.1.name.0 (H x.0 x.1 t.0).name).0 in
      let out : IsOuterOf ws None x.1.outer = subst (λ p. IsOuterOf ws None p) (sym (none_is x.1.outer t.1)) tt in
      let one : Are (ws ++ walk S (length S) x.0) (with_decl i None x.1.name.0 s.tree.declared es) =
      walked (length S) x.0 x.1 i s None s.tree.declared ws es are in_file t.0 (omega arith) (ap (λ f. f.declared) h.0) out in
      let here : Are (ws ++ walk S (length S) x.0) (with_file i s es) =
      subst (λ name. Are (ws ++ walk S (length S) x.0) (with_decl i None name s.tree.declared es)) (sym named) one in
      subst (λ vs. Are vs (with_files (i + 1) ss (with_file i s es))) (append_assoc ws (walk S (length S) x.0) (flat_map (λ x. walk S (length S) x.0) xs))
      (files_walked (i + 1) xs ss (λ k y e. top (suc k) y e) h.1 (λ k r e. subst (λ (j : ℕ). slice_get files j ≡ Some r) (omega arith) (at (suc k) r e)) (ws ++ walk S (length S) x.0) (with_file i s es) here)

  -- each declaration of the trees is that of the schema whose number stands at its place
  pub are_entries : AreSources S (dump_text S) files → AreEntries S files (walks S) (declarations files)
  are_entries h =
      files_walked 0 (top_level S) files (top_at S H sorted) (stand (top_level S) (top_at S H sorted) files (subst (λ fs. AreSources S fs files) (files_are S H sorted) h))
      (λ k s e. subst (λ (j : ℕ). slice_get files j ≡ Some s) (omega arith) e) [] [] (record { count = refl; each = λ j e f. cc })
