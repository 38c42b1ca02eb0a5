-- The declarations of the trees that a dump stands for are those of the schema, each once.
use Rattle.std.proofs.Common.{◌≡◌, ℕ, zero, suc, ◌+◌, ◌≤◌, List, [], ◌∷◌, length, map, Option, Some, None, slice_get, refl, sym, ap, ◌∙◌, arith}
use Rattle.std.specs.List.Sorted.{IsStrictlySortedBy}
use Rattle.std.specs.Cmp.Lexicographic.{slice_cmp}
use Rattle.std.specs.Ordering.{nat_cmp}
use Rattle.aidl_syntax.specs.Trees as tree
use Rattle.aidl_syntax.specs.Trees.{map_option}
use Rattle.aidl_syntax.specs.Trees.Members.{none}
use Rattle.aidl_base.specs.Names.{dotted}
use Rattle.aidl_syntax.specs.Sources.{Source}
use Rattle.declared_names.specs.Declarations.{Entry, declarations}
use Rattle.aidl_schema.specs.declared.schema.Decl.{Decl}
use Rattle.aidl_schema.specs.Holds.{AllHold, AreApart}
use Rattle.aidl_schema.specs.Names.{name_of}
use Rattle.api_dump.specs.Declarations.{inside}
use Rattle.dump_reading.specs.DumpTrees.{each_before, decl_before, decl_tree, nested_trees}
use Rattle.dump_reading.specs.Declared.{name_at, IsDeclaration, AreDeclared}
use Rattle.dump_reading.proofs.filed.Numbers.{walks, walks_length, place_once, none_past, inside_at, is_after}
use Rattle.dump_reading.proofs.named.Entries.{IsEntry, AreEntries, IsOuterOf}
use Rattle.dump_reading.proofs.named.Resolved.{number_is}

module _ (S : List Decl) (H : AllHold S) (sorted : IsStrictlySortedBy (slice_cmp nat_cmp) (map name_of S)) (A : AreApart name_of S) where
  -- Enough levels are enough.

  abbrev Inner : (ℕ → tree.Members) → List ℕ → tree.Members
  Inner g ms = each_before (λ m ms. decl_before S (slice_get S m) (g m) ms) ms none

  inner_same : (f g : ℕ → tree.Members) (ms : List ℕ) → ((k m : ℕ) → slice_get ms k ≡ Some m → f m ≡ g m) → Inner f ms ≡ Inner g ms
  inner_same f g [] h = refl
  inner_same f g (m ∷ ms) h = ap (λ t. decl_before S (slice_get S m) t (Inner f ms)) (h zero m refl) ∙ ap (λ t. decl_before S (slice_get S m) (g m) t) (inner_same f g ms (λ k x e. h (suc k) x e))

  steady : (levels n : ℕ) → length S ≤ levels + n → nested_trees S (suc levels) n ≡ nested_trees S levels n
  steady zero n le = ap (Inner (nested_trees S zero)) (none_past S H sorted n (omega arith))
  steady (suc levels) n le = inner_same (nested_trees S (suc levels)) (nested_trees S levels) (inside S n) (λ k m e.
      let a = inside_at S n k m e in let lt = is_after S H sorted m n a.0 a.1 a.2 in steady levels m (omega arith))

  more : (k levels n : ℕ) → length S ≤ levels + n → nested_trees S (levels + k) n ≡ nested_trees S levels n
  more zero levels n le = let is : levels + zero ≡ levels = omega arith in ap (λ (j : ℕ). nested_trees S j n) is
  more (suc k) levels n le =
      let is : levels + suc k ≡ suc (levels + k) = omega arith in
      ap (λ (j : ℕ). nested_trees S j n) is ∙ steady (levels + k) n (omega arith) ∙ more k levels n le

  enough_levels : (levels n : ℕ) → length S ≤ levels + n → nested_trees S levels n ≡ nested_trees S (length S) n
  enough_levels levels n le =
      let is : levels + length S ≡ length S + levels = omega arith in
      sym (more (length S) levels n le) ∙ ap (λ (j : ℕ). nested_trees S j n) is ∙ more levels (length S) n (omega arith)

  module _ (files : List Source) (are : AreEntries S files (walks S) (declarations files)) where
    -- the entry at the place of a number
    name_there : (j m : ℕ) → slice_get (walks S) j ≡ Some m → map_option (λ x. x.name) (slice_get (declarations files) j) ≡ map_option (λ d. d.name.0) (slice_get S m)
    name_there j m there = by (slice_get (declarations files) j) refl where
      past : {X Y : Type 0} (xs : List X) (ys : List Y) (j : ℕ) (x : X) → length xs ≡ length ys → slice_get xs j ≡ Some x → slice_get ys j ≡ None → ⊥
      past [] ys j x l e f = cc
      past (x ∷ xs) [] j z l e f = cc
      past (x ∷ xs) (y ∷ ys) zero z l e f = cc
      past (x ∷ xs) (y ∷ ys) (suc j) z l e f = let n : length xs ≡ length ys = omega arith in past xs ys j z n e f

      by : (o : Option Entry) → slice_get (declarations files) j ≡ o → map_option (λ x. x.name) o ≡ map_option (λ d. d.name.0) (slice_get S m)
      by None e = absurd (past (walks S) (declarations files) j m are.count there e)
      by (Some f) e =
          let r = are.each j f e in
          let one : Some r.0 ≡ Some m = sym r.1 ∙ there in
          let is : r.0 ≡ m = cc in
          ap Some r.2.named ∙ sym (ap (map_option (λ (d : Decl). d.name.0)) (sym (ap (λ (k : ℕ). slice_get S k) is) ∙ r.2.at))

    around_is : (o p : Option ℕ) → IsOuterOf (walks S) o p → name_at (λ x. x.name) (declarations files) o ≡ name_at (λ d. d.name.0) S p
    around_is None None h = refl
    around_is None (Some m) h = absurd h
    around_is (Some j) None h = absurd h
    around_is (Some j) (Some m) h = name_there j m h

    pub declaration : (n : ℕ) (e : Entry) → IsEntry S files (walks S) n e → IsDeclaration S files n e
    declaration n e h = record {
      declared = h.declared;
      at = h.at;
      named = h.named;
      around = around_is e.outer h.declared.outer h.outer;
      written = h.written ∙ ap (λ t. decl_tree S h.declared t) (enough_levels h.levels n h.enough);
    }

    pub are_declared : AreDeclared S files
    are_declared = record {
      count = sym are.count ∙ walks_length S H sorted;
      each = λ j e at. let r = are.each j e at in (r.0, declaration r.0 e r.2);
      whole = λ n d at. let r = number_is S H sorted A files are n d at in (r.0, r.3, r.4, declaration n r.3 r.5);
      apart = λ j k e f at there alike.
          let a = are.each j e at in let b = are.each k f there in
          let name : name_of a.2.declared ≡ name_of b.2.declared = ap dotted (sym a.2.named ∙ alike ∙ b.2.named) in
          let is : a.0 ≡ b.0 = A a.0 b.0 a.2.declared b.2.declared a.2.at b.2.at name in
          place_once S H sorted j k a.0 a.2.declared a.2.at a.1 (b.1 ∙ ap Some (sym is));
    }
