-- The members of the trees that a dump stands for, and their names.
use Rattle.std.proofs.Common.{◌≡◌, ℕ, zero, suc, ◌+◌, Bool, true, false, cond, ◌&&◌, List, [], ◌∷◌, ◌++◌, map, Option, Some, None, slice_get, refl, sym, ap, ◌∙◌, append-nil}
use Rattle.std.specs.List.{filter, list_all, enumerate_from}
use Rattle.std.proofs.lemmas.Bool.{and_parts, and_from}
use Rattle.aidl_syntax.specs.Trees as tree
use Rattle.aidl_syntax.specs.Trees.Decl.{decl}
use Rattle.aidl_syntax.specs.Trees.Body.{enum, parcelable, union, interface}
use Rattle.aidl_syntax.specs.Trees.Members.{none, field as with_field, constant as with_constant, method as with_method, nested as with_nested}
use Rattle.aidl_syntax.specs.Members.{Member, listed, members, member_name}
use Rattle.aidl_syntax.specs.Members.Member.{field, constant, method, enumerator, nested}
use Rattle.aidl_schema.specs.declared.schema.Decl.{Decl}
use Rattle.aidl_schema.specs.declared.schema.Kind.{Kind}
use Rattle.aidl_schema.specs.declared.schema.Kind.TheVariants.{Interface, Parcelable, Union, Enum}
use Rattle.aidl_schema.specs.Names.{last_part, may_enclose, is_inside, nested_in, field_names, method_names, enumerator_names, constant_names, member_names}
use Rattle.api_dump.specs.Declarations.{inside}
use Rattle.dump_reading.specs.Bare.{bare_decl, bare_body, bare_members, bare_field, bare_constant, bare_method, bare_enumerator}
use Rattle.dump_reading.specs.DumpTrees.{each_before, constants_before, body_tree, decl_tree, decl_before, nested_trees, field_tree, constant_tree, method_tree, enumerator_tree}
use Rattle.dump_reading.proofs.filed.Numbers.{declared_at, filter_at}

-- Members without offsets.

abbrev pub bare_member : Member → Member
bare_member (field f) = field (bare_field f)
bare_member (constant c) = constant (bare_constant c)
bare_member (method m) = method (bare_method m)
bare_member (enumerator e) = enumerator (bare_enumerator e)
bare_member (nested d) = nested (bare_decl d)

listed_bare : (ms : tree.Members) → listed (bare_members ms) ≡ map bare_member (listed ms)
listed_bare none = refl
listed_bare (with_field f ms) = ap (λ xs. field (bare_field f) ∷ xs) (listed_bare ms)
listed_bare (with_constant c ms) = ap (λ xs. constant (bare_constant c) ∷ xs) (listed_bare ms)
listed_bare (with_method m ms) = ap (λ xs. method (bare_method m) ∷ xs) (listed_bare ms)
listed_bare (with_nested d ms) = ap (λ xs. nested (bare_decl d) ∷ xs) (listed_bare ms)

enumerators_bare : (es : List tree.Enumerator) → map enumerator (map bare_enumerator es) ≡ map bare_member (map enumerator es)
enumerators_bare [] = refl
enumerators_bare (e ∷ es) = ap (λ xs. enumerator (bare_enumerator e) ∷ xs) (enumerators_bare es)

pub members_bare : (b : tree.Body) → members (bare_body b) ≡ map bare_member (members b)
members_bare (parcelable ms) = listed_bare ms
members_bare (union ms) = listed_bare ms
members_bare (enum es) = enumerators_bare es
members_bare (interface oneway ms) = listed_bare ms

-- what speaks of no offset is the same of members and of their bare ones
pub map_bare : {X : Type 0} (f : Member → X) → ((m : Member) → f (bare_member m) ≡ f m) → (ms : List Member) → map f (map bare_member ms) ≡ map f ms
map_bare f h [] = refl
map_bare f h (m ∷ ms) = ap (λ x. x ∷ map f (map bare_member ms)) (h m) ∙ ap (λ xs. f m ∷ xs) (map_bare f h ms)

pub all_bare : (test : Member → Bool) → ((m : Member) → test (bare_member m) ≡ test m) → (ms : List Member) → list_all test (map bare_member ms) ≡ list_all test ms
all_bare test h [] = refl
all_bare test h (m ∷ ms) = ap (λ b. b && list_all test (map bare_member ms)) (h m) ∙ ap (λ b. test m && b) (all_bare test h ms)

-- Members in rows.

pub listed_before : {X : Type 0} (add : X → tree.Members → tree.Members) (one : X → Member) → ((x : X) (ms : tree.Members) → listed (add x ms) ≡ one x ∷ listed ms) → (xs : List X) (last : tree.Members)
    → listed (each_before add xs last) ≡ map one xs ++ listed last
listed_before add one h [] last = refl
listed_before add one h (x ∷ xs) last = h x (each_before add xs last) ∙ ap (λ ys. one x ∷ ys) (listed_before add one h xs last)

abbrev pub text_of : Member → List ℕ
text_of m = (member_name m).name.0

text_bare : (m : Member) → text_of (bare_member m) ≡ text_of m
text_bare (field f) = refl
text_bare (constant c) = refl
text_bare (method m) = refl
text_bare (enumerator e) = refl
text_bare (nested (decl o annots n b)) = refl

map_append : {X Y : Type 0} (f : X → Y) (xs ys : List X) → map f (xs ++ ys) ≡ map f xs ++ map f ys
map_append f [] ys = refl
map_append f (x ∷ xs) ys = ap (λ zs. f x ∷ zs) (map_append f xs ys)

pub map_twice : {X Y Z : Type 0} (f : Y → Z) (g : X → Y) (h : X → Z) → ((x : X) → f (g x) ≡ h x) → (xs : List X) → map f (map g xs) ≡ map h xs
map_twice f g h same [] = refl
map_twice f g h same (x ∷ xs) = ap (λ z. z ∷ map f (map g xs)) (same x) ∙ ap (λ zs. h x ∷ zs) (map_twice f g h same xs)

module _ (S : List Decl) where
  abbrev Rest : Decl → tree.Members → List Member
  Rest d last = map (λ c. constant (constant_tree S c)) d.constants ++ listed last

  listed_rest : (d : Decl) (last : tree.Members) → listed (constants_before S d last) ≡ Rest d last
  listed_rest d last = listed_before (λ c ms. with_constant (constant_tree S c) ms) (λ c. constant (constant_tree S c)) (λ c ms. refl) d.constants last

  -- fields, methods or enumerators
  abbrev pub Own : Kind → List Member
  Own (Interface ms) = map (λ m. method (method_tree S m)) ms
  Own (Parcelable fs) = map (λ f. field (field_tree S f)) fs
  Own (Union fs) = map (λ f. field (field_tree S f)) fs
  Own (Enum b es) = map (λ e. enumerator (enumerator_tree b e)) es

  -- the members of a body that is written: its own, constants, and what stands last; an enum has its own alone
  pub members_written : (d : Decl) (k : Kind) (last : tree.Members) → (may_enclose k ≡ false → (d.constants ≡ []) × (last ≡ none)) → members (body_tree S k (constants_before S d last)) ≡ Own k ++ Rest d last
  members_written d (Interface ms) last h = listed_before (λ m ms. with_method (method_tree S m) ms) (λ m. method (method_tree S m)) (λ m ms. refl) ms (constants_before S d last) ∙ ap (λ xs. map (λ m. method (method_tree S m)) ms ++ xs) (listed_rest d last)
  members_written d (Parcelable fs) last h = listed_before (λ f ms. with_field (field_tree S f) ms) (λ f. field (field_tree S f)) (λ f ms. refl) fs (constants_before S d last) ∙ ap (λ xs. map (λ f. field (field_tree S f)) fs ++ xs) (listed_rest d last)
  members_written d (Union fs) last h = listed_before (λ f ms. with_field (field_tree S f) ms) (λ f. field (field_tree S f)) (λ f ms. refl) fs (constants_before S d last) ∙ ap (λ xs. map (λ f. field (field_tree S f)) fs ++ xs) (listed_rest d last)
  members_written d (Enum b es) last h =
      let two = h refl in
      map_twice enumerator (λ e. enumerator_tree b e) (λ e. enumerator (enumerator_tree b e)) (λ e. refl) es
      ∙ sym (append-nil (map (λ e. enumerator (enumerator_tree b e)) es))
      ∙ ap (λ cs. map (λ e. enumerator (enumerator_tree b e)) es ++ (map (λ c. constant (constant_tree S c)) cs ++ [])) (sym two.0)
      ∙ ap (λ l. map (λ e. enumerator (enumerator_tree b e)) es ++ Rest d l) (sym two.1)

  -- Names.

  own_names : (k : Kind) (more : List (List ℕ)) → map text_of (Own k) ++ more ≡ field_names k ++ (method_names k ++ (enumerator_names k ++ more))
  own_names (Interface ms) more = ap (λ xs. xs ++ more) (map_twice text_of (λ m. method (method_tree S m)) (λ m. m.name.0) (λ m. refl) ms)
  own_names (Parcelable fs) more = ap (λ xs. xs ++ more) (map_twice text_of (λ f. field (field_tree S f)) (λ f. f.name.0) (λ f. refl) fs)
  own_names (Union fs) more = ap (λ xs. xs ++ more) (map_twice text_of (λ f. field (field_tree S f)) (λ f. f.name.0) (λ f. refl) fs)
  own_names (Enum b es) more = ap (λ xs. xs ++ more) (map_twice text_of (λ e. enumerator (enumerator_tree b e)) (λ e. e.name.0) (λ e. refl) es)

  abbrev Inner : ℕ → List ℕ → tree.Members
  Inner levels ms = each_before (λ m ms. decl_before S (slice_get S m) (nested_trees S levels m) ms) ms none

  inner_names : (levels : ℕ) (xs : List (ℕ × Decl)) → ((k : ℕ) (x : ℕ × Decl) → slice_get xs k ≡ Some x → slice_get S x.0 ≡ Some x.1) → map text_of (listed (Inner levels (map (λ x. x.0) xs))) ≡ map (λ x. last_part x.1.name.0) xs
  inner_names levels [] h = refl
  inner_names levels (x ∷ xs) h =
      ap (λ o. map text_of (listed (decl_before S o (nested_trees S levels x.0) (Inner levels (map (λ x. x.0) xs))))) (h zero x refl)
      ∙ ap (λ ys. last_part x.1.name.0 ∷ ys) (inner_names levels xs (λ k y e. h (suc k) y e))

  kept : (test : Decl → Bool) (i : ℕ) (xs : List Decl) → map (λ x. last_part x.1.name.0) (filter (λ x. test x.1) (enumerate_from i xs)) ≡ map (λ e. last_part e.name.0) (filter test xs)
  kept test i [] = refl
  kept test i (d ∷ ds) = by (test d) (kept test (i + 1) ds) where
    by : (b : Bool) → map (λ x. last_part x.1.name.0) (filter (λ x. test x.1) (enumerate_from (i + 1) ds)) ≡ map (λ e. last_part e.name.0) (filter test ds)
        → map (λ x. last_part x.1.name.0) (cond b ((i, d) ∷ filter (λ x. test x.1) (enumerate_from (i + 1) ds)) (filter (λ x. test x.1) (enumerate_from (i + 1) ds))) ≡ map (λ e. last_part e.name.0) (cond b (d ∷ filter test ds) (filter test ds))
    by true h = ap (λ xs. last_part d.name.0 ∷ xs) h
    by false h = h

  none_kept : (xs : List (ℕ × Decl)) → map (λ x. x.0) xs ≡ [] → map (λ x. last_part x.1.name.0) xs ≡ []
  none_kept [] e = refl
  none_kept (x ∷ xs) e = cc

  pub nested_names : (levels n : ℕ) → (levels ≡ zero → inside S n ≡ []) → map text_of (listed (nested_trees S levels n)) ≡ map (λ e. last_part e.name.0) (nested_in S n)
  nested_names zero n h = sym (none_kept (filter (λ x. is_inside n x.1.outer) (enumerate_from 0 S)) (h refl)) ∙ kept (λ e. is_inside n e.outer) 0 S
  nested_names (suc levels) n h =
      inner_names levels (filter (λ x. is_inside n x.1.outer) (enumerate_from 0 S)) (λ k x e. let r = filter_at (λ x. is_inside n x.1.outer) (enumerate_from 0 S) k x e in declared_at S r.0 x r.1)
      ∙ kept (λ e. is_inside n e.outer) 0 S

  pub names_written : (n : ℕ) (d : Decl) (last : tree.Members) → (may_enclose d.kind ≡ false → (d.constants ≡ []) × (last ≡ none)) → map text_of (listed last) ≡ map (λ e. last_part e.name.0) (nested_in S n)
      → (b : tree.Body) → bare_body b ≡ body_tree S d.kind (constants_before S d last) → map text_of (members b) ≡ member_names S n d
  names_written n d last h names b e =
      sym (map_bare text_of text_bare (members b)) ∙ ap (map text_of) (sym (members_bare b) ∙ ap members e ∙ members_written d d.kind last h)
      ∙ map_append text_of (Own d.kind) (Rest d last)
      ∙ ap (λ xs. map text_of (Own d.kind) ++ xs) (map_append text_of (map (λ c. constant (constant_tree S c)) d.constants) (listed last)
      ∙ ap (λ xs. xs ++ map text_of (listed last)) (map_twice text_of (λ c. constant (constant_tree S c)) (λ c. c.name.0) (λ c. refl) d.constants) ∙ ap (λ xs. constant_names d ++ xs) names)
      ∙ own_names d.kind (constant_names d ++ map (λ e. last_part e.name.0) (nested_in S n))

  -- Tests.

  all_append : (test : Member → Bool) (xs ys : List Member) → list_all test xs ≡ true → list_all test ys ≡ true → list_all test (xs ++ ys) ≡ true
  all_append test [] ys h k = k
  all_append test (x ∷ xs) ys h k = let two = and_parts (test x) (list_all test xs) h in and_from (test x) (list_all test (xs ++ ys)) two.0 (all_append test xs ys two.1 k)

  pub all_mapped : {X : Type 0} (test : Member → Bool) (g : X → Member) (xs : List X) → ((k : ℕ) (x : X) → slice_get xs k ≡ Some x → test (g x) ≡ true) → list_all test (map g xs) ≡ true
  all_mapped test g [] h = refl
  all_mapped test g (x ∷ xs) h = and_from (test (g x)) (list_all test (map g xs)) (h zero x refl) (all_mapped test g xs (λ k y e. h (suc k) y e))

  all_inner : (test : Member → Bool) → ((t : tree.Decl) → test (nested t) ≡ true) → (levels : ℕ) (ms : List ℕ) → list_all test (listed (Inner levels ms)) ≡ true
  all_inner test h levels [] = refl
  all_inner test h levels (m ∷ ms) = by (slice_get S m) (all_inner test h levels ms) where
    by : (o : Option Decl) → list_all test (listed (Inner levels ms)) ≡ true → list_all test (listed (decl_before S o (nested_trees S levels m) (Inner levels ms))) ≡ true
    by None rest = rest
    by (Some d) rest = and_from (test (nested (decl_tree S d (nested_trees S levels m)))) (list_all test (listed (Inner levels ms))) (h (decl_tree S d (nested_trees S levels m))) rest

  pub all_nested : (test : Member → Bool) → ((t : tree.Decl) → test (nested t) ≡ true) → (levels n : ℕ) → list_all test (listed (nested_trees S levels n)) ≡ true
  all_nested test h zero n = refl
  all_nested test h (suc levels) n = all_inner test h levels (inside S n)

  -- a test that members pass, with no word on offsets and nested declarations
  pub all_written : (test : Member → Bool) → ((m : Member) → test (bare_member m) ≡ test m) → (d : Decl) (last : tree.Members) → (may_enclose d.kind ≡ false → (d.constants ≡ []) × (last ≡ none))
      → list_all test (Own d.kind) ≡ true → list_all test (map (λ c. constant (constant_tree S c)) d.constants) ≡ true → list_all test (listed last) ≡ true
      → (b : tree.Body) → bare_body b ≡ body_tree S d.kind (constants_before S d last) → list_all test (members b) ≡ true
  all_written test h d last bare own constants rest b e =
      sym (all_bare test h (members b)) ∙ ap (list_all test) (sym (members_bare b) ∙ ap members e ∙ members_written d d.kind last bare)
      ∙ all_append test (Own d.kind) (Rest d last) own (all_append test (map (λ c. constant (constant_tree S c)) d.constants) (listed last) constants rest)
