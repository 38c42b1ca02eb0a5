-- The declarations with a number around them are those nested in the body of the declaration that has it, in their order.
use Rattle.std.proofs.Common.{◌≡◌, ◌+◌, ℕ, Bool, true, false, if◌then◌else◌, ◌==◌, List, [], ◌∷◌, ◌++◌, map, filter, length, Option, Some, None, slice_get, refl, sym, ap, ◌∙◌, subst, arith, append_assoc, append-nil}
use Rattle.std.proofs.lemmas.Bool.Decides.{nat_tests}
use Rattle.std.proofs.lemmas.List.{map-append}
use Rattle.std.proofs.lemmas.List.Elements.{filter-append}
use Rattle.aidl_base.specs.declared.name.Ident.{Ident}
use Rattle.aidl_schema.specs.Names.{is_inside}
use Rattle.aidl_schema.proofs.lemmas.Places.{both_empty}
use Rattle.aidl_syntax.specs.Trees.{Decl, Body, Members, Enumerator}
use Rattle.aidl_syntax.specs.Trees.Decl.{decl}
use Rattle.aidl_syntax.specs.Trees.Body.{parcelable, union, enum, interface}
use Rattle.aidl_syntax.specs.Trees.Members.{none, field as with_field, constant as with_constant, method as with_method, nested as with_nested}
use Rattle.aidl_syntax.specs.Members.{Member, members, listed, body}
use Rattle.aidl_syntax.specs.Members.Member.{field, constant, method, enumerator, nested}
use Rattle.declared_names.specs.Declarations.{Entry, name_inside, with_decl, with_body, with_members, with_file, with_files, declarations}
use Rattle.declared_names.specs.Names.{parts_of}
use Rattle.aidl_syntax.specs.Sources.{Source}
use Rattle.tree_schema.proofs.lemmas.walked.Lists.{there-last, elsewhere}
use Rattle.std.proofs.lemmas.Option.{slice_get_past}

-- the declarations among members
abbrev pub nested_of : List Member → List Decl
nested_of [] = []
nested_of (nested d ∷ ms) = d ∷ nested_of ms
nested_of (field f ∷ ms) = nested_of ms
nested_of (constant c ∷ ms) = nested_of ms
nested_of (method m ∷ ms) = nested_of ms
nested_of (enumerator e ∷ ms) = nested_of ms

-- the trees of the declarations with that number around them
abbrev pub children : ℕ → List Entry → List Decl
children k entries = map (λ e. e.tree) (filter (λ e. is_inside k e.outer) entries)

-- the declarations nested in a declaration
abbrev pub nested_by : Option Entry → List Decl
nested_by None = []
nested_by (Some e) = nested_of (members (body e.tree))

abbrev pub one_if : {X : Type 0} → Bool → List X → List X
one_if b xs = if b then xs else []

-- those found, and those that are still to come
abbrev AreNested : (ℕ → List Decl) → List Entry → Type 0
AreNested more entries = (k : ℕ) → children k entries ++ more k ≡ nested_by (slice_get entries k)

-- one more declaration
pushed : (k : ℕ) (before : List Entry) (e : Entry) → children k (before ++ e ∷ []) ≡ children k before ++ one_if (is_inside k e.outer) (e.tree ∷ [])
pushed k before e =
    ap (map (λ x. x.tree)) (filter-append (λ x. is_inside k x.outer) before (e ∷ []))
    ∙ map-append (λ (x : Entry). x.tree) (filter (λ x. is_inside k x.outer) before) (filter (λ x. is_inside k x.outer) (e ∷ []))
    ∙ ap (λ z. children k before ++ z) (by (is_inside k e.outer)) where
      by : (b : Bool) → map (λ (x : Entry). x.tree) (if b then e ∷ [] else []) ≡ one_if b (e.tree ∷ [])
      by true = refl
      by false = refl

-- a declaration is there, and then those of its body are to come
begun : (more : ℕ → List Decl) (before : List Entry) (e : Entry) → AreNested (λ k. one_if (is_inside k e.outer) (e.tree ∷ []) ++ more k) before
    → AreNested (λ k. one_if (length before == k) (nested_of (members (body e.tree))) ++ more k) (before ++ e ∷ [])
begun more before e h k = by (length before == k) refl where
  mine : List Decl
  mine = nested_of (members (body e.tree))

  none_there : (a x m n : List Decl) → a ++ (x ++ m) ≡ [] → (a ++ x) ++ (n ++ m) ≡ n
  none_there a x m n e =
      let one = both_empty a (x ++ m) e in
      let two = both_empty x m one.1 in
      ap (λ z. (z ++ x) ++ (n ++ m)) one.0 ∙ ap (λ z. z ++ (n ++ m)) two.0 ∙ ap (λ z. n ++ z) two.1 ∙ append-nil n

  by : (b : Bool) → (length before == k) ≡ b → children k (before ++ e ∷ []) ++ (one_if b mine ++ more k) ≡ nested_by (slice_get (before ++ e ∷ []) k)
  by true t =
      let is : length before ≡ k = grind (arith, nat_tests) in
      let past : slice_get before k ≡ None = subst (λ (j : ℕ). slice_get before j ≡ None) is (slice_get_past before (length before) (omega arith)) in
      let here : slice_get (before ++ e ∷ []) k ≡ Some e = subst (λ (j : ℕ). slice_get (before ++ e ∷ []) j ≡ Some e) is (there-last before e) in
      ap (λ z. z ++ (mine ++ more k)) (pushed k before e)
      ∙ none_there (children k before) (one_if (is_inside k e.outer) (e.tree ∷ [])) (more k) mine (h k ∙ ap nested_by past)
      ∙ ap nested_by (sym here)
  by false t =
      let not : length before ≡ k → ⊥ = λ is. (grind (arith, nat_tests)) in
      ap (λ z. z ++ more k) (pushed k before e) ∙ append_assoc (children k before) (one_if (is_inside k e.outer) (e.tree ∷ [])) (more k) ∙ h k
      ∙ ap nested_by (sym (elsewhere before e k not))

no_enumerator : (es : List Enumerator) → nested_of (map enumerator es) ≡ []
no_enumerator [] = refl
no_enumerator (e ∷ es) = no_enumerator es

-- nothing comes
ended : (more : ℕ → List Decl) (number : ℕ) (ds : List Decl) (before : List Entry) → ds ≡ [] → AreNested (λ k. one_if (number == k) ds ++ more k) before → AreNested more before
ended more number ds before empty h k = ap (λ z. children k before ++ z) (by (number == k)) ∙ h k where
  by : (b : Bool) → more k ≡ one_if b ds ++ more k
  by true = ap (λ z. z ++ more k) (sym empty)
  by false = refl

split_front : (b : Bool) (d : Decl) (ds more : List Decl) → one_if b (d ∷ ds) ++ more ≡ one_if b (d ∷ []) ++ (one_if b ds ++ more)
split_front true d ds more = refl
split_front false d ds more = refl

mutual
  nested_decl : (more : ℕ → List Decl) (file : ℕ) (outer : Option ℕ) (name : List Ident) (d : Decl) (before : List Entry)
      → AreNested (λ k. one_if (is_inside k outer) (d ∷ []) ++ more k) before → AreNested more (with_decl file outer name d before)
  nested_decl more file outer name (decl offset annots n b) before h =
      let e : Entry = record { name = name; file = file; outer = outer; tree = decl offset annots n b } in
      nested_body more file (length before) name b (before ++ e ∷ []) (begun more before e h)

  nested_body : (more : ℕ → List Decl) (file number : ℕ) (name : List Ident) (b : Body) (before : List Entry)
      → AreNested (λ k. one_if (number == k) (nested_of (members b)) ++ more k) before → AreNested more (with_body file number name b before)
  nested_body more file number name (parcelable ms) before h = nested_members more file number name ms before h
  nested_body more file number name (union ms) before h = nested_members more file number name ms before h
  nested_body more file number name (enum es) before h = ended more number (nested_of (map enumerator es)) before (no_enumerator es) h
  nested_body more file number name (interface oneway ms) before h = nested_members more file number name ms before h

  nested_members : (more : ℕ → List Decl) (file number : ℕ) (name : List Ident) (ms : Members) (before : List Entry)
      → AreNested (λ k. one_if (number == k) (nested_of (listed ms)) ++ more k) before → AreNested more (with_members file number name ms before)
  nested_members more file number name none before h = ended more number [] before refl h
  nested_members more file number name (with_field f ms) before h = nested_members more file number name ms before h
  nested_members more file number name (with_constant c ms) before h = nested_members more file number name ms before h
  nested_members more file number name (with_method m ms) before h = nested_members more file number name ms before h
  nested_members more file number name (with_nested d ms) before h =
      nested_members more file number name ms (with_decl file (Some number) (name_inside name d) d before)
      (nested_decl (λ k. one_if (number == k) (nested_of (listed ms)) ++ more k) file (Some number) (name_inside name d) d before
      (λ k. ap (λ z. children k before ++ z) (sym (split_front (number == k) d (nested_of (listed ms)) (more k))) ∙ h k))

nested_files : (file : ℕ) (files : List Source) (before : List Entry) → AreNested (λ k. []) before → AreNested (λ k. []) (with_files file files before)
nested_files file [] before h = h
nested_files file (s ∷ more) before h =
    nested_files (file + 1) more (with_file file s before) (nested_decl (λ k. []) file None (name_inside (parts_of s.tree.«package») s.tree.declared) s.tree.declared before h)

-- the declarations with a number around them are those nested in the declaration that has it
pub children-are : (files : List Source) (k : ℕ) (e : Entry) → slice_get (declarations files) k ≡ Some e → children k (declarations files) ≡ nested_of (members (body e.tree))
children-are files k e at = sym (append-nil (children k (declarations files))) ∙ nested_files 0 files [] (λ j. refl) k ∙ ap nested_by at
