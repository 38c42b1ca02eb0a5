-- No file of a dump breaks E1, and none has an import.
use Rattle.std.proofs.Common.{◌≡◌, ℕ, ◌+◌, true, false, not, if◌then◌else◌, List, [], ◌∷◌, ◌++◌, map, codes, Option, Some, None, refl, sym, ap, ◌∙◌, append-nil, append_assoc}
use Rattle.std.proofs.Common.{nat_eq, eq-eqb}
use Rattle.std.proofs.lemmas.Bool.{and_from}
use Rattle.std.specs.List.{flat_map, filter}
use Rattle.std.specs.Str.{bytes_eq, encode_utf8_all}
use Rattle.aidl_base.specs.declared.name.Ident.{Ident}
use Rattle.aidl_syntax.specs.declared.tree.DottedTree.{DottedTree}
use Rattle.aidl_syntax.specs.Trees as tree
use Rattle.aidl_syntax.specs.Trees.{map_option}
use Rattle.aidl_syntax.specs.Trees.Decl.{decl}
use Rattle.aidl_syntax.specs.Members.{declared_name}
use Rattle.declared_names.specs.Names.{text, parts_of}
use Rattle.std.proofs.Common.{is_none}
use Rattle.name_resolution.specs.Resolution.{number_of}
use Rattle.aidl_syntax.specs.Sources.{Source}
use Rattle.declared_names.specs.Declarations.{declarations}
use Rattle.aidl_names.specs.Rules as rules
use Rattle.aidl_names.specs.Rules.{wrong_file, is_wrong_file, WrongFile, unknown_imports, UnknownImport, other_imports}
use Rattle.declared_names.specs.Numbered.{after_earlier, in_each}
use Rattle.aidl_schema.specs.declared.schema.Decl.{Decl}
use Rattle.aidl_schema.specs.Holds.{AllHold}
use Rattle.aidl_schema.specs.Names.{last_part, without_last}
use Rattle.api_dump.specs.Pieces.{ident}
use Rattle.api_dump.specs.Dump.{File, path_of, slashed, dump_text}
use Rattle.dump_reading.specs.Bare.{bare_dotted, bare_decl, bare_file}
use Rattle.dump_reading.specs.DumpTrees.{file_tree, package_tree}
use Rattle.dump_reading.specs.Dumped.{IsSourceOf, AreSources}
use Rattle.dump_reading.proofs.spelled.Values.{has_part, name_parts}

-- What a tree without offsets says of the tree.

parts_bare : (o : Option DottedTree) → parts_of (map_option bare_dotted o) ≡ parts_of o
parts_bare None = refl
parts_bare (Some d) = refl

package_parts : (is : List Ident) → parts_of (package_tree is) ≡ is
package_parts [] = refl
package_parts (i ∷ is) = refl

name_bare : (d : tree.Decl) → (declared_name (bare_decl d)).name ≡ (declared_name d).name
name_bare (decl o annots n body) = refl

none_bare : (ds : List DottedTree) → map bare_dotted ds ≡ [] → ds ≡ []
none_bare [] e = refl
none_bare (d ∷ ds) e = cc

module _ (S : List Decl) (x : ℕ × Decl) (t : tree.File) (e : bare_file t ≡ file_tree S x) where
  pub package_is : parts_of t.«package» ≡ without_last x.1.name.0
  package_is = sym (parts_bare t.«package») ∙ ap (λ f. parts_of f.«package») e ∙ package_parts (without_last x.1.name.0)

  pub name_is : (declared_name t.declared).name ≡ ident (last_part x.1.name.0)
  name_is = sym (name_bare t.declared) ∙ ap (λ f. (declared_name f.declared).name) e

  pub imports_are : t.imports ≡ []
  imports_are = none_bare t.imports (ap (λ f. f.imports) e)

-- Paths.

abbrev spot_of : ℕ → ℕ → rules.Spot
spot_of file offset = (file, offset)

pub bytes_same : (xs : List ℕ) → bytes_eq xs xs ≡ true
bytes_same [] = refl
bytes_same (x ∷ xs) = and_from (nat_eq x x) (bytes_eq xs xs) (eq-eqb x x refl) (bytes_same xs)

pub bytes_are : (xs ys : List ℕ) → xs ≡ ys → bytes_eq xs ys ≡ true
bytes_are xs ys e = ap (λ zs. bytes_eq xs zs) (sym e) ∙ bytes_same xs

abbrev fronts : List Ident → List ℕ
fronts is = flat_map (λ part. text part ++ codes "/") is

slashed_parts : (i : Ident) (is : List Ident) → slashed (i ∷ is) ≡ fronts (without_last (i ∷ is)) ++ text (ident (last_part (i ∷ is)))
slashed_parts i [] = append-nil (text i)
slashed_parts i (j ∷ is) =
    ap (λ t. text i ++ 47 ∷ t) (slashed_parts j is)
    ∙ sym (append_assoc (text i) (47 ∷ []) (fronts (without_last (j ∷ is)) ++ text (ident (last_part (j ∷ is)))))
    ∙ sym (append_assoc (text i ++ codes "/") (fronts (without_last (j ∷ is))) (text (ident (last_part (j ∷ is)))))

path_is : (is : List Ident) → has_part is ≡ true → path_of is ≡ rules.path_of (without_last is) (ident (last_part is))
path_is [] h = cc
path_is (i ∷ is) h = ap (λ t. t ++ codes ".aidl") (slashed_parts i is)

module _ (S : List Decl) (H : AllHold S) where
  right_file : (f : File) (s : Source) → IsSourceOf S f s → is_wrong_file s ≡ false
  right_file f s h =
      let x = h.1 in let e = h.4 in
      let path : encode_utf8_all s.path ≡ rules.path_of (parts_of s.tree.«package») (declared_name s.tree.declared).name =
      h.0 ∙ ap (λ g. g.0) h.3 ∙ path_is x.1.name.0 (name_parts x.1.name.0 (H x.0 x.1 h.2.0).name).0
      ∙ ap (λ is. rules.path_of is (ident (last_part x.1.name.0))) (sym (package_is S x s.tree e)) ∙ ap (λ i. rules.path_of (parts_of s.tree.«package») i) (sym (name_is S x s.tree e)) in
      ap not (bytes_are _ _ path)

  pub no_wrong_file : (n : ℕ) (fs : List File) (ss : List Source) → AreSources S fs ss → in_each wrong_file n ss ≡ []
  no_wrong_file n [] [] h = refl
  no_wrong_file n [] (s ∷ ss) h = absurd h
  no_wrong_file n (f ∷ fs) [] h = refl
  no_wrong_file n (f ∷ fs) (s ∷ ss) h = ap (λ t. (if t then spot_of n 0 ∷ [] else []) ++ in_each wrong_file (n + 1) ss) (right_file f s h.0) ∙ no_wrong_file (n + 1) fs ss h.1

  pub no_import : (find : ℕ → Source → List rules.Spot) → ((n : ℕ) (s : Source) → s.tree.imports ≡ [] → find n s ≡ []) → (n : ℕ) (fs : List File) (ss : List Source) → AreSources S fs ss → in_each find n ss ≡ []
  no_import find none n [] [] h = refl
  no_import find none n [] (s ∷ ss) h = absurd h
  no_import find none n (f ∷ fs) [] h = refl
  no_import find none n (f ∷ fs) (s ∷ ss) h =
      ap (λ bs. bs ++ in_each find (n + 1) ss) (none n s (imports_are S h.0.1 s.tree h.0.4)) ∙ no_import find none (n + 1) fs ss h.1

  -- E1, E3 and what E2 says of imports
  pub files_stand : (ss : List Source) → AreSources S (dump_text S) ss → (WrongFile ss ≡ []) × (UnknownImport ss ≡ []) × (in_each other_imports 0 ss ≡ [])
  files_stand ss h = (
    no_wrong_file 0 (dump_text S) ss h,
    no_import (unknown_imports (declarations ss)) (λ n s e. ap (λ is. map (λ i. spot_of n i.offset) (filter (λ i. is_none (number_of (declarations ss) i.name.0)) is)) e) 0 (dump_text S) ss h,
    no_import other_imports (λ n s e. ap (λ is. map (λ i. spot_of n i.offset) (after_earlier rules.is_other_import [] is)) e) 0 (dump_text S) ss h,
  )
