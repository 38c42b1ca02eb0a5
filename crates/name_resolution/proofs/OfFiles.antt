-- What a name means in the file with a number.
use Rattle.std.proofs.Common.{◌≡◌, ◌<◌, ◌≤◌, ℕ, zero, suc, List, [], ◌∷◌, map, length, get_or, Option, Some, None, option_map, refl, sym, ◌∙◌, ap, arith}
use Rattle.std.specs.List.{slice_get}
use Rattle.std.proofs.lemmas.List.{length-map}
use Rattle.std.proofs.lemmas.Option.{slice_get_read, slice_get_past, slice_get-map}
use Rattle.aidl_base.specs.declared.name.Ident.{Ident}
use Rattle.aidl_syntax.specs.declared.tree.DottedTree.{DottedTree}
use Rattle.aidl_syntax.specs.declared.tree.ParsedFile.{ParsedFile}
use Rattle.name_resolution.specs.declared.meaning.Resolved.{Resolved}
use Rattle.declared_names.specs.Declarations.{Entry, declarations}
use Rattle.name_resolution.specs.Imports.{meant_through, meant_in}
use Rattle.name_resolution.specs.Resolution.{meaning_in_file, resolved}
use Rattle.aidl_syntax.specs.Sources.{Source, source_of}

module _ (files : List ParsedFile) (number scope : ℕ) (name : List Ident) where
  in_file : (o : Option ParsedFile) → slice_get files number ≡ o
      → elim (option_map source_of o) as (λ _. Option Resolved) [ None ↦ None | Some file ↦ meaning_in_file (declarations (map source_of files)) file scope name ] ≡ resolved (map source_of files) number scope name
  in_file o e =
      ap (λ (z : Option Source). elim z as (λ _. Option Resolved) [ None ↦ None | Some file ↦ meaning_in_file (declarations (map source_of files)) file scope name ])
      (sym (slice_get-map source_of files number ∙ ap (option_map source_of) e))

  -- in a file that is there
  pub in_some_file : (es : List Entry) (f : ParsedFile) (r : Option Resolved) → es ≡ declarations (map source_of files) → number < length files → f ≡ get_or files number f
      → r ≡ meaning_in_file es (source_of f) scope name → r ≡ resolved (map source_of files) number scope name
  in_some_file es f r all lt is e =
      e ∙ ap (λ (z : List Entry). meaning_in_file z (source_of f) scope name) all ∙ in_file (Some f) (slice_get_read files (length files) number f refl lt is)

  -- beyond the last
  pub in_no_file : length files ≤ number → None ≡ resolved (map source_of files) number scope name
  in_no_file le = in_file None (slice_get_past files number le)

-- the imports of a file, by what names mean through them
pub table_at : (files : List ParsedFile) (number : ℕ) (f : ParsedFile) (tables : List (List DottedTree)) (t : List DottedTree) → map meant_through tables ≡ map meant_in (map source_of files) → number < length files
    → f ≡ get_or files number f → t ≡ get_or tables number t → meant_through t ≡ meant_in (source_of f)
table_at files number f tables t e lt is at =
    ap meant_through at ∙ read tables number ∙ ap (λ (z : List (List Entry → List Ident → Option Resolved)). get_or z number (meant_through t)) e ∙ go files number lt is where
      read : (ts : List (List DottedTree)) (n : ℕ) → meant_through (get_or ts n t) ≡ get_or (map meant_through ts) n (meant_through t)
      read [] n = refl
      read (x ∷ ts) zero = refl
      read (x ∷ ts) (suc n) = read ts n

      go : (fs : List ParsedFile) (n : ℕ) → n < length fs → f ≡ get_or fs n f → get_or (map meant_in (map source_of fs)) n (meant_through t) ≡ meant_in (source_of f)
      go [] n l h = absurd (omega arith)
      go (g ∷ fs) zero l h = ap (λ (z : ParsedFile). meant_in (source_of z)) (sym h)
      go (g ∷ fs) (suc n) l h = go fs n (omega arith) h

-- there are as many of them as files
pub as_many : (files : List ParsedFile) (tables : List (List DottedTree)) → map meant_through tables ≡ map meant_in (map source_of files) → length tables ≡ length files
as_many files tables e =
    sym (length-map tables meant_through) ∙ ap (λ (z : List (List Entry → List Ident → Option Resolved)). length z) e ∙ length-map (map source_of files) meant_in ∙ length-map files source_of
