-- The dump of a schema is a list of files: each path is that of a text.
use Rattle.std.proofs.Common.{◌≡◌, ℕ, List, [], ◌∷◌, ◌++◌, map, refl, ap, ◌∙◌, subst, sym, lit<}
use Rattle.std.specs.Prelude.{codes}
use Rattle.std.specs.List.{flat_map}
use Rattle.std.specs.Str.{encode_utf8_all}
use lib.Utf8.{encode}
use Rattle.std.proofs.lemmas.Str.{encode_ascii, encodes-append}
use Rattle.aidl_base.specs.declared.name.Ident.{Ident}
use Rattle.aidl_base.specs.declared.source_file.SourceFile.{SourceFile}
use Rattle.aidl_schema.specs.declared.schema.Decl.{Decl}
use Rattle.api_dump.specs.Dump.{File, dump_text, file_of, path_of, slashed}
use Rattle.dump_reading.specs.Files.{AreDumped, file_pair}
use Rattle.dump_reading.proofs.filed.Files.{All, IsFileOf, all_files}

-- the bytes are those of a text
abbrev IsText : List ℕ → Type 0
IsText bytes = (text : List ℕ) × (encode_utf8_all text ≡ bytes)

behind : (is : List Ident) → IsText (flat_map (λ (j : Ident). 47 ∷ encode_utf8_all j.0) is)
behind [] = ([], refl)
behind (j ∷ is) =
    let rest = behind is in (
      47 ∷ (j.0 ++ rest.0),
      ap (λ slash. slash ++ encode_utf8_all (j.0 ++ rest.0)) (encode_ascii 47 (lit< tt)) ∙ ap (λ bytes. 47 ∷ bytes) (encodes-append j.0 rest.0 ∙ ap (λ bytes. encode_utf8_all j.0 ++ bytes) rest.1),
    )

parts : (is : List Ident) → IsText (slashed is)
parts [] = ([], refl)
parts (i ∷ is) = let rest = behind is in (i.0 ++ rest.0, encodes-append i.0 rest.0 ∙ ap (λ bytes. encode_utf8_all i.0 ++ bytes) rest.1)

ending : encode_utf8_all (codes ".aidl") ≡ codes ".aidl"
unfolding encode
ending = refl

path_text : (is : List Ident) → IsText (path_of is)
path_text is =
    let front = parts is in
    (front.0 ++ codes ".aidl", encodes-append front.0 (codes ".aidl") ∙ ap (λ bytes. bytes ++ encode_utf8_all (codes ".aidl")) front.1 ∙ ap (λ bytes. slashed is ++ bytes) ending)

module _ (S : List Decl) where
  file_text : (g : File) → IsFileOf S g → IsText g.0
  file_text g (x, top, is) = let text = path_text x.1.name.0 in (text.0, text.1 ∙ sym (ap (λ (f : File). f.0) is))

  sources : (gs : List File) → All (IsFileOf S) gs → (files : List SourceFile) × (map file_pair files ≡ gs)
  sources [] all = ([], refl)
  sources (g ∷ gs) all =
      let text = file_text g all.0 in
      let rest = sources gs all.1 in
      (record { path = text.0; bytes = g.1 } ∷ rest.0, ap (λ (path : List ℕ). (path, g.1) ∷ map file_pair rest.0) text.1 ∙ ap (λ fs. g ∷ fs) rest.1)

  -- files with the paths and bytes of the dump
  pub written : (files : List SourceFile) × AreDumped S files
  written = sources (dump_text S) (all_files S)
