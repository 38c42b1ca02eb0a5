-- Files that were written below a folder are the ones that were to be written.
use Rattle.std.proofs.Common.{◌≡◌, ℕ, List, [], ◌∷◌, map, refl, sym, ap, ◌∙◌}
use Rattle.std.proofs.lemmas.List.{append_cancel_left}
use Rattle.aidl_base.specs.declared.source_file.SourceFile.{SourceFile}
use Rattle.aidl_schema.specs.declared.schema.Decl.{Decl}
use Rattle.api_dump.specs.Dump.{File, dump_text}
use Rattle.api_versions.specs.Writes.{Write}
use Rattle.dump_reading.specs.Files.{AreDumped, file_pair}
use Rattle.version_commands.specs.Dumped.{dump_writes, file_write}

-- one write below a folder is of one file
same_file : (out : List ℕ) (f g : File) → file_write out f ≡ file_write out g → f ≡ g
same_file out (p, a) (q, b) e =
    let behind : 47 ∷ p ≡ 47 ∷ q = append_cancel_left out (47 ∷ p) (47 ∷ q) (ap (λ (w : Write). w.path) e) in
    let bytes : a ≡ b = ap (λ (w : Write). w.bytes) e in cc

same_files : (out : List ℕ) (fs gs : List File) → map (file_write out) fs ≡ map (file_write out) gs → fs ≡ gs
same_files out [] [] e = refl
same_files out [] (g ∷ gs) e = cc
same_files out (f ∷ fs) [] e = cc
same_files out (f ∷ fs) (g ∷ gs) e =
    let first : file_write out f ≡ file_write out g = cc in
    let others : map (file_write out) fs ≡ map (file_write out) gs = cc in
    let one = same_file out f g first in
    let rest = same_files out fs gs others in cc

pairs : (out : List ℕ) (files : List SourceFile) → map (λ f. file_write out (file_pair f)) files ≡ map (file_write out) (map file_pair files)
pairs out [] = refl
pairs out (f ∷ files) = ap (λ ws. file_write out (file_pair f) ∷ ws) (pairs out files)

-- what is written below a folder are the files of the dump
pub are_dumped : (out : List ℕ) (S : List Decl) (writes : List Write) (files : List SourceFile) → writes ≡ dump_writes out S
    → map (λ f. file_write out (file_pair f)) files ≡ writes → AreDumped S files
are_dumped out S writes files due e = same_files out (map file_pair files) (dump_text S) (sym (pairs out files) ∙ e ∙ due)
