-- The trees of a dump: of each of its files, in order, the path and a tree that but for its offsets is that of the
-- file's declaration (own). `law_dump_tree` says that the files' tokens stand for such trees.
use Rattle.std.specs.Prelude.{◌≡◌, ℕ, List, [], ◌∷◌}
use Rattle.std.specs.Str.{encode_utf8_all}
use Rattle.aidl_syntax.specs.Sources.{Source}
use Rattle.aidl_schema.specs.declared.schema.Decl.{Decl}
use Rattle.api_dump.specs.Dump.{File, file_of}
use Rattle.dump_reading.specs.Bare.{bare_file}
use Rattle.dump_reading.specs.DumpTrees.{file_tree}
use Rattle.dump_reading.specs.Reading.{IsTop}

abbrev pub IsSourceOf : List Decl → File → Source → Type 0
IsSourceOf S f s = (encode_utf8_all s.path ≡ f.0) × (x : ℕ × Decl) × IsTop S x × (f ≡ file_of S x)
    × (bare_file s.tree ≡ file_tree S x)

abbrev pub AreSources : List Decl → List File → List Source → Type 0
AreSources S [] [] = Unit {0}
AreSources S [] (s ∷ ss) = ⊥
AreSources S (f ∷ fs) [] = ⊥
AreSources S (f ∷ fs) (s ∷ ss) = IsSourceOf S f s × AreSources S fs ss
