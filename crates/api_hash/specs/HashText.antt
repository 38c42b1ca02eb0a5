-- *HashText*: the text of a `.hash` file (own). The second recipe ties a hash to the number of its version.
use Rattle.std.specs.Prelude.{◌≢◌, ℕ, List, [], ◌∷◌, ◌++◌, map, codes}
use Rattle.std.specs.List.{AllByRecursion, flat_map, fold}
use Rattle.std.specs.Str.{encode_utf8_all}
use Rattle.std.specs.Fmt.{decimal}
use Rattle.std.specs.Cmp.Lexicographic.{slice_cmp}
use Rattle.std.specs.Ordering.{nat_cmp, match_ordering}
use Rattle.hex.specs.Hex.{encode_lower}
use Rattle.sha1.specs.Sha1.{sha1}
use Rattle.aidl_base.specs.declared.source_file.SourceFile.{SourceFile}
use Rattle.api_hash.specs.declared.hashing.Recipe.{Recipe}
use Rattle.api_hash.specs.declared.hashing.Recipe.TheVariants.{One, Two}

-- the bytes of a file's path
abbrev pub path_of : SourceFile → List ℕ
path_of f = encode_utf8_all f.path

-- a file among files in byte order of their paths, in place of one with the same path
abbrev pub put : List SourceFile → SourceFile → List SourceFile
put [] f = f ∷ []
put (g ∷ gs) f = match_ordering (slice_cmp nat_cmp (path_of f) (path_of g)) (f ∷ g ∷ gs) (f ∷ gs) (g ∷ put gs f)

-- files in byte order of their paths
abbrev pub in_order : List SourceFile → List SourceFile
in_order files = fold put [] files

-- the 40 lower-case hexadecimal digits of the SHA-1 of bytes
abbrev pub digits : List ℕ → List ℕ
digits bytes = encode_lower (sha1 bytes)

-- the line of a file: its digits, two spaces, `./`, its path and a newline
abbrev pub line : SourceFile → List ℕ
line f = digits f.bytes ++ codes "  ./" ++ path_of f ++ codes "\n"

-- what is hashed behind the lines: nothing, or the version's number in decimal and a newline
abbrev pub ending : Recipe → List ℕ
ending One = []
ending (Two n) = decimal n ++ codes "\n"

-- the digits of the lines and the ending, and a newline
abbrev pub hash_text : List SourceFile → Recipe → List ℕ
hash_text files r = digits (flat_map line (in_order files) ++ ending r) ++ codes "\n"

-- each path differs from those after it
abbrev pub HaveOwnPaths : List SourceFile → Type 0
HaveOwnPaths [] = Unit {0}
HaveOwnPaths (f ∷ fs) = AllByRecursion (λ p. path_of f ≢ p) (map path_of fs) × HaveOwnPaths fs
