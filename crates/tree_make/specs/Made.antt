-- Two trees and calls between them (own): for each number below n two files of a newer tree, two of an older one,
-- and two calls.
use Rattle.std.specs.Prelude.{ℕ, ◌==◌, if◌then◌else◌, List, [], ◌∷◌, ◌++◌, map, codes}
use Rattle.std.specs.Fmt.{decimal}
use Rattle.std.specs.List.{flat_map, fold, range_with_len}
use Rattle.std.specs.Str.{encode_utf8_all}
use Rattle.std.specs.Cmp.Lexicographic.{slice_cmp}
use Rattle.std.specs.Ordering.{match_ordering, nat_cmp}
use Rattle.aidl_base.specs.declared.source_file.SourceFile.{SourceFile}
use Rattle.tree_make.specs.declared.texts.Part.{Part}
use Rattle.tree_make.specs.declared.texts.Part.TheVariants.{OldRecord, OldInterface, NewRecord, NewInterface}

-- the path of a file in UTF-8, and its bytes
pub record File : Type 0 where
  pub path : List ℕ
  pub bytes : List ℕ

abbrev pub file_seen : SourceFile → File
file_seen f = record { path = encode_utf8_all f.path; bytes = f.bytes }

-- a text with a number in decimal in place of each `#`
abbrev pub filled : List ℕ → ℕ → List ℕ
filled [] k = []
filled (c ∷ text) k = if c == 35 then decimal k ++ filled text k else c ∷ filled text k

-- the files of each number: where they stand, and their texts, each with its newline
abbrev pub path_of : Part → List ℕ
path_of OldRecord = codes "m/R#.aidl"
path_of OldInterface = codes "m/I#.aidl"
path_of NewRecord = codes "m/R#.aidl"
path_of NewInterface = codes "m/I#.aidl"

abbrev pub text_of : Part → List ℕ
text_of OldRecord = codes "package m; parcelable R# { int a = #; String s = \"x\"; }\n"
text_of OldInterface = codes "package m; interface I# { int put(in R# r); }\n"
text_of NewRecord = codes "package m; parcelable R# { int a = #; String s = \"x\"; long c = #; @nullable R#[] kids; }\n"
text_of NewInterface = codes "package m; interface I# { int put(in R# r); R# get(); }\n"

abbrev pub file_of : Part → ℕ → File
file_of part k = record { path = filled (path_of part) k; bytes = filled (text_of part) k }

-- the calls of each number
abbrev pub put_call : List ℕ
put_call = codes "{\"call\":\"m.I#.put\",\"args\":[{\"a\":#}],\"answer\":{\"return\":#}}\n"

abbrev pub get_call : List ℕ
get_call = codes "{\"call\":\"m.I#.get\"}\n"

abbrev pub calls_of : ℕ → List ℕ
calls_of k = filled put_call k ++ filled get_call k

-- a number among others in byte order of their decimals, in place of one with the same decimal
abbrev pub put : List ℕ → ℕ → List ℕ
put [] k = k ∷ []
put (j ∷ js) k = match_ordering (slice_cmp nat_cmp (decimal k) (decimal j)) (k ∷ j ∷ js) (k ∷ js) (j ∷ put js k)

-- the numbers below n, in that order
abbrev pub in_order : ℕ → List ℕ
in_order n = fold put [] (range_with_len 0 n)

-- Files in byte order of their paths: all interfaces, and then all parcelables. A path goes on with `.` behind its
-- number, which comes before each digit, so the paths of either have the order of their decimals.
abbrev pub files_of : Part → Part → ℕ → List File
files_of interface record_part n = map (file_of interface) (in_order n) ++ map (file_of record_part) (in_order n)

abbrev pub old_files : ℕ → List File
old_files n = files_of OldInterface OldRecord n

abbrev pub new_files : ℕ → List File
new_files n = files_of NewInterface NewRecord n

-- two lines for each number in order
abbrev pub calls_text : ℕ → List ℕ
calls_text n = flat_map calls_of (range_with_len 0 n)
