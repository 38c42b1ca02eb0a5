-- The refusals of bytes and of types, each a step of the answers (own).
use Rattle.std.specs.Prelude.{ℕ, List, ◌++◌, Option, Some, None, Result, Ok, Err, codes}
use Rattle.aidl_base.specs.declared.limit.LimitName.TheVariants.{ParcelBytes}
use Rattle.aidl_base.specs.Results.{◌>>=◌}
use Rattle.aidl_schema.specs.declared.schema.Decl.{Decl}
use Rattle.aidl_schema.specs.declared.schema.AidlType.{AidlType}
use Rattle.tool_words.specs.Entries.{entries_of}
use Rattle.tool_frame.specs.Answer.{Found, negative}
use Rattle.tool_frame.specs.Refusals.{within}
use Rattle.parcel_commands.specs.HexadecimalFile.{hexadecimal}
use Rattle.parcel_commands.specs.Types.{types_of}

-- the bytes of a hexadecimal text; else `not hexadecimal`
abbrev pub bytes_found : Option (List ℕ) → Found (List ℕ)
bytes_found None = Err (negative (codes "not hexadecimal"))
bytes_found (Some bytes) = Ok bytes

abbrev pub bytes_of : List ℕ → Found (List ℕ)
bytes_of text = bytes_found (hexadecimal text)

-- the types that the entries of TYPES name; else `bad type ENTRY` of the first that names none
abbrev pub types_found : Result (List AidlType) (List ℕ) → Found (List AidlType)
types_found (Ok types) = Ok types
types_found (Err entry) = Err (negative (codes "bad type " ++ entry))

abbrev pub known_types : List Decl → List ℕ → Found (List AidlType)
known_types S types = types_found (types_of S (entries_of types))

-- the bytes that the text of a file stands for, where neither is too long
abbrev pub parcel_of : Found (List ℕ) → Found (List ℕ)
parcel_of file = do
  text ← file  -- `limit text-bytes`
  bytes ← bytes_of text  -- `not hexadecimal`
  within ParcelBytes bytes  -- `limit parcel-bytes`
