-- The elements of a sequence, and the fields of a record, read one after the other.
use Rattle.std.specs.Prelude.{ℕ, ℤ, List, Result, Ok}
use Rattle.aidl_values.specs.Data.{Data, Items, rec, seq}
use Rattle.wire_model.specs.ReadOf.{Read, ◌>>=◌, each_at}

-- so many elements as a sequence; `read` reads one
abbrev pub row_at : (List ℕ → Read Data) → ℕ → List ℕ → Read Data
row_at read n b = each_at read n b >>= λ vs. Ok (seq vs.0, vs.1)

-- the values of fields as a record
abbrev pub as_record : Result Items ℤ → Result Data ℤ
as_record values = values >>= λ vs. Ok (rec vs)
