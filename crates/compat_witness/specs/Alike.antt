-- A value that is sent to the methods that reach a declaration: what its two sides are doesn't depend on the method
-- (own). A is the client's declarations, B the server's, k the number of the declaration in A.
use Rattle.std.specs.Prelude.{ℕ, ◌≤◌, List, length}
use Rattle.aidl_schema.specs.declared.schema.Decl.{Decl}
use Rattle.aidl_schema.specs.Unbroken.{Has}
use Rattle.aidl_values.specs.Data.{Data, none, item}
use Rattle.compat_witness.specs.Candidates.{Candidate, request, Counts, Differs, ValuesFit, bytes_of, old_client}
use Rattle.compat_witness.specs.Reaching.{methods_reaching}

-- the request of a method with one value
abbrev pub asking : ℕ × ℕ → Data → Candidate
asking r x = request old_client r.0 r.1 (item x none)

-- a candidate has at most 1,048,576 bytes, if its values fit
abbrev pub IsShort : List Decl → List Decl → Candidate → Type 0
IsShort old new c = ValuesFit old new c → length (bytes_of old new c) ≤ 1048576

-- Where the request of one method counts and differs, that of another does, unless it is too long.
abbrev pub AreAlike : List Decl → List Decl → Type 0
AreAlike A B = (k : ℕ) → (r s : ℕ × ℕ) → Has (methods_reaching A k B) r → Has (methods_reaching A k B) s
    → (x : Data) → IsShort A B (asking r x) → Counts A B (asking s x) → Differs A B (asking s x)
    → Counts A B (asking r x) × Differs A B (asking r x)
