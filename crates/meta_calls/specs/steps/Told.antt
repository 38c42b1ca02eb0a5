-- The answer to one of the two codes. S is a schema's declarations, i the number of an interface.
use Rattle.std.specs.Prelude.{ℕ, ℤ, pos, List, Some, None, Result, Ok, Err}
use Rattle.aidl_schema.specs.declared.schema.Decl.{Decl}
use Rattle.stub_dispatch.specs.declared.answered.Answered.{Answered}
use Rattle.wire_model.specs.MetaStub.{own_reply}

-- by the bytes after the token, or the status where there is none
abbrev pub told_answer : List Decl → ℕ → List ℕ → Result (List ℕ) ℤ → Answered
told_answer S i item (Err status) = record { transport = status; saw = None; reply = None }
told_answer S i item (Ok rest) = record { transport = pos 0; saw = None; reply = Some (own_reply S i item rest) }
