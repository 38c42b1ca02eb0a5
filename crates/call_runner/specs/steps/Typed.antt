-- The types of a line's values, as data.
use Rattle.std.specs.Prelude.{◌≡◌, ℕ, ◌<◌, List, length, Option, Some, None}
use Rattle.aidl_schema.specs.declared.schema.Decl.{Decl}
use Rattle.aidl_schema.specs.Find.{methods_at}
use Rattle.aidl_values.specs.Data.{Items}
use Rattle.call_runner.specs.declared.line.Methods.{Methods}
use Rattle.call_runner.specs.Lines.{LineData, refused, transport, oneway, done}
use Rattle.call_runner.specs.Runs.{IsGotBy}
use Rattle.wire_model.specs.MethodOf.{method_of}
use Rattle.wire_model.specs.Receiver.{Received, left, called}
use Rattle.wire_model.specs.Typed.{AreArguments}

-- the method that is received
abbrev pub method_in : Received → ℕ
method_in (left m) = m
method_in (called m saw) = m

abbrev pub SeenBy : List Decl → Methods → Option Items → Type 0
SeenBy B m None = Unit {0}
SeenBy B m (Some saw) = AreArguments (method_of B m.server m.called) saw

-- the same as of a line
abbrev pub IsTypedLine : List Decl → List Decl → Option Methods → LineData → Type 0
IsTypedLine A B methods (refused why) = Unit {0}
IsTypedLine A B methods (transport status) = Unit {0}
IsTypedLine A B methods (oneway saw) = (m : Methods) × (methods ≡ Some m)
    × (m.called < length (methods_at B m.server)) × SeenBy B m saw
IsTypedLine A B methods (done saw got) = (m : Methods) × (methods ≡ Some m)
    × (m.called < length (methods_at B m.server)) × SeenBy B m saw × IsGotBy A m got
