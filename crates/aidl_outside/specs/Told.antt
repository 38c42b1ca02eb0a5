-- What is said of an object that tells what it holds, and what a put adds to a sink (own).
use Rattle.std.specs.Prelude.{◌≡◌, ℕ, List, [], ◌++◌, Option, Some, None, Result, Ok, Err}
use Rattle.aidl_outside.specs.declared.sink.SinkFault.{SinkFault}
use Rattle.aidl_outside.specs.declared.sink.SinkFault.TheVariants.{Failed, OutOfMemory}

-- the fact holds of what is told; nothing is said where nothing is told
abbrev pub Tells : {T : Type 0} → Option T → (T → Type 0) → Type 0
Tells None P = Unit {0}
Tells (Some told) P = P told

-- these items were added at the end of what is told; an object that tells nothing goes on so
abbrev pub Adds : {T : Type 0} → Option (List T) → Option (List T) → List T → Type 0
Adds None now items = now ≡ None
Adds (Some before) now items = now ≡ Some (before ++ items)

-- some front of the items was added
abbrev pub AddsFront : {T : Type 0} → Option (List T) → Option (List T) → List T → Type 0
AddsFront {T} before now items = (front rest : List T) × (items ≡ front ++ rest) × Adds before now front

-- of a put: all the bytes, on `Failed` a front of them, on `OutOfMemory` none
abbrev pub Puts : {T : Type 0} → Option (List ℕ) → Option (List ℕ) → List ℕ → Result T SinkFault → Type 0
Puts before now bytes (Ok x) = Adds before now bytes
Puts before now bytes (Err Failed) = AddsFront before now bytes
Puts before now bytes (Err OutOfMemory) = Adds before now []
