-- What a call returned, seen as a list of tokens or as a fault's number and offset, unless memory ran out.
use Rattle.std.specs.Prelude.{◌≡◌, ℕ, List, Result, Ok, Err}
use Rattle.std.specs.declared.vec.Vec.{Vec}
use Rattle.std.specs.declared.alloc.Global.{Global}
use Rattle.aidl_syntax.specs.declared.token.Token.{Token}
use Rattle.aidl_syntax.specs.Faults as faults
use Rattle.aidl_lexer.specs.declared.fault.LexFault.{LexFault}
use Rattle.aidl_lexer.specs.declared.fault.LexFault.TheVariants as fault

abbrev pub IsFault : LexFault → Result (List Token) (ℕ × ℕ) → Type 0
IsFault (fault.BadByte offset) r = r ≡ Err (1, offset)
IsFault (fault.OpenComment offset) r = r ≡ Err (2, offset)
IsFault (fault.OpenLiteral offset) r = r ≡ Err (3, offset)
IsFault (fault.BadNumber offset) r = r ≡ Err (4, offset)
IsFault fault.OutOfMemory r = Unit {0}

abbrev pub Gives : Result (Vec Token Global) LexFault → Result (List Token) (ℕ × ℕ) → Type 0
Gives (Ok tokens) r = r ≡ Ok tokens.items
Gives (Err e) r = IsFault e r

-- the fault is that of the bytes, at its offset
abbrev pub HasFault : List ℕ → LexFault → Type 0
HasFault bytes (fault.BadByte offset) = faults.LexFault bytes 1 offset
HasFault bytes (fault.OpenComment offset) = faults.LexFault bytes 2 offset
HasFault bytes (fault.OpenLiteral offset) = faults.LexFault bytes 3 offset
HasFault bytes (fault.BadNumber offset) = faults.LexFault bytes 4 offset
HasFault bytes fault.OutOfMemory = Unit {0}
