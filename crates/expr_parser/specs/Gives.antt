-- What a function returned, seen by a view, is what reading gives, unless memory ran out.
use Rattle.std.specs.Prelude.{◌≡◌, Option, Some, None, Result, Ok, Err}
use Rattle.expr_parser.specs.declared.fault.ParseFault.{ParseFault}
use Rattle.expr_parser.specs.declared.fault.ParseFault.TheVariants as fault

abbrev pub Fails : {Y : Type 0} → ParseFault → Option Y → Type 0
Fails (fault.Limit limit) read = ⊥
Fails fault.Syntax read = read ≡ None
Fails fault.OutOfMemory read = Unit {0}

abbrev pub Gives : {X Y : Type 0} → (X → Y) → Result X ParseFault → Option Y → Type 0
Gives view (Ok x) read = read ≡ Some (view x)
Gives view (Err e) read = Fails e read
