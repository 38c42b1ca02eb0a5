-- Why tokens are refused.
use Rattle.std.specs.Prelude.{◌≡◌, List, Some, None}
use Rattle.aidl_syntax.specs.declared.token.Token.{Token}
use Rattle.aidl_syntax.specs.Trees.{File}
use Rattle.aidl_syntax.specs.Productions.{IsFile}
use Rattle.expr_parser.specs.declared.fault.ParseFault.{ParseFault}
use Rattle.expr_parser.specs.declared.fault.ParseFault.TheVariants as fault
use Rattle.aidl_parser.specs.Limits.{passed}

-- why the tokens are refused: a limit that they pass, or that no tree stands for them while they pass none
abbrev pub IsRefusal : List Token → ParseFault → Type 0
IsRefusal ts (fault.Limit l) = passed ts ≡ Some l.which
IsRefusal ts fault.Syntax = (passed ts ≡ None) × ((tree : File) → IsFile ts tree → ⊥)
IsRefusal ts fault.OutOfMemory = Unit {0}
