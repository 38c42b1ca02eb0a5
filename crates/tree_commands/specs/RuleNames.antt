-- The printed names of the check rules, by their numbers (own).
use Rattle.std.specs.Prelude.{ℕ, ◌==◌, nat_le, if◌then◌else◌, List, codes}

-- E1 to E5, the rules on names
abbrev pub name_of_names : ℕ → List ℕ
name_of_names rule =
    if rule == 1 then codes "WrongFile" else if rule == 2 then codes "Duplicate"
    else if rule == 3 then codes "UnknownImport"
    else if rule == 4 then codes "UnknownType" else codes "LeftOutType"

-- E6 to E12, the rules on constants
abbrev pub name_of_constants : ℕ → List ℕ
name_of_constants rule =
    if rule == 6 then codes "Overflow" else if rule == 7 then codes "DivideByZero"
    else if rule == 8 then codes "BadShift"
    else if rule == 9 then codes "Mismatch" else if rule == 10 then codes "Cycle"
    else if rule == 11 then codes "UnknownName" else codes "DoesNotFit"

-- E13 to E24, the rules on types
abbrev pub name_of_types : ℕ → List ℕ
name_of_types rule =
    if rule == 13 then codes "BadAnnotation" else if rule == 14 then codes "BadNullable"
    else if rule == 15 then codes "BadBacking"
    else if rule == 16 then codes "BadShape" else if rule == 17 then codes "BadDirection"
    else if rule == 18 then codes "BadOneway"
    else if rule == 19 then codes "BadId" else if rule == 20 then codes "BadConstant"
    else if rule == 21 then codes "BadField"
    else if rule == 22 then codes "HoldsItself" else if rule == 23 then codes "DefaultTooLarge" else codes "NotFixed"

-- the name of a rule, by its number from 1 to 24
abbrev pub rule_name : ℕ → List ℕ
rule_name rule = if nat_le rule 5 then name_of_names rule else if nat_le rule 12 then name_of_constants rule
    else name_of_types rule
