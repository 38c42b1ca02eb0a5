-- The check rules of the names stage (own in number and wording), and their breaches as one list: sorted by file,
-- offset and rule, each once.
use Rattle.std.specs.Prelude.{ℕ, List, [], ◌∷◌}
use Rattle.std.specs.declared.cmp.Ordering.{Ordering}
use Rattle.std.specs.Ordering.{nat_cmp, ordering_then, match_ordering}
use Rattle.std.specs.List.{flat_map, fold}
use Rattle.aidl_base.specs.declared.breach.Breach.{Breach}
use Rattle.aidl_syntax.specs.Sources.{Source}
use Rattle.aidl_names.specs.Rules.{Rule, breaches_at}
use Rattle.aidl_names.specs.Rules.{WrongFile, Duplicate, UnknownImport, UnknownType, LeftOutType}

-- the rules by their numbers
abbrev pub rules : List (ℕ × Rule)
rules =
    -- The file's path isn't the canonical name with `/` for `.` and `.aidl`.
    (1, WrongFile)
    -- A member or argument has the name of an earlier one; a declaration has the canonical name of an earlier one, or
    -- the name of a built-in type, the list word or a left-out name; an import differs from an earlier one with the
    -- same last part.
    ∷ (2, Duplicate)
    -- An import is no declared canonical name.
    ∷ (3, UnknownImport)
    -- A type's name, or its element's, resolves to nothing.
    ∷ (4, UnknownType)
    -- A type's name, or its element's, is a left-out name or an interface.
    ∷ (5, LeftOutType)
    ∷ []

-- the order of two breaches: by file, then by offset, then by rule
abbrev pub order : Breach → Breach → Ordering
order a b = ordering_then (nat_cmp a.file b.file) (ordering_then (nat_cmp a.offset b.offset) (nat_cmp a.rule b.rule))

-- a sorted list with a breach at its place, once
abbrev pub put : List Breach → Breach → List Breach
put [] b = b ∷ []
put (c ∷ more) b = match_ordering (order b c) (b ∷ c ∷ more) (c ∷ more) (c ∷ put more b)

-- breaches in order, each once
abbrev pub in_order : List Breach → List Breach
in_order bs = fold put [] bs

abbrev pub breaches : List Source → List Breach
breaches files = in_order (flat_map (λ r. breaches_at r.0 (r.1 files)) rules)
