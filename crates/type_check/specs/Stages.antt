-- The three stages of the check rules, each with all its breaches: sorted by file, offset and rule, each once (own).
use Rattle.std.specs.Prelude.{◌≡◌, ◌≢◌, ◌++◌, List, []}
use Rattle.aidl_base.specs.declared.breach.Breach.{Breach}
use Rattle.aidl_names.specs.Breaches as names
use Rattle.aidl_names.specs.Breaches.{in_order}
use Rattle.aidl_syntax.specs.Sources.{Source}
use Rattle.aidl_schema.specs.declared.schema.Decl.{Decl}
use Rattle.const_eval.specs.declared.outcome.Outcome.{Outcome}
use Rattle.const_eval.specs.Breaches as constants
use Rattle.const_items.specs.Items.{items}
use Rattle.const_eval.specs.Outcomes.{AreOutcomes, outcome_at}
use Rattle.tree_schema.specs.SchemaOf.{schema_of}
use Rattle.type_rules.specs.Breaches.{unsorted}
use Rattle.type_check.specs.Bounds.{HoldsItself, DefaultTooLarge}

-- E1 to E5
abbrev pub names_broken : List Source → List Breach
names_broken files = names.breaches files

-- E6 to E12, by the outcomes of the items
unfoldable pub constants_broken : List Source → List Outcome → List Breach
constants_broken files outcomes = constants.breaches (outcome_at outcomes) (items files)

-- the schema that the trees and the outcomes of their items give
unfoldable pub schema_by : List Source → List Outcome → List Decl
schema_by files outcomes = schema_of files (outcome_at outcomes)

-- E13 to E24, by the schema of the trees
unfoldable pub types_broken : List Source → List Decl → List Breach
types_broken files S = in_order (unsorted files ++ (HoldsItself files S ++ DefaultTooLarge files S))

-- These are the breaches of the first stage that has one.
pub data AreBreaches (files : List Source) (rows : List Breach) : Type 0 where
  of_names : rows ≡ names_broken files → rows ≢ [] → AreBreaches files rows
  of_constants : names_broken files ≡ [] → (outcomes : List Outcome) → AreOutcomes files outcomes
      → rows ≡ constants_broken files outcomes → rows ≢ [] → AreBreaches files rows
  of_types : names_broken files ≡ [] → (outcomes : List Outcome) → AreOutcomes files outcomes
      → constants_broken files outcomes ≡ []
      → rows ≡ types_broken files (schema_by files outcomes) → rows ≢ [] → AreBreaches files rows
