-- What a tree without breaches gives: rules 3 to 8 of a valid schema, each from what is asked of the tree.
use Rattle.std.proofs.Common.{IsTrue, ◌≡◌, ◌<◌, ℕ, true, List, Some, length, slice_get}
use Rattle.aidl_schema.specs.Methods.{has_types, has_methods}
use Rattle.aidl_schema.specs.Valid.{has_constants, has_initializers, has_enums, has_bounds, is_bounded}
use Rattle.aidl_syntax.specs.Members.{body}
use Rattle.declared_names.specs.Declarations.{Entry, declarations}
use Rattle.aidl_names.specs.Refusals.{IsAccepted}
use Rattle.aidl_syntax.specs.Sources.{Source}
use Rattle.const_items.specs.Items.{of_entry}
use Rattle.type_rules.specs.Unbroken.{AreUnbroken}
use Rattle.tree_schema.specs.SchemaOf.{schema_of}
use Rattle.tree_schema.specs.Values.{Outcomes}
use Rattle.tree_schema.proofs.walked.Outers.{are_named}
use Rattle.tree_schema.proofs.lemmas.walked.Placed.{Each}
use Rattle.tree_schema.proofs.typed.Schema.{types-hold}
use Rattle.tree_schema.proofs.typed.Methods.{methods-hold}
use Rattle.tree_schema.proofs.typed.Bounds.{bounds-hold}
use Rattle.tree_schema.proofs.valued.Enums.{has_enumerator, enums-hold}
use Rattle.tree_schema.proofs.valued.Constants.{constants-hold}
use Rattle.tree_schema.proofs.valued.Initials.{initializers-hold}
use Rattle.tree_schema.proofs.lemmas.settled.Items.{none-unjudged}
use Rattle.tree_schema.proofs.lemmas.settled.Places.{HasPlacesOnce, items-stand}
use Rattle.tree_schema.proofs.lemmas.settled.Settled.{AreOutcomes, AreFaultless, AreSettled, Stands, settled}
use Rattle.tree_schema.proofs.settled.Walks.{are_plain, items-plain}

-- each enum has an enumerator
abbrev pub AreFilled : List Source → Type 0
AreFilled files = (k : ℕ) (e : Entry) → slice_get (declarations files) k ≡ Some e → has_enumerator (body e.tree) ≡ true

-- No breach of E1 to E5, and of E13 to E21 and E24; the names are identifiers.
module _ (files : List Source) (outcomes : Outcomes) (named : are_named files ≡ true) (accepted : IsAccepted files) (fine : AreUnbroken files) where
  -- Rule 3.
  pub checked-types : IsTrue (has_types (schema_of files outcomes))
  checked-types = types-hold files outcomes named accepted.1 fine

  -- Rule 4.
  pub checked-methods : IsTrue (has_methods (schema_of files outcomes))
  checked-methods = methods-hold files outcomes named accepted.1 fine accepted.0

  -- Rule 8, where no declaration breaks E22 or E23.
  pub checked-bounds : ((n : ℕ) → n < length (schema_of files outcomes) → is_bounded (schema_of files outcomes) n ≡ true) → IsTrue (has_bounds (schema_of files outcomes))
  checked-bounds bounded = bounds-hold files outcomes named accepted.1 fine bounded

  -- Each item has its outcome and none is a fault; the literals are plain, and no place comes twice in a file.
  module _ (are : AreOutcomes files outcomes) (faultless : AreFaultless files outcomes) (plain : are_plain files ≡ true) (once : Each HasPlacesOnce files) where
    all : AreSettled files outcomes
    all = settled files outcomes (none-unjudged files accepted.1 fine) (items-plain files plain) are faultless

    stands : (k : ℕ) (e : Entry) → slice_get (declarations files) k ≡ Some e → Each (Stands files) (of_entry files k e)
    stands = items-stand files once

    -- Rule 5.
    pub checked-constants : IsTrue (has_constants (schema_of files outcomes))
    checked-constants = constants-hold files outcomes all accepted.1 fine stands

    -- Rule 6.
    pub checked-initializers : IsTrue (has_initializers (schema_of files outcomes))
    checked-initializers = initializers-hold files outcomes named accepted.1 are all fine stands

    -- Rule 7, where each enum has an enumerator.
    pub checked-enums : AreFilled files → IsTrue (has_enums (schema_of files outcomes))
    checked-enums filled = enums-hold files outcomes all stands filled
