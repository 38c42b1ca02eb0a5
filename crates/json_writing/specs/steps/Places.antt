-- Where the fields of a record stand, in the order of their names.
use Rattle.std.specs.Prelude.{◌≡◌, ◌<◌, ℕ, List, [], ◌∷◌, length}
use Rattle.std.specs.Borrow.{Bor}
use Rattle.serde_json.specs.Data.{Data, Members, no_members, member}
use Rattle.aidl_schema.specs.declared.schema.Field.{Field}
use Rattle.json_writing.specs.steps.Members.{members_from}

abbrev pub Placed : Type 0
Placed = Bor (List ℕ) × ℕ

-- the members in this order, where each part is written so
abbrev pub members_at : (ℕ → Data) → List Placed → Members
members_at part [] = no_members
members_at part (e ∷ es) = member e.0.now (part e.1) (members_at part es)

-- each place is one of so many
abbrev pub LieWithin : ℕ → List Placed → Type 0
LieWithin count [] = Unit {0}
LieWithin count (e ∷ es) = (e.1 < count) × LieWithin count es

-- The names are those of the fields, in order, whatever the parts are written as.
abbrev pub ArePlaced : List Field → List Placed → Type 0
ArePlaced fs es = ((part : ℕ → Data) → members_at part es ≡ members_from part 0 fs) × LieWithin (length fs) es
