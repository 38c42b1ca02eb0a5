-- The check rule on the ids of methods: the places in a declaration that break it.
use Rattle.std.specs.Prelude.{ℕ, Bool, false, not, ◌||◌, nat_eq, List, [], map, Option, Some, None}
use Rattle.std.specs.List.{list_any}
use Rattle.aidl_syntax.specs.declared.token.Token.{Token}
use Rattle.aidl_syntax.specs.Trees.{Method}
use Rattle.declared_names.specs.Numbered.{after_earlier}
use Rattle.type_uses.specs.TypeUses.{methods_in}
use Rattle.type_uses.specs.Ids.{number_of, is_id, has_id}
use Rattle.type_rules.specs.Filters.{Rule}

-- BadId; ids are compared by their values

abbrev pub has_value : ℕ → Option Token → Bool
has_value id None = false
has_value id (Some t) = nat_eq id (number_of t)

-- an earlier method has that id
abbrev pub is_taken : List Method → ℕ → Bool
is_taken before id = list_any (λ m. has_value id m.id) before

-- `some` says that a method of the interface has an id, and `taken` which ids earlier ones have
abbrev pub is_bad_token : Bool → (ℕ → Bool) → Option Token → Bool
is_bad_token some taken None = some
is_bad_token some taken (Some t) = not (is_id t) || taken (number_of t)

abbrev pub is_bad_id : Bool → List Method → Method → Bool
is_bad_id some before m = is_bad_token some (is_taken before) m.id

-- of the methods of an interface
abbrev pub bad_ids : List Method → List ℕ
bad_ids ms = map (λ m. m.name.offset) (after_earlier (is_bad_id (list_any has_id ms)) [] ms)

abbrev pub BadId : Rule
BadId entries e uses = bad_ids (methods_in uses)
