-- Collecting values one after the other, up to the first that isn't there.
use Rattle.std.specs.Prelude.{◌≡◌, Bool, if◌then◌else◌, List, [], ◌∷◌, map, Option, None, option_map}
use Rattle.aidl_values.specs.Data.{Data, Items, item}
use Rattle.aidl_values.specs.View.{view}
use Rattle.aidl_values.specs.declared.value.Value.{Value}

-- data, and then more
abbrev pub onto : List Data → Items → Items
onto [] vs = vs
onto (d ∷ ds) vs = item d (onto ds vs)

-- the values so far, and then what is still to come
abbrev pub with_seen : List Value → Option Items → Option Items
with_seen vs others = option_map (onto (map view vs)) others

-- A step puts what `front` sets before all that follows, or it stops, as `front` is then None.
abbrev pub Puts : List Value → List Value → Bool → (Option Items → Option Items) → Type 0
Puts old new going front = (others : Option Items)
    → with_seen old (front others) ≡ (if going then with_seen new others else None)
