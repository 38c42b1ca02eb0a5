-- What is read behind items.
use Rattle.std.specs.Prelude.{◌≡◌, ℕ, List, Result, Ok, Err}
use Rattle.aidl_base.specs.Results.{◌>>=◌}
use Rattle.aidl_values.specs.Data.{Items, none, item}
use Rattle.parcel_words.specs.Taken.{RefusesIfMemory}
use Rattle.parcel_words.specs.declared.fault.ReadFault.{ReadFault}
use Rattle.wire_model.specs.ReadOf.{Read}

-- items, and others behind them
abbrev pub joined : Items → Items → Items
joined none ws = ws
joined (item v vs) ws = item v (joined vs ws)

-- what was read before, and what is still read
abbrev pub after : Items → Read Items → Read Items
after front reading = reading >>= λ x. Ok (joined front x.0, x.1)

-- The items read before with those read now, and the bytes that are left, are what the reading gives, or the
-- refusal is.
abbrev pub Continues : {A : Type 0} → Items → Items → Result A ReadFault → Read Items → List ℕ → Type 0
Continues old new (Ok x) reading rest = after old reading ≡ Ok (new, rest)
Continues old new (Err fault) reading rest = RefusesIfMemory fault reading
