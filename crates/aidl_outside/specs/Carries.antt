-- What a carry does to the log that a link tells, and parcels that were delivered as they were sent (own).
use Rattle.std.specs.Prelude.{◌≡◌, ℕ, List, [], ◌∷◌, All, Option, Result, Ok, Err, Vec}
use Rattle.std.specs.declared.alloc.Global.{Global}
use Rattle.aidl_outside.specs.declared.link.Way.{Way}
use Rattle.aidl_outside.specs.declared.link.Carried.{Carried}
use Rattle.aidl_outside.specs.declared.link.CarryFault.{CarryFault}
use Rattle.aidl_outside.specs.Told.{Adds}

-- the entry of a parcel
abbrev pub entry : Way → ℕ → List ℕ → List ℕ → Carried
entry way code sent delivered = record { way = way; code = code; sent = sent; delivered = delivered }

-- each parcel was delivered as it was sent
abbrev pub AreFaithful : List Carried → Type 0
AreFaithful entries = All (λ (entry : Carried). entry.delivered ≡ entry.sent) entries

-- one entry with what was sent and delivered; on a fault the log is as it was
abbrev pub Carries : Option (List Carried) → Option (List Carried) → Way → ℕ → List ℕ
    → Result (Vec ℕ Global) CarryFault → Type 0
Carries before now way code sent (Ok delivered) = Adds before now (entry way code sent delivered.items ∷ [])
Carries before now way code sent (Err fault) = now ≡ before
