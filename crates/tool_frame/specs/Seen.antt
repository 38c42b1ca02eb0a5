-- What is seen of the outside at one moment: what the store, the sink and the link tell, and their faults.
use Rattle.std.specs.Prelude.{ℕ, Bool, List, Option}
use Rattle.aidl_outside.specs.declared.link.Carried.{Carried}
use Rattle.aidl_outside.specs.Faults.{LinkFaults, SinkFaults, StoreFaults}
use Rattle.aidl_outside.specs.Files.{Files}
use Rattle.aidl_outside.specs.declared.store.Store as store

pub record Seen : Type 0 where
  pub kept : Option Files
  pub store_faults : StoreFaults
  pub told : Option (List ℕ)
  pub sink_faults : SinkFaults
  pub log : Option (List Carried)
  pub is_faithful : Bool
  pub link_faults : LinkFaults

-- of a store, a sink and a link, by what each tells
abbrev pub seen_by : {S K L : Type 0} → (S → Option Files) → (S → StoreFaults) → (K → Option (List ℕ))
    → (K → SinkFaults) → (L → Option (List Carried)) → (L → Bool) → (L → LinkFaults) → S → K → L → Seen
seen_by kept store_faults told sink_faults log is_faithful link_faults store sink link = record {
  kept = kept store;
  store_faults = store_faults store;
  told = told sink;
  sink_faults = sink_faults sink;
  log = log link;
  is_faithful = is_faithful link;
  link_faults = link_faults link;
}

-- of a store alone
pub record StoreSeen : Type 0 where
  pub kept : Option Files
  pub faults : StoreFaults

abbrev pub store_seen : {S : Type 0} → store.Ghosts S → S → StoreSeen
store_seen s store = record { kept = s.kept store; faults = s.fault_record store }
