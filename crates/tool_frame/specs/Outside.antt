-- What is seen of a store, a sink and a link at one moment, by what their traits tell.
use Rattle.std.specs.Prelude.{Bool, List, Option}
use Rattle.aidl_outside.specs.declared.link.Carried.{Carried}
use Rattle.aidl_outside.specs.declared.link.Link as link
use Rattle.aidl_outside.specs.declared.sink.Sink as sink
use Rattle.aidl_outside.specs.declared.store.Store as store
use Rattle.aidl_outside.specs.Faults.{LinkFaults}
use Rattle.tool_frame.specs.Seen.{Seen, seen_by}

abbrev pub seen_of : {S K L : Type 0} → store.Ghosts S → sink.Ghosts K → link.Ghosts L → S → K → L → Seen
seen_of s k l = seen_by s.kept s.fault_record k.told k.fault_record l.log l.is_faithful l.fault_record

-- of a link alone
pub record LinkSeen : Type 0 where
  pub log : Option (List Carried)
  pub is_faithful : Bool
  pub faults : LinkFaults

abbrev pub link_seen : {L : Type 0} → link.Ghosts L → L → LinkSeen
link_seen l link = record { log = l.log link; is_faithful = l.is_faithful link; faults = l.fault_record link }

-- of a store and a sink, beside whatever is seen of a link
abbrev pub seen_beside : {S K : Type 0} → store.Ghosts S → sink.Ghosts K → S → K → LinkSeen → Seen
seen_beside s k store sink others = record {
  kept = s.kept store;
  store_faults = s.fault_record store;
  told = k.told sink;
  sink_faults = k.fault_record sink;
  log = others.log;
  is_faithful = others.is_faithful;
  link_faults = others.faults;
}

-- of a sink, beside whatever is seen of the rest
abbrev pub sink_beside : {K : Type 0} → sink.Ghosts K → K → Seen → Seen
sink_beside k sink others = record others { told = k.told sink; sink_faults = k.fault_record sink }
