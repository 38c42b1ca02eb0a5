-- What was carried of a call, and what SERVER made of it. A is CLIENT's declarations and B SERVER's, c the call.
use Rattle.std.specs.Prelude.{◌≡◌, ℕ, ◌<◌, ◌≤◌, List, [], ◌∷◌, length, Option, Some, None, option_map, Result, Ok, Err}
use Rattle.aidl_base.specs.declared.profile.Profile.{Profile}
use Rattle.aidl_outside.specs.declared.link.Carried.{Carried}
use Rattle.aidl_outside.specs.Told.{Adds}
use Rattle.aidl_schema.specs.declared.schema.Decl.{Decl}
use Rattle.aidl_schema.specs.Find.{methods_at}
use Rattle.aidl_values.specs.View.{views}
use Rattle.call_runner.specs.declared.exchange.Exchange.{Exchange}
use Rattle.call_runner.specs.declared.line.RunFault.{RunFault}
use Rattle.call_runner.specs.declared.line.RunFault.TheVariants.{LinkFault, OutOfMemory}
use Rattle.call_runner.specs.Lines.{call_code, received, reply_entries, reply_sent, request_entry}
use Rattle.call_runner.specs.steps.Served.{saw_at, transport_of}
use Rattle.call_scripts.specs.Calls.{CallData, callee}
use Rattle.wire_model.specs.Requests.{ArgsFit, request}

-- a request of the call can be made
pub record CanBeSent (A : List Decl) (c : CallData) : Type 0 where
  pub there : c.method < length (methods_at A c.interface)
  pub args : ArgsFit (callee A c) c.args
  pub small : length (request (callee A c) c.args) ≤ 1048576

-- the carry of one parcel: its entry, or the log as it was
abbrev pub AddsOne : Option (List Carried) → Option (List Carried) → Result Carried RunFault → Type 0
AddsOne before now (Ok entry) = Adds before now (entry ∷ [])
AddsOne before now (Err fault) = now ≡ before

-- where there is one
abbrev pub listed : Option Carried → List Carried
listed None = []
listed (Some entry) = entry ∷ []

abbrev pub delivered_of : Option Carried → List ℕ
delivered_of None = []
delivered_of (Some entry) = entry.delivered

abbrev pub AddsListed : Option (List Carried) → Option (List Carried) → Result (Option Carried) RunFault → Type 0
AddsListed before now (Ok entry) = Adds before now (listed entry)
AddsListed before now (Err fault) = now ≡ before

-- the parcels in order
abbrev pub carried_of : Exchange → List Carried
carried_of x = x.request ∷ listed x.reply

pub record IsExchange (p : Profile) (A B : List Decl) (c : CallData) (x : Exchange) : Type 0 where
  pub request : x.request ≡ request_entry A c x.request.delivered
  pub transport : x.transport ≡ transport_of (received p A B c x.request.delivered)
  pub saw : option_map views x.saw ≡ saw_at (received p A B c x.request.delivered)
  pub reply : listed x.reply
      ≡ reply_entries (call_code A c) (reply_sent p A B c x.request.delivered) (delivered_of x.reply)

-- what is said where a call of the link failed
abbrev pub WhereLinkFailed : RunFault → Type 0 → Type 0
WhereLinkFailed LinkFault Said = Said
WhereLinkFailed OutOfMemory Said = Unit {0}

abbrev pub IfLinkFailed : {T : Type 0} → Result T RunFault → Type 0 → Type 0
IfLinkFailed (Ok x) Said = Unit {0}
IfLinkFailed (Err fault) Said = WhereLinkFailed fault Said
