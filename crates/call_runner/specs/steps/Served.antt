-- What SERVER answers a request that was delivered, by what it received. B is SERVER's declarations.
use Rattle.std.specs.Prelude.{◌≡◌, ℕ, ℤ, pos, List, Option, None, option_map, Result, Ok, Err, if◌then◌else◌}
use Rattle.std.specs.Ordering.{int_eq}
use Rattle.aidl_schema.specs.declared.schema.Decl.{Decl}
use Rattle.aidl_values.specs.Data.{Items}
use Rattle.aidl_values.specs.View.{views}
use Rattle.call_runner.specs.Lines.{LineData, oneway, transport, reply_at, saw_of}
use Rattle.call_scripts.specs.Calls.{TargetData}
use Rattle.stub_dispatch.specs.declared.answered.Answered.{Answered}
use Rattle.wire_model.specs.Receiver.{Received}

-- the transport status
abbrev pub transport_of : Result Received ℤ → ℤ
transport_of (Err status) = status
transport_of (Ok r) = pos 0

-- what the handler saw
abbrev pub saw_at : Result Received ℤ → Option Items
saw_at (Err status) = None
saw_at (Ok r) = saw_of r

-- the answer of a server
pub record IsServed (B : List Decl) (server : Option ℕ) (target : Option TargetData) (r : Result Received ℤ)
    (a : Answered) : Type 0 where
  pub transport : a.transport ≡ transport_of r
  pub saw : option_map views a.saw ≡ saw_at r
  pub reply : a.reply ≡ reply_at B server target r

-- what a call comes to where no reply was sent, by the transport status and what the handler saw
abbrev pub unreplied_line : ℤ → Option Items → LineData
unreplied_line status saw = if int_eq status (pos 0) then oneway saw else transport status
