-- What is counted of the lines of a calls file that were run (own).
use Rattle.std.specs.Prelude.{ℕ, ◌+◌, List, length}
use Rattle.std.specs.List.{sum_by}
use Rattle.aidl_outside.specs.declared.link.Carried.{Carried}
use Rattle.call_runner.specs.Lines.{LineData, refused, transport, oneway, done}

-- The lines; those whose call came to its end, oneway or not; those whose request the server refused; those that
-- are no call; and the bytes that were sent in requests and replies.
pub record Counts : Type 0 where
  pub lines : ℕ
  pub done : ℕ
  pub transport : ℕ
  pub refused : ℕ
  pub sent : ℕ

-- no line yet
abbrev pub nothing : Counts
nothing = record { lines = 0; done = 0; transport = 0; refused = 0; sent = 0 }

-- 1 of a line whose call came to its end, and else 0
abbrev pub done_in : LineData → ℕ
done_in (refused why) = 0
done_in (transport status) = 0
done_in (oneway saw) = 1
done_in (done saw client) = 1

-- of one whose request the server refused
abbrev pub transport_in : LineData → ℕ
transport_in (refused why) = 0
transport_in (transport status) = 1
transport_in (oneway saw) = 0
transport_in (done saw client) = 0

-- of one that is no call
abbrev pub refused_in : LineData → ℕ
refused_in (refused why) = 1
refused_in (transport status) = 0
refused_in (oneway saw) = 0
refused_in (done saw client) = 0

-- the bytes that were sent in parcels, whatever was delivered of them
abbrev pub sent_in : List Carried → ℕ
sent_in carried = sum_by (λ entry. length entry.sent) carried

-- one line more, by what was carried of it and what it came to
abbrev pub counted : Counts → List Carried → LineData → Counts
counted c carried out = record {
  lines = c.lines + 1;
  done = c.done + done_in out;
  transport = c.transport + transport_in out;
  refused = c.refused + refused_in out;
  sent = c.sent + sent_in carried;
}
