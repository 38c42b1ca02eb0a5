-- Why a walk through folders ends: each folder that it has still to read was counted.
use Rattle.std.specs.Prelude.{◌+◌, ◌≤◌, vec_len}
use Rattle.host_outside.specs.declared.list_folder.Walk.{Walk}

-- no more folders came than were counted, and the count never fell
abbrev pub Grew : Walk → Walk → Type 0
Grew before now = record {
  counted : vec_len now.folders + before.entries ≤ vec_len before.folders + now.entries;
  never_fell : before.entries ≤ now.entries;
}
