-- The lines of `--trace`: each parcel that was carried, before what its line comes to (own).
use Rattle.std.specs.Prelude.{ℕ, Bool, true, false, List, [], ◌++◌, codes}
use Rattle.std.specs.Fmt.{decimal}
use Rattle.std.specs.List.{flat_map}
use Rattle.aidl_outside.specs.declared.link.Carried.{Carried}
use Rattle.aidl_outside.specs.declared.link.Way.{Way}
use Rattle.aidl_outside.specs.declared.link.Way.TheVariants.{Request, Reply}
use Rattle.tool_frame.specs.Answer.{line}
use Rattle.tool_frame.specs.Shown.{shown}

abbrev pub way_text : Way → List ℕ
way_text Request = codes "request"
way_text Reply = codes "reply"

-- `request CODE SENT DELIVERED`
abbrev pub trace_line : Carried → List ℕ
trace_line entry = line (way_text entry.way ++ codes " " ++ decimal entry.code ++ codes " " ++ shown entry.sent
    ++ codes " " ++ shown entry.delivered)

-- where it is asked for
abbrev pub trace_text : Bool → List Carried → List ℕ
trace_text true entries = flat_map trace_line entries
trace_text false entries = []
