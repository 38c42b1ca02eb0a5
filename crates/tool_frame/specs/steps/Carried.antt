-- What is seen of a sink and a link alone, by what their traits tell.
use Rattle.aidl_outside.specs.declared.link.Link as link
use Rattle.aidl_outside.specs.declared.sink.Sink as sink
use Rattle.tool_frame.specs.Courses.{seen_alone}
use Rattle.tool_frame.specs.Seen.{Seen}

abbrev pub carried_of : {K L : Type 0} → sink.Ghosts K → link.Ghosts L → K → L → Seen
carried_of k l = seen_alone k.told k.fault_record l.log l.is_faithful l.fault_record
