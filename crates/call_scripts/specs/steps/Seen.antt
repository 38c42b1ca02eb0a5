-- What the code's numbers of a name stand for.
use Rattle.call_scripts.specs.declared.names.Named as code
use Rattle.call_scripts.specs.Names.{Named}

abbrev pub named_data : code.Named → Named
named_data n = record { interface = n.interface; method = n.method; server = n.server; target = n.target }
