-- A breach by its place and its rule.
use Rattle.aidl_base.specs.declared.breach.Breach.{Breach}
use Rattle.aidl_names.specs.declared.order.Place.{Place}

abbrev pub breach_of : Place → Breach
breach_of p = record { rule = p.rule; file = p.file; offset = p.offset }
