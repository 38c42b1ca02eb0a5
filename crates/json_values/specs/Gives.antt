-- How what the code answers stands to the definition.
use Rattle.std.specs.Prelude.{Option, Some, None}
use Rattle.std.specs.Str.{encode_utf8_all}
use Rattle.json_values.specs.declared.fault.JsonFault.{JsonFault}
use Rattle.json_values.specs.declared.fault.JsonFault.TheVariants as fault
use Rattle.json_values.specs.Refusal.{wrong_shape, out_of_range, unknown_key, unknown_enumerator, too_deep, Refusal}

-- the refusal that a fault reports, its place in UTF-8; None is a want of memory
abbrev pub refusal_of : JsonFault → Option Refusal
refusal_of (fault.WrongShape at) = Some (record { reason = wrong_shape; at = encode_utf8_all at })
refusal_of (fault.OutOfRange at) = Some (record { reason = out_of_range; at = encode_utf8_all at })
refusal_of (fault.UnknownKey at) = Some (record { reason = unknown_key; at = encode_utf8_all at })
refusal_of (fault.UnknownEnumerator at) = Some (record { reason = unknown_enumerator; at = encode_utf8_all at })
refusal_of (fault.TooDeep at) = Some (record { reason = too_deep; at = encode_utf8_all at })
refusal_of fault.OutOfMemory = None
