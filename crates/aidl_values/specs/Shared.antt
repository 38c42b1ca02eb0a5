-- What is kept of a record that leaves fields out.
use Rattle.std.specs.Prelude.{List}
use Rattle.std.specs.Rc.{rc_value}
use Rattle.aidl_values.specs.declared.value.Value.{Value}
use Rattle.aidl_values.specs.declared.value.ShortFields.{ShortFields, out-ShortFields}

-- the values that were given
abbrev pub given_of : ShortFields → List Value
given_of s = (out-ShortFields s).given

-- the defaults of all fields
abbrev pub defaults_of : ShortFields → List Value
defaults_of s = rc_value (out-ShortFields s).defaults
