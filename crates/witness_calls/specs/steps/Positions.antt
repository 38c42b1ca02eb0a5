-- What stands at one position of two methods, where one may have nothing there.
use Rattle.std.specs.Prelude.{if◌then◌else◌, List, Option, Some, None}
use Rattle.aidl_schema.specs.declared.schema.Arg.{Arg}
use Rattle.aidl_schema.specs.declared.schema.Decl.{Decl}
use Rattle.aidl_schema.specs.Methods.{is_in_way}
use Rattle.aidl_values.specs.Data.{Data, Items}
use Rattle.wire_model.specs.Receiver.{zero_in}
use Rattle.compat_witness.specs.Sides.{projected_argument, projected_out, others_of}

-- what the server's method sees of an argument: the default where the client has no argument there, or no value is sent
abbrev pub argument_seen : List Decl → Option Arg → List Decl → Arg → Option Data → Option Data
argument_seen A None B b v = Some (zero_in B b.ty)
argument_seen A (Some a) B b None = Some (zero_in B b.ty)
argument_seen A (Some a) B b (Some v) = projected_argument A a B b v

-- what the client's method has of an out: the default where the server has no argument there, or it doesn't come back
abbrev pub out_seen : List Decl → Option Arg → List Decl → Arg → Option Data → Option Data
out_seen B None A a v = Some (zero_in A a.ty)
out_seen B (Some b) A a v = if is_in_way b.way then Some (zero_in A a.ty) else projected_out B b A a v

-- the values that are left of those that came back
abbrev pub left_after : Option Arg → Items → Items
left_after None vs = vs
left_after (Some b) vs = if is_in_way b.way then vs else others_of vs
