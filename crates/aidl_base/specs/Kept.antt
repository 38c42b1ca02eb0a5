-- The UTF-8 of a text, wherever it is kept.
use Rattle.std.specs.Prelude.{ℕ, List, string_bytes}
use Rattle.aidl_base.specs.declared.kept.Kept.{Kept}
use Rattle.aidl_base.specs.declared.kept.Kept.TheVariants.{Short, Long}

abbrev pub bytes_of : Kept → List ℕ
bytes_of (Short short) = short.bytes
bytes_of (Long long) = string_bytes long
