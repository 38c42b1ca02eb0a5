-- What a value that fits is written as reads as the value (`law_json_reads_back`), for any value and in proofs above.
use Rattle.std.proofs.Common.{◌≡◌, List, Ok}
use Rattle.aidl_schema.specs.declared.schema.AidlType.{AidlType}
use Rattle.aidl_schema.specs.declared.schema.Decl.{Decl}
use Rattle.aidl_schema.specs.Holds.{AllHold}
use Rattle.aidl_values.specs.Data.{Data}
use Rattle.aidl_values.specs.Fits.{Fits}
use Rattle.json_values.specs.FromJson.{from_json_of}
pub use Rattle.json_writing.specs.Json.{json_of}
use Rattle.json_values.proofs.Back.{back}

pub reads_back : (S : List Decl) → AllHold S → (t : AidlType) (v : Data) → Fits S t v → from_json_of S 64 t (json_of S t v) ≡ Ok v
reads_back S hold t v fits = back S hold 64 t v fits.typed fits.deep
