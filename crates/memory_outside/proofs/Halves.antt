-- What a failing put adds is a front of the bytes.
use Rattle.std.proofs.Common.{◌≡◌, ◌++◌, ℕ, ◌/◌, List, length, take, drop, Some, sym, ap}
use Rattle.std.proofs.lemmas.List.{take-append-drop}
use Rattle.memory_outside.specs.Failing.{half_of}
use Rattle.aidl_outside.specs.Told.{AddsFront}

pub front_added : (before now piece : List ℕ) → now ≡ before ++ half_of piece → AddsFront (Some before) (Some now) piece
front_added before now piece e = let n = length piece / 2 in (take n piece, drop n piece, sym (take-append-drop n piece), ap Some e)
