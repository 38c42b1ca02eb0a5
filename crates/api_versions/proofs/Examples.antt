-- Which version some paths belong to.
use Rattle.std.proofs.Common.{◌≡◌, Some, None, refl}
use Rattle.std.specs.Prelude.{codes}
use Rattle.api_versions.specs.Places.{place_of}

in_twelve : place_of (codes "12/a/B.aidl") ≡ Some (record { number = 12; path = codes "a/B.aidl" })
in_twelve = refl

leading_zero : place_of (codes "01/B.aidl") ≡ None
leading_zero = refl

whole_path : place_of (codes "2") ≡ None
whole_path = refl

other_folder : place_of (codes "current/B.aidl") ≡ None
other_folder = refl

no_number : place_of (codes "0/B.aidl") ≡ None
no_number = refl
