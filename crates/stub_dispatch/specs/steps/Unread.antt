-- What is left of the bytes of a call.
use Rattle.std.specs.Prelude.{Bool, ℕ, List}
use Rattle.std.specs.Coded.{Coded, code_by, coded×, coded_bool, coded_list, coded_ℕ}
use Rattle.std.proofs.Common.{ap}
use Rattle.aidl_base.specs.declared.profile.Profile.{Profile}
use Rattle.parcel_words.specs.Place.{is_strict, strict_or_lenient, profile_back}

-- the bytes, and the profile by which they are read
pub record Unread : Type 0 where
  pub profile : Profile
  pub bytes : List ℕ

abbrev pub unread_code : Coded Unread
unread_code = code_by (Bool × List ℕ) (coded× coded_bool (coded_list coded_ℕ)) (λ u. (is_strict u.profile, u.bytes))
    (λ q. record { profile = strict_or_lenient q.0; bytes = q.1 })
    (λ u. ap (λ (p : Profile). record { profile = p; bytes = u.bytes }) (profile_back u.profile))
