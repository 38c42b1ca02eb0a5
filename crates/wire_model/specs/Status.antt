-- The statuses of a refused reading and of a refused request (libutils, Errors.h), and the codes of exceptions
-- (libbinder, Status.h).
use Rattle.std.specs.Prelude.{◌≡◌, ◌⊎◌, ℕ, zero, suc, ℤ, pos, negsuc}
pub use Rattle.aidl_base.specs.Readings.{bad_value, not_enough, unexpected_null, past}

-- the number below zero of this size
abbrev pub minus : ℕ → ℤ
minus zero = pos zero
minus (suc n) = negsuc n

-- a status with which reading refuses
abbrev pub IsStatus : ℤ → Type 0
IsStatus s = (s ≡ bad_value) ⊎ ((s ≡ not_enough) ⊎ (s ≡ unexpected_null))

-- UNKNOWN_TRANSACTION: no method has the code
abbrev pub unknown_transaction : ℤ
unknown_transaction = minus 74

-- BAD_TYPE: a request doesn't begin with the token
abbrev pub bad_type : ℤ
bad_type = minus 2147483647

-- a status with which a request is refused
abbrev pub IsTransport : ℤ → Type 0
IsTransport s = (s ≡ unknown_transaction) ⊎ ((s ≡ bad_type) ⊎ IsStatus s)

-- EX_BAD_PARCELABLE
abbrev pub bad_parcelable : ℤ
bad_parcelable = minus 2

-- EX_SERVICE_SPECIFIC, a service's own exception, which alone has an error word
abbrev pub service_specific : ℤ
service_specific = minus 8

-- EX_PARCELABLE
abbrev pub parcelable_exception : ℤ
parcelable_exception = minus 9

-- EX_HAS_NOTED_APPOPS_REPLY_HEADER
abbrev pub noted_header : ℤ
noted_header = minus 127

-- EX_HAS_REPLY_HEADER
abbrev pub reply_header : ℤ
reply_header = minus 128

-- EX_TRANSACTION_FAILED
abbrev pub transaction_failed : ℤ
transaction_failed = minus 129
