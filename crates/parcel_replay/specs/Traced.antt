-- What a line of a trace says (own): a request that was carried, as `run --trace` prints it. A line is bytes.
use Rattle.std.specs.Prelude.{ℕ, ◌+◌, ◌==◌, nat_lt, Bool, if◌then◌else◌, List, [], length, take, drop, Option, Some}
use Rattle.std.specs.Prelude.{None, option_map, codes, bytes_eq}
use Rattle.std.specs.List.{position}
use Rattle.std.specs.Result.{result_ok}
use Rattle.aidl_base.specs.declared.limit.LimitName.TheVariants.{ParcelBytes}
use Rattle.aidl_base.specs.Limits.{limit_number}
use Rattle.decimal_words.specs.Decimals.{number_within}
use Rattle.hex.specs.Hex.{decode_of}

-- one step after another
infixl 10 ◌>>=◌
abbrev pub ◌>>=◌ : {A B : Type 0} → Option A → (A → Option B) → Option B
None >>= f = None
(Some x) >>= f = f x

-- a word up to the first blank, and what stands behind that blank
unfoldable pub word_at : List ℕ → Option (List ℕ × List ℕ)
word_at text = option_map (λ n. (take n text, drop (n + 1) text)) (position (λ b. b == 32) text)

-- a transaction code: a decimal of 0 to 4294967295
abbrev pub code_of : List ℕ → Option ℕ
code_of word = number_within 0 4294967295 word

-- bytes: two hexadecimal digits each, in either case, or `-` for none
unfoldable pub bytes_of : List ℕ → Option (List ℕ)
bytes_of word = if bytes_eq word (codes "-") then Some []
    else (if length word == 0 then None else result_ok (decode_of word))

-- the code and the bytes that were delivered, of `CODE SENT DELIVERED` with single blanks
unfoldable pub request_of : List ℕ → Option (ℕ × List ℕ)
request_of text = do
  first ← word_at text
  code ← code_of first.0
  second ← word_at first.1
  sent ← bytes_of second.0
  delivered ← bytes_of second.1
  Some (code, delivered)

-- a line that is no request's; one that isn't of the form; one whose parcel is too long; or the code and the bytes
-- that were delivered
pub data Traced : Type 0 where
  other not_trace too_large : Traced
  request : (code : ℕ) → (delivered : List ℕ) → Traced

-- a parcel has its limit
abbrev pub within_parcel : ℕ → List ℕ → Traced
within_parcel code bytes = if nat_lt (limit_number ParcelBytes) (length bytes) then too_large else request code bytes

abbrev pub traced_by : Option (ℕ × List ℕ) → Traced
traced_by None = not_trace
traced_by (Some r) = within_parcel r.0 r.1

-- whether a line is that of a request
abbrev pub is_request : List ℕ → Bool
is_request line = bytes_eq (take 8 line) (codes "request ")

-- what a line says
abbrev pub traced : List ℕ → Traced
traced line = if is_request line then traced_by (request_of (drop 8 line)) else other
