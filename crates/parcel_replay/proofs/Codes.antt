-- The code of a request is that of its line's first word.
use Rattle.std.proofs.Common.{◌≡◌, ℕ, Bool, true, false, cond, List, [], length, drop, Option, Some, None, refl, ap}
use Rattle.std.specs.Prelude.{nat_lt}
use Rattle.std.specs.Option.{unwrap_or}
use Rattle.parcel_replay.specs.Traced.{◌>>=◌, Traced, other, not_trace, too_large, request, bytes_of, code_of, is_request, request_of, traced, traced_by, word_at}

module _ (code : ℕ) (b : List ℕ) where
  abbrev Is : Option (ℕ × List ℕ) → Type 0
  Is found = found ≡ Some (code, b)

  by_delivered : (n : ℕ) (o : Option (List ℕ)) → Is (o >>= λ delivered. Some (n, delivered)) → n ≡ code
  by_delivered n None e = cc
  by_delivered n (Some delivered) e = ap (λ (o : Option (ℕ × List ℕ)). (unwrap_or o (n, b)).0) e

  by_sent : (n : ℕ) (o later : Option (List ℕ)) → Is (o >>= λ sent. later >>= λ delivered. Some (n, delivered)) → n ≡ code
  by_sent n None later e = cc
  by_sent n (Some sent) later e = by_delivered n later e

  by_second : (n : ℕ) (o : Option (List ℕ × List ℕ)) → Is (o >>= λ second. bytes_of second.0 >>= λ sent. bytes_of second.1 >>= λ delivered. Some (n, delivered)) → n ≡ code
  by_second n None e = cc
  by_second n (Some second) e = by_sent n (bytes_of second.0) (bytes_of second.1) e

  by_code : (rest : List ℕ) (o : Option ℕ)
      → Is (o >>= λ n. word_at rest >>= λ second. bytes_of second.0 >>= λ sent. bytes_of second.1 >>= λ delivered. Some (n, delivered)) → o ≡ Some code
  by_code rest None e = cc
  by_code rest (Some n) e = let same = by_second n (word_at rest) e in cc

  pub first_code : (text word : List ℕ) (rest : List ℕ) → Some (word, rest) ≡ word_at text → request_of text ≡ Some (code, b) → code_of word ≡ Some code
  unfolding request_of
  first_code text word rest first e = by_code rest (code_of word) (rw (← first) at e)

  pub some_word : (text : List ℕ) → None ≡ word_at text → request_of text ≡ Some (code, b) → ⊥
  unfolding request_of
  some_word text none e = let never : Is None = rw (← none) at e in cc

abbrev code_in : ℕ → Traced → ℕ
code_in n (request code b) = code
code_in n _ = n

abbrev bytes_in : Traced → List ℕ
bytes_in (request code b) = b
bytes_in _ = []

module _ (code : ℕ) (b : List ℕ) where
  by_limit : (long : Bool) (n : ℕ) (bytes : List ℕ) → cond long too_large (request n bytes) ≡ request code b → Is code b (Some (n, bytes))
  by_limit true n bytes e = cc
  by_limit false n bytes e =
      let one : n ≡ code = ap (code_in n) e in
      let two : bytes ≡ b = ap bytes_in e in
      rw (one, two) refl

  by_words : (o : Option (ℕ × List ℕ)) → traced_by o ≡ request code b → Is code b o
  by_words None e = cc
  by_words (Some r) e = by_limit (nat_lt 1048576 (length r.1)) r.0 r.1 e

-- of a request's line
pub request_behind : (line text : List ℕ) (code : ℕ) (b : List ℕ) → is_request line ≡ true → text ≡ drop 8 line
    → traced line ≡ request code b → request_of text ≡ Some (code, b)
request_behind line text code b is same e = rw same (by_words code b (request_of (drop 8 line)) (rw is at e))
