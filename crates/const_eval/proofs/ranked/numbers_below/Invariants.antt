use Rattle.std.proofs.Common.{◌≡◌, ℕ, ◌<◌, get_or, vec_len}
use Rattle.const_eval.proofs.ranked.numbers_below.Given as goal

-- each number so far stands at its place
abbrev pub invariant-loop-number : goal.invariant-loop-number
invariant-loop-number l = record { len : vec_len l.numbers ≡ l.number; at : (n : ℕ) → n < l.number → get_or l.numbers.items n 0 ≡ n }
