-- The entries of TYPES are one more than its commas.
use Rattle.std.proofs.Common.{◌≡◌, ℕ, suc, ◌==◌, List, length, nat_lt, sym, ap, ◌∙◌, arith}
use Rattle.std.specs.List.{count_by}
use Rattle.std.proofs.lemmas.Bool.Decides.{nat_tests}
use Rattle.tool_words.specs.Entries.{entries_of, are_few}
use Rattle.tool_words.proofs.Cuts.{length-cut_at}

pub few_commas : (types : List ℕ) (n : ℕ) → n ≡ count_by (λ b. b == 44) types → nat_lt n 255 ≡ are_few types
few_commas types n e = let count : length (entries_of types) ≡ suc n = length-cut_at 44 types ∙ ap suc (sym e) in rw count (grind (arith, nat_tests))
