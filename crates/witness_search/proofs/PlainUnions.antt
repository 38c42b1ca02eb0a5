-- What the tables know of a union is whether all its alternatives are plain.
use Rattle.std.proofs.Common.{◌≡◌, ℕ, zero, suc, Bool, List, [], ◌∷◌, refl, ap, ◌∙◌}
use Rattle.std.specs.Prelude.{◌&&◌}
use Rattle.aidl_schema.specs.declared.schema.Decl.{Decl}
use Rattle.compat_witness.specs.Reaching.{are_plain}
use Rattle.compat_witness.specs.Rows.{alternatives_in}
use Rattle.witness_search.specs.ReachTables.{AreReachTables, plain_at, plain_unions}
use Rattle.witness_search.specs.declared.pair.ReachTables.{ReachTables}

at_number : (S : List Decl) (k : ℕ) → plain_at (plain_unions S) k ≡ are_plain (alternatives_in S k)
at_number [] k = refl
at_number (d ∷ S) zero = refl
at_number (d ∷ S) (suc k) = at_number S k

pub both_plain : (old new : List Decl) (t : ReachTables) (k l : ℕ) (b : Bool) → AreReachTables old new t → b ≡ (plain_at t.plain_olds.items k && plain_at t.plain_news.items l)
    → b ≡ (are_plain (alternatives_in old k) && are_plain (alternatives_in new l))
both_plain old new t k l b tables e =
    e ∙ ap (λ c. c && plain_at t.plain_news.items l) (ap (λ bs. plain_at bs k) tables.olds ∙ at_number old k)
    ∙ ap (λ c. are_plain (alternatives_in old k) && c) (ap (λ bs. plain_at bs l) tables.news ∙ at_number new l)
