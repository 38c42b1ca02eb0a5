-- Tables of the methods that reach each declaration, and of the unions whose alternatives are all plain (own). A is
-- the client's declarations, B the server's.
use Rattle.std.specs.Prelude.{◌≡◌, ℕ, Bool, true, List, [], map, Option, Some, None, slice_get}
use Rattle.aidl_schema.specs.declared.schema.Decl.{Decl}
use Rattle.aidl_schema.specs.Broken.{union_fields}
use Rattle.compat_witness.specs.Reaching.{are_plain, methods_reaching}
use Rattle.witness_search.specs.Asked.{method_seen}
use Rattle.witness_search.specs.declared.candidates.Reach.{Reach}
use Rattle.witness_search.specs.declared.pair.ReachTables.{ReachTables}

-- a row of a table, and the empty one where there is none
abbrev pub row_of : Option (List Reach) → List Reach
row_of None = []
row_of (Some row) = row

-- the row of a number
abbrev pub row_at : List (List Reach) → ℕ → List Reach
row_at rows k = row_of (slice_get rows k)

-- A table has for each declaration the methods that reach it; what there is no declaration of, none reaches.
abbrev pub IsReachTable : List Decl → List Decl → List (List Reach) → Type 0
IsReachTable A B rows = (k : ℕ) → map method_seen (row_at rows k) ≡ methods_reaching A k B

-- for each declaration whether all alternatives are plain, which it has where it is a union
abbrev pub plain_unions : List Decl → List Bool
plain_unions S = map (λ d. are_plain (union_fields d.kind)) S

abbrev pub or_true : Option Bool → Bool
or_true None = true
or_true (Some b) = b

-- what a number has; of no declaration there is nothing that isn't plain
abbrev pub plain_at : List Bool → ℕ → Bool
plain_at bs k = or_true (slice_get bs k)

-- Of two versions: the methods of old, and those of new; the unions of old, and those of new.
pub record AreReachTables (old new : List Decl) (t : ReachTables) : Type 0 where
  pub forth : IsReachTable old new t.forth.items
  pub back : IsReachTable new old t.back.items
  pub olds : t.plain_olds.items ≡ plain_unions old
  pub news : t.plain_news.items ≡ plain_unions new
