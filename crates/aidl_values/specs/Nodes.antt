-- How large a value is (own: E23).
use Rattle.std.specs.Prelude.{ℕ, suc, ◌+◌, length}
use Rattle.aidl_values.specs.Data.{Data, null, truth, number, text, seq, rec, alt, Items, none, item}

-- The nodes of a value: the values in it, itself included, and one for each character of each text.
abbrev mutual
  pub nodes_of : Data → ℕ
  nodes_of null = 1
  nodes_of (truth b) = 1
  nodes_of (number n) = 1
  nodes_of (text x) = suc (length x)
  nodes_of (seq vs) = suc (nodes_in vs)
  nodes_of (rec vs) = suc (nodes_in vs)
  nodes_of (alt k v) = suc (nodes_of v)

  pub nodes_in : Items → ℕ
  nodes_in none = 0
  nodes_in (item v vs) = nodes_of v + nodes_in vs
