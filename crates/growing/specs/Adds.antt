-- What is added to a list that grows.
use Rattle.std.specs.Prelude.{◌≡◌, List, ◌++◌, true}
use Rattle.growing.specs.declared.list.GrowingList.{GrowingList}

-- if the list is whole it was so before, and it has these items more
pub record Adds {T : Type 0} (old new : GrowingList T) (more : List T) : Type 0 where
  pub if_whole : new.is_whole ≡ true → (old.is_whole ≡ true) × (new.items.items ≡ old.items.items ++ more)
