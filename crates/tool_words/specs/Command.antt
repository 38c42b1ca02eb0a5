-- A command and its words (own).
use Rattle.std.specs.Prelude.{ℕ, Bool, List, Option}

pub data Command : Type 0 where
  decode : (lenient : Bool) (tree : Option (List ℕ)) (types file : List ℕ) → Command
  encode : (tree : Option (List ℕ)) (types file : List ℕ) → Command
  check : (tree : List ℕ) → Command
  dump : (tree out : List ℕ) → Command
  freeze : (tree api : List ℕ) → Command
  verify : (api : List ℕ) → Command
  rehash : (api : List ℕ) → Command
  judge : (old new : List ℕ) → Command
  witness : (old new : List ℕ) → Command
  run : (trace lenient : Bool) (client server calls : List ℕ) → Command
  make : (count : ℕ) (out : List ℕ) → Command
  ask : (api : List ℕ) (version : ℕ) (interface : List ℕ) (code : ℕ) (file : List ℕ) → Command
  explain : (tree : Option (List ℕ)) (types file : List ℕ) → Command
  replay : (server interface trace : List ℕ) → Command
