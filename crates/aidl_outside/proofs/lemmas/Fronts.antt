-- A file and its front are the same up to a limit.
use Rattle.std.proofs.Common.{◌≡◌, ℕ, ◌+◌, ◌<◌, ◌≤◌, Bool, true, false, cond, nat_lt, List, length, take, refl, ap, arith}
use Rattle.std.proofs.lemmas.Bool.{ltb-true, ltb-false, lt-ltb}
use Rattle.std.proofs.lemmas.List.{take_all, length-take-le}
use Rattle.aidl_outside.specs.Files.{front_of}

module _ (most : ℕ) (file : List ℕ) where
  -- the front of a file of at most so many bytes is the file
  whole_front : length file ≤ most → front_of most file ≡ file
  unfolding front_of
  whole_front le = take_all (most + 1) file (omega arith)

  long_front : most < length file → most < length (front_of most file)
  unfolding front_of
  long_front lt = let n : length (take (most + 1) file) ≡ most + 1 = length-take-le (most + 1) file (omega arith) in omega arith

  pub same_front : {A : Type 0} (passed : A) (held : List ℕ → A) (long : Bool) → nat_lt most (length file) ≡ long
      → cond (nat_lt most (length (front_of most file))) passed (held (front_of most file)) ≡ cond (nat_lt most (length file)) passed (held file)
  same_front passed held true e = let test = lt-ltb most (length (front_of most file)) (long_front (ltb-true most (length file) e)) in rw (test, e) refl
  same_front passed held false e = ap (λ f. cond (nat_lt most (length f)) passed (held f)) (whole_front (ltb-false most (length file) e))
