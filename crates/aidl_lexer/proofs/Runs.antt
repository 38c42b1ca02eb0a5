-- Runs of a class of bytes.
use Rattle.std.proofs.Common.{◌≡◌, ℕ, suc, ◌+◌, Bool, true, false, List, [], ◌∷◌, ◌++◌, length, take, drop, refl, ap, arith}
use Rattle.std.specs.List.{prefix_len, list_all}
use Rattle.std.proofs.lemmas.Bool.{and_parts, and_from}
use Rattle.aidl_base.specs.Identifiers.{begins}

-- a run of a class, after which it doesn't go on
pub run_len : (p : ℕ → Bool) (text rest : List ℕ) → list_all p text ≡ true → begins p rest ≡ false → prefix_len p (text ++ rest) ≡ length text
run_len p [] [] all stop = refl
run_len p [] (b ∷ rest) all stop = rw stop refl
run_len p (b ∷ text) rest all stop =
    let a = and_parts (p b) (list_all p text) all in
    let h : prefix_len p (text ++ rest) ≡ length text = run_len p text rest a.1 stop in
    let e : 1 + length text ≡ suc (length text) = omega arith in
    rw (a.0, h) e

pub take_front : (text rest : List ℕ) → take (length text) (text ++ rest) ≡ text
take_front [] rest = refl
take_front (b ∷ text) rest = ap (λ t. b ∷ t) (take_front text rest)

pub drop_front : (text rest : List ℕ) → drop (length text) (text ++ rest) ≡ rest
drop_front [] rest = refl
drop_front (b ∷ text) rest = drop_front text rest

pub run_is : (p : ℕ → Bool) (text rest : List ℕ) → list_all p text ≡ true → begins p rest ≡ false → take (prefix_len p (text ++ rest)) (text ++ rest) ≡ text
run_is p text rest all stop = rw (run_len p text rest all stop) (take_front text rest)

pub run_rest : (p : ℕ → Bool) (text rest : List ℕ) → list_all p text ≡ true → begins p rest ≡ false → drop (prefix_len p (text ++ rest)) (text ++ rest) ≡ rest
run_rest p text rest all stop = rw (run_len p text rest all stop) (drop_front text rest)

-- bytes are a run of a class and a rest
pub record Run (p : ℕ → Bool) (bytes : List ℕ) : Type 0 where
  pub text : List ℕ
  pub rest : List ℕ
  pub is : bytes ≡ text ++ rest
  pub all : list_all p text ≡ true
  pub stop : begins p rest ≡ false

pub run : (p : ℕ → Bool) (bytes : List ℕ) → Run p bytes
run p [] = record { text = []; rest = []; is = refl; all = refl; stop = refl }
run p (b ∷ bytes) = go (p b) refl (run p bytes) where
  go : (v : Bool) → p b ≡ v → Run p bytes → Run p (b ∷ bytes)
  go true e r = record { text = b ∷ r.text; rest = r.rest; is = ap (λ t. b ∷ t) r.is; all = and_from _ _ e r.all; stop = r.stop }
  go false e r = record { text = []; rest = b ∷ bytes; is = refl; all = refl; stop = e }
