-- Tests that decide.
use Rattle.std.proofs.Common.{◌≡◌, Bool, true, false, not, refl, sym, ◌∙◌}
use Rattle.std.specs.Prelude.{◌↔◌, IsTrue}

pub never : {P : Type 0} → (P → ⊥) → IsTrue false ↔ P
never f = (λ h. cc, λ p. absurd (f p))

pub always : {P : Type 0} → P → IsTrue true ↔ P
always p = (λ h. p, λ q. refl)

-- what fails isn't so
pub fails : {P : Type 0} (b : Bool) → (IsTrue b ↔ P) → b ≡ false → P → ⊥
fails b d e p = let both : false ≡ true = sym e ∙ d.1 p in cc

-- the first of two fails
pub first_fails : {P Q : Type 0} (b : Bool) → (IsTrue b ↔ P) → b ≡ false → IsTrue false ↔ (P × Q)
first_fails b d e = never (λ q. fails b d e q.0)

-- the second decides
pub second : {P Q : Type 0} (a b : Bool) → (IsTrue a ↔ P) → a ≡ true → (IsTrue b ↔ Q) → IsTrue b ↔ (P × Q)
second a b d e f = (λ h. (d.0 e, f.0 h), λ q. f.1 q.1)

-- what must be false
pub back_way : (b : Bool) → not b ≡ true → b ≡ false
back_way true e = cc
back_way false e = refl

-- of a test that is to be false and another one
pub one_way : {Q : Type 0} (b : Bool) → b ≡ true → IsTrue false ↔ ((b ≡ false) × Q)
one_way b e = never (λ q. let both : true ≡ false = sym e ∙ q.0 in cc)

pub two_way : {Q : Type 0} (b r : Bool) → b ≡ false → (IsTrue r ↔ Q) → IsTrue r ↔ ((b ≡ false) × Q)
two_way b r e f = (λ h. (e, f.0 h), λ q. f.1 q.1)
