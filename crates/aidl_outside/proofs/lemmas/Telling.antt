-- What follows of what is told.
use Rattle.std.proofs.Common.{Option, Some, None}
use Rattle.aidl_outside.specs.Told.{Tells}

pub tells : {A : Type 0} (told : Option A) (P Q : A → Type 0) → ((a : A) → P a → Q a) → Tells told P → Tells told Q
tells None P Q h p = tt
tells (Some a) P Q h p = h a p

-- of two facts
pub tells_both : {A : Type 0} (told : Option A) (P Q R : A → Type 0) → ((a : A) → P a → Q a → R a) → Tells told P → Tells told Q → Tells told R
tells_both None P Q R h p q = tt
tells_both (Some a) P Q R h p q = h a p q
