-- Defaults and levels, without cases on their number.
use Rattle.std.proofs.Common.{◌≡◌, ℕ, zero, suc, ◌<◌, true, List, refl, arith}
use Rattle.aidl_schema.specs.declared.schema.Decl.{Decl}
use Rattle.aidl_schema.specs.declared.schema.AidlType.{AidlType}
use Rattle.aidl_schema.specs.Sizes.{depth_by, nodes_by, depth_within, nodes_within}
use Rattle.aidl_values.specs.Default.{zero_within, zero_by}
use Rattle.aidl_values.specs.steps.Levels.{is_level_left, zero_parts}

pub zero_within-parts : (S : List Decl) (d : ℕ) (t : AidlType) → zero_within d S t ≡ zero_by S (λ u. zero_parts d S u) t
unfolding zero_within
zero_within-parts S zero t = refl
zero_within-parts S (suc d) t = refl

pub level_left : (d : ℕ) → 0 < d → is_level_left d ≡ true
level_left zero lt = absurd (omega arith)
level_left (suc d) lt = refl

-- one level of the sizes of a default
pub depth_within-suc : (k : ℕ) (S : List Decl) (t : AidlType) → depth_within (suc k) S t ≡ depth_by S (λ u. depth_within k S u) t
unfolding depth_within
depth_within-suc k S t = refl

pub nodes_within-suc : (k : ℕ) (S : List Decl) (t : AidlType) → nodes_within (suc k) S t ≡ nodes_by S (λ u. nodes_within k S u) t
unfolding nodes_within
nodes_within-suc k S t = refl
