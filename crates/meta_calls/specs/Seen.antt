-- What contracts see of a service with a version (own).
use Rattle.std.specs.Prelude.{ℕ, List, refl}
use Rattle.std.specs.Coded.{Coded, code_by, coded×, coded_list, coded_ℕ}
use Rattle.stub_dispatch.specs.Services as inner

-- the service inside, the version, and the hash
pub record Seen (F : Type 0) : Type 0 where
  pub service : inner.Seen F
  pub version : ℕ
  pub hash : List ℕ

-- it is stored as the tuple of its fields
abbrev pub seen_code : {F : Type 0} → Coded (inner.Seen F) → Coded (Seen F)
seen_code {F} service = code_by (inner.Seen F × (ℕ × List ℕ)) (coded× service (coded× coded_ℕ (coded_list coded_ℕ)))
    (λ s. (s.service, (s.version, s.hash))) (λ q. record { service = q.0; version = q.1.0; hash = q.1.1 }) (λ _. refl)
