-- What contracts see of a service (own).
use Rattle.std.specs.Prelude.{ℕ, Bool, List}
use Rattle.std.specs.Coded.{Coded, code_by, coded×, coded_bool, coded_list, coded_ℕ}
use Rattle.std.proofs.Common.{ap}
use Rattle.aidl_base.specs.declared.profile.Profile.{Profile}
use Rattle.aidl_schema.specs.declared.schema.Decl.{Decl}
use Rattle.parcel_words.specs.Place.{is_strict, strict_or_lenient, profile_back}

-- the schema's declarations, the profile of reading, the interface's number, and the handler
pub record Seen (F : Type 0) : Type 0 where
  pub decls : List Decl
  pub profile : Profile
  pub interface : ℕ
  pub handler : F

-- a service is stored as the tuple of its fields
abbrev pub seen_code : {F : Type 0} → Coded Decl → Coded F → Coded (Seen F)
seen_code {F} decl handler =
    code_by (List Decl × (Bool × (ℕ × F))) (coded× (coded_list decl) (coded× coded_bool (coded× coded_ℕ handler)))
    (λ s. (s.decls, (is_strict s.profile, (s.interface, s.handler))))
    (λ q. record { decls = q.0; profile = strict_or_lenient q.1.0; interface = q.1.1.0; handler = q.1.1.1 })
    (λ s. ap (λ (p : Profile). record {
      decls = s.decls;
      profile = p;
      interface = s.interface;
      handler = s.handler;
    }) (profile_back s.profile))
