-- Where a reader of words stands.
use Rattle.std.specs.Prelude.{◌≡◌, ℕ, ◌+◌, ◌-◌, Bool, true, false, List, [], ◌∷◌, length, take, drop, Ok, Err, refl}
use Rattle.std.specs.Prelude.{nat_lt, if◌then◌else◌}
use Rattle.std.specs.Coded.{Coded, code_by, coded×, coded_ℕ, coded_bool, coded_list}
use Rattle.std.proofs.Common.{ap}
use Rattle.aidl_base.specs.declared.profile.Profile.{Profile}
use Rattle.aidl_base.specs.declared.profile.Profile.TheVariants.{Strict, Lenient}
use Rattle.aidl_base.specs.Readings.{Read, ◌>>=◌, word_at, size_of, past}

-- the profile, the bytes, how many of them are passed, and the ends of the open records, the innermost first
pub record Place : Type 0 where
  pub profile : Profile
  pub bytes : List ℕ
  pub position : ℕ
  pub ends : List ℕ

-- a profile is stored as whether it is strict
abbrev pub is_strict : Profile → Bool
is_strict Strict = true
is_strict Lenient = false

abbrev pub strict_or_lenient : Bool → Profile
strict_or_lenient true = Strict
strict_or_lenient false = Lenient

pub profile_back : (p : Profile) → strict_or_lenient (is_strict p) ≡ p
profile_back Strict = refl
profile_back Lenient = refl

-- a place is stored as the tuple of its fields
abbrev pub place_code : Coded Place
place_code = code_by (Bool × (List ℕ × (ℕ × List ℕ)))
    (coded× coded_bool (coded× (coded_list coded_ℕ) (coded× coded_ℕ (coded_list coded_ℕ))))
    (λ p. (is_strict p.profile, (p.bytes, (p.position, p.ends))))
    (λ q. record { profile = strict_or_lenient q.0; bytes = q.1.0; position = q.1.1.0; ends = q.1.1.1 })
    (λ p. ap (λ (x : Profile). record { profile = x; bytes = p.bytes; position = p.position; ends = p.ends })
    (profile_back p.profile))

-- the reader's limit: the end of the innermost open record, or else that of the bytes (own)
abbrev pub limit_of : List ℕ → ℕ → ℕ
limit_of [] len = len
limit_of (end ∷ ends) len = end

abbrev pub limit : Place → ℕ
limit p = limit_of p.ends (length p.bytes)

-- the bytes from the position up to the limit
abbrev pub left : Place → List ℕ
left p = drop p.position (take (limit p) p.bytes)

-- whether a record is open
abbrev pub is_some_open : List ℕ → Bool
is_some_open [] = false
is_some_open (end ∷ ends) = true

abbrev pub is_inside : Place → Bool
is_inside p = is_some_open p.ends

-- what a reading gives where the reader stands
abbrev pub here : {A : Type 0} → (Bool → List ℕ → Read A) → Place → Read A
here read p = read (is_inside p) (left p)

-- the place n bytes further on
abbrev pub moved : Place → ℕ → Place
moved p n = record { profile = p.profile; bytes = p.bytes; position = p.position + n; ends = p.ends }

-- the place n bytes before
abbrev pub moved_back : Place → ℕ → Place
moved_back p n = record { profile = p.profile; bytes = p.bytes; position = p.position - n; ends = p.ends }

-- the new place is further on by the bytes that are no longer left, in the same records
abbrev pub MovesOn : Place → Place → Type 0
MovesOn old new = new ≡ moved old (length (left old) - length (left new))

-- the size of the record that begins here with its size word: one that passes the limit is an item that does
unfoldable pub size_at : Bool → List ℕ → Read ℕ
size_at inside b = do
  w ← word_at inside b
  z ← size_of w.0
  if nat_lt (length b) z then Err (past inside) else Ok (z, w.1)

-- the place after the size word, in the record of that size
abbrev pub opened : Place → ℕ → Place
opened p size =
    record { profile = p.profile; bytes = p.bytes; position = p.position + 4; ends = (p.position + size) ∷ p.ends }

-- a size word stands at the old place, and the new one is in its record
abbrev pub Enters : Place → Place → Type 0
Enters old new = (size : ℕ) × (here size_at old ≡ Ok (size, drop 4 (left old))) × (new ≡ opened old size)

abbrev pub outer_ends : List ℕ → List ℕ
outer_ends [] = []
outer_ends (end ∷ ends) = ends

-- the place at the end of the innermost record, outside it
abbrev pub closed : Place → Place
closed p = record { profile = p.profile; bytes = p.bytes; position = limit p; ends = outer_ends p.ends }
