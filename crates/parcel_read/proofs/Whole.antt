-- What a reader that began at the start of the bytes has passed, and what the words of a reading say of it.
use Rattle.std.proofs.Common.{◌≡◌, ℕ, ℤ, ◌+◌, ◌-◌, ◌≤◌, Bool, false, List, [], ◌++◌, length, take, drop, Ok, Err, IfSome, refl, sym, ap, ◌∙◌, subst, arith, length-append, length-drop}
use Rattle.std.proofs.lemmas.List.{take_all, take-append-drop}
use Rattle.std.specs.Prelude.{◌↔◌}
use Rattle.aidl_base.proofs.lemmas.Lists.{take_front}
use Rattle.aidl_base.specs.Readings.{Read, bad_value, not_enough, unexpected_null}
use Rattle.aidl_base.specs.declared.profile.Profile.{Profile}
use Rattle.aidl_values.specs.Data.{Data}
use Rattle.parcel_words.specs.Place.{Place, left, is_inside, moved, MovesOn}
use Rattle.parcel_words.specs.Taken.{RefusesIfMemory, status_of}
use Rattle.parcel_words.specs.declared.fault.ReadFault.{ReadFault}
use Rattle.parcel_words.specs.declared.fault.ReadFault.TheVariants.{NotEnough, UnexpectedNull, BadValue, OutOfMemory}

module _ (profile : Profile) (bytes : List ℕ) where
  -- where a reader begins
  abbrev pub start : Place
  start = record { profile = profile; bytes = bytes; position = 0; ends = [] }

  whole : take (length bytes) bytes ≡ bytes
  whole = take_all (length bytes) bytes (omega arith)

  pub left_start : left start ≡ bytes
  left_start = whole

  module _ (p : Place) (begins : p ≡ start) where
    -- reading there is reading the bytes, in no record
    pub at_start : (read : Profile → Bool → List ℕ → Read Data) → read p.profile (is_inside p) (left p) ≡ read profile false bytes
    at_start read = ap (λ (r : Place). read r.profile (is_inside r) (left r)) begins ∙ ap (read profile false) left_start

    module _ (q : Place) (on : MovesOn p q) (n : ℕ) (is : n ≡ q.position) where
      from_start : q ≡ moved start (length (left start) - length (left q))
      from_start = on ∙ ap (λ (r : Place). moved r (length (left r) - length (left q))) begins

      left_then : left q ≡ drop n bytes
      left_then =
          ap left from_start ∙ ap (drop (0 + (length (left start) - length (left q)))) whole
          ∙ ap (λ (r : Place). drop r.position bytes) (sym from_start) ∙ ap (λ k. drop k bytes) (sym is)

      pub position_within : n ≤ length bytes
      position_within = omega (arith, is, ap (λ (r : Place). r.position) from_start, ap length left_start)

      -- what was read, and the bytes after it
      pub read_then : (read : Profile → Bool → List ℕ → Read Data) (v : Data) → read p.profile (is_inside p) (left p) ≡ Ok (v, left q) → read profile false bytes ≡ Ok (v, drop n bytes)
      read_then read v e = sym (at_start read) ∙ e ∙ ap (λ (rest : List ℕ). Ok (v, rest)) left_then

-- What reading answers, and what a reading and a stop are: `law_read_of` gives the two facts.
module _ (bytes : List ℕ) (read : Read Data) (IsRead : List ℕ → Data → Type 0) (IsStop : ℤ → Type 0)
    (reads : (v : Data) (rest : List ℕ) → (read ≡ Ok (v, rest)) ↔ ((front : List ℕ) × (bytes ≡ front ++ rest) × IsRead front v))
    (stops : (s : ℤ) → (read ≡ Err s) ↔ IsStop s) where
  -- a front that is a reading is read
  front_read : (w : Data) (m : ℕ) → IsRead (take m bytes) w → read ≡ Ok (w, drop m bytes)
  front_read w m h = (reads w (drop m bytes)).1 (take m bytes, sym (take-append-drop m bytes), h)

  module _ (v : Data) (n : ℕ) (within : n ≤ length bytes) (e : read ≡ Ok (v, drop n bytes)) where
    pub is_found : IsRead (take n bytes) v
    is_found =
        let h = (reads v (drop n bytes)).0 e in
        let len : length h.0 ≡ n = omega (arith, ap length h.1, length-append h.0 (drop n bytes), length-drop n bytes) in
        let front : h.0 ≡ take n bytes = sym (take_front h.0 (drop n bytes) n len) ∙ ap (take n) (sym h.1) in
        subst (λ c. IsRead c v) front h.2

    pub is_only : (w : Data) (m : ℕ) → m ≤ length bytes → IsRead (take m bytes) w → (v ≡ w) × (n ≡ m)
    is_only w m le h =
        let same : ◌≡◌ {A = Read Data} (Ok (v, drop n bytes)) (Ok (w, drop m bytes)) = sym e ∙ front_read w m h in
        let pair : ◌≡◌ {A = Data × List ℕ} (v, drop n bytes) (w, drop m bytes) = cc in
        let left : length (drop n bytes) ≡ length (drop m bytes) = ap (λ (q : Data × List ℕ). length q.1) pair in
        (ap (λ (q : Data × List ℕ). q.0) pair, omega (arith, length-drop n bytes, length-drop m bytes))

  pub is_stop : (e : ReadFault) → RefusesIfMemory e read → IfSome (status_of e) IsStop
  is_stop NotEnough h = (stops not_enough).0 h
  is_stop UnexpectedNull h = (stops unexpected_null).0 h
  is_stop BadValue h = (stops bad_value).0 h
  is_stop OutOfMemory h = tt

  not_refused : (s : ℤ) (w : Data) (m : ℕ) → read ≡ Err s → IsRead (take m bytes) w → ⊥
  not_refused s w m h k = let same : ◌≡◌ {A = Read Data} (Ok (w, drop m bytes)) (Err s) = sym (front_read w m k) ∙ h in absurd cc

  -- Where a front is a reading, only memory can have been wanted.
  pub is_memory : (e : ReadFault) → RefusesIfMemory e read → (w : Data) (m : ℕ) → IsRead (take m bytes) w → e ≡ OutOfMemory
  is_memory NotEnough h w m k = absurd (not_refused not_enough w m h k)
  is_memory UnexpectedNull h w m k = absurd (not_refused unexpected_null w m h k)
  is_memory BadValue h w m k = absurd (not_refused bad_value w m h k)
  is_memory OutOfMemory h w m k = refl
