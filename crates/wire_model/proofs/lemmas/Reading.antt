-- Reading as a function is what Reads and Stop say, for every type of a sound schema: what a reader's clauses cite.
use Rattle.std.proofs.Common.{◌≡◌, ℕ, ◌-◌, ◌≤◌, ℤ, Bool, true, List, ◌++◌, length, take, drop, Ok, Err, ◌⊎◌, inl, inr, refl, sym, ap, ◌∙◌, subst, arith, length-append, length-drop}
use Rattle.std.proofs.lemmas.List.{take-append-drop}
use Rattle.aidl_base.specs.declared.profile.Profile.{Profile}
use Rattle.aidl_schema.specs.declared.schema.Decl.{Decl}
use Rattle.aidl_schema.specs.declared.schema.AidlType.{AidlType}
use Rattle.aidl_schema.specs.Types.{is_type}
use Rattle.aidl_values.specs.Data.{Data}
use Rattle.aidl_values.specs.HasType.{HasType}
use Rattle.aidl_values.specs.Sound.{IsSound}
use Rattle.wire_model.specs.Reads.{Reads, FrontReads}
use Rattle.wire_model.specs.Stop.{Stop, Stops}
use Rattle.wire_model.specs.ReadOf.{Read, read_of}
use Rattle.wire_model.proofs.lemmas.Sound.{is_whole}
use Rattle.wire_model.proofs.again.All.{again}
use Rattle.wire_model.proofs.stopped.All.{stopped}
use Rattle.wire_model.proofs.told.Words.{Told}
use Rattle.wire_model.proofs.told.All.{told, reads_type}
use Rattle.aidl_base.proofs.lemmas.Lists.{AreBytes, take_front}

module _ (p : Profile) (S : List Decl) (sound : IsSound S) (d : ℕ) (t : AidlType) (type : is_type S t ≡ true) (inside : Bool) where
  -- A front that is a reading is what is read, whatever follows it.
  pub reads_read : (front rest : List ℕ) (v : Data) → Reads p S d t front v → read_of p S d t inside (front ++ rest) ≡ Ok (v, rest)
  reads_read front rest v h = again p S (is_whole S sound) d t inside v front rest type h

  -- Where the bytes stop, reading answers that status.
  pub stop_read : (b : List ℕ) (s : ℤ) → AreBytes b → Stop p S d t b inside s → read_of p S d t inside b ≡ Err s
  stop_read b s bytes h = stopped p S (is_whole S sound) d t inside b s type bytes h

  module _ (b : List ℕ) (bytes : AreBytes b) where
    answer_told : (x : Read Data) → read_of p S d t inside b ≡ x → Told (λ front v. Reads p S d t front v) (λ s. Stop p S d t b inside s) b x
    answer_told x e = subst (λ y. Told (λ front v. Reads p S d t front v) (λ s. Stop p S d t b inside s) b y) e (told p S (is_whole S sound) d t inside b type bytes)

    -- What is read is a reading of a front; what is left is the rest.
    pub read_reads : (v : Data) (rest : List ℕ) → read_of p S d t inside b ≡ Ok (v, rest) → (front : List ℕ) × (b ≡ front ++ rest) × Reads p S d t front v
    read_reads v rest e = answer_told (Ok (v, rest)) e

    -- It has the type.
    pub read_typed : (v : Data) (rest : List ℕ) → read_of p S d t inside b ≡ Ok (v, rest) → HasType S t v
    read_typed v rest e = let h = read_reads v rest e in reads_type p S d t h.0 v h.2

    -- A status that reading answers is that of a stop.
    pub read_stop : (s : ℤ) → read_of p S d t inside b ≡ Err s → Stop p S d t b inside s
    read_stop s e = answer_told (Err s) e

    -- The same by how many bytes are read.
    pub take_read : (v : Data) (n : ℕ) → Reads p S d t (take n b) v → read_of p S d t inside b ≡ Ok (v, drop n b)
    take_read v n h = ap (λ c. read_of p S d t inside c) (sym (take-append-drop n b)) ∙ reads_read (take n b) (drop n b) v h

    pub read_within : (v : Data) (rest : List ℕ) → read_of p S d t inside b ≡ Ok (v, rest) → length rest ≤ length b
    read_within v rest e = let h = read_reads v rest e in omega (arith, ap length h.1, length-append h.0 rest)

    pub read_take : (v : Data) (rest : List ℕ) → read_of p S d t inside b ≡ Ok (v, rest) → Reads p S d t (take (length b - length rest) b) v
    read_take v rest e =
        let h = read_reads v rest e in
        let len : length h.0 ≡ length b - length rest = omega (arith, ap length h.1, length-append h.0 rest) in
        let front : take (length b - length rest) b ≡ h.0 = ap (take (length b - length rest)) h.1 ∙ take_front h.0 rest (length b - length rest) len in
        subst (λ c. Reads p S d t c v) (sym front) h.2

    -- No other value is read, and no other number of bytes.
    pub read_only : (v w : Data) (rest : List ℕ) (n : ℕ) → n ≤ length b → read_of p S d t inside b ≡ Ok (v, rest) → Reads p S d t (take n b) w
        → (w ≡ v) × (n ≡ length b - length rest)
    read_only v w rest n le e h =
        let same : ◌≡◌ {A = Read Data} (Ok (w, drop n b)) (Ok (v, rest)) = sym (take_read w n h) ∙ e in
        let pair : ◌≡◌ {A = Data × List ℕ} (w, drop n b) (v, rest) = cc in
        let left : length (drop n b) ≡ length rest = ap (λ (q : Data × List ℕ). length q.1) pair in
        (ap (λ (q : Data × List ℕ). q.0) pair, omega (arith, length-drop n b))

    -- Where a status is answered, no front is a reading.
    pub read_none : (s : ℤ) (w : Data) (n : ℕ) → read_of p S d t inside b ≡ Err s → Reads p S d t (take n b) w → ⊥
    read_none s w n e h = let same : ◌≡◌ {A = Read Data} (Ok (w, drop n b)) (Err s) = sym (take_read w n h) ∙ e in absurd cc

    -- One or the other.
    pub reads_or_stops : FrontReads p S d t b ⊎ Stops p S d t b inside
    reads_or_stops = by_answer (read_of p S d t inside b) refl
      where
        by_answer : (x : Read Data) → read_of p S d t inside b ≡ x → FrontReads p S d t b ⊎ Stops p S d t b inside
        by_answer (Ok x) e = let h = read_reads x.0 x.1 e in inl (x.0, h.0, x.1, h.1, h.2)
        by_answer (Err s) e = inr (s, read_stop s e)

    -- Never both.
    pub not_both : FrontReads p S d t b → Stops p S d t b inside → ⊥
    not_both reads stops =
        let there : read_of p S d t inside b ≡ Ok (reads.0, reads.2) = ap (λ c. read_of p S d t inside c) reads.3 ∙ reads_read reads.1 reads.2 reads.0 reads.4 in
        let same : ◌≡◌ {A = Read Data} (Ok (reads.0, reads.2)) (Err stops.0) = sym there ∙ stop_read b stops.0 bytes stops.1 in
        absurd cc

    -- One status.
    pub one_status : (s r : ℤ) → Stop p S d t b inside s → Stop p S d t b inside r → s ≡ r
    one_status s r h k =
        let same : ◌≡◌ {A = Read Data} (Err s) (Err r) = sym (stop_read b s bytes h) ∙ stop_read b r bytes k in
        cc
