-- What is left after a word, a text, or the token of a request, is bytes again.
use Rattle.std.proofs.Common.{◌≡◌, ℕ, ℤ, Bool, true, false, nat_lt, List, length, take, drop, Result, Ok, Err, refl, ap, subst}
use Rattle.aidl_base.proofs.lemmas.Lists.{AreBytes, AreBytes-rest, AreBytes-drop}
use Rattle.aidl_base.specs.declared.profile.Profile.{Profile}
use Rattle.aidl_base.specs.Readings.{Read, ◌>>=◌, bytes_at, word_at, text_at, not_null, present_text_at}
use Rattle.aidl_base.specs.Words.{word_of}
use Rattle.wire_model.specs.ReadOf.{read_as, text_data}
use Rattle.wire_model.specs.Receiver.{header_at, is_token, accepted, token_at}
use Rattle.wire_model.specs.Status.{not_enough, bad_type}
use Rattle.wire_model.proofs.told.Words.{Told}
use Rattle.wire_model.specs.Stop.{TextStop}
use Rattle.wire_model.proofs.told.Texts.{TextReads, text_told}
use Rattle.wire_model.proofs.lemmas.received.Steps.{taken}

pub word_bytes : (b : List ℕ) (x : ℤ × List ℕ) → AreBytes b → word_at false b ≡ Ok x → AreBytes x.1
word_bytes b x bytes e = by_test (nat_lt (length b) 4) refl
  where
    by_test : (short : Bool) → nat_lt (length b) 4 ≡ short → AreBytes x.1
    by_test true is = let wrong : ◌≡◌ {A = Read ℤ} (Err not_enough) (Ok x) = rw is at e in cc
    by_test false is =
        let read : ◌≡◌ {A = Read ℤ} (Ok (word_of (take 4 b), drop 4 b)) (Ok x) = rw is at e in
        let pair : ◌≡◌ {A = ℤ × List ℕ} (word_of (take 4 b), drop 4 b) x = cc in
        subst AreBytes (ap (λ (q : ℤ × List ℕ). q.1) pair) (AreBytes-drop 4 b bytes)

module _ (p : Profile) where
  pub text_bytes : (b : List ℕ) (x : List ℕ × List ℕ) → AreBytes b → present_text_at p false b ≡ Ok x → AreBytes x.1
  unfolding present_text_at
  text_bytes b x bytes e =
      let one = taken (text_at p false false b) (λ t. not_null t.0 >>= λ text. let y : Read (List ℕ) = Ok (text, t.1) in y) x e in
      let two = taken (not_null one.0.0) (λ text. let y : Read (List ℕ) = Ok (text, one.0.1) in y) x one.2 in
      let h = subst (λ y. Told (λ c v. TextReads p false c v) (λ s. TextStop p false b false s) b y) (ap (read_as text_data) one.1) (text_told p false false b bytes) in
      end two.0 one.0.1 two.2 (AreBytes-rest h.0 one.0.1 (subst AreBytes h.1 bytes))
    where
      end : (text rest : List ℕ) → ◌≡◌ {A = Read (List ℕ)} (Ok (text, rest)) (Ok x) → AreBytes rest → AreBytes x.1
      end text rest e h = let pair : ◌≡◌ {A = List ℕ × List ℕ} (text, rest) x = cc in subst AreBytes (ap (λ (q : List ℕ × List ℕ). q.1) pair) h

  pub eight_bytes : (b : List ℕ) (x : List ℕ × List ℕ) → AreBytes b → bytes_at 8 false b ≡ Ok x → AreBytes x.1
  eight_bytes b x bytes e = by_test (nat_lt (length b) 8) refl
    where
      by_test : (short : Bool) → nat_lt (length b) 8 ≡ short → AreBytes x.1
      by_test true is = let wrong : ◌≡◌ {A = Read (List ℕ)} (Err not_enough) (Ok x) = rw is at e in cc
      by_test false is =
          let read : ◌≡◌ {A = Read (List ℕ)} (Ok (take 8 b, drop 8 b)) (Ok x) = rw is at e in
          let pair : ◌≡◌ {A = List ℕ × List ℕ} (take 8 b, drop 8 b) x = cc in
          subst AreBytes (ap (λ (q : List ℕ × List ℕ). q.1) pair) (AreBytes-drop 8 b bytes)

  header_bytes : (b : List ℕ) (x : (ℤ × List ℕ) × List ℕ) → AreBytes b → header_at p b ≡ Ok x → AreBytes x.1
  unfolding header_at
  header_bytes b x bytes e =
      let one = taken (bytes_at 8 false b) (λ first. word_at false first.1 >>= λ header. present_text_at p false header.1 >>= λ name. let y : Read (ℤ × List ℕ) = Ok ((header.0, name.0), name.1) in y) x e in
      let two = taken (word_at false one.0.1) (λ header. present_text_at p false header.1 >>= λ name. let y : Read (ℤ × List ℕ) = Ok ((header.0, name.0), name.1) in y) x one.2 in
      let three = taken (present_text_at p false two.0.1) (λ name. let y : Read (ℤ × List ℕ) = Ok ((two.0.0, name.0), name.1) in y) x two.2 in
      end (two.0.0, three.0.0) three.0.1 three.2
      (text_bytes two.0.1 three.0 (word_bytes one.0.1 two.0 (eight_bytes b one.0 bytes one.1) two.1) three.1)
    where
      end : (header : ℤ × List ℕ) (rest : List ℕ) → ◌≡◌ {A = Read (ℤ × List ℕ)} (Ok (header, rest)) (Ok x) → AreBytes rest → AreBytes x.1
      end header rest e h = let pair : ◌≡◌ {A = (ℤ × List ℕ) × List ℕ} (header, rest) x = cc in subst AreBytes (ap (λ (q : (ℤ × List ℕ) × List ℕ). q.1) pair) h

  pub token_bytes : (name b rest : List ℕ) → AreBytes b → token_at p name b ≡ Ok rest → AreBytes rest
  token_bytes name b rest bytes e = by_header (header_at p b) refl e
    where
      by_header : (x : Read (ℤ × List ℕ)) → header_at p b ≡ x → accepted name x ≡ Ok rest → AreBytes rest
      by_header (Err s) is e = cc
      by_header (Ok x) is e = by_test (is_token name x.0) refl
        where
          by_test : (found : Bool) → is_token name x.0 ≡ found → AreBytes rest
          by_test true t = let same : ◌≡◌ {A = Result (List ℕ) ℤ} (Ok x.1) (Ok rest) = rw t at e in let one : x.1 ≡ rest = cc in subst AreBytes one (header_bytes b x bytes is)
          by_test false t = let wrong : ◌≡◌ {A = Result (List ℕ) ℤ} (Err bad_type) (Ok rest) = rw t at e in cc
