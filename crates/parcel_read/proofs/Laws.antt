-- What reading as a function is, of a schema that is known to be valid.
use Rattle.std.proofs.Common.{◌≡◌, ℕ, ℤ, ◌-◌, ◌*◌, ◌≤◌, Bool, true, List, ◌++◌, length, Ok, Err, sym, ap, ◌∙◌, subst, arith, length-append}
use Rattle.std.specs.Prelude.{◌↔◌}
use Rattle.aidl_base.specs.declared.profile.Profile.{Profile}
use Rattle.aidl_base.proofs.lemmas.Lists.{AreBytes}
use Rattle.aidl_schema.specs.declared.schema.AidlType.{AidlType}
use Rattle.aidl_schema.specs.declared.schema.Decl.{Decl}
use Rattle.aidl_schema.specs.Sizes.{AreSteady}
use Rattle.aidl_schema.specs.Types.{is_type}
use Rattle.aidl_schema.specs.Valid.{IsValid}
use Rattle.aidl_schema.proofs.lemmas.Counts.{depth_steady, nodes_steady}
use Rattle.aidl_schema.proofs.lemmas.Valids.{all_hold}
use Rattle.aidl_values.specs.Data.{Data}
use Rattle.aidl_values.specs.Default.{IsZero}
use Rattle.aidl_values.specs.HasType.{HasType}
use Rattle.aidl_values.specs.Nodes.{nodes_of}
use Rattle.aidl_values.specs.Sound.{IsSound}
use Rattle.aidl_values.proofs.lemmas.Sounds.{is_sound, default_fits, one_default}
use Rattle.wire_model.specs.ReadOf.{read_of}
use Rattle.wire_model.specs.Reads.{Reads}
use Rattle.wire_model.specs.Stop.{Stop}
use Rattle.wire_model.proofs.lemmas.Nodes.{nodes}
use Rattle.wire_model.proofs.lemmas.Reading.{reads_read, read_reads, read_typed, stop_read, read_stop}
use Rattle.wire_model.proofs.lemmas.Sound.{is_whole}

module _ (p : Profile) (S : List Decl) (valid : IsValid S) (t : AidlType) (known : is_type S t ≡ true) (d : ℕ) (b : List ℕ) (bytes : AreBytes b) (inside : Bool) where
  steady : AreSteady S
  steady = record { depth = depth_steady S; nodes = nodes_steady S }

  sound : IsSound S
  sound = is_sound S (all_hold S valid) steady

  small_defaults : (u : AidlType) (v : Data) → is_type S u ≡ true → IsZero S u v → nodes_of v ≤ 512
  small_defaults u v type zero = subst (λ w. nodes_of w ≤ 512) (sym (one_default S (all_hold S valid) steady u v type zero)) (default_fits S (all_hold S valid) steady u type).small

  pub law_reads : (v : Data) (rest : List ℕ) → (read_of p S d t inside b ≡ Ok (v, rest)) ↔ ((front : List ℕ) × (b ≡ front ++ rest) × Reads p S d t front v)
  law_reads v rest = (read_reads p S sound d t known inside b bytes v rest, λ h. ap (read_of p S d t inside) h.1 ∙ reads_read p S sound d t known inside h.0 rest v h.2)

  pub law_stops : (s : ℤ) → (read_of p S d t inside b ≡ Err s) ↔ Stop p S d t b inside s
  law_stops s = (read_stop p S sound d t known inside b bytes s, stop_read p S sound d t known inside b s bytes)

  pub law_typed : (v : Data) (rest : List ℕ) → read_of p S d t inside b ≡ Ok (v, rest) → HasType S t v
  law_typed v rest = read_typed p S sound d t known inside b bytes v rest

  pub law_few : (v : Data) (rest : List ℕ) → read_of p S d t inside b ≡ Ok (v, rest) → nodes_of v ≤ 64 * (length b - length rest)
  law_few v rest e =
      let h = read_reads p S sound d t known inside b bytes v rest e in
      omega (arith, nodes p S (is_whole S sound) small_defaults d t h.0 v h.2, ap length h.1, length-append h.0 rest)
