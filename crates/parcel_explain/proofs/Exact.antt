-- What is found and what is read, where both end alike.
use Rattle.std.proofs.Common.{◌≡◌, ℕ, ℤ, List, Result, Ok, Err, refl, sym, ap, ◌∙◌}
use Rattle.aidl_base.specs.Readings.{Read}
use Rattle.aidl_values.specs.Data.{Data}
use Rattle.parcel_explain.specs.Noted.{Wrong}
use Rattle.parcel_explain.proofs.lemmas.Ends.{end_of, read_end}

abbrev Found : Type 0
Found = Result (Unit {0} × List ℕ) Wrong

module _ (f : Found) (r : Read Data) (same : end_of f ≡ read_end r) where
  rest_read : (rest : List ℕ) → end_of f ≡ Ok rest → (q : Read Data) → r ≡ q → (v : Data) × (r ≡ Ok (v, rest))
  rest_read rest e (Ok x) is =
      let ends : ◌≡◌ {A = Result (List ℕ) ℤ} (Ok x.1) (Ok rest) = sym (ap (λ (z : Read Data). read_end z) is) ∙ sym same ∙ e in
      let left : x.1 ≡ rest = cc in
      (x.0, is ∙ ap (λ c. Ok (x.0, c)) left)
  rest_read rest e (Err s) is =
      let ends : ◌≡◌ {A = Result (List ℕ) ℤ} (Err s) (Ok rest) = sym (ap (λ (z : Read Data). read_end z) is) ∙ sym same ∙ e in absurd cc

  pub found_read : (rest : List ℕ) → f ≡ Ok (tt, rest) → (v : Data) × (r ≡ Ok (v, rest))
  found_read rest h = rest_read rest (ap (λ (g : Found). end_of g) h) r refl

  rest_found : (rest : List ℕ) → end_of f ≡ Ok rest → (g : Found) → f ≡ g → f ≡ Ok (tt, rest)
  rest_found rest e (Ok x) is =
      let ends : ◌≡◌ {A = Result (List ℕ) ℤ} (Ok x.1) (Ok rest) = sym (ap (λ (z : Found). end_of z) is) ∙ e in
      let left : x.1 ≡ rest = cc in
      is ∙ ap (λ c. Ok (tt, c)) left
  rest_found rest e (Err w) is = let ends : ◌≡◌ {A = Result (List ℕ) ℤ} (Err w.status) (Ok rest) = sym (ap (λ (z : Found). end_of z) is) ∙ e in absurd cc

  pub read_found : (v : Data) (rest : List ℕ) → r ≡ Ok (v, rest) → f ≡ Ok (tt, rest)
  read_found v rest h = rest_found rest (same ∙ ap (λ (z : Read Data). read_end z) h) f refl

  stop_read : (s : ℤ) → end_of f ≡ Err s → (q : Read Data) → r ≡ q → r ≡ Err s
  stop_read s e (Ok x) is =
      let ends : ◌≡◌ {A = Result (List ℕ) ℤ} (Ok x.1) (Err s) = sym (ap (λ (z : Read Data). read_end z) is) ∙ sym same ∙ e in absurd cc
  stop_read s e (Err q) is =
      let ends : ◌≡◌ {A = Result (List ℕ) ℤ} (Err q) (Err s) = sym (ap (λ (z : Read Data). read_end z) is) ∙ sym same ∙ e in
      let status : q ≡ s = cc in
      is ∙ ap (λ z. Err z) status

  pub wrong_read : (s : ℤ) (at : List ℕ) → f ≡ Err (record { path = at; status = s }) → r ≡ Err s
  wrong_read s at h = stop_read s (ap (λ (g : Found). end_of g) h) r refl

  stop_found : (s : ℤ) → end_of f ≡ Err s → (g : Found) → f ≡ g → (at : List ℕ) × (f ≡ Err (record { path = at; status = s }))
  stop_found s e (Ok x) is = let ends : ◌≡◌ {A = Result (List ℕ) ℤ} (Ok x.1) (Err s) = sym (ap (λ (z : Found). end_of z) is) ∙ e in absurd cc
  stop_found s e (Err w) is =
      let ends : ◌≡◌ {A = Result (List ℕ) ℤ} (Err w.status) (Err s) = sym (ap (λ (z : Found). end_of z) is) ∙ e in
      let status : w.status ≡ s = cc in
      (w.path, is ∙ ap (λ z. Err (record { path = w.path; status = z })) status)

  pub read_wrong : (s : ℤ) → r ≡ Err s → (at : List ℕ) × (f ≡ Err (record { path = at; status = s }))
  read_wrong s h = stop_found s (same ∙ ap (λ (z : Read Data). read_end z) h) f refl
