-- Items read one after the other.
use Rattle.std.proofs.Common.{◌≡◌, ℕ, List, [], ◌∷◌, ◌++◌, Ok, Err, refl, sym, ap, ◌∙◌, subst}
use Rattle.aidl_base.specs.Results.{◌>>=◌}
use Rattle.aidl_base.specs.Readings.{Read}
use Rattle.aidl_values.specs.Data.{Data, Items, none, item}
use Rattle.aidl_values.specs.View.{view, views}
use Rattle.aidl_values.specs.declared.value.Value.{Value}
use Rattle.parcel_words.specs.Taken.{RefusesIfMemory}
use Rattle.parcel_words.specs.declared.fault.ReadFault.{ReadFault}
use Rattle.stub_dispatch.specs.steps.Fronts.{after, joined, Continues}
use Rattle.std.specs.Prelude.{Result}
use Rattle.parcel_words.proofs.lemmas.Faults.{fails_then}

pub joined_assoc : (a b c : Items) → joined (joined a b) c ≡ joined a (joined b c)
joined_assoc none b c = refl
joined_assoc (item v vs) b c = ap (λ z. item v z) (joined_assoc vs b c)

pub joined_none : (a : Items) → joined a none ≡ a
joined_none none = refl
joined_none (item v vs) = ap (λ z. item v z) (joined_none vs)

-- nothing more is read
pub after_none : (front : Items) (b : List ℕ) → after front (Ok (none, b)) ≡ Ok (front, b)
after_none front b = ap (λ z. Ok (z, b)) (joined_none front)

-- one more was read
pub after_one : (front : Items) (v : Data) (reading : Read Items) → after front (reading >>= λ vs. Ok (item v vs.0, vs.1)) ≡ after (joined front (item v none)) reading
after_one front v (Ok x) = ap (λ z. Ok (z, x.1)) (sym (joined_assoc front (item v none) x.0))
after_one front v (Err s) = refl

-- values, and one behind them
pub views_more : (vs : List Value) (v : Value) → views (vs ++ v ∷ []) ≡ joined (views vs) (item (view v) none)
views_more [] v = refl
views_more (w ∷ vs) v = ap (λ z. item (view w) z) (views_more vs v)

-- a value was read, and what is read behind it goes on
pub continues : {X : Type 0} (vs us ws : List Value) (v : Value) (result : Result X ReadFault) (rest end : List ℕ) (one : Read Data) (more : List ℕ → Read Items)
    → one ≡ Ok (view v, rest) → us ≡ vs ++ v ∷ [] → Continues (views us) (views ws) result (more rest) end
    → Continues (views vs) (views ws) result (one >>= λ x. more x.1 >>= λ ys. Ok (item x.0 ys.0, ys.1)) end
continues vs us ws v (Ok r) rest end one more e f h =
    let step : after (views vs) (more rest >>= λ ys. Ok (item (view v) ys.0, ys.1)) ≡ after (views us) (more rest) =
    after_one (views vs) (view v) (more rest) ∙ ap (λ z. after z (more rest)) (sym (views_more vs v) ∙ ap views (sym f)) in
    ap (λ (x : Read Data). after (views vs) (x >>= λ y. more y.1 >>= λ ys. Ok (item y.0 ys.0, ys.1))) e ∙ step ∙ h
continues vs us ws v (Err fault) rest end one more e f h =
    subst (λ (x : Read Data). RefusesIfMemory {A = Items × List ℕ} fault (x >>= λ y. more y.1 >>= λ ys. Ok (item y.0 ys.0, ys.1))) (sym e) (fails_then fault (more rest) (λ ys. Ok (item (view v) ys.0, ys.1)) h)
