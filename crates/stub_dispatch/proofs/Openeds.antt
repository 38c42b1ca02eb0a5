-- The arguments of a method, one after the other.
use Rattle.std.proofs.Common.{◌≡◌, ℕ, ◌+◌, ◌≤◌, ◌++◌, List, [], ◌∷◌, Some, Ok, Err, refl, sym, ap, ◌∙◌, subst}
use Rattle.std.specs.Prelude.{Result}
use Rattle.aidl_base.specs.Results.{◌>>=◌}
use Rattle.aidl_base.specs.Readings.{Read}
use Rattle.aidl_base.specs.declared.profile.Profile.{Profile}
use Rattle.aidl_schema.specs.declared.schema.Arg.{Arg}
use Rattle.aidl_schema.specs.Types.{is_array}
use Rattle.wire_model.specs.Calls.{is_out}
use Rattle.stub_dispatch.proofs.Sums.{few_argument}
use Rattle.aidl_schema.specs.declared.schema.Decl.{Decl}
use Rattle.aidl_values.specs.Data.{Data, Items, item}
use Rattle.aidl_values.specs.View.{view, views}
use Rattle.aidl_values.specs.declared.value.Value.{Value}
use Rattle.parcel_words.proofs.lemmas.Faults.{fails_then}
use Rattle.parcel_words.specs.Taken.{RefusesIfMemory}
use Rattle.parcel_words.specs.declared.fault.ReadFault.{ReadFault}
use Rattle.wire_model.specs.Receiver.{argument_at, arguments_at, opened_length}
use Rattle.stub_dispatch.specs.steps.Planned.{ArgumentOf, ArgumentsOf, BeginsWith}
use Rattle.stub_dispatch.specs.steps.Fronts.{Continues, after}
use Rattle.stub_dispatch.proofs.Reading.{after_none, after_one, views_more}

-- a value was read, and what is read behind it, which it says, goes on
continues_by : {X : Type 0} (vs us ws : List Value) (v : Value) (result : Result X ReadFault) (rest end : List ℕ) (one : Read Data) (more : Data → List ℕ → Read Items)
    → one ≡ Ok (view v, rest) → us ≡ vs ++ v ∷ [] → Continues (views us) (views ws) result (more (view v) rest) end
    → Continues (views vs) (views ws) result (one >>= λ x. more x.0 x.1 >>= λ ys. Ok (item x.0 ys.0, ys.1)) end
continues_by vs us ws v (Ok r) rest end one more e f h =
    let step : after (views vs) (more (view v) rest >>= λ ys. Ok (item (view v) ys.0, ys.1)) ≡ after (views us) (more (view v) rest) =
    after_one (views vs) (view v) (more (view v) rest) ∙ ap (λ z. after z (more (view v) rest)) (sym (views_more vs v) ∙ ap views (sym f)) in
    ap (λ (x : Read Data). after (views vs) (x >>= λ y. more y.0 y.1 >>= λ ys. Ok (item y.0 ys.0, ys.1))) e ∙ step ∙ h
continues_by vs us ws v (Err fault) rest end one more e f h =
    subst (λ (x : Read Data). RefusesIfMemory {A = Items × List ℕ} fault (x >>= λ y. more y.0 y.1 >>= λ ys. Ok (item y.0 ys.0, ys.1))) (sym e) (fails_then fault (more (view v) rest) (λ ys. Ok (item (view v) ys.0, ys.1)) h)

-- no argument is left
pub arguments_end : (p : Profile) (S : List Decl) (sum : ℕ) (args : List Arg) (b : List ℕ) (front : Items) → args ≡ [] → after front (arguments_at p S sum args b) ≡ Ok (front, b)
arguments_end p S sum args b front e = subst (λ xs. after front (arguments_at p S sum xs b) ≡ Ok (front, b)) (sym e) (after_none front b)

-- an argument was read, and those behind it
pub arguments_go : {X : Type 0} (p q : Profile) (xs : ArgumentsOf) (first : ArgumentOf) (others : ArgumentsOf) (arg : Arg) (sum next : ℕ) (b : List ℕ) (vs us ws : List Value) (v : Value)
    (result : Result X ReadFault) (rest end : List ℕ) → BeginsWith xs (Some (first, others)) → arg ≡ first.arg → argument_at p first.decls sum first.arg b ≡ Ok (view v, rest) → q ≡ p
    → next ≡ sum + opened_length arg (view v) → us ≡ vs ++ v ∷ []
    → Continues (views us) (views ws) result (arguments_at q others.decls next others.args rest) end → Continues (views vs) (views ws) result (arguments_at p xs.decls sum xs.args b) end
arguments_go p q xs first others arg sum next b vs us ws v result rest end begins declared reads same n f h =
    let S : List Decl = xs.decls in
    let sums : next ≡ sum + opened_length first.arg (view v) = subst (λ (x : Arg). next ≡ sum + opened_length x (view v)) declared n in
    subst (λ ys. Continues (views vs) (views ws) result (arguments_at p S sum ys b) end) (sym begins.0)
    (continues_by vs us ws v result rest end (argument_at p S sum first.arg b) (λ d c. arguments_at p S (sum + opened_length first.arg d) others.args c)
    (subst (λ D. argument_at p D sum first.arg b ≡ Ok (view v, rest)) begins.1 reads) f
    (subst (λ k. Continues (views us) (views ws) result (arguments_at p S k others.args rest) end) sums
    (subst (λ D. Continues (views us) (views ws) result (arguments_at p D next others.args rest) end) begins.2
    (subst (λ (r : Profile). Continues (views us) (views ws) result (arguments_at r others.decls next others.args rest) end) same h))))

-- the lengths of arrays with that of an argument that was read
pub arguments_few : (p : Profile) (first : ArgumentOf) (arg : Arg) (sum : ℕ) (b : List ℕ) (v : Value) (rest : List ℕ) → arg ≡ first.arg → sum ≤ 65536
    → argument_at p first.decls sum first.arg b ≡ Ok (view v, rest) → sum + opened_length arg (view v) ≤ 65536
arguments_few p first arg sum b v rest declared few reads =
    few_argument p first.decls arg sum b (view v, rest) few (is_out arg.way) (is_array arg.ty.shape) refl refl
    (subst (λ (x : Arg). argument_at p first.decls sum x b ≡ Ok (view v, rest)) (sym declared) reads)
