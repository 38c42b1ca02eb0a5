-- The outs of a method, one after the other.
use Rattle.std.proofs.Common.{◌≡◌, ℕ, ◌++◌, Bool, true, false, not, List, [], ◌∷◌, Some, Ok, refl, sym, subst}
use Rattle.std.specs.Prelude.{Result}
use Rattle.aidl_base.specs.declared.profile.Profile.{Profile}
use Rattle.aidl_schema.specs.declared.schema.Arg.{Arg}
use Rattle.aidl_schema.specs.declared.schema.Decl.{Decl}
use Rattle.aidl_schema.specs.Methods.{is_in_way}
use Rattle.aidl_values.specs.Data.{Items}
use Rattle.aidl_values.specs.View.{view, views}
use Rattle.aidl_values.specs.declared.value.Value.{Value}
use Rattle.parcel_words.specs.declared.fault.ReadFault.{ReadFault}
use Rattle.wire_model.specs.Calls.{outs_of}
use Rattle.wire_model.specs.ReadOf.{read_of}
use Rattle.wire_model.specs.Receiver.{values_at}
use Rattle.stub_dispatch.specs.steps.Planned.{ArgumentOf, ArgumentsOf, BeginsWith, TypeOf}
use Rattle.stub_dispatch.specs.steps.Fronts.{Continues, after}
use Rattle.stub_dispatch.proofs.Reading.{after_none, continues}

-- no argument is left
pub outs_end : (p : Profile) (S : List Decl) (args : List Arg) (b : List ℕ) (front : Items) → args ≡ [] → after front (values_at p S (outs_of args) b) ≡ Ok (front, b)
outs_end p S args b front e = subst (λ xs. after front (values_at p S (outs_of xs) b) ≡ Ok (front, b)) (sym e) (after_none front b)

back : (b : Bool) → not b ≡ true → b ≡ false
back true e = cc
back false e = refl

-- an out was read, and those behind it
pub outs_go : {X : Type 0} (p q : Profile) (xs : ArgumentsOf) (first : ArgumentOf) (others : ArgumentsOf) (of : TypeOf) (arg : Arg) (b : List ℕ) (vs us ws : List Value) (v : Value)
    (result : Result X ReadFault) (rest end : List ℕ) → BeginsWith xs (Some (first, others)) → of ≡ record { decls = first.decls; ty = first.arg.ty } → arg ≡ first.arg
    → not (is_in_way arg.way) ≡ true → read_of p of.decls 64 of.ty false b ≡ Ok (view v, rest) → q ≡ p → us ≡ vs ++ v ∷ []
    → Continues (views us) (views ws) result (values_at q others.decls (outs_of others.args) rest) end → Continues (views vs) (views ws) result (values_at p xs.decls (outs_of xs.args) b) end
outs_go p q xs first others of arg b vs us ws v result rest end begins typed declared comes reads alike f h =
    let S : List Decl = xs.decls in
    let way : is_in_way first.arg.way ≡ false = back (is_in_way first.arg.way) (subst (λ (x : Arg). not (is_in_way x.way) ≡ true) declared comes) in
    let o : outs_of (first.arg ∷ others.args) ≡ first.arg.ty ∷ outs_of others.args = rw way refl in
    let same : read_of p first.decls 64 first.arg.ty false b ≡ Ok (view v, rest) = subst (λ (t : TypeOf). read_of p t.decls 64 t.ty false b ≡ Ok (view v, rest)) typed reads in
    subst (λ ys. Continues (views vs) (views ws) result (values_at p S (outs_of ys) b) end) (sym begins.0)
    (subst (λ ts. Continues (views vs) (views ws) result (values_at p S ts b) end) (sym o)
    (continues vs us ws v result rest end (read_of p S 64 first.arg.ty false b) (λ c. values_at p S (outs_of others.args) c)
    (subst (λ D. read_of p D 64 first.arg.ty false b ≡ Ok (view v, rest)) begins.1 same) f
    (subst (λ D. Continues (views us) (views ws) result (values_at p D (outs_of others.args) rest) end) begins.2
    (subst (λ (r : Profile). Continues (views us) (views ws) result (values_at r others.decls (outs_of others.args) rest) end) alike h))))
