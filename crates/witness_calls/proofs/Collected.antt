-- Values that are collected, and what a loop leaves.
use Rattle.std.proofs.Common.{◌≡◌, ℕ, zero, suc, ◌+◌, true, false, List, [], ◌∷◌, ◌++◌, map, drop, Option, Some, None, slice_get, refl, ap, sym, ◌∙◌, arith}
use Rattle.aidl_schema.specs.declared.schema.Arg.{Arg}
use Rattle.aidl_schema.specs.Methods.{is_in_way}
use Rattle.aidl_values.specs.Data.{Data, Items, none, item}
use Rattle.aidl_values.specs.View.{items_of, view, views}
use Rattle.aidl_values.specs.declared.value.Value.{Value}
use Rattle.compat_witness.specs.Sides.{out_first}
use Rattle.wire_model.specs.View.{item_first}
use Rattle.witness_calls.specs.steps.Collected.{onto, with_seen, Puts}

onto-push : (ds : List Data) (d : Data) (vs : Items) → onto (ds ++ d ∷ []) vs ≡ onto ds (item d vs)
onto-push [] d vs = refl
onto-push (e ∷ ds) d vs = ap (item e) (onto-push ds d vs)

onto_none : (ds : List Data) → onto ds none ≡ items_of ds
onto_none [] = refl
onto_none (d ∷ ds) = ap (item d) (onto_none ds)

map-push : (vs : List Value) (x : Value) → map view (vs ++ x ∷ []) ≡ map view vs ++ view x ∷ []
map-push [] x = refl
map-push (v ∷ vs) x = ap (λ ds. view v ∷ ds) (map-push vs x)

-- one more is put
put_more : (old new : List Value) (x : Value) (others : Option Items) → new ≡ old ++ x ∷ [] → with_seen old (item_first (Some (view x)) others) ≡ with_seen new others
put_more old new x None push = refl
put_more old new x (Some vs) push = ap (λ y. let o : Option Items = Some y in o)
    (sym (onto-push (map view old) (view x) vs) ∙ ap (λ ds. onto ds vs) (sym (map-push old x)) ∙ ap (λ ys. onto (map view ys) vs) (sym push))

-- one more is collected
pub collected : (old new : List Value) (x : Value) (o : Option Data) (rest others whole : Option Items) → o ≡ Some (view x) → new ≡ old ++ x ∷ []
    → rest ≡ item_first o others → with_seen old rest ≡ whole → with_seen new others ≡ whole
collected old new x o rest others whole is push next e =
    sym (put_more old new x others push) ∙ ap (λ d. with_seen old (item_first d others)) (sym is) ∙ ap (with_seen old) (sym next) ∙ e

-- there is none, so there are none at all
pub stopped : (old : List Value) (o : Option Data) (rest others whole : Option Items) → o ≡ None → rest ≡ item_first o others → with_seen old rest ≡ whole → None ≡ whole
stopped old o rest others whole is next e = sym (ap (λ d. with_seen old (item_first d others)) is) ∙ ap (with_seen old) (sym next) ∙ e

-- all are
pub complete : (seen items : List Value) (whole : Option Items) → items ≡ seen → with_seen seen (Some none) ≡ whole → ◌≡◌ {A = Option Items} (Some (views items)) whole
complete seen items whole is e = ap (λ ys. let o : Option Items = Some (views ys) in o) is ∙ ap (λ vs. let o : Option Items = Some vs in o) (sym (onto_none (map view seen))) ∙ e

-- Outs

out_back : (a : Arg) (o : Option Data) (others : Option Items) → is_in_way a.way ≡ false → out_first a o others ≡ item_first o others
out_back a o others e = rw e refl

-- one comes back
pub puts_one : (old new : List Value) (x : Value) (a : Arg) (o : Option Data) → is_in_way a.way ≡ false → o ≡ Some (view x) → new ≡ old ++ x ∷ [] → Puts old new true (out_first a o)
puts_one old new x a o e is push others = ap (with_seen old) (out_back a o others e ∙ ap (λ d. item_first d others) is) ∙ put_more old new x others push

-- what a loop leaves

-- an item, where there is one, and others
abbrev pub front : {X : Type 0} → Option X → List X → List X
front None xs = []
front (Some x) xs = x ∷ xs

split_suc : {X : Type 0} (xs : List X) (j : ℕ) → drop j xs ≡ front (slice_get xs j) (drop (suc j) xs)
split_suc [] zero = refl
split_suc [] (suc j) = refl
split_suc (x ∷ xs) zero = refl
split_suc (x ∷ xs) (suc j) = split_suc xs j

pub split : {X : Type 0} (xs : List X) (j : ℕ) → drop j xs ≡ front (slice_get xs j) (drop (j + 1) xs)
split xs j = let one : suc j ≡ j + 1 = omega arith in split_suc xs j ∙ ap (λ k. front (slice_get xs j) (drop k xs)) one

none_suc : {X : Type 0} (xs : List X) (j : ℕ) → slice_get xs j ≡ None → drop (suc j) xs ≡ []
none_suc [] j e = refl
none_suc (x ∷ xs) zero e = cc
none_suc (x ∷ xs) (suc j) e = none_suc xs j e

pub none_behind : {X : Type 0} (xs : List X) (j : ℕ) → slice_get xs j ≡ None → drop (j + 1) xs ≡ []
none_behind xs j e = let one : j + 1 ≡ suc j = omega arith in ap (λ k. drop k xs) one ∙ none_suc xs j e
