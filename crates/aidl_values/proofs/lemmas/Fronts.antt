-- Collecting values one after the other, up to the first failure: those so far, and what comes of the others.
use Rattle.std.proofs.Common.{◌≡◌, List, [], ◌∷◌, ◌++◌, Result, Ok, Err, refl, ap, sym}
use Rattle.aidl_base.specs.Results.{◌>>=◌}
use Rattle.aidl_values.specs.Data.{Data, Items, none, item}
use Rattle.aidl_values.specs.View.{items_of}

-- the values, and then more
abbrev pub onto : List Data → Items → Items
onto [] vs = vs
onto (d ∷ ds) vs = item d (onto ds vs)

pub onto-push : (ds : List Data) (d : Data) (vs : Items) → onto (ds ++ d ∷ []) vs ≡ onto ds (item d vs)
onto-push [] d vs = refl
onto-push (e ∷ ds) d vs = ap (item e) (onto-push ds d vs)

pub onto-none : (ds : List Data) → onto ds none ≡ items_of ds
onto-none [] = refl
onto-none (d ∷ ds) = ap (item d) (onto-none ds)

pub onto-items : (ds es : List Data) → onto ds (items_of es) ≡ items_of (ds ++ es)
onto-items [] es = refl
onto-items (d ∷ ds) es = ap (item d) (onto-items ds es)

-- the values so far, and what comes of the others
abbrev pub with_front : {R : Type 0} → List Data → Result Items R → Result Items R
with_front ds others = others >>= λ vs. Ok (onto ds vs)

-- a value is one of those so far, or the first of the others
pub front_more : {R : Type 0} (ds : List Data) (v : Data) (others : Result Items R) → with_front ds (others >>= λ vs. Ok (item v vs)) ≡ with_front (ds ++ v ∷ []) others
front_more ds v (Ok vs) = ap Ok (sym (onto-push ds v vs))
front_more ds v (Err r) = refl
