-- Position by position: what is projected from one on is what is projected at it, and then from the next on.
use Rattle.std.proofs.Common.{◌≡◌, ℕ, ◌+◌, ◌<◌, Bool, true, false, List, [], ◌∷◌, length, drop, get_or, Option, Some, None, slice_get, refl, ap, sym, ◌∙◌}
use Rattle.std.specs.Prelude.{option_map, if◌then◌else◌}
use Rattle.aidl_schema.specs.declared.schema.Arg.{Arg}
use Rattle.aidl_schema.specs.declared.schema.Decl.{Decl}
use Rattle.aidl_schema.specs.Methods.{is_in_way}
use Rattle.aidl_values.specs.Data.{Items}
use Rattle.aidl_values.specs.View.{view, views}
use Rattle.aidl_values.specs.declared.value.Value.{Value}
use Rattle.compat_witness.specs.Sides.{projected_arguments, projected_out, projected_outs, out_first, first_of, others_of}
use Rattle.wire_model.specs.Receiver.{zero_in}
use Rattle.wire_model.specs.View.{item_first}
use Rattle.witness_calls.specs.steps.Collected.{Puts, with_seen}
use Rattle.witness_calls.specs.steps.Positions.{argument_seen, out_seen, left_after}
use Rattle.witness_calls.proofs.Collected.{front, split, none_behind}
use Rattle.witness_calls.proofs.lemmas.Drops.{drop_at}

-- Arguments

no_sent : (A B : List Decl) (ys : List Arg) (vs ws : Items) → projected_arguments A [] B ys vs ≡ projected_arguments A [] B ys ws
no_sent A B [] vs ws = refl
no_sent A B (b ∷ ys) vs ws = ap (item_first (Some (zero_in B b.ty))) (no_sent A B ys vs ws)

by_argument : (A : List Decl) (o : Option Arg) (xs : List Arg) (B : List Decl) (b : Arg) (ys : List Arg) (p : Option Value) (vs : List Value) → (o ≡ None → xs ≡ []) → (p ≡ None → vs ≡ [])
    → projected_arguments A (front o xs) B (b ∷ ys) (views (front p vs)) ≡ item_first (argument_seen A o B b (option_map view p)) (projected_arguments A xs B ys (views vs))
by_argument A None xs B b ys p vs e f =
    ap (item_first (Some (zero_in B b.ty))) (no_sent A B ys (views (front p vs)) (views vs) ∙ ap (λ zs. projected_arguments A zs B ys (views vs)) (sym (e refl)))
by_argument A (Some a) xs B b ys None vs e f = ap (λ zs. item_first (Some (zero_in B b.ty)) (projected_arguments A xs B ys (views zs))) (sym (f refl))
by_argument A (Some a) xs B b ys (Some v) vs e f = refl

pub next_argument : (A : List Decl) (xs : List Arg) (B : List Decl) (ys : List Arg) (vs : List Value) (k : ℕ) (b : Arg) → k < length ys → b ≡ get_or ys k b
    → projected_arguments A (drop k xs) B (drop k ys) (views (drop k vs))
    ≡ item_first (argument_seen A (slice_get xs k) B b (option_map view (slice_get vs k))) (projected_arguments A (drop (k + 1) xs) B (drop (k + 1) ys) (views (drop (k + 1) vs)))
next_argument A xs B ys vs k b lt is =
    ap (λ zs. projected_arguments A zs B (drop k ys) (views (drop k vs))) (split xs k)
    ∙ ap (λ zs. projected_arguments A (front (slice_get xs k) (drop (k + 1) xs)) B zs (views (drop k vs))) (drop_at ys k b lt is)
    ∙ ap (λ zs. projected_arguments A (front (slice_get xs k) (drop (k + 1) xs)) B (b ∷ drop (k + 1) ys) (views zs)) (split vs k)
    ∙ by_argument A (slice_get xs k) (drop (k + 1) xs) B b (drop (k + 1) ys) (slice_get vs k) (drop (k + 1) vs) (none_behind xs k) (none_behind vs k)

-- Outs

by_out : (B : List Decl) (o : Option Arg) (ys : List Arg) (A : List Decl) (a : Arg) (xs : List Arg) (vs : Items) → (o ≡ None → ys ≡ [])
    → projected_outs B (front o ys) A (a ∷ xs) vs ≡ out_first a (out_seen B o A a (first_of vs)) (projected_outs B ys A xs (left_after o vs))
by_out B None ys A a xs vs e = ap (λ zs. out_first a (Some (zero_in A a.ty)) (projected_outs B zs A xs vs)) (sym (e refl))
by_out B (Some b) ys A a xs vs e = by_way (is_in_way b.way)
  where
    by_way : (w : Bool) → (if w then out_first a (Some (zero_in A a.ty)) (projected_outs B ys A xs vs)
        else out_first a (projected_out B b A a (first_of vs)) (projected_outs B ys A xs (others_of vs)))
        ≡ out_first a (if w then Some (zero_in A a.ty) else projected_out B b A a (first_of vs)) (projected_outs B ys A xs (if w then vs else others_of vs))
    by_way true = refl
    by_way false = refl

pub next_out : (B : List Decl) (ys : List Arg) (A : List Decl) (xs : List Arg) (vs : Items) (k : ℕ) (a : Arg) → k < length xs → a ≡ get_or xs k a
    → projected_outs B (drop k ys) A (drop k xs) vs
    ≡ out_first a (out_seen B (slice_get ys k) A a (first_of vs)) (projected_outs B (drop (k + 1) ys) A (drop (k + 1) xs) (left_after (slice_get ys k) vs))
next_out B ys A xs vs k a lt is =
    ap (λ zs. projected_outs B zs A (drop k xs) vs) (split ys k)
    ∙ ap (λ zs. projected_outs B (front (slice_get ys k) (drop (k + 1) ys)) A zs vs) (drop_at xs k a lt is)
    ∙ by_out B (slice_get ys k) (drop (k + 1) ys) A a (drop (k + 1) xs) vs (none_behind ys k)

-- one step further
next_put : (A : List Decl) (ys : List Arg) (B : List Decl) (xs : List Arg) (vs left : Items) (k : ℕ) (a : Arg) (from : Option Arg)
    → k < length xs → a ≡ get_or xs k a → from ≡ slice_get ys k → left ≡ left_after from vs
    → projected_outs A (drop k ys) B (drop k xs) vs ≡ out_first a (out_seen A from B a (first_of vs)) (projected_outs A (drop (k + 1) ys) B (drop (k + 1) xs) left)
next_put A ys B xs vs left k a from lt is at same =
    next_out A ys B xs vs k a lt is
    ∙ ap (λ o. out_first a (out_seen A o B a (first_of vs)) (projected_outs A (drop (k + 1) ys) B (drop (k + 1) xs) (left_after o vs))) (sym at)
    ∙ ap (λ z. out_first a (out_seen A from B a (first_of vs)) (projected_outs A (drop (k + 1) ys) B (drop (k + 1) xs) z)) (sym same)

pub outs_on : (A : List Decl) (ys : List Arg) (B : List Decl) (xs : List Arg) (vs left : Items) (k : ℕ) (a : Arg) (from : Option Arg) (old new : List Value) (going : Bool) (whole : Option Items)
    → k < length xs → a ≡ get_or xs k a → from ≡ slice_get ys k → left ≡ left_after from vs
    → Puts old new going (λ others. out_first a (out_seen A from B a (first_of vs)) others) → going ≡ true → with_seen old (projected_outs A (drop k ys) B (drop k xs) vs) ≡ whole
    → with_seen new (projected_outs A (drop (k + 1) ys) B (drop (k + 1) xs) left) ≡ whole
outs_on A ys B xs vs left k a from old new going whole lt is at same puts yes' e =
    sym (puts (projected_outs A (drop (k + 1) ys) B (drop (k + 1) xs) left)
    ∙ ap (λ b. if b then with_seen new (projected_outs A (drop (k + 1) ys) B (drop (k + 1) xs) left) else None) yes')
    ∙ ap (with_seen old) (sym (next_put A ys B xs vs left k a from lt is at same)) ∙ e

pub outs_stop : (A : List Decl) (ys : List Arg) (B : List Decl) (xs : List Arg) (vs : Items) (k : ℕ) (a : Arg) (from : Option Arg) (old new : List Value) (going : Bool) (whole : Option Items)
    → k < length xs → a ≡ get_or xs k a → from ≡ slice_get ys k
    → Puts old new going (λ others. out_first a (out_seen A from B a (first_of vs)) others) → going ≡ false → with_seen old (projected_outs A (drop k ys) B (drop k xs) vs) ≡ whole
    → None ≡ whole
outs_stop A ys B xs vs k a from old new going whole lt is at puts no' e =
    sym (puts (projected_outs A (drop (k + 1) ys) B (drop (k + 1) xs) (left_after from vs))
    ∙ ap (λ b. if b then with_seen new (projected_outs A (drop (k + 1) ys) B (drop (k + 1) xs) (left_after from vs)) else None) no')
    ∙ ap (with_seen old) (sym (next_put A ys B xs vs (left_after from vs) k a from lt is at refl)) ∙ e
