-- Views that are collected, and what a loop leaves.
use Rattle.std.proofs.Common.{rules, ◌≡◌, ℕ, zero, suc, ◌+◌, ◌<◌, ◌≤◌, nat_lt, Bool, true, false, List, [], ◌∷◌, ◌++◌, map, length, drop, get_or, Option, Some, None, slice_get, refl, ap, sym, ◌∙◌, arith}
use Rattle.std.specs.Prelude.{option_map, if◌then◌else◌}
use Rattle.std.proofs.lemmas.Bool.Decides.{nat_tests}
use Rattle.std.proofs.lemmas.Option.{slice_get_read}
use Rattle.aidl_schema.specs.declared.schema.AidlType.{AidlType}
use Rattle.aidl_schema.specs.declared.schema.Decl.{Decl}
use Rattle.aidl_schema.specs.declared.schema.Field.{Field}
use Rattle.aidl_values.specs.Data.{Data, Items, none, item, alt, rec}
use Rattle.aidl_values.specs.View.{items_of, view, views}
use Rattle.aidl_values.specs.declared.value.Fields.TheVariants.{Whole}
use Rattle.aidl_values.specs.declared.value.Value.{Value, Rec}
use Rattle.aidl_values.proofs.lemmas.Views.{fields_whole, view_of_rec}
use Rattle.aidl_values.specs.Sound.{initial_in}
use Rattle.wire_model.specs.View.{◌>>=◌, item_first, each_field, view_of, view_items, view_named, field_named, or_initial}
use Rattle.value_views.specs.steps.Places.{below, place_named}
use Rattle.value_views.specs.steps.Seen.{onto, with_seen, field_view}
use Rattle.value_views.proofs.Named.{named_there, seen_beyond, seen_nowhere, seen_there, unnamed}

onto-push : (ds : List Data) (d : Data) (vs : Items) → onto (ds ++ d ∷ []) vs ≡ onto ds (item d vs)
onto-push [] d vs = refl
onto-push (e ∷ ds) d vs = ap (item e) (onto-push ds d vs)

pub onto_none : (ds : List Data) → onto ds none ≡ items_of ds
onto_none [] = refl
onto_none (d ∷ ds) = ap (item d) (onto_none ds)

seen_more : (ds : List Data) (v : Data) (others : Option Items) → with_seen ds (item_first (Some v) others) ≡ with_seen (ds ++ v ∷ []) others
seen_more ds v None = refl
seen_more ds v (Some vs) = ap (λ x. let o : Option Items = Some x in o) (sym (onto-push ds v vs))

map-push : (vs : List Value) (x : Value) → map view (vs ++ x ∷ []) ≡ map view vs ++ view x ∷ []
map-push [] x = refl
map-push (v ∷ vs) x = ap (λ ds. view v ∷ ds) (map-push vs x)

-- one more is collected
pub collected : (seen : List Value) (x : Value) (items : List Value) (o : Option Data) (others whole : Option Items) → o ≡ Some (view x) → items ≡ seen ++ x ∷ []
    → with_seen (map view seen) (item_first o others) ≡ whole → with_seen (map view items) others ≡ whole
collected seen x items o others whole is push e =
    ap (λ ys. with_seen (map view ys) others) push ∙ ap (λ ds. with_seen ds others) (map-push seen x) ∙ sym (seen_more (map view seen) (view x) others)
    ∙ ap (λ o. with_seen (map view seen) (item_first o others)) (sym is) ∙ e

-- all are
pub complete : (seen items : List Value) (whole : Option Items) → items ≡ seen → with_seen (map view seen) (Some none) ≡ whole → ◌≡◌ {A = Option Items} (Some (views items)) whole
complete seen items whole is e = ap (λ ys. let o : Option Items = Some (views ys) in o) is ∙ ap (λ vs. let o : Option Items = Some vs in o) (sym (onto_none (map view seen))) ∙ e

-- what a loop leaves
dropped : {X : Type 0} (xs : List X) (j : ℕ) (x : X) → j < length xs → x ≡ get_or xs j x → drop j xs ≡ x ∷ drop (suc j) xs
dropped [] j x lt e = absurd (omega arith)
dropped (y ∷ xs) zero x lt e = ap (λ z. z ∷ xs) (sym e)
dropped (y ∷ xs) (suc j) x lt e = dropped xs j x (omega arith) e

pub drop_at : {X : Type 0} (xs : List X) (j : ℕ) (x : X) → j < length xs → x ≡ get_or xs j x → drop j xs ≡ x ∷ drop (j + 1) xs
drop_at xs j x lt e = let one : suc j ≡ j + 1 = omega arith in dropped xs j x lt e ∙ ap (λ k. x ∷ drop k xs) one

pub drop_all : {X : Type 0} (xs : List X) (j : ℕ) → length xs ≤ j → drop j xs ≡ []
drop_all [] zero h = refl
drop_all [] (suc j) h = refl
drop_all (x ∷ xs) zero h = absurd (omega arith)
drop_all (x ∷ xs) (suc j) h = drop_all xs j (omega arith)

-- the next element, and the next field
pub next_item : (A : List Decl) (t : AidlType) (B : List Decl) (u : AidlType) (vs : List Value) (j : ℕ) (v : Value) → j < length vs → v ≡ get_or vs j v
    → view_items A t B u (views (drop j vs)) ≡ item_first (view_of A t B u (view v)) (view_items A t B u (views (drop (j + 1) vs)))
next_item A t B u vs j v lt is = ap (λ ys. view_items A t B u (views ys)) (drop_at vs j v lt is)

pub next_field : (F : Field → Option Data) (gs : List Field) (j : ℕ) (g : Field) → j < length gs → g ≡ get_or gs j g → each_field F (drop j gs) ≡ item_first (F g) (each_field F (drop (j + 1) gs))
next_field F gs j g lt is = ap (each_field F) (drop_at gs j g lt is)

-- the view of an alternative, by its parts
module _ (A B : List Decl) (sent : Option Field) (f : Field) (at : sent ≡ Some f) (v : Data) (fields : List Field) where
  abbrev alternative_of : Option Field → Option Data
  alternative_of o = (o >>= (λ f. field_named 0 f.name.0 fields >>= (λ q. option_map (alt q.0) (view_of A f.ty B q.1.ty v))))

  abbrev placed_at : Option (ℕ × Field) → Option Data
  placed_at o = (o >>= (λ q. option_map (alt q.0) (view_of A f.ty B q.1.ty v)))

  pub alternative : (fs : List Field) (k : ℕ) (g : Field) (o : Option Data) → fs ≡ fields → Some k ≡ place_named f.name.0 fields → k < length fields → g ≡ get_or fs k g → view_of A f.ty B g.ty v ≡ o
      → option_map (alt k) o ≡ alternative_of sent
  alternative fs k g o are named lt is seen =
      let read : slice_get fs k ≡ Some g = slice_get_read fs (length fields) k g (sym (ap length are)) lt is in
      let there : slice_get fields k ≡ Some g = ap (λ xs. slice_get xs k) (sym are) ∙ read in
      sym (ap alternative_of at ∙ ap placed_at (named_there f.name.0 fields k g (sym named) there) ∙ ap (option_map (alt k)) seen)

  pub no_alternative : None ≡ place_named f.name.0 fields → None ≡ alternative_of sent
  no_alternative missing = sym (ap alternative_of at ∙ ap placed_at (unnamed f.name.0 fields (sym missing)))

-- the view of a field, by its parts
module _ (A B : List Decl) (g : Field) (fields : List Field) (ds : List Data) where
  pub nowhere_seen : (o : Option ℕ) → o ≡ below (length ds) (place_named g.name.0 fields) → o ≡ None → Some (initial_in B g) ≡ field_view A fields B (items_of ds) g
  nowhere_seen o at missing = sym (ap (λ s. or_initial s (initial_in B g)) (by (place_named g.name.0 fields) refl (sym at ∙ missing)))
    where
      by_test : (i : ℕ) (b : Bool) → nat_lt i (length ds) ≡ b → place_named g.name.0 fields ≡ Some i → (if b then Some i else None) ≡ None → view_named A fields B g (items_of ds) ≡ None
      by_test i true lt is e = cc
      by_test i false lt is e = seen_beyond A B g fields ds i is (grind (arith, nat_tests))

      by : (p : Option ℕ) → place_named g.name.0 fields ≡ p → below (length ds) p ≡ None → view_named A fields B g (items_of ds) ≡ None
      by None is e = seen_nowhere A B g fields ds is
      by (Some i) is e = by_test i (nat_lt i (length ds)) refl is e

  was_below : (n k : ℕ) (p : Option ℕ) → Some k ≡ below n p → p ≡ Some k
  was_below n k None e = cc
  was_below n k (Some i) e = by (nat_lt i n) e
    where
      by : (b : Bool) → Some k ≡ (if b then Some i else None) → ◌≡◌ {A = Option ℕ} (Some i) (Some k)
      by true e = sym e
      by false e = cc

  pub there_seen : (n k : ℕ) (fs : List Field) (f : Field) (d : Data) → Some k ≡ below n (place_named g.name.0 fields) → fs ≡ fields → k < length fields → f ≡ get_or fs k f → slice_get ds k ≡ Some d
      → view_of A f.ty B g.ty d ≡ field_view A fields B (items_of ds) g
  there_seen n k fs f d at are lt is has =
      let read : slice_get fs k ≡ Some f = slice_get_read fs (length fields) k f (sym (ap length are)) lt is in
      let there : slice_get fields k ≡ Some f = ap (λ xs. slice_get xs k) (sym are) ∙ read in
      sym (ap (λ s. or_initial s (initial_in B g)) (seen_there A B g fields ds k f d (was_below n k (place_named g.name.0 fields) at) there has))

-- the data of one level
pub seen_rec : (vs : List Value) → view (Rec (Whole vs)) ≡ rec (views vs)
seen_rec vs = view_of_rec (Whole vs) ∙ ap (λ ds. rec (items_of ds)) (fields_whole vs)
