-- What a record's fields are read as where some are left out: the first ones, one more, and all.
use Rattle.std.proofs.Common.{◌≡◌, ℕ, ◌+◌, ◌<◌, ◌≤◌, true, nat_le, List, [], ◌∷◌, ◌++◌, get_or, drop, take, length, map, slice_get, Some, Ok, sym, ap, subst, ◌∙◌, arith}
use Rattle.std.specs.List.{range_with_len}
use Rattle.std.proofs.lemmas.Bool.Decides.{nat_tests}
use Rattle.std.proofs.lemmas.List.{length-map, length-take-le, take_all, take_more}
use Rattle.std.proofs.lemmas.Option.{get_or_from_slice_get}
use Rattle.serde_json.specs.Data as json
use Rattle.serde_json.specs.Find.{get_member}
use Rattle.aidl_schema.specs.declared.schema.AidlType.{AidlType}
use Rattle.aidl_schema.specs.declared.schema.Field.{Field}
use Rattle.aidl_values.specs.Data.{Data, Items, rec}
use Rattle.aidl_values.specs.View.{items_of, view}
use Rattle.aidl_values.specs.declared.value.Value.{Value}
use Rattle.aidl_values.proofs.lemmas.Fronts.{with_front}
use Rattle.json_values.specs.FromJson.{fields_from}
use Rattle.json_values.specs.Refusal.{Answer}
use Rattle.json_values.specs.declared.given.Given.{Given}
use Rattle.json_values.specs.steps.Given.{AreGiven, as_record, filled, named_from}
use Rattle.json_values.proofs.Overlaid.{AreBelow, first_below, first_many, overlaid_first}
use Rattle.json_values.proofs.Parts.{fields_more, fields_done}

pub le_true : (m n : ℕ) → nat_le m n ≡ true → m ≤ n
le_true m n is = grind (arith, nat_tests)

-- the values of the first fields
pub begins : (vs : List Value) (g : Given) (ds : List Data) (n : ℕ) (others : ℕ → Answer Items) (whole : Answer Items) → g.places ≡ range_with_len 0 (length vs) → g.values.items ≡ vs → n ≡ length vs → length vs ≤ length ds
    → with_front (map view vs) (others (length vs)) ≡ whole → (with_front (filled g (take n ds)) (others n) ≡ whole) × AreGiven g n
begins vs g ds n others whole places values is short read_as =
    subst (λ k. (with_front (filled g (take k ds)) (others k) ≡ whole) × AreGiven g k) (sym is) (ap (λ es. with_front es (others (length vs))) same ∙ read_as, (below, many))
  where
    seen : length (map view vs) ≡ length vs
    seen = length-map vs view

    here : length (take (length vs) ds) ≡ length (map view vs)
    here = length-take-le (length vs) ds short ∙ sym seen

    numbers : g.places ≡ range_with_len 0 (length (map view vs))
    numbers = places ∙ ap (range_with_len 0) (sym seen)

    same : filled g (take (length vs) ds) ≡ map view vs
    same = rw (numbers, values) (overlaid_first (map view vs) (take (length vs) ds) here)

    below : AreBelow (length vs) g.places
    below = subst (AreBelow (length vs)) (sym places) (first_below (length vs))

    many : length g.places ≡ length g.values.items
    many = ap length places ∙ first_many (length vs) ∙ ap length (sym values)

module _ (default : Field → Answer Data) (read : AidlType → json.Data → Answer Data) (ms : json.Members) (fs : List Field) where
  -- one field more
  pub one_more : (i : ℕ) (f : Field) (g h : Given) (ds : List Data) (d v : Data) (whole : Answer Items) → i < length fs → get_or fs i f ≡ f → slice_get ds i ≡ Some d → i < length ds
      → named_from default read ms f ≡ Ok v → (length (take i ds) ≡ i → filled h (take i ds ++ d ∷ []) ≡ filled g (take i ds) ++ v ∷ [])
      → with_front (filled g (take i ds)) (fields_from default read (drop i fs) (λ key. get_member key ms)) ≡ whole
      → with_front (filled h (take (i + 1) ds)) (fields_from default read (drop (i + 1) fs) (λ key. get_member key ms)) ≡ whole
  one_more i f g h ds d v whole short at here less first put read_as =
      let more : take (i + 1) ds ≡ take i ds ++ d ∷ [] = take_more ds i d less ∙ ap (λ e. take i ds ++ e ∷ []) (get_or_from_slice_get ds i d d here) in
      let now : filled h (take (i + 1) ds) ≡ filled g (take i ds) ++ v ∷ [] = ap (filled h) more ∙ put (length-take-le i ds (omega (arith, less))) in
      ap (λ es. with_front es (fields_from default read (drop (i + 1) fs) (λ key. get_member key ms))) now
      ∙ sym (fields_more default read ms fs i f (filled g (take i ds)) v short at first) ∙ read_as

  -- all fields
  pub all_read : (i : ℕ) (g : Given) (ds : List Data) (whole : Answer Items) → length fs ≤ i → length ds ≡ length fs
      → with_front (filled g (take i ds)) (fields_from default read (drop i fs) (λ key. get_member key ms)) ≡ whole → as_record whole ≡ Ok (rec (items_of (filled g ds)))
  all_read i g ds whole all many read_as =
      ap as_record (sym read_as ∙ fields_done default read ms fs i (filled g (take i ds)) all ∙ ap (λ es. Ok (items_of (filled g es))) (take_all i ds (omega (arith, many, all))))
