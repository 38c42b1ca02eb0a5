-- The items of a value end as its reading does: with the same bytes left, or the same status.
use Rattle.std.proofs.Common.{◌≡◌, ℕ, zero, suc, ◌+◌, ℤ, Bool, true, false, cond, List, [], ◌∷◌, Option, Some, None, slice_get, drop, Result, Ok, Err, refl, sym, ap, ◌∙◌}
use Rattle.std.specs.Fmt.{decimal}
use Rattle.aidl_base.specs.declared.profile.Profile.TheVariants.{Strict}
use Rattle.aidl_base.specs.Readings.{Read, ◌>>=◌, count_at, text_at, block_at, raw_at, counted_at}
use Rattle.aidl_schema.specs.declared.schema.AidlType.{AidlType}
use Rattle.aidl_schema.specs.declared.schema.Decl.{Decl}
use Rattle.aidl_schema.specs.declared.schema.Field.{Field}
use Rattle.aidl_schema.specs.Types.{Form, form_of, is_one, is_raw, elem}
use Rattle.aidl_schema.specs.Types as form
use Rattle.aidl_values.specs.Data.{Data, rec, alt, seq, Items, item}
use Rattle.aidl_values.specs.Sound.{initial_in}
use Rattle.wire_model.specs.ReadOf.{array_at, body_at, body_value_at, each_at, elements_at, fields_at, marked_at, marker_at, ok_field, one_at, raw_items, raw_items_at, read_as, read_of, record_at, tag_at, tagged_at, text_data, union_at}
use Rattle.wire_model.specs.Status.{bad_value}
use Rattle.parcel_explain.specs.declared.item.ItemKind.{ItemKind}
use Rattle.parcel_explain.specs.declared.item.ItemKind.TheVariants as kind
use Rattle.parcel_explain.specs.Items.{Noting, below, block_item, body_items, bytes_item, chosen_items, counted_items, elements_items, fields_items, items_of, no_items, one_items, record_items, sequence_items, tail_item, text_items, union_items}
use Rattle.parcel_explain.specs.Marks.{count_in_level, elements_count_at, field_tag_at, marker_in_level, size_at, value_marker_at}
use Rattle.parcel_explain.specs.Noted.{Noted, Notes, Part, Wrong, no_more, noted_as, then_noted}

-- the bytes after what was found, or the status of the wrong item
abbrev pub end_of : {A : Type 0} → Result (A × List ℕ) Wrong → Result (List ℕ) ℤ
end_of (Ok x) = Ok x.1
end_of (Err wrong) = Err wrong.status

-- the bytes after what was read, or the status
abbrev pub read_end : {A : Type 0} → Read A → Result (List ℕ) ℤ
read_end (Ok x) = Ok x.1
read_end (Err status) = Err status

abbrev pub EndsAs : {A B : Type 0} → Noted A → Read B → Type 0
EndsAs x y = end_of x.found ≡ read_end y

-- a step of noting
abbrev step : {A B : Type 0} → Noted A → (A × List ℕ → Noted B) → Noted B
step x next = then_noted x.parts x.found next

-- an item, and what follows it
item_then : {A B C : Type 0} (path : List ℕ) (k : ItemKind) (b : List ℕ) (r : Read A) (next : A × List ℕ → Noted B) (more : A × List ℕ → Read C)
    → ((x : A × List ℕ) → EndsAs (next x) (more x)) → EndsAs (step (noted_as path k b r) next) (r >>= more)
item_then path k b (Ok x) next more h = h x
item_then path k b (Err s) next more h = refl

-- the parts of a value, and what follows them
chain : {A B C : Type 0} (parts : List Part) (f : Result (Unit {0} × List ℕ) Wrong) (y : Read A) (next : Unit {0} × List ℕ → Noted B) (more : A × List ℕ → Read C)
    → end_of f ≡ read_end y → ((u : Unit {0}) (v : A) (c : List ℕ) → EndsAs (next (u, c)) (more (v, c))) → end_of (then_noted parts f next).found ≡ read_end (y >>= more)
chain parts (Ok x) (Ok y) next more e h =
    let same : x.1 ≡ y.1 = cc in
    ap (λ c. end_of (next (x.0, c)).found) same ∙ h x.0 y.0 y.1
chain parts (Ok x) (Err s) next more e h = absurd cc
chain parts (Err w) (Ok y) next more e h = absurd cc
chain parts (Err w) (Err s) next more e h = e

-- what becomes of the value doesn't count
kept_end : {A B : Type 0} (r : Read A) (f : A → B) → read_end (r >>= λ x. Ok (f x.0, x.1)) ≡ read_end r
kept_end (Ok x) f = refl
kept_end (Err s) f = refl

value_ends : {A : Type 0} (seen : A → Data) (path b : List ℕ) (r : Read A) → EndsAs (step (noted_as path kind.Value b r) (λ x. no_more x.1)) (read_as seen r)
value_ends seen path b r = item_then path kind.Value b r (λ x. no_more x.1) (λ y. Ok (seen y.0, y.1)) (λ x. refl)

-- a String
module _ (path : List ℕ) (inside : Bool) where
  block_ends : (b : List ℕ) (r : Read (List ℕ)) → EndsAs (step (noted_as path kind.Block b r) (λ x. no_more x.1)) (read_as text_data (r >>= λ x. Ok (Some x.0, x.1)))
  block_ends b (Ok x) = refl
  block_ends b (Err s) = refl

  units_ends : (n : Option ℕ) (b : List ℕ) → EndsAs (block_item path inside n b) (read_as text_data (counted_at (λ m c. block_at Strict m inside c) n b))
  units_ends None b = refl
  units_ends (Some m) b = block_ends b (block_at Strict m inside b)

  text_count : (b : List ℕ) (r : Read (Option ℕ)) → EndsAs (step (noted_as path kind.Count b r) (λ n. block_item path inside n.0 n.1))
      (read_as text_data (r >>= λ n. counted_at (λ m c. block_at Strict m inside c) n.0 n.1))
  text_count b (Ok x) = units_ends x.0 x.1
  text_count b (Err s) = refl

  text_ends : (nullable : Bool) (b : List ℕ) → EndsAs (text_items nullable path inside b) (read_as text_data (text_at Strict nullable inside b))
  unfolding text_items text_at
  text_ends nullable b = text_count b (count_at nullable inside b)

-- an array or a List
module _ (left raw inside : Bool) (path : List ℕ) (note : List ℕ → List ℕ → Notes) (read : List ℕ → Read Data) (parts : (q b : List ℕ) → EndsAs (note q b) (read b)) where
  each_ends : (n k : ℕ) (b : List ℕ) → EndsAs (elements_items note path k n b) (each_at read n b)
  each_ends zero k b = refl
  each_ends (suc n) k b =
      let one = note (below path (decimal k)) b in
      chain one.parts one.found (read b) (λ x. elements_items note path (k + 1) n x.1) (λ first. each_at read n first.1 >>= λ others. Ok (item first.0 others.0, others.1)) (parts (below path (decimal k)) b)
      (λ u v c. each_ends n (k + 1) c ∙ sym (kept_end (each_at read n c) (λ others. item v others)))

  abbrev as_seq : Read Items → Read Data
  as_seq x = x >>= λ vs. Ok (seq vs.0, vs.1)

  raw_ends : (b : List ℕ) (r : Read (List ℕ)) → EndsAs (bytes_item path b r) (as_seq (r >>= λ x. Ok (raw_items x.0, x.1)))
  raw_ends b (Ok x) = refl
  raw_ends b (Err s) = refl

  some_ends : (raw : Bool) (n : ℕ) (b : List ℕ)
      → EndsAs (counted_items raw note path inside (Some n) b) (as_seq (cond {A = Read Items} raw (raw_items_at Strict n inside b) (each_at read n b)))
  unfolding raw_items_at
  some_ends true n b = raw_ends b (raw_at Strict n inside b)
  some_ends false n b = each_ends n 0 b ∙ sym (kept_end (each_at read n b) (λ vs. seq vs))

  level_ends : (left : Bool) (n : Option ℕ) (at b : List ℕ)
      → EndsAs (step (noted_as path kind.Count at (count_in_level left n >>= λ m. Ok (m, b))) (λ m. counted_items raw note path inside m.0 m.1)) (elements_at Strict left raw read inside n b)
  unfolding elements_at
  level_ends left None at b = refl
  level_ends true (Some n) at b = some_ends raw n b
  level_ends false (Some n) at b = refl

  count_ends : (b : List ℕ) (r : Read (Option ℕ))
      → EndsAs (step (noted_as path kind.Count b (r >>= λ n. count_in_level left n.0 >>= λ m. Ok (m, n.1))) (λ m. counted_items raw note path inside m.0 m.1)) (r >>= λ n. elements_at Strict left raw read inside n.0 n.1)
  count_ends b (Ok x) = level_ends left x.0 b x.1
  count_ends b (Err s) = refl

  sequence_ends : (nullable : Bool) (b : List ℕ) → EndsAs (sequence_items left raw nullable note path inside b) (array_at Strict left raw nullable read inside b)
  unfolding sequence_items elements_count_at array_at
  sequence_ends nullable b = count_ends b (count_at nullable inside b)

-- a marker, and what is there
module _ (left inside : Bool) (path : List ℕ) (note : List ℕ → Notes) (read : List ℕ → Read Data) (there : (b : List ℕ) → EndsAs (note b) (read b)) where
  there_ends : (left m : Bool) (at b : List ℕ)
      → EndsAs (step (noted_as path kind.Marker at (marker_in_level left m >>= λ y. Ok (y, b))) (λ y. cond {A = Notes} y.0 (note y.1) (no_more y.1))) (marked_at left read m b)
  there_ends left false at b = refl
  there_ends true true at b = there b
  there_ends false true at b = refl

  pub marked_ends : (b : List ℕ) (r : Read Bool)
      → EndsAs (step (noted_as path kind.Marker b (r >>= λ m. marker_in_level left m.0 >>= λ y. Ok (y, m.1))) (λ y. cond {A = Notes} y.0 (note y.1) (no_more y.1))) (r >>= λ m. marked_at left read m.0 m.1)
  marked_ends b (Ok x) = there_ends left x.0 b x.1
  marked_ends b (Err s) = refl

-- a parcelable
module _ (left inside : Bool) (path : List ℕ) (initial : Field → Data) (note : AidlType → List ℕ → List ℕ → Notes) (read : AidlType → List ℕ → Read Data)
    (parts : (u : AidlType) (q b : List ℕ) → EndsAs (note u q b) (read u b)) where
  -- whether all is right, or the status
  abbrev good : {A : Type 0} → Result A Wrong → Result (Unit {0}) ℤ
  good (Ok x) = Ok tt
  good (Err w) = Err w.status

  abbrev read_good : {A : Type 0} → Result A ℤ → Result (Unit {0}) ℤ
  read_good (Ok x) = Ok tt
  read_good (Err s) = Err s

  -- fields of which no bytes are left
  all_default : (fs : List Field) → read_good (fields_at initial (λ f c. read f.ty c) fs []) ≡ Ok tt
  all_default [] = refl
  all_default (f ∷ fs) = others (fields_at initial (λ f c. read f.ty c) fs []) (all_default fs)
    where
      others : (r : Result Items ℤ) → read_good r ≡ Ok tt → read_good (r >>= λ vs. Ok (item (initial f) vs)) ≡ Ok tt
      others (Ok vs) e = refl
      others (Err s) e = absurd cc

  field_then : (p : List Part) (f : Result (Unit {0} × List ℕ) Wrong) (y : Read Data) (next : List ℕ → Notes) (more : List ℕ → Result Items ℤ)
      → end_of f ≡ read_end y → ((c : List ℕ) → good (next c).found ≡ read_good (more c))
      → good (then_noted p f (λ x. next x.1)).found ≡ read_good (y >>= λ first. more first.1 >>= λ others. Ok (item first.0 others))
  field_then p (Ok x) (Ok y) next more e h =
      let same : x.1 ≡ y.1 = cc in
      ap (λ c. good (next c).found) same ∙ h y.1 ∙ sym (wrapped (more y.1))
    where
      wrapped : (r : Result Items ℤ) → read_good (r >>= λ others. Ok (item y.0 others)) ≡ read_good r
      wrapped (Ok vs) = refl
      wrapped (Err s) = refl
  field_then p (Ok x) (Err s) next more e h = absurd cc
  field_then p (Err w) (Ok y) next more e h = absurd cc
  field_then p (Err w) (Err s) next more e h = ap (λ (r : Result (List ℕ) ℤ). read_good r) e

  fields_good : (fs : List Field) (b : List ℕ) → good (fields_items note path fs b).found ≡ read_good (fields_at initial (λ f c. read f.ty c) fs b)
  fields_good [] b = refl
  fields_good (f ∷ fs) [] = sym (all_default (f ∷ fs))
  fields_good (f ∷ fs) (y ∷ b) =
      let one = note f.ty (below path f.name.0) (y ∷ b) in
      field_then one.parts one.found (read f.ty (y ∷ b)) (λ c. fields_items note path fs c) (λ c. fields_at initial (λ f c. read f.ty c) fs c) (parts f.ty (below path f.name.0) (y ∷ b)) (λ c. fields_good fs c)

  tail_ends : (p : List Part) (f : Result (Unit {0} × List ℕ) Wrong) (r : Result Items ℤ) (after : List ℕ) → good f ≡ read_good r
      → end_of (then_noted p f (λ rest. tail_item path rest.1 after)).found ≡ read_end (r >>= λ vs. Ok (rec vs, after))
  tail_ends p (Ok x) (Ok vs) after e = refl
  tail_ends p (Ok x) (Err s) after e = absurd cc
  tail_ends p (Err w) (Ok vs) after e = absurd cc
  tail_ends p (Err w) (Err s) after e = ap (λ (r : Result (Unit {0}) ℤ). to_end r) e
    where
      to_end : Result (Unit {0}) ℤ → Result (List ℕ) ℤ
      to_end (Ok u) = Ok after
      to_end (Err s) = Err s

  size_ends : (fs : List Field) (b : List ℕ) (r : Read (List ℕ))
      → EndsAs (step (noted_as path kind.Size b (r >>= λ inner. Ok (inner, drop 4 b))) (λ z. step (fields_items note path fs z.0.0) (λ rest. tail_item path rest.1 z.0.1)))
      (r >>= λ inner. fields_at initial (λ f c. read f.ty c) fs inner.0 >>= λ vs. Ok (rec vs, inner.1))
  size_ends fs b (Ok x) = let inner = fields_items note path fs x.0 in tail_ends inner.parts inner.found (fields_at initial (λ f c. read f.ty c) fs x.0) x.1 (fields_good fs x.0)
  size_ends fs b (Err s) = refl

  body_ends : (fs : List Field) (b : List ℕ) → EndsAs (body_items note path fs inside b) (body_value_at initial (λ f c. read f.ty c) fs inside b)
  unfolding body_items size_at body_value_at
  body_ends fs b = size_ends fs b (body_at inside b)

  pub record_ends : (nullable : Bool) (fs : List Field) (b : List ℕ) → EndsAs (record_items left nullable note path fs inside b) (record_at Strict left nullable initial (λ f c. read f.ty c) fs inside b)
  unfolding record_items value_marker_at record_at
  record_ends nullable fs b = marked_ends left inside path (λ c. body_items note path fs inside c) (λ c. body_value_at initial (λ f c. read f.ty c) fs inside c) (λ c. body_ends fs c) b (marker_at Strict nullable inside b)

  -- a union
  chosen_then : (k : ℕ) (at c : List ℕ) (r : Result Field ℤ)
      → EndsAs (step (noted_as path kind.Tag at (r >>= λ f. Ok (f, c))) (λ f. note f.0.ty (below path f.0.name.0) f.1)) (r >>= λ f. read f.ty c >>= λ v. Ok (alt k v.0, v.1))
  chosen_then k at c (Ok f) = parts f.ty (below path f.name.0) c ∙ sym (kept_end (read f.ty c) (λ v. alt k v))
  chosen_then k at c (Err s) = refl

  tag_ends : (fs : List Field) (b : List ℕ) (r : Read ℕ)
      → EndsAs (step (noted_as path kind.Tag b (r >>= λ k. ok_field (slice_get fs k.0) >>= λ f. Ok (f, k.1))) (λ f. note f.0.ty (below path f.0.name.0) f.1))
      (r >>= λ k. ok_field (slice_get fs k.0) >>= λ f. read f.ty k.1 >>= λ v. Ok (alt k.0 v.0, v.1))
  tag_ends fs b (Ok x) = chosen_then x.0 b x.1 (ok_field (slice_get fs x.0))
  tag_ends fs b (Err s) = refl

  chosen_ends : (fs : List Field) (b : List ℕ) → EndsAs (chosen_items note path fs inside b) (tagged_at (λ f c. read f.ty c) fs inside b)
  unfolding chosen_items field_tag_at tagged_at
  chosen_ends fs b = tag_ends fs b (tag_at inside b)

  pub union_ends : (nullable : Bool) (fs : List Field) (b : List ℕ) → EndsAs (union_items left nullable note path fs inside b) (union_at Strict left nullable (λ f c. read f.ty c) fs inside b)
  unfolding union_items value_marker_at union_at
  union_ends nullable fs b = marked_ends left inside path (λ c. chosen_items note path fs inside c) (λ c. tagged_at (λ f c. read f.ty c) fs inside c) (λ c. chosen_ends fs c) b (marker_at Strict nullable inside b)

-- one level
module _ (left : Bool) (initial : Field → Data) (note : Noting) (read : AidlType → Bool → List ℕ → Read Data)
    (parts : (u : AidlType) (q : List ℕ) (j : Bool) (b : List ℕ) → EndsAs (note u q j b) (read u j b)) (path : List ℕ) (inside : Bool) (b : List ℕ) where
  one_ends : (nullable : Bool) (f : Form) → EndsAs (one_items left note nullable path f inside b) (one_at Strict left initial read nullable f inside b)
  one_ends nullable form.truth = value_ends _ path b _
  one_ends nullable form.byte = value_ends _ path b _
  one_ends nullable form.char = value_ends _ path b _
  one_ends nullable form.int = value_ends _ path b _
  one_ends nullable form.long = value_ends _ path b _
  one_ends nullable form.text = text_ends path inside nullable b
  one_ends nullable (form.parcelable fs) = record_ends left inside path initial (λ u q c. note u q true c) (λ u c. read u true c) (λ u q c. parts u q true c) nullable fs b
  one_ends nullable (form.union fs) = union_ends left inside path initial (λ u q c. note u q inside c) (λ u c. read u inside c) (λ u q c. parts u q inside c) nullable fs b
  one_ends nullable form.nothing = refl

  level_is : (S : List Decl) (t : AidlType) (one : Bool)
      → EndsAs (cond {A = Notes} one (one_items left note t.nullable path (form_of S t.base) inside b) (sequence_items left (is_raw S t) t.nullable (λ q c. note (elem S t) q inside c) path inside b))
      (cond {A = Read Data} one (one_at Strict left initial read t.nullable (form_of S t.base) inside b) (array_at Strict left (is_raw S t) t.nullable (λ c. read (elem S t) inside c) inside b))
  level_is S t true = one_ends t.nullable (form_of S t.base)
  level_is S t false = sequence_ends left (is_raw S t) inside path (λ q c. note (elem S t) q inside c) (λ c. read (elem S t) inside c) (λ q c. parts (elem S t) q inside c) t.nullable b

-- The items of a value end as its reading does.
pub items_ends : (S : List Decl) (d : ℕ) (t : AidlType) (path : List ℕ) (inside : Bool) (b : List ℕ) → EndsAs (items_of S d t path inside b) (read_of Strict S d t inside b)
unfolding items_of read_of
items_ends S zero t path inside b = level_is false (λ f. initial_in S f) (λ u q j c. no_items q) (λ u j c. Err bad_value) (λ u q j c. refl) path inside b S t (is_one t.shape)
items_ends S (suc d) t path inside b =
    level_is true (λ f. initial_in S f) (λ u q j c. items_of S d u q j c) (λ u j c. read_of Strict S d u j c) (λ u q j c. items_ends S d u q j c) path inside b S t (is_one t.shape)
