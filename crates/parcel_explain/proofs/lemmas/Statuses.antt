-- The last part is a stop exactly where a value isn't read, with the same status.
use Rattle.std.proofs.Common.{◌≡◌, ℕ, zero, suc, ◌+◌, ℤ, Bool, true, false, cond, List, [], ◌∷◌, ◌++◌, Option, Some, None, Result, Ok, Err, refl, ap, ◌∙◌, subst}
use Rattle.std.specs.Fmt.{decimal}
use Rattle.aidl_base.specs.declared.profile.Profile.TheVariants.{Strict}
use Rattle.aidl_base.specs.Readings.{Read, ◌>>=◌, block_at, byte_at, char_at, count_at, long_at, raw_at, truth_at, word_at}
use Rattle.aidl_schema.specs.declared.schema.AidlType.{AidlType}
use Rattle.aidl_schema.specs.declared.schema.Decl.{Decl}
use Rattle.aidl_schema.specs.declared.schema.Field.{Field}
use Rattle.aidl_schema.specs.Types.{Form, form_of, is_one, is_raw, elem}
use Rattle.aidl_schema.specs.Types as form
use Rattle.aidl_values.specs.Data.{Data}
use Rattle.wire_model.specs.ReadOf.{read_of}
use Rattle.parcel_explain.specs.declared.item.ItemKind.{ItemKind}
use Rattle.parcel_explain.specs.declared.item.ItemKind.TheVariants as kind
use Rattle.parcel_explain.specs.Ends.{AreOfValues, EndsBy, NoneStopsBefore, is_of_value, last_status, read_each, status_in, status_of_end}
use Rattle.parcel_explain.specs.Items.{Noting, below, block_item, body_items, bytes_item, chosen_items, counted_items, elements_items, fields_items, items_of, last_part, no_items, one_items, parts_of, record_items, sequence_items, tail_item, text_items, union_items, value_item, values_items}
use Rattle.parcel_explain.specs.Marks.{elements_count_at, field_tag_at, size_at, value_marker_at}
use Rattle.parcel_explain.specs.Noted.{Noted, Notes, Part, Wrong, no_more, noted_as, part, part_of_some, then_noted}
use Rattle.parcel_explain.proofs.lemmas.Ends.{end_of, items_ends, read_end}
use Rattle.parcel_explain.proofs.lemmas.Joins.{rest_is}

right_append : (ps qs : List Part) → AreOfValues ps → AreOfValues qs → AreOfValues (ps ++ qs)
right_append [] qs h k = k
right_append (p ∷ ps) qs h k = (h.0, right_append ps qs h.1 k)

then_right : {A B : Type 0} (ps : List Part) (f : Result (A × List ℕ) Wrong) (next : A × List ℕ → Noted B) → AreOfValues ps → ((x : A × List ℕ) → AreOfValues (next x).parts) → AreOfValues (then_noted ps f next).parts
then_right ps (Ok x) next h k = right_append ps (next x).parts h (k x)
then_right ps (Err w) next h k = h

item_right : {A : Type 0} (path : List ℕ) (k : ItemKind) (b : List ℕ) (r : Read A) → is_of_value k ≡ true → AreOfValues (noted_as path k b r).parts
item_right path k b (Ok x) h = (h, tt)
item_right path k b (Err s) h = tt

some_right : (path : List ℕ) (k : ItemKind) (bytes : List ℕ) → is_of_value k ≡ true → AreOfValues (part_of_some path k bytes)
some_right path k [] h = tt
some_right path k (x ∷ bytes) h = (h, tt)

-- an item, and what follows it
item_then : {A B : Type 0} (path : List ℕ) (k : ItemKind) (b : List ℕ) (r : Read A) (next : A × List ℕ → Noted B) → is_of_value k ≡ true → ((x : A × List ℕ) → AreOfValues (next x).parts)
    → AreOfValues (then_noted (noted_as path k b r).parts (noted_as path k b r).found next).parts
item_then path k b r next h more = let one = noted_as path k b r in then_right one.parts one.found next (item_right path k b r h) more

value_right : {A : Type 0} (path : List ℕ) (read : List ℕ → Read A) (b : List ℕ) → AreOfValues (value_item path read b).parts
value_right path read b = item_then path kind.Value b (read b) (λ x. no_more x.1) refl (λ x. tt)

block_right : (path : List ℕ) (inside : Bool) (n : Option ℕ) (b : List ℕ) → AreOfValues (block_item path inside n b).parts
block_right path inside None b = tt
block_right path inside (Some n) b = item_then path kind.Block b (block_at Strict n inside b) (λ x. no_more x.1) refl (λ x. tt)

text_right : (nullable : Bool) (path : List ℕ) (inside : Bool) (b : List ℕ) → AreOfValues (text_items nullable path inside b).parts
unfolding text_items
text_right nullable path inside b = item_then path kind.Count b (count_at nullable inside b) (λ n. block_item path inside n.0 n.1) refl (λ n. block_right path inside n.0 n.1)

bytes_right : (path b : List ℕ) (r : Read (List ℕ)) → AreOfValues (bytes_item path b r).parts
bytes_right path b (Ok x) = some_right path kind.Bytes _ refl
bytes_right path b (Err s) = tt

module _ (left raw inside : Bool) (note : List ℕ → List ℕ → Notes) (parts : (q b : List ℕ) → AreOfValues (note q b).parts) (path : List ℕ) where
  each_right : (n k : ℕ) (b : List ℕ) → AreOfValues (elements_items note path k n b).parts
  each_right zero k b = tt
  each_right (suc n) k b =
      let one = note (below path (decimal k)) b in
      then_right one.parts one.found (λ x. elements_items note path (k + 1) n x.1) (parts (below path (decimal k)) b) (λ x. each_right n (k + 1) x.1)

  some_items : (raw : Bool) (n : ℕ) (b : List ℕ) → AreOfValues (counted_items raw note path inside (Some n) b).parts
  some_items true n b = bytes_right path b (raw_at Strict n inside b)
  some_items false n b = each_right n 0 b

  counted_right : (n : Option ℕ) (b : List ℕ) → AreOfValues (counted_items raw note path inside n b).parts
  counted_right None b = tt
  counted_right (Some n) b = some_items raw n b

  sequence_right : (nullable : Bool) (b : List ℕ) → AreOfValues (sequence_items left raw nullable note path inside b).parts
  unfolding sequence_items
  sequence_right nullable b = item_then path kind.Count b (elements_count_at left nullable inside b) (λ n. counted_items raw note path inside n.0 n.1) refl (λ n. counted_right n.0 n.1)

module _ (left inside : Bool) (note : AidlType → List ℕ → List ℕ → Notes) (parts : (u : AidlType) (q b : List ℕ) → AreOfValues (note u q b).parts) (path : List ℕ) where
  fields_right : (fs : List Field) (b : List ℕ) → AreOfValues (fields_items note path fs b).parts
  fields_right [] b = tt
  fields_right (f ∷ fs) [] = tt
  fields_right (f ∷ fs) (y ∷ b) =
      let one = note f.ty (below path f.name.0) (y ∷ b) in
      then_right one.parts one.found (λ x. fields_items note path fs x.1) (parts f.ty (below path f.name.0) (y ∷ b)) (λ x. fields_right fs x.1)

  body_right : (fs : List Field) (b : List ℕ) → AreOfValues (body_items note path fs inside b).parts
  unfolding body_items
  body_right fs b = item_then path kind.Size b (size_at inside b) (λ z. then_noted (fields_items note path fs z.0.0).parts (fields_items note path fs z.0.0).found (λ rest. tail_item path rest.1 z.0.1)) refl
      (λ z. let fields = fields_items note path fs z.0.0 in then_right fields.parts fields.found (λ rest. tail_item path rest.1 z.0.1) (fields_right fs z.0.0) (λ rest. some_right path kind.Tail rest.1 refl))

  chosen_right : (fs : List Field) (b : List ℕ) → AreOfValues (chosen_items note path fs inside b).parts
  unfolding chosen_items
  chosen_right fs b = item_then path kind.Tag b (field_tag_at fs inside b) (λ f. note f.0.ty (below path f.0.name.0) f.1) refl (λ f. parts f.0.ty (below path f.0.name.0) f.1)

  there_right : (there : List ℕ → Notes) → ((c : List ℕ) → AreOfValues (there c).parts) → (m : Bool) (b : List ℕ) → AreOfValues (cond {A = Notes} m (there b) (no_more b)).parts
  there_right there h true b = h b
  there_right there h false b = tt

  record_right : (nullable : Bool) (fs : List Field) (b : List ℕ) → AreOfValues (record_items left nullable note path fs inside b).parts
  unfolding record_items
  record_right nullable fs b = item_then path kind.Marker b (value_marker_at left nullable inside b) (λ m. cond {A = Notes} m.0 (body_items note path fs inside m.1) (no_more m.1)) refl
      (λ m. there_right (λ c. body_items note path fs inside c) (λ c. body_right fs c) m.0 m.1)

  union_right : (nullable : Bool) (fs : List Field) (b : List ℕ) → AreOfValues (union_items left nullable note path fs inside b).parts
  unfolding union_items
  union_right nullable fs b = item_then path kind.Marker b (value_marker_at left nullable inside b) (λ m. cond {A = Notes} m.0 (chosen_items note path fs inside m.1) (no_more m.1)) refl
      (λ m. there_right (λ c. chosen_items note path fs inside c) (λ c. chosen_right fs c) m.0 m.1)

module _ (left : Bool) (note : Noting) (parts : (u : AidlType) (q : List ℕ) (j : Bool) (b : List ℕ) → AreOfValues (note u q j b).parts) (path : List ℕ) (inside : Bool) (b : List ℕ) where
  one_right : (nullable : Bool) (f : Form) → AreOfValues (one_items left note nullable path f inside b).parts
  one_right nullable form.truth = value_right path (λ c. truth_at Strict inside c) b
  one_right nullable form.byte = value_right path (λ c. byte_at Strict inside c) b
  one_right nullable form.char = value_right path (λ c. char_at Strict inside c) b
  one_right nullable form.int = value_right path (λ c. word_at inside c) b
  one_right nullable form.long = value_right path (λ c. long_at inside c) b
  one_right nullable form.text = text_right nullable path inside b
  one_right nullable (form.parcelable fs) = record_right left inside (λ u q c. note u q true c) (λ u q c. parts u q true c) path nullable fs b
  one_right nullable (form.union fs) = union_right left inside (λ u q c. note u q inside c) (λ u q c. parts u q inside c) path nullable fs b
  one_right nullable form.nothing = tt

  level_right : (S : List Decl) (t : AidlType) (one : Bool)
      → AreOfValues (cond {A = Notes} one (one_items left note t.nullable path (form_of S t.base) inside b) (sequence_items left (is_raw S t) t.nullable (λ q c. note (elem S t) q inside c) path inside b)).parts
  level_right S t true = one_right t.nullable (form_of S t.base)
  level_right S t false = sequence_right left (is_raw S t) inside (λ q c. note (elem S t) q inside c) (λ q c. parts (elem S t) q inside c) path t.nullable b

items_right : (S : List Decl) (d : ℕ) (t : AidlType) (path : List ℕ) (inside : Bool) (b : List ℕ) → AreOfValues (items_of S d t path inside b).parts
unfolding items_of
items_right S zero t path inside b = level_right false (λ u q j c. no_items q) (λ u q j c. tt) path inside b S t (is_one t.shape)
items_right S (suc d) t path inside b = level_right true (λ u q j c. items_of S d u q j c) (λ u q j c. items_right S d u q j c) path inside b S t (is_one t.shape)

values_right : (S : List Decl) (k : ℕ) (ts : List AidlType) (b : List ℕ) → AreOfValues (values_items S k ts b).parts
values_right S k [] b = tt
values_right S k (t ∷ ts) b =
    let one = items_of S 64 t (below [] (decimal k)) false b in
    then_right one.parts one.found (λ x. values_items S (k + 1) ts x.1) (items_right S 64 t (below [] (decimal k)) false b) (λ x. values_right S (k + 1) ts x.1)

-- The values end as reading them does.
each_then : (ps : List Part) (f : Result (Unit {0} × List ℕ) Wrong) (y : Read Data) (next : List ℕ → Notes) (more : List ℕ → Result (List ℕ) ℤ)
    → end_of f ≡ read_end y → ((c : List ℕ) → end_of (next c).found ≡ more c) → end_of (then_noted ps f (λ x. next x.1)).found ≡ (y >>= λ x. more x.1)
each_then ps (Ok x) (Ok y) next more e h = let same : x.1 ≡ y.1 = cc in ap (λ c. end_of (next c).found) same ∙ h y.1
each_then ps (Ok x) (Err s) next more e h = absurd cc
each_then ps (Err w) (Ok y) next more e h = absurd cc
each_then ps (Err w) (Err s) next more e h = e

pub values_end : (S : List Decl) (k : ℕ) (ts : List AidlType) (b : List ℕ) → end_of (values_items S k ts b).found ≡ read_each S ts b
values_end S k [] b = refl
values_end S k (t ∷ ts) b =
    let one = items_of S 64 t (below [] (decimal k)) false b in
    each_then one.parts one.found (read_of Strict S 64 t false b) (λ c. values_items S (k + 1) ts c) (λ c. read_each S ts c) (items_ends S 64 t (below [] (decimal k)) false b) (λ c. values_end S (k + 1) ts c)

no_status : (k : ItemKind) → is_of_value k ≡ true → status_in k ≡ None
no_status (kind.Stop s) h = absurd cc
no_status kind.Value h = refl
no_status kind.Count h = refl
no_status kind.Block h = refl
no_status kind.Bytes h = refl
no_status kind.Marker h = refl
no_status kind.Size h = refl
no_status kind.Tag h = refl
no_status kind.Tail h = refl
no_status kind.Left h = refl

left_last : (ps : List Part) (rest : List ℕ) → AreOfValues ps → last_status (ps ++ part_of_some [] kind.Left rest) ≡ None
left_last [] [] h = refl
left_last [] (x ∷ rest) h = refl
left_last (p ∷ []) [] h = no_status p.kind h.0
left_last (p ∷ []) (x ∷ rest) h = refl
left_last (p ∷ q ∷ ps) rest h = left_last (q ∷ ps) rest h.1

stop_last : (ps : List Part) (path : List ℕ) (s : ℤ) (bytes : List ℕ) → last_status (ps ++ part path (kind.Stop s) bytes) ≡ Some s
stop_last [] path s bytes = refl
stop_last (p ∷ []) path s bytes = refl
stop_last (p ∷ q ∷ ps) path s bytes = stop_last (q ∷ ps) path s bytes

by_end : (ps : List Part) (f : Result (Unit {0} × List ℕ) Wrong) (rest : List ℕ) → AreOfValues ps → last_status (ps ++ last_part rest f) ≡ status_of_end (end_of f)
by_end ps (Ok x) rest h = left_last ps rest h
by_end ps (Err w) rest h = stop_last ps w.path w.status rest

-- The last part is a stop exactly where a value isn't read, with its status.
pub parts_status : (S : List Decl) (ts : List AidlType) (b : List ℕ) → last_status (parts_of S ts b) ≡ status_of_end (read_each S ts b)
parts_status S ts b = let x = values_items S 0 ts b in by_end x.parts x.found _ (values_right S 0 ts b) ∙ ap status_of_end (values_end S 0 ts b)

-- No part before the last is a stop.
left_before : (ps : List Part) (rest : List ℕ) → AreOfValues ps → NoneStopsBefore (ps ++ part_of_some [] kind.Left rest)
left_before [] [] h = tt
left_before [] (x ∷ rest) h = tt
left_before (p ∷ []) [] h = tt
left_before (p ∷ []) (x ∷ rest) h = (no_status p.kind h.0, tt)
left_before (p ∷ q ∷ ps) rest h = (no_status p.kind h.0, left_before (q ∷ ps) rest h.1)

one_behind : (ps : List Part) (last : Part) → AreOfValues ps → NoneStopsBefore (ps ++ last ∷ [])
one_behind [] last h = tt
one_behind (p ∷ []) last h = (no_status p.kind h.0, tt)
one_behind (p ∷ q ∷ ps) last h = (no_status p.kind h.0, one_behind (q ∷ ps) last h.1)

before_end : (ps : List Part) (f : Result (Unit {0} × List ℕ) Wrong) (rest : List ℕ) → AreOfValues ps → NoneStopsBefore (ps ++ last_part rest f)
before_end ps (Ok x) rest h = left_before ps rest h
before_end ps (Err w) rest h = one_behind ps (record { path = w.path; kind = kind.Stop w.status; bytes = rest }) h

pub parts_before : (S : List Decl) (ts : List AidlType) (b : List ℕ) → NoneStopsBefore (parts_of S ts b)
parts_before S ts b = let x = values_items S 0 ts b in before_end x.parts x.found _ (values_right S 0 ts b)

-- The parts end as reading the values does.
found_by : (ps : List Part) (f : Result (Unit {0} × List ℕ) Wrong) (behind : List ℕ) → AreOfValues ps → ((rest : List ℕ) → f ≡ Ok (tt, rest) → behind ≡ rest) → EndsBy (ps ++ last_part behind f) (end_of f)
found_by ps (Ok x) behind h rest_is = (ps, h, ap (λ c. ps ++ part_of_some [] kind.Left c) (rest_is x.1 refl))
found_by ps (Err w) behind h rest_is = (ps, h, w.path, behind, refl)

pub parts_end : (S : List Decl) (ts : List AidlType) (b : List ℕ) → EndsBy (parts_of S ts b) (read_each S ts b)
parts_end S ts b =
    let x = values_items S 0 ts b in
    subst (λ end. EndsBy (parts_of S ts b) end) (values_end S 0 ts b) (found_by x.parts x.found _ (values_right S 0 ts b) (λ rest e. rest_is S ts b rest e))
