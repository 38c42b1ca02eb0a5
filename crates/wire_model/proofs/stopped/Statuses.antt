-- The status of a stop is one of three.
use Rattle.std.proofs.Common.{◌≡◌, ℕ, zero, suc, ℤ, Bool, true, false, List, inl, inr, refl}
use Rattle.aidl_base.specs.declared.profile.Profile.{Profile}
use Rattle.aidl_schema.specs.declared.schema.Decl.{Decl}
use Rattle.aidl_schema.specs.declared.schema.Field.{Field}
use Rattle.aidl_schema.specs.declared.schema.AidlType.{AidlType}
use Rattle.aidl_schema.specs.Types.{Form, form_of, is_one, is_raw, elem}
use Rattle.aidl_schema.specs.Types as form
use Rattle.wire_model.specs.Status.{bad_value, unexpected_null, past, IsStatus}
use Rattle.wire_model.specs.Reads.{Readings, Reads}
use Rattle.wire_model.specs.Stop.{Stoppings, WordStop, LongStop, CountStop, BlockStop, TextStop, ElementsStop, SequenceStop, MarkerStop, SizeStop, FieldsStop, RecordStop, TagStop, UnionStop, OneStop, StopBy, Stop}

past_status : (inside : Bool) → IsStatus (past inside)
past_status true = inl refl
past_status false = inr (inl refl)

bad_status : (s : ℤ) → s ≡ bad_value → IsStatus s
bad_status s e = inl e

word_status : (may : ℤ → Bool) (b : List ℕ) (inside : Bool) (s : ℤ) → WordStop may b inside s → IsStatus s
word_status may b inside s (WordStop.short lt) = past_status inside
word_status may b inside s (WordStop.not_permitted le wrong) = inl refl

long_status : (b : List ℕ) (inside : Bool) (s : ℤ) → LongStop b inside s → IsStatus s
long_status b inside s (LongStop.short lt) = past_status inside

pub count_status : (nullable : Bool) (b : List ℕ) (inside : Bool) (s : ℤ) → CountStop nullable b inside s → IsStatus s
count_status nullable b inside s (CountStop.short lt) = past_status inside
count_status nullable b inside s (CountStop.null_count begins may) = inr (inr refl)
count_status nullable b inside s (CountStop.negative n begins) = inl refl

block_status : (n : ℕ) (HasForm : List ℕ → Type 0) (b : List ℕ) (inside : Bool) (s : ℤ) → BlockStop n HasForm b inside s → IsStatus s
block_status n HasForm b inside s (BlockStop.long_block lt) = past_status inside
block_status n HasForm b inside s (BlockStop.wrong_block le wrong) = inl refl

pub text_status : (p : Profile) (nullable : Bool) (b : List ℕ) (inside : Bool) (s : ℤ) → TextStop p nullable b inside s → IsStatus s
text_status p nullable b inside s (TextStop.at_count h) = count_status nullable b inside s h
text_status p nullable b inside s (TextStop.at_block n begins h) = block_status _ _ _ inside s h

null_status : (s : ℤ) → s ≡ unexpected_null → IsStatus s
null_status s e = inr (inr e)

marker_status : (p : Profile) (nullable : Bool) (b : List ℕ) (inside : Bool) (s : ℤ) → MarkerStop p nullable b inside s → IsStatus s
marker_status p nullable b inside s (MarkerStop.at_word h) = word_status _ b inside s h
marker_status p nullable b inside s (MarkerStop.null_marker begins may is) = null_status s is

size_status : (b : List ℕ) (inside : Bool) (s : ℤ) → SizeStop b inside s → IsStatus s
size_status b inside s (SizeStop.short lt) = past_status inside
size_status b inside s (SizeStop.no_size le wrong) = inl refl
size_status b inside s (SizeStop.long_record z size lt) = past_status inside

tag_status : (fs : List Field) (b : List ℕ) (inside : Bool) (s : ℤ) → TagStop fs b inside s → IsStatus s
tag_status fs b inside s (TagStop.short lt) = past_status inside
tag_status fs b inside s (TagStop.no_tag le wrong) = inl refl

module _ (p : Profile) (S : List Decl) (left : Bool) (PartReads : Readings) (PartStops : Stoppings) (law : (u : AidlType) (c : List ℕ) (j : Bool) (s : ℤ) → PartStops u c j s → IsStatus s) (t : AidlType) (b : List ℕ) (inside : Bool) (s : ℤ) where
  sequence_status : SequenceStop p left (is_raw S t) t.nullable (PartReads (elem S t)) (λ rest s. PartStops (elem S t) rest inside s) b inside s → IsStatus s
  sequence_status (SequenceStop.at_count h) = count_status t.nullable b inside s h
  sequence_status (SequenceStop.too_deep n begins none is) = bad_status s is
  sequence_status (SequenceStop.at_bytes n begins has raw h) = block_status _ _ _ inside s h
  sequence_status (SequenceStop.at_elements n begins has raw (ElementsStop.at_element vs lt front rest split each h)) = law (elem S t) rest inside s h

  record_status : (fs : List Field) → RecordStop p left t.nullable fs PartReads PartStops b inside s → IsStatus s
  record_status fs (RecordStop.at_marker h) = marker_status p t.nullable b inside s h
  record_status fs (RecordStop.too_deep begins none is) = bad_status s is
  record_status fs (RecordStop.at_size begins has h) = size_status _ inside s h
  record_status fs (RecordStop.at_fields begins has z size within (FieldsStop.at_field i f at vs front rest split there some h)) = law f.ty rest true s h

  union_status : (fs : List Field) → UnionStop p left t.nullable fs PartStops b inside s → IsStatus s
  union_status fs (UnionStop.at_marker h) = marker_status p t.nullable b inside s h
  union_status fs (UnionStop.too_deep begins none is) = bad_status s is
  union_status fs (UnionStop.at_tag begins has h) = tag_status fs _ inside s h
  union_status fs (UnionStop.at_field begins has k tag f at h) = law f.ty _ inside s h

  one_status : (f : Form) → OneStop p left PartReads PartStops t.nullable f b inside s → IsStatus s
  one_status form.truth h = word_status _ b inside s h
  one_status form.byte h = word_status _ b inside s h
  one_status form.char h = word_status _ b inside s h
  one_status form.int h = word_status _ b inside s h
  one_status form.long h = long_status b inside s h
  one_status form.text h = text_status p t.nullable b inside s h
  one_status (form.parcelable fs) h = record_status fs h
  one_status (form.union fs) h = union_status fs h
  one_status form.nothing h = elim h [ ]

  by_status : (single : Bool) → is_one t.shape ≡ single → StopBy p S left PartReads PartStops t b inside s → IsStatus s
  by_status true is h = let one : OneStop p left PartReads PartStops t.nullable (form_of S t.base) b inside s = rw is at h in one_status (form_of S t.base) one
  by_status false is h =
      let many : SequenceStop p left (is_raw S t) t.nullable (PartReads (elem S t)) (λ rest s. PartStops (elem S t) rest inside s) b inside s = rw is at h in
      sequence_status many

pub stop_status : (p : Profile) (S : List Decl) (d : ℕ) (t : AidlType) (b : List ℕ) (inside : Bool) (s : ℤ) → Stop p S d t b inside s → IsStatus s
unfolding Stop
stop_status p S zero t b inside s h = by_status p S false (λ u front v. ⊥) (λ u rest j s. ⊥) (λ u c j s h. elim h [ ]) t b inside s (is_one t.shape) refl h
stop_status p S (suc d) t b inside s h =
    by_status p S true (λ u front v. Reads p S d u front v) (λ u rest j s. Stop p S d u rest j s) (λ u c j s h. stop_status p S d u c j s h) t b inside s (is_one t.shape) refl h
