-- The data of a value by its form, and what a value of another form isn't.
use Rattle.std.proofs.Common.{rules, ◌≡◌, ℕ, ℤ, Bool, false, List, refl, sym, ap}
use Rattle.aidl_values.specs.Data.{Data, null, truth, number, text, seq, rec, alt, Items}
use Rattle.aidl_values.specs.View.{datas, field_datas, items_of, view}
use Rattle.aidl_values.specs.declared.value.Elements.{Elements}
use Rattle.aidl_values.specs.declared.value.Fields.{Fields}
use Rattle.aidl_values.specs.declared.value.Value.{Value, Null, Truth, Number, Text, Seq, Rec, Alt, Alt', the_lemmas}
use Rattle.aidl_values.proofs.lemmas.Views.{view_of_rec, view_of_seq}
use Rattle.value_views.specs.steps.Same.{same_data}

abbrev pub data_of : Value → Data
data_of Null = null
data_of (Truth b) = truth b
data_of (Number n) = number n
data_of (Text x) = text x
data_of (Seq es) = seq (items_of (datas es))
data_of (Rec fs) = rec (items_of (field_datas fs))
data_of (Alt' k b v) = alt k (view v)

pub seen_alt : (k : ℕ) (b : _) → view (Alt k b) ≡ alt k (view b.value)
seen_alt k b = search (rules, the_lemmas)

pub seen : (v : Value) → view v ≡ data_of v
seen Null = search (rules, the_lemmas)
seen (Truth b) = search (rules, the_lemmas)
seen (Number n) = search (rules, the_lemmas)
seen (Text x) = search (rules, the_lemmas)
seen (Seq es) = view_of_seq es
seen (Rec fs) = view_of_rec fs
seen (Alt' k b v) = seen_alt k (record { ptr = b.ptr; alloc = b.alloc; value = v })

pub no_truth : (v : Value) (b : Bool) → ((c : Bool) → v ≡ Truth c → ⊥) → false ≡ same_data (truth b) (view v)
no_truth (Truth c) b h = absurd (h c refl)
no_truth v b h = sym (ap (same_data (truth b)) (seen v))

pub no_number : (v : Value) (n : ℤ) → ((m : ℤ) → v ≡ Number m → ⊥) → false ≡ same_data (number n) (view v)
no_number (Number m) n h = absurd (h m refl)
no_number v n h = sym (ap (same_data (number n)) (seen v))

pub no_text : (v : Value) (x : List ℕ) → ((y : List ℕ) → v ≡ Text y → ⊥) → false ≡ same_data (text x) (view v)
no_text (Text y) x h = absurd (h y refl)
no_text v x h = sym (ap (same_data (text x)) (seen v))

pub no_sequence : (v : Value) (vs : Items) → ((es : Elements) → v ≡ Seq es → ⊥) → false ≡ same_data (seq vs) (view v)
no_sequence (Seq es) vs h = absurd (h es refl)
no_sequence v vs h = sym (ap (same_data (seq vs)) (seen v))

pub no_record : (v : Value) (vs : Items) → ((fs : Fields) → v ≡ Rec fs → ⊥) → false ≡ same_data (rec vs) (view v)
no_record (Rec fs) vs h = absurd (h fs refl)
no_record v vs h = sym (ap (same_data (rec vs)) (seen v))
