-- How many items the openings of arguments have.
use Rattle.std.proofs.Common.{◌≡◌, ℕ, zero, suc, Bool, true, false, List, [], ◌∷◌, Option, Some, None, refl, ap}
use Rattle.aidl_schema.specs.declared.schema.AidlType.{AidlType}
use Rattle.aidl_schema.specs.declared.schema.Decl.{Decl}
use Rattle.aidl_schema.specs.Types.{Form, form_of, is_one, elem}
use Rattle.aidl_schema.specs.Types as form
use Rattle.aidl_values.specs.Data.{Data, count}
use Rattle.aidl_values.specs.Default.{zero_of_form, zero_by, zero_within}
use Rattle.wire_model.specs.Receiver.{zero_in, repeated, array_opening, items_in}
use Rattle.wire_model.specs.Requests.{number_or_0}

count_repeated : (n : ℕ) (v : Data) → count (repeated n v) ≡ n
count_repeated zero v = refl
count_repeated (suc n) v = ap suc (count_repeated n v)

-- an array has as many as its length says
pub items_opened : (S : List Decl) (t : AidlType) (n : Option ℕ) → items_in (array_opening S t n) ≡ number_or_0 n
items_opened S t None = refl
items_opened S t (Some n) = count_repeated n (zero_in S (elem S t))

form_items : (zero_value : AidlType → Data) (f : Form) → items_in (zero_of_form zero_value f) ≡ 0
form_items zero_value form.truth = refl
form_items zero_value form.byte = refl
form_items zero_value form.char = refl
form_items zero_value form.int = refl
form_items zero_value form.long = refl
form_items zero_value form.text = refl
form_items zero_value (form.parcelable fs) = refl
form_items zero_value (form.union []) = refl
form_items zero_value (form.union (f ∷ fs)) = refl
form_items zero_value form.nothing = refl

zero_items : (S : List Decl) (zero_value : AidlType → Data) (t : AidlType) (null_able one : Bool) → t.nullable ≡ null_able → is_one t.shape ≡ one → items_in (zero_by S zero_value t) ≡ 0
zero_items S zero_value t true one e is = rw e refl
zero_items S zero_value t false false e is = rw (e, is) refl
zero_items S zero_value t false true e is = rw (e, is) (form_items zero_value (form_of S t.base))

-- any other value has none
pub default_items : (S : List Decl) (t : AidlType) → items_in (zero_in S t) ≡ 0
unfolding zero_within
default_items S t = zero_items S (λ u. zero_within 32 S u) t t.nullable (is_one t.shape) refl refl
