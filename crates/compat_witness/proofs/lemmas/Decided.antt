-- Whether a candidate counts, and whether its two sides differ, is decided.
use Rattle.std.proofs.Common.{◌≡◌, ℕ, ℤ, pos, negsuc, Bool, true, false, List, [], ◌∷◌, length, Option, Some, None, slice_get, refl, subst}
use Rattle.std.specs.Prelude.{MatchBool}
use Rattle.std.specs.Ordering.{int_eq}
use Rattle.std.specs.Str.{all_scalars}
use Rattle.std.proofs.Math.Decide.{dec_le, map_dec}
use Rattle.std.proofs.Math.IntN.{ℤ_discrete}
use Rattle.aidl_base.specs.Ranges.{is_between, is_in}
use Rattle.aidl_base.specs.declared.range.Range.TheVariants.{Int}
use Rattle.aidl_base.proofs.lemmas.Ranges.{fits_int, int_fits}
use Rattle.aidl_schema.specs.declared.schema.AidlType.{AidlType}
use Rattle.aidl_schema.specs.declared.schema.Arg.{Arg}
use Rattle.aidl_schema.specs.declared.schema.Decl.{Decl}
use Rattle.aidl_schema.specs.declared.schema.Field.{Field}
use Rattle.aidl_schema.specs.Constants.{in_range}
use Rattle.aidl_schema.specs.Types.{Form, elem, form_of, is_array, is_one}
use Rattle.aidl_schema.specs.Types as form
use Rattle.aidl_values.specs.Data.{Data, null, truth, number, text, seq, rec, alt, Items, none, item, depth_of}
use Rattle.aidl_values.specs.Fits.{Fits}
use Rattle.aidl_values.specs.HasType.{FieldsHaveType, HasType, HaveType}
use Rattle.wire_model.specs.Calls.{AnswerData, returned, exception, arguments, is_oneway, is_out, out_types, result_type}
use Rattle.wire_model.specs.MethodOf.{MethodOf, method_of}
use Rattle.wire_model.specs.Requests.{ArgsFit, ArgumentFits, ArgumentsFit, EachFits, ExceptionFits, IsAnswer, IsLength, ResultFits, service_specific, sum_of_lengths}
use Rattle.compat_witness.specs.Candidates.{Candidate, Counts, Differs, IsAnswerAt, IsAnswerOf, Values, ValuesFit, answered, bytes_of, client_of, counterpart, fit_between, projected_side, read_side, server_of}
use Rattle.compat_witness.specs.Candidates as candidate
use Rattle.compat_witness.proofs.lemmas.SameSides.{both_decided, same_bool, same_data, same_side}

-- Of tests

is_true : (b : Bool) → Dec (b ≡ true)
is_true b = same_bool b true

is_false : (b : Bool) → Dec (b ≡ false)
is_false b = same_bool b false

either_way : {P Q : Type 0} (b : Bool) → Dec P → Dec Q → Dec (MatchBool b P Q)
either_way true p q = p
either_way false p q = q

implied : {P Q : Type 0} → Dec P → Dec Q → Dec (P → Q)
implied (yes h) (yes k) = yes (λ x. k)
implied (yes h) (no k) = no (λ f. k (f h))
implied (no h) d = yes (λ x. absurd (h x))

not_so : {P : Type 0} → Dec P → Dec (P → ⊥)
not_so (yes h) = no (λ k. k h)
not_so (no h) = yes h

-- Of the types of values

is_truth : (F : Form) → Dec (F ≡ form.truth)
is_truth form.truth = yes refl
is_truth _ = no (λ e. cc)

is_text : (F : Form) → Dec (F ≡ form.text)
is_text form.text = yes refl
is_text _ = no (λ e. cc)

module _ (S : List Decl) where
  -- the fields of what a base means, where it is a parcelable
  has_fields : (F : Form) (vs : Items) → ((fs : List Field) → Dec (FieldsHaveType S fs vs)) → Dec ((fs : List Field) × (F ≡ form.parcelable fs) × FieldsHaveType S fs vs)
  has_fields (form.parcelable fs) vs each = by (each fs)
    where
      by : Dec (FieldsHaveType S fs vs) → Dec ((gs : List Field) × (form.parcelable fs ≡ form.parcelable gs) × FieldsHaveType S gs vs)
      by (yes h) = yes (fs, refl, h)
      by (no h) = no (λ x. let same : x.0 ≡ fs = let e = x.1 in cc in h (subst (λ gs. FieldsHaveType S gs vs) same x.2))
  has_fields _ vs each = no (λ x. let e = x.1 in cc)

  -- the alternative of a tag
  has_field : (fs : List Field) (k : ℕ) (v : Data) → ((t : AidlType) → Dec (HasType S t v)) → Dec ((f : Field) × (slice_get fs k ≡ Some f) × HasType S f.ty v)
  has_field fs k v each = by (slice_get fs k)
    where
      here : (f : Field) → Dec (HasType S f.ty v) → Dec ((g : Field) × (◌≡◌ {A = Option Field} (Some f) (Some g)) × HasType S g.ty v)
      here f (yes h) = yes (f, refl, h)
      here f (no h) = no (λ x. let same : x.0 ≡ f = let e = x.1 in cc in h (subst (λ g. HasType S g.ty v) same x.2))

      by : (o : Option Field) → Dec ((f : Field) × (o ≡ Some f) × HasType S f.ty v)
      by None = no (λ x. let e = x.1 in cc)
      by (Some f) = here f (each f.ty)

  has_alternative : (F : Form) (k : ℕ) (v : Data) → ((t : AidlType) → Dec (HasType S t v))
      → Dec ((fs : List Field) × (F ≡ form.union fs) × (f : Field) × (slice_get fs k ≡ Some f) × HasType S f.ty v)
  has_alternative (form.union fs) k v each = by (has_field fs k v each)
    where
      by : Dec ((f : Field) × (slice_get fs k ≡ Some f) × HasType S f.ty v)
          → Dec ((gs : List Field) × (form.union fs ≡ form.union gs) × (f : Field) × (slice_get gs k ≡ Some f) × HasType S f.ty v)
      by (yes h) = yes (fs, refl, h.0, h.1, h.2)
      by (no h) = no (λ x. let same : x.0 ≡ fs = let e = x.1 in cc in h (x.2, subst (λ gs. slice_get gs k ≡ Some x.2) same x.3, x.4))
  has_alternative _ k v each = no (λ x. let e = x.1 in cc)

  mutual
    has_type : (t : AidlType) (v : Data) → Dec (HasType S t v)
    has_type t null = is_true t.nullable
    has_type t (truth b) = both_decided (is_true (is_one t.shape)) (is_truth (form_of S t.base))
    has_type t (number n) = both_decided (is_true (is_one t.shape)) (is_true (in_range (form_of S t.base) n))
    has_type t (text x) = map_dec (λ h. (h.0, h.1.0, h.1.1)) (λ h. (h.0, (h.1, h.2)))
        (both_decided (is_true (is_one t.shape)) (both_decided (is_text (form_of S t.base)) (is_true (all_scalars x))))
    has_type t (seq vs) = both_decided (is_false (is_one t.shape)) (have_type (elem S t) vs)
    has_type t (rec vs) = map_dec (λ h. (h.0, h.1.0, h.1.1, h.1.2)) (λ h. (h.0, (h.1, h.2, h.3)))
        (both_decided (is_true (is_one t.shape)) (has_fields (form_of S t.base) vs (λ fs. fields_have_type fs vs)))
    has_type t (alt k v) = map_dec (λ h. (h.0, h.1.0, h.1.1, h.1.2, h.1.3, h.1.4)) (λ h. (h.0, (h.1, h.2, h.3, h.4, h.5)))
        (both_decided (is_true (is_one t.shape)) (has_alternative (form_of S t.base) k v (λ u. has_type u v)))

    have_type : (t : AidlType) (vs : Items) → Dec (HaveType S t vs)
    have_type t none = yes tt
    have_type t (item v vs) = both_decided (has_type t v) (have_type t vs)

    fields_have_type : (fs : List Field) (vs : Items) → Dec (FieldsHaveType S fs vs)
    fields_have_type [] none = yes tt
    fields_have_type [] (item v vs) = no (λ h. h)
    fields_have_type (f ∷ fs) none = no (λ h. h)
    fields_have_type (f ∷ fs) (item v vs) = both_decided (has_type f.ty v) (fields_have_type fs vs)

  fits : (t : AidlType) (v : Data) → Dec (Fits S t v)
  fits t v = map_dec (λ h. record { typed = h.0; deep = h.1 }) (λ h. (h.typed, h.deep)) (both_decided (has_type t v) (dec_le (depth_of v) 64))

-- Of the arguments of a request

is_length : (t : AidlType) (v : Data) → Dec (IsLength t v)
is_length t null = is_true t.nullable
is_length t (number (pos n)) = yes tt
is_length t (number (negsuc n)) = no (λ h. h)
is_length t (truth b) = no (λ h. h)
is_length t (text x) = no (λ h. h)
is_length t (seq vs) = no (λ h. h)
is_length t (rec vs) = no (λ h. h)
is_length t (alt k v) = no (λ h. h)

module _ (S : List Decl) where
  argument_fits : (a : Arg) (v : Data) → Dec (ArgumentFits S a v)
  argument_fits a v = either_way (is_out a.way) (either_way (is_array a.ty.shape) (is_length a.ty v) (same_data v null)) (fits S a.ty v)

  arguments_fit : (xs : List Arg) (vs : Items) → Dec (ArgumentsFit S xs vs)
  arguments_fit [] none = yes tt
  arguments_fit [] (item v vs) = no (λ h. h)
  arguments_fit (a ∷ xs) none = no (λ h. h)
  arguments_fit (a ∷ xs) (item v vs) = both_decided (argument_fits a v) (arguments_fit xs vs)

  args_fit : (i m : ℕ) (args : Items) → Dec (ArgsFit (method_of S i m) args)
  args_fit i m args =
      map_dec (λ h. record { each = h.0; few = h.1 }) (λ h. (h.each, h.few))
      (both_decided (arguments_fit (arguments (method_of S i m)) args) (dec_le (sum_of_lengths (arguments (method_of S i m)) args) 65536))

  -- Of the answer in a reply

  result_fits : (t : Option AidlType) (r : Option Data) → Dec (ResultFits S t r)
  result_fits (Some t) (Some v) = fits S t v
  result_fits (Some t) None = no (λ h. h)
  result_fits None (Some v) = no (λ h. h)
  result_fits None None = yes tt

  each_fits : (ts : List AidlType) (vs : Items) → Dec (EachFits S ts vs)
  each_fits [] none = yes tt
  each_fits [] (item v vs) = no (λ h. h)
  each_fits (t ∷ ts) none = no (λ h. h)
  each_fits (t ∷ ts) (item v vs) = both_decided (fits S t v) (each_fits ts vs)

exception_fits : (code : ℤ) (message : List ℕ) (error : ℤ) → Dec (ExceptionFits code message error)
exception_fits code message error =
    map_dec (λ h. record { known = h.0.0; scalars = h.0.1; int = h.1.0; no_error = h.1.1 }) (λ h. ((h.known, h.scalars), (h.int, h.no_error)))
    (both_decided (both_decided (is_true (is_between (negsuc 7) (negsuc 0) code)) (is_true (all_scalars message)))
    (both_decided (map_dec (int_fits error) (fits_int error) (is_true (is_in Int error))) (implied (is_false (int_eq code service_specific)) (ℤ_discrete error (pos 0)))))

module _ (S : List Decl) (i m : ℕ) where
  is_answer : (a : AnswerData) → Dec (IsAnswer (method_of S i m) a)
  is_answer (returned r outs) = both_decided (result_fits S (result_type (method_of S i m)) r) (each_fits S (out_types (method_of S i m)) outs)
  is_answer (exception code message error) = exception_fits code message error

  is_answer_of : (a : Option AnswerData) → Dec (IsAnswerOf (method_of S i m) a)
  is_answer_of None = is_true (is_oneway (method_of S i m))
  is_answer_of (Some a) = both_decided (is_false (is_oneway (method_of S i m))) (is_answer a)

is_answer_at : (found : Option MethodOf) (a : Option AnswerData) → Dec (IsAnswerAt found a)
is_answer_at None a = no (λ h. h)
is_answer_at (Some b) a = is_answer_of b.declarations b.interface b.method a

-- Of a candidate

values_fit : (A B : List Decl) (i m : ℕ) (values : Values) → Dec (fit_between (method_of A i m) B values)
values_fit A B i m (candidate.arguments args) = args_fit A i m args
values_fit A B i m (answered a) = is_answer_at (counterpart (method_of A i m) B) a

module _ (old new : List Decl) (c : Candidate) where
  pub counts : Dec (Counts old new c)
  counts = map_dec (λ h. record { fits = h.0; small = h.1 }) (λ h. (h.fits, h.small))
      (both_decided (values_fit (client_of c.back old new) (server_of c.back old new) c.interface c.method c.values) (dec_le (length (bytes_of old new c)) 1048576))

  pub differs : Dec (Differs old new c)
  differs = not_so (same_side (read_side old new c) (projected_side old new c))
