-- The direction of the one argument of a method differs: what comes back unasked, or what is left over, shows it.
use Rattle.std.proofs.Common.{◌≡◌, ◌≢◌, ℕ, ◌+◌, ◌≤◌, ℤ, pos, Bool, true, false, not, ◌&&◌, ◌||◌, ◌==◌, cond, List, [], ◌∷◌, ◌++◌, length, Option, Some, None, slice_get, Result, Ok, Err, ◌⊎◌, inl, inr, refl, sym, ap, ◌∙◌, subst, arith, length-append}
use Rattle.std.specs.Prelude.{is_none}
use Rattle.std.proofs.lemmas.List.{append-nil}
use Rattle.aidl_base.proofs.lemmas.Tests.{both, neither}
use Rattle.aidl_base.proofs.lemmas.Words.{word_again, count_again, fits_pos}
use Rattle.aidl_base.specs.declared.profile.Profile.TheVariants.{Strict}
use Rattle.aidl_base.specs.Words.{word, pad}
use Rattle.aidl_schema.specs.declared.schema.AidlType.{AidlType}
use Rattle.aidl_schema.specs.declared.schema.Arg.{Arg}
use Rattle.aidl_schema.specs.declared.schema.Base.{Base}
use Rattle.aidl_schema.specs.declared.schema.Base.TheVariants as base
use Rattle.aidl_schema.specs.declared.schema.Shape.{Shape}
use Rattle.aidl_schema.specs.declared.schema.Shape.TheVariants as shape
use Rattle.aidl_schema.specs.declared.schema.Decl.{Decl}
use Rattle.aidl_schema.specs.declared.schema.Direction.{Direction}
use Rattle.aidl_schema.specs.declared.schema.Direction.TheVariants.{In, Out, InOut}
use Rattle.aidl_schema.specs.declared.schema.Method.{Method}
use Rattle.aidl_schema.specs.Broken.{Place, member, way_code, C7, broken}
use Rattle.aidl_schema.specs.Holds.{AreApart, AllHold}
use Rattle.aidl_schema.specs.Methods.{is_in_way}
use Rattle.aidl_schema.specs.Names.{name_of, methods_of}
use Rattle.aidl_schema.specs.Same.{same, same_base, same_bool, shape_code, base_code, is_named}
use Rattle.aidl_schema.specs.Sizes.{AreSteady}
use Rattle.aidl_schema.specs.Types.{form_of, is_one, is_array, is_raw, is_type, elem}
use Rattle.aidl_schema.specs.Unbroken.{Has}
use Rattle.aidl_values.specs.Data.{Data, seq, Items, none, item, depth_of}
use Rattle.aidl_values.specs.HasType.{HasType}
use Rattle.aidl_values.specs.Fits.{Fits}
use Rattle.aidl_values.proofs.lemmas.Sounds.{default_fits}
use Rattle.wire_model.specs.Calls.{AnswerData, returned, method_at, arguments_of, arguments, result_of, result_type, outs_of, out_types, is_oneway, is_oneway_of, is_out}
use Rattle.wire_model.specs.MethodOf.{method_of}
use Rattle.wire_model.specs.ReadOf.{Read, ◌>>=◌}
use Rattle.wire_model.specs.Receiver.{Received, received, or_status, zero_in, array_opening, within_sum, length_at, array_opening_at, opening_at, argument_at, arguments_at, opened_length, result_at, values_at, returned_at, status_at, whole}
use Rattle.wire_model.specs.Receiver as receiver
use Rattle.wire_model.specs.Requests.{ArgsFit, ArgumentsFit, argument_parts, request, sum_of_lengths, EachFits, ResultFits, spell_result, spell_each}
use Rattle.wire_model.specs.Requests as wire
use Rattle.wire_model.specs.Spell.{spell, spell_items, raw_bytes}
use Rattle.wire_model.specs.Status.{bad_value}
use Rattle.wire_model.proofs.lemmas.spelled.Sizes.{Whole, spell_whole, pad_whole}
use Rattle.wire_model.specs.View.{item_first}
use Rattle.compat_witness.specs.Candidates.{Candidate, AreSmall, Shows, counterpart, IsAnswerAt, at_method, answer_bytes}
use Rattle.compat_witness.specs.Candidates as candidate
use Rattle.compat_witness.specs.Places.{Spot, at_slash}
use Rattle.compat_witness.specs.Reaching.{plain_value, is_parcelable}
use Rattle.compat_witness.specs.Rows.{is_sent_back, sent_in_out, ask_C7, row_C7, row_C7_at}
use Rattle.compat_witness.specs.Rows as table
use Rattle.compat_witness.specs.Sides.{Side, left, called, client, no_reply, side_of, read_reply, projected_argument, projected_arguments, projected_result, projected_outs, projected_answer, projected_reply, read_request, projected_request}
use Rattle.compat_witness.proofs.C16.{given_is}
use Rattle.compat_witness.proofs.C6At.{cut_place}
use Rattle.compat_witness.proofs.C10.{argument_type}
use Rattle.compat_witness.proofs.Entries.{entry}
use Rattle.compat_witness.proofs.Pairs.{mine, his, named, like_back, pair_is, with_one_is, only_at}
use Rattle.compat_witness.proofs.Plain.{plain_typed}
use Rattle.compat_witness.proofs.Reached.{eq_is}
use Rattle.compat_witness.proofs.Single.{read_found, projected_by, code_there}
use Rattle.compat_witness.proofs.Slashes.{in_arguments}
use Rattle.compat_witness.proofs.Spots.{and_then_is, IsLike}

not_empty : (b : List ℕ) → Whole b → b ≢ []
not_empty b w e = absurd (omega (arith, w.1, ap length e))

-- what is left over is no answer
whole_left : (a : AnswerData) (b : List ℕ) → b ≢ [] → whole a b ≡ Err bad_value
whole_left a [] some = absurd (some refl)
whole_left a (c ∷ b) some = refl

-- A reply with an out that the client doesn't ask for. Both methods are void.
module _ (A : List Decl) (i m : ℕ) (v : Method) (B : List Decl) (j n : ℕ) (w : Method) (at_v : method_at (method_of A i m) ≡ Some v) (at_w : method_at (method_of B j n) ≡ Some w) (a b : Arg) (only_a : v.args ≡ a ∷ []) (only_b : w.args ≡ b ∷ [])
    (in_a : is_in_way a.way ≡ true) (out_b : is_in_way b.way ≡ false) (void_v : v.result ≡ None) (void_w : w.result ≡ None) (two_way : w.oneway ≡ false) (found : counterpart (method_of A i m) B ≡ Some (method_of B j n)) (z : Data) where
  abbrev answer : Option AnswerData
  answer = Some (returned None (item z none))

  outs_a : out_types (method_of A i m) ≡ []
  outs_a = ap (λ o. outs_of (arguments_of o)) at_v ∙ ap outs_of only_a ∙ rw in_a refl

  outs_b : out_types (method_of B j n) ≡ b.ty ∷ []
  outs_b = ap (λ o. outs_of (arguments_of o)) at_w ∙ ap outs_of only_b ∙ rw out_b refl

  result_a : result_type (method_of A i m) ≡ None
  result_a = ap result_of at_v ∙ void_v

  result_b : result_type (method_of B j n) ≡ None
  result_b = ap result_of at_w ∙ void_w

  abbrev sent : List ℕ
  sent = spell B b.ty z

  reply_is : wire.reply (method_of B j n) (returned None (item z none)) ≡ word (pos 0) ++ sent
  reply_is =
      ap (λ t. word (pos 0) ++ (spell_result B t None ++ spell_each B (out_types (method_of B j n)) (item z none))) result_b
      ∙ ap (λ ts. word (pos 0) ++ spell_each B ts (item z none)) outs_b ∙ ap (λ c. word (pos 0) ++ c) (append-nil sent)

  abbrev then_status : Read ℤ → Result AnswerData ℤ
  then_status x = x >>= λ status. status_at Strict A (result_type (method_of A i m)) (out_types (method_of A i m)) status.0 status.1 >>= λ a. whole a.0 a.1

  abbrev then_result : Option AidlType → List AidlType → Result AnswerData ℤ
  then_result t ts = (result_at Strict A t sent >>= λ r. values_at Strict A ts r.1 >>= λ vs. let y : Read AnswerData = Ok (returned r.0 vs.0, vs.1) in y) >>= λ a. whole a.0 a.1

  client_is : receiver.client Strict (method_of A i m) (wire.reply (method_of B j n) (returned None (item z none))) ≡ Err bad_value
  unfolding receiver.client returned_at
  client_is =
      ap (λ c. receiver.client Strict (method_of A i m) c) reply_is ∙ ap then_status (word_again (pos 0) false sent (fits_pos 0 (omega arith)))
      ∙ ap (λ t. then_result t (out_types (method_of A i m))) result_a ∙ ap (λ ts. then_result None ts) outs_a
      ∙ whole_left (returned None none) sent (not_empty sent (spell_whole B b.ty z))

  two_way_there : is_oneway (method_of B j n) ≡ false
  two_way_there = ap is_oneway_of at_w ∙ two_way

  read_is : at_method no_reply (λ b. read_reply (method_of A i m) b (answer_bytes b answer)) (counterpart (method_of A i m) B) ≡ client (Err bad_value)
  read_is =
      ap (at_method no_reply (λ b. read_reply (method_of A i m) b (answer_bytes b answer))) found
      ∙ ap (λ b. cond b no_reply (client (receiver.client Strict (method_of A i m) (wire.reply (method_of B j n) (returned None (item z none)))))) two_way_there ∙ ap client client_is

  abbrev then_outs : Option (Option Data) → Option Items → Side
  then_outs o os = client (or_status bad_value o >>= λ r. or_status bad_value os >>= λ vs. Ok (returned r vs))

  outs_seen : projected_outs B (b ∷ []) A (a ∷ []) (item z none) ≡ Some none
  outs_seen = rw (out_b, in_a) refl

  projected_is : at_method no_reply (λ b. projected_reply b (method_of A i m) answer) (counterpart (method_of A i m) B) ≡ client (Ok (returned None none))
  unfolding projected_answer
  projected_is =
      ap (at_method no_reply (λ b. projected_reply b (method_of A i m) answer)) found
      ∙ ap (λ t. then_outs (projected_result B (result_type (method_of B j n)) A t None) (projected_outs B (arguments (method_of B j n)) A (arguments (method_of A i m)) (item z none))) result_a
      ∙ ap (λ ys. then_outs (Some None) (projected_outs B ys A (arguments (method_of A i m)) (item z none))) (ap arguments_of at_w ∙ only_b)
      ∙ ap (λ xs. then_outs (Some None) (projected_outs B (b ∷ []) A xs (item z none))) (ap arguments_of at_v ∙ only_a)
      ∙ ap (λ os. then_outs (Some None) os) outs_seen

  pub unasked_differs : at_method no_reply (λ b. read_reply (method_of A i m) b (answer_bytes b answer)) (counterpart (method_of A i m) B) ≡ at_method no_reply (λ b. projected_reply b (method_of A i m) answer) (counterpart (method_of A i m) B) → ⊥
  unasked_differs e = let wrong : client (Err bad_value) ≡ client (Ok (returned None none)) = sym read_is ∙ e ∙ projected_is in absurd cc

  pub unasked_fits : Fits B b.ty z → IsAnswerAt (counterpart (method_of A i m) B) answer
  unasked_fits fits = subst (λ q. IsAnswerAt q answer) (sym found)
      (two_way_there, (subst (λ t. ResultFits B t None) (sym result_b) tt, subst (λ ts. EachFits B ts (item z none)) (sym outs_b) (fits, tt)))

-- what stands after the length of an array of one
abbrev after_one : List Decl → AidlType → Data → List ℕ
after_one A t z = cond (is_raw A t) (pad (raw_bytes (item z none))) (spell_items A (elem A t) (item z none))

after_some : (A : List Decl) (t : AidlType) (z : Data) → after_one A t z ≢ []
after_some A t z = by (is_raw A t)
  where
    by : (raw : Bool) → cond raw (pad (raw_bytes (item z none))) (spell_items A (elem A t) (item z none)) ≢ []
    by true e = let p = pad_whole (raw_bytes (item z none)) in absurd (omega (arith, p.2, ap length e))
    by false e = absurd (omega (arith, (spell_whole A (elem A t) z).1, length-append (spell A (elem A t) z) [], ap length e))

-- A request with an `inout` value for an `out` argument: something is left over.
module _ (A B : List Decl) (holdsA : AllHold A) (holds : AllHold B) (apartA : AreApart name_of A) (i m : ℕ) (d : Decl) (v : Method) (here : slice_get A i ≡ Some d) (at : slice_get (methods_of d.kind) m ≡ Some v) (t : Spot) (like : IsLike A i v B t)
    (id : v.id ≡ t.method.id) (a b : Arg) (only_a : v.args ≡ a ∷ []) (only_b : t.method.args ≡ b ∷ []) (way_a : is_out a.way ≡ false) (way_b : is_out b.way ≡ true) (x : Data) where
  arguments_a : arguments (method_of A i m) ≡ a ∷ []
  arguments_a = ap arguments_of (mine A B holdsA apartA i m d v here at t like) ∙ only_a

  arguments_b : arguments (method_of B t.interface t.position) ≡ b ∷ []
  arguments_b = ap arguments_of (his A B holdsA apartA i m d v here at t like) ∙ only_b

  pub inout_fits : Fits A a.ty x → ArgsFit (method_of A i m) (item x none)
  inout_fits fits = record {
    each = subst (λ xs. ArgumentsFit A xs (item x none)) (sym arguments_a) (rw way_a fits, tt);
    few = subst (λ xs. sum_of_lengths xs (item x none) ≤ 65536) (sym arguments_a) (rw way_a (omega arith));
  }

  part_left : argument_parts A (arguments (method_of A i m)) (item x none) ≡ spell A a.ty x
  part_left = ap (λ xs. argument_parts A xs (item x none)) arguments_a ∙ rw way_a (append-nil (spell A a.ty x))

  abbrev then_one : Read Data → Side
  then_one r = side_of ((r >>= λ y. arguments_at Strict B (0 + opened_length b y.0) [] y.1 >>= λ ys. let z : Read Items = Ok (item y.0 ys.0, ys.1) in z) >>= λ saw. Ok (received t.position saw.0 saw.1))

  left_is : (y : Data) (rest : List ℕ) → rest ≢ [] → then_one (Ok (y, rest)) ≡ left t.position
  left_is y [] some = absurd (some refl)
  left_is y (c ∷ rest) some = refl

  seen : projected_argument A a B b x ≡ Some (zero_in B b.ty)
  seen = rw (way_b, way_a) refl

  abbrev then_view : Option Items → Side
  then_view o = side_of (or_status bad_value o >>= λ saw. Ok (receiver.called t.position saw))

  projected_left : projected_request (method_of A i m) B (item x none) ≡ called t.position (item (zero_in B b.ty) none)
  projected_left =
      projected_by A B holds i m d v here at t.interface like.interface (item x none) (Some t.position) like.like
      ∙ ap (λ xs. then_view (projected_arguments A xs B (arguments (method_of B t.interface t.position)) (item x none))) arguments_a
      ∙ ap (λ ys. then_view (projected_arguments A (a ∷ []) B ys (item x none))) arguments_b
      ∙ ap (λ o. then_view (item_first o (Some none))) seen

  -- where what is read of the argument leaves bytes
  pub inout_differs : length (request (method_of A i m) (item x none)) ≤ 1048576 → (y : Data) (rest : List ℕ) → rest ≢ [] → argument_at Strict B 0 b (spell A a.ty x) ≡ Ok (y, rest)
      → read_request (method_of A i m) B (request (method_of A i m) (item x none)) ≡ projected_request (method_of A i m) B (item x none) → ⊥
  inout_differs few y rest some opened e =
      let read : read_request (method_of A i m) B (request (method_of A i m) (item x none)) ≡ left t.position =
      read_found A B holds i m d v here at t.interface like.interface (item x none) few t.position (code_there A B holds i m d v here at t like id)
      ∙ ap (λ xs. side_of (arguments_at Strict B 0 xs (argument_parts A (arguments (method_of A i m)) (item x none)) >>= λ saw. Ok (received t.position saw.0 saw.1))) arguments_b
      ∙ ap (λ p. side_of (arguments_at Strict B 0 (b ∷ []) p >>= λ saw. Ok (received t.position saw.0 saw.1))) part_left
      ∙ ap then_one opened ∙ left_is y rest some in
      let wrong : left t.position ≡ called t.position (item (zero_in B b.ty) none) = sym read ∙ e ∙ projected_left in absurd cc

-- what an `out` argument takes of it: nothing, or its length
module _ (A B : List Decl) (b : Arg) (way_b : is_out b.way ≡ true) where
  pub opened_one : (c : List ℕ) → is_array b.ty.shape ≡ false → argument_at Strict B 0 b c ≡ Ok (zero_in B b.ty, c)
  opened_one c shape = rw (way_b, shape) refl

  abbrev then_within : Read (Option ℕ) → Read (Option ℕ)
  then_within x = x >>= λ n. within_sum 0 n.0 >>= λ m. Ok (m, n.1)

  abbrev then_opening : Read (Option ℕ) → Read Data
  then_opening x = x >>= λ n. Ok (array_opening B b.ty n.0, n.1)

  length_one : (rest : List ℕ) → length_at b.ty.nullable 0 (word (pos 1) ++ rest) ≡ Ok (Some 1, rest)
  unfolding length_at
  length_one rest = ap then_within (count_again b.ty.nullable 1 false rest (omega arith))

  opened_array : (rest : List ℕ) → array_opening_at B 0 b.ty (word (pos 1) ++ rest) ≡ Ok (array_opening B b.ty (Some 1), rest)
  unfolding array_opening_at
  opened_array rest = ap then_opening (length_one rest)

  pub opened_many : (rest : List ℕ) → is_array b.ty.shape ≡ true → argument_at Strict B 0 b (word (pos 1) ++ rest) ≡ Ok (array_opening B b.ty (Some 1), rest)
  opened_many rest shape = rw (way_b, shape) (opened_array rest)

flipped : (b : Bool) → not b ≡ true → b ≡ false
flipped true h = cc
flipped false h = refl

differ_codes : (v w : Direction) → not (way_code v == way_code w) ≡ true → v ≡ w → ⊥
differ_codes v In h e = let wrong : not (0 == 0) ≡ true = subst (λ z. not (way_code z == 0) ≡ true) e h in cc
differ_codes v Out h e = let wrong : not (1 == 1) ≡ true = subst (λ z. not (way_code z == 1) ≡ true) e h in cc
differ_codes v InOut h e = let wrong : not (2 == 2) ≡ true = subst (λ z. not (way_code z == 2) ≡ true) e h in cc

none_is : {X : Type 0} (o : Option X) → is_none o ≡ true → o ≡ None
none_is None h = refl
none_is (Some x) h = cc

shape_is : (x y : Shape) → (shape_code x == shape_code y) ≡ true → x ≡ y
shape_is shape.One shape.One e = refl
shape_is shape.One shape.Array e = cc
shape_is shape.One shape.List e = cc
shape_is shape.Array shape.One e = cc
shape_is shape.Array shape.Array e = refl
shape_is shape.Array shape.List e = cc
shape_is shape.List shape.One e = cc
shape_is shape.List shape.Array e = cc
shape_is shape.List shape.List e = refl

same_shape : (A : List Decl) (t : AidlType) (B : List Decl) (u : AidlType) → same A t B u ≡ true → t.shape ≡ u.shape
same_shape A t B u h =
    let two = both (same_base A t.base B u.base) ((shape_code t.shape == shape_code u.shape) && same_bool t.nullable u.nullable) h in
    shape_is t.shape u.shape (both (shape_code t.shape == shape_code u.shape) (same_bool t.nullable u.nullable) two.1).0

one_is_no_array : (x : Shape) → is_one x ≡ true → is_array x ≡ false
one_is_no_array shape.One h = refl
one_is_no_array shape.Array h = cc
one_is_no_array shape.List h = cc

flat_low : (b : Base) → depth_of (plain_value false b) ≡ 0
flat_low base.Boolean = refl
flat_low base.Byte = refl
flat_low base.Char = refl
flat_low base.Int = refl
flat_low base.Long = refl
flat_low base.Text = refl
flat_low (base.Named n) = refl

zero_fits : (S : List Decl) (holds : AllHold S) (steady : AreSteady S) (t : AidlType) → is_type S t ≡ true → Fits S t (zero_in S t)
zero_fits S holds steady t type = let d = default_fits S holds steady t type in record { typed = d.typed_as; deep = omega (arith, d.shallow) }

-- what is sent in and out: a default, or an array of one
abbrev IsSentBack : AidlType → Type 0
IsSentBack t = (is_one t.shape ≡ true) ⊎ ((is_one t.shape ≡ false) × (is_array t.shape ≡ true) × (not (is_named t.base) ≡ true))

sent_back_is : (old new : List Decl) (t u : AidlType) → is_sent_back old t new u ≡ true → IsSentBack t
sent_back_is old new t u h = by (is_one t.shape) refl (both (not t.nullable) (cond (is_one t.shape) (is_parcelable (form_of old t.base) && is_parcelable (form_of new u.base)) (is_array t.shape && not (is_named t.base))) h).1
  where
    by : (b : Bool) → is_one t.shape ≡ b → cond (is_one t.shape) (is_parcelable (form_of old t.base) && is_parcelable (form_of new u.base)) (is_array t.shape && not (is_named t.base)) ≡ true → IsSentBack t
    by true e h = inl e
    by false e h = let two = both (is_array t.shape) (not (is_named t.base)) (rw e at h) in inr (e, two.0, two.1)

sent_fits : (S : List Decl) (holds : AllHold S) (steady : AreSteady S) (t : AidlType) → is_type S t ≡ true → IsSentBack t → Fits S t (sent_in_out S t)
sent_fits S holds steady t type (inl one) = rw one (zero_fits S holds steady t type)
sent_fits S holds steady t type (inr many) =
    let value : HasType S (elem S t) (plain_value false t.base) = plain_typed S (elem S t) false t.base refl refl many.2 in
    rw many.0 (record { typed = (many.0, (value, tt)); deep = omega (arith, flat_low t.base) })

-- What an `out` argument leaves of it.
sent_leaves : (A B : List Decl) (a b : Arg) → a.ty.shape ≡ b.ty.shape → is_out b.way ≡ true → IsSentBack a.ty
    → (y : Data) × (rest : List ℕ) × (rest ≢ []) × (argument_at Strict B 0 b (spell A a.ty (sent_in_out A a.ty)) ≡ Ok (y, rest))
sent_leaves A B a b shape way (inl one) =
    let value : sent_in_out A a.ty ≡ zero_in A a.ty = rw one refl in
    let c = spell A a.ty (sent_in_out A a.ty) in
    let none : is_array b.ty.shape ≡ false = ap is_array (sym shape) ∙ one_is_no_array a.ty.shape one in
    (zero_in B b.ty, c, not_empty c (spell_whole A a.ty (sent_in_out A a.ty)), opened_one A B b way c none)
sent_leaves A B a b shape way (inr many) =
    let z = plain_value false a.ty.base in
    let value : sent_in_out A a.ty ≡ seq (item z none) = rw many.0 refl in
    let array : is_array b.ty.shape ≡ true = ap is_array (sym shape) ∙ many.1 in
    (array_opening B b.ty (Some 1), after_one A a.ty z, after_some A a.ty z, ap (λ x. argument_at Strict B 0 b (spell A a.ty x)) value ∙ opened_many A B b way (after_one A a.ty z) array)

module _ (old new : List Decl) (holds_old : AllHold old) (holds_new : AllHold new) (apart_old : AreApart name_of old) (apart_new : AreApart name_of new) (steady_old : AreSteady old) (steady_new : AreSteady new) (p : Place) (cs : List Candidate)
    (small : AreSmall old new cs) where
  -- both methods with what the row asks of them
  module _ (s t : Spot) (d e : Decl) (here : slice_get old s.interface ≡ Some d) (at : slice_get (methods_of d.kind) s.position ≡ Some s.method) (like : IsLike old s.interface s.method new t) (a b : Arg)
      (only_a : s.method.args ≡ a ∷ []) (only_b : t.method.args ≡ b ∷ []) (id : s.method.id ≡ t.method.id) (type : same old a.ty new b.ty ≡ true) (sent : is_sent_back old a.ty new b.ty ≡ true)
      (two_s : s.method.oneway ≡ false) (two_t : t.method.oneway ≡ false) (void_s : s.method.result ≡ None) (void_t : t.method.result ≡ None) where
    back : IsLike new t.interface t.method old s
    back = like_back old new holds_old apart_old s.interface s.position d s.method here at t like

    at_s : method_at (method_of old s.interface s.position) ≡ Some s.method
    at_s = mine old new holds_old apart_old s.interface s.position d s.method here at t like

    at_t : method_at (method_of new t.interface t.position) ≡ Some t.method
    at_t = his old new holds_old apart_old s.interface s.position d s.method here at t like

    named_t : counterpart (method_of old s.interface s.position) new ≡ Some (method_of new t.interface t.position)
    named_t = named old new holds_old apart_old s.interface s.position d s.method here at t like

    named_s : counterpart (method_of new t.interface t.position) old ≡ Some (method_of old s.interface s.position)
    named_s = named new old holds_new apart_new t.interface t.position like.spot.decl t.method like.spot.here like.spot.at s back

    type_a : is_type old a.ty ≡ true
    type_a = argument_type old holds_old s (record { decl = d; here = here; at = at }) a only_a

    type_b : is_type new b.ty ≡ true
    type_b = argument_type new holds_new t like.spot b only_b

    sent_a : IsSentBack a.ty
    sent_a = sent_back_is old new a.ty b.ty sent

    alike : a.ty.shape ≡ b.ty.shape
    alike = same_shape old a.ty new b.ty type

    sent_b : IsSentBack b.ty
    sent_b = by sent_a
      where
        code : base_code a.ty.base ≡ base_code b.ty.base
        code = eq_is (base_code a.ty.base) (base_code b.ty.base)
            (both (base_code a.ty.base == base_code b.ty.base) _ (both (same_base old a.ty.base new b.ty.base) ((shape_code a.ty.shape == shape_code b.ty.shape) && same_bool a.ty.nullable b.ty.nullable) type).0).0

        by : IsSentBack a.ty → IsSentBack b.ty
        by (inl one) = inl (subst (λ x. is_one x ≡ true) alike one)
        by (inr many) = inr (subst (λ x. is_one x ≡ false) alike many.0, subst (λ x. is_array x ≡ true) alike many.1, subst (λ n. not (n == 6) ≡ true) code many.2)

    reply_forth : is_in_way a.way ≡ true → is_in_way b.way ≡ false → candidate.reply false s.interface s.position (Some (returned None (item (zero_in new b.ty) none))) ∷ [] ≡ cs → Shows old new cs
    reply_forth in_a out_b is =
        let c = candidate.reply false s.interface s.position (Some (returned None (item (zero_in new b.ty) none))) in
        let there : Has cs c = subst (λ ds. Has ds c) is (0, refl) in
        let fits = unasked_fits old s.interface s.position s.method new t.interface t.position t.method at_s at_t a b only_a only_b in_a out_b void_s void_t two_t named_t (zero_in new b.ty) (zero_fits new holds_new steady_new b.ty type_b) in (
          c,
          there,
          record { fits = fits; small = small c there fits },
          unasked_differs old s.interface s.position s.method new t.interface t.position t.method at_s at_t a b only_a only_b in_a out_b void_s void_t two_t named_t (zero_in new b.ty),
        )

    reply_back : is_in_way b.way ≡ true → is_in_way a.way ≡ false → candidate.reply true t.interface t.position (Some (returned None (item (zero_in old a.ty) none))) ∷ [] ≡ cs → Shows old new cs
    reply_back in_b out_a is =
        let c = candidate.reply true t.interface t.position (Some (returned None (item (zero_in old a.ty) none))) in
        let there : Has cs c = subst (λ ds. Has ds c) is (0, refl) in
        let fits = unasked_fits new t.interface t.position t.method old s.interface s.position s.method at_t at_s b a only_b only_a in_b out_a void_t void_s two_s named_s (zero_in old a.ty) (zero_fits old holds_old steady_old a.ty type_a) in (
          c,
          there,
          record { fits = fits; small = small c there fits },
          unasked_differs new t.interface t.position t.method old s.interface s.position s.method at_t at_s b a only_b only_a in_b out_a void_t void_s two_s named_s (zero_in old a.ty),
        )

    ask_forth : is_out a.way ≡ false → is_out b.way ≡ true → candidate.request false s.interface s.position (item (sent_in_out old a.ty) none) ∷ [] ≡ cs → Shows old new cs
    ask_forth way_a way_b is =
        let x = sent_in_out old a.ty in
        let c = candidate.request false s.interface s.position (item x none) in
        let there : Has cs c = subst (λ ds. Has ds c) is (0, refl) in
        let fits = inout_fits old new holds_old holds_new apart_old s.interface s.position d s.method here at t like id a b only_a only_b way_a way_b x (sent_fits old holds_old steady_old a.ty type_a sent_a) in
        let few = small c there fits in
        let left = sent_leaves old new a b alike way_b sent_a in (
          c,
          there,
          record { fits = fits; small = few },
          inout_differs old new holds_old holds_new apart_old s.interface s.position d s.method here at t like id a b only_a only_b way_a way_b x few left.0 left.1 left.2 left.3,
        )

    ask_back : is_out b.way ≡ false → is_out a.way ≡ true → candidate.request true t.interface t.position (item (sent_in_out new b.ty) none) ∷ [] ≡ cs → Shows old new cs
    ask_back way_b way_a is =
        let x = sent_in_out new b.ty in
        let c = candidate.request true t.interface t.position (item x none) in
        let there : Has cs c = subst (λ ds. Has ds c) is (0, refl) in
        let fits = inout_fits new old holds_new holds_old apart_new t.interface t.position like.spot.decl t.method like.spot.here like.spot.at s back (sym id) b a only_b only_a way_b way_a x (sent_fits new holds_new steady_new b.ty type_b sent_b) in
        let few = small c there fits in
        let left = sent_leaves new old b a (sym alike) way_a sent_b in (
          c,
          there,
          record { fits = fits; small = few },
          inout_differs new old holds_new holds_old apart_new t.interface t.position like.spot.decl t.method like.spot.here like.spot.at s back (sym id) b a only_b only_a way_b way_a x few left.0 left.1 left.2 left.3,
        )

    by_ways : (x y : Direction) → a.way ≡ x → b.way ≡ y → not (way_code a.way == way_code b.way) ≡ true → ask_C7 old new s t a b ≡ cs → Shows old new cs
    by_ways In In e f differ is = absurd (differ_codes a.way b.way differ (e ∙ sym f))
    by_ways Out Out e f differ is = absurd (differ_codes a.way b.way differ (e ∙ sym f))
    by_ways InOut InOut e f differ is = absurd (differ_codes a.way b.way differ (e ∙ sym f))
    by_ways In Out e f differ is = reply_forth (ap is_in_way e) (ap is_in_way f) (subst (λ ds. ds ≡ cs) (rw e refl) is)
    by_ways In InOut e f differ is = reply_forth (ap is_in_way e) (ap is_in_way f) (subst (λ ds. ds ≡ cs) (rw e refl) is)
    by_ways Out In e f differ is = reply_back (ap is_in_way f) (ap is_in_way e) (subst (λ ds. ds ≡ cs) (rw (e, f) refl) is)
    by_ways InOut In e f differ is = reply_back (ap is_in_way f) (ap is_in_way e) (subst (λ ds. ds ≡ cs) (rw (e, f) refl) is)
    by_ways Out InOut e f differ is = ask_back (ap is_out f) (ap is_out e) (subst (λ ds. ds ≡ cs) (rw (e, f) refl) is)
    by_ways InOut Out e f differ is = ask_forth (ap is_out e) (ap is_out f) (subst (λ ds. ds ≡ cs) (rw (e, f) refl) is)

  -- One candidate of an entry of C7 that counts differs.
  pub c7 : Has (broken old new) (7, p) → row_C7_at old new p ≡ Some cs → Shows old new cs
  c7 h row =
      let e = entry old new 7 p 4 C7 refl (λ q. absurd (omega (arith, q))) (λ q. absurd (omega (arith, q))) h in
      let x = in_arguments (λ a b. not (way_code a.way == way_code b.way)) e.before e.after p e.places in
      let by_place : List ℕ × List ℕ → Option (List Candidate) = λ q. row_C7 old new q.0 in
      let slash = and_then_is by_place (at_slash p) cs row in
      let cut = cut_place old holds_old e.before e.here x.v x.pair.0 x.k p slash.0 x.place slash.1 in
      let test : Spot → Spot → Arg → Arg → Bool = λ s w a b. (same old a.ty new b.ty && is_sent_back old a.ty new b.ty) && (not (s.method.oneway || w.method.oneway) && (is_none s.method.result && is_none w.method.result)) in
      let asks : Spot → Spot → Arg → Arg → Option (List Candidate) = λ s w a b. table.candidates_if (test s w a b) (ask_C7 old new s w a b) in
      let y = with_one_is old new (member e.before x.v.name) asks cs (subst (λ n. row_C7 old new n ≡ Some cs) cut slash.2) in
      let s = y.s in
      let t = y.t in
      let pair = pair_is old new holds_old holds_new apart_old apart_new e.before e.after x.v x.w s t e.here e.there x.pair y.found y.like in
      let met = given_is (test s t y.a y.b) (ask_C7 old new s t y.a y.b) cs y.given in
      let one = both (same old y.a.ty new y.b.ty && is_sent_back old y.a.ty new y.b.ty) (not (s.method.oneway || t.method.oneway) && (is_none s.method.result && is_none t.method.result)) met.0 in
      let types = both (same old y.a.ty new y.b.ty) (is_sent_back old y.a.ty new y.b.ty) one.0 in
      let two = both (not (s.method.oneway || t.method.oneway)) (is_none s.method.result && is_none t.method.result) one.1 in
      let ways = neither s.method.oneway t.method.oneway (flipped (s.method.oneway || t.method.oneway) two.0) in
      let voids = both (is_none s.method.result) (is_none t.method.result) two.1 in
      let only_a : x.v.args ≡ y.a ∷ [] = ap (λ (u : Method). u.args) (sym pair.spot.method) ∙ y.only_a in
      let only_w : x.w.args ≡ y.b ∷ [] = ap (λ (u : Method). u.args) (sym pair.other) ∙ y.only_b in
      let is_a = only_at x.v.args y.a x.a x.k only_a x.at_a in
      let is_b = only_at x.w.args y.b x.b x.k only_w x.at_b in
      let differ : not (way_code y.a.way == way_code y.b.way) ≡ true = subst (λ (z : Arg). not (way_code z.way == way_code y.b.way) ≡ true) is_a (subst (λ (z : Arg). not (way_code x.a.way == way_code z.way) ≡ true) is_b x.broken) in
      let at : slice_get (methods_of e.before.kind) s.position ≡ Some s.method = subst (λ u. slice_get (methods_of e.before.kind) s.position ≡ Some u) (sym pair.spot.method) pair.spot.at in
      let like : IsLike old s.interface s.method new t = subst (λ u. IsLike old s.interface u new t) (sym pair.spot.method) pair.like in
      by_ways s t e.before e.after pair.spot.here at like y.a y.b y.only_a y.only_b y.id types.0 types.1 ways.0 ways.1 (none_is s.method.result voids.0) (none_is t.method.result voids.1)
      y.a.way y.b.way refl refl differ met.1
