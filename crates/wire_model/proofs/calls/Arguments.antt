-- What a stub reads of the arguments of a request that another schema spelled: their views and openings, or BAD_VALUE at the
-- first that has no view.
use Rattle.std.proofs.Common.{◌≡◌, ℕ, ◌+◌, ◌≤◌, pos, negsuc, Bool, true, false, nat_le, List, [], ◌∷◌, ◌++◌, length, Option, Some, None, Ok, refl, sym, ap, ◌∙◌, subst, arith, length-append}
use Rattle.std.proofs.lemmas.Bool.Decides.{nat_tests}
use Rattle.aidl_base.proofs.lemmas.Lists.{AreBytes, AreBytes-rest}
use Rattle.aidl_base.proofs.lemmas.Words.{count_again, null_again}
use Rattle.aidl_base.specs.declared.profile.Profile.{Profile}
use Rattle.aidl_base.specs.Readings.{◌>>=◌}
use Rattle.aidl_schema.specs.declared.schema.AidlType.{AidlType}
use Rattle.aidl_schema.specs.declared.schema.Arg.{Arg}
use Rattle.aidl_schema.specs.declared.schema.Decl.{Decl}
use Rattle.aidl_schema.specs.Same.{same}
use Rattle.aidl_schema.specs.Types.{is_array, is_type}
use Rattle.aidl_values.specs.Data.{Data, null, truth, number, text, seq, rec, alt, Items, none, item}
use Rattle.aidl_values.specs.Fits.{Fits}
use Rattle.aidl_values.specs.Sound.{IsSound}
use Rattle.wire_model.specs.Calls.{is_out}
use Rattle.wire_model.specs.Outcome.{view_argument, view_arguments}
use Rattle.wire_model.specs.ReadOf.{Read}
use Rattle.wire_model.specs.Receiver.{zero_in, array_opening, within_sum, length_at, array_opening_at, argument_at, items_in, opened_length, arguments_at}
use Rattle.wire_model.specs.Requests.{sent_length, spell_length, argument_part, argument_parts, IsLength, ArgumentFits, ArgumentsFit, number_or_0, asked_length, sum_of_lengths}
use Rattle.wire_model.specs.Spell.{spell}
use Rattle.wire_model.specs.View.{item_first}
use Rattle.wire_model.specs.steps.CallsMeet.{ArgumentsAgree}
use Rattle.wire_model.specs.steps.Meets.{Meets}
use Rattle.wire_model.proofs.lemmas.Opened.{default_items, items_opened}
use Rattle.wire_model.proofs.viewed.Alike.{shape_is, nullable_is}
use Rattle.wire_model.proofs.calls.Values.{seen_at, with_first, first_seen, value_seen}

-- a length that may be sent
abbrev pub LengthFits : Bool → Option ℕ → Type 0
LengthFits nullable None = nullable ≡ true
LengthFits nullable (Some n) = Unit {0}

length_fits : (t : AidlType) (v : Data) → IsLength t v → LengthFits t.nullable (sent_length v)
length_fits t null h = h
length_fits t (number (pos n)) h = tt
length_fits t (number (negsuc n)) h = elim h [ ]
length_fits t (truth b) h = elim h [ ]
length_fits t (text x) h = elim h [ ]
length_fits t (seq vs) h = elim h [ ]
length_fits t (rec vs) h = elim h [ ]
length_fits t (alt k v) h = elim h [ ]

abbrev then_within : ℕ → Read (Option ℕ) → Read (Option ℕ)
then_within sum x = x >>= λ n. within_sum sum n.0 >>= λ m. Ok (m, n.1)

-- a length word is read again
length_again : (nullable : Bool) (sum : ℕ) (n : Option ℕ) (rest : List ℕ) → LengthFits nullable n → sum + number_or_0 n ≤ 65536
    → length_at nullable sum (spell_length n ++ rest) ≡ Ok (n, rest)
unfolding length_at
length_again nullable sum None rest fits few = rw fits (ap (then_within sum) (null_again false rest))
length_again nullable sum (Some n) rest fits few =
    let within : nat_le (sum + n) 65536 ≡ true = grind (arith, nat_tests) in
    ap (then_within sum) (count_again nullable n false rest (omega arith)) ∙ rw within refl

abbrev then_opening : List Decl → AidlType → Read (Option ℕ) → Read Data
then_opening S t x = x >>= λ n. Ok (array_opening S t n.0, n.1)

array_again : (S : List Decl) (t : AidlType) (sum : ℕ) (n : Option ℕ) (rest : List ℕ) → LengthFits t.nullable n → sum + number_or_0 n ≤ 65536
    → array_opening_at S sum t (spell_length n ++ rest) ≡ Ok (array_opening S t n, rest)
unfolding array_opening_at
array_again S t sum n rest fits few = ap (then_opening S t) (length_again t.nullable sum n rest fits few)

-- each argument's type is one of the schema
abbrev pub HaveTypes : List Decl → List Arg → Type 0
HaveTypes S [] = Unit {0}
HaveTypes S (a ∷ xs) = (is_type S a.ty ≡ true) × HaveTypes S xs

module _ (p : Profile) (A B : List Decl) (meets : Meets A B) (sound : IsSound B) where
  module _ (a b : Arg) (sum : ℕ) (v : Data) (rest : List ℕ) (way : a.way ≡ b.way) (is : same A a.ty B b.ty ≡ true) (type : is_type B b.ty ≡ true)
      (fits : ArgumentFits A a v) (few : sum + asked_length a v ≤ 65536) (small : length (argument_part A a v) ≤ 1048576) (bytes : AreBytes (argument_part A a v ++ rest)) where
    arrays : (array : Bool) → is_array a.ty.shape ≡ array → is_array b.ty.shape ≡ array
    arrays array e = ap is_array (sym (shape_is A B a.ty b.ty is)) ∙ e

    outs : (out : Bool) → is_out a.way ≡ out → is_out b.way ≡ out
    outs out e = ap is_out (sym way) ∙ e

    pub argument_seen : (out array : Bool) → is_out a.way ≡ out → is_array a.ty.shape ≡ array → argument_at p B sum b (argument_part A a v ++ rest) ≡ seen_at (view_argument A a B b v) rest
    argument_seen true true out array =
        let fit : IsLength a.ty v = rw (out, array) at fits in
        let may : LengthFits b.ty.nullable (sent_length v) = subst (λ n. LengthFits n (sent_length v)) (nullable_is A B a.ty b.ty is) (length_fits a.ty v fit) in
        let sums : sum + number_or_0 (sent_length v) ≤ 65536 = rw out at few in
        rw (out, array, outs true out, arrays true array) (array_again B b.ty sum (sent_length v) rest may sums)
    argument_seen true false out array = rw (out, array, outs true out, arrays false array) refl
    argument_seen false array out e =
        let fit : Fits A a.ty v = rw out at fits in
        let small' : length (spell A a.ty v) ≤ 1048576 = rw out at small in
        let bytes' : AreBytes (spell A a.ty v ++ rest) = rw out at bytes in
        rw (out, outs false out) (value_seen p A B meets sound a.ty b.ty v rest is type fit small' bytes')

    -- what it adds to the sum of lengths
    pub argument_adds : (out array : Bool) → is_out a.way ≡ out → is_array a.ty.shape ≡ array → (w : Data) → view_argument A a B b v ≡ Some w → opened_length b w ≡ asked_length a v
    argument_adds true true out array w e =
        let seen : ◌≡◌ {A = Option Data} (Some (array_opening B b.ty (sent_length v))) (Some w) = rw (out, arrays true array) at e in
        let one : array_opening B b.ty (sent_length v) ≡ w = cc in
        rw (out, outs true out) (ap items_in (sym one) ∙ items_opened B b.ty (sent_length v))
    argument_adds true false out array w e =
        let seen : ◌≡◌ {A = Option Data} (Some (zero_in B b.ty)) (Some w) = rw (out, arrays false array) at e in
        let one : zero_in B b.ty ≡ w = cc in
        let fit : v ≡ null = rw (out, array) at fits in
        rw (out, outs true out) (ap items_in (sym one) ∙ default_items B b.ty ∙ ap (λ v. number_or_0 (sent_length v)) (sym fit))
    argument_adds false array out at w e = rw (out, outs false out) refl

  abbrev then_arguments : ℕ → Arg → List Arg → Read Data → Read Items
  then_arguments sum b ys x = x >>= λ v. arguments_at p B (sum + opened_length b v.0) ys v.1 >>= λ vs. Ok (item v.0 vs.0, vs.1)

  -- The arguments of a request.
  pub arguments_seen : (xs ys : List Arg) (sum : ℕ) (vs : Items) → ArgumentsAgree A xs B ys → HaveTypes B ys → ArgumentsFit A xs vs → sum + sum_of_lengths xs vs ≤ 65536
      → length (argument_parts A xs vs) ≤ 1048576 → AreBytes (argument_parts A xs vs)
      → arguments_at p B sum ys (argument_parts A xs vs) ≡ seen_at (view_arguments A xs B ys vs) []
  arguments_seen [] [] sum none agree types fits few small bytes = refl
  arguments_seen [] [] sum (item v vs) agree types fits few small bytes = elim fits [ ]
  arguments_seen [] (b ∷ ys) sum vs agree types fits few small bytes = elim agree [ ]
  arguments_seen (a ∷ xs) [] sum vs agree types fits few small bytes = elim agree [ ]
  arguments_seen (a ∷ xs) (b ∷ ys) sum none agree types fits few small bytes = elim fits [ ]
  arguments_seen (a ∷ xs) (b ∷ ys) sum (item v vs) agree types fits few small bytes =
      let part = argument_part A a v in
      let later = argument_parts A xs vs in
      let total = length-append part later in
      let few' : sum + asked_length a v ≤ 65536 = omega arith in
      let first = argument_seen a b sum v later agree.0 agree.1 types.0 fits.0 few' (omega arith) bytes (is_out a.way) (is_array a.ty.shape) refl refl in
      let adds = argument_adds a b sum v later agree.0 agree.1 types.0 fits.0 few' (omega arith) bytes (is_out a.way) (is_array a.ty.shape) refl refl in
      let others : (w : Data) → view_argument A a B b v ≡ Some w → arguments_at p B (sum + opened_length b w) ys later ≡ seen_at (view_arguments A xs B ys vs) [] =
      λ w e. let same = adds w e in arguments_seen xs ys (sum + opened_length b w) vs agree.2 types.1 fits.1 (omega arith) (omega arith) (AreBytes-rest part later bytes) in
      ap (then_arguments sum b ys) first ∙ by_view (view_argument A a B b v) refl others
    where
      by_view : (o : Option Data) → view_argument A a B b v ≡ o
          → ((w : Data) → view_argument A a B b v ≡ Some w → arguments_at p B (sum + opened_length b w) ys (argument_parts A xs vs) ≡ seen_at (view_arguments A xs B ys vs) [])
          → then_arguments sum b ys (seen_at o (argument_parts A xs vs)) ≡ seen_at (item_first o (view_arguments A xs B ys vs)) []
      by_view None e others = refl
      by_view (Some w) e others = ap (with_first w) (others w e) ∙ first_seen w (view_arguments A xs B ys vs) []
