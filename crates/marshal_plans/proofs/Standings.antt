-- What the steps of compiling add stands for a schema and extra types.
use Rattle.std.proofs.Common.{◌≡◌, ℕ, zero, suc, ◌+◌, Bool, true, false, List, [], ◌∷◌, ◌++◌, length, take, drop, get_or, Option, Some, None, slice_get, ◌≢◌, refl, sym, ap, ◌∙◌, subst, arith, zero-add, append_assoc, append-nil}
use Rattle.std.specs.Prelude.{MatchBool, if◌then◌else◌}
use Rattle.std.specs.List.{list_all}
use Rattle.std.proofs.lemmas.List.{drop-drop}
use Rattle.aidl_base.proofs.lemmas.Tests.{both}
use Rattle.aidl_schema.specs.declared.schema.AidlType.{AidlType}
use Rattle.aidl_schema.specs.declared.schema.Arg.{Arg}
use Rattle.aidl_schema.specs.declared.schema.Backing.TheVariants as backing
use Rattle.aidl_schema.specs.declared.schema.Base.{Base}
use Rattle.aidl_schema.specs.declared.schema.Base.TheVariants as base
use Rattle.aidl_schema.specs.declared.schema.Decl.{Decl}
use Rattle.aidl_schema.specs.declared.schema.Field.{Field}
use Rattle.aidl_schema.specs.declared.schema.Kind.{Kind}
use Rattle.aidl_schema.specs.declared.schema.Kind.TheVariants.{Interface, Parcelable, Union, Enum}
use Rattle.aidl_schema.specs.declared.schema.Method.{Method}
use Rattle.aidl_schema.specs.declared.schema.Shape.{Shape}
use Rattle.aidl_schema.specs.Containment.{fields_of}
use Rattle.aidl_schema.specs.Holds.{AllHold}
use Rattle.aidl_schema.specs.Methods.{is_field_type, is_passed_type, is_result_type, has_method_types}
use Rattle.aidl_schema.specs.Names.{methods_of}
use Rattle.aidl_schema.specs.Types.{Form, form_of, form_of_kind, form_of_decl, is_one, is_raw, is_type, is_meant, elem}
use Rattle.aidl_schema.specs.Types as form
use Rattle.aidl_schema.specs.Valid.{IsValid}
use Rattle.aidl_schema.proofs.lemmas.Elements.{elem_is_type}
use Rattle.marshal_plans.specs.declared.plans.PlanId.{PlanId}
use Rattle.marshal_plans.specs.declared.plans.PlanItem.{PlanItem}
use Rattle.marshal_plans.specs.declared.plans.PlanItem.TheVariants.{Raw, Seq}
use Rattle.marshal_plans.specs.declared.plans.PlanField.{PlanField}
use Rattle.marshal_plans.specs.declared.plans.Plans.{Plans}
use Rattle.marshal_plans.specs.Slots.{Slot, argument_slots, result_slots, method_slots, slots_from, slots}
use Rattle.marshal_plans.specs.Standing.{OneForOne, StandsFor, IsEntryOf, AreEntriesOf, IsOneItem, IsManyItem, IsItemOf, first_of, IsStartOf, StandFor}
use Rattle.marshal_plans.specs.steps.Compiled.{firsts_from, first_in, one_item, single, Added, pushed, sequence_after, added, entered, with_fields, with_decls, started, with_arguments, with_result, with_method, with_methods, with_interfaces, extended, with_extras}
use Rattle.marshal_plans.proofs.lemmas.Matching.{same_length, both_more, matched, matched_with, front_matches, rest_matches, weaker, get_front, get_last}

-- the fields of all declarations
abbrev pub decl_fields : List Decl → List Field
decl_fields [] = []
decl_fields (d ∷ ds) = fields_of d.kind ++ decl_fields ds

-- where those of declaration n begin
offset : List Decl → ℕ → ℕ
offset [] n = 0
offset (d ∷ ds) zero = 0
offset (d ∷ ds) (suc n) = length (fields_of d.kind) + offset ds n

first_is : (S : List Decl) (k n : ℕ) (d : Decl) → slice_get S n ≡ Some d → get_or (firsts_from k S) n 0 ≡ k + offset S n
unfolding offset
first_is [] k n d at = absurd cc
first_is (e ∷ S) k zero d at = omega arith
first_is (e ∷ S) k (suc n) d at = first_is S (k + length (fields_of e.kind)) n d at ∙ omega arith

fields_at : {Y : Type 0} (R : Field → Y → Type 0) (S : List Decl) (n : ℕ) (d : Decl) (ys : List Y) → slice_get S n ≡ Some d → OneForOne R (decl_fields S) ys
    → OneForOne R (fields_of d.kind) (take (length (fields_of d.kind)) (drop (offset S n) ys))
unfolding offset
fields_at R [] n d ys at h = absurd cc
fields_at R (e ∷ S) zero d ys at h = let same : e ≡ d = cc in subst (λ x. OneForOne R (fields_of x.kind) (take (length (fields_of x.kind)) ys)) same (front_matches R (fields_of e.kind) (decl_fields S) ys h)
fields_at R (e ∷ S) (suc n) d ys at h =
    subst (λ zs. OneForOne R (fields_of d.kind) (take (length (fields_of d.kind)) zs)) (drop-drop (offset S n) (length (fields_of e.kind)) ys)
    (fields_at R S n d (drop (length (fields_of e.kind)) ys) at (rest_matches R (fields_of e.kind) (decl_fields S) ys h))

module _ (S : List Decl) (firsts : List ℕ) where
  -- an item with its type, wherever the entries of fields stand
  abbrev Planned : List AidlType → AidlType → PlanItem → Type 0
  Planned types t i = (is_type S t ≡ true) × MatchBool (is_one t.shape) (i ≡ single S firsts t) (IsManyItem S types t i)

  planned_more : (types more : List AidlType) (t : AidlType) (i : PlanItem) → Planned types t i → Planned (types ++ more) t i
  planned_more types more t i h = (h.0, by_shape (is_one t.shape) (is_raw S t) h.1)
    where
      by_shape : (one raw : Bool) → MatchBool one (i ≡ single S firsts t) (MatchBool raw (i ≡ Raw t.nullable) ((e : PlanId) × (i ≡ Seq t.nullable e) × StandsFor types e (elem S t)))
          → MatchBool one (i ≡ single S firsts t) (MatchBool raw (i ≡ Raw t.nullable) ((e : PlanId) × (i ≡ Seq t.nullable e) × StandsFor (types ++ more) e (elem S t)))
      by_shape true raw k = k
      by_shape false true k = k
      by_shape false false k = (k.0, k.1, get_front types more k.0.0 (elem S t) k.2)

  -- what the plans stand for so far: these fields, slots and extra types
  record SoFar (types : List AidlType) (fs : List Field) (ss : List Slot) (ts : List AidlType) (p : Plans) : Type 0 where
    items : OneForOne (λ t i. Planned types t i) types p.items
    fields : OneForOne (λ f g. IsEntryOf types f g) fs p.fields
    starts : OneForOne (λ s start. IsStartOf types s start) ss p.starts
    extras : OneForOne (λ t id. StandsFor types id t) ts p.extras

  -- for some types
  abbrev Stands : List Field → List Slot → List AidlType → Plans → Type 0
  Stands fs ss ts p = (types : List AidlType) × SoFar types fs ss ts p

  -- with an item for a type
  record IsAdded (fs : List Field) (ss : List Slot) (ts : List AidlType) (t : AidlType) (a : Added) : Type 0 where
    types : List AidlType
    so_far : SoFar types fs ss ts a.plans
    id : StandsFor types a.id t

  module _ (fs : List Field) (ss : List Slot) (ts : List AidlType) where
    push : (types : List AidlType) (p : Plans) (t : AidlType) (i : PlanItem) → SoFar types fs ss ts p → Planned types t i → IsAdded fs ss ts t (pushed p i)
    push types p t i h k =
        let more = t ∷ [] in
        let all = types ++ more in
        record {
          types = all;
          so_far = record {
            items = both_more (λ u j. Planned all u j) types p.items more (i ∷ [])
                (weaker (λ u j. Planned types u j) (λ u j. Planned all u j) (λ u j. planned_more types more u j) types p.items h.items) (planned_more types more t i k, tt);
            fields = weaker (λ f g. IsEntryOf types f g) (λ f g. IsEntryOf all f g) (λ f g e. (get_front types more g.item.0 f.ty e.0, e.1)) fs p.fields h.fields;
            starts = weaker (λ s start. IsStartOf types s start) (λ s start. IsStartOf all s start) (λ s start e. (e.0, e.1, e.2, get_front types more start.item.0 s.ty e.3)) ss p.starts h.starts;
            extras = weaker (λ u id. StandsFor types id u) (λ u id. StandsFor all id u) (λ u id e. get_front types more id.0 u e) ts p.extras h.extras;
          };
          id = subst (λ n. slice_get all n ≡ Some t) (same_length (λ u j. Planned types u j) types p.items h.items) (get_last types t);
        }

    add : (p : Plans) (t : AidlType) → is_type S t ≡ true → Stands fs ss ts p → IsAdded fs ss ts t (added S firsts p t)
    add p t is h = by_shape (is_one t.shape) (is_raw S t) refl refl
      where
        by_shape : (one raw : Bool) → is_one t.shape ≡ one → is_raw S t ≡ raw
            → IsAdded fs ss ts t (if one then pushed p (single S firsts t) else (if raw then pushed p (Raw t.nullable) else sequence_after t.nullable (pushed p (single S firsts (elem S t)))))
        by_shape true raw e r = push h.0 p t (single S firsts t) h.1 (is, rw e refl)
        by_shape false true e r = push h.0 p t (Raw t.nullable) h.1 (is, rw (e, r) refl)
        by_shape false false e r =
            let first = push h.0 p (elem S t) (single S firsts (elem S t)) h.1 (elem_is_type S t is, refl) in
            let a = pushed p (single S firsts (elem S t)) in
            push first.types a.plans t (Seq t.nullable a.id) first.so_far (is, rw (e, r) (a.id, refl, first.id))

    enter : (a : Added) (f : Field) → IsAdded fs ss ts f.ty a → Stands (fs ++ f ∷ []) ss ts (entered a f.initial)
    enter a f h = (
      h.types,
      record {
        items = h.so_far.items;
        fields = both_more (λ g e. IsEntryOf h.types g e) fs a.plans.fields (f ∷ []) _ h.so_far.fields ((h.id, refl), tt);
        starts = h.so_far.starts;
        extras = h.so_far.extras;
      },
    )

    start : (a : Added) (s : Slot) → IsAdded fs ss ts s.ty a → Stands fs (ss ++ s ∷ []) ts (started a s.interface s.method s.place)
    start a s h = (
      h.types,
      record {
        items = h.so_far.items;
        fields = h.so_far.fields;
        starts = both_more (λ x e. IsStartOf h.types x e) ss a.plans.starts (s ∷ []) _ h.so_far.starts ((refl, refl, refl, h.id), tt);
        extras = h.so_far.extras;
      },
    )

    extend : (a : Added) (t : AidlType) → IsAdded fs ss ts t a → Stands fs ss (ts ++ t ∷ []) (extended a)
    extend a t h = (
      h.types,
      record {
        items = h.so_far.items;
        fields = h.so_far.fields;
        starts = h.so_far.starts;
        extras = both_more (λ x e. StandsFor h.types e x) ts a.plans.extras (t ∷ []) _ h.so_far.extras (h.id, tt);
      },
    )

  -- the steps, one after the other
  field_steps : (done fs : List Field) (ss : List Slot) (ts : List AidlType) (p : Plans) → list_all (λ f. is_field_type S f) fs ≡ true → Stands done ss ts p
      → Stands (done ++ fs) ss ts (with_fields S firsts p fs)
  field_steps done [] ss ts p are h = subst (λ x. Stands x ss ts p) (sym (append-nil done)) h
  field_steps done (f ∷ fs) ss ts p are h =
      let two = both (is_field_type S f) (list_all (λ g. is_field_type S g) fs) are in
      let type = (both _ _ (both _ _ two.0).0).0 in
      let next = enter done ss ts (added S firsts p f.ty) f (add done ss ts p f.ty type h) in
      subst (λ x. Stands x ss ts (with_fields S firsts p (f ∷ fs))) (append_assoc done (f ∷ []) fs)
      (field_steps (done ++ f ∷ []) fs ss ts (entered (added S firsts p f.ty) f.initial) two.1 next)

  decl_steps : (done : List Field) (ds : List Decl) (ss : List Slot) (ts : List AidlType) (p : Plans)
      → ((n : ℕ) (d : Decl) → slice_get ds n ≡ Some d → list_all (λ f. is_field_type S f) (fields_of d.kind) ≡ true) → Stands done ss ts p
      → Stands (done ++ decl_fields ds) ss ts (with_decls S firsts p ds)
  decl_steps done [] ss ts p are h = subst (λ x. Stands x ss ts p) (sym (append-nil done)) h
  decl_steps done (d ∷ ds) ss ts p are h =
      let next = field_steps done (fields_of d.kind) ss ts p (are zero d refl) h in
      subst (λ x. Stands x ss ts (with_decls S firsts p (d ∷ ds))) (append_assoc done (fields_of d.kind) (decl_fields ds))
      (decl_steps (done ++ fields_of d.kind) ds ss ts (with_fields S firsts p (fields_of d.kind)) (λ n e at. are (suc n) e at) next)

  argument_steps : (n m k : ℕ) (done : List Slot) (rest : List Arg) (fs : List Field) (ts : List AidlType) (p : Plans) → list_all (λ a. is_passed_type S a.ty) rest ≡ true → Stands fs done ts p
      → Stands fs (done ++ argument_slots n m k rest) ts (with_arguments S firsts n m k p rest)
  argument_steps n m k done [] fs ts p are h = subst (λ x. Stands fs x ts p) (sym (append-nil done)) h
  argument_steps n m k done (a ∷ rest) fs ts p are h =
      let two = both (is_passed_type S a.ty) (list_all (λ b. is_passed_type S b.ty) rest) are in
      let type = (both _ _ (both _ _ two.0).0).0 in
      let s : Slot = record { interface = n; method = m; place = Some k; ty = a.ty } in
      let next = start fs done ts (added S firsts p a.ty) s (add fs done ts p a.ty type h) in
      subst (λ x. Stands fs x ts (with_arguments S firsts n m k p (a ∷ rest))) (append_assoc done (s ∷ []) (argument_slots n m (suc k) rest))
      (argument_steps n m (suc k) (done ++ s ∷ []) rest fs ts (started (added S firsts p a.ty) n m (Some k)) two.1 next)

  result_step : (n m : ℕ) (done : List Slot) (o : Option AidlType) (fs : List Field) (ts : List AidlType) (p : Plans) → is_result_type S o ≡ true → Stands fs done ts p
      → Stands fs (done ++ result_slots n m o) ts (with_result S firsts n m p o)
  result_step n m done None fs ts p is h = subst (λ x. Stands fs x ts p) (sym (append-nil done)) h
  result_step n m done (Some t) fs ts p is h =
      let type = (both _ _ (both _ _ is).0).0 in
      start fs done ts (added S firsts p t) (record { interface = n; method = m; place = None; ty = t }) (add fs done ts p t type h)

  method_steps : (n m : ℕ) (done : List Slot) (ws : List Method) (fs : List Field) (ts : List AidlType) (p : Plans) → list_all (λ w. has_method_types S w) ws ≡ true → Stands fs done ts p
      → Stands fs (done ++ method_slots n m ws) ts (with_methods S firsts n m p ws)
  method_steps n m done [] fs ts p are h = subst (λ x. Stands fs x ts p) (sym (append-nil done)) h
  method_steps n m done (w ∷ ws) fs ts p are h =
      let two = both (has_method_types S w) (list_all (λ v. has_method_types S v) ws) are in
      let types = both (is_result_type S w.result) (list_all (λ a. is_passed_type S a.ty) w.args) two.0 in
      let there = done ++ argument_slots n m 0 w.args in
      let args = argument_steps n m 0 done w.args fs ts p types.1 h in
      let next = result_step n m there w.result fs ts (with_arguments S firsts n m 0 p w.args) types.0 args in
      let joined : (there ++ result_slots n m w.result) ++ method_slots n (suc m) ws ≡ done ++ method_slots n m (w ∷ ws) =
      ap (λ x. x ++ method_slots n (suc m) ws) (append_assoc done (argument_slots n m 0 w.args) (result_slots n m w.result))
      ∙ append_assoc done (argument_slots n m 0 w.args ++ result_slots n m w.result) (method_slots n (suc m) ws) in
      subst (λ x. Stands fs x ts (with_methods S firsts n m p (w ∷ ws))) joined
      (method_steps n (suc m) (there ++ result_slots n m w.result) ws fs ts (with_method S firsts n m p w) two.1 next)

  interface_steps : (n : ℕ) (done : List Slot) (ds : List Decl) (fs : List Field) (ts : List AidlType) (p : Plans)
      → ((k : ℕ) (d : Decl) → slice_get ds k ≡ Some d → list_all (λ w. has_method_types S w) (methods_of d.kind) ≡ true) → Stands fs done ts p
      → Stands fs (done ++ slots_from n ds) ts (with_interfaces S firsts n p ds)
  interface_steps n done [] fs ts p are h = subst (λ x. Stands fs x ts p) (sym (append-nil done)) h
  interface_steps n done (d ∷ ds) fs ts p are h =
      let next = method_steps n 0 done (methods_of d.kind) fs ts p (are zero d refl) h in
      subst (λ x. Stands fs x ts (with_interfaces S firsts n p (d ∷ ds))) (append_assoc done (method_slots n 0 (methods_of d.kind)) (slots_from (suc n) ds))
      (interface_steps (suc n) (done ++ method_slots n 0 (methods_of d.kind)) ds fs ts (with_methods S firsts n 0 p (methods_of d.kind)) (λ k e at. are (suc k) e at) next)

  extra_steps : (done ts : List AidlType) (fs : List Field) (ss : List Slot) (p : Plans) → list_all (λ t. is_type S t) ts ≡ true → Stands fs ss done p
      → Stands fs ss (done ++ ts) (with_extras S firsts p ts)
  extra_steps done [] fs ss p are h = subst (λ x. Stands fs ss x p) (sym (append-nil done)) h
  extra_steps done (t ∷ ts) fs ss p are h =
      let two = both (is_type S t) (list_all (λ u. is_type S u) ts) are in
      let next = extend fs ss done (added S firsts p t) t (add fs ss done p t two.0 h) in
      subst (λ x. Stands fs ss x (with_extras S firsts p (t ∷ ts))) (append_assoc done (t ∷ []) ts)
      (extra_steps (done ++ t ∷ []) ts fs ss (extended (added S firsts p t)) two.1 next)

-- a base that means fields is the number of their declaration
kind_fields : (k : Kind) (fs : List Field) → form_of_kind k ≡ form.parcelable fs → fields_of k ≡ fs
kind_fields (Parcelable gs) fs e = cc
kind_fields (Union gs) fs e = cc
kind_fields (Interface ms) fs e = cc
kind_fields (Enum backing.Byte es) fs e = cc
kind_fields (Enum backing.Int es) fs e = cc
kind_fields (Enum backing.Long es) fs e = cc

kind_alternatives : (k : Kind) (fs : List Field) → form_of_kind k ≡ form.union fs → fields_of k ≡ fs
kind_alternatives (Union gs) fs e = cc
kind_alternatives (Parcelable gs) fs e = cc
kind_alternatives (Interface ms) fs e = cc
kind_alternatives (Enum backing.Byte es) fs e = cc
kind_alternatives (Enum backing.Int es) fs e = cc
kind_alternatives (Enum backing.Long es) fs e = cc

module _ (S : List Decl) where
  -- the declaration that a base names has these fields
  abbrev Names : Base → List Field → Type 0
  Names b fs = (n : ℕ) × (b ≡ base.Named n) × (d : Decl) × (slice_get S n ≡ Some d) × (fields_of d.kind ≡ fs)

  decl_of_form : (n : ℕ) (o : Option Decl) → slice_get S n ≡ o → (f : Form) → form_of_decl o ≡ f → (fs : List Field)
      → ((k : Kind) → form_of_kind k ≡ f → fields_of k ≡ fs) → f ≢ form.nothing → Names (base.Named n) fs
  decl_of_form n None at f e fs h some = absurd (some (sym e))
  decl_of_form n (Some d) at f e fs h some = (n, refl, d, at, h d.kind e)

  parcelable_named : (b : Base) (fs : List Field) → form_of S b ≡ form.parcelable fs → Names b fs
  parcelable_named base.Boolean fs e = cc
  parcelable_named base.Byte fs e = cc
  parcelable_named base.Char fs e = cc
  parcelable_named base.Int fs e = cc
  parcelable_named base.Long fs e = cc
  parcelable_named base.Text fs e = cc
  parcelable_named (base.Named n) fs e = decl_of_form n (slice_get S n) refl (form.parcelable fs) e fs (λ k h. kind_fields k fs h) (λ h. cc)

  union_named : (b : Base) (fs : List Field) → form_of S b ≡ form.union fs → Names b fs
  union_named base.Boolean fs e = cc
  union_named base.Byte fs e = cc
  union_named base.Char fs e = cc
  union_named base.Int fs e = cc
  union_named base.Long fs e = cc
  union_named base.Text fs e = cc
  union_named (base.Named n) fs e = decl_of_form n (slice_get S n) refl (form.union fs) e fs (λ k h. kind_alternatives k fs h) (λ h. cc)

  -- where the entries of a declaration begin
  named_entries : (types : List AidlType) (entries : List PlanField) (b : Base) (fs : List Field) → OneForOne (λ f g. IsEntryOf types f g) (decl_fields S) entries → Names b fs
      → AreEntriesOf types entries (first_in (firsts_from 0 S) b) fs
  named_entries types entries b fs all h =
      let n = h.0 in
      let d = h.2 in
      let first : first_in (firsts_from 0 S) b ≡ offset S n = rw h.1 (first_is S 0 n d h.3 ∙ zero-add (offset S n)) in
      let here = fields_at (λ f g. IsEntryOf types f g) S n d entries h.3 all in
      subst (λ k. AreEntriesOf types entries k fs) (sym first) (subst (λ gs. OneForOne (λ f g. IsEntryOf types f g) gs (take (length gs) (drop (offset S n) entries))) h.4 here)

  one_is : (types : List AidlType) (entries : List PlanField) (nullable : Bool) (b : Base) (f : Form) → form_of S b ≡ f → is_meant f ≡ true
      → OneForOne (λ f g. IsEntryOf types f g) (decl_fields S) entries → IsOneItem types entries nullable f (one_item nullable (first_in (firsts_from 0 S) b) f)
  one_is types entries nullable b form.truth e meant all = refl
  one_is types entries nullable b form.byte e meant all = refl
  one_is types entries nullable b form.char e meant all = refl
  one_is types entries nullable b form.int e meant all = refl
  one_is types entries nullable b form.long e meant all = refl
  one_is types entries nullable b form.text e meant all = refl
  one_is types entries nullable b (form.parcelable fs) e meant all = (first_in (firsts_from 0 S) b, refl, named_entries types entries b fs all (parcelable_named b fs e))
  one_is types entries nullable b (form.union fs) e meant all = (first_in (firsts_from 0 S) b, refl, named_entries types entries b fs all (union_named b fs e))
  one_is types entries nullable b form.nothing e meant all = cc

  planned_is : (types : List AidlType) (entries : List PlanField) → OneForOne (λ f g. IsEntryOf types f g) (decl_fields S) entries
      → (t : AidlType) (i : PlanItem) → Planned S (firsts_from 0 S) types t i → IsItemOf S types entries t i
  planned_is types entries all t i h = by_shape (is_one t.shape) h.1
    where
      by_shape : (one : Bool) → MatchBool one (i ≡ single S (firsts_from 0 S) t) (IsManyItem S types t i) → MatchBool one (IsOneItem types entries t.nullable (form_of S t.base) i) (IsManyItem S types t i)
      by_shape true e = subst (λ j. IsOneItem types entries t.nullable (form_of S t.base) j) (sym e) (one_is types entries t.nullable t.base (form_of S t.base) refl (both _ _ h.0).0 all)
      by_shape false k = k

  -- where the entries of an item begin, by its type
  first_by : Shape → Base → Option ℕ
  first_by shape b = if is_one shape then first_of (one_item false (first_in (firsts_from 0 S) b) (form_of S b)) else None

  first_of_one : (nullable : Bool) (first : ℕ) (f : Form) → first_of (one_item nullable first f) ≡ first_of (one_item false first f)
  first_of_one nullable first form.truth = refl
  first_of_one nullable first form.byte = refl
  first_of_one nullable first form.char = refl
  first_of_one nullable first form.int = refl
  first_of_one nullable first form.long = refl
  first_of_one nullable first form.text = refl
  first_of_one nullable first (form.parcelable fs) = refl
  first_of_one nullable first (form.union fs) = refl
  first_of_one nullable first form.nothing = refl

  first_planned : (types : List AidlType) (t : AidlType) (i : PlanItem) → Planned S (firsts_from 0 S) types t i → first_of i ≡ first_by t.shape t.base
  unfolding first_by
  first_planned types t i h = by_shape (is_one t.shape) (is_raw S t) h.1
    where
      by_shape : (one raw : Bool) → MatchBool one (i ≡ single S (firsts_from 0 S) t) (MatchBool raw (i ≡ Raw t.nullable) ((e : PlanId) × (i ≡ Seq t.nullable e) × StandsFor types e (elem S t)))
          → first_of i ≡ (if one then first_of (one_item false (first_in (firsts_from 0 S) t.base) (form_of S t.base)) else None)
      by_shape true raw e = ap first_of e ∙ first_of_one t.nullable (first_in (firsts_from 0 S) t.base) (form_of S t.base)
      by_shape false true e = ap first_of e
      by_shape false false e = ap first_of e.1

  module _ (extra : List AidlType) (p : Plans) (valid : IsValid S) (h : Stands S (firsts_from 0 S) (decl_fields S) (slots S) extra p) where
    stand_for : (types : List AidlType) × StandFor S extra types p
    stand_for =
        let types = h.0 in
        let so_far = h.1 in
        let planned = λ (t : AidlType) (i : PlanItem). Planned S (firsts_from 0 S) types t i in (
          types,
          record {
            schema = valid;
            of_schema = λ k t at. (matched planned types p.items k t so_far.items at).2.0;
            items = weaker planned (λ t i. IsItemOf S types p.fields t i) (λ t i k. planned_is types p.fields so_far.fields t i k) types p.items so_far.items;
            shared = λ j k t u g i at there fst snd shape same.
                first_planned types t g (matched_with planned types p.items j t g so_far.items at fst)
                ∙ ap (λ s. first_by s t.base) shape ∙ ap (λ b. first_by u.shape b) same
                ∙ sym (first_planned types u i (matched_with planned types p.items k u i so_far.items there snd));
            starts = so_far.starts;
            extras = so_far.extras;
          },
        )

-- plans that were compiled
pub compiled : (S : List Decl) (extra : List AidlType) (p : Plans) → IsValid S → AllHold S → list_all (λ t. is_type S t) extra ≡ true
    → p ≡ with_extras S (firsts_from 0 S) (with_interfaces S (firsts_from 0 S) 0 (with_decls S (firsts_from 0 S) (record { items = []; fields = []; starts = []; extras = [] }) S) S) extra
    → (types : List AidlType) × StandFor S extra types p
compiled S extra p valid hold are is =
    let F = firsts_from 0 S in
    let none : Plans = record { items = []; fields = []; starts = []; extras = [] } in
    let start : Stands S F [] [] [] none = ([], record { items = tt; fields = tt; starts = tt; extras = tt }) in
    let entries = decl_steps S F [] S [] [] none (λ n d at. (hold n d at).field_types) start in
    let starts = interface_steps S F 0 [] S (decl_fields S) [] (with_decls S F none S) (λ n d at. (hold n d at).method_types) entries in
    let all = extra_steps S F [] extra (decl_fields S) (slots S) (with_interfaces S F 0 (with_decls S F none S) S) are starts in
    stand_for S extra p valid (subst (λ q. Stands S F (decl_fields S) (slots S) extra q) (sym is) all)
