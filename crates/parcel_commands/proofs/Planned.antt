-- Plans of the types of the words.
use Rattle.std.proofs.Common.{◌≡◌, ℕ, ℤ, Some, Err, zero, suc, ◌<◌, List, [], ◌∷◌, ◌++◌, ◌+◌, length, get_or, drop, map, sym, ap, ◌∙◌, subst, arith}
use Rattle.aidl_schema.specs.declared.schema.AidlType.{AidlType}
use Rattle.aidl_schema.specs.declared.schema.Decl.{Decl}
use Rattle.marshal_plans.specs.declared.plans.PlanId.{PlanId}
use Rattle.marshal_plans.specs.declared.plans.Plans.{Plans}
use Rattle.marshal_plans.specs.Standing.{IsOf, OneForOne, StandFor, StandsFor}
use Rattle.marshal_plans.proofs.lemmas.Matching.{weaker, same_length}
use Rattle.std.proofs.lemmas.List.{at_drop_more}
use Rattle.aidl_schema.specs.Types.{no_type}
use Rattle.aidl_base.specs.Readings.{Read, bad_value, not_enough, unexpected_null}
use Rattle.aidl_values.specs.Data.{Data}
use Rattle.aidl_values.specs.Fits.{Fits}
use Rattle.aidl_values.specs.View.{view}
use Rattle.aidl_values.specs.declared.value.Value.{Value}
use Rattle.parcel_words.specs.Taken.{RefusesIfMemory, status_of}
use Rattle.parcel_words.specs.declared.fault.ReadFault.{ReadFault}
use Rattle.parcel_words.specs.declared.fault.ReadFault.TheVariants.{NotEnough, UnexpectedNull, BadValue, OutOfMemory}
use Rattle.wire_model.specs.Spell.{spell}
use Rattle.parcel_commands.specs.Encode.{spell_values}
use Rattle.parcel_commands.specs.JsonFile.{AreTyped}
use Rattle.parcel_commands.specs.steps.Planned.{ArePlanned}

-- those that were compiled
pub planned : (S : List Decl) (ts : List AidlType) (plans : Plans) → ((types : List AidlType) × StandFor S ts types plans) → ArePlanned plans S ts
planned S ts plans h =
    weaker (λ t id. StandsFor h.0 id t) (λ t id. IsOf plans id S t) (λ t id at. (ts, h.0, h.1, at)) ts plans.extras h.1.extras

pub as_many : (S : List Decl) (ts : List AidlType) (plans : Plans) → ArePlanned plans S ts → length ts ≡ length plans.extras
as_many S ts plans h = same_length (λ t id. IsOf plans id S t) ts plans.extras h

each : {X Y : Type 0} (R : X → Y → Type 0) (xs : List X) (ys : List Y) (i : ℕ) (d : X) (e : Y) → OneForOne R xs ys → i < length xs → R (get_or xs i d) (get_or ys i e)
each R [] ys i d e h lt = absurd (omega arith)
each R (x ∷ xs) [] i d e h lt = elim h [ ]
each R (x ∷ xs) (y ∷ ys) zero d e h lt = h.0
each R (x ∷ xs) (y ∷ ys) (suc i) d e h lt = each R xs ys i d e h.1 (omega arith)

-- the id and the type at a place
pub planned_at : (S : List Decl) (ts : List AidlType) (plans : Plans) (i : ℕ) (d : AidlType) (e : PlanId) → ArePlanned plans S ts → i < length ts
    → IsOf plans (get_or plans.extras i e) S (get_or ts i d)
planned_at S ts plans i d e h lt = each (λ t id. IsOf plans id S t) ts plans.extras i d e h lt

-- the first value that is left, with its id and its type
pub record Next (S : List Decl) (plans : Plans) (ts : List AidlType) (vs : List Value) (id : PlanId) (i : ℕ) (v : Value) : Type 0 where
  pub ty : AidlType
  pub is : IsOf plans id S ty
  pub fits : Fits S ty (view v)
  pub typed : AreTyped S (drop (i + 1) ts) (map view (drop (i + 1) vs))
  pub spelled : spell_values S (drop i ts) (map view (drop i vs)) ≡ spell S ty (view v) ++ spell_values S (drop (i + 1) ts) (map view (drop (i + 1) vs))

pub next : (S : List Decl) (plans : Plans) (ts : List AidlType) (vs : List Value) (ids : List PlanId) (e : PlanId) (i : ℕ) (v : Value) → ArePlanned plans S ts → ids ≡ plans.extras
    → length ts ≡ length vs → i < length vs → v ≡ get_or vs i v → AreTyped S (drop i ts) (map view (drop i vs)) → Next S plans ts vs (get_or ids i e) i v
next S plans ts vs ids e i v planned same count lt is h =
    let short : i < length ts = omega (arith, count, lt) in
    let t = get_or ts i no_type in
    let left_ts : drop i ts ≡ t ∷ drop (i + 1) ts = at_drop_more (λ l. l) ts i no_type short in
    let left_vs : drop i vs ≡ v ∷ drop (i + 1) vs = at_drop_more (λ l. l) vs i v lt ∙ ap (λ x. x ∷ drop (i + 1) vs) (sym is) in
    let first : AreTyped S (t ∷ drop (i + 1) ts) (map view (v ∷ drop (i + 1) vs)) =
    subst (λ l. AreTyped S (t ∷ drop (i + 1) ts) (map view l)) left_vs (subst (λ l. AreTyped S l (map view (drop i vs))) left_ts h) in
    record {
      ty = t;
      is = subst (λ xs. IsOf plans (get_or xs i e) S t) (sym same) (planned_at S ts plans i no_type e planned short);
      fits = first.0;
      typed = first.1;
      spelled = ap (λ l. spell_values S l (map view (drop i vs))) left_ts ∙ ap (λ l. spell_values S (t ∷ drop (i + 1) ts) (map view l)) left_vs;
    }

-- what a fault with a status says of reading
pub refused : (e : ReadFault) (s : ℤ) (reading : Read Data) → status_of e ≡ Some s → RefusesIfMemory e reading → reading ≡ Err s
refused NotEnough s reading is h = let same : not_enough ≡ s = cc in h ∙ ap Err same
refused UnexpectedNull s reading is h = let same : unexpected_null ≡ s = cc in h ∙ ap Err same
refused BadValue s reading is h = let same : bad_value ≡ s = cc in h ∙ ap Err same
refused OutOfMemory s reading is h = cc
