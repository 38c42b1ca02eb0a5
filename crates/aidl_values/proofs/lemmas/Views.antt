-- What is seen of a sequence and of a record, in each of their forms.
use Rattle.std.proofs.Common.{◌≡◌, ℕ, ℤ, pos, Bool, List, map, rc_value}
use Rattle.std.specs.Int.{w8, cast_signed}
use Rattle.aidl_values.specs.Data.{Data, truth, number, seq, rec}
use Rattle.aidl_values.specs.Given.{overlaid}
use Rattle.aidl_values.specs.View.{items_of, view, datas, field_datas, short_datas, elements_step, fields_step, value_step, short_step}
use Rattle.aidl_values.specs.declared.value.Value.{Value, Value-F, fold-roll-Value}
use Rattle.aidl_values.specs.declared.value.Elements.{Elements, Elements-F, fold-roll-Elements}
use Rattle.aidl_values.specs.declared.value.Fields.{Fields, Fields-F, fold-roll-Fields}
use Rattle.aidl_values.specs.declared.value.ShortFields.{ShortFields, out-ShortFields, fold_out-ShortFields}
use Rattle.aidl_values.specs.declared.value.Value.TheVariants as value
use Rattle.aidl_values.specs.declared.value.Elements.TheVariants as elements
use Rattle.aidl_values.specs.declared.value.Fields.TheVariants as fields

pub view_of_seq : (es : Elements) → view (value.Seq es) ≡ seq (items_of (datas es))
unfolding Rattle.aidl_values.specs.declared.value.Elements.TheViews.roll-Value denote.Hole.Carrier.roll
view_of_seq es = fold-roll-Value (List Data) (List Data) Data (List Data) elements_step fields_step value_step short_step (Value-F.Seq es)

pub view_of_rec : (fs : Fields) → view (value.Rec fs) ≡ rec (items_of (field_datas fs))
unfolding Rattle.aidl_values.specs.declared.value.Elements.TheViews.roll-Value denote.Hole.Carrier.roll
view_of_rec fs = fold-roll-Value (List Data) (List Data) Data (List Data) elements_step fields_step value_step short_step (Value-F.Rec fs)

pub datas_values : (vs : List Value) → datas (elements.Values vs) ≡ map view vs
unfolding Rattle.aidl_values.specs.declared.value.Elements.TheViews.roll-Elements denote.Hole.Carrier.roll
datas_values vs = fold-roll-Elements (List Data) (List Data) Data (List Data) elements_step fields_step value_step short_step (Elements-F.Values vs)

pub datas_truths : (bs : List Bool) → datas (elements.Truths bs) ≡ map truth bs
unfolding Rattle.aidl_values.specs.declared.value.Elements.TheViews.roll-Elements denote.Hole.Carrier.roll
datas_truths bs = fold-roll-Elements (List Data) (List Data) Data (List Data) elements_step fields_step value_step short_step (Elements-F.Truths bs)

pub datas_bytes : (bs : List ℕ) → datas (elements.Bytes bs) ≡ map number (map (λ b. cast_signed w8 b) bs)
unfolding Rattle.aidl_values.specs.declared.value.Elements.TheViews.roll-Elements denote.Hole.Carrier.roll
datas_bytes bs = fold-roll-Elements (List Data) (List Data) Data (List Data) elements_step fields_step value_step short_step (Elements-F.Bytes bs)

pub datas_chars : (us : List ℕ) → datas (elements.Chars us) ≡ map number (map pos us)
unfolding Rattle.aidl_values.specs.declared.value.Elements.TheViews.roll-Elements denote.Hole.Carrier.roll
datas_chars us = fold-roll-Elements (List Data) (List Data) Data (List Data) elements_step fields_step value_step short_step (Elements-F.Chars us)

pub datas_ints : (ns : List ℤ) → datas (elements.Ints ns) ≡ map number ns
unfolding Rattle.aidl_values.specs.declared.value.Elements.TheViews.roll-Elements denote.Hole.Carrier.roll
datas_ints ns = fold-roll-Elements (List Data) (List Data) Data (List Data) elements_step fields_step value_step short_step (Elements-F.Ints ns)

pub datas_longs : (ns : List ℤ) → datas (elements.Longs ns) ≡ map number ns
unfolding Rattle.aidl_values.specs.declared.value.Elements.TheViews.roll-Elements denote.Hole.Carrier.roll
datas_longs ns = fold-roll-Elements (List Data) (List Data) Data (List Data) elements_step fields_step value_step short_step (Elements-F.Longs ns)

pub fields_whole : (vs : List Value) → field_datas (fields.Whole vs) ≡ map view vs
unfolding Rattle.aidl_values.specs.declared.value.Elements.TheViews.roll-Fields denote.Hole.Carrier.roll
fields_whole vs = fold-roll-Fields (List Data) (List Data) Data (List Data) elements_step fields_step value_step short_step (Fields-F.Whole vs)

-- values given at places, over the defaults
pub fields_over : (s : ShortFields) → short_datas s ≡ overlaid (out-ShortFields s).places (map view (out-ShortFields s).given) 0 (map view (rc_value (out-ShortFields s).defaults))
fields_over s = fold_out-ShortFields (List Data) (List Data) Data (List Data) elements_step fields_step value_step short_step s
