use Rattle.std.proofs.Common.{◌≡◌, ◌+◌, ◌*◌, drop, map}
use Rattle.aidl_values.specs.Data.{depth_of, greatest}
use Rattle.aidl_values.specs.View.{datas, field_datas, items_of, view, views}
use Rattle.aidl_schema.specs.Types.{form_of}
use Rattle.wire_model.specs.Spell.{parcelable_fields}
use Rattle.wire_model.specs.View.{each_field, view_items}
use Rattle.value_views.specs.steps.Seen.{field_view, with_seen}
use Rattle.value_views.proofs.viewing.+viewing.Given as goal

-- the views so far, and those of what is left
abbrev pub invariant-view_items-loop-value : goal.invariant-view_items-loop-value
invariant-view_items-loop-value l = with_seen (map view l.seen.items) (view_items l.sender l.t l.receiver l.u (views (drop l.value-index l.values))) ≡ view_items l.sender l.t l.receiver l.u (views l.values)

abbrev pub invariant-view_record-loop-field : goal.invariant-view_record-loop-field
invariant-view_record-loop-field l =
    with_seen (map view l.seen.items) (each_field (λ g. field_view l.sender (parcelable_fields (form_of l.sender l.base)) l.receiver (items_of (field_datas l.values)) g) (drop l.field-index l.fields))
    ≡ each_field (λ g. field_view l.sender (parcelable_fields (form_of l.sender l.base)) l.receiver (items_of (field_datas l.values)) g) l.fields

-- a value takes more steps than the list of its parts, and the list than each of them
abbrev pub decreases-view_value : goal.decreases-view_value
decreases-view_value l = 3 * depth_of (view l.value.now)

abbrev pub decreases-view_sequence : goal.decreases-view_sequence
decreases-view_sequence l = 3 * greatest (items_of (datas l.elements.now)) + 2

abbrev pub decreases-view_items : goal.decreases-view_items
decreases-view_items l = 3 * greatest (views l.values.now) + 1

abbrev pub decreases-view_record : goal.decreases-view_record
decreases-view_record l = 3 * greatest (items_of (field_datas l.values.now)) + 2

abbrev pub decreases-view_field : goal.decreases-view_field
decreases-view_field l = 3 * greatest (items_of (field_datas l.values.now)) + 1

abbrev pub decreases-view_alternative : goal.decreases-view_alternative
decreases-view_alternative l = 3 * depth_of (view l.value.now) + 1
