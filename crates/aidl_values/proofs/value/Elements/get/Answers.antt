use Rattle.std.proofs.Common.{false, pos, get_or, map, sym, ap, ◌∙◌}
use Rattle.std.specs.Int.{w8, cast_signed}
use Rattle.std.proofs.lemmas.Int.{ints}
use Rattle.aidl_values.specs.Data.{truth, number}
use Rattle.aidl_values.specs.View.{view, datas}
use Rattle.aidl_values.proofs.ElementAt.{number_at, seen_at, get_again}
use Rattle.aidl_values.proofs.lemmas.Views.{datas_values, datas_truths, datas_bytes, datas_chars, datas_ints, datas_longs}
use Rattle.aidl_values.proofs.value.Elements.get.Goals as goal

pub returns-in-Values : goal.returns-in-Values
returns-in-Values c =
    let are = ap datas c.in-Values.is ∙ datas_values c.in-Values.values ∙ ap (map view) (sym c.as_slice.ensures) in
    seen_at view (datas c.args.self.now) c.as_slice.result.now are c.args.i c.index-as_slice-i.result c.requires c.index-as_slice-i.is

pub returns-in-Truths : goal.returns-in-Truths
returns-in-Truths c =
    let are = ap datas c.in-Truths.is ∙ datas_truths c.in-Truths.truths ∙ ap (map truth) (sym c.as_slice-in-Truths.ensures) in
    seen_at truth (datas c.args.self.now) c.as_slice-in-Truths.result.now are c.args.i (get_or c.as_slice-in-Truths.result.now c.args.i false) c.requires
    (get_again c.as_slice-in-Truths.result.now c.args.i false)

pub returns-in-Bytes : goal.returns-in-Bytes
returns-in-Bytes c =
    let are = ap datas c.in-Bytes.is ∙ datas_bytes c.in-Bytes.bytes ∙ ap (λ ns. map number (map (λ b. cast_signed w8 b) ns)) (sym c.as_slice-in-Bytes.ensures) in
    number_at (datas c.args.self.now) (map (λ b. cast_signed w8 b) c.as_slice-in-Bytes.result.now) are c.args.i c.byte_at.result c.byte_at.ensures (search ints)

pub returns-in-Chars : goal.returns-in-Chars
returns-in-Chars c =
    let are = ap datas c.in-Chars.is ∙ datas_chars c.in-Chars.units ∙ ap (λ ns. map number (map pos ns)) (sym c.as_slice-in-Chars.ensures) in
    number_at (datas c.args.self.now) (map pos c.as_slice-in-Chars.result.now) are c.args.i c.unit_at.result c.unit_at.ensures (search ints)

pub returns-in-Ints : goal.returns-in-Ints
returns-in-Ints c =
    let are = ap datas c.in-Ints.is ∙ datas_ints c.in-Ints.ints ∙ ap (map number) (sym c.as_slice-in-Ints.ensures) in
    number_at (datas c.args.self.now) c.as_slice-in-Ints.result.now are c.args.i c.int_at.result c.int_at.ensures (search ints)

pub returns-in-Longs : goal.returns-in-Longs
returns-in-Longs c =
    let are = ap datas c.in-Longs.is ∙ datas_longs c.in-Longs.longs ∙ ap (map number) (sym c.as_slice-in-Longs.ensures) in
    number_at (datas c.args.self.now) c.as_slice-in-Longs.result.now are c.args.i c.long_at.result c.long_at.ensures (search ints)
