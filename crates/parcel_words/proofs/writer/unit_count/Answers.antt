use Rattle.std.proofs.Common.{length, ap, arith}
use Rattle.std.specs.Str.{chars}
use Rattle.std.proofs.lemmas.Iterator.{YieldsList-from_chars}
use Rattle.std.proofs.lemmas.Iterator.Consumers.{YieldsList-turn, YieldsList-end}
use Rattle.std.proofs.lemmas.List.{length_push, at_drop_all}
use Rattle.std.proofs.lemmas.Str.{encodes-chars}
use Rattle.aidl_base.specs.Words.{units}
use Rattle.aidl_base.proofs.lemmas.Texts.{units_le}
use Rattle.parcel_words.proofs.lemmas.Appends.{counts_next}
use Rattle.parcel_words.proofs.writer.unit_count.Goals as goal

pub overflow_add-count : goal.overflow_add-count
overflow_add-count c =
    let n = length c.loop-c.yielded in
    let t = YieldsList-turn (YieldsList-from_chars c.args.text.now c.utf8.text cc) c.loop-c.yielded _ c.loop-c.yielded_by _ _ c.in-Some.c c.in-Some.is c.next.ensures.steps in
    let e = counts_next (chars c.args.text.now) n c.in-Some.c c.loop-c.count c.len_utf16-count.result _ t c.len_utf16-count.ensures.bmp c.len_utf16-count.ensures.surrogate_pair c.loop-c.invariant in
    let bytes = units_le (chars c.args.text.now) in
    let whole = ap length (encodes-chars c.args.text.now c.utf8.text) in
    omega (arith, e, bytes, whole)

pub loop-c-preserved : goal.loop-c-preserved
loop-c-preserved c =
    let n = length c.loop-c.yielded in
    let t = YieldsList-turn (YieldsList-from_chars c.args.text.now c.utf8.text cc) c.loop-c.yielded _ c.loop-c.yielded_by _ _ c.in-Some.c c.in-Some.is c.next.ensures.steps in
    let e = counts_next (chars c.args.text.now) n c.in-Some.c c.loop-c.count c.len_utf16-count.result _ t c.len_utf16-count.ensures.bmp c.len_utf16-count.ensures.surrogate_pair c.loop-c.invariant in
    rw length_push e

pub returns-clause-count : goal.returns-clause-count
returns-clause-count c =
    let t = YieldsList-end (YieldsList-from_chars c.args.text.now c.utf8.text cc) c.loop-c.yielded _ c.loop-c.yielded_by _ _ c.in-None.is c.next.ensures.steps in
    omega (arith, ap length (at_drop_all units (chars c.args.text.now) (length c.loop-c.yielded) (omega (arith, t.1))), c.loop-c.invariant)

pub returns-clause-small : goal.returns-clause-small
returns-clause-small c =
    let bytes = units_le (chars c.args.text.now) in
    let whole = ap length (encodes-chars c.args.text.now c.utf8.text) in
    omega (arith, bytes, whole, c.loop-c.invariant)
