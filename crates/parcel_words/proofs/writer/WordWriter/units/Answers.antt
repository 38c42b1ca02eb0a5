use Rattle.std.proofs.Common.{◌+◌, length, drop, ap, sym, ◌∙◌, arith, length-append}
use Rattle.std.specs.Str.{chars}
use Rattle.std.specs.Char.Escape.{encode_utf16}
use Rattle.std.proofs.lemmas.Iterator.{YieldsList-from_chars}
use Rattle.std.proofs.lemmas.Iterator.Consumers.{YieldsList-turn, YieldsList-end}
use Rattle.std.proofs.lemmas.List.{length_push, at_drop_all}
use Rattle.aidl_base.specs.Words.{units, unit_bytes}
use Rattle.parcel_words.specs.Written.{with_bytes}
use Rattle.parcel_words.proofs.lemmas.Appends.{unit_bytes_next, with_more, with_none}
use Rattle.parcel_words.proofs.writer.WordWriter.units.Goals as goal

pub character-requires : goal.character-requires
character-requires c =
    let n = length c.loop-c.yielded in
    let cs = chars c.args.text.now in
    let t = YieldsList-turn (YieldsList-from_chars c.args.text.now c.utf8.text cc) c.loop-c.yielded _ c.loop-c.yielded_by _ _ c.in-Some.c c.in-Some.is c.next.ensures.steps in
    omega (arith, c.loop-c.invariant.room, ap length (unit_bytes_next cs n c.in-Some.c t), length-append (unit_bytes (encode_utf16 c.in-Some.c)) (unit_bytes (units (drop (n + 1) cs))))

pub loop-c-preserved : goal.loop-c-preserved
loop-c-preserved c =
    let n = length c.loop-c.yielded in
    let cs = chars c.args.text.now in
    let w = c.loop-c.self in
    let t = YieldsList-turn (YieldsList-from_chars c.args.text.now c.utf8.text cc) c.loop-c.yielded _ c.loop-c.yielded_by _ _ c.in-Some.c c.in-Some.is c.next.ensures.steps in
    let next = unit_bytes_next cs n c.in-Some.c t in
    let e = c.character.ensures in
    rw (length_push, e) (record {
      all = with_more w (unit_bytes (encode_utf16 c.in-Some.c)) (unit_bytes (units (drop (n + 1) cs))) ∙ ap (with_bytes w) (sym next) ∙ c.loop-c.invariant.all;
      room = omega (arith, c.loop-c.invariant.room, ap length next, length-append (unit_bytes (encode_utf16 c.in-Some.c)) (unit_bytes (units (drop (n + 1) cs))));
    })

pub returns : goal.returns
returns c =
    let cs = chars c.args.text.now in
    let t = YieldsList-end (YieldsList-from_chars c.args.text.now c.utf8.text cc) c.loop-c.yielded _ c.loop-c.yielded_by _ _ c.in-None.is c.next.ensures.steps in
    let w = c.loop-c.self in
    sym (with_none w) ∙ ap (with_bytes w) (sym (at_drop_all (λ xs. unit_bytes (units xs)) cs (length c.loop-c.yielded) (omega (arith, t.1)))) ∙ c.loop-c.invariant.all
