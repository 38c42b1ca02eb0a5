use Rattle.std.proofs.Common.{◌≡◌, ◌+◌, ◌-◌, List, ℕ, length, take, drop, Some, ap, arith, length-drop}
use Rattle.std.specs.Option.{option_map}
use Rattle.std.proofs.lemmas.List.{take_all}
use Rattle.parcel_replay.proofs.words.word_at.Goals as goal

pub returns-in-Some : goal.returns-in-Some
unfolding Rattle.parcel_replay.specs.Traced.word_at
returns-in-Some c =
    let text : List ℕ = c.args.text.now in
    let all : take (length text - (c.in-Some.end + 1)) (drop (c.in-Some.end + 1) text) ≡ drop (c.in-Some.end + 1) text = take_all _ _ (omega (arith, length-drop (c.in-Some.end + 1) text)) in
    rw all (ap (option_map (λ (n : ℕ). (take n text, drop (n + 1) text))) c.in-Some.ensures.first)
