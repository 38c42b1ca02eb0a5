use Rattle.std.proofs.Common.{◌≡◌, ℕ, List, ◌++◌, ◌∷◌, [], sym, ap, ◌∙◌}
use Rattle.std.proofs.lemmas.Grind.{flat_map-append}
use Rattle.std.proofs.lemmas.Iterator.{YieldsList-from_chars}
use Rattle.std.proofs.lemmas.Iterator.Consumers.{YieldsList-end}
use Rattle.std.proofs.lemmas.List.{append-nil}
use Rattle.std.proofs.lemmas.List.Folds.{flat_map-map}
use Rattle.std.proofs.lemmas.Str.{encodes-append}
use Rattle.std.specs.List.{flat_map}
use Rattle.std.specs.Str.{encode_utf8_all}
use Rattle.json_values.specs.Refusal.{escaped, escaped_character}
use Rattle.json_values.proofs.pointer.key_step.Goals as goal

one_more : (ys : List ℕ) (c : ℕ) → encode_utf8_all (flat_map escaped_character ys) ++ encode_utf8_all (escaped_character c) ≡ encode_utf8_all (flat_map escaped_character (ys ++ c ∷ []))
one_more ys c = sym
    (ap encode_utf8_all (flat_map-append escaped_character ys (c ∷ []) ∙ ap (λ e. flat_map escaped_character ys ++ e) (append-nil (escaped_character c)))
    ∙ encodes-append (flat_map escaped_character ys) (escaped_character c))

pub loop-c-preserved : goal.loop-c-preserved
loop-c-preserved c =
    c.in_ok-push_escaped.ensures ∙ ap (λ b. b ++ encode_utf8_all (escaped_character c.in-Some.c)) c.loop-c.invariant ∙ ap (λ x. 47 ∷ x) (one_more c.loop-c.yielded c.in-Some.c)

pub returns : goal.returns
unfolding escaped
returns c =
    let all = YieldsList-end (YieldsList-from_chars c.args.key.now c.utf8.key cc) c.loop-c.yielded _ c.loop-c.yielded_by _ _ c.in-None.is c.next.ensures.steps in
    c.loop-c.invariant ∙ ap (λ x. 47 ∷ encode_utf8_all x) (sym (flat_map-map escaped_character (λ x. x) c.loop-c.yielded) ∙ ap (flat_map escaped_character) all.0)
