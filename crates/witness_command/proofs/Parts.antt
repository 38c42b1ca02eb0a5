-- One more part behind others.
use Rattle.std.proofs.Common.{◌≡◌, ℕ, Bool, true, List, ◌++◌, sym, ap, ◌∙◌, append_assoc, string_bytes}
use Rattle.growing.specs.Grows.{Grows}
use Rattle.growing.specs.declared.text.GrowingText.{GrowingText}
use Rattle.serde_json.specs.Written.{comma_if}
use Rattle.aidl_values.specs.Data.{Data, Items, item}
use Rattle.witness_command.specs.Texts.{parts_text, value_text}

-- with the parts that are left the text has all of these more
abbrev pub Completes : GrowingText → GrowingText → Bool → Items → List ℕ → Type 0
Completes old now later left all = now.is_whole ≡ true → (old.is_whole ≡ true) × (string_bytes now.text ++ parts_text later left ≡ string_bytes old.text ++ all)

pub part_added : (first old named now : GrowingText) (later : Bool) (d : Data) (ds others : Items) (all : List ℕ) → ds ≡ item d others → Grows old named (comma_if later)
    → Grows named now (value_text d) → Completes first old later ds all → Completes first now true others all
part_added first old named now later d ds others all is one two before whole =
    let second = two whole in
    let comma = one second.0 in
    let done = before comma.0 in
    let rest = parts_text true others in (
      done.0,
      ap (λ (z : List ℕ). z ++ rest) (second.1 ∙ ap (λ (z : List ℕ). z ++ value_text d) comma.1 ∙ append_assoc (string_bytes old.text) (comma_if later) (value_text d))
          ∙ append_assoc (string_bytes old.text) (comma_if later ++ value_text d) rest
          ∙ sym (ap (λ (es : Items). string_bytes old.text ++ parts_text later es) is) ∙ done.1,
    )
