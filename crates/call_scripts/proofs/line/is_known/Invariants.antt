use Rattle.std.proofs.Common.{◌≡◌, drop}
use Rattle.std.specs.List.{list_any}
use Rattle.aidl_schema.specs.Same.{same_text}
use Rattle.call_scripts.specs.Keys.{seen_keys}
use Rattle.call_scripts.proofs.line.is_known.Given as goal

-- what is left decides
abbrev pub invariant-loop-other : goal.invariant-loop-other
invariant-loop-other l = list_any (λ k. same_text k l.key) (seen_keys (drop l.other-index l.known)) ≡ list_any (λ k. same_text k l.key) (seen_keys l.known)
