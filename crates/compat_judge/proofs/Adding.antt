-- What steps add to the findings one after the other.
use Rattle.std.proofs.Common.{◌≡◌, ℕ, List, [], ◌∷◌, ◌++◌, refl, sym, ap, ◌∙◌, append_assoc}
use Rattle.std.proofs.lemmas.List.{append-nil}
use Rattle.aidl_schema.specs.Broken.{Break, Place, of_rule}
use Rattle.compat_judge.specs.declared.findings.Findings.{Findings}
use Rattle.compat_judge.specs.steps.Adds.{Adds, found_so_far}

pub adds_as : {a b : Findings} {p q : List Break} → p ≡ q → Adds a b p → Adds a b q
adds_as {a} same adds = record { if_whole = λ whole. ((adds.if_whole whole).0, (adds.if_whole whole).1 ∙ ap (λ z. found_so_far a ++ z) same) }

-- one step and then another
pub adds_both : {a b c : Findings} {p q : List Break} → Adds a b p → Adds b c q → Adds a c (p ++ q)
adds_both {a} {b} {c} {p} {q} first second = record {
  if_whole = λ whole.
      let later = second.if_whole whole in
      let sooner = first.if_whole later.0 in
      (sooner.0, later.1 ∙ ap (λ z. z ++ q) sooner.1 ∙ append_assoc _ p q);
}

pub adds_one : {a b : Findings} {p : List Break} → Adds a b p → Adds a b (p ++ [])
adds_one {a} {b} {p} adds = adds_as (sym (append-nil p)) adds

pub of_rule-append : (rule : ℕ) (ps qs : List Place) → of_rule rule (ps ++ qs) ≡ of_rule rule ps ++ of_rule rule qs
of_rule-append rule [] qs = refl
of_rule-append rule (p ∷ ps) qs = ap (λ z. (rule, p) ∷ z) (of_rule-append rule ps qs)

-- two steps of one rule
pub adds_rule : {a b c : Findings} (rule : ℕ) (p q : List Place) → Adds a b (of_rule rule p) → Adds b c (of_rule rule q) → Adds a c (of_rule rule (p ++ q))
adds_rule rule p q first second = adds_as (sym (of_rule-append rule p q)) (adds_both first second)
