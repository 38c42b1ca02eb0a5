use Rattle.std.proofs.Common.{◌≡◌, ◌≤◌, List, [], ◌∷◌, length, inr, refl, subst, arith}
use Rattle.tree_files.specs.Files.{HasTokens}
use Rattle.tree_files.specs.Refusals.{Rows, IsLexBreach}
use Rattle.tree_files.specs.steps.Standing.{IsFirst}
use Rattle.tree_files.proofs.Rows.{all-good}
use Rattle.tree_files.proofs.found.Found.answer.Goals as goal

none : {A : Type 0} (xs : List A) → length xs ≤ 0 → xs ≡ []
none [] l = refl
none (x ∷ xs) l = absurd (omega (arith, l))

pub returns-in-Some-clause-err : goal.returns-in-Some-clause-err
returns-in-Some-clause-err c = λ files size st.
    let l : length c.args.self.faults ≤ 0 = let e = c.len.ensures in let t = c.if-len-gt0.false in omega (arith, e, t) in
    let z = none c.args.self.faults l in
    inr (size, all-good HasTokens IsLexBreach 0 files (subst (Rows HasTokens IsLexBreach 0 files) z st.faults), subst (IsFirst files) c.in-Some.is (st.limit z))
