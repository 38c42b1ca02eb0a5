-- What ends early.
use Rattle.std.proofs.Common.{◌≡◌, ℕ, Bool, true, false, List, [], ◌∷◌, refl, sym, ap, ◌∙◌, subst, string_bytes}
use Rattle.growing.specs.declared.text.GrowingText.{GrowingText}
use Rattle.tool_frame.specs.declared.printed.Early.{Early}
use Rattle.tool_frame.specs.declared.printed.Early.TheVariants.{Answered, OutOfMemory}
use Rattle.tool_frame.specs.Answer.{Answer}
use Rattle.tool_frame.specs.declared.verdict.Verdict.TheVariants.{Negative}
use Rattle.tool_frame.specs.Results.{EndsAs, IsGrown, printed}
use Rattle.tree_commands.specs.Faults.{refused}
use Rattle.tree_commands.specs.Results.{EndsBy}

-- by an answer of which this holds
pub ends_as : (Is : Answer → Type 0) (early : Early) (answer : Answer) → EndsAs early answer → Is answer → EndsBy Is early
ends_as Is (Answered p) answer h is = subst Is (sym h) is
ends_as Is OutOfMemory answer h is = tt

none_is_some : (k : ℕ) (text : List ℕ) → [] ≡ k ∷ text → ⊥
none_is_some k text e = absurd (cc)

-- by a text that grew, of which this holds
pub ends_grown : (Is : Answer → Type 0) (Good : List ℕ → Type 0) (text : GrowingText) (whole : Bool) → text.is_whole ≡ whole → (early : Early)
    → ((answer : Answer) → IsGrown text Negative answer → EndsAs early answer) → (text.is_whole ≡ true → Good (string_bytes text.text))
    → ((lines : List ℕ) → Good lines → Is (refused lines)) → EndsBy Is early
ends_grown Is Good text true e early h good is = ends_as Is early (refused (string_bytes text.text)) (h (refused (string_bytes text.text)) (λ whole. refl)) (is (string_bytes text.text) (good e))
ends_grown Is Good text false e (Answered p) h good is =
    let never : (answer : Answer) → printed p ≡ answer = λ answer. h answer (λ whole. absurd (cc)) in
    absurd (none_is_some 0 [] (ap (λ (a : Answer). a.text) (sym (never (refused [])) ∙ never (refused (0 ∷ [])))))
ends_grown Is Good text false e OutOfMemory h good is = tt

-- by what implies it
pub ends_more : (Is Also : Answer → Type 0) (early : Early) → ((a : Answer) → Is a → Also a) → EndsBy Is early → EndsBy Also early
ends_more Is Also (Answered p) more h = more _ h
ends_more Is Also OutOfMemory more h = tt
