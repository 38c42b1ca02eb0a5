-- What a command answers: the text that it prints, and a verdict. It is found step by step, up to the first refusal
-- (own).
use Rattle.std.specs.Prelude.{◌≡◌, ℕ, List, [], ◌∷◌, ◌++◌, Result, Ok, Err, codes}
use Rattle.std.specs.Fmt.{decimal}
use Rattle.aidl_base.specs.declared.limit.LimitName.{LimitName}
use Rattle.aidl_base.specs.Limits.{limit_name, limit_number}
use Rattle.tool_frame.specs.declared.verdict.Verdict.{Verdict}
use Rattle.tool_frame.specs.declared.verdict.Verdict.TheVariants.{Done, Negative, LimitPassed}

pub record Answer : Type 0 where
  pub text : List ℕ
  pub verdict : Verdict

-- a line ends with a newline
abbrev pub line : List ℕ → List ℕ
line text = text ++ 10 ∷ []

-- one line, and the verdict that goes with it
abbrev pub done : List ℕ → Answer
done text = record { text = line text; verdict = Done }

abbrev pub negative : List ℕ → Answer
negative text = record { text = line text; verdict = Negative }

-- a limit was passed: its name and its number
abbrev pub limit_passed : LimitName → Answer
limit_passed which = record {
  text = line (codes "limit " ++ limit_name which ++ codes " "
      ++ decimal (limit_number which));
  verdict = LimitPassed;
}

-- text in front of an answer
abbrev pub after_text : List ℕ → Answer → Answer
after_text text a = record { text = text ++ a.text; verdict = a.verdict }

-- what a step finds, or the answer that the command ends with there
abbrev pub Found : Type 0 → Type 0
Found A = Result A Answer

-- one step after another
infixl 10 ◌>>=◌
abbrev pub ◌>>=◌ : {A : Type 0} → Found A → (A → Answer) → Answer
(Ok x) >>= next = next x
(Err answer) >>= next = answer

-- what comes of a refusal in a command: of what it answers, carries or writes
abbrev pub Refusing : Type 0 → Type 1
Refusing A = Answer → A → Type 0

-- what comes of a step: of what it finds, or of its refusal
abbrev pub FoundThen : {X A : Type 0} → Refusing A → Found X → (X → A → Type 0) → A → Type 0
FoundThen Refuses (Ok x) next y = next x y
FoundThen Refuses (Err refusal) next y = Refuses refusal y

-- a refusal is the answer
abbrev pub AsAnswer : Refusing Answer
AsAnswer refusal answer = answer ≡ refusal

-- one step after another, where what follows is one of several answers
abbrev pub Then : {A : Type 0} → Found A → (A → Answer → Type 0) → Answer → Type 0
Then found next answer = FoundThen AsAnswer found next answer
