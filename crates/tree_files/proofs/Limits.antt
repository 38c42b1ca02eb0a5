-- The first limit on tokens: one more file at the end.
use Rattle.std.proofs.Common.{◌≡◌, List, [], ◌∷◌, ◌++◌, Option, Some, None, inl, inr, refl}
use Rattle.std.specs.List.{All}
use Rattle.std.proofs.lemmas.List.Elements.{All-head, All-tail}
use Rattle.aidl_base.specs.declared.limit.LimitName.{LimitName}
use Rattle.aidl_base.specs.declared.source_file.SourceFile.{SourceFile}
use Rattle.tree_files.specs.Files.{HasLimit}
use Rattle.tree_files.specs.Refusals.{FirstLimit}
use Rattle.tree_files.specs.steps.Standing.{IsFirst}

first-again : (fs : List SourceFile) (f : SourceFile) (w : LimitName) → FirstLimit fs w → FirstLimit (fs ++ f ∷ []) w
first-again [] f w h = absurd h
first-again (e ∷ fs) f w (inl h) = inl h
first-again (e ∷ fs) f w (inr h) = inr (h.0, first-again fs f w h.1)

-- a limit that was passed stays the first
pub first-stays : (fs : List SourceFile) (f : SourceFile) (o : Option LimitName) → (o ≡ None → ⊥) → IsFirst fs o → IsFirst (fs ++ f ∷ []) o
first-stays fs f None some h = absurd (some refl)
first-stays fs f (Some w) some h = first-again fs f w h

-- where none was passed, that of the next file is the first
pub first-here : (fs : List SourceFile) (f : SourceFile) (w : LimitName) → All (HasLimit None) fs → HasLimit (Some w) f → FirstLimit (fs ++ f ∷ []) w
first-here [] f w a h = inl h
first-here (e ∷ fs) f w a h = inr (All-head (HasLimit None) e fs a, first-here fs f w (All-tail (HasLimit None) e fs a) h)
