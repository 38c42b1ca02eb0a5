-- One more line behind others.
use Rattle.std.proofs.Common.{◌≡◌, ℕ, List, [], ◌∷◌, ◌++◌, Option, Some, None, MatchOption, decimal, slice_get, string_bytes, refl, sym, ◌∙◌, ap, subst, append_assoc}
use Rattle.std.specs.Str.{encode_utf8_all}
use Rattle.std.proofs.lemmas.List.{append-nil}
use Rattle.aidl_base.specs.declared.source_file.SourceFile.{SourceFile}
use Rattle.aidl_syntax.specs.declared.token.Token.{Token}
use Rattle.aidl_syntax.specs.Tokens.{Tokens}
use Rattle.growing.specs.declared.text.GrowingText.{GrowingText}
use Rattle.growing.specs.Grows.{Grows}
use Rattle.growing.proofs.lemmas.Chains.{nothing_grows}
use Rattle.parse_places.specs.Viable.{HasTree, IsFaultPlace}
use Rattle.tool_frame.specs.Answer.{line}
use Rattle.tree_commands.specs.Faults.{AreSyntaxLines, IsLineOf, IsPlace, IsSyntaxLine}
use Rattle.tree_commands.specs.Lines.{line_at, of_file, place_line}
use Rattle.tree_commands.specs.steps.Adding.{Adds, AddsLine}

-- a line about a place in a file, by its pieces
pub placed : (root : List ℕ) (file : SourceFile) (offset : ℕ) (what path rest : List ℕ) (old new : GrowingText) → path ≡ encode_utf8_all file.path → rest ≡ line what
    → Grows old new (root ++ 47 ∷ (path ++ 58 ∷ (decimal offset ++ 58 ∷ 32 ∷ rest))) → Grows old new (line_at root file offset what)
placed root file offset what path rest old new p r grows =
    let pieces : root ++ 47 ∷ (path ++ 58 ∷ (decimal offset ++ 58 ∷ 32 ∷ rest)) ≡ line_at root file offset what = rw (p, r) (sym (simp append_assoc)) in
    subst (Grows old new) pieces grows

-- what is said of a file that is there, and nothing of one that isn't
module _ (say : SourceFile → List ℕ) (files : List SourceFile) (n : ℕ) where
  pub said : (file : SourceFile) (old new : GrowingText) → slice_get files n ≡ Some file → Grows old new (say file) → Grows old new (of_file say (slice_get files n))
  said file old new at grows = subst (λ (o : Option SourceFile). Grows old new (of_file say o)) (sym at) grows

  pub unsaid : (text : GrowingText) → slice_get files n ≡ None → Grows text text (of_file say (slice_get files n))
  unsaid text at = subst (λ (o : Option SourceFile). Grows text text (of_file say o)) (sym at) (nothing_grows text)

module _ (root : List ℕ) (files : List SourceFile) (n : ℕ) where
  lines_more : (before old first : List ℕ) → AreSyntaxLines root files before old → IsLineOf root (slice_get files n) first → AreSyntaxLines root files (before ++ n ∷ []) (old ++ first)
  lines_more [] old first h is = (first, [], is, refl, ap (λ z. z ++ first) h ∙ sym (append-nil first))
  lines_more (m ∷ ms) old first h is =
      (h.0, h.1 ++ first, h.2, lines_more ms h.1 first h.3 is, ap (λ z. z ++ first) h.4 ∙ append_assoc h.0 h.1 first)

  line_added : (old new : GrowingText) → Adds (IsLineOf root (slice_get files n)) old new → AddsLine root files n old new
  line_added old new adds whole =
      let h = adds whole in
      (h.0, λ before lines. subst (AreSyntaxLines root files (before ++ n ∷ [])) (sym h.3) (lines_more before (string_bytes old.text) h.1 lines h.2))

  -- of a file that is there
  pub fault_added : (file : SourceFile) (old new : GrowingText) → slice_get files n ≡ Some file → Adds (IsSyntaxLine root file) old new → AddsLine root files n old new
  fault_added file old new at adds = line_added old new (subst (λ (o : Option SourceFile). Adds (IsLineOf root o) old new) (sym at) adds)

  -- of one that isn't
  pub none_added : (text : GrowingText) → slice_get files n ≡ None → AddsLine root files n text text
  none_added text at = line_added text text (subst (λ (o : Option SourceFile). Adds (IsLineOf root o) text text) (sym at) (λ whole. (whole, [], refl, sym (append-nil (string_bytes text.text)))))

some_is : (k : ℕ) → ◌≡◌ {A = Option ℕ} (Some k) None → ⊥
some_is k e = cc

is_place : (tokens : List Token) (found : Option ℕ) → MatchOption found (HasTree tokens) (IsFaultPlace tokens) → (HasTree tokens → found ≡ None) → IsPlace tokens found
is_place tokens None at only = at
is_place tokens (Some k) at only = (λ tree. some_is k (only tree), at)

-- the line of the place that was found
pub place_added : (root : List ℕ) (file : SourceFile) (tokens : List Token) (found : Option ℕ) (old new : GrowingText) → Tokens file.bytes tokens
    → MatchOption found (HasTree tokens) (IsFaultPlace tokens) → (HasTree tokens → found ≡ None) → Grows old new (place_line root file tokens found) → Adds (IsSyntaxLine root file) old new
place_added root file tokens found old new are at only grows whole =
    let h = grows whole in
    (h.0, place_line root file tokens found, (tokens, are, found, is_place tokens found at only, refl), h.1)
