-- The line that a call of a calls file prints stands behind the text of the lines before it.
use Rattle.std.proofs.Common.{◌≡◌, ℕ, zero, suc, ◌+◌, Bool, List, [], ◌∷◌, ◌++◌, Some, Ok, slice_get, take, refl, sym, ap, ◌∙◌, subst, arith, append_assoc}
use Rattle.aidl_base.specs.declared.profile.Profile.{Profile}
use Rattle.aidl_outside.specs.Told.{Adds}
use Rattle.aidl_schema.specs.declared.schema.Decl.{Decl}
use Rattle.aidl_tool.specs.Between.{IsCallAt, PutsAt, text_before}
use Rattle.call_runner.specs.Runs.{projected}
use Rattle.call_scripts.specs.Calls.{CallData}
use Rattle.call_scripts.specs.Script.{script}
use Rattle.run_command.specs.CallLines.{lines_of}
use Rattle.run_command.specs.LineText.{line_text}
use Rattle.run_command.specs.Projected.{line_carried, named_methods, projected_piece, projected_text}
use Rattle.run_command.specs.Trace.{trace_text}
use Rattle.tool_frame.specs.Seen.{Seen}

module _ (p : Profile) (trace : Bool) (A B : List Decl) where
  -- the lines before, the line's own piece, and the rest
  abbrev Splits : ℕ → ℕ → List (List ℕ) → List ℕ → Type 0
  Splits k n lines line =
      (rest : List ℕ) × (projected_text p A B trace n lines ≡ projected_text p A B trace n (take k lines) ++ (projected_piece p A B trace (n + k) (script A B line) ++ rest))

  split : (k n : ℕ) (lines : List (List ℕ)) (line : List ℕ) → slice_get lines k ≡ Some line → Splits k n lines line
  split k n [] line e = absurd cc
  split zero n (l ∷ lines) line e =
      let is : l ≡ line = cc in
      let at : n + 0 ≡ n = omega arith in
      (projected_text p A B trace (n + 1) lines, rw (is, at) refl)
  split (suc k) n (l ∷ lines) line e =
      let later = split k (n + 1) lines line e in
      let at : (n + 1) + k ≡ n + suc k = omega arith in
      let piece = projected_piece p A B trace n (script A B l) in (
        later.0,
        ap (λ t. piece ++ t) later.1
            ∙ sym (append_assoc piece (projected_text p A B trace (n + 1) (take k lines)) (projected_piece p A B trace ((n + 1) + k) (script A B line) ++ later.0))
            ∙ ap (λ m. (piece ++ projected_text p A B trace (n + 1) (take k lines)) ++ (projected_piece p A B trace m (script A B line) ++ later.0)) at,
      )

  module _ (text : List ℕ) (k : ℕ) (c : CallData) (call : IsCallAt A B text k c) where
    abbrev own_line : ℕ → List ℕ
    own_line m = line_text A B (named_methods (Ok c)) m (projected A B (Ok c))

    put_as : (rest : List ℕ) × (projected_text p A B trace 1 (lines_of text) ≡ text_before p trace A B text k c ++ (own_line (k + 1) ++ rest))
    put_as =
        let s = split k 1 (lines_of text) call.line call.there in
        let front = projected_text p A B trace 1 (take k (lines_of text)) in
        let carried = trace_text trace (line_carried p A B (Ok c)) in
        let at : 1 + k ≡ k + 1 = omega arith in (
          s.0,
          s.1 ∙ ap (λ m. front ++ (projected_piece p A B trace (1 + k) m ++ s.0)) call.meant
              ∙ ap (λ m. front ++ ((carried ++ own_line m) ++ s.0)) at
              ∙ ap (λ t. front ++ t) (append_assoc carried (own_line (k + 1)) s.0)
              ∙ sym (append_assoc front carried (own_line (k + 1) ++ s.0)),
        )

    -- the line of what the call is projected to
    pub puts_at : (before now : Seen) → Adds before.told now.told (projected_text p A B trace 1 (lines_of text)) → PutsAt p trace A B text k c before now (projected A B (Ok c))
    puts_at before now adds = (put_as.0, subst (λ t. Adds before.told now.told t) put_as.1 adds)
