-- The last part of a name, and the parts before it.
use Rattle.std.proofs.Common.{◌≡◌, ◌≤◌, ◌-◌, ℕ, suc, List, [], ◌∷◌, ◌++◌, length, get_or, take, sym, ap, ◌∙◌, append_assoc, append-nil, arith, Option}
use Rattle.aidl_base.specs.declared.name.Ident.{Ident}
use Rattle.declared_names.specs.Declarations.{declarations}
use Rattle.name_resolution.specs.Resolution.{resolved}
use Rattle.aidl_syntax.specs.Sources.{Source}
use Rattle.const_items.specs.Items.{Item}
use Rattle.const_items.specs.Dependence.{Target, member_of, target_behind, target_by}

module _ (files : List Source) (x : Item) where
  -- a member of what some parts mean
  abbrev pub by : List Ident → Ident → Option Target
  by front last = member_of (declarations files) last (resolved files x.file x.scope front)

  behind : (before : List Ident) (name : Ident) (more : List Ident) (last : Ident) → last ≡ get_or (name ∷ more) (length more) last
      → target_behind files x before name more ≡ by (before ++ take (length more) (name ∷ more)) last
  behind before name [] last e = ap (by before) (sym e) ∙ ap (λ z. by z last) (sym (append-nil before))
  behind before name (next ∷ more) last e =
      behind (before ++ name ∷ []) next more last e ∙ ap (λ z. by z last) (append_assoc before (name ∷ []) (take (length more) (next ∷ more)))

  -- a name of several parts, n of them before the last
  pub by_last : (name : List Ident) (n : ℕ) (last : Ident) → 2 ≤ length name → n ≡ length name - 1 → last ≡ get_or name n last → by (take n name) last ≡ target_by files x name
  by_last [] n last l z e = absurd (omega arith)
  by_last (a ∷ []) n last l z e = absurd (omega arith)
  by_last (a ∷ b ∷ more) n last l z e =
      let k : n ≡ suc (length more) = omega arith in
      ap (λ (j : ℕ). by (take j (a ∷ b ∷ more)) last) k ∙ sym (behind (a ∷ []) b more last (e ∙ ap (λ (j : ℕ). get_or (a ∷ b ∷ more) j last) k))
