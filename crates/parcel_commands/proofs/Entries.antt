-- The entries of TYPES, one after the other, and the types that they name.
use Rattle.std.proofs.Common.{◌≡◌, ℕ, suc, List, [], ◌∷◌, ◌++◌, length, Option, Some, None, Result, Ok, Err, refl, sym, ap, ◌∙◌, append_assoc}
use Rattle.std.specs.Borrow.{Bor}
use Rattle.aidl_schema.specs.declared.schema.Decl.{Decl}
use Rattle.aidl_schema.specs.declared.schema.AidlType.{AidlType}
use Rattle.parcel_commands.specs.Types.{types_of, type_of, named, onto_types}

-- how much of TYPES is left
abbrev pub left_length : Option (Bor (List ℕ)) → ℕ
left_length None = 0
left_length (Some text) = suc (length text.now)

-- the types so far, and those of the entries that are left
abbrev pub with_types : List AidlType → Result (List AidlType) (List ℕ) → Result (List AidlType) (List ℕ)
with_types known (Ok types) = Ok (known ++ types)
with_types known (Err entry) = Err entry

pub with_none : (r : Result (List AidlType) (List ℕ)) → with_types [] r ≡ r
with_none (Ok types) = refl
with_none (Err entry) = refl

with_one : (known : List AidlType) (ty : AidlType) (r : Result (List AidlType) (List ℕ)) → with_types (known ++ ty ∷ []) r ≡ with_types known (onto_types ty r)
with_one known ty (Ok types) = ap (λ all. Ok all) (append_assoc known (ty ∷ []) types)
with_one known ty (Err entry) = refl

module _ (S : List Decl) where
  -- an entry that names a type, and then the others
  pub one_known : (known : List AidlType) (ty : AidlType) (entry : List ℕ) (all others : List (List ℕ)) → all ≡ entry ∷ others → type_of S entry ≡ Some ty
      → with_types (known ++ ty ∷ []) (types_of S others) ≡ with_types known (types_of S all)
  one_known known ty entry all others e is =
      with_one known ty (types_of S others) ∙ sym (ap (λ entries. with_types known (types_of S entries)) e ∙ ap (λ o. with_types known (named entry o (types_of S others))) is)

  -- an entry that names none ends
  pub one_unknown : (known : List AidlType) (entry : List ℕ) (all others : List (List ℕ)) → all ≡ entry ∷ others → type_of S entry ≡ None → with_types known (types_of S all) ≡ Err entry
  one_unknown known entry all others e is = ap (λ entries. with_types known (types_of S entries)) e ∙ ap (λ o. with_types known (named entry o (types_of S others))) is
