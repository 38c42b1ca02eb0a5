-- The names in files are identifiers, as a test: what the law of trees says, file by file.
use Rattle.std.proofs.Common.{◌≡◌, ℕ, true, List, All, Some, slice_get, subst}
use Rattle.std.specs.List.{list_all}
use Rattle.std.proofs.lemmas.Option.{slice_get_within, get_or_from_slice_get}
use Rattle.aidl_base.specs.declared.name.Ident.{Ident}
use Rattle.aidl_base.specs.Identifiers.{is_identifier}
use Rattle.aidl_syntax.specs.Walks.{names_of}
use Rattle.aidl_syntax.specs.Sources.{Source}
use Rattle.tree_schema.proofs.lemmas.walked.Lists.{all-from_at}
use Rattle.tree_schema.proofs.lemmas.walked.Ascii.{is_identifier_part}
use Rattle.tree_schema.proofs.walked.Outers.{are_named}

at_place : {X : Type 0} (P : X → Type 0) (xs : List X) → All P xs → (k : ℕ) (x : X) → slice_get xs k ≡ Some x → P x
at_place P xs all k x at = subst P (get_or_from_slice_get xs k x x at) (all k x (slice_get_within xs k x at))

-- the clause `names` of the law of trees, of each file
pub named-files : (files : List Source) → All (λ s. All (λ i. is_identifier i.0 ≡ true) (names_of s.tree)) files → are_named files ≡ true
named-files files all =
    all-from_at (λ (s : Source). list_all is_identifier_part (names_of s.tree)) files (λ k s at.
    let here = at_place (λ (t : Source). All (λ i. is_identifier i.0 ≡ true) (names_of t.tree)) files all k s at in
    all-from_at is_identifier_part (names_of s.tree) (λ j i there. at_place (λ (n : Ident). is_identifier n.0 ≡ true) (names_of s.tree) here j i there))
