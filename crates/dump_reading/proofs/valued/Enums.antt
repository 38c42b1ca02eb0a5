-- An enum of a valid schema has no constant.
use Rattle.std.proofs.Common.{◌≡◌, refl, ℕ, true, [], ◌∷◌, List, Some, slice_get, not, ◌&&◌, ◌||◌, sym, ap, ◌∙◌}
use Rattle.std.proofs.lemmas.Bool.{and_parts}
use Rattle.aidl_schema.specs.declared.schema.Decl.{Decl}
use Rattle.aidl_schema.specs.declared.schema.Constant.{Constant}
use Rattle.aidl_schema.specs.Valid.{has_enums, is_enum, is_enum_whole, has_no_constant}
use Rattle.dump_reading.proofs.spelled.Fits.{each_passes}

none_left : (cs : List Constant) → has_no_constant cs ≡ true → cs ≡ []
none_left [] e = refl
none_left (c ∷ cs) e = cc

enum_bare : (d : Decl) → (is_enum_whole d.kind && (not (is_enum d.kind) || has_no_constant d.constants)) ≡ true → is_enum d.kind ≡ true → d.constants ≡ []
enum_bare d e h =
    let either = (and_parts (is_enum_whole d.kind) (not (is_enum d.kind) || has_no_constant d.constants) e).1 in
    none_left d.constants (ap (λ b. not b || has_no_constant d.constants) (sym h) ∙ either)

pub enums_bare : (S : List Decl) → has_enums S ≡ true → (n : ℕ) (d : Decl) → slice_get S n ≡ Some d → is_enum d.kind ≡ true → d.constants ≡ []
unfolding has_enums
enums_bare S e n d there = enum_bare d (each_passes (λ d. is_enum_whole d.kind && (not (is_enum d.kind) || has_no_constant d.constants)) S e n d there)
