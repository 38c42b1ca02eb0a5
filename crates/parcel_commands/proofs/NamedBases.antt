-- The declaration that a name names, where the name is a text and where it isn't.
use Rattle.std.proofs.Common.{◌≡◌, ℕ, Bool, true, false, cond, List, Option, None, refl}
use Rattle.std.specs.Option.{option_map}
use Rattle.std.specs.Str.{IsUtf8, is_utf8}
use Rattle.std.proofs.lemmas.Str.{IsUtf8-from_is_utf8, is_utf8-from_IsUtf8}
use Rattle.aidl_schema.specs.declared.schema.Base.{Base}
use Rattle.aidl_schema.specs.declared.schema.Base.TheVariants as base
use Rattle.aidl_schema.specs.declared.schema.Decl.{Decl}
use Rattle.aidl_schema.specs.Find.{number_of_name}
use Rattle.parcel_commands.specs.Types.{named_base}

pub text_named : (S : List Decl) (name : List ℕ) → IsUtf8 name → named_base S name ≡ option_map (λ n. base.Named n) (number_of_name S name)
text_named S name text = let test = is_utf8-from_IsUtf8 name text in rw test refl

none_by : (test : Bool) (found : Option Base) → (test ≡ true → ⊥) → cond test found None ≡ None
none_by true found bad = absurd (bad refl)
none_by false found bad = refl

pub bytes_unnamed : (S : List Decl) (name : List ℕ) → ¬ (IsUtf8 name) → named_base S name ≡ None
bytes_unnamed S name bad = none_by (is_utf8 name) (option_map (λ n. base.Named n) (number_of_name S name)) (λ test. bad (IsUtf8-from_is_utf8 name test))
