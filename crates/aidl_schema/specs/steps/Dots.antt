-- Parts of a name after its first.
use Rattle.std.specs.Prelude.{ℕ, List, ◌∷◌}
use Rattle.std.specs.List.{flat_map}
use Rattle.std.specs.Str.{encode_utf8_all}
use Rattle.aidl_base.specs.declared.name.Ident.{Ident}

-- each in UTF-8, with a dot before it
abbrev pub with_dots : List Ident → List ℕ
with_dots parts = flat_map (λ part. 46 ∷ encode_utf8_all part.0) parts
