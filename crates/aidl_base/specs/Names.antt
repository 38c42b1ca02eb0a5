-- Canonical names as texts (AOSP, "AIDL language").
use Rattle.std.specs.Prelude.{ℕ, List, map}
use Rattle.std.specs.List.{join_with_byte}
use Rattle.aidl_base.specs.declared.name.Ident.{Ident}

-- the parts of a name, joined by dots
abbrev pub dotted : List Ident → List ℕ
dotted parts = join_with_byte 46 (map (λ part. part.0) parts)
