-- Worked examples of dumps, computed.
use Rattle.std.proofs.Common.{◌≡◌, ℕ, pos, negsuc, true, false, List, [], ◌∷◌, Option, Some, None, codes, refl}
use Rattle.std.specs.Fmt.{digits}
use Rattle.aidl_base.specs.declared.name.Ident.{Ident}
use Rattle.aidl_base.specs.declared.constant.Const.{roll-Const, out-Const}
use Rattle.aidl_base.specs.declared.constant.Const.TheOpen.{Const-F}
use Rattle.aidl_schema.specs.declared.schema.Decl.{Decl}
use Rattle.aidl_schema.specs.declared.schema.Kind.{Kind}
use Rattle.aidl_schema.specs.declared.schema.Kind.TheVariants.{Interface, Parcelable, Union, Enum}
use Rattle.aidl_schema.specs.declared.schema.Backing.TheVariants as backing
use Rattle.aidl_schema.specs.declared.schema.Direction.TheVariants as direction
use Rattle.aidl_schema.specs.declared.schema.Base.{Base}
use Rattle.aidl_schema.specs.declared.schema.Base.TheVariants as base
use Rattle.aidl_schema.specs.declared.schema.Shape.{Shape}
use Rattle.aidl_schema.specs.declared.schema.Shape.TheVariants as shape
use Rattle.aidl_schema.specs.declared.schema.AidlType.{AidlType}
use Rattle.api_dump.specs.Pieces.{spelling}
use Rattle.api_dump.specs.Dump.{dump_text}
use lib.Utf8.{encode}

abbrev ident : List ℕ → Ident
ident text = record { 0 = text }

abbrev decl : List Ident → Option ℕ → Kind → Decl
decl parts outer k = record { name = record { 0 = parts }; outer = outer; kind = k; vintf = false; fixed = false; constants = [] }

abbrev of_type : Shape → Base → AidlType
of_type s b = record { base = b; shape = s; nullable = false; heap = false; utf8 = false }

abbrev text_or_null : AidlType
text_or_null = record { base = base.Text; shape = shape.One; nullable = true; heap = false; utf8 = false }

-- An enum and a parcelable of one package.
abbrev small : List Decl
small =
    decl (ident (codes "a") ∷ ident (codes "E") ∷ []) None (Enum backing.Int (record { name = ident (codes "OFF"); value = pos 0 } ∷ record { name = ident (codes "ON"); value = pos 8 } ∷ []))
    ∷ decl (ident (codes "a") ∷ ident (codes "R") ∷ []) None (Parcelable (
    record { name = ident (codes "a"); ty = of_type shape.One base.Int; initial = Some (roll-Const (Const-F.Number (pos 7))) }
    ∷ record { name = ident (codes "s"); ty = text_or_null; initial = None }
    ∷ record { name = ident (codes "e"); ty = of_type shape.One (base.Named 0); initial = Some (roll-Const (Const-F.Number (pos 8))) } ∷ []))
    ∷ []

small_dump : dump_text small ≡
    (codes "a/E.aidl", codes "package a;\n@Backing(type=\"int\") enum E {\n  OFF = 0,\n  ON = 8,\n}\n")
    ∷ (codes "a/R.aidl", codes "package a;\nparcelable R {\n  int a = 7;\n  @nullable String s;\n  a.E e = a.E.ON;\n}\n")
    ∷ []
unfolding spelling encode digits out-Const roll-Const denote.Hole.Carrier.out denote.Hole.Carrier.roll
small_dump = refl

-- An interface with a constant, and a union in it; no package.
abbrev nested : List Decl
nested =
    record {
      name = record { 0 = ident (codes "I") ∷ [] };
      outer = None;
      vintf = true;
      fixed = false;
      constants = record { name = ident (codes "C"); ty = base.Long; value = roll-Const (Const-F.Number (negsuc 1)) } ∷ [];
      kind = Interface (record {
        name = ident (codes "m");
        id = 3;
        oneway = false;
        result = Some text_or_null;
        args = record { name = ident (codes "x"); way = direction.InOut; ty = of_type shape.Array base.Byte } ∷ record { name = ident (codes "y"); way = direction.In; ty = of_type shape.List base.Text } ∷ [];
      }
          ∷ record { name = ident (codes "n"); id = 0; oneway = true; result = None; args = [] } ∷ []);
    }
    ∷ record {
      name = record { 0 = ident (codes "I") ∷ ident (codes "U") ∷ [] };
      outer = Some 0;
      vintf = false;
      fixed = true;
      constants = [];
      kind = Union (record { name = ident (codes "c"); ty = of_type shape.One base.Char; initial = Some (roll-Const (Const-F.Number (pos 34))) } ∷ []);
    }
    ∷ []

nested_dump : dump_text nested ≡
    (codes "I.aidl", codes "@VintfStability interface I {\n  @nullable String m(inout byte[] x, in List<String> y) = 3;\n  oneway void n() = 0;\n  const long C = -2L;\n  @FixedSize union U {\n    char c = '\"';\n  }\n}\n")
    ∷ []
unfolding spelling encode digits out-Const roll-Const denote.Hole.Carrier.out denote.Hole.Carrier.roll
nested_dump = refl
