-- Readers of declarations and files.
use Rattle.std.specs.Prelude.{ℕ, ◌-◌, zero, suc, Bool, true, false, if◌then◌else◌, List, [], ◌∷◌, length, Option}
use Rattle.std.specs.Prelude.{Some, None}
use Rattle.aidl_base.specs.declared.reserved.Reserved.{Reserved}
use Rattle.aidl_base.specs.declared.reserved.Reserved.TheVariants as word
use Rattle.aidl_syntax.specs.declared.token.Symbol.TheVariants as mark
use Rattle.aidl_syntax.specs.declared.token.Token.{Token}
use Rattle.aidl_syntax.specs.declared.tree.NameTree.{NameTree}
use Rattle.aidl_syntax.specs.declared.tree.DottedTree.{DottedTree}
use Rattle.aidl_syntax.specs.declared.tree.TypeTree.{TypeTree}
use Rattle.aidl_syntax.specs.Parts.{first}
use Rattle.aidl_syntax.specs.Trees.{Expr, Init, Annot, Enumerator, Arg, Decl, Body, Members, File}
use Rattle.aidl_syntax.specs.Trees.Decl.{decl}
use Rattle.aidl_syntax.specs.Trees.Body.{parcelable, union, enum, interface}
use Rattle.aidl_syntax.specs.Trees.Members.{none, field, constant, method, nested}
use Rattle.expr_parser.specs.Reading.{Read, dotted, ◌>>=◌}
use Rattle.aidl_parser.specs.steps.Parts.{word_of, begins, begins_word, worded, both, alter, second, upto, placed}
use Rattle.aidl_parser.specs.steps.Parts.{maybe, many}
use Rattle.aidl_parser.specs.steps.Types.{ident}
use Rattle.aidl_parser.specs.steps.Inits.{annots_at, trailing}
use Rattle.aidl_parser.specs.steps.Members.{field_at, constant_at, method_at, oneway_at}
use Rattle.aidl_parser.specs.steps.Items.{enumerator_at}

-- a reserved word, an identifier and "{"
unfoldable pub head_at : Reserved → List Token → Read NameTree
head_at w = alter second (both (worded w) (upto ident mark.OpenBrace))

-- "parcelable", "union", "enum", "interface", or "oneway" with "interface" behind it
abbrev pub declares : Option Reserved → Bool → Bool
declares (Some word.Parcelable) inside = true
declares (Some word.Union) inside = true
declares (Some word.Enum) inside = true
declares (Some word.Interface) inside = true
declares (Some word.Oneway) inside = inside
declares _ inside = false

abbrev pub begins_decl : List Token → Bool
begins_decl [] = false
begins_decl (t ∷ ts) = declares (word_of t.kind) (begins_word word.Interface ts)

abbrev pub field_made : ℕ → List Annot → TypeTree × (NameTree × Option Init) → Members → Members
field_made o annots x ms = field (record { offset = o; annots = annots; ty = x.0; name = x.1.0; initial = x.1.1 }) ms

abbrev pub constant_made : ℕ → List Annot → TypeTree × (NameTree × Expr) → Members → Members
constant_made o annots x ms =
    constant (record { offset = o; annots = annots; ty = x.0; name = x.1.0; value = x.1.1 }) ms

abbrev pub method_made : ℕ → List Annot
    → Bool × (Option TypeTree × (NameTree × (List Arg × Option Token))) → Members → Members
method_made o annots x ms = method (record {
  offset = o;
  annots = annots;
  oneway = x.0;
  returned = x.1.0;
  name = x.1.1.0;
  args = x.1.1.1.0;
  id = x.1.1.1.1;
}) ms

abbrev pub nested_made : Decl → Members → Members
nested_made d ms = nested d ms

-- what follows a member's annotations, as what it puts before other members
unfoldable pub member_by : (ℕ → List Annot → List Token → Read Decl) → ℕ → Bool → ℕ → List Annot → List Token
    → Read (Members → Members)
member_by declare n inside o annots ts =
    if begins_word word.Const ts then alter (constant_made o annots) (constant_at n) ts
    else (if begins_decl ts then alter nested_made (declare o annots) ts
    else (if inside then alter (method_made o annots) (method_at n) ts
    else alter (field_made o annots) (field_at n) ts))

abbrev pub member_behind : (ℕ → List Annot → List Token → Read Decl) → ℕ → Bool → ℕ → List Annot × List Token
    → Read (Members → Members)
member_behind declare n inside o a = member_by declare n inside o a.0 a.1

unfoldable pub member_with : (ℕ → List Annot → List Token → Read Decl) → ℕ → Bool → List Token
    → Read (Members → Members)
member_with declare n inside ts = annots_at n ts >>= member_behind declare n inside (first ts)

abbrev pub joined : (Members → Members) → Members × List Token → Read Members
joined m ms = Some (m ms.0, ms.1)

abbrev pub members_behind : (List Token → Read Members) → (Members → Members) × List Token → Read Members
members_behind more m = more m.1 >>= joined m.0

-- members up to a closing brace, at most n
abbrev pub members_by : (List Token → Read (Members → Members)) → ℕ → List Token → Read Members
members_by mem zero ts = if begins mark.CloseBrace ts then Some (none, ts) else None
members_by mem (suc k) ts = if begins mark.CloseBrace ts then Some (none, ts)
    else mem ts >>= members_behind (members_by mem k)

-- members that were read before
abbrev pub with_members : (Members → Members) → Read Members → Read Members
with_members f None = None
with_members f (Some r) = Some (f r.0, r.1)

-- a word, a name and members in braces
unfoldable pub braced_at : (Bool → List Token → Read Members) → Reserved → Bool → List Token → Read (NameTree × Members)
braced_at mems w inside = both (head_at w) (upto (mems inside) mark.CloseBrace)

abbrev pub as_parcelable : NameTree × Members → NameTree × Body
as_parcelable x = (x.0, parcelable x.1)

abbrev pub as_union : NameTree × Members → NameTree × Body
as_union x = (x.0, union x.1)

abbrev pub as_enum : NameTree × List Enumerator → NameTree × Body
as_enum x = (x.0, enum x.1)

abbrev pub as_interface : Bool × (NameTree × Members) → NameTree × Body
as_interface x = (x.1.0, interface x.0 x.1.1)

-- "enum" ident "{" enumerator {"," enumerator} [","] "}"
unfoldable pub enum_at : ℕ → List Token → Read (NameTree × List Enumerator)
enum_at n = both (head_at word.Enum) (upto (trailing n (enumerator_at n)) mark.CloseBrace)

-- parcelable | union | enum | interface
unfoldable pub body_by : (Bool → List Token → Read Members) → ℕ → List Token → Read (NameTree × Body)
body_by mems n ts =
    if begins_word word.Parcelable ts then alter as_parcelable (braced_at mems word.Parcelable false) ts
    else (if begins_word word.Union ts then alter as_union (braced_at mems word.Union false) ts
    else (if begins_word word.Enum ts then alter as_enum (enum_at n) ts
    else alter as_interface (both oneway_at (braced_at mems word.Interface true)) ts))

abbrev pub declared : ℕ → List Annot → NameTree × Body → Decl
declared o annots x = decl o annots x.0 x.1

-- a declaration, behind its annotations
unfoldable pub decl_at : ℕ → ℕ → List Annot → List Token → Read Decl
decl_at zero o annots ts = None
decl_at (suc n) o annots ts = alter (declared o annots) (body_by (λ inside us. members_by
    (λ vs. member_with (λ p annots ws. decl_at n p annots ws) (suc n) inside vs) (suc n) us) (suc n)) ts

abbrev pub member_at : ℕ → Bool → List Token → Read (Members → Members)
member_at n inside ts = member_with (λ p annots ws. decl_at (n - 1) p annots ws) n inside ts

unfoldable pub members_at : ℕ → ℕ → Bool → List Token → Read Members
members_at n k inside ts = members_by (λ vs. member_at n inside vs) k ts

-- a word, a dotted name and ";"
unfoldable pub named_at : Reserved → List Token → Read DottedTree
named_at w = alter second (both (worded w) (upto dotted mark.Semicolon))

abbrev pub top_behind : ℕ → ℕ → List Annot × List Token → Read Decl
top_behind n o a = decl_at n o a.0 a.1

-- annots (parcelable | union | enum | interface)
unfoldable pub top_at : ℕ → List Token → Read Decl
top_at n ts = annots_at n ts >>= top_behind n (first ts)

abbrev pub file_made : ℕ → Option DottedTree × (List DottedTree × Decl) → File
file_made o x = record { offset = o; «package» = x.0; imports = x.1.0; declared = x.1.1 }

unfoldable pub imports_at : ℕ → List Token → Read (List DottedTree)
imports_at n = many n (begins_word word.Import) (named_at word.Import)

unfoldable pub file_at : ℕ → List Token → Read File
file_at n = placed file_made
    (both (maybe (begins_word word.Package) (named_at word.Package)) (both (imports_at n) (top_at n)))

abbrev pub ended_by : File → List Token → Option File
ended_by f [] = Some f
ended_by f (t ∷ ts) = None

abbrev pub ended : File × List Token → Option File
ended x = ended_by x.0 x.1

-- the file that all of the tokens are
unfoldable pub whole_of : List Token → Option File
whole_of ts = file_at (suc (length ts)) ts >>= ended
