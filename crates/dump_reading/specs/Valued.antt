-- When the values in a declaration of trees are those of one of a schema (own).
use Rattle.std.specs.Prelude.{◌≡◌, ℕ, List, map}
use Rattle.aidl_syntax.specs.Members.{members, body}
use Rattle.aidl_syntax.specs.Sources.{Source}
use Rattle.declared_names.specs.Declarations.{Entry}
use Rattle.type_shapes.specs.Backing.{backing_of}
use Rattle.tree_schema.specs.Parts.{constants_in}
use Rattle.tree_schema.specs.SchemaOf.{kind_of}
use Rattle.tree_schema.specs.Values.{Outcomes}
use Rattle.aidl_schema.specs.declared.schema.Decl.{Decl}
use Rattle.aidl_schema.specs.declared.schema.Kind.{Kind}
use Rattle.aidl_schema.specs.Containment.{fields_of}
use Rattle.aidl_schema.specs.Names.{enumerators_of}

-- what the declaration of trees with a number declares in a schema
abbrev pub kind_at : List Source → Outcomes → ℕ → Entry → Kind
kind_at files outcomes number e = kind_of files outcomes e.file number (backing_of e.tree) (body e.tree)

-- of constants, of initializers of fields, and of enumerators
pub record HasValues (files : List Source) (outcomes : Outcomes) (number : ℕ) (e : Entry) (d : Decl) : Type 0 where
  pub constants : map (λ c. c.value) (constants_in files outcomes e.file number (members (body e.tree)))
      ≡ map (λ c. c.value) d.constants
  pub initials : map (λ f. f.initial) (fields_of (kind_at files outcomes number e))
      ≡ map (λ f. f.initial) (fields_of d.kind)
  pub enumerators : map (λ x. x.value) (enumerators_of (kind_at files outcomes number e))
      ≡ map (λ x. x.value) (enumerators_of d.kind)
