-- The check rules on annotations: the places in a declaration that break them.
use Rattle.std.specs.Prelude.{ℕ, Bool, true, false, not, ◌&&◌, ◌||◌, if◌then◌else◌, List, [], ◌∷◌, ◌++◌, map}
use Rattle.std.specs.Prelude.{Option, Some, None}
use Rattle.std.specs.List.{find, flat_map}
use Rattle.aidl_syntax.specs.Trees.{Param, Annot}
use Rattle.aidl_syntax.specs.Members.{body}
use Rattle.aidl_names.specs.Rules.{is_named_again}
use Rattle.declared_names.specs.Numbered.{after_earlier}
use Rattle.type_shapes.specs.Backing.{annots_of, is_backing, is_type}
use Rattle.type_shapes.specs.Types.{is_enum_body}
use Rattle.type_uses.specs.declared.annotation.Annotation.{Annotation}
use Rattle.type_uses.specs.declared.stand.Stand.{Stand}
use Rattle.type_uses.specs.Parameters.{literal_of, is_backing_word}
use Rattle.type_uses.specs.Annotations.{row_of, stand_of_body, may_stand, takes, is_kept}
use Rattle.type_uses.specs.TypeUses.{annotations_of, stand_of}
use Rattle.type_rules.specs.Filters.{Rule}

-- BadAnnotation

-- an earlier annotation has its name
abbrev pub is_again : List Annot → Annot → Bool
is_again before a = is_named_again (map (λ b. b.name) before) a.name

-- by its row of the table, where it has one, and by whether it stands there again
abbrev pub breaks_row : Stand → List Param → Bool → Option Annotation → Bool
breaks_row s params again None = true
breaks_row s params again (Some r) = not (may_stand r s) || not (takes r params) || (is_kept r && again)

abbrev pub is_bad_annotation : Stand → List Annot → Annot → Bool
is_bad_annotation s before a = breaks_row s a.params (is_again before a) (row_of a)

-- in a list of annotations
abbrev pub bad_annotations : Stand → List Annot → List ℕ
bad_annotations s annots = map (λ a. a.offset) (after_earlier (is_bad_annotation s) [] annots)

-- at the declaration, and at the types that it uses
abbrev pub BadAnnotation : Rule
BadAnnotation entries e uses = bad_annotations (stand_of_body (body e.tree)) (annots_of e.tree)
    ++ flat_map (λ u. bad_annotations (stand_of u) (annotations_of u)) uses

-- BadBacking

abbrev pub names_backing : Option Param → Bool
names_backing None = false
names_backing (Some p) = is_backing_word (literal_of p.value)

abbrev pub is_bad_backing : Annot → Bool
is_bad_backing a = not (names_backing (find is_type a.params))

abbrev pub bad_backing : Option Annot → List ℕ
bad_backing None = []
bad_backing (Some a) = if is_bad_backing a then a.offset ∷ [] else []

-- at the first `Backing` annotation of an enum
abbrev pub BadBacking : Rule
BadBacking entries e uses = if is_enum_body (body e.tree) then bad_backing (find is_backing (annots_of e.tree)) else []
