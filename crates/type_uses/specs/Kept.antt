-- What is kept of a list of annotations: by their names, whatever else their parameters are (own). The backing of
-- an enum is `backing_of` of type_shapes.
use Rattle.std.specs.Prelude.{ℕ, Bool, ◌&&◌, codes, List}
use Rattle.std.specs.List.{list_any}
use Rattle.std.specs.Str.{bytes_eq}
use Rattle.aidl_syntax.specs.Trees.{Annot}
use Rattle.declared_names.specs.Names.{text}
use Rattle.type_uses.specs.declared.kept.Kept.{Kept}
use Rattle.type_uses.specs.Parameters.{is_heap_true}

-- the annotation has that name
abbrev pub is_called : List ℕ → Annot → Bool
is_called name a = bytes_eq (text a.name.name) name

abbrev pub is_nullable_annot : Annot → Bool
is_nullable_annot a = is_called (codes "nullable") a

-- a `@nullable` that has `heap=true` among its parameters
abbrev pub is_heap_annot : Annot → Bool
is_heap_annot a = is_nullable_annot a && list_any is_heap_true a.params

-- Any annotation of the list counts.

abbrev pub is_nullable : List Annot → Bool
is_nullable annots = list_any is_nullable_annot annots

abbrev pub is_heap : List Annot → Bool
is_heap annots = list_any is_heap_annot annots

abbrev pub is_utf8 : List Annot → Bool
is_utf8 annots = list_any (is_called (codes "utf8InCpp")) annots

abbrev pub is_fixed : List Annot → Bool
is_fixed annots = list_any (is_called (codes "FixedSize")) annots

abbrev pub is_vintf : List Annot → Bool
is_vintf annots = list_any (is_called (codes "VintfStability")) annots

abbrev pub kept_of : List Annot → Kept
kept_of annots = record {
  nullable = is_nullable annots;
  heap = is_heap annots;
  utf8 = is_utf8 annots;
  fixed = is_fixed annots;
  vintf = is_vintf annots;
}
