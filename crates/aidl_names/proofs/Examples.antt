-- The definitions on small trees.
use Rattle.std.proofs.Common.{◌≡◌, ◌+◌, ℕ, List, [], ◌∷◌, Some, None, codes, refl, false}
use Rattle.aidl_base.specs.declared.name.Ident.{Ident}
use Rattle.aidl_syntax.specs.declared.tree.NameTree.{NameTree}
use Rattle.aidl_syntax.specs.declared.tree.DottedTree.{DottedTree}
use Rattle.aidl_syntax.specs.Trees.{Field}
use Rattle.aidl_syntax.specs.Trees.Decl.{decl}
use Rattle.aidl_syntax.specs.Trees.Body.{parcelable}
use Rattle.aidl_syntax.specs.Trees.Members.{none, field, nested}
use Rattle.name_resolution.specs.declared.meaning.Resolved.TheVariants.{Declared}
use Rattle.aidl_syntax.specs.Sources.{Source}
use Rattle.name_resolution.specs.Resolution.{resolved, meaning_of_word}
use Rattle.aidl_names.specs.Rules.{breach}
use Rattle.aidl_names.specs.Breaches.{breaches}

abbrev ident : List ℕ → Ident
ident text = record { 0 = text }

abbrev dotted : ℕ → List Ident → DottedTree
dotted offset parts = record { offset = offset; name = record { 0 = parts } }

abbrev one : ℕ → List ℕ → DottedTree
one offset text = dotted offset (ident text ∷ [])

abbrev named : ℕ → List ℕ → NameTree
named offset text = record { offset = offset; name = ident text }

abbrev plain : ℕ → List ℕ → List ℕ → Field
plain offset ty name = record {
  offset = offset;
  annots = [];
  ty = record { offset = offset; name = one offset ty; element = None; array = false };
  name = named (offset + 4) name;
  initial = None;
}

-- package a; import a.R; import b.R; parcelable R { Foo f; R r; int f; union S { } IBinder b; }
abbrev example : Source
example = record {
  path = codes "a/R.aidl";
  tree = record {
    offset = 0;
    «package» = Some (one 8 (codes "a"));
    imports = dotted 18 (ident (codes "a") ∷ ident (codes "R") ∷ []) ∷ dotted 30 (ident (codes "b") ∷ ident (codes "R") ∷ []) ∷ [];
    declared = decl 35 [] (named 46 (codes "R")) (parcelable
        (field (plain 50 (codes "Foo") (codes "f")) (field (plain 60 (codes "R") (codes "r")) (field (plain 70 (codes "int") (codes "f"))
        (nested (decl 80 [] (named 86 (codes "S")) (parcelable none)) (field (plain 90 (codes "IBinder") (codes "b")) none))))));
  };
}

example_breaches : breaches (example ∷ []) ≡ breach 2 0 30 ∷ breach 3 0 30 ∷ breach 4 0 50 ∷ breach 2 0 74 ∷ breach 5 0 90 ∷ []
unfolding meaning_of_word lib.Utf8.encode
example_breaches = refl

-- through the enclosing declaration, and then through the package
example_nested : resolved (example ∷ []) 0 0 (ident (codes "S") ∷ []) ≡ Some (Declared 1)
unfolding meaning_of_word lib.Utf8.encode
example_nested = refl

example_package : resolved (example ∷ []) 0 1 (ident (codes "R") ∷ ident (codes "S") ∷ []) ≡ Some (Declared 1)
unfolding meaning_of_word lib.Utf8.encode
example_package = refl
