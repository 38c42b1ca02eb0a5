-- Rule 1 of a valid schema: the names of the declarations of a tree without breaches.
use Rattle.std.proofs.Common.{is_some, ◌≡◌, ℕ, Bool, true, false, ◌&&◌, ◌||◌, cond, List, [], ◌∷◌, ◌++◌, map, length, Option, Some, None, slice_get, IsTrue, refl, sym, ap, ◌∙◌, subst}
use Rattle.std.specs.List.{list_any}
use Rattle.std.proofs.lemmas.List.Folds.{list_all-map}
use Rattle.aidl_base.specs.declared.name.Ident.{Ident}
use Rattle.aidl_base.specs.Identifiers.{is_identifier}
use Rattle.aidl_base.specs.Names.{dotted}
use Rattle.aidl_schema.specs.declared.schema.Decl as schema
use Rattle.aidl_schema.specs.Names.{has_names, are_ascending, is_name, is_outer, name_of, has_part, are_identifiers, last_part, without_last, is_type_word, may_enclose}
use Rattle.aidl_schema.specs.Same.{same_text, same_idents}
use Rattle.aidl_schema.proofs.lemmas.Sames.{same_text_sym, same_idents_refl}
use Rattle.aidl_syntax.specs.Trees.{Body}
use Rattle.aidl_syntax.specs.Trees.Body.{parcelable, union, enum, interface}
use Rattle.aidl_syntax.specs.Members.{body, declared_name}
use Rattle.aidl_names.specs.Breaches.{breaches}
use Rattle.declared_names.specs.Declarations.{Entry, declarations}
use Rattle.declared_names.specs.Names.{text}
use Rattle.name_resolution.specs.Resolution.{meaning_in, meaning_words, meaning_of_word}
use Rattle.aidl_syntax.specs.Sources.{Source}
use Rattle.name_resolution.specs.declared.meaning.Resolved.{Resolved}
use Rattle.const_values.specs.declared.wanted.Wanted.{Wanted}
use Rattle.type_shapes.specs.Backing.{backing_of}
use Rattle.tree_schema.specs.Numbers.{Numbered, sorted, number_of}
use Rattle.tree_schema.specs.SchemaOf.{schema_of, declared, outer_of, kind_of}
use Rattle.tree_schema.specs.Values.{Outcomes}
use Rattle.tree_schema.proofs.lemmas.walked.Ascii.{plain-dotted, plain-identifier}
use Rattle.tree_schema.proofs.walked.Outers.{IsAround, are_named, walked, named-itself, may_hold}
use Rattle.tree_schema.proofs.walked.Breaches.{no-type_word}
use Rattle.tree_schema.proofs.lemmas.named.Numbers.{key, sorted-ascending, sorted-there, number-there, sorted-length, number-some}
use Rattle.tree_schema.proofs.lemmas.walked.Lists.{there-mapped, mapped-there, same-maps, all-from_at}
use Rattle.std.proofs.lemmas.List.{length-map}
use Rattle.std.proofs.lemmas.Simd.{map-map}

-- a name and its last part
pub last-inside : (front : List Ident) (i : Ident) → last_part (front ++ i ∷ []) ≡ i.0
last-inside [] i = refl
last-inside (a ∷ []) i = refl
last-inside (a ∷ b ∷ front) i = last-inside (b ∷ front) i

without_inside : (front : List Ident) (i : Ident) → without_last (front ++ i ∷ []) ≡ front
without_inside [] i = refl
without_inside (a ∷ []) i = refl
without_inside (a ∷ b ∷ front) i = ap (λ is. a ∷ is) (without_inside (b ∷ front) i)

part_inside : (front : List Ident) (i : Ident) → has_part (front ++ i ∷ []) ≡ true
part_inside [] i = refl
part_inside (a ∷ front) i = refl

no_word : (words : List (List ℕ × Resolved)) (x : List ℕ) → is_some (meaning_in words x) ≡ false → list_any (λ w. same_text w x) (map (λ w. w.0) words) ≡ false
no_word [] x h = refl
no_word (w ∷ words) x h = by (same_text x w.0) (same_text_sym w.0 x) h (no_word words x) where
  by : (b : Bool) → same_text w.0 x ≡ b → is_some (cond b (Some w.1) (meaning_in words x)) ≡ false
      → (is_some (meaning_in words x) ≡ false → list_any (λ v. same_text v x) (map (λ v. v.0) words) ≡ false)
      → (same_text w.0 x || list_any (λ v. same_text v x) (map (λ v. v.0) words)) ≡ false
  by true s g rest = cc
  by false s g rest = rw s (rest g)

no_type_word : (x : List ℕ) → is_some (meaning_of_word x) ≡ false → is_type_word x ≡ false
unfolding meaning_of_word
no_type_word x h = no_word meaning_words x h

encloses_kind : (files : List Source) (outcomes : Outcomes) (file number : ℕ) (backed : Wanted) (b : Body) → may_hold b ≡ true → may_enclose (kind_of files outcomes file number backed b) ≡ true
encloses_kind files outcomes file number backed (parcelable ms) h = refl
encloses_kind files outcomes file number backed (union ms) h = refl
encloses_kind files outcomes file number backed (enum es) h = cc
encloses_kind files outcomes file number backed (interface oneway ms) h = refl

-- what stands at a place of the schema
pub schema-there : (files : List Source) (outcomes : Outcomes) (n : ℕ) (d : schema.Decl) → slice_get (schema_of files outcomes) n ≡ Some d
    → (x : Numbered) × (slice_get (sorted (declarations files)) n ≡ Some x) × (declared files outcomes x ≡ d)
schema-there files outcomes n d at = there-mapped (declared files outcomes) (sorted (declarations files)) n d at

module _ (files : List Source) (outcomes : Outcomes) (named : are_named files ≡ true) (unbroken : breaches files ≡ []) where
  -- the schema has as many declarations as the trees
  pub schema-length : length (schema_of files outcomes) ≡ length (declarations files)
  schema-length = length-map (sorted (declarations files)) (declared files outcomes) ∙ sorted-length files named unbroken

  -- each declaration of the trees has a number in the schema, and stands there
  pub number-stands : (k : ℕ) (e : Entry) → slice_get (declarations files) k ≡ Some e
      → (n : ℕ) × (number_of (declarations files) k ≡ Some n) × (slice_get (schema_of files outcomes) n ≡ Some (declared files outcomes (k, e)))
  number-stands k e at =
      let some = number-some files named unbroken k e at in
      (some.0, some.1, mapped-there (declared files outcomes) (sorted (declarations files)) some.0 (k, e) some.2)

module _ (files : List Source) (outcomes : Outcomes) (named : are_named files ≡ true) (unbroken : breaches files ≡ []) where
  texts_are : map name_of (schema_of files outcomes) ≡ map key (sorted (declarations files))
  texts_are =
      map-map name_of (declared files outcomes) (sorted (declarations files))
      ∙ same-maps (λ x. dotted x.1.name) key (sorted (declarations files)) (λ n x at. sym (plain-dotted x.1.name (walked files named x.0 x.1 (sorted-there (declarations files) n x at)).parts))

  module _ (k : ℕ) (e : Entry) (at : slice_get (declarations files) k ≡ Some e) where
    name_holds : is_name e.name ≡ true
    name_holds =
        let w = walked files named k e at in
        let own = (declared_name e.tree).name in
        let part : has_part e.name ≡ true = ap has_part w.name ∙ part_inside w.front own in
        let identifiers : are_identifiers (map (λ i. i.0) e.name) ≡ true = list_all-map is_identifier (λ (i : Ident). i.0) e.name ∙ w.parts in
        let last : last_part e.name ≡ own.0 = ap last_part w.name ∙ last-inside w.front own in
        let plain : text own ≡ own.0 = plain-identifier own.0 (named-itself e.tree w.tree) in
        let word : is_type_word (last_part e.name) ≡ false = ap is_type_word (last ∙ sym plain) ∙ no_type_word (text own) (no-type_word files unbroken k e at) in
        rw (part, identifiers, word) refl

    outer_at : (o : Option ℕ) → IsAround (declarations files) k e o → is_outer (schema_of files outcomes) (outer_of (declarations files) o) e.name ≡ true
    outer_at None h = refl
    outer_at (Some j) h = by (number_of (declarations files) j) refl where
      o : Entry
      o = h.0

      by : (r : Option ℕ) → number_of (declarations files) j ≡ r → is_outer (schema_of files outcomes) r e.name ≡ true
      by None q = refl
      by (Some n) q =
          let there = number-there (declarations files) j n q in
          let option : Some there.0 ≡ Some o = sym there.2 ∙ h.1 in
          let same : there.0 ≡ o = cc in
          let place : slice_get (schema_of files outcomes) n ≡ Some (declared files outcomes (j, o)) =
          mapped-there (declared files outcomes) (sorted (declarations files)) n (j, there.0) there.1 ∙ ap (λ (y : Entry). Some (declared files outcomes (j, y))) same in
          let front : without_last e.name ≡ o.name = ap without_last h.3 ∙ without_inside o.name (declared_name e.tree).name in
          let names : same_idents o.name (without_last e.name) ≡ true = ap (same_idents o.name) front ∙ same_idents_refl o.name in
          let kinds = encloses_kind files outcomes o.file j (backing_of o.tree) (body o.tree) h.4 in
          rw (place, kinds, names) refl

    outer_holds : is_outer (schema_of files outcomes) (outer_of (declarations files) e.outer) e.name ≡ true
    outer_holds = outer_at e.outer (walked files named k e at).outer

  -- Rule 1 of a valid schema.
  pub names-hold : IsTrue (has_names (schema_of files outcomes))
  unfolding has_names
  names-hold =
      let ascending : are_ascending (map name_of (schema_of files outcomes)) ≡ true = ap are_ascending texts_are ∙ sorted-ascending (declarations files) in
      let each = all-from_at (λ d. is_name d.name.0 && is_outer (schema_of files outcomes) d.outer d.name.0) (schema_of files outcomes) (λ n d at.
      let x = schema-there files outcomes n d at in
      let there = sorted-there (declarations files) n x.0 x.1 in
      let both_hold : (is_name x.0.1.name && is_outer (schema_of files outcomes) (outer_of (declarations files) x.0.1.outer) x.0.1.name) ≡ true =
      rw (name_holds x.0.0 x.0.1 there, outer_holds x.0.0 x.0.1 there) refl in
      subst (λ (c : schema.Decl). (is_name c.name.0 && is_outer (schema_of files outcomes) c.outer c.name.0) ≡ true) x.2 both_hold) in
      rw (ascending, each) refl
