-- What the types of a tree are where E5 isn't broken: the base of each is built in, or a declaration that is no interface.
use Rattle.std.proofs.Common.{◌≡◌, ℕ, Bool, true, false, not, ◌&&◌, if◌then◌else◌, List, [], ◌∷◌, Option, Some, None, slice_get, bytes_eq, refl, sym, ap, ◌∙◌, subst, arith}
use Rattle.std.specs.List.{list_any, list_all}
use Rattle.aidl_base.specs.declared.name.Ident.{Ident}
use Rattle.aidl_base.proofs.lemmas.Tests.{both, neither}
use Rattle.aidl_syntax.specs.declared.tree.DottedTree.{DottedTree}
use Rattle.aidl_syntax.specs.declared.tree.TypeTree.{TypeTree}
use Rattle.aidl_syntax.specs.Members.{body}
use Rattle.name_resolution.specs.declared.meaning.Resolved.{Resolved}
use Rattle.name_resolution.specs.declared.meaning.Resolved.TheVariants.{Builtin, ListWord, LeftOut, Declared}
use Rattle.declared_names.specs.Declarations.{Entry, declarations}
use Rattle.declared_names.specs.Names.{text, same}
use Rattle.name_resolution.specs.Resolution.{meaning_in, meaning_words, meaning_of_word, own_meaning, number_of, candidates, first_declared, or_else, meaning_in_file, resolved}
use Rattle.aidl_names.specs.Rules.{is_left_out, is_interface, is_interface_body}
use Rattle.declared_names.specs.TypeNames.{names_of_type}
use Rattle.aidl_syntax.specs.Sources.{Source}
use Rattle.type_shapes.specs.declared.shape.Shape.{Shape}
use Rattle.type_shapes.specs.declared.shape.Shape.TheVariants as shape
use Rattle.type_shapes.specs.Types as types
use Rattle.type_shapes.specs.Types.{Meaning, is_list_element, shaped, shaped_as, list_with, list_of, plain, shape_in}
use Rattle.tree_schema.proofs.lemmas.walked.Lists.{first-passes}

-- the declaration is there, and no interface
abbrev pub is_base_entry : Option Entry → Bool
is_base_entry None = false
is_base_entry (Some e) = not (is_interface_body (body e.tree))

-- the base is built in, or a declaration that is there and no interface
abbrev pub is_base : List Entry → Resolved → Bool
is_base entries (Builtin b) = true
is_base entries (Declared number) = is_base_entry (slice_get entries number)
is_base entries ListWord = false
is_base entries LeftOut = false

-- the base may be used as a type, and the element of a list is one that it may have
abbrev pub is_sound : List Entry → Shape → Bool
is_sound entries (shape.One r) = is_base entries r
is_sound entries (shape.Array r) = is_base entries r
is_sound entries (shape.List r) = is_base entries r && is_list_element entries r
is_sound entries shape.Refused = true

abbrev is_own : Resolved → Bool
is_own (Declared number) = false
is_own (Builtin b) = true
is_own ListWord = true
is_own LeftOut = true

-- a word of its own means no declaration
own_word : (words : List (List ℕ × Resolved)) (x : List ℕ) (k : ℕ) → list_all (λ w. is_own w.1) words ≡ true → meaning_in words x ≡ Some (Declared k) → ⊥
own_word [] x k h e = cc
own_word (w ∷ words) x k h e = by (bytes_eq x w.0) e (own_word words x k two.1) where
  two : (is_own w.1 ≡ true) × (list_all (λ v. is_own v.1) words ≡ true)
  two = both (is_own w.1) (list_all (λ v. is_own v.1) words) h

  by : (b : Bool) → (if b then Some w.1 else meaning_in words x) ≡ Some (Declared k) → (meaning_in words x ≡ Some (Declared k) → ⊥) → ⊥
  by true f rest = let is : w.1 ≡ Declared k = cc in let own = subst (λ r. is_own r ≡ true) is two.0 in cc
  by false f rest = rest f

own_none : (name : List Ident) (k : ℕ) → own_meaning name ≡ Some (Declared k) → ⊥
unfolding meaning_of_word
own_none [] k e = cc
own_none (a ∷ []) k e = own_word meaning_words (text a) k refl e
own_none (a ∷ b ∷ more) k e = cc

first_there : (entries : List Entry) (cs : List (List Ident)) (k : ℕ) → first_declared entries cs ≡ Some (Declared k) → (e : Entry) × (slice_get entries k ≡ Some e)
first_there entries [] k h = cc
first_there entries (c ∷ cs) k h = by (number_of entries c) refl h (first_there entries cs k) where
  by : (o : Option ℕ) → number_of entries c ≡ o → elim o as (λ _. Option Resolved) [ None ↦ first_declared entries cs | Some number ↦ Some (Declared number) ] ≡ Some (Declared k)
      → (first_declared entries cs ≡ Some (Declared k) → (e : Entry) × (slice_get entries k ≡ Some e)) → (e : Entry) × (slice_get entries k ≡ Some e)
  by None q g rest = rest g
  by (Some n) q g rest =
      let f = first-passes (λ (e : Entry). same e.name c) 0 entries n q in
      let far = f.2 in
      let is : n ≡ k = cc in
      let place : f.0 ≡ k = omega arith in
      (f.1, ap (slice_get entries) (sym place) ∙ f.3)

file_there : (entries : List Entry) (file : Source) (scope : ℕ) (name : List Ident) (k : ℕ) → meaning_in_file entries file scope name ≡ Some (Declared k) → (e : Entry) × (slice_get entries k ≡ Some e)
file_there entries file scope name k h = by (own_meaning name) refl h where
  by : (o : Option Resolved) → own_meaning name ≡ o → or_else o (first_declared entries (candidates entries file scope name)) ≡ Some (Declared k) → (e : Entry) × (slice_get entries k ≡ Some e)
  by None q g = first_there entries (candidates entries file scope name) k g
  by (Some r) q g = absurd (own_none name k (q ∙ g))

-- a name that means a declaration means one that is there
pub resolved-there : (files : List Source) (file scope : ℕ) (name : List Ident) (k : ℕ) → resolved files file scope name ≡ Some (Declared k)
    → (e : Entry) × (slice_get (declarations files) k ≡ Some e)
resolved-there files file scope name k h = by (slice_get files file) h where
  by : (o : Option Source) → elim o as (λ _. Option Resolved) [ None ↦ None | Some s ↦ meaning_in_file (declarations files) s scope name ] ≡ Some (Declared k)
      → (e : Entry) × (slice_get (declarations files) k ≡ Some e)
  by None g = cc
  by (Some s) g = file_there (declarations files) s scope name k g

-- a meaning that gives only declarations that are there
abbrev GivesThere : List Entry → Meaning → Type 0
GivesThere entries meaning = (d : DottedTree) (k : ℕ) → meaning d ≡ Some (Declared k) → (e : Entry) × (slice_get entries k ≡ Some e)

module _ (entries : List Entry) (meaning : Meaning) (gives : GivesThere entries meaning) where
  declared_base : (d : DottedTree) (k : ℕ) → meaning d ≡ Some (Declared k) → is_interface entries k ≡ false → is_base entries (Declared k) ≡ true
  declared_base d k q h =
      let there = gives d k q in
      let plain_kind : is_interface_body (body there.0.tree) ≡ false = subst (λ (o : Option Entry). elim o as (λ _. Bool) [ None ↦ false | Some e ↦ is_interface_body (body e.tree) ] ≡ false) there.1 h in
      rw (there.1, plain_kind) refl

  plain_sound : (r : Resolved) (element : Option DottedTree) (brackets : Bool) → is_base entries r ≡ true → is_sound entries (plain r element brackets) ≡ true
  plain_sound r (Some d) brackets h = refl
  plain_sound r None true h = h
  plain_sound r None false h = h

  element_sound : (d : DottedTree) (o : Option Resolved) → meaning d ≡ o → is_left_out entries o ≡ false → is_sound entries (list_of entries o) ≡ true
  element_sound d None q h = refl
  element_sound d (Some (Builtin b)) q h = by (is_list_element entries (Builtin b)) refl where
    by : (t : Bool) → is_list_element entries (Builtin b) ≡ t → is_sound entries (if t then shape.List (Builtin b) else shape.Refused) ≡ true
    by true e = e
    by false e = refl
  element_sound d (Some ListWord) q h = refl
  element_sound d (Some LeftOut) q h = refl
  element_sound d (Some (Declared k)) q h = by (is_list_element entries (Declared k)) refl where
    by : (t : Bool) → is_list_element entries (Declared k) ≡ t → is_sound entries (if t then shape.List (Declared k) else shape.Refused) ≡ true
    by true e = rw (declared_base d k q h, e) refl
    by false e = refl

  list_sound : (element : Option DottedTree) (brackets : Bool)
      → list_any (λ d. is_left_out entries (meaning d)) (elim element as (λ _. List DottedTree) [ None ↦ [] | Some d ↦ d ∷ [] ]) ≡ false
      → is_sound entries (list_with entries meaning element brackets) ≡ true
  list_sound None brackets h = refl
  list_sound (Some d) true h = refl
  list_sound (Some d) false h = element_sound d (meaning d) refl (neither (is_left_out entries (meaning d)) false h).0

  pub shaped-sound : (t : TypeTree) → list_any (λ d. is_left_out entries (meaning d)) (names_of_type t) ≡ false → is_sound entries (shaped entries meaning t) ≡ true
  shaped-sound t h = by (meaning t.name) refl two.0 where
    rest : List DottedTree
    rest = elim t.element as (λ _. List DottedTree) [ None ↦ [] | Some d ↦ d ∷ [] ]

    two : (is_left_out entries (meaning t.name) ≡ false) × (list_any (λ d. is_left_out entries (meaning d)) rest ≡ false)
    two = neither (is_left_out entries (meaning t.name)) (list_any (λ d. is_left_out entries (meaning d)) rest) h

    by : (o : Option Resolved) → meaning t.name ≡ o → is_left_out entries o ≡ false → is_sound entries (shaped_as entries meaning t o) ≡ true
    by None q g = refl
    by (Some ListWord) q g = list_sound t.element t.array two.1
    by (Some (Builtin b)) q g = plain_sound (Builtin b) t.element t.array refl
    by (Some LeftOut) q g = cc
    by (Some (Declared k)) q g = plain_sound (Declared k) t.element t.array (declared_base t.name k q g)

-- a type in a file below a declaration, none of whose names breaks E5
pub shape-sound : (files : List Source) (file scope : ℕ) (t : TypeTree) → list_any (λ (d : DottedTree). is_left_out (declarations files) (resolved files file scope d.name.0)) (names_of_type t) ≡ false
    → is_sound (declarations files) (shape_in files file scope t) ≡ true
shape-sound files file scope t h = shaped-sound (declarations files) (types.meaning_in files file scope) (λ d k q. resolved-there files file scope d.name.0 k q) t h
