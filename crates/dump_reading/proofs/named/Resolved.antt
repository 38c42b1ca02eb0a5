-- The names of types in a dump mean what they name.
use Rattle.std.proofs.Common.{◌≡◌, ℕ, zero, suc, ◌+◌, Bool, true, false, cond, not, ◌&&◌, if◌then◌else◌, List, [], ◌∷◌, map, length, codes, Option, Some, None, slice_get, refl, sym, ap, subst, ◌∙◌, arith}
use Rattle.std.specs.List.{list_any, position_from}
use Rattle.std.specs.Str.{bytes_eq}
use Rattle.std.proofs.lemmas.Bool.{and_parts, and_from}
use Rattle.aidl_base.specs.Identifiers.{is_identifier, is_word_byte}
use Rattle.aidl_base.specs.Names.{dotted}
use Rattle.aidl_base.specs.declared.name.Ident.{Ident}
use Rattle.aidl_base.proofs.lemmas.Tests.{flipped, neither}
use Rattle.aidl_syntax.specs.Trees as tree
use Rattle.aidl_syntax.specs.Trees.Decl.{decl}
use Rattle.aidl_syntax.specs.Trees.Body.{enum, parcelable, union, interface}
use Rattle.aidl_syntax.specs.Members.{body}
use Rattle.name_resolution.specs.declared.meaning.BuiltinName.TheVariants as built_in
use Rattle.name_resolution.specs.declared.meaning.Resolved.{Resolved}
use Rattle.name_resolution.specs.declared.meaning.Resolved.TheVariants.{Builtin, Declared}
use Rattle.declared_names.specs.Names.{text, same}
use Rattle.aidl_syntax.specs.Sources.{Source}
use Rattle.declared_names.specs.Declarations.{Entry, declarations}
use Rattle.name_resolution.specs.Resolution.{meaning_words, meaning_in, meaning_of_word, own_meaning, number_of, first_declared, candidates, or_else, meaning_in_file, resolved}
use Rattle.aidl_names.specs.Rules.{is_interface_body, is_interface, is_unknown, is_left_out}
use Rattle.aidl_schema.specs.declared.schema.Decl.{Decl}
use Rattle.aidl_schema.specs.declared.schema.Kind.{Kind}
use Rattle.aidl_schema.specs.declared.schema.Kind.TheVariants.{Interface, Parcelable, Union, Enum}
use Rattle.aidl_schema.specs.declared.schema.Base.{Base}
use Rattle.aidl_schema.specs.declared.schema.Base.TheVariants as base
use Rattle.aidl_schema.specs.Holds.{AllHold, AreApart}
use Rattle.aidl_schema.specs.Names as schema
use Rattle.aidl_schema.specs.Names.{name_of, is_name, is_type_word, type_words, last_part}
use Rattle.aidl_schema.specs.Same.{same_text}
use Rattle.aidl_schema.specs.Types.{form_of, form_of_decl, form_of_kind, is_meant}
use Rattle.aidl_schema.proofs.lemmas.Sames.{same_text_is, same_text_refl}
use Rattle.api_dump.specs.Pieces.{ident}
use Rattle.api_dump.specs.Types.{base_name, declared_name}
use Rattle.dump_reading.specs.Bare.{bare_body, bare_decl}
use Rattle.dump_reading.specs.DumpTrees.{body_tree, nested_trees, constants_before}
use Rattle.tree_schema.proofs.lemmas.walked.Lists.{first-passes}
use Rattle.dump_reading.proofs.spelled.Spelled.{name_spelled}
use Rattle.dump_reading.proofs.spelled.Texts.{ascii_same, word_ascii}
use Rattle.dump_reading.proofs.spelled.Values.{are_identifiers, name_parts}
use Rattle.dump_reading.proofs.filed.Numbers.{walks, has_place}
use Rattle.dump_reading.proofs.named.Entries.{IsEntry, AreEntries}
use Rattle.std.specs.List.Sorted.{IsStrictlySortedBy}
use Rattle.std.specs.Cmp.Lexicographic.{slice_cmp}
use Rattle.std.specs.Ordering.{nat_cmp}

-- Texts.

pub text_is : (i : Ident) → is_identifier i.0 ≡ true → text i ≡ i.0
text_is i h = ascii_same is_word_byte word_ascii i.0 (name_spelled i.0 h).1

pub same_is : (is js : List Ident) → are_identifiers is ≡ true → are_identifiers js ≡ true → same is js ≡ true → dotted is ≡ dotted js
same_is is js h k e = ap dotted (go is js h k e) where
  one : (i j : Ident) → is_identifier i.0 ≡ true → is_identifier j.0 ≡ true → bytes_eq (text i) (text j) ≡ true → i ≡ j
  one i j h k e = ap (λ t. let n : Ident = record { 0 = t } in n) (sym (text_is i h) ∙ same_text_is (text i) (text j) e ∙ text_is j k)

  go : (is js : List Ident) → are_identifiers is ≡ true → are_identifiers js ≡ true → same is js ≡ true → is ≡ js
  go [] [] h k e = refl
  go [] (j ∷ js) h k e = cc
  go (i ∷ is) [] h k e = cc
  go (i ∷ is) (j ∷ js) h k e =
      let a = and_parts (is_identifier i.0) (are_identifiers is) h in let b = and_parts (is_identifier j.0) (are_identifiers js) k in
      let c = and_parts (bytes_eq (text i) (text j)) (same is js) e in
      ap (λ x. x ∷ is) (one i j a.0 b.0 c.0) ∙ ap (λ xs. j ∷ xs) (go is js a.1 b.1 c.1)

pub same_itself : (is : List Ident) → same is is ≡ true
same_itself [] = refl
same_itself (i ∷ is) = and_from (bytes_eq (text i) (text i)) (same is is) (same_text_refl (text i)) (same_itself is)

-- Words that mean something of their own.

no_meaning : (ws : List (List ℕ × Resolved)) (t : List ℕ) → list_any (λ w. same_text w t) (map (λ w. w.0) ws) ≡ false → meaning_in ws t ≡ None
no_meaning [] t h = refl
no_meaning (w ∷ ws) t h =
    let two = neither (same_text w.0 t) (list_any (λ w. same_text w t) (map (λ w. w.0) ws)) h in
    by (bytes_eq t w.0) refl (no_meaning ws t two.1) two.0 where
      by : (b : Bool) → bytes_eq t w.0 ≡ b → meaning_in ws t ≡ None → same_text w.0 t ≡ false → (if b then Some w.1 else meaning_in ws t) ≡ None
      by true e rest differ = let is : t ≡ w.0 = same_text_is t w.0 e in let alike : same_text w.0 t ≡ true = ap (same_text w.0) is ∙ same_text_refl w.0 in cc
      by false e rest differ = rest

words_are : map (λ w. w.0) meaning_words ≡ type_words
words_are = refl

pub word_free : (i : Ident) → is_identifier i.0 ≡ true → is_type_word i.0 ≡ false → meaning_of_word (text i) ≡ None
unfolding meaning_of_word
word_free i h free = no_meaning meaning_words (text i) (ap (list_any (λ w. same_text w (text i))) words_are ∙ ap is_type_word (text_is i h) ∙ free)

-- a declaration's last part has no meaning of its own
pub last_free : (is : List Ident) → is_name is ≡ true → is_type_word (last_part is) ≡ false
last_free [] h = cc
last_free (i ∷ is) h = flipped (is_type_word (last_part (i ∷ is))) (and_parts (schema.are_identifiers (map (λ i. i.0) (i ∷ is))) (not (is_type_word (last_part (i ∷ is)))) h).1

own_free : (is : List Ident) → is_name is ≡ true → own_meaning is ≡ None
own_free [] h = cc
own_free (i ∷ []) h = word_free i (and_parts (is_identifier i.0) true (name_parts (i ∷ []) h).1).0 (last_free (i ∷ []) h)
own_free (i ∷ j ∷ is) h = refl

-- Places.

pub found_at : {X : Type 0} (p : X → Bool) (xs : List X) (n : ℕ) (x : X) → slice_get xs n ≡ Some x → p x ≡ true → (i : ℕ) → (r : ℕ) × (position_from p i xs ≡ Some r)
found_at p [] n x e h i = cc
found_at p (y ∷ ys) zero x e h i = let s : y ≡ x = cc in (i, ap (λ b. cond b (Some i) (position_from p (i + 1) ys)) (ap p s ∙ h))
found_at p (y ∷ ys) (suc n) x e h i = by (p y) (found_at p ys n x e h (i + 1)) where
  by : (b : Bool) → (r : ℕ) × (position_from p (i + 1) ys ≡ Some r) → (r : ℕ) × (cond b (Some i) (position_from p (i + 1) ys) ≡ Some r)
  by true later = (i, refl)
  by false later = later

abbrev is_interface_kind : Kind → Bool
is_interface_kind (Interface ms) = true
is_interface_kind _ = false

interface_bare : (S : List Decl) (k : Kind) (ms : tree.Members) (b : tree.Body) → bare_body b ≡ body_tree S k ms → is_interface_body b ≡ is_interface_kind k
interface_bare S (Interface xs) ms (interface oneway ns) e = refl
interface_bare S (Interface xs) ms (parcelable ns) e = cc
interface_bare S (Interface xs) ms (union ns) e = cc
interface_bare S (Interface xs) ms (enum es) e = cc
interface_bare S (Parcelable xs) ms (parcelable ns) e = refl
interface_bare S (Parcelable xs) ms (interface oneway ns) e = cc
interface_bare S (Parcelable xs) ms (union ns) e = cc
interface_bare S (Parcelable xs) ms (enum es) e = cc
interface_bare S (Union xs) ms (union ns) e = refl
interface_bare S (Union xs) ms (interface oneway ns) e = cc
interface_bare S (Union xs) ms (parcelable ns) e = cc
interface_bare S (Union xs) ms (enum es) e = cc
interface_bare S (Enum b xs) ms (enum es) e = refl
interface_bare S (Enum b xs) ms (interface oneway ns) e = cc
interface_bare S (Enum b xs) ms (parcelable ns) e = cc
interface_bare S (Enum b xs) ms (union ns) e = cc

meant_kind : (k : Kind) → is_meant (form_of_kind k) ≡ true → is_interface_kind k ≡ false
meant_kind (Interface ms) e = cc
meant_kind (Parcelable fs) e = refl
meant_kind (Union fs) e = refl
meant_kind (Enum b es) e = refl

first_is : (es : List Entry) (c : List Ident) (more : List (List Ident)) (m : ℕ) → number_of es c ≡ Some m → first_declared es (c ∷ more) ≡ Some (Declared m)
first_is es c more m e = ap (λ o. elim o as (λ _. Option Resolved) [ None ↦ first_declared es more | Some number ↦ Some (Declared number) ]) e

module _ (S : List Decl) (H : AllHold S) (sorted : IsStrictlySortedBy (slice_cmp nat_cmp) (map name_of S)) (A : AreApart name_of S) (files : List Source) (are : AreEntries S files (walks S) (declarations files)) where
  -- the entry of a declaration
  pub entry_there : (n : ℕ) (d : Decl) → slice_get S n ≡ Some d → (j : ℕ) × (e : Entry) × (slice_get (declarations files) j ≡ Some e) × (e.name ≡ d.name.0)
  entry_there n d at =
      let p = has_place S H sorted n d at in
      by p.0 p.1 (slice_get (declarations files) p.0) refl where
        past : {X Y : Type 0} (xs : List X) (ys : List Y) (j : ℕ) (x : X) → length xs ≡ length ys → slice_get xs j ≡ Some x → slice_get ys j ≡ None → ⊥
        past [] ys j x l e f = cc
        past (x ∷ xs) [] j z l e f = cc
        past (x ∷ xs) (y ∷ ys) zero z l e f = cc
        past (x ∷ xs) (y ∷ ys) (suc j) z l e f = let m : length xs ≡ length ys = omega arith in past xs ys j z m e f

        by : (j : ℕ) → slice_get (walks S) j ≡ Some n → (o : Option Entry) → slice_get (declarations files) j ≡ o → (j : ℕ) × (e : Entry) × (slice_get (declarations files) j ≡ Some e) × (e.name ≡ d.name.0)
        by j there None e = absurd (past (walks S) (declarations files) j n are.count there e)
        by j there (Some f) e =
            let r = are.each j f e in
            let one : Some r.0 ≡ Some n = sym r.1 ∙ there in
            let is : r.0 ≡ n = cc in
            let two : Some r.2.declared ≡ Some d = sym r.2.at ∙ ap (λ (k : ℕ). slice_get S k) is ∙ at in
            let decl_is : r.2.declared ≡ d = cc in
            (j, f, e, r.2.named ∙ ap (λ x. x.name.0) decl_is)

  -- what has its name is the declaration
  pub one_declared : (n : ℕ) (d : Decl) → slice_get S n ≡ Some d → (j : ℕ) (e : Entry) → slice_get (declarations files) j ≡ Some e → same e.name d.name.0 ≡ true
      → (slice_get (walks S) j ≡ Some n) × IsEntry S files (walks S) n e
  one_declared n d at j e there alike =
      let r = are.each j e there in
      let c = r.2.declared in
      let name : name_of c ≡ name_of d = same_is c.name.0 d.name.0 (name_parts c.name.0 (H r.0 c r.2.at).name).1 (name_parts d.name.0 (H n d at).name).1 (ap (λ is. same is d.name.0) (sym r.2.named) ∙ alike) in
      let is : r.0 ≡ n = A r.0 n c d r.2.at at name in
      (r.1 ∙ ap Some is, subst (λ (k : ℕ). IsEntry S files (walks S) k e) is r.2)

  -- the first candidate is the declaration itself
  pub number_is : (n : ℕ) (d : Decl) → slice_get S n ≡ Some d → (k : ℕ) × (number_of (declarations files) d.name.0 ≡ Some k) × (slice_get (walks S) k ≡ Some n) × (e : Entry) × (slice_get (declarations files) k ≡ Some e) × IsEntry S files (walks S) n e
  number_is n d at =
      let p : Entry → Bool = λ e. same e.name d.name.0 in
      let t = entry_there n d at in
      let f = found_at p (declarations files) t.0 t.1 t.2 (ap (λ is. same is d.name.0) t.3 ∙ same_itself d.name.0) 0 in
      let r = first-passes p 0 (declarations files) f.0 f.1 in
      let o = one_declared n d at r.0 r.1 r.3 r.4 in
      let is : f.0 ≡ r.0 = r.2 ∙ omega arith in
      (r.0, f.1 ∙ ap Some is, o.0, r.1, r.3, o.1)

  pub named_resolved : (file scope : ℕ) (s : Source) → slice_get files file ≡ Some s → (n : ℕ) (d : Decl) (at : slice_get S n ≡ Some d) → resolved files file scope d.name.0 ≡ Some (Declared (number_is n d at).0)
  named_resolved file scope s in_file n d at =
      let es = declarations files in let k = number_is n d at in
      let rest = candidates es s scope d.name.0 in
      ap (λ o. elim o as (λ _. Option Resolved) [ None ↦ None | Some f ↦ meaning_in_file es f scope d.name.0 ]) in_file
      ∙ ap (λ o. or_else o (first_declared es rest)) (own_free d.name.0 (H n d at).name)
      ∙ first_is es d.name.0 _ k.0 k.1

  -- a name that is known, and no left-out name and no interface
  abbrev pub is_fine : ℕ → ℕ → List Ident → Bool
  is_fine file scope is = not (is_unknown (resolved files file scope is)) && not (is_left_out (declarations files) (resolved files file scope is))

  pub named_fine : (file scope : ℕ) (s : Source) → slice_get files file ≡ Some s → (n : ℕ) (o : Option Decl) → slice_get S n ≡ o → is_meant (form_of_decl o) ≡ true → is_fine file scope (declared_name o) ≡ true
  named_fine file scope s in_file n None at m = cc
  named_fine file scope s in_file n (Some d) at m =
      let k = number_is n d at in let e = k.3 in
      let kind = k.5.declared.kind in
      let same_decl : Some k.5.declared ≡ Some d = sym k.5.at ∙ at in
      let decl_is : k.5.declared ≡ d = cc in
      let free : is_interface (declarations files) k.0 ≡ false =
      ap (λ o. elim o as (λ _. Bool) [ None ↦ false | Some e ↦ is_interface_body (body e.tree) ]) k.4
      ∙ interface_bare S kind (constants_before S k.5.declared (nested_trees S k.5.levels n)) (body e.tree) (body_bare e.tree ∙ ap body k.5.written)
      ∙ ap (λ x. is_interface_kind x.kind) decl_is ∙ meant_kind d.kind m in
      ap (λ r. not (is_unknown r) && not (is_left_out (declarations files) r)) (named_resolved file scope s in_file n d at) ∙ ap not free where
        body_bare : (t : tree.Decl) → bare_body (body t) ≡ body (bare_decl t)
        body_bare (decl o annots nt b) = refl

  pub base_fine : (file scope : ℕ) (s : Source) → slice_get files file ≡ Some s → (b : Base) → is_meant (form_of S b) ≡ true → is_fine file scope (base_name S b) ≡ true
  unfolding meaning_of_word lib.Utf8.encode
  base_fine file scope s in_file b m = by b m where
    word : (is : List Ident) (r : Resolved) → own_meaning is ≡ Some r → (not (is_unknown (Some r)) && not (is_left_out (declarations files) (Some r))) ≡ true → is_fine file scope is ≡ true
    word is r e fine =
        let es = declarations files in
        ap (λ o. not (is_unknown o) && not (is_left_out es o)) (ap (λ o. elim o as (λ _. Option Resolved) [ None ↦ None | Some f ↦ meaning_in_file es f scope is ]) in_file ∙ ap (λ o. or_else o (first_declared es (candidates es s scope is))) e) ∙ fine

    by : (b : Base) → is_meant (form_of S b) ≡ true → is_fine file scope (base_name S b) ≡ true
    by base.Boolean m = word (ident (codes "boolean") ∷ []) (Builtin built_in.Boolean) refl refl
    by base.Byte m = word (ident (codes "byte") ∷ []) (Builtin built_in.Byte) refl refl
    by base.Char m = word (ident (codes "char") ∷ []) (Builtin built_in.Char) refl refl
    by base.Int m = word (ident (codes "int") ∷ []) (Builtin built_in.Int) refl refl
    by base.Long m = word (ident (codes "long") ∷ []) (Builtin built_in.Long) refl refl
    by base.Text m = word (ident (codes "String") ∷ []) (Builtin built_in.Text) refl refl
    by (base.Named n) m = named_fine file scope s in_file n (slice_get S n) refl m

  pub list_fine : (file scope : ℕ) (s : Source) → slice_get files file ≡ Some s → is_fine file scope (ident (codes "List") ∷ []) ≡ true
  unfolding meaning_of_word lib.Utf8.encode
  list_fine file scope s in_file =
      let es = declarations files in let is = ident (codes "List") ∷ [] in
      ap (λ o. not (is_unknown o) && not (is_left_out es o)) (ap (λ o. elim o as (λ _. Option Resolved) [ None ↦ None | Some f ↦ meaning_in_file es f scope is ]) in_file)
