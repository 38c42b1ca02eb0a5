-- Rows of members: the fields by their names, and the text that a row prints.
use Rattle.std.proofs.Common.{◌≡◌, ◌+◌, ◌<◌, ℕ, false, true, Bool, List, [], ◌∷◌, ◌++◌, length, drop, get_or, add-one, Ordering, Less, Equal, Greater, option_map, slice_get, Some, string_bytes, refl, sym, ap, subst, ◌∙◌, append_assoc}
use Rattle.std.proofs.lemmas.List.{append-nil, drop_more}
use Rattle.std.proofs.lemmas.List.Elements.{All-push}
use Rattle.std.proofs.lemmas.Option.{slice_get_read}
use Rattle.std.specs.List.{All}
use Rattle.std.specs.Borrow.{Bor}
use Rattle.std.specs.BTreeMap.{insert_entry}
use Rattle.std.specs.Cmp.Lexicographic.{slice_cmp}
use Rattle.std.specs.Ordering.{nat_cmp, match_ordering}
use Rattle.serde_json.specs.Data.{Data, put, string}
use Rattle.serde_json.specs.Written.{comma_if, compact_text, members_text}
use Rattle.aidl_schema.specs.declared.schema.Field.{Field}
use Rattle.json_writing.specs.Named.{bytes_of}
use Rattle.json_writing.specs.declared.members.Member.{Member}
use Rattle.json_writing.specs.steps.Members.{IsOf, members_from, row_text}
use Rattle.json_writing.specs.steps.Places.{LieWithin, Placed, members_at}

-- the fields from a place on
abbrev pub ArePlacedFrom : List Field → ℕ → List Placed → Type 0
ArePlacedFrom fs i es = ((part : ℕ → Data) → members_at part es ≡ members_from part i (drop i fs)) × LieWithin (length fs) es

abbrev order : Bor (List ℕ) → Bor (List ℕ) → Ordering
order x y = slice_cmp nat_cmp x.now y.now

by_order : (part : ℕ → Data) (o : Ordering) (a b c : List Placed) → members_at part (match_ordering o a b c) ≡ match_ordering o (members_at part a) (members_at part b) (members_at part c)
by_order part Less a b c = refl
by_order part Equal a b c = refl
by_order part Greater a b c = refl

put_in : (part : ℕ → Data) (es : List Placed) (name : Bor (List ℕ)) (i : ℕ) → members_at part (insert_entry order es name i) ≡ put name.now (part i) (members_at part es)
put_in part [] name i = refl
put_in part (e ∷ es) name i = by_order part (order name e.0) _ _ _ ∙ rw (put_in part es name i) refl

either_within : (n : ℕ) (o : Ordering) (a b c : List Placed) → LieWithin n a → LieWithin n b → LieWithin n c → LieWithin n (match_ordering o a b c)
either_within n Less a b c x y z = x
either_within n Equal a b c x y z = y
either_within n Greater a b c x y z = z

within_in : (n : ℕ) (es : List Placed) (name : Bor (List ℕ)) (i : ℕ) → i < n → LieWithin n es → LieWithin n (insert_entry order es name i)
within_in n [] name i lies all = (lies, tt)
within_in n (e ∷ es) name i lies all =
    either_within n (order name e.0) ((name, i) ∷ e ∷ es) ((e.0, i) ∷ es) (e ∷ insert_entry order es name i) (lies, all) (lies, all.1) (all.0, within_in n es name i lies all.1)

-- a field goes in before those behind it
pub entered : (fs : List Field) (i : ℕ) (f : Field) (name : Bor (List ℕ)) (later now : List Placed) → i < length fs → f ≡ get_or fs i f → name.now ≡ bytes_of f.name
    → now ≡ insert_entry order later name i → ArePlacedFrom fs (i + 1) later → ArePlacedFrom fs i now
entered fs i f name later now lies is called new rest = (
  λ part.
      ap (members_at part) new ∙ put_in part later name i ∙ ap (put name.now (part i)) (rest.0 part) ∙ ap (λ (n : List ℕ). put n (part i) (members_from part (i + 1) (drop (i + 1) fs))) called
      ∙ ap (λ (k : ℕ). put (bytes_of f.name) (part i) (members_from part k (drop (i + 1) fs))) (add-one i)
      ∙ sym (ap (members_from part i) (drop_more fs i f lies ∙ ap (λ (g : Field). g ∷ drop (i + 1) fs) (sym is))),
  subst (LieWithin (length fs)) (sym new) (within_in (length fs) later name i lies rest.1),
)

-- the row so far, and the fields that are left
abbrev pub InOrder : List Field → List Member → Bool → List Placed → Type 0
InOrder fs row later rest = ((part : ℕ → Data) → row_text (λ m. compact_text (part m.place)) row ++ members_text later (members_at part rest) ≡ members_text false (members_from part 0 fs))
    × All (IsOf fs) row × LieWithin (length fs) rest

row_text-more : (text : Member → List ℕ) (row : List Member) (m : Member) → row_text text (row ++ m ∷ []) ≡ row_text text row ++ (string_bytes m.key ++ text m)
row_text-more text [] m = ap (λ (e : List ℕ). string_bytes m.key ++ e) (append-nil (text m))
row_text-more text (x ∷ row) m =
    ap (λ (e : List ℕ). string_bytes x.key ++ (text x ++ e)) (row_text-more text row m)
    ∙ sym (append_assoc (string_bytes x.key) (text x ++ row_text text row) (string_bytes m.key ++ text m)
    ∙ ap (λ (e : List ℕ). string_bytes x.key ++ e) (append_assoc (text x) (row_text text row) (string_bytes m.key ++ text m)))

regroup : (row comma key part others : List ℕ) → (row ++ ((comma ++ (key ++ 58 ∷ [])) ++ part)) ++ others ≡ row ++ (comma ++ (key ++ 58 ∷ (part ++ others)))
regroup row comma key part others = simp append_assoc refl

-- the field that comes next is one of the fields
pub lies_next : (fs : List Field) (es rest : List Placed) (e : Placed) → es ≡ e ∷ rest → LieWithin (length fs) es → e.1 < length fs
lies_next fs es rest e is lies = (subst (LieWithin (length fs)) is lies).0

-- one member more, of a field
pub went_on : (fs : List Field) (row now : List Member) (later : Bool) (es rest : List Placed) (e : Placed) (f : Field) (m : Member) → es ≡ e ∷ rest → now ≡ row ++ m ∷ []
    → f ≡ get_or fs e.1 f → string_bytes m.key ≡ comma_if later ++ (compact_text (string e.0.now) ++ 58 ∷ []) → m.place ≡ e.1 → m.ty ≡ f.ty → InOrder fs row later es → InOrder fs now true rest
went_on fs row now later es rest e f m is new here key place typed so_far =
    let left : LieWithin (length fs) (e ∷ rest) = subst (LieWithin (length fs)) is so_far.2 in
    let there : slice_get fs e.1 ≡ Some f = slice_get_read fs (length fs) e.1 f refl left.0 here in
    let of : IsOf fs m = ap (λ i. option_map (λ (g : Field). g.ty) (slice_get fs i)) place ∙ ap (option_map (λ (g : Field). g.ty)) there ∙ ap Some (sym typed) in (
      λ part.
          let text : Member → List ℕ = λ x. compact_text (part x.place) in
          let others = members_text true (members_at part rest) in
          ap (λ r. row_text text r ++ others) new ∙ ap (λ (t : List ℕ). t ++ others) (row_text-more text row m)
          ∙ ap (λ (k : List ℕ). (row_text text row ++ (k ++ text m)) ++ others) key
          ∙ ap (λ (i : ℕ). (row_text text row ++ ((comma_if later ++ (compact_text (string e.0.now) ++ 58 ∷ [])) ++ compact_text (part i))) ++ others) place
          ∙ regroup (row_text text row) (comma_if later) (compact_text (string e.0.now)) (compact_text (part e.1)) others
          ∙ sym (ap (λ all. row_text text row ++ members_text later (members_at part all)) is) ∙ so_far.0 part,
      subst (All (IsOf fs)) (sym new) (All-push (IsOf fs) row m so_far.1 of),
      left.1,
    )
