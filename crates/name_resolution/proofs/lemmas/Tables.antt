-- Looking up by marks: what a place leaves out has another mark, so another name.
use Rattle.std.proofs.Common.{◌≡◌, ◌<◌, ◌+◌, ℕ, zero, suc, Bool, true, false, cond, nat_eq, List, [], ◌∷◌, ◌++◌, map, length, drop, get_or, add-one, Option, Some, refl, sym, ◌∙◌, ap, subst, arith, eq-eqb}
use Rattle.std.specs.List.{fold, position_from}
use Rattle.std.specs.Str.{bytes_eq}
use Rattle.std.proofs.lemmas.Bool.{and_parts}
use Rattle.std.proofs.lemmas.Slice.Eq.{bytes_eq-Decides}
use Rattle.std.proofs.lemmas.List.Sums.{fold-append}
use Rattle.aidl_base.specs.declared.name.Ident.{Ident}
use Rattle.declared_names.specs.Names.{text, same}
use Rattle.declared_names.specs.Declarations.{Entry}
use Rattle.name_resolution.specs.Resolution.{number_of}
use Rattle.declared_names.specs.declared.found.Found.{Found}
use Rattle.declared_names.specs.Entries.{entry_of}
use Rattle.declared_names.proofs.lemmas.Chains.{left_at, HasMark, skip, marked}
use Rattle.std.proofs.lemmas.List.{length-map, drop-map}
use Rattle.declared_names.specs.Marks.{with_byte, with_part, mark_of, mark_of_entry}

-- names that are the same have the same mark
pub same_marks : (m : ℕ) (a b : List Ident) → same a b ≡ true → fold with_part m a ≡ fold with_part m b
same_marks m [] [] e = refl
same_marks m [] (y ∷ ys) e = cc
same_marks m (x ∷ xs) [] e = cc
same_marks m (x ∷ xs) (y ∷ ys) e =
    let p = and_parts (bytes_eq (text x) (text y)) (same xs ys) e in
    let q : text x ≡ text y = (bytes_eq-Decides (text x) (text y)).0 p.0 in
    same_marks (with_part m x) xs ys p.1 ∙ ap (λ (t : List ℕ). fold with_part (with_byte (fold with_byte m t) 46) ys) q

-- The look-up of a name, over declarations as they were found.
abbrev pub is_called : List Ident → Entry → Bool
is_called name e = same e.name name

by_mark : (name : List Ident) (e : Entry) → is_called name e ≡ true → nat_eq (mark_of name) (mark_of_entry e) ≡ true
by_mark name e h = eq-eqb (mark_of name) (mark_of_entry e) (sym (same_marks 0 e.name name h))

pub started : (found : List Found) (marks : List ℕ) (front back : List Ident) (mark result : ℕ) (first : Option ℕ) → marks ≡ map mark_of_entry (map entry_of found) → mark ≡ mark_of front
    → result ≡ fold with_part mark back → first ≡ position_from (nat_eq result) 0 marks
    → (left_at (is_called (front ++ back)) (map entry_of found) first ≡ number_of (map entry_of found) (front ++ back)) × HasMark marks (mark_of (front ++ back)) first
started found marks front back mark result first m k r f =
    let es = map entry_of found in
    let w : result ≡ mark_of (front ++ back) = r ∙ ap (λ (z : ℕ). fold with_part z back) k ∙ sym (fold-append with_part 0 front back) in
    let g : first ≡ position_from (nat_eq (mark_of (front ++ back))) 0 marks = f ∙ ap (λ (z : ℕ). position_from (nat_eq z) 0 marks) w in
    let P : Option ℕ → Type 0 = HasMark marks (mark_of (front ++ back)) in (
      ap (left_at (is_called (front ++ back)) es) (g ∙ ap (position_from (nat_eq (mark_of (front ++ back))) 0) m) ∙ skip (is_called (front ++ back)) mark_of_entry (mark_of (front ++ back)) (by_mark (front ++ back)) es es 0 refl,
      subst P (sym g) (marked (mark_of (front ++ back)) marks marks 0 refl),
    )

here : (found : List Found) (i : ℕ) (f : Found) → i < length found → f ≡ get_or found i f → drop i (map entry_of found) ≡ entry_of f ∷ drop (suc i) (map entry_of found)
here [] i f lt is = absurd (omega arith)
here (g ∷ found) zero f lt is = ap (λ z. entry_of z ∷ map entry_of found) (sym is)
here (g ∷ found) (suc i) f lt is = here found i f (omega arith) is

pub landed : (found : List Found) (name : List Ident) (at : Option ℕ) (i : ℕ) (f : Found) (all : Option ℕ) → at ≡ Some i → i < length found → f ≡ get_or found i f
    → left_at (is_called name) (map entry_of found) at ≡ all → same f.name.0 name ≡ true → Some i ≡ all
landed found name at i f all a lt is rest holds =
    sym (ap (λ b. cond b (Some i) (position_from (is_called name) (i + 1) (drop (suc i) (map entry_of found)))) holds)
    ∙ sym (ap (position_from (is_called name) i) (here found i f lt is)) ∙ sym (ap (left_at (is_called name) (map entry_of found)) a) ∙ rest

pub within : (found : List Found) (marks : List ℕ) (mark : ℕ) (at : Option ℕ) (i : ℕ) → marks ≡ map mark_of_entry (map entry_of found) → at ≡ Some i → HasMark marks mark at → (i < length found) × (i < length marks) × (get_or marks i 0 ≡ mark)
within found marks mark at i m a h =
    let P : Option ℕ → Type 0 = HasMark marks mark in
    let q = subst P a h in
    let l : length marks ≡ length found = ap length m ∙ length-map (map entry_of found) mark_of_entry ∙ length-map found entry_of in
    (omega (arith, q.0, l), q.0, q.1)

pub went_on : (found : List Found) (marks : List ℕ) (name : List Ident) (at next : Option ℕ) (i : ℕ) (f : Found) (all : Option ℕ) → marks ≡ map mark_of_entry (map entry_of found)
    → at ≡ Some i → i < length found → f ≡ get_or found i f → get_or marks i 0 ≡ mark_of name → left_at (is_called name) (map entry_of found) at ≡ all → same f.name.0 name ≡ false
    → next ≡ position_from (nat_eq (get_or marks i 0)) (i + 1) (drop (i + 1) marks)
    → (left_at (is_called name) (map entry_of found) next ≡ all) × HasMark marks (mark_of name) next
went_on found marks name at next i f all m a lt is g rest fails n =
    let es = map entry_of found in
    let p = is_called name in
    let k : next ≡ position_from (nat_eq (mark_of name)) (i + 1) (drop (i + 1) marks) = n ∙ ap (λ (z : ℕ). position_from (nat_eq z) (i + 1) (drop (i + 1) marks)) g in
    let d : drop (i + 1) marks ≡ map mark_of_entry (drop (i + 1) es) = ap (drop (i + 1)) m ∙ drop-map mark_of_entry (i + 1) es in
    let P : Option ℕ → Type 0 = HasMark marks (mark_of name) in (
      ap (left_at p es) (k ∙ ap (position_from (nat_eq (mark_of name)) (i + 1)) d) ∙ skip p mark_of_entry (mark_of name) (by_mark name) es (drop (i + 1) es) (i + 1) refl
          ∙ ap (λ (j : ℕ). position_from p (i + 1) (drop j es)) (add-one i)
          ∙ sym (ap (λ b. cond b (Some i) (position_from p (i + 1) (drop (suc i) es))) fails)
          ∙ sym (ap (position_from p i) (here found i f lt is)) ∙ sym (ap (left_at p es) a) ∙ rest,
      subst P (sym k) (marked (mark_of name) marks (drop (i + 1) marks) (i + 1) refl),
    )

-- the mark of a declaration
pub mark_at : (found : List Found) (marks : List ℕ) (i : ℕ) (f : Found) → marks ≡ map mark_of_entry (map entry_of found) → i < length found → f ≡ get_or found i f → get_or marks i 0 ≡ mark_of f.name.0
mark_at found marks i f m lt is = ap (λ (z : List ℕ). get_or z i 0) m ∙ go found i lt is where
  go : (fs : List Found) (j : ℕ) → j < length fs → f ≡ get_or fs j f → get_or (map mark_of_entry (map entry_of fs)) j 0 ≡ mark_of f.name.0
  go [] j l e = absurd (omega arith)
  go (g ∷ fs) zero l e = ap (λ z. mark_of z.name.0) (sym e)
  go (g ∷ fs) (suc j) l e = go fs j (omega arith) e
