-- Members by their names.
use Rattle.std.proofs.Common.{◌≡◌, ◌<◌, ◌≤◌, ◌+◌, ℕ, zero, suc, Bool, true, false, cond, List, [], ◌∷◌, ◌++◌, map, length, get_or, take, drop, drop-cons, add-one, Option, Some, None, option_map, refl, sym, ◌∙◌, ap}
use Rattle.std.specs.List.{find, slice_get}
use Rattle.std.specs.Str.{bytes_eq}
use Rattle.std.proofs.lemmas.List.{map-append}
use Rattle.std.proofs.lemmas.Option.{slice_get_read, slice_get_past, slice_get-map}
use Rattle.aidl_base.specs.declared.name.Ident.{Ident}
use Rattle.aidl_syntax.specs.Trees.{map_option}
use Rattle.aidl_syntax.specs.Members.{Member, member_name}
use Rattle.declared_names.specs.declared.member_refs.MemberRef.{MemberRef}
use Rattle.declared_names.specs.Called.{is_called, called, called_at}
use Rattle.declared_names.specs.Declarations.{Entry}
use Rattle.declared_names.specs.MemberViews.{seen_member}
use Rattle.declared_names.specs.Names.{text}
use Rattle.declared_names.proofs.lemmas.Earlier.{take-next}

-- one more member goes in before the others
pub goes_before : (ms : List MemberRef) (i j : ℕ) (x : MemberRef) (name bytes : List ℕ) (old : Option MemberRef) → i ≡ j + 1 → j < length ms → x ≡ get_or ms j x
    → name ≡ text (member_name (seen_member x)).name → map_option seen_member old ≡ find (is_called bytes) (map seen_member (drop i ms))
    → map_option seen_member (cond (bytes_eq name bytes) (Some x) old) ≡ find (is_called bytes) (map seen_member (drop j ms))
goes_before ms i j x name bytes old next lt is n h =
    go (bytes_eq name bytes) (ap (λ z. bytes_eq z bytes) (sym n)) ∙ sym (ap (λ ys. find (is_called bytes) (map seen_member ys)) at) where
      at : drop j ms ≡ x ∷ drop i ms
      at = drop-cons ms j x lt ∙ ap (λ y. y ∷ drop (suc j) ms) (sym is) ∙ ap (λ (k : ℕ). x ∷ drop k ms) (sym (add-one j) ∙ sym next)

      go : (b : Bool) → is_called bytes (seen_member x) ≡ b → map_option seen_member (cond b (Some x) old) ≡ cond (is_called bytes (seen_member x)) (Some (seen_member x)) (find (is_called bytes) (map seen_member (drop i ms)))
      go true e = ap (λ b. cond b (Some (seen_member x)) (find (is_called bytes) (map seen_member (drop i ms)))) (sym e)
      go false e = h ∙ ap (λ b. cond b (Some (seen_member x)) (find (is_called bytes) (map seen_member (drop i ms)))) (sym e)

-- What tables have for a name.

abbrev has : Option (Ident → Option Member) → Ident → Option Member
has None name = None
has (Some table) name = table name

at_number : (tables : List (Ident → Option Member)) (es : List Entry) (number : ℕ) (name : Ident) → tables ≡ map called es → has (slice_get tables number) name ≡ called_at es number name
at_number tables es number name e = ap (λ (ts : List (Ident → Option Member)). has (slice_get ts number) name) e ∙ go es number where
  go : (ds : List Entry) (n : ℕ) → has (slice_get (map called ds) n) name ≡ called_at ds n name
  go [] n = refl
  go (d ∷ ds) zero = refl
  go (d ∷ ds) (suc n) = go ds n

-- what is made of one more is one more
pub one_more : {X Y Z W : Type 0} (f : X → W) (g : Z → W) (h : Y → Z) (ys : List Y) (i : ℕ) (y : Y) (x : X) (xs more : List X) → map f xs ≡ map g (map h (take i ys)) → i < length ys → y ≡ get_or ys i y
    → f x ≡ g (h y) → more ≡ xs ++ x ∷ [] → map f more ≡ map g (map h (take (i + 1) ys))
one_more f g h ys i y x xs more e lt is same m =
    ap (map f) m ∙ map-append f xs (x ∷ []) ∙ ap (λ z. z ++ f x ∷ []) e ∙ ap (λ w. map g (map h (take i ys)) ++ w ∷ []) same
    ∙ sym (map-append g (map h (take i ys)) (h y ∷ [])) ∙ ap (map g) (sym (map-append h (take i ys) (y ∷ [])))
    ∙ ap (λ z. map g (map h z)) (sym (ap (λ (j : ℕ). take j ys) (add-one i) ∙ take-next ys i y lt is))

module _ {T : Type 0} (seen : T → Ident → Option Member) (ts : List T) (es : List Entry) (number : ℕ) (name : Ident) (all : map seen ts ≡ map called es) where
  by_number : has (option_map seen (slice_get ts number)) name ≡ called_at es number name
  by_number = ap (λ o. has o name) (sym (slice_get-map seen ts number)) ∙ at_number (map seen ts) es number name all

  -- the table with a number
  pub has_table : (t : T) → number < length ts → t ≡ get_or ts number t → seen t name ≡ called_at es number name
  has_table t lt is = ap (λ o. has (option_map seen o) name) (sym (slice_get_read ts (length ts) number t refl lt is)) ∙ by_number

  -- beyond the last
  pub has_none : length ts ≤ number → None ≡ called_at es number name
  has_none le = ap (λ o. has (option_map seen o) name) (sym (slice_get_past ts number le)) ∙ by_number
