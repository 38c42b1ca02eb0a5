-- All items of a parcel, from the parts that are noted.
use Rattle.std.proofs.Common.{◌≡◌, ℕ, suc, ◌+◌, ◌-◌, ◌<◌, ◌≤◌, Bool, false, List, [], ◌∷◌, ◌++◌, length, drop, get_or, add-one, drop-cons, Result, Ok, Err, refl, sym, ap, ◌∙◌, subst, arith, append_assoc, length-append, length-drop, ℤ}
use Rattle.std.proofs.lemmas.List.{drop_all, take_all}
use Rattle.aidl_base.specs.declared.profile.Profile.TheVariants.{Strict}
use Rattle.parcel_words.specs.Place.{Place, left}
use Rattle.std.specs.Fmt.{decimal}
use Rattle.aidl_schema.specs.declared.schema.AidlType.{AidlType}
use Rattle.aidl_schema.specs.declared.schema.Decl.{Decl}
use Rattle.parcel_explain.specs.declared.item.Item.{Item}
use Rattle.parcel_explain.specs.declared.item.ItemKind.{ItemKind}
use Rattle.parcel_explain.specs.declared.item.ItemKind.TheVariants as kind
use Rattle.parcel_explain.specs.declared.noting.Stopped.{Stopped}
use Rattle.parcel_explain.specs.Items.{below, explained, items_of, last_part, placed, values_items}
use Rattle.parcel_explain.specs.Noted.{Notes, Part, Wrong, behind, joined, part_of_some, then_noted}
use Rattle.parcel_explain.specs.steps.Notes.{Tells, done}
use Rattle.parcel_explain.specs.steps.Offsets.{at_offsets, some_at, total}
use Rattle.parcel_explain.proofs.lemmas.Joins.{parts_join}
use Rattle.parcel_explain.proofs.Steps.{behind_twice, ends_told, more_items, of_parts}

pub at_parts : (n : ℕ) (ps : List Part) → at_offsets n (of_parts ps) ≡ placed n ps
at_parts n [] = refl
at_parts n (p ∷ ps) = ap (λ is. record { offset = n; length = length p.bytes; path = p.path; kind = p.kind } ∷ is) (at_parts (n + length p.bytes) ps)

pub total_parts : (ps : List Part) → total (of_parts ps) ≡ length (joined ps)
total_parts [] = refl
total_parts (p ∷ ps) = ap (λ k. length p.bytes + k) (total_parts ps) ∙ sym (length-append p.bytes (joined ps))

joined_append : (ps qs : List Part) → joined (ps ++ qs) ≡ joined ps ++ joined qs
joined_append [] qs = refl
joined_append (p ∷ ps) qs = ap (λ b. p.bytes ++ b) (joined_append ps qs) ∙ sym (append_assoc p.bytes (joined ps) (joined qs))

placed_append : (n : ℕ) (ps qs : List Part) → placed n (ps ++ qs) ≡ placed n ps ++ placed (n + length (joined ps)) qs
placed_append n [] qs = let k : n ≡ n + 0 = omega arith in ap (λ m. placed m qs) k
placed_append n (p ∷ ps) qs =
    let k : n + length p.bytes + length (joined ps) ≡ n + length (p.bytes ++ joined ps) = omega (arith, length-append p.bytes (joined ps)) in
    ap (λ is. record { offset = n; length = length p.bytes; path = p.path; kind = p.kind } ∷ is) (placed_append (n + length p.bytes) ps qs ∙ ap (λ m. placed (n + length p.bytes) ps ++ placed m qs) k)

placed_some : (n : ℕ) (path : List ℕ) (kind : ItemKind) (bytes : List ℕ) → placed n (part_of_some path kind bytes) ≡ some_at n path kind (length bytes)
placed_some n path kind [] = refl
placed_some n path kind (x ∷ bytes) = refl

-- What is noted of all values, and the items that were made of it.
module _ (S : List Decl) (ts : List AidlType) (b : List ℕ) where
  abbrev noted : Notes
  noted = values_items S 0 ts b

  abbrev behind_parts : List ℕ
  behind_parts = drop (length (joined noted.parts)) b

  by_last : (found : Result (Unit {0} × List ℕ) Wrong) → noted.found ≡ found → explained S ts b ≡ placed 0 noted.parts ++ placed (length (joined noted.parts)) (last_part behind_parts found)
  by_last found e = let k : 0 + length (joined noted.parts) ≡ length (joined noted.parts) = omega arith in placed_append 0 noted.parts (last_part behind_parts noted.found) ∙ ap (λ m. placed 0 noted.parts ++ placed m (last_part behind_parts noted.found)) k ∙ ap (λ f. placed 0 noted.parts ++ placed (length (joined noted.parts)) (last_part behind_parts f)) e

  pub within_all : (items : List Item) → items ≡ of_parts noted.parts → total items ≤ length b
  within_all items e =
      let all : length (joined noted.parts) + length (joined (last_part behind_parts noted.found)) ≡ length b =
      sym (length-append (joined noted.parts) (joined (last_part behind_parts noted.found))) ∙ ap length (sym (joined_append noted.parts (last_part behind_parts noted.found)) ∙ parts_join S ts b) in
      let is : total items ≡ length (joined noted.parts) = ap total e ∙ total_parts noted.parts in
      omega (arith, all, is)

  abbrev count_behind : ℕ
  count_behind = length b - length (joined noted.parts)

  behind_is : length behind_parts ≡ count_behind
  behind_is = length-drop (length (joined noted.parts)) b

  module _ (items : List Item) (e : items ≡ of_parts noted.parts) where
    total_is : total items ≡ length (joined noted.parts)
    total_is = ap total e ∙ total_parts noted.parts

    first_is : at_offsets 0 items ≡ placed 0 noted.parts
    first_is = ap (at_offsets 0) e ∙ at_parts 0 noted.parts

    pub left_is : (rest : List ℕ) → noted.found ≡ Ok (tt, rest) → at_offsets 0 items ++ some_at (total items) [] kind.Left (length b - total items) ≡ explained S ts b
    left_is rest f =
        ap (λ n. at_offsets 0 items ++ some_at n [] kind.Left (length b - n)) total_is ∙ ap (λ is. is ++ some_at (length (joined noted.parts)) [] kind.Left count_behind) first_is
        ∙ ap (λ k. placed 0 noted.parts ++ some_at (length (joined noted.parts)) [] kind.Left k) (sym behind_is)
        ∙ ap (λ is. placed 0 noted.parts ++ is) (sym (placed_some (length (joined noted.parts)) [] kind.Left behind_parts)) ∙ sym (by_last (Ok (tt, rest)) f)

    abbrev stop_at : List ℕ → ℤ → ℕ → ℕ → List Item
    stop_at path status n k = record { offset = n; length = k; path = path; kind = kind.Stop status } ∷ []

    stop_is : (path : List ℕ) (status : ℤ) → noted.found ≡ Err (record { path = path; status = status }) → at_offsets 0 items ++ stop_at path status (total items) (length b - total items) ≡ explained S ts b
    stop_is path status f =
        ap (λ n. at_offsets 0 items ++ stop_at path status n (length b - n)) total_is ∙ ap (λ is. is ++ stop_at path status (length (joined noted.parts)) count_behind) first_is
        ∙ ap (λ k. placed 0 noted.parts ++ stop_at path status (length (joined noted.parts)) k) (sym behind_is) ∙ sym (by_last (Err (record { path = path; status = status })) f)

    -- the same, where the status is known by another name
    pub stop_known : (path : List ℕ) (status known : ℤ) → noted.found ≡ Err (record { path = path; status = status }) → known ≡ status
        → at_offsets 0 items ++ stop_at path known (total items) (length b - total items) ≡ explained S ts b
    stop_known path status known f is = stop_is path known (f ∙ ap (λ (s : ℤ). Err (record { path = path; status = s })) (sym is))

-- Values, one after the other.
module _ (S : List Decl) (total : Notes) (ps : List Part) (ts : List AidlType) (i : ℕ) (t : AidlType) (b : List ℕ) (so_far : behind ps (values_items S i (drop i ts) b) ≡ total) where
  pub values_done : length ts ≤ i → total ≡ record { parts = ps ++ []; found = Ok (tt, b) }
  values_done le = sym so_far ∙ ap (λ us. behind ps (values_items S i us b)) (drop_all i ts le)

  module _ (lt : i < length ts) (is : t ≡ get_or ts i t) (old mid : List Item) (first : mid ≡ old ++ of_parts ps) where
    abbrev one : Notes
    one = items_of S 64 t (below [] (decimal i)) false b

    abbrev others : List ℕ → Notes
    others c = values_items S (i + 1) (drop (i + 1) ts) c

    first_of : values_items S i (drop i ts) b ≡ then_noted one.parts one.found (λ x. others x.1)
    first_of = let next : drop i ts ≡ t ∷ drop (i + 1) ts = rw add-one (drop-cons ts i t lt ∙ ap (λ u. u ∷ drop (suc i) ts) (sym is)) in ap (λ us. values_items S i us b) next

    abbrev by_first : Result (Unit {0} × List ℕ) Wrong → Notes
    by_first f = behind ps (then_noted one.parts f (λ x. others x.1))

    pub value_end : (stop : Stopped) (rest : List ℕ) (now : List Item) → Tells {T = Unit {0}} done (Err stop) one rest mid now → Tells {T = Unit {0}} done (Err stop) total rest old now
    value_end stop rest now h = ends_told total one ps old mid now rest stop (λ w e. sym so_far ∙ ap (λ x. behind ps x) first_of ∙ ap by_first e) first h

    pub value_next : (rest : List ℕ) (now : List Item) → Tells done (Ok tt) one rest mid now → (qs : List Part) × (behind qs (others rest) ≡ total) × (now ≡ old ++ of_parts qs)
    value_next rest now h = (ps ++ one.parts, sym (behind_twice ps one.parts (others rest)) ∙ sym (ap (λ x. behind ps x) first_of ∙ ap by_first h.0) ∙ so_far, more_items old mid now ps one.parts first h.1)

-- the bytes that a new reader has before it are all
pub all_left : (S : List Decl) (ts : List AidlType) (b : List ℕ) (p : Place) → p ≡ record { profile = Strict; bytes = b; position = 0; ends = [] } → (Holds : Notes → Type 0)
    → Holds (values_items S 0 ts (left p)) → Holds (values_items S 0 ts b)
all_left S ts b p is Holds h = let all : left p ≡ b = ap left is ∙ take_all (length b) b (omega arith) in subst (λ c. Holds (values_items S 0 ts c)) all h

-- items that were added to none
pub from_none : (x : Notes) (none now : List Item) → none ≡ [] → now ≡ none ++ of_parts x.parts → now ≡ of_parts x.parts
from_none x none now is e = e ∙ ap (λ is. is ++ of_parts x.parts) is

pub item_here : (S : List Decl) (t : AidlType) (made path : List ℕ) (inside : Bool) (b : List ℕ) → made ≡ path → inside ≡ false → items_of S 64 t made inside b ≡ items_of S 64 t path false b
item_here S t made path inside b is outside = ap (λ q. items_of S 64 t q inside b) is ∙ ap (λ j. items_of S 64 t path j b) outside
