-- What is noted of a record's body.
use Rattle.std.proofs.Common.{◌≡◌, ℕ, ℤ, ◌-◌, ◌≤◌, ◌++◌, ◌∷◌, [], ◌≢◌, ◌↔◌, IsTrue, Bool, true, false, List, take, drop, length, Result, Ok, Err, refl, sym, ap, ◌∙◌, arith, append-nil, length-drop}
use Rattle.std.proofs.lemmas.List.{length-take-le}
use Rattle.aidl_base.specs.Readings.{Read, ◌>>=◌, bad_value, not_enough, unexpected_null}
use Rattle.aidl_schema.specs.declared.schema.AidlType.{AidlType}
use Rattle.aidl_schema.specs.declared.schema.Field.{Field}
use Rattle.parcel_words.specs.Place.{Place, left, limit, closed, is_inside, Enters, MovesOn}
use Rattle.parcel_words.specs.Place as place
use Rattle.parcel_words.specs.Taken.{Refuses}
use Rattle.parcel_words.specs.declared.fault.ReadFault.{ReadFault}
use Rattle.parcel_words.specs.declared.fault.ReadFault.TheVariants.{NotEnough, UnexpectedNull, BadValue, OutOfMemory}
use Rattle.wire_model.specs.ReadOf.{body_at}
use Rattle.parcel_explain.specs.declared.item.Item.{Item}
use Rattle.parcel_explain.specs.declared.item.ItemKind.TheVariants as kind
use Rattle.parcel_explain.specs.declared.noting.Stopped.{Stopped}
use Rattle.parcel_explain.specs.declared.noting.Stopped.TheVariants as stopped
use Rattle.parcel_explain.specs.Items.{body_items, fields_items, tail_item}
use Rattle.parcel_explain.specs.Marks.{size_at}
use Rattle.parcel_explain.specs.Noted.{Notes, Part, Wrong, before, behind, part, part_of_some, noted_as, then_noted}
use Rattle.parcel_explain.specs.steps.Notes.{IsWrong, Tells, done, unplaced, unplaced_some}
use Rattle.parcel_explain.proofs.Lengths.{length_before, some_noted}
use Rattle.parcel_words.proofs.lemmas.Records.{after_size, entered_some}
use Rattle.parcel_explain.proofs.Records.{body_steps, body_is}
use Rattle.parcel_explain.proofs.Steps.{ends_told, more_items, of_parts}

module _ (note : AidlType → List ℕ → List ℕ → Notes) (path : List ℕ) (fs : List Field) where
  abbrev with_inner : List ℕ → Read (List ℕ × List ℕ) → Notes
  with_inner b size = then_noted (noted_as path kind.Size b size).parts (noted_as path kind.Size b size).found (λ z. then_noted (fields_items note path fs z.0.0).parts (fields_items note path fs z.0.0).found (λ rest. tail_item path rest.1 z.0.1))

  body_by : (inside : Bool) (b : List ℕ) (size : Read (List ℕ × List ℕ)) → size_at inside b ≡ size → body_items note path fs inside b ≡ with_inner b size
  unfolding body_items
  body_by inside b size e = ap (with_inner b) e

  as_size : List ℕ → Read (List ℕ) → Read (List ℕ × List ℕ)
  as_size b body = body >>= λ x. Ok ((x.0, x.1), drop 4 b)

  sizes : (inside : Bool) (b : List ℕ) → size_at inside b ≡ as_size b (body_at inside b)
  unfolding size_at as_size
  sizes inside b = refl

  refused_size : (inside : Bool) (b : List ℕ) (s : ℤ) → place.size_at inside b ≡ Err s → size_at inside b ≡ Err s
  unfolding as_size
  refused_size inside b s e = sizes inside b ∙ ap (as_size b) (body_steps inside b ∙ ap after_size e)

  no_body_as : (inside : Bool) (b rest at : List ℕ) (s status : ℤ) (items : List Item) → place.size_at inside b ≡ Err s → at ≡ path → s ≡ status
      → Tells {T = Unit {0}} done (Err (stopped.Wrong at status)) (body_items note path fs inside b) rest items items
  no_body_as inside b rest at s status items e p is =
      let wrong : ◌≡◌ {A = Wrong} (record { path = path; status = s }) (record { path = at; status = status }) = cc in
      let whole : body_items note path fs inside b ≡ record { parts = []; found = Err (record { path = path; status = s }) } = body_by inside b (Err s) (refused_size inside b s e) in (
        ap (λ (n : Notes). n.found) whole ∙ ap (λ (w : Wrong). Err w) wrong,
        sym (append-nil items) ∙ ap (λ (n : Notes). items ++ of_parts n.parts) (sym whole),
      )

  -- a size that is refused
  pub no_body : (inside : Bool) (b rest : List ℕ) (fault : ReadFault) (stop : Stopped) (items : List Item) → Refuses fault (place.size_at inside b) → IsWrong path fault stop
      → Tells {T = Unit {0}} done (Err stop) (body_items note path fs inside b) rest items items
  no_body inside b rest NotEnough (stopped.Wrong at status) items h k = let is : not_enough ≡ status = cc in no_body_as inside b rest at not_enough status items h k.0 is
  no_body inside b rest UnexpectedNull (stopped.Wrong at status) items h k = let is : unexpected_null ≡ status = cc in no_body_as inside b rest at unexpected_null status items h k.0 is
  no_body inside b rest BadValue (stopped.Wrong at status) items h k = let is : bad_value ≡ status = cc in no_body_as inside b rest at bad_value status items h k.0 is
  no_body inside b rest OutOfMemory (stopped.Wrong at status) items h k = absurd h
  no_body inside b rest fault stopped.OutOfMemory items h k = (tt, tt)

  -- a record that was entered at p, and left when the reader was at r
  module _ (p q r : Place) (enters : Enters p q) (on : MovesOn q r) where
    abbrev fields : Notes
    fields = fields_items note path fs (left q)

    abbrev size_part : List Part
    size_part = part path kind.Size (before (drop 4 (left p)) (left p))

    sized : size_at (is_inside p) (left p) ≡ Ok ((left q, left (closed r)), drop 4 (left p))
    unfolding as_size
    sized = sizes (is_inside p) (left p) ∙ ap (as_size (left p)) (body_is p q r enters on)

    abbrev by_fields : Result (Unit {0} × List ℕ) Wrong → Notes
    by_fields found = behind size_part (then_noted fields.parts found (λ rest. tail_item path rest.1 (left (closed r))))

    whole : body_items note path fs (is_inside p) (left p) ≡ by_fields fields.found
    whole = body_by (is_inside p) (left p) _ sized

    size_is : of_parts size_part ≡ unplaced path kind.Size 4 ∷ []
    size_is =
        let some : 4 ≤ length (left p) = entered_some p q enters in
        let long : length (before (drop 4 (left p)) (left p)) ≡ 4 = length_before (drop 4 (left p)) (left p) ∙ omega (arith, length-drop 4 (left p), some) in
        ap (λ n. unplaced path kind.Size n ∷ []) long

    -- fields that are wrong
    pub body_ends : (stop : Stopped) (old mid now : List Item) (rest : List ℕ) → mid ≡ old ++ unplaced path kind.Size 4 ∷ [] → Tells {T = Unit {0}} done (Err stop) fields rest mid now
        → Tells {T = Unit {0}} done (Err stop) (body_items note path fs (is_inside p) (left p)) rest old now
    body_ends stop old mid now rest first h =
        ends_told (body_items note path fs (is_inside p) (left p)) fields size_part old mid now rest stop (λ w e. whole ∙ ap by_fields e) (first ∙ ap (λ z. old ++ z) (sym size_is)) h

    -- the whole body
    pub body_told : (old mid then_items now : List Item) (n : ℕ) → mid ≡ old ++ unplaced path kind.Size 4 ∷ [] → Tells done (Ok tt) fields (left r) mid then_items
        → n ≡ length (left r) → now ≡ then_items ++ unplaced_some path kind.Tail n
        → Tells done (Ok tt) (body_items note path fs (is_inside p) (left p)) (left (closed r)) old now
    body_told old mid then_items now n first h long last =
        let is : body_items note path fs (is_inside p) (left p) ≡ record { parts = size_part ++ (fields.parts ++ part_of_some path kind.Tail (left r)); found = Ok (tt, left (closed r)) } = whole ∙ ap by_fields h.0 in
        let tail : now ≡ then_items ++ of_parts (part_of_some path kind.Tail (left r)) = last ∙ ap (λ k. then_items ++ unplaced_some path kind.Tail k) long ∙ ap (λ z. then_items ++ z) (sym (some_noted path kind.Tail (left r))) in
        let opened : mid ≡ old ++ of_parts size_part = first ∙ ap (λ z. old ++ z) (sym size_is) in (
          ap (λ (x : Notes). x.found) is,
          more_items old mid now size_part (fields.parts ++ part_of_some path kind.Tail (left r)) opened (more_items mid then_items now fields.parts (part_of_some path kind.Tail (left r)) h.1 tail)
              ∙ ap (λ (x : Notes). old ++ of_parts x.parts) (sym is),
        )

-- the bytes that are left, as positions
pub left_long : (p : Place) (end start : ℕ) → end ≡ limit p → start ≡ p.position → limit p ≤ length p.bytes → end - start ≡ length (left p)
left_long p end start e s le = let len : length (left p) ≡ limit p - p.position = length-drop p.position (take (limit p) p.bytes) ∙ ap (λ n. n - p.position) (length-take-le (limit p) p.bytes le) in omega (arith, len, e, s)

-- bytes that are left where the record isn't at its end
pub some_left : (end : Bool) (b : List ℕ) → (IsTrue end ↔ (b ≡ [])) → end ≡ false → b ≢ []
some_left true b h e = absurd cc
some_left false b h e = λ none. let same : IsTrue false = h.1 none in absurd cc
