-- A record's body, in the words of the definition of reading.
use Rattle.std.proofs.Common.{◌≡◌, Bool, List, ℕ, Ok}
use Rattle.parcel_words.specs.Place.{Place, left, closed, size_at, is_inside, MovesOn, Enters}
use Rattle.wire_model.specs.ReadOf.{body_at}
use Rattle.parcel_words.proofs.lemmas.Records as cursor

pub body_steps : (inside : Bool) (b : List ℕ) → body_at inside b ≡ cursor.after_size (size_at inside b)
unfolding body_at
body_steps inside b = cursor.body_steps inside b

-- a record that was entered at p, and left when the reader was at r
pub body_is : (p q r : Place) → Enters p q → MovesOn q r → body_at (is_inside p) (left p) ≡ Ok (left q, left (closed r))
unfolding body_at
body_is p q r enters on = cursor.body_is p q r enters on
