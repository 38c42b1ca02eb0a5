-- What a writer's fields stand for.
use Rattle.std.specs.Prelude.{◌+◌, ◌≤◌}
use Rattle.std.specs.Vec.{vec_len, vec_capacity}
use Rattle.parcel_words.specs.declared.writer.WordWriter.TheInside.{Inside}
use Rattle.parcel_words.specs.Written.{Written}

abbrev pub written_of : Inside → Written
written_of a = record { bytes = a.bytes.items; room = a.room }

-- the vector has the room that is left, so that no write takes memory
abbrev pub HasRoom : Inside → Type 0
HasRoom a = vec_len a.bytes + a.room ≤ vec_capacity a.bytes
