-- What the code's own words stand for.
use Rattle.std.specs.Prelude.{map, string_bytes}
use Rattle.api_versions.specs.declared.folder.Folder.{Folder as HeldFolder}
use Rattle.api_versions.specs.declared.place.Place.{Place as HeldPlace}
use Rattle.api_versions.specs.declared.writes.Write.{Write as HeldWrite}
use Rattle.api_versions.specs.Folders.{Folder}
use Rattle.api_versions.specs.Places.{Place}
use Rattle.api_versions.specs.Writes.{Write}

abbrev pub place_seen : HeldPlace → Place
place_seen p = record { number = p.number; path = p.path.now }

abbrev pub folder_seen : HeldFolder → Folder
folder_seen f = record { number = f.number; is_there = f.is_there; sources = map string_bytes f.sources.items }

abbrev pub write_seen : HeldWrite → Write
write_seen w = record { path = string_bytes w.path; bytes = w.bytes }
