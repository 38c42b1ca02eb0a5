-- What `make` has made and laid out below OUT, and what it may then do.
use Rattle.std.specs.Prelude.{◌≡◌, ℕ, List, ◌∷◌, ◌++◌, map, codes, string_bytes, Result, Ok, Err}
use Rattle.aidl_outside.specs.Files.{path_below}
use Rattle.aidl_outside.specs.Writes.{Write}
use Rattle.make_command.specs.declared.command.Laid.{Laid}
use Rattle.run_command.specs.declared.command.Prepared.{Prepared}
use Rattle.make_command.specs.Making.{AreMade, file_write, new_root, old_root, make_course}
use Rattle.run_command.specs.Running.{Takes}
use Rattle.run_command.specs.steps.Running.{TakesEarly}
use Rattle.tool_frame.specs.declared.printed.Early.{Early}
use Rattle.tool_frame.specs.Course.{AtOnce}
use Rattle.tree_commands.specs.ByTree.{ByBoth}
use Rattle.tree_make.specs.Made.{calls_text, file_seen, new_files, old_files}

-- the texts of a number, and where they are to stand
pub record IsLaid (n : ℕ) (out : List ℕ) (l : Laid) : Type 0 where
  pub calls_path : string_bytes l.calls_path ≡ path_below out (codes "calls")
  pub calls : l.calls ≡ calls_text n
  pub new_root : string_bytes l.new_root ≡ new_root out
  pub news : AreMade l.news (new_files n)
  pub old_root : string_bytes l.old_root ≡ old_root out
  pub olds : AreMade l.olds (old_files n)

-- the writes that lay out both trees, and those of all
abbrev pub tree_writes : Laid → List Write
tree_writes l = map (file_write (string_bytes l.new_root)) (map file_seen l.news)
    ++ map (file_write (string_bytes l.old_root)) (map file_seen l.olds)

abbrev pub laid_writes : Laid → List Write
laid_writes l = record { path = string_bytes l.calls_path; bytes = l.calls } ∷ tree_writes l

-- by what is laid out
abbrev pub TakesLaid : Laid → Takes
TakesLaid l = ByBoth AtOnce (string_bytes l.new_root) l.news (string_bytes l.old_root) l.olds
    (λ B A c. c ≡ make_course A B l.calls)

-- by the schemas of both trees: the newer one is the client's
abbrev pub TakesMade : Result Prepared Early → Takes
TakesMade (Ok r) course = course ≡ make_course r.server.decls r.client.decls r.text.items
TakesMade (Err early) course = TakesEarly early course
