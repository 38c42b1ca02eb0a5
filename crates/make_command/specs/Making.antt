-- What `make N OUT` does, whatever stood below OUT before: it writes a calls file and two trees, checks the newer
-- tree and then the older one, judges the newer after the older one, and runs the calls from the newer one to the
-- older one, which are counted (own). A is the older tree's declarations and B the newer one's.
use Rattle.std.specs.Prelude.{ℕ, List, [], ◌∷◌, ◌++◌, length, codes, ◌≡◌, map}
use Rattle.std.specs.Fmt.{decimal}
use Rattle.aidl_base.specs.declared.profile.Profile.TheVariants.{Strict}
use Rattle.aidl_schema.specs.Broken.{Break, broken}
use Rattle.aidl_schema.specs.declared.schema.Decl.{Decl}
use Rattle.call_scripts.specs.Script.{script}
use Rattle.run_command.specs.CallLines.{lines_of}
use Rattle.run_command.specs.Running.{line_course, Takes}
use Rattle.tool_frame.specs.Answer.{Answer, line}
use Rattle.tool_frame.specs.Course.{AtOnce, Course, at_once}
use Rattle.tool_frame.specs.declared.verdict.Verdict.TheVariants.{Done}
use Rattle.tree_commands.specs.ByTree.{ByBoth}
use Rattle.tree_commands.specs.Judged.{judged}
use Rattle.make_command.specs.Tally.{Counts, counted, nothing}
use Rattle.aidl_base.specs.declared.source_file.SourceFile.{SourceFile}
use Rattle.aidl_outside.specs.Asks.{AsksNothing}
use Rattle.aidl_outside.specs.Files.{path_below}
use Rattle.aidl_outside.specs.Writes.{Write}
use Rattle.tool_frame.specs.Meaning.{Meaning, does_by}
use Rattle.tree_make.specs.Made.{File, calls_text, file_seen, new_files, old_files}

-- `types OLD NEW`, the numbers of declarations
abbrev pub types_line : ℕ → ℕ → List ℕ
types_line old new = line (codes "types " ++ decimal old ++ codes " " ++ decimal new)

-- `broken COUNT`, the number of broken evolution rules
abbrev pub broken_line : ℕ → List ℕ
broken_line count = line (codes "broken " ++ decimal count)

-- `lines L done D transport T refused R`
abbrev pub counts_line : ℕ → ℕ → ℕ → ℕ → List ℕ
counts_line lines done transport refused =
    line (codes "lines " ++ decimal lines ++ codes " done " ++ decimal done ++ codes " transport "
    ++ decimal transport ++ codes " refused " ++ decimal refused)

abbrev pub lines_line : Counts → List ℕ
lines_line c = counts_line c.lines c.done c.transport c.refused

-- `sent B`
abbrev pub sent_line : Counts → List ℕ
sent_line c = line (codes "sent " ++ decimal c.sent)

-- the four lines
abbrev pub made : List Decl → List Decl → Counts → Answer
made A B c = record {
  text = types_line (length A) (length B) ++ broken_line (length (broken A B)) ++ lines_line c
      ++ sent_line c;
  verdict = Done;
}

-- Lines of calls in order between CLIENT and SERVER, each counted at its end and nothing printed; after the last
-- what comes of the counts.
abbrev pub counted_course : List Decl → List Decl → (Counts → Course) → Counts → List (List ℕ) → Course
counted_course client server last c [] = last c
counted_course client server last c (call ∷ calls) =
    line_course Strict client server (λ carried methods out. counted_course client server last
    (counted c carried out) calls) (script client server call)

-- the judge's lines are printed at once, and else the calls are run
abbrev pub by_breaks : List Break → Course → Course
by_breaks [] calls = calls
by_breaks (b ∷ breaks) calls = at_once (judged (b ∷ breaks))

-- `make` over checked trees and a calls file
abbrev pub make_course : List Decl → List Decl → List ℕ → Course
make_course A B calls = by_breaks (broken A B) (counted_course B A (λ c. at_once (made A B c)) nothing (lines_of calls))

-- the roots of the newer tree and of the older one
abbrev pub new_root : List ℕ → List ℕ
new_root out = path_below out (codes "new")

abbrev pub old_root : List ℕ → List ℕ
old_root out = path_below out (codes "old")

-- a file of a tree with this root
abbrev pub file_write : List ℕ → File → Write
file_write root f = record { path = path_below root f.path; bytes = f.bytes }

-- the calls file first, and then the files of the newer tree, and those of the older one
abbrev pub make_writes : ℕ → List ℕ → List Write
make_writes n out =
    record { path = path_below out (codes "calls"); bytes = calls_text n }
    ∷ (map (file_write (new_root out)) (new_files n) ++ map (file_write (old_root out)) (old_files n))

-- files with these paths and bytes
abbrev pub AreMade : List SourceFile → List File → Type 0
AreMade sources files = map file_seen sources ≡ files

-- by the schemas of the files that were written; where a tree isn't checked, that is printed at once
abbrev pub MakeTakes : ℕ → List ℕ → Takes
MakeTakes n out course = (news olds : List SourceFile) × AreMade news (new_files n) × AreMade olds (old_files n)
    × ByBoth AtOnce (new_root out) news (old_root out) olds (λ B A c. c ≡ make_course A B (calls_text n)) course

-- `make N OUT`
abbrev pub makes : ℕ → List ℕ → Meaning
makes n out = does_by AsksNothing (λ files made. made ≡ make_writes n out) (λ files. MakeTakes n out)
