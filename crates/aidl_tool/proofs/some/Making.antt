-- What `make` means is one thing at the least: its paths are ASCII.
use Rattle.std.proofs.Common.{◌≡◌, ℕ, zero, suc, ◌+◌, ◌<◌, ◌≤◌, ◌&&◌, ◌==◌, Bool, true, false, if◌then◌else◌, List, [], ◌∷◌, ◌++◌, map, refl, ap, ◌∙◌, arith}
use Rattle.std.specs.Prelude.{nat_lt}
use Rattle.std.specs.Fmt.{decimal}
use Rattle.std.specs.List.{All, fold, range_with_len}
use Rattle.std.specs.Str.{IsAscii, chars, encode_utf8_all}
use Rattle.std.specs.declared.cmp.Ordering.{Ordering}
use Rattle.std.specs.declared.cmp.Ordering.TheVariants.{Less, Equal, Greater}
use Rattle.std.specs.Ordering.{nat_cmp, match_ordering}
use Rattle.std.specs.Cmp.Lexicographic.{slice_cmp}
use Rattle.std.proofs.lemmas.Bool.Decides.{nat_tests}
use Rattle.std.proofs.lemmas.Fmt.{IsAscii-decimal_wide}
use Rattle.std.proofs.lemmas.List.Elements.{All-append, All-cons, All-head, All-nil, All-tail}
use Rattle.std.proofs.lemmas.Str.{IsAscii-append, chars-IsAscii, encodes-IsAscii}
use Rattle.aidl_base.specs.declared.source_file.SourceFile.{SourceFile}
use Rattle.make_command.specs.Making.{AreMade, MakeTakes, make_writes, new_root, old_root, make_course}
use Rattle.aidl_tool.specs.Meant.{meaning}
use Rattle.aidl_tool.specs.SomeMeaning.{MeansSome}
use Rattle.aidl_tool.proofs.some.ByTree.{by_both}
use Rattle.aidl_tool.proofs.some.Meanings.{taken}
use Rattle.tool_frame.specs.Course.{AtOnce, Course, answer_after, due_after}
use Rattle.tool_words.specs.Command.{make}
use Rattle.tree_make.specs.Made.{File, calls_text, file_of, file_seen, files_of, filled, in_order, path_of, put}
use Rattle.tree_make.specs.declared.texts.Part.{Part}
use Rattle.tree_make.specs.declared.texts.Part.TheVariants.{OldRecord, OldInterface, NewRecord, NewInterface}

-- the bytes are those of a text
abbrev IsText : List ℕ → Type 0
IsText bytes = encode_utf8_all (chars bytes) ≡ bytes

-- bytes below 128
abbrev small : List ℕ → Bool
small [] = true
small (c ∷ cs) = nat_lt c 128 && small cs

left : (a b : Bool) → (a && b) ≡ true → a ≡ true
left true b e = refl
left false b e = absurd cc

right : (a b : Bool) → (a && b) ≡ true → b ≡ true
right true b e = e
right false b e = absurd cc

ascii_cons : (c : ℕ) (cs : List ℕ) → c < 128 → IsAscii cs → IsAscii (c ∷ cs)
ascii_cons c cs lt all zero = lt
ascii_cons c cs lt all (suc i) = all i

ascii_nil : IsAscii []
ascii_nil i = omega arith

ascii_of : (cs : List ℕ) → small cs ≡ true → IsAscii cs
ascii_of [] e = ascii_nil
ascii_of (c ∷ cs) e = let l = left (nat_lt c 128) (small cs) e in ascii_cons c cs (grind (arith, nat_tests)) (ascii_of cs (right (nat_lt c 128) (small cs) e))

filled_ascii : (text : List ℕ) (k : ℕ) → IsAscii (decimal k) → IsAscii text → IsAscii (filled text k)
filled_ascii [] k d all = ascii_nil
filled_ascii (c ∷ text) k d all = by_test (c == 35) (filled_ascii text k d (λ i. all (suc i)))
  where
    by_test : (b : Bool) → IsAscii (filled text k) → IsAscii (if b then decimal k ++ filled text k else c ∷ filled text k)
    by_test true rest = IsAscii-append (decimal k) (filled text k) d rest
    by_test false rest = ascii_cons c (filled text k) (all zero) rest

path_ascii : (part : Part) → IsAscii (path_of part)
path_ascii OldRecord = ascii_of (path_of OldRecord) refl
path_ascii OldInterface = ascii_of (path_of OldInterface) refl
path_ascii NewRecord = ascii_of (path_of NewRecord) refl
path_ascii NewInterface = ascii_of (path_of NewInterface) refl

text_of_ascii : (bs : List ℕ) → IsAscii bs → IsText bs
text_of_ascii bs a = ap encode_utf8_all (chars-IsAscii bs a) ∙ encodes-IsAscii bs a

abbrev Few : ℕ → Type 0
Few k = k < 1000

made : (part : Part) (ks : List ℕ) → All Few ks → All (λ (f : File). IsText f.path) (map (file_of part) ks)
made part [] all = All-nil (λ (f : File). IsText f.path)
made part (k ∷ ks) all =
    let lt : k < 1000 = All-head Few k ks all in
    All-cons (λ (f : File). IsText f.path) (file_of part k) (map (file_of part) ks)
    (text_of_ascii (filled (path_of part) k) (filled_ascii (path_of part) k (IsAscii-decimal_wide k (omega (arith, lt))) (path_ascii part)))
    (made part ks (All-tail Few k ks all))

put_few : (js : List ℕ) (k : ℕ) → Few k → All Few js → All Few (put js k)
put_few [] k lt all = All-cons Few k [] lt all
put_few (j ∷ js) k lt all = by_order (slice_cmp nat_cmp (decimal k) (decimal j)) (put_few js k lt (All-tail Few j js all))
  where
    by_order : (o : Ordering) → All Few (put js k) → All Few (match_ordering o (k ∷ j ∷ js) (k ∷ js) (j ∷ put js k))
    by_order Less rest = All-cons Few k (j ∷ js) lt all
    by_order Equal rest = All-cons Few k js lt (All-tail Few j js all)
    by_order Greater rest = All-cons Few j (put js k) (All-head Few j js all) rest

range_few : (n from : ℕ) (js : List ℕ) → from + n ≤ 1000 → All Few js → All Few (fold put js (range_with_len from n))
range_few zero from js le all = all
range_few (suc n) from js le all = range_few n (from + 1) (put js from) (omega (arith, le)) (put_few js from (omega (arith, le)) all)

sources_made : (fs : List File) → All (λ (f : File). IsText f.path) fs → (sources : List SourceFile) × AreMade sources fs
sources_made [] all = ([], refl)
sources_made (f ∷ fs) all =
    let rest = sources_made fs (All-tail (λ (f : File). IsText f.path) f fs all) in
    let t : encode_utf8_all (chars f.path) ≡ f.path = All-head (λ (f : File). IsText f.path) f fs all in (
      record { path = chars f.path; bytes = f.bytes } ∷ rest.0,
      ap (λ (z : List ℕ). let g : File = record { path = z; bytes = f.bytes } in g ∷ map file_seen rest.0) t ∙ ap (λ gs. f ∷ gs) rest.1,
    )

pub some_made : (interface record_part : Part) (n : ℕ) → n ≤ 1000 → (sources : List SourceFile) × AreMade sources (files_of interface record_part n)
some_made interface record_part n le =
    let few : All Few (in_order n) = range_few n 0 [] (omega (arith, le)) (All-nil Few) in
    sources_made (files_of interface record_part n)
    (All-append (λ (f : File). IsText f.path) (map (file_of interface) (in_order n)) (map (file_of record_part) (in_order n)) (made interface (in_order n) few) (made record_part (in_order n) few))

some_make : (n : ℕ) (out : List ℕ) → n ≤ 1000 → (course : Course) × MakeTakes n out course
some_make n out le =
    let news = some_made NewInterface NewRecord n le in
    let olds = some_made OldInterface OldRecord n le in
    let course = by_both AtOnce taken (new_root out) (old_root out) news.0 olds.0 (λ B A c. c ≡ make_course A B (calls_text n)) (λ B A. (make_course A B (calls_text n), refl)) in
    (course.0, (news.0, olds.0, news.1, olds.1, course.1))

pub means_make : (count : ℕ) (out : List ℕ) → count ≤ 1000 → MeansSome (meaning (make count out))
means_make count out le =
    let c = some_make count out le in
    record {
      writes = λ files. (make_writes count out, refl);
      due = λ files entries. (due_after c.0 entries, (c.0, c.1, refl));
      answers = λ files entries. (answer_after c.0 entries, (c.0, c.1, refl));
    }
