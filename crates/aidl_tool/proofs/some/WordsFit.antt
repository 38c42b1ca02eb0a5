-- The number of `make` among words is at most 1,000.
use Rattle.std.proofs.Common.{◌≡◌, ℕ, ◌≤◌, ◌&&◌, Bool, true, false, if◌then◌else◌, List, [], ◌∷◌, Option, Some, None, refl, arith}
use Rattle.std.specs.Prelude.{nat_le, bytes_eq, codes, option_and_then}
use Rattle.std.specs.Option.{option_map}
use Rattle.std.specs.Str.Parse.{digits_value}
use Rattle.std.proofs.lemmas.Bool.Decides.{nat_tests}
use Rattle.decimal_words.specs.Decimals.{is_decimal, number_within}
use Rattle.tool_words.specs.Command.{Command, make, ask, replay}
use Rattle.tool_words.specs.Entries.{types_and_file}
use Rattle.tool_words.specs.Options.{after_flag, after_tree}
use Rattle.tool_words.specs.Paths.{is_path, one_path, three_paths, two_paths}
use Rattle.tool_words.specs.Rows.{ask_of, ask_row, check_row, command_of, decode_row, dump_row, encode_row, explain_row, freeze_row, in_row, judge_row, make_row, rehash_row, replay_row, run_row, verify_row, witness_row}

-- a command whose number fits
abbrev pub Fits : Command → Type 0
Fits (make count out) = count ≤ 1000
Fits command = Unit {0}

abbrev pub CommandFits : Option Command → Type 0
CommandFits None = Unit {0}
CommandFits (Some command) = Fits command

mapped : {A : Type 0} (f : A → Command) → ((x : A) → Fits (f x)) → (o : Option A) → CommandFits (option_map f o)
mapped f fits None = tt
mapped f fits (Some x) = fits x

chosen : (b : Bool) (first second : Option Command) → CommandFits first → CommandFits second → CommandFits (if b then first else second)
chosen true first second h k = h
chosen false first second h k = k

-- the number of `make`
abbrev IsFew : Option ℕ → Type 0
IsFew None = Unit {0}
IsFew (Some n) = n ≤ 1000

few_by : (n : ℕ) (a b c : Bool) → nat_le n 1000 ≡ c → IsFew (if a && b && c then Some n else None)
few_by n false b c e = tt
few_by n true false c e = tt
few_by n true true false e = tt
few_by n true true true e = grind (arith, nat_tests)

few : (word : List ℕ) → IsFew (number_within 1 1000 word)
unfolding number_within
few word = few_by (digits_value 10 word) (is_decimal word) (nat_le 1 (digits_value 10 word)) (nat_le (digits_value 10 word) 1000) refl

makes : (out : List ℕ) (o : Option ℕ) → IsFew o → CommandFits (option_map (λ n. make n out) o)
makes out None h = tt
makes out (Some n) h = h

-- the rows
decodes : (words : List (List ℕ)) → CommandFits (decode_row words)
unfolding decode_row
decodes words = mapped _ (λ w. tt) (types_and_file (after_tree (after_flag (codes "--lenient") words)))

encodes : (words : List (List ℕ)) → CommandFits (encode_row words)
unfolding encode_row
encodes words = mapped _ (λ w. tt) (types_and_file (after_tree words))

explains : (words : List (List ℕ)) → CommandFits (explain_row words)
unfolding explain_row
explains words = mapped _ (λ w. tt) (types_and_file (after_tree words))

checks : (words : List (List ℕ)) → CommandFits (check_row words)
unfolding check_row
checks words = mapped _ (λ w. tt) (one_path words)

verifies : (words : List (List ℕ)) → CommandFits (verify_row words)
unfolding verify_row
verifies words = mapped _ (λ w. tt) (one_path words)

rehashes : (words : List (List ℕ)) → CommandFits (rehash_row words)
unfolding rehash_row
rehashes words = mapped _ (λ w. tt) (one_path words)

dumps : (words : List (List ℕ)) → CommandFits (dump_row words)
unfolding dump_row
dumps words = mapped _ (λ w. tt) (two_paths words)

freezes : (words : List (List ℕ)) → CommandFits (freeze_row words)
unfolding freeze_row
freezes words = mapped _ (λ w. tt) (two_paths words)

judges : (words : List (List ℕ)) → CommandFits (judge_row words)
unfolding judge_row
judges words = mapped _ (λ w. tt) (two_paths words)

witnesses : (words : List (List ℕ)) → CommandFits (witness_row words)
unfolding witness_row
witnesses words = mapped _ (λ w. tt) (two_paths words)

runs : (words : List (List ℕ)) → CommandFits (run_row words)
unfolding run_row
runs words = mapped _ (λ w. tt) (three_paths (after_flag (codes "--lenient") (after_flag (codes "--trace") words)))

making : (words : List (List ℕ)) → CommandFits (make_row words)
unfolding make_row
making [] = tt
making (count ∷ []) = tt
making (count ∷ out ∷ []) = chosen (is_path out) (option_map (λ n. make n out) (number_within 1 1000 count)) None (makes out (number_within 1 1000 count) (few count)) tt
making (count ∷ out ∷ word ∷ words) = tt

asked : (api interface file : List ℕ) (o p : Option ℕ) → CommandFits (option_and_then (λ n. option_map (λ c. ask api n interface c file) p) o)
asked api interface file None p = tt
asked api interface file (Some n) p = mapped (λ c. ask api n interface c file) (λ c. tt) p

asks : (words : List (List ℕ)) → CommandFits (ask_row words)
unfolding ask_row
asks [] = tt
asks (api ∷ []) = tt
asks (api ∷ version ∷ []) = tt
asks (api ∷ version ∷ interface ∷ []) = tt
asks (api ∷ version ∷ interface ∷ code ∷ []) = tt
asks (api ∷ version ∷ interface ∷ code ∷ file ∷ []) =
    chosen (is_path api && is_path file) (ask_of api version interface code file) None
    (asked api interface file (number_within 1 9999 version) (number_within 0 4294967295 code)) tt
asks (api ∷ version ∷ interface ∷ code ∷ file ∷ word ∷ words) = tt

replays : (words : List (List ℕ)) → CommandFits (replay_row words)
unfolding replay_row
replays [] = tt
replays (server ∷ []) = tt
replays (server ∷ interface ∷ []) = tt
replays (server ∷ interface ∷ trace ∷ []) = chosen (is_path server && is_path trace) (Some (replay server interface trace)) None tt tt
replays (server ∷ interface ∷ trace ∷ word ∷ words) = tt

-- the row of each name, in their order
fits_in : (name : List ℕ) (words : List (List ℕ)) → CommandFits (in_row name words)
fits_in name words =
    chosen (bytes_eq name (codes "decode")) _ _ (decodes words) (
    chosen (bytes_eq name (codes "encode")) _ _ (encodes words) (
    chosen (bytes_eq name (codes "check")) _ _ (checks words) (
    chosen (bytes_eq name (codes "dump")) _ _ (dumps words) (
    chosen (bytes_eq name (codes "freeze")) _ _ (freezes words) (
    chosen (bytes_eq name (codes "verify")) _ _ (verifies words) (
    chosen (bytes_eq name (codes "rehash")) _ _ (rehashes words) (
    chosen (bytes_eq name (codes "judge")) _ _ (judges words) (
    chosen (bytes_eq name (codes "witness")) _ _ (witnesses words) (
    chosen (bytes_eq name (codes "run")) _ _ (runs words) (
    chosen (bytes_eq name (codes "make")) _ _ (making words) (
    chosen (bytes_eq name (codes "ask")) _ _ (asks words) (
    chosen (bytes_eq name (codes "explain")) _ _ (explains words) (
    chosen (bytes_eq name (codes "replay")) _ _ (replays words) tt)))))))))))))

pub words_fit : (words : List (List ℕ)) → CommandFits (command_of words)
words_fit [] = tt
words_fit (name ∷ words) = fits_in name words
