-- The table of commands: which command the words are (own).
use Rattle.std.specs.Prelude.{ℕ, Bool, ◌&&◌, option_and_then, if◌then◌else◌, List, [], ◌∷◌, Option, Some, None}
use Rattle.std.specs.Prelude.{codes, bytes_eq}
use Rattle.std.specs.Option.{option_map}
use Rattle.decimal_words.specs.Decimals.{number_within}
use Rattle.tool_words.specs.Command.{Command, decode, encode, check, dump, freeze, verify, rehash, judge, witness}
use Rattle.tool_words.specs.Command.{run, make, ask, explain, replay}
use Rattle.tool_words.specs.Entries.{types_and_file}
use Rattle.tool_words.specs.Options.{has_flag, after_flag, tree_of, after_tree}
use Rattle.tool_words.specs.Paths.{is_path, one_path, two_paths, three_paths}

-- `decode [--lenient] [--tree TREE] TYPES FILE`
abbrev pub decode_of : Bool → List (List ℕ) → Option Command
decode_of lenient words = option_map (λ w. decode lenient (tree_of words) w.0 w.1) (types_and_file (after_tree words))

unfoldable pub decode_row : List (List ℕ) → Option Command
decode_row words = decode_of (has_flag (codes "--lenient") words) (after_flag (codes "--lenient") words)

-- `encode [--tree TREE] TYPES FILE`
unfoldable pub encode_row : List (List ℕ) → Option Command
encode_row words = option_map (λ w. encode (tree_of words) w.0 w.1) (types_and_file (after_tree words))

-- `check TREE`
unfoldable pub check_row : List (List ℕ) → Option Command
check_row words = option_map check (one_path words)

-- `dump TREE OUT`
unfoldable pub dump_row : List (List ℕ) → Option Command
dump_row words = option_map (λ w. dump w.0 w.1) (two_paths words)

-- `freeze TREE API`
unfoldable pub freeze_row : List (List ℕ) → Option Command
freeze_row words = option_map (λ w. freeze w.0 w.1) (two_paths words)

-- `verify API`
unfoldable pub verify_row : List (List ℕ) → Option Command
verify_row words = option_map verify (one_path words)

-- `rehash API`
unfoldable pub rehash_row : List (List ℕ) → Option Command
rehash_row words = option_map rehash (one_path words)

-- `judge OLD NEW`
unfoldable pub judge_row : List (List ℕ) → Option Command
judge_row words = option_map (λ w. judge w.0 w.1) (two_paths words)

-- `witness OLD NEW`
unfoldable pub witness_row : List (List ℕ) → Option Command
witness_row words = option_map (λ w. witness w.0 w.1) (two_paths words)

-- `run [--trace] [--lenient] CLIENT SERVER CALLS`
abbrev pub run_of : Bool → List (List ℕ) → Option Command
run_of trace words = option_map (λ w. run trace (has_flag (codes "--lenient") words) w.0 w.1 w.2)
    (three_paths (after_flag (codes "--lenient") words))

unfoldable pub run_row : List (List ℕ) → Option Command
run_row words = run_of (has_flag (codes "--trace") words) (after_flag (codes "--trace") words)

-- `make N OUT`, N from 1 to 1,000
abbrev pub make_of : List ℕ → List ℕ → Option Command
make_of count out = option_map (λ n. make n out) (number_within 1 1000 count)

unfoldable pub make_row : List (List ℕ) → Option Command
make_row (count ∷ out ∷ []) = if is_path out then make_of count out else None
make_row _ = None

-- `ask API N INTERFACE CODE FILE`, N from 1 to 9,999 and CODE from 0 to 4,294,967,295
abbrev pub ask_of : List ℕ → List ℕ → List ℕ → List ℕ → List ℕ → Option Command
ask_of api version interface code file =
    option_and_then (λ n. option_map (λ c. ask api n interface c file) (number_within 0 4294967295 code))
    (number_within 1 9999 version)

unfoldable pub ask_row : List (List ℕ) → Option Command
ask_row (api ∷ version ∷ interface ∷ code ∷ file ∷ []) = if is_path api && is_path file
    then ask_of api version interface code file else None
ask_row _ = None

-- `explain [--tree TREE] TYPES FILE`
unfoldable pub explain_row : List (List ℕ) → Option Command
explain_row words = option_map (λ w. explain (tree_of words) w.0 w.1) (types_and_file (after_tree words))

-- `replay SERVER INTERFACE TRACE`
abbrev pub replay_of : List ℕ → List ℕ → List ℕ → Option Command
replay_of server interface trace = if is_path server && is_path trace
    then Some (replay server interface trace) else None

unfoldable pub replay_row : List (List ℕ) → Option Command
replay_row (server ∷ interface ∷ trace ∷ []) = replay_of server interface trace
replay_row _ = None

-- the row of a command's name
abbrev pub in_row : List ℕ → List (List ℕ) → Option Command
in_row name words =
    if bytes_eq name (codes "decode") then decode_row words
    else if bytes_eq name (codes "encode") then encode_row words
    else if bytes_eq name (codes "check") then check_row words
    else if bytes_eq name (codes "dump") then dump_row words
    else if bytes_eq name (codes "freeze") then freeze_row words
    else if bytes_eq name (codes "verify") then verify_row words
    else if bytes_eq name (codes "rehash") then rehash_row words
    else if bytes_eq name (codes "judge") then judge_row words
    else if bytes_eq name (codes "witness") then witness_row words
    else if bytes_eq name (codes "run") then run_row words
    else if bytes_eq name (codes "make") then make_row words
    else if bytes_eq name (codes "ask") then ask_row words
    else if bytes_eq name (codes "explain") then explain_row words
    else if bytes_eq name (codes "replay") then replay_row words
    else None

-- the command of the words; None where they are in no row
abbrev pub command_of : List (List ℕ) → Option Command
command_of [] = None
command_of (name ∷ words) = in_row name words
