-- `decode` without `--lenient` ends as the last item says.
use Rattle.std.proofs.Common.{◌≡◌, ℕ, ◌+◌, ℤ, Bool, true, false, cond, List, [], ◌∷◌, ◌++◌, length, Result, Ok, Err, refl, sym, ap, ◌∙◌, append_assoc}
use Rattle.std.specs.Prelude.{codes}
use Rattle.std.specs.Fmt.{signed_decimal}
use Rattle.std.specs.List.{list_all}
use Rattle.aidl_base.specs.declared.profile.Profile.TheVariants.{Strict}
use Rattle.aidl_base.specs.Readings.{◌>>=◌}
use Rattle.aidl_schema.specs.declared.schema.AidlType.{AidlType}
use Rattle.aidl_schema.specs.declared.schema.Decl.{Decl}
use Rattle.aidl_values.specs.Data.{Data}
use Rattle.parcel_explain.specs.declared.item.Item.{Item}
use Rattle.parcel_explain.specs.declared.item.ItemKind.{ItemKind}
use Rattle.parcel_explain.specs.declared.item.ItemKind.TheVariants as kind
use Rattle.parcel_explain.specs.Ends.{AreOfValues, EndsBy, is_of_value, read_each}
use Rattle.parcel_explain.specs.Items.{explained, parts_of, placed}
use Rattle.parcel_explain.specs.Noted.{Part, part, part_of_some}
use Rattle.tool_frame.specs.declared.verdict.Verdict.{Verdict}
use Rattle.tool_frame.specs.declared.verdict.Verdict.TheVariants.{Done, Negative}
use Rattle.tool_frame.specs.Answer.{Answer, Found, after_text, negative}
use Rattle.tool_frame.specs.Answer as answer
use Rattle.wire_model.specs.ReadOf.{read_of}
use Rattle.parcel_commands.specs.Decode.{item_found, items_answer, rest_answer, value_line}
use Rattle.parcel_commands.specs.Endings.{ending_by, ending_of, no_ending, value_lines, value_then}
use Rattle.parcel_commands.specs.Explain.{explained_answer, is_right, items_verdict}

-- what follows the lines of values, by how reading them ends
abbrev end_answer : Result (List ℕ) ℤ → Answer
end_answer (Ok rest) = rest_answer rest
end_answer (Err status) = negative (codes "status " ++ signed_decimal status)

rest_alone : (rest : List ℕ) → rest_answer rest ≡ after_text [] (rest_answer rest)
rest_alone [] = refl
rest_alone (x ∷ rest) = refl

-- a value, and then the others
one_more : (S : List Decl) (t : AidlType) (ts : List AidlType) (r : Result (Data × List ℕ) ℤ)
    → ((c : List ℕ) → items_answer Strict S ts c ≡ after_text (value_lines S ts c) (end_answer (read_each S ts c)))
    → answer.◌>>=◌ (item_found r) (λ item. after_text (value_line S t item.0) (items_answer Strict S ts item.1))
    ≡ after_text (value_then S t r (λ c. value_lines S ts c)) (end_answer (r >>= λ x. read_each S ts x.1))
one_more S t ts (Ok x) others =
    let line = value_line S t x.0 in
    let last = end_answer (read_each S ts x.1) in
    ap (after_text line) (others x.1) ∙ ap (λ text. let a : Answer = record { text = text; verdict = last.verdict } in a) (sym (append_assoc line (value_lines S ts x.1) last.text))
one_more S t ts (Err s) others = refl

pub lines_then : (S : List Decl) (ts : List AidlType) (b : List ℕ) → items_answer Strict S ts b ≡ after_text (value_lines S ts b) (end_answer (read_each S ts b))
lines_then S [] b = rest_alone b
lines_then S (t ∷ ts) b = one_more S t ts (read_of Strict S 64 t false b) (λ c. lines_then S ts c)

-- Where the last part stands, and all before it are of values.
of_value : (k : ItemKind) (count : ℕ) → is_of_value k ≡ true → ending_by k count ≡ no_ending
of_value kind.Value count h = refl
of_value kind.Count count h = refl
of_value kind.Block count h = refl
of_value kind.Bytes count h = refl
of_value kind.Marker count h = refl
of_value kind.Size count h = refl
of_value kind.Tag count h = refl
of_value kind.Tail count h = refl
of_value kind.Left count h = absurd cc
of_value (kind.Stop s) count h = absurd cc

left_ends : (n : ℕ) (values : List Part) (rest : List ℕ) → AreOfValues values → ending_of (placed n (values ++ part_of_some [] kind.Left rest)) ≡ rest_answer rest
left_ends n [] [] h = refl
left_ends n [] (x ∷ rest) h = refl
left_ends n (p ∷ []) [] h = of_value p.kind (length p.bytes) h.0
left_ends n (p ∷ []) (x ∷ rest) h = refl
left_ends n (p ∷ q ∷ ps) rest h = left_ends (n + length p.bytes) (q ∷ ps) rest h.1

stop_ends : (n : ℕ) (values : List Part) (path : List ℕ) (s : ℤ) (wrong : List ℕ) → ending_of (placed n (values ++ part path (kind.Stop s) wrong)) ≡ end_answer (Err s)
stop_ends n [] path s wrong = refl
stop_ends n (p ∷ []) path s wrong = refl
stop_ends n (p ∷ q ∷ ps) path s wrong = stop_ends (n + length p.bytes) (q ∷ ps) path s wrong

items_end : (parts : List Part) (end : Result (List ℕ) ℤ) → EndsBy parts end → ending_of (placed 0 parts) ≡ end_answer end
items_end parts (Ok rest) h = ap (λ ps. ending_of (placed 0 ps)) h.2 ∙ left_ends 0 h.0 rest h.1
items_end parts (Err s) h = ap (λ ps. ending_of (placed 0 ps)) h.4 ∙ stop_ends 0 h.0 h.2 s h.3

pub ends_so : (S : List Decl) (ts : List AidlType) (b : List ℕ) → EndsBy (parts_of S ts b) (read_each S ts b)
    → items_answer Strict S ts b ≡ after_text (value_lines S ts b) (ending_of (explained S ts b))
ends_so S ts b h = lines_then S ts b ∙ ap (after_text (value_lines S ts b)) (sym (items_end (parts_of S ts b) (read_each S ts b) h))

-- The verdict is that of the ending.
abbrev all_right : List Item → Bool
all_right items = list_all is_right items

abbrev by_right : Bool → Verdict
by_right right = cond right Done Negative

behind_values : (n : ℕ) (values more : List Part) → AreOfValues values → (right : Bool) → ((m : ℕ) → all_right (placed m more) ≡ right) → all_right (placed n (values ++ more)) ≡ right
behind_values n [] more h right last = last n
behind_values n (p ∷ ps) more h right last = rw h.0 (behind_values (n + length p.bytes) ps more h.1 right last)

abbrev some_left : List ℕ → Bool
some_left [] = true
some_left (x ∷ rest) = false

left_right : (rest : List ℕ) (m : ℕ) → all_right (placed m (part_of_some [] kind.Left rest)) ≡ some_left rest
left_right [] m = refl
left_right (x ∷ rest) m = refl

rest_verdict : (rest : List ℕ) → by_right (some_left rest) ≡ (rest_answer rest).verdict
rest_verdict [] = refl
rest_verdict (x ∷ rest) = refl

verdict_by : (parts : List Part) (end : Result (List ℕ) ℤ) → EndsBy parts end → items_verdict (placed 0 parts) ≡ (end_answer end).verdict
verdict_by parts (Ok rest) h =
    ap (λ ps. items_verdict (placed 0 ps)) h.2 ∙ ap by_right (behind_values 0 h.0 (part_of_some [] kind.Left rest) h.1 (some_left rest) (left_right rest)) ∙ rest_verdict rest
verdict_by parts (Err s) h =
    ap (λ ps. items_verdict (placed 0 ps)) h.4 ∙ ap by_right (behind_values 0 h.0 (part h.2 (kind.Stop s) h.3) h.1 false (λ m. refl))

pub same_verdict : (S : List Decl) (ts : List AidlType) (b : List ℕ) → EndsBy (parts_of S ts b) (read_each S ts b) → (items_answer Strict S ts b).verdict ≡ items_verdict (explained S ts b)
same_verdict S ts b h = ap (λ (a : Answer). a.verdict) (lines_then S ts b) ∙ sym (verdict_by (parts_of S ts b) (read_each S ts b) h)

-- the same of types that may be none
pub same_exit : (S : List Decl) (b : List ℕ) (known : Found (List AidlType)) → ((ts : List AidlType) → (explained_answer S ts b).verdict ≡ (items_answer Strict S ts b).verdict)
    → (answer.◌>>=◌ known (λ ts. explained_answer S ts b)).verdict ≡ (answer.◌>>=◌ known (λ ts. items_answer Strict S ts b)).verdict
same_exit S b (Ok ts) same = same ts
same_exit S b (Err refusal) same = refl
