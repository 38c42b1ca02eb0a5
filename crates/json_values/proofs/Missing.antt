-- Fields that an object leaves out are read as their defaults.
use Rattle.std.proofs.Common.{◌≡◌, ℕ, zero, suc, ◌≤◌, true, nat_le, List, [], ◌∷◌, ◌++◌, drop, take, length, map, Some, None, slice_get, Ok, refl, sym, ap, subst, ◌∙◌, arith}
use Rattle.std.proofs.lemmas.Bool.Decides.{nat_tests}
use Rattle.std.proofs.lemmas.List.{drop-map, length-map, length-take-le, take-append-drop}
use Rattle.serde_json.specs.Data as json
use Rattle.serde_json.specs.Find.{get_member}
use Rattle.aidl_schema.specs.declared.schema.AidlType.{AidlType}
use Rattle.aidl_schema.specs.declared.schema.Base.{Base}
use Rattle.aidl_schema.specs.declared.schema.Decl.{Decl}
use Rattle.aidl_schema.specs.declared.schema.Field.{Field}
use Rattle.aidl_schema.specs.Types.{form_of}
use Rattle.aidl_values.specs.Data.{Data, Items, depth_of, greatest, rec}
use Rattle.aidl_values.specs.Sound.{initial_in}
use Rattle.aidl_values.specs.View.{items_of, view}
use Rattle.aidl_values.proofs.lemmas.Fronts.{with_front, onto-items}
use Rattle.json_values.specs.FromJson.{fields_from}
use Rattle.json_values.specs.Refusal.{Answer}
use Rattle.json_values.specs.declared.default_rows.Defaults.{Defaults}
use Rattle.json_values.specs.declared.given.Given.{Given}
use Rattle.json_values.specs.steps.Defaults.{AreDefaults, HasDefaultAt, datas_of, level_of}
use Rattle.json_values.specs.steps.Given.{AreGiven, as_record, filled}
use Rattle.json_values.specs.steps.Levels.{default_of}
use Rattle.json_values.proofs.Counted.{AreMissing}
use Rattle.json_values.proofs.Overlaid.{AreBelow, overlaid_rest}
use Rattle.json_writing.specs.Named.{bytes_of, fields_in}

-- how many levels a record of the fields' defaults has
abbrev levels_in : List Decl → List Field → ℕ
levels_in S fs = depth_of (rec (items_of (map (initial_in S) fs)))

behind_no_deeper : (ds : List Data) (i : ℕ) → greatest (items_of (drop i ds)) ≤ greatest (items_of ds)
behind_no_deeper ds zero = omega arith
behind_no_deeper [] (suc i) = omega arith
behind_no_deeper (d ∷ ds) (suc i) = omega (arith, behind_no_deeper ds i)

-- at each position
item_mapped : {X Y : Type 0} (f : X → Y) (xs : List X) (i : ℕ) (x : X) → slice_get xs i ≡ Some x → slice_get (map f xs) i ≡ Some (f x)
item_mapped f [] i x at = cc
item_mapped f (y ∷ xs) zero x at = let same : y ≡ x = cc in ap (λ z. Some (f z)) same
item_mapped f (y ∷ xs) (suc i) x at = item_mapped f xs i x at

pub default_at : (S : List Decl) (fs : List Field) (d : Defaults) (i : ℕ) (f : Field) → AreDefaults S fs d → slice_get fs i ≡ Some f → HasDefaultAt S f d i
default_at S fs d i f are at =
    let here : slice_get (datas_of d) i ≡ Some (initial_in S f) = ap (λ ds. slice_get ds i) are.0 ∙ item_mapped (initial_in S) fs i f at in
    (here, ap (λ ns. slice_get ns i) are.1 ∙ item_mapped level_of (datas_of d) i (initial_in S f) here)

-- those of what a base means are those of the fields
pub are_of : (S : List Decl) (b : Base) (fs : List Field) (d : Defaults) → fs ≡ fields_in (form_of S b) → AreDefaults S (fields_in (form_of S b)) d → AreDefaults S fs d
are_of S b fs d declared are = subst (λ gs. AreDefaults S gs d) (sym declared) are

module _ (S : List Decl) (d : ℕ) where
  -- the default of one field
  one_missing : (e : ℕ) (f : Field) → suc (depth_of (initial_in S f)) ≤ e → default_of S e f ≡ Ok (initial_in S f)
  one_missing zero f fits = absurd (omega arith)
  one_missing (suc e) f fits = let is : nat_le (depth_of (initial_in S f)) e ≡ true = grind (arith, nat_tests) in rw is refl

  module _ (read : AidlType → json.Data → Answer Data) (ms : json.Members) where
    all_missing : (fs : List Field) → AreMissing ms 0 fs → levels_in S fs ≤ d
        → fields_from (λ f. default_of S d f) read fs (λ key. get_member key ms) ≡ Ok (items_of (map (initial_in S) fs))
    all_missing [] missing fits = refl
    all_missing (f ∷ fs) missing fits =
        let none : get_member (bytes_of f.name) ms ≡ None = missing 0 f (omega arith) refl in
        let first : default_of S d f ≡ Ok (initial_in S f) = one_missing d f (grind arith) in
        let others = all_missing fs (λ k g le at. missing (suc k) g (omega arith) at) (grind arith) in
        rw (none, first, others) refl

    rest_missing : (fs : List Field) (i : ℕ) → AreMissing ms i fs → levels_in S (drop i fs) ≤ d
        → fields_from (λ f. default_of S d f) read (drop i fs) (λ key. get_member key ms) ≡ Ok (items_of (map (initial_in S) (drop i fs)))
    rest_missing fs zero missing fits = all_missing fs missing fits
    rest_missing [] (suc i) missing fits = refl
    rest_missing (f ∷ fs) (suc i) missing fits = rest_missing fs i (λ k g le at. missing (suc k) g (omega arith) at) fits

    -- behind those that were read the others are their defaults
    pub shared : (fs : List Field) (i : ℕ) (g : Given) (ds : List Data) (whole : Answer Items) → AreGiven g i → i ≤ length fs → ds ≡ map (initial_in S) fs → AreMissing ms i fs
        → depth_of (rec (items_of ds)) ≤ d → with_front (filled g (take i ds)) (fields_from (λ f. default_of S d f) read (drop i fs) (λ key. get_member key ms)) ≡ whole
        → as_record whole ≡ Ok (rec (items_of (filled g ds)))
    shared fs i g ds whole given short are missing fits read_as =
        let many : length ds ≡ length fs = ap length are ∙ length-map fs (initial_in S) in
        let here : length (take i ds) ≡ i = length-take-le i ds (omega (arith, many, short)) in
        let behind : map (initial_in S) (drop i fs) ≡ drop i ds = sym (ap (drop i) are ∙ drop-map (initial_in S) i fs) in
        let few : levels_in S (drop i fs) ≤ d = let less = behind_no_deeper ds i in let same = ap (λ es. greatest (items_of es)) behind in omega (arith, less, same, fits) in
        let others = rest_missing fs i missing few ∙ ap (λ es. Ok (items_of es)) behind in
        let below : AreBelow (length (take i ds)) g.places = subst (λ n. AreBelow n g.places) (sym here) given.0 in
        let all : filled g (take i ds) ++ drop i ds ≡ filled g ds =
        sym (overlaid_rest g.places (map view g.values.items) (take i ds) (drop i ds) below) ∙ ap (filled g) (take-append-drop i ds) in
        ap as_record (sym read_as ∙ ap (with_front (filled g (take i ds))) others ∙ ap Ok (onto-items (filled g (take i ds)) (drop i ds) ∙ ap items_of all))
