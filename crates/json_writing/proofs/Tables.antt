-- A table of values that is filled from the back.
use Rattle.std.proofs.Common.{◌≡◌, ◌<◌, ◌+◌, ℕ, ℤ, Bool, true, false, cond, List, ◌∷◌, length, drop, get_or, Option, Some, refl, sym, ap, ◌∙◌}
use Rattle.std.proofs.lemmas.List.{drop_more}
use Rattle.std.specs.Borrow.{Bor}
use Rattle.std.specs.Option.{option_map}
use Rattle.std.specs.Ordering.{int_eq}
use Rattle.serde_json.specs.Data as json
use Rattle.aidl_base.specs.declared.name.Ident.{Ident}
use Rattle.aidl_schema.specs.declared.schema.Enumerator.{Enumerator}
use Rattle.json_writing.specs.Json.{json_among, json_named}
use Rattle.json_writing.specs.Named.{bytes_of}

-- what a table tells of a value
abbrev pub told : Option (Bor Ident) → ℤ → json.Data
told name n = json_named (option_map (λ i. i.now) name) n

either : (b : Bool) (name : Bor Ident) (later : Option (Bor Ident)) (n : ℤ) (rest : json.Data) → told later n ≡ rest → told (cond b (Some name) later) n ≡ cond b (json.string (bytes_of name.now)) rest
either true name later n rest is = refl
either false name later n rest is = is

-- an enumerator goes in before those behind it, under its value
pub entered : (es : List Enumerator) (i : ℕ) (e : Enumerator) (name : Bor Ident) (key n : ℤ) (later now : Option (Bor Ident)) → i < length es → e ≡ get_or es i e → name.now ≡ e.name
    → key ≡ e.value → now ≡ cond (int_eq key n) (Some name) later → told later n ≡ json_among (drop (i + 1) es) n → told now n ≡ json_among (drop i es) n
entered es i e name key n later now lies is called valued new rest =
    let behind = json_among (drop (i + 1) es) n in
    ap (λ o. told o n) (new ∙ ap (λ k. cond (int_eq k n) (Some name) later) valued) ∙ either (int_eq e.value n) name later n behind rest
    ∙ ap (λ x. cond (int_eq e.value n) (json.string (bytes_of x)) behind) called
    ∙ sym (ap (λ all. json_among all n) (drop_more es i e lies ∙ ap (λ x. x ∷ drop (i + 1) es) (sym is)))
