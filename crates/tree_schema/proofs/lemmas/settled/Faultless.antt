-- What the files of a tree give: no outcome is a fault where none is a breach, and each enum has an enumerator.
use Rattle.std.proofs.Common.{◌≡◌, ◌<◌, ◌+◌, ℕ, zero, suc, true, All, List, [], ◌∷◌, length, map, Option, Some, None, refl, subst, arith}
use Rattle.std.specs.List.{cons_option, list_all}
use Rattle.std.proofs.lemmas.List.Elements.{All-map}
use Rattle.std.proofs.lemmas.Option.{slice_get_within, get_or_from_slice_get}
use Rattle.aidl_base.specs.declared.breach.Breach.{Breach}
use Rattle.aidl_syntax.specs.declared.token.Token.{Token}
use Rattle.aidl_syntax.specs.declared.tree.ParsedFile.{ParsedFile}
use Rattle.aidl_syntax.specs.Productions.{IsFile}
use Rattle.aidl_syntax.specs.Sources.{Source, AreOfBytes, source_of}
use Rattle.const_values.specs.declared.fault.ConstFault.{ConstFault}
use Rattle.const_eval.specs.declared.outcome.Outcome.{Outcome}
use Rattle.const_eval.specs.declared.outcome.Outcome.TheVariants.{Given, Fault, Unjudged}
use Rattle.const_eval.specs.Breaches.{breach_by, breaches, breaches_from}
use Rattle.const_items.specs.Items.{Item, items}
use Rattle.tree_schema.specs.Values.{Outcomes}
use Rattle.tree_schema.proofs.lemmas.valued.EnumsFilled.{is_filled, file-filled}
use Rattle.tree_schema.proofs.lemmas.settled.Settled.{AreFaultless}
use Rattle.tree_schema.proofs.lemmas.walked.Lists.{all-from_at}

none_more : (o : Option Breach) (rest : List Breach) → cons_option o rest ≡ [] → (o ≡ None) × (rest ≡ [])
none_more None rest e = (refl, e)
none_more (Some b) rest e = cc

no_fault : (x : Item) (o : Outcome) (fault : ConstFault) → breach_by x o ≡ None → o ≡ Fault fault → ⊥
no_fault x (Fault g) fault e is = cc
no_fault x (Given c) fault e is = cc
no_fault x Unjudged fault e is = cc

none_from : (outcome : Outcomes) (k : ℕ) (xs : List Item) → breaches_from outcome k xs ≡ [] → (n : ℕ) → n < length xs → (m : ℕ) → m ≡ k + n → (fault : ConstFault) → outcome m ≡ Fault fault → ⊥
none_from outcome k [] e n lt m at fault is = absurd (omega arith)
none_from outcome k (x ∷ xs) e zero lt m at fault is =
    let same : m ≡ k = omega arith in
    no_fault x (outcome k) fault (none_more (breach_by x (outcome k)) (breaches_from outcome (k + 1) xs) e).0 (subst (λ (j : ℕ). outcome j ≡ Fault fault) same is)
none_from outcome k (x ∷ xs) e (suc n) lt m at fault is =
    none_from outcome (k + 1) xs (none_more (breach_by x (outcome k)) (breaches_from outcome (k + 1) xs) e).1 n (omega arith) m (omega arith) fault is

-- where no outcome of an item is a breach, none is a fault
pub faultless : (files : List Source) (outcomes : Outcomes) → breaches outcomes (items files) ≡ [] → AreFaultless files outcomes
faultless files outcomes e n lt fault is = none_from outcomes 0 (items files) e n lt n (omega arith) fault is

abbrev HasTree : Source → Type 0
HasTree s = (tokens : List Token) × IsFile tokens s.tree

-- each enum of files that are of some bytes has an enumerator
pub filled-files : (files : List ParsedFile) → AreOfBytes files → list_all (λ s. is_filled s.tree.declared) (map source_of files) ≡ true
filled-files files of =
    let all : All HasTree (map source_of files) = All-map HasTree source_of files (λ k f lt. let is = of.each k f lt in (is.1, is.4)) in
    all-from_at (λ (s : Source). is_filled s.tree.declared) (map source_of files)
    (λ k s at. let is : HasTree s = subst HasTree (get_or_from_slice_get (map source_of files) k s s at) (all k s (slice_get_within (map source_of files) k s at)) in file-filled is.0 s is.1)
