-- Files have one schema, or one refusal, and never both.
use Rattle.std.proofs.Common.{◌≡◌, ◌≢◌, ◌<◌, ℕ, suc, ◌⊎◌, List, [], ◌∷◌, length, map, Option, Some, None, inl, inr, refl, sym, ◌∙◌, ap, subst, arith}
use Rattle.std.specs.List.{slice_index_or}
use Rattle.aidl_base.specs.declared.breach.Breach.{Breach}
use Rattle.aidl_base.specs.declared.limit.Limit.{Limit}
use Rattle.aidl_base.specs.declared.limit.LimitName.{LimitName}
use Rattle.aidl_base.specs.declared.source_file.SourceFile.{SourceFile}
use Rattle.aidl_syntax.specs.declared.tree.ParsedFile.{ParsedFile}
use Rattle.declared_names.specs.Declarations.{declarations}
use Rattle.aidl_names.specs.Limits.{passed}
use Rattle.aidl_syntax.specs.Sources.{Source, source_of}
use Rattle.aidl_schema.specs.declared.schema.Decl.{Decl}
use Rattle.const_eval.specs.declared.outcome.Outcome.{Outcome}
use Rattle.const_eval.specs.declared.outcome.Outcome.TheVariants.{Unjudged}
use Rattle.const_items.specs.Items.{items}
use Rattle.const_eval.specs.Outcomes.{AreOutcomes, outcome_at}
use Rattle.const_eval.proofs.lemmas.OneOutcome.{one_outcome}
use Rattle.tree_files.specs.declared.fault.FilesFault.{FilesFault}
use Rattle.tree_files.specs.declared.fault.FilesFault.TheVariants as files
use Rattle.tree_files.specs.declared.fault.LexBreach.{LexBreach}
use Rattle.tree_files.specs.Parsed.{AreParsed}
use Rattle.tree_files.specs.Refusals as parsing
use Rattle.type_check.specs.declared.fault.CheckFault.{CheckFault}
use Rattle.type_check.specs.declared.fault.CheckFault.TheVariants as fault
use Rattle.type_check.specs.Checked.{IsSchemaOf, IsSchemaOfTrees}
use Rattle.type_check.specs.Refusals.{AreTreesRefused, IsRefusal, IsRefusalOfTrees}
use Rattle.type_check.specs.Stages.{AreBreaches, constants_broken, names_broken, schema_by, types_broken}
use Rattle.type_check.specs.Stages.AreBreaches.{of_names, of_constants, of_types}

-- lists of one length that have the same at each place
same_lists : {A : Type 0} (d : A) (xs ys : List A) → length xs ≡ length ys → ((n : ℕ) → n < length xs → slice_index_or xs n d ≡ slice_index_or ys n d) → xs ≡ ys
same_lists d [] [] e h = refl
same_lists d [] (y ∷ ys) e h = absurd (omega (arith, e))
same_lists d (x ∷ xs) [] e h = absurd (omega (arith, e))
same_lists d (x ∷ xs) (y ∷ ys) e h =
    let first : x ≡ y = h 0 (omega arith) in
    let shorter : length xs ≡ length ys = omega (arith, e) in
    let rest = same_lists d xs ys shorter (λ n lt. h (suc n) (omega (arith, lt))) in
    ap (λ z. z ∷ xs) first ∙ ap (λ zs. y ∷ zs) rest

limit_same : (o : Option LimitName) (v w : LimitName) → o ≡ Some v → o ≡ Some w → v ≡ w
limit_same o v w e h = cc

some_or_none : (o : Option LimitName) (w : LimitName) → o ≡ Some w → o ≡ None → ⊥
some_or_none o w e h = cc

module _ (trees : List Source) where
  one_outcomes : (os ps : List Outcome) → AreOutcomes trees os → AreOutcomes trees ps → os ≡ ps
  one_outcomes os ps h k =
      same_lists Unjudged os ps (h.count ∙ sym k.count) (λ n lt.
      let there : n < length (items trees) = subst (λ (m : ℕ). n < m) h.count lt in
      one_outcome trees n (outcome_at os n) (outcome_at ps n) (h.each n there) (k.each n there))

  one_schema_of_trees : (a b : List Decl) → IsSchemaOfTrees trees a → IsSchemaOfTrees trees b → a ≡ b
  one_schema_of_trees a b h k = h.exact ∙ ap (schema_by trees) (one_outcomes h.outcomes k.outcomes h.judged k.judged) ∙ sym k.exact

  same_constants : (os ps : List Outcome) → AreOutcomes trees os → AreOutcomes trees ps → constants_broken trees os ≡ constants_broken trees ps
  same_constants os ps h k = ap (constants_broken trees) (one_outcomes os ps h k)

  same_types : (os ps : List Outcome) → AreOutcomes trees os → AreOutcomes trees ps → types_broken trees (schema_by trees os) ≡ types_broken trees (schema_by trees ps)
  same_types os ps h k = ap (λ (zs : List Outcome). types_broken trees (schema_by trees zs)) (one_outcomes os ps h k)

  one_breaches : (qs rs : List Breach) → AreBreaches trees qs → AreBreaches trees rs → qs ≡ rs
  one_breaches qs rs (of_names e some) (of_names h more) = e ∙ sym h
  one_breaches qs rs (of_names e some) (of_constants none os are h more) = absurd (some (e ∙ none))
  one_breaches qs rs (of_names e some) (of_types none os are clean h more) = absurd (some (e ∙ none))
  one_breaches qs rs (of_constants none os are e some) (of_names h more) = absurd (more (h ∙ none))
  one_breaches qs rs (of_constants none os are e some) (of_constants nor ps be h more) = e ∙ same_constants os ps are be ∙ sym h
  one_breaches qs rs (of_constants none os are e some) (of_types nor ps be clean h more) = absurd (some (e ∙ same_constants os ps are be ∙ clean))
  one_breaches qs rs (of_types none os are clean e some) (of_names h more) = absurd (more (h ∙ none))
  one_breaches qs rs (of_types none os are clean e some) (of_constants nor ps be h more) = absurd (more (h ∙ same_constants ps os be are ∙ clean))
  one_breaches qs rs (of_types none os are clean e some) (of_types nor ps be tidy h more) = e ∙ same_types os ps are be ∙ sym h

  schema_unbroken : (a : List Decl) (rows : List Breach) → IsSchemaOfTrees trees a → AreBreaches trees rows → ⊥
  schema_unbroken a rows h (of_names e some) = some (e ∙ h.names.1)
  schema_unbroken a rows h (of_constants none os are e some) = some (e ∙ same_constants os h.outcomes are h.judged ∙ h.constants)
  schema_unbroken a rows h (of_types none os are clean e some) = some (e ∙ same_types os h.outcomes are h.judged ∙ h.types)

  never_of_trees : (a : List Decl) (r : CheckFault) → r ≢ fault.OutOfMemory → IsSchemaOfTrees trees a → IsRefusalOfTrees trees r → ⊥
  never_of_trees a (fault.Limit l) differs h k = some_or_none (passed (declarations trees)) l.which k h.names.0
  never_of_trees a (fault.Lex rows) differs h k = k
  never_of_trees a (fault.Syntax rows) differs h k = k
  never_of_trees a (fault.Breaches rows) differs h k = schema_unbroken a rows h k.1
  never_of_trees a fault.OutOfMemory differs h k = differs refl

  one_refusal_of_trees : (q r : CheckFault) → q ≢ fault.OutOfMemory → r ≢ fault.OutOfMemory → IsRefusalOfTrees trees q → IsRefusalOfTrees trees r → q ≡ r
  one_refusal_of_trees fault.OutOfMemory r differs nor h k = absurd (differs refl)
  one_refusal_of_trees (fault.Lex rows) r differs nor h k = absurd h
  one_refusal_of_trees (fault.Syntax rows) r differs nor h k = absurd h
  one_refusal_of_trees (fault.Limit l) fault.OutOfMemory differs nor h k = absurd (nor refl)
  one_refusal_of_trees (fault.Limit l) (fault.Lex rows) differs nor h k = absurd k
  one_refusal_of_trees (fault.Limit l) (fault.Syntax rows) differs nor h k = absurd k
  one_refusal_of_trees (fault.Limit l) (fault.Limit m) differs nor h k = ap (λ (w : LimitName). fault.Limit (record { which = w })) (limit_same (passed (declarations trees)) l.which m.which h k)
  one_refusal_of_trees (fault.Limit l) (fault.Breaches rows) differs nor h k = absurd (some_or_none (passed (declarations trees)) l.which h k.0)
  one_refusal_of_trees (fault.Breaches rows) fault.OutOfMemory differs nor h k = absurd (nor refl)
  one_refusal_of_trees (fault.Breaches rows) (fault.Lex others) differs nor h k = absurd k
  one_refusal_of_trees (fault.Breaches rows) (fault.Syntax others) differs nor h k = absurd k
  one_refusal_of_trees (fault.Breaches rows) (fault.Limit m) differs nor h k = absurd (some_or_none (passed (declarations trees)) m.which k h.0)
  one_refusal_of_trees (fault.Breaches rows) (fault.Breaches others) differs nor h k = ap fault.Breaches (one_breaches rows others h.1 k.1)

-- a refusal of files, as the check answers it
abbrev as_check : FilesFault → CheckFault
as_check (files.Limit l) = fault.Limit l
as_check (files.Lex rows) = fault.Lex rows
as_check (files.Syntax rows) = fault.Syntax rows
as_check files.OutOfMemory = fault.OutOfMemory

-- the files are refused by themselves, or their trees are
abbrev Refused : List SourceFile → CheckFault → Type 0
Refused sources r = ((e : FilesFault) × (e ≢ files.OutOfMemory) × parsing.IsRefusal sources e × (r ≡ as_check e)) ⊎ AreTreesRefused sources r

limit_is : (l : Limit) → files.Limit l ≢ files.OutOfMemory
limit_is l e = cc

lex_is : (rows : List LexBreach) → files.Lex rows ≢ files.OutOfMemory
lex_is rows e = cc

syntax_is : (rows : List ℕ) → files.Syntax rows ≢ files.OutOfMemory
syntax_is rows e = cc

refused_by : (sources : List SourceFile) (r : CheckFault) → r ≢ fault.OutOfMemory → IsRefusal sources r → Refused sources r
refused_by sources (fault.Limit l) differs (inl h) = inl (files.Limit l, limit_is l, h, refl)
refused_by sources (fault.Limit l) differs (inr h) = inr h
refused_by sources (fault.Lex rows) differs h = inl (files.Lex rows, lex_is rows, h, refl)
refused_by sources (fault.Syntax rows) differs h = inl (files.Syntax rows, syntax_is rows, h, refl)
refused_by sources (fault.Breaches rows) differs h = inr h
refused_by sources fault.OutOfMemory differs h = absurd (differs refl)

-- The laws of the files below, put together with those of their trees.
module _ (sources : List SourceFile)
    (one_list : (first second : List ParsedFile) → AreParsed sources first → AreParsed sources second → map source_of first ≡ map source_of second)
    (one_fault : (first second : FilesFault) → first ≢ files.OutOfMemory → second ≢ files.OutOfMemory → parsing.IsRefusal sources first → parsing.IsRefusal sources second → first ≡ second)
    (never_both : (parsed : List ParsedFile) (refusal : FilesFault) → refusal ≢ files.OutOfMemory → AreParsed sources parsed → parsing.IsRefusal sources refusal → ⊥) where
  pub one_schema : (a b : List Decl) → IsSchemaOf sources a → IsSchemaOf sources b → a ≡ b
  one_schema a b h k =
      one_schema_of_trees (map source_of k.0) a b (subst (λ (ts : List Source). IsSchemaOfTrees ts a) (one_list h.0 k.0 h.1 k.1) h.2) k.2

  one_refused : (q r : CheckFault) → q ≢ fault.OutOfMemory → r ≢ fault.OutOfMemory → Refused sources q → Refused sources r → q ≡ r
  one_refused q r differs nor (inl h) (inl k) = h.3 ∙ ap as_check (one_fault h.0 k.0 h.1 k.1 h.2 k.2) ∙ sym k.3
  one_refused q r differs nor (inl h) (inr k) = absurd (never_both k.0 h.0 h.1 k.1 h.2)
  one_refused q r differs nor (inr h) (inl k) = absurd (never_both h.0 k.0 k.1 h.1 k.2)
  one_refused q r differs nor (inr h) (inr k) =
      one_refusal_of_trees (map source_of k.0) q r differs nor (subst (λ (ts : List Source). IsRefusalOfTrees ts q) (one_list h.0 k.0 h.1 k.1) h.2) k.2

  pub one_refusal : (q r : CheckFault) → q ≢ fault.OutOfMemory → r ≢ fault.OutOfMemory → IsRefusal sources q → IsRefusal sources r → q ≡ r
  one_refusal q r differs nor h k = one_refused q r differs nor (refused_by sources q differs h) (refused_by sources r nor k)

  never_refused : (a : List Decl) (r : CheckFault) → r ≢ fault.OutOfMemory → IsSchemaOf sources a → Refused sources r → ⊥
  never_refused a r differs h (inl k) = never_both h.0 k.0 k.1 h.1 k.2
  never_refused a r differs h (inr k) =
      never_of_trees (map source_of k.0) a r differs (subst (λ (ts : List Source). IsSchemaOfTrees ts a) (one_list h.0 k.0 h.1 k.1) h.2) k.2

  pub never : (a : List Decl) (r : CheckFault) → r ≢ fault.OutOfMemory → IsSchemaOf sources a → IsRefusal sources r → ⊥
  never a r differs h k = never_refused a r differs h (refused_by sources r differs k)
