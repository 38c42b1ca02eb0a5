-- The rows of fields, by the field that a place names.
use Rattle.std.proofs.Common.{◌≡◌, ℕ, List, Option, Some, None, refl, sym, ap, ◌∙◌}
use Rattle.std.specs.Prelude.{option_and_then, option_map}
use Rattle.std.specs.List.{position}
use Rattle.std.specs.Str.{encode_utf8_all}
use Rattle.aidl_schema.specs.declared.schema.Decl.{Decl}
use Rattle.aidl_schema.specs.Broken.{Place}
use Rattle.aidl_schema.specs.Find.{number_of_name}
use Rattle.aidl_schema.specs.Same.{same_text}
use Rattle.wire_model.specs.Outcome.{declared_as}
use Rattle.compat_witness.specs.Candidates.{Candidate}
use Rattle.compat_witness.specs.Places.{at_last_dot}
use Rattle.compat_witness.specs.Rows.{FieldAsk, alternatives_in, ask_C10, ask_C11, ask_C15, ask_named, fields_in, row_C10, row_C11, row_C15}
use Rattle.witness_search.specs.declared.fields.Members.{Members}
use Rattle.witness_search.specs.declared.fields.Members.TheVariants.{Fields, Alternatives}
use Rattle.witness_search.specs.declared.records.FieldPlace.{FieldPlace}
use Rattle.witness_search.specs.steps.Fields as steps
use Rattle.witness_search.specs.steps.Fields.{field_at, members_in}
use Rattle.witness_search.specs.steps.Named.{field_named}
use Rattle.witness_search.proofs.NamedTexts.{field_by_bytes}
use Rattle.wire_model.proofs.lemmas.NamedTexts.{number_declared}
use Rattle.witness_search.proofs.PlaceBytes.{halves, dots_by_bytes}

-- the same field by characters as by bytes

module _ (members : Members) (old new : List Decl) where
  -- by the name of a declaration's member, in bytes and in characters
  abbrev named_by : List ℕ → ℕ → ℕ → Option FieldPlace
  named_by name k l = option_map (field_at k l) (field_named (members_in members old k) name)

  abbrev called_by : List ℕ → ℕ → ℕ → Option FieldPlace
  called_by name k l = option_map (field_at k l) (position (λ f. same_text f.name.0 name) (members_in members old k))

  by_names : (name : List ℕ) (ok ol : Option ℕ)
      → option_and_then (λ k. option_and_then (λ l. named_by (encode_utf8_all name) k l) ol) ok ≡ option_and_then (λ k. option_and_then (λ l. called_by name k l) ol) ok
  by_names name None ol = refl
  by_names name (Some k) None = refl
  by_names name (Some k) (Some l) = ap (option_map (field_at k l)) (field_by_bytes (members_in members old k) name)

  in_halves : (o : Option (List ℕ × List ℕ))
      → option_and_then (λ q. option_and_then (λ k. option_and_then (λ l. named_by q.1 k l) (number_of_name new q.0)) (number_of_name old q.0)) (halves o)
      ≡ option_and_then (λ q. option_and_then (λ k. option_and_then (λ l. called_by q.1 k l) (declared_as new q.0)) (declared_as old q.0)) o
  in_halves None = refl
  in_halves (Some q) =
      ap (λ ok. option_and_then (λ k. option_and_then (λ l. named_by (encode_utf8_all q.1) k l) (number_of_name new (encode_utf8_all q.0))) ok) (number_declared old q.0)
      ∙ ap (λ ol. option_and_then (λ k. option_and_then (λ l. named_by (encode_utf8_all q.1) k l) ol) (declared_as old q.0)) (number_declared new q.0)
      ∙ by_names q.1 (declared_as old q.0) (declared_as new q.0)

  pub field_cut : (p : List ℕ) → steps.field_by_bytes members old new (encode_utf8_all p) ≡ steps.field_of members old new p
  field_cut p =
      ap (λ o. option_and_then (λ q. option_and_then (λ k. option_and_then (λ l. named_by q.1 k l) (number_of_name new q.0)) (number_of_name old q.0)) o) (dots_by_bytes p)
      ∙ in_halves (at_last_dot p)

-- what a row asks of the field

module _ (members : Members) (F : FieldAsk) (old new : List Decl) where
  abbrev asks_at : FieldPlace → Option (List Candidate)
  asks_at z = F old z.old new z.new (members_in members old z.old) (members_in members new z.new) z.position

  -- a row of a field
  abbrev row_of : Place → Option (List Candidate)
  row_of p = option_and_then (λ q. option_and_then (λ k. option_and_then (λ l.
      ask_named F old k new l q.1 (members_in members old k) (members_in members new l)) (declared_as new q.0)) (declared_as old q.0)) (at_last_dot p)

  asks_named : (name : List ℕ) (ok ol : Option ℕ) → option_and_then asks_at (option_and_then (λ k. option_and_then (λ l. called_by members old new name k l) ol) ok)
      ≡ option_and_then (λ k. option_and_then (λ l. ask_named F old k new l name (members_in members old k) (members_in members new l)) ol) ok
  asks_named name None ol = refl
  asks_named name (Some k) None = refl
  asks_named name (Some k) (Some l) = by (position (λ f. same_text f.name.0 name) (members_in members old k))
    where
      by : (o : Option ℕ) → option_and_then asks_at (option_map (field_at k l) o) ≡ option_and_then (F old k new l (members_in members old k) (members_in members new l)) o
      by None = refl
      by (Some x) = refl

  asked : (p : Place) → option_and_then asks_at (steps.field_of members old new p) ≡ row_of p
  asked p = by (at_last_dot p)
    where
      by : (o : Option (List ℕ × List ℕ))
          → option_and_then asks_at (option_and_then (λ q. option_and_then (λ k. option_and_then (λ l. called_by members old new q.1 k l) (declared_as new q.0)) (declared_as old q.0)) o)
          ≡ option_and_then (λ q. option_and_then (λ k. option_and_then (λ l. ask_named F old k new l q.1 (members_in members old k) (members_in members new l)) (declared_as new q.0)) (declared_as old q.0)) o
      by None = refl
      by (Some q) = asks_named q.1 (declared_as old q.0) (declared_as new q.0)

  none_asked : (p : Place) → None ≡ steps.field_of members old new p → None ≡ row_of p
  none_asked p e = ap (λ o. option_and_then asks_at o) e ∙ asked p

  some_asked : (p : Place) (z : FieldPlace) (x : Option (List Candidate)) → Some z ≡ steps.field_of members old new p → x ≡ asks_at z → x ≡ row_of p
  some_asked p z x e is = is ∙ ap (λ o. option_and_then asks_at o) e ∙ asked p

-- the three rows

pub none_c10 : (old new : List Decl) (p : Place) → None ≡ steps.field_of Fields old new p → None ≡ row_C10 old new p
none_c10 old new p e = none_asked Fields ask_C10 old new p e

pub some_c10 : (old new : List Decl) (p : Place) (z : FieldPlace) (x : Option (List Candidate)) → Some z ≡ steps.field_of Fields old new p
    → x ≡ ask_C10 old z.old new z.new (fields_in old z.old) (fields_in new z.new) z.position → x ≡ row_C10 old new p
some_c10 old new p z x e is = some_asked Fields ask_C10 old new p z x e is

pub none_c11 : (old new : List Decl) (p : Place) → None ≡ steps.field_of Fields old new p → None ≡ row_C11 old new p
none_c11 old new p e = none_asked Fields ask_C11 old new p e

pub some_c11 : (old new : List Decl) (p : Place) (z : FieldPlace) (x : Option (List Candidate)) → Some z ≡ steps.field_of Fields old new p
    → x ≡ ask_C11 old z.old new z.new (fields_in old z.old) (fields_in new z.new) z.position → x ≡ row_C11 old new p
some_c11 old new p z x e is = some_asked Fields ask_C11 old new p z x e is

pub none_c15 : (old new : List Decl) (p : Place) → None ≡ steps.field_of Alternatives old new p → None ≡ row_C15 old new p
none_c15 old new p e = none_asked Alternatives ask_C15 old new p e

pub some_c15 : (old new : List Decl) (p : Place) (z : FieldPlace) (x : Option (List Candidate)) → Some z ≡ steps.field_of Alternatives old new p
    → x ≡ ask_C15 old z.old new z.new (alternatives_in old z.old) (alternatives_in new z.new) z.position → x ≡ row_C15 old new p
some_c15 old new p z x e is = some_asked Alternatives ask_C15 old new p z x e is
