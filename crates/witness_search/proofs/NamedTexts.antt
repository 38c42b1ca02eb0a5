-- What a name in UTF-8 finds is what the name finds.
use Rattle.std.proofs.Common.{◌≡◌, ℕ, List, ◌∙◌}
use Rattle.std.specs.List.{position}
use Rattle.std.specs.Str.{encode_utf8_all}
use Rattle.aidl_schema.specs.declared.schema.Field.{Field}
use Rattle.aidl_schema.specs.declared.schema.Method.{Method}
use Rattle.aidl_schema.specs.Same.{same_text}
use Rattle.wire_model.proofs.lemmas.NamedTexts.{by_bytes, same_position, turned}
use Rattle.witness_search.specs.steps.Named.{field_named, method_named}

pub method_by_bytes : (ms : List Method) (x : List ℕ) → method_named ms (encode_utf8_all x) ≡ position (λ m. same_text m.name.0 x) ms
method_by_bytes ms x = same_position (λ m. same_text (encode_utf8_all m.name.0) (encode_utf8_all x)) (λ m. same_text m.name.0 x) (λ m. by_bytes x m.name.0 ∙ turned m.name.0 x) ms

pub field_by_bytes : (fs : List Field) (x : List ℕ) → field_named fs (encode_utf8_all x) ≡ position (λ f. same_text f.name.0 x) fs
field_by_bytes fs x = same_position (λ f. same_text (encode_utf8_all f.name.0) (encode_utf8_all x)) (λ f. same_text f.name.0 x) (λ f. by_bytes x f.name.0 ∙ turned f.name.0 x) fs
