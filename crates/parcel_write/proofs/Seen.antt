-- The data of a value, by its form.
use Rattle.std.proofs.Common.{◌≡◌, ℕ, List, ap, ◌∙◌, rules}
use Rattle.aidl_values.specs.Data.{text, seq, rec, alt}
use Rattle.aidl_values.specs.View.{view, datas, field_datas, items_of}
use Rattle.aidl_values.specs.declared.value.Elements.{Elements}
use Rattle.aidl_values.specs.declared.value.Fields.{Fields}
use Rattle.aidl_values.specs.declared.value.Value.{Value, Text, Seq, Rec, Alt, the_lemmas}
use Rattle.aidl_values.proofs.lemmas.Views.{view_of_seq, view_of_rec}

pub seen_text : (v : Value) (x : List ℕ) → v ≡ Text x → view v ≡ text x
seen_text v x is = let level : view (Text x) ≡ text x = search (rules, the_lemmas) in ap view is ∙ level

pub seen_seq : (v : Value) (es : Elements) → v ≡ Seq es → view v ≡ seq (items_of (datas es))
seen_seq v es is = ap view is ∙ view_of_seq es

pub seen_rec : (v : Value) (fs : Fields) → v ≡ Rec fs → view v ≡ rec (items_of (field_datas fs))
seen_rec v fs is = ap view is ∙ view_of_rec fs

pub seen_alt : (v : Value) (k : ℕ) (b : _) → v ≡ Alt k b → view v ≡ alt k (view b.value)
seen_alt v k b is = let level : view (Alt k b) ≡ alt k (view b.value) = search (rules, the_lemmas) in ap view is ∙ level
