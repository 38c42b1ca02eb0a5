-- Words of the crates below that the text of this crate uses, so that each of them is found through it.
-- *Valid schema*: the rules that a schema's declarations meet.
pub use Rattle.aidl_schema.specs.Valid.{IsValid}
unfoldable pub use Rattle.aidl_schema.specs.Valid.{
  has_names,
  has_members,
  has_types,
  has_methods,
  has_constants,
  has_initializers,
  has_enums,
  has_bounds,
  is_within_limits,
}
-- *Types*: what a base means, the shapes, and the type of an element.
pub use Rattle.aidl_schema.specs.Types as form
pub use Rattle.aidl_schema.specs.Types.{Form, form_of, is_one, is_array, is_raw, elem, is_type}
-- *Same* and *Broken*: types of two schemas, and the evolution rules between them.
pub use Rattle.aidl_schema.specs.Same.{same}
pub use Rattle.aidl_schema.specs.Broken.{broken}
-- The methods of an interface, and the one that has a code.
pub use Rattle.aidl_schema.specs.Find.{methods_at, position_of_code}
-- *Value and depth*, and the data that a `Value` stands for.
pub use Rattle.aidl_values.specs.Data.{Data, null, truth, number, text, seq, rec, alt, Items, none, item, count}
pub use Rattle.aidl_values.specs.Data.{depth_of}
pub use Rattle.aidl_values.specs.Nodes.{nodes_of}
pub use Rattle.aidl_values.specs.View.{view, views}
-- *HasType* and *Fits*.
pub use Rattle.aidl_values.specs.HasType.{HasType, HaveType, FieldsHaveType}
pub use Rattle.aidl_values.specs.Fits.{Fits}
-- *Defaults*: Zero and Initial, as relations and as functions.
pub use Rattle.aidl_values.specs.Default.{IsZero, AreInitial, IsInitial}
unfoldable pub use Rattle.aidl_values.specs.Default.{zero_within}
pub use Rattle.aidl_values.specs.Sound.{initial_in}
-- Words and text blocks, and what each profile of reading permits.
pub use Rattle.aidl_base.specs.Words.{word, long_word, pad, block}
pub use Rattle.aidl_base.specs.Profiles.{permits}
