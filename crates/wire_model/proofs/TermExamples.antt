-- Words of crates below, as this crate passes them on, computed.
use Rattle.std.proofs.Common.{◌≡◌, pos, true, List, [], refl}
use Rattle.aidl_schema.specs.declared.schema.Base.TheVariants as base
use Rattle.aidl_schema.specs.declared.schema.Decl.{Decl}
use Rattle.wire_model.proofs.Examples.{one}
use Rattle.wire_model.specs.Terms.{number, depth_of, zero_within, has_bounds, form_of, is_type}
use Rattle.wire_model.specs.Terms.form as form

nothing : List Decl
nothing = []

zero_of_an_int : (zero_within 33 nothing (one base.Int) ≡ number (pos 0)) × (depth_of (zero_within 33 nothing (one base.Int)) ≡ 0) × (form_of nothing base.Int ≡ form.int)
    × (has_bounds nothing ≡ true) × (is_type nothing (one base.Int) ≡ true)
unfolding zero_within has_bounds nothing one
zero_of_an_int = (refl, refl, refl, refl, refl)
