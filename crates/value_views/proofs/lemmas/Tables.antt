-- Tables of positions that are filled from the back.
pub use Rattle.name_tables.proofs.lemmas.Tables.{entered}
