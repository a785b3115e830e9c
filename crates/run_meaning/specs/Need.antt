-- The value of a qubit is `run_values`' own; a run speaks of it by these names.
-- Assumes nothing: these are definitions.
pub use Rattle.run_values.specs.Need.{Got, table, stopped, went, and_then, decide, is_true, bit, put, bit_of, divided, Net, law_in, fixed_at}
unfoldable pub use Rattle.run_values.specs.Need.{each, number, settle, follow, step, need, need_of}
