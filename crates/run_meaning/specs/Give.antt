-- Giving the inputs is `run_give`'s own; a run speaks of it by these names.
-- Assumes nothing: these are definitions.
pub use Rattle.run_give.specs.Give.{low_bit, halved}
unfoldable pub use Rattle.run_give.specs.Give.{give_bits, give_all}
