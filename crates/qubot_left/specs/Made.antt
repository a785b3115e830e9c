-- From a circuit that passed the checks to its finished model, or refusal 8 or 9: `qubot_fill`'s own, by these names.
-- Assumes nothing: these are definitions.
pub use Rattle.qubot_fill.specs.Made.{Made, already, clashes, model, after_clash, after_number}
unfoldable pub use Rattle.qubot_fill.specs.Made.{make}
