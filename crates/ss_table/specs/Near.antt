-- A slot with a hint. Of the hint nothing is said.

-- the slot that is found, without its hint
pub use Rattle.ss_fragment.specs.Near.{without_hint}
