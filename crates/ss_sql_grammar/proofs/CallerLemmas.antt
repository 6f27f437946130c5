-- What crates above may rely on: the lemmas of this crate that they cite.

-- Readers that agree on shorter lists, and sets of kinds that grow.
pub use Rattle.ss_sql_grammar.proofs.Agree.{agree, agree_guarded, widened}
-- Two parts read one after the other.
pub use Rattle.ss_sql_grammar.proofs.Parts.{ok_is}
-- The theorem on rules: where one token decides, reading is exact for what is spelled.
pub use Rattle.ss_sql_grammar.proofs.Rules.{act_exact, one_exact, rules_exact}
