use Rattle.std.proofs.Common.{◌≡◌, ◌∙◌, ◌∷◌, [], List, ℕ, Bool, true, false, suc, length, refl, sym, ap, arith}
use Rattle.std.specs.Bool.{◌==◌}
use Rattle.ss_proc.specs.Executions.{execution_of}
use Rattle.ss_proc.proofs.Doing.{does_as}
use Rattle.ss_proc.proofs.SoFar.{on_given}
use Rattle.ss_proc.proofs.so_far.run_step.Goals as goal

-- a list whose length is 0 has no item
none_in : (xs : List ℕ) (test : Bool) → test ≡ (length xs == 0) → test ≡ true → xs ≡ []
none_in [] test e t = refl
none_in (x ∷ xs) test e t = let no : true ≡ false = sym t ∙ e ∙ not_zero (length xs) in cc
  where
    not_zero : (n : ℕ) → (suc n == 0) ≡ false
    not_zero n = grind arith

pub returns-then-is_empty : goal.returns-then-is_empty
returns-then-is_empty c =
    let g = c.args.given.now in
    let none : g.inner.now ≡ [] = none_in g.inner.now c.is_empty.result c.is_empty.ensures c.if-is_empty.true in
    does_as _ _ c.args.shard.now c.run_step_on.new.shard c.args.work.now c.run_step_on.new.work c.run_step_on.result (on_given g none c.args.step.now (execution_of c.args.shard.now c.args.work.now)) c.run_step_on.ensures
