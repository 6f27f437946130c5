-- The triggers of a window at one depth less.
use Rattle.std.proofs.Common.{◌≡◌, ◌≢◌, ◌-◌, ℕ, zero, suc, [], refl, arith}
use Rattle.std.specs.List.{filter}
use Rattle.ss_model.specs.Statements.{Context, Execution, run_triggers, cascade_to_depth, is_on_window}

pub one_depth_less : (depth : ℕ) (context : Context) (n : ℕ) (w : Execution) → depth ≢ 0 →
    cascade_to_depth depth context n w ≡ run_triggers context (cascade_to_depth (depth - 1) context) [] (filter (λ t. is_on_window n t.on) (context.catalog).triggers) w
one_depth_less zero context n w h = absurd (h refl)
one_depth_less (suc depth) context n w h =
    let e : suc depth - 1 ≡ depth = omega arith in
    rw e refl
