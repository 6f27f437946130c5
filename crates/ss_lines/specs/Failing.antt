-- What a source and a sink hold that fail at planned calls.
use Rattle.std.specs.Prelude.{◌≡◌, ℕ, ◌+◌, ◌-◌, ◌^◌, min, List, Bool, nat_eq}
use Rattle.std.specs.List.{list_any}
use Rattle.ss_lines.specs.declared.failing.Plan.{Plan}
use Rattle.ss_lines.specs.declared.failing.FailingSource.{FailingSource}
use Rattle.ss_lines.specs.declared.failing.FailingSink.{FailingSink}
use Rattle.ss_lines.specs.Memory.{bytes_left, bytes_taken, room_of}

-- whether the next call is to fail
abbrev pub fails_next : Plan → Bool
fails_next p = list_any (λ n. nat_eq n p.calls) p.fails

-- a call was counted, up to the greatest number of 64 bits, and the plan stays
pub record CountsCall (old new : Plan) : Type 0 where
  pub fails : new.fails ≡ old.fails
  pub calls : new.calls ≡ min (old.calls + 1) (2 ^ 64 - 1)

-- nothing has been called yet, and these calls are to fail
pub record IsPlanOf (fails : List ℕ) (plan : Plan) : Type 0 where
  pub fails_are : plan.fails ≡ fails
  pub calls : plan.calls ≡ 0
  pub faults : plan.faults ≡ 0

-- the bytes that a source still has to give
abbrev pub source_left : FailingSource → List ℕ
source_left s = bytes_left s.source

abbrev pub source_plan : FailingSource → Plan
source_plan s = s.plan

-- the bytes that a sink has taken
abbrev pub sink_taken : FailingSink → List ℕ
sink_taken s = bytes_taken s.sink

-- how many bytes a sink takes in all
abbrev pub sink_room : FailingSink → ℕ
sink_room s = room_of s.sink

abbrev pub sink_plan : FailingSink → Plan
sink_plan s = s.plan

-- how many calls there were, and how many failed
abbrev pub call_count : Plan → ℕ
call_count p = p.calls

abbrev pub plan_faults : Plan → ℕ
plan_faults p = p.faults
