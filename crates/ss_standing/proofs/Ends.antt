-- Entries end as those of a list where the same is added to both, and where a checkpoint empties the log.
use Rattle.std.proofs.Common.{◌≡◌, ◌∙◌, inl, inr, ℕ, List, [], ◌++◌, Option, Some, None, IsSome, sym, ap, append_assoc, append-nil}
use Rattle.ss_model.specs.declared.entry.Entry.{Entry}
use Rattle.ss_standing.specs.Ends.{EndsWith, EndAs}

-- with more behind both
ends_with_more : (entries last more : List Entry) → EndsWith entries last → EndsWith (entries ++ more) (last ++ more)
ends_with_more entries last more is = record {
  before = is.before;
  ends = ap (λ (es : List Entry). es ++ more) is.ends ∙ append_assoc is.before last more;
}

pub end_with_more : (every : Option ℕ) (log list more : List Entry) → EndAs every log list → EndAs every (log ++ more) (list ++ more)
end_with_more None log list more is = ends_with_more log list more is
end_with_more (Some every) log list more (inl is) = inl (ends_with_more log list more is)
end_with_more (Some every) log list more (inr is) = inr (ends_with_more list log more is)

-- a log that has them behind others
pub end_behind : (every : Option ℕ) (log before list : List Entry) → log ≡ before ++ list → EndAs every log list
end_behind None log before list is = record { before = before; ends = is }
end_behind (Some every) log before list is = inl (record { before = before; ends = is })

-- a log that has no entry, with checkpoints
pub end_anew : (every : Option ℕ) (list : List Entry) → IsSome every → EndAs every [] list
end_anew None list some = cc
end_anew (Some every) list some = inr (record { before = list; ends = sym (append-nil list) })

-- without checkpoints
pub ends_without : (every : Option ℕ) (log list : List Entry) → every ≡ None → EndAs every log list → EndsWith log list
ends_without None log list none is = is
ends_without (Some every) log list none is = cc
