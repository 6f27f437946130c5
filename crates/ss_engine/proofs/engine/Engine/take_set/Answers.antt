use Rattle.std.proofs.Common.{ℕ, inl, inr, sym, subst}
use Rattle.ss_model.specs.declared.catalog.Catalog.{Catalog}
use Rattle.ss_commitlog.specs.Tokens.{Known}
use Rattle.ss_hand.specs.Meetings.{MayFollow}
use Rattle.ss_commitlog.specs.Growing.{GoesOn}
use Rattle.ss_commitlog.proofs.CallerLemmas.{follows_on, on_itself}
use Rattle.ss_engine.proofs.engine.Engine.take_set.Goals as goal

-- a token that may have been left as it was goes on
may_go_on : (catalog : Catalog) (parts limit : ℕ) (k l : Known) → MayFollow catalog parts limit k l → GoesOn catalog parts k l
may_go_on catalog parts limit k l (inl e) = subst (λ (x : Known). GoesOn catalog parts k x) (sym e) (on_itself catalog parts k)
may_go_on catalog parts limit k l (inr f) = follows_on catalog parts limit k l f

pub returns-clause-note : goal.returns-clause-note
returns-clause-note g c = may_go_on g.I.Life.catalog g.I.Life.parts g.I.Life.limit c.args.note.now c.take_parts.new.note c.take_parts.ensures.note
