use Rattle.std.proofs.Common.{List, sym, subst}
use Rattle.ss_commitlog.specs.Tokens.{Known, AllSeeAs}
use Rattle.ss_commitlog.proofs.notes.show_marks_with.Goals as goal

pub returns-clause-see : goal.returns-clause-see
returns-clause-see g c = subst (λ (ks : List Known). AllSeeAs c.show_with.new.note ks) (sym c.from_vec.ensures) c.show_with.ensures.see
