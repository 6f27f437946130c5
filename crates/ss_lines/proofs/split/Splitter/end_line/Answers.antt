use Rattle.ss_lines.proofs.Splits.{given_behind_feed}
use Rattle.ss_lines.proofs.split.Splitter.end_line.Goals as goal

pub returns-clause-ok : goal.returns-clause-ok
returns-clause-ok c = λ rest.
    given_behind_feed c.args.self.now.lines c.push_line.new.self.lines c.args.self.now.number c.push_line.new.self.number c.args.self.now.current.items c.push_line.new.self.current.items rest
    c.args.self.now.one_line c.in_ok-push_line.ensures.ok c.in_ok-push_line.ensures.current c.in_ok-push_line.ensures.unchanged
