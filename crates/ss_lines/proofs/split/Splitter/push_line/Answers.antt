use Rattle.std.proofs.Common.{◌∙◌, rules, sym, ap}
use Rattle.ss_lines.specs.Lines.{is_blank}
use Rattle.ss_lines.proofs.Splits.{given_blank, given_line}
use Rattle.ss_lines.proofs.split.Splitter.push_line.Goals as goal

pub returns-then-is_blank-clause-ok : goal.returns-then-is_blank-clause-ok
returns-then-is_blank-clause-ok c =
    given_blank c.args.self.now.lines c.args.self.now.number c.args.self.now.current.items c.args.self.now.one_line
    (ap is_blank (sym c.as_slice.ensures.value) ∙ sym c.is_blank.ensures ∙ c.if-is_blank.true)

pub returns-clause-ok : goal.returns-clause-ok
returns-clause-ok c =
    given_line c.args.self.now.lines c.push.new.self c.args.self.now.number c.args.self.now.current.items c.args.self.now.one_line
    (ap is_blank (sym c.as_slice.ensures.value) ∙ sym c.is_blank.ensures ∙ c.if-is_blank.false)
    (search rules)
