use Rattle.std.proofs.Common.{List, subst}
use Rattle.ss_commitlog.specs.Tokens.{Known}
use Rattle.ss_turns.specs.Commits.{CommitsAsked}
use Rattle.ss_turns.proofs.Parting.{asked_apart}
use Rattle.ss_turns.proofs.asking.commit_asked.Goals as goal

pub returns : goal.returns
returns g c =
    let out = c.replace_with-marks.result in
    let mark = c.replace_with-marks.new.dest in
    subst (λ (ks : List Known). CommitsAsked g.I.Life.catalog g.I.Life.parts g.I.Life.first g.I.Life.limit ks c.args.mark.now c.args.listed out.0 mark out.1) c.replace-marks.ensures.value
    (asked_apart g.I.Life.catalog g.I.Life.parts g.I.Life.first g.I.Life.limit c.args.listed c.replace-marks.result c.args.mark.now out.0 mark out.1 c.replace_with-marks.ensures)
