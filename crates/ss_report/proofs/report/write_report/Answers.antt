use Rattle.std.proofs.Common.{◌∙◌, ap}
use Rattle.ss_report.proofs.EndText.{settled, stopped}
use Rattle.ss_report.proofs.report.write_report.Goals as goal
use Rattle.ss_report.proofs.report.write_report.Goals.{in-Tables+in_ok-append_settled-in-Tables, in-Stopped+in_ok-append_stop-in-Stopped, in-Voter-end}

pub returns-clause-report : goal.returns-clause-report
returns-clause-report c =
    elim c.match-end-2.branch [
      | in-Tables+in_ok-append_settled-in-Tables w ↦
          let bytes = c.from_vec.ensures ∙ ap (λ v. v.items) w.out-is in
          let told = rw (c.as_slice-2.ensures, c.as_slice-3.ensures, c.as_slice-4.ensures, c.missing_answer-missing.ensures, w.in-Tables.is) at c.in_ok-out.ensures in
          let ended = rw (w.tables.ensures, w.len.ensures) at w.in_ok-append_settled-in-Tables.ensures in
          rw (w.in-Tables.is, bytes)
          (settled c.args.catalog.now c.args.requests.now c.args.answers.now c.args.first c.args.list.now c.in_ok-out.out.items _ w.in-Tables.database told ended).report
      | in-Stopped+in_ok-append_stop-in-Stopped w ↦
          let bytes = c.from_vec.ensures ∙ ap (λ v. v.items) w.out-is in
          let told = rw (c.as_slice-2.ensures, c.as_slice-3.ensures, c.as_slice-4.ensures, c.missing_answer-missing.ensures, w.in-Stopped.is) at c.in_ok-out.ensures in
          rw (w.in-Stopped.is, bytes)
          (stopped c.args.catalog.now c.args.requests.now c.args.answers.now c.args.first c.args.list.now c.in_ok-out.out.items _ w.in-Stopped.status w.in-Stopped.count w.in-Stopped.faults told w.in_ok-append_stop-in-Stopped.ensures).report
      | in-Voter-end w ↦ absurd (c.in_default.not-Voter w.in-Voter-end.votes w.in-Voter-end.is)
    ]

pub returns-clause-readable : goal.returns-clause-readable
returns-clause-readable c =
    elim c.match-end-2.branch [
      | in-Tables+in_ok-append_settled-in-Tables w ↦
          let told = rw (c.as_slice-2.ensures, c.as_slice-3.ensures, c.as_slice-4.ensures, c.missing_answer-missing.ensures, w.in-Tables.is) at c.in_ok-out.ensures in
          let ended = rw (w.tables.ensures, w.len.ensures) at w.in_ok-append_settled-in-Tables.ensures in
          rw w.in-Tables.is
          (settled c.args.catalog.now c.args.requests.now c.args.answers.now c.args.first c.args.list.now c.in_ok-out.out.items _ w.in-Tables.database told ended).readable
      | in-Stopped+in_ok-append_stop-in-Stopped w ↦
          let told = rw (c.as_slice-2.ensures, c.as_slice-3.ensures, c.as_slice-4.ensures, c.missing_answer-missing.ensures, w.in-Stopped.is) at c.in_ok-out.ensures in
          rw w.in-Stopped.is
          (stopped c.args.catalog.now c.args.requests.now c.args.answers.now c.args.first c.args.list.now c.in_ok-out.out.items _ w.in-Stopped.status w.in-Stopped.count w.in-Stopped.faults told w.in_ok-append_stop-in-Stopped.ensures).readable
      | in-Voter-end w ↦ absurd (c.in_default.not-Voter w.in-Voter-end.votes w.in-Voter-end.is)
    ]
