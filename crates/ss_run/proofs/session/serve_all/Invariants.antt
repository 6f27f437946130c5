use Rattle.std.proofs.Common.{◌≡◌, [], length, take}
use Rattle.ss_model.specs.Report.{Whole, asked_entries}
use Rattle.ss_report_laws.specs.Replies.{AreAnswered}
use Rattle.ss_report_laws.specs.PartOf.{IsPartOf}
use Rattle.ss_run.specs.RunAnswers.{client_entries}
use Rattle.ss_run.specs.Stands.{IsAt}
use Rattle.ss_run.proofs.Answering.{HaveRoom}
use Rattle.ss_run.proofs.session.serve_all.Given as goal

abbrev pub invariant-loop-number : goal.invariant-loop-number
invariant-loop-number g l = record {
  at : IsAt l.catalog g.O.Origin.opening l.store;
  in_order : IsPartOf (client_entries l.store.list) (asked_entries (take l.number l.requests));
  answered : AreAnswered (take l.number l.requests) 0 l.store.list Whole l.replies.answers;
  eight : length l.replies.answers ≡ 8;
  room : HaveRoom l.requests l.replies;
  hints : l.inbox.hints ≡ [];
  jobs : l.inbox.jobs ≡ [];
  inbox_room : l.inbox.room ≡ 1;
}
