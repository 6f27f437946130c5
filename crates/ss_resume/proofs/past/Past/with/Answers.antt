use Rattle.std.proofs.Common.{◌∙◌, length, refl, ap}
use Rattle.ss_report_laws.specs.Replies.{answers_of}
use Rattle.ss_resume.proofs.Starts.{as_many, each_joined}
use Rattle.ss_resume.proofs.past.Past.with.Goals as goal

pub returns : goal.returns
returns c =
    let place = c.args.place in
    let earlier = c.args.self.answers in
    let further = c.args.answers in
    record {
      first = refl;
      list_is = c.in_ok-list.ensures;
      many = ap length c.in_ok-answers.ensures ∙ as_many place earlier further;
      answers_are = λ client. ap (λ all. answers_of all client) c.in_ok-answers.ensures ∙ each_joined place earlier further client;
      receipted_is = refl;
    }
