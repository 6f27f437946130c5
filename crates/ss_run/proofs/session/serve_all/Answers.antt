use Rattle.std.proofs.Common.{◌≡◌, ◌<◌, ◌∙◌, ℕ, true, Some, length, take, get_or, slice_get, add-one, arith, ap, sym, subst}
use Rattle.std.proofs.Math.ListN.{length-set}
use Rattle.std.proofs.lemmas.List.{take_all}
use Rattle.std.proofs.lemmas.Option.{slice_get-get_or}
use Rattle.ss_model.specs.declared.entry.Request.{Request}
use Rattle.ss_model.specs.Database.{fits_entry}
use Rattle.ss_model.specs.Report.{Whole, asked_entry}
use Rattle.ss_report_laws.proofs.CallerLemmas.{next_index, pushed_one}
use Rattle.ss_run.specs.BySteps.{IsAnswered}
use Rattle.ss_run.proofs.RequestEntries.{client_at, fits_at, in_order_next, take_at}
use Rattle.ss_run.proofs.Answering.{room_left, room_next, answered_next}
use Rattle.ss_run.proofs.session.serve_all.Goals as goal

pub count-index-requires : goal.count-index-requires
count-index-requires g c =
    let rs = c.args.requests.now in
    let i = c.loop-number.number in
    let r = c.request-item.result in
    let within : i < length rs = rw (← c.as_slice-request-items.ensures) c.loop-number-test.true in
    let same : get_or rs i r ≡ r = sym (rw c.as_slice-request-items.ensures at c.request-item.is) in
    let here : slice_get rs i ≡ Some r = slice_get-get_or rs i r within ∙ ap Some same in
    rw c.loop-number.invariant.eight (client_at c.args.catalog.now rs i r c.requires.fit here)

pub pump-answer-requires-clause-fits : goal.pump-answer-requires-clause-fits
pump-answer-requires-clause-fits g c = λ q at.
    let rs = c.args.requests.now in
    let i = c.loop-number.number in
    let r = c.request-item.result in
    let within : i < length rs = rw (← c.as_slice-request-items.ensures) c.loop-number-test.true in
    let same : get_or rs i r ≡ r = sym (rw c.as_slice-request-items.ensures at c.request-item.is) in
    let here : slice_get rs i ≡ Some r = slice_get-get_or rs i r within ∙ ap Some same in
    let fits = fits_at c.args.catalog.now rs i r c.requires.fit here in
    let index = c.count-index.ensures ∙ next_index (take i rs) 0 c.loop-number.store.list Whole c.loop-number.replies.answers r.client c.loop-number.invariant.answered in
    let both : Some r ≡ Some q = sym here ∙ at in
    let one : r ≡ q = cc in
    subst (λ (x : Request). fits_entry c.args.catalog.now (asked_entry x.client c.count-index.result x.what) ≡ true) one (rw index fits)

pub add-requires-clause-there : goal.add-requires-clause-there
add-requires-clause-there g c =
    let rs = c.args.requests.now in
    let i = c.loop-number.number in
    let r = c.request-item.result in
    let within : i < length rs = rw (← c.as_slice-request-items.ensures) c.loop-number-test.true in
    let same : get_or rs i r ≡ r = sym (rw c.as_slice-request-items.ensures at c.request-item.is) in
    let here : slice_get rs i ≡ Some r = slice_get-get_or rs i r within ∙ ap Some same in
    rw c.loop-number.invariant.eight (client_at c.args.catalog.now rs i r c.requires.fit here)

pub add-requires-clause-room : goal.add-requires-clause-room
add-requires-clause-room g c =
    let rs = c.args.requests.now in
    let i = c.loop-number.number in
    let r = c.request-item.result in
    let within : i < length rs = rw (← c.as_slice-request-items.ensures) c.loop-number-test.true in
    let same : get_or rs i r ≡ r = sym (rw c.as_slice-request-items.ensures at c.request-item.is) in
    let here : slice_get rs i ≡ Some r = slice_get-get_or rs i r within ∙ ap Some same in
    room_next rs i r c.loop-number.replies here (client_at c.args.catalog.now rs i r c.requires.fit here) (c.loop-number.invariant.answered.many r.client) c.loop-number.invariant.room

pub loop-number-preserved : goal.loop-number-preserved
loop-number-preserved g c =
    let rs = c.args.requests.now in
    let i = c.loop-number.number in
    let r = c.request-item.result in
    let old = c.loop-number.store.list in
    let new = c.pump-answer.new.store.list in
    let before = c.loop-number.replies in
    let within : i < length rs = rw (← c.as_slice-request-items.ensures) c.loop-number-test.true in
    let same : get_or rs i r ≡ r = sym (rw c.as_slice-request-items.ensures at c.request-item.is) in
    let here : slice_get rs i ≡ Some r = slice_get-get_or rs i r within ∙ ap Some same in
    let there : r.client < length before.answers = rw c.loop-number.invariant.eight (client_at c.args.catalog.now rs i r c.requires.fit here) in
    let index = next_index (take i rs) 0 old Whole before.answers r.client c.loop-number.invariant.answered in
    let answered = c.pump-answer.ensures.answered r here in
    let indexed = subst (λ (n : ℕ). IsAnswered old new (asked_entry r.client n r.what) c.pump-answer.result) c.count-index.ensures answered in
    let numbered = subst (λ (n : ℕ). IsAnswered old new (asked_entry r.client n r.what) c.pump-answer.result) index indexed in
    let one = pushed_one r.client c.pump-answer.result before.answers c.add.new.self.answers there c.add.ensures.answers in
    let more = take_at rs i r here in
    record {
      at = c.pump-answer.ensures.at;
      in_order = rw (add-one i, more) (in_order_next (take i rs) old new r c.pump-answer.result c.loop-number.invariant.in_order numbered);
      answered = rw (add-one i, more) (answered_next (take i rs) old new before.answers c.add.new.self.answers r c.pump-answer.result c.loop-number.invariant.answered indexed one);
      eight = rw c.add.ensures.answers (simp length-set c.loop-number.invariant.eight);
      room = room_left rs before c.add.new.self r.client c.pump-answer.result one c.add.ensures.room c.add.ensures.elsewhere c.loop-number.invariant.room;
      hints = c.pump-answer.ensures.hints;
      jobs = c.pump-answer.ensures.jobs;
      inbox_room = c.pump-answer.ensures.unchanged ∙ c.loop-number.invariant.inbox_room;
    }

pub returns-clause-in_order : goal.returns-clause-in_order
returns-clause-in_order g c =
    let rs = c.args.requests.now in
    let i = c.loop-number.number in
    let whole : take i rs ≡ rs = take_all i rs (let past = c.loop-number-test.false in let many = ap length c.as_slice-request-items.ensures in omega arith) in
    rw whole at c.loop-number.invariant.in_order

pub returns-clause-answered : goal.returns-clause-answered
returns-clause-answered g c =
    let rs = c.args.requests.now in
    let i = c.loop-number.number in
    let whole : take i rs ≡ rs = take_all i rs (let past = c.loop-number-test.false in let many = ap length c.as_slice-request-items.ensures in omega arith) in
    rw c.into_lists.ensures (rw whole at c.loop-number.invariant.answered)
