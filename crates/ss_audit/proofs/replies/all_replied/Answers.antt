use Rattle.std.proofs.Common.{◌≡◌, ◌∙◌, ◌+◌, ℕ, List, [], ◌∷◌, length, take, drop, slice_get, Ok, Some, refl, ap, subst, arith, length-take}
use Rattle.std.proofs.lemmas.List.{drop_all}
use Rattle.std.proofs.lemmas.Result.{IfErr-weaker, err_from_is_err_and}
use Rattle.ss_lemmas.proofs.Results.{on_so}
use Rattle.serde_json.specs.Data.{Data}
use Rattle.serde_json.specs.View.{view}
use Rattle.ss_audit_laws.specs.Checks.{all_say, called_replies, called_reply, first_by}
use Rattle.ss_audit.specs.declared.broken.Broken.{Broken}
use Rattle.ss_audit.specs.declared.positions.Placed.{Placed}
use Rattle.ss_audit.specs.Breaks.{BreaksAs}
use Rattle.ss_audit.specs.Saying.{LeavesBehind}
use Rattle.ss_audit.proofs.Placing.{as_many, index_beside, many_of, placed_as, reply_here}
use Rattle.ss_audit.proofs.Saying.{ComesTo, breaks_left, breaks_more, breaks_same, breaks_whole, said_more, told_all}
use Rattle.ss_audit.proofs.replies.all_replied.Goals as goal

pub index_at-index-requires : goal.index_at-index-requires
index_at-index-requires c =
    let long = ap (λ (ps : List Placed). length ps) c.requires.placed ∙ as_many [] c.args.requests.now in
    omega arith

pub loop-at-init : goal.loop-at-init
loop-at-init c = λ more. refl

pub loop-at-preserved : goal.loop-at-preserved
loop-at-preserved c =
    let all = c.args.requests.now in
    let entries = c.args.entries.now in
    let i = c.loop-at.at in
    let r = c.index-requests-at.result in
    let within = c.loop-at-test.true in
    let is = c.index-requests-at.is in
    let long : length (take i all) ≡ i = simp length-take (omega arith) in
    let n = many_of r.client (take i all) in
    let beside : slice_get c.args.placed.now i ≡ Some (placed_as r n i) = ap (λ (ps : List Placed). slice_get ps i) c.requires.placed ∙ index_beside all i r within is long in
    let reply = c.in_ok-reply.ensures.says ∙ ap (λ (k : ℕ). called_reply r.line (first_by r.client k entries)) (c.index_at-index.ensures (placed_as r n i) beside) in
    said_more c.args.end (called_reply r.line (first_by r.client n entries) ∷ []) (called_replies entries (take (i + 1) all) (drop (i + 1) all)) (called_replies entries [] all) c.loop-at.rest.now c.in_ok-behind.behind.now c.args.replies.now
    (subst (λ (d : Data). LeavesBehind c.args.end (d ∷ []) c.loop-at.rest.now c.in_ok-behind.behind.now) reply c.in_ok-behind.ensures.ok)
    (subst (λ (ds : List Data). ComesTo c.args.end ds c.loop-at.rest.now (called_replies entries [] all) c.args.replies.now) (reply_here all i r within is long entries) c.loop-at.invariant)

pub returns-in_err-behind-clause-broken : goal.returns-in_err-behind-clause-broken
returns-in_err-behind-clause-broken c =
    let all = c.args.requests.now in
    let entries = c.args.entries.now in
    let i = c.loop-at.at in
    let r = c.index-requests-at.result in
    let within = c.loop-at-test.true in
    let is = c.index-requests-at.is in
    let long : length (take i all) ≡ i = simp length-take (omega arith) in
    let n = many_of r.client (take i all) in
    let beside : slice_get c.args.placed.now i ≡ Some (placed_as r n i) = ap (λ (ps : List Placed). slice_get ps i) c.requires.placed ∙ index_beside all i r within is long in
    let reply = c.in_ok-reply.ensures.says ∙ ap (λ (k : ℕ). called_reply r.line (first_by r.client k entries)) (c.index_at-index.ensures (placed_as r n i) beside) in
    let p = err_from_is_err_and c.from_residual-in_err-behind.result c.from_residual-in_err-behind.ensures.1 in
    rw (p.1, p.2)
    (breaks_whole c.args.end (called_replies entries [] all) c.args.replies.now _
    (breaks_more c.args.end (called_reply r.line (first_by r.client n entries) ∷ []) (called_replies entries (take (i + 1) all) (drop (i + 1) all)) (called_replies entries [] all) c.loop-at.rest.now c.args.replies.now _
    (breaks_same c.args.end (view c.in_ok-reply.reply) (called_reply r.line (first_by r.client n entries)) c.loop-at.rest.now _ reply c.in_err-behind.ensures.broken)
    (subst (λ (ds : List Data). ComesTo c.args.end ds c.loop-at.rest.now (called_replies entries [] all) c.args.replies.now) (reply_here all i r within is long entries) c.loop-at.invariant)))

pub returns-clause-ok : goal.returns-clause-ok
returns-clause-ok c =
    let all = c.args.requests.now in
    let every = called_replies c.args.entries.now [] all in
    let none : drop c.loop-at.at all ≡ [] = drop_all c.loop-at.at all (omega (arith, c.loop-at-test.false)) in
    let so_far = rw none at c.loop-at.invariant in
    on_so c.nothing_left.result ((end : ℕ) → all_say end [] c.loop-at.rest.now ≡ Ok tt) (all_say c.args.end every c.args.replies.now ≡ Ok tt)
    (λ told. told_all c.args.end every c.loop-at.rest.now c.args.replies.now so_far (told c.args.end)) c.nothing_left.ensures.ok

pub returns-clause-broken : goal.returns-clause-broken
returns-clause-broken c =
    let all = c.args.requests.now in
    let every = called_replies c.args.entries.now [] all in
    let none : drop c.loop-at.at all ≡ [] = drop_all c.loop-at.at all (omega (arith, c.loop-at-test.false)) in
    let so_far = rw none at c.loop-at.invariant in
    IfErr-weaker c.nothing_left.result (λ (e : Broken). (end : ℕ) → BreaksAs (all_say end [] c.loop-at.rest.now) e) (BreaksAs (all_say c.args.end every c.args.replies.now))
    (λ e broken. breaks_left c.args.end every c.loop-at.rest.now c.args.replies.now e so_far (broken c.args.end)) c.nothing_left.ensures.broken
