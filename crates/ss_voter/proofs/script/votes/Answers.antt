use Rattle.std.proofs.Common.{◌≡◌, ◌∙◌, ◌+◌, ℕ, sym, ap, List, [], ◌∷◌, ◌++◌, map, append_assoc, add-one, arith}
use Rattle.std.specs.List.{list_all, range_with_len}
use Rattle.std.proofs.lemmas.List.FromFn.{map-range_with_len_more}
use Rattle.ss_model.specs.declared.entry.Request.{Request}
use Rattle.ss_model.specs.Database.{fits_entry}
use Rattle.ss_model.specs.Report.{asked_entries}
use Rattle.ss_voter.specs.Generator.{next_state, state}
use Rattle.ss_voter.specs.Script.{show_requests, vote, vote_made, vote_requests}
use Rattle.ss_voter.proofs.Fitting.{script_fits}
use Rattle.ss_voter.proofs.script.votes.Goals as goal

pub loop-number-preserved : goal.loop-number-preserved
loop-number-preserved c =
    let seed = c.args.seed in
    let count = c.args.count in
    let clients = c.args.clients in
    let i = c.loop-number.number in
    let before = c.loop-number.requests in
    let made = map (vote seed count clients) (range_with_len 0 i) in
    let state_is : c.next_state-state.result ≡ state seed (i + 1) = c.next_state-state.ensures ∙ ap next_state c.loop-number.invariant.state_is ∙ ap (state seed) (sym (add-one i)) in
    let vote_is : c.in_ok-vote_made.field-0 ≡ vote seed count clients i = c.in_ok-vote_made.ensures ∙ ap (vote_made count clients i) state_is in
    record {
      made =
          c.in_ok-push.ensures.ok
          ∙ ap (λ (r : Request). before ++ r ∷ []) vote_is
          ∙ ap (λ (rs : List Request). rs ++ vote seed count clients i ∷ []) c.loop-number.invariant.made
          ∙ append_assoc show_requests made (vote seed count clients i ∷ [])
          ∙ ap (λ (rs : List Request). show_requests ++ rs) (sym (map-range_with_len_more (vote seed count clients) 0 i i (omega arith)));
      state_is = state_is;
    }

pub returns-clause-fit : goal.returns-clause-fit
returns-clause-fit c =
    let catalog = c.args.catalog.now in
    let seed = c.args.seed in
    let clients = c.args.clients in
    let over : c.loop-number.number ≡ c.args.count = omega arith in
    let whole : c.loop-number.requests ≡ vote_requests seed c.args.count clients =
    c.loop-number.invariant.made ∙ ap (λ (n : ℕ). show_requests ++ map (vote seed c.args.count clients) (range_with_len 0 n)) over in
    ap (λ (rs : List Request). list_all (fits_entry catalog) (asked_entries rs)) whole
    ∙ script_fits catalog seed c.args.count clients c.requires.voter c.requires.few c.requires.some_client c.requires.few_clients
