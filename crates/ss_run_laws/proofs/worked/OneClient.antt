-- One client alone: three calls, of which the last aborts; and a push that comes again, where no batch is pending.
use Rattle.std.proofs.Common.{◌≡◌, ◌==◌, ℕ, pos, codes, List, [], ◌∷◌, true, false, cond, Some, None, refl, subst, arith}
use Rattle.std.specs.FinMap as finmap
use Rattle.std.specs.FinMap.{get-insert}
use Rattle.std.proofs.lemmas.Cmp.{nat_list_cmp_total}
use Rattle.std.specs.List.{cons_option, filter_map}
use Rattle.ss_value.specs.declared.value.Value.TheVariants.{Int}
use Rattle.ss_model.specs.declared.entry.Asked.TheVariants.{Call as CallAsked, Push as PushAsked}
use Rattle.ss_model.specs.declared.entry.Listed.{Listed}
use Rattle.ss_model.specs.declared.entry.Outcome.TheVariants.{Duplicate}
use Rattle.ss_model.specs.declared.entry.Request.{Request}
use Rattle.ss_model.specs.Database.{Database, apply, empty_database}
use Rattle.ss_model.specs.InStep.{IsInStep}
use Rattle.ss_model.specs.Replays.{after}
use Rattle.ss_model.specs.Report.{Rising, asked_entries, client_index}
use Rattle.ss_model.proofs.Accounts as accounts
use Rattle.ss_model_laws.proofs.CallerLemmas.{empty_in_step, empty_whole, in_step_after}
use Rattle.ss_model_laws.proofs.worked.Workflow as flow
use Rattle.ss_model_laws.proofs.worked.WorkflowRun as run
use Rattle.ss_report_laws.specs.PartOf.{IsPartOf}
use Rattle.ss_standing.specs.Standing.{listed_entries}
use Rattle.ss_headline.specs.Owed.{ListsAsked, outside}
use Rattle.ss_run_laws.specs.OneClient.{RunsAlone, OneClientInOrder, OneClientOneReport}

-- ---- three calls

abbrev pub start : Database
start = empty_database accounts.accounts

abbrev pub calls : List Request
calls =
    record { line = 2; client = 0; what = CallAsked 0 (Int (pos 1) ∷ Int (pos 5) ∷ []) }
    ∷ record { line = 3; client = 0; what = CallAsked 1 [] }
    ∷ record { line = 4; client = 0; what = CallAsked 0 (Int (pos 1) ∷ Int (pos 9) ∷ []) }
    ∷ []

calls_rise : (client : ℕ) → Rising (filter_map (λ (l : Listed). client_index client l.entry) accounts.three_calls)
calls_rise client =
    elim (0 == client) as (λ b. Rising (cons_option (cond b (Some 0) None) (cons_option (cond b (Some 1) None) (cons_option (cond b (Some 2) None) []))))
    [ true ↦ (omega arith, (omega arith, tt)) | false ↦ tt ]

pub calls_alone : RunsAlone accounts.accounts start 0 calls accounts.three_calls
calls_alone = record {
  alone = (refl, (refl, (refl, tt)));
  in_step = (empty_whole accounts.accounts accounts.accepted).in_step;
  settled = refl;
  lists = record {
    replays = accounts.three_calls_replay;
    asked = ((0, omega arith, refl), ((1, omega arith, refl), ((2, omega arith, refl), tt)));
    in_turn = calls_rise;
  };
  none_accepted = λ s. refl;
}

calls_in_order : OneClientInOrder → IsPartOf (listed_entries accounts.three_calls) (asked_entries calls)
calls_in_order law = law accounts.accounts accounts.accepted start 0 calls accounts.three_calls calls_alone

-- each run that leaves none of the three out has just this list
calls_one_list : OneClientOneReport → (other : List Listed) → ListsAsked accounts.accounts start calls other → outside calls other ≡ 0 → accounts.three_calls ≡ other
calls_one_list law other lists none = (law accounts.accounts accounts.accepted start start refl 0 calls accounts.three_calls other calls_alone lists refl none).same_list

-- ---- a push that comes again behind its batch

abbrev pushes : List Request
pushes = record { line = 2; client = 0; what = PushAsked 0 (codes "a") 0 ((Int (pos 7) ∷ []) ∷ []) } ∷ []

abbrev again : List Listed
again = record { entry = run.push; outcome = Duplicate 1 } ∷ []

comes_again : apply flow.workflow run.joined run.push ≡ Some (record { db = run.joined; outcome = Duplicate 1; emitted = [] })
unfolding apply
comes_again = rw (get-insert {X = ℕ} nat_list_cmp_total finmap.empty (codes "a") 1 (codes "a")) refl

ends : after flow.workflow (empty_database flow.workflow) run.whole_batch ≡ run.joined
ends = rw run.pushes (rw run.splits (rw run.raises (rw run.adds (rw run.joins refl))))

in_step : IsInStep flow.workflow run.joined
in_step =
    let wired = flow.accepted.structure.streams.wired in
    subst (IsInStep flow.workflow) ends (in_step_after flow.workflow wired (empty_database flow.workflow) run.whole_batch (empty_in_step flow.workflow wired))

push_rises : (client : ℕ) → Rising (filter_map (λ (l : Listed). client_index client l.entry) again)
push_rises client = elim (0 == client) as (λ b. Rising (cons_option (cond b (Some 0) None) [])) [ true ↦ tt | false ↦ tt ]

push_alone : RunsAlone flow.workflow run.joined 0 pushes again
push_alone = record {
  alone = (refl, tt);
  in_step = in_step;
  settled = refl;
  lists = record { replays = rw comes_again (refl, tt); asked = ((0, omega arith, refl), tt); in_turn = push_rises };
  none_accepted = λ s. refl;
}

push_one_list : OneClientOneReport → (other : List Listed) → ListsAsked flow.workflow run.joined pushes other → outside pushes other ≡ 0 → again ≡ other
push_one_list law other lists none = (law flow.workflow flow.accepted run.joined run.joined refl 0 pushes again other push_alone lists refl none).same_list
