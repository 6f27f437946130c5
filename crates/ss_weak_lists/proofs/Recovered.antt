-- What recovering a list by its calls, pushes and installs comes to.
use Rattle.std.proofs.Common.{◌≡◌, ◌∙◌, List, refl, sym, ap, subst}
use Rattle.ss_model.specs.declared.catalog.Catalog.{Catalog}
use Rattle.ss_model.specs.declared.entry.Listed.{Listed}
use Rattle.ss_model.specs.Accepted.{Accepted}
use Rattle.ss_model.specs.Database.{Database, AppliedFits}
use Rattle.ss_model.specs.InStep.{IsInStep}
use Rattle.ss_model.specs.Orders.{ReplaysHaveOrders}
use Rattle.ss_model.specs.Replays.{Replays}
use Rattle.ss_model.specs.Settled.{WeakListsExist}
use Rattle.ss_model.specs.Settling.{Drained, after_entries, IsWeakList}
use Rattle.ss_model.specs.Asked.{listed_entries, asked_of, pushes_among}
use Rattle.ss_weak_lists.specs.WeakLists.{RecoversWeakly}
use Rattle.ss_weak_lists.proofs.Asked.{askable, asked_are, pushes_asked}
use Rattle.ss_weak_lists.proofs.Pushes.{same_pushes}
use Rattle.ss_weak_lists.proofs.WeakLists.{after_is, weak_holds}

pub recovers_weakly : AppliedFits → ReplaysHaveOrders → WeakListsExist → (catalog : Catalog) → Accepted catalog → (db : Database) → IsInStep catalog db → (list : List Listed) → Replays catalog db list
    → RecoversWeakly catalog db list
recovers_weakly fits orders exist catalog accepted db in_step list replays =
    let asked = asked_of (listed_entries list) in
    let w = exist catalog accepted db in_step asked in
    let (again, is, runs) = w.replays (askable fits catalog db list replays) in
    let weak : IsWeakList catalog db asked (listed_entries again) = subst (IsWeakList catalog db asked) (sym is) w.is_weak in
    let held : asked_of (listed_entries again) ≡ asked = weak_holds catalog asked db (listed_entries again) (asked_are (listed_entries list)) weak in
    let pushed : pushes_among (listed_entries again) ≡ pushes_among (listed_entries list) =
    sym (pushes_asked (listed_entries again)) ∙ ap pushes_among held ∙ pushes_asked (listed_entries list) in
    let same = same_pushes catalog db db again list refl runs replays pushed in
    record {
      again = again;
      is_weak = weak;
      only = λ other h. w.only other h ∙ sym is;
      replays = runs;
      orders = orders catalog db again accepted.structure.streams.wired in_step.matched runs;
      drained = subst (Drained catalog) (sym (after_is catalog db again ∙ ap (after_entries catalog db) is)) w.drained;
      asked = held;
      pushes = same.outcomes;
      next_numbers = same.next_numbers;
    }
