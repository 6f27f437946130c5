-- Groups added one after another.
use Rattle.std.proofs.Common.{◌≡◌, ⊎_elim, ℕ, ◌+◌, ◌≤◌, List, [], ◌++◌, length, take, drop, Result, OnOk, IsErrOf, Ok, refl, sym, ◌∙◌, ap, subst, arith, append_assoc, append-nil, length-append, length-drop, take-append-drop, take_at}
use Rattle.std.specs.List.{flat_map}
use Rattle.std.proofs.lemmas.Grind.{flat_map-append}
use Rattle.std.proofs.lemmas.List.{append_cancel_right, drop-drop}
use Rattle.std.proofs.lemmas.List.Elements.{filter-append}
use Rattle.ss_disk.specs.Kinds.{DiskKind}
use Rattle.ss_model.specs.declared.entry.Entry.{Entry}
use Rattle.ss_model.specs.declared.entry.Mode.{Mode}
use Rattle.ss_disk.specs.Files.{Files}
use Rattle.ss_disk.specs.Moments.{LeavesOnly}
use Rattle.ss_disk.proofs.CallerLemmas.{no_call, runs_join, leaves_less, stays_join}
use Rattle.ss_cmdlog.specs.declared.log.CmdLog.{CmdLog}
use Rattle.ss_cmdlog.specs.declared.log.LogError.{LogError}
use Rattle.ss_cmdlog.specs.declared.log.LogError.TheVariants.{NoMemory}
use Rattle.ss_cmdlog.specs.Generation.{Stood}
use Rattle.ss_cmdlog.specs.Store.{StandsFor, StandsForPart, with_groups}
use Rattle.ss_cmdlog.specs.Groups.{groups_of}
use Rattle.ss_cmdlog.specs.Log.{IsOpen, AddsGroups, AddsSome, HasAtLeast, KeepsCounts}
use Rattle.ss_cmdlog.specs.Logged.{is_logged, logged}
use Rattle.ss_cmdlog.proofs.Flat.{groups_hold}
use Rattle.ss_cmdlog.proofs.Logs.{open_here}
use Rattle.ss_cmdlog.proofs.Staying.{nothing_stays}

pub with_none : (s : Stood) → with_groups s [] ≡ s
with_none s = ap (λ (gs : List (List Entry)). record { bodies = s.bodies; mode = s.mode; first = s.first; image = s.image; groups = gs }) (append-nil s.groups)

with_more : (s : Stood) (gs hs : List (List Entry)) → with_groups (with_groups s gs) hs ≡ with_groups s (gs ++ hs)
with_more s gs hs = ap (λ (l : List (List Entry)). record { bodies = s.bodies; mode = s.mode; first = s.first; image = s.image; groups = l }) (append_assoc s.groups gs hs)

-- all of some groups that others follow
part : (s : Stood) (all done rest : List (List Entry)) (image : Files) → all ≡ done ++ rest → StandsFor image (with_groups s done) → StandsForPart s all image
part s all done rest image split stands = (
  length done,
  omega (arith, ap length split, length-append done rest),
  subst (λ (l : List (List Entry)). StandsFor image (with_groups s l)) (sym (ap (λ (l : List (List Entry)). take (length done) l) split ∙ take_at done rest (length done) refl)) stands,
)

module _ {D : Type 0} (kind : DiskKind D) where
  -- the groups of the entries that a log of this mode has are added up to the entries that are left
  pub record SoFar (mode : Mode) (old now : CmdLog D) (entries rest : List Entry) : Type 0 where
    pub taken : ℕ
    pub within : taken ≤ length entries
    pub rest_is : rest ≡ drop taken entries
    pub counted : now.count ≡ old.count + taken
    pub done : List (List Entry)
    pub split : groups_of (logged mode entries) ≡ done ++ groups_of (logged mode rest)
    pub opens : (s : Stood) → s.mode ≡ mode → IsOpen kind old s → IsOpen kind now (with_groups s done)
    pub moments : kind.honest → (s : Stood) → s.mode ≡ mode → IsOpen kind old s → LeavesOnly kind.moment kind.images old.disk now.disk (StandsForPart s (groups_of (logged mode entries)))
    pub stays : kind.honest → (s : Stood) → s.mode ≡ mode → IsOpen kind old s → KeepsCounts kind.moment kind.images (kind.moment old.disk) now.disk

  pub begun : (kind.honest → kind.tells) → (mode : Mode) (log : CmdLog D) (entries : List Entry) → SoFar mode log log entries entries
  begun honest_tells mode log entries = record {
    taken = 0;
    within = omega arith;
    rest_is = refl;
    counted = omega arith;
    done = [];
    split = refl;
    opens = λ s of is. subst (λ (t : Stood). IsOpen kind log t) (sym (with_none s)) is;
    moments = λ true' s of is. no_call kind.moment kind.images log.disk (StandsForPart s (groups_of (logged mode entries))) (λ image left.
        part s (groups_of (logged mode entries)) [] (groups_of (logged mode entries)) image refl
        (subst (λ (t : Stood). StandsFor image t) (sym (with_none s)) (open_here kind log s is (honest_tells true') true' image left)));
    stays = λ true' s of is. nothing_stays kind.moment kind.images log.disk;
  }

  module _ (mode : Mode) (old mid new : CmdLog D) (result : Result (Unit {0}) LogError) (entries rest : List Entry) (n : ℕ) (few : n ≤ length rest) (g : List (List Entry)) (so_far : SoFar mode old mid entries rest)
      (next : groups_of (logged mode rest) ≡ g ++ groups_of (logged mode (drop n rest)))
      (adds : (s : Stood) → s.mode ≡ mode → IsOpen kind mid s → AddsGroups kind mid new result s g) where
    split_more : groups_of (logged mode entries) ≡ (so_far.done ++ g) ++ groups_of (logged mode (drop n rest))
    split_more = so_far.split ∙ ap (λ (l : List (List Entry)). so_far.done ++ l) next ∙ sym (append_assoc so_far.done g (groups_of (logged mode (drop n rest))))

    -- while the next group is added, and afterwards
    pub moments_more : kind.honest → (s : Stood) → s.mode ≡ mode → IsOpen kind old s → LeavesOnly kind.moment kind.images old.disk new.disk (StandsForPart s (groups_of (logged mode entries)))
    moments_more true' s of is =
        let all = groups_of (logged mode entries) in
        runs_join kind.moment kind.images old.disk mid.disk new.disk (StandsForPart s all) (so_far.moments true' s of is)
        (leaves_less kind.moment kind.images mid.disk new.disk _ (StandsForPart s all) ((adds (with_groups s so_far.done) of (so_far.opens s of is)).moments true')
        (λ image either. ⊎_elim
        (λ (before : StandsFor image (with_groups s so_far.done)). part s all so_far.done (groups_of (logged mode rest)) image so_far.split before)
        (λ (after : StandsFor image (with_groups (with_groups s so_far.done) g)).
        part s all (so_far.done ++ g) (groups_of (logged mode (drop n rest))) image split_more (subst (λ (t : Stood). StandsFor image t) (with_more s so_far.done g) after))
        either))

    -- what stood at one of its moments stands at the later ones
    pub stays_more : kind.honest → (s : Stood) → s.mode ≡ mode → IsOpen kind old s → KeepsCounts kind.moment kind.images (kind.moment old.disk) new.disk
    stays_more true' s of is n =
        let group = adds (with_groups s so_far.done) of (so_far.opens s of is) in
        stays_join kind.moment kind.images (HasAtLeast n) (kind.moment old.disk) mid.disk new.disk _ (so_far.stays true' s of is n) (group.moments true') (group.stays true' n)

    -- one group more is there
    pub added : result ≡ Ok tt → new.count ≡ mid.count + n → SoFar mode old new entries (drop n rest)
    added ok counts = record {
      taken = so_far.taken + n;
      within = omega (arith, so_far.within, few, ap length so_far.rest_is, length-drop so_far.taken entries);
      rest_is = ap (drop n) so_far.rest_is ∙ drop-drop n so_far.taken entries;
      counted = omega (arith, counts, so_far.counted);
      done = so_far.done ++ g;
      split = split_more;
      opens = λ s of is. subst (λ (t : Stood). IsOpen kind new t) (with_more s so_far.done g)
          (subst (λ (r : Result (Unit {0}) LogError). OnOk r (IsOpen kind new (with_groups (with_groups s so_far.done) g))) ok (adds (with_groups s so_far.done) of (so_far.opens s of is)).done);
      moments = moments_more;
      stays = stays_more;
    }

    -- the group had no room, and the log goes on behind those before it
    pub kept_so_far : IsErrOf result NoMemory → new.count ≡ mid.count → SoFar mode old new entries rest
    kept_so_far refused same = record {
      taken = so_far.taken;
      within = so_far.within;
      rest_is = so_far.rest_is;
      counted = same ∙ so_far.counted;
      done = so_far.done;
      split = so_far.split;
      opens = λ s of is. (adds (with_groups s so_far.done) of (so_far.opens s of is)).kept refused;
      moments = moments_more;
      stays = stays_more;
    }

  -- the groups that were added have the entries up to those that are left
  done_are : (mode : Mode) (old now : CmdLog D) (entries rest : List Entry) → (so_far : SoFar mode old now entries rest) → flat_map (λ (es : List Entry). es) so_far.done ≡ logged mode (take so_far.taken entries)
  done_are mode old now entries rest so_far =
      let flat = flat_map (λ (es : List Entry). es) so_far.done in
      let all : logged mode entries ≡ flat ++ logged mode rest =
      sym (groups_hold (logged mode entries)) ∙ ap (flat_map (λ (es : List Entry). es)) so_far.split ∙ flat_map-append (λ (es : List Entry). es) so_far.done (groups_of (logged mode rest)) ∙ ap (λ l. flat ++ l) (groups_hold (logged mode rest)) in
      let parts : logged mode entries ≡ logged mode (take so_far.taken entries) ++ logged mode rest =
      ap (logged mode) (sym (take-append-drop so_far.taken entries)) ∙ filter-append (is_logged mode) (take so_far.taken entries) (drop so_far.taken entries) ∙ ap (λ l. logged mode (take so_far.taken entries) ++ logged mode l) (sym so_far.rest_is) in
      append_cancel_right flat (logged mode (take so_far.taken entries)) (logged mode rest) (sym all ∙ parts)

  -- a log that goes on with the groups that were added
  pub open_so_far : (old now : CmdLog D) (entries rest : List Entry) (s : Stood) → SoFar s.mode old now entries rest → IsOpen kind old s → AddsSome kind old now s entries
  open_so_far old now entries rest s so_far is =
      let all = groups_of (logged s.mode entries) in
      let firsts : take (length so_far.done) all ≡ so_far.done = ap (take (length so_far.done)) so_far.split ∙ take_at so_far.done (groups_of (logged s.mode rest)) (length so_far.done) refl in
      record {
        some = so_far.taken;
        within = so_far.within;
        counted = so_far.counted;
        groups = length so_far.done;
        are = ap (flat_map (λ (es : List Entry). es)) firsts ∙ done_are s.mode old now entries rest so_far;
        opens = subst (λ (l : List (List Entry)). IsOpen kind now (with_groups s l)) (sym firsts) (so_far.opens s refl is);
      }

  -- where nothing is left, all groups are there
  pub open_all : (old now : CmdLog D) (entries rest : List Entry) (s : Stood) → rest ≡ [] → SoFar s.mode old now entries rest → IsOpen kind old s
      → IsOpen kind now (with_groups s (groups_of (logged s.mode entries)))
  open_all old now entries rest s none so_far is =
      subst (λ (l : List (List Entry)). IsOpen kind now (with_groups s l))
      (sym (so_far.split ∙ ap (λ (l : List Entry). so_far.done ++ groups_of (logged s.mode l)) none ∙ append-nil so_far.done)) (so_far.opens s refl is)
