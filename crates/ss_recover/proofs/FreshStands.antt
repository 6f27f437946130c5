-- What is read as the empty database goes on standing: it has none of the calls and pushes of a list.
use Rattle.std.proofs.Common.{◌≡◌, ◌∙◌, inl, inr, ℕ, ◌+◌, ◌≤◌, List, [], ◌∷◌, length, take, ap, arith, sym}
use Rattle.ss_model.specs.declared.catalog.Catalog.{Catalog}
use Rattle.ss_model.specs.declared.entry.Entry.{Entry}
use Rattle.ss_model.specs.declared.entry.Listed.{Listed}
use Rattle.ss_model.specs.Database.{Database as Model}
use Rattle.ss_model.specs.Recovery.{Origin, Weak}
use Rattle.ss_model.specs.Replays.{after}
use Rattle.ss_disk.specs.Files.{Files}
use Rattle.ss_disk.specs.Moments.{AnyMoment}
use Rattle.ss_cmdlog.specs.Formatting.{LeavesSome}
use Rattle.ss_cmdlog.specs.Generation.{Stood}
use Rattle.ss_cmdlog.specs.Store.{IsEmpty, StandsFor, entries_of}
use Rattle.ss_cmdlog.proofs.CallerLemmas.{files_stand_for_one}
use Rattle.ss_fronts.specs.Fronts.{StandsOnBy}
use Rattle.ss_fronts.specs.WeakFronts.{HasAsked, asked_between}
use Rattle.ss_fronts.specs.WeakReads.{WeakReads}

-- a store isn't empty
pub not_both : (image : Files) (s : Stood) → IsEmpty image → StandsFor image s → ⊥
not_both image s empty stands = (let none : [] ≡ stands.byte ∷ [] = sym empty ∙ stands.selector in cc)

-- how a store is had again that was made just now: of its history nothing is known
abbrev pub fresh_origin : Model → Origin
fresh_origin db = record { place = 0; db = db; known = [] }

module _ (catalog : Catalog) (db : Model) where
  -- whatever files are read as that are read so, it is at place 0, with nothing behind it
  read_once : (image : Files) (place : ℕ) (x : Model) (es : List Entry) → WeakReads catalog image 0 db [] → WeakReads catalog image place x es → (place ≡ 0) × (es ≡ [])
  read_once image place x es (inl a) (inr b) = absurd (not_both image b.stood a.empty b.stands)
  read_once image place x es (inl a) (inl b) = (b.none, b.no_entries)
  read_once image place x es (inr a) (inl b) = (b.none, b.no_entries)
  read_once image place x es (inr a) (inr b) =
      let same = files_stand_for_one image b.stood a.stood b.stands a.stands in
      (sym b.read.first ∙ ap (λ (s : Stood). s.first) same ∙ a.read.first, sym b.read.entries_are ∙ ap entries_of same ∙ a.read.entries_are)

  has_none : (list : List Listed) (image : Files) (n : ℕ) → WeakReads catalog image 0 db [] → n ≤ 0 → HasAsked catalog db 0 list n image
  has_none list image n reads none = record {
    front = record { before = 0; some = 0; ordered = omega arith; within = omega arith; enough = omega arith; reads = reads };
    enough = omega (arith, none);
  }

  no_more : (list : List Listed) (image : Files) (n : ℕ) → WeakReads catalog image 0 db [] → HasAsked catalog db 0 list n image → n ≤ 0
  no_more list image n reads has =
      let front = has.front in
      let once = read_once image (0 + front.before) (after catalog db (take front.before list)) (asked_between front.before front.some list) reads front.reads in
      let first : 0 ≡ front.before = omega (arith, once.0) in
      let none : asked_between 0 front.some list ≡ [] = ap (λ (m : ℕ). asked_between m front.some list) first ∙ once.1 in
      omega (arith, has.enough, ap (λ (es : List Entry). length es) none)

  -- where a crash at each moment leaves something, and all of it is read so, what stands of any list stays
  pub fresh_stands_on : {D : Type 0} (moment : D → ℕ) (images : D → ℕ → Files → Type 0) (from : ℕ) (now : D) → LeavesSome moment images from now → AnyMoment moment images from now (λ image. WeakReads catalog image 0 db [])
      → (list : List Listed) → StandsOnBy (Weak (fresh_origin db)) catalog list moment images from now
  fresh_stands_on moment images from now some reads list = λ n t u le rise within all image left.
      let there = some t le (omega (arith, rise, within)) in
      let least = no_more list there.0 n (reads t there.0 le (omega (arith, rise, within)) there.1) (all there.0 there.1) in
      has_none list image n (reads u image (omega (arith, le, rise)) within left) least
