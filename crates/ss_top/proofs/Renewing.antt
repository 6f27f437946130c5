-- A strong store that wasn't opened: what was made meanwhile stands for what the disk did, whatever more bodies there are.
use Rattle.std.proofs.Common.{◌≡◌, ◌∙◌, ◌⊎◌, ◌<◌, ◌^◌, inl, inr, ℕ, true, List, [], ◌∷◌, length, Ok, Some, refl, sym, ap, subst, arith}
use Rattle.std.proofs.lemmas.List.{length-map}
use Rattle.ss_model.specs.declared.catalog.Catalog.{Catalog}
use Rattle.ss_model.specs.declared.entry.Listed.{Listed}
use Rattle.ss_model.specs.declared.entry.Mode.{Mode}
use Rattle.ss_model.specs.declared.entry.Mode.TheVariants as modes
use Rattle.ss_model.specs.Asked.{listed_entries}
use Rattle.ss_model.specs.Database.{Database as Model, empty_database}
use Rattle.ss_model.specs.Recovery.{Recovery, Strong, Weak}
use Rattle.ss_model.specs.Replays.{after}
use Rattle.ss_model.specs.Settling.{kept}
use Rattle.ss_model.specs.SparesAside.{with_spares}
use Rattle.ss_model.specs.WholeDatabase.{WholeDatabase, WholenessStays}
use Rattle.ss_model_laws.proofs.CallerLemmas.{whole_after}
use Rattle.ss_disk.specs.Files.{Files, file}
use Rattle.ss_disk.specs.Kinds.{DiskKind, present}
use Rattle.ss_disk.proofs.CallerLemmas.{leaves_less, stays_fewer}
use Rattle.ss_cmdlog.specs.Generation.{Spells, Stood}
use Rattle.ss_cmdlog.specs.Opening.{OnlyReads, in_file, store_at, store_by}
use Rattle.ss_cmdlog.specs.Reading.{generation_at}
use Rattle.ss_cmdlog.specs.Store.{IsEmpty, StandsFor, current_file, entries_of}
use Rattle.ss_cmdlog.proofs.CallerLemmas.{files_stand_for_one}
use Rattle.ss_standing.specs.Checkpoints.{checkpoint_of}
use Rattle.ss_standing.specs.Standing.{IsImageAt, Replayed, Stands, StandsForAtLeast}
use Rattle.ss_fronts.specs.Fronts.{FrontStands, StoodAs, mode_of}
use Rattle.ss_headline.proofs.CallerLemmas.{no_list_stands}
use Rattle.ss_incarnations.specs.Openings.{StandForSame}
use Rattle.ss_snapshot.specs.Bodies.{GrowsTo}
use Rattle.ss_snapshot.specs.Own.{SameButSpares}
use Rattle.ss_recover.specs.Faults.{IsStore, ReplaysAs}
use Rattle.ss_recover.specs.Loading.{IsListOf}
use Rattle.ss_recover.specs.Recovering.{IsOwnCatalog, LeadsTo, MayForm, MayHaveFormed, MayMake, MayRenew}
use Rattle.ss_recover.proofs.OlderForm.{bytes_same, fits_same, installs_none, kept_same, leads_any}
use Rattle.ss_top.specs.Turns.{HoldsStrong, NothingOpened}
use Rattle.ss_top.proofs.Growing.{GrowthLaws, nothing_more, stands_more}

-- what is spelled is read
abbrev pub SpelledIsRead : Type 0
SpelledIsRead = (bytes : List ℕ) (s : Stood) → Spells bytes s → generation_at bytes ≡ Ok s

-- so what the files stand for they are read as
store_read : SpelledIsRead → (disk : Files) (s : Stood) → StandsFor disk s → store_at disk ≡ Ok s
store_read read disk s stands =
    ap (λ (bytes : List ℕ). store_by bytes disk) stands.selector ∙ ap (in_file (current_file stands.byte)) (read (file (current_file stands.byte) disk) s stands.current)

-- a store isn't empty
not_both : (disk : Files) (s : Stood) → IsEmpty disk → StandsFor disk s → ⊥
not_both disk s empty stands = (let none : [] ≡ stands.byte ∷ [] = sym empty ∙ stands.selector in cc)

-- ---- a checkpoint in place of a store of an older form

module _ (laws : GrowthLaws) (stays : WholenessStays) (read : SpelledIsRead) (given : Catalog) (own : IsOwnCatalog given) (b : Catalog) (grows : GrowsTo given b) (disk image : Files) where
  module _ (renew : MayRenew modes.Strong (Some given) disk image) where
    abbrev a : Catalog
    a = renew.catalog

    abbrev s : Stood
    s = renew.store.s

    grown : GrowsTo given a
    grown = renew.given_one given refl

    same : SameButSpares a b
    same = ap (λ (c : Catalog). with_spares c []) grown.same ∙ sym (ap (λ (c : Catalog). with_spares c []) grows.same)

    stood_so : (recovery : Recovery) → mode_of recovery ≡ modes.Strong → StoodAs recovery a renew.db renew.first disk → Stands a disk renew.first (kept a renew.db)
    stood_so Strong is stood = stood
    stood_so (Weak o) is stood = absurd (cc)

    front_so : (recovery : Recovery) → mode_of recovery ≡ modes.Strong → FrontStands recovery a renew.db renew.first [] renew.first image → Stands a image renew.first (kept a renew.db)
    front_so Strong is front = no_list_stands a renew.db renew.first image front
    front_so (Weak o) is front = absurd (cc)

    -- the generation that was read
    pub record Found : Type 0 where
      pub stands : StandsFor disk s
      pub replayed : Replayed a s renew.first (kept a renew.db)

    pub found : Found
    found = by (stood_so renew.recovery renew.of_mode renew.stood)
      where
        by : Stands a disk renew.first (kept a renew.db) → Found
        by (inl none) = absurd (let none : [] ≡ renew.store.reads.byte ∷ [] = sym none.empty ∙ renew.store.reads.selector in cc)
        by (inr r) =
            let same' : Ok r.stood ≡ Ok s = sym (store_read read disk r.stood r.stands) ∙ renew.store.reads.read in
            let is : r.stood ≡ s = cc in
            record { stands = subst (StandsFor disk) is r.stands; replayed = subst (λ (g : Stood). Replayed a g renew.first (kept a renew.db)) is r.replayed }

    abbrev there : Replayed a s renew.first (kept a renew.db)
    there = found.replayed

    led : LeadsTo a s there.list renew.first renew.db
    led = record {
      opening = there.opening;
      image = there.image;
      entries = subst (λ (m : Mode). IsListOf m a there.opening (entries_of s) there.list) (sym there.strong) there.entries;
      replays = there.replays;
      placed = there.count_is;
      reached = there.kept_is;
    }

    -- it leads there in each catalogue with more bodies
    led_more : LeadsTo b s there.list renew.first renew.db
    led_more = leads_any a b same laws.aside renew.own.0 grows.accepted s there.list renew.first renew.db renew.older (installs_none s found.stands.current.stood renew.older) led

    replayed_here : Replayed b s renew.first (kept b renew.db)
    replayed_here = record {
      strong = there.strong;
      opening = led_more.opening;
      image = led_more.image;
      list = there.list;
      entries = there.entries;
      replays = led_more.replays;
      count_is = led_more.placed;
      kept_is = led_more.reached;
    }

    disk_stands : Stands b disk renew.first (kept b renew.db)
    disk_stands = inr (record { stood = s; stands = found.stands; replayed = replayed_here })

    -- and so does the checkpoint
    abbrev next : Stood
    next = checkpoint_of modes.Strong a renew.first renew.db

    whole_next : (d : Model) → kept a renew.db ≡ kept a d → WholeDatabase b d
    whole_next d is =
        stays b (after b led_more.opening there.list) d (sym led_more.reached ∙ (sym (kept_same a b same renew.db) ∙ is ∙ kept_same a b same d))
        (whole_after b grows.accepted led_more.opening there.list led_more.image.whole)

    next_stands : StandsFor image next → Stands b image renew.first (kept b renew.db)
    next_stands stands = by (front_so renew.recovery renew.of_mode renew.front)
      where
        in_place : (d : Model) (list : List Listed) → IsImageAt a true renew.first next.image d → listed_entries list ≡ [] → kept a renew.db ≡ kept a (after a d list) → Replayed b next renew.first (kept b renew.db)
        in_place d [] is none same' = record {
          strong = refl;
          opening = d;
          image = record { whole = whole_next d same'; had = is.had; fits = fits_same a b same true d is.fits; spelled = is.spelled ∙ bytes_same a b same true d };
          list = [];
          entries = refl;
          replays = tt;
          count_is = omega arith;
          kept_is = sym (kept_same a b same renew.db) ∙ same' ∙ kept_same a b same d;
        }
        in_place d (l ∷ ls) is none same' = absurd (cc)

        by : Stands a image renew.first (kept a renew.db) → Stands b image renew.first (kept b renew.db)
        by (inl none) = absurd (not_both image next none.empty stands)
        by (inr r) =
            let is = files_stand_for_one image r.stood next r.stands stands in
            let replayed : Replayed a next renew.first (kept a renew.db) = subst (λ (g : Stood). Replayed a g renew.first (kept a renew.db)) is r.replayed in
            inr (record { stood = next; stands = stands; replayed = in_place replayed.opening replayed.list replayed.image replayed.entries replayed.kept_is })

    image_stands : StandsFor image s ⊎ StandsFor image next → Stands b image renew.first (kept b renew.db)
    image_stands (inl stands) = inr (record { stood = s; stands = stands; replayed = replayed_here })
    image_stands (inr stands) = next_stands stands

    renewed_same : StandForSame b disk image
    renewed_same = (renew.first, kept b renew.db, disk_stands, image_stands renew.made)

    -- what it was a store of it is one of with more bodies
    renewed_store : IsStore modes.Strong disk b
    renewed_store =
        let was = renew.store in
        let all : ReplaysAs modes.Strong a was.db s.first (entries_of s) = was.replays in
        record {
          which = was.which;
          s = s;
          reads = was.reads;
          of_mode = was.of_mode;
          accepted = grows.accepted;
          db = led_more.opening;
          image = record {
            own = grows.own;
            short = subst (λ (c : Catalog). length c.text < 2 ^ 32) same was.image.short;
            image = led_more.image;
          };
          replays = record {
            list = there.list;
            entries_are = there.entries;
            replays = led_more.replays;
            few = (let many : length (listed_entries all.list) ≡ length (listed_entries there.list) = ap (λ es. length es) (all.entries_are ∙ sym there.entries) in omega (arith, all.few, many, length-map all.list (λ (l : Listed). l.entry), length-map there.list (λ (l : Listed). l.entry)));
          };
        }

  -- ---- a store that was being made

  formed_same : MayForm modes.Strong (Some given) disk image → StandForSame b disk image
  formed_same (empty, stands) = (
    0,
    kept b (empty_database b),
    inl (record { empty = empty; none = refl; nothing = refl }),
    subst (Stands b image 0) (sym (nothing_more laws given b own grows)) (stands_more laws given b own grows image 0 (kept given (empty_database given)) stands),
  )

  pub made_same : MayMake modes.Strong (Some given) disk image → StandForSame b disk image
  made_same (inl formed) = formed_same formed
  made_same (inr renew) = renewed_same renew

  pub made_was : MayMake modes.Strong (Some given) disk image → HoldsStrong b disk
  made_was (inl formed) = inl formed.0
  made_was (inr renew) = inr (renewed_store renew)

-- ---- nothing was opened

module _ {D : Type 0} (kind : DiskKind D) (told_by : kind.honest → kind.tells) (laws : GrowthLaws) (stays : WholenessStays) (read : SpelledIsRead) (given : Catalog) (own : IsOwnCatalog given) where
  pub formed_none : (old new : D) → kind.honest → MayHaveFormed kind modes.Strong (Some given) old new → (more : Catalog) → GrowsTo given more → NothingOpened kind more old new
  formed_none old new honest formed more grows = record {
    not_opened = record {
      nothing_ran = λ true'. leaves_less kind.moment kind.images old new _ _ formed.moments (λ image either. by image either);
      receipts_stay = λ list true'. formed.stands_on given more refl grows Strong refl tt list;
      reads = λ true'. of_reads formed.reads;
    };
    was = λ true' holds. was_of formed.reads holds;
  }
    where
      by : (image : Files) → present kind old image ⊎ MayMake modes.Strong (Some given) (kind.seen old) image → present kind old image ⊎ StandForSame more (kind.seen old) image
      by image (inl left) = inl left
      by image (inr made) = inr (made_same laws stays read given own more grows (kind.seen old) image made)

      of_reads : (kind.seen new ≡ kind.seen old) ⊎ MayMake modes.Strong (Some given) (kind.seen old) (kind.seen new) → (kind.seen new ≡ kind.seen old) ⊎ StandForSame more (kind.seen old) (kind.seen new)
      of_reads (inl same) = inl same
      of_reads (inr made) = inr (made_same laws stays read given own more grows (kind.seen old) (kind.seen new) made)

      was_of : (kind.seen new ≡ kind.seen old) ⊎ MayMake modes.Strong (Some given) (kind.seen old) (kind.seen new) → HoldsStrong more (kind.seen new) → HoldsStrong more (kind.seen old)
      was_of (inl same) holds = subst (HoldsStrong more) same holds
      was_of (inr made) holds = made_was laws stays read given own more grows (kind.seen old) (kind.seen new) made

  pub read_none : (old new : D) → OnlyReads kind old new → kind.honest → (more : Catalog) → NothingOpened kind more old new
  read_none old new reads honest more = record {
    not_opened = record {
      nothing_ran = λ true'. leaves_less kind.moment kind.images old new (present kind old) _ (reads.moments true') (λ image left. inl left);
      receipts_stay = λ list true' n. stays_fewer kind.moment kind.images (StandsForAtLeast more n) (kind.moment old) new (reads.fewer true');
      reads = λ true'. inl (reads.same (told_by true'));
    };
    was = λ true' holds. subst (HoldsStrong more) (reads.same (told_by true')) holds;
  }
