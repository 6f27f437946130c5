use Rattle.std.proofs.Common.{◌≡◌, ◌∙◌, inl, inr, List, length, All, ap, arith, refl, subst, sym}
use Rattle.std.proofs.lemmas.List.Elements.{All-take}
use Rattle.std.proofs.lemmas.Option.{slice_get_within}
use Rattle.ss_model.specs.declared.entry.Entry.{Entry}
use Rattle.ss_model.specs.declared.entry.Listed.{Listed}
use Rattle.ss_model.specs.declared.entry.Mode.{Mode}
use Rattle.ss_record.specs.Bounds.{IsRecordable}
use Rattle.ss_standing.specs.Standing.{listed_entries}
use Rattle.ss_replay.specs.Replaying.{StopsAsSaid}
use Rattle.ss_recover.specs.Faults.{StopsAfter}
use Rattle.ss_recover.specs.Loading.{IsListOf, place_behind}
use Rattle.ss_recover.proofs.Images.{image_takes}
use Rattle.ss_recover.proofs.stored.replay_loaded.Goals as goal

pub replay-requires-clause-on : goal.replay-requires-clause-on
replay-requires-clause-on g c =
    let (db, image, stands) = c.requires.image in
    (db, image_takes c.args.loaded.bodies c.args.catalog.now c.args.loaded.image c.args.loaded.first c.args.database db image stands)

pub returns-in-Ok-clause-ok : goal.returns-in-Ok-clause-ok
returns-in-Ok-clause-ok g c = λ parts given is_whole theirs.
    let (db, image, stands) = c.requires.image in
    let replayed = c.in-Ok.ensures.replayed db (image_takes c.args.loaded.bodies c.args.catalog.now c.args.loaded.image c.args.loaded.first c.args.database db image stands) in
    let whole = c.in-Ok.ensures.whole in
    record {
      form = refl;
      bytes = refl;
      given_bodies = theirs;
      accepted = c.requires.accepted;
      db = db;
      image = image;
      entries = subst (λ (m : Mode). IsListOf m c.args.catalog.now db c.args.loaded.entries c.in-Ok.replayed.list) (sym c.requires.mode) c.in-Ok.ensures.entries;
      replays = replayed.replays;
      placed = refl;
      few = c.in-Ok.ensures.placed;
      dealt = record { number = whole.number; parts = record { committed = whole.committed; dealt = c.in-Ok.ensures.dealt ∙ is_whole.parts.dealt; running = is_whole.parts.running } };
      holds = replayed.stands;
    }

pub place_behind-requires : goal.place_behind-requires
place_behind-requires g c =
    let catalog = c.args.catalog.now in
    let (db, image, stands) = c.requires.image in
    let on = image_takes c.args.loaded.bodies catalog c.args.loaded.image c.args.loaded.first c.args.database db image stands in
    let stops = subst (StopsAsSaid catalog db c.args.loaded.first c.args.loaded.entries) c.in-Err-Foreign.field-0-is (c.in-Err-Foreign.ensures.foreign db on) in
    let told : listed_entries c.as_slice-list.result.now ≡ listed_entries c.in-Err-Foreign.before = ap (λ (l : List Listed). listed_entries l) c.as_slice-list.ensures ∙ rw c.in-Err-Foreign.field-0-is refl in
    let front = told ∙ stops.before in
    subst (λ (es : List Entry). All IsRecordable es) (sym front) (All-take IsRecordable (length c.in-Err-Foreign.before) c.args.loaded.entries c.requires.recordable)

pub returns-clause-refused : goal.returns-clause-refused
returns-clause-refused g c =
    let catalog = c.args.catalog.now in
    let loaded = c.args.loaded in
    let before = c.in-Err-Foreign.before in
    let (db, image, stands) = c.requires.image in
    let on = image_takes loaded.bodies catalog loaded.image loaded.first c.args.database db image stands in
    let stops = subst (StopsAsSaid catalog db loaded.first loaded.entries) c.in-Err-Foreign.field-0-is (c.in-Err-Foreign.ensures.foreign db on) in
    let within = slice_get_within loaded.entries (length before) stops.entry stops.there in
    let told : listed_entries c.as_slice-list.result.now ≡ listed_entries before = ap (λ (l : List Listed). listed_entries l) c.as_slice-list.ensures ∙ rw c.in-Err-Foreign.field-0-is refl in
    let front : place_behind loaded.bodies c.len.result c.as_slice.result.now (listed_entries c.as_slice-list.result.now) ≡ place_behind loaded.bodies (length loaded.image) loaded.sizes (listed_entries before) =
    λ k. place_behind loaded.bodies (c.len.ensures k) (c.as_slice.ensures k) (told k) in
    let stops_so : StopsAfter loaded.mode catalog db loaded.first loaded.entries (length before) = subst (λ (m : Mode). StopsAfter m catalog db loaded.first loaded.entries (length before)) (sym c.requires.mode) (before, refl, stops) in
    inr (inl (record {
      catalog = catalog;
      accepted = c.requires.accepted;
      db = db;
      image = image;
      before = length before;
      within = omega (arith, within);
      stops = stops_so;
      furthest = c.none_gets_further.ensures.entry loaded.mode loaded.bodies loaded.image loaded.first catalog db loaded.entries (length before) c.requires.accepted c.requires.named image stops_so;
      place = c.in_ok-place_behind-in-Err-Foreign.ensures ∙ front ∙ ap (place_behind loaded.bodies (length loaded.image) loaded.sizes) stops.before;
    }))
