use Rattle.std.proofs.Common.{◌≡◌, ◌∙◌, ◌++◌, ◌<◌, ◌^◌, List, ℕ, [], map, All, true, refl, sym, ap, subst, append_assoc}
use Rattle.std.specs.List.{flat_map}
use Rattle.ss_model.specs.declared.catalog.Catalog.{Catalog}
use Rattle.ss_model.specs.Settling.{Kept}
use Rattle.ss_record.specs.Numbers.{number_bytes}
use Rattle.ss_undo.specs.Windows.{AreCommittedWindows}
use Rattle.ss_shard.specs.Bodies.{texts_of}
use Rattle.ss_shard.specs.Contents.{tables_of}
use Rattle.ss_shard.specs.Sources.{positive}
use Rattle.ss_shard.specs.Windows.{kept_part}
use Rattle.ss_standing.specs.FitsImage.{FitsImage, FitsTable, FitsWindow}
use Rattle.ss_standing.specs.Image.{image_bytes, text_bytes, table_bytes, window_bytes, stream_bytes, all_sources, kept_bytes}
use Rattle.ss_snapshot.specs.Held.{held_stream, kept_held}
use Rattle.ss_snapshot.proofs.Held.{held_tells_kept, no_sources_elsewhere}
use Rattle.ss_snapshot.proofs.writing.write_image.Goals as goal

-- seven pieces, one after another
joined : (m0 m1 m2 m3 m4 m5 m6 m7 t a b c d e f : List ℕ) → m0 ≡ [] → m1 ≡ m0 ++ t → m2 ≡ m1 ++ a → m3 ≡ m2 ++ b → m4 ≡ m3 ++ c → m5 ≡ m4 ++ d → m6 ≡ m5 ++ e → m7 ≡ m6 ++ f → m7 ≡ t ++ (a ++ b ++ c ++ d ++ e ++ f)
joined m0 m1 m2 m3 m4 m5 m6 m7 t a b c d e f h0 h1 h2 h3 h4 h5 h6 h7 =
    h7 ∙ ap (λ l. l ++ f) (h6 ∙ ap (λ l. l ++ e) (h5 ∙ ap (λ l. l ++ d) (h4 ∙ ap (λ l. l ++ c) (h3 ∙ ap (λ l. l ++ b) (h2 ∙ ap (λ l. l ++ a) (h1 ∙ ap (λ l. l ++ t) h0)))))) ∙ simp append_assoc

-- an image is its text and what is kept
image_is : (catalog : Catalog) (k : Kept) → text_bytes catalog.text ++ kept_bytes true catalog k ≡ image_bytes true catalog k
unfolding image_bytes
image_is catalog k = refl

pub push_windows-requires : goal.push_windows-requires
push_windows-requires c = subst AreCommittedWindows (sym c.windows.ensures) c.requires.committed.committed

pub push_next_numbers-requires-clause-streams : goal.push_next_numbers-requires-clause-streams
push_next_numbers-requires-clause-streams c = c.requires.committed.of_catalog.sources

pub push_next_numbers-requires-clause-border : goal.push_next_numbers-requires-clause-border
push_next_numbers-requires-clause-border c = no_sources_elsewhere c.args.catalog.now c.requires.held.0 c.args.whole.now.sources c.requires.held.1.numbers c.requires.held.3

pub returns-clause-spelled : goal.returns-clause-spelled
returns-clause-spelled c = λ d holds are whole.
    c.from_vec.ensures
    ∙ joined c.new-image.result.items c.push_text.new.out.items c.push_tables.new.out.items c.push_windows.new.out.items c.push_streams.new.out.items c.push_counts.new.out.items c.push_next_numbers.new.out.items c.push_bodies.new.out.items
    _ _ _ _ _ _ _ c.new-image.ensures.items c.in_ok-push_text.ensures.spelled c.in_ok-push_tables.ensures.spelled c.in_ok-push_windows.ensures.spelled c.in_ok-push_streams.ensures.spelled c.in_ok-push_counts.ensures.spelled
    c.in_ok-push_next_numbers.ensures.spelled c.in_ok-push_bodies.ensures.spelled
    ∙ (λ k. text_bytes (c.as_slice.ensures k)
    ++ (flat_map table_bytes (tables_of (c.tables.ensures k)) ++ flat_map window_bytes (map kept_part (c.windows.ensures k)) ++ flat_map stream_bytes (map held_stream c.args.streams.now.streams)
    ++ flat_map (number_bytes 8) (c.cursors.ensures k) ++ all_sources c.args.catalog.now (map positive c.args.whole.now.sources) ++ flat_map text_bytes (texts_of c.args.catalog.now c.args.whole.now.bodies)))
    ∙ image_is c.args.catalog.now (kept_held c.args.catalog.now c.args.whole.now c.args.streams.now.streams)
    ∙ ap (image_bytes true c.args.catalog.now) (sym (held_tells_kept c.args.catalog.now d c.args.whole.now c.args.streams.now.streams holds are whole))

pub returns-clause-fits : goal.returns-clause-fits
returns-clause-fits c = λ d holds are whole.
    subst (FitsImage true c.args.catalog.now) (sym (held_tells_kept c.args.catalog.now d c.args.whole.now c.args.streams.now.streams holds are whole)) (record {
      tables = subst (λ ts. All FitsTable (tables_of ts)) c.tables.ensures c.in_ok-push_tables.ensures.fits;
      windows = subst (λ ws. All FitsWindow (map kept_part ws)) c.windows.ensures c.in_ok-push_windows.ensures.fits;
      streams = c.in_ok-push_streams.ensures.fits;
      counts = subst (All (λ (n : ℕ). n < 2 ^ 64)) c.cursors.ensures c.in_ok-push_counts.ensures.fits;
      next_numbers = c.in_ok-push_next_numbers.ensures.fits;
      texts = c.in_ok-push_bodies.ensures.fits;
    })
