use Rattle.std.proofs.Common.{◌≡◌, ◌∙◌, ◌++◌, List, ℕ, [], length, sym, ap, append_assoc}
use Rattle.std.specs.FinMap as finmap
use Rattle.std.specs.List.{flat_map}
use Rattle.ss_model.specs.Database.{own_bodies}
use Rattle.ss_record.specs.Numbers.{number_bytes}
use Rattle.ss_standing.specs.Image.{text_bytes, table_bytes, window_bytes, stream_bytes, sources_bytes, border_streams, repeated}
use Rattle.ss_standing.proofs.CallerLemmas.{empty_image}
use Rattle.ss_snapshot.proofs.image.empty_image.Goals as goal

-- seven pieces, one after another
joined : (m0 m1 m2 m3 m4 m5 m6 m7 t a b c d e f : List ℕ) → m0 ≡ [] → m1 ≡ m0 ++ t → m2 ≡ m1 ++ a → m3 ≡ m2 ++ b → m4 ≡ m3 ++ c → m5 ≡ m4 ++ d → m6 ≡ m5 ++ e → m7 ≡ m6 ++ f → m7 ≡ t ++ (a ++ b ++ c ++ d ++ e ++ f)
joined m0 m1 m2 m3 m4 m5 m6 m7 t a b c d e f h0 h1 h2 h3 h4 h5 h6 h7 =
    h7 ∙ ap (λ l. l ++ f) (h6 ∙ ap (λ l. l ++ e) (h5 ∙ ap (λ l. l ++ d) (h4 ∙ ap (λ l. l ++ c) (h3 ∙ ap (λ l. l ++ b) (h2 ∙ ap (λ l. l ++ a) (h1 ∙ ap (λ l. l ++ t) h0)))))) ∙ simp append_assoc

pub returns-clause-ok : goal.returns-clause-ok
returns-clause-ok c =
    c.from_vec.ensures
    ∙ joined c.new-image.result.items c.push_text.new.out.items c.push_tables.new.out.items c.push_windows.new.out.items c.push_streams.new.out.items c.push_counts.new.out.items c.push_sources.new.out.items c.push_bodies.new.out.items
    _ _ _ _ _ _ _ c.new-image.ensures.items c.in_ok-push_text.ensures.spelled c.in_ok-push_tables.ensures c.in_ok-push_windows.ensures c.in_ok-push_streams.ensures c.in_ok-push_counts.ensures c.in_ok-push_sources.ensures c.in_ok-push_bodies.ensures.spelled
    ∙ (λ k. text_bytes (c.as_slice.ensures k)
    ++ (repeated table_bytes (c.len.ensures k) finmap.empty ++ repeated window_bytes (c.len-2.ensures k) (0, []) ++ repeated stream_bytes (c.len-3.ensures k) (0, (0, []))
    ++ repeated (number_bytes 8) (c.len-4.ensures k) 0 ++ repeated sources_bytes (length (border_streams c.args.catalog.now)) finmap.empty ++ flat_map text_bytes (own_bodies c.args.catalog.now)))
    ∙ sym (empty_image c.args.catalog.now)
