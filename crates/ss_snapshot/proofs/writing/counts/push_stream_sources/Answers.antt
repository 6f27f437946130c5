use Rattle.std.proofs.Common.{◌≡◌, ◌∙◌, ◌++◌, ◌<◌, ◌^◌, All, List, ℕ, map, length, sym, ap, subst, arith}
use Rattle.std.specs.List.{flat_map}
use Rattle.std.specs.FinMap as finmap
use Rattle.std.specs.FinMap.{len-entries}
use Rattle.std.proofs.Common.{◌≤◌, true}
use Rattle.std.proofs.lemmas.List.{length-map}
use Rattle.std.proofs.lemmas.List.Elements.{All-weaker}
use Rattle.ss_value.specs.Words.{is_name}
use Rattle.ss_record.specs.Numbers.{number_bytes}
use Rattle.ss_shard.specs.Sources.{lent_source, numbers_at, positive}
use Rattle.ss_standing.specs.Image.{source_bytes}
use Rattle.ss_snapshot.proofs.NextNumbers.{all_behind, name_short, positive_named}
use Rattle.ss_snapshot.proofs.Pieces.{two_pieces}
use Rattle.ss_snapshot.proofs.writing.counts.push_stream_sources.Goals as goal

pub push_sources-requires : goal.push_sources-requires
push_sources-requires c =
    let m = numbers_at c.args.whole.now.sources c.args.stream in
    let are : map lent_source c.as_slice.result.now ≡ finmap.entries (positive m) = ap (map lent_source) c.as_slice.ensures.value ∙ c.in_ok-sources.ensures in
    all_behind (λ (next : List ℕ × ℕ). length next.0 ≤ 32) lent_source c.as_slice.result.now (subst (All (λ (next : List ℕ × ℕ). length next.0 ≤ 32)) (sym are)
    (All-weaker (λ (next : List ℕ × ℕ). is_name next.0 ≡ true) (λ (next : List ℕ × ℕ). length next.0 ≤ 32) (λ next name. name_short next.0 name) (finmap.entries (positive m))
    (positive_named m (c.sources_are_names.ensures.own c.args.stream))))

pub returns-clause-spelled : goal.returns-clause-spelled
returns-clause-spelled c =
    let m = positive (numbers_at c.args.whole.now.sources c.args.stream) in
    let are : map lent_source c.as_slice.result.now ≡ finmap.entries m = ap (map lent_source) c.as_slice.ensures.value ∙ c.in_ok-sources.ensures in
    let many : c.len.result ≡ finmap.len m = c.len.ensures ∙ c.in_ok-sources.sources.ok.0 ∙ sym (length-map c.in_ok-sources.sources.items lent_source) ∙ ap length c.in_ok-sources.ensures ∙ sym (len-entries m) in
    two_pieces c.args.out.now.items c.push_long.new.out.items c.push_sources.new.out.items (number_bytes 8 c.len.result) (flat_map source_bytes (map lent_source c.as_slice.result.now))
    c.in_ok-push_long.ensures.spelled c.in_ok-push_sources.ensures.spelled
    ∙ (λ k. c.args.out.now.items ++ (number_bytes 8 (many k) ++ flat_map source_bytes (are k)))

pub returns-clause-fits : goal.returns-clause-fits
returns-clause-fits c =
    let m = positive (numbers_at c.args.whole.now.sources c.args.stream) in
    let are : map lent_source c.as_slice.result.now ≡ finmap.entries m = ap (map lent_source) c.as_slice.ensures.value ∙ c.in_ok-sources.ensures in
    let many : c.len.result ≡ finmap.len m = c.len.ensures ∙ c.in_ok-sources.sources.ok.0 ∙ sym (length-map c.in_ok-sources.sources.items lent_source) ∙ ap length c.in_ok-sources.ensures ∙ sym (len-entries m) in (
      omega (arith, c.in_ok-push_long.ensures.fits, many),
      subst (All (λ (next : List ℕ × ℕ). next.1 < 2 ^ 64)) are c.in_ok-push_sources.ensures.fits,
      positive_named (numbers_at c.args.whole.now.sources c.args.stream) (c.sources_are_names.ensures.own c.args.stream),
    )
