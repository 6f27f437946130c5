-- The names of a catalogue's tables, in the order of the report, are those of any of its tables.
use Rattle.std.proofs.Common.{◌≡◌, ◌∙◌, ℕ, List, [], ◌∷◌, map, length, refl, sym, ap, subst, arith}
use Rattle.std.specs.List.{fold, zip}
use Rattle.std.specs.declared.cmp.Ordering.{Ordering}
use Rattle.std.specs.declared.cmp.Ordering.TheVariants.{Less, Equal, Greater}
use Rattle.std.specs.Ordering.{nat_cmp}
use Rattle.std.specs.Cmp.Lexicographic.{slice_cmp, nat_list_cmp_total}
use Rattle.std.specs.FinMap as finmap
use Rattle.std.specs.FinMap.{FinMap, entries-insert, put}
use Rattle.std.specs.FinMap.Entries.{by_order}
use Rattle.ss_model.specs.declared.catalog.TableDef.{TableDef}
use Rattle.ss_model.specs.Contents.{Table}
use Rattle.ss_model.specs.ReportLines.{tables_by_name}

abbrev Shown : Type 0
Shown = FinMap (slice_cmp nat_cmp) (TableDef × Table)

-- an entry's key, and the name of its definition
abbrev names_in : List ℕ × (TableDef × Table) → List ℕ × List ℕ
names_in e = (e.0, e.1.0.name)

-- entries with the same keys and names
abbrev Alike : List (List ℕ × (TableDef × Table)) → List (List ℕ × (TableDef × Table)) → Type 0
Alike es fs = map names_in es ≡ map names_in fs

same_put : (def : TableDef) (t u : Table) (es fs : List (List ℕ × (TableDef × Table))) → Alike es fs → Alike (put (slice_cmp nat_cmp) def.name (def, t) es) (put (slice_cmp nat_cmp) def.name (def, u) fs)
same_put def t u [] [] h = refl
same_put def t u [] (f ∷ fs) h = absurd (cc)
same_put def t u (e ∷ es) [] h = absurd (cc)
same_put def t u (e ∷ es) (f ∷ fs) h =
    let pair : names_in e ≡ names_in f = cc in
    let key : e.0 ≡ f.0 = ap (λ (p : List ℕ × List ℕ). p.0) pair in
    let rest : Alike es fs = cc in
    subst (λ (o : Ordering). Alike (by_order (slice_cmp nat_cmp def.name e.0) ((def.name, (def, t)) ∷ e ∷ es) ((e.0, (def, t)) ∷ es) (e ∷ put (slice_cmp nat_cmp) def.name (def, t) es))
    (by_order o ((def.name, (def, u)) ∷ f ∷ fs) ((f.0, (def, u)) ∷ fs) (f ∷ put (slice_cmp nat_cmp) def.name (def, u) fs)))
    (ap (slice_cmp nat_cmp def.name) key)
    (by (slice_cmp nat_cmp def.name e.0) key pair rest (same_put def t u es fs rest))
  where
    by : (o : Ordering) → e.0 ≡ f.0 → names_in e ≡ names_in f → Alike es fs → Alike (put (slice_cmp nat_cmp) def.name (def, t) es) (put (slice_cmp nat_cmp) def.name (def, u) fs)
        → Alike (by_order o ((def.name, (def, t)) ∷ e ∷ es) ((e.0, (def, t)) ∷ es) (e ∷ put (slice_cmp nat_cmp) def.name (def, t) es))
        (by_order o ((def.name, (def, u)) ∷ f ∷ fs) ((f.0, (def, u)) ∷ fs) (f ∷ put (slice_cmp nat_cmp) def.name (def, u) fs))
    by Less key pair rest more = λ i. (def.name, def.name) ∷ pair i ∷ rest i
    by Equal key pair rest more = λ i. (key i, def.name) ∷ rest i
    by Greater key pair rest more = λ i. pair i ∷ more i

same_insert : (def : TableDef) (t u : Table) (m n : Shown) → Alike (finmap.entries m) (finmap.entries n) → Alike (finmap.entries (finmap.insert m def.name (def, t))) (finmap.entries (finmap.insert n def.name (def, u)))
same_insert def t u m n h =
    ap (map names_in) (entries-insert nat_list_cmp_total m def.name (def, t)) ∙ same_put def t u (finmap.entries m) (finmap.entries n) h
    ∙ sym (ap (map names_in) (entries-insert nat_list_cmp_total n def.name (def, u)))

abbrev with_table : Shown → TableDef × Table → Shown
with_table named t = finmap.insert named t.0.name t

same_fold : (defs : List TableDef) (ts us : List Table) (m n : Shown) → length ts ≡ length us → Alike (finmap.entries m) (finmap.entries n)
    → Alike (finmap.entries (fold with_table m (zip defs ts))) (finmap.entries (fold with_table n (zip defs us)))
same_fold [] ts us m n many h = h
same_fold (def ∷ defs) [] [] m n many h = h
same_fold (def ∷ defs) [] (u ∷ us) m n many h = absurd (omega (arith, many))
same_fold (def ∷ defs) (t ∷ ts) [] m n many h = absurd (omega (arith, many))
same_fold (def ∷ defs) (t ∷ ts) (u ∷ us) m n many h =
    same_fold defs ts us (with_table m (def, t)) (with_table n (def, u)) (omega (arith, many)) (same_insert def t u m n h)

names_of_entries : (es : List (List ℕ × (TableDef × Table))) → map (λ (t : TableDef × Table). t.0.name) (map (λ (e : List ℕ × (TableDef × Table)). e.1) es) ≡ map (λ (p : List ℕ × List ℕ). p.1) (map names_in es)
names_of_entries [] = refl
names_of_entries (e ∷ es) = ap (λ (ns : List (List ℕ)). e.1.0.name ∷ ns) (names_of_entries es)

pub same_names : (defs : List TableDef) (ts us : List Table) → length ts ≡ length us
    → map (λ (t : TableDef × Table). t.0.name) (finmap.values (tables_by_name defs ts)) ≡ map (λ (t : TableDef × Table). t.0.name) (finmap.values (tables_by_name defs us))
same_names defs ts us many =
    names_of_entries (finmap.entries (tables_by_name defs ts)) ∙ ap (map (λ (p : List ℕ × List ℕ). p.1)) (same_fold defs ts us finmap.empty finmap.empty many refl) ∙ sym (names_of_entries (finmap.entries (tables_by_name defs us)))
