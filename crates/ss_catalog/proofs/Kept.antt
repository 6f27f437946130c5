-- What the checks say of a catalogue, they say of the same catalogue with other texts.
use Rattle.std.proofs.Common.{◌≡◌, ◌==◌, ℕ, zero, suc, Bool, cond, List, ◌++◌, length, Option, Some, None, refl, ap, subst, ◌∙◌}
use Rattle.std.specs.Prelude.{not, slice_get}
use Rattle.std.specs.List.{filter, filter_map, flat_map, range_with_len}
use Rattle.ss_model.specs.declared.catalog.Catalog.{Catalog}
use Rattle.ss_model.specs.declared.catalog.Procedure.{Procedure}
use Rattle.ss_model.specs.declared.catalog.TriggerDef.{TriggerDef}
use Rattle.ss_model.specs.Database.{is_border, is_border_stream}
use Rattle.ss_model.specs.Orders.{procedure_has}
use Rattle.ss_model.specs.Settling.{procedure_numbers, first_input, emitting_procedure, border_stream_from}
use Rattle.ss_catalog_checks.specs.declared.locality.Site.{Site}
use Rattle.ss_catalog_checks.specs.Workflows.{LeadsTo, at_once as at_once_to, onward as onward_to, IsOnCycle}
use Rattle.ss_catalog_checks.specs.Cascades.{LeadsInto, at_once as at_once_into, onward as onward_into, SomeLeadsBack, IsOnTriggerCycle}
use Rattle.ss_catalog_checks.specs.Localities.{IsFirstSite}
use Rattle.ss_catalog_checks.specs.StreamEnds.{ends_badly, refuses_triggers, awaited_stream, is_foreign, foreign_among, refused_stream}
use Rattle.ss_catalog_checks.specs.Owners.{refused_window}

-- the same tables, streams, windows, triggers, procedures and bodies to be installed
pub record IsSameCatalog (a b : Catalog) : Type 0 where
  pub tables : a.tables ≡ b.tables
  pub streams : a.streams ≡ b.streams
  pub windows : a.windows ≡ b.windows
  pub triggers : a.triggers ≡ b.triggers
  pub procedures : a.procedures ≡ b.procedures
  pub spares : a.spares ≡ b.spares

-- the same with other texts
abbrev pub with_texts : Catalog → List ℕ → List (List ℕ) → Catalog
with_texts c text own_texts = record c { text = text; own_texts = own_texts }

-- two that have the same texts, too, are the same
pub same_with_texts : (a b : Catalog) → IsSameCatalog a b → a.text ≡ b.text → a.own_texts ≡ b.own_texts → a ≡ b
same_with_texts a b same text own_texts = λ i. record {
  tables = same.tables i;
  streams = same.streams i;
  windows = same.windows i;
  triggers = same.triggers i;
  procedures = same.procedures i;
  own_texts = own_texts i;
  spares = same.spares i;
  text = text i;
}

-- what does not depend on the texts holds of the same catalogue
pub kept : (P : Catalog → Type 0) → ((c : Catalog) (text : List ℕ) (own : List (List ℕ)) → P c → P (with_texts c text own)) → (a b : Catalog) → IsSameCatalog a b → P a → P b
kept P free a b same h = subst P (λ i. record {
  tables = same.tables i;
  streams = same.streams i;
  windows = same.windows i;
  triggers = same.triggers i;
  procedures = same.procedures i;
  own_texts = b.own_texts;
  spares = same.spares i;
  text = b.text;
}) (free a b.text b.own_texts h)

-- ---- workflows

leads_to : (c : Catalog) (text : List ℕ) (own : List (List ℕ)) (p q : ℕ) → LeadsTo c p q → LeadsTo (with_texts c text own) p q
leads_to c text own p _ (at_once_to q s emits takes) = at_once_to q s emits takes
leads_to c text own p _ (onward_to q r s before emits takes) = onward_to q r s (leads_to c text own p q before) emits takes

pub cycle_kept : (a b : Catalog) (p : ℕ) → IsSameCatalog a b → IsOnCycle a p → IsOnCycle b p
cycle_kept a b p = kept (λ (c : Catalog). IsOnCycle c p) (λ (c : Catalog) (text : List ℕ) (own : List (List ℕ)). leads_to c text own p p) a b

-- ---- triggers

leads_into : (c : Catalog) (text : List ℕ) (own : List (List ℕ)) (t : TriggerDef) (m : ℕ) → LeadsInto c t m → LeadsInto (with_texts c text own) t m
leads_into c text own t _ (at_once_into m inserts) = at_once_into m inserts
leads_into c text own t _ (onward_into n m before feeds) = onward_into n m (leads_into c text own t n before) feeds

leads_back : (c : Catalog) (text : List ℕ) (own : List (List ℕ)) (t : Option TriggerDef) → SomeLeadsBack c t → SomeLeadsBack (with_texts c text own) t
leads_back c text own None h = h
leads_back c text own (Some t) h = (h.0, leads_into c text own t h.0 h.1, h.2)

pub trigger_cycle_kept : (a b : Catalog) (t : ℕ) → IsSameCatalog a b → IsOnTriggerCycle a t → IsOnTriggerCycle b t
trigger_cycle_kept a b t = kept (λ (c : Catalog). IsOnTriggerCycle c t) (λ (c : Catalog) (text : List ℕ) (own : List (List ℕ)). leads_back c text own (slice_get c.triggers t)) a b

-- ---- placements and windows

pub site_kept : (a b : Catalog) (site : Option Site) → IsSameCatalog a b → IsFirstSite a site → IsFirstSite b site
site_kept a b site = kept (λ (c : Catalog). IsFirstSite c site) (λ (c : Catalog) (text : List ℕ) (own : List (List ℕ)) h. h) a b

pub window_kept : (a b : Catalog) (w : Option ℕ) → IsSameCatalog a b → refused_window a ≡ w → refused_window b ≡ w
window_kept a b w = kept (λ (c : Catalog). refused_window c ≡ w) (λ (c : Catalog) (text : List ℕ) (own : List (List ℕ)) h. h) a b

-- ---- streams

-- up the first inputs
same_border : (depth : ℕ) (c : Catalog) (text : List ℕ) (own : List (List ℕ)) (q : ℕ) → border_stream_from depth (with_texts c text own) q ≡ border_stream_from depth c q
same_border zero c text own q = refl
same_border (suc depth) c text own q =
    ap (cond (procedure_has (λ (p : Procedure). is_border p.kind) (slice_get c.procedures q)) (first_input c q)) (same_border depth c text own (emitting_procedure c (first_input c q)))

same_foreign : (c : Catalog) (text : List ℕ) (own : List (List ℕ)) (q s : ℕ) → is_foreign (with_texts c text own) q s ≡ is_foreign c q s
same_foreign c text own q s = ap (λ (border : ℕ → ℕ). not (cond (is_border_stream c s) s (border (emitting_procedure c s)) == border q)) (λ i n. same_border (length c.procedures) c text own n i)

same_among : (c : Catalog) (text : List ℕ) (own : List (List ℕ)) (q : ℕ) (p : Option Procedure) → foreign_among (with_texts c text own) q p ≡ foreign_among c q p
same_among c text own q None = refl
same_among c text own q (Some p) = ap (λ (foreign : ℕ → Bool). filter foreign p.inputs) (λ i s. same_foreign c text own q s i)

same_streams : (c : Catalog) (text : List ℕ) (own : List (List ℕ)) → refused_stream (with_texts c text own) ≡ refused_stream c
unfolding ends_badly
same_streams c text own =
    let ends = filter (ends_badly c) (range_with_len 0 (length c.streams)) in
    let waiting = filter (refuses_triggers c) (filter_map (λ (t : TriggerDef). awaited_stream t.on) c.triggers) in
    ap (λ (foreign : ℕ → List ℕ). slice_get (ends ++ waiting ++ flat_map foreign (procedure_numbers c)) 0) (λ i q. same_among c text own q (slice_get c.procedures q) i)

pub stream_kept : (a b : Catalog) (s : Option ℕ) → IsSameCatalog a b → refused_stream a ≡ s → refused_stream b ≡ s
stream_kept a b s = kept (λ (c : Catalog). refused_stream c ≡ s) (λ (c : Catalog) (text : List ℕ) (own : List (List ℕ)) h. same_streams c text own ∙ h) a b
