-- A shard that takes in the part of another, and gives it back.
use Rattle.std.proofs.Common.{◌≡◌, ◌≤◌, ◌<◌, ℕ, List, [], ◌∷◌, ◌++◌, map, length, refl, sym, ap, subst, ◌∙◌, arith, None}
use Rattle.std.proofs.lemmas.List.{length-map}
use Rattle.ss_model.specs.declared.catalog.TableDef.{TableDef}
use Rattle.ss_model.specs.declared.catalog.Catalog.{Catalog}
use Rattle.ss_model.specs.Database.{Database}
use Rattle.ss_table.specs.TableValue.{TableValue}
use Rattle.ss_undo.specs.Indexed.{Group, columns_of, columns_in}
use Rattle.ss_shard.specs.Joins.{MayTakeInAll, with_tables, shells_of, MayGiveBackAll, WereGivenBack}
use Rattle.ss_shard.specs.Bodies.{HasBodies, texts_of}
use Rattle.ss_shard.specs.Contents.{tables_of}
use Rattle.ss_shard.specs.ShardValue.{ShardValue, Listed}
use Rattle.ss_shard.specs.Shards.{shape_of, shape_for, AllKeyed, HasTables}
use Rattle.ss_shard.specs.Parts.{AreRunning, HoldsParts, HoldsAtHome, HoldsBodies, HoldsRows, HasParts, with_homes, IsShell, MayAbsorb, HasAbsorbed, MayRelease, HasReleased}
use Rattle.ss_shard.proofs.BlankHomes.{HasHomes, IsBlank, homes_stay, has_homes, has_alike, shell_homes, shell_blank, shell_left, kept_beside, given_back}
use Rattle.ss_shard.proofs.DealtTables.{AreDealt, are_dealt, shapes_are, dealing_is, all_final, may_take_in_all, taken_in, rows_taken_in, shells_left, may_give_back_all, all_given_back, all_rows_given_back}
use Rattle.ss_shard.proofs.Bodies.{none_comes, running_less, running_more, seen_among}
use Rattle.ss_shard.proofs.Homes.{homes_in, homes_alike, homes_joined, parts_from}

-- ---- what a shard of parts has

module _ (catalog : Catalog) (n : ℕ) (held : List ℕ) where
  dealt_tables : (shard : ShardValue) → HasParts catalog n held shard → AreDealt n held catalog.tables shard.tables
  dealt_tables shard has = are_dealt n held catalog.tables shard.tables has.committed.of_catalog.tables.shapes has.dealt has.committed.final

  -- a shard of such tables, with the windows, counts and next numbers of the catalogue
  has_parts : (shard : ShardValue) → AreDealt n held catalog.tables shard.tables → AllKeyed shard.tables → shard.changes ≡ [] → shard.columns ≡ map (λ (d : TableDef). d.indexes) catalog.tables → HasHomes catalog shard → AreRunning n held → HasBodies catalog shard.bodies → shard.coming ≡ None → HasParts catalog n held shard
  has_parts shard dealt keyed empty columns homes running bodies none = record {
    running = running;
    committed = record {
      of_catalog = record {
        tables = record { shapes = shapes_are n held catalog.tables shard.tables dealt; keyed = keyed };
        indexes = columns;
        windows = homes.windows;
        cursors = homes.cursors;
        sources = homes.sources;
        bodies = bodies;
        coming = none_comes catalog shard.coming none;
      };
      final = all_final n held catalog.tables shard.tables dealt;
      committed = homes.committed;
      empty = empty;
      none_coming = none;
    };
    dealt = dealing_is n held catalog.tables shard.tables dealt;
  }

-- as many groups of indexes as tables
pub groups_alike : (catalog : Catalog) (tables : List TableValue) (indexes : List Group) → HasTables catalog tables → columns_of indexes ≡ map (λ (d : TableDef). d.indexes) catalog.tables → length indexes ≡ length tables
groups_alike catalog tables indexes has columns =
    sym (length-map indexes columns_in)
    ∙ ap length columns
    ∙ length-map catalog.tables (λ (d : TableDef). d.indexes)
    ∙ sym (length-map catalog.tables shape_for)
    ∙ sym (ap length has.shapes)
    ∙ length-map tables shape_of

-- ---- a shard takes in another

one_longer : (held : List ℕ) (p : ℕ) → 1 ≤ length (held ++ p ∷ [])
one_longer [] p = omega arith
one_longer (q ∷ held) p = omega arith

module _ (catalog : Catalog) (n : ℕ) (some : 1 ≤ n) (held : List ℕ) (old other : ShardValue) (may : MayAbsorb catalog n held old other) where
  abbrev p : ℕ
  p = other.number

  own_tables : AreDealt n held catalog.tables old.tables
  own_tables = dealt_tables catalog n held old may.own

  other_tables : AreDealt n (p ∷ []) catalog.tables other.tables
  other_tables = dealt_tables catalog n (p ∷ []) other may.others

  pub takes_in : MayTakeInAll old.tables other.tables
  takes_in =
      let db = may.holds.0 in
      may_take_in_all n some held p may.fresh catalog.tables old.tables other.tables db.contents.tables own_tables other_tables (may.holds.1).contents.tables (may.holds.2).contents.tables

  module _ (tables others : List TableValue) (columns other_columns : Listed) (joined : tables ≡ with_tables old.tables other.tables) (lent : others ≡ shells_of other.tables) (keyed : AllKeyed tables)
      (same : columns ≡ old.columns) (other_same : other_columns ≡ other.columns) (bodies : List ℕ) (written : bodies ≡ other.bodies) where
    -- both before what is at home on the part changes places
    abbrev mid : ShardValue
    mid = record old { tables = tables; columns = columns; bodies = bodies }

    abbrev left : ShardValue
    left = record other { tables = others; columns = other_columns }

    own_homes : HasHomes catalog mid
    own_homes = has_alike catalog old mid refl refl refl (has_homes catalog old may.own.committed)

    other_homes : HasHomes catalog left
    other_homes = has_alike catalog other left refl refl refl (has_homes catalog other may.others.committed)

    mid_home : (db : Database) → HoldsParts catalog n held old db → HoldsAtHome catalog n held mid db
    mid_home db holds = homes_alike catalog n held old db mid refl refl refl (homes_in catalog n held old db holds)

    left_home : (db : Database) → HoldsParts catalog n (p ∷ []) other db → HoldsAtHome catalog n (p ∷ []) left db
    left_home db holds = homes_alike catalog n (p ∷ []) other db left refl refl refl (homes_in catalog n (p ∷ []) other db holds)

    abbrev now : ShardValue
    now = with_homes catalog n p mid left

    abbrev shell : ShardValue
    shell = with_homes catalog n p left mid

    now_dealt : AreDealt n (held ++ p ∷ []) catalog.tables tables
    now_dealt = subst (λ (hs : List TableValue). AreDealt n (held ++ p ∷ []) catalog.tables hs) (sym joined) (taken_in n some held p may.fresh catalog.tables old.tables other.tables own_tables other_tables)

    now_rows : (db : Database) → HoldsParts catalog n held old db → HoldsParts catalog n (p ∷ []) other db → HoldsRows catalog n (held ++ p ∷ []) tables db
    now_rows db holds others_hold =
        ap tables_of joined
        ∙ rows_taken_in n some held p may.fresh catalog.tables old.tables other.tables db.contents.tables own_tables other_tables holds.contents.tables others_hold.contents.tables

    now_running : AreRunning n (held ++ p ∷ [])
    now_running = running_more n held p may.own.running may.others.running.0

    -- the bodies of the other are those of the database, since its partition runs
    now_bodies : (db : Database) → HoldsParts catalog n (p ∷ []) other db → HoldsBodies catalog n (held ++ p ∷ []) bodies db
    now_bodies db others_hold = ap (texts_of catalog) written ∙ others_hold.bodies ∙ seen_among catalog n (p ∷ []) may.others.running (omega arith) db.bodies ∙ sym (seen_among catalog n (held ++ p ∷ []) now_running (one_longer held p) db.bodies)

    is_shell : IsShell catalog n shell
    is_shell =
        let db = may.holds.0 in
        let homes = homes_stay catalog n p left mid other_homes own_homes in
        let blank = shell_left catalog n p left mid db held may.fresh other_homes (left_home db may.holds.2) (mid_home db may.holds.1) in
        record {
          tables = lent ∙ shells_left n some held p may.fresh catalog.tables other.tables other_tables;
          changes = may.others.committed.empty;
          indexes = other_same ∙ may.others.committed.of_catalog.indexes;
          windows = homes.windows;
          committed = homes.committed;
          blank = blank.windows;
          cursors = blank.cursors;
          sources = blank.sources;
          bodies = may.others.committed.of_catalog.bodies.count;
          none_coming = may.others.committed.none_coming;
        }

    both : HasAbsorbed catalog n held old other now shell
    both = record {
      number = refl;
      parts = has_parts catalog n (held ++ p ∷ []) now now_dealt keyed may.own.committed.empty (same ∙ may.own.committed.of_catalog.indexes) (homes_stay catalog n p mid left own_homes other_homes) now_running
          (subst (HasBodies catalog) (sym written) may.others.committed.of_catalog.bodies) may.own.committed.none_coming;
      holds = λ db holds others_hold. parts_from catalog n (held ++ p ∷ []) now db (now_rows db holds others_hold)
          (homes_joined catalog n p mid left db held (mid_home db holds) (left_home db others_hold)) (now_bodies db others_hold);
      shell_number = refl;
      left = is_shell;
    }

    pub absorbed : (new back : ShardValue) → new ≡ now → back ≡ shell → HasAbsorbed catalog n held old other new back
    absorbed new back new_is back_is = subst (λ (s : ShardValue). HasAbsorbed catalog n held old other s back) (sym new_is) (subst (λ (s : ShardValue). HasAbsorbed catalog n held old other now s) (sym back_is) both)

-- ---- a shard gives a part back

first_and_rest : (held : List ℕ) → 1 ≤ length held → (first : ℕ) × (rest : List ℕ) × (held ≡ first ∷ rest)
first_and_rest [] some = absurd (omega (arith, some))
first_and_rest (x ∷ xs) some = (x, xs, refl)

module _ (catalog : Catalog) (n : ℕ) (held : List ℕ) (old shell : ShardValue) (may : MayRelease catalog n held old shell) where
  abbrev part : ℕ
  part = shell.number

  all_tables : AreDealt n (held ++ part ∷ []) catalog.tables old.tables
  all_tables = dealt_tables catalog n (held ++ part ∷ []) old may.parts

  pub gives_back : MayGiveBackAll old.tables shell.tables
  gives_back =
      let f = first_and_rest held may.some in
      may_give_back_all n f.0 f.1 part catalog.tables old.tables shell.tables (subst (λ ps. AreDealt n (ps ++ part ∷ []) catalog.tables old.tables) f.2 all_tables) may.lent.tables

  module _ (tables backs : List TableValue) (columns back_columns : Listed) (given : WereGivenBack old.tables shell.tables tables backs) (keyed : AllKeyed tables) (back_keyed : AllKeyed backs)
      (same : columns ≡ old.columns) (back_same : back_columns ≡ shell.columns) (bodies : List ℕ) (written : bodies ≡ old.bodies) where
    abbrev kept : ShardValue
    kept = record old { tables = tables; columns = columns }

    abbrev given_to : ShardValue
    given_to = record shell { tables = backs; columns = back_columns; bodies = bodies }

    kept_homes : HasHomes catalog kept
    kept_homes = has_alike catalog old kept refl refl refl (has_homes catalog old may.parts.committed)

    back_homes : HasHomes catalog given_to
    back_homes = has_alike catalog shell given_to refl refl refl (shell_homes catalog n shell may.lent)

    kept_home : (db : Database) → HoldsParts catalog n (held ++ part ∷ []) old db → HoldsAtHome catalog n (held ++ part ∷ []) kept db
    kept_home db holds = homes_alike catalog n (held ++ part ∷ []) old db kept refl refl refl (homes_in catalog n (held ++ part ∷ []) old db holds)

    blank : IsBlank catalog given_to
    blank = let b = shell_blank catalog n shell may.lent in record { windows = b.windows; cursors = b.cursors; sources = b.sources }

    abbrev after : ShardValue
    after = with_homes catalog n part kept given_to

    abbrev returned : ShardValue
    returned = with_homes catalog n part given_to kept

    running : AreRunning n held × (part < n)
    running = running_less n held part may.parts.running

    -- those that run see the bodies of the database, some of them or all
    abbrev seen : (db : Database) → HoldsParts catalog n (held ++ part ∷ []) old db → texts_of catalog old.bodies ≡ db.bodies
    seen db holds = holds.bodies ∙ seen_among catalog n (held ++ part ∷ []) may.parts.running (one_longer held part) db.bodies

    dealt_both : AreDealt n held catalog.tables tables × AreDealt n (part ∷ []) catalog.tables backs
    dealt_both = all_given_back n held part catalog.tables old.tables shell.tables tables backs all_tables may.lent.tables given

    rows_both : (db : Database) → HoldsParts catalog n (held ++ part ∷ []) old db → HoldsRows catalog n held tables db × HoldsRows catalog n (part ∷ []) backs db
    rows_both db holds = all_rows_given_back n held part may.some may.fresh catalog.tables db.contents.tables old.tables shell.tables tables backs all_tables dealt_both.0 given holds.contents.tables

    both_now : HasReleased catalog n held old shell after returned
    both_now = record {
      number = refl;
      parts = has_parts catalog n held after dealt_both.0 keyed may.parts.committed.empty (same ∙ may.parts.committed.of_catalog.indexes) (homes_stay catalog n part kept given_to kept_homes back_homes) running.0 may.parts.committed.of_catalog.bodies may.parts.committed.none_coming;
      holds = λ db holds. parts_from catalog n held after db (rows_both db holds).0 (kept_beside catalog n part kept given_to db held may.fresh kept_homes blank (kept_home db holds))
          (seen db holds ∙ sym (seen_among catalog n held running.0 may.some db.bodies));
      back_number = refl;
      back_parts = has_parts catalog n (part ∷ []) returned dealt_both.1 back_keyed may.lent.changes (back_same ∙ may.lent.indexes) (homes_stay catalog n part given_to kept back_homes kept_homes) (running.1, tt)
          (subst (HasBodies catalog) (sym written) may.parts.committed.of_catalog.bodies) may.lent.none_coming;
      back_holds = λ db holds. parts_from catalog n (part ∷ []) returned db (rows_both db holds).1
          (given_back catalog n part given_to kept db held blank kept_homes (kept_home db holds))
          (ap (texts_of catalog) written ∙ seen db holds ∙ sym (seen_among catalog n (part ∷ []) (running.1, tt) (omega arith) db.bodies));
    }

    pub released : (new back : ShardValue) → new ≡ after → back ≡ returned → HasReleased catalog n held old shell new back
    released new back new_is back_is = subst (λ (s : ShardValue). HasReleased catalog n held old shell s back) (sym new_is) (subst (λ (s : ShardValue). HasReleased catalog n held old shell after s) (sym back_is) both_now)
