-- Tokens that all know one list.
use Rattle.std.proofs.Common.{◌≡◌, List, [], ◌∷◌, sym, ap, ◌∙◌, subst, ⊎_elim}
use Rattle.ss_model.specs.declared.catalog.Catalog.{Catalog}
use Rattle.ss_model.specs.Database.{Database}
use Rattle.ss_model.specs.Replays.{after}
use Rattle.ss_stream.specs.OfDatabase.{AreStreamsOf}
use Rattle.ss_stream.specs.Pending.{Pending}
use Rattle.ss_commitlog.specs.declared.rule.Item.{Item}
use Rattle.ss_commitlog.specs.Meaning.{listed_of}
use Rattle.ss_commitlog.specs.Reading.{AreKnownStreams}
use Rattle.ss_commitlog.specs.Roles.{In}
use Rattle.ss_commitlog.specs.Tokens.{Known, AllKnow}

known_by : (list : List Item) (ks ls : List Known) → AllKnow list ks ls → (l : Known) → In l ls → l.list ≡ list
known_by list [] [] know l i = absurd i
known_by list [] (x ∷ ls) know l i = absurd know
known_by list (k ∷ ks) [] know l i = absurd i
known_by list (k ∷ ks) (x ∷ ls) know l i = ⊎_elim (λ (is : l ≡ x). ap (λ (m : Known). m.list) is ∙ know.0.list_is) (λ (j : In l ls). known_by list ks ls know.1 l j) i

-- the streams after it are those of the database that each of them knows
pub known_streams : (catalog : Catalog) (db : Database) (list : List Item) (ks ls : List Known) (streams : List Pending) → AllKnow list ks ls → AreStreamsOf catalog (after catalog db (listed_of list)) streams
    → AreKnownStreams catalog db ls streams
known_streams catalog db list ks ls streams know are l i =
    subst (λ (known : List Item). AreStreamsOf catalog (after catalog db (listed_of known)) streams) (sym (known_by list ks ls know l i)) are
