-- The empty database by its image, and what an image is of.
use Rattle.std.proofs.Common.{◌≡◌, ℕ, Bool, true, List, [], None, arith, refl, subst}
use Rattle.ss_model.specs.declared.catalog.Catalog.{Catalog}
use Rattle.ss_model.specs.declared.entry.Listed.{Listed}
use Rattle.ss_model.specs.declared.entry.Mode.{Mode}
use Rattle.ss_model.specs.declared.entry.Mode.TheVariants.{Strong, Weak}
use Rattle.ss_model.specs.Accepted.{Accepted}
use Rattle.ss_model.specs.Database.{Database as Model, empty_database, own_bodies}
use Rattle.ss_model.specs.Settling.{border_stream, kept, next_settled}
use Rattle.ss_model_laws.proofs.CallerLemmas.{at_rest, empty_whole}
use Rattle.ss_cmdlog.specs.Generation.{Stood}
use Rattle.ss_cmdlog.specs.Store.{entries_of}
use Rattle.ss_standing.specs.FitsImage.{FitBodies}
use Rattle.ss_standing.specs.Image.{empty_image_of}
use Rattle.ss_standing.specs.Standing.{IsImageAt, Replayed}
use Rattle.ss_standing.proofs.CallerLemmas.{empty_fits}
use Rattle.ss_shard.specs.declared.database.Database.{Database}
use Rattle.ss_shard.specs.Databases.{StandsFor}
use Rattle.ss_snapshot.specs.Images.{IsImageOf}
use Rattle.ss_recover.specs.Loading.{IsListOf}
use Rattle.ss_recover.specs.Recovering.{LeadsTo}
use Rattle.ss_replay.specs.Replaying.{IsOnAt}
use Rattle.ss_replay.proofs.CallerLemmas.{empty_had}

-- bytes that are the empty database's image are that at any place
pub empty_image_at : (catalog : Catalog) → Accepted catalog → FitBodies true catalog (own_bodies catalog) → (first : ℕ) (bytes : List ℕ) → bytes ≡ empty_image_of catalog → IsImageAt catalog true first bytes (empty_database catalog)
empty_image_at catalog accepted fit first bytes is = record {
  whole = empty_whole catalog accepted;
  had = empty_had catalog first;
  fits = empty_fits true catalog fit;
  spelled = is;
}

-- in it no procedure is ready
empty_settled : (catalog : Catalog) → Accepted catalog → next_settled catalog (empty_database catalog) ≡ None
empty_settled catalog accepted =
    let had = empty_had catalog 0 in
    let rest = at_rest catalog accepted (empty_database catalog) (empty_whole catalog accepted).in_step in
    rest.no_next.1 (rest.drained.0 (λ q on. (let none = had.counts q in let empty = had.streams (border_stream catalog q) in omega (arith, none, empty))))

-- so no entries have no list behind it, in either mode
pub no_list : (mode : Mode) (catalog : Catalog) → Accepted catalog → IsListOf mode catalog (empty_database catalog) [] []
no_list Strong catalog accepted = refl
no_list Weak catalog accepted = empty_settled catalog accepted

-- what stands for a database can take entries from the place of its image on
pub image_takes : (bodies : Bool) (catalog : Catalog) (bytes : List ℕ) (first : ℕ) (database : Database) (db : Model) → IsImageOf bodies bytes first catalog db → StandsFor catalog database db → IsOnAt catalog database first db
image_takes bodies catalog bytes first database db image stands = record {
  on = record { stands = stands; whole = image.image.whole };
  had = image.image.had;
}

-- what a strong generation's entries lead to it stands for
pub leads_replayed : (catalog : Catalog) (s : Stood) (list : List Listed) (place : ℕ) (db : Model) → LeadsTo catalog s list place db → s.mode ≡ Strong → Replayed catalog s place (kept catalog db)
leads_replayed catalog s list place db leads strong = record {
  strong = strong;
  opening = leads.opening;
  image = leads.image;
  list = list;
  entries = subst (λ (m : Mode). IsListOf m catalog leads.opening (entries_of s) list) strong leads.entries;
  replays = leads.replays;
  count_is = leads.placed;
  kept_is = leads.reached;
}
