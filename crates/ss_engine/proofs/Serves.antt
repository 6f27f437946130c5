-- What a client asked for, which ran on the partitions in hand.
use Rattle.std.proofs.Common.{◌≡◌, ℕ, true, List, length, sym, ap, ◌∙◌, subst, Result, Ok, Err, IfOk}
use Rattle.ss_model.specs.declared.catalog.Catalog.{Catalog}
use Rattle.ss_model.specs.declared.entry.Entry.{Entry}
use Rattle.ss_model.specs.declared.entry.Listed as model
use Rattle.ss_model.specs.Database.{Database, fits_entry}
use Rattle.ss_report_laws.specs.Replies.{is_of}
use Rattle.ss_commitlog.specs.declared.placed.Placed.{Placed}
use Rattle.ss_commitlog.specs.declared.placed.Unlisted.{Unlisted}
use Rattle.ss_commitlog.specs.declared.role.Role.TheVariants.{Client}
use Rattle.ss_commitlog.specs.Tokens.{Known, Follows, KnowOne}
use Rattle.ss_hand.specs.declared.hand.Hand.{Hand}
use Rattle.ss_engine.specs.declared.partition.pumped.Pumped.{Pumped}
use Rattle.ss_lanes.specs.declared.ticket.Ticket.{Ticket}
use Rattle.ss_turns.specs.Executed.{HoldsFor, RanAsked}
use Rattle.ss_lanes.specs.Mines.{mine_in}
use Rattle.ss_engine.specs.Pumped.{IsLeastOf, IsPumped, pumped_of}
use Rattle.ss_lanes.specs.Replies.{MaySay}
use Rattle.ss_engine.specs.Serving.{ServesHere}
use Rattle.ss_commitlog.proofs.CallerLemmas.{follows_on, on_itself}
use Rattle.ss_engine.proofs.Pumps.{commit_pumps}
use Rattle.ss_engine.proofs.Saying.{may_say}
use Rattle.ss_engine.proofs.Touching.{some_mark, of_mark}

pub holds_for : {I : Type 0} (catalog : Catalog) (parts : ℕ) (db : Database) (p : ℕ) (held : List ℕ) (note : Known) (hand : Hand I) (e : Entry) → ServesHere catalog parts db p held note hand e
    → HoldsFor catalog parts db hand e
holds_for catalog parts db p held note hand e serves = record { held = held; in_hand = serves.in_hand; touched = serves.touched }

-- what is said to be listed is the entry, which fits
pub said_fits : (catalog : Catalog) (parts first limit : ℕ) (e : Entry) (ks : List Known) (k : Known) (ks' : List Known) (k' : Known) (said : Result Placed Unlisted)
    → RanAsked catalog parts first limit e ks k ks' k' said → fits_entry catalog e ≡ true → IfOk said (λ placed. fits_entry catalog placed.listed.entry ≡ true)
said_fits catalog parts first limit e ks k ks' k' (Ok placed) ran fits =
    let (list, at, small, copied, all, knows, on) = ran.commits in
    ap (λ (l : model.Listed). fits_entry catalog l.entry) copied ∙ ap (fits_entry catalog) ran.entry_is ∙ fits
said_fits catalog parts first limit e ks k ks' k' (Err why) ran fits = tt

-- its note knew what the marks in hand knew; note and the client's mark met behind the run
module _ {I : Type 0} (catalog : Catalog) (parts : ℕ) (db : Database) (first limit p : ℕ) (held : List ℕ) (note : Known) (hand : Hand I) (e : Entry) (serves : ServesHere catalog parts db p held note hand e)
    (k k' x end : Known) (ks' : List Known) (said : Result Placed Unlisted) (ran : RanAsked catalog parts first limit e hand.marks k ks' k' said)
    (to_x : Follows catalog parts limit k' x) (to_end : Follows catalog parts limit note end) (one : KnowOne x end) where
  pub run_pumps : (did : Pumped) → did ≡ pumped_of said → IsPumped catalog parts db first limit p note end did
  run_pumps did is =
      let (m, m_in) = some_mark catalog parts db held hand serves.in_hand in
      let met : note.list ≡ m.list = sym (of_mark (λ (z : Known). z.list ≡ note.list) hand.marks m serves.know_one m_in) in
      let least : IsLeastOf catalog parts ran.listed.entry p = subst (λ (z : Entry). IsLeastOf catalog parts z p) (sym ran.entry_is) serves.least in
      subst (λ (d : Pumped). IsPumped catalog parts db first limit p note end d) (sym is)
      (commit_pumps catalog parts db first limit p hand.marks k ran.listed ks' k' x m note note end least m_in met (on_itself catalog parts note) (follows_on catalog parts limit note end to_end)
      (follows_on catalog parts limit k' x to_x) (sym one.0) to_end.within said ran.commits)

  pub run_says : (t : Ticket) → is_of t.client e ≡ true → k.role ≡ Client t.client → t.count ≡ length (mine_in t.client first k.list) → MaySay first limit t x.list said
  run_says t own role counted =
      let of : is_of t.client ran.listed.entry ≡ true = subst (λ (z : Entry). is_of t.client z ≡ true) (sym ran.entry_is) own in
      may_say catalog parts first limit t hand.marks k ran.listed ks' k' x of role counted (follows_on catalog parts limit k' x to_x) to_x.within said ran.commits
