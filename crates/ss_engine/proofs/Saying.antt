-- What may be said after a commit.
use Rattle.std.proofs.Common.{◌≡◌, ℕ, ◌+◌, ◌<◌, ◌≤◌, ◌^◌, Bool, true, cond, List, [], ◌∷◌, ◌++◌, length, refl, sym, ap, ◌∙◌, inl, arith, Result, Ok, Err}
use Rattle.ss_model.specs.declared.catalog.Catalog.{Catalog}
use Rattle.ss_model.specs.declared.entry.Listed as model
use Rattle.ss_report_laws.specs.Replies.{is_of}
use Rattle.ss_commitlog.specs.declared.placed.Placed.{Placed}
use Rattle.ss_commitlog.specs.declared.placed.Unlisted.{Unlisted}
use Rattle.ss_commitlog.specs.declared.placed.Unlisted.TheVariants.{NoMemory, ListFull}
use Rattle.ss_commitlog.specs.declared.role.Role.{Role}
use Rattle.ss_commitlog.specs.declared.role.Role.TheVariants.{Client, Log}
use Rattle.ss_commitlog.specs.declared.rule.Item.{Item}
use Rattle.ss_commitlog.specs.Roles.{In}
use Rattle.ss_commitlog.specs.Rule.{item}
use Rattle.ss_commitlog.specs.Tokens.{Known, AllContinue, added, roles_of}
use Rattle.ss_commitlog.proofs.CallerLemmas.{in_right}
use Rattle.ss_lanes.specs.declared.ticket.Ticket.{Ticket}
use Rattle.ss_lanes.specs.Mines.{Mine, mine_in}
use Rattle.ss_commitlog.specs.Growing.{GoesOn}
use Rattle.ss_turns.specs.Commits.{with_client, CommitsAsked}
use Rattle.ss_lanes.specs.Replies.{MaySay}
use Rattle.ss_lanes.proofs.CallerLemmas.{mine_in-append, mine_own, mine_shorter}
use Rattle.ss_commitlog.proofs.CallerLemmas.{on_longer}

-- one entry of the client at the end
mine_last : (c first : ℕ) (list : List Item) (roles : List Role) (l : model.Listed) → is_of c l.entry ≡ true → mine_in c first (added list roles l) ≡ mine_in c first list ++ (first + length list, l) ∷ []
mine_last c first list roles l own =
    mine_in-append c first list (item l (roles ++ Log ∷ []) ∷ []) ∙ ap (λ (b : Bool). mine_in c first list ++ cond b ((first + length list, l) ∷ []) []) own

-- the client's mark is one of those of the execution
mark_in : (ks : List Known) (k : Known) → In k (with_client ks k)
mark_in ks k = in_right k ks (k ∷ []) (inl refl)

-- the client's mark has met others since
module _ (catalog : Catalog) (parts first limit : ℕ) (t : Ticket) (ks : List Known) (k : Known) (l : model.Listed) (ks' : List Known) (k' x : Known)
    (of : is_of t.client l.entry ≡ true) (own : k.role ≡ Client t.client) (counted : t.count ≡ length (mine_in t.client first k.list)) (on : GoesOn catalog parts k' x) (short : length x.list ≤ limit) where
  -- the client's entries are those that its mark knew when it came back from the commit
  since : k'.role ≡ k.role → mine_in t.client first x.list ≡ mine_in t.client first k'.list
  since same = mine_own catalog parts t.client first x.list k' on.on (same ∙ own)

  before : (list : List Item) → AllContinue catalog parts list (with_client ks k) → mine_in t.client first list ≡ mine_in t.client first k.list
  before list all = mine_own catalog parts t.client first list k (all k (mark_in ks k)) own

  pub may_say : (said : Result Placed Unlisted) → CommitsAsked catalog parts first limit ks k l ks' k' said → MaySay first limit t x.list said
  may_say (Ok placed) done =
      let (list, at, small, same, all, knows, on_all) = done in
      let last : mine_in t.client first k'.list ≡ mine_in t.client first list ++ (first + length list, l) ∷ [] = ap (mine_in t.client first) knows.list_is ∙ mine_last t.client first list (roles_of (with_client ks k)) l of in
      let many : length (mine_in t.client first list) ≡ t.count = ap (λ (z : List Mine). length z) (before list on_all) ∙ sym counted in
      let few = mine_shorter t.client first list in
      let below : t.count < 2 ^ 60 = omega arith in
      let here : Mine = (first + length list, l) in
      let told : Mine = (placed.place, placed.listed) in
      let named : here ≡ told = ap (λ (n : ℕ). (n, l)) (sym at) ∙ ap (λ (m : model.Listed). (placed.place, m)) (sym same) in (
        mine_in t.client first list,
        since knows.role ∙ last ∙ ap (λ (p : Mine). mine_in t.client first list ++ p ∷ []) named,
        many,
        below,
        small,
      )
  may_say (Err NoMemory) none = let same = none.1 in ap (λ (z : List Mine). length z) (since (ap (λ (y : Known). y.role) same) ∙ ap (λ (y : Known). mine_in t.client first y.list) same) ∙ sym counted
  may_say (Err (ListFull count)) done = let (list, count_is, full, all, knows, on_all) = done in (
    ap (λ (z : List Mine). length z) (since knows.role ∙ ap (mine_in t.client first) knows.list_is ∙ before list on_all) ∙ sym counted,
    (let a = on_longer catalog parts x.list k' on.on in let b : length k'.list ≡ length list = ap (λ (z : List Item). length z) knows.list_is in omega arith),
    count_is,
  )
