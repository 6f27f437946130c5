-- Tables that take in those of another part, and give them back.
use Rattle.std.specs.Prelude.{◌≡◌, ℕ, List, [], ◌∷◌, map}
use Rattle.ss_table.specs.TableValue.{TableValue}
use Rattle.ss_table.specs.Joins.{StandsAtHome, IsFresh, IsSettled, with_table, shell_of, IsLentBy, WasReleased}

-- a table may take in another: one with its key and its route, and of one part alone, which it doesn't have; all rows of both
-- are of their parts, and none is dead
pub record MayTakeIn (h g : TableValue) : Type 0 where
  pub key : g.key ≡ h.key
  pub route : g.route ≡ h.route
  pub part : (p : ℕ) × (g.parts ≡ p ∷ []) × IsFresh h p
  pub home : StandsAtHome h × StandsAtHome g
  pub settled : IsSettled h × IsSettled g

-- each table may take in its fellow, and there are as many
abbrev pub MayTakeInAll : List TableValue → List TableValue → Type 0
MayTakeInAll [] gs = gs ≡ []
MayTakeInAll (h ∷ hs) [] = ⊥
MayTakeInAll (h ∷ hs) (g ∷ gs) = MayTakeIn h g × MayTakeInAll hs gs

-- each table with the rows and the part of its fellow
abbrev pub with_tables : List TableValue → List TableValue → List TableValue
with_tables [] gs = []
with_tables (h ∷ hs) [] = h ∷ hs
with_tables (h ∷ hs) (g ∷ gs) = with_table h g ∷ with_tables hs gs

-- what each of these is that lent all its rows
abbrev pub shells_of : List TableValue → List TableValue
shells_of gs = map shell_of gs

-- a table may give its last part back to the shell that lent it: no row is dead
abbrev pub MayGiveBack : TableValue → TableValue → Type 0
MayGiveBack h shell = IsLentBy h shell × IsSettled h

-- each table may give its last part back to its fellow, and there are as many
abbrev pub MayGiveBackAll : List TableValue → List TableValue → Type 0
MayGiveBackAll [] ks = ks ≡ []
MayGiveBackAll (h ∷ hs) [] = ⊥
MayGiveBackAll (h ∷ hs) (k ∷ ks) = MayGiveBack h k × MayGiveBackAll hs ks

-- a table gave its last part back to its shell, and both have the limits that they had
pub record WasGivenBack (old shell new last : TableValue) : Type 0 where
  pub released : WasReleased old new last
  pub own : last.parts ≡ shell.parts
  pub limit : new.limit ≡ old.limit
  pub last_limit : last.limit ≡ shell.limit

-- each table gave its last part back
abbrev pub WereGivenBack : List TableValue → List TableValue → List TableValue → List TableValue → Type 0
WereGivenBack [] shells news lasts = (news ≡ []) × (lasts ≡ [])
WereGivenBack (old ∷ olds) (shell ∷ shells) (new ∷ news) (last ∷ lasts) = WasGivenBack old shell new last × WereGivenBack olds shells news lasts
WereGivenBack (old ∷ olds) _ _ _ = ⊥
