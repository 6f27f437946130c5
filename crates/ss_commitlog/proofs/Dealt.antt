-- What tokens and the log's seat are, when some roles have been dealt.
use Rattle.std.proofs.Common.{◌≡◌, ℕ, ◌+◌, ◌<◌, ◌≤◌, List, [], ◌∷◌, ◌++◌, map, length, take, refl, sym, ap, ◌∙◌, subst, arith, length-append, zero-le}
use Rattle.atomic_table.specs.Table.{Me}
use Rattle.ss_model.specs.declared.catalog.Catalog.{Catalog}
use Rattle.ss_model.specs.declared.entry.Listed.{Listed}
use Rattle.ss_model.specs.Database.{Database}
use Rattle.ss_commitlog.specs.declared.role.Role.{Role}
use Rattle.ss_commitlog.specs.declared.role.Role.TheVariants.{Part, Client, Disk, Log}
use Rattle.ss_commitlog.specs.declared.rule.View.{View}
use Rattle.ss_commitlog.specs.declared.rule.Opening.{Opening}
use Rattle.ss_commitlog.specs.Meaning.{IsLegal}
use Rattle.ss_commitlog.specs.Rule.{numbered, reader, opening_roles, opening_view, at_rest, stamp}
use Rattle.ss_commitlog.specs.Tokens.{Known, token, known, head_or_reader, cut, log_view, at_opening}
use Rattle.ss_commitlog.proofs.Beginning.{take_numbered, length-numbered}
use Rattle.ss_commitlog.proofs.Meeting.{take_front, drop_front}

-- a seat with these roles, before the first entry
abbrev pub dealing : ℕ → List Role → Me Listed View
dealing first roles = (at_rest (stamp roles [] first 0), [])

-- some roles have been dealt from the front
module _ (first : ℕ) (front rest : List Role) (n : ℕ) (count : n ≡ length front) (me : Me Listed View) (is : me ≡ dealing first (front ++ rest)) where
  pub enough : (n ≤ length me.0.now.roles) × (me.0 ≡ at_rest me.0.now)
  enough = subst (λ (m : Me Listed View). (n ≤ length m.0.now.roles) × (m.0 ≡ at_rest m.0.now)) (sym is) ((let long = length-append front rest in omega arith), refl)

  pub left : (me' : Me Listed View) → me' ≡ (cut n me.0, me.1) → me' ≡ dealing first rest
  left me' e =
      let cuts : Me Listed View → Me Listed View = λ m. (cut n m.0, m.1) in
      e ∙ (ap cuts is ∙ ap (dealing first) (drop_front front rest n count))

  pub given : map (token me.0.now) (take n me.0.now.roles) ≡ at_opening first front
  given =
      let all : Me Listed View → List Known = λ m. map (token m.0.now) (take n m.0.now.roles) in
      ap all is ∙ ap (at_opening first) (take_front front rest n count)

-- the log's seat, where it is left alone
pub log_alone : (first : ℕ) (me : Me Listed View) → me ≡ dealing first (Log ∷ []) → me ≡ (log_view me.0.now.known me.0.now.count me.0.now.faults, [])
log_alone first me is = subst (λ (m : Me Listed View). m ≡ (log_view m.0.now.known m.0.now.count m.0.now.faults, [])) (sym is) refl

-- the disk's token, which is dealt alone
pub disk_given : (first : ℕ) (me : Me Listed View) (k : Known) → me ≡ dealing first (Disk ∷ Log ∷ []) → k ≡ token me.0.now (head_or_reader me.0.now.roles) → k ≡ known Disk [] first 0
disk_given first me k is e = let one : Me Listed View → Known = λ m. token m.0.now (head_or_reader m.0.now.roles) in e ∙ ap one is

-- ---- the four kinds of token, in the order in which they are dealt

module _ (o : Opening) where
  abbrev pub parts : List Role
  parts = numbered Part 0 o.parts []

  abbrev pub clients : List Role
  clients = numbered Client 0 o.clients []

  abbrev pub notes : List Role
  notes = numbered reader 0 (o.parts + o.clients) []

  pub parts_count : o.parts ≡ length (numbered Part 0 o.parts [])
  parts_count = let long = length-numbered Part 0 o.parts [] in omega arith

  pub clients_count : o.clients ≡ length (numbered Client 0 o.clients [])
  clients_count = let long = length-numbered Client 0 o.clients [] in omega arith

  pub notes_count : o.parts + o.clients ≡ length (numbered reader 0 (o.parts + o.clients) [])
  notes_count = let long = length-numbered reader 0 (o.parts + o.clients) [] in omega arith

  in_order : opening_roles o.parts o.clients ≡ parts ++ (clients ++ (notes ++ Disk ∷ Log ∷ []))
  in_order =
      take_numbered Part 0 o.parts (numbered Client 0 o.clients (numbered reader 0 (o.parts + o.clients) (Disk ∷ Log ∷ [])))
      ∙ ap (λ (l : List Role). parts ++ l) (take_numbered Client 0 o.clients (numbered reader 0 (o.parts + o.clients) (Disk ∷ Log ∷ []))
      ∙ ap (λ (l : List Role). clients ++ l) (take_numbered reader 0 (o.parts + o.clients) (Disk ∷ Log ∷ [])))

  pub at_start : (me : Me Listed View) → me ≡ (opening_view o, []) → me ≡ dealing o.first (parts ++ (clients ++ (notes ++ Disk ∷ Log ∷ [])))
  at_start me is = is ∙ ap (dealing o.first) in_order

-- nothing is legal
pub nothing_legal : (catalog : Catalog) (n clients limit : ℕ) (db : Database) (first : ℕ) (roles : List Role) (me : Me Listed View) → me ≡ dealing first roles → IsLegal catalog n clients limit db me.0.now.known
nothing_legal catalog n clients limit db first roles me is =
    subst (λ (m : Me Listed View). IsLegal catalog n clients limit db m.0.now.known) (sym is) (record { replays = tt; recorded = λ i role j t. absurd j; of_clients = tt; within = zero-le })

-- at an opening all are dealt, one kind after the other
module _ (o : Opening) (me0 : Me Listed View) (is : me0 ≡ (opening_view o, [])) where
  pub at_first : me0 ≡ dealing o.first (parts o ++ (clients o ++ (notes o ++ Disk ∷ Log ∷ [])))
  at_first = at_start o me0 is

  pub parts_enough : (o.parts ≤ length me0.0.now.roles) × (me0.0 ≡ at_rest me0.0.now)
  parts_enough = enough o.first (parts o) (clients o ++ (notes o ++ Disk ∷ Log ∷ [])) o.parts (parts_count o) me0 at_first

  pub parts_given : map (token me0.0.now) (take o.parts me0.0.now.roles) ≡ at_opening o.first (numbered Part 0 o.parts [])
  parts_given = given o.first (parts o) (clients o ++ (notes o ++ Disk ∷ Log ∷ [])) o.parts (parts_count o) me0 at_first

  module _ (me1 : Me Listed View) (one : me1 ≡ (cut o.parts me0.0, me0.1)) where
    pub behind_parts : me1 ≡ dealing o.first (clients o ++ (notes o ++ Disk ∷ Log ∷ []))
    behind_parts = left o.first (parts o) (clients o ++ (notes o ++ Disk ∷ Log ∷ [])) o.parts (parts_count o) me0 at_first me1 one

    pub clients_enough : (o.clients ≤ length me1.0.now.roles) × (me1.0 ≡ at_rest me1.0.now)
    clients_enough = enough o.first (clients o) (notes o ++ Disk ∷ Log ∷ []) o.clients (clients_count o) me1 behind_parts

    pub clients_given : map (token me1.0.now) (take o.clients me1.0.now.roles) ≡ at_opening o.first (numbered Client 0 o.clients [])
    clients_given = given o.first (clients o) (notes o ++ Disk ∷ Log ∷ []) o.clients (clients_count o) me1 behind_parts

    module _ (me2 : Me Listed View) (two : me2 ≡ (cut o.clients me1.0, me1.1)) where
      pub behind_clients : me2 ≡ dealing o.first (notes o ++ Disk ∷ Log ∷ [])
      behind_clients = left o.first (clients o) (notes o ++ Disk ∷ Log ∷ []) o.clients (clients_count o) me1 behind_parts me2 two

      pub notes_enough : (o.parts + o.clients ≤ length me2.0.now.roles) × (me2.0 ≡ at_rest me2.0.now)
      notes_enough = enough o.first (notes o) (Disk ∷ Log ∷ []) (o.parts + o.clients) (notes_count o) me2 behind_clients

      pub notes_given : map (token me2.0.now) (take (o.parts + o.clients) me2.0.now.roles) ≡ at_opening o.first (numbered reader 0 (o.parts + o.clients) [])
      notes_given = given o.first (notes o) (Disk ∷ Log ∷ []) (o.parts + o.clients) (notes_count o) me2 behind_clients

      module _ (me3 : Me Listed View) (three : me3 ≡ (cut (o.parts + o.clients) me2.0, me2.1)) where
        pub behind_notes : me3 ≡ dealing o.first (Disk ∷ Log ∷ [])
        behind_notes = left o.first (notes o) (Disk ∷ Log ∷ []) (o.parts + o.clients) (notes_count o) me2 behind_clients me3 three

        pub disk_enough : (0 < length me3.0.now.roles) × (me3.0 ≡ at_rest me3.0.now)
        disk_enough = subst (λ (m : Me Listed View). (0 < length m.0.now.roles) × (m.0 ≡ at_rest m.0.now)) (sym behind_notes) (omega arith, refl)

        pub disk_is : (k : Known) → k ≡ token me3.0.now (head_or_reader me3.0.now.roles) → k ≡ known Disk [] o.first 0
        disk_is k e = disk_given o.first me3 k behind_notes e

        pub behind_disk : (me4 : Me Listed View) → me4 ≡ (cut 1 me3.0, me3.1) → me4 ≡ dealing o.first (Log ∷ [])
        behind_disk me4 four = let cuts : Me Listed View → Me Listed View = λ m. (cut 1 m.0, m.1) in four ∙ ap cuts behind_notes
