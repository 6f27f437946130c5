-- Where the live rows of a table stand, by those of its parts.
use Rattle.std.proofs.Common.{◌≡◌, ℕ, ◌%◌, ◌∷◌, List, refl, sym, ap, ◌∙◌, Option, Some, arith}
use Rattle.std.specs.FinMap as finite
use Rattle.ss_value.specs.Rows.{Row}
use Rattle.ss_table.specs.declared.route.Route.{Route}
use Rattle.ss_table.specs.declared.part.Part.{Part}
use Rattle.ss_table.specs.Placed.{ArePlaced}
use Rattle.ss_table.specs.Routes.{place_among}
use Rattle.ss_table.specs.Parts.{to_wide, live_of, parts_of, table_of, key_home, IsPart, IsUnited}
use Rattle.ss_table.proofs.Wide.{get_with_values, each_at}
use Rattle.ss_table.proofs.Slots.{from_part}
use Rattle.ss_table.proofs.Rows.{narrow, rest_is, home_known, apart_at}

module _ (by : Route) (key : List ℕ) (fs : List Part) (u : IsUnited by key fs) where
  slot_place : (q : Row) (slot : ℕ) (row : Row) → finite.get (live_of fs) q ≡ Some (slot, row) → place_among (parts_of fs) (slot % 8) ≡ Some (key_home by fs q)
  slot_place q slot row e =
      let there = from_part fs q (slot, row) e in
      let f : Part = there.1 in
      let part : IsPart key f = each_at (IsPart key) fs there.0 f u.each there.2 in
      let n = narrow f.number (finite.get f.rows.live q) slot row (sym (get_with_values (to_wide f.number) f.rows.live q) ∙ there.3) in
      let home : key_home by fs q ≡ there.0 = home_known by key fs u there.0 f there.2 q (slot, row) there.3 in
      ap (place_among (parts_of fs)) (rest_is f.number n.0 slot part.below n.2) ∙ apart_at 0 (parts_of fs) fs there.0 f u.apart there.2 ∙ ap Some (omega arith ∙ sym home)

pub are_placed : (limit : Option ℕ) (by : Route) (key : List ℕ) (f : Part) (os : List Part) → IsUnited by key (f ∷ os) → ArePlaced (table_of limit by key (f ∷ os))
are_placed limit by key f os u = record { first = f.number; rest = parts_of os; parts = refl; apart = u.apart; slots = slot_place by key (f ∷ os) u }
