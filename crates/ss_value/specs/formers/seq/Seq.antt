-- How a `Seq` holds its items, so that a type may hold itself through one.
use mathlib.Core.Path.{◌≡◌, refl, sym}
use mathlib.Core.List.{List, []}
use mathlib.Core.Former.{Former, this, list, via, children}
use base.Stored.{code_map}
use denote.RattleType.{RattleType}
use denote.HoleLaws.{Alike}
use denote.HolePlaces.{Recodes, struct_places, laid}
use denote.Hole.Carrier.{listed, list-listed}
use denote.Hole.Fix.{over}
use denote.Param.Weighed.{Weighed, w_list}
use denote.Model.Placed.{view_places}
use Rattle.std.specs.declared.alloc.Global.{Global}
use Rattle.std.specs.contracts.alloc.Global as global
use Rattle.std.specs.contracts.impls.GlobalAllocator.TheImpl as allocator
use Rattle.std.specs.formers.vec.Vec as vec
use Rattle.ss_value.specs.declared.seq.Seq.TheInside.{Inside}
use Rattle.ss_value.specs.declared.seq.Seq.TheView.{view, invariant}
use Rattle.ss_value.specs.contracts.seq.Seq as seq
use Rattle.ss_value.specs.contracts.seq.Seq.TheInside as inside

-- what contracts see of it: a list
abbrev pub the_former : Former {0} → Former {0}
the_former held = list held

-- it weighs what its heaviest item does
abbrev pub the_weighed : {held : Former {0}} → Weighed held → Weighed (the_former held)
the_weighed weighed = w_list weighed

pub the_empty : List ⊥
the_empty = []

abbrev pub the_items : (X : Type 0) → List X → List X
the_items X xs = xs

pub the_items_listed : (X : Type 0) (xs : List X) → listed _ (children (the_former this) X xs) ≡ the_items X xs
the_items_listed X xs = list-listed X xs

-- the one field, a `Vec`
abbrev stored : Former {0}
stored = via (vec.the_former this Global) Inside (λ X s. s.items) (λ X v. record { items = v }) (λ X s. refl) (λ X v. refl)

module _ (T U : RattleType) (h : T.Denot → U.Denot) where
  -- at two types of one layout it has one layout
  pub the_places : Alike T U h → Alike (seq.the_row T) (seq.the_row U) ((the_former this).map T.Denot U.Denot h)
  the_places alike = view_places stored (list this) view (λ X Y f s. refl) (λ X s. refl) T.Denot U.Denot h (seq.the_row T).coded (seq.the_row U).coded
      (invariant T.Denot) (invariant U.Denot) (λ s p q. refl) (λ s p q. refl) (λ s i. tt) (λ s i. tt)
      (over (inside.the_row T)) (over (inside.the_row U))
      (struct_places (inside.the_type T) (inside.the_type U) (vec.mapped h, tt) _ (λ s. refl) refl (laid _ _ _ (vec.the_places global.the_row allocator.ghosts T U h alike), tt))

  pub the_codes_placed : Recodes T U h → Recodes (seq.the_row T) (seq.the_row U) ((the_former this).map T.Denot U.Denot h)
  the_codes_placed same xs = sym (code_map T.coded.code U.coded.code h (λ x. sym (same x)) xs)
