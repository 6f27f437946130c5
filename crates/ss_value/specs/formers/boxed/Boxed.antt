-- How a `Keep` holds its value, so that a type may hold itself through one.
use mathlib.Core.Path.{refl}
use mathlib.Core.Former.{Former, this, const, pair, via}
use base.Stored.{gnil}
use base.Fml.{ftrue}
use denote.RattleType.{RattleType}
use denote.Memory.{part_of}
use denote.RawPtr.{Ptr}
use denote.Sharing.{nothing}
use denote.HoleLaws.{Alike}
use denote.HolePlaces.{Recodes, struct_places, laid, one_value}
use denote.Hole.Fix.{over}
use denote.Param.Weighed.{Weighed}
use denote.Model.Placed.{view_places}
use Rattle.std.specs.declared.alloc.Global.{Global}
use Rattle.std.specs.contracts.alloc.Global as global
use Rattle.std.specs.contracts.impls.GlobalAllocator.TheImpl as allocator
use Rattle.std.specs.declared.boxed.Box.{Box}
use Rattle.std.specs.contracts.boxed.Box as box
use Rattle.ss_value.specs.declared.boxed.Boxed.TheInside.{Inside}
use Rattle.ss_value.specs.declared.boxed.Boxed.TheView.{view, invariant}
use Rattle.ss_value.specs.contracts.boxed.Boxed as keep
use Rattle.ss_value.specs.contracts.boxed.Boxed.TheInside as inside

-- what contracts see of it: the value
abbrev pub the_former : Former {0} → Former {0}
the_former held = held

abbrev pub the_weighed : {held : Former {0}} → Weighed held → Weighed (the_former held)
the_weighed weighed = weighed

-- the one field, a `Box`: where it points, its allocator, and the value
abbrev stored : Former {0}
stored = via (pair (const (Ptr × Global)) this) Inside (λ X k. ((k.inner.ptr, k.inner.alloc), k.inner.value))
    (λ X v. record { inner = record { ptr = v.0.0; alloc = v.0.1; value = v.1 } }) (λ X k. refl) (λ X v. refl)

-- the box with another value in it
abbrev holding : {X Y : Type 0} → Box X Global → Y → Box Y Global
holding b y = record { ptr = b.ptr; alloc = b.alloc; value = y }

abbrev boxed : RattleType → RattleType
boxed T = box.the_row T global.the_row allocator.ghosts

module _ (T U : RattleType) (h : T.Denot → U.Denot) where
  boxes_alike : Alike T U h → Alike (boxed T) (boxed U) (λ b. holding b (h b.value))
  unfolding part_of
  boxes_alike alike = record {
    mir_same = λ i. (boxed (one_value T (alike.mir_same i) (λ _. ftrue) (λ _ _. nothing) gnil)).mir;
    own_same = λ b i. (boxed (one_value T (alike.mir_same i) (alike.own_same b.value i) (alike.shr_same b.value i) gnil)).own_val (holding b tt);
    shr_same = λ b i. (boxed (one_value T (alike.mir_same i) (alike.own_same b.value i) (alike.shr_same b.value i) gnil)).shr_at (holding b tt);
  }

  -- at two types of one layout it has one layout
  pub the_places : Alike T U h → Alike (keep.the_row T) (keep.the_row U) ((the_former this).map T.Denot U.Denot h)
  the_places alike = view_places stored this view (λ X Y f k. refl) (λ X k. refl) T.Denot U.Denot h (keep.the_row T).coded (keep.the_row U).coded
      (invariant T.Denot) (invariant U.Denot) (λ k p q. refl) (λ k p q. refl) (λ k i. tt) (λ k i. tt)
      (over (inside.the_row T)) (over (inside.the_row U))
      (struct_places (inside.the_type T) (inside.the_type U) ((λ b. holding b (h b.value)), tt) _ (λ k. refl) refl (laid _ _ _ (boxes_alike alike), tt))

  pub the_codes_placed : Recodes T U h → Recodes (keep.the_row T) (keep.the_row U) ((the_former this).map T.Denot U.Denot h)
  the_codes_placed same k = same k
