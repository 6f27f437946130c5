-- Checks one after another: each reports one error at most, and none where it passes; and so do all together.
use Rattle.std.proofs.Common.{◌≡◌, ◌⊎◌, sym, ap, ◌∙◌, inl, inr}

-- this holds of one thing at most
abbrev pub IsOnce : {A : Type 0} → (A → Type 0) → Type 0
IsOnce {A = A} Found = (a b : A) → Found a → Found b → a ≡ b

-- an error that reports what is found
abbrev pub Reported : {A E : Type 0} → (A → E) → (A → Type 0) → E → Type 0
Reported {A = A} tell Found e = (a : A) × (e ≡ tell a) × Found a

-- checks that come so far, that report one error at most, and none where they pass
pub record InTurn {E : Type 0} (Before After : Type 0) (Tells : E → Type 0) : Type 0 where
  pub reached : (e : E) → Tells e → Before
  pub earlier : After → Before
  pub once : IsOnce Tells
  pub either : (e : E) → Tells e → After → ⊥

module _ {A E Before After : Type 0} (tell : A → E) (Found : A → Type 0)
    (reached : (a : A) → Found a → Before) (earlier : After → Before) (once : IsOnce Found) (either : (a : A) → Found a → After → ⊥) where
  pub one_check : InTurn Before After (Reported tell Found)
  one_check = record {
    reached = λ e h. reached h.0 h.2;
    earlier = earlier;
    once = λ e f h k. h.1 ∙ ap tell (once h.0 k.0 h.2 k.2) ∙ sym k.1;
    either = λ e h. either h.0 h.2;
  }

module _ {E Before Middle After : Type 0} {First Rest : E → Type 0} (first : InTurn Before Middle First) (rest : InTurn Middle After Rest) where
  either_reached : (e : E) → First e ⊎ Rest e → Before
  either_reached e (inl h) = first.reached e h
  either_reached e (inr h) = first.earlier (rest.reached e h)

  either_once : (e f : E) → First e ⊎ Rest e → First f ⊎ Rest f → e ≡ f
  either_once e f (inl h) (inl k) = first.once e f h k
  either_once e f (inl h) (inr k) = absurd (first.either e h (rest.reached f k))
  either_once e f (inr h) (inl k) = absurd (first.either f k (rest.reached e h))
  either_once e f (inr h) (inr k) = rest.once e f h k

  neither_passed : (e : E) → First e ⊎ Rest e → After → ⊥
  neither_passed e (inl h) passed = first.either e h (rest.earlier passed)
  neither_passed e (inr h) passed = rest.either e h passed

  -- one check and then others
  pub and_then : InTurn Before After (λ (e : E). First e ⊎ Rest e)
  and_then = record { reached = either_reached; earlier = λ passed. first.earlier (rest.earlier passed); once = either_once; either = neither_passed }
