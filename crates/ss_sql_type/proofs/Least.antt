-- What is kept of all faults is the least.
use Rattle.std.proofs.Common.{◌≡◌, zero, suc, refl, sym, ◌∙◌, subst, arith, Bool, true, false, List, [], ◌∷◌, Option, Some, None, ◌⊎◌, inl, inr}
use Rattle.std.specs.Prelude.{Contains, cond, Result, Ok, Err, IfOk, IfErr}
use Rattle.std.proofs.lemmas.Bool.Decides.{nat_tests}
use Rattle.ss_sql_type.specs.declared.scope.TypeError.{TypeError}
use Rattle.ss_sql_type.specs.declared.scope.TypeError.TheVariants.{NoMemory, UnknownName, WrongType, KeyIsSet, WrongCount, NotAggregated}
use Rattle.ss_sql_type.specs.Refusals.{is_before, least_of, IsLeast, IsRefusal}

-- the front, or one behind it
contains_cases : (f x : TypeError) (fs : List TypeError) → Contains (f ∷ fs) x → (f ≡ x) ⊎ Contains fs x
contains_cases f x fs (zero, h, e) = inl e
contains_cases f x fs (suc k, h, e) = inr (k, omega arith, e)

contains_front : (f : TypeError) (fs : List TypeError) → Contains (f ∷ fs) f
contains_front f fs = (0, omega arith, refl)

contains_behind : (f x : TypeError) (fs : List TypeError) → Contains fs x → Contains (f ∷ fs) x
contains_behind f x fs (k, h, e) = (suc k, omega arith, e)

never_before : (f : TypeError) → is_before f f ≡ false
never_before f = grind (arith, nat_tests)

-- f is before g and not before e, so g is not before e
over : (f g e : TypeError) → is_before f g ≡ true → is_before f e ≡ false → is_before g e ≡ false
over f g e h k = grind (arith, nat_tests)

-- f is not before g, which is not before e
under : (f g e : TypeError) → is_before f g ≡ false → is_before g e ≡ false → is_before f e ≡ false
under f g e h k = grind (arith, nat_tests)

least_of_one : (e f : TypeError) → f ≡ e → IsLeast (f ∷ []) e
least_of_one e f is = record {
  among = subst (λ (x : TypeError). Contains (f ∷ []) x) is (contains_front f []);
  first = λ other has. elim (contains_cases f other [] has) [ inl same ↦ rw (sym same ∙ is) (never_before e) | inr (k, h, x) ↦ absurd (omega arith) ];
}

-- one more before the first
least_before : (first f e : TypeError) (fs : List TypeError) → is_before f first ≡ true → IsLeast (f ∷ fs) e → IsLeast (first ∷ f ∷ fs) e
least_before first f e fs h least = record {
  among = contains_behind first e (f ∷ fs) least.among;
  first = λ other has. elim (contains_cases first other (f ∷ fs) has) [ inl same ↦ subst (λ (x : TypeError). is_before x e ≡ false) same (over f first e h (least.first f (contains_front f fs))) | inr rest ↦ least.first other rest ];
}

-- one more behind the first
least_behind : (first f e : TypeError) (fs : List TypeError) → is_before f first ≡ false → IsLeast (first ∷ fs) e → IsLeast (first ∷ f ∷ fs) e
least_behind first f e fs h least = record {
  among = elim (contains_cases first e fs least.among) [ inl same ↦ subst (λ (x : TypeError). Contains (first ∷ f ∷ fs) x) same (contains_front first (f ∷ fs)) | inr rest ↦ contains_behind first e (f ∷ fs) (contains_behind f e fs rest) ];
  first = λ other has. elim (contains_cases first other (f ∷ fs) has) [
    | inl same ↦ least.first other (subst (λ (x : TypeError). Contains (first ∷ fs) x) same (contains_front first fs))
    | inr rest ↦ elim (contains_cases f other fs rest) [
      | inl same ↦ subst (λ (x : TypeError). is_before x e ≡ false) same (under f first e h (least.first first (contains_front first fs)))
      | inr more ↦ least.first other (contains_behind first other fs more)
    ]
  ];
}

-- one more fault, by whether it is before the first
noted_step : (b : Bool) (f first e : TypeError) (fs : List TypeError) → is_before f first ≡ b → (least_of (Some f) fs ≡ Some e → IsLeast (f ∷ fs) e) → (least_of (Some first) fs ≡ Some e → IsLeast (first ∷ fs) e) → least_of (Some (cond b f first)) fs ≡ Some e → IsLeast (first ∷ f ∷ fs) e
noted_step true f first e fs h new old is = least_before first f e fs h (new is)
noted_step false f first e fs h new old is = least_behind first f e fs h (old is)

-- what is kept is the least
pub noted_least : (fs : List TypeError) (first e : TypeError) → least_of (Some first) fs ≡ Some e → IsLeast (first ∷ fs) e
noted_least [] first e is = least_of_one e first cc
noted_least (f ∷ fs) first e is = noted_step (is_before f first) f first e fs refl (noted_least fs f e) (noted_least fs first e) is

-- once a fault is kept, some fault is
noted_stays : (fs : List TypeError) (first : TypeError) → least_of (Some first) fs ≡ None → ⊥
noted_stays [] first is = absurd cc
noted_stays (f ∷ fs) first is = noted_stays fs (cond (is_before f first) f first) is

pub none_noted : (fs : List TypeError) → least_of None fs ≡ None → fs ≡ []
none_noted [] is = refl
none_noted (f ∷ fs) is = absurd (noted_stays fs f is)

pub refusal : (fs : List TypeError) (e : TypeError) → IsLeast fs e → IsRefusal fs e
refusal fs NoMemory least = tt
refusal fs (UnknownName at) least = least
refusal fs (WrongType at) least = least
refusal fs (KeyIsSet at) least = least
refusal fs (WrongCount at) least = least
refusal fs (NotAggregated at) least = least

pub some_noted : (fs : List TypeError) (e : TypeError) → least_of None fs ≡ Some e → IsRefusal fs e
some_noted [] e is = absurd cc
some_noted (f ∷ fs) e is = refusal (f ∷ fs) e (noted_least fs f e is)

-- a tree is given where no fault was kept, and so there is none
pub answered : {T : Type 0} (r : Result T TypeError) (found : Option TypeError) (fs : List TypeError) (typed t : T) → found ≡ least_of None fs → typed ≡ t → IfOk r (λ x. (x ≡ typed) × (found ≡ None)) → IfOk r (λ x. (fs ≡ []) × (x ≡ t))
answered (Ok x) found fs typed t is same h = (none_noted fs (sym is ∙ h.1), h.0 ∙ same)
answered (Err e) found fs typed t is same h = tt

-- a refusal is the fault that was kept, and so the least one
pub refused : {T : Type 0} (r : Result T TypeError) (found : Option TypeError) (fs : List TypeError) → found ≡ least_of None fs → IfErr r (λ e. found ≡ Some e) → IfErr r (IsRefusal fs)
refused (Ok x) found fs is h = tt
refused (Err e) found fs is h = some_noted fs e (sym is ∙ h)

-- what holds of the tree of a text without faults holds of the tree that is given
pub follows : {T : Type 0} (r : Result T TypeError) (fs : List TypeError) (t : T) (P : T → Type 0) → (fs ≡ [] → P t) → IfOk r (λ x. (fs ≡ []) × (x ≡ t)) → IfOk r P
follows (Ok x) fs t P sound h = subst P (sym h.1) (sound h.0)
follows (Err e) fs t P sound h = tt
