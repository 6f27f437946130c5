-- The least of several lists of faults.
use Rattle.std.proofs.Common.{◌≡◌, refl, sym, ap, ◌∙◌, List, [], ◌∷◌, ◌++◌, Bool, Option, Result, Ok, Err, OnOk}
use Rattle.ss_sql_trees.specs.declared.typed.BinaryOp.{BinaryOp}
use Rattle.ss_sql_trees.specs.declared.typed.BinaryOp.TheVariants.{Compare}
use Rattle.ss_sql_type.specs.declared.scope.TypeError.{TypeError}
use Rattle.ss_sql_type.specs.declared.kinds.ValueKind.{ValueKind}
use Rattle.ss_sql_type.specs.declared.expr.TypedExpr.{TypedExpr}
use Rattle.ss_sql_type.specs.Refusals.{least_with, least_of, fault_unless}
use Rattle.ss_sql_type.specs.Expressions.{Typed, set_of, Shows, side_faults, sides_faults}

-- a list and then another
pub all_noted_append : (first : Option TypeError) (xs ys : List TypeError) → least_of first (xs ++ ys) ≡ least_of (least_of first xs) ys
all_noted_append first [] ys = refl
all_noted_append first (x ∷ xs) ys = all_noted_append (least_with first x) xs ys

-- faults of parts, one after the other
pub noted_twice : (a b c : Option TypeError) (xs ys : List TypeError) → b ≡ least_of a xs → c ≡ least_of b ys → c ≡ least_of a (xs ++ ys)
noted_twice a b c xs ys e f = f ∙ ap (λ o. least_of o ys) e ∙ sym (all_noted_append a xs ys)

-- what the program's struct has is all that an operator needs
pub side_shown : (kind : ValueKind) (side : TypedExpr) (t : Typed) → Shows side t → side_faults kind (set_of side) ≡ side_faults kind t
side_shown kind side t is = rw (is.1, is.2) refl

pub sides_shown : (op : BinaryOp) (left right : TypedExpr) (l r : Typed) → Shows left l → Shows right r → sides_faults op (set_of left) (set_of right) ≡ sides_faults op l r
sides_shown (Compare cmp) left right l r isl isr = rw (isl.1, isr.1, isr.2) refl
sides_shown op left right l r isl isr = rw (isl.1, isl.2, isr.1, isr.2) refl

-- what holds at all holds at Ok
pub on_ok : {X E : Type 0} (r : Result X E) {P : Type 0} → P → OnOk r P
on_ok (Ok x) p = p
on_ok (Err e) p = tt

-- an operator's side, and then what the operator says of it
pub unary_noted : (a b c : Option TypeError) (k l : ValueKind) (side : TypedExpr) (t : Typed) → Shows side t → k ≡ l → b ≡ least_of a t.faults → c ≡ least_of b (side_faults k (set_of side)) → c ≡ least_of a (t.faults ++ side_faults l t)
unary_noted a b c k l side t is same first second =
    noted_twice a b c t.faults (side_faults l t) first (second ∙ ap (λ x. least_of b (side_faults x (set_of side))) same ∙ ap (least_of b) (side_shown l side t is))

-- both sides of an operator, and then what the operator says of them
pub binary_noted : (a b c d : Option TypeError) (op : BinaryOp) (left right : TypedExpr) (l r : Typed) → Shows left l → Shows right r → b ≡ least_of a l.faults → c ≡ least_of b r.faults → d ≡ least_of c (sides_faults op (set_of left) (set_of right)) → d ≡ least_of a (l.faults ++ (r.faults ++ sides_faults op l r))
binary_noted a b c d op left right l r isl isr first second third =
    noted_twice a b d l.faults _ first (noted_twice b c d r.faults _ second (third ∙ ap (least_of c) (sides_shown op left right l r isl isr)))

-- faults, and then a rule
pub check_noted : (a b c : Option TypeError) (xs : List TypeError) (right right' : Bool) (fault fault' : TypeError) → b ≡ least_of a xs → right ≡ right' → fault ≡ fault' → c ≡ least_of b (fault_unless right fault) → c ≡ least_of a (xs ++ fault_unless right' fault')
check_noted a b c xs right right' fault fault' first same same' second =
    noted_twice a b c xs _ first (second ∙ ap (λ x. least_of b (fault_unless x fault)) same ∙ ap (λ x. least_of b (fault_unless right' x)) same')
