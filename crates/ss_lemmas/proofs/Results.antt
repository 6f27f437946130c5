-- Options and results, case by case.
use Rattle.std.specs.Prelude.{Option, Some, None, Result, Ok, Err, OnOk, OnErr, IfSome, option_map, is_some}
use Rattle.std.proofs.Common.{◌≡◌, refl, true, IfOk, Bool, false, cond}

pub some_so : {A : Type 0} (o : Option A) (P Q : A → Type 0) → ((x : A) → P x → Q x) → IfSome o P → IfSome o Q
some_so None P Q f p = tt
some_so (Some x) P Q f p = f x p

pub on_so : {A E : Type 0} (r : Result A E) (P Q : Type 0) → (P → Q) → OnOk r P → OnOk r Q
on_so (Ok x) P Q f p = f p
on_so (Err x) P Q f p = p

pub error_so : {A E : Type 0} (r : Result A E) (P Q : Type 0) → (P → Q) → OnErr r P → OnErr r Q
error_so (Ok x) P Q f p = tt
error_so (Err e) P Q f p = f p

pub on_err_so : {A E P : Type 0} (r : Result A E) → P → OnErr r P
on_err_so (Ok x) p = tt
on_err_so (Err x) p = p

pub on_either : {A E : Type 0} (r : Result A E) (P Q S : Type 0) → (P → S) → (Q → S) → OnOk r P → OnErr r Q → S
on_either (Ok x) P Q S f g p q = f p
on_either (Err x) P Q S f g p q = g q

pub map_some : {A B : Type 0} (f : A → B) (o : Option A) (b : B) → option_map f o ≡ Some b → (a : A) × (o ≡ Some a) × (f a ≡ b)
map_some f None b h = absurd (cc)
map_some f (Some a) b h = let same : f a ≡ b = cc in (a, refl, same)

pub some_is : {X : Type 0} (o : Option X) → is_some o ≡ true → (x : X) × (o ≡ Some x)
some_is None e = absurd cc
some_is (Some x) e = (x, refl)

pub some_map : {A B : Type 0} (f : A → B) (o : Option A) → is_some (option_map f o) ≡ is_some o
some_map f None = refl
some_map f (Some x) = refl

pub if_ok : {A E : Type 0} (P Q : A → Type 0) → ((a : A) → P a → Q a) → (r : Result A E) → IfOk r P → IfOk r Q
if_ok P Q f (Ok a) h = f a h
if_ok P Q f (Err e) h = h

pub neither_some : {A : Type 0} (b : Bool) (x : A) (o : Option A) → cond b (Some x) o ≡ None → (b ≡ false) × (o ≡ None)
neither_some true x o e = absurd (cc)
neither_some false x o e = (refl, e)
