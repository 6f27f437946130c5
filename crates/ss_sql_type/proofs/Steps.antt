-- One turn of a loop over items or values that go into columns.
use Rattle.std.proofs.Common.{◌≡◌, ℕ, ◌+◌, ◌<◌, sym, ap, ◌∙◌, add-one, List, [], ◌∷◌, ◌++◌, Option, None, Some, refl, length, get_or, map, take}
use Rattle.std.specs.Prelude.{◌==◌, ◌||◌, not}
use Rattle.std.proofs.Math.Seq.{take-suc}
use Rattle.std.proofs.lemmas.List.Folds.{list_any-append}
use Rattle.std.proofs.lemmas.List.{map-append}
use Rattle.ss_value.specs.declared.schema.Column.{Column}
use Rattle.ss_sql_lex.specs.declared.tree.ExprTree.{ExprTree}
use Rattle.ss_sql_lex.specs.declared.tree.ItemTree.{ItemTree}
use Rattle.ss_sql_lex.specs.declared.tree.SetTree.{SetTree}
use Rattle.ss_sql_trees.specs.declared.typed.ColAt.{ColAt}
use Rattle.ss_sql_type.specs.declared.scope.TypeError.{TypeError}
use Rattle.ss_sql_type.specs.declared.scope.TypeError.TheVariants.{KeyIsSet, WrongCount}
use Rattle.ss_sql_type.specs.declared.kinds.Needs.{Needs}
use Rattle.ss_sql_type.specs.Kinds.{first_needs, others}
use Rattle.ss_sql_type.specs.Refusals.{least_of, fault_unless}
use Rattle.ss_sql_type.specs.Names.{Reach, columns_of}
use Rattle.ss_sql_type.specs.Expressions.{expr_faults}
use Rattle.ss_sql_type.specs.Items.{item_faults, items_faults, values_faults}
use Rattle.ss_sql_type.specs.Statements.{has, column_faults, set_needs, with_column, set_column, set_faults, sets_faults}
use Rattle.ss_sql_type.proofs.Noted.{all_noted_append}

module _ (reach : Reach) (a b : Option TypeError) (rest cs : List Column) (needs : Needs) where
  pub item_step : (grouped : Option (List ColAt)) (xs ys : List ItemTree) (x : ItemTree) → xs ≡ x ∷ ys → needs ≡ first_needs rest → cs ≡ others rest → b ≡ least_of a (item_faults reach grouped needs x) → least_of b (items_faults reach grouped cs ys) ≡ least_of a (items_faults reach grouped rest xs)
  item_step grouped xs ys x split first behind noted =
      ap (λ o. least_of o (items_faults reach grouped cs ys)) noted
      ∙ sym (all_noted_append a (item_faults reach grouped needs x) (items_faults reach grouped cs ys))
      ∙ ap (λ n. least_of a (item_faults reach grouped n x ++ items_faults reach grouped cs ys)) first
      ∙ ap (λ (n : List Column). least_of a (item_faults reach grouped (first_needs rest) x ++ items_faults reach grouped n ys)) behind
      ∙ ap (λ (n : List ItemTree). least_of a (items_faults reach grouped rest n)) (sym split)

  pub value_step : (xs ys : List ExprTree) (x : ExprTree) → xs ≡ x ∷ ys → needs ≡ first_needs rest → cs ≡ others rest → b ≡ least_of a (expr_faults reach None needs x) → least_of b (values_faults reach cs ys) ≡ least_of a (values_faults reach rest xs)
  value_step xs ys x split first behind noted =
      ap (λ o. least_of o (values_faults reach cs ys)) noted
      ∙ sym (all_noted_append a (expr_faults reach None needs x) (values_faults reach cs ys))
      ∙ ap (λ n. least_of a (expr_faults reach None n x ++ values_faults reach cs ys)) first
      ∙ ap (λ (n : List Column). least_of a (expr_faults reach None (first_needs rest) x ++ values_faults reach n ys)) behind
      ∙ ap (λ (n : List ExprTree). least_of a (values_faults reach rest n)) (sym split)

module _ (reach : Reach) (key : List ℕ) where
  -- of the columns that were set before, only which they are matters, and neither their order nor how often each was set
  column_same : (earlier later : List ℕ) (at : ℕ) (o : Option ℕ) → ((c : ℕ) → has earlier c ≡ has later c) → column_faults key earlier at o ≡ column_faults key later at o
  column_same earlier later at None h = refl
  column_same earlier later at (Some c) h = ap (λ b. fault_unless (not (has key c)) (KeyIsSet at) ++ fault_unless (not b) (WrongCount at)) (h c)

  with_same : (earlier later : List ℕ) (o : Option ℕ) → ((c : ℕ) → has earlier c ≡ has later c) → (c : ℕ) → has (with_column earlier o) c ≡ has (with_column later o) c
  with_same earlier later None h c = h c
  with_same earlier later (Some d) h c =
      list_any-append (λ e. e == c) earlier (d ∷ [])
      ∙ ap (λ b. b || has (d ∷ []) c) (h c)
      ∙ sym (list_any-append (λ e. e == c) later (d ∷ []))

  pub sets_same : (earlier later : List ℕ) → ((c : ℕ) → has earlier c ≡ has later c) → (sets : List SetTree) → sets_faults reach key earlier sets ≡ sets_faults reach key later sets
  sets_same earlier later h [] = refl
  sets_same earlier later h (s ∷ sets) =
      let o = set_column reach s in
      let value = expr_faults reach None (set_needs (columns_of reach.first) o) s.value in
      ap (λ fs. (fs ++ value) ++ sets_faults reach key (with_column earlier o) sets) (column_same earlier later s.column.at o h)
      ∙ ap (λ fs. (column_faults key later s.column.at o ++ value) ++ fs) (sets_same (with_column earlier o) (with_column later o) (with_same earlier later o h) sets)

-- one SET, and the column that it sets among the earlier ones of the next
pub set_step : (reach : Reach) (key earlier later : List ℕ) (a b : Option TypeError) (xs ys : List SetTree) (x : SetTree) → xs ≡ x ∷ ys → ((c : ℕ) → has later c ≡ has (with_column earlier (set_column reach x)) c) → b ≡ least_of a (set_faults reach key earlier x) → least_of b (sets_faults reach key later ys) ≡ least_of a (sets_faults reach key earlier xs)
set_step reach key earlier later a b xs ys x split grown noted =
    ap (λ o. least_of o (sets_faults reach key later ys)) noted
    ∙ sym (all_noted_append a (set_faults reach key earlier x) (sets_faults reach key later ys))
    ∙ ap (λ (fs : List TypeError). least_of a (set_faults reach key earlier x ++ fs)) (sets_same reach key later (with_column earlier (set_column reach x)) grown ys)
    ∙ ap (λ (n : List SetTree). least_of a (sets_faults reach key earlier n)) (sym split)

-- one more item of a list of which each is changed
pub mapped_step : {X Y : Type 0} (f : X → Y) (xs : List X) (i : ℕ) (x : X) (done now : List Y) (y : Y) → i < length xs → x ≡ get_or xs i x → done ≡ map f (take i xs) → y ≡ f x → now ≡ done ++ y ∷ [] → now ≡ map f (take (i + 1) xs)
mapped_step f xs i x done now y h e is same grown =
    grown ∙ ap (λ ys. ys ++ y ∷ []) is ∙ ap (λ z. map f (take i xs) ++ z ∷ []) (same ∙ ap f e) ∙ sym (map-append f (take i xs) (get_or xs i x ∷ [])) ∙ ap (map f) (sym (rw add-one (take-suc xs i x h)))
