-- The entries of a tree, as a finite map from names to numbers.
use Rattle.std.proofs.Common.{◌≡◌, ℕ, Bool, true, false, List, [], ◌∷◌, map, cond, refl, sym, ap, subst, ◌∙◌, Option, Some, None, unwrap_or}
use Rattle.std.specs.Prelude.{IsTrue, is_some}
use Rattle.std.specs.Ordering.{eq_by_cmp, is_eq, match_ordering, nat_cmp}
use Rattle.std.specs.declared.cmp.Ordering.{Ordering}
use Rattle.std.specs.declared.cmp.Ordering.TheVariants.{Less, Equal, Greater}
use Rattle.std.specs.Cmp.{eq_by_cmp_equiv}
use Rattle.std.specs.Cmp.Lexicographic.{slice_cmp, nat_list_cmp_total}
use Rattle.std.specs.Global.{Vec}
use Rattle.std.specs.FinMap as finite
use Rattle.std.specs.FinMap.{from_entries, get-from_entries, get-insert, same_map, slice_cmp-IsAntisymmetric, nat_cmp-IsAntisymmetric}
use Rattle.std.specs.FinMap.Entries.{find}
use Rattle.std.specs.BTreeMap.{is_at, insert_entry}
use Rattle.std.specs.Map.{lookup, set_value}
use Rattle.ss_value.specs.Words.{is_name}
use Rattle.ss_model.specs.Database.{NextNumbers}
use Rattle.ss_shard.specs.Sources.{number_of, AreNames}

abbrev pub bytes_cmp : List ℕ → List ℕ → Ordering
bytes_cmp = slice_cmp nat_cmp

tied : (p q : List ℕ) → is_eq (bytes_cmp p q) ≡ true → p ≡ q
tied p q e = slice_cmp-IsAntisymmetric nat_cmp-IsAntisymmetric p q (by (bytes_cmp p q) e)
  where
    by : (o : Ordering) → is_eq o ≡ true → o ≡ Equal
    by Less e = cc
    by Equal e = refl
    by Greater e = cc

-- no source is there
pub no_names : AreNames finite.empty
no_names source has =
    let never : false ≡ true = sym (ap is_some (finite.get-empty bytes_cmp source)) ∙ has in
    cc

-- a number more, at a source that is a name
pub named_still : (ns : NextNumbers) (name : List ℕ) (n : ℕ) → IsTrue (is_name name) → AreNames ns → AreNames (finite.insert ns name n)
named_still ns name n is names q has = by (is_eq (bytes_cmp q name)) refl (sym (ap is_some (get-insert nat_list_cmp_total ns name n q)) ∙ has)
  where
    by : (b : Bool) → is_eq (bytes_cmp q name) ≡ b → is_some (cond b (Some n) (finite.get ns q)) ≡ true → IsTrue (is_name q)
    by true e h = subst (λ (p : List ℕ). IsTrue (is_name p)) (sym (tied q name e)) is
    by false e h = names q h

module _ {K : Type 0} (bytes : K → List ℕ) where
  abbrev pub named : K × ℕ → List ℕ × ℕ
  named e = (bytes e.0, e.1)

  -- the map of a tree's entries
  abbrev pub numbers_of : List (K × ℕ) → NextNumbers
  numbers_of es = from_entries (map named es)

  -- what a tree answers at a name
  abbrev pub number_at : List (K × ℕ) → List ℕ → Option ℕ
  number_at es q = lookup (is_at (λ k. bytes_cmp q (bytes k))) es

  found : (es : List (K × ℕ)) (q : List ℕ) → find bytes_cmp q (map named es) ≡ number_at es q
  found [] q = refl
  found (e ∷ es) q = ap (cond (is_at (λ k. bytes_cmp q (bytes k)) e.0) (Some e.1)) (found es q)

  pub get_number : (es : List (K × ℕ)) (q : List ℕ) → finite.get (numbers_of es) q ≡ number_at es q
  get_number es q = get-from_entries nat_list_cmp_total (map named es) q ∙ found es q

  -- one more in front of what else there is
  module _ (q name : List ℕ) (n : ℕ) where
    abbrev here : Bool
    here = is_eq (bytes_cmp q name)

    same_position : (k : List ℕ) (x : ℕ) (rest : Option ℕ) → name ≡ k → cond (is_eq (bytes_cmp q k)) (Some n) rest ≡ cond here (Some n) (cond (is_eq (bytes_cmp q k)) (Some x) rest)
    same_position k x rest same = subst (λ (p : List ℕ). cond (is_eq (bytes_cmp q p)) (Some n) rest ≡ cond here (Some n) (cond (is_eq (bytes_cmp q p)) (Some x) rest)) same (by here)
      where
        by : (b : Bool) → cond b (Some n) rest ≡ cond b (Some n) (cond b (Some x) rest)
        by true = refl
        by false = refl

    later_position : (k : List ℕ) (x : ℕ) (new rest : Option ℕ) → is_eq (bytes_cmp name k) ≡ false → new ≡ cond here (Some n) rest → cond (is_eq (bytes_cmp q k)) (Some x) new ≡ cond here (Some n) (cond (is_eq (bytes_cmp q k)) (Some x) rest)
    later_position k x new rest apart is = by here refl is
      where
        by : (b : Bool) → here ≡ b → new ≡ cond b (Some n) rest → cond (is_eq (bytes_cmp q k)) (Some x) new ≡ cond b (Some n) (cond (is_eq (bytes_cmp q k)) (Some x) rest)
        by true e h = ap (λ b. cond b (Some x) new) (ap (λ (p : List ℕ). is_eq (bytes_cmp p k)) (tied q name e) ∙ apart) ∙ h
        by false e h = ap (cond (is_eq (bytes_cmp q k)) (Some x)) h

    pub number_written : (es : List (K × ℕ)) → is_some (number_at es name) ≡ true → number_at (set_value (is_at (λ k. bytes_cmp name (bytes k))) es n) q ≡ cond here (Some n) (number_at es q)
    number_written [] some = cc
    number_written (e ∷ es) some = by (is_eq (bytes_cmp name (bytes e.0))) refl some (number_written es)
      where
        by : (b : Bool) → is_eq (bytes_cmp name (bytes e.0)) ≡ b → is_some (cond b (Some e.1) (number_at es name)) ≡ true
            → (is_some (number_at es name) ≡ true → number_at (set_value (is_at (λ k. bytes_cmp name (bytes k))) es n) q ≡ cond here (Some n) (number_at es q))
            → number_at (cond b ((e.0, n) ∷ es) (e ∷ set_value (is_at (λ k. bytes_cmp name (bytes k))) es n)) q ≡ cond here (Some n) (number_at (e ∷ es) q)
        by true at h rest = same_position (bytes e.0) e.1 (number_at es q) (tied name (bytes e.0) at)
        by false at h rest = later_position (bytes e.0) e.1 _ (number_at es q) at (rest h)

  pub number_inserted : (q : List ℕ) (k : K) (n : ℕ) (es : List (K × ℕ)) → number_at (insert_entry (λ x y. bytes_cmp (bytes x) (bytes y)) es k n) q ≡ cond (is_eq (bytes_cmp q (bytes k))) (Some n) (number_at es q)
  number_inserted q k n [] = refl
  number_inserted q k n (e ∷ es) = by (bytes_cmp (bytes k) (bytes e.0)) refl (number_inserted q k n es)
    where
      by : (o : Ordering) → bytes_cmp (bytes k) (bytes e.0) ≡ o
          → number_at (insert_entry (λ x y. bytes_cmp (bytes x) (bytes y)) es k n) q ≡ cond (is_eq (bytes_cmp q (bytes k))) (Some n) (number_at es q)
          → number_at (match_ordering o ((k, n) ∷ e ∷ es) ((e.0, n) ∷ es) (e ∷ insert_entry (λ x y. bytes_cmp (bytes x) (bytes y)) es k n)) q ≡ cond (is_eq (bytes_cmp q (bytes k))) (Some n) (number_at (e ∷ es) q)
      by Less o rest = refl
      by Equal o rest = same_position q (bytes k) n (bytes e.0) e.1 (number_at es q) (tied (bytes k) (bytes e.0) (ap is_eq o))
      by Greater o rest = later_position q (bytes k) n (bytes e.0) e.1 _ (number_at es q) (ap is_eq o) rest

  pub has_number : (es : List (K × ℕ)) (ns : NextNumbers) (q : List ℕ) → numbers_of es ≡ ns → is_some (finite.get ns q) ≡ true → is_some (number_at es q) ≡ true
  has_number es ns q is some = ap is_some (sym (get_number es q)) ∙ ap (λ (ns : NextNumbers). is_some (finite.get ns q)) is ∙ some

  -- a number is set where one stands
  pub number_set : (es fs : List (K × ℕ)) (name : List ℕ) (n : ℕ) → is_some (number_at es name) ≡ true → fs ≡ set_value (is_at (λ k. bytes_cmp name (bytes k))) es n → numbers_of fs ≡ finite.insert (numbers_of es) name n
  number_set es fs name n some is = same_map nat_list_cmp_total (slice_cmp-IsAntisymmetric nat_cmp-IsAntisymmetric) _ _ (λ q.
      get_number fs q ∙ ap (λ es. number_at es q) is ∙ number_written q name n es some
      ∙ sym (get-insert nat_list_cmp_total (numbers_of es) name n q ∙ ap (cond (eq_by_cmp bytes_cmp q name) (Some n)) (get_number es q)))

  -- a source that had no entry has the number 0 still
  pub none_risen : (es fs : List (K × ℕ)) (k : K) → number_at es (bytes k) ≡ None → fs ≡ insert_entry (λ x y. bytes_cmp (bytes x) (bytes y)) es k 0 → (name : List ℕ) → number_of (numbers_of fs) name ≡ number_of (numbers_of es) name
  none_risen es fs k none is name =
      ap (λ o. unwrap_or o 0) (get_number fs name ∙ ap (λ es. number_at es name) is ∙ number_inserted name k 0 es)
      ∙ by (is_eq (bytes_cmp name (bytes k))) refl
      ∙ sym (ap (λ o. unwrap_or o 0) (get_number es name))
    where
      by : (b : Bool) → is_eq (bytes_cmp name (bytes k)) ≡ b → unwrap_or (cond b (Some 0) (number_at es name)) 0 ≡ unwrap_or (number_at es name) 0
      by true e = sym (ap (λ o. unwrap_or o 0) (ap (number_at es) (tied name (bytes k) e) ∙ none))
      by false e = refl

  pub now_stands : (es fs : List (K × ℕ)) (k : K) → fs ≡ insert_entry (λ x y. bytes_cmp (bytes x) (bytes y)) es k 0 → is_some (finite.get (numbers_of fs) (bytes k)) ≡ true
  now_stands es fs k is =
      ap is_some (get_number fs (bytes k) ∙ ap (λ es. number_at es (bytes k)) is ∙ number_inserted (bytes k) k 0 es)
      ∙ ap (λ b. is_some (cond b (Some 0) (number_at es (bytes k)))) ((eq_by_cmp_equiv nat_list_cmp_total).refl (bytes k))

  -- one source more, which is a name
  pub named_too : (es fs : List (K × ℕ)) (k : K) → IsTrue (is_name (bytes k)) → AreNames (numbers_of es) → fs ≡ insert_entry (λ x y. bytes_cmp (bytes x) (bytes y)) es k 0 → AreNames (numbers_of fs)
  named_too es fs k is names made q has = by (is_eq (bytes_cmp q (bytes k))) refl (sym (ap is_some (get_number fs q ∙ ap (λ es. number_at es q) made ∙ number_inserted q k 0 es)) ∙ has)
    where
      by : (b : Bool) → is_eq (bytes_cmp q (bytes k)) ≡ b → is_some (cond b (Some 0) (number_at es q)) ≡ true → IsTrue (is_name q)
      by true e h = subst (λ (p : List ℕ). IsTrue (is_name p)) (sym (tied q (bytes k) e)) is
      by false e h = names q (ap is_some (get_number es q) ∙ h)

-- the bytes of a name that is a tree's key
abbrev pub key_bytes : Vec ℕ → List ℕ
key_bytes k = k.items

pub none_there : (o : Option ℕ) → is_some o ≡ false → o ≡ None
none_there None e = refl
none_there (Some n) e = cc
