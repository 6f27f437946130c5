-- The option at the front of words is one, and so is what is behind it.
use Rattle.std.proofs.Common.{◌≡◌, ◌==◌, ◌⊎◌, ◌++◌, ℕ, List, [], ◌∷◌, codes, cond, bytes_eq, Option, Some, None, inl, inr, refl, sym, ap, ap₂, ◌∙◌}
use Rattle.std.specs.List.{find}
use Rattle.ss_lemmas.proofs.Bools.{some_same}
use Rattle.ss_words.specs.declared.names.OptionName.{OptionName}
use Rattle.ss_words.specs.declared.names.OptionName.TheVariants.{Partitions, Recovery, Seed, Votes, Clients, Checkpoint, Restarts}
use Rattle.ss_words.specs.Words.{Asked, asked, dashed, StartsWith}

-- what stands before the first =, and behind it where there is one
abbrev pub cut : List ℕ → List ℕ × Option (List ℕ)
cut [] = ([], None)
cut (b ∷ bs) = cond (b == 61) ([], Some bs) (b ∷ (cut bs).0, (cut bs).1)

-- an option more is a name here, and a line in each of the three below
abbrev all_names : List OptionName
all_names = Partitions ∷ Recovery ∷ Seed ∷ Votes ∷ Clients ∷ Checkpoint ∷ Restarts ∷ []

-- the option of a name
abbrev pub named : List ℕ → Option OptionName
named word = find (λ name. bytes_eq word (dashed name)) all_names

pub cut_bare : (name : OptionName) → cut (dashed name) ≡ (dashed name, None)
cut_bare Partitions = refl
cut_bare Recovery = refl
cut_bare Seed = refl
cut_bare Votes = refl
cut_bare Clients = refl
cut_bare Checkpoint = refl
cut_bare Restarts = refl

pub cut_joined : (name : OptionName) (value : List ℕ) → cut (dashed name ++ codes "=" ++ value) ≡ (dashed name, Some value)
cut_joined Partitions value = refl
cut_joined Recovery value = refl
cut_joined Seed value = refl
cut_joined Votes value = refl
cut_joined Clients value = refl
cut_joined Checkpoint value = refl
cut_joined Restarts value = refl

pub named_dashed : (name : OptionName) → named (dashed name) ≡ Some name
named_dashed Partitions = refl
named_dashed Recovery = refl
named_dashed Seed = refl
named_dashed Votes = refl
named_dashed Clients = refl
named_dashed Checkpoint = refl
named_dashed Restarts = refl

dashed_same : (m n : OptionName) → dashed m ≡ dashed n → m ≡ n
dashed_same m n e = some_same m n (sym (named_dashed m) ∙ ap named e ∙ named_dashed n)

-- the word and those behind it are the option in two words, or in one, and then the rest
abbrev Parts : List ℕ → List (List ℕ) → Asked → List (List ℕ) → Type 0
Parts word words option rest =
    ((cut word ≡ (dashed option.name, None)) × (words ≡ option.value ∷ rest)) ⊎ ((cut word ≡ (dashed option.name, Some option.value)) × (words ≡ rest))

parts : (word : List ℕ) (words : List (List ℕ)) (option : Asked) (rest : List (List ℕ)) → StartsWith (word ∷ words) option rest → Parts word words option rest
parts word words option rest (inl h) =
    let first : word ≡ dashed option.name = cc in
    let others : words ≡ option.value ∷ rest = cc in
    inl (ap cut first ∙ cut_bare option.name, others)
parts word words option rest (inr h) =
    let first : word ≡ dashed option.name ++ codes "=" ++ option.value = cc in
    let others : words ≡ rest = cc in
    inr (ap cut first ∙ cut_joined option.name option.value, others)

module _ (word : List ℕ) (words : List (List ℕ)) (a b : Asked) (rest other : List (List ℕ)) where
  same_parts : Parts word words a rest → Parts word words b other → (a ≡ b) × (rest ≡ other)
  same_parts (inl h) (inl k) =
      let names = dashed_same a.name b.name (ap (λ p. p.0) (sym h.0 ∙ k.0)) in
      let both : a.value ∷ rest ≡ b.value ∷ other = sym h.1 ∙ k.1 in
      let values : a.value ≡ b.value = cc in
      let ends : rest ≡ other = cc in
      (ap₂ asked names values, ends)
  same_parts (inl h) (inr k) = let e : None ≡ Some b.value = ap (λ p. p.1) (sym h.0 ∙ k.0) in absurd cc
  same_parts (inr h) (inl k) = let e : Some a.value ≡ None = ap (λ p. p.1) (sym h.0 ∙ k.0) in absurd cc
  same_parts (inr h) (inr k) =
      let names = dashed_same a.name b.name (ap (λ p. p.0) (sym h.0 ∙ k.0)) in
      let values = some_same a.value b.value (ap (λ p. p.1) (sym h.0 ∙ k.0)) in
      (ap₂ asked names values, sym h.1 ∙ k.1)

pub starts_with_some : (option : Asked) (rest : List (List ℕ)) → ¬ (StartsWith [] option rest)
starts_with_some option rest (inl h) = let e = h.0 in absurd cc
starts_with_some option rest (inr h) = absurd cc

pub one_option : (words : List (List ℕ)) (a b : Asked) (rest other : List (List ℕ)) → StartsWith words a rest → StartsWith words b other → (a ≡ b) × (rest ≡ other)
one_option [] a b rest other h k = absurd (starts_with_some a rest h)
one_option (word ∷ words) a b rest other h k = same_parts word words a b rest other (parts word words a rest h) (parts word words b other k)
