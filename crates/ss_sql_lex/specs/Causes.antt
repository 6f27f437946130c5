-- What each fault says of the bytes that stand at its offset.
use Rattle.std.specs.Prelude.{ℕ, ◌≡◌, ◌+◌, ◌<◌, ◌⊎◌, List, [], ◌∷◌, ◌++◌, length, Bool, true, false, not, ◌&&◌, ◌||◌, ◌==◌}
use Rattle.ss_value.specs.Words.{is_letter, is_word_byte, is_name}
use Rattle.ss_sql_lex.specs.declared.token.LexError.{LexError}
use Rattle.ss_sql_lex.specs.declared.token.LexError.TheVariants as e
use Rattle.ss_sql_lex.specs.Bytes.{is_upper, is_digit, is_joined, next_is}
use Rattle.ss_sql_lex.specs.Spelling.{is_run, value_from, in_quotes, has, singles, seconds}

-- a name of 32 characters, and a 33rd behind it
pub record IsLongName (bs : List ℕ) : Type 0 where
  pub own : List ℕ
  pub next : ℕ
  pub rest : List ℕ
  pub parts : bs ≡ own ++ next ∷ rest
  pub name : is_name own ≡ true
  pub full : length own ≡ 32
  pub more : is_word_byte next ≡ true

-- a colon, and such a long name behind it
pub record IsLongParam (bs : List ℕ) : Type 0 where
  pub after : List ℕ
  pub parts : bs ≡ 58 ∷ after
  pub long : IsLongName after

-- all the digits that stand there spell too great a number, or a letter or _ follows them
pub record IsBadNumber (bs : List ℕ) : Type 0 where
  pub own : List ℕ
  pub rest : List ℕ
  pub parts : bs ≡ own ++ rest
  pub digits : is_run is_digit own ≡ true
  pub whole : next_is is_digit rest ≡ false
  pub bad : (9223372036854775807 < value_from 0 own) ⊎ (next_is is_joined rest ≡ true)

-- a quote behind which every value that is closed has more than 255 bytes
pub record IsOpenText (bs : List ℕ) : Type 0 where
  pub quoted : List ℕ
  pub parts : bs ≡ 39 ∷ quoted
  pub long : (value rest : List ℕ) → quoted ≡ in_quotes value ++ rest → next_is (λ b. b == 39) rest ≡ false → 255 < length value

-- a byte that begins a symbol, alone or with the byte behind it
abbrev pub begins_symbol : ℕ → List ℕ → Bool
begins_symbol b bs = has singles b || next_is (has (seconds b)) bs

-- a byte that begins no token: no letter, digit or quote, no colon with a letter behind it, and no symbol
abbrev pub is_stray : List ℕ → Bool
is_stray [] = false
is_stray (b ∷ bs) = not (is_upper b || (is_letter b || (is_digit b || ((b == 39) || (((b == 58) && next_is is_letter bs) || begins_symbol b bs)))))

-- why the bytes at an offset are a fault
abbrev pub HasCause : ℕ → List ℕ → LexError → Type 0
HasCause offset bs e.NoMemory = ⊥
HasCause offset bs (e.BadCharacter at) = ((at ≡ offset) × (is_stray bs ≡ true)) ⊎ (((at ≡ offset + 32) × IsLongName bs) ⊎ ((at ≡ offset + 33) × IsLongParam bs))
HasCause offset bs (e.BadNumber at) = (at ≡ offset) × IsBadNumber bs
HasCause offset bs (e.OpenText at) = (at ≡ offset) × IsOpenText bs
