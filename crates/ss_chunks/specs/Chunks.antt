-- Items in chunks.
use Rattle.std.specs.Prelude.{◌≡◌, ℕ, ◌+◌, ◌<◌, List, [], ◌∷◌, ◌++◌, length, Bool, true, false, OnOk, Some, slice_get, ◌⊎◌}
use Rattle.std.specs.declared.result.Result.{Result}
use Rattle.std.specs.List.{flat_map, prefix_len, AllByRecursion}
use Rattle.std.specs.Global.{Vec}
use Rattle.ss_chunks.specs.declared.rest.Rest.{Rest}

module _ {T : Type 0} where
  -- all items, chunk after chunk
  abbrev pub items_in : List (Vec T) → List T
  items_in chunks = flat_map (λ c. c.items) chunks

  -- no chunk is empty
  abbrev pub IsFilled : List (Vec T) → Type 0
  IsFilled chunks = AllByRecursion (λ c. 0 < length c.items) chunks

  -- the items of one chunk were changed, and all else is as before
  abbrev pub ChunkChanged : List (Vec T) → List (Vec T) → ℕ → (List T → List T) → Type 0
  ChunkChanged old new at change =
      (front back : List (Vec T)) (chunk : Vec T) → old ≡ front ++ chunk ∷ back → length front ≡ at
      → items_in new ≡ items_in front ++ (change chunk.items ++ items_in back)

  -- the same where a call succeeds
  abbrev pub OnOkChanged : {A E : Type 0} → Result A E → List (Vec T) → List (Vec T) → ℕ → (List T → List T) → Type 0
  OnOkChanged result old new at change =
      (front back : List (Vec T)) (chunk : Vec T) → old ≡ front ++ chunk ∷ back → length front ≡ at
      → OnOk result (items_in new ≡ items_in front ++ (change chunk.items ++ items_in back))

  -- whether a chunk has a first item, and it passes
  abbrev pub starts : (T → Bool) → List T → Bool
  starts p [] = false
  starts p (x ∷ xs) = p x

  -- the items that pass before the first that doesn't are all those before this chunk, and those of it
  abbrev pub SearchStopsIn : (T → Bool) → List (Vec T) → ℕ → Type 0
  SearchStopsIn p chunks at =
      (front back : List (Vec T)) (chunk : Vec T) → chunks ≡ front ++ chunk ∷ back → length front ≡ at
      → prefix_len p (items_in chunks) ≡ length (items_in front) + prefix_len p chunk.items

  -- n items of this chunk pass before the first that doesn't
  abbrev pub PassIn : (T → Bool) → List (Vec T) → ℕ → ℕ → Type 0
  PassIn p chunks at n = (front back : List (Vec T)) (chunk : Vec T) → chunks ≡ front ++ chunk ∷ back → length front ≡ at → n ≡ prefix_len p chunk.items

  -- the items of a rest
  abbrev pub rest_items : Rest T → List T
  rest_items r = r.here.now ++ items_in r.others.now

  -- ---- what is seen near a hint

  -- one chunk among others
  pub record Mid (cs : List (Vec T)) (at : ℕ) : Type 0 where
    pub front : List (Vec T)
    pub chunk : Vec T
    pub back : List (Vec T)
    pub is : cs ≡ front ++ chunk ∷ back
    pub here : length front ≡ at

  -- a search ends behind n items of a chunk: the items that pass before the first that doesn't are all those before this chunk, and n of it
  pub record EndsAt (p : T → Bool) (cs : List (Vec T)) (at n : ℕ) : Type 0 where
    pub around : Mid cs at
    pub position : n ≡ prefix_len p around.chunk.items
    pub ends : prefix_len p (items_in cs) ≡ length (items_in around.front) + prefix_len p around.chunk.items

  -- behind n items of a chunk, the last of which passes, stands none that passes first
  pub record EndsBehind (p : T → Bool) (items : List T) (others : List (Vec T)) (n : ℕ) : Type 0 where
    pub before : List T
    pub last : T
    pub here : List T
    pub is : items ≡ before ++ last ∷ here
    pub place : length before + 1 ≡ n
    pub passes : p last ≡ true
    pub stops : starts p (here ++ items_in others) ≡ false

  -- the first item of the first chunk, or of those behind it where it has none, doesn't pass
  pub record EndsInFront (p : T → Bool) (items : List T) (others : List (Vec T)) (at n : ℕ) : Type 0 where
    pub chunk : at ≡ 0
    pub place : n ≡ 0
    pub stops : starts p (items ++ items_in others) ≡ false

  -- a search ends at a place of a chunk, by the items on both sides of it
  abbrev pub EndsIn : (T → Bool) → List T → List (Vec T) → ℕ → ℕ → Type 0
  EndsIn p items others at n = EndsBehind p items others n ⊎ EndsInFront p items others at n

  -- an item that passes stands at this position
  pub record HasAt (p : T → Bool) (items : List T) (n : ℕ) : Type 0 where
    pub item : T
    pub there : slice_get items n ≡ Some item
    pub passes : p item ≡ true

  -- an item that passes stands at this position of a chunk
  pub record StandsAt (p : T → Bool) (cs : List (Vec T)) (at n : ℕ) : Type 0 where
    pub chunk : Vec T
    pub there : slice_get cs at ≡ Some chunk
    pub has : HasAt p chunk.items n

  -- an item that passes was taken out, and all else is as before
  pub record WasTaken (p : T → Bool) (old new : List T) : Type 0 where
    pub front : List T
    pub item : T
    pub back : List T
    pub was : old ≡ front ++ item ∷ back
    pub is : new ≡ front ++ back
    pub passes : p item ≡ true
