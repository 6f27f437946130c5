-- An input has one answer: what its lines say is compared line by line.
use Rattle.std.proofs.Common.{◌≡◌, ◌⊎◌, ◌∙◌, ◌≤◌, ◌<◌, ℕ, Bool, true, false, List, [], ◌∷◌, ◌++◌, length, Result, Ok, Err, refl, sym, ap, subst, inl, inr, arith}
use Rattle.std.proofs.lemmas.Bool.{false≢true}
use Rattle.ss_catalog.proofs.CallerLemmas.{ok_same, err_same, ok_or_err}
use Rattle.serde_json.specs.Data.{Data}
use Rattle.ss_lines.specs.declared.line.Line.{Line}
use Rattle.ss_lines.specs.declared.line.LineError.{LineError}
use Rattle.ss_lines.specs.declared.line.LineError.TheVariants as cause
use Rattle.ss_lines.specs.Json.{value_at}
use Rattle.ss_lines.specs.Lines.{lines_of, max_input}
use Rattle.ss_lines.specs.Refusals.{RefusesAs}
use Rattle.ss_model.specs.declared.catalog.Catalog.{Catalog}
use Rattle.ss_model.specs.declared.entry.Request.{Request}
use Rattle.ss_nest.specs.declared.error.NestError.{NestError}
use Rattle.ss_nest.specs.declared.error.NestError.TheVariants as nested
use Rattle.ss_nest.specs.Reads.{ReadsNested, RefusesNested}
use Rattle.ss_nest.specs.Answers.{HasOneNested, HasOneNestedRefusal, IsNestedOrRefused}
use Rattle.ss_catalog_requests.specs.declared.request.RequestError.{RequestError}
use Rattle.ss_catalog_requests.specs.declared.request.RequestError.TheVariants as request
use Rattle.ss_catalog_requests.specs.Answers.{Asks, HasOneRequest, HasOneRequestRefusal, IsAskedOrRefused, RefusesRequest as RefusesValue}
use Rattle.ss_refusals.specs.declared.input.InputError.{InputError}
use Rattle.ss_refusals.specs.declared.input.InputError.TheVariants.{Line as OfLine, NoCatalog, Catalog as OfCatalog, Request as OfRequest}
use Rattle.ss_refusals.specs.Starts.{SaysCatalog, AsksFor, AskInOrder, StartLines, Starts}
use Rattle.ss_refusals.specs.Refused.{RefusesCatalog, RefusesFirst, RefusesRequest, RefusesLater, RefusesAmong, RefusesLines, IsRefusedBy}
use Rattle.ss_refusals.specs.Inputs.{says_nothing, HasOneStart, StartsOrRefused, HasOneRefusal}

-- what the laws of a request's value say: one request, not refused where it asks, and one refusal
pub record RequestLaws : Type 0 where
  pub request : HasOneRequest
  pub either : IsAskedOrRefused
  pub refusal : HasOneRequestRefusal

-- what the laws of a catalogue's value say, and those of a request's: one catalogue, not refused where it reads, and one refusal
pub record InputLaws : Type 0 where
  pub asking : RequestLaws
  pub reading : HasOneNested
  pub either : IsNestedOrRefused
  pub refusal : HasOneNestedRefusal

-- ---- what says nothing

-- a refusal doesn't both say something and say nothing
says_both : (e : InputError) → says_nothing e ≡ true → says_nothing e ≡ false → ⊥
says_both e h k = false≢true (sym k ∙ h)

-- a refusal of a line's bytes that says something is what they mean
line_means : {A : Type 0} (r : Result A LineError) (e : LineError) → says_nothing (OfLine e) ≡ false → RefusesAs r e → r ≡ Err e
line_means r cause.NoMemory says h = absurd (false≢true (sym says))
line_means r cause.ReadFault says h = h
line_means r (cause.LineTooLong n) says h = h
line_means r cause.InputTooLong says h = h
line_means r (cause.NotJson n) says h = h

-- a refusal of a request that says something isn't out of memory
request_means : (e : RequestError) → says_nothing (OfRequest e) ≡ false → e ≡ request.NoMemory → ⊥
request_means e says is = says_both (OfRequest request.NoMemory) refl (subst (λ (x : RequestError). says_nothing (OfRequest x) ≡ false) is says)

-- a refusal of a catalogue that says something isn't out of memory
catalog_means : (n : ℕ) (e : NestError) → says_nothing (OfCatalog n e) ≡ false → e ≡ nested.NoMemory → ⊥
catalog_means n e says is = says_both (OfCatalog n nested.NoMemory) refl (subst (λ (x : NestError). says_nothing (OfCatalog n x) ≡ false) is says)

-- what can't say something says nothing
pub silent : (b : Bool) → (b ≡ false → ⊥) → b ≡ true
silent true h = refl
silent false h = absurd (h refl)

-- ---- one line

one_value : (l : Line) (d e : Data) → value_at l ≡ Ok d → value_at l ≡ Ok e → d ≡ e
one_value l d e h k = ok_same (value_at l) d e h k

-- a line's bytes that have a value aren't refused
pub has_value : (l : Line) (d : Data) (e : LineError) → value_at l ≡ Ok d → says_nothing (OfLine e) ≡ false → RefusesAs (value_at l) e → ⊥
has_value l d e json says h = ok_or_err (value_at l) d e json (line_means (value_at l) e says h)

-- and have one refusal
one_of_bytes : (l : Line) (e f : LineError) → says_nothing (OfLine e) ≡ false → says_nothing (OfLine f) ≡ false → RefusesAs (value_at l) e → RefusesAs (value_at l) f → OfLine e ≡ OfLine f
one_of_bytes l e f p q h k = ap OfLine (err_same (value_at l) e f (line_means (value_at l) e p h) (line_means (value_at l) f q k))

-- ---- the catalogue's line

-- a line says one catalogue
pub one_said : InputLaws → (l : Line) (a b : Catalog) → SaysCatalog l a → SaysCatalog l b → a ≡ b
one_said laws l a b h k = laws.reading k.value a b (subst (λ (d : Data). ReadsNested d a) (one_value l h.value k.value h.json k.json) h.reads) k.reads

-- which isn't refused
said_or_refused : InputLaws → (l : Line) (c : Catalog) (n m : ℕ) (e : NestError) → SaysCatalog l c → says_nothing (OfCatalog m e) ≡ false → RefusesCatalog l n e → ⊥
said_or_refused laws l c n m e says p h =
    catalog_means m e p (laws.either says.value c e says.reads (subst (λ (d : Data). RefusesNested d e) (one_value l h.value says.value h.json says.json) h.refused))

-- a line that says a catalogue isn't refused
pub first_is_fine : InputLaws → (l : Line) (c : Catalog) (e : InputError) → SaysCatalog l c → says_nothing e ≡ false → RefusesFirst l e → ⊥
first_is_fine laws l c (OfLine e) says p h = has_value l says.value e says.json p h
first_is_fine laws l c (OfCatalog n e) says p h = said_or_refused laws l c n n e says p h
first_is_fine laws l c NoCatalog says p h = h
first_is_fine laws l c (OfRequest e) says p h = h

-- two refusals of a catalogue are one
one_of_catalog : InputLaws → (l : Line) (n m : ℕ) (e f : NestError) → says_nothing (OfCatalog n e) ≡ false → says_nothing (OfCatalog m f) ≡ false → RefusesCatalog l n e → RefusesCatalog l m f → OfCatalog n e ≡ OfCatalog m f
one_of_catalog laws l n m e f p q h k =
    let here : n ≡ m = h.here ∙ sym k.here in
    let same : e ≡ f = laws.refusal k.value e f (subst (λ (d : Data). RefusesNested d e) (one_value l h.value k.value h.json k.json) h.refused) k.refused (catalog_means n e p) (catalog_means m f q) in
    cc

-- the catalogue's line has one refusal
one_first : InputLaws → (l : Line) (e f : InputError) → says_nothing e ≡ false → says_nothing f ≡ false → RefusesFirst l e → RefusesFirst l f → e ≡ f
one_first laws l (OfLine e) (OfLine f) p q h k = one_of_bytes l e f p q h k
one_first laws l (OfLine e) (OfCatalog m f) p q h k = absurd (has_value l k.value e k.json p h)
one_first laws l (OfLine e) NoCatalog p q h k = absurd k
one_first laws l (OfLine e) (OfRequest f) p q h k = absurd k
one_first laws l (OfCatalog n e) (OfLine f) p q h k = absurd (has_value l h.value f h.json q k)
one_first laws l (OfCatalog n e) (OfCatalog m f) p q h k = one_of_catalog laws l n m e f p q h k
one_first laws l (OfCatalog n e) NoCatalog p q h k = absurd k
one_first laws l (OfCatalog n e) (OfRequest f) p q h k = absurd k
one_first laws l NoCatalog f p q h k = absurd h
one_first laws l (OfRequest e) f p q h k = absurd h

-- ---- a request's line

-- a line asks for one request
one_asked : InputLaws → (c : Catalog) (l : Line) (r s : Request) → AsksFor c l r → AsksFor c l s → r ≡ s
one_asked laws c l r s h k =
    laws.asking.request c l.number k.value r s (subst (λ (d : Data). Asks c l.number d r) (one_value l h.value k.value h.json k.json) h.asks) k.asks

-- which isn't refused
asked_or_refused : InputLaws → (c : Catalog) (l : Line) (r : Request) (e : RequestError) → AsksFor c l r → says_nothing (OfRequest e) ≡ false → RefusesRequest c l e → ⊥
asked_or_refused laws c l r e asks p h =
    request_means e p
    (laws.asking.either c l.number h.value r e (subst (λ (d : Data). Asks c l.number d r) (one_value l asks.value h.value asks.json h.json) asks.asks) h.refused)

-- a line that asks for a request isn't refused
pub later_is_fine : InputLaws → (c : Catalog) (l : Line) (r : Request) (e : InputError) → AsksFor c l r → says_nothing e ≡ false → RefusesLater c l e → ⊥
later_is_fine laws c l r (OfLine e) asks p h = has_value l asks.value e asks.json p h
later_is_fine laws c l r (OfRequest e) asks p h = asked_or_refused laws c l r e asks p h
later_is_fine laws c l r NoCatalog asks p h = h
later_is_fine laws c l r (OfCatalog n e) asks p h = h

-- two refusals of a request are one
one_of_request : InputLaws → (c : Catalog) (l : Line) (e f : RequestError) → says_nothing (OfRequest e) ≡ false → says_nothing (OfRequest f) ≡ false → RefusesRequest c l e → RefusesRequest c l f → OfRequest e ≡ OfRequest f
one_of_request laws c l e f p q h k =
    ap OfRequest
    (laws.asking.refusal c l.number k.value e f (subst (λ (d : Data). RefusesValue c l.number d e) (one_value l h.value k.value h.json k.json) h.refused) k.refused
    (request_means e p) (request_means f q))

-- a request's line has one refusal
one_later : InputLaws → (c : Catalog) (l : Line) (e f : InputError) → says_nothing e ≡ false → says_nothing f ≡ false → RefusesLater c l e → RefusesLater c l f → e ≡ f
one_later laws c l (OfLine e) (OfLine f) p q h k = one_of_bytes l e f p q h k
one_later laws c l (OfLine e) (OfRequest f) p q h k = absurd (has_value l k.value e k.json p h)
one_later laws c l (OfLine e) NoCatalog p q h k = absurd k
one_later laws c l (OfLine e) (OfCatalog m f) p q h k = absurd k
one_later laws c l (OfRequest e) (OfLine f) p q h k = absurd (has_value l h.value f h.json q k)
one_later laws c l (OfRequest e) (OfRequest f) p q h k = one_of_request laws c l e f p q h k
one_later laws c l (OfRequest e) NoCatalog p q h k = absurd k
one_later laws c l (OfRequest e) (OfCatalog m f) p q h k = absurd k
one_later laws c l NoCatalog f p q h k = absurd h
one_later laws c l (OfCatalog n e) f p q h k = absurd h

-- ---- requests in order

-- the first of lines that ask asks for a request
record AsksFirst (c : Catalog) (l : Line) (ls : List Line) : Type 0 where
  asked : Request
  asks : AsksFor c l asked
  rest : List Request
  behind : AskInOrder c ls rest

asks_first : (c : Catalog) (l : Line) (ls : List Line) (rs : List Request) → AskInOrder c (l ∷ ls) rs → AsksFirst c l ls
asks_first c l ls [] all = absurd all
asks_first c l ls (r ∷ rs) all = record { asked = r; asks = all.0; rest = rs; behind = all.1 }

-- lines ask for one list of requests
one_list : InputLaws → (c : Catalog) (ls : List Line) (xs ys : List Request) → AskInOrder c ls xs → AskInOrder c ls ys → xs ≡ ys
one_list laws c [] [] [] h k = refl
one_list laws c [] [] (y ∷ ys) h k = absurd k
one_list laws c [] (x ∷ xs) ys h k = absurd h
one_list laws c (l ∷ ls) [] ys h k = absurd h
one_list laws c (l ∷ ls) (x ∷ xs) [] h k = absurd k
one_list laws c (l ∷ ls) (x ∷ xs) (y ∷ ys) h k =
    let first : x ≡ y = one_asked laws c l x y h.0 k.0 in
    let rest : xs ≡ ys = one_list laws c ls xs ys h.1 k.1 in
    cc

-- where all lines ask, none is refused
all_fine : InputLaws → (c : Catalog) (before : List Line) (l : Line) (behind : List Line) (rs : List Request) (e : InputError)
    → AskInOrder c (before ++ l ∷ behind) rs → says_nothing e ≡ false → RefusesLater c l e → ⊥
all_fine laws c [] l behind rs e all p h =
    let first : AsksFirst c l behind = asks_first c l behind rs all in
    later_is_fine laws c l first.asked e first.asks p h
all_fine laws c (x ∷ before) l behind rs e all p h =
    let first : AsksFirst c x (before ++ l ∷ behind) = asks_first c x (before ++ l ∷ behind) rs all in
    all_fine laws c before l behind first.rest e first.behind p h

-- the first of them that is refused has one place, and one refusal
one_place : InputLaws → (c : Catalog) (bs cs : List Line) (l m : Line) (ls ms : List Line) (xs ys : List Request) (e f : InputError) → bs ++ l ∷ ls ≡ cs ++ m ∷ ms
    → AskInOrder c bs xs → AskInOrder c cs ys → says_nothing e ≡ false → says_nothing f ≡ false → RefusesLater c l e → RefusesLater c m f → e ≡ f
one_place laws c [] [] l m ls ms xs ys e f parts a b p q h k =
    let same : l ≡ m = cc in
    one_later laws c m e f p q (subst (λ (x : Line). RefusesLater c x e) same h) k
one_place laws c [] (y ∷ cs) l m ls ms xs ys e f parts a b p q h k =
    let same : l ≡ y = cc in
    let first : AsksFirst c y cs = asks_first c y cs ys b in
    absurd (later_is_fine laws c y first.asked e first.asks p (subst (λ (x : Line). RefusesLater c x e) same h))
one_place laws c (x ∷ bs) [] l m ls ms xs ys e f parts a b p q h k =
    let same : m ≡ x = cc in
    let first : AsksFirst c x bs = asks_first c x bs xs a in
    absurd (later_is_fine laws c x first.asked f first.asks q (subst (λ (y : Line). RefusesLater c y f) same k))
one_place laws c (x ∷ bs) (y ∷ cs) l m ls ms xs ys e f parts a b p q h k =
    let behind : bs ++ l ∷ ls ≡ cs ++ m ∷ ms = cc in
    one_place laws c bs cs l m ls ms (asks_first c x bs xs a).rest (asks_first c y cs ys b).rest e f behind (asks_first c x bs xs a).behind (asks_first c y cs ys b).behind p q h k

one_among : InputLaws → (c : Catalog) (ls : List Line) (e f : InputError) → says_nothing e ≡ false → says_nothing f ≡ false → RefusesAmong c ls e → RefusesAmong c ls f → e ≡ f
one_among laws c ls e f p q h k = one_place laws c h.before k.before h.line k.line h.behind k.behind h.requests k.requests e f (sym h.parts ∙ k.parts) h.fine k.fine p q h.refused k.refused

-- ---- lines

-- lines that start aren't refused
lines_fine : InputLaws → (ls : List Line) (c : Catalog) (rs : List Request) (e : InputError) → StartLines ls c rs → says_nothing e ≡ false → RefusesLines ls e → ⊥
lines_fine laws [] c rs e start p h = start
lines_fine laws (l ∷ ls) c rs e start p (inl h) = first_is_fine laws l c e start.0 p h
lines_fine laws (l ∷ ls) c rs e start p (inr h) =
    let same : h.catalog ≡ c = one_said laws l h.catalog c h.says start.0 in
    let among : RefusesAmong c ls e = subst (λ (x : Catalog). RefusesAmong x ls e) same h.refused in
    all_fine laws c among.before among.line among.behind rs e (subst (λ (xs : List Line). AskInOrder c xs rs) among.parts start.1) p among.refused

-- lines have one refusal
one_of_lines : InputLaws → (ls : List Line) (e f : InputError) → says_nothing e ≡ false → says_nothing f ≡ false → RefusesLines ls e → RefusesLines ls f → e ≡ f
one_of_lines laws [] e f p q h k = h ∙ sym k
one_of_lines laws (l ∷ ls) e f p q (inl h) (inl k) = one_first laws l e f p q h k
one_of_lines laws (l ∷ ls) e f p q (inl h) (inr k) = absurd (first_is_fine laws l k.catalog e k.says p h)
one_of_lines laws (l ∷ ls) e f p q (inr h) (inl k) = absurd (first_is_fine laws l h.catalog f h.says q k)
one_of_lines laws (l ∷ ls) e f p q (inr h) (inr k) =
    one_among laws k.catalog ls e f p q (subst (λ (x : Catalog). RefusesAmong x ls e) (one_said laws l h.catalog k.catalog h.says k.says) h.refused) k.refused

-- lines start as one
one_start_of : InputLaws → (ls : List Line) (a b : Catalog) (xs ys : List Request) → StartLines ls a xs → StartLines ls b ys → (a ≡ b) × (xs ≡ ys)
one_start_of laws [] a b xs ys h k = absurd h
one_start_of laws (l ∷ ls) a b xs ys h k =
    let same : a ≡ b = one_said laws l a b h.0 k.0 in
    (same, one_list laws b ls xs ys (subst (λ (c : Catalog). AskInOrder c ls xs) same h.1) k.1)

-- ---- inputs

-- an input is refused as too long, or within its length by its lines
abbrev LongOrLines : List ℕ → InputError → Type 0
LongOrLines input e = ((e ≡ OfLine cause.InputTooLong) × (max_input < length input)) ⊎ ((length input ≤ max_input) × RefusesLines (lines_of input) e)

long_or_lines : (input : List ℕ) (e : InputError) → says_nothing e ≡ false → IsRefusedBy input e → LongOrLines input e
long_or_lines input (OfLine cause.NoMemory) p h = absurd (false≢true (sym p))
long_or_lines input (OfLine cause.ReadFault) p h = absurd (false≢true (sym p))
long_or_lines input (OfLine cause.InputTooLong) p h = inl (refl, h)
long_or_lines input (OfLine (cause.LineTooLong n)) p h = inr h
long_or_lines input (OfLine (cause.NotJson n)) p h = inr h
long_or_lines input NoCatalog p h = inr h
long_or_lines input (OfCatalog n e) p h = inr h
long_or_lines input (OfRequest e) p h = inr h

start_or_refused : InputLaws → (input : List ℕ) (c : Catalog) (rs : List Request) (e : InputError) → Starts input c rs → says_nothing e ≡ false → LongOrLines input e → ⊥
start_or_refused laws input c rs e start p (inl h) = let long : max_input < length input = h.1 in let short : length input ≤ max_input = start.within in omega arith
start_or_refused laws input c rs e start p (inr h) = lines_fine laws (lines_of input) c rs e start.lines p h.1

one_of_input : InputLaws → (input : List ℕ) (e f : InputError) → says_nothing e ≡ false → says_nothing f ≡ false → LongOrLines input e → LongOrLines input f → e ≡ f
one_of_input laws input e f p q (inl h) (inl k) = h.0 ∙ sym k.0
one_of_input laws input e f p q (inl h) (inr k) = let long : max_input < length input = h.1 in let short : length input ≤ max_input = k.0 in absurd (omega arith)
one_of_input laws input e f p q (inr h) (inl k) = let long : max_input < length input = k.1 in let short : length input ≤ max_input = h.0 in absurd (omega arith)
one_of_input laws input e f p q (inr h) (inr k) = one_of_lines laws (lines_of input) e f p q h.1 k.1

-- ---- the laws

pub one_start : InputLaws → HasOneStart
one_start laws input a b xs ys h k = one_start_of laws (lines_of input) a b xs ys h.lines k.lines

pub starts_or_refused : InputLaws → StartsOrRefused
starts_or_refused laws input c rs e start h = silent (says_nothing e) (λ p. start_or_refused laws input c rs e start p (long_or_lines input e p h))

pub one_refusal : InputLaws → HasOneRefusal
one_refusal laws input e f h k = one_of_input laws input e f h.says k.says (long_or_lines input e h.says h.first) (long_or_lines input f k.says k.first)
