-- What a JSON value says as a request; names are not looked up.
use Rattle.std.specs.Prelude.{ℕ, ℤ, ◌^◌, ◌-◌, List, [], ◌∷◌, ◌++◌, cond, nat_le, length, Option, Some, None, option_and_then, option_map, Ok, Err, codes, ⊤}
use Rattle.serde_json.specs.Data.{Items}
use Rattle.serde_json.specs.Find.{as_number, as_i64, as_str, as_array}
use Rattle.ss_value.specs.declared.value.Value.{Value}
use Rattle.ss_value.specs.declared.value.Value.TheVariants.{Int, Text}
use Rattle.ss_value.specs.Rows.{Row, Rows}
use Rattle.ss_catalog_json.specs.Readings.{OrFault, Reading, ◌>>=◌, read_word, read_name, read_between, or_here, read_items_from, has_key, object_of, read_key, read_key_or}
use Rattle.ss_catalog_requests.specs.declared.outline.AskedOutline.{AskedOutline}
use Rattle.ss_catalog_requests.specs.declared.outline.AskedOutline.TheVariants.{Call, Push, Install}
use Rattle.ss_catalog_requests.specs.declared.outline.RequestOutline.{RequestOutline}

-- ---- numbers

-- a client, from 0 to 7
abbrev pub read_client : Reading ℕ
read_client = read_between 0 7

-- an Int of at least 0
abbrev pub read_seq : Reading ℕ
read_seq = read_between 0 (2 ^ 63 - 1)

-- ---- arrays

-- an array, whatever its items are
abbrev pub read_any_array : Reading ⊤
read_any_array d = or_here (as_array d) >>= λ _. Ok tt

-- ---- values

-- a text, and None for one over 255 bytes
abbrev pub short_text : List ℕ → Option Value
short_text text = cond (nat_le (length text) 255) (Some (Text text)) None

-- an Int, or else a text
abbrev pub int_or_text : Option ℤ → Option (List ℕ) → OrFault (Option Value)
int_or_text (Some z) text = Ok (Some (Int z))
int_or_text None (Some text) = Ok (short_text text)
int_or_text None None = Err []

-- a value, and None for a text over 255 bytes
abbrev pub read_value : Reading (Option Value)
read_value d = int_or_text (option_and_then as_i64 (as_number d)) (as_str d)

-- ---- rows

-- all of these items, where each is there
abbrev pub all_there : {A : Type 0} → List (Option A) → Option (List A)
all_there [] = Some []
all_there (None ∷ xs) = None
all_there (Some x ∷ xs) = option_map (λ ys. x ∷ ys) (all_there xs)

-- these items and one more, where all are there
abbrev pub with_another : {A : Type 0} → Option (List A) → Option A → Option (List A)
with_another (Some xs) (Some x) = Some (xs ++ x ∷ [])
with_another _ _ = None

-- each item read, where the first has this number, and None where one of them is None
abbrev pub all_items : {A : Type 0} → Reading (Option A) → ℕ → Items → OrFault (Option (List A))
all_items read n ds = read_items_from n read ds >>= λ xs. Ok (all_there xs)

-- each item of an array, and None where one of them is None
abbrev pub read_all_of : {A : Type 0} → Reading (Option A) → Reading (Option (List A))
read_all_of read d = or_here (as_array d) >>= all_items read 0

-- a row, and None where it has a text over 255 bytes
abbrev pub read_row : Reading (Option Row)
read_row = read_all_of read_value

-- rows, and None where one of them has a text over 255 bytes
abbrev pub read_rows : Reading (Option Rows)
read_rows = read_all_of read_row

-- ---- requests

abbrev pub call_keys : List (List ℕ)
call_keys = codes "client" ∷ codes "call" ∷ codes "args" ∷ []

abbrev pub read_call : Reading AskedOutline
read_call d =
    object_of call_keys d >>= λ _.
    read_key (codes "call") read_word d >>= λ procedure.
    read_key (codes "args") read_row d >>= λ args.
    Ok (Call procedure args)

abbrev pub push_keys : List (List ℕ)
push_keys = codes "client" ∷ codes "push" ∷ codes "source" ∷ codes "seq" ∷ codes "rows" ∷ []

abbrev pub read_push : Reading AskedOutline
read_push d =
    object_of push_keys d >>= λ _.
    read_key (codes "push") read_word d >>= λ stream.
    read_key (codes "source") read_name d >>= λ source.
    read_key (codes "seq") read_seq d >>= λ seq.
    read_key (codes "rows") read_rows d >>= λ rows.
    Ok (Push stream source seq rows)

abbrev pub install_keys : List (List ℕ)
install_keys = codes "client" ∷ codes "install" ∷ codes "body" ∷ []

abbrev pub read_install : Reading AskedOutline
read_install d =
    object_of install_keys d >>= λ _.
    read_key (codes "install") read_word d >>= λ procedure.
    read_key (codes "body") read_any_array d >>= λ _.
    Ok (Install procedure)

-- a push where there is that key, else an install where there is that one, and else a call
abbrev pub read_asked : Reading AskedOutline
read_asked d = cond (has_key (codes "push") d) (read_push d) (cond (has_key (codes "install") d) (read_install d) (read_call d))

-- a request, of client 0 where it names none
abbrev pub read_request : Reading RequestOutline
read_request d =
    read_asked d >>= λ what.
    read_key_or (codes "client") read_client 0 d >>= λ client.
    Ok (record { client = client; what = what })
