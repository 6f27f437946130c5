-- What a line says has no float, nor has a reply that is made of it.
use Rattle.std.proofs.Common.{◌≡◌, ◌∙◌, ◌&&◌, ◌||◌, ℕ, zero, suc, List, Bool, true, false, Option, Some, None, option_map, option_and_then, unwrap_or, is_some, refl, sym, ap}
use Rattle.std.specs.Prelude.{IfSome}
use Rattle.std.specs.Str.{bytes_eq}
use Rattle.std.proofs.lemmas.Bool.{and_parts}
use Rattle.serde_json.specs.Data.{Data, null, boolean, number, string, array, object, Items, no_items, item}
use Rattle.serde_json.specs.Find.{get_item}
use Rattle.serde_json.specs.View.{view}
use Rattle.serde_json.specs.Written.{compact_text, has_float, items_have_float}
use Rattle.serde_json.specs.declared.value.Value.{Value}
use Rattle.ss_lemmas.proofs.Bools.{some_same}
use Rattle.ss_lines.specs.Json.{json_of}
use Rattle.ss_report_lines.specs.Kinds.{kind_of}
use Rattle.ss_report_lines.specs.Said.{said, if_compact}
use Rattle.ss_report_lines.proofs.CallerLemmas.{has_kind-whole}
use Rattle.ss_audit_laws.proofs.CallerLemmas.{chosen}
use Rattle.ss_audit_laws.specs.Checks.{called_reply, item_at}

-- what bytes say has no float
said_whole : (bytes : List ℕ) (d : Data) → said bytes ≡ Some d → has_float d ≡ false
said_whole bytes d h = by (json_of bytes) h
  where
    by : (o : Option Data) → option_and_then (if_compact bytes) o ≡ Some d → has_float d ≡ false
    by None h = absurd (cc)
    by (Some e) h =
        let t = chosen (is_some (kind_of e) && bytes_eq (compact_text e) bytes) (Some e) d h in
        let both = and_parts (is_some (kind_of e)) (bytes_eq (compact_text e) bytes) t.0 in
        ap has_float (sym (some_same e d t.1)) ∙ has_kind-whole e (kind_of e) refl both.0

-- so has no value that is read of them
pub read_whole : (bytes : List ℕ) (o : Option Value) → option_map view o ≡ said bytes → IfSome o (λ v. has_float (view v) ≡ false)
read_whole bytes None h = tt
read_whole bytes (Some v) h = said_whole bytes (view v) (sym h)

-- an item of what has no float has none
of_items : (n : ℕ) (ds : Items) → items_have_float ds ≡ false → has_float (unwrap_or (get_item n ds) null) ≡ false
of_items n no_items h = refl
of_items zero (item d ds) h = by (has_float d) refl h
  where
    by : (b : Bool) → has_float d ≡ b → (b || items_have_float ds) ≡ false → has_float d ≡ false
    by true e h = absurd (cc)
    by false e h = e
of_items (suc n) (item d ds) h = of_items n ds (by (has_float d) h)
  where
    by : (b : Bool) → (b || items_have_float ds) ≡ false → items_have_float ds ≡ false
    by true h = absurd (cc)
    by false h = h

item_whole : (n : ℕ) (d : Data) → has_float d ≡ false → has_float (item_at n d) ≡ false
item_whole n null h = refl
item_whole n (boolean b) h = refl
item_whole n (number x) h = refl
item_whole n (string s) h = refl
item_whole n (array ds) h = of_items n ds h
item_whole n (object ms) h = refl

-- the reply that a printed entry calls for
pub reply_whole : (line : ℕ) (o : Option Value) → IfSome o (λ v. has_float (view v) ≡ false) → has_float (called_reply line (option_map view o)) ≡ false
reply_whole line None h = refl
reply_whole line (Some v) h = rw (item_whole 1 (view v) h) (rw (item_whole 4 (view v) h) refl)
