-- The bodies of the procedures in an image, and the catalogue that has them to be installed.
use Rattle.std.specs.Prelude.{◌≡◌, ◌⊎◌, ◌≤◌, ℕ, Bool, true, List, length, Result, Ok, Err}
use Rattle.ss_model.specs.declared.catalog.Catalog.{Catalog}
use Rattle.ss_model.specs.Accepted.{Accepted}
use Rattle.ss_model.specs.Database.{has_body}
use Rattle.ss_model.specs.SparesAside.{with_spares}
use Rattle.ss_cmdlog.specs.Reading.{bytes_at}
use Rattle.ss_standing.specs.ImageForm.{bodies_of, number_where}
use Rattle.ss_standing.specs.Readers.{Reader, followed, made}
use Rattle.ss_snapshot.specs.declared.reading.fields.PartError.{PartError}
use Rattle.ss_snapshot.specs.declared.reading.fields.PartError.TheVariants.{NoMemory, Foreign}
use Rattle.ss_snapshot.specs.Own.{IsReadFromItsText}

-- a text behind its length, whatever it says
abbrev pub text_of : Reader (List ℕ)
text_of = made (λ p. p.1) (followed (number_where 4 (λ n. true)) bytes_at)

-- a catalogue has more bodies to be installed, each of which is read, and all that it had
pub record GrowsTo (old new : Catalog) : Type 0 where
  pub same : new ≡ with_spares old new.spares
  pub own : IsReadFromItsText new
  pub accepted : Accepted new
  pub has : (q : ℕ) (text : List ℕ) → has_body old q text ≡ true → has_body new q text ≡ true

-- no catalogue of the same text has a body with this text
abbrev pub HasNoBody : Catalog → ℕ → List ℕ → Type 0
HasNoBody catalog q text = (other : Catalog) → IsReadFromItsText other → other.text ≡ catalog.text → has_body other q text ≡ true → ⊥

-- one reading is no further than another: the same, or refused with at least as many bytes left
abbrev pub NoFurther : {A : Type 0} → Result (A × List ℕ) ℕ → Result (A × List ℕ) ℕ → Type 0
NoFurther (Ok x) read = (read ≡ Ok x) ⊎ ((m : ℕ) × (read ≡ Err m) × length x.1 ≤ m)
NoFurther (Err left) read = (m : ℕ) × (read ≡ Err m) × left ≤ m

-- whatever bodies may be installed in a catalogue of the same text, the bodies are read no further than here
abbrev pub IsFurthest : Bool → Catalog → List ℕ → Type 0
IsFurthest bodies catalog bytes =
    (other : Catalog) → IsReadFromItsText other → other.text ≡ catalog.text → NoFurther (bodies_of bodies catalog bytes) (bodies_of bodies other bytes)

-- unless memory is out, it holds
abbrev pub UnlessMemory : PartError → Type 0 → Type 0
UnlessMemory NoMemory P = Unit {0}
UnlessMemory (Foreign left) P = P
