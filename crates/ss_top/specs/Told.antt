-- What clients were told of a run: the answers of which its report is made, and whether one says that the list is full.
use Rattle.std.specs.Prelude.{◌≡◌, ℕ, Bool, true, false, List}
use Rattle.std.specs.List.{list_any}
use Rattle.ss_model.specs.declared.catalog.Catalog.{Catalog}
use Rattle.ss_model.specs.declared.entry.Answer.{Answer}
use Rattle.ss_model.specs.declared.entry.Answer.TheVariants.{ListFull}
use Rattle.ss_model.specs.declared.entry.Listed.{Listed}
use Rattle.ss_model.specs.declared.entry.Request.{Request}
use Rattle.ss_model.specs.Database.{Database}
use Rattle.ss_model.specs.Report.{End, report_text}
use Rattle.ss_report_laws.specs.Replies.{AreAnswered, weave}

-- whether a request was answered that the list is full
abbrev pub says_full : Answer → Bool
says_full (ListFull count) = true
says_full _ = false

-- whether one of these was
abbrev pub say_full : List Answer → Bool
say_full answers = list_any says_full answers

-- whether one of any client's was
abbrev pub some_say_full : List (List Answer) → Bool
some_say_full answers = list_any say_full answers

-- Each client has these answers to its requests, and the text is the report that they make up in the order of the input. Since each request
-- has an answer, none is missing there.
pub record WereTold (catalog : Catalog) (requests : List Request) (db : Database) (first : ℕ) (list : List Listed) (end : End) (text : List ℕ)
    (answers : List (List Answer)) : Type 0 where
  pub answered : AreAnswered requests first list end answers
  pub missing : Answer
  pub written : text ≡ report_text catalog requests (weave missing requests answers) first list db end
