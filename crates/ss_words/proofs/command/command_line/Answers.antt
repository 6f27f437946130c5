use Rattle.std.proofs.Common.{refl}
use Rattle.ss_words.specs.Words.{words_of}
use Rattle.ss_words.proofs.Suiting.{begins_with, suits_none, suits_asks}
use Rattle.ss_words.proofs.command.command_line.Goals as goal

pub returns-in_err-command : goal.returns-in_err-command
returns-in_err-command c =
    let begins = begins_with c.args.words.now c.in_ok-word.behind.now c.in_ok-word.word.now c.as_str.result.now c.in_ok-word.ensures.cases.0 c.as_str.ensures.value in
    rw c.from_residual-in_err-command.ensures
    (suits_none (words_of c.args.words.now) c.as_str.result.now (words_of c.in_ok-word.behind.now) begins c.in_ok-found.found c.in_ok-found.ensures c.in_err-command.ensures)

pub returns : goal.returns
returns c =
    let begins = begins_with c.args.words.now c.in_ok-word.behind.now c.in_ok-word.word.now c.as_str.result.now c.in_ok-word.ensures.cases.0 c.as_str.ensures.value in
    suits_asks (words_of c.args.words.now) c.as_str.result.now (words_of c.in_ok-word.behind.now) begins c.in_ok-found.found c.in_ok-found.ensures _ c.in_ok-command.ensures c.unwrap_or.ensures c.unwrap_or-2.ensures refl c.unwrap_or-3.ensures
