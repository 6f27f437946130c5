use Rattle.std.proofs.Common.{rules, ◌≡◌, [], ◌∷◌, ◌++◌, sym}
use Rattle.ss_sql_lex.proofs.Reached.{reached_start, reached_blank, reached_next}
use Rattle.ss_sql_lex.proofs.Spanned.{read_so}
use Rattle.ss_sql_lex.proofs.lexer.tokens.Goals as goal

pub loop-first-init : goal.loop-first-init
loop-first-init c = rw c.new-tokens.ensures (read_so c.args.text.now [] 0 c.args.text.now (reached_start c.args.text.now))

pub loop-first-preserved-then-is_blank : goal.loop-first-preserved-then-is_blank
loop-first-preserved-then-is_blank c =
    read_so c.args.text.now c.loop-first.tokens _ c.in-Some.after.now
    (reached_blank c.args.text.now c.loop-first.tokens c.loop-first.at c.in-Some.first.now c.loop-first.rest.now c.in-Some.after.now c.loop-first.invariant.reached c.in-Some.ensures.cases.0
    (sym c.if-is_blank.ensures))

pub loop-first-preserved : goal.loop-first-preserved
loop-first-preserved c =
    let pushed : c.push.new.self ≡ c.loop-first.tokens ++ c.in_ok-token.token ∷ [] = search rules in
    rw pushed
    (read_so c.args.text.now _ _ c.split_at.result.1.now
    (reached_next c.args.text.now c.loop-first.tokens c.loop-first.at c.loop-first.rest.now c.in_ok-token.token c.split_at.result.1.now c.loop-first.invariant.reached c.in_ok-token.ensures.ok
    c.split_at.ensures.back))
