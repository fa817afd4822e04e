use Rattle.std.proofs.Common.{◌≡◌, ◌∙◌, ◌++◌, ◌∷◌, [], length, ap, arith}
use Rattle.go_typed.specs.Views.{views}
use Rattle.alpha_hash_defs.specs.Words.{window_words}
use Rattle.alpha_hash.specs.Shown.{naming, shown}
use Rattle.alpha_hash.specs.Starts.{ends_from}
use Rattle.alpha_hash.proofs.Rows.{ends-more, row-known, statements-more}
use Rattle.alpha_hash.proofs.list_words.push_statements.Goals as goal

pub push_if_there-requires-clause-statement : goal.push_if_there-requires-clause-statement
push_if_there-requires-clause-statement c =
    (row-known c.args.names c.args.statements.now c.loop-statement.statement-index c.statement-item.result c.loop-statement-test.true c.statement-item.is c.loop-statement.invariant.2).0

pub loop-statement-preserved : goal.loop-statement-preserved
loop-statement-preserved c =
    let parts = c.args.statements.now in
    let i = c.loop-statement.statement-index in (
      statements-more c.args.names parts i (shown c.args.words.now.items ++ window_words (naming c.args.names) (views parts)) (shown c.loop-statement.words.items) (shown c.push_if_there.new.words.items)
          c.statement-item.result c.loop-statement-test.true c.statement-item.is c.loop-statement.invariant.0 c.in_ok-push_if_there.ensures,
      ends-more c.args.names parts i (c.args.ends.now.items ++ ends_from (naming c.args.names) (length c.args.words.now.items) (views parts)) c.loop-statement.ends.items c.push.new.self.items
          c.loop-statement.words.items c.push_if_there.new.words.items c.statement-item.result c.loop-statement-test.true c.statement-item.is c.loop-statement.invariant.1
          (c.in_ok-push.ensures.items ∙ (let e : c.len.result ≡ length c.loop-statement.words.items = omega (arith, c.len.ensures, c.loop-statement.words.ok) in ap (λ m. c.loop-statement.ends.items ++ m ∷ []) e)) c.in_ok-push_if_there.ensures,
      (row-known c.args.names parts i c.statement-item.result c.loop-statement-test.true c.statement-item.is c.loop-statement.invariant.2).1,
    )
