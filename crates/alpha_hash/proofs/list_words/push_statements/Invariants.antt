use Rattle.std.proofs.Common.{◌≡◌, ◌++◌, drop, length, true}
use Rattle.go_typed.specs.Views.{views}
use Rattle.alpha_hash_defs.specs.Words.{window_words}
use Rattle.alpha_hash.specs.Shown.{knows_parts, naming, shown}
use Rattle.alpha_hash.specs.Starts.{ends_from}
use Rattle.alpha_hash.proofs.list_words.push_statements.Given as goal

abbrev pub invariant-loop-statement : goal.invariant-loop-statement
invariant-loop-statement l =
    (shown l.fn.words.items ++ window_words (naming l.names) (views l.statements) ≡ shown l.words.items ++ window_words (naming l.names) (views (drop l.statement-index l.statements)))
    × (l.fn.ends.items ++ ends_from (naming l.names) (length l.fn.words.items) (views l.statements) ≡ l.ends.items ++ ends_from (naming l.names) (length l.words.items) (views (drop l.statement-index l.statements)))
    × (knows_parts l.names (views (drop l.statement-index l.statements)) ≡ true)
