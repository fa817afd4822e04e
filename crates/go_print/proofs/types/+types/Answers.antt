use Rattle.std.proofs.Common.{rules}
use Rattle.go_print.proofs.Rows.{second_below}
use Rattle.go_print.proofs.types.+types.Goals as goal

pub push_function-push_results-requires : goal.push_function-push_results-requires
push_function-push_results-requires c c' =
    (search rules, (search rules, second_below c'.args.bound c'.args.params.now c'.args.results.now (search rules)))
