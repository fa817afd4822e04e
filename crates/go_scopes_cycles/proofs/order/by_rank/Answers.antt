use Rattle.std.proofs.Common.{false, rules}
use Rattle.std.proofs.lemmas.List.Sorted.{IsNonDecreasingBy-from_sort_by_key}
use Rattle.go_scopes_cycles.specs.Ranks.{rank_of}
use Rattle.go_scopes_cycles.proofs.order.by_rank.Goals as goal

pub returns-clause-order : goal.returns-clause-order
returns-clause-order c = IsNonDecreasingBy-from_sort_by_key (λ d. rank_of c.args.ranks.now d.file d.declaration.now.name false) _ c.in_ok-sort_by_key.ensures.sorted (λ a r q k. search rules)
