use Rattle.std.proofs.Common.{◌≡◌, ◌+◌, drop, map}
use Rattle.go_tree.specs.Clauses.{is_spelled}
use Rattle.go_scopes.proofs.clauses.is_spelled.Given as goal

abbrev pub invariant-loop-text : goal.invariant-loop-text
invariant-loop-text l = record {
  place : l.token ≡ l.first + l.text-index;
  rest : is_spelled l.tokens l.token (map (λ w. w.now) (drop l.text-index l.words)) ≡ is_spelled l.tokens l.first (map (λ w. w.now) l.words);
}
