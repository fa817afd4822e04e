use Rattle.std.proofs.Common.{◌≡◌, ◌++◌, ◌-◌, drop, map}
use Rattle.alpha_hash.specs.Starts.{number_of}
use Rattle.alpha_hash.proofs.list_words.numbers_at.Given as goal

abbrev pub invariant-loop-end : goal.invariant-loop-end
invariant-loop-end l = map (λ e. number_of l.numbers (e - l.begin)) l.ends ≡ l.out.items ++ map (λ e. number_of l.numbers (e - l.begin)) (drop l.end-index l.ends)
