-- The places of faults, by tokens and by bytes.
use Rattle.std.specs.Prelude.{◌≡◌, ℕ, ◌<◌, ◌≤◌, List, length, slice_get}
use Rattle.std.specs.List.{AllByRecursion}
use Rattle.std.specs.Option.{option_map}
use Rattle.go_tokens.specs.Tokens.{TokenList}
use Rattle.go_tree.specs.Failures as failures
use Rattle.go_tree.specs.Units.{start_in, end_in}
use Rattle.go_exprs_rules.specs.declared.fault.TypeFault.{TypeFault}
use Rattle.go_exprs_rules.specs.Faults.{least}
use Rattle.go_package_defs.specs.Answer.{failure_at, failures_at}
use Rattle.go_package_defs.specs.Sources.{Package, tokens_in}

-- Each token begins and ends behind the earlier ones, and doesn't end before it begins.
pub record TokensRise (ts : TokenList) : Type 0 where
  pub starts : (i j : ℕ) → i < j → j < length ts.tokens → start_in (slice_get ts.tokens i) < start_in (slice_get ts.tokens j)
  pub ends : (i j : ℕ) → i < j → j < length ts.tokens → end_in (slice_get ts.tokens i) < end_in (slice_get ts.tokens j)
  pub own : (i : ℕ) → i < length ts.tokens → start_in (slice_get ts.tokens i) ≤ end_in (slice_get ts.tokens i)

-- the fault stands at tokens that there are
pub record StandsIn (ts : TokenList) (f : TypeFault) : Type 0 where
  pub some : f.first < f.last
  pub within : f.last ≤ length ts.tokens

-- the least fault by tokens and code is the least one by bytes and code
abbrev pub KeepsLeast : Package → ℕ → List TypeFault → Type 0
KeepsLeast p n fs = failures.least (failures_at p n fs) ≡ option_map (failure_at p n) (least fs)

abbrev pub AllStandIn : Package → ℕ → List TypeFault → Type 0
AllStandIn p n fs = AllByRecursion (StandsIn (tokens_in p n)) fs
