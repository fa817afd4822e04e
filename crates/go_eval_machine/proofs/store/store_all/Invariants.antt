use Rattle.std.proofs.Common.{◌≡◌, ℕ, drop, take}
use Rattle.go_meaning.specs.Doings.{stores}
use Rattle.go_values.specs.Views.{views}
use Rattle.go_eval_plans.specs.Machines.{outcome}
use Rattle.go_eval_plans.specs.Programs.{doings}
use Rattle.go_eval_machine.proofs.store.store_all.Given as goal

abbrev pub invariant-loop-number : goal.invariant-loop-number
invariant-loop-number l = record {
  is : (n d : ℕ) → outcome (stores (take l.targets (doings l.checked n l.parts)) (views l.operands) (views l.fn.values.items)) d l.fn.machine ≡ outcome (stores (drop l.number (take l.targets (doings l.checked n l.parts))) (views l.left) (drop l.number (views l.values.items))) d l.machine;
  turns : l.machine.turns ≡ l.fn.machine.turns;
}
