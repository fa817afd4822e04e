use Rattle.std.proofs.Common.{◌≡◌, ◌∙◌, Bool, true, false, Option, Some, None, sym, arith}
use Rattle.std.specs.Prelude.{unwrap_or}
use Rattle.std.proofs.lemmas.Result.{IfOk-weaker}
use Rattle.go_package_rounds.specs.World.{package_in, specifications_in}
use Rattle.go_package_types.proofs.faults.is_blocked.Goals as goal

seen_true : (o : Option Bool) → unwrap_or o false ≡ true → o ≡ Some true
seen_true None e = absurd (grind (arith, e))
seen_true (Some b) e = grind (arith, e)

pub returns-then-is_seen : goal.returns-then-is_seen
returns-then-is_seen c = λ t ss d needs h at. sym (h.blocked c.args.number d at (seen_true _ (sym c.is_seen.ensures ∙ c.if-is_seen.true)))

pub returns : goal.returns
returns c = λ t ss d needs h at. IfOk-weaker c.is_blocked.result _ _ (λ b e. e (package_in c.args.world.now) (specifications_in c.args.world.now) ss d needs h.as_many at h.faulty h.assigning) c.is_blocked.ensures
