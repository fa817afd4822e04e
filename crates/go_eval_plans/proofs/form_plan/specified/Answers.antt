use Rattle.std.proofs.Common.{◌≡◌, suc, ◌+◌, sym, ap, ◌∙◌, arith}
use Rattle.std.specs.Prelude.{true, false, if◌then◌else◌}
use Rattle.go_types.specs.Tables.{type_of, rights_of}
use Rattle.go_typed.specs.Views.{all_seen}
use Rattle.go_meaning.specs.Plans.{Once, AssignTo, ZeroTo}
use Rattle.go_meaning.specs.Planning.{part_at, is_there, type_there, zero_in}
use Rattle.go_eval_plans.proofs.form_plan.specified.Goals as goal

pub returns-then-is_there-clause-plan : goal.returns-then-is_there-clause-plan
returns-then-is_there-clause-plan c t s =
    let n = c.args.names in
    let ps = all_seen t c.args.parts.now in
    let next : suc n ≡ n + 1 = omega arith in
    let there : is_there (part_at ps (suc n)) ≡ true = ap (λ k. is_there (part_at ps k)) next ∙ sym (c.is_there.ensures (type_of t.shapes)) ∙ c.if-is_there.true in
    ap (λ b. Once (if b then AssignTo n else ZeroTo n (zero_in (rights_of t) (type_there (part_at ps n))))) (sym there)

pub returns-else-is_there-clause-plan : goal.returns-else-is_there-clause-plan
returns-else-is_there-clause-plan c t s =
    let n = c.args.names in
    let ps = all_seen t c.args.parts.now in
    let next : suc n ≡ n + 1 = omega arith in
    let there : is_there (part_at ps (suc n)) ≡ false = ap (λ k. is_there (part_at ps k)) next ∙ sym (c.is_there.ensures (type_of t.shapes)) ∙ c.if-is_there.false in
    ap (λ u. Once (ZeroTo n (zero_in (rights_of t) u))) (c.type_at.ensures.is (type_of t.shapes)) ∙ ap (λ b. Once (if b then AssignTo n else ZeroTo n (zero_in (rights_of t) (type_there (part_at ps n))))) (sym there)
