use Rattle.std.proofs.Common.{◌≡◌, true, false, subst, sym, ◌∙◌}
use Rattle.go_types.specs.Tables.{HasPartsBelow, parts}
use Rattle.go_types.proofs.Places.{below_from_test, test_from_below}
use Rattle.go_types.proofs.types.Types.can_intern.Goals as goal

pub returns-then-has_parts_below : goal.returns-then-has_parts_below
returns-then-has_parts_below c = (
  λ h. (subst (λ n. HasPartsBelow n c.args.shape.now) c.count.ensures.count (below_from_test c.count.result (parts c.args.shape.now) (sym c.has_parts_below.ensures ∙ c.if-has_parts_below.true)), c.was_declared.ensures.0 h),
  λ h. c.was_declared.ensures.1 h.1,
)

pub returns-else-has_parts_below : goal.returns-else-has_parts_below
returns-else-has_parts_below c = (
  λ h. let wrong : false ≡ true = sym c.if-has_parts_below.false ∙ h in cc,
  λ h. c.has_parts_below.ensures ∙ test_from_below c.count.result (parts c.args.shape.now) (subst (λ n. HasPartsBelow n c.args.shape.now) (sym c.count.ensures.count) h.0),
)
