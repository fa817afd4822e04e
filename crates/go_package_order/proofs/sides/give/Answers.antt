use Rattle.std.proofs.Common.{Some, length, sym, subst, ◌∙◌}
use Rattle.go_package_rounds.specs.Held.{KnownRight}
use Rattle.go_package_order.proofs.RightSides.{has_placed}
use Rattle.go_package_order.proofs.sides.give.Goals as goal

pub can_define-requires-clause-named_known : goal.can_define-requires-clause-named_known
can_define-requires-clause-named_known c = (c.requires.named c.in-Some-type_number.place c.in-Some-named_type.named (sym c.named_type.ensures ∙ c.in-Some-named_type.is)).0

pub give_right-requires-clause-named : goal.give_right-requires-clause-named
give_right-requires-clause-named c = (c.requires.named c.in-Some-type_number.place c.in-Some-named_type.named (sym c.named_type.ensures ∙ c.in-Some-named_type.is)).0

pub returns-clause-rights : goal.returns-clause-rights
returns-clause-rights c =
    let k = c.in-Some-type_number.place in
    let at = c.requires.named k c.in-Some-named_type.named (sym c.named_type.ensures ∙ c.in-Some-named_type.is) in
    has_placed c.args.types.now c.give_right.new.types k c.in-Some.right c.args.rights.now.items c.put_right.new.rights.items c.give_right.ensures.shapes (subst (λ o. KnownRight (length c.args.types.now.shapes) o) c.in-Some.is c.requires.right) (c.in_ok-give_right.ensures.rights k at.1) c.put_right.ensures c.requires.rights
