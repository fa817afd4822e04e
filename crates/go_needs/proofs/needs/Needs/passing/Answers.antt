use Rattle.std.proofs.Common.{rules, ◌≡◌, ◌∙◌, true, false, length, map, replicate, subst, sym, ap}
use Rattle.std.specs.Bool.{beq}
use Rattle.std.specs.List.{list_any}
use Rattle.go_package_defs.specs.Knowledge.{outlines}
use Rattle.go_needs.specs.Blocked.{not_passing}
use Rattle.go_needs.specs.Passing.{ArePassing}
use Rattle.go_needs.proofs.Passes.{none_is}
use Rattle.go_needs.proofs.needs.Needs.passing.Goals as goal

pub returns-in_ok-none_passing : goal.returns-in_ok-none_passing
returns-in_ok-none_passing c p ds ss test t l e =
    let self = c.args.self.now in
    let none : list_any (λ b. beq b true) (map test ss) ≡ false = sym (ap (list_any (λ b. beq b true)) e) ∙ sym c.if-contains.ensures.value in
    let out : c.in_ok-none_passing.field-0.items ≡ replicate (length self.owners.items) not_passing = search rules in
    subst (ArePassing test (outlines p ds) ss) (sym out) (none_is self p ds ss test none t l)
