use Rattle.std.proofs.Common.{◌≡◌, ap, sym, ◌∙◌, arith}
use Rattle.go_typed.specs.declared.node.TypedNode.{out-TypedNode}
use Rattle.go_typed.specs.Views.{views, label_at}
use Rattle.clone_window.specs.Caps.{capped}
use Rattle.clone_window.specs.Masses as specs
use Rattle.clone_window.specs.Masses.{mass, masses}
use Rattle.clone_window.proofs.Opened.{view_out}
use Rattle.clone_window.proofs.Weights.{list-put}
use Rattle.clone_window.proofs.weighing.+weighing.Goals as goal

pub weigh-returns-in_ok-masses-clause-rows : goal.weigh-returns-in_ok-masses-clause-rows
weigh-returns-in_ok-masses-clause-rows t c =
    list-put c.args.node.now c.args.table.now.items c.push.new.self.items c.weigh_each.new.table.items c.put_row.new.table.items c.new.result c.in_ok-masses.masses c.deref.result.now c.deref.ensures.value
    (sym c.is_statement_list.ensures ∙ c.if-is_statement_list.true)
    c.in_ok-push.ensures.items c.new.ensures.items c.in_ok-masses.ensures.rows c.in_ok-masses.ensures.masses
    (λ before after e k. c.put_row.ensures before after e (omega (arith, c.len-number.ensures, c.args.table.now.ok, k)))

pub weigh-returns-in_ok-parts-clause-mass : goal.weigh-returns-in_ok-parts-clause-mass
weigh-returns-in_ok-parts-clause-mass t c =
    let n = out-TypedNode c.args.node.now in
    let inside = specs.is_inside c.args.inside n.form (label_at n) in
    let e : c.in_ok-parts.parts ≡ capped (masses inside (views n.parts.items)) =
    c.in_ok-parts.ensures.mass
    ∙ ap (λ a. capped (masses a (views c.deref-else-is_statement_list.result.now))) c.is_inside-within.ensures
    ∙ ap (λ ps. capped (masses inside (views ps))) c.deref-else-is_statement_list.ensures.value in
    c.mass_over.ensures (masses inside (views n.parts.items)) e
    ∙ ap (λ t. capped (mass c.args.inside t)) (sym (view_out c.args.node.now))
