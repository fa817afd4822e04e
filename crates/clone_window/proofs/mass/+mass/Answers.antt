use Rattle.std.proofs.Common.{◌≡◌, sym, ap, ◌∙◌}
use Rattle.go_typed.specs.declared.node.TypedNode.{out-TypedNode}
use Rattle.go_typed.specs.Views.{views, label_at}
use Rattle.clone_window.specs.Masses as specs
use Rattle.clone_window.specs.Masses.{mass, masses}
use Rattle.clone_window.specs.Caps.{capped}
use Rattle.clone_window.proofs.Opened.{view_out}
use Rattle.clone_window.proofs.mass.+mass.Goals as goal

pub mass_of-returns : goal.mass_of-returns
mass_of-returns t c =
    let n = out-TypedNode c.args.node.now in
    let inside = specs.is_inside c.args.inside n.form (label_at n) in
    let e : c.masses_of-parts.result ≡ capped (masses inside (views n.parts.items)) =
    c.masses_of-parts.ensures
    ∙ ap (λ a. capped (masses a (views c.deref.result.now))) c.is_inside-within.ensures
    ∙ ap (λ ps. capped (masses inside (views ps))) c.deref.ensures.value in
    c.mass_over.ensures (masses inside (views n.parts.items)) e
    ∙ ap (λ t. capped (mass c.args.inside t)) (sym (view_out c.args.node.now))
