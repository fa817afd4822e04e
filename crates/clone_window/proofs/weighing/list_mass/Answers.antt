use Rattle.std.proofs.Common.{◌≡◌, false, true, map, ap, sym, ◌∙◌}
use Rattle.std.specs.Prelude.{sum}
use Rattle.go_typed.specs.declared.node.TypedNode.{out-TypedNode}
use Rattle.go_typed.specs.Forms.{is_statement_list}
use Rattle.go_typed.specs.Trees.{form_of, parts_of}
use Rattle.go_typed.specs.Views.{view, views, label_at}
use Rattle.clone_window.specs.Caps.{capped}
use Rattle.clone_window.specs.Masses.{mass, each_mass}
use Rattle.clone_window.proofs.Opened.{view_out}
use Rattle.clone_window.proofs.Runs.{sum-capped}
use Rattle.clone_window.proofs.Weights.{list-mass}
use Rattle.clone_window.proofs.weighing.list_mass.Goals as goal

pub returns : goal.returns
returns c =
    let n = out-TypedNode c.args.list.now in
    let ps = views n.parts.items in
    let form : is_statement_list n.form ≡ true = sym (ap (λ t. is_statement_list (form_of t)) (view_out c.args.list.now)) ∙ c.requires.list in
    let parts : c.sum_of.result ≡ capped (sum (each_mass ps)) =
    c.sum_of.ensures
    ∙ ap (λ l. capped (sum l)) c.requires.each
    ∙ ap (λ t. capped (sum (map capped (each_mass (parts_of t))))) (view_out c.args.list.now)
    ∙ sum-capped (each_mass ps) in
    c.mass_over.ensures (sum (each_mass ps)) parts
    ∙ ap capped (sym (list-mass n.form n.first n.last (label_at n) ps form))
    ∙ ap (λ t. capped (mass false t)) (sym (view_out c.args.list.now))
    ∙ ap (λ b. capped (mass b (view c.args.list.now))) (sym c.if-inside.false)
