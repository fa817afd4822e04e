use Rattle.std.proofs.Common.{rules, ◌≡◌, map, ap, sym, ◌∙◌}
use Rattle.std.specs.Option.{option_map}
use Rattle.go_types.specs.Trees.{TypeTree}
use Rattle.go_typed.specs.declared.form.Form.{Form}
use Rattle.go_typed.specs.Trees.{Label, typed, row, Unknown}
use Rattle.go_typed.specs.Views.{seen}
use Rattle.go_exprs_rules.specs.Settling.{Part}
use Rattle.go_exprs_rules.specs.Hints.{hint_seen}
use Rattle.go_exprs_rules.specs.Tables.{label, form_by, made}
use Rattle.go_exprs_types.specs.Naming.{names}
use Rattle.go_exprs_engine.proofs.Nodes.{seen_made}
use Rattle.go_exprs_engine.proofs.build.lost.Goals as goal

pub returns-clause-tree : goal.returns-clause-tree
returns-clause-tree c =
    let t = c.args.types.now in
    let g = option_map (seen t) in
    let i = c.args.place.first in
    let j = c.args.place.last in
    let ys = map g c.args.parts.items in
    let s = names t c.args.scope.now in
    let h = hint_seen t c.args.hint in
    seen_made c.new.result c.in_ok-form.form i j c.label-label.result c.args.parts.items t c.new.ensures
    ∙ ap (λ (l : Label TypeTree). let p : Part = typed c.in_ok-form.form i j l (row ys) in p) (c.label-label.ensures.label ∙ ap (λ ns. label c.in_ok-form.form Unknown (map g ns)) c.deref-2.ensures.value)
    ∙ ap (λ (f : Form). made f i j Unknown ys ys) (c.in_ok-form.ensures ∙ ap (λ ns. form_by s c.args.kind h i j (map g ns)) c.deref.ensures.value)
