use Rattle.std.proofs.Common.{◌≡◌, ◌∙◌, map, ap}
use Rattle.std.specs.Option.{option_map}
use Rattle.go_typed.specs.Views.{seen}
use Rattle.go_typed.specs.declared.form.Form.TheVariants as form
use Rattle.go_typed.specs.Trees as sort
use Rattle.go_exprs_rules.specs.Tables.{label}
use Rattle.go_stmts_defs.specs.Laying.{layout}
use Rattle.go_stmts.proofs.Rows.{made_by}
use Rattle.go_stmts.proofs.held_nodes.list_node.Goals as goal

pub returns-clause-tree : goal.returns-clause-tree
returns-clause-tree c = λ s e.
    let t = c.args.types.now in
    let f = option_map (seen t) in
    let i = c.args.place.first in
    let laid = layout s c.args.kind i (map f c.args.parts.items) in
    let same = c.in_ok-parts.ensures.parts s i e in
    made_by t c.new.result c.args.kind i c.args.place.last c.label-label.result c.in_ok-parts.parts.items laid c.new.ensures
    (c.label-label.ensures.label ∙ ap (λ ns. label (form.Held c.args.kind) sort.Nothing (map f ns)) c.deref.ensures.value) same
