use Rattle.std.proofs.Common.{◌∷◌, Some, map, ap, ◌∙◌}
use Rattle.std.specs.Option.{option_map}
use Rattle.go_grammar.specs.declared.kind.Kind.TheVariants as kind
use Rattle.go_grammar.specs.declared.kind.Sort.TheVariants as declaring
use Rattle.go_typed.specs.declared.form.Form.TheVariants as form
use Rattle.go_typed.specs.Trees as sort
use Rattle.go_typed.specs.Views.{seen}
use Rattle.go_exprs_rules.specs.Settling.{Part}
use Rattle.go_exprs_rules.specs.Tables.{label}
use Rattle.go_stmts.proofs.Rows.{made_by}
use Rattle.go_stmts.specs.Types.{named_parts}
use Rattle.go_stmts.proofs.type_specification.type_node.Goals as goal

pub returns-clause-tree : goal.returns-clause-tree
returns-clause-tree c = λ x rs s has named.
    let t = c.args.types.now in
    let f = option_map (seen t) in
    let i = c.args.place.first in
    let xs = map f c.args.parts.items in
    made_by t c.new.result (kind.Specification declaring.Type) i c.args.place.last c.label-label.result c.in_ok-parts.parts.items (named_parts s i xs) c.new.ensures
    (c.label-label.ensures.label ∙ ap (λ ns. label (form.Held (kind.Specification declaring.Type)) sort.Nothing (map f ns)) c.deref.ensures.value)
    (c.in_ok-parts.ensures.parts ∙ ap (λ (y : Part). Some y ∷ xs) (c.in_ok-name.ensures.tree x rs s has named))
