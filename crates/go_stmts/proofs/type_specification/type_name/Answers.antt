use Rattle.std.proofs.Common.{rules, arith, ◌≡◌, suc, List, [], Option, map, ap, sym, ◌∙◌}
use Rattle.std.specs.Option.{option_map}
use Rattle.go_types.specs.Trees.{TypeTree}
use Rattle.go_typed.specs.declared.node.TypedNode.{TypedNode}
use Rattle.go_typed.specs.Trees.{Label, typed, row}
use Rattle.go_typed.specs.Views.{seen, sort_seen}
use Rattle.go_exprs_rules.specs.Names.{declared_form}
use Rattle.go_exprs_rules.specs.Scopes.{Scope}
use Rattle.go_exprs_rules.specs.Settling.{Part}
use Rattle.go_exprs_rules.specs.Tables.{label, made}
use Rattle.go_exprs_engine.proofs.Public.{seen_made}
use Rattle.go_stmts.proofs.Rows.{form_around}
use Rattle.go_stmts_defs.specs.Laying.{type_number, type_sort}
use Rattle.go_stmts.proofs.type_specification.type_name.Goals as goal

pub returns-clause-tree : goal.returns-clause-tree
returns-clause-tree c = λ x rs s has named.
    let t = c.args.types.now in
    let g = option_map (seen t) in
    let i = c.args.token in
    let f = c.name_form-form.result in
    let j = c.in-Some.last in
    let y = sort_seen t c.name_sort-sort.result in
    let ps = c.new-parts.result.items in
    let last_is : j ≡ suc i = first_of (omega arith, search rules, grind arith) in
    let form_is : f ≡ declared_form s.around (s.around.objects i) =
    c.name_form-form.ensures ∙ ap (λ (z : Scope). declared_form z (z.objects i)) (c.scope_of-scope.ensures.names t ∙ sym has.names) ∙ sym (form_around s (s.around.objects i)) in
    let own = declared_form s.around (s.around.objects i) in
    seen_made c.new.result f i j c.label-label.result ps t c.new.ensures
    ∙ ap (λ (l : Label TypeTree). let p : Part = typed f i j l (row (map g ps)) in p) (c.label-label.ensures.label ∙ ap (λ ns. label f y (map g ns)) (c.deref.ensures.value ∙ c.new-parts.ensures.items))
    ∙ ap (λ (ns : List (Option TypedNode)). let p : Part = typed f i j (label f y []) (row (map g ns)) in p) c.new-parts.ensures.items
    ∙ ap (λ z. made z i j y [] []) form_is
    ∙ ap (λ z. made own i j z [] []) (c.name_sort-sort.ensures.tree (type_number s i) named)
    ∙ ap (λ z. made own i z (type_sort (type_number s i)) [] []) last_is
