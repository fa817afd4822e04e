use Rattle.std.proofs.Common.{rules, ◌≡◌, true, false, length, sym, ap, ◌∙◌, arith}
use Rattle.std.specs.Prelude.{is_some}
use Rattle.go_types.specs.Tables.{type_of, rights_of}
use Rattle.go_typed.specs.Trees.{sort_of}
use Rattle.go_typed.specs.Views.{seen, all_seen}
use Rattle.go_exprs_rules.specs.Faults.{least, earlier}
use Rattle.go_exprs_rules.specs.Sorts.{is_open, is_constant}
use Rattle.go_exprs_rules.specs.Settling.{all_unrepresented}
use Rattle.go_exprs_rules.proofs.Parts.{known_at, left_more, left_none, unrepresented_is, earlier_none, none_mapped}
use Rattle.go_exprs_rules.proofs.nodes.+unrepresented.Goals as goal

pub loop-part-preserved : goal.loop-part-preserved
loop-part-preserved t c =
    let k = length c.args.types.now.shapes in
    let ps = c.deref-part-items.result.now in
    let i = c.loop-part.part-index in
    record {
      known = (known_at k ps i c.in-Some-part.part c.part-item.result (omega arith) (search rules) c.loop-part.invariant.known).1;
      found = left_more c.args.types.now (rights_of c.args.types.now) (type_of c.args.types.now.shapes c.args.of) ps i c.in-Some-part.part c.part-item.result c.loop-part.first c.unrepresented.result c.earlier-first.result _ (omega arith) (search rules) c.loop-part.invariant.found c.unrepresented.ensures c.earlier-first.ensures;
    }

pub returns : goal.returns
returns t c =
    let table = c.args.types.now in
    let rights = rights_of table in
    let of = type_of table.shapes c.args.of in
    let ps = c.deref-part-items.result.now in
    let open_node : is_open (sort_of (seen table c.args.node.now)) ≡ true = ap is_open (sym c.sort_of-sort.ensures.tree) ∙ sym c.is_open.ensures ∙ c.if-not-is_open.false in
    let no_constant : is_constant (sort_of (seen table c.args.node.now)) ≡ false = ap is_constant (sym c.sort_of-sort.ensures.tree) ∙ ap is_some (sym c.constant_of.ensures) ∙ none_mapped _ c.constant_of.result c.in_default.is in
    sym (ap (earlier c.loop-part.first) (left_none table rights of ps c.loop-part.part-index (omega arith)) ∙ earlier_none c.loop-part.first) ∙ c.loop-part.invariant.found ∙ ap (λ qs. least (all_unrepresented rights of (all_seen table qs))) c.deref-part-items.ensures.value ∙ ap least (sym (unrepresented_is table rights of c.args.node.now open_node no_constant))
