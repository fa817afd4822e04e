use Rattle.std.proofs.Common.{◌≡◌, ◌∙◌, length, map, take, sym, ap, subst}
use Rattle.std.proofs.lemmas.List.{take-map}
use Rattle.std.specs.Option.{option_map}
use Rattle.go_typed.specs.Trees.{list_of, parts_of}
use Rattle.go_typed.specs.Views.{seen, AllKnown}
use Rattle.go_stmts_defs.specs.Laying.{names_count}
use Rattle.go_stmts_parts.proofs.Appending.{known_taken}
use Rattle.go_stmts_parts.proofs.Counting.{form_is}
use Rattle.go_stmts_parts.proofs.specifications.names_of.Goals as goal

pub returns-clause-parts : goal.returns-clause-parts
returns-clause-parts c =
    let t = c.args.types.now in
    let f = option_map (seen t) in
    let n = c.names_count-count.result in
    ap (map f) c.truncate.ensures.items ∙ sym (take-map f n c.opened-names.result.items) ∙ ap (take n) c.opened-names.ensures.parts
    ∙ ap (λ k. take k (list_of (parts_of (seen t c.args.node)))) (c.names_count-count.ensures ∙ ap names_count (sym (form_is t c.args.node)))

pub returns-clause-known : goal.returns-clause-known
returns-clause-known c =
    let k = length c.args.types.now.shapes in
    subst (AllKnown k) (sym c.truncate.ensures.items) (known_taken k c.names_count-count.result c.opened-names.result.items c.opened-names.ensures.known)
