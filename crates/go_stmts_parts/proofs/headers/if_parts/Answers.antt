use Rattle.std.proofs.Common.{rules, ◌≡◌, ◌∙◌, ◌∷◌, ◌++◌, [], Some, None, length, map, sym, ap, subst}
use Rattle.std.specs.Option.{option_map}
use Rattle.go_typed.specs.Views.{seen, AllKnown}
use Rattle.go_stmts_defs.specs.Laying.{if_parts, header_parts}
use Rattle.go_exprs_rules.specs.Tables.{held}
use Rattle.go_stmts_parts.proofs.Appending.{appended, known_appended, three, known_middle, if_is}
use Rattle.go_stmts_parts.proofs.headers.if_parts.Goals as goal

pub push_held-requires-clause-out : goal.push_held-requires-clause-out
push_held-requires-clause-out c =
    let k = length c.args.types.now.shapes in
    let p = c.in-Some-Some-Some in
    let whole = three c.args.parts.items c.pop.new.self.items c.pop-2.new.self.items c.pop-3.new.self.items p.header p.block p.last (search rules) (search rules) (search rules) (sym c.args.parts.ok.0 ∙ sym c.len.ensures ∙ c.if-len-ne3.false) in
    known_appended k c.in_ok-out.out.items (p.block ∷ []) c.push.new.self.items c.in_ok-push.ensures.items c.in_ok-out.ensures.known (known_middle k p.header p.block p.last (subst (AllKnown k) whole c.requires))

pub returns-clause-parts : goal.returns-clause-parts
returns-clause-parts c =
    let t = c.args.types.now in
    let p = c.in-Some-Some-Some in
    let whole = three c.args.parts.items c.pop.new.self.items c.pop-2.new.self.items c.pop-3.new.self.items p.header p.block p.last (search rules) (search rules) (search rules) (sym c.args.parts.ok.0 ∙ sym c.len.ensures ∙ c.if-len-ne3.false) in
    if_is t p.header p.block p.last c.in_ok-out.out.items c.push.new.self.items c.push_held.new.out.items c.in_ok-out.ensures.parts c.in_ok-push.ensures.items c.in_ok-push_held.ensures.parts
    ∙ ap (λ xs. if_parts (map (option_map (seen t)) xs)) (sym whole)
