use Rattle.std.proofs.Common.{◌≡◌, ◌++◌, take, drop, length, map, ap, ◌∙◌}
use Rattle.std.specs.Option.{option_map}
use Rattle.go_types.specs.Trees.{TypeTree}
use Rattle.go_typed.specs.Trees.{Label, typed, row, Nothing}
use Rattle.go_typed.specs.Views.{seen}
use Rattle.go_exprs_rules.specs.Settling.{Part}
use Rattle.go_exprs_rules.specs.Tables.{Parts, label, made}
use Rattle.go_stmts_defs.specs.Rules.{taking, all_given}
use Rattle.go_stmts_rules.specs.Seen.{taking_seen}
use Rattle.go_exprs_engine.proofs.Public.{seen_made, refilled}
use Rattle.go_stmts.proofs.node.fitted.Goals as goal

pub returns-clause-tree : goal.returns-clause-tree
returns-clause-tree c s h =
    let t = c.args.types.now in
    let g = option_map (seen t) in
    let f = c.args.form in
    let i = c.args.place.first in
    let j = c.args.place.last in
    let k = c.args.kind in
    let ys = map g c.args.parts.items in
    let ps = take c.args.parts.len (c.give_all.new.parts ++ drop (length c.give_all.new.parts) c.args.parts.items) in
    let same : ps ≡ c.give_all.new.parts = refilled c.args.parts.len c.give_all.new.parts c.args.parts.items c.args.parts.ok.0 (c.give_all.auto.parts ∙ ap length c.deref_mut.ensures.value) in
    let taken : map (taking_seen t) c.deref-3.result.now ≡ taking s k f ys = ap (map (taking_seen t)) c.deref-3.ensures.value ∙ c.in_ok-takings.ensures.tree s h ∙ ap (λ ns. taking s k f (map g ns)) c.deref-2.ensures.value in
    let given : map g ps ≡ all_given (taking s k f ys) ys =
    ap (map g) same ∙ c.in_ok-give_all.ensures.tree ∙ ap (λ ks. all_given ks (map g c.deref_mut.result.now)) taken ∙ ap (λ ns. all_given (taking s k f ys) (map g ns)) c.deref_mut.ensures.value in
    seen_made c.new.result f i j c.label-label.result ps t c.new.ensures
    ∙ ap (λ (l : Label TypeTree). let p : Part = typed f i j l (row (map g ps)) in p) (c.label-label.ensures.label ∙ ap (λ ns. label f Nothing (map g ns)) c.deref.ensures.value)
    ∙ ap (λ (zs : Parts). made f i j Nothing ys zs) given
