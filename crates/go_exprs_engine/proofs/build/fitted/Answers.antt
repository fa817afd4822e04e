use Rattle.std.proofs.Common.{rules, ◌≡◌, ◌++◌, take, drop, length, map, ap, sym, ◌∙◌}
use Rattle.std.specs.Option.{option_map}
use Rattle.go_types.specs.Trees.{TypeTree}
use Rattle.go_typed.specs.declared.form.Form.{Form}
use Rattle.go_typed.specs.Trees.{Label, typed, row}
use Rattle.go_typed.specs.Views.{seen, sort_seen}
use Rattle.go_exprs_rules.specs.Settling.{Part}
use Rattle.go_exprs_rules.specs.Hints.{hint_seen}
use Rattle.go_exprs_rules.specs.Takes.{take_seen}
use Rattle.go_exprs_rules.specs.Tables.{Parts, label, form_by, takes, all_given, made}
use Rattle.go_exprs_types.specs.Naming.{names}
use Rattle.go_exprs_engine.proofs.Nodes.{seen_made, refilled}
use Rattle.go_exprs_engine.proofs.build.fitted.Goals as goal

pub returns-clause-tree : goal.returns-clause-tree
returns-clause-tree c =
    let t = c.args.types.now in
    let g = option_map (seen t) in
    let i = c.args.place.first in
    let j = c.args.place.last in
    let ys = map g c.args.parts.items in
    let s = names t c.args.scope.now in
    let k = c.args.kind in
    let h = hint_seen t c.args.hint in
    let x = sort_seen t c.args.sort in
    let ps = take c.args.parts.len (c.give_all.new.parts ++ drop (length c.give_all.new.parts) c.args.parts.items) in
    let same : ps ≡ c.give_all.new.parts = refilled c.args.parts.len c.give_all.new.parts c.args.parts.items c.args.parts.ok.0 (c.give_all.auto.parts ∙ ap length c.deref_mut.ensures.value) in
    let taken : map (take_seen t) c.deref-4.result.now ≡ takes s k h ys = ap (map (take_seen t)) c.deref-4.ensures.value ∙ c.in_ok-takes.ensures.tree ∙ ap (λ ns. takes s k h (map g ns)) c.deref-3.ensures.value in
    let given : map g ps ≡ all_given (takes s k h ys) ys =
    ap (map g) same ∙ c.in_ok-give_all.ensures.tree ∙ ap (λ ks. all_given ks (map g c.deref_mut.result.now)) taken ∙ ap (λ ns. all_given (takes s k h ys) (map g ns)) c.deref_mut.ensures.value in
    seen_made c.new.result c.in_ok-form.form i j c.label-label.result ps t c.new.ensures
    ∙ ap (λ (l : Label TypeTree). let p : Part = typed c.in_ok-form.form i j l (row (map g ps)) in p) (c.label-label.ensures.label ∙ ap (λ ns. label c.in_ok-form.form x (map g ns)) c.deref-2.ensures.value)
    ∙ ap (λ (f : Form). made f i j x ys (map g ps)) (c.in_ok-form.ensures ∙ ap (λ ns. form_by s k h i j (map g ns)) c.deref.ensures.value)
    ∙ ap (λ (zs : Parts). made (form_by s k h i j ys) i j x ys zs) given
