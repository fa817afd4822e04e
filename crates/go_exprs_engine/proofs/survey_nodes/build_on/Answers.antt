use Rattle.std.proofs.Common.{◌≡◌, false, Err, map, ap, sym, subst, ◌∙◌}
use Rattle.std.specs.Option.{option_map}
use Rattle.std.proofs.lemmas.Result.{IfOk-weaker}
use Rattle.go_base.specs.Gives.{Gives}
use Rattle.go_typed.specs.Views.{seen, sort_seen}
use Rattle.go_exprs_rules.specs.Faults.{least, judged, refusal_of}
use Rattle.go_exprs_rules.specs.Hints.{hint_seen}
use Rattle.go_exprs_rules.specs.Tables.{placing, failing, sort_by}
use Rattle.go_exprs_types.specs.Naming.{names}
use Rattle.go_exprs_engine.proofs.Stays.{names_stay, scope_known, basics_stay, parts_known, parts_stay, hint_stays}
use Rattle.go_exprs_engine.proofs.OverParts.{rules_hold, error_fails}
use Rattle.go_exprs_engine.proofs.Results.{IfOk-both}
use Rattle.go_exprs_engine.specs.OverParts.{is_passed_over, unknown, ended}
use Rattle.go_exprs_engine.proofs.survey_nodes.build_on.Goals as goal

pub finish-requires-clause-scope : goal.finish-requires-clause-scope
finish-requires-clause-scope c = scope_known c.args.types.now c.judge.new.types c.count.ensures.table c.judge.ensures.grows c.args.scope.now c.requires.scope

pub finish-requires-clause-basics : goal.finish-requires-clause-basics
finish-requires-clause-basics c = basics_stay c.args.types.now c.judge.new.types c.count.ensures.table c.judge.ensures.grows.extends c.args.scope.now.basics c.requires.basics

pub finish-requires-clause-parts : goal.finish-requires-clause-parts
finish-requires-clause-parts c = parts_known c.args.types.now c.judge.new.types c.count.ensures.table c.judge.ensures.grows.extends c.args.parts.items c.requires.parts

pub failed-requires-clause-scope : goal.failed-requires-clause-scope
failed-requires-clause-scope c = scope_known c.args.types.now c.judge.new.types c.count.ensures.table c.judge.ensures.grows c.args.scope.now c.requires.scope

pub failed-requires-clause-parts : goal.failed-requires-clause-parts
failed-requires-clause-parts c = parts_known c.args.types.now c.judge.new.types c.count.ensures.table c.judge.ensures.grows.extends c.args.parts.items c.requires.parts

pub returns-in-Ok-clause-tree : goal.returns-in-Ok-clause-tree
returns-in-Ok-clause-tree c =
    let a = c.args.types.now in
    let b = c.judge.new.types in
    let ok = c.count.ensures.table in
    let grown = c.judge.ensures.grows in
    let g = option_map (seen a) in
    let s = names a c.args.scope.now in
    let h = hint_seen a c.args.hint in
    let hb = hint_seen b c.args.hint in
    let k = c.args.kind in
    let i = c.args.place.first in
    let j = c.args.place.last in
    let ys = map g c.args.parts.items in
    let zs = map (option_map (seen b)) c.args.parts.items in
    let x = sort_seen b c.in-Ok.sort in
    let counted : is_passed_over k ys ≡ false = ap (λ ns. is_passed_over k (map g ns)) (sym c.deref.ensures.value) ∙ sym c.is_passed_over.ensures ∙ c.if-is_passed_over.false in
    let mine = ap (λ ns. judged (least (failing s k h i j (map g ns))) (sort_by s k h i j (map g ns))) (sym c.deref-2.ensures.value) ∙ c.in-Ok.ensures.exact in
    let there = ap (λ z. ended z k hb i j zs x (placing z k hb i j x)) (names_stay a b ok grown c.args.scope.now c.requires.scope)
    ∙ ap (λ z. ended s k z i j zs x (placing s k z i j x)) (hint_stays a b ok grown.extends c.args.hint c.requires.hint)
    ∙ ap (λ z. ended s k h i j z x (placing s k h i j x)) (parts_stay a b ok grown.extends c.args.parts.items c.requires.parts) in
    IfOk-weaker c.finish.result _ _ (λ w e. e ∙ there ∙ sym (rules_hold s k h i j ys counted x mine).1) c.finish.ensures.tree

pub returns-in-Ok-clause-fault : goal.returns-in-Ok-clause-fault
returns-in-Ok-clause-fault c =
    let a = c.args.types.now in
    let b = c.judge.new.types in
    let ok = c.count.ensures.table in
    let grown = c.judge.ensures.grows in
    let g = option_map (seen a) in
    let s = names a c.args.scope.now in
    let h = hint_seen a c.args.hint in
    let hb = hint_seen b c.args.hint in
    let k = c.args.kind in
    let i = c.args.place.first in
    let j = c.args.place.last in
    let ys = map g c.args.parts.items in
    let x = sort_seen b c.in-Ok.sort in
    let counted : is_passed_over k ys ≡ false = ap (λ ns. is_passed_over k (map g ns)) (sym c.deref.ensures.value) ∙ sym c.is_passed_over.ensures ∙ c.if-is_passed_over.false in
    let mine = ap (λ ns. judged (least (failing s k h i j (map g ns))) (sort_by s k h i j (map g ns))) (sym c.deref-2.ensures.value) ∙ c.in-Ok.ensures.exact in
    let there = ap (λ z. least (placing z k hb i j x)) (names_stay a b ok grown c.args.scope.now c.requires.scope)
    ∙ ap (λ z. least (placing s k z i j x)) (hint_stays a b ok grown.extends c.args.hint c.requires.hint) in
    IfOk-weaker c.finish.result _ _ (λ w e. e ∙ there ∙ ap least (sym (rules_hold s k h i j ys counted x mine).0)) c.finish.ensures.fault

pub returns-in-Err-clause-tree : goal.returns-in-Err-clause-tree
returns-in-Err-clause-tree c =
    let a = c.args.types.now in
    let b = c.judge.new.types in
    let ok = c.count.ensures.table in
    let grown = c.judge.ensures.grows in
    let g = option_map (seen a) in
    let s = names a c.args.scope.now in
    let h = hint_seen a c.args.hint in
    let hb = hint_seen b c.args.hint in
    let k = c.args.kind in
    let i = c.args.place.first in
    let j = c.args.place.last in
    let ys = map g c.args.parts.items in
    let zs = map (option_map (seen b)) c.args.parts.items in
    let counted : is_passed_over k ys ≡ false = ap (λ ns. is_passed_over k (map g ns)) (sym c.deref.ensures.value) ∙ sym c.is_passed_over.ensures ∙ c.if-is_passed_over.false in
    let mine = subst (λ ns. Gives (sort_seen b) refusal_of (Err c.in-Err.error) (judged (least (failing s k h i j (map g ns))) (sort_by s k h i j (map g ns)))) c.deref-2.ensures.value c.in-Err.ensures.exact in
    let there = ap (λ z. unknown z k hb i j zs) (names_stay a b ok grown c.args.scope.now c.requires.scope)
    ∙ ap (λ z. unknown s k z i j zs) (hint_stays a b ok grown.extends c.args.hint c.requires.hint)
    ∙ ap (λ z. unknown s k h i j z) (parts_stay a b ok grown.extends c.args.parts.items c.requires.parts) in
    IfOk-both c.failed.result _ _ _ (λ w e is. e ∙ there ∙ (error_fails s k h i j ys (sort_seen b) counted c.in-Err.error w.fault is mine).1) c.failed.ensures.tree c.failed.ensures.fault

pub returns-in-Err-clause-fault : goal.returns-in-Err-clause-fault
returns-in-Err-clause-fault c =
    let a = c.args.types.now in
    let b = c.judge.new.types in
    let g = option_map (seen a) in
    let s = names a c.args.scope.now in
    let h = hint_seen a c.args.hint in
    let k = c.args.kind in
    let i = c.args.place.first in
    let j = c.args.place.last in
    let ys = map g c.args.parts.items in
    let counted : is_passed_over k ys ≡ false = ap (λ ns. is_passed_over k (map g ns)) (sym c.deref.ensures.value) ∙ sym c.is_passed_over.ensures ∙ c.if-is_passed_over.false in
    let mine = subst (λ ns. Gives (sort_seen b) refusal_of (Err c.in-Err.error) (judged (least (failing s k h i j (map g ns))) (sort_by s k h i j (map g ns)))) c.deref-2.ensures.value c.in-Err.ensures.exact in
    IfOk-weaker c.failed.result _ _ (λ w is. (error_fails s k h i j ys (sort_seen b) counted c.in-Err.error w.fault is mine).0) c.failed.ensures.fault
