use Rattle.std.proofs.Common.{rules, ◌≡◌, false, Err, map, ap, sym, subst, ◌∙◌}
use Rattle.std.specs.Prelude.{◌&&◌, not}
use Rattle.std.specs.Option.{option_map}
use Rattle.go_base.specs.Gives.{Gives}
use Rattle.go_typed.specs.Views.{seen, sort_seen}
use Rattle.go_exprs_rules.specs.Faults.{least, judged, refusal_of}
use Rattle.go_exprs_rules.specs.Hints.{hint_seen}
use Rattle.go_exprs_rules.specs.Tables.{failing, sort_by, placing, is_placed, is_judged, form_by, takes, all_given, made}
use Rattle.go_exprs_types.specs.Naming.{names}
use Rattle.go_exprs_engine.proofs.Building.{answer_on, at_end, on_err, rules_hold, counts_judged, counts_holder}
use Rattle.go_exprs_engine.proofs.Stays.{names_stay, scope_known, basics_stay, parts_known, parts_stay, hint_stays}
use Rattle.go_exprs_engine.proofs.build.build_on.Goals as goal
use Rattle.go_exprs_engine.proofs.build.build_on.Goals.{else-is_placed-via-then-is_placed+else-not-is_judged, else-is_placed-via-else-is_placed}

pub returns-in_err-sort-clause-exact : goal.returns-in_err-sort-clause-exact
returns-in_err-sort-clause-exact c =
    let a = c.args.types.now in
    let g = option_map (seen a) in
    let s = names a c.args.scope.now in
    let h = hint_seen a c.args.hint in
    let k = c.args.kind in
    let i = c.args.place.first in
    let j = c.args.place.last in
    let ys = map g c.args.parts.items in
    let counted : (is_placed k && not (is_judged ys)) ≡ false = elim c.else-is_placed.branch [
      | else-is_placed-via-then-is_placed+else-not-is_judged w ↦ counts_judged (is_placed k) (is_judged ys) (ap (λ ns. is_judged (map g ns)) (sym w.deref.ensures.value) ∙ sym w.is_judged.ensures ∙ w.if-not-is_judged.false)
      | else-is_placed-via-else-is_placed w ↦ counts_holder (is_placed k) (is_judged ys) (sym c.is_placed.ensures ∙ w.if-is_placed.false)
    ] in
    let mine = subst (λ ns. Gives (sort_seen c.judge.new.types) refusal_of (Err c.in_err-sort.field-0.0) (judged (least (failing s k h i j (map g ns))) (sort_by s k h i j (map g ns)))) c.deref-2.ensures.value c.in_err-sort.ensures.exact in
    on_err s k h i j ys (seen c.judge.new.types) (sort_seen c.judge.new.types) c.in_err-sort.field-0.0 c.from_residual-in_err-sort.result counted mine (search rules)

pub finish-requires-clause-scope : goal.finish-requires-clause-scope
finish-requires-clause-scope c = scope_known c.args.types.now c.judge.new.types c.count.ensures.table c.judge.ensures.grows c.args.scope.now c.requires.scope

pub finish-requires-clause-basics : goal.finish-requires-clause-basics
finish-requires-clause-basics c = basics_stay c.args.types.now c.judge.new.types c.count.ensures.table c.judge.ensures.grows.extends c.args.scope.now.basics c.requires.basics

pub finish-requires-clause-parts : goal.finish-requires-clause-parts
finish-requires-clause-parts c = parts_known c.args.types.now c.judge.new.types c.count.ensures.table c.judge.ensures.grows.extends c.args.parts.items c.requires.parts

pub returns-clause-exact : goal.returns-clause-exact
returns-clause-exact c =
    let a = c.args.types.now in
    let b = c.judge.new.types in
    let ok = c.count.ensures.table in
    let grown = c.judge.ensures.grows in
    let g = option_map (seen a) in
    let s = names a c.args.scope.now in
    let h = hint_seen a c.args.hint in
    let k = c.args.kind in
    let i = c.args.place.first in
    let j = c.args.place.last in
    let ys = map g c.args.parts.items in
    let x = sort_seen b c.in_ok-sort.sort in
    let zs = map (option_map (seen b)) c.args.parts.items in
    let counted : (is_placed k && not (is_judged ys)) ≡ false = elim c.else-is_placed.branch [
      | else-is_placed-via-then-is_placed+else-not-is_judged w ↦ counts_judged (is_placed k) (is_judged ys) (ap (λ ns. is_judged (map g ns)) (sym w.deref.ensures.value) ∙ sym w.is_judged.ensures ∙ w.if-not-is_judged.false)
      | else-is_placed-via-else-is_placed w ↦ counts_holder (is_placed k) (is_judged ys) (sym c.is_placed.ensures ∙ w.if-is_placed.false)
    ] in
    let mine = ap (λ ns. judged (least (failing s k h i j (map g ns))) (sort_by s k h i j (map g ns))) (sym c.deref-2.ensures.value) ∙ c.in_ok-sort.ensures.exact in
    let one = subst (λ z. Gives (seen b) refusal_of c.finish.result (judged (least (placing z k (hint_seen b c.args.hint) i j x)) (at_end z k (hint_seen b c.args.hint) i j zs x))) (names_stay a b ok grown c.args.scope.now c.requires.scope) c.finish.ensures.exact in
    let two = subst (λ z. Gives (seen b) refusal_of c.finish.result (judged (least (placing s k z i j x)) (at_end s k z i j zs x))) (hint_stays a b ok grown.extends c.args.hint c.requires.hint) one in
    let three = subst (λ z. Gives (seen b) refusal_of c.finish.result (judged (least (placing s k h i j x)) (at_end s k h i j z x))) (parts_stay a b ok grown.extends c.args.parts.items c.requires.parts) two in
    subst (Gives (seen b) refusal_of c.finish.result) (sym (rules_hold s k h i j ys counted x mine)) three
