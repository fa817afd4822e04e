use Rattle.std.proofs.Common.{◌≡◌, ◌∙◌, ℕ, List, ◌++◌, map, ap}
use Rattle.go_typed.specs.Funcs.{tree_of}
use Rattle.param_choose.specs.Choosing.{choice}
use Rattle.param_choose.specs.Handed.{HandedHole, choice_shown, handed_parameter, hole_shown, planned_by}
use Rattle.param_choose.specs.Members.{member_over, members_in}
use Rattle.param_choose.specs.Plans.{assigned_result, declared_result, free_parameter, param_view, result_view}
use Rattle.param_choose.specs.Shown.{array_in, variable_view}
use Rattle.param_choose.proofs.Planned.{planned-is}
use Rattle.param_choose.proofs.choose.planned.Goals as goal

pub returns : goal.returns
returns c =
    let p = c.args.checked.now in
    let f = c.args.func.now in
    let ch = c.in_ok-choice.choice in
    let h = choice (array_in p.types) (members_in p c.args.members.now) (member_over p.uses c.args.template.now f.locals f.tokens (tree_of f)) in
    let first : map param_view c.push_free.new.out.items ≡ map free_parameter (map variable_view ch.free.items) =
    c.in_ok-push_free.ensures
    ∙ ap (λ l. map param_view l ++ map free_parameter (map variable_view c.deref.result.now)) c.new-params.ensures.items
    ∙ ap (λ l. map free_parameter (map variable_view l)) c.deref.ensures.value in
    let params : map param_view c.of.result ≡ map free_parameter (map variable_view ch.free.items) ++ map handed_parameter (map hole_shown ch.holes.items) =
    ap (map param_view) c.of.ensures
    ∙ c.in_ok-push_holes.ensures
    ∙ ap (λ l. l ++ map handed_parameter (map hole_shown c.deref-2.result.now)) first
    ∙ ap (λ l. map free_parameter (map variable_view ch.free.items) ++ map handed_parameter (map hole_shown l)) c.deref-2.ensures.value in
    let second : map result_view c.push_assigned.new.out.items ≡ map assigned_result (map variable_view ch.assigned.items) =
    c.in_ok-push_assigned.ensures
    ∙ ap (λ l. map result_view l ++ map assigned_result (map variable_view c.deref-3.result.now)) c.new-results.ensures.items
    ∙ ap (λ l. map assigned_result (map variable_view l)) c.deref-3.ensures.value in
    let results : map result_view c.of-2.result ≡ map assigned_result (map variable_view ch.assigned.items) ++ map declared_result (map variable_view ch.declared.items) =
    ap (map result_view) c.of-2.ensures
    ∙ c.in_ok-push_declared.ensures
    ∙ ap (λ l. l ++ map declared_result (map variable_view c.deref-4.result.now)) second
    ∙ ap (λ l. map assigned_result (map variable_view ch.assigned.items) ++ map declared_result (map variable_view l)) c.deref-4.ensures.value in
    let q = planned_by (choice_shown ch) in
    ap (λ ps. record { parameters = ps; results = map result_view c.of-2.result }) params
    ∙ ap (λ rs. record { parameters = q.parameters; results = rs }) results
    ∙ ap planned_by c.in_ok-choice.ensures
    ∙ planned-is h
