use Rattle.std.proofs.Common.{◌∙◌, ◌<◌, ◌++◌, ℕ, List, length, map, codes, sym, ap, subst}
use Rattle.std.specs.List.{AllByRecursion}
use Rattle.go_print.specs.Texts.{listed}
use Rattle.go_print_laws.specs.Calls.{argument_text, assigning_text}
use Rattle.param_choose.specs.Choosing.{choice}
use Rattle.param_choose.specs.declared.variables.Variable.{Variable as FoundVariable}
use Rattle.param_choose.specs.Locals.{Variable, variables_where}
use Rattle.param_choose.specs.Members.{members_in, occurs_later}
use Rattle.param_choose.specs.Shown.{array_in, variable_view}
use Rattle.escape_check.specs.Places.{local_text, sources_in}
use Rattle.escape_check.specs.Shown.{member_by, member_view}
use Rattle.escape_check.specs.Types.{variable_types}
use Rattle.escape_check.proofs.Public.{variables_known}
use Rattle.extract_texts.specs.Shown.{declarations, locals_by, numbers_shown}
use Rattle.extract_texts.specs.Texts.{constants_at, result_name}
use Rattle.extract_texts.proofs.Templates.{call_written}
use Rattle.extract_texts.proofs.call.written_call.Goals as goal

pub push_declarations-requires : goal.push_declarations-requires
push_declarations-requires c =
    let p = c.args.checked.now in
    let m = c.args.member.now in
    subst (λ (vs : List (Variable ℕ)). AllByRecursion (λ t. t < length p.types.shapes) (variable_types vs))
    (sym (ap (map variable_view) c.deref-7.ensures.value ∙ c.in_ok-later.ensures p c.requires.member))
    (variables_known p c.types.ensures.stands m c.requires.member (occurs_later (member_view m)) c.deref-3.result.now)

pub returns : goal.returns
returns c =
    let p = c.args.checked.now in
    let t = c.args.template.now in
    let x = c.args.member.now in
    let m = member_view x in
    let s = sources_in p in
    let w = c.args.name.now in
    let i = c.requires.template in
    let h = choice (array_in p.types) (members_in p t.windows.now) (member_by p t.member) in
    let others = c.in_ok-others.others.items in
    let results = c.in_ok-results.results.items in
    let front = declarations p m (map variable_view c.in_ok-later.later.items) in
    let declared =
    c.in_ok-declared.ensures
    ∙ ap (λ os. locals_by t os (map variable_view c.deref-2.result.now)) c.deref.ensures.value
    ∙ ap (λ (vs : List FoundVariable). locals_by t others (map variable_view vs)) c.deref-2.ensures.value
    in
    let later = c.in_ok-later.ensures p c.requires.member ∙ ap (variables_where m.locals (occurs_later m)) c.deref-3.ensures.value in
    let given =
    c.in_ok-results.ensures
    ∙ ap (λ os. map (local_text s m) (locals_by t os (map variable_view t.choice.assigned.items)) ++ map (result_name s m) c.deref-5.result.now) c.deref-4.ensures.value
    ∙ ap (λ ns. map (local_text s m) (locals_by t others (map variable_view t.choice.assigned.items)) ++ map (result_name s m) ns) c.deref-5.ensures.value
    in
    let taken =
    c.in_ok-arguments.ensures
    ∙ ap (λ os. map (local_text s m) (locals_by t os (map variable_view t.choice.free.items)) ++ map argument_text (constants_at (numbers_shown t.choice.holes.items) m)) c.deref-6.ensures.value
    in
    let written =
    call_written p t x h w others c.in_ok-declared.declared.items (map variable_view c.in_ok-later.later.items) results c.in_ok-arguments.arguments.items i.choice c.in_ok-others.ensures declared later given taken
    in
    let first =
    c.in_ok-push_declarations.ensures
    ∙ ap (λ xs. xs ++ declarations p m (map variable_view c.deref-7.result.now)) c.new-text.ensures.items
    ∙ ap (λ (vs : List FoundVariable). declarations p m (map variable_view vs)) c.deref-7.ensures.value
    in
    let second = c.in_ok-push_assigning.ensures ∙ ap (λ xs. xs ++ assigning_text c.deref-8.result.now) first ∙ ap (λ rs. front ++ assigning_text rs) c.deref-8.ensures.value in
    let third = c.in_ok-extend_from_slice.ensures.items ∙ ap (λ xs. xs ++ w) second in
    let fourth = c.in_ok-push.ensures.items ∙ ap (λ xs. xs ++ codes "(") third in
    let fifth =
    c.in_ok-push_listed.ensures ∙ ap (λ xs. xs ++ listed c.deref-9.result.now) fourth ∙ ap (λ gs. front ++ assigning_text results ++ w ++ codes "(" ++ listed gs) c.deref-9.ensures.value
    in
    c.of.ensures ∙ c.in_ok-push-2.ensures.items ∙ ap (λ xs. xs ++ codes ")") fifth ∙ written
