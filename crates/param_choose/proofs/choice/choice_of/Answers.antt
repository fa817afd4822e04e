use Rattle.std.proofs.Common.{◌≡◌, ◌∙◌, ℕ, Bool, false, length, map, replicate, slice_get, ap}
use Rattle.go_tree.specs.Uses.{UsesView, functions_among}
use Rattle.go_types.specs.Tables.{Table}
use Rattle.go_typed.specs.Funcs.{tree_of}
use Rattle.go_typed.specs.Views.{views}
use Rattle.param_choose.specs.Choosing.{choice}
use Rattle.param_choose.specs.Handed.{handed, handed_hole, hole_shown}
use Rattle.param_choose.specs.Holes.{names_outer}
use Rattle.param_choose.specs.Locals.{assigned_among, has, only}
use Rattle.param_choose.specs.Marks.{differing, needed, parameters_by, variables_by}
use Rattle.param_choose.specs.Members.{Member, first_token, locals_there, members_in}
use Rattle.param_choose.specs.Shown.{array_in, holes_view, values_view, variable_view}
use Rattle.param_choose.proofs.Planned.{built, built-is, choice-is}
use Rattle.param_choose.proofs.choice.choice_of.Goals as goal

pub returns : goal.returns
returns c =
    let p = c.args.checked.now in
    let f = c.args.func.now in
    let w = c.args.template.now in
    let ms = members_in p c.args.members.now in
    let array = array_in p.types in
    let x = c.extent_of-extent.result in
    let ps = views c.statements-run.result.now in
    let t = built w f.locals f.tokens c.declared_in-locals.result.now x.first ps x.start x.from x.upto in
    let free = c.in_ok-free.free.items in
    let assigned = c.in_ok-assigned.assigned.items in
    let variables = c.in_ok-declared.declared.items in
    let hs = c.in_ok-found.found.items in
    let names = c.in_ok-names.names.items in
    let marks = c.in_ok-marks.marks.items in
    let later = c.in_ok-later.later.items in
    let shown = map hole_shown c.in_ok-holes.holes.items in
    let marked : marks ≡ differing (values_view hs) (replicate (length hs) false) ms =
    c.in_ok-marks.ensures ∙ ap (λ gs. differing (values_view gs) (replicate (length gs) false) ms) c.deref.ensures.value in
    let params : shown ≡ map handed_hole (parameters_by (names_outer t) x.start marks 0 (holes_view hs)) =
    c.in_ok-holes.ensures
    ∙ ap (λ bs. map handed_hole (parameters_by (names_outer t) x.start bs 0 (holes_view c.deref-2.result.now))) c.deref-3.ensures.value
    ∙ ap (λ gs. map handed_hole (parameters_by (names_outer t) x.start marks 0 (holes_view gs))) c.deref-2.ensures.value in
    let own : map variable_view assigned ≡ only (has (assigned_among array ps)) (map variable_view free) =
    c.in_ok-assigned.ensures
    ∙ ap (λ (types : Table). only (has (assigned_among (array_in types) ps)) (map variable_view c.deref-4.result.now)) c.types.ensures.types
    ∙ ap (λ vs. only (has (assigned_among array ps)) (map variable_view vs)) c.deref-4.ensures.value in
    let occurring : later ≡ needed ps names (replicate (length names) false) ms =
    c.in_ok-later.ensures ∙ ap (λ ns. needed ps ns (replicate (length ns) false) ms) c.deref-5.ensures.value in
    let declared : map variable_view variables ≡ variables_by f.locals later 0 names =
    c.in_ok-declared.ensures
    ∙ ap (λ bs. variables_by f.locals bs 0 c.deref-6.result.now) c.deref-7.ensures.value
    ∙ ap (λ ns. variables_by f.locals later 0 ns) c.deref-6.ensures.value in
    choice-is array ms t free assigned variables hs names marks later shown
    c.in_ok-free.ensures c.in_ok-found.ensures marked params own c.in_ok-names.ensures occurring declared
    ∙ ap (λ (m : Member ℕ). handed (choice array ms m))
    (built-is p.uses w f.locals f.tokens (tree_of f) c.declared_in-locals.result.now x.first ps x.start x.from x.upto
    (c.declared_in-locals.ensures ∙ ap (λ (u : UsesView). locals_there (slice_get u.locals w.func)) c.uses.ensures)
    (c.extent_of-extent.ensures.first ∙ ap (λ (u : UsesView). first_token (slice_get (functions_among u.package_level) w.func)) c.uses-2.ensures)
    c.statements-run.ensures
    (c.extent_of-extent.ensures.start ∙ c.in_ok-start.ensures)
    c.extent_of-extent.ensures.from
    c.extent_of-extent.ensures.upto)
