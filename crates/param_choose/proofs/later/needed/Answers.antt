use Rattle.std.proofs.Common.{◌≡◌, ◌∙◌, ◌+◌, ℕ, List, Vec, Global, Bool, false, Some, map, drop, slice_get, slice_index_or, nat_eq, sym, ap}
use Rattle.std.specs.HashMap.{get}
use Rattle.std.proofs.lemmas.Option.{slice_get-get_or}
use Rattle.go_typed.specs.declared.window.Window.{Window}
use Rattle.go_typed.specs.Funcs.{tree_of}
use Rattle.go_typed.specs.Views.{views}
use Rattle.clone_window.specs.Sameness.{all_locals}
use Rattle.param_choose.specs.Ends.{ends_of, place_in}
use Rattle.param_choose.specs.Marks.{either_each, later_each, needed}
use Rattle.param_choose.specs.Members.{member_over, members_in}
use Rattle.param_choose.proofs.Ends.{row_at}
use Rattle.param_choose.proofs.Members.{member-there, member-missing}
use Rattle.param_choose.proofs.later.needed.Goals as goal
use Rattle.param_choose.proofs.later.needed.Goals.{in-Some+in_ok-found-2, in_default}

abbrev numbers : Vec ℕ Global → List ℕ
numbers v = v.items

abbrev marked : Vec Bool Global → List Bool
marked v = v.items

pub or_later-requires : goal.or_later-requires
or_later-requires c =
    let rows = ap (map numbers) c.deref-in-Some.ensures.value ∙ c.in_ok-ends.ensures ∙ ap (map ends_of) c.functions.ensures in
    c.ends_at-ends.ensures (ends_of c.in-Some.func.now) (row_at c.args.checked.now.functions (map numbers c.deref-in-Some.result.now) _ c.in-Some.func.now rows c.in-Some.ensures)

pub loop-window-preserved : goal.loop-window-preserved
loop-window-preserved c =
    let p = c.args.checked.now in
    let ws = c.args.windows.now in
    let i = c.loop-window.window-index in
    let vs = views c.args.template.now in
    let ns = c.args.locals.now in
    let bs = c.loop-window.found.items in
    let x : Window = slice_index_or ws i (record { func = 0; list = 0; first = 0; count = 0 }) in
    let is : slice_get ws i ≡ Some x = slice_get-get_or ws i (record { func = 0; list = 0; first = 0; count = 0 }) c.loop-window-test.true in
    let places : (n : ℕ) → get nat_eq c.in_ok-places.places n ≡ place_in (all_locals false vs) n = λ n. (
    c.in_ok-places.ensures n ∙ ap (λ ks. place_in ks n) (c.deref.ensures.value ∙ c.in_ok-locals_of.ensures)
    ) in
    c.loop-window.invariant
    ∙ elim c.match-function.branch [
      | in-Some+in_ok-found-2 w ↦
          let f = w.in-Some.func.now in
          ap (needed vs ns bs) (member-there p ws i x f is w.in-Some.ensures)
          ∙ ap (λ ms. needed vs ns ms (members_in p (drop (i + 1) ws))) (sym (
          ap marked w.found-is
          ∙ w.in_ok-found-2.ensures vs p.uses places
          ∙ ap (λ ms. either_each ms (later_each vs ns (member_over p.uses x f.locals f.tokens (tree_of f)))) w.deref-in-Some-2.ensures.value
          ))
      | in_default w ↦
          ap (needed vs ns bs) (member-missing p ws i x is w.in_default.ensures)
          ∙ ap (λ ms. needed vs ns ms (members_in p (drop (i + 1) ws))) (sym (ap marked w.found-is))
    ]
