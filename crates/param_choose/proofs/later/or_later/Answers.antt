use Rattle.std.proofs.Common.{◌∙◌, ℕ, Bool, false, List, map, ap}
use Rattle.std.specs.Prelude.{nat_lt}
use Rattle.std.specs.List.{zip}
use Rattle.go_typed.specs.Funcs.{tree_of}
use Rattle.go_typed.specs.Trees.{Typeds}
use Rattle.clone_window.specs.Sameness.{all_locals}
use Rattle.clone_window.specs.Spans.{last_from}
use Rattle.clone_window.specs.Windows.{window_statements}
use Rattle.param_choose.specs.Ends.{end_at}
use Rattle.param_choose.specs.Marks.{either_each}
use Rattle.param_choose.specs.Members.{second_of}
use Rattle.param_choose.proofs.Ends.{later_row}
use Rattle.param_choose.proofs.later.or_later.Goals as goal

pub returns : goal.returns
returns c = λ ps u h.
    let f = c.args.func.now in
    let ns = c.args.locals.now in
    let left : List ℕ = all_locals false ps in
    let qs : Typeds ℕ = window_statements (tree_of f) c.args.window.now in
    let row : List ℕ → Typeds ℕ → List Bool = λ ends rs. map (λ n. nat_lt (last_from 0 rs) (end_at ends (second_of (zip left (all_locals false rs)) n))) ns in
    c.in_ok-either_each.ensures
    ∙ ap (either_each c.args.found.now) (
    c.deref.ensures.value
    ∙ c.in_ok-row.ensures left h
    ∙ ap (row c.args.ends.now) c.statements.ensures
    ∙ ap (λ ends. row ends qs) c.requires
    ∙ later_row f c.root.ensures.stands.tokens (last_from 0 qs) (zip left (all_locals false qs)) ns
    )
