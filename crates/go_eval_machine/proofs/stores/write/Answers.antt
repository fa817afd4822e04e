use Rattle.std.proofs.Common.{[], ◌∷◌, refl, sym, ap, ◌∙◌}
use Rattle.std.specs.Prelude.{slice_set}
use Rattle.std.proofs.lemmas.Result.{err_from_is_err_and}
use Rattle.go_meaning.specs.Values as meant
use Rattle.go_meaning.specs.Operations.{Cell, ReadVariable, SetCell, WriteVariable}
use Rattle.go_values.specs.Views.{view}
use Rattle.go_values.specs.Worlds.{world_view}
use Rattle.go_eval_plans.specs.declared.targets.Root.TheVariants as root
use Rattle.go_eval_plans.proofs.Public.{reads_by}
use Rattle.go_eval_machine.proofs.Writing.{wrote_local, wrote_by, wrote_nothing, no_trap, set_trapped}
use Rattle.go_eval_machine.proofs.stores.write.Goals as goal

pub returns-in_ok-other-in-Local-clause-is : goal.returns-in_ok-other-in-Local-clause-is
returns-in_ok-other-in-Local-clause-is c = λ x us d h.
    let m = c.args.machine.now in
    let k = c.in-Local.local in
    let w = view c.in_ok-other-in-Local.other in
    wrote_local x us d m (record m { frame = c.put_at.new.values }) c.args.target k c.as_slice.result.now (view c.args.value) (view c.take_at-whole.result) w meant.NilFunction h c.in-Local.is (sym c.as_slice.ensures.value)
    c.take_at-whole.ensures.taken c.in_ok-other-in-Local.ensures (c.put_at.ensures ∙ ap (λ vs. slice_set vs k w) c.take_at-whole.ensures.left) refl refl

pub returns-in_ok-other-in-Variable-clause-is : goal.returns-in_ok-other-in-Variable-clause-is
returns-in_ok-other-in-Variable-clause-is c = λ x us d h.
    let m = c.args.machine.now in
    let k = c.in-Variable.variable in
    let u = view c.take_variable-whole.result in
    let w = view c.in_ok-other-in-Variable.other in
    wrote_by x us d m (record m { world = c.write_variable.new.self }) c.args.target (root.Variable k) (WriteVariable k) c.as_slice-in-Variable.result.now (w ∷ []) (view c.args.value) u w h c.in-Variable.is (sym c.as_slice-in-Variable.ensures.value)
    (reads_by (ReadVariable k) [] d m u c.take_variable-whole.ensures.taken) c.in_ok-other-in-Variable.ensures refl (sym (c.take_variable-whole.ensures.left w) ∙ c.write_variable.ensures) refl refl

pub returns-in_err-whole-in-Cell-clause-is : goal.returns-in_err-whole-in-Cell-clause-is
returns-in_err-whole-in-Cell-clause-is c = λ x us d h.
    absurd (no_trap x us d c.args.machine.now c.args.target c.in-Cell.slice c.in-Cell.index c.in_err-whole-in-Cell.field-0.0 h c.in-Cell.is c.in_err-whole-in-Cell.ensures.taken)

pub returns-in_ok-set_cell-in-Cell-clause-is : goal.returns-in_ok-set_cell-in-Cell-clause-is
returns-in_ok-set_cell-in-Cell-clause-is c = λ x us d h.
    let m = c.args.machine.now in
    let a = c.in-Cell.slice in
    let b = c.in-Cell.index in
    let u = view c.in_ok-whole-in-Cell.whole in
    let w = view c.in_ok-other-in-Cell.other in
    wrote_by x us d m (record m { world = c.set_cell.new.self }) c.args.target (root.Cell a b) SetCell c.as_slice-in-Cell.result.now (view a ∷ view b ∷ w ∷ []) (view c.args.value) u w h c.in-Cell.is (sym c.as_slice-in-Cell.ensures.value)
    (reads_by Cell (view a ∷ view b ∷ []) d m u c.in_ok-whole-in-Cell.ensures.taken) c.in_ok-other-in-Cell.ensures refl (sym (c.in_ok-whole-in-Cell.ensures.left w) ∙ c.in_ok-set_cell-in-Cell.ensures) refl refl

pub returns-in_err-set_cell-in-Cell-clause-is : goal.returns-in_err-set_cell-in-Cell-clause-is
returns-in_err-set_cell-in-Cell-clause-is c = λ x us d h.
    let q = err_from_is_err_and c.from_residual-in_err-set_cell-in-Cell.result c.from_residual-in_err-set_cell-in-Cell.ensures.1 in
    let m1 = record c.args.machine.now { world = c.set_cell.new.self } in
    let a = view c.in-Cell.slice in
    let b = view c.in-Cell.index in
    let w = view c.in_ok-other-in-Cell.other in
    rw q.1 (set_trapped x us (view c.args.value) d c.args.machine.now m1 a b (view c.in_ok-whole-in-Cell.whole) w (world_view c.take_cell.new.self) (world_view c.set_cell.new.self) c.in_err-set_cell-in-Cell.field-0.0 q.0
    c.in_ok-whole-in-Cell.ensures.taken (c.in_ok-whole-in-Cell.ensures.left w) c.in_err-set_cell-in-Cell.ensures q.2)

pub returns-in-Nothing-clause-is : goal.returns-in-Nothing-clause-is
returns-in-Nothing-clause-is c = λ x us d h. wrote_nothing x us d c.args.machine.now c.args.target (view c.args.value) h c.in-Nothing.is
