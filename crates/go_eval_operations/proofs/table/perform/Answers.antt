use Rattle.std.proofs.Common.{sym, ap, ◌∙◌}
use Rattle.go_types.specs.Tables.{type_of}
use Rattle.go_meaning.specs.Operations.{Compare, Not, Negate, Complement, Wrap, Join, TextOfCode, Length, Capacity, perform}
use Rattle.go_values.specs.Views.{views}
use Rattle.go_values.specs.Worlds.{world_view}
use Rattle.go_eval_operations.proofs.table.perform.Goals as goal

pub returns-in-Compare : goal.returns-in-Compare
returns-in-Compare c =
    let w = world_view c.args.world.now in
    rw c.in-Compare.is (ap (λ xs. perform (Compare c.in-Compare.comparison) (views xs) w) (sym c.as_slice-all.ensures.value) ∙ c.compare.ensures w)

pub returns-in-Not : goal.returns-in-Not
returns-in-Not c =
    let w = world_view c.args.world.now in
    rw c.in-Not.is (ap (λ xs. perform Not (views xs) w) (sym c.as_slice-all.ensures.value) ∙ c.not.ensures w)

pub returns-in-Negate : goal.returns-in-Negate
returns-in-Negate c =
    let w = world_view c.args.world.now in
    rw c.in-Negate.is (ap (λ xs. perform (Negate c.in-Negate.kind) (views xs) w) (sym c.as_slice-all.ensures.value) ∙ c.negate.ensures w)

pub returns-in-Complement : goal.returns-in-Complement
returns-in-Complement c =
    let w = world_view c.args.world.now in
    rw c.in-Complement.is (ap (λ xs. perform (Complement c.in-Complement.kind) (views xs) w) (sym c.as_slice-all.ensures.value) ∙ c.complement.ensures w)

pub returns-in-Wrap : goal.returns-in-Wrap
returns-in-Wrap c =
    let w = world_view c.args.world.now in
    rw c.in-Wrap.is (ap (λ xs. perform (Wrap c.in-Wrap.kind) (views xs) w) (sym c.as_slice-all.ensures.value) ∙ c.convert.ensures w)

pub returns-in-Length : goal.returns-in-Length
returns-in-Length c =
    let w = world_view c.args.world.now in
    rw c.in-Length.is (ap (λ xs. perform Length (views xs) w) (sym c.as_slice-all.ensures.value) ∙ c.length.ensures w)

pub returns-in-Capacity : goal.returns-in-Capacity
returns-in-Capacity c =
    let w = world_view c.args.world.now in
    rw c.in-Capacity.is (ap (λ xs. perform Capacity (views xs) w) (sym c.as_slice-all.ensures.value) ∙ c.capacity.ensures w)

pub returns-in_ok-join-in-Join : goal.returns-in_ok-join-in-Join
returns-in_ok-join-in-Join c =
    let w = world_view c.args.world.now in
    rw c.in-Join.is (ap (λ xs. perform Join (views xs) w) (sym c.as_slice-all.ensures.value) ∙ c.in_ok-join-in-Join.ensures w)

pub returns-in_ok-text_of_code-in-TextOfCode : goal.returns-in_ok-text_of_code-in-TextOfCode
returns-in_ok-text_of_code-in-TextOfCode c =
    let w = world_view c.args.world.now in
    rw c.in-TextOfCode.is (ap (λ xs. perform TextOfCode (views xs) w) (sym c.as_slice-all.ensures.value) ∙ c.in_ok-text_of_code-in-TextOfCode.ensures w)

pub returns-in_ok-build-in-Build : goal.returns-in_ok-build-in-Build
returns-in_ok-build-in-Build c = rw c.in-Build.is (c.in_ok-build-in-Build.ensures (type_of c.args.types.now.shapes) (world_view c.args.world.now))
