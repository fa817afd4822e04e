use Rattle.go_package_types.proofs.Unblocked.{failing_first, failing_second}
use Rattle.go_package_types.proofs.answer.is_failing.Goals as goal

pub returns-then-contains : goal.returns-then-contains
returns-then-contains c = λ ss f a. failing_first c.contains.result c.args.faulty.now ss f c.contains.ensures.value c.if-contains.true

pub returns-else-contains : goal.returns-else-contains
returns-else-contains c = λ ss f a.
    failing_second c.contains.result c.contains-else-contains.result c.args.faulty.now c.args.assigning.now ss f a c.contains.ensures.value c.if-contains.false c.contains-else-contains.ensures.value
