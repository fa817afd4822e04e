use Rattle.std.proofs.Common.{rules}
use Rattle.examples.proofs.known.are_known.Goals as goal

pub returns-then-objects_known : goal.returns-then-objects_known
returns-then-objects_known c t = record { objects = c.objects_known.ensures (search rules); locals = c.locals_known.ensures t }
