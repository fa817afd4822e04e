use Rattle.std.proofs.Common.{rules}
use Rattle.std.proofs.lemmas.Fn.{always_returns_same}
use Rattle.clone_window.specs.Bodies.{bodies_of}
use Rattle.clone_classes.specs.Choices.{place_of}
use Rattle.clone_classes.specs.Orders.{class_place}
use Rattle.clone_classes.proofs.listed.sort_classes.Goals as goal

pub returns-clause-sorted : goal.returns-clause-sorted
returns-clause-sorted c = c.in_ok-sort_by_cached_key.ensures.sorted (class_place (place_of (bodies_of c.args.checked.now.functions))) (always_returns_same _ _ _ (λ a r f q. search rules))
