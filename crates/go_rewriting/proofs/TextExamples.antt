-- The worked examples.
use Rattle.go_rewriting.specs.TextExamples.{Examples}
use Rattle.go_rewriting.proofs.ExampleCalls.{all as calls}
use Rattle.go_rewriting.proofs.ExampleExcerpt.{all as excerpt}
use Rattle.go_rewriting.proofs.ExampleFunction.{all as function}
use Rattle.go_rewriting.proofs.ExampleHoles.{all as holes}
use Rattle.go_rewriting.proofs.ExampleNames.{all as names}
use Rattle.go_rewriting.proofs.ExampleParameter.{all as parameter}
use Rattle.go_rewriting.proofs.ExampleSwitch.{all as switch}
use Rattle.go_rewriting.proofs.ExampleWindows.{all as windows}

pub all : Examples
all = record {
  calls = calls;
  excerpt = excerpt;
  function = function;
  holes = holes;
  names = names;
  parameter = parameter;
  switch = switch;
  windows = windows;
}
