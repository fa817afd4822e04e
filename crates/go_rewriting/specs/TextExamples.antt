-- What is said of the worked examples.
use Rattle.go_rewriting.specs.ExampleCalls.{CallsExample}
use Rattle.go_rewriting.specs.ExampleExcerpt.{ExcerptExample}
use Rattle.go_rewriting.specs.ExampleFunction.{FunctionExample}
use Rattle.go_rewriting.specs.ExampleHoles.{HolesExample}
use Rattle.go_rewriting.specs.ExampleNames.{NamesExample}
use Rattle.go_rewriting.specs.ExampleParameter.{ParameterExample}
use Rattle.go_rewriting.specs.ExampleSwitch.{SwitchExample}
use Rattle.go_rewriting.specs.ExampleWindows.{WindowsExample}

pub record Examples : Type 0 where
  pub calls : CallsExample
  pub excerpt : ExcerptExample
  pub function : FunctionExample
  pub holes : HolesExample
  pub names : NamesExample
  pub parameter : ParameterExample
  pub switch : SwitchExample
  pub windows : WindowsExample
