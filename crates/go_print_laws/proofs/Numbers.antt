-- A number in decimal as a node of the typed tree.
use Rattle.std.proofs.Common.{◌≡◌, ℕ, suc, ◌<◌, ◌^◌, true, false, ◌&&◌, if◌then◌else◌, [], nat_lt, ap, ◌∙◌, arith}
use Rattle.std.specs.Prelude.{pos}
use Rattle.std.specs.List.{list_all}
use Rattle.std.specs.Fmt.{decimal}
use Rattle.std.proofs.lemmas.Bool.Decides.{nat_tests}
use Rattle.go_base.specs.declared.fault.FaultCode.TheVariants as code
use Rattle.go_constants.specs.declared.values.Const.TheVariants as const
use Rattle.go_grammar.specs.declared.kind.Kind.TheVariants as kind
use Rattle.go_tokens.specs.Literals.{integer_value}
use Rattle.go_typed.specs.declared.form.Form.TheVariants as form
use Rattle.go_typed.specs.Trees.{typed}
use Rattle.go_typed.specs.Trees as sort
use Rattle.go_exprs_rules.specs.Faults.{fault_at, or_else}
use Rattle.go_exprs_rules.specs.Settling.{Part}
use Rattle.go_exprs_rules.specs.Scopes.{Scope, value}
use Rattle.go_exprs_rules.specs.Names.{integer_failing}
use Rattle.go_exprs_rules.specs.Tables.{label, no_faults, own_faults, built_by}
use Rattle.go_exprs_rules.specs.Typing.{typing, faults}
use Rattle.go_print_laws.specs.Trees.{number_at}
use Rattle.go_print_laws.proofs.Values.{number_value}

-- an untyped constant of this value
abbrev pub number_part : ℕ → ℕ → Part
number_part i n = typed form.Literal i (suc i) (label form.Literal (sort.OpenConstant (const.Int (pos n) false)) []) sort.none

module _ (s : Scope) (i n : ℕ) (said : s.texts i ≡ decimal n) (small : n < 2 ^ 127) where
  value_is : integer_value (s.texts i) ≡ n
  value_is = ap integer_value said ∙ number_value n (omega arith)

  no_fault : integer_failing i (suc i) (s.texts i) ≡ []
  no_fault =
      ap (λ m. if nat_lt m (2 ^ 127) then [] else fault_at code.Representable i (suc i)) value_is
      ∙ ap (λ b. if b then [] else fault_at code.Representable i (suc i)) (let h : nat_lt n (2 ^ 127) ≡ true = grind (arith, nat_tests) in h)

  none_fail : own_faults s kind.Integer value i (suc i) [] ≡ []
  none_fail = ap (λ fs. or_else fs []) no_fault

  pub number_typed : typing s value (number_at i) ≡ number_part i n
  number_typed =
      ap (λ fs. built_by s kind.Integer value i (suc i) [] (no_faults fs)) none_fail
      ∙ ap (λ m. typed form.Literal i (suc i) (label form.Literal (sort.OpenConstant (const.Int (pos m) false)) []) sort.none) value_is

  pub number_clear : list_all no_faults (faults s value (number_at i)) ≡ true
  number_clear = ap (λ fs. no_faults fs && true) none_fail
