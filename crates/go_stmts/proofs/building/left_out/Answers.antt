use Rattle.std.proofs.Common.{rules, arith, ◌≡◌, sym, subst}
use Rattle.std.specs.Option.{option_map}
use Rattle.go_base.specs.Gives.{Gives}
use Rattle.go_grammar.specs.declared.kind.Kind.TheVariants as kind
use Rattle.go_grammar.specs.declared.kind.Sort.TheVariants as declaring
use Rattle.go_typed.specs.Views.{seen}
use Rattle.go_exprs_rules.specs.Faults.{judged, reported, refusal_of}
use Rattle.go_stmts_defs.specs.Reading.{left_out, left_out_faults}
use Rattle.go_stmts.proofs.building.left_out.Goals as goal

pub returns-in-Specification-Constant-clause-exact : goal.returns-in-Specification-Constant-clause-exact
returns-in-Specification-Constant-clause-exact c = λ x rs s has.
    let is : c.args.kind ≡ kind.Specification declaring.Constant = first_of (search rules, cc, grind arith) in
    subst (λ k. Gives (option_map (seen c.repeat.new.types)) refusal_of c.repeat.result (judged (reported (left_out_faults s k)) (left_out s k))) (sym is)
    (c.repeat.ensures.exact x rs s has)
