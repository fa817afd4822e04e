use Rattle.std.proofs.Common.{rules, arith, ◌≡◌, map, sym, subst}
use Rattle.std.specs.Prelude.{OnOk}
use Rattle.std.specs.Option.{option_map}
use Rattle.go_grammar.specs.declared.kind.Kind.TheVariants as kind
use Rattle.go_grammar.specs.declared.kind.Sort.TheVariants as declaring
use Rattle.go_typed.specs.Views.{seen}
use Rattle.go_stmts_defs.specs.Reading.{entering}
use Rattle.go_stmts.specs.Signatures.{results_or}
use Rattle.go_stmts.specs.State.{Shows}
use Rattle.go_stmts.proofs.entering.enter.Goals as goal

pub returns-in-Declaration-Constant-clause-frame : goal.returns-in-Declaration-Constant-clause-frame
returns-in-Declaration-Constant-clause-frame c = λ o rs s has.
    let is : c.args.kind ≡ kind.Declaration declaring.Constant = first_of (search rules, cc, grind arith) in
    let t = c.args.types.now in
    let x = c.args.tag.now in
    let r = results_or c.args.results.now rs in
    subst (λ k. OnOk c.enter_constants.result (Shows t o c.enter_constants.new.state x r (entering k (map (option_map (seen t)) c.args.parts.now) s)))
    (sym is) (c.enter_constants.ensures.frame o x r s has)

pub returns-in-Group-Constant-clause-frame : goal.returns-in-Group-Constant-clause-frame
returns-in-Group-Constant-clause-frame c = λ o rs s has.
    let is : c.args.kind ≡ kind.Group declaring.Constant = first_of (search rules, cc, grind arith) in
    let t = c.args.types.now in
    let x = c.args.tag.now in
    let r = results_or c.args.results.now rs in
    subst (λ k. OnOk c.enter_constants-in-Group-Constant.result (Shows t o c.enter_constants-in-Group-Constant.new.state x r (entering k (map (option_map (seen t)) c.args.parts.now) s)))
    (sym is) (c.enter_constants-in-Group-Constant.ensures.frame o x r s has)

pub returns-in-Switch-clause-frame : goal.returns-in-Switch-clause-frame
returns-in-Switch-clause-frame c = λ o rs s has.
    let t = c.args.types.now in
    let r = results_or c.args.results.now rs in
    subst (λ k. OnOk c.enter_switch.result (Shows t o c.args.state.now c.enter_switch.new.tag r (entering k (map (option_map (seen t)) c.args.parts.now) s)))
    (sym c.in-Switch.is) (c.enter_switch.ensures.frame o c.args.state.now r s has)

pub returns-in-FunctionDeclaration-clause-frame : goal.returns-in-FunctionDeclaration-clause-frame
returns-in-FunctionDeclaration-clause-frame c = λ o rs s has.
    let t = c.args.types.now in
    let x = c.args.tag.now in
    subst (λ k. OnOk c.enter_function.result (Shows t o c.enter_function.new.state x (results_or c.enter_function.new.results rs) (entering k (map (option_map (seen t)) c.args.parts.now) s)))
    (sym c.in-FunctionDeclaration.is) (c.enter_function.ensures.frame o x rs s has)
