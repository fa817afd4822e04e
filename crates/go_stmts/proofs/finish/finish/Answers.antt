use Rattle.std.proofs.Common.{rules, arith, ◌≡◌, map, sym, subst}
use Rattle.std.specs.Option.{option_map}
use Rattle.go_grammar.specs.declared.kind.Kind.TheVariants as kind
use Rattle.go_grammar.specs.declared.kind.Sort.TheVariants as declaring
use Rattle.go_tree.specs.Views.{views}
use Rattle.go_typed.specs.Views.{seen}
use Rattle.go_stmts_defs.specs.Reading.{all_read, closed}
use Rattle.go_stmts.specs.Walks.{IsReading}
use Rattle.go_stmts.proofs.finish.finish.Goals as goal

pub returns-in-Specification-Type-clause-exact : goal.returns-in-Specification-Type-clause-exact
returns-in-Specification-Type-clause-exact c = λ b s fs before has sound.
    let is : c.args.kind ≡ kind.Specification declaring.Type = first_of (search rules, cc, grind arith) in
    let ps = views c.args.written.now in
    let xs = map (option_map (seen c.args.types.now)) c.args.row.parts.items in
    subst (λ k. IsReading c.finish_type.new.types c.args.surroundings.now c.finish_type.new.state c.args.enclosing.tag.now c.args.enclosing.results.now c.finish_type.result (closed b k c.args.place.first c.args.place.last ps (all_read xs fs s)))
    (sym is) (c.finish_type.ensures.exact b s fs ps before has sound)
