use Rattle.std.proofs.Common.{length, get_or, refl, ap, sym, ◌∙◌, arith}
use Rattle.std.proofs.lemmas.List.{length-set}
use Rattle.std.specs.Option.{option_map}
use Rattle.go_typed.specs.Views.{seen}
use Rattle.go_exprs_rules.specs.Tables.{take_optional}
use Rattle.go_exprs_rules.specs.Takes.{take_seen}
use Rattle.go_exprs_engine.proofs.Nodes.{known_at, known_set}
use Rattle.go_exprs_engine.proofs.Giving.{given_step, given_end}
use Rattle.go_exprs_rules.specs.declared.take.Take.TheVariants as take
use Rattle.go_exprs_engine.proofs.settle.give_all.Goals as goal

pub give_part-requires-clause-part : goal.give_part-requires-clause-part
give_part-requires-clause-part c = known_at (length c.args.types.now.shapes) c.loop-number.parts c.loop-number.number c.index-parts-number.result (omega arith) c.loop-number.invariant.known

pub loop-number-preserved : goal.loop-number-preserved
loop-number-preserved c =
    let t = c.args.types.now in
    let i = c.loop-number.number in
    record {
      long = length-set c.loop-number.parts i c.give_part.new.part ∙ c.loop-number.invariant.long;
      known = known_set (length t.shapes) c.loop-number.parts i c.give_part.new.part c.loop-number.invariant.known c.in_ok-give_part.ensures.known;
      parts = given_step (option_map (seen t)) (take_seen t) c.args.takes.now c.loop-number.parts i (get_or c.args.takes.now i take.Stay) take.Stay c.index-parts-number.result c.give_part.new.part _ (omega arith) (omega arith) refl c.index-parts-number.is
          (c.in_ok-give_part.ensures.tree ∙ ap (λ o. take_optional (take_seen t (get_or c.args.takes.now i take.Stay)) (option_map (seen t) o)) (sym c.index-parts-number.is)) c.loop-number.invariant.parts;
    }

pub returns-clause-tree : goal.returns-clause-tree
returns-clause-tree c =
    let t = c.args.types.now in
    let i = c.loop-number.number in
    given_end (option_map (seen t)) (take_seen t) c.args.takes.now c.loop-number.parts i _ (omega arith) c.loop-number.invariant.parts
