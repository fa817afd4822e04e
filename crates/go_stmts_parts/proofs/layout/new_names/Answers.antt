use Rattle.std.proofs.Common.{length, get_or, refl, ap, sym, ◌∙◌, arith}
use Rattle.std.proofs.lemmas.List.{length-set}
use Rattle.std.specs.Option.{option_map}
use Rattle.go_typed.specs.Views.{seen}
use Rattle.go_exprs_types.specs.Naming.{locals_seen}
use Rattle.go_stmts_defs.specs.Laying.{new_name}
use Rattle.go_exprs_engine.proofs.Public.{known_at, known_set}
use Rattle.go_stmts_parts.proofs.Appending.{one_changed, all_changed}
use Rattle.go_stmts_parts.proofs.layout.new_names.Goals as goal

pub new_name-requires-clause-part : goal.new_name-requires-clause-part
new_name-requires-clause-part c = known_at (length c.args.types.now.shapes) c.loop-number.parts c.loop-number.number c.index-parts-number.result (omega arith) c.loop-number.invariant.known

pub loop-number-preserved : goal.loop-number-preserved
loop-number-preserved c =
    let t = c.args.types.now in
    let i = c.loop-number.number in
    let g = new_name (locals_seen t c.args.locals.now.sorts) in
    record {
      long = length-set c.loop-number.parts i c.new_name.new.part ∙ c.loop-number.invariant.long;
      known = known_set (length t.shapes) c.loop-number.parts i c.new_name.new.part c.loop-number.invariant.known c.new_name.ensures.known;
      parts = one_changed (option_map (seen t)) g c.loop-number.parts i c.new_name.new.part c.index-parts-number.result (omega arith)
          c.new_name.ensures.part ∙ c.loop-number.invariant.parts;
    }

pub returns-clause-parts : goal.returns-clause-parts
returns-clause-parts c =
    let t = c.args.types.now in
    sym (all_changed (option_map (seen t)) (new_name (locals_seen t c.args.locals.now.sorts)) c.loop-number.parts c.loop-number.number (omega arith)) ∙ c.loop-number.invariant.parts
