use Rattle.std.proofs.Common.{rules, ◌≡◌, ◌∷◌, ◌++◌, [], Some, length, map, ap, subst, ◌∙◌, sym}
use Rattle.std.specs.Option.{option_map}
use Rattle.go_typed.specs.Views.{seen, AllKnown}
use Rattle.go_stmts_defs.specs.Laying.{without_absent}
use Rattle.go_stmts_parts.proofs.Appending.{known_appended, appended, one_present}
use Rattle.go_stmts_parts.proofs.layout.without_absent.Goals as goal

pub loop-part-preserved-in-Continue-1 : goal.loop-part-preserved-in-Continue-1
loop-part-preserved-in-Continue-1 c =
    let t = c.args.types.now in
    let k = length t.shapes in
    let whole : c.loop-part.part-iterator.rest.items ≡ Some c.in-Some-part.node ∷ c.next.new.self.rest.items = search rules in
    let known = subst (AllKnown k) whole c.loop-part.invariant.3 in (
      tt,
      tt,
      known_appended k c.loop-part.out.items (Some c.in-Some-part.node ∷ []) c.push.new.self.items c.in_ok-push.ensures.items c.loop-part.invariant.2 (known.0, tt),
      known.1,
      one_present t c.loop-part.out.items c.push.new.self.items c.loop-part.part-iterator.rest.items c.next.new.self.rest.items c.in-Some-part.node c.in_ok-push.ensures.items whole ∙ c.loop-part.invariant.4,
    )
