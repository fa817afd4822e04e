use Rattle.std.proofs.Common.{◌≡◌, List, take, length, refl, sym, subst, Ok}
use Rattle.go_values.specs.Views.{views}
use Rattle.go_eval_machine.specs.declared.task.What.{What}
use Rattle.go_eval_machine.specs.declared.task.What.TheVariants as what
use Rattle.go_eval_machine.specs.Tasks.{IsFit}
use Rattle.go_eval_machine.specs.Engines.{Goes, works, asks, seeks}
use Rattle.go_eval_machine.proofs.Public.{goes_same, goes_given}
use Rattle.go_eval.proofs.Leaving.{value_asked, place_sought, clause_left, items_round}
use Rattle.go_eval.proofs.dispatch.dispatch.Goals as goal

pub returns-in-Value : goal.returns-in-Value
returns-in-Value c =
    let p = c.args.checked.now in
    let x = c.args.node.now in
    let m = c.args.engine.now in
    rw c.in-Value.is (goes_same p (works p x c.args.base what.Value) (asks p x) m c.start.result c.start.new.self c.start.ensures (λ n s. value_asked p n x c.args.base s (views m.values.items)))

pub returns-in-Find : goal.returns-in-Find
returns-in-Find c =
    let p = c.args.checked.now in
    let x = c.args.node.now in
    let m = c.args.engine.now in
    rw c.in-Find.is (goes_same p (works p x c.args.base what.Find) (seeks p x) m c.find.result c.find.new.engine c.find.ensures (λ n s. place_sought p n x c.args.base s (views m.values.items)))

pub returns-in-Values : goal.returns-in-Values
returns-in-Values c =
    rw c.in-Values.is (c.next_value.ensures c.args.checked.now c.requires.0)

pub returns-in-Finds : goal.returns-in-Finds
returns-in-Finds c =
    rw c.in-Finds.is (c.next_find.ensures c.args.checked.now c.requires.0)

pub returns-in-Perform : goal.returns-in-Perform
returns-in-Perform c =
    rw c.in-Perform.is c.perform.ensures

pub returns-in-Both : goal.returns-in-Both
returns-in-Both c =
    rw c.in-Both.is (c.both.ensures c.args.checked.now c.requires.0)

pub returns-in-Either : goal.returns-in-Either
returns-in-Either c =
    rw c.in-Either.is (c.either.ensures c.args.checked.now c.requires.0)

pub returns-in-Apply : goal.returns-in-Apply
returns-in-Apply c =
    rw c.in-Apply.is c.apply.ensures.goes

pub returns-in-Return : goal.returns-in-Return
returns-in-Return c =
    rw c.in-Return.is (c.ends_body.ensures c.args.checked.now)

pub returns-in-Step : goal.returns-in-Step
returns-in-Step c =
    rw c.in-Step.is c.step.ensures

pub returns-in-Load : goal.returns-in-Load
returns-in-Load c =
    rw c.in-Load.is c.read.ensures

pub returns-in-Operate : goal.returns-in-Operate
returns-in-Operate c =
    rw c.in-Operate.is c.operate.ensures

pub returns-in-Assign : goal.returns-in-Assign
returns-in-Assign c =
    rw c.in-Assign.is (c.assign.ensures c.args.checked.now c.requires.0)

pub returns-in-Zero : goal.returns-in-Zero
returns-in-Zero c =
    rw c.in-Zero.is c.store_zeros.ensures

pub returns-in-Store : goal.returns-in-Store
returns-in-Store c =
    rw c.in-Store.is c.store_values.ensures

pub returns-in-Sequence : goal.returns-in-Sequence
returns-in-Sequence c =
    rw c.in-Sequence.is c.sequence.ensures

pub returns-in-Condition : goal.returns-in-Condition
returns-in-Condition c =
    rw c.in-Condition.is c.condition.ensures

pub returns-in-Branch : goal.returns-in-Branch
returns-in-Branch c =
    rw c.in-Branch.is c.branch-engine.ensures

pub returns-in-Tag : goal.returns-in-Tag
returns-in-Tag c =
    rw c.in-Tag.is (c.tag.ensures c.args.checked.now c.requires.0)

pub returns-in-Clauses : goal.returns-in-Clauses
returns-in-Clauses c =
    rw c.in-Clauses.is c.clauses.ensures

pub returns-in-Clause : goal.returns-in-Clause
returns-in-Clause c =
    rw c.in-Clause.is c.clause.ensures

pub returns-in-Matches : goal.returns-in-Matches
returns-in-Matches c =
    rw c.in-Matches.is (c.matches.ensures c.args.checked.now c.requires.0)

pub returns-in-Match : goal.returns-in-Match
returns-in-Match c =
    rw c.in-Match.is (c.match_tag.ensures c.args.checked.now c.requires.0)

pub returns-in-Turn : goal.returns-in-Turn
returns-in-Turn c =
    rw c.in-Turn.is c.turn.ensures

pub returns-in-Block : goal.returns-in-Block
returns-in-Block c =
    rw c.in-Block.is c.block.ensures

pub returns-in-Round : goal.returns-in-Round
returns-in-Round c =
    rw c.in-Round.is c.round.ensures

pub returns-in-Again : goal.returns-in-Again
returns-in-Again c =
    rw c.in-Again.is c.again.ensures

pub returns-in-Index : goal.returns-in-Index
returns-in-Index c =
    rw c.in-Index.is c.index.ensures

pub returns-in-Tested : goal.returns-in-Tested
returns-in-Tested c =
    rw c.in-Tested.is (c.tested.ensures c.args.checked.now c.requires.0)

pub returns-in-Behind : goal.returns-in-Behind
returns-in-Behind c =
    rw c.in-Behind.is (c.found.ensures c.args.checked.now)

pub returns-in-Items : goal.returns-in-Items
returns-in-Items c =
    rw c.in-Items.is (c.items.ensures c.args.checked.now c.requires.0)

pub returns-in-Item : goal.returns-in-Item
returns-in-Item c =
    rw c.in-Item.is (c.item.ensures c.args.checked.now (subst (IsFit (length c.args.checked.now.types.shapes) c.args.node.now) c.in-Item.is c.requires))

pub returns-in-ItemTo : goal.returns-in-ItemTo
returns-in-ItemTo c =
    rw c.in-ItemTo.is c.item_to.ensures

pub returns-in-ItemRound : goal.returns-in-ItemRound
returns-in-ItemRound c =
    let p = c.args.checked.now in
    let x = c.args.node.now in
    let m = c.args.engine.now in
    let g = c.in-ItemRound.iteration in
    rw c.in-ItemRound.is (goes_same p (works p x c.args.base (what.ItemRound g)) (works p x c.args.base (what.Item g)) m c.item-in-ItemRound.result c.item-in-ItemRound.new.engine (c.item-in-ItemRound.ensures p (subst (IsFit (length p.types.shapes) x) c.in-ItemRound.is c.requires)) (λ n s. items_round p n x c.args.base s (views m.values.items) g))

pub returns-in-Leave : goal.returns-in-Leave
returns-in-Leave c =
    rw c.in-Leave.is (c.leave.ensures c.args.checked.now c.args.node.now)

pub returns-in-Fall : goal.returns-in-Fall
returns-in-Fall c =
    let p = c.args.checked.now in
    let x = c.args.node.now in
    let b = c.args.base in
    let m = c.args.engine.now in
    rw c.in-Fall.is (goes_given p (works p x b (what.Fall c.in-Fall.next)) m c.cut.new.self (tt {0}) (take b (views m.values.items)) c.cut.ensures.kept c.cut.ensures.values (λ n s. clause_left p n x b s (views m.values.items) c.in-Fall.next))
