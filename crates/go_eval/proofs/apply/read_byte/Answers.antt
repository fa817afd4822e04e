use Rattle.std.proofs.Common.{◌≡◌, List, [], ◌∷◌, ◌++◌, refl, ap, ◌∙◌, Ok}
use Rattle.go_meaning.specs.Operations.{ReadByte}
use Rattle.go_values.specs.Views.{view, views}
use Rattle.go_values.specs.Worlds.{world_view}
use Rattle.go_eval_machine.specs.Engines.{Work, operates}
use Rattle.go_eval_machine.proofs.Public.{goes_worlded, goes_given, operation_gives, kept_itself}
use Rattle.go_eval.proofs.apply.read_byte.Goals as goal

pub returns : goal.returns
returns c = λ p.
    let old = c.args.engine.now in
    let vs = views old.values.items in
    let m = record old { machine = record old.machine { world = c.read_byte-byte.new.self } } in
    let v = view c.read_byte-byte.result in
    let one : Work = λ n s us. s.go (us ++ v ∷ []) in
    goes_worlded p (operates ReadByte) one old old m (Ok (tt {0})) c.give.new.self vs (kept_itself old) refl refl refl refl refl refl
    (goes_given p one m c.give.new.self (tt {0}) (vs ++ v ∷ []) c.in_ok-give.ensures.kept c.in_ok-give.ensures.values (λ n s d f u t. refl))
    (λ n s d f t. operation_gives s vs d f (world_view old.machine.world) t ReadByte [] v (world_view m.machine.world) c.read_byte-byte.ensures)
