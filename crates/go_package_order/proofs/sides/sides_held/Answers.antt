use Rattle.std.proofs.Common.{◌+◌, ◌++◌, drop, ap, sym, subst, ◌∙◌, append-nil, arith}
use Rattle.go_package_defs.specs.Knowledge.{is_type}
use Rattle.go_package_rounds.specs.Rights.{rights_held}
use Rattle.go_package_rounds.proofs.Public.{held_at, known_at}
use Rattle.go_package_order.specs.Progress.{KnownRights, sides}
use Rattle.go_package_order.proofs.RightSides.{known_more, sides_on, none_left}
use Rattle.go_package_order.proofs.sides.sides_held.Goals as goal

pub loop-number-preserved : goal.loop-number-preserved
loop-number-preserved c =
    let ds = c.args.objects.now in
    let hs = c.args.all.now in
    let n = c.loop-number.number in
    let e = c.in_ok-entity.entity in
    let r = c.in_ok-right.right in
    let rs = c.loop-number.rights.items in
    let items = c.in_ok-add_right.ensures in (
      λ m a. subst (KnownRights m) (sym items) (known_more m (is_type e) rs r (c.loop-number.invariant.0 m a) (known_at m r hs n a c.in_ok-right.ensures)),
      λ t.
          ap (λ xs. sides t xs ++ rights_held t (drop (n + 1) ds) (drop (n + 1) hs)) items
          ∙ sides_on t (is_type e) rs r (rights_held t (drop (n + 1) ds) (drop (n + 1) hs))
          ∙ ap (λ xs. sides t rs ++ xs) (sym (held_at t e r ds hs n c.in_ok-entity.ensures c.in_ok-right.ensures)) ∙ c.loop-number.invariant.1 t,
    )

pub returns-clause-are : goal.returns-clause-are
returns-clause-are c = λ t.
    let ds = c.args.objects.now in
    let hs = c.args.all.now in
    let n = c.loop-number.number in
    let test = c.loop-number-test.false in
    sym (append-nil (sides t c.loop-number.rights.items))
    ∙ ap (λ xs. sides t c.loop-number.rights.items ++ xs) (sym (none_left t n ds (drop n hs) (omega (arith, test)))) ∙ c.loop-number.invariant.1 t
