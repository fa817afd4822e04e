use Rattle.std.proofs.Common.{◌≡◌, ◌∙◌, ◌+◌, ◌≤◌, drop, length, slice_get, Some, true, false, ap, sym, refl, arith}
use Rattle.std.proofs.lemmas.Option.{slice_get_read}
use Rattle.std.proofs.lemmas.List.{drop_all}
use Rattle.go_typed.specs.Funcs.{size, sizes}
use Rattle.go_typed.specs.Places.{covers, innermost_among}
use Rattle.go_typed.specs.Views.{view, views}
use Rattle.go_typed.proofs.Nodes.{innermost_opened}
use Rattle.go_typed.proofs.Walks.{rest, rest_without, room, found, passed}
use Rattle.go_typed.proofs.walk.+innermost.Goals as goal
use Rattle.go_typed.proofs.walk.+innermost.Goals.{in-Some+else-covers, in_default}

pub innermost-requires : goal.innermost-requires
innermost-requires t c =
    let parts = c.deref-part-items.result.now in
    let there : slice_get parts c.loop-part.part-index ≡ Some (Some c.in-Some.part) = slice_get_read parts (length parts) c.loop-part.part-index c.part-item.result refl c.loop-part-test.true c.part-item.is ∙ ap Some c.in-Some.is in
    let r = room c.args.node.now parts c.loop-part.part-index c.loop-part.number c.in-Some.part c.deref-part-items.ensures.value there c.loop-part.invariant.1 in
    (omega (arith, r, c.loop-part.invariant.2, c.decreases), omega (arith, r, c.requires))

pub overflow_add-result : goal.overflow_add-result
overflow_add-result t c =
    let parts = c.deref-part-items.result.now in
    let there : slice_get parts c.loop-part.part-index ≡ Some (Some c.in-Some.part) = slice_get_read parts (length parts) c.loop-part.part-index c.part-item.result refl c.loop-part-test.true c.part-item.is ∙ ap Some c.in-Some.is in
    let r = room c.args.node.now parts c.loop-part.part-index c.loop-part.number c.in-Some.part c.deref-part-items.ensures.value there c.loop-part.invariant.1 in
    omega (arith, r, c.requires, c.innermost.ensures.within)

pub returns-then-covers-clause-number : goal.returns-then-covers-clause-number
returns-then-covers-clause-number t c =
    let parts = c.deref-part-items.result.now in
    let i = c.loop-part.part-index in
    let there : slice_get parts i ≡ Some (Some c.in-Some.part) = slice_get_read parts (length parts) i c.part-item.result refl c.loop-part-test.true c.part-item.is ∙ ap Some c.in-Some.is in
    let over : covers (view c.in-Some.part) c.args.token ≡ true = sym c.covers.ensures ∙ c.if-covers.true in
    ap (λ k. c.loop-part.number + k) c.innermost.ensures.number
    ∙ sym (found c.args.token c.loop-part.number (view c.in-Some.part) (views (drop (i + 1) parts)) over)
    ∙ ap (innermost_among c.args.token c.loop-part.number) (sym (rest parts i c.in-Some.part there))
    ∙ c.loop-part.invariant.0
    ∙ ap (λ ps. innermost_among c.args.token 1 (views ps)) c.deref-part-items.ensures.value
    ∙ sym (innermost_opened c.args.token c.args.node.now)

pub returns-then-covers-clause-within : goal.returns-then-covers-clause-within
returns-then-covers-clause-within t c =
    let parts = c.deref-part-items.result.now in
    let there : slice_get parts c.loop-part.part-index ≡ Some (Some c.in-Some.part) = slice_get_read parts (length parts) c.loop-part.part-index c.part-item.result refl c.loop-part-test.true c.part-item.is ∙ ap Some c.in-Some.is in
    let r = room c.args.node.now parts c.loop-part.part-index c.loop-part.number c.in-Some.part c.deref-part-items.ensures.value there c.loop-part.invariant.1 in
    omega (arith, r, c.innermost.ensures.within)

pub overflow_cast-number : goal.overflow_cast-number
overflow_cast-number t c =
    let parts = c.deref-part-items.result.now in
    let there : slice_get parts c.loop-part.part-index ≡ Some (Some c.in-Some.part) = slice_get_read parts (length parts) c.loop-part.part-index c.part-item.result refl c.loop-part-test.true c.part-item.is ∙ ap Some c.in-Some.is in
    let r = room c.args.node.now parts c.loop-part.part-index c.loop-part.number c.in-Some.part c.deref-part-items.ensures.value there c.loop-part.invariant.1 in
    omega (arith, r, c.requires, c.size.ensures)

pub overflow_add-number : goal.overflow_add-number
overflow_add-number t c =
    let parts = c.deref-part-items.result.now in
    let there : slice_get parts c.loop-part.part-index ≡ Some (Some c.in-Some.part) = slice_get_read parts (length parts) c.loop-part.part-index c.part-item.result refl c.loop-part-test.true c.part-item.is ∙ ap Some c.in-Some.is in
    let r = room c.args.node.now parts c.loop-part.part-index c.loop-part.number c.in-Some.part c.deref-part-items.ensures.value there c.loop-part.invariant.1 in
    omega (arith, r, c.requires, c.size.ensures)

pub loop-part-preserved : goal.loop-part-preserved
loop-part-preserved t c =
    let parts = c.deref-part-items.result.now in
    let i = c.loop-part.part-index in
    let read : slice_get parts i ≡ Some c.part-item.result = slice_get_read parts (length parts) i c.part-item.result refl c.loop-part-test.true c.part-item.is in
    elim c.match-part.branch [
      | in-Some+else-covers w ↦
          let there : slice_get parts i ≡ Some (Some w.in-Some.part) = read ∙ ap Some w.in-Some.is in
          let r = room c.args.node.now parts i c.loop-part.number w.in-Some.part c.deref-part-items.ensures.value there c.loop-part.invariant.1 in
          let next : c.match-part.number ≡ c.loop-part.number + size (view w.in-Some.part) = omega (arith, r, c.requires, w.size.ensures, w.number-is) in
          let aside : covers (view w.in-Some.part) c.args.token ≡ false = sym w.covers.ensures ∙ w.if-covers.false in
          let row = rest parts i w.in-Some.part there in
          let here : sizes (views (drop i parts)) ≡ size (view w.in-Some.part) + sizes (views (drop (i + 1) parts)) = ap sizes row in (
            ap (λ k. innermost_among c.args.token k (views (drop (i + 1) parts))) next
                ∙ sym (passed c.args.token c.loop-part.number (view w.in-Some.part) (views (drop (i + 1) parts)) aside)
                ∙ ap (innermost_among c.args.token c.loop-part.number) (sym row)
                ∙ c.loop-part.invariant.0,
            omega (arith, next, here, c.loop-part.invariant.1),
            omega (arith, next, c.loop-part.invariant.2),
          )
      | in_default w ↦
          let row = rest_without parts i (read ∙ ap Some w.in_default.is) in
          let here : sizes (views (drop i parts)) ≡ sizes (views (drop (i + 1) parts)) = ap sizes row in (
            ap (λ k. innermost_among c.args.token k (views (drop (i + 1) parts))) w.number-is
                ∙ ap (innermost_among c.args.token c.loop-part.number) (sym row)
                ∙ c.loop-part.invariant.0,
            omega (arith, here, w.number-is, c.loop-part.invariant.1),
            omega (arith, w.number-is, c.loop-part.invariant.2),
          )
    ]

pub returns-clause-number : goal.returns-clause-number
returns-clause-number t c =
    let parts = c.deref-part-items.result.now in
    let i = c.loop-part.part-index in
    let ended : length parts ≤ i = omega (arith, c.loop-part-test.false) in
    sym (ap (λ ps. innermost_among c.args.token c.loop-part.number (views ps)) (drop_all i parts ended))
    ∙ c.loop-part.invariant.0
    ∙ ap (λ ps. innermost_among c.args.token 1 (views ps)) c.deref-part-items.ensures.value
    ∙ sym (innermost_opened c.args.token c.args.node.now)
