use Rattle.std.proofs.Common.{◌≡◌, ℕ, ◌+◌, List, ◌∷◌, Some, drop, Vec, Global, ap, sym, subst, ◌∙◌, arith}
use Rattle.go_typed.specs.declared.window.Window.{Window}
use Rattle.go_typed.specs.Trees.{Typeds}
use Rattle.go_typed.specs.Views.{view, views}
use Rattle.clone_window.specs.Masses.{each_mass}
use Rattle.clone_window.specs.Weights.{row_masses, rows}
use Rattle.clone_window.proofs.Walks.{AmongLeft, AlongLeft, views-at, among-call, along-call, among-more, among-skip, along-more, along-skip, take-rest}
use Rattle.clone_window.proofs.Weights.{list-call, other-call, size-part, size-parts}
use Rattle.clone_window.proofs.windows.+windows.Goals as goal
use Rattle.clone_window.proofs.windows.+windows.Goals.{push_windows_among-in-Some+in_ok-next, push_windows_among-in_default, push_windows_along-in-Some+in_ok-push_windows_from+in_ok-next, push_windows_along-in_default}

items : Vec Window Global → List Window
items v = v.items

-- the windows of equal collections
same-items : (v w : Vec Window Global) → v ≡ w → v.items ≡ w.items
unfolding items
same-items v w e = ap items e

pub push_windows_among-loop-part-preserved : goal.push_windows_among-loop-part-preserved
push_windows_among-loop-part-preserved t c =
    let b = c.args.bounds in
    let f = c.args.func in
    let first = c.args.next in
    let parts = c.args.parts.now in
    let table = rows c.args.table.now in
    let i = c.loop-part.part-index in
    let old = c.args.out.now.items in
    let out = c.loop-part.out.items in
    let rest = views (drop (i + 1) parts) in
    let P : Typeds ℕ → Type 0 = λ ps. AmongLeft b f first c.loop-part.next (views parts) ps table old out in
    let here : views (drop i parts) ≡ views (c.part-item.result ∷ drop (i + 1) parts) = views-at parts i c.part-item.result c.loop-part-test.true c.part-item.is in
    elim c.match-part.branch [
      | push_windows_among-in-Some+in_ok-next w ↦
          among-more b f first c.loop-part.next c.match-part.next (views parts) (view w.in-Some.node) rest table old out c.match-part.out.items
          (subst P (here ∙ ap (λ p. views (p ∷ drop (i + 1) parts)) w.in-Some.is) c.loop-part.invariant)
          (w.next-is ∙ w.in_ok-next.ensures.number)
          (same-items c.match-part.out w.push_windows_in.new.out w.out-is ∙ w.in_ok-next.ensures.windows)
      | push_windows_among-in_default w ↦
          let Q : ℕ → Type 0 = λ n. AmongLeft b f first n (views parts) rest table old c.match-part.out.items in
          let R : List Window → Type 0 = λ o. AmongLeft b f first c.loop-part.next (views parts) rest table old o in
          subst Q (sym w.next-is) (subst R (sym (same-items c.match-part.out c.loop-part.out w.out-is))
          (among-skip b f first c.loop-part.next (views parts) rest table old out
          (subst P (here ∙ ap (λ p. views (p ∷ drop (i + 1) parts)) w.in_default.is) c.loop-part.invariant)))
    ]

pub push_windows_along-loop-part-preserved : goal.push_windows_along-loop-part-preserved
push_windows_along-loop-part-preserved t c =
    let b = c.args.bounds in
    let f = c.args.func in
    let list = c.args.list.number in
    let ahead = c.args.list.ahead in
    let first = list + 1 in
    let masses = c.row_at-masses.result.now in
    let parts = c.args.parts.now in
    let table = rows c.args.table.now in
    let i = c.loop-part.part-index in
    let old = c.args.out.now.items in
    let out = c.loop-part.out.items in
    let rest = views (drop (i + 1) parts) in
    let next = c.loop-part.next in
    let index = c.loop-part.index in
    let P : Typeds ℕ → Type 0 = λ ps. AlongLeft b f list ahead first next index (views parts) ps masses table old out in
    let here : views (drop i parts) ≡ views (c.part-item.result ∷ drop (i + 1) parts) = views-at parts i c.part-item.result c.loop-part-test.true c.part-item.is in
    elim c.match-part.branch [
      | push_windows_along-in-Some+in_ok-push_windows_from+in_ok-next w ↦
          let left : AlongLeft b f list ahead first next index (views parts) (views (drop i parts)) masses table old out = c.loop-part.invariant in
          let there : views (drop i parts) ≡ views (Some w.in-Some.node ∷ drop (i + 1) parts) = here ∙ ap (λ p. views (p ∷ drop (i + 1) parts)) w.in-Some.is in
          along-more b f list ahead first next c.match-part.next index c.match-part.index (views parts) (view w.in-Some.node) rest masses table old out w.push_windows_from.new.out.items c.match-part.out.items
          (subst P there c.loop-part.invariant)
          (w.in_ok-push_windows_from.ensures (each_mass (views (Some w.in-Some.node ∷ drop (i + 1) parts))) (take-rest index masses ∙ left.masses_left ∙ ap row_masses there))
          (w.next-is ∙ w.in_ok-next.ensures.number)
          (same-items c.match-part.out w.push_windows_in.new.out w.out-is ∙ w.in_ok-next.ensures.windows)
          w.index-is
      | push_windows_along-in_default w ↦
          let Q : ℕ → Type 0 = λ n. AlongLeft b f list ahead first n c.match-part.index (views parts) rest masses table old c.match-part.out.items in
          let S : ℕ → Type 0 = λ n. AlongLeft b f list ahead first next n (views parts) rest masses table old c.match-part.out.items in
          let R : List Window → Type 0 = λ o. AlongLeft b f list ahead first next index (views parts) rest masses table old o in
          subst Q (sym w.next-is) (subst S (sym w.index-is) (subst R (sym (same-items c.match-part.out c.loop-part.out w.out-is))
          (along-skip b f list ahead first next index (views parts) rest masses table old out
          (subst P (here ∙ ap (λ p. views (p ∷ drop (i + 1) parts)) w.in_default.is) c.loop-part.invariant))))
    ]

pub push_windows_among-push_windows_in-requires : goal.push_windows_among-push_windows_in-requires
push_windows_among-push_windows_in-requires t c =
    let r = among-call c.args.bounds c.args.func c.args.next c.loop-part.next c.loop-part.part-index (views c.args.parts.now) c.args.parts.now c.part-item.result c.in-Some.node (rows c.args.table.now) c.args.out.now.items c.loop-part.out.items
    c.loop-part.invariant c.loop-part-test.true c.part-item.is c.in-Some.is in
    (omega (arith, size-part c.args.parts.now c.loop-part.part-index c.part-item.result c.in-Some.node c.loop-part-test.true c.part-item.is c.in-Some.is, c.decreases), (c.requires.some, r))

pub push_windows_along-push_windows_in-requires : goal.push_windows_along-push_windows_in-requires
push_windows_along-push_windows_in-requires t c =
    let r = along-call c.args.bounds c.args.func c.args.list.number c.args.list.ahead (c.args.list.number + 1) c.loop-part.next c.loop-part.index c.loop-part.part-index (views c.args.parts.now) c.args.parts.now c.part-item.result c.in-Some.node
    c.row_at-masses.result.now (rows c.args.table.now) c.args.out.now.items c.loop-part.out.items c.loop-part.invariant c.loop-part-test.true c.part-item.is c.in-Some.is in
    (omega (arith, size-part c.args.parts.now c.loop-part.part-index c.part-item.result c.in-Some.node c.loop-part-test.true c.part-item.is c.in-Some.is, c.decreases), (c.requires.some, r.0))

pub push_windows_along-overflow_add-index : goal.push_windows_along-overflow_add-index
push_windows_along-overflow_add-index t c =
    let r = along-call c.args.bounds c.args.func c.args.list.number c.args.list.ahead (c.args.list.number + 1) c.loop-part.next c.loop-part.index c.loop-part.part-index (views c.args.parts.now) c.args.parts.now c.part-item.result c.in-Some.node
    c.row_at-masses.result.now (rows c.args.table.now) c.args.out.now.items c.loop-part.out.items c.loop-part.invariant c.loop-part-test.true c.part-item.is c.in-Some.is in
    omega (arith, r.1)

pub push_windows_in-push_windows_along-requires : goal.push_windows_in-push_windows_along-requires
push_windows_in-push_windows_along-requires t c =
    let r = list-call c.args.node.now c.deref.result.now c.args.next (rows c.args.table.now) c.deref.ensures.value (sym c.is_statement_list.ensures ∙ c.if-is_statement_list.true) c.requires.room c.requires.table in
    (omega (arith, size-parts c.args.node.now c.deref.result.now c.deref.ensures.value, c.decreases), (c.requires.some, (r.0, (r.1, r.2))))

pub push_windows_in-push_windows_among-requires : goal.push_windows_in-push_windows_among-requires
push_windows_in-push_windows_among-requires t c =
    let r = other-call c.args.node.now c.deref-else-is_statement_list.result.now c.args.next (rows c.args.table.now) c.deref-else-is_statement_list.ensures.value (sym c.is_statement_list.ensures ∙ c.if-is_statement_list.false) c.requires.room c.requires.table in
    (omega (arith, size-parts c.args.node.now c.deref-else-is_statement_list.result.now c.deref-else-is_statement_list.ensures.value, c.decreases), (c.requires.some, r))
