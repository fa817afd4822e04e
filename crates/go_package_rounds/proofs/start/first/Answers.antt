use Rattle.std.proofs.Common.{◌≡◌, ℕ, suc, ◌+◌, ◌<◌, List, [], ◌∷◌, ◌++◌, length, map, drop, refl, ap, sym, subst, ◌∙◌, append-nil, arith}
use Rattle.go_package_defs.specs.Verdicts.{first_state, first_states}
use Rattle.go_package_rounds.specs.Held.{all_seen, held_seen, summary, AllHeld}
use Rattle.go_package_rounds.specs.World.{package_in, outlines_in}
use Rattle.go_package_rounds.proofs.Listed.{element, all_append, seen_more, first_end, outlines_length}
use Rattle.go_package_rounds.proofs.start.first.Goals as goal

pub loop-number-preserved : goal.loop-number-preserved
loop-number-preserved c =
    let t = c.args.types.now in
    let w = c.args.world.now in
    let p = package_in w in
    let os = outlines_in w in
    let n = c.loop-number.number in
    let hs = c.loop-number.found.items in
    let h = c.in_ok-known.known in
    let size = outlines_length w in
    let many = ap length c.package_objects-number-end.ensures.objects in
    let test = c.loop-number-test.true in
    let at = element os n (let lt : n < length os = omega (arith, size, many, test) in lt) in
    let o = at.0 in
    let rest = first_states p (suc n) (drop (suc n) os) in
    let items : c.push.new.self.items ≡ hs ++ h ∷ [] = c.in_ok-push.ensures.items in
    let next : n + 1 ≡ suc n = omega arith in (
      subst (AllHeld (length t.shapes)) (sym items) (all_append (length t.shapes) hs h c.loop-number.invariant.0 c.in_ok-known.ensures.known),
      ap (λ gs. all_seen t gs ++ map summary (first_states p (n + 1) (drop (n + 1) os))) items
          ∙ ap (λ m. all_seen t (hs ++ h ∷ []) ++ map summary (first_states p m (drop m os))) next
          ∙ seen_more t hs h (first_state p n o.specification.entity) rest (map summary (first_states p 0 os)) (c.in_ok-known.ensures.shows o at.1)
          (ap (λ zs. all_seen t hs ++ map summary (first_states p n zs)) (sym at.2) ∙ c.loop-number.invariant.1),
    )

pub returns-clause-shows : goal.returns-clause-shows
returns-clause-shows c =
    let w = c.args.world.now in
    let size = outlines_length w in
    let many = ap length c.package_objects-number-end.ensures.objects in
    let test = c.loop-number-test.false in
    let hs = c.loop-number.found.items in
    let t = c.args.types.now in
    sym (append-nil (all_seen t hs))
    ∙ ap (λ zs. all_seen t hs ++ map summary zs) (sym (first_end (package_in w) c.loop-number.number c.loop-number.number (outlines_in w) (omega (arith, size, many, test))))
    ∙ c.loop-number.invariant.1
