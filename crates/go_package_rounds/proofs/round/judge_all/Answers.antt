use Rattle.std.proofs.Common.{◌≡◌, ℕ, suc, ◌+◌, ◌<◌, List, [], ◌∷◌, ◌++◌, length, map, drop, refl, ap, sym, subst, ◌∙◌, append-nil, arith}
use Rattle.go_types.specs.Tables.{rights_of}
use Rattle.go_types_relations.proofs.Public.{grows_self, grows_both}
use Rattle.go_package_defs.specs.Knowledge.{State}
use Rattle.go_package_defs.specs.Knowledge as knowledge
use Rattle.go_package_defs.specs.Verdicts.{state_by, next_states}
use Rattle.go_package_rounds.specs.Held.{Summary, all_seen, held_seen, summary, AllHeld}
use Rattle.go_package_rounds.specs.World.{package_in, outlines_in, StandsFor}
use Rattle.go_package_rounds.proofs.Listed.{element, all_append, seen_more, next_end, outlines_length}
use Rattle.go_package_rounds.proofs.Stays.{fits_more, standings_more, stand_more, all_more, all_stay}
use Rattle.go_package_rounds.proofs.round.judge_all.Goals as goal

pub judge-requires-clause-fits : goal.judge-requires-clause-fits
judge-requires-clause-fits c = fits_more c.args.types.now c.loop-number.types c.count.ensures.table c.loop-number.invariant.0.extends c.args.world.now c.requires.fits

pub judge-requires-clause-sound : goal.judge-requires-clause-sound
judge-requires-clause-sound c = standings_more c.args.types.now c.loop-number.types c.count.ensures.table c.loop-number.invariant.0.extends c.args.sound.now c.requires.sound

pub judge-requires-clause-told : goal.judge-requires-clause-told
judge-requires-clause-told c = standings_more c.args.types.now c.loop-number.types c.count.ensures.table c.loop-number.invariant.0.extends c.args.told.now c.requires.told

pub returns-in_err-known-clause-grows : goal.returns-in_err-known-clause-grows
returns-in_err-known-clause-grows c = grows_both c.args.types.now c.loop-number.types c.judge.new.types c.loop-number.invariant.0 c.judge.ensures.grows

pub returns-in_err-push-clause-grows : goal.returns-in_err-push-clause-grows
returns-in_err-push-clause-grows c = grows_both c.args.types.now c.loop-number.types c.judge.new.types c.loop-number.invariant.0 c.judge.ensures.grows

pub loop-number-preserved : goal.loop-number-preserved
loop-number-preserved c =
    let a = c.args.types.now in
    let b = c.loop-number.types in
    let z = c.judge.new.types in
    let w = c.args.world.now in
    let p = package_in w in
    let os = outlines_in w in
    let n = c.loop-number.number in
    let hs = c.loop-number.found.items in
    let h = c.in_ok-known.known in
    let xs = c.args.sound.now in
    let ys = c.args.told.now in
    let ok = c.count.ensures.table in
    let grown = c.loop-number.invariant.0 in
    let later = c.judge.ensures.grows in
    let items : c.push.new.self.items ≡ hs ++ h ∷ [] = c.in_ok-push.ensures.items in (
      grows_both a b z grown later,
      subst (AllHeld (length z.shapes)) (sym items) (all_append (length z.shapes) hs h (all_more b z grown.table later.extends hs c.loop-number.invariant.1) c.in_ok-known.ensures.known),
      λ ss sound told rights.
          let size = outlines_length w in
          let many = ap length c.package_objects-number-end.ensures.objects in
          let test = c.loop-number-test.true in
          let at = element os n (let lt : n < length os = omega (arith, size, many, test) in lt) in
          let o = at.0 in
          let rest = next_states p os ss (suc n) (drop (suc n) os) in
          let shown : held_seen z h ≡ summary (state_by o.specification.entity p os ss n o.specification o.column) =
          c.in_ok-known.ensures.shows ss o (stand_more a b ok grown.extends w knowledge.is_sound xs ss c.requires.sound sound) (stand_more a b ok grown.extends w knowledge.is_told ys ss c.requires.told told) (grown.rights ∙ rights) at.1 in
          let before : all_seen z hs ++ map summary (state_by o.specification.entity p os ss n o.specification o.column ∷ rest) ≡ map summary (next_states p os ss 0 os) =
          ap (λ (x : List Summary). x ++ map summary (state_by o.specification.entity p os ss n o.specification o.column ∷ rest)) (all_stay b z grown.table later.extends hs c.loop-number.invariant.1)
          ∙ ap (λ zs. all_seen b hs ++ map summary (next_states p os ss n zs)) (sym at.2) ∙ c.loop-number.invariant.2 ss sound told rights in
          let next : n + 1 ≡ suc n = omega arith in
          ap (λ gs. all_seen z gs ++ map summary (next_states p os ss (n + 1) (drop (n + 1) os))) items
          ∙ ap (λ m. all_seen z (hs ++ h ∷ []) ++ map summary (next_states p os ss m (drop m os))) next
          ∙ seen_more z hs h (state_by o.specification.entity p os ss n o.specification o.column) rest (map summary (next_states p os ss 0 os)) shown before,
    )

pub returns-clause-shows : goal.returns-clause-shows
returns-clause-shows c = λ ss sound told rights.
    let w = c.args.world.now in
    let size = outlines_length w in
    let many = ap length c.package_objects-number-end.ensures.objects in
    let test = c.loop-number-test.false in
    let hs = c.loop-number.found.items in
    let t = c.loop-number.types in
    sym (append-nil (all_seen t hs))
    ∙ ap (λ zs. all_seen t hs ++ map summary zs) (sym (next_end (package_in w) (outlines_in w) ss c.loop-number.number c.loop-number.number (outlines_in w) (omega (arith, size, many, test))))
    ∙ c.loop-number.invariant.2 ss sound told rights
