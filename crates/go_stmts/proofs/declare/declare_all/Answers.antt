use Rattle.std.proofs.Common.{◌≡◌, ◌+◌, ◌<◌, ◌≤◌, None, Some, length, drop, get_or, map, refl, ap, sym, ◌∙◌, arith}
use Rattle.std.proofs.lemmas.List.{drop_all}
use Rattle.std.specs.Option.{option_map}
use Rattle.go_typed.specs.Views.{seen}
use Rattle.go_exprs_rules.proofs.Public.{drop_step, known_at, known_behind}
use Rattle.go_stmts_defs.specs.Frames.{Frame}
use Rattle.go_stmts_defs.specs.Reading.{declares_all}
use Rattle.go_stmts_rules.specs.Seen.{locals_in}
use Rattle.go_stmts.proofs.declare.declare_all.Goals as goal

pub loop-part-preserved-in_default : goal.loop-part-preserved-in_default
loop-part-preserved-in_default c =
    let t = c.args.types.now in
    let f = option_map (seen t) in
    let ps = c.args.parts.now in
    let i = c.loop-part.part-index in
    let d = c.part-item.result in
    let lt : i < length ps = c.loop-part-test.true in
    let is : None ≡ get_or ps i d = sym c.in_default.is ∙ c.part-item.is in
    record {
      left = known_behind (length t.shapes) ps i d lt is c.loop-part.invariant.left;
      known = c.loop-part.invariant.known;
      iota = c.loop-part.invariant.iota;
      declared = λ s e. let now : Frame = record s { locals = locals_in t c.loop-part.locals } in c.loop-part.invariant.declared s e ∙ ap (λ qs. declares_all (map f qs) now) (drop_step ps i None d lt is);
    }

pub loop-part-preserved : goal.loop-part-preserved
loop-part-preserved c =
    let t = c.args.types.now in
    let f = option_map (seen t) in
    let ps = c.args.parts.now in
    let i = c.loop-part.part-index in
    let d = c.part-item.result in
    let n = c.in-Some.name in
    let lt : i < length ps = c.loop-part-test.true in
    let is : Some n ≡ get_or ps i d = sym c.in-Some.is ∙ c.part-item.is in
    record {
      left = (known_at (length t.shapes) ps i n d lt is c.loop-part.invariant.left).1;
      known = c.in_ok-declare_name.ensures.known;
      iota = c.in_ok-declare_name.ensures.iota ∙ c.loop-part.invariant.iota;
      declared = λ s e. let now : Frame = record s { locals = locals_in t c.loop-part.locals } in
          c.loop-part.invariant.declared s e ∙ ap (λ qs. declares_all (map f qs) now) (drop_step ps i (Some n) d lt is) ∙ ap (declares_all (map f (drop (i + 1) ps))) (c.in_ok-declare_name.ensures.locals now refl);
    }

pub returns-clause-locals : goal.returns-clause-locals
returns-clause-locals c s e =
    let t = c.args.types.now in
    let f = option_map (seen t) in
    let ps = c.args.parts.now in
    let i = c.loop-part.part-index in
    let ended : length ps ≤ i = omega (arith, c.loop-part-test.false) in
    let now : Frame = record s { locals = locals_in t c.loop-part.locals } in
    c.loop-part.invariant.declared s e ∙ ap (λ qs. declares_all (map f qs) now) (drop_all i ps ended)
