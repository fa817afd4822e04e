use Rattle.std.proofs.Common.{◌≡◌, length, map, refl, ap, sym, subst, ◌∙◌}
use Rattle.std.proofs.lemmas.List.{length-map}
use Rattle.std.specs.Option.{option_map}
use Rattle.go_tree.specs.Views.{view}
use Rattle.go_typed.specs.Views.{seen}
use Rattle.go_stmts_defs.specs.Frames.{Frame, with_iota}
use Rattle.go_stmts.specs.declared.state.State.{State}
use Rattle.go_stmts.specs.State.{Shows}
use Rattle.go_stmts.proofs.Showing.{shows_iota, shows_with_iota}
use Rattle.go_stmts.proofs.entering.enter_constants.Goals as goal

pub returns-clause-frame : goal.returns-clause-frame
returns-clause-frame c = λ o x rs s has.
    let t = c.args.types.now in
    let f = option_map (seen t) in
    let n = c.in_ok-iota.iota in
    let k : State = record (c.args.state.now) { source = c.source_kept-state.result } in
    let u : Frame = record s { source = option_map (λ m. view m.now) c.source_kept-state.result } in
    let there : Shows t o k x rs u = record {
      names = has.names;
      locals = has.locals;
      source = refl;
      tag = has.tag;
      results = has.results;
      types = has.types;
    } in
    let count : n ≡ length (map f c.args.parts.now) = c.in_ok-iota.ensures ∙ sym (length-map c.args.parts.now f) in
    let counted = shows_with_iota t o k x rs n c.set_iota.new.self c.set_iota.ensures (with_iota n u) (shows_iota t o k x rs u there n) in
    subst (Shows t o (record k { locals = c.set_iota.new.self }) x rs) (ap (λ m. with_iota m u) count ∙ ap (with_iota (length (map f c.args.parts.now))) (sym (c.source_kept-state.ensures.frame s has.source))) counted
