use Rattle.std.proofs.Common.{rules, ◌≡◌, ◌<◌, ◌≤◌, ◌+◌, ◌∷◌, ◌++◌, [], Some, None, length, drop, map, slice_get, refl, ap, sym, subst, ◌∙◌, arith}
use Rattle.std.proofs.lemmas.List.{map-append, drop_all}
use Rattle.std.proofs.lemmas.Option.{slice_get_read}
use Rattle.std.specs.Option.{option_map}
use Rattle.go_tree.specs.Views.{view, views}
use Rattle.go_tree.proofs.Public.{height, heights, height-part}
use Rattle.go_types_relations.proofs.Public.{extends_self, extends_both}
use Rattle.go_typed.specs.Views.{seen, AllKnown}
use Rattle.go_exprs_rules.specs.Faults.{judged, reported}
use Rattle.go_exprs_rules.specs.Hints.{hint_seen}
use Rattle.go_exprs_engine.proofs.Public.{known_append, drop_step, hint_stays, parts_stay, parts_known, read_at}
use Rattle.go_stmts_defs.specs.Laying as laying
use Rattle.go_stmts_defs.specs.Reading.{Reading, beginning, entering, left_out, left_out_faults, all_read, closed, reading, readings}
use Rattle.go_stmts.specs.Signatures.{results_or}
use Rattle.go_stmts.specs.State.{text_of, Shows, KnownState}
use Rattle.go_stmts.proofs.Showing.{state_known, shows_stays, outer_known}
use Rattle.go_stmts.specs.Walks.{found_in, parts_in, found_in_all, frame_behind, ShowsReading, IsReading}
use Rattle.go_stmts.proofs.WalkAnswers.{always, parts_failed, error_by, fault_read, fault_given}
use Rattle.go_stmts.proofs.Closing.{before_is}
use Rattle.go_stmts.proofs.Readings.{row_is, statement_reading, node_fails}
use Rattle.go_stmts.proofs.Steps.{Reaches, part_read, part_fails, gap_read, gap_fails}
use Rattle.go_stmts.proofs.statements.+walking.Goals as goal

pub walk-returns-then-not-is_statement-clause-known : goal.walk-returns-then-not-is_statement-clause-known
walk-returns-then-not-is_statement-clause-known t c =
    always c.hold_part.result (state_known c.args.types.now c.hold_part.new.types c.count.ensures.table c.hold_part.ensures.grows.extends c.args.surroundings.now c.args.state.now c.args.enclosing.tag.now c.args.enclosing.results.now c.requires.known)

pub walk-returns-in_err-row-clause-exact : goal.walk-returns-in_err-row-clause-exact
walk-returns-in_err-row-clause-exact t c = λ s has.
    let a = c.args.types.now in
    let m = c.walk_parts.new.types in
    let o = c.args.surroundings.now in
    let x = c.args.enclosing.tag.now in
    let rs = c.args.enclosing.results.now in
    let h = hint_seen a c.args.hint in
    let n = view c.args.node.now in
    let k = c.kind-kind.result in
    let i = c.first.result in
    let j = c.last.result in
    let ps = views c.parts-parts.result.now in
    let all = readings (beginning k i s) k h ps [] [] ps in
    let is = statement_reading s h n k i j ps c.kind-kind.ensures c.first.ensures c.last.ensures c.parts-parts.ensures (sym c.is_statement.ensures ∙ c.if-not-is_statement.false) in
    parts_failed m o c.walk_parts.new.state x rs c.walk_parts.new.state rs c.in_err-row.field-0.0 c.from_residual-in_err-row.result all (reading s h n)
    (λ f e. ap (λ (r : Reading). reported (found_in r)) is ∙ node_fails s k i j ps all f e) (c.in_err-row.ensures.exact (beginning k i s) (c.in_ok-begin.ensures.frame x rs s has)) (search rules)

pub walk-returns-clause-exact : goal.walk-returns-clause-exact
walk-returns-clause-exact t c = λ s has.
    let a = c.args.types.now in
    let m = c.walk_parts.new.types in
    let b = c.finish.new.types in
    let o = c.args.surroundings.now in
    let x = c.args.enclosing.tag.now in
    let rs = c.args.enclosing.results.now in
    let h = hint_seen a c.args.hint in
    let n = view c.args.node.now in
    let k = c.kind-kind.result in
    let i = c.first.result in
    let j = c.last.result in
    let ps = views c.parts-parts.result.now in
    let all = readings (beginning k i s) k h ps [] [] ps in
    let is = statement_reading s h n k i j ps c.kind-kind.ensures c.first.ensures c.last.ensures c.parts-parts.ensures (sym c.is_statement.ensures ∙ c.if-not-is_statement.false) in
    let w = c.in_ok-row.ensures.exact (beginning k i s) (c.in_ok-begin.ensures.frame x rs s has) in
    let before = before_is a m c.count.ensures.table c.in_ok-row.ensures.extends o c.args.state.now x rs s c.requires.known has c.iota-iota.result c.iota-iota.ensures in
    let row = ap (λ xs. all_read xs (found_in_all all) (frame_behind all)) w.parts ∙ sym (row_is all) in
    subst (IsReading b o c.finish.new.state x rs c.finish.result) (ap (closed s k i j ps) row ∙ sym is) (c.finish.ensures.exact s (frame_behind all) (found_in_all all) before w.behind w.sound)

pub walk_parts-loop-place-init : goal.walk_parts-loop-place-init
walk_parts-loop-place-init t c =
    let a = c.args.types.now in
    let o = c.args.surroundings.now in
    let k = c.args.state.now in
    let rs = c.args.enclosing.results.now in
    let h = hint_seen a c.args.hint in
    let ps = views c.args.written.now in
    let f = option_map (seen a) in record {
      extends = extends_self a;
      known = subst (λ y. KnownState a o k y rs) (sym c.in_ok-tag.ensures) c.requires.known;
      parts = subst (AllKnown (length a.shapes)) (sym c.in_ok-parts.ensures.items) tt;
      reads = λ s has. record {
        frame = s;
        faults = [];
        sound = refl;
        shows = subst (λ y. Shows a o k y rs s) (sym c.in_ok-tag.ensures) has;
        reads = ap (λ ns. readings s c.args.kind h ps (map f ns) [] ps) c.in_ok-parts.ensures.items;
      };
    }

pub walk_parts-returns-clause-exact : goal.walk_parts-returns-clause-exact
walk_parts-returns-clause-exact t c = λ s has.
    let a = c.args.types.now in
    let b = c.loop-place.types in
    let o = c.args.surroundings.now in
    let rs = c.args.enclosing.results.now in
    let h = hint_seen a c.args.hint in
    let k = c.args.kind in
    let ps = views c.args.written.now in
    let xs = map (option_map (seen b)) c.loop-place.parts.items in
    let i = c.loop-place.place-index in
    let ended : length c.args.written.now ≤ i = omega (arith, c.loop-place-test.false) in
    let now = c.loop-place.invariant.reads s has in
    let e : all_read xs now.faults now.frame ≡ readings s k h ps [] [] ps = sym (ap (λ ns. readings now.frame k h ps xs now.faults (views ns)) (drop_all i c.args.written.now ended)) ∙ now.reads in
    record {
      sound = ap (λ r. reported (found_in_all r)) (sym e) ∙ now.sound;
      parts = ap parts_in e;
      behind = subst (λ r. Shows b o c.loop-place.state c.loop-place.tag (results_or c.loop-place.results rs) (frame_behind r)) e now.shows;
    }

pub walk_parts-returns-clause-outer : goal.walk_parts-returns-clause-outer
walk_parts-returns-clause-outer t c =
    let rs = c.args.enclosing.results.now in
    outer_known c.args.types.now c.loop-place.types c.count.ensures.table c.loop-place.invariant.extends c.args.surroundings.now c.args.state.now c.loop-place.state c.args.enclosing.tag.now c.loop-place.tag rs (results_or c.loop-place.results rs) c.requires.known c.loop-place.invariant.known

-- ---- one more part

pub walk_parts-left_out-requires-clause-surroundings : goal.walk_parts-left_out-requires-clause-surroundings
walk_parts-left_out-requires-clause-surroundings t c = (c.in_ok-enter.ensures.known c.args.surroundings.now c.args.enclosing.results.now c.loop-place.invariant.known).around

pub walk_parts-left_out-requires-clause-locals : goal.walk_parts-left_out-requires-clause-locals
walk_parts-left_out-requires-clause-locals t c = (c.in_ok-enter.ensures.known c.args.surroundings.now c.args.enclosing.results.now c.loop-place.invariant.known).locals

pub walk_parts-left_out-requires-clause-source : goal.walk_parts-left_out-requires-clause-source
walk_parts-left_out-requires-clause-source t c = (c.in_ok-enter.ensures.known c.args.surroundings.now c.args.enclosing.results.now c.loop-place.invariant.known).source

pub walk_parts-returns-in_err-left_out-clause-extends : goal.walk_parts-returns-in_err-left_out-clause-extends
walk_parts-returns-in_err-left_out-clause-extends t c = extends_both c.args.types.now c.loop-place.types c.left_out.new.types c.loop-place.invariant.extends c.left_out.ensures.grows.extends

pub walk_parts-returns-in_err-push-clause-extends : goal.walk_parts-returns-in_err-push-clause-extends
walk_parts-returns-in_err-push-clause-extends t c = extends_both c.args.types.now c.loop-place.types c.left_out.new.types c.loop-place.invariant.extends c.left_out.ensures.grows.extends

pub walk_parts-returns-in_err-left_out-clause-exact : goal.walk_parts-returns-in_err-left_out-clause-exact
walk_parts-returns-in_err-left_out-clause-exact t c = λ s has.
    let b = c.loop-place.types in
    let d = c.left_out.new.types in
    let o = c.args.surroundings.now in
    let rs = c.args.enclosing.results.now in
    let h = hint_seen c.args.types.now c.args.hint in
    let k = c.args.kind in
    let row = c.args.written.now in
    let ps = views row in
    let i = c.loop-place.place-index in
    let xs = map (option_map (seen b)) c.loop-place.parts.items in
    let k1 = c.loop-place.state in
    let k2 = c.enter.new.state in
    let x1 = c.loop-place.tag in
    let x2 = c.enter.new.tag in
    let r1 = results_or c.loop-place.results rs in
    let r2 = results_or c.enter.new.results rs in
    let due = readings s k h ps [] [] ps in
    let lt : i < length row = c.loop-place-test.true in
    let reach = subst (λ qs. Reaches b o k1 x1 r1 k h ps xs (views qs) due) (drop_step row i None c.place-item.result lt (sym c.in_default.is ∙ c.place-item.is)) (c.loop-place.invariant.reads s has) in
    error_by d o k2 rs due c.in_err-left_out.field-0.0 c.from_residual-in_err-left_out.result
    (λ f is. gap_fails o k h ps due b k1 k2 x1 x2 r1 r2 xs (λ u sh. subst (λ ms. Shows b o k2 x2 r2 (entering k (map (option_map (seen b)) ms) u)) c.deref.ensures.value (c.in_ok-enter.ensures.frame o rs u sh)) (views (drop (i + 1) row)) f reach
    (λ u sh. fault_given (option_map (seen d)) c.in_err-left_out.field-0.0 f (judged (reported (left_out_faults u k)) (left_out u k)) is (c.in_err-left_out.ensures.exact x2 r2 u sh)))
    (search rules)

pub walk_parts-loop-place-preserved-in_default : goal.walk_parts-loop-place-preserved-in_default
walk_parts-loop-place-preserved-in_default t c =
    let b = c.loop-place.types in
    let d = c.left_out.new.types in
    let ok = c.count-in-loop-place.ensures.table in
    let e = c.left_out.ensures.grows.extends in
    let o = c.args.surroundings.now in
    let rs = c.args.enclosing.results.now in
    let h = hint_seen c.args.types.now c.args.hint in
    let k = c.args.kind in
    let row = c.args.written.now in
    let ps = views row in
    let i = c.loop-place.place-index in
    let f = option_map (seen d) in
    let ns = c.loop-place.parts.items in
    let m = c.in_ok-left_out.field-0 in
    let xs = map (option_map (seen b)) ns in
    let k1 = c.loop-place.state in
    let k2 = c.enter.new.state in
    let x1 = c.loop-place.tag in
    let x2 = c.enter.new.tag in
    let r1 = results_or c.loop-place.results rs in
    let r2 = results_or c.enter.new.results rs in
    let lt : i < length row = c.loop-place-test.true in
    let entered = c.in_ok-enter.ensures.known o rs c.loop-place.invariant.known in record {
      extends = extends_both c.args.types.now b d c.loop-place.invariant.extends e;
      known = state_known b d ok e o k2 x2 r2 entered;
      parts = subst (AllKnown (length d.shapes)) (sym c.in_ok-push.ensures.items) (known_append (length d.shapes) ns (m ∷ []) (parts_known b d ok e ns c.loop-place.invariant.parts) c.in_ok-left_out.ensures.known);
      reads = λ s has.
          let due = readings s k h ps [] [] ps in
          let reach = subst (λ qs. Reaches b o k1 x1 r1 k h ps xs (views qs) due) (drop_step row i None c.place-item.result lt (sym c.in_default.is ∙ c.place-item.is)) (c.loop-place.invariant.reads s has) in
          gap_read o k h ps due b k1 k2 x1 x2 r1 r2 xs (λ u sh. subst (λ ms. Shows b o k2 x2 r2 (entering k (map (option_map (seen b)) ms) u)) c.deref.ensures.value (c.in_ok-enter.ensures.frame o rs u sh)) d (views (drop (i + 1) row)) m (map f c.push.new.self.items) reach
          (λ u sh. c.in_ok-left_out.ensures.exact x2 r2 u sh)
          (λ u sh. shows_stays b d ok e o k2 x2 r2 c.left_out.ensures.grows.rights entered u sh)
          (ap (map f) c.in_ok-push.ensures.items ∙ map-append f ns (m ∷ []) ∙ ap (λ ys. ys ++ f m ∷ []) (parts_stay b d ok e ns c.loop-place.invariant.parts));
    }

pub walk_parts-walk-requires : goal.walk_parts-walk-requires
walk_parts-walk-requires t c =
    let b = c.loop-place.types in
    let o = c.args.surroundings.now in
    let rs = c.args.enclosing.results.now in
    let row = c.args.written.now in
    let i = c.loop-place.place-index in
    let there : slice_get row i ≡ Some (Some c.in-Some.node) = slice_get_read row (length row) i c.place-item.result refl c.loop-place-test.true c.place-item.is ∙ ap Some c.in-Some.is in
    let low : height (view c.in-Some.node) < heights (views row) = height-part row i c.in-Some.node there in
    (omega (arith, low, c.decreases), (subst (KnownState b o c.enter.new.state c.enter.new.tag) (sym c.results_or.ensures) (c.in_ok-enter.ensures.known o rs c.loop-place.invariant.known), (c.told-told.ensures.known, read_at (text_of o) row i c.in-Some.node there c.requires.literals)))

pub walk_parts-returns-in_err-part-clause-extends : goal.walk_parts-returns-in_err-part-clause-extends
walk_parts-returns-in_err-part-clause-extends t c = extends_both c.args.types.now c.loop-place.types c.walk.new.types c.loop-place.invariant.extends c.walk.ensures.extends

pub walk_parts-returns-in_err-push-2-clause-extends : goal.walk_parts-returns-in_err-push-2-clause-extends
walk_parts-returns-in_err-push-2-clause-extends t c = extends_both c.args.types.now c.loop-place.types c.walk.new.types c.loop-place.invariant.extends c.walk.ensures.extends

pub walk_parts-returns-in_err-part-clause-exact : goal.walk_parts-returns-in_err-part-clause-exact
walk_parts-returns-in_err-part-clause-exact t c = λ s has.
    let a = c.args.types.now in
    let b = c.loop-place.types in
    let d = c.walk.new.types in
    let o = c.args.surroundings.now in
    let rs = c.args.enclosing.results.now in
    let h = hint_seen a c.args.hint in
    let k = c.args.kind in
    let row = c.args.written.now in
    let ps = views row in
    let i = c.loop-place.place-index in
    let p = view c.in-Some.node in
    let xs = map (option_map (seen b)) c.loop-place.parts.items in
    let k1 = c.loop-place.state in
    let k2 = c.enter.new.state in
    let k3 = c.walk.new.state in
    let x1 = c.loop-place.tag in
    let x2 = c.enter.new.tag in
    let r1 = results_or c.loop-place.results rs in
    let r2 = results_or c.enter.new.results rs in
    let err = c.in_err-part.field-0.0 in
    let due = readings s k h ps [] [] ps in
    let lt : i < length row = c.loop-place-test.true in
    let told = c.told-told.ensures.tree
    ∙ ap (λ ns. laying.told k (hint_seen b c.args.hint) ps (map (option_map (seen b)) ns) c.kind.result) c.deref-in-loop-place.ensures.value
    ∙ ap (λ z. laying.told k z ps xs c.kind.result) (hint_stays a b c.count.ensures.table c.loop-place.invariant.extends c.args.hint c.requires.hint)
    ∙ ap (laying.told k h ps xs) c.kind.ensures in
    let reach = subst (λ qs. Reaches b o k1 x1 r1 k h ps xs (views qs) due) (drop_step row i (Some c.in-Some.node) c.place-item.result lt (sym c.in-Some.is ∙ c.place-item.is)) (c.loop-place.invariant.reads s has) in
    error_by d o k3 rs due err c.from_residual-in_err-part.result
    (λ f is. part_fails o k h ps due b k1 k2 x1 x2 r1 r2 xs (λ u sh. subst (λ ms. Shows b o k2 x2 r2 (entering k (map (option_map (seen b)) ms) u)) c.deref.ensures.value (c.in_ok-enter.ensures.frame o rs u sh)) p (views (drop (i + 1) row)) f reach
    (λ u sh. ap (λ z. reported (found_in (reading u z p))) (sym told) ∙ fault_read d o k3 x2 c.results_or.result.now err f (reading u (hint_seen b c.told-told.result) p) is
    (c.in_err-part.ensures.exact u (subst (λ r. Shows b o k2 x2 r u) (sym c.results_or.ensures) sh))))
    (search rules)

pub walk_parts-loop-place-preserved : goal.walk_parts-loop-place-preserved
walk_parts-loop-place-preserved t c =
    let a = c.args.types.now in
    let b = c.loop-place.types in
    let d = c.walk.new.types in
    let ok = c.count-in-loop-place.ensures.table in
    let e = c.walk.ensures.extends in
    let o = c.args.surroundings.now in
    let rs = c.args.enclosing.results.now in
    let h = hint_seen a c.args.hint in
    let k = c.args.kind in
    let row = c.args.written.now in
    let ps = views row in
    let i = c.loop-place.place-index in
    let n = c.in-Some.node in
    let p = view n in
    let y = c.in_ok-part.part in
    let f = option_map (seen d) in
    let ns = c.loop-place.parts.items in
    let xs = map (option_map (seen b)) ns in
    let k1 = c.loop-place.state in
    let k2 = c.enter.new.state in
    let k3 = c.walk.new.state in
    let x1 = c.loop-place.tag in
    let x2 = c.enter.new.tag in
    let r1 = results_or c.loop-place.results rs in
    let r2 = results_or c.enter.new.results rs in
    let lt : i < length row = c.loop-place-test.true in
    let told = c.told-told.ensures.tree
    ∙ ap (λ ms. laying.told k (hint_seen b c.args.hint) ps (map (option_map (seen b)) ms) c.kind.result) c.deref-in-loop-place.ensures.value
    ∙ ap (λ z. laying.told k z ps xs c.kind.result) (hint_stays a b c.count.ensures.table c.loop-place.invariant.extends c.args.hint c.requires.hint)
    ∙ ap (laying.told k h ps xs) c.kind.ensures in
    let entered = c.in_ok-enter.ensures.known o rs c.loop-place.invariant.known in record {
      extends = extends_both a b d c.loop-place.invariant.extends e;
      known = subst (KnownState d o k3 x2) c.results_or.ensures c.in_ok-part.ensures.known;
      parts = subst (AllKnown (length d.shapes)) (sym c.in_ok-push-2.ensures.items) (known_append (length d.shapes) ns (Some y ∷ []) (parts_known b d ok e ns c.loop-place.invariant.parts) (c.in_ok-part.ensures.node, tt));
      reads = λ s has.
          let due = readings s k h ps [] [] ps in
          let reach = subst (λ qs. Reaches b o k1 x1 r1 k h ps xs (views qs) due) (drop_step row i (Some n) c.place-item.result lt (sym c.in-Some.is ∙ c.place-item.is)) (c.loop-place.invariant.reads s has) in
          part_read o k h ps due b k1 k2 x1 x2 r1 r2 xs (λ u sh. subst (λ ms. Shows b o k2 x2 r2 (entering k (map (option_map (seen b)) ms) u)) c.deref.ensures.value (c.in_ok-enter.ensures.frame o rs u sh)) d k3 p (views (drop (i + 1) row)) y (map f c.push-in-loop-place.new.self.items) reach
          (λ u sh. subst (λ z. ShowsReading d o k3 x2 r2 y (reading u z p)) told (subst (λ r. ShowsReading d o k3 x2 r y (reading u (hint_seen b c.told-told.result) p)) c.results_or.ensures
          (c.in_ok-part.ensures.exact u (subst (λ r. Shows b o k2 x2 r u) (sym c.results_or.ensures) sh))))
          (ap (map f) c.in_ok-push-2.ensures.items ∙ map-append f ns (Some y ∷ []) ∙ ap (λ ys. ys ++ Some (seen d y) ∷ []) (parts_stay b d ok e ns c.loop-place.invariant.parts));
    }
