use Rattle.std.proofs.Common.{◌≡◌, ◌<◌, ◌^◌, Bool, true, false, None, Some, Option, length, refl, sym, ap, subst, ◌∙◌, arith}
use Rattle.std.specs.Prelude.{slice_set, is_some}
use Rattle.std.proofs.lemmas.List.{length-map}
use Rattle.std.specs.Option.{option_map}
use Rattle.go_types.specs.declared.verdict.Verdict.{Verdict}
use Rattle.go_types.specs.Tables.{Holds, parts}
use Rattle.go_types.specs.Changes.{table_of, IsKept}
use Rattle.go_types.specs.Waiting.{is_known}
use Rattle.go_types.specs.Findings.{IsVisited, Awaits}
use Rattle.go_types.proofs.Places.{get_within, all_of}
use Rattle.go_types.proofs.Carrying.{definition_right}
use Rattle.go_types.proofs.Settling.{declared_within}
use Rattle.go_types.proofs.Keeping.{found_kept}
use Rattle.go_types.proofs.Awakening.{less_stale, stopped, turned, one_less, one_learnt}
use Rattle.go_types.proofs.waking.visit.Goals as goal

known_there : (o : Option Verdict) (b : Bool) → b ≡ is_some o → b ≡ true → Some o ≡ Some None → {A : Type 0} → A
known_there None b e t h = let wrong : true ≡ false = sym t ∙ e in cc
known_there (Some v) b e t h = cc

none_there : (o : Option Verdict) (b : Bool) → b ≡ is_some o → b ≡ false → o ≡ None
none_there None b e f = refl
none_there (Some v) b e f = let wrong : true ≡ false = sym e ∙ f in cc

pub returns-then-is_some-clause-visited : goal.returns-then-is_some-clause-visited
returns-then-is_some-clause-visited c =
    let t = table_of c.args.shapes.now c.args.definitions.now in
    let V = c.args.verdicts.now in
    let W = c.args.waits.now in
    let s = c.requires.stale in
    let waiting = stopped t V W c.args.a c.requires.waiting (λ e. known_there c.known.result c.is_some.result c.is_some.ensures c.if-is_some.true (sym c.known.ensures ∙ e)) in
    subst (λ w. IsVisited t V V w c.args.progress.stale c.saturating_sub.result) (sym c.stop.ensures)
    (one_less V W (slice_set W c.args.a None) t c.args.progress.stale c.saturating_sub.result waiting (less_stale V W c.args.a s.0 None s.1 s.2 refl) c.requires.few c.saturating_sub.ensures)

pub get-requires : goal.get-requires
get-requires c = let place = c.requires.place in let places = c.requires.kept.places in omega arith

pub find_out-requires-clause-parts : goal.find_out-requires-clause-parts
find_out-requires-clause-parts c =
    let place = c.requires.place in
    all_of (λ p. p < c.args.a) (λ p. p < length c.args.verdicts.now) (parts c.get.result.now) (λ p l. omega arith) (c.requires.kept.resolved.table.parts_below c.args.a c.get.result.now c.get.ensures)

pub find_out-requires-clause-declared : goal.find_out-requires-clause-declared
find_out-requires-clause-declared c n e =
    let low = declared_within (table_of c.args.shapes.now c.args.definitions.now) c.requires.kept.resolved.table c.args.a n (c.get.ensures ∙ ap Some e) in
    subst (λ m. n < m) (length-map c.args.definitions.now (option_map (λ d. d.right))) low

pub find_out-requires-clause-rights : goal.find_out-requires-clause-rights
find_out-requires-clause-rights c n d e =
    subst (λ m. d.right < m) (sym c.requires.kept.places)
    (c.requires.kept.resolved.table.right_sides n d.right (definition_right c.args.shapes.now c.args.definitions.now n d e)).0

pub returns-in-Known-clause-kept : goal.returns-in-Known-clause-kept
returns-in-Known-clause-kept c =
    subst (IsKept c.args.shapes.now c.args.definitions.now) (sym c.keep.ensures)
    (found_kept c.args.shapes.now c.args.definitions.now c.args.verdicts.now c.args.a c.get.result.now (Some c.in-Known.verdict) c.requires.kept c.get.ensures (c.in-Known.ensures c.args.shapes.now c.requires.kept.right))

pub returns-in-Known-clause-visited : goal.returns-in-Known-clause-visited
returns-in-Known-clause-visited c =
    let t = table_of c.args.shapes.now c.args.definitions.now in
    let V = c.args.verdicts.now in
    let W = c.args.waits.now in
    let unknown = c.known.ensures ∙ ap Some (none_there c.known.result c.is_some.result c.is_some.ensures c.if-is_some.false) in
    let low = c.len-count.type_inv in
    let size = c.len-count.ensures in
    let short : length W < 2 ^ 64 = omega arith in
    subst (λ v. IsVisited t V v W c.args.progress.stale c.saturating_add.result) (sym c.keep.ensures)
    (one_learnt V W t c.args.a c.in-Known.verdict c.args.progress.stale c.count.result c.saturating_add.result c.requires.waiting unknown c.requires.few c.count.ensures c.saturating_add.ensures short)

pub wait-requires-clause-part : goal.wait-requires-clause-part
wait-requires-clause-part c =
    let awaits = c.in-Waits.ensures c.args.shapes.now c.requires.kept.right in
    let low = get_within c.args.verdicts.now c.in-Waits.part None awaits.unknown in
    let places = c.requires.waiting.places in
    omega arith

pub returns-in-Waits-clause-visited : goal.returns-in-Waits-clause-visited
returns-in-Waits-clause-visited c =
    let t = table_of c.args.shapes.now c.args.definitions.now in
    let V = c.args.verdicts.now in
    let W = c.args.waits.now in
    let s = c.requires.stale in
    let part = c.in-Waits.part in
    let awaits : Awaits t V c.get.result.now part = c.in-Waits.ensures c.args.shapes.now c.requires.kept.right in
    let holds : Holds t c.args.a part = record { its_shape = c.get.result.now; shape_is = c.get.ensures; place = awaits.place; held_is = awaits.held_is } in
    let waiting = turned t V W c.args.a part (get_within W c.args.a (Some s.0) s.1) c.requires.waiting holds in
    subst (λ w. IsVisited t V V w c.args.progress.stale c.saturating_sub-in-Waits.result) (sym c.wait.ensures)
    (one_less V W (slice_set W c.args.a (Some part)) t c.args.progress.stale c.saturating_sub-in-Waits.result waiting (less_stale V W c.args.a s.0 (Some part) s.1 s.2 (ap is_known awaits.unknown)) c.requires.few c.saturating_sub-in-Waits.ensures)

pub returns-in-Open-clause-visited : goal.returns-in-Open-clause-visited
returns-in-Open-clause-visited c =
    let t = table_of c.args.shapes.now c.args.definitions.now in
    let V = c.args.verdicts.now in
    let W = c.args.waits.now in
    let s = c.requires.stale in
    let told = rw c.in-Open.is at (c.find_out.ensures c.args.shapes.now c.requires.kept.right) in
    let waiting = stopped t V W c.args.a c.requires.waiting (λ e. (told.0, c.get.ensures ∙ ap Some told.1, told.2)) in
    subst (λ w. IsVisited t V V w c.args.progress.stale c.saturating_sub-in-Open.result) (sym c.stop-in-Open.ensures)
    (one_less V W (slice_set W c.args.a None) t c.args.progress.stale c.saturating_sub-in-Open.result waiting (less_stale V W c.args.a s.0 None s.1 s.2 refl) c.requires.few c.saturating_sub-in-Open.ensures)
