use Rattle.std.proofs.Common.{◌≡◌, ℕ, Option, IfOk, map, sym, subst}
use Rattle.std.specs.Option.{option_map}
use Rattle.go_typed.specs.Views.{seen}
use Rattle.go_exprs_types.specs.Naming.{locals_seen}
use Rattle.go_stmts_defs.specs.Frames.{Frame}
use Rattle.go_stmts_defs.specs.Laying.{layout}
use Rattle.go_stmts.proofs.held_nodes.list_parts.Goals as goal

pub returns-in-NewNames-clause-parts : goal.returns-in-NewNames-clause-parts
returns-in-NewNames-clause-parts c =
    let f = option_map (seen c.args.types.now) in
    subst (λ k. IfOk c.layout.result (λ ps. (s : Frame) (i : ℕ) → s.locals ≡ locals_seen c.args.types.now c.args.locals.now.sorts → map f ps.items ≡ layout s k i (map f c.args.parts.items))) (sym c.in-NewNames.is) c.layout.ensures.parts

pub returns-in-Targets-clause-parts : goal.returns-in-Targets-clause-parts
returns-in-Targets-clause-parts c =
    let f = option_map (seen c.args.types.now) in
    subst (λ k. IfOk c.layout-in-Targets.result (λ ps. (s : Frame) (i : ℕ) → s.locals ≡ locals_seen c.args.types.now c.args.locals.now.sorts → map f ps.items ≡ layout s k i (map f c.args.parts.items))) (sym c.in-Targets.is) c.layout-in-Targets.ensures.parts

pub returns-in-TypedValues-clause-parts : goal.returns-in-TypedValues-clause-parts
returns-in-TypedValues-clause-parts c =
    let f = option_map (seen c.args.types.now) in
    subst (λ k. IfOk c.layout-in-TypedValues.result (λ ps. (s : Frame) (i : ℕ) → s.locals ≡ locals_seen c.args.types.now c.args.locals.now.sorts → map f ps.items ≡ layout s k i (map f c.args.parts.items))) (sym c.in-TypedValues.is) c.layout-in-TypedValues.ensures.parts

pub returns-in-Values-clause-parts : goal.returns-in-Values-clause-parts
returns-in-Values-clause-parts c =
    let f = option_map (seen c.args.types.now) in
    subst (λ k. IfOk c.layout-in-Values.result (λ ps. (s : Frame) (i : ℕ) → s.locals ≡ locals_seen c.args.types.now c.args.locals.now.sorts → map f ps.items ≡ layout s k i (map f c.args.parts.items))) (sym c.in-Values.is) c.layout-in-Values.ensures.parts
