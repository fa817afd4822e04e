use Rattle.std.proofs.Common.{◌≡◌, ◌+◌, ◌∙◌, true, false, length, drop, sym, ap}
use Rattle.std.specs.Prelude.{◌&&◌, nat_eq}
use Rattle.go_typed.specs.Packages.{have_locals}
use Rattle.go_typed.specs.Views.{sort_view}
use Rattle.go_typed_parts.proofs.Rows.{equal-numbers, length-map, locals-at, other-lengths, other-numbers}
use Rattle.go_typed_parts.proofs.package.have_locals.Goals as goal

pub returns-then-functions : goal.returns-then-functions
returns-then-functions c = other-lengths c.args.functions.now c.args.uses.now.locals (λ e. c.if-functions.true (e ∙ sym c.functions.ensures))

pub returns-then-locals-local_count : goal.returns-then-locals-local_count
returns-then-locals-local_count c =
    let fs = c.args.functions.now in
    let dss = c.args.uses.now.locals in
    let i = c.loop-index.index in
    let f = c.index-functions-index.result in
    let long : length c.locals.result.now ≡ length f.locals = sym (length-map sort_view c.locals.result.now) ∙ ap length c.locals.ensures in
    let other : nat_eq (length f.locals) c.local_count.result ≡ false = other-numbers (length f.locals) c.local_count.result (λ e. c.if-locals-local_count.true (long ∙ e)) in
    sym (
    c.loop-index.invariant
    ∙ locals-at fs dss i c.local_count.result f c.loop-index-test.true (c.if-functions.false ∙ c.functions.ensures) c.index-functions-index.is c.local_count.ensures
    ∙ ap (λ b. b && have_locals (drop (i + 1) fs) (drop (i + 1) dss)) other
    )

pub loop-index-preserved : goal.loop-index-preserved
loop-index-preserved c =
    let fs = c.args.functions.now in
    let dss = c.args.uses.now.locals in
    let i = c.loop-index.index in
    let f = c.index-functions-index.result in
    let long : length c.locals.result.now ≡ length f.locals = sym (length-map sort_view c.locals.result.now) ∙ ap length c.locals.ensures in
    let same : nat_eq (length f.locals) c.local_count.result ≡ true = equal-numbers (length f.locals) c.local_count.result (sym long ∙ c.if-locals-local_count.false) in
    c.loop-index.invariant
    ∙ locals-at fs dss i c.local_count.result f c.loop-index-test.true (c.if-functions.false ∙ c.functions.ensures) c.index-functions-index.is c.local_count.ensures
    ∙ ap (λ b. b && have_locals (drop (i + 1) fs) (drop (i + 1) dss)) same
