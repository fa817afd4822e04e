use Rattle.std.proofs.Common.{◌≡◌, ◌<◌, ◌≤◌, true, false, length, sym, subst, ◌∙◌, arith}
use Rattle.go_package.proofs.RightSides.{There, count_more, count_same, there_more, defined_end}
use Rattle.go_package.proofs.defined.defined_types.Goals as goal
use Rattle.go_package.proofs.defined.defined_types.Goals.{then-is_declared+else-is_open, else-is_declared}

pub loop-number-preserved : goal.loop-number-preserved
loop-number-preserved c =
    let t = c.args.types.now in
    let ok = c.count-number-end.ensures.table in
    let k = c.loop-number.number in
    let n = c.loop-number.count in
    let inv = c.loop-number.invariant in
    let few = inv.few in
    let lt : k < length t.shapes = omega (arith, c.loop-number-test.true, c.loop-number.auto.number-end, c.count-number-end.ensures.count) in
    elim c.if-is_declared.branch [
      | then-is_declared+else-is_open w ↦ (let truly = sym w.if-is_declared.true ∙ c.is_declared.ensures in let is = w.count-is in record {
        few = omega (arith, is, few);
        counted = is ∙ count_more t ok k lt truly n inv.counted;
        there = subst (There t.rights) (sym is) (there_more t ok k lt truly (λ h. let e : false ≡ true = sym w.if-is_open.false ∙ w.is_open.ensures.1 h in cc) n inv.counted inv.there);
      })
      | else-is_declared w ↦ (let never = sym w.if-is_declared.false ∙ c.is_declared.ensures in let is = w.count-is in record {
        few = omega (arith, is, few);
        counted = is ∙ count_same t ok k lt never n inv.counted;
        there = subst (There t.rights) (sym is) inv.there;
      })
    ]

pub returns : goal.returns
returns c =
    let t = c.args.types.now in
    let inv = c.loop-number.invariant in
    let ended : length t.shapes ≤ c.loop-number.number = omega (arith, c.loop-number-test.false, c.loop-number.auto.number-end, c.count-number-end.ensures.count) in
    defined_end t c.count-number-end.ensures.table c.loop-number.number c.loop-number.count ended inv.counted inv.there
