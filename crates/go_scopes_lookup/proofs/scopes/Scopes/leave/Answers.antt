use Rattle.std.proofs.Common.{◌≡◌, ◌<◌, ◌-◌, ◌∙◌, suc, ap, sym, length, None, true, subst, arith}
use Rattle.std.specs.Prelude.{slice_get}
use Rattle.std.specs.Vec.{vec_len}
use Rattle.go_scopes_lookup.specs.Stacks.{said, ended_by, AreParted, ArePartedBy}
use Rattle.go_scopes_lookup.proofs.Stacks.{said_left, ends_take, ended_there}
use Rattle.go_scopes_lookup.proofs.scopes.Scopes.leave.Goals as goal

pub loop-self-preserved-in-loop-self : goal.loop-self-preserved-in-loop-self
loop-self-preserved-in-loop-self c =
    let bs = c.loop-self.self.blocks.items in
    let i = vec_len c.loop-self.self.blocks - 1 in
    let ends : ended_by c.args.token (slice_get bs (length bs - 1)) ≡ true = sym c.has_ended.ensures ∙ c.loop-self-test.true in
    let some : 0 < length bs = ended_there c.args.token bs (length bs - 1) ends in
    let last : suc i ≡ length bs = omega (arith, some) in
    let ended : ended_by c.args.token (slice_get bs i) ≡ true = subst (λ n. ended_by c.args.token (slice_get bs n) ≡ true) (omega (arith, last)) ends in
    record {
      says = λ t w le. ap (λ xs. said xs t w) c.pop.ensures.rest ∙ said_left c.args.token t w bs i None last ended le ∙ c.loop-self.invariant.says t w le;
      parted = λ ms h. subst (λ xs. AreParted xs ms) (sym c.pop.ensures.rest) (ends_take (ArePartedBy ms) bs i (c.loop-self.invariant.parted ms h));
    }
