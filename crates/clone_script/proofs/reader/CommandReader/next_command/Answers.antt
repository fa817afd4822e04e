use Rattle.std.proofs.Common.{ℕ, List, length, Err, ◌≡◌, refl, sym, ap, subst, ◌∙◌, arith}
use Rattle.go_base.specs.Gives.{Unless}
use Rattle.clone_script.specs.declared.error.ScriptError.TheVariants as errors
use Rattle.clone_script.specs.Reading.{Refusal, script_refusal}
use Rattle.clone_script.specs.Commands.{command_at}
use Rattle.clone_script.specs.Grammar.{IsBad, IsBeginning}
use Rattle.clone_script.specs.Sizes.{Wants}
use Rattle.clone_script.proofs.Pending.{short_begins, beginning_at, begun_at, same_refusal, wants_is, begins_behind, error_of, same_error}
use Rattle.clone_script.proofs.reader.CommandReader.next_command.Goals as goal

begins_short : (c : goal.Then-pending-self) → IsBeginning c.args.self.now
begins_short c =
    short_begins c.self.inside.wanted c.args.self.now (subst (λ (z : List ℕ). Wants c.self.inside.wanted z) c.self.view_is c.self.invariant.1)
    (omega (arith, c.if-pending-self.true, ap length c.pending.ensures))

pub returns-then-pending-self-clause-more : goal.returns-then-pending-self-clause-more
returns-then-pending-self-clause-more c _ = begins_short c

pub returns-then-pending-self-clause-exact : goal.returns-then-pending-self-clause-exact
returns-then-pending-self-clause-exact c = beginning_at c.args.self.now (begins_short c)

pub invariant_of-self-in-Err-More : goal.invariant_of-self-in-Err-More
invariant_of-self-in-Err-More c = (
  c.self.invariant.0,
  wants_is c.bytes_wanted-self-inside.result c.pending-in-Err-More.result.now _ (c.pending-in-Err-More.ensures ∙ sym c.self.view_is) c.bytes_wanted-self-inside.ensures.unfinished,
)

pub returns-in-Ok-clause-found : goal.returns-in-Ok-clause-found
returns-in-Ok-clause-found c =
    begins_behind c.self.inside.taken c.in-Ok.length c.pending-2.result.now c.args.self.now c.self.inside.bytes.items c.in-Ok.command c.pending-2.ensures c.self.view_is c.in-Ok.ensures.found

pub returns-in-Ok-clause-exact : goal.returns-in-Ok-clause-exact
returns-in-Ok-clause-exact c = begun_at c.args.self.now c.in-Ok.command _ (returns-in-Ok-clause-found c)

pub returns-in-Err-More-clause-exact : goal.returns-in-Err-More-clause-exact
returns-in-Err-More-clause-exact c =
    beginning_at c.args.self.now (subst IsBeginning c.pending-2.ensures (c.in-Err-More.ensures.more (ap error_of c.in-Err-More.field-0-is)))

pub returns-in-Err : goal.returns-in-Err
returns-in-Err c = record {
  found = tt;
  bad = λ e. subst IsBad c.pending-2.ensures (c.in-Err.ensures.bad (same_error c.in-Err.error errors.Bad e));
  more = λ e. subst IsBeginning c.pending-2.ensures (c.in-Err.ensures.more (same_error c.in-Err.error errors.More e));
  err = refl;
  exact = subst (λ (z : List ℕ). Unless (script_refusal c.in-Err.error) (λ (r : Refusal). command_at z ≡ Err r)) c.pending-2.ensures (same_refusal c.pending-2.result.now c.in-Err.error c.in-Err.ensures.exact);
}
