use Rattle.std.proofs.Common.{◌≡◌, ◌+◌, ◌∷◌, ◌++◌, ◌∙◌, ◌&&◌, ℕ, true, drop, map, ap, sym, arith}
use Rattle.std.specs.HashSet as set
use Rattle.go_scopes_lookup.specs.Tables.{same_spot}
use Rattle.go_scopes_lookup.specs.Views.{asked_view}
use Rattle.go_needs.specs.Calls.{call_of, with_call, calls_of, fits_one, fits}
use Rattle.go_needs.specs.Owners.{has_source}
use Rattle.go_needs.proofs.Lists.{drop-next}
use Rattle.go_needs.proofs.Listed.{more_some, more_none}
use Rattle.go_needs.proofs.calls.calls_of.Goals as goal
use Rattle.go_needs.proofs.calls.calls_of.Goals.{in-Some+in_ok-push, in_default}

pub loop-a-preserved : goal.loop-a-preserved
loop-a-preserved c =
    let u = c.args.uses.now in
    let os = c.args.owners.now in
    let all = c.args.all.now in
    let xs = c.args.lookups.now in
    let i = c.loop-a.a-index in
    let a = c.a-item.result in
    let rest = map asked_view (drop (i + 1) xs) in
    let out = c.loop-a.calls.items in
    let sources : (n s : ℕ) → set.contains same_spot c.in_ok-sources.sources (n, s) ≡ has_source all n s = c.in_ok-sources.ensures in
    let r = c.in_ok-call.field-0 in
    let call : r ≡ call_of u all (asked_view a) = c.in_ok-call.ensures.call all sources in
    let fit : fits_one u os all (asked_view a) ≡ true = c.in_ok-call.ensures.fits all sources in
    let back : drop i xs ≡ a ∷ drop (i + 1) xs = drop-next xs i a (omega (arith, c.loop-a-test.true)) c.a-item.is in
    let more : c.match-branch-3.calls.items ++ calls_of u all rest ≡ out ++ with_call r (calls_of u all rest) = elim c.match-branch-3.branch [
      | in-Some+in_ok-push w ↦ more_some r _ out c.match-branch-3.calls.items (calls_of u all rest) (ap (λ v. v.items) w.calls-is ∙ w.in_ok-push.ensures.items) w.in-Some.is
      | in_default w ↦ more_none r out c.match-branch-3.calls.items (calls_of u all rest) (ap (λ v. v.items) w.calls-is) w.in_default.is
    ] in
    record {
      calls = more ∙ (ap (λ o. out ++ with_call o (calls_of u all rest)) call ∙ (sym (ap (λ l. out ++ calls_of u all (map asked_view l)) back) ∙ c.loop-a.invariant.calls));
      fits = sym (ap (λ b. b && fits u os all rest) fit) ∙ (sym (ap (λ l. fits u os all (map asked_view l)) back) ∙ c.loop-a.invariant.fits);
    }
