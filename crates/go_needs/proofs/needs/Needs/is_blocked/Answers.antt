use Rattle.std.proofs.Common.{rules, ◌≡◌, ◌∙◌, map, Some, sym, ap}
use Rattle.std.specs.HashMap as hash
use Rattle.std.specs.Prelude.{slice_get}
use Rattle.std.specs.Option.{option_map}
use Rattle.go_needs.specs.Blocked.{flags_from, blocking}
use Rattle.go_scopes_cycles.specs.Ranks.{same_place}
use Rattle.go_needs.specs.Passing.{is_faulty, is_misassigned}
use Rattle.go_needs.proofs.Blocking.{blocked_is}
use Rattle.go_needs.proofs.Settled.{reach_on}
use Rattle.go_needs.proofs.needs.Needs.is_blocked.Goals as goal

pub returns : goal.returns
returns c p ds ss d t l e fe ae =
    let self = c.args.self.now in
    let m = c.in_ok-needing.needing in
    let n = c.in_ok-nearest.nearest in
    let g = c.in-Some.group.now in
    let there : slice_get self.groups.items c.args.specification ≡ Some g = sym (ap (λ l. slice_get l c.args.specification) c.deref.ensures.value) ∙ (sym c.group_at.ensures ∙ ap (option_map (λ r. r.now)) c.in-Some.is) in
    let own : c.in_ok-own.own.items ≡ flags_from g.numbers.items 0 self.owners.items = search rules in
    let blocks : c.in_ok-failing.failing.items ≡ blocking (hash.get same_place m) self.groups.items c.in_ok-own.own.items c.args.faulty.now c.args.assigning.now 0 self.declaring.items = search rules in
    let same = blocks ∙ (ap (λ o. blocking (hash.get same_place m) self.groups.items o c.args.faulty.now c.args.assigning.now 0 self.declaring.items) own
    ∙ (ap (λ b. blocking (hash.get same_place m) self.groups.items (flags_from g.numbers.items 0 self.owners.items) b c.args.assigning.now 0 self.declaring.items) fe
    ∙ ap (λ b. blocking (hash.get same_place m) self.groups.items (flags_from g.numbers.items 0 self.owners.items) (map is_faulty ss) b 0 self.declaring.items) ae)) in
    c.any_column.ensures ∙ blocked_is self p ds t m n ss c.args.specification d g
    (reach_on m self.owners.items c.deref-4.result.now self.calls.items c.deref-5.result.now (flags_from g.numbers.items 0 self.owners.items) c.deref-6.result.now
    c.deref-4.ensures.value c.deref-5.ensures.value (c.deref-6.ensures.value ∙ own) c.in_ok-needing.ensures)
    (reach_on n self.owners.items c.deref-10.result.now self.calls.items c.deref-11.result.now
    (blocking (hash.get same_place m) self.groups.items (flags_from g.numbers.items 0 self.owners.items) (map is_faulty ss) (map is_misassigned ss) 0 self.declaring.items) c.deref-12.result.now
    c.deref-10.ensures.value c.deref-11.ensures.value (c.deref-12.ensures.value ∙ same) c.in_ok-nearest.ensures)
    l e there
