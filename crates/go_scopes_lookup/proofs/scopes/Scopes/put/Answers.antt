use Rattle.std.proofs.Common.{◌≡◌, ◌-◌, ◌∙◌, ◌++◌, ◌∷◌, [], suc, ap, sym, length, slice_set, None, arith, subst}
use Rattle.std.specs.Vec.{vec_len}
use Rattle.std.specs.Map.{lookup}
use Rattle.std.specs.Prelude.{nat_lt, ◌&&◌}
use Rattle.go_tokens.specs.Spellings.{same_text}
use Rattle.std.proofs.lemmas.List.{set-get_or}
use Rattle.go_scopes_events.specs.Scopes.{otherwise}
use Rattle.go_scopes_lookup.specs.Views.{meaning_view}
use Rattle.go_scopes_lookup.specs.Stacks.{said, said_in, same_name, with_one, ArePartedBy, AreParted}
use Rattle.go_scopes_lookup.proofs.Stacks.{said_set, ends_set, ends_append, said_append, with_otherwise, said_empty}
use Rattle.go_scopes_lookup.proofs.scopes.Scopes.put.Goals as goal
use Rattle.go_scopes_lookup.proofs.scopes.Scopes.put.Goals.{in-Some+else-block-end, in_default}

pub returns-then-block-end-clause-said : goal.returns-then-block-end-clause-said
returns-then-block-end-clause-said c t w =
    let bs = c.args.self.now.blocks in
    let m = meaning_view c.args.meaning.now in
    let last : suc (vec_len bs - 1) ≡ length bs.items = omega (arith, c.in-Some.ensures.item.3.0) in
    said_set c.args.end m t w bs.items (vec_len bs - 1) c.in-Some.block.now c.put.new.self None last (sym c.in-Some.ensures.item.1)
    (c.in_ok-put.ensures.names t w ∙ ap (λ e. with_one e m t w (said_in c.in-Some.block.now t w)) c.if-block-end.true)

pub returns-then-block-end-clause-parted : goal.returns-then-block-end-clause-parted
returns-then-block-end-clause-parted c ms h e =
    let bs = c.args.self.now.blocks in
    ends_set (ArePartedBy ms) bs.items (vec_len bs - 1) c.put.new.self h (subst (ArePartedBy ms) (sym (c.in_ok-put.ensures.end ∙ c.if-block-end.true)) e)

pub returns-clause-said : goal.returns-clause-said
returns-clause-said c t w =
    let bs = c.args.self.now.blocks.items in
    let m = meaning_view c.args.meaning.now in
    let i = vec_len c.args.self.now.blocks - 1 in
    let same : c.match-last_mut.self.blocks.items ≡ bs = elim c.match-last_mut.branch [ in-Some+else-block-end w ↦ ap (λ s. s.blocks.items) w.self-is ∙ (ap (slice_set bs i) w.in-Some.ensures.item.1 ∙ set-get_or bs i w.in-Some.block.now) | in_default w ↦ ap (λ s. s.blocks.items) w.self-is ] in
    ap (λ xs. said xs t w) c.in_ok-push.ensures.items
    ∙ ap (λ xs. said (xs ++ c.put-2.new.self ∷ []) t w) same
    ∙ said_append bs c.put-2.new.self t w None
    ∙ ap (λ o. otherwise o (said bs t w)) (c.in_ok-put-2.ensures.names t w ∙ ap (with_one c.args.end m t w) (said_empty (record { end = c.args.end; names = c.new.result }) t w (ap (λ es. lookup (same_name w) es) c.new.ensures.empty)))
    ∙ with_otherwise (nat_lt t c.args.end && same_text m.name w.now) m None (said bs t w)

pub returns-clause-parted : goal.returns-clause-parted
returns-clause-parted c ms h e =
    let bs = c.args.self.now.blocks.items in
    let i = vec_len c.args.self.now.blocks - 1 in
    let same : c.match-last_mut.self.blocks.items ≡ bs = elim c.match-last_mut.branch [ in-Some+else-block-end w ↦ ap (λ s. s.blocks.items) w.self-is ∙ (ap (slice_set bs i) w.in-Some.ensures.item.1 ∙ set-get_or bs i w.in-Some.block.now) | in_default w ↦ ap (λ s. s.blocks.items) w.self-is ] in
    subst (λ xs. AreParted xs ms) (sym (c.in_ok-push.ensures.items ∙ ap (λ xs. xs ++ c.put-2.new.self ∷ []) same)) (ends_append (ArePartedBy ms) bs c.put-2.new.self h (subst (ArePartedBy ms) (sym c.in_ok-put-2.ensures.end) e))
