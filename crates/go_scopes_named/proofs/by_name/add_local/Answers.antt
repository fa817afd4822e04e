use Rattle.std.proofs.Common.{◌≡◌, true, false, ◌&&◌, nat_eq, ◌∷◌, [], ◌++◌, List, Some, None, ◌∙◌, cond, sym, subst, ap, refl}
use Rattle.std.proofs.lemmas.Bool.{false≢true}
use Rattle.std.specs.HashMap.{get}
use Rattle.go_tokens.specs.Spellings.{same_text}
use Rattle.go_tree.specs.Meanings.{Meaning}
use Rattle.go_scopes_events.specs.Orders.{Nests}
use Rattle.go_scopes_events.specs.Scopes.{is_local, scope_of, locals_of, Each}
use Rattle.go_scopes_lookup.specs.Views.{meaning_view}
use Rattle.go_scopes_named.specs.declared.segments.Segment.{Segment}
use Rattle.go_scopes_named.specs.Named.{same_named, named_locals}
use Rattle.go_scopes_named.specs.Segments.{AreSegments, segments_of}
use Rattle.go_scopes_lookup.proofs.Public.{not_local}
use Rattle.go_scopes_lookup.proofs.Public.{one_text}
use Rattle.go_scopes_named.proofs.ByName.{each_named, file_own, named_step, not_named, named_equal}
use Rattle.go_scopes_named.proofs.by_name.add_local.Goals as goal

pub returns-in_ok-insert : goal.returns-in_ok-insert
returns-in_ok-insert c ms nests known n w =
    let m = c.args.meaning.now in
    let f = c.in-Between.file in
    let r = c.in-Between.scope in
    let locals = c.args.locals.now in
    let same : List Meaning = named_locals f m.entry.now.name.now ms in
    let olds : List Segment = segments_of (get same_named locals (n, w)) in
    let news : List Segment = c.add.new.segments.items in
    let had : c.or_none-own.result.items ≡ segments_of (get same_named locals (f, m.entry.now.name)) = c.or_none-own.ensures ∙ ap segments_of c.remove.ensures.value in
    let own : is_local f m.entry.now.extent ≡ true = ap (is_local f) c.in-Between.is ∙ file_own f in
    let inside : Each (λ a. Nests (scope_of a.extent) r) (locals_of f ms) = subst (λ x. Each (λ a. Nests (scope_of a.extent) (scope_of x)) (locals_of f ms)) c.in-Between.is (nests f own) in
    let added : AreSegments f news (same ++ meaning_view m ∷ []) = c.in_ok-add.ensures f same c.in-Between.is (each_named (λ a. Nests (scope_of a.extent) r) f m.entry.now.name.now ms inside) (subst (λ l. AreSegments f l same) (sym had) (known f m.entry.now.name)) in
    let b = same_named (f, m.entry.now.name) (n, w) in
    let put : get same_named c.insert.new.self (n, w) ≡ cond b (Some c.add.new.segments) (get same_named c.remove.new.self (n, w)) = c.in_ok-insert.ensures.updates.0 (n, w) in
    let taken : get same_named c.remove.new.self (n, w) ≡ cond b None (get same_named locals (n, w)) = c.remove.ensures.updates.0 (n, w) in
    named_step n w.now (meaning_view m) ms olds (segments_of (get same_named c.insert.new.self (n, w))) b (ap (λ x. is_local n x && same_text m.entry.now.name.now w.now) c.in-Between.is ∙ ap (λ x. nat_eq f n && x) (sym (one_text m.entry.now.name.now w.now))) (known n w)
    (λ e.
    let alike = named_equal f n m.entry.now.name.now w.now ms e in
    let there : news ≡ segments_of (get same_named c.insert.new.self (n, w)) = sym (ap segments_of (put ∙ ap (λ b. cond b (Some c.add.new.segments) (get same_named c.remove.new.self (n, w))) e)) in
    subst (λ l. AreSegments n l (named_locals n w.now ms ++ meaning_view m ∷ [])) there
    (subst (λ l. AreSegments n news (l ++ meaning_view m ∷ [])) alike.1 (subst (λ k. AreSegments k news (same ++ meaning_view m ∷ [])) alike.0 added)))
    (λ e. ap segments_of (put ∙ (ap (λ b. cond b (Some c.add.new.segments) (get same_named c.remove.new.self (n, w))) e ∙ (taken ∙ ap (λ b. cond b None (get same_named locals (n, w))) e))))

pub returns-in_default : goal.returns-in_default
returns-in_default c ms nests known n w =
    let m = meaning_view c.args.meaning.now in
    let none : is_local n m.extent && same_text m.name w.now ≡ false = not_named n m.extent (same_text m.name w.now) (not_local n m.extent c.in_default.not-Between) in
    named_step n w.now m ms _ _ false none (known n w) (λ e. absurd (false≢true e)) (λ e. refl)
