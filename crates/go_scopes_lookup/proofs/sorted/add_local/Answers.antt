use Rattle.std.proofs.Common.{◌≡◌, ℕ, true, false, nat_eq, ◌∷◌, [], ◌++◌, List, Some, None, ◌∙◌, cond, ap, refl, map, arith}
use Rattle.std.proofs.lemmas.List.{map-append}
use Rattle.std.proofs.lemmas.Bool.Decides.{nat_tests}
use Rattle.std.specs.HashMap.{get}
use Rattle.go_tree.specs.Meanings.{Meaning}
use Rattle.go_scopes_events.specs.Scopes.{is_local}
use Rattle.go_scopes_lookup.specs.Views.{meaning_view}
use Rattle.go_scopes_lookup.specs.Sorted.{items_of}
use Rattle.go_scopes_lookup.proofs.Sorting.{local_step, not_local}
use Rattle.go_scopes_lookup.proofs.sorted.add_local.Goals as goal

equal_by : (a b : ℕ) → nat_eq a b ≡ true → a ≡ b
equal_by a b e = grind (arith, nat_tests, e)

pub returns-in_ok-insert : goal.returns-in_ok-insert
returns-in_ok-insert c ms known n =
    let m = c.args.meaning.now in
    let f = c.in-Between.file in
    let locals = c.args.locals.now in
    let old : List Meaning = items_of (get nat_eq locals n) in
    let had : map meaning_view c.or_none-own.result.items ≡ items_of (get nat_eq locals f) = c.or_none-own.ensures ∙ ap items_of c.remove.ensures.value in
    let grown : map meaning_view c.push.new.self.items ≡ items_of (get nat_eq locals f) ++ meaning_view m ∷ [] =
    ap (map meaning_view) c.in_ok-push.ensures.items ∙ (map-append meaning_view c.or_none-own.result.items (m ∷ []) ∙ ap (λ l. l ++ meaning_view m ∷ []) had) in
    let put : get nat_eq c.insert.new.self n ≡ cond (nat_eq f n) (Some c.push.new.self) (get nat_eq c.remove.new.self n) = c.in_ok-insert.ensures.updates.0 n in
    let taken : get nat_eq c.remove.new.self n ≡ cond (nat_eq f n) None (get nat_eq locals n) = c.remove.ensures.updates.0 n in
    local_step n (meaning_view m) ms old (items_of (get nat_eq c.insert.new.self n)) (nat_eq f n) (ap (is_local n) c.in-Between.is) (known n)
    (λ e. ap items_of (put ∙ ap (λ b. cond b (Some c.push.new.self) (get nat_eq c.remove.new.self n)) e) ∙ (grown ∙ ap (λ x. items_of (get nat_eq locals x) ++ meaning_view m ∷ []) (equal_by f n e)))
    (λ e. ap items_of (put ∙ (ap (λ b. cond b (Some c.push.new.self) (get nat_eq c.remove.new.self n)) e ∙ (taken ∙ ap (λ b. cond b None (get nat_eq locals n)) e))))

pub returns-in_default : goal.returns-in_default
returns-in_default c ms known n =
    let m = meaning_view c.args.meaning.now in
    let none : is_local n m.extent ≡ false = not_local n m.extent c.in_default.not-Between in
    local_step n m ms _ _ false none (known n) (λ e. cc) (λ e. refl)
