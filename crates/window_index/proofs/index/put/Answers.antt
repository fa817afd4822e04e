use Rattle.std.proofs.Common.{◌≡◌, ◌∙◌, ◌++◌, ◌∷◌, [], ℕ, List, position, None, Some, is_some, ap, sym, arith}
use Rattle.std.specs.Prelude.{false, nat_eq}
use Rattle.std.specs.Map.{keys_of, lookup}
use Rattle.indexmap.proofs.CallerLemmas.{insert_entry-new}
use Rattle.go_typed.specs.declared.window.Window.{Window}
use Rattle.clone_window.specs.Bodies.{same_in}
use Rattle.window_index.proofs.Joining.{entered-new, entered-there, none-there}
use Rattle.window_index.proofs.Tables.{weaker-ok}
use Rattle.window_index.proofs.index.put.Goals as goal

pub returns-in-Some-clause-ok : goal.returns-in-Some-clause-ok
returns-in-Some-clause-ok g c =
    let e : position (nat_eq c.args.hash) (keys_of c.args.buckets.now.entries) ≡ Some c.in-Some.number = sym c.get_index_of.ensures.index ∙ c.in-Some.is in
    weaker-ok c.join_at.result (λ k. k ∙ sym (entered-there (same_in c.args.checked.now) c.args.window c.args.hash c.in-Some.number c.args.buckets.now.entries e).0) c.join_at.ensures.ok

pub returns-in-Some-clause-compared : goal.returns-in-Some-clause-compared
returns-in-Some-clause-compared g c =
    let e : position (nat_eq c.args.hash) (keys_of c.args.buckets.now.entries) ≡ Some c.in-Some.number = sym c.get_index_of.ensures.index ∙ c.in-Some.is in
    omega (arith, c.join_at.ensures.compared, (entered-there (same_in c.args.checked.now) c.args.window c.args.hash c.in-Some.number c.args.buckets.now.entries e).1)

pub returns-in_ok-insert-in-None-clause-ok : goal.returns-in_ok-insert-in-None-clause-ok
returns-in_ok-insert-in-None-clause-ok g c =
    let bs = c.args.buckets.now.entries in
    let none : lookup (nat_eq c.args.hash) bs ≡ None = none-there (lookup (nat_eq c.args.hash) bs) (sym c.get_index_of.ensures.found ∙ ap is_some c.in-None.is) in
    c.in_ok-insert-in-None.ensures.entries
    ∙ insert_entry-new nat_eq c.args.buckets.now c.args.hash c.in_ok-groups-in-None.groups none
    ∙ ap (λ (g : List (List Window)). bs ++ (c.args.hash, g) ∷ []) c.in_ok-groups-in-None.ensures
    ∙ sym (entered-new (same_in c.args.checked.now) c.args.window c.args.hash bs none).0
