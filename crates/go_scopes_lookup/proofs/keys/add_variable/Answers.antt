use Rattle.std.proofs.Common.{◌≡◌, Bool, true, false, ◌&&◌, ◌||◌, Option, Some, ◌∙◌, cond, sym, ap, ℕ}
use Rattle.std.specs.Prelude.{nat_lt}
use Rattle.std.specs.HashMap.{get}
use Rattle.std.specs.HashMap.Eq.{lookup_congr}
use Rattle.go_tree.specs.Declarations.{is_variable, is_reused}
use Rattle.go_scopes_lookup.specs.Views.{found_view}
use Rattle.go_scopes_lookup.specs.Keys.{same_key, first_of, is_before}
use Rattle.go_scopes_lookup.proofs.Named.{key_laws, one_variable, no_variable, reused_more, variable_step, or_false}
use Rattle.go_scopes_lookup.proofs.keys.add_variable.Goals as goal

pub returns-then-not-is_variable : goal.returns-then-not-is_variable
returns-then-not-is_variable c xs known d j dj =
    let x = found_view c.args.d.now in
    let no : is_variable x.it.entity ≡ false = sym c.is_variable.ensures ∙ c.if-not-is_variable.true in
    known d j dj ∙ sym (reused_more d xs x ∙ (ap (λ b. is_reused d xs || b) (no_variable d x no) ∙ or_false (is_reused d xs)))

pub returns : goal.returns
returns c xs known d j dj =
    let x = found_view c.args.d.now in
    let l = c.key_of-key.result in
    let m = c.args.variables.now in
    let s : ℕ = d.it.statement in
    let n : ℕ = x.it.name in
    let k : Bool = same_key l j in
    let before : Option ℕ = get same_key m j in
    let own : Option ℕ = get same_key m l in
    let yes : is_variable x.it.entity ≡ true = sym c.is_variable.ensures ∙ c.if-not-is_variable.false in
    let had : c.copied.result ≡ own = c.copied.ensures ∙ c.get.ensures.value in
    let first : c.first_of-first.result ≡ first_of n own = c.first_of-first.ensures ∙ ap (first_of n) had in
    let now : get same_key c.insert.new.self j ≡ cond k (Some c.first_of-first.result) before = c.in_ok-insert.ensures.updates.0 j in
    let there : get same_key c.insert.new.self j ≡ cond k (Some (first_of n own)) before = now ∙ ap (λ i. cond k (Some i) before) first in
    let alike : k ≡ true → own ≡ before = λ e. lookup_congr same_key key_laws.congr m.entries l j e in
    ap (is_before s) there ∙ (variable_step s n k before own alike ∙ (ap (λ b. b || (nat_lt n s && k)) (known d j dj) ∙ (ap (λ b. is_reused d xs || b) (one_variable d x j l dj c.key_of-key.ensures yes) ∙ sym (reused_more d xs x))))
