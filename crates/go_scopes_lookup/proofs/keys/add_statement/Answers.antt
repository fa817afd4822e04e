use Rattle.std.proofs.Common.{◌≡◌, Bool, true, false, ◌||◌, ◌∙◌, cond, sym, ap}
use Rattle.std.specs.HashSet.{contains}
use Rattle.go_tree.specs.Redeclared.{is_by_define, has_new}
use Rattle.go_scopes_lookup.specs.Views.{found_view}
use Rattle.go_scopes_lookup.specs.Keys.{one_statement, statement_of}
use Rattle.go_scopes_lookup.proofs.Named.{new_more, one_new, no_new, statement_step, or_false}
use Rattle.go_scopes_lookup.proofs.keys.add_statement.Goals as goal

pub returns-in_ok-insert : goal.returns-in_ok-insert
returns-in_ok-insert c xs known d =
    let x = c.args.d.now in
    let k : Bool = one_statement (statement_of x) (statement_of d) in
    let before : Bool = contains one_statement c.args.statements.now (statement_of d) in
    let defines : is_by_define x.declaration.now.manner ≡ true = sym c.is_by_define.ensures ∙ c.if-is_by_define.true in
    let now : contains one_statement c.insert.new.self (statement_of d) ≡ cond (one_statement c.statement_of.result (statement_of d)) true before = c.in_ok-insert.ensures.updates.0 (statement_of d) in
    now ∙ (ap (λ s. cond (one_statement s (statement_of d)) true before) c.statement_of.ensures ∙ (statement_step k before ∙ (ap (λ b. b || k) (known d) ∙ (ap (λ b. has_new (found_view d) xs || b) (one_new d x defines) ∙ sym (new_more (found_view d) xs (found_view x))))))

pub returns-else-is_by_define : goal.returns-else-is_by_define
returns-else-is_by_define c xs known d =
    let x = c.args.d.now in
    let none : is_by_define x.declaration.now.manner ≡ false = sym c.is_by_define.ensures ∙ c.if-is_by_define.false in
    known d ∙ sym (new_more (found_view d) xs (found_view x) ∙ (ap (λ b. has_new (found_view d) xs || b) (no_new d x none) ∙ or_false (has_new (found_view d) xs)))
