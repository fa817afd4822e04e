use Rattle.std.proofs.Common.{◌≡◌, ◌∙◌, ◌+◌, ◌++◌, ◌∷◌, [], ℕ, List, Option, None, Some, length, ap, sym, subst, arith}
use Rattle.std.specs.Prelude.{OnOk}
use Rattle.go_typed.specs.declared.window.Window.{Window}
use Rattle.clone_window.specs.Bodies.{same_in}
use Rattle.window_index.specs.Buckets.{joined}
use Rattle.window_index.specs.Groups.{first_led, rows, with_one}
use Rattle.window_index.proofs.Joining.{led-none, led-some}
use Rattle.window_index.proofs.Tables.{rows-length}
use Rattle.window_index.proofs.groups.Groups.join.Goals as goal

pub push_to-requires : goal.push_to-requires
push_to-requires g c =
    let all = c.self.inside.items.items in
    let same = same_in c.args.checked.now in
    let e : first_led same c.args.window 0 (rows all) ≡ Some c.in-Some.number =
    ap (λ l. first_led same c.args.window 0 (rows l)) (sym c.deref.ensures.value) ∙ sym c.in_ok-number.ensures.found ∙ c.in-Some.is in
    let r = led-some same c.args.window 0 c.in-Some.number (rows all) e in
    omega (arith, r.number, r.within, rows-length all)

pub returns-in-Some-clause-ok : goal.returns-in-Some-clause-ok
returns-in-Some-clause-ok g c =
    let all = c.self.inside.items.items in
    let same = same_in c.args.checked.now in
    let e : first_led same c.args.window 0 (rows all) ≡ Some c.in-Some.number =
    ap (λ l. first_led same c.args.window 0 (rows l)) (sym c.deref.ensures.value) ∙ sym c.in_ok-number.ensures.found ∙ c.in-Some.is in
    let r = led-some same c.args.window 0 c.in-Some.number (rows all) e in
    let n : c.in-Some.number ≡ r.place = omega (arith, r.number) in
    let joins : with_one c.in-Some.number c.args.window (rows all) ≡ joined same c.args.window c.args.self.now =
    ap (λ k. with_one k c.args.window (rows all)) n ∙ sym r.joins ∙ ap (joined same c.args.window) c.self.view_is in
    subst (λ (gs : List (List Window)). OnOk c.push_to.result (rows c.push_to.new.groups.items ≡ gs)) joins c.push_to.ensures.ok

pub returns-in_ok-push_alone-in-None-clause-ok : goal.returns-in_ok-push_alone-in-None-clause-ok
returns-in_ok-push_alone-in-None-clause-ok g c =
    let all = c.self.inside.items.items in
    let same = same_in c.args.checked.now in
    let e : first_led same c.args.window 0 (rows all) ≡ None =
    ap (λ l. first_led same c.args.window 0 (rows l)) (sym c.deref.ensures.value) ∙ sym c.in_ok-number.ensures.found ∙ c.in-None.is in
    c.in_ok-push_alone-in-None.ensures.ok ∙ sym (led-none same c.args.window 0 (rows all) e) ∙ ap (joined same c.args.window) c.self.view_is
