use Rattle.std.proofs.Common.{◌≡◌, ◌∙◌, Bool, List, [], ◌∷◌, ◌++◌, length, ap, sym, subst}
use Rattle.std.specs.Prelude.{OnOk, nat_lt, if◌then◌else◌}
use Rattle.go_typed.specs.declared.window.Window.{Window}
use Rattle.clone_window.specs.Bodies.{same_in}
use Rattle.clone_classes.specs.Listing.{members_of}
use Rattle.clone_classes.proofs.Grouping.{led-if}
use Rattle.clone_classes.proofs.pairwise.push_class.Goals as goal

pub returns : goal.returns
returns g c =
    let same : Window → Window → Bool = same_in c.args.checked.now in
    let grouped : List Window → List (List Window) = λ ms. if nat_lt 1 (length ms) then ms ∷ [] else [] in
    subst (λ (cs : List (List Window)). OnOk c.push_group.result (members_of c.push_group.new.classes.items ≡ members_of c.args.classes.now.items ++ cs))
    (ap grouped c.in_ok-members.ensures ∙ sym (led-if same c.args.earlier.now c.args.window c.args.later.now (sym c.in_ok-is_among.ensures ∙ c.if-branch.false)))
    c.push_group.ensures
