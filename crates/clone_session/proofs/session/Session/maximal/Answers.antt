use Rattle.std.proofs.Common.{◌∙◌, List, ap, subst, sym}
use Rattle.std.proofs.lemmas.Result.{IfOk-weaker}
use Rattle.go_typed.specs.declared.window.Window.{Window}
use Rattle.go_package_defs.specs.Checked.{IsChecked}
use Rattle.clone_classes.specs.Classes.{Among}
use Rattle.clone_classes.specs.Listing.{members_of}
use Rattle.clone_report.specs.Maximal.{maximal}
use Rattle.clone_session.specs.Maximal.{LiesInOneOf}
use Rattle.clone_session.proofs.session.Session.maximal.Goals as goal

pub maximal_of-requires-clause-classes : goal.maximal_of-requires-clause-classes
maximal_of-requires-clause-classes g c = (
  c.args.self.now.bounds,
  λ whole checked. ap members_of c.deref.ensures.value ∙ c.in_ok-classes.ensures whole (subst (λ ts. IsChecked ts whole) c.checked.ensures.texts checked),
)

pub returns-clause-numbers : goal.returns-clause-numbers
returns-clause-numbers g c =
    IfOk-weaker c.maximal_of.result _ _ (λ v h whole checked. h ∙ ap maximal (ap members_of c.deref.ensures.value ∙ c.in_ok-classes.ensures whole checked)) c.maximal_of.ensures.numbers

pub returns-clause-within : goal.returns-clause-within
returns-clause-within g c =
    IfOk-weaker c.maximal_of.result _ _ (λ v h whole class w checked listed among.
    let same = ap members_of c.deref.ensures.value ∙ c.in_ok-classes.ensures whole checked in
    subst (λ (cs : List (List Window)). LiesInOneOf cs v.items w) same (h class w (subst (λ (cs : List (List Window)). Among cs class) (sym same) listed) among)) c.maximal_of.ensures.within
