use Rattle.std.proofs.Common.{◌∙◌, ap, subst}
use Rattle.go_package_defs.specs.Checked.{IsChecked}
use Rattle.clone_classes.specs.Listing.{members_of}
use Rattle.clone_session.proofs.session.Session.report.Goals as goal

pub report_of-requires-clause-classes : goal.report_of-requires-clause-classes
report_of-requires-clause-classes g c = (
  c.args.self.now.bounds,
  λ whole checked. ap members_of c.deref.ensures.value ∙ c.in_ok-classes.ensures whole (subst (λ ts. IsChecked ts whole) c.checked.ensures.texts checked),
)
