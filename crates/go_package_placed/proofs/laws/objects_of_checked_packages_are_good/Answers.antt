use Rattle.go_package_placed.proofs.laws.objects_of_checked_packages_are_good.Goals as goal

pub returns : goal.returns
returns c = record {
  objects = λ ss t f h. c.objects_of_checked_packages_are_known.ensures.objects ss t f h (c.names_of_faultless_packages_stand.ensures ss (c.checked_packages_settle.ensures.sources ss t f h).faultless _);
  around = λ ss t f h rights o kept. c.objects_of_checked_packages_are_known.ensures.around ss t f h (c.names_of_faultless_packages_stand.ensures ss (c.checked_packages_settle.ensures.sources ss t f h).faultless _) rights o kept;
}
