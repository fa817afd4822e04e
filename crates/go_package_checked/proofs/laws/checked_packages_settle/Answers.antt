use Rattle.std.proofs.Common.{map}
use Rattle.go_package_defs.specs.Sources.{source_of}
use Rattle.go_package_settled.specs.Read.{IsFaultless}
use Rattle.go_package_checked.proofs.Stages.{all_files, stages, typing_of}
use Rattle.go_package_checked.proofs.laws.checked_packages_settle.Goals as goal

pub returns : goal.returns
returns c = record {
  sources = λ ss t f h. let faultless : IsFaultless ss = record { trees = f; names = (stages ss t h).names } in record { faultless = faultless; settled = c.faultless_packages_settle.ensures ss faultless };
  checked = λ texts d h.
      let ss = map source_of h.files in
      let t = typing_of texts d h in
      let faultless : IsFaultless ss = record { trees = all_files 0 texts h.files h.read; names = (stages ss t.typing t.answer).names } in
      record { faultless = faultless; settled = c.faultless_packages_settle.ensures ss faultless };
}
