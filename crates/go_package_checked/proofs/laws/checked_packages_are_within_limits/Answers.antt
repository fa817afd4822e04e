use Rattle.std.proofs.Common.{◌≡◌, List, map, Ok}
use Rattle.go_base.specs.declared.bytes.FileText.{FileText}
use Rattle.go_typed.specs.Contents.{Content}
use Rattle.go_exprs_rules.specs.Scopes.{Scope}
use Rattle.go_package_defs.specs.Checked.{Typing, sources_answer, IsChecked}
use Rattle.go_package_defs.specs.Sources.{source_of}
use Rattle.go_stmts_limits.specs.Packages.{EnvironmentIsWithin}
use Rattle.go_package_checked.proofs.Environments.{environment_within}
use Rattle.go_package_checked.proofs.Stages.{all_files, stages}
use Rattle.go_package_checked.proofs.laws.checked_packages_are_within_limits.Goals as goal

pub returns : goal.returns
returns c =
    let within : (limit : Scope) (texts : List FileText) (d : Content) (h : IsChecked texts d) (t : Typing) → sources_answer (map source_of h.files) ≡ Ok t → limit.rights ≡ t.environment.rights → EnvironmentIsWithin limit t.environment =
    λ limit texts d h t e r.
    environment_within c.settled_packages_are_within_limits.ensures.answer c.less_known_types_are_the_same.ensures c.unjudged_types_are_the_same.ensures c.written_types_are_within_limits.ensures c.derivations_are_shaped.ensures.here
    limit (map source_of h.files) t.environment (c.checked_packages_settle.ensures.checked texts d h).settled (stages (map source_of h.files) t e).answer (all_files 0 texts h.files h.read) r in
    record {
      checked = λ limit texts d h t e r. let w = within limit texts d h t e r in record { environment = w; functions = c.checked_packages_are_within_limits.ensures.checked limit texts d h t e w };
      renamed = λ p h limit other t e r a l. c.checked_packages_are_within_limits.ensures.renamed p h limit other t e (within limit _ h.given h.checked t e r) a l;
    }
