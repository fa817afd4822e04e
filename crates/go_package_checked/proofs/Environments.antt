-- The package block of a package that type-checks is within the limit on scalars.
use Rattle.std.proofs.Common.{◌≡◌, List, map, Ok, sym, ap, subst, ◌∙◌}
use Rattle.std.specs.List.{AllByRecursion}
use Rattle.go_grammar.specs.Grammar.{IsFile}
use Rattle.go_tokens.specs.Tokens.{kinds}
use Rattle.go_tree.specs.Uses.{UsesView, uses}
use Rattle.go_exprs_rules.specs.Scopes.{Scope}
use Rattle.go_package_defs.specs.Answer.{Environment, specifications, package_answer}
use Rattle.go_package_defs.specs.Knowledge.{outlines, rights_of}
use Rattle.go_package_defs.specs.Sources.{Source, package_of, unit_of, rounds}
use Rattle.go_package_defs.specs.Verdicts.{known}
use Rattle.go_package_laws.proofs.Public.{are_found}
use Rattle.go_package_settled.specs.Ordered.{IsSettled}
use Rattle.go_stmts_limits.specs.Limits.{RightsAreWithin}
use Rattle.go_stmts_limits.specs.Packages.{EnvironmentIsWithin}
use Rattle.go_package_checked.proofs.Failing.{answered}
use Rattle.go_package_checked.proofs.Rights.{LessKnown, Unjudged, Written, rights_within}
use Rattle.go_package_checked.proofs.Shapes.{Derivations, files_have}

-- where right sides are within the limit, so is the package block of a settled package
abbrev Settled : Type 0
Settled = (limit : Scope) (ss : List Source) (u : UsesView) (e : Environment) → IsSettled (package_of ss u) (outlines (package_of ss u) (specifications 0 ss)) → package_answer ss u ≡ Ok e → limit.rights ≡ e.rights → RightsAreWithin limit e.rights → EnvironmentIsWithin limit e

pub environment_within : Settled → LessKnown → Unjudged → Written → Derivations → (limit : Scope) (ss : List Source) (e : Environment) → let p = package_of ss (uses (map unit_of ss)) in
    IsSettled p (outlines p (specifications 0 ss)) → package_answer ss (uses (map unit_of ss)) ≡ Ok e → AllByRecursion (λ s. IsFile (kinds s.tokens.tokens) s.tree) ss → limit.rights ≡ e.rights → EnvironmentIsWithin limit e
environment_within settles less same written derives limit ss e s a f r =
    let u = uses (map unit_of ss) in
    let p = package_of ss u in
    let ds = specifications 0 ss in
    let found = known p (outlines p ds) (rounds p) in
    let fine = answered p (outlines p ds) found ds e a in
    let sides : rights_of p found ≡ e.rights = ap (λ (x : Environment). x.rights) fine.environment in
    let own : RightsAreWithin limit (rights_of p found) =
    rights_within p ds found s.ranks (are_found p (outlines p ds) found s.ranks s.staged) fine.fine limit less same written (r ∙ sym sides) (files_have derives 0 ss f) in
    settles limit ss u e s a r (subst (RightsAreWithin limit) sides own)
