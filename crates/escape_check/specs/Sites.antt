-- What the program knows where it looks at sites, and truth values as it finds them.
use Rattle.std.specs.Prelude.{◌≡◌, Bool, true, false, List, [], ◌++◌, Option, Some, None, if◌then◌else◌}
use Rattle.go_tree.specs.Meanings.{meanings}
use Rattle.go_typed.specs.Packages.{PackageView}
use Rattle.go_print.specs.Literals.{boolean_text}
use Rattle.go_scopes.specs.Resolve.{units_of}
use Rattle.go_scopes_named.specs.Named.{IsNamed, all_meanings}
use Rattle.escape_check.specs.declared.site.HiddenAtSite.{HiddenAtSite}
use Rattle.escape_check.specs.declared.site.Truths.{Truths}
use Rattle.escape_check.specs.Shown.{KnowsPlaces}
use Rattle.escape_check.specs.Stretches.{KnowsHidden}
use Rattle.escape_check.specs.Types.{TypeName, universal}

-- where locals of the template stand, what names mean, and where names in types are hidden
pub record KnowsSite (rule : HiddenAtSite) (p : PackageView) : Type 0 where
  pub places : KnowsPlaces rule.declared
  pub named : IsNamed rule.named.now
  pub meanings : all_meanings rule.named.now ≡ meanings (units_of p.files)
  pub hidden : KnowsHidden p rule.hidden.now

-- ---- truth values

abbrev pub is_value : Bool → Option Bool → Bool
is_value true (Some b) = b
is_value false (Some true) = false
is_value false (Some false) = true
is_value a None = false

-- the name of one, if there is one
abbrev pub truth_named : Option Bool → List TypeName
truth_named None = []
truth_named (Some b) = universal (boolean_text b)

-- the names of those that there are
abbrev pub truths_named : Truths → List TypeName
truths_named t = (if t.yes then universal (boolean_text true) else []) ++ (if t.no then universal (boolean_text false) else [])
