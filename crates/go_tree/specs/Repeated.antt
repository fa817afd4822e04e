-- Names that stand twice, each with its token, as one asks of a package whose names were changed.
use Rattle.std.specs.Prelude.{ℕ, suc, Bool, ◌&&◌, if◌then◌else◌, List, [], ◌∷◌, ◌++◌}
use Rattle.go_tokens.specs.Tokens.{TokenList}
use Rattle.go_tree.specs.declared.event.Member.TheVariants as member
use Rattle.go_tree.specs.declared.event.Event.{Event}
use Rattle.go_tree.specs.declared.event.Event.TheVariants as event
use Rattle.go_tree.specs.Contexts.{is_package}
use Rattle.go_tree.specs.Units.{Unit, Place, word, is_fmt, bytes_at}
use Rattle.go_tree.specs.Declarations.{Found, declarations}
use Rattle.go_tree.specs.Redeclared.{has_clash, has_import}
use Rattle.go_tree.specs.Duplicates.{is_duplicate}

-- the number of a file, that of a token, and its bytes
pub record NamePlace : Type 0 where
  pub file : ℕ
  pub token : ℕ
  pub place : Place

abbrev pub name_place : Found → NamePlace
name_place d = record { file = d.file; token = d.it.name; place = d.place }

abbrev pub place_if : Bool → NamePlace → List NamePlace → List NamePlace
place_if b p ps = if b then p ∷ ps else ps

-- the declarations whose names stand in their blocks already; `before` has what is declared before them
abbrev pub second_names : List Found → List Found → List NamePlace
second_names before [] = []
second_names before (d ∷ ds) = place_if (has_clash d before) (name_place d) (second_names (before ++ d ∷ []) ds)

-- the names of the package that an import hides
abbrev pub hidden_names : Bool → List Found → List NamePlace
hidden_names imported [] = []
hidden_names imported (d ∷ ds) = place_if (imported && is_package d.it.block && is_fmt d.name) (name_place d) (hidden_names imported ds)

abbrev pub redeclared_by : List Unit → List Found → List NamePlace
redeclared_by us ds = second_names [] ds ++ hidden_names (has_import us) ds

-- names that are declared twice in a block, and those that stand in a file's block and in that of the package
abbrev pub redeclared_names : List Unit → List NamePlace
redeclared_names us = redeclared_by us (declarations us)

-- a parameter that stands in its list already
abbrev pub parameter_place : List Event → ℕ → TokenList → Event → List NamePlace → List NamePlace
parameter_place before n ts (event.Member member.Parameter g x) ps = place_if (is_duplicate member.Parameter g (word ts x) ts before) (record { file = n; token = x; place = bytes_at n ts x }) ps
parameter_place before n ts e ps = ps

abbrev pub parameters_in : List Event → ℕ → TokenList → List Event → List NamePlace
parameters_in before n ts [] = []
parameters_in before n ts (e ∷ es) = parameter_place before n ts e (parameters_in (before ++ e ∷ []) n ts es)

-- parameters that are named twice in a list, in the files that are numbered from n on
abbrev pub parameters_from : ℕ → List Unit → List NamePlace
parameters_from n [] = []
parameters_from n (u ∷ us) = parameters_in [] n u.tokens u.events ++ parameters_from (suc n) us

abbrev pub repeated_parameters : List Unit → List NamePlace
repeated_parameters us = parameters_from 0 us
