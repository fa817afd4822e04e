-- What a window owes to its function: the results, which only `return` reads.
use Rattle.std.specs.Prelude.{◌≡◌, Bool, true, false, List}
use Rattle.go_types.specs.Trees.{TypeTree}
use Rattle.go_typed.specs.declared.form.Form.{Form}
use Rattle.go_typed.specs.declared.form.Form.TheVariants as form
use Rattle.go_typed.specs.Trees.{Typeds, forms_among}
use Rattle.go_exprs_rules.specs.Sorts.{Stands}
use Rattle.clone_window.specs.Sameness.{is_same}
use Rattle.extract_trees.specs.Numberings.{Numbering}
use Rattle.extract_trees.specs.Copied.{window_copied}
use Rattle.extract_trees.specs.Standing.{Around, AreSettled, nothing_told}
use Rattle.extract_trees.specs.OneCopy.{AreOneCopy}
use Rattle.extract_trees.specs.Windows.{IsExact, all_constants_agree, AreNumberedAlike}

abbrev pub is_no_return : Form → Bool
is_no_return form.Return = false
is_no_return f = true

-- Statements without `return` are settled whatever the results of their function are.
abbrev pub ResultsAreForReturns : Type 0
ResultsAreForReturns =
    (w : Around) (results : List TypeTree) (locals : List Stands) (ps : Typeds TypeTree) → forms_among is_no_return ps ≡ true →
    AreSettled w locals nothing_told ps → AreSettled (record w { results = results }) locals nothing_told ps

-- So windows without `return` have one copy, whatever the results of their functions are.
abbrev pub OtherResultsHaveOneCopy : Type 0
OtherResultsHaveOneCopy =
    (identical : TypeTree → TypeTree → Bool) (w : Around) (results : List TypeTree) (here there : List Stands) (ps qs : Typeds TypeTree) (c d : Numbering) →
    IsExact identical → is_same identical here there ps qs ≡ true → forms_among is_no_return qs ≡ true →
    AreSettled w here nothing_told ps → AreSettled (record w { results = results }) there nothing_told qs →
    all_constants_agree identical ps qs ≡ true → AreNumberedAlike c d ps qs → AreOneCopy (window_copied c ps) (window_copied d qs)
