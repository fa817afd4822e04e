-- What a template hands over is named by nodes of its statements.
use Rattle.std.specs.Prelude.{◌≡◌, ℕ, ◌<◌, ◌≤◌, Bool, false, true, ◌⊎◌, List, [], ◌++◌, Some}
use Rattle.go_types.specs.Trees.{TypeTree}
use Rattle.go_typed.specs.Funcs.{named_at}
use Rattle.go_typed.specs.Trees.{Sort, Value}
use Rattle.clone_window.specs.Sameness.{all_locals, sort_at}
use Rattle.param_choose.specs.Choosing.{Choice, choice}
use Rattle.param_choose.specs.Locals.{has}
use Rattle.param_choose.specs.Members.{Member}
use Rattle.escape_check.specs.Names.{is_in_closed, local_names}
use Rattle.escape_check.specs.Places.{Sources}
use Rattle.extract_texts_named.specs.Named.{AreNamed, SpecificationsArePlain}

-- Each token of the window that names a variable stands in a type or in a declaration of constants or of types, or the variable is named by a
-- node of the window's statements, outside holes.
abbrev pub TokensHaveNodes : Member TypeTree → Type 0
TokensHaveNodes m = (k n : ℕ) (u : TypeTree) → m.from ≤ k → k < m.upto → named_at m.tokens k ≡ Some n → sort_at m.locals n ≡ Value u
    → (is_in_closed m k ≡ true) ⊎ (has (all_locals false m.statements) n ≡ true)

-- the free locals of the template, and its declared results, are named by nodes of its statements
abbrev pub LocalsAreNamed : Member TypeTree → Choice TypeTree → Type 0
LocalsAreNamed t h = AreNamed t.statements (h.free ++ h.declared)

-- In a member to which the code 8 doesn't apply no free local stands in a type or in a declaration of constants or of types, so that each is
-- named by a node. So is what a template hands over.
abbrev pub ChosenLocalsAreNamed : Type 0
ChosenLocalsAreNamed = (array : Sort TypeTree → Bool) (s : Sources) (ms : List (Member TypeTree)) (t : Member TypeTree) → local_names s t ≡ [] → TokensHaveNodes t → SpecificationsArePlain t.statements
    → LocalsAreNamed t (choice array ms t)
