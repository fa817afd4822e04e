-- Windows that may be taken out are apart.
use Rattle.std.specs.Prelude.{◌≡◌, ℕ, true, false, List, [], ◌∷◌, Some, None}
use Rattle.std.specs.List.{AllByRecursion}
use Rattle.go_types.specs.Trees.{TypeTree}
use Rattle.go_typed.specs.declared.window.Window.{Window}
use Rattle.go_typed.specs.Contents.{Content}
use Rattle.param_choose.specs.Members.{Member, members_of, template_of}
use Rattle.escape_check.specs.Refusals.{refused}
use Rattle.escape_check.specs.Tokens.{has_token}

-- no token of a function is one of both
abbrev pub AreApart : {T : Type 0} → Member T → Member T → Type 0
AreApart m n = (func token : ℕ) → has_token func token m ≡ true → has_token func token n ≡ false

-- each two of them
abbrev pub AllApart : {T : Type 0} → List (Member T) → Type 0
AllApart [] = Unit {0}
AllApart (m ∷ ms) = AllByRecursion (AreApart m) ms × AllApart ms

-- Where no code applies to windows that have a template, no token of a function is one of two of them.
abbrev pub UnrefusedAreApart : Type 0
UnrefusedAreApart = (c : Content) (name : List ℕ) (ws : List Window) (t : Member TypeTree) → template_of c ws ≡ Some t → refused c name ws ≡ None → AllApart (members_of c ws)
