-- Edits whose ranges don't overlap.
use Rattle.std.specs.Prelude.{◌≡◌, ◌≤◌, ◌⊎◌, List, [], ◌∷◌}
use Rattle.std.specs.List.{AllByRecursion}
use Rattle.edit_apply.specs.declared.edits.Edit.{Edit}

-- Two edits of one file, of which the one ends where the other begins or before.
abbrev pub AreApart : Edit → Edit → Type 0
AreApart e d = e.file ≡ d.file → (e.end ≤ d.start) ⊎ (d.end ≤ e.start)

-- each two of them
abbrev pub AllApart : List Edit → Type 0
AllApart [] = Unit {0}
AllApart (e ∷ es) = AllByRecursion (AreApart e) es × AllApart es
