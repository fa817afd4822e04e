-- Whether the names of an expression, of a type, or of nothing are known before a stage.
use Rattle.std.specs.Prelude.{◌≡◌, ℕ, true, List}
use Rattle.go_exprs_rules.specs.Scopes.{in_full}
use Rattle.go_tree.specs.Uses.{UsesView, object_of}
use Rattle.go_package_laws.specs.Names.{Ways}
use Rattle.go_package_stages.specs.declared.marks.Mark.{Mark}
use Rattle.go_package_stages.specs.Marks.{is_before}

-- The name at a token of a file is known in full before the stage k, by these marks.
abbrev pub IsFullBefore : UsesView → ℕ → List Mark → ℕ → ℕ → Type 0
IsFullBefore u file ms k i = is_before ms k in_full (object_of u file i) ≡ true

-- names in full in lengths, none where no type stands, and the others as the type needs them
abbrev pub ways_before : UsesView → ℕ → List Mark → UsesView → List Mark → ℕ → Ways
ways_before u file ms v cs k = record {
  named = λ n i. is_before ms k n (object_of u file i) ≡ true;
  counted = λ i. IsFullBefore v file cs k i;
  anywhere = λ i. ⊥;
}
