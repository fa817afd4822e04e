-- Worked examples: the stages of small packages, and that a further round finds the same.
use Rattle.std.specs.Prelude.{◌≡◌, ℕ, suc, List, [], ◌∷◌, length, map, codes}
use Rattle.go_tokens.specs.declared.token.TokenKind.TheVariants as token
use Rattle.go_tree.specs.Uses.{uses}
use Rattle.go_package_defs.specs.Answer.{specifications}
use Rattle.go_package_defs.specs.Knowledge.{Outline, outlines}
use Rattle.go_package_defs.specs.Sentences.{Word, sources_from}
use Rattle.go_package_defs.specs.Sources.{Source, Package, package_of, unit_of, rounds}
use Rattle.go_package_defs.specs.Verdicts.{known}
use Rattle.go_package_settled.specs.Closure.{needing}
use Rattle.go_package_settled.specs.Heights.{Needing, stand_stage, told_stage, own_stage, reach_stage}
use Rattle.go_package_settled.specs.Resolved.{declared_in}

-- of an object what it stands for, its right side, all that is found of it, and what it reaches
pub record StagesOf : Type 0 where
  pub stand : ℕ
  pub told : ℕ
  pub own : ℕ
  pub reach : ℕ

abbrev pub at_stages : ℕ → ℕ → ℕ → ℕ → StagesOf
at_stages a b c d = record { stand = a; told = b; own = c; reach = d }

abbrev pub stages_from : Needing → ℕ → List Outline → List StagesOf
stages_from x n [] = []
stages_from x n (o ∷ os) = at_stages (stand_stage x n) (told_stage x n) (own_stage x n) (reach_stage x n) ∷ stages_from x (suc n) os

abbrev pub outlined : List Source → Package → List Outline
outlined ss p = outlines p (specifications 0 ss)

abbrev pub staged_by : List Source → Package → List StagesOf
staged_by ss p = stages_from (needing p (outlined ss p) (declared_in (map unit_of ss)) (length (outlined ss p))) 0 (outlined ss p)

-- the stages of the objects of a package
abbrev pub staged : List (List Word) → List StagesOf
staged wss = let ss = sources_from 0 wss in staged_by ss (package_of ss (uses (map unit_of ss)))

abbrev pub StaysSame : List Source → Package → Type 0
StaysSame ss p = known p (outlined ss p) (suc (rounds p)) ≡ known p (outlined ss p) (rounds p)

-- A round behind the last one finds the same.
abbrev pub Stays : List (List Word) → Type 0
Stays wss = let ss = sources_from 0 wss in StaysSame ss (package_of ss (uses (map unit_of ss)))

-- package p; type T []T; var v T
abbrev pub recursive_slice : List (List Word)
recursive_slice = (
    (token.Package, codes "package") ∷ (token.Identifier, codes "p") ∷ (token.Semicolon, codes ";") ∷ (token.Type, codes "type") ∷
    (token.Identifier, codes "T") ∷ (token.LeftBracket, codes "[") ∷ (token.RightBracket, codes "]") ∷ (token.Identifier, codes "T") ∷
    (token.Semicolon, codes ";") ∷ (token.Var, codes "var") ∷ (token.Identifier, codes "v") ∷ (token.Identifier, codes "T") ∷
    (token.Semicolon, codes ";") ∷ []) ∷ []

-- package p; var a [len(b)]int; var b T; type T [c]int; const c = 2
abbrev pub later_lengths : List (List Word)
later_lengths = (
    (token.Package, codes "package") ∷ (token.Identifier, codes "p") ∷ (token.Semicolon, codes ";") ∷ (token.Var, codes "var") ∷
    (token.Identifier, codes "a") ∷ (token.LeftBracket, codes "[") ∷ (token.Identifier, codes "len") ∷ (token.LeftParenthesis, codes "(") ∷
    (token.Identifier, codes "b") ∷ (token.RightParenthesis, codes ")") ∷ (token.RightBracket, codes "]") ∷ (token.Identifier, codes "int") ∷
    (token.Semicolon, codes ";") ∷ (token.Var, codes "var") ∷ (token.Identifier, codes "b") ∷ (token.Identifier, codes "T") ∷
    (token.Semicolon, codes ";") ∷ (token.Type, codes "type") ∷ (token.Identifier, codes "T") ∷ (token.LeftBracket, codes "[") ∷
    (token.Identifier, codes "c") ∷ (token.RightBracket, codes "]") ∷ (token.Identifier, codes "int") ∷ (token.Semicolon, codes ";") ∷
    (token.Const, codes "const") ∷ (token.Identifier, codes "c") ∷ (token.Assign, codes "=") ∷ (token.Integer, codes "2") ∷
    (token.Semicolon, codes ";") ∷ []) ∷ []

pub record Examples : Type 0 where
  -- the right side is known before the rules are judged that fail in it, and these before the variable
  pub slice : staged recursive_slice ≡ at_stages 0 1 2 1 ∷ at_stages 3 3 3 3 ∷ []
  pub slice_stays : Stays recursive_slice
  pub lengths_stay : Stays later_lengths
