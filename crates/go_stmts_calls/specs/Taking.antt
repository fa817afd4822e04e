-- A call takes the place of statements: what has to hold of its names and of what is declared.
use Rattle.std.specs.Prelude.{◌≡◌, ℕ, Bool, true, false, List, [], ◌∷◌, map}
use Rattle.go_grammar.specs.Trees.{Trees}
use Rattle.go_types.specs.Trees.{TypeRow, none, more}
use Rattle.go_exprs_rules.specs.Scopes.{Scope}
use Rattle.go_exprs_rules.specs.Tables.{Parts}
use Rattle.go_exprs_elsewhere.specs.Elsewhere.{Moves}
use Rattle.go_stmts_defs.specs.Frames.{Frame}
use Rattle.go_stmts_elsewhere.specs.Declaring.{declares, declares_types, AllWithout, Lastly, DeclaresVariable, AllDeclareInOrder}
use Rattle.go_stmts_elsewhere.specs.Replaced.{AreStatementParts, TakesThePlace}
use Rattle.go_stmts_calls.specs.Written.{written_parts}
use Rattle.go_stmts_calls.specs.Facts.{IsWritten}
use Rattle.go_stmts_calls.specs.Places.{PlacedCall, call_trees, is_among}

-- Each of these locals counts, and the statements declare it as a variable of its type.
abbrev pub AreResults : (ℕ → Bool) → Parts → List ℕ → TypeRow → Type 0
AreResults l xs [] none = Unit {0}
AreResults l xs (n ∷ ns) (more t ts) = (l n ≡ true) × Lastly (declares n) (DeclaresVariable n t) xs × AreResults l xs ns ts
AreResults l xs ns ts = ⊥

-- what it is read to be where its tokens mean what they do in t, and these are the locals that it declares
abbrev pub written_call : Scope → PlacedCall → List ℕ → Parts
written_call t c ns = written_parts t c.first c.declared c.types ns c.targets c.function c.arguments c.parameters c.results

-- The call takes the place of statements that are read to be `olds`, where these of their locals are still needed behind them.
pub record CallFits (m : Moves) (l : ℕ → Bool) (t : Scope) (front : Frame) (old : Trees) (olds : Parts) (c : PlacedCall) (results : List ℕ) : Type 0 where
  pub in_order : AllDeclareInOrder old
  pub statements : AreStatementParts olds
  pub no_types : AllWithout declares_types olds
  -- what is declared and needed is a result
  pub results_declared : AreResults l olds results c.types
  -- and no other local that counts is declared
  pub others_stay : (k : ℕ) → l k ≡ true → is_among results k ≡ false → AllWithout (declares k) olds
  -- the tokens of the call mean what they have to in the function of the scope t, in front of the statements
  pub written : IsWritten m l t front results c.types c.first c.declared c.types results c.targets c.function c.arguments c.parameters c.results

abbrev pub CallsTakeThePlace : Type 0
CallsTakeThePlace = (p q : ℕ → Bool) (m : Moves) (l : ℕ → Bool) (s t : Scope) (front : Frame) (old : Trees) (olds : Parts) (c : PlacedCall) (results : List ℕ)
    → CallFits m l t front old olds c results → TakesThePlace p q m l s t (record { front = front; old = old; new = call_trees c; olds = olds; news = written_call t c (map m.local results) })
