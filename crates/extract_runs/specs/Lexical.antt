-- Lexical scoping of typed trees (Go specification: Declarations and scope). A scope is the list of the locals that are in scope.
-- A statement that declares a local puts it in front of the list for the statements behind it, and at its end a block forgets.
use Rattle.std.specs.Prelude.{◌≡◌, ℕ, Bool, true, if◌then◌else◌, ◌⊎◌, List, [], ◌∷◌, ◌++◌}
use Rattle.go_meaning_simulation.specs.Links.{Links}
use Rattle.go_meaning_simulation.specs.Locals.{Linked, Link, Inside, May, In}

-- All locals that are named, written and declared have these properties, and a `return` may stand there or not.
pub record Locals : Type 1 where
  pub named : ℕ → Type 0
  pub written : ℕ → Type 0
  pub declared : ℕ → Type 0
  pub returns : Type 0

abbrev pub lexical_links : Locals → Links
lexical_links n = record {
  Scope = List ℕ;
  values = λ vs vs'. Unit {0};
  reads = λ s i j. In i s × n.named i;
  writes = λ s i j. n.written i;
  declares = λ s i j s1. n.declared i × (s1 ≡ i ∷ s);
  forgets = λ s s1. (k : ℕ) → In k s1 → In k s;
  holds = λ s v p. ⊥;
  held = λ s p v. ⊥;
  windows = λ s s1 ws ws'. ⊥;
  cost = 0;
  factor = 0;
  returns = n.returns;
}

-- ---- outside of windows

-- what is named, written or declared there is linked
abbrev pub linked_locals : Linked → (ℕ → ℕ) → Locals
linked_locals J local = record { named = λ i. Link J i (local i); written = λ i. Link J i (local i); declared = λ i. Link J i (local i); returns = Unit {0} }

-- ---- in a window

-- What is named in it is linked, and was declared in it or is free; what it writes is a result or declared in it.
abbrev pub window_locals : Inside → (ℕ → ℕ) → (own : ℕ → Bool) (free : List ℕ) → Locals
window_locals I local own free = record {
  named = λ i. Link I.locals i (local i) × ((own i ≡ true) ⊎ In i free);
  written = λ i. Link I.locals i (local i) × May I i;
  declared = λ i. Link I.locals i (local i) × May I i × (own i ≡ true);
  returns = ⊥;
}

-- those of a list that are declared in the window
abbrev pub own_of : (ℕ → Bool) → List ℕ → List ℕ
own_of own [] = []
own_of own (i ∷ s) = if own i then i ∷ own_of own s else own_of own s

-- the scope at a place of the window where these are in scope
abbrev pub known : (own : ℕ → Bool) (free : List ℕ) → List ℕ → List ℕ
known own free s = own_of own s ++ free
