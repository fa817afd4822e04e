-- A window and the call in its place, as the meaning sees them: what goes in, and what comes back.
use Rattle.std.specs.Prelude.{◌≡◌, ℕ, ◌<◌, ◌⊎◌, List, [], ◌∷◌, Option, Some, None}
use Rattle.go_meaning.specs.Values.{Value}
use Rattle.go_meaning_simulation.specs.Locals.{In, Linked, Link, Inside, May}
use Rattle.extract_call.specs.Calls.{Argument, Passed, Given, Fresh}

abbrev pub InOptions : ℕ → List (Option ℕ) → Type 0
InOptions j [] = ⊥
InOptions j (None ∷ os) = InOptions j os
InOptions j (Some i ∷ os) = (j ≡ i) ⊎ InOptions j os

abbrev pub InFresh : ℕ → List Fresh → Type 0
InFresh j [] = ⊥
InFresh j (y ∷ ys) = (j ≡ y.local) ⊎ InFresh j ys

-- the local j gets what the local p of the new function held
abbrev pub Lands : (j p : ℕ) → List (Option ℕ) → List ℕ → Type 0
Lands j p [] rs = ⊥
Lands j p (o ∷ os) [] = ⊥
Lands j p (None ∷ os) (r ∷ rs) = Lands j p os rs
Lands j p (Some i ∷ os) (r ∷ rs) = ((j ≡ i) × (p ≡ r) × (InOptions j os → ⊥)) ⊎ Lands j p os rs

abbrev pub IsHeld : ℕ → List (Value × ℕ) → Type 0
IsHeld p [] = ⊥
IsHeld p (h ∷ hs) = (p ≡ h.1) ⊎ IsHeld p hs

-- Parameters of the new function and arguments in the body of the old one: which old local is passed, and which constant is given;
-- the arguments are read once the locals of ys are declared.
pub data Bound (V : List Value → List Value → Type 0) (J : Linked) (I : Inside) (ys : List Fresh) : List (Option ℕ) → List Argument → List ℕ → List (Value × ℕ) → Type 0 where
  none : Bound V J I ys [] [] [] []
  passes : {i j p : ℕ} {ps : List (Option ℕ)} {xs : List Argument} {s : List ℕ} {hs : List (Value × ℕ)} → Link J i j → (InFresh j ys → ⊥) → Link I.locals i p →
      Bound V J I ys ps xs s hs → Bound V J I ys (Some p ∷ ps) (Passed j ∷ xs) (i ∷ s) hs
  holds : {v v' : Value} {p : ℕ} {ps : List (Option ℕ)} {xs : List Argument} {s : List ℕ} {hs : List (Value × ℕ)} → V (v ∷ []) (v' ∷ []) → p < I.locals.new_count →
      ((i : ℕ) → Link I.locals i p → ⊥) → (IsHeld p hs → ⊥) → Bound V J I ys ps xs s hs → Bound V J I ys (Some p ∷ ps) (Given v' ∷ xs) s ((v, p) ∷ hs)

-- the old local i may not be written by the window, nor the new local j by the call
abbrev pub Stays : Inside → List (Option ℕ) → List Fresh → (i j : ℕ) → Type 0
Stays I os ys i j = (May I i → ⊥) × (InOptions j os → ⊥) × (InFresh j ys → ⊥)

-- the new local j gets what the old local i holds behind the window, where the locals of s are known
abbrev pub ComesBack : Inside → List ℕ → List (Option ℕ) → List ℕ → (i j : ℕ) → Type 0
ComesBack I s os rs i j = (p : ℕ) × Link I.locals i p × In i s × Lands j p os rs

-- What is linked in the body is either written by neither, or a result.
abbrev pub Comes : Linked → Inside → List ℕ → List (Option ℕ) → List ℕ → List Fresh → Type 0
Comes J I s os rs ys = (i j : ℕ) → Link J i j → Stays I os ys i j ⊎ ComesBack I s os rs i j
