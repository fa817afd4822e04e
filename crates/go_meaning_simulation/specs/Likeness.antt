-- How values and worlds of two runs may differ that do the same.
use Rattle.std.specs.Prelude.{◌≡◌, ℕ, ℤ, Bool, true, false, List, [], ◌∷◌, ◌++◌, take, drop}
use Rattle.go_types_relations.specs.Zeros.{Zero}
use Rattle.go_meaning.specs.Values.{Value, Truth, Whole, Function, nth, is_true, zero_value}
use Rattle.go_meaning.specs.Computations.{World}
use Rattle.go_meaning.specs.Operations.{Operation, Items, Deed, Gives, Traps, perform, item_count}

abbrev pub DeedLike : (List Value → List Value → Type 0) → (World → World → Type 0) → Deed → Deed → Type 0
DeedLike V W (Gives vs w) (Gives vs' w') = V vs vs' × W w w'
DeedLike V W (Traps p) (Traps p') = p ≡ p'
DeedLike V W (Gives vs w) (Traps p') = ⊥
DeedLike V W (Traps p) (Gives vs' w') = ⊥

abbrev pub is_function : Value → Bool
is_function (Function g) = true
is_function v = false

-- two function values that are called alike: functions that correspond, or none
pub data CalledAlike (C : ℕ → ℕ → Type 0) : Value → Value → Type 0 where
  functions : {g g' : ℕ} → C g g' → CalledAlike C (Function g) (Function g')
  none : {v v' : Value} → is_function v ≡ false → is_function v' ≡ false → CalledAlike C v v'

-- How values and worlds of the two sides are alike. All that operations do is alike on what is alike.
pub record Likeness : Type 1 where
  pub values : List Value → List Value → Type 0
  pub worlds : World → World → Type 0
  -- the functions that correspond
  pub calls : ℕ → ℕ → Type 0
  pub outputs : (w w' : World) → worlds w w' → w.output ≡ w'.output
  pub nothing : values [] []
  pub joins : (us us' vs vs' : List Value) → values us us' → values vs vs' → values (us ++ vs) (us' ++ vs')
  pub fronts : (n : ℕ) (vs vs' : List Value) → values vs vs' → values (take n vs) (take n vs')
  pub rests : (n : ℕ) (vs vs' : List Value) → values vs vs' → values (drop n vs) (drop n vs')
  pub picks : (n : ℕ) (vs vs' : List Value) → values vs vs' → values (nth vs n ∷ []) (nth vs' n ∷ [])
  pub truths : (v v' : Value) → values (v ∷ []) (v' ∷ []) → is_true v ≡ is_true v'
  pub counts : (items : Items) (v v' : Value) → values (v ∷ []) (v' ∷ []) → item_count items v ≡ item_count items v'
  pub called : (v v' : Value) → values (v ∷ []) (v' ∷ []) → CalledAlike calls v v'
  pub zeros : (z : Zero) → values (zero_value z ∷ []) (zero_value z ∷ [])
  pub truth : (b : Bool) → values (Truth b ∷ []) (Truth b ∷ [])
  pub number : (z : ℤ) → values (Whole z ∷ []) (Whole z ∷ [])
  pub performs : (o : Operation) (vs vs' : List Value) (w w' : World) → values vs vs' → worlds w w' → DeedLike values worlds (perform o vs w) (perform o vs' w')

-- two likenesses, one of which is the other one turned round
pub record Mirror (L M : Likeness) : Type 0 where
  pub values : (vs vs' : List Value) → L.values vs vs' → M.values vs' vs
  pub values_back : (vs vs' : List Value) → M.values vs' vs → L.values vs vs'
  pub worlds : (w w' : World) → L.worlds w w' → M.worlds w' w
  pub calls : (g g' : ℕ) → L.calls g g' → M.calls g' g
  pub calls_back : (g g' : ℕ) → M.calls g' g → L.calls g g'
