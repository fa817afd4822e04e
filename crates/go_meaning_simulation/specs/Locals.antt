-- The links of two kinds of trees: the body of a function, and a window against the function that stands for it.
use Rattle.std.specs.Prelude.{◌≡◌, ℕ, Bool, true, false, ◌<◌, ◌⊎◌, List, [], ◌∷◌, length, Option, Some, None}
use Rattle.go_types.specs.Trees.{TypeTree}
use Rattle.go_typed.specs.Trees.{Typeds}
use Rattle.go_meaning.specs.Values.{Value, nth}
use Rattle.go_meaning_simulation.specs.Links.{Links}

abbrev pub In : ℕ → List ℕ → Type 0
In i [] = ⊥
In i (j ∷ s) = (i ≡ j) ⊎ In i s

-- the locals of an old function that stand for those of a new one, each for one, and how many locals there are
pub record Linked : Type 0 where
  pub linked : ℕ → ℕ → Bool
  pub count : ℕ
  pub new_count : ℕ
  pub one : (i j k : ℕ) → linked i j ≡ true → linked i k ≡ true → j ≡ k
  pub back_one : (i h j : ℕ) → linked i j ≡ true → linked h j ≡ true → i ≡ h
  pub in_old : (i j : ℕ) → linked i j ≡ true → i < count
  pub in_new : (i j : ℕ) → linked i j ≡ true → j < new_count

-- what stands outside of functions has no locals
abbrev pub none_linked : ℕ → ℕ → Bool
none_linked i j = false

pub none_is_linked : (i j : ℕ) → none_linked i j ≡ true → ⊥
none_is_linked i j e = absurd cc

abbrev pub no_locals : Linked
no_locals = record {
  linked = none_linked;
  count = 0;
  new_count = 0;
  one = λ i j k a b. absurd (none_is_linked i j a);
  back_one = λ i k j a b. absurd (none_is_linked i j a);
  in_old = λ i j a. absurd (none_is_linked i j a);
  in_new = λ i j a. absurd (none_is_linked i j a);
}

abbrev pub Link : Linked → ℕ → ℕ → Type 0
Link I i j = I.linked i j ≡ true

-- parameters that stand for one another: linked locals, or unnamed on both sides
pub data AreLinked (I : Linked) : List (Option ℕ) → List (Option ℕ) → Type 0 where
  nothing : AreLinked I [] []
  unnamed : {ps ps' : List (Option ℕ)} → AreLinked I ps ps' → AreLinked I (None ∷ ps) (None ∷ ps')
  named : {i j : ℕ} {ps ps' : List (Option ℕ)} → Link I i j → AreLinked I ps ps' → AreLinked I (Some i ∷ ps) (Some j ∷ ps')

abbrev pub InPairs : Value → ℕ → List (Value × ℕ) → Type 0
InPairs v p [] = ⊥
InPairs v p (h ∷ hs) = ((v ≡ h.0) × (p ≡ h.1)) ⊎ InPairs v p hs

-- In a window: the old locals that it may write, since they are results or declared in it, and the constants that parameters hold.
pub record Inside : Type 0 where
  pub locals : Linked
  pub may : ℕ → Bool
  pub held : List (Value × ℕ)
  -- a parameter that holds a constant stands for no local
  pub apart : (v : Value) (p i : ℕ) → InPairs v p held → locals.linked i p ≡ true → ⊥

abbrev pub May : Inside → ℕ → Type 0
May I i = I.may i ≡ true

abbrev pub Hole : Inside → Value → ℕ → Type 0
Hole I v p = InPairs v p I.held

-- in a body without windows, and in a window
abbrev pub none_here : Typeds TypeTree → Typeds TypeTree → Type 0
none_here ws ws' = ⊥

abbrev pub no_windows : {Scope : Type 0} → Scope → Scope → Typeds TypeTree → Typeds TypeTree → Type 0
no_windows s s' ws ws' = ⊥

-- the links in a window; a scope is the list of the old locals that are known so far
abbrev pub window_links : (List Value → List Value → Type 0) → Inside → Links
window_links V I = record {
  Scope = List ℕ;
  values = V;
  reads = λ s i j. In i s × Link I.locals i j;
  writes = λ s i j. Link I.locals i j × May I i;
  declares = λ s i j s1. Link I.locals i j × May I i × ((k : ℕ) → In k s1 → In k (i ∷ s));
  forgets = λ s s1. (i : ℕ) → In i s1 → In i s;
  holds = λ s v p. Hole I v p;
  held = λ s p v. ⊥;
  windows = no_windows;
  cost = 0;
  factor = 1;
  returns = ⊥;
}

-- the links in a body; all that is linked is known at all places
abbrev pub body_links : (List Value → List Value → Type 0) → Linked → (Typeds TypeTree → Typeds TypeTree → Type 0) → (cost factor : ℕ) → Links
body_links V I windows cost factor = record {
  Scope = Unit {0};
  values = V;
  reads = λ s i j. Link I i j;
  writes = λ s i j. Link I i j;
  declares = λ s i j s1. Link I i j;
  forgets = λ s s1. Unit {0};
  holds = λ s v p. ⊥;
  held = λ s p v. ⊥;
  windows = λ s s1 ws ws'. windows ws ws';
  cost = cost;
  factor = factor;
  returns = Unit {0};
}

-- ---- frames

module _ (V : List Value → List Value → Type 0) where
  -- the frames of a body in both packages
  pub record Agree (I : Linked) (f f' : List Value) : Type 0 where
    pub long : length f ≡ I.count
    pub fits : length f' ≡ I.new_count
    pub same : (i j : ℕ) → Link I i j → V (nth f i ∷ []) (nth f' j ∷ [])

  -- Those of a window that is entered with the frame f0, and of the function that stands for it, where the locals of s are known.
  -- What the window may not write is as it was.
  pub record Within (I : Inside) (f0 : List Value) (s : List ℕ) (f f' : List Value) : Type 0 where
    pub long : length f ≡ I.locals.count
    pub fits : length f' ≡ I.locals.new_count
    pub same : (i j : ℕ) → In i s → Link I.locals i j → V (nth f i ∷ []) (nth f' j ∷ [])
    pub kept : (i : ℕ) → (May I i → ⊥) → nth f i ≡ nth f0 i
    pub holes : (v : Value) (p : ℕ) → Hole I v p → V (v ∷ []) (nth f' p ∷ [])
