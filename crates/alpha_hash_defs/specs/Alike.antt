-- When words are alike, and what names must have in common.
use Rattle.std.specs.Prelude.{◌≡◌, ℕ, Bool, true, List, [], ◌∷◌}
use Rattle.go_typed.specs.Trees.{Sort, Typeds}
use Rattle.clone_window.specs.declared.outline.Outline.{Outline}
use Rattle.clone_window.specs.Sameness.{is_same, sort_at}
use Rattle.clone_window.specs.Fields.{window_fields_agree}
use Rattle.alpha_hash_defs.specs.Naming.{Naming}
use Rattle.alpha_hash_defs.specs.Numbers.{hash}
use Rattle.alpha_hash_defs.specs.Words.{Word, number, named}

-- Two rows of words are alike where they have the same numbers, and names of locals that are related at the same places.
abbrev pub AreAlike : (ℕ → ℕ → Bool) → List Word → List Word → Type 0
AreAlike related [] [] = Unit {0}
AreAlike related (number a ∷ ws) (number b ∷ vs) = (a ≡ b) × AreAlike related ws vs
AreAlike related (named a ∷ ws) (named b ∷ vs) = (related a b ≡ true) × AreAlike related ws vs
AreAlike related _ _ = ⊥

-- Locals are related one to one.
abbrev pub IsOneToOne : (ℕ → ℕ → Bool) → Type 0
IsOneToOne related = (a b c d : ℕ) → related a b ≡ true → related c d ≡ true → ((a ≡ c) → b ≡ d) × ((b ≡ d) → a ≡ c)

-- Identical types have one text, and an object has one name.
pub record NamesAgree {T : Type 0} (identical : T → T → Bool) (n m : Naming T) : Type 0 where
  pub types : (t u : T) → identical t u ≡ true → n.type_text t ≡ m.type_text u
  pub objects : (o : Outline) → n.object_text o ≡ m.object_text o

-- Runs of statements that are the same, and whose fields have the same names, have one number.
abbrev pub HashesAgree : {T : Type 0} → (T → T → Bool) → Naming T → Naming T → List (Sort T) → List (Sort T) → Type 0
HashesAgree {T} identical n m here there =
    NamesAgree identical n m → ((k : ℕ) → n.local_sort k ≡ sort_at here k) → ((k : ℕ) → m.local_sort k ≡ sort_at there k) → (ps qs : Typeds T) →
    is_same identical here there ps qs ≡ true → window_fields_agree n.field_text m.field_text ps qs ≡ true → hash n ps ≡ hash m qs
