-- Where in a file a name in a type means something else than it has to, as stretches of tokens.
use Rattle.std.specs.Prelude.{◌≡◌, ℕ, ◌<◌, ◌≤◌, ◌^◌, Bool, ◌&&◌, ◌||◌, not, if◌then◌else◌, nat_eq, nat_le, nat_lt, List, [], ◌∷◌, ◌++◌, IfSome}
use Rattle.std.specs.Borrow.{Bor}
use Rattle.std.specs.HashMap.{HashMap, get}
use Rattle.std.specs.HashSet as set
use Rattle.std.specs.List.{AllByRecursion, list_any}
use Rattle.go_scopes.specs.Resolve.{units_of}
use Rattle.go_tokens.specs.Spellings.{same_text}
use Rattle.go_tree.specs.Meanings.{meanings}
use Rattle.go_tree.specs.Objects.{object_at}
use Rattle.go_typed.specs.Packages.{PackageView}
use Rattle.escape_check.specs.declared.hidden_names.HiddenNames.{HiddenNames}
use Rattle.escape_check.specs.declared.stretches.Stretch.{Stretch}
use Rattle.escape_check.specs.Collecting.{names_of_type}
use Rattle.escape_check.specs.Places.{sources_in}
use Rattle.escape_check.specs.Texts.{same_bytes}
use Rattle.escape_check.specs.Types.{TypeName, means_type}

-- ---- stretches

abbrev pub covers : ℕ → Stretch → Bool
covers t s = nat_le s.from t && nat_lt t s.upto

-- They begin in order, and each ends no earlier than those in front of it.
abbrev pub AreOrdered : List Stretch → Type 0
AreOrdered [] = Unit
AreOrdered (s ∷ ss) = AllByRecursion (λ r. (s.from ≤ r.from) × (s.upto ≤ r.upto)) ss × AreOrdered ss

abbrev pub later : ℕ → ℕ → ℕ
later a b = if nat_lt a b then b else a

-- the same stretches, where each ends no earlier than those in front of it or than a token
abbrev pub reaching : ℕ → List Stretch → List Stretch
reaching r [] = []
reaching r (s ∷ ss) = record { from = s.from; upto = later r s.upto } ∷ reaching (later r s.upto) ss

-- a stretch, if a test holds at its first token
abbrev pub stretch_if : (ℕ → Bool) → ℕ → ℕ → List Stretch
stretch_if test from upto = if test from then record { from = from; upto = upto } ∷ [] else []

-- the stretches from a token on, between these tokens
abbrev pub stretches_from : (ℕ → Bool) → ℕ → List ℕ → List Stretch
stretches_from test from [] = stretch_if test from (2 ^ 32)
stretches_from test from (b ∷ bs) = stretch_if test from b ++ stretches_from test b bs

-- ---- hidden names

-- whether a name means something else at a token of a file than it has to
abbrev pub means_other : PackageView → ℕ → ℕ → TypeName → Bool
means_other p file token x = not (means_type (sources_in p) (object_at (meanings (units_of p.files)) file token x.name) x.type)

-- whether it is hidden there, where results have these names
abbrev pub is_hidden_at : PackageView → ℕ → ℕ → List (List ℕ) → TypeName → Bool
is_hidden_at p file token ws x = list_any (λ v. same_text v x.name) ws || means_other p file token x

-- The words are the names, and the stretches have just the tokens of the file at which one of the names means something else.
pub record AreHidden (p : PackageView) (file : ℕ) (names : List TypeName) (h : HiddenNames) : Type 0 where
  pub words : (w : Bor (List ℕ)) → set.contains same_bytes h.words w ≡ list_any (λ (x : TypeName). same_text x.name w.now) names
  pub order : AreOrdered h.stretches.items
  pub tokens : (t : ℕ) → t < 2 ^ 32 → list_any (covers t) h.stretches.items ≡ list_any (means_other p file t) names

abbrev pub same_pair : ℕ × ℕ → ℕ × ℕ → Bool
same_pair a b = nat_eq a.0 b.0 && nat_eq a.1 b.1

-- The map has for files and types where names of the type are hidden in the file.
abbrev pub KnowsHidden : {S : Type 0} → PackageView → HashMap (ℕ × ℕ) HiddenNames S → Type 0
KnowsHidden p m = (file t : ℕ) → IfSome (get same_pair m (file, t)) (λ h. AreHidden p file (names_of_type p t) h)
