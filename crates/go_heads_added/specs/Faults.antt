-- What is asked of a function that is appended, so that no rule on names fails at it.
use Rattle.std.specs.Prelude.{◌≡◌, ℕ, ◌<◌, true, false, nat_eq, List, [], Option, Some, None, codes}
use Rattle.std.specs.List.{AllByRecursion}
use Rattle.go_tokens.specs.Spellings.{same_text}
use Rattle.go_tokens.specs.Tokens.{TokenList}
use Rattle.go_tree.specs.declared.event.Event.{Event}
use Rattle.go_tree.specs.Declarations.{Found}
use Rattle.go_tree.specs.Duplicates.{second_members}
use Rattle.go_tree.specs.Faults.{lookup_faults}
use Rattle.go_tree.specs.Lookups.{asked_in}
use Rattle.go_tree.specs.Meanings.{Meaning, meanings}
use Rattle.go_tree.specs.Units.{Unit, is_fmt}
use Rattle.go_heads_added.specs.Added.{IsAdded}
use Rattle.go_heads_added.specs.Within.{EventWithin, IsOfFunction}

-- what a name means is declared in another file, or in front of the token n
abbrev pub SourceIsOuter : ℕ → ℕ → Option Found → Type 0
SourceIsOuter k n None = Prim.Unit {0}
SourceIsOuter k n (Some d) = nat_eq d.file k ≡ true → d.it.name < n

abbrev pub MeansOuter : ℕ → ℕ → Option Meaning → Type 0
MeansOuter k n None = Prim.Unit {0}
MeansOuter k n (Some m) = SourceIsOuter k n m.source

-- Its name may be that of a function; it tells what a function with an empty body does; no two of its parameters have one name; no rule fails
-- at the names that it looks up; and these mean what is declared elsewhere.
pub record FunctionIsFine (k n : ℕ) (name : List ℕ) (old new : List Unit) (h : IsAdded k n name old new) : Type 0 where
  pub initial : same_text name (codes "init") ≡ false
  pub imported : is_fmt name ≡ false
  pub tells : AllByRecursion (IsOfFunction n) h.longer.added
  pub members : second_members [] k h.b.tokens h.longer.added ≡ []
  pub asks : lookup_faults (asked_in (meanings new) k h.b.tokens h.longer.added) ≡ []
  pub outer : AllByRecursion (λ a. MeansOuter k n a.meaning) (asked_in (meanings new) k h.b.tokens h.longer.added)

-- The file that the function is appended to has a package clause, and tells of tokens that it has.
pub record FileIsWithin (k n : ℕ) (name : List ℕ) (old new : List Unit) (h : IsAdded k n name old new) : Type 0 where
  pub clause : 1 < n
  pub events : AllByRecursion (EventWithin n) h.a.events

-- What is asked of a function with an empty body besides its derivation, by what it tells: its name may be that of a function; no two of its
-- parameters have one name; no rule fails at the names that it looks up; and these mean what is declared elsewhere.
pub record MayBeAdded (k n : ℕ) (name : List ℕ) (b : TokenList) (told : List Event) (new : List Unit) : Type 0 where
  pub initial : same_text name (codes "init") ≡ false
  pub imported : is_fmt name ≡ false
  pub members : second_members [] k b told ≡ []
  pub asks : lookup_faults (asked_in (meanings new) k b told) ≡ []
  pub outer : AllByRecursion (λ a. MeansOuter k n a.meaning) (asked_in (meanings new) k b told)
