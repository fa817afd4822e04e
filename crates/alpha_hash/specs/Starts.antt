-- The words of the statements of a list, and the numbers of the windows from one start.
use Rattle.std.specs.Prelude.{◌≡◌, ◌≤◌, ℕ, ◌+◌, All, Bool, false, ◌&&◌, nat_eq, nat_le, List, [], ◌∷◌, length, Option, Some, None, slice_get, unwrap_or}
use Rattle.go_typed.specs.declared.node.TypedNode.{TypedNode}
use Rattle.go_typed.specs.declared.window.Window.{Window}
use Rattle.go_typed.specs.Packages.{PackageView}
use Rattle.go_typed.specs.Trees.{Nothing, Typeds, none, more, skip}
use Rattle.go_typed.specs.Views.{view}
use Rattle.alpha_hash_defs.specs.Naming.{Naming}
use Rattle.alpha_hash_defs.specs.Packages.{statements_in, window_hash, window_naming}
use Rattle.alpha_hash_defs.specs.Words.{Word, window_words, words}
use Rattle.alpha_hash.specs.declared.list_words.ListWords.{ListWords}
use Rattle.alpha_hash.specs.declared.start.Start.{Start}
use Rattle.alpha_hash.specs.declared.starts.Starts.{Starts}
use Rattle.alpha_hash.specs.Shown.{shown}

-- ---- words of lists

-- the words of a statement
abbrev pub statement_words : Naming ℕ → Option TypedNode → List Word
statement_words n None = []
statement_words n (Some p) = words n false false Nothing (view p)

-- how many words stand in front of each statement, and behind the last one, where so many stand in front of the first
abbrev pub ends_from : Naming ℕ → ℕ → Typeds ℕ → List ℕ
ends_from n m none = m ∷ []
ends_from n m (more p ps) = m ∷ ends_from n (m + length (words n false false Nothing p)) ps
ends_from n m (skip ps) = m ∷ ends_from n m ps

-- the words are those of these statements, with their ends
pub record AreWordsOf (n : Naming ℕ) (ps : Typeds ℕ) (l : ListWords) : Type 0 where
  pub words_are : shown l.words.items ≡ window_words n ps
  pub ends_are : l.ends.items ≡ ends_from n 0 ps

-- the words are those of the statements of the run, with their ends
abbrev pub HasWords : PackageView → ListWords → Type 0
HasWords p l = AreWordsOf (window_naming p l.run) (statements_in p l.run) l

-- ---- numbers of starts

-- the run of so many statements from the same start
abbrev pub with_count : Window → ℕ → Window
with_count w n = record { func = w.func; list = w.list; first = w.first; count = n }

-- the number at some place, and 0 where there is none
abbrev pub number_of : List ℕ → ℕ → ℕ
number_of ns k = unwrap_or (slice_get ns k) 0

-- a window begins where the numbers do, and has no more statements than the longest run
abbrev pub covers : Start → Window → Bool
covers s w = nat_eq s.run.func w.func && nat_eq s.run.list w.list && nat_eq s.run.first w.first && nat_le w.count s.run.count

-- the numbers are those of the windows from the start, up to the longest run
abbrev pub IsStart : PackageView → Start → Type 0
IsStart p s = (n : ℕ) → n ≤ s.run.count → number_of s.numbers.items n ≡ window_hash p (with_count s.run n)

abbrev pub AreStarts : PackageView → Starts → Type 0
AreStarts p s = All (IsStart p) s.starts.items
