-- A function with an empty body that is appended to a file of a package.
use Rattle.std.specs.Prelude.{◌≡◌, ◌<◌, ◌≤◌, ℕ, suc, Bool, true, false, List, [], ◌∷◌, ◌++◌, length, map, Option, Some, None, Ok, codes}
use Rattle.std.specs.List.{AllByRecursion}
use Rattle.std.specs.Option.{option_map}
use Rattle.go_grammar.specs.declared.kind.Category.TheVariants as category
use Rattle.go_grammar.specs.declared.kind.Kind.TheVariants as kind
use Rattle.go_grammar.specs.Grammar.{Derives}
use Rattle.go_grammar.specs.Trees.{Tree, node, Trees, none, more, first, last}
use Rattle.go_rewriting.specs.Places.{with_declaration}
use Rattle.go_tokens.specs.Spellings.{same_text}
use Rattle.go_tokens.specs.Tokens.{TokenList, kinds}
use Rattle.go_tree.specs.Declarations.{Found}
use Rattle.go_tree.specs.Duplicates.{second_members}
use Rattle.go_tree.specs.Events.{events}
use Rattle.go_tree.specs.Faults.{lookup_faults}
use Rattle.go_tree.specs.Lookups.{asked_in}
use Rattle.go_tree.specs.Meanings.{meanings}
use Rattle.go_tree.specs.Units.{word, is_blank, is_fmt}
use Rattle.go_tree.specs.declared.object.Object.{Object}
use Rattle.go_tree.specs.Uses.{uses, object_of}
use Rattle.go_exprs_rules.specs.Sorts.{Stands}
use Rattle.go_heads_added.specs.Added.{shifted}
use Rattle.go_package_alike.specs.Scopes.{AllTokens}
use Rattle.go_heads_added.specs.Appended.{IsFront, context_behind, empty_function}
use Rattle.go_heads_added.specs.Kept.{KeepsPackage, needed_after}
use Rattle.go_heads_added.specs.Reported.{NamesShared}
use Rattle.go_package_defs.specs.Answer.{Environment, package_answer, specifications}
use Rattle.go_package_defs.specs.Declarations.{Specification, function}
use Rattle.go_package_defs.specs.Knowledge.{Outline, outlines, State}
use Rattle.go_package_defs.specs.Sources.{Source, Package, unit_of, package_of, text_at, needed_numbers, rounds, declared_at, needed_at}
use Rattle.go_package_defs.specs.Verdicts.{known}
use Rattle.go_package_added.specs.OneMore.{IsSignature, IsSignatureBefore, with_function}

-- The file of the number k has a function with an empty body behind what it had, and the other files are as they were.
pub record IsAppended (k : ℕ) (ss us : List Source) : Type 0 where
  pub before : List Source
  pub behind : List Source
  -- the tokens of the file, and of the longer one; as many as the file had
  pub old_tokens : TokenList
  pub new_tokens : TokenList
  pub count : ℕ
  pub declarations : Trees
  -- where the longer file ends, where the function begins and ends, and where its body does
  pub end : ℕ
  pub first : ℕ
  pub last : ℕ
  pub opens : ℕ
  pub closes : ℕ
  pub signature : Tree
  pub was : ss ≡ before ++ record { tokens = old_tokens; tree = node kind.File 0 count declarations } ∷ behind
  pub is : us ≡ before ++ record { tokens = new_tokens; tree = with_declaration (node kind.File 0 count declarations) (empty_function first last signature opens closes) end } ∷ behind
  pub place : length before ≡ k
  pub front : IsFront count old_tokens new_tokens
  pub derives : Derives (kinds new_tokens.tokens) category.Declaration (empty_function first last signature opens closes)
  pub later : count ≤ first
  pub named : is_blank (word new_tokens (suc first)) ≡ false

-- the function, and its name
abbrev pub function_tree : (k : ℕ) (ss us : List Source) → IsAppended k ss us → Tree
function_tree k ss us h = empty_function h.first h.last h.signature h.opens h.closes

abbrev pub function_name : (k : ℕ) (ss us : List Source) → IsAppended k ss us → List ℕ
function_name k ss us h = word h.new_tokens (suc h.first)

-- What is asked of the function for the names of the longer package to be free of faults: its name may be that of a function, and no token of
-- its signature says it; no two of its parameters have one name; and no rule fails at the names that it looks up.
pub record FitsNames (k : ℕ) (ss us : List Source) (h : IsAppended k ss us) : Type 0 where
  pub initial : same_text (function_name k ss us h) (codes "init") ≡ false
  pub imported : is_fmt (function_name k ss us h) ≡ false
  pub own : (i : ℕ) → first h.signature ≤ i → i < last h.signature → same_text (function_name k ss us h) (word h.new_tokens i) ≡ false
  pub members : second_members [] k h.new_tokens (events (context_behind h.end h.declarations (function_tree k ss us h)) (function_tree k ss us h)) ≡ []
  pub asks : lookup_faults (asked_in (meanings (map unit_of us)) k h.new_tokens (events (context_behind h.end h.declarations (function_tree k ss us h)) (function_tree k ss us h))) ≡ []

-- ---- what is needed, at once or through others

-- the objects of the package that a declaration needs by way of at most two more than `needed_at` looks at
abbrev pub further_from : Package → ℕ → Bool → Option Found → List ℕ
further_from p column full None = []
further_from p column full (Some d) = needed_numbers p (needed_after p.asked (suc (suc (rounds p))) (record { it = record d { it = record d.it { column = column } }; full = full }))

abbrev pub needed_further : Package → ℕ → ℕ → ℕ → Bool → List ℕ
needed_further p n t column full = further_from p column full (declared_at n t p.declared)

-- What the name at the token declares needs no others in two rounds more.
abbrev pub IsClosed : Package → ℕ → ℕ → Type 0
IsClosed p n t = (column : ℕ) (full : Bool) → needed_further p n t column full ≡ needed_at p n t column full

-- So it is with the objects of the package.
abbrev pub AreClosed : Package → Type 0
AreClosed p = AllByRecursion (λ d. IsClosed p d.file d.name) p.uses.package_level

-- ---- the answer

abbrev pub package_in : List Source → Package
package_in ss = package_of ss (uses (map unit_of ss))

abbrev pub outlines_in : List Source → List Outline
outlines_in ss = outlines (package_in ss) (specifications 0 ss)

-- what is known of the objects of a package in the end
abbrev pub found_in : List Source → List State
found_in ss = known (package_in ss) (outlines_in ss) (rounds (package_in ss))

-- the function as a specification
abbrev pub function_specification : (k : ℕ) (ss us : List Source) → IsAppended k ss us → Specification
function_specification k ss us h = function k (function_tree k ss us h) h.first h.last (more h.signature (more (node kind.Block h.opens h.closes none) none))

-- The package keeps what its names mean and what its declarations need. And if it has an answer, the longer one has it too, with the
-- function's type at its number, where the function isn't called `main` and no rule fails in its signature.
pub record AnswersWith (k : ℕ) (ss us : List Source) (h : IsAppended k ss us) : Type 0 where
  pub keeps : KeepsPackage k h.count (suc h.first) (map unit_of ss) (map unit_of us)
  pub answer : same_text (function_name k ss us h) (codes "main") ≡ false → (s : Stands)
      → IsSignature (package_in us) (outlines_in us) keeps.gap.shared (function_specification k ss us h) 0 (found_in ss) s
      → (x : Environment) → package_answer ss (uses (map unit_of ss)) ≡ Ok x → package_answer us (uses (map unit_of us)) ≡ Ok (with_function keeps.gap.shared s x)
  -- and it has no other
  pub before : same_text (function_name k ss us h) (codes "main") ≡ false → (s : Stands)
      → IsSignature (package_in us) (outlines_in us) keeps.gap.shared (function_specification k ss us h) 0 (found_in ss) s
      → (z : Environment) → package_answer us (uses (map unit_of us)) ≡ Ok z → (x : Environment) × (package_answer ss (uses (map unit_of ss)) ≡ Ok x) × (z ≡ with_function keeps.gap.shared s x)
  -- the signature may be judged by what its names mean in the package without it
  pub signature : same_text (function_name k ss us h) (codes "main") ≡ false → (test : ℕ → Bool) (meant : ℕ → Option Object)
      → ((i : ℕ) → test i ≡ true → object_of (uses (map unit_of us)) k i ≡ option_map (shifted keeps.gap) (meant i)) → AllTokens test h.signature → (s : Stands)
      → IsSignatureBefore (package_in ss) (outlines_in ss) (function_specification k ss us h) 0 (text_at (package_in us) k) meant (found_in ss) s
      → IsSignature (package_in us) (outlines_in us) keeps.gap.shared (function_specification k ss us h) 0 (found_in ss) s

-- The names of the function's signature mean objects of the package, or predeclared ones.
abbrev pub SharesNames : (k : ℕ) (ss us : List Source) → IsAppended k ss us → Type 0
SharesNames k ss us h = NamesShared k h.new_tokens (events (context_behind h.end h.declarations (function_tree k ss us h)) (function_tree k ss us h)) (map unit_of us)
