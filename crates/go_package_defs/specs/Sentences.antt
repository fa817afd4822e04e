-- Packages for worked examples: their files as words, each with its kind, with a blank behind each word.
use Rattle.std.specs.Prelude.{ℕ, suc, ◌+◌, List, [], ◌∷◌, ◌++◌, length, map, Option, Some, None, Result, Ok, Err}
use Rattle.go_base.specs.declared.fault.FaultCode.{FaultCode}
use Rattle.go_grammar.specs.declared.kind.Category.TheVariants as category
use Rattle.go_grammar.specs.declared.kind.Kind.TheVariants as kind
use Rattle.go_grammar.specs.Reader.{read}
use Rattle.go_grammar.specs.Trees.{Tree, node, none}
use Rattle.go_tokens.specs.declared.token.Token.{Token}
use Rattle.go_tokens.specs.declared.token.TokenKind.{TokenKind}
use Rattle.go_tokens.specs.Lexing.{token}
use Rattle.go_tokens.specs.Tokens.{TokenList, kinds}
use Rattle.go_tree.specs.Failures.{Failure}
use Rattle.go_tree.specs.Uses.{uses}
use Rattle.go_exprs_rules.specs.Sorts.{Stands}
use Rattle.go_package_defs.specs.Sources.{Source, unit_of}
use Rattle.go_package_defs.specs.Answer.{Environment, package_answer}
use Rattle.go_package_defs.specs.Checked.{Typing, sources_answer}

abbrev pub Word : Type 0
Word = TokenKind × List ℕ

abbrev pub spelled : List Word → List ℕ
spelled [] = []
spelled (w ∷ ws) = w.1 ++ 32 ∷ spelled ws

-- the tokens of words from the byte at on
abbrev pub placed : ℕ → ℕ → List Word → List Token
placed n at [] = []
placed n at (w ∷ ws) = token n w.0 at (length w.1) ∷ placed n (at + length w.1 + 1) ws

abbrev pub lexed : ℕ → List Word → TokenList
lexed n ws = record { file = n; text = spelled ws; tokens = placed n 0 ws; comments = [] }

abbrev pub tree_or_none : Option Tree → Tree
tree_or_none (Some t) = t
tree_or_none None = node kind.File 0 0 none

-- what the reader finds, in so many steps
abbrev pub parsed : TokenList → Source
parsed ts = record { tokens = ts; tree = tree_or_none (read 300 (kinds ts.tokens) 101 category.File 0) }

abbrev pub sources_from : ℕ → List (List Word) → List Source
sources_from n [] = []
sources_from n (ws ∷ wss) = parsed (lexed n ws) ∷ sources_from (suc n) wss

abbrev pub objects_in : Result Environment Failure → Result (List Stands) Failure
objects_in (Ok e) = Ok e.objects
objects_in (Err f) = Err f

abbrev pub stated_by : List Source → Result (List Stands) Failure
stated_by ss = objects_in (package_answer ss (uses (map unit_of ss)))

-- what the objects of the package stand for, or the fault that is reported of its declarations
abbrev pub stated : List (List Word) → Result (List Stands) Failure
stated wss = stated_by (sources_from 0 wss)

abbrev pub fault : FaultCode → ℕ → ℕ → ℕ → Result (List Stands) Failure
fault c n i j = Err (record { code = c; place = record { file = n; start = i; end = j } })

-- ---- whole packages

abbrev pub fault_of : Result Typing Failure → Option Failure
fault_of (Ok t) = None
fault_of (Err f) = Some f

-- the fault that is reported of a package, or none
abbrev pub reported : List (List Word) → Option Failure
reported wss = fault_of (sources_answer (sources_from 0 wss))

abbrev pub checked_fault : FaultCode → ℕ → ℕ → ℕ → Option Failure
checked_fault c n i j = Some (record { code = c; place = record { file = n; start = i; end = j } })

abbrev pub said : {A : Type 0} → (Typing → A) → Result Typing Failure → Option A
said g (Ok t) = Some (g t)
said g (Err f) = None

-- what g tells of a package that type-checks
abbrev pub told_of : {A : Type 0} → (Typing → A) → List (List Word) → Option A
told_of g wss = said g (sources_answer (sources_from 0 wss))
