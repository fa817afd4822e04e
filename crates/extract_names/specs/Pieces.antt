-- What a tree tells of names where other statements stand in the place of some (Go specification: Blocks, Statement lists).
use Rattle.std.specs.Prelude.{◌≡◌, ℕ, suc, Bool, true, false, ◌&&◌, not, List, [], ◌∷◌, ◌++◌, map}
use Rattle.go_grammar.specs.declared.kind.Kind.{Kind}
use Rattle.go_grammar.specs.declared.kind.Kind.TheVariants as kind
use Rattle.go_grammar.specs.Trees.{Tree, node, Trees, none, more, skip}
use Rattle.go_grammar.specs.Grammar.{ends_named}
use Rattle.go_rewriting.specs.Places.{Patch, Patches, keep, put, inside, done, part, run, has_items, items_behind}
use Rattle.go_rewriting.specs.Lists.{so_many}
use Rattle.go_tree.specs.declared.context.Context.{Context}
use Rattle.go_tree.specs.declared.event.Event.{Event}
use Rattle.go_tree.specs.Contexts.{enter}
use Rattle.go_tree.specs.Events.{own_events, statement_events, is_more, events, events_of}
use Rattle.go_scopes_bodies.specs.Carried.{KeepsName, KeepsNames, AllKeepNames, carried_context, carried_event}
use Rattle.go_scopes_bodies.specs.Listed.{list_context, told_list, AreStatements}

-- ---- which patches

-- the kinds below which lists of statements stand: functions, the statements that hold blocks, blocks and clauses
abbrev pub leads_to_lists : Kind → Bool
leads_to_lists kind.FunctionDeclaration = true
leads_to_lists kind.Block = true
leads_to_lists kind.If = true
leads_to_lists kind.Else = true
leads_to_lists kind.Switch = true
leads_to_lists kind.Case = true
leads_to_lists kind.Default = true
leads_to_lists kind.For = true
leads_to_lists k = false

-- Nothing but runs of statements is replaced, each by one statement at least, where old tokens have the places v. Parts that hold such
-- runs are of these kinds, and no specification stands beside them.
abbrev mutual
  pub ReplacesRuns : (ℕ → ℕ) → Tree → Patch → Type 0
  ReplacesRuns v t keep = KeepsNames v t
  ReplacesRuns v t (put s) = ⊥
  ReplacesRuns v (node kind.Block i j ps) (inside qs) = AreStatements ps × ReplacesInList v ps qs
  ReplacesRuns v (node kind.Default i j ps) (inside qs) = AreStatements ps × ReplacesInList v ps qs
  ReplacesRuns v (node kind.Case i j ps) (inside qs) = AreStatements ps × ReplacesInCase v ps qs
  ReplacesRuns v (node k i j ps) (inside qs) = (leads_to_lists k ≡ true) × KeepsName v k i j × AreStatements ps × ReplacesInRow v ps qs

  -- in one of the parts of a node
  pub ReplacesInRow : (ℕ → ℕ) → Trees → Patches → Type 0
  ReplacesInRow v ps done = AllKeepNames v ps
  ReplacesInRow v none (part q qs) = Unit {0}
  ReplacesInRow v (more p ps) (part q qs) = ReplacesRuns v p q × ReplacesInRow v ps qs
  ReplacesInRow v (skip ps) (part q qs) = ReplacesInRow v ps qs
  ReplacesInRow v ps (run n new qs) = ⊥

  -- in the statements of a clause, behind the expressions
  pub ReplacesInCase : (ℕ → ℕ) → Trees → Patches → Type 0
  ReplacesInCase v (more e ps) (part keep qs) = KeepsNames v e × ReplacesInList v ps qs
  ReplacesInCase v ps qs = ⊥

  -- in a list of statements
  pub ReplacesInList : (ℕ → ℕ) → Trees → Patches → Type 0
  ReplacesInList v ps done = AllKeepNames v ps
  ReplacesInList v none (part q qs) = Unit {0}
  ReplacesInList v (more p ps) (part q qs) = ReplacesRuns v p q × ReplacesInList v ps qs
  ReplacesInList v (skip ps) (part q qs) = ReplacesInList v ps qs
  ReplacesInList v none (run n new qs) = ⊥
  ReplacesInList v (more p ps) (run n new qs) = (has_items n ps ≡ true) × (is_more new ≡ true) × AreStatements new × ReplacesInList v (items_behind n ps) qs
  ReplacesInList v (skip ps) (run n new qs) = ⊥

-- ---- what is told

-- A piece of what a tree tells: what stays, or what a run tells and what the statements in its place tell.
pub data Piece : Type 0 where
  stays : List Event → Piece
  gap : List Event → List Event → Piece

-- what the old tree tells
abbrev pub told_before : List Piece → List Event
told_before [] = []
told_before (stays es ∷ ps) = es ++ told_before ps
told_before (gap old new ∷ ps) = old ++ told_before ps

-- what the new one tells, where the tokens that stay have the places v
abbrev pub told_behind : (ℕ → ℕ) → List Piece → List Event
told_behind v [] = []
told_behind v (stays es ∷ ps) = map (carried_event v) es ++ told_behind v ps
told_behind v (gap old new ∷ ps) = new ++ told_behind v ps

abbrev mutual
  -- the pieces of a tree in a context
  pub pieces : (ℕ → ℕ) → Context → Tree → Patch → List Piece
  pieces v c t keep = stays (events c t) ∷ []
  pieces v c t (put s) = gap (events c t) (events (carried_context v c) s) ∷ []
  pieces v c (node kind.Block i j ps) (inside qs) = stays (statement_events c.listed i j) ∷ list_pieces v (list_context c i j) false ps qs
  pieces v c (node kind.Default i j ps) (inside qs) = stays (statement_events c.listed i j) ∷ list_pieces v (list_context c i j) c.followed ps qs
  pieces v c (node kind.Case i j ps) (inside qs) = stays (statement_events c.listed i j) ∷ case_pieces v c i j ps qs
  pieces v c (node k i j ps) (inside qs) = stays (statement_events c.listed i j ++ own_events c k i j ps) ∷ row_pieces v c k i j ps 0 ps qs

  -- those of the parts rs of a node, from the number n on
  pub row_pieces : (ℕ → ℕ) → Context → Kind → ℕ → ℕ → Trees → ℕ → Trees → Patches → List Piece
  row_pieces v c k i j ps n rs done = stays (events_of c k i j ps n rs) ∷ []
  row_pieces v c k i j ps n none qs = []
  row_pieces v c k i j ps n (more p rs) (part q qs) = pieces v (enter c k i j ps (ends_named ps) n p (is_more rs)) p q ++ row_pieces v c k i j ps (suc n) rs qs
  row_pieces v c k i j ps n (skip rs) (part q qs) = row_pieces v c k i j ps (suc n) rs qs
  row_pieces v c k i j ps n rs (run m new qs) = []

  -- those of a clause with expressions
  pub case_pieces : (ℕ → ℕ) → Context → ℕ → ℕ → Trees → Patches → List Piece
  case_pieces v c i j (more e ps) (part q qs) = pieces v (enter c kind.Case i j (more e ps) (ends_named (more e ps)) 0 e (is_more ps)) e q ++ list_pieces v (list_context c i j) c.followed ps qs
  case_pieces v c i j ps qs = []

  -- those of a list of statements; the last one may be `fallthrough` where another clause stands behind
  pub list_pieces : (ℕ → ℕ) → Context → Bool → Trees → Patches → List Piece
  list_pieces v c f ps done = stays (told_list c f ps) ∷ []
  list_pieces v c f none qs = []
  list_pieces v c f (more p ps) (part q qs) = pieces v (record c { falls = f && not (is_more ps) }) p q ++ list_pieces v c f ps qs
  list_pieces v c f (skip ps) (part q qs) = list_pieces v c f ps qs
  list_pieces v c f (more p ps) (run n new qs) =
      gap (told_list c (f && not (is_more (items_behind n ps))) (more p (so_many n ps))) (told_list (carried_context v c) (f && not (is_more (items_behind n ps))) new) ∷ list_pieces v c f (items_behind n ps) qs
  list_pieces v c f (skip ps) (run n new qs) = []

-- A tree tells what its pieces tell, and so does the tree with the runs replaced, each token that stays at its place.
pub record TellsPieces (v : ℕ → ℕ) (c : Context) (t : Tree) (q : Patch) (new : Tree) : Type 0 where
  pub before : events c t ≡ told_before (pieces v c t q)
  pub behind : events (carried_context v c) new ≡ told_behind v (pieces v c t q)
