-- A run of statements that is copied, with names in the place of some of its expressions (Go specification: Statement lists, Operands).
use Rattle.std.specs.Prelude.{◌≡◌, ℕ, suc, Bool, true, false, ◌&&◌, not, if◌then◌else◌, List, [], ◌∷◌, ◌++◌}
use Rattle.go_grammar.specs.declared.kind.Kind.{Kind}
use Rattle.go_grammar.specs.declared.kind.Kind.TheVariants as kind
use Rattle.go_grammar.specs.declared.kind.Sort.TheVariants as sort
use Rattle.go_grammar.specs.Grammar.{ends_named}
use Rattle.go_grammar.specs.Trees.{Tree, node, Trees, none, more, skip, kind_of, first}
use Rattle.go_rewriting.specs.Places.{Patch, Patches, keep, put, inside, done, part, run, become_all}
use Rattle.go_tree.specs.declared.context.Block.{Block}
use Rattle.go_tree.specs.declared.context.Context.{Context}
use Rattle.go_tree.specs.declared.context.Role.{Role}
use Rattle.go_tree.specs.declared.context.Role.TheVariants as role
use Rattle.go_tree.specs.Contexts.{is_behind_first, enter}
use Rattle.go_tree.specs.Events.{statement_events, own_events, is_more, pass, begin, events, events_of}
use Rattle.go_scopes_bodies.specs.Carried.{carried_token, carried_scopes, carried_role, carried_site}
use Rattle.go_scopes_bodies.specs.Listed.{told_list}
use Rattle.extract_names.specs.Copies.{Copy, is_around, copied_block, copied_scope, told_copied}
use Rattle.extract_names.specs.Pieces.{Piece, stays, gap, told_before}

-- ---- where the copied statements stand

abbrev pub copied_role : Copy → Block → Role → Role
copied_role c b (role.New d) = role.New (record { entity = d.entity; manner = d.manner; scope = copied_scope c b d.scope; statement = c.place d.statement; source = carried_token c.place d.source })
copied_role c b r = carried_role c.place r

-- What stands in the block around the run stands in the body of the new function.
abbrev pub copied_context : Copy → Context → Context
copied_context c x = record x {
  block = copied_block c x.block;
  end = if is_around c x.block then c.close else c.place x.end;
  role = copied_role c x.block x.role;
  site = carried_site c.place x.site;
  specification = carried_token c.place x.specification;
  source = carried_token c.place x.source;
  group = carried_token c.place x.group;
  parameters = carried_scopes c.place x.parameters;
}

-- ---- where a name may stand

-- Is a name looked up, and nothing else about the node's parts different, wherever an expression is the part with this number? `operand`
-- says of a list of expressions whether its names are looked up only.
abbrev pub may_be_replaced : Bool → Kind → ℕ → Bool
may_be_replaced operand kind.ExpressionList n = operand
may_be_replaced operand kind.Call n = is_behind_first n
may_be_replaced operand kind.Keyed n = is_behind_first n
may_be_replaced operand kind.Define n = is_behind_first n
may_be_replaced operand kind.DefiningRange n = is_behind_first n
may_be_replaced operand (kind.Specification s) n = false
may_be_replaced operand kind.Values n = false
may_be_replaced operand kind.TypedValues n = false
may_be_replaced operand kind.NameList n = false
may_be_replaced operand kind.NewNames n = false
may_be_replaced operand kind.Targets n = false
may_be_replaced operand kind.Selector n = false
may_be_replaced operand kind.Fields n = false
may_be_replaced operand kind.Parameters n = false
may_be_replaced operand kind.Parameter n = false
may_be_replaced operand kind.FunctionDeclaration n = false
may_be_replaced operand k n = true

-- Are the names of a list of expressions looked up only that is the part with this number?
abbrev pub gives_operands : Kind → ℕ → Bool
gives_operands (kind.Specification s) n = is_behind_first n
gives_operands kind.Define n = is_behind_first n
gives_operands kind.DefiningRange n = is_behind_first n
gives_operands kind.Call n = is_behind_first n
gives_operands kind.Fields n = is_behind_first n
gives_operands kind.Keyed n = is_behind_first n
gives_operands kind.Parameter n = is_behind_first n
gives_operands kind.NameList n = false
gives_operands kind.NewNames n = false
gives_operands kind.Targets n = false
gives_operands kind.ExpressionList n = false
gives_operands kind.Parenthesized n = false
gives_operands kind.Selector n = false
gives_operands kind.Parameters n = false
gives_operands k n = true

-- In declarations of constants no expression becomes a name.
abbrev pub may_hold_holes : Kind → Bool
may_hold_holes (kind.Declaration sort.Constant) = false
may_hold_holes k = true

-- an expression, of which only its tokens count where it is a part
abbrev pub is_simple_part : Kind → Bool
is_simple_part (kind.Specification s) = false
is_simple_part kind.Parameter = false
is_simple_part kind.Default = false
is_simple_part k = true

-- a name over one token
abbrev pub name_over : ℕ → Tree
name_over i = node kind.Name i (suc i) none

abbrev mutual
  -- Nothing but expressions is replaced, each by a name at its place, where old tokens have the places v.
  pub HolesIn : (ℕ → ℕ) → Bool → Tree → Patch → Type 0
  HolesIn v o t keep = Unit {0}
  HolesIn v o t (put s) = ⊥
  HolesIn v o (node k i j ps) (inside qs) = (may_hold_holes k ≡ true) × HolesInRow v o k 0 ps qs

  -- in the parts of a node from the number n on
  pub HolesInRow : (ℕ → ℕ) → Bool → Kind → ℕ → Trees → Patches → Type 0
  HolesInRow v o k n ps done = Unit {0}
  HolesInRow v o k n none (part q qs) = Unit {0}
  HolesInRow v o k n (more p ps) (part keep qs) = HolesInRow v o k (suc n) ps qs
  HolesInRow v o k n (more p ps) (part (put s) qs) = (may_be_replaced o k n ≡ true) × (is_simple_part (kind_of p) ≡ true) × (s ≡ name_over (v (first p))) × HolesInRow v o k (suc n) ps qs
  HolesInRow v o k n (more p ps) (part (inside rs) qs) = HolesIn v (gives_operands k n) p (inside rs) × HolesInRow v o k (suc n) ps qs
  HolesInRow v o k n (skip ps) (part q qs) = HolesInRow v o k (suc n) ps qs
  HolesInRow v o k n ps (run m new qs) = ⊥

-- in the statements of a list
abbrev pub HolesInList : (ℕ → ℕ) → Trees → Patches → Type 0
HolesInList v ps done = Unit {0}
HolesInList v none (part q qs) = Unit {0}
HolesInList v (more p ps) (part q qs) = HolesIn v false p q × HolesInList v ps qs
HolesInList v (skip ps) (part q qs) = HolesInList v ps qs
HolesInList v ps (run m new qs) = ⊥

-- ---- what is told

abbrev mutual
  -- what stays of what a tree tells, and what the replaced expressions tell and the names in their place
  pub hole_pieces : Copy → Context → Tree → Patch → List Piece
  hole_pieces c x t keep = stays (events x t) ∷ []
  hole_pieces c x t (put s) = gap (events x t) (events (copied_context c x) s) ∷ []
  hole_pieces c x (node k i j ps) (inside qs) = stays (statement_events x.listed i j ++ own_events x k i j ps) ∷ hole_row c (begin x k) k i j ps 0 ps qs

  pub hole_row : Copy → Context → Kind → ℕ → ℕ → Trees → ℕ → Trees → Patches → List Piece
  hole_row c x k i j ps n rs done = stays (events_of x k i j ps n rs) ∷ []
  hole_row c x k i j ps n none (part q qs) = []
  hole_row c x k i j ps n (more p rs) (part q qs) = hole_pieces c (enter x k i j ps (ends_named ps) n p (is_more rs)) p q ++ hole_row c (pass x p) k i j ps (suc n) rs qs
  hole_row c x k i j ps n (skip rs) (part q qs) = hole_row c x k i j ps (suc n) rs qs
  hole_row c x k i j ps n rs (run m new qs) = []

abbrev pub hole_list : Copy → Context → Bool → Trees → Patches → List Piece
hole_list c x f ps done = stays (told_list x f ps) ∷ []
hole_list c x f none (part q qs) = []
hole_list c x f (more p ps) (part q qs) = hole_pieces c (record x { falls = f && not (is_more ps) }) p q ++ hole_list c x f ps qs
hole_list c x f (skip ps) (part q qs) = hole_list c x f ps qs
hole_list c x f ps (run m new qs) = []

-- In the list of such a context the copied statements, with names in place of expressions, tell what the pieces say; and the old ones do.
pub record HolesTell (c : Copy) (x : Context) (followed : Bool) (ps : Trees) (qs : Patches) : Type 0 where
  pub before : told_before (hole_list c x followed ps qs) ≡ told_list x followed ps
  pub copied : told_list (copied_context c x) followed (become_all c.place ps qs) ≡ told_copied c (hole_list c x followed ps qs)
