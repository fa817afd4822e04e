-- Functions in which other statements take the place of some: in lists of any depth, and in as many of them as there are.
use Rattle.std.specs.Prelude.{◌≡◌, ℕ, Bool, true, false, List, [], ◌∷◌, ◌++◌, Option, Some, None, slice_get, Result, Ok, Err}
use Rattle.go_grammar.specs.declared.kind.Kind.{Kind}
use Rattle.go_grammar.specs.declared.kind.Kind.TheVariants as kind
use Rattle.go_grammar.specs.declared.kind.Sort.TheVariants as declaring
use Rattle.go_grammar.specs.Trees.{Tree, node, Trees, none, more, skip, onto}
use Rattle.go_rewriting.specs.Places.{carry}
use Rattle.go_typed.specs.declared.form.Form.TheVariants as form
use Rattle.go_typed.specs.Contents.{FuncContent}
use Rattle.go_typed.specs.Trees.{typed, row, form_of, sort_of}
use Rattle.go_typed.specs.Trees as sort
use Rattle.go_exprs_rules.specs.declared.fault.TypeFault.{TypeFault}
use Rattle.go_tree.specs.declared.object.Object.{Object}
use Rattle.go_exprs_rules.specs.Scopes.{Needed, Scope, value}
use Rattle.go_exprs_rules.specs.Settling.{Part}
use Rattle.go_exprs_rules.specs.Sorts.{is_unknown}
use Rattle.go_exprs_rules.specs.Tables.{Parts, is_held}
use Rattle.go_package_defs.specs.Bodies.{Behind}
use Rattle.go_stmts_defs.specs.Bodies.{start}
use Rattle.go_stmts_defs.specs.Ending.{terminates}
use Rattle.go_stmts_defs.specs.Frames.{Frame}
use Rattle.go_stmts_defs.specs.Reading.{Found, holding, Reading, read, entering, behind_signature, reading}
use Rattle.go_stmts_defs.specs.Rules.{has_results}
use Rattle.go_exprs_elsewhere.specs.Elsewhere.{Moves, placed}
use Rattle.go_stmts_elsewhere.specs.Above.{Container, form_in, quiet}
use Rattle.go_stmts_elsewhere.specs.Frames.{Named}
use Rattle.go_stmts_elsewhere.specs.Functions.{numbers_moved}
use Rattle.go_stmts_elsewhere.specs.Gaps.{run, parts_in, found_in, behind}
use Rattle.go_stmts_elsewhere.specs.Marked.{AlongAt, KeepAt}

-- no rule fails at any of these nodes
abbrev pub AreFree : Found → Type 0
AreFree [] = Unit {0}
AreFree ([] ∷ fs) = AreFree fs
AreFree (f ∷ fs) = ⊥

-- A statement stands for nothing unknown and is no node that only holds parts.
abbrev pub IsStatementPart : Option Part → Type 0
IsStatementPart (Some x) = (is_held (form_of x) ≡ false) × (is_unknown (sort_of x) ≡ false)
IsStatementPart None = ⊥

abbrev pub AreStatementParts : Parts → Type 0
AreStatementParts [] = Unit {0}
AreStatementParts (x ∷ xs) = IsStatementPart x × AreStatementParts xs

-- ---- what takes the place of what

-- Statements of one list, those that take their place, and what both are read to be; and what is known in front of the old ones.
pub record Gap : Type 0 where
  pub front : Frame
  pub old : Trees
  pub new : Trees
  pub olds : Parts
  pub news : Parts

-- The tokens and the objects of a frame say and mean what they do around the function.
pub record SaysAs (s : Scope) (f : Frame) : Type 0 where
  pub texts : (i : ℕ) → f.around.texts i ≡ s.texts i
  pub characters : (i : ℕ) → f.around.characters i ≡ s.characters i
  pub objects : (i : ℕ) → f.around.objects i ≡ s.objects i
  pub sorts : (n : Needed) (o : Object) → f.around.sorts n o ≡ s.sorts n o
  pub referents : (n : ℕ) → f.around.referents n ≡ s.referents n
  pub needed : f.around.needed ≡ s.needed
  pub limits : f.around.limits ≡ s.limits

-- what constants repeat, and nothing else, left out
abbrev pub unsourced : Frame → Frame
unsourced f = record f { source = None }

-- Frames of the function in the scope s and of the one in the scope t, related at their tokens, whatever constants repeat.
abbrev pub Related : (ℕ → Bool) → (ℕ → Bool) → Moves → (ℕ → Bool) → Scope → Scope → Frame → Frame → Type 0
Related p q m l s t f g = AlongAt p q m l (unsourced f) (unsourced g) × SaysAs s f × SaysAs t g

-- Where the old statements stand they are read to be what the gap says. Where no rule fails in them, so are the new ones in each related frame,
-- and behind them the frames are related again.
pub record TakesThePlace (p q : ℕ → Bool) (m : Moves) (l : ℕ → Bool) (s t : Scope) (gap : Gap) : Type 0 where
  pub reads : (f g : Frame) → Related p q m l s t f g → f ≡ gap.front → parts_in (run f gap.old) ≡ gap.olds → AreFree (found_in (run f gap.old)) →
      (parts_in (run g gap.new) ≡ gap.news) × AreFree (found_in (run g gap.new)) × AlongAt p q m l (unsourced (behind f gap.old)) (unsourced (behind g gap.new))
  pub olds_stand : AreStatementParts gap.olds
  pub news_stand : AreStatementParts gap.news

abbrev pub EachTakesItsPlace : (ℕ → Bool) → (ℕ → Bool) → Moves → (ℕ → Bool) → Scope → Scope → List Gap → Type 0
EachTakesItsPlace p q m l s t gaps = (n : ℕ) (gap : Gap) → slice_get gaps n ≡ Some gap → TakesThePlace p q m l s t gap

-- ---- trees

-- a node whose parts may be statements that are replaced, behind the values of a clause
abbrev pub has_list : Kind → Bool
has_list kind.Block = true
has_list kind.Default = true
has_list kind.Case = true
has_list k = false

-- a node with statements or clauses in it, but for a clause with values and `else`
abbrev pub HasInside : Kind → Type 0
HasInside kind.Block = Unit {0}
HasInside kind.Default = Unit {0}
HasInside kind.If = Unit {0}
HasInside kind.Switch = Unit {0}
HasInside kind.For = Unit {0}
HasInside k = ⊥

-- Constants are specified in declarations of constants alone: what they repeat is known there, and not in front of them.
abbrev mutual
  pub HasNoSource : Tree → Type 0
  HasNoSource (node (kind.Specification declaring.Constant) i j ps) = ⊥
  HasNoSource (node (kind.Declaration declaring.Constant) i j ps) = Unit {0}
  HasNoSource (node (kind.Group declaring.Constant) i j ps) = Unit {0}
  HasNoSource (node k i j ps) = HaveNoSource ps

  pub HaveNoSource : Trees → Type 0
  HaveNoSource none = Unit {0}
  HaveNoSource (more t ts) = HasNoSource t × HaveNoSource ts
  HaveNoSource (skip ts) = HaveNoSource ts

-- no part is left out
abbrev pub AreWhole : Trees → Type 0
AreWhole none = Unit {0}
AreWhole (more t ts) = AreWhole ts
AreWhole (skip ts) = ⊥

mutual
  -- The second tree is the first one at its new place, with other statements in place of some.
  pub data Changed (p q : ℕ → Bool) (m : Moves) (gaps : List Gap) : Tree → Tree → Type 0 where
    whole : (x : Tree) → KeepAt p q m x → HasNoSource x → Changed p q m gaps x (carry m.token x)
    inside : (k : Kind) → HasInside k → (i j : ℕ) (ps qs : Trees) → AllChanged p q m gaps (has_list k) ps qs → Changed p q m gaps (node k i j ps) (node k (m.token i) (m.token j) qs)
    in_else : (k : Kind) → HasInside k → (i j a b : ℕ) (ps qs : Trees) → AllChanged p q m gaps (has_list k) ps qs →
        Changed p q m gaps (node kind.Else i j (more (node k a b ps) none)) (node kind.Else (m.token i) (m.token j) (more (node k (m.token a) (m.token b) qs) none))
    in_case : (i j a b : ℕ) (vs : Trees) → AreWhole vs → KeepAt p q m (node kind.ExpressionList a b vs) → HaveNoSource vs → (ps qs : Trees) → AllChanged p q m gaps true ps qs →
        Changed p q m gaps (node kind.Case i j (more (node kind.ExpressionList a b vs) ps)) (node kind.Case (m.token i) (m.token j) (more (carry m.token (node kind.ExpressionList a b vs)) qs))

  -- The same of parts; whether they are statements of one list is told.
  pub data AllChanged (p q : ℕ → Bool) (m : Moves) (gaps : List Gap) : Bool → Trees → Trees → Type 0 where
    ended : (b : Bool) → AllChanged p q m gaps b none none
    next : (b : Bool) (x y : Tree) (xs ys : Trees) → Changed p q m gaps x y → AllChanged p q m gaps b xs ys → AllChanged p q m gaps b (more x xs) (more y ys)
    left : (b : Bool) (xs ys : Trees) → AllChanged p q m gaps b xs ys → AllChanged p q m gaps b (skip xs) (skip ys)
    others : (n : ℕ) (gap : Gap) → slice_get gaps n ≡ Some gap → (xs ys : Trees) → AllChanged p q m gaps true xs ys → AllChanged p q m gaps true (onto gap.old xs) (onto gap.new ys)

-- ---- what the replaced statements are read to be

-- what holds of a part and of the frame behind it
abbrev pub Behindhand : Reading → (Part → Frame → Type 0) → Type 0
Behindhand (read x fs f) P = P x f

abbrev mutual
  -- In this frame each run that is replaced is read to be what its gap says, and this frame is what the gap says is known in front of it.
  pub OldsRead : (p q : ℕ → Bool) (m : Moves) (gaps : List Gap) (f : Frame) (x y : Tree) → Changed p q m gaps x y → Type 0
  OldsRead p q m gaps f x y (whole z k e) = Unit {0}
  OldsRead p q m gaps f x y (inside k w i j ps qs d) = AllOldsRead p q m gaps f k [] (has_list k) ps qs d
  OldsRead p q m gaps f x y (in_else k w i j a b ps qs d) = AllOldsRead p q m gaps f k [] (has_list k) ps qs d
  OldsRead p q m gaps f x y (in_case i j a b vs w k e ps qs d) = AllOldsRead p q m gaps f kind.Block [] true ps qs d

  -- the same of parts behind others that are read already
  pub AllOldsRead : (p q : ℕ → Bool) (m : Moves) (gaps : List Gap) (f : Frame) (k : Kind) (xs : Parts) (b : Bool) (ts us : Trees) → AllChanged p q m gaps b ts us → Type 0
  AllOldsRead p q m gaps f k xs b ts us (ended z) = Unit {0}
  AllOldsRead p q m gaps f k xs b ts us (next z x y os bs c d) =
      OldsRead p q m gaps (entering k xs f) x y c × Behindhand (reading (entering k xs f) value x) (λ r t. AllOldsRead p q m gaps t k (xs ++ Some r ∷ []) z os bs d)
  AllOldsRead p q m gaps f k xs b ts us (left z os bs d) = AllOldsRead p q m gaps (entering k xs f) k (xs ++ None ∷ []) z os bs d
  AllOldsRead p q m gaps f k xs b ts us (others n gap e os bs d) = (parts_in (run f gap.old) ≡ gap.olds) × (f ≡ gap.front) × AllOldsRead p q m gaps (behind f gap.old) k (xs ++ gap.olds) true os bs d

-- ---- typed trees

mutual
  -- The second typed tree is the first one at its new place, with other statements in place of some.
  pub data ChangedPart (m : Moves) (l : ℕ → Bool) (gaps : List Gap) : Option Part → Option Part → Type 0 where
    absent : ChangedPart m l gaps None None
    stays : (x : Part) → Named l x → ChangedPart m l gaps (Some x) (Some (placed m x))
    around : (c : Container) (i j : ℕ) (a b d e : Bool) (z : Bool) (xs ys : Parts) → ChangedParts m l gaps z xs ys →
        ChangedPart m l gaps (Some (typed (form_in c) i j (quiet a b) (row xs))) (Some (typed (form_in c) (m.token i) (m.token j) (quiet d e) (row ys)))
    around_else : (c : Container) (i j n k : ℕ) (a b d e s t u v : Bool) (z : Bool) (xs ys : Parts) → ChangedParts m l gaps z xs ys →
        ChangedPart m l gaps (Some (typed (form.Held kind.Else) i j (quiet a b) (sort.more (typed (form_in c) n k (quiet d e) (row xs)) sort.none)))
        (Some (typed (form.Held kind.Else) (m.token i) (m.token j) (quiet s t) (sort.more (typed (form_in c) (m.token n) (m.token k) (quiet u v) (row ys)) sort.none)))

  pub data ChangedParts (m : Moves) (l : ℕ → Bool) (gaps : List Gap) : Bool → Parts → Parts → Type 0 where
    no_more : (b : Bool) → ChangedParts m l gaps b [] []
    one_more : (b : Bool) (x y : Option Part) (xs ys : Parts) → ChangedPart m l gaps x y → ChangedParts m l gaps b xs ys → ChangedParts m l gaps b (x ∷ xs) (y ∷ ys)
    in_place : (n : ℕ) (gap : Gap) → slice_get gaps n ≡ Some gap → (xs ys : Parts) → ChangedParts m l gaps true xs ys → ChangedParts m l gaps true (gap.olds ++ xs) (gap.news ++ ys)

-- ---- functions

-- The function g of the number n is f at its new place with other statements in place of some. Its locals that count and its tokens that
-- stay have their new numbers; a function is its block.
pub record FunctionChanged (p q : ℕ → Bool) (m : Moves) (l : ℕ → Bool) (gaps : List Gap) (end n : ℕ) (f g : FuncContent) : Type 0 where
  pub number : g.number ≡ n
  pub signature : g.signature ≡ f.signature
  pub parameters : g.parameters ≡ numbers_moved m f.parameters
  pub locals : (k : ℕ) → l k ≡ true → slice_get g.locals (m.local k) ≡ slice_get f.locals k
  pub from : ℕ
  pub upto : ℕ
  pub names : Bool
  pub calls : Bool
  pub new_names : Bool
  pub new_calls : Bool
  pub block : Part
  pub new_block : Part
  pub old_tree : f.tree ≡ typed form.Function from upto (quiet names calls) (sort.more block sort.none)
  pub tree : g.tree ≡ typed form.Function (m.token from) (m.token upto) (quiet new_names new_calls) (sort.more new_block sort.none)
  pub changed : ChangedPart m l gaps (Some block) (Some new_block)

-- No rule failed in the first function; then none fails in the second one, which is the first one changed, behind the same right sides.
abbrev pub ChangedFunctions : (ℕ → Bool) → (ℕ → Bool) → Moves → (ℕ → Bool) → List Gap → ℕ → ℕ → Result Behind TypeFault → Result Behind TypeFault → Type 0
ChangedFunctions p q m l gaps end n (Ok b) (Ok c) = FunctionChanged p q m l gaps end n b.function c.function × (c.rights ≡ b.rights)
ChangedFunctions p q m l gaps end n (Err f) r = Unit {0}
ChangedFunctions p q m l gaps end n (Ok b) (Err g) = ⊥

-- No rule failed in the first reading; then none fails in the second one, of which the tree is the first one's changed, and the frames behind
-- both are related.
abbrev pub ChangedReadings : (ℕ → Bool) → (ℕ → Bool) → Moves → (ℕ → Bool) → List Gap → Reading → Reading → Type 0
ChangedReadings p q m l gaps (read x fs f) (read y gs g) = AreFree fs → ChangedPart m l gaps (Some x) (Some y) × AreFree gs × AlongAt p q m l (unsourced f) (unsourced g)

-- what is known behind this signature of a function
abbrev pub inside_function : Scope → ℕ → (ℕ → ℕ) → Tree → Frame
inside_function s count types g = behind_signature (Some (holding (start s count types) value g)) (start s count types)

abbrev pub tree_in : Reading → Part
tree_in (read x fs f) = x

-- In a function with results, with this signature, the block is terminating still where it was.
abbrev pub StaysTerminating : Moves → (ℕ → Bool) → List Gap → Frame → Tree → Type 0
StaysTerminating m l gaps f b = has_results f.results ≡ true → (y : Part) → ChangedPart m l gaps (Some (tree_in (reading f value b))) (Some y) → terminates (tree_in (reading f value b)) ≡ true → terminates y ≡ true

-- a function with this signature and this block
abbrev pub function_tree : ℕ → ℕ → Tree → Tree → Tree
function_tree i j g b = node kind.FunctionDeclaration i j (more g (more b none))
