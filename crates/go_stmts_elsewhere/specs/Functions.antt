-- Functions at their new places, and functions that stay where they are under other numbers.
use Rattle.std.specs.Prelude.{◌≡◌, ℕ, ◌<◌, Bool, true, nat_lt, nat_eq, List, map, Option, slice_get, Result, Ok, Err}
use Rattle.std.specs.Option.{option_map}
use Rattle.go_tree.specs.declared.object.Object.TheVariants as object
use Rattle.go_typed.specs.Contents.{FuncContent, func_renamed}
use Rattle.go_types_relations.specs.Renaming.{AreRenamed}
use Rattle.go_exprs_rules.specs.declared.fault.TypeFault.{TypeFault}
use Rattle.go_exprs_rules.specs.Scopes.{Needed, Scope}
use Rattle.go_stmts_defs.specs.Bodies.{start}
use Rattle.go_package_defs.specs.Bodies.{Behind}
use Rattle.go_renumbering.specs.Frames.{RenamedFrames}
use Rattle.go_exprs_elsewhere.specs.Elsewhere.{Moves, placed, fault_placed}
use Rattle.go_stmts_elsewhere.specs.Frames.{AlongFrames}

-- ---- at other places

abbrev pub numbers_moved : Moves → List (Option ℕ) → List (Option ℕ)
numbers_moved m ns = map (λ o. option_map m.local o) ns

-- The function g of the number n is f at its new place: its parameters and the locals that count have their new numbers, and so have the
-- locals that its tokens in front of the one of number `end` name. Other locals, and other tokens, it may have besides.
pub record FunctionAlong (m : Moves) (l : ℕ → Bool) (end n : ℕ) (f g : FuncContent) : Type 0 where
  pub number : g.number ≡ n
  pub signature : g.signature ≡ f.signature
  pub parameters : g.parameters ≡ numbers_moved m f.parameters
  pub locals : (k : ℕ) → l k ≡ true → slice_get g.locals (m.local k) ≡ slice_get f.locals k
  pub tokens : (i : ℕ) → i < end → m.token i < m.token end → slice_get g.tokens (m.token i) ≡ option_map (option_map m.local) (slice_get f.tokens i)
  pub tree : g.tree ≡ placed m f.tree

-- tokens stay in order
pub record KeepsOrder (m : Moves) : Type 0 where
  pub less : (a b : ℕ) → nat_lt (m.token a) (m.token b) ≡ nat_lt a b
  pub same : (a b : ℕ) → nat_eq (m.token a) (m.token b) ≡ nat_eq a b

-- The function at its new place, behind the same right sides; or a fault is reported of both, the same one if tokens stay in order.
abbrev pub AlongFunctions : Moves → (ℕ → Bool) → ℕ → ℕ → Result Behind TypeFault → Result Behind TypeFault → Type 0
AlongFunctions m l end n (Ok b) (Ok c) = FunctionAlong m l end n b.function c.function × (c.rights ≡ b.rights)
AlongFunctions m l end n (Err f) (Err g) = KeepsOrder m → g ≡ fault_placed m f
AlongFunctions m l end n r q = ⊥

-- Around bodies all locals of both scopes stand for the same, that is for nothing known.
abbrev pub LocalsStand : Scope → Scope → Type 0
LocalsStand s t = (n : Needed) (c a d b : ℕ) → t.sorts n (object.Local d b) ≡ s.sorts n (object.Local c a)

-- ---- under other numbers

-- all tokens and locals stay, and the objects of the package have other numbers, each sort by itself
abbrev pub only_objects : (ℕ → ℕ) → (ℕ → ℕ) → (ℕ → ℕ) → (ℕ → ℕ) → Moves
only_objects constants types variables functions = record {
  token = λ i. i;
  spelled = λ i. true;
  local = λ n. n;
  constant = constants;
  type = types;
  variable = variables;
  function = functions;
}

-- nothing is moved
abbrev pub stays : Moves
stays = only_objects (λ n. n) (λ n. n) (λ n. n) (λ n. n)

-- the function under its new number, with the new numbers of objects in its tree
abbrev pub func_numbered : Moves → ℕ → FuncContent → FuncContent
func_numbered m n f = record f { number = n; tree = placed m f.tree }

-- The same function under other numbers of objects, of functions and of declared types, with the right sides behind it renamed too; or the
-- same fault.
abbrev pub NumberedFunctions : Moves → (ℕ → ℕ) → ℕ → Result Behind TypeFault → Result Behind TypeFault → Type 0
NumberedFunctions m name n (Ok b) (Ok c) = (c.function ≡ func_renamed name (func_numbered m n b.function)) × AreRenamed name b.rights c.rights
NumberedFunctions m name n (Err f) (Err g) = g ≡ f
NumberedFunctions m name n r q = ⊥

-- What is known where a function begins, in two packages: there is a scope under the other numbers of objects, and the second one differs
-- from it in the numbers of declared types alone.
pub record Numbered (m : Moves) (name : ℕ → ℕ) (s t : Scope) (count : ℕ) (types others : ℕ → ℕ) : Type 0 where
  pub between : Scope
  pub objects : AlongFrames m (λ n. true) (start s count types) (start between count types)
  pub locals : LocalsStand s between
  pub renamed : RenamedFrames name (start between count types) (start t count others)
