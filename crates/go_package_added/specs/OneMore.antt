-- A package with one function more, that no other declaration names: what it declares, and what its declarations need and stand for.
use Rattle.std.specs.Prelude.{◌≡◌, ◌≤◌, ℕ, zero, suc, ◌+◌, Bool, true, false, List, [], ◌∷◌, ◌++◌, length, map, Option, Some, None}
use Rattle.std.specs.Option.{option_map}
use Rattle.std.specs.List.{AllByRecursion}
use Rattle.go_grammar.specs.Trees.{Tree}
use Rattle.go_tree.specs.declared.context.Entity.TheVariants as entity
use Rattle.go_tree.specs.Uses.{object_of}
use Rattle.std.specs.Str.{chars}
use Rattle.go_tree.specs.declared.object.Object.{Object}
use Rattle.go_exprs_rules.specs.Scopes.{Scope}
use Rattle.go_exprs_rules.specs.Sorts.{Stands}
use Rattle.go_exprs_elsewhere.specs.Elsewhere.{Moves, referent_moved}
use Rattle.go_stmts_elsewhere.specs.Functions.{only_objects}
use Rattle.go_package_alike.specs.Scopes.{AllTokens}
use Rattle.go_package_defs.specs.Answer.{Environment, is_main}
use Rattle.go_package_defs.specs.Declarations.{Specification}
use Rattle.go_package_defs.specs.Knowledge.{Outline, outlines, State, free_scope, referent_at}
use Rattle.go_package_defs.specs.Sources.{Package, text_at, rounds}
use Rattle.go_package_defs.specs.Verdicts.{known, own_faults, value_state}
use Rattle.go_heads_added.specs.Added.{Gap, beyond, shifted}

-- one element at a place among others
abbrev pub inserted : {A : Type 0} → ℕ → A → List A → List A
inserted zero x ys = x ∷ ys
inserted (suc n) x [] = x ∷ []
inserted (suc n) x (y ∷ ys) = y ∷ inserted n x ys

-- the numbers of objects where one is put in
abbrev pub all_beyond : ℕ → List ℕ → List ℕ
all_beyond a ns = map (beyond a) ns

abbrev pub outline_beyond : ℕ → Outline → Outline
outline_beyond a o = record o { partly = all_beyond a o.partly; fully = all_beyond a o.fully }

-- the numbers of the functions of the package, where one is put in
abbrev pub function_moves : Gap → Moves
function_moves g = only_objects (λ n. n) (λ n. n) (λ n. n) (beyond g.functions)

abbrev pub MaybeReadAt : (ℕ → Bool) → Option Tree → Type 0
MaybeReadAt test None = Unit {0}
MaybeReadAt test (Some t) = AllTokens test t

-- The specification stands in both packages: the tokens that its type and its values are read by say the same, and name the same objects
-- under the new numbers.
pub record IsKept (p q : Package) (g : Gap) (d : Specification) : Type 0 where
  pub test : ℕ → Bool
  pub type_read : MaybeReadAt test d.type_tree
  pub values_read : AllByRecursion (AllTokens test) d.values
  pub texts : (i : ℕ) → test i ≡ true → text_at q d.file i ≡ text_at p d.file i
  pub objects : (i : ℕ) → test i ≡ true → object_of q.uses d.file i ≡ option_map (shifted g) (object_of p.uses d.file i)

-- The second package declares what the first one does, by the same specifications, and one function between.
pub record IsOneMore (p q : Package) (ds es : List Specification) (g : Gap) : Type 0 where
  pub place : g.shared ≤ length p.uses.package_level
  pub entities : map (λ d. d.entity) q.uses.package_level ≡ inserted g.shared entity.Function (map (λ d. d.entity) p.uses.package_level)
  pub referents : (n : ℕ) → referent_at q (beyond g.shared n) ≡ referent_moved (function_moves g) (referent_at p n)
  pub mains : map (is_main q) q.uses.package_level ≡ inserted g.shared false (map (is_main p) p.uses.package_level)
  pub function : Outline
  pub is_function : function.specification.entity ≡ entity.Function
  pub no_values : function.specification.values ≡ []
  pub outlined : outlines q es ≡ inserted g.shared function (map (outline_beyond g.shared) (outlines p ds))
  pub outlines_kept : AllByRecursion (λ o. IsKept p q g o.specification) (outlines p ds)
  pub front : List Specification
  pub rest : List Specification
  pub were : ds ≡ front ++ rest
  pub are : es ≡ front ++ function.specification ∷ rest
  pub front_kept : AllByRecursion (IsKept p q g) front
  pub rest_kept : AllByRecursion (IsKept p q g) rest

-- what is known of a function without faults
abbrev pub function_state : Stands → State
function_state s = record { right = None; stands = s; faults = []; assigning = [] }

-- Where these states are found of the other objects, the function stands for s, and no rule fails in its signature, whatever is known of the
-- function itself.
pub record IsSignature (q : Package) (os : List Outline) (a : ℕ) (d : Specification) (column : ℕ) (found : List State) (s : Stands) : Type 0 where
  pub state : (y : State) → let scope = free_scope q os (inserted a y found) d in value_state scope d column (own_faults scope d column) ≡ function_state s

-- Rounds behind the last one find the same.
pub record Settles (p : Package) (os : List Outline) : Type 0 where
  pub further : (k : ℕ) → known p os (k + rounds p) ≡ known p os (rounds p)

-- The package stands for the same, and the function for its type at its number.
abbrev pub with_function : ℕ → Stands → Environment → Environment
with_function a s x = record { rights = x.rights; objects = inserted a s x.objects }

-- ---- the signature, by the numbers of the package without the function

-- the scope of a specification of which the tokens say this and mean this
abbrev pub spoken_scope : Package → List Outline → List State → Specification → (ℕ → List ℕ) → (ℕ → Option Object) → Scope
spoken_scope p os found d said_there meant = record (free_scope p os found d) { texts = said_there; characters = λ i. chars (said_there i); objects = meant }

-- Where its tokens say this and mean this, the function stands for s, and no rule fails in its signature.
pub record IsSignatureBefore (p : Package) (os : List Outline) (d : Specification) (column : ℕ) (said_there : ℕ → List ℕ) (meant : ℕ → Option Object) (found : List State) (s : Stands) : Type 0 where
  pub state : let scope = spoken_scope p os found d said_there meant in value_state scope d column (own_faults scope d column) ≡ function_state s
