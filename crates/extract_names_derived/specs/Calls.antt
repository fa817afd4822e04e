-- A call in the place of a run, with the variables that are declared in front of it: what its names have to mean, and what it declares.
use Rattle.std.specs.Prelude.{◌≡◌, ℕ, suc, ◌+◌, ◌-◌, ◌<◌, ◌≤◌, ◌⊎◌, true, List, [], ◌∷◌, length, Option, Some, slice_get}
use Rattle.go_tokens.specs.declared.token.TokenKind.{TokenKind}
use Rattle.go_constants.specs.declared.values.Const.TheVariants as const
use Rattle.go_grammar.specs.Trees.{last}
use Rattle.go_tree.specs.declared.context.Entity.TheVariants as entity
use Rattle.go_tree.specs.declared.event.Declaration.{Declaration}
use Rattle.go_tree.specs.declared.event.Event.{Event}
use Rattle.go_tree.specs.declared.event.Event.TheVariants as event
use Rattle.go_tree.specs.declared.object.Object.{Object}
use Rattle.go_tree.specs.Declarations.{is_new}
use Rattle.go_tree.specs.Units.{is_blank}
use Rattle.go_heads.specs.Functions.{Alone}
use Rattle.go_heads.specs.Names.{text_there, own_text, own_names}
use Rattle.go_print_laws.specs.Calls.{Argument, variable, constant, Call, argument_tree, names_end, call_trees}
use Rattle.go_print_laws.specs.Trees.{type_tree, list_end}
use Rattle.go_scopes_bodies.specs.Meant.{Meant, outside}
use Rattle.go_types.specs.Trees.{TypeTree, boolean, text, integer, array, slice, structure, function, declared, TypeRow, none, more}
use Rattle.extract_names.specs.Gaps.{Redeclared, Gap, Among, IsInRun}
use Rattle.extract_names.specs.Sites.{found_as, IsPlain}
use Rattle.extract_names_derived.specs.Fields.{CallFieldsOnce}
use Rattle.extract_names_derived.specs.News.{DeriveWithin}
use Rattle.extract_names_derived.specs.Sites.{RunStands}

-- A token means what no local is, and what may be named anywhere.
pub record MeansOuter (m : ℕ → Option Meant) (i : ℕ) : Type 0 where
  pub object : Object
  pub means : m i ≡ Some (outside object)
  pub plain : IsPlain (outside object)

-- It means what may be named anywhere.
pub record MeansPlain (m : ℕ → Option Meant) (i : ℕ) : Type 0 where
  pub object : Meant
  pub means : m i ≡ Some object
  pub plain : IsPlain object

-- ---- types

abbrev mutual
  -- This holds of the names of a printed type, which is written from a token on.
  pub NamesType : (ℕ → Type 0) → ℕ → TypeTree → Type 0
  NamesType N i boolean = N i
  NamesType N i text = N i
  NamesType N i (integer k) = N i
  NamesType N i (array n t) = NamesType N (suc (suc (suc i))) t
  NamesType N i (slice t) = NamesType N (suc (suc i)) t
  NamesType N i (structure ns ts) = NamesFields N (suc (suc i)) ns ts
  NamesType N i (function ps rs) = NamesList N (suc (suc i)) ps × NamesResults N (suc (list_end (suc (suc i)) ps)) rs
  NamesType N i (declared n) = N i

  -- types with commas between
  pub NamesList : (ℕ → Type 0) → ℕ → TypeRow → Type 0
  NamesList N i none = Unit {0}
  NamesList N i (more t ts) = NamesType N i t × NamesBehind N (last (type_tree i t)) ts

  -- types behind one that ends here
  pub NamesBehind : (ℕ → Type 0) → ℕ → TypeRow → Type 0
  NamesBehind N i none = Unit {0}
  NamesBehind N i (more t ts) = NamesType N (suc i) t × NamesBehind N (last (type_tree (suc i) t)) ts

  -- nothing, one type, or types in parentheses
  pub NamesResults : (ℕ → Type 0) → ℕ → TypeRow → Type 0
  NamesResults N i none = Unit {0}
  NamesResults N i (more t none) = NamesType N i t
  NamesResults N i (more t (more u us)) = NamesType N (suc i) t × NamesBehind N (last (type_tree (suc i) t)) (more u us)

  pub NamesFields : (ℕ → Type 0) → ℕ → List (List ℕ) → TypeRow → Type 0
  NamesFields N i [] ts = Unit {0}
  NamesFields N i (n ∷ ns) none = Unit {0}
  NamesFields N i (n ∷ ns) (more t ts) = NamesType N (suc i) t × NamesLater N (last (type_tree (suc i) t)) ns ts

  -- fields behind one that ends here
  pub NamesLater : (ℕ → Type 0) → ℕ → List (List ℕ) → TypeRow → Type 0
  NamesLater N i [] ts = Unit {0}
  NamesLater N i (n ∷ ns) none = Unit {0}
  NamesLater N i (n ∷ ns) (more t ts) = NamesType N (suc (suc i)) t × NamesLater N (last (type_tree (suc (suc i)) t)) ns ts

-- The names of a type mean what no local is.
abbrev pub TypeMeans : (ℕ → Option Meant) → ℕ → TypeTree → Type 0
TypeMeans m i t = NamesType (MeansOuter m) i t

-- ---- the call

-- A variable and a truth value may be named anywhere. Other constants have no names.
abbrev pub ArgumentMeans : (ℕ → Option Meant) → ℕ → Argument → Type 0
ArgumentMeans m i (variable n) = MeansPlain m i
ArgumentMeans m i (constant (const.Bool b)) = MeansPlain m i
ArgumentMeans m i (constant v) = Unit {0}

abbrev pub FurtherMean : (ℕ → Option Meant) → ℕ → List Argument → Type 0
FurtherMean m i [] = Unit {0}
FurtherMean m i (a ∷ gs) = ArgumentMeans m (suc i) a × FurtherMean m (last (argument_tree (suc i) a)) gs

abbrev pub ArgumentsMean : (ℕ → Option Meant) → ℕ → List Argument → Type 0
ArgumentsMean m i [] = Unit {0}
ArgumentsMean m i (a ∷ gs) = ArgumentMeans m i a × FurtherMean m (last (argument_tree i a)) gs

-- the callee and the arguments
abbrev pub CallMeans : (ℕ → Option Meant) → ℕ → List Argument → Type 0
CallMeans m i gs = MeansPlain m i × ArgumentsMean m (suc (suc i)) gs

-- What a result is given to is blank, or it may be named anywhere; w says which texts the tokens have.
abbrev pub TargetMeans : (ℕ → List ℕ) → (ℕ → Option Meant) → ℕ → Type 0
TargetMeans w m i = (is_blank (w i) ≡ true) ⊎ MeansPlain m i

-- targets behind one that ends here
abbrev pub TargetsMean : (ℕ → List ℕ) → (ℕ → Option Meant) → ℕ → List (List ℕ) → Type 0
TargetsMean w m i [] = Unit {0}
TargetsMean w m i (x ∷ xs) = TargetMeans w m (suc i) × TargetsMean w m (suc (suc i)) xs

abbrev pub StatementMeans : (ℕ → List ℕ) → (ℕ → Option Meant) → ℕ → List (List ℕ) → List Argument → Type 0
StatementMeans w m i [] gs = CallMeans m i gs
StatementMeans w m i (x ∷ xs) gs = TargetMeans w m i × TargetsMean w m (suc i) xs × CallMeans m (suc (names_end (suc i) xs)) gs

-- ---- what is declared

-- The variable that is declared at the token i, with a type that ends in front of the token j, is one of the run again: where gaps stand
-- from the token b on, and the run told this.
pub record DeclaresOne (a : Alone) (g : Gap) (old : List Event) (b i j : ℕ) (z : Redeclared) : Type 0 where
  pub was : Declaration
  pub told : Among (event.Declaration was) old
  pub within : IsInRun g was.name
  pub named : was.name ≡ z.old
  pub new : is_new (own_names a) (found_as a was) ≡ true
  pub variable : was.entity ≡ entity.Variable
  pub beyond : g.upto < was.scope.to
  pub text : slice_get g.texts z.token ≡ Some (own_text a was.name)
  pub order : z.token < z.begins
  pub at : i ≡ b + z.token
  pub ends : j ≡ b + z.begins
  pub before : z.begins ≤ length g.texts

-- The variables that are declared from the token i on are these, and then stands the statement.
abbrev pub DeclaresEach : Alone → Gap → List Event → (ℕ → List ℕ) → (ℕ → Option Meant) → ℕ → ℕ → List (List ℕ) → TypeRow → List Redeclared → List (List ℕ) → List Argument → Type 0
DeclaresEach a g old w m b i (y ∷ ys) (more t ts) (z ∷ zs) xs gs =
    DeclaresOne a g old b (suc i) (last (type_tree (suc (suc i)) t)) z × TypeMeans m (suc (suc i)) t × DeclaresEach a g old w m b (suc (last (type_tree (suc (suc i)) t))) ys ts zs xs gs
DeclaresEach a g old w m b i [] ts [] xs gs = StatementMeans w m i xs gs
DeclaresEach a g old w m b i ys ts zs xs gs = ⊥

-- ---- the statements of a gap

abbrev pub gap_means : Gap → ℕ → ℕ → Option Meant
gap_means g b i = g.means (i - b)

abbrev pub gap_text : Gap → ℕ → ℕ → List ℕ
gap_text g b i = text_there (slice_get g.texts (i - b))

-- The statements in the place of a run are those of a call, with the variables that are declared in front of it. They are derived over the
-- gap's tokens; what they name has to mean what may be named there, and what they declare are the gap's variables, each one of the run again. No field stands twice in their types.
pub record CallStands (us : List TokenKind) (a new : Alone) (v : ℕ → ℕ) (g : Gap) (old news : List Event) (x : RunStands v g old news) (call : Call) : Type 0 where
  pub trees : x.new ≡ call_trees (v g.from) call
  pub derive : DeriveWithin us (v g.from) (v g.from + length g.texts) x.new
  pub each : DeclaresEach a g old (gap_text g (v g.from)) (gap_means g (v g.from)) (v g.from) (v g.from) call.declared call.types g.declared call.results call.arguments
  pub fields : CallFieldsOnce (own_text new) (v g.from) call
