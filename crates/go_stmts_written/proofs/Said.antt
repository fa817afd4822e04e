-- What is said of parts, of types that there may be, of what nodes are told, and of what parts take.
use Rattle.std.specs.Prelude.{ℕ, Bool, true, false, List, [], ◌∷◌, Option, Some, None}
use Rattle.go_grammar.specs.Trees.{Tree}
use Rattle.go_types.specs.Trees.{TypeTree}
use Rattle.go_typed.specs.declared.form.Form.{Form}
use Rattle.go_typed.specs.Trees.{typed, Typeds}
use Rattle.go_typed.specs.Trees as sort
use Rattle.go_print_laws.specs.Lexemes.{IsName}
use Rattle.go_exprs_rules.specs.Operators.{Common, in_type, in_kind}
use Rattle.go_exprs_rules.specs.Scopes.{Hint, element, member}
use Rattle.go_exprs_rules.specs.Settling.{Part, Take, as_type}
use Rattle.go_exprs_rules.specs.Tables.{Parts}
use Rattle.go_exprs_rules.specs.TypeNodes.{is_field_name}
use Rattle.go_stmts_defs.specs.Assigning.{Taking, takes, stands}
use Rattle.go_stmts_defs.specs.Frames.{Locals, local_stands}
use Rattle.go_stmts_written.specs.Named.{IsNamed, StandsIsNamed, TreeIsNamed}

abbrev pub MaybeNamed : Option TypeTree → Type 0
MaybeNamed None = Unit {0}
MaybeNamed (Some t) = IsNamed t

-- ---- typed nodes

-- a field's name is spelled as names are
abbrev pub IsNameWhere : Bool → List ℕ → Type 0
IsNameWhere true w = IsName w
IsNameWhere false w = Unit {0}

abbrev pub FormIsNamed : (ℕ → List ℕ) → Form → ℕ → Type 0
FormIsNamed texts f i = IsNameWhere (is_field_name f) (texts i)

abbrev mutual
  -- the types that nodes stand for are named, and so are fields, where tokens say this
  pub PartIsNamed : (ℕ → List ℕ) → Part → Type 0
  PartIsNamed texts (typed f i j l ps) = StandsIsNamed l.sort × AllNamed texts ps × FormIsNamed texts f i

  pub AllNamed : (ℕ → List ℕ) → Typeds TypeTree → Type 0
  AllNamed texts sort.none = Unit {0}
  AllNamed texts (sort.more p ps) = PartIsNamed texts p × AllNamed texts ps
  AllNamed texts (sort.skip ps) = AllNamed texts ps

abbrev pub MaybePart : (ℕ → List ℕ) → Option Part → Type 0
MaybePart texts None = Unit {0}
MaybePart texts (Some x) = PartIsNamed texts x

abbrev pub PartsNamed : (ℕ → List ℕ) → Parts → Type 0
PartsNamed texts [] = Unit {0}
PartsNamed texts (x ∷ xs) = MaybePart texts x × PartsNamed texts xs

abbrev pub ListNamed : (ℕ → List ℕ) → List Part → Type 0
ListNamed texts [] = Unit {0}
ListNamed texts (x ∷ xs) = PartIsNamed texts x × ListNamed texts xs

-- of what a node is told: the type of an element, or the struct type of a member
abbrev pub HintNamed : Hint → Type 0
HintNamed (element t) = IsNamed t
HintNamed (member t) = IsNamed t
HintNamed h = Unit {0}

-- of a tree that there may be
abbrev pub MaybeTree : (ℕ → List ℕ) → Option Tree → Type 0
MaybeTree texts None = Unit {0}
MaybeTree texts (Some t) = TreeIsNamed texts t

-- ---- what takes a type

abbrev pub TakeNamed : Take → Type 0
TakeNamed (as_type t) = IsNamed t
TakeNamed k = Unit {0}

abbrev pub TakesNamed : List Take → Type 0
TakesNamed [] = Unit {0}
TakesNamed (k ∷ ks) = TakeNamed k × TakesNamed ks

abbrev pub TakingNamed : Taking → Type 0
TakingNamed (takes k) = TakeNamed k
TakingNamed (stands x) = StandsIsNamed x

abbrev pub TakingsNamed : List Taking → Type 0
TakingsNamed [] = Unit {0}
TakingsNamed (k ∷ ks) = TakingNamed k × TakingsNamed ks

-- ---- types

abbrev pub CommonNamed : Common → Type 0
CommonNamed (in_type t) = IsNamed t
CommonNamed (in_kind k) = Unit {0}

abbrev pub MaybeCommon : Option Common → Type 0
MaybeCommon None = Unit {0}
MaybeCommon (Some c) = CommonNamed c

abbrev pub EntriesNamed : List (Option TypeTree) → Type 0
EntriesNamed [] = Unit {0}
EntriesNamed (o ∷ os) = MaybeNamed o × EntriesNamed os

abbrev pub TypesNamed : List TypeTree → Type 0
TypesNamed [] = Unit {0}
TypesNamed (t ∷ ts) = IsNamed t × TypesNamed ts

abbrev pub MaybeTypes : Option (List TypeTree) → Type 0
MaybeTypes None = Unit {0}
MaybeTypes (Some ts) = TypesNamed ts

abbrev pub LocalsNamed : Locals → Type 0
LocalsNamed ls = (n : ℕ) → StandsIsNamed (local_stands ls n)

abbrev pub TreesNamed : (ℕ → List ℕ) → List Tree → Type 0
TreesNamed texts [] = Unit {0}
TreesNamed texts (t ∷ ts) = TreeIsNamed texts t × TreesNamed texts ts
