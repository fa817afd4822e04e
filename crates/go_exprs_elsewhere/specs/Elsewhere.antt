-- Trees and typed trees whose tokens stand elsewhere, and whose locals and objects have other numbers.
use Rattle.std.specs.Prelude.{◌≡◌, ℕ, ◌-◌, Bool, true, false, List, map}
use Rattle.go_grammar.specs.declared.kind.Kind.{Kind}
use Rattle.go_grammar.specs.declared.kind.Kind.TheVariants as kind
use Rattle.go_grammar.specs.Trees.{Tree, node, Trees, none, more, skip}
use Rattle.go_rewriting.specs.Places.{carry}
use Rattle.go_types.specs.Trees.{TypeTree}
use Rattle.go_typed.specs.declared.form.Form.{Form}
use Rattle.go_typed.specs.declared.form.Form.TheVariants as form
use Rattle.go_typed.specs.declared.form.Referent.{Referent}
use Rattle.go_typed.specs.declared.form.Referent.TheVariants as referent
use Rattle.go_typed.specs.Trees.{typed, Typeds}
use Rattle.go_typed.specs.Trees as sort
use Rattle.go_exprs_rules.specs.declared.fault.TypeFault.{TypeFault}
use Rattle.go_exprs_rules.specs.Names.{object_sort, object_form, declared_form}
use Rattle.go_exprs_rules.specs.Scopes.{Needed, Scope, Hint}
use Rattle.go_exprs_rules.specs.Settling.{Part}
use Rattle.go_exprs_rules.specs.Tables.{is_placed}
use Rattle.go_exprs_rules.specs.Typing.{typing, faults}

-- New places of tokens, and new numbers of locals and of objects of the package, each sort by itself.
pub record Moves : Type 0 where
  pub token : ℕ → ℕ
  -- the tokens that say at their new places what they said; others may be spelled anew
  pub spelled : ℕ → Bool
  pub local : ℕ → ℕ
  pub constant : ℕ → ℕ
  pub type : ℕ → ℕ
  pub variable : ℕ → ℕ
  pub function : ℕ → ℕ

abbrev pub referent_moved : Moves → Referent → Referent
referent_moved m (referent.Constant n) = referent.Constant (m.constant n)
referent_moved m (referent.Type n) = referent.Type (m.type n)
referent_moved m (referent.Variable n) = referent.Variable (m.variable n)
referent_moved m (referent.Function n) = referent.Function (m.function n)
referent_moved m r = r

abbrev pub form_moved : Moves → Form → Form
form_moved m (form.Local n) = form.Local (m.local n)
form_moved m (form.New n) = form.New (m.local n)
form_moved m (form.Declared n) = form.Declared (m.local n)
form_moved m (form.Object r) = form.Object (referent_moved m r)
form_moved m f = f

abbrev mutual
  -- the typed tree with each token and each number at its new one
  pub placed : Moves → Part → Part
  placed m (typed f i j l ps) = typed (form_moved m f) (m.token i) (m.token j) l (all_placed m ps)

  pub all_placed : Moves → Typeds TypeTree → Typeds TypeTree
  all_placed m sort.none = sort.none
  all_placed m (sort.more x xs) = sort.more (placed m x) (all_placed m xs)
  all_placed m (sort.skip xs) = sort.skip (all_placed m xs)

abbrev pub fault_placed : Moves → TypeFault → TypeFault
fault_placed m f = record { code = f.code; first = m.token f.first; last = m.token f.last }

-- ---- what tokens say and mean

-- Each token means at its new place what it meant: it stands for the same, however it is needed, under its new number. Those that
-- are spelled the same say the same there.
pub record MeansAlong (m : Moves) (s t : Scope) : Type 0 where
  pub texts : (i : ℕ) → m.spelled i ≡ true → t.texts (m.token i) ≡ s.texts i
  pub characters : (i : ℕ) → m.spelled i ≡ true → t.characters (m.token i) ≡ s.characters i
  pub standing : (n : Needed) (i : ℕ) → object_sort t n (t.objects (m.token i)) ≡ object_sort s n (s.objects i)
  pub object : (i : ℕ) → object_form t (t.objects (m.token i)) ≡ form_moved m (object_form s (s.objects i))
  pub declared : (i : ℕ) → declared_form t (t.objects (m.token i)) ≡ form_moved m (declared_form s (s.objects i))

-- The same in the same place of a declaration, and over the same right sides.
pub record Along (m : Moves) (s t : Scope) : Type 0 where
  pub rights : t.rights ≡ s.rights
  pub needed : t.needed ≡ s.needed
  pub limits : t.limits ≡ s.limits
  pub means : MeansAlong m s t

-- ---- which texts are read: of literals, keys, selectors and fields; names of other things may be spelled anew

abbrev pub Unless : Bool → Type 0 → Type 0
Unless true A = Unit {0}
Unless false A = A

abbrev pub NameSpelled : Moves → Kind → ℕ → Type 0
NameSpelled m kind.DeclaredName i = m.spelled i ≡ true
NameSpelled m k i = Unit {0}

abbrev mutual
  -- the names that are declared in a struct type's lines, but for those inside of their types
  pub NamesSpelled : Moves → Tree → Type 0
  NamesSpelled m (node k i j ps) = Unless (is_placed k) (NameSpelled m k i × AllNamesSpelled m ps)

  pub AllNamesSpelled : Moves → Trees → Type 0
  AllNamesSpelled m none = Unit {0}
  AllNamesSpelled m (more t ts) = NamesSpelled m t × AllNamesSpelled m ts
  AllNamesSpelled m (skip ts) = AllNamesSpelled m ts

-- a selector's name is its last token, also elsewhere
abbrev pub LastSpelled : Moves → ℕ → Type 0
LastSpelled m j = (m.token (j - 1) ≡ m.token j - 1) × (m.spelled (j - 1) ≡ true)

-- the tokens of this node whose texts are read are spelled the same
abbrev pub SpellingKept : Moves → Kind → ℕ → ℕ → Trees → Type 0
SpellingKept m kind.Integer i j ps = m.spelled i ≡ true
SpellingKept m kind.Rune i j ps = m.spelled i ≡ true
SpellingKept m kind.Text i j ps = m.spelled i ≡ true
SpellingKept m kind.Keyed i j ps = m.spelled i ≡ true
SpellingKept m kind.Selector i j ps = LastSpelled m j
SpellingKept m kind.StructType i j ps = AllNamesSpelled m ps
SpellingKept m k i j ps = Unit {0}

abbrev mutual
  pub KeepsSpelling : Moves → Tree → Type 0
  KeepsSpelling m (node k i j ps) = SpellingKept m k i j ps × AllKeepSpelling m ps

  pub AllKeepSpelling : Moves → Trees → Type 0
  AllKeepSpelling m none = Unit {0}
  AllKeepSpelling m (more t ts) = KeepsSpelling m t × AllKeepSpelling m ts
  AllKeepSpelling m (skip ts) = AllKeepSpelling m ts

-- The tree with its tokens elsewhere has the same types, under the new numbers, and the same rules fail in it.
pub record IsTypedElsewhere (m : Moves) (s t : Scope) (h : Hint) (x : Tree) : Type 0 where
  pub typed : typing t h (carry m.token x) ≡ placed m (typing s h x)
  pub failing : faults t h (carry m.token x) ≡ map (λ (fs : List TypeFault). map (fault_placed m) fs) (faults s h x)

-- ---- maps that keep order

-- tokens in order stay in order, one behind the other, in nodes that have tokens
abbrev pub LastKept : Moves → Kind → ℕ → Type 0
LastKept m kind.Selector j = m.token (j - 1) ≡ m.token j - 1
LastKept m k j = Unit {0}

abbrev mutual
  -- the last token of each selector is the last one elsewhere too
  pub KeepsLast : Moves → Tree → Type 0
  KeepsLast m (node k i j ps) = LastKept m k j × AllKeepLast m ps

  pub AllKeepLast : Moves → Trees → Type 0
  AllKeepLast m none = Unit {0}
  AllKeepLast m (more t ts) = KeepsLast m t × AllKeepLast m ts
  AllKeepLast m (skip ts) = AllKeepLast m ts
