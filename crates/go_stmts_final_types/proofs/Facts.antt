-- What is known of an expression whose names are known and that has no faults, by the category that the grammar gives it.
use Rattle.std.proofs.Common.{◌≡◌, ℕ, Bool, true, false, [], ◌∷◌, ◌++◌, Option, Some, None, refl}
use Rattle.std.specs.Prelude.{is_some}
use Rattle.go_grammar.specs.declared.kind.Category.{Category}
use Rattle.go_grammar.specs.declared.kind.Category.TheVariants as category
use Rattle.go_grammar.specs.declared.kind.Kind.{Kind}
use Rattle.go_grammar.specs.Grammar.{is_name}
use Rattle.go_grammar.specs.Rules.{Rule}
use Rattle.go_grammar.specs.Trees.{Trees, none, more, skip, kind_of}
use Rattle.go_types.specs.Trees.{TypeTree}
use Rattle.go_types.specs.Relations.{Rights}
use Rattle.go_typed.specs.Trees.{sort_of}
use Rattle.go_typed.specs.Trees as sort
use Rattle.go_exprs_rules.specs.Names.{place_failing}
use Rattle.go_exprs_rules.specs.Scopes.{Scope, Hint, type_place, loose, loose_inside, declares, free}
use Rattle.go_exprs_rules.specs.Settling.{Part}
use Rattle.go_exprs_rules.specs.Sorts.{Stands, is_unknown, named_type}
use Rattle.go_exprs_rules.specs.Tables.{Parts, hint, part_scope, in_parentheses, as_type_place, is_type}
use Rattle.go_exprs_rules.specs.TypeNodes.{entry_of, entry_types, all_types, parts_in, result_types}
use Rattle.go_exprs_rules.specs.Typing.{typing}
use Rattle.go_stmts_final_types.specs.Names.{Standing, alone, called, selected, is_fit, KeepsFamily, called_in, standing_in}
use Rattle.go_stmts_final_types.proofs.RowRules.{front, behind_front}

-- places that ask for a type
abbrev pub is_typing : Hint → Bool
is_typing type_place = true
is_typing loose = true
is_typing h = false

-- places where what a name stands for is read
abbrev pub reads : Hint → Bool
reads declares = false
reads free = false
reads h = true

-- it stands for something known, as it may where it stands, and a constant is of its type's family
pub record Fits (r : Standing) (rights : Rights) (x : Stands) : Type 0 where
  pub fit : is_fit r x ≡ true
  pub family : KeepsFamily rights x

-- so does an expression, and what its place asks for it is
pub record Clear (r : Standing) (rights : Rights) (h : Hint) (x : Part) : Type 0 where
  pub fits : Fits r rights (sort_of x)
  pub first : ℕ
  pub last : ℕ
  pub placed : place_failing rights h first last (sort_of x) ≡ []

abbrev pub IsTypeIf : Hint → Part → Type 0
IsTypeIf h x = is_typing h ≡ true → is_type (sort_of x) ≡ true

abbrev pub is_declaring : Hint → Bool
is_declaring declares = true
is_declaring h = false

-- an entry of parameters has a type, or is a name that has that of the next one
pub record EntryFact (h : Hint) (n : Kind) (x : Part) : Type 0 where
  pub typed : is_typing h ≡ true → (next : Option TypeTree) → is_some (entry_of x next) ≡ true
  pub named : is_declaring h ≡ true → is_name n ≡ true → (next : Option TypeTree) → entry_of x next ≡ next

abbrev pub Fact : Category → Standing → Rights → Hint → Kind → Part → Type 0
Fact (category.Expression l p) r rights h n x = reads h ≡ true → Clear r rights h x
Fact category.Type r rights h n x = (reads h ≡ true → Clear r rights h x) × IsTypeIf h x
Fact category.Entry r rights h n x = EntryFact h n x
Fact category.Parameters r rights h n x = is_typing h ≡ true → is_some (all_types (entry_types (parts_in (Some x)))) ≡ true
Fact category.Result r rights h n x = is_typing h ≡ true → is_some (all_types (result_types (Some x))) ≡ true
Fact category.Signature r rights h n x = is_type (sort_of x) ≡ true
Fact c r rights h n x = Unit {0}

-- of the parts of a node behind those in front
abbrev pub Facts : Standing → Scope → Kind → Hint → Trees → Parts → Trees → Rule → Type 0
Facts r s k h all xs none w = Unit {0}
Facts r s k h all xs (more p ps) w =
    let x = typing (part_scope s k xs) (hint s k h all xs (kind_of p)) p in
    Fact (front w) (standing_in r k xs (kind_of p)) s.rights (hint s k h all xs (kind_of p)) (kind_of p) x × Facts r s k h all (xs ++ Some x ∷ []) ps (behind_front w)
Facts r s k h all xs (skip ps) w = Facts r s k h all (xs ++ None ∷ []) ps (behind_front w)

-- ---- what follows

pub fit_known : (r : Standing) (x : Stands) → is_fit r x ≡ true → is_unknown x ≡ false
fit_known r sort.Unknown e = cc
fit_known r x e = refl

pub alone_fits : (r : Standing) (x : Stands) → is_fit alone x ≡ true → is_fit r x ≡ true
alone_fits alone x e = e
alone_fits called sort.Unknown e = cc
alone_fits called sort.Nothing e = cc
alone_fits called sort.Package e = cc
alone_fits called sort.Println e = cc
alone_fits called x e = refl
alone_fits selected sort.Unknown e = cc
alone_fits selected sort.Nothing e = cc
alone_fits selected sort.Package e = cc
alone_fits selected sort.Println e = cc
alone_fits selected x e = refl

pub inside_fits : (r : Standing) (x : Stands) → is_fit (called_in r) x ≡ true → is_fit r x ≡ true
inside_fits alone x e = e
inside_fits called x e = e
inside_fits selected x e = alone_fits selected x e

pub inside_reads : (h : Hint) → reads (in_parentheses h) ≡ true
inside_reads loose = refl
inside_reads loose_inside = refl
inside_reads h = refl

pub type_asked : (h : Hint) → is_typing (as_type_place h) ≡ true
type_asked loose = refl
type_asked loose_inside = refl
type_asked h = refl

pub type_named : (x : Stands) → is_type x ≡ true → is_some (named_type x) ≡ true
type_named (sort.IsType t) e = refl
type_named x e = cc

pub type_known : (x : Stands) → is_type x ≡ true → is_unknown x ≡ false
type_known (sort.IsType t) e = refl
type_known x e = cc

pub typed_known : (x : Stands) → is_type x ≡ true → is_fit alone x ≡ true
typed_known (sort.IsType t) e = refl
typed_known x e = cc

pub typed_keeps : (rights : Rights) (x : Stands) → is_type x ≡ true → KeepsFamily rights x
typed_keeps rights (sort.IsType t) e = tt
typed_keeps rights x e = cc

-- a type's place has a type
pub type_placed : (rights : Rights) (h : Hint) (i j : ℕ) (x : Stands) → is_typing h ≡ true → place_failing rights h i j x ≡ [] → is_unknown x ≡ false → is_type x ≡ true
type_placed rights type_place i j (sort.IsType t) a e u = refl
type_placed rights type_place i j sort.Unknown a e u = cc
type_placed rights type_place i j x a e u = cc
type_placed rights loose i j (sort.IsType t) a e u = refl
type_placed rights loose i j sort.Unknown a e u = cc
type_placed rights loose i j x a e u = cc
type_placed rights h i j x a e u = cc
