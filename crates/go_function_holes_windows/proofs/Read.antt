-- What is known of the parts of a statement that are read, by the categories that are asked for.
use Rattle.std.proofs.Common.{◌≡◌, ◌∙◌, ℕ, suc, Bool, true, false, List, [], ◌∷◌, ◌++◌, length, Option, Some, None, refl, sym}
use Rattle.std.specs.Prelude.{◌&&◌, ◌||◌, not}
use Rattle.go_grammar.specs.declared.kind.Category.{Category}
use Rattle.go_grammar.specs.declared.kind.Category.TheVariants as category
use Rattle.go_grammar.specs.declared.kind.Kind.{Kind}
use Rattle.go_grammar.specs.declared.kind.Kind.TheVariants as kind
use Rattle.go_grammar.specs.declared.kind.Level.TheVariants as level
use Rattle.go_grammar.specs.declared.kind.Place.{Place}
use Rattle.go_grammar.specs.declared.kind.Sort.TheVariants as declaring
use Rattle.go_grammar.specs.Categories.{is_expression}
use Rattle.go_grammar.specs.Grammar.{are_names, is_name}
use Rattle.go_grammar.specs.Rules.{Rule, End, Then, Maybe, Unless, Many, Items, item}
use Rattle.go_grammar.specs.Trees.{Tree, node, Trees, kind_of, parts}
use Rattle.go_grammar.specs.Trees as syntax
use Rattle.go_tokens.specs.declared.token.TokenKind.{TokenKind}
use Rattle.go_rewriting.specs.Replacing.{next_category, next_rule, takes_level}
use Rattle.go_types.specs.Relations.{Rights}
use Rattle.go_typed.specs.declared.form.Form.TheVariants as form
use Rattle.go_types.specs.Trees.{TypeTree}
use Rattle.go_typed.specs.Trees.{typed, Typeds, form_of, list_of}
use Rattle.go_exprs_rules.specs.Scopes.{Hint, several, declares}
use Rattle.go_exprs_rules.specs.Settling.{Part}
use Rattle.go_exprs_rules.specs.Tables.{Parts, is_held, held, first_cut, is_placed}
use Rattle.go_stmts_defs.specs.Laying.{told, behind_names, typed_or_not, specified_names, all_names, specifications, is_group, target_count}
use Rattle.go_stmts_defs.specs.Targets.{is_target}
use Rattle.go_stmts_final_types.specs.Shapes.{AreShaped}
use Rattle.extract_names_derived.specs.Holes.{may_hold_holes, may_be_replaced, gives_operands}
use Rattle.go_rewriting.specs.Sites.{may_change}
use Rattle.go_function_holes.proofs.Public.{Below, IsPart, OfHole, Holes, Sound, TypedPart, IsOpen, differ, operand-takes, judges_values}
use Rattle.go_function_holes_windows.proofs.Rows.{Each, Good, Fine, IsBare, IsOwn}
use Rattle.go_function_holes_windows.proofs.Within.{Within, lifted, each-weaker-holes, fine-within, operand-fine}

-- ---- flavours

-- an expression
pub record IsRead (d : Category) (g : Hint) (p : Tree) (x : Part) : Type 0 where
  pub part : TypedPart d p g x
  pub expression : is_expression (kind_of p) ≡ true
  -- a name where names are declared
  pub name : g ≡ declares → is_name (kind_of p) ≡ true → IsBare x

-- what is assigned to: its holes stand somewhere where it is a variable
abbrev pub Aimed : OfHole → Part → Type 0
Aimed P y = Sound y → (rights : Rights) → is_target rights y ≡ true → Holes P y

-- no part is left out
abbrev pub Full : Parts → Type 0
Full [] = Unit {0}
Full (None ∷ ys) = ⊥
Full (Some y ∷ ys) = Full ys

-- below the list that is the part of what holds targets
pub record InTargets (o : Bool) (q : Place) (p : Tree) (i j : ℕ) : Type 0 where
  pub hole : Below o (category.Targets q) p i j
  pub changes : may_change kind.AssigningRange 0 (hole.part ∷ hole.path) ≡ true

-- what a range assigns to, and what it ranges over
pub record Ranges (P : OfHole) (ps : Typeds TypeTree) : Type 0 where
  pub targets : Parts
  pub operand : Part
  pub is : list_of ps ≡ targets ++ Some operand ∷ []
  pub counted : target_count ps ≡ length targets
  pub aimed : Each (Aimed P) targets
  pub full : Full targets
  pub good : Good P operand

-- the header of a loop
abbrev pub Headed : OfHole → Part → Type 0
Headed P (typed (form.Held kind.AssigningRange) i j l ps) = Ranges P ps
Headed P x = Fine P x

-- names that a specification declares, and those of what stands in a declaration
pub record Specifies (D : Part → Type 0) (x : Part) : Type 0 where
  pub names : Each D (specified_names (Some x))
  pub single : is_group (form_of x) ≡ false

abbrev pub Declares : (Part → Type 0) → Part → Type 0
Declares D x = Each D (all_names (specifications (Some x ∷ [])))

-- ---- by categories

abbrev pub ReadAs : Bool → Category → Hint → Tree → Part → Type 0
ReadAs o (category.Expression l q) g p x = IsRead (category.Expression l q) g p x
ReadAs o category.Type g p x = TypedPart category.Type p g x × (is_placed (kind_of p) ≡ true) × (is_held (form_of x) ≡ false)
ReadAs o category.DeclaredName g p x = IsBare x × IsOwn x
ReadAs o category.NameList g p x = Each IsBare (held (Some x)) × Each IsOwn (held (Some x))
ReadAs o (category.ExpressionList q) g p x = o ≡ true → judges_values g ≡ true → Each (Good (Below o (category.ExpressionList q) p)) (held (Some x))
ReadAs o (category.LeftList q) g p x = (judges_values g ≡ true → Each (Aimed (Below o (category.LeftList q) p)) (held (Some x)) × Full (held (Some x))) × (g ≡ declares → are_names (parts p) ≡ true → Each IsBare (held (Some x)))
ReadAs o (category.Targets q) g p x = Each (Aimed (InTargets o q p)) (held (Some x)) × Full (held (Some x))
ReadAs o (category.NewNames q) g p x = Each IsBare (held (Some x))
ReadAs o category.VariableRest g p x = g ≡ behind_names (kind_of p) several → Each (Good (Below o category.VariableRest p)) (first_cut (typed_or_not (Some x)))
ReadAs o (category.Specification declaring.Constant) g p x = Specifies IsOwn x
ReadAs o (category.Specification declaring.Type) g p x = Specifies IsBare x
ReadAs o (category.DeclarationBody declaring.Constant) g p x = Declares IsOwn x
ReadAs o (category.DeclarationBody declaring.Type) g p x = Declares IsBare x
ReadAs o category.ForHeader g p x = judges_values g ≡ true → Headed (Within o category.ForHeader p) x
ReadAs o (category.Specification declaring.Variable) g p x = Fine (Within o (category.Specification declaring.Variable) p) x
ReadAs o (category.DeclarationBody declaring.Variable) g p x = Fine (Within o (category.DeclarationBody declaring.Variable) p) x
ReadAs o category.IfHeader g p x = judges_values g ≡ true → Fine (Within o category.IfHeader p) x
ReadAs o category.SwitchHeader g p x = judges_values g ≡ true → Fine (Within o category.SwitchHeader p) x
ReadAs o category.Block g p x = Fine (Within o category.Block p) x
ReadAs o category.Else g p x = Fine (Within o category.Else p) x
ReadAs o category.Branch g p x = Fine (Within o category.Branch p) x
ReadAs o category.Clause g p x = Fine (Within o category.Clause p) x
ReadAs o category.Statement g p x = Fine (Within o category.Statement p) x
ReadAs o category.Simple g p x = Fine (Within o category.Simple p) x
ReadAs o category.Post g p x = Fine (Within o category.Post p) x
ReadAs o c g p x = Unit {0}

-- whose parts are all of one sort: their holes stand in them
abbrev pub is_plain : Category → Bool
is_plain (category.Expression l q) = true
is_plain (category.ExpressionList q) = true
is_plain (category.Specification declaring.Variable) = true
is_plain (category.DeclarationBody declaring.Variable) = true
is_plain category.IfHeader = true
is_plain category.SwitchHeader = true
is_plain category.Block = true
is_plain category.Else = true
is_plain category.Branch = true
is_plain category.Clause = true
is_plain category.Statement = true
is_plain category.Simple = true
is_plain category.Post = true
is_plain c = false

abbrev pub is_values : Category → Bool
is_values (category.ExpressionList q) = true
is_values c = false

pub plain-fine : (o : Bool) (d : Category) (g : Hint) (p : Tree) (x : Part) → is_plain d ≡ true → (is_values d ≡ true → o ≡ true) → judges_values g ≡ true → ReadAs o d g p x → Fine (Within o d p) x
plain-fine o (category.Expression l q) g p x e v j r = operand-fine o (category.Expression l q) (category.Expression l q) g p x refl (operand-takes (category.Expression l q) refl) refl r.expression j r.part
plain-fine o (category.ExpressionList q) g p x e v j r = fine-within o (category.ExpressionList q) p x (r (v refl) j)
plain-fine o (category.Specification declaring.Variable) g p x e v j r = r
plain-fine o (category.Specification declaring.Constant) g p x e v j r = absurd (differ e)
plain-fine o (category.Specification declaring.Type) g p x e v j r = absurd (differ e)
plain-fine o (category.DeclarationBody declaring.Variable) g p x e v j r = r
plain-fine o (category.DeclarationBody declaring.Constant) g p x e v j r = absurd (differ e)
plain-fine o (category.DeclarationBody declaring.Type) g p x e v j r = absurd (differ e)
plain-fine o category.IfHeader g p x e v j r = r j
plain-fine o category.SwitchHeader g p x e v j r = r j
plain-fine o category.Block g p x e v j r = r
plain-fine o category.Else g p x e v j r = r
plain-fine o category.Branch g p x e v j r = r
plain-fine o category.Clause g p x e v j r = r
plain-fine o category.Statement g p x e v j r = r
plain-fine o category.Simple g p x e v j r = r
plain-fine o category.Post g p x e v j r = r
plain-fine o c g p x e v j r = absurd (differ e)

-- ---- rows of parts

-- the part with this number, behind parts that are read so
pub record PartAs (c : Category) (k : Kind) (h : Hint) (all : Trees) (n : ℕ) (d : Category) (xs : Parts) (x : Part) : Type 0 where
  pub stood : Tree
  pub at : may_hold_holes k ≡ true → IsPart c k all n d stood
  pub read : ReadAs (gives_operands k n) d (told k h all xs (kind_of stood)) stood x

-- a specification of constants repeats what is left out
abbrev pub repeats : Kind → Bool
repeats (kind.Specification declaring.Constant) = true
repeats k = false

abbrev pub RowAs : Category → Kind → Hint → Trees → Rule → ℕ → Parts → Parts → Type 0
RowAs c k h all (End ws) n xs [] = Unit {0}
RowAs c k h all (End ws) n xs (y ∷ ys) = ⊥
RowAs c k h all (Then ws d r) n xs [] = ⊥
RowAs c k h all (Then ws d r) n xs (None ∷ ys) = ⊥
RowAs c k h all (Then ws d r) n xs (Some x ∷ ys) = PartAs c k h all n d xs x × RowAs c k h all r (suc n) (xs ++ Some x ∷ []) ys
RowAs c k h all (Maybe ws d r) n xs [] = ⊥
RowAs c k h all (Maybe ws d r) n xs (None ∷ ys) = RowAs c k h all r (suc n) (xs ++ None ∷ []) ys
RowAs c k h all (Maybe ws d r) n xs (Some x ∷ ys) = (repeats k ≡ false → PartAs c k h all n d xs x) × RowAs c k h all r (suc n) (xs ++ Some x ∷ []) ys
RowAs c k h all (Unless ws d us r) n xs [] = ⊥
RowAs c k h all (Unless ws d us r) n xs (None ∷ ys) = RowAs c k h all r (suc n) (xs ++ None ∷ []) ys
RowAs c k h all (Unless ws d us r) n xs (Some x ∷ ys) = (repeats k ≡ false → PartAs c k h all n d xs x) × RowAs c k h all r (suc n) (xs ++ Some x ∷ []) ys
RowAs c k h all (Many ws l) n xs [] = Unit {0}
RowAs c k h all (Many ws l) n xs (None ∷ ys) = ⊥
RowAs c k h all (Many ws l) n xs (Some x ∷ ys) = PartAs c k h all n (item l) xs x × RowAs c k h all (Many ws l) (suc n) (xs ++ Some x ∷ []) ys

pub many-each : (D : Part → Type 0) (c : Category) (k : Kind) (h : Hint) (all : Trees) (ws : List TokenKind) (l : Items) → ((n : ℕ) (xs : Parts) (x : Part) → PartAs c k h all n (item l) xs x → D x)
    → (n : ℕ) (xs ys : Parts) → RowAs c k h all (Many ws l) n xs ys → Each D ys
many-each D c k h all ws l g n xs [] r = tt
many-each D c k h all ws l g n xs (None ∷ ys) r = absurd r
many-each D c k h all ws l g n xs (Some x ∷ ys) r = (g n xs x r.0, many-each D c k h all ws l g (suc n) (xs ++ Some x ∷ []) ys r.1)

pub then-each : (D : Part → Type 0) (c : Category) (k : Kind) (h : Hint) (all : Trees) (ws us : List TokenKind) (d : Category) (l : Items) → ((n : ℕ) (xs : Parts) (x : Part) → PartAs c k h all n d xs x → D x)
    → ((n : ℕ) (xs : Parts) (x : Part) → PartAs c k h all n (item l) xs x → D x) → (ys : Parts) → RowAs c k h all (Then ws d (Many us l)) 0 [] ys → Each D ys
then-each D c k h all ws us d l g f [] r = absurd r
then-each D c k h all ws us d l g f (None ∷ ys) r = absurd r
then-each D c k h all ws us d l g f (Some x ∷ ys) r = (g 0 [] x r.0, many-each D c k h all us l f 1 (Some x ∷ []) ys r.1)

pub then-full : (c : Category) (k : Kind) (h : Hint) (all : Trees) (ws us : List TokenKind) (d : Category) (l : Items) (ys : Parts) → RowAs c k h all (Then ws d (Many us l)) 0 [] ys → Full ys
then-full c k h all ws us d l [] r = tt
then-full c k h all ws us d l (None ∷ ys) r = absurd r
then-full c k h all ws us d l (Some x ∷ ys) r = many-full 1 (Some x ∷ []) ys r.1 where
  many-full : (n : ℕ) (xs ys : Parts) → RowAs c k h all (Many us l) n xs ys → Full ys
  many-full n xs [] r = tt
  many-full n xs (None ∷ ys) r = absurd r
  many-full n xs (Some y ∷ ys) r = many-full (suc n) (xs ++ Some y ∷ []) ys r.1

pub single-each : (D : Part → Type 0) (c : Category) (k : Kind) (h : Hint) (all : Trees) (ws us : List TokenKind) (d : Category) → ((x : Part) → PartAs c k h all 0 d [] x → D x) → (ys : Parts) → RowAs c k h all (Then ws d (End us)) 0 [] ys → Each D ys
single-each D c k h all ws us d g [] r = absurd r
single-each D c k h all ws us d g (None ∷ ys) r = absurd r
single-each D c k h all ws us d g (Some x ∷ []) r = (g x r.0, tt)
single-each D c k h all ws us d g (Some x ∷ y ∷ ys) r = absurd r.1

-- ---- rows of such parts alone

abbrev pub plain_place : Bool → Kind → ℕ → Category → Bool
plain_place o k n d = is_plain d && ((not (is_values d) || gives_operands k n) && (not (takes_level level.Primary d) || may_be_replaced o k n))

abbrev pub PlainRule : Bool → Kind → ℕ → Rule → Type 0
PlainRule o k n (End ws) = Unit {0}
PlainRule o k n (Then ws d r) = (plain_place o k n d ≡ true) × PlainRule o k (suc n) r
PlainRule o k n (Maybe ws d r) = (plain_place o k n d ≡ true) × PlainRule o k (suc n) r
PlainRule o k n (Unless ws d us r) = (plain_place o k n d ≡ true) × PlainRule o k (suc n) r
PlainRule o k n (Many ws l) = (m : ℕ) → plain_place o k m (item l) ≡ true

pub record PlainKind (k : Kind) (h : Hint) (all : Trees) : Type 0 where
  pub free : IsOpen k
  pub new : repeats k ≡ false
  pub tells : (xs : Parts) (q : Kind) → judges_values (told k h all xs q) ≡ true

pub and-first : (a b : Bool) → (a && b) ≡ true → a ≡ true
and-first true b e = refl
and-first false b e = e

pub and-second : (a b : Bool) → (a && b) ≡ true → b ≡ true
and-second true b e = e
and-second false b e = absurd (differ e)

implied : (a b : Bool) → (not a || b) ≡ true → a ≡ true → b ≡ true
implied true b e f = e
implied false b e f = absurd (differ f)

module _ (o : Bool) (c : Category) (k : Kind) (h : Hint) (i j : ℕ) (all : Trees) (plain : PlainKind k h all) where
  abbrev P : OfHole
  P = Below o c (node k i j all)

  pub part-fine : (n : ℕ) (d : Category) (xs : Parts) (x : Part) → plain_place o k n d ≡ true → PartAs c k h all n d xs x → Fine P x
  part-fine n d xs x e part =
      let values = not (is_values d) || gives_operands k n in
      let replaced = not (takes_level level.Primary d) || may_be_replaced o k n in
      let rest = and-second (is_plain d) (values && replaced) e in
      each-weaker-holes (Within (gives_operands k n) d part.stood) P
      (lifted o c k i j all n d part.stood (part.at plain.free.holds) (plain.free.change n) (implied (takes_level level.Primary d) (may_be_replaced o k n) (and-second values replaced rest))) (held (Some x))
      (plain-fine (gives_operands k n) d (told k h all xs (kind_of part.stood)) part.stood x (and-first (is_plain d) (values && replaced) e) (implied (is_values d) (gives_operands k n) (and-first values replaced rest)) (plain.tells xs (kind_of part.stood)) part.read)

  pub row-fine : (r : Rule) (n : ℕ) (xs ys : Parts) → PlainRule o k n r → RowAs c k h all r n xs ys → Each (Fine P) ys
  row-fine (End ws) n xs [] e g = tt
  row-fine (End ws) n xs (y ∷ ys) e g = absurd g
  row-fine (Then ws d r) n xs [] e g = absurd g
  row-fine (Then ws d r) n xs (None ∷ ys) e g = absurd g
  row-fine (Then ws d r) n xs (Some y ∷ ys) e g = (part-fine n d xs y e.0 g.0, row-fine r (suc n) (xs ++ Some y ∷ []) ys e.1 g.1)
  row-fine (Maybe ws d r) n xs [] e g = absurd g
  row-fine (Maybe ws d r) n xs (None ∷ ys) e g = (tt, row-fine r (suc n) (xs ++ None ∷ []) ys e.1 g)
  row-fine (Maybe ws d r) n xs (Some y ∷ ys) e g = (part-fine n d xs y e.0 (g.0 plain.new), row-fine r (suc n) (xs ++ Some y ∷ []) ys e.1 g.1)
  row-fine (Unless ws d us r) n xs [] e g = absurd g
  row-fine (Unless ws d us r) n xs (None ∷ ys) e g = (tt, row-fine r (suc n) (xs ++ None ∷ []) ys e.1 g)
  row-fine (Unless ws d us r) n xs (Some y ∷ ys) e g = (part-fine n d xs y e.0 (g.0 plain.new), row-fine r (suc n) (xs ++ Some y ∷ []) ys e.1 g.1)
  row-fine (Many ws l) n xs [] e g = tt
  row-fine (Many ws l) n xs (None ∷ ys) e g = absurd g
  row-fine (Many ws l) n xs (Some y ∷ ys) e g = (part-fine n (item l) xs y (e n) g.0, row-fine (Many ws l) (suc n) (xs ++ Some y ∷ []) ys e g.1)

-- ---- one part more

pub row-more : (c : Category) (k : Kind) (h : Hint) (all : Trees) (r : Rule) (n : ℕ) (xs : Parts) (p : Tree) (ps : Trees) (x : Part) (ys : Parts) → AreShaped r (syntax.more p ps)
    → PartAs c k h all n (next_category r) xs x → RowAs c k h all (next_rule r) (suc n) (xs ++ Some x ∷ []) ys → RowAs c k h all r n xs (Some x ∷ ys)
row-more c k h all (End ws) n xs p ps x ys w part g = absurd w
row-more c k h all (Then ws d r) n xs p ps x ys w part g = (part, g)
row-more c k h all (Maybe ws d r) n xs p ps x ys w part g = ((λ e. part), g)
row-more c k h all (Unless ws d us r) n xs p ps x ys w part g = ((λ e. part), g)
row-more c k h all (Many ws l) n xs p ps x ys w part g = (part, g)

-- a part that is left out, which may be repeated
abbrev pub LeftOut : Kind → Option Part → Type 0
LeftOut k None = Unit {0}
LeftOut k (Some x) = repeats k ≡ true

pub row-skip : (c : Category) (k : Kind) (h : Hint) (all : Trees) (r : Rule) (n : ℕ) (xs : Parts) (ps : Trees) (x : Option Part) (ys : Parts) → AreShaped r (syntax.skip ps) → LeftOut k x
    → RowAs c k h all (next_rule r) (suc n) (xs ++ x ∷ []) ys → RowAs c k h all r n xs (x ∷ ys)
row-skip c k h all (End ws) n xs ps x ys w o g = absurd w
row-skip c k h all (Then ws d r) n xs ps x ys w o g = absurd w
row-skip c k h all (Maybe ws d r) n xs ps None ys w o g = g
row-skip c k h all (Maybe ws d r) n xs ps (Some x) ys w o g = ((λ e. absurd (differ (sym e ∙ o))), g)
row-skip c k h all (Unless ws d us r) n xs ps None ys w o g = g
row-skip c k h all (Unless ws d us r) n xs ps (Some x) ys w o g = ((λ e. absurd (differ (sym e ∙ o))), g)
row-skip c k h all (Many ws l) n xs ps x ys w o g = absurd w

pub row-end : (c : Category) (k : Kind) (h : Hint) (all : Trees) (r : Rule) (n : ℕ) (xs : Parts) → AreShaped r syntax.none → RowAs c k h all r n xs []
row-end c k h all (End ws) n xs w = tt
row-end c k h all (Then ws d r) n xs w = absurd w
row-end c k h all (Maybe ws d r) n xs w = absurd w
row-end c k h all (Unless ws d us r) n xs w = absurd w
row-end c k h all (Many ws l) n xs w = tt
