-- The functions of a package are declared in trees that are derived.
use Rattle.std.proofs.Common.{◌≡◌, ℕ, suc, Bool, true, false, cond, List, [], ◌∷◌, ◌++◌, map, Option, Some, None, refl, sym, ap, subst}
use Rattle.go_base.specs.declared.bytes.FileText.{FileText}
use Rattle.go_grammar.specs.declared.kind.Category.{Category}
use Rattle.go_grammar.specs.declared.kind.Category.TheVariants as category
use Rattle.go_grammar.specs.declared.kind.Kind.TheVariants as kind
use Rattle.go_grammar.specs.declared.kind.Sort.{Sort as Declaring}
use Rattle.go_grammar.specs.declared.kind.Sort.TheVariants as declaring
use Rattle.go_grammar.specs.Grammar.{Derives, Spells, Goes}
use Rattle.go_grammar.specs.Rules.{Items, Each, Many, item}
use Rattle.go_grammar.specs.Trees.{Tree, node, Trees, none, more, skip, last}
use Rattle.go_tokens.specs.Tokens.{kinds}
use Rattle.go_tokens.specs.declared.token.TokenKind.{TokenKind}
use Rattle.go_tokens.specs.declared.token.TokenKind.TheVariants as token
use Rattle.go_tree.specs.declared.context.Entity.TheVariants as entity
use Rattle.go_tree.specs.File.{FileTree}
use Rattle.go_package_defs.specs.Answer.{specifications}
use Rattle.go_package_defs.specs.Bodies.{is_this, those_of}
use Rattle.go_package_defs.specs.Checked.{AreRead}
use Rattle.go_package_defs.specs.Declarations.{Specification, grouped, declared, declaration, declarations, in_file}
use Rattle.go_package_defs.specs.Sources.{source_of}

differ : {A : Type 0} → (let b : Bool = false in b) ≡ true → A
differ e = absurd cc

-- it is declared in a tree that is derived
abbrev pub IsFunctionTree : Specification → Type 0
IsFunctionTree d = (ts : List TokenKind) × (t : Tree) × (d.tree ≡ Some t) × Derives ts category.Declaration t

abbrev pub AllFunctions : List Specification → Type 0
AllFunctions [] = Unit {0}
AllFunctions (d ∷ ds) = IsFunctionTree d × AllFunctions ds

grouped_none : (n : ℕ) (s : Declaring) (k : ℕ) (r : Option Tree) (ps : Trees) → those_of entity.Function (grouped n s k r ps) ≡ []
grouped_none n declaring.Constant k r none = refl
grouped_none n declaring.Type k r none = refl
grouped_none n declaring.Variable k r none = refl
grouped_none n declaring.Constant k r (more (node l i j qs) ps) = grouped_none n declaring.Constant (suc k) _ ps
grouped_none n declaring.Type k r (more (node l i j qs) ps) = grouped_none n declaring.Type (suc k) _ ps
grouped_none n declaring.Variable k r (more (node l i j qs) ps) = grouped_none n declaring.Variable (suc k) _ ps
grouped_none n declaring.Constant k r (skip ps) = grouped_none n declaring.Constant k r ps
grouped_none n declaring.Type k r (skip ps) = grouped_none n declaring.Type k r ps
grouped_none n declaring.Variable k r (skip ps) = grouped_none n declaring.Variable k r ps

declared_none : (n : ℕ) (s : Declaring) (ps : Trees) → those_of entity.Function (declared n s ps) ≡ []
declared_none n s none = grouped_none n s 0 None none
declared_none n s (skip ps) = grouped_none n s 0 None (skip ps)
declared_none n s (more (node (kind.Group g) i j qs) none) = grouped_none n s 0 None qs
declared_none n s (more (node (kind.Group g) i j qs) (more q ps)) = grouped_none n s 0 None (more (node (kind.Group g) i j qs) (more q ps))
declared_none n s (more (node (kind.Group g) i j qs) (skip ps)) = grouped_none n s 0 None (more (node (kind.Group g) i j qs) (skip ps))
declared_none n s (more (node k i j qs) ps) = grouped_none n s 0 None (more (node k i j qs) ps)

those_append : (ds es : List Specification) → those_of entity.Function (ds ++ es) ≡ those_of entity.Function ds ++ those_of entity.Function es
those_append [] es = refl
those_append (d ∷ ds) es = by (is_this entity.Function d.entity) (those_append ds es)
  where
    by : (b : Bool) → those_of entity.Function (ds ++ es) ≡ those_of entity.Function ds ++ those_of entity.Function es
        → cond b (d ∷ those_of entity.Function (ds ++ es)) (those_of entity.Function (ds ++ es)) ≡ cond b (d ∷ those_of entity.Function ds) (those_of entity.Function ds) ++ those_of entity.Function es
    by true e = ap (λ xs. d ∷ xs) e
    by false e = e

functions_append : (ds es : List Specification) → AllFunctions ds → AllFunctions es → AllFunctions (ds ++ es)
functions_append [] es h g = g
functions_append (d ∷ ds) es h g = (h.0, functions_append ds es h.1 g)

both_functions : (ds es : List Specification) → AllFunctions (those_of entity.Function ds) → AllFunctions (those_of entity.Function es) → AllFunctions (those_of entity.Function (ds ++ es))
both_functions ds es h g = subst AllFunctions (sym (those_append ds es)) (functions_append (those_of entity.Function ds) (those_of entity.Function es) h g)

module _ (ts : List TokenKind) where
  abbrev AllDerive : Category → Trees → Type 0
  AllDerive c none = Unit {0}
  AllDerive c (more p ps) = Derives ts c p × AllDerive c ps
  AllDerive c (skip ps) = ⊥

  going_all : (l : Items) (i j : ℕ) (ps : Trees) → Goes ts l i ps j → AllDerive (item l) ps
  going_all l i j none h = tt
  going_all l i j (more p ps) h = (h.3, going_all l (last p) j ps h.4)
  going_all l i j (skip ps) h = absurd h

  many_all : (ws : List TokenKind) (l : Items) (i j : ℕ) (ps : Trees) → Spells ts (Many ws l) i ps j → AllDerive (item l) ps
  many_all ws l i j none h = tt
  many_all ws l i j (more p ps) h = (h.3, going_all l (last p) j ps h.4)
  many_all ws l i j (skip ps) h = absurd h

  one_declaration : (n : ℕ) (p : Tree) → Derives ts category.Declaration p → AllFunctions (those_of entity.Function (declaration n p))
  one_declaration n (node (kind.Declaration s) i j ps) w = subst AllFunctions (sym (declared_none n s ps)) tt
  one_declaration n (node kind.FunctionDeclaration i j ps) w = ((ts, node kind.FunctionDeclaration i j ps, refl, w), tt)
  one_declaration n (node k i j ps) w = differ w.0

  all_declarations : (n : ℕ) (ps : Trees) → AllDerive category.Declaration ps → AllFunctions (those_of entity.Function (declarations n ps))
  all_declarations n none w = tt
  all_declarations n (more p ps) w = both_functions (declaration n p) (declarations n ps) (one_declaration n p w.0) (all_declarations n ps w.1)
  all_declarations n (skip ps) w = absurd w

  no_import : (n : ℕ) (p : Tree) → Derives ts category.Imports p → declaration n p ≡ []
  no_import n (node kind.Imports i j ps) w = refl
  no_import n (node k i j ps) w = differ w.0

  file_functions : (n : ℕ) (t : Tree) → Derives ts category.File t → AllFunctions (those_of entity.Function (in_file n t))
  file_functions n (node kind.File i j none) w = absurd w.1
  file_functions n (node kind.File i j (more p ps)) w =
      let items = many_all [] (Each category.Declaration (token.Semicolon ∷ []) []) (last p) j ps w.1.2 in
      both_functions (declaration n p) (declarations n ps) (subst (λ ds. AllFunctions (those_of entity.Function ds)) (sym (no_import n p w.1.1)) tt) (all_declarations n ps items)
  file_functions n (node kind.File i j (skip ps)) w = all_declarations n ps (many_all [] (Each category.Declaration (token.Semicolon ∷ []) []) w.1.0 j ps w.1.2)
  file_functions n (node k i j ps) w = differ w.0

-- of all files
pub all_functions : (m n : ℕ) (texts : List FileText) (files : List FileTree) → AreRead m texts files → AllFunctions (those_of entity.Function (specifications n (map source_of files)))
all_functions m n [] [] r = tt
all_functions m n [] (f ∷ fs) r = absurd r
all_functions m n (x ∷ xs) [] r = absurd r
all_functions m n (x ∷ xs) (f ∷ fs) r =
    let s = source_of f in both_functions (in_file n s.tree) (specifications (suc n) (map source_of fs)) (file_functions (kinds f.tokens.tokens) n s.tree r.0.tree.derives) (all_functions (suc m) (suc n) xs fs r.1)
