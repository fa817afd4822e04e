-- Each function that a file with a tree specifies has a tree of the shape of a function's declaration, wherever its tokens are counted from.
use Rattle.std.proofs.Common.{◌≡◌, ℕ, suc, Bool, true, false, cond, List, [], ◌∷◌, ◌++◌, map, Option, Some, None, refl, sym, ap, subst}
use Rattle.go_base.specs.declared.bytes.FileText.{FileText}
use Rattle.go_grammar.specs.declared.kind.Category.{Category}
use Rattle.go_grammar.specs.declared.kind.Category.TheVariants as category
use Rattle.go_grammar.specs.declared.kind.Kind.TheVariants as kind
use Rattle.go_grammar.specs.declared.kind.Sort.{Sort}
use Rattle.go_grammar.specs.declared.kind.Sort.TheVariants as declaring
use Rattle.go_grammar.specs.Grammar.{Derives}
use Rattle.go_grammar.specs.Rules.{Items, Each, Many, item}
use Rattle.go_grammar.specs.Trees.{Tree, node, Trees, none, more, skip}
use Rattle.go_tokens.specs.Tokens.{kinds}
use Rattle.go_tokens.specs.declared.token.TokenKind.{TokenKind}
use Rattle.go_tokens.specs.declared.token.TokenKind.TheVariants as token
use Rattle.go_tree.specs.declared.context.Entity.TheVariants as entity
use Rattle.go_tree.specs.File.{FileTree}
use Rattle.go_stmts_defs.specs.Bodies.{based, all_based}
use Rattle.go_package_defs.specs.Answer.{specifications}
use Rattle.go_package_defs.specs.Bodies.{is_this, those_of}
use Rattle.go_package_defs.specs.Checked.{AreRead}
use Rattle.go_package_defs.specs.Declarations.{Specification, grouped, declared, declaration, declarations, in_file}
use Rattle.go_package_defs.specs.Sources.{source_of}
use Rattle.go_stmts_final_types.specs.Shapes.{IsShaped, AreShaped}
use Rattle.go_package_scopes.proofs.Results.{EachOf}

-- wherever its tokens are counted from
abbrev pub IsAlwaysShaped : Category → Tree → Type 0
IsAlwaysShaped c t = (b : ℕ) → IsShaped c (based b t)

abbrev AllShaped : Category → Trees → Type 0
AllShaped c none = Unit {0}
AllShaped c (more p ps) = IsAlwaysShaped c p × AllShaped c ps
AllShaped c (skip ps) = ⊥

many_shaped : (ws : List TokenKind) (l : Items) (ps : Trees) → ((b : ℕ) → AreShaped (Many ws l) (all_based b ps)) → AllShaped (item l) ps
many_shaped ws l none w = tt
many_shaped ws l (more p ps) w = (λ b. (w b).0, many_shaped ws l ps (λ b. (w b).1))
many_shaped ws l (skip ps) w = absurd (w 0)

-- a function has a tree
pub record HasFunctionTree (d : Specification) : Type 0 where
  pub first : ℕ
  pub last : ℕ
  pub parts : Trees
  pub tree : d.tree ≡ Some (node kind.FunctionDeclaration first last parts)
  pub shaped : IsAlwaysShaped category.Declaration (node kind.FunctionDeclaration first last parts)

grouped_none : (n : ℕ) (s : Sort) (k : ℕ) (r : Option Tree) (ps : Trees) → those_of entity.Function (grouped n s k r ps) ≡ []
grouped_none n declaring.Constant k r none = refl
grouped_none n declaring.Type k r none = refl
grouped_none n declaring.Variable k r none = refl
grouped_none n declaring.Constant k r (more (node l i j qs) ps) = grouped_none n declaring.Constant (suc k) _ ps
grouped_none n declaring.Type k r (more (node l i j qs) ps) = grouped_none n declaring.Type (suc k) _ ps
grouped_none n declaring.Variable k r (more (node l i j qs) ps) = grouped_none n declaring.Variable (suc k) _ ps
grouped_none n declaring.Constant k r (skip ps) = grouped_none n declaring.Constant k r ps
grouped_none n declaring.Type k r (skip ps) = grouped_none n declaring.Type k r ps
grouped_none n declaring.Variable k r (skip ps) = grouped_none n declaring.Variable k r ps

pub declared_none : (n : ℕ) (s : Sort) (ps : Trees) → those_of entity.Function (declared n s ps) ≡ []
declared_none n s none = grouped_none n s 0 None none
declared_none n s (skip ps) = grouped_none n s 0 None (skip ps)
declared_none n s (more (node (kind.Group g) i j qs) none) = grouped_none n s 0 None qs
declared_none n s (more (node (kind.Group g) i j qs) (more q ps)) = grouped_none n s 0 None (more (node (kind.Group g) i j qs) (more q ps))
declared_none n s (more (node (kind.Group g) i j qs) (skip ps)) = grouped_none n s 0 None (more (node (kind.Group g) i j qs) (skip ps))
declared_none n s (more (node k i j qs) ps) = grouped_none n s 0 None (more (node k i j qs) ps)

pub those_append : (ds es : List Specification) → those_of entity.Function (ds ++ es) ≡ those_of entity.Function ds ++ those_of entity.Function es
those_append [] es = refl
those_append (d ∷ ds) es = by (is_this entity.Function d.entity) (those_append ds es)
  where
    by : (b : Bool) → those_of entity.Function (ds ++ es) ≡ those_of entity.Function ds ++ those_of entity.Function es
        → cond b (d ∷ those_of entity.Function (ds ++ es)) (those_of entity.Function (ds ++ es)) ≡ cond b (d ∷ those_of entity.Function ds) (those_of entity.Function ds) ++ those_of entity.Function es
    by true e = ap (λ xs. d ∷ xs) e
    by false e = e

each_append : (ds es : List Specification) → EachOf HasFunctionTree ds → EachOf HasFunctionTree es → EachOf HasFunctionTree (ds ++ es)
each_append [] es h g = g
each_append (d ∷ ds) es h g = (h.0, each_append ds es h.1 g)

both_functions : (ds es : List Specification) → EachOf HasFunctionTree (those_of entity.Function ds) → EachOf HasFunctionTree (those_of entity.Function es) → EachOf HasFunctionTree (those_of entity.Function (ds ++ es))
both_functions ds es h g = subst (EachOf HasFunctionTree) (sym (those_append ds es)) (each_append (those_of entity.Function ds) (those_of entity.Function es) h g)

one_declaration : (n : ℕ) (p : Tree) → IsAlwaysShaped category.Declaration p → EachOf HasFunctionTree (those_of entity.Function (declaration n p))
one_declaration n (node (kind.Declaration s) i j ps) w = subst (EachOf HasFunctionTree) (sym (declared_none n s ps)) tt
one_declaration n (node kind.FunctionDeclaration i j ps) w = (record { first = i; last = j; parts = ps; tree = refl; shaped = w }, tt)
one_declaration n (node k i j ps) w = let e = (w 0).0 in cc

all_declarations : (n : ℕ) (ps : Trees) → AllShaped category.Declaration ps → EachOf HasFunctionTree (those_of entity.Function (declarations n ps))
all_declarations n none w = tt
all_declarations n (more p ps) w = both_functions (declaration n p) (declarations n ps) (one_declaration n p w.0) (all_declarations n ps w.1)
all_declarations n (skip ps) w = absurd w

no_import : (n : ℕ) (p : Tree) → IsAlwaysShaped category.Imports p → declaration n p ≡ []
no_import n (node kind.Imports i j ps) w = refl
no_import n (node k i j ps) w = let e = (w 0).0 in cc

file_functions : (n : ℕ) (t : Tree) → IsAlwaysShaped category.File t → EachOf HasFunctionTree (those_of entity.Function (in_file n t))
file_functions n (node kind.File i j none) w = absurd (w 0).1
file_functions n (node kind.File i j (more p ps)) w =
    let items = many_shaped [] (Each category.Declaration (token.Semicolon ∷ []) []) ps (λ b. (w b).1.1) in
    both_functions (declaration n p) (declarations n ps) (subst (λ ds. EachOf HasFunctionTree (those_of entity.Function ds)) (sym (no_import n p (λ b. (w b).1.0))) tt) (all_declarations n ps items)
file_functions n (node kind.File i j (skip ps)) w = all_declarations n ps (many_shaped [] (Each category.Declaration (token.Semicolon ∷ []) []) ps (λ b. (w b).1))
file_functions n (node k i j ps) w = let e = (w 0).0 in cc

-- a derivation has the shape of its category
abbrev pub AreDerived : Type 0
AreDerived = (ts : List TokenKind) (c : Category) (b : ℕ) (t : Tree) → Derives ts c t → IsShaped c (based b t)

-- of all files
pub all_functions : AreDerived → (m n : ℕ) (texts : List FileText) (files : List FileTree) → AreRead m texts files → EachOf HasFunctionTree (those_of entity.Function (specifications n (map source_of files)))
all_functions g m n [] [] r = tt
all_functions g m n [] (f ∷ fs) r = absurd r
all_functions g m n (x ∷ xs) [] r = absurd r
all_functions g m n (x ∷ xs) (f ∷ fs) r =
    let s = source_of f in
    both_functions (in_file n s.tree) (specifications (suc n) (map source_of fs)) (file_functions n s.tree (λ b. g (kinds f.tokens.tokens) category.File b s.tree r.0.tree.derives)) (all_functions g (suc m) (suc n) xs fs r.1)
