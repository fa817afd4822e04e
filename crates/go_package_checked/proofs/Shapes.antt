-- The right sides of declared types are derived as types.
use Rattle.std.proofs.Common.{◌≡◌, ℕ, suc, true, false, List, [], ◌∷◌, ◌++◌, Option, Some, None, refl, sym, subst}
use Rattle.std.specs.List.{AllByRecursion}
use Rattle.go_tokens.specs.declared.token.TokenKind.{TokenKind}
use Rattle.go_tokens.specs.declared.token.TokenKind.TheVariants as token
use Rattle.go_tokens.specs.Tokens.{kinds}
use Rattle.go_grammar.specs.declared.kind.Category.{Category}
use Rattle.go_grammar.specs.declared.kind.Category.TheVariants as category
use Rattle.go_grammar.specs.declared.kind.Kind.TheVariants as kind
use Rattle.go_grammar.specs.declared.kind.Sort.TheVariants as declaring
use Rattle.go_grammar.specs.Grammar.{IsFile, Derives}
use Rattle.go_grammar.specs.Rules.{Many, Lines, Each}
use Rattle.go_grammar.specs.Trees.{Tree, node, Trees, none, more, skip}
use Rattle.go_package_defs.specs.Answer.{specifications}
use Rattle.go_package_defs.specs.Declarations.{Specification, specification_of, source_behind, grouped, declared, declaration, declarations, in_file}
use Rattle.go_package_defs.specs.Knowledge.{is_type}
use Rattle.go_package_defs.specs.Sources.{Source}
use Rattle.go_stmts_final_types.specs.Shapes.{IsShaped, AreShaped}

-- A type that is declared has a type as its right side.
abbrev pub HasType : Specification → Type 0
HasType d = is_type d.entity ≡ true → (t : Tree) → d.type_tree ≡ Some t → IsShaped category.Type t

both : (xs ys : List Specification) → AllByRecursion HasType xs → AllByRecursion HasType ys → AllByRecursion HasType (xs ++ ys)
both [] ys h g = g
both (x ∷ xs) ys h g = (h.0, both xs ys h.1 g)

some_tree : (a b : Tree) → ◌≡◌ {A = Option Tree} (Some a) (Some b) → a ≡ b
some_tree a b e = cc

-- ---- constants and variables

constants_have : (n k : ℕ) (r : Option Tree) (ps : Trees) → AllByRecursion HasType (grouped n declaring.Constant k r ps)
constants_have n k r none = tt
constants_have n k r (more (node l i j qs) ps) = ((λ e. absurd cc), constants_have n (suc k) (source_behind r (node l i j qs)) ps)
constants_have n k r (skip ps) = constants_have n k r ps

variables_have : (n k : ℕ) (r : Option Tree) (ps : Trees) → AllByRecursion HasType (grouped n declaring.Variable k r ps)
variables_have n k r none = tt
variables_have n k r (more (node l i j qs) ps) = ((λ e. absurd cc), variables_have n (suc k) (source_behind r (node l i j qs)) ps)
variables_have n k r (skip ps) = variables_have n k r ps

-- ---- types

type_has : (n k : ℕ) (r : Option Tree) (p : Tree) → IsShaped (category.Specification declaring.Type) p → HasType (specification_of n declaring.Type k r p)
type_has n k r (node (kind.Specification declaring.Type) i j none) w = elim w.1 [ ]
type_has n k r (node (kind.Specification declaring.Type) i j (skip ps)) w = elim w.1 [ ]
type_has n k r (node (kind.Specification declaring.Type) i j (more q ps)) w = λ e t z. subst (IsShaped category.Type) (some_tree q t z) w.1.0
type_has n k r (node l i j ps) w = let e = w.0 in absurd cc

types_have : (n k : ℕ) (r : Option Tree) (ps : Trees) → AreShaped (Many (token.LeftParenthesis ∷ []) (Lines false (category.Specification declaring.Type) token.Semicolon token.RightParenthesis)) ps
    → AllByRecursion HasType (grouped n declaring.Type k r ps)
types_have n k r none w = tt
types_have n k r (more p ps) w = (type_has n k r p w.0, types_have n (suc k) (source_behind r p) ps w.1)
types_have n k r (skip ps) w = elim w [ ]

-- ---- declarations

body_has : (n : ℕ) (b : Tree) → IsShaped (category.DeclarationBody declaring.Type) b → AllByRecursion HasType (declared n declaring.Type (more b none))
body_has n (node (kind.Group declaring.Type) i j ps) w = types_have n 0 None ps w.1
body_has n (node (kind.Group declaring.Constant) i j ps) w = let e = w.0 in absurd cc
body_has n (node (kind.Group declaring.Variable) i j ps) w = let e = w.0 in absurd cc
body_has n (node (kind.Specification declaring.Type) i j ps) w = (type_has n 0 None (node (kind.Specification declaring.Type) i j ps) w, tt)
body_has n (node l i j ps) w = let e = w.0 in absurd cc

constants_declared : (n : ℕ) (ps : Trees) → AllByRecursion HasType (declared n declaring.Constant ps)
constants_declared n none = tt
constants_declared n (skip ps) = constants_have n 0 None (skip ps)
constants_declared n (more (node (kind.Group g) i j qs) none) = constants_have n 0 None qs
constants_declared n (more (node (kind.Group g) i j qs) (more q ps)) = constants_have n 0 None (more (node (kind.Group g) i j qs) (more q ps))
constants_declared n (more (node (kind.Group g) i j qs) (skip ps)) = constants_have n 0 None (more (node (kind.Group g) i j qs) (skip ps))
constants_declared n (more (node k i j qs) ps) = constants_have n 0 None (more (node k i j qs) ps)

variables_declared : (n : ℕ) (ps : Trees) → AllByRecursion HasType (declared n declaring.Variable ps)
variables_declared n none = tt
variables_declared n (skip ps) = variables_have n 0 None (skip ps)
variables_declared n (more (node (kind.Group g) i j qs) none) = variables_have n 0 None qs
variables_declared n (more (node (kind.Group g) i j qs) (more q ps)) = variables_have n 0 None (more (node (kind.Group g) i j qs) (more q ps))
variables_declared n (more (node (kind.Group g) i j qs) (skip ps)) = variables_have n 0 None (more (node (kind.Group g) i j qs) (skip ps))
variables_declared n (more (node k i j qs) ps) = variables_have n 0 None (more (node k i j qs) ps)

declaration_has : (n : ℕ) (t : Tree) → IsShaped category.Declaration t → AllByRecursion HasType (declaration n t)
declaration_has n (node (kind.Declaration declaring.Constant) i j ps) w = constants_declared n ps
declaration_has n (node (kind.Declaration declaring.Variable) i j ps) w = variables_declared n ps
declaration_has n (node (kind.Declaration declaring.Type) i j none) w = elim w.1 [ ]
declaration_has n (node (kind.Declaration declaring.Type) i j (skip ps)) w = elim w.1 [ ]
declaration_has n (node (kind.Declaration declaring.Type) i j (more b none)) w = body_has n b w.1.0
declaration_has n (node (kind.Declaration declaring.Type) i j (more b (more q ps))) w = elim w.1.1 [ ]
declaration_has n (node (kind.Declaration declaring.Type) i j (more b (skip ps))) w = elim w.1.1 [ ]
declaration_has n (node kind.FunctionDeclaration i j ps) w = ((λ e. absurd cc), tt)
declaration_has n (node k i j ps) w = tt

-- ---- files

all_have : (n : ℕ) (ps : Trees) → AreShaped (Many [] (Each category.Declaration (token.Semicolon ∷ []) [])) ps → AllByRecursion HasType (declarations n ps)
all_have n none w = tt
all_have n (more p ps) w = both (declaration n p) (declarations n ps) (declaration_has n p w.0) (all_have n ps w.1)
all_have n (skip ps) w = elim w [ ]

no_import : (n : ℕ) (p : Tree) → IsShaped category.Imports p → declaration n p ≡ []
no_import n (node kind.Imports i j ps) w = refl
no_import n (node k i j ps) w = let e = w.0 in absurd cc

file_has : (n : ℕ) (t : Tree) → IsShaped category.File t → AllByRecursion HasType (in_file n t)
file_has n (node kind.File i j none) w = elim w.1 [ ]
file_has n (node kind.File i j (more p ps)) w = both (declaration n p) (declarations n ps) (subst (AllByRecursion HasType) (sym (no_import n p w.1.0)) tt) (all_have n ps w.1.1)
file_has n (node kind.File i j (skip ps)) w = all_have n ps w.1
file_has n (node k i j ps) w = let e = w.0 in absurd cc

-- of all files
abbrev pub Derivations : Type 0
Derivations = (ts : List TokenKind) (c : Category) (t : Tree) → Derives ts c t → IsShaped c t

pub files_have : Derivations → (n : ℕ) (ss : List Source) → AllByRecursion (λ s. IsFile (kinds s.tokens.tokens) s.tree) ss → AllByRecursion HasType (specifications n ss)
files_have derives n [] h = tt
files_have derives n (s ∷ ss) h = both (in_file n s.tree) (specifications (suc n) ss) (file_has n s.tree (derives (kinds s.tokens.tokens) category.File s.tree h.0.derives)) (files_have derives (suc n) ss h.1)
