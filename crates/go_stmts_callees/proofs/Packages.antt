-- In the functions of a package that type-checks no constant is called, and none is a struct.
use Rattle.std.proofs.Common.{◌≡◌, ◌∙◌, ℕ, suc, Bool, true, false, cond, List, [], ◌∷◌, ◌++◌, map, length, replicate, Option, Some, None, Ok, Err, Result, refl, sym, ap, subst}
use Rattle.std.specs.Prelude.{◌&&◌, not}
use Rattle.go_base.specs.declared.bytes.FileText.{FileText}
use Rattle.go_base.specs.Gives.{◌>>=◌}
use Rattle.go_grammar.specs.declared.kind.Category.{Category}
use Rattle.go_grammar.specs.declared.kind.Category.TheVariants as category
use Rattle.go_grammar.specs.declared.kind.Kind.TheVariants as kind
use Rattle.go_grammar.specs.declared.kind.Sort.{Sort as Declaring}
use Rattle.go_grammar.specs.declared.kind.Sort.TheVariants as declaring
use Rattle.go_grammar.specs.Grammar.{Derives, Spells, Goes}
use Rattle.go_grammar.specs.Rules.{Items, Each, Many, item}
use Rattle.go_grammar.specs.Trees.{Tree, node, Trees, none, more, skip, kind_of, last}
use Rattle.go_tokens.specs.Tokens.{kinds}
use Rattle.go_tokens.specs.declared.token.TokenKind.{TokenKind}
use Rattle.go_tokens.specs.declared.token.TokenKind.TheVariants as token
use Rattle.go_tree.specs.declared.context.Entity.TheVariants as entity
use Rattle.go_tree.specs.File.{FileTree}
use Rattle.go_types.specs.Relations.{Rights}
use Rattle.go_types.specs.Trees.{TypeTree}
use Rattle.go_types_relations.specs.Renaming.{renamed}
use Rattle.go_typed.specs.declared.form.Form.{Form}
use Rattle.go_typed.specs.declared.form.Form.TheVariants as form
use Rattle.go_typed.specs.Contents.{FuncContent, Content, content, func_renamed}
use Rattle.go_typed.specs.Packages.{PackageView}
use Rattle.go_typed.specs.Trees.{typed, Typeds, sort_mapped, mapped, all_mapped}
use Rattle.go_typed.specs.Trees as sort
use Rattle.go_exprs_rules.specs.declared.fault.TypeFault.{TypeFault}
use Rattle.go_exprs_rules.specs.Faults.{reported}
use Rattle.go_exprs_rules.specs.Scopes.{Scope, free}
use Rattle.go_exprs_rules.specs.Settling.{Part}
use Rattle.go_exprs_rules.specs.Sorts.{Stands}
use Rattle.go_stmts_defs.specs.Bodies.{based, start, signature_of, function_read}
use Rattle.go_stmts_defs.specs.Reading.{Reading, read, reading}
use Rattle.go_package_defs.specs.Answer.{specifications, package_answer}
use Rattle.go_package_defs.specs.Bodies.{is_this, based_tree, Surroundings, Behind, Functions, Portion, scope_of, behind_read, function_of, function_with, placed, portion_of, typed_function, types_in, functions_from, those_of, with_function, count_types, local_type}
use Rattle.go_package_defs.specs.Checked.{Typing, surroundings_of, names_answer, bodies_answer, sources_answer, content_of, AreRead, IsChecked, IsCheckedPackage, names_of}
use Rattle.go_package_defs.specs.Declarations.{Specification, grouped, declared, declaration, declarations, in_file}
use Rattle.go_package_defs.specs.Sources.{Package, source_of, unit_of, package_of}
use Rattle.go_stmts_final_types.specs.Names.{tree_in}
use Rattle.go_stmts_final_types.specs.PackageNames.{TreeIsNamed, FunctionsAreNamed, PackageIsNamed}
use Rattle.go_stmts_final_types.specs.Shapes.{IsShaped}
use Rattle.clone_window.specs.Masses as masses
use Rattle.go_function_holes.specs.Holes.{is_first_constant, applies, calls_no_constant, none_called}
use Rattle.go_stmts_tokens.specs.Lying.{is_inner}
use Rattle.go_stmts_callees.specs.Callees.{AllCallNoConstant}
use Rattle.go_stmts_callees.proofs.Uncalled.{differ, Free}
use Rattle.go_stmts_callees.proofs.Functions.{judged_ok, outermost}
use Rattle.go_stmts_callees.proofs.Nesting.{shaped_nested}
use Rattle.go_stmts_callees.proofs.Layouts.{Of}
use Rattle.go_stmts_callees.proofs.Readings.{found_in, reading_free}

-- ---- the trees of functions

-- it is declared in a tree that is derived
abbrev pub IsFunctionTree : Specification → Type 0
IsFunctionTree d = (ts : List TokenKind) × (t : Tree) × (d.tree ≡ Some t) × Derives ts category.Declaration t

abbrev pub AllFunctions : List Specification → Type 0
AllFunctions [] = Unit {0}
AllFunctions (d ∷ ds) = IsFunctionTree d × AllFunctions ds

grouped_none : (n : ℕ) (s : Declaring) (k : ℕ) (r : Option Tree) (ps : Trees) → those_of entity.Function (grouped n s k r ps) ≡ []
grouped_none n declaring.Constant k r none = refl
grouped_none n declaring.Type k r none = refl
grouped_none n declaring.Variable k r none = refl
grouped_none n declaring.Constant k r (more (node l i j qs) ps) = grouped_none n declaring.Constant (suc k) _ ps
grouped_none n declaring.Type k r (more (node l i j qs) ps) = grouped_none n declaring.Type (suc k) _ ps
grouped_none n declaring.Variable k r (more (node l i j qs) ps) = grouped_none n declaring.Variable (suc k) _ ps
grouped_none n declaring.Constant k r (skip ps) = grouped_none n declaring.Constant k r ps
grouped_none n declaring.Type k r (skip ps) = grouped_none n declaring.Type k r ps
grouped_none n declaring.Variable k r (skip ps) = grouped_none n declaring.Variable k r ps

declared_none : (n : ℕ) (s : Declaring) (ps : Trees) → those_of entity.Function (declared n s ps) ≡ []
declared_none n s none = grouped_none n s 0 None none
declared_none n s (skip ps) = grouped_none n s 0 None (skip ps)
declared_none n s (more (node (kind.Group g) i j qs) none) = grouped_none n s 0 None qs
declared_none n s (more (node (kind.Group g) i j qs) (more q ps)) = grouped_none n s 0 None (more (node (kind.Group g) i j qs) (more q ps))
declared_none n s (more (node (kind.Group g) i j qs) (skip ps)) = grouped_none n s 0 None (more (node (kind.Group g) i j qs) (skip ps))
declared_none n s (more (node k i j qs) ps) = grouped_none n s 0 None (more (node k i j qs) ps)

those_append : (ds es : List Specification) → those_of entity.Function (ds ++ es) ≡ those_of entity.Function ds ++ those_of entity.Function es
those_append [] es = refl
those_append (d ∷ ds) es = by (is_this entity.Function d.entity) (those_append ds es)
  where
    by : (b : Bool) → those_of entity.Function (ds ++ es) ≡ those_of entity.Function ds ++ those_of entity.Function es
        → cond b (d ∷ those_of entity.Function (ds ++ es)) (those_of entity.Function (ds ++ es)) ≡ cond b (d ∷ those_of entity.Function ds) (those_of entity.Function ds) ++ those_of entity.Function es
    by true e = ap (λ xs. d ∷ xs) e
    by false e = e

functions_append : (ds es : List Specification) → AllFunctions ds → AllFunctions es → AllFunctions (ds ++ es)
functions_append [] es h g = g
functions_append (d ∷ ds) es h g = (h.0, functions_append ds es h.1 g)

both_functions : (ds es : List Specification) → AllFunctions (those_of entity.Function ds) → AllFunctions (those_of entity.Function es) → AllFunctions (those_of entity.Function (ds ++ es))
both_functions ds es h g = subst AllFunctions (sym (those_append ds es)) (functions_append (those_of entity.Function ds) (those_of entity.Function es) h g)

module _ (ts : List TokenKind) where
  abbrev AllDerive : Category → Trees → Type 0
  AllDerive c none = Unit {0}
  AllDerive c (more p ps) = Derives ts c p × AllDerive c ps
  AllDerive c (skip ps) = ⊥

  going_all : (l : Items) (i j : ℕ) (ps : Trees) → Goes ts l i ps j → AllDerive (item l) ps
  going_all l i j none h = tt
  going_all l i j (more p ps) h = (h.3, going_all l (last p) j ps h.4)
  going_all l i j (skip ps) h = absurd h

  many_all : (ws : List TokenKind) (l : Items) (i j : ℕ) (ps : Trees) → Spells ts (Many ws l) i ps j → AllDerive (item l) ps
  many_all ws l i j none h = tt
  many_all ws l i j (more p ps) h = (h.3, going_all l (last p) j ps h.4)
  many_all ws l i j (skip ps) h = absurd h

  one_declaration : (n : ℕ) (p : Tree) → Derives ts category.Declaration p → AllFunctions (those_of entity.Function (declaration n p))
  one_declaration n (node (kind.Declaration s) i j ps) w = subst AllFunctions (sym (declared_none n s ps)) tt
  one_declaration n (node kind.FunctionDeclaration i j ps) w = ((ts, node kind.FunctionDeclaration i j ps, refl, w), tt)
  one_declaration n (node k i j ps) w = differ w.0

  all_declarations : (n : ℕ) (ps : Trees) → AllDerive category.Declaration ps → AllFunctions (those_of entity.Function (declarations n ps))
  all_declarations n none w = tt
  all_declarations n (more p ps) w = both_functions (declaration n p) (declarations n ps) (one_declaration n p w.0) (all_declarations n ps w.1)
  all_declarations n (skip ps) w = absurd w

  no_import : (n : ℕ) (p : Tree) → Derives ts category.Imports p → declaration n p ≡ []
  no_import n (node kind.Imports i j ps) w = refl
  no_import n (node k i j ps) w = differ w.0

  file_functions : (n : ℕ) (t : Tree) → Derives ts category.File t → AllFunctions (those_of entity.Function (in_file n t))
  file_functions n (node kind.File i j none) w = absurd w.1
  file_functions n (node kind.File i j (more p ps)) w =
      let items = many_all [] (Each category.Declaration (token.Semicolon ∷ []) []) (last p) j ps w.1.2 in
      both_functions (declaration n p) (declarations n ps) (subst (λ ds. AllFunctions (those_of entity.Function ds)) (sym (no_import n p w.1.1)) tt) (all_declarations n ps items)
  file_functions n (node kind.File i j (skip ps)) w = all_declarations n ps (many_all [] (Each category.Declaration (token.Semicolon ∷ []) []) w.1.0 j ps w.1.2)
  file_functions n (node k i j ps) w = differ w.0

-- of all files
all_functions : (m n : ℕ) (texts : List FileText) (files : List FileTree) → AreRead m texts files → AllFunctions (those_of entity.Function (specifications n (map source_of files)))
all_functions m n [] [] r = tt
all_functions m n [] (f ∷ fs) r = absurd r
all_functions m n (x ∷ xs) [] r = absurd r
all_functions m n (x ∷ xs) (f ∷ fs) r =
    let s = source_of f in both_functions (in_file n s.tree) (specifications (suc n) (map source_of fs)) (file_functions (kinds f.tokens.tokens) n s.tree r.0.tree.derives) (all_functions (suc m) (suc n) xs fs r.1)

-- ---- functions

bound : {A B F : Type 0} (r : Result A F) (f : A → Result B F) (y : B) → (r >>= f) ≡ Ok y → (x : A) × (r ≡ Ok x) × (f x ≡ Ok y)
bound (Ok x) f y e = (x, refl, e)
bound (Err g) f y e = cc

ok_same : {A F : Type 0} (x y : A) → (let r : Result A F = Ok x in r) ≡ Ok y → x ≡ y
ok_same x y e = cc

behind_typed : (s : Scope) (number : ℕ) (t : Tree) (r : Reading) (b : Behind) → behind_read s number t r ≡ Ok b → (reported (found_in r) ≡ None) × (tree_in r ≡ b.function.tree)
behind_typed s number t (read x fs f) b e =
    let j = judged_ok (reported fs) (record { function = function_read s number (last t) (signature_of s t) x f; rights = f.around.rights }) b e in (j.0, ap (λ (z : Behind). z.function.tree) j.1)

placed_ok : {A : Type 0} (p : Package) (d : Specification) (r : Result A TypeFault) (x : A) → placed p d r ≡ Ok x → r ≡ Ok x
placed_ok p d (Ok y) x e = ap Ok (let same : y ≡ x = cc in same)
placed_ok p d (Err g) x e = cc

-- ---- under other numbers of declared types

module _ (g : TypeTree → TypeTree) where
  constant_mapped : (s : Stands) → masses.is_constant (sort_mapped g s) ≡ masses.is_constant s
  constant_mapped (sort.Constant t c) = refl
  constant_mapped s = refl

  first_mapped : (ps : Typeds TypeTree) → is_first_constant (all_mapped g ps) ≡ is_first_constant ps
  first_mapped sort.none = refl
  first_mapped (sort.more (typed f i j l qs) ps) = constant_mapped l.sort
  first_mapped (sort.skip ps) = refl

  applies_mapped : (f : Form) (ps : Typeds TypeTree) → applies f (all_mapped g ps) ≡ applies f ps
  applies_mapped form.Call ps = ap not (first_mapped ps)
  applies_mapped (form.Selector n) ps = ap not (first_mapped ps)
  applies_mapped f ps = refl

  mutual
    pub calls_mapped : (x : Part) → calls_no_constant (mapped g x) ≡ calls_no_constant x
    calls_mapped (typed f i j l ps) = ap (λ z. z && none_called (all_mapped g ps)) (applies_mapped f ps) ∙ ap (λ z. applies f ps && z) (all_calls_mapped ps)

    all_calls_mapped : (ps : Typeds TypeTree) → none_called (all_mapped g ps) ≡ none_called ps
    all_calls_mapped sort.none = refl
    all_calls_mapped (sort.more p ps) = ap (λ z. z && none_called (all_mapped g ps)) (calls_mapped p) ∙ ap (λ z. calls_no_constant p && z) (all_calls_mapped ps)
    all_calls_mapped (sort.skip ps) = all_calls_mapped ps

-- ---- packages

-- derivations have the kinds that the grammar gives them
abbrev pub AreShapedOnes : Type 0
AreShapedOnes = (ts : List TokenKind) (c : Category) (b : ℕ) (t : Tree) → Derives ts c t → IsShaped c (based b t)

module _ (law : AreShapedOnes) where
  named_free : (a : Surroundings) (rights : Rights) (number : ℕ) (bs : List Bool) (o : Portion) (t : Tree) (b : Behind) → o.tree ≡ Some t → IsShaped category.Declaration t → function_of a rights number bs o ≡ Ok b
      → TreeIsNamed (scope_of a (rights ++ replicate (count_types bs) None) o) (length bs) (local_type (length rights) bs) o.tree → Free b.function.tree
  named_free a rights number bs o t b m w e n =
      let s = scope_of a (rights ++ replicate (count_types bs) None) o in
      let z = start s (length bs) (local_type (length rights) bs) in
      let f : function_with a rights number bs o (Some t) ≡ Ok b = sym (ap (function_with a rights number bs o) m) ∙ e in
      let r = behind_typed s number t (reading z free t) b f in
      let own : Of (is_inner (kind_of t)) (tree_in (reading z free t)) = reading_free category.Declaration z free t w (shaped_nested category.Declaration t w) (subst (TreeIsNamed s (length bs) (local_type (length rights) bs)) m n) r.0 in
      subst Free r.1 (subst (λ x. Of x (tree_in (reading z free t))) (outermost t w) own)

  functions_free : (p : Package) (a : Surroundings) (rights : Rights) (n : ℕ) (ds : List Specification) (fs : Functions) → AllFunctions ds → FunctionsAreNamed p a rights n ds → functions_from p a rights n ds ≡ Ok fs → AllCallNoConstant fs.functions
  functions_free p a rights n [] fs w k e = subst (λ (z : Functions). AllCallNoConstant z.functions) (ok_same (record { functions = []; rights = rights }) fs e) tt
  functions_free p a rights n (d ∷ ds) fs w k e =
      let b = bound (placed p d (typed_function p a rights n d)) (λ b. functions_from p a b.rights (suc n) ds >>= λ gs. Ok (with_function b.function gs)) fs e in
      let g = bound (functions_from p a b.0.rights (suc n) ds) (λ gs. Ok (with_function b.0.function gs)) fs b.2 in
      let f = placed_ok p d (typed_function p a rights n d) b.0 b.1 in
      let own = named_free a rights n (types_in p n) (portion_of p d) (based d.first w.0.1) b.0 (ap (based_tree d.first) w.0.2) (law w.0.0 category.Declaration d.first w.0.1 w.0.3) f k.0 in
      subst (λ (z : Functions). AllCallNoConstant z.functions) (ok_same (with_function b.0.function g.0) fs g.2) (own, functions_free p a b.0.rights (suc n) ds g.0 w.1 (k.1 b.0 f) g.1)

  checked_free : (texts : List FileText) (c : Content) (h : IsChecked texts c) → PackageIsNamed (map source_of h.files) → AllCallNoConstant c.functions
  checked_free texts c h k =
      let ss = map source_of h.files in
      let t = bound (sources_answer ss) (λ t. Ok (content_of (names_of texts) h.files ss t)) c h.answer in
      let u = bound (names_answer (map unit_of ss)) (λ u. package_answer ss u >>= λ e. bodies_answer ss (specifications 0 ss) u e) t.0 t.1 in
      let e = bound (package_answer ss u.0) (λ e. bodies_answer ss (specifications 0 ss) u.0 e) t.0 u.2 in
      let ds = those_of entity.Function (specifications 0 ss) in
      let b = bound (functions_from (package_of ss u.0) (surroundings_of u.0 e.0) e.0.rights 0 ds) (λ b. Ok (record { uses = u.0; environment = e.0; bodies = b; specifications = specifications 0 ss })) t.0 e.2 in
      let all = functions_free (package_of ss u.0) (surroundings_of u.0 e.0) e.0.rights 0 ds b.0 (all_functions 0 0 texts h.files h.read) (k u.0 e.0 u.1 e.1) b.1 in
      subst (λ (z : Content). AllCallNoConstant z.functions) (ok_same (content_of (names_of texts) h.files ss t.0) c t.2)
      (subst (λ (z : Typing). AllCallNoConstant z.bodies.functions) (ok_same (record { uses = u.0; environment = e.0; bodies = b.0; specifications = specifications 0 ss }) t.0 b.2) all)

  renamed_free : (name : ℕ → ℕ) (fs : List FuncContent) → AllCallNoConstant fs → AllCallNoConstant (map (func_renamed name) fs)
  renamed_free name [] h = tt
  renamed_free name (f ∷ fs) h = (calls_mapped (renamed name) f.tree ∙ h.0, renamed_free name fs h.1)

  -- a package that is told to be good
  pub package_free : (p : PackageView) (h : IsCheckedPackage p) → PackageIsNamed (map source_of h.checked.files) → AllCallNoConstant (content p).functions
  package_free p h k = subst AllCallNoConstant (sym h.same.1.functions) (renamed_free h.same.0 h.given.functions (checked_free _ h.given h.checked k))
