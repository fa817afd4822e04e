-- Packages without faults.
use Rattle.std.proofs.Common.{◌≡◌, ℕ, suc, Bool, true, false, cond, List, [], ◌∷◌, ◌++◌, map, length, replicate, Option, Some, None, Ok, Err, Result, refl, sym, ap, subst, ◌∙◌}
use Rattle.std.specs.Prelude.{◌&&◌, ◌||◌, not}
use Rattle.go_base.specs.declared.bytes.FileText.{FileText}
use Rattle.go_base.specs.Gives.{◌>>=◌}
use Rattle.go_grammar.specs.declared.kind.Category.TheVariants as category
use Rattle.go_grammar.specs.declared.kind.Kind.TheVariants as kind
use Rattle.go_grammar.specs.declared.kind.Sort.{Sort as Declaring}
use Rattle.go_grammar.specs.declared.kind.Sort.TheVariants as declaring
use Rattle.go_grammar.specs.Rules.{Each}
use Rattle.go_grammar.specs.Trees.{Tree, node, Trees, none, more, skip, last}
use Rattle.go_tokens.specs.Tokens.{kinds}
use Rattle.go_tokens.specs.declared.token.TokenKind.TheVariants as token
use Rattle.go_tree.specs.declared.context.Entity.TheVariants as entity
use Rattle.go_tree.specs.File.{FileTree}
use Rattle.go_types.specs.Relations.{Rights}
use Rattle.go_types.specs.Trees.{TypeTree}
use Rattle.go_types_relations.specs.Renaming.{renamed}
use Rattle.go_typed.specs.declared.form.Form.{Form}
use Rattle.go_typed.specs.declared.form.Form.TheVariants as form
use Rattle.go_typed.specs.Contents.{FuncContent, Content, content, func_renamed}
use Rattle.go_typed.specs.Packages.{PackageView}
use Rattle.go_typed.specs.Trees.{Sort, Label, typed, Typeds, sort_mapped, label_mapped, mapped, all_mapped}
use Rattle.go_typed.specs.Trees as sort
use Rattle.go_exprs_rules.specs.declared.fault.TypeFault.{TypeFault}
use Rattle.go_exprs_rules.specs.Faults.{reported}
use Rattle.go_exprs_rules.specs.Scopes.{Scope, free}
use Rattle.go_exprs_rules.specs.Settling.{Part}
use Rattle.go_exprs_rules.specs.Sorts.{Stands, is_unknown, is_open}
use Rattle.go_stmts_defs.specs.Bodies.{based, start, signature_of, function_read}
use Rattle.go_stmts_defs.specs.Reading.{Reading, read, reading}
use Rattle.go_package_defs.specs.Answer.{specifications, package_answer}
use Rattle.go_package_defs.specs.Bodies.{is_this, based_tree, Surroundings, Behind, Functions, Portion, scope_of, behind_read, function_of, function_with, placed, portion_of, typed_function, types_in, functions_from, those_of, with_function, count_types, local_type}
use Rattle.go_package_defs.specs.Checked.{Typing, surroundings_of, names_answer, bodies_answer, sources_answer, content_of, AreRead, IsChecked, IsCheckedPackage, names_of}
use Rattle.go_package_defs.specs.Declarations.{Specification, grouped, declared, declaration, declarations, in_file}
use Rattle.go_package_defs.specs.Sources.{Package, source_of, unit_of, package_of}
use Rattle.go_stmts_final_types.specs.Holes.{TypedOr, HolesTyped, AllHolesTyped}
use Rattle.go_stmts_final_types.specs.Known.{VariableIsTyped, is_package_variable, AreOwn, DeclaresOwn, IsKnown, AreKnown}
use Rattle.go_stmts_final_types.specs.Packages.{AllTyped}
use Rattle.go_stmts_final_types.specs.Shapes.{IsShaped}
use Rattle.go_stmts_final_types.proofs.Functions.{shaped, shape_based, judged_ok}
use Rattle.go_stmts_final_types.proofs.Holders.{AreAll, many_all}
use Rattle.go_stmts_final_types.proofs.Induction.{reading_fine}
use Rattle.go_stmts_final_types.proofs.Reading.{tree_in, found_in}
use Rattle.clone_window.specs.Masses.{is_hole, is_inside, is_expression}
use Rattle.clone_window.specs.Masses as masses

-- ---- the trees of functions

abbrev pub IsFunctionTree : Specification → Type 0
IsFunctionTree d = (t : Tree) × (d.tree ≡ Some t) × IsShaped category.Declaration t

abbrev pub AllFunctions : List Specification → Type 0
AllFunctions [] = Unit {0}
AllFunctions (d ∷ ds) = IsFunctionTree d × AllFunctions ds

grouped_none : (n : ℕ) (s : Declaring) (k : ℕ) (r : Option Tree) (ps : Trees) → those_of entity.Function (grouped n s k r ps) ≡ []
grouped_none n declaring.Constant k r none = refl
grouped_none n declaring.Type k r none = refl
grouped_none n declaring.Variable k r none = refl
grouped_none n declaring.Constant k r (more (node l i j qs) ps) = grouped_none n declaring.Constant (suc k) _ ps
grouped_none n declaring.Type k r (more (node l i j qs) ps) = grouped_none n declaring.Type (suc k) _ ps
grouped_none n declaring.Variable k r (more (node l i j qs) ps) = grouped_none n declaring.Variable (suc k) _ ps
grouped_none n declaring.Constant k r (skip ps) = grouped_none n declaring.Constant k r ps
grouped_none n declaring.Type k r (skip ps) = grouped_none n declaring.Type k r ps
grouped_none n declaring.Variable k r (skip ps) = grouped_none n declaring.Variable k r ps

declared_none : (n : ℕ) (s : Declaring) (ps : Trees) → those_of entity.Function (declared n s ps) ≡ []
declared_none n s none = grouped_none n s 0 None none
declared_none n s (skip ps) = grouped_none n s 0 None (skip ps)
declared_none n s (more (node (kind.Group g) i j qs) none) = grouped_none n s 0 None qs
declared_none n s (more (node (kind.Group g) i j qs) (more q ps)) = grouped_none n s 0 None (more (node (kind.Group g) i j qs) (more q ps))
declared_none n s (more (node (kind.Group g) i j qs) (skip ps)) = grouped_none n s 0 None (more (node (kind.Group g) i j qs) (skip ps))
declared_none n s (more (node k i j qs) ps) = grouped_none n s 0 None (more (node k i j qs) ps)

those_append : (ds es : List Specification) → those_of entity.Function (ds ++ es) ≡ those_of entity.Function ds ++ those_of entity.Function es
those_append [] es = refl
those_append (d ∷ ds) es = by (is_this entity.Function d.entity) (those_append ds es)
  where
    by : (b : Bool) → those_of entity.Function (ds ++ es) ≡ those_of entity.Function ds ++ those_of entity.Function es
        → cond b (d ∷ those_of entity.Function (ds ++ es)) (those_of entity.Function (ds ++ es)) ≡ cond b (d ∷ those_of entity.Function ds) (those_of entity.Function ds) ++ those_of entity.Function es
    by true e = ap (λ xs. d ∷ xs) e
    by false e = e

functions_append : (ds es : List Specification) → AllFunctions ds → AllFunctions es → AllFunctions (ds ++ es)
functions_append [] es h g = g
functions_append (d ∷ ds) es h g = (h.0, functions_append ds es h.1 g)

both_functions : (ds es : List Specification) → AllFunctions (those_of entity.Function ds) → AllFunctions (those_of entity.Function es) → AllFunctions (those_of entity.Function (ds ++ es))
both_functions ds es h g = subst AllFunctions (sym (those_append ds es)) (functions_append (those_of entity.Function ds) (those_of entity.Function es) h g)

one_declaration : (n : ℕ) (p : Tree) → IsShaped category.Declaration p → AllFunctions (those_of entity.Function (declaration n p))
one_declaration n (node (kind.Declaration s) i j ps) w = subst AllFunctions (sym (declared_none n s ps)) tt
one_declaration n (node kind.FunctionDeclaration i j ps) w = ((node kind.FunctionDeclaration i j ps, refl, w), tt)
one_declaration n (node k i j ps) w = let e = w.0 in cc

all_declarations : (n : ℕ) (ps : Trees) → AreAll category.Declaration ps → AllFunctions (those_of entity.Function (declarations n ps))
all_declarations n none w = tt
all_declarations n (more p ps) w = both_functions (declaration n p) (declarations n ps) (one_declaration n p w.0) (all_declarations n ps w.1)
all_declarations n (skip ps) w = elim w [ ]

no_import : (n : ℕ) (p : Tree) → IsShaped category.Imports p → declaration n p ≡ []
no_import n (node kind.Imports i j ps) w = refl
no_import n (node k i j ps) w = let e = w.0 in cc

file_functions : (n : ℕ) (t : Tree) → IsShaped category.File t → AllFunctions (those_of entity.Function (in_file n t))
file_functions n (node kind.File i j none) w = elim w.1 [ ]
file_functions n (node kind.File i j (more p ps)) w =
    let items = many_all [] (Each category.Declaration (token.Semicolon ∷ []) []) ps w.1.1 in
    both_functions (declaration n p) (declarations n ps) (subst (λ ds. AllFunctions (those_of entity.Function ds)) (sym (no_import n p w.1.0)) tt) (all_declarations n ps items)
file_functions n (node kind.File i j (skip ps)) w = all_declarations n ps (many_all [] (Each category.Declaration (token.Semicolon ∷ []) []) ps w.1)
file_functions n (node k i j ps) w = let e = w.0 in cc

-- of all files
pub all_functions : (m n : ℕ) (texts : List FileText) (files : List FileTree) → AreRead m texts files → AllFunctions (those_of entity.Function (specifications n (map source_of files)))
all_functions m n [] [] r = tt
all_functions m n [] (f ∷ fs) r = elim r [ ]
all_functions m n (x ∷ xs) [] r = elim r [ ]
all_functions m n (x ∷ xs) (f ∷ fs) r =
    let s = source_of f in
    both_functions (in_file n s.tree) (specifications (suc n) (map source_of fs)) (file_functions n s.tree (shaped (kinds f.tokens.tokens) category.File s.tree r.0.tree.derives)) (all_functions (suc m) (suc n) xs fs r.1)

-- ---- functions

pub bound : {A B F : Type 0} (r : Result A F) (f : A → Result B F) (y : B) → (r >>= f) ≡ Ok y → (x : A) × (r ≡ Ok x) × (f x ≡ Ok y)
bound (Ok x) f y e = (x, refl, e)
bound (Err g) f y e = cc

pub ok_same : {A F : Type 0} (x y : A) → (let r : Result A F = Ok x in r) ≡ Ok y → x ≡ y
ok_same x y e = cc

pub behind_typed : (s : Scope) (number : ℕ) (t : Tree) (r : Reading) (b : Behind) → behind_read s number t r ≡ Ok b → (reported (found_in r) ≡ None) × (tree_in r ≡ b.function.tree)
behind_typed s number t (read x fs f) b e =
    let j = judged_ok (reported fs) (record { function = function_read s number (last t) (signature_of s t) x f; rights = f.around.rights }) b e in (j.0, ap (λ (z : Behind). z.function.tree) j.1)

pub function_typed : (a : Surroundings) (rights : Rights) (number : ℕ) (bs : List Bool) (o : Portion) (t : Tree) (b : Behind) → o.tree ≡ Some t → IsShaped category.Declaration t → function_of a rights number bs o ≡ Ok b → IsKnown b.function.tree → HolesTyped false b.function.tree
function_typed a rights number bs o t b m w e k =
    let s = scope_of a (rights ++ replicate (count_types bs) None) o in
    let z = start s (length bs) (local_type (length rights) bs) in
    let f : function_with a rights number bs o (Some t) ≡ Ok b = sym (ap (function_with a rights number bs o) m) ∙ e in
    let r = behind_typed s number t (reading z free t) b f in
    let h = reading_fine z free category.Declaration t w r.0 in
    subst (HolesTyped false) r.1 (h.says (subst IsKnown (sym r.1) k))

pub placed_ok : {A : Type 0} (p : Package) (d : Specification) (r : Result A TypeFault) (x : A) → placed p d r ≡ Ok x → r ≡ Ok x
placed_ok p d (Ok y) x e = ap Ok (let same : y ≡ x = cc in same)
placed_ok p d (Err g) x e = cc

functions_typed : (p : Package) (a : Surroundings) (rights : Rights) (n : ℕ) (ds : List Specification) (fs : Functions) → AllFunctions ds → functions_from p a rights n ds ≡ Ok fs → AllTyped fs.functions
functions_typed p a rights n [] fs w e = subst (λ (z : Functions). AllTyped z.functions) (ok_same (record { functions = []; rights = rights }) fs e) tt
functions_typed p a rights n (d ∷ ds) fs w e =
    let b = bound (placed p d (typed_function p a rights n d)) (λ b. functions_from p a b.rights (suc n) ds >>= λ gs. Ok (with_function b.function gs)) fs e in
    let g = bound (functions_from p a b.0.rights (suc n) ds) (λ gs. Ok (with_function b.0.function gs)) fs b.2 in
    let own = function_typed a rights n (types_in p n) (portion_of p d) (based d.first w.0.0) b.0 (ap (based_tree d.first) w.0.1) (shape_based d.first category.Declaration w.0.0 w.0.2) (placed_ok p d (typed_function p a rights n d) b.0 b.1) in
    subst (λ (z : Functions). AllTyped z.functions) (ok_same (with_function b.0.function g.0) fs g.2) (own, functions_typed p a b.0.rights (suc n) ds g.0 w.1 g.1)

-- ---- packages

pub checked_typed : (texts : List FileText) (c : Content) → IsChecked texts c → AllTyped c.functions
checked_typed texts c h =
    let ss = map source_of h.files in
    let t = bound (sources_answer ss) (λ t. Ok (content_of (names_of texts) h.files ss t)) c h.answer in
    let u = bound (names_answer (map unit_of ss)) (λ u. package_answer ss u >>= λ e. bodies_answer ss (specifications 0 ss) u e) t.0 t.1 in
    let e = bound (package_answer ss u.0) (λ e. bodies_answer ss (specifications 0 ss) u.0 e) t.0 u.2 in
    let ds = those_of entity.Function (specifications 0 ss) in
    let b = bound (functions_from (package_of ss u.0) (surroundings_of u.0 e.0) e.0.rights 0 ds) (λ b. Ok (record { uses = u.0; environment = e.0; bodies = b; specifications = specifications 0 ss })) t.0 e.2 in
    let all = functions_typed (package_of ss u.0) (surroundings_of u.0 e.0) e.0.rights 0 ds b.0 (all_functions 0 0 texts h.files h.read) b.1 in
    subst (λ (z : Content). AllTyped z.functions) (ok_same (content_of (names_of texts) h.files ss t.0) c t.2)
    (subst (λ (z : Typing). AllTyped z.bodies.functions) (ok_same (record { uses = u.0; environment = e.0; bodies = b.0; specifications = specifications 0 ss }) t.0 b.2) all)

-- ---- under other numbers of declared types

module _ (g : TypeTree → TypeTree) where
  constant_mapped : (s : Stands) → masses.is_constant (sort_mapped g s) ≡ masses.is_constant s
  constant_mapped (sort.Constant t c) = refl
  constant_mapped s = refl

  unknown_mapped : (s : Stands) → is_unknown (sort_mapped g s) ≡ is_unknown s
  unknown_mapped sort.Unknown = refl
  unknown_mapped s = refl

  open_mapped : (s : Stands) → is_open (sort_mapped g s) ≡ is_open s
  open_mapped (sort.Open u) = refl
  open_mapped s = refl

  hole_mapped : (b : Bool) (f : Form) (l : Label TypeTree) → is_hole b f (label_mapped g l) ≡ is_hole b f l
  hole_mapped b f l = ap (λ z. not b && (is_expression f && z) && not l.varies) (constant_mapped l.sort)

  inside_mapped : (b : Bool) (f : Form) (l : Label TypeTree) → is_inside b f (label_mapped g l) ≡ is_inside b f l
  inside_mapped b f l = ap (λ z. b || (is_expression f && z)) (constant_mapped l.sort)

  typed_or : (b : Bool) (s : Stands) (P Q : Type 0) → (P → Q) → TypedOr b s P → TypedOr b (sort_mapped g s) Q
  typed_or true s P Q f h = (g h.0, h.1, ap (sort_mapped g) h.2)
  typed_or false s P Q f h = f h

  mutual
    pub holes_mapped : (b : Bool) (x : Part) → HolesTyped b x → HolesTyped b (mapped g x)
    holes_mapped b (typed f i j l ps) h =
        subst (λ z. TypedOr z (sort_mapped g l.sort) (AllHolesTyped (is_inside b f (label_mapped g l)) (all_mapped g ps))) (sym (hole_mapped b f l))
        (typed_or (is_hole b f l) l.sort (AllHolesTyped (is_inside b f l) ps) (AllHolesTyped (is_inside b f (label_mapped g l)) (all_mapped g ps))
        (λ r. subst (λ z. AllHolesTyped z (all_mapped g ps)) (sym (inside_mapped b f l)) (all_holes_mapped (is_inside b f l) ps r)) h)

    all_holes_mapped : (b : Bool) (ps : Typeds TypeTree) → AllHolesTyped b ps → AllHolesTyped b (all_mapped g ps)
    all_holes_mapped b sort.none h = tt
    all_holes_mapped b (sort.more p ps) h = (holes_mapped b p h.0, all_holes_mapped b ps h.1)
    all_holes_mapped b (sort.skip ps) h = all_holes_mapped b ps h

  variable_mapped : (b : Bool) (s : Stands) → VariableIsTyped b (sort_mapped g s) → VariableIsTyped b s
  variable_mapped true s h = sym (open_mapped s) ∙ h
  variable_mapped false s h = tt

  own_mapped : (ps : Typeds TypeTree) → AreOwn (all_mapped g ps) → AreOwn ps
  own_mapped sort.none h = tt
  own_mapped (sort.more (typed f i j l qs) ps) h = (h.0, own_mapped ps h.1)
  own_mapped (sort.skip ps) h = own_mapped ps h

  declares_mapped : (f : Form) (ps : Typeds TypeTree) → DeclaresOwn f (all_mapped g ps) → DeclaresOwn f ps
  declares_mapped form.Constants ps h = own_mapped ps h
  declares_mapped f ps h = tt

  mutual
    pub known_mapped : (x : Part) → IsKnown (mapped g x) → IsKnown x
    known_mapped (typed f i j l ps) h = (sym (unknown_mapped l.sort) ∙ h.0, variable_mapped (is_package_variable f) l.sort h.1, declares_mapped f ps h.2, all_known_mapped ps h.3)

    all_known_mapped : (ps : Typeds TypeTree) → AreKnown (all_mapped g ps) → AreKnown ps
    all_known_mapped sort.none h = tt
    all_known_mapped (sort.more p ps) h = (known_mapped p h.0, all_known_mapped ps h.1)
    all_known_mapped (sort.skip ps) h = all_known_mapped ps h

renamed_typed : (name : ℕ → ℕ) (fs : List FuncContent) → AllTyped fs → AllTyped (map (func_renamed name) fs)
renamed_typed name [] h = tt
renamed_typed name (f ∷ fs) h = (λ k. holes_mapped (renamed name) false f.tree (h.0 (known_mapped (renamed name) f.tree k)), renamed_typed name fs h.1)

-- a package that is told to be good
pub package_typed : (p : PackageView) → IsCheckedPackage p → AllTyped (content p).functions
package_typed p h =
    let name = h.same.0 in
    subst AllTyped (sym h.same.1.functions) (renamed_typed name h.given.functions (checked_typed _ h.given h.checked))
