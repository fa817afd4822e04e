-- Packages that type-check, whose names stand for something known.
use Rattle.std.proofs.Common.{◌≡◌, ◌∙◌, ℕ, suc, Bool, true, false, List, [], ◌∷◌, ◌++◌, map, length, replicate, Option, Some, None, Ok, Err, Result, refl, sym, ap, subst}
use Rattle.go_base.specs.declared.bytes.FileText.{FileText}
use Rattle.go_base.specs.Gives.{◌>>=◌}
use Rattle.go_grammar.specs.declared.kind.Category.{Category}
use Rattle.go_grammar.specs.declared.kind.Category.TheVariants as category
use Rattle.go_grammar.specs.Grammar.{Derives}
use Rattle.go_grammar.specs.Trees.{Tree, last}
use Rattle.go_tokens.specs.declared.token.TokenKind.{TokenKind}
use Rattle.go_tree.specs.declared.context.Entity.TheVariants as entity
use Rattle.go_types.specs.Relations.{Rights}
use Rattle.go_types.specs.Trees.{TypeTree}
use Rattle.go_types_relations.specs.Renaming.{renamed}
use Rattle.go_typed.specs.declared.form.Form.{Form}
use Rattle.go_typed.specs.declared.form.Form.TheVariants as form
use Rattle.go_typed.specs.Contents.{FuncContent, Content, content, func_renamed}
use Rattle.go_typed.specs.Packages.{PackageView}
use Rattle.go_typed.specs.Trees.{typed, Typeds, sort_mapped, mapped, all_mapped}
use Rattle.go_typed.specs.Trees as sort
use Rattle.go_exprs_rules.specs.declared.fault.TypeFault.{TypeFault}
use Rattle.go_exprs_rules.specs.Faults.{judged, reported}
use Rattle.go_exprs_rules.specs.Scopes.{Scope, free}
use Rattle.go_exprs_rules.specs.Settling.{Part}
use Rattle.go_exprs_rules.specs.Sorts.{Stands, is_unknown, is_open}
use Rattle.go_stmts_defs.specs.Bodies.{based, start, signature_of, function_read, answer_of, body_answer}
use Rattle.go_stmts_defs.specs.Reading.{Reading, read, reading}
use Rattle.go_package_defs.specs.Answer.{specifications, package_answer}
use Rattle.go_package_defs.specs.Bodies.{based_tree, Surroundings, Behind, Functions, Portion, scope_of, behind_read, function_of, function_with, placed, portion_of, typed_function, types_in, functions_from, those_of, with_function, count_types, local_type}
use Rattle.go_package_defs.specs.Checked.{Typing, surroundings_of, names_answer, bodies_answer, sources_answer, content_of, IsChecked, IsCheckedPackage, names_of}
use Rattle.go_package_defs.specs.Declarations.{Specification}
use Rattle.go_package_defs.specs.Sources.{Package, source_of, unit_of, package_of}
use Rattle.go_stmts_final_types.specs.Known.{VariableIsTyped, is_package_variable, AreOwn, DeclaresOwn, IsKnown, AreKnown}
use Rattle.go_stmts_final_types.specs.Names.{NamesAreKnown}
use Rattle.go_stmts_final_types.specs.PackageNames.{TreeIsNamed, FunctionsAreNamed, PackageIsNamed}
use Rattle.go_stmts_final_types.specs.Shapes.{IsShaped}
use Rattle.extract_holes_checked.specs.Checked.{AllKnown}
use Rattle.extract_holes_checked.proofs.Functions.{AllFunctions, all_functions}

bound : {A B F : Type 0} (r : Result A F) (f : A → Result B F) (y : B) → (r >>= f) ≡ Ok y → (x : A) × (r ≡ Ok x) × (f x ≡ Ok y)
bound (Ok x) f y e = (x, refl, e)
bound (Err g) f y e = cc

ok_same : {A F : Type 0} (x y : A) → (let r : Result A F = Ok x in r) ≡ Ok y → x ≡ y
ok_same x y e = cc

judged_function : (o : Option TypeFault) (x b : Behind) → judged o x ≡ Ok b → judged o x.function ≡ Ok b.function
judged_function None x b e = ap (λ (z : Behind). Ok z.function) (ok_same x b e)
judged_function (Some f) x b e = absurd cc

behind_answer : (s : Scope) (number : ℕ) (t : Tree) (r : Reading) (b : Behind) → behind_read s number t r ≡ Ok b → answer_of s number t r ≡ Ok b.function
behind_answer s number t (read x fs f) b e = judged_function (reported fs) (record { function = function_read s number (last t) (signature_of s t) x f; rights = f.around.rights }) b e

placed_ok : {A : Type 0} (p : Package) (d : Specification) (r : Result A TypeFault) (x : A) → placed p d r ≡ Ok x → r ≡ Ok x
placed_ok p d (Ok y) x e = ap Ok (let same : y ≡ x = cc in same)
placed_ok p d (Err g) x e = cc

-- ---- under other numbers of declared types

module _ (g : TypeTree → TypeTree) where
  unknown_mapped : (s : Stands) → is_unknown (sort_mapped g s) ≡ is_unknown s
  unknown_mapped sort.Unknown = refl
  unknown_mapped s = refl

  open_mapped : (s : Stands) → is_open (sort_mapped g s) ≡ is_open s
  open_mapped (sort.Open u) = refl
  open_mapped s = refl

  variable_mapped : (b : Bool) (s : Stands) → VariableIsTyped b s → VariableIsTyped b (sort_mapped g s)
  variable_mapped true s h = open_mapped s ∙ h
  variable_mapped false s h = tt

  own_mapped : (ps : Typeds TypeTree) → AreOwn ps → AreOwn (all_mapped g ps)
  own_mapped sort.none h = tt
  own_mapped (sort.more (typed f i j l qs) ps) h = (h.0, own_mapped ps h.1)
  own_mapped (sort.skip ps) h = own_mapped ps h

  declares_mapped : (f : Form) (ps : Typeds TypeTree) → DeclaresOwn f ps → DeclaresOwn f (all_mapped g ps)
  declares_mapped form.Constants ps h = own_mapped ps h
  declares_mapped f ps h = tt

  mutual
    known_mapped : (x : Part) → IsKnown x → IsKnown (mapped g x)
    known_mapped (typed f i j l ps) h = (unknown_mapped l.sort ∙ h.0, variable_mapped (is_package_variable f) l.sort h.1, declares_mapped f ps h.2, all_known_mapped ps h.3)

    all_known_mapped : (ps : Typeds TypeTree) → AreKnown ps → AreKnown (all_mapped g ps)
    all_known_mapped sort.none h = tt
    all_known_mapped (sort.more p ps) h = (known_mapped p h.0, all_known_mapped ps h.1)
    all_known_mapped (sort.skip ps) h = all_known_mapped ps h

-- ---- packages

-- derivations have the kinds that the grammar gives them
abbrev pub AreShapedOnes : Type 0
AreShapedOnes = (ts : List TokenKind) (c : Category) (b : ℕ) (t : Tree) → Derives ts c t → IsShaped c (based b t)

-- a function whose names stand for something known has no node that doesn't
abbrev pub NamesMakeKnown : Type 0
NamesMakeKnown = (s : Scope) (number locals : ℕ) (types : ℕ → ℕ) (t : Tree) (f : FuncContent) → IsShaped category.Declaration t → body_answer s number locals types t ≡ Ok f → NamesAreKnown (start s locals types) free t → IsKnown f.tree

module _ (law : AreShapedOnes) (names : NamesMakeKnown) where
  named_known : (a : Surroundings) (rights : Rights) (number : ℕ) (bs : List Bool) (o : Portion) (t : Tree) (b : Behind) → o.tree ≡ Some t → IsShaped category.Declaration t → function_of a rights number bs o ≡ Ok b
      → TreeIsNamed (scope_of a (rights ++ replicate (count_types bs) None) o) (length bs) (local_type (length rights) bs) o.tree → IsKnown b.function.tree
  named_known a rights number bs o t b m w e n =
      let s = scope_of a (rights ++ replicate (count_types bs) None) o in
      let z = start s (length bs) (local_type (length rights) bs) in
      let f : function_with a rights number bs o (Some t) ≡ Ok b = sym (ap (function_with a rights number bs o) m) ∙ e in
      names s number (length bs) (local_type (length rights) bs) t b.function w (behind_answer s number t (reading z free t) b f) (subst (TreeIsNamed s (length bs) (local_type (length rights) bs)) m n)

  functions_known : (p : Package) (a : Surroundings) (rights : Rights) (n : ℕ) (ds : List Specification) (fs : Functions) → AllFunctions ds → FunctionsAreNamed p a rights n ds → functions_from p a rights n ds ≡ Ok fs → AllKnown fs.functions
  functions_known p a rights n [] fs w k e = subst (λ (z : Functions). AllKnown z.functions) (ok_same (record { functions = []; rights = rights }) fs e) tt
  functions_known p a rights n (d ∷ ds) fs w k e =
      let b = bound (placed p d (typed_function p a rights n d)) (λ b. functions_from p a b.rights (suc n) ds >>= λ gs. Ok (with_function b.function gs)) fs e in
      let g = bound (functions_from p a b.0.rights (suc n) ds) (λ gs. Ok (with_function b.0.function gs)) fs b.2 in
      let f = placed_ok p d (typed_function p a rights n d) b.0 b.1 in
      let own = named_known a rights n (types_in p n) (portion_of p d) (based d.first w.0.1) b.0 (ap (based_tree d.first) w.0.2) (law w.0.0 category.Declaration d.first w.0.1 w.0.3) f k.0 in
      subst (λ (z : Functions). AllKnown z.functions) (ok_same (with_function b.0.function g.0) fs g.2) (own, functions_known p a b.0.rights (suc n) ds g.0 w.1 (k.1 b.0 f) g.1)

  checked_known : (texts : List FileText) (c : Content) (h : IsChecked texts c) → PackageIsNamed (map source_of h.files) → AllKnown c.functions
  checked_known texts c h k =
      let ss = map source_of h.files in
      let t = bound (sources_answer ss) (λ t. Ok (content_of (names_of texts) h.files ss t)) c h.answer in
      let u = bound (names_answer (map unit_of ss)) (λ u. package_answer ss u >>= λ e. bodies_answer ss (specifications 0 ss) u e) t.0 t.1 in
      let e = bound (package_answer ss u.0) (λ e. bodies_answer ss (specifications 0 ss) u.0 e) t.0 u.2 in
      let ds = those_of entity.Function (specifications 0 ss) in
      let b = bound (functions_from (package_of ss u.0) (surroundings_of u.0 e.0) e.0.rights 0 ds) (λ b. Ok (record { uses = u.0; environment = e.0; bodies = b; specifications = specifications 0 ss })) t.0 e.2 in
      let all = functions_known (package_of ss u.0) (surroundings_of u.0 e.0) e.0.rights 0 ds b.0 (all_functions 0 0 texts h.files h.read) (k u.0 e.0 u.1 e.1) b.1 in
      subst (λ (z : Content). AllKnown z.functions) (ok_same (content_of (names_of texts) h.files ss t.0) c t.2)
      (subst (λ (z : Typing). AllKnown z.bodies.functions) (ok_same (record { uses = u.0; environment = e.0; bodies = b.0; specifications = specifications 0 ss }) t.0 b.2) all)

  renamed_known : (name : ℕ → ℕ) (fs : List FuncContent) → AllKnown fs → AllKnown (map (func_renamed name) fs)
  renamed_known name [] h = tt
  renamed_known name (f ∷ fs) h = (known_mapped (renamed name) f.tree h.0, renamed_known name fs h.1)

  -- a package that is told to be good
  pub package_known : (p : PackageView) (h : IsCheckedPackage p) → PackageIsNamed (map source_of h.checked.files) → AllKnown (content p).functions
  package_known p h k = subst AllKnown (sym h.same.1.functions) (renamed_known h.same.0 h.given.functions (checked_known _ h.given h.checked k))
