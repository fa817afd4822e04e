-- The nodes of the functions of a package lie in order, and the names that they declare have room.
use Rattle.std.proofs.Common.{◌≡◌, ℕ, zero, suc, ◌+◌, ◌-◌, ◌<◌, ◌≤◌, ◌⊎◌, inl, inr, true, false, List, [], ◌∷◌, ◌++◌, map, Some, refl, sym, ap, subst, arith}
use Rattle.go_base.specs.declared.bytes.FileText.{FileText}
use Rattle.go_tokens.specs.declared.token.TokenKind.{TokenKind}
use Rattle.go_tokens.specs.declared.token.TokenKind.TheVariants as token
use Rattle.go_tokens.specs.Tokens.{kinds}
use Rattle.go_grammar.specs.declared.kind.Category.TheVariants as category
use Rattle.go_grammar.specs.declared.kind.Kind.TheVariants as kind
use Rattle.go_grammar.specs.declared.kind.Place.TheVariants as place
use Rattle.go_grammar.specs.Grammar.{Derives, Spells, Goes, rule}
use Rattle.go_grammar.specs.Rules.{Items, Each, Many, item}
use Rattle.go_grammar.specs.Trees.{Tree, node, Trees, none, more, skip, first, last, parts}
use Rattle.go_tree.specs.declared.context.Entity.TheVariants as entity
use Rattle.go_tree.specs.declared.context.Scope.{Scope as Extent}
use Rattle.go_tree.specs.declared.event.Declaration.{Declaration}
use Rattle.go_tree.specs.File.{FileTree}
use Rattle.go_tree.specs.Views.{Tiles}
use Rattle.go_types.specs.Trees.{TypeTree}
use Rattle.go_types_relations.specs.Renaming.{renamed}
use Rattle.go_typed.specs.declared.form.Form.{Form}
use Rattle.go_typed.specs.declared.form.Form.TheVariants as form
use Rattle.go_typed.specs.Contents.{FuncContent, content, func_renamed}
use Rattle.go_typed.specs.Packages.{PackageView}
use Rattle.go_typed.specs.Trees.{Typed, typed, Typeds, first_of, last_of, mapped, all_mapped}
use Rattle.go_typed.specs.Trees as trees
use Rattle.go_exprs_rules.specs.Scopes.{Hint, free}
use Rattle.go_stmts_defs.specs.Bodies.{based, all_based, start}
use Rattle.go_stmts_defs.specs.Frames.{Frame}
use Rattle.go_stmts_defs.specs.Reading.{reading}
use Rattle.go_package_defs.specs.Answer.{specifications}
use Rattle.go_package_defs.specs.Bodies.{based_tree, scope_of, portion_of, those_of}
use Rattle.go_package_defs.specs.Checked.{texts_of, AreRead, IsCheckedPackage}
use Rattle.go_package_defs.specs.Declarations.{Specification, declaration, declarations, in_file}
use Rattle.go_package_defs.specs.Sources.{Package, Source, source_of, package_of}
use Rattle.go_scopes_events.specs.Scoped.{IsScoped, IsInFunction}
use Rattle.go_stmts_scopes.specs.Standing.{behind_part, room_in}
use Rattle.go_stmts_scopes.specs.Statements.{tree_in}
use Rattle.go_package_scopes.specs.Laid.{is_shut, NameHasRoom, Laid, AllLaid, Anywhere, IsLaid, HaveOrder}
use Rattle.go_package_scopes.proofs.Descended.{Firm, AllFirm, derives_firm, Suits, suits_lower, InTree, InTrees, in_first, in_rest, known_inside, based_inside, roomed}
use Rattle.go_package_scopes.proofs.Laid.{unless_both, same_room}
use Rattle.go_package_scopes.proofs.LaidBodies.{FunctionRoomed, IsLaidFunction, function_laid}
use Rattle.go_scopes_events.specs.Functions.{name_of}
use Rattle.go_tree.specs.Lists as lists
use Rattle.go_tree.specs.Views.{behind_first}
use Rattle.go_package_scopes.proofs.OwnFunctions.{HasRange, Member, Named, AllNamed}
use Rattle.go_package_scopes.proofs.Ranges.{Set, AllSet, derives_set, based_set}
use Rattle.go_package_scopes.proofs.Results.{AllHave, EachOf, Gives, checked_read}
use Rattle.go_package_scopes.proofs.Trees.{declared_none, those_append}

-- ---- other properties of names, and other words for types

module _ (D E : Extent → ℕ → Type 0) (f : (r : Extent) (i : ℕ) → D r i → E r i) where
  name_map : (r : Extent) (g : Form) (i : ℕ) → NameHasRoom D r g i → NameHasRoom E r g i
  name_map r (form.New k) i h = f r i h
  name_map r (form.Declared k) i h = f r i h
  name_map r g i h = tt

  mutual
    pub laid_map : (r : Extent) (a b : ℕ) (x : Typed TypeTree) → Laid D r a b x → Laid E r a b x
    laid_map r a b (typed g i j l ps) h =
        (h.0, h.1, h.2, name_map r g i h.3, unless_both (is_shut g) (AllLaid D (room_in r g i j ps) i j ps) (AllLaid E (room_in r g i j ps) i j ps) (λ w. all_laid_map (room_in r g i j ps) i j ps w) h.4)

    all_laid_map : (r : Extent) (a b : ℕ) (ps : Typeds TypeTree) → AllLaid D r a b ps → AllLaid E r a b ps
    all_laid_map r a b trees.none h = h
    all_laid_map r a b (trees.more p ps) h = (laid_map r a b p h.0, all_laid_map r (last_of p) b ps h.1)
    all_laid_map r a b (trees.skip ps) h = all_laid_map r a b ps h

module _ (D : Extent → ℕ → Type 0) (g : TypeTree → TypeTree) where
  last_mapped : (x : Typed TypeTree) → last_of (mapped g x) ≡ last_of x
  last_mapped (typed f i j l ps) = refl

  behind_mapped : (n : ℕ) (ps : Typeds TypeTree) → behind_part n (all_mapped g ps) ≡ behind_part n ps
  behind_mapped zero trees.none = refl
  behind_mapped zero (trees.more p ps) = last_mapped p
  behind_mapped zero (trees.skip ps) = refl
  behind_mapped (suc n) trees.none = refl
  behind_mapped (suc n) (trees.more p ps) = behind_mapped n ps
  behind_mapped (suc n) (trees.skip ps) = refl

  mutual
    laid_mapped : (r : Extent) (a b : ℕ) (x : Typed TypeTree) → Laid D r a b x → Laid D r a b (mapped g x)
    laid_mapped r a b (typed f i j l ps) h = (
      h.0,
      h.1,
      h.2,
      h.3,
      unless_both (is_shut f) (AllLaid D (room_in r f i j ps) i j ps) (AllLaid D (room_in r f i j (all_mapped g ps)) i j (all_mapped g ps))
          (λ w. subst (λ z. AllLaid D z i j (all_mapped g ps)) (same_room r f i j ps (all_mapped g ps) (λ n. sym (behind_mapped n ps))) (all_laid_mapped (room_in r f i j ps) i j ps w)) h.4,
    )

    all_laid_mapped : (r : Extent) (a b : ℕ) (ps : Typeds TypeTree) → AllLaid D r a b ps → AllLaid D r a b (all_mapped g ps)
    all_laid_mapped r a b trees.none h = h
    all_laid_mapped r a b (trees.more p ps) h = (laid_mapped r a b p h.0, subst (λ m. AllLaid D r m b (all_mapped g ps)) (sym (last_mapped p)) (all_laid_mapped r (last_of p) b ps h.1))
    all_laid_mapped r a b (trees.skip ps) h = all_laid_mapped r a b ps h

  pub is_laid_mapped : (x : Typed TypeTree) → IsLaid D x → IsLaid D (mapped g x)
  is_laid_mapped (typed f i j l ps) h = laid_mapped (record { from = i; to = j }) i j (typed f i j l ps) h

pub is_laid_map : (D E : Extent → ℕ → Type 0) (f : (r : Extent) (i : ℕ) → D r i → E r i) (x : Typed TypeTree) → IsLaid D x → IsLaid E x
is_laid_map D E f (typed g i j l ps) h = laid_map D E f (record { from = i; to = j }) i j (typed g i j l ps) h

-- ---- a function of a file

module _ (P : ℕ → Declaration → Type 0) (R : ℕ → Extent → Type 0) where
  -- its names have room, its tokens lie in order, and it is a part of its file
  pub record IsFirmFunction (d : Specification) : Type 0 where
    pub last : ℕ
    pub ends : last ≡ d.last
    pub range : R d.file (record { from = d.first; to = last })
    pub parts : Trees
    pub tree : d.tree ≡ Some (node kind.FunctionDeclaration d.first last parts)
    pub set : Set (node kind.FunctionDeclaration d.first last parts)
    pub room : FunctionRoomed (Suits (P d.file) d.first) (suits_lower (P d.file) d.first) (record { from = d.first - d.first; to = last - d.first }) (all_based d.first parts)

  body_in : (n e i j : ℕ) (x y : Tree) → InTree (P n) i e (node kind.FunctionDeclaration i j (more x (more y none))) → suc (suc i) ≡ first x → first x ≤ last x → last x ≤ first y → last y ≤ j → InTree (P n) i j y
  body_in n e i j x y h a b c l d p u w = by (h d p (omega (arith, a, b, c, u)) (omega (arith, l, w)))
    where
      by : ((d.name ≡ suc i) × (d.scope ≡ record { from = i; to = j })) ⊎ IsInFunction j (more x (more y none)) d → IsScoped j y d
      by (inl g) = let m : d.name ≡ suc i = g.0 in absurd (omega (arith, m, a, b, c, u))
      by (inr (inl g)) = absurd (omega (arith, g.1, c, u))
      by (inr (inr (inl g))) = g
      by (inr (inr (inr g))) = absurd g

  module _ (ts : List TokenKind) (n : ℕ) where
    function_room : (e i j : ℕ) (ps : Trees) → Spells ts (rule place.Free kind.FunctionDeclaration) i ps j → Set (node kind.FunctionDeclaration i j ps) → Firm (node kind.FunctionDeclaration i j ps)
        → InTree (P n) i e (node kind.FunctionDeclaration i j ps) → FunctionRoomed (Suits (P n) i) (suits_lower (P n) i) (record { from = i - i; to = j - i }) (all_based i ps)
    function_room e i j none g s f h = absurd g
    function_room e i j (skip ps) g s f h = absurd g
    function_room e i j (more x none) g s f h = absurd g.2
    function_room e i j (more x (skip none)) g s f h = tt
    function_room e i j (more x (skip (skip ps))) g s f h = absurd g.2.2
    function_room e i j (more x (skip (more y ps))) g s f h = absurd g.2.2
    function_room e i j (more x (more y (skip ps))) g s f h = absurd g.2.2
    function_room e i j (more x (more y (more z ps))) g s f h = absurd g.2.2
    function_room e i j (more x (more y none)) g s f h =
        let r : Extent = record { from = i - i; to = j - i } in
        let v : j - i + i ≡ j = omega (arith, s.0) in
        let k = known_inside (P n) i ts y (category.Block, refl, g.2.1) in (
          based_inside (P n) i ts y k,
          roomed (P n) i ts j r category.Block y g.2.1 s.2.1.0 f.1.1.0 (omega (arith, s.1.0, s.1.1, s.1.2.0)) v (body_in n e i j x y h g.0.1.1 s.1.1 s.1.2.0 s.1.2.2) k,
        )

    -- a part of a file
    abbrev IsPart : Tree → Type 0
    IsPart p = Derives ts category.Imports p ⊎ Derives ts category.Declaration p

    abbrev AreFileParts : Trees → Type 0
    AreFileParts none = Unit {0}
    AreFileParts (more p ps) = IsPart p × AreFileParts ps
    AreFileParts (skip ps) = AreFileParts ps

    one_function : (e : ℕ) (p : Tree) → IsPart p → Set p → Firm p → InTree (P n) 0 e p → R n (record { from = first p; to = last p }) → EachOf IsFirmFunction (those_of entity.Function (declaration n p))
    one_function e (node (kind.Declaration q) i j ps) g s f h r = subst (EachOf IsFirmFunction) (sym (declared_none n q ps)) tt
    one_function e (node kind.FunctionDeclaration i j ps) (inl g) s f h r = let e : false ≡ true = g.0 in absurd cc
    one_function e (node kind.FunctionDeclaration i j ps) (inr g) s f h r = (record { last = j; ends = refl; range = r; parts = ps; tree = refl; set = s; room = function_room e i j ps g.1 s f h }, tt)
    one_function e (node k i j ps) g s f h r = tt

    each_append : (ds es : List Specification) → EachOf IsFirmFunction ds → EachOf IsFirmFunction es → EachOf IsFirmFunction (ds ++ es)
    each_append [] es h g = g
    each_append (d ∷ ds) es h g = (h.0, each_append ds es h.1 g)

    both_firm : (ds es : List Specification) → EachOf IsFirmFunction (those_of entity.Function ds) → EachOf IsFirmFunction (those_of entity.Function es) → EachOf IsFirmFunction (those_of entity.Function (ds ++ es))
    both_firm ds es h g = subst (EachOf IsFirmFunction) (sym (those_append ds es)) (each_append (those_of entity.Function ds) (those_of entity.Function es) h g)

    functions_in : (e a j : ℕ) (ps : Trees) → AreFileParts ps → Tiles a j ps → AllSet ps → AllFirm ps → InTrees (P n) 0 e a j ps → ((r : Extent) → HasRange r ps → R n r) → EachOf IsFirmFunction (those_of entity.Function (declarations n ps))
    functions_in e a j none g t s f h w = tt
    functions_in e a j (skip ps) g t s f h w = functions_in e a j ps g t s f h w
    functions_in e a j (more p ps) g t s f h w =
        both_firm (declaration n p) (declarations n ps) (one_function e p g.0 s.0 f.0 (in_first (P n) 0 e a j p ps t s f h) (w (record { from = first p; to = last p }) (inl refl)))
        (functions_in e (last p) j ps g.1 t.2 s.1 f.1 (in_rest (P n) 0 e a j p ps t s f h) (λ r x. w r (inr x)))

    items_are : (l : Items) (i j : ℕ) (ps : Trees) → item l ≡ category.Declaration → Goes ts l i ps j → AreFileParts ps
    items_are l i j none e g = tt
    items_are l i j (more p ps) e g = (inr (subst (λ c. Derives ts c p) e g.3), items_are l (last p) j ps e g.4)
    items_are l i j (skip ps) e g = absurd g

    many_are : (ws : List TokenKind) (l : Items) (i j : ℕ) (ps : Trees) → item l ≡ category.Declaration → Spells ts (Many ws l) i ps j → AreFileParts ps
    many_are ws l i j none e g = tt
    many_are ws l i j (more p ps) e g = (inr (subst (λ c. Derives ts c p) e g.3), items_are l (last p) j ps e g.4)
    many_are ws l i j (skip ps) e g = absurd g

    parts_are : (i j : ℕ) (ps : Trees) → Spells ts (rule place.Free kind.File) i ps j → AreFileParts ps
    parts_are i j none g = absurd g
    parts_are i j (more p ps) g = (inl g.1, many_are [] (Each category.Declaration (token.Semicolon ∷ []) []) (last p) j ps refl g.2)
    parts_are i j (skip ps) g = many_are [] (Each category.Declaration (token.Semicolon ∷ []) []) g.0 j ps refl g.2

    function_named : (i j : ℕ) (ps : Trees) → Spells ts (rule place.Free kind.FunctionDeclaration) i ps j → Tiles i j ps → Tiles (suc (suc i)) j ps
    function_named i j none g t = absurd g
    function_named i j (skip ps) g t = absurd g
    function_named i j (more x ps) g t = let e : suc (suc i) ≡ first x = g.0.1.1 in (omega (arith, e), t.1, t.2)

    named_parts : (ps : Trees) → AreFileParts ps → AllSet ps → AllNamed ps
    named_parts none g s = tt
    named_parts (skip ps) g s = named_parts ps g s
    named_parts (more p ps) g s = (one p g.0 s.0, named_parts ps g.1 s.1)
      where
        one : (p : Tree) → IsPart p → Set p → Named p
        one (node kind.FunctionDeclaration i j qs) (inl g) s = let e : false ≡ true = g.0 in absurd cc
        one (node kind.FunctionDeclaration i j qs) (inr g) s = function_named i j qs g.1 s.1
        one (node k i j qs) g s = tt

    pub file_named : (i j : ℕ) (ps : Trees) → Spells ts (rule place.Free kind.File) i ps j → AllSet ps → AllNamed ps
    file_named i j ps g s = named_parts ps (parts_are i j ps g) s

    pub file_members : (i j : ℕ) (ps : Trees) → Spells ts (rule place.Free kind.File) i ps j → (m : ℕ) → Member m (map name_of (lists.functions (behind_first ps))) → Member m (map name_of (lists.functions ps))
    file_members i j none g m h = absurd g
    file_members i j (skip ps) g m h = h
    file_members i j (more (node kind.Imports a b qs) ps) g m h = h
    file_members i j (more (node k a b qs) ps) g m h = let e : false ≡ true = g.1.0 in absurd cc

    file_functions : (t : Tree) → Derives ts category.File t → ((d : Declaration) → P n d → IsScoped (last t) t d) → ((r : Extent) → HasRange r (parts t) → R n r) → EachOf IsFirmFunction (those_of entity.Function (in_file n t))
    file_functions (node kind.File i j ps) g h w =
        let t : Tree = node kind.File i j ps in
        let s : Set t = derives_set ts category.File t g in
        let f : Firm t = derives_firm ts category.File t g s in
        functions_in j i j ps (parts_are i j ps g.1) s.1 s.2 f.1 (λ d p u v. h d p) w
    file_functions (node k i j ps) g h w = let e : false ≡ true = g.0 in absurd cc

  -- what is told of each file stands in its tree
  abbrev pub AreScoped : ℕ → List Source → Type 0
  AreScoped n [] = Unit {0}
  AreScoped n (s ∷ ss) = ((d : Declaration) → P n d → IsScoped (last s.tree) s.tree d) × ((r : Extent) → HasRange r (parts s.tree) → R n r) × AreScoped (suc n) ss

  pub firm_functions : (m n : ℕ) (texts : List FileText) (files : List FileTree) → AreRead m texts files → AreScoped n (map source_of files) → EachOf IsFirmFunction (those_of entity.Function (specifications n (map source_of files)))
  firm_functions m n [] [] r h = tt
  firm_functions m n [] (f ∷ fs) r h = absurd r
  firm_functions m n (x ∷ xs) [] r h = absurd r
  firm_functions m n (x ∷ xs) (f ∷ fs) r h =
      let s : Source = source_of f in
      both_firm (kinds f.tokens.tokens) n (in_file n s.tree) (specifications (suc n) (map source_of fs)) (file_functions (kinds f.tokens.tokens) n s.tree r.0.tree.derives h.0 h.1) (firm_functions (suc m) (suc n) xs fs r.1 h.2)

  -- ---- as it is read

  laid_whole : (b j : ℕ) (D : Extent → ℕ → Type 0) (mono : (r s : Extent) (n : ℕ) → s.from ≤ r.from → r.to ≤ s.to → D r n → D s n) (x : Typed TypeTree) → b < j
      → IsLaidFunction D mono (record { from = b - b; to = j - b }) (b - b) (j - b) x → IsLaid D x
  laid_whole b j D mono x u h = subst (IsLaid D) (sym h.is) (omega arith, omega (arith, u), omega arith, tt, h.laid)

  pub read_laid : (d : Specification) (g : IsFirmFunction d) (s : Frame) (h : Hint) → IsLaid (Suits (P d.file) d.first) (tree_in (reading s h (based d.first (node kind.FunctionDeclaration d.first g.last g.parts))))
  read_laid d g s h =
      let b : ℕ = d.first in
      let D = Suits (P d.file) b in
      let mono = suits_lower (P d.file) b in
      let r : Extent = record { from = b - b; to = g.last - b } in
      let k = based_set b (node kind.FunctionDeclaration b g.last g.parts) (let u : b ≤ b = omega arith in u) g.set in
      laid_whole b g.last D mono (tree_in (reading s h (based b (node kind.FunctionDeclaration b g.last g.parts)))) g.set.0 (function_laid D mono r s h (b - b) (g.last - b) (all_based b g.parts) k g.room)

-- ---- packages, where nothing is asked of names

abbrev Never : ℕ → Declaration → Type 0
Never n d = ⊥

abbrev Always : ℕ → Extent → Type 0
Always n r = Unit {0}

never_scoped : (n : ℕ) (ss : List Source) → AreScoped Never Always n ss
never_scoped n [] = tt
never_scoped n (s ∷ ss) = (λ d p. absurd p, λ r h. tt, never_scoped (suc n) ss)

abbrev HasOrder : FuncContent → Type 0
HasOrder f = IsLaid Anywhere f.tree

gives_order : (p : Package) (d : Specification) → IsFirmFunction Never Always d → Gives p HasOrder d
gives_order p d g = (
  based d.first (node kind.FunctionDeclaration d.first g.last g.parts),
  ap (based_tree d.first) g.tree,
  λ f r. subst (IsLaid Anywhere) r.is (is_laid_map (Suits (Never d.file) d.first) Anywhere (λ z i h. tt) _ (read_laid Never Always d g (start (scope_of r.around r.rights (portion_of p d)) r.count r.types) free)),
)

all_give : (p : Package) (ds : List Specification) → EachOf (IsFirmFunction Never Always) ds → EachOf (Gives p HasOrder) ds
all_give p [] h = tt
all_give p (d ∷ ds) h = (gives_order p d h.0, all_give p ds h.1)

renamed_order : (name : ℕ → ℕ) (fs : List FuncContent) → AllHave HasOrder fs → HaveOrder (map (func_renamed name) fs)
renamed_order name [] h = tt
renamed_order name (f ∷ fs) h = (is_laid_mapped Anywhere (renamed name) f.tree h.0, renamed_order name fs h.1)

pub package_ordered : (p : PackageView) → IsCheckedPackage p → HaveOrder (content p).functions
package_ordered p h =
    let ss : List Source = map source_of h.checked.files in
    let functions = firm_functions Never Always 0 0 (texts_of p) h.checked.files h.checked.read (never_scoped 0 ss) in
    let all = checked_read (texts_of p) h.given h.checked HasOrder (λ u e. all_give (package_of ss u) (those_of entity.Function (specifications 0 ss)) functions) in
    subst HaveOrder (sym h.same.1.functions) (renamed_order h.same.0 h.given.functions all)
