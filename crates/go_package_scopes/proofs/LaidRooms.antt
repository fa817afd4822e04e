-- The names that the functions of a package without faults declare have room.
use Rattle.std.proofs.Common.{◌≡◌, ◌∙◌, ℕ, zero, suc, ◌+◌, ◌-◌, ◌<◌, ◌≤◌, ◌⊎◌, inl, inr, Bool, true, false, List, [], ◌∷◌, map, Option, Some, None, slice_get, refl, sym, ap, subst, arith}
use Rattle.std.specs.Prelude.{◌&&◌, ◌||◌, nat_eq, nat_le, nat_lt}
use Rattle.std.specs.List.{AllByRecursion}
use Rattle.std.proofs.lemmas.Bool.Decides.{nat_tests}
use Rattle.go_tokens.specs.declared.token.TokenKind.{TokenKind}
use Rattle.go_tokens.specs.Tokens.{kinds}
use Rattle.go_grammar.specs.Grammar.{IsFile}
use Rattle.go_grammar.specs.declared.kind.Category.TheVariants as category
use Rattle.go_grammar.specs.Grammar.{Derives}
use Rattle.go_grammar.specs.Trees.{Tree, node, first, last, parts}
use Rattle.go_grammar.specs.declared.kind.Kind.TheVariants as kind
use Rattle.go_tree.specs.declared.context.Entity.TheVariants as entity
use Rattle.go_tree.specs.declared.context.Scope.{Scope as Extent}
use Rattle.go_tree.specs.declared.event.Declaration.{Declaration}
use Rattle.go_tree.specs.declared.object.Declared.{Declared}
use Rattle.go_tree.specs.declared.object.Object.{Object}
use Rattle.go_tree.specs.declared.object.Object.TheVariants as object
use Rattle.go_tree.specs.Contexts.{file_context}
use Rattle.go_tree.specs.Events.{events}
use Rattle.go_tree.specs.Units.{Unit as File}
use Rattle.go_tree.specs.Uses.{UsesView, IsComplete, uses, object_of, object_there, local_of, is_within, functions_among, lies_in}
use Rattle.go_tree.specs.Views.{Tiles}
use Rattle.go_tree.specs.declared.context.Block.{Block}
use Rattle.go_tree.specs.declared.context.Block.TheVariants as block
use Rattle.go_tree.specs.declared.context.Entity.{Entity}
use Rattle.go_tree.specs.Contexts.{is_package}
use Rattle.go_tree.proofs.Public.{derives_tiles}
use Rattle.go_types.specs.Trees.{TypeTree}
use Rattle.go_typed.specs.declared.form.Form.{Form}
use Rattle.go_typed.specs.declared.form.Form.TheVariants as form
use Rattle.go_typed.specs.Trees.{Typed, typed, Typeds}
use Rattle.go_typed.specs.Trees as nodes
use Rattle.go_types_relations.specs.Renaming.{renamed}
use Rattle.go_typed.specs.Contents.{FuncContent, content, func_renamed}
use Rattle.go_typed.specs.Packages.{PackageView}
use Rattle.go_exprs_rules.specs.Scopes.{free}
use Rattle.go_stmts_defs.specs.Bodies.{based, start}
use Rattle.go_stmts_defs.specs.Frames.{Frame}
use Rattle.go_stmts_defs.specs.Reading.{reading}
use Rattle.go_package_defs.specs.Answer.{specifications}
use Rattle.go_package_defs.specs.Bodies.{objects_from, based_tree, scope_of, portion_of, those_of}
use Rattle.go_package_defs.specs.Checked.{texts_of, IsCheckedPackage}
use Rattle.go_package_defs.specs.Declarations.{Specification}
use Rattle.go_package_defs.specs.Sources.{Package, Source, source_of, unit_of, package_of}
use Rattle.go_scopes_events.specs.Functions.{functions_told, function_names}
use Rattle.go_scopes_events.specs.Orders.{EachDeclared, BeginsAt, BeginsIn, IsFollowed}
use Rattle.go_scopes_events.specs.Scopes.{IsOrderly, AreOrderly}
use Rattle.go_scopes_events.specs.Scoped.{IsScoped}
use Rattle.go_stmts_scopes.specs.Names.{MeansLocal}
use Rattle.go_stmts_scopes.specs.Statements.{tree_in}
use Rattle.go_package_scopes.specs.Functions.{NameHas, EachName, EachNames, IsInScope}
use Rattle.go_package_scopes.specs.Laid.{IsLaid, Begins, HasRooms, HaveRooms}
use Rattle.go_package_scopes.proofs.Descended.{Suits, Firm, derives_firm}
use Rattle.go_package_scopes.proofs.Ranges.{Set, derives_set}
use Rattle.go_package_scopes.proofs.OwnFunctions.{IsFunctionSo, function_so, Member, told_member, HasRange, one_range, at_part, one_number, order_among, function_there}
use Rattle.go_package_scopes.proofs.Joined.{within_scope}
use Rattle.go_package_scopes.proofs.LaidFunctions.{is_laid_map, is_laid_mapped, IsFirmFunction, AreScoped, firm_functions, read_laid, file_named, file_members}
use Rattle.go_package_scopes.proofs.Named.{NamesAreMeant, NamesAreResolved, each_meant, in_scope, token_local, trees_of, within}
use Rattle.go_package_scopes.proofs.Renamed.{each_name}
use Rattle.go_package_scopes.proofs.Results.{AllHave, EachOf, Gives, checked_names, checked_read}
use Rattle.go_package_scopes.proofs.ToldNames.{IsTold, told_has, IsToldIn, IsDeclaredSo, local_told}

-- ---- what is told stands in its tree

abbrev pub ScopesStand : Type 0
ScopesStand = (ts : List TokenKind) (t : Tree) → IsFile ts t → EachDeclared (IsScoped (last t) t) (events (file_context (last t)) t)

abbrev pub FunctionsTold : Type 0
FunctionsTold = (ts : List TokenKind) (t : Tree) → IsFile ts t → functions_told (events (file_context (last t)) t) ≡ function_names t

-- a part of a file has this range
pub record IsPartOf (ss : List Source) (n : ℕ) (r : Extent) : Type 0 where
  pub source : Source
  pub there : slice_get ss n ≡ Some source
  pub range : HasRange r (parts source.tree)

same_source : (s x : Source) → Some s ≡ Some x → s ≡ x
same_source s x e = cc

same_file : (s x : File) → Some s ≡ Some x → s ≡ x
same_file s x e = cc

unit_there : (ss : List Source) (n : ℕ) (s : Source) → slice_get ss n ≡ Some s → slice_get (map unit_of ss) n ≡ Some (unit_of s)
unit_there [] n s e = absurd (let z : None ≡ Some s = e in cc)
unit_there (x ∷ ss) zero s e = ap (λ (z : Source). Some (unit_of z)) (same_source x s e)
unit_there (x ∷ ss) (suc n) s e = unit_there ss n s e

-- the source of a file
source_there : (ss : List Source) (n : ℕ) (u : File) → slice_get (map unit_of ss) n ≡ Some u → (s : Source) × (slice_get ss n ≡ Some s) × (unit_of s ≡ u)
source_there [] n u e = absurd (let z : None ≡ Some u = e in cc)
source_there (x ∷ ss) zero u e = (x, refl, let z : Some (unit_of x) ≡ Some u = e in cc)
source_there (x ∷ ss) (suc n) u e = source_there ss n u e

all_there : (P : Source → Type 0) (ss : List Source) (n : ℕ) (s : Source) → AllByRecursion P ss → slice_get ss n ≡ Some s → P s
all_there P [] n s h e = absurd (let z : None ≡ Some s = e in cc)
all_there P (x ∷ ss) zero s h e = subst P (same_source x s e) h.0
all_there P (x ∷ ss) (suc n) s h e = all_there P ss n s h.1 e

orderly_there : (us : List File) (n : ℕ) (u : File) → AreOrderly us → slice_get us n ≡ Some u → IsOrderly u.events
orderly_there [] n u h e = absurd (let z : None ≡ Some u = e in cc)
orderly_there (x ∷ us) zero u h e = subst (λ (z : File). IsOrderly z.events) (same_file x u e) h.0
orderly_there (x ∷ us) (suc n) u h e = orderly_there us n u h.1 e

told_scoped : ScopesStand → (all : List Source) (n : ℕ) (ss : List Source) → AllByRecursion (λ s. IsFile (kinds s.tokens.tokens) s.tree) ss → ((k : ℕ) (s : Source) → slice_get ss k ≡ Some s → slice_get all (n + k) ≡ Some s)
    → AreScoped (IsToldIn (map unit_of all)) (IsPartOf all) n ss
told_scoped law all n [] f w = tt
told_scoped law all n (s ∷ ss) f w =
    let i : n + 0 ≡ n = omega arith in
    let here : slice_get all n ≡ Some s = subst (λ m. slice_get all m ≡ Some s) i (w 0 s refl) in (
      λ d p. told_has (IsScoped (last s.tree) s.tree) d (unit_of s).events (law (kinds s.tokens.tokens) s.tree f.0)
          (subst (λ (u : File). IsTold d u.events) (same_file p.file (unit_of s) (sym p.there ∙ unit_there all n s here)) p.told),
      λ r h. record { source = s; there = here; range = h },
      told_scoped law all (suc n) ss f.1 (λ k x e. let z : n + suc k ≡ suc n + k = omega arith in subst (λ m. slice_get all m ≡ Some x) z (w (suc k) x e)),
    )

-- ---- locals

first_both : (a b : Bool) → a && b ≡ true → a ≡ true
first_both true b e = refl
first_both false b e = absurd (let z : false ≡ true = e in cc)

within_file : (d : Declared) (n t : ℕ) → is_within d n t ≡ true → d.file ≡ n
within_file d n t e = let f : nat_eq d.file n ≡ true = first_both (nat_eq d.file n) (nat_eq d.name t || (nat_le d.scope.from t && nat_lt t d.scope.to)) e in grind (arith, nat_tests, f)

begins_so : (us : List File) → IsComplete (uses us) → (n b : ℕ) (r : Extent) (i : ℕ) → Suits (IsToldIn us n) b r i → Begins (uses us) n b r i
begins_so us c n b r i h f k d o l e =
    let t : IsDeclaredSo us d = local_told us f k d l in
    let file : d.file ≡ n = within_file d n (b + i) (within d.block d n (b + i) (c.local_block f k d l) (c.scope n (b + i) (object.Local f k) d o l)) in
    let g = h t.it (subst (λ m. IsToldIn us m t.it) file t.told) (t.name ∙ e) in
    subst (λ (z : Extent). (b + i ≤ z.from) × (b + r.from ≤ z.from) × (z.to ≤ b + r.to)) t.scope g

-- ---- the function of a local

-- a function that begins at this token
pub record IsOwner (u : UsesView) (n i f : ℕ) : Type 0 where
  pub it : Declared
  pub there : slice_get (functions_among u.package_level) f ≡ Some it
  pub file : it.file ≡ n
  pub name : it.name ≡ suc i

one_owner : (u : UsesView) → IsComplete u → (n i f g : ℕ) → IsOwner u n i f → IsOwner u n i g → f ≡ g
one_owner u c n i f g h k = one_number (functions_among u.package_level) f g h.it k.it (order_among u.package_level c.order) h.there k.there (h.file ∙ sym k.file) (h.name ∙ sym k.name)

followed_in : (x : Declaration) → IsFollowed x → is_package x.block ≡ false → x.name ≤ x.scope.from
followed_in x h e = by x.block x.entity h.0 e
  where
    at : (b : Entity) → BeginsAt b x.name x.scope.from → x.name ≤ x.scope.from
    at entity.Type g = omega (arith, g)
    at entity.Function g = absurd g
    at entity.Constant g = omega (arith, g)
    at entity.Variable g = omega (arith, g)
    at entity.Parameter g = omega (arith, g)

    by : (b : Block) (y : Entity) → BeginsIn b y x.name x.scope.from → is_package b ≡ false → x.name ≤ x.scope.from
    by block.Package y g e = absurd (let z : true ≡ false = e in cc)
    by (block.Local m) y g e = at y g

lies_parts : (g d : Declared) → lies_in g d ≡ true → (g.file ≡ d.file) × (g.scope.from ≤ d.name) × (d.name < g.scope.to) × (d.scope.to ≤ g.scope.to)
lies_parts g d h = (grind (arith, nat_tests), grind (arith, nat_tests), grind (arith, nat_tests), grind (arith, nat_tests))

within_parts : (d : Declared) (n t : ℕ) → is_within d n t ≡ true → (d.file ≡ n) × ((d.name ≡ t) ⊎ ((d.scope.from ≤ t) × (t < d.scope.to)))
within_parts d n t h = (within_file d n t h, by (nat_eq d.name t) refl)
  where
    by : (b : Bool) → nat_eq d.name t ≡ b → (d.name ≡ t) ⊎ ((d.scope.from ≤ t) × (t < d.scope.to))
    by true e = inl (grind (arith, nat_tests, e))
    by false e = let w = within_scope d n t h (λ z. let y : nat_eq d.name t ≡ true = grind (arith, nat_tests, z) in let no : true ≡ false = sym y ∙ e in cc) in inr w

file_parts : (ts : List TokenKind) (t : Tree) → Derives ts category.File t → (x : Declaration) → IsScoped (last t) t x → Member x.name (function_names t) → HasRange x.scope (parts t) × (x.name ≡ suc x.scope.from)
file_parts ts (node kind.File i j ps) g x h m =
    let t : Tree = node kind.File i j ps in
    let s : Set t = derives_set ts category.File t g in
    let f : Firm t = derives_firm ts category.File t g s in
    at_part j i j ps x s.1 s.2 f.1 (file_named (IsToldIn []) (IsPartOf []) ts 0 i j ps g.1 s.2) (file_members (IsToldIn []) (IsPartOf []) ts 0 i j ps g.1 x.name m) h
file_parts ts (node k i j ps) g x h m = let e : false ≡ true = g.0 in absurd cc

less : (b t : ℕ) → b ≤ t → (t ≡ b → ⊥) → suc b ≤ t
less b t u other = by (nat_le (suc b) t) refl
  where
    by : (x : Bool) → nat_le (suc b) t ≡ x → suc b ≤ t
    by true e = grind (arith, nat_tests, e)
    by false e = absurd (other (grind (arith, nat_tests, e, u)))

module _ (ss : List Source) (trees : AllByRecursion (λ s. IsFile (kinds s.tokens.tokens) s.tree) ss) (law : ScopesStand) (told : FunctionsTold) (orderly : AreOrderly (map unit_of ss)) (c : IsComplete (uses (map unit_of ss))) where
  abbrev Us : List File
  Us = map unit_of ss

  owner : (n t f k : ℕ) (r : Extent) → object_of (uses Us) n t ≡ Some (object.Local f k) → IsPartOf ss n r → r.from ≤ t → t < r.to → IsOwner (uses Us) n r.from f
  owner n t f k r o q u v =
      let s = in_scope (uses Us) c n t f k o in
      let d : Declared = s.declared in
      let same : s.function ≡ f = let z : Some (object.Local s.function k) ≡ Some (object.Local f k) = sym s.meant ∙ o in cc in
      let at : local_of (uses Us) f k ≡ Some d = subst (λ g. local_of (uses Us) g k ≡ Some d) same s.there in
      let w = within_parts d n t s.within in
      let g = function_there (uses Us) c f k d at in
      let l = lies_parts g.0 d g.2 in
      let y : IsFunctionSo Us g.0 = function_so Us f g.0 g.1 in
      let file : g.0.file ≡ n = l.0 ∙ w.0 in
      let x : Declaration = y.it in
      let src = source_there ss g.0.file y.told.file y.told.there in
      let isfile = all_there (λ s. IsFile (kinds s.tokens.tokens) s.tree) ss g.0.file src.0 trees src.1 in
      let told_there : IsTold x (unit_of src.0).events = subst (λ (z : File). IsTold x z.events) (sym src.2) y.told.told in
      let scoped : IsScoped (last src.0.tree) src.0.tree x = told_has (IsScoped (last src.0.tree) src.0.tree) x (unit_of src.0).events (law (kinds src.0.tokens.tokens) src.0.tree isfile) told_there in
      let member : Member x.name (function_names src.0.tree) = subst (Member x.name) (told (kinds src.0.tokens.tokens) src.0.tree isfile) (told_member x (unit_of src.0).events y.block y.entity told_there) in
      let part = file_parts (kinds src.0.tokens.tokens) src.0.tree isfile.derives x scoped member in
      let z : IsDeclaredSo Us d = local_told Us f k d at in
      let order : IsFollowed z.it = told_has IsFollowed z.it z.told.file.events (orderly_there Us d.file z.told.file orderly z.told.there).follow z.told.told in
      let follows : d.name ≤ d.scope.from = subst (λ (e : Extent). d.name ≤ e.from) z.scope (subst (λ m. m ≤ z.it.scope.from) z.name (followed_in z.it order (ap is_package z.block ∙ c.local_block f k d at))) in
      let begins : x.scope.from ≤ t = subst (λ (e : Extent). e.from ≤ t) (sym y.scope) (begins_by g.0 d w.1 l.1 follows) in
      let lasts : t < x.scope.to = subst (λ (e : Extent). t < e.to) (sym y.scope) (lasts_by g.0 d w.1 l.2 l.3) in
      let here : src.0 ≡ q.source = same_source src.0 q.source (sym src.1 ∙ (ap (slice_get ss) file ∙ q.there)) in
      let range : HasRange r (parts src.0.tree) = subst (λ (e : Source). HasRange r (parts e.tree)) (sym here) q.range in
      let tiles : Tiles (first src.0.tree) (last src.0.tree) (parts src.0.tree) = derives_tiles (kinds src.0.tokens.tokens) category.File src.0.tree isfile.derives in
      let whole : x.scope ≡ r = one_range x.scope r (first src.0.tree) (last src.0.tree) t (parts src.0.tree) tiles part.0 range begins lasts u v in
      record {
        it = g.0;
        there = g.1;
        file = file;
        name = sym y.name ∙ (part.1 ∙ ap (λ (e : Extent). suc e.from) whole);
      }
    where
      begins_by : (g d : Declared) → (d.name ≡ t) ⊎ ((d.scope.from ≤ t) × (t < d.scope.to)) → g.scope.from ≤ d.name → d.name ≤ d.scope.from → g.scope.from ≤ t
      begins_by g d (inl e) a b = omega (arith, e, a)
      begins_by g d (inr e) a b = omega (arith, e.0, a, b)

      lasts_by : (g d : Declared) → (d.name ≡ t) ⊎ ((d.scope.from ≤ t) × (t < d.scope.to)) → d.name < g.scope.to → d.scope.to ≤ g.scope.to → t < g.scope.to
      lasts_by g d (inl e) a b = omega (arith, e, a)
      lasts_by g d (inr e) a b = omega (arith, e.1, b)

  -- all tokens of a part of a file that mean locals mean those of one function
  one_function : (n t m f g k l : ℕ) (r : Extent) → object_of (uses Us) n t ≡ Some (object.Local f k) → object_of (uses Us) n m ≡ Some (object.Local g l) → IsPartOf ss n r → r.from ≤ t → t < r.to → r.from ≤ m → m < r.to → f ≡ g
  one_function n t m f g k l r o p q u v w x = one_owner (uses Us) c n r.from f g (owner n t f k r o q u v) (owner n m g l r p q w x)

  abbrev function_or : Option Object → ℕ → ℕ
  function_or (Some (object.Local f k)) g = f
  function_or o g = g

  -- the function of the first token that means a local
  abbrev first_function : (n b size : ℕ) → ℕ
  first_function n b zero = 0
  first_function n b (suc s) = function_or (object_of (uses Us) n b) (first_function n (suc b) s)

  is_first : (n b size t f k : ℕ) (r : Extent) → object_of (uses Us) n t ≡ Some (object.Local f k) → IsPartOf ss n r → r.from ≤ b → b + size ≤ r.to → b ≤ t → t < b + size → f ≡ first_function n b size
  is_first n b zero t f k r o q u v w x = absurd (omega (arith, w, x))
  is_first n b (suc s) t f k r o q u v w x =
      by (λ other. is_first n (suc b) s t f k r o q (omega (arith, u)) (omega (arith, v)) (less b t w other) (omega (arith, x))) (object_of (uses Us) n b) refl
    where
      away : (y : Option Object) → object_of (uses Us) n b ≡ y → ((g l : ℕ) → y ≡ Some (object.Local g l) → ⊥) → t ≡ b → ⊥
      away y e never z = never f k (sym e ∙ (subst (λ m. object_of (uses Us) n m ≡ Some (object.Local f k)) z o))

      by : ((t ≡ b → ⊥) → f ≡ first_function n (suc b) s) → (y : Option Object) → object_of (uses Us) n b ≡ y → f ≡ function_or y (first_function n (suc b) s)
      by later None e = later (away None e (λ g l z. let wrong : None ≡ Some (object.Local g l) = z in cc))
      by later (Some object.Import) e = later (away (Some object.Import) e (λ g l z. let wrong : Some object.Import ≡ Some (object.Local g l) = z in cc))
      by later (Some (object.Predeclared p)) e = later (away (Some (object.Predeclared p)) e (λ g l z. let wrong : Some (object.Predeclared p) ≡ Some (object.Local g l) = z in cc))
      by later (Some (object.Package m)) e = later (away (Some (object.Package m)) e (λ g l z. let wrong : Some (object.Package m) ≡ Some (object.Local g l) = z in cc))
      by later (Some (object.Local g l)) e = one_function n t b f g k l r o e q (omega (arith, u, w)) (omega (arith, v, x)) u (omega (arith, v))

-- ---- packages

abbrev Means : UsesView → (n b f size : ℕ) → ℕ → ℕ → Type 0
Means u n b f size i k = (object_of u n (b + i) ≡ Some (object.Local f k)) × IsInScope u n (b + i) k

token_below : (p : Package) (n t c i k : ℕ) → MeansLocal (object_there (slice_get (objects_from p n t c) i)) k → i < c
token_below p n t zero i k h = absurd h
token_below p n t (suc c) zero k h = omega arith
token_below p n t (suc c) (suc i) k h = let w = token_below p n (suc t) c i k h in omega (arith, w)

first_name : (P Q : ℕ → ℕ → Type 0) (f : Form) (i : ℕ) → NameHas (λ i k. P i k × Q i k) f i → NameHas P f i × NameHas Q f i
first_name P Q (form.Local k) i h = h
first_name P Q (form.New k) i h = h
first_name P Q (form.Declared k) i h = h
first_name P Q f i h = (tt, tt)

mutual
  first_each : (P Q : ℕ → ℕ → Type 0) (x : Typed TypeTree) → EachName (λ i k. P i k × Q i k) x → EachName P x × EachName Q x
  first_each P Q (typed f i j l ps) h = let a = first_name P Q f i h.0 in let b = first_each_all P Q ps h.1 in ((a.0, b.0), (a.1, b.1))

  first_each_all : (P Q : ℕ → ℕ → Type 0) (ps : Typeds TypeTree) → EachNames (λ i k. P i k × Q i k) ps → EachNames P ps × EachNames Q ps
  first_each_all P Q nodes.none h = (tt, tt)
  first_each_all P Q (nodes.more p ps) h = let a = first_each P Q p h.0 in let b = first_each_all P Q ps h.1 in ((a.0, b.0), (a.1, b.1))
  first_each_all P Q (nodes.skip ps) h = first_each_all P Q ps h

module _ (m : NamesAreMeant) (law : ScopesStand) (told : FunctionsTold) (ss : List Source) (trees : AllByRecursion (λ s. IsFile (kinds s.tokens.tokens) s.tree) ss)
    (orderly : AreOrderly (map unit_of ss)) (c : IsComplete (uses (map unit_of ss))) where
  abbrev Uu : UsesView
  Uu = uses (map unit_of ss)

  gives_rooms : (p : Package) → p.uses ≡ Uu → (d : Specification) → IsFirmFunction (IsToldIn (map unit_of ss)) (IsPartOf ss) d → Gives p (HasRooms Uu) d
  gives_rooms p e d g = (
    based d.first (node kind.FunctionDeclaration d.first g.last g.parts),
    ap (based_tree d.first) g.tree,
    λ f r.
        let t : Tree = based d.first (node kind.FunctionDeclaration d.first g.last g.parts) in
        let s : Frame = start (scope_of r.around r.rights (portion_of p d)) r.count r.types in
        let size : ℕ = d.last - d.first in
        let own : ℕ = first_function ss trees law told orderly c d.file d.first size in
        let P : ℕ → ℕ → Type 0 = λ i k. object_of Uu d.file (d.first + i) ≡ Some (object.Local own k) in
        let Q : ℕ → ℕ → Type 0 = λ i k. IsInScope Uu d.file (d.first + i) k in
        let whole : EachName (λ i k. P i k × Q i k) (tree_in (reading s free t)) =
        each_meant s.around.objects (λ i k. P i k × Q i k)
        (
        λ i k z.
        let w = token_local p d.file d.first size i k z in
        let o : object_of Uu d.file (d.first + i) ≡ Some (object.Local w.0 k) = subst (λ u. object_of u d.file (d.first + i) ≡ Some (object.Local w.0 k)) e w.1 in
        let below : i < size = token_below p d.file d.first size i k z in
        let ends : d.first + size ≤ g.last = omega (arith, g.ends, g.set.0) in
        let first : d.first ≤ d.first = omega arith in
        let behind : d.first ≤ d.first + i = omega arith in
        let inside : d.first + i < d.first + size = omega (arith, below) in
        let same : w.0 ≡ own = is_first ss trees law told orderly c d.file d.first size (d.first + i) w.0 k (record { from = d.first; to = g.last }) o g.range first ends behind inside in
        (subst (λ f. object_of Uu d.file (d.first + i) ≡ Some (object.Local f k)) same o, in_scope Uu c d.file (d.first + i) w.0 k o)
        )
        (tree_in (reading s free t)) (m s free t) in
        let both = first_each P Q (tree_in (reading s free t)) whole in
        record {
          file = d.file;
          first = d.first;
          function = own;
          own = subst (EachName P) r.is both.0;
          names = subst (EachName Q) r.is both.1;
          laid = subst (IsLaid (Begins Uu d.file d.first)) r.is
              (is_laid_map (Suits (IsToldIn (map unit_of ss) d.file) d.first) (Begins Uu d.file d.first) (begins_so (map unit_of ss) c d.file d.first)
              (tree_in (reading s free t)) (read_laid (IsToldIn (map unit_of ss)) (IsPartOf ss) d g s free));
        },
  )

  all_give : (p : Package) → p.uses ≡ Uu → (ds : List Specification) → EachOf (IsFirmFunction (IsToldIn (map unit_of ss)) (IsPartOf ss)) ds → EachOf (Gives p (HasRooms Uu)) ds
  all_give p e [] h = tt
  all_give p e (d ∷ ds) h = (gives_rooms p e d h.0, all_give p e ds h.1)

renamed_rooms : (u : UsesView) (name : ℕ → ℕ) (fs : List FuncContent) → AllHave (HasRooms u) fs → HaveRooms u (map (func_renamed name) fs)
renamed_rooms u name [] h = tt
renamed_rooms u name (f ∷ fs) h = (
  record {
    file = h.0.file;
    first = h.0.first;
    function = h.0.function;
    own = each_name (renamed name) (λ i k. object_of u h.0.file (h.0.first + i) ≡ Some (object.Local h.0.function k)) f.tree h.0.own;
    names = each_name (renamed name) (λ i k. IsInScope u h.0.file (h.0.first + i) k) f.tree h.0.names;
    laid = is_laid_mapped (Begins u h.0.file h.0.first) (renamed name) f.tree h.0.laid;
  },
  renamed_rooms u name fs h.1,
)

pub package_roomed : ScopesStand → FunctionsTold → NamesAreMeant → NamesAreResolved → (p : PackageView) → IsCheckedPackage p → HaveRooms (content p).uses (content p).functions
package_roomed law told m r p h =
    let ss : List Source = map source_of h.checked.files in
    let us : List File = map unit_of ss in
    let n = checked_names (texts_of p) h.given h.checked in
    let trees = trees_of 0 (texts_of p) h.checked.files h.checked.read in
    let resolved = r ss (record { trees = trees; names = n.faultless }) in
    let scoped = told_scoped law ss 0 ss trees (λ k s e. let i : k ≡ 0 + k = omega arith in subst (λ m. slice_get ss m ≡ Some s) i e) in
    let functions = firm_functions (IsToldIn us) (IsPartOf ss) 0 0 (texts_of p) h.checked.files h.checked.read scoped in
    let all = checked_read (texts_of p) h.given h.checked (HasRooms (uses us)) (λ u e. all_give m law told ss trees resolved.orderly resolved.complete (package_of ss u) (sym e) (those_of entity.Function (specifications 0 ss)) functions) in
    let same : uses us ≡ (content p).uses = sym n.named ∙ sym h.same.1.uses in
    subst (λ v. HaveRooms v (content p).functions) same (subst (HaveRooms (uses us)) (sym h.same.1.functions) (renamed_rooms (uses us) h.same.0 h.given.functions all))
