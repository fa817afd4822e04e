-- A function's names stand where they may, where its tokens lie in order and its names are its own.
use Rattle.std.proofs.Common.{◌≡◌, ◌∙◌, ℕ, ◌+◌, ◌-◌, ◌<◌, ◌≤◌, Bool, true, false, List, [], ◌∷◌, Option, Some, None, refl, sym, ap, subst, arith}
use Rattle.std.specs.Prelude.{if◌then◌else◌, ◌&&◌, ◌||◌, nat_eq, nat_le, nat_lt}
use Rattle.std.proofs.lemmas.Bool.Decides.{nat_tests}
use Rattle.go_tree.specs.declared.context.Scope.{Scope}
use Rattle.go_tree.specs.declared.object.Declared.{Declared}
use Rattle.go_tree.specs.declared.object.Object.TheVariants as object
use Rattle.go_tree.specs.Declarations.{is_variable}
use Rattle.go_tree.specs.Uses.{UsesView, object_of, local_of, is_within}
use Rattle.go_types.specs.Relations.{Rights}
use Rattle.go_types.specs.Trees.{TypeTree}
use Rattle.go_typed.specs.declared.form.Form.{Form}
use Rattle.go_typed.specs.declared.form.Form.TheVariants as form
use Rattle.go_typed.specs.Contents.{FuncContent}
use Rattle.go_typed.specs.Trees.{Typed, typed, Typeds, first_of, last_of}
use Rattle.go_typed.specs.Trees as trees
use Rattle.extract_runs.specs.Lexical.{Locals}
use Rattle.go_stmts_scopes.specs.Runs.{is_given, Unless}
use Rattle.go_stmts_scopes.specs.Scoped.{tested}
use Rattle.go_stmts_scopes.specs.Standing.{Covers, BeginsIn, NameStands, room_in, is_closed}
use Rattle.go_package_scopes.specs.Functions.{NameHas, EachName, EachNames, IsInScope}
use Rattle.go_package_scopes.specs.Laid.{is_shut, NameHasRoom, Laid, AllLaid, Begins, HaveRooms}
use Rattle.go_package_scopes.specs.Own.{extent_in, extents_of, IsUsed, IsDeclaredHere, NameIsOwn, NamesAreOwn, AllNamesAreOwn, AreLexicalByTokens}
use Rattle.go_package_scopes.specs.Standing.{NamesStand, AllNamesStand, AreLexicalByNames}
use Rattle.go_package_scopes.proofs.Laid.{unless_both}

-- ---- extents

extent_there : (b : ℕ) (d : Declared) → is_variable d.entity ≡ true → extent_in b (Some d) ≡ Some (record { from = d.scope.from - b; to = d.scope.to - b })
extent_there b d e = ap (λ v. let o : Option Scope = if v then Some (record { from = d.scope.from - b; to = d.scope.to - b }) else None in o) e

extent_is : (b : ℕ) (d : Declared) (s : Scope) → extent_in b (Some d) ≡ Some s → s ≡ record { from = d.scope.from - b; to = d.scope.to - b }
extent_is b d s e = by (is_variable d.entity) e
  where
    by : (v : Bool) → (let o : Option Scope = if v then Some (record { from = d.scope.from - b; to = d.scope.to - b }) else None in o) ≡ Some s → s ≡ record { from = d.scope.from - b; to = d.scope.to - b }
    by true e = sym (let z : Some (record { from = d.scope.from - b; to = d.scope.to - b }) ≡ Some s = e in cc)
    by false e = absurd (let z : let o : Option Scope = None in o ≡ Some s = e in cc)

pub within_scope : (d : Declared) (n t : ℕ) → is_within d n t ≡ true → (d.name ≡ t → ⊥) → (d.scope.from ≤ t) × (t < d.scope.to)
within_scope d n t e other = by (nat_eq d.file n) (nat_eq d.name t) refl (nat_le d.scope.from t) refl (nat_lt t d.scope.to) refl e
  where
    by : (a b : Bool) → nat_eq d.name t ≡ b → (c : Bool) → nat_le d.scope.from t ≡ c → (g : Bool) → nat_lt t d.scope.to ≡ g → a && (b || (c && g)) ≡ true → (d.scope.from ≤ t) × (t < d.scope.to)
    by false b eb c ec g eg h = absurd (let z : false ≡ true = h in cc)
    by true true eb c ec g eg h = absurd (other (grind (arith, nat_tests, eb)))
    by true false eb false ec g eg h = absurd (let z : false ≡ true = h in cc)
    by true false eb true ec false eg h = absurd (let z : false ≡ true = h in cc)
    by true false eb true ec true eg h = (grind (arith, nat_tests, ec), grind (arith, nat_tests, eg))

local_same : (f g k l : ℕ) → Some (object.Local f k) ≡ Some (object.Local g l) → f ≡ g
local_same f g k l e = cc

declared_same : (d e : Declared) → Some d ≡ Some e → d ≡ e
declared_same d e z = cc

-- ---- trees

module _ (ls : Locals) (rights : Rights) (u : UsesView) (n b f : ℕ) where
  -- a local that is used
  used_covers : (i k : ℕ) → IsInScope u n (b + i) k → object_of u n (b + i) ≡ Some (object.Local f k) → IsUsed u f (b + i) k → Covers (extents_of u f b) k i
  used_covers i k s o h =
      let same : s.function ≡ f = local_same s.function f k k (sym s.meant ∙ o) in
      let at : local_of u f k ≡ Some s.declared = subst (λ g. local_of u g k ≡ Some s.declared) same s.there in
      let it : s.declared ≡ h.it = declared_same s.declared h.it (sym at ∙ h.there) in
      let w = within_scope h.it n (b + i) (subst (λ d. is_within d n (b + i) ≡ true) it s.within) h.elsewhere in
      record {
        scope = record { from = h.it.scope.from - b; to = h.it.scope.to - b };
        is = ap (extent_in b) h.there ∙ extent_there b h.it h.variable;
        begins = omega (arith, w.0);
        lasts = omega (arith, w.1);
      }

  declared_begins : (r : Scope) (i k : ℕ) → object_of u n (b + i) ≡ Some (object.Local f k) → IsDeclaredHere u f (b + i) k → Begins u n b r i → BeginsIn (extents_of u f b) r k i
  declared_begins r i k o h g s e =
      let w = g f k h.it o h.there h.here in
      let is : s ≡ record { from = h.it.scope.from - b; to = h.it.scope.to - b } = extent_is b h.it s (sym (ap (extent_in b) h.there) ∙ e) in
      let from : s.from ≡ h.it.scope.from - b = ap (λ (z : Scope). z.from) is in
      let to : s.to ≡ h.it.scope.to - b = ap (λ (z : Scope). z.to) is in
      (omega (arith, from, w.0), omega (arith, from, w.1), omega (arith, to, w.2))

  abbrev MeansOwn : ℕ → ℕ → Type 0
  MeansOwn i k = object_of u n (b + i) ≡ Some (object.Local f k)

  abbrev Scoped : ℕ → ℕ → Type 0
  Scoped i k = IsInScope u n (b + i) k

  name_stands : (r : Scope) (g : Bool) (h : Form) (i : ℕ) → NameHasRoom (Begins u n b) r h i → NameHas Scoped h i → NameHas MeansOwn h i → NameIsOwn ls u f b g h i → NameStands ls (extents_of u f b) r g h i
  name_stands r g (form.Local k) i d s o w = unless_both g (IsUsed u f (b + i) k × ls.named k) (Covers (extents_of u f b) k i × ls.named k) (λ z. (used_covers i k s o z.0, z.1)) w
  name_stands r g (form.New k) i d s o w = (declared_begins r i k o w.0 d, w.1)
  name_stands r g (form.Declared k) i d s o w = (declared_begins r i k o w.0 d, w.1)
  name_stands r g h i d s o w = tt

  -- a closed node is shut, but for what only holds parts
  closed_both : (h : Form) (A B C : Type 0) → (A → B → C) → Unless (is_shut h) A → Unless (is_closed h) B → Unless (is_closed h) C
  closed_both (form.Held k) A B C g a c = tt
  closed_both h A B C g a c = by (is_closed h) a c
    where
      by : (z : Bool) → Unless z A → Unless z B → Unless z C
      by true a c = tt
      by false a c = g a c

  mutual
    pub stands : (r : Scope) (a z : ℕ) (t : Typed TypeTree) → Laid (Begins u n b) r a z t → EachName Scoped t → EachName MeansOwn t → NamesAreOwn ls rights u f b t → NamesStand ls rights (extents_of u f b) r a z t
    stands r a z (typed h i j l ps) d s o w = (
      d.0,
      d.1,
      d.2,
      name_stands r (is_given l.sort) h i d.3 s.0 o.0 w.0,
      w.1,
      closed_both h (AllLaid (Begins u n b) (room_in r h i j ps) i j ps) (AllNamesAreOwn ls rights u f b ps) (AllNamesStand ls rights (extents_of u f b) (room_in r h i j ps) i j ps)
          (λ x y. all_stand (room_in r h i j ps) i j ps x s.1 o.1 y) d.4 w.2,
    )

    pub all_stand : (r : Scope) (a z : ℕ) (ps : Typeds TypeTree) → AllLaid (Begins u n b) r a z ps → EachNames Scoped ps → EachNames MeansOwn ps → AllNamesAreOwn ls rights u f b ps → AllNamesStand ls rights (extents_of u f b) r a z ps
    all_stand r a z trees.none d s o w = d
    all_stand r a z (trees.more p ps) d s o w = (stands r a z p d.0 s.0 o.0 w.0, all_stand r (last_of p) z ps d.1 s.1 o.1 w.1)
    all_stand r a z (trees.skip ps) d s o w = all_stand r a z ps d s o w

-- ---- functions

pub all_by_tokens : (u : UsesView) (fs : List FuncContent) → HaveRooms u fs → AreLexicalByNames fs → AreLexicalByTokens u fs
all_by_tokens u [] h g = tt
all_by_tokens u (f ∷ fs) h g = (
  record {
    file = h.0.file;
    first = h.0.first;
    function = h.0.function;
    own = h.0.own;
    scoped = λ named written declared rights local gone s w.
        g.0 named written declared rights (extents_of u h.0.function h.0.first) local gone s
        (
        record {
          names = stands (tested named written declared true) rights u h.0.file h.0.first h.0.function (record { from = first_of f.tree; to = last_of f.tree }) (first_of f.tree) (last_of f.tree) f.tree h.0.laid h.0.names h.0.own w.names;
          declared = w.declared;
        }
        );
  },
  all_by_tokens u fs h.1 g.1,
)
