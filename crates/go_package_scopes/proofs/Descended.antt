-- Each name that a derivation declares has its room, where its scope is the one that its place in the derivation gives it.
use Rattle.std.proofs.Common.{◌≡◌, ℕ, suc, ◌+◌, ◌-◌, ◌<◌, ◌≤◌, ◌⊎◌, inl, inr, Bool, true, false, List, refl, sym, subst, ap, arith}
use Rattle.std.specs.Prelude.{if◌then◌else◌, ◌||◌}
use Rattle.go_tokens.specs.declared.token.TokenKind.{TokenKind}
use Rattle.go_grammar.specs.declared.kind.Kind.{Kind}
use Rattle.go_grammar.specs.declared.kind.Kind.TheVariants as kind
use Rattle.go_grammar.specs.declared.kind.Sort.TheVariants as declaring
use Rattle.go_grammar.specs.declared.kind.Category.{Category}
use Rattle.go_grammar.specs.declared.kind.Category.TheVariants as category
use Rattle.go_grammar.specs.declared.kind.Place.{Place}
use Rattle.go_grammar.specs.declared.kind.Place.TheVariants as place
use Rattle.go_grammar.specs.Categories.{place_of, is_expression}
use Rattle.go_grammar.specs.Grammar.{any, rule, Derives, Spells, Goes}
use Rattle.go_grammar.specs.Rules.{Items, Rule, End, Then, Maybe, Unless, Many, item}
use Rattle.go_grammar.specs.Trees.{Tree, node, Trees, none, more, skip, kind_of, first, last}
use Rattle.go_tree.specs.Contexts.{opens}
use Rattle.go_tree.specs.Views.{Tiles}
use Rattle.go_tree.specs.declared.context.Scope.{Scope as Extent}
use Rattle.go_tree.specs.declared.event.Declaration.{Declaration}
use Rattle.go_scopes_events.specs.Scoped.{IsBehind, IsScoped, IsAmong, IsInFunction}
use Rattle.go_scopes_events.proofs.Public.{has_plain, is_plain, rule_plain, all_plain, within_plain, and_both}
use Rattle.go_stmts_defs.specs.Bodies.{based, all_based}
use Rattle.go_stmts_defs.specs.Reading.{is_statement}
use Rattle.go_package_scopes.proofs.Categories.{never, never_true, plain_still, plain_inside, is_calm, calm_inside, is_known, all_known, is_naming, rule_known, still_plain, header_expression, expression_plain}
use Rattle.go_package_scopes.proofs.Ranges.{Set, AllSet, tiles_order}
use Rattle.go_package_scopes.proofs.Roomed.{is_ranging, is_apart, is_silent, is_loop, is_clause, behind, block, room_at, Choice, choice_of, EndsInOperand, Roomed, AllRoomed, LoopRoomed, HeaderRoomed}

-- ---- functions begin with two tokens of their own

abbrev Wide : Kind → ℕ → ℕ → Type 0
Wide kind.FunctionDeclaration i j = suc i < j
Wide k i j = Unit {0}

abbrev mutual
  pub Firm : Tree → Type 0
  Firm (node k i j ps) = Wide k i j × AllFirm ps

  pub AllFirm : Trees → Type 0
  AllFirm none = Unit {0}
  AllFirm (more p ps) = Firm p × AllFirm ps
  AllFirm (skip ps) = AllFirm ps

module _ (ts : List TokenKind) where
  wide : (p : Place) (k : Kind) (i j : ℕ) (ps : Trees) → Spells ts (rule p k) i ps j → Tiles i j ps → Wide k i j
  wide p kind.FunctionDeclaration i j none h t = absurd h
  wide p kind.FunctionDeclaration i j (skip ps) h t = absurd h
  wide p kind.FunctionDeclaration i j (more q ps) h t = let e : suc (suc i) ≡ first q = h.0.1.1 in omega (arith, e, t.1, tiles_order (last q) j ps t.2)
  wide p k i j ps h t = tt

  mutual
    pub derives_firm : (c : Category) (t : Tree) → Derives ts c t → Set t → Firm t
    derives_firm c (node k i j ps) h s = (wide (place_of c) k i j ps h.1 s.1, spells_firm ps (rule (place_of c) k) i j h.1 s.2)

    spells_firm : (ps : Trees) (r : Rule) (i j : ℕ) → Spells ts r i ps j → AllSet ps → AllFirm ps
    spells_firm none r i j h s = tt
    spells_firm (more p ps) (End ws) i j h s = absurd h
    spells_firm (skip ps) (End ws) i j h s = absurd h
    spells_firm (more p ps) (Then ws c r) i j h s = (derives_firm c p h.1 s.0, spells_firm ps r (last p) j h.2 s.1)
    spells_firm (skip ps) (Then ws c r) i j h s = absurd h
    spells_firm (more p ps) (Maybe ws c r) i j h s = (derives_firm c p h.1 s.0, spells_firm ps r (last p) j h.2 s.1)
    spells_firm (skip ps) (Maybe ws c r) i j h s = spells_firm ps r h.0 j h.2 s
    spells_firm (more p ps) (Unless ws c us r) i j h s = (derives_firm c p h.1 s.0, spells_firm ps r (last p) j h.2 s.1)
    spells_firm (skip ps) (Unless ws c us r) i j h s = spells_firm ps r h.0 j h.3 s
    spells_firm (more p ps) (Many ws l) i j h s = (derives_firm (item l) p h.3 s.0, goes_firm ps l (last p) j h.4 s.1)
    spells_firm (skip ps) (Many ws l) i j h s = absurd h

    goes_firm : (ps : Trees) (l : Items) (i j : ℕ) → Goes ts l i ps j → AllSet ps → AllFirm ps
    goes_firm none l i j h s = tt
    goes_firm (more p ps) l i j h s = (derives_firm (item l) p h.3 s.0, goes_firm ps l (last p) j h.4 s.1)
    goes_firm (skip ps) l i j h s = absurd h

-- ---- a declaration stands within its tree

mutual
  pub scoped_within : (e : ℕ) (t : Tree) (d : Declaration) → Set t → Firm t → IsScoped e t d → (first t ≤ d.name) × (d.name < last t)
  scoped_within e (node (kind.Specification declaring.Constant) i j ps) d s f h = (h.0, h.1)
  scoped_within e (node (kind.Specification declaring.Variable) i j ps) d s f h = (h.0, h.1)
  scoped_within e (node (kind.Specification declaring.Type) i j ps) d s f h = let n : d.name ≡ i = h.0 in (omega (arith, n), omega (arith, n, s.0))
  scoped_within e (node kind.Define i j ps) d s f h = (h.0, h.1)
  scoped_within e (node kind.DefiningRange i j ps) d s f h = (h.0, h.1)
  scoped_within e (node kind.FunctionDeclaration i j ps) d s f (inl h) = let n : d.name ≡ suc i = h.0 in let w : suc i < j = f.0 in (omega (arith, n), omega (arith, n, w))
  scoped_within e (node kind.FunctionDeclaration i j ps) d s f (inr h) = function_within i j ps d s.1 s.2 f.1 h
  scoped_within e (node k i j ps) d s f h = among_within (if opens k then j else e) i j ps d s.1 s.2 f.1 h

  pub among_within : (e a j : ℕ) (ps : Trees) (d : Declaration) → Tiles a j ps → AllSet ps → AllFirm ps → IsAmong e ps d → (a ≤ d.name) × (d.name < j)
  among_within e a j none d t s f h = absurd h
  among_within e a j (more p ps) d t s f (inl h) = let w = scoped_within e p d s.0 f.0 h in let o : last p ≤ j = tiles_order (last p) j ps t.2 in (omega (arith, t.0, w.0), omega (arith, w.1, o))
  among_within e a j (more p ps) d t s f (inr h) = let w = among_within e (last p) j ps d t.2 s.1 f.1 h in (omega (arith, t.0, t.1, w.0), w.1)
  among_within e a j (skip ps) d t s f h = among_within e a j ps d t s f h

  pub function_within : (a j : ℕ) (ps : Trees) (d : Declaration) → Tiles a j ps → AllSet ps → AllFirm ps → IsInFunction j ps d → (a ≤ d.name) × (d.name < j)
  function_within a j none d t s f h = absurd h
  function_within a j (more p ps) d t s f (inl h) = let o : last p ≤ j = tiles_order (last p) j ps t.2 in (omega (arith, t.0, h.0), omega (arith, h.1, o))
  function_within a j (more p ps) d t s f (inr h) = let w = among_within j (last p) j ps d t.2 s.1 f.1 h in (omega (arith, t.0, t.1, w.0), w.1)
  function_within a j (skip ps) d t s f h = among_within j a j ps d t s f h

-- ---- what declares nothing

plain_among : (e : ℕ) (k : Kind) (i j : ℕ) (ps : Trees) (d : Declaration) → is_plain k ≡ true → IsScoped e (node k i j ps) d → IsAmong (if opens k then j else e) ps d
plain_among e (kind.Specification declaring.Constant) i j ps d x h = never x
plain_among e (kind.Specification declaring.Variable) i j ps d x h = never x
plain_among e (kind.Specification declaring.Type) i j ps d x h = never x
plain_among e kind.Define i j ps d x h = never x
plain_among e kind.DefiningRange i j ps d x h = never x
plain_among e kind.FunctionDeclaration i j ps d x h = never x
plain_among e k i j ps d x h = h

module _ (ts : List TokenKind) where
  mutual
    pub plain_none : (e : ℕ) (t : Tree) (c : Category) (d : Declaration) → has_plain c ≡ true → Derives ts c t → IsScoped e t d → ⊥
    plain_none e (node k i j ps) c d x g h =
        let y : is_plain k ≡ true = within_plain c k x g.0 in spells_none (if opens k then j else e) ps (rule (place_of c) k) i j d (rule_plain (place_of c) k y) g.1 (plain_among e k i j ps d y h)

    pub spells_none : (e : ℕ) (ps : Trees) (r : Rule) (i j : ℕ) (d : Declaration) → all_plain r ≡ true → Spells ts r i ps j → IsAmong e ps d → ⊥
    spells_none e none r i j d x g h = h
    spells_none e (more p ps) (End ws) i j d x g h = g
    spells_none e (skip ps) (End ws) i j d x g h = g
    spells_none e (more p ps) (Then ws c r) i j d x g (inl h) = plain_none e p c d (and_both (has_plain c) (all_plain r) x).0 g.1 h
    spells_none e (more p ps) (Then ws c r) i j d x g (inr h) = spells_none e ps r (last p) j d (and_both (has_plain c) (all_plain r) x).1 g.2 h
    spells_none e (skip ps) (Then ws c r) i j d x g h = g
    spells_none e (more p ps) (Maybe ws c r) i j d x g (inl h) = plain_none e p c d (and_both (has_plain c) (all_plain r) x).0 g.1 h
    spells_none e (more p ps) (Maybe ws c r) i j d x g (inr h) = spells_none e ps r (last p) j d (and_both (has_plain c) (all_plain r) x).1 g.2 h
    spells_none e (skip ps) (Maybe ws c r) i j d x g h = spells_none e ps r g.0 j d (and_both (has_plain c) (all_plain r) x).1 g.2 h
    spells_none e (more p ps) (Unless ws c us r) i j d x g (inl h) = plain_none e p c d (and_both (has_plain c) (all_plain r) x).0 g.1 h
    spells_none e (more p ps) (Unless ws c us r) i j d x g (inr h) = spells_none e ps r (last p) j d (and_both (has_plain c) (all_plain r) x).1 g.2 h
    spells_none e (skip ps) (Unless ws c us r) i j d x g h = spells_none e ps r g.0 j d (and_both (has_plain c) (all_plain r) x).1 g.3 h
    spells_none e (more p ps) (Many ws l) i j d x g (inl h) = plain_none e p (item l) d x g.3 h
    spells_none e (more p ps) (Many ws l) i j d x g (inr h) = goes_none e ps l (last p) j d x g.4 h
    spells_none e (skip ps) (Many ws l) i j d x g h = g

    goes_none : (e : ℕ) (ps : Trees) (l : Items) (i j : ℕ) (d : Declaration) → has_plain (item l) ≡ true → Goes ts l i ps j → IsAmong e ps d → ⊥
    goes_none e none l i j d x g h = h
    goes_none e (more p ps) l i j d x g (inl h) = plain_none e p (item l) d x g.3 h
    goes_none e (more p ps) l i j d x g (inr h) = goes_none e ps l (last p) j d x g.4 h
    goes_none e (skip ps) l i j d x g h = g

-- ---- rooms

-- The names that are declared so, with their tokens counted from the token b on, have scopes in the room.
abbrev pub Suits : (Declaration → Type 0) → ℕ → Extent → ℕ → Type 0
Suits P b r i = (d : Declaration) → P d → d.name ≡ b + i → (b + i ≤ d.scope.from) × (b + r.from ≤ d.scope.from) × (d.scope.to ≤ b + r.to)

pub suits_lower : (P : Declaration → Type 0) (b : ℕ) (r s : Extent) (n : ℕ) → s.from ≤ r.from → r.to ≤ s.to → Suits P b r n → Suits P b s n
suits_lower P b r s n u v h d p e = let g = h d p e in (g.0, omega (arith, g.1, u), omega (arith, g.2, v))

module _ (P : Declaration → Type 0) (b : ℕ) where
  -- the names at these tokens are declared in the tree, or among the trees
  abbrev pub InTree : ℕ → Tree → Type 0
  InTree e t = (d : Declaration) → P d → first t ≤ d.name → d.name < last t → IsScoped e t d

  abbrev pub InTrees : (e a j : ℕ) → Trees → Type 0
  InTrees e a j ps = (d : Declaration) → P d → a ≤ d.name → d.name < j → IsAmong e ps d

  -- the one part in which a name stands
  pub in_first : (e a j : ℕ) (p : Tree) (ps : Trees) → Tiles a j (more p ps) → AllSet (more p ps) → AllFirm (more p ps) → InTrees e a j (more p ps) → InTree e p
  in_first e a j p ps t s f h d w u v = by (h d w (omega (arith, t.0, u)) (omega (arith, v, tiles_order (last p) j ps t.2)))
    where
      by : IsScoped e p d ⊎ IsAmong e ps d → IsScoped e p d
      by (inl g) = g
      by (inr g) = let x = among_within e (last p) j ps d t.2 s.1 f.1 g in absurd (omega (arith, x.0, v))

  pub in_rest : (e a j : ℕ) (p : Tree) (ps : Trees) → Tiles a j (more p ps) → AllSet (more p ps) → AllFirm (more p ps) → InTrees e a j (more p ps) → InTrees e (last p) j ps
  in_rest e a j p ps t s f h d w u v = by (h d w (omega (arith, t.0, t.1, u)) v)
    where
      by : IsScoped e p d ⊎ IsAmong e ps d → IsAmong e ps d
      by (inl g) = let x = scoped_within e p d s.0 f.0 g in absurd (omega (arith, x.1, u))
      by (inr g) = g

  abbrev D : Extent → ℕ → Type 0
  D = Suits P b

  based_kind : (t : Tree) → kind_of (based b t) ≡ kind_of t
  based_kind (node k i j ps) = refl

  -- a part that is no statement, all of whose tokens have the property
  still_roomed : (r : Extent) (t : Tree) → is_plain (kind_of t) ≡ true → ((n : ℕ) → first t - b ≤ n → n < last t - b → D r n) → Roomed D r (based b t)
  still_roomed r (node k i j ps) x q =
      subst (λ z. Choice z (Choice (is_silent k) (Unit {0}) (Choice (is_loop k) (LoopRoomed D (block (i - b) (j - b)) (all_based b ps)) (AllRoomed D (room_at r k (i - b) (j - b)) (all_based b ps))))
      ((n : ℕ) → i - b ≤ n → n < j - b → D r n))
      (sym (plain_still k x)) q

  still_inside : (t : Tree) → is_plain (kind_of t) ≡ true → is_apart (kind_of (based b t)) ≡ false
  still_inside (node k i j ps) x = plain_inside k x

  module _ (ts : List TokenKind) where
    plain_kind : (c : Category) (t : Tree) → has_plain c ≡ true → Derives ts c t → is_plain (kind_of t) ≡ true
    plain_kind c (node k i j ps) x g = within_plain c k x g.0

    -- ---- parts of a node all of whose names have one scope

    -- the names at these tokens are in scope from one token on
    abbrev AreBehind : (e j a z : ℕ) → Type 0
    AreBehind e j a z = (d : Declaration) → P d → a ≤ d.name → d.name < z → (d.name < j) × (d.scope ≡ record { from = j; to = e })

    behind_suits : (e j a z : ℕ) (r : Extent) → b ≤ a → a ≤ z → z ≤ j → r.from ≡ j - b → r.to + b ≡ e → AreBehind e j a z → (n : ℕ) → a - b ≤ n → n < z - b → D r n
    behind_suits e j a z r u w v f t h n x y d p q =
        let g = h d p (omega (arith, u, x, q)) (omega (arith, u, w, y, q)) in
        let from : d.scope.from ≡ j = ap (λ s. s.from) g.1 in
        let to : d.scope.to ≡ e = ap (λ s. s.to) g.1 in
        (omega (arith, from, q, g.0), omega (arith, from, f, u, w, v), omega (arith, to, t))

    -- each part is of a kind that declares nothing
    abbrev ArePlainKinds : Trees → Type 0
    ArePlainKinds none = Unit {0}
    ArePlainKinds (more p ps) = (is_plain (kind_of p) ≡ true) × ArePlainKinds ps
    ArePlainKinds (skip ps) = ArePlainKinds ps

    plain_items : (l : Items) (i j : ℕ) (ps : Trees) → has_plain (item l) ≡ true → Goes ts l i ps j → ArePlainKinds ps
    plain_items l i j none x g = tt
    plain_items l i j (more p ps) x g = (plain_kind (item l) p x g.3, plain_items l (last p) j ps x g.4)
    plain_items l i j (skip ps) x g = absurd g

    plain_kinds : (R : Rule) (i j : ℕ) (ps : Trees) → all_plain R ≡ true → Spells ts R i ps j → ArePlainKinds ps
    plain_kinds R i j none x g = tt
    plain_kinds (End ws) i j (more p ps) x g = absurd g
    plain_kinds (End ws) i j (skip ps) x g = absurd g
    plain_kinds (Then ws c R) i j (more p ps) x g = let w = and_both (has_plain c) (all_plain R) x in (plain_kind c p w.0 g.1, plain_kinds R (last p) j ps w.1 g.2)
    plain_kinds (Then ws c R) i j (skip ps) x g = absurd g
    plain_kinds (Maybe ws c R) i j (more p ps) x g = let w = and_both (has_plain c) (all_plain R) x in (plain_kind c p w.0 g.1, plain_kinds R (last p) j ps w.1 g.2)
    plain_kinds (Maybe ws c R) i j (skip ps) x g = plain_kinds R g.0 j ps (and_both (has_plain c) (all_plain R) x).1 g.2
    plain_kinds (Unless ws c us R) i j (more p ps) x g = let w = and_both (has_plain c) (all_plain R) x in (plain_kind c p w.0 g.1, plain_kinds R (last p) j ps w.1 g.2)
    plain_kinds (Unless ws c us R) i j (skip ps) x g = plain_kinds R g.0 j ps (and_both (has_plain c) (all_plain R) x).1 g.3
    plain_kinds (Many ws l) i j (more p ps) x g = (plain_kind (item l) p x g.3, plain_items l (last p) j ps x g.4)
    plain_kinds (Many ws l) i j (skip ps) x g = absurd g

    naming_roomed : (e j a : ℕ) (r : Extent) (ps : Trees) → ArePlainKinds ps → b ≤ a → r.from ≡ j - b → r.to + b ≡ e → Tiles a j ps → AllSet ps → AreBehind e j a j → AllRoomed D r (all_based b ps)
    naming_roomed e j a r none x u f v t s h = tt
    naming_roomed e j a r (skip ps) x u f v t s h = naming_roomed e j a r ps x u f v t s h
    naming_roomed e j a r (more p ps) x u f v t s h =
        let o : last p ≤ j = tiles_order (last p) j ps t.2 in (
          still_inside p x.0,
          still_roomed r p x.0 (behind_suits e j (first p) (last p) r (omega (arith, u, t.0)) t.1 o f v (λ d q m n. h d q (omega (arith, t.0, m)) (omega (arith, o, n)))),
          naming_roomed e j (last p) r ps x.1 (omega (arith, u, t.0, t.1)) f v t.2 s.1 (λ d q m n. h d q (omega (arith, t.0, t.1, m)) n),
        )

    -- ---- parts of which more isn't known

    abbrev pub KnownPart : Tree → Type 0
    KnownPart p = (c : Category) × (is_known c ≡ true) × Derives ts c p

    abbrev KnownParts : Trees → Type 0
    KnownParts none = Unit {0}
    KnownParts (more p ps) = KnownPart p × KnownParts ps
    KnownParts (skip ps) = KnownParts ps

    known_items : (l : Items) (i j : ℕ) (ps : Trees) → is_known (item l) ≡ true → Goes ts l i ps j → KnownParts ps
    known_items l i j none x g = tt
    known_items l i j (more p ps) x g = ((item l, x, g.3), known_items l (last p) j ps x g.4)
    known_items l i j (skip ps) x g = absurd g

    known_parts : (R : Rule) (i j : ℕ) (ps : Trees) → all_known R ≡ true → Spells ts R i ps j → KnownParts ps
    known_parts R i j none x g = tt
    known_parts (End ws) i j (more p ps) x g = absurd g
    known_parts (End ws) i j (skip ps) x g = absurd g
    known_parts (Then ws c R) i j (more p ps) x g = let w = and_both (is_known c) (all_known R) x in ((c, w.0, g.1), known_parts R (last p) j ps w.1 g.2)
    known_parts (Then ws c R) i j (skip ps) x g = absurd g
    known_parts (Maybe ws c R) i j (more p ps) x g = let w = and_both (is_known c) (all_known R) x in ((c, w.0, g.1), known_parts R (last p) j ps w.1 g.2)
    known_parts (Maybe ws c R) i j (skip ps) x g = known_parts R g.0 j ps (and_both (is_known c) (all_known R) x).1 g.2
    known_parts (Unless ws c us R) i j (more p ps) x g = let w = and_both (is_known c) (all_known R) x in ((c, w.0, g.1), known_parts R (last p) j ps w.1 g.2)
    known_parts (Unless ws c us R) i j (skip ps) x g = known_parts R g.0 j ps (and_both (is_known c) (all_known R) x).1 g.3
    known_parts (Many ws l) i j (more p ps) x g = ((item l, x, g.3), known_items l (last p) j ps x g.4)
    known_parts (Many ws l) i j (skip ps) x g = absurd g

    pub known_inside : (p : Tree) → KnownPart p → is_apart (kind_of p) ≡ false
    known_inside (node k i j ps) g = by (has_plain g.0) refl
      where
        by : (z : Bool) → has_plain g.0 ≡ z → is_apart k ≡ false
        by true e = plain_inside k (within_plain g.0 k e g.2.0)
        by false e = calm_inside g.0 k (subst (λ z. z || is_calm g.0 ≡ true) e g.1) g.2.0

    pub based_inside : (p : Tree) → is_apart (kind_of p) ≡ false → is_apart (kind_of (based b p)) ≡ false
    based_inside (node k i j ps) e = e

    -- ---- kinds that hold others

    holding_among : (e : ℕ) (k : Kind) (i j : ℕ) (ps : Trees) (d : Declaration) → is_naming k ≡ false → is_apart k ≡ false → IsScoped e (node k i j ps) d → IsAmong (if opens k then j else e) ps d
    holding_among e (kind.Specification declaring.Constant) i j ps d n a h = never_true n
    holding_among e (kind.Specification declaring.Variable) i j ps d n a h = never_true n
    holding_among e (kind.Specification declaring.Type) i j ps d n a h = never_true n
    holding_among e kind.Define i j ps d n a h = never_true n
    holding_among e kind.DefiningRange i j ps d n a h = never_true a
    holding_among e kind.FunctionDeclaration i j ps d n a h = never_true a
    holding_among e k i j ps d n a h = h

    room_end : (e : ℕ) (r : Extent) (k : Kind) (i j : ℕ) → b ≤ j → is_naming k ≡ false → is_loop k ≡ false → r.to + b ≡ e → (room_at r k (i - b) (j - b)).to + b ≡ (if opens k then j else e)
    room_end e r kind.Block i j u n l v = omega (arith, u)
    room_end e r kind.Case i j u n l v = omega (arith, u)
    room_end e r kind.Default i j u n l v = omega (arith, u)
    room_end e r kind.If i j u n l v = omega (arith, u)
    room_end e r kind.Switch i j u n l v = omega (arith, u)
    room_end e r kind.For i j u n l v = never_true l
    room_end e r kind.Define i j u n l v = never_true n
    room_end e r (kind.Specification s) i j u n l v = never_true n
    room_end e r k i j u n l v = v

    node_none : (e : ℕ) (p : Place) (k : Kind) (i j : ℕ) (ps : Trees) (d : Declaration) → is_plain k ≡ true → Spells ts (rule p k) i ps j → IsScoped e (node k i j ps) d → ⊥
    node_none e p k i j ps d x g h = spells_none ts (if opens k then j else e) ps (rule p k) i j d (rule_plain p k x) g (plain_among e k i j ps d x h)

    -- tokens at which nothing is declared
    none_suits : (e : ℕ) (p : Place) (k : Kind) (i j : ℕ) (r : Extent) (ps : Trees) → is_plain k ≡ true → b ≤ i → i ≤ j → Spells ts (rule p k) i ps j → InTree e (node k i j ps) → (n : ℕ) → i - b ≤ n → n < j - b → D r n
    none_suits e p k i j r ps x u v g h n m l d w q = absurd (node_none e p k i j ps d x g (h d w (omega (arith, u, m, q)) (omega (arith, u, v, l, q))))

    naming_plain : (p : Place) (k : Kind) → is_naming k ≡ true → is_apart k ≡ false → all_plain (rule p k) ≡ true
    naming_plain p kind.Define e a = refl
    naming_plain p (kind.Specification declaring.Variable) e a = refl
    naming_plain p (kind.Specification declaring.Constant) e a = never_true a
    naming_plain p (kind.Specification declaring.Type) e a = never_true a
    naming_plain p k e a = never e

    naming_behind : (e : ℕ) (k : Kind) (i j : ℕ) (ps : Trees) (d : Declaration) → is_naming k ≡ true → is_apart k ≡ false → IsScoped e (node k i j ps) d → IsBehind e i j d
    naming_behind e kind.Define i j ps d n a h = h
    naming_behind e (kind.Specification declaring.Variable) i j ps d n a h = h
    naming_behind e (kind.Specification declaring.Constant) i j ps d n a h = never_true a
    naming_behind e (kind.Specification declaring.Type) i j ps d n a h = never_true a
    naming_behind e k i j ps d n a h = never n

    naming_room : (r : Extent) (k : Kind) (i j : ℕ) → is_naming k ≡ true → is_apart k ≡ false → room_at r k i j ≡ behind j r
    naming_room r kind.Define i j n a = refl
    naming_room r (kind.Specification declaring.Variable) i j n a = refl
    naming_room r (kind.Specification declaring.Constant) i j n a = never_true a
    naming_room r (kind.Specification declaring.Type) i j n a = never_true a
    naming_room r k i j n a = never n

    -- ---- range clauses

    ranging_plain : (p : Place) (k : Kind) → is_ranging k ≡ true → all_plain (rule p k) ≡ true
    ranging_plain p kind.Range e = refl
    ranging_plain p kind.AssigningRange e = refl
    ranging_plain p kind.DefiningRange e = refl
    ranging_plain p k e = never e

    ranging_behind : (e : ℕ) (p : Place) (k : Kind) (i j : ℕ) (ps : Trees) (d : Declaration) → is_ranging k ≡ true → Spells ts (rule p k) i ps j → IsScoped e (node k i j ps) d → IsBehind e i j d
    ranging_behind e p kind.Range i j ps d x g h = absurd (spells_none ts e ps (rule p kind.Range) i j d refl g h)
    ranging_behind e p kind.AssigningRange i j ps d x g h = absurd (spells_none ts e ps (rule p kind.AssigningRange) i j d refl g h)
    ranging_behind e p kind.DefiningRange i j ps d x g h = h
    ranging_behind e p k i j ps d x g h = never x

    operand_last : (q : Place) (t : Tree) → Derives ts (any q) t → EndsInOperand (more (based b t) none)
    operand_last q (node k i j ps) g = g.0

    ranging_ends : (p : Place) (k : Kind) (i j : ℕ) (ps : Trees) → is_ranging k ≡ true → Spells ts (rule p k) i ps j → EndsInOperand (all_based b ps)
    ranging_ends p kind.Range i j none x g = absurd g
    ranging_ends p kind.Range i j (skip ps) x g = absurd g
    ranging_ends p kind.Range i j (more y none) x g = operand_last place.Header y g.1
    ranging_ends p kind.Range i j (more y (more z ps)) x g = absurd g.2
    ranging_ends p kind.Range i j (more y (skip ps)) x g = absurd g.2
    ranging_ends p kind.AssigningRange i j none x g = absurd g
    ranging_ends p kind.AssigningRange i j (skip ps) x g = absurd g
    ranging_ends p kind.AssigningRange i j (more y none) x g = absurd g.2
    ranging_ends p kind.AssigningRange i j (more y (skip ps)) x g = absurd g.2
    ranging_ends p kind.AssigningRange i j (more y (more z none)) x g = operand_last place.Header z g.2.1
    ranging_ends p kind.AssigningRange i j (more y (more z (more w ps))) x g = absurd g.2.2
    ranging_ends p kind.AssigningRange i j (more y (more z (skip ps))) x g = absurd g.2.2
    ranging_ends p kind.DefiningRange i j none x g = absurd g
    ranging_ends p kind.DefiningRange i j (skip ps) x g = absurd g
    ranging_ends p kind.DefiningRange i j (more y none) x g = absurd g.2
    ranging_ends p kind.DefiningRange i j (more y (skip ps)) x g = absurd g.2
    ranging_ends p kind.DefiningRange i j (more y (more z none)) x g = operand_last place.Header z g.2.1
    ranging_ends p kind.DefiningRange i j (more y (more z (more w ps))) x g = absurd g.2.2
    ranging_ends p kind.DefiningRange i j (more y (more z (skip ps))) x g = absurd g.2.2
    ranging_ends p k i j ps x g = never x

    clause_known : (p : Place) (k : Kind) → is_clause k ≡ true → all_known (rule p k) ≡ true
    clause_known p kind.ForClause e = refl
    clause_known p kind.InitializedForClause e = refl
    clause_known p k e = never e

    clause_among : (e : ℕ) (k : Kind) (i j : ℕ) (ps : Trees) (d : Declaration) → is_clause k ≡ true → IsScoped e (node k i j ps) d → IsAmong e ps d
    clause_among e kind.ForClause i j ps d x h = h
    clause_among e kind.InitializedForClause i j ps d x h = h
    clause_among e k i j ps d x h = never x

    loop_among : (e : ℕ) (k : Kind) (i j : ℕ) (ps : Trees) (d : Declaration) → is_loop k ≡ true → IsScoped e (node k i j ps) d → IsAmong j ps d
    loop_among e kind.For i j ps d x h = h
    loop_among e k i j ps d x h = never x

    loop_spells : (p : Place) (k : Kind) (i j : ℕ) (ps : Trees) → is_loop k ≡ true → Spells ts (rule p k) i ps j → Spells ts (rule p kind.For) i ps j
    loop_spells p kind.For i j ps x g = g
    loop_spells p k i j ps x g = never x

    block_is : (t : Tree) → Derives ts category.Block t → kind_of (based b t) ≡ kind.Block
    block_is (node kind.Block i j ps) g = refl
    block_is (node k i j ps) g = never g.0

    -- a statement that isn't a loop, where its parts have room if they are no names
    held_roomed : (e : ℕ) (r : Extent) (p : Place) (k : Kind) (i j : ℕ) (ps : Trees) → Spells ts (rule p k) i ps j → Set (node k i j ps) → b ≤ i → r.to + b ≡ e → InTree e (node k i j ps) → is_apart k ≡ false → (z : Bool) → is_naming k ≡ z
        → (is_naming k ≡ false → AllRoomed D (room_at r k (i - b) (j - b)) (all_based b ps)) → AllRoomed D (room_at r k (i - b) (j - b)) (all_based b ps)
    held_roomed e r p k i j ps g s u v h a false n w = w n
    held_roomed e r p k i j ps g s u v h a true n w =
        subst (λ z. AllRoomed D z (all_based b ps)) (sym (naming_room r k (i - b) (j - b) n a))
        (naming_roomed e j i (behind (j - b) r) ps (plain_kinds (rule p k) i j ps (naming_plain p k n a) g) u refl v s.1 s.2 (λ d q m o. let y = naming_behind e k i j ps d n a (h d q m o) in (y.1, y.2)))

    body_end : (a j : ℕ) (y : Tree) → b ≤ a → Tiles a j (more y none) → j - b + b ≡ j
    body_end a j y u t = omega (arith, u, t.0, t.1, t.2)

    -- ---- trees

    mutual
      pub roomed : (e : ℕ) (r : Extent) (c : Category) (t : Tree) → Derives ts c t → Set t → Firm t → b ≤ first t → r.to + b ≡ e → InTree e t → is_apart (kind_of t) ≡ false → Roomed D r (based b t)
      roomed e r c (node k i j ps) g s f u v h a =
          let A : Type 0 = LoopRoomed D (block (i - b) (j - b)) (all_based b ps) in
          let B : Type 0 = AllRoomed D (room_at r k (i - b) (j - b)) (all_based b ps) in
          let C : Type 0 = (n : ℕ) → i - b ≤ n → n < j - b → D r n in
          let w : b ≤ j = omega (arith, u, s.0) in
          choice_of (is_statement k) (Choice (is_silent k) (Unit {0}) (Choice (is_loop k) A B)) C
          (
          λ x. choice_of (is_silent k) (Unit {0}) (Choice (is_loop k) A B) (λ y. tt)
          (
          λ y. choice_of (is_loop k) A B
          (λ z. loop_roomed i j ps (loop_spells (place_of c) k i j ps z g.1) s.1 s.2 f.1 u (λ d p m n. loop_among e k i j ps d z (h d p m n)))
          (
          λ z. held_roomed e r (place_of c) k i j ps g.1 s u v h a (is_naming k) refl
          (
          λ n. parts_roomed (if opens k then j else e) i j (room_at r k (i - b) (j - b)) ps (known_parts (rule (place_of c) k) i j ps (rule_known (place_of c) k x y z a) g.1) s.1 s.2 f.1 u (room_end e r k i j w n z v)
          (λ d q m o. holding_among e k i j ps d n a (h d q m o))
          )
          )
          )
          )
          (λ x. none_suits e (place_of c) k i j r ps (still_plain k x a) u (omega (arith, s.0)) g.1 h)

      parts_roomed : (e a j : ℕ) (r : Extent) (ps : Trees) → KnownParts ps → Tiles a j ps → AllSet ps → AllFirm ps → b ≤ a → r.to + b ≡ e → InTrees e a j ps → AllRoomed D r (all_based b ps)
      parts_roomed e a j r none g t s f u v h = tt
      parts_roomed e a j r (skip ps) g t s f u v h = parts_roomed e a j r ps g t s f u v h
      parts_roomed e a j r (more p ps) g t s f u v h =
          let x : is_apart (kind_of p) ≡ false = known_inside p g.0 in (
            based_inside p x,
            roomed e r g.0.0 p g.0.2 s.0 f.0 (omega (arith, u, t.0)) v (in_first e a j p ps t s f h) x,
            parts_roomed e (last p) j r ps g.1 t.2 s.1 f.1 (omega (arith, u, t.0, t.1)) v (in_rest e a j p ps t s f h),
          )

      loop_roomed : (i j : ℕ) (ps : Trees) → Spells ts (rule place.Free kind.For) i ps j → Tiles i j ps → AllSet ps → AllFirm ps → b ≤ i → InTrees j i j ps → LoopRoomed D (block (i - b) (j - b)) (all_based b ps)
      loop_roomed i j none g t s f u h = absurd g
      loop_roomed i j (skip none) g t s f u h = absurd g.2
      loop_roomed i j (skip (skip ps)) g t s f u h = absurd g.2
      loop_roomed i j (skip (more y (more z ps))) g t s f u h = absurd g.2.2
      loop_roomed i j (skip (more y (skip ps))) g t s f u h = absurd g.2.2
      loop_roomed i j (more x none) g t s f u h = absurd g.2
      loop_roomed i j (more x (skip ps)) g t s f u h = absurd g.2
      loop_roomed i j (more x (more y (more z ps))) g t s f u h = absurd g.2.2
      loop_roomed i j (more x (more y (skip ps))) g t s f u h = absurd g.2.2
      loop_roomed i j (skip (more y none)) g t s f u h =
          (block_is y g.2.1, roomed j (block (i - b) (j - b)) category.Block y g.2.1 s.0 f.0 (omega (arith, u, t.0)) (body_end i j y u t) (in_first j i j y none t s f h) (known_inside y (category.Block, refl, g.2.1)))
      loop_roomed i j (more x (more y none)) g t s f u h =
          let w : b ≤ last x = omega (arith, u, t.0, t.1) in
          let v : j - b + b ≡ j = body_end (last x) j y w t.2 in (
            header_roomed j (block (i - b) (j - b)) x g.1 s.0 f.0 (omega (arith, u, t.0)) v (in_first j i j x (more y none) t s f h),
            (
              block_is y g.2.1,
              roomed j (block (i - b) (j - b)) category.Block y g.2.1 s.1.0 f.1.0 (omega (arith, w, t.2.0)) v (in_first j (last x) j y none t.2 s.1 f.1 (in_rest j i j x (more y none) t s f h)) (known_inside y (category.Block, refl, g.2.1)),
            ),
          )

      header_roomed : (e : ℕ) (r : Extent) (t : Tree) → Derives ts category.ForHeader t → Set t → Firm t → b ≤ first t → r.to + b ≡ e → InTree e t → HeaderRoomed D r (based b t)
      header_roomed e r (node k i j ps) g s f u v h =
          let A : Type 0 = AllRoomed D (behind (j - b) r) (all_based b ps) × EndsInOperand (all_based b ps) in
          let B : Type 0 = AllRoomed D r (all_based b ps) in
          let C : Type 0 = (is_expression k ≡ true) × ((n : ℕ) → i - b ≤ n → n < j - b → D r n) in
          choice_of (is_ranging k) A (Choice (is_clause k) B C)
          (
          λ x. (
            naming_roomed e j i (behind (j - b) r) ps (plain_kinds (rule place.Header k) i j ps (ranging_plain place.Header k x) g.1) u refl v s.1 s.2
                (λ d q m n. let o = ranging_behind e place.Header k i j ps d x g.1 (h d q m n) in (o.1, o.2)),
            ranging_ends place.Header k i j ps x g.1,
          )
          )
          (
          λ x. choice_of (is_clause k) B C
          (λ y. parts_roomed e i j r ps (known_parts (rule place.Header k) i j ps (clause_known place.Header k y) g.1) s.1 s.2 f.1 u v (λ d q m n. clause_among e k i j ps d y (h d q m n)))
          (λ y. let z : is_expression k ≡ true = header_expression k g.0 x y in (z, none_suits e place.Header k i j r ps (expression_plain k z) u (omega (arith, s.0)) g.1 h))
          )
