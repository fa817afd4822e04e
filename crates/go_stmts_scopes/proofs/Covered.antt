-- What is named in an expression is in scope where each token that it is named at is covered; and where names are in scope that a tree
-- declares.
use Rattle.std.proofs.Common.{◌≡◌, ◌∙◌, ◌⊎◌, inl, inr, ℕ, ◌<◌, ◌≤◌, Bool, true, false, List, Some, refl, ap, arith}
use Rattle.go_tree.specs.declared.context.Scope.{Scope}
use Rattle.go_types.specs.Trees.{TypeTree}
use Rattle.go_types.specs.Relations.{Rights}
use Rattle.go_typed.specs.declared.form.Form.{Form}
use Rattle.go_typed.specs.declared.form.Form.TheVariants as form
use Rattle.go_typed.specs.declared.form.Referent.TheVariants as referent
use Rattle.go_typed.specs.Trees.{Typed, typed, Typeds, first_of, last_of}
use Rattle.go_typed.specs.Trees as trees
use Rattle.go_meaning_simulation.specs.Locals.{In}
use Rattle.extract_runs.specs.Lexical.{Locals}
use Rattle.go_stmts_scopes.specs.Runs.{is_leaf, holds_expressions, IsExpression, AreExpressions, is_given, Unless, LocalHas, EachRead, AllRead, is_part, PlaceHas, EachPlaced, FirstPlaced}
use Rattle.go_stmts_scopes.specs.Scoped.{Reads}
use Rattle.go_stmts_scopes.specs.Standing.{Extents, Covers, NameStands, room_in, Exits, exits_in, IsTarget, is_closed, Stands, AllStand, IsDeclaredBy, Only, Declares, AnyDeclares}

-- ---- tests

pub when_open : (b : Bool) (T : Type 0) → (b ≡ false → T) → Unless b T
when_open true T f = tt
when_open false T f = f refl

pub unless_true : (b : Bool) (T : Type 0) → b ≡ true → Unless b T
unless_true true T e = tt
unless_true false T e = absurd (let z : false ≡ true = e in cc)

pub unless_false : (b : Bool) (T : Type 0) → b ≡ false → Unless b T → T
unless_false true T e h = absurd (let z : true ≡ false = e in cc)
unless_false false T e h = h

pub unless_any : (b : Bool) (T : Type 0) → T → Unless b T
unless_any true T h = tt
unless_any false T h = h

pub both_open : (b : Bool) (T U : Type 0) → Unless b T → Only b U → T × U
both_open true T U h d = absurd d
both_open false T U h d = (h, d)

pub only_true : (b : Bool) (T : Type 0) → b ≡ true → Only b T → ⊥
only_true true T e d = d
only_true false T e d = absurd (let z : false ≡ true = e in cc)

pub only_open : (b : Bool) (T : Type 0) → Only b T → T
only_open true T d = absurd d
only_open false T d = d

pub sure : {A B : Type 0} → A ⊎ B → (B → ⊥) → A
sure (inl a) f = a
sure (inr b) f = absurd (f b)

-- ---- forms

pub leaf_closed : (f : Form) → is_leaf f ≡ true → is_closed f ≡ true
leaf_closed (form.New k) e = refl
leaf_closed (form.Declared k) e = refl
leaf_closed form.Constants e = refl
leaf_closed form.TypeNames e = refl
leaf_closed form.Break e = refl
leaf_closed form.Continue e = refl
leaf_closed form.Fallthrough e = refl
leaf_closed f e = e

pub leaf_declares : (k : ℕ) (f : Form) → is_leaf f ≡ true → IsDeclaredBy k f → ⊥
leaf_declares k (form.New n) e d = absurd (let z : false ≡ true = e in cc)
leaf_declares k (form.Declared n) e d = absurd (let z : false ≡ true = e in cc)
leaf_declares k f e d = d

pub holder_declares : (k : ℕ) (f : Form) → holds_expressions f ≡ true → IsDeclaredBy k f → ⊥
holder_declares k (form.New n) e d = absurd (let z : false ≡ true = e in cc)
holder_declares k (form.Declared n) e d = absurd (let z : false ≡ true = e in cc)
holder_declares k f e d = d

pub holder_open : (f : Form) → holds_expressions f ≡ true → is_closed f ≡ false
holder_open form.Parenthesized e = refl
holder_open (form.Selector n) e = refl
holder_open form.Index e = refl
holder_open form.Slice e = refl
holder_open form.Call e = refl
holder_open form.Conversion e = refl
holder_open form.Composite e = refl
holder_open (form.Unary o) e = refl
holder_open (form.Binary o) e = refl
holder_open (form.Keyed n) e = refl
holder_open f e = absurd (let z : false ≡ true = e in cc)

-- ---- no expression declares a local

mutual
  pub none_declared : (k : ℕ) (t : Typed TypeTree) → IsExpression t → Declares k t → ⊥
  none_declared k (typed f i j l ps) (inl e) (inl d) = leaf_declares k f e d
  none_declared k (typed f i j l ps) (inl e) (inr d) = only_true (is_closed f) (AnyDeclares k ps) (leaf_closed f e) d
  none_declared k (typed f i j l ps) (inr e) (inl d) = holder_declares k f e.0 d
  none_declared k (typed f i j l ps) (inr e) (inr d) = all_none k ps e.1 (only_open (is_closed f) (AnyDeclares k ps) d)

  pub all_none : (k : ℕ) (ps : Typeds TypeTree) → AreExpressions ps → AnyDeclares k ps → ⊥
  all_none k trees.none e d = d
  all_none k (trees.more p ps) e (inl d) = none_declared k p e.0 d
  all_none k (trees.more p ps) e (inr d) = all_none k ps e.1 d
  all_none k (trees.skip ps) e d = all_none k ps e d

module _ (ls : Locals) (rights : Rights) (x : Extents) where
  -- ---- tokens

  pub starts : (r : Scope) (e : Exits) (a b : ℕ) (t : Typed TypeTree) → Stands ls rights x r e a b t → a ≤ first_of t
  starts r e a b (typed f i j l ps) h = h.0

  pub grows : (r : Scope) (e : Exits) (a b : ℕ) (t : Typed TypeTree) → Stands ls rights x r e a b t → first_of t < last_of t
  grows r e a b (typed f i j l ps) h = h.1

  pub ends : (r : Scope) (e : Exits) (a b : ℕ) (t : Typed TypeTree) → Stands ls rights x r e a b t → last_of t ≤ b
  ends r e a b (typed f i j l ps) h = h.2

  pub all_order : (r : Scope) (e : Exits) (a b : ℕ) (ps : Typeds TypeTree) → AllStand ls rights x r e a b ps → a ≤ b
  all_order r e a b trees.none h = h
  all_order r e a b (trees.more p ps) h =
      let s : a ≤ first_of p = starts r e a b p h.0 in
      let g : first_of p < last_of p = grows r e a b p h.0 in
      let o : last_of p ≤ b = all_order r e (last_of p) b ps h.1 in
      omega (arith, s, g, o)
  all_order r e a b (trees.skip ps) h = all_order r e a b ps h

  -- ---- where a declared name is in scope

  pub declared_at : (r : Scope) (b : Bool) (f : Form) (i k : ℕ) (s : Scope) → NameStands ls x r b f i → IsDeclaredBy k f → x k ≡ Some s → (i ≤ s.from) × (r.from ≤ s.from) × (s.to ≤ r.to)
  declared_at r b (form.New n) i k s h d e = h.0 s (ap x d ∙ e)
  declared_at r b (form.Declared n) i k s h d e = h.0 s (ap x d ∙ e)
  declared_at r b f i k s h d e = absurd d

  mutual
    -- none begins in front of the tree
    pub declared_from : (r : Scope) (e : Exits) (a b k : ℕ) (s : Scope) (t : Typed TypeTree) → Stands ls rights x r e a b t → Declares k t → x k ≡ Some s → a ≤ s.from
    declared_from r e a b k s (typed f i j l ps) h (inl d) q =
        let z : i ≤ s.from = (declared_at r (is_given l.sort) f i k s h.3 d q).0 in
        let y : a ≤ i = h.0 in
        omega (arith, z, y)
    declared_from r e a b k s (typed f i j l ps) h (inr d) q =
        let o = both_open (is_closed f) (AllStand ls rights x (room_in r f i j ps) (exits_in e f) i j ps) (AnyDeclares k ps) h.6 d in
        let z : i ≤ s.from = all_from (room_in r f i j ps) (exits_in e f) i j k s ps o.0 o.1 q in
        let y : a ≤ i = h.0 in
        omega (arith, z, y)

    pub all_from : (r : Scope) (e : Exits) (a b k : ℕ) (s : Scope) (ps : Typeds TypeTree) → AllStand ls rights x r e a b ps → AnyDeclares k ps → x k ≡ Some s → a ≤ s.from
    all_from r e a b k s trees.none h d q = absurd d
    all_from r e a b k s (trees.more p ps) h (inl d) q = declared_from r e a b k s p h.0 d q
    all_from r e a b k s (trees.more p ps) h (inr d) q =
        let z : last_of p ≤ s.from = all_from r e (last_of p) b k s ps h.1 d q in
        let y : a ≤ first_of p = starts r e a b p h.0 in
        let g : first_of p < last_of p = grows r e a b p h.0 in
        omega (arith, z, y, g)
    all_from r e a b k s (trees.skip ps) h d q = all_from r e a b k s ps h d q

  room_to : (r : Scope) (f : Form) (i j : ℕ) (ps : Typeds TypeTree) → j ≤ r.to → (j ≤ (room_in r f i j ps).to) × ((room_in r f i j ps).to ≤ r.to)
  room_to r (form.Define n) i j ps h = (h, let z : r.to ≤ r.to = omega arith in z)
  room_to r (form.Specified n) i j ps h = (h, let z : r.to ≤ r.to = omega arith in z)
  room_to r (form.Range d n) i j ps h = (let z : j ≤ j = omega arith in z, h)
  room_to r form.Block i j ps h = (let z : j ≤ j = omega arith in z, h)
  room_to r form.If i j ps h = (let z : j ≤ j = omega arith in z, h)
  room_to r form.Switch i j ps h = (let z : j ≤ j = omega arith in z, h)
  room_to r (form.Case n) i j ps h = (let z : j ≤ j = omega arith in z, h)
  room_to r form.Default i j ps h = (let z : j ≤ j = omega arith in z, h)
  room_to r form.For i j ps h = (let z : j ≤ j = omega arith in z, h)
  room_to r f i j ps h = (h, let z : r.to ≤ r.to = omega arith in z)

  mutual
    -- and none lasts beyond the block
    pub declared_to : (r : Scope) (e : Exits) (a b k : ℕ) (s : Scope) (t : Typed TypeTree) → b ≤ r.to → Stands ls rights x r e a b t → Declares k t → x k ≡ Some s → s.to ≤ r.to
    declared_to r e a b k s (typed f i j l ps) le h (inl d) q = (declared_at r (is_given l.sort) f i k s h.3 d q).2
    declared_to r e a b k s (typed f i j l ps) le h (inr d) q =
        let o = both_open (is_closed f) (AllStand ls rights x (room_in r f i j ps) (exits_in e f) i j ps) (AnyDeclares k ps) h.6 d in
        let y : j ≤ b = h.2 in
        let m = room_to r f i j ps (let z : j ≤ r.to = omega (arith, le, y) in z) in
        let z : s.to ≤ (room_in r f i j ps).to = all_to (room_in r f i j ps) (exits_in e f) i j k s ps m.0 o.0 o.1 q in
        let w : (room_in r f i j ps).to ≤ r.to = m.1 in
        omega (arith, z, w)

    pub all_to : (r : Scope) (e : Exits) (a b k : ℕ) (s : Scope) (ps : Typeds TypeTree) → b ≤ r.to → AllStand ls rights x r e a b ps → AnyDeclares k ps → x k ≡ Some s → s.to ≤ r.to
    all_to r e a b k s trees.none le h d q = absurd d
    all_to r e a b k s (trees.more p ps) le h (inl d) q = declared_to r e a b k s p le h.0 d q
    all_to r e a b k s (trees.more p ps) le h (inr d) q = all_to r e (last_of p) b k s ps le h.1 d q
    all_to r e a b k s (trees.skip ps) le h d q = all_to r e a b k s ps le h d q

  -- ---- expressions

  -- each variable that covers one of these tokens is in scope
  abbrev pub AreKnown : (a b : ℕ) → List ℕ → Type 0
  AreKnown a b s = (k u : ℕ) → a ≤ u → u < b → Covers x k u → In k s

  pub known_in : (a b c d : ℕ) (s : List ℕ) → a ≤ c → d ≤ b → AreKnown a b s → AreKnown c d s
  known_in a b c d s le ge h k u l g o = h k u (let z : a ≤ u = omega (arith, le, l) in z) (let z : u < b = omega (arith, ge, g) in z) o

  local_read : (r : Scope) (s : List ℕ) (b : Bool) (f : Form) (i : ℕ) → b ≡ false → NameStands ls x r b f i → ((k : ℕ) → Covers x k i → In k s) → LocalHas (Reads ls s) f
  local_read r s b (form.Local k) i e h c = let o = unless_false b (Covers x k i × ls.named k) e h in (c k o.0, o.1)
  local_read r s b f i e h c = tt

  mutual
    -- what is read in an expression
    pub value_read : (r : Scope) (e : Exits) (a b : ℕ) (s : List ℕ) (t : Typed TypeTree) → IsExpression t → Stands ls rights x r e a b t → AreKnown a b s → EachRead (Reads ls s) t
    value_read r e a b s (typed f i j l ps) (inl g) h c =
        let low : a ≤ i = h.0 in
        let long : i < j = h.1 in
        let high : j ≤ b = h.2 in
        let at : (k : ℕ) → Covers x k i → In k s = λ k o. c k i low (let z : i < b = omega (arith, long, high) in z) o in
        when_open (is_given l.sort) (LocalHas (Reads ls s) f × Unless (is_leaf f) (AllRead (Reads ls s) ps)) (λ o. (local_read r s (is_given l.sort) f i o h.3 at, unless_true (is_leaf f) (AllRead (Reads ls s) ps) g))
    value_read r e a b s (typed f i j l ps) (inr g) h c =
        let low : a ≤ i = h.0 in
        let long : i < j = h.1 in
        let high : j ≤ b = h.2 in
        let at : (k : ℕ) → Covers x k i → In k s = λ k o. c k i low (let z : i < b = omega (arith, long, high) in z) o in
        let inner = unless_false (is_closed f) (AllStand ls rights x (room_in r f i j ps) (exits_in e f) i j ps) (holder_open f g.0) h.6 in
        let below : AllRead (Reads ls s) ps = values_read (room_in r f i j ps) (exits_in e f) i j s ps g.1 inner (known_in a b i j s low high c) in
        when_open (is_given l.sort) (LocalHas (Reads ls s) f × Unless (is_leaf f) (AllRead (Reads ls s) ps)) (λ o. (local_read r s (is_given l.sort) f i o h.3 at, unless_any (is_leaf f) (AllRead (Reads ls s) ps) below))

    pub values_read : (r : Scope) (e : Exits) (a b : ℕ) (s : List ℕ) (ps : Typeds TypeTree) → AreExpressions ps → AllStand ls rights x r e a b ps → AreKnown a b s → AllRead (Reads ls s) ps
    values_read r e a b s trees.none g h c = tt
    values_read r e a b s (trees.more p ps) g h c =
        let low : a ≤ first_of p = starts r e a b p h.0 in
        let long : first_of p < last_of p = grows r e a b p h.0 in (
          value_read r e a b s p g.0 h.0 c,
          values_read r e (last_of p) b s ps g.1 h.1 (known_in a b (last_of p) b s (let z : a ≤ last_of p = omega (arith, low, long) in z) (let z : b ≤ b = omega arith in z) c),
        )
    values_read r e a b s (trees.skip ps) g h c = values_read r e a b s ps g h c

  -- ---- places

  abbrev AnyLocal : ℕ → Type 0
  AnyLocal k = Unit {0}

  place_has : (r : Scope) (s : List ℕ) (b : Bool) (f : Form) (i : ℕ) → b ≡ false → NameStands ls x r b f i → PlaceHas AnyLocal ls.written f → ((k : ℕ) → Covers x k i → In k s) → PlaceHas (Reads ls s) ls.written f
  place_has r s b (form.Local k) i e h g c = let o = unless_false b (Covers x k i × ls.named k) e h in ((c k o.0, o.1), g.1)
  place_has r s b (form.Object (referent.Variable n)) i e h g c = tt
  place_has r s b (form.Object o) i e h g c = absurd g
  place_has r s b f i e h g c = tt

  mutual
    pub place_read : (r : Scope) (e : Exits) (a b : ℕ) (s : List ℕ) (t : Typed TypeTree) → IsExpression t → Stands ls rights x r e a b t → EachPlaced rights AnyLocal ls.written t → AreKnown a b s
        → EachPlaced rights (Reads ls s) ls.written t
    place_read r e a b s (typed f i j l ps) (inl g) h m c =
        let low : a ≤ i = h.0 in
        let long : i < j = h.1 in
        let high : j ≤ b = h.2 in
        let at : (k : ℕ) → Covers x k i → In k s = λ k o. c k i low (let z : i < b = omega (arith, long, high) in z) o in
        (m.0, place_has r s (is_given l.sort) f i m.0 h.3 m.1 at, unless_true (is_leaf f) (FirstPlaced rights (Reads ls s) ls.written (is_part rights f ps) ps) g)
    place_read r e a b s (typed f i j l ps) (inr g) h m c =
        let low : a ≤ i = h.0 in
        let long : i < j = h.1 in
        let high : j ≤ b = h.2 in
        let at : (k : ℕ) → Covers x k i → In k s = λ k o. c k i low (let z : i < b = omega (arith, long, high) in z) o in
        let inner = unless_false (is_closed f) (AllStand ls rights x (room_in r f i j ps) (exits_in e f) i j ps) (holder_open f g.0) h.6 in
        let below = known_in a b i j s low high c in (
          m.0,
          place_has r s (is_given l.sort) f i m.0 h.3 m.1 at,
          when_open (is_leaf f) (FirstPlaced rights (Reads ls s) ls.written (is_part rights f ps) ps)
              (λ o. first_read (room_in r f i j ps) (exits_in e f) i j s (is_part rights f ps) ps g.1 inner (unless_false (is_leaf f) (FirstPlaced rights AnyLocal ls.written (is_part rights f ps) ps) o m.2) below),
        )

    first_read : (r : Scope) (e : Exits) (a b : ℕ) (s : List ℕ) (part : Bool) (ps : Typeds TypeTree) → AreExpressions ps → AllStand ls rights x r e a b ps → FirstPlaced rights AnyLocal ls.written part ps → AreKnown a b s
        → FirstPlaced rights (Reads ls s) ls.written part ps
    first_read r e a b s true trees.none g h m c = tt
    first_read r e a b s true (trees.more p ps) g h m c =
        let low : a ≤ first_of p = starts r e a b p h.0 in
        let long : first_of p < last_of p = grows r e a b p h.0 in (
          place_read r e a b s p g.0 h.0 m.0 c,
          values_read r e (last_of p) b s ps g.1 h.1 (known_in a b (last_of p) b s (let z : a ≤ last_of p = omega (arith, low, long) in z) (let z : b ≤ b = omega arith in z) c),
        )
    first_read r e a b s true (trees.skip ps) g h m c = values_read r e a b s ps g h c
    first_read r e a b s false ps g h m c = values_read r e a b s ps g h c

  -- a place that is no name which is declared
  pub target_place : (t : Typed TypeTree) → IsExpression t → IsTarget ls rights t → EachPlaced rights AnyLocal ls.written t
  target_place (typed (form.New k) i j l ps) (inl e) h = absurd (let z : false ≡ true = e in cc)
  target_place (typed (form.New k) i j l ps) (inr e) h = absurd (let z : false ≡ true = e.0 in cc)
  target_place (typed (form.Declared k) i j l ps) (inl e) h = absurd (let z : false ≡ true = e in cc)
  target_place (typed (form.Declared k) i j l ps) (inr e) h = absurd (let z : false ≡ true = e.0 in cc)
  target_place (typed f i j l ps) e h = h
