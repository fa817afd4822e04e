-- What is named in a statement is in scope where each token that it is named at is covered.
use Rattle.std.proofs.Common.{◌≡◌, ◌⊎◌, inl, inr, ℕ, zero, suc, ◌<◌, ◌≤◌, true, false, List, ◌∷◌, Some, refl, sym, arith}
use Rattle.go_tree.specs.declared.context.Scope.{Scope}
use Rattle.go_types.specs.Trees.{TypeTree}
use Rattle.go_types.specs.Relations.{Rights}
use Rattle.go_typed.specs.declared.form.Form.TheVariants as form
use Rattle.go_typed.specs.Trees.{Typed, typed, Typeds, first_of, last_of, form_of}
use Rattle.go_typed.specs.Trees as trees
use Rattle.go_meaning_simulation.specs.Locals.{In}
use Rattle.go_stmts_scopes.specs.Locals.{put, behind_names, behind, behind_all, NamesHave, PostHas, FirstHas}
use Rattle.extract_runs.specs.Lexical.{Locals}
use Rattle.go_stmts_scopes.specs.Runs.{IsExpression, AreExpressions, is_given, EachRead, EachPlaced}
use Rattle.go_stmts_scopes.specs.Scoped.{Reads}
use Rattle.go_stmts_scopes.specs.Shapes.{IsName, AreNames, IsPost, IsFirst, IsStatement, AreStatements, IsClause}
use Rattle.go_stmts_scopes.specs.Standing.{Extents, Covers, behind_part, Exits, exits_in, IsTarget, AreTargets, Stands, AllStand, Declares, AnyDeclares}
use Rattle.go_stmts_scopes.specs.Statements.{ArePlaced}
use Rattle.go_stmts_scopes.proofs.Shapes.{IsWithin, names_more, all_more}
use Rattle.go_stmts_scopes.proofs.Covered.{sure, none_declared, all_none, starts, grows, ends, declared_at, all_from, all_to, AreKnown, known_in, value_read, values_read, place_read, target_place}

-- ---- where names are in scope that are declared in a definition, and in a block

abbrev pub define_room : Scope → ℕ → Scope
define_room r j = record { from = j; to = r.to }

abbrev pub block_room : (i j : ℕ) → Scope
block_room i j = record { from = i; to = j }

module _ (ls : Locals) (rights : Rights) (x : Extents) where
  -- ---- names that are declared

  pub name_from : (r : Scope) (e : Exits) (a b k : ℕ) (s : Scope) (t : Typed TypeTree) → IsName t → Stands ls rights x r e a b t → Declares k t → x k ≡ Some s → r.from ≤ s.from
  name_from r e a b k s (typed (form.New n) i j l ps) g h (inl d) q = (declared_at ls rights x r (is_given l.sort) (form.New n) i k s h.3 d q).1
  name_from r e a b k s (typed (form.New n) i j l ps) g h (inr d) q = absurd d
  name_from r e a b k s (typed (form.Declared n) i j l ps) g h (inl d) q = (declared_at ls rights x r (is_given l.sort) (form.Declared n) i k s h.3 d q).1
  name_from r e a b k s (typed (form.Declared n) i j l ps) g h (inr d) q = absurd d
  name_from r e a b k s (typed f i j l ps) g h d q = absurd (none_declared k (typed f i j l ps) g d)

  pub names_from : (n : ℕ) (r : Scope) (e : Exits) (a b k : ℕ) (s : Scope) (ps : Typeds TypeTree) → AreNames n ps → AllStand ls rights x r e a b ps → AnyDeclares k ps → x k ≡ Some s → r.from ≤ s.from
  names_from zero r e a b k s ps g h d q = absurd (all_none k ps g d)
  names_from (suc n) r e a b k s trees.none g h d q = absurd g
  names_from (suc n) r e a b k s (trees.more p ps) g h (inl d) q = name_from r e a b k s p g.0 h.0 d q
  names_from (suc n) r e a b k s (trees.more p ps) g h (inr d) q = names_from n r e (last_of p) b k s ps g.1 h.1 d q
  names_from (suc n) r e a b k s (trees.skip ps) g h d q = absurd g

  pub name_put : (k : ℕ) (s : List ℕ) (t : Typed TypeTree) → IsName t → Declares k t → In k (put (form_of t) s)
  name_put k s (typed (form.New n) i j l ps) g (inl d) = inl (sym d)
  name_put k s (typed (form.New n) i j l ps) g (inr d) = absurd d
  name_put k s (typed (form.Declared n) i j l ps) g (inl d) = inl (sym d)
  name_put k s (typed (form.Declared n) i j l ps) g (inr d) = absurd d
  name_put k s (typed f i j l ps) g d = absurd (none_declared k (typed f i j l ps) g d)

  pub names_out : (n k : ℕ) (s : List ℕ) (ps : Typeds TypeTree) → AreNames n ps → AnyDeclares k ps → In k (behind_names n s ps)
  names_out zero k s ps g d = absurd (all_none k ps g d)
  names_out (suc n) k s trees.none g d = absurd g
  names_out (suc n) k s (trees.more p ps) g (inl d) = names_more n (put (form_of p) s) ps k (name_put k s p g.0 d)
  names_out (suc n) k s (trees.more p ps) g (inr d) = names_out n k (put (form_of p) s) ps g.1 d
  names_out (suc n) k s (trees.skip ps) g d = absurd g

  -- ---- what is known at a part

  -- each variable that covers one of these tokens is in scope, or is declared there
  abbrev pub AreMet : (a b : ℕ) → List ℕ → (ℕ → Type 0) → Type 0
  AreMet a b s D = (k u : ℕ) → a ≤ u → u < b → Covers x k u → In k s ⊎ D k

  abbrev pub IsMet : List ℕ → Typed TypeTree → Type 0
  IsMet s t = AreMet (first_of t) (last_of t) s (λ k. Declares k t)

  abbrev pub AllMet : (a b : ℕ) → List ℕ → Typeds TypeTree → Type 0
  AllMet a b s ps = AreMet a b s (λ k. AnyDeclares k ps)

  -- behind a part these are in scope, or no longer
  abbrev pub GoesOn : List ℕ → Typed TypeTree → Type 0
  GoesOn s t = (k : ℕ) (r : Scope) → Declares k t → x k ≡ Some r → In k s ⊎ (r.to ≤ last_of t)

  pub head_met : (r : Scope) (e : Exits) (a b : ℕ) (s : List ℕ) (p : Typed TypeTree) (ps : Typeds TypeTree) → Stands ls rights x r e a b p → AllStand ls rights x r e (last_of p) b ps → AllMet a b s (trees.more p ps) → IsMet s p
  head_met r e a b s p ps h g m k u l c o =
      let low : a ≤ first_of p = starts ls rights x r e a b p h in
      let high : last_of p ≤ b = ends ls rights x r e a b p h in
      by (m k u (let z : a ≤ u = omega (arith, low, l) in z) (let z : u < b = omega (arith, high, c) in z) o)
    where
      by : In k s ⊎ AnyDeclares k (trees.more p ps) → In k s ⊎ Declares k p
      by (inl i) = inl i
      by (inr (inl d)) = inr d
      by (inr (inr d)) =
          let z : last_of p ≤ o.scope.from = all_from ls rights x r e (last_of p) b k o.scope ps g d o.is in
          let y : o.scope.from ≤ u = o.begins in
          let w : u < last_of p = c in
          absurd (omega (arith, z, y, w))

  pub tail_met : (r : Scope) (e : Exits) (a b : ℕ) (s s' : List ℕ) (p : Typed TypeTree) (ps : Typeds TypeTree) → Stands ls rights x r e a b p → IsWithin s s' → GoesOn s' p → AllMet a b s (trees.more p ps) → AllMet (last_of p) b s' ps
  tail_met r e a b s s' p ps h w g m k u l c o =
      let low : a ≤ first_of p = starts ls rights x r e a b p h in
      let long : first_of p < last_of p = grows ls rights x r e a b p h in
      by (m k u (let z : a ≤ u = omega (arith, low, long, l) in z) c o)
    where
      out : In k s' ⊎ (o.scope.to ≤ last_of p) → In k s' ⊎ AnyDeclares k ps
      out (inl i) = inl i
      out (inr z) =
          let y : u < o.scope.to = o.lasts in
          let v : last_of p ≤ u = l in
          absurd (omega (arith, z, y, v))

      by : In k s ⊎ AnyDeclares k (trees.more p ps) → In k s' ⊎ AnyDeclares k ps
      by (inl i) = inl (w k i)
      by (inr (inl d)) = out (g k o.scope d o.is)
      by (inr (inr d)) = inr d

  -- behind an expression
  pub same_met : (r : Scope) (e : Exits) (a b : ℕ) (s : List ℕ) (p : Typed TypeTree) (ps : Typeds TypeTree) → IsExpression p → Stands ls rights x r e a b p → AllMet a b s (trees.more p ps) → AllMet (last_of p) b s ps
  same_met r e a b s p ps g h m = tail_met r e a b s s p ps h (λ k i. i) (λ k q d z. absurd (none_declared k p g d)) m

  pub known_part : (s : List ℕ) (p : Typed TypeTree) → ((k : ℕ) → Declares k p → ⊥) → IsMet s p → AreKnown ls rights x (first_of p) (last_of p) s
  known_part s p bare m k u l c o = sure (m k u l c o) (bare k)

  -- the tokens of a part alone
  pub alone : (r : Scope) (e : Exits) (a b : ℕ) (t : Typed TypeTree) → Stands ls rights x r e a b t → Stands ls rights x r e (first_of t) (last_of t) t
  alone r e a b (typed f i j l ps) h = (let z : i ≤ i = omega arith in z, h.1, let z : j ≤ j = omega arith in z, h.3, h.4, h.5, h.6)

  pub value_has : (r : Scope) (e : Exits) (a b : ℕ) (s : List ℕ) (p : Typed TypeTree) → IsExpression p → Stands ls rights x r e a b p → IsMet s p → EachRead (Reads ls s) p
  value_has r e a b s p g h m = value_read ls rights x r e (first_of p) (last_of p) s p g (alone r e a b p h) (known_part s p (λ k. none_declared k p g) m)

  -- ---- simple statements

  pub placed : (n : ℕ) (r : Scope) (e : Exits) (a b : ℕ) (s : List ℕ) (ps : Typeds TypeTree) → AreExpressions ps → AllStand ls rights x r e a b ps → AreTargets ls rights n ps → AreKnown ls rights x a b s
      → ArePlaced rights (Reads ls s) ls.written n ps
  placed zero r e a b s trees.none g h m c = tt
  placed (suc n) r e a b s trees.none g h m c = tt
  placed zero r e a b s (trees.more p ps) g h m c =
      let low : a ≤ first_of p = starts ls rights x r e a b p h.0 in
      let long : first_of p < last_of p = grows ls rights x r e a b p h.0 in (
        value_read ls rights x r e a b s p g.0 h.0 c,
        placed zero r e (last_of p) b s ps g.1 h.1 tt (known_in ls rights x a b (last_of p) b s (let z : a ≤ last_of p = omega (arith, low, long) in z) (let z : b ≤ b = omega arith in z) c),
      )
  placed (suc n) r e a b s (trees.more p ps) g h m c =
      let low : a ≤ first_of p = starts ls rights x r e a b p h.0 in
      let long : first_of p < last_of p = grows ls rights x r e a b p h.0 in (
        place_read ls rights x r e a b s p g.0 h.0 (target_place ls rights x p g.0 m.0) c,
        placed n r e (last_of p) b s ps g.1 h.1 m.1 (known_in ls rights x a b (last_of p) b s (let z : a ≤ last_of p = omega (arith, low, long) in z) (let z : b ≤ b = omega arith in z) c),
      )
  placed zero r e a b s (trees.skip ps) g h m c = placed zero r e a b s ps g h tt c
  placed (suc n) r e a b s (trees.skip ps) g h m c = placed n r e a b s ps g h m c

  -- a statement all of whose parts are expressions
  pub known_parts : (i j : ℕ) (s : List ℕ) (ps : Typeds TypeTree) → AreExpressions ps → AreMet i j s (λ k. ⊥ ⊎ AnyDeclares k ps) → AreKnown ls rights x i j s
  known_parts i j s ps g m k u l c o = sure (m k u l c o) never
    where
      never : ⊥ ⊎ AnyDeclares k ps → ⊥
      never (inl d) = d
      never (inr d) = all_none k ps g d

  pub post_has : (r : Scope) (e : Exits) (a b : ℕ) (s : List ℕ) (p : Typed TypeTree) → IsPost p → Stands ls rights x r e a b p → IsMet s p → PostHas ls rights s p
  post_has r e a b s (typed form.Expression i j l ps) g h m = placed 0 r e i j s ps g.2 h.6 h.5 (known_parts i j s ps g.2 m)
  post_has r e a b s (typed (form.Step o) i j l ps) g h m = placed 1 r e i j s ps g.2 h.6 h.5 (known_parts i j s ps g.2 m)
  post_has r e a b s (typed (form.Assign n) i j l ps) g h m = placed n r e i j s ps g.2 h.6 h.5 (known_parts i j s ps g.2 m)
  post_has r e a b s (typed (form.Operate o) i j l ps) g h m = placed 1 r e i j s ps g.2 h.6 h.5 (known_parts i j s ps g.2 m)
  post_has r e a b s (typed f i j l ps) g h m = absurd (let z : false ≡ true = g.1 in cc)

  pub post_none : (k : ℕ) (p : Typed TypeTree) → IsPost p → Declares k p → ⊥
  post_none k (typed form.Expression i j l ps) g (inl d) = d
  post_none k (typed form.Expression i j l ps) g (inr d) = all_none k ps g.2 d
  post_none k (typed (form.Step o) i j l ps) g (inl d) = d
  post_none k (typed (form.Step o) i j l ps) g (inr d) = all_none k ps g.2 d
  post_none k (typed (form.Assign n) i j l ps) g (inl d) = d
  post_none k (typed (form.Assign n) i j l ps) g (inr d) = all_none k ps g.2 d
  post_none k (typed (form.Operate o) i j l ps) g (inl d) = d
  post_none k (typed (form.Operate o) i j l ps) g (inr d) = all_none k ps g.2 d
  post_none k (typed f i j l ps) g d = absurd (let z : false ≡ true = g.1 in cc)

  -- ---- definitions and specifications

  -- a name that is declared already
  pub other_has : (r : Scope) (e : Exits) (a b : ℕ) (q s : List ℕ) (t : Typed TypeTree) → IsExpression t → Stands ls rights x r e a b t → IsTarget ls rights t → IsWithin q s → AreKnown ls rights x a b q
      → EachPlaced rights (Reads ls q) ls.written t × EachPlaced rights (Reads ls s) ls.written t
  other_has r e a b q s t g h m w c = (place_read ls rights x r e a b q t g h (target_place ls rights x t g m) c, place_read ls rights x r e a b s t g h (target_place ls rights x t g m) (λ k u l z o. w k (c k u l z o)))

  pub names_have : (n : ℕ) (r : Scope) (e : Exits) (a b : ℕ) (q s : List ℕ) (ps : Typeds TypeTree) → AreNames n ps → AllStand ls rights x r e a b ps → AreTargets ls rights n ps → IsWithin q s → AreKnown ls rights x a b q
      → NamesHave ls rights n q s ps
  names_have zero r e a b q s ps g h m w c = values_read ls rights x r e a b q ps g h c
  names_have (suc n) r e a b q s trees.none g h m w c = absurd g
  names_have (suc n) r e a b q s (trees.skip ps) g h m w c = absurd g
  names_have (suc n) r e a b q s (trees.more (typed (form.New k) i j l ps) qs) g h m w c =
      let low : a ≤ i = h.0.0 in
      let long : i < j = h.0.1 in (
        h.0.3.1,
        names_have n r e j b q (k ∷ s) qs g.1 h.1 m.1 (λ y z. inr (w y z)) (known_in ls rights x a b j b q (let z : a ≤ j = omega (arith, low, long) in z) (let z : b ≤ b = omega arith in z) c),
      )
  names_have (suc n) r e a b q s (trees.more (typed (form.Declared k) i j l ps) qs) g h m w c =
      let low : a ≤ i = h.0.0 in
      let long : i < j = h.0.1 in (
        h.0.3.1,
        names_have n r e j b q (k ∷ s) qs g.1 h.1 m.1 (λ y z. inr (w y z)) (known_in ls rights x a b j b q (let z : a ≤ j = omega (arith, low, long) in z) (let z : b ≤ b = omega arith in z) c),
      )
  names_have (suc n) r e a b q s (trees.more (typed f i j l ps) qs) g h m w c =
      let low : a ≤ i = h.0.0 in
      let long : i < j = h.0.1 in (
        other_has r e a b q s (typed f i j l ps) g.0 h.0 m.0 w c,
        names_have n r e j b q s qs g.1 h.1 m.1 w (known_in ls rights x a b j b q (let z : a ≤ j = omega (arith, low, long) in z) (let z : b ≤ b = omega arith in z) c),
      )

  -- names that are declared aren't in scope in front of the end of the statement
  pub known_behind : (n : ℕ) (r : Scope) (e : Exits) (i j : ℕ) (s : List ℕ) (ps : Typeds TypeTree) → r.from ≡ j → AreNames n ps → AllStand ls rights x r e i j ps → AreMet i j s (λ k. ⊥ ⊎ AnyDeclares k ps) → AreKnown ls rights x i j s
  known_behind n r e i j s ps q g h m k u l c o = sure (m k u l c o) never
    where
      never : ⊥ ⊎ AnyDeclares k ps → ⊥
      never (inl d) = d
      never (inr d) =
          let z : r.from ≤ o.scope.from = names_from n r e i j k o.scope ps g h d o.is in
          let y : o.scope.from ≤ u = o.begins in
          let w : u < j = c in
          let v : r.from ≡ j = q in
          absurd (omega (arith, z, y, w, v))

  pub first_has : (r : Scope) (e : Exits) (a b : ℕ) (s : List ℕ) (p : Typed TypeTree) → IsFirst p → Stands ls rights x r e a b p → IsMet s p → FirstHas ls rights s p
  first_has r e a b s (typed (form.Define n) i j l ps) g h m = names_have n (define_room r j) e i j s s ps g.1 h.6 h.5 (λ k z. z) (known_behind n (define_room r j) e i j s ps refl g.1 h.6 m)
  first_has r e a b s (typed f i j l ps) g h m = post_has r e a b s (typed f i j l ps) g h m

  -- what is declared in front of a condition is in scope behind it
  pub first_out : (s : List ℕ) (p : Typed TypeTree) → IsFirst p → GoesOn (behind s p) p
  first_out s (typed (form.Define n) i j l ps) g k r (inl d) q = absurd d
  first_out s (typed (form.Define n) i j l ps) g k r (inr d) q = inl (names_out n k s ps g.1 d)
  first_out s (typed f i j l ps) g k r d q = absurd (post_none k (typed f i j l ps) g d)

  -- ---- what is declared in a statement

  pub opened : (r : Scope) (e : Exits) (i j k : ℕ) (s : Scope) (ps : Typeds TypeTree) → r.to ≡ j → AllStand ls rights x r e i j ps → ⊥ ⊎ AnyDeclares k ps → x k ≡ Some s → s.to ≤ j
  opened r e i j k s ps t h (inl d) q = absurd d
  opened r e i j k s ps t h (inr d) q =
      let v : r.to ≡ j = t in
      let le : j ≤ r.to = omega (arith, v) in
      let z : s.to ≤ r.to = all_to ls rights x r e i j k s ps le h d q in
      omega (arith, z, v)

  mutual
    pub statement_out : (r : Scope) (e : Exits) (a b : ℕ) (s : List ℕ) (t : Typed TypeTree) → IsStatement t → Stands ls rights x r e a b t → GoesOn (behind s t) t
    statement_out r e a b s (typed form.Expression i j l ps) g h k q (inl d) o = absurd d
    statement_out r e a b s (typed form.Expression i j l ps) g h k q (inr d) o = absurd (all_none k ps g.1 d)
    statement_out r e a b s (typed (form.Step z) i j l ps) g h k q (inl d) o = absurd d
    statement_out r e a b s (typed (form.Step z) i j l ps) g h k q (inr d) o = absurd (all_none k ps g.1 d)
    statement_out r e a b s (typed (form.Assign n) i j l ps) g h k q (inl d) o = absurd d
    statement_out r e a b s (typed (form.Assign n) i j l ps) g h k q (inr d) o = absurd (all_none k ps g.1 d)
    statement_out r e a b s (typed (form.Operate z) i j l ps) g h k q (inl d) o = absurd d
    statement_out r e a b s (typed (form.Operate z) i j l ps) g h k q (inr d) o = absurd (all_none k ps g.1 d)
    statement_out r e a b s (typed form.Return i j l ps) g h k q (inl d) o = absurd d
    statement_out r e a b s (typed form.Return i j l ps) g h k q (inr d) o = absurd (all_none k ps g.1 d)
    statement_out r e a b s (typed (form.Define n) i j l ps) g h k q (inl d) o = absurd d
    statement_out r e a b s (typed (form.Define n) i j l ps) g h k q (inr d) o = inl (names_out n k s ps g.1 d)
    statement_out r e a b s (typed (form.Specified n) i j l ps) g h k q (inl d) o = absurd d
    statement_out r e a b s (typed (form.Specified n) i j l ps) g h k q (inr d) o = inl (names_out n k s ps g.1 d)
    statement_out r e a b s (typed form.Variables i j l ps) g h k q (inl d) o = absurd d
    statement_out r e a b s (typed form.Variables i j l ps) g h k q (inr d) o = all_out r e i j s ps g.1 h.6 k q d o
    statement_out r e a b s (typed form.Constants i j l ps) g h k q (inl d) o = absurd d
    statement_out r e a b s (typed form.Constants i j l ps) g h k q (inr d) o = absurd d
    statement_out r e a b s (typed form.TypeNames i j l ps) g h k q (inl d) o = absurd d
    statement_out r e a b s (typed form.TypeNames i j l ps) g h k q (inr d) o = absurd d
    statement_out r e a b s (typed form.Break i j l ps) g h k q (inl d) o = absurd d
    statement_out r e a b s (typed form.Break i j l ps) g h k q (inr d) o = absurd d
    statement_out r e a b s (typed form.Continue i j l ps) g h k q (inl d) o = absurd d
    statement_out r e a b s (typed form.Continue i j l ps) g h k q (inr d) o = absurd d
    statement_out r e a b s (typed form.Fallthrough i j l ps) g h k q (inl d) o = absurd d
    statement_out r e a b s (typed form.Fallthrough i j l ps) g h k q (inr d) o = absurd d
    statement_out r e a b s (typed form.Block i j l ps) g h k q d o = inr (opened (block_room i j) e i j k q ps refl h.6 d o)
    statement_out r e a b s (typed form.If i j l ps) g h k q d o = inr (opened (block_room i j) e i j k q ps refl h.6 d o)
    statement_out r e a b s (typed form.Switch i j l ps) g h k q d o = inr (opened (block_room i j) (exits_in e form.Switch) i j k q ps refl h.6 d o)
    statement_out r e a b s (typed form.For i j l ps) g h k q d o = inr (opened (block_room i j) (exits_in e form.For) i j k q ps refl h.6 d o)
    statement_out r e a b s (typed (form.Range v n) i j l ps) g h k q d o = inr (opened (block_room (behind_part n ps) j) (exits_in e (form.Range v n)) i j k q ps refl h.6 d o)
    statement_out r e a b s (typed f i j l ps) g h k q d o = absurd g

    pub all_out : (r : Scope) (e : Exits) (a b : ℕ) (s : List ℕ) (ps : Typeds TypeTree) → AreStatements ps → AllStand ls rights x r e a b ps → (k : ℕ) (q : Scope) → AnyDeclares k ps → x k ≡ Some q → In k (behind_all s ps) ⊎ (q.to ≤ b)
    all_out r e a b s trees.none g h k q d o = absurd d
    all_out r e a b s (trees.more p ps) g h k q (inl d) o = by (statement_out r e a b s p g.0 h.0 k q d o)
      where
        by : In k (behind s p) ⊎ (q.to ≤ last_of p) → In k (behind_all (behind s p) ps) ⊎ (q.to ≤ b)
        by (inl i) = inl (all_more (behind s p) ps k i)
        by (inr z) = let y : last_of p ≤ b = ends ls rights x r e a b p h.0 in inr (let w : q.to ≤ b = omega (arith, z, y) in w)
    all_out r e a b s (trees.more p ps) g h k q (inr d) o = all_out r e (last_of p) b (behind s p) ps g.1 h.1 k q d o
    all_out r e a b s (trees.skip ps) g h k q d o = all_out r e a b s ps g h k q d o

  -- a clause of a switch declares nothing behind it
  pub clause_out : (r : Scope) (e : Exits) (a b : ℕ) (s : List ℕ) (t : Typed TypeTree) → IsClause t → Stands ls rights x r e a b t → GoesOn s t
  clause_out r e a b s (typed (form.Case n) i j l ps) g h k q d o = inr (opened (block_room i j) e i j k q ps refl h.6 d o)
  clause_out r e a b s (typed form.Default i j l ps) g h k q d o = inr (opened (block_room i j) e i j k q ps refl h.6 d o)
  clause_out r e a b s (typed f i j l ps) g h k q d o = absurd g
