-- What is named in statements that hold others is in scope, and so in a function, where each token that it is named at is covered.
use Rattle.std.proofs.Common.{◌≡◌, ◌⊎◌, inl, inr, ℕ, zero, suc, ◌<◌, ◌≤◌, Bool, true, false, List, ◌∷◌, Option, Some, refl, arith}
use Rattle.go_tree.specs.declared.context.Scope.{Scope}
use Rattle.go_types.specs.Trees.{TypeTree}
use Rattle.go_types.specs.Relations.{Rights}
use Rattle.go_typed.specs.declared.form.Form.TheVariants as form
use Rattle.go_typed.specs.Trees.{Typed, typed, Typeds, first_of, last_of, form_of}
use Rattle.go_typed.specs.Trees as trees
use Rattle.go_meaning_simulation.specs.Links.{Ways, nowhere, loop_ways, clause_ways}
use Rattle.go_meaning_simulation.specs.Locals.{In}
use Rattle.extract_runs.specs.Lexical.{Locals, lexical_links}
use Rattle.extract_runs.specs.Sound.{SoundStatement, SoundChain}
use Rattle.go_stmts_scopes.specs.Locals.{behind, behind_all, Leads, StatementHas, ListHas, BranchHas, ChoiceHas, ElseHas, SwitchHas, TagHas, ClausesHave, ClauseHas, CaseHas, LoopHas, ConditionHas, NextHas, BodyHas}
use Rattle.go_stmts_scopes.specs.Locals.{RangeHas, FunctionHas}
use Rattle.go_stmts_scopes.specs.Shapes.{is_tail, IsStatement, AreStatements, IsBranch, IsChoice, IsElse, IsSwitch, HasTag, AreClauses, IsClause, IsCase, IsLoop, HasCondition, HasPost, HasBody, IsRange, IsFunction}
use Rattle.go_stmts_scopes.specs.Standing.{Extents, behind_part, Exits, no_exits, exits_in, AreTargets, Stands, AllStand, AnyDeclares, StandsInScope, StandInScope}
use Rattle.go_stmts_scopes.proofs.Shapes.{IsWithin, behind_more, chain, function_scoped}
use Rattle.go_stmts_scopes.proofs.Covered.{sure, none_declared, starts, grows, all_order, all_from, AreKnown, known_in, value_read, values_read}
use Rattle.go_stmts_scopes.proofs.CoveredStatements.{AreMet, IsMet, AllMet, GoesOn, name_from, head_met, tail_met, same_met, alone, value_has, placed, post_has, post_none, names_have, other_has, known_behind, known_parts}
use Rattle.go_stmts_scopes.proofs.CoveredStatements.{first_has, first_out, block_room, define_room, statement_out, clause_out, name_put}

-- where branches may stand they lead to where no other locals are known
record Leaving (ls : Locals) (rights : Rights) (e : Exits) (W : Ways (List ℕ)) (s : List ℕ) : Type 0 where
  breaks : e.breaks ≡ true → (s1 : List ℕ) × (W.breaks ≡ Some s1) × Leads ls rights s s1
  continues : e.continues ≡ true → (s1 : List ℕ) × (W.continues ≡ Some s1) × Leads ls rights s s1
  falls : e.falls ≡ true → (s1 : List ℕ) × (W.falls ≡ Some s1) × Leads ls rights s s1

more_leads : (ls : Locals) (rights : Rights) (o : Option (List ℕ)) (s s' : List ℕ) → IsWithin s s' → (s1 : List ℕ) × (o ≡ Some s1) × Leads ls rights s s1 → (s1 : List ℕ) × (o ≡ Some s1) × Leads ls rights s' s1
more_leads ls rights o s s' w l = (l.0, l.1, record { known = λ k i. w k (l.2.known k i) })

leaving_more : (ls : Locals) (rights : Rights) (e : Exits) (W : Ways (List ℕ)) (s s' : List ℕ) → IsWithin s s' → Leaving ls rights e W s → Leaving ls rights e W s'
leaving_more ls rights e W s s' w l = record {
  breaks = λ q. more_leads ls rights W.breaks s s' w (l.breaks q);
  continues = λ q. more_leads ls rights W.continues s s' w (l.continues q);
  falls = λ q. more_leads ls rights W.falls s s' w (l.falls q);
}

-- in a loop
leaving_loop : (ls : Locals) (rights : Rights) (e : Exits) (W : Ways (List ℕ)) (s : List ℕ) → Leaving ls rights e W s → Leaving ls rights (exits_in e form.For) (loop_ways W s) s
leaving_loop ls rights e W s l = record {
  breaks = λ q. (s, refl, record { known = λ k i. i });
  continues = λ q. (s, refl, record { known = λ k i. i });
  falls = l.falls;
}

-- in a switch
leaving_switch : (ls : Locals) (rights : Rights) (e : Exits) (W : Ways (List ℕ)) (s t : List ℕ) → IsWithin s t → Leaving ls rights e W s → Leaving ls rights (exits_in e form.Switch) (clause_ways W s t) t
leaving_switch ls rights e W s t w l = record {
  breaks = λ q. (s, refl, record { known = w });
  continues = λ q. more_leads ls rights W.continues s t w (l.continues q);
  falls = λ q. (t, refl, record { known = λ k i. i });
}

leaving_nowhere : (ls : Locals) (rights : Rights) (s : List ℕ) → Leaving ls rights no_exits nowhere s
leaving_nowhere ls rights s = record { breaks = λ q. absurd (let z : false ≡ true = q in cc); continues = λ q. absurd (let z : false ≡ true = q in cc); falls = λ q. absurd (let z : false ≡ true = q in cc) }

module _ (ls : Locals) (rights : Rights) (x : Extents) (gone : ℕ → Bool) where
  -- what a node with parts alone declares
  open_met : (i j : ℕ) (s : List ℕ) (ps : Typeds TypeTree) → AreMet ls rights x i j s (λ k. ⊥ ⊎ AnyDeclares k ps) → AllMet ls rights x i j s ps
  open_met i j s ps m k u l c o = by (m k u l c o)
    where
      by : In k s ⊎ (⊥ ⊎ AnyDeclares k ps) → In k s ⊎ AnyDeclares k ps
      by (inl z) = inl z
      by (inr (inl d)) = absurd d
      by (inr (inr d)) = inr d

  -- names and operand of a range clause are in front of where the names are in scope
  operand_behind : (n : ℕ) (r : Scope) (e : Exits) (a b : ℕ) (ps : Typeds TypeTree) → IsRange n ps → AllStand ls rights x r e a b ps → a ≤ behind_part n ps
  operand_behind zero r e a b (trees.more p ps) g h =
      let low : a ≤ first_of p = starts ls rights x r e a b p h.0 in
      let long : first_of p < last_of p = grows ls rights x r e a b p h.0 in
      omega (arith, low, long)
  operand_behind (suc n) r e a b (trees.more p ps) g h =
      let low : a ≤ first_of p = starts ls rights x r e a b p h.0 in
      let long : first_of p < last_of p = grows ls rights x r e a b p h.0 in
      let z : last_of p ≤ behind_part n ps = operand_behind n r e (last_of p) b ps g.1 h.1 in
      omega (arith, low, long, z)
  operand_behind zero r e a b trees.none g h = absurd g
  operand_behind zero r e a b (trees.skip ps) g h = absurd g
  operand_behind (suc n) r e a b trees.none g h = absurd g
  operand_behind (suc n) r e a b (trees.skip ps) g h = absurd g

  body_from : (r : Scope) (e : Exits) (a b k : ℕ) (s : Scope) (ps : Typeds TypeTree) → AllStand ls rights x r e a b ps → AnyDeclares k ps → x k ≡ Some s → a ≤ s.from
  body_from r e a b k s ps h d q = all_from ls rights x r e a b k s ps h d q

  range_from : (n : ℕ) (r : Scope) (e : Exits) (a b k : ℕ) (s : Scope) (ps : Typeds TypeTree) → r.from ≡ behind_part n ps → IsRange n ps → AllStand ls rights x r e a b ps → AnyDeclares k ps → x k ≡ Some s → r.from ≤ s.from
  range_from zero r e a b k s (trees.more p ps) f g h (inl d) q = absurd (none_declared k p g.0 d)
  range_from zero r e a b k s (trees.more p ps) f g h (inr d) q =
      let z : last_of p ≤ s.from = body_from r e (last_of p) b k s ps h.1 d q in
      let v : r.from ≡ last_of p = f in
      omega (arith, z, v)
  range_from (suc n) r e a b k s (trees.more p ps) f g h (inl d) q = name_from ls rights x r e a b k s p g.0 h.0 d q
  range_from (suc n) r e a b k s (trees.more p ps) f g h (inr d) q = range_from n r e (last_of p) b k s ps f g.1 h.1 d q
  range_from zero r e a b k s trees.none f g h d q = absurd g
  range_from zero r e a b k s (trees.skip ps) f g h d q = absurd g
  range_from (suc n) r e a b k s trees.none f g h d q = absurd g
  range_from (suc n) r e a b k s (trees.skip ps) f g h d q = absurd g

  range_within : (n : ℕ) (r : Scope) (e : Exits) (a b : ℕ) (ps : Typeds TypeTree) → IsRange n ps → AllStand ls rights x r e a b ps → behind_part n ps ≤ b
  range_within zero r e a b (trees.more p ps) g h = all_order ls rights x r e (last_of p) b ps h.1
  range_within (suc n) r e a b (trees.more p ps) g h = range_within n r e (last_of p) b ps g.1 h.1
  range_within zero r e a b trees.none g h = absurd g
  range_within zero r e a b (trees.skip ps) g h = absurd g
  range_within (suc n) r e a b trees.none g h = absurd g
  range_within (suc n) r e a b (trees.skip ps) g h = absurd g

  -- a block, or an `if`, leaves as many in scope
  tail_out : (W : Ways (List ℕ)) (s : List ℕ) (r : Scope) (e : Exits) (a b : ℕ) (t : Typed TypeTree) → is_tail (form_of t) ≡ true → IsStatement t → Stands ls rights x r e a b t → GoesOn ls rights x s t
  tail_out W s r e a b (typed form.Block i j l ps) q g h = statement_out ls rights x r e a b s (typed form.Block i j l ps) g h
  tail_out W s r e a b (typed form.If i j l ps) q g h = statement_out ls rights x r e a b s (typed form.If i j l ps) g h
  tail_out W s r e a b (typed f i j l ps) q g h = absurd (let z : false ≡ true = q in cc)

  range_known : (r : Scope) (e : Exits) (a b : ℕ) (q : List ℕ) (p : Typed TypeTree) → Stands ls rights x r e a b p → AreKnown ls rights x a r.from q → AreKnown ls rights x (last_of p) r.from q
  range_known r e a b q p h c =
      let low : a ≤ first_of p = starts ls rights x r e a b p h in
      let long : first_of p < last_of p = grows ls rights x r e a b p h in
      known_in ls rights x a r.from (last_of p) r.from q (let z : a ≤ last_of p = omega (arith, low, long) in z) (let z : r.from ≤ r.from = omega arith in z) c

  -- in front of where the names are in scope nothing is in scope but what was
  range_front : (n : ℕ) (r : Scope) (e : Exits) (a b : ℕ) (s : List ℕ) (ps : Typeds TypeTree) → r.from ≡ behind_part n ps → IsRange n ps → AllStand ls rights x r e a b ps → AllMet ls rights x a b s ps → AreKnown ls rights x a r.from s
  range_front n r e a b s ps f g h m k u l c o =
      let le : behind_part n ps ≤ b = range_within n r e a b ps g h in
      let at : r.from ≡ behind_part n ps = f in
      let lt : u < r.from = c in
      sure (m k u l (let z : u < b = omega (arith, le, at, lt) in z) o) never
    where
      never : AnyDeclares k ps → ⊥
      never d =
          let z : r.from ≤ o.scope.from = range_from n r e a b k o.scope ps f g h d o.is in
          let y : o.scope.from ≤ u = o.begins in
          let w : u < r.from = c in
          omega (arith, z, y, w)

  mutual
    statement_has : (W : Ways (List ℕ)) (s : List ℕ) (r : Scope) (e : Exits) (a b : ℕ) (t : Typed TypeTree) → IsStatement t → Stands ls rights x r e a b t → Leaving ls rights e W s → IsMet ls rights x s t
        → StatementHas ls rights gone W s t
    statement_has W s r e a b (typed form.Expression i j l ps) g h v m = placed ls rights x 0 r e i j s ps g.1 h.6 h.5 (known_parts ls rights x i j s ps g.1 m)
    statement_has W s r e a b (typed (form.Step o) i j l ps) g h v m = placed ls rights x 1 r e i j s ps g.1 h.6 h.5 (known_parts ls rights x i j s ps g.1 m)
    statement_has W s r e a b (typed (form.Assign n) i j l ps) g h v m = placed ls rights x n r e i j s ps g.1 h.6 h.5 (known_parts ls rights x i j s ps g.1 m)
    statement_has W s r e a b (typed (form.Operate o) i j l ps) g h v m = placed ls rights x 1 r e i j s ps g.1 h.6 h.5 (known_parts ls rights x i j s ps g.1 m)
    statement_has W s r e a b (typed form.Return i j l ps) g h v m = (h.4, values_read ls rights x r e i j s ps g.1 h.6 (known_parts ls rights x i j s ps g.1 m))
    statement_has W s r e a b (typed (form.Define n) i j l ps) g h v m =
        names_have ls rights x n (define_room r j) e i j s s ps g.1 h.6 h.5 (λ k z. z) (known_behind ls rights x n (define_room r j) e i j s ps refl g.1 h.6 m)
    statement_has W s r e a b (typed (form.Specified n) i j l ps) g h v m =
        names_have ls rights x n (define_room r j) e i j s s ps g.1 h.6 h.5 (λ k z. z) (known_behind ls rights x n (define_room r j) e i j s ps refl g.1 h.6 m)
    statement_has W s r e a b (typed form.Variables i j l ps) g h v m = list_has W s r e i j ps g.1 h.6 v (open_met i j s ps m)
    statement_has W s r e a b (typed form.Constants i j l ps) g h v m = tt
    statement_has W s r e a b (typed form.TypeNames i j l ps) g h v m = tt
    statement_has W s r e a b (typed form.Break i j l ps) g h v m = v.breaks h.4
    statement_has W s r e a b (typed form.Continue i j l ps) g h v m = v.continues h.4
    statement_has W s r e a b (typed form.Fallthrough i j l ps) g h v m = v.falls h.4
    statement_has W s r e a b (typed form.Block i j l ps) g h v m = list_has W s (block_room i j) e i j ps g.1 h.6 v (open_met i j s ps m)
    statement_has W s r e a b (typed form.If i j l ps) g h v m = branch_has W s (block_room i j) e i j ps g.1 h.6 v (open_met i j s ps m)
    statement_has W s r e a b (typed form.Switch i j l ps) g h v m = switch_has W s (block_room i j) e i j ps g.1 h.6 v (open_met i j s ps m)
    statement_has W s r e a b (typed form.For i j l ps) g h v m = loop_has W s (block_room i j) e i j ps g.1 h.6 v (open_met i j s ps m)
    statement_has W s r e a b (typed (form.Range d n) i j l ps) g h v m =
        let o : AllMet ls rights x i j s ps = open_met i j s ps m in
        range_has W s s n (block_room (behind_part n ps) j) e i j ps refl g.1 h.6 h.5 v (λ k z. z) (range_front n (block_room (behind_part n ps) j) (exits_in e form.For) i j s ps refl g.1 h.6 o) o
    statement_has W s r e a b (typed f i j l ps) g h v m = absurd g

    list_has : (W : Ways (List ℕ)) (s : List ℕ) (r : Scope) (e : Exits) (a b : ℕ) (ps : Typeds TypeTree) → AreStatements ps → AllStand ls rights x r e a b ps → Leaving ls rights e W s → AllMet ls rights x a b s ps
        → ListHas ls rights gone W s ps
    list_has W s r e a b trees.none g h v m = tt
    list_has W s r e a b (trees.more p ps) g h v m = (
      λ out. statement_has W s r e a b p g.0 h.0 v (head_met ls rights x r e a b s p ps h.0 h.1 m),
      list_has W (behind s p) r e (last_of p) b ps g.1 h.1 (leaving_more ls rights e W s (behind s p) (behind_more s p) v)
          (tail_met ls rights x r e a b s (behind s p) p ps h.0 (behind_more s p) (statement_out ls rights x r e a b s p g.0 h.0) m),
    )
    list_has W s r e a b (trees.skip ps) g h v m = list_has W s r e a b ps g h v m

    branch_has : (W : Ways (List ℕ)) (s : List ℕ) (r : Scope) (e : Exits) (a b : ℕ) (ps : Typeds TypeTree) → IsBranch ps → AllStand ls rights x r e a b ps → Leaving ls rights e W s → AllMet ls rights x a b s ps
        → BranchHas ls rights gone W s ps
    branch_has W s r e a b trees.none g h v m = absurd g
    branch_has W s r e a b (trees.more p ps) g h v m = (
      first_has ls rights x r e a b s p g.0 h.0 (head_met ls rights x r e a b s p ps h.0 h.1 m),
      choice_has W (behind s p) r e (last_of p) b ps g.1 h.1 (leaving_more ls rights e W s (behind s p) (behind_more s p) v) (tail_met ls rights x r e a b s (behind s p) p ps h.0 (behind_more s p) (first_out ls rights x s p g.0) m),
    )
    branch_has W s r e a b (trees.skip ps) g h v m = choice_has W s r e a b ps g h v m

    choice_has : (W : Ways (List ℕ)) (s : List ℕ) (r : Scope) (e : Exits) (a b : ℕ) (ps : Typeds TypeTree) → IsChoice ps → AllStand ls rights x r e a b ps → Leaving ls rights e W s → AllMet ls rights x a b s ps
        → ChoiceHas ls rights gone W s ps
    choice_has W s r e a b (trees.more c (trees.more p ps)) g h v m =
        let m1 : AllMet ls rights x (last_of c) b s (trees.more p ps) = same_met ls rights x r e a b s c (trees.more p ps) g.0 h.0 m in
        let m2 : AllMet ls rights x (last_of p) b s ps = tail_met ls rights x r e (last_of c) b s s p ps h.1.0 (λ k i. i) (tail_out W s r e (last_of c) b p g.1.0 g.1.1 h.1.0) m1 in (
          value_has ls rights x r e a b s c g.0 h.0 (head_met ls rights x r e a b s c (trees.more p ps) h.0 h.1 m),
          statement_has W s r e (last_of c) b p g.1.1 h.1.0 v (head_met ls rights x r e (last_of c) b s p ps h.1.0 h.1.1 m1),
          else_has W s r e (last_of p) b ps g.2 h.1.1 v m2,
        )
    choice_has W s r e a b trees.none g h v m = absurd g
    choice_has W s r e a b (trees.skip ps) g h v m = absurd g
    choice_has W s r e a b (trees.more c trees.none) g h v m = absurd g
    choice_has W s r e a b (trees.more c (trees.skip ps)) g h v m = absurd g

    else_has : (W : Ways (List ℕ)) (s : List ℕ) (r : Scope) (e : Exits) (a b : ℕ) (ps : Typeds TypeTree) → IsElse ps → AllStand ls rights x r e a b ps → Leaving ls rights e W s → AllMet ls rights x a b s ps → ElseHas ls rights gone W s ps
    else_has W s r e a b trees.none g h v m = tt
    else_has W s r e a b (trees.more p ps) g h v m = statement_has W s r e a b p g.1 h.0 v (head_met ls rights x r e a b s p ps h.0 h.1 m)
    else_has W s r e a b (trees.skip ps) g h v m = tt

    switch_has : (W : Ways (List ℕ)) (s : List ℕ) (r : Scope) (e : Exits) (a b : ℕ) (ps : Typeds TypeTree) → IsSwitch ps → AllStand ls rights x r (exits_in e form.Switch) a b ps → Leaving ls rights e W s
        → AllMet ls rights x a b s ps → SwitchHas ls rights gone W s ps
    switch_has W s r e a b trees.none g h v m = absurd g
    switch_has W s r e a b (trees.more p ps) g h v m =
        let d : Exits = exits_in e form.Switch in (
          first_has ls rights x r d a b s p g.0 h.0 (head_met ls rights x r d a b s p ps h.0 h.1 m),
          tag_has W s (behind s p) r e (last_of p) b ps g.1 h.1 (behind_more s p) v (tail_met ls rights x r d a b s (behind s p) p ps h.0 (behind_more s p) (first_out ls rights x s p g.0) m),
        )
    switch_has W s r e a b (trees.skip ps) g h v m = tag_has W s s r e a b ps g h (λ k i. i) v m

    tag_has : (W : Ways (List ℕ)) (s t : List ℕ) (r : Scope) (e : Exits) (a b : ℕ) (ps : Typeds TypeTree) → HasTag ps → AllStand ls rights x r (exits_in e form.Switch) a b ps → IsWithin s t → Leaving ls rights e W s
        → AllMet ls rights x a b t ps → TagHas ls rights gone W s t ps
    tag_has W s t r e a b trees.none g h w v m = absurd g
    tag_has W s t r e a b (trees.more p ps) g h w v m =
        let d : Exits = exits_in e form.Switch in (
          value_has ls rights x r d a b t p g.0 h.0 (head_met ls rights x r d a b t p ps h.0 h.1 m),
          clauses_have (clause_ways W s t) t r d (last_of p) b ps g.1 h.1 (leaving_switch ls rights e W s t w v) (same_met ls rights x r d a b t p ps g.0 h.0 m),
        )
    tag_has W s t r e a b (trees.skip ps) g h w v m = clauses_have (clause_ways W s t) t r (exits_in e form.Switch) a b ps g h (leaving_switch ls rights e W s t w v) m

    clauses_have : (W : Ways (List ℕ)) (s : List ℕ) (r : Scope) (e : Exits) (a b : ℕ) (ps : Typeds TypeTree) → AreClauses ps → AllStand ls rights x r e a b ps → Leaving ls rights e W s → AllMet ls rights x a b s ps
        → ClausesHave ls rights gone W s ps
    clauses_have W s r e a b trees.none g h v m = tt
    clauses_have W s r e a b (trees.more p ps) g h v m = (
      clause_has W s r e a b p g.0 h.0 v (head_met ls rights x r e a b s p ps h.0 h.1 m),
      clauses_have W s r e (last_of p) b ps g.1 h.1 v (tail_met ls rights x r e a b s s p ps h.0 (λ k i. i) (clause_out ls rights x r e a b s p g.0 h.0) m),
    )
    clauses_have W s r e a b (trees.skip ps) g h v m = absurd g

    clause_has : (W : Ways (List ℕ)) (s : List ℕ) (r : Scope) (e : Exits) (a b : ℕ) (t : Typed TypeTree) → IsClause t → Stands ls rights x r e a b t → Leaving ls rights e W s → IsMet ls rights x s t → ClauseHas ls rights gone W s t
    clause_has W s r e a b (typed (form.Case n) i j l ps) g h v m = case_has W s n (block_room i j) e i j ps g.1 h.6 v (open_met i j s ps m)
    clause_has W s r e a b (typed form.Default i j l ps) g h v m = list_has W s (block_room i j) e i j ps g.1 h.6 v (open_met i j s ps m)
    clause_has W s r e a b (typed f i j l ps) g h v m = absurd g

    case_has : (W : Ways (List ℕ)) (s : List ℕ) (n : ℕ) (r : Scope) (e : Exits) (a b : ℕ) (ps : Typeds TypeTree) → IsCase n ps → AllStand ls rights x r e a b ps → Leaving ls rights e W s → AllMet ls rights x a b s ps
        → CaseHas ls rights gone W s n ps
    case_has W s zero r e a b trees.none g h v m = tt
    case_has W s zero r e a b (trees.more p ps) g h v m = (
      λ out. statement_has W s r e a b p g.0 h.0 v (head_met ls rights x r e a b s p ps h.0 h.1 m),
      list_has W (behind s p) r e (last_of p) b ps g.1 h.1 (leaving_more ls rights e W s (behind s p) (behind_more s p) v)
          (tail_met ls rights x r e a b s (behind s p) p ps h.0 (behind_more s p) (statement_out ls rights x r e a b s p g.0 h.0) m),
    )
    case_has W s zero r e a b (trees.skip ps) g h v m = list_has W s r e a b ps g h v m
    case_has W s (suc n) r e a b trees.none g h v m = absurd g
    case_has W s (suc n) r e a b (trees.more p ps) g h v m = (
      value_has ls rights x r e a b s p g.0 h.0 (head_met ls rights x r e a b s p ps h.0 h.1 m),
      case_has W s n r e (last_of p) b ps g.1 h.1 v (same_met ls rights x r e a b s p ps g.0 h.0 m),
    )
    case_has W s (suc n) r e a b (trees.skip ps) g h v m = absurd g

    loop_has : (W : Ways (List ℕ)) (s : List ℕ) (r : Scope) (e : Exits) (a b : ℕ) (ps : Typeds TypeTree) → IsLoop ps → AllStand ls rights x r (exits_in e form.For) a b ps → Leaving ls rights e W s
        → AllMet ls rights x a b s ps → LoopHas ls rights gone W s ps
    loop_has W s r e a b trees.none g h v m = absurd g
    loop_has W s r e a b (trees.more p ps) g h v m =
        let d : Exits = exits_in e form.For in (
          first_has ls rights x r d a b s p g.0 h.0 (head_met ls rights x r d a b s p ps h.0 h.1 m),
          condition_has (loop_ways W (behind s p)) (behind s p) r d (last_of p) b ps g.1 h.1 (leaving_loop ls rights e W (behind s p) (leaving_more ls rights e W s (behind s p) (behind_more s p) v))
              (tail_met ls rights x r d a b s (behind s p) p ps h.0 (behind_more s p) (first_out ls rights x s p g.0) m),
        )
    loop_has W s r e a b (trees.skip ps) g h v m = condition_has (loop_ways W s) s r (exits_in e form.For) a b ps g h (leaving_loop ls rights e W s v) m

    condition_has : (W : Ways (List ℕ)) (s : List ℕ) (r : Scope) (e : Exits) (a b : ℕ) (ps : Typeds TypeTree) → HasCondition ps → AllStand ls rights x r e a b ps → Leaving ls rights e W s → AllMet ls rights x a b s ps
        → ConditionHas ls rights gone W s ps
    condition_has W s r e a b trees.none g h v m = absurd g
    condition_has W s r e a b (trees.more p ps) g h v m = (
      value_has ls rights x r e a b s p g.0 h.0 (head_met ls rights x r e a b s p ps h.0 h.1 m),
      next_has W s r e (last_of p) b ps g.1 h.1 v (same_met ls rights x r e a b s p ps g.0 h.0 m),
    )
    condition_has W s r e a b (trees.skip ps) g h v m = next_has W s r e a b ps g h v m

    next_has : (W : Ways (List ℕ)) (s : List ℕ) (r : Scope) (e : Exits) (a b : ℕ) (ps : Typeds TypeTree) → HasPost ps → AllStand ls rights x r e a b ps → Leaving ls rights e W s → AllMet ls rights x a b s ps
        → NextHas ls rights gone W s ps
    next_has W s r e a b trees.none g h v m = absurd g
    next_has W s r e a b (trees.more p ps) g h v m = (
      post_has ls rights x r e a b s p g.0 h.0 (head_met ls rights x r e a b s p ps h.0 h.1 m),
      body_has W s r e (last_of p) b ps g.1 h.1 v (tail_met ls rights x r e a b s s p ps h.0 (λ k i. i) (λ k q d z. absurd (post_none ls rights x k p g.0 d)) m),
    )
    next_has W s r e a b (trees.skip ps) g h v m = body_has W s r e a b ps g h v m

    body_has : (W : Ways (List ℕ)) (s : List ℕ) (r : Scope) (e : Exits) (a b : ℕ) (ps : Typeds TypeTree) → HasBody ps → AllStand ls rights x r e a b ps → Leaving ls rights e W s → AllMet ls rights x a b s ps
        → BodyHas ls rights gone W s ps
    body_has W s r e a b (trees.more p trees.none) g h v m = statement_has W s r e a b p g.1 h.0 v (head_met ls rights x r e a b s p trees.none h.0 h.1 m)
    body_has W s r e a b trees.none g h v m = absurd g
    body_has W s r e a b (trees.skip ps) g h v m = absurd g
    body_has W s r e a b (trees.more p (trees.more q ps)) g h v m = absurd g
    body_has W s r e a b (trees.more p (trees.skip ps)) g h v m = absurd g

    -- q is in scope in front of the names, s behind those that are in front
    range_has : (W : Ways (List ℕ)) (q s : List ℕ) (n : ℕ) (r : Scope) (e : Exits) (a b : ℕ) (ps : Typeds TypeTree) → r.from ≡ behind_part n ps → IsRange n ps → AllStand ls rights x r (exits_in e form.For) a b ps
        → AreTargets ls rights n ps
        → Leaving ls rights e W s → IsWithin q s → AreKnown ls rights x a r.from q → AllMet ls rights x a b s ps → RangeHas ls rights gone W q s n ps
    range_has W q s zero r e a b (trees.more p ps) f g h t v w c m =
        let d : Exits = exits_in e form.For in
        let low : a ≤ first_of p = starts ls rights x r d a b p h.0 in
        let z : last_of p ≤ r.from = let y : r.from ≡ last_of p = f in omega (arith, y) in (
          value_read ls rights x r d (first_of p) (last_of p) q p g.0 (alone ls rights x r d a b p h.0) (known_in ls rights x a r.from (first_of p) (last_of p) q low z c),
          body_has (loop_ways W s) s r d (last_of p) b ps g.1 h.1 (leaving_loop ls rights e W s v) (same_met ls rights x r d a b s p ps g.0 h.0 m),
        )
    range_has W q s (suc n) r e a b (trees.more (typed (form.New k) i j l rs) ps) f g h t v w c m =
        let d : Exits = exits_in e form.For in
        let p : Typed TypeTree = typed (form.New k) i j l rs in (
          h.0.3.1,
          range_has W q (k ∷ s) n r e j b ps f g.1 h.1 t.1 (leaving_more ls rights e W s (k ∷ s) (λ y z. inr z) v) (λ y z. inr (w y z)) (range_known r d a b q p h.0 c)
              (tail_met ls rights x r d a b s (k ∷ s) p ps h.0 (λ y z. inr z) (λ y o z u. inl (name_put ls rights x y s p g.0 z)) m),
        )
    range_has W q s (suc n) r e a b (trees.more (typed (form.Declared k) i j l rs) ps) f g h t v w c m =
        let d : Exits = exits_in e form.For in
        let p : Typed TypeTree = typed (form.Declared k) i j l rs in (
          h.0.3.1,
          range_has W q (k ∷ s) n r e j b ps f g.1 h.1 t.1 (leaving_more ls rights e W s (k ∷ s) (λ y z. inr z) v) (λ y z. inr (w y z)) (range_known r d a b q p h.0 c)
              (tail_met ls rights x r d a b s (k ∷ s) p ps h.0 (λ y z. inr z) (λ y o z u. inl (name_put ls rights x y s p g.0 z)) m),
        )
    range_has W q s (suc n) r e a b (trees.more (typed y i j l rs) ps) f g h t v w c m =
        let d : Exits = exits_in e form.For in
        let p : Typed TypeTree = typed y i j l rs in
        let z : j ≤ r.from = let u : j ≤ behind_part n ps = operand_behind n r d j b ps g.1 h.1 in let o : r.from ≡ behind_part n ps = f in omega (arith, u, o) in
        let low : a ≤ i = h.0.0 in (
          other_has ls rights x r d i j q s p g.0 (alone ls rights x r d a b p h.0) t.0 w (known_in ls rights x a r.from i j q low z c),
          range_has W q s n r e j b ps f g.1 h.1 t.1 v w (range_known r d a b q p h.0 c) (same_met ls rights x r d a b s p ps g.0 h.0 m),
        )
    range_has W q s zero r e a b trees.none f g h t v w c m = absurd g
    range_has W q s zero r e a b (trees.skip ps) f g h t v w c m = absurd g
    range_has W q s (suc n) r e a b trees.none f g h t v w c m = absurd g
    range_has W q s (suc n) r e a b (trees.skip ps) f g h t v w c m = absurd g

  function_has : (s : List ℕ) (t : Typed TypeTree) → IsFunction t → StandsInScope ls rights x s t → FunctionHas ls rights gone nowhere s t
  function_has s (typed form.Function i j l ps) g h = list_has nowhere s (block_room i j) no_exits i j ps g.1 h.names.6 (leaving_nowhere ls rights s) (open_met i j s ps h.declared)
  function_has s (typed f i j l ps) g h = absurd g

  pub function_covered : (local : ℕ → ℕ) (s : List ℕ) (t : Typed TypeTree) → IsFunction t → StandsInScope ls rights x s t → SoundStatement (lexical_links ls) rights local gone nowhere s s t
  function_covered local s t g h = function_scoped ls rights local gone nowhere s t g (function_has s t g h)

  pub window_covered : (local : ℕ → ℕ) (r : Scope) (a b : ℕ) (s : List ℕ) (ps : Typeds TypeTree) → AreStatements ps → StandInScope ls rights x r a b s ps
      → SoundChain (lexical_links ls) rights local gone nowhere s (behind_all s ps) ps
  window_covered local r a b s ps g h = chain ls rights local gone nowhere s ps g (list_has nowhere s r no_exits a b ps g h.names (leaving_nowhere ls rights s) h.declared)
