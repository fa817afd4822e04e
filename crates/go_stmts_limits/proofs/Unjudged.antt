-- Where no rule fails, a tree is typed the same where the limit on scalars isn't judged.
use Rattle.std.proofs.Common.{◌≡◌, ℕ, Bool, true, false, cond, List, [], ◌∷◌, ◌++◌, Option, Some, None, refl, sym, ap, subst, ◌∙◌}
use Rattle.std.specs.Prelude.{◌&&◌}
use Rattle.go_base.specs.declared.fault.FaultCode.TheVariants as code
use Rattle.go_grammar.specs.declared.kind.Kind.{Kind}
use Rattle.go_grammar.specs.declared.kind.Kind.TheVariants as kind
use Rattle.go_grammar.specs.Trees.{Tree, node, Trees, none, more, skip, kind_of}
use Rattle.go_types.specs.Relations.{Rights}
use Rattle.go_typed.specs.Trees.{sort_of}
use Rattle.go_exprs_rules.specs.declared.fault.TypeFault.{TypeFault}
use Rattle.go_exprs_rules.specs.Faults.{joined, or_else}
use Rattle.go_exprs_rules.specs.Scopes.{Scope, Hint}
use Rattle.go_exprs_rules.specs.Settling.{Part, at_part, unrepresented}
use Rattle.go_exprs_rules.specs.Sorts.{constant_of, is_constant, is_whole, is_negative, int}
use Rattle.go_exprs_rules.specs.Tables.{Parts, hint, part_scope, on_optional, failing, sort_by, is_judged, placing, own_faults, is_sound, built_by, built, found}
use Rattle.go_exprs_rules.specs.TypeNodes.{length_in, limit_failing, sequence_failing, part_type}
use Rattle.go_exprs_rules.specs.Typing.{typing, typings, faults, faults_of_parts}
use Rattle.go_stmts_limits.specs.Written.{unjudged}

-- ---- lists without faults

front_none : (xs ys : List TypeFault) → xs ++ ys ≡ [] → xs ≡ []
front_none [] ys e = refl
front_none (x ∷ xs) ys e = cc

behind_none : (xs ys : List TypeFault) → xs ++ ys ≡ [] → ys ≡ []
behind_none [] ys e = e
behind_none (x ∷ xs) ys e = cc

none_behind : (xs : List TypeFault) → xs ≡ [] → xs ++ [] ≡ []
none_behind [] e = refl
none_behind (x ∷ xs) e = cc

joined_append : (xs ys : List (List TypeFault)) → joined (xs ++ ys) ≡ joined xs ++ joined ys
joined_append [] ys = refl
joined_append (x ∷ xs) ys = ap (λ l. x ++ l) (joined_append xs ys) ∙ grouped x (joined xs) (joined ys)
  where
    grouped : (a b c : List TypeFault) → a ++ (b ++ c) ≡ (a ++ b) ++ c
    grouped [] b c = refl
    grouped (z ∷ a) b c = ap (λ l. z ∷ l) (grouped a b c)

joined_front : (xs ys : List (List TypeFault)) → joined (xs ++ ys) ≡ [] → joined xs ≡ []
joined_front xs ys e = front_none (joined xs) (joined ys) (sym (joined_append xs ys) ∙ e)

joined_behind : (xs ys : List (List TypeFault)) → joined (xs ++ ys) ≡ [] → joined ys ≡ []
joined_behind xs ys e = behind_none (joined xs) (joined ys) (sym (joined_append xs ys) ∙ e)

else_front : (fs gs : List TypeFault) → or_else fs gs ≡ [] → fs ≡ []
else_front [] gs e = refl
else_front (f ∷ fs) gs e = cc

-- ---- array types

sequence_unjudged : (rights : Rights) (i j : ℕ) (n e : Option Part) → sequence_failing rights true i j n e ≡ [] → sequence_failing rights false i j n e ≡ []
sequence_unjudged rights i j None e z = refl
sequence_unjudged rights i j (Some n) e z =
    by (is_constant (sort_of n) && is_whole rights (sort_of n)) (is_negative (constant_of (sort_of n))) (at_part code.ConstIndex n) (at_part code.Operands n) (unrepresented rights int n) (limit_failing rights true i j (length_in (constant_of (sort_of n))) (part_type e)) z
  where
    by : (b c : Bool) (us vs xs ys : List TypeFault) → cond b (cond c us (xs ++ ys)) vs ≡ [] → cond b (cond c us (xs ++ [])) vs ≡ []
    by true true us vs xs ys q = q
    by true false us vs xs ys q = none_behind xs (front_none xs ys q)
    by false c us vs xs ys q = q

parts_unjudged : (rights : Rights) (i j : ℕ) (ys : Parts) → on_optional [] (sequence_failing rights true i j) ys ≡ [] → on_optional [] (sequence_failing rights false i j) ys ≡ []
parts_unjudged rights i j [] z = refl
parts_unjudged rights i j (x ∷ []) z = refl
parts_unjudged rights i j (x ∷ y ∷ []) z = sequence_unjudged rights i j x y z
parts_unjudged rights i j (x ∷ y ∷ w ∷ ws) z = refl

module _ (s : Scope) (judged : s.limits ≡ true) where
  own_same : (h : Hint) (i j : ℕ) (ys : Parts) → own_faults s kind.SequenceType h i j ys ≡ [] → own_faults (unjudged s) kind.SequenceType h i j ys ≡ own_faults s kind.SequenceType h i j ys
  own_same h i j ys z = by (is_judged ys) (failing s kind.SequenceType h i j ys) (failing (unjudged s) kind.SequenceType h i j ys) z
      (λ e. parts_unjudged s.rights i j ys (subst (λ b. on_optional [] (sequence_failing s.rights b i j) ys ≡ []) judged e))
    where
      by : (b : Bool) (fs gs : List TypeFault) → cond b (or_else fs (placing s kind.SequenceType h i j (sort_by s kind.SequenceType h i j ys))) [] ≡ [] → (fs ≡ [] → gs ≡ [])
          → cond b (or_else gs (placing s kind.SequenceType h i j (sort_by s kind.SequenceType h i j ys))) [] ≡ cond b (or_else fs (placing s kind.SequenceType h i j (sort_by s kind.SequenceType h i j ys))) []
      by true fs gs q f =
          let x = else_front fs (placing s kind.SequenceType h i j (sort_by s kind.SequenceType h i j ys)) q in
          ap (λ l. or_else l (placing s kind.SequenceType h i j (sort_by s kind.SequenceType h i j ys))) (f x ∙ sym x)
      by false fs gs q f = refl

  by_same : (h : Hint) (i j : ℕ) (ys : Parts) (b : Bool) → built_by (unjudged s) kind.SequenceType h i j ys b ≡ built_by s kind.SequenceType h i j ys b
  by_same h i j ys true = refl
  by_same h i j ys false = refl

  node_unjudged : (k : Kind) (h : Hint) (i j : ℕ) (xs : Parts) → found s k h i j xs ≡ [] → built (unjudged s) k h i j xs ≡ built s k h i j xs
  node_unjudged kind.SequenceType h i j xs z =
      by_same h i j xs (is_sound kind.SequenceType xs (own_faults (unjudged s) kind.SequenceType h i j xs)) ∙ ap (λ fs. built_by s kind.SequenceType h i j xs (is_sound kind.SequenceType xs fs)) (own_same h i j xs z)
  node_unjudged k h i j xs z = refl

-- ---- whole trees

scope_unjudged : (s : Scope) (k : Kind) (xs : Parts) → part_scope (unjudged s) k xs ≡ unjudged (part_scope s k xs)
scope_unjudged s kind.SequenceType [] = refl
scope_unjudged s kind.SequenceType (x ∷ xs) = refl
scope_unjudged s k xs = refl

scope_judged : (s : Scope) (k : Kind) (xs : Parts) → s.limits ≡ true → (part_scope s k xs).limits ≡ true
scope_judged s kind.SequenceType [] e = e
scope_judged s kind.SequenceType (x ∷ xs) e = e
scope_judged s k xs e = e

mutual
  pub typing_unjudged : (s : Scope) (h : Hint) (t : Tree) → s.limits ≡ true → joined (faults s h t) ≡ [] → typing (unjudged s) h t ≡ typing s h t
  typing_unjudged s h (node k i j ps) e z =
      let own = found s k h i j (typings s k h ps [] ps) in
      ap (built (unjudged s) k h i j) (typings_unjudged s k h ps [] ps e (joined_front (faults_of_parts s k h ps [] ps) (own ∷ []) z))
      ∙ node_unjudged s e k h i j (typings s k h ps [] ps) (front_none own [] (joined_behind (faults_of_parts s k h ps [] ps) (own ∷ []) z))

  typings_unjudged : (s : Scope) (k : Kind) (h : Hint) (all : Trees) (xs : Parts) (ps : Trees) → s.limits ≡ true → joined (faults_of_parts s k h all xs ps) ≡ [] → typings (unjudged s) k h all xs ps ≡ typings s k h all xs ps
  typings_unjudged s k h all xs none e z = refl
  typings_unjudged s k h all xs (skip ps) e z = typings_unjudged s k h all (xs ++ None ∷ []) ps e z
  typings_unjudged s k h all xs (more p ps) e z =
      let inner = part_scope s k xs in
      let told = hint s k h all xs (kind_of p) in
      let x = typing inner told p in
      let later = faults_of_parts s k h all (xs ++ Some x ∷ []) ps in
      let same : typing (part_scope (unjudged s) k xs) told p ≡ x = ap (λ y. typing y told p) (scope_unjudged s k xs) ∙ typing_unjudged inner told p (scope_judged s k xs e) (joined_front (faults inner told p) later z) in
      ap (λ y. typings (unjudged s) k h all (xs ++ Some y ∷ []) ps) same ∙ typings_unjudged s k h all (xs ++ Some x ∷ []) ps e (joined_behind (faults inner told p) later z)
