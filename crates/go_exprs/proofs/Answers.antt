-- The answer in a context, from the answer by itself.
use Rattle.std.proofs.Common.{◌≡◌, List, [], ◌∷◌, ◌++◌, Option, Result, Ok, Err, length, refl, ap, sym, subst, ◌∙◌}
use Rattle.std.specs.Option.{option_map}
use Rattle.go_base.specs.Gives.{Gives}
use Rattle.go_grammar.specs.Trees.{Tree}
use Rattle.go_tokens.specs.Tokens.{TokenList}
use Rattle.go_tree.specs.Failures.{Failure}
use Rattle.go_exprs_rules.specs.declared.fault.TypeFault.{TypeFault}
use Rattle.go_exprs_rules.specs.declared.fault.TypeError as tokens
use Rattle.go_exprs_rules.specs.declared.fault.TypeError.TheVariants as errors
use Rattle.go_exprs_rules.specs.Faults.{least, judged, reported, refusal_of}
use Rattle.go_exprs_rules.specs.Settling.{Part, given}
use Rattle.go_exprs_rules.specs.Scopes.{Scope, value}
use Rattle.go_exprs_rules.specs.Typing.{typing, faults, answer}
use Rattle.go_exprs_engine.proofs.Public.{instead, reported_append, reported_one, judged_ok, judged_err}
use Rattle.go_exprs.specs.declared.error.TypeError.{TypeError}
use Rattle.go_exprs.specs.declared.error.TypeError.TheVariants as error
use Rattle.go_types.specs.Tables.{Table, IsTable, rights_of}
use Rattle.go_types_relations.specs.Extends.{Grows}
use Rattle.go_types_relations.proofs.Public.{tree_stays}
use Rattle.go_exprs.specs.declared.context.Context as program
use Rattle.go_exprs.specs.declared.context.Context.TheVariants as context
use Rattle.go_exprs.specs.Contexts.{Context, wanted, taken, refusing, answer_in, context_seen, KnownContext}
use Rattle.go_scopes.specs.Views.{failure_of}
use Rattle.go_exprs.specs.Expressions.{failure_at, with_bytes, failure_named}

module _ (s : Scope) (c : Context) (t : Tree) where
  abbrev refused_in : List TypeFault
  refused_in = refusing s.rights c (typing s value t)

  last_is : reported (faults s value t ++ refused_in ∷ []) ≡ instead (reported (faults s value t)) (least refused_in)
  last_is = reported_append (faults s value t) (refused_in ∷ []) ∙ ap (instead (reported (faults s value t))) (reported_one refused_in)

  -- a fault in the expression
  pub fails_alone : (f : TypeFault) → answer s value t ≡ Err f → answer_in s c t ≡ Err f
  fails_alone f e =
      let x = given (taken c) (typing s value t) in
      ap (λ o. judged o x) (last_is ∙ ap (λ o. instead o (least refused_in)) (judged_err (reported (faults s value t)) (typing s value t) f e))

  -- none in it: the context is judged
  pub holds_alone : (x : Part) → answer s value t ≡ Ok x → answer_in s c t ≡ judged (least (refusing s.rights c x)) (given (taken c) x)
  holds_alone x e =
      let split = judged_ok (reported (faults s value t)) (typing s value t) x e in
      ap (λ o. judged o (given (taken c) (typing s value t))) (last_is ∙ ap (λ o. instead o (least refused_in)) split.0)
      ∙ ap (λ y. judged (least (refusing s.rights c y)) (given (taken c) y)) split.1

  pub err_in : {X : Type 0} (see : X → Part) (e : tokens.TypeError) (r : Result X tokens.TypeError) → Gives see refusal_of (Err e) (answer s value t) → r ≡ Err e → Gives see refusal_of r (answer_in s c t)
  err_in see errors.Memory r g re = subst (λ z. Gives see refusal_of z (answer_in s c t)) (sym re) tt
  err_in see (errors.Fault f) r g re = subst (λ z. Gives see refusal_of z (answer_in s c t)) (sym re) (fails_alone f g)

-- ---- in a table with more types

module _ (old new : Table) (ok : IsTable old) (g : Grows old new) where
  pub context_stays : (c : program.Context) → KnownContext (length old.shapes) c → context_seen new c ≡ context_seen old c
  context_stays context.None k = refl
  context_stays (context.Wanted i) k = ap wanted (tree_stays old new ok g.extends i k)
  context_stays context.Index k = refl
  context_stays context.Count k = refl

  -- what the context refuses of a value, as it is found in the larger table
  pub judged_there : (s : Scope) → s.rights ≡ rights_of old → (c : program.Context) → KnownContext (length old.shapes) c → (t : Tree) (x : Part) (o : Option TypeFault) → answer s value t ≡ Ok x
      → o ≡ least (refusing (rights_of new) (context_seen new c) x) → answer_in s (context_seen old c) t ≡ judged o (given (taken (context_seen new c)) x)
  judged_there s e c k t x o a is =
      let same : least (refusing s.rights (context_seen old c) x) ≡ o =
      ap (λ r. least (refusing r (context_seen old c) x)) (e ∙ sym g.rights) ∙ ap (λ d. least (refusing (rights_of new) d x)) (sym (context_stays c k)) ∙ sym is in
      holds_alone s (context_seen old c) t x a ∙ ap (λ p. judged p (given (taken (context_seen old c)) x)) same ∙ ap (λ d. judged o (given (taken d) x)) (sym (context_stays c k))

-- ---- faults by bytes

module _ (ts : TokenList) (a b : Scope) (same : a ≡ b) (c d : Context) (also : c ≡ d) (t : Tree) where
  answers_are : answer_in a c t ≡ answer_in b d t
  answers_are = ap (λ s. answer_in s c t) same ∙ ap (λ k. answer_in b k t) also

  pub placed_ok : (x y : Part) → answer_in a c t ≡ Ok x → x ≡ y → with_bytes ts (answer_in b d t) ≡ Ok y
  placed_ok x y e is = ap (with_bytes ts) (sym answers_are ∙ e) ∙ ap (λ z. let r : Result Part Failure = Ok z in r) is

  pub placed_err : {X : Type 0} (see shown : X → Part) (e : tokens.TypeError) (f : TypeError) → Gives see refusal_of (Err e) (answer_in a c t) → failure_named f ≡ option_map (failure_at ts) (refusal_of e) → Gives shown failure_named (Err f) (with_bytes ts (answer_in b d t))
  placed_err see shown errors.Memory error.Memory g is = tt
  placed_err see shown errors.Memory (error.Fault f) g is = cc
  placed_err see shown (errors.Fault h) error.Memory g is = cc
  placed_err see shown (errors.Fault h) (error.Fault f) g is = ap (with_bytes ts) (sym answers_are ∙ g) ∙ ap (λ z. let r : Result Part Failure = Err z in r) (let found : failure_at ts h ≡ failure_of f = cc in found)
