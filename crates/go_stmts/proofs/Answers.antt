-- What is answered of what the walk leaves.
use Rattle.std.proofs.Common.{◌≡◌, ℕ, List, [], length, Option, Result, Ok, Err, refl, ap, sym, subst, ◌∙◌}
use Rattle.go_base.specs.Gives.{Gives}
use Rattle.go_grammar.specs.Trees.{Tree, last}
use Rattle.go_types.specs.Tables.{Table, IsTable}
use Rattle.go_types_relations.specs.Extends.{Grows}
use Rattle.go_typed.specs.declared.node.TypedNode.{TypedNode}
use Rattle.go_typed.specs.declared.sort.Sort as program
use Rattle.go_typed.specs.Contents.{FuncContent}
use Rattle.go_typed.specs.Views.{seen}
use Rattle.go_exprs_rules.specs.declared.fault.TypeError.{TypeError}
use Rattle.go_exprs_rules.specs.declared.fault.TypeError.TheVariants as errors
use Rattle.go_exprs_rules.specs.declared.fault.TypeFault.{TypeFault}
use Rattle.go_exprs_rules.specs.Faults.{judged, reported, refusal_of}
use Rattle.go_exprs_rules.specs.Scopes.{Scope, free}
use Rattle.go_exprs_rules.specs.Settling.{Part}
use Rattle.go_stmts_defs.specs.Bodies.{start, signature_of, function_read, answer_of, body_answer}
use Rattle.go_stmts_defs.specs.Reading.{Reading, read, reading}
use Rattle.go_stmts.specs.declared.state.Surroundings.{Surroundings}
use Rattle.go_stmts.specs.declared.state.State.{State}
use Rattle.go_stmts.specs.Walks.{IsReading, ShowsReading, found_in, tree_in, frame_in}
use Rattle.go_stmts.specs.declared.body.Walked.{Walked}
use Rattle.go_stmts.specs.Bodies.{scope_around, function_scope, KnownObjects, IsWalked, ShowsWalked, variables_answer}
use Rattle.go_stmts.proofs.Around.{alone_is}

-- ---- the walk from the start

module _ (t : Table) (o : Surroundings) (k : State) (x : program.Sort) (rs : List ℕ) (r : Reading) where
  pub walked_err : (e : TypeError) (a : Result Walked TypeError) → IsReading t o k x rs (Err e) r → a ≡ Err e → IsWalked t a r
  walked_err e a h is = subst (λ z. IsWalked t z r) (sym is) (told e h)
    where
      told : (e : TypeError) → IsReading t o k x rs (Err e) r → IsWalked t (Err e) r
      told errors.Memory h = tt
      told (errors.Fault f) h = h

  pub walked_ok : (n : TypedNode) → ShowsReading t o k x rs n r → ShowsWalked t (record { root = n; locals = k.locals }) r
  walked_ok n h = record { sound = h.sound; tree = h.tree; locals = h.behind.locals; rights = ap (λ (s : Scope). s.rights) h.behind.names }

-- ---- variables

-- from the scope around the body, where there are no types of its own
pub walked_there : (old new : Table) (ok : IsTable old) (g : Grows old new) (o : Surroundings) → KnownObjects (length old.shapes) o.env.now → o.types.now ≡ [] → (t : Table) (a : Result Walked TypeError) (x y : Tree) → y ≡ x
    → IsWalked t a (reading (start (scope_around new o) 0 (λ n. n)) free y) → IsWalked t a (reading (start (function_scope old o.tokens.now o.uses.now o.env.now o.base []) 0 (λ n. n)) free x)
walked_there old new ok g o objects none t a x y is h =
    subst (λ s. IsWalked t a (reading (start s 0 (λ n. n)) free x)) (alone_is old new ok g.extends o objects g.rights)
    (subst (λ z. IsWalked t a (reading (start (scope_around new o) 0 (λ n. n)) free z)) is h)

module _ (t : Table) (r : Reading) where
  pub variables_err : (e : TypeError) (a : Result TypedNode TypeError) → IsWalked t (Err e) r → a ≡ Err e → Gives (seen t) refusal_of a (variables_answer r)
  variables_err e a h is = subst (λ z. Gives (seen t) refusal_of z (variables_answer r)) (sym is) (told e h)
    where
      told : (e : TypeError) → IsWalked t (Err e) r → Gives (seen t) refusal_of (Err e) (variables_answer r)
      told errors.Memory h = tt
      told (errors.Fault g) h = ap (λ z. judged z (tree_in r)) h

  pub variables_ok : (w : Walked) → ShowsWalked t w r → variables_answer r ≡ Ok (seen t w.root)
  variables_ok w h = ap (λ z. judged z (tree_in r)) h.sound ∙ ap Ok (sym h.tree)

-- ---- the function

opened : (s : Scope) (number : ℕ) (t : Tree) (r : Reading) → answer_of s number t r ≡ judged (reported (found_in r)) (function_read s number (last t) (signature_of s t) (tree_in r) (frame_in r))
opened s number t (read x fs b) = refl

module _ (t : Table) (s around : Scope) (same : around ≡ s) (number count : ℕ) (own : ℕ → ℕ) (tree : Tree) where
  abbrev there : Reading
  there = reading (start s count own) free tree

  pub answered_err : {X : Type 0} (f : X → FuncContent) (e : TypeError) (a : Result X TypeError) → IsWalked t (Err e) (reading (start around count own) free tree) → a ≡ Err e → Gives f refusal_of a (body_answer s number count own tree)
  answered_err {X} f e a h is = subst (λ z. Gives f refusal_of z (body_answer s number count own tree)) (sym is) (told e (subst (λ z. IsWalked t (Err e) (reading (start z count own) free tree)) same h))
    where
      told : (e : TypeError) → IsWalked t (Err e) there → Gives f refusal_of (Err e) (body_answer s number count own tree)
      told errors.Memory h = tt
      told (errors.Fault g) h = opened s number tree there ∙ ap (λ z. judged z (function_read s number (last tree) (signature_of s tree) (tree_in there) (frame_in there))) h

  pub shown_there : (w : Walked) → ShowsWalked t w (reading (start around count own) free tree) → ShowsWalked t w there
  shown_there w h = subst (λ z. ShowsWalked t w (reading (start z count own) free tree)) same h

  pub answered_ok : (w : Walked) → ShowsWalked t w there → (f : FuncContent) (n : ℕ) (g : Option Part) → f ≡ function_read s number n g (seen t w.root) (frame_in there) → n ≡ last tree → g ≡ signature_of s tree → body_answer s number count own tree ≡ Ok f
  answered_ok w h f n g is at signature =
      opened s number tree there
      ∙ ap (λ z. judged z (function_read s number (last tree) (signature_of s tree) (tree_in there) (frame_in there))) h.sound
      ∙ ap (λ z. let a : Result FuncContent TypeFault = Ok z in a)
      (sym (is
      ∙ ap (λ m. function_read s number m g (seen t w.root) (frame_in there)) at
      ∙ ap (λ m. function_read s number (last tree) m (seen t w.root) (frame_in there)) signature
      ∙ ap (λ m. function_read s number (last tree) (signature_of s tree) m (frame_in there)) h.tree))
