-- A call takes the place of statements.
use Rattle.std.proofs.Common.{◌≡◌, ◌∙◌, ℕ, suc, Bool, true, false, List, [], ◌∷◌, map, Option, Some, None, refl, sym, ap, subst, is_some, slice_get, nat_eq}
use Rattle.std.specs.Prelude.{◌||◌}
use Rattle.std.proofs.lemmas.Bool.{eqb-true, eq-eqb}
use Rattle.go_grammar.specs.Trees.{Trees, last}
use Rattle.go_print_laws.specs.Calls.{Argument}
use Rattle.go_print_laws.specs.Trees.{type_tree}
use Rattle.go_types.specs.Trees.{TypeTree, TypeRow, none, more}
use Rattle.go_typed.specs.Trees as sort
use Rattle.go_exprs_rules.specs.Scopes.{Scope}
use Rattle.go_exprs_rules.specs.Sorts.{Stands}
use Rattle.go_exprs_rules.specs.Tables.{Parts}
use Rattle.go_exprs_elsewhere.specs.Elsewhere.{Moves}
use Rattle.go_stmts_defs.specs.Frames.{Frame, known, local_stands, placed, with_local}
use Rattle.go_stmts_elsewhere.specs.Declaring.{declares, declares_types, AllWithout, Lastly, DeclaresVariable, AllDeclareInOrder, LeaveTheRest, DeclaredLocalsStand, RelatedBehind, SharedAlong}
use Rattle.go_stmts_elsewhere.specs.Frames.{has_room}
use Rattle.go_stmts_elsewhere.specs.Gaps.{behind}
use Rattle.go_stmts_elsewhere.specs.Marked.{AlongAt}
use Rattle.go_stmts_elsewhere.specs.Replaced.{AreStatementParts, IsStatementPart, TakesThePlace, unsourced}
use Rattle.go_stmts_elsewhere.proofs.Public.{placed_here, placed_other, placed_room}
use Rattle.go_stmts_calls.specs.Calls.{with_variables, CallsAreTyped}
use Rattle.go_stmts_calls.specs.Facts.{IsWritten, CallsAreReadInPlace}
use Rattle.go_stmts_calls.specs.Places.{PlacedCall, call_trees, is_among}
use Rattle.go_stmts_calls.specs.Taking.{AreResults, written_call, CallFits}
use Rattle.go_stmts_calls.specs.Written.{statement_in, written_parts, CallsAreReadAlike}

pub different : (n k : ℕ) → nat_eq n k ≡ false → n ≡ k → ⊥
different n k h e = let d = eq-eqb n k e in cc

-- ---- the frame with the variables of a call

variables_alone : (ns : List ℕ) (ts : TypeRow) (g : Frame) → with_variables ns ts g ≡ record g { locals = (with_variables ns ts g).locals }
variables_alone [] ts g = refl
variables_alone (n ∷ ns) none g = refl
variables_alone (n ∷ ns) (more t ts) g = variables_alone ns ts (with_local n (sort.Value t) g)

variables_room : (ns : List ℕ) (ts : TypeRow) (g : Frame) (k : ℕ) → has_room (with_variables ns ts g).locals k ≡ has_room g.locals k
variables_room [] ts g k = refl
variables_room (n ∷ ns) none g k = refl
variables_room (n ∷ ns) (more t ts) g k = variables_room ns ts (with_local n (sort.Value t) g) k ∙ placed_room n (Some (sort.Value t)) g.locals k

nowhere_known : (o : Option (Option Stands)) → is_some o ≡ false → known o ≡ sort.Unknown
nowhere_known None e = refl
nowhere_known (Some x) e = cc

-- ---- behind both

-- F is the frame behind statements that are read to be xs in front of f.
module _ (m : Moves) (l : ℕ → Bool) (xs : Parts) (F : Frame) (apart : (n k : ℕ) → l n ≡ true → l k ≡ true → m.local n ≡ m.local k → n ≡ k)
    (stand : (k : ℕ) (t : TypeTree) → has_room F.locals k ≡ true → Lastly (declares k) (DeclaresVariable k t) xs → local_stands F.locals k ≡ sort.Value t) where
  declared_both : (k : ℕ) (t : TypeTree) (g : Frame) → has_room g.locals (m.local k) ≡ has_room F.locals k → Lastly (declares k) (DeclaresVariable k t) xs → (b : Bool) → has_room F.locals k ≡ b
      → local_stands (placed (m.local k) (Some (sort.Value t)) g.locals) (m.local k) ≡ local_stands F.locals k
  declared_both k t g r d true e = ap known (placed_here (m.local k) (Some (sort.Value t)) g.locals (r ∙ e)) ∙ sym (stand k t e d)
  declared_both k t g r d false e =
      nowhere_known (slice_get (placed (m.local k) (Some (sort.Value t)) g.locals) (m.local k)) (placed_room (m.local k) (Some (sort.Value t)) g.locals (m.local k) ∙ r ∙ e) ∙ sym (nowhere_known (slice_get F.locals k) e)

  -- the next one is declared, and those behind it aren't yet
  next_along : (a : ℕ) (t : TypeTree) (ks : List ℕ) (g : Frame) → l a ≡ true → Lastly (declares a) (DeclaresVariable a t) xs → has_room g.locals (m.local a) ≡ has_room F.locals a
      → ((k : ℕ) → l k ≡ true → is_among (a ∷ ks) k ≡ false → local_stands g.locals (m.local k) ≡ local_stands F.locals k) → (k : ℕ) → l k ≡ true → is_among ks k ≡ false → (b : Bool) → nat_eq a k ≡ b
      → local_stands (placed (m.local a) (Some (sort.Value t)) g.locals) (m.local k) ≡ local_stands F.locals k
  next_along a t ks g c d r h k e n true q =
      let s = eqb-true a k q in
      subst (λ z. local_stands (placed (m.local a) (Some (sort.Value t)) g.locals) (m.local z) ≡ local_stands F.locals z) s (declared_both a t g r d (has_room F.locals a) refl)
  next_along a t ks g c d r h k e n false q =
      ap known (placed_other (m.local a) (m.local k) (Some (sort.Value t)) g.locals (λ z. different a k q (apart a k c e z))) ∙ h k e (ap (λ b. b || is_among ks k) q ∙ n)

  variables_along : (ks : List ℕ) (ts : TypeRow) → AreResults l xs ks ts → (g : Frame) → ((k : ℕ) → l k ≡ true → has_room g.locals (m.local k) ≡ has_room F.locals k)
      → ((k : ℕ) → l k ≡ true → is_among ks k ≡ false → local_stands g.locals (m.local k) ≡ local_stands F.locals k) → (k : ℕ) → l k ≡ true
      → local_stands (with_variables (map m.local ks) ts g).locals (m.local k) ≡ local_stands F.locals k
  variables_along [] none w g r h k e = h k e refl
  variables_along (a ∷ ks) (more t ts) w g r h k e =
      let u = with_local (m.local a) (sort.Value t) g in
      variables_along ks ts w.2 u (λ n d. placed_room (m.local a) (Some (sort.Value t)) g.locals (m.local n) ∙ r n d) (λ n d b. next_along a t ks g w.0 w.1 (r a w.0) h n d b (nat_eq a n) refl) k e
  variables_along [] (more t ts) w g r h k e = absurd w
  variables_along (a ∷ ks) none w g r h k e = absurd w

-- ---- statements that a call is read to be

statement_stands : (t : Scope) (i : ℕ) (xs : List (List ℕ)) (number : ℕ) (gs : List Argument) (ps rs : TypeRow) → IsStatementPart (Some (statement_in t i xs number gs ps rs))
statement_stands t i [] number gs ps rs = (refl, refl)
statement_stands t i (x ∷ xs) number gs ps none = (refl, refl)
statement_stands t i (x ∷ xs) number gs ps (more r rs) = (refl, refl)

written_stand : (t : Scope) (i : ℕ) (ys : List (List ℕ)) (us : TypeRow) (ns : List ℕ) (xs : List (List ℕ)) (number : ℕ) (gs : List Argument) (ps rs : TypeRow) → AreStatementParts (written_parts t i ys us ns xs number gs ps rs)
written_stand t i (y ∷ ys) (more u us) (n ∷ ns) xs number gs ps rs = ((refl, refl), written_stand t (suc (last (type_tree (suc (suc i)) u))) ys us ns xs number gs ps rs)
written_stand t i [] us ns xs number gs ps rs = (statement_stands t i xs number gs ps rs, tt)
written_stand t i (y ∷ ys) none ns xs number gs ps rs = (statement_stands t i xs number gs ps rs, tt)
written_stand t i (y ∷ ys) (more u us) [] xs number gs ps rs = (statement_stands t i xs number gs ps rs, tt)

-- ---- the law

module _ (leaves : (f : Frame) (ts : Trees) → AllDeclareInOrder ts → LeaveTheRest f ts) (declared : DeclaredLocalsStand) (follows : RelatedBehind)
    (locals : (p q : ℕ → Bool) (m : Moves) (l : ℕ → Bool) (f g : Frame) → AlongAt p q m l (unsourced f) (unsourced g) → SharedAlong m l f g) (typed : CallsAreTyped) (alike : CallsAreReadAlike)
    (in_place : CallsAreReadInPlace) where
  pub call_takes : (p q : ℕ → Bool) (m : Moves) (l : ℕ → Bool) (s t : Scope) (front : Frame) (old : Trees) (olds : Parts) (c : PlacedCall) (results : List ℕ) → CallFits m l t front old olds c results
      → TakesThePlace p q m l s t (record { front = front; old = old; new = call_trees c; olds = olds; news = written_call t c (map m.local results) })
  call_takes p q m l s t front old olds c results w = record {
    reads = λ f g r z e free.
        let v = in_place p q m l s t f g c results (subst (λ (u : Frame). IsWritten m l t u results c.types c.first c.declared c.types results c.targets c.function c.arguments c.parameters c.results) (sym z) w.written) r in
        let ns = map m.local results in
        let a = typed g c.first c.declared c.types ns c.targets c.function c.arguments c.parameters c.results v in
        let b = leaves f old w.in_order in
        let k = locals p q m l f g r.0 in
        let room = λ (n : ℕ) (d : l n ≡ true). k.room n d ∙ sym (b.room n) in (
          a.parts ∙ alike t g r.2 c.first c.declared c.types ns c.targets c.function c.arguments c.parameters c.results v,
          a.found,
          subst (λ (u : Frame). AlongAt p q m l (unsourced (behind f old)) (unsourced u)) (sym (a.frame ∙ variables_alone ns c.types g))
              (follows p q m l f g old (with_variables ns c.types g).locals w.in_order (subst (AllWithout declares_types) (sym e) w.no_types) r.0 (λ n d. variables_room ns c.types g (m.local n) ∙ room n d)
              (variables_along m l olds (behind f old) k.apart
              (λ j y there z. declared f old w.in_order j y (sym (b.room j) ∙ there) (subst (Lastly (declares j) (DeclaresVariable j y)) (sym e) z)) results c.types w.results_declared g room
              (λ n d x. k.locals n d ∙ sym (b.locals n (subst (AllWithout (declares n)) (sym e) (w.others_stay n d x)))))),
        );
    olds_stand = w.statements;
    news_stand = written_stand t c.first c.declared c.types (map m.local results) c.targets c.function c.arguments c.parameters c.results;
  }
