-- The parts of a statement list that are the statements of a run.
use Rattle.std.proofs.Common.{◌≡◌, ◌∙◌, ℕ, zero, suc, ◌+◌, ◌-◌, Bool, true, false, List, [], ◌∷◌, ◌++◌, length, length-drop, take, drop, Option, Some, None, slice_get, refl, sym, ap, subst, arith}
use Rattle.std.specs.Prelude.{◌&&◌, ◌||◌, min, not, if◌then◌else◌}
use Rattle.std.proofs.lemmas.Bool.{and_parts}
use Rattle.std.proofs.lemmas.Option.{same_Some}
use Rattle.go_typed.specs.declared.node.TypedNode.{TypedNode}
use Rattle.go_typed.specs.Forms.{is_holder, is_statement_list, local_of}
use Rattle.go_typed.specs.Funcs.{is_full, is_whole, are_whole, is_named_so, named_at}
use Rattle.go_typed.specs.Lists.{own_list, statement_lists, lists_among, present}
use Rattle.go_typed.specs.Trees.{Typed, typed, Typeds, none, more, skip, parts_of}
use Rattle.go_typed.specs.Views.{view, views}
use Rattle.clone_window.specs.Windows.{row_of}

-- what is found in two lists, one behind the other, passes where all of both pass
both-pass : {A : Type 0} (test : A → Bool) (xs ys : List A) (k : ℕ) (x : A) →
    ((j : ℕ) → slice_get xs j ≡ Some x → test x ≡ true) → ((j : ℕ) → slice_get ys j ≡ Some x → test x ≡ true) → slice_get (xs ++ ys) k ≡ Some x → test x ≡ true
both-pass test [] ys k x f g e = g k e
both-pass test (y ∷ xs) ys zero x f g e = f zero e
both-pass test (y ∷ xs) ys (suc k) x f g e = both-pass test xs ys k x (λ j h. f (suc j) h) g e

full-one : {T : Type 0} (b : Bool) (x l : Typed T) (k : ℕ) → ((not b) || is_full (parts_of x)) ≡ true → slice_get (if b then x ∷ [] else []) k ≡ Some l → is_full (parts_of l) ≡ true
full-one true x l zero h e = subst (λ y. is_full (parts_of y) ≡ true) (same_Some x l e) h
full-one true x l (suc k) h e = cc
full-one false x l k h e = cc

mutual
  -- statement lists of a whole tree have all their parts
  pub lists-full : {T : Type 0} (tokens : List (Option ℕ)) (x l : Typed T) (k : ℕ) → is_whole tokens x ≡ true → slice_get (statement_lists x) k ≡ Some l → is_full (parts_of l) ≡ true
  lists-full {T} tokens (typed f i j m ps) l k h e =
      let first : Bool = not (is_holder f) && is_named_so (named_at tokens i) (local_of f) in
      let own : Bool = not (is_statement_list f) || is_full ps in
      let p = and_parts (first && own) (are_whole tokens ps) h in
      let q = and_parts first own p.0 in
      both-pass (λ y. is_full (parts_of y)) (own_list (typed f i j m ps)) (lists_among ps) k l
      (λ n g. full-one (is_statement_list f) (typed f i j m ps) l n q.1 g)
      (λ n g. among-full tokens ps l n p.1 g) e

  among-full : {T : Type 0} (tokens : List (Option ℕ)) (ps : Typeds T) (l : Typed T) (k : ℕ) → are_whole tokens ps ≡ true → slice_get (lists_among ps) k ≡ Some l → is_full (parts_of l) ≡ true
  among-full tokens none l k h e = cc
  among-full tokens (more p ps) l k h e =
      let q = and_parts (is_whole tokens p) (are_whole tokens ps) h in
      both-pass (λ y. is_full (parts_of y)) (statement_lists p) (lists_among ps) k l (λ n g. lists-full tokens p l n q.0 g) (λ n g. among-full tokens ps l n q.1 g) e
  among-full tokens (skip ps) l k h e = among-full tokens ps l k h e

-- where no part is left out, a run of parts is a run of those that are there
pub parts-run : (ps : List (Option TypedNode)) (b c : ℕ) → is_full (views ps) ≡ true → views (take c (drop b ps)) ≡ row_of (take c (drop b (present (views ps))))
parts-run [] zero zero h = refl
parts-run [] zero (suc c) h = refl
parts-run [] (suc b) zero h = refl
parts-run [] (suc b) (suc c) h = refl
parts-run (None ∷ ps) b c h = cc
parts-run (Some x ∷ ps) zero zero h = refl
parts-run (Some x ∷ ps) zero (suc c) h = ap (λ r. more (view x) r) (parts-run ps zero c h)
parts-run (Some x ∷ ps) (suc b) c h = parts-run ps b c h

drop-nothing : {A : Type 0} (n : ℕ) → drop {A = A} n [] ≡ []
drop-nothing zero = refl
drop-nothing (suc n) = refl

-- a run behind others
pub drop-both : {A : Type 0} (a b : ℕ) (xs : List A) → drop b (drop a xs) ≡ drop (b + a) xs
drop-both zero b xs = let e : b ≡ b + 0 = omega arith in ap (λ k. drop k xs) e
drop-both (suc a) b [] = drop-nothing b ∙ sym (drop-nothing (b + suc a))
drop-both (suc a) b (x ∷ xs) = drop-both a b xs ∙ (let e : suc (b + a) ≡ b + suc a = omega arith in ap (λ k. drop k (x ∷ xs)) e)

-- ---- runs that end with the list

take-clipped : {A : Type 0} (xs : List A) (n m : ℕ) → min (length xs) n ≡ min (length xs) m → take n xs ≡ take m xs
take-clipped [] zero zero e = refl
take-clipped [] zero (suc m) e = refl
take-clipped [] (suc n) zero e = refl
take-clipped [] (suc n) (suc m) e = refl
take-clipped (x ∷ xs) zero zero e = refl
take-clipped (x ∷ xs) zero (suc m) e = absurd (omega (arith, e))
take-clipped (x ∷ xs) (suc n) zero e = absurd (omega (arith, e))
take-clipped (x ∷ xs) (suc n) (suc m) e = ap (λ l. x ∷ l) (take-clipped xs n m (omega (arith, e)))

drop-clipped : {A : Type 0} (xs : List A) (n m : ℕ) → n ≡ min (length xs) m → drop n xs ≡ drop m xs
drop-clipped [] n m e = drop-nothing n ∙ sym (drop-nothing m)
drop-clipped (x ∷ xs) zero zero e = refl
drop-clipped (x ∷ xs) zero (suc m) e = absurd (omega (arith, e))
drop-clipped (x ∷ xs) (suc n) zero e = absurd (omega (arith, e))
drop-clipped (x ∷ xs) (suc n) (suc m) e = drop-clipped xs n m (omega (arith, e))

pub run-clipped : {A : Type 0} (xs : List A) (b c begin end : ℕ) → begin ≡ min (length xs) b → end ≡ min (length xs) (begin + c) →
    take (end - begin) (drop begin xs) ≡ take c (drop b xs)
run-clipped xs b c begin end e f =
    ap (take (end - begin)) (drop-clipped xs begin b e)
    ∙ take-clipped (drop b xs) (end - begin) c (omega (arith, length-drop b xs, e, f))
