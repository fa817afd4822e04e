-- The bound on calls and turns inside one another doesn't show where it is above the turns.
use Rattle.std.proofs.Common.{◌≡◌, ℕ, zero, suc, ◌<◌, ◌≤◌, List, [], ◌∷◌, ◌++◌, refl, sym, ap, ◌∙◌, subst, arith, Option, Some, None, take, drop, replicate}
use Rattle.std.specs.Prelude.{pos, Bool, true, false, slice_get}
use Rattle.go_grammar.specs.declared.kind.Comparison.TheVariants.{Equal}
use Rattle.go_types.specs.Trees.{TypeTree}
use Rattle.go_types.specs.Relations.{Rights}
use Rattle.go_typed.specs.Trees.{Typed, typed, Typeds, none, more, skip}
use Rattle.go_meaning.specs.Values.{Value, Truth, Whole, Text, Parts, Slice, NilSlice, Function, NilFunction, nth, is_true, zero_value}
use Rattle.go_meaning.specs.Computations.{World, NilCall, Ending, Next, Return, Break, Continue, Fallthrough, Panics, Outcome, Ends, Undecided, Comp, go_on, go_round, go_down, leave, undecided, end_by, give, then_do, one, looped, clause, read, write, spend, enter, choose, each, in_order, falling, over}
use Rattle.go_meaning.specs.Operations
use Rattle.go_meaning.specs.Operations.{Operation, Items, Fixed, Elements, Cells, Runes, Numbers, Deed, Gives, Traps, perform, done, operate, item_count}
use Rattle.go_meaning.specs.Plans.{Plan, Give, Local, Variable, Declare, Ignore, Inner, FieldOf, ElementOf, CellOf, Perform, Both, Either, Apply, StepBy, OperateBy, AssignTo, ZeroTo, Skip, Returns, Breaks, Continues, Falls, Sequence, Branch, Select, CaseOf, Otherwise, Iterate, Course, Once, Loop}
use Rattle.go_meaning.specs.Doings.{Doing, plain, chosen_by, absent, values_of, finds_of, at, local_place, name_place, blank_place, variable_place, field_place, element_place, cell_place, stores, assigned, operated, applied, matches, selected, tag_of, loop, operand_of, iterated, act, condition_of, doing_of}
use Rattle.go_meaning.specs.Planning.{plan}
use Rattle.go_meaning.specs.Meaning.{turned, meaning, meanings, Code, frame_of, entered, has_body, called, Program, bounded}

-- no more turns are left than these
abbrev AtMost : ℕ → Outcome → Type 0
AtMost t (Ends e f w left) = left ≤ t
AtMost t (Undecided o) = Unit {0}

-- the two are the same with at most so many turns, and make none
record Within (most : ℕ) (c c' : Comp) : Type 0 where
  same : (d : ℕ) (f : List Value) (w : World) (t : ℕ) → t ≤ most → c d f w t ≡ c' d f w t
  left : (d : ℕ) (f : List Value) (w : World) (t : ℕ) → t ≤ most → AtMost t (c d f w t)

at_most_less : (t u : ℕ) (oc : Outcome) → t ≤ u → AtMost t oc → AtMost u oc
at_most_less t u (Ends e f w left) le h = omega arith
at_most_less t u (Undecided o) le h = tt

module _ (most : ℕ) where
  undecided_within : Within most undecided undecided
  unfolding undecided
  undecided_within = record { same = λ d f w t le. refl; left = λ d f w t le. tt }

  end_within : (e : Ending) → Within most (end_by e) (end_by e)
  unfolding end_by
  end_within e = record { same = λ d f w t le. refl; left = λ d f w t le. omega arith }

  give_within : (vs : List Value) → Within most (give vs) (give vs)
  give_within vs = end_within (Next vs)

  done_left : (x : Deed) (f : List Value) (w : World) (t : ℕ) → AtMost t (done x f w t)
  done_left (Gives vs w1) f w t = omega arith
  done_left (Traps p) f w t = omega arith

  operate_within : (o : Operation) (vs : List Value) → Within most (operate o vs) (operate o vs)
  unfolding operate
  operate_within o vs = record { same = λ d f w t le. refl; left = λ d f w t le. done_left (perform o vs w) f w t }

  read_within : (i : ℕ) → Within most (read i) (read i)
  unfolding read
  read_within i = record { same = λ d f w t le. refl; left = λ d f w t le. omega arith }

  write_within : (i : ℕ) (v : Value) → Within most (write i v) (write i v)
  unfolding write
  write_within i v = record { same = λ d f w t le. refl; left = λ d f w t le. omega arith }

  on_same : (t : ℕ) (oc : Outcome) (k k' : List Value → List Value → World → ℕ → Outcome) → AtMost t oc → ((vs f : List Value) (w : World) (u : ℕ) → u ≤ t → k vs f w u ≡ k' vs f w u) → go_on oc k ≡ go_on oc k'
  on_same t (Ends (Next vs) f w left) k k' h hk = hk vs f w left h
  on_same t (Ends (Return vs) f w left) k k' h hk = refl
  on_same t (Ends Break f w left) k k' h hk = refl
  on_same t (Ends Continue f w left) k k' h hk = refl
  on_same t (Ends Fallthrough f w left) k k' h hk = refl
  on_same t (Ends (Panics p) f w left) k k' h hk = refl
  on_same t (Undecided o) k k' h hk = refl

  on_left : (t : ℕ) (oc : Outcome) (k : List Value → List Value → World → ℕ → Outcome) → AtMost t oc → ((vs f : List Value) (w : World) (u : ℕ) → u ≤ t → AtMost u (k vs f w u)) → AtMost t (go_on oc k)
  on_left t (Ends (Next vs) f w left) k h hk = at_most_less left t (k vs f w left) h (hk vs f w left h)
  on_left t (Ends (Return vs) f w left) k h hk = h
  on_left t (Ends Break f w left) k h hk = h
  on_left t (Ends Continue f w left) k h hk = h
  on_left t (Ends Fallthrough f w left) k h hk = h
  on_left t (Ends (Panics p) f w left) k h hk = h
  on_left t (Undecided o) k h hk = tt

  round_same : (t : ℕ) (oc : Outcome) (k k' : List Value → World → ℕ → Outcome) → AtMost t oc → ((f : List Value) (w : World) (u : ℕ) → u ≤ t → k f w u ≡ k' f w u) → go_round oc k ≡ go_round oc k'
  round_same t (Ends (Next vs) f w left) k k' h hk = hk f w left h
  round_same t (Ends Continue f w left) k k' h hk = hk f w left h
  round_same t (Ends (Return vs) f w left) k k' h hk = refl
  round_same t (Ends Break f w left) k k' h hk = refl
  round_same t (Ends Fallthrough f w left) k k' h hk = refl
  round_same t (Ends (Panics p) f w left) k k' h hk = refl
  round_same t (Undecided o) k k' h hk = refl

  round_left : (t : ℕ) (oc : Outcome) (k : List Value → World → ℕ → Outcome) → AtMost t oc → ((f : List Value) (w : World) (u : ℕ) → u ≤ t → AtMost u (k f w u)) → AtMost t (go_round oc k)
  round_left t (Ends (Next vs) f w left) k h hk = at_most_less left t (k f w left) h (hk f w left h)
  round_left t (Ends Continue f w left) k h hk = at_most_less left t (k f w left) h (hk f w left h)
  round_left t (Ends (Return vs) f w left) k h hk = h
  round_left t (Ends Break f w left) k h hk = h
  round_left t (Ends Fallthrough f w left) k h hk = h
  round_left t (Ends (Panics p) f w left) k h hk = h
  round_left t (Undecided o) k h hk = tt

  down_same : (t : ℕ) (oc : Outcome) (k k' : List Value → World → ℕ → Outcome) → AtMost t oc → ((f : List Value) (w : World) (u : ℕ) → u ≤ t → k f w u ≡ k' f w u) → go_down oc k ≡ go_down oc k'
  down_same t (Ends Fallthrough f w left) k k' h hk = hk f w left h
  down_same t (Ends (Next vs) f w left) k k' h hk = refl
  down_same t (Ends Continue f w left) k k' h hk = refl
  down_same t (Ends (Return vs) f w left) k k' h hk = refl
  down_same t (Ends Break f w left) k k' h hk = refl
  down_same t (Ends (Panics p) f w left) k k' h hk = refl
  down_same t (Undecided o) k k' h hk = refl

  down_left : (t : ℕ) (oc : Outcome) (k : List Value → World → ℕ → Outcome) → AtMost t oc → ((f : List Value) (w : World) (u : ℕ) → u ≤ t → AtMost u (k f w u)) → AtMost t (go_down oc k)
  down_left t (Ends Fallthrough f w left) k h hk = at_most_less left t (k f w left) h (hk f w left h)
  down_left t (Ends (Next vs) f w left) k h hk = h
  down_left t (Ends Continue f w left) k h hk = h
  down_left t (Ends (Return vs) f w left) k h hk = h
  down_left t (Ends Break f w left) k h hk = h
  down_left t (Ends (Panics p) f w left) k h hk = h
  down_left t (Undecided o) k h hk = tt

  leave_left : (t : ℕ) (f : List Value) (oc : Outcome) → AtMost t oc → AtMost t (leave f oc)
  leave_left t f (Ends (Next vs) f1 w left) h = h
  leave_left t f (Ends (Return vs) f1 w left) h = h
  leave_left t f (Ends Break f1 w left) h = h
  leave_left t f (Ends Continue f1 w left) h = h
  leave_left t f (Ends Fallthrough f1 w left) h = h
  leave_left t f (Ends (Panics p) f1 w left) h = h
  leave_left t f (Undecided o) h = tt

  then_within : (c c' : Comp) (k k' : List Value → Comp) → Within most c c' → ((vs : List Value) → Within most (k vs) (k' vs)) → Within most (then_do c k) (then_do c' k')
  unfolding then_do
  then_within c c' k k' h hk = record {
    same = λ d f w t le. on_same t (c d f w t) (λ vs f1 w1 t1. k vs d f1 w1 t1) (λ vs f1 w1 t1. k' vs d f1 w1 t1) (h.left d f w t le) (λ vs f1 w1 u lu. (hk vs).same d f1 w1 u (omega arith)) ∙ ap (λ oc. go_on oc (λ vs f1 w1 t1. k' vs d f1 w1 t1)) (h.same d f w t le);
    left = λ d f w t le. on_left t (c d f w t) (λ vs f1 w1 t1. k vs d f1 w1 t1) (h.left d f w t le) (λ vs f1 w1 u lu. (hk vs).left d f1 w1 u (omega arith));
  }

  looped_within : (c c' k k' : Comp) → Within most c c' → Within most k k' → Within most (looped c k) (looped c' k')
  unfolding looped
  looped_within c c' k k' h hk = record {
    same = λ d f w t le. round_same t (c d f w t) (λ f1 w1 t1. k d f1 w1 t1) (λ f1 w1 t1. k' d f1 w1 t1) (h.left d f w t le) (λ f1 w1 u lu. hk.same d f1 w1 u (omega arith)) ∙ ap (λ oc. go_round oc (λ f1 w1 t1. k' d f1 w1 t1)) (h.same d f w t le);
    left = λ d f w t le. round_left t (c d f w t) (λ f1 w1 t1. k d f1 w1 t1) (h.left d f w t le) (λ f1 w1 u lu. hk.left d f1 w1 u (omega arith));
  }

  clause_within : (c c' k k' : Comp) → Within most c c' → Within most k k' → Within most (clause c k) (clause c' k')
  unfolding clause
  clause_within c c' k k' h hk = record {
    same = λ d f w t le. down_same t (c d f w t) (λ f1 w1 t1. k d f1 w1 t1) (λ f1 w1 t1. k' d f1 w1 t1) (h.left d f w t le) (λ f1 w1 u lu. hk.same d f1 w1 u (omega arith)) ∙ ap (λ oc. go_down oc (λ f1 w1 t1. k' d f1 w1 t1)) (h.same d f w t le);
    left = λ d f w t le. down_left t (c d f w t) (λ f1 w1 t1. k d f1 w1 t1) (h.left d f w t le) (λ f1 w1 u lu. hk.left d f1 w1 u (omega arith));
  }

  enter_same : (frame : List Value) (c c' : Comp) → Within most c c' → (d : ℕ) (f : List Value) (w : World) (t : ℕ) → t ≤ most → enter frame c d f w t ≡ enter frame c' d f w t
  unfolding enter
  enter_same frame c c' h zero f w t le = refl
  enter_same frame c c' h (suc d) f w t le = ap (leave f) (h.same d frame w t le)

  enter_left : (frame : List Value) (c c' : Comp) → Within most c c' → (d : ℕ) (f : List Value) (w : World) (t : ℕ) → t ≤ most → AtMost t (enter frame c d f w t)
  unfolding enter
  enter_left frame c c' h zero f w t le = tt
  enter_left frame c c' h (suc d) f w t le = leave_left t f (c d frame w t) (h.left d frame w t le)

  entered_within : (b : Bool) (frame : List Value) (c c' : Comp) → Within most c c' → Within most (entered b frame c) (entered b frame c')
  entered_within true frame c c' h = record { same = enter_same frame c c' h; left = enter_left frame c c' h }
  entered_within false frame c c' h = operate_within Operations.ReadByte []

  choose_within : (b : Bool) (c c' k k' : Comp) → Within most c c' → Within most k k' → Within most (choose b c k) (choose b c' k')
  choose_within true c c' k k' h hk = h
  choose_within false c c' k k' h hk = hk

  one_within : (c c' : Comp) (k k' : Value → Comp) → Within most c c' → ((v : Value) → Within most (k v) (k' v)) → Within most (one c k) (one c' k')
  one_within c c' k k' h hk = then_within c c' (λ vs. k (nth vs 0)) (λ vs. k' (nth vs 0)) h (λ vs. hk (nth vs 0))

spend_same : (most : ℕ) (c c' : Comp) → ((less : ℕ) → most ≡ suc less → Within less c c') → (d : ℕ) (f : List Value) (w : World) (t : ℕ) → t ≤ most → spend c d f w t ≡ spend c' d f w t
unfolding spend
spend_same most c c' h d f w zero le = refl
spend_same (suc most) c c' h d f w (suc t) le = (h most refl).same d f w t (omega arith)
spend_same zero c c' h d f w (suc t) le = absurd (omega arith)

spend_left : (most : ℕ) (c c' : Comp) → ((less : ℕ) → most ≡ suc less → Within less c c') → (d : ℕ) (f : List Value) (w : World) (t : ℕ) → t ≤ most → AtMost t (spend c d f w t)
unfolding spend
spend_left most c c' h d f w zero le = tt
spend_left (suc most) c c' h d f w (suc t) le = at_most_less t (suc t) (c d f w t) (omega arith) ((h most refl).left d f w t (omega arith))
spend_left zero c c' h d f w (suc t) le = absurd (omega arith)

-- under a spent turn one turn less counts, and none at no turns
spend_within : (most : ℕ) (c c' : Comp) → ((less : ℕ) → most ≡ suc less → Within less c c') → Within most (spend c) (spend c')
spend_within most c c' h = record { same = spend_same most c c' h; left = spend_left most c c' h }

within_less : (less most : ℕ) (c c' : Comp) → less ≤ most → Within most c c' → Within less c c'
within_less less most c c' le h = record { same = λ d f w t lt. h.same d f w t (omega arith); left = λ d f w t lt. h.left d f w t (omega arith) }

module _ (most : ℕ) where
  turn_within : (c c' : Comp) → Within most c c' → Within most (spend c) (spend c')
  turn_within c c' h = spend_within most c c' (λ less e. within_less less most c c' (omega (arith, e)) h)

  abbrev AllWithin : List Comp → List Comp → Type 0
  AllWithin [] [] = Unit {0}
  AllWithin (c ∷ cs) [] = ⊥
  AllWithin [] (c' ∷ cs') = ⊥
  AllWithin (c ∷ cs) (c' ∷ cs') = Within most c c' × AllWithin cs cs'

  each_within : (cs cs' : List Comp) (k k' : List Value → Comp) → AllWithin cs cs' → ((vs : List Value) → Within most (k vs) (k' vs)) → Within most (each cs k) (each cs' k')
  unfolding each
  each_within [] [] k k' h hk = hk []
  each_within (c ∷ cs) [] k k' h hk = absurd h
  each_within [] (c' ∷ cs') k k' h hk = absurd h
  each_within (c ∷ cs) (c' ∷ cs') k k' h hk = then_within most c c' (λ us. each cs (λ vs. k (us ++ vs))) (λ us. each cs' (λ vs. k' (us ++ vs))) h.0 (λ us. each_within cs cs' (λ vs. k (us ++ vs)) (λ vs. k' (us ++ vs)) h.1 (λ vs. hk (us ++ vs)))

  in_order_within : (cs cs' : List Comp) → AllWithin cs cs' → Within most (in_order cs) (in_order cs')
  unfolding in_order
  in_order_within [] [] h = give_within most []
  in_order_within (c ∷ cs) [] h = absurd h
  in_order_within [] (c' ∷ cs') h = absurd h
  in_order_within (c ∷ cs) (c' ∷ cs') h = then_within most c c' (λ vs. in_order cs) (λ vs. in_order cs') h.0 (λ vs. in_order_within cs cs' h.1)

  falling_within : (cs cs' : List Comp) → AllWithin cs cs' → Within most (falling cs) (falling cs')
  unfolding falling
  falling_within [] [] h = give_within most []
  falling_within (c ∷ cs) [] h = absurd h
  falling_within [] (c' ∷ cs') h = absurd h
  falling_within (c ∷ cs) (c' ∷ cs') h = clause_within most c c' (falling cs) (falling cs') h.0 (falling_within cs cs' h.1)

  over_within : (item item' : ℕ → Comp) (block block' : Comp) → ((i : ℕ) → Within most (item i) (item' i)) → Within most block block' → (i n : ℕ) → Within most (over item block i n) (over item' block' i n)
  unfolding over
  over_within item item' block block' hi hb i zero = give_within most []
  over_within item item' block block' hi hb i (suc n) =
      turn_within (then_do (item i) (λ vs. looped block (over item block (suc i) n))) (then_do (item' i) (λ vs. looped block' (over item' block' (suc i) n)))
      (then_within most (item i) (item' i) (λ vs. looped block (over item block (suc i) n)) (λ vs. looped block' (over item' block' (suc i) n)) (hi i) (λ vs. looped_within most block block' (over item block (suc i) n) (over item' block' (suc i) n) hb (over_within item item' block block' hi hb (suc i) n)))

  -- ---- doings

  record Kept (x x' : Doing) : Type 0 where
    width : x'.width ≡ x.width
    value : Within most x.value x'.value
    find : Within most x.find x'.find
    test : (us : List Value) → Within most (x.test us) (x'.test us)
    load : (us : List Value) → Within most (x.load us) (x'.load us)
    store : (us : List Value) (v : Value) → Within most (x.store us v) (x'.store us v)

  plain_kept : (c c' : Comp) → Within most c c' → Kept (plain c) (plain c')
  plain_kept c c' h = record { width = refl; value = h; find = undecided_within most; test = λ us. undecided_within most; load = λ us. undecided_within most; store = λ us v. undecided_within most }

  chosen_kept : (t t' : List Value → Comp) (c c' : Comp) → ((us : List Value) → Within most (t us) (t' us)) → Within most c c' → Kept (chosen_by t c) (chosen_by t' c')
  chosen_kept t t' c c' ht h = record { width = refl; value = h; find = undecided_within most; test = ht; load = λ us. undecided_within most; store = λ us v. undecided_within most }

  absent_kept : Kept absent absent
  absent_kept = plain_kept (give []) (give []) (give_within most [])

  abbrev AllKept : List Doing → List Doing → Type 0
  AllKept [] [] = Unit {0}
  AllKept (x ∷ xs) [] = ⊥
  AllKept [] (x' ∷ xs') = ⊥
  AllKept (x ∷ xs) (x' ∷ xs') = Kept x x' × AllKept xs xs'

  at_kept : (xs xs' : List Doing) (n : ℕ) → AllKept xs xs' → Kept (at xs n) (at xs' n)
  at_kept [] [] n h = absent_kept
  at_kept (x ∷ xs) [] n h = absurd h
  at_kept [] (x' ∷ xs') n h = absurd h
  at_kept (x ∷ xs) (x' ∷ xs') zero h = h.0
  at_kept (x ∷ xs) (x' ∷ xs') (suc n) h = at_kept xs xs' n h.1

  take_kept : (n : ℕ) (xs xs' : List Doing) → AllKept xs xs' → AllKept (take n xs) (take n xs')
  take_kept zero xs xs' h = tt
  take_kept (suc n) [] [] h = tt
  take_kept (suc n) (x ∷ xs) [] h = absurd h
  take_kept (suc n) [] (x' ∷ xs') h = absurd h
  take_kept (suc n) (x ∷ xs) (x' ∷ xs') h = (h.0, take_kept n xs xs' h.1)

  drop_kept : (n : ℕ) (xs xs' : List Doing) → AllKept xs xs' → AllKept (drop n xs) (drop n xs')
  drop_kept zero xs xs' h = h
  drop_kept (suc n) [] [] h = tt
  drop_kept (suc n) (x ∷ xs) [] h = absurd h
  drop_kept (suc n) [] (x' ∷ xs') h = absurd h
  drop_kept (suc n) (x ∷ xs) (x' ∷ xs') h = drop_kept n xs xs' h.1

  values_within : (xs xs' : List Doing) → AllKept xs xs' → AllWithin (values_of xs) (values_of xs')
  values_within [] [] h = tt
  values_within (x ∷ xs) [] h = absurd h
  values_within [] (x' ∷ xs') h = absurd h
  values_within (x ∷ xs) (x' ∷ xs') h = (h.0.value, values_within xs xs' h.1)

  finds_within : (xs xs' : List Doing) → AllKept xs xs' → AllWithin (finds_of xs) (finds_of xs')
  finds_within [] [] h = tt
  finds_within (x ∷ xs) [] h = absurd h
  finds_within [] (x' ∷ xs') h = absurd h
  finds_within (x ∷ xs) (x' ∷ xs') h = (h.0.find, finds_within xs xs' h.1)

  nothing_within : Within most (give []) (give [])
  nothing_within = give_within most []

  local_kept : (n : ℕ) → Kept (local_place n) (local_place n)
  local_kept n = record { width = refl; value = read_within most n; find = nothing_within; test = λ us. nothing_within; load = λ us. read_within most n; store = λ us v. write_within most n v }

  name_kept : (n : ℕ) → Kept (name_place n) (name_place n)
  name_kept n = record { width = refl; value = nothing_within; find = nothing_within; test = λ us. nothing_within; load = λ us. read_within most n; store = λ us v. write_within most n v }

  blank_kept : Kept blank_place blank_place
  blank_kept = record { width = refl; value = nothing_within; find = nothing_within; test = λ us. nothing_within; load = λ us. nothing_within; store = λ us v. nothing_within }

  variable_kept : (n : ℕ) → Kept (variable_place n) (variable_place n)
  variable_kept n = record { width = refl; value = operate_within most (Operations.ReadVariable n) []; find = nothing_within; test = λ us. nothing_within; load = λ us. operate_within most (Operations.ReadVariable n) []; store = λ us v. operate_within most (Operations.WriteVariable n) (v ∷ []) }

  stored_within : (x x' : Doing) → Kept x x' → (o : Operation) (vs us : List Value) → Within most (one (operate o vs) (λ r. x.store us r)) (one (operate o vs) (λ r. x'.store us r))
  stored_within x x' h o vs us = one_within most (operate o vs) (operate o vs) (λ r. x.store us r) (λ r. x'.store us r) (operate_within most o vs) (λ r. h.store us r)

  field_kept : (n : ℕ) (x x' : Doing) → Kept x x' → Kept (field_place n x) (field_place n x')
  field_kept n x x' h = record {
    width = h.width;
    value = one_within most x.value x'.value (λ v. operate (Operations.Field n) (v ∷ [])) (λ v. operate (Operations.Field n) (v ∷ [])) h.value (λ v. operate_within most (Operations.Field n) (v ∷ []));
    find = h.find;
    test = h.test;
    load = λ us. one_within most (x.load us) (x'.load us) (λ v. operate (Operations.Field n) (v ∷ [])) (λ v. operate (Operations.Field n) (v ∷ [])) (h.load us) (λ v. operate_within most (Operations.Field n) (v ∷ []));
    store = λ us v. one_within most (x.load us) (x'.load us) (λ u. one (operate (Operations.WithField n) (u ∷ v ∷ [])) (λ r. x.store us r)) (λ u. one (operate (Operations.WithField n) (u ∷ v ∷ [])) (λ r. x'.store us r)) (h.load us) (λ u. stored_within x x' h (Operations.WithField n) (u ∷ v ∷ []) us);
  }

  element_kept : (n : ℕ) (x x' i i' : Doing) → Kept x x' → Kept i i' → Kept (element_place n x i) (element_place n x' i')
  element_kept n x x' i i' h hi = record {
    width = ap suc h.width;
    value = each_within (x.value ∷ i.value ∷ []) (x'.value ∷ i'.value ∷ []) (operate (Operations.Element n)) (operate (Operations.Element n)) (h.value, (hi.value, tt)) (operate_within most (Operations.Element n));
    find = then_within most x.find x'.find (λ us. then_do (x.test us) (λ no. one i.value (λ k. give (k ∷ us)))) (λ us. then_do (x'.test us) (λ no. one i'.value (λ k. give (k ∷ us)))) h.find
        (λ us. then_within most (x.test us) (x'.test us) (λ no. one i.value (λ k. give (k ∷ us))) (λ no. one i'.value (λ k. give (k ∷ us))) (h.test us) (λ no. one_within most i.value i'.value (λ k. give (k ∷ us)) (λ k. give (k ∷ us)) hi.value (λ k. give_within most (k ∷ us))));
    test = λ us. operate_within most (Operations.InArray n) (nth us 0 ∷ []);
    load = λ us. one_within most (x.load (drop 1 us)) (x'.load (drop 1 us)) (λ u. operate (Operations.Element n) (u ∷ nth us 0 ∷ [])) (λ u. operate (Operations.Element n) (u ∷ nth us 0 ∷ [])) (h.load (drop 1 us)) (λ u. operate_within most (Operations.Element n) (u ∷ nth us 0 ∷ []));
    store = λ us v. then_within most (operate (Operations.InArray n) (nth us 0 ∷ [])) (operate (Operations.InArray n) (nth us 0 ∷ [])) (λ no. one (x.load (drop 1 us)) (λ u. one (operate Operations.WithElement (u ∷ nth us 0 ∷ v ∷ [])) (λ r. x.store (drop 1 us) r))) (λ no. one (x'.load (drop 1 us)) (λ u. one (operate Operations.WithElement (u ∷ nth us 0 ∷ v ∷ [])) (λ r. x'.store (drop 1 us) r)))
        (operate_within most (Operations.InArray n) (nth us 0 ∷ [])) (λ no. one_within most (x.load (drop 1 us)) (x'.load (drop 1 us)) (λ u. one (operate Operations.WithElement (u ∷ nth us 0 ∷ v ∷ [])) (λ r. x.store (drop 1 us) r)) (λ u. one (operate Operations.WithElement (u ∷ nth us 0 ∷ v ∷ [])) (λ r. x'.store (drop 1 us) r)) (h.load (drop 1 us)) (λ u. stored_within x x' h Operations.WithElement (u ∷ nth us 0 ∷ v ∷ []) (drop 1 us)));
  }

  cell_kept : (x x' i i' : Doing) → Kept x x' → Kept i i' → Kept (cell_place x i) (cell_place x' i')
  cell_kept x x' i i' h hi = record {
    width = refl;
    value = each_within (x.value ∷ i.value ∷ []) (x'.value ∷ i'.value ∷ []) (operate Operations.Cell) (operate Operations.Cell) (h.value, (hi.value, tt)) (operate_within most Operations.Cell);
    find = each_within (x.value ∷ i.value ∷ []) (x'.value ∷ i'.value ∷ []) give give (h.value, (hi.value, tt)) (give_within most);
    test = λ us. operate_within most Operations.InSlice (nth us 0 ∷ nth us 1 ∷ []);
    load = λ us. operate_within most Operations.Cell (nth us 0 ∷ nth us 1 ∷ []);
    store = λ us v. operate_within most Operations.SetCell (nth us 0 ∷ nth us 1 ∷ v ∷ []);
  }

  stores_within : (xs xs' : List Doing) → AllKept xs xs' → (us vs : List Value) → Within most (stores xs us vs) (stores xs' us vs)
  unfolding stores
  stores_within [] [] h us vs = give_within most []
  stores_within (x ∷ xs) [] h us vs = absurd h
  stores_within [] (x' ∷ xs') h us vs = absurd h
  stores_within (x ∷ xs) (x' ∷ xs') h us vs =
      subst (λ n. Within most (then_do (x.store (take x.width us) (nth vs 0)) (λ no. stores xs (drop x.width us) (drop 1 vs))) (then_do (x'.store (take n us) (nth vs 0)) (λ no. stores xs' (drop n us) (drop 1 vs)))) (sym h.0.width)
      (then_within most (x.store (take x.width us) (nth vs 0)) (x'.store (take x.width us) (nth vs 0)) (λ no. stores xs (drop x.width us) (drop 1 vs)) (λ no. stores xs' (drop x.width us) (drop 1 vs)) (h.0.store (take x.width us) (nth vs 0)) (λ no. stores_within xs xs' h.1 (drop x.width us) (drop 1 vs)))

  assigned_within : (xs xs' : List Doing) (c c' : Comp) → AllKept xs xs' → Within most c c' → Within most (assigned xs c) (assigned xs' c')
  assigned_within xs xs' c c' h hc = each_within (finds_of xs) (finds_of xs') (λ us. then_do c (λ vs. stores xs us vs)) (λ us. then_do c' (λ vs. stores xs' us vs)) (finds_within xs xs' h) (λ us. then_within most c c' (λ vs. stores xs us vs) (λ vs. stores xs' us vs) hc (λ vs. stores_within xs xs' h us vs))

  operated_within : (o : Operation) (x x' : Doing) (y y' : Comp) → Kept x x' → Within most y y' → Within most (operated o x y) (operated o x' y')
  operated_within o x x' y y' h hy =
      then_within most x.find x'.find (λ us. one (x.load us) (λ v. one y (λ u. one (operate o (v ∷ u ∷ [])) (λ r. x.store us r)))) (λ us. one (x'.load us) (λ v. one y' (λ u. one (operate o (v ∷ u ∷ [])) (λ r. x'.store us r)))) h.find
      (λ us. one_within most (x.load us) (x'.load us) (λ v. one y (λ u. one (operate o (v ∷ u ∷ [])) (λ r. x.store us r))) (λ v. one y' (λ u. one (operate o (v ∷ u ∷ [])) (λ r. x'.store us r))) (h.load us)
      (λ v. one_within most y y' (λ u. one (operate o (v ∷ u ∷ [])) (λ r. x.store us r)) (λ u. one (operate o (v ∷ u ∷ [])) (λ r. x'.store us r)) hy (λ u. stored_within x x' h o (v ∷ u ∷ []) us)))

  matches_within : (tag : Value) (cs cs' : List Comp) → AllWithin cs cs' → Within most (matches tag cs) (matches tag cs')
  unfolding matches
  matches_within tag [] [] h = give_within most (Truth false ∷ [])
  matches_within tag (c ∷ cs) [] h = absurd h
  matches_within tag [] (c' ∷ cs') h = absurd h
  matches_within tag (c ∷ cs) (c' ∷ cs') h =
      one_within most c c' (λ v. one (operate (Operations.Compare Equal) (tag ∷ v ∷ [])) (λ b. choose (is_true b) (give (Truth true ∷ [])) (matches tag cs))) (λ v. one (operate (Operations.Compare Equal) (tag ∷ v ∷ [])) (λ b. choose (is_true b) (give (Truth true ∷ [])) (matches tag cs'))) h.0
      (λ v. one_within most (operate (Operations.Compare Equal) (tag ∷ v ∷ [])) (operate (Operations.Compare Equal) (tag ∷ v ∷ [])) (λ b. choose (is_true b) (give (Truth true ∷ [])) (matches tag cs)) (λ b. choose (is_true b) (give (Truth true ∷ [])) (matches tag cs')) (operate_within most (Operations.Compare Equal) (tag ∷ v ∷ []))
      (λ b. choose_within most (is_true b) (give (Truth true ∷ [])) (give (Truth true ∷ [])) (matches tag cs) (matches tag cs') (give_within most (Truth true ∷ [])) (matches_within tag cs cs' h.1)))

  selected_within : (tag : Value) (other other' : Comp) (xs xs' : List Doing) → Within most other other' → AllKept xs xs' → Within most (selected tag other xs) (selected tag other' xs')
  unfolding selected
  selected_within tag other other' [] [] ho h = ho
  selected_within tag other other' (x ∷ xs) [] ho h = absurd h
  selected_within tag other other' [] (x' ∷ xs') ho h = absurd h
  selected_within tag other other' (x ∷ xs) (x' ∷ xs') ho h =
      one_within most (x.test (tag ∷ [])) (x'.test (tag ∷ [])) (λ b. choose (is_true b) (falling (values_of (x ∷ xs))) (selected tag other xs)) (λ b. choose (is_true b) (falling (values_of (x' ∷ xs'))) (selected tag other' xs')) (h.0.test (tag ∷ []))
      (λ b. choose_within most (is_true b) (falling (values_of (x ∷ xs))) (falling (values_of (x' ∷ xs'))) (selected tag other xs) (selected tag other' xs') (falling_within (values_of (x ∷ xs)) (values_of (x' ∷ xs')) (values_within (x ∷ xs) (x' ∷ xs') h)) (selected_within tag other other' xs xs' ho h.1))

  tag_within : (tag : Bool) (x x' : Doing) → Kept x x' → Within most (tag_of tag x) (tag_of tag x')
  tag_within true x x' h = h.value
  tag_within false x x' h = give_within most (Truth true ∷ [])

  condition_within : (c : Bool) (x x' : Doing) → Kept x x' → Within most (condition_of c x) (condition_of c x')
  condition_within true x x' h = h.value
  condition_within false x x' h = give_within most (Truth true ∷ [])

  operand_within : (items : Items) (x x' : Doing) → Kept x x' → Within most (operand_of items x) (operand_of items x')
  operand_within (Fixed n) x x' h = give_within most (NilFunction ∷ [])
  operand_within Elements x x' h = h.value
  operand_within Cells x x' h = h.value
  operand_within Runes x x' h = h.value
  operand_within Numbers x x' h = h.value

  module _ (call call' : ℕ → List Value → Comp) (hc : (g : ℕ) (vs : List Value) → Within most (call g vs) (call' g vs)) where
    applied_within : (v : Value) (vs : List Value) → Within most (applied call v vs) (applied call' v vs)
    applied_within (Function g) vs = hc g vs
    applied_within (Truth b) vs = end_within most (Panics NilCall)
    applied_within (Whole z) vs = end_within most (Panics NilCall)
    applied_within (Text bytes) vs = end_within most (Panics NilCall)
    applied_within (Parts us) vs = end_within most (Panics NilCall)
    applied_within (Slice a i n c) vs = end_within most (Panics NilCall)
    applied_within NilSlice vs = end_within most (Panics NilCall)
    applied_within NilFunction vs = end_within most (Panics NilCall)

    act_kept : (p : Plan) (xs xs' : List Doing) → AllKept xs xs' → Kept (act call p xs) (act call' p xs')
    unfolding act
    act_kept (Give v) xs xs' h = plain_kept (give (v ∷ [])) (give (v ∷ [])) (give_within most (v ∷ []))
    act_kept (Local n) xs xs' h = local_kept n
    act_kept (Variable n) xs xs' h = variable_kept n
    act_kept (Declare n) xs xs' h = name_kept n
    act_kept Ignore xs xs' h = blank_kept
    act_kept Inner xs xs' h = at_kept xs xs' 0 h
    act_kept (FieldOf n) xs xs' h = field_kept n (at xs 0) (at xs' 0) (at_kept xs xs' 0 h)
    act_kept (ElementOf n) xs xs' h = element_kept n (at xs 0) (at xs' 0) (at xs 1) (at xs' 1) (at_kept xs xs' 0 h) (at_kept xs xs' 1 h)
    act_kept CellOf xs xs' h = cell_kept (at xs 0) (at xs' 0) (at xs 1) (at xs' 1) (at_kept xs xs' 0 h) (at_kept xs xs' 1 h)
    act_kept (Perform o) xs xs' h = plain_kept (each (values_of xs) (operate o)) (each (values_of xs') (operate o)) (each_within (values_of xs) (values_of xs') (operate o) (operate o) (values_within xs xs' h) (operate_within most o))
    act_kept Both xs xs' h = plain_kept (one (at xs 0).value (λ v. choose (is_true v) (at xs 1).value (give (Truth false ∷ [])))) (one (at xs' 0).value (λ v. choose (is_true v) (at xs' 1).value (give (Truth false ∷ []))))
        (one_within most (at xs 0).value (at xs' 0).value (λ v. choose (is_true v) (at xs 1).value (give (Truth false ∷ []))) (λ v. choose (is_true v) (at xs' 1).value (give (Truth false ∷ []))) (at_kept xs xs' 0 h).value (λ v. choose_within most (is_true v) (at xs 1).value (at xs' 1).value (give (Truth false ∷ [])) (give (Truth false ∷ [])) (at_kept xs xs' 1 h).value (give_within most (Truth false ∷ []))))
    act_kept Either xs xs' h = plain_kept (one (at xs 0).value (λ v. choose (is_true v) (give (Truth true ∷ [])) (at xs 1).value)) (one (at xs' 0).value (λ v. choose (is_true v) (give (Truth true ∷ [])) (at xs' 1).value))
        (one_within most (at xs 0).value (at xs' 0).value (λ v. choose (is_true v) (give (Truth true ∷ [])) (at xs 1).value) (λ v. choose (is_true v) (give (Truth true ∷ [])) (at xs' 1).value) (at_kept xs xs' 0 h).value (λ v. choose_within most (is_true v) (give (Truth true ∷ [])) (give (Truth true ∷ [])) (at xs 1).value (at xs' 1).value (give_within most (Truth true ∷ [])) (at_kept xs xs' 1 h).value))
    act_kept Apply xs xs' h = plain_kept (each (values_of xs) (λ vs. applied call (nth vs 0) (drop 1 vs))) (each (values_of xs') (λ vs. applied call' (nth vs 0) (drop 1 vs))) (each_within (values_of xs) (values_of xs') (λ vs. applied call (nth vs 0) (drop 1 vs)) (λ vs. applied call' (nth vs 0) (drop 1 vs)) (values_within xs xs' h) (λ vs. applied_within (nth vs 0) (drop 1 vs)))
    act_kept (StepBy o) xs xs' h = plain_kept (operated o (at xs 0) (give (Whole (pos 1) ∷ []))) (operated o (at xs' 0) (give (Whole (pos 1) ∷ []))) (operated_within o (at xs 0) (at xs' 0) (give (Whole (pos 1) ∷ [])) (give (Whole (pos 1) ∷ [])) (at_kept xs xs' 0 h) (give_within most (Whole (pos 1) ∷ [])))
    act_kept (OperateBy o) xs xs' h = plain_kept (operated o (at xs 0) (at xs 1).value) (operated o (at xs' 0) (at xs' 1).value) (operated_within o (at xs 0) (at xs' 0) (at xs 1).value (at xs' 1).value (at_kept xs xs' 0 h) (at_kept xs xs' 1 h).value)
    act_kept (AssignTo n) xs xs' h = plain_kept (assigned (take n xs) (each (values_of (drop n xs)) give)) (assigned (take n xs') (each (values_of (drop n xs')) give)) (assigned_within (take n xs) (take n xs') (each (values_of (drop n xs)) give) (each (values_of (drop n xs')) give) (take_kept n xs xs' h) (each_within (values_of (drop n xs)) (values_of (drop n xs')) give give (values_within (drop n xs) (drop n xs') (drop_kept n xs xs' h)) (give_within most)))
    act_kept (ZeroTo n z) xs xs' h = plain_kept (assigned (take n xs) (give (replicate n (zero_value z)))) (assigned (take n xs') (give (replicate n (zero_value z)))) (assigned_within (take n xs) (take n xs') (give (replicate n (zero_value z))) (give (replicate n (zero_value z))) (take_kept n xs xs' h) (give_within most (replicate n (zero_value z))))
    act_kept Skip xs xs' h = absent_kept
    act_kept Returns xs xs' h = plain_kept (each (values_of xs) (λ vs. end_by (Return vs))) (each (values_of xs') (λ vs. end_by (Return vs))) (each_within (values_of xs) (values_of xs') (λ vs. end_by (Return vs)) (λ vs. end_by (Return vs)) (values_within xs xs' h) (λ vs. end_within most (Return vs)))
    act_kept Breaks xs xs' h = plain_kept (end_by Break) (end_by Break) (end_within most Break)
    act_kept Continues xs xs' h = plain_kept (end_by Continue) (end_by Continue) (end_within most Continue)
    act_kept Falls xs xs' h = plain_kept (end_by Fallthrough) (end_by Fallthrough) (end_within most Fallthrough)
    act_kept Sequence xs xs' h = plain_kept (in_order (values_of xs)) (in_order (values_of xs')) (in_order_within (values_of xs) (values_of xs') (values_within xs xs' h))
    act_kept Branch xs xs' h = plain_kept (then_do (at xs 0).value (λ no. one (at xs 1).value (λ v. choose (is_true v) (at xs 2).value (at xs 3).value))) (then_do (at xs' 0).value (λ no. one (at xs' 1).value (λ v. choose (is_true v) (at xs' 2).value (at xs' 3).value)))
        (then_within most (at xs 0).value (at xs' 0).value (λ no. one (at xs 1).value (λ v. choose (is_true v) (at xs 2).value (at xs 3).value)) (λ no. one (at xs' 1).value (λ v. choose (is_true v) (at xs' 2).value (at xs' 3).value)) (at_kept xs xs' 0 h).value
        (λ no. one_within most (at xs 1).value (at xs' 1).value (λ v. choose (is_true v) (at xs 2).value (at xs 3).value) (λ v. choose (is_true v) (at xs' 2).value (at xs' 3).value) (at_kept xs xs' 1 h).value (λ v. choose_within most (is_true v) (at xs 2).value (at xs' 2).value (at xs 3).value (at xs' 3).value (at_kept xs xs' 2 h).value (at_kept xs xs' 3 h).value)))
    act_kept (Select tag other) xs xs' h = plain_kept (then_do (at xs 0).value (λ no. one (tag_of tag (at xs 1)) (λ v. selected v (falling (values_of (drop other xs))) (drop 2 xs)))) (then_do (at xs' 0).value (λ no. one (tag_of tag (at xs' 1)) (λ v. selected v (falling (values_of (drop other xs'))) (drop 2 xs'))))
        (then_within most (at xs 0).value (at xs' 0).value (λ no. one (tag_of tag (at xs 1)) (λ v. selected v (falling (values_of (drop other xs))) (drop 2 xs))) (λ no. one (tag_of tag (at xs' 1)) (λ v. selected v (falling (values_of (drop other xs'))) (drop 2 xs'))) (at_kept xs xs' 0 h).value
        (λ no. one_within most (tag_of tag (at xs 1)) (tag_of tag (at xs' 1)) (λ v. selected v (falling (values_of (drop other xs))) (drop 2 xs)) (λ v. selected v (falling (values_of (drop other xs'))) (drop 2 xs')) (tag_within tag (at xs 1) (at xs' 1) (at_kept xs xs' 1 h))
        (λ v. selected_within v (falling (values_of (drop other xs))) (falling (values_of (drop other xs'))) (drop 2 xs) (drop 2 xs') (falling_within (values_of (drop other xs)) (values_of (drop other xs')) (values_within (drop other xs) (drop other xs') (drop_kept other xs xs' h))) (drop_kept 2 xs xs' h))))
    act_kept (CaseOf n) xs xs' h = chosen_kept (λ us. matches (nth us 0) (values_of (take n xs))) (λ us. matches (nth us 0) (values_of (take n xs'))) (in_order (values_of (drop n xs))) (in_order (values_of (drop n xs'))) (λ us. matches_within (nth us 0) (values_of (take n xs)) (values_of (take n xs')) (values_within (take n xs) (take n xs') (take_kept n xs xs' h))) (in_order_within (values_of (drop n xs)) (values_of (drop n xs')) (values_within (drop n xs) (drop n xs') (drop_kept n xs xs' h)))
    act_kept Otherwise xs xs' h = chosen_kept (λ us. give (Truth false ∷ [])) (λ us. give (Truth false ∷ [])) (in_order (values_of xs)) (in_order (values_of xs')) (λ us. give_within most (Truth false ∷ [])) (in_order_within (values_of xs) (values_of xs') (values_within xs xs' h))
    act_kept (Iterate n items) xs xs' h = plain_kept (one (operand_of items (at xs n)) (iterated items (take n xs) (at xs (suc n)).value)) (one (operand_of items (at xs' n)) (iterated items (take n xs') (at xs' (suc n)).value))
        (one_within most (operand_of items (at xs n)) (operand_of items (at xs' n)) (iterated items (take n xs) (at xs (suc n)).value) (iterated items (take n xs') (at xs' (suc n)).value) (operand_within items (at xs n) (at xs' n) (at_kept xs xs' n h))
        (λ v. over_within (λ i. assigned (take n xs) (operate (Operations.Item items i) (v ∷ []))) (λ i. assigned (take n xs') (operate (Operations.Item items i) (v ∷ []))) (at xs (suc n)).value (at xs' (suc n)).value (λ i. assigned_within (take n xs) (take n xs') (operate (Operations.Item items i) (v ∷ [])) (operate (Operations.Item items i) (v ∷ [])) (take_kept n xs xs' h) (operate_within most (Operations.Item items i) (v ∷ []))) (at_kept xs xs' (suc n) h).value 0 (item_count items v)))

    -- a loop, whose next turn stands under a spent one
    loop_kept : (again again' : Comp) → ((less : ℕ) → most ≡ suc less → Within less again again') → (c : Bool) (xs xs' : List Doing) → AllKept xs xs' → Kept (doing_of call again (Loop c) xs) (doing_of call' again' (Loop c) xs')
    loop_kept again again' ha c xs xs' h =
        plain_kept (loop (at xs 0).value (condition_of c (at xs 1)) (at xs 3).value (at xs 2).value again) (loop (at xs' 0).value (condition_of c (at xs' 1)) (at xs' 3).value (at xs' 2).value again')
        (then_within most (at xs 0).value (at xs' 0).value (λ no. one (condition_of c (at xs 1)) (λ v. choose (is_true v) (spend (looped (at xs 3).value (then_do (at xs 2).value (λ no1. again)))) (give []))) (λ no. one (condition_of c (at xs' 1)) (λ v. choose (is_true v) (spend (looped (at xs' 3).value (then_do (at xs' 2).value (λ no1. again')))) (give []))) (at_kept xs xs' 0 h).value
        (λ no. one_within most (condition_of c (at xs 1)) (condition_of c (at xs' 1)) (λ v. choose (is_true v) (spend (looped (at xs 3).value (then_do (at xs 2).value (λ no1. again)))) (give [])) (λ v. choose (is_true v) (spend (looped (at xs' 3).value (then_do (at xs' 2).value (λ no1. again')))) (give [])) (condition_within c (at xs 1) (at xs' 1) (at_kept xs xs' 1 h))
        (λ v. choose_within most (is_true v) (spend (looped (at xs 3).value (then_do (at xs 2).value (λ no1. again)))) (spend (looped (at xs' 3).value (then_do (at xs' 2).value (λ no1. again')))) (give []) (give [])
        (spend_within most (looped (at xs 3).value (then_do (at xs 2).value (λ no1. again))) (looped (at xs' 3).value (then_do (at xs' 2).value (λ no1. again')))
        (λ less e. looped_within less (at xs 3).value (at xs' 3).value (then_do (at xs 2).value (λ no1. again)) (then_do (at xs' 2).value (λ no1. again')) (within_less less most (at xs 3).value (at xs' 3).value (omega (arith, e)) (at_kept xs xs' 3 h).value)
        (then_within less (at xs 2).value (at xs' 2).value (λ no1. again) (λ no1. again') (within_less less most (at xs 2).value (at xs' 2).value (omega (arith, e)) (at_kept xs xs' 2 h).value) (λ no1. ha less e)))) (give_within most []))))

    doing_kept : (again again' : Comp) → ((less : ℕ) → most ≡ suc less → Within less again again') → (p : Course) (xs xs' : List Doing) → AllKept xs xs' → Kept (doing_of call again p xs) (doing_of call' again' p xs')
    doing_kept again again' ha (Once p) xs xs' h = act_kept p xs xs' h
    doing_kept again again' ha (Loop c) xs xs' h = loop_kept again again' ha c xs xs' h

    module _ (rights : Rights) (later later' : Typed TypeTree → Comp) (hl : (less : ℕ) → most ≡ suc less → (t : Typed TypeTree) → Within less (later t) (later' t)) where
      mutual
        meaning_kept : (t : Typed TypeTree) → Kept (meaning rights call later t) (meaning rights call' later' t)
        meaning_kept (typed f i j l ps) = doing_kept (later (typed f i j l (turned f ps))) (later' (typed f i j l (turned f ps))) (λ less e. hl less e (typed f i j l (turned f ps))) (plan rights f l ps) (meanings rights call later ps) (meanings rights call' later' ps) (meanings_kept ps)

        meanings_kept : (ps : Typeds TypeTree) → AllKept (meanings rights call later ps) (meanings rights call' later' ps)
        meanings_kept none = tt
        meanings_kept (more p ps) = (meaning_kept p, meanings_kept ps)
        meanings_kept (skip ps) = (absent_kept, meanings_kept ps)

called_within : (most : ℕ) (later later' : Typed TypeTree → Comp) → ((less : ℕ) → most ≡ suc less → (t : Typed TypeTree) → Within less (later t) (later' t)) → (vs : List Value) (o : Option Code) → Within most (called later vs o) (called later' vs o)
called_within most later later' h vs None = undecided_within most
called_within most later later' h vs (Some g) = spend_within most (entered (has_body g) (frame_of g vs) (later g.body)) (entered (has_body g) (frame_of g vs) (later' g.body)) (λ less e. entered_within less (has_body g) (frame_of g vs) (later g.body) (later' g.body) (h less e g.body))

module _ (P : Program) where
  bounded_within : (most n n' : ℕ) → most < n → most < n' → (t : Typed TypeTree) → Within most (bounded P n t) (bounded P n' t)
  bounded_within most zero n' le le' t = absurd (omega (arith, le))
  bounded_within most (suc n) zero le le' t = absurd (omega (arith, le'))
  bounded_within zero (suc n) (suc n') le le' t =
      let below : (less : ℕ) → zero ≡ suc less → (u : Typed TypeTree) → Within less (bounded P n u) (bounded P n' u) = λ less e u. absurd (omega (arith, e)) in
      (meaning_kept zero (λ g vs. called (bounded P n) vs (slice_get P.functions g)) (λ g vs. called (bounded P n') vs (slice_get P.functions g)) (λ g vs. called_within zero (bounded P n) (bounded P n') below vs (slice_get P.functions g)) P.rights (bounded P n) (bounded P n') below t).value
  bounded_within (suc most) (suc n) (suc n') le le' t =
      let below : (less : ℕ) → suc most ≡ suc less → (u : Typed TypeTree) → Within less (bounded P n u) (bounded P n' u) = λ less e u. subst (λ k. Within k (bounded P n u) (bounded P n' u)) (omega (arith, e)) (bounded_within most n n' (omega (arith, le)) (omega (arith, le')) u) in
      (meaning_kept (suc most) (λ g vs. called (bounded P n) vs (slice_get P.functions g)) (λ g vs. called (bounded P n') vs (slice_get P.functions g)) (λ g vs. called_within (suc most) (bounded P n) (bounded P n') below vs (slice_get P.functions g)) P.rights (bounded P n) (bounded P n') below t).value

  -- the law
  pub bound_does_not_show : (n n' : ℕ) (t : Typed TypeTree) (d : ℕ) (f : List Value) (w : World) (turns : ℕ) → turns < n → turns < n' → bounded P n t d f w turns ≡ bounded P n' t d f w turns
  bound_does_not_show n n' t d f w turns le le' = (bounded_within turns n n' le le' t).same d f w turns (omega arith)
