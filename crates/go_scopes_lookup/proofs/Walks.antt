-- A walk along the tokens of a file, while blocks end and scopes begin.
use Rattle.std.proofs.Common.{◌≡◌, ℕ, zero, suc, length, drop, ◌<◌, ◌≤◌, inl, inr, true, List, [], ◌∷◌, ◌++◌, map, Option, Some, None, refl, sym, ap, ◌∙◌, subst, arith}
use Rattle.std.specs.Borrow.{Bor}
use Rattle.go_tree.specs.Meanings.{Meaning}
use Rattle.go_tree.specs.declared.context.Scope.{Scope}
use Rattle.go_tree.specs.declared.event.Event.{Event}
use Rattle.go_tree.specs.declared.event.Event.TheVariants as event
use Rattle.go_scopes_events.specs.Orders.{Nests, AreInOrder}
use Rattle.go_scopes_events.specs.Scopes.{is_local, locals_of, over, inmost, scope_of, Each, AreNested, AreSwept, token_of}
use Rattle.go_scopes_events.proofs.Public.{over_later, locals_are}
use Rattle.go_scopes_lookup.specs.declared.scopes.Block.{Block}
use Rattle.go_scopes_lookup.specs.Stacks.{said, EachEnd, Parts, ArePartedBy, AreParted, AreReady, BeginBehind, IsSweeping}
use Rattle.go_scopes_lookup.specs.Sorted.{name_of}
use Rattle.go_scopes_lookup.proofs.Stacks.{parted_head, parted_tail}

each_more : (P Q : Meaning → Type 0) (ms : List Meaning) → ((m : Meaning) → P m → Q m) → Each P ms → Each Q ms
each_more P Q [] f h = tt
each_more P Q (m ∷ ms) f h = (f m h.0, each_more P Q ms f h.1)

are_ready : (n i : ℕ) (ms : List Meaning) → Each (λ m. is_local n m.extent ≡ true) ms → AreSwept i ms → AreNested ms → AreReady n ms
are_ready n i [] l s h = tt
are_ready n i (m ∷ ms) l s h = (l.0, s.2, h.0, are_ready n (token_of m.source) ms l.1 s.3 h.1)

pub sweep_start : (n : ℕ) (ms : List Meaning) → AreSwept 0 (locals_of n ms) → AreNested (locals_of n ms) → IsSweeping n 0 (locals_of n ms) [] (locals_of n ms)
sweep_start n ms s h = record {
  says = λ u w le. refl;
  parted = tt;
  ready = are_ready n 0 (locals_of n ms) (locals_are n ms) s h;
}

pub sweep_leave : (n i t : ℕ) (all : List Meaning) (bs cs : List Block) (left : List Meaning) → i ≤ t → ((u : ℕ) (w : Bor (List ℕ)) → t ≤ u → said cs u w ≡ said bs u w) → ((ms : List Meaning) → AreParted bs ms → AreParted cs ms) → IsSweeping n i all bs left → IsSweeping n t all cs left
sweep_leave n i t all bs cs left le f g s = record {
  says = λ u w h. ap (λ o. inmost n u w.now o left) (f u w h) ∙ s.says u w (omega (arith, le, h));
  parted = g left s.parted;
  ready = s.ready;
}

parts_by : (r s : Scope) → Nests r s → Parts r.to s
parts_by r s (inl a) = inl a
parts_by r s (inr a) = inr a.1

-- what entering a local meaning does to the blocks
abbrev pub Enters : ℕ → Meaning → List Block → List Block → Type 0
Enters t m bs cs = (n u : ℕ) (w : Bor (List ℕ)) → is_local n m.extent ≡ true → (scope_of m.extent).from ≤ t → t ≤ u → EachEnd (λ e. Parts e (scope_of m.extent)) bs → said cs u w ≡ over n u w.now (said bs u w) m

pub sweep_enter : (n t : ℕ) (all : List Meaning) (bs cs : List Block) (m : Meaning) (left : List Meaning) → (scope_of m.extent).from ≤ t → Enters t m bs cs → ((ms : List Meaning) → AreParted bs ms → ArePartedBy ms (scope_of m.extent).to → AreParted cs ms) → IsSweeping n t all bs (m ∷ left) → IsSweeping n t all cs left
sweep_enter n t all bs cs m left le f g s = record {
  says = λ u w h. ap (λ o. inmost n u w.now o left) (f n u w s.ready.0 le h (parted_head bs m left s.parted)) ∙ s.says u w h;
  parted = g left (parted_tail bs m left s.parted) (each_more (λ x. Nests (scope_of m.extent) (scope_of x.extent)) (λ x. Parts (scope_of m.extent).to (scope_of x.extent)) left (λ x. parts_by (scope_of m.extent) (scope_of x.extent)) s.ready.2);
  ready = s.ready.3;
}

begins_later : (t : ℕ) (r s : Scope) → t < r.from → r.from ≤ r.to → Nests r s → t < s.from
begins_later t r s lt le (inl a) = omega (arith, lt, le, a)
begins_later t r s lt le (inr a) = omega (arith, lt, a.0)

-- where the first scope that is left has not begun, none has
pub begin_behind : (n t : ℕ) (m : Meaning) (left : List Meaning) → t < (scope_of m.extent).from → AreReady n (m ∷ left) → BeginBehind t (m ∷ left)
begin_behind n t m left lt r = (lt, each_more (λ x. Nests (scope_of m.extent) (scope_of x.extent)) (λ x. t < (scope_of x.extent).from) left (λ x. begins_later t (scope_of m.extent) (scope_of x.extent) lt r.1) r.2)

inmost_behind : (n t : ℕ) (w : List ℕ) (a : Option Meaning) (ms : List Meaning) → AreReady n ms → BeginBehind t ms → inmost n t w a ms ≡ a
inmost_behind n t w a [] r h = refl
inmost_behind n t w a (m ∷ ms) r h = ap (λ o. inmost n t w o ms) (over_later n t w a m r.0 h.0) ∙ inmost_behind n t w a ms r.3 h.1

pub sweep_says : (n t : ℕ) (all : List Meaning) (bs : List Block) (left : List Meaning) → IsSweeping n t all bs left → BeginBehind t left → (w : Bor (List ℕ)) → said bs t w ≡ inmost n t w.now None all
sweep_says n t all bs left s h w = sym (inmost_behind n t w.now (said bs t w) left s.ready h) ∙ s.says t w (omega arith)

pub sweep_on : (n i t : ℕ) (all : List Meaning) (bs : List Block) (left : List Meaning) → i ≤ t → IsSweeping n i all bs left → IsSweeping n t all bs left
sweep_on n i t all bs left le s = sweep_leave n i t all bs bs left le (λ u w h. refl) (λ ms h. h) s

some_number : (x y : ℕ) → Some x ≡ Some y → x ≡ y
some_number x y e = cc

pub order_some : (i j t : ℕ) (e : Event) (es : List Event) → Some t ≡ name_of e → AreInOrder i j (e ∷ es) → (i ≤ t) × AreInOrder (suc t) j es
order_some i j t (event.Use u) es h o = subst (λ x. (i ≤ x) × AreInOrder (suc x) j es) (sym (some_number t u.name h)) o
order_some i j t (event.Declaration d) es h o = subst (λ x. (i ≤ x) × AreInOrder (suc x) j es) (sym (some_number t d.name h)) o
order_some i j t e es h o = cc

pub drop_over : {X : Type 0} (xs : List X) (i : ℕ) → length xs ≤ i → drop i xs ≡ []
drop_over [] zero h = refl
drop_over [] (suc i) h = refl
drop_over (x ∷ xs) zero h = absurd (omega (arith, h))
drop_over (x ∷ xs) (suc i) h = drop_over xs i (omega (arith, h))

pub map_push : {X Y : Type 0} (f : X → Y) (xs : List X) (x : X) (ys : List Y) → map f (xs ++ x ∷ []) ++ ys ≡ map f xs ++ (f x ∷ ys)
map_push f [] x ys = refl
map_push f (z ∷ xs) x ys = ap (λ l. f z ∷ l) (map_push f xs x ys)
