-- The names that a file looks up outside of its functions stand outside of bodies.
use Rattle.std.proofs.Common.{◌≡◌, ◌∙◌, ℕ, zero, suc, ◌+◌, ◌<◌, ◌≤◌, Bool, true, false, List, [], ◌∷◌, length, refl, sym, ap, subst, arith}
use Rattle.std.specs.Prelude.{if◌then◌else◌}
use Rattle.go_tokens.specs.Tokens.{kinds}
use Rattle.go_grammar.specs.declared.kind.Category.TheVariants as category
use Rattle.go_grammar.specs.Trees.{Tree, node, Trees, none, more, skip, kind_of, first, last, parts}
use Rattle.go_tree.specs.declared.event.Event.{Event}
use Rattle.go_tree.specs.declared.event.Event.TheVariants as event
use Rattle.go_tree.specs.Contexts.{file_context}
use Rattle.go_tree.specs.Lists.{is_function}
use Rattle.go_scopes_events.specs.Orders.{AreInOrder}
use Rattle.go_scopes_events.proofs.Public.{IsLaidOut, LieIn, derives_laid, events_order, laid_grows}
use Rattle.go_heads.specs.Heads.{File, IsRead, in_bodies}
use Rattle.go_heads.proofs.Public.{Every}
use Rattle.go_scopes_bodies.specs.Outside.{no_functions, without_functions, outside_events}
use Rattle.go_scopes_changes.proofs.Outsides.{CarriedTell}
use Rattle.go_scopes_changes.proofs.Pairs.{moves, place_in, IsSame, all_same}
use Rattle.go_scopes_changes.proofs.Places.{token_from, one_more}

-- ---- what stands at a place

-- the token at a place is outside, if there is one
token_out : (p : ℕ → Bool) (n z k : ℕ) → token_from p n z k < z → p (n + token_from p n z k) ≡ false
token_out p n zero k lt = absurd (omega (arith, lt))
token_out p n (suc z) k lt = by (p n) refl k (λ k. token_out p (suc n) z k) lt
  where
    by : (b : Bool) → p n ≡ b → (k : ℕ) → ((k : ℕ) → token_from p (suc n) z k < z → p (suc n + token_from p (suc n) z k) ≡ false)
        → (if b then suc (token_from p (suc n) z k) else one_more k (token_from p (suc n) z)) < suc z
        → p (n + (if b then suc (token_from p (suc n) z k) else one_more k (token_from p (suc n) z))) ≡ false
    by true e k go lt = ap p (let y : n + suc (token_from p (suc n) z k) ≡ suc n + token_from p (suc n) z k = omega arith in y) ∙ go k (omega (arith, lt))
    by false e zero go lt = ap p (let y : n + 0 ≡ n = omega arith in y) ∙ e
    by false e (suc k) go lt = ap p (let y : n + suc (token_from p (suc n) z k) ≡ suc n + token_from p (suc n) z k = omega arith in y) ∙ go k (omega (arith, lt))

-- ---- names in order

lie_later : (i k j : ℕ) (ps : Trees) → i ≤ k → LieIn k j ps → LieIn i j ps
lie_later i k j none le h = omega (arith, le, h)
lie_later i k j (more p ps) le h = (omega (arith, le, h.0), h.1, h.2)
lie_later i k j (skip ps) le h = lie_later i k j ps le h

lie_or : (i j : ℕ) (d : Tree) (ds : Trees) (b : Bool) → (i ≤ first d) → IsLaidOut d → LieIn (last d) j ds → LieIn i j (if b then skip ds else more d ds)
lie_or i j d ds true le h g = lie_later i (last d) j ds (omega (arith, le, laid_grows d h)) g
lie_or i j d ds false le h g = (le, h, g)

lie_less : (i j : ℕ) (ps : Trees) → LieIn i j ps → LieIn i j (no_functions ps)
lie_less i j none h = h
lie_less i j (skip ps) h = lie_less i j ps h
lie_less i j (more d ds) h = lie_or i j d (no_functions ds) (is_function (kind_of d)) h.0 h.1 (lie_less (last d) j ds h.2)

laid_less : (t : Tree) → IsLaidOut t → IsLaidOut (without_functions t)
laid_less (node k i j ps) h = (h.0, lie_less _ j ps h.1)

-- a name that is looked up stands in front of the token
abbrev pub IsEarly : ℕ → Event → Type 0
IsEarly j (event.Use u) = u.name < j
IsEarly j e = Unit {0}

order_end : (i j : ℕ) (es : List Event) → AreInOrder i j es → i ≤ j
order_end i j [] o = o
order_end i j (event.Declaration d ∷ es) o = omega (arith, o.0, order_end (suc d.name) j es o.1)
order_end i j (event.Use u ∷ es) o = omega (arith, o.0, order_end (suc u.name) j es o.1)
order_end i j (e ∷ es) o = order_end i j es o

all_early : (i j : ℕ) (es : List Event) → AreInOrder i j es → Every (IsEarly j) es
all_early i j [] o = tt
all_early i j (event.Declaration d ∷ es) o = (tt, all_early (suc d.name) j es o.1)
all_early i j (event.Use u ∷ es) o = (order_end (suc u.name) j es o.1, all_early (suc u.name) j es o.1)
all_early i j (event.Import x ∷ es) o = (tt, all_early i j es o)
all_early i j (event.Member m g x ∷ es) o = (tt, all_early i j es o)
all_early i j (event.Bodiless a b ∷ es) o = (tt, all_early i j es o)
all_early i j (event.Statement a b ∷ es) o = (tt, all_early i j es o)
all_early i j (event.Misplaced a b ∷ es) o = (tt, all_early i j es o)
all_early i j (event.SecondDefault a ∷ es) o = (tt, all_early i j es o)

last_less : (t : Tree) → last (without_functions t) ≡ last t
last_less (node k i j ps) = refl

-- ---- outside of bodies

abbrev pub Stands : File → Event → Type 0
Stands f (event.Use u) = in_bodies (parts f.tree) u.name ≡ false
Stands f e = Unit {0}

one_out : (f : File) (t : ℕ) → moves f f t ≡ t → t < length (kinds f.tokens.tokens) → in_bodies (parts f.tree) t ≡ false
one_out f t same lt =
    let p : ℕ → Bool = in_bodies (parts f.tree) in
    let z : ℕ = length (kinds f.tokens.tokens) in
    let k : ℕ = place_in f t in
    let y : t ≡ 0 + token_from p 0 z k = omega (arith, same) in
    ap p y ∙ token_out p 0 z k (subst (λ x. x < z) (sym same) lt)

each_out : (f : File) (es : List Event) → Every (IsSame f f) es → Every (IsEarly (length (kinds f.tokens.tokens))) es → Every (Stands f) es
each_out f [] h g = tt
each_out f (event.Use u ∷ es) h g = (one_out f u.name h.0.0 g.0, each_out f es h.1 g.1)
each_out f (event.Declaration d ∷ es) h g = (tt, each_out f es h.1 g.1)
each_out f (event.Import x ∷ es) h g = (tt, each_out f es h.1 g.1)
each_out f (event.Member m o x ∷ es) h g = (tt, each_out f es h.1 g.1)
each_out f (event.Bodiless a b ∷ es) h g = (tt, each_out f es h.1 g.1)
each_out f (event.Statement a b ∷ es) h g = (tt, each_out f es h.1 g.1)
each_out f (event.Misplaced a b ∷ es) h g = (tt, each_out f es h.1 g.1)
each_out f (event.SecondDefault a ∷ es) h g = (tt, each_out f es h.1 g.1)

pub all_out : CarriedTell → (f : File) → IsRead f → Every (Stands f) (outside_events f)
all_out tell f h =
    let t : Tree = without_functions f.tree in
    let ends : last t ≡ length (kinds f.tokens.tokens) = last_less f.tree ∙ h.tree.ends in
    let order : AreInOrder (first t) (last t) (outside_events f) =
    events_order (file_context (last f.tree)) t (laid_less f.tree (derives_laid (kinds f.tokens.tokens) f.tree category.File h.tree.derives)) in
    each_out f (outside_events f) (all_same tell f f h h refl) (subst (λ z. Every (IsEarly z) (outside_events f)) ends (all_early (first t) (last t) (outside_events f) order))
