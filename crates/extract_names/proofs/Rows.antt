-- The innermost declarations of a name, of two functions that declare the same but for runs.
use Rattle.std.proofs.Common.{◌≡◌, ◌∙◌, ℕ, suc, ◌+◌, ◌<◌, ◌≤◌, ◌⊎◌, inl, inr, Bool, true, false, List, [], ◌∷◌, ◌++◌, length, map, Option, Some, None, refl, sym, ap, subst, arith}
use Rattle.std.specs.Prelude.{if◌then◌else◌, ◌&&◌, not, nat_eq, nat_le, nat_lt}
use Rattle.go_tokens.specs.Spellings.{same_text}
use Rattle.go_tokens.proofs.Public.{same_text-true}
use Rattle.go_tree.specs.declared.context.Block.{Block}
use Rattle.go_tree.specs.declared.context.Block.TheVariants as block
use Rattle.go_tree.specs.declared.context.Entity.{Entity}
use Rattle.go_tree.specs.declared.context.Entity.TheVariants as entity
use Rattle.go_tree.specs.Contexts.{is_package}
use Rattle.go_tree.specs.Declarations.{Found, are_one_block, same_block}
use Rattle.go_tree.specs.Extents.{covers, lies_inside, extent_by, extent_of}
use Rattle.go_tree.specs.Redeclared.{are_parameters, clashes}
use Rattle.go_scopes_events.specs.Orders.{BeginsIn}
use Rattle.go_scopes_events.specs.Scopes.{is_local}
use Rattle.go_heads.proofs.Public.{Every, every_map}
use Rattle.go_scopes_bodies.specs.Carried.{carried_block, carried_scope, carried_declaration}
use Rattle.extract_names.specs.Gaps.{Redeclared, Gap, Among, IsInRun, AtEdge, EachGap}
use Rattle.extract_names.specs.Sites.{IsApart, DeclarationStays, DeclarationGoes}
use Rattle.extract_names.proofs.Edges.{is_le, not_le, is_lt, is_eq, lt_true, le_true, same_le, same_lt, mono, stays_edge, Placed}
use Rattle.extract_names.proofs.Founds.{RiseFrom, hit, inner_of, over_of, innermost_of, innermost_both, HoldsOf}

-- ---- tests

pub both_true : (b c : Bool) → (b && c) ≡ true → (b ≡ true) × (c ≡ true)
both_true true true e = (refl, refl)
both_true true false e = cc
both_true false c e = cc

pub and_true : (b c : Bool) → b ≡ true → c ≡ true → (b && c) ≡ true
and_true true true e f = refl
and_true true false e f = cc
and_true false c e f = cc

pub first_off : (b c : Bool) → b ≡ false → (b && c) ≡ false
first_off true c e = cc
first_off false c e = refl

pub second_off : (b c : Bool) → c ≡ false → (b && c) ≡ false
second_off true c e = e
second_off false c e = refl

pub not_on : (b : Bool) → (b ≡ true → ⊥) → b ≡ false
not_on true h = absurd (h refl)
not_on false h = refl

pub on_off : (b : Bool) → b ≡ true → b ≡ false → ⊥
on_off b e f = cc

-- a local of the name w that is in scope at t
pub record Hits (t : ℕ) (w : List ℕ) (d : Found) : Type 0 where
  pub local : is_package d.it.block ≡ false
  pub text : same_text d.name w ≡ true
  pub from : d.it.scope.from ≤ t
  pub to : t < d.it.scope.to

pub hit_tells : (t : ℕ) (w : List ℕ) (d : Found) → hit t w d ≡ true → Hits t w d
hit_tells t w d e = by d.it.block e (λ l f g h. record { local = l; text = f; from = g; to = h })
  where
    by : (b : Block) → (is_local 0 (extent_by d.file d.it.scope b) && (same_text d.name w && covers (extent_by d.file d.it.scope b) 0 t)) ≡ true
        → (is_package b ≡ false → same_text d.name w ≡ true → d.it.scope.from ≤ t → t < d.it.scope.to → Hits t w d) → Hits t w d
    by block.Package e go = cc
    by (block.Local i) e go =
        let x = both_true (nat_eq d.file 0) (same_text d.name w && ((nat_eq d.file 0 && nat_le d.it.scope.from t) && nat_lt t d.it.scope.to)) e in
        let y = both_true (same_text d.name w) ((nat_eq d.file 0 && nat_le d.it.scope.from t) && nat_lt t d.it.scope.to) x.1 in
        let z = both_true (nat_eq d.file 0 && nat_le d.it.scope.from t) (nat_lt t d.it.scope.to) y.1 in
        let u = both_true (nat_eq d.file 0) (nat_le d.it.scope.from t) z.0 in
        go refl y.0 (le_true d.it.scope.from t u.1) (lt_true t d.it.scope.to z.1)

pub hit_told : (t : ℕ) (w : List ℕ) (d : Found) → d.file ≡ 0 → is_package d.it.block ≡ false → same_text d.name w ≡ true → d.it.scope.from ≤ t → t < d.it.scope.to → hit t w d ≡ true
hit_told t w d z l e f g = by d.it.block l
  where
    here : nat_eq d.file 0 ≡ true
    here = is_eq d.file 0 z

    by : (b : Block) → is_package b ≡ false → (is_local 0 (extent_by d.file d.it.scope b) && (same_text d.name w && covers (extent_by d.file d.it.scope b) 0 t)) ≡ true
    by block.Package k = cc
    by (block.Local i) k =
        and_true (nat_eq d.file 0) (same_text d.name w && ((nat_eq d.file 0 && nat_le d.it.scope.from t) && nat_lt t d.it.scope.to)) here
        (and_true (same_text d.name w) ((nat_eq d.file 0 && nat_le d.it.scope.from t) && nat_lt t d.it.scope.to) e
        (and_true (nat_eq d.file 0 && nat_le d.it.scope.from t) (nat_lt t d.it.scope.to)
        (and_true (nat_eq d.file 0) (nat_le d.it.scope.from t) here (is_le d.it.scope.from t f)) (is_lt t d.it.scope.to g)))

-- a local that is in scope from an earlier token on lies in no scope of a later one
pub not_inside : (d e : Found) → is_package e.it.block ≡ false → d.it.scope.from < e.it.scope.from → lies_inside (extent_of d) (extent_of e) ≡ false
not_inside d e l lt = by d.it.block e.it.block l
  where
    by : (b c : Block) → is_package c ≡ false → lies_inside (extent_by d.file d.it.scope b) (extent_by e.file e.it.scope c) ≡ false
    by b block.Package k = cc
    by block.Package (block.Local i) k = refl
    by (block.Local j) (block.Local i) k =
        first_off (nat_eq d.file e.file && nat_le e.it.scope.from d.it.scope.from) (nat_le d.it.scope.to e.it.scope.to)
        (second_off (nat_eq d.file e.file) (nat_le e.it.scope.from d.it.scope.from) (not_le e.it.scope.from d.it.scope.from lt))

pub takes : (o : Option Found) (e : Found) → is_package e.it.block ≡ false → HoldsOf (λ d. d.it.scope.from < e.it.scope.from) o → inner_of o e ≡ Some e
takes None e l h = refl
takes (Some d) e l h = ap (λ b. if b then Some d else Some e) (not_inside d e l h)

-- ---- at most one of some

-- no two of them hit
abbrev pub NoTwo : ℕ → List ℕ → List Found → Type 0
NoTwo t w [] = Unit {0}
NoTwo t w (d ∷ ds) = (hit t w d ≡ true → Every (λ e. hit t w e ≡ false) ds) × NoTwo t w ds

pub none_hit : (t : ℕ) (w : List ℕ) (o : Option Found) (ds : List Found) → Every (λ d. hit t w d ≡ false) ds → innermost_of t w o ds ≡ o
none_hit t w o [] h = refl
none_hit t w o (d ∷ ds) h = ap (λ b. innermost_of t w (if b then inner_of o d else o) ds) h.0 ∙ none_hit t w o ds h.1

pub record OneHits (t : ℕ) (w : List ℕ) (ds : List Found) : Type 0 where
  pub one : Found
  pub among : Among one ds
  pub hits : hit t w one ≡ true
  pub folded : (o : Option Found) → innermost_of t w o ds ≡ inner_of o one

abbrev pub Hitting : ℕ → List ℕ → List Found → Type 0
Hitting t w ds = (Every (λ d. hit t w d ≡ false) ds × ((o : Option Found) → innermost_of t w o ds ≡ o)) ⊎ OneHits t w ds

pub hitting : (t : ℕ) (w : List ℕ) (ds : List Found) → NoTwo t w ds → Hitting t w ds
hitting t w [] h = inl (tt, λ o. refl)
hitting t w (d ∷ ds) h = by (hit t w d) refl (hitting t w ds h.1)
  where
    off : hit t w d ≡ false → (o : Option Found) → innermost_of t w o (d ∷ ds) ≡ innermost_of t w o ds
    off e o = ap (λ b. innermost_of t w (if b then inner_of o d else o) ds) e

    by : (b : Bool) → hit t w d ≡ b → Hitting t w ds → Hitting t w (d ∷ ds)
    by true e r =
        let n : Every (λ x. hit t w x ≡ false) ds = h.0 e in
        inr (record { one = d; among = inl refl; hits = e; folded = λ o. ap (λ b. innermost_of t w (if b then inner_of o d else o) ds) e ∙ none_hit t w (inner_of o d) ds n })
    by false e (inl r) = inl ((e, r.0), λ o. off e o ∙ r.1 o)
    by false e (inr r) = inr (record { one = r.one; among = inr r.among; hits = r.hits; folded = λ o. off e o ∙ r.folded o })

pub every_among : {A : Type 0} (Q : A → Type 0) (x : A) (xs : List A) → Every Q xs → Among x xs → Q x
every_among Q x [] h k = absurd k
every_among Q x (y ∷ ys) h (inl e) = subst Q (sym e) h.0
every_among Q x (y ∷ ys) h (inr k) = every_among Q x ys h.1 k

-- two of them that hit are one
pub one_hit : (t : ℕ) (w : List ℕ) (ds : List Found) → NoTwo t w ds → (x y : Found) → Among x ds → Among y ds → hit t w x ≡ true → hit t w y ≡ true → x ≡ y
one_hit t w [] h x y i j e f = absurd i
one_hit t w (d ∷ ds) h x y (inl i) (inl j) e f = i ∙ sym j
one_hit t w (d ∷ ds) h x y (inl i) (inr j) e f = absurd (on_off (hit t w y) f (every_among (λ z. hit t w z ≡ false) y ds (h.0 (subst (λ (z : Found). hit t w z ≡ true) i e)) j))
one_hit t w (d ∷ ds) h x y (inr i) (inl j) e f = absurd (on_off (hit t w x) e (every_among (λ z. hit t w z ≡ false) x ds (h.0 (subst (λ (z : Found). hit t w z ≡ true) j f)) i))
one_hit t w (d ∷ ds) h x y (inr i) (inr j) e f = one_hit t w ds h.1 x y i j e f

-- no later one of them clashes with an earlier one
abbrev pub ClashFree : List Found → Type 0
ClashFree [] = Unit {0}
ClashFree (d ∷ ds) = Every (λ e. clashes e d ≡ false) ds × ClashFree ds

-- ---- rows

-- A row of declarations: of some that stay, or of those of a run and those of its gap.
pub data Row : Type 0 where
  same : List Found → Row
  other : Gap → List Found → List Found → Row

abbrev pub old_row : List Row → List Found
old_row [] = []
old_row (same ds ∷ rs) = ds ++ old_row rs
old_row (other g old new ∷ rs) = old ++ old_row rs

module _ (v : ℕ → ℕ) (gaps : List Gap) where
  -- a declaration that stays, at its new place
  abbrev pub placed_at : Found → Found
  placed_at d = record d { it = carried_declaration v d.it }

  abbrev pub new_row : List Row → List Found
  new_row [] = []
  new_row (same ds ∷ rs) = map placed_at ds ++ new_row rs
  new_row (other g old new ∷ rs) = new ++ new_row rs

  -- a variable that a gap declares, and what it was in the run
  pub record Again (g : Gap) (old : List Found) (d : Found) : Type 0 where
    pub again : Redeclared
    pub listed : Among again g.declared
    pub was : Found
    pub among : Among was old
    pub named : was.it.name ≡ again.old
    pub text : d.name ≡ was.name
    pub beyond : g.upto < was.it.scope.to
    pub behind : again.token < again.begins
    pub before : again.begins ≤ length g.texts
    pub name : d.it.name ≡ v g.from + again.token
    pub from : d.it.scope.from ≡ v g.from + again.begins
    pub to : d.it.scope.to ≡ v was.it.scope.to
    pub local : is_package d.it.block ≡ false
    pub file : d.file ≡ 0

  -- the declarations of a run and of its gap
  pub record GapStands (g : Gap) (old new : List Found) : Type 0 where
    pub listed : Among g gaps
    pub placed : Placed gaps g
    pub block : Block
    pub end : ℕ
    pub ends : AtEdge gaps end
    pub goes : Every (λ d. DeclarationGoes g block end d.it) old
    pub files : Every (λ d. d.file ≡ 0) old
    pub free : ClashFree old
    pub moved : v g.upto ≡ v g.from + length g.texts
    pub low : ℕ
    pub rises : RiseFrom low new
    pub again : Every (Again g old) new
    pub all : (z : Redeclared) → Among z g.declared → (d : Found) × Among d new × (d.it.name ≡ v g.from + z.token)
    pub once : (y z : Redeclared) → Among y g.declared → Among z g.declared → (y.old ≡ z.old) ⊎ (y.token ≡ z.token) → y ≡ z

  -- rows behind the token i
  abbrev pub RowsStand : ℕ → List Row → Type 0
  RowsStand i [] = Unit {0}
  RowsStand i (same ds ∷ rs) = Every (λ d. DeclarationStays gaps d.it) ds × RowsStand i rs
  RowsStand i (other g old new ∷ rs) = (i ≤ g.from) × GapStands g old new × RowsStand g.upto rs

  -- ---- what a name means at two tokens

  -- The token t of the old function and u of the new one lie alike to all that stays.
  pub record LieAlike (t u : ℕ) : Type 0 where
    pub from : (x : ℕ) → AtEdge gaps x → nat_le (v x) u ≡ nat_le x t
    pub to : (x : ℕ) → AtEdge gaps x → nat_lt u (v x) ≡ nat_lt t x

  -- and they lie in front of a run, with no local of the gap in scope that has this name, or both behind it
  abbrev pub Side : ℕ → ℕ → List ℕ → Gap → List Found → Type 0
  Side t u w g new = ((t ≤ g.from) × Every (λ d. hit u w d ≡ false) new) ⊎ ((g.upto ≤ t) × (v g.upto ≤ u))

  abbrev pub Sides : ℕ → ℕ → List ℕ → List Row → Type 0
  Sides t u w [] = Unit {0}
  Sides t u w (same ds ∷ rs) = Sides t u w rs
  Sides t u w (other g old new ∷ rs) = Side t u w g new × Sides t u w rs

  pub record IsKept (o p : Option Found) : Type 0 where
    pub one : Found
    pub old : o ≡ Some one
    pub new : p ≡ Some (placed_at one)
    pub stays : DeclarationStays gaps one.it
    pub local : is_package one.it.block ≡ false

  pub record IsAgain (o p : Option Found) : Type 0 where
    pub gap : Gap
    pub listed : Among gap gaps
    pub placed : Placed gaps gap
    pub was : Found
    pub one : Found
    pub old : o ≡ Some was
    pub new : p ≡ Some one
    pub in_run : IsInRun gap was.it.name
    pub local : is_package was.it.block ≡ false
    pub local_new : is_package one.it.block ≡ false
    pub begins : was.it.scope.from ≤ gap.upto
    pub begins_new : one.it.scope.from ≤ v gap.upto
    pub again : Redeclared
    pub is_listed : Among again gap.declared
    pub named : was.it.name ≡ again.old
    pub name : one.it.name ≡ v gap.from + again.token
    pub once : (y z : Redeclared) → Among y gap.declared → Among z gap.declared → (y.old ≡ z.old) ⊎ (y.token ≡ z.token) → y ≡ z

  -- a local of a run that is not declared in its gap
  pub record IsLost (o p : Option Found) : Type 0 where
    pub gap : Gap
    pub listed : Among gap gaps
    pub placed : Placed gaps gap
    pub was : Found
    pub old : o ≡ Some was
    pub in_run : IsInRun gap was.it.name
    pub begins : was.it.scope.from ≤ gap.upto
    pub others : HoldsOf (λ x. x.it.scope.from ≤ v gap.upto) p
    pub gone : (z : Redeclared) → Among z gap.declared → z.old ≡ was.it.name → ⊥

  -- The innermost declarations are none, the same, those of a run and of its gap, or the old one is lost; they stand in front of the
  -- token lo, and those of runs in runs up to the token i.
  pub data State (lo i : ℕ) (o p : Option Found) : Type 0 where
    nothing : o ≡ None → p ≡ None → State lo i o p
    stays : (k : IsKept o p) → k.one.it.name < lo → State lo i o p
    anew : (k : IsAgain o p) → k.was.it.name < lo → k.gap.upto ≤ i → State lo i o p
    lost : (k : IsLost o p) → k.was.it.name < lo → k.gap.upto ≤ i → State lo i o p

  state_later : (lo hi i j : ℕ) (o p : Option Found) → lo ≤ hi → i ≤ j → State lo i o p → State hi j o p
  state_later lo hi i j o p a b (nothing e f) = nothing e f
  state_later lo hi i j o p a b (stays k lt) = stays k (omega (arith, a, lt))
  state_later lo hi i j o p a b (anew k lt le) = anew k (omega (arith, a, lt)) (omega (arith, b, le))
  state_later lo hi i j o p a b (lost k lt le) = lost k (omega (arith, a, lt)) (omega (arith, b, le))

  module _ (up : (x y : ℕ) → AtEdge gaps x → AtEdge gaps y → x < y → v x < v y) (t u : ℕ) (alike : LieAlike t u) (w : List ℕ) where
    -- what stays hits where it did
    hit_same : (d : Found) → DeclarationStays gaps d.it → hit u w (placed_at d) ≡ hit t w d
    hit_same d s = by d.it.block
      where
        by : (b : Block) → (is_local 0 (extent_by d.file (carried_scope v d.it.scope) (carried_block v b)) && (same_text d.name w && covers (extent_by d.file (carried_scope v d.it.scope) (carried_block v b)) 0 u))
            ≡ (is_local 0 (extent_by d.file d.it.scope b) && (same_text d.name w && covers (extent_by d.file d.it.scope b) 0 t))
        by block.Package = refl
        by (block.Local i) =
            ap (λ c. nat_eq d.file 0 && (same_text d.name w && ((nat_eq d.file 0 && c) && nat_lt u (v d.it.scope.to)))) (alike.from d.it.scope.from s.from)
            ∙ ap (λ c. nat_eq d.file 0 && (same_text d.name w && ((nat_eq d.file 0 && nat_le d.it.scope.from t) && c))) (alike.to d.it.scope.to s.to)

    inside_same : (d e : Found) → DeclarationStays gaps d.it → DeclarationStays gaps e.it → lies_inside (extent_of (placed_at d)) (extent_of (placed_at e)) ≡ lies_inside (extent_of d) (extent_of e)
    inside_same d e s r = by d.it.block e.it.block
      where
        by : (b c : Block) → lies_inside (extent_by d.file (carried_scope v d.it.scope) (carried_block v b)) (extent_by e.file (carried_scope v e.it.scope) (carried_block v c)) ≡ lies_inside (extent_by d.file d.it.scope b) (extent_by e.file e.it.scope c)
        by b block.Package = refl
        by block.Package (block.Local i) = refl
        by (block.Local j) (block.Local i) =
            ap (λ x. (nat_eq d.file e.file && x) && nat_le (v d.it.scope.to) (v e.it.scope.to)) (same_le v (AtEdge gaps) up e.it.scope.from d.it.scope.from r.from s.from)
            ∙ ap (λ x. (nat_eq d.file e.file && nat_le e.it.scope.from d.it.scope.from) && x) (same_le v (AtEdge gaps) up d.it.scope.to e.it.scope.to s.to r.to)

    placed_local : (b : Block) → is_package b ≡ false → is_package (carried_block v b) ≡ false
    placed_local block.Package e = e
    placed_local (block.Local i) e = refl

    name_before : (d : Found) → DeclarationStays gaps d.it → is_package d.it.block ≡ false → d.it.name ≤ d.it.scope.from
    name_before d s l = by d.it.block d.it.entity s.follows.0 l
      where
        by : (b : Block) (e : Entity) → BeginsIn b e d.it.name d.it.scope.from → is_package b ≡ false → d.it.name ≤ d.it.scope.from
        by block.Package e h k = cc
        by (block.Local i) entity.Type h k = omega (arith, h)
        by (block.Local i) entity.Function h k = absurd h
        by (block.Local i) e h k = omega (arith, h)

    name_edge : (d : Found) → DeclarationStays gaps d.it → AtEdge gaps d.it.name
    name_edge d s = stays_edge gaps d.it.name s.name

    gap_of : (d : Found) (g : Gap) (gs : List Gap) → EachGap (IsApart d.it) gs → Among g gs → IsApart d.it g
    gap_of d g [] h k = absurd k
    gap_of d g (f ∷ gs) h (inl q) = subst (IsApart d.it) (sym q) h.0
    gap_of d g (f ∷ gs) h (inr k) = gap_of d g gs h.1 k

    holds_less : (o : Option Found) (a b : ℕ) → a < b → HoldsOf (λ x. x.it.scope.from ≤ a) o → HoldsOf (λ x. x.it.scope.from < b) o
    holds_less None a b lt h = tt
    holds_less (Some x) a b lt h = omega (arith, lt, h)

    holds_up : (o : Option Found) (a b : ℕ) → a ≤ b → HoldsOf (λ x. x.it.scope.from ≤ a) o → HoldsOf (λ x. x.it.scope.from ≤ b) o
    holds_up None a b le h = tt
    holds_up (Some x) a b le h = omega (arith, le, h)

    -- what stays behind a run begins behind it
    behind_run : (g : Gap) (e : Found) (x : ℕ) → Among g gaps → DeclarationStays gaps e.it → is_package e.it.block ≡ false → g.from ≤ x → x < e.it.name → g.upto < e.it.name
    behind_run g e x k s l a b = by (gap_of e g gaps (s.apart l) k) (name_before e s l)
      where
        by : (e.it.scope.from ≤ g.from) ⊎ (g.upto < e.it.name) → e.it.name ≤ e.it.scope.from → g.upto < e.it.name
        by (inl le) n = absurd (omega (arith, le, n, a, b))
        by (inr lt) n = lt

    -- one that stays and hits
    keeps : (lo i : ℕ) (o p : Option Found) (e : Found) → State lo i o p → lo ≤ e.it.name → DeclarationStays gaps e.it → hit t w e ≡ true → State (suc e.it.name) i (inner_of o e) (inner_of p (placed_at e))
    keeps lo i o p e (nothing a b) le s h =
        let x = hit_tells t w e h in
        stays (record { one = e; old = ap (λ z. inner_of z e) a; new = ap (λ z. inner_of z (placed_at e)) b; stays = s; local = x.local }) (omega arith)
    keeps lo i o p e (stays k lt) le s h = by (lies_inside (extent_of k.one) (extent_of e)) refl (inside_same k.one e k.stays s) ((hit_tells t w e h).local)
      where
        by : (b : Bool) → lies_inside (extent_of k.one) (extent_of e) ≡ b → lies_inside (extent_of (placed_at k.one)) (extent_of (placed_at e)) ≡ lies_inside (extent_of k.one) (extent_of e) → is_package e.it.block ≡ false
            → State (suc e.it.name) i (inner_of o e) (inner_of p (placed_at e))
        by true q r l =
            stays (record {
              one = k.one;
              old = ap (λ z. inner_of z e) k.old ∙ ap (λ b. if b then Some k.one else Some e) q;
              new = ap (λ z. inner_of z (placed_at e)) k.new ∙ ap (λ b. if b then Some (placed_at k.one) else Some (placed_at e)) (r ∙ q);
              stays = k.stays;
              local = k.local;
            }) (omega (arith, lt, le))
        by false q r l =
            stays (record {
              one = e;
              old = ap (λ z. inner_of z e) k.old ∙ ap (λ b. if b then Some k.one else Some e) q;
              new = ap (λ z. inner_of z (placed_at e)) k.new ∙ ap (λ b. if b then Some (placed_at k.one) else Some (placed_at e)) (r ∙ q);
              stays = s;
              local = l;
            }) (omega arith)
    keeps lo i o p e (anew k lt b) le s h =
        let x = hit_tells t w e h in
        let r : k.gap.upto < e.it.name = behind_run k.gap e k.was.it.name k.listed s x.local k.in_run.0 (omega (arith, lt, le)) in
        let n : e.it.name ≤ e.it.scope.from = name_before e s x.local in
        let f : v k.gap.upto < v e.it.name = up k.gap.upto e.it.name k.placed.upto (name_edge e s) r in
        let m : v e.it.name ≤ v e.it.scope.from = mono v (AtEdge gaps) up e.it.name e.it.scope.from (name_edge e s) s.from n in
        let z : k.was.it.scope.from ≤ k.gap.upto = k.begins in
        let y : k.one.it.scope.from ≤ v k.gap.upto = k.begins_new in
        stays (record {
          one = e;
          old = takes o e x.local (subst (HoldsOf (λ d. d.it.scope.from < e.it.scope.from)) (sym k.old) (omega (arith, z, r, n)));
          new = takes p (placed_at e) (placed_local e.it.block x.local) (subst (HoldsOf (λ d. d.it.scope.from < v e.it.scope.from)) (sym k.new) (omega (arith, y, f, m)));
          stays = s;
          local = x.local;
        }) (omega arith)
    keeps lo i o p e (lost k lt b) le s h =
        let x = hit_tells t w e h in
        let r : k.gap.upto < e.it.name = behind_run k.gap e k.was.it.name k.listed s x.local k.in_run.0 (omega (arith, lt, le)) in
        let n : e.it.name ≤ e.it.scope.from = name_before e s x.local in
        let f : v k.gap.upto < v e.it.name = up k.gap.upto e.it.name k.placed.upto (name_edge e s) r in
        let m : v e.it.name ≤ v e.it.scope.from = mono v (AtEdge gaps) up e.it.name e.it.scope.from (name_edge e s) s.from n in
        let z : k.was.it.scope.from ≤ k.gap.upto = k.begins in
        stays (record {
          one = e;
          old = takes o e x.local (subst (HoldsOf (λ d. d.it.scope.from < e.it.scope.from)) (sym k.old) (omega (arith, z, r, n)));
          new = takes p (placed_at e) (placed_local e.it.block x.local) (holds_less p (v k.gap.upto) (v e.it.scope.from) (omega (arith, f, m)) k.others);
          stays = s;
          local = x.local;
        }) (omega arith)

    step_same : (lo i : ℕ) (o p : Option Found) (e : Found) → State lo i o p → lo ≤ e.it.name → DeclarationStays gaps e.it → State (suc e.it.name) i (over_of t w o e) (over_of u w p (placed_at e))
    step_same lo i o p e st le s = subst (λ c. State (suc e.it.name) i (over_of t w o e) (if c then inner_of p (placed_at e) else p)) (sym (hit_same e s)) (by (hit t w e) refl (keeps lo i o p e st le s))
      where
        by : (b : Bool) → hit t w e ≡ b → (hit t w e ≡ true → State (suc e.it.name) i (inner_of o e) (inner_of p (placed_at e))) → State (suc e.it.name) i (if b then inner_of o e else o) (if b then inner_of p (placed_at e) else p)
        by true q go = go q
        by false q go = state_later lo (suc e.it.name) i i o p (omega (arith, le)) (omega arith) st

    -- what comes next, behind the token hi
    record Next (rest : List Found) (i : ℕ) (o p : Option Found) : Type 0 where
      high : ℕ
      rises : RiseFrom high rest
      state : State high i o p

    go_same : (ds rest : List Found) (lo i : ℕ) (o p : Option Found) → State lo i o p → RiseFrom lo (ds ++ rest) → Every (λ d. DeclarationStays gaps d.it) ds → Next rest i (innermost_of t w o ds) (innermost_of u w p (map placed_at ds))
    go_same [] rest lo i o p st r h = record { high = lo; rises = r; state = st }
    go_same (d ∷ ds) rest lo i o p st r h = go_same ds rest (suc d.it.name) i (over_of t w o d) (over_of u w p (placed_at d)) (step_same lo i o p d st r.0 h.0) r.1 h.1

    -- ---- a run and its gap

    rise_behind : (lo : ℕ) (ds rest : List Found) → RiseFrom lo (ds ++ rest) → (hi : ℕ) × (lo ≤ hi) × RiseFrom hi rest × Every (λ d. (lo ≤ d.it.name) × (d.it.name < hi)) ds
    rise_behind lo [] rest r = (lo, omega arith, r, tt)
    rise_behind lo (d ∷ ds) rest r =
        let x = rise_behind (suc d.it.name) ds rest r.1 in
        let a : lo ≤ d.it.name = r.0 in
        let b : suc d.it.name ≤ x.0 = x.1 in
        (x.0, omega (arith, a, b), x.2, ((a, omega (arith, b)), every_map (λ e. (suc d.it.name ≤ e.it.name) × (e.it.name < x.0)) (λ e. (lo ≤ e.it.name) × (e.it.name < x.0)) ds (λ e y. (let c : suc d.it.name ≤ e.it.name = y.0 in omega (arith, a, c), y.1)) x.3))

    rise_front : (lo : ℕ) (ds rest : List Found) → RiseFrom lo (ds ++ rest) → RiseFrom lo ds
    rise_front lo [] rest r = tt
    rise_front lo (d ∷ ds) rest r = (r.0, rise_front (suc d.it.name) ds rest r.1)

    later : (lo : ℕ) (ds : List Found) → RiseFrom lo ds → (y : Found) → Among y ds → lo ≤ y.it.name
    later lo [] r y j = absurd j
    later lo (d ∷ ds) r y (inl q) = subst (λ (z : Found). lo ≤ z.it.name) (sym q) r.0
    later lo (d ∷ ds) r y (inr j) = let a : lo ≤ d.it.name = r.0 in let b : suc d.it.name ≤ y.it.name = later (suc d.it.name) ds r.1 y j in omega (arith, a, b)

    one_name : (lo : ℕ) (ds : List Found) → RiseFrom lo ds → (x y : Found) → Among x ds → Among y ds → x.it.name ≡ y.it.name → x ≡ y
    one_name lo [] r x y i j e = absurd i
    one_name lo (d ∷ ds) r x y (inl i) (inl j) e = i ∙ sym j
    one_name lo (d ∷ ds) r x y (inl i) (inr j) e = absurd (let a : suc d.it.name ≤ y.it.name = later (suc d.it.name) ds r.1 y j in let b : x.it.name ≡ d.it.name = ap (λ (z : Found). z.it.name) i in omega (arith, a, b, e))
    one_name lo (d ∷ ds) r x y (inr i) (inl j) e = absurd (let a : suc d.it.name ≤ x.it.name = later (suc d.it.name) ds r.1 x i in let b : y.it.name ≡ d.it.name = ap (λ (z : Found). z.it.name) j in omega (arith, a, b, e))
    one_name lo (d ∷ ds) r x y (inr i) (inr j) e = one_name (suc d.it.name) ds r.1 x y i j e

    module _ (g : Gap) (old new : List Found) (gs : GapStands g old new) where
      not_hit : t ≤ g.from → Every (λ d. hit t w d ≡ false) old
      not_hit le = every_map (λ d. DeclarationGoes g gs.block gs.end d.it) (λ d. hit t w d ≡ false) old (λ d s. not_on (hit t w d) (λ e. let f : d.it.scope.from ≤ t = (hit_tells t w d e).from in let b : g.from < d.it.scope.from = s.behind in omega (arith, f, b, le))) gs.goes

      -- a local of the run that goes beyond it
      record Beyond (d : Found) : Type 0 where
        block : d.it.block ≡ gs.block
        to : d.it.scope.to ≡ gs.end
        from : d.it.scope.from ≤ g.upto

      beyond : (d : Found) → Among d old → g.upto < d.it.scope.to → Beyond d
      beyond d k lt = by (every_among (λ d. DeclarationGoes g gs.block gs.end d.it) d old gs.goes k).ends
        where
          by : (d.it.scope.to ≤ g.upto) ⊎ ((d.it.block ≡ gs.block) × (d.it.scope.to ≡ gs.end) × (d.it.scope.from ≤ g.upto)) → Beyond d
          by (inl le) = absurd (omega (arith, le, lt))
          by (inr x) = record { block = x.0; to = x.1; from = x.2 }

      module _ (le : g.upto ≤ t) (le_new : v g.upto ≤ u) where
        hit_beyond : (d : Found) → Among d old → hit t w d ≡ true → Beyond d
        hit_beyond d k e = beyond d k (let x : t < d.it.scope.to = (hit_tells t w d e).to in omega (arith, x, le))

        -- a test at the end of the block
        at_end : nat_lt u (v gs.end) ≡ nat_lt t gs.end
        at_end = alike.to gs.end gs.ends

        again_hit : (d : Found) (x : Again g old d) → hit u w d ≡ true → hit t w x.was ≡ true
        again_hit d x e =
            let h = hit_tells u w d e in
            let b : Beyond x.was = beyond x.was x.among x.beyond in
            let f : x.was.it.scope.from ≤ g.upto = b.from in
            let q : u < v gs.end = subst (λ z. u < z) (x.to ∙ ap v b.to) h.to in
            let r : t < gs.end = lt_true t gs.end (sym at_end ∙ is_lt u (v gs.end) q) in
            hit_told t w x.was (every_among (λ d. d.file ≡ 0) x.was old gs.files x.among) (every_among (λ d. DeclarationGoes g gs.block gs.end d.it) x.was old gs.goes x.among).local
            (subst (λ z. same_text z w ≡ true) x.text h.text) (omega (arith, f, le)) (subst (λ z. t < z) (sym b.to) r)

        hit_again : (d : Found) (x : Again g old d) → hit t w x.was ≡ true → hit u w d ≡ true
        hit_again d x e =
            let h = hit_tells t w x.was e in
            let b : Beyond x.was = beyond x.was x.among x.beyond in
            let q : t < gs.end = subst (λ z. t < z) b.to h.to in
            let r : u < v gs.end = lt_true u (v gs.end) (at_end ∙ is_lt t gs.end q) in
            let f : d.it.scope.from ≡ v g.from + x.again.begins = x.from in
            let n : x.again.begins ≤ length g.texts = x.before in
            let m : v g.upto ≡ v g.from + length g.texts = gs.moved in
            hit_told u w d x.file x.local (subst (λ z. same_text z w ≡ true) (sym x.text) h.text) (omega (arith, f, n, m, le_new)) (subst (λ z. u < z) (sym (x.to ∙ ap v b.to)) r)

        same_names : (d e : Found) → same_text d.name w ≡ true → same_text e.name w ≡ true → same_text e.name d.name ≡ true
        same_names d e a b =
            let p : d.name ≡ w = same_text-true d.name w a in
            let q : e.name ≡ w = same_text-true e.name w b in
            subst (λ z. same_text e.name z ≡ true) (sym p) b

        one_of_block : (d e : Found) → d.file ≡ 0 → e.file ≡ 0 → d.it.block ≡ e.it.block → is_package d.it.block ≡ false → same_block e d ≡ true
        one_of_block d e f g b l = subst (λ c. are_one_block e.file c d.file d.it.block ≡ true) b (by d.it.block l)
          where
            by : (c : Block) → is_package c ≡ false → are_one_block e.file c d.file c ≡ true
            by block.Package k = cc
            by (block.Local i) k = and_true (nat_eq e.file d.file) (nat_eq i i) (is_eq e.file d.file (g ∙ sym f)) (is_eq i i refl)

        no_parameters : (x y : Entity) → are_parameters y y ≡ false → are_parameters x y ≡ false
        no_parameters entity.Parameter entity.Parameter e = e
        no_parameters entity.Parameter y e = refl
        no_parameters x y e = refl

        no_two : (ds : List Found) → ((d : Found) → Among d ds → Among d old) → ClashFree ds → NoTwo t w ds
        no_two [] into c = tt
        no_two (d ∷ ds) into c = (λ h. others ds (λ e k. into e (inr k)) c.0 h, no_two ds (λ e k. into e (inr k)) c.1)
          where
            apart : (e : Found) → Among e old → clashes e d ≡ false → hit t w d ≡ true → hit t w e ≡ true → ⊥
            apart e k z h i =
                let x = hit_tells t w d h in
                let y = hit_tells t w e i in
                let b : Beyond d = hit_beyond d (into d (inl refl)) h in
                let f : Beyond e = hit_beyond e k i in
                let s : same_block e d ≡ true = one_of_block d e (every_among (λ d. d.file ≡ 0) d old gs.files (into d (inl refl))) (every_among (λ d. d.file ≡ 0) e old gs.files k) (b.block ∙ sym f.block) x.local in
                let n : are_parameters e.it.entity d.it.entity ≡ false = no_parameters e.it.entity d.it.entity (every_among (λ d. DeclarationGoes g gs.block gs.end d.it) d old gs.goes (into d (inl refl))).variety in
                on_off (clashes e d) (and_true (same_text e.name d.name && same_block e d) (not (are_parameters e.it.entity d.it.entity)) (and_true (same_text e.name d.name) (same_block e d) (same_names d e x.text y.text) s) (ap not n)) z

            others : (es : List Found) → ((e : Found) → Among e es → Among e old) → Every (λ e. clashes e d ≡ false) es → hit t w d ≡ true → Every (λ e. hit t w e ≡ false) es
            others [] into c h = tt
            others (e ∷ es) into c h = (not_on (hit t w e) (apart e (into e (inl refl)) c.0 h), others es (λ x k. into x (inr k)) c.1 h)

        two_are : NoTwo t w old → (d e : Found) → Again g old d → Again g old e → hit u w d ≡ true → hit u w e ≡ true → d.it.name ≡ e.it.name
        two_are n d e x y h i =
            let same : x.was ≡ y.was = one_hit t w old n x.was y.was x.among y.among (again_hit d x h) (again_hit e y i) in
            let z : x.again ≡ y.again = gs.once x.again y.again x.listed y.listed (inl (sym x.named ∙ ap (λ (z : Found). z.it.name) same ∙ y.named)) in
            x.name ∙ ap (λ (r : Redeclared). v g.from + r.token) z ∙ sym y.name

        no_two_new : NoTwo t w old → (lo : ℕ) (ds : List Found) → RiseFrom lo ds → Every (Again g old) ds → NoTwo u w ds
        no_two_new n lo [] r a = tt
        no_two_new n lo (d ∷ ds) r a = (λ h. others (suc d.it.name) ds r.1 a.1 (omega arith) h, no_two_new n (suc d.it.name) ds r.1 a.1)
          where
            others : (hi : ℕ) (es : List Found) → RiseFrom hi es → Every (Again g old) es → d.it.name < hi → hit u w d ≡ true → Every (λ e. hit u w e ≡ false) es
            others hi [] r a lt h = tt
            others hi (e ∷ es) r b lt h =
                let le : hi ≤ e.it.name = r.0 in
                (not_on (hit u w e) (λ i. let q : d.it.name ≡ e.it.name = two_are n d e a.0 b.0 h i in omega (arith, q, le, lt)), others (suc e.it.name) es r.1 b.1 (omega (arith, le, lt)) h)

      -- what is meant in front of the run begins in front of it
      front : (lo i : ℕ) (o p : Option Found) → State lo i o p → i ≤ g.from → lo < g.upto → HoldsOf (λ x. x.it.scope.from ≤ g.from) o × HoldsOf (λ x. x.it.scope.from ≤ v g.from) p
      front lo i o p (nothing e f) a b = (subst (HoldsOf (λ x. x.it.scope.from ≤ g.from)) (sym e) tt, subst (HoldsOf (λ x. x.it.scope.from ≤ v g.from)) (sym f) tt)
      front lo i o p (stays k lt) a b = by (gap_of k.one g gaps (k.stays.apart k.local) gs.listed)
        where
          by : (k.one.it.scope.from ≤ g.from) ⊎ (g.upto < k.one.it.name) → HoldsOf (λ x. x.it.scope.from ≤ g.from) o × HoldsOf (λ x. x.it.scope.from ≤ v g.from) p
          by (inl le) = (
            subst (HoldsOf (λ x. x.it.scope.from ≤ g.from)) (sym k.old) le,
            subst (HoldsOf (λ x. x.it.scope.from ≤ v g.from)) (sym k.new) (mono v (AtEdge gaps) up k.one.it.scope.from g.from k.stays.from gs.placed.from le),
          )
          by (inr less) = absurd (omega (arith, less, lt, b))
      front lo i o p (anew k lt c) a b =
          let m : v k.gap.upto ≤ v g.from = mono v (AtEdge gaps) up k.gap.upto g.from k.placed.upto gs.placed.from (omega (arith, a, c)) in
          let x : k.was.it.scope.from ≤ k.gap.upto = k.begins in
          let y : k.one.it.scope.from ≤ v k.gap.upto = k.begins_new in
          (subst (HoldsOf (λ x. x.it.scope.from ≤ g.from)) (sym k.old) (omega (arith, a, c, x)), subst (HoldsOf (λ x. x.it.scope.from ≤ v g.from)) (sym k.new) (omega (arith, m, y)))
      front lo i o p (lost k lt c) a b =
          let m : v k.gap.upto ≤ v g.from = mono v (AtEdge gaps) up k.gap.upto g.from k.placed.upto gs.placed.from (omega (arith, a, c)) in
          let x : k.was.it.scope.from ≤ k.gap.upto = k.begins in
          (subst (HoldsOf (λ x. x.it.scope.from ≤ g.from)) (sym k.old) (omega (arith, a, c, x)), holds_up p (v k.gap.upto) (v g.from) m k.others)

      stay : (rest : List Found) (lo i : ℕ) (o p : Option Found) → State lo i o p → i ≤ g.from → RiseFrom lo (old ++ rest) → innermost_of t w o old ≡ o → innermost_of u w p new ≡ p → Next rest g.upto (innermost_of t w o old) (innermost_of u w p new)
      stay rest lo i o p st le r e f =
          let x = rise_behind lo old rest r in
          let wide : g.from < g.upto = gs.placed.wide in
          record { high = x.0; rises = x.2; state = subst (λ z. State x.0 g.upto z (innermost_of u w p new)) (sym e) (subst (State x.0 g.upto o) (sym f) (state_later lo x.0 i g.upto o p x.1 (omega (arith, le, wide)) st)) }

      -- a local of the run hits
      record HitsOld (lo hi : ℕ) (o p : Option Found) (one : Found) : Type 0 where
        name : (lo ≤ one.it.name) × (one.it.name < hi)
        goes : DeclarationGoes g gs.block gs.end one.it
        beyond : Beyond one
        local : is_package one.it.block ≡ false
        taken : inner_of o one ≡ Some one
        front : HoldsOf (λ x. x.it.scope.from ≤ v g.from) p

      hits_old : (le : g.upto ≤ t) (rest : List Found) (lo i hi : ℕ) (o p : Option Found) → State lo i o p → i ≤ g.from → Every (λ d. (lo ≤ d.it.name) × (d.it.name < hi)) old → (one : Found) → Among one old → hit t w one ≡ true → HitsOld lo hi o p one
      hits_old le rest lo i hi o p st below names one k e =
          let n = every_among (λ d. (lo ≤ d.it.name) × (d.it.name < hi)) one old names k in
          let q : DeclarationGoes g gs.block gs.end one.it = every_among (λ d. DeclarationGoes g gs.block gs.end d.it) one old gs.goes k in
          let h = hit_tells t w one e in
          let end : t < one.it.scope.to = h.to in
          let a : lo ≤ one.it.name = n.0 in
          let b : one.it.name < g.upto = q.name.1 in
          let f = front lo i o p st below (omega (arith, a, b)) in
          record { name = n; goes = q; beyond = beyond one k (omega (arith, end, le)); local = h.local; taken = takes o one h.local (holds_less o g.from one.it.scope.from q.behind f.0); front = f.1 }

      crossing : g.upto ≤ t → v g.upto ≤ u → (rest : List Found) (lo i : ℕ) (o p : Option Found) → State lo i o p → i ≤ g.from → RiseFrom lo (old ++ rest) → Next rest g.upto (innermost_of t w o old) (innermost_of u w p new)
      crossing le le_new rest lo i o p st below r =
          let n : NoTwo t w old = no_two le le_new old (λ d k. k) gs.free in
          let x = rise_behind lo old rest r in
          by n x.0 x.2 x.3 (hitting t w old n) (hitting u w new (no_two_new le le_new n gs.low new gs.rises gs.again))
        where
          by : NoTwo t w old → (hi : ℕ) → RiseFrom hi rest → Every (λ d. (lo ≤ d.it.name) × (d.it.name < hi)) old → Hitting t w old → Hitting u w new → Next rest g.upto (innermost_of t w o old) (innermost_of u w p new)
          by n hi rises names (inl a) (inl b) = stay rest lo i o p st below r (a.1 o) (b.1 p)
          by n hi rises names (inl a) (inr b) =
              let y : Again g old b.one = every_among (Again g old) b.one new gs.again b.among in
              absurd (on_off (hit t w y.was) (again_hit le le_new b.one y b.hits) (every_among (λ d. hit t w d ≡ false) y.was old a.0 y.among))
          by n hi rises names (inr a) (inl b) =
              let h : HitsOld lo hi o p a.one = hits_old le rest lo i hi o p st below names a.one a.among a.hits in
              let wide : g.from < g.upto = gs.placed.wide in
              record {
                high = hi;
                rises = rises;
                state =
                    lost
                    (record {
                      gap = g;
                      listed = gs.listed;
                      placed = gs.placed;
                      was = a.one;
                      old = a.folded o ∙ h.taken;
                      in_run = h.goes.name;
                      begins = h.beyond.from;
                      others = subst (HoldsOf (λ x. x.it.scope.from ≤ v g.upto)) (sym (b.1 p)) (holds_up p (v g.from) (v g.upto) (mono v (AtEdge gaps) up g.from g.upto gs.placed.from gs.placed.upto (omega (arith, wide))) h.front);
                      gone =
                          λ z k e.
                          let d = gs.all z k in
                          let y : Again g old d.0 = every_among (Again g old) d.0 new gs.again d.1 in
                          let na : d.0.it.name ≡ v g.from + y.again.token = y.name in
                          let nb : d.0.it.name ≡ v g.from + z.token = d.2 in
                          let q : y.again ≡ z = gs.once y.again z y.listed k (inr (omega (arith, na, nb))) in
                          let m : y.was.it.name ≡ a.one.it.name = y.named ∙ ap (λ (r : Redeclared). r.old) q ∙ e in
                          let same : y.was ≡ a.one = one_name lo old (rise_front lo old rest r) y.was a.one y.among a.among m in
                          on_off (hit u w d.0) (hit_again le le_new d.0 y (subst (λ (f : Found). hit t w f ≡ true) (sym same) a.hits)) (every_among (λ d. hit u w d ≡ false) d.0 new b.0 d.1);
                    })
                    h.name.1 (omega arith);
              }
          by n hi rises names (inr a) (inr b) =
              let h : HitsOld lo hi o p a.one = hits_old le rest lo i hi o p st below names a.one a.among a.hits in
              let y : Again g old b.one = every_among (Again g old) b.one new gs.again b.among in
              let same : y.was ≡ a.one = one_hit t w old n y.was a.one y.among a.among (again_hit le le_new b.one y b.hits) a.hits in
              let f : b.one.it.scope.from ≡ v g.from + y.again.begins = y.from in
              let c : y.again.token < y.again.begins = y.behind in
              let d : y.again.begins ≤ length g.texts = y.before in
              let m : v g.upto ≡ v g.from + length g.texts = gs.moved in
              record {
                high = hi;
                rises = rises;
                state =
                    anew
                    (record {
                      gap = g;
                      listed = gs.listed;
                      placed = gs.placed;
                      was = a.one;
                      one = b.one;
                      old = a.folded o ∙ h.taken;
                      new = b.folded p ∙ takes p b.one y.local (holds_less p (v g.from) b.one.it.scope.from (omega (arith, f, c)) h.front);
                      in_run = h.goes.name;
                      local = h.local;
                      local_new = y.local;
                      begins = h.beyond.from;
                      begins_new = omega (arith, f, d, m);
                      again = y.again;
                      is_listed = y.listed;
                      named = ap (λ (f : Found). f.it.name) (sym same) ∙ y.named;
                      name = y.name;
                      once = gs.once;
                    })
                    h.name.1 (omega arith);
              }

      go_gap : (rest : List Found) (lo i : ℕ) (o p : Option Found) → State lo i o p → i ≤ g.from → RiseFrom lo (old ++ rest) → Side t u w g new → Next rest g.upto (innermost_of t w o old) (innermost_of u w p new)
      go_gap rest lo i o p st le r (inl x) = stay rest lo i o p st le r (none_hit t w o old (not_hit x.0)) (none_hit u w p new x.1)
      go_gap rest lo i o p st le r (inr x) = crossing x.0 x.1 rest lo i o p st le r

    -- the innermost declarations of all rows
    pub rows_fold : (rs : List Row) (lo i : ℕ) (o p : Option Found) → State lo i o p → RowsStand i rs → RiseFrom lo (old_row rs) → Sides t u w rs → (hi : ℕ) × (j : ℕ) × State hi j (innermost_of t w o (old_row rs)) (innermost_of u w p (new_row rs))
    rows_fold [] lo i o p st h r sd = (lo, i, st)
    rows_fold (same ds ∷ rs) lo i o p st h r sd =
        let n : Next (old_row rs) i (innermost_of t w o ds) (innermost_of u w p (map placed_at ds)) = go_same ds (old_row rs) lo i o p st r h.0 in
        let x = rows_fold rs n.high i (innermost_of t w o ds) (innermost_of u w p (map placed_at ds)) n.state h.1 n.rises sd in
        (x.0, x.1, subst (λ z. State x.0 x.1 z (innermost_of u w p (map placed_at ds ++ new_row rs))) (sym (innermost_both t w o ds (old_row rs))) (subst (State x.0 x.1 (innermost_of t w (innermost_of t w o ds) (old_row rs))) (sym (innermost_both u w p (map placed_at ds) (new_row rs))) x.2))
    rows_fold (other g old new ∷ rs) lo i o p st h r sd =
        let n : Next (old_row rs) g.upto (innermost_of t w o old) (innermost_of u w p new) = go_gap g old new h.1 (old_row rs) lo i o p st h.0 r sd.0 in
        let x = rows_fold rs n.high g.upto (innermost_of t w o old) (innermost_of u w p new) n.state h.2 n.rises sd.1 in
        (x.0, x.1, subst (λ z. State x.0 x.1 z (innermost_of u w p (new ++ new_row rs))) (sym (innermost_both t w o old (old_row rs))) (subst (State x.0 x.1 (innermost_of t w (innermost_of t w o old) (old_row rs))) (sym (innermost_both u w p new (new_row rs))) x.2))

-- ---- a name in a gap

every_both : {A : Type 0} (Q R : A → Type 0) (xs : List A) → Every Q xs → Every R xs → Every (λ x. Q x × R x) xs
every_both Q R [] h g = tt
every_both Q R (x ∷ xs) h g = ((h.0, g.0), every_both Q R xs h.1 g.1)

-- A name at the token u of the gap of g0 that is spelled like a local which the gap declares and which is in scope there.
module _ (v : ℕ → ℕ) (gaps : List Gap) (up : (x y : ℕ) → AtEdge gaps x → AtEdge gaps y → x < y → v x < v y) (g0 : Gap) (u : ℕ) (above : v g0.from ≤ u) (below : u < v g0.upto) (placed0 : Placed gaps g0) (alike : LieAlike v gaps g0.from u) (w : List ℕ) (one : Found) where
  -- the rows in front of the gap, the gap, and what stands behind
  abbrev Ahead : List Row → Type 0
  Ahead [] = Unit {0}
  Ahead (same ds ∷ rs) = Every (λ d. hit u w (placed_at v gaps d) ≡ false) ds × Ahead rs
  Ahead (other g old new ∷ rs) = Every (λ d. hit u w d ≡ false) new × Ahead rs

  ahead_fold : (rs : List Row) (p : Option Found) → Ahead rs → innermost_of u w p (new_row v gaps rs) ≡ p
  ahead_fold [] p h = refl
  ahead_fold (same ds ∷ rs) p h = innermost_both u w p (map (placed_at v gaps) ds) (new_row v gaps rs) ∙ ap (λ q. innermost_of u w q (new_row v gaps rs)) (kept_fold ds p h.0) ∙ ahead_fold rs p h.1
    where
      kept_fold : (ds : List Found) (p : Option Found) → Every (λ d. hit u w (placed_at v gaps d) ≡ false) ds → innermost_of u w p (map (placed_at v gaps) ds) ≡ p
      kept_fold [] p h = refl
      kept_fold (d ∷ ds) p h = ap (λ b. innermost_of u w (if b then inner_of p (placed_at v gaps d) else p) (map (placed_at v gaps) ds)) h.0 ∙ kept_fold ds p h.1
  ahead_fold (other g old new ∷ rs) p h = innermost_both u w p new (new_row v gaps rs) ∙ ap (λ q. innermost_of u w q (new_row v gaps rs)) (none_hit u w p new h.0) ∙ ahead_fold rs p h.1

  -- what stands behind the gap isn't in scope in it
  behind_rows : (rs : List Row) (i lo : ℕ) → g0.upto ≤ i → RowsStand v gaps i rs → RiseFrom lo (old_row rs) → g0.from < lo → Ahead rs
  behind_rows [] i lo le h r lt = tt
  behind_rows (same ds ∷ rs) i lo le h r lt =
      let x = rise_behind v gaps up g0.from u alike w lo ds (old_row rs) r in
      let n : lo ≤ x.0 = x.1 in (
        every_map (λ d. DeclarationStays gaps d.it × ((lo ≤ d.it.name) × (d.it.name < x.0))) (λ d. hit u w (placed_at v gaps d) ≡ false) ds
            (λ d y. hit_same v gaps up g0.from u alike w d y.0 ∙ not_on (hit g0.from w d) (λ e.
            let f : d.it.scope.from ≤ g0.from = (hit_tells g0.from w d e).from in
            let m : d.it.name ≤ d.it.scope.from = name_before v gaps up g0.from u alike w d y.0 (hit_tells g0.from w d e).local in
            let a : lo ≤ d.it.name = y.1.0 in
            omega (arith, f, m, a, lt))) (every_both (λ d. DeclarationStays gaps d.it) (λ d. (lo ≤ d.it.name) × (d.it.name < x.0)) ds h.0 x.3),
        behind_rows rs i x.0 le h.1 x.2 (omega (arith, lt, n)),
      )
  behind_rows (other g old new ∷ rs) i lo le h r lt =
      let x = rise_behind v gaps up g0.from u alike w lo old (old_row rs) r in
      let n : lo ≤ x.0 = x.1 in
      let a : i ≤ g.from = h.0 in
      let wide : g.from < g.upto = h.1.placed.wide in
      let m : v g0.upto ≤ v g.from = mono v (AtEdge gaps) up g0.upto g.from placed0.upto h.1.placed.from (omega (arith, le, a)) in (
        every_map (Again v gaps g old) (λ d. hit u w d ≡ false) new (λ d y. not_on (hit u w d) (λ e.
            let f : d.it.scope.from ≤ u = (hit_tells u w d e).from in
            let q : d.it.scope.from ≡ v g.from + y.again.begins = y.from in
            omega (arith, f, q, m, below))) h.1.again,
        behind_rows rs g.upto x.0 (omega (arith, le, a, wide)) h.2 x.2 (omega (arith, lt, n)),
      )

  -- the row of the gap has the declaration, and rows in front of it lie in front of it
  abbrev pub Reaching : List Row → Type 0
  Reaching [] = ⊥
  Reaching (same ds ∷ rs) = Reaching rs
  Reaching (other g old new ∷ rs) = ((g.upto ≤ g0.from) × Reaching rs) ⊎ ((g ≡ g0) × Among one new × (hit u w one ≡ true))

  here : (old new rest : List Found) (s : GapStands v gaps g0 old new) (lo i : ℕ) (o p : Option Found) → State v gaps lo i o p → i ≤ g0.from → RiseFrom lo (old ++ rest) → Among one new → hit u w one ≡ true → (innermost_of u w p new ≡ Some one) × (hi : ℕ) × (g0.from < hi) × RiseFrom hi rest
  here old new rest s lo i o p st le r k e =
      let y : Again v gaps g0 old one = every_among (Again v gaps g0 old) one new s.again k in
      let x = rise_behind v gaps up g0.from u alike w lo old rest r in
      let n = every_among (λ d. (lo ≤ d.it.name) × (d.it.name < x.0)) y.was old x.3 y.among in
      let q : DeclarationGoes g0 s.block s.end y.was.it = every_among (λ d. DeclarationGoes g0 s.block s.end d.it) y.was old s.goes y.among in
      let a : lo ≤ y.was.it.name = n.0 in
      let b : y.was.it.name < g0.upto = q.name.1 in
      let c : g0.from ≤ y.was.it.name = q.name.0 in
      let d : y.was.it.name < x.0 = n.1 in
      let z : one.it.scope.from ≡ v g0.from + y.again.begins = y.from in
      let lt : y.again.token < y.again.begins = y.behind in
      let f = (front v gaps up g0.from u alike w g0 old new s lo i o p st le (omega (arith, a, b))).1 in
      let hitting_new : Hitting u w new = hitting u w new (no_two_at old new s) in
      (by hitting_new ∙ takes p one y.local (holds_less v gaps up g0.from u alike w p (v g0.from) one.it.scope.from (omega (arith, z, lt)) f), x.0, omega (arith, c, d), x.2)
    where
      -- what hits in the gap hits behind it
      at_end : LieAlike v gaps g0.upto (v g0.upto)
      at_end = record { from = λ x e. same_le v (AtEdge gaps) up x g0.upto e placed0.upto; to = λ x e. same_lt v (AtEdge gaps) up g0.upto x placed0.upto e }

      later_hit : (old new : List Found) (s : GapStands v gaps g0 old new) (d : Found) → Again v gaps g0 old d → hit u w d ≡ true → hit (v g0.upto) w d ≡ true
      later_hit old new s d y e =
          let h = hit_tells u w d e in
          let b = beyond v gaps up g0.upto (v g0.upto) at_end w g0 old new s y.was y.among y.beyond in
          let z : d.it.scope.from ≡ v g0.from + y.again.begins = y.from in
          let n : y.again.begins ≤ length g0.texts = y.before in
          let m : v g0.upto ≡ v g0.from + length g0.texts = s.moved in
          let q : v g0.upto < v y.was.it.scope.to = up g0.upto y.was.it.scope.to placed0.upto (subst (AtEdge gaps) (sym b.to) s.ends) y.beyond in
          hit_told (v g0.upto) w d y.file y.local h.text (omega (arith, z, n, m)) (subst (λ x. v g0.upto < x) (sym y.to) q)

      fewer : (old new : List Found) (s : GapStands v gaps g0 old new) (ds : List Found) → Every (Again v gaps g0 old) ds → NoTwo (v g0.upto) w ds → NoTwo u w ds
      fewer old new s [] a h = tt
      fewer old new s (d ∷ ds) a h = (λ e. rest_off ds a.1 (h.0 (later_hit old new s d a.0 e)), fewer old new s ds a.1 h.1)
        where
          rest_off : (es : List Found) → Every (Again v gaps g0 old) es → Every (λ e. hit (v g0.upto) w e ≡ false) es → Every (λ e. hit u w e ≡ false) es
          rest_off [] a h = tt
          rest_off (e ∷ es) a h = (not_on (hit u w e) (λ q. on_off (hit (v g0.upto) w e) (later_hit old new s e a.0 q) h.0), rest_off es a.1 h.1)

      no_two_at : (old new : List Found) (s : GapStands v gaps g0 old new) → NoTwo u w new
      no_two_at old new s =
          let n : NoTwo g0.upto w old = no_two v gaps up g0.upto (v g0.upto) at_end w g0 old new s (omega arith) (omega arith) old (λ d k. k) s.free in
          fewer old new s new s.again (no_two_new v gaps up g0.upto (v g0.upto) at_end w g0 old new s (omega arith) (omega arith) n s.low new s.rises s.again)

      by : Hitting u w new → innermost_of u w p new ≡ inner_of p one
      by (inl z) = absurd (on_off (hit u w one) e (every_among (λ d. hit u w d ≡ false) one new z.0 k))
      by (inr z) = z.folded p ∙ ap (inner_of p) (one_hit u w new (no_two_at old new s) z.one one z.among k z.hits e)

  pub gap_fold : (rs : List Row) (lo i : ℕ) (o p : Option Found) → State v gaps lo i o p → RowsStand v gaps i rs → RiseFrom lo (old_row rs) → Reaching rs → innermost_of u w p (new_row v gaps rs) ≡ Some one
  gap_fold [] lo i o p st h r k = absurd k
  gap_fold (same ds ∷ rs) lo i o p st h r k =
      let n = go_same v gaps up g0.from u alike w ds (old_row rs) lo i o p st r h.0 in
      innermost_both u w p (map (placed_at v gaps) ds) (new_row v gaps rs) ∙ gap_fold rs n.high i (innermost_of g0.from w o ds) (innermost_of u w p (map (placed_at v gaps) ds)) n.state h.1 n.rises k
  gap_fold (other g old new ∷ rs) lo i o p st h r (inl k) =
      let m : v g.upto ≤ v g0.from = mono v (AtEdge gaps) up g.upto g0.from h.1.placed.upto placed0.from k.0 in
      let n = go_gap v gaps up g0.from u alike w g old new h.1 (old_row rs) lo i o p st h.0 r (inr (k.0, omega (arith, m, above))) in
      innermost_both u w p new (new_row v gaps rs) ∙ gap_fold rs n.high g.upto (innermost_of g0.from w o old) (innermost_of u w p new) n.state h.2 n.rises k.1
  gap_fold (other g old new ∷ rs) lo i o p st h r (inr k) =
      let s : GapStands v gaps g0 old new = subst (λ z. GapStands v gaps z old new) k.0 h.1 in
      let le : i ≤ g0.from = subst (λ (z : Gap). i ≤ z.from) k.0 h.0 in
      let x = here old new (old_row rs) s lo i o p st le r k.1 k.2 in
      let rest : RowsStand v gaps g0.upto rs = subst (λ (z : Gap). RowsStand v gaps z.upto rs) k.0 h.2 in
      innermost_both u w p new (new_row v gaps rs) ∙ ap (λ q. innermost_of u w q (new_row v gaps rs)) x.0 ∙ ahead_fold rs (Some one) (behind_rows rs g0.upto x.1 (omega arith) rest x.3 x.2)
