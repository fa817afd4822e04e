-- In a function with runs replaced, tokens mean what they have to.
use Rattle.std.proofs.Common.{◌≡◌, ◌∙◌, ℕ, ◌+◌, ◌<◌, ◌≤◌, ◌⊎◌, inl, inr, Bool, true, false, List, [], ◌∷◌, ◌++◌, length, map, Option, Some, None, refl, sym, ap, subst, arith}
use Rattle.std.specs.Prelude.{if◌then◌else◌, ◌&&◌, nat_eq, nat_le, nat_lt, option_map}
use Rattle.go_rewriting.specs.Places.{become}
use Rattle.go_tree.specs.declared.context.Block.{Block}
use Rattle.go_tree.specs.declared.context.Block.TheVariants as block
use Rattle.go_tree.specs.declared.event.Event.{Event}
use Rattle.go_tree.specs.declared.event.Event.TheVariants as event
use Rattle.go_tree.specs.declared.object.Object.{Object}
use Rattle.go_tree.specs.declared.object.Object.TheVariants as object
use Rattle.go_tree.specs.Contexts.{is_package, file_context}
use Rattle.go_tree.specs.Declarations.{Found}
use Rattle.go_tree.specs.Units.{is_blank}
use Rattle.go_heads.specs.Functions.{Alone}
use Rattle.go_heads.specs.Names.{own_text, own_declarations}
use Rattle.go_heads.proofs.Public.{Every, every_map}
use Rattle.go_scopes_bodies.specs.Carried.{carried_block, carried_event}
use Rattle.go_scopes_bodies.specs.Faults.{own_second_declarations}
use Rattle.go_scopes_bodies.specs.Meant.{Meant, own, outside, Outer, own_meant, own_object}
use Rattle.extract_names.specs.Gaps.{Redeclared, Gap, moved_by, Among, IsInRun, AreApart, Stays, AtEdge}
use Rattle.extract_names.specs.Pieces.{Piece, stays, gap, told_before, told_behind, TellsPieces}
use Rattle.extract_names.specs.Sites.{declared_at, DeclarationStays, EventStays, EachEvent, DeclarationGoes, EventGoes, EventIsNew, AllStand, IsSite, token_in, declared_behind, local_number, new_number, renamed}
use Rattle.extract_names.proofs.Edges.{is_le, not_le, is_lt, not_lt, is_eq, eq_true, not_eq, upto_moved, stays_edge, placed, mono, same_le, same_lt, same_eq}
use Rattle.extract_names.proofs.Founds.{RiseFrom, find, find_self, IsObject, object_found, object_none, hit, innermost_of, HoldsOf, innermost_holds, by_found, meant_is, Which, untold, looked_up, declaring, which, pick, first_of_two, object_is}
use Rattle.extract_names.proofs.Rows.{first_off, second_off, and_true, not_on, on_off, hit_tells, Row, same, other, old_row, new_row, placed_at, Again, GapStands, RowsStand, LieAlike, Side, Sides, IsLost, State, nothing, anew, lost, rows_fold}
use Rattle.extract_names.proofs.Rows as rows
use Rattle.extract_names.proofs.Replaced as replaced

pub token_is : (zs : List Redeclared) (z : Redeclared) (x : ℕ) → Among z zs → z.old ≡ x → ((y : Redeclared) → Among y zs → y.old ≡ x → y ≡ z) → token_in zs x ≡ z.token
token_is [] z x k e f = absurd k
token_is (y ∷ zs) z x k e f = by (nat_eq y.old x) refl k (λ m. token_is zs z x m e (λ u n. f u (inr n)))
  where
    by : (b : Bool) → nat_eq y.old x ≡ b → Among z (y ∷ zs) → (Among z zs → token_in zs x ≡ z.token) → (if b then y.token else token_in zs x) ≡ z.token
    by true q k go = ap (λ (r : Redeclared). r.token) (f y (inl refl) (eq_true y.old x q))
    by false q (inl p) go = absurd (on_off (nat_eq y.old x) (is_eq y.old x (ap (λ (r : Redeclared). r.old) (sym p) ∙ e)) q)
    by false q (inr m) go = go m

pub behind_stays : (v : ℕ → ℕ) (gs : List Gap) (x : ℕ) → Stays gs x → declared_behind v gs x ≡ v x
behind_stays v [] x h = refl
behind_stays v (g ∷ gs) x h = ap (λ b. if b then v g.from + token_in g.declared x else declared_behind v gs x) (by h.0) ∙ behind_stays v gs x h.1
  where
    by : (x < g.from) ⊎ (g.upto ≤ x) → (nat_le g.from x && nat_lt x g.upto) ≡ false
    by (inl lt) = first_off (nat_le g.from x) (nat_lt x g.upto) (not_le g.from x lt)
    by (inr le) = second_off (nat_le g.from x) (nat_lt x g.upto) (not_lt x g.upto le)

after : (gs : List Gap) (i : ℕ) → AreApart i gs → (g : Gap) → Among g gs → (i ≤ g.from) × (g.from < g.upto)
after [] i h g k = absurd k
after (f ∷ gs) i h g (inl e) = subst (λ (x : Gap). (i ≤ x.from) × (x.from < x.upto)) (sym e) (h.0, h.1)
after (f ∷ gs) i h g (inr k) =
    let r = after gs f.upto h.3 g k in
    let a : i ≤ f.from = h.0 in
    let b : f.from < f.upto = h.1 in
    let c : f.upto ≤ g.from = r.0 in
    (omega (arith, a, b, c), r.1)

pub behind_gap : (v : ℕ → ℕ) (gs : List Gap) (i x : ℕ) → AreApart i gs → (g : Gap) → Among g gs → IsInRun g x → declared_behind v gs x ≡ v g.from + token_in g.declared x
behind_gap v [] i x h g k r = absurd k
behind_gap v (f ∷ gs) i x h g (inl e) r = subst (λ (y : Gap). IsInRun y x → declared_behind v (f ∷ gs) x ≡ v y.from + token_in y.declared x) (sym e) here r
  where
    here : IsInRun f x → declared_behind v (f ∷ gs) x ≡ v f.from + token_in f.declared x
    here r = ap (λ b. if b then v f.from + token_in f.declared x else declared_behind v gs x) (and_true (nat_le f.from x) (nat_lt x f.upto) (is_le f.from x r.0) (is_lt x f.upto r.1))
behind_gap v (f ∷ gs) i x h g (inr k) r =
    let c : f.upto ≤ g.from = (after gs f.upto h.3 g k).0 in
    let lo : g.from ≤ x = r.0 in
    ap (λ b. if b then v f.from + token_in f.declared x else declared_behind v gs x) (second_off (nat_le f.from x) (nat_lt x f.upto) (not_lt x f.upto (omega (arith, c, lo)))) ∙ behind_gap v gs f.upto x h.3 g k r

module _ (a new : Alone) (outer : Outer) (gaps : List Gap) (site : IsSite a outer gaps new) (told : TellsPieces (moved_by gaps) (file_context 0) a.tree site.patch (become (moved_by gaps) a.tree site.patch)) (free : own_second_declarations a ≡ []) where
  abbrev v : ℕ → ℕ
  v = moved_by gaps

  abbrev old_events : List Event
  old_events = replaced.old_events a new outer gaps site told

  abbrev new_events : List Event
  new_events = replaced.new_events a new outer gaps site told

  abbrev all : List Row
  all = replaced.rows a new outer gaps site told

  up : (x y : ℕ) → AtEdge gaps x → AtEdge gaps y → x < y → v x < v y
  up = replaced.up a new outer gaps site told

  stand : RowsStand v gaps 1 all
  stand = replaced.all_rows a new outer gaps site told free

  abbrev D : List Found
  D = own_declarations a

  abbrev E : List Found
  E = own_declarations new

  abbrev number : ℕ → ℕ
  number n = new_number a gaps new n

  abbrev rename : Option Meant → Option Meant
  rename o = renamed a gaps new o

  -- objects of the same declaration
  pub objects_same : (x y : ℕ) (d e : Found) → find x D ≡ Some d → find y E ≡ Some e → y ≡ declared_behind v gaps x → is_package e.it.block ≡ is_package d.it.block → declared_at new y ≡ rename (declared_at a x)
  objects_same x y d e fd fe b p =
      by (object_found a site.itself (replaced.files_old a new outer gaps site told) x d fd) (object_found new site.new_itself (replaced.files_new a new outer gaps site told) y e fe)
    where
      by : IsObject a x d → IsObject new y e → declared_at new y ≡ rename (declared_at a x)
      by (inl m) (inl n) = n.1 ∙ sym (ap rename m.1)
      by (inl m) (inr n) = let z : is_package e.it.block ≡ true = p ∙ m.0 in let w : is_package e.it.block ≡ false = n.0 in cc
      by (inr m) (inl n) = let z : is_package e.it.block ≡ false = p ∙ m.0 in let w : is_package e.it.block ≡ true = n.0 in cc
      by (inr (l, i, f, t)) (inr (k, j, g, u)) =
          let q : number i ≡ j = ap (λ z. local_number (declared_at new (declared_behind v gaps z))) t ∙ ap (λ z. local_number (declared_at new z)) (sym b) ∙ ap local_number g in
          g ∙ ap (λ z. Some (own (object.Local 0 z))) (sym q) ∙ sym (ap rename f)

  found_old : (t : ℕ) (w : List ℕ) → HoldsOf (λ d. find d.it.name D ≡ Some d) (innermost_of t w None D)
  found_old t w = innermost_holds (λ d. find d.it.name D ≡ Some d) t w None D tt (every_map (λ d. (0 ≤ d.it.name) × (find d.it.name D ≡ Some d)) (λ d. hit t w d ≡ true → find d.it.name D ≡ Some d) D (λ d x h. x.1) (find_self 0 D (replaced.rises_old a new outer gaps site told)))

  found_new : (t : ℕ) (w : List ℕ) → HoldsOf (λ d. find d.it.name E ≡ Some d) (innermost_of t w None E)
  found_new t w = innermost_holds (λ d. find d.it.name E ≡ Some d) t w None E tt (every_map (λ d. (0 ≤ d.it.name) × (find d.it.name E ≡ Some d)) (λ d. hit t w d ≡ true → find d.it.name E ≡ Some d) E (λ d x h. x.1) (find_self 0 E (replaced.rises_new a new outer gaps site told)))

  -- ---- what a name means at two tokens that lie alike

  -- the name means a local of a run that is not declared in its gap
  pub record MeansLost (t : ℕ) (w : List ℕ) : Type 0 where
    pub gap : Gap
    pub listed : Among gap gaps
    pub token : ℕ
    pub in_run : IsInRun gap token
    pub it : Meant
    pub declared : declared_at a token ≡ Some it
    pub meant : own_meant a outer t w ≡ Some it
    pub gone : (z : Redeclared) → Among z gap.declared → z.old ≡ token → ⊥

  abbrev pub Outcome : ℕ → ℕ → List ℕ → Type 0
  Outcome t u w = (own_meant new outer u w ≡ rename (own_meant a outer t w)) ⊎ MeansLost t w

  outside_same : (x : Option Object) → option_map outside x ≡ rename (option_map outside x)
  outside_same None = refl
  outside_same (Some o) = refl

  unless_blank : (b : Bool) (p q : Option Meant) → p ≡ rename q → (if b then None else p) ≡ rename (if b then None else q)
  unless_blank true p q e = refl
  unless_blank false p q e = e

  module _ (t u : ℕ) (w : List ℕ) where
    abbrev o : Option Found
    o = innermost_of t w None D

    abbrev p : Option Found
    p = innermost_of u w None E

    old_meant : own_meant a outer t w ≡ (if is_blank w then None else by_found a o (outer w))
    old_meant = meant_is a outer 0 (replaced.rises_old a new outer gaps site told) (replaced.files_old a new outer gaps site told) t w

    new_meant : own_meant new outer u w ≡ (if is_blank w then None else by_found new p (outer w))
    new_meant = meant_is new outer 0 (replaced.rises_new a new outer gaps site told) (replaced.files_new a new outer gaps site told) u w

    alike : by_found new p (outer w) ≡ rename (by_found a o (outer w)) → Outcome t u w
    alike e = inl (new_meant ∙ unless_blank (is_blank w) (by_found new p (outer w)) (by_found a o (outer w)) e ∙ sym (ap rename old_meant))

    by_declared : (x y : Found) → o ≡ Some x → p ≡ Some y → y.it.name ≡ declared_behind v gaps x.it.name → is_package y.it.block ≡ is_package x.it.block → by_found new p (outer w) ≡ rename (by_found a o (outer w))
    by_declared x y e f n l =
        ap (λ z. by_found new z (outer w)) f
        ∙ objects_same x.it.name y.it.name x y (subst (HoldsOf (λ d. find d.it.name D ≡ Some d)) e (found_old t w)) (subst (HoldsOf (λ d. find d.it.name E ≡ Some d)) f (found_new u w)) n l
        ∙ sym (ap (λ z. rename (by_found a z (outer w))) e)

    some_object : (x : Found) → o ≡ Some x → (m : Meant) × (declared_at a x.it.name ≡ Some m)
    some_object x e = by (object_found a site.itself (replaced.files_old a new outer gaps site told) x.it.name x (subst (HoldsOf (λ d. find d.it.name D ≡ Some d)) e (found_old t w)))
      where
        by : IsObject a x.it.name x → (m : Meant) × (declared_at a x.it.name ≡ Some m)
        by (inl m) = (own (object.Package 0), m.1)
        by (inr m) = (own (object.Local 0 m.1), m.2)

    pub lost_means : is_blank w ≡ false → IsLost v gaps o p → MeansLost t w
    lost_means q k =
        let s = some_object k.was k.old in
        record {
          gap = k.gap;
          listed = k.listed;
          token = k.was.it.name;
          in_run = k.in_run;
          it = s.0;
          declared = s.1;
          meant = old_meant ∙ ap (λ b. if b then None else by_found a o (outer w)) q ∙ ap (λ z. by_found a z (outer w)) k.old ∙ s.1;
          gone = k.gone;
        }

    lost_or_blank : (b : Bool) → is_blank w ≡ b → IsLost v gaps o p → Outcome t u w
    lost_or_blank true q k = inl (new_meant ∙ ap (λ b. if b then None else by_found new p (outer w)) q ∙ sym (ap rename (old_meant ∙ ap (λ b. if b then None else by_found a o (outer w)) q)))
    lost_or_blank false q k = inr (lost_means q k)

    outcome : (hi j : ℕ) → State v gaps hi j o p → Outcome t u w
    outcome hi j (nothing e f) = alike (ap (λ z. by_found new z (outer w)) f ∙ outside_same (outer w) ∙ sym (ap (λ z. rename (by_found a z (outer w))) e))
    outcome hi j (rows.stays k lt) = alike (by_declared k.one (placed_at v gaps k.one) k.old k.new (sym (behind_stays v gaps k.one.it.name k.stays.name)) (carried_package k.one.it.block))
      where
        carried_package : (b : Block) → is_package (carried_block v b) ≡ is_package b
        carried_package block.Package = refl
        carried_package (block.Local i) = refl
    outcome hi j (anew k lt le) =
        let m : k.one.it.name ≡ v k.gap.from + k.again.token = k.name in
        let t : token_in k.gap.declared k.was.it.name ≡ k.again.token = token_is k.gap.declared k.again k.was.it.name k.is_listed (sym k.named) (λ y n e. k.once y k.again n k.is_listed (inl (e ∙ k.named))) in
        alike (by_declared k.was k.one k.old k.new (m ∙ ap (λ z. v k.gap.from + z) (sym t) ∙ sym (behind_gap v gaps 1 k.was.it.name site.apart k.gap k.listed k.in_run)) (k.local_new ∙ sym k.local))
    outcome hi j (lost k lt le) = lost_or_blank (is_blank w) refl k

    pub state_alike : LieAlike v gaps t u → Sides v gaps t u w all → (hi : ℕ) × (j : ℕ) × State v gaps hi j o p
    state_alike l s =
        let x = rows_fold v gaps up t u l w all 0 1 None None (nothing refl refl) stand (subst (RiseFrom 0) (replaced.old_whole a new outer gaps site told) (replaced.rises_old a new outer gaps site told)) s in
        (x.0, x.1, subst (λ z. State v gaps x.0 x.1 z p) (sym (ap (innermost_of t w None) (replaced.old_whole a new outer gaps site told))) (subst (State v gaps x.0 x.1 (innermost_of t w None (old_row all))) (sym (ap (innermost_of u w None) (replaced.new_whole a new outer gaps site told))) x.2))

    pub meant_alike : LieAlike v gaps t u → Sides v gaps t u w all → Outcome t u w
    meant_alike l s = let x = state_alike l s in outcome x.0 x.1 x.2

  -- ---- tokens that stay

  stays_at : (g : Gap) (gs : List Gap) (t : ℕ) → Stays gs t → Among g gs → (t < g.from) ⊎ (g.upto ≤ t)
  stays_at g [] t h k = absurd k
  stays_at g (f ∷ gs) t h (inl q) = subst (λ (z : Gap). (t < z.from) ⊎ (z.upto ≤ t)) (sym q) h.0
  stays_at g (f ∷ gs) t h (inr k) = stays_at g gs t h.1 k

  module _ (t : ℕ) (st : Stays gaps t) where
    edge : AtEdge gaps t
    edge = stays_edge gaps t st

    kept_alike : LieAlike v gaps t (v t)
    kept_alike = record { from = λ x e. same_le v (AtEdge gaps) up x t e edge; to = λ x e. same_lt v (AtEdge gaps) up t x edge e }

    kept_side : (w : List ℕ) (g : Gap) (old news : List Found) → GapStands v gaps g old news → Side v gaps t (v t) w g news
    kept_side w g old news s = by (stays_at g gaps t st s.listed)
      where
        by : (t < g.from) ⊎ (g.upto ≤ t) → Side v gaps t (v t) w g news
        by (inl lt) =
            let le : v t ≤ v g.from = mono v (AtEdge gaps) up t g.from edge s.placed.from (omega (arith, lt)) in
            inl (omega (arith, lt), every_map (Again v gaps g old) (λ d. hit (v t) w d ≡ false) news (λ d x. not_on (hit (v t) w d) (λ h. let f : d.it.scope.from ≤ v t = (hit_tells (v t) w d h).from in let n : d.it.scope.from ≡ v g.from + x.again.begins = x.from in let b : x.again.token < x.again.begins = x.behind in omega (arith, f, n, b, le))) s.again)
        by (inr le) = inr (le, mono v (AtEdge gaps) up g.upto t s.placed.upto edge le)

    kept_sides : (w : List ℕ) (rs : List Row) (i : ℕ) → RowsStand v gaps i rs → Sides v gaps t (v t) w rs
    kept_sides w [] i h = tt
    kept_sides w (same ds ∷ rs) i h = kept_sides w rs i h.1
    kept_sides w (other g old news ∷ rs) i h = (kept_side w g old news h.1, kept_sides w rs g.upto h.2)

    -- the innermost declarations of a name
    pub kept_state : (w : List ℕ) → (hi : ℕ) × (j : ℕ) × State v gaps hi j (innermost_of t w None D) (innermost_of (v t) w None E)
    kept_state w = state_alike t (v t) w kept_alike (kept_sides w all 1 stand)

    kept_meant : (w : List ℕ) → Outcome t (v t) w
    kept_meant w = meant_alike t (v t) w kept_alike (kept_sides w all 1 stand)

    -- which name is told of the token
    same_name : (x : ℕ) → Stays gaps x → nat_eq (v x) (v t) ≡ nat_eq x t
    same_name x s = same_eq v (AtEdge gaps) up x t (stays_edge gaps x s) edge

    which_stays : (es rest rest_new : List Event) → EachEvent (EventStays gaps) es → which (v t) rest_new ≡ which t rest → which (v t) (map (carried_event v) es ++ rest_new) ≡ which t (es ++ rest)
    which_stays [] rest rest_new h e = e
    which_stays (event.Use x ∷ es) rest rest_new h e = ap (λ b. if b then looked_up else which (v t) (map (carried_event v) es ++ rest_new)) (same_name x.name h.0.0) ∙ ap (λ z. if nat_eq x.name t then looked_up else z) (which_stays es rest rest_new h.1 e)
    which_stays (event.Declaration d ∷ es) rest rest_new h e = ap (λ b. if b then declaring else which (v t) (map (carried_event v) es ++ rest_new)) (same_name d.name h.0.name) ∙ ap (λ z. if nat_eq d.name t then declaring else z) (which_stays es rest rest_new h.1 e)
    which_stays (event.Import i ∷ es) rest rest_new h e = which_stays es rest rest_new h.1 e
    which_stays (event.Member m g i ∷ es) rest rest_new h e = which_stays es rest rest_new h.1 e
    which_stays (event.Bodiless i j ∷ es) rest rest_new h e = which_stays es rest rest_new h.1 e
    which_stays (event.Statement i j ∷ es) rest rest_new h e = which_stays es rest rest_new h.1 e
    which_stays (event.Misplaced i j ∷ es) rest rest_new h e = which_stays es rest rest_new h.1 e
    which_stays (event.SecondDefault i ∷ es) rest rest_new h e = which_stays es rest rest_new h.1 e

    which_off : (x y : ℕ) (w r : Which) → (x ≡ y → ⊥) → (if nat_eq x y then w else r) ≡ r
    which_off x y w r f = ap (λ b. if b then w else r) (not_eq x y f)

    not_in_run : (g : Gap) (x : ℕ) → Among g gaps → IsInRun g x → x ≡ t → ⊥
    not_in_run g x k r e = by (stays_at g gaps t st k)
      where
        by : (t < g.from) ⊎ (g.upto ≤ t) → ⊥
        by (inl lt) = let a : g.from ≤ x = r.0 in omega (arith, a, e, lt)
        by (inr le) = let a : x < g.upto = r.1 in omega (arith, a, e, le)

    which_gone : (g : Gap) (b : Block) (e : ℕ) (es rest : List Event) → Among g gaps → EachEvent (EventGoes g b e) es → which t (es ++ rest) ≡ which t rest
    which_gone g b e [] rest k h = refl
    which_gone g b e (event.Use x ∷ es) rest k h = which_off x.name t looked_up (which t (es ++ rest)) (not_in_run g x.name k h.0) ∙ which_gone g b e es rest k h.1
    which_gone g b e (event.Declaration d ∷ es) rest k h = which_off d.name t declaring (which t (es ++ rest)) (not_in_run g d.name k h.0.name) ∙ which_gone g b e es rest k h.1
    which_gone g b e (event.Import i ∷ es) rest k h = which_gone g b e es rest k h.1
    which_gone g b e (event.Member m i j ∷ es) rest k h = which_gone g b e es rest k h.1
    which_gone g b e (event.Bodiless i j ∷ es) rest k h = which_gone g b e es rest k h.1
    which_gone g b e (event.Statement i j ∷ es) rest k h = which_gone g b e es rest k h.1
    which_gone g b e (event.Misplaced i j ∷ es) rest k h = which_gone g b e es rest k h.1
    which_gone g b e (event.SecondDefault i ∷ es) rest k h = which_gone g b e es rest k h.1

    -- a new token of a gap is none that stays
    pub not_new : (g : Gap) (x i : ℕ) → Among g gaps → x ≡ v g.from + i → i < length g.texts → x ≡ v t → ⊥
    not_new g x i k e lt q = by (stays_at g gaps t st k)
      where
        by : (t < g.from) ⊎ (g.upto ≤ t) → ⊥
        by (inl less) = let n : v t < v g.from = up t g.from edge (placed gaps 1 site.apart g k).1.from less in omega (arith, n, e, q)
        by (inr le) =
            let n : v g.upto ≤ v t = mono v (AtEdge gaps) up g.upto t (placed gaps 1 site.apart g k).1.upto edge le in
            let m : v g.upto ≡ v g.from + length g.texts = upto_moved gaps 1 site.apart g k in
            omega (arith, n, m, e, q, lt)

    which_new : (g : Gap) (old es rest : List Event) → Among g gaps → EachEvent (EventIsNew a v g old) es → which (v t) (es ++ rest) ≡ which (v t) rest
    which_new g old [] rest k h = refl
    which_new g old (event.Use x ∷ es) rest k h = which_off x.name (v t) looked_up (which (v t) (es ++ rest)) (not_new g x.name h.0.token k h.0.name h.0.within) ∙ which_new g old es rest k h.1
    which_new g old (event.Declaration d ∷ es) rest k h =
        which_off d.name (v t) declaring (which (v t) (es ++ rest)) (not_new g d.name h.0.again.token k h.0.name (let a : h.0.again.token < h.0.again.begins = h.0.behind in let b : h.0.again.begins ≤ length g.texts = h.0.before in omega (arith, a, b)))
        ∙ which_new g old es rest k h.1
    which_new g old (event.Import i ∷ es) rest k h = absurd h.0
    which_new g old (event.Member m i j ∷ es) rest k h = which_new g old es rest k h.1
    which_new g old (event.Bodiless i j ∷ es) rest k h = absurd h.0
    which_new g old (event.Statement i j ∷ es) rest k h = which_new g old es rest k h.1
    which_new g old (event.Misplaced i j ∷ es) rest k h = absurd h.0
    which_new g old (event.SecondDefault i ∷ es) rest k h = absurd h.0

    which_pieces : (ps : List Piece) (gs : List Gap) → AllStand a new gaps gs ps → ((g : Gap) → Among g gs → Among g gaps) → which (v t) (told_behind v ps) ≡ which t (told_before ps)
    which_pieces [] gs h f = refl
    which_pieces (stays es ∷ ps) gs h f = which_stays es (told_before ps) (told_behind v ps) h.0 (which_pieces ps gs h.1 f)
    which_pieces (gap old news ∷ ps) [] h f = absurd h
    which_pieces (gap old news ∷ ps) (g ∷ gs) h f =
        which_new g old news (told_behind v ps) (f g (inl refl)) h.1.each ∙ which_pieces ps gs h.2 (λ x k. f x (inr k)) ∙ sym (which_gone g h.0.block h.0.end old (told_before ps) (f g (inl refl)) h.0.each)

    which_same : which (v t) new_events ≡ which t old_events
    which_same =
        ap (which (v t)) (replaced.behind a new outer gaps site told)
        ∙ which_pieces (replaced.all_pieces a new outer gaps site told) gaps site.stand (λ g k. k)
        ∙ sym (ap (which t) (replaced.before a new outer gaps site told))

    find_stays : (ds rest rest_new : List Found) → Every (λ d. DeclarationStays gaps d.it) ds → find (v t) rest_new ≡ option_map (placed_at v gaps) (find t rest) → find (v t) (map (placed_at v gaps) ds ++ rest_new) ≡ option_map (placed_at v gaps) (find t (ds ++ rest))
    find_stays [] rest rest_new h e = e
    find_stays (d ∷ ds) rest rest_new h e =
        ap (λ b. if b then Some (placed_at v gaps d) else find (v t) (map (placed_at v gaps) ds ++ rest_new)) (same_name d.it.name h.0.name)
        ∙ ap (λ z. if nat_eq d.it.name t then Some (placed_at v gaps d) else z) (find_stays ds rest rest_new h.1 e)
        ∙ by (nat_eq d.it.name t) (find t (ds ++ rest))
      where
        by : (b : Bool) (z : Option Found) → (if b then Some (placed_at v gaps d) else option_map (placed_at v gaps) z) ≡ option_map (placed_at v gaps) (if b then Some d else z)
        by true z = refl
        by false z = refl

    find_off : (x y : ℕ) (d : Found) (z : Option Found) → (x ≡ y → ⊥) → (if nat_eq x y then Some d else z) ≡ z
    find_off x y d z f = ap (λ b. if b then Some d else z) (not_eq x y f)

    find_gone : (g : Gap) (b : Block) (e : ℕ) (ds rest : List Found) → Among g gaps → Every (λ d. DeclarationGoes g b e d.it) ds → find t (ds ++ rest) ≡ find t rest
    find_gone g b e [] rest k h = refl
    find_gone g b e (d ∷ ds) rest k h = find_off d.it.name t d (find t (ds ++ rest)) (not_in_run g d.it.name k h.0.name) ∙ find_gone g b e ds rest k h.1

    find_new : (g : Gap) (old ds rest : List Found) → Among g gaps → Every (Again v gaps g old) ds → find (v t) (ds ++ rest) ≡ find (v t) rest
    find_new g old [] rest k h = refl
    find_new g old (d ∷ ds) rest k h =
        find_off d.it.name (v t) d (find (v t) (ds ++ rest)) (not_new g d.it.name h.0.again.token k h.0.name (let a : h.0.again.token < h.0.again.begins = h.0.behind in let b : h.0.again.begins ≤ length g.texts = h.0.before in omega (arith, a, b)))
        ∙ find_new g old ds rest k h.1

    find_rows : (rs : List Row) (i : ℕ) → RowsStand v gaps i rs → find (v t) (new_row v gaps rs) ≡ option_map (placed_at v gaps) (find t (old_row rs))
    find_rows [] i h = refl
    find_rows (same ds ∷ rs) i h = find_stays ds (old_row rs) (new_row v gaps rs) h.0 (find_rows rs i h.1)
    find_rows (other g old news ∷ rs) i h =
        find_new g old news (new_row v gaps rs) h.1.listed h.1.again
        ∙ find_rows rs g.upto h.2
        ∙ sym (ap (option_map (placed_at v gaps)) (find_gone g h.1.block h.1.end old (old_row rs) h.1.listed h.1.goes))

    find_same : find (v t) E ≡ option_map (placed_at v gaps) (find t D)
    find_same = ap (find (v t)) (replaced.new_whole a new outer gaps site told) ∙ find_rows all 1 stand ∙ sym (ap (λ ds. option_map (placed_at v gaps) (find t ds)) (replaced.old_whole a new outer gaps site told))

    -- what is declared at the token
    declared_same : declared_at new (v t) ≡ rename (declared_at a t)
    declared_same = by (find t D) refl find_same
      where
        carried_package : (b : Block) → is_package (carried_block v b) ≡ is_package b
        carried_package block.Package = refl
        carried_package (block.Local i) = refl

        by : (d : Option Found) → find t D ≡ d → find (v t) E ≡ option_map (placed_at v gaps) d → declared_at new (v t) ≡ rename (declared_at a t)
        by None e f = object_none new (replaced.files_new a new outer gaps site told) (v t) f ∙ sym (ap rename (object_none a (replaced.files_old a new outer gaps site told) t e))
        by (Some d) e f = objects_same t (v t) d (placed_at v gaps d) e f (sym (behind_stays v gaps t st)) (carried_package d.it.block)

    abbrev w : List ℕ
    w = own_text a t

    abbrev old_use : Option Meant
    old_use = own_meant a outer t w

    abbrev new_use : Option Meant
    new_use = own_meant new outer (v t) w

    old_is : own_object a outer t ≡ pick (which t old_events) old_use (first_of_two (declared_at a t) old_use)
    old_is = object_is a outer t old_use w refl

    new_is : own_object new outer (v t) ≡ pick (which t old_events) new_use (first_of_two (declared_at new (v t)) new_use)
    new_is =
        object_is new outer (v t) new_use (own_text new (v t)) (ap (own_meant new outer (v t)) (site.texts t st))
        ∙ ap (λ z. pick z new_use (first_of_two (declared_at new (v t)) new_use)) which_same

    -- a local of a run that the token names is needed
    pub not_lost : MeansLost t w → own_object a outer t ≡ old_use → ⊥
    not_lost k e = let y = site.needed k.gap k.listed k.token k.in_run k.it k.declared (inl (t, st, e ∙ k.meant)) in k.gone y.0 y.1 y.2

    pub kept_use : which t old_events ≡ looked_up → new_use ≡ rename old_use
    kept_use q = by (kept_meant w)
      where
        by : Outcome t (v t) w → new_use ≡ rename old_use
        by (inl e) = e
        by (inr k) = absurd (not_lost k (old_is ∙ ap (λ z. pick z old_use (first_of_two (declared_at a t) old_use)) q))

    pub kept : own_object new outer (v t) ≡ rename (own_object a outer t)
    kept = new_is ∙ by (which t old_events) (kept_meant w) (λ k e. not_lost k (old_is ∙ e)) ∙ sym (ap rename old_is)
      where
        first_same : (x : Which) → new_use ≡ rename old_use → pick x new_use (first_of_two (declared_at new (v t)) new_use) ≡ rename (pick x old_use (first_of_two (declared_at a t) old_use))
        first_same untold e = refl
        first_same looked_up e = e
        first_same declaring e = ap (λ z. first_of_two z new_use) declared_same ∙ ap (first_of_two (rename (declared_at a t))) e ∙ both (declared_at a t) old_use
          where
            both : (p q : Option Meant) → first_of_two (rename p) (rename q) ≡ rename (first_of_two p q)
            both None q = refl
            both (Some p) q = refl

        there : (p : Option Meant) → declared_at a t ≡ p → (first_of_two (declared_at a t) old_use ≡ old_use → ⊥) → first_of_two (declared_at new (v t)) new_use ≡ rename (first_of_two (declared_at a t) old_use)
        there None e f = absurd (f (ap (λ z. first_of_two z old_use) e))
        there (Some p) e f = ap (λ z. first_of_two z new_use) (declared_same ∙ ap rename e) ∙ sym (ap (λ z. rename (first_of_two z old_use)) e)

        by : (x : Which) → Outcome t (v t) w → (MeansLost t w → pick x old_use (first_of_two (declared_at a t) old_use) ≡ old_use → ⊥) → pick x new_use (first_of_two (declared_at new (v t)) new_use) ≡ rename (pick x old_use (first_of_two (declared_at a t) old_use))
        by x (inl e) f = first_same x e
        by untold (inr k) f = refl
        by looked_up (inr k) f = absurd (f k refl)
        by declaring (inr k) f = there (declared_at a t) refl (f k)
