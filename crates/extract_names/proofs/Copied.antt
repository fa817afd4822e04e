-- The tokens of a copied run mean what they meant.
use Rattle.std.proofs.Common.{◌≡◌, ◌∙◌, ℕ, suc, ◌<◌, ◌≤◌, ◌⊎◌, inl, inr, Bool, true, false, List, [], ◌∷◌, ◌++◌, map, Option, Some, None, refl, sym, ap, subst, append_assoc, arith}
use Rattle.std.specs.Prelude.{if◌then◌else◌, ◌&&◌, not, nat_eq, nat_le, option_map}
use Rattle.go_tokens.specs.Spellings.{same_text}
use Rattle.go_tokens.proofs.Public.{same_text-true}
use Rattle.go_tree.specs.declared.context.Block.{Block}
use Rattle.go_tree.specs.declared.context.Block.TheVariants as block
use Rattle.go_tree.specs.declared.event.Declaration.{Declaration}
use Rattle.go_tree.specs.declared.event.Event.{Event}
use Rattle.go_tree.specs.declared.event.Event.TheVariants as event
use Rattle.go_tree.specs.declared.object.Extent.TheVariants as extent
use Rattle.go_tree.specs.declared.object.Object.{Object}
use Rattle.go_tree.specs.declared.object.Object.TheVariants as object
use Rattle.go_tree.specs.Contexts.{is_package}
use Rattle.go_tree.specs.Declarations.{Found, is_reused, may_be_reused}
use Rattle.go_tree.specs.Extents.{lies_inside, extent_by, extent_of}
use Rattle.go_tree.specs.Units.{is_blank}
use Rattle.go_heads.specs.Bodies.{function_events}
use Rattle.go_heads.specs.Functions.{Alone}
use Rattle.go_heads.specs.Names.{own_text, found_by, own_names, own_declarations}
use Rattle.go_heads.proofs.Public.{Every, every_map}
use Rattle.go_scopes_bodies.specs.Meant.{Meant, own, outside, Outer, own_meanings, own_meant, own_object}
use Rattle.extract_names.specs.Gaps.{Among}
use Rattle.extract_names.specs.Pieces.{Piece, stays, gap, told_before}
use Rattle.extract_names.specs.Sites.{found_as, declared_at, token_of, EachEvent, IsNamed, renumbered}
use Rattle.extract_names.specs.Copies.{Replaced, Copy, IsKept, IsEdge, is_around, copied_block, copied_declaration, copied_event, told_copied, EventCopied, HoleGoes, HoleIsNew, AllCopied, DeclaredInFront, StandsInFront, StandsBehind, IsParameter, HeadTells, TailTells, ParameterStands, NamesLocal, NamesFree, NamesOuter, IsCopy, copied_behind, copied_number}
use Rattle.extract_names.proofs.Edges.{is_le, is_lt, le_true, lt_true, eq_true, mono, one, same_le, same_lt, same_eq}
use Rattle.extract_names.proofs.Founds.{RiseFrom, find, IsObject, object_found, object_none, hit, inner_of, over_of, innermost_of, innermost_both, HoldsOf, innermost_holds, by_found, meant_is, Which, untold, looked_up, declaring, which, pick, first_of_two, object_is}
use Rattle.extract_names.proofs.Rows.{and_true, first_off, second_off, not_on, on_off, Hits, hit_tells, hit_told, takes, NoTwo, none_hit, Hitting, hitting, every_among}
use Rattle.extract_names.proofs.Replaced.{each_among, among_found, among_new, same_truth}
use Rattle.extract_names.proofs.CopiedRows.{outside_hole, is_kept, Elsewhere, which_skip, which_none, each_map, find_skip, find_none, rise_left, rise_right, parameter_is, declared_own, not_outside, same_refl}
use Rattle.extract_names.proofs.CopiedRows as rows

-- ---- whether something is told of a token

abbrev IsTold : Which → Type 0
IsTold untold = ⊥
IsTold looked_up = Unit {0}
IsTold declaring = Unit {0}

-- Of a token that isn't told of behind some events it is told among these, if at all.
which_named : (t : ℕ) (es rest : List Event) → which t rest ≡ untold → (which t (es ++ rest) ≡ untold) ⊎ IsNamed t es
which_named t [] rest h = inl h
which_named t (event.Use x ∷ es) rest h = by (nat_eq x.name t) refl (which_named t es rest h)
  where
    by : (b : Bool) → nat_eq x.name t ≡ b → (which t (es ++ rest) ≡ untold) ⊎ IsNamed t es → ((if b then looked_up else which t (es ++ rest)) ≡ untold) ⊎ ((x.name ≡ t) ⊎ IsNamed t es)
    by true q go = inr (inl (eq_true x.name t q))
    by false q (inl e) = inl e
    by false q (inr n) = inr (inr n)
which_named t (event.Declaration d ∷ es) rest h = by (nat_eq d.name t) refl (which_named t es rest h)
  where
    by : (b : Bool) → nat_eq d.name t ≡ b → (which t (es ++ rest) ≡ untold) ⊎ IsNamed t es → ((if b then declaring else which t (es ++ rest)) ≡ untold) ⊎ ((d.name ≡ t) ⊎ IsNamed t es)
    by true q go = inr (inl (eq_true d.name t q))
    by false q (inl e) = inl e
    by false q (inr n) = inr (inr n)
which_named t (event.Import x ∷ es) rest h = which_named t es rest h
which_named t (event.Member x y z ∷ es) rest h = which_named t es rest h
which_named t (event.Bodiless x y ∷ es) rest h = which_named t es rest h
which_named t (event.Statement x y ∷ es) rest h = which_named t es rest h
which_named t (event.Misplaced x y ∷ es) rest h = which_named t es rest h
which_named t (event.SecondDefault x ∷ es) rest h = which_named t es rest h

module _ (a new : Alone) (outer : Outer) (c : Copy) (copy : IsCopy a outer c new) where
  abbrev m : ℕ → ℕ
  m = c.place

  abbrev old_events : List Event
  old_events = function_events a

  abbrev new_events : List Event
  new_events = function_events new

  abbrev D : List Found
  D = own_declarations a

  abbrev E : List Found
  E = own_declarations new

  abbrev X : List Found
  X = rows.X a new outer c copy

  abbrev R : List Found
  R = rows.R a new outer c copy

  abbrev Y : List Found
  Y = rows.Y a new outer c copy

  abbrev Q : List Found
  Q = rows.Q a new outer c copy

  abbrev moved : Declaration → Declaration
  moved d = copied_declaration c d

  abbrev placed : Found → Found
  placed d = record d { it = copied_declaration c d.it }

  abbrev rename : Option Meant → Option Meant
  rename o = option_map (renumbered (copied_number a c new)) o

  up : (x y : ℕ) → IsEdge c x → IsEdge c y → x < y → m x < m y
  up = copy.rises

  -- ---- the innermost declarations

  between : (x : Found) → is_package x.it.block ≡ false → extent_of x ≡ extent.Between x.file x.it.scope
  between x l = by x.it.block l
    where
      by : (b : Block) → is_package b ≡ false → extent_by x.file x.it.scope b ≡ extent.Between x.file x.it.scope
      by block.Package e = cc
      by (block.Local i) e = refl

  inside_is : (x y : Found) → is_package x.it.block ≡ false → is_package y.it.block ≡ false → lies_inside (extent_of x) (extent_of y) ≡ ((nat_eq x.file y.file && nat_le y.it.scope.from x.it.scope.from) && nat_le x.it.scope.to y.it.scope.to)
  inside_is x y l k = ap (λ z. lies_inside z (extent_of y)) (between x l) ∙ ap (lies_inside (extent.Between x.file x.it.scope)) (between y k)

  -- where the scope of a copied declaration ends
  around_to : (d : Declaration) → d.block ≡ block.Local c.around → (moved d).scope.to ≡ c.close
  around_to d e = ap (λ b. if b then c.close else m d.scope.to) (ap (is_around c) e ∙ (rows.around_is a new outer c copy))

  inner_to : (d : Declaration) (i : ℕ) → d.block ≡ block.Local i → IsKept c i → (moved d).scope.to ≡ m d.scope.to
  inner_to d i e k = ap (λ b. if b then c.close else m d.scope.to) (ap (is_around c) e ∙ (rows.not_around a new outer c copy) i k)

  inside_same : (d e : Found) → (rows.InRow a new outer c copy) d → (rows.InRow a new outer c copy) e → d.it.name < e.it.name → lies_inside (extent_of (placed d)) (extent_of (placed e)) ≡ lies_inside (extent_of d) (extent_of e)
  inside_same d e r s lt =
      inside_is (placed d) (placed e) ((rows.moved_in a new outer c copy) d r) ((rows.moved_in a new outer c copy) e s)
      ∙ ap (λ b. (nat_eq d.file e.file && b) && nat_le (moved d.it).scope.to (moved e.it).scope.to) (same_le m (IsEdge c) up e.it.scope.from d.it.scope.from s.copied.from r.copied.from)
      ∙ by (nat_le e.it.scope.from d.it.scope.from) refl
      ∙ sym (inside_is d e ((rows.local_in a new outer c copy) d.it r.copied) ((rows.local_in a new outer c copy) e.it s.copied))
    where
      tos : e.it.scope.from ≤ d.it.scope.from → ((d.it.block ≡ block.Local c.around) × (d.it.scope.to ≡ c.end)) ⊎ ((i : ℕ) × (d.it.block ≡ block.Local i) × IsKept c i × IsEdge c d.it.scope.to)
          → ((e.it.block ≡ block.Local c.around) × (e.it.scope.to ≡ c.end)) ⊎ ((i : ℕ) × (e.it.block ≡ block.Local i) × IsKept c i × IsEdge c e.it.scope.to) → nat_le (moved d.it).scope.to (moved e.it).scope.to ≡ nat_le d.it.scope.to e.it.scope.to
      tos f (inl x) (inl y) =
          let p : (moved d.it).scope.to ≡ c.close = around_to d.it x.0 in
          let q : (moved e.it).scope.to ≡ c.close = around_to e.it y.0 in
          let a : d.it.scope.to ≡ c.end = x.1 in
          let b : e.it.scope.to ≡ c.end = y.1 in
          is_le (moved d.it).scope.to (moved e.it).scope.to (omega (arith, p, q)) ∙ sym (is_le d.it.scope.to e.it.scope.to (omega (arith, a, b)))
      tos f (inl x) (inr (j, y, k, z)) =
          let a : d.it.scope.from < e.it.scope.from = copy.steps d.it e.it r.copied s.copied r.told s.told lt (ap (is_around c) x.0 ∙ (rows.around_is a new outer c copy)) (ap (is_around c) y ∙ (rows.not_around a new outer c copy) j k) in
          absurd (omega (arith, a, f))
      tos f (inr (i, x, k, z)) (inl y) =
          let p : (moved d.it).scope.to ≡ m d.it.scope.to = inner_to d.it i x k in
          let q : (moved e.it).scope.to ≡ c.close = around_to e.it y.0 in
          let a : m d.it.scope.to ≤ m c.upto = mono m (IsEdge c) up d.it.scope.to c.upto z copy.edge.1 z.1 in
          let b : m c.upto ≤ c.close = copy.close in
          let g : d.it.scope.to ≤ c.upto = z.1 in
          let h : c.upto ≤ c.end = copy.outer_end in
          let n : e.it.scope.to ≡ c.end = y.1 in
          is_le (moved d.it).scope.to (moved e.it).scope.to (omega (arith, p, q, a, b)) ∙ sym (is_le d.it.scope.to e.it.scope.to (omega (arith, g, h, n)))
      tos f (inr (i, x, k, z)) (inr (j, y, l, n)) =
          ap (λ p. nat_le p (moved e.it).scope.to) (inner_to d.it i x k) ∙ ap (λ p. nat_le (m d.it.scope.to) p) (inner_to e.it j y l) ∙ same_le m (IsEdge c) up d.it.scope.to e.it.scope.to z n

      by : (b : Bool) → nat_le e.it.scope.from d.it.scope.from ≡ b → ((nat_eq d.file e.file && nat_le e.it.scope.from d.it.scope.from) && nat_le (moved d.it).scope.to (moved e.it).scope.to) ≡ ((nat_eq d.file e.file && nat_le e.it.scope.from d.it.scope.from) && nat_le d.it.scope.to e.it.scope.to)
      by false q =
          first_off (nat_eq d.file e.file && nat_le e.it.scope.from d.it.scope.from) (nat_le (moved d.it).scope.to (moved e.it).scope.to) (second_off (nat_eq d.file e.file) (nat_le e.it.scope.from d.it.scope.from) q)
          ∙ sym (first_off (nat_eq d.file e.file && nat_le e.it.scope.from d.it.scope.from) (nat_le d.it.scope.to e.it.scope.to) (second_off (nat_eq d.file e.file) (nat_le e.it.scope.from d.it.scope.from) q))
      by true q = ap (λ b. (nat_eq d.file e.file && nat_le e.it.scope.from d.it.scope.from) && b) (tos (le_true e.it.scope.from d.it.scope.from q) r.copied.ends s.copied.ends)

  every_of : {A : Type 0} (P : A → Type 0) (xs : List A) → ((x : A) → Among x xs → P x) → Every P xs
  every_of P [] f = tt
  every_of P (x ∷ xs) f = (f x (inl refl), every_of P xs (λ y k. f y (inr k)))

  module _ (t : ℕ) (kt : IsKept c t) where
    edge : IsEdge c t
    edge = is_kept c t kt

    module _ (w : List ℕ) where
      hit_same : (d : Found) → (rows.InRow a new outer c copy) d → hit (m t) w (placed d) ≡ hit t w d
      hit_same d r = same_truth (hit (m t) w (placed d)) (hit t w d) (λ e. to_old (hit_tells (m t) w (placed d) e) r.copied.ends) (λ e. to_new (hit_tells t w d e) r.copied.ends)
        where
          to_old : Hits (m t) w (placed d) → ((d.it.block ≡ block.Local c.around) × (d.it.scope.to ≡ c.end)) ⊎ ((i : ℕ) × (d.it.block ≡ block.Local i) × IsKept c i × IsEdge c d.it.scope.to) → hit t w d ≡ true
          to_old h x = hit_told t w d r.file ((rows.local_in a new outer c copy) d.it r.copied) h.text (le_true d.it.scope.from t (sym (same_le m (IsEdge c) up d.it.scope.from t r.copied.from edge) ∙ is_le (m d.it.scope.from) (m t) h.from)) (ends x)
            where
              ends : ((d.it.block ≡ block.Local c.around) × (d.it.scope.to ≡ c.end)) ⊎ ((i : ℕ) × (d.it.block ≡ block.Local i) × IsKept c i × IsEdge c d.it.scope.to) → t < d.it.scope.to
              ends (inl y) = let a : t < c.upto = kt.1 in let b : c.upto ≤ c.end = copy.outer_end in let e : d.it.scope.to ≡ c.end = y.1 in omega (arith, a, b, e)
              ends (inr (i, y, k, z)) =
                  let e : (moved d.it).scope.to ≡ m d.it.scope.to = inner_to d.it i y k in
                  let l : m t < (moved d.it).scope.to = h.to in
                  lt_true t d.it.scope.to (sym (same_lt m (IsEdge c) up t d.it.scope.to edge z) ∙ is_lt (m t) (m d.it.scope.to) (omega (arith, e, l)))

          to_new : Hits t w d → ((d.it.block ≡ block.Local c.around) × (d.it.scope.to ≡ c.end)) ⊎ ((i : ℕ) × (d.it.block ≡ block.Local i) × IsKept c i × IsEdge c d.it.scope.to) → hit (m t) w (placed d) ≡ true
          to_new h x = hit_told (m t) w (placed d) r.file ((rows.moved_in a new outer c copy) d r) h.text (mono m (IsEdge c) up d.it.scope.from t r.copied.from edge h.from) (ends x)
            where
              ends : ((d.it.block ≡ block.Local c.around) × (d.it.scope.to ≡ c.end)) ⊎ ((i : ℕ) × (d.it.block ≡ block.Local i) × IsKept c i × IsEdge c d.it.scope.to) → m t < (moved d.it).scope.to
              ends (inl y) =
                  let a : m t < m c.upto = up t c.upto edge copy.edge.1 kt.1 in
                  let b : m c.upto ≤ c.close = copy.close in
                  let e : (moved d.it).scope.to ≡ c.close = around_to d.it y.0 in
                  omega (arith, a, b, e)
              ends (inr (i, y, k, z)) = let e : (moved d.it).scope.to ≡ m d.it.scope.to = inner_to d.it i y k in let a : m t < m d.it.scope.to = up t d.it.scope.to edge z h.to in omega (arith, a, e)

      abbrev o0 : Option Found
      o0 = innermost_of t w None X

      abbrev p0 : Option Found
      p0 = innermost_of (m t) w None Q

      -- in front of the run
      record Front (x : Found) : Type 0 where
        from : x.it.scope.from ≤ c.from
        name : x.it.name < c.from
        local : is_package x.it.block ≡ false
        among : Among x X

      old_front : HoldsOf Front o0
      old_front = innermost_holds Front t w None X tt (every_of (λ x. hit t w x ≡ true → Front x) X (λ x k e. here x k (hit_tells t w x e) (every_among (λ d. DeclaredInFront c d.it) x X (rows.front_each a new outer c copy) k)))
        where
          here : (x : Found) → Among x X → Hits t w x → DeclaredInFront c x.it → Front x
          here x k h f = record { from = by (f.scope h.local); name = f.name; local = h.local; among = k }
            where
              by : (x.it.scope.from ≤ c.from) ⊎ (x.it.scope.to ≤ c.from) → x.it.scope.from ≤ c.from
              by (inl le) = le
              by (inr le) = absurd (let a : t < x.it.scope.to = h.to in let b : c.from ≤ t = kt.0 in omega (arith, a, b, le))

      new_front : HoldsOf (λ x. x.it.scope.from ≤ m c.from) p0
      new_front = innermost_holds (λ x. x.it.scope.from ≤ m c.from) (m t) w None Q tt (every_of (λ x. hit (m t) w x ≡ true → x.it.scope.from ≤ m c.from) Q (λ x k e. ((every_among (λ d. (d.it.name < m c.from) × (is_package d.it.block ≡ false → IsParameter c d.it)) x Q (rows.head_each a new outer c copy) k).1 (hit_tells (m t) w x e).local).from))

      holds_front : (o : Option Found) (b : ℕ) → c.from < b → HoldsOf Front o → HoldsOf (λ x. x.it.scope.from < b) o
      holds_front None b lt h = tt
      holds_front (Some x) b lt h = let a : x.it.scope.from ≤ c.from = h.from in omega (arith, a, lt)

      holds_less : (o : Option Found) (a b : ℕ) → a < b → HoldsOf (λ x. x.it.scope.from ≤ a) o → HoldsOf (λ x. x.it.scope.from < b) o
      holds_less None a b lt h = tt
      holds_less (Some x) a b lt h = omega (arith, lt, h)

      pub data Now (lo : ℕ) (o p : Option Found) : Type 0 where
        in_front : o ≡ o0 → p ≡ p0 → Now lo o p
        in_copy : (e : Found) → o ≡ Some e → p ≡ Some (placed e) → (rows.InRow a new outer c copy) e → Among e R → e.it.name < lo → Now lo o p

      later : (lo hi : ℕ) (o p : Option Found) → lo ≤ hi → Now lo o p → Now hi o p
      later lo hi o p le (in_front a b) = in_front a b
      later lo hi o p le (in_copy e a b r k lt) = in_copy e a b r k (omega (arith, le, lt))

      keeps : (lo : ℕ) (o p : Option Found) (e : Found) → Now lo o p → lo ≤ e.it.name → (rows.InRow a new outer c copy) e → Among e R → Now (suc e.it.name) (inner_of o e) (inner_of p (placed e))
      keeps lo o p e (in_front x y) le r k =
          in_copy e (takes o e ((rows.local_in a new outer c copy) e.it r.copied) (subst (HoldsOf (λ z. z.it.scope.from < e.it.scope.from)) (sym x) (holds_front o0 e.it.scope.from r.copied.behind old_front)))
          (takes p (placed e) ((rows.moved_in a new outer c copy) e r) (subst (HoldsOf (λ z. z.it.scope.from < m e.it.scope.from)) (sym y) (holds_less p0 (m c.from) (m e.it.scope.from) (up c.from e.it.scope.from copy.edge.0 r.copied.from r.copied.behind) new_front))) r k (omega arith)
      keeps lo o p e (in_copy d a b s l lt) le r k = by (lies_inside (extent_of d) (extent_of e)) refl (inside_same d e s r (omega (arith, lt, le)))
        where
          by : (x : Bool) → lies_inside (extent_of d) (extent_of e) ≡ x → lies_inside (extent_of (placed d)) (extent_of (placed e)) ≡ lies_inside (extent_of d) (extent_of e) → Now (suc e.it.name) (inner_of o e) (inner_of p (placed e))
          by true q f = in_copy d (ap (λ z. inner_of z e) a ∙ ap (λ z. if z then Some d else Some e) q) (ap (λ z. inner_of z (placed e)) b ∙ ap (λ z. if z then Some (placed d) else Some (placed e)) (f ∙ q)) s l (omega (arith, lt, le))
          by false q f = in_copy e (ap (λ z. inner_of z e) a ∙ ap (λ z. if z then Some d else Some e) q) (ap (λ z. inner_of z (placed e)) b ∙ ap (λ z. if z then Some (placed d) else Some (placed e)) (f ∙ q)) r k (omega arith)

      step : (lo : ℕ) (o p : Option Found) (e : Found) → Now lo o p → lo ≤ e.it.name → (rows.InRow a new outer c copy) e → Among e R → Now (suc e.it.name) (over_of t w o e) (over_of (m t) w p (placed e))
      step lo o p e n le r k = subst (λ x. Now (suc e.it.name) (over_of t w o e) (if x then inner_of p (placed e) else p)) (sym (hit_same e r)) (by (hit t w e))
        where
          by : (x : Bool) → Now (suc e.it.name) (if x then inner_of o e else o) (if x then inner_of p (placed e) else p)
          by true = keeps lo o p e n le r k
          by false = later lo (suc e.it.name) o p (omega (arith, le)) n

      fold : (ds : List Found) (lo : ℕ) (o p : Option Found) → RiseFrom lo ds → Every (rows.InRow a new outer c copy) ds → ((x : Found) → Among x ds → Among x R) → Now lo o p → (hi : ℕ) × Now hi (innermost_of t w o ds) (innermost_of (m t) w p (map placed ds))
      fold [] lo o p r h f n = (lo, n)
      fold (d ∷ ds) lo o p r h f n = fold ds (suc d.it.name) (over_of t w o d) (over_of (m t) w p (placed d)) r.1 h.1 (λ x k. f x (inr k)) (step lo o p d n r.0 h.0 (f d (inl refl)))

      behind_off : innermost_of t w (innermost_of t w o0 R) Y ≡ innermost_of t w o0 R
      behind_off = none_hit t w (innermost_of t w o0 R) Y (every_map (λ d. (c.upto ≤ d.it.name) × (d.it.name ≤ d.it.scope.from)) (λ d. hit t w d ≡ false) Y (λ d x. not_on (hit t w d) (λ e.
          let a : d.it.scope.from ≤ t = (hit_tells t w d e).from in
          let b : c.upto ≤ d.it.name = x.0 in
          let f : d.it.name ≤ d.it.scope.from = x.1 in
          let g : t < c.upto = kt.1 in
          omega (arith, a, b, f, g))) (rows.behind_each a new outer c copy))

      pub now : (hi : ℕ) × Now hi (innermost_of t w None D) (innermost_of (m t) w None E)
      now =
          let whole : RiseFrom 0 (X ++ (R ++ Y)) = subst (RiseFrom 0) (rows.old_whole a new outer c copy) (rows.rises_old a new outer c copy) in
          let x = fold R 0 o0 p0 (rise_left 0 R Y (rise_right 0 X (R ++ Y) whole)) (rows.run_each a new outer c copy) (λ x k. k) (in_front refl refl) in
          let old_now : innermost_of t w None D ≡ innermost_of t w o0 R = ap (innermost_of t w None) (rows.old_whole a new outer c copy) ∙ innermost_both t w None X (R ++ Y) ∙ innermost_both t w o0 R Y ∙ behind_off in
          let new_now : innermost_of (m t) w None E ≡ innermost_of (m t) w p0 (map placed R) = ap (innermost_of (m t) w None) (rows.new_whole a new outer c copy) ∙ innermost_both (m t) w None Q (map placed R) in
          (x.0, subst (λ z. Now x.0 z (innermost_of (m t) w None E)) (sym old_now) (subst (Now x.0 (innermost_of t w o0 R)) (sym new_now) x.1))

      -- ---- parameters

      -- two parameters of one name are one
      one_parameter : (x y : Found) → Among x Q → Among y Q → hit (m t) w x ≡ true → hit (m t) w y ≡ true → x.it.name ≡ y.it.name
      one_parameter x y k l e f =
          let h = hit_tells (m t) w x e in
          let g = hit_tells (m t) w y f in
          let p : IsParameter c x.it = (every_among (λ d. (d.it.name < m c.from) × (is_package d.it.block ≡ false → IsParameter c d.it)) x Q (rows.head_each a new outer c copy) k).1 h.local in
          let q : IsParameter c y.it = (every_among (λ d. (d.it.name < m c.from) × (is_package d.it.block ≡ false → IsParameter c d.it)) y Q (rows.head_each a new outer c copy) l).1 g.local in
          copy.distinct x.it.name y.it.name p.listed q.listed
          (sym (every_among (λ d. d.name ≡ own_text new d.it.name) x Q (rows.head_spelled a new outer c copy) k) ∙ same_text-true x.name w h.text ∙ sym (same_text-true y.name w g.text) ∙ every_among (λ d. d.name ≡ own_text new d.it.name) y Q (rows.head_spelled a new outer c copy) l)

      no_two : (lo : ℕ) (ds : List Found) → RiseFrom lo ds → ((x : Found) → Among x ds → Among x Q) → NoTwo (m t) w ds
      no_two lo [] r f = tt
      no_two lo (d ∷ ds) r f = (λ e. others (suc d.it.name) ds r.1 (λ x k. f x (inr k)) (omega arith) e, no_two (suc d.it.name) ds r.1 (λ x k. f x (inr k)))
        where
          others : (hi : ℕ) (es : List Found) → RiseFrom hi es → ((x : Found) → Among x es → Among x Q) → d.it.name < hi → hit (m t) w d ≡ true → Every (λ x. hit (m t) w x ≡ false) es
          others hi [] r g lt e = tt
          others hi (x ∷ es) r g lt e =
              let le : hi ≤ x.it.name = r.0 in
              (not_on (hit (m t) w x) (λ i. let q : d.it.name ≡ x.it.name = one_parameter d x (f d (inl refl)) (g x (inl refl)) e i in omega (arith, q, le, lt)), others (suc x.it.name) es r.1 (λ y k. g y (inr k)) (omega (arith, le, lt)) e)

      parameters : Hitting (m t) w Q
      parameters = hitting (m t) w Q (no_two 0 Q (rise_left 0 Q (map placed R) (subst (RiseFrom 0) (rows.new_whole a new outer c copy) (rows.rises_new a new outer c copy))) (λ x k. k))

    -- ---- the token

    abbrev w : List ℕ
    w = own_text a t

    abbrev U : Option Meant
    U = own_meant a outer t w

    abbrev V : Option Meant
    V = own_meant new outer (m t) w

    abbrev o : Option Found
    o = innermost_of t w None D

    abbrev p : Option Found
    p = innermost_of (m t) w None E

    old_meant : U ≡ (if is_blank w then None else by_found a o (outer w))
    old_meant = meant_is a outer 0 (rows.rises_old a new outer c copy) (rows.files_old a new outer c copy) t w

    new_meant : V ≡ (if is_blank w then None else by_found new p (outer w))
    new_meant = meant_is new outer 0 (rows.rises_new a new outer c copy) (rows.files_new a new outer c copy) (m t) w

    outside_same : (x : Option Object) → option_map outside x ≡ rename (option_map outside x)
    outside_same None = refl
    outside_same (Some z) = refl

    -- the token of what a local in front of the run is declared by
    one_token : (x : Found) → Front w x → (d : ℕ) (ob : Meant) → declared_at a x.it.name ≡ Some ob → declared_at a d ≡ Some ob → x.it.name ≡ d
    one_token x f d ob e g = by (object_found a copy.itself (rows.files_old a new outer c copy) x.it.name x ((rows.find_old a new outer c copy) x ((rows.in_front_old a new outer c copy) x f.among))) (find d D) refl
      where
        there : (i : ℕ) → declared_at a x.it.name ≡ Some (own (object.Local 0 i)) → token_of a i ≡ x.it.name → (y : Found) → IsObject a d y → x.it.name ≡ d
        there i q r y (inl z) = let h : Some (own (object.Package 0)) ≡ Some (own (object.Local 0 i)) = sym z.1 ∙ g ∙ sym e ∙ q in cc
        there i q r y (inr (l, j, z, s)) =
            let h : Some (own (object.Local 0 j)) ≡ Some (own (object.Local 0 i)) = sym z ∙ g ∙ sym e ∙ q in
            let n : j ≡ i = cc in
            sym r ∙ ap (token_of a) (sym n) ∙ s

        by : IsObject a x.it.name x → (y : Option Found) → find d D ≡ y → x.it.name ≡ d
        by (inl z) y q = let l : is_package x.it.block ≡ true = z.0 in let k : is_package x.it.block ≡ false = f.local in cc
        by (inr z) None q = let h : None ≡ Some ob = sym (object_none a (rows.files_old a new outer c copy) d q) ∙ g in cc
        by (inr (l, i, z, s)) (Some y) q = there i z s y (object_found a copy.itself (rows.files_old a new outer c copy) d y q)

    -- a local that is declared is none from outside
    not_outer : (d : ℕ) (ob : Meant) → declared_at a d ≡ Some ob → option_map outside (outer w) ≡ Some ob → ⊥
    not_outer d ob e f = let z = declared_own d (own_meanings a) ob e in not_outside (outer w) z.0 (f ∙ ap (λ x. Some x) z.1)

    -- the meaning in front of the run
    front_meant : (x : Option Found) → HoldsOf (Front w) x → NamesLocal a outer c t ⊎ (NamesFree a outer c new t ⊎ NamesOuter a outer c new t) → own_object a outer t ≡ by_found a x (outer w)
        → by_found new (p0 w) (outer w) ≡ rename (by_found a x (outer w))
    front_meant None f (inl (d, ob, r, e, g)) q = absurd (not_outer d ob e (sym q ∙ g))
    front_meant None f (inr (inl (x, ob, k, l, e, g, s))) q = absurd (not_outer x.old ob e (sym q ∙ g))
    front_meant None f (inr (inr z)) q = none_spelled (parameters w)
      where
        none_spelled : Hitting (m t) w Q → by_found new (p0 w) (outer w) ≡ rename (option_map outside (outer w))
        none_spelled (inl h) = ap (λ y. by_found new y (outer w)) (h.1 None) ∙ outside_same (outer w)
        none_spelled (inr h) =
            let g = hit_tells (m t) w h.one h.hits in
            let q : IsParameter c h.one.it = (every_among (λ d. (d.it.name < m c.from) × (is_package d.it.block ≡ false → IsParameter c d.it)) h.one Q (rows.head_each a new outer c copy) h.among).1 g.local in
            absurd (z.1 h.one.it.name q.listed (sym (every_among (λ d. d.name ≡ own_text new d.it.name) h.one Q (rows.head_spelled a new outer c copy) h.among) ∙ same_text-true h.one.name w g.text))
    front_meant (Some x) f (inl (d, ob, r, e, g)) q = absurd (let n : x.it.name ≡ d = one_token x f d ob (sym q ∙ g) e in let b : x.it.name < c.from = f.name in let i : c.from ≤ d = r.0 in omega (arith, n, b, i))
    front_meant (Some x) f (inr (inr z)) q = absurd (by (object_found a copy.itself (rows.files_old a new outer c copy) x.it.name x ((rows.find_old a new outer c copy) x ((rows.in_front_old a new outer c copy) x f.among))))
      where
        by : IsObject a x.it.name x → ⊥
        by (inl y) = z.0 (own (object.Package 0)) (q ∙ y.1) x.it.name y.1
        by (inr (l, i, y, s)) = z.0 (own (object.Local 0 i)) (q ∙ y) x.it.name y
    front_meant (Some x) f (inr (inl (g, ob, k, l, e, h, s))) q = spelled_so (parameters w)
      where
        same_token : x.it.name ≡ g.old
        same_token = one_token x f g.old ob (sym q ∙ h) e

        its : ParameterStands new copy.head g.parameter
        its = copy.parameters g.parameter l

        its_is : IsParameter c its.it
        its_is = (each_among (HeadTells c) (event.Declaration its.it) copy.head copy.head_tells its.there).1 its.local

        there : Among (found_as new its.it) Q
        there =
            among_new (own_names new) (found_as new its.it) (found_by (own_text new) copy.head)
            (and_true (not (is_blank (own_text new its.it.name))) (not (may_be_reused its.it.manner && is_reused (found_as new its.it) (own_names new)))
            (ap (λ u. not (is_blank (own_text new u))) its.name ∙ ap not its.some) (ap (λ y. not (may_be_reused y && is_reused (found_as new its.it) (own_names new))) its.manner))
            (among_found (own_text new) its.it copy.head its.there)

        hits : hit (m t) w (found_as new its.it) ≡ true
        hits =
            let a : its.it.scope.from ≤ m c.from = its_is.from in
            let b : m c.from ≤ m t = mono m (IsEdge c) up c.from t copy.edge.0 edge kt.0 in
            let d : m t < m c.upto = up t c.upto edge copy.edge.1 kt.1 in
            let e : m c.upto ≤ c.close = copy.close in
            let n : its.it.scope.to ≡ c.close = its_is.to in
            hit_told (m t) w (found_as new its.it) refl its.local (ap (λ u. same_text (own_text new u) w) its.name ∙ ap (λ u. same_text u w) s ∙ same_refl w) (omega (arith, a, b)) (omega (arith, d, e, n))

        spelled_so : Hitting (m t) w Q → by_found new (p0 w) (outer w) ≡ rename (declared_at a x.it.name)
        spelled_so (inl y) = absurd (on_off (hit (m t) w (found_as new its.it)) hits (every_among (λ d. hit (m t) w d ≡ false) (found_as new its.it) Q y.0 there))
        spelled_so (inr y) =
            let n : y.one.it.name ≡ g.parameter = one_parameter w y.one (found_as new its.it) y.among there y.hits hits ∙ its.name in
            let b : copied_behind c x.it.name ≡ g.parameter = (rows.behind_free a new outer c copy) x.it.name f.name ∙ parameter_is c.free g x.it.name k (sym same_token) (λ h z u. copy.once h g z k (u ∙ same_token)) in
            ap (λ z. by_found new z (outer w)) (y.folded None)
            ∙ (rows.objects_same a new outer c copy) x.it.name y.one.it.name x y.one ((rows.find_old a new outer c copy) x ((rows.in_front_old a new outer c copy) x f.among)) ((rows.find_new a new outer c copy) y.one ((rows.in_head_new a new outer c copy) y.one y.among)) (n ∙ sym b) ((hit_tells (m t) w y.one y.hits).local ∙ sym f.local)

    meant_same : IsNamed t (told_before copy.pieces) → own_object a outer t ≡ U → V ≡ rename U
    meant_same named q = by (is_blank w) refl (now w)
      where
        clear : is_blank w ≡ false → (x : Option Found) → o ≡ x → U ≡ by_found a x (outer w)
        clear b x e = old_meant ∙ ap (λ z. if z then None else by_found a o (outer w)) b ∙ ap (λ z. by_found a z (outer w)) e

        clear_new : is_blank w ≡ false → (x : Option Found) → p ≡ x → V ≡ by_found new x (outer w)
        clear_new b x e = new_meant ∙ ap (λ z. if z then None else by_found new p (outer w)) b ∙ ap (λ z. by_found new z (outer w)) e

        by : (b : Bool) → is_blank w ≡ b → (hi : ℕ) × Now w hi o p → V ≡ rename U
        by true b n = new_meant ∙ ap (λ z. if z then None else by_found new p (outer w)) b ∙ sym (ap rename (old_meant ∙ ap (λ z. if z then None else by_found a o (outer w)) b))
        by false b (hi, in_copy x e f r k lt) = clear_new b (Some (placed x)) f ∙ (rows.run_object a new outer c copy) x k ∙ sym (ap rename (clear b (Some x) e))
        by false b (hi, in_front e f) =
            clear_new b (p0 w) f ∙ front_meant (o0 w) (old_front w) (copy.names t kt named) (q ∙ clear b (o0 w) e) ∙ sym (ap rename (clear b (o0 w) e))

    -- ---- which name is told of it

    stays_which : (es rest rest_new : List Event) → EachEvent (EventCopied c) es → which (m t) rest_new ≡ which t rest → which (m t) (map (copied_event c) es ++ rest_new) ≡ which t (es ++ rest)
    stays_which [] rest rest_new h e = e
    stays_which (event.Use x ∷ es) rest rest_new h e = ap (λ b. if b then looked_up else which (m t) (map (copied_event c) es ++ rest_new)) (same_eq m (IsEdge c) up x.name t (is_kept c x.name h.0.name) edge) ∙ ap (λ z. if nat_eq x.name t then looked_up else z) (stays_which es rest rest_new h.1 e)
    stays_which (event.Declaration d ∷ es) rest rest_new h e = ap (λ b. if b then declaring else which (m t) (map (copied_event c) es ++ rest_new)) (same_eq m (IsEdge c) up d.name t (is_kept c d.name h.0.name) edge) ∙ ap (λ z. if nat_eq d.name t then declaring else z) (stays_which es rest rest_new h.1 e)
    stays_which (event.Import i ∷ es) rest rest_new h e = stays_which es rest rest_new h.1 e
    stays_which (event.Member x g i ∷ es) rest rest_new h e = stays_which es rest rest_new h.1 e
    stays_which (event.Bodiless i j ∷ es) rest rest_new h e = stays_which es rest rest_new h.1 e
    stays_which (event.Statement i j ∷ es) rest rest_new h e = stays_which es rest rest_new h.1 e
    stays_which (event.Misplaced i j ∷ es) rest rest_new h e = stays_which es rest rest_new h.1 e
    stays_which (event.SecondDefault i ∷ es) rest rest_new h e = stays_which es rest rest_new h.1 e

    hole_off : (r : Replaced) → Among r c.holes → (e : Event) → HoleGoes r e → Elsewhere t e
    hole_off r k (event.Use x) h = λ e. by e (outside_hole c.holes r t kt.2 k)
      where
        by : x.name ≡ t → (t < r.from) ⊎ (r.upto ≤ t) → ⊥
        by e (inl lt) = let a : r.from ≤ x.name = h.0 in omega (arith, e, lt, a)
        by e (inr le) = let a : x.name < r.upto = h.1 in omega (arith, e, le, a)
    hole_off r k (event.Declaration d) h = absurd h
    hole_off r k (event.Import i) h = tt
    hole_off r k (event.Member x g i) h = tt
    hole_off r k (event.Bodiless i j) h = tt
    hole_off r k (event.Statement i j) h = tt
    hole_off r k (event.Misplaced i j) h = tt
    hole_off r k (event.SecondDefault i) h = tt

    hole_new_off : (r : Replaced) → Among r c.holes → (e : Event) → HoleIsNew c r e → Elsewhere (m t) e
    hole_new_off r k (event.Use x) h = λ e. by (one m (IsEdge c) up r.from t (copy.holes r k).2 edge (sym h.name ∙ e)) (outside_hole c.holes r t kt.2 k)
      where
        by : r.from ≡ t → (t < r.from) ⊎ (r.upto ≤ t) → ⊥
        by e (inl lt) = omega (arith, e, lt)
        by e (inr le) = let a : r.from < r.upto = (copy.holes r k).0 in omega (arith, e, le, a)
    hole_new_off r k (event.Declaration d) h = absurd h
    hole_new_off r k (event.Import i) h = tt
    hole_new_off r k (event.Member x g i) h = absurd h
    hole_new_off r k (event.Bodiless i j) h = tt
    hole_new_off r k (event.Statement i j) h = tt
    hole_new_off r k (event.Misplaced i j) h = absurd h
    hole_new_off r k (event.SecondDefault i) h = absurd h

    pieces_which : (ps : List Piece) (hs : List Replaced) (rest rest_new : List Event) → AllCopied c hs ps → ((r : Replaced) → Among r hs → Among r c.holes) → which (m t) rest_new ≡ which t rest → which (m t) (told_copied c ps ++ rest_new) ≡ which t (told_before ps ++ rest)
    pieces_which [] hs rest rest_new h f e = e
    pieces_which (stays es ∷ ps) hs rest rest_new h f e =
        ap (which (m t)) (append_assoc (map (copied_event c) es) (told_copied c ps) rest_new)
        ∙ stays_which es (told_before ps ++ rest) (told_copied c ps ++ rest_new) h.0 (pieces_which ps hs rest rest_new h.1 f e)
        ∙ ap (which t) (sym (append_assoc es (told_before ps) rest))
    pieces_which (gap old news ∷ ps) [] rest rest_new h f e = absurd h
    pieces_which (gap old news ∷ ps) (r ∷ hs) rest rest_new h f e =
        ap (which (m t)) (append_assoc news (told_copied c ps) rest_new)
        ∙ which_skip (m t) news (told_copied c ps ++ rest_new) (each_map (HoleIsNew c r) (Elsewhere (m t)) news (hole_new_off r (f r (inl refl))) h.1)
        ∙ pieces_which ps hs rest rest_new h.2 (λ x k. f x (inr k)) e
        ∙ sym (which_skip t old (told_before ps ++ rest) (each_map (HoleGoes r) (Elsewhere t) old (hole_off r (f r (inl refl))) h.0))
        ∙ ap (which t) (sym (append_assoc old (told_before ps) rest))

    front_off : (e : Event) → StandsInFront c e → Elsewhere t e
    front_off (event.Use x) h = λ e. let a : c.from ≤ t = kt.0 in omega (arith, a, e, h)
    front_off (event.Declaration d) h = λ e. let a : c.from ≤ t = kt.0 in let b : d.name < c.from = h.name in omega (arith, a, e, b)
    front_off (event.Import i) h = tt
    front_off (event.Member x g i) h = tt
    front_off (event.Bodiless i j) h = tt
    front_off (event.Statement i j) h = tt
    front_off (event.Misplaced i j) h = tt
    front_off (event.SecondDefault i) h = tt

    rest_off : (e : Event) → StandsBehind c e → Elsewhere t e
    rest_off (event.Use x) h = λ e. let a : t < c.upto = kt.1 in omega (arith, a, e, h)
    rest_off (event.Declaration d) h = λ e. let a : t < c.upto = kt.1 in let b : c.upto ≤ d.name = h.0 in omega (arith, a, e, b)
    rest_off (event.Import i) h = tt
    rest_off (event.Member x g i) h = tt
    rest_off (event.Bodiless i j) h = tt
    rest_off (event.Statement i j) h = tt
    rest_off (event.Misplaced i j) h = tt
    rest_off (event.SecondDefault i) h = tt

    head_off : (e : Event) → HeadTells c e → Elsewhere (m t) e
    head_off (event.Use x) h = λ e. let a : m c.from ≤ m t = mono m (IsEdge c) up c.from t copy.edge.0 edge kt.0 in omega (arith, a, e, h)
    head_off (event.Declaration d) h = λ e. let a : m c.from ≤ m t = mono m (IsEdge c) up c.from t copy.edge.0 edge kt.0 in let b : d.name < m c.from = h.0 in omega (arith, a, e, b)
    head_off (event.Import i) h = tt
    head_off (event.Member x g i) h = tt
    head_off (event.Bodiless i j) h = tt
    head_off (event.Statement i j) h = tt
    head_off (event.Misplaced i j) h = absurd h
    head_off (event.SecondDefault i) h = absurd h

    tail_off : (e : Event) → TailTells c e → Elsewhere (m t) e
    tail_off (event.Use x) h = λ e. let a : m t < m c.upto = up t c.upto edge copy.edge.1 kt.1 in omega (arith, a, e, h)
    tail_off (event.Declaration d) h = absurd h
    tail_off (event.Import i) h = tt
    tail_off (event.Member x g i) h = tt
    tail_off (event.Bodiless i j) h = tt
    tail_off (event.Statement i j) h = tt
    tail_off (event.Misplaced i j) h = absurd h
    tail_off (event.SecondDefault i) h = absurd h

    which_same : which (m t) new_events ≡ which t old_events
    which_same =
        ap (which (m t)) copy.new_told
        ∙ which_skip (m t) copy.head ((rows.copied_events a new outer c copy) ++ copy.tail) (each_map (HeadTells c) (Elsewhere (m t)) copy.head head_off copy.head_tells)
        ∙ pieces_which copy.pieces c.holes copy.behind copy.tail copy.copied (λ r k. k)
        (which_none (m t) copy.tail (each_map (TailTells c) (Elsewhere (m t)) copy.tail tail_off copy.tail_tells) ∙ sym (which_none t copy.behind (each_map (StandsBehind c) (Elsewhere t) copy.behind rest_off copy.from_behind)))
        ∙ sym (which_skip t copy.before ((rows.run_events a new outer c copy) ++ copy.behind) (each_map (StandsInFront c) (Elsewhere t) copy.before front_off copy.in_front))
        ∙ ap (which t) (sym copy.told)

    -- ---- what is declared there

    row_find : (ds rest : List Found) → Every (rows.InRow a new outer c copy) ds → find (m t) rest ≡ None → find t rest ≡ None → (rest_old : List Found) → find t rest_old ≡ None → find (m t) (map placed ds) ≡ option_map placed (find t (ds ++ rest_old))
    row_find [] rest h e f rest_old g = sym (ap (option_map placed) g)
    row_find (d ∷ ds) rest h e f rest_old g =
        ap (λ b. if b then Some (placed d) else find (m t) (map placed ds)) (same_eq m (IsEdge c) up d.it.name t (is_kept c d.it.name h.0.copied.name) edge)
        ∙ ap (λ z. if nat_eq d.it.name t then Some (placed d) else z) (row_find ds rest h.1 e f rest_old g)
        ∙ by (nat_eq d.it.name t) (find t (ds ++ rest_old))
      where
        by : (b : Bool) (z : Option Found) → (if b then Some (placed d) else option_map placed z) ≡ option_map placed (if b then Some d else z)
        by true z = refl
        by false z = refl

    find_same : find (m t) E ≡ option_map placed (find t D)
    find_same =
        ap (find (m t)) (rows.new_whole a new outer c copy)
        ∙ find_skip (m t) Q (map placed R) (every_map (λ d. (d.it.name < m c.from) × (is_package d.it.block ≡ false → IsParameter c d.it)) (λ d. d.it.name ≡ m t → ⊥) Q (λ d h e. let a : m c.from ≤ m t = mono m (IsEdge c) up c.from t copy.edge.0 edge kt.0 in let b : d.it.name < m c.from = h.0 in omega (arith, a, b, e)) (rows.head_each a new outer c copy))
        ∙ row_find R [] (rows.run_each a new outer c copy) refl refl Y (find_none t Y (every_map (λ d. (c.upto ≤ d.it.name) × (d.it.name ≤ d.it.scope.from)) (λ d. d.it.name ≡ t → ⊥) Y (λ d h e. let a : t < c.upto = kt.1 in let b : c.upto ≤ d.it.name = h.0 in omega (arith, a, b, e)) (rows.behind_each a new outer c copy)))
        ∙ ap (option_map placed) (sym (ap (find t) (rows.old_whole a new outer c copy) ∙ find_skip t X (R ++ Y) (every_map (λ d. DeclaredInFront c d.it) (λ d. d.it.name ≡ t → ⊥) X (λ d h e. let a : c.from ≤ t = kt.0 in let b : d.it.name < c.from = h.name in omega (arith, a, b, e)) (rows.front_each a new outer c copy))))

    declared_same : declared_at new (m t) ≡ rename (declared_at a t)
    declared_same = by (find t D) refl find_same
      where
        copied_package : (b : Block) → is_package (copied_block c b) ≡ is_package b
        copied_package block.Package = refl
        copied_package (block.Local i) = here (nat_eq i c.around)
          where
            here : (x : Bool) → is_package (if x then block.Local c.body else block.Local (m i)) ≡ false
            here true = refl
            here false = refl

        by : (d : Option Found) → find t D ≡ d → find (m t) E ≡ option_map placed d → declared_at new (m t) ≡ rename (declared_at a t)
        by None e f = object_none new (rows.files_new a new outer c copy) (m t) f ∙ sym (ap rename (object_none a (rows.files_old a new outer c copy) t e))
        by (Some d) e f = (rows.objects_same a new outer c copy) t (m t) d (placed d) e f (sym ((rows.behind_run a new outer c copy) t kt.0 kt.1)) (copied_package d.it.block)

    old_is : own_object a outer t ≡ pick (which t old_events) U (first_of_two (declared_at a t) U)
    old_is = object_is a outer t U w refl

    new_is : own_object new outer (m t) ≡ pick (which t old_events) V (first_of_two (declared_at new (m t)) V)
    new_is = object_is new outer (m t) V (own_text new (m t)) (ap (own_meant new outer (m t)) (copy.texts t kt)) ∙ ap (λ z. pick z V (first_of_two (declared_at new (m t)) V)) which_same

    -- a token that something is told of is named in the run
    named_run : (which t old_events ≡ untold) ⊎ IsNamed t (told_before copy.pieces)
    named_run = by (which_named t (told_before copy.pieces) copy.behind (which_none t copy.behind (each_map (StandsBehind c) (Elsewhere t) copy.behind rest_off copy.from_behind)))
      where
        whole : which t old_events ≡ which t (told_before copy.pieces ++ copy.behind)
        whole = ap (which t) copy.told ∙ which_skip t copy.before (told_before copy.pieces ++ copy.behind) (each_map (StandsInFront c) (Elsewhere t) copy.before front_off copy.in_front)

        by : (which t (told_before copy.pieces ++ copy.behind) ≡ untold) ⊎ IsNamed t (told_before copy.pieces) → (which t old_events ≡ untold) ⊎ IsNamed t (told_before copy.pieces)
        by (inl e) = inl (whole ∙ e)
        by (inr n) = inr n

    is_named : IsTold (which t old_events) → IsNamed t (told_before copy.pieces)
    is_named h = by named_run
      where
        by : (which t old_events ≡ untold) ⊎ IsNamed t (told_before copy.pieces) → IsNamed t (told_before copy.pieces)
        by (inl e) = absurd (subst IsTold e h)
        by (inr n) = n

    -- a name that is looked up means the same
    pub kept_use : which t old_events ≡ looked_up → V ≡ rename U
    kept_use q = meant_same (is_named (subst IsTold (sym q) tt)) (old_is ∙ ap (λ z. pick z U (first_of_two (declared_at a t) U)) q)

    pub kept : own_object new outer (m t) ≡ rename (own_object a outer t)
    kept = new_is ∙ by (which t old_events) (λ n e. meant_same (is_named n) (old_is ∙ e)) ∙ sym (ap rename old_is)
      where
        there : (x : Option Meant) → declared_at a t ≡ x → (first_of_two (declared_at a t) U ≡ U → V ≡ rename U) → first_of_two (declared_at new (m t)) V ≡ rename (first_of_two (declared_at a t) U)
        there None e f = ap (λ z. first_of_two z V) (declared_same ∙ ap rename e) ∙ f (ap (λ z. first_of_two z U) e) ∙ sym (ap (λ z. rename (first_of_two z U)) e)
        there (Some x) e f = ap (λ z. first_of_two z V) (declared_same ∙ ap rename e) ∙ sym (ap (λ z. rename (first_of_two z U)) e)

        by : (x : Which) → (IsTold x → pick x U (first_of_two (declared_at a t) U) ≡ U → V ≡ rename U) → pick x V (first_of_two (declared_at new (m t)) V) ≡ rename (pick x U (first_of_two (declared_at a t) U))
        by untold f = refl
        by looked_up f = f tt refl
        by declaring f = there (declared_at a t) refl (f tt)
