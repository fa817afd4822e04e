-- No declaration needs itself in a function that begins with a copy of a run.
use Rattle.std.proofs.Common.{◌≡◌, ◌∙◌, ℕ, ◌+◌, ◌<◌, ◌≤◌, ◌⊎◌, inl, inr, Bool, true, false, List, [], ◌∷◌, length, Option, Some, None, refl, sym, ap, subst, arith}
use Rattle.std.specs.Prelude.{nat_eq}
use Rattle.go_tree.specs.declared.context.Site.{Site}
use Rattle.go_tree.specs.declared.context.Site.TheVariants as site_of
use Rattle.go_tree.specs.declared.event.Declaration.{Declaration}
use Rattle.go_tree.specs.declared.event.Event.{Event}
use Rattle.go_tree.specs.declared.event.Event.TheVariants as event
use Rattle.go_tree.specs.declared.event.Use.{Use}
use Rattle.go_tree.specs.Declarations.{Found}
use Rattle.go_tree.specs.Lookups.{Asked}
use Rattle.go_tree.specs.Needs.{Needed, if_so, is_source, way, needs, needs_itself}
use Rattle.go_tree.specs.Units.{is_blank}
use Rattle.go_scopes_cycles.specs.Needs.{source_of}
use Rattle.go_heads.specs.Bodies.{function_events}
use Rattle.go_heads.specs.Functions.{Alone}
use Rattle.go_heads.specs.Names.{own_text, found_by, own_names, own_declarations}
use Rattle.go_heads.proofs.Public.{Every}
use Rattle.go_scopes_bodies.specs.Carried.{carried_token, carried_site, carried_use}
use Rattle.go_scopes_bodies.specs.Faults.{own_ask, own_asked, own_cycles}
use Rattle.go_scopes_bodies.specs.Meant.{Outer}
use Rattle.go_scopes_bodies.proofs.Public.{BoundRounds, NoneItself, none_cycles, cycles_none, enough_rounds}
use Rattle.extract_names.specs.Gaps.{Among}
use Rattle.extract_names.specs.Pieces.{told_before}
use Rattle.extract_names.specs.Sites.{specification_at}
use Rattle.extract_names.specs.Copies.{Replaced, Copy, IsKept, IsEdge, TokenKept, TokenBehind, TokenInFront, copied_declaration, UseCopied, HoleUse, InSignature, InReturn, IsCopy}
use Rattle.extract_names.proofs.Edges.{not_eq, mono, one, same_eq}
use Rattle.extract_names.proofs.Founds.{RiseFrom, hit, innermost_of, HoldsOf, innermost_holds}
use Rattle.extract_names.proofs.Rows.{every_among}
use Rattle.extract_names.proofs.Replaced.{each_among, found_among, new_found}
use Rattle.extract_names.proofs.Asked.{asked_told, asked_use}
use Rattle.extract_names.proofs.Rounds.{Calls, needs_calls, calls_needs, none_among, IsIdle, idle_itself, NeedsAlike, itself_alike}
use Rattle.extract_names.proofs.Sources.{ask_source, same_name, are_one, calls_within, own_declared_all, way_same, way_off, if_none}
use Rattle.extract_names.proofs.CopiedRows.{is_kept}
use Rattle.extract_names.proofs.CopiedRows as rows
use Rattle.extract_names.proofs.Copied.{in_front, in_copy as in_both}
use Rattle.extract_names.proofs.Copied as copied
use Rattle.extract_names.proofs.CopyNames.{in_head, in_copy, in_hole, in_tail}
use Rattle.extract_names.proofs.CopyNames as names

module _ (a new : Alone) (outer : Outer) (c : Copy) (copy : IsCopy a outer c new) where
  abbrev m : ℕ → ℕ
  m = c.place

  abbrev old_events : List Event
  old_events = function_events a

  abbrev new_events : List Event
  new_events = function_events new

  abbrev run_events : List Event
  run_events = told_before copy.pieces

  abbrev D : List Found
  D = own_declarations a

  abbrev E : List Found
  E = own_declarations new

  abbrev R : List Found
  R = rows.R a new outer c copy

  abbrev Q : List Found
  Q = rows.Q a new outer c copy

  abbrev placed : Found → Found
  placed d = record d { it = copied_declaration c d.it }

  abbrev old_asks : List Asked
  old_asks = own_asked a outer

  abbrev new_asks : List Asked
  new_asks = own_asked new outer

  up : (x y : ℕ) → IsEdge c x → IsEdge c y → x < y → m x < m y
  up = copy.rises

  rises_old : RiseFrom 0 D
  rises_old = rows.rises_old a new outer c copy

  files_old : Every (λ d. d.file ≡ 0) D
  files_old = rows.files_old a new outer c copy

  rises_new : RiseFrom 0 E
  rises_new = rows.rises_new a new outer c copy

  files_new : Every (λ d. d.file ≡ 0) E
  files_new = rows.files_new a new outer c copy

  in_row : (x : Found) → Among x R → rows.InRow a new outer c copy x
  in_row x k = every_among (rows.InRow a new outer c copy) x R (rows.run_each a new outer c copy) k

  -- what is copied of the old declarations
  record Remains (x y : Found) : Type 0 where
    among : Among y R
    is : x ≡ placed y

  once : (x y z : Found) → Remains x y → Remains x z → y ≡ z
  once x y z r s =
      same_name a outer rises_old files_old y z (rows.in_run_old a new outer c copy y r.among) (rows.in_run_old a new outer c copy z s.among)
      (one m (IsEdge c) up y.it.name z.it.name (is_kept c y.it.name (in_row y r.among).copied.name) (is_kept c z.it.name (in_row z s.among).copied.name) (ap (λ (d : Found). d.it.name) (sym r.is ∙ s.is)))

  -- ---- in front of the copy

  -- a name's specification
  abbrev Behind : Use → Type 0
  Behind u = (i : ℕ) → specification_at u.site ≡ Some i → m c.from ≤ i

  copied_behind : (x : Use) → UseCopied c x → Behind (carried_use m x)
  copied_behind x s i e = by x.site s.specification e
    where
      low : (j i : ℕ) → IsKept c j → m j ≡ i → m c.from ≤ i
      low j i k e = let le : m c.from ≤ m j = mono m (IsEdge c) up c.from j copy.edge.0 (is_kept c j k) k.0 in omega (arith, le, e)

      by : (y : Site) → TokenKept c (specification_at y) → specification_at (carried_site m y) ≡ Some i → m c.from ≤ i
      by site_of.Elsewhere k e = cc
      by (site_of.Type j) k e = low j i k (let q : m j ≡ i = cc in q)
      by (site_of.Value j column alone) k e = low j i k (let q : m j ≡ i = cc in q)
      by (site_of.Right j r) k e = low j i k (let q : m j ≡ i = cc in q)

  hole_behind : (r : Replaced) (u : Use) → HoleUse c r u → Behind u
  hole_behind r u n i e = subst (TokenBehind c) e n.specification

  -- what is declared in front needs nothing
  head_idle : (x : Found) → Among x Q → IsIdle new_asks x
  head_idle x k f = none_among (needs new_asks (record { it = x; full = f })) (λ n l. none n (needs_calls new_asks (record { it = x; full = f }) n l))
    where
      front : TokenInFront c x.it.source
      front =
          let y = found_among (own_text new) x copy.head (new_found (own_names new) x (found_by (own_text new) copy.head) k) in
          subst (λ (z : Declaration). TokenInFront c z.source) (ap (λ (z : Found). z.it) (sym y.2)) (each_among (InSignature new outer c) (event.Declaration y.0) copy.head copy.signature y.1).source

      off : (u : Use) → Behind u → way x.it f u.site ≡ None
      off u h = way_off x.it.source x.it.column f u.site (λ i e. by i x.it.source front (h i e))
        where
          by : (i : ℕ) (o : Option ℕ) → TokenInFront c o → m c.from ≤ i → is_source i o ≡ false
          by i None t le = refl
          by i (Some j) t le = not_eq i j (λ q. let lt : j < m c.from = t in omega (arith, lt, le, q))

      called : (n : Needed) (u : Use) → Behind u → if_so (nat_eq 0 x.file) (way x.it f u.site) ≡ Some n.full → ⊥
      called n u h e = let z : None ≡ Some n.full = sym (if_none (nat_eq 0 x.file) (way x.it f u.site) (off u h)) ∙ e in cc

      by : (n : Needed) (u : Use) → if_so (nat_eq 0 x.file) (way x.it f u.site) ≡ Some n.full → innermost_of u.name (own_text new u.name) None E ≡ Some n.it → names.Whence a new outer c copy (event.Use u) → ⊥
      by n u e i (in_head l) =
          let z : None ≡ Some n.it = sym (names.signature_innermost a new outer c copy u.name (own_text new u.name) (each_among (InSignature new outer c) (event.Use u) copy.head copy.signature l).name) ∙ i in cc
      by n u e i (in_copy (event.Use y) q s l) = let p : carried_use m y ≡ u = cc in called n u (subst Behind p (copied_behind y s)) e
      by n u e i (in_copy (event.Declaration y) q s l) = cc
      by n u e i (in_copy (event.Import y) q s l) = cc
      by n u e i (in_copy (event.Member y g z) q s l) = cc
      by n u e i (in_copy (event.Bodiless y z) q s l) = cc
      by n u e i (in_copy (event.Statement y z) q s l) = cc
      by n u e i (in_copy (event.Misplaced y z) q s l) = cc
      by n u e i (in_copy (event.SecondDefault y) q s l) = cc
      by n u e i (in_hole r l h) = called n u (hole_behind r u h) e
      by n u e i (in_tail l) =
          called n u (λ j g. let z : None ≡ Some j = sym (ap specification_at (each_among (InReturn a new c run_events) (event.Use u) copy.tail copy.returns l).elsewhere) ∙ g in cc) e

      none : (n : Needed) → Calls new_asks (record { it = x; full = f }) n → ⊥
      none n l =
          let u = asked_use new outer new_events l.ask l.among in
          by n u.0 (subst (λ (z : Asked). if_so (nat_eq z.file x.file) (way x.it f z.it.site) ≡ Some n.full) u.3 l.so) (sym (ask_source new outer rises_new files_new u.0) ∙ ap (λ (z : Asked). source_of z.meaning) (sym u.3) ∙ l.source)
          (names.whence a new outer c copy (event.Use u.0) u.1)

  -- ---- what a copied declaration needs

  -- what a copied name calls for is a parameter, or copied, and the name called for it
  copied_call : (u : Use) → IsKept c u.name → (e : Found) → innermost_of (m u.name) (own_text a u.name) None E ≡ Some e
      → IsIdle new_asks e ⊎ ((z : Found) × Remains e z × (innermost_of u.name (own_text a u.name) None D ≡ Some z))
  copied_call u s e q = let n = copied.now a new outer c copy u.name s (own_text a u.name) in by n.0 n.1
    where
      within : (ds : List Found) → ((x : Found) → Among x ds → Among x Q) → Every (λ x. hit (m u.name) (own_text a u.name) x ≡ true → Among x Q) ds
      within [] f = tt
      within (d ∷ ds) f = (λ z. f d (inl refl), within ds (λ x k. f x (inr k)))

      head : innermost_of (m u.name) (own_text a u.name) None Q ≡ Some e → Among e Q
      head g = subst (HoldsOf (λ x. Among x Q)) g (innermost_holds (λ x. Among x Q) (m u.name) (own_text a u.name) None Q tt (within Q (λ x k. k)))

      by : (hi : ℕ) → copied.Now a new outer c copy u.name s (own_text a u.name) hi (innermost_of u.name (own_text a u.name) None D) (innermost_of (m u.name) (own_text a u.name) None E)
          → IsIdle new_asks e ⊎ ((z : Found) × Remains e z × (innermost_of u.name (own_text a u.name) None D ≡ Some z))
      by hi (in_front x y) = inl (head_idle e (head (sym y ∙ q)))
      by hi (in_both x y z r k lt) = let p : Some (placed x) ≡ Some e = sym z ∙ q in inr (x, record { among = k; is = let w : placed x ≡ e = cc in sym w }, y)

  source_same : (s : Option ℕ) (i : ℕ) → TokenKept c s → IsKept c i → is_source (m i) (carried_token m s) ≡ is_source i s
  source_same None i h g = refl
  source_same (Some s) i h g = same_eq m (IsEdge c) up i s (is_kept c i g) (is_kept c s h)

  step : (x y : Found) (f : Bool) → Remains x y → (n : Needed) → Calls new_asks (record { it = x; full = f }) n → IsIdle new_asks n.it ⊎ ((z : Found) × Remains n.it z × Among (record { it = z; full = n.full }) (needs old_asks (record { it = y; full = f })))
  step x y f r n l =
      let u = asked_use new outer new_events l.ask l.among in
      by u.0 u.2
      (subst (λ (z : Found). if_so (nat_eq 0 z.file) (way z.it f u.0.site) ≡ Some n.full) r.is (subst (λ (z : Asked). if_so (nat_eq z.file x.file) (way x.it f z.it.site) ≡ Some n.full) u.3 l.so))
      (sym (ask_source new outer rises_new files_new u.0) ∙ ap (λ (z : Asked). source_of z.meaning) (sym u.3) ∙ l.source) (names.whence a new outer c copy (event.Use u.0) u.1)
    where
      copied_one : (w : Use) → UseCopied c w → Among (event.Use w) run_events → is_blank (own_text a w.name) ≡ false → if_so (nat_eq 0 y.file) (way y.it f w.site) ≡ Some n.full
          → IsIdle new_asks n.it ⊎ ((z : Found) × Remains n.it z × (innermost_of w.name (own_text a w.name) None D ≡ Some z)) → IsIdle new_asks n.it ⊎ ((z : Found) × Remains n.it z × Among (record { it = z; full = n.full }) (needs old_asks (record { it = y; full = f })))
      copied_one w s k clear so (inl idle) = inl idle
      copied_one w s k clear so (inr (z, t, e)) =
          inr (z, t, calls_needs old_asks (record { it = y; full = f }) (record { it = z; full = n.full }) (own_ask a outer w) (asked_told a outer old_events w (rows.from_run a new outer c copy (event.Use w) k) clear) so (ask_source a outer rises_old files_old w ∙ e))

      by : (u : Use) → is_blank (own_text new u.name) ≡ false → if_so (nat_eq 0 y.file) (way (copied_declaration c y.it) f u.site) ≡ Some n.full → innermost_of u.name (own_text new u.name) None E ≡ Some n.it → names.Whence a new outer c copy (event.Use u) → IsIdle new_asks n.it ⊎ ((z : Found) × Remains n.it z × Among (record { it = z; full = n.full }) (needs old_asks (record { it = y; full = f })))
      by u b e i (in_head k) =
          let z : None ≡ Some n.it = sym (names.signature_innermost a new outer c copy u.name (own_text new u.name) (each_among (InSignature new outer c) (event.Use u) copy.head copy.signature k).name) ∙ i in cc
      by u b e i (in_copy (event.Use w) q s k) =
          let t : carried_use m w ≡ u = cc in
          let text : own_text new (m w.name) ≡ own_text a w.name = copy.texts w.name s.name in
          let clear : is_blank (own_text a w.name) ≡ false = ap is_blank (sym text ∙ ap (λ (z : Use). own_text new z.name) t) ∙ b in
          let so : if_so (nat_eq 0 y.file) (way y.it f w.site) ≡ Some n.full =
          ap (if_so (nat_eq 0 y.file)) (sym (way_same m y.it.source y.it.column f w.site (λ j g. source_same y.it.source j (in_row y r.among).copied.source (subst (TokenKept c) g s.specification)))) ∙ ap (λ (z : Use). if_so (nat_eq 0 y.file) (way (copied_declaration c y.it) f z.site)) t ∙ e in
          copied_one w s k clear so (copied_call w s.name n.it (ap (λ z. innermost_of (m w.name) z None E) (sym text) ∙ ap (λ (z : Use). innermost_of z.name (own_text new z.name) None E) t ∙ i))
      by u b e i (in_copy (event.Declaration w) q s k) = cc
      by u b e i (in_copy (event.Import w) q s k) = cc
      by u b e i (in_copy (event.Member w g z) q s k) = cc
      by u b e i (in_copy (event.Bodiless w z) q s k) = cc
      by u b e i (in_copy (event.Statement w z) q s k) = cc
      by u b e i (in_copy (event.Misplaced w z) q s k) = cc
      by u b e i (in_copy (event.SecondDefault w) q s k) = cc
      by u b e i (in_hole h k s) =
          let p : innermost_of u.name (own_text new u.name) None E ≡ Some (names.its a new outer c copy h.parameter (names.named a new outer c copy h k)) =
          subst (λ t. innermost_of t (own_text new t) None E ≡ Some (names.its a new outer c copy h.parameter (names.named a new outer c copy h k))) (sym s.name) (names.hole_innermost a new outer c copy h k) in
          let z : Some (names.its a new outer c copy h.parameter (names.named a new outer c copy h k)) ≡ Some n.it = sym p ∙ i in
          let w : names.its a new outer c copy h.parameter (names.named a new outer c copy h k) ≡ n.it = cc in
          inl (subst (IsIdle new_asks) w (head_idle (names.its a new outer c copy h.parameter (names.named a new outer c copy h k)) (names.its_head a new outer c copy h.parameter (names.named a new outer c copy h k))))
      by u b e i (in_tail k) =
          let z : None ≡ Some n.full =
          sym (if_none (nat_eq 0 y.file) (way (copied_declaration c y.it) f u.site) (ap (way (copied_declaration c y.it) f) (each_among (InReturn a new c run_events) (event.Use u) copy.tail copy.returns k).elsewhere)) ∙ e in
          cc

  alike : NeedsAlike new_asks old_asks E D Remains
  alike = record {
    one_new = are_one new outer rises_new files_new;
    one_old = are_one a outer rises_old files_old;
    within_new = calls_within new outer rises_new files_new;
    within_old = calls_within a outer rises_old files_old;
    once = once;
    step = step;
  }

  pub none_needs_itself : BoundRounds → own_cycles a outer ≡ [] → own_cycles new outer ≡ []
  none_needs_itself law e = none_cycles new_asks k E (every_none E (λ x n. n))
    where
      k : ℕ
      k = length E + length E

      old_none : NoneItself old_asks k D
      old_none = enough_rounds law old_asks D (own_declared_all a outer rises_old files_old) (cycles_none old_asks (length D + length D) D e) k

      every_none : (ds : List Found) → ((x : Found) → Among x ds → Among x E) → NoneItself new_asks k ds
      every_none [] f = tt
      every_none (d ∷ ds) f = (by (names.either a new outer c copy d (f d (inl refl))), every_none ds (λ x n. f x (inr n)))
        where
          by : Among d Q ⊎ ((y : Found) × Among y R × (d ≡ placed y)) → needs_itself new_asks k d ≡ false
          by (inl n) = idle_itself new_asks k d (head_idle d n)
          by (inr (y, n, q)) =
              itself_alike new_asks old_asks E D Remains alike k d y (f d (inl refl)) (record { among = n; is = q }) (every_among (λ x. needs_itself old_asks k x ≡ false) y D old_none (rows.in_run_old a new outer c copy y n))
