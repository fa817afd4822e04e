-- No declaration needs itself, with runs replaced.
use Rattle.std.proofs.Common.{◌≡◌, ◌∙◌, ℕ, ◌+◌, ◌-◌, ◌<◌, ◌≤◌, ◌⊎◌, inl, inr, Bool, true, false, List, [], ◌∷◌, length, Option, Some, None, refl, sym, ap, subst, arith}
use Rattle.std.specs.Prelude.{if◌then◌else◌, nat_eq}
use Rattle.go_rewriting.specs.Places.{become}
use Rattle.go_tree.specs.declared.context.Site.{Site}
use Rattle.go_tree.specs.declared.context.Site.TheVariants as site_of
use Rattle.go_tree.specs.declared.event.Declaration.{Declaration}
use Rattle.go_tree.specs.declared.event.Event.{Event}
use Rattle.go_tree.specs.declared.event.Event.TheVariants as event
use Rattle.go_tree.specs.declared.event.Use.{Use}
use Rattle.go_tree.specs.declared.object.Object.{Object}
use Rattle.go_tree.specs.Contexts.{file_context}
use Rattle.go_tree.specs.Declarations.{Found, is_new}
use Rattle.go_tree.specs.Lookups.{Asked}
use Rattle.go_tree.specs.Needs.{Needed, if_so, is_source, way_by, way, needs, needs_itself}
use Rattle.go_tree.specs.Units.{is_blank}
use Rattle.go_scopes_cycles.specs.Needs.{source_of}
use Rattle.go_heads.specs.Functions.{Alone}
use Rattle.go_heads.specs.Names.{own_text, own_names, own_declarations}
use Rattle.go_heads.proofs.Public.{Every}
use Rattle.go_scopes_bodies.specs.Carried.{carried_token, carried_site, carried_declaration, carried_event, carried_use}
use Rattle.go_scopes_bodies.specs.Faults.{own_ask, own_asked, own_second_declarations, own_cycles}
use Rattle.go_scopes_bodies.specs.Meant.{outside, Outer, own_local, or_outside, own_meant}
use Rattle.go_scopes_bodies.proofs.Public.{BoundRounds, NoneItself, none_cycles, cycles_none, enough_rounds}
use Rattle.extract_names.specs.Gaps.{Gap, moved_by, Among, Stays, AtEdge}
use Rattle.extract_names.specs.Pieces.{TellsPieces}
use Rattle.extract_names.specs.Sites.{found_as, TokenStays, specification_at, DeclarationStays, EventStays, TokenIsNew, IsNew, UseIsNew, EventIsNew, IsSite}
use Rattle.extract_names.proofs.Edges.{not_eq, one, same_eq, stays_edge}
use Rattle.extract_names.proofs.Founds.{RiseFrom, innermost_of, local_source}
use Rattle.extract_names.proofs.Rows.{every_among, IsAgain, IsLost, State, nothing, anew, lost, placed_at}
use Rattle.extract_names.proofs.Rows as rows
use Rattle.extract_names.proofs.Replaced.{among_found, among_new, found_among, new_found}
use Rattle.extract_names.proofs.Replaced as replaced
use Rattle.extract_names.proofs.Kept as kept
use Rattle.extract_names.proofs.Said as said
use Rattle.extract_names.proofs.Asked as asked
use Rattle.extract_names.proofs.Declares.{new_is}
use Rattle.extract_names.proofs.Sources.{outside_source, ask_source, innermost_among, same_name, are_one, calls_within, own_declared_all, way_same, way_off, if_none}
use Rattle.extract_names.proofs.Rounds.{Calls, calls_needs, none_among, needs_calls, IsIdle, idle_itself, NeedsAlike, itself_alike}

module _ (a new : Alone) (outer : Outer) (gaps : List Gap) (site : IsSite a outer gaps new) (told : TellsPieces (moved_by gaps) (file_context 0) a.tree site.patch (become (moved_by gaps) a.tree site.patch)) (free : own_second_declarations a ≡ []) where
  abbrev v : ℕ → ℕ
  v = moved_by gaps

  abbrev old_events : List Event
  old_events = replaced.old_events a new outer gaps site told

  abbrev new_events : List Event
  new_events = replaced.new_events a new outer gaps site told

  abbrev E : List Found
  E = own_declarations new

  abbrev old_asks : List Asked
  old_asks = own_asked a outer

  abbrev new_asks : List Asked
  new_asks = own_asked new outer

  up : (x y : ℕ) → AtEdge gaps x → AtEdge gaps y → x < y → v x < v y
  up = replaced.up a new outer gaps site told

  rises_old : RiseFrom 0 (own_declarations a)
  rises_old = replaced.rises_old a new outer gaps site told

  rises_new : RiseFrom 0 E
  rises_new = replaced.rises_new a new outer gaps site told

  files_old : Every (λ d. d.file ≡ 0) (own_declarations a)
  files_old = replaced.files_old a new outer gaps site told

  files_new : Every (λ d. d.file ≡ 0) E
  files_new = replaced.files_new a new outer gaps site told

  -- what stays of the old declarations
  record Remains (x y : Found) : Type 0 where
    among : Among y (own_declarations a)
    stays : DeclarationStays gaps y.it
    placed : x ≡ placed_at v gaps y

  once : (x y z : Found) → Remains x y → Remains x z → y ≡ z
  once x y z r s =
      same_name a outer rises_old files_old y z r.among s.among
      (one v (AtEdge gaps) up y.it.name z.it.name (stays_edge gaps y.it.name r.stays.name) (stays_edge gaps z.it.name s.stays.name) (ap (λ (d : Found). d.it.name) (sym r.placed ∙ s.placed)))

  -- ---- names of gaps

  -- A name of a gap calls for nothing.
  new_calls_none : (u : Use) → Among (event.Use u) new_events → (g : Gap) → Among g gaps → UseIsNew v g u → is_blank (own_text new u.name) ≡ false → (f : Bool) (d : Declaration) (e : Found) (b : Bool) (g : Bool) → if_so b (way d f u.site) ≡ Some g → innermost_of u.name (own_text new u.name) None E ≡ Some e → ⊥
  new_calls_none u k g l n c f d e b h p q = by n.declaring
    where
      by : (u.site ≡ site_of.Elsewhere) ⊎ ((o : Object) × (g.means n.token ≡ Some (outside o))) → ⊥
      by (inl s) = let z : None ≡ Some h = sym (if_none b (way d f u.site) (ap (way d f) s)) ∙ p in cc
      by (inr (o, m)) =
          let t : own_meant new outer u.name (own_text new u.name) ≡ Some (outside o) = asked.new_use a new outer gaps site told free u k g l n.token n.within n.name (outside o) m in
          let z : None ≡ Some e =
          sym (outside_source (own_local new u.name (own_text new u.name)) (outer (own_text new u.name)) o (sym (ap (λ b. if b then None else or_outside (own_local new u.name (own_text new u.name)) (outer (own_text new u.name))) c) ∙ t))
          ∙ local_source new 0 rises_new files_new u.name (own_text new u.name) ∙ q in
          cc

  -- a token of a gap is none that stays
  gap_apart : (g : Gap) → Among g gaps → (t x : ℕ) → IsNew v g t → Stays gaps x → v x ≡ t → ⊥
  gap_apart g k t x n s e =
      let a : v g.from ≤ t = n.0 in
      let b : t < v g.from + length g.texts = n.1 in
      by (t - v g.from) (omega (arith, a)) (omega (arith, a, b))
    where
      by : (i : ℕ) → t ≡ v g.from + i → i < length g.texts → ⊥
      by i q lt = kept.not_new a new outer gaps site told free x s g t i k q lt (sym e)

  -- what a gap declares needs nothing
  came_idle : (g : Gap) (old : List Event) (d : Declaration) → Among g gaps → replaced.CameFrom a new outer gaps site told g old d → IsIdle new_asks (found_as new d)
  came_idle g old d k c f = none_among (needs new_asks (record { it = found_as new d; full = f })) (λ n m. none n (needs_calls new_asks (record { it = found_as new d; full = f }) n m))
    where
      off : (x : Use) → TokenStays gaps (specification_at x.site) → way_by d.source d.column f (carried_site v x.site) ≡ None
      off x h = way_off d.source d.column f (carried_site v x.site) (λ i e. by x.site d.source c.it.source h i e)
        where
          apart : (s i : ℕ) (o : Option ℕ) → TokenIsNew v g o → Stays gaps s → v s ≡ i → is_source i o ≡ false
          apart s i None t h e = refl
          apart s i (Some r) t h e = not_eq i r (λ q. gap_apart g k r s t h (e ∙ q))

          by : (y : Site) (o : Option ℕ) → TokenIsNew v g o → TokenStays gaps (specification_at y) → (i : ℕ) → specification_at (carried_site v y) ≡ Some i → is_source i o ≡ false
          by site_of.Elsewhere o t h i e = cc
          by (site_of.Type s) o t h i e = apart s i o t h (let q : v s ≡ i = cc in q)
          by (site_of.Value s column alone) o t h i e = apart s i o t h (let q : v s ≡ i = cc in q)
          by (site_of.Right s r) o t h i e = apart s i o t h (let q : v s ≡ i = cc in q)

      remained : (n : Needed) (u : Use) (e : Event) → event.Use u ≡ carried_event v e → EventStays gaps e → if_so true (way d f u.site) ≡ Some n.full → ⊥
      remained n u (event.Use x) q s p = let w : carried_use v x ≡ u = cc in let z : None ≡ Some n.full = sym (off x s.3) ∙ ap (λ (y : Use). way d f y.site) w ∙ p in cc
      remained n u (event.Declaration x) q s p = cc
      remained n u (event.Import x) q s p = cc
      remained n u (event.Member m g x) q s p = cc
      remained n u (event.Bodiless x y) q s p = cc
      remained n u (event.Statement x y) q s p = cc
      remained n u (event.Misplaced x y) q s p = cc
      remained n u (event.SecondDefault x) q s p = cc

      by : (n : Needed) (u : Use) → Among (event.Use u) new_events → is_blank (own_text new u.name) ≡ false → if_so true (way d f u.site) ≡ Some n.full → innermost_of u.name (own_text new u.name) None E ≡ Some n.it
          → replaced.Remained a new outer gaps site told (event.Use u) ⊎ replaced.Comes a new outer gaps site told (event.Use u) → ⊥
      by n u m b p q (inl (e, r, s, l)) = remained n u e r s p
      by n u m b p q (inr (h, olds, news, i, l)) = new_calls_none u m h i.listed (replaced.each_among (EventIsNew a v h olds) (event.Use u) news i.tells.each l) b f d n.it true n.full p q

      none : (n : Needed) → Calls new_asks (record { it = found_as new d; full = f }) n → ⊥
      none n m =
          let u = asked.asked_use new outer new_events m.ask m.among in
          by n u.0 u.1 u.2 (subst (λ (z : Asked). if_so (nat_eq z.file 0) (way d f z.it.site) ≡ Some n.full) u.3 m.so) (sym (ask_source new outer rises_new files_new u.0) ∙ ap (λ (z : Asked). source_of z.meaning) (sym u.3) ∙ m.source)
          (replaced.old_or_new a new outer gaps site told (event.Use u.0) u.1)

  -- ---- declarations

  classify : (x : Found) → Among x E → IsIdle new_asks x ⊎ ((y : Found) × Remains x y)
  classify x k =
      let y = found_among (own_text new) x new_events (new_found (own_names new) x (own_names new) k) in
      by y.0 y.2 (subst (λ z. is_new (own_names new) z ≡ true) y.2 (new_is (own_names new) x (own_names new) k)) (replaced.old_or_new a new outer gaps site told (event.Declaration y.0) y.1)
    where
      remained : (d : Declaration) (e : Event) → x ≡ found_as new d → event.Declaration d ≡ carried_event v e → EventStays gaps e → Among e old_events → is_new (own_names new) (found_as new d) ≡ true → (y : Found) × Remains x y
      remained d (event.Declaration z) p q s l n =
          let w : d ≡ carried_declaration v z = cc in (
            found_as a z,
            record {
              among =
                  among_new (own_names a) (found_as a z) (own_names a) (sym (replaced.new_same a new outer gaps site told z s l) ∙ subst (λ y. is_new (own_names new) (found_as new y) ≡ true) w n)
                  (among_found (own_text a) z old_events l);
              stays = s;
              placed = p ∙ ap (found_as new) w ∙ ap (λ t. record { file = 0; name = t; place = (found_as a z).place; it = carried_declaration v z }) (site.texts z.name s.name);
            },
          )
      remained d (event.Use z) p q s l n = cc
      remained d (event.Import z) p q s l n = cc
      remained d (event.Member m g z) p q s l n = cc
      remained d (event.Bodiless z y) p q s l n = cc
      remained d (event.Statement z y) p q s l n = cc
      remained d (event.Misplaced z y) p q s l n = cc
      remained d (event.SecondDefault z) p q s l n = cc

      by : (d : Declaration) → x ≡ found_as new d → is_new (own_names new) (found_as new d) ≡ true → replaced.Remained a new outer gaps site told (event.Declaration d) ⊎ replaced.Comes a new outer gaps site told (event.Declaration d) → IsIdle new_asks x ⊎ ((y : Found) × Remains x y)
      by d p n (inl (e, q, s, l)) = inr (remained d e p q s l n)
      by d p n (inr (g, old, news, i, l)) = inl (subst (IsIdle new_asks) (sym p) (came_idle g old d i.listed (replaced.came_from a new outer gaps site told g old news i d l)))

  -- ---- names that stay

  -- What a name that stays calls for needs nothing, or it stays, and the name called for it.
  kept_call : (u : Use) → Among (event.Use u) old_events → Stays gaps u.name → is_blank (own_text a u.name) ≡ false → (e : Found) → innermost_of (v u.name) (own_text a u.name) None E ≡ Some e
      → IsIdle new_asks e ⊎ ((z : Found) × Remains e z × (innermost_of u.name (own_text a u.name) None (own_declarations a) ≡ Some z))
  kept_call u kk st b e q = let s = kept.kept_state a new outer gaps site told free u.name st (own_text a u.name) in by s.0 s.1 s.2 (classify e (innermost_among new outer rises_new files_new (v u.name) (own_text a u.name) e q))
    where
      again_off : (k : IsAgain v gaps (innermost_of u.name (own_text a u.name) None (own_declarations a)) (innermost_of (v u.name) (own_text a u.name) None E)) → (z : Found) → Remains e z → ⊥
      again_off k z r =
          let p = said.piece_of a new outer gaps site told free k.gap k.listed in
          let y = replaced.redone a new outer gaps site told k.gap p.0 p.1 p.2 k.again k.is_listed in
          let n : k.one ≡ e = let c : Some k.one ≡ Some e = sym k.new ∙ q in cc in
          let l : y.came.it.again.token < y.came.it.again.begins = y.came.it.behind in
          let m : y.came.it.again.begins ≤ length k.gap.texts = y.came.it.before in
          let t : y.came.it.again.token ≡ k.again.token = ap (λ x. x.token) y.again in
          kept.not_new a new outer gaps site told free z.it.name r.stays.name k.gap e.it.name k.again.token k.listed (ap (λ (x : Found). x.it.name) (sym n) ∙ k.name) (omega (arith, l, m, t)) (ap (λ (x : Found). x.it.name) r.placed)

      lost_off : IsLost v gaps (innermost_of u.name (own_text a u.name) None (own_declarations a)) (innermost_of (v u.name) (own_text a u.name) None E) → ⊥
      lost_off k =
          kept.not_lost a new outer gaps site told free u.name st (kept.lost_means a new outer gaps site told free u.name (v u.name) (own_text a u.name) b k) (asked.old_use a new outer gaps site told free u kk)

      by : (hi j : ℕ) → State v gaps hi j (innermost_of u.name (own_text a u.name) None (own_declarations a)) (innermost_of (v u.name) (own_text a u.name) None E) → IsIdle new_asks e ⊎ ((z : Found) × Remains e z)
          → IsIdle new_asks e ⊎ ((z : Found) × Remains e z × (innermost_of u.name (own_text a u.name) None (own_declarations a) ≡ Some z))
      by hi j s (inl idle) = inl idle
      by hi j (nothing x y) (inr (z, r)) = let c : None ≡ Some e = sym y ∙ q in cc
      by hi j (rows.stays x lt) (inr (z, r)) =
          let c : Some (placed_at v gaps x.one) ≡ Some e = sym x.new ∙ q in
          inr (x.one, record { among = innermost_among a outer rises_old files_old u.name (own_text a u.name) x.one x.old; stays = x.stays; placed = let p : placed_at v gaps x.one ≡ e = cc in sym p }, x.old)
      by hi j (anew x lt le) (inr (z, r)) = absurd (again_off x z r)
      by hi j (lost x lt le) (inr (z, r)) = absurd (lost_off x)

  -- the specification of a declaration that stays
  source_same : (s : Option ℕ) (i : ℕ) → TokenStays gaps s → Stays gaps i → is_source (v i) (carried_token v s) ≡ is_source i s
  source_same None i h g = refl
  source_same (Some s) i h g = same_eq v (AtEdge gaps) up i s (stays_edge gaps i g) (stays_edge gaps s h)

  step : (x y : Found) (f : Bool) → Remains x y → (n : Needed) → Calls new_asks (record { it = x; full = f }) n → IsIdle new_asks n.it ⊎ ((z : Found) × Remains n.it z × Among (record { it = z; full = n.full }) (needs old_asks (record { it = y; full = f })))
  step x y f r n c =
      let u = asked.asked_use new outer new_events c.ask c.among in
      by u.0 u.1 u.2
      (subst (λ (z : Found). if_so (nat_eq 0 z.file) (way z.it f u.0.site) ≡ Some n.full) r.placed (subst (λ (z : Asked). if_so (nat_eq z.file x.file) (way x.it f z.it.site) ≡ Some n.full) u.3 c.so))
      (sym (ask_source new outer rises_new files_new u.0) ∙ ap (λ (z : Asked). source_of z.meaning) (sym u.3) ∙ c.source) (replaced.old_or_new a new outer gaps site told (event.Use u.0) u.1)
    where
      remained : (u : Use) (e : Event) → event.Use u ≡ carried_event v e → EventStays gaps e → Among e old_events → is_blank (own_text new u.name) ≡ false → if_so (nat_eq 0 y.file) (way (carried_declaration v y.it) f u.site) ≡ Some n.full
          → innermost_of u.name (own_text new u.name) None E ≡ Some n.it → IsIdle new_asks n.it ⊎ ((z : Found) × Remains n.it z × Among (record { it = z; full = n.full }) (needs old_asks (record { it = y; full = f })))
      remained u (event.Use w) q s l b p i =
          let t : carried_use v w ≡ u = cc in
          let text : own_text new (v w.name) ≡ own_text a w.name = site.texts w.name s.0 in
          let clear : is_blank (own_text a w.name) ≡ false = ap is_blank (sym text ∙ ap (λ (z : Use). own_text new z.name) t) ∙ b in
          let so : if_so (nat_eq 0 y.file) (way y.it f w.site) ≡ Some n.full =
          ap (if_so (nat_eq 0 y.file)) (sym (way_same v y.it.source y.it.column f w.site (λ j e. source_same y.it.source j r.stays.source (subst (TokenStays gaps) e s.3)))) ∙ ap (λ (z : Use). if_so (nat_eq 0 y.file) (way (carried_declaration v y.it) f z.site)) t ∙ p in
          next w l clear so (kept_call w l s.0 clear n.it (ap (λ z. innermost_of (v w.name) z None E) (sym text) ∙ ap (λ (z : Use). innermost_of z.name (own_text new z.name) None E) t ∙ i))
        where
          next : (w : Use) → Among (event.Use w) old_events → is_blank (own_text a w.name) ≡ false → if_so (nat_eq 0 y.file) (way y.it f w.site) ≡ Some n.full
              → IsIdle new_asks n.it ⊎ ((z : Found) × Remains n.it z × (innermost_of w.name (own_text a w.name) None (own_declarations a) ≡ Some z))
              → IsIdle new_asks n.it ⊎ ((z : Found) × Remains n.it z × Among (record { it = z; full = n.full }) (needs old_asks (record { it = y; full = f })))
          next w l clear so (inl idle) = inl idle
          next w l clear so (inr (z, m, e)) =
              inr (z, m, calls_needs old_asks (record { it = y; full = f }) (record { it = z; full = n.full }) (own_ask a outer w) (asked.asked_told a outer old_events w l clear) so (ask_source a outer rises_old files_old w ∙ e))
      remained u (event.Declaration w) q s l b p i = cc
      remained u (event.Import w) q s l b p i = cc
      remained u (event.Member m g w) q s l b p i = cc
      remained u (event.Bodiless w z) q s l b p i = cc
      remained u (event.Statement w z) q s l b p i = cc
      remained u (event.Misplaced w z) q s l b p i = cc
      remained u (event.SecondDefault w) q s l b p i = cc

      by : (u : Use) → Among (event.Use u) new_events → is_blank (own_text new u.name) ≡ false → if_so (nat_eq 0 y.file) (way (carried_declaration v y.it) f u.site) ≡ Some n.full → innermost_of u.name (own_text new u.name) None E ≡ Some n.it
          → replaced.Remained a new outer gaps site told (event.Use u) ⊎ replaced.Comes a new outer gaps site told (event.Use u) → IsIdle new_asks n.it ⊎ ((z : Found) × Remains n.it z × Among (record { it = z; full = n.full }) (needs old_asks (record { it = y; full = f })))
      by u m b p i (inl (e, q, s, l)) = remained u e q s l b p i
      by u m b p i (inr (g, old, news, j, l)) = absurd (new_calls_none u m g j.listed (replaced.each_among (EventIsNew a v g old) (event.Use u) news j.tells.each l) b f (carried_declaration v y.it) n.it (nat_eq 0 y.file) n.full p i)

  alike : NeedsAlike new_asks old_asks E (own_declarations a) Remains
  alike = record {
    one_new = are_one new outer rises_new files_new;
    one_old = are_one a outer rises_old files_old;
    within_new = calls_within new outer rises_new files_new;
    within_old = calls_within a outer rises_old files_old;
    once = once;
    step = step;
  }

  pub none_needs_itself : BoundRounds → own_cycles a outer ≡ [] → own_cycles new outer ≡ []
  none_needs_itself law e =
      none_cycles new_asks (length E + length E) E (every_none E (λ x k. k))
    where
      k : ℕ
      k = length E + length E

      old_none : NoneItself old_asks k (own_declarations a)
      old_none = enough_rounds law old_asks (own_declarations a) (own_declared_all a outer rises_old files_old) (cycles_none old_asks (length (own_declarations a) + length (own_declarations a)) (own_declarations a) e) k

      every_none : (ds : List Found) → ((x : Found) → Among x ds → Among x E) → NoneItself new_asks k ds
      every_none [] f = tt
      every_none (d ∷ ds) f = (by (classify d (f d (inl refl))), every_none ds (λ x m. f x (inr m)))
        where
          by : IsIdle new_asks d ⊎ ((y : Found) × Remains d y) → needs_itself new_asks k d ≡ false
          by (inl idle) = idle_itself new_asks k d idle
          by (inr (y, r)) = itself_alike new_asks old_asks E (own_declarations a) Remains alike k d y (f d (inl refl)) r (every_among (λ d. needs_itself old_asks k d ≡ false) y (own_declarations a) old_none r.among)
