-- Rules on the names that a function declares which begins with a copy of a run: each `:=` has a new one, and each variable is used.
use Rattle.std.proofs.Common.{◌≡◌, ◌∙◌, ℕ, ◌<◌, ◌≤◌, ◌⊎◌, inl, inr, Bool, true, false, List, [], ◌∷◌, ◌++◌, length, Option, Some, None, refl, sym, ap, subst, arith}
use Rattle.std.specs.Prelude.{if◌then◌else◌, ◌&&◌, not, nat_eq, option_map}
use Rattle.go_tree.specs.declared.context.Entity.TheVariants as entity
use Rattle.go_tree.specs.declared.event.Declaration.{Declaration}
use Rattle.go_tree.specs.declared.event.Event.{Event}
use Rattle.go_tree.specs.declared.event.Event.TheVariants as event
use Rattle.go_tree.specs.declared.event.Use.{Use}
use Rattle.go_tree.specs.declared.object.Object.{Object}
use Rattle.go_tree.specs.declared.object.Object.TheVariants as object
use Rattle.go_tree.specs.Contexts.{is_package}
use Rattle.go_tree.specs.Declarations.{Found, is_new}
use Rattle.go_tree.specs.Lookups.{is_assigned, is_counted, means, is_used}
use Rattle.go_tree.specs.Meanings.{Meaning}
use Rattle.go_tree.specs.Objects.{is_declared_at}
use Rattle.go_tree.specs.Redeclared.{is_by_define, same_statement, has_new}
use Rattle.go_tree.specs.Units.{is_blank}
use Rattle.go_scopes_cycles.specs.Needs.{source_of}
use Rattle.go_heads.specs.Bodies.{function_events}
use Rattle.go_heads.specs.Functions.{Alone}
use Rattle.go_heads.specs.Names.{own_text, found_by, own_names, own_declarations}
use Rattle.go_heads.proofs.Public.{Every}
use Rattle.go_scopes_bodies.specs.Carried.{carried_use}
use Rattle.go_scopes_bodies.specs.Faults.{own_ask, own_asked, own_second_declarations, own_none_new, own_unused}
use Rattle.go_scopes_bodies.specs.Meant.{Meant, own, outside, Outer, own_meant, own_object}
use Rattle.extract_names.specs.Gaps.{Among}
use Rattle.extract_names.specs.Pieces.{told_before}
use Rattle.extract_names.specs.Sites.{found_as, declared_at, token_of}
use Rattle.extract_names.specs.Copies.{Copy, IsKept, copied_declaration, DeclarationCopied, StandsInFront, DeclaredInFront, StandsBehind, TailTells, InSignature, InReturn, UsedInCopy, IsCopy}
use Rattle.extract_names.proofs.Edges.{is_eq, eq_true}
use Rattle.extract_names.proofs.Founds.{RiseFrom, IsObject, object_found, hit, innermost_of, HoldsOf, innermost_holds, by_found, meant_is, pick, first_of_two, object_is}
use Rattle.extract_names.proofs.Rows.{both_true, and_true, on_off, every_among}
use Rattle.extract_names.proofs.Replaced.{among_split, each_among, among_found, among_new, found_among, new_found}
use Rattle.extract_names.proofs.Asked.{which_used, asked_told}
use Rattle.extract_names.proofs.Declares.{new_is, new_found_of, new_told, LacksNew, none_lacks, lacks_none, IsSpent, spent_none, used_told, carried_assigned, counted}
use Rattle.extract_names.proofs.Sources.{ask_source, innermost_among, same_name}
use Rattle.extract_names.proofs.CopiedRows as rows
use Rattle.extract_names.proofs.Copied.{in_front, in_copy as in_both}
use Rattle.extract_names.proofs.Copied as copied
use Rattle.extract_names.proofs.CopyNames.{in_head, in_copy, in_hole, in_tail}
use Rattle.extract_names.proofs.CopyNames as names

-- a name means the declaration that it calls for
means_source : (d : Found) (o : Option Meaning) → source_of o ≡ Some d → means d o ≡ true
means_source d None e = cc
means_source d (Some m) e = ap (is_declared_at d.file d.it.name) e ∙ and_true (nat_eq d.file d.file) (nat_eq d.it.name d.it.name) (is_eq d.file d.file refl) (is_eq d.it.name d.it.name refl)

module _ (a new : Alone) (outer : Outer) (c : Copy) (copy : IsCopy a outer c new) where
  abbrev m : ℕ → ℕ
  m = c.place

  abbrev old_events : List Event
  old_events = function_events a

  abbrev new_events : List Event
  new_events = function_events new

  abbrev run_events : List Event
  run_events = told_before copy.pieces

  abbrev D : List Found
  D = own_declarations a

  abbrev E : List Found
  E = own_declarations new

  abbrev R : List Found
  R = rows.R a new outer c copy

  abbrev Q : List Found
  Q = rows.Q a new outer c copy

  abbrev placed : Found → Found
  placed d = record d { it = copied_declaration c d.it }

  -- a declaration whose statement begins in the run is one of the run
  in_run : (z : Declaration) → Among (event.Declaration z) old_events → c.from ≤ z.statement → z.statement < c.upto → Among (event.Declaration z) run_events
  in_run z k lo hi = by (among_split (event.Declaration z) copy.before (run_events ++ copy.behind) (subst (Among (event.Declaration z)) copy.told k))
    where
      rest : Among (event.Declaration z) run_events ⊎ Among (event.Declaration z) copy.behind → Among (event.Declaration z) run_events
      rest (inl n) = n
      rest (inr n) = absurd (let le : c.upto ≤ z.statement = (each_among (StandsBehind c) (event.Declaration z) copy.behind copy.from_behind n).2 in omega (arith, le, hi))

      by : Among (event.Declaration z) copy.before ⊎ Among (event.Declaration z) (run_events ++ copy.behind) → Among (event.Declaration z) run_events
      by (inl n) = absurd (let lt : z.statement < c.from = (each_among (StandsInFront c) (event.Declaration z) copy.before copy.in_front n).statement in omega (arith, lt, lo))
      by (inr n) = rest (among_split (event.Declaration z) run_events copy.behind n)

  -- ---- new names of `:=`

  has_same : (x : Declaration) → DeclarationCopied c x → has_new (found_as a x) D ≡ true → has_new (found_as new (copied_declaration c x)) E ≡ true
  has_same x s e =
      let y = new_found_of (found_as a x) D e in
      let z = found_among (own_text a) y.0 old_events (new_found (own_names a) y.0 (own_names a) y.1) in
      let fresh : is_new (own_names a) (found_as a z.0) ≡ true = subst (λ w. is_new (own_names a) w ≡ true) z.2 (new_is (own_names a) y.0 (own_names a) y.1) in
      let same : same_statement (found_as a x) (found_as a z.0) ≡ true = subst (λ w. same_statement (found_as a x) w ≡ true) z.2 y.2 in
      let p = both_true (nat_eq 0 0 && nat_eq x.statement z.0.statement) (is_by_define z.0.manner) same in
      let q = both_true (nat_eq 0 0) (nat_eq x.statement z.0.statement) p.0 in
      let n : x.statement ≡ z.0.statement = eq_true x.statement z.0.statement q.1 in
      let lo : c.from ≤ x.statement = s.statement.0 in
      let hi : x.statement < c.upto = s.statement.1 in
      let there : Among (event.Declaration z.0) run_events = in_run z.0 z.1 (omega (arith, lo, n)) (omega (arith, hi, n)) in
      let row : Among (found_as a z.0) R = among_new (own_names a) (found_as a z.0) (found_by (own_text a) run_events) fresh (among_found (own_text a) z.0 run_events there) in
      new_told (found_as new (copied_declaration c x)) E (placed (found_as a z.0)) (rows.in_run_new a new outer c copy (found_as a z.0) row)
      (and_true (nat_eq 0 0 && nat_eq (m x.statement) (m z.0.statement)) (is_by_define z.0.manner) (and_true (nat_eq 0 0) (nat_eq (m x.statement) (m z.0.statement)) refl (is_eq (m x.statement) (m z.0.statement) (ap m n))) p.1)

  copy_lacks : (x : Declaration) → DeclarationCopied c x → Among (event.Declaration x) run_events → own_none_new a ≡ [] → LacksNew E (found_as new (copied_declaration c x))
  copy_lacks x s k h = by (is_by_define x.manner && nat_eq x.column 0) (has_new (found_as a x) D) refl (none_lacks D (own_names a) h (found_as a x) (among_found (own_text a) x old_events (rows.from_run a new outer c copy (event.Declaration x) k)))
    where
      by : (b d : Bool) → has_new (found_as a x) D ≡ d → (b && not d) ≡ false → (b && not (has_new (found_as new (copied_declaration c x)) E)) ≡ false
      by false d e f = refl
      by true true e f = ap not (has_same x s e)
      by true false e f = cc

  pub some_new : own_none_new a ≡ [] → own_none_new new ≡ []
  some_new h = lacks_none E (own_names new) (λ x k. let y = found_among (own_text new) x new_events k in subst (LacksNew E) (sym y.2) (by y.0 (names.whence a new outer c copy (event.Declaration y.0) y.1)))
    where
      by : (d : Declaration) → names.Whence a new outer c copy (event.Declaration d) → LacksNew E (found_as new d)
      by d (in_head n) = ap (λ z. is_by_define z && nat_eq d.column 0 && not (has_new (found_as new d) E)) (each_among (InSignature new outer c) (event.Declaration d) copy.head copy.signature n).manner
      by d (in_copy (event.Declaration x) q s n) = let p : copied_declaration c x ≡ d = cc in subst (λ z. LacksNew E (found_as new z)) p (copy_lacks x s n h)
      by d (in_copy (event.Use x) q s n) = cc
      by d (in_copy (event.Import x) q s n) = cc
      by d (in_copy (event.Member x g y) q s n) = cc
      by d (in_copy (event.Bodiless x y) q s n) = cc
      by d (in_copy (event.Statement x y) q s n) = cc
      by d (in_copy (event.Misplaced x y) q s n) = cc
      by d (in_copy (event.SecondDefault x) q s n) = cc
      by d (in_hole r k n) = absurd n
      by d (in_tail n) = absurd (each_among (TailTells c) (event.Declaration d) copy.tail copy.tail_tells n)

  -- ---- each variable is used

  rises_old : RiseFrom 0 D
  rises_old = rows.rises_old a new outer c copy

  files_old : Every (λ d. d.file ≡ 0) D
  files_old = rows.files_old a new outer c copy

  rises_new : RiseFrom 0 E
  rises_new = rows.rises_new a new outer c copy

  files_new : Every (λ d. d.file ≡ 0) E
  files_new = rows.files_new a new outer c copy

  -- declarations of one object are one
  one_object : (x y : Found) → Among x D → Among y D → is_package y.it.block ≡ false → declared_at a x.it.name ≡ declared_at a y.it.name → x ≡ y
  one_object x y k l local e =
      same_name a outer rises_old files_old x y k l
      (by (object_found a copy.itself files_old x.it.name x (rows.find_old a new outer c copy x k)) (object_found a copy.itself files_old y.it.name y (rows.find_old a new outer c copy y l)))
    where
      by : IsObject a x.it.name x → IsObject a y.it.name y → x.it.name ≡ y.it.name
      by (inl p) (inl q) = let z : is_package y.it.block ≡ true = q.0 in cc
      by (inl p) (inr (f, i, q, r)) = let z : Some (own (object.Package 0)) ≡ Some (own (object.Local 0 i)) = sym p.1 ∙ e ∙ q in cc
      by (inr p) (inl q) = let z : is_package y.it.block ≡ true = q.0 in cc
      by (inr (g, j, p, s)) (inr (f, i, q, r)) = let z : Some (own (object.Local 0 j)) ≡ Some (own (object.Local 0 i)) = sym p ∙ e ∙ q in let n : j ≡ i = cc in sym s ∙ ap (token_of a) n ∙ r

  module _ (y : Found) (k : Among y R) where
    in_row : rows.InRow a new outer c copy y
    in_row = every_among (rows.InRow a new outer c copy) y R (rows.run_each a new outer c copy) k

    y_old : Among y D
    y_old = rows.in_run_old a new outer c copy y k

    y_local : is_package y.it.block ≡ false
    y_local = rows.local_in a new outer c copy y.it in_row.copied

    y_object : (i : ℕ) × (declared_at a y.it.name ≡ Some (own (object.Local 0 i)))
    y_object = by (object_found a copy.itself files_old y.it.name y (rows.find_old a new outer c copy y y_old))
      where
        by : IsObject a y.it.name y → (i : ℕ) × (declared_at a y.it.name ≡ Some (own (object.Local 0 i)))
        by (inl p) = absurd (on_off (is_package y.it.block) p.0 y_local)
        by (inr (l, i, p, q)) = (i, p)

    -- a copied name that means it calls for it in the new function
    copied_source : (u : Use) → Among (event.Use u) run_events → IsKept c u.name → own_object a outer u.name ≡ declared_at a y.it.name → (is_blank (own_text a u.name) ≡ false) × (innermost_of (m u.name) (own_text a u.name) None E ≡ Some (placed y))
    copied_source u n s e = (clear, by (innermost_of u.name w None D) refl)
      where
        w : List ℕ
        w = own_text a u.name

        meant : Option Meant
        meant = own_meant a outer u.name w

        is_meant : meant ≡ Some (own (object.Local 0 y_object.0))
        is_meant =
            sym (object_is a outer u.name meant w refl ∙ ap (λ z. pick z meant (first_of_two (declared_at a u.name) meant)) (which_used 0 (length a.texts) old_events copy.order u (rows.from_run a new outer c copy (event.Use u) n)))
            ∙ e ∙ y_object.1

        whole : meant ≡ (if is_blank w then None else by_found a (innermost_of u.name w None D) (outer w))
        whole = meant_is a outer 0 rises_old files_old u.name w

        clear : is_blank w ≡ false
        clear = by (is_blank w) refl
          where
            by : (b : Bool) → is_blank w ≡ b → b ≡ false
            by false q = refl
            by true q = let z : None ≡ Some (own (object.Local 0 y_object.0)) = sym (whole ∙ ap (λ b. if b then None else by_found a (innermost_of u.name w None D) (outer w)) q) ∙ is_meant in cc

        found : (o : Option Found) → innermost_of u.name w None D ≡ o → by_found a o (outer w) ≡ Some (own (object.Local 0 y_object.0))
        found o q = sym (whole ∙ ap (λ b. if b then None else by_found a (innermost_of u.name w None D) (outer w)) clear ∙ ap (λ z. by_found a z (outer w)) q) ∙ is_meant

        no_outside : (o : Option Object) → option_map outside o ≡ Some (own (object.Local 0 y_object.0)) → ⊥
        no_outside None q = cc
        no_outside (Some o) q = cc

        -- the innermost of the old function
        old_is : (o : Option Found) → innermost_of u.name w None D ≡ o → innermost_of u.name w None D ≡ Some y
        old_is None q = absurd (no_outside (outer w) (found None q))
        old_is (Some x) q = q ∙ ap (λ z. Some z) (one_object x y (innermost_among a outer rises_old files_old u.name w x q) y_old y_local (found (Some x) q ∙ sym y_object.1))

        in_front_off : innermost_of u.name w None (rows.X a new outer c copy) ≡ Some y → ⊥
        in_front_off q =
            let lt : y.it.name < c.from = subst (HoldsOf (λ z. z.it.name < c.from)) q (innermost_holds (λ z. z.it.name < c.from) u.name w None (rows.X a new outer c copy) tt (early (rows.X a new outer c copy) (rows.front_each a new outer c copy))) in
            let le : c.from ≤ y.it.name = in_row.copied.name.0 in
            omega (arith, lt, le)
          where
            early : (ds : List Found) → Every (λ d. DeclaredInFront c d.it) ds → Every (λ d. hit u.name w d ≡ true → d.it.name < c.from) ds
            early [] h = tt
            early (d ∷ ds) h = (λ z. h.0.name, early ds h.1)

        state : (hi : ℕ) → copied.Now a new outer c copy u.name s w hi (innermost_of u.name w None D) (innermost_of (m u.name) w None E) → innermost_of u.name w None D ≡ Some y → innermost_of (m u.name) w None E ≡ Some (placed y)
        state hi (in_front p q) r = absurd (in_front_off (sym p ∙ r))
        state hi (in_both x p q g l lt) r = let z : Some x ≡ Some y = sym p ∙ r in let t : x ≡ y = cc in q ∙ ap (λ d. Some (placed d)) t

        by : (o : Option Found) → innermost_of u.name w None D ≡ o → innermost_of (m u.name) w None E ≡ Some (placed y)
        by o q = let n = copied.now a new outer c copy u.name s w in state n.0 n.1 (old_is o q)

    used_by : (u : Use) → Among (event.Use u) new_events → is_blank (own_text new u.name) ≡ false → is_assigned u.role ≡ false → innermost_of u.name (own_text new u.name) None E ≡ Some (placed y) → is_used (placed y) (own_asked new outer) ≡ true
    used_by u n b r e =
        used_told (placed y) (own_asked new outer) (own_ask new outer u) (asked_told new outer new_events u n b) (means_source (placed y) (own_ask new outer u).meaning (ask_source new outer rises_new files_new u ∙ e)) r

  pub variables_used : own_second_declarations a ≡ [] → own_unused new outer ≡ []
  variables_used free = spent_none (own_asked new outer) E (λ d k. by d (names.either a new outer c copy d k))
    where
      head_off : (d : Found) → Among d Q → is_counted d.it.entity d.it.block ≡ false
      head_off d k =
          let y = found_among (own_text new) d copy.head (new_found (own_names new) d (found_by (own_text new) copy.head) k) in
          let it : d.it ≡ y.0 = ap (λ (z : Found). z.it) y.2 in
          kind (each_among (InSignature new outer c) (event.Declaration y.0) copy.head copy.signature y.1).entity it (is_counted d.it.entity d.it.block) refl
        where
          kind : {z : Declaration} → (z.entity ≡ entity.Function) ⊎ (z.entity ≡ entity.Parameter) → d.it ≡ z → (b : Bool) → is_counted d.it.entity d.it.block ≡ b → b ≡ false
          kind e it false q = refl
          kind (inl e) it true q = let x : d.it.entity ≡ entity.Function = ap (λ (w : Declaration). w.entity) it ∙ e in let y : d.it.entity ≡ entity.Variable = (counted d.it.entity d.it.block q).0 in cc
          kind (inr e) it true q = let x : d.it.entity ≡ entity.Parameter = ap (λ (w : Declaration). w.entity) it ∙ e in let y : d.it.entity ≡ entity.Variable = (counted d.it.entity d.it.block q).0 in cc

      spent : (y : Found) (k : Among y R) → y.it.entity ≡ entity.Variable → is_used (placed y) (own_asked new outer) ≡ true
      spent y k e = let r = names.of_run a new outer c copy y k in by (copy.used y.it r.told r.fresh e)
        where
          by : UsedInCopy a outer c new run_events copy.tail y.it → is_used (placed y) (own_asked new outer) ≡ true
          by (inl (u, n, s, r, q)) =
              let z = copied_source y k u n s q in
              let t : own_text new (m u.name) ≡ own_text a u.name = copy.texts u.name s in
              used_by y k (carried_use m u) (names.copied_use a new outer c copy u s n) (ap is_blank t ∙ z.0) (carried_assigned m u.role ∙ r) (ap (λ w. innermost_of (m u.name) w None E) t ∙ z.1)
          by (inr (u, n, r, x, q)) =
              let w = names.of_run a new outer c copy y k in
              let s = each_among (InReturn a new c run_events) (event.Use u) copy.tail copy.returns n in
              let i = names.returned_declared a new outer c copy free u.name (own_text new u.name) (each_among (TailTells c) (event.Use u) copy.tail copy.tail_tells n) s.name y.it (record { told = w.told; around = x; new = w.fresh }) q in
              let same : found_as a y.it ≡ y = w.same in
              let b : is_blank (own_text new u.name) ≡ false = ap is_blank q ∙ names.new_blank a new outer c copy y.it w.fresh in
              used_by y k u (names.tail_told a new outer c copy (event.Use u) n) b r (i ∙ ap (λ z. Some (placed z)) same)

      by : (d : Found) → Among d Q ⊎ ((y : Found) × Among y R × (d ≡ placed y)) → IsSpent (own_asked new outer) d
      by d (inl n) = ap (λ b. b && not (is_used d (own_asked new outer))) (head_off d n)
      by d (inr (y, n, q)) = subst (IsSpent (own_asked new outer)) (sym q) (on (is_counted y.it.entity (placed y).it.block) refl)
        where
          on : (b : Bool) → is_counted y.it.entity (placed y).it.block ≡ b → (b && not (is_used (placed y) (own_asked new outer))) ≡ false
          on false e = refl
          on true e = ap not (spent y n (counted y.it.entity (placed y).it.block e).0)
