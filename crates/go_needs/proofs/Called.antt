-- What a declaration needs at once, by the names in the parts of its specification.
use Rattle.std.proofs.Common.{◌≡◌, ◌∙◌, ℕ, Bool, true, false, ◌&&◌, nat_eq, List, [], ◌∷◌, Option, Some, None, refl, ap, sym, subst, arith, inl, inr, ◌⊎◌}
use Rattle.std.specs.Prelude.{slice_get}
use Rattle.go_tree.specs.Declarations.{Found}
use Rattle.go_tree.specs.Lookups.{Asked}
use Rattle.go_tree.specs.declared.context.Site.{Site}
use Rattle.go_tree.specs.declared.context.Site.TheVariants as site
use Rattle.go_tree.specs.Needs.{Needed, if_so, way, way_by, needs}
use Rattle.go_scopes_cycles.specs.Needs.{source_of, way_of, needed_in, needed_by}
use Rattle.go_scopes_cycles.specs.Columns.{same_source}
use Rattle.go_scopes_cycles.specs.Ranks.{Place}
use Rattle.go_scopes_cycles.proofs.Public.{needs_some, needs_none}
use Rattle.go_package_defs.specs.Sources.{Package, number_at}
use Rattle.go_needs.specs.declared.calls.Call.{Call}
use Rattle.go_needs.specs.declared.levels.Levels.{Levels}
use Rattle.go_needs.specs.declared.owners.Owner.{Owner}
use Rattle.go_scopes_cycles.specs.declared.ranks.Part.{Part}
use Rattle.go_needs.specs.Calls.{is_counted, number_of, call_at, call_if, call_of, with_call, calls_of, is_owner, is_fit, fits_if, fits_one, fits}
use Rattle.go_needs.specs.Levels.{level_of, nearer, here, nearest, near_in, near}
use Rattle.go_needs.specs.Owners.{owner_of, same_owner, has_source}
use Rattle.go_needs.specs.Parts.{full_place, partial_place, place_of}
use Rattle.go_needs.specs.Reached.{IsOurs}
use Rattle.go_needs.proofs.Standing.{both_left, both_right, same_number, so_holds, so_value, IsOwnPart, way_place, counted, place_way}
use Rattle.go_needs.proofs.Lowest.{left_none, right_none, one_some, here_itself, here_some, none_near, some_near}

-- ---- lists of needs

abbrev pub Each : (Needed → Type 0) → List Needed → Type 0
Each P [] = Unit {0}
Each P (x ∷ xs) = P x × Each P xs

abbrev pub One : (Needed → Type 0) → List Needed → Type 0
One P [] = ⊥
One P (x ∷ xs) = P x ⊎ One P xs

needed_way : (w : Option Bool) (s : Option Found) (y : Needed) → needed_in w s ≡ Some y → w ≡ Some y.full
needed_way None s y e = absurd (grind (arith, e))
needed_way (Some f) None y e = absurd (grind (arith, e))
needed_way (Some f) (Some d) y e = grind (arith, e)

needed_source : (w : Option Bool) (s : Option Found) (y : Needed) → needed_in w s ≡ Some y → s ≡ Some y.it
needed_source None s y e = absurd (grind (arith, e))
needed_source (Some f) None y e = absurd (grind (arith, e))
needed_source (Some f) (Some d) y e = grind (arith, e)

each_by : (P : Needed → Type 0) (a : Asked) (asks : List Asked) (x : Needed) (o : Option Needed) → needed_by a x ≡ o → ((y : Needed) → needed_by a x ≡ Some y → P y) → Each P (needs asks x) → Each P (needs (a ∷ asks) x)
each_by P a asks x None e p h = subst (Each P) (sym (needs_none a asks x e)) h
each_by P a asks x (Some y) e p h = subst (Each P) (sym (needs_some a asks x y e)) (p y e, h)

one_more : (P : Needed → Type 0) (a : Asked) (asks : List Asked) (x : Needed) (o : Option Needed) → needed_by a x ≡ o → One P (needs asks x) → One P (needs (a ∷ asks) x)
one_more P a asks x None e h = subst (One P) (sym (needs_none a asks x e)) h
one_more P a asks x (Some y) e h = subst (One P) (sym (needs_some a asks x y e)) (inr h)

-- ---- owners

source_same : (s t : Option ℕ) → same_source s t ≡ true → s ≡ t
source_same None None e = refl
source_same None (Some t) e = absurd (grind (arith, e))
source_same (Some s) None e = absurd (grind (arith, e))
source_same (Some s) (Some t) e = ap Some (same_number s t e)

owner_same : (o w : Owner) → same_owner o w ≡ true → o ≡ w
owner_same o w e =
    let file = both_left (nat_eq o.file w.file) (same_source o.source w.source) (both_left (nat_eq o.file w.file && same_source o.source w.source) (nat_eq o.column w.column) e) in
    let source = both_right (nat_eq o.file w.file) (same_source o.source w.source) (both_left (nat_eq o.file w.file && same_source o.source w.source) (nat_eq o.column w.column) e) in
    let column = both_right (nat_eq o.file w.file && same_source o.source w.source) (nat_eq o.column w.column) e in
    ap (λ n. record o { file = n }) (same_number o.file w.file file) ∙ (ap (λ s. record w { source = s; column = o.column }) (source_same o.source w.source source) ∙ ap (λ c. record w { column = c }) (same_number o.column w.column column))

no_way : (own : ℕ) (f : Bool) (st : Site) (g : Bool) → way_by None own f st ≡ Some g → ⊥
no_way own f site.Elsewhere g e = grind (arith, e)
no_way own f (site.Type s) g e = grind (arith, e)
no_way own f (site.Value s column alone) g e = grind (arith, e)
no_way own f (site.Right s r) g e = grind (arith, e)

module _ (p : Package) (os all : List Owner) where
  -- The object of a declaration has its specification and its column.
  pub record Fits (y : Needed) : Type 0 where
    pub number : ℕ
    pub named : number_at p y.it.file y.it.it.name ≡ Some number
    pub owner : slice_get os number ≡ Some (owner_of y.it)

  fit_at : (d : Found) (g : Bool) (m : ℕ) → number_of p.uses d ≡ Some m → (o : Option Owner) → slice_get os m ≡ o → is_owner o d ≡ true → Fits (record { it = d; full = g })
  fit_at d g m e None i h = absurd (grind (arith, h))
  fit_at d g m e (Some o) i h = record { number = m; named = e; owner = i ∙ ap Some (owner_same o (owner_of d) h) }

  fit_by : (d : Found) (g : Bool) (o : Option ℕ) → number_of p.uses d ≡ o → is_fit os o d ≡ true → Fits (record { it = d; full = g })
  fit_by d g None e h = absurd (grind (arith, h))
  fit_by d g (Some m) e h = fit_at d g m e (slice_get os m) refl h

  -- A name in a part of the declaration x calls for y, whose object has its specification and column.
  pub record Calls (a : Asked) (s : ℕ) (x y : Needed) : Type 0 where
    pub fit : Fits y
    pub call : call_of p.uses all a ≡ Some (record { number = fit.number; full = full_place a.file a.it.site; partial = partial_place a.file a.it.site })
    pub part : Part
    pub own : IsOwnPart x.it.it.column x.full part
    pub place : place_of y.full a.file a.it.site ≡ Some ((x.it.file, s), part)

  is_called : (a : Asked) (d : Found) (g : Bool) → is_counted all a.file a.it.site ≡ true → source_of a.meaning ≡ Some d → fits_one p.uses os all a ≡ true → Fits (record { it = d; full = g })
  is_called a d g c s h = fit_by d g (number_of p.uses d) refl (sym (ap (λ b. fits_if b p.uses os (source_of a.meaning)) c ∙ ap (fits_if true p.uses os) s) ∙ h)

  called_as : (a : Asked) (d : Found) (m : ℕ) → is_counted all a.file a.it.site ≡ true → source_of a.meaning ≡ Some d → number_of p.uses d ≡ Some m
      → call_of p.uses all a ≡ Some (record { number = m; full = full_place a.file a.it.site; partial = partial_place a.file a.it.site })
  called_as a d m c s n = ap (λ b. call_if b p.uses a (source_of a.meaning)) c ∙ (ap (call_if true p.uses a) s ∙ ap (call_at a) n)

  calls : (a : Asked) (x y : Needed) (s : ℕ) → x.it.it.source ≡ Some s → has_source all x.it.file s ≡ true → fits_one p.uses os all a ≡ true → needed_by a x ≡ Some y → Calls a s x y
  calls a x y s src has ok e =
      let there = needed_way (way_of a x) (source_of a.meaning) y e in
      let from = needed_source (way_of a x) (source_of a.meaning) y e in
      let mine = so_holds (nat_eq a.file x.it.file) (way x.it.it x.full a.it.site) y.full there in
      let file : a.file ≡ x.it.file = same_number a.file x.it.file mine in
      let goes : way_by (Some s) x.it.it.column x.full a.it.site ≡ Some y.full = subst (λ o. way_by o x.it.it.column x.full a.it.site ≡ Some y.full) src (so_value (nat_eq a.file x.it.file) (way x.it.it x.full a.it.site) y.full there) in
      let stands = way_place x.it.file s x.it.it.column x.full a.it.site y.full goes in
      let c : is_counted all a.file a.it.site ≡ true = ap (λ n. is_counted all n a.it.site) file ∙ counted all x.it.file s x.it.it.column x.full a.it.site y.full goes has in
      let fit : Fits y = is_called a y.it y.full c from ok in
      record { fit = fit; call = called_as a y.it fit.number c from fit.named; part = stands.part; own = stands.own; place = ap (λ n. place_of y.full n a.it.site) file ∙ stands.is }

  none_named : (x y : Needed) (a : Asked) → x.it.it.source ≡ None → needed_by a x ≡ Some y → ⊥
  none_named x y a src e =
      let goes = so_value (nat_eq a.file x.it.file) (way x.it.it x.full a.it.site) y.full (needed_way (way_of a x) (source_of a.meaning) y e) in
      no_way x.it.it.column x.full a.it.site y.full (subst (λ o. way_by o x.it.it.column x.full a.it.site ≡ Some y.full) src goes)

  -- ---- all fit

  fit_from : (asks : List Asked) (x : Needed) (s : ℕ) → x.it.it.source ≡ Some s → has_source all x.it.file s ≡ true → fits p.uses os all asks ≡ true → Each Fits (needs asks x)
  fit_from [] x s src has ok = tt
  fit_from (a ∷ asks) x s src has ok =
      each_by Fits a asks x (needed_by a x) refl
      (λ y e. (calls a x y s src has (both_left (fits_one p.uses os all a) (fits p.uses os all asks) ok) e).fit)
      (fit_from asks x s src has (both_right (fits_one p.uses os all a) (fits p.uses os all asks) ok))

  none_from : (P : Needed → Type 0) (asks : List Asked) (x : Needed) → x.it.it.source ≡ None → Each P (needs asks x)
  none_from P [] x src = tt
  none_from P (a ∷ asks) x src = each_by P a asks x (needed_by a x) refl (λ y e. absurd (none_named x y a src e)) (none_from P asks x src)

  fit_by_source : (asks : List Asked) (x : Needed) (o : Option ℕ) → x.it.it.source ≡ o → IsOurs all x.it.file o → fits p.uses os all asks ≡ true → Each Fits (needs asks x)
  fit_by_source asks x None src our ok = none_from Fits asks x src
  fit_by_source asks x (Some s) src our ok = fit_from asks x s src our ok

  pub all_fit : (asks : List Asked) (x : Needed) → IsOurs all x.it.file x.it.it.source → fits p.uses os all asks ≡ true → Each Fits (needs asks x)
  all_fit asks x our ok = fit_by_source asks x x.it.it.source refl our ok

  -- ---- levels

  module _ (ls : List Levels) where
    -- It fits, and has this level.
    pub record Has (l : Option ℕ) (y : Needed) : Type 0 where
      pub fit : Fits y
      pub level : level_of ls fit.number y.full ≡ l

    rest_none : (o : Option Call) (cs : List Call) (k : Place) → nearest ls (with_call o cs) k ≡ None → nearest ls cs k ≡ None
    rest_none None cs k e = e
    rest_none (Some c) cs k e = right_none (here c.partial k (level_of ls c.number false)) (nearest ls cs k)
        (right_none (here c.full k (level_of ls c.number true)) (nearer (here c.partial k (level_of ls c.number false)) (nearest ls cs k)) e)

    abbrev place_by : Bool → Call → Option Place
    place_by true c = c.full
    place_by false c = c.partial

    own_none : (g : Bool) (c : Call) (cs : List Call) (k : Place) → nearest ls (c ∷ cs) k ≡ None → here (place_by g c) k (level_of ls c.number g) ≡ None
    own_none true c cs k e = left_none (here c.full k (level_of ls c.number true)) (nearer (here c.partial k (level_of ls c.number false)) (nearest ls cs k)) e
    own_none false c cs k e = left_none (here c.partial k (level_of ls c.number false)) (nearest ls cs k) (right_none (here c.full k (level_of ls c.number true)) (nearer (here c.partial k (level_of ls c.number false)) (nearest ls cs k)) e)

    placed : (g : Bool) (m : ℕ) (a : Asked) → place_by g (record { number = m; full = full_place a.file a.it.site; partial = partial_place a.file a.it.site }) ≡ place_of g a.file a.it.site
    placed true m a = refl
    placed false m a = refl

    has_none : (a : Asked) (asks : List Asked) (s : ℕ) (x y : Needed) → Calls a s x y → ((q : Part) → IsOwnPart x.it.it.column x.full q → nearest ls (calls_of p.uses all (a ∷ asks)) ((x.it.file, s), q) ≡ None) → Has None y
    has_none a asks s x y c h =
        let k : Place = ((x.it.file, s), c.part) in
        let one : Call = record { number = c.fit.number; full = full_place a.file a.it.site; partial = partial_place a.file a.it.site } in
        let none : nearest ls (one ∷ calls_of p.uses all asks) k ≡ None = sym (ap (λ o. nearest ls (with_call o (calls_of p.uses all asks)) k) c.call) ∙ h c.part c.own in
        let own : here (place_by y.full one) k (level_of ls c.fit.number y.full) ≡ None = own_none y.full one (calls_of p.uses all asks) k none in
        let same : place_by y.full one ≡ Some k = placed y.full c.fit.number a ∙ c.place in
        record { fit = c.fit; level = sym (here_itself k (level_of ls c.fit.number y.full)) ∙ (sym (ap (λ o. here o k (level_of ls c.fit.number y.full)) same) ∙ own) }

    none_below : (asks : List Asked) (x : Needed) (s : ℕ) → x.it.it.source ≡ Some s → has_source all x.it.file s ≡ true → fits p.uses os all asks ≡ true
        → ((q : Part) → IsOwnPart x.it.it.column x.full q → nearest ls (calls_of p.uses all asks) ((x.it.file, s), q) ≡ None) → Each (Has None) (needs asks x)
    none_below [] x s src has ok h = tt
    none_below (a ∷ asks) x s src has ok h =
        each_by (Has None) a asks x (needed_by a x) refl
        (λ y e. has_none a asks s x y (calls a x y s src has (both_left (fits_one p.uses os all a) (fits p.uses os all asks) ok) e) h)
        (none_below asks x s src has (both_right (fits_one p.uses os all a) (fits p.uses os all asks) ok) (λ q o. rest_none (call_of p.uses all a) (calls_of p.uses all asks) ((x.it.file, s), q) (h q o)))

    -- A name calls for the object of a declaration.
    record IsCall (a : Asked) (c : Call) : Type 0 where
      counted : is_counted all a.file a.it.site ≡ true
      found : Found
      source : source_of a.meaning ≡ Some found
      number : number_of p.uses found ≡ Some c.number
      full : c.full ≡ full_place a.file a.it.site
      partial : c.partial ≡ partial_place a.file a.it.site

    abbrev number_there : Option Call → ℕ
    number_there None = 0
    number_there (Some c) = c.number

    abbrev full_there : Option Call → Option Place
    full_there None = None
    full_there (Some c) = c.full

    abbrev partial_there : Option Call → Option Place
    partial_there None = None
    partial_there (Some c) = c.partial

    call_by : (a : Asked) (c : Call) (b : Bool) (o : Option Found) (n : Option ℕ) → is_counted all a.file a.it.site ≡ b → source_of a.meaning ≡ o
        → ((d : Found) → o ≡ Some d → number_of p.uses d ≡ n) → call_if b p.uses a o ≡ Some c → IsCall a c
    call_by a c false o n cb so nd e = absurd (grind (arith, e))
    call_by a c true None n cb so nd e = absurd (grind (arith, e))
    call_by a c true (Some d) None cb so nd e = absurd (grind (arith, sym (ap (call_at a) (nd d refl)) ∙ e))
    call_by a c true (Some d) (Some m) cb so nd e =
        let is : ◌≡◌ {A = Option Call} (Some (record { number = m; full = full_place a.file a.it.site; partial = partial_place a.file a.it.site })) (Some c) = sym (ap (call_at a) (nd d refl)) ∙ e in
        record { counted = cb; found = d; source = so; number = nd d refl ∙ ap (λ o. Some (number_there o)) is; full = sym (ap full_there is); partial = sym (ap partial_there is) }

    abbrev source_number : Option Found → Option ℕ
    source_number None = None
    source_number (Some d) = number_of p.uses d

    is_call : (a : Asked) (c : Call) → call_of p.uses all a ≡ Some c → IsCall a c
    is_call a c e = call_by a c (is_counted all a.file a.it.site) (source_of a.meaning) (source_number (source_of a.meaning)) refl refl (λ d h. sym (ap source_number h)) e

    call_place : (g : Bool) (a : Asked) (c : Call) → IsCall a c → place_by g c ≡ place_of g a.file a.it.site
    call_place true a c i = i.full
    call_place false a c i = i.partial

    abbrev level_there : Option ℕ → Bool → Option ℕ
    level_there None g = None
    level_there (Some m) g = level_of ls m g

    one_here : (a : Asked) (asks : List Asked) (x : Needed) (s j : ℕ) (q : Part) (c : Call) (g : Bool) → x.it.it.source ≡ Some s → fits_one p.uses os all a ≡ true → IsOwnPart x.it.it.column x.full q
        → IsCall a c → here (place_by g c) ((x.it.file, s), q) (level_of ls c.number g) ≡ Some j → One (Has (Some j)) (needs (a ∷ asks) x)
    one_here a asks x s j q c g src ok own i e =
        let there = here_some (place_by g c) ((x.it.file, s), q) (level_of ls c.number g) j e in
        let stands : place_of g a.file a.it.site ≡ Some ((x.it.file, s), q) = sym (call_place g a c i) ∙ there.place in
        let goes : way_of a x ≡ Some g = ap (λ o. if_so (nat_eq a.file x.it.file) (way_by o x.it.it.column x.full a.it.site)) src ∙ place_way a.file x.it.file s x.it.it.column x.full g a.it.site q stands own in
        let y : Needed = record { it = i.found; full = g } in
        let needed : needed_by a x ≡ Some y = ap (λ w. needed_in w (source_of a.meaning)) goes ∙ ap (needed_in (Some g)) i.source in
        let fit = is_called a i.found g i.counted i.source ok in
        let number : Some fit.number ≡ Some c.number = sym fit.named ∙ i.number in
        subst (One (Has (Some j))) (sym (needs_some a asks x y needed)) (inl record { fit = fit; level = ap (λ o. level_there o g) number ∙ there.level })

    partial_or : (a : Asked) (asks : List Asked) (x : Needed) (s j : ℕ) (q : Part) (c : Call) → x.it.it.source ≡ Some s → fits_one p.uses os all a ≡ true → IsOwnPart x.it.it.column x.full q → IsCall a c
        → (nearest ls (calls_of p.uses all asks) ((x.it.file, s), q) ≡ Some j → One (Has (Some j)) (needs asks x))
        → (here c.partial ((x.it.file, s), q) (level_of ls c.number false) ≡ Some j) ⊎ (nearest ls (calls_of p.uses all asks) ((x.it.file, s), q) ≡ Some j) → One (Has (Some j)) (needs (a ∷ asks) x)
    partial_or a asks x s j q c src ok own i rest (inl h) = one_here a asks x s j q c false src ok own i h
    partial_or a asks x s j q c src ok own i rest (inr h) = one_more (Has (Some j)) a asks x (needed_by a x) refl (rest h)

    full_or : (a : Asked) (asks : List Asked) (x : Needed) (s j : ℕ) (q : Part) (c : Call) → x.it.it.source ≡ Some s → fits_one p.uses os all a ≡ true → IsOwnPart x.it.it.column x.full q → IsCall a c
        → (nearest ls (calls_of p.uses all asks) ((x.it.file, s), q) ≡ Some j → One (Has (Some j)) (needs asks x))
        → (here c.full ((x.it.file, s), q) (level_of ls c.number true) ≡ Some j) ⊎ (nearer (here c.partial ((x.it.file, s), q) (level_of ls c.number false)) (nearest ls (calls_of p.uses all asks) ((x.it.file, s), q)) ≡ Some j)
        → One (Has (Some j)) (needs (a ∷ asks) x)
    full_or a asks x s j q c src ok own i rest (inl h) = one_here a asks x s j q c true src ok own i h
    full_or a asks x s j q c src ok own i rest (inr h) =
        partial_or a asks x s j q c src ok own i rest (one_some (here c.partial ((x.it.file, s), q) (level_of ls c.number false)) (nearest ls (calls_of p.uses all asks) ((x.it.file, s), q)) j h)

    one_by_call : (a : Asked) (asks : List Asked) (x : Needed) (s j : ℕ) (q : Part) → x.it.it.source ≡ Some s → fits_one p.uses os all a ≡ true → IsOwnPart x.it.it.column x.full q
        → (nearest ls (calls_of p.uses all asks) ((x.it.file, s), q) ≡ Some j → One (Has (Some j)) (needs asks x))
        → (o : Option Call) → call_of p.uses all a ≡ o → nearest ls (with_call o (calls_of p.uses all asks)) ((x.it.file, s), q) ≡ Some j → One (Has (Some j)) (needs (a ∷ asks) x)
    one_by_call a asks x s j q src ok own rest None h e = one_more (Has (Some j)) a asks x (needed_by a x) refl (rest e)
    one_by_call a asks x s j q src ok own rest (Some c) h e =
        full_or a asks x s j q c src ok own (is_call a c h) rest
        (one_some (here c.full ((x.it.file, s), q) (level_of ls c.number true)) (nearer (here c.partial ((x.it.file, s), q) (level_of ls c.number false)) (nearest ls (calls_of p.uses all asks) ((x.it.file, s), q))) j e)

    one_below : (asks : List Asked) (x : Needed) (s j : ℕ) (q : Part) → x.it.it.source ≡ Some s → fits p.uses os all asks ≡ true → IsOwnPart x.it.it.column x.full q
        → nearest ls (calls_of p.uses all asks) ((x.it.file, s), q) ≡ Some j → One (Has (Some j)) (needs asks x)
    one_below [] x s j q src ok own e = absurd (grind (arith, e))
    one_below (a ∷ asks) x s j q src ok own e =
        one_by_call a asks x s j q src (both_left (fits_one p.uses os all a) (fits p.uses os all asks) ok) own
        (one_below asks x s j q src (both_right (fits_one p.uses os all a) (fits p.uses os all asks) ok) own) (call_of p.uses all a) refl e

    -- ---- what a declaration needs at once

    abbrev levels : Place → Option ℕ
    levels = nearest ls (calls_of p.uses all p.asked)

    none_by : (x : Needed) (o : Option ℕ) → x.it.it.source ≡ o → IsOurs all x.it.file o → fits p.uses os all p.asked ≡ true
        → near_in levels x.it.file o x.it.it.column x.full ≡ None → Each (Has None) (needs p.asked x)
    none_by x None src our ok e = none_from (Has None) p.asked x src
    none_by x (Some s) src our ok e = none_below p.asked x s src our ok (none_near levels x.it.file s x.it.it.column x.full e)

    pub all_none : (x : Needed) → IsOurs all x.it.file x.it.it.source → fits p.uses os all p.asked ≡ true → near levels (owner_of x.it) x.full ≡ None → Each (Has None) (needs p.asked x)
    all_none x our ok e = none_by x x.it.it.source refl our ok e

    one_by : (x : Needed) (j : ℕ) (o : Option ℕ) → x.it.it.source ≡ o → fits p.uses os all p.asked ≡ true
        → near_in levels x.it.file o x.it.it.column x.full ≡ Some j → One (Has (Some j)) (needs p.asked x)
    one_by x j None src ok e = absurd (grind (arith, e))
    one_by x j (Some s) src ok e =
        let own = some_near levels x.it.file s x.it.it.column x.full j e in
        one_below p.asked x s j own.part src ok own.own own.level

    pub one_some_level : (x : Needed) (j : ℕ) → fits p.uses os all p.asked ≡ true → near levels (owner_of x.it) x.full ≡ Some j → One (Has (Some j)) (needs p.asked x)
    one_some_level x j ok e = one_by x j x.it.it.source refl ok e
