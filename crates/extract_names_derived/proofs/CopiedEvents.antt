-- What a copied run tells, with names in the place of some of its expressions.
use Rattle.std.proofs.Common.{◌≡◌, ◌∙◌, ℕ, zero, suc, ◌<◌, ◌≤◌, Bool, true, false, List, [], ◌∷◌, ◌++◌, map, Some, None, refl, sym, ap, append_assoc, arith}
use Rattle.std.specs.Prelude.{◌||◌, ◌&&◌, not}
use Rattle.std.proofs.lemmas.List.{append-nil, map-append}
use Rattle.go_grammar.specs.declared.kind.Kind.{Kind}
use Rattle.go_grammar.specs.declared.kind.Kind.TheVariants as kind
use Rattle.go_grammar.specs.declared.kind.Sort.TheVariants as sort
use Rattle.go_grammar.specs.Trees.{Tree, node, Trees, none, more, skip, kind_of, first, last}
use Rattle.go_grammar.specs.Grammar.{is_parameter, ends_from, ends_named, count}
use Rattle.go_tree.specs.Views.{part_at}
use Rattle.go_tree.specs.declared.context.Role.{Role}
use Rattle.go_tree.specs.declared.context.Role.TheVariants as role
use Rattle.go_tree.specs.declared.context.Context.{Context}
use Rattle.go_tree.specs.declared.event.Event.{Event}
use Rattle.go_tree.specs.declared.event.Event.TheVariants as event
use Rattle.go_tree.specs.Contexts as contexts
use Rattle.go_tree.specs.Contexts.{is_there, opens, block_in, end_in, role_in, site_in, specification_in, source_of, source_in, source_at, has_values, group_in, parameters_in, is_package, package_value, initial_in, is_called, called_in, if_name, if_first, field_role, key_role, parameter_role, entry_role, value_site, column_site, typed_site, sequence_site, length_site, element_site, enter}
use Rattle.go_tree.specs.Events.{used, name_events, misplaced, is_default, default_events, second_defaults, own_events, statement_events, is_more, pass, begin, events, events_of}
use Rattle.go_rewriting.specs.Places.{carry, carries, Patch, Patches, keep, put, inside, done, part, run, become, become_all}
use Rattle.go_scopes_events.proofs.Public.{IsLaidOut, LieIn, behind_name, laid_grows, is_top, true_false}
use Rattle.go_scopes_bodies.specs.Carried.{carried_role, carried_site}
use Rattle.go_scopes_bodies.specs.Listed.{told_list}
use Rattle.extract_names.specs.Copies.{Copy, copied_event, told_copied}
use Rattle.extract_names.specs.Pieces.{Piece, stays, gap, told_before}
use Rattle.extract_names_derived.specs.Holes.{copied_role, copied_context, gives_operands, is_simple_part, HolesIn, HolesInRow, HolesInList, hole_pieces, hole_row, hole_list}
use Rattle.extract_names_derived.proofs.Fit.{IsFit, AreFit, part_inner}
use Rattle.extract_names_derived.proofs.CopiedContexts.{NoScope, Fine, Alike, AlikeRows, enter_fine, source_fine, begin_copied, pass_copied, source_at_copied, enter_alike, enter_replaced, source_replaced}

module _ (cp : Copy) where
  abbrev v : ℕ → ℕ
  v = cp.place

  abbrev K : Context → Context
  K = copied_context cp

  -- ---- rows

  there_carried : (ps : Trees) (m : ℕ) → is_there (part_at (carries v ps) m) ≡ is_there (part_at ps m)
  there_carried none m = refl
  there_carried (more p ps) zero = refl
  there_carried (more p ps) (suc m) = there_carried ps m
  there_carried (skip ps) zero = refl
  there_carried (skip ps) (suc m) = there_carried ps m

  count_carried : (ps : Trees) → count (carries v ps) ≡ count ps
  count_carried none = refl
  count_carried (more p ps) = ap suc (count_carried ps)
  count_carried (skip ps) = ap suc (count_carried ps)

  ends_carried : (b : Bool) (ps : Trees) → ends_from b (carries v ps) ≡ ends_from b ps
  ends_carried b none = refl
  ends_carried b (more (node k i j qs) ps) = ends_carried (is_parameter k) ps
  ends_carried b (skip ps) = ends_carried false ps

  more_carried : (ps : Trees) → is_more (carries v ps) ≡ is_more ps
  more_carried none = refl
  more_carried (more p ps) = refl
  more_carried (skip ps) = more_carried ps

  there_become : (o : Bool) (k : Kind) (n : ℕ) (ps : Trees) (qs : Patches) → HolesInRow v o k n ps qs → (m : ℕ) → is_there (part_at (become_all v ps qs) m) ≡ is_there (part_at ps m)
  there_become o k n ps done h m = there_carried ps m
  there_become o k n none (part q qs) h m = refl
  there_become o k n (more p ps) (part keep qs) h zero = refl
  there_become o k n (more p ps) (part keep qs) h (suc m) = there_become o k (suc n) ps qs h m
  there_become o k n (more p ps) (part (put s) qs) h zero = refl
  there_become o k n (more p ps) (part (put s) qs) h (suc m) = there_become o k (suc n) ps qs h.3 m
  there_become o k n (more p ps) (part (inside rs) qs) h zero = refl
  there_become o k n (more p ps) (part (inside rs) qs) h (suc m) = there_become o k (suc n) ps qs h.1 m
  there_become o k n (skip ps) (part q qs) h zero = refl
  there_become o k n (skip ps) (part q qs) h (suc m) = there_become o k (suc n) ps qs h m
  there_become o k n none (run x new qs) h m = absurd h
  there_become o k n (more p ps) (run x new qs) h m = absurd h
  there_become o k n (skip ps) (run x new qs) h m = absurd h

  count_become : (o : Bool) (k : Kind) (n : ℕ) (ps : Trees) (qs : Patches) → HolesInRow v o k n ps qs → count (become_all v ps qs) ≡ count ps
  count_become o k n ps done h = count_carried ps
  count_become o k n none (part q qs) h = refl
  count_become o k n (more p ps) (part keep qs) h = ap suc (count_become o k (suc n) ps qs h)
  count_become o k n (more p ps) (part (put s) qs) h = ap suc (count_become o k (suc n) ps qs h.3)
  count_become o k n (more p ps) (part (inside rs) qs) h = ap suc (count_become o k (suc n) ps qs h.1)
  count_become o k n (skip ps) (part q qs) h = ap suc (count_become o k (suc n) ps qs h)
  count_become o k n none (run x new qs) h = absurd h
  count_become o k n (more p ps) (run x new qs) h = absurd h
  count_become o k n (skip ps) (run x new qs) h = absurd h

  more_become : (o : Bool) (k : Kind) (n : ℕ) (ps : Trees) (qs : Patches) → HolesInRow v o k n ps qs → is_more (become_all v ps qs) ≡ is_more ps
  more_become o k n ps done h = more_carried ps
  more_become o k n none (part q qs) h = refl
  more_become o k n (more p ps) (part q qs) h = refl
  more_become o k n (skip ps) (part q qs) h = more_become o k (suc n) ps qs h
  more_become o k n none (run x new qs) h = absurd h
  more_become o k n (more p ps) (run x new qs) h = absurd h
  more_become o k n (skip ps) (run x new qs) h = absurd h

  no_parameter : (k : Kind) → is_simple_part k ≡ true → is_parameter k ≡ false
  no_parameter kind.Parameter e = absurd (true_false false e refl)
  no_parameter k e = refl

  no_default : (k : Kind) → is_simple_part k ≡ true → is_default k ≡ false
  no_default kind.Default e = absurd (true_false false e refl)
  no_default k e = refl

  kind_carried : (p : Tree) → kind_of (carry v p) ≡ kind_of p
  kind_carried (node k i j ps) = refl

  kind_inside : (p : Tree) (rs : Patches) → kind_of (become v p (inside rs)) ≡ kind_of p
  kind_inside (node k i j ps) rs = refl

  ends_become : (o : Bool) (k : Kind) (n : ℕ) (b : Bool) (ps : Trees) (qs : Patches) → HolesInRow v o k n ps qs → ends_from b (become_all v ps qs) ≡ ends_from b ps
  ends_become o k n b ps done h = ends_carried b ps
  ends_become o k n b none (part q qs) h = refl
  ends_become o k n b (more p ps) (part keep qs) h = ap (λ x. ends_from (is_parameter x) (become_all v ps qs)) (kind_carried p) ∙ ends_become o k (suc n) (is_parameter (kind_of p)) ps qs h
  ends_become o k n b (more p ps) (part (put s) qs) h =
      ap (λ (x : Tree). ends_from (is_parameter (kind_of x)) (become_all v ps qs)) h.2
      ∙ ap (λ x. ends_from x (become_all v ps qs)) (sym (no_parameter (kind_of p) h.1))
      ∙ ends_become o k (suc n) (is_parameter (kind_of p)) ps qs h.3
  ends_become o k n b (more p ps) (part (inside rs) qs) h = ap (λ x. ends_from (is_parameter x) (become_all v ps qs)) (kind_inside p rs) ∙ ends_become o k (suc n) (is_parameter (kind_of p)) ps qs h.1
  ends_become o k n b (skip ps) (part q qs) h = ends_become o k (suc n) false ps qs h
  ends_become o k n b none (run x new qs) h = absurd h
  ends_become o k n b (more p ps) (run x new qs) h = absurd h
  ends_become o k n b (skip ps) (run x new qs) h = absurd h

  rows_carried : (ps : Trees) → AlikeRows ps (carries v ps)
  rows_carried ps = record { there = there_carried ps; named = ends_carried false ps }

  rows_become : (o : Bool) (k : Kind) (ps : Trees) (qs : Patches) → HolesInRow v o k 0 ps qs → AlikeRows ps (become_all v ps qs)
  rows_become o k ps qs h = record { there = there_become o k 0 ps qs h; named = ends_become o k 0 false ps qs h }

  alike_carried : (p : Tree) → Alike v p (carry v p)
  alike_carried (node k i j ps) = record { kind = refl; first = refl; count = count_carried ps; there = there_carried ps }

  alike_inside : (o : Bool) (p : Tree) (rs : Patches) → HolesIn v o p (inside rs) → Alike v p (become v p (inside rs))
  alike_inside o (node k i j ps) rs h = record { kind = refl; first = refl; count = count_become o k 0 ps rs h.1; there = there_become o k 0 ps rs h.1 }

  -- ---- what a node tells by itself

  abbrev C : Event → Event
  C = copied_event cp

  used_told : (c : Context) (i : ℕ) (r : Role) → c.role ≡ r → copied_role cp c.block r ≡ carried_role v r → used (K c) (v i) ∷ [] ≡ map C (used c i ∷ [])
  used_told c i r e q =
      ap (λ x. event.Use (record { name = v i; role = x; site = carried_site v c.site; constant = c.constant; initial = c.initial }) ∷ []) (ap (copied_role cp c.block) e ∙ q ∙ sym (ap (carried_role v) e))

  name_told : (c : Context) (i : ℕ) (r : Role) → c.role ≡ r → NoScope r → name_events (K c) (v i) (copied_role cp c.block r) ≡ map C (name_events c i r)
  name_told c i (role.New d) e h = refl
  name_told c i (role.Field g) e h = refl
  name_told c i (role.Key g) e h = refl
  name_told c i (role.Parameter g None) e h = refl
  name_told c i (role.Parameter g (Some s)) e h = absurd h
  name_told c i role.Operand e h = used_told c i role.Operand e refl
  name_told c i role.Assigned e h = used_told c i role.Assigned e refl
  name_told c i role.Called e h = used_told c i role.Called e refl
  name_told c i (role.Selected l b) e h = used_told c i (role.Selected l b) e refl

  misplaced_told : (b : Bool) (i j : ℕ) → misplaced b (v i) (v j) ≡ map C (misplaced b i j)
  misplaced_told true i j = refl
  misplaced_told false i j = refl

  statement_told : (b : Bool) (i j : ℕ) → statement_events b (v i) (v j) ≡ map C (statement_events b i j)
  statement_told true i j = refl
  statement_told false i j = refl

  default_told : (d b : Bool) (w : ℕ) → default_events d b (v w) ≡ map C (default_events d b w)
  default_told true true w = refl
  default_told true false w = refl
  default_told false b w = refl

  default_part : (p q : Tree) (b : Bool) → kind_of q ≡ kind_of p → first q ≡ v (first p) → default_events (is_default (kind_of q)) b (first q) ≡ map C (default_events (is_default (kind_of p)) b (first p))
  default_part p q b e f = ap (λ k. default_events (is_default k) b (first q)) e ∙ ap (default_events (is_default (kind_of p)) b) f ∙ default_told (is_default (kind_of p)) b (first p)

  both_told : (vs ws xs ys : List Event) → vs ≡ map C xs → ws ≡ map C ys → vs ++ ws ≡ map C (xs ++ ys)
  both_told vs ws xs ys a b = ap (λ z. z ++ ws) a ∙ ap (λ z. map C xs ++ z) b ∙ sym (map-append C xs ys)

  second_step : (p q : Tree) (b : Bool) (ps qs : Trees) → is_default (kind_of q) ≡ is_default (kind_of p) → default_events (is_default (kind_of q)) b (first q) ≡ map C (default_events (is_default (kind_of p)) b (first p))
      → second_defaults (b || is_default (kind_of p)) qs ≡ map C (second_defaults (b || is_default (kind_of p)) ps) → second_defaults b (more q qs) ≡ map C (second_defaults b (more p ps))
  second_step p q b ps qs e f g =
      both_told (default_events (is_default (kind_of q)) b (first q)) (second_defaults (b || is_default (kind_of q)) qs) (default_events (is_default (kind_of p)) b (first p)) (second_defaults (b || is_default (kind_of p)) ps) f
      (ap (λ x. second_defaults (b || x) qs) e ∙ g)

  second_carried : (b : Bool) (ps : Trees) → second_defaults b (carries v ps) ≡ map C (second_defaults b ps)
  second_carried b none = refl
  second_carried b (skip ps) = second_carried b ps
  second_carried b (more p ps) =
      let a = alike_carried p in
      second_step p (carry v p) b ps (carries v ps) (ap is_default a.kind) (default_part p (carry v p) b a.kind a.first) (second_carried (b || is_default (kind_of p)) ps)

  second_become : (o : Bool) (k : Kind) (n : ℕ) (b : Bool) (ps : Trees) (qs : Patches) → HolesInRow v o k n ps qs → second_defaults b (become_all v ps qs) ≡ map C (second_defaults b ps)
  second_become o k n b ps done h = second_carried b ps
  second_become o k n b none (part q qs) h = refl
  second_become o k n b (more p ps) (part keep qs) h =
      let a = alike_carried p in
      second_step p (carry v p) b ps (become_all v ps qs) (ap is_default a.kind) (default_part p (carry v p) b a.kind a.first) (second_become o k (suc n) (b || is_default (kind_of p)) ps qs h)
  second_become o k n b (more p ps) (part (put s) qs) h =
      let off : is_default (kind_of p) ≡ false = no_default (kind_of p) h.1 in
      let new : is_default (kind_of s) ≡ false = ap (λ (x : Tree). is_default (kind_of x)) h.2 in
      second_step p s b ps (become_all v ps qs) (new ∙ sym off)
      (ap (λ x. default_events x b (first s)) new ∙ sym (ap (λ x. map C (default_events x b (first p))) off))
      (second_become o k (suc n) (b || is_default (kind_of p)) ps qs h.3)
  second_become o k n b (more p ps) (part (inside rs) qs) h =
      let a = alike_inside (gives_operands k n) p rs h.0 in
      second_step p (become v p (inside rs)) b ps (become_all v ps qs) (ap is_default a.kind) (default_part p (become v p (inside rs)) b a.kind a.first) (second_become o k (suc n) (b || is_default (kind_of p)) ps qs h.1)
  second_become o k n b (skip ps) (part q qs) h = second_become o k (suc n) b ps qs h
  second_become o k n b none (run x new qs) h = absurd h
  second_become o k n b (more p ps) (run x new qs) h = absurd h
  second_become o k n b (skip ps) (run x new qs) h = absurd h

  own_told : (c : Context) (k : Kind) (i j : ℕ) (ps qs : Trees) → is_top k ≡ false → Fine c → second_defaults false qs ≡ map C (second_defaults false ps) → own_events (K c) k (v i) (v j) qs ≡ map C (own_events c k i j ps)
  own_told c kind.FunctionDeclaration i j ps qs top h s = absurd (true_false true refl top)
  own_told c kind.ImportPath i j ps qs top h s = refl
  own_told c (kind.Specification sort.Type) i j ps qs top h s = refl
  own_told c (kind.Specification sort.Constant) i j ps qs top h s = refl
  own_told c (kind.Specification sort.Variable) i j ps qs top h s = refl
  own_told c kind.DeclaredName i j ps qs top h s = name_told c i c.role refl h.role
  own_told c kind.Name i j ps qs top h s = name_told c i c.role refl h.role
  own_told c kind.Switch i j ps qs top h s = s
  own_told c kind.Break i j ps qs top h s = misplaced_told c.breaks i j
  own_told c kind.Continue i j ps qs top h s = misplaced_told c.continues i j
  own_told c kind.Fallthrough i j ps qs top h s = misplaced_told c.falls i j
  own_told c k i j ps qs top h s = refl

  -- ---- trees that stay

  name_above : (k : Kind) (i : ℕ) → i ≤ behind_name k i
  name_above kind.FunctionDeclaration i = omega arith
  name_above (kind.Specification sort.Type) i = omega arith
  name_above kind.DeclaredName i = omega arith
  name_above kind.Name i = omega arith
  name_above k i = omega arith

  mutual
    events_kept : (c : Context) (t : Tree) → Fine c → IsLaidOut t → IsFit t → is_top (kind_of t) ≡ false → cp.around < first t → events (K c) (carry v t) ≡ map C (events c t)
    events_kept c (node k i j ps) h laid fit top lt =
        both_told (statement_events c.listed (v i) (v j) ++ own_events (K c) k (v i) (v j) (carries v ps)) (events_of (begin (K c) k) k (v i) (v j) (carries v ps) 0 (carries v ps))
        (statement_events c.listed i j ++ own_events c k i j ps) (events_of (begin c k) k i j ps 0 ps)
        (both_told (statement_events c.listed (v i) (v j)) (own_events (K c) k (v i) (v j) (carries v ps)) (statement_events c.listed i j) (own_events c k i j ps)
        (statement_told c.listed i j) (own_told c k i j ps (carries v ps) top h (second_carried false ps)))
        (ap (λ x. events_of x k (v i) (v j) (carries v ps) 0 (carries v ps)) (begin_copied cp c k)
        ∙ parts_kept (begin c k) k i j ps (carries v ps) 0 ps (behind_name k i) j (source_fine cp c (source_in c k) h) (rows_carried ps) (name_above k i) laid.1 fit.1 top lt)

    parts_kept : (c : Context) (k : Kind) (i j : ℕ) (ps ps' : Trees) (n : ℕ) (qs : Trees) (x y : ℕ) → Fine c → AlikeRows ps ps' → i ≤ x → LieIn x y qs → AreFit k i qs → is_top k ≡ false → cp.around < i
        → events_of (K c) k (v i) (v j) ps' n (carries v qs) ≡ map C (events_of c k i j ps n qs)
    parts_kept c k i j ps ps' n none x y h rows at laid fit top lt = refl
    parts_kept c k i j ps ps' n (skip qs) x y h rows at laid fit top lt = parts_kept c k i j ps ps' (suc n) qs x y h rows at laid fit top lt
    parts_kept c k i j ps ps' n (more p qs) x y h rows at laid fit top lt =
        let grows : first p < last p = laid_grows p laid.1 in
        let a = alike_carried p in
        both_told (events (enter (K c) k (v i) (v j) ps' (ends_named ps') n (carry v p) (is_more (carries v qs))) (carry v p)) (events_of (pass (K c) (carry v p)) k (v i) (v j) ps' (suc n) (carries v qs))
        (events (enter c k i j ps (ends_named ps) n p (is_more qs)) p) (events_of (pass c p) k i j ps (suc n) qs)
        (ap (λ b. events (enter (K c) k (v i) (v j) ps' b n (carry v p) (is_more (carries v qs))) (carry v p)) rows.named
        ∙ ap (λ b. events (enter (K c) k (v i) (v j) ps' (ends_named ps) n (carry v p) b) (carry v p)) (more_carried qs)
        ∙ ap (λ x. events x (carry v p)) (enter_alike cp c k i j ps ps' (ends_named ps) n p (carry v p) (is_more qs) top lt rows a)
        ∙ events_kept (enter c k i j ps (ends_named ps) n p (is_more qs)) p (enter_fine cp c k i j ps (ends_named ps) n p (is_more qs) top h) laid.1 fit.2 (part_inner k (kind_of p) top fit.0) (omega (arith, lt, at, laid.0)))
        (ap (λ x. events_of x k (v i) (v j) ps' (suc n) (carries v qs)) (pass_copied cp c p (carry v p) (source_at_copied cp c p (carry v p) a))
        ∙ parts_kept (pass c p) k i j ps ps' (suc n) qs (last p) y (source_fine cp c (source_at c p) h) rows (omega (arith, at, laid.0, grows)) laid.2 fit.3 top lt)

  -- ---- trees with holes

  abbrev T : List Piece → List Event
  T = told_copied cp

  copied_append : (xs ys : List Piece) → T (xs ++ ys) ≡ T xs ++ T ys
  copied_append [] ys = refl
  copied_append (stays es ∷ xs) ys = ap (λ z. map C es ++ z) (copied_append xs ys) ∙ sym (append_assoc (map C es) (T xs) (T ys))
  copied_append (gap old new ∷ xs) ys = ap (λ z. new ++ z) (copied_append xs ys) ∙ sym (append_assoc new (T xs) (T ys))

  pub gives_role : (c : Context) (k : Kind) (i j : ℕ) (named : Bool) (n : ℕ) (p : Tree) → gives_operands k n ≡ true → role_in c k i j named n p ≡ role.Operand
  gives_role c (kind.Specification sort.Constant) i j named n p e = behind n (role.New (contexts.specified c sort.Constant i j)) e
    where
      behind : (n : ℕ) (r : Role) → contexts.is_behind_first n ≡ true → if_first n r ≡ role.Operand
      behind zero r e = absurd (true_false false e refl)
      behind (suc n) r e = refl
  gives_role c (kind.Specification sort.Variable) i j named (suc n) p e = refl
  gives_role c (kind.Specification sort.Variable) i j named zero p e = absurd (true_false false e refl)
  gives_role c (kind.Specification sort.Type) i j named n p e = refl
  gives_role c kind.Define i j named (suc n) p e = refl
  gives_role c kind.Define i j named zero p e = absurd (true_false false e refl)
  gives_role c kind.DefiningRange i j named (suc n) p e = refl
  gives_role c kind.DefiningRange i j named zero p e = absurd (true_false false e refl)
  gives_role c kind.Call i j named (suc n) p e = refl
  gives_role c kind.Call i j named zero p e = absurd (true_false false e refl)
  gives_role c kind.Fields i j named (suc n) p e = refl
  gives_role c kind.Fields i j named zero p e = absurd (true_false false e refl)
  gives_role c kind.Keyed i j named (suc n) p e = refl
  gives_role c kind.Keyed i j named zero p e = absurd (true_false false e refl)
  gives_role c kind.Parameter i j named (suc n) p e = refl
  gives_role c kind.Parameter i j named zero p e = absurd (true_false false e refl)
  gives_role c kind.NameList i j named n p e = absurd (true_false false e refl)
  gives_role c kind.NewNames i j named n p e = absurd (true_false false e refl)
  gives_role c kind.Targets i j named n p e = absurd (true_false false e refl)
  gives_role c kind.ExpressionList i j named n p e = absurd (true_false false e refl)
  gives_role c kind.Parenthesized i j named n p e = absurd (true_false false e refl)
  gives_role c kind.Selector i j named n p e = absurd (true_false false e refl)
  gives_role c kind.Parameters i j named n p e = absurd (true_false false e refl)
  gives_role c k i j named n p e = refl

  pair_told : (vs ws : List Event) (xs ys : List Piece) → vs ≡ T xs → ws ≡ T ys → vs ++ ws ≡ T (xs ++ ys)
  pair_told vs ws xs ys a b = ap (λ z. z ++ ws) a ∙ ap (λ z. T xs ++ z) b ∙ sym (copied_append xs ys)

  stays_told : (vs es : List Event) → vs ≡ map C es → vs ≡ T (stays es ∷ [])
  stays_told vs es e = e ∙ sym (append-nil (map C es))

  mutual
    pub events_holes : (o : Bool) (c : Context) (t : Tree) (q : Patch) → Fine c → IsLaidOut t → IsFit t → is_top (kind_of t) ≡ false → cp.around < first t → (o ≡ true → c.role ≡ role.Operand) → HolesIn v o t q
        → events (K c) (become v t q) ≡ T (hole_pieces cp c t q)
    events_holes o c t keep h laid fit top lt f x = stays_told (events (K c) (carry v t)) (events c t) (events_kept c t h laid fit top lt)
    events_holes o c t (put s) h laid fit top lt f x = absurd x
    events_holes o c (node k i j ps) (inside qs) h laid fit top lt f x =
        let ps' : Trees = become_all v ps qs in
        ap (λ z. z ++ events_of (begin (K c) k) k (v i) (v j) ps' 0 ps')
        (both_told (statement_events c.listed (v i) (v j)) (own_events (K c) k (v i) (v j) ps') (statement_events c.listed i j) (own_events c k i j ps)
        (statement_told c.listed i j) (own_told c k i j ps ps' top h (second_become o k 0 false ps qs x.1)))
        ∙ ap (λ z. map C (statement_events c.listed i j ++ own_events c k i j ps) ++ z)
        (ap (λ z. events_of z k (v i) (v j) ps' 0 ps') (begin_copied cp c k)
        ∙ row_holes o (begin c k) k i j ps ps' 0 ps qs (behind_name k i) j (source_fine cp c (source_in c k) h) (rows_become o k ps qs x.1) (name_above k i) laid.1 fit.1 top lt f x.1)

    row_holes : (o : Bool) (c : Context) (k : Kind) (i j : ℕ) (ps ps' : Trees) (n : ℕ) (rs : Trees) (qs : Patches) (x y : ℕ) → Fine c → AlikeRows ps ps' → i ≤ x → LieIn x y rs → AreFit k i rs → is_top k ≡ false → cp.around < i
        → (o ≡ true → c.role ≡ role.Operand) → HolesInRow v o k n rs qs
        → events_of (K c) k (v i) (v j) ps' n (become_all v rs qs) ≡ T (hole_row cp c k i j ps n rs qs)
    row_holes o c k i j ps ps' n rs done x y h rows at laid fit top lt f g =
        stays_told (events_of (K c) k (v i) (v j) ps' n (carries v rs)) (events_of c k i j ps n rs) (parts_kept c k i j ps ps' n rs x y h rows at laid fit top lt)
    row_holes o c k i j ps ps' n none (part q qs) x y h rows at laid fit top lt f g = refl
    row_holes o c k i j ps ps' n (skip rs) (part q qs) x y h rows at laid fit top lt f g = row_holes o c k i j ps ps' (suc n) rs qs x y h rows at laid fit top lt f g
    row_holes o c k i j ps ps' n none (run m new qs) x y h rows at laid fit top lt f g = absurd g
    row_holes o c k i j ps ps' n (more p rs) (run m new qs) x y h rows at laid fit top lt f g = absurd g
    row_holes o c k i j ps ps' n (skip rs) (run m new qs) x y h rows at laid fit top lt f g = absurd g
    row_holes o c k i j ps ps' n (more p rs) (part keep qs) x y h rows at laid fit top lt f g =
        let grows : first p < last p = laid_grows p laid.1 in
        let a = alike_carried p in
        let here : Context = enter c k i j ps (ends_named ps) n p (is_more rs) in
        pair_told (events (enter (K c) k (v i) (v j) ps' (ends_named ps') n (carry v p) (is_more (become_all v rs qs))) (carry v p)) (events_of (pass (K c) (carry v p)) k (v i) (v j) ps' (suc n) (become_all v rs qs))
        (hole_pieces cp here p keep) (hole_row cp (pass c p) k i j ps (suc n) rs qs)
        (ap (λ b. events (enter (K c) k (v i) (v j) ps' b n (carry v p) (is_more (become_all v rs qs))) (carry v p)) rows.named
        ∙ ap (λ b. events (enter (K c) k (v i) (v j) ps' (ends_named ps) n (carry v p) b) (carry v p)) (more_become o k (suc n) rs qs g)
        ∙ ap (λ z. events z (carry v p)) (enter_alike cp c k i j ps ps' (ends_named ps) n p (carry v p) (is_more rs) top lt rows a)
        ∙ stays_told (events (K here) (carry v p)) (events here p)
        (events_kept here p (enter_fine cp c k i j ps (ends_named ps) n p (is_more rs) top h) laid.1 fit.2 (part_inner k (kind_of p) top fit.0) (omega (arith, lt, at, laid.0))))
        (ap (λ z. events_of z k (v i) (v j) ps' (suc n) (become_all v rs qs)) (pass_copied cp c p (carry v p) (source_at_copied cp c p (carry v p) a))
        ∙ row_holes o (pass c p) k i j ps ps' (suc n) rs qs (last p) y (source_fine cp c (source_at c p) h) rows (omega (arith, at, laid.0, grows)) laid.2 fit.3 top lt f g)
    row_holes o c k i j ps ps' n (more p rs) (part (inside us) qs) x y h rows at laid fit top lt f g =
        let grows : first p < last p = laid_grows p laid.1 in
        let p' : Tree = become v p (inside us) in
        let a = alike_inside (gives_operands k n) p us g.0 in
        let here : Context = enter c k i j ps (ends_named ps) n p (is_more rs) in
        pair_told (events (enter (K c) k (v i) (v j) ps' (ends_named ps') n p' (is_more (become_all v rs qs))) p') (events_of (pass (K c) p') k (v i) (v j) ps' (suc n) (become_all v rs qs))
        (hole_pieces cp here p (inside us)) (hole_row cp (pass c p) k i j ps (suc n) rs qs)
        (ap (λ b. events (enter (K c) k (v i) (v j) ps' b n p' (is_more (become_all v rs qs))) p') rows.named
        ∙ ap (λ b. events (enter (K c) k (v i) (v j) ps' (ends_named ps) n p' b) p') (more_become o k (suc n) rs qs g.1)
        ∙ ap (λ z. events z p') (enter_alike cp c k i j ps ps' (ends_named ps) n p p' (is_more rs) top lt rows a)
        ∙ events_holes (gives_operands k n) here p (inside us) (enter_fine cp c k i j ps (ends_named ps) n p (is_more rs) top h) laid.1 fit.2 (part_inner k (kind_of p) top fit.0) (omega (arith, lt, at, laid.0))
        (gives_role c k i j (ends_named ps) n p) g.0)
        (ap (λ z. events_of z k (v i) (v j) ps' (suc n) (become_all v rs qs)) (pass_copied cp c p p' (source_at_copied cp c p p' a))
        ∙ row_holes o (pass c p) k i j ps ps' (suc n) rs qs (last p) y (source_fine cp c (source_at c p) h) rows (omega (arith, at, laid.0, grows)) laid.2 fit.3 top lt f g.1)
    row_holes o c k i j ps ps' n (more p rs) (part (put s) qs) x y h rows at laid fit top lt f g =
        let grows : first p < last p = laid_grows p laid.1 in
        let here : Context = enter c k i j ps (ends_named ps) n p (is_more rs) in
        pair_told (events (enter (K c) k (v i) (v j) ps' (ends_named ps') n s (is_more (become_all v rs qs))) s) (events_of (pass (K c) s) k (v i) (v j) ps' (suc n) (become_all v rs qs))
        (hole_pieces cp here p (put s)) (hole_row cp (pass c p) k i j ps (suc n) rs qs)
        (ap (λ b. events (enter (K c) k (v i) (v j) ps' b n s (is_more (become_all v rs qs))) s) rows.named
        ∙ ap (λ b. events (enter (K c) k (v i) (v j) ps' (ends_named ps) n s b) s) (more_become o k (suc n) rs qs g.3)
        ∙ ap (λ z. events (enter (K c) k (v i) (v j) ps' (ends_named ps) n z (is_more rs)) s) g.2
        ∙ ap (λ z. events z s) (enter_replaced cp o c k i j ps ps' (ends_named ps) n p (v (first p)) (is_more rs) top lt rows g.0 f g.1)
        ∙ sym (append-nil (events (K here) s)))
        (ap (λ z. events_of z k (v i) (v j) ps' (suc n) (become_all v rs qs)) (pass_copied cp c p s (ap (λ z. source_at (K c) z) g.2 ∙ source_replaced cp c p (v (first p)) g.1))
        ∙ row_holes o (pass c p) k i j ps ps' (suc n) rs qs (last p) y (source_fine cp c (source_at c p) h) rows (omega (arith, at, laid.0, grows)) laid.2 fit.3 top lt f g.3)

  -- ---- what the old tree tells

  before_append : (xs ys : List Piece) → told_before (xs ++ ys) ≡ told_before xs ++ told_before ys
  before_append [] ys = refl
  before_append (stays es ∷ xs) ys = ap (λ z. es ++ z) (before_append xs ys) ∙ sym (append_assoc es (told_before xs) (told_before ys))
  before_append (gap old new ∷ xs) ys = ap (λ z. old ++ z) (before_append xs ys) ∙ sym (append_assoc old (told_before xs) (told_before ys))

  mutual
    pub pieces_before : (o : Bool) (c : Context) (t : Tree) (q : Patch) → HolesIn v o t q → told_before (hole_pieces cp c t q) ≡ events c t
    pieces_before o c t keep h = append-nil (events c t)
    pieces_before o c t (put s) h = absurd h
    pieces_before o c (node k i j ps) (inside qs) h = ap (λ z. (statement_events c.listed i j ++ own_events c k i j ps) ++ z) (row_before o (begin c k) k i j ps 0 ps qs h.1)

    row_before : (o : Bool) (c : Context) (k : Kind) (i j : ℕ) (ps : Trees) (n : ℕ) (rs : Trees) (qs : Patches) → HolesInRow v o k n rs qs → told_before (hole_row cp c k i j ps n rs qs) ≡ events_of c k i j ps n rs
    row_before o c k i j ps n rs done h = append-nil (events_of c k i j ps n rs)
    row_before o c k i j ps n none (part q qs) h = refl
    row_before o c k i j ps n (skip rs) (part q qs) h = row_before o c k i j ps (suc n) rs qs h
    row_before o c k i j ps n none (run m new qs) h = absurd h
    row_before o c k i j ps n (more p rs) (run m new qs) h = absurd h
    row_before o c k i j ps n (skip rs) (run m new qs) h = absurd h
    row_before o c k i j ps n (more p rs) (part keep qs) h =
        let here : Context = enter c k i j ps (ends_named ps) n p (is_more rs) in
        before_append (hole_pieces cp here p keep) (hole_row cp (pass c p) k i j ps (suc n) rs qs)
        ∙ ap (λ z. z ++ told_before (hole_row cp (pass c p) k i j ps (suc n) rs qs)) (append-nil (events here p))
        ∙ ap (λ z. events here p ++ z) (row_before o (pass c p) k i j ps (suc n) rs qs h)
    row_before o c k i j ps n (more p rs) (part (put s) qs) h =
        let here : Context = enter c k i j ps (ends_named ps) n p (is_more rs) in
        before_append (hole_pieces cp here p (put s)) (hole_row cp (pass c p) k i j ps (suc n) rs qs)
        ∙ ap (λ z. z ++ told_before (hole_row cp (pass c p) k i j ps (suc n) rs qs)) (append-nil (events here p))
        ∙ ap (λ z. events here p ++ z) (row_before o (pass c p) k i j ps (suc n) rs qs h.3)
    row_before o c k i j ps n (more p rs) (part (inside us) qs) h =
        let here : Context = enter c k i j ps (ends_named ps) n p (is_more rs) in
        before_append (hole_pieces cp here p (inside us)) (hole_row cp (pass c p) k i j ps (suc n) rs qs)
        ∙ ap (λ z. z ++ told_before (hole_row cp (pass c p) k i j ps (suc n) rs qs)) (pieces_before (gives_operands k n) here p (inside us) h.0)
        ∙ ap (λ z. events here p ++ z) (row_before o (pass c p) k i j ps (suc n) rs qs h.1)

  -- ---- lists of statements

  list_kept : (c : Context) (f : Bool) (k : Kind) (i x y : ℕ) (ps : Trees) → Fine c → is_top k ≡ false → cp.around < x → LieIn x y ps → AreFit k i ps → told_list (K c) f (carries v ps) ≡ map C (told_list c f ps)
  list_kept c f k i x y none h top lt laid fit = refl
  list_kept c f k i x y (skip ps) h top lt laid fit = list_kept c f k i x y ps h top lt laid fit
  list_kept c f k i x y (more p ps) h top lt laid fit =
      let grows : first p < last p = laid_grows p laid.1 in
      let low : x ≤ first p = laid.0 in
      let here : Context = record c { falls = f && not (is_more ps) } in
      both_told (events (record (K c) { falls = f && not (is_more (carries v ps)) }) (carry v p)) (told_list (K c) f (carries v ps)) (events here p) (told_list c f ps)
      (ap (λ b. events (record (K c) { falls = f && not b }) (carry v p)) (more_carried ps)
      ∙ events_kept here p (record { role = h.role; parameters = h.parameters }) laid.1 fit.2 (part_inner k (kind_of p) top fit.0) (omega (arith, lt, low)))
      (list_kept c f k i (last p) y ps h top (omega (arith, lt, low, grows)) laid.2 fit.3)

  list_more : (ps : Trees) (qs : Patches) → HolesInList v ps qs → is_more (become_all v ps qs) ≡ is_more ps
  list_more ps done g = more_carried ps
  list_more none (part q qs) g = refl
  list_more (more p ps) (part q qs) g = refl
  list_more (skip ps) (part q qs) g = list_more ps qs g
  list_more none (run m new qs) g = absurd g
  list_more (more p ps) (run m new qs) g = absurd g
  list_more (skip ps) (run m new qs) g = absurd g

  pub list_holes : (c : Context) (f : Bool) (k : Kind) (i x y : ℕ) (ps : Trees) (qs : Patches) → Fine c → is_top k ≡ false → cp.around < x → LieIn x y ps → AreFit k i ps → HolesInList v ps qs → told_list (K c) f (become_all v ps qs) ≡ T (hole_list cp c f ps qs)
  list_holes c f k i x y ps done h top lt laid fit g = stays_told (told_list (K c) f (carries v ps)) (told_list c f ps) (list_kept c f k i x y ps h top lt laid fit)
  list_holes c f k i x y none (part q qs) h top lt laid fit g = refl
  list_holes c f k i x y (skip ps) (part q qs) h top lt laid fit g = list_holes c f k i x y ps qs h top lt laid fit g
  list_holes c f k i x y none (run m new qs) h top lt laid fit g = absurd g
  list_holes c f k i x y (more p ps) (run m new qs) h top lt laid fit g = absurd g
  list_holes c f k i x y (skip ps) (run m new qs) h top lt laid fit g = absurd g
  list_holes c f k i x y (more p ps) (part q qs) h top lt laid fit g =
      let grows : first p < last p = laid_grows p laid.1 in
      let low : x ≤ first p = laid.0 in
      let here : Context = record c { falls = f && not (is_more ps) } in
      pair_told (events (record (K c) { falls = f && not (is_more (become_all v ps qs)) }) (become v p q)) (told_list (K c) f (become_all v ps qs)) (hole_pieces cp here p q) (hole_list cp c f ps qs)
      (ap (λ b. events (record (K c) { falls = f && not b }) (become v p q)) (list_more ps qs g.1)
      ∙ events_holes false here p q (record { role = h.role; parameters = h.parameters }) laid.1 fit.2 (part_inner k (kind_of p) top fit.0) (omega (arith, lt, low)) (λ e. absurd (true_false false e refl)) g.0)
      (list_holes c f k i (last p) y ps qs h top (omega (arith, lt, low, grows)) laid.2 fit.3 g.1)

  pub list_before : (c : Context) (f : Bool) (ps : Trees) (qs : Patches) → HolesInList v ps qs → told_before (hole_list cp c f ps qs) ≡ told_list c f ps
  list_before c f ps done g = append-nil (told_list c f ps)
  list_before c f none (part q qs) g = refl
  list_before c f (skip ps) (part q qs) g = list_before c f ps qs g
  list_before c f none (run m new qs) g = absurd g
  list_before c f (more p ps) (run m new qs) g = absurd g
  list_before c f (skip ps) (run m new qs) g = absurd g
  list_before c f (more p ps) (part q qs) g =
      let here : Context = record c { falls = f && not (is_more ps) } in
      before_append (hole_pieces cp here p q) (hole_list cp c f ps qs)
      ∙ ap (λ z. z ++ told_before (hole_list cp c f ps qs)) (pieces_before false here p q g.0)
      ∙ ap (λ z. events here p ++ z) (list_before c f ps qs g.1)
