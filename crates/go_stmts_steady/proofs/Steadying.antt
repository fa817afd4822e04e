-- Statements whose declared types have numbers in order are steady.
use Rattle.std.proofs.Common.{◌≡◌, ◌∙◌, ℕ, ◌<◌, ◌≤◌, Bool, true, false, [], ◌∷◌, ◌++◌, Option, Some, None, refl, sym, ap, subst, arith}
use Rattle.std.specs.Prelude.{slice_get}
use Rattle.std.specs.Option.{option_map}
use Rattle.go_grammar.specs.declared.kind.Kind.{Kind}
use Rattle.go_grammar.specs.declared.kind.Kind.TheVariants as kind
use Rattle.go_grammar.specs.declared.kind.Sort.TheVariants as declaring
use Rattle.go_grammar.specs.Trees.{Tree, node, Trees, none, more, skip, kind_of}
use Rattle.go_types.specs.Trees.{TypeTree, declared}
use Rattle.go_types_relations.specs.Renaming.{renamed, AreRenamed}
use Rattle.go_typed.specs.Trees as sort
use Rattle.go_exprs_rules.specs.Scopes.{Hint, value}
use Rattle.go_exprs_rules.specs.Settling.{Part}
use Rattle.go_exprs_rules.specs.Sorts.{own_type}
use Rattle.go_exprs_rules.specs.Tables.{Parts}
use Rattle.go_stmts_defs.specs.Frames.{Frame, rights_of}
use Rattle.go_stmts_defs.specs.Laying.{told, local_named, type_number}
use Rattle.go_stmts_defs.specs.Reading.{Reading, read, reading, beginning, entering, in_switch, left_out, tag_behind, with_type}
use Rattle.go_renumbering.specs.Frames.{RenamedFrames, RenamedReadings}
use Rattle.go_renumbering.specs.Renumbered.{part_renamed, hint_renamed}
use Rattle.go_stmts_variables.specs.Statements.{tree_in, frame_in}
use Rattle.go_stmts_variables.specs.Steady.{Keeps, KeepsIf, ClausesKeep, range_type, SteadyAt, Steady, PartsSteady, goes_over}
use Rattle.go_stmts_steady.specs.Ordered.{Numbers, next, next_at, behind, behind_all, Follows, FollowsAt, Ordered, AllOrdered, OrderedAreSteady}
use Rattle.go_stmts_steady.proofs.Fixed.{Fixed, avoiding, to_renamed, from_renamed, known_fixed, placed_fixed, told_fixed, tag_fixed, own_fixed, range_fixed, same_underlying}
use Rattle.go_stmts_steady.proofs.Local.{From, Kept, Alike, alike_self, alike_kept, with_types, moved, NodeAgrees, Agrees, AllAgree, NoFunction, beginning_kept, reading_moves}
use Rattle.go_stmts_steady.proofs.Swapping.{swap, swap_low, avoid_low, hint_stays}

-- the law on statements with other numbers of declared types
abbrev pub StatementsRenamed : Type 0
StatementsRenamed = (m : ℕ → ℕ) (f g : Frame) (h : Hint) (x : Tree) → RenamedFrames m f g → RenamedReadings m (reading f h x) (reading g (hint_renamed m h) x)

-- ---- numbers in order

module _ (t : Numbers) where
  next_grows : (o : Option ℕ) (k : ℕ) → Follows o k → k ≤ next o k
  next_grows None k h = omega arith
  next_grows (Some m) k h = omega (arith, h)

  at_grows : (d : Kind) (i k : ℕ) → FollowsAt t d i k → k ≤ next_at t d i k
  at_grows (kind.Specification declaring.Type) i k h = next_grows (t i) k h
  at_grows d i k h = omega arith

  mutual
    grows : (k : ℕ) (x : Tree) → Ordered t k x → k ≤ behind t k x
    grows k (node d i j ps) o = let a = at_grows d i k o.0 in let b = all_grow (next_at t d i k) ps o.1 in omega (arith, a, b)

    all_grow : (k : ℕ) (ps : Trees) → AllOrdered t k ps → k ≤ behind_all t k ps
    all_grow k none o = omega arith
    all_grow k (skip ps) o = all_grow k ps o
    all_grow k (more p ps) o = let a = grows k p o.0 in let b = all_grow (behind t k p) ps o.1 in omega (arith, a, b)

at_most : (n : ℕ) → n ≤ n
at_most n = omega arith

some_same : (x y : TypeTree) → Some x ≡ Some y → x ≡ y
some_same x y e = cc

module _ (renames : StatementsRenamed) (s : Frame) (k0 : ℕ) where
  abbrev t : Numbers
  t = type_number s

  -- ---- the types that are declared have the same numbers where the two are avoided

  same_number : (m k b : ℕ) (o : Option ℕ) → b ≤ k → Follows (option_map s.types o) k → next (option_map s.types o) k ≤ m → option_map (avoiding m s.types) o ≡ option_map s.types o
  same_number m k b None l h n = refl
  same_number m k b (Some i) l h n = ap Some (avoid_low m (s.types i) (omega (arith, n)))

  from_number : (k b : ℕ) (o : Option ℕ) → b ≤ k → Follows o k → From b o
  from_number k b None l h = tt
  from_number k b (Some m) l h = omega (arith, l, h)

  node_agrees : (m k b : ℕ) (d : Kind) (i : ℕ) → b ≤ k → FollowsAt t d i k → next_at t d i k ≤ m → NodeAgrees (avoiding m s.types) b s d i
  node_agrees m k b (kind.Specification declaring.Type) i l h n = record { same = same_number m k b (local_named (s.around.objects i)) l h n; from = from_number k b (t i) l h }
  node_agrees m k b kind.FunctionDeclaration i l h n = h
  node_agrees m k b d i l h n = tt

  mutual
    agrees : (m k b : ℕ) (x : Tree) → b ≤ k → Ordered t k x → behind t k x ≤ m → Agrees (avoiding m s.types) b s x
    agrees m k b (node d i j ps) l o n =
        let a = at_grows t d i k o.0 in
        let c = all_grow t (next_at t d i k) ps o.1 in
        (node_agrees m k b d i l o.0 (omega (arith, c, n)), all_agree m (next_at t d i k) b ps (omega (arith, l, a)) o.1 n)

    all_agree : (m k b : ℕ) (ps : Trees) → b ≤ k → AllOrdered t k ps → behind_all t k ps ≤ m → AllAgree (avoiding m s.types) b s ps
    all_agree m k b none l o n = tt
    all_agree m k b (skip ps) l o n = all_agree m k b ps l o n
    all_agree m k b (more p ps) l o n =
        let a = grows t k p o.0 in
        let c = all_grow t (behind t k p) ps o.1 in
        (agrees m k b p l o.0 (omega (arith, c, n)), all_agree m (behind t k p) b ps (omega (arith, l, a)) o.1 n)

  -- ---- what is known at each place

  -- numbers from k on aren't known
  record Inv (k : ℕ) (f : Frame) : Type 0 where
    pub alike : Alike s f
    pub fixed : (m : ℕ) → k ≤ m → Fixed (swap m) f

  abbrev Told : Hint → Type 0
  Told h = (m : ℕ) → k0 ≤ m → hint_renamed (swap m) h ≡ h

  record Read (k : ℕ) (r : Reading) : Type 0 where
    pub behind : Inv k (frame_in r)
    pub tree : (m : ℕ) → k ≤ m → part_renamed (swap m) (tree_in r) ≡ tree_in r

  record ReadAt (m : ℕ) (r : Reading) : Type 0 where
    pub frame : Fixed (swap m) (frame_in r)
    pub tree : part_renamed (swap m) (tree_in r) ≡ tree_in r

  read_so : (m : ℕ) (r : Reading) → RenamedReadings (swap m) (moved (avoiding m s.types) 0 r) (moved (avoiding m s.types) 0 r) → ReadAt m r
  read_so m (read x fs g) e = record { frame = from_renamed m s.types g e.2; tree = sym e.0 }

  read_at : (m k : ℕ) (f : Frame) (h : Hint) (x : Tree) → k0 ≤ k → Inv k f → Told h → Ordered t k x → behind t k x ≤ m → ReadAt m (reading f h x)
  read_at m k f h x l c g o n =
      let T = avoiding m s.types in
      let a = grows t k x o in
      let moves = reading_moves T 0 s f h x c.alike (agrees m k 0 x (omega arith) o n) in
      let law = renames (swap m) (with_types T 0 f) (with_types T 0 f) h x (to_renamed m s.types f (c.fixed m (omega (arith, a, n)))) in
      let told = subst (λ z. RenamedReadings (swap m) (reading (with_types T 0 f) h x) (reading (with_types T 0 f) z x)) (g m (omega (arith, l, a, n))) law in
      read_so m (reading f h x) (subst (λ z. RenamedReadings (swap m) z z) moves.same told)

  kept_behind : (k b : ℕ) (f : Frame) (h : Hint) (x : Tree) → b ≤ k → Inv k f → Ordered t k x → Kept b f (frame_in (reading f h x))
  kept_behind k b f h x l c o = (reading_moves (avoiding (behind t k x) s.types) b s f h x c.alike (agrees (behind t k x) k b x l o (at_most (behind t k x)))).kept

  reads : (k : ℕ) (f : Frame) (h : Hint) (x : Tree) → k0 ≤ k → Inv k f → Told h → Ordered t k x → Read (behind t k x) (reading f h x)
  reads k f h x l c g o = record {
    behind = record { alike = alike_kept 0 s f (frame_in (reading f h x)) c.alike (kept_behind k 0 f h x (omega arith) c o); fixed = λ m n. (read_at m k f h x l c g o n).frame };
    tree = λ m n. (read_at m k f h x l c g o n).tree;
  }

  -- ---- in front of parts

  -- of a switch the part in front stays
  abbrev Ready : Kind → ℕ → Parts → Type 0
  Ready kind.Switch k (Some x ∷ []) = (m : ℕ) → k ≤ m → part_renamed (swap m) x ≡ x
  Ready d k xs = Unit {0}

  tagged : (k : ℕ) (x : Part) (f : Frame) → ((m : ℕ) → k ≤ m → part_renamed (swap m) x ≡ x) → Inv k f → Inv k (in_switch (Some x ∷ []) f)
  tagged k x f r c = record {
    alike = record { objects = c.alike.objects; types = c.alike.types };
    fixed = λ m l. let q = c.fixed m l in record { rights = q.rights; sorts = q.sorts; locals = q.locals; tag = tag_fixed (swap m) x (r m l); results = q.results };
  }

  bare : (k : ℕ) (f : Frame) → Inv k f → Inv k (in_switch (None ∷ []) f)
  bare k f c = record {
    alike = record { objects = c.alike.objects; types = c.alike.types };
    fixed = λ m l. let q = c.fixed m l in record { rights = q.rights; sorts = q.sorts; locals = q.locals; tag = refl; results = q.results };
  }

  renewed : (k : ℕ) (f g : Frame) → g.around.objects ≡ f.around.objects → g.types ≡ f.types → ((m : ℕ) → Fixed (swap m) f → Fixed (swap m) g) → Inv k f → Inv k g
  renewed k f g o u r c = record { alike = record { objects = o ∙ c.alike.objects; types = u ∙ c.alike.types }; fixed = λ m l. r m (c.fixed m l) }

  entered : (d : Kind) (k : ℕ) (xs : Parts) (f : Frame) → NoFunction (λ n. n) 0 d → Ready d k xs → Inv k f → Inv k (entering d xs f)
  entered kind.FunctionDeclaration k xs f n r c = absurd n
  entered (kind.Declaration declaring.Constant) k [] f n r c = renewed k f (entering (kind.Declaration declaring.Constant) [] f) refl refl (λ m q. record { rights = q.rights; sorts = q.sorts; locals = q.locals; tag = q.tag; results = q.results }) c
  entered (kind.Declaration declaring.Constant) k (x ∷ xs) f n r c = renewed k f (entering (kind.Declaration declaring.Constant) (x ∷ xs) f) refl refl (λ m q. record { rights = q.rights; sorts = q.sorts; locals = q.locals; tag = q.tag; results = q.results }) c
  entered (kind.Group declaring.Constant) k [] f n r c = renewed k f (entering (kind.Group declaring.Constant) [] f) refl refl (λ m q. record { rights = q.rights; sorts = q.sorts; locals = q.locals; tag = q.tag; results = q.results }) c
  entered (kind.Group declaring.Constant) k (x ∷ xs) f n r c = renewed k f (entering (kind.Group declaring.Constant) (x ∷ xs) f) refl refl (λ m q. record { rights = q.rights; sorts = q.sorts; locals = q.locals; tag = q.tag; results = q.results }) c
  entered kind.Switch k [] f n r c = c
  entered kind.Switch k (None ∷ []) f n r c = bare k f c
  entered kind.Switch k (Some x ∷ []) f n r c = tagged k x f r c
  entered kind.Switch k (x ∷ y ∷ xs) f n r c = c
  entered d k xs f n r c = c

  -- a local type is known from its name on
  type_known : (k m : ℕ) (o : Option ℕ) (f : Frame) → next (option_map f.types o) k ≤ m → Fixed (swap m) f → Fixed (swap m) (with_type o f)
  type_known k m None f n c = c
  type_known k m (Some i) f n c = record {
    rights = c.rights;
    sorts = c.sorts;
    locals = placed_fixed (swap m) i (sort.IsType (declared (f.types i))) f.locals (ap (λ z. sort.IsType (declared z)) (swap_low m (f.types i) (omega (arith, n)))) c.locals;
    tag = c.tag;
    results = c.results;
  }

  begun : (d : Kind) (k i : ℕ) (f : Frame) → FollowsAt t d i k → Inv k f → Inv (next_at t d i k) (beginning d i f)
  begun (kind.Specification declaring.Type) k i f h c =
      let same : type_number f i ≡ t i = ap (λ o. option_map f.types (local_named (o i))) c.alike.objects ∙ ap (λ u. option_map u (local_named (s.around.objects i))) c.alike.types in
      let up = next_grows t (t i) k h in
      record {
        alike = alike_kept 0 s f (beginning (kind.Specification declaring.Type) i f) c.alike (beginning_kept (λ n. n) 0 (kind.Specification declaring.Type) i f);
        fixed = λ m n. type_known k m (local_named (f.around.objects i)) f (subst (λ o. next o k ≤ m) (sym same) n) (c.fixed m (omega (arith, up, n)));
      }
  begun d k i f h c = c

  grown_ready : (d : Kind) (k l : ℕ) (xs : Parts) (x : Part) → ((m : ℕ) → l ≤ m → part_renamed (swap m) x ≡ x) → Ready d l (xs ++ Some x ∷ [])
  grown_ready kind.Switch k l [] x r = r
  grown_ready kind.Switch k l (None ∷ []) x r = tt
  grown_ready kind.Switch k l (Some y ∷ []) x r = tt
  grown_ready kind.Switch k l (y ∷ z ∷ xs) x r = two_ready (y) z (xs ++ Some x ∷ [])
    where
      two_ready : (y z : Option Part) (ys : Parts) → Ready kind.Switch l (y ∷ z ∷ ys)
      two_ready None z ys = tt
      two_ready (Some y) z ys = tt
  grown_ready d k l xs x r = tt

  left_ready : (d : Kind) (l : ℕ) (xs : Parts) (f : Frame) → Ready d l (xs ++ left_out f d ∷ [])
  left_ready kind.Switch l [] f = tt
  left_ready kind.Switch l (None ∷ []) f = tt
  left_ready kind.Switch l (Some y ∷ []) f = tt
  left_ready kind.Switch l (None ∷ z ∷ xs) f = tt
  left_ready kind.Switch l (Some y ∷ z ∷ xs) f = tt
  left_ready d l xs f = tt

  -- ---- switches and loops

  -- right sides below k stay
  abbrev Agree : ℕ → Frame → Frame → Type 0
  Agree k f g = (n : ℕ) → n < k → slice_get (rights_of g) n ≡ slice_get (rights_of f) n

  keeps_at : (k : ℕ) (base f g : Frame) (o : Option TypeTree) → Inv k base → ((m : ℕ) → k ≤ m → option_map (renamed (swap m)) o ≡ o) → Agree k base f → Agree k base g → Keeps (rights_of f) (rights_of g) o
  keeps_at k base f g None c r a b = tt
  keeps_at k base f g (Some ty) c r a b =
      let stays : (m : ℕ) → k ≤ m → renamed (swap m) ty ≡ ty = λ m l. some_same (renamed (swap m) ty) ty (r m l) in
      let fixed : (m : ℕ) → k ≤ m → AreRenamed (swap m) (rights_of base) (rights_of base) = λ m l. (c.fixed m l).rights in
      same_underlying k (rights_of base) (rights_of g) fixed b ty stays ∙ sym (same_underlying k (rights_of base) (rights_of f) fixed a ty stays)

  clauses_keep : (low k : ℕ) (base f : Frame) (o : Option TypeTree) (ps : Trees) → k0 ≤ low → low ≤ k → Inv low base → ((m : ℕ) → low ≤ m → option_map (renamed (swap m)) o ≡ o) → Inv k f → AllOrdered t k ps → Agree low base f → ClausesKeep o f ps
  clauses_keep low k base f o none z l c r d q a = tt
  clauses_keep low k base f o (skip ps) z l c r d q a = clauses_keep low k base f o ps z l c r d q a
  clauses_keep low k base f o (more p ps) z l c r d q a =
      let g = frame_in (reading f value p) in
      let kept = kept_behind k low f value p l d q.0 in
      let b : Agree low base g = λ n h. kept.rights n h ∙ a n h in
      let up = grows t k p q.0 in
      (keeps_at low base f g o c r a b, clauses_keep low (behind t k p) base g o ps z (omega (arith, l, up)) c r (reads k f value p (omega (arith, z, l)) d (λ m l. refl) q.0).behind q.1 b)

  -- the body of a loop over a value
  loop_keeps : (c : Bool) (k : ℕ) (f : Frame) (hd x : Tree) → k0 ≤ k → Inv k f → Ordered t k hd → Ordered t (behind t k hd) x
      → KeepsIf c (rights_of (frame_in (reading f value hd))) (rights_of (frame_in (reading (frame_in (reading f value hd)) value x))) (range_type (tree_in (reading f value hd)))
  loop_keeps false k f hd x z c o q = tt
  loop_keeps true k f hd x z c o q =
      let g = frame_in (reading f value hd) in
      let low = behind t k hd in
      let one = reads k f value hd z c (λ m l. refl) o in
      let kept = kept_behind low low g value x (at_most low) one.behind q in
      keeps_at low g g (frame_in (reading g value x)) (range_type (tree_in (reading f value hd))) one.behind (λ m l. range_fixed (swap m) (tree_in (reading f value hd)) (one.tree m l)) (λ n h. refl) kept.rights

  steady_at : (d : Kind) (i k : ℕ) (f : Frame) (ps : Trees) → k0 ≤ k → Inv k f → AllOrdered t (next_at t d i k) ps → SteadyAt f d ps
  steady_at kind.Switch i k f none z c o = tt
  steady_at kind.Switch i k f (skip ps) z c o = tt
  steady_at kind.Switch i k f (more hd cs) z c o =
      let x = tree_in (reading f value hd) in
      let one = reads k f value hd z c (λ m l. refl) o.0 in
      let low = behind t k hd in
      let up = grows t k hd o.0 in
      let base = in_switch (Some x ∷ []) (frame_in (reading f value hd)) in
      let inside = tagged low x (frame_in (reading f value hd)) one.tree one.behind in
      clauses_keep low low base base (own_type (tag_behind (Some x))) cs (omega (arith, z, up)) (omega arith) inside (λ m l. own_fixed (swap m) (tag_behind (Some x)) (tag_fixed (swap m) x (one.tree m l))) inside o.1 (λ n h. refl)
  steady_at kind.For i k f none z c o = tt
  steady_at kind.For i k f (skip ps) z c o = tt
  steady_at kind.For i k f (more hd none) z c o = tt
  steady_at kind.For i k f (more hd (skip ps)) z c o = tt
  steady_at kind.For i k f (more hd (more x (more y ps))) z c o = tt
  steady_at kind.For i k f (more hd (more x (skip ps))) z c o = tt
  steady_at kind.For i k f (more hd (more x none)) z c o = loop_keeps (goes_over (more hd (more x none))) k f hd x z c o.0 o.1.0
  steady_at d i k f ps z c o = tt

  no_function_at : (d : Kind) (i k : ℕ) → FollowsAt t d i k → NoFunction (λ n. n) 0 d
  no_function_at kind.FunctionDeclaration i k h = h
  no_function_at (kind.Specification declaring.Type) i k h = tt
  no_function_at d i k h = tt

  none_ready : (d : Kind) (k : ℕ) → Ready d k []
  none_ready kind.Switch k = tt
  none_ready d k = tt

  mutual
    steady : (k : ℕ) (f : Frame) (h : Hint) (x : Tree) → k0 ≤ k → Inv k f → Told h → Ordered t k x → Steady f h x
    steady k f h (node d i j ps) z c g o =
        let up = at_grows t d i k o.0 in
        (steady_at d i k f ps z c o.1, parts_steady d (next_at t d i k) (beginning d i f) h ps [] ps (omega (arith, z, up)) (no_function_at d i k o.0) (none_ready d (next_at t d i k)) (begun d k i f o.0 c) g o.1)

    parts_steady : (d : Kind) (k : ℕ) (f : Frame) (h : Hint) (all : Trees) (xs : Parts) (ps : Trees) → k0 ≤ k → NoFunction (λ n. n) 0 d → Ready d k xs → Inv k f → Told h → AllOrdered t k ps → PartsSteady f d h all xs ps
    parts_steady d k f h all xs none z n r c g o = tt
    parts_steady d k f h all xs (skip ps) z n r c g o =
        let e = entering d xs f in parts_steady d k e h all (xs ++ left_out e d ∷ []) ps z n (left_ready d k xs e) (entered d k xs f n r c) g o
    parts_steady d k f h all xs (more p ps) z n r c g o =
        let e = entering d xs f in
        let inside = entered d k xs f n r c in
        let q = told d h all xs (kind_of p) in
        let told_so : Told q = λ m l. told_fixed (swap m) d h all xs (kind_of p) (g m l) in
        let one = reads k e q p z inside told_so o.0 in
        let up = grows t k p o.0 in (
          steady k e q p z inside told_so o.0,
          parts_steady d (behind t k p) (frame_in (reading e q p)) h all (xs ++ Some (tree_in (reading e q p)) ∷ []) ps (omega (arith, z, up)) n
              (grown_ready d k (behind t k p) xs (tree_in (reading e q p)) one.tree) one.behind g o.1,
        )

pub ordered_steady : StatementsRenamed → OrderedAreSteady
ordered_steady renames k f h x c w o =
    steady renames f k k f h x (omega arith) (record { alike = alike_self f; fixed = λ m l. known_fixed k m f l c }) (λ m l. hint_stays m k l h w) o
