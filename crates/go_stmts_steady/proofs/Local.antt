-- Reading looks at the numbers of declared types where types are declared, and nowhere else.
use Rattle.std.proofs.Common.{◌≡◌, ◌∙◌, ℕ, zero, suc, ◌<◌, ◌≤◌, Bool, true, false, List, [], ◌∷◌, ◌++◌, Option, Some, None, refl, sym, ap, subst, arith}
use Rattle.std.specs.Prelude.{if◌then◌else◌, slice_get}
use Rattle.std.specs.Option.{option_map}
use Rattle.go_grammar.specs.declared.kind.Kind.{Kind}
use Rattle.go_grammar.specs.declared.kind.Kind.TheVariants as kind
use Rattle.go_grammar.specs.declared.kind.Sort.TheVariants as declaring
use Rattle.go_grammar.specs.Trees.{Tree, node, Trees, none, more, skip, kind_of}
use Rattle.go_types.specs.Trees.{TypeTree, declared}
use Rattle.go_typed.specs.declared.form.Form.{Form}
use Rattle.go_typed.specs.Trees.{form_of, sort_of, parts_of, list_of}
use Rattle.go_typed.specs.Trees as sort
use Rattle.go_exprs_rules.specs.declared.fault.TypeFault.{TypeFault}
use Rattle.go_exprs_rules.specs.Names.{declared_form}
use Rattle.go_exprs_rules.specs.Scopes.{Hint, value}
use Rattle.go_exprs_rules.specs.Settling.{Part}
use Rattle.go_exprs_rules.specs.Sorts.{Stands}
use Rattle.go_exprs_rules.specs.Tables.{Parts, on_two, made}
use Rattle.go_exprs_rules.specs.TypeNodes.{part_type}
use Rattle.go_exprs_rules.specs.Typing.{typing, faults}
use Rattle.go_stmts_defs.specs.Frames.{Frame, rights_of, scope_of, placed, with_local, with_own_right}
use Rattle.go_stmts_defs.specs.Laying.{told, layout, form_by, local_named, type_number, type_sort}
use Rattle.go_stmts_defs.specs.Reading.{Found, Reading, read, Readings, all_read, after, reading, readings, beginning, entering, leaving, back, with_type, is_statement, is_list, is_declared_name, list_node, name_node, holding, holdings, held_faults, all_held_faults}
use Rattle.go_stmts_defs.specs.Reading.{declares_sort, declares_name, declares_all, is_new, part_source, right_side, repeated, repeated_faults, left_out, left_out_faults, completed, closed_on, closed_by, closed}
use Rattle.go_stmts_defs.specs.Rules.{late_limits, first_fault, type_failing, judges, failing, taking, own_faults, all_given, built_by}
use Rattle.go_stmts_variables.specs.Statements.{tree_in, found_in, frame_in}

abbrev pub From : ℕ → Option ℕ → Type 0
From b (Some m) = b ≤ m
From b None = Unit {0}

some_is : {A : Type 0} (x y : A) → Some x ≡ Some y → x ≡ y
some_is x y e = cc

-- ---- what reading keeps: tokens, numbers, and right sides below b

pub record Kept (b : ℕ) (f g : Frame) : Type 0 where
  pub objects : g.around.objects ≡ f.around.objects
  pub types : g.types ≡ f.types
  pub rights : (n : ℕ) → n < b → slice_get (rights_of g) n ≡ slice_get (rights_of f) n

-- the same tokens and numbers
pub record Alike (f g : Frame) : Type 0 where
  pub objects : g.around.objects ≡ f.around.objects
  pub types : g.types ≡ f.types

pub alike_self : (f : Frame) → Alike f f
alike_self f = record { objects = refl; types = refl }

pub alike_kept : (b : ℕ) (s f g : Frame) → Alike s f → Kept b f g → Alike s g
alike_kept b s f g a c = record { objects = c.objects ∙ a.objects; types = c.types ∙ a.types }

pub kept_self : (b : ℕ) (f : Frame) → Kept b f f
kept_self b f = record { objects = refl; types = refl; rights = λ n l. refl }

pub kept_both : (b : ℕ) (f g h : Frame) → Kept b f g → Kept b g h → Kept b f h
kept_both b f g h c d = record { objects = d.objects ∙ c.objects; types = d.types ∙ c.types; rights = λ n l. d.rights n l ∙ c.rights n l }

placed_other : {A : Type 0} (m n : ℕ) (x : A) (ys : List A) → n < m → slice_get (placed m x ys) n ≡ slice_get ys n
placed_other m n x [] l = refl
placed_other zero n x (y ∷ ys) l = absurd (omega (arith, l))
placed_other (suc m) zero x (y ∷ ys) l = refl
placed_other (suc m) (suc n) x (y ∷ ys) l = placed_other m n x ys (omega (arith, l))

right_kept : (b : ℕ) (o : Option ℕ) (t : Option TypeTree) (s : Frame) → From b o → Kept b s (with_own_right o t s)
right_kept b None t s h = kept_self b s
right_kept b (Some m) t s h = record { objects = refl; types = refl; rights = λ n l. placed_other m n t (rights_of s) (omega (arith, h, l)) }

sort_kept : (b : ℕ) (o : Option ℕ) (z : Stands) (s : Frame) → Kept b s (declares_sort o z s)
sort_kept b None z s = kept_self b s
sort_kept b (Some n) sort.Nothing s = kept_self b s
sort_kept b (Some n) z s = record { objects = refl; types = refl; rights = λ n l. refl }

name_kept : (b : ℕ) (x : Option Part) (s : Frame) → Kept b s (declares_name x s)
name_kept b None s = kept_self b s
name_kept b (Some x) s = sort_kept b (is_new (form_of x)) (sort_of x) s

names_kept : (b : ℕ) (xs : Parts) (s : Frame) → Kept b s (declares_all xs s)
names_kept b [] s = kept_self b s
names_kept b (x ∷ xs) s = kept_both b s (declares_name x s) (declares_all xs (declares_name x s)) (name_kept b x s) (names_kept b xs (declares_name x s))

type_kept : (b : ℕ) (o : Option ℕ) (s : Frame) → Kept b s (with_type o s)
type_kept b None s = kept_self b s
type_kept b (Some n) s = record { objects = refl; types = refl; rights = λ n l. refl }

module _ (T : ℕ → ℕ) (b : ℕ) where
  abbrev pub with_types : Frame → Frame
  with_types s = record s { types = T }

  abbrev pub moved : Reading → Reading
  moved (read x fs s) = read x fs (with_types s)

  abbrev pub moved_all : Readings → Readings
  moved_all (all_read xs fs s) = all_read xs fs (with_types s)

  -- a type that is declared has the same number, which isn't below b
  pub record At (s : Frame) (i : ℕ) : Type 0 where
    pub same : option_map T (local_named (s.around.objects i)) ≡ type_number s i
    pub from : From b (type_number s i)

  abbrev pub NodeAgrees : Frame → Kind → ℕ → Type 0
  NodeAgrees s (kind.Specification declaring.Type) i = At s i
  NodeAgrees s kind.FunctionDeclaration i = ⊥
  NodeAgrees s k i = Unit {0}

  abbrev mutual
    pub Agrees : Frame → Tree → Type 0
    Agrees s (node k i j ps) = NodeAgrees s k i × AllAgree s ps

    pub AllAgree : Frame → Trees → Type 0
    AllAgree s none = Unit {0}
    AllAgree s (more p ps) = Agrees s p × AllAgree s ps
    AllAgree s (skip ps) = AllAgree s ps

  at_kept : (s f : Frame) (i : ℕ) → Alike s f → At s i → At f i
  at_kept s f i c a =
      let number : type_number f i ≡ type_number s i = ap (λ o. option_map f.types (local_named (o i))) c.objects ∙ ap (λ u. option_map u (local_named (s.around.objects i))) c.types in
      record { same = ap (λ o. option_map T (local_named (o i))) c.objects ∙ a.same ∙ sym number; from = subst (From b) (sym number) a.from }

  node_kept : (s f : Frame) (k : Kind) (i : ℕ) → Alike s f → NodeAgrees s k i → NodeAgrees f k i
  node_kept s f (kind.Specification declaring.Type) i c a = at_kept s f i c a
  node_kept s f kind.FunctionDeclaration i c a = a
  node_kept s f k i c a = tt

  -- ---- nodes

  layout_same : (s : Frame) (k : Kind) (i : ℕ) (xs : Parts) → NodeAgrees s k i → layout (with_types s) k i xs ≡ layout s k i xs
  layout_same s (kind.Specification declaring.Type) i xs a = ap (λ o. Some (made (declared_form s.around (s.around.objects i)) i (suc i) (type_sort o) [] []) ∷ xs) a.same
  layout_same s (kind.Declaration declaring.Variable) i xs a = refl
  layout_same s (kind.Declaration declaring.Constant) i xs a = refl
  layout_same s (kind.Declaration declaring.Type) i xs a = refl
  layout_same s k i xs a = refl

  rights_same : (o : Option ℕ) (t : Option TypeTree) (s : Frame) → rights_of (with_own_right o t (with_types s)) ≡ rights_of (with_own_right o t s)
  rights_same None t s = refl
  rights_same (Some n) t s = refl

  limit_same : (s : Frame) (i : ℕ) (x : Part) → At s i → type_failing (with_types s) i x ≡ type_failing s i x
  limit_same s i x a =
      ap (λ r. first_fault (late_limits (rights_of s) r x)) (ap (λ o. rights_of (with_own_right o (part_type (Some x)) (with_types s))) a.same ∙ rights_same (type_number s i) (part_type (Some x)) s)

  types_fail : (s : Frame) (i : ℕ) (ys : Parts) → At s i → on_two [] (λ n x. type_failing (with_types s) i x) ys ≡ on_two [] (λ n x. type_failing s i x) ys
  types_fail s i [] a = refl
  types_fail s i (None ∷ ys) a = refl
  types_fail s i (Some n ∷ []) a = refl
  types_fail s i (Some n ∷ None ∷ ys) a = refl
  types_fail s i (Some n ∷ Some x ∷ []) a = limit_same s i x a
  types_fail s i (Some n ∷ Some x ∷ y ∷ ys) a = refl

  failing_same : (s : Frame) (k : Kind) (f : Form) (i j : ℕ) (ys : Parts) → NodeAgrees s k i → failing (with_types s) k f i j ys ≡ failing s k f i j ys
  failing_same s (kind.Specification declaring.Type) f i j ys a = types_fail s i ys a
  failing_same s k f i j ys a = refl

  own_same : (s : Frame) (k : Kind) (f : Form) (i j : ℕ) (ys : Parts) → NodeAgrees s k i → own_faults (with_types s) k f i j ys ≡ own_faults s k f i j ys
  own_same s k f i j ys a = ap (λ z. if judges k ys then z else []) (failing_same s k f i j ys a)

  taking_same : (s : Frame) (k : Kind) (f : Form) (ys : Parts) → taking (with_types s) k f ys ≡ taking s k f ys
  taking_same s (kind.Specification declaring.Type) f ys = refl
  taking_same s k f ys = refl

  built_same : (s : Frame) (k : Kind) (f : Form) (i j : ℕ) (ys : Parts) (own : List TypeFault) → built_by (with_types s) k f i j ys own ≡ built_by s k f i j ys own
  built_same s k f i j ys [] = ap (λ ks. made f i j sort.Nothing ys (all_given ks ys)) (taking_same s k f ys)
  built_same s k f i j ys (e ∷ es) = refl

  -- ---- frames

  right_same : (o : Option ℕ) (t : Option TypeTree) (s : Frame) → with_own_right o t (with_types s) ≡ with_types (with_own_right o t s)
  right_same None t s = refl
  right_same (Some n) t s = refl

  sort_same : (o : Option ℕ) (z : Stands) (s : Frame) → declares_sort o z (with_types s) ≡ with_types (declares_sort o z s)
  sort_same None z s = refl
  sort_same (Some n) sort.Nothing s = refl
  sort_same (Some n) z s = refl

  name_same : (x : Option Part) (s : Frame) → declares_name x (with_types s) ≡ with_types (declares_name x s)
  name_same None s = refl
  name_same (Some x) s = sort_same (is_new (form_of x)) (sort_of x) s

  names_same : (xs : Parts) (s : Frame) → declares_all xs (with_types s) ≡ with_types (declares_all xs s)
  names_same [] s = refl
  names_same (x ∷ xs) s = ap (declares_all xs) (name_same x s) ∙ names_same xs (declares_name x s)

  leaving_same : (k : Kind) (i : ℕ) (ps : Trees) (x : Part) (s : Frame) → NodeAgrees s k i → leaving k i ps x (with_types s) ≡ with_types (leaving k i ps x s)
  leaving_same (kind.Specification declaring.Type) i ps x s a =
      ap (λ o. with_own_right o (right_side (list_of (parts_of x))) (with_types s)) a.same ∙ right_same (type_number s i) (right_side (list_of (parts_of x))) s
  leaving_same (kind.Specification declaring.Variable) i ps x s a = names_same (list_of (parts_of x)) s
  leaving_same (kind.Specification declaring.Constant) i ps x s a = names_same (list_of (parts_of x)) (record s { source = part_source ps s.source })
  leaving_same kind.Define i ps x s a = names_same (list_of (parts_of x)) s
  leaving_same kind.DefiningRange i ps x s a = names_same (list_of (parts_of x)) s
  leaving_same k i ps x s a = refl

  leaving_kept : (k : Kind) (i : ℕ) (ps : Trees) (x : Part) (s : Frame) → NodeAgrees s k i → Kept b s (leaving k i ps x s)
  leaving_kept (kind.Specification declaring.Type) i ps x s a = right_kept b (type_number s i) (right_side (list_of (parts_of x))) s a.from
  leaving_kept (kind.Specification declaring.Variable) i ps x s a = names_kept b (list_of (parts_of x)) s
  leaving_kept (kind.Specification declaring.Constant) i ps x s a =
      let t : Frame = record s { source = part_source ps s.source } in
      kept_both b s t (declares_all (list_of (parts_of x)) t) (record { objects = refl; types = refl; rights = λ n l. refl }) (names_kept b (list_of (parts_of x)) t)
  leaving_kept kind.Define i ps x s a = names_kept b (list_of (parts_of x)) s
  leaving_kept kind.DefiningRange i ps x s a = names_kept b (list_of (parts_of x)) s
  leaving_kept k i ps x s a = kept_self b s

  -- no function is declared
  abbrev pub NoFunction : Kind → Type 0
  NoFunction kind.FunctionDeclaration = ⊥
  NoFunction k = Unit {0}

  pub no_function : (s : Frame) (k : Kind) (i : ℕ) → NodeAgrees s k i → NoFunction k
  no_function s kind.FunctionDeclaration i a = a
  no_function s (kind.Specification declaring.Type) i a = tt
  no_function s k i a = tt

  entering_same : (k : Kind) (xs : Parts) (s : Frame) → NoFunction k → entering k xs (with_types s) ≡ with_types (entering k xs s)
  entering_same kind.FunctionDeclaration xs s a = absurd a
  entering_same (kind.Declaration declaring.Constant) [] s a = refl
  entering_same (kind.Declaration declaring.Constant) (x ∷ xs) s a = refl
  entering_same (kind.Group declaring.Constant) [] s a = refl
  entering_same (kind.Group declaring.Constant) (x ∷ xs) s a = refl
  entering_same kind.Switch [] s a = refl
  entering_same kind.Switch (x ∷ []) s a = refl
  entering_same kind.Switch (x ∷ y ∷ xs) s a = refl
  entering_same k xs s a = refl

  pub entering_kept : (k : Kind) (xs : Parts) (s : Frame) → NoFunction k → Kept b s (entering k xs s)
  entering_kept kind.FunctionDeclaration xs s a = absurd a
  entering_kept (kind.Declaration declaring.Constant) [] s a = record { objects = refl; types = refl; rights = λ n l. refl }
  entering_kept (kind.Declaration declaring.Constant) (x ∷ xs) s a = record { objects = refl; types = refl; rights = λ n l. refl }
  entering_kept (kind.Group declaring.Constant) [] s a = record { objects = refl; types = refl; rights = λ n l. refl }
  entering_kept (kind.Group declaring.Constant) (x ∷ xs) s a = record { objects = refl; types = refl; rights = λ n l. refl }
  entering_kept kind.Switch [] s a = kept_self b s
  entering_kept kind.Switch (x ∷ []) s a = record { objects = refl; types = refl; rights = λ n l. refl }
  entering_kept kind.Switch (x ∷ y ∷ xs) s a = kept_self b s
  entering_kept k xs s a = kept_self b s

  type_same : (o : Option ℕ) (s : Frame) → option_map T o ≡ option_map s.types o → with_type o (with_types s) ≡ with_types (with_type o s)
  type_same None s e = refl
  type_same (Some n) s e = ap (λ m. with_types (with_local n (sort.IsType (declared m)) s)) (some_is (T n) (s.types n) e)

  beginning_same : (k : Kind) (i : ℕ) (s : Frame) → NodeAgrees s k i → beginning k i (with_types s) ≡ with_types (beginning k i s)
  beginning_same (kind.Specification declaring.Type) i s a = type_same (local_named (s.around.objects i)) s a.same
  beginning_same k i s a = refl

  pub beginning_kept : (k : Kind) (i : ℕ) (s : Frame) → Kept b s (beginning k i s)
  beginning_kept (kind.Specification declaring.Type) i s = type_kept b (local_named (s.around.objects i)) s
  beginning_kept k i s = kept_self b s

  -- ---- parts that hold no statements

  list_layout : (s : Frame) (k : Kind) (i : ℕ) (xs : Parts) → is_list k ≡ true → layout (with_types s) k i xs ≡ layout s k i xs
  list_layout s (kind.Specification declaring.Type) i xs e = cc
  list_layout s (kind.Declaration declaring.Variable) i xs e = refl
  list_layout s (kind.Declaration declaring.Constant) i xs e = refl
  list_layout s (kind.Declaration declaring.Type) i xs e = refl
  list_layout s k i xs e = refl

  list_same : (s : Frame) (k : Kind) (i j : ℕ) (hs hs' : Parts) (z : Part) (c : Bool) → is_list k ≡ c → hs' ≡ hs
      → (if c then list_node (with_types s) k i j (layout (with_types s) k i hs') else z) ≡ (if c then list_node s k i j (layout s k i hs) else z)
  list_same s k i j hs hs' z true l e = ap (list_node s k i j) (ap (layout (with_types s) k i) e ∙ list_layout s k i hs l)
  list_same s k i j hs hs' z false l e = refl

  mutual
    holding_same : (s : Frame) (h : Hint) (x : Tree) → holding (with_types s) h x ≡ holding s h x
    holding_same s h (node k i j ps) =
        list_same s k i j (holdings s k h ps [] ps) (holdings (with_types s) k h ps [] ps) (if is_declared_name k then name_node s i j else typing (scope_of s) h (node k i j ps)) (is_list k) refl (holdings_same s k h ps [] ps)

    holdings_same : (s : Frame) (k : Kind) (h : Hint) (all : Trees) (xs : Parts) (ps : Trees) → holdings (with_types s) k h all xs ps ≡ holdings s k h all xs ps
    holdings_same s k h all xs none = refl
    holdings_same s k h all xs (skip ps) = holdings_same s k h all (xs ++ None ∷ []) ps
    holdings_same s k h all xs (more p ps) =
        ap (λ x. holdings (with_types s) k h all (xs ++ Some x ∷ []) ps) (holding_same s (told k h all xs (kind_of p)) p)
        ∙ holdings_same s k h all (xs ++ Some (holding s (told k h all xs (kind_of p)) p) ∷ []) ps

  mutual
    held_same : (s : Frame) (h : Hint) (x : Tree) → held_faults (with_types s) h x ≡ held_faults s h x
    held_same s h (node k i j ps) =
        ap (λ z. if is_list k then z else (if is_declared_name k then [] else faults (scope_of s) h (node k i j ps))) (all_held_same s k h ps [] ps)

    all_held_same : (s : Frame) (k : Kind) (h : Hint) (all : Trees) (xs : Parts) (ps : Trees) → all_held_faults (with_types s) k h all xs ps ≡ all_held_faults s k h all xs ps
    all_held_same s k h all xs none = refl
    all_held_same s k h all xs (skip ps) = all_held_same s k h all (xs ++ None ∷ []) ps
    all_held_same s k h all xs (more p ps) =
        let t = told k h all xs (kind_of p) in
        ap (λ z. z ++ all_held_faults (with_types s) k h all (xs ++ Some (holding (with_types s) t p) ∷ []) ps) (held_same s t p)
        ∙ ap (λ x. held_faults s t p ++ all_held_faults (with_types s) k h all (xs ++ Some x ∷ []) ps) (holding_same s t p)
        ∙ ap (λ z. held_faults s t p ++ z) (all_held_same s k h all (xs ++ Some (holding s t p) ∷ []) ps)

  repeated_same : (s : Frame) (o : Option Tree) → repeated (with_types s) o ≡ repeated s o
  repeated_same s None = refl
  repeated_same s (Some r) = ap Some (holding_same s value r)

  repeated_fails : (s : Frame) (o : Option Tree) → repeated_faults (with_types s) o ≡ repeated_faults s o
  repeated_fails s None = refl
  repeated_fails s (Some r) = held_same s value r

  left_same : (s : Frame) (k : Kind) → left_out (with_types s) k ≡ left_out s k
  left_same s (kind.Specification declaring.Constant) = repeated_same s s.source
  left_same s k = refl

  left_fails : (s : Frame) (k : Kind) → left_out_faults (with_types s) k ≡ left_out_faults s k
  left_fails s (kind.Specification declaring.Constant) = repeated_fails s s.source
  left_fails s k = refl

  -- ---- statements

  abbrev last : Readings → Frame
  last (all_read xs fs s) = s

  back_agrees : (f s : Frame) (k : Kind) (i : ℕ) → NodeAgrees s k i → NodeAgrees (back f s) k i
  back_agrees f s (kind.Specification declaring.Type) i a = record { same = a.same; from = a.from }
  back_agrees f s kind.FunctionDeclaration i a = a
  back_agrees f s k i a = tt

  closed_same : (f : Frame) (k : Kind) (i j : ℕ) (ps : Trees) (r : Readings) → NodeAgrees (last r) k i → closed (with_types f) k i j ps (moved_all r) ≡ moved (closed f k i j ps r)
  closed_same f k i j ps (all_read xs fs s) a =
      let fm = form_by k xs in
      let ys = layout s k i xs in
      let own = own_faults s k fm i j ys in
      let x = built_by s k fm i j ys own in
      ap (λ ys. closed_by (with_types f) k fm i j ps ys fs (with_types s)) (layout_same s k i xs a)
      ∙ ap (λ own. closed_on (with_types f) k fm i j ps ys fs own (with_types s)) (own_same s k fm i j ys a)
      ∙ ap (λ x. completed (with_types f) k i ps x fs own (with_types s)) (built_same s k fm i j ys own)
      ∙ ap (read x (fs ++ own ∷ [])) (leaving_same k i ps x (back f s) (back_agrees f s k i a))

  closed_kept : (f : Frame) (k : Kind) (i j : ℕ) (ps : Trees) (r : Readings) → NodeAgrees (last r) k i → Kept b f (last r) → Kept b f (frame_in (closed f k i j ps r))
  closed_kept f k i j ps (all_read xs fs s) a c =
      let x = built_by s k (form_by k xs) i j (layout s k i xs) (own_faults s k (form_by k xs) i j (layout s k i xs)) in
      kept_both b f (back f s) (leaving k i ps x (back f s)) (record { objects = c.objects; types = c.types; rights = c.rights }) (leaving_kept k i ps x (back f s) (back_agrees f s k i a))

  -- with other numbers a part is read the same, and what is known behind it has those numbers
  pub record Moves (f : Frame) (r q : Reading) : Type 0 where
    pub same : q ≡ moved r
    pub kept : Kept b f (frame_in r)

  record AllMove (f : Frame) (r q : Readings) : Type 0 where
    pub same : q ≡ moved_all r
    pub kept : Kept b f (last r)

  after_is : (r : Reading) (next : Part → Found → Frame → Readings) → after r next ≡ next (tree_in r) (found_in r) (frame_in r)
  after_is (read x fs s) next = refl

  after_moved : (r : Reading) (next : Part → Found → Frame → Readings) → after (moved r) next ≡ next (tree_in r) (found_in r) (with_types (frame_in r))
  after_moved (read x fs s) next = refl

  node_moves : (f : Frame) (h : Hint) (k : Kind) (i j : ℕ) (ps : Trees) → NodeAgrees f k i
      → AllMove (beginning k i f) (readings (beginning k i f) k h ps [] [] ps) (readings (with_types (beginning k i f)) k h ps [] [] ps) → (c : Bool)
      → Moves f (if c then closed f k i j ps (readings (beginning k i f) k h ps [] [] ps) else read (holding f h (node k i j ps)) (held_faults f h (node k i j ps)) f)
      (if c then closed (with_types f) k i j ps (readings (beginning k i (with_types f)) k h ps [] [] ps) else read (holding (with_types f) h (node k i j ps)) (held_faults (with_types f) h (node k i j ps)) (with_types f))
  node_moves f h k i j ps a m true =
      let s = beginning k i f in
      let r = readings s k h ps [] [] ps in
      let whole = kept_both b f s (last r) (beginning_kept k i f) m.kept in
      let d = node_kept f (last r) k i (record { objects = whole.objects; types = whole.types }) a in
      record {
        same = ap (λ z. closed (with_types f) k i j ps (readings z k h ps [] [] ps)) (beginning_same k i f a) ∙ ap (closed (with_types f) k i j ps) m.same ∙ closed_same f k i j ps r d;
        kept = closed_kept f k i j ps r d whole;
      }
  node_moves f h k i j ps a m false = record {
    same = ap (λ z. read z (held_faults (with_types f) h (node k i j ps)) (with_types f)) (holding_same f h (node k i j ps)) ∙ ap (λ z. read (holding f h (node k i j ps)) z (with_types f)) (held_same f h (node k i j ps));
    kept = kept_self b f;
  }

  mutual
    pub reading_moves : (s f : Frame) (h : Hint) (x : Tree) → Alike s f → Agrees s x → Moves f (reading f h x) (reading (with_types f) h x)
    reading_moves s f h (node k i j ps) c a =
        node_moves f h k i j ps (node_kept s f k i c a.0) (readings_move s (beginning k i f) k h ps [] [] ps (no_function s k i a.0) (alike_kept b s f (beginning k i f) c (beginning_kept k i f)) a.1) (is_statement k)

    readings_move : (s f : Frame) (k : Kind) (h : Hint) (all : Trees) (xs : Parts) (fs : Found) (ps : Trees) → NoFunction k → Alike s f → AllAgree s ps
        → AllMove f (readings f k h all xs fs ps) (readings (with_types f) k h all xs fs ps)
    readings_move s f k h all xs fs none n c a = record { same = refl; kept = kept_self b f }
    readings_move s f k h all xs fs (skip ps) n c a =
        let e = entering k xs f in
        let d = alike_kept b s f e c (entering_kept k xs f n) in
        let m = readings_move s e k h all (xs ++ left_out e k ∷ []) (fs ++ left_out_faults e k) ps n d a in
        record {
          same = ap (λ z. readings z k h all (xs ++ left_out z k ∷ []) (fs ++ left_out_faults z k) ps) (entering_same k xs f n)
              ∙ ap (λ o. readings (with_types e) k h all (xs ++ o ∷ []) (fs ++ left_out_faults (with_types e) k) ps) (left_same e k)
              ∙ ap (λ gs. readings (with_types e) k h all (xs ++ left_out e k ∷ []) (fs ++ gs) ps) (left_fails e k) ∙ m.same;
          kept = kept_both b f e (last (readings e k h all (xs ++ left_out e k ∷ []) (fs ++ left_out_faults e k) ps)) (entering_kept k xs f n) m.kept;
        }
    readings_move s f k h all xs fs (more p ps) n c a =
        let e = entering k xs f in
        let t = told k h all xs (kind_of p) in
        let d = alike_kept b s f e c (entering_kept k xs f n) in
        let one = reading_moves s e t p d a.0 in
        let r = reading e t p in
        let next : Part → Found → Frame → Readings = λ x gs u. readings u k h all (xs ++ Some x ∷ []) (fs ++ gs) ps in
        let g = frame_in r in
        let rest = readings_move s g k h all (xs ++ Some (tree_in r) ∷ []) (fs ++ found_in r) ps n (alike_kept b s e g d one.kept) a.1 in
        let split = after_is r next in
        record {
          same = ap (λ z. after (reading z t p) next) (entering_same k xs f n) ∙ ap (λ z. after z next) one.same ∙ after_moved r next ∙ rest.same ∙ ap moved_all (sym split);
          kept = subst (λ z. Kept b f (last z)) (sym split) (kept_both b f e (last (next (tree_in r) (found_in r) g)) (entering_kept k xs f n) (kept_both b e g (last (next (tree_in r) (found_in r) g)) one.kept rest.kept));
        }
