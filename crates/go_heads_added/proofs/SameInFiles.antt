-- The rules on what a file tells by itself fail at the same places where the file has a function with an empty body more.
use Rattle.std.proofs.Common.{◌≡◌, ◌∙◌, ℕ, suc, ◌<◌, ◌≤◌, Bool, true, false, ◌&&◌, ◌||◌, not, List, [], ◌∷◌, ◌++◌, map, Option, Some, None, append-nil, refl, sym, ap, subst, arith}
use Rattle.std.specs.Prelude.{if◌then◌else◌, nat_lt}
use Rattle.std.specs.List.{AllByRecursion}
use Rattle.go_grammar.specs.declared.kind.Kind.{Kind}
use Rattle.go_grammar.specs.declared.kind.Kind.TheVariants as kind
use Rattle.go_grammar.specs.declared.kind.Sort.TheVariants as declaring
use Rattle.go_grammar.specs.Trees.{Tree, node, Trees, none, more, skip, kind_of, first, last}
use Rattle.go_grammar.specs.Grammar.{ends_named}
use Rattle.go_tokens.specs.Tokens.{TokenList}
use Rattle.go_tree.specs.declared.context.Context.{Context}
use Rattle.go_tree.specs.declared.context.Role.{Role}
use Rattle.go_tree.specs.declared.context.Role.TheVariants as role
use Rattle.go_tree.specs.declared.context.Scope.{Scope}
use Rattle.go_tree.specs.declared.event.Event.{Event}
use Rattle.go_tree.specs.declared.event.Event.TheVariants as event
use Rattle.go_tree.specs.Branches.{misplaced, statements}
use Rattle.go_tree.specs.Clauses.{other_imports, is_read_byte, bodiless}
use Rattle.go_tree.specs.Constants.{list_of, is_hidden, is_repetition, hidden_lists_by}
use Rattle.go_tree.specs.Contexts.{enter, is_there}
use Rattle.go_tree.specs.Duplicates.{is_duplicate, second_members, second_defaults}
use Rattle.go_tree.specs.Events as told
use Rattle.go_tree.specs.Events.{statement_events, own_events, name_events, parameter_events, function_events, default_events, is_default, is_more, pass, begin, events, events_of}
use Rattle.go_tree.specs.Failures.{place_if}
use Rattle.go_tree.specs.Imports.{is_fmt_value, is_fmt_path}
use Rattle.go_tree.specs.Lookups.{imports_unless}
use Rattle.go_tree.specs.Redeclared.{second_imports}
use Rattle.go_tree.specs.Units.{Place, word, bytes_of, bytes_at}
use Rattle.go_tree.specs.Views.{part_at}
use Rattle.go_scopes_events.proofs.Public.{IsLaidOut, LieIn, behind_name, laid_grows, lie_order}
use Rattle.go_heads_added.specs.Added.{reaching}
use Rattle.go_heads_added.specs.Reported.{EventPlaced, KeepsBytes}
use Rattle.go_heads_added.specs.Within.{EventWithin, IsOfFunction}
use Rattle.go_heads_added.proofs.Own as own
use Rattle.go_heads_added.proofs.Texts.{all_both}

-- ---- where a file tells of statements

module _ (n : ℕ) where
  abbrev Placed : List Event → Type 0
  Placed es = AllByRecursion (EventPlaced n) es

  statement_placed : (b : Bool) (i j : ℕ) → i < n → j ≤ n → Placed (statement_events b i j)
  statement_placed true i j l u = ((l, u), tt)
  statement_placed false i j l u = tt

  misplaced_placed : (b : Bool) (i j : ℕ) → i < n → j ≤ n → Placed (told.misplaced b i j)
  misplaced_placed true i j l u = tt
  misplaced_placed false i j l u = ((l, u), tt)

  parameter_placed : (group : ℕ) (name : ℕ) (s : Option Scope) → Placed (parameter_events group name s)
  parameter_placed group name None = (tt, tt)
  parameter_placed group name (Some s) = (tt, (tt, tt))

  name_placed : (c : Context) (i : ℕ) (r : Role) → Placed (name_events c i r)
  name_placed c i (role.New d) = (tt, tt)
  name_placed c i (role.Field group) = (tt, tt)
  name_placed c i (role.Key group) = (tt, tt)
  name_placed c i (role.Parameter group s) = parameter_placed group i s
  name_placed c i r = (tt, tt)

  default_placed : (d b : Bool) (i : ℕ) → i < n → Placed (default_events d b i)
  default_placed true true i l = (l, tt)
  default_placed true false i l = tt
  default_placed false b i l = tt

  defaults_placed : (b : Bool) (i j : ℕ) (ps : Trees) → LieIn i j ps → j ≤ n → Placed (told.second_defaults b ps)
  defaults_placed b i j none h u = tt
  defaults_placed b i j (skip ps) h u = defaults_placed b i j ps h u
  defaults_placed b i j (more p ps) h u =
      let g = laid_grows p h.1 in
      let o = lie_order (last p) j ps h.2 in
      all_both (EventPlaced n) (default_events (is_default (kind_of p)) b (first p)) (told.second_defaults (b || is_default (kind_of p)) ps)
      (default_placed (is_default (kind_of p)) b (first p) (omega (arith, g, o, u))) (defaults_placed (b || is_default (kind_of p)) (last p) j ps h.2 u)

  function_placed : (i j : ℕ) (b : Bool) → suc i < n → Placed (function_events i j b)
  function_placed i j true l = (tt, tt)
  function_placed i j false l = (tt, (l, tt))

  declaration_placed : (i j : ℕ) (ps : Trees) (b : Bool) → suc i < n → Placed (if b then function_events i j (is_there (part_at ps 1)) else [])
  declaration_placed i j ps true l = function_placed i j (is_there (part_at ps 1)) l
  declaration_placed i j ps false l = tt

  own_placed : (c : Context) (k : Kind) (i j : ℕ) (ps : Trees) → i < j → LieIn (behind_name k i) j ps → j ≤ n → Placed (own_events c k i j ps)
  own_placed c kind.ImportPath i j ps l h u = (tt, tt)
  own_placed c kind.FunctionDeclaration i j ps l h u = declaration_placed i j ps (nat_lt i j) (let o = lie_order (suc (suc i)) j ps h in omega (arith, o, u))
  own_placed c (kind.Specification declaring.Type) i j ps l h u = (tt, tt)
  own_placed c kind.DeclaredName i j ps l h u = name_placed c i c.role
  own_placed c kind.Name i j ps l h u = name_placed c i c.role
  own_placed c kind.Switch i j ps l h u = defaults_placed false i j ps h u
  own_placed c kind.Break i j ps l h u = misplaced_placed c.breaks i j (omega (arith, l, u)) u
  own_placed c kind.Continue i j ps l h u = misplaced_placed c.continues i j (omega (arith, l, u)) u
  own_placed c kind.Fallthrough i j ps l h u = misplaced_placed c.falls i j (omega (arith, l, u)) u
  own_placed c k i j ps l h u = tt

  mutual
    pub tree_placed : (c : Context) (t : Tree) → IsLaidOut t → last t ≤ n → Placed (events c t)
    tree_placed c (node k i j ps) h u =
        all_both (EventPlaced n) (statement_events c.listed i j ++ own_events c k i j ps) (events_of (begin c k) k i j ps 0 ps)
        (all_both (EventPlaced n) (statement_events c.listed i j) (own_events c k i j ps) (statement_placed c.listed i j (let l = h.0 in omega (arith, l, u)) u) (own_placed c k i j ps h.0 h.1 u))
        (parts_placed (begin c k) k i j ps 0 (behind_name k i) j ps h.1 u)

    parts_placed : (c : Context) (k : Kind) (i j : ℕ) (all : Trees) (m a e : ℕ) (ps : Trees) → LieIn a e ps → e ≤ n → Placed (events_of c k i j all m ps)
    parts_placed c k i j all m a e none h u = tt
    parts_placed c k i j all m a e (skip ps) h u = parts_placed c k i j all (suc m) a e ps h u
    parts_placed c k i j all m a e (more p ps) h u =
        all_both (EventPlaced n) (events (enter c k i j all (ends_named all) m p (is_more ps)) p) (events_of (pass c p) k i j all (suc m) ps)
        (tree_placed (enter c k i j all (ends_named all) m p (is_more ps)) p h.1 (let o = lie_order (last p) e ps h.2 in omega (arith, o, u)))
        (parts_placed (pass c p) k i j all (suc m) (last p) e ps h.2 u)

-- ---- rules

three : {A B C D : Type 0} (f : A → B → C → D) (a x : A) (b y : B) (c z : C) → a ≡ x → b ≡ y → c ≡ z → f a b c ≡ f x y z
three f a x b y c z d e g = ap (λ w. f w b c) d ∙ ap (λ w. f x w c) e ∙ ap (f x y) g

pub placed_same : (a x : Bool) (b y : Place) (c z : List Place) → a ≡ x → b ≡ y → c ≡ z → place_if a b c ≡ place_if x y z
placed_same a x b y c z d e g = three place_if a x b y c z d e g

module _ (n end : ℕ) (ts us : TokenList) (w : (t : ℕ) → t < n → word us t ≡ word ts t) (bytes : KeepsBytes n ts us) where
  abbrev to : List Event → List Event
  to es = map (reaching end) es

  abbrev AllWithin : List Event → Type 0
  AllWithin es = AllByRecursion (EventWithin n) es

  abbrev AllPlaced : List Event → Type 0
  AllPlaced es = AllByRecursion (EventPlaced n) es

  abbrev AllOf : List Event → Type 0
  AllOf es = AllByRecursion (IsOfFunction n) es

  pub at : (m i : ℕ) → i < n → bytes_at m us i ≡ bytes_at m ts i
  at m i l = bytes.places m i (suc i) l (omega (arith, l))

  -- ---- imports

  pub imports_same : (k : ℕ) (es added : List Event) → AllWithin es → AllOf added → other_imports k us (to es ++ added) ≡ other_imports k ts es
  imports_same k [] added h a = own.others_none n end ts us w k added a
  imports_same k (event.Import p ∷ es) added h a =
      placed_same (not (is_fmt_path us p)) (not (is_fmt_path ts p)) (bytes_at k us p) (bytes_at k ts p) (other_imports k us (to es ++ added)) (other_imports k ts es)
      (ap (λ v. not (is_fmt_value v)) (w p h.0)) (at k p h.0) (imports_same k es added h.1 a)
  imports_same k (x ∷ es) added h a = imports_same k es added h.1 a

  pub seconds_same : (b : Bool) (k : ℕ) (es added : List Event) → AllWithin es → AllOf added → second_imports b k us (to es ++ added) ≡ second_imports b k ts es
  seconds_same b k [] added h a = own.seconds_none n end ts us w b k added a
  seconds_same b k (event.Import p ∷ es) added h a =
      let same : is_fmt_path us p ≡ is_fmt_path ts p = ap is_fmt_value (w p h.0) in
      placed_same (b && is_fmt_path us p) (b && is_fmt_path ts p) (bytes_at k us p) (bytes_at k ts p) (second_imports (b || is_fmt_path us p) k us (to es ++ added)) (second_imports (b || is_fmt_path ts p) k ts es)
      (ap (λ v. b && v) same) (at k p h.0) (ap (λ v. second_imports (b || v) k us (to es ++ added)) same ∙ seconds_same (b || is_fmt_path ts p) k es added h.1 a)
  seconds_same b k (x ∷ es) added h a = seconds_same b k es added h.1 a

  pub unused_same : (b : Bool) (k : ℕ) (es added : List Event) → AllWithin es → AllOf added → imports_unless b k us (to es ++ added) ≡ imports_unless b k ts es
  unused_same b k [] added h a = own.unused_none n end ts us w b k added a
  unused_same b k (event.Import p ∷ es) added h a =
      placed_same (not b) (not b) (bytes_at k us p) (bytes_at k ts p) (imports_unless b k us (to es ++ added)) (imports_unless b k ts es) refl (at k p h.0) (unused_same b k es added h.1 a)
  unused_same b k (x ∷ es) added h a = unused_same b k es added h.1 a

  -- ---- functions without bodies

  pub bodiless_same : (b c : Bool) → ((i j : ℕ) → j ≤ n → is_read_byte c us i j ≡ is_read_byte b ts i j) → (k : ℕ) (es added : List Event) → AllWithin es → AllPlaced es → AllOf added
      → bodiless c k us (to es ++ added) ≡ bodiless b k ts es
  bodiless_same b c f k [] added h p a = own.bodies_none n end ts us w c k added a
  bodiless_same b c f k (event.Bodiless i j ∷ es) added h p a =
      placed_same (not (is_read_byte c us i j)) (not (is_read_byte b ts i j)) (bytes_at k us (suc i)) (bytes_at k ts (suc i)) (bodiless c k us (to es ++ added)) (bodiless b k ts es)
      (ap not (f i j h.0)) (at k (suc i) p.0) (bodiless_same b c f k es added h.1 p.1 a)
  bodiless_same b c f k (x ∷ es) added h p a = bodiless_same b c f k es added h.1 p.1 a

  -- ---- branches, defaults and statements

  pub misplaced_same : (k : ℕ) (es added : List Event) → AllPlaced es → AllOf added → misplaced k us (to es ++ added) ≡ misplaced k ts es
  misplaced_same k [] added p a = own.branches_none n end ts us w k added a
  misplaced_same k (event.Misplaced i j ∷ es) added p a =
      ap (λ s. s ∷ misplaced k us (to es ++ added)) (bytes.places k i j p.0.0 p.0.1) ∙ ap (λ ss. bytes_of k ts i j ∷ ss) (misplaced_same k es added p.1 a)
  misplaced_same k (x ∷ es) added p a = misplaced_same k es added p.1 a

  pub defaults_same : (k : ℕ) (es added : List Event) → AllPlaced es → AllOf added → second_defaults k us (to es ++ added) ≡ second_defaults k ts es
  defaults_same k [] added p a = own.default_none n end ts us w k added a
  defaults_same k (event.SecondDefault i ∷ es) added p a = ap (λ s. s ∷ second_defaults k us (to es ++ added)) (at k i p.0) ∙ ap (λ ss. bytes_at k ts i ∷ ss) (defaults_same k es added p.1 a)
  defaults_same k (x ∷ es) added p a = defaults_same k es added p.1 a

  pub statements_same : (k : ℕ) (es added : List Event) → AllPlaced es → AllOf added → statements k us (to es ++ added) ≡ statements k ts es
  statements_same k [] added p a = own.no_statements n end ts us w k added a
  statements_same k (event.Statement i j ∷ es) added p a =
      ap (λ s. s ∷ statements k us (to es ++ added)) (bytes.places k i j p.0.0 p.0.1) ∙ ap (λ ss. bytes_of k ts i j ∷ ss) (statements_same k es added p.1 a)
  statements_same k (x ∷ es) added p a = statements_same k es added p.1 a

  -- ---- members

  pub members_same : (k : ℕ) (before es added : List Event) → AllWithin before → AllWithin es → AllOf added → second_members [] k us added ≡ []
      → second_members (to before) k us (to es ++ added) ≡ second_members before k ts es
  members_same k before [] added b h a z = subst (λ zs. second_members zs k us added ≡ []) (append-nil (to before)) (own.added_members n end ts us w k before [] added b a z)
  members_same k before (event.Member m g i ∷ es) added b h a z =
      placed_same (is_duplicate m g (word us i) us (to before)) (is_duplicate m g (word ts i) ts before) (bytes_at k us i) (bytes_at k ts i)
      (second_members (to before ++ event.Member m g i ∷ []) k us (to es ++ added)) (second_members (before ++ event.Member m g i ∷ []) k ts es)
      (ap (λ v. is_duplicate m g v us (to before)) (w i h.0.1) ∙ own.duplicate_same n end ts us w m g (word ts i) before b) (at k i h.0.1)
      (ap (λ zs. second_members zs k us (to es ++ added)) (sym (own.to_append n end ts us w before (event.Member m g i ∷ [])))
      ∙ members_same k (before ++ event.Member m g i ∷ []) es added (own.within_more n end ts us w before (event.Member m g i) b h.0) h.1 a z)
  members_same k before (x ∷ es) added b h a z =
      ap (λ zs. second_members zs k us (to es ++ added)) (sym (own.to_append n end ts us w before (x ∷ []))) ∙ members_same k (before ++ x ∷ []) es added (own.within_more n end ts us w before x b h.0) h.1 a z

  -- ---- lists of constants that are repeated

  pub lists_same : (m : ℕ) (before es added : List Event) → AllWithin before → AllWithin es → AllOf added
      → hidden_lists_by (word us) (bytes_at m us) (to before) (to es ++ added) ≡ hidden_lists_by (word ts) (bytes_at m ts) before es
  lists_same m before [] added b h a = own.no_lists n end ts us w (bytes_at m us) (to before) added a
  lists_same m before (event.Declaration d ∷ es) added b h a =
      placed_same (is_repetition d && is_hidden (list_of d) (word us) (to before)) (is_repetition d && is_hidden (list_of d) (word ts) before) (bytes_at m us d.name) (bytes_at m ts d.name)
      (hidden_lists_by (word us) (bytes_at m us) (to before ++ reaching end (event.Declaration d) ∷ []) (to es ++ added)) (hidden_lists_by (word ts) (bytes_at m ts) (before ++ event.Declaration d ∷ []) es)
      (ap (λ z. is_repetition d && z) (own.hidden_same n end ts us w (list_of d) before b)) (at m d.name h.0.0)
      (ap (λ zs. hidden_lists_by (word us) (bytes_at m us) zs (to es ++ added)) (sym (own.to_append n end ts us w before (event.Declaration d ∷ [])))
      ∙ lists_same m (before ++ event.Declaration d ∷ []) es added (own.within_more n end ts us w before (event.Declaration d) b h.0) h.1 a)
  lists_same m before (x ∷ es) added b h a =
      ap (λ zs. hidden_lists_by (word us) (bytes_at m us) zs (to es ++ added)) (sym (own.to_append n end ts us w before (x ∷ [])))
      ∙ lists_same m (before ++ x ∷ []) es added (own.within_more n end ts us w before x b h.0) h.1 a
