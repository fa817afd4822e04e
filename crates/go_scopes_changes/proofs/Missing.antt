-- Functions without bodies, in packages with equal heads: each is that of the profile, where each was and no body is gone.
use Rattle.std.proofs.Common.{◌≡◌, ◌∙◌, ℕ, zero, suc, ◌+◌, ◌-◌, ◌<◌, ◌≤◌, Bool, true, false, List, [], ◌∷◌, ◌++◌, map, length, Option, Some, None, refl, sym, ap, subst, arith}
use Rattle.std.specs.Prelude.{if◌then◌else◌, ◌&&◌, ◌||◌, not, nat_eq, is_some}
use Rattle.std.specs.List.{AllByRecursion}
use Rattle.std.proofs.lemmas.Bool.{lt-ltb}
use Rattle.std.proofs.lemmas.Bool.Decides.{nat_tests}
use Rattle.go_tokens.specs.declared.token.TokenKind.{TokenKind}
use Rattle.go_tokens.specs.Spellings.{same_text}
use Rattle.go_tokens.specs.Tokens.{TokenList, kinds}
use Rattle.go_grammar.specs.declared.kind.Category.TheVariants as category
use Rattle.go_grammar.specs.declared.kind.Kind.{Kind}
use Rattle.go_grammar.specs.declared.kind.Kind.TheVariants as kind
use Rattle.go_grammar.specs.declared.kind.Place.TheVariants as place
use Rattle.go_grammar.specs.declared.kind.Sort.TheVariants as sort
use Rattle.go_grammar.specs.Grammar.{IsFile, rule, ends_named}
use Rattle.go_grammar.specs.Trees.{Tree, node, Trees, none, more, skip, kind_of, first, last, parts}
use Rattle.go_rewriting.proofs.Public.{tree_order, derives_ordered}
use Rattle.go_tree.specs.declared.context.Context.{Context}
use Rattle.go_tree.specs.declared.context.Role.{Role}
use Rattle.go_tree.specs.declared.context.Role.TheVariants as role
use Rattle.go_tree.specs.declared.event.Declaration.{Declaration}
use Rattle.go_tree.specs.declared.event.Event.{Event}
use Rattle.go_tree.specs.declared.event.Event.TheVariants as event
use Rattle.go_tree.specs.Clauses.{declares, is_spelled, read_byte, is_read_byte, bodiless}
use Rattle.go_tree.specs.Contexts.{is_there, is_package, file_context, enter}
use Rattle.go_tree.specs.Declarations.{Found, found_in, found_from}
use Rattle.go_tree.specs.Events.{name_events, misplaced, is_default, default_events, second_defaults, function_events, own_events, statement_events, is_more, pass, begin, events, events_of}
use Rattle.go_tree.specs.Failures.{place_if, of_files}
use Rattle.go_tree.specs.Lists.{is_function, functions}
use Rattle.go_tree.specs.Units.{Place, word, bytes_at}
use Rattle.go_tree.specs.Views.{part_at}
use Rattle.go_scopes_events.specs.Orders.{EachDeclared}
use Rattle.go_scopes_events.proofs.Public.{AreInner, IsInner, derives_inner, function_rule, is_top, rule_inner, spells_inner, true_false}
use Rattle.go_heads.specs.Functions.{Function, Alone, AreRead, KeepsFunctions, all_functions, signature_alone, alone, texts_from}
use Rattle.go_heads.specs.Heads.{File, IsRead, Head, body_of, head_of, heads, in_bodies, without_body}
use Rattle.go_heads.specs.Objects.{units_of, file_in}
use Rattle.go_heads.specs.Told as told_names
use Rattle.go_heads.specs.Told.{Told, asks, new_name, asked_name, told, placed, file_events, told_outside}
use Rattle.go_heads.proofs.Public.{AllSit, IsHeaded, NamesIn, OthersSit, Sits, StandFrom, file_headed, file_sat, first_same, others_same, some_not_none, stand_from, texts_length}
use Rattle.go_scopes_changes.specs.Changes.{KeepsBodies}
use Rattle.go_scopes_changes.proofs.Clauses.{TellTheSame}
use Rattle.go_scopes_changes.proofs.HeadNeeds as at_heads
use Rattle.go_scopes_changes.proofs.HeadPlaces.{bodies, place_at}
use Rattle.go_scopes_changes.proofs.Named.{each_at, each_from, there_too}
use Rattle.go_scopes_changes.proofs.Pairs.{text_in_head, none_if, left_none, right_none, none_both}

-- ---- what a tree tells of functions without bodies

module _ (hidden : Bool) (n : ℕ) (l : TokenList) where
  abbrev left : List Event → List Place
  left es = bodiless hidden n l es

  left_append : (es fs : List Event) → left (es ++ fs) ≡ left es ++ left fs
  left_append [] fs = refl
  left_append (event.Bodiless i j ∷ es) fs = by (not (is_read_byte hidden l i j)) (left_append es fs)
    where
      by : (b : Bool) → left (es ++ fs) ≡ left es ++ left fs → place_if b (bytes_at n l (suc i)) (left (es ++ fs)) ≡ place_if b (bytes_at n l (suc i)) (left es) ++ left fs
      by true e = ap (λ ps. bytes_at n l (suc i) ∷ ps) e
      by false e = e
  left_append (event.Import x ∷ es) fs = left_append es fs
  left_append (event.Member m g x ∷ es) fs = left_append es fs
  left_append (event.Declaration d ∷ es) fs = left_append es fs
  left_append (event.Use u ∷ es) fs = left_append es fs
  left_append (event.Statement i j ∷ es) fs = left_append es fs
  left_append (event.Misplaced i j ∷ es) fs = left_append es fs
  left_append (event.SecondDefault i ∷ es) fs = left_append es fs

  left_both : (es fs : List Event) → left es ≡ [] → left fs ≡ [] → left (es ++ fs) ≡ []
  left_both es fs e f = left_append es fs ∙ none_both (left es) (left fs) e f

  statement_left : (b : Bool) (i j : ℕ) → left (statement_events b i j) ≡ []
  statement_left true i j = refl
  statement_left false i j = refl

  misplaced_left : (b : Bool) (i j : ℕ) → left (misplaced b i j) ≡ []
  misplaced_left true i j = refl
  misplaced_left false i j = refl

  default_left : (d b : Bool) (x : ℕ) → left (default_events d b x) ≡ []
  default_left true true x = refl
  default_left true false x = refl
  default_left false b x = refl

  second_left : (b : Bool) (ps : Trees) → left (second_defaults b ps) ≡ []
  second_left b none = refl
  second_left b (skip ps) = second_left b ps
  second_left b (more t ps) =
      left_both (default_events (is_default (kind_of t)) b (first t)) (second_defaults (b || is_default (kind_of t)) ps) (default_left (is_default (kind_of t)) b (first t)) (second_left (b || is_default (kind_of t)) ps)

  name_left : (c : Context) (i : ℕ) (r : Role) → left (name_events c i r) ≡ []
  name_left c i (role.Parameter g None) = refl
  name_left c i (role.Parameter g (Some s)) = refl
  name_left c i r = refl

  own_left : (c : Context) (k : Kind) (i j : ℕ) (ps : Trees) → is_top k ≡ false → left (own_events c k i j ps) ≡ []
  own_left c kind.FunctionDeclaration i j ps e = absurd (true_false true refl e)
  own_left c (kind.Specification sort.Type) i j ps e = refl
  own_left c kind.DeclaredName i j ps e = name_left c i c.role
  own_left c kind.Name i j ps e = name_left c i c.role
  own_left c kind.Switch i j ps e = second_left false ps
  own_left c kind.Break i j ps e = misplaced_left c.breaks i j
  own_left c kind.Continue i j ps e = misplaced_left c.continues i j
  own_left c kind.Fallthrough i j ps e = misplaced_left c.falls i j
  own_left c k i j ps e = refl

  mutual
    -- a tree without functions
    tree_left : (c : Context) (t : Tree) → IsInner t → left (events c t) ≡ []
    tree_left c (node k i j ps) x =
        left_both (statement_events c.listed i j ++ own_events c k i j ps) (events_of (begin c k) k i j ps 0 ps)
        (left_both (statement_events c.listed i j) (own_events c k i j ps) (statement_left c.listed i j) (own_left c k i j ps x.0))
        (parts_left (begin c k) k i j ps 0 ps x.1)

    parts_left : (c : Context) (k : Kind) (i j : ℕ) (ps : Trees) (m : ℕ) (qs : Trees) → AreInner qs → left (events_of c k i j ps m qs) ≡ []
    parts_left c k i j ps m none x = refl
    parts_left c k i j ps m (more q qs) x =
        left_both (events (enter c k i j ps (ends_named ps) m q (is_more qs)) q) (events_of (pass c q) k i j ps (suc m) qs)
        (tree_left (enter c k i j ps (ends_named ps) m q (is_more qs)) q x.0) (parts_left (pass c q) k i j ps (suc m) qs x.1)
    parts_left c k i j ps m (skip qs) x = parts_left c k i j ps (suc m) qs x

  -- ---- a function

  abbrev own_missing : Bool → ℕ → ℕ → List Place
  own_missing true i j = []
  own_missing false i j = place_if (not (is_read_byte hidden l i j)) (bytes_at n l (suc i)) []

  nothing_behind : {A : Type 0} (xs : List A) → xs ++ [] ≡ xs
  nothing_behind [] = refl
  nothing_behind (x ∷ xs) = ap (λ ys. x ∷ ys) (nothing_behind xs)

  function_left : (c : Context) (i j : ℕ) (ps : Trees) → i < j → AreInner ps → left (events c (node kind.FunctionDeclaration i j ps)) ≡ own_missing (is_there (part_at ps 1)) i j
  function_left c i j ps lt x =
      let own : Bool → List Event = λ b. if b then function_events i j (is_there (part_at ps 1)) else [] in
      let inside : List Event = events_of (begin c kind.FunctionDeclaration) kind.FunctionDeclaration i j ps 0 ps in
      left_append (statement_events c.listed i j ++ own_events c kind.FunctionDeclaration i j ps) inside
      ∙ ap (λ qs. left (statement_events c.listed i j ++ own_events c kind.FunctionDeclaration i j ps) ++ qs) (parts_left (begin c kind.FunctionDeclaration) kind.FunctionDeclaration i j ps 0 ps x)
      ∙ nothing_behind (left (statement_events c.listed i j ++ own_events c kind.FunctionDeclaration i j ps))
      ∙ left_append (statement_events c.listed i j) (own_events c kind.FunctionDeclaration i j ps)
      ∙ ap (λ qs. qs ++ left (own_events c kind.FunctionDeclaration i j ps)) (statement_left c.listed i j)
      ∙ ap (λ b. left (own b)) (lt-ltb i j lt)
      ∙ by (is_there (part_at ps 1))
    where
      by : (b : Bool) → left (function_events i j b) ≡ own_missing b i j
      by true = refl
      by false = refl

  -- ---- the parts of a file

  -- Without a body it is that of the profile.
  abbrev pub IsSpelled : Tree → Type 0
  IsSpelled t = body_of t ≡ None → is_read_byte hidden l (first t) (last t) ≡ true

  module _ (ts : List TokenKind) (p : ℕ → Bool) where
    function_missing : (c : Context) (i j : ℕ) (ps : Trees) → Sits ts p (node kind.FunctionDeclaration i j ps)
        → left (events c (node kind.FunctionDeclaration i j ps)) ≡ own_missing (is_some (body_of (node kind.FunctionDeclaration i j ps))) i j
    function_missing c i j ps h =
        let t : Tree = node kind.FunctionDeclaration i j ps in
        let lt : i < j = tree_order t (derives_ordered ts t category.Declaration h.derives) in
        let inner : AreInner ps = spells_inner ts ps (rule place.Free kind.FunctionDeclaration) i j (function_rule place.Free kind.FunctionDeclaration refl) h.derives.1 in
        function_left c i j ps lt inner ∙ ap (λ b. own_missing b i j) (bodied ps h)
      where
        bodied : (ps : Trees) → Sits ts p (node kind.FunctionDeclaration i j ps) → is_there (part_at ps 1) ≡ is_some (body_of (node kind.FunctionDeclaration i j ps))
        bodied none h = absurd h.derives.1
        bodied (skip ps) h = absurd h.derives.1
        bodied (more s none) h = absurd h.derives.1.2
        bodied (more s (skip ps)) h = refl
        bodied (more s (more b ps)) h = refl

    missing_to : (i j : ℕ) (o : Option Tree) → own_missing (is_some o) i j ≡ [] → o ≡ None → is_read_byte hidden l i j ≡ true
    missing_to i j (Some b) e f = cc
    missing_to i j None e f = turned (is_read_byte hidden l i j) ((none_if (not (is_read_byte hidden l i j)) (bytes_at n l (suc i)) [] e).0)
      where
        turned : (b : Bool) → not b ≡ false → b ≡ true
        turned true e = refl
        turned false e = cc

    missing_from : (i j : ℕ) (o : Option Tree) → (o ≡ None → is_read_byte hidden l i j ≡ true) → own_missing (is_some o) i j ≡ []
    missing_from i j (Some b) f = refl
    missing_from i j None f = ap (λ b. place_if (not b) (bytes_at n l (suc i)) []) (f refl)

    plain_left : (c : Context) (d : Tree) → Sits ts p d → is_function (kind_of d) ≡ false → left (events c d) ≡ []
    plain_left c (node kind.FunctionDeclaration i j ps) h e = absurd (true_false true refl e)
    plain_left c (node (kind.Declaration s) i j ps) h e =
        tree_left c (node (kind.Declaration s) i j ps) (refl, spells_inner ts ps (rule place.Free (kind.Declaration s)) i j (rule_inner place.Free (kind.Declaration s) refl) h.derives.1)
    plain_left c (node k i j ps) h e = absurd (true_false false h.derives.0 refl)

    tree_to : (c : Context) (d : Tree) → Sits ts p d → is_function (kind_of d) ≡ true → left (events c d) ≡ [] → IsSpelled d
    tree_to c (node kind.FunctionDeclaration i j ps) h e f = missing_to i j (body_of (node kind.FunctionDeclaration i j ps)) (sym (function_missing c i j ps h) ∙ f)
    tree_to c (node (kind.Declaration s) i j ps) h e f = absurd (true_false false e refl)
    tree_to c (node k i j ps) h e f = absurd (true_false false h.derives.0 refl)

    tree_from : (c : Context) (d : Tree) → Sits ts p d → is_function (kind_of d) ≡ true → IsSpelled d → left (events c d) ≡ []
    tree_from c (node kind.FunctionDeclaration i j ps) h e f = function_missing c i j ps h ∙ missing_from i j (body_of (node kind.FunctionDeclaration i j ps)) f
    tree_from c (node (kind.Declaration s) i j ps) h e f = absurd (true_false false e refl)
    tree_from c (node k i j ps) h e f = absurd (true_false false h.derives.0 refl)

    row_to : (c : Context) (i j : ℕ) (ps : Trees) (m : ℕ) (ds : Trees) → AllSit ts p ds → left (events_of c kind.File i j ps m ds) ≡ [] → AllByRecursion IsSpelled (functions ds)
    row_to c i j ps m none h e = tt
    row_to c i j ps m (skip ds) h e = row_to c i j ps (suc m) ds h e
    row_to c i j ps m (more d ds) h e =
        let one : List Event = events (enter c kind.File i j ps (ends_named ps) m d (is_more ds)) d in
        let rest : List Event = events_of (pass c d) kind.File i j ps (suc m) ds in
        let both : left one ++ left rest ≡ [] = sym (left_append one rest) ∙ e in
        by (is_function (kind_of d)) refl (left_none (left one) (left rest) both) (row_to (pass c d) i j ps (suc m) ds h.1 (right_none (left one) (left rest) both))
      where
        by : (b : Bool) → is_function (kind_of d) ≡ b → left (events (enter c kind.File i j ps (ends_named ps) m d (is_more ds)) d) ≡ [] → AllByRecursion IsSpelled (functions ds)
            → AllByRecursion IsSpelled (if b then d ∷ functions ds else functions ds)
        by true x f g = (tree_to (enter c kind.File i j ps (ends_named ps) m d (is_more ds)) d h.0 x f, g)
        by false x f g = g

    row_from : (c : Context) (i j : ℕ) (ps : Trees) (m : ℕ) (ds : Trees) → AllSit ts p ds → AllByRecursion IsSpelled (functions ds) → left (events_of c kind.File i j ps m ds) ≡ []
    row_from c i j ps m none h e = refl
    row_from c i j ps m (skip ds) h e = row_from c i j ps (suc m) ds h e
    row_from c i j ps m (more d ds) h e =
        let it : Context = enter c kind.File i j ps (ends_named ps) m d (is_more ds) in
        let x = by (is_function (kind_of d)) refl e in
        left_both (events it d) (events_of (pass c d) kind.File i j ps (suc m) ds) x.0 (row_from (pass c d) i j ps (suc m) ds h.1 x.1)
      where
        by : (b : Bool) → is_function (kind_of d) ≡ b → AllByRecursion IsSpelled (if b then d ∷ functions ds else functions ds)
            → (left (events (enter c kind.File i j ps (ends_named ps) m d (is_more ds)) d) ≡ []) × AllByRecursion IsSpelled (functions ds)
        by true x f = (tree_from (enter c kind.File i j ps (ends_named ps) m d (is_more ds)) d h.0 x f.0, f.1)
        by false x f = (plain_left (enter c kind.File i j ps (ends_named ps) m d (is_more ds)) d h.0 x, f)

    -- the imports stand in front
    others_to : (c : Context) (i j : ℕ) (ps : Trees) (d : Tree) (ds : Trees) → OthersSit ts p (more d ds) → left (events_of c kind.File i j ps 0 (more d ds)) ≡ [] → AllByRecursion IsSpelled (functions (more d ds))
    others_to c i j ps d ds h e =
        let one : List Event = events (enter c kind.File i j ps (ends_named ps) 0 d (is_more ds)) d in
        let rest : List Event = events_of (pass c d) kind.File i j ps 1 ds in
        subst (λ b. AllByRecursion IsSpelled (if b then d ∷ functions ds else functions ds)) (sym h.0)
        (row_to (pass c d) i j ps 1 ds h.3 (right_none (left one) (left rest) (sym (left_append one rest) ∙ e)))

    others_from : (c : Context) (i j : ℕ) (ps : Trees) (d : Tree) (ds : Trees) → OthersSit ts p (more d ds) → IsInner d → AllByRecursion IsSpelled (functions (more d ds)) → left (events_of c kind.File i j ps 0 (more d ds)) ≡ []
    others_from c i j ps d ds h x e =
        let it : Context = enter c kind.File i j ps (ends_named ps) 0 d (is_more ds) in
        left_both (events it d) (events_of (pass c d) kind.File i j ps 1 ds) (tree_left it d x)
        (row_from (pass c d) i j ps 1 ds h.3 (subst (λ b. AllByRecursion IsSpelled (if b then d ∷ functions ds else functions ds)) h.0 e))

  file_to : (ts : List TokenKind) (t : Tree) → IsFile ts t → left (events (file_context (last t)) t) ≡ [] → AllByRecursion IsSpelled (functions (parts t))
  file_to ts (node kind.File i j none) f e = absurd f.derives.1
  file_to ts (node kind.File i j (skip ps)) f e = row_to ts (in_bodies ps) (begin (file_context j) kind.File) i j (skip ps) 0 (skip ps) (file_sat ts (node kind.File i j (skip ps)) f) e
  file_to ts (node kind.File i j (more d ds)) f e = others_to ts (in_bodies (more d ds)) (begin (file_context j) kind.File) i j (more d ds) d ds (file_sat ts (node kind.File i j (more d ds)) f) e
  file_to ts (node k i j ps) f e = absurd (true_false false f.derives.0 refl)

  file_from : (ts : List TokenKind) (t : Tree) → IsFile ts t → AllByRecursion IsSpelled (functions (parts t)) → left (events (file_context (last t)) t) ≡ []
  file_from ts (node kind.File i j none) f e = absurd f.derives.1
  file_from ts (node kind.File i j (skip ps)) f e = row_from ts (in_bodies ps) (begin (file_context j) kind.File) i j (skip ps) 0 (skip ps) (file_sat ts (node kind.File i j (skip ps)) f) e
  file_from ts (node kind.File i j (more d ds)) f e =
      others_from ts (in_bodies (more d ds)) (begin (file_context j) kind.File) i j (more d ds) d ds (file_sat ts (node kind.File i j (more d ds)) f) (derives_inner ts d category.Imports refl f.derives.1.1) e
  file_from ts (node k i j ps) f e = absurd (true_false false f.derives.0 refl)

-- ---- packages

module _ (hidden : Bool) where
  abbrev Spelled : Function → Type 0
  Spelled g = body_of g.tree ≡ None → is_read_byte hidden g.file.tokens (first g.tree) (last g.tree) ≡ true

  abbrev in_file : File → Tree → Function
  in_file f t = record { file = f; tree = t }

  row_spelled : (n : ℕ) (f : File) (ts : List Tree) (gs : List Function) → AllByRecursion (IsSpelled hidden n f.tokens) ts → AllByRecursion Spelled gs → AllByRecursion Spelled (map (in_file f) ts ++ gs)
  row_spelled n f [] gs h k = k
  row_spelled n f (t ∷ ts) gs h k = (h.0, row_spelled n f ts gs h.1 k)

  spelled_row : (n : ℕ) (f : File) (ts : List Tree) (gs : List Function) → AllByRecursion Spelled (map (in_file f) ts ++ gs) → AllByRecursion (IsSpelled hidden n f.tokens) ts × AllByRecursion Spelled gs
  spelled_row n f [] gs h = (tt, h)
  spelled_row n f (t ∷ ts) gs h = let rest = spelled_row n f ts gs h.1 in ((h.0, rest.0), rest.1)

  all_to : (n : ℕ) (fs : List File) → AreRead fs → of_files (bodiless hidden) n (units_of fs) ≡ [] → AllByRecursion Spelled (all_functions fs)
  all_to n [] h e = tt
  all_to n (f ∷ fs) h e =
      let here : List Place = bodiless hidden n f.tokens (file_events f) in
      let rest : List Place = of_files (bodiless hidden) (suc n) (units_of fs) in
      row_spelled n f (functions (parts f.tree)) (all_functions fs) (file_to hidden n f.tokens (kinds f.tokens.tokens) f.tree h.0.tree (left_none here rest e)) (all_to (suc n) fs h.1 (right_none here rest e))

  all_from : (n : ℕ) (fs : List File) → AreRead fs → AllByRecursion Spelled (all_functions fs) → of_files (bodiless hidden) n (units_of fs) ≡ []
  all_from n [] h e = refl
  all_from n (f ∷ fs) h e =
      let x = spelled_row n f (functions (parts f.tree)) (all_functions fs) e in
      none_both (bodiless hidden n f.tokens (file_events f)) (of_files (bodiless hidden) (suc n) (units_of fs)) (file_from hidden n f.tokens (kinds f.tokens.tokens) f.tree h.0.tree x.0) (all_from (suc n) fs h.1 x.1)

-- ---- functions with one signature

bare_same : (t : Tree) → body_of t ≡ None → without_body t ≡ t
bare_same (node k i j none) e = refl
bare_same (node k i j (skip ps)) e = refl
bare_same (node k i j (more s none)) e = refl
bare_same (node k i j (more s (skip ps))) e = refl
bare_same (node k i j (more s (more b ps))) e = by (is_function k) e
  where
    by : (c : Bool) → (if c then Some b else None) ≡ None → (if c then node k i (first b) (more s (skip ps)) else node k i j (more s (more b ps))) ≡ node k i j (more s (more b ps))
    by true e = cc
    by false e = refl

spelled_same : (a b : TokenList) (i j k : ℕ) (ws : List (List ℕ)) → length ws ≤ k → texts_from b j k ≡ texts_from a i k → is_spelled b j ws ≡ is_spelled a i ws
spelled_same a b i j k [] le e = refl
spelled_same a b i j zero (w ∷ ws) le e = absurd (omega (arith, le))
spelled_same a b i j (suc k) (w ∷ ws) le e =
    ap (λ x. same_text x w && is_spelled b (suc j) ws) (first_same (word b j) (word a i) (texts_from b (suc j) k) (texts_from a (suc i) k) e)
    ∙ ap (λ c. same_text (word a i) w && c) (spelled_same a b (suc i) (suc j) k ws (omega (arith, le)) (others_same (word b j) (word a i) (texts_from b (suc j) k) (texts_from a (suc i) k) e))

three_parts : (a b c : Bool) → (a && b && c) ≡ true → (a ≡ true) × (b ≡ true) × (c ≡ true)
three_parts true true true e = (refl, refl, refl)
three_parts true true false e = cc
three_parts true false c e = cc
three_parts false b c e = cc

three_both : (a b c : Bool) → a ≡ true → b ≡ true → c ≡ true → (a && b && c) ≡ true
three_both true true true x y z = refl
three_both true true false x y z = cc
three_both true false c x y z = cc
three_both false b c x y z = cc

one_spelled : (hidden : Bool) (f g : Function) → signature_alone g ≡ signature_alone f → (is_some (body_of f.tree) ≡ true → is_some (body_of g.tree) ≡ true) → Spelled hidden f → Spelled hidden g
one_spelled hidden f g e keeps h none_g = by (body_of f.tree) refl
  where
    bare : body_of f.tree ≡ None → is_read_byte hidden g.file.tokens (first g.tree) (last g.tree) ≡ true
    bare none_f =
        let i : ℕ = first f.tree in
        let k : ℕ = last f.tree - first f.tree in
        let j : ℕ = first g.tree in
        let same : alone g.file.tokens g.tree ≡ alone f.file.tokens f.tree = ap (alone g.file.tokens) (sym (bare_same g.tree none_g)) ∙ e ∙ ap (alone f.file.tokens) (bare_same f.tree none_f) in
        let texts : texts_from g.file.tokens j (last g.tree - j) ≡ texts_from f.file.tokens i k = ap (λ (a : Alone). a.texts) same in
        let wide : last g.tree - j ≡ k = sym (texts_length g.file.tokens j (last g.tree - j)) ∙ ap length texts ∙ texts_length f.file.tokens i k in
        let x = three_parts (nat_eq (last f.tree) (i + 5)) (is_spelled f.file.tokens i read_byte) (not hidden) (h none_f) in
        let ends : last f.tree ≡ i + 5 = let y : nat_eq (last f.tree) (i + 5) ≡ true = x.0 in grind (arith, nat_tests) in
        let five : last g.tree ≡ j + 5 = omega (arith, wide, ends) in
        let there : texts_from g.file.tokens j k ≡ texts_from f.file.tokens i k = ap (texts_from g.file.tokens j) (sym wide) ∙ texts in
        three_both (nat_eq (last g.tree) (j + 5)) (is_spelled g.file.tokens j read_byte) (not hidden) (let y : nat_eq (last g.tree) (j + 5) ≡ true = grind (arith, nat_tests) in y)
        (spelled_same f.file.tokens g.file.tokens i j k read_byte (let y : 5 ≤ k = omega (arith, ends) in y) there ∙ x.1) x.2

    by : (o : Option Tree) → body_of f.tree ≡ o → is_read_byte hidden g.file.tokens (first g.tree) (last g.tree) ≡ true
    by None x = bare x
    by (Some b) x = let y : is_some (body_of g.tree) ≡ true = keeps (ap is_some x) in let z : is_some (body_of g.tree) ≡ false = ap is_some none_g in absurd (true_false (is_some (body_of g.tree)) y z)

-- ---- whether the package declares a name

module _ (v : List ℕ) where
  abbrev any_told : (ℕ → List ℕ) → List Told → Bool
  any_told w [] = false
  any_told w (told_names.declares x ∷ xs) = same_text (w x.name) v || any_told w xs
  any_told w (asks x ∷ xs) = any_told w xs

  declares_append : (xs ys : List Found) → declares v (xs ++ ys) ≡ (declares v xs || declares v ys)
  declares_append [] ys = refl
  declares_append (d ∷ xs) ys = ap (λ b. (is_package d.it.block && same_text d.name v) || b) (declares_append xs ys) ∙ by (is_package d.it.block && same_text d.name v)
    where
      by : (b : Bool) → (b || (declares v xs || declares v ys)) ≡ ((b || declares v xs) || declares v ys)
      by true = refl
      by false = refl

  module _ (fs : List File) (n : ℕ) (read : IsRead (file_in fs n)) where
    abbrev f : File
    f = file_in fs n

    abbrev p : ℕ → Bool
    p = bodies fs n

    abbrev listing : List Event → List Told
    listing es = map (placed (place_at fs n)) (told p es)

    abbrev w : ℕ → List ℕ
    w = text_in_head (head_of f)

    one_declared : (d : Declaration) (es : List Event) (b : Bool) → is_package d.block ≡ b → (is_package d.block ≡ true → p d.name ≡ false) → d.name < last f.tree → declares v (found_in n f.tokens es) ≡ any_told w (listing es)
        → ((b && same_text (word f.tokens d.name) v) || declares v (found_in n f.tokens es)) ≡ any_told w (map (placed (place_at fs n)) (if b && not (p d.name) then told_names.declares (new_name d) ∷ told p es else told p es))
    one_declared d es false e g lt rest = rest
    one_declared d es true e g lt rest =
        ap (λ x. same_text x v || declares v (found_in n f.tokens es)) (sym (at_heads.text fs n read d.name lt (g e)))
        ∙ ap (λ b. same_text (w (place_at fs n d.name)) v || b) rest
        ∙ sym (ap (λ b. any_told w (map (placed (place_at fs n)) (if not b then told_names.declares (new_name d) ∷ told p es else told p es))) (g e))

    used_aside : (b : Bool) (x : Told) (xs : List Told) → ((ys : List Told) → any_told w (placed (place_at fs n) x ∷ ys) ≡ any_told w ys) → any_told w (map (placed (place_at fs n)) (if b then xs else x ∷ xs)) ≡ any_told w (map (placed (place_at fs n)) xs)
    used_aside true x xs e = refl
    used_aside false x xs e = e (map (placed (place_at fs n)) xs)

    declared_told : (es : List Event) → EachDeclared (IsHeaded (kinds f.tokens.tokens) p) es → NamesIn 0 (last f.tree) es → declares v (found_in n f.tokens es) ≡ any_told w (listing es)
    declared_told [] g h = refl
    declared_told (event.Declaration d ∷ es) g h = one_declared d es (is_package d.block) refl (λ e. (g.0 e).1) h.1 (declared_told es g.1 h.2)
    declared_told (event.Use u ∷ es) g h = declared_told es g h.2 ∙ sym (used_aside (p u.name) (asks (asked_name u)) (told p es) (λ ys. refl))
    declared_told (event.Import i ∷ es) g h = declared_told es g h
    declared_told (event.Member a c i ∷ es) g h = declared_told es g h
    declared_told (event.Bodiless i j ∷ es) g h = declared_told es g h
    declared_told (event.Statement i j ∷ es) g h = declared_told es g h
    declared_told (event.Misplaced i j ∷ es) g h = declared_told es g h
    declared_told (event.SecondDefault i ∷ es) g h = declared_told es g h

    pub file_declared : declares v (found_in n f.tokens (file_events f)) ≡ any_told w (told_outside f)
    file_declared = declared_told (file_events f) (file_headed (kinds f.tokens.tokens) f.tree read.tree) (at_heads.names_in fs n read)

  abbrev any_head : List File → Bool
  any_head [] = false
  any_head (f ∷ fs) = any_told (text_in_head (head_of f)) (told_outside f) || any_head fs

  all_declared : (fs : List File) (n : ℕ) (gs : List File) → StandFrom fs n gs → AreRead gs → declares v (found_from n (units_of gs)) ≡ any_head gs
  all_declared fs n [] s h = refl
  all_declared fs n (g ∷ gs) s h =
      let here : declares v (found_in n g.tokens (file_events g)) ≡ any_told (text_in_head (head_of g)) (told_outside g) =
      subst (λ (x : File). declares v (found_in n x.tokens (file_events x)) ≡ any_told (text_in_head (head_of x)) (told_outside x)) s.0 (file_declared fs n (subst IsRead (sym s.0) h.0)) in
      declares_append (found_in n g.tokens (file_events g)) (found_from (suc n) (units_of gs))
      ∙ ap (λ b. b || declares v (found_from (suc n) (units_of gs))) here
      ∙ ap (λ b. any_told (text_in_head (head_of g)) (told_outside g) || b) (all_declared fs (suc n) gs s.1 h.1)

  heads_same : TellTheSame → (old new : List File) → AreRead old → AreRead new → heads old ≡ heads new → any_head new ≡ any_head old
  heads_same tell [] [] h k e = refl
  heads_same tell [] (b ∷ bs) h k e = absurd (some_not_none (head_of b) (heads bs) (sym e))
  heads_same tell (a ∷ xs) [] h k e = absurd (some_not_none (head_of a) (heads xs) e)
  heads_same tell (a ∷ xs) (b ∷ bs) h k e =
      let same : head_of a ≡ head_of b = first_same (head_of a) (head_of b) (heads xs) (heads bs) e in
      ap (λ (x : Head). any_told (text_in_head x) (told_outside b) || any_head bs) (sym same)
      ∙ ap (λ ts. any_told (text_in_head (head_of a)) ts || any_head bs) (tell a b h.0 k.0 same)
      ∙ ap (λ c. any_told (text_in_head (head_of a)) (told_outside a) || c) (heads_same tell xs bs h.1 k.1 (others_same (head_of a) (head_of b) (heads xs) (heads bs) e))

  hidden_stays : TellTheSame → (old new : List File) → AreRead old → AreRead new → heads old ≡ heads new → declares v (found_from 0 (units_of new)) ≡ declares v (found_from 0 (units_of old))
  hidden_stays tell old new h k e =
      let z : (i : ℕ) → 0 + i ≡ i = λ i. omega arith in
      all_declared new 0 new (stand_from new 0 new (λ i. ap (file_in new) (z i))) k ∙ heads_same tell old new h k e ∙ sym (all_declared old 0 old (stand_from old 0 old (λ i. ap (file_in old) (z i))) h)

pub bodies_stay : TellTheSame → (v : List ℕ) (old new : List File) → AreRead old → AreRead new → heads old ≡ heads new → KeepsFunctions old new → KeepsBodies old new
    → of_files (bodiless (declares v (found_from 0 (units_of old)))) 0 (units_of old) ≡ [] → of_files (bodiless (declares v (found_from 0 (units_of new)))) 0 (units_of new) ≡ []
bodies_stay tell v old new h k e keeps bodied f =
    let hidden : Bool = declares v (found_from 0 (units_of old)) in
    let spelled : AllByRecursion (Spelled hidden) (all_functions old) = all_to hidden 0 old h f in
    ap (λ b. of_files (bodiless b) 0 (units_of new)) (hidden_stays v tell old new h k e)
    ∙ all_from hidden 0 new k
    (each_from (Spelled hidden) (all_functions new)
    (λ n g s.
    let x = there_too (all_functions old) (all_functions new) keeps.count n g s in
    one_spelled hidden x.0 g (keeps.signatures n x.0 g x.1 s) (bodied.bodies n x.0 g x.1 s) (each_at (Spelled hidden) (all_functions old) spelled n x.0 x.1)))
