-- The specifications of a file: their names are what the file declares in the package block, and the names in them stand as they may.
use Rattle.std.proofs.Common.{◌≡◌, ◌∙◌, ℕ, suc, ◌<◌, ◌≤◌, Bool, true, false, List, [], ◌∷◌, ◌++◌, Option, Some, None, refl, sym, ap, subst, arith, append-nil}
use Rattle.std.specs.Prelude.{if◌then◌else◌, nat_lt, ◌&&◌}
use Rattle.std.specs.List.{AllByRecursion}
use Rattle.std.proofs.lemmas.Bool.{lt-ltb, lt-leb}
use Rattle.go_tokens.specs.Tokens.{TokenList}
use Rattle.go_tokens.specs.declared.token.TokenKind.{TokenKind}
use Rattle.go_tokens.specs.declared.token.TokenKind.TheVariants as token
use Rattle.go_grammar.specs.declared.kind.Kind.{Kind}
use Rattle.go_grammar.specs.declared.kind.Kind.TheVariants as kind
use Rattle.go_grammar.specs.declared.kind.Sort.{Sort}
use Rattle.go_grammar.specs.declared.kind.Sort.TheVariants as declaring
use Rattle.go_grammar.specs.declared.kind.Category.{Category}
use Rattle.go_grammar.specs.declared.kind.Category.TheVariants as category
use Rattle.go_grammar.specs.declared.kind.Level.TheVariants as level
use Rattle.go_grammar.specs.declared.kind.Place.TheVariants as place
use Rattle.go_grammar.specs.Categories as categories
use Rattle.go_grammar.specs.Categories.{is_sort}
use Rattle.go_grammar.specs.Rules.{Items, Again, Each, Lines, Many, item}
use Rattle.go_grammar.specs.Trees.{Tree, node, Trees, none, more, skip, kind_of, first, last, parts}
use Rattle.go_grammar.specs.Grammar.{IsFile, rule, any, Derives, Spells, Goes, is_name, ends_named}
use Rattle.go_tree.specs.Views.{part_at}
use Rattle.go_tree.specs.declared.context.Block.TheVariants as block
use Rattle.go_tree.specs.declared.context.Context.{Context}
use Rattle.go_tree.specs.declared.context.Entity.{Entity}
use Rattle.go_tree.specs.declared.context.Entity.TheVariants as entity
use Rattle.go_tree.specs.declared.context.Naming.{Naming}
use Rattle.go_tree.specs.declared.context.Role.{Role}
use Rattle.go_tree.specs.declared.context.Role.TheVariants as role
use Rattle.go_tree.specs.declared.event.Event.{Event}
use Rattle.go_tree.specs.declared.object.Object.{Object}
use Rattle.go_tree.specs.Contexts.{is_package, is_there, specified, enter, file_context}
use Rattle.go_tree.specs.Events.{own_events, name_events, function_events, is_more, pass, begin, events, events_of}
use Rattle.go_tree.specs.Meanings.{Meaning}
use Rattle.go_scopes_events.specs.Orders.{EachDeclared}
use Rattle.go_scopes_events.proofs.Public.{IsLaidOut, LieIn, derives_laid, AreLayered, derives_layered, Function, IsPlain, ArePlain, each_append, AreInner, spells_inner, function_rule, true_false, lie_order}
use Rattle.go_heads.specs.Heads.{body_of, is_within}
use Rattle.go_heads.proofs.Public.{Sits, AllSit, OthersSit}
use Rattle.go_exprs_rules.specs.Scopes.{Scope, Hint, type_place, free}
use Rattle.go_package_defs.specs.Declarations.{Specification, trees_of, first_tokens, name_tokens, listed_values, type_behind, values_behind, specification_of, source_behind, grouped, declared, function, declaration, declarations, in_file}
use Rattle.go_package_defs.specs.Verdicts.{type_hint}
use Rattle.go_stmts_final_types.specs.Names.{alone}
use Rattle.go_stmts_final_types.specs.Placed.{ExpressionIsPlaced}
use Rattle.go_package_checked.specs.Names.{MaybeStands, AllStand}
use Rattle.go_package_placed.proofs.Found.{all_append}
use Rattle.go_package_placed.proofs.Hints.{is_told, Reads, Agrees, agrees_at, plain_fits}
use Rattle.go_package_placed.proofs.Placing.{Means, AreTold, parts_told, first_told, rest_told, tree_placed}
use Rattle.go_package_placed.proofs.Shared.{shared, named, all_named, shared_append, shared_both, node_shared, none_shared, IsLocal, plain_local, opened_local}
use Rattle.go_package_placed.proofs.Tidy.{part_within, other_stands, expression_is_tidy, type_is_tidy, signature_is_tidy}

-- it stands in the file n, and declares no parameter
abbrev pub is_parameter_entity : Entity → Bool
is_parameter_entity entity.Parameter = true
is_parameter_entity e = false

abbrev pub IsOf : ℕ → Specification → Type 0
IsOf n x = (x.file ≡ n) × (is_parameter_entity x.entity ≡ false)

module _ (o : ℕ → Option Object) (count : ℕ) where
  -- The names in the type and the values of a specification stand as they may, whatever is known of what they mean.
  pub record SpecificationPlaced (d : Specification) : Type 0 where
    pub of : (s : Scope) → ((i : ℕ) → s.objects i ≡ o i) → MaybeStands count s (type_hint d.entity) d.type_tree
    pub values : (s : Scope) (h : Hint) → is_told h ≡ true → ((i : ℕ) → s.objects i ≡ o i) → AllStand count s h d.values

  -- what stands behind the names of a specification
  record RestPlaced (r : Option Tree) : Type 0 where
    of : (s : Scope) → ((i : ℕ) → s.objects i ≡ o i) → MaybeStands count s type_place (type_behind r)
    values : (s : Scope) (h : Hint) → is_told h ≡ true → ((i : ℕ) → s.objects i ≡ o i) → AllStand count s h (values_behind r)

  -- What a part of the file n tells: its specifications.
  pub record Specifies (n : ℕ) (es : List Event) (xs : List Specification) : Type 0 where
    pub names : shared es ≡ all_named xs
    pub placed : AllByRecursion SpecificationPlaced xs
    pub files : AllByRecursion (IsOf n) xs

  specifies_both : (n : ℕ) (es fs : List Event) (xs ys : List Specification) → Specifies n es xs → Specifies n fs ys → Specifies n (es ++ fs) (xs ++ ys)
  specifies_both n es fs xs ys a b = record {
    names = shared_both es fs xs ys a.names b.names;
    placed = all_append SpecificationPlaced xs ys a.placed b.placed;
    files = all_append (IsOf n) xs ys a.files b.files;
  }

  specifies_none : (n : ℕ) (es : List Event) → shared es ≡ [] → Specifies n es []
  specifies_none n es e = record { names = e; placed = tt; files = tt }

  specifies_one : (n : ℕ) (es : List Event) (x : Specification) → shared es ≡ named x.entity x.names → SpecificationPlaced x → IsOf n x → Specifies n es (x ∷ [])
  specifies_one n es x e f g = record { names = e ∙ sym (append-nil (named x.entity x.names)); placed = (f, tt); files = (g, tt) }

same_sort : (s t : Sort) → is_sort s t ≡ true → t ≡ s
same_sort declaring.Constant declaring.Constant e = refl
same_sort declaring.Type declaring.Type e = refl
same_sort declaring.Variable declaring.Variable e = refl
same_sort s t e = absurd cc

module _ (kts : List TokenKind) where
  abbrev AllDerived : Category → Trees → Type 0
  AllDerived c none = Unit {0}
  AllDerived c (more p ps) = Derives kts c p × AllDerived c ps
  AllDerived c (skip ps) = ⊥

  goes_derived : (l : Items) (ps : Trees) (i j : ℕ) → Goes kts l i ps j → AllDerived (item l) ps
  goes_derived l none i j h = tt
  goes_derived l (more p ps) i j h = (h.3, goes_derived l ps (last p) j h.4)
  goes_derived l (skip ps) i j h = absurd h

  many_derived : (ws : List TokenKind) (l : Items) (ps : Trees) (i j : ℕ) → Spells kts (Many ws l) i ps j → AllDerived (item l) ps
  many_derived ws l none i j h = tt
  many_derived ws l (more p ps) i j h = (h.3, goes_derived l ps (last p) j h.4)
  many_derived ws l (skip ps) i j h = absurd h

  -- ---- names

  some_shared : (c : Context) (d : Naming) (i : ℕ) (r : Role) → r ≡ role.New d → c.block ≡ block.Package → shared (name_events c i r) ≡ (i, d.entity) ∷ []
  some_shared c d i r e b = ap (λ (x : Role). shared (name_events c i x)) e ∙ ap (λ x. if is_package x then (i, d.entity) ∷ [] else []) b

  name_shared : (c : Context) (d : Naming) (p : Tree) → Derives kts category.DeclaredName p → c.role ≡ role.New d → c.block ≡ block.Package → shared (events c p) ≡ (first p, d.entity) ∷ []
  name_shared c d (node kind.DeclaredName i j none) h r b =
      node_shared c kind.DeclaredName i j none ∙ append-nil (shared (name_events c i c.role)) ∙ some_shared c d i c.role r b
  name_shared c d (node kind.DeclaredName i j (more q qs)) h r b = absurd h.1
  name_shared c d (node kind.DeclaredName i j (skip qs)) h r b = absurd h.1
  name_shared c d (node k i j ps) h r b = absurd (true_false false h.0 refl)

  names_shared : (c : Context) (d : Naming) (i j : ℕ) (all : Trees) (m : ℕ) (ps : Trees) → AllDerived category.DeclaredName ps → c.role ≡ role.New d → c.block ≡ block.Package
      → shared (events_of c kind.NameList i j all m ps) ≡ named d.entity (first_tokens ps)
  names_shared c d i j all m none h r b = refl
  names_shared c d i j all m (more p ps) h r b =
      let own : List Event = events (enter c kind.NameList i j all (ends_named all) m p (is_more ps)) p in
      let rest : List Event = events_of (pass c p) kind.NameList i j all (suc m) ps in
      shared_append own rest ∙ ap (λ xs. xs ++ shared rest) (name_shared (enter c kind.NameList i j all (ends_named all) m p (is_more ps)) d p h.0 r b)
      ∙ ap (λ xs. (first p, d.entity) ∷ xs) (names_shared (pass c p) d i j all (suc m) ps h.1 r b)
  names_shared c d i j all m (skip ps) h r b = absurd h

  list_shared : (c : Context) (d : Naming) (u : Tree) → Derives kts category.NameList u → c.role ≡ role.New d → c.block ≡ block.Package → shared (events c u) ≡ named d.entity (first_tokens (parts u))
  list_shared c d (node kind.NameList i j none) h r b = absurd h.1
  list_shared c d (node kind.NameList i j (skip ps)) h r b = absurd h.1
  list_shared c d (node kind.NameList i j (more p ps)) h r b =
      node_shared c kind.NameList i j (more p ps) ∙ names_shared (begin c kind.NameList) d i j (more p ps) 0 (more p ps) (h.1.1, many_derived [] (Again category.DeclaredName token.Comma) ps (last p) j h.1.2) r b
  list_shared c d (node k i j ps) h r b = absurd (true_false false h.0 refl)

  tokens_of : (u : Tree) (ps : Trees) → name_tokens (more u ps) ≡ first_tokens (parts u)
  tokens_of (node k i j ns) ps = refl

  -- ---- imports

  path_plain : (p : Tree) → Derives kts category.ImportPath p → IsPlain p
  path_plain (node kind.ImportPath i j none) h = (refl, tt)
  path_plain (node kind.ImportPath i j (more q qs)) h = absurd h.1
  path_plain (node kind.ImportPath i j (skip qs)) h = absurd h.1
  path_plain (node k i j ps) h = absurd (true_false false h.0 refl)

  paths_plain : (ps : Trees) (i j : ℕ) → Goes kts (Lines false category.ImportPath token.Semicolon token.RightParenthesis) i ps j → ArePlain ps
  paths_plain none i j h = tt
  paths_plain (more p ps) i j h = (path_plain p h.3, paths_plain ps (last p) j h.4)
  paths_plain (skip ps) i j h = absurd h

  group_plain : (ps : Trees) (i j : ℕ) → Spells kts (Many (token.LeftParenthesis ∷ []) (Lines false category.ImportPath token.Semicolon token.RightParenthesis)) i ps j → ArePlain ps
  group_plain none i j h = tt
  group_plain (more p ps) i j h = (path_plain p h.3, paths_plain ps (last p) j h.4)
  group_plain (skip ps) i j h = absurd h

  import_body_plain : (p : Tree) → Derives kts category.ImportBody p → IsPlain p
  import_body_plain (node kind.ImportPath i j none) h = (refl, tt)
  import_body_plain (node kind.ImportPath i j (more q qs)) h = absurd h.1
  import_body_plain (node kind.ImportPath i j (skip qs)) h = absurd h.1
  import_body_plain (node kind.ImportGroup i j ps) h = (refl, group_plain ps i j h.1)
  import_body_plain (node k i j ps) h = absurd (true_false false h.0 refl)

  import_plain : (p : Tree) → Derives kts category.Import p → IsPlain p
  import_plain (node kind.Import i j none) h = absurd h.1
  import_plain (node kind.Import i j (skip ps)) h = absurd h.1
  import_plain (node kind.Import i j (more p none)) h = (refl, (import_body_plain p h.1.1, tt))
  import_plain (node kind.Import i j (more p (more q ps))) h = absurd h.1.2
  import_plain (node kind.Import i j (more p (skip ps))) h = absurd h.1.2
  import_plain (node k i j ps) h = absurd (true_false false h.0 refl)

  more_imports : (ps : Trees) (i j : ℕ) → Goes kts (Each category.Import (token.Semicolon ∷ []) []) i ps j → ArePlain ps
  more_imports none i j h = tt
  more_imports (more p ps) i j h = (import_plain p h.3, more_imports ps (last p) j h.4)
  more_imports (skip ps) i j h = absurd h

  further_imports : (ps : Trees) (i j : ℕ) → Spells kts (Many (token.Semicolon ∷ []) (Each category.Import (token.Semicolon ∷ []) [])) i ps j → ArePlain ps
  further_imports none i j h = tt
  further_imports (more p ps) i j h = (import_plain p h.3, more_imports ps (last p) j h.4)
  further_imports (skip ps) i j h = absurd h

  imports_plain : (p : Tree) → Derives kts category.Imports p → IsPlain p
  imports_plain (node kind.Imports i j none) h = absurd h.1
  imports_plain (node kind.Imports i j (skip ps)) h = absurd h.1
  imports_plain (node kind.Imports i j (more p ps)) h = (refl, (import_plain p h.1.1, further_imports ps (last p) j h.1.2))
  imports_plain (node k i j ps) h = absurd (true_false false h.0 refl)

  module _ (ms : List Meaning) (n : ℕ) (ts : TokenList) (o : ℕ → Option Object) (p : ℕ → Bool) (count : ℕ) (means : Means ms n ts o p count) where
    abbrev Anywhere : List Event → ℕ → ℕ → Type 0
    Anywhere es lo hi = AreTold ms n ts o (λ i. false) count es lo hi

    abbrev Outside : List Event → ℕ → ℕ → Type 0
    Outside es lo hi = AreTold ms n ts o p count es lo hi

    abbrev Sees : Scope → Type 0
    Sees s = (i : ℕ) → s.objects i ≡ o i

    abbrev IsClear : ℕ → ℕ → Type 0
    IsClear lo hi = (i : ℕ) → lo ≤ i → i < hi → p i ≡ false

    outside : (es : List Event) (lo hi : ℕ) → Anywhere es lo hi → IsClear lo hi → Outside es lo hi
    outside es lo hi a f = record { says = a.says; chosen = a.chosen; own = a.own; clear = f }

    -- a tree, and what it tells outside of bodies
    record Lies (c : Context) (t : Tree) : Type 0 where
      laid : IsLaidOut t
      told : Outside (events c t) (first t) (last t)

    lies_first : (c : Context) (k : Kind) (i j : ℕ) (all : Trees) (m : ℕ) (q : Tree) (qs : Trees) (lo : ℕ) → LieIn lo j (more q qs) → Outside (events_of c k i j all m (more q qs)) lo j
        → Lies (enter c k i j all (ends_named all) m q (is_more qs)) q
    lies_first c k i j all m q qs lo l t = record { laid = l.1; told = first_told ms n ts o p count c k i j all m q qs lo l t }

    lies_rest : (c : Context) (k : Kind) (i j : ℕ) (all : Trees) (m : ℕ) (q : Tree) (qs : Trees) (lo : ℕ) → LieIn lo j (more q qs) → Outside (events_of c k i j all m (more q qs)) lo j
        → Outside (events_of (pass c q) k i j all (suc m) qs) (last q) j
    lies_rest c k i j all m q qs lo l t = rest_told ms n ts o p count c k i j all m q qs lo l t

    -- ---- types and values

    type_placed : (c : Context) (t : Tree) → Derives kts category.Type t → c.role ≡ role.Operand → Lies c t → (s : Scope) → Sees s → ExpressionIsPlaced count [] alone s type_place t
    type_placed c t h r w s e =
        tree_placed ms n ts o p count means s alone type_place c t e (type_is_tidy kts t h)
        (plain_fits type_place c.role (kind_of t) c.group refl (subst Reads (sym r) tt) (other_stands category.Type (kind_of t) refl (part_within kts category.Type t h)))
        (agrees_at (kind_of t) alone c.role (subst (Agrees alone) (sym r) tt)) w.laid w.told

    value_placed : (c : Context) (t : Tree) → Derives kts (any place.Free) t → c.role ≡ role.Operand → Lies c t → (s : Scope) (h : Hint) → is_told h ≡ true → Sees s → ExpressionIsPlaced count [] alone s h t
    value_placed c t d r w s h told e =
        tree_placed ms n ts o p count means s alone h c t e (expression_is_tidy kts level.Either place.Free t d)
        (plain_fits h c.role (kind_of t) c.group told (subst Reads (sym r) tt) (other_stands (any place.Free) (kind_of t) refl (part_within kts (any place.Free) t d)))
        (agrees_at (kind_of t) alone c.role (subst (Agrees alone) (sym r) tt)) w.laid w.told

    operand_name : (b : Bool) (x : Role) → x ≡ role.Operand → (if b then x else role.Operand) ≡ role.Operand
    operand_name true x e = e
    operand_name false x e = refl

    values_placed : (c : Context) (i j : ℕ) (all : Trees) (m : ℕ) (qs : Trees) (lo : ℕ) → AllDerived (any place.Free) qs → c.role ≡ role.Operand → LieIn lo j qs → Outside (events_of c kind.ExpressionList i j all m qs) lo j
        → (s : Scope) (h : Hint) → is_told h ≡ true → Sees s → AllStand count s h (trees_of qs)
    values_placed c i j all m none lo d r l t s h told e = tt
    values_placed c i j all m (skip qs) lo d r l t s h told e = absurd d
    values_placed c i j all m (more q qs) lo d r l t s h told e = (
      value_placed (enter c kind.ExpressionList i j all (ends_named all) m q (is_more qs)) q d.0 (operand_name (is_name (kind_of q)) c.role r) (lies_first c kind.ExpressionList i j all m q qs lo l t) s h told e,
      values_placed (pass c q) i j all (suc m) qs (last q) d.1 r l.2 (lies_rest c kind.ExpressionList i j all m q qs lo l t) s h told e,
    )

    list_placed : (c : Context) (t : Tree) (ps : Trees) → Derives kts (category.ExpressionList place.Free) t → c.role ≡ role.Operand → Lies c t → (s : Scope) (h : Hint) → is_told h ≡ true → Sees s
        → AllStand count s h (listed_values (more t ps))
    list_placed c (node kind.ExpressionList i j none) ps d r w s h told e = absurd d.1
    list_placed c (node kind.ExpressionList i j (skip vs)) ps d r w s h told e = absurd d.1
    list_placed c (node kind.ExpressionList i j (more v vs)) ps d r w s h told e =
        let all : Trees = more v vs in
        let each : AllDerived (any place.Free) all = (d.1.1, many_derived [] (Again (any place.Free) token.Comma) vs (last v) j d.1.2) in
        values_placed (begin c kind.ExpressionList) i j all 0 all i each r w.laid.1 (parts_told ms n ts o p count c kind.ExpressionList i j all refl (omega arith) w.told) s h told e
    list_placed c (node k i j vs) ps d r w s h told e = absurd (true_false false d.0 refl)

    -- ---- what stands behind the names

    abbrev Rest : Option Tree → Type 0
    Rest r = RestPlaced o count r

    type_rest : (c : Context) (q : Tree) → type_behind (Some q) ≡ Some q → values_behind (Some q) ≡ [] → Derives kts category.Type q → c.role ≡ role.Operand → Lies c q → Rest (Some q)
    type_rest c q e v h r w = record {
      of = λ s f. subst (MaybeStands count s type_place) (sym e) (type_placed c q h r w s f);
      values = λ s g told f. subst (AllStand count s g) (sym v) tt;
    }

    values_rest : (c : Context) (i j : ℕ) (ps : Trees) → Spells kts (rule place.Free kind.Values) i ps j → Lies c (node kind.Values i j ps) → Rest (Some (node kind.Values i j ps))
    values_rest c i j none h w = absurd h
    values_rest c i j (skip ps) h w = absurd h
    values_rest c i j (more l (more q ps)) h w = absurd h.2
    values_rest c i j (more l (skip ps)) h w = absurd h.2
    values_rest c i j (more l none) h w =
        let all : Trees = more l none in
        let f : Context = begin c kind.Values in
        let a = parts_told ms n ts o p count c kind.Values i j all refl (omega arith) w.told in
        record {
          of = λ s e. tt;
          values = λ s g told e.
              list_placed (enter f kind.Values i j all (ends_named all) 0 l false) l none h.1 refl (lies_first f kind.Values i j all 0 l none i w.laid.1 a) s g told e;
        }

    typed_rest : (c : Context) (i j : ℕ) (ps : Trees) → Spells kts (rule place.Free kind.TypedValues) i ps j → Lies c (node kind.TypedValues i j ps) → Rest (Some (node kind.TypedValues i j ps))
    typed_rest c i j none h w = absurd h
    typed_rest c i j (skip ps) h w = absurd h
    typed_rest c i j (more t none) h w = absurd h.2
    typed_rest c i j (more t (skip ps)) h w = absurd h.2
    typed_rest c i j (more t (more l (more q ps))) h w = absurd h.2.2
    typed_rest c i j (more t (more l (skip ps))) h w = absurd h.2.2
    typed_rest c i j (more t (more l none)) h w =
        let all : Trees = more t (more l none) in
        let f : Context = begin c kind.TypedValues in
        let a = parts_told ms n ts o p count c kind.TypedValues i j all refl (omega arith) w.told in
        record {
          of = λ s e. type_placed (enter f kind.TypedValues i j all (ends_named all) 0 t true) t h.1 refl (lies_first f kind.TypedValues i j all 0 t (more l none) i w.laid.1 a) s e;
          values = λ s g told e.
              list_placed (enter (pass f t) kind.TypedValues i j all (ends_named all) 1 l false) l none h.2.1 refl
              (lies_first (pass f t) kind.TypedValues i j all 1 l none (last t) w.laid.1.2 (lies_rest f kind.TypedValues i j all 0 t (more l none) i w.laid.1 a)) s g told e;
        }

    constant_rest : (c : Context) (q : Tree) → Derives kts category.ConstantRest q → Lies c q → Rest (Some q)
    constant_rest c (node kind.Values i j ps) h w = values_rest c i j ps h.1 w
    constant_rest c (node kind.TypedValues i j ps) h w = typed_rest c i j ps h.1 w
    constant_rest c (node k i j ps) h w = absurd (true_false false h.0 refl)

    variable_rest : (c : Context) (q : Tree) → Derives kts category.VariableRest q → c.role ≡ role.Operand → Lies c q → Rest (Some q)
    variable_rest c (node kind.Values i j ps) h r w = values_rest c i j ps h.1 w
    variable_rest c (node kind.TypedValues i j ps) h r w = typed_rest c i j ps h.1 w
    variable_rest c (node kind.Name i j ps) h r w = type_rest c (node kind.Name i j ps) refl refl h r w
    variable_rest c (node kind.ParenthesizedType i j ps) h r w = type_rest c (node kind.ParenthesizedType i j ps) refl refl h r w
    variable_rest c (node kind.SequenceType i j ps) h r w = type_rest c (node kind.SequenceType i j ps) refl refl h r w
    variable_rest c (node kind.FunctionType i j ps) h r w = type_rest c (node kind.FunctionType i j ps) refl refl h r w
    variable_rest c (node kind.StructType i j ps) h r w = type_rest c (node kind.StructType i j ps) refl refl h r w
    variable_rest c (node k i j ps) h r w = absurd (true_false false h.0 refl)

    nothing_behind : Rest None
    nothing_behind = record { of = λ s e. tt; values = λ s h told e. tt }

    -- ---- one specification

    record Step (s : Sort) (k : ℕ) (old : Option Tree) (es : List Event) (t : Tree) : Type 0 where
      one : Specifies o count n es (specification_of n s k old t ∷ [])
      next : Rest (source_behind old t)

    -- the names, and what declares none
    front_shared : (s : Sort) (c : Context) (d : Naming) (i j : ℕ) (u : Tree) (ps : Trees) → (own_events c (kind.Specification s) i j (more u ps) ≡ []) → Derives kts category.NameList u
        → (enter (begin c (kind.Specification s)) (kind.Specification s) i j (more u ps) (ends_named (more u ps)) 0 u (is_more ps)).role ≡ role.New d
        → (enter (begin c (kind.Specification s)) (kind.Specification s) i j (more u ps) (ends_named (more u ps)) 0 u (is_more ps)).block ≡ block.Package
        → shared (events_of (pass (begin c (kind.Specification s)) u) (kind.Specification s) i j (more u ps) 1 ps) ≡ []
        → shared (events c (node (kind.Specification s) i j (more u ps))) ≡ named d.entity (name_tokens (more u ps))
    front_shared s c d i j u ps own h r b q =
        let k : Kind = kind.Specification s in
        let f : Context = begin c k in
        let names : List Event = events (enter f k i j (more u ps) (ends_named (more u ps)) 0 u (is_more ps)) u in
        let rest : List Event = events_of (pass f u) k i j (more u ps) 1 ps in
        node_shared c k i j (more u ps) ∙ ap (λ es. shared es ++ shared (names ++ rest)) own ∙ shared_append names rest
        ∙ ap (λ xs. shared names ++ xs) q ∙ append-nil (shared names) ∙ list_shared (enter f k i j (more u ps) (ends_named (more u ps)) 0 u (is_more ps)) d u h r b
        ∙ ap (named d.entity) (sym (tokens_of u ps))

    constant_step : (c : Context) (k : ℕ) (old : Option Tree) (i j : ℕ) (ps : Trees) → Derives kts (category.Specification declaring.Constant) (node (kind.Specification declaring.Constant) i j ps) → c.block ≡ block.Package → Rest old
        → Lies c (node (kind.Specification declaring.Constant) i j ps) → Step declaring.Constant k old (events c (node (kind.Specification declaring.Constant) i j ps)) (node (kind.Specification declaring.Constant) i j ps)
    constant_step c k old i j none h b g w = absurd h.1
    constant_step c k old i j (skip ps) h b g w = absurd h.1
    constant_step c k old i j (more u none) h b g w = absurd h.1.2
    constant_step c k old i j (more u (skip (more q us))) h b g w = absurd h.1.2.2
    constant_step c k old i j (more u (skip (skip us))) h b g w = absurd h.1.2.2
    constant_step c k old i j (more u (more q (more v us))) h b g w = absurd h.1.2.2
    constant_step c k old i j (more u (more q (skip us))) h b g w = absurd h.1.2.2
    constant_step c k old i j (more u (skip none)) h b g w =
        let t : Tree = node (kind.Specification declaring.Constant) i j (more u (skip none)) in
        record {
          one = specifies_one o count n (events c t) (specification_of n declaring.Constant k old t)
              (front_shared declaring.Constant c (specified (begin c (kind.Specification declaring.Constant)) declaring.Constant i j) i j u (skip none) refl h.1.1 refl b refl)
              (record { of = g.of; values = g.values }) (refl, refl);
          next = g;
        }
    constant_step c k old i j (more u (more q none)) h b g w =
        let s : Kind = kind.Specification declaring.Constant in
        let all : Trees = more u (more q none) in
        let t : Tree = node s i j all in
        let f : Context = begin c s in
        let a = parts_told ms n ts o p count c s i j all refl (omega arith) w.told in
        let inner : Context = enter (pass f u) s i j all (ends_named all) 1 q false in
        let rest : Rest (Some q) = constant_rest inner q h.1.2.1 (lies_first (pass f u) s i j all 1 q none (last u) w.laid.1.2 (lies_rest f s i j all 0 u (more q none) i w.laid.1 a)) in
        let plain : IsPlain q = (derives_layered kts t (category.Specification declaring.Constant) h).1.0 in
        record {
          one = specifies_one o count n (events c t) (specification_of n declaring.Constant k old t)
              (front_shared declaring.Constant c (specified f declaring.Constant i j) i j u (more q none) refl h.1.1 refl b
              (shared_append (events inner q) [] ∙ append-nil (shared (events inner q)) ∙ none_shared (events inner q) (plain_local inner q plain tt)))
              (record { of = rest.of; values = rest.values }) (refl, refl);
          next = rest;
        }

    variable_step : (c : Context) (k : ℕ) (old : Option Tree) (i j : ℕ) (ps : Trees) → Derives kts (category.Specification declaring.Variable) (node (kind.Specification declaring.Variable) i j ps) → c.block ≡ block.Package
        → Lies c (node (kind.Specification declaring.Variable) i j ps) → Step declaring.Variable k old (events c (node (kind.Specification declaring.Variable) i j ps)) (node (kind.Specification declaring.Variable) i j ps)
    variable_step c k old i j none h b w = absurd h.1
    variable_step c k old i j (skip ps) h b w = absurd h.1
    variable_step c k old i j (more u none) h b w = absurd h.1.2
    variable_step c k old i j (more u (skip us)) h b w = absurd h.1.2
    variable_step c k old i j (more u (more q (more v us))) h b w = absurd h.1.2.2
    variable_step c k old i j (more u (more q (skip us))) h b w = absurd h.1.2.2
    variable_step c k old i j (more u (more q none)) h b w =
        let s : Kind = kind.Specification declaring.Variable in
        let all : Trees = more u (more q none) in
        let t : Tree = node s i j all in
        let f : Context = begin c s in
        let a = parts_told ms n ts o p count c s i j all refl (omega arith) w.told in
        let inner : Context = enter (pass f u) s i j all (ends_named all) 1 q false in
        let rest : Rest (Some q) = variable_rest inner q h.1.2.1 refl (lies_first (pass f u) s i j all 1 q none (last u) w.laid.1.2 (lies_rest f s i j all 0 u (more q none) i w.laid.1 a)) in
        let plain : IsPlain q = (derives_layered kts t (category.Specification declaring.Variable) h).1.0 in
        record {
          one = specifies_one o count n (events c t) (specification_of n declaring.Variable k old t)
              (front_shared declaring.Variable c (specified f declaring.Variable i j) i j u (more q none) refl h.1.1 refl b
              (shared_append (events inner q) [] ∙ append-nil (shared (events inner q)) ∙ none_shared (events inner q) (plain_local inner q plain tt)))
              (record { of = rest.of; values = rest.values }) (refl, refl);
          next = rest;
        }

    type_step : (c : Context) (k : ℕ) (old : Option Tree) (i j : ℕ) (ps : Trees) → Derives kts (category.Specification declaring.Type) (node (kind.Specification declaring.Type) i j ps) → c.block ≡ block.Package → Rest old
        → Lies c (node (kind.Specification declaring.Type) i j ps) → Step declaring.Type k old (events c (node (kind.Specification declaring.Type) i j ps)) (node (kind.Specification declaring.Type) i j ps)
    type_step c k old i j none h b g w = absurd h.1
    type_step c k old i j (skip ps) h b g w = absurd h.1
    type_step c k old i j (more u (more q us)) h b g w = absurd h.1.2
    type_step c k old i j (more u (skip us)) h b g w = absurd h.1.2
    type_step c k old i j (more u none) h b g w =
        let s : Kind = kind.Specification declaring.Type in
        let all : Trees = more u none in
        let t : Tree = node s i j all in
        let f : Context = begin c s in
        let a = parts_told ms n ts o p count c s i j all refl (omega arith) w.told in
        let inner : Context = enter f s i j all (ends_named all) 0 u false in
        let there : Lies inner u = lies_first f s i j all 0 u none (suc i) w.laid.1 a in
        let plain : IsPlain u = (derives_layered kts t (category.Specification declaring.Type) h).0 in
        let rest : shared (events inner u ++ []) ≡ [] = shared_append (events inner u) [] ∙ append-nil (shared (events inner u)) ∙ none_shared (events inner u) (plain_local inner u plain tt) in
        record {
          one = specifies_one o count n (events c t) (specification_of n declaring.Type k old t)
              (node_shared c s i j all ∙ ap (λ xs. (if is_package c.block then (i, entity.Type) ∷ [] else []) ++ xs) rest
              ∙ ap (λ x. (if is_package x then (i, entity.Type) ∷ [] else []) ++ []) b)
              (record { of = λ z e. type_placed inner u h.1.1 refl there z e; values = λ z hint told e. tt }) (refl, refl);
          next = g;
        }

    spec_step : (s : Sort) (c : Context) (k : ℕ) (old : Option Tree) (t : Tree) → Derives kts (category.Specification s) t → c.block ≡ block.Package → Rest old → Lies c t → Step s k old (events c t) t
    spec_step declaring.Constant c k old (node (kind.Specification declaring.Constant) i j ps) h b g w = constant_step c k old i j ps h b g w
    spec_step declaring.Variable c k old (node (kind.Specification declaring.Variable) i j ps) h b g w = variable_step c k old i j ps h b w
    spec_step declaring.Type c k old (node (kind.Specification declaring.Type) i j ps) h b g w = type_step c k old i j ps h b g w
    spec_step s c k old (node l i j ps) h b g w = absurd (true_false false h.0 refl)

    -- ---- groups

    group_specifies : (s : Sort) (c : Context) (g : Sort) (i j : ℕ) (all : Trees) (m k : ℕ) (old : Option Tree) (ps : Trees) (lo : ℕ) → AllDerived (category.Specification s) ps → c.block ≡ block.Package → Rest old → LieIn lo j ps
        → Outside (events_of c (kind.Group g) i j all m ps) lo j → Specifies o count n (events_of c (kind.Group g) i j all m ps) (grouped n s k old ps)
    group_specifies s c g i j all m k old none lo h b r l t = specifies_none o count n [] refl
    group_specifies s c g i j all m k old (skip ps) lo h b r l t = absurd h
    group_specifies s c g i j all m k old (more q ps) lo h b r l t =
        let inner : Context = enter c (kind.Group g) i j all (ends_named all) m q (is_more ps) in
        let step : Step s k old (events inner q) q = spec_step s inner k old q h.0 b r (lies_first c (kind.Group g) i j all m q ps lo l t) in
        specifies_both o count n (events inner q) (events_of (pass c q) (kind.Group g) i j all (suc m) ps) (specification_of n s k old q ∷ []) (grouped n s (suc k) (source_behind old q) ps)
        step.one (group_specifies s (pass c q) g i j all (suc m) (suc k) (source_behind old q) ps (last q) h.1 b step.next l.2 (lies_rest c (kind.Group g) i j all m q ps lo l t))

    -- the body of a declaration
    body_specifies : (s : Sort) (c : Context) (t : Tree) → Derives kts (category.DeclarationBody s) t → c.block ≡ block.Package → Lies c t → Specifies o count n (events c t) (declared n s (more t none))
    body_specifies s c (node (kind.Specification g) i j ps) h b w =
        (spec_step s c 0 None (node (kind.Specification g) i j ps) (h.0, h.1, h.2, refl) b nothing_behind w).one
    body_specifies s c (node (kind.Group g) i j ps) h b w =
        let same : g ≡ s = same_sort s g h.0 in
        let each : AllDerived (category.Specification s) ps = subst (λ z. AllDerived (category.Specification z) ps) same (many_derived _ _ ps i j h.1) in
        let inside = group_specifies s (begin c (kind.Group g)) g i j ps 0 0 None ps i each b nothing_behind w.laid.1 (parts_told ms n ts o p count c (kind.Group g) i j ps refl (omega arith) w.told) in
        record { names = node_shared c (kind.Group g) i j ps ∙ inside.names; placed = inside.placed; files = inside.files }
    body_specifies s c (node k i j ps) h b w = absurd (true_false false h.0 refl)

    -- ---- functions

    signature_placed : (c : Context) (t : Tree) → Derives kts category.Signature t → c.role ≡ role.Operand → Lies c t → (s : Scope) → Sees s → ExpressionIsPlaced count [] alone s free t
    signature_placed c (node kind.Signature i j ps) h r w s e =
        tree_placed ms n ts o p count means s alone free c (node kind.Signature i j ps) e (signature_is_tidy kts (node kind.Signature i j ps) h) tt (subst (Agrees alone) (sym r) tt) w.laid w.told
    signature_placed c (node k i j ps) h r w s e = absurd (true_false false h.0 refl)

    bodies_local : (c : Context) (i j : ℕ) (all : Trees) (m : ℕ) (qs : Trees) → AreLayered Function (skip qs) → AreInner qs → EachDeclared IsLocal (events_of c kind.FunctionDeclaration i j all m qs)
    bodies_local c i j all m none h g = tt
    bodies_local c i j all m (skip qs) h g = bodies_local c i j all (suc m) qs h g
    bodies_local c i j all m (more q qs) h g =
        let inner : Context = enter c kind.FunctionDeclaration i j all (ends_named all) m q (is_more qs) in
        each_append IsLocal (events inner q) (events_of (pass c q) kind.FunctionDeclaration i j all (suc m) qs) (opened_local inner q h.0 g.0) (bodies_local (pass c q) i j all (suc m) qs h.2 g.1)

    signature_clear : (i j : ℕ) (u : Tree) (ps : Trees) (lo : ℕ) → i ≤ lo → LieIn lo j (more u ps) → ((x : ℕ) → i ≤ x → x < j → p x ≡ is_within (body_of (node kind.FunctionDeclaration i j (more u ps))) x) → IsClear (first u) (last u)
    signature_clear i j u none lo le l own x from upto = own x (let a = l.0 in omega (arith, a, le, from)) (let b = lie_order (last u) j none l.2 in omega (arith, b, upto))
    signature_clear i j u (skip ps) lo le l own x from upto = own x (let a = l.0 in omega (arith, a, le, from)) (let b = lie_order (last u) j (skip ps) l.2 in omega (arith, b, upto))
    signature_clear i j u (more q ps) lo le l own x from upto =
        let b : last u ≤ first q = l.2.0 in
        own x (let a = l.0 in omega (arith, a, le, from)) (let d = lie_order (last u) j (more q ps) l.2 in omega (arith, d, upto)) ∙ ap (λ z. z && nat_lt x (last q)) (lt-leb (first q) x (omega (arith, b, upto)))

    function_specifies : (c : Context) (i j : ℕ) (ps : Trees) → Sits kts p (node kind.FunctionDeclaration i j ps) → Anywhere (events c (node kind.FunctionDeclaration i j ps)) i j
        → Specifies o count n (events c (node kind.FunctionDeclaration i j ps)) (function n (node kind.FunctionDeclaration i j ps) i j ps ∷ [])
    function_specifies c i j none h t = absurd h.derives.1
    function_specifies c i j (skip ps) h t = absurd h.derives.1
    function_specifies c i j (more u ps) h t =
        let k : Kind = kind.FunctionDeclaration in
        let all : Trees = more u ps in
        let f : Context = begin c k in
        let tree : Tree = node k i j all in
        let laid : IsLaidOut tree = derives_laid kts tree category.Declaration h.derives in
        let body : Bool = is_there (part_at all 1) in
        let inner : Context = enter f k i j all (ends_named all) 0 u (is_more ps) in
        let rest : List Event = events_of (pass f u) k i j all 1 ps in
        let own : own_events c k i j all ≡ function_events i j body = ap (λ b. if b then function_events i j body else []) (lt-ltb i j laid.0) in
        let layered : AreLayered Function all = derives_layered kts tree category.Declaration h.derives in
        let inside : AreInner all = spells_inner kts all (rule (categories.place_of category.Declaration) k) i j (function_rule (categories.place_of category.Declaration) k refl) h.derives.1 in
        let quiet : shared (events inner u ++ rest) ≡ [] = none_shared (events inner u ++ rest) (each_append IsLocal (events inner u) rest (plain_local inner u layered.0 tt) (bodies_local (pass f u) i j all 1 ps layered.1 inside.1)) in
        let a = first_told ms n ts o (λ x. false) count f k i j all 0 u ps (suc (suc i)) laid.1 (parts_told ms n ts o (λ x. false) count c k i j all refl (omega arith) t) in
        let there : Lies inner u = record { laid = laid.1.1; told = outside (events inner u) (first u) (last u) a (signature_clear i j u ps (suc (suc i)) (omega arith) laid.1 h.own) } in
        specifies_one o count n (events c tree) (function n tree i j all)
        (node_shared c k i j all ∙ ap (λ xs. shared (own_events c k i j all) ++ xs) quiet ∙ append-nil (shared (own_events c k i j all)) ∙ ap shared own ∙ function_shared body)
        (record { of = λ s e. signature_placed inner u h.derives.1.1 refl there s e; values = λ s hint told e. tt }) (refl, refl)
      where
        function_shared : (b : Bool) → shared (function_events i j b) ≡ (suc i, entity.Function) ∷ []
        function_shared true = refl
        function_shared false = refl

    -- ---- declarations

    declaration_specifies : (c : Context) (d : Tree) → Sits kts p d → c.block ≡ block.Package → Anywhere (events c d) (first d) (last d) → Specifies o count n (events c d) (declaration n d)
    declaration_specifies c (node kind.FunctionDeclaration i j ps) h b t = function_specifies c i j ps h t
    declaration_specifies c (node (kind.Declaration s) i j none) h b t = absurd h.derives.1
    declaration_specifies c (node (kind.Declaration s) i j (skip ps)) h b t = absurd h.derives.1
    declaration_specifies c (node (kind.Declaration s) i j (more q (more v ps))) h b t = absurd h.derives.1.2
    declaration_specifies c (node (kind.Declaration s) i j (more q (skip ps))) h b t = absurd h.derives.1.2
    declaration_specifies c (node (kind.Declaration s) i j (more q none)) h b t =
        let k : Kind = kind.Declaration s in
        let all : Trees = more q none in
        let f : Context = begin c k in
        let tree : Tree = node k i j all in
        let laid : IsLaidOut tree = derives_laid kts tree category.Declaration h.derives in
        let inner : Context = enter f k i j all (ends_named all) 0 q false in
        let whole : Outside (events c tree) i j = outside (events c tree) i j t h.own in
        let r = body_specifies s inner q h.derives.1.1 b (lies_first f k i j all 0 q none i laid.1 (parts_told ms n ts o p count c k i j all refl (omega arith) whole)) in
        record { names = node_shared c k i j all ∙ shared_append (events inner q) [] ∙ append-nil (shared (events inner q)) ∙ r.names; placed = r.placed; files = r.files }
    declaration_specifies c (node k i j ps) h b t = absurd (true_false false h.derives.0 refl)

    row_specifies : (c : Context) (i j : ℕ) (all : Trees) (m : ℕ) (ds : Trees) (lo : ℕ) → AllSit kts p ds → c.block ≡ block.Package → LieIn lo j ds → Anywhere (events_of c kind.File i j all m ds) lo j
        → Specifies o count n (events_of c kind.File i j all m ds) (declarations n ds)
    row_specifies c i j all m none lo h b l t = specifies_none o count n [] refl
    row_specifies c i j all m (skip ds) lo h b l t = row_specifies c i j all (suc m) ds lo h b l t
    row_specifies c i j all m (more d ds) lo h b l t =
        let inner : Context = enter c kind.File i j all (ends_named all) m d (is_more ds) in
        specifies_both o count n (events inner d) (events_of (pass c d) kind.File i j all (suc m) ds) (declaration n d) (declarations n ds)
        (declaration_specifies inner d h.0 b (first_told ms n ts o (λ x. false) count c kind.File i j all m d ds lo l t))
        (row_specifies (pass c d) i j all (suc m) ds (last d) h.1 b l.2 (rest_told ms n ts o (λ x. false) count c kind.File i j all m d ds lo l t))

    -- the specifications of the file
    pub file_specifies : (t : Tree) → IsFile kts t → OthersSit kts p (parts t) → Anywhere (events (file_context (last t)) t) (first t) (last t) → Specifies o count n (events (file_context (last t)) t) (in_file n t)
    file_specifies (node kind.File i j none) f h t = absurd f.derives.1
    file_specifies (node kind.File i j (skip ps)) f h t =
        let c : Context = file_context j in
        let laid : IsLaidOut (node kind.File i j (skip ps)) = derives_laid kts (node kind.File i j (skip ps)) category.File f.derives in
        let r = row_specifies (begin c kind.File) i j (skip ps) 1 ps i h refl laid.1 (parts_told ms n ts o (λ x. false) count c kind.File i j (skip ps) refl (omega arith) t) in
        record { names = node_shared c kind.File i j (skip ps) ∙ r.names; placed = r.placed; files = r.files }
    file_specifies (node kind.File i j (more d ds)) f h t =
        let c : Context = file_context j in
        let all : Trees = more d ds in
        let b : Context = begin c kind.File in
        let inner : Context = enter b kind.File i j all (ends_named all) 0 d (is_more ds) in
        let laid : IsLaidOut (node kind.File i j all) = derives_laid kts (node kind.File i j all) category.File f.derives in
        let a = parts_told ms n ts o (λ x. false) count c kind.File i j all refl (omega arith) t in
        let front : shared (events inner d) ≡ [] = none_shared (events inner d) (plain_local inner d (imports_plain d f.derives.1.1) tt) in
        let r = row_specifies (pass b d) i j all 1 ds (last d) h.3 refl laid.1.2 (rest_told ms n ts o (λ x. false) count b kind.File i j all 0 d ds i laid.1 a) in
        let none_there : declaration n d ≡ [] = no_import d f.derives.1.1 in
        let whole = specifies_both o count n (events inner d) (events_of (pass b d) kind.File i j all 1 ds) [] (declarations n ds) (specifies_none o count n (events inner d) front) r in
        subst (λ xs. Specifies o count n (events c (node kind.File i j all)) (xs ++ declarations n ds)) (sym none_there)
        (record { names = node_shared c kind.File i j all ∙ whole.names; placed = whole.placed; files = whole.files })
      where
        no_import : (q : Tree) → Derives kts category.Imports q → declaration n q ≡ []
        no_import (node kind.Imports a e qs) g = refl
        no_import (node k a e qs) g = absurd (true_false false g.0 refl)
    file_specifies (node k i j ps) f h t = absurd (true_false false f.derives.0 refl)
