-- Locals are in scope in bodies alone.
use Rattle.std.proofs.Common.{◌≡◌, ◌∙◌, ℕ, suc, ◌<◌, ◌≤◌, ◌⊎◌, inl, inr, Bool, true, false, List, [], ◌∷◌, ◌++◌, Option, Some, None, refl, ap, arith}
use Rattle.std.specs.Prelude.{if◌then◌else◌, nat_lt}
use Rattle.go_tokens.specs.declared.token.TokenKind.{TokenKind}
use Rattle.go_grammar.specs.declared.kind.Kind.{Kind}
use Rattle.go_grammar.specs.declared.kind.Kind.TheVariants as kind
use Rattle.go_grammar.specs.declared.kind.Place.TheVariants as place
use Rattle.go_grammar.specs.declared.kind.Category.TheVariants as category
use Rattle.go_grammar.specs.Trees.{Tree, node, Trees, none, more, skip, first, last, parts}
use Rattle.go_grammar.specs.Grammar.{IsFile, rule, ends_named}
use Rattle.go_rewriting.proofs.Public.{tree_order}
use Rattle.go_tree.specs.Views.{part_at}
use Rattle.go_tree.specs.declared.context.Block.{Block}
use Rattle.go_tree.specs.declared.context.Block.TheVariants as block
use Rattle.go_tree.specs.declared.context.Entity.{Entity}
use Rattle.go_tree.specs.declared.context.Entity.TheVariants as entity
use Rattle.go_tree.specs.declared.context.Scope.{Scope}
use Rattle.go_tree.specs.declared.context.Context.{Context}
use Rattle.go_tree.specs.declared.event.Declaration.{Declaration}
use Rattle.go_tree.specs.declared.event.Event.{Event}
use Rattle.go_tree.specs.declared.event.Event.TheVariants as event
use Rattle.go_tree.specs.Contexts.{is_there, is_package, file_context, body_scope, enter}
use Rattle.go_tree.specs.Events.{own_events, statement_events, function_events, declaration_events, is_more, pass, begin, events, events_of}
use Rattle.go_scopes_events.specs.Orders.{EachDeclared, BeginsAt, BeginsIn, IsFollowed, IsOuter}
use Rattle.go_scopes_events.proofs.Public.{is_top, IsInner, AreInner, derives_inner, spells_inner, rule_inner, top_function, each_between, true_false, Function, AreLayered, derives_layered, Lies, IsOnly, ScopeGives, each_append, each_map, statement_each, plain_only, body_behind, self_gives, function_nested, file_follows, is_outer, is_function, IsOutside, AreOutside, derives_outside, IsNone, IsOuterContext, own_outer, block_outer, role_outer, parameters_outer, IsLaidOut, derives_laid, events_order}
use Rattle.go_heads.specs.Heads.{in_bodies}
use Rattle.go_heads.proofs.Bodies.{inside}
use Rattle.go_heads.proofs.Functions.{Framed, framed, some_none, same_some}
use Rattle.go_heads.proofs.Outlines.{Sits, AllSit, OthersSit, file_sat}
use Rattle.go_heads.proofs.Declared.{each_both}

each_left : (Q : Declaration → Type 0) (es fs : List Event) → EachDeclared Q (es ++ fs) → EachDeclared Q es
each_left Q [] fs h = tt
each_left Q (event.Declaration d ∷ es) fs h = (h.0, each_left Q es fs h.1)
each_left Q (e ∷ es) fs h = each_left Q es fs h

each_right : (Q : Declaration → Type 0) (es fs : List Event) → EachDeclared Q (es ++ fs) → EachDeclared Q fs
each_right Q [] fs h = h
each_right Q (event.Declaration d ∷ es) fs h = each_right Q es fs h.1
each_right Q (e ∷ es) fs h = each_right Q es fs h

-- ---- outside of functions all is declared in the package block

abbrev pub Shared : Declaration → Type 0
Shared d = IsOuter d.block

node_shared : (c : Context) (k : Kind) (i j : ℕ) (ps : Trees) → IsOutside (node k i j ps) → is_top k ≡ false → IsOuterContext c
    → (is_outer k ≡ true → AreOutside ps → EachDeclared Shared (events_of (begin c k) k i j ps 0 ps)) → EachDeclared Shared (events c (node k i j ps))
node_shared c k i j ps (inl f) x g go = absurd (true_false (is_function k) f (top_function k x))
node_shared c k i j ps (inr o) x g go =
    each_append Shared (statement_events c.listed i j ++ own_events c k i j ps) (events_of (begin c k) k i j ps 0 ps)
    (each_append Shared (statement_events c.listed i j) (own_events c k i j ps) (statement_each Shared c.listed i j) (own_outer c k i j ps o.0 g.block g.role))
    (go o.0 o.1)

mutual
  pub tree_shared : (c : Context) (t : Tree) → IsOutside t → IsInner t → IsOuterContext c → EachDeclared Shared (events c t)
  tree_shared c (node k i j ps) o x g =
      node_shared c k i j ps o x.0 g (λ e a. parts_shared (begin c k) k i j ps 0 ps e a x.1 (record { block = g.block; role = g.role; parameters = g.parameters }))

  parts_shared : (c : Context) (k : Kind) (i j : ℕ) (ps : Trees) (n : ℕ) (qs : Trees) → is_outer k ≡ true → AreOutside qs → AreInner qs → IsOuterContext c → EachDeclared Shared (events_of c k i j ps n qs)
  parts_shared c k i j ps n none e o x g = tt
  parts_shared c k i j ps n (more q qs) e o x g =
      each_append Shared (events (enter c k i j ps (ends_named ps) n q (is_more qs)) q) (events_of (pass c q) k i j ps (suc n) qs)
      (tree_shared (enter c k i j ps (ends_named ps) n q (is_more qs)) q o.0 x.0 (record {
        block = block_outer c k i e g.block;
        role = role_outer c k i j (ends_named ps) n q g.role g.parameters;
        parameters = parameters_outer c k j ps n q e g.parameters;
      }))
      (parts_shared (pass c q) k i j ps (suc n) qs e o.1 x.1 (record { block = g.block; role = g.role; parameters = g.parameters }))
  parts_shared c k i j ps n (skip qs) e o x g = parts_shared c k i j ps (suc n) qs e o x g

not_local : (b : Block) → IsOuter b → is_package b ≡ false → ⊥
not_local block.Package h e = true_false true refl e
not_local (block.Local i) h e = h

no_scope : (o : Option Scope) → IsNone o → ScopeGives None o
no_scope None h = tt
no_scope (Some s) h = absurd h

-- ---- bodies

module _ (ts : List TokenKind) (p : ℕ → Bool) where
  -- behind its name a local is in scope in a body alone
  abbrev IsHeld : Declaration → Type 0
  IsHeld d = is_package d.block ≡ false → (x : ℕ) → d.name ≤ x → d.scope.from ≤ x → x < d.scope.to → p x ≡ true

  shared_held : (d : Declaration) → Shared d → IsHeld d
  shared_held d h e = absurd (not_local d.block h e)

  own_held : (i j : ℕ) (ps : Trees) → EachDeclared IsHeld (declaration_events i j ps)
  own_held i j ps = by (nat_lt i j) (is_there (part_at ps 1))
    where
      by : (b y : Bool) → EachDeclared IsHeld (if b then function_events i j y else [])
      by true true = (λ e. absurd (true_false true refl e), tt)
      by true false = (λ e. absurd (true_false true refl e), tt)
      by false y = tt

  front_held : (c : Context) (i j : ℕ) (ps : Trees) → EachDeclared IsHeld (statement_events c.listed i j ++ declaration_events i j ps)
  front_held c i j ps = each_append IsHeld (statement_events c.listed i j) (declaration_events i j ps) (statement_each IsHeld c.listed i j) (own_held i j ps)

  ends_by : (a j : ℕ) (d : Declaration) → Lies a j j d → d.scope.to ≤ j
  ends_by a j d h = by h.ends
    where
      by : (d.scope.to ≤ j) ⊎ ((d.scope.to ≡ j) × (d.scope.from ≤ j)) → d.scope.to ≤ j
      by (inl x) = x
      by (inr x) = omega (arith, x.0)

  function_held : (c : Context) (i j : ℕ) (ps : Trees) → Sits ts p (node kind.FunctionDeclaration i j ps) → IsOuterContext c → EachDeclared IsHeld (events c (node kind.FunctionDeclaration i j ps))
  function_held c i j none h g = absurd h.derives.1
  function_held c i j (skip ps) h g = absurd h.derives.1
  function_held c i j (more s none) h g = absurd h.derives.1.2
  function_held c i j (more s (skip (more q qs))) h g = absurd h.derives.1.2.2
  function_held c i j (more s (skip (skip qs))) h g = absurd h.derives.1.2.2
  function_held c i j (more s (more b (more q qs))) h g = absurd h.derives.1.2.2
  function_held c i j (more s (more b (skip qs))) h g = absurd h.derives.1.2.2
  function_held c i j (more s (skip none)) h g =
      let ps = more s (skip none) in
      let layered : AreLayered Function ps = derives_layered ts (node kind.FunctionDeclaration i j ps) category.Declaration h.derives in
      let laid : IsLaidOut (node kind.FunctionDeclaration i j ps) = derives_laid ts (node kind.FunctionDeclaration i j ps) category.Declaration h.derives in
      let around = enter (begin c kind.FunctionDeclaration) kind.FunctionDeclaration i j ps (ends_named ps) 0 s false in
      each_append IsHeld (statement_events c.listed i j ++ declaration_events i j ps) (events around s ++ [])
      (front_held c i j ps)
      (each_append IsHeld (events around s) []
      (each_map (IsOnly None) IsHeld (events around s) (λ d o. absurd (some_none d.scope o.same)) (plain_only None around s layered.0 laid.1.1 tt tt tt)) tt)
  function_held c i j (more s (more b none)) h g =
      let ps = more s (more b none) in
      let tree = node kind.FunctionDeclaration i j ps in
      let f : Framed p tree = framed ts p tree refl h in
      let name : suc (suc i) ≡ first s = h.derives.1.0.1.1 in
      let in_s : first s < last s = tree_order s f.order.1.1 in
      let to : last s ≡ first b = h.derives.1.2.0 in
      let body = f.ends b refl in
      let whole : last b ≡ j = body.1 in
      let in_b : first b < last b = body.2 in
      let within : (x : ℕ) → first b ≤ x → x < j → p x ≡ true = λ x lo hi. h.own x (omega (arith, lo, to, in_s, name)) hi ∙ inside b x lo (omega (arith, hi, whole)) in
      let layered : AreLayered Function ps = derives_layered ts tree category.Declaration h.derives in
      let laid : IsLaidOut tree = derives_laid ts tree category.Declaration h.derives in
      let front = begin c kind.FunctionDeclaration in
      let around = enter front kind.FunctionDeclaration i j ps (ends_named ps) 0 s true in
      let inner = enter (pass front s) kind.FunctionDeclaration i j ps (ends_named ps) 1 b false in
      let o : Option Scope = body_scope true (last s) j in
      let lie : EachDeclared (Lies (suc (suc i)) j j) (events around s ++ (events inner b ++ [])) = (function_nested front i j ps ps (suc (suc i)) layered laid.1 (no_scope c.parameters g.parameters)).lie in
      let ends : EachDeclared (λ d. d.scope.to ≤ j) (events inner b) =
      each_left (λ d. d.scope.to ≤ j) (events inner b) []
      (each_right (λ d. d.scope.to ≤ j) (events around s) (events inner b ++ []) (each_map (Lies (suc (suc i)) j j) (λ d. d.scope.to ≤ j) (events around s ++ (events inner b ++ [])) (ends_by (suc (suc i)) j) lie)) in
      let names : EachDeclared (λ d. (first b ≤ d.name) × (d.name < last b)) (events inner b) =
      each_between (first b) (last b) (first b) (last b) (events inner b) (omega arith) (omega arith) (events_order inner b (derives_laid ts b category.Block h.derives.1.2.1)) in
      let signature : EachDeclared (IsOnly o) (events around s) =
      plain_only o around s layered.0 laid.1.1 (body_behind true (last s) j (omega (arith, to, in_b, whole))) tt (self_gives o) in
      each_append IsHeld (statement_events c.listed i j ++ declaration_events i j ps) (events around s ++ (events inner b ++ []))
      (front_held c i j ps)
      (each_append IsHeld (events around s) (events inner b ++ [])
      (each_map (IsOnly o) IsHeld (events around s)
      (λ d only e x named from upto. let same : d.scope ≡ record { from = last s; to = j } = same_some d.scope (record { from = last s; to = j }) only.same in within x (omega (arith, from, to, ap (λ (z : Scope). z.from) same)) (omega (arith, upto, ap (λ (z : Scope). z.to) same)))
      signature)
      (each_append IsHeld (events inner b) []
      (each_both (λ d. (first b ≤ d.name) × (d.name < last b)) (λ d. d.scope.to ≤ j) IsHeld (events inner b) (λ d n t e x named from upto. within x (omega (arith, n.0, named)) (omega (arith, upto, t))) names ends)
      tt))

  plain_held : (c : Context) (t : Tree) → IsOutside t → IsInner t → IsOuterContext c → EachDeclared IsHeld (events c t)
  plain_held c t o x g = each_map Shared IsHeld (events c t) shared_held (tree_shared c t o x g)

  declaration_held : (c : Context) (d : Tree) → Sits ts p d → IsOuterContext c → EachDeclared IsHeld (events c d)
  declaration_held c (node kind.FunctionDeclaration i j ps) h g = function_held c i j ps h g
  declaration_held c (node (kind.Declaration s) i j ps) h g =
      let d : Tree = node (kind.Declaration s) i j ps in
      let inner : IsInner d = (refl, spells_inner ts ps (rule place.Free (kind.Declaration s)) i j (rule_inner place.Free (kind.Declaration s) refl) h.derives.1) in
      plain_held c d (derives_outside ts d category.Declaration refl h.derives) inner g
  declaration_held c (node k i j ps) h g = absurd (true_false false h.derives.0 refl)

  row_held : (c : Context) (i j : ℕ) (ps : Trees) (n : ℕ) (ds : Trees) → AllSit ts p ds → IsOuterContext c → EachDeclared IsHeld (events_of c kind.File i j ps n ds)
  row_held c i j ps n none h g = tt
  row_held c i j ps n (skip ds) h g = row_held c i j ps (suc n) ds h g
  row_held c i j ps n (more d ds) h g =
      each_append IsHeld (events (enter c kind.File i j ps (ends_named ps) n d (is_more ds)) d) (events_of (pass c d) kind.File i j ps (suc n) ds)
      (declaration_held (enter c kind.File i j ps (ends_named ps) n d (is_more ds)) d h.0 (record { block = g.block; role = tt; parameters = g.parameters }))
      (row_held (pass c d) i j ps (suc n) ds h.1 (record { block = g.block; role = g.role; parameters = g.parameters }))

  file_held : (t : Tree) → IsFile ts t → p ≡ in_bodies (parts t) → OthersSit ts p (parts t) → EachDeclared IsHeld (events (file_context (last t)) t)
  file_held (node kind.File i j none) f e sat = absurd f.derives.1
  file_held (node kind.File i j (skip ps)) f e sat = row_held (begin (file_context j) kind.File) i j (skip ps) 0 (skip ps) sat (record { block = tt; role = tt; parameters = tt })
  file_held (node kind.File i j (more d ds)) f e sat =
      let c = begin (file_context j) kind.File in
      let ps = more d ds in
      each_append IsHeld (events (enter c kind.File i j ps (ends_named ps) 0 d (is_more ds)) d) (events_of (pass c d) kind.File i j ps 1 ds)
      (plain_held (enter c kind.File i j ps (ends_named ps) 0 d (is_more ds)) d (derives_outside ts d category.Imports refl f.derives.1.1) (derives_inner ts d category.Imports refl f.derives.1.1) (record { block = tt; role = tt; parameters = tt }))
      (row_held (pass c d) i j ps 1 ds sat.3 (record { block = tt; role = tt; parameters = tt }))
  file_held (node k i j ps) f e sat = absurd (true_false false f.derives.0 refl)

-- ---- locals

-- a local is in scope in bodies alone
abbrev pub IsBodily : (ℕ → Bool) → Declaration → Type 0
IsBodily p d = is_package d.block ≡ false → (x : ℕ) → d.scope.from ≤ x → x < d.scope.to → p x ≡ true

at_name : (e : Entity) (name from : ℕ) → BeginsAt e name from → name ≤ from
at_name entity.Type name from h = omega (arith, h)
at_name entity.Function name from h = absurd h
at_name e name from h = omega (arith, h)

pub behind_name : (b : Block) (e : Entity) (name from : ℕ) → BeginsIn b e name from → is_package b ≡ false → name ≤ from
behind_name block.Package e name from h x = absurd (true_false true refl x)
behind_name (block.Local i) e name from h x = at_name e name from h

pub locals_bodily : (ts : List TokenKind) (t : Tree) → IsFile ts t → EachDeclared (IsBodily (in_bodies (parts t))) (events (file_context (last t)) t)
locals_bodily ts t f =
    each_both (IsHeld ts (in_bodies (parts t))) IsFollowed (IsBodily (in_bodies (parts t))) (events (file_context (last t)) t)
    (λ d h g e x from upto. let le : d.name ≤ d.scope.from = behind_name d.block d.entity d.name d.scope.from g.0 e in h e x (omega (arith, le, from)) from upto)
    (file_held ts (in_bodies (parts t)) t f refl (file_sat ts t f)) (file_follows t (derives_layered ts t category.File f.derives) (derives_laid ts t category.File f.derives))
