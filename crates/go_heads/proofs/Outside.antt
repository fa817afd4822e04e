-- What a file tells outside the bodies of its functions is what its outline tells.
use Rattle.std.proofs.Common.{◌≡◌, ◌∙◌, ℕ, suc, ◌+◌, ◌-◌, ◌<◌, ◌≤◌, Bool, true, false, List, [], ◌∷◌, ◌++◌, map, Some, refl, sym, ap, subst, arith}
use Rattle.std.specs.Prelude.{if◌then◌else◌, ◌&&◌, not}
use Rattle.std.proofs.lemmas.Bool.{lt-ltb}
use Rattle.go_tokens.specs.declared.token.TokenKind.{TokenKind}
use Rattle.go_tokens.specs.Tokens.{kinds}
use Rattle.go_grammar.specs.declared.kind.Kind.{Kind}
use Rattle.go_grammar.specs.declared.kind.Kind.TheVariants as kind
use Rattle.go_grammar.specs.declared.kind.Place.TheVariants as place
use Rattle.go_grammar.specs.declared.kind.Category.TheVariants as category
use Rattle.go_grammar.specs.Categories.{within}
use Rattle.go_grammar.specs.Trees.{Tree, node, Trees, none, more, skip, first, last, parts}
use Rattle.go_grammar.specs.Grammar.{IsFile, rule, Derives, ends_named}
use Rattle.go_rewriting.specs.Places.{carry, carries}
use Rattle.go_rewriting.proofs.Public.{tree_order}
use Rattle.go_tree.specs.Views.{part_at}
use Rattle.go_tree.specs.declared.context.Entity.TheVariants as entity
use Rattle.go_tree.specs.declared.context.Manner.TheVariants as manner
use Rattle.go_tree.specs.declared.context.Context.{Context}
use Rattle.go_tree.specs.declared.event.Event.{Event}
use Rattle.go_tree.specs.Contexts.{is_there, source_at, file_context, enter}
use Rattle.go_tree.specs.Events.{statement_events, function_events, declaration_events, is_more, pass, begin, events, events_of}
use Rattle.go_scopes_events.proofs.Public.{IsInner, spells_inner, derives_inner, rule_inner, true_false, IsLaidOut, derives_laid, events_order}
use Rattle.go_scopes_events.specs.Orders.{EachDeclared}
use Rattle.go_heads.specs.Heads.{File, IsRead, head_of, in_bodies, place_outside, without_body, without_bodies, outline}
use Rattle.go_heads.proofs.Bodies.{inside}
use Rattle.go_heads.proofs.Counting.{place_next, place_order}
use Rattle.go_heads.proofs.Files.{one_outline}
use Rattle.go_heads.proofs.Functions.{Framed, framed}
use Rattle.go_heads.proofs.Outlines.{Sits, AllSit, OthersSit, file_sat, plain_same}
use Rattle.go_heads.specs.Told.{Told, declares, told, place_of, placed, told_outside}
use Rattle.go_heads.proofs.Alike.{Alike, source_alike, begin_alike, pass_alike}
use Rattle.go_heads.proofs.Telling.{no_token, told_append, statement_told, both_told, events_told}
use Rattle.go_heads.proofs.Clear.{IsLocal, told_clear, told_none, block_declares}

-- ---- the name of a function

abbrev function_name : ℕ → ℕ → Told
function_name n i = declares (record { name = n; entity = entity.Function; manner = manner.Declared; source = Some i; column = 0 })

function_own : (p : ℕ → Bool) (i j : ℕ) (b : Bool) → p (suc i) ≡ false → told p (function_events i j b) ≡ function_name (suc i) i ∷ []
function_own p i j true e = ap (λ x. if true && not x then function_name (suc i) i ∷ [] else []) e
function_own p i j false e = ap (λ x. if true && not x then function_name (suc i) i ∷ [] else []) e

own_function : (p : ℕ → Bool) (i j : ℕ) (ps : Trees) → i < j → p (suc i) ≡ false → told p (declaration_events i j ps) ≡ function_name (suc i) i ∷ []
own_function p i j ps lt e = ap (λ b. told p (if b then function_events i j (is_there (part_at ps 1)) else [])) (lt-ltb i j lt) ∙ function_own p i j (is_there (part_at ps 1)) e

front_told : (p : ℕ → Bool) (listed : Bool) (i j : ℕ) (ps : Trees) → i < j → p (suc i) ≡ false → told p (statement_events listed i j ++ declaration_events i j ps) ≡ function_name (suc i) i ∷ []
front_told p listed i j ps lt e =
    told_append p (statement_events listed i j) (declaration_events i j ps)
    ∙ ap (λ xs. xs ++ told p (declaration_events i j ps)) (statement_told p listed i j)
    ∙ own_function p i j ps lt e

pub block_kind : (k : Kind) → within category.Block k ≡ true → k ≡ kind.Block
block_kind kind.Block h = refl
block_kind _ h = cc

module _ (ts : List TokenKind) (p : ℕ → Bool) where
  abbrev m : ℕ → ℕ
  m = place_outside p

  -- what a tree tells, and what it tells at the places of the head
  abbrev Tells : Context → Context → Tree → Tree → Type 0
  Tells c e t u = told no_token (events e u) ≡ map (placed m) (told p (events c t))

  plain_told : (c e : Context) (t : Tree) → IsInner t → IsLaidOut t → ((n : ℕ) → first t ≤ n → n < last t → p n ≡ false) → Alike m c e → Tells c e t (carry m t)
  plain_told c e t x l f h = events_told m c e t x h ∙ ap (map (placed m)) (sym (told_clear p (first t) (last t) (events c t) (events_order c t l) f))

  -- a body tells nothing here
  body_none : (c : Context) (b : Tree) → Derives ts category.Block b → ((n : ℕ) → first b ≤ n → n < last b → p n ≡ true) → told p (events c b) ≡ []
  body_none c (node k i j ps) g f =
      let inner : IsInner (node k i j ps) = derives_inner ts (node k i j ps) category.Block refl g in
      let own : EachDeclared IsLocal (events c (node k i j ps)) =
      subst (λ x. EachDeclared IsLocal (events c (node x i j ps))) (sym (block_kind k g.0)) (block_declares c i j ps inner.1) in
      told_none p i j (events c (node k i j ps)) (events_order c (node k i j ps) (derives_laid ts (node k i j ps) category.Block g)) own f

  signature_alike : (c e : Context) (i j k : ℕ) (ps qs : Trees) (x y : Bool) (s : Tree) (a b : Bool) → Alike m c e
      → Alike m (enter (begin c kind.FunctionDeclaration) kind.FunctionDeclaration i j ps x 0 s a) (enter (begin e kind.FunctionDeclaration) kind.FunctionDeclaration (m i) k qs y 0 (carry m s) b)
  signature_alike c e i j k ps qs x y s a b h = record {
    outer = h.outer;
    role = refl;
    site = refl;
    specification = h.specification;
    source = source_alike m (begin c kind.FunctionDeclaration) (begin e kind.FunctionDeclaration) (begin_alike m c e h kind.FunctionDeclaration) s;
    column = refl;
    grouped = h.grouped;
    constant = h.constant;
    initial = h.initial;
  }

  -- the name of a function, in front of its parts
  name_placed : (c e : Context) (i j k : ℕ) (ps qs : Trees) → i < j → m i < k → p i ≡ false → p (suc i) ≡ false
      → told no_token (statement_events e.listed (m i) k ++ declaration_events (m i) k qs) ≡ map (placed m) (told p (statement_events c.listed i j ++ declaration_events i j ps))
  name_placed c e i j k ps qs lt less f g =
      front_told no_token e.listed (m i) k qs less refl ∙ ap (λ n. function_name n (m i) ∷ []) (sym (place_next p i f)) ∙ sym (ap (map (placed m)) (front_told p c.listed i j ps lt g))

  grows : (i k : ℕ) → suc i ≤ k → p i ≡ false → m i < m k
  grows i k le f = let e : suc i + (k - suc i) ≡ k = omega (arith, le) in omega (arith, place_next p i f, place_order p (suc i) (k - suc i), ap m e)

  function_told : (c e : Context) (i j : ℕ) (ps : Trees) → Sits ts p (node kind.FunctionDeclaration i j ps) → Alike m c e → Tells c e (node kind.FunctionDeclaration i j ps) (carry m (without_body (node kind.FunctionDeclaration i j ps)))
  function_told c e i j none h a = absurd h.derives.1
  function_told c e i j (skip ps) h a = absurd h.derives.1
  function_told c e i j (more s none) h a = absurd h.derives.1.2
  function_told c e i j (more s (skip (more q qs))) h a = absurd h.derives.1.2.2
  function_told c e i j (more s (skip (skip qs))) h a = absurd h.derives.1.2.2
  function_told c e i j (more s (more b (more q qs))) h a = absurd h.derives.1.2.2
  function_told c e i j (more s (more b (skip qs))) h a = absurd h.derives.1.2.2
  function_told c e i j (more s (skip none)) h a =
      let f : Framed p (node kind.FunctionDeclaration i j (more s (skip none))) = framed ts p (node kind.FunctionDeclaration i j (more s (skip none))) refl h in
      let name : suc (suc i) ≡ first s = h.derives.1.0.1.1 in
      let in_s : first s < last s = tree_order s f.order.1.1 in
      let ends : last s ≤ j = f.order.1.2 in
      let clear_i : p i ≡ false = f.clear i (omega arith) (omega (arith, name, in_s, ends)) in
      let clear_n : p (suc i) ≡ false = f.clear (suc i) (omega arith) (omega (arith, name, in_s, ends)) in
      let old = more s (skip none) in
      let new = more (carry m s) (skip none) in
      both_told m p
      (statement_events e.listed (m i) (m j) ++ declaration_events (m i) (m j) new) (events_of (begin e kind.FunctionDeclaration) kind.FunctionDeclaration (m i) (m j) new 0 new)
      (statement_events c.listed i j ++ declaration_events i j old) (events_of (begin c kind.FunctionDeclaration) kind.FunctionDeclaration i j old 0 old)
      (name_placed c e i j (m j) old new (omega (arith, name, in_s, ends)) (grows i j (omega (arith, name, in_s, ends)) clear_i) clear_i clear_n)
      (both_told m p
      (events (enter (begin e kind.FunctionDeclaration) kind.FunctionDeclaration (m i) (m j) new (ends_named new) 0 (carry m s) false) (carry m s)) []
      (events (enter (begin c kind.FunctionDeclaration) kind.FunctionDeclaration i j old (ends_named old) 0 s false) s) []
      (plain_told
      (enter (begin c kind.FunctionDeclaration) kind.FunctionDeclaration i j old (ends_named old) 0 s false) (enter (begin e kind.FunctionDeclaration) kind.FunctionDeclaration (m i) (m j) new (ends_named new) 0 (carry m s) false)
      s (derives_inner ts s category.Signature refl h.derives.1.1) (derives_laid ts s category.Signature h.derives.1.1) (λ n lo hi. f.clear n (omega (arith, lo, name)) (omega (arith, hi, ends)))
      (signature_alike c e i j (m j) old new (ends_named old) (ends_named new) s false false a))
      refl)
  function_told c e i j (more s (more b none)) h a =
      let f : Framed p (node kind.FunctionDeclaration i j (more s (more b none))) = framed ts p (node kind.FunctionDeclaration i j (more s (more b none))) refl h in
      let name : suc (suc i) ≡ first s = h.derives.1.0.1.1 in
      let in_s : first s < last s = tree_order s f.order.1.1 in
      let ends : last s ≤ first b = f.order.1.2 in
      let body = f.ends b refl in
      let whole : last b ≡ j = body.1 in
      let in_b : first b < last b = body.2 in
      let clear_i : p i ≡ false = f.clear i (omega arith) (omega (arith, name, in_s, ends)) in
      let clear_n : p (suc i) ≡ false = f.clear (suc i) (omega arith) (omega (arith, name, in_s, ends)) in
      let old = more s (more b none) in
      let new = more (carry m s) (skip none) in
      let within = begin c kind.FunctionDeclaration in
      let around = enter (pass within s) kind.FunctionDeclaration i j old (ends_named old) 1 b false in
      let nothing : told p (events around b ++ []) ≡ [] =
      told_append p (events around b) [] ∙ ap (λ xs. xs ++ []) (body_none around b h.derives.1.2.1 (λ n lo hi. h.own n (omega (arith, lo, name, in_s, ends)) (omega (arith, hi, whole)) ∙ inside b n lo hi)) in
      both_told m p
      (statement_events e.listed (m i) (m (first b)) ++ declaration_events (m i) (m (first b)) new) (events_of (begin e kind.FunctionDeclaration) kind.FunctionDeclaration (m i) (m (first b)) new 0 new)
      (statement_events c.listed i j ++ declaration_events i j old) (events_of within kind.FunctionDeclaration i j old 0 old)
      (name_placed c e i j (m (first b)) old new (omega (arith, name, in_s, ends, in_b, whole)) (grows i (first b) (omega (arith, name, in_s, ends)) clear_i) clear_i clear_n)
      (both_told m p
      (events (enter (begin e kind.FunctionDeclaration) kind.FunctionDeclaration (m i) (m (first b)) new (ends_named new) 0 (carry m s) false) (carry m s)) []
      (events (enter within kind.FunctionDeclaration i j old (ends_named old) 0 s true) s) (events around b ++ [])
      (plain_told
      (enter within kind.FunctionDeclaration i j old (ends_named old) 0 s true) (enter (begin e kind.FunctionDeclaration) kind.FunctionDeclaration (m i) (m (first b)) new (ends_named new) 0 (carry m s) false)
      s (derives_inner ts s category.Signature refl h.derives.1.1) (derives_laid ts s category.Signature h.derives.1.1) (λ n lo hi. f.clear n (omega (arith, lo, name)) (omega (arith, hi, ends)))
      (signature_alike c e i j (m (first b)) old new (ends_named old) (ends_named new) s true false a))
      (sym (ap (map (placed m)) nothing)))

  declaration_told : (c e : Context) (d : Tree) → Sits ts p d → Alike m c e → Tells c e d (carry m (without_body d))
  declaration_told c e (node kind.FunctionDeclaration i j ps) h a = function_told c e i j ps h a
  declaration_told c e (node (kind.Declaration s) i j ps) h a =
      let d : Tree = node (kind.Declaration s) i j ps in
      let inner : IsInner d = (refl, spells_inner ts ps (rule place.Free (kind.Declaration s)) i j (rule_inner place.Free (kind.Declaration s) refl) h.derives.1) in
      ap (λ t. told no_token (events e (carry m t))) (plain_same d refl)
      ∙ plain_told c e d inner (derives_laid ts d category.Declaration h.derives) (λ n lo hi. h.own n lo hi) a
  declaration_told c e (node k i j ps) h a = absurd (true_false false h.derives.0 refl)

  source_kept : (c e : Context) (d : Tree) → Derives ts category.Declaration d → Alike m c e → source_at e (carry m (without_body d)) ≡ place_of m (source_at c d)
  source_kept c e (node kind.FunctionDeclaration i j none) h a = a.source
  source_kept c e (node kind.FunctionDeclaration i j (skip ps)) h a = a.source
  source_kept c e (node kind.FunctionDeclaration i j (more s none)) h a = a.source
  source_kept c e (node kind.FunctionDeclaration i j (more s (skip ps))) h a = a.source
  source_kept c e (node kind.FunctionDeclaration i j (more s (more b ps))) h a = a.source
  source_kept c e (node (kind.Declaration s) i j ps) h a = ap (λ t. source_at e (carry m t)) (plain_same (node (kind.Declaration s) i j ps) refl) ∙ source_alike m c e a (node (kind.Declaration s) i j ps)
  source_kept c e (node k i j ps) h a = absurd (true_false false h.0 refl)

  -- ---- the parts of a file

  part_alike : (c e : Context) (i j k l : ℕ) (ps qs : Trees) (x y : Bool) (n : ℕ) (d u : Tree) (a b : Bool) → source_at e u ≡ place_of m (source_at c d) → Alike m c e
      → Alike m (enter c kind.File i j ps x n d a) (enter e kind.File k l qs y n u b)
  part_alike c e i j k l ps qs x y n d u a b s h = record {
    outer = h.outer;
    role = refl;
    site = h.site;
    specification = h.specification;
    source = s;
    column = refl;
    grouped = h.grouped;
    constant = h.constant;
    initial = h.initial;
  }

  row_told : (c e : Context) (i j k l : ℕ) (ps qs : Trees) (n : ℕ) (ds : Trees) → AllSit ts p ds → Alike m c e
      → told no_token (events_of e kind.File k l qs n (carries m (without_bodies ds))) ≡ map (placed m) (told p (events_of c kind.File i j ps n ds))
  row_told c e i j k l ps qs n none h a = refl
  row_told c e i j k l ps qs n (skip ds) h a = row_told c e i j k l ps qs (suc n) ds h a
  row_told c e i j k l ps qs n (more d ds) h a =
      let u : Tree = carry m (without_body d) in
      let us : Trees = carries m (without_bodies ds) in
      let s = source_kept c e d h.0.derives a in
      both_told m p
      (events (enter e kind.File k l qs (ends_named qs) n u (is_more us)) u) (events_of (pass e u) kind.File k l qs (suc n) us)
      (events (enter c kind.File i j ps (ends_named ps) n d (is_more ds)) d) (events_of (pass c d) kind.File i j ps (suc n) ds)
      (declaration_told (enter c kind.File i j ps (ends_named ps) n d (is_more ds)) (enter e kind.File k l qs (ends_named qs) n u (is_more us)) d h.0
      (part_alike c e i j k l ps qs (ends_named ps) (ends_named qs) n d u (is_more ds) (is_more us) s a))
      (row_told (pass c d) (pass e u) i j k l ps qs (suc n) ds h.1 (pass_alike m c e a d u s))

  -- the imports stand in front
  others_told : (c e : Context) (i j k l : ℕ) (ps qs : Trees) (d : Tree) (ds : Trees) → Derives ts category.Imports d → OthersSit ts p (more d ds) → Alike m c e
      → told no_token (events_of e kind.File k l qs 0 (carries m (without_bodies (more d ds)))) ≡ map (placed m) (told p (events_of c kind.File i j ps 0 (more d ds)))
  others_told c e i j k l ps qs d ds g h a =
      let u : Tree = carry m (without_body d) in
      let us : Trees = carries m (without_bodies ds) in
      let same : without_body d ≡ d = plain_same d h.0 in
      let s : source_at e u ≡ place_of m (source_at c d) = ap (λ t. source_at e (carry m t)) same ∙ source_alike m c e a d in
      let old = enter c kind.File i j ps (ends_named ps) 0 d (is_more ds) in
      let new = enter e kind.File k l qs (ends_named qs) 0 u (is_more us) in
      both_told m p
      (events new u) (events_of (pass e u) kind.File k l qs 1 us)
      (events old d) (events_of (pass c d) kind.File i j ps 1 ds)
      (ap (λ t. told no_token (events new (carry m t))) same
      ∙ plain_told old new d (derives_inner ts d category.Imports refl g) (derives_laid ts d category.Imports g) h.2 (part_alike c e i j k l ps qs (ends_named ps) (ends_named qs) 0 d u (is_more ds) (is_more us) s a))
      (row_told (pass c d) (pass e u) i j k l ps qs 1 ds h.3 (pass_alike m c e a d u s))

  file_alike : (i j : ℕ) → Alike m (begin (file_context i) kind.File) (begin (file_context j) kind.File)
  file_alike i j = record {
    outer = refl;
    role = refl;
    site = refl;
    specification = refl;
    source = refl;
    column = refl;
    grouped = refl;
    constant = refl;
    initial = refl;
  }

-- the events of a tree that is a file
abbrev of_tree : Tree → List Event
of_tree t = events (file_context (last t)) t

pub outline_told : (ts : List TokenKind) (t : Tree) → IsFile ts t → told no_token (of_tree (outline t)) ≡ map (placed (place_outside (in_bodies (parts t)))) (told (in_bodies (parts t)) (of_tree t))
outline_told ts (node kind.File i j none) f = absurd f.derives.1
outline_told ts (node kind.File i j (skip ps)) f =
    let p : ℕ → Bool = in_bodies ps in
    let m = place_outside p in
    row_told ts p (begin (file_context j) kind.File) (begin (file_context (m j)) kind.File) i j (m i) (m j) (skip ps) (skip (carries m (without_bodies ps))) 0 (skip ps)
    (file_sat ts (node kind.File i j (skip ps)) f) (file_alike ts p j (m j))
outline_told ts (node kind.File i j (more d ds)) f =
    let p : ℕ → Bool = in_bodies (more d ds) in
    let m = place_outside p in
    others_told ts p (begin (file_context j) kind.File) (begin (file_context (m j)) kind.File) i j (m i) (m j) (more d ds) (carries m (without_bodies (more d ds))) d ds
    f.derives.1.1 (file_sat ts (node kind.File i j (more d ds)) f) (file_alike ts p j (m j))
outline_told ts (node k i j ps) f = absurd (true_false false f.derives.0 refl)

pub heads_told : (a b : File) → IsRead a → IsRead b → head_of a ≡ head_of b → told_outside b ≡ told_outside a
heads_told a b g h e =
    sym (outline_told (kinds b.tokens.tokens) b.tree h.tree)
    ∙ ap (λ t. told no_token (of_tree t)) (one_outline a b g h e)
    ∙ outline_told (kinds a.tokens.tokens) a.tree g.tree
