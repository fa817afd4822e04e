-- In which specifications the names of a file stand, by whether they stand in bodies.
use Rattle.std.proofs.Common.{◌≡◌, ◌∙◌, ℕ, suc, ◌<◌, ◌≤◌, Bool, true, false, List, [], ◌∷◌, ◌++◌, Option, Some, None, refl, sym, subst, arith}
use Rattle.std.specs.Prelude.{if◌then◌else◌, nat_lt}
use Rattle.go_tokens.specs.declared.token.TokenKind.{TokenKind}
use Rattle.go_grammar.specs.declared.kind.Kind.TheVariants as kind
use Rattle.go_grammar.specs.declared.kind.Category.TheVariants as category
use Rattle.go_grammar.specs.Trees.{Tree, node, Trees, none, more, skip, kind_of, first, last, parts}
use Rattle.go_grammar.specs.Grammar.{IsFile, Derives, ends_named}
use Rattle.go_rewriting.proofs.Public.{tree_order}
use Rattle.go_tree.specs.Views.{part_at}
use Rattle.go_tree.specs.declared.context.Site.{Site}
use Rattle.go_tree.specs.declared.context.Site.TheVariants as site
use Rattle.go_tree.specs.declared.context.Context.{Context}
use Rattle.go_tree.specs.declared.event.Declaration.{Declaration}
use Rattle.go_tree.specs.declared.event.Event.{Event}
use Rattle.go_tree.specs.declared.event.Event.TheVariants as event
use Rattle.go_tree.specs.Contexts.{is_there, file_context, source_of, enter}
use Rattle.go_tree.specs.Events.{function_events, declaration_events, is_more, pass, begin, events, events_of}
use Rattle.go_scopes_events.proofs.Public.{true_false, IsLaidOut, derives_laid, events_order}
use Rattle.go_heads.specs.Heads.{in_bodies}
use Rattle.go_heads.proofs.Public.{inside, Framed, framed, Sits, AllSit, OthersSit, file_sat, NamesIn, ordered_names}
use Rattle.go_scopes_changes.proofs.Sites.{NumberIn, SiteIn, AllIn, ContextIn, tree_in}

-- ---- what is said of the names of a file

module _ (p : ℕ → Bool) where
  abbrev pub SourceOut : Option ℕ → Type 0
  SourceOut None = Unit {0}
  SourceOut (Some s) = p s ≡ false

  -- the token of the specification passes the test or not, as b says
  abbrev pub SiteSays : Bool → Site → Type 0
  SiteSays b site.Elsewhere = Unit {0}
  SiteSays b (site.Type s) = p s ≡ b
  SiteSays b (site.Value s column alone) = p s ≡ b
  SiteSays b (site.Right s r) = p s ≡ b

  -- A name that is declared outside of bodies is so in a specification outside of them.
  abbrev pub IsAgreed : Declaration → Type 0
  IsAgreed d = p d.name ≡ false → SourceOut d.source

  -- and one that is looked up stands in a specification in a body exactly if it stands in a body itself
  abbrev pub Agreed : List Event → Type 0
  Agreed [] = Unit {0}
  Agreed (event.Declaration d ∷ es) = IsAgreed d × Agreed es
  Agreed (event.Use u ∷ es) = SiteSays (p u.name) u.site × Agreed es
  Agreed (e ∷ es) = Agreed es

  agreed_append : (es fs : List Event) → Agreed es → Agreed fs → Agreed (es ++ fs)
  agreed_append [] fs h g = g
  agreed_append (event.Declaration d ∷ es) fs h g = (h.0, agreed_append es fs h.1 g)
  agreed_append (event.Use u ∷ es) fs h g = (h.0, agreed_append es fs h.1 g)
  agreed_append (e ∷ es) fs h g = agreed_append es fs h g

  abbrev AllSay : Bool → ℕ → ℕ → Type 0
  AllSay b lo hi = (n : ℕ) → lo ≤ n → n < hi → p n ≡ b

  site_says : (b : Bool) (lo hi : ℕ) (s : Site) → AllSay b lo hi → SiteIn lo hi s → SiteSays b s
  site_says b lo hi site.Elsewhere f h = tt
  site_says b lo hi (site.Type s) f h = f s h.0 h.1
  site_says b lo hi (site.Value s column alone) f h = f s h.0 h.1
  site_says b lo hi (site.Right s r) f h = f s h.0 h.1

  source_says : (lo hi : ℕ) (o : Option ℕ) → AllSay false lo hi → NumberIn lo hi o → SourceOut o
  source_says lo hi None f h = tt
  source_says lo hi (Some s) f h = f s h.0 h.1

  clear_agreed : (lo hi : ℕ) (es : List Event) → AllSay false lo hi → AllIn lo hi es → NamesIn lo hi es → Agreed es
  clear_agreed lo hi [] f h g = tt
  clear_agreed lo hi (event.Declaration d ∷ es) f h g = (λ e. source_says lo hi d.source f h.0, clear_agreed lo hi es f h.1 g.2)
  clear_agreed lo hi (event.Use u ∷ es) f h g = (subst (λ b. SiteSays b u.site) (sym (f u.name g.0 g.1)) (site_says false lo hi u.site f h.0), clear_agreed lo hi es f h.1 g.2)
  clear_agreed lo hi (event.Import i ∷ es) f h g = clear_agreed lo hi es f h g
  clear_agreed lo hi (event.Member m c i ∷ es) f h g = clear_agreed lo hi es f h g
  clear_agreed lo hi (event.Bodiless i j ∷ es) f h g = clear_agreed lo hi es f h g
  clear_agreed lo hi (event.Statement i j ∷ es) f h g = clear_agreed lo hi es f h g
  clear_agreed lo hi (event.Misplaced i j ∷ es) f h g = clear_agreed lo hi es f h g
  clear_agreed lo hi (event.SecondDefault i ∷ es) f h g = clear_agreed lo hi es f h g

  body_agreed : (lo hi : ℕ) (es : List Event) → AllSay true lo hi → AllIn lo hi es → NamesIn lo hi es → Agreed es
  body_agreed lo hi [] f h g = tt
  body_agreed lo hi (event.Declaration d ∷ es) f h g = (λ e. absurd (true_false (p d.name) (f d.name g.0 g.1) e), body_agreed lo hi es f h.1 g.2)
  body_agreed lo hi (event.Use u ∷ es) f h g = (subst (λ b. SiteSays b u.site) (sym (f u.name g.0 g.1)) (site_says true lo hi u.site f h.0), body_agreed lo hi es f h.1 g.2)
  body_agreed lo hi (event.Import i ∷ es) f h g = body_agreed lo hi es f h g
  body_agreed lo hi (event.Member m c i ∷ es) f h g = body_agreed lo hi es f h g
  body_agreed lo hi (event.Bodiless i j ∷ es) f h g = body_agreed lo hi es f h g
  body_agreed lo hi (event.Statement i j ∷ es) f h g = body_agreed lo hi es f h g
  body_agreed lo hi (event.Misplaced i j ∷ es) f h g = body_agreed lo hi es f h g
  body_agreed lo hi (event.SecondDefault i ∷ es) f h g = body_agreed lo hi es f h g

  names_of : (c : Context) (t : Tree) → IsLaidOut t → NamesIn (first t) (last t) (events c t)
  names_of c t l = ordered_names (first t) (first t) (last t) (events c t) (omega arith) (events_order c t l)

-- ---- the parts of a file

module _ (ts : List TokenKind) (p : ℕ → Bool) (e : ℕ) where
  abbrev file : Context
  file = file_context e

  abbrev pub around_part : ℕ → ℕ → Trees → ℕ → Tree → Bool → Context
  around_part i j ps n d b = enter file kind.File i j ps (ends_named ps) n d b

  own_agreed : (k l : ℕ) (qs : Trees) → p k ≡ false → Agreed p (declaration_events k l qs)
  own_agreed k l qs c = by (nat_lt k l) (is_there (part_at qs 1))
    where
      by : (x y : Bool) → Agreed p (if x then function_events k l y else [])
      by true true = (λ h. c, tt)
      by true false = (λ h. c, tt)
      by false y = tt

  signature_source : (o : Option ℕ) (s : Tree) → Derives ts category.Signature s → source_of o (kind_of s) (first s) (parts s) ≡ o
  signature_source o (node kind.Signature i j ps) h = refl
  signature_source o (node k i j ps) h = absurd (true_false false h.0 refl)

  block_source : (o : Option ℕ) (c : Tree) → Derives ts category.Block c → source_of o (kind_of c) (first c) (parts c) ≡ o
  block_source o (node kind.Block i j ps) h = refl
  block_source o (node k i j ps) h = absurd (true_false false h.0 refl)

  signature_agreed : (c : Context) (k : ℕ) (s : Tree) → Derives ts category.Signature s → ContextIn k (last s) c → k ≤ first s → AllSay p false k (last s) → Agreed p (events c s)
  signature_agreed c k s g inc le f =
      clear_agreed p k (last s) (events c s) f (tree_in k (last s) c s (derives_laid ts s category.Signature g) le (omega arith) inc)
      (ordered_names k (first s) (last s) (events c s) le (events_order c s (derives_laid ts s category.Signature g)))

  function_agreed : (i j : ℕ) (ps : Trees) (n : ℕ) (k l : ℕ) (qs : Trees) (b : Bool) → Sits ts p (node kind.FunctionDeclaration k l qs)
      → Agreed p (events (around_part i j ps n (node kind.FunctionDeclaration k l qs) b) (node kind.FunctionDeclaration k l qs))
  function_agreed i j ps n k l none b h = absurd h.derives.1
  function_agreed i j ps n k l (skip qs) b h = absurd h.derives.1
  function_agreed i j ps n k l (more s none) b h = absurd h.derives.1.2
  function_agreed i j ps n k l (more s (skip (more q qs))) b h = absurd h.derives.1.2.2
  function_agreed i j ps n k l (more s (skip (skip qs))) b h = absurd h.derives.1.2.2
  function_agreed i j ps n k l (more s (more c (more q qs))) b h = absurd h.derives.1.2.2
  function_agreed i j ps n k l (more s (more c (skip qs))) b h = absurd h.derives.1.2.2
  function_agreed i j ps n k l (more s (skip none)) b h =
      let qs = more s (skip none) in
      let tree = node kind.FunctionDeclaration k l qs in
      let f : Framed p tree = framed ts p tree refl h in
      let name : suc (suc k) ≡ first s = h.derives.1.0.1.1 in
      let in_s : first s < last s = tree_order s f.order.1.1 in
      let ends : last s ≤ l = f.order.1.2 in
      let front = begin (around_part i j ps n tree b) kind.FunctionDeclaration in
      let around = enter front kind.FunctionDeclaration k l qs (ends_named qs) 0 s false in
      let clear : AllSay p false k (last s) = λ x lo hi. f.clear x lo (omega (arith, hi, ends)) in
      agreed_append p (declaration_events k l qs) (events around s ++ []) (own_agreed k l qs (clear k (omega arith) (omega (arith, name, in_s))))
      (agreed_append p (events around s) []
      (signature_agreed around k s h.derives.1.1 (record { site = (omega arith, omega (arith, name, in_s)); specification = tt; source = subst (NumberIn k (last s)) (sym (signature_source None s h.derives.1.1)) tt; role = tt }) (omega (arith, name)) clear) tt)
  function_agreed i j ps n k l (more s (more c none)) b h =
      let qs = more s (more c none) in
      let tree = node kind.FunctionDeclaration k l qs in
      let f : Framed p tree = framed ts p tree refl h in
      let name : suc (suc k) ≡ first s = h.derives.1.0.1.1 in
      let in_s : first s < last s = tree_order s f.order.1.1 in
      let ends : last s ≤ first c = f.order.1.2 in
      let body = f.ends c refl in
      let front = begin (around_part i j ps n tree b) kind.FunctionDeclaration in
      let around = enter front kind.FunctionDeclaration k l qs (ends_named qs) 0 s true in
      let inner = enter (pass front s) kind.FunctionDeclaration k l qs (ends_named qs) 1 c false in
      let clear : AllSay p false k (last s) = λ x lo hi. f.clear x lo (omega (arith, hi, ends)) in
      let within : AllSay p true (first c) (last c) = λ x lo hi. h.own x (omega (arith, lo, ends, in_s, name)) (omega (arith, hi, body.1)) ∙ inside c x lo hi in
      let laid = derives_laid ts c category.Block h.derives.1.2.1 in
      let none : source_of (source_of None (kind_of s) (first s) (parts s)) (kind_of c) (first c) (parts c) ≡ None =
      block_source (source_of None (kind_of s) (first s) (parts s)) c h.derives.1.2.1 ∙ signature_source None s h.derives.1.1 in
      agreed_append p (declaration_events k l qs) (events around s ++ (events inner c ++ [])) (own_agreed k l qs (clear k (omega arith) (omega (arith, name, in_s))))
      (agreed_append p (events around s) (events inner c ++ [])
      (signature_agreed around k s h.derives.1.1 (record { site = (omega arith, omega (arith, name, in_s)); specification = tt; source = subst (NumberIn k (last s)) (sym (signature_source None s h.derives.1.1)) tt; role = tt }) (omega (arith, name)) clear)
      (agreed_append p (events inner c) []
      (body_agreed p (first c) (last c) (events inner c) within
      (tree_in (first c) (last c) inner c laid (omega arith) (omega arith) (record { site = tt; specification = tt; source = subst (NumberIn (first c) (last c)) (sym none) tt; role = tt })) (names_of p inner c laid)) tt))

  plain_agreed : (c : Context) (d : Tree) → IsLaidOut d → ContextIn (first d) (last d) c → AllSay p false (first d) (last d) → Agreed p (events c d)
  plain_agreed c d l inc f =
      clear_agreed p (first d) (last d) (events c d) f (tree_in (first d) (last d) c d l (omega arith) (omega arith) inc) (names_of p c d l)

  part_agreed : (i j : ℕ) (ps : Trees) (n : ℕ) (d : Tree) (b : Bool) → Sits ts p d → Agreed p (events (around_part i j ps n d b) d)
  part_agreed i j ps n (node kind.FunctionDeclaration k l qs) b h = function_agreed i j ps n k l qs b h
  part_agreed i j ps n (node (kind.Declaration s) k l qs) b h =
      let d : Tree = node (kind.Declaration s) k l qs in
      let c : Context = around_part i j ps n d b in
      plain_agreed c d (derives_laid ts d category.Declaration h.derives) (record { site = tt; specification = tt; source = tt; role = tt }) (λ x lo hi. h.own x lo hi)
  part_agreed i j ps n (node k x y qs) b h = absurd (true_false false h.derives.0 refl)

  pub next : (d : Tree) → Sits ts p d → pass file d ≡ file
  next (node kind.FunctionDeclaration k l qs) h = refl
  next (node (kind.Declaration s) k l qs) h = refl
  next (node k x y qs) h = absurd (true_false false h.derives.0 refl)

  row_agreed : (i j : ℕ) (ps : Trees) (n : ℕ) (ds : Trees) → AllSit ts p ds → Agreed p (events_of file kind.File i j ps n ds)
  row_agreed i j ps n none h = tt
  row_agreed i j ps n (skip ds) h = row_agreed i j ps (suc n) ds h
  row_agreed i j ps n (more d ds) h =
      agreed_append p (events (around_part i j ps n d (is_more ds)) d) (events_of (pass file d) kind.File i j ps (suc n) ds)
      (part_agreed i j ps n d (is_more ds) h.0)
      (subst (λ c. Agreed p (events_of c kind.File i j ps (suc n) ds)) (sym (next d h.0)) (row_agreed i j ps (suc n) ds h.1))

  pub next_imports : (d : Tree) → Derives ts category.Imports d → pass file d ≡ file
  next_imports (node kind.Imports i j ps) h = refl
  next_imports (node k i j ps) h = absurd (true_false false h.0 refl)

  imports_context : (i j : ℕ) (ps : Trees) (d : Tree) (b : Bool) → Derives ts category.Imports d → ContextIn (first d) (last d) (around_part i j ps 0 d b)
  imports_context i j ps (node kind.Imports k l qs) b h = record { site = tt; specification = tt; source = tt; role = tt }
  imports_context i j ps (node k x y qs) b h = absurd (true_false false h.0 refl)

pub file_agreed : (ts : List TokenKind) (t : Tree) → IsFile ts t → Agreed (in_bodies (parts t)) (events (file_context (last t)) t)
file_agreed ts (node kind.File i j none) f = absurd f.derives.1
file_agreed ts (node kind.File i j (skip ps)) f = row_agreed ts (in_bodies ps) j i j (skip ps) 0 (skip ps) (file_sat ts (node kind.File i j (skip ps)) f)
file_agreed ts (node kind.File i j (more d ds)) f =
    let p : ℕ → Bool = in_bodies (more d ds) in
    let ps = more d ds in
    let sat : OthersSit ts p ps = file_sat ts (node kind.File i j ps) f in
    let g : Derives ts category.Imports d = f.derives.1.1 in
    let c : Context = around_part ts p j i j ps 0 d (is_more ds) in
    agreed_append p (events c d) (events_of (pass (file_context j) d) kind.File i j ps 1 ds)
    (plain_agreed ts p j c d (derives_laid ts d category.Imports g) (imports_context ts p j i j ps d (is_more ds) g) sat.2)
    (subst (λ x. Agreed p (events_of x kind.File i j ps 1 ds)) (sym (next_imports ts p j d g)) (row_agreed ts p j i j ps 1 ds sat.3))
file_agreed ts (node k i j ps) f = absurd (true_false false f.derives.0 refl)
