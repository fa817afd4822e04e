-- What the header of a function tells.
use Rattle.std.proofs.Common.{◌≡◌, ◌∙◌, ℕ, suc, ◌<◌, ◌≤◌, Bool, true, false, List, [], ◌∷◌, ◌++◌, Some, None, refl, sym, subst, arith}
use Rattle.std.specs.Prelude.{if◌then◌else◌, nat_lt, is_some, slice_get}
use Rattle.go_tokens.specs.declared.token.TokenKind.{TokenKind}
use Rattle.go_grammar.specs.declared.kind.Kind.TheVariants as kind
use Rattle.go_grammar.specs.declared.kind.Place.TheVariants as place
use Rattle.go_grammar.specs.declared.kind.Category.TheVariants as category
use Rattle.go_grammar.specs.Trees.{Tree, node, Trees, none, more, skip, kind_of, first, last, parts}
use Rattle.go_grammar.specs.Grammar.{IsFile, rule, Derives, ends_named}
use Rattle.go_rewriting.proofs.Public.{tree_order}
use Rattle.go_tree.specs.declared.context.Block.{Block}
use Rattle.go_tree.specs.declared.context.Block.TheVariants as block
use Rattle.go_tree.specs.declared.context.Role.TheVariants as role
use Rattle.go_tree.specs.declared.context.Context.{Context}
use Rattle.go_tree.specs.declared.event.Declaration.{Declaration}
use Rattle.go_tree.specs.declared.event.Event.{Event}
use Rattle.go_tree.specs.declared.event.Event.TheVariants as event
use Rattle.go_tree.specs.Contexts.{is_there, is_package, file_context, enter}
use Rattle.go_tree.specs.Events.{function_events, declaration_events, is_more, pass, begin, events, events_of}
use Rattle.go_tree.specs.Lists.{is_function, functions}
use Rattle.go_tree.specs.Views.{part_at}
use Rattle.go_scopes_events.specs.Orders.{EachDeclared, IsOuter}
use Rattle.go_scopes_events.proofs.Public.{IsInner, derives_inner, spells_inner, rule_inner, true_false, Function, IsPlain, AreLayered, derives_layered, each_append, each_map, derives_outside, derives_laid, events_order}
use Rattle.go_heads.specs.Heads.{body_of, in_bodies, without_body}
use Rattle.go_heads.proofs.Public.{inside, Framed, framed, Sits, AllSit, OthersSit, file_sat, function_kind, NamesIn, ordered_names, Shared, tree_shared}
use Rattle.go_package_defs.specs.Declarations.{first_part}
use Rattle.go_heads_types.proofs.Sited.{NamesNone, around_part, next, next_imports}

-- What a function tells: its own name, what its signature tells, and what its body tells.
pub record Headed (p : ℕ → Bool) (t : Tree) (es : List Event) : Type 0 where
  pub signature : Tree
  pub around : Context
  pub front : List Event
  pub rest : List Event
  pub whole : es ≡ front ++ (events around signature ++ rest)
  pub shared : EachDeclared (λ d. is_package d.block ≡ true) front
  pub inner : EachDeclared (λ d. p d.name ≡ true) rest
  pub plain : IsPlain signature
  pub declares_none : NamesNone around.role
  pub operand : around.role ≡ role.Operand
  pub parameters : is_some around.parameters ≡ is_some (body_of t)
  pub group : around.group ≡ None
  pub begins : first_part (parts (without_body t)) ≡ Some signature
  pub names : NamesIn (first t) (last (without_body t)) (events around signature)

each_named : (p : ℕ → Bool) (lo hi : ℕ) (es : List Event) → ((n : ℕ) → lo ≤ n → n < hi → p n ≡ true) → NamesIn lo hi es → EachDeclared (λ d. p d.name ≡ true) es
each_named p lo hi [] f h = tt
each_named p lo hi (event.Declaration d ∷ es) f h = (f d.name h.0 h.1, each_named p lo hi es f h.2)
each_named p lo hi (event.Use u ∷ es) f h = each_named p lo hi es f h.2
each_named p lo hi (event.Import i ∷ es) f h = each_named p lo hi es f h
each_named p lo hi (event.Member m g i ∷ es) f h = each_named p lo hi es f h
each_named p lo hi (event.Bodiless i j ∷ es) f h = each_named p lo hi es f h
each_named p lo hi (event.Statement i j ∷ es) f h = each_named p lo hi es f h
each_named p lo hi (event.Misplaced i j ∷ es) f h = each_named p lo hi es f h
each_named p lo hi (event.SecondDefault i ∷ es) f h = each_named p lo hi es f h

names_wider : (lo hi b : ℕ) (es : List Event) → hi ≤ b → NamesIn lo hi es → NamesIn lo b es
names_wider lo hi b [] le h = tt
names_wider lo hi b (event.Declaration d ∷ es) le h = (h.0, omega (arith, h.1, le), names_wider lo hi b es le h.2)
names_wider lo hi b (event.Use u ∷ es) le h = (h.0, omega (arith, h.1, le), names_wider lo hi b es le h.2)
names_wider lo hi b (event.Import i ∷ es) le h = names_wider lo hi b es le h
names_wider lo hi b (event.Member m g i ∷ es) le h = names_wider lo hi b es le h
names_wider lo hi b (event.Bodiless i j ∷ es) le h = names_wider lo hi b es le h
names_wider lo hi b (event.Statement i j ∷ es) le h = names_wider lo hi b es le h
names_wider lo hi b (event.Misplaced i j ∷ es) le h = names_wider lo hi b es le h
names_wider lo hi b (event.SecondDefault i ∷ es) le h = names_wider lo hi b es le h

module _ (ts : List TokenKind) (p : ℕ → Bool) (e : ℕ) where
  front_shared : (i j : ℕ) (ps : Trees) → EachDeclared (λ d. is_package d.block ≡ true) (declaration_events i j ps)
  front_shared i j ps = by (nat_lt i j) (is_there (part_at ps 1))
    where
      by : (b y : Bool) → EachDeclared (λ d. is_package d.block ≡ true) (if b then function_events i j y else [])
      by true true = (refl, tt)
      by true false = (refl, tt)
      by false y = tt

  declared_headed : (i j : ℕ) (ps : Trees) → Sits ts p (node kind.FunctionDeclaration i j ps) → Headed p (node kind.FunctionDeclaration i j ps) (events (file_context e) (node kind.FunctionDeclaration i j ps))
  declared_headed i j none h = absurd h.derives.1
  declared_headed i j (skip ps) h = absurd h.derives.1
  declared_headed i j (more s none) h = absurd h.derives.1.2
  declared_headed i j (more s (skip (more q qs))) h = absurd h.derives.1.2.2
  declared_headed i j (more s (skip (skip qs))) h = absurd h.derives.1.2.2
  declared_headed i j (more s (more b (more q qs))) h = absurd h.derives.1.2.2
  declared_headed i j (more s (more b (skip qs))) h = absurd h.derives.1.2.2
  declared_headed i j (more s (skip none)) h =
      let ps = more s (skip none) in
      let tree = node kind.FunctionDeclaration i j ps in
      let f : Framed p tree = framed ts p tree refl h in
      let name : suc (suc i) ≡ first s = h.derives.1.0.1.1 in
      let layered : AreLayered Function ps = derives_layered ts tree category.Declaration h.derives in
      let around : Context = enter (begin (file_context e) kind.FunctionDeclaration) kind.FunctionDeclaration i j ps (ends_named ps) 0 s false in
      record {
        signature = s;
        around = around;
        front = declaration_events i j ps;
        rest = [];
        whole = refl;
        shared = front_shared i j ps;
        inner = tt;
        plain = layered.0;
        declares_none = tt;
        operand = refl;
        parameters = refl;
        group = refl;
        begins = refl;
        names = names_wider i (last s) j (events around s) f.order.1.2 (ordered_names i (first s) (last s) (events around s) (omega (arith, name)) (events_order around s (derives_laid ts s category.Signature h.derives.1.1)));
      }
  declared_headed i j (more s (more b none)) h =
      let ps = more s (more b none) in
      let tree = node kind.FunctionDeclaration i j ps in
      let f : Framed p tree = framed ts p tree refl h in
      let name : suc (suc i) ≡ first s = h.derives.1.0.1.1 in
      let in_s : first s < last s = tree_order s f.order.1.1 in
      let ends : last s ≤ first b = f.order.1.2 in
      let body = f.ends b refl in
      let layered : AreLayered Function ps = derives_layered ts tree category.Declaration h.derives in
      let front : Context = begin (file_context e) kind.FunctionDeclaration in
      let around : Context = enter front kind.FunctionDeclaration i j ps (ends_named ps) 0 s true in
      let inner : Context = enter (pass front s) kind.FunctionDeclaration i j ps (ends_named ps) 1 b false in
      let within : (x : ℕ) → first b ≤ x → x < last b → p x ≡ true = λ x lo hi. h.own x (omega (arith, lo, ends, in_s, name)) (omega (arith, hi, body.1)) ∙ inside b x lo hi in
      record {
        signature = s;
        around = around;
        front = declaration_events i j ps;
        rest = events inner b ++ [];
        whole = refl;
        shared = front_shared i j ps;
        inner = each_append (λ d. p d.name ≡ true) (events inner b) [] (each_named p (first b) (last b) (events inner b) within
            (ordered_names (first b) (first b) (last b) (events inner b) (omega arith) (events_order inner b (derives_laid ts b category.Block h.derives.1.2.1)))) tt;
        plain = layered.0;
        declares_none = tt;
        operand = refl;
        parameters = refl;
        group = refl;
        begins = refl;
        names =
            names_wider i (last s) (first b) (events around s) ends
            (ordered_names i (first s) (last s) (events around s) (omega (arith, name)) (events_order around s (derives_laid ts s category.Signature h.derives.1.1)));
      }

  pub headed : (t : Tree) → is_function (kind_of t) ≡ true → Sits ts p t → Headed p t (events (file_context e) t)
  headed (node k i j ps) f h =
      let same : k ≡ kind.FunctionDeclaration = function_kind k f in
      subst (λ x. Headed p (node x i j ps) (events (file_context e) (node x i j ps))) (sym same) (declared_headed i j ps (subst (λ x. Sits ts p (node x i j ps)) same h))

-- ---- locals are declared in functions

-- the token stands in a function
pub record InFunction (us : List Tree) (n : ℕ) : Type 0 where
  pub number : ℕ
  pub tree : Tree
  pub there : slice_get us number ≡ Some tree
  pub from : first tree ≤ n
  pub upto : n < last tree

module _ (ts : List TokenKind) (p : ℕ → Bool) where
  abbrev IsIn : List Tree → Declaration → Type 0
  IsIn us d = is_package d.block ≡ false → InFunction us d.name

  later : (c : Bool) (t : Tree) (us : List Tree) (n : ℕ) → InFunction us n → InFunction (if c then t ∷ us else us) n
  later true t us n h = record { number = suc h.number; tree = h.tree; there = h.there; from = h.from; upto = h.upto }
  later false t us n h = h

  shared_in : (us : List Tree) (d : Declaration) → Shared d → IsIn us d
  shared_in us d h e = absurd (by d.block h e)
    where
      by : (b : Block) → IsOuter b → is_package b ≡ false → ⊥
      by block.Package g f = true_false true refl f
      by (block.Local i) g f = g

  here : (t : Tree) (us : List Tree) (lo hi : ℕ) (es : List Event) → first t ≤ lo → hi ≤ last t → NamesIn lo hi es → EachDeclared (IsIn (t ∷ us)) es
  here t us lo hi [] a b h = tt
  here t us lo hi (event.Declaration d ∷ es) a b h =
      (λ e. record { number = 0; tree = t; there = refl; from = omega (arith, a, h.0); upto = omega (arith, b, h.1) }, here t us lo hi es a b h.2)
  here t us lo hi (event.Use u ∷ es) a b h = here t us lo hi es a b h.2
  here t us lo hi (event.Import i ∷ es) a b h = here t us lo hi es a b h
  here t us lo hi (event.Member m g i ∷ es) a b h = here t us lo hi es a b h
  here t us lo hi (event.Bodiless i j ∷ es) a b h = here t us lo hi es a b h
  here t us lo hi (event.Statement i j ∷ es) a b h = here t us lo hi es a b h
  here t us lo hi (event.Misplaced i j ∷ es) a b h = here t us lo hi es a b h
  here t us lo hi (event.SecondDefault i ∷ es) a b h = here t us lo hi es a b h

  module _ (e : ℕ) where
    part_in : (i j : ℕ) (ps : Trees) (n : ℕ) (d : Tree) (b : Bool) (us : List Tree) → Sits ts p d → EachDeclared (IsIn (if is_function (kind_of d) then d ∷ us else us)) (events (around_part ts p e i j ps n d b) d)
    part_in i j ps n (node kind.FunctionDeclaration k l qs) b us h =
        let d = node kind.FunctionDeclaration k l qs in
        let c : Context = around_part ts p e i j ps n d b in
        here d us k l (events c d) (omega arith) (omega arith) (ordered_names k k l (events c d) (omega arith) (events_order c d (derives_laid ts d category.Declaration h.derives)))
    part_in i j ps n (node (kind.Declaration s) k l qs) b us h =
        let d = node (kind.Declaration s) k l qs in
        let c : Context = around_part ts p e i j ps n d b in
        let inner : IsInner d = (refl, spells_inner ts qs (rule place.Free (kind.Declaration s)) k l (rule_inner place.Free (kind.Declaration s) refl) h.derives.1) in
        each_map Shared (IsIn us) (events c d) (shared_in us) (tree_shared c d (derives_outside ts d category.Declaration refl h.derives) inner (record { block = tt; role = tt; parameters = tt }))
    part_in i j ps n (node k x y qs) b us h = absurd (true_false false h.derives.0 refl)

    row_in : (i j : ℕ) (ps : Trees) (n : ℕ) (ds : Trees) → AllSit ts p ds → EachDeclared (IsIn (functions ds)) (events_of (file_context e) kind.File i j ps n ds)
    row_in i j ps n none h = tt
    row_in i j ps n (skip ds) h = row_in i j ps (suc n) ds h
    row_in i j ps n (more d ds) h =
        let rest : List Event = events_of (file_context e) kind.File i j ps (suc n) ds in
        each_append (IsIn (functions (more d ds))) (events (around_part ts p e i j ps n d (is_more ds)) d) (events_of (pass (file_context e) d) kind.File i j ps (suc n) ds)
        (part_in i j ps n d (is_more ds) (functions ds) h.0)
        (subst (λ c. EachDeclared (IsIn (functions (more d ds))) (events_of c kind.File i j ps (suc n) ds)) (sym (next ts p e d h.0))
        (each_map (IsIn (functions ds)) (IsIn (functions (more d ds))) rest (λ c g l. later (is_function (kind_of d)) d (functions ds) c.name (g l)) (row_in i j ps (suc n) ds h.1)))

pub locals_in_functions : (ts : List TokenKind) (t : Tree) → IsFile ts t → EachDeclared (λ d. is_package d.block ≡ false → InFunction (functions (parts t)) d.name) (events (file_context (last t)) t)
locals_in_functions ts (node kind.File i j none) f = absurd f.derives.1
locals_in_functions ts (node kind.File i j (skip ps)) f = row_in ts (in_bodies ps) j i j (skip ps) 0 (skip ps) (file_sat ts (node kind.File i j (skip ps)) f)
locals_in_functions ts (node kind.File i j (more d ds)) f =
    let p : ℕ → Bool = in_bodies (more d ds) in
    let ps = more d ds in
    let us : List Tree = functions ps in
    let sat : OthersSit ts p ps = file_sat ts (node kind.File i j ps) f in
    let g : Derives ts category.Imports d = f.derives.1.1 in
    let c : Context = around_part ts p j i j ps 0 d (is_more ds) in
    let rest : List Event = events_of (file_context j) kind.File i j ps 1 ds in
    each_append (IsIn ts p us) (events c d) (events_of (pass (file_context j) d) kind.File i j ps 1 ds)
    (each_map Shared (IsIn ts p us) (events c d) (shared_in ts p us)
    (tree_shared c d (derives_outside ts d category.Imports refl g) (derives_inner ts d category.Imports refl g) (record { block = tt; role = tt; parameters = tt })))
    (subst (λ x. EachDeclared (IsIn ts p us) (events_of x kind.File i j ps 1 ds)) (sym (next_imports ts p j d g))
    (each_map (IsIn ts p (functions ds)) (IsIn ts p us) rest (λ x k l. later ts p (is_function (kind_of d)) d (functions ds) x.name (k l)) (row_in ts p j i j ps 1 ds sat.3)))
locals_in_functions ts (node k i j ps) f = absurd (true_false false f.derives.0 refl)
