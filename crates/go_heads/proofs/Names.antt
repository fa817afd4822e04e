-- The names that a function declares in its package are those that it declares by itself.
use Rattle.std.proofs.Common.{◌≡◌, ◌∙◌, ℕ, zero, suc, ◌+◌, ◌-◌, ◌<◌, ◌≤◌, Bool, true, false, List, [], ◌∷◌, ◌++◌, map, Some, refl, sym, ap, subst, append_assoc, arith}
use Rattle.std.specs.Prelude.{if◌then◌else◌, nat_eq, nat_lt, slice_get}
use Rattle.std.proofs.lemmas.Bool.Decides.{nat_tests}
use Rattle.go_tokens.specs.declared.token.TokenKind.{TokenKind}
use Rattle.go_tokens.specs.Tokens.{TokenList, kinds}
use Rattle.go_grammar.specs.declared.kind.Kind.TheVariants as kind
use Rattle.go_grammar.specs.declared.kind.Place.TheVariants as place
use Rattle.go_grammar.specs.declared.kind.Category.TheVariants as category
use Rattle.go_grammar.specs.Trees.{Tree, node, Trees, none, more, skip, kind_of, first, last, parts}
use Rattle.go_grammar.specs.Grammar.{IsFile, rule, Derives, ends_named}
use Rattle.go_rewriting.specs.Lists.{InOrder, Ordered}
use Rattle.go_rewriting.proofs.Public.{tree_order, row_order, derives_ordered}
use Rattle.go_tree.specs.declared.context.Block.{Block}
use Rattle.go_tree.specs.declared.context.Block.TheVariants as block
use Rattle.go_tree.specs.declared.context.Manner.TheVariants as manner
use Rattle.go_tree.specs.declared.context.Context.{Context}
use Rattle.go_tree.specs.declared.event.Declaration.{Declaration}
use Rattle.go_tree.specs.declared.event.Event.{Event}
use Rattle.go_tree.specs.declared.event.Event.TheVariants as event
use Rattle.go_tree.specs.Contexts.{is_there, is_package, file_context, enter}
use Rattle.go_tree.specs.Declarations.{Found, found, found_in, found_from, found_event, new_among}
use Rattle.go_tree.specs.Events.{function_events, declaration_events, is_more, pass, begin, events, events_of}
use Rattle.go_tree.specs.Lists.{is_function, functions}
use Rattle.go_tree.specs.Views.{part_at}
use Rattle.go_tree.specs.Units.{word}
use Rattle.go_scopes_events.specs.Moved.{moved_block, moved_declaration, moved_event}
use Rattle.go_scopes_events.specs.Orders.{AreInOrder, EachDeclared}
use Rattle.go_scopes_events.proofs.Public.{IsInner, derives_inner, spells_inner, rule_inner, each_between, true_false, each_append, each_map, LieIn, derives_laid, events_order, parts_order}
use Rattle.go_heads.specs.Functions.{AreRead, alone}
use Rattle.go_heads.specs.Heads.{File, IsRead, in_bodies}
use Rattle.go_heads.proofs.Functions.{some_none, same_some}
use Rattle.go_heads.proofs.Outlines.{Sits, AllSit, OthersSit, file_sat}
use Rattle.go_heads.specs.Objects.{units_of}
use Rattle.go_heads.specs.Told.{file_events}
use Rattle.go_heads.proofs.Declared.{IsHeaded, file_headed, each_both}
use Rattle.go_heads.specs.Bodies.{function_events as own_tells}
use Rattle.go_heads.specs.Names.{own_text, found_by, in_file, DeclaresByItself}
use Rattle.go_heads.proofs.Blocks.{In, IsIn, tree_in}
use Rattle.go_heads.proofs.HeadBodies.{tells}
use Rattle.go_heads.proofs.Fresh.{Every, every_append, each_unmap, texts_at, Aside, Other, other_found, other_aside, same_aside, found_moved, Fine, all_new, one_fine}

pub found_append : (n : ℕ) (l : TokenList) (es fs : List Event) → found_in n l (es ++ fs) ≡ found_in n l es ++ found_in n l fs
found_append n l [] fs = refl
found_append n l (event.Declaration d ∷ es) fs = ap (found_event n l (event.Declaration d)) (found_append n l es fs)
found_append n l (e ∷ es) fs = found_append n l es fs

pub each_left : (Q : Declaration → Type 0) (es fs : List Event) → EachDeclared Q (es ++ fs) → EachDeclared Q es
each_left Q [] fs h = tt
each_left Q (event.Declaration d ∷ es) fs h = (h.0, each_left Q es fs h.1)
each_left Q (e ∷ es) fs h = each_left Q es fs h

pub each_right : (Q : Declaration → Type 0) (es fs : List Event) → EachDeclared Q (es ++ fs) → EachDeclared Q fs
each_right Q [] fs h = h
each_right Q (event.Declaration d ∷ es) fs h = each_right Q es fs h.1
each_right Q (e ∷ es) fs h = each_right Q es fs h

in_wider : (a b lo hi : ℕ) → lo ≤ a → b ≤ hi → (d : Declaration) → IsIn a b d → IsIn lo hi d
in_wider a b lo hi from to d h = by d.block h
  where
    by : (b' : Block) → In a b b' → In lo hi b'
    by block.Package g = tt
    by (block.Local x) g = (omega (arith, from, g.0), omega (arith, to, g.1))

wider : (a b lo hi : ℕ) (es : List Event) → lo ≤ a → b ≤ hi → EachDeclared (IsIn a b) es → EachDeclared (IsIn lo hi) es
wider a b lo hi es from to h = each_map (IsIn a b) (IsIn lo hi) es (in_wider a b lo hi from to) h

-- the names that are declared or looked up stand from the token lo on and before the token hi
abbrev pub NamesIn : ℕ → ℕ → List Event → Type 0
NamesIn lo hi [] = Unit {0}
NamesIn lo hi (event.Declaration d ∷ es) = (lo ≤ d.name) × (d.name < hi) × NamesIn lo hi es
NamesIn lo hi (event.Use u ∷ es) = (lo ≤ u.name) × (u.name < hi) × NamesIn lo hi es
NamesIn lo hi (e ∷ es) = NamesIn lo hi es

names_wider : (a b lo hi : ℕ) (es : List Event) → lo ≤ a → b ≤ hi → NamesIn a b es → NamesIn lo hi es
names_wider a b lo hi [] from to h = tt
names_wider a b lo hi (event.Declaration d ∷ es) from to h = (omega (arith, from, h.0), omega (arith, to, h.1), names_wider a b lo hi es from to h.2)
names_wider a b lo hi (event.Use u ∷ es) from to h = (omega (arith, from, h.0), omega (arith, to, h.1), names_wider a b lo hi es from to h.2)
names_wider a b lo hi (e ∷ es) from to h = names_wider a b lo hi es from to h

names_append : (lo hi : ℕ) (es fs : List Event) → NamesIn lo hi es → NamesIn lo hi fs → NamesIn lo hi (es ++ fs)
names_append lo hi [] fs h g = g
names_append lo hi (event.Declaration d ∷ es) fs h g = (h.0, h.1, names_append lo hi es fs h.2 g)
names_append lo hi (event.Use u ∷ es) fs h g = (h.0, h.1, names_append lo hi es fs h.2 g)
names_append lo hi (e ∷ es) fs h g = names_append lo hi es fs h g

order_grows : (i j : ℕ) (es : List Event) → AreInOrder i j es → i ≤ j
order_grows i j [] o = o
order_grows i j (event.Declaration d ∷ es) o = omega (arith, o.0, order_grows (suc d.name) j es o.1)
order_grows i j (event.Use u ∷ es) o = omega (arith, o.0, order_grows (suc u.name) j es o.1)
order_grows i j (e ∷ es) o = order_grows i j es o

pub ordered_names : (lo i j : ℕ) (es : List Event) → lo ≤ i → AreInOrder i j es → NamesIn lo j es
ordered_names lo i j [] le o = tt
ordered_names lo i j (event.Declaration d ∷ es) le o =
    (omega (arith, le, o.0), omega (arith, order_grows (suc d.name) j es o.1), ordered_names lo (suc d.name) j es (omega (arith, le, o.0)) o.1)
ordered_names lo i j (event.Use u ∷ es) le o =
    (omega (arith, le, o.0), omega (arith, order_grows (suc u.name) j es o.1), ordered_names lo (suc u.name) j es (omega (arith, le, o.0)) o.1)
ordered_names lo i j (e ∷ es) le o = ordered_names lo i j es le o

-- ---- the parts of a file

module _ (ts : List TokenKind) (p : ℕ → Bool) (e : ℕ) where
  abbrev file : Context
  file = file_context e

  own_block : (i j a b : ℕ) (ps : Trees) → EachDeclared (IsIn a b) (declaration_events i j ps)
  own_block i j a b ps = by (nat_lt i j) (is_there (part_at ps 1))
    where
      by : (x y : Bool) → EachDeclared (IsIn a b) (if x then function_events i j y else [])
      by true true = (tt, tt)
      by true false = (tt, tt)
      by false y = tt

  function_in : (i j : ℕ) (ps : Trees) → Sits ts p (node kind.FunctionDeclaration i j ps) → EachDeclared (IsIn i j) (events file (node kind.FunctionDeclaration i j ps))
  function_in i j none h = absurd h.derives.1
  function_in i j (skip ps) h = absurd h.derives.1
  function_in i j (more s none) h = absurd h.derives.1.2
  function_in i j (more s (skip (more q qs))) h = absurd h.derives.1.2.2
  function_in i j (more s (skip (skip qs))) h = absurd h.derives.1.2.2
  function_in i j (more s (more b (more q qs))) h = absurd h.derives.1.2.2
  function_in i j (more s (more b (skip qs))) h = absurd h.derives.1.2.2
  function_in i j (more s (skip none)) h =
      let ps = more s (skip none) in
      let order : InOrder (node kind.FunctionDeclaration i j ps) = derives_ordered ts (node kind.FunctionDeclaration i j ps) category.Declaration h.derives in
      let around : Context = enter (begin file kind.FunctionDeclaration) kind.FunctionDeclaration i j ps (ends_named ps) 0 s false in
      each_append (IsIn i j) (declaration_events i j ps) (events around s ++ []) (own_block i j i j ps)
      (each_append (IsIn i j) (events around s) []
      (tree_in i j around s (derives_inner ts s category.Signature refl h.derives.1.1) (derives_laid ts s category.Signature h.derives.1.1) order.1.0 order.1.2 tt tt tt) tt)
  function_in i j (more s (more b none)) h =
      let ps = more s (more b none) in
      let order : InOrder (node kind.FunctionDeclaration i j ps) = derives_ordered ts (node kind.FunctionDeclaration i j ps) category.Declaration h.derives in
      let in_s : first s < last s = tree_order s order.1.1 in
      let in_b : first b < last b = tree_order b order.1.2.1 in
      let front : Context = begin file kind.FunctionDeclaration in
      let around : Context = enter front kind.FunctionDeclaration i j ps (ends_named ps) 0 s true in
      let inner : Context = enter (pass front s) kind.FunctionDeclaration i j ps (ends_named ps) 1 b false in
      each_append (IsIn i j) (declaration_events i j ps) (events around s ++ (events inner b ++ [])) (own_block i j i j ps)
      (each_append (IsIn i j) (events around s) (events inner b ++ [])
      (tree_in i j around s (derives_inner ts s category.Signature refl h.derives.1.1) (derives_laid ts s category.Signature h.derives.1.1) order.1.0 (omega (arith, in_b, order.1.2.0, order.1.2.2)) tt tt
      (omega (arith, order.1.0, in_s), omega (arith, in_b, order.1.2.0, order.1.2.2)))
      (each_append (IsIn i j) (events inner b) []
      (tree_in i j inner b (derives_inner ts b category.Block refl h.derives.1.2.1) (derives_laid ts b category.Block h.derives.1.2.1) (omega (arith, order.1.0, in_s, order.1.2.0)) order.1.2.2 tt tt tt) tt))

  -- the context of a declaration in the file
  abbrev pub around_part : ℕ → ℕ → Trees → ℕ → Tree → Bool → Context
  around_part i j ps n d b = enter file kind.File i j ps (ends_named ps) n d b

  pub function_there : (i j : ℕ) (ps : Trees) (n k l : ℕ) (qs : Trees) (b : Bool) → Derives ts category.Declaration (node kind.FunctionDeclaration k l qs)
      → events (around_part i j ps n (node kind.FunctionDeclaration k l qs) b) (node kind.FunctionDeclaration k l qs) ≡ events file (node kind.FunctionDeclaration k l qs)
  function_there i j ps n k l none b h = absurd h.1
  function_there i j ps n k l (skip qs) b h = absurd h.1
  function_there i j ps n k l (more s none) b h = absurd h.1.2
  function_there i j ps n k l (more s (skip (more q qs))) b h = absurd h.1.2.2
  function_there i j ps n k l (more s (skip (skip qs))) b h = absurd h.1.2.2
  function_there i j ps n k l (more s (skip none)) b h = refl
  function_there i j ps n k l (more s (more q (more r qs))) b h = absurd h.1.2.2
  function_there i j ps n k l (more s (more q (skip qs))) b h = absurd h.1.2.2
  function_there i j ps n k l (more s (more q none)) b h = refl

  -- a declaration in the file: where its blocks begin, what its tree tells if it is a function, and what surrounds the next part
  pub record Part (i j : ℕ) (ps : Trees) (n : ℕ) (d : Tree) (b : Bool) : Type 0 where
    pub blocks : EachDeclared (IsIn (first d) (last d)) (events (around_part i j ps n d b) d)
    pub tells : is_function (kind_of d) ≡ true → events (around_part i j ps n d b) d ≡ events file d
    pub next : pass file d ≡ file

  part_of : (i j : ℕ) (ps : Trees) (n : ℕ) (d : Tree) (b : Bool) → Sits ts p d → Part i j ps n d b
  part_of i j ps n (node kind.FunctionDeclaration k l qs) b h =
      let there = function_there i j ps n k l qs b h.derives in
      record {
        blocks = subst (EachDeclared (IsIn k l)) (sym there) (function_in k l qs h);
        tells = λ e. there;
        next = refl;
      }
  part_of i j ps n (node (kind.Declaration s) k l qs) b h =
      let d : Tree = node (kind.Declaration s) k l qs in
      let inner : IsInner d = (refl, spells_inner ts qs (rule place.Free (kind.Declaration s)) k l (rule_inner place.Free (kind.Declaration s) refl) h.derives.1) in
      record {
        blocks = tree_in k l (around_part i j ps n d b) d inner (derives_laid ts d category.Declaration h.derives) (omega arith) (omega arith) tt tt tt;
        tells = λ f. absurd (true_false false f refl);
        next = refl;
      }
  part_of i j ps n (node k x y qs) b h = absurd (true_false false h.derives.0 refl)

  row_in : (i j : ℕ) (ps : Trees) (n : ℕ) (ds : Trees) (lo : ℕ) → AllSit ts p ds → Ordered lo ds e → EachDeclared (IsIn lo e) (events_of file kind.File i j ps n ds)
  row_in i j ps n none lo h o = tt
  row_in i j ps n (skip ds) lo h o = row_in i j ps (suc n) ds lo h o
  row_in i j ps n (more d ds) lo h o =
      let part = part_of i j ps n d (is_more ds) h.0 in
      let in_d : first d < last d = tree_order d o.1 in
      let rest : last d ≤ e = row_order ds (last d) e o.2 in
      each_append (IsIn lo e) (events (around_part i j ps n d (is_more ds)) d) (events_of (pass file d) kind.File i j ps (suc n) ds)
      (wider (first d) (last d) lo e (events (around_part i j ps n d (is_more ds)) d) o.0 rest part.blocks)
      (subst (λ c. EachDeclared (IsIn lo e) (events_of c kind.File i j ps (suc n) ds)) (sym part.next)
      (wider (last d) e lo e (events_of file kind.File i j ps (suc n) ds) (omega (arith, o.0, in_d)) (omega arith) (row_in i j ps (suc n) ds (last d) h.1 o.2)))

  row_lies : (ds : Trees) (lo : ℕ) → AllSit ts p ds → Ordered lo ds e → LieIn lo e ds
  row_lies none lo h o = o
  row_lies (skip ds) lo h o = row_lies ds lo h o
  row_lies (more d ds) lo h o = (o.0, derives_laid ts d category.Declaration h.0.derives, row_lies ds (last d) h.1 o.2)

  part_names : (i j : ℕ) (ps : Trees) (n : ℕ) (d : Tree) (b : Bool) → Sits ts p d → NamesIn (first d) (last d) (events (around_part i j ps n d b) d)
  part_names i j ps n d b h =
      ordered_names (first d) (first d) (last d) (events (around_part i j ps n d b) d) (omega arith) (events_order (around_part i j ps n d b) d (derives_laid ts d category.Declaration h.derives))

  -- a function in what the file tells
  pub record Stands (es : List Event) (t : Tree) : Type 0 where
    pub sits : Sits ts p t
    pub function : is_function (kind_of t) ≡ true
    pub before : List Event
    pub behind : List Event
    pub whole : es ≡ before ++ (events file t ++ behind)
    pub front : EachDeclared (IsIn 0 (first t)) before
    pub back : EachDeclared (IsIn (last t) e) behind
    pub blocks : EachDeclared (IsIn (first t) (last t)) (events file t)
    pub names_before : NamesIn 0 (first t) before
    pub names_behind : NamesIn (last t) e behind

  abbrev pub AllStand : List Event → List Tree → Type 0
  AllStand es [] = Unit {0}
  AllStand es (t ∷ us) = Stands es t × AllStand es us

  row_stands : (es : List Event) (i : ℕ) (ps : Trees) (n : ℕ) (ds : Trees) (lo : ℕ) (before : List Event) → AllSit ts p ds → Ordered lo ds e → EachDeclared (IsIn 0 lo) before → NamesIn 0 lo before
      → es ≡ before ++ events_of file kind.File i e ps n ds → AllStand es (functions ds)
  row_stands es i ps n none lo before h o f g w = tt
  row_stands es i ps n (skip ds) lo before h o f g w = row_stands es i ps (suc n) ds lo before h o f g w
  row_stands es i ps n (more d ds) lo before h o f g w =
      let part = part_of i e ps n d (is_more ds) h.0 in
      let here : List Event = events (around_part i e ps n d (is_more ds)) d in
      let rest : List Event = events_of file kind.File i e ps (suc n) ds in
      let in_d : first d < last d = tree_order d o.1 in
      let split : es ≡ before ++ (here ++ rest) = w ∙ ap (λ c. before ++ (here ++ events_of c kind.File i e ps (suc n) ds)) part.next in
      let front : EachDeclared (IsIn 0 (first d)) before = wider 0 lo 0 (first d) before (omega arith) o.0 f in
      let more_before : EachDeclared (IsIn 0 (last d)) (before ++ here) =
      each_append (IsIn 0 (last d)) before here (wider 0 lo 0 (last d) before (omega arith) (omega (arith, o.0, in_d)) f) (wider (first d) (last d) 0 (last d) here (omega arith) (omega arith) part.blocks) in
      let names : NamesIn 0 (first d) before = names_wider 0 lo 0 (first d) before (omega arith) o.0 g in
      let more_names : NamesIn 0 (last d) (before ++ here) =
      names_append 0 (last d) before here (names_wider 0 lo 0 (last d) before (omega arith) (omega (arith, o.0, in_d)) g)
      (names_wider (first d) (last d) 0 (last d) here (omega arith) (omega arith) (part_names i e ps n d (is_more ds) h.0)) in
      let names_rest : NamesIn (last d) e rest = ordered_names (last d) (last d) e rest (omega arith) (parts_order file kind.File i e ps (suc n) ds (last d) (row_lies ds (last d) h.1 o.2)) in
      let others : AllStand es (functions ds) = row_stands es i ps (suc n) ds (last d) (before ++ here) h.1 o.2 more_before more_names (split ∙ sym (append_assoc before here rest)) in
      by (is_function (kind_of d)) refl part.tells part.blocks (row_in i e ps (suc n) ds (last d) h.1 o.2) split front names names_rest others
    where
      by : (c : Bool) → is_function (kind_of d) ≡ c → (is_function (kind_of d) ≡ true → events (around_part i e ps n d (is_more ds)) d ≡ events file d)
          → EachDeclared (IsIn (first d) (last d)) (events (around_part i e ps n d (is_more ds)) d) → EachDeclared (IsIn (last d) e) (events_of file kind.File i e ps (suc n) ds)
          → es ≡ before ++ (events (around_part i e ps n d (is_more ds)) d ++ events_of file kind.File i e ps (suc n) ds)
          → EachDeclared (IsIn 0 (first d)) before → NamesIn 0 (first d) before → NamesIn (last d) e (events_of file kind.File i e ps (suc n) ds) → AllStand es (functions ds)
          → AllStand es (if c then d ∷ functions ds else functions ds)
      by false x tells blocks back split front names names_rest others = others
      by true x tells blocks back split front names names_rest others = (
        record {
          sits = h.0;
          function = x;
          before = before;
          behind = events_of file kind.File i e ps (suc n) ds;
          whole = split ∙ ap (λ here. before ++ (here ++ events_of file kind.File i e ps (suc n) ds)) (tells x);
          front = front;
          back = back;
          blocks = subst (EachDeclared (IsIn (first d) (last d))) (tells x) blocks;
          names_before = names;
          names_behind = names_rest;
        },
        others,
      )

  -- the functions of a file
  pub imports_next : (d : Tree) → Derives ts category.Imports d → pass file d ≡ file
  imports_next (node kind.Imports i j ps) h = refl
  imports_next (node k i j ps) h = absurd (true_false false h.0 refl)

pub file_stands : (ts : List TokenKind) (t : Tree) → IsFile ts t → AllStand ts (in_bodies (parts t)) (last t) (events (file_context (last t)) t) (functions (parts t))
file_stands ts (node kind.File i j none) f = absurd f.derives.1
file_stands ts (node kind.File i j (skip ps)) f =
    let o : Ordered i (skip ps) j = (derives_ordered ts (node kind.File i j (skip ps)) category.File f.derives).1 in
    row_stands ts (in_bodies ps) j (events (file_context j) (node kind.File i j (skip ps))) i (skip ps) 0 (skip ps) i [] (file_sat ts (node kind.File i j (skip ps)) f) o tt tt refl
file_stands ts (node kind.File i j (more d ds)) f =
    let p : ℕ → Bool = in_bodies (more d ds) in
    let ps = more d ds in
    let o : Ordered i ps j = (derives_ordered ts (node kind.File i j ps) category.File f.derives).1 in
    let sat : OthersSit ts p ps = file_sat ts (node kind.File i j ps) f in
    let g : Derives ts category.Imports d = f.derives.1.1 in
    let here : List Event = events (around_part ts p j i j ps 0 d (is_more ds)) d in
    let blocks : EachDeclared (IsIn 0 (last d)) here =
    tree_in 0 (last d) (around_part ts p j i j ps 0 d (is_more ds)) d (derives_inner ts d category.Imports refl g) (derives_laid ts d category.Imports g) (omega arith) (omega arith) tt tt tt in
    let es : List Event = events (file_context j) (node kind.File i j ps) in
    let split : es ≡ here ++ events_of (file_context j) kind.File i j ps 1 ds = ap (λ c. here ++ events_of c kind.File i j ps 1 ds) (imports_next ts p j d g) in
    let names : NamesIn 0 (last d) here = ordered_names 0 (first d) (last d) here (omega arith) (events_order (around_part ts p j i j ps 0 d (is_more ds)) d (derives_laid ts d category.Imports g)) in
    let others : AllStand ts p j es (functions ds) = row_stands ts p j es i ps 1 ds (last d) here sat.3 o.2 blocks names split in
    subst (λ c. AllStand ts p j es (if c then d ∷ functions ds else functions ds)) (sym sat.0) others
file_stands ts (node k i j ps) f = absurd (true_false false f.derives.0 refl)

-- ---- the files of a package

-- the names of a file among those of all files
pub record Among (n : ℕ) (f : File) (ds : List Found) : Type 0 where
  pub front : List Found
  pub behind : List Found
  pub whole : ds ≡ front ++ (found_in n f.tokens (file_events f) ++ behind)
  pub front_other : Every (Other n) front
  pub behind_other : Every (Other n) behind

differs : (a b : ℕ) → a < b → nat_eq a b ≡ false
differs a b lt = grind (arith, nat_tests)

differs_too : (a b : ℕ) → b < a → nat_eq a b ≡ false
differs_too a b lt = grind (arith, nat_tests)

later : (n k : ℕ) (fs : List File) → n < k → Every (Other n) (found_from k (units_of fs))
later n k [] lt = tt
later n k (f ∷ fs) lt =
    every_append (Other n) (found_in k f.tokens (file_events f)) (found_from (suc k) (units_of fs)) (other_found n k f.tokens (file_events f) (differs n k lt)) (later n (suc k) fs (omega (arith, lt)))

pub among : (k i n : ℕ) (fs : List File) (f : File) → n ≡ k + i → slice_get fs i ≡ Some f → Among n f (found_from k (units_of fs))
among k i n [] f e there = absurd (some_none f (sym there))
among k zero n (g ∷ fs) f e there =
    let rest : List Found = found_from (suc k) (units_of fs) in
    let same : k ≡ n = omega (arith, e) in
    record {
      front = [];
      behind = rest;
      whole = ap (λ (x : File). found_in k x.tokens (file_events x) ++ rest) (same_some g f there) ∙ ap (λ i. found_in i f.tokens (file_events f) ++ rest) same;
      front_other = tt;
      behind_other = later n (suc k) fs (omega (arith, e));
    }
among k (suc i) n (g ∷ fs) f e there =
    let x : Among n f (found_from (suc k) (units_of fs)) = among (suc k) i n fs f (omega (arith, e)) there in
    let here : List Found = found_in k g.tokens (file_events g) in
    record {
      front = here ++ x.front;
      behind = x.behind;
      whole = ap (λ ds. here ++ ds) x.whole ∙ sym (append_assoc here x.front (found_in n f.tokens (file_events f) ++ x.behind));
      front_other = every_append (Other n) here x.front (other_found n k g.tokens (file_events g) (differs_too n k (omega (arith, e)))) x.front_other;
      behind_other = x.behind_other;
    }

regroup : (a b c d e : List Found) → a ++ ((b ++ (c ++ d)) ++ e) ≡ (a ++ b) ++ (c ++ (d ++ e))
regroup a b c d e = simp append_assoc

package_moved : (n : ℕ) (b : Block) → is_package (moved_block n b) ≡ is_package b
package_moved n block.Package = refl
package_moved n (block.Local i) = refl

module _ (fs : List File) (n : ℕ) (f : File) (read : IsRead f) (there : slice_get fs n ≡ Some f) (t : Tree)
    (stands : Stands (kinds f.tokens.tokens) (in_bodies (parts f.tree)) (last f.tree) (file_events f) t) where
  abbrev l : TokenList
  l = f.tokens

  abbrev a : ℕ
  a = first t

  abbrev pub told : List Event
  told = events (file_context (last f.tree)) t

  abbrev pub own : List Event
  own = own_tells (alone l t)

  abbrev pub w : ℕ → List ℕ
  w = own_text (alone l t)

  pub tell : told ≡ map (moved_event a) own
  tell = tells (kinds l.tokens) t stands.function stands.sits.derives (last f.tree)

  -- what holds of the declarations of the function in its file
  moved_back : (Q : Declaration → Type 0) → EachDeclared Q told → EachDeclared (λ d. Q (moved_declaration a d)) own
  moved_back Q h = each_unmap Q a own (subst (EachDeclared Q) tell h)

  pub words : EachDeclared (λ d. w d.name ≡ word l (a + d.name)) own
  words =
      each_map (λ d. (a ≤ a + d.name) × (a + d.name < last t)) (λ d. w d.name ≡ word l (a + d.name)) own
      (λ d h. texts_at l a (last t - a) d.name (omega (arith, h.1)))
      (moved_back (λ d. (a ≤ d.name) × (d.name < last t))
      (each_between a (last t) a (last t) told (omega arith) (omega arith) (events_order (file_context (last f.tree)) t (derives_laid (kinds l.tokens) t category.Declaration stands.sits.derives))))

  pub names_moved : found_in n l told ≡ map (in_file n l a) (found_by w own)
  names_moved = ap (found_in n l) tell ∙ found_moved n l a w own words

  abbrev pub rest : Among n f (found (units_of fs))
  rest = among 0 n n fs f (let z : n ≡ 0 + n = omega arith in z) there

  abbrev pub before : List Found
  before = rest.front ++ found_in n l stands.before

  abbrev pub behind : List Found
  behind = found_in n l stands.behind ++ rest.behind

  pub all_names : found (units_of fs) ≡ before ++ (map (in_file n l a) (found_by w own) ++ behind)
  all_names =
      rest.whole
      ∙ ap (λ ds. rest.front ++ (ds ++ rest.behind))
      (ap (found_in n l) stands.whole ∙ found_append n l stands.before (told ++ stands.behind) ∙ ap (λ ds. found_in n l stands.before ++ ds) (found_append n l told stands.behind))
      ∙ regroup rest.front (found_in n l stands.before) (found_in n l told) (found_in n l stands.behind) rest.behind
      ∙ ap (λ ds. before ++ (ds ++ behind)) names_moved

  front : Every (Aside n a (last t)) before
  front = every_append (Aside n a (last t)) rest.front (found_in n l stands.before) (other_aside n a (last t) rest.front rest.front_other) (same_aside n a (last t) 0 a l stands.before (λ x lo hi low high. omega (arith, hi, low)) stands.front)

  back : Every (Aside n a (last t)) behind
  back = every_append (Aside n a (last t)) (found_in n l stands.behind) rest.behind (same_aside n a (last t) (last t) (last f.tree) l stands.behind (λ x lo hi low high. omega (arith, lo, high)) stands.back) (other_aside n a (last t) rest.behind rest.behind_other)

  manners : EachDeclared (λ d. is_package (moved_block a d.block) ≡ true → (d.manner ≡ manner.Declared) × (in_bodies (parts f.tree) (a + d.name) ≡ false)) own
  manners =
      moved_back (IsHeaded (kinds l.tokens) (in_bodies (parts f.tree)))
      (each_left (IsHeaded (kinds l.tokens) (in_bodies (parts f.tree))) told stands.behind
      (each_right (IsHeaded (kinds l.tokens) (in_bodies (parts f.tree))) stands.before (told ++ stands.behind)
      (subst (EachDeclared (IsHeaded (kinds l.tokens) (in_bodies (parts f.tree)))) stands.whole (file_headed (kinds l.tokens) f.tree read.tree))))

  fine : EachDeclared (Fine n l a w (before ++ (map (in_file n l a) (found_by w own) ++ behind)) own) own
  fine =
      each_both (λ d. In a (last t) (moved_block a d.block)) (λ d. is_package (moved_block a d.block) ≡ true → (d.manner ≡ manner.Declared) × (in_bodies (parts f.tree) (a + d.name) ≡ false))
      (Fine n l a w (before ++ (map (in_file n l a) (found_by w own) ++ behind)) own) own
      (λ d h m. one_fine n l a w (last t) own before behind front back d h (λ e. (m (package_moved a d.block ∙ e)).0))
      (moved_back (IsIn a (last t)) stands.blocks) manners

  pub declares : DeclaresByItself fs n f t
  declares = record {
    declared =
        ap (new_among (found (units_of fs))) names_moved
        ∙ ap (λ ds. new_among ds (map (in_file n l a) (found_by w own))) all_names
        ∙ all_new n l a w (before ++ (map (in_file n l a) (found_by w own) ++ behind)) own own fine;
  }

-- ---- by number

read_at : (fs : List File) → AreRead fs → (n : ℕ) (f : File) → slice_get fs n ≡ Some f → IsRead f
read_at [] h n f e = absurd (some_none f (sym e))
read_at (g ∷ fs) h zero f e = subst IsRead (same_some g f e) h.0
read_at (g ∷ fs) h (suc n) f e = read_at fs h.1 n f e

pub stands_at : (ts : List TokenKind) (p : ℕ → Bool) (e : ℕ) (es : List Event) (us : List Tree) → AllStand ts p e es us → (i : ℕ) (t : Tree) → slice_get us i ≡ Some t → Stands ts p e es t
stands_at ts p e es [] h i t s = absurd (some_none t (sym s))
stands_at ts p e es (u ∷ us) h zero t s = subst (Stands ts p e es) (same_some u t s) h.0
stands_at ts p e es (u ∷ us) h (suc i) t s = stands_at ts p e es us h.1 i t s

pub functions_declare : (fs : List File) → AreRead fs → (n : ℕ) (f : File) → slice_get fs n ≡ Some f → (i : ℕ) (t : Tree) → slice_get (functions (parts f.tree)) i ≡ Some t → DeclaresByItself fs n f t
functions_declare fs h n f there i t s =
    let read = read_at fs h n f there in
    declares fs n f read there t
    (stands_at (kinds f.tokens.tokens) (in_bodies (parts f.tree)) (last f.tree) (file_events f) (functions (parts f.tree)) (file_stands (kinds f.tokens.tokens) f.tree read.tree) i t s)
