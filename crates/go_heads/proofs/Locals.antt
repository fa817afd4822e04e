-- The locals of a package are those of its functions by themselves.
use Rattle.std.proofs.Common.{◌≡◌, ◌∙◌, ℕ, zero, suc, ◌+◌, ◌<◌, Bool, true, false, List, [], ◌∷◌, ◌++◌, map, Some, refl, sym, ap, subst, append_assoc, arith}
use Rattle.std.specs.Prelude.{if◌then◌else◌, ◌&&◌, not, slice_get}
use Rattle.std.proofs.lemmas.Bool.{lt-ltb}
use Rattle.go_tokens.specs.declared.token.TokenKind.{TokenKind}
use Rattle.go_tokens.specs.Tokens.{TokenList, kinds}
use Rattle.go_grammar.specs.declared.kind.Kind.TheVariants as kind
use Rattle.go_grammar.specs.declared.kind.Place.TheVariants as place
use Rattle.go_grammar.specs.declared.kind.Category.TheVariants as category
use Rattle.go_grammar.specs.Trees.{Tree, node, Trees, none, more, skip, first, last, parts}
use Rattle.go_grammar.specs.Grammar.{IsFile, rule, Derives}
use Rattle.go_rewriting.proofs.Public.{tree_order, derives_ordered}
use Rattle.go_tree.specs.declared.context.Block.{Block}
use Rattle.go_tree.specs.declared.context.Block.TheVariants as block
use Rattle.go_tree.specs.declared.context.Context.{Context}
use Rattle.go_tree.specs.declared.context.Entity.TheVariants as entity
use Rattle.go_tree.specs.declared.context.Manner.TheVariants as manner
use Rattle.go_tree.specs.declared.event.Declaration.{Declaration}
use Rattle.go_tree.specs.declared.event.Event.{Event}
use Rattle.go_tree.specs.declared.event.Event.TheVariants as event
use Rattle.go_tree.specs.declared.object.Declared.{Declared}
use Rattle.go_tree.specs.Contexts.{is_there, is_package, file_context}
use Rattle.go_tree.specs.Declarations.{Found, found, found_in, found_from, is_function, is_reused, is_new, new_among}
use Rattle.go_tree.specs.Events.{function_events, is_more, pass, begin, events, events_of}
use Rattle.go_tree.specs.Lists.{functions}
use Rattle.go_tree.specs.Units.{word, is_blank, bytes_at}
use Rattle.go_scopes_events.specs.Moved.{moved_block}
use Rattle.go_tree.specs.Uses as names
use Rattle.go_tree.specs.Uses.{declared_by, begins_function, function_locals, uses}
use Rattle.go_tree.specs.Views.{part_at}
use Rattle.go_scopes_events.specs.Orders.{EachDeclared, IsOuter}
use Rattle.go_scopes_events.proofs.Public.{IsInner, derives_inner, spells_inner, rule_inner, function_rule, IsOther, tree_other, parts_other, true_false, derives_outside}
use Rattle.go_heads.specs.Functions.{Function, AreRead, KeepsFunctions, alone, all_functions, body_texts, function_alone}
use Rattle.go_heads.specs.Heads.{File, IsRead, in_bodies}
use Rattle.go_heads.proofs.Functions.{some_none, same_some}
use Rattle.go_heads.proofs.Outlines.{AllSit, OthersSit, file_sat}
use Rattle.go_heads.specs.Objects.{units_of}
use Rattle.go_heads.specs.Told.{file_events}
use Rattle.go_heads.proofs.Objects.{new_append}
use Rattle.go_heads.proofs.Scopes.{Shared, tree_shared}
use Rattle.go_heads.specs.Names.{own_declarations, in_file}
use Rattle.go_heads.proofs.Names.{found_append, around_part, function_there, imports_next, AllStand, file_stands, declares}
use Rattle.go_heads.specs.Locals.{locals_in, own_locals, local_in_file, all_locals, HaveNames, AreNamed, SameLocals}

-- ---- lists of declarations

abbrev Every : (Found → Type 0) → List Found → Type 0
Every Q [] = Unit {0}
Every Q (x ∷ xs) = Q x × Every Q xs

every_new : (Q : Found → Type 0) (all ds : List Found) → Every Q ds → Every Q (new_among all ds)
every_new Q all [] h = tt
every_new Q all (d ∷ ds) h = by (is_new all d) (every_new Q all ds h.1)
  where
    by : (b : Bool) → Every Q (new_among all ds) → Every Q (if b then d ∷ new_among all ds else new_among all ds)
    by true g = (h.0, g)
    by false g = g

abbrev NoFunction : Found → Type 0
NoFunction d = begins_function d ≡ false

-- declarations without functions, in front of others
aside_locals : (xs ts : List Found) → Every NoFunction xs → function_locals (xs ++ ts) ≡ function_locals ts
aside_locals [] ts h = refl
aside_locals (d ∷ xs) ts h = ap (λ b. if b then names.own_locals (xs ++ ts) ∷ function_locals (xs ++ ts) else function_locals (xs ++ ts)) h.0 ∙ aside_locals xs ts h.1

front_locals : (xs ts : List Found) → Every NoFunction xs → names.own_locals (xs ++ ts) ≡ locals_in xs ++ names.own_locals ts
front_locals [] ts h = refl
front_locals (d ∷ xs) ts h =
    ap (λ b. if b then [] else if is_package d.it.block then names.own_locals (xs ++ ts) else declared_by d ∷ names.own_locals (xs ++ ts)) h.0
    ∙ by (is_package d.it.block) (front_locals xs ts h.1)
  where
    by : (b : Bool) → names.own_locals (xs ++ ts) ≡ locals_in xs ++ names.own_locals ts
        → (if b then names.own_locals (xs ++ ts) else declared_by d ∷ names.own_locals (xs ++ ts)) ≡ (if b then locals_in xs else declared_by d ∷ locals_in xs) ++ names.own_locals ts
    by true e = e
    by false e = ap (λ ys. declared_by d ∷ ys) e

abbrev IsShared : Found → Type 0
IsShared d = is_package d.it.block ≡ true

no_locals : (xs : List Found) → Every IsShared xs → locals_in xs ≡ []
no_locals [] h = refl
no_locals (d ∷ xs) h = ap (λ b. if b then locals_in xs else declared_by d ∷ locals_in xs) h.0 ∙ no_locals xs h.1

nothing_behind : (xs : List Declared) → xs ++ [] ≡ xs
nothing_behind [] = refl
nothing_behind (x ∷ xs) = ap (λ ys. x ∷ ys) (nothing_behind xs)

locals_moved : (n : ℕ) (l : TokenList) (b : ℕ) (ds : List Found) → locals_in (map (in_file n l b) ds) ≡ map (local_in_file n b) (locals_in ds)
locals_moved n l b [] = refl
locals_moved n l b (d ∷ ds) =
    ap (λ c. if c then locals_in (map (in_file n l b) ds) else local_in_file n b (declared_by d) ∷ locals_in (map (in_file n l b) ds)) (package_moved d.it.block)
    ∙ by (is_package d.it.block) (locals_moved n l b ds)
  where
    package_moved : (c : Block) → is_package (moved_block b c) ≡ is_package c
    package_moved block.Package = refl
    package_moved (block.Local i) = refl

    by : (c : Bool) → locals_in (map (in_file n l b) ds) ≡ map (local_in_file n b) (locals_in ds)
        → (if c then locals_in (map (in_file n l b) ds) else local_in_file n b (declared_by d) ∷ locals_in (map (in_file n l b) ds)) ≡ map (local_in_file n b) (if c then locals_in ds else declared_by d ∷ locals_in ds)
    by true e = e
    by false e = ap (λ ys. local_in_file n b (declared_by d) ∷ ys) e

-- ---- the parts of a file

both_false : (a b : Bool) → b ≡ false → (a && b) ≡ false
both_false true b e = e
both_false false b e = refl

outer_package : (b : Block) → IsOuter b → is_package b ≡ true
outer_package block.Package h = refl
outer_package (block.Local i) h = absurd h

unless_blank : (b c : Bool) → b ≡ false → (not b && not (false && c)) ≡ true
unless_blank b c e = ap (λ x. not x && true) e

module _ (all : List Found) (n : ℕ) (l : TokenList) where
  abbrev new_in : List Event → List Found
  new_in es = new_among all (found_in n l es)

  new_both : (es fs : List Event) → new_in (es ++ fs) ≡ new_in es ++ new_in fs
  new_both es fs = ap (new_among all) (found_append n l es fs) ∙ new_append all (found_in n l es) (found_in n l fs)

  found_other : (es : List Event) → EachDeclared IsOther es → Every NoFunction (found_in n l es)
  found_other [] h = tt
  found_other (event.Declaration d ∷ es) h = (both_false (is_package d.block) (is_function d.entity) h.0, found_other es h.1)
  found_other (e ∷ es) h = found_other es h

  found_shared : (es : List Event) → EachDeclared Shared es → Every IsShared (found_in n l es)
  found_shared [] h = tt
  found_shared (event.Declaration d ∷ es) h = (outer_package d.block h.0, found_shared es h.1)
  found_shared (e ∷ es) h = found_shared es h

  -- what stands in front of the rest: how the locals of functions go on
  pub record Leads (es : List Event) (us : List (List Declared)) : Type 0 where
    pub locals : (ts : List Found) → names.own_locals ts ≡ [] → function_locals (new_in es ++ ts) ≡ us ++ function_locals ts
    pub lead : (ts : List Found) → names.own_locals ts ≡ [] → names.own_locals (new_in es ++ ts) ≡ []

  leads_both : (es fs : List Event) (us vs : List (List Declared)) → Leads es us → Leads fs vs → Leads (es ++ fs) (us ++ vs)
  leads_both es fs us vs h g = record {
    locals =
        λ ts e.
        ap (λ xs. function_locals (xs ++ ts)) (new_both es fs) ∙ ap function_locals (append_assoc (new_in es) (new_in fs) ts)
        ∙ h.locals (new_in fs ++ ts) (g.lead ts e) ∙ ap (λ ys. us ++ ys) (g.locals ts e) ∙ sym (append_assoc us vs (function_locals ts));
    lead = λ ts e. ap (λ xs. names.own_locals (xs ++ ts)) (new_both es fs) ∙ ap names.own_locals (append_assoc (new_in es) (new_in fs) ts) ∙ h.lead (new_in fs ++ ts) (g.lead ts e);
  }

  plain_leads : (es : List Event) → EachDeclared IsOther es → EachDeclared Shared es → Leads es []
  plain_leads es h g =
      let quiet : Every NoFunction (new_in es) = every_new NoFunction all (found_in n l es) (found_other es h) in
      let shared : locals_in (new_in es) ≡ [] = no_locals (new_in es) (every_new IsShared all (found_in n l es) (found_shared es g)) in
      record {
        locals = λ ts e. aside_locals (new_in es) ts quiet;
        lead = λ ts e. front_locals (new_in es) ts quiet ∙ ap (λ xs. xs ++ names.own_locals ts) shared ∙ e;
      }

  -- a function with what stands in it
  abbrev function_it : ℕ → ℕ → Declaration
  function_it i j = record { name = suc i; entity = entity.Function; manner = manner.Declared; block = block.Package; scope = record { from = i; to = j }; statement = i; source = Some i; column = 0 }

  abbrev function_found : ℕ → ℕ → Found
  function_found i j = record { file = n; name = word l (suc i); place = bytes_at n l (suc i); it = function_it i j }

  function_new : (i j : ℕ) (b : Bool) (inner : List Event) → is_blank (word l (suc i)) ≡ false → new_in (function_events i j b ++ inner) ≡ function_found i j ∷ new_in inner
  function_new i j true inner e = ap (λ x. if x then function_found i j ∷ new_in inner else new_in inner) (unless_blank (is_blank (word l (suc i))) (is_reused (function_found i j) all) e)
  function_new i j false inner e = ap (λ x. if x then function_found i j ∷ new_in inner else new_in inner) (unless_blank (is_blank (word l (suc i))) (is_reused (function_found i j) all) e)

  function_leads : (es inner : List Event) (i j : ℕ) → new_in es ≡ function_found i j ∷ new_in inner → EachDeclared IsOther inner → Leads es (locals_in (new_in es) ∷ [])
  function_leads es inner i j e h =
      let quiet : Every NoFunction (new_in inner) = every_new NoFunction all (found_in n l inner) (found_other inner h) in
      let same : locals_in (new_in inner) ≡ locals_in (new_in es) = sym (ap locals_in e) in
      record {
        locals =
            λ ts o.
            ap (λ xs. function_locals (xs ++ ts)) e
            ∙ ap (λ ys. ys ∷ function_locals (new_in inner ++ ts)) (front_locals (new_in inner) ts quiet ∙ ap (λ ys. locals_in (new_in inner) ++ ys) o ∙ nothing_behind (locals_in (new_in inner)) ∙ same)
            ∙ ap (λ ys. locals_in (new_in es) ∷ ys) (aside_locals (new_in inner) ts quiet);
        lead = λ ts o. ap (λ xs. names.own_locals (xs ++ ts)) e;
      }

  module _ (ts : List TokenKind) (p : ℕ → Bool) (e : ℕ) where
    abbrev tree_locals : Tree → List Declared
    tree_locals t = locals_in (new_in (events (file_context e) t))

    declared_leads : (i j : ℕ) (ps : Trees) → Derives ts category.Declaration (node kind.FunctionDeclaration i j ps) → is_blank (word l (suc i)) ≡ false
        → Leads (events (file_context e) (node kind.FunctionDeclaration i j ps)) (tree_locals (node kind.FunctionDeclaration i j ps) ∷ [])
    declared_leads i j ps h named =
        let t : Tree = node kind.FunctionDeclaration i j ps in
        let inside : List Event = events_of (begin (file_context e) kind.FunctionDeclaration) kind.FunctionDeclaration i j ps 0 ps in
        let lt : i < j = tree_order t (derives_ordered ts t category.Declaration h) in
        let own : new_in (events (file_context e) t) ≡ function_found i j ∷ new_in inside =
        ap (λ b. new_in ((if b then function_events i j (is_there (part_at ps 1)) else []) ++ inside)) (lt-ltb i j lt) ∙ function_new i j (is_there (part_at ps 1)) inside named in
        function_leads (events (file_context e) t) inside i j own
        (parts_other (begin (file_context e) kind.FunctionDeclaration) kind.FunctionDeclaration i j ps 0 ps (spells_inner ts ps (rule place.Free kind.FunctionDeclaration) i j (function_rule place.Free kind.FunctionDeclaration refl) h.1) tt)

    -- The declarations of a file
    row_leads : (i j : ℕ) (ps : Trees) (k : ℕ) (ds : Trees) → AllSit ts p ds → HaveNames l (functions ds) → Leads (events_of (file_context e) kind.File i j ps k ds) (map tree_locals (functions ds))
    row_leads i j ps k none h g = record { locals = λ ts o. refl; lead = λ ts o. o }
    row_leads i j ps k (skip ds) h g = row_leads i j ps (suc k) ds h g
    row_leads i j ps k (more (node kind.FunctionDeclaration a b qs) ds) h g =
        let d : Tree = node kind.FunctionDeclaration a b qs in
        let there = function_there ts p e i j ps k a b qs (is_more ds) h.0.derives in
        leads_both (events (around_part ts p e i j ps k d (is_more ds)) d) (events_of (file_context e) kind.File i j ps (suc k) ds) (tree_locals d ∷ []) (map tree_locals (functions ds))
        (subst (λ es. Leads es (tree_locals d ∷ [])) (sym there) (declared_leads a b qs h.0.derives g.0)) (row_leads i j ps (suc k) ds h.1 g.1)
    row_leads i j ps k (more (node (kind.Declaration s) a b qs) ds) h g =
        let d : Tree = node (kind.Declaration s) a b qs in
        let around : Context = around_part ts p e i j ps k d (is_more ds) in
        let inner : IsInner d = (refl, spells_inner ts qs (rule place.Free (kind.Declaration s)) a b (rule_inner place.Free (kind.Declaration s) refl) h.0.derives.1) in
        leads_both (events around d) (events_of (file_context e) kind.File i j ps (suc k) ds) [] (map tree_locals (functions ds))
        (plain_leads (events around d) (tree_other around d inner tt) (tree_shared around d (derives_outside ts d category.Declaration refl h.0.derives) inner (record { block = tt; role = tt; parameters = tt })))
        (row_leads i j ps (suc k) ds h.1 g)
    row_leads i j ps k (more (node x a b qs) ds) h g = absurd (true_false false h.0.derives.0 refl)

  file_leads : (ts : List TokenKind) (t : Tree) → IsFile ts t → HaveNames l (functions (parts t)) → Leads (events (file_context (last t)) t) (map (tree_locals ts (in_bodies (parts t)) (last t)) (functions (parts t)))
  file_leads ts (node kind.File i j none) f g = absurd f.derives.1
  file_leads ts (node kind.File i j (skip ps)) f g = row_leads ts (in_bodies ps) j i j (skip ps) 0 (skip ps) (file_sat ts (node kind.File i j (skip ps)) f) g
  file_leads ts (node kind.File i j (more d ds)) f g =
      let p : ℕ → Bool = in_bodies (more d ds) in
      let ps = more d ds in
      let sat : OthersSit ts p ps = file_sat ts (node kind.File i j ps) f in
      let h : Derives ts category.Imports d = f.derives.1.1 in
      let around : Context = around_part ts p j i j ps 0 d (is_more ds) in
      let inner : IsInner d = derives_inner ts d category.Imports refl h in
      let plain : functions ps ≡ functions ds = ap (λ c. if c then d ∷ functions ds else functions ds) sat.0 in
      let front : Leads (events around d) [] = plain_leads (events around d) (tree_other around d inner tt) (tree_shared around d (derives_outside ts d category.Imports refl h) inner (record { block = tt; role = tt; parameters = tt })) in
      let rest : Leads (events_of (file_context j) kind.File i j ps 1 ds) (map (tree_locals ts p j) (functions ds)) = row_leads ts p j i j ps 1 ds sat.3 (subst (HaveNames l) plain g) in
      subst (λ us. Leads (events (file_context j) (node kind.File i j ps)) (map (tree_locals ts p j) us)) (sym plain)
      (leads_both (events around d) (events_of (pass (file_context j) d) kind.File i j ps 1 ds) [] (map (tree_locals ts p j) (functions ds)) front
      (subst (λ c. Leads (events_of c kind.File i j ps 1 ds) (map (tree_locals ts p j) (functions ds))) (sym (imports_next ts p j d h)) rest))
  file_leads ts (node k i j ps) f g = absurd (true_false false f.derives.0 refl)

-- ---- the files of a package

module _ (all : List File) where
  one_file : (n : ℕ) (f : File) → IsRead f → slice_get all n ≡ Some f → (us : List Tree) → AllStand (kinds f.tokens.tokens) (in_bodies (parts f.tree)) (last f.tree) (file_events f) us
      → map (tree_locals (found (units_of all)) n f.tokens (kinds f.tokens.tokens) (in_bodies (parts f.tree)) (last f.tree)) us ≡ map (λ t. map (local_in_file n (first t)) (own_locals (alone f.tokens t))) us
  one_file n f read there [] h = refl
  one_file n f read there (t ∷ us) h =
      ap (λ ds. locals_in ds ∷ map (tree_locals (found (units_of all)) n f.tokens (kinds f.tokens.tokens) (in_bodies (parts f.tree)) (last f.tree)) us) (declares all n f read there t h.0).declared
      ∙ ap (λ ds. ds ∷ map (tree_locals (found (units_of all)) n f.tokens (kinds f.tokens.tokens) (in_bodies (parts f.tree)) (last f.tree)) us) (locals_moved n f.tokens (first t) (own_declarations (alone f.tokens t)))
      ∙ ap (λ dss. map (local_in_file n (first t)) (own_locals (alone f.tokens t)) ∷ dss) (one_file n f read there us h.1)

  -- what the files from the number n on tell
  pub record Follow (n : ℕ) (fs : List File) : Type 0 where
    pub locals : function_locals (new_among (found (units_of all)) (found_from n (units_of fs))) ≡ all_locals n fs
    pub lead : names.own_locals (new_among (found (units_of all)) (found_from n (units_of fs))) ≡ []

  follow : (n : ℕ) (fs : List File) → AreRead fs → AreNamed fs → ((k : ℕ) → slice_get all (n + k) ≡ slice_get fs k) → Follow n fs
  follow n [] h g there = record { locals = refl; lead = refl }
  follow n (f ∷ fs) h g there =
      let among : List Found = found (units_of all) in
      let rest : Follow (suc n) fs = follow (suc n) fs h.1 g.1 (λ k. let z : suc n + k ≡ n + suc k = omega arith in ap (slice_get all) z ∙ there (suc k)) in
      let here : slice_get all n ≡ Some f = let z : n ≡ n + 0 = omega arith in ap (slice_get all) z ∙ there 0 in
      let front : List Found = found_in n f.tokens (file_events f) in
      let behind : List Found = found_from (suc n) (units_of fs) in
      let ts : List TokenKind = kinds f.tokens.tokens in
      let p : ℕ → Bool = in_bodies (parts f.tree) in
      let split : new_among among (front ++ behind) ≡ new_among among front ++ new_among among behind = new_append among front behind in
      let leads = file_leads among n f.tokens ts f.tree h.0.tree g.0 in
      record {
        locals =
            ap function_locals split
            ∙ leads.locals (new_among among behind) rest.lead
            ∙ ap (λ ds. map (tree_locals among n f.tokens ts p (last f.tree)) (functions (parts f.tree)) ++ ds) rest.locals
            ∙ ap (λ ds. ds ++ all_locals (suc n) fs) (one_file n f h.0 here (functions (parts f.tree)) (file_stands ts f.tree h.0.tree));
        lead = ap names.own_locals split ∙ leads.lead (new_among among behind) rest.lead;
      }

pub locals_follow : (fs : List File) → AreRead fs → AreNamed fs → (uses (units_of fs)).locals ≡ all_locals 0 fs
locals_follow fs h g = (follow fs 0 fs h g (λ k. let z : 0 + k ≡ k = omega arith in ap (slice_get fs) z)).locals

-- ---- by number

-- the locals of the function of a number
pub record At (k : ℕ) (f : Function) (dss : List (List Declared)) : Type 0 where
  pub file : ℕ
  pub there : slice_get dss k ≡ Some (map (local_in_file file (first f.tree)) (own_locals (function_alone f)))

in_functions : (n : ℕ) (f : File) (us : List Tree) (fs : List Function) (dss : List (List Declared)) → ((k : ℕ) (g : Function) → slice_get fs k ≡ Some g → At k g dss)
    → (k : ℕ) (g : Function) → slice_get (map (λ t. let x : Function = record { file = f; tree = t } in x) us ++ fs) k ≡ Some g
    → At k g (map (λ t. map (local_in_file n (first t)) (own_locals (alone f.tokens t))) us ++ dss)
in_functions n f [] fs dss h k g e = h k g e
in_functions n f (t ∷ us) fs dss h zero g e =
    let same : record { file = f; tree = t } ≡ g = same_some (record { file = f; tree = t }) g e in
    record { file = n; there = ap (λ (x : Function). Some (map (local_in_file n (first x.tree)) (own_locals (function_alone x)))) same }
in_functions n f (t ∷ us) fs dss h (suc k) g e = let x = in_functions n f us fs dss h k g e in record { file = x.file; there = x.there }

at_number : (n : ℕ) (fs : List File) (k : ℕ) (g : Function) → slice_get (all_functions fs) k ≡ Some g → At k g (all_locals n fs)
at_number n [] k g e = absurd (some_none g (sym e))
at_number n (f ∷ fs) k g e = in_functions n f (functions (parts f.tree)) (all_functions fs) (all_locals (suc n) fs) (at_number (suc n) fs) k g e

pub locals_same : (old new : List File) → AreRead old → AreRead new → AreNamed old → AreNamed new → KeepsFunctions old new → (k : ℕ) (f g : Function)
    → slice_get (all_functions old) k ≡ Some f → slice_get (all_functions new) k ≡ Some g → body_texts g ≡ body_texts f → SameLocals old new k f g
locals_same old new h i x y keeps k f g s t same =
    let a : At k f (all_locals 0 old) = at_number 0 old k f s in
    let b : At k g (all_locals 0 new) = at_number 0 new k g t in
    record {
      old_file = a.file;
      new_file = b.file;
      before = ap (λ dss. slice_get dss k) (locals_follow old h x) ∙ a.there;
      after = ap (λ dss. slice_get dss k) (locals_follow new i y) ∙ b.there ∙ ap (λ z. Some (map (local_in_file b.file (first g.tree)) (own_locals z))) (keeps.bodies k f g s t same);
    }
