-- A derived function declares itself, and then its locals.
use Rattle.std.proofs.Common.{◌≡◌, ◌∙◌, ℕ, suc, ◌<◌, ◌≤◌, ◌⊎◌, inl, inr, Bool, true, false, List, [], ◌∷◌, ◌++◌, Option, None, refl, sym, ap, subst, arith}
use Rattle.std.specs.Prelude.{if◌then◌else◌, ◌&&◌, not, nat_lt}
use Rattle.std.specs.List.{AllByRecursion}
use Rattle.std.proofs.lemmas.Bool.Decides.{nat_tests}
use Rattle.go_tokens.specs.declared.token.TokenKind.{TokenKind}
use Rattle.go_grammar.specs.declared.kind.Category.TheVariants as category
use Rattle.go_grammar.specs.declared.kind.Kind.{Kind}
use Rattle.go_grammar.specs.declared.kind.Kind.TheVariants as kind
use Rattle.go_grammar.specs.Trees.{Tree, node, Trees, none, more, skip, kind_of, first, last}
use Rattle.go_grammar.specs.Grammar.{Derives, ends_named}
use Rattle.go_tree.specs.declared.context.Block.{Block}
use Rattle.go_tree.specs.declared.context.Block.TheVariants as block
use Rattle.go_tree.specs.declared.context.Context.{Context}
use Rattle.go_tree.specs.declared.context.Manner.TheVariants as manner
use Rattle.go_tree.specs.declared.context.Scope.{Scope}
use Rattle.go_tree.specs.declared.event.Declaration.{Declaration}
use Rattle.go_tree.specs.declared.event.Event.{Event}
use Rattle.go_tree.specs.declared.event.Event.TheVariants as event
use Rattle.go_tree.specs.Contexts.{is_package, is_there, file_context, body_scope, enter}
use Rattle.go_tree.specs.Declarations.{Found, is_new, new_among}
use Rattle.go_tree.specs.Events.{statement_events, function_events, is_more, events, events_of}
use Rattle.go_tree.specs.Units.{is_blank}
use Rattle.go_tree.specs.Views.{part_at}
use Rattle.go_heads.specs.Functions.{Alone}
use Rattle.go_heads.specs.Names.{no_place, found_by, own_text}
use Rattle.go_scopes_events.proofs.Public.{IsLaidOut, LieIn, derives_laid, lie_order, IsPlain, AreLayered, Function, derives_layered, is_top, true_false}
use Rattle.go_scopes_bodies.specs.Listed.{list_context, told_list, is_specification}
use Rattle.extract_names.specs.Pieces.{leads_to_lists}
use Rattle.extract_names.specs.Sites.{DeclaresItself, EachEvent}
use Rattle.extract_names_derived.proofs.Fit.{IsFit, AreFit, derives_fit}
use Rattle.extract_names_derived.proofs.Lying.{EventLies, OwnLies, ParameterLies, events_lie, each_event_append, each_event_map}
use Rattle.extract_names_derived.proofs.Walk.{Calm, calm_less, calm_falls, calm_lies, is_part, IsPart}
use Rattle.extract_names_derived.proofs.Whole.{Tells, fit_statements, signature_lies, body_calm}
use Rattle.extract_names_derived.proofs.Functions.{IsFunctionRow, function_row}

abbrev pub IsLocalEvent : Event → Type 0
IsLocalEvent (event.Declaration d) = is_package d.block ≡ false
IsLocalEvent e = Unit {0}

module _ (m a b : ℕ) (blk : Block) (e : ℕ) (par : Option Scope) where
  local_by : (d : Declaration) → OwnLies m a b blk e par d ⊎ ParameterLies m a b blk e par d → is_package d.block ≡ false
  local_by d (inl x) = x.local
  local_by d (inr x) = ap is_package x.block

  event_local : (x : Event) → EventLies m a b blk e par x → IsLocalEvent x
  event_local (event.Declaration d) h = local_by d h.sort
  event_local (event.Use u) h = tt
  event_local (event.Member k g x) h = tt
  event_local (event.Import i) h = tt
  event_local (event.Bodiless i j) h = tt
  event_local (event.Statement i j) h = tt
  event_local (event.Misplaced i j) h = tt
  event_local (event.SecondDefault w) h = tt

statement_local : (x : Bool) (i j : ℕ) → EachEvent IsLocalEvent (statement_events x i j)
statement_local true i j = (tt, tt)
statement_local false i j = tt

one_local : (c : Context) (t : Tree) → Calm [] (last t) c → IsPart t → EachEvent IsLocalEvent (events c t)
one_local c t h p =
    each_event_map (EventLies 0 (first t) (last t) c.block c.end None) IsLocalEvent (events c t) (event_local 0 (first t) (last t) c.block c.end None)
    (events_lie 0 (first t) (last t) c.block c.end None c t tt p.laid p.fit (omega arith) (omega arith) (omega arith) p.inner (λ e. absurd (true_false (is_specification (kind_of t)) e p.other)) (inl h.local)
    (calm_lies 0 (first t) (last t) (last t) [] c h))

told_local : (c : Context) (f : Bool) (k : Kind) (i x j : ℕ) (ps : Trees) → leads_to_lists k ≡ true → is_top k ≡ false → Calm [] j c → LieIn x j ps → AreFit k i ps → EachEvent IsLocalEvent (told_list c f ps)
told_local c f k i x j none e top h l t = tt
told_local c f k i x j (skip ps) e top h l t = told_local c f k i x j ps e top h l t
told_local c f k i x j (more p ps) e top h l t =
    let order : last p ≤ j = lie_order (last p) j ps l.2 in
    each_event_append IsLocalEvent (events (record c { falls = f && not (is_more ps) }) p) (told_list c f ps)
    (one_local (record c { falls = f && not (is_more ps) }) p (calm_falls [] (last p) c (f && not (is_more ps)) (calm_less [] (last p) j c order h)) (is_part k i x j p ps e top l t))
    (told_local c f k i (last p) j ps e top h l.2 t.3)

body_local : (tells : Tells) (i j : ℕ) (ps : Trees) (named x : Bool) (a b : ℕ) (bs : Trees) → IsLaidOut (node kind.Block a b bs) → IsFit (node kind.Block a b bs)
    → EachEvent IsLocalEvent (events (enter (file_context 0) kind.FunctionDeclaration i j ps named 1 (node kind.Block a b bs) x) (node kind.Block a b bs))
body_local tells i j ps named x a b bs laid fit =
    let c : Context = enter (file_context 0) kind.FunctionDeclaration i j ps named 1 (node kind.Block a b bs) x in
    subst (EachEvent IsLocalEvent) (sym (tells c a b bs (fit_statements kind.Block a bs refl fit.1)).block)
    (each_event_append IsLocalEvent (statement_events c.listed a b) (told_list (list_context c a b) false bs) (statement_local c.listed a b)
    (told_local (list_context c a b) false kind.Block a a b bs refl refl (body_calm [] i j a b ps named x bs tt tt) laid.1 fit.1))

signature_local : (i j : ℕ) (ps : Trees) (named x : Bool) (a b : ℕ) (ss : Trees) → IsLaidOut (node kind.Signature a b ss) → IsFit (node kind.Signature a b ss) → IsPlain (node kind.Signature a b ss) → i ≤ a → b ≤ j
    → EachEvent IsLocalEvent (events (enter (file_context 0) kind.FunctionDeclaration i j ps named 0 (node kind.Signature a b ss) x) (node kind.Signature a b ss))
signature_local i j ps named x a b ss laid fit plain le hi =
    let par : Option Scope = body_scope (is_there (part_at ps 1)) b j in
    each_event_map (EventLies i i b block.Package 0 par) IsLocalEvent (events (enter (file_context 0) kind.FunctionDeclaration i j ps named 0 (node kind.Signature a b ss) x) (node kind.Signature a b ss))
    (event_local i i b block.Package 0 par) (signature_lies i j ps named x a b ss laid fit plain le hi)

row_local : (tells : Tells) (i j : ℕ) (ps : Trees) → IsFunctionRow ps → IsLaidOut (node kind.FunctionDeclaration i j ps) → IsFit (node kind.FunctionDeclaration i j ps) → AreLayered Function ps
    → EachEvent IsLocalEvent (events_of (file_context 0) kind.FunctionDeclaration i j ps 0 ps)
row_local tells i j (more (node kind.Signature a b ss) (more (node kind.Block c d bs) none)) r laid fit x =
    let ps : Trees = more (node kind.Signature a b ss) (more (node kind.Block c d bs) none) in
    each_event_append IsLocalEvent (events (enter (file_context 0) kind.FunctionDeclaration i j ps (ends_named ps) 0 (node kind.Signature a b ss) true) (node kind.Signature a b ss))
    (events (enter (file_context 0) kind.FunctionDeclaration i j ps (ends_named ps) 1 (node kind.Block c d bs) false) (node kind.Block c d bs) ++ [])
    (signature_local i j ps (ends_named ps) true a b ss laid.1.1 fit.1.2 x.0 (omega (arith, laid.1.0)) (lie_order b j (more (node kind.Block c d bs) none) laid.1.2))
    (each_event_append IsLocalEvent (events (enter (file_context 0) kind.FunctionDeclaration i j ps (ends_named ps) 1 (node kind.Block c d bs) false) (node kind.Block c d bs)) []
    (body_local tells i j ps (ends_named ps) false c d bs laid.1.2.1 fit.1.3.2) tt)
row_local tells i j (more (node kind.Signature a b ss) (skip none)) r laid fit x =
    let ps : Trees = more (node kind.Signature a b ss) (skip none) in
    each_event_append IsLocalEvent (events (enter (file_context 0) kind.FunctionDeclaration i j ps (ends_named ps) 0 (node kind.Signature a b ss) false) (node kind.Signature a b ss)) []
    (signature_local i j ps (ends_named ps) false a b ss laid.1.1 fit.1.2 x.0 (omega (arith, laid.1.0)) (lie_order b j (skip none) laid.1.2)) tt
row_local tells i j ps r laid fit x = absurd r

-- what the tree of a function tells: its name first
pub record FunctionTells (i : ℕ) (es : List Event) : Type 0 where
  pub it : Declaration
  pub others : List Event
  pub whole : es ≡ event.Declaration it ∷ others
  pub name : it.name ≡ suc i
  pub in_package : is_package it.block ≡ true
  pub manner : it.manner ≡ manner.Declared
  pub local : EachEvent IsLocalEvent others

tells_by : (b y : Bool) (i j : ℕ) (es : List Event) → b ≡ true → EachEvent IsLocalEvent es → FunctionTells i ((if b then function_events i j y else []) ++ es)
tells_by true true i j es e h = record { it = _; others = es; whole = refl; name = refl; in_package = refl; manner = refl; local = h }
tells_by true false i j es e h = record { it = _; others = event.Bodiless i j ∷ es; whole = refl; name = refl; in_package = refl; manner = refl; local = (tt, h) }
tells_by false y i j es e h = absurd (true_false false e refl)

pub is_lt : (x y : ℕ) → x < y → nat_lt x y ≡ true
is_lt x y h = grind (arith, nat_tests)

pub function_tells : (ts : List TokenKind) (tells : Tells) (t : Tree) → kind_of t ≡ kind.FunctionDeclaration → Derives ts category.Declaration t → FunctionTells (first t) (events (file_context 0) t)
function_tells ts tells (node kind.FunctionDeclaration i j ps) k h =
    let laid : IsLaidOut (node kind.FunctionDeclaration i j ps) = derives_laid ts (node kind.FunctionDeclaration i j ps) category.Declaration h in
    tells_by (nat_lt i j) (is_there (part_at ps 1)) i j (events_of (file_context 0) kind.FunctionDeclaration i j ps 0 ps) (is_lt i j laid.0)
    (row_local tells i j ps (function_row ts i j ps h) laid (derives_fit ts (node kind.FunctionDeclaration i j ps) category.Declaration h) (derives_layered ts (node kind.FunctionDeclaration i j ps) category.Declaration h))
function_tells ts tells (node k i j ps) e h = absurd cc

-- ---- what it declares

abbrev IsLocalFound : Found → Type 0
IsLocalFound d = is_package d.it.block ≡ false

found_local : (w : ℕ → List ℕ) (es : List Event) → EachEvent IsLocalEvent es → AllByRecursion IsLocalFound (found_by w es)
found_local w [] h = tt
found_local w (event.Declaration d ∷ es) h = (h.0, found_local w es h.1)
found_local w (e ∷ es) h = found_local w es h.1

new_local : (all ds : List Found) → AllByRecursion IsLocalFound ds → AllByRecursion IsLocalFound (new_among all ds)
new_local all [] h = tt
new_local all (d ∷ ds) h = elim (is_new all d) as (λ b. AllByRecursion IsLocalFound (if b then d ∷ new_among all ds else new_among all ds)) [ true ↦ (h.0, new_local all ds h.1) | false ↦ new_local all ds h.1 ]

declared_new : (all : List Found) (d : Found) → is_blank d.name ≡ false → d.it.manner ≡ manner.Declared → is_new all d ≡ true
declared_new all d e m = rw (e, m) refl

pub itself_by : (w : ℕ → List ℕ) (i : ℕ) (es : List Event) → FunctionTells i es → is_blank (w (suc i)) ≡ false
    → (f : Found) × (ds : List Found) × (new_among (found_by w es) (found_by w es) ≡ f ∷ ds) × (is_package f.it.block ≡ true) × AllByRecursion IsLocalFound ds
itself_by w i es h e =
    let f : Found = record { file = 0; name = w h.it.name; place = no_place; it = h.it } in
    let all : List Found = found_by w es in
    let whole : found_by w es ≡ f ∷ found_by w h.others = ap (found_by w) h.whole in
    let new : is_new all f ≡ true = declared_new all f (ap (λ n. is_blank (w n)) h.name ∙ e) h.manner in (
      f,
      new_among all (found_by w h.others),
      ap (new_among all) whole ∙ ap (λ b. if b then f ∷ new_among all (found_by w h.others) else new_among all (found_by w h.others)) new,
      h.in_package,
      new_local all (found_by w h.others) (found_local w h.others h.local),
    )

pub declares_itself : (a : Alone) (i : ℕ) → FunctionTells i (events (file_context 0) a.tree) → is_blank (own_text a (suc i)) ≡ false → DeclaresItself a
declares_itself a i h e =
    let r = itself_by (own_text a) i (events (file_context 0) a.tree) h e in
    record { function = r.0; others = r.1; whole = r.2; in_package = r.3; locals = r.4 }
