-- What a derived function tells falls in what stands in front of a run, the run, and what stands behind it.
use Rattle.std.proofs.Common.{◌≡◌, ◌∙◌, ℕ, suc, ◌<◌, ◌≤◌, ◌⊎◌, inl, inr, Bool, true, false, List, [], ◌∷◌, ◌++◌, Some, refl, sym, ap, subst, append_assoc, arith}
use Rattle.std.specs.Prelude.{if◌then◌else◌, nat_lt}
use Rattle.go_tokens.specs.declared.token.TokenKind.{TokenKind}
use Rattle.go_grammar.specs.declared.kind.Category.TheVariants as category
use Rattle.go_grammar.specs.declared.kind.Kind.TheVariants as kind
use Rattle.go_grammar.specs.Trees.{Tree, node, Trees, none, more, skip, kind_of, first, last}
use Rattle.go_grammar.specs.Grammar.{Derives, ends_named}
use Rattle.go_rewriting.specs.Places.{Patch, Patches, keep, put, inside, done, part, run, Range, range, places, places_in, become, Ascending}
use Rattle.go_tree.specs.declared.context.Block.{Block}
use Rattle.go_tree.specs.declared.context.Block.TheVariants as block
use Rattle.go_tree.specs.declared.context.Context.{Context}
use Rattle.go_tree.specs.declared.context.Entity.TheVariants as entity
use Rattle.go_tree.specs.declared.context.Manner.TheVariants as manner
use Rattle.go_tree.specs.declared.context.Scope.{Scope}
use Rattle.go_tree.specs.declared.event.Declaration.{Declaration}
use Rattle.go_tree.specs.declared.event.Event.{Event}
use Rattle.go_tree.specs.declared.event.Event.TheVariants as event
use Rattle.go_tree.specs.Contexts.{is_there, file_context, body_scope, enter}
use Rattle.go_tree.specs.Events.{statement_events, function_events, declaration_events, events}
use Rattle.go_tree.specs.Views.{part_at}
use Rattle.go_heads.specs.Functions.{Alone}
use Rattle.go_scopes_events.proofs.Public.{IsLaidOut, derives_laid, lie_order, IsPlain, AreLayered, Function, derives_layered, true_false}
use Rattle.go_scopes_bodies.specs.Listed.{list_context, told_list}
use Rattle.extract_names.specs.Copies.{Copy, BlockInFront, DeclaredInFront, StandsInFront, StandsBehind}
use Rattle.extract_names.specs.Pieces.{Piece, stays, gap, pieces, row_pieces, told_before, ReplacesRuns, TellsPieces}
use Rattle.extract_names.specs.Sites.{EachEvent}
use Rattle.extract_names_derived.specs.Copies.{RunTold, SplitsAt}
use Rattle.extract_names_derived.specs.Functions.{IsDerivedFunction}
use Rattle.extract_names_derived.specs.Patches.{InLists, InParts}
use Rattle.extract_names_derived.proofs.Ascends.{ascend_tree, lie_front}
use Rattle.extract_names_derived.proofs.Fit.{front, IsFit, derives_fit}
use Rattle.extract_names_derived.proofs.Functions.{IsFunctionRow, function_row}
use Rattle.extract_names_derived.proofs.Lying.{EndsAs, OwnLies, ParameterLies, DeclarationLies, EventLies, each_event_append, each_event_map}
use Rattle.extract_names_derived.proofs.Replaced.{function_replaces}
use Rattle.extract_names_derived.proofs.Sided.{sides_list}
use Rattle.extract_names_derived.proofs.Sides.{Side, AllSides, sides_append, Where, turned, statement_side, told_side}
use Rattle.extract_names_derived.proofs.Whole.{Tells, fit_statements, signature_lies, body_calm}

-- ---- the function's name, and its signature

module _ (c : Copy) (i a j : ℕ) (low : suc i < a) (at : a < c.from) where
  own_front : (x : Bool) → EachEvent (StandsInFront c) (function_events i j x)
  own_front x = by x
    where
      own : DeclaredInFront c (record { name = suc i; entity = entity.Function; manner = manner.Declared; block = block.Package; scope = record { from = i; to = j }; statement = i; source = Some i; column = 0 })
      own = record { name = omega (arith, low, at); statement = omega (arith, low, at); block = tt; scope = λ e. absurd (true_false true refl e) }

      by : (x : Bool) → EachEvent (StandsInFront c) (function_events i j x)
      by true = (own, tt)
      by false = (own, (tt, tt))

  declaration_front : (ps : Trees) (b : Bool) → EachEvent (StandsInFront c) (if b then function_events i j (is_there (part_at ps 1)) else [])
  declaration_front ps true = own_front (is_there (part_at ps 1))
  declaration_front ps false = tt

given_front : (b j : ℕ) (y : Bool) (s : Scope) → Some s ≡ body_scope y b j → s.from ≡ b
given_front b j true s e = let same : s ≡ record { from = b; to = j } = cc in ap (λ (z : Scope). z.from) same
given_front b j false s e = absurd cc

module _ (c : Copy) (i b j : ℕ) (y : Bool) (at : b < c.from) where
  parameter_front : (d : Declaration) → DeclarationLies i i b block.Package 0 (body_scope y b j) d → DeclaredInFront c d
  parameter_front d l = by l.sort
    where
      by : OwnLies i i b block.Package 0 (body_scope y b j) d ⊎ ParameterLies i i b block.Package 0 (body_scope y b j) d → DeclaredInFront c d
      by (inl x) = record {
        name = omega (arith, l.name.1, at);
        statement = omega (arith, x.statement.1, at);
        block = own_block d.block x.ends;
        scope = λ e. inl (omega (arith, x.upto, at));
      }
        where
          own_block : (k : Block) → EndsAs i i b block.Package 0 (body_scope y b j) k d.scope.to → BlockInFront c k
          own_block k (inl z) = subst (BlockInFront c) (sym z.0) tt
          own_block k (inr z) = subst (BlockInFront c) (sym z.1) (omega (arith, z.2.1, at))
      by (inr x) =
          let from : d.scope.from ≡ b = given_front b j y d.scope x.given in
          record {
            name = omega (arith, l.name.1, at);
            statement = omega (arith, x.statement.1, at);
            block = subst (BlockInFront c) (sym x.block) (omega (arith, from, at));
            scope = λ e. inl (omega (arith, from, at));
          }

  signature_front : (x : Event) → EventLies i i b block.Package 0 (body_scope y b j) x → StandsInFront c x
  signature_front (event.Declaration d) l = parameter_front d l
  signature_front (event.Use u) l = omega (arith, l.name.1, at)
  signature_front (event.Member k g x) l = tt
  signature_front (event.Import x) l = tt
  signature_front (event.Bodiless x z) l = tt
  signature_front (event.Statement x z) l = tt
  signature_front (event.Misplaced x z) l = tt
  signature_front (event.SecondDefault w) l = tt

-- ---- the body

module _ (tells : Tells) (c : Copy) (v : ℕ → ℕ) (i j : ℕ) (ps : Trees) (named x : Bool) (k e : ℕ) (bs : Trees) (laid : IsLaidOut (node kind.Block k e bs)) (fit : IsFit (node kind.Block k e bs)) where
  abbrev body : Tree
  body = node kind.Block k e bs

  abbrev body_context : Context
  body_context = enter (file_context 0) kind.FunctionDeclaration i j ps named 1 body x

  body_sides : (q : Patch) → InLists body q → Where c false (places body q) (suc k) e → AllSides c false (turned (places body q) false) (pieces v body_context body q)
  body_sides keep l w = (
    subst (EachEvent (Side c false)) (sym (tells body_context k e bs (fit_statements kind.Block k bs refl fit.1)).block)
        (each_event_append (Side c false) (statement_events body_context.listed k e) (told_list (list_context body_context k e) false bs) (statement_side c false body_context.listed k e)
        (told_side c false (list_context body_context k e) false kind.Block k (suc k) (suc k) e bs refl refl (body_calm [] i j k e ps named x bs tt tt) (omega arith) (lie_front kind.Block k k e bs laid.0 laid.1 fit.1) fit.0 fit.1 w)),
    refl,
  )
  body_sides (put s) l w = absurd l
  body_sides (inside qs) l w = (
    statement_side c false body_context.listed k e,
    sides_list c v false (list_context body_context k e) false kind.Block k bs qs (suc k) (suc k) e refl refl refl (refl, refl, refl, refl) (body_calm [] i j k e ps named x bs tt tt) (omega arith) refl
        (lie_front kind.Block k k e bs laid.0 laid.1 fit.1) fit.0 fit.1 l w,
  )

-- ---- the function

nothing : (qs : Patches) → InParts none qs → places_in none qs ≡ []
nothing done l = refl
nothing (part q qs) l = refl
nothing (run n new qs) l = absurd l

append_none : (rs ss : List Range) → ss ≡ [] → rs ++ ss ≡ rs
append_none [] ss e = e
append_none (r ∷ rs) ss e = ap (λ z. r ∷ z) (append_none rs ss e)

-- where the one range lies
one_inside : (r : Range) (rs : List Range) (a b : ℕ) → rs ≡ r ∷ [] → Ascending a rs b → (a ≤ r.from) × (r.from < r.upto) × (r.upto ≤ b)
one_inside r rs a b e h = let g : Ascending a (r ∷ []) b = subst (λ z. Ascending a z b) e h in (g.0, g.1, g.2)

module _ (tells : Tells) (c : Copy) (v : ℕ → ℕ) (i j a b : ℕ) (ss : Trees) (k e : ℕ) (bs : Trees) where
  abbrev row : Trees
  row = more (node kind.Signature a b ss) (more (node kind.Block k e bs) none)

  module _ (laid : IsLaidOut (node kind.FunctionDeclaration i j row)) (fit : IsFit (node kind.FunctionDeclaration i j row)) (plain : IsPlain (node kind.Signature a b ss)) where
    abbrev front_context : Context
    front_context = enter (file_context 0) kind.FunctionDeclaration i j row (ends_named row) 0 (node kind.Signature a b ss) true

    row_sides : (q : Patch) (qs : Patches) → InLists (node kind.Block k e bs) q → InParts none qs → places (node kind.Block k e bs) q ++ places_in none qs ≡ range c.from c.upto ∷ []
        → AllSides c false true
        (stays (declaration_events i j row) ∷ stays (events front_context (node kind.Signature a b ss)) ∷
        (pieces v (enter (file_context 0) kind.FunctionDeclaration i j row (ends_named row) 1 (node kind.Block k e bs) false) (node kind.Block k e bs) q ++ row_pieces v (file_context 0) kind.FunctionDeclaration i j row 2 none qs))
    row_sides q qs l m same =
        let one : places (node kind.Block k e bs) q ≡ range c.from c.upto ∷ [] = sym (append_none (places (node kind.Block k e bs) q) (places_in none qs) (nothing qs m)) ∙ same in
        let at = one_inside (range c.from c.upto) (places (node kind.Block k e bs) q) (suc k) e one (ascend_tree (node kind.Block k e bs) q laid.1.2.1 fit.1.3.2 l) in
        let low : b < c.from = omega (arith, laid.1.2.0, at.0) in
        let turn : turned (places (node kind.Block k e bs) q) false ≡ true = ap (λ z. turned z false) one in
        let where_body : Where c false (places (node kind.Block k e bs) q) (suc k) e = subst (λ z. Where c false z (suc k) e) (sym one) (refl, refl) in (
          declaration_front c i b j (omega (arith, laid.1.0, laid.1.1.0)) low row (nat_lt i j),
          (
            each_event_map (EventLies i i b block.Package 0 (body_scope true b j)) (StandsInFront c) (events front_context (node kind.Signature a b ss)) (signature_front c i b j true low)
                (signature_lies i j row (ends_named row) true a b ss laid.1.1 fit.1.2 plain (omega (arith, laid.1.0)) (lie_order b j (more (node kind.Block k e bs) none) laid.1.2)),
            sides_append c false true true (pieces v (enter (file_context 0) kind.FunctionDeclaration i j row (ends_named row) 1 (node kind.Block k e bs) false) (node kind.Block k e bs) q)
                (row_pieces v (file_context 0) kind.FunctionDeclaration i j row 2 none qs)
                (subst (λ z. AllSides c false z (pieces v (enter (file_context 0) kind.FunctionDeclaration i j row (ends_named row) 1 (node kind.Block k e bs) false) (node kind.Block k e bs) q)) turn
                (body_sides tells c v i j row (ends_named row) false k e bs laid.1.2.1 fit.1.3.2 q l where_body))
                (rest qs m),
          ),
        )
      where
        rest : (qs : Patches) → InParts none qs → AllSides c true true (row_pieces v (file_context 0) kind.FunctionDeclaration i j row 2 none qs)
        rest done l = (tt, refl)
        rest (part q qs) l = refl
        rest (run n new qs) l = absurd l

    whole_sides : (q : Patch) → InLists (node kind.FunctionDeclaration i j row) q → places (node kind.FunctionDeclaration i j row) q ≡ range c.from c.upto ∷ []
        → AllSides c false true (pieces v (file_context 0) (node kind.FunctionDeclaration i j row) q)
    whole_sides keep l e = absurd cc
    whole_sides (put s) l e = absurd l
    whole_sides (inside done) l e = absurd cc
    whole_sides (inside (run n new qs)) l e = absurd l.1
    whole_sides (inside (part keep done)) l e = absurd cc
    whole_sides (inside (part keep (run n new qs))) l e = absurd l.1.1
    whole_sides (inside (part keep (part q qs))) l e = row_sides q qs l.1.1.0 l.1.1.1 e
    whole_sides (inside (part (put s) qs)) l e = absurd l.1.0
    whole_sides (inside (part (inside rs) qs)) l e = absurd (true_false false l.1.0.0 refl)

bare_places : (i j a b : ℕ) (ss : Trees) (q : Patch) → InLists (node kind.FunctionDeclaration i j (more (node kind.Signature a b ss) (skip none))) q
    → places (node kind.FunctionDeclaration i j (more (node kind.Signature a b ss) (skip none))) q ≡ []
bare_places i j a b ss keep l = refl
bare_places i j a b ss (put s) l = absurd l
bare_places i j a b ss (inside done) l = refl
bare_places i j a b ss (inside (run n new qs)) l = absurd l.1
bare_places i j a b ss (inside (part keep done)) l = refl
bare_places i j a b ss (inside (part keep (run n new qs))) l = absurd l.1.1
bare_places i j a b ss (inside (part keep (part q qs))) l = nothing qs l.1.1
bare_places i j a b ss (inside (part (put s) qs)) l = absurd l.1.0
bare_places i j a b ss (inside (part (inside rs) qs)) l = absurd (true_false false l.1.0.0 refl)

none_one : (r : Range) (rs : List Range) → rs ≡ [] → rs ≡ r ∷ [] → ⊥
none_one r rs e f = cc

by_row : (tells : Tells) (c : Copy) (v : ℕ → ℕ) (i j : ℕ) (ps : Trees) (q : Patch) → IsFunctionRow ps → IsLaidOut (node kind.FunctionDeclaration i j ps) → IsFit (node kind.FunctionDeclaration i j ps) → AreLayered Function ps
    → InLists (node kind.FunctionDeclaration i j ps) q
    → places (node kind.FunctionDeclaration i j ps) q ≡ range c.from c.upto ∷ []
    → AllSides c false true (pieces v (file_context 0) (node kind.FunctionDeclaration i j ps) q)
by_row tells c v i j (more (node kind.Signature a b ss) (more (node kind.Block k e bs) none)) q r laid fit x l p = whole_sides tells c v i j a b ss k e bs laid fit x.0 q l p
by_row tells c v i j (more (node kind.Signature a b ss) (skip none)) q r laid fit x l p =
    absurd (none_one (range c.from c.upto) (places (node kind.FunctionDeclaration i j (more (node kind.Signature a b ss) (skip none))) q) (bare_places i j a b ss q l) p)
by_row tells c v i j ps q r laid fit x l p = absurd r

function_sides : (ts : List TokenKind) (tells : Tells) (c : Copy) (v : ℕ → ℕ) (t : Tree) (q : Patch) → kind_of t ≡ kind.FunctionDeclaration → Derives ts category.Declaration t → InLists t q
    → places t q ≡ range c.from c.upto ∷ [] → AllSides c false true (pieces v (file_context 0) t q)
function_sides ts tells c v (node kind.FunctionDeclaration i j ps) q k h l p =
    by_row tells c v i j ps q (function_row ts i j ps h) (derives_laid ts (node kind.FunctionDeclaration i j ps) category.Declaration h) (derives_fit ts (node kind.FunctionDeclaration i j ps) category.Declaration h)
    (derives_layered ts (node kind.FunctionDeclaration i j ps) category.Declaration h) l p
function_sides ts tells c v (node k i j ps) q e h l p = absurd cc

-- ---- the three parts

sides_behind : (c : Copy) (d : Bool) (ps : List Piece) → AllSides c true d ps → EachEvent (StandsBehind c) (told_before ps)
sides_behind c d [] h = tt
sides_behind c d (stays es ∷ ps) h = each_event_append (StandsBehind c) es (told_before ps) h.0 (sides_behind c d ps h.1)
sides_behind c d (gap old news ∷ ps) h = absurd (true_false true refl h.0)

record Parts (c : Copy) (es : List Event) : Type 0 where
  before : List Event
  run : List Event
  behind : List Event
  told : es ≡ before ++ (run ++ behind)
  run_told : RunTold c run
  in_front : EachEvent (StandsInFront c) before
  from_behind : EachEvent (StandsBehind c) behind

sides_split : (c : Copy) (ps : List Piece) → AllSides c false true ps → Parts c (told_before ps)
sides_split c [] h = absurd (true_false false (let e : false ≡ true = h in e) refl)
sides_split c (stays es ∷ ps) h =
    let r = sides_split c ps h.1 in
    record {
      before = es ++ r.before;
      run = r.run;
      behind = r.behind;
      told = ap (λ z. es ++ z) r.told ∙ sym (append_assoc es r.before (r.run ++ r.behind));
      run_told = r.run_told;
      in_front = each_event_append (StandsInFront c) es r.before h.0 r.in_front;
      from_behind = r.from_behind;
    }
sides_split c (gap old news ∷ ps) h = record { before = []; run = old; behind = told_before ps; told = refl; run_told = h.1; in_front = tt; from_behind = sides_behind c true ps h.2 }

-- A tree with runs replaced tells its pieces.
abbrev pub TellPieces : Type 0
TellPieces = (v : ℕ → ℕ) (x : Context) (t : Tree) (q : Patch) → ReplacesRuns v t q → TellsPieces v x t q (become v t q)

pub splits : (tells : Tells) (tell : TellPieces) (ts : List TokenKind) (a : Alone) (c : Copy) (q : Patch) → IsDerivedFunction ts a → InLists a.tree q → places a.tree q ≡ range c.from c.upto ∷ [] → SplitsAt a c
splits tells tell ts a c q f l p =
    let v : ℕ → ℕ = λ n. n in
    let r = sides_split c (pieces v (file_context 0) a.tree q) (function_sides ts tells c v a.tree q f.function f.derives l p) in
    let e = (tell v (file_context 0) a.tree q (function_replaces v ts a.tree q f.function f.derives (refl, refl) l)).before in
    let t : Tree = a.tree in
    let at = one_inside (range c.from c.upto) (places t q) (front (kind_of t) (first t)) (last t) p (ascend_tree t q (derives_laid ts t category.Declaration f.derives) (derives_fit ts t category.Declaration f.derives) l) in
    record { some = at.1; before = r.before; run = r.run; behind = r.behind; told = e ∙ r.told; run_told = r.run_told; in_front = r.in_front; from_behind = r.from_behind }
