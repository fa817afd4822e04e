-- The pieces of a derived function stand as they have to.
use Rattle.std.proofs.Common.{◌≡◌, ◌∙◌, ℕ, suc, ◌<◌, ◌⊎◌, inl, inr, true, false, List, [], ◌++◌, refl, sym, subst, arith}
use Rattle.std.specs.Prelude.{nat_lt}
use Rattle.go_tokens.specs.declared.token.TokenKind.{TokenKind}
use Rattle.go_grammar.specs.declared.kind.Category.TheVariants as category
use Rattle.go_grammar.specs.declared.kind.Kind.TheVariants as kind
use Rattle.go_grammar.specs.Rules.{Maybe, End}
use Rattle.go_grammar.specs.Trees.{Tree, node, Trees, none, more, skip, kind_of, first, last}
use Rattle.go_grammar.specs.Grammar.{Derives, Spells, ends_named}
use Rattle.go_rewriting.specs.Places.{Patch, Patches, keep, put, inside, done, part, run, places, places_in, Ascending}
use Rattle.go_tree.specs.Contexts.{file_context, enter}
use Rattle.go_tree.specs.Events.{declaration_events, events, events_of}
use Rattle.go_scopes_events.proofs.Public.{IsLaidOut, LieIn, derives_laid, lie_order, IsPlain, AreLayered, Function, derives_layered, true_false}
use Rattle.extract_names.specs.Gaps.{Gap, ranges, Among}
use Rattle.extract_names.specs.Pieces.{pieces, row_pieces}
use Rattle.extract_names.specs.Sites.{EachEvent, EventStays}
use Rattle.extract_names_derived.specs.Patches.{InLists, InParts, EachRun, EachIn}
use Rattle.extract_names_derived.proofs.Fit.{IsFit, AreFit, derives_fit}
use Rattle.extract_names_derived.proofs.Lying.{each_event_append}
use Rattle.extract_names_derived.proofs.Stays.{edge_by}
use Rattle.extract_names_derived.proofs.Ascends.{split_gaps, no_gaps, among_append, ascend_member, ascend_parts}
use Rattle.extract_names_derived.proofs.Walk.{AllStay, stay_append}
use Rattle.extract_names_derived.proofs.Walked.{Placed}
use Rattle.extract_names_derived.proofs.Whole.{Tells, Inside, declaration_event_stays, signature_stays, body_kept, body_walked}

-- ---- signatures and bodies

-- a signature, and a block behind it, if there is one
abbrev pub IsBody : Trees → Type 0
IsBody none = ⊥
IsBody (more (node kind.Block a b bs) none) = Unit {0}
IsBody (skip none) = Unit {0}
IsBody ps = ⊥

abbrev pub IsFunctionRow : Trees → Type 0
IsFunctionRow none = ⊥
IsFunctionRow (more (node kind.Signature a b ss) ps) = IsBody ps
IsFunctionRow ps = ⊥

module _ (ts : List TokenKind) where
  block_kind : (p : Tree) → Derives ts category.Block p → IsBody (more p none)
  block_kind (node kind.Block a b bs) h = tt
  block_kind (node k a b bs) h = absurd cc

  body_is : (ps : Trees) (i j : ℕ) → Spells ts (Maybe [] category.Block (End [])) i ps j → IsBody ps
  body_is none i j h = absurd h
  body_is (more p none) i j h = block_kind p h.1
  body_is (more p (more q qs)) i j h = absurd h.2
  body_is (more p (skip qs)) i j h = absurd h.2
  body_is (skip none) i j h = tt
  body_is (skip (more p ps)) i j h = absurd h.2
  body_is (skip (skip ps)) i j h = absurd h.2

  signature_row : (p : Tree) (ps : Trees) → Derives ts category.Signature p → IsBody ps → IsFunctionRow (more p ps)
  signature_row (node kind.Signature a b ss) ps h g = g
  signature_row (node k a b ss) ps h g = absurd cc

  pub function_row : (i j : ℕ) (ps : Trees) → Derives ts category.Declaration (node kind.FunctionDeclaration i j ps) → IsFunctionRow ps
  function_row i j none h = absurd h.1
  function_row i j (skip ps) h = absurd h.1
  function_row i j (more p ps) h = signature_row p ps h.1.1 (body_is ps (last p) j h.1.2)

-- ---- where the gaps lie

signature_keeps : (a b : ℕ) (ss : Trees) (q : Patch) → InLists (node kind.Signature a b ss) q → q ≡ keep
signature_keeps a b ss keep l = refl
signature_keeps a b ss (put s) l = absurd l
signature_keeps a b ss (inside qs) l = absurd (true_false false l.0 refl)

none_inside : (all : List Gap) (a j : ℕ) → all ≡ [] → Inside all a j
none_inside all a j e g m = absurd (subst (Among g) e m)

pub gaps_inside : (i j a b : ℕ) (ss ps : Trees) (q : Patch) (all : List Gap) → LieIn b j ps → AreFit kind.FunctionDeclaration i ps → InLists (node kind.FunctionDeclaration i j (more (node kind.Signature a b ss) ps)) q
    → places (node kind.FunctionDeclaration i j (more (node kind.Signature a b ss) ps)) q ≡ ranges all → Inside all b j
gaps_inside i j a b ss ps keep all h f l e = none_inside all b j (no_gaps all e)
gaps_inside i j a b ss ps (put s) all h f l e = absurd l
gaps_inside i j a b ss ps (inside done) all h f l e = none_inside all b j (no_gaps all e)
gaps_inside i j a b ss ps (inside (run n new qs)) all h f l e = absurd l.1
gaps_inside i j a b ss ps (inside (part keep qs)) all h f l e =
    let asc : Ascending b (ranges all) j = subst (λ z. Ascending b z j) e (ascend_parts kind.FunctionDeclaration i ps qs b j h f l.1.1) in
    λ g m. let r = ascend_member all b j asc g m in (r.0, r.2)
gaps_inside i j a b ss ps (inside (part (put s) qs)) all h f l e = absurd l.1.0
gaps_inside i j a b ss ps (inside (part (inside rs) qs)) all h f l e = absurd (true_false false l.1.0.0 refl)

-- ---- the whole

module _ (P : ℕ → Trees → Type 0) (tells : Tells) (all : List Gap) (v : ℕ → ℕ) (i j a b : ℕ) (ss : Trees) where
  abbrev signature : Tree
  signature = node kind.Signature a b ss

  -- of a function with a body
  module _ (c d : ℕ) (bs : Trees) (laid : IsLaidOut (node kind.FunctionDeclaration i j (more signature (more (node kind.Block c d bs) none))))
      (fit : IsFit (node kind.FunctionDeclaration i j (more signature (more (node kind.Block c d bs) none)))) (plain : IsPlain signature) (f : Inside all b j) where
    abbrev body : Tree
    body = node kind.Block c d bs

    abbrev row : Trees
    row = more signature (more body none)

    own_stays : EachEvent (EventStays all) (declaration_events i j row)
    own_stays = declaration_event_stays all i b j row (nat_lt i j) (omega (arith, laid.1.0, laid.1.1.0)) (omega (arith, laid.0)) f

    front_stays : EachEvent (EventStays all) (events (enter (file_context 0) kind.FunctionDeclaration i j row (ends_named row) 0 signature true) signature)
    front_stays = signature_stays all i j row (ends_named row) true a b ss laid.1.1 fit.1.2 plain (omega (arith, laid.1.0)) (omega (arith, lie_order b j (more body none) laid.1.2)) f

    none_kept : all ≡ [] → EachEvent (EventStays all) (events (enter (file_context 0) kind.FunctionDeclaration i j row (ends_named row) 1 body false) body)
    none_kept e =
        body_kept tells all v i j row (ends_named row) false c d bs laid.1.2.1 fit.1.3.2 (edge_by all c (λ g m. absurd (subst (Among g) e m))) (edge_by all d (λ g m. absurd (subst (Among g) e m))) (λ g m. absurd (subst (Among g) e m))

    all_kept : all ≡ [] → EachEvent (EventStays all) (events_of (file_context 0) kind.FunctionDeclaration i j row 0 row)
    all_kept e =
        each_event_append (EventStays all) (events (enter (file_context 0) kind.FunctionDeclaration i j row (ends_named row) 0 signature true) signature)
        (events (enter (file_context 0) kind.FunctionDeclaration i j row (ends_named row) 1 body false) body ++ [])
        front_stays
        (each_event_append (EventStays all) (events (enter (file_context 0) kind.FunctionDeclaration i j row (ends_named row) 1 body false) body) [] (none_kept e) tt)

    -- the body's gaps are all
    body_row : (qs : Patches) → InParts (more body none) qs → places_in (more body none) qs ≡ ranges all → EachIn P (more body none) qs
        → AllStay P v all all (row_pieces v (file_context 0) kind.FunctionDeclaration i j row 1 (more body none) qs)
    body_row done l e y0 = (each_event_append (EventStays all) (events (enter (file_context 0) kind.FunctionDeclaration i j row (ends_named row) 1 body false) body) [] (none_kept (no_gaps all e)) tt, no_gaps all e)
    body_row (run n new qs) l e y0 = absurd l
    body_row (part q qs) l e y0 =
        let s = split_gaps all (places body q) (places_in none qs) e in
        let placed : Placed all (suc c) d s.before = λ g m. inr (by qs l.1 s.before s.behind s.second g (among_append g s.before s.behind (subst (Among g) s.whole m))) in
        subst (λ z. AllStay P v all z (pieces v (enter (file_context 0) kind.FunctionDeclaration i j row (ends_named row) 1 body false) body q ++ row_pieces v (file_context 0) kind.FunctionDeclaration i j row 2 none qs)) (sym s.whole)
        (stay_append P v all s.before s.behind (pieces v (enter (file_context 0) kind.FunctionDeclaration i j row (ends_named row) 1 body false) body q) (row_pieces v (file_context 0) kind.FunctionDeclaration i j row 2 none qs)
        (body_walked tells all v i j row (ends_named row) false c d bs P q s.before laid.1.2.1 fit.1.3.2 l.0 s.first placed y0.0)
        (rest qs l.1 s.behind s.second))
      where
        nothing : (qs : Patches) → InParts none qs → places_in none qs ≡ []
        nothing done l = refl
        nothing (part q qs) l = refl
        nothing (run n new qs) l = absurd l

        by : (qs : Patches) → InParts none qs → (before behind : List Gap) → places_in none qs ≡ ranges behind → (g : Gap) → Among g before ⊎ Among g behind → Among g before
        by qs l before behind e g (inl m) = m
        by qs l before behind e g (inr m) = absurd (subst (Among g) (no_gaps behind (sym (nothing qs l) ∙ e)) m)

        rest : (qs : Patches) → InParts none qs → (behind : List Gap) → places_in none qs ≡ ranges behind → AllStay P v all behind (row_pieces v (file_context 0) kind.FunctionDeclaration i j row 2 none qs)
        rest done l behind e = (tt, no_gaps behind e)
        rest (part q qs) l behind e = no_gaps behind e
        rest (run n new qs) l behind e = absurd l

    pub bodied_stays : (q : Patch) → InLists (node kind.FunctionDeclaration i j row) q → places (node kind.FunctionDeclaration i j row) q ≡ ranges all → EachRun P (node kind.FunctionDeclaration i j row) q
        → AllStay P v all all (pieces v (file_context 0) (node kind.FunctionDeclaration i j row) q)
    bodied_stays keep l e y0 = (each_event_append (EventStays all) (declaration_events i j row) (events_of (file_context 0) kind.FunctionDeclaration i j row 0 row) own_stays (all_kept (no_gaps all e)), no_gaps all e)
    bodied_stays (put s) l e y0 = absurd l
    bodied_stays (inside done) l e y0 = (own_stays, (all_kept (no_gaps all e), no_gaps all e))
    bodied_stays (inside (run n new qs)) l e y0 = absurd l.1
    bodied_stays (inside (part keep qs)) l e y0 = (own_stays, (front_stays, body_row qs l.1.1 e y0.1))
    bodied_stays (inside (part (put s) qs)) l e y0 = absurd l.1.0
    bodied_stays (inside (part (inside rs) qs)) l e y0 = absurd (true_false false l.1.0.0 refl)

  -- of one without a body
  module _ (laid : IsLaidOut (node kind.FunctionDeclaration i j (more signature (skip none)))) (fit : IsFit (node kind.FunctionDeclaration i j (more signature (skip none)))) (plain : IsPlain signature) (f : Inside all b j) where
    abbrev bare : Trees
    bare = more signature (skip none)

    bare_own : EachEvent (EventStays all) (declaration_events i j bare)
    bare_own = declaration_event_stays all i b j bare (nat_lt i j) (omega (arith, laid.1.0, laid.1.1.0)) (omega (arith, laid.0)) f

    bare_front : EachEvent (EventStays all) (events (enter (file_context 0) kind.FunctionDeclaration i j bare (ends_named bare) 0 signature false) signature)
    bare_front = signature_stays all i j bare (ends_named bare) false a b ss laid.1.1 fit.1.2 plain (omega (arith, laid.1.0)) (omega (arith, lie_order b j (skip none) laid.1.2)) f

    bare_kept : EachEvent (EventStays all) (events_of (file_context 0) kind.FunctionDeclaration i j bare 0 bare)
    bare_kept = each_event_append (EventStays all) (events (enter (file_context 0) kind.FunctionDeclaration i j bare (ends_named bare) 0 signature false) signature) [] bare_front tt

    bare_row : (qs : Patches) → InParts (skip none) qs → places_in (skip none) qs ≡ ranges all → AllStay P v all all (row_pieces v (file_context 0) kind.FunctionDeclaration i j bare 1 (skip none) qs)
    bare_row done l e = (tt, no_gaps all e)
    bare_row (run n new qs) l e = absurd l
    bare_row (part q done) l e = (tt, no_gaps all e)
    bare_row (part q (part r qs)) l e = no_gaps all e
    bare_row (part q (run n new qs)) l e = absurd l

    pub bare_stays : (q : Patch) → InLists (node kind.FunctionDeclaration i j bare) q → places (node kind.FunctionDeclaration i j bare) q ≡ ranges all
        → AllStay P v all all (pieces v (file_context 0) (node kind.FunctionDeclaration i j bare) q)
    bare_stays keep l e = (each_event_append (EventStays all) (declaration_events i j bare) (events_of (file_context 0) kind.FunctionDeclaration i j bare 0 bare) bare_own bare_kept, no_gaps all e)
    bare_stays (put s) l e = absurd l
    bare_stays (inside done) l e = (bare_own, (bare_kept, no_gaps all e))
    bare_stays (inside (run n new qs)) l e = absurd l.1
    bare_stays (inside (part keep qs)) l e = (bare_own, (bare_front, bare_row qs l.1.1 e))
    bare_stays (inside (part (put s) qs)) l e = absurd l.1.0
    bare_stays (inside (part (inside rs) qs)) l e = absurd (true_false false l.1.0.0 refl)

row_stays : (P : ℕ → Trees → Type 0) (tells : Tells) (all : List Gap) (v : ℕ → ℕ) (i j : ℕ) (ps : Trees) (q : Patch) → IsFunctionRow ps → IsLaidOut (node kind.FunctionDeclaration i j ps) → IsFit (node kind.FunctionDeclaration i j ps)
    → AreLayered Function ps → InLists (node kind.FunctionDeclaration i j ps) q → places (node kind.FunctionDeclaration i j ps) q ≡ ranges all
    → EachRun P (node kind.FunctionDeclaration i j ps) q → AllStay P v all all (pieces v (file_context 0) (node kind.FunctionDeclaration i j ps) q)
row_stays P tells all v i j (more (node kind.Signature a b ss) (more (node kind.Block c d bs) none)) q r laid fit x l e y0 =
    bodied_stays P tells all v i j a b ss c d bs laid fit x.0 (gaps_inside i j a b ss (more (node kind.Block c d bs) none) q all laid.1.2 fit.1.3 l e) q l e y0
row_stays P tells all v i j (more (node kind.Signature a b ss) (skip none)) q r laid fit x l e y0 =
    bare_stays P tells all v i j a b ss laid fit x.0 (gaps_inside i j a b ss (skip none) q all laid.1.2 fit.1.3 l e) q l e
row_stays P tells all v i j ps q r laid fit x l e y0 = absurd r

pub function_stays : (P : ℕ → Trees → Type 0) (ts : List TokenKind) (tells : Tells) (all : List Gap) (v : ℕ → ℕ) (t : Tree) (q : Patch) → kind_of t ≡ kind.FunctionDeclaration → Derives ts category.Declaration t → InLists t q
    → places t q ≡ ranges all
    → EachRun P t q → AllStay P v all all (pieces v (file_context 0) t q)
function_stays P ts tells all v (node kind.FunctionDeclaration i j ps) q k h l e y0 =
    row_stays P tells all v i j ps q (function_row ts i j ps h) (derives_laid ts (node kind.FunctionDeclaration i j ps) category.Declaration h) (derives_fit ts (node kind.FunctionDeclaration i j ps) category.Declaration h)
    (derives_layered ts (node kind.FunctionDeclaration i j ps) category.Declaration h) l e y0
function_stays P ts tells all v (node k i j ps) q e h l g y0 = absurd cc

-- Runs stand behind the signature.
row_gaps : (i j : ℕ) (ps : Trees) (q : Patch) (all : List Gap) → IsFunctionRow ps → IsLaidOut (node kind.FunctionDeclaration i j ps) → IsFit (node kind.FunctionDeclaration i j ps)
    → InLists (node kind.FunctionDeclaration i j ps) q → places (node kind.FunctionDeclaration i j ps) q ≡ ranges all
    → (g : Gap) → Among g all → suc (suc i) < g.from
row_gaps i j (more (node kind.Signature a b ss) (more (node kind.Block c d bs) none)) q all r laid fit l e g m =
    omega (arith, laid.1.0, laid.1.1.0, (gaps_inside i j a b ss (more (node kind.Block c d bs) none) q all laid.1.2 fit.1.3 l e g m).0)
row_gaps i j (more (node kind.Signature a b ss) (skip none)) q all r laid fit l e g m =
    omega (arith, laid.1.0, laid.1.1.0, (gaps_inside i j a b ss (skip none) q all laid.1.2 fit.1.3 l e g m).0)
row_gaps i j ps q all r laid fit l e g m = absurd r

pub function_gaps : (ts : List TokenKind) (all : List Gap) (t : Tree) (q : Patch) → kind_of t ≡ kind.FunctionDeclaration → Derives ts category.Declaration t → InLists t q → places t q ≡ ranges all → (g : Gap) → Among g all
    → suc (suc (first t)) < g.from
function_gaps ts all (node kind.FunctionDeclaration i j ps) q k h l e = row_gaps i j ps q all (function_row ts i j ps h) (derives_laid ts (node kind.FunctionDeclaration i j ps) category.Declaration h)
    (derives_fit ts (node kind.FunctionDeclaration i j ps) category.Declaration h) l e
function_gaps ts all (node k i j ps) q e h l g = absurd cc
