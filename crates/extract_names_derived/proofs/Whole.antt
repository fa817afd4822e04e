-- The pieces of a whole function whose runs are replaced.
use Rattle.std.proofs.Common.{◌≡◌, ℕ, suc, ◌<◌, ◌≤◌, ◌⊎◌, inl, inr, Bool, true, false, List, [], Option, Some, refl, sym, subst, arith}
use Rattle.std.specs.Prelude.{if◌then◌else◌}
use Rattle.go_grammar.specs.declared.kind.Kind.{Kind}
use Rattle.go_grammar.specs.declared.kind.Kind.TheVariants as kind
use Rattle.go_grammar.specs.Trees.{node, Trees, none, more, skip, kind_of}
use Rattle.go_rewriting.specs.Places.{Patch, keep, put, inside, places, Ascending}
use Rattle.go_tree.specs.declared.context.Block.TheVariants as block
use Rattle.go_tree.specs.declared.context.Context.{Context}
use Rattle.go_tree.specs.declared.context.Entity.TheVariants as entity
use Rattle.go_tree.specs.declared.context.Manner.TheVariants as manner
use Rattle.go_tree.specs.declared.context.Scope.{Scope}
use Rattle.go_tree.specs.Contexts.{is_there, file_context, body_scope, enter}
use Rattle.go_tree.specs.Events.{statement_events, function_events, events}
use Rattle.go_tree.specs.Views.{part_at}
use Rattle.go_scopes_events.proofs.Public.{IsLaidOut, IsPlain, self_gives, true_false}
use Rattle.go_scopes_bodies.specs.Listed.{list_context, told_list, AreStatements, TellsStatements}
use Rattle.extract_names.specs.Gaps.{Gap, ranges, Among, AtEdge}
use Rattle.extract_names.specs.Pieces.{leads_to_lists, pieces}
use Rattle.extract_names.specs.Sites.{EachEvent, EventStays, DeclarationStays}
use Rattle.extract_names_derived.specs.Patches.{InLists, EachRun}
use Rattle.extract_names_derived.proofs.Fit.{IsFit, AreFit}
use Rattle.extract_names_derived.proofs.Lying.{ContextLies, ParametersLie, EventLies, events_lie, each_event_append, each_event_map}
use Rattle.extract_names_derived.proofs.Stays.{Aside, ParametersStay, stays_by, edge_by, event_stays}
use Rattle.extract_names_derived.proofs.Ascends.{no_gaps, ascend_tree, lie_front}
use Rattle.extract_names_derived.proofs.Walk.{AllStay, Calm, statement_part, told_kept, statement_stays}
use Rattle.extract_names_derived.proofs.Walked.{Placed, node_edge, walk_list}

-- A block or a clause tells what its statements tell.
abbrev pub Tells : Type 0
Tells = (c : Context) (i j : ℕ) (ps : Trees) → AreStatements ps → TellsStatements c i j ps

-- a list of parts of such a node are statements
pub fit_statements : (k : Kind) (i : ℕ) (ps : Trees) → leads_to_lists k ≡ true → AreFit k i ps → AreStatements ps
fit_statements k i none e h = tt
fit_statements k i (skip ps) e h = fit_statements k i ps e h
fit_statements k i (more p ps) e h = (statement_part k (kind_of p) e h.0, fit_statements k i ps e h.3)

-- all gaps lie behind the token a, and up to the token j
abbrev pub Inside : List Gap → ℕ → ℕ → Type 0
Inside all a j = (g : Gap) → Among g all → (a ≤ g.from) × (g.upto ≤ j)

-- ---- the function's own name

function_event_stays : (all : List Gap) (i a j : ℕ) (x : Bool) → suc i < a → i ≤ j → Inside all a j → EachEvent (EventStays all) (function_events i j x)
function_event_stays all i a j x lt le f = by x
  where
    own : DeclarationStays all (record { name = suc i; entity = entity.Function; manner = manner.Declared; block = block.Package; scope = record { from = i; to = j }; statement = i; source = Some i; column = 0 })
    own = record {
      name = stays_by all (suc i) (λ g m. inl (omega (arith, lt, (f g m).0)));
      block = tt;
      from = edge_by all i (λ g m. inl (omega (arith, lt, (f g m).0)));
      to = edge_by all j (λ g m. inr (f g m).1);
      statement = stays_by all i (λ g m. inl (omega (arith, lt, (f g m).0)));
      source = stays_by all i (λ g m. inl (omega (arith, lt, (f g m).0)));
      follows = (tt, le);
      apart = λ e. absurd (true_false true refl e);
    }

    by : (x : Bool) → EachEvent (EventStays all) (function_events i j x)
    by true = (own, tt)
    by false = (own, (tt, tt))

pub declaration_event_stays : (all : List Gap) (i a j : ℕ) (ps : Trees) (b : Bool) → suc i < a → i ≤ j → Inside all a j → EachEvent (EventStays all) (if b then function_events i j (is_there (part_at ps 1)) else [])
declaration_event_stays all i a j ps true lt le f = function_event_stays all i a j (is_there (part_at ps 1)) lt le f
declaration_event_stays all i a j ps false lt le f = tt

-- ---- the signature

parameters_stay : (all : List Gap) (a j : ℕ) (b : Bool) → Inside all a j → ParametersStay all (body_scope b a j)
parameters_stay all a j true f = (edge_by all a (λ g m. inl (f g m).0), edge_by all j (λ g m. inr (f g m).1), λ g m. (f g m).0)
parameters_stay all a j false f = tt

signature_scope : (i b j : ℕ) (y : Bool) → b ≤ j → ParametersLie i i b block.Package 0 (body_scope y b j) (body_scope y b j)
signature_scope i b j true h = (omega arith, h)
signature_scope i b j false h = tt

pub signature_lies : (i j : ℕ) (ps : Trees) (named : Bool) (x : Bool) (a b : ℕ) (ss : Trees) → IsLaidOut (node kind.Signature a b ss) → IsFit (node kind.Signature a b ss) → IsPlain (node kind.Signature a b ss) → i ≤ a → b ≤ j
    → EachEvent (EventLies i i b block.Package 0 (body_scope (is_there (part_at ps 1)) b j)) (events (enter (file_context 0) kind.FunctionDeclaration i j ps named 0 (node kind.Signature a b ss) x) (node kind.Signature a b ss))
signature_lies i j ps named x a b ss laid fit plain le hi =
    let par : Option Scope = body_scope (is_there (part_at ps 1)) b j in
    let c : Context = enter (file_context 0) kind.FunctionDeclaration i j ps named 0 (node kind.Signature a b ss) x in
    let grows : a < b = laid.0 in
    let lies : ContextLies i i b block.Package 0 par b c = record {
      ends = inl (refl, refl);
      behind = λ z. absurd (true_false true refl z);
      role = tt;
      site = (omega arith, omega (arith, le, grows));
      specification = tt;
      source = tt;
      group = tt;
      parameters = self_gives par;
      initial = refl;
    } in
    events_lie i i b block.Package 0 par c (node kind.Signature a b ss) (signature_scope i b j (is_there (part_at ps 1)) hi) laid fit le le (omega arith) refl (λ z. absurd (true_false false z refl)) (inr (plain, refl)) lies

pub signature_stays : (all : List Gap) (i j : ℕ) (ps : Trees) (named : Bool) (x : Bool) (a b : ℕ) (ss : Trees) → IsLaidOut (node kind.Signature a b ss) → IsFit (node kind.Signature a b ss)
    → IsPlain (node kind.Signature a b ss) → i ≤ a → b ≤ j → Inside all b j
    → EachEvent (EventStays all) (events (enter (file_context 0) kind.FunctionDeclaration i j ps named 0 (node kind.Signature a b ss) x) (node kind.Signature a b ss))
signature_stays all i j ps named x a b ss laid fit plain le hi f =
    let par : Option Scope = body_scope (is_there (part_at ps 1)) b j in
    each_event_map (EventLies i i b block.Package 0 par) (EventStays all) (events (enter (file_context 0) kind.FunctionDeclaration i j ps named 0 (node kind.Signature a b ss) x) (node kind.Signature a b ss))
    (event_stays all i i b block.Package 0 par (λ g m. inr (f g m).0) (omega arith) tt (edge_by all 0 (λ g m. inl (omega arith))) (parameters_stay all b j (is_there (part_at ps 1)) f))
    (signature_lies i j ps named x a b ss laid fit plain le hi)

-- ---- the body

pub body_calm : (all : List Gap) (i j a b : ℕ) (ps : Trees) (named x : Bool) (bs : Trees) → AtEdge all a → AtEdge all b
    → Calm all b (list_context (enter (file_context 0) kind.FunctionDeclaration i j ps named 1 (node kind.Block a b bs) x) a b)
body_calm all i j a b ps named x bs ea eb = record { local = refl; block = ea; end = eb; behind = omega arith; role = refl; site = refl; specification = refl; source = refl; group = refl; parameters = refl; constant = refl; initial = refl }

module _ (tells : Tells) (all : List Gap) (v : ℕ → ℕ) (i j : ℕ) (ps : Trees) (named x : Bool) (a b : ℕ) (bs : Trees) where
  abbrev body_context : Context
  body_context = enter (file_context 0) kind.FunctionDeclaration i j ps named 1 (node kind.Block a b bs) x

  pub body_kept : IsLaidOut (node kind.Block a b bs) → IsFit (node kind.Block a b bs) → AtEdge all a → AtEdge all b → ((g : Gap) → Among g all → Aside (suc a) b g)
      → EachEvent (EventStays all) (events body_context (node kind.Block a b bs))
  body_kept laid fit ea eb f =
      subst (EachEvent (EventStays all)) (sym (tells body_context a b bs (fit_statements kind.Block a bs refl fit.1)).block)
      (each_event_append (EventStays all) (statement_events body_context.listed a b) (told_list (list_context body_context a b) false bs) (statement_stays all body_context.listed a b)
      (told_kept all (list_context body_context a b) false kind.Block a (suc a) (suc a) b bs refl refl (body_calm all i j a b ps named x bs ea eb) (lie_front kind.Block a a b bs laid.0 laid.1 fit.1) fit.0 fit.1 f))

  pub body_walked : (P : ℕ → Trees → Type 0) (q : Patch) (gs : List Gap) → IsLaidOut (node kind.Block a b bs) → IsFit (node kind.Block a b bs) → InLists (node kind.Block a b bs) q → places (node kind.Block a b bs) q ≡ ranges gs
      → Placed all (suc a) b gs → EachRun P (node kind.Block a b bs) q → AllStay P v all gs (pieces v body_context (node kind.Block a b bs) q)
  body_walked P keep gs laid fit l e f y0 =
      let asc : Ascending (suc a) (ranges gs) b = subst (λ z. Ascending (suc a) z b) e (ascend_tree (node kind.Block a b bs) keep laid fit l) in
      let edges = node_edge all (suc a) a b gs (omega arith) (omega arith) laid.0 asc f in
      (body_kept laid fit edges.0 edges.1 (λ g m. by gs (no_gaps gs e) g (f g m)), no_gaps gs e)
    where
      by : (gs : List Gap) → gs ≡ [] → (g : Gap) → Aside (suc a) b g ⊎ Among g gs → Aside (suc a) b g
      by gs h g (inl z) = z
      by gs h g (inr z) = absurd (subst (Among g) h z)
  body_walked P (put s) gs laid fit l e f y0 = absurd l
  body_walked P (inside qs) gs laid fit l e f y0 =
      let asc : Ascending (suc a) (ranges gs) b = subst (λ z. Ascending (suc a) z b) e (ascend_tree (node kind.Block a b bs) (inside qs) laid fit l) in
      let edges = node_edge all (suc a) a b gs (omega arith) (omega arith) laid.0 asc f in (
        statement_stays all body_context.listed a b,
        walk_list P all v (list_context body_context a b) false kind.Block a bs qs gs (suc a) (suc a) b refl refl (body_calm all i j a b ps named x bs edges.0 edges.1)
            (lie_front kind.Block a a b bs laid.0 laid.1 fit.1) fit.0 fit.1 l e f y0,
      )
