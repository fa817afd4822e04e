-- A tree with runs of statements replaced tells what its pieces tell.
use Rattle.std.proofs.Common.{◌≡◌, ◌∙◌, ℕ, zero, suc, Bool, true, false, List, [], ◌∷◌, ◌++◌, map, Option, Some, refl, sym, ap, append_assoc, append-nil}
use Rattle.std.specs.Prelude.{nat_lt, if◌then◌else◌, ◌&&◌, ◌||◌, not}
use Rattle.std.proofs.lemmas.List.{map-append}
use Rattle.go_grammar.specs.declared.kind.Kind.{Kind}
use Rattle.go_grammar.specs.declared.kind.Kind.TheVariants as kind
use Rattle.go_grammar.specs.Trees.{Tree, node, Trees, none, more, skip, kind_of, first, last, onto}
use Rattle.go_grammar.specs.Grammar.{ends_named}
use Rattle.go_rewriting.specs.Places.{Patch, Patches, keep, put, inside, done, part, run, carry, carries, has_items, items_behind, become, become_all}
use Rattle.go_rewriting.specs.Lists.{so_many}
use Rattle.go_tree.specs.Views.{part_at}
use Rattle.go_tree.specs.declared.context.Block.TheVariants as block
use Rattle.go_tree.specs.declared.context.Entity.TheVariants as entity
use Rattle.go_tree.specs.declared.context.Manner.TheVariants as manner
use Rattle.go_tree.specs.declared.context.Scope.{Scope}
use Rattle.go_tree.specs.declared.context.Context.{Context}
use Rattle.go_tree.specs.declared.event.Event.{Event}
use Rattle.go_tree.specs.declared.event.Event.TheVariants as event
use Rattle.go_tree.specs.Contexts.{is_there, body_scope, source_of, source_at, enter}
use Rattle.go_tree.specs.Events.{own_events, statement_events, declaration_events, function_events, is_default, default_events, second_defaults, is_more, pass, begin, events, events_of}
use Rattle.go_scopes_bodies.specs.Carried.{KeepsName, KeepsNames, AllKeepNames, carried_token, carried_scopes, carried_context, carried_event}
use Rattle.go_scopes_bodies.specs.Listed.{list_context, told_list, is_specification, AreStatements, TellsStatements}
use Rattle.extract_names.specs.Pieces.{leads_to_lists, ReplacesRuns, ReplacesInRow, ReplacesInCase, ReplacesInList, Piece, stays, gap, told_before, told_behind, pieces, row_pieces, list_pieces}

-- the laws on trees that this rests on
pub record Laws : Type 0 where
  pub carried : (v : ℕ → ℕ) (c : Context) (t : Tree) → KeepsNames v t → events (carried_context v c) (carry v t) ≡ map (carried_event v) (events c t)
  pub lists : (c : Context) (i j : ℕ) (ps : Trees) → AreStatements ps → TellsStatements c i j ps
  pub joined : (c : Context) (followed : Bool) (xs ys : Trees) → told_list c followed (onto xs ys) ≡ told_list c (followed && not (is_more ys)) xs ++ told_list c followed ys

-- ---- lists of pieces

before_both : (ps qs : List Piece) → told_before (ps ++ qs) ≡ told_before ps ++ told_before qs
before_both [] qs = refl
before_both (stays es ∷ ps) qs = ap (λ fs. es ++ fs) (before_both ps qs) ∙ sym (append_assoc es (told_before ps) (told_before qs))
before_both (gap old new ∷ ps) qs = ap (λ fs. old ++ fs) (before_both ps qs) ∙ sym (append_assoc old (told_before ps) (told_before qs))

behind_both : (v : ℕ → ℕ) (ps qs : List Piece) → told_behind v (ps ++ qs) ≡ told_behind v ps ++ told_behind v qs
behind_both v [] qs = refl
behind_both v (stays es ∷ ps) qs = ap (λ fs. map (carried_event v) es ++ fs) (behind_both v ps qs) ∙ sym (append_assoc (map (carried_event v) es) (told_behind v ps) (told_behind v qs))
behind_both v (gap old new ∷ ps) qs = ap (λ fs. new ++ fs) (behind_both v ps qs) ∙ sym (append_assoc new (told_behind v ps) (told_behind v qs))

-- ---- rows of parts

more_carried : (v : ℕ → ℕ) (ps : Trees) → is_more (carries v ps) ≡ is_more ps
more_carried v none = refl
more_carried v (more p ps) = refl
more_carried v (skip ps) = more_carried v ps

there_carried : (v : ℕ → ℕ) (ps : Trees) (m : ℕ) → is_there (part_at (carries v ps) m) ≡ is_there (part_at ps m)
there_carried v none m = refl
there_carried v (more p ps) zero = refl
there_carried v (more p ps) (suc m) = there_carried v ps m
there_carried v (skip ps) zero = refl
there_carried v (skip ps) (suc m) = there_carried v ps m

statements_carried : (v : ℕ → ℕ) (ps : Trees) → AreStatements ps → AreStatements (carries v ps)
statements_carried v none h = tt
statements_carried v (more (node k i j qs) ps) h = (h.0, statements_carried v ps h.1)
statements_carried v (skip ps) h = statements_carried v ps h

kind_kept : (v : ℕ → ℕ) (p : Tree) (q : Patch) → ReplacesRuns v p q → kind_of (become v p q) ≡ kind_of p
kind_kept v (node k i j ps) keep h = refl
kind_kept v (node k i j ps) (put s) h = absurd h
kind_kept v (node k i j ps) (inside qs) h = refl

first_kept : (v : ℕ → ℕ) (p : Tree) (q : Patch) → ReplacesRuns v p q → first (become v p q) ≡ v (first p)
first_kept v (node k i j ps) keep h = refl
first_kept v (node k i j ps) (put s) h = absurd h
first_kept v (node k i j ps) (inside qs) h = refl

last_kept : (v : ℕ → ℕ) (p : Tree) (q : Patch) → ReplacesRuns v p q → last (become v p q) ≡ v (last p)
last_kept v (node k i j ps) keep h = refl
last_kept v (node k i j ps) (put s) h = absurd h
last_kept v (node k i j ps) (inside qs) h = refl

there_row : (v : ℕ → ℕ) (ps : Trees) (qs : Patches) (m : ℕ) → ReplacesInRow v ps qs → is_there (part_at (become_all v ps qs) m) ≡ is_there (part_at ps m)
there_row v ps done m h = there_carried v ps m
there_row v none (part q qs) m h = refl
there_row v (more p ps) (part q qs) zero h = refl
there_row v (more p ps) (part q qs) (suc m) h = there_row v ps qs m h.1
there_row v (skip ps) (part q qs) zero h = refl
there_row v (skip ps) (part q qs) (suc m) h = there_row v ps qs m h
there_row v none (run n new qs) m h = absurd h
there_row v (more p ps) (run n new qs) m h = absurd h
there_row v (skip ps) (run n new qs) m h = absurd h

more_row : (v : ℕ → ℕ) (ps : Trees) (qs : Patches) → ReplacesInRow v ps qs → is_more (become_all v ps qs) ≡ is_more ps
more_row v ps done h = more_carried v ps
more_row v none (part q qs) h = refl
more_row v (more p ps) (part q qs) h = refl
more_row v (skip ps) (part q qs) h = more_row v ps qs h
more_row v none (run n new qs) h = absurd h
more_row v (more p ps) (run n new qs) h = absurd h
more_row v (skip ps) (run n new qs) h = absurd h

-- ---- lists of statements

more_onto : (xs ys : Trees) → is_more xs ≡ true → is_more (onto xs ys) ≡ true
more_onto none ys e = cc
more_onto (more p xs) ys e = refl
more_onto (skip xs) ys e = more_onto xs ys e

more_list : (v : ℕ → ℕ) (ps : Trees) (qs : Patches) → ReplacesInList v ps qs → is_more (become_all v ps qs) ≡ is_more ps
more_list v ps done h = more_carried v ps
more_list v none (part q qs) h = refl
more_list v (more p ps) (part q qs) h = refl
more_list v (skip ps) (part q qs) h = more_list v ps qs h
more_list v none (run n new qs) h = absurd h
more_list v (more p ps) (run n new qs) h = more_onto new (become_all v (items_behind n ps) qs) h.1
more_list v (skip ps) (run n new qs) h = absurd h

statements_onto : (xs ys : Trees) → AreStatements xs → AreStatements ys → AreStatements (onto xs ys)
statements_onto none ys h g = g
statements_onto (more p xs) ys h g = (h.0, statements_onto xs ys h.1 g)
statements_onto (skip xs) ys h g = statements_onto xs ys h g

pub statements_behind : (n : ℕ) (ps : Trees) → AreStatements ps → AreStatements (items_behind n ps)
statements_behind zero ps h = h
statements_behind (suc n) none h = tt
statements_behind (suc n) (more p ps) h = statements_behind n ps h.1
statements_behind (suc n) (skip ps) h = tt

statements_list : (v : ℕ → ℕ) (ps : Trees) (qs : Patches) → AreStatements ps → ReplacesInList v ps qs → AreStatements (become_all v ps qs)
statements_list v ps done a h = statements_carried v ps a
statements_list v none (part q qs) a h = tt
statements_list v (more p ps) (part q qs) a h = (ap is_specification (kind_kept v p q h.0) ∙ a.0, statements_list v ps qs a.1 h.1)
statements_list v (skip ps) (part q qs) a h = statements_list v ps qs a h
statements_list v none (run n new qs) a h = absurd h
statements_list v (more p ps) (run n new qs) a h = statements_onto new (become_all v (items_behind n ps) qs) h.2 (statements_list v (items_behind n ps) qs (statements_behind n ps a.1) h.3)
statements_list v (skip ps) (run n new qs) a h = absurd h

split : (n : ℕ) (ps : Trees) → has_items n ps ≡ true → onto (so_many n ps) (items_behind n ps) ≡ ps
split zero ps e = refl
split (suc n) none e = cc
split (suc n) (more p ps) e = ap (more p) (split n ps e)
split (suc n) (skip ps) e = cc

-- ---- contexts

no_source : (s : Option ℕ) (k : Kind) (i : ℕ) (ps : Trees) → is_specification k ≡ false → source_of s k i ps ≡ s
no_source s (kind.Specification x) i ps e = cc
no_source s k i ps e = refl

source_kept : (c : Context) (p : Tree) → is_specification (kind_of p) ≡ false → source_at c p ≡ c.source
source_kept c (node k i j ps) e = no_source c.source k i ps e

pass_kept : (c : Context) (p : Tree) → is_specification (kind_of p) ≡ false → pass c p ≡ c
pass_kept c p e = ap (λ (z : Option ℕ). record c { source = z }) (source_kept c p e)

begin_kept : (c : Context) (k : Kind) → leads_to_lists k ≡ true → begin c k ≡ c
begin_kept c (kind.Declaration s) e = cc
begin_kept c k e = refl

body_carried : (v : ℕ → ℕ) (b d : Bool) (x from to : ℕ) → b ≡ d → x ≡ v from → body_scope b x (v to) ≡ carried_scopes v (body_scope d from to)
body_carried v b d x from to e f = ap (λ z. body_scope z x (v to)) e ∙ ap (λ z. body_scope d z (v to)) f ∙ by d
  where
    by : (d : Bool) → body_scope d (v from) (v to) ≡ carried_scopes v (body_scope d from to)
    by true = refl
    by false = refl

module _ (v : ℕ → ℕ) (c : Context) (i j : ℕ) (ps ps' : Trees) (named named' : Bool) (p p' : Tree) (b : Bool) where
  same_source : is_specification (kind_of p) ≡ false → is_specification (kind_of p') ≡ false → source_at (carried_context v c) p' ≡ carried_token v (source_at c p)
  same_source e e' = source_kept (carried_context v c) p' e' ∙ sym (ap (carried_token v) (source_kept c p e))

  case_enter : (n : ℕ) → is_specification (kind_of p) ≡ false → is_specification (kind_of p') ≡ false → enter (carried_context v c) kind.Case (v i) (v j) ps' named' n p' b ≡ carried_context v (enter c kind.Case i j ps named n p b)
  case_enter n e e' = ap (λ (z : Option ℕ). record (enter (carried_context v c) kind.Case (v i) (v j) ps' named' n p' b) { source = z }) (same_source e e')

  -- the context of a part
  pub same_enter : (k : Kind) (n : ℕ) → leads_to_lists k ≡ true → is_there (part_at ps' 1) ≡ is_there (part_at ps 1) → last p' ≡ v (last p) → is_specification (kind_of p) ≡ false → is_specification (kind_of p') ≡ false
      → enter (carried_context v c) k (v i) (v j) ps' named' n p' b ≡ carried_context v (enter c k i j ps named n p b)
  same_enter kind.FunctionDeclaration zero l there ends e e' =
      ap (λ (z : Option ℕ). record (enter (carried_context v c) kind.FunctionDeclaration (v i) (v j) ps' named' 0 p' b) { source = z }) (same_source e e')
      ∙ ap (λ (z : Option Scope). record (carried_context v (enter c kind.FunctionDeclaration i j ps named 0 p b)) { parameters = z }) (body_carried v (is_there (part_at ps' 1)) (is_there (part_at ps 1)) (last p') (last p) j there ends)
  same_enter kind.FunctionDeclaration (suc n) l there ends e e' =
      ap (λ (z : Option ℕ). record (enter (carried_context v c) kind.FunctionDeclaration (v i) (v j) ps' named' (suc n) p' b) { source = z }) (same_source e e')
  same_enter kind.Block n l there ends e e' = ap (λ (z : Option ℕ). record (enter (carried_context v c) kind.Block (v i) (v j) ps' named' n p' b) { source = z }) (same_source e e')
  same_enter kind.If n l there ends e e' = ap (λ (z : Option ℕ). record (enter (carried_context v c) kind.If (v i) (v j) ps' named' n p' b) { source = z }) (same_source e e')
  same_enter kind.Else n l there ends e e' = ap (λ (z : Option ℕ). record (enter (carried_context v c) kind.Else (v i) (v j) ps' named' n p' b) { source = z }) (same_source e e')
  same_enter kind.Switch n l there ends e e' = ap (λ (z : Option ℕ). record (enter (carried_context v c) kind.Switch (v i) (v j) ps' named' n p' b) { source = z }) (same_source e e')
  same_enter kind.Case n l there ends e e' = case_enter n e e'
  same_enter kind.Default n l there ends e e' = ap (λ (z : Option ℕ). record (enter (carried_context v c) kind.Default (v i) (v j) ps' named' n p' b) { source = z }) (same_source e e')
  same_enter kind.For n l there ends e e' = ap (λ (z : Option ℕ). record (enter (carried_context v c) kind.For (v i) (v j) ps' named' n p' b) { source = z }) (same_source e e')
  same_enter k n l there ends e e' = cc

-- ---- what a node tells by itself

statement_told : (v : ℕ → ℕ) (b : Bool) (i j : ℕ) → statement_events b (v i) (v j) ≡ map (carried_event v) (statement_events b i j)
statement_told v true i j = refl
statement_told v false i j = refl

function_told : (v : ℕ → ℕ) (i j : ℕ) (b : Bool) → v (suc i) ≡ suc (v i) → function_events (v i) (v j) b ≡ map (carried_event v) (function_events i j b)
function_told v i j true h = ap (λ x. event.Declaration (record { name = x; entity = entity.Function; manner = manner.Declared; block = block.Package; scope = record { from = v i; to = v j }; statement = v i; source = Some (v i); column = 0 }) ∷ []) (sym h)
function_told v i j false h = ap (λ x. event.Declaration (record { name = x; entity = entity.Function; manner = manner.Declared; block = block.Package; scope = record { from = v i; to = v j }; statement = v i; source = Some (v i); column = 0 }) ∷ event.Bodiless (v i) (v j) ∷ []) (sym h)

if_told : (v : ℕ → ℕ) (b : Bool) (es : List Event) → (if b then map (carried_event v) es else []) ≡ map (carried_event v) (if b then es else [])
if_told v true es = refl
if_told v false es = refl

declaration_told : (v : ℕ → ℕ) (i j : ℕ) (ps ps' : Trees) → KeepsName v kind.FunctionDeclaration i j → is_there (part_at ps' 1) ≡ is_there (part_at ps 1) → declaration_events (v i) (v j) ps' ≡ map (carried_event v) (declaration_events i j ps)
declaration_told v i j ps ps' h there =
    ap (λ b. if b then function_events (v i) (v j) (is_there (part_at ps' 1)) else []) h.1
    ∙ ap (λ b. if nat_lt i j then function_events (v i) (v j) b else []) there
    ∙ ap (λ es. if nat_lt i j then es else []) (function_told v i j (is_there (part_at ps 1)) h.0)
    ∙ if_told v (nat_lt i j) (function_events i j (is_there (part_at ps 1)))

default_told : (v : ℕ → ℕ) (d b : Bool) (word : ℕ) → default_events d b (v word) ≡ map (carried_event v) (default_events d b word)
default_told v true true word = refl
default_told v true false word = refl
default_told v false b word = refl

clause_told : (v : ℕ → ℕ) (d b : Bool) (word : ℕ) (xs ys : List Event) → ys ≡ map (carried_event v) xs → default_events d b (v word) ++ ys ≡ map (carried_event v) (default_events d b word ++ xs)
clause_told v d b word xs ys e = ap (λ es. es ++ ys) (default_told v d b word) ∙ ap (λ es. map (carried_event v) (default_events d b word) ++ es) e ∙ sym (map-append (carried_event v) (default_events d b word) xs)

clauses_carried : (v : ℕ → ℕ) (b : Bool) (ps : Trees) → second_defaults b (carries v ps) ≡ map (carried_event v) (second_defaults b ps)
clauses_carried v b none = refl
clauses_carried v b (skip ps) = clauses_carried v b ps
clauses_carried v b (more (node k i j qs) ps) = clause_told v (is_default k) b i (second_defaults (b || is_default k) ps) (second_defaults (b || is_default k) (carries v ps)) (clauses_carried v (b || is_default k) ps)

clauses_told : (v : ℕ → ℕ) (b : Bool) (ps : Trees) (qs : Patches) → ReplacesInRow v ps qs → second_defaults b (become_all v ps qs) ≡ map (carried_event v) (second_defaults b ps)
clauses_told v b ps done h = clauses_carried v b ps
clauses_told v b none (part q qs) h = refl
clauses_told v b (skip ps) (part q qs) h = clauses_told v b ps qs h
clauses_told v b (more p ps) (part q qs) h =
    ap (λ x. default_events (is_default (kind_of (become v p q))) b x ++ second_defaults (b || is_default (kind_of (become v p q))) (become_all v ps qs)) (first_kept v p q h.0)
    ∙ ap (λ k. default_events (is_default k) b (v (first p)) ++ second_defaults (b || is_default k) (become_all v ps qs)) (kind_kept v p q h.0)
    ∙ clause_told v (is_default (kind_of p)) b (first p) (second_defaults (b || is_default (kind_of p)) ps) (second_defaults (b || is_default (kind_of p)) (become_all v ps qs)) (clauses_told v (b || is_default (kind_of p)) ps qs h.1)
clauses_told v b none (run n new qs) h = absurd h
clauses_told v b (more p ps) (run n new qs) h = absurd h
clauses_told v b (skip ps) (run n new qs) h = absurd h

own_told : (v : ℕ → ℕ) (c : Context) (k : Kind) (i j : ℕ) (ps : Trees) (qs : Patches) → leads_to_lists k ≡ true → KeepsName v k i j → ReplacesInRow v ps qs
    → own_events (carried_context v c) k (v i) (v j) (become_all v ps qs) ≡ map (carried_event v) (own_events c k i j ps)
own_told v c kind.FunctionDeclaration i j ps qs l h r = declaration_told v i j ps (become_all v ps qs) h (there_row v ps qs 1 r)
own_told v c kind.Switch i j ps qs l h r = clauses_told v false ps qs r
own_told v c kind.Block i j ps qs l h r = refl
own_told v c kind.If i j ps qs l h r = refl
own_told v c kind.Else i j ps qs l h r = refl
own_told v c kind.Case i j ps qs l h r = refl
own_told v c kind.Default i j ps qs l h r = refl
own_told v c kind.For i j ps qs l h r = refl
own_told v c k i j ps qs l h r = cc

-- ---- trees

module _ (laws : Laws) (v : ℕ → ℕ) where
  pub list_carried : (c : Context) (f : Bool) (ps : Trees) → AllKeepNames v ps → told_list (carried_context v c) f (carries v ps) ≡ map (carried_event v) (told_list c f ps)
  list_carried c f none h = refl
  list_carried c f (skip ps) h = list_carried c f ps h
  list_carried c f (more p ps) h =
      ap (λ b. events (record (carried_context v c) { falls = f && not b }) (carry v p) ++ told_list (carried_context v c) f (carries v ps)) (more_carried v ps)
      ∙ ap (λ es. es ++ told_list (carried_context v c) f (carries v ps)) (laws.carried v (record c { falls = f && not (is_more ps) }) p h.0)
      ∙ ap (λ es. map (carried_event v) (events (record c { falls = f && not (is_more ps) }) p) ++ es) (list_carried c f ps h.1)
      ∙ sym (map-append (carried_event v) (events (record c { falls = f && not (is_more ps) }) p) (told_list c f ps))

  module _ (c : Context) (k : Kind) (i j : ℕ) (ps ps' : Trees) (l : leads_to_lists k ≡ true) (there : is_there (part_at ps' 1) ≡ is_there (part_at ps 1)) where
    abbrev new_row : ℕ → Trees → List Event
    new_row n rs = events_of (carried_context v c) k (v i) (v j) ps' n rs

    abbrev old_part : ℕ → Tree → Trees → Context
    old_part n p rs = enter c k i j ps (ends_named ps) n p (is_more rs)

    -- a part and those behind it, in the new tree
    part_told : (n : ℕ) (p p' : Tree) (rs rs' : Trees) → is_specification (kind_of p) ≡ false → kind_of p' ≡ kind_of p → last p' ≡ v (last p) → is_more rs' ≡ is_more rs → new_row n (more p' rs') ≡ events (carried_context v (old_part n p rs)) p' ++ new_row (suc n) rs'
    part_told n p p' rs rs' e same ends others =
        let e' : is_specification (kind_of p') ≡ false = ap is_specification same ∙ e in
        ap (λ z. events (enter (carried_context v c) k (v i) (v j) ps' (ends_named ps') n p' z) p' ++ events_of (pass (carried_context v c) p') k (v i) (v j) ps' (suc n) rs') others
        ∙ ap (λ z. events z p' ++ events_of (pass (carried_context v c) p') k (v i) (v j) ps' (suc n) rs') (same_enter v c i j ps ps' (ends_named ps) (ends_named ps') p p' (is_more rs) k n l there ends e e')
        ∙ ap (λ z. events (carried_context v (old_part n p rs)) p' ++ events_of z k (v i) (v j) ps' (suc n) rs') (pass_kept (carried_context v c) p' e')

    row_carried : (n : ℕ) (rs : Trees) → AreStatements rs → AllKeepNames v rs → new_row n (carries v rs) ≡ map (carried_event v) (events_of c k i j ps n rs)
    row_carried n none a h = refl
    row_carried n (skip rs) a h = row_carried (suc n) rs a h
    row_carried n (more (node x y z ws) rs) a h =
        let p : Tree = node x y z ws in
        part_told n p (carry v p) rs (carries v rs) a.0 refl refl (more_carried v rs)
        ∙ ap (λ es. es ++ new_row (suc n) (carries v rs)) (laws.carried v (old_part n p rs) p h.0)
        ∙ ap (λ es. map (carried_event v) (events (old_part n p rs) p) ++ es) (row_carried (suc n) rs a.1 h.1)
        ∙ sym (map-append (carried_event v) (events (old_part n p rs) p) (events_of c k i j ps (suc n) rs))
        ∙ ap (λ z. map (carried_event v) (events (old_part n p rs) p ++ events_of z k i j ps (suc n) rs)) (sym (pass_kept c p a.0))

  -- a node whose parts are told
  node_told : (c : Context) (k : Kind) (i j : ℕ) (ps : Trees) (qs : Patches) → leads_to_lists k ≡ true → KeepsName v k i j → ReplacesInRow v ps qs
      → events_of (carried_context v c) k (v i) (v j) (become_all v ps qs) 0 (become_all v ps qs) ≡ told_behind v (row_pieces v c k i j ps 0 ps qs)
      → events (carried_context v c) (node k (v i) (v j) (become_all v ps qs)) ≡ told_behind v (stays (statement_events c.listed i j ++ own_events c k i j ps) ∷ row_pieces v c k i j ps 0 ps qs)
  node_told c k i j ps qs l keeps r row =
      let new : Trees = become_all v ps qs in
      let own : List Event = own_events (carried_context v c) k (v i) (v j) new in
      let same : statement_events c.listed (v i) (v j) ++ own ≡ map (carried_event v) (statement_events c.listed i j ++ own_events c k i j ps) =
      ap (λ es. es ++ own) (statement_told v c.listed i j) ∙ ap (λ es. map (carried_event v) (statement_events c.listed i j) ++ es) (own_told v c k i j ps qs l keeps r) ∙ sym (map-append (carried_event v) (statement_events c.listed i j) (own_events c k i j ps)) in
      ap (λ z. (statement_events c.listed (v i) (v j) ++ own) ++ events_of z k (v i) (v j) new 0 new) (begin_kept (carried_context v c) k l)
      ∙ ap (λ es. es ++ events_of (carried_context v c) k (v i) (v j) new 0 new) same
      ∙ ap (λ es. map (carried_event v) (statement_events c.listed i j ++ own_events c k i j ps) ++ es) row

  abbrev Told : Context → Tree → Patch → Type 0
  Told c t q = events (carried_context v c) (become v t q) ≡ told_behind v (pieces v c t q)

  mutual
    pub tells : (c : Context) (t : Tree) (q : Patch) → ReplacesRuns v t q → Told c t q
    tells c t keep h = laws.carried v c t h ∙ sym (append-nil (map (carried_event v) (events c t)))
    tells c t (put s) h = absurd h
    tells c (node kind.Block i j ps) (inside qs) h =
        (laws.lists (carried_context v c) (v i) (v j) (become_all v ps qs) (statements_list v ps qs h.0 h.1)).block
        ∙ ap (λ es. es ++ told_list (carried_context v (list_context c i j)) false (become_all v ps qs)) (statement_told v c.listed i j)
        ∙ ap (λ es. map (carried_event v) (statement_events c.listed i j) ++ es) (list_tells (list_context c i j) false ps qs h.0 h.1)
    tells c (node kind.Default i j ps) (inside qs) h =
        (laws.lists (carried_context v c) (v i) (v j) (become_all v ps qs) (statements_list v ps qs h.0 h.1)).default
        ∙ ap (λ es. es ++ told_list (carried_context v (list_context c i j)) c.followed (become_all v ps qs)) (statement_told v c.listed i j)
        ∙ ap (λ es. map (carried_event v) (statement_events c.listed i j) ++ es) (list_tells (list_context c i j) c.followed ps qs h.0 h.1)
    tells c (node kind.Case i j ps) (inside qs) h = case_tells c i j ps qs h.0 h.1
    tells c (node k i j ps) (inside qs) h = node_told c k i j ps qs h.0 h.1 h.3 (row_tells c k i j ps (become_all v ps qs) 0 ps qs h.0 (there_row v ps qs 1 h.3) h.2 h.3)

    row_tells : (c : Context) (k : Kind) (i j : ℕ) (ps ps' : Trees) (n : ℕ) (rs : Trees) (qs : Patches) → leads_to_lists k ≡ true → is_there (part_at ps' 1) ≡ is_there (part_at ps 1) → AreStatements rs → ReplacesInRow v rs qs
        → events_of (carried_context v c) k (v i) (v j) ps' n (become_all v rs qs) ≡ told_behind v (row_pieces v c k i j ps n rs qs)
    row_tells c k i j ps ps' n rs done l there a h = row_carried c k i j ps ps' l there n rs a h ∙ sym (append-nil (map (carried_event v) (events_of c k i j ps n rs)))
    row_tells c k i j ps ps' n none (part q qs) l there a h = refl
    row_tells c k i j ps ps' n (skip rs) (part q qs) l there a h = row_tells c k i j ps ps' (suc n) rs qs l there a h
    row_tells c k i j ps ps' n (more p rs) (part q qs) l there a h =
        let d : Context = enter c k i j ps (ends_named ps) n p (is_more rs) in
        part_told c k i j ps ps' l there n p (become v p q) rs (become_all v rs qs) a.0 (kind_kept v p q h.0) (last_kept v p q h.0) (more_row v rs qs h.1)
        ∙ ap (λ es. es ++ events_of (carried_context v c) k (v i) (v j) ps' (suc n) (become_all v rs qs)) (tells d p q h.0)
        ∙ ap (λ es. told_behind v (pieces v d p q) ++ es) (row_tells c k i j ps ps' (suc n) rs qs l there a.1 h.1)
        ∙ sym (behind_both v (pieces v d p q) (row_pieces v c k i j ps (suc n) rs qs))
    row_tells c k i j ps ps' n none (run m new qs) l there a h = absurd h
    row_tells c k i j ps ps' n (more p rs) (run m new qs) l there a h = absurd h
    row_tells c k i j ps ps' n (skip rs) (run m new qs) l there a h = absurd h

    case_tells : (c : Context) (i j : ℕ) (ps : Trees) (qs : Patches) → AreStatements ps → ReplacesInCase v ps qs → Told c (node kind.Case i j ps) (inside qs)
    case_tells c i j (more e ps) (part keep qs) a h =
        let d : Context = enter c kind.Case i j (more e ps) (ends_named (more e ps)) 0 e (is_more ps) in
        let new : Trees = become_all v ps qs in
        let all : Trees = more (carry v e) new in
        let f : is_specification (kind_of (carry v e)) ≡ false = ap is_specification (kind_kept v e keep h.0) ∙ a.0 in
        let old : List Event = statement_events c.listed i j in
        (laws.lists (carried_context v c) (v i) (v j) new (statements_list v ps qs a.1 h.1)).case (carry v e) f
        ∙ ap (λ es. es ++ (events (enter (carried_context v c) kind.Case (v i) (v j) all (ends_named all) 0 (carry v e) (is_more new)) (carry v e) ++ told_list (carried_context v (list_context c i j)) c.followed new)) (statement_told v c.listed i j)
        ∙ ap (λ b. map (carried_event v) old ++ (events (enter (carried_context v c) kind.Case (v i) (v j) all (ends_named all) 0 (carry v e) b) (carry v e) ++ told_list (carried_context v (list_context c i j)) c.followed new)) (more_list v ps qs h.1)
        ∙ ap (λ z. map (carried_event v) old ++ (events z (carry v e) ++ told_list (carried_context v (list_context c i j)) c.followed new))
        (case_enter v c i j (more e ps) all (ends_named (more e ps)) (ends_named all) e (carry v e) (is_more ps) 0 a.0 f)
        ∙ ap (λ es. map (carried_event v) old ++ (es ++ told_list (carried_context v (list_context c i j)) c.followed new)) (laws.carried v d e h.0)
        ∙ ap (λ es. map (carried_event v) old ++ (map (carried_event v) (events d e) ++ es)) (list_tells (list_context c i j) c.followed ps qs a.1 h.1)
    case_tells c i j (more e ps) (part (put s) qs) a h = absurd h
    case_tells c i j (more e ps) (part (inside r) qs) a h = absurd h
    case_tells c i j (more e ps) done a h = absurd h
    case_tells c i j (more e ps) (run n new qs) a h = absurd h
    case_tells c i j none qs a h = absurd h
    case_tells c i j (skip ps) qs a h = absurd h

    list_tells : (c : Context) (f : Bool) (ps : Trees) (qs : Patches) → AreStatements ps → ReplacesInList v ps qs → told_list (carried_context v c) f (become_all v ps qs) ≡ told_behind v (list_pieces v c f ps qs)
    list_tells c f ps done a h = list_carried c f ps h ∙ sym (append-nil (map (carried_event v) (told_list c f ps)))
    list_tells c f none (part q qs) a h = refl
    list_tells c f (skip ps) (part q qs) a h = list_tells c f ps qs a h
    list_tells c f (more p ps) (part q qs) a h =
        let d : Context = record c { falls = f && not (is_more ps) } in
        ap (λ b. events (record (carried_context v c) { falls = f && not b }) (become v p q) ++ told_list (carried_context v c) f (become_all v ps qs)) (more_list v ps qs h.1)
        ∙ ap (λ es. es ++ told_list (carried_context v c) f (become_all v ps qs)) (tells d p q h.0)
        ∙ ap (λ es. told_behind v (pieces v d p q) ++ es) (list_tells c f ps qs a.1 h.1)
        ∙ sym (behind_both v (pieces v d p q) (list_pieces v c f ps qs))
    list_tells c f none (run n new qs) a h = absurd h
    list_tells c f (skip ps) (run n new qs) a h = absurd h
    list_tells c f (more p ps) (run n new qs) a h =
        let rest : Trees = become_all v (items_behind n ps) qs in
        laws.joined (carried_context v c) f new rest
        ∙ ap (λ b. told_list (carried_context v c) (f && not b) new ++ told_list (carried_context v c) f rest) (more_list v (items_behind n ps) qs h.3)
        ∙ ap (λ es. told_list (carried_context v c) (f && not (is_more (items_behind n ps))) new ++ es) (list_tells c f (items_behind n ps) qs (statements_behind n ps a.1) h.3)

  -- ---- the old tree

  node_before : (c : Context) (k : Kind) (i j : ℕ) (ps : Trees) (qs : Patches) → leads_to_lists k ≡ true → events_of c k i j ps 0 ps ≡ told_before (row_pieces v c k i j ps 0 ps qs)
      → events c (node k i j ps) ≡ told_before (stays (statement_events c.listed i j ++ own_events c k i j ps) ∷ row_pieces v c k i j ps 0 ps qs)
  node_before c k i j ps qs l row =
      ap (λ z. (statement_events c.listed i j ++ own_events c k i j ps) ++ events_of z k i j ps 0 ps) (begin_kept c k l)
      ∙ ap (λ es. (statement_events c.listed i j ++ own_events c k i j ps) ++ es) row

  mutual
    pub tells_before : (c : Context) (t : Tree) (q : Patch) → ReplacesRuns v t q → events c t ≡ told_before (pieces v c t q)
    tells_before c t keep h = sym (append-nil (events c t))
    tells_before c t (put s) h = absurd h
    tells_before c (node kind.Block i j ps) (inside qs) h = (laws.lists c i j ps h.0).block ∙ ap (λ es. statement_events c.listed i j ++ es) (list_before (list_context c i j) false ps qs h.0 h.1)
    tells_before c (node kind.Default i j ps) (inside qs) h = (laws.lists c i j ps h.0).default ∙ ap (λ es. statement_events c.listed i j ++ es) (list_before (list_context c i j) c.followed ps qs h.0 h.1)
    tells_before c (node kind.Case i j ps) (inside qs) h = case_before c i j ps qs h.0 h.1
    tells_before c (node k i j ps) (inside qs) h = node_before c k i j ps qs h.0 (row_before c k i j ps 0 ps qs h.2 h.3)

    row_before : (c : Context) (k : Kind) (i j : ℕ) (ps : Trees) (n : ℕ) (rs : Trees) (qs : Patches) → AreStatements rs → ReplacesInRow v rs qs → events_of c k i j ps n rs ≡ told_before (row_pieces v c k i j ps n rs qs)
    row_before c k i j ps n rs done a h = sym (append-nil (events_of c k i j ps n rs))
    row_before c k i j ps n none (part q qs) a h = refl
    row_before c k i j ps n (skip rs) (part q qs) a h = row_before c k i j ps (suc n) rs qs a h
    row_before c k i j ps n (more p rs) (part q qs) a h =
        let d : Context = enter c k i j ps (ends_named ps) n p (is_more rs) in
        ap (λ z. events d p ++ events_of z k i j ps (suc n) rs) (pass_kept c p a.0)
        ∙ ap (λ es. es ++ events_of c k i j ps (suc n) rs) (tells_before d p q h.0)
        ∙ ap (λ es. told_before (pieces v d p q) ++ es) (row_before c k i j ps (suc n) rs qs a.1 h.1)
        ∙ sym (before_both (pieces v d p q) (row_pieces v c k i j ps (suc n) rs qs))
    row_before c k i j ps n none (run m new qs) a h = absurd h
    row_before c k i j ps n (more p rs) (run m new qs) a h = absurd h
    row_before c k i j ps n (skip rs) (run m new qs) a h = absurd h

    case_before : (c : Context) (i j : ℕ) (ps : Trees) (qs : Patches) → AreStatements ps → ReplacesInCase v ps qs → events c (node kind.Case i j ps) ≡ told_before (pieces v c (node kind.Case i j ps) (inside qs))
    case_before c i j (more e ps) (part keep qs) a h =
        let d : Context = enter c kind.Case i j (more e ps) (ends_named (more e ps)) 0 e (is_more ps) in
        (laws.lists c i j ps a.1).case e a.0 ∙ ap (λ es. statement_events c.listed i j ++ (events d e ++ es)) (list_before (list_context c i j) c.followed ps qs a.1 h.1)
    case_before c i j (more e ps) (part (put s) qs) a h = absurd h
    case_before c i j (more e ps) (part (inside r) qs) a h = absurd h
    case_before c i j (more e ps) done a h = absurd h
    case_before c i j (more e ps) (run n new qs) a h = absurd h
    case_before c i j none qs a h = absurd h
    case_before c i j (skip ps) qs a h = absurd h

    list_before : (c : Context) (f : Bool) (ps : Trees) (qs : Patches) → AreStatements ps → ReplacesInList v ps qs → told_list c f ps ≡ told_before (list_pieces v c f ps qs)
    list_before c f ps done a h = sym (append-nil (told_list c f ps))
    list_before c f none (part q qs) a h = refl
    list_before c f (skip ps) (part q qs) a h = list_before c f ps qs a h
    list_before c f (more p ps) (part q qs) a h =
        let d : Context = record c { falls = f && not (is_more ps) } in
        ap (λ es. es ++ told_list c f ps) (tells_before d p q h.0)
        ∙ ap (λ es. told_before (pieces v d p q) ++ es) (list_before c f ps qs a.1 h.1)
        ∙ sym (before_both (pieces v d p q) (list_pieces v c f ps qs))
    list_before c f none (run n new qs) a h = absurd h
    list_before c f (skip ps) (run n new qs) a h = absurd h
    list_before c f (more p ps) (run n new qs) a h =
        ap (λ z. told_list c f (more p z)) (sym (split n ps h.0))
        ∙ laws.joined c f (more p (so_many n ps)) (items_behind n ps)
        ∙ ap (λ es. told_list c (f && not (is_more (items_behind n ps))) (more p (so_many n ps)) ++ es) (list_before c f (items_behind n ps) qs (statements_behind n ps a.1) h.3)
