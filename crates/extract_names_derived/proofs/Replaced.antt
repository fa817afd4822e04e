-- A patch that replaces runs in lists alone replaces runs of statements, and the names of functions stay.
use Rattle.std.proofs.Common.{◌≡◌, ℕ, true, false, List, refl}
use Rattle.go_tokens.specs.declared.token.TokenKind.{TokenKind}
use Rattle.go_grammar.specs.declared.kind.Category.TheVariants as category
use Rattle.go_grammar.specs.declared.kind.Kind.{Kind}
use Rattle.go_grammar.specs.declared.kind.Kind.TheVariants as kind
use Rattle.go_grammar.specs.Trees.{Tree, node, Trees, none, more, skip, kind_of, first, last}
use Rattle.go_grammar.specs.Grammar.{Derives}
use Rattle.go_rewriting.specs.Places.{Patch, Patches, keep, put, inside, done, part, run, items_behind}
use Rattle.go_scopes_events.proofs.Public.{is_top, true_false}
use Rattle.go_scopes_bodies.specs.Carried.{KeepsName, KeepsNames, AllKeepNames}
use Rattle.extract_names.specs.Pieces.{ReplacesRuns, ReplacesInRow, ReplacesInCase, ReplacesInList}
use Rattle.extract_names_derived.specs.Patches.{InLists, InParts, InCase, InList}
use Rattle.extract_names_derived.proofs.Fit.{may_hold, IsFit, AreFit, derives_fit, part_inner}
use Rattle.extract_names_derived.proofs.Ascends.{fit_behind}
use Rattle.extract_names_derived.proofs.Whole.{fit_statements}

module _ (v : ℕ → ℕ) where
  keeps_name : (k : Kind) (i j : ℕ) → is_top k ≡ false → KeepsName v k i j
  keeps_name kind.FunctionDeclaration i j e = absurd (true_false true refl e)
  keeps_name k i j e = tt

  mutual
    keeps_names : (t : Tree) → is_top (kind_of t) ≡ false → IsFit t → KeepsNames v t
    keeps_names (node k i j ps) e f = (keeps_name k i j e, all_keep k i ps (λ l h. part_inner k l e h) f.1)

    all_keep : (k : Kind) (i : ℕ) (ps : Trees) → ((l : Kind) → may_hold k l ≡ true → is_top l ≡ false) → AreFit k i ps → AllKeepNames v ps
    all_keep k i none e f = tt
    all_keep k i (more p ps) e f = (keeps_names p (e (kind_of p) f.0) f.2, all_keep k i ps e f.3)
    all_keep k i (skip ps) e f = all_keep k i ps e f

  -- the parts of a node that holds no functions
  abbrev Holds : Kind → Type 0
  Holds k = (l : Kind) → may_hold k l ≡ true → is_top l ≡ false

  mutual
    replaces : (t : Tree) (q : Patch) → is_top (kind_of t) ≡ false → IsFit t → InLists t q → ReplacesRuns v t q
    replaces (node k i j ps) keep e f l = keeps_names (node k i j ps) e f
    replaces (node k i j ps) (put s) e f l = absurd l
    replaces (node kind.Block i j ps) (inside qs) e f l = (fit_statements kind.Block i ps refl f.1, replaces_list kind.Block i ps qs (λ x h. part_inner kind.Block x refl h) f.1 l)
    replaces (node kind.Default i j ps) (inside qs) e f l = (fit_statements kind.Default i ps refl f.1, replaces_list kind.Default i ps qs (λ x h. part_inner kind.Default x refl h) f.1 l)
    replaces (node kind.Case i j ps) (inside qs) e f l = (fit_statements kind.Case i ps refl f.1, replaces_case i ps qs f.1 l)
    replaces (node k i j ps) (inside qs) e f l = (l.0, keeps_name k i j e, fit_statements k i ps l.0 f.1, replaces_row k i ps qs (λ x h. part_inner k x e h) f.1 l.1)

    replaces_row : (k : Kind) (i : ℕ) (ps : Trees) (qs : Patches) → Holds k → AreFit k i ps → InParts ps qs → ReplacesInRow v ps qs
    replaces_row k i ps done e f l = all_keep k i ps e f
    replaces_row k i none (part q qs) e f l = tt
    replaces_row k i (more p ps) (part q qs) e f l = (replaces p q (e (kind_of p) f.0) f.2 l.0, replaces_row k i ps qs e f.3 l.1)
    replaces_row k i (skip ps) (part q qs) e f l = replaces_row k i ps qs e f l
    replaces_row k i ps (run n new qs) e f l = absurd l

    replaces_case : (i : ℕ) (ps : Trees) (qs : Patches) → AreFit kind.Case i ps → InCase ps qs → ReplacesInCase v ps qs
    replaces_case i (more p ps) (part keep qs) f l = (keeps_names p (part_inner kind.Case (kind_of p) refl f.0) f.2, replaces_list kind.Case i ps qs (λ x h. part_inner kind.Case x refl h) f.3 l)
    replaces_case i (more p ps) (part (put s) qs) f l = absurd l
    replaces_case i (more p ps) (part (inside rs) qs) f l = absurd l
    replaces_case i (more p ps) done f l = absurd l
    replaces_case i (more p ps) (run n new qs) f l = absurd l
    replaces_case i none qs f l = absurd l
    replaces_case i (skip ps) qs f l = absurd l

    replaces_list : (k : Kind) (i : ℕ) (ps : Trees) (qs : Patches) → Holds k → AreFit k i ps → InList ps qs → ReplacesInList v ps qs
    replaces_list k i ps done e f l = all_keep k i ps e f
    replaces_list k i none (part q qs) e f l = tt
    replaces_list k i (more p ps) (part q qs) e f l = (replaces p q (e (kind_of p) f.0) f.2 l.0, replaces_list k i ps qs e f.3 l.1)
    replaces_list k i (skip ps) (part q qs) e f l = replaces_list k i ps qs e f l
    replaces_list k i none (run n new qs) e f l = absurd l
    replaces_list k i (skip ps) (run n new qs) e f l = absurd l
    replaces_list k i (more p ps) (run n new qs) e f l = (l.0, l.1, l.2, replaces_list k i (items_behind n ps) qs e (fit_behind n k i ps l.0 f.3) l.3)

  function_holds : Holds kind.FunctionDeclaration
  function_holds kind.File h = absurd (true_false false h refl)
  function_holds kind.FunctionDeclaration h = absurd (true_false false h refl)
  function_holds l h = refl

  pub function_replaces : (ts : List TokenKind) (t : Tree) (q : Patch) → kind_of t ≡ kind.FunctionDeclaration → Derives ts category.Declaration t → KeepsName v kind.FunctionDeclaration (first t) (last t) → InLists t q → ReplacesRuns v t q
  function_replaces ts (node kind.FunctionDeclaration i j ps) q k h n l = by q l
    where
      f : IsFit (node kind.FunctionDeclaration i j ps)
      f = derives_fit ts (node kind.FunctionDeclaration i j ps) category.Declaration h

      by : (q : Patch) → InLists (node kind.FunctionDeclaration i j ps) q → ReplacesRuns v (node kind.FunctionDeclaration i j ps) q
      by keep l = (n, all_keep kind.FunctionDeclaration i ps function_holds f.1)
      by (put s) l = absurd l
      by (inside qs) l = (refl, n, fit_statements kind.FunctionDeclaration i ps refl f.1, replaces_row kind.FunctionDeclaration i ps qs function_holds f.1 l.1)
  function_replaces ts (node k i j ps) q e h n l = absurd cc
