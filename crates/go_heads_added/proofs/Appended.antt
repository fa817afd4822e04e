-- A file with a declaration behind all others tells what it told, and then what that declaration tells.
use Rattle.std.proofs.Common.{◌≡◌, ◌∙◌, ℕ, suc, false, List, [], ◌++◌, map, Option, None, refl, sym, ap, append_assoc, append-nil}
use Rattle.go_grammar.specs.declared.kind.Kind.TheVariants as kind
use Rattle.go_grammar.specs.Trees.{Tree, node, Trees, none, more, skip, kind_of, first, parts, onto}
use Rattle.go_grammar.specs.Grammar.{ends_named}
use Rattle.go_rewriting.specs.Places.{with_declaration}
use Rattle.go_tree.specs.declared.context.Context.{Context}
use Rattle.go_tree.specs.declared.event.Event.{Event}
use Rattle.go_tree.specs.Contexts.{source_of, enter, file_context}
use Rattle.go_tree.specs.Events.{is_more, events, events_of}
use Rattle.go_heads_added.specs.Added.{reaching}
use Rattle.go_heads_added.specs.Appended.{passed, slots, context_behind}
use Rattle.go_heads_added.proofs.Farther.{parts_far}

abbrev sourced : Context → Option ℕ → Context
sourced c s = record c { source = s }

row_added : (c : Context) (s : Option ℕ) (i j end : ℕ) (all whole : Trees) (n : ℕ) (ps : Trees) (d : Tree)
    → events_of (sourced c s) kind.File i end whole n (onto ps (more d none)) ≡ events_of (sourced c s) kind.File i j all n ps ++ events_of (sourced c (passed s ps)) kind.File i end whole (slots n ps) (more d none)
row_added c s i j end all whole n none d = refl
row_added c s i j end all whole n (skip ps) d = row_added c s i j end all whole (suc n) ps d
row_added c s i j end all whole n (more p ps) d =
    let next : Option ℕ = source_of s (kind_of p) (first p) (parts p) in
    let own : List Event = events (enter (sourced c s) kind.File i j all (ends_named all) n p (is_more ps)) p in
    ap (λ es. own ++ es) (row_added c next i j end all whole (suc n) ps d)
    ∙ sym (append_assoc own (events_of (sourced c next) kind.File i j all (suc n) ps) (events_of (sourced c (passed next ps)) kind.File i end whole (slots (suc n) ps) (more d none)))

-- what is told is what was told, to another end, and then what the declaration tells
pub file_added : (i j end : ℕ) (ps : Trees) (d : Tree)
    → events (file_context end) (with_declaration (node kind.File i j ps) d end) ≡ map (reaching end) (events (file_context j) (node kind.File i j ps)) ++ events (context_behind end ps d) d
file_added i j end ps d =
    row_added (file_context end) None i j end ps (onto ps (more d none)) 0 ps d
    ∙ ap (λ es. es ++ (events (context_behind end ps d) d ++ [])) (parts_far end (file_context j) kind.File i j ps 0 ps refl false refl)
    ∙ ap (λ es. map (reaching end) (events (file_context j) (node kind.File i j ps)) ++ es) (append-nil (events (context_behind end ps d) d))
