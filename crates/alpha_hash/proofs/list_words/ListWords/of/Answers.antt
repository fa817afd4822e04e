use Rattle.std.proofs.Common.{◌≡◌, ◌∙◌, ℕ, Some, None, true, List, [], length, map, slice_get, ap, sym, subst}
use Rattle.std.specs.List.{list_all}
use Rattle.std.specs.Option.{option_map}
use Rattle.go_typed.specs.Funcs.{tree_of}
use Rattle.go_typed.specs.Packages.{is_below}
use Rattle.go_typed.specs.Trees.{Sort, Typeds, none, every_part, sort_has}
use Rattle.go_typed.specs.Views.{sort_view, views}
use Rattle.alpha_hash_defs.specs.Packages.{naming_of}
use Rattle.alpha_hash.specs.Starts.{AreWordsOf, HasWords}
use Rattle.alpha_hash.proofs.Runs.{both-weaker, function-known, no-words, window-known, words-there}
use Rattle.alpha_hash.proofs.list_words.ListWords.of.Goals as goal

pub words_over-requires-clause-locals : goal.words_over-requires-clause-locals
words_over-requires-clause-locals c =
    let p = c.args.checked.now in
    let e : slice_get p.functions c.args.run.func ≡ Some c.in-Some.f.now = c.function.ensures ∙ ap (option_map (λ f. f.now)) c.in-Some.is in
    subst (λ (l : List (Sort ℕ)). list_all (sort_has (is_below (length p.types.shapes))) l ≡ true) (sym c.locals.ensures) (function-known p c.args.run.func c.in-Some.f.now c.types-types.ensures.stands.known_functions e).locals

pub words_over-requires-clause-statements : goal.words_over-requires-clause-statements
words_over-requires-clause-statements c =
    let p = c.args.checked.now in
    let e : slice_get p.functions c.args.run.func ≡ Some c.in-Some.f.now = c.function.ensures ∙ ap (option_map (λ f. f.now)) c.in-Some.is in
    subst (λ (ps : Typeds ℕ). every_part (is_below (length p.types.shapes)) ps ≡ true) (sym c.statements.ensures)
    (window-known (is_below (length p.types.shapes)) (tree_of c.in-Some.f.now) c.args.run (function-known p c.args.run.func c.in-Some.f.now c.types-types.ensures.stands.known_functions e).tree)

pub returns-in-Some-clause-words : goal.returns-in-Some-clause-words
returns-in-Some-clause-words c =
    let p = c.args.checked.now in
    let e : slice_get p.functions c.args.run.func ≡ Some c.in-Some.f.now = c.function.ensures ∙ ap (option_map (λ f. f.now)) c.in-Some.is in
    let sorts = map sort_view c.locals.result.now in
    both-weaker c.words_over.result (λ l. l.run ≡ c.args.run) (AreWordsOf (naming_of p sorts) (views c.statements.result.now)) (HasWords p)
    (λ l re h. words-there p c.args.run c.in-Some.f.now sorts (views c.statements.result.now) l e c.locals.ensures c.statements.ensures re h) c.words_over.ensures.run c.words_over.ensures.words

pub returns-in-None-clause-words : goal.returns-in-None-clause-words
returns-in-None-clause-words c =
    let p = c.args.checked.now in
    let e : slice_get p.functions c.args.run.func ≡ None = c.function.ensures ∙ ap (option_map (λ f. f.now)) c.in-None.is in
    both-weaker c.words_over-in-None.result (λ l. l.run ≡ c.args.run) (AreWordsOf (naming_of p []) none) (HasWords p) (λ l re h. no-words p c.args.run l e re h)
    c.words_over-in-None.ensures.run c.words_over-in-None.ensures.words
