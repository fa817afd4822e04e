-- The command as clap knows it, and what its faults say.
use Rattle.std.proofs.Common.{◌≡◌, ◌↔◌, ℕ, true, List, [], ◌∷◌, codes, Option, Err, inl, inr, refl, sym, ap, ◌∙◌}
use Rattle.std.specs.Prelude.{Ok}
use Rattle.clap.specs.Words.{App, Row, Rule, new_app, with_rule, first_of, is_simple, Text, Kinds, HasKind, kind_of, fault_of, matches_of, is_simple_and_free}
use Rattle.clap.specs.declared.error.Error.{Error}
use Rattle.clap.specs.declared.error.kind.ErrorKind.TheVariants as kind
use Rattle.clap.proofs.OnLiterals.{clap_on_literals}
use Rattle.go_base.specs.Gives.{Unless}
use Rattle.clone_server.specs.declared.words.WordsError.{WordsError}
use Rattle.clone_server.specs.declared.words.WordsError.TheVariants as errors
use Rattle.clone_server.specs.Words.{goclone, option_rule, folder_rule, found, rows_of_words, number_or, seed_or_none, all_said, said_by, words_refusal}

pub simple : is_simple_and_free goclone ≡ true
unfolding clap_on_literals
simple = refl

-- clap finds no fault
pub rows_found : (texts : List Text) (rows : List Row) → fault_of goclone texts ≡ [] → rows ≡ matches_of goclone texts → rows_of_words texts ≡ Ok rows
unfolding rows_of_words
rows_found texts rows none is = ap (λ ks. found ks (matches_of goclone texts)) none ∙ ap Ok (sym is)

some_fault : (kinds : Kinds) (rows : List Row) (e : Error) → HasKind kinds e → (kind_of e ≡ kind.OutOfMemory → ⊥) → found kinds rows ≡ Err errors.NotTaken
some_fault [] rows e (inl h) other = absurd (other h)
some_fault [] rows e (inr h) other = absurd h
some_fault (k ∷ ks) rows e h other = refl

-- clap finds one
pub rows_refused : (texts : List Text) (e : Error) → HasKind (fault_of goclone texts) e → (kind_of e ≡ kind.OutOfMemory → ⊥) → rows_of_words texts ≡ Err errors.NotTaken
unfolding rows_of_words
rows_refused texts e h other = some_fault (fault_of goclone texts) (matches_of goclone texts) e h other

-- the error that stands for the one of clap
pub refused_as : (texts : List Text) (e : Error) (told : WordsError) → HasKind (fault_of goclone texts) e → (told ≡ errors.Memory ↔ (kind_of e ≡ kind.OutOfMemory)) →
    Unless (words_refusal told) (λ f. rows_of_words texts ≡ Err f)
refused_as texts e errors.Memory h same = tt
refused_as texts e errors.NotTaken h same = rows_refused texts e h (λ k. no_memory (same.1 k))
  where
    no_memory : errors.NotTaken ≡ errors.Memory → ⊥
    no_memory is = cc

pub plain : is_simple goclone ≡ true
unfolding clap_on_literals
plain = refl

pub all_said_by : (rows : List Row) (min mass : Option ℕ) (make : Option (Option ℕ)) (dir min_text mass_text make_text : Option Text) → min ≡ number_or 32 2 min_text → mass ≡ number_or 1000 8 mass_text →
    make ≡ seed_or_none make_text → min_text ≡ first_of (codes "min") rows → mass_text ≡ first_of (codes "mass") rows → make_text ≡ first_of (codes "make") rows → dir ≡ first_of (codes "dir") rows →
    all_said min mass make dir ≡ said_by rows
all_said_by rows min mass make dir min_text mass_text make_text e f k g h l i =
    ap (λ n. all_said n mass make dir) (e ∙ ap (number_or 32 2) g)
    ∙ ap (λ n. all_said (number_or 32 2 (first_of (codes "min") rows)) n make dir) (f ∙ ap (number_or 1000 8) h)
    ∙ ap (λ n. all_said (number_or 32 2 (first_of (codes "min") rows)) (number_or 1000 8 (first_of (codes "mass") rows)) n dir) (k ∙ ap seed_or_none l)
    ∙ ap (all_said (number_or 32 2 (first_of (codes "min") rows)) (number_or 1000 8 (first_of (codes "mass") rows)) (seed_or_none (first_of (codes "make") rows))) i

-- the command, one argument after the other
pub command_is : (a b c d z : App) (min mass make dir : Rule) → a ≡ (let app = new_app (codes "goclone") in record app { top = record app.top { no_binary_name = true } }) →
    b ≡ with_rule a min → c ≡ with_rule b mass → d ≡ with_rule c make → z ≡ with_rule d dir →
    min ≡ option_rule (codes "min") → mass ≡ option_rule (codes "mass") → make ≡ option_rule (codes "make") → dir ≡ folder_rule → z ≡ goclone
command_is a b c d z min mass make dir ea eb ec ed ez e f h g =
    ez ∙ ap (λ x. with_rule x dir) (ed ∙ ap (λ x. with_rule x make) (ec ∙ ap (λ x. with_rule x mass) (eb ∙ ap (λ x. with_rule x min) ea)))
    ∙ (rw (e, f, h, g) refl)
