-- The same fault of names is reported of a package to which a function is appended.
use Rattle.std.proofs.Common.{◌≡◌, ◌∙◌, ℕ, suc, ◌≤◌, false, List, [], ◌∷◌, ◌++◌, length, map, refl, sym, ap, subst}
use Rattle.std.specs.List.{AllByRecursion}
use Rattle.go_tokens.specs.Tokens.{TokenList, kinds}
use Rattle.go_tokens.specs.declared.token.TokenKind.{TokenKind}
use Rattle.go_grammar.specs.declared.kind.Category.TheVariants as category
use Rattle.go_grammar.specs.declared.kind.Kind.TheVariants as kind
use Rattle.go_grammar.specs.Grammar.{IsFile, Derives}
use Rattle.go_grammar.specs.Trees.{Tree, Trees, node}
use Rattle.go_rewriting.specs.Places.{with_declaration}
use Rattle.go_tree.specs.declared.event.Event.{Event}
use Rattle.go_tree.specs.Events.{events}
use Rattle.go_tree.specs.Faults.{lookup_faults, reported}
use Rattle.go_tree.specs.Lookups.{asked_in}
use Rattle.go_tree.specs.Meanings.{meanings}
use Rattle.go_tree.specs.Units.{Unit, word, is_blank}
use Rattle.go_heads_added.specs.Added.{NoneSays}
use Rattle.go_heads_added.specs.Appended.{IsFront, context_behind, empty_function}
use Rattle.go_heads_added.specs.Appended as appended
use Rattle.go_heads_added.specs.Reported.{KeepsBytes, MayJoin, NamesShared}
use Rattle.go_heads_added.specs.Reported as reporting
use Rattle.go_package_defs.specs.Sources.{Source, unit_of}
use Rattle.go_package_added.specs.Appended.{FitsNames, IsAppended, SharesNames, function_name, function_tree}
use Rattle.go_package_added.proofs.Inserted.{front_of, map_both, mapped_count, rest_of}

abbrev pub KeepsReported : Type 0
KeepsReported = (k j end x y u v : ℕ) (a b : TokenList) (ts us : List TokenKind) (ps : Trees) (s : Tree) (before behind : List Unit) → let d = empty_function x y s u v in
    let t = node kind.File 0 j ps in let old = before ++ appended.unit_of a t ∷ behind in let new = before ++ appended.unit_of b (with_declaration t d end) ∷ behind in
    let name = word b (suc x) in let told = events (context_behind end ps d) d in length before ≡ k → AllByRecursion reporting.IsDerived before → AllByRecursion reporting.IsDerived behind → IsFile ts t
    → IsFront j a b → KeepsBytes j a b → Derives us category.Declaration d → j ≤ x → is_blank name ≡ false
    → NoneSays name old → MayJoin k name s b told new → reported new ≡ reported old

abbrev pub HasTree : Source → Type 0
HasTree s = IsFile (kinds s.tokens.tokens) s.tree

all_derived : (ss : List Source) → AllByRecursion HasTree ss → AllByRecursion reporting.IsDerived (map unit_of ss)
all_derived [] f = tt
all_derived (s ∷ ss) f = (record { kinds = kinds s.tokens.tokens; tree = s.tree; is = f.0; told = refl }, all_derived ss f.1)

module _ (k : ℕ) (ss us : List Source) (h : IsAppended k ss us) (trees : AllByRecursion HasTree ss) (none : NoneSays (function_name k ss us h) (map unit_of ss)) where
  abbrev t : Tree
  t = node kind.File 0 h.count h.declarations

  abbrev s : Source
  s = record { tokens = h.old_tokens; tree = t }

  abbrev u : Source
  u = record { tokens = h.new_tokens; tree = with_declaration t (function_tree k ss us h) h.end }

  abbrev before : List Unit
  before = map unit_of h.before

  abbrev behind : List Unit
  behind = map unit_of h.behind

  abbrev told : List Event
  told = events (context_behind h.end h.declarations (function_tree k ss us h)) (function_tree k ss us h)

  old : map unit_of ss ≡ before ++ unit_of s ∷ behind
  old = ap (map unit_of) h.was ∙ map_both unit_of h.before (s ∷ h.behind)

  new : map unit_of us ≡ before ++ unit_of u ∷ behind
  new = ap (map unit_of) h.is ∙ map_both unit_of h.before (u ∷ h.behind)

  all_trees : AllByRecursion HasTree (h.before ++ s ∷ h.behind)
  all_trees = subst (AllByRecursion HasTree) h.was trees

  pub same_reported : KeepsReported → KeepsBytes h.count h.old_tokens h.new_tokens → FitsNames k ss us h → SharesNames k ss us h → reported (map unit_of us) ≡ reported (map unit_of ss)
  same_reported law bytes fits shared =
      let later = rest_of HasTree h.before (s ∷ h.behind) all_trees in
      ap reported new ∙
      law k h.count h.end h.first h.last h.opens h.closes h.old_tokens h.new_tokens (kinds h.old_tokens.tokens) (kinds h.new_tokens.tokens) h.declarations h.signature before behind
      (mapped_count unit_of h.before ∙ h.place) (all_derived h.before (front_of HasTree h.before (s ∷ h.behind) all_trees)) (all_derived h.behind later.1) later.0
      h.front bytes h.derives h.later h.named (subst (NoneSays (function_name k ss us h)) old none)
      (record {
        initial = fits.initial;
        imported = fits.imported;
        own = fits.own;
        members = fits.members;
        asks = subst (λ zs. lookup_faults (asked_in (meanings zs) k h.new_tokens told) ≡ []) new fits.asks;
        shared = subst (NamesShared k h.new_tokens told) new shared;
      })
      ∙ ap reported (sym old)
