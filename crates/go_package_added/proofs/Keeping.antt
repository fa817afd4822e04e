-- What the law on names asks of the files of a package to which a function is appended.
use Rattle.std.proofs.Common.{◌≡◌, ◌∙◌, ℕ, suc, ◌<◌, ◌≤◌, false, List, [], ◌∷◌, ◌++◌, length, map, None, refl, sym, ap, subst}
use Rattle.std.specs.List.{AllByRecursion}
use Rattle.go_tokens.specs.Tokens.{TokenList, kinds}
use Rattle.go_tokens.specs.declared.token.TokenKind.{TokenKind}
use Rattle.go_grammar.specs.declared.kind.Category.TheVariants as category
use Rattle.go_grammar.specs.declared.kind.Kind.TheVariants as kind
use Rattle.go_grammar.specs.Grammar.{IsFile, Derives}
use Rattle.go_grammar.specs.Trees.{Tree, Trees, node, first, last}
use Rattle.go_rewriting.specs.Places.{with_declaration}
use Rattle.go_tokens.specs.Spellings.{same_text}
use Rattle.go_tree.specs.Events.{events}
use Rattle.go_tree.specs.Faults.{lookup_faults, reported}
use Rattle.go_tree.specs.Lookups.{asked_in}
use Rattle.go_tree.specs.Meanings.{meanings}
use Rattle.go_tree.specs.Units.{Unit, word, is_blank}
use Rattle.go_heads_added.specs.Added.{NoneSays}
use Rattle.go_heads_added.specs.Appended.{HasNames, IsFront, IsParsed, context_behind, empty_function}
use Rattle.go_heads_added.specs.Faults.{MayBeAdded, MeansOuter}
use Rattle.go_heads_added.specs.Appended as appended
use Rattle.go_heads_added.specs.Kept.{KeepsPackage}
use Rattle.go_package_defs.specs.Sources.{Source, unit_of}
use Rattle.go_package_settled.specs.Read.{IsFaultless}
use Rattle.go_package_added.specs.Appended.{FitsNames, IsAppended, function_name, function_tree}
use Rattle.go_package_added.proofs.Inserted.{front_of, map_both, mapped_count, rest_of}
use Rattle.go_heads_added.proofs.Public.{have_names}

abbrev pub KeepsNames : Type 0
KeepsNames = (k j end x y u v : ℕ) (a b : TokenList) (ts us : List TokenKind) (ps : Trees) (s : Tree) (before behind : List Unit) → let d = empty_function x y s u v in
    let t = node kind.File 0 j ps in let old = before ++ appended.unit_of a t ∷ behind in let new = before ++ appended.unit_of b (with_declaration t d end) ∷ behind in
    length before ≡ k → AllByRecursion IsParsed before → AllByRecursion IsParsed behind → IsFile ts t → HasNames (appended.unit_of a t)
    → IsFront j a b → Derives us category.Declaration d → j ≤ x → is_blank (word b (suc x)) ≡ false
    → NoneSays (word b (suc x)) old → KeepsPackage k j (suc x) old new

abbrev pub MeansOuterNames : Type 0
MeansOuterNames = (k j end x y u v : ℕ) (a b : TokenList) (ts us : List TokenKind) (ps : Trees) (s : Tree) (before behind : List Unit) → let d = empty_function x y s u v in
    let t = node kind.File 0 j ps in let old = before ++ appended.unit_of a t ∷ behind in let new = before ++ appended.unit_of b (with_declaration t d end) ∷ behind in
    let name = word b (suc x) in length before ≡ k → AllByRecursion IsParsed before → AllByRecursion IsParsed behind → IsFile ts t → HasNames (appended.unit_of a t)
    → IsFront j a b → Derives us category.Declaration d → j ≤ x → is_blank name ≡ false → NoneSays name old
    → ((i : ℕ) → first s ≤ i → i < last s → same_text name (word b i) ≡ false)
    → AllByRecursion (λ o. MeansOuter k j o.meaning) (asked_in (meanings new) k b (events (context_behind end ps d) d))

abbrev pub FailsNoRule : Type 0
FailsNoRule = (k j end x y u v : ℕ) (a b : TokenList) (ts us : List TokenKind) (ps : Trees) (s : Tree) (before behind : List Unit) → let d = empty_function x y s u v in
    let t = node kind.File 0 j ps in let old = before ++ appended.unit_of a t ∷ behind in let new = before ++ appended.unit_of b (with_declaration t d end) ∷ behind in
    let name = word b (suc x) in length before ≡ k → AllByRecursion IsParsed before → AllByRecursion IsParsed behind → IsFile ts t → HasNames (appended.unit_of a t)
    → IsFront j a b → Derives us category.Declaration d → j ≤ x → is_blank name ≡ false
    → NoneSays name old → MayBeAdded k j name b (events (context_behind end ps d) d) new → reported old ≡ None → reported new ≡ None

abbrev IsDerived : Source → Type 0
IsDerived s = IsFile (kinds s.tokens.tokens) s.tree

parsed : (ss : List Source) → AllByRecursion IsDerived ss → AllByRecursion HasNames (map unit_of ss) → AllByRecursion IsParsed (map unit_of ss)
parsed [] f n = tt
parsed (s ∷ ss) f n = (record { kinds = kinds s.tokens.tokens; tree = s.tree; is = f.0; told = refl; names = n.0 }, parsed ss f.1 n.1)

module _ (k : ℕ) (ss us : List Source) (h : IsAppended k ss us) (faultless : IsFaultless ss) (none : NoneSays (function_name k ss us h) (map unit_of ss)) where
  abbrev t : Tree
  t = node kind.File 0 h.count h.declarations

  abbrev s : Source
  s = record { tokens = h.old_tokens; tree = t }

  abbrev u : Source
  u = record { tokens = h.new_tokens; tree = with_declaration t (function_tree k ss us h) h.end }

  abbrev before : List Unit
  before = map unit_of h.before

  abbrev behind : List Unit
  behind = map unit_of h.behind

  old : map unit_of ss ≡ before ++ unit_of s ∷ behind
  old = ap (map unit_of) h.was ∙ map_both unit_of h.before (s ∷ h.behind)

  new : map unit_of us ≡ before ++ unit_of u ∷ behind
  new = ap (map unit_of) h.is ∙ map_both unit_of h.before (u ∷ h.behind)

  place : length before ≡ k
  place = mapped_count unit_of h.before ∙ h.place

  trees : AllByRecursion IsDerived (h.before ++ s ∷ h.behind)
  trees = subst (AllByRecursion IsDerived) h.was faultless.trees

  named : AllByRecursion HasNames (before ++ unit_of s ∷ behind)
  named = subst (AllByRecursion HasNames) old (have_names (map unit_of ss) faultless.names)

  first_parsed : AllByRecursion IsParsed before
  first_parsed = parsed h.before (front_of IsDerived h.before (s ∷ h.behind) trees) (front_of HasNames before (unit_of s ∷ behind) named)

  later_parsed : AllByRecursion IsParsed behind
  later_parsed = parsed h.behind (rest_of IsDerived h.before (s ∷ h.behind) trees).1 (rest_of HasNames before (unit_of s ∷ behind) named).1

  derived : IsDerived s
  derived = (rest_of IsDerived h.before (s ∷ h.behind) trees).0

  own_names : HasNames (unit_of s)
  own_names = (rest_of HasNames before (unit_of s ∷ behind) named).0

  none_says : NoneSays (function_name k ss us h) (before ++ unit_of s ∷ behind)
  none_says = subst (NoneSays (function_name k ss us h)) old none

  pub keeps_names : KeepsNames → KeepsPackage k h.count (suc h.first) (map unit_of ss) (map unit_of us)
  keeps_names law =
      subst (λ zs. KeepsPackage k h.count (suc h.first) zs (map unit_of us)) (sym old)
      (subst (KeepsPackage k h.count (suc h.first) (before ++ unit_of s ∷ behind)) (sym new)
      (law k h.count h.end h.first h.last h.opens h.closes h.old_tokens h.new_tokens (kinds h.old_tokens.tokens) (kinds h.new_tokens.tokens) h.declarations h.signature before behind place first_parsed later_parsed derived own_names
      h.front h.derives h.later h.named none_says))

  pub no_fault : MeansOuterNames → FailsNoRule → FitsNames k ss us h → reported (map unit_of us) ≡ None
  no_fault outer law fits =
      let all = before ++ unit_of u ∷ behind in
      let told = events (context_behind h.end h.declarations (function_tree k ss us h)) (function_tree k ss us h) in
      subst (λ zs. reported zs ≡ None) (sym new)
      (law k h.count h.end h.first h.last h.opens h.closes h.old_tokens h.new_tokens (kinds h.old_tokens.tokens) (kinds h.new_tokens.tokens) h.declarations h.signature before behind place first_parsed later_parsed derived own_names
      h.front h.derives h.later h.named none_says
      (record {
        initial = fits.initial;
        imported = fits.imported;
        members = fits.members;
        asks = subst (λ zs. lookup_faults (asked_in (meanings zs) k h.new_tokens told) ≡ []) new fits.asks;
        outer = outer k h.count h.end h.first h.last h.opens h.closes h.old_tokens h.new_tokens (kinds h.old_tokens.tokens) (kinds h.new_tokens.tokens) h.declarations h.signature before behind place first_parsed later_parsed derived own_names
            h.front h.derives h.later h.named none_says fits.own;
      })
      (subst (λ zs. reported zs ≡ None) old faultless.names))
