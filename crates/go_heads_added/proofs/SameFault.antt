-- The same fault of names is reported where a function with an empty body is appended to a derived file.
use Rattle.std.proofs.Common.{◌≡◌, ◌∙◌, ℕ, suc, ◌≤◌, inl, inr, ◌⊎◌, Bool, true, false, List, [], ◌∷◌, ◌++◌, length, Some, refl, sym, ap, subst, arith}
use Rattle.std.specs.Prelude.{if◌then◌else◌}
use Rattle.std.specs.List.{AllByRecursion}
use Rattle.go_tokens.specs.Tokens.{TokenList}
use Rattle.go_tokens.specs.declared.token.TokenKind.{TokenKind}
use Rattle.go_grammar.specs.declared.kind.Kind.TheVariants as kind
use Rattle.go_grammar.specs.declared.kind.Category.TheVariants as category
use Rattle.go_grammar.specs.Trees.{Tree, node, Trees, last}
use Rattle.go_grammar.specs.Grammar.{IsFile, Derives}
use Rattle.go_rewriting.specs.Places.{with_declaration}
use Rattle.go_tree.specs.Contexts.{file_context}
use Rattle.go_tree.specs.declared.event.Event.{Event}
use Rattle.go_tree.specs.Duplicates.{second_members}
use Rattle.go_tree.specs.Events.{events}
use Rattle.go_tree.specs.Failures.{Failure, is_earlier, least_from, least, or_else}
use Rattle.go_tree.specs.Faults.{clause_faults, lookup_faults, name_faults, reported}
use Rattle.go_tree.specs.Imports.{imports_fmt}
use Rattle.go_tree.specs.Lookups.{asked_in}
use Rattle.go_tree.specs.Meanings.{meanings}
use Rattle.go_tree.specs.Units.{Unit, word, is_blank}
use Rattle.go_scopes_events.proofs.Public.{derives_laid}
use Rattle.go_scopes_events.specs.Scopes.{AreOrderly, IsOrderly}
use Rattle.go_heads_added.specs.Added.{IsAdded, NoneSays}
use Rattle.go_heads_added.specs.Appended.{AreAdded, HasNames, IsFront, IsParsed, TellsMore, context_behind, empty_function, unit_of}
use Rattle.go_heads_added.specs.Faults.{FileIsWithin, FunctionIsFine, MeansOuter}
use Rattle.go_heads_added.specs.Reported.{EventPlaced, IsDerived, KeepsBytes, MayJoin, NamesShared, StaysPlaced}
use Rattle.go_heads_added.specs.Within.{IsOfFunction}
use Rattle.go_heads_added.proofs.ClausesSame.{clauses_same}
use Rattle.go_heads_added.proofs.Derived.{clause_behind, file_here, outer_here}
use Rattle.go_heads_added.proofs.Lying.{LocalsFollowAll, added_here}
use Rattle.go_heads_added.proofs.Longer.{file_earlier, tells_more, told_is}
use Rattle.go_heads_added.proofs.Named.{clauses_named}
use Rattle.go_heads_added.proofs.Reported.{same_reported}
use Rattle.go_heads_added.proofs.SameInFiles.{tree_placed}
use Rattle.go_heads_added.proofs.Texts.{all_both, all_front, all_behind}
use Rattle.go_heads_added.proofs.Tells.{function_of}
use Rattle.go_heads_added.proofs.Within.{file_within}

abbrev pub FilesAreOrderly : Type 0
FilesAreOrderly = (ts : List TokenKind) (t : Tree) → IsFile ts t → IsOrderly (events (file_context (last t)) t)

-- ---- lists

some_least : (f : Failure) (fs : List Failure) → (g : Failure) × (least_from (Some f) fs ≡ Some g)
some_least f [] = (f, refl)
some_least f (g ∷ gs) = by (is_earlier g f) (some_least g gs) (some_least f gs)
  where
    by : (c : Bool) → (h : Failure) × (least_from (Some g) gs ≡ Some h) → (h : Failure) × (least_from (Some f) gs ≡ Some h) → (h : Failure) × (least_from (if c then Some g else Some f) gs ≡ Some h)
    by true x y = x
    by false x y = y

-- where a rule on clauses fails, the rules on names decide nothing
clauses_decide : (fs gs hs : List Failure) → fs ≡ [] ⊎ (or_else (least fs) (least gs) ≡ or_else (least fs) (least hs))
clauses_decide [] gs hs = inl refl
clauses_decide (f ∷ fs) gs hs =
    let g = some_least f fs in inr (ap (λ o. or_else o (least gs)) g.1 ∙ ap (λ o. or_else o (least hs)) (sym g.1))

parsed : (us : List Unit) → AllByRecursion IsDerived us → AllByRecursion HasNames us → AllByRecursion IsParsed us
parsed [] h n = tt
parsed (u ∷ us) h n = (record { kinds = h.0.kinds; tree = h.0.tree; is = h.0.is; told = h.0.told; names = n.0 }, parsed us h.1 n.1)

all_orderly : FilesAreOrderly → (us : List Unit) → AllByRecursion IsDerived us → AreOrderly us
all_orderly law [] h = tt
all_orderly law (u ∷ us) h = (subst IsOrderly (sym h.0.told) (law h.0.kinds h.0.tree h.0.is), all_orderly law us h.1)

-- ---- a package

module _ (follow : LocalsFollowAll) (orderly : FilesAreOrderly) (k j end x y u v : ℕ) (a b : TokenList) (ts us : List TokenKind) (ps : Trees) (s : Tree) (before behind : List Unit) where
  abbrev d : Tree
  d = empty_function x y s u v

  abbrev t : Tree
  t = node kind.File 0 j ps

  abbrev old : List Unit
  old = before ++ unit_of a t ∷ behind

  abbrev new : List Unit
  new = before ++ unit_of b (with_declaration t d end) ∷ behind

  abbrev name : List ℕ
  name = word b (suc x)

  abbrev told : List Event
  told = events (context_behind end ps d) d

  module _ (place : length before ≡ k) (first : AllByRecursion IsDerived before) (later : AllByRecursion IsDerived behind) (file : IsFile ts t) (front : IsFront j a b) (bytes : KeepsBytes j a b) (h : Derives us category.Declaration d)
      (l : j ≤ x) (blank : is_blank name ≡ false) (imports : imports_fmt b (events (file_context end) (with_declaration t d end)) ≡ imports_fmt a (events (file_context j) t)) (q : NoneSays name old)
      (may : MayJoin k name s b told new) where
    own_placed : AllByRecursion (EventPlaced j) (events (file_context j) t)
    own_placed = tree_placed j (file_context j) t (derives_laid ts t category.File file.derives) (omega arith)

    abbrev more : TellsMore k j name (unit_of a t) (unit_of b (with_declaration t d end))
    more = tells_more k j 0 j end x y u v a b us ps s front h l

    tells : AllByRecursion (IsOfFunction j) more.longer.added
    tells = subst (AllByRecursion (IsOfFunction j)) (sym (told_is k j 0 j end x y u v a b us ps s front h l)) (function_of us j end x y u v s ps h l)

    clauses : clause_faults new ≡ clause_faults old
    clauses =
        let m : IsAdded k j name old new = record { before = before; a = unit_of a t; b = unit_of b (with_declaration t d end); behind = behind; was = refl; is = refl; place = place; longer = more.longer } in
        let w : FileIsWithin k j name old new m = record { clause = clause_behind ts j ps file; events = file_within j t (derives_laid ts t category.File file.derives) (omega arith) } in
        clauses_same k j name old new m (file_earlier ts t j file refl) blank q w may.initial tells bytes own_placed

    abbrev own_derived : IsDerived (unit_of a t)
    own_derived = record { kinds = ts; tree = t; is = file; told = refl }

    all_derived : AllByRecursion IsDerived old
    all_derived = all_both IsDerived before (unit_of a t ∷ behind) first (own_derived, later)

    names : clause_faults old ≡ [] → reported new ≡ reported old
    names z =
        let named = clauses_named old z in
        let rest = all_behind HasNames before (unit_of a t ∷ behind) named in
        let first_parsed = parsed before first (all_front HasNames before (unit_of a t ∷ behind) named) in
        let later_parsed = parsed behind later rest.1 in
        let r = added_here follow k j end x y u v a b ts us ps s before behind place first_parsed later_parsed file rest.0 front h l blank imports in
        let m : AreAdded k j name old new = r.0 in
        let w : FileIsWithin k j name old new m.added = file_here follow k j end x y u v a b ts us ps s before behind m file r.1 in
        let P : (TokenList → List Event → Type 0) → Type 0 = λ R. R b told → R m.added.b.tokens m.added.longer.added in
        let to : (R : TokenList → List Event → Type 0) → P R = λ R p. subst (R m.added.b.tokens) (sym r.3) (subst (λ (o : Unit). R o.tokens told) (sym r.2) p) in
        let f : FunctionIsFine k j name old new m.added = record {
          initial = may.initial;
          imported = may.imported;
          tells = to (λ o es. AllByRecursion (IsOfFunction j) es) (function_of us j end x y u v s ps h l);
          members = to (λ o es. second_members [] k o es ≡ []) may.members;
          asks = to (λ o es. lookup_faults (asked_in (meanings new) k o es) ≡ []) may.asks;
          outer = to (λ o es. AllByRecursion (λ z. MeansOuter k j z.meaning) (asked_in (meanings new) k o es))
              (outer_here follow k j end x y u v a b ts us ps s before behind place first_parsed later_parsed file rest.0 front h l blank imports q may.own);
        } in
        let stays : StaysPlaced k j name old new m.added = record {
          bytes = subst (λ (o : Unit). KeepsBytes j m.added.a.tokens o.tokens) (sym r.2) (subst (λ (o : Unit). KeepsBytes j o.tokens b) (sym r.1) bytes);
          events = subst (λ (o : Unit). AllByRecursion (EventPlaced j) o.events) (sym r.1) own_placed;
          orderly = all_orderly orderly old all_derived;
          shared = to (λ o es. NamesShared k o es new) may.shared;
        } in
        same_reported k j name old new m.added m.lies q w f stays

    pub keeps_reported : reported new ≡ reported old
    keeps_reported = by (clauses_decide (clause_faults old) (name_faults new) (name_faults old))
      where
        by : clause_faults old ≡ [] ⊎ (or_else (least (clause_faults old)) (least (name_faults new)) ≡ or_else (least (clause_faults old)) (least (name_faults old))) → reported new ≡ reported old
        by (inl z) = names z
        by (inr z) = ap (λ c. or_else (least c) (least (name_faults new))) clauses ∙ z
