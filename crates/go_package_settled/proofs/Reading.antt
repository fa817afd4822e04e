-- The names of a package without faults are resolved.
use Rattle.std.proofs.Common.{◌≡◌, ◌∙◌, List, [], ◌∷◌, map, Option, Some, None, refl, subst}
use Rattle.std.specs.List.{AllByRecursion}
use Rattle.std.proofs.lemmas.List.{length-map}
use Rattle.go_grammar.specs.Grammar.{IsFile}
use Rattle.go_grammar.specs.Trees.{Tree, last}
use Rattle.go_tokens.specs.declared.token.TokenKind.{TokenKind}
use Rattle.go_tokens.specs.Tokens.{kinds}
use Rattle.go_tree.specs.Contexts.{file_context}
use Rattle.go_tree.specs.Declarations.{declarations}
use Rattle.go_tree.specs.Events.{events}
use Rattle.go_tree.specs.Failures.{Failure, least, or_else}
use Rattle.go_tree.specs.Faults.{clause_faults, name_faults, reported}
use Rattle.go_tree.specs.Objects.{objects}
use Rattle.go_tree.specs.Units as names
use Rattle.go_scopes_events.specs.Inside.{LocalsInside, nowhere}
use Rattle.go_scopes_events.specs.Orders.{AreInOrder}
use Rattle.go_scopes_events.specs.Scopes.{IsOrderly, AreOrderly}
use Rattle.go_scopes_lookup.specs.Tables.{AreCounted, AreInside}
use Rattle.go_scopes_lookup.proofs.Public.{known_complete}
use Rattle.go_package_defs.specs.Resolved.{IsOrdered}
use Rattle.go_package_defs.specs.Sources.{Source, unit_of}
use Rattle.go_package_settled.specs.Read.{IsFaultless}
use Rattle.go_package_settled.specs.Resolved.{AreResolved}

-- ---- what the laws on names say

abbrev pub AreOrderlyFiles : Type 0
AreOrderlyFiles = (ts : List TokenKind) (t : Tree) → IsFile ts t → IsOrderly (events (file_context (last t)) t)

abbrev pub AreOrderedFiles : Type 0
AreOrderedFiles = (ts : List TokenKind) (t : Tree) → IsFile ts t → AreInOrder 0 (last t) (events (file_context (last t)) t)

abbrev pub AreHousedFiles : Type 0
AreHousedFiles = (ts : List TokenKind) (t : Tree) → IsFile ts t → LocalsInside nowhere (events (file_context (last t)) t)

abbrev pub HaveOrders : Type 0
HaveOrders = (us : List names.Unit) → AreOrderly us → reported us ≡ None → IsOrdered us

abbrev pub Read : List Source → Type 0
Read ss = AllByRecursion (λ s. IsFile (kinds s.tokens.tokens) s.tree) ss

orderly : AreOrderlyFiles → (ss : List Source) → Read ss → AreOrderly (map unit_of ss)
orderly f [] h = tt
orderly f (s ∷ ss) h = (f (kinds s.tokens.tokens) s.tree h.0, orderly f ss h.1)

counted : AreOrderedFiles → (ss : List Source) → Read ss → AreCounted (map unit_of ss)
counted f [] h = tt
counted f (s ∷ ss) h =
    (subst (λ j. AreInOrder 0 j (unit_of s).events) (h.0.ends ∙ length-map s.tokens.tokens (λ t. t.kind)) (f (kinds s.tokens.tokens) s.tree h.0), counted f ss h.1)

housed : AreHousedFiles → (ss : List Source) → Read ss → AreInside (map unit_of ss)
housed f [] h = tt
housed f (s ∷ ss) h = (f (kinds s.tokens.tokens) s.tree h.0, housed f ss h.1)

first_none : (a b : Option Failure) → or_else a b ≡ None → a ≡ None
first_none None b e = refl
first_none (Some f) b e = absurd cc

pub are_resolved : AreOrderlyFiles → AreOrderedFiles → AreHousedFiles → HaveOrders → (ss : List Source) → IsFaultless ss → AreResolved (map unit_of ss)
are_resolved orderly_files ordered_files housed_files orders ss f =
    let us : List names.Unit = map unit_of ss in
    let o = orderly orderly_files ss f.trees in
    record {
      orderly = o;
      complete = known_complete us (objects us) (declarations us) o (counted ordered_files ss f.trees) (housed housed_files ss f.trees) (first_none (least (clause_faults us)) (least (name_faults us)) f.names) refl refl;
      order = orders us o f.names;
    }
