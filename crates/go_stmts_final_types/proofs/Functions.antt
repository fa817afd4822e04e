-- Functions without faults.
use Rattle.std.proofs.Common.{◌≡◌, ℕ, suc, Bool, true, false, nat_le, List, Option, Some, None, Ok, refl, sym, ap, subst, ◌∙◌}
use Rattle.std.specs.Prelude.{◌&&◌, ◌||◌, if◌then◌else◌}
use Rattle.go_grammar.specs.declared.kind.Category.{Category}
use Rattle.go_grammar.specs.declared.kind.Kind.{Kind}
use Rattle.go_grammar.specs.declared.kind.Kind.TheVariants as kind
use Rattle.go_grammar.specs.declared.kind.Category.TheVariants as category
use Rattle.go_grammar.specs.Categories.{place_of}
use Rattle.go_grammar.specs.Grammar.{Derives, Spells, Goes, rule, agrees, first_parts, is_name, is_parameter, are_names, count, are_types, are_entries, ends_from, ends_named}
use Rattle.go_grammar.specs.Rules.{Rule, Items, End, Then, Maybe, Unless, Many, item}
use Rattle.go_grammar.specs.Trees.{Tree, node, Trees, none, more, skip, last, kind_of, parts}
use Rattle.go_tokens.specs.declared.token.TokenKind.{TokenKind}
use Rattle.go_typed.specs.Contents.{FuncContent}
use Rattle.go_exprs_rules.specs.declared.fault.TypeFault.{TypeFault}
use Rattle.go_exprs_rules.specs.Faults.{judged, reported}
use Rattle.go_exprs_rules.specs.Scopes.{Scope, free}
use Rattle.go_stmts_defs.specs.Bodies.{based, all_based, start, signature_of, function_read, answer_of, body_answer}
use Rattle.go_stmts_defs.specs.Reading.{Reading, read, reading}
use Rattle.go_stmts_final_types.specs.Holes.{HolesTyped}
use Rattle.go_stmts_final_types.specs.Known.{IsKnown}
use Rattle.go_stmts_final_types.specs.Shapes.{IsShaped, AreShaped}
use Rattle.go_stmts_final_types.proofs.Induction.{reading_fine}
use Rattle.go_stmts_final_types.proofs.Reading.{tree_in, found_in}

-- ---- shapes

mutual
  pub shaped : (ts : List TokenKind) (c : Category) (t : Tree) → Derives ts c t → IsShaped c t
  shaped ts c (node k i j ps) d = (d.0, spelled ts (rule (place_of c) k) i ps j d.1, d.2)

  spelled : (ts : List TokenKind) (r : Rule) (i : ℕ) (ps : Trees) (j : ℕ) → Spells ts r i ps j → AreShaped r ps
  spelled ts (End ws) i none j d = tt
  spelled ts (End ws) i (more p ps) j d = elim d [ ]
  spelled ts (End ws) i (skip ps) j d = elim d [ ]
  spelled ts (Then ws c r) i none j d = elim d [ ]
  spelled ts (Then ws c r) i (more p ps) j d = (shaped ts c p d.1, spelled ts r (last p) ps j d.2)
  spelled ts (Then ws c r) i (skip ps) j d = elim d [ ]
  spelled ts (Maybe ws c r) i none j d = elim d [ ]
  spelled ts (Maybe ws c r) i (more p ps) j d = (shaped ts c p d.1, spelled ts r (last p) ps j d.2)
  spelled ts (Maybe ws c r) i (skip ps) j d = spelled ts r d.0 ps j d.2
  spelled ts (Unless ws c us r) i none j d = elim d [ ]
  spelled ts (Unless ws c us r) i (more p ps) j d = (shaped ts c p d.1, spelled ts r (last p) ps j d.2)
  spelled ts (Unless ws c us r) i (skip ps) j d = spelled ts r d.0 ps j d.3
  spelled ts (Many ws l) i none j d = tt
  spelled ts (Many ws l) i (more p ps) j d = (shaped ts (item l) p d.3, going ts ws l (last p) ps j d.4)
  spelled ts (Many ws l) i (skip ps) j d = elim d [ ]

  going : (ts ws : List TokenKind) (l : Items) (i : ℕ) (ps : Trees) (j : ℕ) → Goes ts l i ps j → AreShaped (Many ws l) ps
  going ts ws l i none j d = tt
  going ts ws l i (more p ps) j d = (shaped ts (item l) p d.3, going ts ws l (last p) ps j d.4)
  going ts ws l i (skip ps) j d = elim d [ ]

-- ---- where the tokens are counted from says nothing

module _ (b : ℕ) where
  parts_based : (t : Tree) → parts (based b t) ≡ all_based b (parts t)
  parts_based (node k i j ps) = refl

  kind_based : (t : Tree) → kind_of (based b t) ≡ kind_of t
  kind_based (node k i j ps) = refl

  first_based : (ps : Trees) → first_parts (all_based b ps) ≡ all_based b (first_parts ps)
  first_based none = refl
  first_based (more p ps) = parts_based p
  first_based (skip ps) = refl

  names_based : (ps : Trees) → are_names (all_based b ps) ≡ are_names ps
  names_based none = refl
  names_based (more p ps) = ap (λ k. is_name k && are_names (all_based b ps)) (kind_based p) ∙ ap (λ z. is_name (kind_of p) && z) (names_based ps)
  names_based (skip ps) = refl

  count_based : (ps : Trees) → count (all_based b ps) ≡ count ps
  count_based none = refl
  count_based (more p ps) = ap suc (count_based ps)
  count_based (skip ps) = ap suc (count_based ps)

  types_based : (ps : Trees) → are_types (all_based b ps) ≡ are_types ps
  types_based none = refl
  types_based (more p ps) = ap (λ k. (if is_parameter k then false else true) && are_types (all_based b ps)) (kind_based p) ∙ ap (λ z. (if is_parameter (kind_of p) then false else true) && z) (types_based ps)
  types_based (skip ps) = refl

  entries_based : (ps : Trees) → are_entries (all_based b ps) ≡ are_entries ps
  entries_based none = refl
  entries_based (more p ps) = ap (λ k. (is_name k || is_parameter k) && are_entries (all_based b ps)) (kind_based p) ∙ ap (λ z. (is_name (kind_of p) || is_parameter (kind_of p)) && z) (entries_based ps)
  entries_based (skip ps) = refl

  ends_based : (z : Bool) (ps : Trees) → ends_from z (all_based b ps) ≡ ends_from z ps
  ends_based z none = refl
  ends_based z (more p ps) = ap (λ k. ends_from (is_parameter k) (all_based b ps)) (kind_based p) ∙ ends_based (is_parameter (kind_of p)) ps
  ends_based z (skip ps) = ends_based false ps

  two_based : (ps : Trees) → count (first_parts (first_parts (all_based b ps))) ≡ count (first_parts (first_parts ps))
  two_based ps = ap (λ qs. count (first_parts qs)) (first_based ps) ∙ (ap count (first_based (first_parts ps)) ∙ count_based (first_parts (first_parts ps)))

  agrees_based : (k : Kind) (ps : Trees) → agrees k (all_based b ps) ≡ agrees k ps
  agrees_based kind.NewNames ps = ap are_names (first_based ps) ∙ names_based (first_parts ps)
  agrees_based kind.AssigningRange ps = ap (λ n. nat_le n 2) (two_based ps)
  agrees_based kind.DefiningRange ps = ap (λ n. nat_le n 2) (two_based ps)
  agrees_based kind.Parameters ps =
      ap (λ z. z || (ends_named (all_based b ps) && are_entries (all_based b ps))) (types_based ps)
      ∙ (ap (λ z. are_types ps || (z && are_entries (all_based b ps))) (ends_based false ps) ∙ ap (λ z. are_types ps || (ends_named ps && z)) (entries_based ps))
  agrees_based k ps = refl

  mutual
    pub shape_based : (c : Category) (t : Tree) → IsShaped c t → IsShaped c (based b t)
    shape_based c (node k i j ps) w = (w.0, shapes_based (rule (place_of c) k) ps w.1, agrees_based k ps ∙ w.2)

    shapes_based : (r : Rule) (ps : Trees) → AreShaped r ps → AreShaped r (all_based b ps)
    shapes_based (End ws) none w = tt
    shapes_based (End ws) (more p ps) w = elim w [ ]
    shapes_based (End ws) (skip ps) w = elim w [ ]
    shapes_based (Then ws c r) none w = elim w [ ]
    shapes_based (Then ws c r) (more p ps) w = (shape_based c p w.0, shapes_based r ps w.1)
    shapes_based (Then ws c r) (skip ps) w = elim w [ ]
    shapes_based (Maybe ws c r) none w = elim w [ ]
    shapes_based (Maybe ws c r) (more p ps) w = (shape_based c p w.0, shapes_based r ps w.1)
    shapes_based (Maybe ws c r) (skip ps) w = shapes_based r ps w
    shapes_based (Unless ws c us r) none w = elim w [ ]
    shapes_based (Unless ws c us r) (more p ps) w = (shape_based c p w.0, shapes_based r ps w.1)
    shapes_based (Unless ws c us r) (skip ps) w = shapes_based r ps w
    shapes_based (Many ws l) none w = tt
    shapes_based (Many ws l) (more p ps) w = (shape_based (item l) p w.0, shapes_based (Many ws l) ps w.1)
    shapes_based (Many ws l) (skip ps) w = elim w [ ]

-- ---- functions

pub judged_ok : {A : Type 0} (o : Option TypeFault) (x y : A) → judged o x ≡ Ok y → (o ≡ None) × (x ≡ y)
judged_ok None x y e = (refl, cc)
judged_ok (Some f) x y e = cc

pub answered : (s : Scope) (number : ℕ) (t : Tree) (r : Reading) (f : FuncContent) → answer_of s number t r ≡ Ok f → (reported (found_in r) ≡ None) × (tree_in r ≡ f.tree)
answered s number t (read x fs z) f e =
    let j = judged_ok (reported fs) (function_read s number (last t) (signature_of s t) x z) f e in (j.0, ap (λ (g : FuncContent). g.tree) j.1)

pub function_typed : (s : Scope) (number locals : ℕ) (types : ℕ → ℕ) (t : Tree) (f : FuncContent) → IsShaped category.Declaration t → body_answer s number locals types t ≡ Ok f → IsKnown f.tree → HolesTyped false f.tree
function_typed s number locals types t f w e k =
    let r = reading (start s locals types) free t in
    let a = answered s number t r f e in
    let h = reading_fine (start s locals types) free category.Declaration t w a.0 in
    subst (HolesTyped false) a.1 (h.says (subst IsKnown (sym a.1) k))
