-- Arguments and elements, each of which takes a type.
use Rattle.std.proofs.Common.{◌≡◌, ℕ, suc, ◌==◌, Bool, true, false, [], ◌∷◌, List, length, map, Some, None, refl, sym, ap, subst, arith}
use Rattle.std.proofs.lemmas.Bool.Decides.{nat_tests}
use Rattle.std.specs.Prelude.{is_some}
use Rattle.std.specs.List.{list_all}
use Rattle.go_grammar.specs.Rules.{Items, Many, item}
use Rattle.go_tokens.specs.declared.token.TokenKind.{TokenKind}
use Rattle.go_types.specs.Trees.{TypeTree, TypeRow}
use Rattle.go_types.specs.Trees as types
use Rattle.go_types.specs.Relations.{Rights}
use Rattle.go_typed.specs.declared.form.Form.TheVariants as form
use Rattle.go_typed.specs.Trees.{Typed, typed, Typeds, sort_of}
use Rattle.go_typed.specs.Trees as sort
use Rattle.go_exprs_rules.specs.Calls.{row_length, all_unassignable, each_unassignable, all_as, all_printed, printed}
use Rattle.go_exprs_rules.specs.Settling.{Part, Take, stay, default, as_type, given, settled, unassignable, undefaulted}
use Rattle.go_exprs_rules.specs.Sorts.{Stands, takes_type, family_of, is_whole}
use Rattle.go_exprs_rules.specs.Tables.{Parts, present, all_given, leaf, is_type}
use Rattle.go_stmts_final_types.specs.Holes.{HolesTyped}
use Rattle.go_stmts_final_types.proofs.Given.{Settles, Done, is_valued, untaken, settled_done, default_done}
use Rattle.go_stmts_final_types.proofs.Nodes.{AllSlots, Sound, AllSound, done_slot, and_first, and_second}
use Rattle.go_stmts_final_types.proofs.Rows.{Fine, RowFine, somes}
use Rattle.go_stmts_final_types.proofs.Tests.{AllFound, holds, first_none, second_none, assigned_valued, basic_valued, whole_valued}

-- ---- a type among the parts

type_untaken : (s : Stands) → is_type s ≡ true → takes_type s ≡ false
type_untaken (sort.IsType t) e = refl
type_untaken s e = cc

pub leaf_done : (x : Part) → is_type (sort_of x) ≡ true → Done (leaf x)
leaf_done (typed f i j l ps) e = record { now = tt; still = λ t. subst (HolesTyped false) (sym (untaken t (typed form.Type i j l sort.none) (type_untaken l.sort e))) tt }

-- ---- rows without gaps

pub many_sound : (ws : List TokenKind) (l : Items) → ((x : Part) → Fine (item l) x → Sound x) → (xs : Parts) → RowFine (Many ws l) xs → (vs : List Part) × (xs ≡ somes vs) × AllSound vs
many_sound ws l g [] r = ([], refl, tt)
many_sound ws l g (None ∷ xs) r = elim r [ ]
many_sound ws l g (Some x ∷ xs) r = let m = many_sound ws l g xs r.1 in (x ∷ m.0, ap (λ ys. Some x ∷ ys) m.1, (g x r.0, m.2))

abbrev pub AllValued : List Part → Type 0
AllValued [] = Unit {0}
AllValued (x ∷ xs) = (is_valued (sort_of x) ≡ true) × AllValued xs

-- ---- one take for all

abbrev pub is_taking : Take → Bool
is_taking stay = false
is_taking k = true

pub given_done : (k : Take) → is_taking k ≡ true → (x : Part) → Settles x → is_valued (sort_of x) ≡ true → Done (given k x)
given_done stay e x h v = cc
given_done default e x h v = default_done x h v
given_done (as_type t) e x h v = settled_done x h t v

pub given_slots : (n : Stands) (k : Take) → is_taking k ≡ true → (ws : List Part) → AllSound ws → AllValued ws → AllSlots n (all_given (map (λ m. k) (present (somes ws))) (somes ws))
given_slots n k e [] s v = tt
given_slots n k e (w ∷ ws) s v = (done_slot n (given k w) (given_done k e w s.0.settles v.0), given_slots n k e ws s.1 v.1)

-- ---- values by rules

pub each_valued : (rights : Rights) (t : TypeTree) (ws : List Part) → each_unassignable rights t (present (somes ws)) ≡ [] → AllFound (somes ws) → AllValued ws
each_valued rights t [] e k = tt
each_valued rights t (w ∷ ws) e k =
    (assigned_valued rights t w k.0 (first_none (unassignable rights t w) (each_unassignable rights t (present (somes ws))) e), each_valued rights t ws (second_none (unassignable rights t w) (each_unassignable rights t (present (somes ws))) e) k.1)

pub printed_valued : (rights : Rights) (i j : ℕ) (ws : List Part) → all_printed rights i j (present (somes ws)) ≡ [] → AllValued ws
printed_valued rights i j [] e = tt
printed_valued rights i j (w ∷ ws) e =
    let a = first_none (printed rights i j w) (all_printed rights i j (present (somes ws))) e in
    (basic_valued rights (sort_of w) (holds (is_some (family_of rights (sort_of w))) (undefaulted rights w) _ a).0, printed_valued rights i j ws (second_none (printed rights i j w) (all_printed rights i j (present (somes ws))) e))

pub wholes_valued : (rights : Rights) (ws : List Part) → list_all (λ n. is_whole rights (sort_of n)) (present (somes ws)) ≡ true → AllValued ws
wholes_valued rights [] e = tt
wholes_valued rights (w ∷ ws) e =
    (whole_valued rights (sort_of w) (and_first (is_whole rights (sort_of w)) (list_all (λ n. is_whole rights (sort_of n)) (present (somes ws))) e), wholes_valued rights ws (and_second (is_whole rights (sort_of w)) (list_all (λ n. is_whole rights (sort_of n)) (present (somes ws))) e))

-- ---- a type for each

no_more : {X : Type 0} (n : ℕ) → (0 == suc n) ≡ true → X
no_more n e = let never : ⊥ = grind (arith, nat_tests, e) in absurd never

same_less : (a b : ℕ) → (suc a == suc b) ≡ true → (a == b) ≡ true
same_less a b e = grind (arith, nat_tests, e)

pub row_slots : (n : Stands) (rights : Rights) (ts : TypeRow) (ws : List Part) → (row_length ts == length (present (somes ws))) ≡ true → all_unassignable rights ts (present (somes ws)) ≡ [] → AllSound ws → AllFound (somes ws) → AllSlots n (all_given (all_as ts) (somes ws))
row_slots n rights types.none [] c e s k = tt
row_slots n rights types.none (w ∷ ws) c e s k = no_more (length (present (somes ws))) c
row_slots n rights (types.more t ts) [] c e s k = tt
row_slots n rights (types.more t ts) (w ∷ ws) c e s k =
    let a = assigned_valued rights t w k.0 (first_none (unassignable rights t w) (all_unassignable rights ts (present (somes ws))) e) in (
      done_slot n (settled t w) (settled_done w s.0.settles t a),
      row_slots n rights ts ws (same_less (row_length ts) (length (present (somes ws))) c) (second_none (unassignable rights t w) (all_unassignable rights ts (present (somes ws))) e) s.1 k.1,
    )
