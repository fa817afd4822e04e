-- Clauses with values in whose statements some are replaced: the rules and what is given look at the values alone.
use Rattle.std.proofs.Common.{◌≡◌, ◌∙◌, ℕ, Bool, true, false, List, [], ◌∷◌, ◌++◌, length, Option, Some, None, refl, sym, ap, subst, cond}
use Rattle.std.specs.Prelude.{◌||◌, not, if◌then◌else◌, take, replicate, slice_get}
use Rattle.std.specs.List.{list_any}
use Rattle.std.proofs.lemmas.List.Folds.{list_any-append}
use Rattle.go_grammar.specs.declared.kind.Kind.TheVariants as kind
use Rattle.go_grammar.specs.Trees.{node, Trees, none, more, skip, kind_of}
use Rattle.go_typed.specs.declared.form.Form.TheVariants as form
use Rattle.go_typed.specs.Trees.{typed, row, list_of, parts_of}
use Rattle.go_typed.specs.Trees as sort
use Rattle.go_exprs_rules.specs.declared.fault.TypeFault.{TypeFault}
use Rattle.go_exprs_rules.specs.Scopes.{Hint, value}
use Rattle.go_exprs_rules.specs.Settling.{Part}
use Rattle.go_exprs_rules.specs.Sorts.{own_type}
use Rattle.go_exprs_rules.specs.Tables.{Parts, held, all_held, is_lost, present, label}
use Rattle.go_stmts_defs.specs.Assigning.{Taking, type_or_default}
use Rattle.go_stmts_defs.specs.Frames.{Frame, rights_of}
use Rattle.go_stmts_defs.specs.Laying.{told, held_count}
use Rattle.go_stmts_defs.specs.Reading.{holding, holdings}
use Rattle.go_stmts_defs.specs.Rules.{each, case_failing, own_faults, built_by, given_optional, all_given}
use Rattle.go_exprs_elsewhere.specs.Elsewhere.{Moves, placed}
use Rattle.go_exprs_elsewhere.proofs.Public.{optional, parts, held_kept}
use Rattle.go_stmts_elsewhere.specs.Above.{a_case}
use Rattle.go_stmts_elsewhere.specs.Frames.{Named}
use Rattle.go_stmts_elsewhere.specs.Marked.{AlongAt}
use Rattle.go_stmts_elsewhere.specs.Replaced.{AreStatementParts, Gap, AreWhole, ChangedPart, absent, stays, around, around_else, ChangedParts, no_more, one_more, in_place}
use Rattle.go_stmts_elsewhere.proofs.Above.{default_types}
use Rattle.go_stmts_elsewhere.proofs.Arranging.{mapped_length, form_kept}
use Rattle.go_stmts_elsewhere.proofs.ChangedNodes.{all_stay, both_changed, one_changed, by_both, held_changed, all_given_changed}
use Rattle.go_stmts_elsewhere.proofs.FramesAt.{tag_at}
use Rattle.go_stmts_elsewhere.proofs.Hollow.{hollow, none_fails}
use Rattle.go_stmts_elsewhere.proofs.Naming.{held_named}

-- ---- values that are all there

abbrev pub AllThere : Parts → Type 0
AllThere [] = Unit {0}
AllThere (Some x ∷ xs) = AllThere xs
AllThere (None ∷ xs) = ⊥

there_behind : (xs : Parts) (x : Part) → AllThere xs → AllThere (xs ++ Some x ∷ [])
there_behind [] x a = tt
there_behind (Some y ∷ xs) x a = there_behind xs x a
there_behind (None ∷ xs) x a = absurd a

held_there : (s : Frame) (h : Hint) (all : Trees) (xs : Parts) → AllThere xs → (ts : Trees) → AreWhole ts → AllThere (holdings s kind.ExpressionList h all xs ts)
held_there s h all xs a none w = a
held_there s h all xs a (more t ts) w =
    held_there s h all (xs ++ Some (holding s (told kind.ExpressionList h all xs (kind_of t)) t) ∷ []) (there_behind xs (holding s (told kind.ExpressionList h all xs (kind_of t)) t) a) ts w
held_there s h all xs a (skip ts) w = absurd w

row_list : (xs : Parts) → list_of (row xs) ≡ xs
row_list [] = refl
row_list (None ∷ xs) = ap (λ ys. None ∷ ys) (row_list xs)
row_list (Some x ∷ xs) = ap (λ ys. Some x ∷ ys) (row_list xs)

pub values_there : (s : Frame) (a b : ℕ) (vs : Trees) → AreWhole vs → AllThere (held (Some (holding s value (node kind.ExpressionList a b vs))))
values_there s a b vs w = subst AllThere (sym (row_list (holdings s kind.ExpressionList value vs [] vs))) (held_there s value vs [] tt vs w)

there_moved : (m : Moves) (xs : Parts) → AllThere xs → AllThere (parts m xs)
there_moved m [] a = tt
there_moved m (Some x ∷ xs) a = there_moved m xs a
there_moved m (None ∷ xs) a = absurd a

taken_there : (xs ys : Parts) → AllThere xs → take (length xs) (present (xs ++ ys)) ≡ present xs
taken_there [] ys a = refl
taken_there (Some x ∷ xs) ys a = ap (λ zs. x ∷ zs) (taken_there xs ys a)
taken_there (None ∷ xs) ys a = absurd a

given_front : (k : Taking) (xs ys : Parts) → all_given (replicate (length xs) k) (xs ++ ys) ≡ all_given (replicate (length xs) k) xs ++ ys
given_front k [] ys = refl
given_front k (x ∷ xs) ys = ap (λ zs. given_optional k x ∷ zs) (given_front k xs ys)

-- ---- the rule on a clause

judged_alone : (a r : Bool) (fs : List TypeFault) → (if not (a || r) then fs else []) ≡ (if r then [] else (if not (a || false) then fs else []))
judged_alone true true fs = refl
judged_alone true false fs = refl
judged_alone false true fs = refl
judged_alone false false fs = refl

abbrev of_case : Frame → ℕ → ℕ → ℕ → Parts → List TypeFault
of_case u n i j xs = own_faults u kind.Case (form.Case n) i j (all_held xs)

-- Where a statement stands for something unknown nothing is judged; else the values alone are.
own_case : (u : Frame) (i j : ℕ) (x : Part) → AllThere (held (Some x)) → (rs : Parts)
    → of_case u (held_count (Some x)) i j (Some x ∷ rs) ≡ (if list_any is_lost (all_held rs) then [] else of_case u (held_count (Some x)) i j (Some x ∷ []))
own_case u i j x a rs =
    let vs : Parts = held (Some x) in
    let lost = list_any is_lost vs in
    let fs = each (case_failing (rights_of u) u.tag) (present vs) in
    ap (λ b. if not b then each (case_failing (rights_of u) u.tag) (take (length vs) (present (vs ++ all_held rs))) else []) (list_any-append is_lost vs (all_held rs))
    ∙ ap (λ ys. if not (lost || list_any is_lost (all_held rs)) then each (case_failing (rights_of u) u.tag) ys else []) (taken_there vs (all_held rs) a)
    ∙ judged_alone lost (list_any is_lost (all_held rs)) fs
    ∙ ap (λ ys. if list_any is_lost (all_held rs) then [] else (if not (lost || false) then each (case_failing (rights_of u) u.tag) ys else [])) (sym (taken_there vs [] a))
    ∙ ap (λ b. if list_any is_lost (all_held rs) then [] else (if not b then each (case_failing (rights_of u) u.tag) (take (length vs) (present (vs ++ []))) else [])) (sym (list_any-append is_lost vs []))

-- ---- statements

held_statements : (xs : Parts) → AreStatementParts xs → (ys : Parts) → all_held (xs ++ ys) ≡ xs ++ all_held ys
held_statements [] a ys = refl
held_statements (Some x ∷ xs) a ys = ap (λ b. (cond b (list_of (parts_of x)) (Some x ∷ [])) ++ all_held (xs ++ ys)) a.0.0 ∙ ap (λ zs. Some x ∷ zs) (held_statements xs a.1 ys)
held_statements (None ∷ xs) a ys = absurd a.0

unlost : (xs : Parts) → AreStatementParts xs → (ys : Parts) → list_any is_lost (xs ++ ys) ≡ list_any is_lost ys
unlost [] a ys = refl
unlost (Some x ∷ xs) a ys = ap (λ b. b || list_any is_lost (xs ++ ys)) a.0.1 ∙ unlost xs a.1 ys
unlost (None ∷ xs) a ys = absurd a.0

module _ (m : Moves) (l : ℕ → Bool) (gaps : List Gap) (stand : (n : ℕ) (g : Gap) → slice_get gaps n ≡ Some g → AreStatementParts g.olds × AreStatementParts g.news) where
  all_held_changed : (b : Bool) (xs ys : Parts) → ChangedParts m l gaps b xs ys → ChangedParts m l gaps b (all_held xs) (all_held ys)
  all_held_changed b xs ys (no_more z) = no_more z
  all_held_changed b xs ys (one_more z x y us vs c d) = both_changed m l gaps z (held x) (held y) (all_held us) (all_held vs) (held_changed m l gaps z x y c) (all_held_changed z us vs d)
  all_held_changed b xs ys (in_place n g e us vs d) =
      by_both m l gaps true (g.olds ++ all_held us) (g.news ++ all_held vs) (all_held (g.olds ++ us)) (all_held (g.news ++ vs)) (held_statements g.olds (stand n g e).0 us) (held_statements g.news (stand n g e).1 vs)
      (in_place n g e (all_held us) (all_held vs) (all_held_changed true us vs d))

  lost_part : (x y : Option Part) → ChangedPart m l gaps x y → is_lost y ≡ is_lost x
  lost_part x y absent = refl
  lost_part x y (stays (typed f i j u ps) n) = refl
  lost_part x y (around c i j a b d e z xs ys w) = refl
  lost_part x y (around_else c i j n k a b d e s t u v z xs ys w) = refl

  lost_changed : (b : Bool) (xs ys : Parts) → ChangedParts m l gaps b xs ys → list_any is_lost ys ≡ list_any is_lost xs
  lost_changed b xs ys (no_more z) = refl
  lost_changed b xs ys (one_more z x y us vs c d) = ap (λ a. a || list_any is_lost vs) (lost_part x y c) ∙ ap (λ a. is_lost x || a) (lost_changed z us vs d)
  lost_changed b xs ys (in_place n g e us vs d) = unlost g.news (stand n g e).1 vs ∙ lost_changed true us vs d ∙ sym (unlost g.olds (stand n g e).0 us)

  as_list : (xs ys : Parts) → ChangedParts m l gaps false xs ys → ChangedParts m l gaps true xs ys
  as_list xs ys (no_more z) = no_more true
  as_list xs ys (one_more z x y us vs c d) = one_more true x y us vs c (as_list us vs d)

  -- ---- the clause

  module _ (p q : ℕ → Bool) (u v : Frame) (c : AlongAt p q m l u v) (i j : ℕ) (x : Part) (named : Named l x) (a : AllThere (held (Some x))) (rs ss : Parts) (w : ChangedParts m l gaps true rs ss) where
    abbrev y : Part
    y = placed m x

    abbrev old_values : Parts
    old_values = held (Some x)

    abbrev new_values : Parts
    new_values = held (Some y)

    there : AllThere new_values
    there = subst AllThere (sym (held_kept m (Some x))) (there_moved m old_values a)

    abbrev either : Bool → List TypeFault → List TypeFault
    either b fs = if b then [] else fs

    by_lost : (b : Bool) (fs gs : List TypeFault) → (fs ≡ [] → gs ≡ []) → either b fs ≡ [] → either b gs ≡ []
    by_lost true fs gs k e = refl
    by_lost false fs gs k e = k e

    pub none_fails_in_case : of_case u (held_count (Some x)) i j (Some x ∷ rs) ≡ [] → of_case v (held_count (Some y)) (m.token i) (m.token j) (Some y ∷ ss) ≡ []
    none_fails_in_case e =
        let lost : list_any is_lost (all_held ss) ≡ list_any is_lost (all_held rs) = lost_changed true (all_held rs) (all_held ss) (all_held_changed true rs ss w) in
        own_case v (m.token i) (m.token j) y there ss
        ∙ ap (λ b. either b (of_case v (held_count (Some y)) (m.token i) (m.token j) (Some y ∷ []))) lost
        ∙ by_lost (list_any is_lost (all_held rs)) (of_case u (held_count (Some x)) i j (Some x ∷ [])) (of_case v (held_count (Some y)) (m.token i) (m.token j) (Some y ∷ []))
        (none_fails p q m l u v c kind.Case tt i j (Some x ∷ []) (Some y ∷ []) (hollow m l gaps (Some x ∷ []) (Some y ∷ []) (one_changed m l gaps false (Some x) (Some y) (stays x named))))
        (sym (own_case u i j x a rs) ∙ e)

    abbrev taken : Frame → Taking
    taken s = type_or_default (own_type s.tag)

    abbrev given_values : Taking → Parts → Parts
    given_values k xs = all_given (replicate (length xs) k) xs

    new_given : given_values (taken v) new_values ≡ all_given (replicate (length old_values) (taken u)) (parts m old_values)
    new_given =
        ap (λ t. given_values (type_or_default (own_type t)) new_values) (tag_at p q m l u v c)
        ∙ ap (given_values (taken u)) (held_kept m (Some x))
        ∙ ap (λ n. all_given (replicate n (taken u)) (parts m old_values)) (mapped_length (optional m) old_values)

    values_changed : ChangedParts m l gaps true (given_values (taken u) old_values) (given_values (taken v) new_values)
    values_changed =
        subst (λ zs. ChangedParts m l gaps true (given_values (taken u) old_values) zs) (sym new_given)
        (as_list (given_values (taken u) old_values) (all_given (replicate (length old_values) (taken u)) (parts m old_values))
        (all_given_changed m l gaps (replicate (length old_values) (taken u)) (default_types (length old_values) (own_type u.tag)) old_values (parts m old_values)
        (all_stay m l gaps false old_values (held_named l (Some x) (named, tt)))))

    all_changed : ChangedParts m l gaps true (given_values (taken u) old_values ++ all_held rs) (given_values (taken v) new_values ++ all_held ss)
    all_changed = both_changed m l gaps true (given_values (taken u) old_values) (given_values (taken v) new_values) (all_held rs) (all_held ss) values_changed (all_held_changed true rs ss w)

    pub case_built : ChangedPart m l gaps (Some (built_by u kind.Case (form.Case (held_count (Some x))) i j (all_held (Some x ∷ rs)) []))
        (Some (built_by v kind.Case (form.Case (held_count (Some y))) (m.token i) (m.token j) (all_held (Some y ∷ ss)) []))
    case_built =
        let n = held_count (Some x) in
        let k = held_count (Some y) in
        let f = label (form.Case n) sort.Nothing (all_held (Some x ∷ rs)) in
        let g = label (form.Case k) sort.Nothing (all_held (Some y ∷ ss)) in
        let olds = given_values (taken u) old_values ++ all_held rs in
        let news = given_values (taken v) new_values ++ all_held ss in
        subst (λ zs. ChangedPart m l gaps (Some (typed (form.Case n) i j f (row zs))) (Some (built_by v kind.Case (form.Case k) (m.token i) (m.token j) (all_held (Some y ∷ ss)) []))) (sym (given_front (taken u) old_values (all_held rs)))
        (subst (λ zs. ChangedPart m l gaps (Some (typed (form.Case n) i j f (row olds))) (Some (typed (form.Case k) (m.token i) (m.token j) g (row zs)))) (sym (given_front (taken v) new_values (all_held ss)))
        (subst (λ z. ChangedPart m l gaps (Some (typed (form.Case n) i j f (row olds))) (Some (typed z (m.token i) (m.token j) g (row news)))) (sym (form_kept m kind.Case (Some x ∷ [])))
        (around (a_case n) i j f.varies f.calls g.varies g.calls true olds news all_changed)))
