-- Nodes that only hold names or expressions.
use Rattle.std.proofs.Common.{◌≡◌, ℕ, Bool, true, false, cond, [], ◌∷◌, ◌++◌, List, map, Some, None, refl, sym, ap, subst, ◌∙◌, append_assoc, append-nil}
use Rattle.std.specs.Prelude.{◌&&◌, nat_lt}
use Rattle.go_grammar.specs.declared.kind.Category.{Category}
use Rattle.go_grammar.specs.declared.kind.Category.TheVariants as category
use Rattle.go_grammar.specs.declared.kind.Kind.{Kind}
use Rattle.go_grammar.specs.declared.kind.Kind.TheVariants as kind
use Rattle.go_grammar.specs.declared.kind.Level.{Level}
use Rattle.go_grammar.specs.declared.kind.Level.TheVariants as level
use Rattle.go_grammar.specs.declared.kind.Place.{Place}
use Rattle.go_grammar.specs.Categories.{is_expression}
use Rattle.go_grammar.specs.Grammar.{any, rule, is_name, are_names, count}
use Rattle.go_grammar.specs.Rules.{Items, Again, Many, item}
use Rattle.go_grammar.specs.Trees.{Tree, node, Trees, none, more, skip, kind_of, parts}
use Rattle.go_tokens.specs.declared.token.TokenKind.{TokenKind}
use Rattle.go_tokens.specs.declared.token.TokenKind.TheVariants as token
use Rattle.go_typed.specs.Trees.{typed, form_of, parts_of, list_of, row}
use Rattle.go_exprs_rules.specs.Scopes.{Hint, value, several, target, declares}
use Rattle.go_exprs_rules.specs.Settling.{Part}
use Rattle.go_exprs_rules.specs.Tables.{Parts, is_held, held, all_held}
use Rattle.go_exprs_rules.specs.Typing.{typing}
use Rattle.go_stmts_defs.specs.Frames.{Frame, Locals, scope_of}
use Rattle.go_stmts_defs.specs.Laying.{told, alone_or_value, layout, new_name, new_form, with_form}
use Rattle.go_stmts_defs.specs.Reading.{is_list, is_declared_name, list_node, name_node, holding, holdings}
use Rattle.go_stmts_final_types.specs.Shapes.{IsShaped, AreShaped}
use Rattle.go_stmts_final_types.proofs.Places.{asks, typing_value}
use Rattle.go_stmts_final_types.proofs.Rows.{ranked, somes}
use Rattle.go_stmts_final_types.proofs.Statements.{Each}
use Rattle.go_stmts_final_types.proofs.Taken.{Valued, IsBare}

pub list_row : (xs : Parts) → list_of (row xs) ≡ xs
list_row [] = refl
list_row (None ∷ xs) = ap (λ ys. None ∷ ys) (list_row xs)
list_row (Some x ∷ xs) = ap (λ ys. Some x ∷ ys) (list_row xs)

-- a node that holds parts of which P holds
pub record HeldOf (P : Part → Type 0) (x : Part) : Type 0 where
  pub holder : is_held (form_of x) ≡ true
  pub all : List Part
  pub are : list_of (parts_of x) ≡ somes all
  pub each : Each P all

pub held_are : (P : Part → Type 0) (x : Part) (h : HeldOf P x) → held (Some x) ≡ somes h.all
held_are P x h = ap (λ b. cond b (list_of (parts_of x)) (Some x ∷ [])) h.holder ∙ h.are

pub only_held : (P : Part → Type 0) (x : Part) (h : HeldOf P x) → all_held (Some x ∷ []) ≡ somes h.all
only_held P x h = append-nil (held (Some x)) ∙ held_are P x h

pub both_held : (P Q : Part → Type 0) (x y : Part) (h : HeldOf P x) (g : HeldOf Q y) → all_held (Some x ∷ Some y ∷ []) ≡ somes h.all ++ somes g.all
both_held P Q x y h g = ap (λ zs. zs ++ (held (Some y) ++ [])) (held_are P x h) ∙ ap (λ zs. somes h.all ++ zs) (append-nil (held (Some y)) ∙ held_are Q y g)

-- ---- rows of parts of one category

abbrev pub AreAll : Category → Trees → Type 0
AreAll c none = Unit {0}
AreAll c (more p ps) = IsShaped c p × AreAll c ps
AreAll c (skip ps) = ⊥

pub many_all : (ws : List TokenKind) (l : Items) (ps : Trees) → AreShaped (Many ws l) ps → AreAll (item l) ps
many_all ws l none w = tt
many_all ws l (more p ps) w = (w.0, many_all ws l ps w.1)
many_all ws l (skip ps) w = elim w [ ]

-- ---- expressions

pub no_list : (k : Kind) → is_expression k ≡ true → is_list k ≡ false
no_list kind.NameList e = cc
no_list kind.NewNames e = cc
no_list kind.Targets e = cc
no_list kind.ExpressionList e = cc
no_list kind.TypedValues e = cc
no_list kind.Values e = cc
no_list k e = refl

pub no_declared : (k : Kind) → is_expression k ≡ true → is_declared_name k ≡ false
no_declared kind.DeclaredName e = cc
no_declared k e = refl

pub expression_holding : (s : Frame) (h : Hint) (k : Kind) (i j : ℕ) (ps : Trees) → is_expression k ≡ true → holding s h (node k i j ps) ≡ typing (scope_of s) h (node k i j ps)
expression_holding s h k i j ps e =
    let l = list_node s k i j (layout s k i (holdings s k h ps [] ps)) in
    ap (λ b. let x : Part = cond b l (cond (is_declared_name k) (name_node s i j) (typing (scope_of s) h (node k i j ps))) in x) (no_list k e)
    ∙ ap (λ b. let x : Part = cond b (name_node s i j) (typing (scope_of s) h (node k i j ps)) in x) (no_declared k e)

pub holding_value : (s : Frame) (h : Hint) (l : Level) (p : Place) (t : Tree) → IsShaped (category.Expression l p) t → asks h ≡ true → Valued (holding s h t)
holding_value s h l p (node k i j ps) w a = subst Valued (sym (expression_holding s h k i j ps (ranked l k w.0))) (typing_value (scope_of s) h l p (node k i j ps) w a)

values_held : (s : Frame) (k : Kind) (h : Hint) (l : Level) (p : Place) (all : Trees) → ((xs : Parts) (n : Kind) → asks (told k h all xs n) ≡ true) → (xs : Parts) (ps : Trees) → AreAll (category.Expression l p) ps → (vs : List Part) × (holdings s k h all xs ps ≡ xs ++ somes vs) × Each Valued vs
values_held s k h l p all a xs none w = ([], sym (append-nil xs), tt)
values_held s k h l p all a xs (more q ps) w =
    let x = holding s (told k h all xs (kind_of q)) q in
    let r = values_held s k h l p all a (xs ++ Some x ∷ []) ps w.1 in
    (x ∷ r.0, r.1 ∙ append_assoc xs (Some x ∷ []) (somes r.0), (holding_value s (told k h all xs (kind_of q)) l p q w.0 (a xs (kind_of q)), r.2))
values_held s k h l p all a xs (skip ps) w = elim w [ ]

lone_asks : (ps : Trees) (h : Hint) → asks h ≡ true → asks (alone_or_value ps h) ≡ true
lone_asks ps several a = by (nat_lt 1 (count ps))
  where
    by : (b : Bool) → asks (cond b value several) ≡ true
    by true = refl
    by false = refl
lone_asks ps h a = a

pub list_shaped : (p : Place) (ps : Trees) → AreShaped (rule p kind.ExpressionList) ps → AreAll (any p) ps
list_shaped p none w = elim w [ ]
list_shaped p (more q ps) w = (w.0, many_all [] (Again (any p) token.Comma) ps w.1)
list_shaped p (skip ps) w = elim w [ ]

values_of_list : (s : Frame) (h : Hint) (p q : Place) (i j : ℕ) (ps : Trees) → asks h ≡ true → AreShaped (rule q kind.ExpressionList) ps → HeldOf Valued (holding s h (node kind.ExpressionList i j ps))
values_of_list s h p q i j ps a w =
    let r = values_held s kind.ExpressionList h level.Either q ps (λ xs n. lone_asks ps h a) [] ps (list_shaped q ps w) in
    record { holder = refl; all = r.0; are = list_row (holdings s kind.ExpressionList h ps [] ps) ∙ r.1; each = r.2 }

pub list_of_values : (s : Frame) (h : Hint) (p : Place) (t : Tree) → asks h ≡ true → IsShaped (category.ExpressionList p) t → HeldOf Valued (holding s h t)
list_of_values s h p (node kind.ExpressionList i j ps) a w = values_of_list s h p p i j ps a w.1
list_of_values s h p (node k i j ps) a w = let e = w.0 in cc

left_of_values : (s : Frame) (h : Hint) (p : Place) (t : Tree) → asks h ≡ true → IsShaped (category.LeftList p) t → HeldOf Valued (holding s h t)
left_of_values s h p (node kind.ExpressionList i j ps) a w = values_of_list s h p p i j ps a w.1
left_of_values s h p (node k i j ps) a w = let e = w.0 in cc

-- what holds one holder holds what that holds
over_one : (P : Part → Type 0) (s : Frame) (i j : ℕ) (x : Part) (h : HeldOf P x) → HeldOf P (list_node s kind.Targets i j (all_held (Some x ∷ [])))
over_one P s i j x h = record { holder = refl; all = h.all; are = list_row (all_held (Some x ∷ [])) ∙ only_held P x h; each = h.each }

pub targets_held : (s : Frame) (h : Hint) (p : Place) (t : Tree) → IsShaped (category.Targets p) t → HeldOf Valued (holding s h t)
targets_held s h p (node kind.Targets i j none) w = elim w.1 [ ]
targets_held s h p (node kind.Targets i j (skip ps)) w = elim w.1 [ ]
targets_held s h p (node kind.Targets i j (more q none)) w = over_one Valued s i j (holding s target q) (left_of_values s target p q refl w.1.0)
targets_held s h p (node kind.Targets i j (more q (more r ps))) w = elim w.1.1 [ ]
targets_held s h p (node kind.Targets i j (more q (skip ps))) w = elim w.1.1 [ ]
targets_held s h p (node k i j ps) w = let e = w.0 in cc

-- ---- names

bare_name : (s : Frame) (i j : ℕ) → IsBare (holding s declares (node kind.Name i j none))
bare_name s i j = record { alone = refl; nothing = refl }

name_alone : (q : Tree) → is_name (kind_of q) ≡ true → (l : Level) (p : Place) → IsShaped (category.Expression l p) q → (s : Frame) → IsBare (holding s declares q)
name_alone (node kind.Name i j none) e l p w s = bare_name s i j
name_alone (node kind.Name i j (more q ps)) e l p w s = elim w.1 [ ]
name_alone (node kind.Name i j (skip ps)) e l p w s = elim w.1 [ ]
name_alone (node k i j ps) e l p w s = cc

both : (a b : Bool) → (a && b) ≡ true → (a ≡ true) × (b ≡ true)
both true true e = (refl, refl)
both true false e = cc
both false b e = cc

new_bare : (ls : Locals) (x : Part) → IsBare x → IsBare (with_form (new_form ls) x)
new_bare ls (typed f i j l ps) h = record { alone = h.alone; nothing = h.nothing }

names_held : (s : Frame) (l : Level) (p : Place) (all : Trees) (xs : Parts) (ps : Trees) → AreAll (category.Expression l p) ps → are_names ps ≡ true → (vs : List Part) × (holdings s kind.ExpressionList declares all xs ps ≡ xs ++ somes vs) × Each IsBare vs
names_held s l p all xs none w n = ([], sym (append-nil xs), tt)
names_held s l p all xs (more q ps) w n =
    let x = holding s declares q in
    let b = both (is_name (kind_of q)) (are_names ps) n in
    let r = names_held s l p all (xs ++ Some x ∷ []) ps w.1 b.1 in
    (x ∷ r.0, r.1 ∙ append_assoc xs (Some x ∷ []) (somes r.0), (name_alone q b.0 l p w.0 s, r.2))
names_held s l p all xs (skip ps) w n = elim w [ ]

renamed : (ls : Locals) (vs : List Part) → map (new_name ls) (somes vs) ≡ somes (map (with_form (new_form ls)) vs)
renamed ls [] = refl
renamed ls (v ∷ vs) = ap (λ ys. Some (with_form (new_form ls) v) ∷ ys) (renamed ls vs)

all_renamed : (ls : Locals) (vs : List Part) → Each IsBare vs → Each IsBare (map (with_form (new_form ls)) vs)
all_renamed ls [] h = tt
all_renamed ls (v ∷ vs) h = (new_bare ls v h.0, all_renamed ls vs h.1)

new_held : (s : Frame) (i j : ℕ) (x : Part) (h : HeldOf IsBare x) → HeldOf IsBare (list_node s kind.NewNames i j (map (new_name s.locals) (all_held (Some x ∷ []))))
new_held s i j x h = record {
  holder = refl;
  all = map (with_form (new_form s.locals)) h.all;
  are = list_row (map (new_name s.locals) (all_held (Some x ∷ []))) ∙ (ap (map (new_name s.locals)) (only_held IsBare x h) ∙ renamed s.locals h.all);
  each = all_renamed s.locals h.all h.each;
}

listed_names : (s : Frame) (p : Place) (q : Tree) → IsShaped (category.LeftList p) q → are_names (parts q) ≡ true → HeldOf IsBare (holding s declares q)
listed_names s p (node kind.ExpressionList i j ps) w n =
    let r = names_held s level.Either p ps [] ps (list_shaped p ps w.1) n in
    record { holder = refl; all = r.0; are = list_row (holdings s kind.ExpressionList declares ps [] ps) ∙ r.1; each = r.2 }
listed_names s p (node k i j ps) w n = let e = w.0 in cc

pub new_names_held : (s : Frame) (h : Hint) (p : Place) (t : Tree) → IsShaped (category.NewNames p) t → HeldOf IsBare (holding s h t)
new_names_held s h p (node kind.NewNames i j none) w = elim w.1 [ ]
new_names_held s h p (node kind.NewNames i j (skip ps)) w = elim w.1 [ ]
new_names_held s h p (node kind.NewNames i j (more q none)) w = new_held s i j (holding s declares q) (listed_names s p q w.1.0 w.2)
new_names_held s h p (node kind.NewNames i j (more q (more r ps))) w = elim w.1.1 [ ]
new_names_held s h p (node kind.NewNames i j (more q (skip ps))) w = elim w.1.1 [ ]
new_names_held s h p (node k i j ps) w = let e = w.0 in cc
